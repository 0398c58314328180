-- A front of either piece is a front of the text.
use Rattle.std.proofs.Common.{◌≡◌, ◌++◌, ◌∙◌, ℕ, IsTrue, sym, ap, append_assoc, take}
use Rattle.swp_words.proofs.Taken.{front_of_first, front_of_both}
use Rattle.swp_tool.proofs.RoundLemmas.{any_err}
use Rattle.swp_tool.proofs.replaying.flush.Goals as goal

pub returns-in_err-write_all-clause-front : goal.returns-in_err-write_all-clause-front
returns-in_err-write_all-clause-front g c =
    let tells = g.K.Sink.tells in
    let start = g.K.Sink.written c.args.sink.now in
    let items = c.args.pieces.now.replay.text.items in
    let whole = sym c.pieces.ensures ∙ c.join.ensures in
    let front = c.in_err-write_all.ensures.front in
    let k = front_of_first front.0 c.pieces.result.0.now c.pieces.result.1.now in
    any_err ((x : ℕ) × (IsTrue tells → g.K.Sink.written c.write_all.new.sink ≡ start ++ take x items)) c.from_residual.result
    (k.0, λ told. front.1 told ∙ ap (λ l. start ++ l) (sym k.1 ∙ ap (λ l. take k.0 l) whole))

pub returns-in_err-write_all-2-clause-front : goal.returns-in_err-write_all-2-clause-front
returns-in_err-write_all-2-clause-front g c =
    let tells = g.K.Sink.tells in
    let start = g.K.Sink.written c.args.sink.now in
    let items = c.args.pieces.now.replay.text.items in
    let first = c.pieces.result.0.now in
    let rest = c.pieces.result.1.now in
    let whole = sym c.pieces.ensures ∙ c.join.ensures in
    let front = c.in_err-write_all-2.ensures.front in
    let k = front_of_both front.0 first rest in
    any_err ((x : ℕ) × (IsTrue tells → g.K.Sink.written c.write_all-2.new.sink ≡ start ++ take x items)) c.from_residual-in_err-write_all-2.result (
      k.0,
      λ told.
          front.1 told
          ∙ (ap (λ w. w ++ take front.0 rest) (c.in_ok-write_all.ensures.wrote told)
          ∙ (append_assoc start first (take front.0 rest) ∙ ap (λ l. start ++ l) (sym k.1 ∙ ap (λ l. take k.0 l) whole))),
    )
