-- What was gathered at the end stands behind what was written.
use Rattle.swp_tool.proofs.Words.{IsDoneText, IsSomeTranscript, IsTrue, List, Replayed, Status, [], ap, append-nil, arith, behind, refl, status_of, subst, sym}
use Rattle.swp_tool.proofs.Words.{take, ℕ, ◌++◌, ◌∙◌, ◌≡◌}
use Rattle.swp_tool.proofs.Ending.{of_err, of_ok, cut_short, finished_front, halted_at_end}
use Rattle.swp_tool.proofs.replaying.PiecesJob.close.Goals as goal

pub returns-then-is_err-clause-ends : goal.returns-then-is_err-clause-ends
returns-then-is_err-clause-ends g c given o input before under =
    let tells = g.K.Sink.tells in
    let now = c.finish-finished.new.self.replay.text.items in
    let front = of_err ((n : ℕ) × (IsTrue tells → g.K.Sink.written c.flush.new.sink ≡ g.K.Sink.written c.args.sink.now
    ++ take n now)) c.flush.result c.is_err.result c.is_err.ensures.value c.if-is_err.true c.flush.ensures.front in
    let input_is : input ≡ under.bytes = under.input_is ∙ append-nil under.bytes in
    let P : List ℕ → Type 0 = λ i. IsSomeTranscript i (under.text ++ now) in
    let some = subst P (sym input_is)
    (finished_front c.args.self.now c.finish-finished.new.self c.finish-finished.result under.bytes under.text c.finish-finished.ensures.done
    c.finish-finished.ensures.halts under.read) in
    cut_short given [] [] now under (omega arith) (omega arith) some
    front

pub returns-in-Ok-clause-ends : goal.returns-in-Ok-clause-ends
returns-in-Ok-clause-ends g c given o input before under =
    let tells = g.K.Sink.tells in
    let now = c.finish-finished.new.self.replay.text.items in
    let after = g.K.Sink.written c.flush.new.sink in
    let wrote : IsTrue tells → after ≡ g.K.Sink.written c.args.sink.now ++ now =
    λ told. of_ok
    (after ≡ g.K.Sink.written c.args.sink.now ++ now) c.flush.result c.is_err.result c.is_err.ensures.value c.if-is_err.false
    (c.flush.ensures.wrote told) in
    let input_is : input ≡ under.bytes = under.input_is ∙ append-nil under.bytes in
    let P : List ℕ → Type 0 = λ i. IsDoneText i (under.text ++ now) in (
      refl,
      (
        under.text ++ now,
        subst P (sym input_is) (c.in-Ok.ensures.done under.bytes under.text under.read),
        behind tells before under.text now (g.K.Sink.written c.args.sink.now) after under.after_is wrote,
      ),
    )

pub returns-in-Err-clause-ends : goal.returns-in-Err-clause-ends
returns-in-Err-clause-ends g c given o input before under =
    let tells = g.K.Sink.tells in
    let now = c.finish-finished.new.self.replay.text.items in
    let after = g.K.Sink.written c.flush.new.sink in
    let wrote : IsTrue tells → after ≡ g.K.Sink.written c.args.sink.now ++ now =
    λ told. of_ok
    (after ≡ g.K.Sink.written c.args.sink.now ++ now) c.flush.result c.is_err.result c.is_err.ensures.value c.if-is_err.false
    (c.flush.ensures.wrote told) in
    let input_is : input ≡ under.bytes = under.input_is ∙ append-nil under.bytes in
    let P : List ℕ → Type 0 = λ i. Replayed tells given c.halted.result i [] before after in
    let Q : Status → Type 0 = λ s. Replayed tells given s under.bytes [] before after in
    subst P (sym input_is) (subst Q (sym (c.halted.ensures.status ∙ ap (λ n. status_of c.in-Err.why n) c.flush.ensures.lines))
    (halted_at_end tells given c.in-Err.why c.finish-finished.new.self.replay.count under.bytes (under.text ++ now) before after
    (c.in-Err.ensures.halts under.bytes under.text under.read)
    (behind tells before under.text now (g.K.Sink.written c.args.sink.now) after under.after_is wrote)))
