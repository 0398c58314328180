use Rattle.swp_words.proofs.Words.{IsFront, IsGathered, List, ap, take, ℕ, ◌++◌, ◌∙◌}
use Rattle.swp_words.proofs.Recording.{on_err, cut_text, written_out, none_gathered}
use Rattle.swp_words.proofs.gathering.flush.Goals as goal

pub returns-in_err-write_all-clause-ends : goal.returns-in_err-write_all-clause-ends
returns-in_err-write_all-clause-ends g c =
    let tells = g.K.Sink.tells in
    let was = g.K.Sink.written c.args.sink.now in
    let after = g.K.Sink.written c.write_all.new.sink in
    let front = c.in_err-write_all.ensures.front in
    on_err ((least : ℕ) (lines before : List ℕ) → IsGathered tells c.args.text.now.items least lines before was
    → IsFront tells least lines before after) c.from_residual.result
    (λ least lines before h. cut_text h
    (front.0, λ told. front.1 told ∙ ap (λ l. was ++ take front.0 l) c.as_slice.ensures.value))

pub returns-clause-goes : goal.returns-clause-goes
returns-clause-goes g c least lines before h =
    let was = g.K.Sink.written c.args.sink.now in
    written_out _ h c.clear.ensures
    (λ told. c.in_ok-write_all.ensures.wrote told ∙ ap (λ l. was ++ l) c.as_slice.ensures.value)

pub returns-clause-wrote : goal.returns-clause-wrote
returns-clause-wrote g c least lines before h told =
    let was = g.K.Sink.written c.args.sink.now in
    none_gathered (written_out c.clear.new.self.items h c.clear.ensures
    (λ t. c.in_ok-write_all.ensures.wrote t ∙ ap (λ l. was ++ l) c.as_slice.ensures.value)) c.clear.ensures told
