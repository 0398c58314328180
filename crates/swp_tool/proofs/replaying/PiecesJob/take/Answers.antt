-- What was gathered of the first bytes of a piece stands behind what was written.
use Rattle.std.proofs.Common.{rules}
use Rattle.swp_tool.proofs.Words.{HasRead, IsFrontTranscript, IsTrue, List, Replayed, Status, [], ap, append_assoc, arith, behind, inl, length, length-append}
use Rattle.swp_tool.proofs.Words.{status_of, subst, sym, take, ℕ, ◌++◌, ◌∙◌, ◌≡◌}
use Rattle.swp_tool.proofs.Ending.{of_err, of_ok, cut_short, left_behind, fed_front, halted_replayed}
use Rattle.swp_tool.proofs.replaying.PiecesJob.take.Goals as goal

pub parts-preserved : goal.parts-preserved
parts-preserved g c =
    let tells = g.K.Sink.tells in
    let items = c.feed-fed.new.self.replay.text.items in
    let was = g.K.Sink.written c.parts.sink in
    let after = g.K.Sink.written c.flush.new.sink in
    let wrote : IsTrue tells → after ≡ was ++ items =
    λ told. of_ok (after ≡ was ++ items) c.flush.result c.is_err.result c.is_err.ensures.value c.if-is_err.false (c.flush.ensures.wrote told) in
    let same = of_ok ((b t : List ℕ) → HasRead c.feed-fed.new.self b t
    → HasRead c.flush.new.pieces b (t ++ items)) c.flush.result c.is_err.result c.is_err.ensures.value c.if-is_err.false c.flush.ensures.same in
    let fed = c.in-Ok.ensures.read in
    let sizes = length-append fed.front c.in-Ok.more.now in
    let whole = ap length fed.piece_is in
    record {
      goes = search rules;
      within = omega (arith, sizes, whole, c.parts.invariant.within);
      fewer = omega (arith, sizes, whole, fed.fewer, c.flush.ensures.left, c.parts.invariant.fewer);
      writes = omega (arith, c.flush.ensures.count, c.parts.invariant.writes);
      under = λ input rest before u.
          let under = c.parts.invariant.under input rest before u in
          record {
            bytes = under.bytes ++ fed.front;
            text = under.text ++ items;
            input_is = under.input_is
                ∙ (sym (append_assoc under.bytes c.parts.left.now rest)
                ∙ sym (left_behind under.bytes fed.front c.in-Ok.more.now c.parts.left.now rest fed.piece_is));
            after_is = behind tells before under.text items was after under.after_is wrote;
            read = same (under.bytes ++ fed.front) under.text (fed.read under.bytes under.text under.read);
            gathered =
                of_ok (c.flush.new.pieces.replay.text.items
                ≡ []) c.flush.result c.is_err.result c.is_err.ensures.value c.if-is_err.false c.flush.ensures.gathered;
          };
    }

pub returns-then-is_err-clause-ends : goal.returns-then-is_err-clause-ends
returns-then-is_err-clause-ends g c given o input rest before at_once u =
    let tells = g.K.Sink.tells in
    let under = c.parts.invariant.under input rest before u in
    let items = c.feed-fed.new.self.replay.text.items in
    let piece = c.parts.left.now in
    let was = g.K.Sink.written c.parts.sink in
    let after = g.K.Sink.written c.flush.new.sink in
    let front = of_err
    ((n : ℕ) × (IsTrue tells → after ≡ was ++ take n items)) c.flush.result c.is_err.result c.is_err.ensures.value c.if-is_err.true c.flush.ensures.front in
    let input_is : input ≡ (under.bytes ++ piece) ++ rest = under.input_is ∙ sym (append_assoc under.bytes piece rest) in
    let P : List ℕ → Type 0 = λ i. IsFrontTranscript i (under.text ++ items) in
    let some = subst P (sym input_is)
    (fed_front c.parts.self c.feed-fed.new.self c.feed-fed.result (λ l. l.now) piece rest under.bytes under.text c.feed-fed.ensures.read
    c.feed-fed.ensures.halts under.read) in
    cut_short given piece rest items under (omega (arith, c.parts.invariant.within)) (omega (arith, at_once, c.parts.invariant.within)) (inl some) front

pub returns-in-Err-clause-ends : goal.returns-in-Err-clause-ends
returns-in-Err-clause-ends g c given o input rest before at_once u =
    let tells = g.K.Sink.tells in
    let under = c.parts.invariant.under input rest before u in
    let q = c.feed-fed.new.self in
    let items = q.replay.text.items in
    let piece = c.parts.left.now in
    let was = g.K.Sink.written c.parts.sink in
    let after = g.K.Sink.written c.flush.new.sink in
    let wrote : IsTrue tells → after ≡ was ++ items =
    λ told. of_ok (after ≡ was ++ items) c.flush.result c.is_err.result c.is_err.ensures.value c.if-is_err.false (c.flush.ensures.wrote told) in
    let input_is : input ≡ (under.bytes ++ piece) ++ rest = under.input_is ∙ sym (append_assoc under.bytes piece rest) in
    let P : List ℕ → Type 0 = λ i. Replayed tells given c.halted.result i rest before after in
    let Q : Status → Type 0 = λ s. Replayed tells given s ((under.bytes ++ piece) ++ rest) rest before after in
    subst P (sym input_is) (subst Q (sym (c.halted.ensures.status ∙ ap (λ n. status_of c.in-Err.why n) c.flush.ensures.lines))
    (halted_replayed tells given c.in-Err.why q.replay.count (under.bytes ++ piece) (under.text ++ items) rest before after
    (c.in-Err.ensures.halts under.bytes under.text under.read)
    (behind tells before under.text items was after under.after_is wrote)))
