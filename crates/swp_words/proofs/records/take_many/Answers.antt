use Rattle.swp_words.proofs.Words.{IsFrontOfSome, List, ap, append_assoc, arith, drop, length, length-drop, subst, sym, take, take-add, take-take, ℕ, ◌++◌, ◌+◌}
use Rattle.swp_words.proofs.Words.{◌∙◌, ◌≡◌, ◌≤◌}
use Rattle.swp_words.proofs.Taken.{whole_after, left_of}
use Rattle.swp_words.proofs.Recording.{on_err}
use Rattle.swp_words.proofs.records.take_many.Goals as goal

-- the first of the bytes behind a place
further : (piece first : List ℕ) (at n : ℕ) → first ≡ take 64 (drop at piece) → n ≤ 64 → take at piece ++ take n first ≡ take (at + n) piece
further piece first at n is h = ap (λ l. take at piece ++ l) (ap (take n) is ∙ take-take n 64 (drop at piece) h) ∙ sym (take-add at n piece)

-- what was read before these bytes, the bytes and what follows them
around : (bytes piece first rest : List ℕ) (at : ℕ) → first ≡ take 64 (drop at piece)
    → ((bytes ++ take at piece) ++ first) ++ (drop 64 (drop at piece) ++ rest) ≡ (bytes ++ piece) ++ rest
around bytes piece first rest at is =
    let before = bytes ++ take at piece in
    ap (λ l. (before ++ l) ++ (drop 64 (drop at piece) ++ rest)) is ∙ sym (whole_after before (drop at piece) rest 64)
    ∙ append_assoc before (drop at piece) rest ∙ sym (whole_after bytes piece rest at)

pub piece-preserved : goal.piece-preserved
piece-preserved g c =
    let at = c.piece.read in
    let piece = c.args.piece.now in
    let old = c.piece.invariant in
    let n = c.in_ok-further.further in
    let first = c.in-Some.ensures.cases.0 ∙ ap (take 64) (left_of piece at old.within) in
    let count = c.bytes_read.ensures.value in
    record {
      within = omega (arith, c.in-Some.ensures.cases.2, ap length (left_of piece at old.within), length-drop at piece, c.in_ok-further.ensures.within);
      few = omega (arith, c.in_ok-further.ensures.read, c.in_ok-further.ensures.within, c.if-bytes_read.false, count);
      sound = c.in_ok-further.ensures.sound;
      counted = omega (arith, c.in_ok-further.ensures.read, old.counted);
      writes = omega (arith, c.take_first.ensures.count, old.writes);
      so_far = λ earlier bytes before h.
          let next = c.in_ok-further.ensures.goes earlier (bytes ++ take at piece) before (old.so_far earlier bytes before h) in
          let is = append_assoc bytes (take at piece) (take n c.in-Some.first.now)
          ∙ ap (λ l. bytes ++ l) (further piece c.in-Some.first.now at n first c.in_ok-further.ensures.within) in
          subst (λ l. g.R.RecordReader.is_reading g.K.Sink.tells c.take_first.new.self earlier l before (g.K.Sink.written c.take_first.new.sink)) is next;
    }

pub returns-in_err-further-clause-ends : goal.returns-in_err-further-clause-ends
returns-in_err-further-clause-ends g c =
    on_err _ c.from_residual.result (λ earlier bytes rest before h.
    let at = c.piece.read in
    let piece = c.args.piece.now in
    let first = c.in-Some.ensures.cases.0 ∙ ap (take 64) (left_of piece at c.piece.invariant.within) in
    subst (λ l. IsFrontOfSome g.R.RecordReader.lines g.K.Sink.tells earlier l before (g.K.Sink.written c.take_first.new.sink))
    (around bytes piece c.in-Some.first.now rest at first)
    (c.in_err-further.ensures.ends earlier (bytes ++ take at piece) (drop 64 (drop at piece) ++ rest) before
    (c.piece.invariant.so_far earlier bytes before h)))
