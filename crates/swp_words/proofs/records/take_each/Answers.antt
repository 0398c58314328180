use Rattle.std.proofs.Common.{◌≡◌, ℕ, ◌+◌, ◌<◌, List, [], ◌∷◌, ◌++◌, length, take, drop, get_or, refl, sym, ap, ◌∙◌, subst, arith, append_assoc}
use Rattle.swp_words.specs.Records.{IsFrontOfSome}
use Rattle.swp_words.proofs.Taken.{whole_piece}
use Rattle.swp_words.proofs.records.take_each.Goals as goal

-- what was read before a byte, the byte and what follows it
around : (bytes piece rest : List ℕ) (i : ℕ) → i < length piece
    → (bytes ++ piece) ++ rest ≡ (bytes ++ take i piece) ++ get_or piece i 0 ∷ (drop (i + 1) piece ++ rest)
around bytes piece rest i within =
    let front = bytes ++ take i piece in
    let byte = get_or piece i 0 in
    sym (sym (append_assoc front (byte ∷ []) (drop (i + 1) piece ++ rest)) ∙ (sym (append_assoc (front ++ byte ∷ []) (drop (i + 1) piece) rest)
    ∙ ap (λ l. l ++ rest) (whole_piece bytes piece i within)))

pub returns-in-Ok-clause-ends : goal.returns-in-Ok-clause-ends
returns-in-Ok-clause-ends g c earlier bytes rest before h =
    let i = c.loop-byte.byte-index in
    let piece = c.args.piece.now in
    let front = bytes ++ take i piece in
    let read = c.loop-byte.invariant.read earlier bytes before h in
    let count = c.bytes_read.ensures.counted g.K.Sink.tells earlier front before (g.K.Sink.written c.loop-byte.sink) read in (
      refl,
      record {
        bytes = front;
        byte = get_or piece i 0;
        rest = drop (i + 1) piece ++ rest;
        read_is = around bytes piece rest i (omega (arith, c.loop-byte-test.true));
        most = omega (arith, count, c.if-bytes_read-eq-MAX_BYTES.true);
        after_is = c.in-Ok.ensures.wrote earlier front before read;
      },
    )

pub returns-in-Err-clause-ends : goal.returns-in-Err-clause-ends
returns-in-Err-clause-ends g c earlier bytes rest before h =
    let i = c.loop-byte.byte-index in
    let piece = c.args.piece.now in
    record {
      bytes = bytes ++ take i piece;
      rest = get_or piece i 0 ∷ (drop (i + 1) piece ++ rest);
      input_is = around bytes piece rest i (omega (arith, c.loop-byte-test.true));
      front = c.in-Err.ensures.ends earlier (bytes ++ take i piece) before (c.loop-byte.invariant.read earlier bytes before h);
    }

pub returns-in-Err-take_byte-clause-ends : goal.returns-in-Err-take_byte-clause-ends
returns-in-Err-take_byte-clause-ends g c earlier bytes rest before h =
    let i = c.loop-byte.byte-index in
    let piece = c.args.piece.now in
    subst (λ l. IsFrontOfSome g.R.RecordReader.lines g.K.Sink.tells earlier l before (g.K.Sink.written c.take_byte.new.sink))
    (sym (around bytes piece rest i (omega (arith, c.loop-byte-test.true))))
    (c.in-Err-take_byte.ensures.ends earlier (bytes ++ take i piece) (drop (i + 1) piece ++ rest) before
    (c.loop-byte.invariant.read earlier bytes before h))
