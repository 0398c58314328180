-- The bytes are kept, or the replay halts however they go on.
use Rattle.swp_tool.proofs.Words.{IsFrontTranscript, List, append_assoc, arith, map, strip_carriage_return, subst, sym, ℕ, ◌++◌}
use Rattle.swp_tool.proofs.Texts.{tests_some}
use Rattle.swp_tool.proofs.Reading.{halts_too_many_in, halts_too_long, front_so_far, played_transcript}
use Rattle.swp_tool.proofs.pieces.Pieces.keep.Goals as goal

-- a line too many begins
pub returns-then-self-eq-MAX_LINES-clause-halts : goal.returns-then-self-eq-MAX_LINES-clause-halts
returns-then-self-eq-MAX_LINES-clause-halts c before written h =
    halts_too_many_in c.args.self.now before written c.args.bytes.now
    (tests_some c.args.bytes.now c.is_empty.result c.is_empty.ensures c.if-is_empty.false) c.requires.reading
    (omega (arith, c.if-self-eq-MAX_LINES.true)) h

-- the line is too long, however it goes on
pub returns-then-bytes-len-clause-halts : goal.returns-then-bytes-len-clause-halts
returns-then-bytes-len-clause-halts c before written h =
    halts_too_long c.args.self.now before written c.args.bytes.now (omega (arith, c.requires.reading.few.count, c.if-self-eq-MAX_LINES.false))
    (omega (arith, c.requires.reading.short, c.if-bytes-len.true, c.len.ensures)) c.requires.lacks h

-- the lines before stay played
pub returns-in-Err-clause-halts : goal.returns-in-Err-clause-halts
returns-in-Err-clause-halts c before written h rest =
    let p = c.args.self.now in
    let text = written ++ p.replay.text.items in
    let P : List ℕ → Type 0 = λ b. IsFrontTranscript b text in
    subst P (sym (append_assoc before c.args.bytes.now rest))
    (front_so_far p before written (c.args.bytes.now ++ rest) text h (played_transcript p.replay (map strip_carriage_return h.whole) written h.played))
