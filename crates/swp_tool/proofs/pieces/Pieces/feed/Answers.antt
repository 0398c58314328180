-- Where a line halts the replay, it halts however the piece goes on.
use Rattle.swp_tool.proofs.Words.{Halt, Halts, HasRead, List, [], ap, append_assoc, arith, ended_line, length, length-append, subst, sym, ℕ, ◌++◌, ◌∙◌, ◌∷◌}
use Rattle.swp_tool.proofs.Words.{◌≡◌}
use Rattle.swp_tool.proofs.Cutting.{whole_line}
use Rattle.swp_tool.proofs.Reading.{halts_more}
use Rattle.swp_tool.proofs.RoundLemmas.{err_is}
use Rattle.swp_tool.proofs.pieces.Pieces.feed.Goals as goal

pub lines-preserved : goal.lines-preserved
lines-preserved c =
    let front = c.lines.invariant.0 in
    let line = ended_line c.in-Some.line.now in
    let read = c.lines.invariant.3 in (
      front ++ line,
      append_assoc front line c.in-Some.more.now ∙ ap (λ l. front ++ l) (sym c.in-Some.ensures.some) ∙ c.lines.invariant.1,
      c.in_ok-take_line.ensures.reading,
      λ bytes written h.
          (let P : List ℕ → Type 0 = λ b. HasRead c.take_line.new.self b written in
          subst P (append_assoc bytes front line) (c.in_ok-take_line.ensures.read (bytes ++ front) written (read bytes written h))),
      omega (arith, length-append front line, c.in_ok-take_line.ensures.progress, c.lines.invariant.4),
    )

-- it stops behind a line
pub returns-then-len-gt-MOST_GATHERED-clause-read : goal.returns-then-len-gt-MOST_GATHERED-clause-read
returns-then-len-gt-MOST_GATHERED-clause-read c =
    let front = c.lines.invariant.0 in
    let line = ended_line c.in-Some.line.now in
    let more = c.in-Some.more.now in
    let read = c.lines.invariant.3 in
    let P : List ℕ → List ℕ → Type 0 = λ b written. HasRead c.take_line.new.self b written in
    let piece_is : (front ++ line) ++ more ≡ c.args.piece.now =
    append_assoc front line more ∙ ap (λ l. front ++ l) (sym c.in-Some.ensures.some) ∙ c.lines.invariant.1 in
    let sizes = length-append front line in
    let ended = length-append c.in-Some.line.now (10 ∷ []) in
    let all = length-append (front ++ line) more in
    let whole = ap length piece_is in
    record {
      front = front ++ line;
      piece_is = piece_is;
      read = λ bytes written h. subst (λ b. P b written) (append_assoc bytes front line)
          (c.in_ok-take_line.ensures.read (bytes ++ front) written (read bytes written h));
      fewer = omega (arith, sizes, c.in_ok-take_line.ensures.progress, c.lines.invariant.4);
      some = λ any. omega (arith, sizes, ended, all, whole);
    }

pub returns-in_err-take_line-clause-halts : goal.returns-in_err-take_line-clause-halts
returns-in_err-take_line-clause-halts c =
    let front = c.lines.invariant.0 in
    let line = ended_line c.in-Some.line.now in
    let more = c.in-Some.more.now in
    let p = c.take_line.new.self in
    let why = c.in_err-take_line.field-0.0 in
    err_is
    (λ (e : Halt). (bytes written : List ℕ) → HasRead c.args.self.now bytes written
    → Halts e p.replay.count (bytes ++ c.args.piece.now) (written ++ p.replay.text.items)) c.from_residual.result why c.from_residual.ensures.1
    (λ bytes written h.
    let text = written ++ p.replay.text.items in
    let P : List ℕ → Type 0 = λ b. Halts why p.replay.count b text in
    subst P (whole_line bytes front line more c.lines.left.now c.args.piece.now c.lines.invariant.1 c.in-Some.ensures.some)
    (halts_more why p.replay.count ((bytes ++ front) ++ line) more text
    (c.in_err-take_line.ensures.halts (bytes ++ front) written (c.lines.invariant.3 bytes written h))))

pub returns-in_err-keep-clause-halts : goal.returns-in_err-keep-clause-halts
returns-in_err-keep-clause-halts c =
    let front = c.lines.invariant.0 in
    let p = c.keep.new.self in
    let why = c.in_err-keep.field-0.0 in
    err_is
    (λ (e : Halt). (bytes written : List ℕ) → HasRead c.args.self.now bytes written
    → Halts e p.replay.count (bytes ++ c.args.piece.now) (written ++ p.replay.text.items)) c.from_residual-in_err-keep.result why
    c.from_residual-in_err-keep.ensures.1
    (λ bytes written h.
    let P : List ℕ → Type 0 = λ b. Halts why p.replay.count b (written ++ p.replay.text.items) in
    subst P (append_assoc bytes front c.lines.left.now ∙ ap (λ l. bytes ++ l) c.lines.invariant.1)
    (c.in_err-keep.ensures.halts (bytes ++ front) written (c.lines.invariant.3 bytes written h)))
