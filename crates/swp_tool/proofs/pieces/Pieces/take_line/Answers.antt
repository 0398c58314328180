-- A line too many begins, or the line is played where it stands, or the bytes are kept and the line has ended, or the replay halts however
-- the bytes go on.
use Rattle.swp_tool.proofs.Words.{Halt, Halts, HaltsAt, HasPlayed, HasRead, IfErr-weaker, List, Pieces, Schedule, [], and_line, ap, append_assoc, arith}
use Rattle.swp_tool.proofs.Words.{common_steps, ended_line, length-append, on_ok_weaker, strip_carriage_return, subst, ℕ, ◌++◌, ◌∙◌, ◌∷◌, ◌≡◌}
use Rattle.swp_tool.proofs.Reading.{halts_at_line, halts_at_whole_line, halts_more, halts_too_many_in, read_line_ended, read_whole_line}
use Rattle.swp_tool.proofs.RoundLemmas.{err_both, err_is}
use Rattle.swp_tool.proofs.pieces.Pieces.take_line.Goals as goal

pub returns-then-self-eq-MAX_LINES-clause-halts : goal.returns-then-self-eq-MAX_LINES-clause-halts
returns-then-self-eq-MAX_LINES-clause-halts c before written h =
    halts_too_many_in c.args.self.now before written (ended_line c.args.bytes.now)
    (omega (arith, length-append c.args.bytes.now (10 ∷ []))) c.requires.reading (omega (arith, c.if-self-eq-MAX_LINES.true)) h

pub returns-in_err-keep-clause-halts : goal.returns-in_err-keep-clause-halts
returns-in_err-keep-clause-halts c =
    let p = c.keep.new.self in
    let why = c.in_err-keep.field-0.0 in
    err_is
    (λ (e : Halt). (before written : List ℕ) → HasRead c.args.self.now before written
    → Halts e p.replay.count (before ++ ended_line c.args.bytes.now) (written ++ p.replay.text.items)) c.from_residual.result why c.from_residual.ensures.1
    (λ before written h.
    let text = written ++ p.replay.text.items in
    let P : List ℕ → Type 0 = λ b. Halts why p.replay.count b text in
    subst P (append_assoc before c.args.bytes.now (10 ∷ []))
    (halts_more why p.replay.count (before ++ c.args.bytes.now) (10 ∷ []) text (c.in_err-keep.ensures.halts before written h)))

pub returns-then-bytes-clause-read : goal.returns-then-bytes-clause-read
returns-then-bytes-clause-read c =
    let p = c.args.self.now in
    let none : p.partial.items ≡ [] = grind (arith, common_steps) in
    on_ok_weaker c.play.result
    (λ played (before written : List ℕ) h.
    read_whole_line c.args.bytes.now h none c.requires.lacks none
    (λ (s : Schedule) (w : List ℕ) (k : HasPlayed p.replay s w).
    (let P : List ℕ → Type 0 = λ l. HasPlayed c.play.new.self (and_line s l) w in subst P c.without_carriage_return.ensures (played s w k))))
    c.play.ensures.played

pub returns-then-bytes-clause-halts : goal.returns-then-bytes-clause-halts
returns-then-bytes-clause-halts c =
    let p = c.args.self.now in
    let none : p.partial.items ≡ [] = grind (arith, common_steps) in
    IfErr-weaker c.play.result _ _
    (λ why is (before written : List ℕ) h.
    halts_at_whole_line why c.args.bytes.now h none c.requires.lacks is.0 is.1
    (λ (s : Schedule) (w : List ℕ) (k : HasPlayed p.replay s w).
    (let P : List ℕ → Type 0 = λ l. HaltsAt why s l in subst P c.without_carriage_return.ensures (is.2 s w k))))
    (err_both _ _ _ c.play.result c.play.ensures.uncounted c.play.ensures.same c.play.ensures.halts)

pub returns-in_err-play-clause-halts : goal.returns-in_err-play-clause-halts
returns-in_err-play-clause-halts c =
    let kept = c.keep.new.self in
    let r = c.play-2.new.self in
    let why = c.in_err-play.field-0.0 in
    let line : c.without_carriage_return-line.result.now ≡ strip_carriage_return kept.partial.items =
    c.without_carriage_return-line.ensures ∙ ap strip_carriage_return c.as_slice.ensures.value in
    err_is
    (λ (e : Halt). (before written : List ℕ) → HasRead c.args.self.now before written
    → Halts e r.count (before ++ ended_line c.args.bytes.now) (written ++ r.text.items))
    c.from_residual-in_err-play.result why c.from_residual-in_err-play.ensures.1
    (λ before written h.
    let P : List ℕ → Type 0 = λ b. Halts why r.count b (written ++ r.text.items) in
    subst P (append_assoc before c.args.bytes.now (10 ∷ []))
    (halts_at_line why (c.in_ok-keep.ensures.read before written h) c.in_err-play.ensures.uncounted c.in_err-play.ensures.same
    (λ (s : Schedule) (w : List ℕ) (k : HasPlayed kept.replay s w).
    (let Q : List ℕ → Type 0 = λ l. HaltsAt why s l in subst Q line (c.in_err-play.ensures.halts s w k)))))

pub returns-clause-read : goal.returns-clause-read
returns-clause-read c before written h =
    let kept = c.keep.new.self in
    let r = c.play-2.new.self in
    let line : c.without_carriage_return-line.result.now ≡ strip_carriage_return kept.partial.items =
    c.without_carriage_return-line.ensures ∙ ap strip_carriage_return c.as_slice.ensures.value in
    let now : Pieces = record { partial = c.clear.new.self; replay = r } in
    let P : List ℕ → Type 0 = λ b. HasRead now b written in
    subst P (append_assoc before c.args.bytes.now (10 ∷ []))
    (read_line_ended (c.in_ok-keep.ensures.read before written h) c.clear.ensures.items
    (λ (s : Schedule) (w : List ℕ) (k : HasPlayed kept.replay s w).
    (let Q : List ℕ → Type 0 = λ l. HasPlayed r (and_line s l) w in subst Q line (c.in_ok-play.ensures.played s w k))))
