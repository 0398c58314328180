-- The line that no LF has ended was played, or the replay halts at it.
use Rattle.swp_tool.proofs.Words.{HaltsAt, HasPlayed, IfErr-weaker, List, Schedule, [], and_line, length, on_ok_weaker, subst, sym, ℕ, ◌<◌, ◌∙◌, ◌≡◌}
use Rattle.swp_tool.proofs.Texts.{tests_empty, tests_some}
use Rattle.swp_tool.proofs.Reading.{played_all, played_rest, halts_at_rest}
use Rattle.swp_tool.proofs.RoundLemmas.{err_both}
use Rattle.swp_tool.proofs.pieces.Pieces.play_rest.Goals as goal

pub returns-then-is_empty-clause-played : goal.returns-then-is_empty-clause-played
returns-then-is_empty-clause-played c bytes written h =
    let none : c.args.self.now.partial.items ≡ [] = sym c.as_slice-rest.ensures.value
    ∙ tests_empty c.as_slice-rest.result.now c.is_empty.result c.is_empty.ensures c.if-is_empty.true in
    played_all c.args.self.now bytes written h none

pub returns-clause-played : goal.returns-clause-played
returns-clause-played c =
    let p = c.args.self.now in
    let P : List ℕ → Type 0 = λ l. 0 < length l in
    let some : 0 < length p.partial.items =
    subst P c.as_slice-rest.ensures.value (tests_some c.as_slice-rest.result.now c.is_empty.result c.is_empty.ensures c.if-is_empty.false) in
    on_ok_weaker c.play.result
    (λ played (bytes written : List ℕ) h.
    played_rest p c.play.new.self bytes written h some
    (λ (s : Schedule) (w : List ℕ) (k : HasPlayed p.replay s w).
    (let P : List ℕ → Type 0 = λ l. HasPlayed c.play.new.self (and_line s l) w in subst P c.as_slice-rest.ensures.value (played s w k))))
    c.play.ensures.played

pub returns-clause-halts : goal.returns-clause-halts
returns-clause-halts c =
    let p = c.args.self.now in
    let P : List ℕ → Type 0 = λ l. 0 < length l in
    let some : 0 < length p.partial.items =
    subst P c.as_slice-rest.ensures.value (tests_some c.as_slice-rest.result.now c.is_empty.result c.is_empty.ensures c.if-is_empty.false) in
    IfErr-weaker c.play.result _ _
    (λ why is (bytes written : List ℕ) h.
    halts_at_rest why h some is.0 is.1
    (λ (s : Schedule) (w : List ℕ) (k : HasPlayed p.replay s w).
    (let P : List ℕ → Type 0 = λ l. HaltsAt why s l in subst P c.as_slice-rest.ensures.value (is.2 s w k))))
    (err_both _ _ _ c.play.result c.play.ensures.uncounted c.play.ensures.same c.play.ensures.halts)
