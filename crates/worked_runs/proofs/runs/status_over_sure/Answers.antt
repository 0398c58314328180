-- What `run` says of any sink, for a run in which no count of faults can rise.
use Rattle.std.proofs.Common.{◌≡◌, ◌∷◌, [], ◌∙◌, ◌≤◌, map, length, refl, ap, sym, subst, arith}
use Rattle.std.specs.Prelude.{string_bytes, None, Some, ◌⊎◌}
use Rattle.swp_base.specs.Outside.{Rose}
use Rattle.swp_base.specs.declared.in_memory.SureSource.{SureSource}
use Rattle.swp_words.specs.declared.status.Status.TheVariants as status
use Rattle.swp_tool.specs.Schedules.{schedule_in}
use Rattle.swp_words.specs.Records.{most_bytes}
use Rattle.swp_tool.specs.Runs.{status_at}
use Rattle.worked_runs.proofs.runs.status_over_sure.Goals as goal

-- a count that stands at 0 didn't rise
stands : Rose 0 0 → ⊥
stands rose = omega (arith, rose)

pub returns-clause-done : goal.returns-clause-done
returns-clause-done c is runs =
    let words = ap (map string_bytes) c.as_slice.ensures.value ∙ (c.in_ok-words.ensures ∙ ap (λ w. w ∷ []) is) in
    let bytes = ap (λ (s : SureSource). s.left) c.new-source.ensures ∙ c.in_ok-from_slice.ensures.items in
    (c.run-status.ensures.replay words).complete refl (subst (λ l. (schedule_in l).stop ≡ None) (sym bytes) runs) stands stands

pub returns-clause-refused : goal.returns-clause-refused
returns-clause-refused c is why stops =
    let words = ap (map string_bytes) c.as_slice.ensures.value ∙ (c.in_ok-words.ensures ∙ ap (λ w. w ∷ []) is) in
    let bytes = ap (λ (s : SureSource). s.left) c.new-source.ensures ∙ c.in_ok-from_slice.ensures.items in
    subst (λ l. (c.run-status.result.status ≡ status_at why (schedule_in l).count) ⊎ (c.run-status.result.status ≡ status.NoMemory)) bytes
    ((c.run-status.ensures.replay words).refused refl why (subst (λ l. (schedule_in l).stop ≡ Some why) (sym bytes) stops) stands stands)

pub returns-clause-decoded : goal.returns-clause-decoded
returns-clause-decoded c is few =
    let words = ap (map string_bytes) c.as_slice.ensures.value ∙ (c.in_ok-words.ensures ∙ ap (λ w. w ∷ []) is) in
    let bytes = ap (λ (s : SureSource). s.left) c.new-source.ensures ∙ c.in_ok-from_slice.ensures.items in
    (c.run-status.ensures.decode words).complete refl (subst (λ l. length l ≤ most_bytes) (sym bytes) few) stands stands
