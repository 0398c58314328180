use Rattle.std.proofs.Common.{◌≡◌, ◌-◌, ◌≤◌, ◌++◌}
use Rattle.drawn_schedule.specs.Schedule.{so_many_steps}
use Rattle.drawn_schedule.proofs.lines.push_steps.Given as goal

-- the steps so far stand behind what was there
abbrev pub invariant-steps : goal.invariant-steps
invariant-steps l = (l.lines.items ≡ l.fn.lines.items ++ (so_many_steps l.n l.done).lines) × (l.x ≡ (so_many_steps l.n l.done).x) × (l.done ≤ 2000)

abbrev pub decreases-steps : goal.decreases-steps
decreases-steps l = 2000 - l.done
