use Rattle.std.proofs.Common.{◌≡◌, ◌++◌}
use Rattle.drawn_schedule.specs.Schedule.{lines_text}
use Rattle.drawn_schedule.proofs.append_lines.Given as goal

-- the lines so far stand behind what was there
abbrev pub invariant-loop-line : goal.invariant-loop-line
invariant-loop-line l = l.text.items ≡ l.initial.text.items ++ lines_text l.yielded
