use Rattle.std.proofs.Common.{◌≡◌, ◌++◌, take}
use Rattle.std.specs.List.{flat_map}
use Rattle.tables_text.specs.Tables.{pipe_line}
use Rattle.tables_text.proofs.push_pipes.Given as goal

-- the lines so far stand behind what was there
abbrev pub invariant-loop-row : goal.invariant-loop-row
invariant-loop-row l = l.out.items ≡ l.fn.out.items ++ flat_map pipe_line (take l.row-index l.rows)
