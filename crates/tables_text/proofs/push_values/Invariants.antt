use Rattle.std.proofs.Common.{◌≡◌, ◌++◌, take}
use Rattle.std.specs.List.{flat_map}
use Rattle.tables_text.specs.Tables.{value_line}
use Rattle.tables_text.proofs.push_values.Given as goal

-- the lines so far stand behind what was there
abbrev pub invariant-loop-value : goal.invariant-loop-value
invariant-loop-value l = l.out.items ≡ l.fn.out.items ++ flat_map value_line (take l.value-index l.values)
