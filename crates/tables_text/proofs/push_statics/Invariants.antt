use Rattle.std.proofs.Common.{◌≡◌, ◌++◌, take}
use Rattle.std.specs.List.{flat_map}
use Rattle.tables_text.specs.Tables.{static_line}
use Rattle.tables_text.proofs.push_statics.Given as goal

-- the lines so far stand behind what was there
abbrev pub invariant-loop-static_pipe : goal.invariant-loop-static_pipe
invariant-loop-static_pipe l = l.out.items ≡ l.fn.out.items ++ flat_map static_line (take l.static_pipe-index l.statics)
