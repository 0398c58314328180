use Rattle.std.proofs.Common.{◌≡◌, ◌++◌, take}
use Rattle.std.specs.List.{flat_map}
use Rattle.tables_text.specs.Tables.{sync_line}
use Rattle.tables_text.proofs.push_syncs.Given as goal

-- the lines so far stand behind what was there
abbrev pub invariant-loop-sync : goal.invariant-loop-sync
invariant-loop-sync l = l.out.items ≡ l.fn.out.items ++ flat_map sync_line (take l.sync-index l.syncs)
