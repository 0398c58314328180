use Rattle.swp_tool.proofs.Words.{AreCountsOf, List, Told, take, ◌++◌}
use Rattle.swp_tool.proofs.counts.Counts.count_all.Given as goal

-- the entries so far stand behind those before
abbrev pub invariant-loop-entry : goal.invariant-loop-entry
invariant-loop-entry l = (before : List Told) → AreCountsOf l.fn.self before → AreCountsOf l.self (before ++ take l.entry-index l.entries)
