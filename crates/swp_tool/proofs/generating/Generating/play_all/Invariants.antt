use Rattle.swp_tool.proofs.Words.{HasCounted, take}
use Rattle.swp_tool.proofs.generating.Generating.play_all.Given as goal

-- the lines so far were run
abbrev pub invariant-loop-line : goal.invariant-loop-line
invariant-loop-line l = HasCounted l.self (take l.line-index l.lines)
