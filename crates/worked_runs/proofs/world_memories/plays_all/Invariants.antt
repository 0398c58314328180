use Rattle.std.proofs.Common.{◌≡◌, ◌+◌, ◌++◌, List}
use Rattle.lines_told.specs.lines.Plays.{Play, lines_said}
use Rattle.world.specs.Worlds.{IsWorldAt, world_header}
use Rattle.worked_runs.proofs.world_memories.plays_all.Given as goal

-- the world stands behind so many lines more
abbrev pub invariant-loop-text : goal.invariant-loop-text
invariant-loop-text g l =
    (before : List Play) → IsWorldAt l.initial.world (world_header l.initial.world) before
    → (more : List Play) × IsWorldAt l.world (world_header l.world) (before ++ more) × (lines_said (before ++ more) ≡ lines_said before + l.text-index)
