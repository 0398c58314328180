use Rattle.std.proofs.Common.{[], ◌++◌, arith}
use Rattle.worked_runs.proofs.world_memories.left.Goals as goal

pub plays_all-requires-2 : goal.plays_all-requires-2
plays_all-requires-2 g c =
    let first = c.plays_all.ensures [] c.opened-world.ensures in
    let said = first.2 in
    let few = c.requires in
    (first.0, first.1, omega (arith, said, few))

pub into_memory-requires-clause-state : goal.into_memory-requires-clause-state
into_memory-requires-clause-state g c =
    let first = c.plays_all.ensures [] c.opened-world.ensures in
    let last = c.plays_all-2.ensures first.0 first.1 in
    (first.0 ++ last.0, last.1)
