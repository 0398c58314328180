use Rattle.std.proofs.Common.{rules}
use Rattle.world.proofs.Words.{lines_played, memory_behind, ◌≡◌}
use Rattle.world.proofs.Playing.{world_kept}
use Rattle.world.proofs.world_steps.World.into_memory.Goals as goal

pub returns-clause-kept : goal.returns-clause-kept
returns-clause-kept c plays at =
    let header = c.args.self.header in
    let is : c.into_memory.result ≡ memory_behind header (lines_played header plays) c.args.node = search rules in
    world_kept header plays c.args.node c.requires.node c.into_memory.result is c.args.self c.requires.nodes at
