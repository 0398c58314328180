use Rattle.node_laws.proofs.links.Blocks.{settled}
use Rattle.node_laws.proofs.links_of_worlds.resets_bring_both_ends_up.Goals as goal

pub returns : goal.returns
returns c = settled
