use Rattle.node_laws.proofs.links.Blocks.{near_shares, far_shares}
use Rattle.node_laws.proofs.links_of_worlds.blocks_of_each_end_are_shared_out.Goals as goal

pub returns : goal.returns
returns c = record { controller = near_shares; host = far_shares }
