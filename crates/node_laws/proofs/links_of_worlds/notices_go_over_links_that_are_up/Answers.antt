use Rattle.node_laws.proofs.links.Noticing.{controller_reach, stays_up}
use Rattle.node_laws.proofs.links_of_worlds.notices_go_over_links_that_are_up.Goals as goal

pub returns : goal.returns
returns c = record { sent = controller_reach; kept = stays_up }
