use Rattle.node_laws.proofs.links.Worlds.{links_run}
use Rattle.node_laws.proofs.links_of_worlds.each_link_is_a_run_of_the_law_of_one_link.Goals as goal

pub returns : goal.returns
returns c = links_run
