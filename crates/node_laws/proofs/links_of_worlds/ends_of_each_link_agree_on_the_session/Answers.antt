use Rattle.node_laws.proofs.links.Blocks.{agree}
use Rattle.node_laws.proofs.links_of_worlds.ends_of_each_link_agree_on_the_session.Goals as goal

pub returns : goal.returns
returns c = agree
