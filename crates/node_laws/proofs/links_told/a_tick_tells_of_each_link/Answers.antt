use Rattle.node_laws.proofs.telling.WorldTicks.{tick_goes}
use Rattle.node_laws.proofs.links_told.a_tick_tells_of_each_link.Goals as goal

pub returns : goal.returns
returns c = tick_goes
