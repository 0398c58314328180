use Rattle.node_laws.proofs.telling.Events.{untimed_goes}
use Rattle.node_laws.proofs.links_told.events_tell_of_each_link.Goals as goal

pub returns : goal.returns
returns c = untimed_goes
