use Rattle.world_laws.proofs.Words.{takes_go, ticks_go}
use Rattle.world_laws.proofs.worlds_of_nodes_settle.takes_and_ticks_are_events_on_each_link.Goals as goal

pub returns-clause-takes : goal.returns-clause-takes
returns-clause-takes c = takes_go

pub returns-clause-ticks : goal.returns-clause-ticks
returns-clause-ticks c = ticks_go
