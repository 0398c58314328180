use Rattle.world_laws.proofs.Words.{rounds_go}
use Rattle.world_laws.proofs.worlds_of_nodes_settle.rounds_of_a_world_are_events_on_each_link.Goals as goal

pub returns : goal.returns
returns c = rounds_go
