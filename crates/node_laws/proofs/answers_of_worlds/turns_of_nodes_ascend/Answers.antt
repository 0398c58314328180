use Rattle.node_laws.proofs.worlds.Schedules.{schedule_ascends}
use Rattle.node_laws.proofs.answers_of_worlds.turns_of_nodes_ascend.Goals as goal

pub returns : goal.returns
returns c = record { ascend = schedule_ascends }
