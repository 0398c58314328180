use Rattle.node_laws.proofs.worlds.Schedules.{schedule_hears}
use Rattle.node_laws.proofs.answers_of_worlds.nodes_hear_before_they_answer.Goals as goal

pub returns : goal.returns
returns c = record { heard = schedule_hears }
