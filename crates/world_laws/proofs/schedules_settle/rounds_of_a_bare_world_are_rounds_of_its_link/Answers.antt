use Rattle.world_laws.proofs.schedules.NotedQuiet.{as_many, one_round}
use Rattle.world_laws.proofs.schedules_settle.rounds_of_a_bare_world_are_rounds_of_its_link.Goals as goal

pub returns-clause-round : goal.returns-clause-round
returns-clause-round c = one_round

pub returns-clause-as_many : goal.returns-clause-as_many
returns-clause-as_many c = as_many
