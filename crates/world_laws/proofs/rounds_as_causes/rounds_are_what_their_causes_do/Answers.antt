use Rattle.world_laws.proofs.worlds.FewCauses.{whole_rounds, whole_settling}
use Rattle.world_laws.proofs.rounds_as_causes.rounds_are_what_their_causes_do.Goals as goal

pub returns-clause-rounds : goal.returns-clause-rounds
returns-clause-rounds c = λ r w. (whole_rounds r w).is

pub returns-clause-settling : goal.returns-clause-settling
returns-clause-settling c = λ n w. (whole_settling n w).is

pub returns-clause-each : goal.returns-clause-each
returns-clause-each c = λ n w. (whole_settling n w).each
