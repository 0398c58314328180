use Rattle.world_laws.proofs.Words.{world_rounds_to_settle}
use Rattle.world_laws.proofs.worlds.FewCauses.{may_be, of_rounds, rounds_only}
use Rattle.world_laws.proofs.rounds_as_causes.in_rounds_ends_take_frames_that_stand.Goals as goal

pub returns-clause-only : goal.returns-clause-only
returns-clause-only c = rounds_only

pub returns-clause-rounds : goal.returns-clause-rounds
returns-clause-rounds c = of_rounds

pub returns-clause-settling : goal.returns-clause-settling
returns-clause-settling c = λ n w. of_rounds (world_rounds_to_settle n w) w

pub returns-clause-may : goal.returns-clause-may
returns-clause-may c = may_be
