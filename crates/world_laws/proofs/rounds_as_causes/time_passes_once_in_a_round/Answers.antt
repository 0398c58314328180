use Rattle.world_laws.proofs.Words.{arith, first_rest, world_after_round, world_rests, world_rounds_to_settle}
use Rattle.world_laws.proofs.worlds.FewCauses.{ticks_are}
use Rattle.world_laws.proofs.rounds_as_causes.time_passes_once_in_a_round.Goals as goal

pub returns-clause-rounds : goal.returns-clause-rounds
returns-clause-rounds c = ticks_are

pub returns-clause-settling : goal.returns-clause-settling
returns-clause-settling c = λ n w. ticks_are (world_rounds_to_settle n w) w

pub returns-clause-most : goal.returns-clause-most
returns-clause-most c = λ n w.
    omega (arith, ticks_are (world_rounds_to_settle n w) w, (first_rest world_rests world_after_round n w).most)
