use Rattle.world_laws.proofs.Words.{arith, first_rest, world_after_round, world_rests, world_rounds_to_settle}
use Rattle.world_laws.proofs.worlds.FewCauses.{wires_few, round_few, rounds_few}
use Rattle.world_laws.proofs.rounds_as_causes.a_round_has_few_causes.Goals as goal

pub returns-clause-wires : goal.returns-clause-wires
returns-clause-wires c = wires_few

pub returns-clause-round : goal.returns-clause-round
returns-clause-round c = round_few

pub returns-clause-rounds : goal.returns-clause-rounds
returns-clause-rounds c = rounds_few

pub returns-clause-settling : goal.returns-clause-settling
returns-clause-settling c = λ n w. rounds_few (world_rounds_to_settle n w) w

pub returns-clause-most : goal.returns-clause-most
returns-clause-most c = λ n w few seven.
    omega (arith, rounds_few (world_rounds_to_settle n w) w few seven, (first_rest world_rests world_after_round n w).most)
