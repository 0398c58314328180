use Rattle.node_laws.proofs.acked.BareRounds.{good_start, bare_round_acks, bare_rounds_acks}
use Rattle.node_laws.proofs.acknowledged_in_turn.rounds_of_a_bare_world_acknowledge_few.Goals as goal

pub returns-clause-round : goal.returns-clause-round
returns-clause-round c h l s before a front back q = bare_round_acks h _ (good_start l s before a) front back q

pub returns-clause-rounds : goal.returns-clause-rounds
returns-clause-rounds c h l s before a r = bare_rounds_acks r h _ (good_start l s before a)
