use Rattle.node_laws.proofs.acked.BareRounds.{good_start}
use Rattle.node_laws.proofs.acked.InTurn.{front_acks}
use Rattle.node_laws.proofs.acknowledged_in_turn.ends_in_turn_acknowledge_a_window_each.Goals as goal

pub returns : goal.returns
returns c l s before a events may turn front back q = front_acks events front back _ q may (good_start l s before a) turn
