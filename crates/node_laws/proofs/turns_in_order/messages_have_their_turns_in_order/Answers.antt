use Rattle.node_laws.proofs.turns.Worlds.{in_turn, left_at_controller, left_at_host}
use Rattle.node_laws.proofs.turns_in_order.messages_have_their_turns_in_order.Goals as goal

pub returns-clause-in_order : goal.returns-clause-in_order
returns-clause-in_order c = in_turn

pub returns-clause-left_at_hosts : goal.returns-clause-left_at_hosts
returns-clause-left_at_hosts c = left_at_host

pub returns-clause-left_at_controller : goal.returns-clause-left_at_controller
returns-clause-left_at_controller c = left_at_controller
