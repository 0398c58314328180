use Rattle.node_laws.proofs.order.Sessions.{in_order, joined}
use Rattle.node_laws.proofs.histories_in_order.messages_are_in_order_in_each_history.Goals as goal

pub returns : goal.returns
returns c = record { in_order = in_order; joined = joined }
