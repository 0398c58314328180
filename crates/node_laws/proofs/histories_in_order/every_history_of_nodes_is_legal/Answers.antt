use Rattle.node_laws.proofs.order.Upheld.{legal}
use Rattle.node_laws.proofs.histories_in_order.every_history_of_nodes_is_legal.Goals as goal

pub returns : goal.returns
returns c = legal
