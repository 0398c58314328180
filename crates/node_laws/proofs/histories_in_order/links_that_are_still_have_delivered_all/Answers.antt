use Rattle.node_laws.proofs.order.Sessions.{history_delivered}
use Rattle.node_laws.proofs.histories_in_order.links_that_are_still_have_delivered_all.Goals as goal

pub returns : goal.returns
returns c = history_delivered
