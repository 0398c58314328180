use Rattle.link_laws.proofs.entries.Running.{at_each_moment}
use Rattle.link_laws.proofs.entry_order.messages_are_in_order_at_each_moment.Goals as goal

pub returns : goal.returns
returns c = at_each_moment
