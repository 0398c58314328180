use Rattle.link_laws.proofs.messages.Runs.{up_together}
use Rattle.link_laws.proofs.message_order.reset_brings_both_up.Goals as goal

pub returns : goal.returns
returns c = up_together
