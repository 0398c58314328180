use Rattle.link_laws.proofs.sessions.Resets.{up_together}
use Rattle.link_laws.proofs.session_order.reset_brings_both_up.Goals as goal

pub returns : goal.returns
returns c = up_together
