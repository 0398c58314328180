use Rattle.link_laws.proofs.messages.Runs.{one_number}
use Rattle.link_laws.proofs.message_order.ends_agree_on_the_session.Goals as goal

pub returns : goal.returns
returns c = one_number
