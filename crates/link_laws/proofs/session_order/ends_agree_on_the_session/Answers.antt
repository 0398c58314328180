use Rattle.link_laws.proofs.sessions.Steps.{agree}
use Rattle.link_laws.proofs.session_order.ends_agree_on_the_session.Goals as goal

pub returns : goal.returns
returns c = agree
