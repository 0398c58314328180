use Rattle.link_laws.proofs.sessions.Quiet.{delivered_here, delivered_there}
use Rattle.link_laws.proofs.session_order.quiet_session_has_delivered_all.Goals as goal

pub returns-clause-to_host : goal.returns-clause-to_host
returns-clause-to_host c = delivered_here

pub returns-clause-to_controller : goal.returns-clause-to_controller
returns-clause-to_controller c = delivered_there
