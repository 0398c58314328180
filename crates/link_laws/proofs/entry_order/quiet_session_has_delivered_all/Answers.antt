use Rattle.link_laws.proofs.entries.Together.{quiet_here, quiet_there}
use Rattle.link_laws.proofs.entry_order.quiet_session_has_delivered_all.Goals as goal

pub returns-clause-to_host : goal.returns-clause-to_host
returns-clause-to_host c = quiet_here

pub returns-clause-to_controller : goal.returns-clause-to_controller
returns-clause-to_controller c = quiet_there
