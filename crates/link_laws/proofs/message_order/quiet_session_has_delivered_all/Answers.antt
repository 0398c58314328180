use Rattle.link_laws.proofs.messages.Runs.{all_here, all_there}
use Rattle.link_laws.proofs.message_order.quiet_session_has_delivered_all.Goals as goal

pub returns-clause-to_host : goal.returns-clause-to_host
returns-clause-to_host c = all_here

pub returns-clause-to_controller : goal.returns-clause-to_controller
returns-clause-to_controller c = all_there
