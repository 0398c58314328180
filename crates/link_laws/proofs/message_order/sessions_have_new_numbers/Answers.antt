use Rattle.link_laws.proofs.messages.Runs.{new_number_here, new_number_there}
use Rattle.link_laws.proofs.message_order.sessions_have_new_numbers.Goals as goal

pub returns-clause-controller : goal.returns-clause-controller
returns-clause-controller c = new_number_here

pub returns-clause-host : goal.returns-clause-host
returns-clause-host c = new_number_there
