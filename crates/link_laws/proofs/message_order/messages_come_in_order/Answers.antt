use Rattle.link_laws.proofs.messages.Runs.{in_order_here_of_whole as in_order_here, in_order_there_of_whole as in_order_there}
use Rattle.link_laws.proofs.message_order.messages_come_in_order.Goals as goal

pub returns-clause-to_host : goal.returns-clause-to_host
returns-clause-to_host c = in_order_here

pub returns-clause-to_controller : goal.returns-clause-to_controller
returns-clause-to_controller c = in_order_there
