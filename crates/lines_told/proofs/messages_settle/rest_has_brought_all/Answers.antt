use Rattle.lines_told.proofs.messages.Law.{rest_at_host, rest_at_controller}
use Rattle.lines_told.proofs.messages_settle.rest_has_brought_all.Goals as goal

pub returns-clause-to_host : goal.returns-clause-to_host
returns-clause-to_host c = rest_at_host

pub returns-clause-to_controller : goal.returns-clause-to_controller
returns-clause-to_controller c = rest_at_controller
