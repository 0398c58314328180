use Rattle.lines_told.proofs.messages.Law.{got_by_host, got_by_controller}
use Rattle.lines_told.proofs.messages_settle.rounds_bring_all.Goals as goal

pub returns-clause-to_host : goal.returns-clause-to_host
returns-clause-to_host c = got_by_host

pub returns-clause-to_controller : goal.returns-clause-to_controller
returns-clause-to_controller c = got_by_controller
