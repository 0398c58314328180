use Rattle.lines_told.proofs.fragments.Law.{all_to_host, all_to_controller}
use Rattle.lines_told.proofs.fragments_settle.rounds_deliver_all.Goals as goal

pub returns-clause-to_host : goal.returns-clause-to_host
returns-clause-to_host c = all_to_host

pub returns-clause-to_controller : goal.returns-clause-to_controller
returns-clause-to_controller c = all_to_controller
