use Rattle.lines_told.proofs.fragments.Law.{delivered_to_host, delivered_to_controller}
use Rattle.lines_told.proofs.fragments_settle.each_fragment_takes_twelve_rounds.Goals as goal

pub returns-clause-to_host : goal.returns-clause-to_host
returns-clause-to_host c = delivered_to_host

pub returns-clause-to_controller : goal.returns-clause-to_controller
returns-clause-to_controller c = delivered_to_controller
