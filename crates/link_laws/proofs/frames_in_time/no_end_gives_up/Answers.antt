use Rattle.link_laws.proofs.lifetimes.Lives.{alive_at_controller, alive_at_host, alive_from_start}
use Rattle.link_laws.proofs.frames_in_time.no_end_gives_up.Goals as goal

pub returns-clause-controller : goal.returns-clause-controller
returns-clause-controller c = alive_at_controller

pub returns-clause-host : goal.returns-clause-host
returns-clause-host c = alive_at_host

pub returns-clause-from_start : goal.returns-clause-from_start
returns-clause-from_start c = alive_from_start
