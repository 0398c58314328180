use Rattle.world_laws.proofs.links.RoundCauses.{settled_at_controller, settled_at_host}
use Rattle.world_laws.proofs.bare_worlds_settle.settled_links_have_brought_all.Goals as goal

pub returns-clause-to_host : goal.returns-clause-to_host
returns-clause-to_host c = settled_at_host

pub returns-clause-to_controller : goal.returns-clause-to_controller
returns-clause-to_controller c = settled_at_controller
