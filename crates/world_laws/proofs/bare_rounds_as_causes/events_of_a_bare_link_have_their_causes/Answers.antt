use Rattle.world_laws.proofs.Words.{again, link-append}
use Rattle.world_laws.proofs.links.RoundCauses.{events-append}
use Rattle.world_laws.proofs.bare_rounds_as_causes.events_of_a_bare_link_have_their_causes.Goals as goal

pub returns-clause-causes : goal.returns-clause-causes
returns-clause-causes c = again

pub returns-clause-link : goal.returns-clause-link
returns-clause-link c = link-append

pub returns-clause-events : goal.returns-clause-events
returns-clause-events c = events-append
