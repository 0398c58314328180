use Rattle.node_laws.proofs.links.Noticing.{noticed_up}
use Rattle.node_laws.proofs.links_of_worlds.unanswered_notices_stand_at_ends_that_are_up.Goals as goal

pub returns : goal.returns
returns c = noticed_up
