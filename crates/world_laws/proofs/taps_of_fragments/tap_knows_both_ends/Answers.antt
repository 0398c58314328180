use Rattle.world_laws.proofs.fragments.Runs.{known_here, known_there}
use Rattle.world_laws.proofs.taps_of_fragments.tap_knows_both_ends.Goals as goal

pub returns-clause-controller : goal.returns-clause-controller
returns-clause-controller c = known_here

pub returns-clause-host : goal.returns-clause-host
returns-clause-host c = known_there
