use Rattle.node_laws.proofs.read_steps.Knowing.{same_deeds}
use Rattle.node_laws.proofs.readings_in_steps.controllers_that_know_the_same_do_the_same.Goals as goal

pub returns : goal.returns
returns c = same_deeds
