use Rattle.node_laws.proofs.steps.StepWalks.{controller_fine}
use Rattle.node_laws.proofs.one_step.creations_are_made_as_allowed.Goals as goal

pub returns : goal.returns
returns c = controller_fine
