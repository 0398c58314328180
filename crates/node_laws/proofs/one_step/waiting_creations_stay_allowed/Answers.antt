use Rattle.node_laws.proofs.steps.StepWalks.{message_allowed}
use Rattle.node_laws.proofs.one_step.waiting_creations_stay_allowed.Goals as goal

pub returns : goal.returns
returns c = λ core ports h m sorted may. message_allowed core ports h sorted may m
