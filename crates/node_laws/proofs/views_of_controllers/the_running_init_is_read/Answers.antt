use Rattle.node_laws.proofs.views.Going.{begins_keep, sends_keep, steps_keep}
use Rattle.node_laws.proofs.views_of_controllers.the_running_init_is_read.Goals as goal

pub returns : goal.returns
returns c = record { step = steps_keep; sends = sends_keep; begins = begins_keep }
