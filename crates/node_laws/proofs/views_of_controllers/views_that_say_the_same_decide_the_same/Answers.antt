use Rattle.node_laws.proofs.views.Lines.{decided_same}
use Rattle.node_laws.proofs.views_of_controllers.views_that_say_the_same_decide_the_same.Goals as goal

pub returns : goal.returns
returns c = decided_same
