use Rattle.node_laws.proofs.views.Lines.{view_is}
use Rattle.node_laws.proofs.views_of_controllers.the_view_of_a_controller_is_read_off_histories.Goals as goal

pub returns : goal.returns
returns c = view_is
