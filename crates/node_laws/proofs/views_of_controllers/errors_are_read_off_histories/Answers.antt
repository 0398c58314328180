use Rattle.node_laws.proofs.views.Lines.{errors_read, errors_read_events}
use Rattle.node_laws.proofs.views_of_controllers.errors_are_read_off_histories.Goals as goal

pub returns : goal.returns
returns c = record { events = errors_read_events; lines = errors_read }
