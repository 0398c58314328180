use Rattle.node_laws.proofs.notices.Events.{none_waits, schedule_waits}
use Rattle.node_laws.proofs.unanswered_notices.no_creation_is_read_while_the_controller_is_off.Goals as goal

pub returns : goal.returns
returns c = record { moment = none_waits; histories = schedule_waits }
