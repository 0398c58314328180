use Rattle.node_laws.proofs.notices.Events.{begins_read, event_read, notices_of}
use Rattle.node_laws.proofs.unanswered_notices.the_controller_keeps_the_notices_that_are_read.Goals as goal

pub returns : goal.returns
returns c = record { begin = begins_read; event = event_read; read = notices_of }
