use Rattle.node_laws.proofs.notices.Events.{schedule_read}
use Rattle.node_laws.proofs.unanswered_notices.unanswered_notices_are_read_off_histories.Goals as goal

pub returns : goal.returns
returns c = schedule_read
