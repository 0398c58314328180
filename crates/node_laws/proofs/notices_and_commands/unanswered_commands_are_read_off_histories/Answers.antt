use Rattle.node_laws.proofs.readings.Lines.{schedule_read}
use Rattle.node_laws.proofs.notices_and_commands.unanswered_commands_are_read_off_histories.Goals as goal

pub returns : goal.returns
returns c = schedule_read
