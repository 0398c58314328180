use Rattle.node_laws.proofs.readings.Noting.{begins_keep, steps_keep}
use Rattle.node_laws.proofs.notices_and_commands.the_unanswered_command_is_read.Goals as goal

pub returns : goal.returns
returns c = record { step = steps_keep; begins = begins_keep }
