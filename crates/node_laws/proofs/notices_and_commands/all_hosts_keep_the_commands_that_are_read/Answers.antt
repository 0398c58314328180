use Rattle.node_laws.proofs.readings.Sites.{all_begin}
use Rattle.node_laws.proofs.readings.Lines.{event_read}
use Rattle.node_laws.proofs.notices_and_commands.all_hosts_keep_the_commands_that_are_read.Goals as goal

pub returns : goal.returns
returns c = record { begin = all_begin; event = λ hosts t w e are all may. event_read hosts are t w e all may }
