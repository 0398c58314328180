use Rattle.node_laws.proofs.read_steps.Reading.{history_reads}
use Rattle.node_laws.proofs.readings_in_steps.histories_keep_what_is_read.Goals as goal

pub returns : goal.returns
returns c = history_reads
