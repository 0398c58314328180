use Rattle.node_laws.proofs.read_steps.Reading.{handles_reads, holds_reads, lets_reads}
use Rattle.node_laws.proofs.readings_in_steps.turns_keep_what_is_read.Goals as goal

pub returns : goal.returns
returns c = record { handles = handles_reads; holds = holds_reads; lets = lets_reads }
