use Rattle.node_laws.proofs.read_steps.Reading.{comes_reads_of_reading as comes_reads, tick_reads}
use Rattle.node_laws.proofs.readings_in_steps.a_pass_begins_as_is_read.Goals as goal

pub returns : goal.returns
returns c = record { comes = comes_reads; ticks = tick_reads }
