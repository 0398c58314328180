use Rattle.node_laws.proofs.cuts.Histories.{found_exactly}
use Rattle.node_laws.proofs.power_cuts.boots_find_exactly_the_commands_that_are_read.Goals as goal

pub returns : goal.returns
returns c = found_exactly
