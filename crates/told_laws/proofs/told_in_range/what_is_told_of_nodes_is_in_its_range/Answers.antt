use Rattle.told_laws.proofs.nodes.Schedules.{nodes_told_in}
use Rattle.told_laws.proofs.told_in_range.what_is_told_of_nodes_is_in_its_range.Goals as goal

pub returns : goal.returns
returns c = λ header plays t nodes may most follows. nodes_told_in header nodes plays t may most follows
