use Rattle.node_laws.proofs.schedules.Ranges.{in_range}
use Rattle.node_laws.proofs.histories_of_schedules.lines_that_may_stand_are_in_their_ranges.Goals as goal

pub returns : goal.returns
returns c = in_range
