use Rattle.node_laws.proofs.cuts.Histories.{cut_as_planned}
use Rattle.node_laws.proofs.power_cuts.power_goes_exactly_as_planned.Goals as goal

pub returns : goal.returns
returns c = cut_as_planned
