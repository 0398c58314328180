use Rattle.shdlc_core.proofs.Histories.{accepted-grows, new-Holds}
use Rattle.shdlc_core.specs.Histories.{shdlc_end_after}
use Rattle.shdlc_core.proofs.laws.accepted_fragments_only_grow.Goals as goal

pub returns : goal.returns
returns c = λ w inputs more one. accepted-grows (shdlc_end_after w inputs) _ more (new-Holds w inputs) one
