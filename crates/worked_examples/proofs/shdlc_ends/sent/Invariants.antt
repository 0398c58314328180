use Rattle.shdlc_core.specs.Kept.{frames_left}
use Rattle.worked_examples.proofs.shdlc_ends.sent.Given as goal

abbrev pub decreases-loop-control : goal.decreases-loop-control
decreases-loop-control l = frames_left l.end
