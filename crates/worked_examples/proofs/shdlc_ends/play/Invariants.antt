use Rattle.std.proofs.Common.{◌≡◌, []}
use Rattle.worked_examples.proofs.shdlc_ends.play.Given as goal

abbrev pub invariant-loop-input : goal.invariant-loop-input
invariant-loop-input g l = l.end.due ≡ []
