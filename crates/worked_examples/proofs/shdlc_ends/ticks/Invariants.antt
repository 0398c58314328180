use Rattle.std.proofs.Common.{◌≡◌, []}
use Rattle.worked_examples.proofs.shdlc_ends.ticks.Given as goal

abbrev pub invariant-loop : goal.invariant-loop
invariant-loop g l = l.end.due ≡ []
