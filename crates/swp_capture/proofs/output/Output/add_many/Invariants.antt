use Rattle.std.proofs.Common.{◌≤◌}
use Rattle.swp_capture.proofs.output.Output.add_many.Given as goal

-- the count of faults did not fall
abbrev pub invariant-loop-more : goal.invariant-loop-more
invariant-loop-more g l = g.K.Sink.faults l.fn.sink ≤ g.K.Sink.faults l.sink

abbrev pub decreases-loop-more : goal.decreases-loop-more
decreases-loop-more g l = l.more
