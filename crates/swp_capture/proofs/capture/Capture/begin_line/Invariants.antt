use Rattle.std.proofs.Common.{◌≤◌}
use Rattle.swp_capture.proofs.capture.Capture.begin_line.Given as goal

-- the count of faults did not fall
abbrev pub invariant-kept : goal.invariant-kept
invariant-kept g l = g.K.Sink.faults l.fn.sink ≤ g.K.Sink.faults l.sink
