use Rattle.std.proofs.Common.{◌≤◌}
use Rattle.swp_capture.proofs.capture.Capture.take_all.Given as goal

-- the count of faults did not fall
abbrev pub invariant-loop-byte : goal.invariant-loop-byte
invariant-loop-byte g l = g.K.Sink.faults l.fn.sink ≤ g.K.Sink.faults l.sink
