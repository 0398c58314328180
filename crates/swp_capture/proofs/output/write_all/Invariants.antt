use Rattle.std.proofs.Common.{length, ◌-◌, ◌≤◌}
use Rattle.swp_capture.proofs.output.write_all.Given as goal

-- a front of the piece was written
abbrev pub invariant-loop-at : goal.invariant-loop-at
invariant-loop-at g l = record {
  in_range : l.at ≤ length l.bytes;
  count : g.K.Sink.faults l.fn.sink ≤ g.K.Sink.faults l.sink;
}

abbrev pub decreases-loop-at : goal.decreases-loop-at
decreases-loop-at g l = length l.bytes - l.at
