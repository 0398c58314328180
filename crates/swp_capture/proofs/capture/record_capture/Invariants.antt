use Rattle.std.proofs.Common.{◌≤◌}
use Rattle.swp_capture.proofs.capture.record_capture.Given as goal

-- no count of faults fell
abbrev pub invariant-reads : goal.invariant-reads
invariant-reads g l = record {
  reads : g.S.Source.faults l.fn.source ≤ g.S.Source.faults l.source;
  writes : g.K.Sink.faults l.fn.sink ≤ g.K.Sink.faults l.sink;
}
