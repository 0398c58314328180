use Rattle.std.proofs.Common.{length, ◌-◌, ◌≡◌, ◌≤◌, ◌++◌, take, IsTrue}
use Rattle.swp_words.proofs.output.write_all.Given as goal

-- a front of the piece was written
abbrev pub invariant-loop-at : goal.invariant-loop-at
invariant-loop-at g l = record {
  in_range : l.at ≤ length l.bytes;
  count : g.K.Sink.faults l.fn.sink ≤ g.K.Sink.faults l.sink;
  wrote : IsTrue g.K.Sink.tells → g.K.Sink.written l.sink ≡ g.K.Sink.written l.fn.sink ++ take l.at l.bytes;
}

abbrev pub decreases-loop-at : goal.decreases-loop-at
decreases-loop-at g l = length l.bytes - l.at
