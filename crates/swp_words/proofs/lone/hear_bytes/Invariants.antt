-- The bytes so far came.
use Rattle.swp_words.proofs.Words.{Began, IsWaitingAlone, List, false, length, take, ℕ, ◌++◌, ◌-◌, ◌≡◌, ◌≤◌}
use Rattle.lone_laws.specs.alone.Lone.{Lone}
use Rattle.one_end.specs.Standing.{StandsAlone}
use Rattle.swp_words.proofs.lone.hear_bytes.Given as goal

abbrev pub invariant-bytes : goal.invariant-bytes
invariant-bytes g l = record {
  within : l.at ≤ length l.bytes;
  counted : l.ending.count ≡ l.fn.ending.count;
  writes : g.K.Sink.faults l.fn.sink ≤ g.K.Sink.faults l.sink;
  memory : g.N.Nv.faults l.fn.ending.end.node.store.journal.nv ≤ g.N.Nv.faults l.ending.end.node.store.journal.nv;
  may : (k : Lone) × (older : List ℕ) × StandsAlone l.ending.end k older;
  waits : (o : Began g.row.N.Denot) (came earlier before : List ℕ)
      → IsWaitingAlone g.N.Nv.writes g.K.Sink.tells o l.fn.ending.end false came earlier
      l.fn.ending.out.items before (g.K.Sink.written l.fn.sink)
      → IsWaitingAlone g.N.Nv.writes g.K.Sink.tells o l.ending.end false (came ++ take l.at l.bytes)
      earlier l.ending.out.items before (g.K.Sink.written l.sink);
}

abbrev pub decreases-bytes : goal.decreases-bytes
decreases-bytes g l = length l.bytes - l.at
