-- The first bytes of the piece came, and what they caused was written.
use Rattle.swp_tool.proofs.Words.{IsReading, IsUnderWay, List, bytes_left, length, ℕ, ◌++◌, ◌+◌, ◌≤◌}
use Rattle.swp_tool.proofs.replaying.PiecesJob.take.Given as goal

abbrev pub invariant-parts : goal.invariant-parts
invariant-parts g l = record {
  goes : IsReading l.self;
  within : length l.left ≤ length l.piece;
  fewer : bytes_left l.self + length l.piece ≤ bytes_left l.fn.self + length l.left;
  writes : g.K.Sink.faults l.fn.sink ≤ g.K.Sink.faults l.sink;
  under : (input rest before : List ℕ) → IsUnderWay g.K.Sink.tells l.fn.self input (l.piece ++ rest) before (g.K.Sink.written l.fn.sink)
      → IsUnderWay g.K.Sink.tells l.self input (l.left ++ rest) before (g.K.Sink.written l.sink);
}

abbrev pub decreases-parts : goal.decreases-parts
decreases-parts g l = length l.left
