use Rattle.node_ends.proofs.Words.{AreEnds, List, PoolState, Port, drop, ◌≡◌}
use Rattle.node_ends.specs.Ends.{are_at_rest}
use Rattle.node_ends.proofs.ends.Ends.are_at_rest.Given as goal

-- those so far are
abbrev pub invariant-loop-seat : goal.invariant-loop-seat
invariant-loop-seat l = record {
  so_far : (pool : PoolState) (ports : List Port) → AreEnds pool l.seat-items ports → are_at_rest (drop l.seat-index ports) ≡ are_at_rest ports;
}
