use Rattle.node_ends.proofs.Words.{AreEnds, List, PoolState, Port, Seat, false, is_up, length, map, take, ◌≡◌, ◌≤◌}
use Rattle.node_ends.proofs.ByHost.{StandSoFar}
use Rattle.node_ends.proofs.ends.Ends.seen.Given as goal

-- the desks so far, and what is read so far stands at the numbers of their hosts
abbrev pub invariant-loop-seat : goal.invariant-loop-seat
invariant-loop-seat l = record {
  items : l.desks.items ≡ map (λ (s : Seat). s.desk) (take l.seat-index l.seat-items);
  few : length l.desks.items ≤ l.seat-index;
  eight : length l.links ≡ 8;
  far : (pool : PoolState) (ports : List Port) → AreEnds pool l.seat-items ports
      → StandSoFar (λ (p : Port). is_up p.side.shdlc.phase) false l.links l.seat-index ports;
}
