use Rattle.node_ends.proofs.Words.{AreEnds, List, Port, length, spare, ◌≡◌}
use Rattle.node_ends.proofs.ByHost.{StandSoFar}
use Rattle.node_ends.proofs.ends.Ends.spares.Given as goal

-- those so far stand at the numbers of their hosts
abbrev pub invariant-loop-i : goal.invariant-loop-i
invariant-loop-i l = record {
  eight : length l.spares ≡ 8;
  far : (ports : List Port) → AreEnds l.self-inside.pool l.self-inside.seats.items ports
      → StandSoFar (λ (p : Port). spare p.side) 0 l.spares l.i ports;
}
