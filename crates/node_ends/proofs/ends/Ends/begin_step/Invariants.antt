use Rattle.node_ends.proofs.Words.{AreEnds, EndsStandFor, List, Port, [], false, length, ◌≡◌}
use Rattle.node_ends.proofs.Seated.{first_changed}
use Rattle.node_ends.proofs.ends.Ends.begin_step.Given as goal

-- so it is at the ends so far
abbrev pub invariant-loop-i : goal.invariant-loop-i
invariant-loop-i l = record {
  count : length l.self-inside.seats.items ≡ length l.fn.self.seats;
  stands : (ports : List Port) → EndsStandFor l.fn.self ports
      → AreEnds l.self-inside.pool l.self-inside.seats.items (first_changed l.i (λ (p : Port). record p { late = false; ended = false; turns = [] }) ports);
}
