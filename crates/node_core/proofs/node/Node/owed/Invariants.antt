use Rattle.node_core.proofs.Words.{EndsStandFor, List, Port, Response, answers_owed, flat_map, length, owed_at, take, ◌≡◌, ◌≤◌}
use Rattle.node_core.proofs.node.Node.owed.Given as goal

-- those of the ends so far
abbrev pub invariant-loop-i : goal.invariant-loop-i
invariant-loop-i g l = record {
  items : (ports : List Port) (r : Response) → EndsStandFor l.fn.self.ends ports
      → flat_map (answers_owed r) l.askers.items ≡ flat_map (owed_at l.late r) (take l.i ports);
  few : length l.askers.items ≤ l.i;
}
