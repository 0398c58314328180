use Rattle.node_core.proofs.Words.{EndsStandFor, List, Port, Releases, flat_map, freed_at, length, map, take, ◌≡◌, ◌≤◌}
use Rattle.node_core.proofs.node.Node.forgotten.Given as goal

-- those of the ends so far
abbrev pub invariant-loop-i : goal.invariant-loop-i
invariant-loop-i g l = record {
  items : (ports : List Port) → EndsStandFor l.fn.self.ends ports → map Releases l.askers.items ≡ flat_map (freed_at ports) (take l.i ports);
  few : length l.askers.items ≤ l.i;
}
