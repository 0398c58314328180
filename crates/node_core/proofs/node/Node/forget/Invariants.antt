use Rattle.node_core.proofs.Words.{Bool, EndsStandFor, Entry, IsInStep, List, Port, Work, first_changed, forgets, ◌≡◌}
use Rattle.node_core.proofs.node.Node.forget.Given as goal

-- so it is at the ends so far
abbrev pub invariant-loop-i : goal.invariant-loop-i
invariant-loop-i g l = record {
  store : l.self.store ≡ l.fn.self.store;
  number : l.self.number ≡ l.fn.self.number;
  ends : (ports : List Port) → EndsStandFor l.fn.self.ends ports → EndsStandFor l.self.ends (first_changed l.i (forgets ports) ports);
  goes : (noted : List Entry) (short : Bool) (start : List Entry) (w : Work) → IsInStep l.fn.self noted short start w
      → IsInStep l.self noted short start (record w { ports = first_changed l.i (forgets w.ports) w.ports });
}
