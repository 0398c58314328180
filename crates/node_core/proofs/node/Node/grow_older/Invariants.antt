use Rattle.node_core.proofs.Words.{Bool, EndsStandFor, Entry, IsInStep, List, Port, Work, first_changed, with_older, ◌≡◌}
use Rattle.node_core.proofs.node.Node.grow_older.Given as goal

-- the notices at the ends so far are older
abbrev pub invariant-loop-i : goal.invariant-loop-i
invariant-loop-i g l = record {
  store : l.self.store ≡ l.fn.self.store;
  number : l.self.number ≡ l.fn.self.number;
  ends : (ports : List Port) → EndsStandFor l.fn.self.ends ports → EndsStandFor l.self.ends (first_changed l.i with_older ports);
  goes : (noted : List Entry) (short : Bool) (start : List Entry) (w : Work) → IsInStep l.fn.self noted short start w
      → IsInStep l.self noted short start (record w { ports = first_changed l.i with_older w.ports });
}
