use Rattle.node_core.proofs.Words.{AreFewDue, Entry, IsInStep, List, Work, ◌≡◌}
use Rattle.node_core.proofs.Lateness.{late_so_far}
use Rattle.node_core.proofs.node.Node.reset_late.Given as goal

-- the links of late notices at the ends so far are reset
abbrev pub invariant-loop-i : goal.invariant-loop-i
invariant-loop-i g l =
    let noted = g.W.Watch.noted in
    let short = g.W.Watch.is_short in
    record {
      store : l.self.store ≡ l.fn.self.store;
      number : l.self.number ≡ l.fn.self.number;
      goes : (start : List Entry) (w : Work) → IsInStep l.fn.self (noted l.fn.watch) (short l.fn.watch) start w → AreFewDue w.ports
          → IsInStep l.self (noted l.watch) (short l.watch) start (late_so_far l.i w);
    }
