use Rattle.node_core.proofs.Words.{AreFewDue, CountsFaults, Entry, IsInStep, IsNodeInOrder, IsUsable, List, Work, true, ◌≡◌}
use Rattle.node_core.specs.Nodes.{LiesInBuffer}
use Rattle.node_core.proofs.Passing.{PassesOn}
use Rattle.node_core.proofs.node.Node.passes.Given as goal

-- the messages at the ends so far had their turns, and what those of the ends that are left bring, all bring
abbrev pub invariant-loop-i : goal.invariant-loop-i
invariant-loop-i g l =
    let noted = g.W.Watch.noted in
    let short = g.W.Watch.is_short in
    record {
      usable : IsUsable l.self.store;
      live : l.self.store.journal.live ≡ true;
      number : l.self.number ≡ l.fn.self.number;
      faults : CountsFaults g.N.Nv.faults l.fn.self.store l.self.store;
      lies : LiesInBuffer l.self.ends l.buffer l.lies;
      goes : (start : List Entry) (w : Work) → IsInStep l.fn.self (noted l.fn.watch) (short l.fn.watch) start w
          → IsNodeInOrder w.core w.ports → AreFewDue w.ports
          → PassesOn g.N.Nv.writes l.fn.self l.self (noted l.watch) (short l.watch) start l.i w;
    }
