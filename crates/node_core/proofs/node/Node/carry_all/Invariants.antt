use Rattle.node_core.proofs.Words.{AreDoableInTurn, CountsFaults, Entry, IsInStep, IsUsable, List, Work, deed_of, drop, handling, map, true, ◌≡◌}
use Rattle.node_core.proofs.Steps.{GoesOn}
use Rattle.node_core.proofs.node.Node.carry_all.Given as goal

-- the deeds so far went through, those that are left may be done, and what they bring, all bring
abbrev pub invariant-loop-deed : goal.invariant-loop-deed
invariant-loop-deed g l =
    let noted = g.W.Watch.noted in
    let short = g.W.Watch.is_short in
    record {
      usable : IsUsable l.self.store;
      live : l.self.store.journal.live ≡ true;
      number : l.self.number ≡ l.fn.self.number;
      faults : CountsFaults g.N.Nv.faults l.fn.self.store l.self.store;
      doable : (start : List Entry) × (w : Work) × IsInStep l.self (noted l.watch) (short l.watch) start w
          × AreDoableInTurn l.host (handling l.fn.self (l.pipe, l.message)) (drop l.deed-index l.deeds) w;
      goes : (start : List Entry) (w : Work) → IsInStep l.fn.self (noted l.fn.watch) (short l.fn.watch) start w
          → GoesOn g.N.Nv.writes l.fn.self l.self (noted l.watch) (short l.watch) start
          (map (deed_of l.fn.self (l.pipe, l.message)) (drop l.deed-index l.deeds))
          (map (deed_of l.fn.self (l.pipe, l.message)) l.deeds) l.host w;
    }
