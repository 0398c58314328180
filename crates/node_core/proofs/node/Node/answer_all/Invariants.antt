use Rattle.node_core.proofs.Words.{Entry, IsInStep, List, Work, answers_owed, drop, flat_map, true, ◌≡◌}
use Rattle.node_core.proofs.Freeing.{DoesOn}
use Rattle.node_core.proofs.node.Node.answer_all.Given as goal

-- the askers so far have their answers
abbrev pub invariant-loop-asker : goal.invariant-loop-asker
invariant-loop-asker g l =
    let noted = g.W.Watch.noted in
    let short = g.W.Watch.is_short in
    record {
      live : l.self.store.journal.live ≡ true;
      store : l.self.store ≡ l.fn.self.store;
      number : l.self.number ≡ l.fn.self.number;
      goes : (start : List Entry) (w : Work) → IsInStep l.fn.self (noted l.fn.watch) (short l.fn.watch) start w
          → DoesOn l.self (noted l.watch) (short l.watch) start (flat_map (answers_owed l.response) (drop l.asker-index l.askers))
          (flat_map (answers_owed l.response) l.askers) w;
    }
