use Rattle.node_core.proofs.Words.{Bool, Entry, IsInStep, List, Releases, Work, drop, map, true, ◌≡◌}
use Rattle.node_core.proofs.Freeing.{DoesOn}
use Rattle.node_core.proofs.node.Node.release_all.Given as goal

-- the blocks of the askers so far are free
abbrev pub invariant-loop-asker : goal.invariant-loop-asker
invariant-loop-asker g l =
    record {
      live : l.self.store.journal.live ≡ true;
      store : l.self.store ≡ l.fn.self.store;
      number : l.self.number ≡ l.fn.self.number;
      goes : (noted : List Entry) (short : Bool) (start : List Entry) (w : Work) → IsInStep l.fn.self noted short start w
          → DoesOn l.self noted short start (map Releases (drop l.asker-index l.askers)) (map Releases l.askers) w;
    }
