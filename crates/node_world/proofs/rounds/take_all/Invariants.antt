use Rattle.node_world.proofs.Words.{MayTakeAll, NodeWorld, Takes, WorldIs, false, ◌≡◌}
use Rattle.node_world.proofs.RoundsGo.{Again}
use Rattle.node_world.proofs.rounds.take_all.Given as goal

-- the end has taken so many frames
abbrev pub invariant-loop : goal.invariant-loop
invariant-loop l =
    record {
      goes : (w : NodeWorld) → WorldIs l.initial.controller l.initial.sites w → MayTakeAll l.fn.at w → Again l.controller l.sites 290000000
          l.initial.noted.entries.items l.noted.entries.items w (Takes l.fn.at) l.counter;
      short : l.noted.short ≡ false;
    }
