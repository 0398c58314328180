use Rattle.node_world.proofs.Words.{MayTakeInOrder, NodeWorld, WorldIs, false, ◌≡◌}
use Rattle.node_world.proofs.RoundsGo.{HaveTakenSo}
use Rattle.node_world.proofs.rounds.go_round.Given as goal

-- the ends of the first links have taken what stood on their wires
abbrev pub invariant-loop-i : goal.invariant-loop-i
invariant-loop-i l =
    record {
      goes : (w : NodeWorld) → WorldIs l.initial.controller l.initial.sites w → MayTakeInOrder w → HaveTakenSo w l.controller l.sites
          l.initial.noted.entries.items l.noted.entries.items l.i;
      short : l.noted.short ≡ false;
    }
