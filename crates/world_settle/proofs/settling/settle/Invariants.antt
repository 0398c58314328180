use Rattle.std.proofs.Common.{◌≡◌, ◌-◌, ◌≤◌, true, List}
use Rattle.lines_told.specs.lines.Plays.{Play}
use Rattle.world.specs.Worlds.{IsWorldAt, world_header}
use Rattle.world_settle.proofs.Going.{WentOn}
use Rattle.world_settle.proofs.settling.settle.Given as goal

-- so many rounds were gone through, and noted
abbrev pub invariant-rounds : goal.invariant-rounds
invariant-rounds g l =
    let noted = g.W.Watch.noted in
    let short = g.W.Watch.is_short in
    record {
      few : l.done ≤ l.rounds;
      goes : (plays : List Play) → IsWorldAt l.initial.world (world_header l.initial.world) plays
          → WentOn l.world (world_header l.initial.world) plays l.rounds l.done (short l.watch) (noted l.initial.watch) (noted l.watch);
      stays : short l.initial.watch ≡ true → short l.watch ≡ true;
      header : world_header l.world ≡ world_header l.initial.world;
    }

abbrev pub decreases-rounds : goal.decreases-rounds
decreases-rounds g l = l.rounds - l.done
