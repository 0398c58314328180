use Rattle.node_world.proofs.Words.{AreToTick, List, Site, SitesAre, false, ◌≡◌}
use Rattle.node_world.proofs.SitesKept.{Walked}
use Rattle.node_world.proofs.WorldsTick.{tick_of, tick_told}
use Rattle.node_world.proofs.steps.tick_world.Given as goal

-- so many hosts have had their ticks
abbrev pub invariant-loop-i : goal.invariant-loop-i
invariant-loop-i l =
    record {
      goes : (hosts : List Site) → SitesAre l.initial.sites hosts → AreToTick hosts
          → Walked tick_of tick_told l.sites hosts l.initial.noted.entries.items l.noted.entries.items l.i;
      memory : l.noted.short ≡ false;
    }
