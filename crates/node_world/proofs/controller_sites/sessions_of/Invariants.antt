use Rattle.node_world.proofs.Words.{List, Site, SitesAre, length, ◌≡◌}
use Rattle.node_world.proofs.SitesKept.{NumbersFound}
use Rattle.node_world.proofs.controller_sites.sessions_of.Given as goal

-- the numbers of so many are put there
abbrev pub invariant-loop-i : goal.invariant-loop-i
invariant-loop-i l =
    record {
      eight : length l.sessions ≡ 8;
      goes : (hosts : List Site) → SitesAre l.sites hosts → NumbersFound l.i l.sessions hosts;
    }
