use Rattle.node_world.proofs.Words.{List, Site, SitesAre, site_ages, ◌≡◌}
use Rattle.node_world.proofs.SitesKept.{Walked}
use Rattle.node_world.proofs.controller_sites.age_all.Given as goal

-- the frames on the wires of so many hosts have grown older
abbrev pub invariant-loop-i : goal.invariant-loop-i
invariant-loop-i l =
    record {
      goes : (hosts : List Site) → SitesAre l.initial.sites hosts
          → Walked (λ s. (site_ages s).0) (λ s. (site_ages s).1) l.sites hosts l.initial.noted.entries.items l.noted.entries.items l.i;
      short : l.noted.short ≡ l.initial.noted.short;
    }
