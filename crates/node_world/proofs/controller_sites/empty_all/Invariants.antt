use Rattle.node_world.proofs.Words.{List, Site, SitesAre, [], with_bare_link}
use Rattle.node_world.proofs.SitesKept.{Walked}
use Rattle.node_world.proofs.controller_sites.empty_all.Given as goal

-- so many hosts have nothing on their wires any more
abbrev pub invariant-loop-i : goal.invariant-loop-i
invariant-loop-i l = (hosts : List Site) → SitesAre l.initial.sites hosts → Walked with_bare_link (λ s. []) l.sites hosts [] [] l.i
