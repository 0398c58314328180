use Rattle.node_world.proofs.Words.{List, Site, SitesAre}
use Rattle.node_world.proofs.SitesKept.{PassedBy}
use Rattle.node_world.proofs.controller_sites.place_of.Given as goal

-- so many hosts are others
abbrev pub invariant-loop-i : goal.invariant-loop-i
invariant-loop-i l = (hosts : List Site) → SitesAre l.sites hosts → PassedBy l.i l.host hosts
