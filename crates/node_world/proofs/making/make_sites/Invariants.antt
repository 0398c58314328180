use Rattle.node_world.proofs.Words.{SitesAre, map, new_site, replicate, take}
use Rattle.node_world.proofs.making.make_sites.Given as goal

-- so many hosts are made
abbrev pub invariant-loop-host : goal.invariant-loop-host
invariant-loop-host l = SitesAre l.sites.items (map (new_site (replicate 65536 255)) (take l.host-index l.hosts))
