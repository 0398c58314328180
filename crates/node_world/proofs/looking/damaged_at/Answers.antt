use Rattle.node_world.proofs.Words.{StandsAt, link_is}
use Rattle.node_world.proofs.HostsInWorlds.{reads, site_stands}
use Rattle.node_world.proofs.looking.damaged_at.Goals as goal

pub returns-in-Some : goal.returns-in-Some
returns-in-Some c w all may =
    let a : StandsAt c.in-Some.place c.args.to.link w.sites = c.in-Some.ensures.place w.sites all in
    let is = rw c.index-sites-place.is at (reads c.args.sites.now w c.in-Some.place c.args.to.link a c.index-sites-place.result all c.index-sites-place.is) in
    rw (link_is w.sites c.args.to.link a.site (site_stands w c.in-Some.place c.args.to.link a may.orderly)) (c.damaged.ensures a.site.link is.wires)
