use Rattle.node_world.proofs.Words.{StandsAt, entries_for, first_lost, frame_lost, frames_to, side_of, site_loses, slice_index_or}
use Rattle.node_world.proofs.HostsInWorlds.{at_place, nowhere, site_stands, lost_to_controller, loses_in_world, found_becomes, loses_leaves}
use Rattle.node_world.proofs.HostsDo.{lost_far, lost_near}
use Rattle.node_world.proofs.frame_lines.lose_frame.Goals as goal

pub loses_frame-requires : goal.loses_frame-requires
loses_frame-requires c =
    let w = c.requires.state.0 in
    let all = c.requires.state.1.sites in
    let a : StandsAt c.in-Some.place c.args.at.link w.sites = c.in-Some.ensures.place w.sites all in
    let t = at_place c.args.sites.now w c.in-Some.place c.args.at.link a c.index-sites-place.result all c.index-sites-place.is c.requires.state.2 in
    record { state = (a.site.memory, a.site.node, (λ h. a.site.link.host), t.is.place) }

pub loses_frame-requires-else-at : goal.loses_frame-requires-else-at
loses_frame-requires-else-at c = let w = c.requires.state.0 in record { state = (w.memory, w.controller, _, c.requires.state.1.controller) }

pub returns-in_default-clause-stands : goal.returns-in_default-clause-stands
returns-in_default-clause-stands c w why world ready there cause =
    nowhere w.sites c.args.at.link there (c.in_default.ensures.place w.sites world.sites)

pub returns-then-at-clause-stands : goal.returns-then-at-clause-stands
returns-then-at-clause-stands c w why world ready there cause =
    let e = c.args.at in
    let o = ready.goes_on.orderly in
    let a : StandsAt c.in-Some.place e.link w.sites = c.in-Some.ensures.place w.sites world.sites in
    let t = at_place c.args.sites.now w c.in-Some.place e.link a c.index-sites-place.result world.sites c.index-sites-place.is ready in
    let k = slice_index_or c.args.sites.now c.in-Some.place c.index-sites-place.result in
    let r = c.in_ok-lose.ensures a.site.link why t.is.wires cause in
    let site = lost_far (record { host = k.host; wires = c.lose.new.self; power = c.loses_frame.new.self }) a.site e why t.is.host r.0 c.if-at.true
    (rw (← a.host) at (c.loses_frame.ensures a.site.memory a.site.node (λ h. a.site.link.host) why t.is.place cause)) in
    found_becomes w c.in-Some.place e.link a o
    (site_loses e why a.site, entries_for e.link (first_lost (side_of e) why (frames_to a.site.link e))) (frame_lost w e why)
    (loses_in_world w e why a.site (site_stands w c.in-Some.place e.link a o) c.if-at.true) (loses_leaves e why a.site c.if-at.true)
    c.args.controller.now c.args.sites.now _ c.args.noted.now.entries.items c.lose.new.entries.items world (record { site = site; noted = r.1 })

pub returns-else-at-clause-stands : goal.returns-else-at-clause-stands
returns-else-at-clause-stands c w why world ready there cause =
    let e = c.args.at in
    let a : StandsAt c.in-Some.place e.link w.sites = c.in-Some.ensures.place w.sites world.sites in
    let t = at_place c.args.sites.now w c.in-Some.place e.link a c.index-sites-place.result world.sites c.index-sites-place.is ready in
    let k = slice_index_or c.args.sites.now c.in-Some.place c.index-sites-place.result in
    let r = c.in_ok-lose.ensures a.site.link why t.is.wires cause in
    let site = lost_near (record { host = k.host; wires = c.lose.new.self; power = k.power }) a.site e why t.is.host r.0 t.is.place in
    lost_to_controller c.loses_frame-else-at.new.self c.args.sites.now w c.in-Some.place e a _ why c.args.noted.now.entries.items c.lose.new.entries.items
    ready.goes_on.orderly c.if-at.false world.sites site (c.loses_frame-else-at.ensures w.memory w.controller _ why world.controller cause) r.1
