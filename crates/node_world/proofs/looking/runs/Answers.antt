use Rattle.node_world.proofs.Words.{StandsAt, ap, is_some, ne_eqb, rules, sym, ◌∙◌}
use Rattle.node_world.proofs.HostsInWorlds.{reads, runs_alike, site_stands, node_there}
use Rattle.node_world.proofs.looking.runs.Goals as goal

pub returns-in-Some : goal.returns-in-Some
returns-in-Some c w world may =
    let a : StandsAt c.in-Some.place c.args.node w.sites = c.in-Some.ensures.place w.sites world.sites in
    let is = rw c.index-sites-place.is at (reads c.args.sites.now w c.in-Some.place
    c.args.node a c.index-sites-place.result world.sites c.index-sites-place.is) in
    let found = site_stands w c.in-Some.place c.args.node a may.orderly in
    (search rules) ∙ (runs_alike _ a.site is ∙ ap (λ o. is_some o) (sym (node_there w c.args.node (search (rules, ne_eqb)) a.site found)))
