use Rattle.std.specs.Option.{option_map}
use Rattle.node_world.proofs.Words.{HciTables, Option, Running, StandsAt, get_or, ne_eqb, rules, ℕ}
use Rattle.node_world.proofs.HostsInWorlds.{reads, site_stands, node_there}
use Rattle.node_world.proofs.node_lines.copied_tables.Goals as goal

abbrev tables_at : Option Running → Option HciTables
tables_at o = option_map (λ (r : Running). r.core.tables) o

pub returns-then-node-eq0 : goal.returns-then-node-eq0
returns-then-node-eq0 c w world may = rw c.if-node-eq0.true (c.tables_of.ensures _ _ _ world.controller)

pub returns : goal.returns
returns c w world may =
    let i : ℕ = c.in-Some.place in
    let a : StandsAt i c.args.node w.sites = c.in-Some.ensures.place w.sites world.sites in
    let k = get_or c.args.sites.now i c.index-sites-place.result in
    let is = rw c.index-sites-place.is at (reads c.args.sites.now w i c.args.node a c.index-sites-place.result world.sites c.index-sites-place.is) in
    rw (node_there w c.args.node (search (rules, ne_eqb)) a.site (site_stands w i c.args.node a may.orderly)) (c.tables_of-2.ensures _ _ _ is.place)
