use Rattle.node_world.proofs.Words.{Controller, Entry, Host, List, Site, ap, arith, entries_for, length, refl, site_ages, slice_index_or, ℕ, ◌++◌, ◌<◌, ◌∙◌}
use Rattle.node_world.proofs.Words.{◌≤◌}
use Rattle.link_laws.specs.entries.Entries.{aged_entries}
use Rattle.node_world.proofs.SitesKept.{walk_begins, walk_next, walk_ends}
use Rattle.node_world.proofs.controller_sites.age_all.Goals as goal

abbrev older : Site → Site
older s = (site_ages s).0

abbrev told : Site → List Entry
told s = (site_ages s).1

pub loop-i-init : goal.loop-i-init
loop-i-init c = record {
  goes = λ hosts a. (walk_begins older told c.args.sites.now hosts c.args.noted.now.entries.items a).walked;
  short = refl;
}

pub loop-i-preserved : goal.loop-i-preserved
loop-i-preserved c =
    let now = c.loop-i.sites in
    let i : ℕ = c.loop-i.i in
    let lt : i < length now = omega (arith, c.loop-i-test.true, c.loop-i.auto.sites) in
    record {
      goes = λ hosts a.
          let n = walk_next older told now hosts c.args.noted.now.entries.items c.loop-i.noted.entries.items i
          (slice_index_or now i c.index-sites-i.result) (c.loop-i.invariant.goes hosts a) lt (ap (slice_index_or now i) c.index-sites-i.is) in
          let r = c.in_ok-grow_older.ensures n.site.link n.here.wires in
          let E : ℕ → List Entry = λ h. entries_for h (aged_entries Controller n.site.link.to_controller ++ aged_entries Host n.site.link.to_host) in
          (n.goes (record (slice_index_or now i c.index-sites-i.result) { wires = c.grow_older.new.self }) c.grow_older.new.entries.items
          (record { host = n.here.host; wires = r.0; place = n.here.place }) (r.1 ∙ ap (λ h. c.loop-i.noted.entries.items ++ E h) n.here.host)).walked;
      short = c.loop-i.invariant.short;
    }

pub returns-clause-stands : goal.returns-clause-stands
returns-clause-stands c w a =
    let now = c.loop-i.sites in
    let over : length now ≤ c.loop-i.i = omega (arith, c.loop-i-test.false, c.loop-i.auto.sites) in
    let e = walk_ends older told now w.sites c.args.noted.now.entries.items c.loop-i.noted.entries.items c.loop-i.i (c.loop-i.invariant.goes w.sites a) over in
    (e.0, e.1)
