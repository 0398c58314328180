use Rattle.node_world.proofs.Words.{[], ap, arith, length, refl, slice_index_or, with_bare_link, ℕ, ◌<◌, ◌≤◌}
use Rattle.node_world.proofs.SitesKept.{walk_begins, walk_next, walk_ends}
use Rattle.node_world.proofs.controller_sites.empty_all.Goals as goal

pub loop-i-init : goal.loop-i-init
loop-i-init c hosts a = (walk_begins with_bare_link (λ s. []) c.args.sites.now hosts [] a).walked

pub loop-i-preserved : goal.loop-i-preserved
loop-i-preserved c hosts a =
    let now = c.loop-i.sites in
    let i : ℕ = c.loop-i.i in
    let k = slice_index_or now i c.index-sites-i.result in
    let lt : i < length now = omega (arith, c.loop-i-test.true, c.loop-i.auto.sites) in
    let n = walk_next with_bare_link (λ s. []) now hosts [] [] i k (c.loop-i.invariant hosts a) lt (ap (slice_index_or now i) c.index-sites-i.is) in
    (n.goes (record k { wires = c.empty.new.self }) []
    (record { host = n.here.host; wires = c.empty.ensures n.site.link n.here.wires; place = n.here.place }) refl).walked

pub returns : goal.returns
returns c hosts a =
    let now = c.loop-i.sites in
    let over : length now ≤ c.loop-i.i = omega (arith, c.loop-i-test.false, c.loop-i.auto.sites) in
    (walk_ends with_bare_link (λ s. []) now hosts [] [] c.loop-i.i (c.loop-i.invariant hosts a) over).0
