use Rattle.node_world.proofs.Words.{ap, ne_eqb, slice_index_or}
use Rattle.node_world.proofs.SitesKept.{none_passed, none_there, passes_by, place_found, place_is}
use Rattle.node_world.proofs.controller_sites.place_of.Goals as goal

pub returns-then-sites-near-clause-place : goal.returns-then-sites-near-clause-place
returns-then-sites-near-clause-place c hosts a =
    place_is c.from-near.result c.args.host c.args.sites.now hosts (slice_index_or c.args.sites.now c.from-near.result c.index-sites-near.result) a
    c.if-near-sites.true (ap (slice_index_or c.args.sites.now c.from-near.result) c.index-sites-near.is) c.if-sites-near.true

pub loop-i-init : goal.loop-i-init
loop-i-init c hosts a = none_passed c.args.host hosts

pub returns-then-sites-i-clause-place : goal.returns-then-sites-i-clause-place
returns-then-sites-i-clause-place c hosts a =
    place_found c.loop-i.i c.args.host c.args.sites.now hosts (slice_index_or c.args.sites.now c.loop-i.i c.index-sites-i.result) a
    (c.loop-i.invariant hosts a) c.loop-i-test.true (ap (slice_index_or c.args.sites.now c.loop-i.i) c.index-sites-i.is) c.if-sites-i.true

pub loop-i-preserved : goal.loop-i-preserved
loop-i-preserved c hosts a =
    passes_by c.loop-i.i c.args.host c.args.sites.now hosts (slice_index_or c.args.sites.now c.loop-i.i c.index-sites-i.result) a
    (c.loop-i.invariant hosts a) c.loop-i-test.true (ap (slice_index_or c.args.sites.now c.loop-i.i) c.index-sites-i.is)
    (ne_eqb (slice_index_or c.args.sites.now c.loop-i.i c.index-sites-i.result).host c.args.host c.if-sites-i.false)

pub returns-clause-place : goal.returns-clause-place
returns-clause-place c hosts a = none_there c.loop-i.i c.args.host c.args.sites.now hosts a (c.loop-i.invariant hosts a) c.loop-i-test.false
