use Rattle.std.proofs.Common.{◌≤◌, ◌∙◌, length, sym, arith}
use Rattle.node_world.proofs.LinksRest.{all_looked_at, all_rest_so, all_still, far_moves, looks_at, near_moves, none_looked_at}
use Rattle.node_world.proofs.resting.all_rest.Goals as goal

pub returns-then-not-controller_rests : goal.returns-then-not-controller_rests
returns-then-not-controller_rests c w world may timely =
    near_moves w.sites (sym c.if-not-controller_rests.true ∙ c.controller_rests.ensures w world may timely)

pub loop-i-init : goal.loop-i-init
loop-i-init c w world may timely = none_looked_at w.sites

pub host_rests-requires : goal.host_rests-requires
host_rests-requires c =
    let s = c.requires.state in
    let n = looks_at c.loop-i.i c.args.sites.now s.0.sites
    c.index-sites-i.result s.1.sites (all_looked_at s.0 s.2 s.3) (c.loop-i.invariant s.0 s.1 s.2 s.3) c.loop-i-test.true c.index-sites-i.is in
    record { state = (n.site, n.here) }

pub returns-then-not-host_rests : goal.returns-then-not-host_rests
returns-then-not-host_rests c w world may timely =
    let n = looks_at c.loop-i.i c.args.sites.now w.sites c.index-sites-i.result world.sites (all_looked_at w may timely) (c.loop-i.invariant w world may timely)
    c.loop-i-test.true c.index-sites-i.is in
    far_moves w.sites (n.ends (sym (c.host_rests.ensures n.site n.here n.may) ∙ c.if-not-host_rests.true))

pub loop-i-preserved : goal.loop-i-preserved
loop-i-preserved c w world may timely =
    let n = looks_at c.loop-i.i c.args.sites.now w.sites c.index-sites-i.result world.sites (all_looked_at w may timely) (c.loop-i.invariant w world may timely)
    c.loop-i-test.true c.index-sites-i.is in
    n.on (sym (c.host_rests.ensures n.site n.here n.may) ∙ c.if-not-host_rests.false)

pub returns : goal.returns
returns c w world may timely =
    let over : length c.args.sites.now ≤ c.loop-i.i = omega (arith, c.loop-i-test.false, c.loop-i.auto.i-end) in
    all_still w.sites (sym c.if-not-controller_rests.false ∙ c.controller_rests.ensures w world may timely)
    (all_rest_so c.loop-i.i c.args.sites.now w.sites world.sites (c.loop-i.invariant w world may timely) over)
