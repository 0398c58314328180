use Rattle.node_world.proofs.Words.{NextFrame, Takes, ap, arith, false, frames_at, is_running, length, node_of, sym, true, ℕ, ◌<◌, ◌∙◌, ◌≡◌, ◌≤◌}
use Rattle.node_world.proofs.HostsHear.{unrefused}
use Rattle.node_world.proofs.RoundsGo.{few_on_way, again_begins, again_ends, again_goes, again_next, again_stops, bounds_again, hosts_come, there_still}
use Rattle.node_world.proofs.rounds.take_all.Goals as goal

pub loop-init : goal.loop-init
loop-init c = record {
  goes = λ w world may. again_begins w
      (Takes c.args.at) 290000000 c.args.controller.now c.args.sites.now c.args.noted.now.entries.items world may.goes_on may.few;
  short = c.requires.memory;
}

pub comes_to-requires-clause-state : goal.comes_to-requires-clause-state
comes_to-requires-clause-state c =
    let s = c.requires.state in
    let many : c.on_the_way-times.result ≡ length (frames_at s.0 c.args.at) = c.on_the_way-times.ensures s.0 s.1.sites s.2.goes_on in
    let few : length (frames_at s.0 c.args.at) ≤ 64 =
    few_on_way c.args.at c.args.at.link c.args.sites.now s.0.sites s.1.sites in
    let below : c.loop.counter < c.on_the_way-times.result = c.loop-test.true in
    let a = c.loop.invariant.goes s.0 s.1 s.2 in
    let ready = bounds_again s.0 (Takes c.args.at) 290000000 c.loop.counter a.behind (omega arith) (omega (arith, many, few, below)) a.goes_on a.few in
    (a.behind, a.world, ready, there_still c.args.at.link a.behind s.0 a.hosts s.2.there)

pub loop-preserved : goal.loop-preserved
loop-preserved c = record {
  goes = λ w world may.
      let many : c.on_the_way-times.result ≡ length (frames_at w c.args.at) = c.on_the_way-times.ensures w world.sites may.goes_on in
      let few : length (frames_at w c.args.at) ≤ 64 =
      few_on_way c.args.at c.args.at.link c.args.sites.now w.sites world.sites in
      let below : c.loop.counter < c.on_the_way-times.result = c.loop-test.true in
      let a = c.loop.invariant.goes w world may in
      let ready = bounds_again w (Takes c.args.at) 290000000 c.loop.counter a.behind (omega arith) (omega (arith, many, few, below)) a.goes_on a.few in
      let there = there_still c.args.at.link a.behind w a.hosts may.there in
      let can : is_running a.behind (node_of c.args.at) ≡ true =
      sym (c.runs.ensures a.behind a.world a.goes_on ∙ ap (λ n. is_running a.behind n) c.node_of.ensures) ∙ c.if-not-runs.false in
      again_next w (Takes c.args.at) 290000000 c.loop.controller c.comes_to.new.controller c.loop.sites c.comes_to.new.sites c.args.noted.now.entries.items
      c.loop.noted.entries.items c.comes_to.new.noted.entries.items c.loop.counter a can (hosts_come a.behind c.args.at NextFrame)
      (unrefused a.behind (c.in_ok-comes_to.ensures.refusal a.behind a.world ready there) (c.in_ok-comes_to.ensures.stands a.behind a.world ready there));
  short = c.in_ok-comes_to.ensures.memory;
}

pub returns-then-not-runs-clause-stands : goal.returns-then-not-runs-clause-stands
returns-then-not-runs-clause-stands c w world may =
    let n : ℕ = length (frames_at w c.args.at) in
    let a = c.loop.invariant.goes w world may in
    let not : is_running a.behind (node_of c.args.at) ≡ false =
    sym (c.runs.ensures a.behind a.world a.goes_on ∙ ap (λ n. is_running a.behind n) c.node_of.ensures) ∙ c.if-not-runs.true in
    again_goes w (Takes c.args.at) 290000000 c.loop.controller c.loop.sites c.args.noted.now.entries.items c.loop.noted.entries.items c.loop.counter n a
    (again_stops w (Takes c.args.at) 290000000 c.loop.controller c.loop.sites c.args.noted.now.entries.items c.loop.noted.entries.items c.loop.counter n a
    (omega (arith, (c.on_the_way-times.ensures w world.sites may.goes_on), c.loop-test.true)) not)

pub returns-clause-stands : goal.returns-clause-stands
returns-clause-stands c w world may =
    let many : c.on_the_way-times.result ≡ length (frames_at w c.args.at) = c.on_the_way-times.ensures w world.sites may.goes_on in
    let last : c.loop.counter ≡ c.on_the_way-times.result = omega (arith, c.loop-test.false, c.loop.auto.counter-end) in
    let a = c.loop.invariant.goes w world may in
    rw (← last ∙ many) (again_goes w
    (Takes c.args.at) 290000000 c.loop.controller c.loop.sites c.args.noted.now.entries.items c.loop.noted.entries.items c.loop.counter c.loop.counter a
    (again_ends w (Takes c.args.at) 290000000 c.loop.controller c.loop.sites c.args.noted.now.entries.items c.loop.noted.entries.items c.loop.counter a))
