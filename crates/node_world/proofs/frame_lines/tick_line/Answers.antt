use Rattle.node_world.proofs.Words.{AreTimely, Ticks, ap, arith, refl, subst, sym, unwrap_or, ◌<◌, ◌∙◌, ◌≡◌, ◌≤◌}
use Rattle.trace_model.specs.declared.line.Line.TheVariants as line
use Rattle.node_world.proofs.CountsStay.{ticks_within}
use Rattle.node_world.proofs.RoundsGo.{again_begins, again_ends, again_next, again_plays, so_often, bounds_again, hosts_tick_too}
use Rattle.node_world.proofs.frame_lines.tick_line.Goals as goal

pub loop-init : goal.loop-init
loop-init c = record {
  goes = λ header w world may. again_begins w Ticks 250000000 c.args.controller.now c.args.sites.now c.args.noted.now.entries.items world may.goes_on may.few;
  short = c.requires.memory;
}

pub tick_world-requires-clause-state : goal.tick_world-requires-clause-state
tick_world-requires-clause-state c =
    let s = c.requires.state in
    let many : c.unwrap_or-end.result ≡ unwrap_or c.args.times 1 = c.unwrap_or-end.ensures in
    let few : unwrap_or c.args.times 1 ≤ 100 = ticks_within c.args.times s.3.is_line.may_follow in
    let below : c.loop.counter < c.unwrap_or-end.result = c.loop-test.true in
    let a = c.loop.invariant.goes s.0 s.1 s.2 s.3 in
    let ready = bounds_again s.1 Ticks
    250000000 c.loop.counter a.behind (omega arith) (omega (arith, many, few, below)) a.goes_on a.few in
    let ends = again_ends s.1 Ticks
    250000000 c.loop.controller c.loop.sites c.args.noted.now.entries.items c.loop.noted.entries.items c.loop.counter a in
    let timely : AreTimely a.behind = subst AreTimely (ap (λ p. p.0) ends)
    (s.3.ticks c.args.times refl c.loop.counter (omega (arith, many, below))) in
    (a.behind, a.world, ready, timely)

pub loop-preserved : goal.loop-preserved
loop-preserved c = record {
  goes = λ header w world may.
      let many : c.unwrap_or-end.result ≡ unwrap_or c.args.times 1 = c.unwrap_or-end.ensures in
      let few : unwrap_or c.args.times 1 ≤ 100 = ticks_within c.args.times may.is_line.may_follow in
      let below : c.loop.counter < c.unwrap_or-end.result = c.loop-test.true in
      let a = c.loop.invariant.goes header w world may in
      let ready = bounds_again w Ticks
      250000000 c.loop.counter a.behind (omega arith) (omega (arith, many, few, below)) a.goes_on a.few in
      let ends = again_ends w Ticks
      250000000 c.loop.controller c.loop.sites c.args.noted.now.entries.items c.loop.noted.entries.items c.loop.counter a in
      let timely : AreTimely a.behind = subst AreTimely (ap (λ p. p.0) ends)
      (may.ticks c.args.times refl c.loop.counter (omega (arith, many, below))) in
      again_next w Ticks 250000000 c.loop.controller c.tick_world.new.controller c.loop.sites c.tick_world.new.sites c.args.noted.now.entries.items
      c.loop.noted.entries.items c.tick_world.new.noted.entries.items c.loop.counter a refl (hosts_tick_too a.behind)
      (c.in_ok-tick_world.ensures.stands a.behind a.world ready timely);
  short = c.in_ok-tick_world.ensures.memory;
}

pub returns-clause-stands : goal.returns-clause-stands
returns-clause-stands c header w world may =
    let last : c.loop.counter ≡ c.unwrap_or-end.result = omega (arith, c.loop-test.false, c.loop.auto.counter-end) in
    let a = c.loop.invariant.goes header w world may in
    again_plays w Ticks 250000000 (line.Tick c.args.times) c.loop.controller c.loop.sites c.args.noted.now.entries.items c.loop.noted.entries.items
    c.loop.counter c.loop.counter a c.requires.nothing refl (ap (λ k. so_often w Ticks k) (sym (last ∙ c.unwrap_or-end.ensures))) (again_ends w
    Ticks 250000000 c.loop.controller c.loop.sites c.args.noted.now.entries.items c.loop.noted.entries.items c.loop.counter a)
