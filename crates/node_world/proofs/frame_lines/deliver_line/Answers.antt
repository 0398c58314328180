use Rattle.node_world.proofs.Words.{NextFrame, Takes, ap, arith, false, frames_at, is_running, length, node_of, on_ok_weaker, refl, subst, sym, taken_of, true}
use Rattle.node_world.proofs.Words.{ℕ, ◌<◌, ◌∙◌, ◌≡◌, ◌≢◌, ◌≤◌}
use Rattle.trace_model.specs.declared.entry.NoCause.TheVariants as no
use Rattle.trace_model.specs.declared.line.Line.TheVariants as line
use Rattle.node_world.proofs.HostsHear.{unrefused}
use Rattle.node_world.proofs.CountsStay.{taken_within}
use Rattle.node_world.proofs.LinesGo.{is_there, line_refused, off_takes_none, bare_takes_none, takes_one}
use Rattle.node_world.proofs.RoundsGo.{few_on_way, again_begins, again_ends, again_next, again_plays, again_stops, so_often, bounds_again}
use Rattle.node_world.proofs.RoundsGo.{hosts_come, there_still}
use Rattle.node_world.proofs.frame_lines.deliver_line.Goals as goal

pub returns-then-not-runs-clause-stands : goal.returns-then-not-runs-clause-stands
returns-then-not-runs-clause-stands c header w world may =
    let off : is_running w (node_of c.args.at) ≡ false =
    sym (c.runs.ensures w world may.goes_on ∙ ap (λ n. is_running w n) c.node_of-node.ensures) ∙ c.if-not-runs.true in
    on_ok_weaker c.refuse.result (line_refused w (line.Deliver c.args.at c.args.count)
    c.args.controller.now c.args.sites.now c.args.noted.now.entries.items c.refuse.new.noted.entries.items c.requires.nothing no.Off
    (off_takes_none w c.args.at off) world)
    c.refuse.ensures.noted

pub returns-then-standing-eq0-clause-stands : goal.returns-then-standing-eq0-clause-stands
returns-then-standing-eq0-clause-stands c header w world may =
    let on : is_running w (node_of c.args.at) ≡ true =
    sym (c.runs.ensures w world may.goes_on ∙ ap (λ n. is_running w n) c.node_of-node.ensures) ∙ c.if-not-runs.false in
    on_ok_weaker c.refuse-then-standing-eq0.result (line_refused w (line.Deliver c.args.at c.args.count)
    c.args.controller.now c.args.sites.now c.args.noted.now.entries.items c.refuse-then-standing-eq0.new.noted.entries.items c.requires.nothing no.Empty
    (bare_takes_none w c.args.at on (sym (c.on_the_way-standing.ensures w world.sites may.goes_on) ∙ c.if-standing-eq0.true)) world)
    c.refuse-then-standing-eq0.ensures.noted

pub loop-init : goal.loop-init
loop-init c = record {
  goes = λ header w world may. again_begins w
      (Takes c.args.at) 250000000 c.args.controller.now c.args.sites.now c.args.noted.now.entries.items world may.goes_on may.few;
  short = c.requires.memory;
}

pub comes_to-requires-clause-state : goal.comes_to-requires-clause-state
comes_to-requires-clause-state c =
    let s = c.requires.state in
    let many : c.taken-end.result ≡ taken_of c.args.count (frames_at s.1 c.args.at) =
    c.taken-end.ensures (frames_at s.1 c.args.at) (sym (c.on_the_way-standing.ensures s.1 s.2.sites s.3.goes_on)) in
    let few : taken_of c.args.count (frames_at s.1 c.args.at) ≤ 64 = taken_within c.args.count (frames_at s.1 c.args.at)
    (few_on_way c.args.at c.args.at.link c.args.sites.now s.1.sites s.2.sites) in
    let below : c.loop.counter < c.taken-end.result = c.loop-test.true in
    let a = c.loop.invariant.goes s.0 s.1 s.2 s.3 in
    let ready = bounds_again s.1 (Takes c.args.at) 250000000 c.loop.counter a.behind (omega arith) (omega (arith, many, few, below)) a.goes_on a.few in
    (a.behind, a.world, ready, (there_still c.args.at.link a.behind s.1 a.hosts (is_there c.args.at.link s.3 s.3.is_line.may_follow.0)))

pub loop-preserved : goal.loop-preserved
loop-preserved c = record {
  goes = λ header w world may.
      let many : c.taken-end.result ≡ taken_of c.args.count (frames_at w c.args.at) =
      c.taken-end.ensures (frames_at w c.args.at) (sym (c.on_the_way-standing.ensures w world.sites may.goes_on)) in
      let few : taken_of c.args.count (frames_at w c.args.at) ≤ 64 = taken_within c.args.count (frames_at w c.args.at)
      (few_on_way c.args.at c.args.at.link c.args.sites.now w.sites world.sites) in
      let below : c.loop.counter < c.taken-end.result = c.loop-test.true in
      let a = c.loop.invariant.goes header w world may in
      let ready = bounds_again w (Takes c.args.at) 250000000 c.loop.counter a.behind (omega arith) (omega (arith, many, few, below)) a.goes_on a.few in
      let there = there_still c.args.at.link a.behind w a.hosts (is_there c.args.at.link may may.is_line.may_follow.0) in
      let can : is_running a.behind (node_of c.args.at) ≡ true =
      sym (c.runs-in-loop.ensures a.behind a.world a.goes_on ∙ ap (λ n. is_running a.behind n) c.node_of-node.ensures) ∙ c.if-not-runs-2.false in
      again_next w (Takes c.args.at) 250000000 c.loop.controller c.comes_to.new.controller c.loop.sites c.comes_to.new.sites c.args.noted.now.entries.items
      c.loop.noted.entries.items c.comes_to.new.noted.entries.items c.loop.counter a can (hosts_come a.behind c.args.at NextFrame)
      (unrefused a.behind (c.in_ok-comes_to.ensures.refusal a.behind a.world ready there) (c.in_ok-comes_to.ensures.stands a.behind a.world ready there));
  short = c.in_ok-comes_to.ensures.memory;
}

pub returns-then-not-runs-2-clause-stands : goal.returns-then-not-runs-2-clause-stands
returns-then-not-runs-2-clause-stands c header w world may =
    let n : ℕ = taken_of c.args.count (frames_at w c.args.at) in
    let below : c.loop.counter < c.taken-end.result = c.loop-test.true in
    let a = c.loop.invariant.goes header w world may in
    let not : is_running a.behind (node_of c.args.at) ≡ false =
    sym (c.runs-in-loop.ensures a.behind a.world a.goes_on ∙ ap (λ n. is_running a.behind n) c.node_of-node.ensures) ∙ c.if-not-runs-2.true in
    let on : is_running w (node_of c.args.at) ≡ true =
    sym (c.runs.ensures w world may.goes_on ∙ ap (λ n. is_running w n) c.node_of-node.ensures) ∙ c.if-not-runs.false in
    let some : length (frames_at w c.args.at) ≢ 0 =
    subst (λ n. n ≢ 0) (c.on_the_way-standing.ensures w world.sites may.goes_on) c.if-standing-eq0.false in
    again_plays w (Takes c.args.at) 250000000 (line.Deliver c.args.at c.args.count) c.loop.controller c.loop.sites c.args.noted.now.entries.items
    c.loop.noted.entries.items c.loop.counter n a c.requires.nothing
    (takes_one w c.args.at on some) refl (again_stops w
    (Takes c.args.at) 250000000 c.loop.controller c.loop.sites c.args.noted.now.entries.items c.loop.noted.entries.items c.loop.counter n a
    (omega (arith, (c.taken-end.ensures (frames_at w c.args.at) (sym (c.on_the_way-standing.ensures w world.sites may.goes_on))), below)) not)

pub returns-clause-stands : goal.returns-clause-stands
returns-clause-stands c header w world may =
    let n : ℕ = taken_of c.args.count (frames_at w c.args.at) in
    let last : c.loop.counter ≡ c.taken-end.result = omega (arith, c.loop-test.false, c.loop.auto.counter-end) in
    let a = c.loop.invariant.goes header w world may in
    let on : is_running w (node_of c.args.at) ≡ true =
    sym (c.runs.ensures w world may.goes_on ∙ ap (λ n. is_running w n) c.node_of-node.ensures) ∙ c.if-not-runs.false in
    let some : length (frames_at w c.args.at) ≢ 0 =
    subst (λ n. n ≢ 0) (c.on_the_way-standing.ensures w world.sites may.goes_on) c.if-standing-eq0.false in
    again_plays w (Takes c.args.at) 250000000 (line.Deliver c.args.at c.args.count) c.loop.controller c.loop.sites c.args.noted.now.entries.items
    c.loop.noted.entries.items c.loop.counter c.loop.counter a c.requires.nothing
    (takes_one w c.args.at on some) (ap (λ k. so_often w (Takes c.args.at) k) (sym
    (last ∙ (c.taken-end.ensures (frames_at w c.args.at) (sym (c.on_the_way-standing.ensures w world.sites may.goes_on)))))) (again_ends w
    (Takes c.args.at) 250000000 c.loop.controller c.loop.sites c.args.noted.now.entries.items c.loop.noted.entries.items c.loop.counter a)
