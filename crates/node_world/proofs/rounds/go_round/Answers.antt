use Rattle.node_world.proofs.Words.{ap, arith, end_c, end_h, ends_in_order, ends_take_all, length, on_ok_weaker, slice_index_or, ℕ, ◌*◌, ◌+◌, ◌<◌, ◌∷◌}
use Rattle.node_laws.proofs.rounds.Allowing.{ends_of}
use Rattle.node_world.proofs.RoundsGo.{link_taken, may_take, next_link, round_gone, taken_next, taking_begins, taking_ends}
use Rattle.node_world.proofs.rounds.go_round.Goals as goal

pub loop-i-init : goal.loop-i-init
loop-i-init c = record {
  goes = λ w world may. taking_begins w c.args.controller.now c.args.sites.now c.args.noted.now.entries.items world may;
  short = c.requires.memory;
}

pub take_all-requires-clause-state : goal.take_all-requires-clause-state
take_all-requires-clause-state c =
    let s = c.requires.state in
    let below : c.loop-i.i < length c.loop-i.sites = omega (arith, c.loop-i-test.true, c.loop-i.auto.sites) in
    let site = slice_index_or c.loop-i.sites c.loop-i.i c.index-sites-i.result in
    let h : ℕ = site.host in
    let n = next_link s.0 c.loop-i.controller c.loop-i.sites c.args.noted.now.entries.items c.loop-i.noted.entries.items c.loop-i.i site
    (c.loop-i.invariant.goes s.0 s.1 s.2.takes) s.2.takes below (ap (slice_index_or c.loop-i.sites c.loop-i.i) c.index-sites-i.is) in
    let may = may_take s.0
    c.loop-i.controller c.loop-i.sites c.args.noted.now.entries.items c.loop-i.noted.entries.items (ends_in_order s.0) (end_c h) (end_h h ∷ ends_of n.back)
    (250000000 + 256 * c.loop-i.i) n.done n.back n.taken (omega (arith, n.few)) n.is in
    (n.taken.behind, n.taken.gone.world, may)

pub take_all-requires-in-loop-i-clause-state : goal.take_all-requires-in-loop-i-clause-state
take_all-requires-in-loop-i-clause-state c =
    let s = c.requires.state in
    let below : c.loop-i.i < length c.loop-i.sites = omega (arith, c.loop-i-test.true, c.loop-i.auto.sites) in
    let site = slice_index_or c.loop-i.sites c.loop-i.i c.index-sites-i.result in
    let h : ℕ = site.host in
    let n = next_link s.0 c.loop-i.controller c.loop-i.sites c.args.noted.now.entries.items c.loop-i.noted.entries.items c.loop-i.i site
    (c.loop-i.invariant.goes s.0 s.1 s.2.takes) s.2.takes below (ap (slice_index_or c.loop-i.sites c.loop-i.i) c.index-sites-i.is) in
    let few = n.few in
    let may = may_take s.0
    c.loop-i.controller c.loop-i.sites c.args.noted.now.entries.items c.loop-i.noted.entries.items (ends_in_order s.0) (end_c h) (end_h h ∷ ends_of n.back)
    (250000000 + 256 * c.loop-i.i) n.done n.back n.taken (omega (arith, few)) n.is in
    let t = taken_next s.0
    c.loop-i.controller c.take_all.new.controller c.loop-i.sites c.take_all.new.sites c.args.noted.now.entries.items c.loop-i.noted.entries.items
    c.take_all.new.noted.entries.items (ends_in_order s.0) (end_c h) (end_h h ∷ ends_of n.back) (250000000 + 256 * c.loop-i.i) n.taken
    (c.in_ok-take_all.ensures.stands n.taken.behind n.taken.gone.world may) in
    let then = may_take s.0
    c.take_all.new.controller c.take_all.new.sites c.args.noted.now.entries.items c.take_all.new.noted.entries.items (ends_in_order s.0) (end_h h)
    (ends_of n.back) (250000000 + 256 * c.loop-i.i + 128) n.done n.back t (omega (arith, few)) n.is in
    (t.behind, t.gone.world, then)

pub loop-i-preserved : goal.loop-i-preserved
loop-i-preserved c = record {
  goes = λ w world ready.
      let below : c.loop-i.i < length c.loop-i.sites = omega (arith, c.loop-i-test.true, c.loop-i.auto.sites) in
      let site = slice_index_or c.loop-i.sites c.loop-i.i c.index-sites-i.result in
      let h : ℕ = site.host in
      let n = next_link w c.loop-i.controller c.loop-i.sites c.args.noted.now.entries.items c.loop-i.noted.entries.items c.loop-i.i site
      (c.loop-i.invariant.goes w world ready) ready below (ap (slice_index_or c.loop-i.sites c.loop-i.i) c.index-sites-i.is) in
      let few = n.few in
      let may = may_take w
      c.loop-i.controller c.loop-i.sites c.args.noted.now.entries.items c.loop-i.noted.entries.items (ends_in_order w) (end_c h) (end_h h ∷ ends_of n.back)
      (250000000 + 256 * c.loop-i.i) n.done n.back n.taken (omega (arith, few)) n.is in
      let t = taken_next w
      c.loop-i.controller c.take_all.new.controller c.loop-i.sites c.take_all.new.sites c.args.noted.now.entries.items c.loop-i.noted.entries.items
      c.take_all.new.noted.entries.items (ends_in_order w) (end_c h) (end_h h ∷ ends_of n.back) (250000000 + 256 * c.loop-i.i) n.taken
      (c.in_ok-take_all.ensures.stands n.taken.behind n.taken.gone.world may) in
      let then = may_take w
      c.take_all.new.controller c.take_all.new.sites c.args.noted.now.entries.items c.take_all.new.noted.entries.items (ends_in_order w) (end_h h)
      (ends_of n.back) (250000000 + 256 * c.loop-i.i + 128) n.done n.back t (omega (arith, few)) n.is in
      let last = taken_next w
      c.take_all.new.controller c.take_all-in-loop-i.new.controller c.take_all.new.sites c.take_all-in-loop-i.new.sites c.args.noted.now.entries.items
      c.take_all.new.noted.entries.items c.take_all-in-loop-i.new.noted.entries.items (ends_in_order w) (end_h h) (ends_of n.back)
      (250000000 + 256 * c.loop-i.i + 128) t (c.in_ok-take_all-2.ensures.stands t.behind t.gone.world then) in
      link_taken w c.loop-i.controller c.take_all-in-loop-i.new.controller c.loop-i.sites c.take_all-in-loop-i.new.sites c.args.noted.now.entries.items
      c.loop-i.noted.entries.items c.take_all-in-loop-i.new.noted.entries.items c.loop-i.i h n last;
  short = c.in_ok-take_all-2.ensures.memory;
}

pub tick_world-requires-clause-state : goal.tick_world-requires-clause-state
tick_world-requires-clause-state c =
    let q = c.requires.state in
    let took = taking_ends q.0
    c.loop-i.controller c.loop-i.sites c.args.noted.now.entries.items c.loop-i.noted.entries.items c.loop-i.i (c.loop-i.invariant.goes q.0 q.1 q.2.takes)
    q.2.takes (omega (arith, c.loop-i-test.false, c.loop-i.auto.sites)) in
    ((ends_take_all q.0 (ends_in_order q.0)).0, took.gone.world, took.within, q.2.timely)

pub returns-clause-stands : goal.returns-clause-stands
returns-clause-stands c w world may =
    let took = taking_ends w
    c.loop-i.controller c.loop-i.sites c.args.noted.now.entries.items c.loop-i.noted.entries.items c.loop-i.i (c.loop-i.invariant.goes w world may.takes)
    may.takes (omega (arith, c.loop-i-test.false, c.loop-i.auto.sites)) in
    on_ok_weaker c.tick_world.result (λ b. round_gone w
    c.loop-i.controller c.tick_world.new.controller c.loop-i.sites c.tick_world.new.sites c.args.noted.now.entries.items
    c.loop-i.noted.entries.items c.tick_world.new.noted.entries.items took.gone b)
    (c.tick_world.ensures.stands (ends_take_all w (ends_in_order w)).0 took.gone.world took.within may.timely)
