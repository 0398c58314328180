use Rattle.node_world.proofs.Words.{AreToTick, List, Site, ap, arith, length, map, near_ticks, slice_index_or, subst, ℕ, ◌++◌, ◌<◌, ◌∷◌, ◌≡◌, ◌≤◌}
use Rattle.node_world.specs.Whole.{IsToTick}
use Rattle.node_world.proofs.WorldsTick.{older, older_world, older_timely, older_goes_on, older_resets, older_few, older_is, then_ticks, all_tick}
use Rattle.node_world.proofs.WorldsTick.{hosts_may_tick, tick_of, tick_told, ticks_are}
use Rattle.node_world.proofs.ControllersHear.{room_kept}
use Rattle.node_world.proofs.SitesKept.{of_these, walk_begins, walk_next, walk_ends}
use Rattle.node_world.proofs.HostsInWorlds.{counted_in_tick, room_for_all}
use Rattle.node_world.proofs.steps.tick_world.Goals as goal

it_may : (sites front : List Site) (s : Site) (back : List Site) → sites ≡ front ++ s ∷ back → AreToTick sites → IsToTick s
it_may sites front s back is a = of_these IsToTick front s back (subst AreToTick is a)

pub tick_controller-requires-clause-state : goal.tick_controller-requires-clause-state
tick_controller-requires-clause-state c =
    let q = c.requires.state in
    let a = c.in_ok-age_all.ensures.stands q.0 q.1.sites in (
      older_world q.0,
      older_is c.args.controller.now c.args.sites.now c.age_all.new.sites q.0 q.1 a.0,
      older_goes_on q.0 q.2.goes_on,
      older_timely q.0 q.3,
    )

pub tick_controller-requires-clause-room : goal.tick_controller-requires-clause-room
tick_controller-requires-clause-room c =
    let q = c.requires.state in
    let a = c.in_ok-age_all.ensures.stands q.0 q.1.sites in
    room_kept c.args.sites.now c.age_all.new.sites q.0.sites (map older q.0.sites) q.1.sites a.0 (older_resets q.0.sites)
    (room_for_all c.args.sites.now q.0 q.1.sites q.2.few)

pub loop-i-init : goal.loop-i-init
loop-i-init c = record {
  goes = λ hosts a may. (walk_begins tick_of tick_told c.tick_controller.new.sites hosts c.tick_controller.new.noted.entries.items a).walked;
  memory = c.in_ok-tick_controller.ensures.memory;
}

pub tick_host-requires-clause-state : goal.tick_host-requires-clause-state
tick_host-requires-clause-state c =
    let q = c.requires.state in
    let a = c.in_ok-age_all.ensures.stands q.0 q.1.sites in
    let first = then_ticks c.tick_controller.new.controller c.tick_controller.new.sites q.0 c.args.noted.now.entries.items
    c.age_all.new.noted.entries.items c.tick_controller.new.noted.entries.items a.1
    (c.in_ok-tick_controller.ensures.stands (older_world q.0) (older_is c.args.controller.now c.args.sites.now c.age_all.new.sites q.0 q.1 a.0)
    (older_goes_on q.0 q.2.goes_on) (older_timely q.0 q.3) (older_few q.0 (counted_in_tick c.args.controller.now q.0 q.1.controller q.2.few))) in
    let to_tick = hosts_may_tick q.0 c.args.sites.now q.2 q.3 q.1.sites in
    let now = c.loop-i.sites in
    let i : ℕ = c.loop-i.i in
    let lt : i < length now = omega (arith, c.loop-i-test.true, c.loop-i.auto.sites) in
    let done = c.loop-i.invariant.goes (near_ticks q.0).0.sites first.world.sites to_tick in
    let n = walk_next tick_of tick_told now (near_ticks q.0).0.sites c.tick_controller.new.noted.entries.items c.loop-i.noted.entries.items i
    (slice_index_or now i c.index-sites-i.result) done lt (ap (slice_index_or now i) c.index-sites-i.is) in
    let may = it_may (near_ticks q.0).0.sites done.done n.site n.back n.is to_tick in
    (n.site, n.here, may.host, may.may)

pub tick_host-requires-clause-room : goal.tick_host-requires-clause-room
tick_host-requires-clause-room c =
    let q = c.requires.state in
    let a = c.in_ok-age_all.ensures.stands q.0 q.1.sites in
    let first = then_ticks c.tick_controller.new.controller c.tick_controller.new.sites q.0 c.args.noted.now.entries.items
    c.age_all.new.noted.entries.items c.tick_controller.new.noted.entries.items a.1
    (c.in_ok-tick_controller.ensures.stands (older_world q.0) (older_is c.args.controller.now c.args.sites.now c.age_all.new.sites q.0 q.1 a.0)
    (older_goes_on q.0 q.2.goes_on) (older_timely q.0 q.3) (older_few q.0 (counted_in_tick c.args.controller.now q.0 q.1.controller q.2.few))) in
    let to_tick = hosts_may_tick q.0 c.args.sites.now q.2 q.3 q.1.sites in
    let now = c.loop-i.sites in
    let i : ℕ = c.loop-i.i in
    let lt : i < length now = omega (arith, c.loop-i-test.true, c.loop-i.auto.sites) in
    let done = c.loop-i.invariant.goes (near_ticks q.0).0.sites first.world.sites to_tick in
    let n = walk_next tick_of tick_told now (near_ticks q.0).0.sites c.tick_controller.new.noted.entries.items c.loop-i.noted.entries.items i
    (slice_index_or now i c.index-sites-i.result) done lt (ap (slice_index_or now i) c.index-sites-i.is) in
    rw n.here.wires.count (it_may (near_ticks q.0).0.sites done.done n.site n.back n.is to_tick).room

pub loop-i-preserved : goal.loop-i-preserved
loop-i-preserved c =
    let now = c.loop-i.sites in
    let i : ℕ = c.loop-i.i in
    let lt : i < length now = omega (arith, c.loop-i-test.true, c.loop-i.auto.sites) in
    record {
      goes = λ hosts a to_tick.
          let done = c.loop-i.invariant.goes hosts a to_tick in
          let n = walk_next tick_of tick_told now hosts c.tick_controller.new.noted.entries.items
          c.loop-i.noted.entries.items i (slice_index_or now i c.index-sites-i.result) done lt (ap (slice_index_or now i) c.index-sites-i.is) in
          let may = it_may hosts done.done n.site n.back n.is to_tick in
          let r = c.in_ok-tick_host.ensures.stands n.site n.here may.host may.may in
          (n.goes c.tick_host.new.site c.tick_host.new.noted.entries.items r.site r.noted).walked;
      memory = c.in_ok-tick_host.ensures.memory;
    }

pub returns-clause-stands : goal.returns-clause-stands
returns-clause-stands c w world ready timely =
    let a = c.in_ok-age_all.ensures.stands w world.sites in
    let first = then_ticks c.tick_controller.new.controller c.tick_controller.new.sites w c.args.noted.now.entries.items
    c.age_all.new.noted.entries.items c.tick_controller.new.noted.entries.items a.1
    (c.in_ok-tick_controller.ensures.stands (older_world w) (older_is c.args.controller.now c.args.sites.now c.age_all.new.sites w world a.0)
    (older_goes_on w ready.goes_on) (older_timely w timely) (older_few w (counted_in_tick c.args.controller.now w world.controller ready.few))) in
    let to_tick = hosts_may_tick w c.args.sites.now ready timely world.sites in
    let now = c.loop-i.sites in
    let mid = c.tick_controller.new.noted.entries.items in
    let hosts = (near_ticks w).0.sites in
    let over : length now ≤ c.loop-i.i = omega (arith, c.loop-i-test.false, c.loop-i.auto.sites) in
    let e = walk_ends tick_of tick_told now hosts mid c.loop-i.noted.entries.items c.loop-i.i (c.loop-i.invariant.goes hosts first.world.sites to_tick) over in
    all_tick c.tick_controller.new.controller c.tick_controller.new.sites now w c.args.noted.now.entries.items mid c.loop-i.noted.entries.items first
    (rw (ticks_are hosts) (record { sites = e.0; noted = e.1 }))
