use Rattle.world.proofs.Words.{AreNoted, Link, LinkEnd, LinkStandsFor, List, Noted, Tick, after_input, append-nil, ended_by, is_some, on_ok, side_of, subst}
use Rattle.world.proofs.Words.{sym, with_ended}
use Rattle.world.proofs.Bare.{tick_most, bare_here, room_here, midway, input_noted, idle_ticks, idle_entries}
use Rattle.world.proofs.steps.tick_end.Goals as goal

pub tick-requires : goal.tick-requires
tick-requires c =
    let s = c.requires.state in
    (s.0.controller.side, s.1.here.has.node, room_here s.1)

pub send_all-requires-clause-state : goal.send_all-requires-clause-state
send_all-requires-clause-state c =
    let s = c.requires.state in
    let m : LinkEnd = s.0.controller.side in
    let room = room_here s.1 in
    let bare = bare_here s.1 in
    let t = c.in_ok-tick.ensures m s.1.here.has.node room s.2 in (
      with_ended s.0 (is_some (ended_by m Tick)),
      after_input m Tick,
      midway (is_some (ended_by m Tick)) s.1 t.0 (tick_most m bare s.1.here.idle),
    )

pub returns-clause-stands : goal.returns-clause-stands
returns-clause-stands c l h short =
    let m : LinkEnd = l.controller.side in
    let room = room_here h in
    let bare = bare_here h in
    let t = c.in_ok-tick.ensures m h.here.has.node room short in
    on_ok c.send_all.result
    (c.send_all.ensures.stands (with_ended l (is_some (ended_by m Tick))) (after_input m Tick)
    (midway (is_some (ended_by m Tick)) h t.0 (tick_most m bare h.here.idle)))
    (λ r. (r.0, input_noted Tick c.args.entries.now.items h c.place-place.ensures t.1 r.1))

-- where nothing is under way nothing changes
pub returns-then-is_idle-clause-stands : goal.returns-then-is_idle-clause-stands
returns-then-is_idle-clause-stands c l h short =
    let still = c.is_idle.ensures l.controller.side h.here.has.node c.if-is_idle.true in
    let before = c.args.entries.now.items in (
      subst (λ (x : Link). LinkStandsFor c.args.near.now c.args.far.now c.args.resets.now x) (sym (idle_ticks l still)) h,
      subst (λ (es : List Noted). AreNoted c.args.at before before es) (sym (idle_entries (side_of c.args.at) l still)) (sym (append-nil before)),
    )
