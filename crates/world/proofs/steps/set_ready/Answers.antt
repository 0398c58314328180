use Rattle.world.proofs.Words.{Hold, LinkEnd, false, not, on_ok, turn}
use Rattle.world.proofs.Bare.{hold_most, room_here, midway}
use Rattle.world.proofs.steps.set_ready.Goals as goal

pub hold-requires : goal.hold-requires
hold-requires c =
    let s = c.requires.state in
    (s.0.controller.side, s.1.here.has.node, room_here s.1)

pub send_all-requires-clause-state : goal.send_all-requires-clause-state
send_all-requires-clause-state c =
    let s = c.requires.state in
    let m : LinkEnd = s.0.controller.side in
    let room = room_here s.1 in
    let e : LinkEnd = turn m (Hold (not c.args.ready)) in (
      s.0,
      e,
      midway false s.1 (c.hold.ensures m s.1.here.has.node room) (hold_most m (not c.args.ready) s.1.here.idle),
    )

pub returns-clause-stands : goal.returns-clause-stands
returns-clause-stands c l h =
    let m : LinkEnd = l.controller.side in
    let room = room_here h in
    let e : LinkEnd = turn m (Hold (not c.args.ready)) in
    on_ok c.send_all.result
    (c.send_all.ensures.stands l e
    (midway false h (c.hold.ensures m h.here.has.node room) (hold_most m (not c.args.ready) h.here.idle)))
    (λ r. record { stands = r.0; noted = r.1 })
