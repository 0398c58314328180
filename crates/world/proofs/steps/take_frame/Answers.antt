use Rattle.world.proofs.Words.{FetchMessage, IsTakenOff, LinkEnd, Some, Take, after_input, left_after, on_ok, sym, turn, ◌∙◌}
use Rattle.world.proofs.Bare.{took_most, bare_here, room_here}
use Rattle.world.proofs.Sending.{takes_first, takes_none, taken_midway, reads_first, taken}
use Rattle.world.proofs.steps.take_frame.Goals as goal

pub returns-in_default-clause-stands : goal.returns-in_default-clause-stands
returns-in_default-clause-stands c l h short =
    let p = c.pop_front in
    takes_none h (record { first_is = sym c.in_default.is ∙ p.ensures.value; new_is = p.ensures.items })

pub take-requires-clause-stands : goal.take-requires-clause-stands
take-requires-clause-stands c =
    let s = c.requires.state in
    (s.0.controller.side, s.1.here.has.node, room_here s.1)

pub take-requires-clause-read : goal.take-requires-clause-read
take-requires-clause-read c = (c.in-Some.flying.lpdu, c.read_lpdu-read.ensures.says)

pub send_all-requires-clause-state : goal.send_all-requires-clause-state
send_all-requires-clause-state c =
    let s = c.requires.state in
    let p = c.pop_front in
    let m : LinkEnd = s.0.controller.side in
    let room = room_here s.1 in
    let bare = bare_here s.1 in
    let off : IsTakenOff c.args.near.now.wire p.new.self (Some c.in-Some.flying) =
    record { first_is = sym c.in-Some.is ∙ p.ensures.value; new_is = p.ensures.items } in
    let f = takes_first s.1 off in
    let e : LinkEnd = turn (after_input m (Take f.x.frame)) FetchMessage in
    let t = c.in_ok-take.ensures m f.x.frame s.1.here.has.node room (c.read_lpdu-read.ensures.says ∙ reads_first f) s.2 in (
      left_after s.0 f.x f.xs,
      e,
      taken_midway f s.1 t.0 (took_most m f.x.frame bare s.1.here.idle) c.max-near.ensures,
    )

pub returns-clause-stands : goal.returns-clause-stands
returns-clause-stands c l h short =
    let p = c.pop_front in
    let m : LinkEnd = l.controller.side in
    let room = room_here h in
    let bare = bare_here h in
    let off : IsTakenOff c.args.near.now.wire p.new.self (Some c.in-Some.flying) =
    record { first_is = sym c.in-Some.is ∙ p.ensures.value; new_is = p.ensures.items } in
    let f = takes_first h off in
    let e : LinkEnd = turn (after_input m (Take f.x.frame)) FetchMessage in
    let t = c.in_ok-take.ensures m f.x.frame h.here.has.node room (c.read_lpdu-read.ensures.says ∙ reads_first f) short in
    on_ok c.send_all.result
    (c.send_all.ensures.stands (left_after l f.x f.xs) e
    (taken_midway f h t.0 (took_most m f.x.frame bare h.here.idle) c.max-near.ensures))
    (λ r. taken f h c.max-near.ensures c.place-place.ensures c.in_ok-push.ensures.items t.1 r)
