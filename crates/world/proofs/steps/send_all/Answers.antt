use Rattle.std.proofs.Common.{◌≡◌, suc, ◌+◌, ◌-◌, arith}
use Rattle.world.proofs.Sending.{fetched_there, sending_starts, sending_goes_on, sending_stops, sending_ends, put_is, goes_out}
use Rattle.world.proofs.steps.send_all.Goals as goal

pub loop-init : goal.loop-init
loop-init c = (λ l m h. sending_starts h, omega arith)

pub next_out-requires : goal.next_out-requires
next_out-requires c =
    let state = c.requires.state in
    let s = c.loop.invariant.0 state.0 state.1 state.2 in (s.e, s.midway.here.node.has.stands)

pub returns-in_default-clause-stands : goal.returns-in_default-clause-stands
returns-in_default-clause-stands c l m h =
    let n = c.next_out in
    let s = c.loop.invariant.0 l m h in
    let node = s.midway.here.node in
    let about = fetched_there node (n.ensures.stands s.e node.has.stands) n.ensures.boxes.1 (n.ensures.answer s.e node.has.stands)
    (n.ensures.read s.e node.has.stands) in
    sending_stops s about c.in_default.is

pub returns-in_default-clause-grows : goal.returns-in_default-clause-grows
returns-in_default-clause-grows c = let i = c.loop.invariant.1 in omega (arith, i, c.loop-test.true)

pub put_frame-requires : goal.put_frame-requires
put_frame-requires c = let i = c.loop.invariant.1 in let r = c.requires.room in omega (arith, i, r, c.loop-test.true)

pub returns-in_err-put_frame-clause-grows : goal.returns-in_err-put_frame-clause-grows
returns-in_err-put_frame-clause-grows c =
    let i = c.loop.invariant.1 in let g = c.put_frame.ensures.grows in omega (arith, i, g, c.loop-test.true)

pub loop-preserved : goal.loop-preserved
loop-preserved c =
    let n = c.next_out in (
      λ l m h.
          (let left : 12 - c.loop.counter ≡ suc (12 - (c.loop.counter + 1)) = omega (arith, c.loop-test.true) in
          let s = rw left at (c.loop.invariant.0 l m h) in
          let node = s.midway.here.node in
          let about = fetched_there node (n.ensures.stands s.e node.has.stands) n.ensures.boxes.1 (n.ensures.answer s.e node.has.stands)
          (n.ensures.read s.e node.has.stands) in
          sending_goes_on s about c.in-Some.is
          (λ k e f midway is read. let r = c.in_ok-put_frame.ensures.stands k f (goes_out midway) is read in (put_is f midway r.0, r.1))),
      (let i = c.loop.invariant.1 in let g = c.put_frame.ensures.grows in omega (arith, i, g)),
    )

pub returns-clause-stands : goal.returns-clause-stands
returns-clause-stands c l m h =
    let none : 12 - c.loop.counter ≡ 0 = omega (arith, c.loop-test.false) in
    sending_ends (rw none at (c.loop.invariant.0 l m h))

pub returns-clause-grows : goal.returns-clause-grows
returns-clause-grows c = let i = c.loop.invariant.1 in let e = c.loop.auto.counter-end in omega (arith, i, e)
