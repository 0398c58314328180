use Rattle.node_ends.proofs.Words.{SetAside, after_turn, ap, arith, place_in, ◌∙◌}
use Rattle.node_ends.proofs.Opening.{opened}
use Rattle.node_ends.proofs.Changing.{lent_at, becomes_at, owner_lent, still_nowhere, low_place}
use Rattle.node_ends.proofs.ends.Ends.set_aside.Goals as goal

pub returns-in_default : goal.returns-in_default
returns-in_default c ports stands =
    still_nowhere c.args.host (after_turn SetAside) c.place_of.result
    (c.place_of.ensures.place ∙ ap (place_in c.args.host) c.as_slice.ensures.value) c.in_default.not-Some c.self.view_is stands

pub set_aside-requires-clause-stands : goal.set_aside-requires-clause-stands
set_aside-requires-clause-stands c =
    let l = lent_at c.args.host c.in-Some.i c.index_mut-seat.result.now (c.in-Some.ensures.place ∙ ap (place_in c.args.host) c.as_slice.ensures.value)
    c.index_mut-seat.ensures.value c.self.invariant.1 in
    (l.port.side, l.stands.holds, l.stands.aside)

pub set_aside-requires-clause-owner : goal.set_aside-requires-clause-owner
set_aside-requires-clause-owner c =
    owner_lent c.args.host c.in-Some.i c.index_mut-seat.result.now (c.in-Some.ensures.place ∙ ap (place_in c.args.host) c.as_slice.ensures.value)
    c.index_mut-seat.ensures.value c.self.invariant.1

pub overflow_cast-i : goal.overflow_cast-i
overflow_cast-i c = omega (arith, low_place c.in-Some.i c.in-Some.ensures.inside c.as_slice.ensures.value c.self.invariant.1)

pub overflow_mul-i : goal.overflow_mul-i
overflow_mul-i c = omega (arith, low_place c.in-Some.i c.in-Some.ensures.inside c.as_slice.ensures.value c.self.invariant.1)

pub returns-in-Some : goal.returns-in-Some
returns-in-Some c ports stands =
    becomes_at ports c.args.host c.in-Some.i c.index_mut-seat.result.now c.set_aside.new.self
    (c.in-Some.ensures.place ∙ ap (place_in c.args.host) c.as_slice.ensures.value)
    c.index_mut-seat.ensures.value c.set_aside.ensures (opened c.self.view_is stands)

pub invariant_of-self : goal.invariant_of-self
invariant_of-self c =
    let i = c.self.invariant in (
      _,
      becomes_at i.0 c.args.host c.in-Some.i c.index_mut-seat.result.now c.set_aside.new.self
          (c.in-Some.ensures.place ∙ ap (place_in c.args.host) c.as_slice.ensures.value)
          c.index_mut-seat.ensures.value c.set_aside.ensures i.1,
    )
