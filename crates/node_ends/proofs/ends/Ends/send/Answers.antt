use Rattle.node_ends.proofs.Words.{End, EndLeavesOthers, EndStandsFor, FromNode, Give, HoldsSeat, IsSendable, Machine, Message, PoolState, Seat, SeatBecomes}
use Rattle.node_ends.proofs.Words.{after_input, after_turn, ap, place_in, refl, subst, sym, turn, without_got, ◌∙◌}
use Rattle.node_ends.specs.Ends.{given_at}
use Rattle.node_ends.proofs.Changing.{nowhere, lent_at, becomes_at, still_nowhere, turned}
use Rattle.node_ends.proofs.Opening.{opened}
use Rattle.node_ends.proofs.Turning.{give_got, give_without, told_length, where_refused, none_written}
use Rattle.node_ends.proofs.Moving.{call_holds, call_moves}
use Rattle.node_ends.proofs.Blocks.{give_aside}
use Rattle.node_ends.proofs.ends.Ends.send.Goals as goal

-- an end to which a message was given
given : {old new : PoolState} {s : Seat} (side : End) (x : Message) (m : Machine) → HoldsSeat old s m → IsSendable x
    → EndLeavesOthers old new s.side side → ((m : Machine) → EndStandsFor s.side old m → EndStandsFor side new (after_input m (FromNode (Give x))))
    → SeatBecomes old new s (record s { side = side }) (after_turn (Give x))
given {old} {new} {s} side x now holds sendable leaves stands = turned {x = Give x} (record {
  sendable = (sendable, tt);
  moves = call_moves old new s.side side (without_got now) holds.stands leaves;
  desk = refl;
  late = refl;
  ended = refl;
  acked = refl;
  stands = λ m h same. (
    call_holds old new s.side side s.waiting m (turn m (Give x)) h leaves
        (subst (λ n. EndStandsFor side new n) (give_without m x) (stands (without_got m) h.stands)) (give_got m x),
    same ∙ sym (give_aside m x),
  );
})

pub returns-in_default-clause-stands : goal.returns-in_default-clause-stands
returns-in_default-clause-stands c ports stands =
    still_nowhere c.args.host (after_turn (Give (c.args.pipe, c.args.message.now))) c.place_of.result
    (c.place_of.ensures.place ∙ ap (place_in c.args.host) c.as_slice.ensures.value) c.in_default.not-Some c.self.view_is stands

pub returns-in_default-clause-answer : goal.returns-in_default-clause-answer
returns-in_default-clause-answer c ports stands =
    let f = after_turn (Give (c.args.pipe, c.args.message.now)) in
    ap (given_at (c.args.pipe, c.args.message.now))
    (sym (nowhere c.args.host f c.place_of.result (c.place_of.ensures.place ∙ ap (place_in c.args.host) c.as_slice.ensures.value)
    c.in_default.not-Some (opened c.self.view_is stands)).1)

pub returns-in_default-clause-unchanged : goal.returns-in_default-clause-unchanged
returns-in_default-clause-unchanged c = refl

pub send-requires-clause-stands : goal.send-requires-clause-stands
send-requires-clause-stands c =
    let l = lent_at c.args.host c.in-Some.i c.index_mut-seat.result.now (c.in-Some.ensures.place ∙ ap (place_in c.args.host) c.as_slice.ensures.value)
    c.index_mut-seat.ensures.value c.self.invariant.1 in
    (without_got l.port.side, l.stands.holds.stands)

pub returns-clause-answer : goal.returns-clause-answer
returns-clause-answer c ports stands =
    let l = lent_at c.args.host c.in-Some.i c.index_mut-seat.result.now (c.in-Some.ensures.place ∙ ap (place_in c.args.host) c.as_slice.ensures.value)
    c.index_mut-seat.ensures.value (opened c.self.view_is stands) in
    c.send.ensures.answer (without_got l.port.side) l.stands.holds.stands ∙ ap (given_at (c.args.pipe, c.args.message.now)) (sym l.port_is)

pub returns-clause-long : goal.returns-clause-long
returns-clause-long c =
    let l = lent_at c.args.host c.in-Some.i c.index_mut-seat.result.now (c.in-Some.ensures.place ∙ ap (place_in c.args.host) c.as_slice.ensures.value)
    c.index_mut-seat.ensures.value c.self.invariant.1 in
    told_length l.port.side (c.args.pipe, c.args.message.now) (c.send.ensures.answer (without_got l.port.side) l.stands.holds.stands)

pub returns-clause-unchanged : goal.returns-clause-unchanged
returns-clause-unchanged c =
    where_refused c.send.result
    (λ e. none_written c.in-Some.i c.index_mut-seat.result.now _ c.index_mut-seat.ensures.value e.0
    (ap (λ (k : End). record c.index_mut-seat.result.now { side = k }) e.1) c.self.view_is) c.send.ensures.refused

pub returns-clause-stands : goal.returns-clause-stands
returns-clause-stands c ports stands =
    let l = lent_at c.args.host c.in-Some.i c.index_mut-seat.result.now (c.in-Some.ensures.place ∙ ap (place_in c.args.host) c.as_slice.ensures.value)
    c.index_mut-seat.ensures.value c.self.invariant.1 in
    becomes_at ports c.args.host c.in-Some.i c.index_mut-seat.result.now _
    (c.in-Some.ensures.place ∙ ap (place_in c.args.host) c.as_slice.ensures.value)
    c.index_mut-seat.ensures.value (given c.send.new.self (c.args.pipe, c.args.message.now) l.port.side l.stands.holds c.requires.sendable
    c.send.ensures.elsewhere c.send.ensures.stands) (opened c.self.view_is stands)

pub invariant_of-self : goal.invariant_of-self
invariant_of-self c =
    let i = c.self.invariant in
    let l = lent_at c.args.host c.in-Some.i c.index_mut-seat.result.now (c.in-Some.ensures.place ∙ ap (place_in c.args.host) c.as_slice.ensures.value)
    c.index_mut-seat.ensures.value i.1 in (
      _,
      becomes_at i.0 c.args.host c.in-Some.i c.index_mut-seat.result.now _
          (c.in-Some.ensures.place ∙ ap (place_in c.args.host) c.as_slice.ensures.value)
          c.index_mut-seat.ensures.value (given c.send.new.self (c.args.pipe, c.args.message.now) l.port.side l.stands.holds c.requires.sendable
          c.send.ensures.elsewhere c.send.ensures.stands) i.1,
    )
