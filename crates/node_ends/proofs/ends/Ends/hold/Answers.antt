use Rattle.node_ends.proofs.Words.{Bool, End, EndStandsFor, FewAreDue, FromNode, Hold, Machine, PoolState, Seat, SeatBecomes, after_input, after_turn, ap}
use Rattle.node_ends.proofs.Words.{place_in, refl, subst, turn, without_got, ◌∙◌, ◌≡◌}
use Rattle.node_ends.proofs.Opening.{opened}
use Rattle.node_ends.proofs.Changing.{lent_at, becomes_at, still_nowhere, turned}
use Rattle.node_ends.proofs.Moving.{boxes_hold, few_controls, stays_beside}
use Rattle.node_ends.proofs.ends.Ends.hold.Goals as goal

-- an end that is held or let go
held : {pool : PoolState} {s : Seat} (side : End) (is : Bool)
    → ((p : PoolState) (m : Machine) → EndStandsFor s.side p m → EndStandsFor side p (after_input m (FromNode (Hold is))))
    → (side.outbox ≡ s.side.outbox) × (side.inbox ≡ s.side.inbox) → SeatBecomes pool pool s (record s { side = side }) (after_turn (Hold is))
held {pool} {s} side is stands boxes = turned {x = Hold is} (record {
  sendable = tt;
  moves = stays_beside pool s.side side boxes.0 boxes.1;
  desk = refl;
  late = refl;
  ended = refl;
  acked = refl;
  stands = λ m h same. (
    boxes_hold pool s.side side s.waiting m (turn m (Hold is)) h boxes.1 (stands pool (without_got m) h.stands) refl,
    same,
  );
})

pub hold-requires : goal.hold-requires
hold-requires c =
    let r = c.requires in
    let l = lent_at c.args.host c.in-Some.i c.index_mut-seat.result.now (c.in-Some.ensures.place ∙ ap (place_in c.args.host) c.as_slice.ensures.value)
    c.index_mut-seat.ensures.value (opened c.self.view_is r.1) in
    record { room = few_controls c.self.inside.pool _ l.port.side l.stands.holds.stands (subst (λ o. FewAreDue o) l.port_is r.2) }

pub returns-in_default : goal.returns-in_default
returns-in_default c ports stands =
    still_nowhere c.args.host (after_turn (Hold c.args.held)) c.place_of.result
    (c.place_of.ensures.place ∙ ap (place_in c.args.host) c.as_slice.ensures.value) c.in_default.not-Some c.self.view_is stands

pub returns-in-Some : goal.returns-in-Some
returns-in-Some c ports stands =
    becomes_at ports c.args.host c.in-Some.i c.index_mut-seat.result.now _ (c.in-Some.ensures.place ∙ ap (place_in c.args.host) c.as_slice.ensures.value)
    c.index_mut-seat.ensures.value (held c.hold.new.self c.args.held c.hold.ensures.stands c.hold.ensures.boxes) (opened c.self.view_is stands)

pub invariant_of-self : goal.invariant_of-self
invariant_of-self c =
    let i = c.self.invariant in (
      _,
      becomes_at i.0 c.args.host c.in-Some.i c.index_mut-seat.result.now _ (c.in-Some.ensures.place ∙ ap (place_in c.args.host) c.as_slice.ensures.value)
          c.index_mut-seat.ensures.value (held c.hold.new.self c.args.held c.hold.ensures.stands c.hold.ensures.boxes) i.1,
    )
