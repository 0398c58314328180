use Rattle.node_ends.proofs.Words.{AreSoundDesks, Bool, Desk, List, Port, Seat, ap, arith, false, has_link, is_up, length, length-map, length-set, refl, subst}
use Rattle.node_ends.proofs.Words.{sym, ◌+◌, ◌∙◌, ◌≤◌}
use Rattle.node_ends.proofs.Changing.{low_place}
use Rattle.node_ends.proofs.Seated.{lent_here, as_many}
use Rattle.node_ends.proofs.ByHost.{goes_on, goes_by, all_so_far}
use Rattle.node_ends.proofs.Gathering.{are_seen, are_sound, bit_is, bits, has_bit, one_desk, all_desks}
use Rattle.node_ends.proofs.Opening.{opened, lent}
use Rattle.node_ends.proofs.ends.Ends.seen.Goals as goal
use Rattle.node_ends.proofs.ends.Ends.seen.Goals.{then-host-lt8, else-host-lt8}

abbrev up_there : Port → Bool
up_there p = is_up p.side.shdlc.phase

pub push-requires : goal.push-requires
push-requires c =
    let few = c.loop-seat.invariant.few in
    omega (arith, low_place c.loop-seat.seat-index c.loop-seat-test.true c.as_slice-seat-items.ensures.value c.self.invariant.1, few)

pub loop-seat-preserved : goal.loop-seat-preserved
loop-seat-preserved c =
    let i = c.loop-seat.seat-index in
    let s : Seat = c.seat-item.result in
    let items = one_desk c.as_slice-seat-items.result.now i s c.loop-seat.desks.items c.push.new.self.items c.loop-seat-test.true c.seat-item.is
    c.loop-seat.invariant.items c.push.ensures.items in
    let few : length c.push.new.self.items ≤ i + 1 = (let l = c.push.ensures.len in let so_far = c.loop-seat.invariant.few in omega (arith, l, so_far)) in
    elim c.if-host-lt8.branch [
      | then-host-lt8 w ↦ record {
        items = items;
        few = few;
        eight = ap length w.links-is ∙ (length-set c.loop-seat.links c.from-host.result w.is_up.result ∙ c.loop-seat.invariant.eight);
        far = λ pool ports e.
            (let r = lent_here i s c.loop-seat-test.true c.seat-item.is e in
            goes_on up_there false ports e c.loop-seat.links c.if-host-lt8.links i c.from-host.result s r.port w.is_up.result r.stands r.port_is
            c.from-host.ensures w.if-host-lt8.true (w.is_up.ensures pool r.port.side r.stands.holds) w.links-is c.loop-seat.invariant.eight
            (c.loop-seat.invariant.far pool ports e));
      }
      | else-host-lt8 w ↦ record {
        items = items;
        few = few;
        eight = ap length w.links-is ∙ c.loop-seat.invariant.eight;
        far = λ pool ports e.
            (let r = lent_here i s c.loop-seat-test.true c.seat-item.is e in
            goes_by up_there false ports c.loop-seat.links c.if-host-lt8.links i c.from-host.result s r.port r.stands r.port_is c.from-host.ensures
            (omega (arith, w.if-host-lt8.false)) w.links-is (c.loop-seat.invariant.far pool ports e));
      }
    ]

pub returns-clause-seen : goal.returns-clause-seen
returns-clause-seen c ports stands hosts =
    let e = opened c.self.view_is stands in
    let here = lent c.as_slice-seat-items.ensures.value e in
    let b = bits _ c.bit.result c.bit-2.result c.bit-3.result c.bit-4.result c.bit-5.result c.bit-6.result c.bit-7.result refl c.bit.ensures.small
    c.bit-2.ensures.small c.bit-3.ensures.small c.bit-4.ensures.small c.bit-5.ensures.small c.bit-6.ensures.small c.bit-7.ensures.small in
    let past = c.loop-seat-test.false in
    let links = all_so_far up_there false c.loop-seat.links c.loop-seat.seat-index ports (c.loop-seat.invariant.far c.self.inside.pool ports here)
    (omega (arith, as_many c.self.inside.pool _ ports here.each, past)) in
    are_seen c.self.inside.pool _ c.loop-seat.desks.items c.self.inside.seats.items ports
    (all_desks c.loop-seat.seat-index c.loop-seat.desks.items c.loop-seat.invariant.items past c.as_slice-seat-items.ensures.value)
    (λ h some most. has_bit (has_link ports) _ h some most
    (bit_is _ _ (b.0 ∙ c.bit.ensures.value) ∙ links 1 (omega arith))
    (bit_is _ _ (b.1 ∙ c.bit-2.ensures.value) ∙ links 2 (omega arith))
    (bit_is _ _ (b.2 ∙ c.bit-3.ensures.value) ∙ links 3 (omega arith))
    (bit_is _ _ (b.3 ∙ c.bit-4.ensures.value) ∙ links 4 (omega arith))
    (bit_is _ _ (b.4 ∙ c.bit-5.ensures.value) ∙ links 5 (omega arith))
    (bit_is _ _ (b.5 ∙ c.bit-6.ensures.value) ∙ links 6 (omega arith))
    (bit_is _ _ (b.6 ∙ c.bit-7.ensures.value) ∙ links 7 (omega arith))) hosts e

pub returns-clause-few : goal.returns-clause-few
returns-clause-few c =
    let all = ap (λ (ds : List Desk). length ds)
    (all_desks c.loop-seat.seat-index c.loop-seat.desks.items c.loop-seat.invariant.items c.loop-seat-test.false c.as_slice-seat-items.ensures.value)
    ∙ length-map c.self.inside.seats.items (λ (s : Seat). s.desk) in
    omega (arith, all, c.self.invariant.1.few)

pub returns-clause-sound : goal.returns-clause-sound
returns-clause-sound c =
    subst (λ ds. AreSoundDesks ds)
    (sym (all_desks c.loop-seat.seat-index c.loop-seat.desks.items c.loop-seat.invariant.items c.loop-seat-test.false c.as_slice-seat-items.ensures.value))
    (are_sound c.self.inside.pool c.self.inside.seats.items c.self.invariant.0 c.self.invariant.1.each)
