use Rattle.node_ends.proofs.Words.{Bool, Port, arith, refl, sym, without_got, ◌∙◌}
use Rattle.link_laws.specs.machine.AtRest.{end_rests}
use Rattle.node_ends.proofs.Seated.{lent_here, as_many}
use Rattle.node_ends.proofs.AtRest.{one_is_not, one_is, none_is_left}
use Rattle.node_ends.proofs.Opening.{opened, lent}
use Rattle.node_ends.proofs.ends.Ends.are_at_rest.Goals as goal

abbrev rest_there : Port → Bool
rest_there p = end_rests p.side

pub loop-seat-init : goal.loop-seat-init
loop-seat-init c = record { so_far = λ pool ports e. refl }

pub returns-then-not-is_at_rest : goal.returns-then-not-is_at_rest
returns-then-not-is_at_rest c ports stands =
    let e = lent c.as_slice-seat-items.ensures.value (opened c.self.view_is stands) in
    let r = lent_here c.loop-seat.seat-index c.seat-item.result c.loop-seat-test.true c.seat-item.is e in
    let rests = c.is_at_rest.ensures c.self.inside.pool (without_got r.port.side) r.stands.holds.stands in
    sym (one_is_not rest_there c.loop-seat.seat-index ports r.port r.port_is (sym rests ∙ c.if-not-is_at_rest.true))
    ∙ c.loop-seat.invariant.so_far c.self.inside.pool ports e

pub loop-seat-preserved : goal.loop-seat-preserved
loop-seat-preserved c = record {
  so_far = λ pool ports e.
      let r = lent_here c.loop-seat.seat-index c.seat-item.result c.loop-seat-test.true c.seat-item.is e in
      let rests = c.is_at_rest.ensures pool (without_got r.port.side) r.stands.holds.stands in
      one_is rest_there c.loop-seat.seat-index ports r.port r.port_is (sym rests ∙ c.if-not-is_at_rest.false) ∙ c.loop-seat.invariant.so_far pool ports e;
}

pub returns : goal.returns
returns c ports stands =
    let e = lent c.as_slice-seat-items.ensures.value (opened c.self.view_is stands) in
    let many = as_many c.self.inside.pool _ ports e.each in
    let past = c.loop-seat-test.false in
    sym (none_is_left rest_there c.loop-seat.seat-index ports (omega (arith, many, past))) ∙ c.loop-seat.invariant.so_far c.self.inside.pool ports e
