use Rattle.node_ends.proofs.Words.{arith, is_idle, refl, sym, ◌∙◌}
use Rattle.node_ends.proofs.Seated.{lent_here, as_many}
use Rattle.node_ends.proofs.AtRest.{one_is_not, one_is, none_is_left}
use Rattle.node_ends.proofs.Reading.{idle_is}
use Rattle.node_ends.proofs.Opening.{opened, lent}
use Rattle.node_ends.proofs.ends.Ends.are_idle.Goals as goal

pub loop-seat-init : goal.loop-seat-init
loop-seat-init c = record { so_far = λ pool ports e. refl }

pub returns-then-not-is_idle : goal.returns-then-not-is_idle
returns-then-not-is_idle c ports stands =
    let e = lent c.as_slice-seat-items.ensures.value (opened c.self.view_is stands) in
    let r = lent_here c.loop-seat.seat-index c.seat-item.result c.loop-seat-test.true c.seat-item.is e in
    let idle = idle_is c.is_idle.result r.stands (c.is_idle.ensures c.self.inside.pool r.port.side) in
    sym (one_is_not is_idle c.loop-seat.seat-index ports r.port r.port_is (sym idle ∙ c.if-not-is_idle.true))
    ∙ c.loop-seat.invariant.so_far c.self.inside.pool ports e

pub loop-seat-preserved : goal.loop-seat-preserved
loop-seat-preserved c = record {
  so_far = λ pool ports e.
      let r = lent_here c.loop-seat.seat-index c.seat-item.result c.loop-seat-test.true c.seat-item.is e in
      let idle = idle_is c.is_idle.result r.stands (c.is_idle.ensures pool r.port.side) in
      one_is is_idle c.loop-seat.seat-index ports r.port r.port_is (sym idle ∙ c.if-not-is_idle.false) ∙ c.loop-seat.invariant.so_far pool ports e;
}

pub returns : goal.returns
returns c ports stands =
    let e = lent c.as_slice-seat-items.ensures.value (opened c.self.view_is stands) in
    let many = as_many c.self.inside.pool _ ports e.each in
    let past = c.loop-seat-test.false in
    sym (none_is_left is_idle c.loop-seat.seat-index ports (omega (arith, many, past))) ∙ c.loop-seat.invariant.so_far c.self.inside.pool ports e
