use Rattle.std.proofs.Common.{◌≡◌, suc, ◌+◌, ◌-◌, arith}
use Rattle.link_wires.proofs.Wires.{aging_starts, aging_goes_on, aging_ends}
use Rattle.link_wires.proofs.wire.grow_older.Goals as goal

pub loop-init : goal.loop-init
loop-init c frames w = aging_starts w (let z = c.len-end.ensures.len in omega (arith, z))

pub loop-preserved : goal.loop-preserved
loop-preserved c frames w =
    let left : c.len-end.result - c.loop.counter ≡ suc (c.len-end.result - (c.loop.counter + 1)) = omega (arith, c.loop-test.true) in
    aging_goes_on (rw left at (c.loop.invariant frames w)) c.in_ok-age_first.ensures

pub returns : goal.returns
returns c frames w =
    let none : c.len-end.result - c.loop.counter ≡ 0 = omega (arith, c.loop-test.false) in
    aging_ends (rw none at (c.loop.invariant frames w))
