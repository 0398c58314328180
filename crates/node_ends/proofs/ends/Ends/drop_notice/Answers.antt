use Rattle.node_ends.proofs.Words.{arith, without_notice}
use Rattle.node_ends.proofs.Opening.{opened}
use Rattle.node_ends.proofs.Seated.{becomes_here, still_beyond}
use Rattle.node_ends.proofs.Beside.{notice_dropped}
use Rattle.node_ends.proofs.ends.Ends.drop_notice.Goals as goal

pub returns-else-i-len : goal.returns-else-i-len
returns-else-i-len c ports stands =
    still_beyond c.args.i without_notice (let l = c.len.ensures in let t = c.if-i-len.false in omega (arith, l, t)) c.self.view_is stands

pub returns-then-i-len : goal.returns-then-i-len
returns-then-i-len c ports stands =
    becomes_here ports c.args.i c.index_mut-seat.result.now c.drop_notice.new.self (let n = c.len.ensures in let t = c.if-i-len.true in omega (arith, n, t))
    c.index_mut-seat.ensures.value (notice_dropped c.self.inside.pool c.index_mut-seat.result.now c.drop_notice.new.self c.drop_notice.ensures)
    (opened c.self.view_is stands)

pub invariant_of-self : goal.invariant_of-self
invariant_of-self c =
    let i = c.self.invariant in (
      _,
      becomes_here i.0 c.args.i c.index_mut-seat.result.now c.drop_notice.new.self (let n = c.len.ensures in let t = c.if-i-len.true in omega (arith, n, t))
          c.index_mut-seat.ensures.value (notice_dropped c.self.inside.pool c.index_mut-seat.result.now c.drop_notice.new.self c.drop_notice.ensures) i.1,
    )
