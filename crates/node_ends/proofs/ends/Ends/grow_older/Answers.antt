use Rattle.node_ends.proofs.Words.{IsYoung, arith, subst, with_older}
use Rattle.node_ends.proofs.Opening.{opened}
use Rattle.node_ends.proofs.Seated.{becomes_here, lent_here, still_beyond}
use Rattle.node_ends.proofs.Beside.{older}
use Rattle.node_ends.proofs.Noticing.{is_young}
use Rattle.node_ends.proofs.ends.Ends.grow_older.Goals as goal

pub grow_older-requires : goal.grow_older-requires
grow_older-requires c =
    let r = c.requires in
    let l = lent_here c.args.i c.index_mut-seat.result.now (let n = c.len.ensures in let t = c.if-i-len.true in omega (arith, n, t))
    c.index_mut-seat.ensures.value (opened c.self.view_is r.1) in
    is_young _ l.port l.stands.desk (subst (λ o. IsYoung o) l.port_is r.2)

pub returns-else-i-len : goal.returns-else-i-len
returns-else-i-len c ports stands =
    still_beyond c.args.i with_older (let l = c.len.ensures in let t = c.if-i-len.false in omega (arith, l, t)) c.self.view_is stands

pub returns-then-i-len : goal.returns-then-i-len
returns-then-i-len c ports stands =
    becomes_here ports c.args.i c.index_mut-seat.result.now c.grow_older.new.self (let n = c.len.ensures in let t = c.if-i-len.true in omega (arith, n, t))
    c.index_mut-seat.ensures.value (older c.self.inside.pool c.index_mut-seat.result.now c.grow_older.new.self c.grow_older.ensures)
    (opened c.self.view_is stands)

pub invariant_of-self : goal.invariant_of-self
invariant_of-self c =
    let i = c.self.invariant in (
      _,
      becomes_here i.0 c.args.i c.index_mut-seat.result.now c.grow_older.new.self (let n = c.len.ensures in let t = c.if-i-len.true in omega (arith, n, t))
          c.index_mut-seat.ensures.value (older c.self.inside.pool c.index_mut-seat.result.now c.grow_older.new.self c.grow_older.ensures) i.1,
    )
