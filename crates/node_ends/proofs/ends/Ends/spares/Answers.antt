use Rattle.node_ends.proofs.Words.{Port, ap, arith, length, length-set, spare, spare_is, spare_of, subst, sym, without_got, ℕ, ◌<◌, ◌∙◌}
use Rattle.node_ends.proofs.Opening.{opened}
use Rattle.node_ends.proofs.Seated.{lent_here, owner_here, as_many}
use Rattle.node_ends.proofs.ByHost.{goes_on, goes_by, all_so_far, everywhere}
use Rattle.node_ends.proofs.ends.Ends.spares.Goals as goal
use Rattle.node_ends.proofs.ends.Ends.spares.Goals.{then-host-lt8, else-host-lt8}

abbrev spare_there : Port → ℕ
spare_there p = spare p.side

pub spare-requires : goal.spare-requires
spare-requires c =
    let i = c.loop-i.i in
    let s = c.index-seat.result.now in
    let e = c.self.invariant.1 in
    let inside : i < length c.self.inside.seats.items = (let n = c.len-i-end.ensures in let t = c.loop-i-test.true in omega (arith, n, t)) in
    let P : ℕ → Type 0 = λ n. n < length c.self.inside.pool.owners in
    subst P (owner_here i s inside c.index-seat.ensures e) (lent_here i s inside c.index-seat.ensures e).stands.holds.stands.halfway.sends.lies.kept.has_quota

pub loop-i-preserved : goal.loop-i-preserved
loop-i-preserved c =
    let i = c.loop-i.i in
    let s = c.index-seat.result.now in
    let pool = c.self.inside.pool in
    let inside : i < length c.self.inside.seats.items = (let n = c.len-i-end.ensures in let t = c.loop-i-test.true in omega (arith, n, t)) in
    elim c.if-host-lt8.branch [
      | then-host-lt8 w ↦ record {
        eight = ap length w.spares-is ∙ (length-set c.loop-i.spares c.from-host.result w.spare.result ∙ c.loop-i.invariant.eight);
        far = λ ports e.
            (let l = lent_here i s inside c.index-seat.ensures e in
            goes_on spare_there 0 ports e c.loop-i.spares c.if-host-lt8.spares i c.from-host.result s l.port w.spare.result l.stands l.port_is
            c.from-host.ensures w.if-host-lt8.true
            (w.spare.ensures.spare ∙ (ap (spare_of pool) (sym (owner_here i s inside c.index-seat.ensures e))
            ∙ sym (spare_is pool s.side (without_got l.port.side) l.stands.holds.stands)))
            w.spares-is c.loop-i.invariant.eight (c.loop-i.invariant.far ports e));
      }
      | else-host-lt8 w ↦ record {
        eight = ap length w.spares-is ∙ c.loop-i.invariant.eight;
        far = λ ports e.
            (let l = lent_here i s inside c.index-seat.ensures e in
            goes_by spare_there 0 ports c.loop-i.spares c.if-host-lt8.spares i c.from-host.result s l.port l.stands l.port_is c.from-host.ensures
            (omega (arith, w.if-host-lt8.false)) w.spares-is (c.loop-i.invariant.far ports e));
      }
    ]

pub returns : goal.returns
returns c ports stands low =
    let e = opened c.self.view_is stands in
    let many = as_many c.self.inside.pool c.self.inside.seats.items ports e.each in
    let len = c.len-i-end.ensures in
    let past = c.loop-i-test.false in
    record {
      same = everywhere spare_there 0 c.loop-i.spares ports c.loop-i.invariant.eight low
          (all_so_far spare_there 0 c.loop-i.spares c.loop-i.i ports (c.loop-i.invariant.far ports e) (omega (arith, many, len, past)));
    }
