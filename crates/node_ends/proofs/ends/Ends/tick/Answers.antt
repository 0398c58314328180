use Rattle.node_ends.proofs.Words.{FewAreDue, Port, Some, Tick, ap, arith, has_come, option_map, report, report_told, subst, sym, ◌∙◌}
use Rattle.node_ends.proofs.Seated.{lent_here, becomes_here, still_beyond, none_beyond}
use Rattle.node_ends.proofs.Opening.{opened}
use Rattle.node_ends.proofs.ends.Ends.tick.Goals as goal

pub returns-then-i-len-clause-stands : goal.returns-then-i-len-clause-stands
returns-then-i-len-clause-stands c ports stands =
    still_beyond c.args.i (λ (p : Port). has_come p (Some Tick)) (let l = c.len.ensures in let t = c.if-i-len.true in omega (arith, l, t)) c.self.view_is stands

pub returns-then-i-len-clause-answer : goal.returns-then-i-len-clause-answer
returns-then-i-len-clause-answer c ports stands =
    ap (option_map (λ (p : Port). report_told (report p.side Tick))) (none_beyond c.args.i
    (let l = c.len.ensures in let t = c.if-i-len.true in omega (arith, l, t)) c.self.view_is stands)

pub tick-requires : goal.tick-requires
tick-requires c =
    let r = c.requires in
    let l = lent_here c.args.i c.index_mut-seat.result.now
    (let n = c.len.ensures in let t = c.if-i-len.false in omega (arith, n, t)) c.index_mut-seat.ensures.value (opened c.self.view_is r.1) in
    record { may = (l.port, l.stands, subst (λ o. FewAreDue o) l.port_is r.2) }

pub invariant_of-self : goal.invariant_of-self
invariant_of-self c =
    let i = c.self.invariant in (
      _,
      becomes_here i.0 c.args.i c.index_mut-seat.result.now c.tick.new.self (let n = c.len.ensures in let t = c.if-i-len.false in omega (arith, n, t))
          c.index_mut-seat.ensures.value c.tick.ensures.becomes i.1,
    )

pub returns-clause-stands : goal.returns-clause-stands
returns-clause-stands c ports stands =
    becomes_here ports c.args.i c.index_mut-seat.result.now c.tick.new.self (let n = c.len.ensures in let t = c.if-i-len.false in omega (arith, n, t))
    c.index_mut-seat.ensures.value c.tick.ensures.becomes (opened c.self.view_is stands)

pub returns-clause-answer : goal.returns-clause-answer
returns-clause-answer c ports stands =
    let l = lent_here c.args.i c.index_mut-seat.result.now
    (let n = c.len.ensures in let t = c.if-i-len.false in omega (arith, n, t)) c.index_mut-seat.ensures.value (opened c.self.view_is stands) in
    c.tick.ensures.told l.port l.stands ∙ ap (option_map (λ (p : Port). report_told (report p.side Tick))) (sym l.port_is)
