use Rattle.node_ends.proofs.Words.{Option, Port, ap, arith, false, option_map_or, rests, sym, ◌∙◌}
use Rattle.node_ends.proofs.Opening.{opened}
use Rattle.node_ends.proofs.Seated.{lent_here, none_beyond}
use Rattle.node_ends.proofs.ends.Ends.rests.Goals as goal

pub returns-then-i-len : goal.returns-then-i-len
returns-then-i-len c ports stands =
    ap (λ (o : Option Port). option_map_or rests o false) (none_beyond c.args.i
    (let l = c.len.ensures in let t = c.if-i-len.true in omega (arith, l, t)) c.self.view_is stands)

pub returns : goal.returns
returns c ports stands =
    let l = lent_here c.args.i c.index-seat.result.now (let n = c.len.ensures in let t = c.if-i-len.false in omega (arith, n, t)) c.index-seat.ensures
    (opened c.self.view_is stands) in
    c.rests.ensures c.self.inside.pool l.port.side l.stands.holds ∙ ap (λ (o : Option Port). option_map_or rests o false) (sym l.port_is)
