use Rattle.node_ends.proofs.Words.{Port, ap, arith, option_map}
use Rattle.node_ends.proofs.Opening.{opened}
use Rattle.node_ends.proofs.Seated.{lent_here, none_beyond}
use Rattle.node_ends.proofs.Changing.{host_is, told_there}
use Rattle.node_ends.proofs.ends.Ends.host.Goals as goal

pub returns-then-i-len : goal.returns-then-i-len
returns-then-i-len c ports stands =
    ap (option_map (λ (p : Port). p.desk.host)) (none_beyond c.args.i
    (let l = c.len.ensures in let t = c.if-i-len.true in omega (arith, l, t)) c.self.view_is stands)

pub returns : goal.returns
returns c ports stands =
    let l = lent_here c.args.i c.index-seat.result.now (let n = c.len.ensures in let t = c.if-i-len.false in omega (arith, n, t)) c.index-seat.ensures
    (opened c.self.view_is stands) in
    told_there (λ (p : Port). p.desk.host) _ _ l.port l.port_is (host_is l.stands)
