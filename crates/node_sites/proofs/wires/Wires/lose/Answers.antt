use Rattle.link_wires.proofs.Results.{on_ok}
use Rattle.node_sites.proofs.Links.{lost_to_host, lost_to_controller}
use Rattle.node_sites.proofs.wires.Wires.lose.Goals as goal

pub returns-then-to : goal.returns-then-to
returns-then-to c l why w so =
    on_ok c.lose_first.result (c.lose_first.ensures l.to_host why w.there.wire_is so)
    (λ r. lost_to_host c.args.entries.now.items c.args.to l why c.if-to.true w r)

pub returns-else-to : goal.returns-else-to
returns-else-to c l why w so =
    on_ok c.lose_first-else-to.result (c.lose_first-else-to.ensures l.to_controller why w.here.wire_is so)
    (λ r. lost_to_controller c.args.entries.now.items c.args.to l why c.if-to.false w r)
