use Rattle.link_wires.proofs.Results.{on_ok}
use Rattle.node_sites.proofs.Links.{aged_is}
use Rattle.node_sites.proofs.wires.Wires.grow_older.Goals as goal

pub returns : goal.returns
returns c l w =
    on_ok c.age_wire-2.result (c.age_wire-2.ensures l.to_host w.there.wire_is)
    (λ r. aged_is c.args.host c.args.entries.now.items c.other.result c.other.ensures w (c.in_ok-age_wire.ensures l.to_controller w.here.wire_is) r)
