use Rattle.node_core.proofs.Words.{map, with_older}
use Rattle.node_core.proofs.Lateness.{few_older}
use Rattle.node_core.proofs.node.Node.notices_time_out.Goals as goal

pub reset_late-requires : goal.reset_late-requires
reset_late-requires g c =
    let r = c.requires.may in
    record { may = (r.0, record r.1 { ports = map with_older r.1.ports }, c.grow_older.ensures.carried _ _ r.0 r.1 r.2, few_older r.1.ports r.3.0) }

pub returns-clause-carried : goal.returns-clause-carried
returns-clause-carried g c start w u few =
    c.reset_late.ensures.carried start (record w { ports = map with_older w.ports }) (c.grow_older.ensures.carried _ _ start w u) (few_older w.ports few)
