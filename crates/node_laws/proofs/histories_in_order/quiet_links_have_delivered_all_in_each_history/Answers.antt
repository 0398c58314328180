use Rattle.node_laws.proofs.Words.{entries_in, new_world, world_behind}
use Rattle.node_laws.proofs.order.Lines.{IsSo, host_number, history_so}
use Rattle.node_laws.proofs.order.Sessions.{delivered, has_settled}
use Rattle.node_laws.proofs.histories_in_order.quiet_links_have_delivered_all_in_each_history.Goals as goal

pub returns-clause-delivered : goal.returns-clause-delivered
returns-clause-delivered c = λ header lines t follows are playable front back q h s found.
    let a : IsSo header.hosts.items front (world_behind (new_world header.hosts.items) front) =
    history_so header lines t follows are playable front back q in
    delivered h s.link (entries_in front) (a.each h s found).told
    (host_number (world_behind (new_world header.hosts.items) front) h s a.well.orderly found)

pub returns-clause-settled : goal.returns-clause-settled
returns-clause-settled c = λ header lines t follows are playable front back q h s found.
    let a : IsSo header.hosts.items front (world_behind (new_world header.hosts.items) front) =
    history_so header lines t follows are playable front back q in
    has_settled h s.link (entries_in front) (a.each h s found).told
    (host_number (world_behind (new_world header.hosts.items) front) h s a.well.orderly found)
