use Rattle.node_laws.proofs.Words.{entries_in, new_world, world_behind}
use Rattle.node_laws.proofs.order.Lines.{IsSo, host_number, history_so}
use Rattle.node_laws.proofs.order.Sessions.{are_read}
use Rattle.node_laws.proofs.histories_in_order.sessions_are_read_off_histories_of_nodes.Goals as goal

pub returns : goal.returns
returns c = λ header lines t follows are playable front back q h s found.
    let a : IsSo header.hosts.items front (world_behind (new_world header.hosts.items) front) =
    history_so header lines t follows are playable front back q in
    are_read h s.link (entries_in front) (host_number (world_behind (new_world header.hosts.items) front) h s a.well.orderly found) (a.each h s found).told
