use Rattle.node_laws.proofs.Words.{entries_in, new_world, world_behind}
use Rattle.node_laws.proofs.order.Lines.{watches, of_none, IsSo, history_so, behind_history}
use Rattle.node_laws.proofs.order.Ticking.{timely}
use Rattle.node_laws.proofs.histories_in_order.worlds_stay_timely.Goals as goal

pub returns-clause-timely : goal.returns-clause-timely
returns-clause-timely c = λ header lines t follows are playable front back q h s found.
    let a : IsSo header.hosts.items front (world_behind (new_world header.hosts.items) front) =
    history_so header lines t follows are playable front back q in
    timely (world_behind (new_world header.hosts.items) front) (entries_in front) (watches of_none front h) h s a.up found (a.each h s found)

pub returns-clause-last : goal.returns-clause-last
returns-clause-last c = behind_history
