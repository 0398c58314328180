use Rattle.node_laws.proofs.Words.{refl}
use Rattle.node_laws.proofs.order.Lines.{history_so}
use Rattle.node_laws.proofs.histories_in_order.ends_are_read_off_histories_of_nodes.Goals as goal

pub returns : goal.returns
returns c = λ header lines t follows are playable front back q h s found.
    let ready = ((history_so header lines t follows are playable front back q).each h s found).shown.ready refl in
    record { controller = ready.near; host = ready.far }
