use Rattle.node_laws.proofs.order.Lines.{history_so}
use Rattle.node_laws.proofs.histories_in_order.wires_are_read_off_histories_of_nodes.Goals as goal

pub returns : goal.returns
returns c = λ header lines t follows are playable front back q h s found.
    let b = (history_so header lines t follows are playable front back q).each h s found in
    record { to_controller = b.shown.wires.to_controller; to_host = b.shown.wires.to_host }
