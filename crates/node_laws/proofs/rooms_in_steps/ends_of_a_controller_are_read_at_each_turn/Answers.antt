use Rattle.node_laws.proofs.Words.{NodeWorld, subst}
use Rattle.node_laws.proofs.order.Lines.{IsSo, history_so}
use Rattle.node_laws.proofs.read_rooms.HostTicking.{comes_read}
use Rattle.node_laws.proofs.rooms_in_steps.ends_of_a_controller_are_read_at_each_turn.Goals as goal

pub returns : goal.returns
returns c = λ header lines t follows are playable front back q w is r runs h comes i input.
    let P : NodeWorld → Type 0 = IsSo header.hosts.items front in
    comes_read header.hosts.items front w (subst P is (history_so header lines t follows are playable front back q)) r runs h comes i input
