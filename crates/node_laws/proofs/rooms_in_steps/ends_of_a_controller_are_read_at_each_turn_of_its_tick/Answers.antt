use Rattle.node_laws.proofs.Words.{NodeWorld, subst}
use Rattle.node_laws.proofs.order.Lines.{IsSo, history_so}
use Rattle.node_laws.proofs.read_rooms.HostTicking.{tick_read}
use Rattle.node_laws.proofs.rooms_in_steps.ends_of_a_controller_are_read_at_each_turn_of_its_tick.Goals as goal

pub returns : goal.returns
returns c = λ header lines t follows are playable front back q w is r runs.
    let P : NodeWorld → Type 0 = IsSo header.hosts.items front in
    tick_read header.hosts.items front w (subst P is (history_so header lines t follows are playable front back q)) r runs
