use Rattle.hcp_packet.proofs.Joining.{good_messages_are_a_front}
use Rattle.hcp_packet.proofs.laws.good_messages_are_a_front.Goals as goal

pub returns : goal.returns
returns c = good_messages_are_a_front
