use Rattle.hcp_packet.proofs.Joining.{good_messages_grow}
use Rattle.hcp_packet.proofs.laws.good_messages_grow.Goals as goal

pub returns : goal.returns
returns c = good_messages_grow
