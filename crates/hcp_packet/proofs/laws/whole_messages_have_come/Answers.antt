use Rattle.hcp_packet.proofs.Joining.{whole_messages_have_come}
use Rattle.hcp_packet.proofs.laws.whole_messages_have_come.Goals as goal

pub returns : goal.returns
returns c = whole_messages_have_come
