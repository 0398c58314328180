use Rattle.hcp_packet.proofs.Joining.{joined_again}
use Rattle.hcp_packet.proofs.laws.joined_again.Goals as goal

pub returns : goal.returns
returns c = joined_again
