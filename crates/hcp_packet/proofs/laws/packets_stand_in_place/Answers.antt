use Rattle.hcp_packet.proofs.Joining.{packets_are_counted, packets_stand_in_place}
use Rattle.hcp_packet.proofs.laws.packets_stand_in_place.Goals as goal

pub returns : goal.returns
returns c = record { counted = packets_are_counted; in_place = packets_stand_in_place }
