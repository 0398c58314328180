use Rattle.hcp_chain.proofs.GivenLemmas.{given_messages}
use Rattle.hcp_chain.proofs.laws.taken_packets_give_their_messages.Goals as goal

pub returns : goal.returns
returns c = given_messages
