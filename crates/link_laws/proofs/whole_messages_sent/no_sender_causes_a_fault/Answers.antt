use Rattle.link_laws.proofs.sending.TakenLemmas.{no_fault, all_given}
use Rattle.link_laws.proofs.whole_messages_sent.no_sender_causes_a_fault.Goals as goal

pub returns : goal.returns
returns c = record { taken = no_fault; given = all_given }
