use Rattle.link_end.proofs.AccountLemmas.{may_send_back, adopted, sent_back_own, passed_beside}
use Rattle.link_end.proofs.laws.a_fetched_message_is_sent_back.Goals as goal

pub returns-clause-may : goal.returns-clause-may
returns-clause-may c = may_send_back

pub returns-clause-own : goal.returns-clause-own
returns-clause-own c = sent_back_own

pub returns-clause-others : goal.returns-clause-others
returns-clause-others c old new k after other m n chain theirs h a l differ g b = passed_beside (adopted a h l) differ differ g b
