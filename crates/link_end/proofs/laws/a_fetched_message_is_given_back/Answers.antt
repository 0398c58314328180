use Rattle.link_end.proofs.AccountLemmas.{given_own, given_beside}
use Rattle.link_end.proofs.laws.a_fetched_message_is_given_back.Goals as goal

pub returns-clause-own : goal.returns-clause-own
returns-clause-own c = given_own

pub returns-clause-others : goal.returns-clause-others
returns-clause-others c old new k other n chain theirs = given_beside
