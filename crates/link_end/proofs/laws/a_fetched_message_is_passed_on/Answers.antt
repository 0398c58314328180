use Rattle.link_end.proofs.AccountLemmas.{may_pass_on, adopted, passed_giver, passed_taker, passed_beside}
use Rattle.link_end.proofs.laws.a_fetched_message_is_passed_on.Goals as goal

pub returns-clause-may : goal.returns-clause-may
returns-clause-may c = may_pass_on

pub returns-clause-giver : goal.returns-clause-giver
returns-clause-giver c old new from to after m n chain = passed_giver

pub returns-clause-taker : goal.returns-clause-taker
returns-clause-taker c old new from to after n chain theirs = passed_taker after

pub returns-clause-others : goal.returns-clause-others
returns-clause-others c old new from to after other n o chain theirs a h l differ apart g b = passed_beside (adopted a h l) differ apart g b
