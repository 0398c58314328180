use Rattle.link_end.proofs.AccountLemmas.{account_kept, account_moved, kept_beside_call}
use Rattle.link_end.proofs.laws.a_call_keeps_the_accounts.Goals as goal

pub returns-clause-own : goal.returns-clause-own
returns-clause-own c = account_kept

pub returns-clause-boxes : goal.returns-clause-boxes
returns-clause-boxes c = account_moved

pub returns-clause-others : goal.returns-clause-others
returns-clause-others c old new before after other m n theirs = kept_beside_call new after
