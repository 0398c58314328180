use Rattle.link_end.proofs.AccountLemmas.{new_free, new_unused}
use Rattle.link_end.proofs.laws.a_new_pool_is_free.Goals as goal

pub returns-clause-free : goal.returns-clause-free
returns-clause-free c = new_free

pub returns-clause-used : goal.returns-clause-used
returns-clause-used c = new_unused
