use Rattle.block_pool.proofs.HoldingLemmas.{used-with_used, other-with_used}
use Rattle.block_pool.proofs.laws.one_owner_is_counted_at_a_time.Goals as goal

pub returns-clause-use_of : goal.returns-clause-use_of
returns-clause-use_of c = used-with_used

pub returns-clause-others : goal.returns-clause-others
returns-clause-others c = other-with_used
