use Rattle.block_pool.proofs.HoldingLemmas.{apart_by_owner}
use Rattle.block_pool.proofs.laws.chains_of_two_owners_lie_apart.Goals as goal

pub returns : goal.returns
returns c = apart_by_owner
