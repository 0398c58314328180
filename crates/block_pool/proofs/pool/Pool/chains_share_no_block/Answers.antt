use Rattle.block_pool.proofs.Words.{PoolState, ShareNoBlock, subst}
use Rattle.block_pool.proofs.pool.Pool.chains_share_no_block.Goals as goal

pub returns : goal.returns
returns c = subst (λ (v : PoolState). ShareNoBlock v.slots v.places) c.self.view_is c.chains_share_no_block.ensures
