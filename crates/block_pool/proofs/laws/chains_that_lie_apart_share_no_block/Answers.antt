use Rattle.block_pool.proofs.PlaceLemmas.{chains_apart, block_once, blocks_of_chain}
use Rattle.block_pool.proofs.laws.chains_that_lie_apart_share_no_block.Goals as goal

pub returns-clause-apart : goal.returns-clause-apart
returns-clause-apart c = λ pool one other k j shares apart. chains_apart pool one.first other.first k j shares apart

pub returns-clause-once : goal.returns-clause-once
returns-clause-once c = λ pool chain k j shares. block_once pool chain.first k j shares

pub returns-clause-blocks : goal.returns-clause-blocks
returns-clause-blocks c = blocks_of_chain
