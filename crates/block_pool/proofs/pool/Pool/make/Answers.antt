use Rattle.block_pool.proofs.Words.{AreCounted, AreFree, subst, sym, ℕ}
use Rattle.block_pool.proofs.CountLemmas.{new_counted}
use Rattle.block_pool.proofs.pool.Pool.make.Goals as goal

pub invariant_of-result : goal.invariant_of-result
invariant_of-result c =
    let blocks = c.in_ok-blocks.blocks in
    let owners = c.in_ok-owners.owners in
    subst (λ (n : ℕ). AreCounted blocks.slots owners.items × AreFree owners.items n) (sym c.in_ok-blocks.ensures.1)
    (new_counted c.args.quotas.now c.total_of.result blocks.slots owners.items c.requires.few_owners c.requires.few_blocks c.total_of.ensures
    c.in_ok-blocks.ensures.0 c.in_ok-owners.ensures)
