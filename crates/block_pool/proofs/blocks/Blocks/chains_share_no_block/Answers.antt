use Rattle.block_pool.proofs.Words.{BlocksState, ShareNoBlock, refl, subst}
use Rattle.block_pool.proofs.PlaceLemmas.{shares_none}
use Rattle.block_pool.proofs.blocks.Blocks.chains_share_no_block.Goals as goal

pub returns : goal.returns
returns c =
    let s = c.self.inside in
    subst (λ (v : BlocksState). ShareNoBlock v.slots v.places) c.self.view_is
    (shares_none s.region.items s.next.items s.heads.items s.free s.free_len c.self.invariant.0 s.fresh _ refl)
