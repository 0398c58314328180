use Rattle.block_pool.proofs.Words.{BlocksState, IsSome, None, ap, get_or, subst, sym}
use Rattle.block_pool.proofs.LayoutLemmas.{has_head, len_says}
use Rattle.block_pool.proofs.blocks.Blocks.len.Goals as goal

pub head_at-requires : goal.head_at-requires
head_at-requires c =
    let s = c.self.inside in
    subst (λ hs. IsSome (get_or hs c.args.first None)) (sym c.deref.ensures.value)
    (has_head s.region.items s.next.items s.heads.items s.fresh c.args.self.now.slots (ap (λ (v : BlocksState). v.slots) c.self.view_is) c.args.first
    c.requires)

pub returns : goal.returns
returns c =
    let s = c.self.inside in
    sym (len_says s.region.items s.next.items s.heads.items s.fresh c.args.self.now.slots
    (ap (λ (v : BlocksState). v.slots) c.self.view_is) c.args.first c.head_at.result (rw c.deref.ensures.value at c.head_at.ensures.head))
