use Rattle.block_pool.proofs.Words.{BlocksState, IsSome, List, None, ap, arith, block_at, get_or, length, length-take, subst, sym, take, ℕ, ◌*◌, ◌+◌, ◌<◌}
use Rattle.block_pool.proofs.LayoutLemmas.{blocks_reached, has_head, copied_out}
use Rattle.block_pool.proofs.blocks.Blocks.copy_out.Goals as goal

pub head_at-head-requires : goal.head_at-head-requires
head_at-head-requires c =
    let s = c.self.inside in
    subst (λ hs. IsSome (get_or hs c.args.first None)) (sym c.deref.ensures.value)
    (has_head s.region.items s.next.items s.heads.items s.fresh c.args.self.now.slots (ap (λ (v : BlocksState). v.slots) c.self.view_is) c.args.first
    c.requires.some)

pub copy_from-block-requires-clause-reached : goal.copy_from-block-requires-clause-reached
copy_from-block-requires-clause-reached c =
    let s = c.self.inside in
    subst (λ (ns : List ℕ). (k : ℕ) → k * 32 < c.args.from + length (take c.min-count.result c.args.out.now) → block_at ns c.args.first k < length ns)
    (sym c.deref-3.ensures.value)
    (λ k low. blocks_reached s.region.items s.next.items s.heads.items s.free s.free_len c.self.invariant.0 s.fresh c.args.self.now.slots
    (ap (λ (v : BlocksState). v.slots) c.self.view_is) c.args.first c.requires.some k
    (omega (arith, length-take c.min-count.result c.args.out.now, c.min-count.ensures, c.len.ensures)))

pub returns-clause-copied : goal.returns-clause-copied
returns-clause-copied c =
    let s = c.self.inside in
    copied_out s.region.items s.next.items s.heads.items s.free s.free_len c.self.invariant.0 s.fresh c.args.self.now.slots
    (ap (λ (v : BlocksState). v.slots) c.self.view_is) c.args.first c.requires.some
    c.args.from c.min-count.result c.args.out.now c.copy_from-block.new.out c.requires.in_chain (omega (arith, c.min-count.ensures, c.len.ensures))
    (rw (c.deref-2.ensures.value, c.deref-3.ensures.value) at c.copy_from-block.ensures.copied)
