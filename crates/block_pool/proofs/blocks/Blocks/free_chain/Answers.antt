use Rattle.std.specs.Prelude.{slice_set}
use Rattle.block_pool.proofs.Words.{AreSoundBlocks, BlocksState, IsSome, None, Some, ap, arith, blocks_for, get_or, replicate, slots_of, subst, sym, ◌++◌, ◌+◌}
use Rattle.block_pool.proofs.Words.{◌<◌, ◌^◌, ◌∙◌, ◌≡◌}
use Rattle.block_pool.proofs.FreshLemmas.{set-filled}
use Rattle.block_pool.proofs.LayoutLemmas.{begun_low, len_says, has_head, last_in, blocks_is, blocks_fit, free_chain_sound, free_chain_slots}
use Rattle.block_pool.proofs.blocks.Blocks.free_chain.Goals as goal

pub head_at-head-requires : goal.head_at-head-requires
head_at-head-requires c =
    let s = c.self.inside in
    subst (λ hs. IsSome (get_or hs c.args.first None)) (sym c.deref.ensures.value)
    (has_head s.region.items s.next.items s.heads.items s.fresh c.args.self.now.slots (ap (λ (v : BlocksState). v.slots) c.self.view_is) c.args.first
    c.requires.some)

pub index_mut-requires : goal.index_mut-requires
index_mut-requires c =
    let s = c.self.inside in
    let head = c.head_at-head.result in
    let at : get_or s.heads.items c.args.first None ≡ Some head = rw c.deref.ensures.value at c.head_at-head.ensures.head in
    omega
    (arith, last_in s.region.items s.next.items s.heads.items s.free s.free_len c.self.invariant.0 c.args.first head at, c.self.invariant.0.links, s.next.ok.0)

pub overflow_cast-self : goal.overflow_cast-self
overflow_cast-self c =
    let s = c.self.inside in
    let head = c.head_at-head.result in
    let at : get_or s.heads.items c.args.first None ≡ Some head = rw c.deref.ensures.value at c.head_at-head.ensures.head in
    let view : slots_of s.region.items s.next.items s.heads.items ++ replicate s.fresh None ≡ c.args.self.now.slots = ap (λ (v : BlocksState). v.slots)
    c.self.view_is in
    let len_is = len_says s.region.items s.next.items s.heads.items s.fresh c.args.self.now.slots view c.args.first head at in
    let all : c.args.self.now.free + blocks_for head.len < 2 ^ 16 = rw (← len_is) c.requires.fits in
    (blocks_fit c.div_ceil.result s.free_len head.len c.div_ceil.ensures (omega (arith, all, (ap (λ (v : BlocksState). v.free) c.self.view_is)))).0

pub overflow_add-self : goal.overflow_add-self
overflow_add-self c =
    let s = c.self.inside in
    let head = c.head_at-head.result in
    let at : get_or s.heads.items c.args.first None ≡ Some head = rw c.deref.ensures.value at c.head_at-head.ensures.head in
    let view : slots_of s.region.items s.next.items s.heads.items ++ replicate s.fresh None ≡ c.args.self.now.slots = ap (λ (v : BlocksState). v.slots)
    c.self.view_is in
    let len_is = len_says s.region.items s.next.items s.heads.items s.fresh c.args.self.now.slots view c.args.first head at in
    let all : c.args.self.now.free + blocks_for head.len < 2 ^ 16 = rw (← len_is) c.requires.fits in
    (blocks_fit c.div_ceil.result s.free_len head.len c.div_ceil.ensures (omega (arith, all, (ap (λ (v : BlocksState). v.free) c.self.view_is)))).1

pub invariant_of-self : goal.invariant_of-self
invariant_of-self c =
    let s = c.self.inside in
    let head = c.head_at-head.result in
    let at : get_or s.heads.items c.args.first None ≡ Some head = rw c.deref.ensures.value at c.head_at-head.ensures.head in
    rw c.none.ensures (
      subst
          (λ n. AreSoundBlocks s.region.items (slice_set s.next.items head.last s.free) (slice_set s.heads.items c.args.first None) c.args.first
          (s.free_len + n))
          (sym (blocks_is c.div_ceil.result head.len c.div_ceil.ensures))
          (free_chain_sound s.region.items s.next.items s.heads.items s.free s.free_len c.self.invariant.0 c.args.first head at),
      c.self.invariant.1,
    )

pub returns-clause-slots : goal.returns-clause-slots
returns-clause-slots c =
    let s = c.self.inside in
    let head = c.head_at-head.result in
    let at : get_or s.heads.items c.args.first None ≡ Some head = rw c.deref.ensures.value at c.head_at-head.ensures.head in
    rw c.none.ensures
    (set-filled (slots_of s.region.items s.next.items s.heads.items) _ s.fresh c.args.first None _
    (free_chain_slots s.region.items s.next.items s.heads.items s.free s.free_len c.self.invariant.0 c.args.first head at)
    (begun_low s.region.items s.next.items s.heads.items s.free s.free_len c.self.invariant.0 c.args.first head at)
    ∙ ap (λ (v : BlocksState). slice_set v.slots c.args.first None) c.self.view_is)

pub returns-clause-free : goal.returns-clause-free
returns-clause-free c =
    let s = c.self.inside in
    let head = c.head_at-head.result in
    let at : get_or s.heads.items c.args.first None ≡ Some head = rw c.deref.ensures.value at c.head_at-head.ensures.head in
    let view : slots_of s.region.items s.next.items s.heads.items ++ replicate s.fresh None ≡ c.args.self.now.slots = ap (λ (v : BlocksState). v.slots)
    c.self.view_is in
    let len_is = len_says s.region.items s.next.items s.heads.items s.fresh c.args.self.now.slots view c.args.first head at in
    let blocks : c.div_ceil.result ≡ blocks_for head.len = blocks_is c.div_ceil.result head.len c.div_ceil.ensures in
    (omega (arith, blocks, (ap (λ (v : BlocksState). v.free) c.self.view_is))) ∙ ap (λ n. c.args.self.now.free + blocks_for n) (sym len_is)
