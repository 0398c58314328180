use Rattle.block_pool.proofs.Words.{BlocksState, IsSome, None, Some, [], ap, arith, get_or, get_or_read, held_bytes, laid_bytes, length, replicate, slots_of}
use Rattle.block_pool.proofs.Words.{subst, sym, with_chain, ◌%◌, ◌*◌, ◌++◌, ◌<◌, ◌∙◌, ◌∷◌, ◌≡◌}
use Rattle.block_pool.proofs.FreshLemmas.{set-filled}
use Rattle.block_pool.proofs.LayoutLemmas.{begun_low, blocks_few, bytes_say, owner_says, len_says, has_head, last_in, head_fits, first_free}
use Rattle.block_pool.proofs.LayoutLemmas.{push_in_new_block_slots, push_in_new_block_sound}
use Rattle.block_pool.proofs.blocks.Blocks.push_in_new_block.Goals as goal

pub head_at-head-requires : goal.head_at-head-requires
head_at-head-requires c =
    let s = c.self.inside in
    subst (λ hs. IsSome (get_or hs c.args.first None)) (sym c.deref.ensures.value)
    (has_head s.region.items s.next.items s.heads.items s.fresh c.args.self.now.slots
    (ap (λ (v : BlocksState). v.slots) c.self.view_is ∙ c.reach.ensures.slots) c.args.first c.requires.some)

pub index_mut-requires : goal.index_mut-requires
index_mut-requires c =
    let s = c.self.inside in
    let head = c.head_at-head.result in
    let at : get_or s.heads.items c.args.first None ≡ Some head = rw c.deref.ensures.value at c.head_at-head.ensures.head in
    omega
    (arith, last_in s.region.items s.next.items s.heads.items s.free s.free_len c.self.invariant.0 c.args.first head at, c.self.invariant.0.links, s.next.ok.0)

pub overflow_add-head : goal.overflow_add-head
overflow_add-head c =
    let s = c.self.inside in
    let head = c.head_at-head.result in
    let at : get_or s.heads.items c.args.first None ≡ Some head = rw c.deref.ensures.value at c.head_at-head.ensures.head in
    let view : slots_of s.region.items s.next.items s.heads.items ++ replicate s.fresh None ≡ c.args.self.now.slots =
    ap (λ (v : BlocksState). v.slots) c.self.view_is ∙ c.reach.ensures.slots in
    let len_is = len_says s.region.items s.next.items s.heads.items s.fresh c.args.self.now.slots view c.args.first head at in
    head_fits head.len (length (held_bytes c.args.self.now.slots c.args.first)) len_is c.requires.short

pub of-requires-clause-some : goal.of-requires-clause-some
of-requires-clause-some c =
    omega (arith, (c.self.invariant.0.chains c.args.first c.head_at-head.result (rw c.deref.ensures.value at c.head_at-head.ensures.head)).some)

pub of-requires-clause-few : goal.of-requires-clause-few
of-requires-clause-few c =
    let s = c.self.inside in
    let head = c.head_at-head.result in
    let at : get_or s.heads.items c.args.first None ≡ Some head = rw c.deref.ensures.value at c.head_at-head.ensures.head in
    omega (arith, blocks_few s.region.items s.next.items s.heads.items s.free s.free_len c.self.invariant.0 c.args.first head at)

pub invariant_of-self : goal.invariant_of-self
invariant_of-self c =
    let s = c.self.inside in
    let head = c.head_at-head.result in
    let at : get_or s.heads.items c.args.first None ≡ Some head = rw c.deref.ensures.value at c.head_at-head.ensures.head in
    let view : slots_of s.region.items s.next.items s.heads.items ++ replicate s.fresh None ≡ c.args.self.now.slots =
    ap (λ (v : BlocksState). v.slots) c.self.view_is ∙ c.reach.ensures.slots in
    let len_is = len_says s.region.items s.next.items s.heads.items s.fresh c.args.self.now.slots view c.args.first head at in
    let some : 0 < s.free_len = subst (λ (v : BlocksState). 0 < v.listed) (sym c.self.view_is) c.reach.ensures.listed in
    let first = first_free s.region.items s.next.items s.heads.items s.free s.free_len c.self.invariant.0 some in
    rw c.of.ensures (
      push_in_new_block_sound s.region.items s.next.items s.heads.items s.free s.free_len c.self.invariant.0 c.args.first head
          (32 * s.free) c.args.byte c.index.result.now at (subst (λ n. n % 32 ≡ 0) len_is c.requires.full) some
          (get_or_read s.next.items s.free c.index.result.now (omega (arith, first.0, c.self.invariant.0.links)) c.index.ensures 0),
      c.self.invariant.1,
    )

pub returns-clause-slots : goal.returns-clause-slots
returns-clause-slots c =
    let s = c.self.inside in
    let head = c.head_at-head.result in
    let at : get_or s.heads.items c.args.first None ≡ Some head = rw c.deref.ensures.value at c.head_at-head.ensures.head in
    let view : slots_of s.region.items s.next.items s.heads.items ++ replicate s.fresh None ≡ c.args.self.now.slots =
    ap (λ (v : BlocksState). v.slots) c.self.view_is ∙ c.reach.ensures.slots in
    let len_is = len_says s.region.items s.next.items s.heads.items s.fresh c.args.self.now.slots view c.args.first head at in
    let bytes_are = bytes_say s.region.items s.next.items s.heads.items s.fresh c.args.self.now.slots view c.args.first head at in
    let owner_is = owner_says s.region.items s.next.items s.heads.items s.fresh c.args.self.now.slots view c.args.first head at in
    let some : 0 < s.free_len = subst (λ (v : BlocksState). 0 < v.listed) (sym c.self.view_is) c.reach.ensures.listed in
    let full : head.len % 32 ≡ 0 = subst (λ n. n % 32 ≡ 0) len_is c.requires.full in
    rw c.of.ensures
    (set-filled (slots_of s.region.items s.next.items s.heads.items) _ s.fresh c.args.first None _
    (push_in_new_block_slots s.region.items s.next.items s.heads.items s.free s.free_len c.self.invariant.0 c.args.first head c.args.byte at full some)
    (begun_low s.region.items s.next.items s.heads.items s.free s.free_len c.self.invariant.0 c.args.first head at)
    ∙ (ap (λ ss. with_chain ss c.args.first head.owner (laid_bytes s.region.items s.next.items c.args.first head.len ++ c.args.byte ∷ [])) view
    ∙ (ap (λ bs. with_chain c.args.self.now.slots c.args.first head.owner (bs ++ c.args.byte ∷ [])) (sym bytes_are)
    ∙ ap (λ o. with_chain c.args.self.now.slots c.args.first o (held_bytes c.args.self.now.slots c.args.first ++ c.args.byte ∷ [])) (sym owner_is))))
