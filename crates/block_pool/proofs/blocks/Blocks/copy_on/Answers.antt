use Rattle.block_pool.proofs.Words.{BlocksState, IsSome, List, None, Some, [], ap, arith, block_at, blocks_for, common_steps, get_or, get_or_read, length}
use Rattle.block_pool.proofs.Words.{length-take, replicate, subst, sym, take, ℕ, ◌*◌, ◌++◌, ◌+◌, ◌/◌, ◌<◌, ◌∙◌, ◌≡◌}
use Rattle.block_pool.proofs.LayoutLemmas.{blocks_few, blocks_reached, copied_out, has_head, len_says, read_on_sound, read_on_slots}
use Rattle.block_pool.proofs.PlaceLemmas.{read_on_chains, same_state}
use Rattle.block_pool.proofs.blocks.Blocks.copy_on.Goals as goal

pub head_at-head-requires : goal.head_at-head-requires
head_at-head-requires c =
    let s = c.self.inside in
    subst (λ hs. IsSome (get_or hs c.args.first None)) (sym c.deref.ensures.value)
    (has_head s.region.items s.next.items s.heads.items s.fresh c.args.self.now.slots (ap (λ (v : BlocksState). v.slots) c.self.view_is) c.args.first
    c.requires.some)

pub overflow_sub-left : goal.overflow_sub-left
overflow_sub-left c =
    let s = c.self.inside in
    let len_is = len_says s.region.items s.next.items s.heads.items s.fresh c.args.self.now.slots
    (ap (λ (v : BlocksState). v.slots) c.self.view_is) c.args.first c.head_at-head.result (rw c.deref.ensures.value at c.head_at-head.ensures.head) in
    omega (arith, len_is, c.requires.in_chain)

pub copy_from-read_on-requires-clause-reached : goal.copy_from-read_on-requires-clause-reached
copy_from-read_on-requires-clause-reached c =
    let s = c.self.inside in
    let len_is = len_says s.region.items s.next.items s.heads.items s.fresh c.args.self.now.slots
    (ap (λ (v : BlocksState). v.slots) c.self.view_is) c.args.first c.head_at-head.result (rw c.deref.ensures.value at c.head_at-head.ensures.head) in
    subst (λ (ns : List ℕ). (k : ℕ) → k * 32 < c.args.from + length (take c.min-count.result c.args.out.now) → block_at ns c.args.first k < length ns)
    (sym c.deref-3.ensures.value)
    (λ k low. blocks_reached s.region.items s.next.items s.heads.items s.free s.free_len c.self.invariant.0 s.fresh c.args.self.now.slots
    (ap (λ (v : BlocksState). v.slots) c.self.view_is) c.args.first c.requires.some k
    (omega (arith, length-take c.min-count.result c.args.out.now, c.min-count.ensures, len_is, c.requires.in_chain)))

pub overflow_cast-passed : goal.overflow_cast-passed
overflow_cast-passed c =
    let s = c.self.inside in
    let head = c.head_at-head.result in
    let at : get_or s.heads.items c.args.first None ≡ Some head = rw c.deref.ensures.value at c.head_at-head.ensures.head in
    let few = blocks_few s.region.items s.next.items s.heads.items s.free s.free_len c.self.invariant.0 c.args.first head at in
    let low : (c.args.from + c.min-count.result) / 32 < 16384 = omega (arith, few, c.if-count-left.true) in
    grind (arith, common_steps)

pub invariant_of-self : goal.invariant_of-self
invariant_of-self c =
    let s = c.self.inside in
    let head = c.head_at-head.result in
    let at : get_or s.heads.items c.args.first None ≡ Some head = rw c.deref.ensures.value at c.head_at-head.ensures.head in
    let copied : length (take c.min-count.result c.args.out.now) ≡ c.min-count.result =
    omega (arith, length-take c.min-count.result c.args.out.now, c.min-count.ensures) in
    let low : (c.args.from + c.min-count.result) / 32 < blocks_for head.len = omega (arith, c.if-count-left.true) in
    let low_is : c.args.first < length s.heads.items = rw c.deref.ensures.value at c.head_at-head.ensures.low in
    rw (c.go_on_at.ensures head (get_or_read s.heads.items c.args.first c.index_mut.result.now low_is c.index_mut.ensures.value None ∙ at)) (
      read_on_sound s.region.items s.next.items s.heads.items s.free s.free_len c.self.invariant.0 c.args.first c.copy_from-read_on.result
          ((c.args.from + c.min-count.result) / 32) head at low (rw (c.deref-3.ensures.value, copied) at c.copy_from-read_on.ensures.behind),
      c.self.invariant.1,
    )

pub returns-then-count-left-clause-count : goal.returns-then-count-left-clause-count
returns-then-count-left-clause-count c =
    let s = c.self.inside in
    let len_is = len_says s.region.items s.next.items s.heads.items s.fresh c.args.self.now.slots
    (ap (λ (v : BlocksState). v.slots) c.self.view_is) c.args.first c.head_at-head.result (rw c.deref.ensures.value at c.head_at-head.ensures.head) in
    omega (arith, c.min-count.ensures, len_is)

pub returns-then-count-left-clause-copied : goal.returns-then-count-left-clause-copied
returns-then-count-left-clause-copied c =
    let s = c.self.inside in
    let at : get_or s.heads.items c.args.first None ≡ Some c.head_at-head.result = rw c.deref.ensures.value at c.head_at-head.ensures.head in
    let len_is = len_says s.region.items s.next.items s.heads.items s.fresh c.args.self.now.slots
    (ap (λ (v : BlocksState). v.slots) c.self.view_is) c.args.first c.head_at-head.result at in
    copied_out s.region.items s.next.items s.heads.items s.free s.free_len c.self.invariant.0 s.fresh c.args.self.now.slots
    (ap (λ (v : BlocksState). v.slots) c.self.view_is) c.args.first c.requires.some
    c.args.from c.min-count.result c.args.out.now c.copy_from-read_on.new.out c.requires.in_chain (omega (arith, c.min-count.ensures, len_is))
    (rw (c.deref-2.ensures.value, c.deref-3.ensures.value) at c.copy_from-read_on.ensures.copied)

pub returns-then-count-left-clause-unchanged : goal.returns-then-count-left-clause-unchanged
returns-then-count-left-clause-unchanged c =
    let s = c.self.inside in
    let head = c.head_at-head.result in
    let at : get_or s.heads.items c.args.first None ≡ Some head = rw c.deref.ensures.value at c.head_at-head.ensures.head in
    let passed = (c.args.from + c.min-count.result) / 32 in
    let low : c.args.first < length s.heads.items = rw c.deref.ensures.value at c.head_at-head.ensures.low in
    let slots =
    read_on_slots s.region.items s.next.items s.heads.items s.free s.free_len c.self.invariant.0 c.args.first c.copy_from-read_on.result passed head at in
    let chains = read_on_chains s.next.items s.heads.items c.args.first c.copy_from-read_on.result passed head low at in
    rw (c.go_on_at.ensures head (get_or_read s.heads.items c.args.first c.index_mut.result.now low c.index_mut.ensures.value None ∙ at))
    (same_state _ _ _ _ _ _ _ s.free_len (ap (λ ss. ss ++ replicate s.fresh None) slots) (ap (λ cs. cs ++ replicate s.fresh []) chains)
    ∙ c.self.view_is)

pub returns-else-count-left-clause-count : goal.returns-else-count-left-clause-count
returns-else-count-left-clause-count c =
    let s = c.self.inside in
    let len_is = len_says s.region.items s.next.items s.heads.items s.fresh c.args.self.now.slots
    (ap (λ (v : BlocksState). v.slots) c.self.view_is) c.args.first c.head_at-head.result (rw c.deref.ensures.value at c.head_at-head.ensures.head) in
    omega (arith, c.min-count.ensures, len_is)

pub returns-else-count-left-clause-copied : goal.returns-else-count-left-clause-copied
returns-else-count-left-clause-copied c =
    let s = c.self.inside in
    let at : get_or s.heads.items c.args.first None ≡ Some c.head_at-head.result = rw c.deref.ensures.value at c.head_at-head.ensures.head in
    let len_is = len_says s.region.items s.next.items s.heads.items s.fresh c.args.self.now.slots
    (ap (λ (v : BlocksState). v.slots) c.self.view_is) c.args.first c.head_at-head.result at in
    copied_out s.region.items s.next.items s.heads.items s.free s.free_len c.self.invariant.0 s.fresh c.args.self.now.slots
    (ap (λ (v : BlocksState). v.slots) c.self.view_is) c.args.first c.requires.some
    c.args.from c.min-count.result c.args.out.now c.copy_from-read_on.new.out c.requires.in_chain (omega (arith, c.min-count.ensures, len_is))
    (rw (c.deref-2.ensures.value, c.deref-3.ensures.value) at c.copy_from-read_on.ensures.copied)
