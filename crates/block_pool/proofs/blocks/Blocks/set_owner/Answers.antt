use Rattle.block_pool.proofs.Words.{BlocksState, IsSome, None, Some, ap, arith, get_or, laid_bytes, replicate, slots_of, subst, sym, with_chain, ◌++◌, ◌∙◌, ◌≡◌}
use Rattle.block_pool.proofs.FreshLemmas.{set-filled}
use Rattle.block_pool.proofs.LayoutLemmas.{begun_low, blocks_few, has_head, bytes_say, set_owner_sound, set_owner_slots}
use Rattle.block_pool.proofs.blocks.Blocks.set_owner.Goals as goal

pub head_at-head-requires : goal.head_at-head-requires
head_at-head-requires c =
    let s = c.self.inside in
    subst (λ hs. IsSome (get_or hs c.args.first None)) (sym c.deref.ensures.value)
    (has_head s.region.items s.next.items s.heads.items s.fresh c.args.self.now.slots (ap (λ (v : BlocksState). v.slots) c.self.view_is) c.args.first
    c.requires)

pub of-requires-clause-some : goal.of-requires-clause-some
of-requires-clause-some c =
    (c.self.invariant.0.chains c.args.first c.head_at-head.result (rw c.deref.ensures.value at c.head_at-head.ensures.head)).some

pub of-requires-clause-few : goal.of-requires-clause-few
of-requires-clause-few c =
    let s = c.self.inside in
    let head = c.head_at-head.result in
    let at : get_or s.heads.items c.args.first None ≡ Some head = rw c.deref.ensures.value at c.head_at-head.ensures.head in
    omega (arith, blocks_few s.region.items s.next.items s.heads.items s.free s.free_len c.self.invariant.0 c.args.first head at)

pub invariant_of-self : goal.invariant_of-self
invariant_of-self c =
    let s = c.self.inside in
    let head = c.head_at-head.result in
    let at : get_or s.heads.items c.args.first None ≡ Some head = rw c.deref.ensures.value at c.head_at-head.ensures.head in
    rw c.of.ensures
    (set_owner_sound s.region.items s.next.items s.heads.items s.free s.free_len c.self.invariant.0 c.args.first c.args.owner head at, c.self.invariant.1)

pub returns-clause-slots : goal.returns-clause-slots
returns-clause-slots c =
    let s = c.self.inside in
    let head = c.head_at-head.result in
    let at : get_or s.heads.items c.args.first None ≡ Some head = rw c.deref.ensures.value at c.head_at-head.ensures.head in
    let view : slots_of s.region.items s.next.items s.heads.items ++ replicate s.fresh None ≡ c.args.self.now.slots = ap (λ (v : BlocksState). v.slots)
    c.self.view_is in
    let bytes_are = bytes_say s.region.items s.next.items s.heads.items s.fresh c.args.self.now.slots view c.args.first head at in
    rw c.of.ensures
    (set-filled (slots_of s.region.items s.next.items s.heads.items) _ s.fresh c.args.first None _
    (set_owner_slots s.region.items s.next.items s.heads.items s.free s.free_len c.self.invariant.0 c.args.first c.args.owner head at)
    (begun_low s.region.items s.next.items s.heads.items s.free s.free_len c.self.invariant.0 c.args.first head at)
    ∙ (ap (λ ss. with_chain ss c.args.first c.args.owner (laid_bytes s.region.items s.next.items c.args.first head.len)) view
    ∙ ap (with_chain c.args.self.now.slots c.args.first c.args.owner) (sym bytes_are)))
