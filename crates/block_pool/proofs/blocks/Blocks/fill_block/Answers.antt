use Rattle.block_pool.proofs.Words.{AreSoundBlocks, BlocksState, IsSome, None, Some, ap, arith, drop, get_or, held_bytes, laid_bytes, length, refl}
use Rattle.block_pool.proofs.Words.{region_behind, replicate, set, slots_of, subst, sym, take, take_at, with_chain, ◌%◌, ◌*◌, ◌++◌, ◌+◌, ◌<◌, ◌∙◌, ◌≡◌, ◌≤◌}
use Rattle.block_pool.proofs.FreshLemmas.{set-filled}
use Rattle.block_pool.proofs.LayoutLemmas.{begun_low, blocks_few, bytes_say, owner_says, len_says, has_head, last_in}
use Rattle.block_pool.proofs.FillLemmas.{written, grown, fill, at_once}
use Rattle.block_pool.proofs.blocks.Blocks.fill_block.Goals as goal

pub head_at-head-requires : goal.head_at-head-requires
head_at-head-requires c =
    let s = c.self.inside in
    subst (λ hs. IsSome (get_or hs c.args.first None)) (sym c.deref.ensures.value)
    (has_head s.region.items s.next.items s.heads.items s.fresh c.args.self.now.slots (ap (λ (v : BlocksState). v.slots) c.self.view_is) c.args.first
    (let r = c.requires.begun in omega arith))

pub overwrite-requires : goal.overwrite-requires
overwrite-requires c =
    let s = c.self.inside in
    let head = c.head_at-head.result in
    let bytes = c.args.bytes.now in
    let at : get_or s.heads.items c.args.first None ≡ Some head = rw c.deref.ensures.value at c.head_at-head.ensures.head in
    let view : slots_of s.region.items s.next.items s.heads.items ++ replicate s.fresh None ≡ c.args.self.now.slots = ap (λ (v : BlocksState). v.slots)
    c.self.view_is in
    let len_is = len_says s.region.items s.next.items s.heads.items s.fresh c.args.self.now.slots view c.args.first head at in
    let begun : 0 < head.len % 32 = subst (λ n. 0 < n % 32) len_is c.requires.begun in
    let place = 32 * head.last + head.len % 32 in
    let fits : place + length bytes ≤ length s.region.items =
    omega (
      arith,
      last_in s.region.items s.next.items s.heads.items s.free s.free_len c.self.invariant.0 c.args.first head at,
      c.self.invariant.0.bytes,
      (subst (λ n. n % 32 + length bytes ≤ 32) len_is c.requires.room),
    ) in
    subst (λ r. place + length bytes ≤ length r) (sym c.deref_mut.ensures.value) fits

pub of-requires-clause-some : goal.of-requires-clause-some
of-requires-clause-some c =
    let s = c.self.inside in
    let head = c.head_at-head.result in
    let at : get_or s.heads.items c.args.first None ≡ Some head = rw c.deref.ensures.value at c.head_at-head.ensures.head in
    let bytes = c.args.bytes.now in
    let view : slots_of s.region.items s.next.items s.heads.items ++ replicate s.fresh None ≡ c.args.self.now.slots = ap (λ (v : BlocksState). v.slots)
    c.self.view_is in
    let len_is = len_says s.region.items s.next.items s.heads.items s.fresh c.args.self.now.slots view c.args.first head at in
    let room : head.len % 32 + length bytes ≤ 32 = subst (λ n. n % 32 + length bytes ≤ 32) len_is c.requires.room in
    let begun : 0 < head.len % 32 = subst (λ n. 0 < n % 32) len_is c.requires.begun in
    omega (arith, (c.self.invariant.0.chains c.args.first head at).some)

pub of-requires-clause-few : goal.of-requires-clause-few
of-requires-clause-few c =
    let s = c.self.inside in
    let head = c.head_at-head.result in
    let at : get_or s.heads.items c.args.first None ≡ Some head = rw c.deref.ensures.value at c.head_at-head.ensures.head in
    let view : slots_of s.region.items s.next.items s.heads.items ++ replicate s.fresh None ≡ c.args.self.now.slots = ap (λ (v : BlocksState). v.slots)
    c.self.view_is in
    let len_is = len_says s.region.items s.next.items s.heads.items s.fresh c.args.self.now.slots view c.args.first head at in
    let few = blocks_few s.region.items s.next.items s.heads.items s.free s.free_len c.self.invariant.0 c.args.first head at in
    omega (arith, few, (subst (λ n. n % 32 + length c.args.bytes.now ≤ 32) len_is c.requires.room), (subst (λ n. 0 < n % 32) len_is c.requires.begun))

pub invariant_of-self : goal.invariant_of-self
invariant_of-self c =
    let s = c.self.inside in
    let head = c.head_at-head.result in
    let bytes = c.args.bytes.now in
    let at : get_or s.heads.items c.args.first None ≡ Some head = rw c.deref.ensures.value at c.head_at-head.ensures.head in
    let view : slots_of s.region.items s.next.items s.heads.items ++ replicate s.fresh None ≡ c.args.self.now.slots = ap (λ (v : BlocksState). v.slots)
    c.self.view_is in
    let len_is = len_says s.region.items s.next.items s.heads.items s.fresh c.args.self.now.slots view c.args.first head at in
    let room : head.len % 32 + length bytes ≤ 32 = subst (λ n. n % 32 + length bytes ≤ 32) len_is c.requires.room in
    let place = 32 * head.last + head.len % 32 in
    let fits : place + length bytes ≤ length s.region.items =
    omega (
      arith,
      last_in s.region.items s.next.items s.heads.items s.free s.free_len c.self.invariant.0 c.args.first head at,
      c.self.invariant.0.bytes,
      room,
    ) in
    let now = c.overwrite.new.region in
    let written_is : now ≡ written s.region.items place bytes =
    c.overwrite.ensures ∙ (ap (λ r. region_behind r place bytes) c.deref_mut.ensures.value ∙ at_once bytes s.region.items place fits) in
    let region_is : take s.region.len (now ++ drop (length now) s.region.items) ≡ written s.region.items place bytes =
    take_at now (drop (length now) s.region.items) s.region.len (omega (arith, c.overwrite.auto.region, c.deref_mut.ensures.len)) ∙ written_is in
    let heads = set s.heads.items c.args.first (Some (grown head (head.len + length bytes))) in
    let filled =
    fill bytes s.region.items s.next.items s.heads.items s.free s.free_len c.self.invariant.0 c.args.first head place (head.len + length bytes) at
    c.requires.more
    (subst (λ n. 0 < n % 32) len_is c.requires.begun) room refl refl in
    rw c.of.ensures (subst (λ r. AreSoundBlocks r s.next.items heads s.free s.free_len) (sym region_is) filled.sound, c.self.invariant.1)

pub returns-clause-slots : goal.returns-clause-slots
returns-clause-slots c =
    let s = c.self.inside in
    let head = c.head_at-head.result in
    let bytes = c.args.bytes.now in
    let at : get_or s.heads.items c.args.first None ≡ Some head = rw c.deref.ensures.value at c.head_at-head.ensures.head in
    let view : slots_of s.region.items s.next.items s.heads.items ++ replicate s.fresh None ≡ c.args.self.now.slots = ap (λ (v : BlocksState). v.slots)
    c.self.view_is in
    let len_is = len_says s.region.items s.next.items s.heads.items s.fresh c.args.self.now.slots view c.args.first head at in
    let room : head.len % 32 + length bytes ≤ 32 = subst (λ n. n % 32 + length bytes ≤ 32) len_is c.requires.room in
    let place = 32 * head.last + head.len % 32 in
    let fits : place + length bytes ≤ length s.region.items =
    omega (
      arith,
      last_in s.region.items s.next.items s.heads.items s.free s.free_len c.self.invariant.0 c.args.first head at,
      c.self.invariant.0.bytes,
      room,
    ) in
    let now = c.overwrite.new.region in
    let written_is : now ≡ written s.region.items place bytes =
    c.overwrite.ensures ∙ (ap (λ r. region_behind r place bytes) c.deref_mut.ensures.value ∙ at_once bytes s.region.items place fits) in
    let region_is : take s.region.len (now ++ drop (length now) s.region.items) ≡ written s.region.items place bytes =
    take_at now (drop (length now) s.region.items) s.region.len (omega (arith, c.overwrite.auto.region, c.deref_mut.ensures.len)) ∙ written_is in
    let filled =
    fill bytes s.region.items s.next.items s.heads.items s.free s.free_len c.self.invariant.0 c.args.first head place (head.len + length bytes) at
    c.requires.more
    (subst (λ n. 0 < n % 32) len_is c.requires.begun) room refl refl in
    let bytes_are = bytes_say s.region.items s.next.items s.heads.items s.fresh c.args.self.now.slots view c.args.first head at in
    let owner_is = owner_says s.region.items s.next.items s.heads.items s.fresh c.args.self.now.slots view c.args.first head at in
    rw c.of.ensures
    (set-filled (slots_of s.region.items s.next.items s.heads.items) _ s.fresh c.args.first None _
    (ap (λ r. slots_of r s.next.items (set s.heads.items c.args.first (Some (grown head (head.len + length bytes))))) region_is ∙ filled.slots)
    (begun_low s.region.items s.next.items s.heads.items s.free s.free_len c.self.invariant.0 c.args.first head at)
    ∙ (ap (λ ss. with_chain ss c.args.first head.owner (laid_bytes s.region.items s.next.items c.args.first head.len ++ bytes)) view
    ∙ (ap (λ bs. with_chain c.args.self.now.slots c.args.first head.owner (bs ++ bytes)) (sym bytes_are)
    ∙ ap (λ o. with_chain c.args.self.now.slots c.args.first o (held_bytes c.args.self.now.slots c.args.first ++ bytes)) (sym owner_is))))
