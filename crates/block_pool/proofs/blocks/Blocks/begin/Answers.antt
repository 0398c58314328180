use Rattle.block_pool.proofs.Words.{AreSoundBlocks, BlocksState, Held, List, None, Option, Some, ap, arith, drop, get_or_read, held_by, length, length-append}
use Rattle.block_pool.proofs.Words.{region_behind, replicate, set, slot, slots_of, subst, sym, take, take_at, with_chain, ◌*◌, ◌++◌, ◌+◌, ◌-◌, ◌<◌, ◌∙◌, ◌≡◌}
use Rattle.block_pool.proofs.Words.{◌≤◌}
use Rattle.block_pool.proofs.FreshLemmas.{get_or-filled, set-filled}
use Rattle.block_pool.proofs.LayoutLemmas.{first_free, no_head}
use Rattle.block_pool.proofs.FillLemmas.{written, at_once, first_head, Begun, begin}
use Rattle.block_pool.proofs.blocks.Blocks.begin.Goals as goal
use Rattle.block_pool.proofs.LinkLemmas.{length-slots_of, slot_is}

pub overwrite-requires : goal.overwrite-requires
overwrite-requires c =
    let s = c.self.inside in
    let some : 0 < s.free_len = subst (λ (v : BlocksState). 0 < v.listed) (sym c.self.view_is) c.reach.ensures.listed in
    let first = first_free s.region.items s.next.items s.heads.items s.free s.free_len c.self.invariant.0 some in
    let fits : 32 * s.free + length c.args.bytes.now ≤ length s.region.items = omega (arith, first.0, c.self.invariant.0.bytes, c.requires.block) in
    subst (λ r. 32 * s.free + length c.args.bytes.now ≤ length r) (sym c.deref_mut.ensures.value) fits

some_free : (c : goal.After-self-4-1) → 0 < c.self.inside.free_len
some_free c = subst (λ (v : BlocksState). 0 < v.listed) (sym c.self.view_is) c.reach.ensures.listed

-- what was written
region_is : (c : goal.After-self-4-1)
    → take c.self.inside.region.len (c.overwrite.new.region ++ drop (length c.overwrite.new.region) c.self.inside.region.items)
    ≡ written c.self.inside.region.items (32 * c.self.inside.free) c.args.bytes.now
region_is c =
    let s = c.self.inside in
    let bytes = c.args.bytes.now in
    let now = c.overwrite.new.region in
    let first = first_free s.region.items s.next.items s.heads.items s.free s.free_len c.self.invariant.0 (some_free c) in
    let fits : 32 * s.free + length bytes ≤ length s.region.items = omega (arith, first.0, c.self.invariant.0.bytes, c.requires.block) in
    take_at now (drop (length now) s.region.items) s.region.len (omega (arith, c.overwrite.auto.region, c.deref_mut.ensures.len))
    ∙ (c.overwrite.ensures
    ∙ (ap (λ r. region_behind r (32 * s.free) bytes) c.deref_mut.ensures.value ∙ at_once bytes s.region.items (32 * s.free) fits))

begun : (c : goal.After-self-4-1)
    → Begun c.self.inside.region.items c.self.inside.next.items c.self.inside.heads.items c.self.inside.free c.self.inside.free_len c.args.owner
    c.index.result.now c.args.bytes.now
begun c =
    let s = c.self.inside in
    let first = first_free s.region.items s.next.items s.heads.items s.free s.free_len c.self.invariant.0 (some_free c) in
    begin c.args.bytes.now s.region.items s.next.items s.heads.items s.free s.free_len c.self.invariant.0 c.args.owner c.index.result.now (some_free c)
    (get_or_read s.next.items s.free c.index.result.now (omega (arith, first.0, c.self.invariant.0.links)) c.index.ensures 0)
    c.requires.some c.requires.block

pub invariant_of-self : goal.invariant_of-self
invariant_of-self c =
    let s = c.self.inside in
    let heads = set s.heads.items s.free (Some (first_head c.args.owner s.free (length c.args.bytes.now))) in
    rw c.of.ensures
    (subst (λ r. AreSoundBlocks r s.next.items heads c.index.result.now (s.free_len - 1)) (sym (region_is c)) (begun c).sound, c.self.invariant.1)

pub returns-clause-fits : goal.returns-clause-fits
returns-clause-fits c =
    let s = c.self.inside in
    subst (λ (ss : List (Option Held)). s.free < length ss) (ap (λ (v : BlocksState). v.slots) c.self.view_is ∙ c.reach.ensures.slots)
    (omega (
      arith,
      (first_free s.region.items s.next.items s.heads.items s.free s.free_len c.self.invariant.0 (some_free c)).0,
      c.self.invariant.0.counted,
      length-slots_of s.region.items s.next.items s.heads.items,
      length-append (slots_of s.region.items s.next.items s.heads.items) (replicate s.fresh None),
    ))

pub returns-clause-fresh : goal.returns-clause-fresh
returns-clause-fresh c =
    let s = c.self.inside in
    subst (λ (ss : List (Option Held)). slot ss s.free ≡ None) (ap (λ (v : BlocksState). v.slots) c.self.view_is ∙ c.reach.ensures.slots)
    (get_or-filled (slots_of s.region.items s.next.items s.heads.items) s.fresh s.free None
    ∙ (slot_is s.region.items s.next.items s.heads.items s.free
    ∙ ap (held_by s.region.items s.next.items s.free) (no_head s.region.items s.next.items s.heads.items s.free s.free_len c.self.invariant.0 (some_free c))))

pub returns-clause-slots : goal.returns-clause-slots
returns-clause-slots c =
    let s = c.self.inside in
    let first = first_free s.region.items s.next.items s.heads.items s.free s.free_len c.self.invariant.0 (some_free c) in
    let heads = set s.heads.items s.free (Some (first_head c.args.owner s.free (length c.args.bytes.now))) in
    rw c.of.ensures
    (set-filled (slots_of s.region.items s.next.items s.heads.items) _ s.fresh s.free None _
    (ap (λ r. slots_of r s.next.items heads) (region_is c) ∙ (begun c).slots)
    (omega (arith, first.0, c.self.invariant.0.counted, length-slots_of s.region.items s.next.items s.heads.items))
    ∙ ap (λ (ss : List (Option Held)). with_chain ss s.free c.args.owner c.args.bytes.now)
    (ap (λ (v : BlocksState). v.slots) c.self.view_is ∙ c.reach.ensures.slots))
