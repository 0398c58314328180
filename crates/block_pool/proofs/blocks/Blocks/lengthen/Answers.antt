use Rattle.block_pool.proofs.Words.{AreSoundBlocks, BlocksState, None, ap, arith, length, refl, replicate, slots_of, subst, sym, ◌++◌, ◌+◌, ◌-◌, ◌<◌, ◌∙◌, ◌≡◌}
use Rattle.block_pool.proofs.ReachLemmas.{lengthened_sound, lengthened_slots}
use Rattle.block_pool.proofs.blocks.Blocks.lengthen.Goals as goal

-- no block is in the free list
none_listed : (c : goal.After-self-3-1) → c.self.inside.free_len ≡ 0
none_listed c = ap (λ (v : BlocksState). v.listed) c.self.view_is ∙ c.requires.used

sound : (c : goal.After-self-3-1)
    → AreSoundBlocks c.self.inside.region.items c.self.inside.next.items c.self.inside.heads.items c.self.inside.free 0
sound c =
    let s = c.self.inside in
    subst (λ n. AreSoundBlocks s.region.items s.next.items s.heads.items s.free n) (none_listed c) c.self.invariant.0

some_fresh : (c : goal.After-self-3-1) → 0 < c.self.inside.fresh
some_fresh c = omega (arith, (ap (λ (v : BlocksState). v.free) c.self.view_is), none_listed c, c.requires.free)

pub invariant_of-self : goal.invariant_of-self
invariant_of-self c =
    let s = c.self.inside in
    let room = c.self.invariant.1 in
    let some = some_fresh c in
    let few : length s.next.items < 16384 = omega (arith, room.few, some, sym s.next.ok.0) in
    let grown = lengthened_sound s.region.items s.next.items s.heads.items s.free (sound c) (replicate 32 0) 0 refl few in (
      rw (c.add_block.ensures.items, c.push_reserved.ensures.items, c.push_reserved-2.ensures.items, c.none.ensures, c.len-block.ensures, s.next.ok.0) grown,
      record {
        few = omega (arith, room.few, some, c.push_reserved.ensures.len);
        bytes = omega (arith, room.bytes, some, c.push_reserved.ensures.len, c.add_block.ensures.capacity);
        links = omega (arith, room.links, some, c.push_reserved.ensures.len, c.push_reserved.ensures.capacity);
        heads = omega (arith, room.heads, some, c.push_reserved.ensures.len, c.push_reserved-2.ensures.capacity);
      },
    )

pub returns-clause-slots : goal.returns-clause-slots
returns-clause-slots c =
    let s = c.self.inside in
    let some = some_fresh c in
    let fresh_is : (s.fresh - 1) + 1 ≡ s.fresh = omega arith in
    let same = lengthened_slots s.region.items s.next.items s.heads.items s.free (sound c) (replicate 32 0) 0 (s.fresh - 1) in
    rw (c.add_block.ensures.items, c.push_reserved.ensures.items, c.push_reserved-2.ensures.items, c.none.ensures) same
    ∙ (ap (λ n. slots_of s.region.items s.next.items s.heads.items ++ replicate n None) fresh_is
    ∙ ap (λ (v : BlocksState). v.slots) c.self.view_is)
