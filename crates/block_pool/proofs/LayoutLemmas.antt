-- Linked blocks: what writes to links, bytes and heads leave of the chains.
use Rattle.std.proofs.Common.{Fits, min, w16, w32}
use Rattle.std.specs.Int.{div_ceil}
use Rattle.std.proofs.lemmas.List.FromFn.{length-map-range_with_len, get_or-map-range_with_len, take-map-range_with_len}
use Rattle.block_pool.proofs.Words.{AreSoundBlocks, Head, Held, IsChain, IsMarked, IsSome, List, None, Option, Some, [], ap, arith, block_at, blocks_for}
use Rattle.block_pool.proofs.Words.{bytes_in, cases_eq, cases_lt, common_steps, drop, get_or, get_or-drop, get_or-set_other, get_or-set_same, get_or_past}
use Rattle.block_pool.proofs.Words.{head_blocks, held_by, held_bytes, inl, inr, length, length-drop, length-set, length-take, linked_byte, map, owner_in}
use Rattle.block_pool.proofs.Words.{owner_of, range_with_len, refl, replicate, same_lists, set, slot, subst, suc, sum_by-set, sym, take, with_chain, ℕ, ◌%◌}
use Rattle.block_pool.proofs.Words.{◌*◌, ◌++◌, ◌+◌, ◌-◌, ◌/◌, ◌<◌, ◌^◌, ◌∙◌, ◌∷◌, ◌≡◌, ◌≢◌, ◌≤◌}
use Rattle.block_pool.specs.Layout.{laid_bytes, slots_of}
use Rattle.block_pool.proofs.FreshLemmas.{get_or-filled}
use Rattle.block_pool.proofs.LinkLemmas.{unchanged, behind, same_bytes, one_more_byte, one_byte, length-chain_bytes, length-slots_of, slot_is, same_slots}
use Rattle.block_pool.proofs.LinkLemmas.{slots_set, none_is_some, same_mark, other_block, popped, popped_other, popped_rest, freed, freed_chain}
use Rattle.block_pool.proofs.LinkLemmas.{freed_free, in_pool, block_of_byte, other_link, last_link, last_marked, free_link}

-- ---- a byte more in the last block

module _ (region next : List ℕ) (heads : List (Option Head)) (free free_len : ℕ) (sound : AreSoundBlocks region next heads free free_len) where
  -- no chain begins at the first free block
  pub first_free : 0 < free_len → IsMarked sound.mark sound.count free sound.count 0
  first_free some = sound.spare 0 some

  pub no_head : 0 < free_len → get_or heads free None ≡ None
  no_head some = by_head (get_or heads free None) refl
    where
      by_head : (h : Option Head) → get_or heads free None ≡ h → h ≡ None
      by_head None e = refl
      by_head (Some head) e =
          let chain = sound.chains free head e in
          let m = chain.marked 0 (let s : 0 < head.len = chain.some in omega arith) in
          let free_mark = first_free some in
          absurd (let same : free ≡ sound.count = (same_mark sound.mark free free free 0 sound.count 0 m.1 free_mark.1 refl).0 in omega (arith, m.0))

  -- the head of another block than the one that was written
  other_head : (b : ℕ) (v : Option Head) (c : ℕ) (h : Option Head) → c ≢ b → get_or (set heads b v) c None ≡ h → get_or heads c None ≡ h
  other_head b v c h apart e = sym (get_or-set_other heads b c v None apart) ∙ e

  -- the head that was written
  this_head : (b : ℕ) (v h : Head) → b < length heads → get_or (set heads b (Some v)) b None ≡ Some h → h ≡ v
  this_head b v h low e = grind (arith, get_or-set_same)

  -- a byte more in the last block of a chain
  pub push_in_block_sound : (b : ℕ) (head : Head) (place byte : ℕ) → get_or heads b None ≡ Some head → 0 < head.len % 32 → AreSoundBlocks
      (set region place byte) next
      (set heads b (Some (record { owner = head.owner; last = head.last; len = head.len + 1; read_on = head.read_on; passed = head.passed }))) free free_len
  push_in_block_sound b head place byte at room =
      let chain = sound.chains b head at in
      let low : b < length heads = omega (arith, in_pool chain, sound.counted) in
      let longer : Head = record { owner = head.owner; last = head.last; len = head.len + 1; read_on = head.read_on; passed = head.passed } in
      let same_blocks : blocks_for (head.len + 1) ≡ blocks_for head.len = omega arith in
      let grown : IsChain next sound.mark sound.count b longer = grind arith in
      record {
        count = sound.count;
        counted = length-set heads b (Some longer) ∙ sound.counted;
        links = sound.links;
        bytes = length-set region place byte ∙ sound.bytes;
        few = sound.few;
        mark = sound.mark;
        chains = λ c h e. elim (cases_eq c b) [
          | inl same ↦ subst (λ x. IsChain next sound.mark sound.count x h) (sym same)
              (subst (λ g. IsChain next sound.mark sound.count b g)
              (sym (this_head b longer h low (subst (λ x. get_or (set heads b (Some longer)) x None ≡ Some h) same e))) grown)
          | inr apart ↦ sound.chains c h (other_head b (Some longer) c (Some h) apart e)
        ];
        spare = sound.spare;
        all = omega (arith, sum_by-set head_blocks heads b (Some longer) None low, ap head_blocks at, same_blocks, sound.all);
      }

  -- the bytes of a chain, where another chain's block was written
  other_bytes : (b : ℕ) (head : Head) → get_or heads b None ≡ Some head → (block d j offset byte : ℕ) → sound.mark block ≡ (d, j) → d ≢ b
      → laid_bytes (set region (32 * block + offset % 32) byte) next b head.len ≡ laid_bytes region next b head.len
  other_bytes b head at block d j offset byte marked apart =
      same_bytes region next (set region (32 * block + offset % 32) byte) next b head.len (λ i low.
      let m = block_of_byte (sound.chains b head at) i low in
      get_or-set_other region (32 * block + offset % 32) (32 * block_at next b (i / 32) + i % 32) byte 0
      (grind arith))

  -- the block that has room is the last one
  last_has_room : (b : ℕ) (head : Head) → get_or heads b None ≡ Some head → 0 < head.len % 32 → block_at next b (head.len / 32) ≡ head.last
  last_has_room b head at room = ap (block_at next b) (omega arith) ∙ (sound.chains b head at).last

  -- the chain's bytes after a byte more in its last block
  pub pushed_bytes : (b : ℕ) (head : Head) (byte : ℕ) → get_or heads b None ≡ Some head → 0 < head.len % 32
      → laid_bytes (set region (32 * head.last + head.len % 32) byte) next b (head.len + 1) ≡ laid_bytes region next b head.len ++ byte ∷ []
  pushed_bytes b head byte at room =
      let chain = sound.chains b head at in
      let place = 32 * head.last + head.len % 32 in
      let in_region : place < length region = omega (arith, (last_marked chain).0, sound.bytes) in
      let new_byte : linked_byte (set region place byte) next b head.len ≡ byte =
      ap (λ x. get_or (set region place byte) (32 * x + head.len % 32) 0) (last_has_room b head at room) ∙ get_or-set_same region place byte 0 in_region in
      let before : laid_bytes (set region place byte) next b head.len ≡ laid_bytes region next b head.len =
      same_bytes region next (set region place byte) next b head.len (λ i low.
      let m = block_of_byte chain i low in
      get_or-set_other region place (32 * block_at next b (i / 32) + i % 32) byte 0
      (λ same.
      let blocks : block_at next b (i / 32) ≡ head.last = omega arith in
      let parts = same_mark sound.mark (block_at next b (i / 32)) head.last b (i / 32) b (blocks_for head.len - 1) m.1 (last_marked chain).1 blocks in
      let place_is : i / 32 ≡ blocks_for head.len - 1 = parts.1 in
      let offsets : i % 32 ≡ head.len % 32 = omega arith in
      absurd (omega arith))) in
      one_more_byte (set region place byte) next b head.len
      ∙ (ap (λ bs. bs ++ linked_byte (set region place byte) next b head.len ∷ []) before ∙ ap (λ x. laid_bytes region next b head.len ++ x ∷ []) new_byte)

  pub push_in_block_slots : (b : ℕ) (head : Head) (byte : ℕ) → get_or heads b None ≡ Some head → 0 < head.len % 32 → slots_of
      (set region (32 * head.last + head.len % 32) byte) next
      (set heads b (Some (record { owner = head.owner; last = head.last; len = head.len + 1; read_on = head.read_on; passed = head.passed }))) ≡ with_chain
      (slots_of region next heads) b head.owner (laid_bytes region next b head.len ++ byte ∷ [])
  push_in_block_slots b head byte at room =
      let chain = sound.chains b head at in
      let low : b < length heads = omega (arith, in_pool chain, sound.counted) in
      let longer : Head = record { owner = head.owner; last = head.last; len = head.len + 1; read_on = head.read_on; passed = head.passed } in
      let place = 32 * head.last + head.len % 32 in
      slots_set (record {
        low = low;
        here = ap (λ bs. Some (record { owner = head.owner; bytes = bs })) (pushed_bytes b head byte at room);
        others = λ c apart. other_held c (get_or heads c None) refl b head (last_marked chain).1 apart;
      })
    where
      other_held : (c : ℕ) (h : Option Head) → get_or heads c None ≡ h → (b : ℕ) (head : Head) → sound.mark head.last ≡ (b, blocks_for head.len - 1) → c ≢ b
          → held_by (set region (32 * head.last + head.len % 32) byte) next c (get_or heads c None) ≡ held_by region next c (get_or heads c None)
      other_held c None e b head m apart = rw e refl
      other_held c (Some h) e b head m apart =
          rw e (ap (λ bs. Some (record { owner = h.owner; bytes = bs }))
          (other_bytes c h e head.last b (blocks_for head.len - 1) head.len byte m (λ s. apart (sym s))))

  -- ---- the first free block taken

  -- the next free blocks
  popped_spare : (c k : ℕ) (next' : List ℕ) (after : ℕ) → after ≡ get_or next free 0
      → ((i : ℕ) → i < free_len - 1 → block_at next' after i ≡ block_at next after i) → (i : ℕ) → i < free_len - 1
      → IsMarked (λ x. popped sound.count c k (sound.mark x)) sound.count (block_at next' after i) sound.count i
  popped_spare c k next' after is_next same i low =
      let place : block_at next' after i ≡ block_at next free (1 + i) = same i low ∙ (ap (λ x. block_at next x i) is_next ∙ behind next free 1 i) in
      let m = sound.spare (1 + i) (omega arith) in
      subst (λ x. IsMarked (λ y. popped sound.count c k (sound.mark y)) sound.count x sound.count i) (sym place)
      (m.0, ap (popped sound.count c k) m.1 ∙ popped_rest sound.count c k i)

  -- a chain that wasn't written
  popped_chain : (c k : ℕ) (next' : List ℕ) (d : ℕ) (head : Head) → get_or heads d None ≡ Some head
      → ((i : ℕ) → i < blocks_for head.len → block_at next' d i ≡ block_at next d i)
      → IsChain next' (λ x. popped sound.count c k (sound.mark x)) sound.count d head
  popped_chain c k next' d head at same =
      let chain = sound.chains d head at in
      let some : 0 < head.len = chain.some in
      let low = in_pool chain in
      record {
        some = chain.some;
        marked = λ i h.
            let m = chain.marked i h in
            subst (λ x. IsMarked (λ y. popped sound.count c k (sound.mark y)) sound.count x d i) (sym (same i h))
            (m.0, ap (popped sound.count c k) m.1 ∙ popped_other sound.count c k d i (λ e. absurd (omega arith)));
        last = same (blocks_for head.len - 1) (omega arith) ∙ chain.last;
        within = chain.within;
        reading = same head.passed chain.within ∙ chain.reading;
      }

  pub begin_sound : (owner byte place after : ℕ) → 0 < free_len → after ≡ get_or next free 0 → AreSoundBlocks (set region place byte) next
      (set heads free (Some (record { owner = owner; last = free; len = 1; read_on = free; passed = 0 }))) after (free_len - 1)
  begin_sound owner byte place after some is_next =
      let low : free < length heads = omega (arith, (first_free some).0, sound.counted) in
      let new : Head = record { owner = owner; last = free; len = 1; read_on = free; passed = 0 } in
      let mark = λ (x : ℕ). popped sound.count free 0 (sound.mark x) in
      record {
        count = sound.count;
        counted = length-set heads free (Some new) ∙ sound.counted;
        links = sound.links;
        bytes = length-set region place byte ∙ sound.bytes;
        few = sound.few;
        mark = mark;
        chains = λ c h e. elim (cases_eq c free) [
          | inl same ↦ subst (λ x. IsChain next mark sound.count x h) (sym same)
              (subst (λ g. IsChain next mark sound.count free g)
              (sym (this_head free new h low (subst (λ x. get_or (set heads free (Some new)) x None ≡ Some h) same e))) (grind arith))
          | inr apart ↦ popped_chain free 0 next c h (other_head free (Some new) c (Some h) apart e) (λ i low. refl)
        ];
        spare = popped_spare free 0 next after is_next (λ i low. refl);
        all = omega (arith, sum_by-set head_blocks heads free (Some new) None low, ap head_blocks (no_head some), sound.all);
      }

  pub begun_bytes : (byte : ℕ) → 0 < free_len → laid_bytes (set region (32 * free) byte) next free 1 ≡ byte ∷ []
  begun_bytes byte some = grind (arith, first_free, one_byte, get_or-set_same)

  pub begin_slots : (owner byte : ℕ) → 0 < free_len → slots_of (set region (32 * free) byte) next
      (set heads free (Some (record { owner = owner; last = free; len = 1; read_on = free; passed = 0 }))) ≡ with_chain
      (slots_of region next heads) free owner (byte ∷ [])
  begin_slots owner byte some =
      let first = first_free some in
      let low : free < length heads = omega (arith, first.0, sound.counted) in
      let new : Head = record { owner = owner; last = free; len = 1; read_on = free; passed = 0 } in
      slots_set (record {
        low = low;
        here = ap (λ bs. Some (record { owner = owner; bytes = bs })) (begun_bytes byte some);
        others = λ c apart. ap (λ i. held_by (set region i byte) next c (get_or heads c None)) (sym (omega arith))
            ∙ other_held c (get_or heads c None) refl first.1;
      })
    where
      other_held : (c : ℕ) (h : Option Head) → get_or heads c None ≡ h → sound.mark free ≡ (sound.count, 0)
          → held_by (set region (32 * free + 0 % 32) byte) next c (get_or heads c None) ≡ held_by region next c (get_or heads c None)
      other_held c None e m = rw e refl
      other_held c (Some h) e m =
          let low = in_pool (sound.chains c h e) in
          rw e (ap (λ bs. Some (record { owner = h.owner; bytes = bs })) (other_bytes c h e free sound.count 0 0 byte m (λ s. absurd (omega arith))))

  -- ---- a byte more in a new last block

  pub push_in_new_block_sound : (b : ℕ) (head : Head)
      (place byte after : ℕ) → get_or heads b None ≡ Some head → head.len % 32 ≡ 0 → 0 < free_len → after ≡ get_or next free 0 → AreSoundBlocks
      (set region place byte) (set next head.last free)
      (set heads b (Some (record { owner = head.owner; last = free; len = head.len + 1; read_on = head.read_on; passed = head.passed }))) after (free_len - 1)
  push_in_new_block_sound b head place byte after at full some is_next =
      let chain = sound.chains b head at in
      let b_low = in_pool chain in
      let low : b < length heads = omega (arith, b_low, sound.counted) in
      let head_some : 0 < head.len = chain.some in
      let longer : Head = record { owner = head.owner; last = free; len = head.len + 1; read_on = head.read_on; passed = head.passed } in
      let first = first_free some in
      let l = last_marked chain in
      let n = blocks_for head.len in
      let n_some : 0 < n = omega arith in
      let one_more : blocks_for (head.len + 1) ≡ n + 1 = omega arith in
      let next' = set next head.last free in
      let mark = λ (x : ℕ). popped sound.count b n (sound.mark x) in
      let kept = λ (k : ℕ) (h : k < n). last_link chain head.last free (n - 1) l.1 k h (omega arith) in
      let new_last : block_at next' b n ≡ free =
      let e : suc (n - 1) ≡ n = omega arith in
      let step : get_or next' (block_at next' b (n - 1)) 0 ≡ free =
      ap (λ x. get_or next' x 0) (kept (n - 1) (omega arith) ∙ chain.last) ∙ get_or-set_same next head.last free 0 (omega (arith, l.0, sound.links)) in
      ap (block_at next' b) (sym e) ∙ step in
      let grown : IsChain next' mark sound.count b longer = grind arith in
      record {
        count = sound.count;
        counted = length-set heads b (Some longer) ∙ sound.counted;
        links = length-set next head.last free ∙ sound.links;
        bytes = length-set region place byte ∙ sound.bytes;
        few = sound.few;
        mark = mark;
        chains = λ c h e. elim (cases_eq c b) [
          | inl same ↦ subst (λ x. IsChain next' mark sound.count x h) (sym same)
              (subst (λ g. IsChain next' mark sound.count b g)
              (sym (this_head b longer h low (subst (λ x. get_or (set heads b (Some longer)) x None ≡ Some h) same e))) grown)
          | inr apart ↦
              let at_c = other_head b (Some longer) c (Some h) apart e in
              popped_chain b n next' c h at_c
              (λ i i_low. other_link (sound.chains c h at_c) head.last free b (n - 1) l.1 (λ s. apart (sym s)) i i_low)
        ];
        spare = popped_spare b n next' after is_next (λ i i_low. unchanged next head.last free after i (λ j h same.
            let m = sound.spare (1 + j) (omega arith) in
            let place_is : block_at next free (1 + j) ≡ head.last = sym (ap (λ x. block_at next x j) is_next ∙ behind next free 1 j) ∙ same in
            let parts = same_mark sound.mark (block_at next free (1 + j)) head.last sound.count (1 + j) b (n - 1) m.1 l.1 place_is in
            absurd (let e : sound.count ≡ b = parts.0 in omega arith)));
        all = omega (arith, sum_by-set head_blocks heads b (Some longer) None low, ap head_blocks at, one_more, sound.all);
      }

  pub push_in_new_block_slots : (b : ℕ) (head : Head) (byte : ℕ) → get_or heads b None ≡ Some head → head.len % 32 ≡ 0 → 0 < free_len → slots_of
      (set region (32 * free) byte) (set next head.last free)
      (set heads b (Some (record { owner = head.owner; last = free; len = head.len + 1; read_on = head.read_on; passed = head.passed }))) ≡ with_chain
      (slots_of region next heads) b head.owner (laid_bytes region next b head.len ++ byte ∷ [])
  push_in_new_block_slots b head byte at full some =
      let chain = sound.chains b head at in
      let low : b < length heads = omega (arith, in_pool chain, sound.counted) in
      let head_some : 0 < head.len = chain.some in
      let longer : Head = record { owner = head.owner; last = free; len = head.len + 1; read_on = head.read_on; passed = head.passed } in
      let first = first_free some in
      let l = last_marked chain in
      let n = blocks_for head.len in
      let next' = set next head.last free in
      let region' = set region (32 * free) byte in
      let plain : 32 * free + 0 ≡ 32 * free = omega arith in
      let in_region : 32 * free < length region = omega (arith, first.0, sound.bytes) in
      let kept = λ (k : ℕ) (h : k < n). last_link chain head.last free (n - 1) l.1 k h (omega arith) in
      let new_last : block_at next' b (head.len / 32) ≡ free =
      let e : suc (n - 1) ≡ head.len / 32 = omega arith in
      let step : get_or next' (block_at next' b (n - 1)) 0 ≡ free =
      ap (λ x. get_or next' x 0) (kept (n - 1) (omega arith) ∙ chain.last) ∙ get_or-set_same next head.last free 0 (omega (arith, l.0, sound.links)) in
      ap (block_at next' b) (sym e) ∙ step in
      let new_byte : linked_byte region' next' b head.len ≡ byte =
      ap (λ x. get_or region' (32 * x + head.len % 32) 0) new_last
      ∙ (ap (λ o. get_or region' (32 * free + o) 0) full ∙ (ap (λ i. get_or region' i 0) plain ∙ get_or-set_same region (32 * free) byte 0 in_region)) in
      let same_links : laid_bytes region next' b head.len ≡ laid_bytes region next b head.len =
      same_bytes region next region next' b head.len (λ i i_low. ap (λ x. get_or region (32 * x + i % 32) 0) (kept (i / 32) (omega arith))) in
      let before : laid_bytes region' next' b head.len ≡ laid_bytes region next b head.len =
      same_bytes region next' region' next' b head.len (λ i i_low.
      let m = block_of_byte chain i i_low in
      let block_is : block_at next' b (i / 32) ≡ block_at next b (i / 32) = kept (i / 32) (omega arith) in
      let apart : block_at next' b (i / 32) ≢ free = grind arith in
      get_or-set_other region (32 * free) (32 * block_at next' b (i / 32) + i % 32) byte 0
      (λ same. other_block (block_at next' b (i / 32)) free i 0 apart (same ∙ sym plain)))
      ∙ same_links in
      slots_set (record {
        low = low;
        here = ap (λ bs. Some (record { owner = head.owner; bytes = bs }))
            (one_more_byte region' next' b head.len
            ∙ (ap (λ bs. bs ++ linked_byte region' next' b head.len ∷ []) before ∙ ap (λ x. laid_bytes region next b head.len ++ x ∷ []) new_byte));
        others = λ c apart. ap (λ i. held_by (set region i byte) next' c (get_or heads c None)) (sym plain)
            ∙ other_held c (get_or heads c None) refl b head l.1 first.1 apart;
      })
    where
      other_held : (c : ℕ) (h : Option Head) → get_or heads c None ≡ h → (b : ℕ) (head : Head) → sound.mark head.last ≡ (b, blocks_for head.len - 1)
          → sound.mark free ≡ (sound.count, 0) → c ≢ b
          → held_by (set region (32 * free + 0 % 32) byte) (set next head.last free) c (get_or heads c None) ≡ held_by region next c (get_or heads c None)
      other_held c None e b head m m0 apart = rw e refl
      other_held c (Some h) e b head m m0 apart =
          let c_chain = sound.chains c h e in
          let low = in_pool c_chain in
          let links : laid_bytes (set region (32 * free + 0 % 32) byte) (set next head.last free) c h.len
          ≡ laid_bytes (set region (32 * free + 0 % 32) byte) next c h.len =
          same_bytes (set region (32 * free + 0 % 32) byte) next (set region (32 * free + 0 % 32) byte) (set next head.last free) c h.len
          (λ i i_low. ap (λ x. get_or (set region (32 * free + 0 % 32) byte) (32 * x + i % 32) 0)
          (other_link c_chain head.last free b (blocks_for head.len - 1) m (λ s. apart (sym s)) (i / 32) (omega arith))) in
          rw e (ap (λ bs. Some (record { owner = h.owner; bytes = bs })) (links ∙ other_bytes c h e free sound.count 0 0 byte m0 (λ s. absurd (omega arith))))

  -- ---- a chain freed

  pub free_chain_sound : (b : ℕ) (head : Head) → get_or heads b None ≡ Some head
      → AreSoundBlocks region (set next head.last free) (set heads b None) b (free_len + blocks_for head.len)
  free_chain_sound b head at =
      let chain = sound.chains b head at in
      let low : b < length heads = omega (arith, in_pool chain, sound.counted) in
      let head_some : 0 < head.len = chain.some in
      let l = last_marked chain in
      let n = blocks_for head.len in
      let n_some : 0 < n = omega arith in
      let next' = set next head.last free in
      let mark = λ (x : ℕ). freed sound.count b n (sound.mark x) in
      let kept = λ (k : ℕ) (h : k < n). last_link chain head.last free (n - 1) l.1 k h (omega arith) in
      let count_apart : sound.count ≢ b = λ e. absurd (omega arith) in
      let behind_last : block_at next' b n ≡ free =
      let e : suc (n - 1) ≡ n = omega arith in
      let step : get_or next' (block_at next' b (n - 1)) 0 ≡ free =
      ap (λ x. get_or next' x 0) (kept (n - 1) (omega arith) ∙ chain.last) ∙ get_or-set_same next head.last free 0 (omega (arith, l.0, sound.links)) in
      ap (block_at next' b) (sym e) ∙ step in
      record {
        count = sound.count;
        counted = length-set heads b None ∙ sound.counted;
        links = length-set next head.last free ∙ sound.links;
        bytes = sound.bytes;
        few = sound.few;
        mark = mark;
        chains = λ c h e. elim (cases_eq c b) [
          | inl same ↦ absurd (none_is_some h (sym (ap (λ x. get_or (set heads b None) x None) same ∙ get_or-set_same heads b None None low) ∙ e))
          | inr apart ↦
              let c_chain = sound.chains c h (other_head b None c (Some h) apart e) in
              let c_low = in_pool c_chain in
              let c_some : 0 < h.len = c_chain.some in
              let same = λ (i : ℕ) (i_low : i < blocks_for h.len). other_link c_chain head.last free b (n - 1) l.1
              (λ s. apart (sym s)) i i_low in
              record {
                some = c_chain.some;
                marked = grind arith;
                last = same (blocks_for h.len - 1) (omega arith) ∙ c_chain.last;
                within = c_chain.within;
                reading = same h.passed c_chain.within ∙ c_chain.reading;
              }
        ];
        spare = λ k k_low. elim (cases_lt k n) [
          | inl in_chain ↦
              let m = chain.marked k in_chain in
              subst (λ x. IsMarked mark sound.count x sound.count k) (sym (kept k in_chain))
              (m.0, ap (freed sound.count b n) m.1 ∙ freed_chain sound.count b n k)
          | inr further ↦
              let j = k - n in
              let m = sound.spare j (omega arith) in
              let place : block_at next' b k ≡ block_at next free j =
              ap (block_at next' b) (sym (omega arith)) ∙ (sym (behind next' b n j) ∙ (ap (λ x. block_at next' x j) behind_last
              ∙ free_link sound head.last free b (n - 1) l.1 (λ s. absurd (omega arith)) j (omega arith))) in
              subst (λ x. IsMarked mark sound.count x sound.count k) (sym place)
              (m.0, ap (freed sound.count b n) m.1 ∙ (freed_free sound.count b n j count_apart ∙ ap (λ i. (sound.count, i)) (omega arith)))
        ];
        all = omega (arith, sum_by-set head_blocks heads b None None low, ap head_blocks at, sound.all);
      }

  pub free_chain_slots : (b : ℕ) (head : Head) → get_or heads b None ≡ Some head
      → slots_of region (set next head.last free) (set heads b None) ≡ set (slots_of region next heads) b None
  free_chain_slots b head at =
      let chain = sound.chains b head at in
      let low : b < length heads = omega (arith, in_pool chain, sound.counted) in
      slots_set (record { low = low; here = refl; others = λ c apart. other_held c (get_or heads c None) refl b head (last_marked chain).1 apart })
    where
      other_held : (c : ℕ) (h : Option Head) → get_or heads c None ≡ h → (b : ℕ) (head : Head) → sound.mark head.last ≡ (b, blocks_for head.len - 1) → c ≢ b
          → held_by region (set next head.last free) c (get_or heads c None) ≡ held_by region next c (get_or heads c None)
      other_held c None e b head m apart = rw e refl
      other_held c (Some h) e b head m apart =
          rw e (ap (λ bs. Some (record { owner = h.owner; bytes = bs }))
          (same_bytes region next region (set next head.last free) c h.len
          (λ i i_low. ap (λ x. get_or region (32 * x + i % 32) 0)
          (other_link (sound.chains c h e) head.last free b (blocks_for head.len - 1) m (λ s. apart (sym s)) (i / 32)
          (omega arith)))))

-- the last block of a chain lies in the pool
pub last_in : (region next : List ℕ) (heads : List (Option Head)) (free free_len : ℕ) (sound : AreSoundBlocks region next heads free free_len) (b : ℕ)
    (head : Head) → get_or heads b None ≡ Some head → head.last < sound.count
last_in region next heads free free_len sound b head at = (last_marked (sound.chains b head at)).0

-- a chain has no more blocks than a pool, which has at most 16,384
pub blocks_few : (region next : List ℕ) (heads : List (Option Head)) (free free_len : ℕ) (sound : AreSoundBlocks region next heads free free_len) (b : ℕ)
    (head : Head) → get_or heads b None ≡ Some head → blocks_for head.len ≤ 16384
blocks_few region next heads free free_len sound b head at =
    let low : b < length heads = omega (arith, in_pool (sound.chains b head at), sound.counted) in
    omega (arith, sum_by-set head_blocks heads b None None low, ap head_blocks at, sound.all, sound.few)

-- and so does its first one
pub begun_low : (region next : List ℕ) (heads : List (Option Head)) (free free_len : ℕ) (sound : AreSoundBlocks region next heads free free_len) (b : ℕ)
    (head : Head) → get_or heads b None ≡ Some head → b < length (slots_of region next heads)
begun_low region next heads free free_len sound b head at = omega (arith, in_pool (sound.chains b head at), sound.counted, length-slots_of region next heads)

-- the length of a chain that isn't too long fits its type
pub head_fits : (len bytes : ℕ) → bytes ≡ len → bytes < 2 ^ 24 → Fits w32 (len + 1)
head_fits len bytes same short = grind (arith, common_steps)

-- how many blocks a chain has, as the code computes it
pub blocks_is : (n len : ℕ) → n ≡ div_ceil len 32 → n ≡ blocks_for len
blocks_is n len e = omega arith

pub blocks_fit : (n k len : ℕ) → n ≡ div_ceil len 32 → k + blocks_for len < 2 ^ 16 → Fits w16 n × Fits w16 (k + n)
blocks_fit n k len e low = let same = blocks_is n len e in (grind (arith, common_steps), grind (arith, common_steps))

-- ---- what the slots say of a head

module _ (region next : List ℕ) (heads : List (Option Head)) (fresh : ℕ) (slots : List (Option Held))
    (view : slots_of region next heads ++ replicate fresh None ≡ slots) where
  slots_say : (b : ℕ) → slot slots b ≡ held_by region next b (get_or heads b None)
  slots_say b = ap (λ s. slot s b) (sym view) ∙ (get_or-filled (slots_of region next heads) fresh b None ∙ slot_is region next heads b)

  pub bytes_say : (b : ℕ) (head : Head) → get_or heads b None ≡ Some head → held_bytes slots b ≡ laid_bytes region next b head.len
  bytes_say b head at = ap bytes_in (slots_say b ∙ ap (held_by region next b) at)

  pub owner_says : (b : ℕ) (head : Head) → get_or heads b None ≡ Some head → owner_of slots b ≡ head.owner
  owner_says b head at = ap owner_in (slots_say b ∙ ap (held_by region next b) at)

  pub len_says : (b : ℕ) (head : Head) → get_or heads b None ≡ Some head → length (held_bytes slots b) ≡ head.len
  len_says b head at = ap length (bytes_say b head at) ∙ length-chain_bytes region next b head.len

  -- where there are bytes a chain begins
  pub not_none : (b : ℕ) → 0 < length (held_bytes slots b) → get_or heads b None ≡ None → ⊥
  not_none b some e = let h0 = slots_say b in grind arith

  pub has_head : (b : ℕ) → 0 < length (held_bytes slots b) → IsSome (get_or heads b None)
  has_head b some = grind (arith, not_none)

-- ---- another owner

module _ (region next : List ℕ) (heads : List (Option Head)) (free free_len : ℕ) (sound : AreSoundBlocks region next heads free free_len) where
  pub set_owner_sound : (b owner : ℕ) (head : Head) → get_or heads b None ≡ Some head → AreSoundBlocks region next
      (set heads b (Some (record { owner = owner; last = head.last; len = head.len; read_on = head.read_on; passed = head.passed }))) free free_len
  set_owner_sound b owner head at =
      let chain = sound.chains b head at in
      let low : b < length heads = omega (arith, in_pool chain, sound.counted) in
      let new : Head = record { owner = owner; last = head.last; len = head.len; read_on = head.read_on; passed = head.passed } in
      let kept : IsChain next sound.mark sound.count b new = grind arith in
      record {
        count = sound.count;
        counted = length-set heads b (Some new) ∙ sound.counted;
        links = sound.links;
        bytes = sound.bytes;
        few = sound.few;
        mark = sound.mark;
        chains = λ c h e. elim (cases_eq c b) [
          | inl same ↦ subst (λ x. IsChain next sound.mark sound.count x h) (sym same)
              (subst (λ g. IsChain next sound.mark sound.count b g) (sym
              (this_head region next heads free free_len sound b new h low (subst (λ x. get_or (set heads b (Some new)) x None ≡ Some h) same e))) kept)
          | inr apart ↦ sound.chains c h (other_head region next heads free free_len sound b (Some new) c (Some h) apart e)
        ];
        spare = sound.spare;
        all = omega (arith, sum_by-set head_blocks heads b (Some new) None low, ap head_blocks at, sound.all);
      }

  pub set_owner_slots : (b owner : ℕ) (head : Head) → get_or heads b None ≡ Some head → slots_of region next
      (set heads b (Some (record { owner = owner; last = head.last; len = head.len; read_on = head.read_on; passed = head.passed }))) ≡ with_chain
      (slots_of region next heads) b owner (laid_bytes region next b head.len)
  set_owner_slots b owner head at =
      let low : b < length heads = omega (arith, in_pool (sound.chains b head at), sound.counted) in
      let new : Head = record { owner = owner; last = head.last; len = head.len; read_on = head.read_on; passed = head.passed } in
      slots_set (record { low = low; here = refl; others = λ c apart. refl })

  -- ---- reading goes on at another block

  pub read_on_sound : (b block passed : ℕ)
      (head : Head) → get_or heads b None ≡ Some head → passed < blocks_for head.len → block ≡ block_at next b passed → AreSoundBlocks region next
      (set heads b (Some (record { owner = head.owner; last = head.last; len = head.len; read_on = block; passed = passed }))) free free_len
  read_on_sound b block passed head at low block_is =
      let chain = sound.chains b head at in
      let b_low : b < length heads = omega (arith, in_pool chain, sound.counted) in
      let new : Head = record { owner = head.owner; last = head.last; len = head.len; read_on = block; passed = passed } in
      let kept : IsChain next sound.mark sound.count b new = grind arith in
      record {
        count = sound.count;
        counted = length-set heads b (Some new) ∙ sound.counted;
        links = sound.links;
        bytes = sound.bytes;
        few = sound.few;
        mark = sound.mark;
        chains = λ c h e. elim (cases_eq c b) [
          | inl same ↦ subst (λ x. IsChain next sound.mark sound.count x h) (sym same)
              (subst (λ g. IsChain next sound.mark sound.count b g) (sym
              (this_head region next heads free free_len sound b new h b_low (subst (λ x. get_or (set heads b (Some new)) x None ≡ Some h) same e))) kept)
          | inr apart ↦ sound.chains c h (other_head region next heads free free_len sound b (Some new) c (Some h) apart e)
        ];
        spare = sound.spare;
        all = omega (arith, sum_by-set head_blocks heads b (Some new) None b_low, ap head_blocks at, sound.all);
      }

  pub read_on_slots : (b block passed : ℕ) (head : Head) → get_or heads b None ≡ Some head → slots_of region next
      (set heads b (Some (record { owner = head.owner; last = head.last; len = head.len; read_on = block; passed = passed }))) ≡ slots_of region next heads
  unfolding slots_of
  read_on_slots b block passed head at =
      let low : b < length heads = omega (arith, in_pool (sound.chains b head at), sound.counted) in
      let new : Head = record { owner = head.owner; last = head.last; len = head.len; read_on = block; passed = passed } in
      let len = length-set heads b (Some new) in
      ap (λ n. map (λ c. held_by region next c (get_or (set heads b (Some new)) c None)) (range_with_len 0 n)) len
      ∙ same_slots (λ c. held_by region next c (get_or (set heads b (Some new)) c None)) (λ c. held_by region next c (get_or heads c None)) (length heads)
      (λ c. elim (cases_eq c b) [
        | inl same ↦ subst (λ x. held_by region next x (get_or (set heads b (Some new)) x None) ≡ held_by region next x (get_or heads x None)) (sym same)
            (ap (held_by region next b) (get_or-set_same heads b (Some new) None low) ∙ sym (ap (held_by region next b) at))
        | inr apart ↦ ap (held_by region next c) (get_or-set_other heads b c (Some new) None apart)
      ])

  -- ---- bytes copied out

  -- the blocks of a chain lie in the pool
  pub blocks_low : (b : ℕ) (head : Head) → get_or heads b None ≡ Some head → (k : ℕ) → k * 32 < head.len → block_at next b k < length next
  blocks_low b head at k low = omega (arith, (sound.chains b head at).marked k (omega arith), sound.links)

-- a part of bytes made by place
drop-made : (f : ℕ → ℕ) (n from : ℕ) → from ≤ n → drop from (map f (range_with_len 0 n)) ≡ map f (range_with_len from (n - from))
drop-made f n from low =
    let made = map f (range_with_len 0 n) in
    let len = length-map-range_with_len f 0 n in
    let rest = length-map-range_with_len f from (n - from) in
    same_lists _ _ (omega (arith, length-drop from made, len, rest))
    (λ k d h.
    let inside : k < n - from = omega (arith, length-drop from made, len) in
    get_or-drop from made k d
    ∙ (get_or-map-range_with_len f 0 n (from + k) (from + k) d (omega arith) (omega arith)
    ∙ sym (get_or-map-range_with_len f from (n - from) k (from + k) d inside refl)))

pub copied_bytes : (region next : List ℕ) (b len from count : ℕ) → from ≤ len → count ≤ len - from
    → map (linked_byte region next b) (range_with_len from count) ≡ take count (drop from (laid_bytes region next b len))
unfolding laid_bytes
copied_bytes region next b len from count low few = grind (arith, drop-made, take-map-range_with_len)

-- what the slots say of a chain whose head is known
module _ (region next : List ℕ) (heads : List (Option Head)) (free free_len : ℕ) (sound : AreSoundBlocks region next heads free free_len)
    (fresh : ℕ) (slots : List (Option Held)) (view : slots_of region next heads ++ replicate fresh None ≡ slots) (b : ℕ)
    (some : 0 < length (held_bytes slots b)) where
  pub blocks_reached : (k : ℕ) → k * 32 < length (held_bytes slots b) → block_at next b k < length next
  blocks_reached k low = by_head (get_or heads b None) refl
    where
      by_head : (h : Option Head) → get_or heads b None ≡ h → block_at next b k < length next
      by_head None e = absurd (not_none region next heads fresh slots view b some e)
      by_head (Some head) e = blocks_low region next heads free free_len sound b head e k (omega (arith, len_says region next heads fresh slots view b head e))

  pub bytes_copied : (from count : ℕ) → from ≤ length (held_bytes slots b) → count ≤ length (held_bytes slots b) - from
      → map (linked_byte region next b) (range_with_len from count) ≡ take count (drop from (held_bytes slots b))
  bytes_copied from count low few = by_head (get_or heads b None) refl
    where
      by_head : (h : Option Head) → get_or heads b None ≡ h
          → map (linked_byte region next b) (range_with_len from count) ≡ take count (drop from (held_bytes slots b))
      by_head None e = absurd (not_none region next heads fresh slots view b some e)
      by_head (Some head) e =
          let len = len_says region next heads fresh slots view b head e in
          copied_bytes region next b head.len from count (omega (arith, len)) (omega (arith, len))
          ∙ ap (λ bs. take count (drop from bs)) (sym (bytes_say region next heads fresh slots view b head e))

  pub copied_out : (from count : ℕ) (out new : List ℕ) → from ≤ length (held_bytes slots b) → count ≡ min (length (held_bytes slots b) - from) (length out)
      → new ≡ map (linked_byte region next b) (range_with_len from (length (take count out)))
      → new ++ drop count out ≡ take count (drop from (held_bytes slots b)) ++ drop count out
  copied_out from count out new low count_is new_is = grind (arith, length-take, bytes_copied)

-- ---- a new pool

-- no block was used yet
pub make_sound : (region next : List ℕ) (heads : List (Option Head)) → region ≡ [] → next ≡ [] → heads ≡ [] → AreSoundBlocks region next heads 0 0
make_sound region next heads bytes links none = rw (bytes, links, none) (record {
  count = 0;
  counted = refl;
  links = refl;
  bytes = refl;
  few = omega arith;
  mark = λ x. (0, x);
  chains = λ b head e. absurd (none_is_some head (sym (get_or_past [] b None (omega arith)) ∙ e));
  spare = λ k low. absurd (omega arith);
  all = refl;
})

pub make_slots : (region next : List ℕ) (heads : List (Option Head)) → heads ≡ [] → slots_of region next heads ≡ []
unfolding slots_of
make_slots region next heads none = rw none refl
