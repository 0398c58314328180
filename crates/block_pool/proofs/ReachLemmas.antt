-- Lists of blocks that are lengthened by one fresh block.
use Rattle.block_pool.proofs.Words.{AreSoundBlocks, Head, Held, IsChain, IsMarked, List, None, Option, Some, [], ap, arith, block_at, blocks_for, cond, eqb}
use Rattle.block_pool.proofs.Words.{get_or, get_or_append_left, get_or_default, head_blocks, held_by, length, length-append, length-replicate, ne_eqb, refl}
use Rattle.block_pool.proofs.Words.{replicate, same_lists, slots_of, subst, suc, sym, zero, ℕ, ◌%◌, ◌*◌, ◌++◌, ◌+◌, ◌-◌, ◌/◌, ◌<◌, ◌∙◌, ◌∷◌, ◌≡◌, ◌≢◌}
use Rattle.block_pool.proofs.FreshLemmas.{get_or-filled, sum_by-filled}
use Rattle.block_pool.proofs.LinkLemmas.{same_bytes, block_of_byte, length-slots_of, slot_is}

-- links behind those that are followed change nothing
block_longer : (next more : List ℕ) (first k : ℕ) → ((j : ℕ) → j < k → block_at next first j < length next)
    → block_at (next ++ more) first k ≡ block_at next first k
block_longer next more first zero low = refl
block_longer next more first (suc k) low =
    ap (λ b. get_or (next ++ more) b 0) (block_longer next more first k (λ j h. low j (omega arith)))
    ∙ get_or_append_left next more 0 (block_at next first k) (low k (omega arith))

-- the marks after one more block became the only free one
abbrev marked_more : (ℕ → ℕ × ℕ) → ℕ → ℕ → ℕ × ℕ
marked_more mark count block = cond (eqb block count) (count + 1, 0) (mark block)

marked_other : (mark : ℕ → ℕ × ℕ) (count block : ℕ) → block ≢ count → marked_more mark count block ≡ mark block
marked_other mark count block apart = rw (ne_eqb block count apart) refl

module _ (region next : List ℕ) (heads : List (Option Head)) (free : ℕ) (sound : AreSoundBlocks region next heads free 0) (bytes : List ℕ) (link : ℕ) where
  same_block : (b : ℕ) (head : Head) → get_or heads b None ≡ Some head → (k : ℕ) → k < blocks_for head.len
      → block_at (next ++ link ∷ []) b k ≡ block_at next b k
  same_block b head at k low =
      block_longer next (link ∷ []) b k (λ j j_low. omega (arith, ((sound.chains b head at).marked j (omega arith)).0, sound.links))

  longer_chain : (b : ℕ) (head : Head) → get_or heads b None ≡ Some head
      → IsChain (next ++ link ∷ []) (λ x. marked_more sound.mark sound.count x) (sound.count + 1) b head
  longer_chain b head at =
      let chain = sound.chains b head at in
      let some : 0 < head.len = chain.some in
      let same = same_block b head at in
      record {
        some = chain.some;
        marked = λ k h.
            let m = chain.marked k h in
            subst (λ y. IsMarked (λ x. marked_more sound.mark sound.count x) (sound.count + 1) y b k) (sym (same k h))
            (omega (arith, m.0), marked_other sound.mark sound.count (block_at next b k) (λ e. absurd (omega (arith, m.0, e))) ∙ m.1);
        last = same (blocks_for head.len - 1) (omega arith) ∙ chain.last;
        within = chain.within;
        reading = same head.passed chain.within ∙ chain.reading;
      }

  pub lengthened_sound : length bytes ≡ 32 → length next < 16384
      → AreSoundBlocks (region ++ bytes) (next ++ link ∷ []) (heads ++ None ∷ []) (length next) 1
  lengthened_sound block few = record {
    count = sound.count + 1;
    counted = length-append heads (None ∷ []) ∙ omega (arith, sound.counted);
    links = length-append next (link ∷ []) ∙ omega (arith, sound.links);
    bytes = omega (arith, length-append region bytes, block, sound.bytes);
    few = omega (arith, few, sound.links);
    mark = λ x. marked_more sound.mark sound.count x;
    chains = λ b head e. longer_chain b head (sym (get_or-filled heads 1 b None) ∙ e);
    spare = grind arith;
    all = omega (arith, sum_by-filled head_blocks heads 1 None refl, sound.all);
  }

  -- no chain changed
  same_held : (b : ℕ) (h : Option Head) → get_or heads b None ≡ h → held_by (region ++ bytes) (next ++ link ∷ []) b h ≡ held_by region next b h
  same_held b None e = refl
  same_held b (Some head) e =
      ap (λ bs. Some (record { owner = head.owner; bytes = bs }))
      (same_bytes region next (region ++ bytes) (next ++ link ∷ []) b head.len (λ i low.
      let m = block_of_byte (sound.chains b head e) i low in
      ap (λ x. get_or (region ++ bytes) (32 * x + i % 32) 0) (same_block b head e (i / 32) (omega arith))
      ∙ get_or_append_left region bytes 0 (32 * block_at next b (i / 32) + i % 32) (omega (arith, m.0, sound.bytes))))

  pub lengthened_slots : (fresh : ℕ) → slots_of (region ++ bytes) (next ++ link ∷ []) (heads ++ None ∷ []) ++ replicate fresh None
      ≡ slots_of region next heads ++ replicate (fresh + 1) None
  lengthened_slots fresh =
      let after = slots_of (region ++ bytes) (next ++ link ∷ []) (heads ++ None ∷ []) in
      let before = slots_of region next heads in
      let long : length (after ++ replicate fresh None) ≡ length heads + 1 + fresh =
      omega (
        arith,
        length-append after (replicate fresh None),
        length-replicate {A = Option Held} fresh None,
        length-slots_of (region ++ bytes) (next ++ link ∷ []) (heads ++ None ∷ []),
        length-append heads (None ∷ []),
      ) in
      let length_was : length (before ++ replicate (fresh + 1) None) ≡ length heads + 1 + fresh =
      omega (
        arith,
        length-append before (replicate (fresh + 1) None),
        length-replicate {A = Option Held} (fresh + 1) None,
        length-slots_of region next heads,
      ) in
      same_lists _ _ (long ∙ sym length_was)
      (λ k d h.
      get_or_default (after ++ replicate fresh None) k d None h
      ∙ (get_or-filled after fresh k None
      ∙ (slot_is (region ++ bytes) (next ++ link ∷ []) (heads ++ None ∷ []) k
      ∙ (ap (held_by (region ++ bytes) (next ++ link ∷ []) k) (get_or-filled heads 1 k None)
      ∙ (same_held k (get_or heads k None) refl
      ∙ (sym (slot_is region next heads k)
      ∙ (sym (get_or-filled before (fresh + 1) k None)
      ∙ sym (get_or_default (before ++ replicate (fresh + 1) None) k d None (omega (arith, h, long, length_was))))))))))
