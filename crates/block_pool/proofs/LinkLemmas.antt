-- Links between blocks, bytes and marks, one by one.
use Rattle.std.proofs.lemmas.List.FromFn.{length-map-range_with_len, get_or-map-range_with_len, map-range_with_len_more}
use Rattle.block_pool.proofs.Words.{AreSoundBlocks, Head, Held, IsChain, IsMarked, List, None, Option, Some, [], ap, arith, block_at, blocks_for, cases_eq}
use Rattle.block_pool.proofs.Words.{cases_lt, cond, eq-eqb, eqb, get_or, get_or-set_other, get_or-set_same, get_or_default, get_or_past, held_by, inl, inr}
use Rattle.block_pool.proofs.Words.{length, length-set, linked_byte, map, ne_eqb, range_with_len, refl, same_lists, set, slot, suc, sym, zero, ℕ, ◌%◌, ◌*◌}
use Rattle.block_pool.proofs.Words.{◌++◌, ◌+◌, ◌-◌, ◌/◌, ◌<◌, ◌∙◌, ◌∷◌, ◌≡◌, ◌≢◌, ◌≤◌, ◌⊎◌}
use Rattle.block_pool.specs.Layout.{laid_bytes, slots_of}

-- ---- links

-- a link that a list of blocks doesn't follow changes none of its blocks
pub unchanged : (next : List ℕ) (at link first k : ℕ) → ((j : ℕ) → j < k → block_at next first j ≢ at)
    → block_at (set next at link) first k ≡ block_at next first k
unchanged next at link first zero apart = refl
unchanged next at link first (suc k) apart =
    ap (λ b. get_or (set next at link) b 0) (unchanged next at link first k (λ j h. apart j (omega arith)))
    ∙ get_or-set_other next at (block_at next first k) link 0 (apart k (omega arith))

-- blocks behind a block of a list of blocks
pub behind : (next : List ℕ) (first i j : ℕ) → block_at next (block_at next first i) j ≡ block_at next first (i + j)
behind next first i zero = let e : i ≡ i + 0 = omega arith in ap (block_at next first) e
behind next first i (suc j) =
    let e : suc (i + j) ≡ i + suc j = omega arith in
    ap (λ b. get_or next b 0) (behind next first i j) ∙ ap (block_at next first) e

-- ---- bytes

-- two lists of bytes made by place are the same where each byte is
same_made : (f g : ℕ → ℕ) (n : ℕ) → ((i : ℕ) → i < n → f i ≡ g i) → map f (range_with_len 0 n) ≡ map g (range_with_len 0 n)
same_made f g n same =
    same_lists _ _ (length-map-range_with_len f 0 n ∙ sym (length-map-range_with_len g 0 n))
    (λ k d h. let low : k < n = omega (arith, length-map-range_with_len f 0 n) in
    get_or-map-range_with_len f 0 n k k d low (omega arith)
    ∙ (same k low ∙ sym (get_or-map-range_with_len g 0 n k k d low (omega arith))))

pub same_bytes : (region next region' next' : List ℕ) (first len : ℕ)
    → ((i : ℕ) → i < len → linked_byte region' next' first i ≡ linked_byte region next first i)
    → laid_bytes region' next' first len ≡ laid_bytes region next first len
unfolding laid_bytes
same_bytes region next region' next' first len same = same_made (linked_byte region' next' first) (linked_byte region next first) len same

pub one_more_byte : (region next : List ℕ) (first len : ℕ)
    → laid_bytes region next first (len + 1) ≡ laid_bytes region next first len ++ linked_byte region next first len ∷ []
unfolding laid_bytes
one_more_byte region next first len = map-range_with_len_more (linked_byte region next first) 0 len len (omega arith)

pub one_byte : (region next : List ℕ) (first : ℕ) → laid_bytes region next first 1 ≡ get_or region (32 * first + 0) 0 ∷ []
unfolding laid_bytes
one_byte region next first = refl

pub length-chain_bytes : (region next : List ℕ) (first len : ℕ) → length (laid_bytes region next first len) ≡ len
unfolding laid_bytes
length-chain_bytes region next first len = length-map-range_with_len (linked_byte region next first) 0 len

-- ---- slots

pub length-slots_of : (region next : List ℕ) (heads : List (Option Head)) → length (slots_of region next heads) ≡ length heads
unfolding slots_of
length-slots_of region next heads = length-map-range_with_len (λ b. held_by region next b (get_or heads b None)) 0 (length heads)

pub slot_is : (region next : List ℕ) (heads : List (Option Head)) (b : ℕ) → slot (slots_of region next heads) b ≡ held_by region next b (get_or heads b None)
unfolding slots_of
slot_is region next heads b = by_place (cases_lt b (length heads))
  where
    made : ℕ → Option Held
    made b = held_by region next b (get_or heads b None)

    by_place : (b < length heads) ⊎ (length heads ≤ b)
        → get_or (map (λ b. held_by region next b (get_or heads b None)) (range_with_len 0 (length heads))) b None ≡ held_by region next b (get_or heads b None)
    by_place (inl low) = get_or-map-range_with_len (λ b. held_by region next b (get_or heads b None)) 0 (length heads) b b None low (omega arith)
    by_place (inr high) =
        get_or_past (map (λ b. held_by region next b (get_or heads b None)) (range_with_len 0 (length heads))) b None
        (omega (arith, length-map-range_with_len (λ b. held_by region next b (get_or heads b None)) 0 (length heads)))
        ∙ sym (ap (held_by region next b) (get_or_past heads b None high))

-- two lists made by place are the same where each element is
pub same_slots : (f g : ℕ → Option Held) (n : ℕ) → ((c : ℕ) → f c ≡ g c) → map f (range_with_len 0 n) ≡ map g (range_with_len 0 n)
same_slots f g n same = grind arith

-- one chain is written anew, and each other one stays
pub record WritesOne (region next region' next' : List ℕ) (heads : List (Option Head)) (b : ℕ) (head : Option Head) (v : Option Held) : Type 0 where
  pub low : b < length heads
  pub here : held_by region' next' b head ≡ v
  pub others : (c : ℕ) → c ≢ b → held_by region' next' c (get_or heads c None) ≡ held_by region next c (get_or heads c None)

pub slots_set : {region next region' next' : List ℕ} {heads : List (Option Head)} {b : ℕ} {head : Option Head} {v : Option Held}
    → WritesOne region next region' next' heads b head v → slots_of region' next' (set heads b head) ≡ set (slots_of region next heads) b v
slots_set {region} {next} {region'} {next'} {heads} {b} {head} {v} w =
    let heads' = set heads b head in
    let len = length-set heads b head in
    let slots = slots_of region next heads in
    let slots_len = length-slots_of region next heads in
    same_lists _ _
    (length-slots_of region' next' heads' ∙ (len ∙ sym (length-set slots b v ∙ slots_len)))
    (λ k d h.
    let low : k < length heads = omega (arith, length-slots_of region' next' heads', len) in
    let left = get_or_default (slots_of region' next' heads') k d None h ∙ slot_is region' next' heads' k in
    elim (cases_eq k b) [
      | inl same ↦ left ∙ (ap (λ c. held_by region' next' c (get_or heads' c None)) same
          ∙ (ap (held_by region' next' b) (get_or-set_same heads b head None w.low) ∙ (w.here
          ∙ sym (ap (λ c. get_or (set slots b v) c d) same ∙ get_or-set_same slots b v d (omega (arith, slots_len, w.low))))))
      | inr other ↦ left ∙ (ap (held_by region' next' k) (get_or-set_other heads b k head None other) ∙ (w.others k other
          ∙ sym (get_or-set_other slots b k v d other ∙ (get_or_default slots k d None (omega (arith, slots_len)) ∙ slot_is region next heads k))))
    ])

-- ---- marks

pub none_is_some : (h : Head) → None ≡ Some h → ⊥
none_is_some h e = cc

-- equal blocks have one mark
pub same_mark : (mark : ℕ → ℕ × ℕ) (x y c k d j : ℕ) → mark x ≡ (c, k) → mark y ≡ (d, j) → x ≡ y → (c ≡ d) × (k ≡ j)
same_mark mark x y c k d j mx my same = grind arith

-- places in two blocks differ, and two places in one block
pub other_block : (x y i j : ℕ) → x ≢ y → 32 * x + i % 32 ≢ 32 * y + j % 32
other_block x y i j apart same = apart (omega arith)

-- the marks after the first free block became block k of chain c
abbrev pub popped : ℕ → ℕ → ℕ → ℕ × ℕ → ℕ × ℕ
popped count c k m = cond (eqb m.0 count) (cond (eqb m.1 0) (c, k) (count, m.1 - 1)) m

pub popped_other : (count c k d j : ℕ) → d ≢ count → popped count c k (d, j) ≡ (d, j)
popped_other count c k d j apart = rw (ne_eqb d count apart) refl

pub popped_rest : (count c k j : ℕ) → popped count c k (count, 1 + j) ≡ (count, j)
popped_rest count c k j = grind arith

-- the marks after the n blocks of chain b became the first free ones
abbrev pub freed : ℕ → ℕ → ℕ → ℕ × ℕ → ℕ × ℕ
freed count b n m = cond (eqb m.0 b) (count, m.1) (cond (eqb m.0 count) (count, m.1 + n) m)

pub freed_chain : (count b n k : ℕ) → freed count b n (b, k) ≡ (count, k)
freed_chain count b n k = rw (eq-eqb b b refl) refl

pub freed_free : (count b n k : ℕ) → count ≢ b → freed count b n (count, k) ≡ (count, k + n)
freed_free count b n k apart = rw (ne_eqb count b apart, eq-eqb count count refl) refl

-- ---- chains

module _ {next : List ℕ} {mark : ℕ → ℕ × ℕ} {count b : ℕ} {head : Head} (chain : IsChain next mark count b head) where
  -- a chain begins at a block
  pub in_pool : b < count
  in_pool = let some = chain.some in (chain.marked 0 (omega arith)).0

  -- the block of byte i of a chain
  pub block_of_byte : (i : ℕ) → i < head.len → IsMarked mark count (block_at next b (i / 32)) b (i / 32)
  block_of_byte i low = chain.marked (i / 32) (omega arith)

  -- a link of another chain leads nowhere in this one
  pub other_link : (at link d j : ℕ) → mark at ≡ (d, j) → d ≢ b → (k : ℕ) → k < blocks_for head.len → block_at (set next at link) b k ≡ block_at next b k
  other_link at link d j marked apart k low =
      unchanged next at link b k (λ i h same. apart (sym (same_mark mark (block_at next b i) at b i d j (chain.marked i (omega arith)).1 marked same).0))

  -- nor does the link of its last block lead to a block before
  pub last_link : (at link j : ℕ) → mark at ≡ (b, j) → (k : ℕ) → k < blocks_for head.len → k ≤ j → block_at (set next at link) b k ≡ block_at next b k
  last_link at link j marked k low before =
      unchanged next at link b k
      (λ i h same. absurd (let e : i ≡ j = (same_mark mark (block_at next b i) at b i b j (chain.marked i (omega arith)).1 marked same).1 in omega arith))

  -- the mark of the last block
  pub last_marked : IsMarked mark count head.last b (blocks_for head.len - 1)
  last_marked = grind arith

-- free blocks where a link of a chain changed
pub free_link : {region next : List ℕ} {heads : List (Option Head)} {free free_len : ℕ} (sound : AreSoundBlocks region next heads free free_len)
    (at link d j : ℕ) → sound.mark at ≡ (d, j) → d ≢ sound.count → (k : ℕ) → k < free_len → block_at (set next at link) free k ≡ block_at next free k
free_link {next = next} {free = free} sound at link d j marked apart k low =
    unchanged next at link free k
    (λ i h same. apart (sym (same_mark sound.mark (block_at next free i) at sound.count i d j (sound.spare i (omega arith)).1 marked same).0))
