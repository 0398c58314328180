-- Where chains lie: each block in one of them, once, or free.
use Rattle.std.specs.List.{sum}
use Rattle.std.proofs.lemmas.List.{append-nil, get_or-map}
use Rattle.std.proofs.lemmas.List.Sums.{sum-map}
use Rattle.std.proofs.lemmas.List.FromFn.{length-map-range_with_len, get_or-map-range_with_len, length-range_with_len, get_or-range_with_len}
use Rattle.block_pool.proofs.Words.{AreSoundBlocks, BlocksState, Chain, Head, Held, IsMarked, List, None, Option, PoolState, ShareNoBlock, Some, [], ap, arith}
use Rattle.block_pool.proofs.Words.{block_at, blocks_for, bytes_in, cases_eq, cases_lt, chain_bytes, get_or, get_or-append_right, get_or-set_other}
use Rattle.block_pool.proofs.Words.{get_or-set_same, get_or_append_left, get_or_default, get_or_past, head_blocks, held_bytes, inl, inr, length, length-append}
use Rattle.block_pool.proofs.Words.{length-map, length-replicate, length-set, linked_byte, map, range_with_len, refl, replicate, same_lists, set, slots_of}
use Rattle.block_pool.proofs.Words.{subst, sum_by, sym, ℕ, ◌%◌, ◌*◌, ◌++◌, ◌+◌, ◌-◌, ◌/◌, ◌<◌, ◌∙◌, ◌≡◌, ◌≢◌, ◌≤◌, ◌⊎◌}
use Rattle.block_pool.specs.Names.{blocks_named}
use Rattle.block_pool.specs.Pool.{chain_blocks}
use Rattle.block_pool.specs.Layout.{blocks_by, chains_of, laid_bytes as bytes_along, places_of}
use Rattle.block_pool.proofs.FreshLemmas.{get_or-filled, sum_by-filled}
use Rattle.block_pool.proofs.LayoutLemmas.{not_none, bytes_say, len_says}
use Rattle.block_pool.proofs.LinkLemmas.{same_mark, in_pool, length-slots_of}

-- ---- the blocks of one chain

pub length-chains_of : (next : List ℕ) (heads : List (Option Head)) → length (chains_of next heads) ≡ length heads
unfolding chains_of
length-chains_of next heads = length-map-range_with_len (λ b. blocks_by next b (get_or heads b None)) 0 (length heads)

pub chain_is : (next : List ℕ) (heads : List (Option Head)) (b : ℕ) → get_or (chains_of next heads) b [] ≡ blocks_by next b (get_or heads b None)
unfolding chains_of
chain_is next heads b = grind (arith, cases_lt, get_or-map-range_with_len, get_or_past, length-map-range_with_len)

length-blocks_by : (next : List ℕ) (b : ℕ) (h : Option Head) → length (blocks_by next b h) ≡ head_blocks h
length-blocks_by next b None = refl
length-blocks_by next b (Some head) = length-map-range_with_len (block_at next b) 0 (blocks_for head.len)

-- the chains stay where only the block changed at which reading goes on
pub same_chains : (next : List ℕ) (heads heads' : List (Option Head)) → length heads' ≡ length heads
    → ((c : ℕ) → blocks_by next c (get_or heads' c None) ≡ blocks_by next c (get_or heads c None)) → chains_of next heads' ≡ chains_of next heads
same_chains next heads heads' len same =
    same_lists _ _ (length-chains_of next heads' ∙ (len ∙ sym (length-chains_of next heads)))
    (λ k d h.
    let low : k < length (chains_of next heads) = omega (arith, len, length-chains_of next heads, length-chains_of next heads') in
    get_or_default (chains_of next heads') k d [] h
    ∙ (chain_is next heads' k ∙ (same k ∙ (sym (chain_is next heads k) ∙ sym (get_or_default (chains_of next heads) k d [] low)))))

pub read_on_chains : (next : List ℕ) (heads : List (Option Head)) (b block passed : ℕ) (head : Head) → b < length heads
    → get_or heads b None ≡ Some head
    → chains_of next (set heads b (Some (record { owner = head.owner; last = head.last; len = head.len; read_on = block; passed = passed })))
    ≡ chains_of next heads
read_on_chains next heads b block passed head low at =
    let new : Head = record { owner = head.owner; last = head.last; len = head.len; read_on = block; passed = passed } in
    same_chains next heads (set heads b (Some new)) (length-set heads b (Some new))
    (λ c. elim (cases_eq c b) [
      | inl same ↦ subst (λ x. blocks_by next x (get_or (set heads b (Some new)) x None) ≡ blocks_by next x (get_or heads x None)) (sym same)
          (ap (blocks_by next b) (get_or-set_same heads b (Some new) None low) ∙ sym (ap (blocks_by next b) at))
      | inr apart ↦ ap (blocks_by next c) (get_or-set_other heads b c (Some new) None apart)
    ])

-- what a state says, part by part
abbrev state : List (Option Held) → List ℕ → List (List ℕ) → List ℕ → ℕ → ℕ → BlocksState
state slots memory chains frees n listed =
    record { slots = slots; places = record { memory = memory; chains = chains; free = frees }; free = n; listed = listed }

pub same_state : (slots slots' : List (Option Held)) (memory : List ℕ) (chains chains' : List (List ℕ)) (frees : List ℕ) (n listed : ℕ) → slots' ≡ slots
    → chains' ≡ chains
    → state slots' memory chains' frees n listed ≡ state slots memory chains frees n listed
same_state slots slots' memory chains chains' frees n listed same_slots same_places = grind arith

-- byte i of a chain lies in its block i / 32
byte_along : (region next : List ℕ) (first len i : ℕ) → i < len → get_or (bytes_along region next first len) i 0 ≡ linked_byte region next first i
unfolding bytes_along
byte_along region next first len i low = get_or-map-range_with_len (linked_byte region next first) 0 len i i 0 low (omega arith)

-- ---- fresh blocks

module _ (slots : List (Option Held)) (memory : List ℕ) (chains : List (List ℕ)) (frees : List ℕ) (fresh : ℕ)
    (shares : ShareNoBlock slots (record { memory = memory; chains = chains; free = frees })) where
  abbrev all_slots : List (Option Held)
  all_slots = slots ++ replicate fresh None

  abbrev all_chains : List (List ℕ)
  all_chains = chains ++ replicate fresh []

  abbrev all_free : List ℕ
  all_free = frees ++ range_with_len (length slots) fresh

  bytes_are : (first : ℕ) → held_bytes all_slots first ≡ held_bytes slots first
  bytes_are first = ap bytes_in (get_or-filled slots fresh first None)

  blocks_are : (first : ℕ) → get_or all_chains first [] ≡ get_or chains first []
  blocks_are first = get_or-filled chains fresh first []

  low_is : (first k : ℕ) → k < length (get_or all_chains first []) → k < length (get_or chains first [])
  low_is first k low = subst (λ bs. k < length bs) (blocks_are first) low

  block_is : (first k : ℕ) → get_or (get_or all_chains first []) k 0 ≡ get_or (get_or chains first []) k 0
  block_is first k = ap (λ bs. get_or bs k 0) (blocks_are first)

  length-all_free : length all_free ≡ length frees + fresh
  length-all_free = omega (arith, length-append frees (range_with_len (length slots) fresh), length-range_with_len (length slots) fresh)

  length-all_slots : length all_slots ≡ length slots + fresh
  length-all_slots = omega (arith, length-append slots (replicate fresh None), length-replicate {A = Option Held} fresh None)

  -- a free block is in the list, or fresh
  free_is : (k : ℕ) → k < length all_free
      → ((k < length frees) × (get_or all_free k 0 ≡ get_or frees k 0))
      ⊎ ((length frees ≤ k) × (get_or all_free k 0 ≡ length slots + (k - length frees)))
  free_is k low = elim (cases_lt k (length frees)) [
    | inl listed ↦ inl (listed, get_or_append_left frees (range_with_len (length slots) fresh) 0 k listed)
    | inr behind ↦ inr (
      behind,
      get_or-append_right frees (range_with_len (length slots) fresh) (length frees) k 0 refl behind
          ∙ get_or-range_with_len (length slots) fresh (k - length frees) 0 (omega (arith, length-all_free)),
    )
  ]

  apart : (first k j : ℕ) → k < length (get_or all_chains first []) → j < length all_free
      → get_or (get_or all_chains first []) k 0 ≢ get_or all_free j 0
  apart first k j k_low j_low same = let h0 = free_is j j_low in let h1 = low_is first k k_low in let h2 = block_is first k in grind arith

  once_free : (k j : ℕ) → k < length all_free → j < length all_free → get_or all_free k 0 ≡ get_or all_free j 0 → k ≡ j
  once_free k j k_low j_low same = let h0 = free_is k k_low in let h1 = free_is j j_low in grind arith

  free_low : (k : ℕ) → k < length all_free → get_or all_free k 0 < length all_slots
  free_low k low = let h0 = free_is k low in let h1 = length-all_free in let h2 = length-all_slots in grind arith

  -- fresh blocks are free, and no chain lies in them
  with_fresh : ShareNoBlock (slots ++ replicate fresh None) (record {
    memory = memory ++ replicate (32 * fresh) 0;
    chains = chains ++ replicate fresh [];
    free = frees ++ range_with_len (length slots) fresh;
  })
  with_fresh = record {
    blocks = λ first. ap length (blocks_are first) ∙ (shares.blocks first ∙ sym (ap (λ bs. blocks_for (length bs)) (bytes_are first)));
    bytes = λ first i low.
        ap (λ bs. get_or bs i 0) (bytes_are first)
        ∙ (shares.bytes first i (subst (λ bs. i < length bs) (bytes_are first) low)
        ∙ sym (get_or-filled memory (32 * fresh) (32 * get_or (get_or all_chains first []) (i / 32) 0 + i % 32) 0
        ∙ ap (λ b. get_or memory (32 * b + i % 32) 0) (block_is first (i / 32))));
    once = λ first other k j k_low j_low same.
        shares.once first other k j (low_is first k k_low) (low_is other j j_low) (sym (block_is first k) ∙ (same ∙ block_is other j));
    not_free = apart;
    free_once = once_free;
    within = λ first k low. omega (arith, shares.within first k (low_is first k low), block_is first k, length-all_slots);
    free_within = free_low;
    all = omega (arith, length-all_free, length-all_slots, sum_by-filled length chains fresh [] refl, shares.all);
  }

-- ---- all chains

blocks_together : (next : List ℕ) (heads : List (Option Head)) → sum_by length (chains_of next heads) ≡ sum_by head_blocks heads
blocks_together next heads =
    sym (sum-map length (chains_of next heads))
    ∙ (ap sum (same_lists (map length (chains_of next heads)) (map head_blocks heads)
    (length-map (chains_of next heads) length ∙ (length-chains_of next heads ∙ sym (length-map heads head_blocks)))
    (λ k d h.
    let low : k < length (chains_of next heads) = omega (arith, length-map (chains_of next heads) (length {A = ℕ})) in
    let inside : k < length heads = omega (arith, length-chains_of next heads) in
    get_or-map length (chains_of next heads) k [] d low
    ∙ (ap length (chain_is next heads k) ∙ (length-blocks_by next k (get_or heads k None) ∙ sym (get_or-map head_blocks heads k None d inside)))))
    ∙ sum-map head_blocks heads)

module _ (region next : List ℕ) (heads : List (Option Head)) (free free_len : ℕ) (sound : AreSoundBlocks region next heads free free_len) where
  -- a block of a chain
  in_chain : (first k : ℕ) → k < length (get_or (chains_of next heads) first [])
      → (get_or (get_or (chains_of next heads) first []) k 0 ≡ block_at next first k)
      × IsMarked sound.mark sound.count (block_at next first k) first k × (first < sound.count)
  in_chain first k low = by_head (get_or heads first None) refl
    where
      by_head : (h : Option Head) → get_or heads first None ≡ h
          → (get_or (get_or (chains_of next heads) first []) k 0 ≡ block_at next first k)
          × IsMarked sound.mark sound.count (block_at next first k) first k × (first < sound.count)
      by_head None e =
          let none : length (get_or (chains_of next heads) first []) ≡ 0 = ap length (chain_is next heads first ∙ ap (blocks_by next first) e) in
          absurd (omega arith)
      by_head (Some head) e =
          let blocks = chain_is next heads first ∙ ap (blocks_by next first) e in
          let len = ap length blocks ∙ length-blocks_by next first (Some head) in
          let chain = sound.chains first head e in
          let inside : k < blocks_for head.len = omega arith in (
            ap (λ bs. get_or bs k 0) blocks ∙ get_or-map-range_with_len (block_at next first) 0 (blocks_for head.len) k k 0 inside (omega arith),
            chain.marked k inside,
            in_pool chain,
          )

  -- a free block
  length-free : length (map (block_at next free) (range_with_len 0 free_len)) ≡ free_len
  length-free = length-map-range_with_len (block_at next free) 0 free_len

  in_free : (k : ℕ) → k < length (map (block_at next free) (range_with_len 0 free_len))
      → (get_or (map (block_at next free) (range_with_len 0 free_len)) k 0 ≡ block_at next free k)
      × IsMarked sound.mark sound.count (block_at next free k) sound.count k
  in_free k low = grind (arith, length-free, get_or-map-range_with_len)

  module _ (slots : List (Option Held)) (view : slots_of region next heads ≡ slots) where
    -- with no fresh blocks
    used_only : slots_of region next heads ++ replicate 0 None ≡ slots
    used_only = append-nil (slots_of region next heads) ∙ view

    chain_len : (first : ℕ) → length (get_or (chains_of next heads) first []) ≡ blocks_for (length (held_bytes slots first))
    chain_len first = by_head (get_or heads first None) refl
      where
        by_head : (h : Option Head) → get_or heads first None ≡ h
            → length (get_or (chains_of next heads) first []) ≡ blocks_for (length (held_bytes slots first))
        by_head None e =
            let none : length (get_or (chains_of next heads) first []) ≡ 0 = ap length (chain_is next heads first ∙ ap (blocks_by next first) e) in
            elim (cases_lt 0 (length (held_bytes slots first))) [
              | inl some ↦ absurd (not_none region next heads 0 slots used_only first some e)
              | inr no_more ↦ omega arith
            ]
        by_head (Some head) e =
            ap length (chain_is next heads first ∙ ap (blocks_by next first) e) ∙ (length-blocks_by next first (Some head) ∙ ap blocks_for (sym
            (len_says region next heads 0 slots used_only first head e)))

    byte_lies : (first i : ℕ) → i < length (held_bytes slots first)
        → get_or (held_bytes slots first) i 0 ≡ get_or region (32 * get_or (get_or (chains_of next heads) first []) (i / 32) 0 + i % 32) 0
    byte_lies first i low = by_head (get_or heads first None) refl
      where
        by_head : (h : Option Head) → get_or heads first None ≡ h
            → get_or (held_bytes slots first) i 0 ≡ get_or region (32 * get_or (get_or (chains_of next heads) first []) (i / 32) 0 + i % 32) 0
        by_head None e = absurd (not_none region next heads 0 slots used_only first (omega arith) e)
        by_head (Some head) e =
            let len = len_says region next heads 0 slots used_only first head e in
            let block = in_chain first (i / 32) (omega (arith, chain_len first)) in
            ap (λ bs. get_or bs i 0) (bytes_say region next heads 0 slots used_only first head e)
            ∙ (byte_along region next first head.len i (omega (arith, len)) ∙ sym (ap (λ b. get_or region (32 * b + i % 32) 0) block.0))

    used_share_none : ShareNoBlock slots
        (record { memory = region; chains = chains_of next heads; free = map (block_at next free) (range_with_len 0 free_len) })
    used_share_none = record {
      blocks = chain_len;
      bytes = byte_lies;
      once = λ first other k j k_low j_low same.
          let one = in_chain first k k_low in
          let two = in_chain other j j_low in
          same_mark sound.mark (block_at next first k) (block_at next other j) first k other j one.1.1 two.1.1 (sym one.0 ∙ (same ∙ two.0));
      not_free = λ first k j k_low j_low same.
          let one = in_chain first k k_low in
          let two = in_free j j_low in
          let apart : first ≡ sound.count = grind arith in
          absurd (omega (arith, one.2));
      free_once = λ k j k_low j_low same.
          let one = in_free k k_low in
          let two = in_free j j_low in
          (same_mark sound.mark (block_at next free k) (block_at next free j) sound.count k sound.count j one.1.1 two.1.1 (sym one.0 ∙ (same ∙ two.0))).1;
      within = λ first k low.
          let one = in_chain first k low in
          omega (arith, one.0, one.1.0, sound.counted, ap length view, length-slots_of region next heads);
      free_within = λ k low.
          let one = in_free k low in
          omega (arith, one.0, one.1.0, sound.counted, ap length view, length-slots_of region next heads);
      all = omega (arith, length-free, blocks_together next heads, sound.all, sound.counted, ap length view, length-slots_of region next heads);
    }

  pub shares_none : (fresh : ℕ) (slots : List (Option Held)) → slots_of region next heads ++ replicate fresh None ≡ slots
      → ShareNoBlock slots (places_of region next heads free free_len fresh)
  shares_none fresh slots view =
      let used = slots_of region next heads in
      let links : length next ≡ length used = omega (arith, sound.links, sound.counted, length-slots_of region next heads) in
      let more = with_fresh used region (chains_of next heads) (map (block_at next free) (range_with_len 0 free_len)) fresh (used_share_none used refl) in
      subst (λ ss. ShareNoBlock ss (places_of region next heads free free_len fresh)) view
      (grind arith)

-- ---- chains by their names

pub chains_apart : (pool : PoolState) (one other : Option ℕ) (k j : ℕ) → ShareNoBlock pool.slots pool.places
    → ((first : ℕ) → one ≡ Some first → other ≡ Some first → ⊥)
    → k < length (blocks_named pool.places one) → j < length (blocks_named pool.places other)
    → get_or (blocks_named pool.places one) k 0 ≢ get_or (blocks_named pool.places other) j 0
chains_apart pool x1 other k j shares apart k_low j_low same = grind arith

pub block_once : (pool : PoolState) (name : Option ℕ) (k j : ℕ) → ShareNoBlock pool.slots pool.places → k < length (blocks_named pool.places name)
    → j < length (blocks_named pool.places name)
    → get_or (blocks_named pool.places name) k 0 ≡ get_or (blocks_named pool.places name) j 0 → k ≡ j
block_once pool x1 k j shares k_low j_low same = grind arith

pub blocks_of_chain : (pool : PoolState) (chain : Chain) → ShareNoBlock pool.slots pool.places
    → length (chain_blocks pool chain) ≡ blocks_for (length (chain_bytes pool chain))
blocks_of_chain pool chain shares = grind arith
