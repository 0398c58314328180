-- Bytes that are written behind one another in the last block of a chain.
use Rattle.std.proofs.lemmas.List.{drop-set-lt, take_more_set}
use Rattle.block_pool.proofs.Words.{AreSoundBlocks, Head, List, None, Option, Some, [], ap, append_assoc, arith, drop, get_or, get_or-set_same, laid_bytes}
use Rattle.block_pool.proofs.Words.{length, length-set, region_behind, set, set-set, slots_of, subst, suc, sym, take, take-append-drop, with_chain, zero, ℕ}
use Rattle.block_pool.proofs.Words.{◌%◌, ◌*◌, ◌++◌, ◌+◌, ◌-◌, ◌<◌, ◌∙◌, ◌∷◌, ◌≡◌, ◌≤◌}
use Rattle.block_pool.proofs.SlotLemmas.{put-put}
use Rattle.block_pool.proofs.LinkLemmas.{in_pool}
use Rattle.block_pool.proofs.LayoutLemmas.{push_in_block_sound, push_in_block_slots, pushed_bytes, first_free, begin_sound, begin_slots, begun_bytes}

-- bytes written one by one
abbrev pub written : List ℕ → ℕ → List ℕ → List ℕ
written region place [] = region
written region place (x ∷ xs) = written (set region place x) (place + 1) xs

take-none : (n : ℕ) → take {A = ℕ} n [] ≡ []
take-none n = grind arith

-- a front of a list and a front of the rest
pub take-join : (xs : List ℕ) (i r : ℕ) → take i xs ++ take r (drop i xs) ≡ take (i + r) xs
take-join xs zero r = grind arith
take-join [] (suc i) r = take-none r ∙ sym (take-none (suc i + r))
take-join (x ∷ xs) (suc i) r =
    let e : suc (i + r) ≡ suc i + r = omega arith in
    ap (λ ys. x ∷ ys) (take-join xs i r) ∙ ap (λ n. take n (x ∷ xs)) e

-- bytes written at once
pub at_once : (bytes region : List ℕ) (place : ℕ) → place + length bytes ≤ length region → region_behind region place bytes ≡ written region place bytes
at_once [] region place fits = ap (λ n. take place region ++ drop n region) (omega arith) ∙ take-append-drop place region
at_once (x ∷ xs) region place fits =
    let after = set region place x in
    let behind : drop ((place + 1) + length xs) after ≡ drop (place + length (x ∷ xs)) region =
    drop-set-lt ((place + 1) + length xs) region place x (omega arith) ∙ ap (λ n. drop n region) (sym (omega arith)) in
    sym
    (sym (at_once xs after (place + 1) (omega (arith, length-set region place x)))
    ∙ (ap (λ ys. ys ++ (xs ++ drop ((place + 1) + length xs) after)) (take_more_set region place x (omega arith))
    ∙ (append_assoc (take place region) (x ∷ []) (xs ++ drop ((place + 1) + length xs) after)
    ∙ ap (λ ys. take place region ++ (x ∷ (xs ++ ys))) behind)))

-- the head of a chain with so many bytes
abbrev pub grown : Head → ℕ → Head
grown head n = record { owner = head.owner; last = head.last; len = n; read_on = head.read_on; passed = head.passed }

-- what a pool is after bytes are written behind a chain's
pub record Filled (region next : List ℕ) (heads : List (Option Head)) (free free_len b : ℕ) (head : Head) (place n : ℕ) (bytes : List ℕ) : Type 0 where
  pub sound : AreSoundBlocks (written region place bytes) next (set heads b (Some (grown head n))) free free_len
  pub slots : slots_of (written region place bytes) next (set heads b (Some (grown head n)))
      ≡ with_chain (slots_of region next heads) b head.owner (laid_bytes region next b head.len ++ bytes)

pub fill : (bytes region next : List ℕ) (heads : List (Option Head)) (free free_len : ℕ) → AreSoundBlocks region next heads free free_len
    → (b : ℕ) (head : Head) (place n : ℕ) → get_or heads b None ≡ Some head → 0 < length bytes → 0 < head.len % 32 → head.len % 32 + length bytes ≤ 32
    → place ≡ 32 * head.last + head.len % 32 → n ≡ head.len + length bytes → Filled region next heads free free_len b head place n bytes
fill [] region next heads free free_len sound b head place n at more begun room p e = absurd (omega arith)
fill (x ∷ []) region next heads free free_len sound b head place n at more begun room p e =
    let e' : n ≡ head.len + 1 = omega arith in
    rw (p, e') (record {
      sound = push_in_block_sound region next heads free free_len sound b head (32 * head.last + head.len % 32) x at begun;
      slots = push_in_block_slots region next heads free free_len sound b head x at begun;
    })
fill (x ∷ y ∷ ys) region next heads free free_len sound b head place n at more begun room p e =
    let longer = grown head (head.len + 1) in
    let low : b < length heads = omega (arith, in_pool (sound.chains b head at), sound.counted) in
    let once = push_in_block_sound region next heads free free_len sound b head place x at begun in
    let rest = fill (y ∷ ys) (set region place x) next (set heads b (Some longer)) free free_len once b longer (place + 1) n
    (get_or-set_same heads b (Some longer) None low) (omega arith) (omega arith) (omega arith) (omega (arith, p)) (omega (arith, e)) in
    let same = set-set heads b (Some longer) (Some (grown head n)) in
    let front : laid_bytes (set region place x) next b (head.len + 1) ≡ laid_bytes region next b head.len ++ x ∷ [] =
    ap (λ i. laid_bytes (set region i x) next b (head.len + 1)) p ∙ pushed_bytes region next heads free free_len sound b head x at begun in
    let first : slots_of (set region place x) next (set heads b (Some longer))
    ≡ with_chain (slots_of region next heads) b head.owner (laid_bytes region next b head.len ++ x ∷ []) =
    ap (λ i. slots_of (set region i x) next (set heads b (Some longer))) p ∙ push_in_block_slots region next heads free free_len sound b head x at begun in
    let now = slots_of region next heads in
    let old = laid_bytes region next b head.len in
    record {
      sound = subst (λ hs. AreSoundBlocks (written (set region place x) (place + 1) (y ∷ ys)) next hs free free_len) same rest.sound;
      slots = ap (λ hs. slots_of (written (set region place x) (place + 1) (y ∷ ys)) next hs) (sym same)
          ∙ (rest.slots
          ∙ (ap (λ ss. with_chain ss b head.owner (laid_bytes (set region place x) next b (head.len + 1) ++ (y ∷ ys))) first
          ∙ (put-put now b head.owner head.owner (old ++ x ∷ []) (laid_bytes (set region place x) next b (head.len + 1) ++ (y ∷ ys))
          ∙ (ap (λ bs. with_chain now b head.owner (bs ++ (y ∷ ys))) front
          ∙ ap (with_chain now b head.owner) (append_assoc old (x ∷ []) (y ∷ ys))))));
    }

-- the head of a chain of one block
abbrev pub first_head : ℕ → ℕ → ℕ → Head
first_head owner b n = record { owner = owner; last = b; len = n; read_on = b; passed = 0 }

-- what a pool is after a chain is begun with bytes in the first free block
pub record Begun (region next : List ℕ) (heads : List (Option Head)) (free free_len owner after : ℕ) (bytes : List ℕ) : Type 0 where
  pub sound : AreSoundBlocks (written region (32 * free) bytes) next (set heads free (Some (first_head owner free (length bytes)))) after (free_len - 1)
  pub slots : slots_of (written region (32 * free) bytes) next (set heads free (Some (first_head owner free (length bytes))))
      ≡ with_chain (slots_of region next heads) free owner bytes

pub begin : (bytes region next : List ℕ) (heads : List (Option Head)) (free free_len : ℕ) → AreSoundBlocks region next heads free free_len
    → (owner after : ℕ) → 0 < free_len → after ≡ get_or next free 0 → 0 < length bytes → length bytes ≤ 32
    → Begun region next heads free free_len owner after bytes
begin [] region next heads free free_len sound owner after some is_next more short = absurd (omega arith)
begin (x ∷ []) region next heads free free_len sound owner after some is_next more short = record {
  sound = begin_sound region next heads free free_len sound owner x (32 * free) after some is_next;
  slots = begin_slots region next heads free free_len sound owner x some;
}
begin (x ∷ y ∷ ys) region next heads free free_len sound owner after some is_next more short =
    let n = length (x ∷ y ∷ ys) in
    let first = first_head owner free 1 in
    let low : free < length heads = omega (arith, (first_free region next heads free free_len sound some).0, sound.counted) in
    let once = begin_sound region next heads free free_len sound owner x (32 * free) after some is_next in
    let rest = fill (y ∷ ys) (set region (32 * free) x) next (set heads free (Some first)) after (free_len - 1) once free first (32 * free + 1) n
    (get_or-set_same heads free (Some first) None low) (omega arith) (omega arith) (omega arith) (omega arith) (omega arith) in
    let same = set-set heads free (Some first) (Some (first_head owner free n)) in
    let behind = written (set region (32 * free) x) (32 * free + 1) (y ∷ ys) in
    let now = slots_of region next heads in
    let front = laid_bytes (set region (32 * free) x) next free 1 in
    record {
      sound = subst (λ hs. AreSoundBlocks behind next hs after (free_len - 1)) same rest.sound;
      slots = ap (λ hs. slots_of behind next hs) (sym same)
          ∙ (rest.slots
          ∙ (ap (λ ss. with_chain ss free owner (front ++ (y ∷ ys))) (begin_slots region next heads free free_len sound owner x some)
          ∙ (put-put now free owner owner (x ∷ []) (front ++ (y ∷ ys))
          ∙ ap (λ bs. with_chain now free owner (bs ++ (y ∷ ys))) (begun_bytes region next heads free free_len sound x some))));
    }
