-- Where a search by key ends in rows that are sorted, and what they become where one is written, put or taken out at that place.
use Rattle.std.proofs.Common.{◌≡◌, ℕ, zero, suc, ◌+◌, ◌-◌, ◌<◌, ◌≤◌, cond, eqb, List, [], ◌∷◌, ◌++◌, length, get_or, set, map, take, drop, refl, sym}
use Rattle.std.proofs.Common.{ap, ◌∙◌, inl, inr, arith, tests}
use Rattle.std.specs.Prelude.{Some, None}
use Rattle.std.specs.List.{insert, remove, HoldsAt, AllWithin}
use Rattle.std.specs.List.Sorted.{IsBinarySearchResult, IsSearchInRange}
use Rattle.std.specs.Ordering.{nat_cmp, ordering_index}
use Rattle.std.specs.declared.result.Result.{Result}
use Rattle.std.specs.declared.result.Result.TheVariants.{Ok, Err}
use Rattle.std.proofs.lemmas.Bool.{cases_order, eq-eqb, ne_eqb, cond-true, cond-false}
use Rattle.std.proofs.lemmas.List.{set_split}
use Rattle.std.proofs.lemmas.List.Edits.{length-insert}
use Rattle.sorted_rows.specs.Rows.{AreRows, row_of, rows_before, rows_behind, with_row, without_row, IsPlace}
use Rattle.sorted_rows.proofs.RowLemmas.{length-rows, rows_before-none, rows_behind-all, without_row-all, before-below, before-above, behind-below}
use Rattle.sorted_rows.proofs.RowLemmas.{behind-above, without-same, without-other, AreRows-with_row}

-- The keys of a list that rises from `low` on are from `low` on, and rise from row to row.
key-from : {X : Type 0} (key : X → ℕ) (low high : ℕ) (rows : List X) (n : ℕ) (d : X) → AreRows key low high rows → n < length rows
    → low ≤ key (get_or rows n d)
key-from key low high [] n d h l = absurd (omega arith)
key-from key low high (r ∷ rows) zero d h l = h.0
key-from key low high (r ∷ rows) (suc n) d h l =
    let rest = key-from key (key r + 1) high rows n d h.2 (omega arith) in
    omega arith

keys-rise : {X : Type 0} (key : X → ℕ) (low high : ℕ) (rows : List X) (i j : ℕ) (d : X) → AreRows key low high rows → i ≤ j → j < length rows
    → key (get_or rows i d) ≤ key (get_or rows j d)
keys-rise key low high [] i j d h le l = absurd (omega arith)
keys-rise key low high (r ∷ rows) zero zero d h le l = omega arith
keys-rise key low high (r ∷ rows) zero (suc j) d h le l =
    let rest = key-from key (key r + 1) high rows j d h.2 (omega arith) in
    omega arith
keys-rise key low high (r ∷ rows) (suc i) zero d h le l = absurd (omega arith)
keys-rise key low high (r ∷ rows) (suc i) (suc j) d h le l = keys-rise key (key r + 1) high rows i j d h.2 (omega arith) (omega arith)

compared-rise : (x y k : ℕ) → x ≤ y → ordering_index (nat_cmp x k) ≤ ordering_index (nat_cmp y k)
compared-rise x y k le = grind (arith, tests)

-- what a binary search by the keys finds
pub place_from_search : {X : Type 0} (key : X → ℕ) (k low high : ℕ) (rows : List X) (place : Result ℕ ℕ) → AreRows key low high rows
    → IsBinarySearchResult (λ row. nat_cmp (key row) k) rows place → IsSearchInRange place (length rows) → IsPlace key k rows place
place_from_search key k low high rows (Ok at) h found within = (within, λ d. (grind arith))
place_from_search key k low high rows (Err at) h found within =
    let parted = found (λ i j d le l. compared-rise (key (get_or rows i d)) (key (get_or rows j d)) k (keys-rise key low high rows i j d h le l)) in (
      within,
      (λ n d from below. (grind arith)),
      (λ n d from below. (grind arith)),
    )

-- Round a row: those before it have smaller keys, those behind it greater ones.
take-at_row : {X : Type 0} (key : X → ℕ) (k low high : ℕ) (rows : List X) (at : ℕ) → AreRows key low high rows → at < length rows
    → HoldsAt (λ row. key row ≡ k) rows at → take at rows ≡ rows_before key k rows
take-at_row key k low high [] at h l is = absurd (omega arith)
take-at_row key k low high (r ∷ rows) zero h l is =
    let same : key r ≡ k = is r in
    sym (before-above key k r rows (omega arith) ∙ rows_before-none key k (key r + 1) high rows (omega arith) h.2)
take-at_row key k low high (r ∷ rows) (suc n) h l is =
    let from = key-from key (key r + 1) high rows n r h.2 (omega arith) in
    ap (λ front. r ∷ front) (take-at_row key k (key r + 1) high rows n h.2 (omega arith) (λ d. is d)) ∙ sym (before-below key k r rows (omega arith))

drop-at_row : {X : Type 0} (key : X → ℕ) (k low high : ℕ) (rows : List X) (at : ℕ) → AreRows key low high rows → at < length rows
    → HoldsAt (λ row. key row ≡ k) rows at → drop (suc at) rows ≡ rows_behind key k rows
drop-at_row key k low high [] at h l is = absurd (omega arith)
drop-at_row key k low high (r ∷ rows) zero h l is =
    let same : key r ≡ k = is r in
    sym (behind-below key k r rows (omega arith) ∙ rows_behind-all key k (key r + 1) high rows (omega arith) h.2)
drop-at_row key k low high (r ∷ rows) (suc n) h l is =
    let from = key-from key (key r + 1) high rows n r h.2 (omega arith) in
    (drop-at_row key k (key r + 1) high rows n h.2 (omega arith) (λ d. is d)) ∙ sym (behind-below key k r rows (omega arith))

pub set-is_put : {X : Type 0} (key : X → ℕ) (low high : ℕ) (row : X) (rows : List X) (at : ℕ) → AreRows key low high rows
    → IsPlace key (key row) rows (Ok at) → set rows at row ≡ with_row key row rows
set-is_put key low high row rows at h place =
    set_split rows at row place.0
    ∙ ap (λ front. front ++ row ∷ drop (suc at) rows) (take-at_row key (key row) low high rows at h place.0 place.1)
    ∙ ap (λ back. rows_before key (key row) rows ++ row ∷ back) (drop-at_row key (key row) low high rows at h place.0 place.1)

remove-at_row : {X : Type 0} (key : X → ℕ) (k low high : ℕ) (rows : List X) (at : ℕ) → AreRows key low high rows → at < length rows
    → HoldsAt (λ row. key row ≡ k) rows at → remove rows at ≡ without_row key k rows
remove-at_row key k low high [] at h l is = absurd (omega arith)
remove-at_row key k low high (r ∷ rows) zero h l is =
    let same : key r ≡ k = is r in
    sym (without-same key k r rows same ∙ without_row-all key k (key r + 1) high rows (omega arith) h.2)
remove-at_row key k low high (r ∷ rows) (suc n) h l is =
    let rest = remove-at_row key k (key r + 1) high rows n h.2 (omega arith) (λ d. is d) in
    let from = key-from key (key r + 1) high rows n r h.2 (omega arith) in
    ap (λ others. r ∷ others) rest ∙ sym (without-other key k r rows (λ equal. omega arith))

pub remove-is_taken_out : {X : Type 0} (key : X → ℕ) (k low high : ℕ) (rows : List X) (at : ℕ) → AreRows key low high rows
    → IsPlace key k rows (Ok at) → remove rows at ≡ without_row key k rows
remove-is_taken_out key k low high rows at h place = remove-at_row key k low high rows at h place.0 place.1

found-at_row : {X : Type 0} (key : X → ℕ) (k low high : ℕ) (rows : List X) (at : ℕ) (d : X) → AreRows key low high rows → at < length rows
    → HoldsAt (λ row. key row ≡ k) rows at → row_of key k rows ≡ Some (get_or rows at d)
found-at_row key k low high [] at d h l is = absurd (omega arith)
found-at_row key k low high (r ∷ rows) zero d h l is = cond-true (eqb (key r) k) (Some r) (row_of key k rows) (eq-eqb (key r) k (is r))
found-at_row key k low high (r ∷ rows) (suc n) d h l is =
    let from = key-from key (key r + 1) high rows n r h.2 (omega arith) in
    cond-false (eqb (key r) k) (Some r) (row_of key k rows) (ne_eqb (key r) k (λ equal. omega arith))
    ∙ found-at_row key k (key r + 1) high rows n d h.2 (omega arith) (λ e. is e)

pub row_of-at_place : {X : Type 0} (key : X → ℕ) (k low high : ℕ) (rows : List X) (at : ℕ) (d : X) → AreRows key low high rows
    → IsPlace key k rows (Ok at) → row_of key k rows ≡ Some (get_or rows at d)
row_of-at_place key k low high rows at d h place = found-at_row key k low high rows at d h place.0 place.1

-- no row has this key
abbrev IsAbsent : {X : Type 0} → (X → ℕ) → ℕ → List X → Type 0
IsAbsent {X} key k rows = (n : ℕ) (d : X) → n < length rows → key (get_or rows n d) ≡ k → ⊥

absent-tail : {X : Type 0} (key : X → ℕ) (k : ℕ) (r : X) (rows : List X) → IsAbsent key k (r ∷ rows) → IsAbsent key k rows
absent-tail key k r rows none n d l same = none (suc n) d (omega arith) same

absent-head : {X : Type 0} (key : X → ℕ) (k : ℕ) (r : X) (rows : List X) → IsAbsent key k (r ∷ rows) → key r ≡ k → ⊥
absent-head key k r rows none same = none zero r (omega arith) same

absent-low : {X : Type 0} (key : X → ℕ) (k low high : ℕ) (rows : List X) → k < low → AreRows key low high rows → IsAbsent key k rows
absent-low key k low high rows less h n d l same = let from = key-from key low high rows n d h l in omega arith

absent-gap : {X : Type 0} (key : X → ℕ) (k : ℕ) (rows : List X) (at : ℕ) → IsPlace key k rows (Err at) → IsAbsent key k rows
absent-gap key k rows at place n d l same =
    elim (cases_order n at) [
      | inl here ↦ let above = place.2 n d (omega arith) l in omega arith
      | inr other ↦ elim other [
        | inl less ↦ let below = place.1 n d (omega arith) less in omega arith
        | inr more ↦ let above = place.2 n d (omega arith) l in omega arith
      ]
    ]

without-absent : {X : Type 0} (key : X → ℕ) (k : ℕ) (rows : List X) → IsAbsent key k rows → without_row key k rows ≡ rows
without-absent key k [] none = refl
without-absent key k (r ∷ rows) none =
    without-other key k r rows (absent-head key k r rows none)
    ∙ ap (λ others. r ∷ others) (without-absent key k rows (absent-tail key k r rows none))

found-absent : {X : Type 0} (key : X → ℕ) (k : ℕ) (rows : List X) → IsAbsent key k rows → row_of key k rows ≡ None
found-absent key k [] none = refl
found-absent key k (r ∷ rows) none =
    cond-false (eqb (key r) k) (Some r) (row_of key k rows) (ne_eqb (key r) k (absent-head key k r rows none))
    ∙ found-absent key k rows (absent-tail key k r rows none)

abbrev changed : {X : Type 0} → (X → ℕ) → ℕ → (X → X) → X → X
changed key k change row = cond (eqb (key row) k) (change row) row

map-absent : {X : Type 0} (key : X → ℕ) (k : ℕ) (change : X → X) (rows : List X) → IsAbsent key k rows → map (changed key k change) rows ≡ rows
map-absent key k change [] none = refl
map-absent key k change (r ∷ rows) none =
    ap (λ first. first ∷ map (changed key k change) rows) (cond-false (eqb (key r) k) (change r) r (ne_eqb (key r) k (absent-head key k r rows none)))
    ∙ ap (λ others. r ∷ others) (map-absent key k change rows (absent-tail key k r rows none))

map-at_row : {X : Type 0} (key : X → ℕ) (k low high : ℕ) (change : X → X) (rows : List X) (at : ℕ) (d : X) → AreRows key low high rows → at < length rows
    → HoldsAt (λ row. key row ≡ k) rows at → set rows at (change (get_or rows at d)) ≡ map (changed key k change) rows
map-at_row key k low high change [] at d h l is = absurd (omega arith)
map-at_row key k low high change (r ∷ rows) zero d h l is =
    let same : key r ≡ k = is r in
    sym (ap (λ first. first ∷ map (changed key k change) rows) (cond-true (eqb (key r) k) (change r) r (eq-eqb (key r) k same))
    ∙ ap (λ others. change r ∷ others) (map-absent key k change rows (absent-low key k (key r + 1) high rows (omega arith) h.2)))
map-at_row key k low high change (r ∷ rows) (suc n) d h l is =
    let from = key-from key (key r + 1) high rows n r h.2 (omega arith) in
    ap (λ others. r ∷ others) (map-at_row key k (key r + 1) high change rows n d h.2 (omega arith) (λ e. is e))
    ∙ sym (ap (λ first. first ∷ map (changed key k change) rows) (cond-false (eqb (key r) k) (change r) r (ne_eqb (key r) k (λ equal. omega arith))))

-- one row of a key is changed where it stands
pub set-is_map : {X : Type 0} (key : X → ℕ) (k low high : ℕ) (change : X → X) (rows : List X) (at : ℕ) (d : X) → AreRows key low high rows
    → IsPlace key k rows (Ok at) → set rows at (change (get_or rows at d)) ≡ map (λ row. cond (eqb (key row) k) (change row) row) rows
set-is_map key k low high change rows at d h place = map-at_row key k low high change rows at d h place.0 place.1

-- where there is none of the key
pub map-at_gap : {X : Type 0} (key : X → ℕ) (k : ℕ) (change : X → X) (rows : List X) (at : ℕ) → IsPlace key k rows (Err at)
    → rows ≡ map (λ row. cond (eqb (key row) k) (change row) row) rows
map-at_gap key k change rows at place = sym (map-absent key k change rows (absent-gap key k rows at place))

pub without_row-at_gap : {X : Type 0} (key : X → ℕ) (k : ℕ) (rows : List X) (at : ℕ) → IsPlace key k rows (Err at) → rows ≡ without_row key k rows
without_row-at_gap key k rows at place = sym (without-absent key k rows (absent-gap key k rows at place))

pub row_of-at_gap : {X : Type 0} (key : X → ℕ) (k : ℕ) (rows : List X) (at : ℕ) → IsPlace key k rows (Err at) → row_of key k rows ≡ None
row_of-at_gap key k rows at place = found-absent key k rows (absent-gap key k rows at place)

-- Round a gap.
take-at_gap : {X : Type 0} (key : X → ℕ) (k low high : ℕ) (rows : List X) (at : ℕ) → AreRows key low high rows → at ≤ length rows
    → AllWithin (λ row. key row < k) rows 0 at → AllWithin (λ row. k < key row) rows at (length rows) → take at rows ≡ rows_before key k rows
take-at_gap key k low high [] zero h le below above = refl
take-at_gap key k low high [] (suc n) h le below above = refl
take-at_gap key k low high (r ∷ rows) zero h le below above =
    let greater : k < key r = above zero r (omega arith) (omega arith) in
    sym (before-above key k r rows (omega arith) ∙ rows_before-none key k (key r + 1) high rows (omega arith) h.2)
take-at_gap key k low high (r ∷ rows) (suc n) h le below above =
    let rest = take-at_gap key k (key r + 1) high rows n h.2 (omega arith) (λ m d from l. below (suc m) d (omega arith) (omega arith))
    (λ m d from l. above (suc m) d (omega arith) (omega arith)) in
    ap (λ front. r ∷ front) rest ∙ sym (before-below key k r rows (below zero r (omega arith) (omega arith)))

drop-at_gap : {X : Type 0} (key : X → ℕ) (k low high : ℕ) (rows : List X) (at : ℕ) → AreRows key low high rows → at ≤ length rows
    → AllWithin (λ row. key row < k) rows 0 at → AllWithin (λ row. k < key row) rows at (length rows) → drop at rows ≡ rows_behind key k rows
drop-at_gap key k low high [] zero h le below above = refl
drop-at_gap key k low high [] (suc n) h le below above = refl
drop-at_gap key k low high (r ∷ rows) zero h le below above =
    let greater : k < key r = above zero r (omega arith) (omega arith) in
    sym (behind-above key k r rows greater ∙ ap (λ back. r ∷ back) (rows_behind-all key k (key r + 1) high rows (omega arith) h.2))
drop-at_gap key k low high (r ∷ rows) (suc n) h le below above =
    let less : key r < k = below zero r (omega arith) (omega arith) in
    let rest = drop-at_gap key k (key r + 1) high rows n h.2 (omega arith) (λ m d from l. below (suc m) d (omega arith) (omega arith))
    (λ m d from l. above (suc m) d (omega arith) (omega arith)) in
    rest ∙ sym (behind-below key k r rows (omega arith))

pub insert-is_put : {X : Type 0} (key : X → ℕ) (low high : ℕ) (row : X) (rows : List X) (at : ℕ) → AreRows key low high rows
    → IsPlace key (key row) rows (Err at) → insert rows at row ≡ with_row key row rows
insert-is_put key low high row rows at h place =
    ap (λ front. front ++ row ∷ drop at rows) (take-at_gap key (key row) low high rows at h place.0 place.1 place.2)
    ∙ ap (λ back. rows_before key (key row) rows ++ row ∷ back) (drop-at_gap key (key row) low high rows at h place.0 place.1 place.2)

-- there is room for a row at a gap where all keys stay below the number of places
pub room-at_gap : {X : Type 0} (key : X → ℕ) (low high : ℕ) (row : X) (rows : List X) (at : ℕ) → AreRows key low high rows → low ≤ key row
    → key row < high → IsPlace key (key row) rows (Err at) → length rows < high - low
room-at_gap key low high row rows at h low_le below place =
    let few = length-rows key low high (with_row key row rows) (AreRows-with_row key low high row rows h low_le below) in
    let same = ap length (insert-is_put key low high row rows at h place) in
    let longer = length-insert rows at row place.0 in
    omega arith
