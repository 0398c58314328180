-- Lists of rows sorted by a key.
use Rattle.std.proofs.Common.{◌≡◌, ℕ, suc, ◌+◌, ◌-◌, ◌<◌, ◌≤◌, Bool, true, false, cond, not, eqb, ltb, List, [], ◌∷◌, ◌++◌, length, map, take, drop, refl, sym}
use Rattle.std.proofs.Common.{subst, ap, ◌∙◌, inl, inr, arith}
use Rattle.std.specs.Prelude.{IsSome, Option, Some, None}
use Rattle.std.specs.List.{find, filter, prefix_len, insert}
use Rattle.std.proofs.lemmas.Bool.{cases_order, cases_eq, lt-ltb, le-ltb, eq-eqb, ne_eqb, cond-true, cond-false, cond_both, eqb-true}
use Rattle.std.proofs.lemmas.List.Edits.{length-insert}
use Rattle.std.proofs.lemmas.List.Sums.{prefix_len-le-length}
use Rattle.sorted_rows.specs.Rows.{AreRows, row_of, rows_before, rows_behind, with_row, without_row}

pub AreRows-lower : {X : Type 0} (key : X → ℕ) (lower low high : ℕ) (rows : List X) → lower ≤ low → AreRows key low high rows → AreRows key lower high rows
AreRows-lower key lower low high [] le h = tt
AreRows-lower key lower low high (row ∷ rows) le h = let from = h.0 in (omega arith, h.1, h.2)

pub AreRows-filter : {X : Type 0} (key : X → ℕ) (low high : ℕ) (kept : X → Bool) (rows : List X) → AreRows key low high rows
    → AreRows key low high (filter kept rows)
AreRows-filter key low high kept [] h = tt
AreRows-filter key low high kept (row ∷ rows) h =
    let rest = AreRows-filter key (key row + 1) high kept rows h.2 in
    cond_both (kept row) (row ∷ filter kept rows) (filter kept rows) (AreRows key low high)
    (λ yes. (h.0, h.1, rest)) (λ no. AreRows-lower key low (key row + 1) high (filter kept rows) (omega arith) rest)

-- a change that leaves the keys
pub AreRows-map : {X : Type 0} (key : X → ℕ) (change : X → X) (low high : ℕ) (rows : List X) → ((row : X) → key (change row) ≡ key row)
    → AreRows key low high rows → AreRows key low high (map change rows)
AreRows-map key change low high [] keeps h = tt
AreRows-map key change low high (row ∷ rows) keeps h =
    let rest = AreRows-map key change (key row + 1) high rows keeps h.2 in
    (omega arith, omega arith, AreRows-lower key (key (change row) + 1) (key row + 1) high (map change rows) (omega arith) rest)

pub length-rows : {X : Type 0} (key : X → ℕ) (low high : ℕ) (rows : List X) → AreRows key low high rows → length rows ≤ high - low
length-rows key low high [] h = omega arith
length-rows key low high (row ∷ rows) h =
    let rest = length-rows key (key row + 1) high rows h.2 in
    omega arith

-- where all keys are greater, none stands before, and all stand behind
pub rows_before-none : {X : Type 0} (key : X → ℕ) (k low high : ℕ) (rows : List X) → k ≤ low → AreRows key low high rows → rows_before key k rows ≡ []
rows_before-none key k low high [] le h = refl
rows_before-none key k low high (row ∷ rows) le h =
    cond-false (ltb (key row) k) (row ∷ rows_before key k rows) (rows_before key k rows) (le-ltb (key row) k (omega arith))
    ∙ rows_before-none key k (key row + 1) high rows (omega arith) h.2

pub rows_behind-all : {X : Type 0} (key : X → ℕ) (k low high : ℕ) (rows : List X) → k < low → AreRows key low high rows → rows_behind key k rows ≡ rows
rows_behind-all key k low high [] le h = refl
rows_behind-all key k low high (row ∷ rows) le h =
    cond-true (ltb k (key row)) (row ∷ rows_behind key k rows) (rows_behind key k rows) (lt-ltb k (key row) (omega arith))
    ∙ ap (λ behind. row ∷ behind) (rows_behind-all key k (key row + 1) high rows (omega arith) h.2)

pub without_row-all : {X : Type 0} (key : X → ℕ) (k low high : ℕ) (rows : List X) → k < low → AreRows key low high rows → without_row key k rows ≡ rows
without_row-all key k low high [] le h = refl
without_row-all key k low high (row ∷ rows) le h =
    ap (λ b. cond (not b) (row ∷ without_row key k rows) (without_row key k rows)) (ne_eqb (key row) k (λ same. omega arith))
    ∙ ap (λ rest. row ∷ rest) (without_row-all key k (key row + 1) high rows (omega arith) h.2)

-- a row below k, one at k and one above it, in the two lists round k
pub before-below : {X : Type 0} (key : X → ℕ) (k : ℕ) (row : X) (rows : List X) → key row < k → rows_before key k (row ∷ rows) ≡ row ∷ rows_before key k rows
before-below key k row rows lt = cond-true (ltb (key row) k) (row ∷ rows_before key k rows) (rows_before key k rows) (lt-ltb (key row) k lt)

pub before-above : {X : Type 0} (key : X → ℕ) (k : ℕ) (row : X) (rows : List X) → k ≤ key row → rows_before key k (row ∷ rows) ≡ rows_before key k rows
before-above key k row rows le = cond-false (ltb (key row) k) (row ∷ rows_before key k rows) (rows_before key k rows) (le-ltb (key row) k le)

pub behind-below : {X : Type 0} (key : X → ℕ) (k : ℕ) (row : X) (rows : List X) → key row ≤ k → rows_behind key k (row ∷ rows) ≡ rows_behind key k rows
behind-below key k row rows le = cond-false (ltb k (key row)) (row ∷ rows_behind key k rows) (rows_behind key k rows) (le-ltb k (key row) le)

pub behind-above : {X : Type 0} (key : X → ℕ) (k : ℕ) (row : X) (rows : List X) → k < key row → rows_behind key k (row ∷ rows) ≡ row ∷ rows_behind key k rows
behind-above key k row rows lt = cond-true (ltb k (key row)) (row ∷ rows_behind key k rows) (rows_behind key k rows) (lt-ltb k (key row) lt)

pub without-same : {X : Type 0} (key : X → ℕ) (k : ℕ) (row : X) (rows : List X) → key row ≡ k → without_row key k (row ∷ rows) ≡ without_row key k rows
without-same key k row rows same = ap (λ b. cond (not b) (row ∷ without_row key k rows) (without_row key k rows)) (eq-eqb (key row) k same)

pub without-other : {X : Type 0} (key : X → ℕ) (k : ℕ) (row : X) (rows : List X) → (key row ≡ k → ⊥)
    → without_row key k (row ∷ rows) ≡ row ∷ without_row key k rows
without-other key k row rows other = ap (λ b. cond (not b) (row ∷ without_row key k rows) (without_row key k rows)) (ne_eqb (key row) k other)

pub AreRows-with_row : {X : Type 0} (key : X → ℕ) (low high : ℕ) (row : X) (rows : List X) → AreRows key low high rows → low ≤ key row
    → key row < high → AreRows key low high (with_row key row rows)
AreRows-with_row key low high row [] h low_le below = (low_le, below, tt)
AreRows-with_row {X} key low high row (r ∷ rows) h low_le below =
    let k = key row in
    let P : List X → Type 0 = AreRows key low high in
    elim (cases_order (key r) k) [
      | inl same ↦ subst P (sym (
          ap (λ front. front ++ row ∷ rows_behind key k (r ∷ rows)) (before-above key k r rows (omega arith))
          ∙ ap (λ back. rows_before key k rows ++ row ∷ back) (behind-below key k r rows (omega arith))))
          (AreRows-with_row key low high row rows (AreRows-lower key low (key r + 1) high rows (omega arith) h.2) low_le below)
      | inr other ↦ elim other [
        | inl less ↦ subst P (sym (
            ap (λ front. front ++ row ∷ rows_behind key k (r ∷ rows)) (before-below key k r rows less)
            ∙ ap (λ back. (r ∷ rows_before key k rows) ++ row ∷ back) (behind-below key k r rows (omega arith))))
            (h.0, h.1, AreRows-with_row key (key r + 1) high row rows h.2 (omega arith) below)
        | inr more ↦ subst P (sym (
            ap (λ front. front ++ row ∷ rows_behind key k (r ∷ rows))
            (before-above key k r rows (omega arith) ∙ rows_before-none key k (key r + 1) high rows (omega arith) h.2)
            ∙ ap (λ back. row ∷ back) (behind-above key k r rows more ∙ ap (λ back. r ∷ back) (rows_behind-all key k (key r + 1) high rows (omega arith) h.2))))
            (low_le, below, (omega arith, h.1, h.2))
      ]
    ]

-- Code puts a row by taking out the one with its key, and inserting it behind those with a smaller key.
abbrev place : {X : Type 0} → (X → ℕ) → ℕ → List X → ℕ
place {X} key k rows = prefix_len (λ row. ltb (key row) k) rows

place-below : {X : Type 0} (key : X → ℕ) (k : ℕ) (row : X) (rows : List X) → key row < k → place key k (row ∷ rows) ≡ suc (place key k rows)
place-below key k row rows lt = cond-true (ltb (key row) k) (1 + place key k rows) 0 (lt-ltb (key row) k lt) ∙ omega arith

place-above : {X : Type 0} (key : X → ℕ) (k : ℕ) (row : X) (rows : List X) → k ≤ key row → place key k (row ∷ rows) ≡ 0
place-above key k row rows le = cond-false (ltb (key row) k) (1 + place key k rows) 0 (le-ltb (key row) k le)

take-place : {X : Type 0} (key : X → ℕ) (k low high : ℕ) (rows : List X) → AreRows key low high rows
    → take (place key k (without_row key k rows)) (without_row key k rows) ≡ rows_before key k rows
take-place key k low high [] h = refl
take-place key k low high (r ∷ rows) h =
    let rest = take-place key k (key r + 1) high rows h.2 in
    elim (cases_order (key r) k) [
      | inl same ↦ ap (λ w. take (place key k w) w) (without-same key k r rows same) ∙ rest ∙ sym (before-above key k r rows (omega arith))
      | inr other ↦ elim other [
        | inl less ↦ ap (λ w. take (place key k w) w) (without-other key k r rows (λ same. omega arith))
            ∙ ap (λ n. take n (r ∷ without_row key k rows)) (place-below key k r (without_row key k rows) less)
            ∙ ap (λ front. r ∷ front) rest
            ∙ sym (before-below key k r rows less)
        | inr more ↦ ap (λ w. take (place key k w) w) (without-other key k r rows (λ same. omega arith))
            ∙ ap (λ n. take n (r ∷ without_row key k rows)) (place-above key k r (without_row key k rows) (omega arith))
            ∙ sym (before-above key k r rows (omega arith) ∙ rows_before-none key k (key r + 1) high rows (omega arith) h.2)
      ]
    ]

drop-place : {X : Type 0} (key : X → ℕ) (k low high : ℕ) (rows : List X) → AreRows key low high rows
    → drop (place key k (without_row key k rows)) (without_row key k rows) ≡ rows_behind key k rows
drop-place key k low high [] h = refl
drop-place key k low high (r ∷ rows) h =
    let rest = drop-place key k (key r + 1) high rows h.2 in
    elim (cases_order (key r) k) [
      | inl same ↦ ap (λ w. drop (place key k w) w) (without-same key k r rows same) ∙ rest ∙ sym (behind-below key k r rows (omega arith))
      | inr other ↦ elim other [
        | inl less ↦ ap (λ w. drop (place key k w) w) (without-other key k r rows (λ same. omega arith))
            ∙ ap (λ n. drop n (r ∷ without_row key k rows)) (place-below key k r (without_row key k rows) less)
            ∙ rest
            ∙ sym (behind-below key k r rows (omega arith))
        | inr more ↦ ap (λ w. drop (place key k w) w) (without-other key k r rows (λ same. omega arith))
            ∙ ap (λ n. drop n (r ∷ without_row key k rows)) (place-above key k r (without_row key k rows) (omega arith))
            ∙ ap (λ rs. r ∷ rs) (without_row-all key k (key r + 1) high rows (omega arith) h.2)
            ∙ sym (behind-above key k r rows more ∙ ap (λ back. r ∷ back) (rows_behind-all key k (key r + 1) high rows (omega arith) h.2))
      ]
    ]

pub inserted_is_put : {X : Type 0} (key : X → ℕ) (low high : ℕ) (row : X) (rows : List X) → AreRows key low high rows
    → insert (without_row key (key row) rows) (prefix_len (λ r. ltb (key r) (key row)) (without_row key (key row) rows)) row ≡ with_row key row rows
inserted_is_put key low high row rows h =
    ap (λ front. front ++ row ∷ drop (place key (key row) (without_row key (key row) rows)) (without_row key (key row) rows))
    (take-place key (key row) low high rows h)
    ∙ ap (λ back. rows_before key (key row) rows ++ row ∷ back) (drop-place key (key row) low high rows h)

-- the same, as the code's calls say it
pub put_by_insert : {X : Type 0} (key : X → ℕ) (low high : ℕ) (row : X) (rows : List X) {taken seen new : List X} {n : ℕ} → AreRows key low high rows
    → taken ≡ without_row key (key row) rows → seen ≡ taken → n ≡ prefix_len (λ r. ltb (key r) (key row)) seen → new ≡ insert taken n row
    → new ≡ with_row key row rows
put_by_insert key low high row rows h taken_is seen_is n_is new_is =
    let put = inserted_is_put key low high row rows h in cc

-- there is room for a row where all keys stay below the number of places
pub length-without_row : {X : Type 0} (key : X → ℕ) (low high : ℕ) (row : X) (rows : List X) → AreRows key low high rows → low ≤ key row
    → key row < high → length (without_row key (key row) rows) < high - low
length-without_row key low high row rows h low_le below =
    let few = length-rows key low high (with_row key row rows) (AreRows-with_row key low high row rows h low_le below) in
    let same = ap length (inserted_is_put key low high row rows h) in
    let taken = without_row key (key row) rows in
    let longer = length-insert taken (prefix_len (λ r. ltb (key r) (key row)) taken) row (prefix_len-le-length (λ r. ltb (key r) (key row)) taken) in
    omega arith

-- Looking up by a key.
abbrev or_else : {X : Type 0} → Option X → Option X → Option X
or_else None o = o
or_else (Some x) o = Some x

or_else-none : {X : Type 0} (o : Option X) → or_else o None ≡ o
or_else-none None = refl
or_else-none (Some x) = refl

find-append : {X : Type 0} (test : X → Bool) (xs ys : List X) → find test (xs ++ ys) ≡ or_else (find test xs) (find test ys)
find-append test [] ys = refl
find-append {X} test (x ∷ xs) ys =
    let rest = find-append test xs ys in
    cond_both (test x) (Some x) (find test xs) (λ o. cond (test x) (Some x) (find test (xs ++ ys)) ≡ or_else o (find test ys))
    (λ yes. cond-true (test x) (Some x) (find test (xs ++ ys)) yes) (λ no. cond-false (test x) (Some x) (find test (xs ++ ys)) no ∙ rest)

-- a filter that keeps each row with key k, or none
row_of-kept : {X : Type 0} (key : X → ℕ) (kept : ℕ → Bool) (k : ℕ) (rows : List X) → kept k ≡ true
    → row_of key k (filter (λ r. kept (key r)) rows) ≡ row_of key k rows
row_of-kept key kept k [] keeps = refl
row_of-kept {X} key kept k (r ∷ rows) keeps =
    let rest = row_of-kept key kept k rows keeps in
    elim (cases_eq (key r) k) [
      | inl same ↦ let keeps_it : kept (key r) ≡ true = ap kept same ∙ keeps in
          ap (row_of key k) (cond-true (kept (key r)) (r ∷ filter (λ r. kept (key r)) rows) (filter (λ r. kept (key r)) rows) keeps_it)
          ∙ (cond-true (eqb (key r) k) (Some r) (row_of key k (filter (λ r. kept (key r)) rows)) (eq-eqb (key r) k same)
          ∙ sym (cond-true (eqb (key r) k) (Some r) (row_of key k rows) (eq-eqb (key r) k same)))
      | inr other ↦ cond_both (kept (key r)) (r ∷ filter (λ r. kept (key r)) rows) (filter (λ r. kept (key r)) rows)
          (λ rs. row_of key k rs ≡ row_of key k (r ∷ rows))
          (λ yes. cond-false (eqb (key r) k) (Some r) (row_of key k (filter (λ r. kept (key r)) rows)) (ne_eqb (key r) k other) ∙ rest
          ∙ sym (cond-false (eqb (key r) k) (Some r) (row_of key k rows) (ne_eqb (key r) k other)))
          (λ no. rest ∙ sym (cond-false (eqb (key r) k) (Some r) (row_of key k rows) (ne_eqb (key r) k other)))
    ]

row_of-dropped : {X : Type 0} (key : X → ℕ) (kept : ℕ → Bool) (k : ℕ) (rows : List X) → kept k ≡ false → row_of key k (filter (λ r. kept (key r)) rows) ≡ None
row_of-dropped key kept k [] drops = refl
row_of-dropped {X} key kept k (r ∷ rows) drops =
    let rest = row_of-dropped key kept k rows drops in
    elim (cases_eq (key r) k) [
      | inl same ↦ ap (row_of key k) (cond-false (kept (key r)) (r ∷ filter (λ r. kept (key r)) rows) (filter (λ r. kept (key r)) rows) (ap kept same ∙ drops))
          ∙ rest
      | inr other ↦ cond_both (kept (key r)) (r ∷ filter (λ r. kept (key r)) rows) (filter (λ r. kept (key r)) rows) (λ rs. row_of key k rs ≡ None)
          (λ yes. cond-false (eqb (key r) k) (Some r) (row_of key k (filter (λ r. kept (key r)) rows)) (ne_eqb (key r) k other) ∙ rest)
          (λ no. rest)
    ]

pub row_of-without_row : {X : Type 0} (key : X → ℕ) (gone : ℕ) (rows : List X) (k : ℕ)
    → row_of key k (without_row key gone rows) ≡ cond (eqb gone k) None (row_of key k rows)
row_of-without_row key gone rows k =
    elim (cases_eq gone k) [
      | inl same ↦ row_of-dropped key (λ j. not (eqb j gone)) k rows (ap not (eq-eqb k gone (sym same)))
          ∙ sym (cond-true (eqb gone k) None (row_of key k rows) (eq-eqb gone k same))
      | inr other ↦ row_of-kept key (λ j. not (eqb j gone)) k rows (ap not (ne_eqb k gone (λ same. other (sym same))))
          ∙ sym (cond-false (eqb gone k) None (row_of key k rows) (ne_eqb gone k other))
    ]

pub row_of-with_row : {X : Type 0} (key : X → ℕ) (row : X) (rows : List X) (k : ℕ)
    → row_of key k (with_row key row rows) ≡ cond (eqb (key row) k) (Some row) (row_of key k rows)
row_of-with_row {X} key row rows k =
    let found = row_of key k rows in
    let behind = rows_behind key (key row) rows in
    find-append (λ r. eqb (key r) k) (rows_before key (key row) rows) (row ∷ behind)
    ∙ elim (cases_order (key row) k) as (λ _. or_else (row_of key k (rows_before key (key row) rows)) (cond (eqb (key row) k) (Some row) (row_of key k behind))
    ≡ cond (eqb (key row) k) (Some row) found) [
      | inl same ↦ ap (λ o. or_else o (cond (eqb (key row) k) (Some row) (row_of key k behind)))
          (row_of-dropped key (λ j. ltb j (key row)) k rows (le-ltb k (key row) (omega arith)))
          ∙ (cond-true (eqb (key row) k) (Some row) (row_of key k behind) (eq-eqb (key row) k same)
          ∙ sym (cond-true (eqb (key row) k) (Some row) found (eq-eqb (key row) k same)))
      | inr other ↦ elim other [
        | inl less ↦ let differs : (key row ≡ k → ⊥) = λ same. omega arith in
            ap (λ o. or_else o (cond (eqb (key row) k) (Some row) (row_of key k behind)))
            (row_of-dropped key (λ j. ltb j (key row)) k rows (le-ltb k (key row) (omega arith)))
            ∙ (cond-false (eqb (key row) k) (Some row) (row_of key k behind) (ne_eqb (key row) k differs)
            ∙ (row_of-kept key (λ j. ltb (key row) j) k rows (lt-ltb (key row) k less)
            ∙ sym (cond-false (eqb (key row) k) (Some row) found (ne_eqb (key row) k differs))))
        | inr more ↦ let differs : (key row ≡ k → ⊥) = λ same. omega arith in
            ap (λ o. or_else o (cond (eqb (key row) k) (Some row) (row_of key k behind)))
            (row_of-kept key (λ j. ltb j (key row)) k rows (lt-ltb k (key row) more))
            ∙ (ap (or_else found) (cond-false (eqb (key row) k) (Some row) (row_of key k behind) (ne_eqb (key row) k differs)
            ∙ row_of-dropped key (λ j. ltb (key row) j) k rows (le-ltb (key row) k (omega arith)))
            ∙ (or_else-none found ∙ sym (cond-false (eqb (key row) k) (Some row) found (ne_eqb (key row) k differs))))
      ]
    ]

-- the key of a row that is found lies between the bounds
pub row_of-within : {X : Type 0} (key : X → ℕ) (low high k : ℕ) (rows : List X) → AreRows key low high rows → IsSome (row_of key k rows)
    → (low ≤ k) × (k < high)
row_of-within key low high k [] h some = absurd (cc some)
row_of-within {X} key low high k (row ∷ rows) h some =
    cond_both (eqb (key row) k) (Some row) (row_of key k rows) (λ o. IsSome o → (low ≤ k) × (k < high))
    (λ same _. let is = eqb-true (key row) k same in (omega arith, omega arith))
    (λ other found. let rest = row_of-within key (key row + 1) high k rows h.2 found in let rest_from = rest.0 in (omega arith, rest.1))
    some
