-- Looking up by a key behind a change of the rows.
use Rattle.tables_laws.proofs.Words.{AllByRecursion, AreRows, Bool, List, None, Option, Some, [], ap, arith, cases_eq, cond, cond-false, cond-true, cond_both}
use Rattle.tables_laws.proofs.Words.{eq-eqb, eqb, eqb-true, filter, inl, inr, list_all, map, ne_eqb, option_and_then, option_map, refl, row_of, subst, sym}
use Rattle.tables_laws.proofs.Words.{true, ℕ, ◌&&◌, ◌+◌, ◌<◌, ◌∙◌, ◌∷◌, ◌≡◌}

pub row_of-map : {X : Type 0} (key : X → ℕ) (change : X → X) (k : ℕ) (rows : List X) → ((row : X) → key (change row) ≡ key row)
    → row_of key k (map change rows) ≡ option_map change (row_of key k rows)
row_of-map key change k [] keeps = refl
row_of-map {X} key change k (row ∷ rows) keeps =
    ap (λ n. cond (eqb n k) (Some (change row)) (row_of key k (map change rows))) (keeps row)
    ∙ cond_both (eqb (key row) k) (Some row) (row_of key k rows)
    (λ o. cond (eqb (key row) k) (Some (change row)) (row_of key k (map change rows)) ≡ option_map change o)
    (λ same. cond-true (eqb (key row) k) (Some (change row)) (row_of key k (map change rows)) same)
    (λ other. cond-false (eqb (key row) k) (Some (change row)) (row_of key k (map change rows)) other ∙ (row_of-map key change k rows keeps))

-- no row has a key below all keys
row_of-above : {X : Type 0} (key : X → ℕ) (k low high : ℕ) (rows : List X) → k < low → AreRows key low high rows → row_of key k rows ≡ None
row_of-above key k low high [] less h = refl
row_of-above key k low high (row ∷ rows) less h =
    cond-false (eqb (key row) k) (Some row) (row_of key k rows) (ne_eqb (key row) k (λ same. omega arith))
    ∙ row_of-above key k (key row + 1) high rows (omega arith) h.2

-- a row if it passes a test
abbrev pub if_passes : {X : Type 0} → (X → Bool) → X → Option X
if_passes test row = cond (test row) (Some row) None

pub row_of-filter : {X : Type 0} (key : X → ℕ) (low high : ℕ) (test : X → Bool) (k : ℕ) (rows : List X) → AreRows key low high rows
    → row_of key k (filter test rows) ≡ option_and_then (if_passes test) (row_of key k rows)
row_of-filter key low high test k [] h = refl
row_of-filter {X} key low high test k (row ∷ rows) h =
    let rest = row_of-filter key (key row + 1) high test k rows h.2 in
    let passed = filter test rows in
    elim (cases_eq (key row) k) [
      | inl same ↦
          let here = eq-eqb (key row) k same in
          cond_both (test row) (row ∷ passed) passed (λ rs. row_of key k rs ≡ option_and_then (if_passes test) (row_of key k (row ∷ rows)))
          (λ yes. cond-true (eqb (key row) k) (Some row) (row_of key k passed) here
          ∙ (sym (cond-true (test row) (Some row) None yes)
          ∙ ap (option_and_then (if_passes test)) (sym (cond-true (eqb (key row) k) (Some row) (row_of key k rows) here))))
          (λ no. rest ∙ (ap (option_and_then (if_passes test)) (row_of-above key k (key row + 1) high rows (omega arith) h.2)
          ∙ (sym (cond-false (test row) (Some row) None no)
          ∙ ap (option_and_then (if_passes test)) (sym (cond-true (eqb (key row) k) (Some row) (row_of key k rows) here)))))
      | inr other ↦
          let there = ne_eqb (key row) k other in
          let after = ap (option_and_then (if_passes test)) (sym (cond-false (eqb (key row) k) (Some row) (row_of key k rows) there)) in
          cond_both (test row) (row ∷ passed) passed (λ rs. row_of key k rs ≡ option_and_then (if_passes test) (row_of key k (row ∷ rows)))
          (λ yes. cond-false (eqb (key row) k) (Some row) (row_of key k passed) there ∙ (rest ∙ after))
          (λ no. rest ∙ after)
    ]

pub all-filter : {X : Type 0} (test : X → Bool) (xs : List X) → list_all test (filter test xs) ≡ true
all-filter test [] = refl
all-filter test (x ∷ xs) =
    let rest = all-filter test xs in
    cond_both (test x) (x ∷ filter test xs) (filter test xs) (λ ys. list_all test ys ≡ true)
    (λ yes. ap (λ b. b && list_all test (filter test xs)) yes ∙ rest) (λ no. rest)

-- a row that is found has the key, and what each row has
pub found_is : {X : Type 0} (key : X → ℕ) (P : X → Type 0) (k : ℕ) (rows : List X) (row : X) → AllByRecursion P rows → row_of key k rows ≡ Some row
    → P row × (key row ≡ k)
found_is key P k [] row each e = absurd (cc e)
found_is {X} key P k (r ∷ rows) row each e =
    cond_both (eqb (key r) k) (Some r) (row_of key k rows) (λ o. o ≡ Some row → P row × (key row ≡ k))
    (λ same is. let r_is : r ≡ row = cc in subst (λ x. P x × (key x ≡ k)) r_is (each.0, eqb-true (key r) k same))
    (λ other found. found_is key P k rows row each.1 found) e
