-- What keeps the values of a registry sorted and apart from their defaults.
use Rattle.std.proofs.Common.{◌≡◌, ℕ, ◌<◌, ◌≤◌, Bool, not, eqb, leb, ◌&&◌, ◌||◌, List, [], ◌∷◌, ◌++◌, inl, inr, arith, zero, suc, take, slice_get, subst}
use Rattle.std.specs.Prelude.{IsTrue, Some}
use Rattle.std.specs.List.{filter, AllByRecursion}
use Rattle.std.proofs.lemmas.Bool.{cond_both, and_parts, or_cases, leb-true, eqb-true}
use Rattle.sorted_rows.specs.Rows.{rows_before, rows_behind, with_row}
use Rattle.sorted_rows.proofs.RowLemmas.{AreRows-filter, AreRows-with_row}
use Rattle.registry.specs.declared.value.RegValue.{RegValue}
use Rattle.registry.specs.Values.{AreValues, IsPresent, is_kept, is_default, value_place, place_of_value}

pub AllByRecursion-filter : {X : Type 0} (P : X → Type 0) (test : X → Bool) (xs : List X) → AllByRecursion P xs → AllByRecursion P (filter test xs)
AllByRecursion-filter P test [] h = tt
AllByRecursion-filter P test (x ∷ xs) h =
    let rest = AllByRecursion-filter P test xs h.1 in
    cond_both (test x) (x ∷ filter test xs) (filter test xs) (AllByRecursion P) (λ yes. (h.0, rest)) (λ no. rest)

pub AllByRecursion-append : {X : Type 0} (P : X → Type 0) (xs ys : List X) → AllByRecursion P xs → AllByRecursion P ys → AllByRecursion P (xs ++ ys)
AllByRecursion-append P [] ys h k = k
AllByRecursion-append P (x ∷ xs) ys h k = (h.0, AllByRecursion-append P xs ys h.1 k)

pub AllByRecursion-take : {X : Type 0} (P : X → Type 0) (n : ℕ) (xs : List X) → AllByRecursion P xs → AllByRecursion P (take n xs)
AllByRecursion-take P zero xs h = tt
AllByRecursion-take P (suc n) [] h = tt
AllByRecursion-take P (suc n) (x ∷ xs) h = (h.0, AllByRecursion-take P n xs h.1)

pub AllByRecursion-get : {X : Type 0} (P : X → Type 0) (xs : List X) (n : ℕ) (x : X) → AllByRecursion P xs → slice_get xs n ≡ Some x → P x
AllByRecursion-get P [] zero x h q = cc
AllByRecursion-get P [] (suc n) x h q = cc
AllByRecursion-get P (y ∷ xs) zero x h q = let is : y ≡ x = cc in subst P is h.0
AllByRecursion-get P (y ∷ xs) (suc n) x h q = AllByRecursion-get P xs n x h.1 q

pub AreValues-filter : (test : RegValue → Bool) (values : List RegValue) → AreValues values → AreValues (filter test values)
AreValues-filter test values h = record {
  sorted = AreRows-filter place_of_value 2 16 test values h.sorted;
  present = AllByRecursion-filter IsPresent test values h.present;
}

-- the place of a parameter that is kept
pub place-within : (host gate param : ℕ) → IsTrue (is_kept host gate param) → (2 ≤ value_place host param) × (value_place host param < 16)
place-within host gate param kept =
    let parts = and_parts (leb 1 host && leb host 7 && eqb gate 0) (eqb param 1 || eqb param 3) kept in
    let bounds = and_parts (leb 1 host) (leb host 7) (and_parts (leb 1 host && leb host 7) (eqb gate 0) parts.0).0 in
    let from = leb-true 1 host bounds.0 in
    let upto = leb-true host 7 bounds.1 in
    elim (or_cases (eqb param 1) (eqb param 3) parts.1) [
      | inl first ↦ let is = eqb-true param 1 first in (omega arith, omega arith)
      | inr third ↦ let is = eqb-true param 3 third in (omega arith, omega arith)
    ]

pub place_of-within : (v : RegValue) → IsPresent v → (2 ≤ place_of_value v) × (place_of_value v < 16)
place_of-within v present = place-within v.host v.gate v.param (and_parts (is_kept v.host v.gate v.param) (not (is_default v.param v.value.items)) present).0

pub AreValues-with_row : (v : RegValue) (values : List RegValue) → IsPresent v → AreValues values → AreValues (with_row place_of_value v values)
AreValues-with_row v values present h =
    let within = place_of-within v present in
    record {
      sorted = AreRows-with_row place_of_value 2 16 v values h.sorted within.0 within.1;
      present =
          AllByRecursion-append IsPresent (rows_before place_of_value (place_of_value v) values) (v ∷ rows_behind place_of_value (place_of_value v) values)
          (AllByRecursion-filter IsPresent _ values h.present) (present, AllByRecursion-filter IsPresent _ values h.present);
    }
