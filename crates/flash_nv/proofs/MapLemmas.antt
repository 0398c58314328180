-- Which pages are used.
use Rattle.std.proofs.Common.{◌≡◌, ◌⊎◌, inl, inr, ℕ, ◌+◌, ◌<◌, ◌≤◌, suc, Bool, true, false, cond, List, [], ◌∷◌, Option, Some, None, length, replicate}
use Rattle.std.proofs.Common.{slice_index_or, slice_set, sym, refl, ap, ◌∙◌, subst, arith}
use Rattle.std.proofs.lemmas.Bool.{cases_eq, cases_lt, false≢true}
use Rattle.std.proofs.lemmas.List.{get_or-set_same, get_or-set_other, get_or-replicate, get_or_past, length-set, length-replicate}
use Rattle.std.proofs.lemmas.List.Sums.{sum_by-cons, sum_by-set}
use Rattle.std.proofs.lemmas.List.Folds.{sum_by-replicate}
use Rattle.std.specs.List.{count_by}
use Rattle.flash_nv.specs.Maps.{IsUsed, marked}

pub some_is : (x y : ℕ) → Some x ≡ Some y → x ≡ y
some_is x y e = cc

pub none_is : {C : Type 0} (p : ℕ) (o : Option ℕ) → o ≡ None → o ≡ Some p → C
none_is p o e f = absurd (cc)

abbrev pub no_pages : ℕ → List (Option ℕ)
no_pages n = replicate n None

pub none_at : (n s : ℕ) → slice_index_or (no_pages n) s None ≡ None
none_at n s = by_place (cases_lt s n)
  where
    none : Option ℕ
    none = None

    by_place : (s < n) ⊎ (n ≤ s) → slice_index_or (no_pages n) s None ≡ None
    by_place (inl small) = get_or-replicate n s None None small
    by_place (inr past) = get_or_past (no_pages n) s None (omega (arith, length-replicate n none))

pub none_has_page : (n : ℕ) → (s : ℕ) (p : ℕ) → slice_index_or (no_pages n) s None ≡ Some p → p < 272
none_has_page n s p e = none_is p (slice_index_or (no_pages n) s None) (none_at n s) e

pub none_used : {C : Type 0} (n p : ℕ) → p < n → slice_index_or (replicate n false) p true ≡ true → C
none_used n p small holds = absurd (false≢true (sym (get_or-replicate n p false true small) ∙ holds))

pub none_counted : (n : ℕ) → count_by (λ b. b) (replicate n false) ≤ 0
none_counted n = omega (arith, sum_by-replicate (λ b. cond b 1 0) n false)

pub all_counted : (used : List Bool) → ((q : ℕ) → q < length used → slice_index_or used q true ≡ true) → count_by (λ b. b) used ≡ length used
all_counted [] each = refl
all_counted (b ∷ used) each =
    sum_by-cons (λ x. cond x 1 0) b used ∙ ap (λ n. cond n 1 0 + count_by (λ x. x) used) (each 0 (omega arith))
    ∙ ap (λ n. 1 + n) (all_counted used (λ q small. each (suc q) (omega arith))) ∙ omega arith

-- where all but the pages from `from` on and those below it are used, all are
pub all_used : {C : Type 0} (used : List Bool) (from : ℕ) → length used ≡ 272 → ((q : ℕ) → 0 ≤ q → q < from → slice_index_or used q true ≡ true)
    → ((q : ℕ) → from ≤ q → q < 272 → slice_index_or used q true ≡ true) → count_by (λ b. b) used ≤ 256 → C
all_used used from len low high few = absurd (omega (arith, all_counted used (λ q small. (grind arith)), few, len))

-- one more page is marked
pub mark_used : (pages : List (Option ℕ)) (used : List Bool) (s : ℕ) (o : Option ℕ) → s < 256 → slice_index_or pages s None ≡ o
    → ((p : ℕ) → p < 272 → slice_index_or used p true ≡ true → IsUsed pages p) → (p : ℕ) → p < 272 → slice_index_or (marked used o) p true ≡ true
    → IsUsed pages p
mark_used pages used s None small at before p below holds = before p below holds
mark_used pages used s (Some r) small at before p below holds = by_page (cases_eq p r)
  where
    by_page : (p ≡ r) ⊎ (p ≡ r → ⊥) → IsUsed pages p
    by_page (inl same) = record { sector = s; below = small; at = at ∙ ap Some (sym same) }
    by_page (inr other) = before p below (sym (get_or-set_other used r p true true other) ∙ holds)

pub mark_marked : (pages : List (Option ℕ)) (used : List Bool) (s : ℕ) (o : Option ℕ) → slice_index_or pages s None ≡ o
    → ((t p : ℕ) → t < s → slice_index_or pages t None ≡ Some p → slice_index_or used p true ≡ true)
    → (t p : ℕ) → t < s + 1 → slice_index_or pages t None ≡ Some p → slice_index_or (marked used o) p true ≡ true
mark_marked pages used s o at before t p small is = by_sector (cases_lt t s)
  where
    set_keeps : (r : ℕ) → slice_index_or used p true ≡ true → (p ≡ r) ⊎ (p ≡ r → ⊥) → slice_index_or (slice_set used r true) p true ≡ true
    set_keeps r holds (inl same) = by_length (cases_lt r (length used))
      where
        by_length : (r < length used) ⊎ (length used ≤ r) → slice_index_or (slice_set used r true) p true ≡ true
        by_length (inl inside) = ap (λ n. slice_index_or (slice_set used r true) n true) same ∙ get_or-set_same used r true true inside
        by_length (inr past) =
            ap (λ n. slice_index_or (slice_set used r true) n true) same
            ∙ get_or_past (slice_set used r true) r true (omega (arith, length-set used r true))
    set_keeps r holds (inr other) = get_or-set_other used r p true true other ∙ holds

    keeps : (u : Option ℕ) → slice_index_or used p true ≡ true → slice_index_or (marked used u) p true ≡ true
    keeps None holds = holds
    keeps (Some r) holds = set_keeps r holds (cases_eq p r)

    makes : (r : ℕ) → slice_index_or (slice_set used r true) r true ≡ true
    makes r = by_length (cases_lt r (length used))
      where
        by_length : (r < length used) ⊎ (length used ≤ r) → slice_index_or (slice_set used r true) r true ≡ true
        by_length (inl inside) = get_or-set_same used r true true inside
        by_length (inr past) = get_or_past (slice_set used r true) r true (omega (arith, length-set used r true))

    by_sector : (t < s) ⊎ (s ≤ t) → slice_index_or (marked used o) p true ≡ true
    by_sector (inl less) = keeps o (before t p less is)
    by_sector (inr more) =
        let same : t ≡ s = omega arith in
        subst (λ u. slice_index_or (marked used u) p true ≡ true) (sym (sym at ∙ ap (λ n. slice_index_or pages n None) (sym same) ∙ is)) (makes p)

pub mark_counted : (used : List Bool) (o : Option ℕ) (n : ℕ) → ((p : ℕ) → o ≡ Some p → p < length used) → count_by (λ b. b) used ≤ n
    → count_by (λ b. b) (marked used o) ≤ n + 1
mark_counted used None n inside few = omega (arith, few)
mark_counted used (Some p) n inside few = omega (arith, few, sum_by-set (λ b. cond b 1 0) used p true true (inside p refl))
