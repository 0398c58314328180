-- Which page has the data of a sector.
use Rattle.std.proofs.Common.{◌≡◌, ◌⊎◌, inl, inr, ℕ, ◌<◌, ◌≤◌, suc, zero, Bool, true, false, ◌&&◌, ◌==◌, if◌then◌else◌, List, Some, None, Option, sym, refl, ap}
use Rattle.std.proofs.Common.{◌∙◌, subst, arith}
use Rattle.std.proofs.lemmas.Bool.{cases_eq, false≢true}
use Rattle.flash_nv.specs.Pages.{header_at, is_valid, sector_of, version_of, is_page_of, is_newer, page_below, page_of, version_on}

-- a page's version
abbrev pub version_at : List ℕ → ℕ → ℕ
version_at cells page = version_of (header_at cells page)

-- by its header, a page is valid and has this sector
abbrev pub of_header : ℕ → List ℕ → Bool
of_header sector header = is_valid header && (sector_of header == sector)

-- q does not come in the place of p
abbrev pub IsNoBetter : List ℕ → ℕ → ℕ → Type 0
IsNoBetter cells p q = (version_at cells q < version_at cells p) ⊎ ((version_at cells q ≡ version_at cells p) × (p ≤ q))

-- of the first n pages this one has the sector, and none is better; or none has it
pub record IsBest (cells : List ℕ) (sector n : ℕ) (o : Option ℕ) : Type 0 where
  pub found : (p : ℕ) → o ≡ Some p → (p < n) × (is_page_of cells sector p ≡ true)
  pub best : (p q : ℕ) → o ≡ Some p → q < n → is_page_of cells sector q ≡ true → IsNoBetter cells p q
  pub none : o ≡ None → (q : ℕ) → q < n → is_page_of cells sector q ≡ false

some_is : (x y : ℕ) → Some x ≡ Some y → x ≡ y
some_is x y e = cc

none_is : {C : Type 0} (p : ℕ) (o : Option ℕ) → o ≡ None → o ≡ Some p → C
none_is p o e f = absurd (cc)

pub page_below-suc : (cells : List ℕ) (sector n : ℕ) → page_below cells sector (suc n)
    ≡ (if is_page_of cells sector n && is_newer cells (page_below cells sector n) n then Some n else page_below cells sector n)
unfolding page_below
page_below-suc cells sector n = refl

pub page_below-zero : (cells : List ℕ) (sector : ℕ) → page_below cells sector zero ≡ None
unfolding page_below
page_below-zero cells sector = refl

-- one more page
step : (cells : List ℕ) (s n : ℕ) (o : Option ℕ) → IsBest cells s n o
    → IsBest cells s (suc n) (if is_page_of cells s n && is_newer cells o n then Some n else o)
step cells s n o b = grind arith

pub page_below-best : (cells : List ℕ) (s n : ℕ) → IsBest cells s n (page_below cells s n)
page_below-best cells s zero = subst (IsBest cells s zero) (sym (page_below-zero cells s)) ((grind arith))
page_below-best cells s (suc n) =
    subst (IsBest cells s (suc n)) (sym (page_below-suc cells s n)) (step cells s n (page_below cells s n) (page_below-best cells s n))

meet : (cells : List ℕ) (p q : ℕ) → IsNoBetter cells p q → IsNoBetter cells q p → p ≡ q
meet cells p q a b = grind arith

-- there is one best page, or none
pub best-unique : (cells : List ℕ) (s n : ℕ) (a b : Option ℕ) → IsBest cells s n a → IsBest cells s n b → a ≡ b
best-unique cells s n None None x y = refl
best-unique cells s n None (Some q) x y = let f = y.found q refl in absurd (false≢true (sym (x.none refl q f.0) ∙ f.1))
best-unique cells s n (Some p) None x y = let f = x.found p refl in absurd (false≢true (sym (y.none refl p f.0) ∙ f.1))
best-unique cells s n (Some p) (Some q) x y =
    let f = x.found p refl in
    let g = y.found q refl in
    ap Some (meet cells p q (x.best p q refl g.0 g.1) (y.best q p refl f.0 f.1))

-- no page became one of this sector
pub record IsFaded (old new : List ℕ) (s : ℕ) : Type 0 where
  pub was : (q : ℕ) → q < 272 → is_page_of new s q ≡ true → header_at new q ≡ header_at old q

pub of_is_valid : (cells : List ℕ) (s p : ℕ) → is_page_of cells s p ≡ true → is_valid (header_at cells p) ≡ true
of_is_valid cells s p e = grind arith

-- where no page became one of a sector, and its page has its header still, that is its page still
pub best_stays : (old new : List ℕ) (s : ℕ) (o : Option ℕ) → IsFaded old new s → ((p : ℕ) → o ≡ Some p → header_at new p ≡ header_at old p)
    → IsBest old s 272 o → IsBest new s 272 o
best_stays old new s o faded stays b = record {
  found = λ p e. let f = b.found p e in (f.0, ap (of_header s) (stays p e) ∙ f.1);
  best = grind arith;
  none = λ e q small. (grind arith);
}
  where
    better : (p q : ℕ) → version_at new q ≡ version_at old q → version_at new p ≡ version_at old p → IsNoBetter old p q → IsNoBetter new p q
    better p q a b c = grind arith

pub page_stays : (old new : List ℕ) (s : ℕ) → IsFaded old new s → ((p : ℕ) → page_of old s ≡ Some p → header_at new p ≡ header_at old p)
    → page_of new s ≡ page_of old s
page_stays old new s faded stays =
    best-unique new s 272 (page_below new s 272) (page_below old s 272) (page_below-best new s 272)
    (best_stays old new s (page_below old s 272) faded stays (page_below-best old s 272))

-- A page is valid now and has a version greater than that of its sector's page, and the other headers are as they were: it is its sector's page.
pub page_replaced : (old new : List ℕ) (s p : ℕ) → p < 272 → is_page_of new s p ≡ true → version_on old (page_of old s) < version_at new p
    → ((q : ℕ) → q < 272 → (q ≡ p → ⊥) → header_at new q ≡ header_at old q) → page_of new s ≡ Some p
page_replaced old new s p small holds greater others = best-unique new s 272 (page_below new s 272) (Some p) (page_below-best new s 272) (record {
  found = λ r e. let same : p ≡ r = some_is p r e in (omega arith, subst (λ m. is_page_of new s m ≡ true) same holds);
  best = λ r q e below of. subst (λ m. IsNoBetter new m q) (some_is p r e) (by_page q below of (cases_eq q p));
  none = λ e. none_is p (Some p) e refl;
})
  where
    by_best : (q : ℕ) (o : Option ℕ) → IsBest old s 272 o → version_on old o < version_at new p → q < 272 → is_page_of old s q ≡ true
        → version_at new q ≡ version_at old q → IsNoBetter new p q
    by_best q o b less below of same = grind arith

    by_page : (q : ℕ) → q < 272 → is_page_of new s q ≡ true → (q ≡ p) ⊎ (q ≡ p → ⊥) → IsNoBetter new p q
    by_page q below of (inl at) = subst (λ m. IsNoBetter new m q) at (grind arith)
    by_page q below of (inr apart) =
        let same = others q below apart in
        by_best q (page_below old s 272) (page_below-best old s 272) greater below (sym (ap (of_header s) same) ∙ of) (ap version_of same)
