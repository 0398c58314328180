use Rattle.flash_nv.proofs.Words.{List, None, Option, Some, ap, ap₂, arith, cases_lt, data_byte, eq-eqb, eqb-true, ext_get_or, false≢true, header_at, inl, inr}
use Rattle.flash_nv.proofs.Words.{is_page_of, is_valid, length-content_front, page_of, refl, sector_of, slice_index, subst, sym, true, version_of, ℕ, ◌%◌, ◌&&◌}
use Rattle.flash_nv.proofs.Words.{◌*◌, ◌+◌, ◌-◌, ◌/◌, ◌<◌, ◌==◌, ◌∙◌, ◌≡◌, ◌≤◌, ◌⊎◌}
use Rattle.flash_nv.specs.Held.{HoldsSector, HasGreatestVersion, IsContentOf}
use Rattle.flash_nv.specs.Pages.{flash_content}
use Rattle.flash_nv.proofs.ContentLemmas.{and_second, content_front-at, in_sector}
use Rattle.flash_nv.proofs.PutLemmas.{header-byte, valid_at, valid_from}
use Rattle.flash_nv.proofs.MapLemmas.{some_is}
use Rattle.flash_nv.proofs.PageLemmas.{IsNoBetter, IsBest, best-unique, of_is_valid, page_below-best}
use Rattle.flash_nv.proofs.held_pages.each_sector_stands_on_its_page_of_the_greatest_version.Goals as goal

-- The search through the pages finds the page of the greatest version, and the content is what the pages say.
holds_of : (cells : List ℕ) (s p : ℕ) → p < 272 → is_page_of cells s p ≡ true → HoldsSector cells s p
holds_of cells s p below of = record {
  below = below;
  complements = valid_at cells p (of_is_valid cells s p of);
  number = ap (slice_index cells) (omega arith) ∙ sym (header-byte cells p 0 (omega arith))
      ∙ eqb-true (sector_of (header_at cells p)) s (and_second (is_valid (header_at cells p)) (sector_of (header_at cells p) == s) of);
}

of_holds : (cells : List ℕ) (s p : ℕ) → HoldsSector cells s p → is_page_of cells s p ≡ true
of_holds cells s p h =
    ap₂ (λ a b. a && b) (valid_from (header_at cells p) (λ i small.
    header-byte cells p (9 + i) (omega arith) ∙ ap (slice_index cells) (omega arith) ∙ h.complements i small
    ∙ ap (λ n. 255 - n) (sym (header-byte cells p i (omega arith)))))
    (ap (λ n. n == s) (header-byte cells p 0 (omega arith) ∙ ap (slice_index cells) (omega arith) ∙ h.number) ∙ eq-eqb s s refl)

-- the page that is found is that of the greatest version
found_greatest : (cells : List ℕ) (s p : ℕ) → page_of cells s ≡ Some p → HasGreatestVersion cells s p
found_greatest cells s p e = record {
  holds = holds_of cells s p (best.found p e).0 (best.found p e).1;
  greatest = λ q h. no_greater q (best.best p q e h.below (of_holds cells s q h));
  lowest = λ q h same. no_lower q same (best.best p q e h.below (of_holds cells s q h));
}
  where
    best : IsBest cells s 272 (page_of cells s)
    best = page_below-best cells s 272

    no_greater : (q : ℕ) → IsNoBetter cells p q → version_of (header_at cells q) ≤ version_of (header_at cells p)
    no_greater q (inl less) = omega arith
    no_greater q (inr same) = omega (arith, same.0)

    no_lower : (q : ℕ) → version_of (header_at cells q) ≡ version_of (header_at cells p) → IsNoBetter cells p q → p ≤ q
    no_lower q same (inl less) = omega arith
    no_lower q same (inr later) = later.1

-- and that page is found
greatest_found : (cells : List ℕ) (s p : ℕ) → HasGreatestVersion cells s p → page_of cells s ≡ Some p
greatest_found cells s p g = best-unique cells s 272 (page_of cells s) (Some p) (page_below-best cells s 272) (record {
  found = λ r e. subst (λ n. (n < 272) × (is_page_of cells s n ≡ true)) (some_is p r e) (g.holds.below, of_holds cells s p g.holds);
  best = λ r q e small of. subst (λ n. IsNoBetter cells n q) (some_is p r e) (no_better q (holds_of cells s q small of));
  none = λ e. absurd (cc);
})
  where
    no_better : (q : ℕ) → HoldsSector cells s q → IsNoBetter cells p q
    no_better q h = by_case (cases_lt (version_of (header_at cells q)) (version_of (header_at cells p)))
      where
        by_case : (version_of (header_at cells q) < version_of (header_at cells p)) ⊎ (version_of (header_at cells p) ≤ version_of (header_at cells q))
            → IsNoBetter cells p q
        by_case (inl less) = inl less
        by_case (inr more) =
            let least : version_of (header_at cells q) ≤ version_of (header_at cells p) = g.greatest q h in
            let same : version_of (header_at cells q) ≡ version_of (header_at cells p) = omega arith in
            inr (same, g.lowest q h same)

-- where no page is found, none is valid and has the sector
none_holds : (cells : List ℕ) (s : ℕ) → page_of cells s ≡ None → (p : ℕ) → HoldsSector cells s p → ⊥
none_holds cells s e p h = false≢true (sym ((page_below-best cells s 272).none e p h.below) ∙ of_holds cells s p h)

none_found : (cells : List ℕ) (s : ℕ) → ((p : ℕ) → HoldsSector cells s p → ⊥) → page_of cells s ≡ None
none_found cells s none = by_page (page_of cells s) refl
  where
    by_page : (o : Option ℕ) → page_of cells s ≡ o → page_of cells s ≡ None
    by_page None e = e
    by_page (Some p) e = absurd (none p (found_greatest cells s p e).holds)

byte_in : (cells : List ℕ) (s j : ℕ) → s < 256 → j < 256 → slice_index (flash_content cells) (256 * s + j) ≡ data_byte cells (page_of cells s) j
byte_in cells s j small inside =
    let at = in_sector (256 * s + j) s j refl inside in
    content_front-at cells 65536 (256 * s + j) (omega arith) ∙ ap₂ (λ t k. data_byte cells (page_of cells t) k) at.0 at.1

content_is : (cells : List ℕ) → IsContentOf cells (flash_content cells)
content_is cells = record {
  size = length-content_front cells 65536;
  held = λ s p j small inside g. byte_in cells s j small inside ∙ ap (λ o. data_byte cells o j) (greatest_found cells s p g);
  blank = λ s j small inside none. byte_in cells s j small inside ∙ ap (λ o. data_byte cells o j) (none_found cells s none);
}

-- there is one content
content_only : (cells content : List ℕ) → IsContentOf cells content → content ≡ flash_content cells
content_only cells content is =
    ext_get_or 0 content (flash_content cells) (is.size ∙ sym (length-content_front cells 65536)) (λ i inside. at_place i (subst (λ n. i < n) is.size inside))
  where
    by_page : (s j : ℕ) → s < 256 → j < 256 → (o : Option ℕ) → page_of cells s ≡ o → slice_index content (256 * s + j) ≡ data_byte cells o j
    by_page s j small inside None e = is.blank s j small inside (none_holds cells s e)
    by_page s j small inside (Some p) e = is.held s p j small inside (found_greatest cells s p e)

    at_place : (i : ℕ) → i < 65536 → slice_index content i ≡ slice_index (flash_content cells) i
    at_place i small =
        let place : 256 * (i / 256) + i % 256 ≡ i = omega arith in
        let s : i / 256 < 256 = omega arith in
        let j : i % 256 < 256 = omega arith in
        ap (slice_index content) (sym place)
        ∙ (by_page (i / 256) (i % 256) s j (page_of cells (i / 256)) refl
        ∙ (sym (byte_in cells (i / 256) (i % 256) s j) ∙ ap (slice_index (flash_content cells)) place))

pub returns-clause-page : goal.returns-clause-page
returns-clause-page c = λ cells s p. (found_greatest cells s p, greatest_found cells s p)

pub returns-clause-none : goal.returns-clause-none
returns-clause-none c = λ cells s. (none_holds cells s, none_found cells s)

pub returns-clause-content : goal.returns-clause-content
returns-clause-content c = λ cells content. (λ e. subst (IsContentOf cells) (sym e) (content_is cells), content_only cells content)
