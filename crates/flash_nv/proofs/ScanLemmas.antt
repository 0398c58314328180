-- A pass over the pages finds the page of each sector.
use Rattle.std.proofs.Common.{add-one}
use Rattle.flash_nv.proofs.Words.{ArePagesFound, Bool, List, None, Option, Some, ap, arith, cases_eq, false, get_or-set_other, get_or-set_same, header_at}
use Rattle.flash_nv.proofs.Words.{if◌then◌else◌, inl, inr, is_newer, is_page_of, is_valid, length, page_below, replicate, sector_of, slice_index}
use Rattle.flash_nv.proofs.Words.{slice_index_or, slice_set, sym, true, version_of, ℕ, ◌&&◌, ◌+◌, ◌<◌, ◌∙◌, ◌≡◌, ◌⊎◌}
use Rattle.flash_nv.specs.Scanning.{beats}
use Rattle.flash_nv.proofs.MapLemmas.{none_at, some_is, none_is}
use Rattle.flash_nv.proofs.PageLemmas.{page_below-suc, page_below-zero}

pub found_none : (cells : List ℕ) (pages : List (Option ℕ)) (versions : List ℕ) → pages ≡ replicate 256 None → ArePagesFound cells 0 pages versions
found_none cells pages versions e = record {
  pages_are = λ s small. none s ∙ sym (page_below-zero cells s);
  versions_are = λ s p small is. none_is p (slice_index_or pages s None) (none s) is;
}
  where
    none : (s : ℕ) → slice_index_or pages s None ≡ None
    none s = ap (λ xs. slice_index_or xs s None) e ∙ none_at 256 s

below-next : (cells : List ℕ) (s n : ℕ) → page_below cells s (n + 1)
    ≡ (if is_page_of cells s n && is_newer cells (page_below cells s n) n then Some n else page_below cells s n)
below-next cells s n = ap (page_below cells s) (add-one n) ∙ page_below-suc cells s n

-- where the next page isn't one of a sector or isn't newer, nothing is found
pass : (cells : List ℕ) (n : ℕ) (pages : List (Option ℕ)) (versions : List ℕ) → ArePagesFound cells n pages versions
    → ((s : ℕ) → s < 256 → (is_page_of cells s n && is_newer cells (page_below cells s n) n) ≡ false) → ArePagesFound cells (n + 1) pages versions
pass cells n pages versions found fails = record {
  pages_are = λ s small. found.pages_are s small ∙ sym (below-next cells s n ∙ ap (λ b. if b then Some n else page_below cells s n) (fails s small));
  versions_are = found.versions_are;
}

pub found_invalid : (cells : List ℕ) (n : ℕ) (header : List ℕ) (pages : List (Option ℕ)) (versions : List ℕ) → header ≡ header_at cells n
    → is_valid header ≡ false → ArePagesFound cells n pages versions → ArePagesFound cells (n + 1) pages versions
found_invalid cells n header pages versions is invalid found = pass cells n pages versions found (grind arith)

and_false : (a b : Bool) → a ≡ false → (a && b) ≡ false
and_false a b e = ap (λ x. x && b) e

pub found_older : (cells : List ℕ) (n : ℕ) (header : List ℕ) (pages : List (Option ℕ)) (versions : List ℕ) (version : ℕ) → header ≡ header_at cells n
    → sector_of header < 256 → version ≡ version_of header
    → beats (slice_index_or pages (sector_of header) None) (slice_index versions (sector_of header)) version ≡ false
    → ArePagesFound cells n pages versions → ArePagesFound cells (n + 1) pages versions
found_older cells n header pages versions version is inside v older found = pass cells n pages versions found (λ s small. (grind arith))
  where
    at : ℕ
    at = sector_of header

    newer_fails : is_newer cells (page_below cells at n) n ≡ false
    newer_fails = grind arith

    and_second_false : (a b : Bool) → b ≡ false → (a && b) ≡ false
    and_second_false a b e = grind arith

pub found_newer : (cells : List ℕ) (n : ℕ) (header : List ℕ) (pages : List (Option ℕ)) (versions : List ℕ) (version : ℕ) → header ≡ header_at cells n
    → sector_of header < 256 → length pages ≡ 256 → length versions ≡ 256 → is_valid header ≡ true → version ≡ version_of header
    → beats (slice_index_or pages (sector_of header) None) (slice_index versions (sector_of header)) version ≡ true
    → ArePagesFound cells n pages versions
    → ArePagesFound cells (n + 1) (slice_set pages (sector_of header) (Some n)) (slice_set versions (sector_of header) version)
found_newer cells n header pages versions version is inside long_pages long_versions valid v newer found = record {
  pages_are = λ s small. page_at s small (cases_eq s at);
  versions_are = λ s p small e. version_at s p small e (cases_eq s at);
}
  where
    at : ℕ
    at = sector_of header

    new_page : slice_index_or (slice_set pages at (Some n)) at None ≡ Some n
    new_page = get_or-set_same pages at (Some n) None (omega (arith, long_pages))

    newer_holds : is_newer cells (page_below cells at n) n ≡ true
    newer_holds = grind arith

    of_holds : is_page_of cells at n ≡ true
    of_holds = grind arith

    page_at : (s : ℕ) → s < 256 → (s ≡ at) ⊎ (s ≡ at → ⊥) → slice_index_or (slice_set pages at (Some n)) s None ≡ page_below cells s (n + 1)
    page_at s small (inl same) =
        ap (λ t. slice_index_or (slice_set pages at (Some n)) t None) same ∙ new_page
        ∙ sym (ap (λ t. page_below cells t (n + 1)) same ∙ below-next cells at n
        ∙ ap (λ b. if b && is_newer cells (page_below cells at n) n then Some n else page_below cells at n) of_holds
        ∙ ap (λ b. if b then Some n else page_below cells at n) newer_holds)
    page_at s small (inr other) =
        get_or-set_other pages at s (Some n) None other ∙ found.pages_are s small
        ∙ sym (below-next cells s n
        ∙ ap (λ b. if b then Some n else page_below cells s n)
        (and_false (is_page_of cells s n) (is_newer cells (page_below cells s n) n) (grind arith)))

    version_at : (s p : ℕ) → s < 256 → slice_index_or (slice_set pages at (Some n)) s None ≡ Some p → (s ≡ at) ⊎ (s ≡ at → ⊥)
        → slice_index (slice_set versions at version) s ≡ version_of (header_at cells p)
    version_at s p small e (inl same) =
        let page : n ≡ p = some_is n p (sym (ap (λ t. slice_index_or (slice_set pages at (Some n)) t None) same ∙ new_page) ∙ e) in
        ap (slice_index (slice_set versions at version)) same
        ∙ get_or-set_same versions at version 0 (omega (arith, long_versions)) ∙ v ∙ ap version_of is ∙ ap (λ q. version_of (header_at cells q)) page
    version_at s p small e (inr other) =
        get_or-set_other versions at s version 0 other
        ∙ found.versions_are s p small (sym (get_or-set_other pages at s (Some n) None other) ∙ e)
