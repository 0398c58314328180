-- What is known in the middle of a pass over the pages.
use Rattle.std.specs.Prelude.{◌≡◌, ℕ, ◌<◌, nat_lt, Bool, true, List, None, Some, slice_index, slice_index_or}
use Rattle.std.specs.declared.option.Option.{Option}
use Rattle.flash_nv.specs.Pages.{header_at, version_of, page_below}

-- of the first so many pages, the page of each sector and its version
pub record ArePagesFound (cells : List ℕ) (n : ℕ) (pages : List (Option ℕ)) (versions : List ℕ) : Type 0 where
  pub pages_are : (s : ℕ) → s < 256 → slice_index_or pages s None ≡ page_below cells s n
  pub versions_are : (s p : ℕ) → s < 256 → slice_index_or pages s None ≡ Some p → slice_index versions s ≡ version_of (header_at cells p)

-- a version is to be taken in the place of the one found so far
abbrev pub beats : Option ℕ → ℕ → ℕ → Bool
beats None known version = true
beats (Some page) known version = nat_lt known version
