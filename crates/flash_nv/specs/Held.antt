-- Which page has the data of a sector, and what the content is by that, without any search through the pages.
use Rattle.std.specs.Prelude.{◌≡◌, ℕ, ◌+◌, ◌-◌, ◌*◌, ◌<◌, ◌≤◌, List, length, slice_index}
use Rattle.flash_nv.specs.Pages.{header_at, version_of}

-- a page is valid, since each of its first nine bytes has its complement nine places on, and it has this sector's number
pub record HoldsSector (cells : List ℕ) (sector page : ℕ) : Type 0 where
  pub below : page < 272
  pub complements : (i : ℕ) → i < 9 → slice_index cells (512 * page + 9 + i) ≡ 255 - slice_index cells (512 * page + i)
  pub number : slice_index cells (512 * page) ≡ sector

-- of the valid pages of a sector this one has the greatest version, and of those of that version it is the lowest
pub record HasGreatestVersion (cells : List ℕ) (sector page : ℕ) : Type 0 where
  pub holds : HoldsSector cells sector page
  pub greatest : (q : ℕ) → HoldsSector cells sector q → version_of (header_at cells q) ≤ version_of (header_at cells page)
  pub lowest : (q : ℕ) → HoldsSector cells sector q → version_of (header_at cells q) ≡ version_of (header_at cells page) → page ≤ q

-- These bytes are the content: each sector is the data of its valid page of the greatest version, and FF where no valid page has it.
pub record IsContentOf (cells content : List ℕ) : Type 0 where
  pub size : length content ≡ 65536
  pub held : (sector page j : ℕ) → sector < 256 → j < 256 → HasGreatestVersion cells sector page
      → slice_index content (256 * sector + j) ≡ slice_index cells (512 * page + 18 + j)
  pub blank : (sector j : ℕ) → sector < 256 → j < 256 → ((page : ℕ) → HoldsSector cells sector page → ⊥)
      → slice_index content (256 * sector + j) ≡ 255
