-- What is known of the pages between calls, and which page is taken next.
use Rattle.std.specs.Prelude.{◌≡◌, ◌⊎◌, ℕ, ◌+◌, ◌<◌, ◌≤◌, ◌==◌, if◌then◌else◌, Bool, true, List, None, Some, slice_index_or, slice_set}
use Rattle.std.specs.declared.option.Option.{Option}

-- the page of each sector, and the page from which on a free one is looked for
pub record Map : Type 0 where
  pub pages : List (Option ℕ)
  pub next : ℕ

-- a page is that of a sector
pub record IsUsed (pages : List (Option ℕ)) (page : ℕ) : Type 0 where
  pub sector : ℕ
  pub below : sector < 256
  pub at : slice_index_or pages sector None ≡ Some page

-- Of the pages that are not that of any sector this one is the least from `next` on, or else the least.
pub record IsNextFree (m : Map) (page : ℕ) : Type 0 where
  pub below : page < 272
  pub free : (sector : ℕ) → sector < 256 → slice_index_or m.pages sector None ≡ Some page → ⊥
  pub least : ((m.next ≤ page) × ((q : ℕ) → m.next ≤ q → q < page → IsUsed m.pages q))
      ⊎ ((page < m.next) × ((q : ℕ) → q < 272 → (q < page) ⊎ (m.next ≤ q) → IsUsed m.pages q))

-- the page behind a page; behind the last comes the first
abbrev pub page_behind : ℕ → ℕ
page_behind page = if page == 271 then 0 else page + 1

-- which pages are used, with one more where there is one
abbrev pub marked : List Bool → Option ℕ → List Bool
marked used None = used
marked used (Some page) = slice_set used page true
