-- What is left of a page into which a sector is put: it is erased, its data are programmed, and then its header.
use Rattle.std.specs.Prelude.{◌≡◌, ◌⊎◌, ℕ, ◌+◌, ◌*◌, ◌<◌, ◌≤◌, Bool, List, slice_index, IsTrue}
use Rattle.flash_nv.specs.Cells.{AreCells}
use Rattle.flash_nv.specs.Pages.{IsClean, header_at, page_header, is_valid}

-- a page has this header and these data
pub record HasSector (cells : List ℕ) (page sector version : ℕ) (bytes : List ℕ) : Type 0 where
  pub header : header_at cells page ≡ page_header sector version
  pub bytes_are : (j : ℕ) → j < 256 → slice_index cells (512 * page + 18 + j) ≡ slice_index bytes j

-- A sector was put into a page, or a call on the way failed. No other page changed, and the page is valid only where it has the
-- sector, or the header that it had before.
pub record IsPut (ok : Bool) (old new : List ℕ) (page sector version : ℕ) (bytes : List ℕ) : Type 0 where
  pub before : AreCells old
  pub after : AreCells new
  pub others : (i : ℕ) → (i < 512 * page) ⊎ (512 * page + 512 ≤ i) → slice_index new i ≡ slice_index old i
  pub clean : IsClean old → IsClean new
  pub valid : IsClean old → IsTrue (is_valid (header_at new page))
      → (header_at new page ≡ header_at old page) ⊎ HasSector new page sector version bytes
  pub done : IsTrue ok → HasSector new page sector version bytes
