-- What the pages of a flash memory say: which page has the data of a sector, and so the content of a memory of 256 sectors.
use Rattle.std.specs.Prelude.{◌≡◌, ℕ, ◌+◌, ◌-◌, ◌*◌, ◌/◌, ◌%◌, ◌<◌, ◌==◌, Bool, true, ◌&&◌, nat_lt, if◌then◌else◌, List, [], ◌∷◌, ◌++◌, map}
use Rattle.std.specs.Prelude.{slice_index, slice_range, zero, suc}
use Rattle.std.specs.Prelude.{None, Some, slice_index_or}
use Rattle.std.specs.declared.option.Option.{Option}
use Rattle.std.specs.List.{range_with_len}
use Rattle.std.specs.Int.{bit_at, w64, from_be_bytes, to_be_bytes}

-- the first 18 bytes of a page: a sector's number, a version, and the complement of these nine bytes
abbrev pub header_at : List ℕ → ℕ → List ℕ
header_at cells page = slice_range cells (512 * page) (512 * page + 18)

-- the first bytes of a header agree with their complements
unfoldable pub agree : List ℕ → ℕ → Bool
agree header zero = true
agree header (suc n) = (slice_index header (9 + n) == 255 - slice_index header n) && agree header n

-- a header is valid where the complement agrees
abbrev pub is_valid : List ℕ → Bool
is_valid header = agree header 9

abbrev pub sector_of : List ℕ → ℕ
sector_of header = slice_index header 0

-- the version, most significant byte first
unfoldable pub version_of : List ℕ → ℕ
version_of h = from_be_bytes w64 (slice_index h 1 ∷ slice_index h 2 ∷ slice_index h 3 ∷ slice_index h 4 ∷ slice_index h 5 ∷ slice_index h 6
    ∷ slice_index h 7 ∷ slice_index h 8 ∷ [])

-- the header of a page that has this sector in this version
unfoldable pub page_header : ℕ → ℕ → List ℕ
page_header sector version = (sector ∷ to_be_bytes w64 version) ++ map (λ b. 255 - b) (sector ∷ to_be_bytes w64 version)

-- a page is valid and has this sector
abbrev pub is_page_of : List ℕ → ℕ → ℕ → Bool
is_page_of cells sector page = is_valid (header_at cells page) && (sector_of (header_at cells page) == sector)

-- a page is to be taken in the place of the best one before it
abbrev pub is_newer : List ℕ → Option ℕ → ℕ → Bool
is_newer cells None page = true
is_newer cells (Some best) page = nat_lt (version_of (header_at cells best)) (version_of (header_at cells page))

-- of the first n pages the valid one that has this sector and the greatest version, the lowest where two agree
unfoldable pub page_below : List ℕ → ℕ → ℕ → Option ℕ
page_below cells sector zero = None
page_below cells sector (suc n) =
    if is_page_of cells sector n && is_newer cells (page_below cells sector n) n then Some n else page_below cells sector n

-- the page of a sector
abbrev pub page_of : List ℕ → ℕ → Option ℕ
page_of cells sector = page_below cells sector 272

-- byte j of the data of a page, and FF where there is none
abbrev pub data_byte : List ℕ → Option ℕ → ℕ → ℕ
data_byte cells None j = 255
data_byte cells (Some page) j = slice_index cells (512 * page + 18 + j)

-- byte j of a sector
abbrev pub sector_byte : List ℕ → ℕ → ℕ → ℕ
sector_byte cells sector j = data_byte cells (page_of cells sector) j

-- byte i of the content
abbrev pub content_byte : List ℕ → ℕ → ℕ
content_byte cells i = sector_byte cells (i / 256) (i % 256)

-- so many bytes of the content
unfoldable pub content_front : List ℕ → ℕ → List ℕ
content_front cells len = map (content_byte cells) (range_with_len 0 len)

-- the content of the 256 sectors
abbrev pub flash_content : List ℕ → List ℕ
flash_content cells = content_front cells 65536

-- of each bit of the first nine bytes of a page and its complement's bit, at least one is 1
abbrev pub IsClean : List ℕ → Type 0
IsClean cells = (page i k : ℕ) → page < 272 → i < 9 → k < 8
    → 0 < bit_at (slice_index cells (512 * page + i)) k + bit_at (slice_index cells (512 * page + 9 + i)) k

-- a page's version, and 0 where there is none
abbrev pub version_on : List ℕ → Option ℕ → ℕ
version_on cells None = 0
version_on cells (Some page) = version_of (header_at cells page)

-- the version of a sector
abbrev pub sector_version : List ℕ → ℕ → ℕ
sector_version cells sector = version_on cells (page_of cells sector)

-- a table has the page of each sector
abbrev pub ArePages : List ℕ → List (Option ℕ) → Type 0
ArePages cells pages = (sector : ℕ) → sector < 256 → slice_index_or pages sector None ≡ page_of cells sector
