-- What a write that goes through makes of the pages, sector by sector.
use Rattle.std.specs.Prelude.{◌≡◌, ◌⊎◌, ℕ, zero, suc, ◌+◌, ◌-◌, ◌*◌, ◌/◌, ◌<◌, ◌≤◌, ◌==◌, false, if◌then◌else◌, List, Some, length, slice_index, slice_set}
use Rattle.std.specs.Prelude.{IsTrue}
use Rattle.flash_nv.specs.Cells.{is_in_range}
use Rattle.flash_nv.specs.Maps.{Map, IsNextFree, page_behind}
use Rattle.flash_nv.specs.Pages.{ArePages, header_at, page_header, sector_byte, sector_version}
use Rattle.flash_nv.specs.Memory.{FlashMemory}

-- A sector was put with these bytes into the page that comes next, in the version behind its own, and no other page changed.
pub record IsStep (old new : List ℕ) (before after : Map) (sector : ℕ) (byte : ℕ → ℕ) : Type 0 where
  pub page : ℕ
  pub free : IsNextFree before page
  pub map : after ≡ record { pages = slice_set before.pages sector (Some page); next = page_behind page }
  pub header : header_at new page ≡ page_header sector (sector_version old sector + 1)
  pub bytes_are : (j : ℕ) → j < 256 → slice_index new (512 * page + 18 + j) ≡ byte j
  pub others : (i : ℕ) → (i < 512 * page) ⊎ (512 * page + 512 ≤ i) → slice_index new i ≡ slice_index old i

-- byte j of a sector over which bytes are written from one of its places on
abbrev pub piece_byte : List ℕ → ℕ → ℕ → List ℕ → ℕ → ℕ
piece_byte cells sector from bytes j = if is_in_range from (length bytes) j then slice_index bytes (j - from) else sector_byte cells sector j

-- byte j of a sector over which bytes are written from place `at` of the memory on
abbrev pub laid_byte : List ℕ → ℕ → ℕ → List ℕ → ℕ → ℕ
laid_byte cells sector at bytes j =
    if is_in_range at (length bytes) (256 * sector + j) then slice_index bytes (256 * sector + j - at) else sector_byte cells sector j

-- in how many sectors so many bytes stand from place `at` on
abbrev pub sectors : ℕ → ℕ → ℕ
sectors at len = if len == 0 then 0 else (at + len - 1) / 256 + 1 - at / 256

-- so many sectors of a write of these bytes from place `at` on were put, ascending
abbrev pub AreSteps : ℕ → ℕ → List ℕ → List ℕ → Map → List ℕ → Map → Type 0
AreSteps zero at bytes old first new last = (new ≡ old) × (last ≡ first)
AreSteps (suc n) at bytes old first new last = (mid : List ℕ) × (map : Map) × AreSteps n at bytes old first mid map
    × IsStep mid new map last (at / 256 + n) (laid_byte mid (at / 256 + n) at bytes)

-- What is known of the pages as a call begins: what was known before it, or behind a scan, after which page 0 is tried first.
pub record IsMapBegun {F : Type 0} (cells : F → List ℕ) (m : FlashMemory F) (map : Map) : Type 0 where
  pub known : IsTrue m.known → map ≡ m.map
  pub scanned : m.known ≡ false → map.next ≡ 0
  pub pages : ArePages (cells m.flash) map.pages
