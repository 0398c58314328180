-- What a write makes of the sectors.
use Rattle.std.specs.Prelude.{◌≡◌, ◌⊎◌, ℕ, ◌+◌, ◌*◌, ◌^◌, ◌-◌, ◌<◌, ◌≤◌, Bool, List, length, slice_index, IsTrue}
use Rattle.flash_nv.specs.Pages.{IsClean, page_of, sector_byte, sector_version, content_byte}

-- a sector has the page, the version and the bytes that it had
pub record IsSectorKept (old new : List ℕ) (sector : ℕ) : Type 0 where
  pub page : page_of new sector ≡ page_of old sector
  pub version : sector_version new sector ≡ sector_version old sector
  pub bytes_are : (j : ℕ) → j < 256 → sector_byte new sector j ≡ sector_byte old sector j

-- These bytes were written into a sector from its byte `from` on, or that failed: no other sector changed, and no byte beside them.
pub record IsSectorWritten (ok : Bool) (old new : List ℕ) (sector from : ℕ) (bytes : List ℕ) : Type 0 where
  pub clean : IsClean new
  pub others : (t : ℕ) → t < 256 → (t ≡ sector → ⊥) → IsSectorKept old new t
  pub beside : (j : ℕ) → j < 256 → (j < from) ⊎ (from + length bytes ≤ j) → sector_byte new sector j ≡ sector_byte old sector j
  pub there : IsTrue ok → (j : ℕ) → j < length bytes → sector_byte new sector (from + j) ≡ slice_index bytes j

-- bytes were laid over others, from place `from` on
pub record AreLaid (before after : List ℕ) (from : ℕ) (bytes : List ℕ) : Type 0 where
  pub beside : (j : ℕ) → (j < from) ⊎ (from + length bytes ≤ j) → slice_index after j ≡ slice_index before j
  pub there : (j : ℕ) → j < length bytes → slice_index after (from + j) ≡ slice_index bytes j

-- no byte of the content changed beside so many from place `at` on
pub record IsKeptBeside (old new : List ℕ) (at len : ℕ) : Type 0 where
  pub clean : IsClean new
  pub beside : (i : ℕ) → i < 65536 → (i < at) ⊎ (at + len ≤ i) → content_byte new i ≡ content_byte old i

-- Of bytes that are written from place `at` on, the first so many are there, and no sector changed that comes behind.
pub record IsFrontWritten (old new : List ℕ) (at : ℕ) (bytes : List ℕ) (done : ℕ) : Type 0 where
  pub kept : IsKeptBeside old new at (length bytes)
  pub there : (i : ℕ) → i < done → content_byte new (at + i) ≡ slice_index bytes i
  pub behind : (t : ℕ) → t < 256 → (done ≡ 0) ⊎ (at + done ≤ 256 * t) → IsSectorKept old new t

-- a sector of this range has the last version, and stayed as it was
pub record HasSpent (old new : List ℕ) (at len : ℕ) : Type 0 where
  pub sector : ℕ
  pub below : sector < 256
  pub from : at < 256 * sector + 256
  pub to : 256 * sector < at + len
  pub last : sector_version old sector ≡ 2 ^ 64 - 1
  pub kept : IsSectorKept old new sector
