-- The bytes of a flash memory of 272 pages of 512 bytes each, and what its calls do to them.
use Rattle.std.specs.Prelude.{◌≡◌, ◌⊎◌, ℕ, ◌+◌, ◌-◌, ◌*◌, ◌<◌, ◌≤◌, Bool, ◌&&◌, nat_le, nat_lt, if◌then◌else◌, List, length, slice_index, map, IsTrue}
use Rattle.std.specs.Prelude.{bit_and}
use Rattle.std.specs.List.{range_with_len}
use Rattle.std.specs.Int.{bit_at}

-- the bytes of such a memory
pub record AreCells (cells : List ℕ) : Type 0 where
  pub size : length cells ≡ 139264
  pub bytes : (i : ℕ) → slice_index cells i < 256

-- these bytes, from place `at` on, lie inside one page
pub record IsInPage (at len : ℕ) : Type 0 where
  pub page : ℕ
  pub below : page < 272
  pub from : 512 * page ≤ at
  pub to : at + len ≤ 512 * page + 512

-- a place is one of so many from `at` on
abbrev pub is_in_range : ℕ → ℕ → ℕ → Bool
is_in_range at len i = nat_le at i && nat_lt i (at + len)

-- a memory whose bytes in a range are made anew, by their place in the memory
unfoldable pub remade : List ℕ → ℕ → ℕ → (ℕ → ℕ) → List ℕ
remade cells at len byte = map (λ i. if is_in_range at len i then byte i else slice_index cells i) (range_with_len 0 (length cells))

-- a memory after these bytes were programmed from place `at` on: each is the AND of the old and the given one
abbrev pub programmed : List ℕ → ℕ → List ℕ → List ℕ
programmed cells at bytes = remade cells at (length bytes) (λ i. bit_and (slice_index cells i) (slice_index bytes (i - at)))

-- a memory after a page was erased
abbrev pub erased : List ℕ → ℕ → List ℕ
erased cells page = remade cells (512 * page) 512 (λ i. 255)

-- A call was to make `whole` of a memory. It did so where it went through, and else each bit is as it was, or as it was to be.
pub record IsChanged (ok : Bool) (old whole new : List ℕ) : Type 0 where
  pub before : AreCells old
  pub after : AreCells new
  pub done : IsTrue ok → new ≡ whole
  pub bits : (i k : ℕ) → (bit_at (slice_index new i) k ≡ bit_at (slice_index old i) k) ⊎ (bit_at (slice_index new i) k ≡ bit_at (slice_index whole i) k)
