-- The first bit of a start of frame.
use Rattle.std.specs.Prelude.{◌≡◌, ◌≢◌, ℕ, ◌<◌, List, [], ◌∷◌, ◌++◌, length, drop}
use Rattle.swp_frame.specs.Signal.{Symbol, bit_0, bit_1, break, mark_of, start_mark}
use Rattle.swp_decode.specs.Readings.{ReadSymbol, symbols}

abbrev pub front_or_one : Symbol → ℕ → ℕ → ℕ
front_or_one bit_0 front one = front
front_or_one bit_1 front one = one
front_or_one break front one = one

-- of readings that begin with the first 1 of a run, the newest first: the place of the 0 in front of it, or of this 1 where the
-- 0 was only read in, at the beginning or behind a break
abbrev pub place_in_front : List ReadSymbol → ℕ
place_in_front [] = 0
place_in_front (one ∷ []) = one.place
place_in_front (one ∷ front ∷ older) = front_or_one front.symbol front.place one.place

-- the place of the first bit of the start of frame that ends with the newest of these readings: in front of its six 1 bits
abbrev pub first_bit : List ReadSymbol → ℕ
first_bit readings = place_in_front (drop 6 readings)

-- of all readings, the newest first, `since` came after the last start of frame
pub record IsSinceStart (since front : List ReadSymbol) : Type 0 where
  pub starts : mark_of (symbols front) ≡ start_mark
  pub later : (k : ℕ) → k < length since → mark_of (symbols (drop k (since ++ front))) ≢ start_mark
