-- Bytes, and their bits, most significant first.
use Rattle.std.specs.Prelude.{ℕ, ◌<◌, Bool, ◌==◌, List, [], ◌∷◌, ◌++◌}
use Rattle.std.specs.Int.{bit_at}

-- a byte
abbrev pub IsByte : ℕ → Type 0
IsByte b = b < 256

-- bit i of a number, where bit 0 is the least significant
abbrev pub bit : ℕ → ℕ → Bool
bit n i = bit_at n i == 1

-- the eight bits of a byte, most significant first
unfoldable pub bits_of_byte : ℕ → List Bool
bits_of_byte b = bit b 7 ∷ bit b 6 ∷ bit b 5 ∷ bit b 4 ∷ bit b 3 ∷ bit b 2 ∷ bit b 1 ∷ bit b 0 ∷ []

-- the bits of bytes, one byte after another
abbrev pub bits_of : List ℕ → List Bool
bits_of [] = []
bits_of (b ∷ bs) = bits_of_byte b ++ bits_of bs
