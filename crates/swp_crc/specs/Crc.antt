-- The CRC of a frame, by division.
use Rattle.std.specs.Prelude.{ℕ, suc, zero, ◌+◌, ◌*◌, Bool, false, not, List, [], ◌∷◌, ◌++◌, length, map, replicate}
use Rattle.swp_base.specs.Bits.{bits_of, bits_of_byte}
use Rattle.swp_crc.specs.Division.{divided, spelled_number}

-- sixteen zeros
abbrev pub zeros : List Bool
zeros = replicate 16 false

-- the list with its first n bits complemented
abbrev pub complement_first : ℕ → List Bool → List Bool
complement_first zero bits = bits
complement_first (suc n) [] = []
complement_first (suc n) (bit ∷ bits) = not bit ∷ complement_first n bits

-- what division leaves of the bits of these bytes, with sixteen zeros behind them and the first sixteen bits complemented
abbrev pub remainder_of : List ℕ → List Bool
remainder_of bytes = divided (length (bits_of bytes)) (complement_first 16 (bits_of bytes ++ zeros))

-- the CRC of these bytes: the complement of that remainder
abbrev pub crc_of : List ℕ → ℕ
crc_of bytes = spelled_number (map not (remainder_of bytes))

-- what division leaves of the bits of one byte before sixteen zeros, nothing complemented
abbrev pub table_entry : ℕ → ℕ
table_entry byte = spelled_number (divided 8 (bits_of_byte byte ++ zeros))

-- the same with this many more bytes 0 behind the byte
abbrev pub entry_before : ℕ → ℕ → ℕ
entry_before more byte = spelled_number (divided (8 + 8 * more) (bits_of_byte byte ++ replicate (8 * more + 16) false))
