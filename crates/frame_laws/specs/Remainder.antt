-- The CRC as the remainder of a division: polynomials over two elements, each the list of its coefficients, the highest first.
use Rattle.std.specs.Prelude.{◌≡◌, ℕ, Bool, true, false, List, [], ◌∷◌, ◌++◌, length, map, not, replicate}
use Rattle.swp_base.specs.Bits.{bits_of}
use Rattle.swp_crc.specs.Division.{sum_from_front, divisor, spelled_number}
use Rattle.swp_crc.specs.Crc.{zeros, complement_first}

-- a polynomial times x^16 + x^12 + x^5 + 1: the divisor's multiples by its coefficients, added up
abbrev pub times_divisor : List Bool → List Bool
times_divisor [] = zeros
times_divisor (true ∷ quotient) = sum_from_front divisor (false ∷ times_divisor quotient)
times_divisor (false ∷ quotient) = false ∷ times_divisor quotient

-- The message, with sixteen zeros behind it and its first sixteen bits complemented, is a multiple of the polynomial and a
-- remainder of lower degree; the CRC is the complement of this remainder.
pub record IsCrc (bytes : List ℕ) (crc : ℕ) : Type 0 where
  pub quotient : List Bool
  pub remainder : List Bool
  pub degree : length remainder ≡ 16
  pub message : complement_first 16 (bits_of bytes ++ zeros)
      ≡ sum_from_front (times_divisor quotient) (replicate (length quotient) false ++ remainder)
  pub complement : crc ≡ spelled_number (map not remainder)
