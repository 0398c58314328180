-- Pairs of hexadecimal digits and the bytes that they stand for.
use Rattle.std.specs.Prelude.{◌≡◌, ℕ, ◌+◌, ◌*◌, List, [], ◌∷◌, Some}
use Rattle.hex.specs.Hex.{hex_digit_value}

-- two digits stand for a byte
abbrev pub IsPair : ℕ → ℕ → ℕ → Type 0
IsPair high low byte =
    (h : ℕ) × (hex_digit_value high ≡ Some h) × ((l : ℕ) × (hex_digit_value low ≡ Some l) × (h * 16 + l ≡ byte))

-- each two digits stand for the byte at their place
abbrev pub IsPairs : List ℕ → List ℕ → Type 0
IsPairs [] [] = Unit {0}
IsPairs (high ∷ low ∷ digits) (byte ∷ bytes) = IsPair high low byte × IsPairs digits bytes
IsPairs digits bytes = ⊥
