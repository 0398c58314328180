-- Division over two elements. A polynomial is the list of its coefficients, the highest first.
use Rattle.std.specs.Prelude.{ℕ, suc, zero, ◌+◌, ◌^◌, Bool, true, false, not, List, [], ◌∷◌, length, drop}

-- the sum of two coefficients, which is their difference too
abbrev pub sum_of_bits : Bool → Bool → Bool
sum_of_bits true b = not b
sum_of_bits false b = b

-- the sum of two lists of coefficients from their highest on; the rest of the longer list stays
abbrev pub sum_from_front : List Bool → List Bool → List Bool
sum_from_front [] ys = ys
sum_from_front (x ∷ xs) [] = x ∷ xs
sum_from_front (x ∷ xs) (y ∷ ys) = sum_of_bits x y ∷ sum_from_front xs ys

-- x^16 + x^12 + x^5 + 1
abbrev pub divisor : List Bool
divisor = true ∷ false ∷ false ∷ false ∷ true ∷ false ∷ false ∷ false ∷ false ∷ false ∷ false ∷ true ∷ false ∷ false ∷ false ∷ false ∷ true ∷ []

-- What is left of a list after this many steps of long division. In each step the divisor is subtracted from the front
-- where the highest coefficient is 1, and that coefficient, which is 0 now, is dropped.
abbrev pub divided : ℕ → List Bool → List Bool
divided zero bits = bits
divided (suc n) [] = []
divided (suc n) (true ∷ bits) = divided n (drop 1 (sum_from_front divisor (true ∷ bits)))
divided (suc n) (false ∷ bits) = divided n bits

-- the number that a list of bits spells, most significant first
abbrev pub spelled_number : List Bool → ℕ
spelled_number [] = 0
spelled_number (true ∷ bits) = 2 ^ length bits + spelled_number bits
spelled_number (false ∷ bits) = spelled_number bits
