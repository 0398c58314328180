-- Long division leaves the remainder.
use Rattle.std.proofs.Common.{◌≡◌, ℕ, suc, zero, ◌+◌, ◌≤◌, List, [], ◌∷◌, ◌++◌, Bool, true, false, length, drop, replicate, refl, sym, ap, ◌∙◌, arith}
use Rattle.std.proofs.Common.{length-append}
use Rattle.swp_base.specs.Bits.{bits_of}
use Rattle.swp_crc.specs.Division.{sum_of_bits, sum_from_front, divisor, divided}
use Rattle.swp_crc.specs.Crc.{zeros, complement_first, remainder_of, crc_of}
use Rattle.swp_crc.proofs.Steps.{length-remainder, length-complemented}
use Rattle.frame_laws.specs.Remainder.{times_divisor, IsCrc}
use Rattle.swp_crc.proofs.DivisionLemmas.{sum_assoc as sum_from_front-assoc, sum_zeros}

twice_bit : (x y : Bool) → sum_of_bits x (sum_of_bits x y) ≡ y
twice_bit x0 y = grind arith

-- what is added twice is gone
added_twice : (xs ys : List Bool) → length xs ≤ length ys → sum_from_front xs (sum_from_front xs ys) ≡ ys
added_twice [] ys h = refl
added_twice (x ∷ xs) [] h = absurd (omega (arith, h))
added_twice (x ∷ xs) (y ∷ ys) h = let h0 = twice_bit x y in let h1 = added_twice xs ys (omega (arith, h)) in grind arith

-- a list is a multiple of the divisor and what its division in so many steps leaves
record IsDivided (n : ℕ) (bits : List Bool) : Type 0 where
  quotient : List Bool
  steps : length quotient ≡ n
  whole : bits ≡ sum_from_front (times_divisor quotient) (replicate n false ++ divided n bits)

with_zero : (n : ℕ) (bits : List Bool) → IsDivided n bits → IsDivided (suc n) (false ∷ bits)
with_zero n bits d = record {
  quotient = false ∷ d.quotient;
  steps = ap suc d.steps;
  whole = ap (λ bs. false ∷ bs) d.whole;
}

-- the list less the divisor, whose highest coefficient is 0 now
with_one : (n : ℕ) (bits : List Bool) → 16 ≤ length bits → IsDivided n (drop 1 (sum_from_front divisor (true ∷ bits))) → IsDivided (suc n) (true ∷ bits)
with_one n bits h d =
    let remainder : List Bool = replicate n false ++ divided n (drop 1 (sum_from_front divisor (true ∷ bits))) in
    record {
      quotient = true ∷ d.quotient;
      steps = ap suc d.steps;
      whole = sym (
          sum_from_front-assoc divisor (false ∷ times_divisor d.quotient) (false ∷ remainder)
          ∙ ap (λ bs. sum_from_front divisor (false ∷ bs)) (sym d.whole)
          ∙ added_twice divisor (true ∷ bits) (omega (arith, h))
          );
    }

is_divided : (n : ℕ) (bits : List Bool) → length bits ≡ n + 16 → IsDivided n bits
is_divided zero bits h = record { quotient = []; steps = refl; whole = sym (sum_zeros 16 bits (omega (arith, h))) }
is_divided (suc n) [] h = absurd (omega (arith, h))
is_divided (suc n) (false ∷ bits) h = with_zero n bits (is_divided n bits (omega (arith, h)))
is_divided (suc n) (true ∷ bits) h =
    let long : length (sum_from_front divisor (true ∷ bits)) ≡ suc (n + 16) = grind arith in
    with_one n bits (omega (arith, h)) (is_divided n (drop 1 (sum_from_front divisor (true ∷ bits))) (grind arith))

pub crc_is_remainder : (bytes : List ℕ) → IsCrc bytes (crc_of bytes)
crc_is_remainder bytes =
    let dividend : List Bool = complement_first 16 (bits_of bytes ++ zeros) in
    let d : IsDivided (length (bits_of bytes)) dividend =
    is_divided (length (bits_of bytes)) dividend (length-complemented 16 (bits_of bytes ++ zeros) ∙ length-append (bits_of bytes) zeros) in
    record {
      quotient = d.quotient;
      remainder = remainder_of bytes;
      degree = length-remainder bytes;
      message = d.whole ∙ ap (λ n. sum_from_front (times_divisor d.quotient) (replicate n false ++ remainder_of bytes)) (sym d.steps);
      complement = refl;
    }
