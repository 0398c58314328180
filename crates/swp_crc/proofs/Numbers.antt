-- Lists of bits as numbers.
use Rattle.std.proofs.Common.{◌≡◌, ℕ, suc, zero, ◌+◌, ◌*◌, ◌^◌, ◌<◌, Bool, true, false, not, List, [], ◌∷◌, ◌++◌, length, map, replicate, refl, sym, ap, ◌∙◌}
use Rattle.std.proofs.Common.{arith, length-append}
use Rattle.std.proofs.lemmas.List.{length-map}
use Rattle.std.proofs.Math.Nat.{pow-suc}
use Rattle.std.specs.Int.Bits.{bit_xor}
use Rattle.std.proofs.lemmas.Nat.{xor_block, pow-add}
use Rattle.swp_crc.specs.Division.{sum_of_bits, sum_from_front, spelled_number}
use Rattle.swp_crc.proofs.DivisionLemmas.{length-sum}

-- the number of one bit
abbrev bit_number : Bool → ℕ
bit_number true = 1
bit_number false = 0

number_of-cons : (b : Bool) (bs : List Bool) → spelled_number (b ∷ bs) ≡ bit_number b * 2 ^ length bs + spelled_number bs
number_of-cons true bs = omega arith
number_of-cons false bs = omega arith

pub number_of-lt : (bs : List Bool) → spelled_number bs < 2 ^ length bs
number_of-lt [] = omega arith
number_of-lt (true ∷ bs) = omega (arith, number_of-lt bs, pow-suc 2 (length bs))
number_of-lt (false ∷ bs) = omega (arith, number_of-lt bs, pow-suc 2 (length bs))

pub number_of-append : (xs ys : List Bool) → spelled_number (xs ++ ys) ≡ spelled_number xs * 2 ^ length ys + spelled_number ys
number_of-append [] ys = omega arith
number_of-append (true ∷ xs) ys = omega (arith, (ap (λ n. 2 ^ n) (length-append xs ys) ∙ pow-add 2 (length xs) (length ys)), number_of-append xs ys)
number_of-append (false ∷ xs) ys = number_of-append xs ys

pub number_of-zeros : (n : ℕ) → spelled_number (replicate n false) ≡ 0
number_of-zeros zero = refl
number_of-zeros (suc n) = number_of-zeros n

-- lists of one length that spell one number are equal
pub number_of-injective : (xs ys : List Bool) → length xs ≡ length ys → spelled_number xs ≡ spelled_number ys → xs ≡ ys
number_of-injective [] [] h e = refl
number_of-injective [] (y ∷ ys) h e = absurd (omega arith)
number_of-injective (x ∷ xs) [] h e = absurd (omega arith)
number_of-injective (true ∷ xs) (true ∷ ys) h e =
    let same : length xs ≡ length ys = omega arith in
    ap (λ zs. true ∷ zs) (number_of-injective xs ys same (omega (arith, (ap (λ n. 2 ^ n) same))))
number_of-injective (true ∷ xs) (false ∷ ys) h e =
    let power : 2 ^ length xs ≡ 2 ^ length ys = ap (λ n. 2 ^ n) (omega arith) in
    absurd (omega (arith, power, number_of-lt ys))
number_of-injective (false ∷ xs) (true ∷ ys) h e =
    let power : 2 ^ length xs ≡ 2 ^ length ys = ap (λ n. 2 ^ n) (omega arith) in
    absurd (omega (arith, power, number_of-lt xs))
number_of-injective (false ∷ xs) (false ∷ ys) h e = ap (λ zs. false ∷ zs) (number_of-injective xs ys (omega arith) e)

xor-bit_number : (x y : Bool) → bit_number (sum_of_bits x y) ≡ bit_xor (bit_number x) (bit_number y)
xor-bit_number true true = refl
xor-bit_number true false = refl
xor-bit_number false true = refl
xor-bit_number false false = refl

pub number_of-sum : (xs ys : List Bool) → length xs ≡ length ys → spelled_number (sum_from_front xs ys) ≡ bit_xor (spelled_number xs) (spelled_number ys)
number_of-sum [] [] h = refl
number_of-sum [] (y ∷ ys) h = absurd (omega arith)
number_of-sum (x ∷ xs) [] h = absurd (omega arith)
number_of-sum (x ∷ xs) (y ∷ ys) h =
    let same : length xs ≡ length ys = omega arith in
    let power : 2 ^ length xs ≡ 2 ^ length ys = ap (λ n. 2 ^ n) same in
    number_of-cons (sum_of_bits x y) (sum_from_front xs ys)
    ∙ rw (length-sum xs ys (omega arith), number_of-sum xs ys same, xor-bit_number x y) refl
    ∙ sym (xor_block (length ys) (bit_number x) (bit_number y) (spelled_number xs) (spelled_number ys) (rw (← power) (number_of-lt xs)) (number_of-lt ys))
    ∙ rw (number_of-cons x xs, number_of-cons y ys, power) refl

pub number_of-not : (xs : List Bool) → spelled_number (map not xs) + spelled_number xs + 1 ≡ 2 ^ length xs
number_of-not [] = refl
number_of-not (true ∷ xs) = omega (arith, number_of-not xs, pow-suc 2 (length xs))
number_of-not (false ∷ xs) = omega (arith, number_of-not xs, pow-suc 2 (length xs), (ap (λ n. 2 ^ n) (length-map xs not)))
