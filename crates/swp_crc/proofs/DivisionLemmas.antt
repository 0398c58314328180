-- Division over two elements is linear.
use Rattle.std.proofs.Common.{◌≡◌, ℕ, suc, zero, ◌+◌, ◌≤◌, Bool, true, false, List, [], ◌∷◌, ◌++◌, length, drop, replicate, refl, sym, ap, ◌∙◌, arith, zero-add}
use Rattle.std.proofs.Common.{suc-add}
use Rattle.swp_crc.specs.Division.{sum_of_bits, sum_from_front, divisor, divided}

pub sum_of_bits_comm : (a b : Bool) → sum_of_bits a b ≡ sum_of_bits b a
sum_of_bits_comm true true = refl
sum_of_bits_comm true false = refl
sum_of_bits_comm false true = refl
sum_of_bits_comm false false = refl

pub sum_of_bits_assoc : (a b c : Bool) → sum_of_bits (sum_of_bits a b) c ≡ sum_of_bits a (sum_of_bits b c)
sum_of_bits_assoc true true true = refl
sum_of_bits_assoc true true false = refl
sum_of_bits_assoc true false c = refl
sum_of_bits_assoc false b c = refl

pub sum_none : (xs : List Bool) → sum_from_front xs [] ≡ xs
sum_none [] = refl
sum_none (x ∷ xs) = refl

pub sum_comm : (xs ys : List Bool) → sum_from_front xs ys ≡ sum_from_front ys xs
sum_comm [] ys = sym (sum_none ys)
sum_comm (x ∷ xs) [] = refl
sum_comm (x ∷ xs) (y ∷ ys) = rw (sum_of_bits_comm x y, sum_comm xs ys) refl

pub sum_assoc : (xs ys zs : List Bool) → sum_from_front (sum_from_front xs ys) zs ≡ sum_from_front xs (sum_from_front ys zs)
sum_assoc [] ys zs = refl
sum_assoc (x ∷ xs) [] zs = refl
sum_assoc (x ∷ xs) (y ∷ ys) [] = refl
sum_assoc (x ∷ xs) (y ∷ ys) (z ∷ zs) = rw (sum_of_bits_assoc x y z, sum_assoc xs ys zs) refl

pub sum_zeros : (n : ℕ) (xs : List Bool) → n ≤ length xs → sum_from_front (replicate n false) xs ≡ xs
sum_zeros zero xs h = refl
sum_zeros (suc n) [] h = absurd (omega arith)
sum_zeros (suc n) (x ∷ xs) h = let shorter : n ≤ length xs = omega arith in ap (λ ys. x ∷ ys) (sum_zeros n xs shorter)

pub length-sum : (xs ys : List Bool) → length xs ≤ length ys → length (sum_from_front xs ys) ≡ length ys
length-sum [] ys h = refl
length-sum (x ∷ xs) [] h = absurd (omega arith)
length-sum (x ∷ xs) (y ∷ ys) h = let shorter : length xs ≤ length ys = omega arith in ap suc (length-sum xs ys shorter)

-- a sum is no shorter than its first list
pub at_least : (n : ℕ) (xs ys : List Bool) → n ≤ length xs → n ≤ length (sum_from_front xs ys)
at_least zero xs ys h = omega arith
at_least (suc n) [] ys h = absurd (omega arith)
at_least (suc n) (x ∷ xs) [] h = h
at_least (suc n) (x ∷ xs) (y ∷ ys) h = let shorter : n ≤ length xs = omega arith in omega (arith, at_least n xs ys shorter)

-- the divisor below its highest coefficient
abbrev tail : List Bool
tail = drop 1 divisor

-- two steps that both subtract leave the sum
twice : (xs ys : List Bool) → 16 ≤ length xs → 16 ≤ length ys → sum_from_front (sum_from_front tail xs) (sum_from_front tail ys) ≡ sum_from_front xs ys
twice xs ys a b =
    sum_assoc tail xs (sum_from_front tail ys)
    ∙ ap (sum_from_front tail) (sum_comm xs (sum_from_front tail ys) ∙ sum_assoc tail ys xs)
    ∙ sym (sum_assoc tail tail (sum_from_front ys xs))
    ∙ sum_zeros 16 (sum_from_front ys xs) (at_least 16 ys xs b)
    ∙ sum_comm ys xs

pub divided_sum : (n : ℕ) (xs ys : List Bool) → n + 16 ≤ length xs → n + 16 ≤ length ys
    → divided n (sum_from_front xs ys) ≡ sum_from_front (divided n xs) (divided n ys)
divided_sum zero xs ys a b = refl
divided_sum (suc n) [] ys a b = absurd (omega arith)
divided_sum (suc n) (x ∷ xs) [] a b = absurd (omega arith)
divided_sum (suc n) (true ∷ xs) (true ∷ ys) a b =
    ap (divided n) (sym (twice xs ys (omega arith) (omega arith)))
    ∙ divided_sum n (sum_from_front tail xs) (sum_from_front tail ys) (long xs a) (long ys b)
  where
    long : (zs : List Bool) → suc n + 16 ≤ length (true ∷ zs) → n + 16 ≤ length (sum_from_front tail zs)
    long zs h = rw (sum_comm tail zs) (at_least (n + 16) zs tail (omega arith))
divided_sum (suc n) (true ∷ xs) (false ∷ ys) a b =
    ap (divided n) (sym (sum_assoc tail xs ys))
    ∙ divided_sum n (sum_from_front tail xs) ys (rw (sum_comm tail xs) (at_least (n + 16) xs tail (omega arith))) (omega arith)
divided_sum (suc n) (false ∷ xs) (true ∷ ys) a b =
    ap (divided n) (sym (sum_assoc tail xs ys) ∙ ap (λ zs. sum_from_front zs ys) (sum_comm tail xs) ∙ sum_assoc xs tail ys)
    ∙ divided_sum n xs (sum_from_front tail ys) (omega arith) (rw (sum_comm tail ys) (at_least (n + 16) ys tail (omega arith)))
divided_sum (suc n) (false ∷ xs) (false ∷ ys) a b = divided_sum n xs ys (omega arith) (omega arith)

divided-[] : (n : ℕ) → divided n [] ≡ []
divided-[] zero = refl
divided-[] (suc n) = refl

-- steps in two parts
pub divided-+ : (m n : ℕ) (xs : List Bool) → divided (m + n) xs ≡ divided n (divided m xs)
divided-+ zero n xs = rw zero-add refl
divided-+ (suc m) n [] = rw suc-add (sym (divided-[] n))
divided-+ (suc m) n (true ∷ xs) = rw suc-add (divided-+ m n (sum_from_front tail xs))
divided-+ (suc m) n (false ∷ xs) = rw suc-add (divided-+ m n xs)

-- zeros in front leave what is behind them
pub divided-zeros : (n : ℕ) (xs : List Bool) → divided n (replicate n false ++ xs) ≡ xs
divided-zeros zero xs = refl
divided-zeros (suc n) xs = divided-zeros n xs

-- what is left has the length that is behind the divided places
pub length-divided : (n : ℕ) (xs : List Bool) → n + 16 ≤ length xs → n + length (divided n xs) ≡ length xs
length-divided zero xs h = omega arith
length-divided (suc n) [] h = absurd (omega arith)
length-divided (suc n) (true ∷ xs) h =
    let same : length (sum_from_front tail xs) ≡ length xs = length-sum tail xs (omega arith) in
    omega (arith, length-divided n (sum_from_front tail xs) (omega arith), same)
length-divided (suc n) (false ∷ xs) h =
    let enough : n + 16 ≤ length xs = omega arith in omega (arith, length-divided n xs enough)
