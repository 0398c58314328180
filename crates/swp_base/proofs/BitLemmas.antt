-- Lemmas on the bits of bytes.
use Rattle.std.proofs.Common.{◌≡◌, ℕ, ◌*◌, List, [], ◌∷◌, ◌++◌, length, refl, ap, sym, ◌∙◌, arith, append_assoc, length-append}
use Rattle.swp_base.specs.Bits.{bits_of_byte, bits_of}

pub length-bits_of_byte : (b : ℕ) → length (bits_of_byte b) ≡ 8
unfolding bits_of_byte
length-bits_of_byte b = refl

pub bits_of-append : (xs ys : List ℕ) → bits_of (xs ++ ys) ≡ bits_of xs ++ bits_of ys
bits_of-append [] ys = refl
bits_of-append (x ∷ xs) ys = ap (λ bs. bits_of_byte x ++ bs) (bits_of-append xs ys) ∙ sym (append_assoc (bits_of_byte x) (bits_of xs) (bits_of ys))

pub length-bits_of : (xs : List ℕ) → length (bits_of xs) ≡ 8 * length xs
length-bits_of [] = refl
length-bits_of (x ∷ xs) = length-append (bits_of_byte x) (bits_of xs) ∙ omega (arith, length-bits_of_byte x, length-bits_of xs)
