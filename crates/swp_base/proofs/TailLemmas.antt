-- Lemmas on the last two bytes of a list.
use Rattle.std.proofs.Common.{◌≡◌, ℕ, suc, List, [], ◌∷◌, ◌++◌, length, take, get_or, refl, ap}

pub in_front_of_two : (lpdu : List ℕ) (high low : ℕ) → take (length lpdu) (lpdu ++ high ∷ low ∷ []) ≡ lpdu
in_front_of_two [] high low = refl
in_front_of_two (x ∷ lpdu) high low = ap (λ xs. x ∷ xs) (in_front_of_two lpdu high low)

pub first_of_two : (lpdu : List ℕ) (high low : ℕ) → get_or (lpdu ++ high ∷ low ∷ []) (length lpdu) 0 ≡ high
first_of_two [] high low = refl
first_of_two (x ∷ lpdu) high low = first_of_two lpdu high low

pub second_of_two : (lpdu : List ℕ) (high low : ℕ) → get_or (lpdu ++ high ∷ low ∷ []) (suc (length lpdu)) 0 ≡ low
second_of_two [] high low = refl
second_of_two (x ∷ lpdu) high low = second_of_two lpdu high low
