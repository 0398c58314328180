-- The table of the two digits of each byte.
use Rattle.std.proofs.Common.{◌≡◌, ℕ, Bool, List, [], ◌∷◌, ◌/◌, ◌%◌, ◌<◌, ◌&&◌, true, eqb, eqb-true, get_or, length, slice_index, refl, sym, ◌∙◌, ap₂}
use Rattle.std.proofs.lemmas.Bool.{agree_below, agree_below_at, and_parts}
use Rattle.hex.specs.Hex.{encode_with, encode_upper, upper_digits}
use Rattle.schedule_text.specs.declared.text.TheConstants.{PAIRS}
use Rattle.schedule_text.proofs.GrowthLemmas.{two_are}

-- the digits of a byte in the table
abbrev pair_at : ℕ → List ℕ
pair_at b = get_or PAIRS b []

abbrev is_right : ℕ → Bool
is_right b =
    eqb (length (pair_at b)) 2 &&
    (eqb (get_or (pair_at b) 0 0) (slice_index upper_digits (b / 16)) && eqb (get_or (pair_at b) 1 0) (slice_index upper_digits (b % 16)))

pair_checks : agree_below is_right (λ b. true) 256 ≡ true
pair_checks = refl

-- the two digits of a byte, from the table
pub pair_is : (b : ℕ) → b < 256 → get_or PAIRS b [] ≡ encode_upper (b ∷ [])
unfolding encode_with
pair_is b h =
    let right = and_parts _ _ (agree_below_at is_right (λ b. true) 256 b pair_checks h) in
    let digits = and_parts _ _ right.1 in
    sym (two_are (pair_at b) (eqb-true _ _ right.0)) ∙ ap₂ (λ x y. x ∷ y ∷ []) (eqb-true _ _ digits.0) (eqb-true _ _ digits.1)
