-- The number that decimal digits write, digit by digit.
use Rattle.std.specs.Char.{digit_value, is_ascii_digit}
use Rattle.std.specs.Str.Parse.{digits_value_after}
use Rattle.schedule_text.proofs.Names.{Bool, List, None, Option, Some, [], add-one, all_ascii_digits, ap, arith, cond, drop, drop-cons, false, get_or, length}
use Rattle.schedule_text.proofs.Names.{nat_le, option_if, suc, true, ℕ, ◌&&◌, ◌*◌, ◌+◌, ◌-◌, ◌<◌, ◌∷◌, ◌≡◌, ◌≤◌}

-- the number of the digits read so far and these
abbrev pub onward : ℕ → List ℕ → Option ℕ
onward n word = cond (all_ascii_digits word) (Some (digits_value_after 10 n word)) None

onward_other : (n c : ℕ) (cs : List ℕ) → is_ascii_digit c ≡ false → onward n (c ∷ cs) ≡ None
onward_other n c cs h = ap (λ b. cond (b && all_ascii_digits cs) (Some (digits_value_after 10 n (c ∷ cs))) None) h

-- the next digit of a word
pub onward_at : (n i : ℕ) (word : List ℕ) → i < length word → is_ascii_digit (get_or word i 0) ≡ true
    → onward n (drop i word) ≡ onward (n * 10 + (get_or word i 0 - 48)) (drop (i + 1) word)
onward_at n i word within h = rw (add-one, drop-cons word i 0 within) (grind arith)

-- another letter
pub onward_at_other : (n i : ℕ) (word : List ℕ) → i < length word → is_ascii_digit (get_or word i 0) ≡ false → onward n (drop i word) ≡ None
onward_at_other n i word within h = rw (drop-cons word i 0 within) (onward_other n (get_or word i 0) (drop (suc i) word) h)

-- digits never lessen the number
value_grows : (n : ℕ) (cs : List ℕ) → n ≤ digits_value_after 10 n cs
value_grows n [] = omega arith
value_grows n (c ∷ cs) = omega (arith, value_grows (n * 10 + digit_value c) cs)

above : (t : Bool) (v high : ℕ) → high < v → option_if (λ k. nat_le k high) (cond t (Some v) None) ≡ None
above t v high h = grind arith

-- so a number that is too large stays so
pub onward_above : (n high : ℕ) (cs : List ℕ) → high < n → option_if (λ k. nat_le k high) (onward n cs) ≡ None
onward_above n high cs h = above (all_ascii_digits cs) (digits_value_after 10 n cs) high (omega (arith, value_grows n cs))
