use Rattle.std.proofs.Common.{eqb-true, ltb}
use Rattle.std.proofs.lemmas.Bool.{agree_below, agree_below_at, and_parts}
use Rattle.std.proofs.lemmas.Nat.{and_block}
use Rattle.swp_frame.proofs.Words.{Bool, List, [], ap, ap₂, arith, bit_and, cond, drop, eqb, false, length, length-append, length-map, length-take-le, low_bits}
use Rattle.swp_frame.proofs.Words.{map, min, mod-eq_of_lt, mod_below, not, places_of_marks, places_put_in, pow_pos, refl, spelled_number, subst, suc, sym, take}
use Rattle.swp_frame.proofs.Words.{true, zero, ℕ, ◌%◌, ◌&&◌, ◌*◌, ◌++◌, ◌+◌, ◌-◌, ◌/◌, ◌<◌, ◌^◌, ◌∙◌, ◌∷◌, ◌≡◌, ◌≤◌}
use mir.Val.{bool_byte}
use Rattle.swp_crc.proofs.Numbers.{number_of-lt, number_of-append, number_of-not}
use Rattle.swp_frame.proofs.Places.{length-low_bits, number_of-low_bits, low_bits-number_of, low_bits-between}
use Rattle.swp_frame.proofs.word.Word.new.Goals as goal

-- Which bits of a list stand behind five or six 1 bits, told by the bits that stand one to seven places before each.
-- ---- lists of bits under `&`

abbrev both : List Bool → List Bool → List Bool
both [] ys = []
both (x ∷ xs) [] = []
both (x ∷ xs) (y ∷ ys) = (x && y) ∷ both xs ys

length-both : (xs ys : List Bool) (n : ℕ) → length xs ≡ n → length ys ≡ n → length (both xs ys) ≡ n
length-both [] ys n l m = l
length-both (x ∷ xs) [] n l m = m
length-both (x ∷ xs) (y ∷ ys) zero l m = absurd (omega (arith, l))
length-both (x ∷ xs) (y ∷ ys) (suc n) l m = ap suc (length-both xs ys n (omega (arith, l)) (omega (arith, m)))

number_of-cons : (b : Bool) (bs : List Bool) → spelled_number (b ∷ bs) ≡ bool_byte b * 2 ^ length bs + spelled_number bs
number_of-cons b bs = grind arith

digit-and : (x y : Bool) → bool_byte (x && y) ≡ bit_and (bool_byte x) (bool_byte y)
digit-and x y = grind arith

number_of-both : (xs ys : List Bool) (n : ℕ) → length xs ≡ n → length ys ≡ n → spelled_number (both xs ys) ≡ bit_and (spelled_number xs) (spelled_number ys)
number_of-both [] [] n l m = refl
number_of-both [] (y ∷ ys) n l m = absurd (omega (arith, l, m))
number_of-both (x ∷ xs) [] n l m = absurd (omega (arith, l, m))
number_of-both (x ∷ xs) (y ∷ ys) zero l m = absurd (omega (arith, l))
number_of-both (x ∷ xs) (y ∷ ys) (suc n) l m =
    let left : length xs ≡ n = omega (arith, l) in
    let right : length ys ≡ n = omega (arith, m) in
    number_of-cons (x && y) (both xs ys)
    ∙ rw (length-both xs ys n left right, number_of-both xs ys n left right, digit-and x y) refl
    ∙ sym (and_block n (bool_byte x) (bool_byte y) (spelled_number xs) (spelled_number ys)
    (subst (λ k. spelled_number xs < 2 ^ k) left (number_of-lt xs)) (subst (λ k. spelled_number ys < 2 ^ k) right (number_of-lt ys)))
    ∙ rw (number_of-cons x xs, number_of-cons y ys, left, right) refl

number_of-none : (xs : List Bool) (n : ℕ) → length xs ≡ n → spelled_number (map not xs) ≡ 2 ^ n - 1 - spelled_number xs
number_of-none xs n l = omega (arith, number_of-not xs, ap (λ k. 2 ^ k) l)

-- ---- the bits that stand so many places before each

-- the run of 1 bits at the end of seven bits
abbrev run_of_seven : Bool → Bool → Bool → Bool → Bool → Bool → Bool → ℕ
run_of_seven a b c d e f g = cond g (cond f (cond e (cond d (cond c (cond b (cond a 7 6) 5) 4) 3) 2) 1) 0

same_test : (k ones : ℕ) → k < 7 → eqb ones k ≡ eqb (min 7 ones) k
same_test k ones h = grind arith

five : (a b c d e f g : Bool) → eqb (run_of_seven a b c d e f g) 5 ≡ (((((g && f) && e) && d) && c) && not b)
five a b c d e f g = grind arith

six : (a b c d e f g : Bool) → eqb (run_of_seven a b c d e f g) 6 ≡ ((((((g && f) && e) && d) && c) && b) && not a)
six a b c d e f g = grind arith

one_more : (a b c d e f g : Bool) (ones : ℕ) → min 7 ones ≡ run_of_seven a b c d e f g → min 7 (suc ones) ≡ run_of_seven b c d e f g true
one_more a b c d e f g ones h = grind arith

and_false : (x : Bool) → false ≡ (x && false)
and_false x = grind arith

and_true : (x : Bool) → x ≡ (x && true)
and_true x = grind arith

-- the bits before each, where these stand in front
abbrev earlier : List Bool → List Bool → List Bool
earlier front bits = take (length bits) (front ++ bits)

abbrev behind_five : Bool → Bool → Bool → Bool → Bool → List Bool → List Bool
behind_five c d e f g bits =
    both (both (both (both (earlier (g ∷ []) bits) (earlier (f ∷ g ∷ []) bits)) (earlier (e ∷ f ∷ g ∷ []) bits)) (earlier (d ∷ e ∷ f ∷ g ∷ []) bits))
    (earlier (c ∷ d ∷ e ∷ f ∷ g ∷ []) bits)

put_in_places : (a b c d e f g : Bool) (ones : ℕ) (bits : List Bool) → min 7 ones ≡ run_of_seven a b c d e f g
    → places_put_in ones bits ≡ both (both (behind_five c d e f g bits) (map not (earlier (b ∷ c ∷ d ∷ e ∷ f ∷ g ∷ []) bits))) (map not bits)
put_in_places a b c d e f g ones [] h = refl
put_in_places a b c d e f g ones (true ∷ bits) h =
    ap₂ (λ x xs. x ∷ xs) (and_false (((((g && f) && e) && d) && c) && not b)) (put_in_places b c d e f g true (suc ones) bits (one_more a b c d e f g ones h))
put_in_places a b c d e f g ones (false ∷ bits) h =
    ap₂ (λ x xs. x ∷ xs) (same_test 5 ones (omega arith) ∙ ap (λ n. eqb n 5) h ∙ five a b c d e f g ∙ and_true (((((g && f) && e) && d) && c) && not b))
    (put_in_places b c d e f g false 0 bits refl)

mark_places : (a b c d e f g : Bool) (ones : ℕ) (bits : List Bool) → min 7 ones ≡ run_of_seven a b c d e f g
    → places_of_marks ones bits
    ≡ both (both (behind_five c d e f g bits) (earlier (b ∷ c ∷ d ∷ e ∷ f ∷ g ∷ []) bits)) (map not (earlier (a ∷ b ∷ c ∷ d ∷ e ∷ f ∷ g ∷ []) bits))
mark_places a b c d e f g ones [] h = refl
mark_places a b c d e f g ones (true ∷ bits) h =
    ap₂ (λ x xs. x ∷ xs) (same_test 6 ones (omega arith) ∙ ap (λ n. eqb n 6) h ∙ six a b c d e f g)
    (mark_places b c d e f g true (suc ones) bits (one_more a b c d e f g ones h))
mark_places a b c d e f g ones (false ∷ bits) h =
    ap₂ (λ x xs. x ∷ xs) (same_test 6 ones (omega arith) ∙ ap (λ n. eqb n 6) h ∙ six a b c d e f g)
    (mark_places b c d e f g false 0 bits refl)

-- ---- as numbers

-- the bits so many places before those of a list, as a number
window : (front bits : List Bool) (j k n : ℕ) → length bits ≡ n → length front ≡ j + k
    → spelled_number (take n (drop j (front ++ bits))) ≡ (spelled_number front * 2 ^ n + spelled_number bits) / 2 ^ k % 2 ^ n
window front bits j k n l m =
    let whole : ℕ = spelled_number front * 2 ^ n + spelled_number bits in
    let all : ℕ = j + n + k in
    let same : low_bits all whole ≡ front ++ bits =
    ap (low_bits all) (sym (number_of-append front bits ∙ ap (λ p. spelled_number front * 2 ^ p + spelled_number bits) l))
    ∙ low_bits-number_of (front ++ bits) all (omega (arith, length-append front bits, l, m)) in
    ap (λ xs. spelled_number (take n (drop j xs))) (sym same)
    ∙ ap spelled_number (sym (low_bits-between all j n whole (omega arith)))
    ∙ number_of-low_bits n (whole / 2 ^ (all - (j + n)) % 2 ^ n)
    ∙ mod-eq_of_lt (mod_below (whole / 2 ^ (all - (j + n))) (2 ^ n) (pow_pos n))
    ∙ ap (λ p. whole / 2 ^ p % 2 ^ n) (omega arith)

-- the seven bits in front that have so many 1 bits at their end
abbrev front_bit : ℕ → ℕ → Bool
front_bit ones k = ltb k ones

abbrev front_of_seven : ℕ → List Bool
front_of_seven ones = front_bit ones 6 ∷ front_bit ones 5 ∷ front_bit ones 4 ∷ front_bit ones 3 ∷ front_bit ones 2 ∷ front_bit ones 1 ∷ front_bit ones 0 ∷ []

front_checks : agree_below (λ ones. eqb (spelled_number (front_of_seven ones)) (2 ^ ones - 1) && eqb (min 7 ones) (run_of_seven (front_bit ones 6)
    (front_bit ones 5) (front_bit ones 4) (front_bit ones 3) (front_bit ones 2) (front_bit ones 1) (front_bit ones 0))) (λ ones. true) 8 ≡ true
front_checks = refl

front_right : (ones : ℕ) → ones ≤ 7
    → (spelled_number (front_of_seven ones) ≡ 2 ^ ones - 1)
    × (min 7 ones
    ≡ run_of_seven (front_bit ones 6) (front_bit ones 5) (front_bit ones 4) (front_bit ones 3) (front_bit ones 2) (front_bit ones 1) (front_bit ones 0))
front_right ones h =
    let parts = and_parts _ _ (grind arith) in
    (eqb-true _ _ parts.0, eqb-true _ _ parts.1)

-- the bits that stand so many places before each of a number's, from what the code computes
abbrev before_of : ℕ → ℕ → ℕ → ℕ → ℕ
before_of n x ones k = ((2 ^ ones - 1) * 2 ^ n + x) / 2 ^ k % 2 ^ n

before_right : (n x ones j k : ℕ) → x < 2 ^ n → ones ≤ 7 → 7 ≡ j + k
    → spelled_number (earlier (drop j (front_of_seven ones)) (low_bits n x)) ≡ before_of n x ones k
before_right n x ones j k fits few e =
    let l = length-low_bits n x in
    ap (λ m. spelled_number (take m (drop j (front_of_seven ones) ++ low_bits n x))) l
    ∙ ap (λ xs. spelled_number (take n xs)) (sym (drop-front j (front_of_seven ones) (low_bits n x) (omega (arith, e))))
    ∙ window (front_of_seven ones) (low_bits n x) j k n l e
    ∙ ap₂ (λ p q. (p * 2 ^ n + q) / 2 ^ k % 2 ^ n) (front_right ones few).0 (number_of-low_bits n x ∙ mod-eq_of_lt fits)
  where
    drop-front : (j : ℕ) (xs ys : List Bool) → j ≤ length xs → drop j (xs ++ ys) ≡ drop j xs ++ ys
    drop-front zero xs ys h = refl
    drop-front (suc j) [] ys h = absurd (omega arith)
    drop-front (suc j) (x ∷ xs) ys h = drop-front j xs ys (omega arith)

length-earlier : (front : List Bool) (n x : ℕ) → length (earlier front (low_bits n x)) ≡ n
length-earlier front n x =
    length-take-le (length (low_bits n x)) (front ++ low_bits n x) (omega (arith, length-append front (low_bits n x))) ∙ length-low_bits n x

abbrev five_of : ℕ → ℕ → ℕ → ℕ
five_of n x ones =
    bit_and (bit_and (bit_and (bit_and (before_of n x ones 1) (before_of n x ones 2)) (before_of n x ones 3)) (before_of n x ones 4)) (before_of n x ones 5)

-- the list of bits behind five, and its number
five_right : (n x ones : ℕ) → x < 2 ^ n → ones ≤ 7
    → let list = behind_five (front_bit ones 4) (front_bit ones 3) (front_bit ones 2) (front_bit ones 1) (front_bit ones 0) (low_bits n x) in
    (length list ≡ n) × (spelled_number list ≡ five_of n x ones)
five_right n x ones fits few =
    let one = earlier (drop 6 (front_of_seven ones)) (low_bits n x) in
    let two = earlier (drop 5 (front_of_seven ones)) (low_bits n x) in
    let three = earlier (drop 4 (front_of_seven ones)) (low_bits n x) in
    let four = earlier (drop 3 (front_of_seven ones)) (low_bits n x) in
    let last = earlier (drop 2 (front_of_seven ones)) (low_bits n x) in
    let l1 = length-earlier (drop 6 (front_of_seven ones)) n x in
    let l2 = length-earlier (drop 5 (front_of_seven ones)) n x in
    let l3 = length-earlier (drop 4 (front_of_seven ones)) n x in
    let l4 = length-earlier (drop 3 (front_of_seven ones)) n x in
    let l5 = length-earlier (drop 2 (front_of_seven ones)) n x in
    let l12 = length-both one two n l1 l2 in
    let l123 = length-both (both one two) three n l12 l3 in
    let l1234 = length-both (both (both one two) three) four n l123 l4 in (
      length-both (both (both (both one two) three) four) last n l1234 l5,
      number_of-both (both (both (both one two) three) four) last n l1234 l5
          ∙ ap₂ bit_and
          (number_of-both (both (both one two) three) four n l123 l4
          ∙ ap₂ bit_and
          (number_of-both (both one two) three n l12 l3
          ∙ ap₂ bit_and
          (number_of-both one two n l1 l2 ∙ ap₂ bit_and (before_right n x ones 6 1 fits few refl) (before_right n x ones 5 2 fits few refl))
          (before_right n x ones 4 3 fits few refl))
          (before_right n x ones 3 4 fits few refl))
          (before_right n x ones 2 5 fits few refl),
    )

put_in_number : (n x ones : ℕ) → x < 2 ^ n → ones ≤ 7
    → bit_and (bit_and (five_of n x ones) (2 ^ n - 1 - before_of n x ones 6)) (2 ^ n - 1 - x) ≡ spelled_number (places_put_in ones (low_bits n x))
put_in_number n x ones fits few =
    let bits = low_bits n x in
    let list = behind_five (front_bit ones 4) (front_bit ones 3) (front_bit ones 2) (front_bit ones 1) (front_bit ones 0) bits in
    let sixth = earlier (drop 1 (front_of_seven ones)) bits in
    let behind = five_right n x ones fits few in
    let l6 = length-earlier (drop 1 (front_of_seven ones)) n x in
    let no_six = length-map sixth not ∙ l6 in
    let together = length-both list (map not sixth) n behind.0 no_six in
    sym (ap spelled_number (put_in_places (front_bit ones 6) (front_bit ones 5) (front_bit ones 4) (front_bit ones 3) (front_bit ones 2) (front_bit ones 1)
    (front_bit ones 0) ones bits (front_right ones few).1)
    ∙ number_of-both (both list (map not sixth)) (map not bits) n together (length-map bits not ∙ length-low_bits n x)
    ∙ ap₂ bit_and
    (number_of-both list (map not sixth) n behind.0 no_six
    ∙ ap₂ bit_and behind.1 (number_of-none sixth n l6 ∙ ap (λ m. 2 ^ n - 1 - m) (before_right n x ones 1 6 fits few refl)))
    (number_of-none bits n (length-low_bits n x) ∙ ap (λ m. 2 ^ n - 1 - m) (number_of-low_bits n x ∙ mod-eq_of_lt fits)))

marks_number : (n x ones : ℕ) → x < 2 ^ n → ones ≤ 7
    → bit_and (bit_and (five_of n x ones) (before_of n x ones 6)) (2 ^ n - 1 - before_of n x ones 7) ≡ spelled_number (places_of_marks ones (low_bits n x))
marks_number n x ones fits few =
    let bits = low_bits n x in
    let list = behind_five (front_bit ones 4) (front_bit ones 3) (front_bit ones 2) (front_bit ones 1) (front_bit ones 0) bits in
    let sixth = earlier (drop 1 (front_of_seven ones)) bits in
    let seventh = earlier (front_of_seven ones) bits in
    let behind = five_right n x ones fits few in
    let l6 = length-earlier (drop 1 (front_of_seven ones)) n x in
    let l7 = length-earlier (front_of_seven ones) n x in
    sym (ap spelled_number (mark_places (front_bit ones 6) (front_bit ones 5) (front_bit ones 4) (front_bit ones 3) (front_bit ones 2) (front_bit ones 1)
    (front_bit ones 0) ones bits (front_right ones few).1)
    ∙ number_of-both (both list sixth) (map not seventh) n (length-both list sixth n behind.0 l6) (length-map seventh not ∙ l7)
    ∙ ap₂ bit_and
    (number_of-both list sixth n behind.0 l6 ∙ ap₂ bit_and behind.1 (before_right n x ones 1 6 fits few refl))
    (number_of-none seventh n l7 ∙ ap (λ m. 2 ^ n - 1 - m) (before_right n x ones 0 7 fits few refl)))

abbrev shifted : ℕ → ℕ
shifted ones = (1 * 2 ^ ones % 2 ^ 128 - 1) * 2 ^ 64 % 2 ^ 128

shift_checks : agree_below (λ ones. eqb (shifted ones) ((2 ^ ones - 1) * 2 ^ 64)) (λ ones. true) 8 ≡ true
shift_checks = refl

-- what the call for a place gave
told : (ones x given r k : ℕ) → ones ≤ 7 → given ≡ x → r ≡ (shifted ones + given) / 2 ^ k % 2 ^ 64 → r ≡ before_of 64 x ones k
told ones x given r k few is e =
    let right = eqb-true _ _ (agree_below_at (λ ones. eqb (shifted ones) ((2 ^ ones - 1) * 2 ^ 64)) (λ ones. true) 8 ones shift_checks (omega arith)) in
    e ∙ ap₂ (λ p q. (p + q) / 2 ^ k % 2 ^ 64) right is

pub returns-clause-behind : goal.returns-clause-behind
returns-clause-behind c =
    let x = c.args.bits in
    let ones = c.args.ones in
    let b1 = told ones x c.from.result c.before-2.result 1 c.requires c.from.ensures c.before-2.ensures in
    let b2 = told ones x c.from.result c.before-3.result 2 c.requires c.from.ensures c.before-3.ensures in
    let b3 = told ones x c.from.result c.before-4.result 3 c.requires c.from.ensures c.before-4.ensures in
    let b4 = told ones x c.from.result c.before-5.result 4 c.requires c.from.ensures c.before-5.ensures in
    let b5 = told ones x c.from.result c.before-6.result 5 c.requires c.from.ensures c.before-6.ensures in
    let b6 = told ones x c.from.result c.before-six.result 6 c.requires c.from.ensures c.before-six.ensures in
    let b7 = told ones x c.from.result c.before-7.result 7 c.requires c.from.ensures c.before-7.ensures in
    let five = ap₂ bit_and (ap₂ bit_and (ap₂ bit_and (ap₂ bit_and b1 b2) b3) b4) b5 in
    record {
      marks =
          ap₂ bit_and (ap₂ bit_and five b6) (ap (λ m. 2 ^ 64 - 1 - m) b7)
          ∙ marks_number 64 x ones c.ranges.bits.fits c.requires;
      put_in =
          ap (λ m. bit_and m (2 ^ 64 - 1 - x)) (ap₂ bit_and five (ap (λ m. 2 ^ 64 - 1 - m) b6))
          ∙ put_in_number 64 x ones c.ranges.bits.fits c.requires;
    }
