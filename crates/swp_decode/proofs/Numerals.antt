-- Decimal and hexadecimal digits.
use Rattle.std.proofs.Common.{length-take, ltb, ltb-true}
use Rattle.std.proofs.lemmas.Bool.{and_parts}
use Rattle.std.proofs.lemmas.Fmt.{decimal_step}
use Rattle.std.specs.Fmt.{digit_glyph}
use Rattle.swp_decode.proofs.Names.{List, [], agree_below, agree_below_at, ap, append_assoc, ap₂, arith, decimal, decimal_digit, eqb, eqb-true, get_or, hex_of}
use Rattle.swp_decode.proofs.Names.{length, length-append, refl, sym, take, true, ℕ, ◌%◌, ◌&&◌, ◌*◌, ◌++◌, ◌+◌, ◌/◌, ◌<◌, ◌^◌, ◌∙◌, ◌∷◌, ◌≡◌, ◌≤◌}
use Rattle.swp_decode.specs.declared.words.TheConstants.{DECIMAL_PAIRS, PAIRS}

pair_checks : agree_below (λ n. eqb (get_or DECIMAL_PAIRS n 0) (48 + n / 10 + 256 * (48 + n % 10))) (λ n. true) 100 ≡ true
pair_checks = refl

-- the table has the two digits of each number below 100
pair_right : (n : ℕ) → n < 100 → get_or DECIMAL_PAIRS n 0 ≡ 48 + n / 10 + 256 * (48 + n % 10)
pair_right n h = eqb-true _ _ (agree_below_at (λ n. eqb (get_or DECIMAL_PAIRS n 0) (48 + n / 10 + 256 * (48 + n % 10))) (λ n. true) 100 n pair_checks h)

pub first_of_pair : (n : ℕ) → n < 100 → get_or DECIMAL_PAIRS n 0 % 256 ≡ 48 + n / 10
first_of_pair n h = omega (arith, pair_right n h, h)

pub second_of_pair : (n : ℕ) → n < 100 → get_or DECIMAL_PAIRS n 0 / 256 % 256 ≡ 48 + n % 10
second_of_pair n h = omega (arith, pair_right n h, h)

-- the last two digits of a number
abbrev last_two : ℕ → List ℕ
last_two n = (48 + n / 10 % 10) ∷ (48 + n % 10) ∷ []

-- the four digits of a number below 10,000, its leading zeros too
abbrev pub four_digits : ℕ → List ℕ
four_digits n = (48 + n / 1000) ∷ (48 + n / 100 % 10) ∷ (48 + n / 10 % 10) ∷ (48 + n % 10) ∷ []

hundreds_apart : (n : ℕ) → 100 ≤ n → n < 2 ^ 32 → decimal n ≡ decimal (n / 100) ++ last_two n
hundreds_apart n h small =
    decimal_step n (omega (arith, h)) (omega (arith, small))
    ∙ ap (λ xs. xs ++ (48 + n % 10) ∷ []) (decimal_step (n / 10) (omega (arith, h)) (omega (arith, small)))
    ∙ append_assoc (decimal (n / 10 / 10)) ((48 + n / 10 % 10) ∷ []) ((48 + n % 10) ∷ [])
    ∙ ap (λ m. decimal m ++ last_two n) (omega arith)

pub two_digits_of : (n : ℕ) → 10 ≤ n → n < 100 → decimal n ≡ (48 + n / 10) ∷ (48 + n % 10) ∷ []
two_digits_of n h small =
    decimal_step n h (omega (arith, small))
    ∙ ap (λ xs. xs ++ (48 + n % 10) ∷ []) (decimal_digit (n / 10) (omega (arith, small)))

pub three_digits_of : (n : ℕ) → 100 ≤ n → n < 1000 → decimal n ≡ (48 + n / 100) ∷ (48 + n % 100 / 10) ∷ (48 + n % 100 % 10) ∷ []
three_digits_of n h small =
    hundreds_apart n h (omega (arith, small))
    ∙ ap (λ xs. xs ++ last_two n) (decimal_digit (n / 100) (omega (arith, small)))
    ∙ ap₂ (λ a b. (48 + n / 100) ∷ (48 + a) ∷ (48 + b) ∷ []) (omega arith) (omega arith)

pub four_digits_of : (n : ℕ) → 1000 ≤ n → n < 10000 → decimal n ≡ four_digits n
four_digits_of n h small =
    hundreds_apart n (omega (arith, h)) (omega (arith, small))
    ∙ ap (λ xs. xs ++ last_two n) (two_digits_of (n / 100) (omega (arith, h)) (omega (arith, small)))
    ∙ ap (λ a. (48 + a) ∷ (48 + n / 100 % 10) ∷ last_two n) (omega arith)

-- what stands before the last four digits, and these
pub more_digits_of : (n : ℕ) → 10000 ≤ n → n < 2 ^ 32 → decimal n ≡ decimal (n / 10000) ++ four_digits (n % 10000)
more_digits_of n h small =
    hundreds_apart n (omega (arith, h)) small
    ∙ ap (λ xs. xs ++ last_two n) (hundreds_apart (n / 100) (omega (arith, h)) (omega (arith, small)))
    ∙ append_assoc (decimal (n / 100 / 100)) (last_two (n / 100)) (last_two n)
    ∙ ap (λ m. decimal m ++ (last_two (n / 100) ++ last_two n)) (omega arith)
    ∙ ap₂ (λ a b. decimal (n / 10000) ++ (48 + a) ∷ (48 + b) ∷ last_two n) (omega arith) (omega arith)
    ∙ ap₂ (λ a b. decimal (n / 10000) ++ (48 + n % 10000 / 1000) ∷ (48 + n % 10000 / 100 % 10) ∷ (48 + a) ∷ (48 + b) ∷ []) (omega arith) (omega arith)

-- ---- bytes in hexadecimal, one after another

hex_pair_checks : agree_below (λ b. eqb (get_or PAIRS b 0) (digit_glyph true (b / 16) + 256 * digit_glyph true (b % 16)) &&
    (ltb (digit_glyph true (b / 16)) 256 && ltb (digit_glyph true (b % 16)) 256)) (λ b. true) 256 ≡ true
hex_pair_checks = refl

hex_pair_right : (b : ℕ) → b < 256
    → (get_or PAIRS b 0 ≡ digit_glyph true (b / 16) + 256 * digit_glyph true (b % 16)) × ((digit_glyph true (b / 16) < 256) × (digit_glyph true (b % 16) < 256))
hex_pair_right b h =
    let parts = and_parts _ _ (agree_below_at (λ b. eqb (get_or PAIRS b 0) (digit_glyph true (b / 16) + 256 * digit_glyph true (b % 16)) &&
    (ltb (digit_glyph true (b / 16)) 256 && ltb (digit_glyph true (b % 16)) 256)) (λ b. true) 256 b hex_pair_checks h) in
    let small = and_parts _ _ parts.1 in
    (eqb-true _ _ parts.0, (ltb-true _ _ small.0, ltb-true _ _ small.1))

-- the table has the two digits of each byte
pub pairs_are : (b : ℕ) → b < 256 → get_or PAIRS b 0 ≡ digit_glyph true (b / 16) + 256 * digit_glyph true (b % 16)
pairs_are b h = (hex_pair_right b h).0

-- the two digits, from the pair
pub first_digit : (pair b : ℕ) → b < 256 → pair ≡ digit_glyph true (b / 16) + 256 * digit_glyph true (b % 16) → pair % 256 ≡ digit_glyph true (b / 16)
first_digit pair b h e = omega (arith, e, (hex_pair_right b h).1.0)

pub second_digit : (pair b : ℕ) → b < 256 → pair ≡ digit_glyph true (b / 16) + 256 * digit_glyph true (b % 16) → pair / 256 % 256 ≡ digit_glyph true (b % 16)
second_digit pair b h e = omega (arith, e, (hex_pair_right b h).1.0, (hex_pair_right b h).1.1)

pub length-hex_of : (bytes : List ℕ) → length (hex_of bytes) ≡ 2 * length bytes
length-hex_of [] = refl
length-hex_of (b ∷ bytes) = omega (arith, length-hex_of bytes)

pub hex_of-append : (bytes more : List ℕ) → hex_of (bytes ++ more) ≡ hex_of bytes ++ hex_of more
hex_of-append [] more = refl
hex_of-append (b ∷ bytes) more = ap (λ xs. digit_glyph true (b / 16) ∷ digit_glyph true (b % 16) ∷ xs) (hex_of-append bytes more)

-- further bytes of a text
pub hex_more : (text bytes more : List ℕ) → (text ++ hex_of bytes) ++ hex_of more ≡ text ++ hex_of (bytes ++ more)
hex_more text bytes more = append_assoc text (hex_of bytes) (hex_of more) ∙ ap (λ xs. text ++ xs) (sym (hex_of-append bytes more))

-- there is room for the digits of some of the bytes that are left
pub room_of : (text bytes new : List ℕ) (i more : ℕ) → new ≡ text ++ hex_of (take i bytes) → i + more ≤ length bytes
    → length text + 2 * length bytes ≤ 8192 → length new + 2 * more ≤ 8192
room_of text bytes new i more e h room =
    omega (arith, ap length e, length-append text (hex_of (take i bytes)), length-hex_of (take i bytes), length-take i bytes)

pub four_parts : (text a b c d : List ℕ) → (((text ++ a) ++ b) ++ c) ++ d ≡ text ++ (((a ++ b) ++ c) ++ d)
four_parts text a b c d = simp append_assoc
