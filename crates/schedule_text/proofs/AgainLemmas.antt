-- What is written is read again.
use Rattle.std.specs.Char.{is_ascii_digit}
use Rattle.std.specs.Str.Parse.{digits_value}
use Rattle.std.proofs.lemmas.Fmt.{decimal_nonempty, first_decimal, digits_decimal, digits_value-decimal}
use Rattle.std.proofs.lemmas.Str.Parse.{IsNumeralModel, numerals_by_value}
use Rattle.std.proofs.lemmas.List.Splits.{slice_split_none, slice_split_at}
use Rattle.std.proofs.Math.ListN.{get_or-eq_default}
use Rattle.schedule_text.proofs.Names.{All, AllByRecursion, AllPass-from_list_all, Bool, End, List, Some, [], all_ascii_digits, ap, arith, byte_text}
use Rattle.schedule_text.proofs.Names.{byte_value, bytes_value, cond, decimal, decode_sized-twice, encode_upper, end_text, end_value, false, filter, get_or}
use Rattle.schedule_text.proofs.Names.{length, length-encode_with, list_all, nat_lt, nat_tests, number_value, refl, rules, side_value, slice_index, slice_split}
use Rattle.schedule_text.proofs.Names.{spaced, subst, suc, sym, true, upper_digits, words, zero, ℕ, ◌%◌, ◌*◌, ◌++◌, ◌/◌, ◌<◌, ◌^◌, ◌∙◌, ◌∷◌, ◌≡◌, ◌≤◌}
use Rattle.hex.specs.Hex.{IsBytes, encode_with}
use Rattle.hex.proofs.HexLemmas.{decode_of-encode_upper}
use Rattle.schedule_text.specs.Values.{is_bad_front}
use Rattle.schedule_text.proofs.WordsLemmas.{is_space, is_letter, kept}

-- a word of letters
abbrev pub IsWord : List ℕ → Type 0
IsWord word = (0 < length word) × (list_all is_letter word ≡ true)

no_spaces : (word : List ℕ) → list_all is_letter word ≡ true → All (λ b. is_space b ≡ false) word
no_spaces word h = λ k d within. (let h0 = (AllPass-from_list_all is_letter word h k d within) in grind arith)

-- words with one space between them are those words
pub words-spaced : (ws : List (List ℕ)) → AllByRecursion IsWord ws → words (spaced ws) ≡ ws
words-spaced [] h = refl
words-spaced (w ∷ []) h =
    ap (λ parts. filter (λ word. nat_lt 0 (length word)) parts) (slice_split_none is_space w (no_spaces w h.0.1)) ∙ kept w [] h.0.0
words-spaced (w ∷ v ∷ ws) h =
    ap (λ parts. filter (λ word. nat_lt 0 (length word)) parts) (slice_split_at is_space w 32 (spaced (v ∷ ws)) (no_spaces w h.0.1) refl)
    ∙ kept w (slice_split is_space (spaced (v ∷ ws))) h.0.0 ∙ ap (λ vs. w ∷ vs) (words-spaced (v ∷ ws) h.1)

pub by_size : (P : Type 0) (k n : ℕ) (t : Bool) → nat_lt k n ≡ t → (k < n → P) → (n ≤ k → P) → P
by_size P k n t e below above = grind arith

-- a hexadecimal digit is a letter
hex_letter : (k : ℕ) → is_letter (slice_index upper_digits k) ≡ true
hex_letter k = grind arith

hex_letters : (xs : List ℕ) → list_all is_letter (encode_upper xs) ≡ true
unfolding encode_with
hex_letters [] = refl
hex_letters (x ∷ xs) = rw (hex_letter (x / 16), hex_letter (x % 16)) (hex_letters xs)

pub length-hex : (xs : List ℕ) → length (encode_upper xs) ≡ 2 * length xs
length-hex xs = length-encode_with upper_digits xs

pub hex_word : (xs : List ℕ) → 0 < length xs → IsWord (encode_upper xs)
hex_word xs some = (omega (arith, length-hex xs), hex_letters xs)

-- a byte is read again
one_byte : (b : ℕ) → b < 256 → IsBytes (b ∷ [])
one_byte b h zero = h
one_byte b h (suc i) = omega arith

pub byte_again : (b : ℕ) → b < 256 → byte_value (byte_text b) ≡ Some b
byte_again b h =
    let sized : length (byte_text b) ≡ 2 * 1 = length-hex (b ∷ []) in
    rw (decode_sized-twice (byte_text b) 1 sized ∙ decode_of-encode_upper (b ∷ []) (one_byte b h)) refl

byte_digits : (b : ℕ) → byte_text b ≡ slice_index upper_digits (b / 16) ∷ slice_index upper_digits (b % 16) ∷ []
unfolding encode_with
byte_digits b = refl

side_again : (at_host : Bool) → side_value (cond at_host 104 99) ≡ Some at_host
side_again at_host = grind arith

pub end_again : (e : End) → e.link < 256 → end_value (end_text e) ≡ Some e
end_again e h =
    ap (λ digits. end_value (digits ++ cond e.at_host 104 99 ∷ [])) (byte_digits e.link)
    ∙ (rw ((sym (ap byte_value (byte_digits e.link)) ∙ byte_again e.link h), side_again e.at_host) refl)

side_letter : (at_host : Bool) → is_letter (cond at_host 104 99) ≡ true
side_letter at_host = grind arith

end_letters : (e : End) → IsWord (slice_index upper_digits (e.link / 16) ∷ slice_index upper_digits (e.link % 16) ∷ cond e.at_host 104 99 ∷ [])
end_letters e = (omega arith, rw (hex_letter (e.link / 16), hex_letter (e.link % 16), side_letter e.at_host) refl)

pub end_word : (e : End) → IsWord (end_text e)
end_word e = subst (λ digits. IsWord (digits ++ cond e.at_host 104 99 ∷ [])) (sym (byte_digits e.link)) (end_letters e)

-- a message is read again
all_bytes : (xs : List ℕ) → All (λ b. b < 256) xs → IsBytes xs
all_bytes xs h =
    λ k. by_size (slice_index xs k < 256) k (length xs) (nat_lt k (length xs)) refl (λ within. h k 0 within)
    (λ past. subst (λ b. b < 256) (sym (get_or-eq_default xs 0 past)) (omega arith))

pub bytes_again : (xs : List ℕ) → All (λ b. b < 256) xs → bytes_value (encode_upper xs) ≡ Some xs
bytes_again xs h = rw (decode_of-encode_upper xs (all_bytes xs h)) refl

-- a number is read again
pub own : IsNumeralModel (λ ds. all_ascii_digits ds ≡ true) (digits_value 10)
own = numerals_by_value _ (search rules)

number_digits : (n : ℕ) → n < 2 ^ 64 → all_ascii_digits (decimal n) ≡ true
number_digits n h = digits_decimal own n h

good_front : (word : List ℕ) → 0 < length word → 48 < get_or word 0 0 → is_bad_front word ≡ false
good_front word some first = grind (arith, nat_tests)

pub number_again : (n : ℕ) → 0 < n → n < 2 ^ 64 → number_value (decimal n) ≡ Some n
number_again n some fits =
    rw (good_front (decimal n) (decimal_nonempty n fits) (first_decimal n some fits), number_digits n fits, digits_value-decimal own n fits) refl

digit_letters : (ds : List ℕ) → all_ascii_digits ds ≡ true → list_all is_letter ds ≡ true
digit_letters [] h = refl
digit_letters (c ∷ cs) h = (let h0 = (is_ascii_digit c) in let h1 = (digit_letters cs) in grind arith)

pub number_word : (n : ℕ) → n < 2 ^ 64 → IsWord (decimal n)
number_word n h = (decimal_nonempty n h, digit_letters (decimal n) (number_digits n h))
