-- Which words are pairs of hexadecimal digits, and how many.
use Rattle.schedule_text.proofs.Names.{AllPass-from_list_all, Err, FromHexError, IfSome, List, None, Ok, Option, Result, Some, [], ap, ap₂, arith, byte_value}
use Rattle.schedule_text.proofs.Names.{bytes_value, decode_of, decode_of-ok, hex_digit_value, is_hex_digit, length, list_all, list_all-from_AllPass}
use Rattle.schedule_text.proofs.Names.{option_and_then, option_map, refl, result_ok, sym, true, ℕ, ◌%◌, ◌*◌, ◌+◌, ◌/◌, ◌<◌, ◌∙◌, ◌∷◌, ◌≡◌, ◌≤◌}
use Rattle.hex.specs.Hex.{decode_pairs, digit_or_error, ◌>>=◌}
use Rattle.hex.proofs.HexLemmas.{decode_of-digits}

-- an even number of digits stands for half as many bytes
pub bytes_of_digits : (word : List ℕ) → length word % 2 ≡ 0 → list_all is_hex_digit word ≡ true
    → option_map length (bytes_value word) ≡ Some (length word / 2)
bytes_of_digits word even digits =
    let read = decode_of-digits word even (AllPass-from_list_all is_hex_digit word digits) in
    rw read.1 (ap Some (omega (arith, (decode_of-ok word read.0 read.1).2)))

-- other words stand for none
no_bytes : (word : List ℕ) (r : Result (List ℕ) FromHexError) → decode_of word ≡ r → (length word % 2 ≡ 0 → list_all is_hex_digit word ≡ true → ⊥)
    → bytes_value word ≡ None
no_bytes word (Ok bytes) e other =
    let read = decode_of-ok word bytes e in
    absurd (other read.0 (list_all-from_AllPass is_hex_digit word read.1))
no_bytes word (Err f) e other = rw e refl

pub bytes_of_others : (word : List ℕ) → (length word % 2 ≡ 0 → list_all is_hex_digit word ≡ true → ⊥) → option_map length (bytes_value word) ≡ None
bytes_of_others word other = ap (option_map length) (no_bytes word (decode_of word) refl other)

-- two digits stand for a byte
abbrev both_read : ℕ → ℕ → Option ℕ → Option ℕ → Result (List ℕ) FromHexError
both_read high low x y = (digit_or_error high 0 x >>= (λ h. digit_or_error low 1 y >>= (λ l. Ok (h * 16 + l)))) >>= (λ byte. Ok (byte ∷ []))

byte_of_two : (high low : ℕ) (x y : Option ℕ) → hex_digit_value high ≡ x → hex_digit_value low ≡ y
    → byte_value (high ∷ low ∷ []) ≡ option_and_then (λ h. option_map (λ l. h * 16 + l) y) x
unfolding decode_pairs
byte_of_two high low x y ex ey = (grind arith) ∙ ap₂ (λ x y. option_and_then (λ h. option_map (λ l. h * 16 + l) y) x) ex ey

pub no_high : (high low : ℕ) → hex_digit_value high ≡ None → None ≡ byte_value (high ∷ low ∷ [])
no_high high low e = sym (byte_of_two high low None (hex_digit_value low) e refl)

pub no_low : (high low h : ℕ) → hex_digit_value high ≡ Some h → hex_digit_value low ≡ None → None ≡ byte_value (high ∷ low ∷ [])
no_low high low h e f = sym (byte_of_two high low (Some h) None e f)

pub two_digits : (high low h l : ℕ) → hex_digit_value high ≡ Some h → hex_digit_value low ≡ Some l → Some (h * 16 + l) ≡ byte_value (high ∷ low ∷ [])
two_digits high low h l e f = sym (byte_of_two high low (Some h) (Some l) e f)

pub byte_of_others : (word : List ℕ) → (length word ≡ 2 → ⊥) → byte_value word ≡ None
byte_of_others word other = grind arith

-- a word of more digits than 64 bytes have, where a word stands for no more
pub too_long : (word : List ℕ) → 64 < length word / 2 → IfSome (bytes_value word) (λ bytes. length bytes ≤ 64) → None ≡ bytes_value word
too_long word long few = go (decode_of word) refl few
  where
    go : (r : Result (List ℕ) FromHexError) → decode_of word ≡ r → IfSome (result_ok r) (λ bytes. length bytes ≤ 64) → None ≡ result_ok r
    go (Ok bytes) e h = let twice = (decode_of-ok word bytes e).2 in let most : length bytes ≤ 64 = h in absurd (omega (arith, twice, most, long))
    go (Err f) e h = refl
