-- What one word of a line stands for.
use Rattle.std.specs.Prelude.{ℕ, ◌+◌, ◌*◌, ◌==◌, ◌&&◌, ◌||◌, nat_le, nat_lt, Bool, true, false, if◌then◌else◌, List, [], ◌∷◌, length, slice_index}
use Rattle.std.specs.Prelude.{Option, Some, None}
use Rattle.std.specs.Option.{option_map, option_and_then}
use Rattle.std.specs.Result.{result_ok}
use Rattle.std.specs.Str.{all_ascii_digits}
use Rattle.std.specs.Str.Parse.{digits_value}
use Rattle.hex.specs.Hex.{decode_of, decode_sized}
use Rattle.trace_model.specs.declared.line.End.{End}

-- the value, if it passes the test
abbrev pub option_if : (ℕ → Bool) → Option ℕ → Option ℕ
option_if test None = None
option_if test (Some n) = if test n then Some n else None

-- the byte of two hexadecimal digits
abbrev pub byte_value : List ℕ → Option ℕ
byte_value word = option_map (λ bytes. slice_index bytes 0) (result_ok (decode_sized word 1))

-- the bytes of pairs of hexadecimal digits
abbrev pub bytes_value : List ℕ → Option (List ℕ)
bytes_value word = result_ok (decode_of word)

-- the bytes of so many pairs of hexadecimal digits
abbrev pub sized_value : ℕ → List ℕ → Option (List ℕ)
sized_value n word = result_ok (decode_sized word n)

-- two bytes as a number, the high byte first
abbrev pub two_bytes : List ℕ → ℕ
two_bytes bytes = slice_index bytes 0 * 256 + slice_index bytes 1

abbrev pub two_bytes_value : List ℕ → Option ℕ
two_bytes_value word = option_map two_bytes (sized_value 2 word)

-- the number that decimal digits write, leading zeros and no digits at all allowed
abbrev pub digits_number : List ℕ → Option ℕ
digits_number word = if all_ascii_digits word then Some (digits_value 10 word) else None

-- a 0 in front of other digits, or no digit
abbrev pub is_bad_front : List ℕ → Bool
is_bad_front word = length word == 0 || (slice_index word 0 == 48 && nat_lt 1 (length word))

-- the decimal number of a word, without leading zero
abbrev pub number_value : List ℕ → Option ℕ
number_value word = if is_bad_front word then None else digits_number word

-- the same, if it is from `low` to `high`
abbrev pub number_in : ℕ → ℕ → List ℕ → Option ℕ
number_in low high word = option_if (λ n. nat_le low n && nat_le n high) (number_value word)

-- the letter of a link's end: `c` for the controller's, `h` for the host's
abbrev pub side_value : ℕ → Option Bool
side_value letter = if letter == 99 then Some false else if letter == 104 then Some true else None

-- the end that two hexadecimal digits and a letter name
abbrev pub end_value : List ℕ → Option End
end_value (a ∷ b ∷ letter ∷ []) =
    option_and_then (λ link. option_map (λ at_host. record { link = link; at_host = at_host }) (side_value letter)) (byte_value (a ∷ b ∷ []))
end_value word = None
