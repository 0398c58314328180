-- One more byte of a CRC under way.
use Rattle.std.proofs.Common.{◌≡◌, ℕ, suc, zero, ◌+◌, ◌-◌, ◌*◌, ◌/◌, ◌%◌, ◌^◌, ◌≤◌, ◌<◌, Bool, true, false, not, List, [], ◌∷◌, ◌++◌, length, drop, take}
use Rattle.std.proofs.Common.{replicate, refl, sym, ap, ◌∙◌, arith, length-append, append_assoc, length-take, length-drop, take-append-drop, append-nil, subst}
use Rattle.std.proofs.Math.ListN.{length-replicate}
use Rattle.std.specs.Int.Bits.{bit_xor}
use Rattle.swp_base.specs.Bits.{bits_of, bits_of_byte}
use Rattle.swp_base.proofs.BitLemmas.{length-bits_of_byte}
use Rattle.swp_crc.specs.Division.{sum_of_bits, sum_from_front, divided, spelled_number}
use Rattle.swp_crc.specs.Crc.{zeros, complement_first, remainder_of, crc_of, table_entry}
use Rattle.swp_crc.specs.Running.{running_of}
use Rattle.swp_crc.proofs.DivisionLemmas.{sum_comm, sum_assoc, sum_zeros, length-sum, divided_sum, divided-+, divided-zeros, length-divided}
use Rattle.swp_crc.proofs.Numbers.{number_of-append, number_of-injective, number_of-sum, number_of-not, number_of-lt}
use Rattle.swp_crc.proofs.Entries.{number_of_byte}

pub bits_of-push : (bytes : List ℕ) (b : ℕ) → bits_of (bytes ++ b ∷ []) ≡ bits_of bytes ++ bits_of_byte b
bits_of-push [] b = append-nil (bits_of_byte b)
bits_of-push (x ∷ bytes) b = rw (bits_of-push bytes b) (sym (append_assoc (bits_of_byte x) (bits_of bytes) (bits_of_byte b)))

-- complemented is added to ones
complement-sum : (n : ℕ) (xs : List Bool) → n ≤ length xs → complement_first n xs ≡ sum_from_front (replicate n true) xs
complement-sum zero xs h = refl
complement-sum (suc n) [] h = absurd (omega arith)
complement-sum (suc n) (x ∷ xs) h = ap (λ ys. not x ∷ ys) (complement-sum n xs (omega arith))

pub sum-append : (vs ws xs ys : List Bool) → length vs ≡ length xs → sum_from_front (vs ++ ws) (xs ++ ys) ≡ sum_from_front vs xs ++ sum_from_front ws ys
sum-append [] ws [] ys h = refl
sum-append [] ws (x ∷ xs) ys h = absurd (omega arith)
sum-append (v ∷ vs) ws [] ys h = absurd (omega arith)
sum-append (v ∷ vs) ws (x ∷ xs) ys h = ap (λ zs. sum_of_bits v x ∷ zs) (sum-append vs ws xs ys (omega arith))

-- a list with its end apart
split : (xs ys : List Bool) → 16 ≤ length ys → xs ++ ys ≡ sum_from_front (xs ++ zeros) (replicate (length xs) false ++ ys)
split [] ys h = sym (sum_zeros 16 ys h)
split (true ∷ xs) ys h = ap (λ zs. true ∷ zs) (split xs ys h)
split (false ∷ xs) ys h = ap (λ zs. false ∷ zs) (split xs ys h)

pub length-complemented : (n : ℕ) (xs : List Bool) → length (complement_first n xs) ≡ length xs
length-complemented zero xs = refl
length-complemented (suc n) [] = refl
length-complemented (suc n) (x ∷ xs) = ap suc (length-complemented n xs)

-- the remainder of a list of bits, sixteen zeros behind it
abbrev pub left_of : List Bool → List Bool
left_of bits = divided (length bits) (complement_first 16 (bits ++ zeros))

length-left : (bits : List Bool) → length (left_of bits) ≡ 16
length-left bits =
    let whole : length (complement_first 16 (bits ++ zeros)) ≡ length bits + 16 = length-complemented 16 (bits ++ zeros) ∙ length-append bits zeros in
    omega (arith, whole, length-divided (length bits) (complement_first 16 (bits ++ zeros)) (omega (arith, whole)))

pub length-remainder : (bytes : List ℕ) → length (remainder_of bytes) ≡ 16
length-remainder bytes = length-left (bits_of bytes)

pub left-append : (bits more : List Bool) → left_of (bits ++ more) ≡ divided (length more) (sum_from_front (left_of bits) (more ++ zeros))
left-append bits more =
    ap (λ n. divided n (complement_first 16 ((bits ++ more) ++ zeros))) (length-append bits more)
    ∙ divided-+ (length bits) (length more) (complement_first 16 ((bits ++ more) ++ zeros))
    ∙ ap (divided (length more))
    (ap (divided (length bits)) whole
    ∙ divided_sum (length bits) front (replicate (length bits) false ++ behind)
    (omega (arith, length-complemented 16 (bits ++ zeros), length-append bits zeros))
    (omega (arith, length-append (replicate (length bits) false) behind, length-replicate (length bits) false, long))
    ∙ ap (sum_from_front (divided (length bits) front)) (divided-zeros (length bits) behind))
  where
    behind : List Bool
    behind = more ++ zeros

    front : List Bool
    front = complement_first 16 (bits ++ zeros)

    long : length behind ≡ length more + 16
    long = length-append more zeros

    whole : complement_first 16 ((bits ++ more) ++ zeros) ≡ sum_from_front front (replicate (length bits) false ++ behind)
    whole =
        complement-sum 16 ((bits ++ more) ++ zeros) (omega (arith, length-append (bits ++ more) zeros))
        ∙ ap (sum_from_front (replicate 16 true)) (append_assoc bits more zeros ∙ split bits behind (omega (arith, long)))
        ∙ sym (sum_assoc (replicate 16 true) (bits ++ zeros) (replicate (length bits) false ++ behind))
        ∙ ap (λ xs. sum_from_front xs (replicate (length bits) false ++ behind))
        (sym (complement-sum 16 (bits ++ zeros) (omega (arith, length-append bits zeros))))

-- one more byte goes on from the remainder
goes_on : (bytes : List ℕ) (b : ℕ) → remainder_of (bytes ++ b ∷ []) ≡ divided 8 (sum_from_front (remainder_of bytes) (bits_of_byte b ++ zeros))
goes_on bytes b =
    ap left_of (bits_of-push bytes b) ∙ left-append (bits_of bytes) (bits_of_byte b)
    ∙ ap (λ n. divided n (sum_from_front (left_of (bits_of bytes)) (bits_of_byte b ++ zeros))) (length-bits_of_byte b)

-- the low half moves up, and the entry of the high half with the byte is added
by_halves : (high low byte : List Bool) → length high ≡ 8 → length low ≡ 8 → length byte ≡ 8
    → divided 8 (sum_from_front (high ++ low) (byte ++ zeros))
    ≡ sum_from_front (low ++ replicate 8 false) (divided 8 (sum_from_front high byte ++ zeros))
by_halves high low byte a b c =
    ap (divided 8)
    (sum-append high low byte zeros (a ∙ sym c) ∙ ap (λ xs. top ++ xs) moved ∙ split top moved_up (omega (arith, long))
    ∙ ap (λ n. sum_from_front (top ++ zeros) (replicate n false ++ moved_up)) eight)
    ∙ divided_sum 8 (top ++ zeros) (replicate 8 false ++ moved_up) (omega (arith, length-append top zeros, eight)) (omega (arith, long))
    ∙ ap (sum_from_front (divided 8 (top ++ zeros))) (divided-zeros 8 moved_up)
    ∙ sum_comm (divided 8 (top ++ zeros)) moved_up
  where
    top : List Bool
    top = sum_from_front high byte

    moved_up : List Bool
    moved_up = low ++ replicate 8 false

    eight : length top ≡ 8
    eight = length-sum high byte (omega arith) ∙ c

    long : length moved_up ≡ 16
    long = length-append low (replicate 8 false) ∙ ap (λ n. n + 8) b

    moved : sum_from_front low zeros ≡ moved_up
    moved =
        ap (λ xs. sum_from_front xs zeros) (sym (append-nil low))
        ∙ sum-append low [] (replicate 8 false) (replicate 8 false) b
        ∙ ap (λ xs. xs ++ replicate 8 false) (sum_comm low (replicate 8 false) ∙ sum_zeros 8 low (omega arith))

-- the same in numbers
numbers_step : (r b e : ℕ) (high low : List Bool) → b < 256 → length high ≡ 8 → length low ≡ 8 → r ≡ spelled_number (high ++ low)
    → e ≡ table_entry (bit_xor (r / 256) b)
    → bit_xor (r * 256 % 65536) e ≡ spelled_number (divided 8 (sum_from_front (high ++ low) (bits_of_byte b ++ zeros)))
numbers_step r b e high low small h l is entry =
    ap (λ n. bit_xor n e) moved
    ∙ ap (bit_xor (spelled_number (low ++ replicate 8 false))) (entry ∙ ap (λ xs. spelled_number (divided 8 (xs ++ zeros))) same)
    ∙ sym (number_of-sum (low ++ replicate 8 false) (divided 8 (top ++ zeros)) lengths)
    ∙ ap spelled_number (sym (by_halves high low (bits_of_byte b) h l (length-bits_of_byte b)))
  where
    top : List Bool
    top = sum_from_front high (bits_of_byte b)

    eight : length top ≡ 8
    eight = length-sum high (bits_of_byte b) (omega (arith, length-bits_of_byte b)) ∙ length-bits_of_byte b

    low_power : 2 ^ length low ≡ 256
    low_power = ap (λ n. 2 ^ n) l

    parts : r ≡ spelled_number high * 256 + spelled_number low
    parts = is ∙ number_of-append high low ∙ ap (λ n. spelled_number high * n + spelled_number low) low_power

    low_small : spelled_number low < 256
    low_small = subst (λ n. spelled_number low < n) low_power (number_of-lt low)

    upper : r / 256 ≡ spelled_number high
    upper = omega (arith, parts, low_small)

    moved : r * 256 % 65536 ≡ spelled_number (low ++ replicate 8 false)
    moved = omega (arith, parts, low_small, number_of-append low (replicate 8 false))

    index : bit_xor (r / 256) b ≡ spelled_number top
    index =
        ap (λ n. bit_xor n b) upper ∙ ap (bit_xor (spelled_number high)) (sym (number_of_byte b small))
        ∙ sym (number_of-sum high (bits_of_byte b) (h ∙ sym (length-bits_of_byte b)))

    within : spelled_number top < 256
    within = subst (λ n. spelled_number top < 2 ^ n) eight (number_of-lt top)

    same : bits_of_byte (bit_xor (r / 256) b) ≡ top
    same =
        ap bits_of_byte index
        ∙ number_of-injective (bits_of_byte (spelled_number top)) top (length-bits_of_byte (spelled_number top) ∙ sym eight)
        (number_of_byte (spelled_number top) within)

    lengths : length (low ++ replicate 8 false) ≡ length (divided 8 (top ++ zeros))
    lengths =
        omega (
          arith,
          length-append low (replicate 8 false),
          l,
          length-append top zeros,
          eight,
          length-divided 8 (top ++ zeros)
              (omega (arith, length-append top zeros, eight)),
        )

pub push_step : (r b e : ℕ) (bytes : List ℕ) → b < 256 → r ≡ running_of bytes → e ≡ table_entry (bit_xor (r / 256) b)
    → bit_xor (r * 256 % 65536) e ≡ running_of (bytes ++ b ∷ [])
push_step r b e bytes small is entry =
    numbers_step r b e (take 8 (remainder_of bytes)) (drop 8 (remainder_of bytes)) small
    (omega (arith, length-take 8 (remainder_of bytes), length-remainder bytes))
    (omega (arith, length-drop 8 (remainder_of bytes), length-remainder bytes))
    (is ∙ ap spelled_number (sym whole)) entry
    ∙ ap (λ xs. spelled_number (divided 8 (sum_from_front xs (bits_of_byte b ++ zeros)))) whole
    ∙ ap spelled_number (sym (goes_on bytes b))
  where
    whole : take 8 (remainder_of bytes) ++ drop 8 (remainder_of bytes) ≡ remainder_of bytes
    whole = take-append-drop 8 (remainder_of bytes)

pub crc_step : (r : ℕ) (bytes : List ℕ) → r ≡ running_of bytes → 65535 - r ≡ crc_of bytes
crc_step r bytes is = omega (arith, is, number_of-not (remainder_of bytes), (ap (λ n. 2 ^ n) (length-remainder bytes)))
