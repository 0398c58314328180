-- Four more bytes of a CRC under way, at once.
use Rattle.std.proofs.Common.{◌≡◌, ℕ, ◌+◌, ◌*◌, ◌/◌, ◌%◌, ◌^◌, ◌<◌, Bool, false, List, [], ◌∷◌, ◌++◌, length, drop, take, get_or, replicate, refl, sym, ap, ◌∙◌}
use Rattle.std.proofs.Common.{arith, length-append, append_assoc, length-take, length-drop, take-append-drop, append-nil, subst}
use Rattle.std.proofs.Math.ListN.{length-replicate}
use Rattle.std.specs.Int.Bits.{bit_xor}
use Rattle.swp_base.specs.Bits.{bits_of, bits_of_byte}
use Rattle.swp_crc.specs.Division.{sum_from_front, divided, spelled_number}
use Rattle.swp_crc.specs.Crc.{zeros, remainder_of, table_entry, entry_before}
use Rattle.swp_crc.specs.Running.{running_of}
use Rattle.swp_crc.proofs.DivisionLemmas.{sum_comm, sum_zeros, length-sum, divided_sum, divided-+, divided-zeros, length-divided}
use Rattle.swp_crc.proofs.Numbers.{number_of-append, number_of-injective, number_of-sum, number_of-lt}
use Rattle.swp_crc.proofs.Entries.{number_of_byte}
use Rattle.swp_crc.proofs.Steps.{length-remainder, left_of, left-append, sum-append}
use Rattle.swp_base.proofs.BitLemmas.{bits_of-append, length-bits_of_byte}

-- what division leaves of eight bits before so many more bits 0 and the sixteen
abbrev alone : ℕ → List Bool → List Bool
alone more byte = divided (8 + 8 * more) (byte ++ replicate (8 * more + 16) false)

length-alone : (more : ℕ) (byte : List Bool) → length byte ≡ 8 → length (alone more byte) ≡ 16
length-alone more byte eight =
    let whole : length (byte ++ replicate (8 * more + 16) false) ≡ 8 + (8 * more + 16) =
    length-append byte (replicate (8 * more + 16) false) ∙ ap (λ n. n + length (replicate (8 * more + 16) false)) eight
    ∙ ap (λ n. 8 + n) (length-replicate (8 * more + 16) false) in
    omega (arith, whole, length-divided (8 + 8 * more) (byte ++ replicate (8 * more + 16) false) (omega (arith, whole)))

-- the first eight of some bits add what division leaves of them alone
first_apart : (more : ℕ) (byte behind : List Bool) → length byte ≡ 8 → length behind ≡ 8 * more + 16
    → divided (8 + 8 * more) (byte ++ behind) ≡ sum_from_front (alone more byte) (divided (8 * more) behind)
first_apart more byte behind eight long =
    ap (divided (8 + 8 * more)) apart
    ∙ divided_sum (8 + 8 * more) (byte ++ replicate (8 * more + 16) false) (replicate 8 false ++ behind)
    (omega (arith, length-append byte (replicate (8 * more + 16) false), eight, length-replicate (8 * more + 16) false))
    (omega (arith, length-append (replicate 8 false) behind, long))
    ∙ ap (sum_from_front (alone more byte)) (divided-+ 8 (8 * more) (replicate 8 false ++ behind) ∙ ap (divided (8 * more)) (divided-zeros 8 behind))
  where
    apart : byte ++ behind ≡ sum_from_front (byte ++ replicate (8 * more + 16) false) (replicate 8 false ++ behind)
    apart =
        ap (λ xs. xs ++ behind) (sym (sum_zeros 8 byte (omega (arith, eight))) ∙ sum_comm (replicate 8 false) byte)
        ∙ ap (λ xs. sum_from_front byte (replicate 8 false) ++ xs) (sym (sum_zeros (8 * more + 16) behind (omega (arith, long))))
        ∙ sym (sum-append byte (replicate (8 * more + 16) false) (replicate 8 false) behind eight)

-- four times eight bits, each alone
each_alone : (first second third fourth : List Bool) → length first ≡ 8 → length second ≡ 8 → length third ≡ 8 → length fourth ≡ 8
    → divided 32 (first ++ (second ++ (third ++ (fourth ++ zeros))))
    ≡ sum_from_front (alone 3 first) (sum_from_front (alone 2 second) (sum_from_front (alone 1 third) (alone 0 fourth)))
each_alone first second third fourth a b c d =
    first_apart 3 first (second ++ (third ++ (fourth ++ zeros))) a three
    ∙ ap (sum_from_front (alone 3 first))
    (first_apart 2 second (third ++ (fourth ++ zeros)) b two ∙ ap (sum_from_front (alone 2 second)) (first_apart 1 third (fourth ++ zeros) c one))
  where
    one : length (fourth ++ zeros) ≡ 24
    one = length-append fourth zeros ∙ ap (λ n. n + 16) d

    two : length (third ++ (fourth ++ zeros)) ≡ 32
    two = omega (arith, length-append third (fourth ++ zeros), one, c)

    three : length (second ++ (third ++ (fourth ++ zeros))) ≡ 40
    three = omega (arith, length-append second (third ++ (fourth ++ zeros)), two, b)

-- a remainder of sixteen bits is added to the first two bytes
added : (high low first second behind : List Bool) → length high ≡ 8 → length low ≡ 8 → length first ≡ 8 → length second ≡ 8
    → sum_from_front (high ++ low) (first ++ (second ++ behind)) ≡ sum_from_front high first ++ (sum_from_front low second ++ behind)
added high low first second behind h l a b =
    sum-append high low first (second ++ behind) (h ∙ sym a)
    ∙ ap (λ xs. sum_from_front high first ++ sum_from_front xs (second ++ behind)) (sym (append-nil low))
    ∙ ap (λ xs. sum_from_front high first ++ xs) (sum-append low [] second behind (l ∙ sym b))

-- the bits of a byte that is added to another
bits_of_sum : (bits : List Bool) (n b : ℕ) → length bits ≡ 8 → n ≡ spelled_number bits → b < 256
    → bits_of_byte (bit_xor n b) ≡ sum_from_front bits (bits_of_byte b)
bits_of_sum bits n b eight is small =
    ap bits_of_byte index
    ∙ number_of-injective (bits_of_byte (spelled_number top)) top (length-bits_of_byte (spelled_number top) ∙ sym long)
    (number_of_byte (spelled_number top) within)
  where
    top : List Bool
    top = sum_from_front bits (bits_of_byte b)

    long : length top ≡ 8
    long = length-sum bits (bits_of_byte b) (omega (arith, length-bits_of_byte b, eight)) ∙ length-bits_of_byte b

    index : bit_xor n b ≡ spelled_number top
    index =
        ap (λ m. bit_xor m b) is ∙ ap (bit_xor (spelled_number bits)) (sym (number_of_byte b small))
        ∙ sym (number_of-sum bits (bits_of_byte b) (eight ∙ sym (length-bits_of_byte b)))

    within : spelled_number top < 256
    within = subst (λ m. spelled_number top < 2 ^ m) long (number_of-lt top)

-- the halves of a number whose bits are two halves
upper_half : (r : ℕ) (high low : List Bool) → length low ≡ 8 → r ≡ spelled_number (high ++ low) → r / 256 ≡ spelled_number high
upper_half r high low l is =
    let power : 2 ^ length low ≡ 256 = ap (λ n. 2 ^ n) l in
    let parts : r ≡ spelled_number high * 256 + spelled_number low = is ∙ number_of-append high low
    ∙ ap (λ n. spelled_number high * n + spelled_number low) power in
    omega (arith, parts, (subst (λ n. spelled_number low < n) power (number_of-lt low)))

lower_half : (r : ℕ) (high low : List Bool) → length low ≡ 8 → r ≡ spelled_number (high ++ low) → r % 256 ≡ spelled_number low
lower_half r high low l is =
    let power : 2 ^ length low ≡ 256 = ap (λ n. 2 ^ n) l in
    let parts : r ≡ spelled_number high * 256 + spelled_number low = is ∙ number_of-append high low
    ∙ ap (λ n. spelled_number high * n + spelled_number low) power in
    omega (arith, parts, (subst (λ n. spelled_number low < n) power (number_of-lt low)))

length-high : (bytes : List ℕ) → length (take 8 (remainder_of bytes)) ≡ 8
length-high bytes = omega (arith, length-take 8 (remainder_of bytes), length-remainder bytes)

length-low : (bytes : List ℕ) → length (drop 8 (remainder_of bytes)) ≡ 8
length-low bytes = omega (arith, length-drop 8 (remainder_of bytes), length-remainder bytes)

long_sum : (bits : List Bool) (b : ℕ) → length bits ≡ 8 → length (sum_from_front bits (bits_of_byte b)) ≡ 8
long_sum bits b eight = length-sum bits (bits_of_byte b) (omega (arith, length-bits_of_byte b, eight)) ∙ length-bits_of_byte b

-- four remainders of sixteen bits, added as numbers
four_numbers : (ws xs ys zs : List Bool) → length ws ≡ 16 → length xs ≡ 16 → length ys ≡ 16 → length zs ≡ 16
    → spelled_number (sum_from_front ws (sum_from_front xs (sum_from_front ys zs)))
    ≡ bit_xor (spelled_number ws) (bit_xor (spelled_number xs) (bit_xor (spelled_number ys) (spelled_number zs)))
four_numbers ws xs ys zs a b c d =
    number_of-sum ws (sum_from_front xs (sum_from_front ys zs)) (a ∙ sym outer)
    ∙ ap (bit_xor (spelled_number ws))
    (number_of-sum xs (sum_from_front ys zs) (b ∙ sym inner) ∙ ap (bit_xor (spelled_number xs)) (number_of-sum ys zs (c ∙ sym d)))
  where
    inner : length (sum_from_front ys zs) ≡ 16
    inner = length-sum ys zs (omega (arith, c, d)) ∙ d

    outer : length (sum_from_front xs (sum_from_front ys zs)) ≡ 16
    outer = length-sum xs (sum_from_front ys zs) (omega (arith, b, inner)) ∙ inner

-- the remainder behind four more bytes
goes_on_by_four : (bytes : List ℕ) (b0 b1 b2 b3 : ℕ) (high low : List Bool) → length high ≡ 8 → length low ≡ 8 → high ++ low ≡ remainder_of bytes
    → remainder_of (bytes ++ b0 ∷ b1 ∷ b2 ∷ b3 ∷ [])
    ≡ sum_from_front (alone 3 (sum_from_front high (bits_of_byte b0)))
    (sum_from_front (alone 2 (sum_from_front low (bits_of_byte b1))) (sum_from_front (alone 1 (bits_of_byte b2)) (alone 0 (bits_of_byte b3))))
goes_on_by_four bytes b0 b1 b2 b3 high low h l whole =
    ap left_of (bits_of-append bytes (b0 ∷ b1 ∷ b2 ∷ b3 ∷ []))
    ∙ left-append (bits_of bytes) (bits_of (b0 ∷ b1 ∷ b2 ∷ b3 ∷ []))
    ∙ ap (λ n. divided n (sum_from_front (left_of (bits_of bytes)) (bits_of (b0 ∷ b1 ∷ b2 ∷ b3 ∷ []) ++ zeros))) long
    ∙ ap (λ xs. divided 32 (sum_from_front xs (bits_of (b0 ∷ b1 ∷ b2 ∷ b3 ∷ []) ++ zeros))) (sym whole)
    ∙ ap (λ xs. divided 32 (sum_from_front (high ++ low) xs)) nested
    ∙ ap (divided 32) (added high low first second (bits_of_byte b2 ++ (bits_of_byte b3 ++ zeros)) h l (length-bits_of_byte b0) (length-bits_of_byte b1))
    ∙ each_alone (sum_from_front high first) (sum_from_front low second) (bits_of_byte b2) (bits_of_byte b3) (long_sum high b0 h) (long_sum low b1 l)
    (length-bits_of_byte b2) (length-bits_of_byte b3)
  where
    first : List Bool
    first = bits_of_byte b0

    second : List Bool
    second = bits_of_byte b1

    long : length (bits_of (b0 ∷ b1 ∷ b2 ∷ b3 ∷ [])) ≡ 32
    long =
        omega (
          arith,
          length-append first (bits_of (b1 ∷ b2 ∷ b3 ∷ [])),
          length-append second (bits_of (b2 ∷ b3 ∷ [])),
          length-append (bits_of_byte b2) (bits_of (b3 ∷ [])),
          length-append (bits_of_byte b3) [],
          length-bits_of_byte b0,
          length-bits_of_byte b1,
          length-bits_of_byte b2,
          length-bits_of_byte b3,
        )

    nested : bits_of (b0 ∷ b1 ∷ b2 ∷ b3 ∷ []) ++ zeros ≡ first ++ (second ++ (bits_of_byte b2 ++ (bits_of_byte b3 ++ zeros)))
    nested =
        append_assoc first (bits_of (b1 ∷ b2 ∷ b3 ∷ [])) zeros
        ∙ ap (λ xs. first ++ xs)
        (append_assoc second (bits_of (b2 ∷ b3 ∷ [])) zeros
        ∙ ap (λ xs. second ++ xs)
        (append_assoc (bits_of_byte b2) (bits_of (b3 ∷ [])) zeros
        ∙ ap (λ xs. bits_of_byte b2 ++ xs) (ap (λ xs. xs ++ zeros) (append-nil (bits_of_byte b3)))))

-- a list of four by its places
four_of : (xs : List ℕ) → length xs ≡ 4 → xs ≡ get_or xs 0 0 ∷ get_or xs 1 0 ∷ get_or xs 2 0 ∷ get_or xs 3 0 ∷ []
four_of [] h = absurd (omega arith)
four_of (a ∷ []) h = absurd (omega arith)
four_of (a ∷ b ∷ []) h = absurd (omega arith)
four_of (a ∷ b ∷ c ∷ []) h = absurd (omega arith)
four_of (a ∷ b ∷ c ∷ d ∷ []) h = refl
four_of (a ∷ b ∷ c ∷ d ∷ e ∷ xs) h = absurd (omega arith)

-- the register behind four more bytes, from their entries of the tables
pub push_four_step : {r e0 e1 e2 e3 : ℕ} (four bytes : List ℕ) → length four ≡ 4 → ((i : ℕ) → get_or four i 0 < 256) → r ≡ running_of bytes
    → e0 ≡ entry_before 3 (bit_xor (r / 256) (get_or four 0 0)) → e1 ≡ entry_before 2 (bit_xor (r % 256) (get_or four 1 0))
    → e2 ≡ entry_before 1 (get_or four 2 0) → e3 ≡ table_entry (get_or four 3 0)
    → bit_xor e0 (bit_xor e1 (bit_xor e2 e3)) ≡ running_of (bytes ++ four)
push_four_step {r} {e1} {e2} {e3} four bytes long small is is0 is1 is2 is3 =
    ap (λ n. bit_xor n (bit_xor e1 (bit_xor e2 e3))) (is0 ∙ ap (λ xs. spelled_number (alone 3 xs)) (bits_of_sum high (r / 256) b0 h upper (small 0)))
    ∙ ap (λ n. bit_xor (spelled_number (alone 3 top0)) (bit_xor n (bit_xor e2 e3)))
    (is1 ∙ ap (λ xs. spelled_number (alone 2 xs)) (bits_of_sum low (r % 256) b1 l lower (small 1)))
    ∙ ap (λ n. bit_xor (spelled_number (alone 3 top0)) (bit_xor (spelled_number (alone 2 top1)) (bit_xor n e3))) is2
    ∙ ap (λ n. bit_xor (spelled_number (alone 3 top0)) (bit_xor (spelled_number (alone 2 top1)) (bit_xor (spelled_number (alone 1 (bits_of_byte b2))) n))) is3
    ∙ sym (four_numbers (alone 3 top0) (alone 2 top1) (alone 1 (bits_of_byte b2)) (alone 0 (bits_of_byte b3))
    (length-alone 3 top0 (long_sum high b0 h)) (length-alone 2 top1 (long_sum low b1 l)) (length-alone 1 (bits_of_byte b2) (length-bits_of_byte b2))
    (length-alone 0 (bits_of_byte b3) (length-bits_of_byte b3)))
    ∙ ap spelled_number (sym (goes_on_by_four bytes b0 b1 b2 b3 high low h l whole))
    ∙ ap (λ xs. running_of (bytes ++ xs)) (sym (four_of four long))
  where
    b0 : ℕ
    b0 = get_or four 0 0

    b1 : ℕ
    b1 = get_or four 1 0

    b2 : ℕ
    b2 = get_or four 2 0

    b3 : ℕ
    b3 = get_or four 3 0

    high : List Bool
    high = take 8 (remainder_of bytes)

    low : List Bool
    low = drop 8 (remainder_of bytes)

    top0 : List Bool
    top0 = sum_from_front high (bits_of_byte b0)

    top1 : List Bool
    top1 = sum_from_front low (bits_of_byte b1)

    whole : high ++ low ≡ remainder_of bytes
    whole = take-append-drop 8 (remainder_of bytes)

    h : length high ≡ 8
    h = length-high bytes

    l : length low ≡ 8
    l = length-low bytes

    upper : r / 256 ≡ spelled_number high
    upper = upper_half r high low l (is ∙ ap spelled_number (sym whole))

    lower : r % 256 ≡ spelled_number low
    lower = lower_half r high low l (is ∙ ap spelled_number (sym whole))
