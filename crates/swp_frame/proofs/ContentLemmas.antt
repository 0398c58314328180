-- Bits kept as whole bytes and a rest.
use Rattle.std.proofs.Common.{length-drop}
use Rattle.swp_frame.proofs.Words.{Bool, Frame, List, [], ap, append_assoc, ap₂, arith, bits_of, crc_of, drop, get_or, judged, judged_bytes, length}
use Rattle.swp_frame.proofs.Words.{length-append, length-bits_of, length-take, length-take-le, refl, run_bits, shl-shr, spelled_number, subst, suc, sym, take}
use Rattle.swp_frame.proofs.Words.{take-append-drop, to_be_bytes, w64, zero, ℕ, ◌%◌, ◌*◌, ◌++◌, ◌+◌, ◌-◌, ◌/◌, ◌<◌, ◌^◌, ◌∙◌, ◌∷◌, ◌≡◌, ◌≤◌}
use mir.Val.{bool_byte}
use Rattle.std.proofs.Math.Seq.{take-append_seam}
use Rattle.std.proofs.lemmas.Nat.{div-mul-add, mod-mul-add}
use Rattle.swp_base.specs.Bits.{bits_of_byte}
use Rattle.swp_crc.proofs.Numbers.{number_of-append, number_of-lt}
use Rattle.swp_crc.proofs.Entries.{number_of_byte}
use Rattle.swp_base.proofs.BitLemmas.{bits_of-append}
use Rattle.swp_frame.specs.Words.{low_bits}
use Rattle.swp_frame.proofs.Places.{byte_bits, low_bits-same, low_bits-add, low_bits-number_of, no_wrap, upper_joined, lower_joined}
use Rattle.swp_base.specs.declared.link_terms.FrameFault.TheVariants.{Crc}
use Rattle.swp_frame.specs.declared.fed.Fed.TheVariants.{Refused}
use Rattle.swp_frame.specs.Content.{bytes_from, bytes_of_bits}
use Rattle.swp_frame.specs.Kept.{AreBytes, KeepsBits}

AreBytes-push : (bytes : List ℕ) (b : ℕ) → AreBytes bytes → b < 256 → AreBytes (bytes ++ b ∷ [])
AreBytes-push [] b h s = (s, tt)
AreBytes-push (x ∷ bytes) b h s = (h.0, AreBytes-push bytes b h.1 s)

-- how much of a word is under way
pub length-rest : (bytes : List ℕ) (partial : ℕ) (bits : List Bool) (kept : KeepsBits bytes partial bits)
    → (length kept.rest ≡ length bits % 64) × (length bytes ≡ 8 * (length bits / 64))
length-rest bytes partial bits kept =
    let whole : length bits ≡ 8 * length bytes + length kept.rest =
    ap length kept.whole ∙ length-append (bits_of bytes) kept.rest ∙ ap (λ n. n + length kept.rest) (length-bits_of bytes) in
    (omega (arith, whole, kept.short, kept.words), omega (arith, whole, kept.short, kept.words))

-- more bits that stay in the word under way
pub more_within : (bytes : List ℕ) (partial : ℕ) (bits more : List Bool) (value width : ℕ) → KeepsBits bytes partial bits
    → length more ≡ width → spelled_number more ≡ value → length bits % 64 + width < 64
    → KeepsBits bytes (partial * 2 ^ width + value) (bits ++ more)
more_within bytes partial bits more value width kept l n h = record {
  rest = kept.rest ++ more;
  whole = ap (λ xs. xs ++ more) kept.whole ∙ append_assoc (bits_of bytes) kept.rest more;
  short = omega (arith, length-append kept.rest more, (length-rest bytes partial bits kept).0, l);
  words = kept.words;
  number =
      ap (λ x. x * 2 ^ width + value) kept.number
      ∙ rw (← l, ← n) (sym (number_of-append kept.rest more));
  in_range = kept.in_range;
}

-- ---- the bytes of a word

front_byte : (x n b : ℕ) (bytes : List ℕ) → b ≡ x / 2 ^ n % 256 → bits_of bytes ≡ low_bits n x → bits_of (b ∷ bytes) ≡ low_bits (8 + n) x
front_byte x n b bytes e same =
    ap₂ (λ xs ys. xs ++ ys)
    (ap bits_of_byte e ∙ byte_bits (x / 2 ^ n % 256) ∙ low_bits-same 8 (x / 2 ^ n % 256) (x / 2 ^ n) (omega arith))
    same
    ∙ sym (low_bits-add 8 n (8 + n) x refl)

none_left : (x : ℕ) → bits_of [] ≡ low_bits 0 x
unfolding low_bits
none_left x = refl

-- the bytes of a word, the highest first, have its bits
pub word_bytes : (x : ℕ) → bits_of (to_be_bytes w64 x) ≡ low_bits 64 x
word_bytes x =
    let one : List ℕ = x % 256 ∷ [] in
    let two : List ℕ = x / 2 ^ 8 % 256 ∷ one in
    let three : List ℕ = x / 2 ^ 16 % 256 ∷ two in
    let four : List ℕ = x / 2 ^ 24 % 256 ∷ three in
    let five : List ℕ = x / 2 ^ 32 % 256 ∷ four in
    let six : List ℕ = x / 2 ^ 40 % 256 ∷ five in
    let s2 = front_byte x 8 (x / 2 ^ 8 % 256) one refl (front_byte x 0 (x % 256) [] (omega arith) (none_left x)) in
    let s4 = front_byte x 24 (x / 2 ^ 24 % 256) three refl (front_byte x 16 (x / 2 ^ 16 % 256) two refl s2) in
    let s6 = front_byte x 40 (x / 2 ^ 40 % 256) five refl (front_byte x 32 (x / 2 ^ 32 % 256) four refl s4) in
    front_byte x 56 (x / 2 ^ 56 % 256) (x / 2 ^ 48 % 256 ∷ six) refl (front_byte x 48 (x / 2 ^ 48 % 256) six refl s6)

word_in_range : (x : ℕ) → AreBytes (to_be_bytes w64 x)
word_in_range x = (omega arith, (omega arith, (omega arith, (omega arith, (omega arith, (omega arith, (omega arith, (omega arith, tt))))))))

AreBytes-append : (xs ys : List ℕ) → AreBytes xs → AreBytes ys → AreBytes (xs ++ ys)
AreBytes-append [] ys h k = k
AreBytes-append (x ∷ xs) ys h k = (h.0, AreBytes-append xs ys h.1 k)

AreBytes-take : (n : ℕ) (xs : List ℕ) → AreBytes xs → AreBytes (take n xs)
AreBytes-take zero xs h = tt
AreBytes-take (suc n) [] h = tt
AreBytes-take (suc n) (x ∷ xs) h = (h.0, AreBytes-take n xs h.1)

-- more bits that make the word under way whole
pub more_than_word : {bytes : List ℕ} {partial : ℕ} {bits : List Bool} (more : List Bool) {value width : ℕ} (surplus : ℕ) → KeepsBits bytes partial bits
    → length more ≡ width → spelled_number more ≡ value → length bits % 64 + width ≡ 64 + surplus → surplus < 64
    → KeepsBits (bytes ++ to_be_bytes w64 (partial * 2 ^ (64 - length bits % 64) + value / 2 ^ surplus)) (value % 2 ^ surplus) (bits ++ more)
more_than_word {bytes} {partial} {bits} more {value} {width} surplus kept l n h few = record {
  rest = low;
  whole =
      ap (λ xs. xs ++ more) kept.whole ∙ append_assoc (bits_of bytes) kept.rest more
      ∙ ap (λ xs. bits_of bytes ++ xs) (sym (take-append-drop 64 queue))
      ∙ sym (append_assoc (bits_of bytes) high low)
      ∙ ap (λ xs. (bits_of bytes ++ xs) ++ low) (sym spelled)
      ∙ ap (λ xs. xs ++ low) (sym (bits_of-append bytes (to_be_bytes w64 word)));
  short = omega (arith, low_length, few);
  words = omega (arith, length-append bytes (to_be_bytes w64 word), eight word, kept.words);
  number = sym (quotient_and_rest.1 ∙ lower_joined partial value filled width surplus h (omega arith));
  in_range = AreBytes-append bytes (to_be_bytes w64 word) kept.in_range (word_in_range word);
}
  where
    filled : ℕ
    filled = length bits % 64

    word : ℕ
    word = partial * 2 ^ (64 - filled) + value / 2 ^ surplus

    joined : ℕ
    joined = partial * 2 ^ width + value

    queue : List Bool
    queue = kept.rest ++ more

    high : List Bool
    high = take 64 queue

    low : List Bool
    low = drop 64 queue

    eight : (x : ℕ) → length (to_be_bytes w64 x) ≡ 8
    eight x = refl

    queue_length : length queue ≡ 64 + surplus
    queue_length = omega (arith, length-append kept.rest more, (length-rest bytes partial bits kept).0, l, h)

    high_length : length high ≡ 64
    high_length = omega (arith, length-take 64 queue, queue_length)

    low_length : length low ≡ surplus
    low_length = omega (arith, length-drop 64 queue, queue_length)

    low_small : spelled_number low < 2 ^ surplus
    low_small = subst (λ x. spelled_number low < 2 ^ x) low_length (number_of-lt low)

    parts : joined ≡ spelled_number high * 2 ^ surplus + spelled_number low
    parts =
        ap (λ x. x * 2 ^ width + value) kept.number
        ∙ rw (← l, ← n) (sym (number_of-append kept.rest more))
        ∙ ap spelled_number (sym (take-append-drop 64 queue))
        ∙ number_of-append high low
        ∙ ap (λ x. spelled_number high * 2 ^ x + spelled_number low) low_length

    quotient_and_rest : (spelled_number high ≡ joined / 2 ^ surplus) × (spelled_number low ≡ joined % 2 ^ surplus)
    quotient_and_rest = (
      sym (ap (λ x. x / 2 ^ surplus) parts ∙ div-mul-add (spelled_number high) (2 ^ surplus) (spelled_number low) low_small),
      sym (ap (λ x. x % 2 ^ surplus) parts ∙ mod-mul-add (spelled_number high) (2 ^ surplus) (spelled_number low) low_small),
    )

    value_fits : value < 2 ^ width
    value_fits = rw (← n, ← l) (number_of-lt more)

    spelled : bits_of (to_be_bytes w64 word) ≡ high
    spelled =
        word_bytes word
        ∙ ap (low_bits 64) (sym (quotient_and_rest.0 ∙ upper_joined partial value filled width surplus value_fits h (omega arith)))
        ∙ low_bits-number_of high 64 high_length

bytes_from-bits_of : (bytes : List ℕ) → AreBytes bytes → bytes_from (length bytes) (bits_of bytes) ≡ bytes
unfolding bits_of_byte
bytes_from-bits_of [] h = refl
bytes_from-bits_of (b ∷ bytes) h =
    ap (λ x. x ∷ bytes_from (length bytes) (bits_of bytes)) (number_of_byte b h.0) ∙ ap (λ xs. b ∷ xs) (bytes_from-bits_of bytes h.1)

-- bytes whose bits begin with these are these, as far as they go
pub bytes_in_front : (bytes : List ℕ) (bits junk : List Bool) (n : ℕ) → AreBytes bytes → bits_of bytes ≡ bits ++ junk → length bits ≡ 8 * n → n ≤ length bytes
    → bytes_of_bits bits ≡ take n bytes
bytes_in_front bytes bits junk n are same l h =
    let front = take n bytes in
    let count : length front ≡ n = length-take-le n bytes h in
    let sized : length (bits_of front) ≡ length bits = length-bits_of front ∙ ap (λ k. 8 * k) count ∙ sym l in
    let split : bits_of front ++ bits_of (drop n bytes) ≡ bits ++ junk =
    sym (bits_of-append front (drop n bytes)) ∙ ap bits_of (take-append-drop n bytes) ∙ same in
    let spelled : bits_of front ≡ bits =
    sym (take-append_seam (bits_of front) (bits_of (drop n bytes))) ∙ ap₂ take sized split ∙ take-append_seam bits junk in
    ap (λ k. bytes_from k bits) (omega (arith, l, count))
    ∙ ap (bytes_from (length front)) (sym spelled)
    ∙ bytes_from-bits_of front (AreBytes-take n bytes are)

-- the bytes of a content, from those of the whole words and of the word under way, which is moved to the top
pub content_bytes : {bytes : List ℕ} {partial last : ℕ} (n : ℕ) (bits end : List Bool) → KeepsBits bytes partial (bits ++ end) → length bits ≡ 8 * n
    → length end < 8 → 0 < length end
    → last ≡ partial * 2 ^ (64 - length (bits ++ end) % 64) % 2 ^ 64 → bytes_of_bits bits ≡ take n (bytes ++ to_be_bytes w64 last)
content_bytes {bytes} {partial} {last} n bits end kept l short some is =
    bytes_in_front (bytes ++ to_be_bytes w64 last) bits (end ++ zeros) n (AreBytes-append bytes (to_be_bytes w64 last) kept.in_range (word_in_range last))
    (bits_of-append bytes (to_be_bytes w64 last)
    ∙ ap (λ xs. bits_of bytes ++ xs)
    (word_bytes last ∙ ap (low_bits 64) moved ∙ low_bits-add filled (64 - filled) 64 top (omega arith) ∙ ap (λ xs. xs ++ zeros) spelled)
    ∙ sym (append_assoc (bits_of bytes) kept.rest zeros)
    ∙ ap (λ xs. xs ++ zeros) (sym kept.whole)
    ∙ append_assoc bits end zeros)
    l (omega (arith, length-append bytes (to_be_bytes w64 last), eight last, lengths.1, length-append bits end, l, short, some))
  where
    filled : ℕ
    filled = length (bits ++ end) % 64

    top : ℕ
    top = partial * 2 ^ (64 - filled)

    zeros : List Bool
    zeros = low_bits (64 - filled) top

    eight : (x : ℕ) → length (to_be_bytes w64 x) ≡ 8
    eight x = refl

    lengths : (length kept.rest ≡ filled) × (length bytes ≡ 8 * (length (bits ++ end) / 64))
    lengths = length-rest bytes partial (bits ++ end) kept

    partial_fits : partial < 2 ^ filled
    partial_fits = rw (kept.number, ← lengths.0) (number_of-lt kept.rest)

    moved : last ≡ top
    moved = is ∙ no_wrap partial filled (64 - filled) partial_fits (omega arith)

    spelled : low_bits filled (top / 2 ^ (64 - filled)) ≡ kept.rest
    spelled = ap (low_bits filled) (shl-shr partial (64 - filled) ∙ kept.number) ∙ low_bits-number_of kept.rest filled lengths.0

-- what is read of the end of a frame before its last 1 bit
pub length-end : (counts : Bool) → (length (run_bits counts 6) ≡ 6 + bool_byte counts) × (length (run_bits counts 6) < 8)
length-end counts = grind arith

-- the verdict on a content of a right length
pub judged_whole : (bits : List Bool) → 24 ≤ length bits → length bits ≤ 256 → length bits % 8 ≡ 0 → judged bits ≡ judged_bytes (bytes_of_bits bits)
judged_whole bits low high whole = grind arith

pub crc_differs : (bytes : List ℕ) (want got : ℕ) → want ≡ crc_of (take (length bytes - 2) bytes)
    → got ≡ 256 * get_or bytes (length bytes - 2) 0 + get_or bytes (length bytes - 1) 0 → (want ≡ got → ⊥) → Refused (Crc want got) ≡ judged_bytes bytes
crc_differs bytes want got w g h = grind arith

pub crc_is_right : (bytes : List ℕ) (want got : ℕ) → want ≡ crc_of (take (length bytes - 2) bytes)
    → got ≡ 256 * get_or bytes (length bytes - 2) 0 + get_or bytes (length bytes - 1) 0 → want ≡ got
    → Frame (take (length bytes - 2) bytes) ≡ judged_bytes bytes
crc_is_right bytes want got w g h = grind arith

-- the last two bytes, read as one number, from what a cut before them gives
pub last_two : (result n : ℕ) (bytes slice back : List ℕ) → result ≡ get_or back 0 0 * 256 + get_or back 1 0
    → ((k d : ℕ) → get_or back k d ≡ get_or slice (n - 2 + k) d) → slice ≡ bytes → n ≡ length bytes → 2 ≤ length bytes
    → result ≡ 256 * get_or bytes (length bytes - 2) 0 + get_or bytes (length bytes - 1) 0
last_two result n bytes slice back is at same count long = grind arith

-- ---- fronts of the bytes of a content

pub take_within : (m n : ℕ) (xs : List ℕ) → m ≤ n → take m (take n xs) ≡ take m xs
take_within zero n xs h = refl
take_within (suc m) zero xs h = absurd (omega (arith, h))
take_within (suc m) (suc n) [] h = refl
take_within (suc m) (suc n) (x ∷ xs) h = ap (λ ys. x ∷ ys) (take_within m n xs (omega (arith, h)))

pub take_front : (m : ℕ) (xs ys : List ℕ) → m ≤ length xs → take m (xs ++ ys) ≡ take m xs
take_front zero xs ys h = refl
take_front (suc m) [] ys h = absurd (omega (arith, h))
take_front (suc m) (x ∷ xs) ys h = ap (λ zs. x ∷ zs) (take_front m xs ys (omega (arith, h)))
