-- Bits of words: their low bits, shifts and runs, and the places of marks.
use Rattle.std.proofs.Common.{replicate}
use Rattle.std.proofs.Math.Nat.{mul-le-mul_right, pow-suc}
use Rattle.std.proofs.lemmas.Nat.{field_of, mod-pow-add, mod_low, pow-add, shl_below, shr-shr, shr_below, shr_high, shr_split}
use Rattle.std.proofs.lemmas.Bool.{cases_lt}
use Rattle.std.proofs.Math.ListN.{length-replicate}
use Rattle.std.proofs.lemmas.Nat.Bits.{bit_at-trailing_zeros, bit_at-trailing_ones, bit_at_above, bit_at-zero, bit_at_ones}
use Rattle.swp_frame.proofs.Words.{Bool, CountsLastZero, HasNoMark, List, None, Option, Some, Symbol, [], ap, append-nil, append_assoc, ap₂, arith, before_run}
use Rattle.swp_frame.proofs.Words.{bit, bit_0, bit_1, bit_at, cond, drop, eq-eqb, eqb, false, get_or, length, min, mod-eq_of_lt, mod_below, no_mark, not}
use Rattle.swp_frame.proofs.Words.{places_of_marks, places_put_in, pow_mono, pow_pos, read_on, refl, reverse, reverse-append, run_after, run_bits, run_of}
use Rattle.swp_frame.proofs.Words.{shl-shr, since_start, spelled_number, subst, suc, sym, take, trailing_ones, trailing_zeros, true, unstuffed, w64, zero, ℕ}
use Rattle.swp_frame.proofs.Words.{◌%◌, ◌*◌, ◌++◌, ◌+◌, ◌-◌, ◌/◌, ◌<◌, ◌^◌, ◌∙◌, ◌∷◌, ◌≡◌, ◌≢◌, ◌≤◌}
use Rattle.swp_base.specs.Bits.{bits_of_byte}
use Rattle.swp_crc.proofs.Numbers.{number_of-injective, number_of-lt, number_of-append}
use Rattle.swp_frame.specs.Words.{low_bits}
use Rattle.swp_frame.specs.declared.content.Content.{Content}
use Rattle.swp_frame.specs.Signal.{break, end_mark, since_mark, start_mark}
use Rattle.swp_frame.specs.Kept.{KeepsOpen, KeepsSince, with_zero}
use mir.Val.{bool_byte}
use mathlib.Core.Logic.{inl, inr}
use lib.Count.{count_trailing_zeros}

pub length-low_bits : (n x : ℕ) → length (low_bits n x) ≡ n
unfolding low_bits
length-low_bits zero x = refl
length-low_bits (suc n) x = ap suc (length-low_bits n x)

-- a bit in front
number_of-front : (b : Bool) (bits : List Bool) (d n : ℕ) → d < 2 → length bits ≡ n → b ≡ eqb d 1 → spelled_number (b ∷ bits) ≡ d * 2 ^ n + spelled_number bits
number_of-front b bits d n h l e = grind arith

pub number_of-low_bits : (n x : ℕ) → spelled_number (low_bits n x) ≡ x % 2 ^ n
unfolding low_bits
number_of-low_bits zero x = omega arith
number_of-low_bits (suc n) x =
    number_of-front (bit x n) (low_bits n x) (bit_at x n) n (omega arith) (length-low_bits n x) refl
    ∙ ap (λ m. bit_at x n * 2 ^ n + m) (number_of-low_bits n x) ∙ sym (mod-pow-add x 1 n) ∙ ap (λ k. x % 2 ^ k) (omega arith)

-- bits are those of their number
pub low_bits-number_of : (bits : List Bool) (n : ℕ) → length bits ≡ n → low_bits n (spelled_number bits) ≡ bits
low_bits-number_of bits n l =
    number_of-injective (low_bits n (spelled_number bits)) bits (length-low_bits n (spelled_number bits) ∙ sym l)
    (number_of-low_bits n (spelled_number bits) ∙ mod-eq_of_lt (subst (λ k. spelled_number bits < 2 ^ k) l (number_of-lt bits)))

-- numbers that end with the same bits
pub low_bits-same : (n x y : ℕ) → x % 2 ^ n ≡ y % 2 ^ n → low_bits n x ≡ low_bits n y
low_bits-same n x y e =
    number_of-injective (low_bits n x) (low_bits n y) (length-low_bits n x ∙ sym (length-low_bits n y))
    (number_of-low_bits n x ∙ e ∙ sym (number_of-low_bits n y))

-- a bit that stands further up
bit_further : (a b n x : ℕ) → n ≡ a + b → bit x n ≡ bit (x / 2 ^ b) a
bit_further a b n x e = ap (λ k. eqb (k % 2) 1) (ap (λ k. x / 2 ^ k) (omega (arith, e)) ∙ sym (shr-shr x b a))

-- more bits in front
pub low_bits-add : (a b n x : ℕ) → n ≡ a + b → low_bits n x ≡ low_bits a (x / 2 ^ b) ++ low_bits b x
unfolding low_bits
low_bits-add zero b n x e = ap (λ k. low_bits k x) (omega (arith, e))
low_bits-add (suc a) b zero x e = absurd (omega (arith, e))
low_bits-add (suc a) b (suc n) x e =
    ap (λ d. d ∷ low_bits n x) (bit_further a b n x (omega (arith, e)))
    ∙ ap (λ bits. bit (x / 2 ^ b) a ∷ bits) (low_bits-add a b n x (omega (arith, e)))

pub drop-low_bits : (a b n x : ℕ) → n ≡ a + b → drop a (low_bits n x) ≡ low_bits b x
unfolding low_bits
drop-low_bits zero b n x e = ap (λ k. low_bits k x) (omega (arith, e))
drop-low_bits (suc a) b zero x e = absurd (omega (arith, e))
drop-low_bits (suc a) b (suc n) x e = drop-low_bits a b n x (omega (arith, e))

pub take-low_bits : (a b n x : ℕ) → n ≡ a + b → take a (low_bits n x) ≡ low_bits a (x / 2 ^ b)
unfolding low_bits
take-low_bits zero b n x e = refl
take-low_bits (suc a) b zero x e = absurd (omega (arith, e))
take-low_bits (suc a) b (suc n) x e =
    ap (λ d. d ∷ take a (low_bits n x)) (bit_further a b n x (omega (arith, e)))
    ∙ ap (λ bits. bit (x / 2 ^ b) a ∷ bits) (take-low_bits a b n x (omega (arith, e)))

-- the bit at a place, counted from the most significant
pub low_bits-at : (n i x : ℕ) → i < n → get_or (low_bits n x) i false ≡ bit x (n - 1 - i)
unfolding low_bits
low_bits-at zero i x h = absurd (omega (arith, h))
low_bits-at (suc n) zero x h = ap (bit x) (omega arith)
low_bits-at (suc n) (suc i) x h = low_bits-at n i x (omega (arith, h)) ∙ ap (bit x) (omega arith)

-- bits from one place up to another
pub low_bits-between : (w from width : ℕ) → (x : ℕ) → from + width ≤ w
    → low_bits width (x / 2 ^ (w - (from + width)) % 2 ^ width) ≡ take width (drop from (low_bits w x))
low_bits-between w from width x h =
    let low : ℕ = w - (from + width) in
    low_bits-same width (x / 2 ^ low % 2 ^ width) (x / 2 ^ low) (mod-eq_of_lt (mod_below (x / 2 ^ low) (2 ^ width) (pow_pos width)))
    ∙ sym (take-low_bits width low (width + low) x refl)
    ∙ ap (take width) (sym (drop-low_bits from (width + low) w x (omega arith)))

-- the shifts that give them
pub shifted_field : (x from width : ℕ) → from + width ≤ 64 → x * 2 ^ from % 2 ^ 64 / 2 ^ (64 - width) ≡ x / 2 ^ (64 - (from + width)) % 2 ^ width
shifted_field x from width h =
    let low : ℕ = 64 - (from + width) in
    let kept : ℕ = x % 2 ^ (width + low) in
    let below : kept * 2 ^ from < 2 ^ (width + low + from) = shl_below kept (width + low) from (mod_below x (2 ^ (width + low)) (pow_pos (width + low))) in
    let places : width + low + from ≡ 64 = omega arith in
    let cut : 64 - width ≡ from + low = omega arith in
    let split : x * 2 ^ from ≡ x / 2 ^ (width + low) * 2 ^ (width + low + from) + kept * 2 ^ from =
    ap (λ n. n * 2 ^ from) (sym (shr_split x (width + low)))
    ∙ spread (x / 2 ^ (width + low)) (2 ^ (width + low)) (2 ^ from) kept (2 ^ (width + low + from)) (pow-add 2 (width + low) from) in
    let whole : x * 2 ^ from % 2 ^ (width + low + from) ≡ kept * 2 ^ from = grind arith in
    ap₂ (λ n k. x * 2 ^ from % 2 ^ n / 2 ^ k) (sym places) cut
    ∙ ap (λ n. n / 2 ^ (from + low)) whole
    ∙ sym (shr-shr (kept * 2 ^ from) from low)
    ∙ ap (λ n. n / 2 ^ low) (shl-shr kept from)
    ∙ field_of x width low
  where
    spread : (q a b r p : ℕ) → p ≡ a * b → (q * a + r) * b ≡ q * p + r * b
    spread q a b r p e = rw e (omega arith)

-- the bits of a byte
pub byte_bits : (b : ℕ) → bits_of_byte b ≡ low_bits 8 b
unfolding bits_of_byte low_bits
byte_bits b = refl

-- the bits of a number cut to more than so many
pub mod-cut : (n w x : ℕ) → n ≤ w → x % 2 ^ w % 2 ^ n ≡ x % 2 ^ n
mod-cut n w x h =
    ap (λ k. x % 2 ^ k % 2 ^ n) (omega (arith, h)) ∙ ap (λ m. m % 2 ^ n) (mod-pow-add x (w - n) n)
    ∙ mod_low (x / 2 ^ n % 2 ^ (w - n)) n (x % 2 ^ n) (mod_below x (2 ^ n) (pow_pos n))

low_bits-cut : (n w x : ℕ) → n ≤ w → low_bits n (x % 2 ^ w) ≡ low_bits n x
low_bits-cut n w x h = low_bits-same n (x % 2 ^ w) x (mod-cut n w x h)

-- a byte more behind the lowest bits of a word
pub low_bits-shifted : (n x b : ℕ) → n ≤ 56 → b < 256 → low_bits (n + 8) (x * 2 ^ 8 % 2 ^ 64 + b) ≡ low_bits n x ++ bits_of_byte b
low_bits-shifted n x b few small =
    let whole : ℕ = x * 2 ^ 8 % 2 ^ 64 + b in
    low_bits-add n 8 (n + 8) whole refl
    ∙ ap₂ (λ xs ys. xs ++ ys)
    (ap (low_bits n) (omega (arith, small)) ∙ low_bits-cut n 56 x few)
    (low_bits-same 8 whole b (omega (arith, small)) ∙ sym (byte_bits b))

-- ---- a number of some bits, and more bits behind it

-- a number of f bits with w more bits behind it has f + w bits
pub joined_fits : (p v f w : ℕ) → p < 2 ^ f → v < 2 ^ w → p * 2 ^ w + v < 2 ^ (f + w)
joined_fits p v f w a b =
    let whole : (p + 1) * 2 ^ w ≤ 2 ^ f * 2 ^ w = mul-le-mul_right (2 ^ w) (omega arith) in
    omega (arith, whole, pow-add 2 f w)

-- so many bits fit sixty-four
pub fits_word : (p v f w : ℕ) → p < 2 ^ f → v < 2 ^ w → f + w ≤ 64 → p * 2 ^ w + v < 2 ^ 64
fits_word p v f w a b h =
    let bound : 2 ^ (f + w) ≤ 2 ^ 64 = pow_mono {i = f + w} {j = 64} h in omega (arith, joined_fits p v f w a b, bound)

pub no_wrap : (p f w : ℕ) → p < 2 ^ f → f + w ≤ 64 → p * 2 ^ w % 2 ^ 64 ≡ p * 2 ^ w
no_wrap p f w a h = mod-eq_of_lt (omega (arith, fits_word p 0 f w a (pow_pos w) h))

-- a shift to the top in two steps, neither of them by sixty-four
pub to_top : (p f : ℕ) → p < 2 ^ f → f < 64 → p * 2 ^ (63 - f) % 2 ^ 64 * 2 % 2 ^ 64 ≡ p * 2 ^ (64 - f)
to_top p f a h =
    let twice : p * 2 ^ (63 - f) * 2 ≡ p * 2 ^ (64 - f) =
    moved p (2 ^ (63 - f)) (2 ^ (64 - f)) (ap (λ n. 2 ^ n) (omega (arith, h)) ∙ pow-suc 2 (63 - f)) in
    ap (λ n. n * 2 % 2 ^ 64) (no_wrap p f (63 - f) a (omega (arith, h)))
    ∙ ap (λ n. n % 2 ^ 64) twice ∙ mod-eq_of_lt (omega (arith, fits_word p 0 f (64 - f) a (pow_pos (64 - f)) (omega (arith, h))))
  where
    moved : (p a b : ℕ) → b ≡ a * 2 → p * a * 2 ≡ p * b
    moved p a b e = rw e (omega arith)

-- the bits above the last s of p and v joined, and those last
pub upper_joined : (p v f w s : ℕ) → v < 2 ^ w → f + w ≡ 64 + s → f ≤ 64 → (p * 2 ^ w + v) / 2 ^ s ≡ p * 2 ^ (64 - f) + v / 2 ^ s
upper_joined p v f w s b e h =
    ap (λ n. (p * n + v) / 2 ^ s) (ap (λ n. 2 ^ n) (omega (arith, e, h)) ∙ pow-add 2 (64 - f) s)
    ∙ ap (λ n. n / 2 ^ s) (gathered p (2 ^ (64 - f)) (2 ^ s) v (v / 2 ^ s) (v % 2 ^ s) (shr_split v s))
    ∙ shr_high (p * 2 ^ (64 - f) + v / 2 ^ s) s (v % 2 ^ s) (mod_below v (2 ^ s) (pow_pos s))
  where
    gathered : (p a b v q r : ℕ) → q * b + r ≡ v → p * (a * b) + v ≡ (p * a + q) * b + r
    gathered p a b v q r e = rw (← e) (omega arith)

pub lower_joined : (p v f w s : ℕ) → f + w ≡ 64 + s → f ≤ 64 → (p * 2 ^ w + v) % 2 ^ s ≡ v % 2 ^ s
lower_joined p v f w s e h =
    ap (λ n. (p * n + v) % 2 ^ s) (ap (λ n. 2 ^ n) (omega (arith, e, h)) ∙ pow-add 2 (64 - f) s)
    ∙ ap (λ n. n % 2 ^ s) (gathered p (2 ^ (64 - f)) (2 ^ s) v (v / 2 ^ s) (v % 2 ^ s) (shr_split v s))
    ∙ mod_low (p * 2 ^ (64 - f) + v / 2 ^ s) s (v % 2 ^ s) (mod_below v (2 ^ s) (pow_pos s))
  where
    gathered : (p a b v q r : ℕ) → q * b + r ≡ v → p * (a * b) + v ≡ (p * a + q) * b + r
    gathered p a b v q r e = rw (← e) (omega arith)

-- the word that is then whole fits
pub upper_fits : (p v f w s : ℕ) → p < 2 ^ f → v < 2 ^ w → f + w ≡ 64 + s → f ≤ 64 → p * 2 ^ (64 - f) + v / 2 ^ s < 2 ^ 64
upper_fits p v f w s a b e h =
    fits_word p (v / 2 ^ s) f (64 - f) a (shr_below v (64 - f) s (subst (λ n. v < 2 ^ n) (omega (arith, e, h)) b)) (omega (arith, h))

-- ---- runs of 1 bits, and what was read since the start of a frame

zero_run : (starts : Bool) (before : Option (List Symbol)) (since : List Symbol)
    → since_mark (cond starts start_mark no_mark) bit_0 before ≡ Some since → run_of since ≡ 0
zero_run starts before since e = grind arith

one_run : (ends : Bool) (before : Option (List Symbol)) (since older : List Symbol) → (run_of older ≡ 6 → ends ≡ true)
    → ((s : List Symbol) → before ≡ Some s → (run_of s ≡ run_of older) × (run_of older ≤ 6))
    → since_mark (cond ends end_mark no_mark) bit_1 before ≡ Some since → (run_of since ≡ suc (run_of older)) × (suc (run_of older) ≤ 6)
one_run true before since older six hyp e = absurd (cc)
one_run false None since older six hyp e = absurd (cc)
one_run false (Some s) since older six hyp e =
    let same : bit_1 ∷ s ≡ since = cc in
    let inner = hyp s refl in
    let other : run_of older ≢ 6 = λ h. absurd (false_is_true (six h)) in
    (ap run_of (sym same) ∙ ap suc inner.0, omega (arith, inner.1, other))
  where
    false_is_true : false ≡ true → ⊥
    false_is_true h = cc

-- the run of 1 bits lies behind the start of the frame, and has at most six
pub since_run : (seen since : List Symbol) → since_start seen ≡ Some since → (run_of since ≡ run_of seen) × (run_of seen ≤ 6)
since_run [] since e = absurd (cc)
since_run (bit_0 ∷ older) since e = (zero_run (eqb (run_of older) 6) (since_start older) since e, omega arith)
since_run (bit_1 ∷ older) since e = one_run (eqb (run_of older) 6) (since_start older) since older (eq-eqb (run_of older) 6) (λ s h. since_run older s h) e
since_run (break ∷ older) since e = absurd (cc)

pub drop_run : (since : List Symbol) → drop (suc (run_of since)) since ≡ drop 1 (before_run since)
drop_run [] = refl
drop_run (bit_0 ∷ older) = refl
drop_run (bit_1 ∷ older) = drop_run older
drop_run (break ∷ older) = refl

pub unstuffed_run : (since : List Symbol) → unstuffed since ≡ replicate (run_of since) true ++ unstuffed (before_run since)
unstuffed_run [] = refl
unstuffed_run (bit_0 ∷ older) = refl
unstuffed_run (bit_1 ∷ older) = ap (λ xs. true ∷ xs) (unstuffed_run older)
unstuffed_run (break ∷ older) = refl

ones-push : (n : ℕ) → replicate n true ++ true ∷ [] ≡ true ∷ replicate n true
ones-push zero = refl
ones-push (suc n) = ap (λ xs. true ∷ xs) (ones-push n)

reverse-ones : (n : ℕ) → reverse (replicate n true) ≡ replicate n true
reverse-ones zero = refl
reverse-ones (suc n) = reverse-append (true ∷ []) (replicate n true) ∙ ap (λ xs. xs ++ true ∷ []) (reverse-ones n) ∙ ones-push n

pub reverse-run : (counts : Bool) (n : ℕ) (bits : List Bool) → reverse (replicate n true ++ with_zero counts bits) ≡ reverse bits ++ run_bits counts n
reverse-run true n bits =
    reverse-append (replicate n true) (false ∷ bits)
    ∙ ap (λ xs. xs ++ reverse (replicate n true)) (reverse-append (false ∷ []) bits)
    ∙ append_assoc (reverse bits) (false ∷ []) (reverse (replicate n true))
    ∙ ap (λ xs. reverse bits ++ (false ∷ xs)) (reverse-ones n)
reverse-run false n bits = reverse-append (replicate n true) bits ∙ ap (λ xs. reverse bits ++ xs) (reverse-ones n)

-- what is kept of an open frame
pub opened : (is_open : Bool) (kept : Content) (since : Option (List Symbol)) → KeepsOpen is_open kept since → is_open ≡ true
    → (s : List Symbol) × ((since ≡ Some s) × KeepsSince kept s)
opened is_open kept since h e = grind arith

pub closed : (is_open : Bool) (kept : Content) (since : Option (List Symbol)) → KeepsOpen is_open kept since → is_open ≡ false → since ≡ None
closed is_open kept since h e = grind arith

-- an open frame stays open
pub still_open : (is_open : Bool) (kept : Content) (since : Option (List Symbol)) (s : List Symbol) → is_open ≡ true → since ≡ Some s → KeepsSince kept s
    → KeepsOpen is_open kept since
still_open is_open kept since s e is h = grind arith

-- all bits since the start of a frame, from those before the last run of 1 bits
pub since_bits : (counts : Bool) (since : List Symbol) → CountsLastZero counts since
    → reverse (unstuffed since) ≡ reverse (unstuffed (drop 1 (before_run since))) ++ run_bits counts (run_of since)
since_bits counts since h =
    ap reverse (unstuffed_run since ∙ ap (λ xs. replicate (run_of since) true ++ xs) h)
    ∙ reverse-run counts (run_of since) (unstuffed (drop 1 (before_run since)))

-- the bit that a bit adds to the content, where it is content
abbrev pub added : Bool → Bool → List Bool
added bit true = bit ∷ []
added bit false = []

-- a 0 is read, which was put in where it stands behind five 1 bits
pub zero_content : (since : List Symbol) (content : Bool) → content ≡ not (eqb (run_of since) 5)
    → reverse (unstuffed since) ++ added false content ≡ reverse (unstuffed (bit_0 ∷ since))
zero_content since content is = go (eqb (run_of since) 5) content is
  where
    go : (put_in content : Bool) → content ≡ not put_in
        → reverse (unstuffed since) ++ added false content ≡ reverse (cond put_in (unstuffed since) (false ∷ unstuffed since))
    go true content e = rw e (append-nil (reverse (unstuffed since)))
    go false content e = rw e (sym (reverse-append (false ∷ []) (unstuffed since)))

pub zero_counts : (since : List Symbol) (content : Bool) → content ≡ not (eqb (run_of since) 5) → CountsLastZero content (bit_0 ∷ since)
zero_counts since content is = grind arith

-- ---- parts of a word: which of their bits were put in, and what is left without those

-- ---- places in a part

pub length-put_in : (ones : ℕ) (bits : List Bool) → length (places_put_in ones bits) ≡ length bits
length-put_in ones [] = refl
length-put_in ones (true ∷ bits) = ap suc (length-put_in (suc ones) bits)
length-put_in ones (false ∷ bits) = ap suc (length-put_in 0 bits)

length-marks : (ones : ℕ) (bits : List Bool) → length (places_of_marks ones bits) ≡ length bits
length-marks ones [] = refl
length-marks ones (true ∷ bits) = ap suc (length-marks (suc ones) bits)
length-marks ones (false ∷ bits) = ap suc (length-marks 0 bits)

take-put_in : (n ones : ℕ) (bits : List Bool) → take n (places_put_in ones bits) ≡ places_put_in ones (take n bits)
take-put_in zero ones bits = refl
take-put_in (suc n) ones [] = refl
take-put_in (suc n) ones (true ∷ bits) = ap (λ xs. false ∷ xs) (take-put_in n (suc ones) bits)
take-put_in (suc n) ones (false ∷ bits) = ap (λ xs. eqb ones 5 ∷ xs) (take-put_in n 0 bits)

drop-put_in : (n ones : ℕ) (bits : List Bool) → drop n (places_put_in ones bits) ≡ places_put_in (run_after ones (take n bits)) (drop n bits)
drop-put_in zero ones bits = refl
drop-put_in (suc n) ones [] = refl
drop-put_in (suc n) ones (true ∷ bits) = drop-put_in n (suc ones) bits
drop-put_in (suc n) ones (false ∷ bits) = drop-put_in n 0 bits

take-marks : (n ones : ℕ) (bits : List Bool) → take n (places_of_marks ones bits) ≡ places_of_marks ones (take n bits)
take-marks zero ones bits = refl
take-marks (suc n) ones [] = refl
take-marks (suc n) ones (true ∷ bits) = ap (λ xs. eqb ones 6 ∷ xs) (take-marks n (suc ones) bits)
take-marks (suc n) ones (false ∷ bits) = ap (λ xs. eqb ones 6 ∷ xs) (take-marks n 0 bits)

drop-marks : (n ones : ℕ) (bits : List Bool) → drop n (places_of_marks ones bits) ≡ places_of_marks (run_after ones (take n bits)) (drop n bits)
drop-marks zero ones bits = refl
drop-marks (suc n) ones [] = refl
drop-marks (suc n) ones (true ∷ bits) = drop-marks n (suc ones) bits
drop-marks (suc n) ones (false ∷ bits) = drop-marks n 0 bits

-- the places put in of a part, from those of the whole
pub put_in_between : (w from width ones x given : ℕ) → from + width ≤ w → given ≡ spelled_number (places_put_in ones (low_bits w x))
    → given / 2 ^ (w - (from + width)) % 2 ^ width
    ≡ spelled_number (places_put_in (run_after ones (take from (low_bits w x))) (take width (drop from (low_bits w x))))
put_in_between w from width ones x given h is =
    let bits = low_bits w x in
    let places = places_put_in ones bits in
    let field : ℕ = given / 2 ^ (w - (from + width)) in
    let same : low_bits w given ≡ places = ap (low_bits w) is ∙ low_bits-number_of places w (length-put_in ones bits ∙ length-low_bits w x) in
    sym (number_of-low_bits width (field % 2 ^ width) ∙ mod-eq_of_lt (mod_below field (2 ^ width) (pow_pos width)))
    ∙ ap spelled_number (low_bits-between w from width given h)
    ∙ ap (λ xs. spelled_number (take width (drop from xs))) same
    ∙ ap (λ xs. spelled_number (take width xs)) (drop-put_in from ones bits)
    ∙ ap spelled_number (take-put_in width (run_after ones (take from bits)) (drop from bits))

-- the marks in a part, from those of the whole
pub marks_between : (w from width ones x given : ℕ) → from + width ≤ w → given ≡ spelled_number (places_of_marks ones (low_bits w x))
    → given / 2 ^ (w - (from + width)) % 2 ^ width
    ≡ spelled_number (places_of_marks (run_after ones (take from (low_bits w x))) (take width (drop from (low_bits w x))))
marks_between w from width ones x given h is =
    let bits = low_bits w x in
    let places = places_of_marks ones bits in
    let field : ℕ = given / 2 ^ (w - (from + width)) in
    let same : low_bits w given ≡ places = ap (low_bits w) is ∙ low_bits-number_of places w (length-marks ones bits ∙ length-low_bits w x) in
    sym (number_of-low_bits width (field % 2 ^ width) ∙ mod-eq_of_lt (mod_below field (2 ^ width) (pow_pos width)))
    ∙ ap spelled_number (low_bits-between w from width given h)
    ∙ ap (λ xs. spelled_number (take width (drop from xs))) same
    ∙ ap (λ xs. spelled_number (take width xs)) (drop-marks from ones bits)
    ∙ ap spelled_number (take-marks width (run_after ones (take from bits)) (drop from bits))

-- a great run is counted as 7
same_five : (r s : ℕ) → min 7 r ≡ min 7 s → eqb r 5 ≡ eqb s 5
same_five r s h = grind arith

same_six : (r s : ℕ) → min 7 r ≡ min 7 s → eqb r 6 ≡ eqb s 6
same_six r s h = grind arith

pub same_put_in : (r s : ℕ) (bits : List Bool) → min 7 r ≡ min 7 s → places_put_in r bits ≡ places_put_in s bits
same_put_in r s [] h = refl
same_put_in r s (true ∷ bits) h = ap (λ xs. false ∷ xs) (same_put_in (suc r) (suc s) bits (omega (arith, h)))
same_put_in r s (false ∷ bits) h = ap (λ x. x ∷ places_put_in 0 bits) (same_five r s h)

pub same_marks : (r s : ℕ) (bits : List Bool) → min 7 r ≡ min 7 s → places_of_marks r bits ≡ places_of_marks s bits
same_marks r s [] h = refl
same_marks r s (true ∷ bits) h = ap₂ (λ x xs. x ∷ xs) (same_six r s h) (same_marks (suc r) (suc s) bits (omega (arith, h)))
same_marks r s (false ∷ bits) h = ap (λ x. x ∷ places_of_marks 0 bits) (same_six r s h)

pub same_run : (r s : ℕ) (bits : List Bool) → min 7 r ≡ min 7 s → min 7 (run_after r bits) ≡ min 7 (run_after s bits)
same_run r s [] h = h
same_run r s (true ∷ bits) h = same_run (suc r) (suc s) bits (omega (arith, h))
same_run r s (false ∷ bits) h = refl

none_first : (place : Bool) (places : List Bool) → spelled_number (place ∷ places) ≡ 0 → (place ≡ false) × (spelled_number places ≡ 0)
none_first true places h = absurd (omega (arith, h, pow_pos (length places)))
none_first false places h = (refl, h)

-- where none of these places is one of a mark, no mark ends there
pub no_marks : (seen : List Symbol) (bits : List Bool) → spelled_number (places_of_marks (run_of seen) bits) ≡ 0 → HasNoMark seen bits
no_marks seen [] h = tt
no_marks seen (true ∷ bits) h =
    let first = none_first (eqb (run_of seen) 6) (places_of_marks (suc (run_of seen)) bits) h in
    (ap (λ six. cond six end_mark no_mark) first.0, no_marks (bit_1 ∷ seen) bits first.1)
no_marks seen (false ∷ bits) h =
    let first = none_first (eqb (run_of seen) 6) (places_of_marks 0 bits) h in
    (ap (λ six. cond six start_mark no_mark) first.0, no_marks (bit_0 ∷ seen) bits first.1)

-- ---- the bits that were not put in

-- bits without those at these places
abbrev pub without : List Bool → List Bool → List Bool
without [] bits = bits
without (place ∷ places) [] = []
without (true ∷ places) (bit ∷ bits) = without places bits
without (false ∷ places) (bit ∷ bits) = bit ∷ without places bits

without_one : (places further bits later : List Bool) (bit : Bool) → length places ≡ length bits
    → without (places ++ true ∷ further) (bits ++ bit ∷ later) ≡ without (places ++ further) (bits ++ later)
without_one [] further [] later bit l = refl
without_one [] further (b ∷ bits) later bit l = absurd (omega (arith, l))
without_one (p ∷ places) further [] later bit l = absurd (omega (arith, l))
without_one (true ∷ places) further (b ∷ bits) later bit l = without_one places further bits later bit (omega (arith, l))
without_one (false ∷ places) further (b ∷ bits) later bit l = ap (λ xs. b ∷ xs) (without_one places further bits later bit (omega (arith, l)))

-- bits that are all 0, and all 1
zeros_of : (k n : ℕ) → ((i : ℕ) → i < k → bit_at n i ≡ 0) → n % 2 ^ k ≡ 0
zeros_of zero n h = omega arith
zeros_of (suc k) n h =
    let one = ap (λ j. n % 2 ^ j) (sym (omega arith)) ∙ mod-pow-add n 1 k in
    one ∙ ap₂ (λ d m. d * 2 ^ k + m) (h k (omega arith)) (zeros_of k n (λ i lt. h i (omega (arith, lt)))) ∙ omega arith

ones_of : (k n : ℕ) → ((i : ℕ) → i < k → bit_at n i ≡ 1) → low_bits k n ≡ replicate k true
unfolding low_bits
ones_of zero n h = refl
ones_of (suc k) n h = ap₂ (λ d bits. eqb d 1 ∷ bits) (h k (omega arith)) (ones_of k n (λ i lt. h i (omega (arith, lt))))

-- the bits above a place, the one there, and those below
low_bits_split : (w a t n : ℕ) → w ≡ a + suc t → low_bits w n ≡ low_bits a (n / 2 ^ suc t) ++ bit n t ∷ low_bits t n
unfolding low_bits
low_bits_split w a t n e = low_bits-add a (suc t) w n e

-- what is left of a number without the bit at a place
abbrev pub squeezed : ℕ → ℕ → ℕ
squeezed n t = n / 2 ^ suc t * 2 ^ t + n % 2 ^ t

upper_half : (n t : ℕ) → n < 2 ^ 64 → n / 2 ^ suc t * 2 ^ t < 2 ^ 64
upper_half n t h = grind arith

-- the same from what the code computes
pub upper_is : (n t : ℕ) → n < 2 ^ 64 → n / 2 ^ t / 2 * 2 ^ t % 2 ^ 64 ≡ n / 2 ^ suc t * 2 ^ t
upper_is n t h = ap (λ k. k * 2 ^ t % 2 ^ 64) (shr-shr n t 1 ∙ ap (λ k. n / 2 ^ k) (omega arith)) ∙ mod-eq_of_lt (upper_half n t h)

squeezed_bits : (a t n : ℕ) → low_bits (a + t) (squeezed n t) ≡ low_bits a (n / 2 ^ suc t) ++ low_bits t n
squeezed_bits a t n =
    let low : n % 2 ^ t < 2 ^ t = mod_below n (2 ^ t) (pow_pos t) in
    low_bits-add a t (a + t) (squeezed n t) refl
    ∙ ap₂ (λ xs ys. xs ++ ys)
    (ap (low_bits a) (shr_high (n / 2 ^ suc t) t (n % 2 ^ t) low))
    (low_bits-same t (squeezed n t) n (mod_low (n / 2 ^ suc t) t (n % 2 ^ t) low))

squeezed_fits : (a t n : ℕ) → n < 2 ^ (a + suc t) → squeezed n t < 2 ^ (a + t)
squeezed_fits a t n h = joined_fits (n / 2 ^ suc t) (n % 2 ^ t) a t (shr_below n a (suc t) h) (mod_below n (2 ^ t) (pow_pos t))

-- the last of some places is left out
pub record IsRemoved (w bits places t : ℕ) : Type 0 where
  pub within : t < w
  pub bits_fit : squeezed bits t < 2 ^ (w - 1)
  pub places_fit : places / 2 ^ suc t * 2 ^ t < 2 ^ (w - 1)
  pub same : without (low_bits (w - 1) (places / 2 ^ suc t * 2 ^ t)) (low_bits (w - 1) (squeezed bits t)) ≡ without (low_bits w places) (low_bits w bits)

pub removed : (w bits places t : ℕ) → w ≤ 64 → bits < 2 ^ w → places < 2 ^ w → 0 < places → t ≡ trailing_zeros w64 places → IsRemoved w bits places t
removed w bits places t few bits_fit places_fit some is =
    let last = bit_at-trailing_zeros w64 places some (omega (arith, places_fit, pow_mono {i = w} {j = 64} few)) in
    let one : bit_at places t ≡ 1 = rw is last.1 in
    let none : (i : ℕ) → i < t → bit_at places i ≡ 0 = rw is last.2 in
    let within : t < w = elim (cases_lt t w) [
      | inl lt ↦ lt
      | inr over ↦ absurd (omega (arith, one, bit_at_above places w t places_fit over))
    ] in
    go w bits places t bits_fit places_fit one (zeros_of t places none) within
  where
    go : (w bits places t : ℕ) → bits < 2 ^ w → places < 2 ^ w → bit_at places t ≡ 1 → places % 2 ^ t ≡ 0 → t < w → IsRemoved w bits places t
    go w bits places t bits_fit places_fit one none within =
        let a : ℕ = w - suc t in
        let above : w ≡ a + suc t = omega (arith, within) in
        let below : a + t ≡ w - 1 = omega (arith, within) in
        let kept : squeezed places t ≡ places / 2 ^ suc t * 2 ^ t = omega (arith, none) in
        record {
          within = within;
          bits_fit = subst (λ k. squeezed bits t < 2 ^ k) below (squeezed_fits a t bits (subst (λ k. bits < 2 ^ k) above bits_fit));
          places_fit = subst (λ k. k < 2 ^ (w - 1)) kept
              (subst (λ k. squeezed places t < 2 ^ k) below (squeezed_fits a t places (subst (λ k. places < 2 ^ k) above places_fit)));
          same =
              ap₂ (λ xs ys. without xs ys)
              (ap₂ low_bits (sym below) (sym kept) ∙ squeezed_bits a t places)
              (ap (λ k. low_bits k (squeezed bits t)) (sym below) ∙ squeezed_bits a t bits)
              ∙ sym (without_one (low_bits a (places / 2 ^ suc t)) (low_bits t places) (low_bits a (bits / 2 ^ suc t)) (low_bits t bits) (bit bits t)
              (length-low_bits a (places / 2 ^ suc t) ∙ sym (length-low_bits a (bits / 2 ^ suc t))))
              ∙ sym (ap₂ (λ xs ys. without xs ys)
              (low_bits_split w a t places above ∙ ap (λ d. low_bits a (places / 2 ^ suc t) ++ eqb d 1 ∷ low_bits t places) one)
              (low_bits_split w a t bits above));
        }

-- nothing is left out
pub without_none : (w : ℕ) (bits : List Bool) → length bits ≡ w → without (low_bits w 0) bits ≡ bits
unfolding low_bits
without_none zero bits l = refl
without_none (suc w) [] l = absurd (omega (arith, l))
without_none (suc w) (b ∷ bits) l =
    ap (λ d. without (eqb d 1 ∷ low_bits w 0) (b ∷ bits)) (bit_at-zero w) ∙ ap (λ xs. b ∷ xs) (without_none w bits (omega (arith, l)))

abbrev pub kept_of : ℕ → List Bool → List Bool
kept_of ones [] = []
kept_of ones (true ∷ bits) = true ∷ kept_of (suc ones) bits
kept_of ones (false ∷ bits) = added false (not (eqb ones 5)) ++ kept_of 0 bits

-- whether the last 0 was content
abbrev pub zero_of : Bool → ℕ → List Bool → Bool
zero_of z ones [] = z
zero_of z ones (true ∷ bits) = zero_of z (suc ones) bits
zero_of z ones (false ∷ bits) = zero_of (not (eqb ones 5)) 0 bits

pub kept_content : (seen : List Symbol) (bits : List Bool) → reverse (unstuffed seen) ++ kept_of (run_of seen) bits ≡ reverse (unstuffed (read_on seen bits))
kept_content seen [] = append-nil (reverse (unstuffed seen))
kept_content seen (true ∷ bits) =
    sym (append_assoc (reverse (unstuffed seen)) (true ∷ []) (kept_of (suc (run_of seen)) bits))
    ∙ ap (λ l. l ++ kept_of (suc (run_of seen)) bits) (sym (reverse-append (true ∷ []) (unstuffed seen)))
    ∙ kept_content (bit_1 ∷ seen) bits
kept_content seen (false ∷ bits) =
    sym (append_assoc (reverse (unstuffed seen)) (added false (not (eqb (run_of seen) 5))) (kept_of 0 bits))
    ∙ ap (λ l. l ++ kept_of 0 bits) (zero_content seen (not (eqb (run_of seen) 5)) refl)
    ∙ kept_content (bit_0 ∷ seen) bits

pub kept_zero : (seen : List Symbol) (z : Bool) (bits : List Bool) → CountsLastZero z seen → CountsLastZero (zero_of z (run_of seen) bits) (read_on seen bits)
kept_zero seen z [] counts = counts
kept_zero seen z (true ∷ bits) counts = kept_zero (bit_1 ∷ seen) z bits counts
kept_zero seen z (false ∷ bits) counts = kept_zero (bit_0 ∷ seen) (not (eqb (run_of seen) 5)) bits (zero_counts seen (not (eqb (run_of seen) 5)) refl)

pub without-put_in : (ones : ℕ) (bits : List Bool) → without (places_put_in ones bits) bits ≡ kept_of ones bits
without-put_in ones [] = refl
without-put_in ones (true ∷ bits) = ap (λ xs. true ∷ xs) (without-put_in (suc ones) bits)
without-put_in ones (false ∷ bits) = one (eqb ones 5) (without-put_in 0 bits)
  where
    one : (put_in : Bool) → without (places_put_in 0 bits) bits ≡ kept_of 0 bits
        → without (put_in ∷ places_put_in 0 bits) (false ∷ bits) ≡ added false (not put_in) ++ kept_of 0 bits
    one put_in e = grind arith

-- ---- the 1 bits at the end

-- a number whose lowest bits are so many 1 bits
pub data EndsIn (w n : ℕ) (ones : ℕ) : Type 0 where
  all_ones : w ≤ ones → low_bits w n ≡ replicate w true → EndsIn w n ones
  last_zero : ones < w → low_bits w n ≡ low_bits (w - suc ones) (n / 2 ^ suc ones) ++ false ∷ replicate ones true → EndsIn w n ones

pub ends_in : (w n ones : ℕ) → w ≤ 64 → n < 2 ^ w → ones ≡ trailing_ones w64 n → EndsIn w n ones
unfolding count_trailing_zeros
ends_in w n ones few fits is = elim (cases_lt (n + 1) (2 ^ 64)) [
  | inl some ↦ let there = bit_at-trailing_ones w64 n some in zero_there (rw is there.1) (rw is there.2)
  | inr over ↦ full (omega (arith, over, fits, pow_mono {i = w} {j = 64} few))
]
  where
    zero_there : bit_at n ones ≡ 0 → ((i : ℕ) → i < ones → bit_at n i ≡ 1) → EndsIn w n ones
    zero_there none one = elim (cases_lt ones w) [
      | inl lt ↦ last_zero lt
          (low_bits_split w (w - suc ones) ones n (omega (arith, lt))
          ∙ ap₂ (λ d bits. low_bits (w - suc ones) (n / 2 ^ suc ones) ++ eqb d 1 ∷ bits) none (ones_of ones n one))
      | inr over ↦ all_ones over (ones_of w n (λ i lt. one i (omega (arith, lt, over))))
    ]

    full : n ≡ 2 ^ 64 - 1 → EndsIn w n ones
    full e =
        let all : ones ≡ 64 = is ∙ ap (trailing_ones w64) e in
        all_ones (omega (arith, all, few)) (ones_of w n (λ i lt. ap (λ m. bit_at m i) e ∙ bit_at_ones 64 i (omega (arith, lt, few))))

run_after-ones : (k ones : ℕ) → run_after ones (replicate k true) ≡ ones + k
run_after-ones zero ones = omega arith
run_after-ones (suc k) ones = run_after-ones k (suc ones) ∙ omega arith

run_after-zero : (ones k : ℕ) (bits : List Bool) → run_after ones (bits ++ false ∷ replicate k true) ≡ k
run_after-zero ones k [] = run_after-ones k 0 ∙ omega arith
run_after-zero ones k (true ∷ bits) = run_after-zero (suc ones) k bits
run_after-zero ones k (false ∷ bits) = run_after-zero 0 k bits

pub run_at_end : (w n ones before : ℕ) → EndsIn w n ones
    → (w ≤ ones → run_after before (low_bits w n) ≡ before + w) × (ones < w → run_after before (low_bits w n) ≡ ones)
run_at_end w n ones before (all_ones over is) = ((λ _. ap (run_after before) is ∙ run_after-ones w before), (λ lt. absurd (omega (arith, lt, over))))
run_at_end w n ones before (last_zero lt is) =
    ((λ over. absurd (omega (arith, lt, over))), (λ _. ap (run_after before) is ∙ run_after-zero before ones (low_bits (w - suc ones) (n / 2 ^ suc ones))))

zero_of-ones : (k ones : ℕ) (z : Bool) → zero_of z ones (replicate k true) ≡ z
zero_of-ones zero ones z = refl
zero_of-ones (suc k) ones z = zero_of-ones k (suc ones) z

zero_of-zero : (ones k : ℕ) (z : Bool) (bits : List Bool) → zero_of z ones (bits ++ false ∷ replicate k true) ≡ not (eqb (run_after ones bits) 5)
zero_of-zero ones k z [] = zero_of-ones k 0 (not (eqb ones 5))
zero_of-zero ones k z (true ∷ bits) = zero_of-zero (suc ones) k z bits
zero_of-zero ones k z (false ∷ bits) = zero_of-zero 0 k (not (eqb ones 5)) bits

put_in-zero : (ones k : ℕ) (bits : List Bool)
    → places_put_in ones (bits ++ false ∷ replicate k true) ≡ places_put_in ones bits ++ eqb (run_after ones bits) 5 ∷ places_put_in 0 (replicate k true)
put_in-zero ones k [] = refl
put_in-zero ones k (true ∷ bits) = ap (λ xs. false ∷ xs) (put_in-zero (suc ones) k bits)
put_in-zero ones k (false ∷ bits) = ap (λ xs. eqb ones 5 ∷ xs) (put_in-zero 0 k bits)

-- the bit at a place of a number in three parts
middle : (xs ys : List Bool) (b : Bool) (k : ℕ) → length ys ≡ k → eqb (spelled_number (xs ++ b ∷ ys) / 2 ^ k % 2) 0 ≡ not b
middle xs ys b k l =
    let low : spelled_number ys < 2 ^ k = subst (λ n. spelled_number ys < 2 ^ n) l (number_of-lt ys) in
    let split : spelled_number (xs ++ b ∷ ys) ≡ (spelled_number xs * 2 + bool_byte b) * 2 ^ k + spelled_number ys =
    number_of-append xs (b ∷ ys) ∙ ap₂ (λ p n. spelled_number xs * p + n) (ap (λ n. 2 ^ suc n) l ∙ pow-suc 2 k) (front b ys k l)
    ∙ spread (spelled_number xs) (2 ^ k) (bool_byte b) (spelled_number ys) in
    ap (λ n. eqb (n % 2) 0) (ap (λ n. n / 2 ^ k) split ∙ shr_high (spelled_number xs * 2 + bool_byte b) k (spelled_number ys) low)
    ∙ parity (spelled_number xs) b
  where
    front : (b : Bool) (ys : List Bool) (k : ℕ) → length ys ≡ k → spelled_number (b ∷ ys) ≡ bool_byte b * 2 ^ k + spelled_number ys
    front b ys k l = grind arith

    spread : (q p d r : ℕ) → q * (p * 2) + (d * p + r) ≡ (q * 2 + d) * p + r
    spread q p d r = omega arith

    parity : (q : ℕ) (b : Bool) → eqb ((q * 2 + bool_byte b) % 2) 0 ≡ not b
    parity q b = grind arith

pub zero_at_end : (w n ones before given : ℕ) (z : Bool) → EndsIn w n ones → given ≡ spelled_number (places_put_in before (low_bits w n))
    → (w ≤ ones → zero_of z before (low_bits w n) ≡ z) × (ones < w → zero_of z before (low_bits w n) ≡ eqb (given / 2 ^ ones % 2) 0)
zero_at_end w n ones before given z (all_ones over is) e =
    ((λ _. ap (zero_of z before) is ∙ zero_of-ones w before z), (λ lt. absurd (omega (arith, lt, over))))
zero_at_end w n ones before given z (last_zero lt is) e =
    let upper = low_bits (w - suc ones) (n / 2 ^ suc ones) in
    let tail = places_put_in 0 (replicate ones true) in (
      (λ over. absurd (omega (arith, lt, over))),
      (λ _. ap (zero_of z before) is ∙ zero_of-zero before ones z upper
          ∙ sym (middle (places_put_in before upper) tail (eqb (run_after before upper) 5) ones
          (length-put_in 0 (replicate ones true) ∙ length-replicate ones true))
          ∙ ap (λ m. eqb (m / 2 ^ ones % 2) 0)
          (sym (e ∙ ap (λ xs. spelled_number (places_put_in before xs)) is ∙ ap spelled_number (put_in-zero before ones upper)))),
    )
