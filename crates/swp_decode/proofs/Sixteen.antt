-- Which of sixteen bytes are periods with bits, and what bits they are.
use Rattle.std.proofs.Common.{map, w8, ◌||◌}
use Rattle.std.proofs.lemmas.List.{length-map, map-append}
use Rattle.std.proofs.lemmas.Simd.{bitmask_splat}
use Rattle.std.specs.Simd.Lanes.{mask_l, zip2, top}
use Rattle.swp_decode.proofs.Names.{AreBits, Bits, Bool, Deactivated, List, None, Option, Period, S1, S2, Some, [], agree_below, agree_below_at, ap, ap₂, arith}
use Rattle.swp_decode.proofs.Names.{cond, eqb, false, get_or, length, length-reverse, low_bits, period_at, pow-suc, refl, replicate, reverse, reverse-append}
use Rattle.swp_decode.proofs.Names.{spelled_number, subst, suc, sym, symbol_of, symbol_on, true, ℕ, ◌%◌, ◌&&◌, ◌++◌, ◌+◌, ◌<◌, ◌^◌, ◌∙◌, ◌∷◌, ◌≡◌}
use Rattle.swp_line.specs.declared.period.Period.TheVariants.{ResumeAsked, Suspended}
use Rattle.swp_crc.proofs.Numbers.{number_of-lt}
use Rattle.swp_frame.proofs.Places.{low_bits-number_of}
use Rattle.swp_decode.proofs.FurtherFrames.{bits_there}

-- ---- the mask of the lanes in reverse is the number of the bits

mask_more : (ms bits : List Bool) (m : Bool) → length ms ≡ length bits → mask_l ms ≡ spelled_number bits → mask_l (ms ++ m ∷ []) ≡ spelled_number (m ∷ bits)
mask_more ms bits true long is = mask_with_one ms ∙ ap₂ (λ n k. 2 ^ n + k) long is
  where
    mask_with_one : (xs : List Bool) → mask_l (xs ++ true ∷ []) ≡ 2 ^ length xs + mask_l xs
    mask_with_one [] = refl
    mask_with_one (x ∷ xs) = omega (arith, mask_with_one xs, pow-suc 2 (length xs))
mask_more ms bits false long is = mask_with_none ms ∙ is
  where
    mask_with_none : (xs : List Bool) → mask_l (xs ++ false ∷ []) ≡ mask_l xs
    mask_with_none [] = refl
    mask_with_none (x ∷ xs) = omega (arith, mask_with_none xs)

mask_reversed : (p : ℕ → Bool) (xs : List ℕ) → mask_l (map p (reverse xs)) ≡ spelled_number (map p xs)
mask_reversed p [] = refl
mask_reversed p (x ∷ xs) =
    ap (λ ys. mask_l (map p ys)) (reverse-append (x ∷ []) xs)
    ∙ ap mask_l (map-append p (reverse xs) (x ∷ []))
    ∙ mask_more (map p (reverse xs)) (map p xs) (p x) (length-map (reverse xs) p ∙ length-reverse xs ∙ sym (length-map xs p)) (mask_reversed p xs)

-- what holds for each sixteen bytes holds for a list of sixteen
for_sixteen : (P : List ℕ → Type 0) → ((a b c d e f g h i j k l m n o p : ℕ) → P (a ∷ b ∷ c ∷ d ∷ e ∷ f ∷ g ∷ h ∷ i ∷ j ∷ k ∷ l ∷ m ∷ n ∷ o ∷ p ∷ []))
    → (xs : List ℕ) → length xs ≡ 16 → P xs
for_sixteen P each [] sixteen = absurd (omega arith)
for_sixteen P each (a ∷ []) sixteen = absurd (omega arith)
for_sixteen P each (a ∷ b ∷ []) sixteen = absurd (omega arith)
for_sixteen P each (a ∷ b ∷ c ∷ []) sixteen = absurd (omega arith)
for_sixteen P each (a ∷ b ∷ c ∷ d ∷ []) sixteen = absurd (omega arith)
for_sixteen P each (a ∷ b ∷ c ∷ d ∷ e ∷ []) sixteen = absurd (omega arith)
for_sixteen P each (a ∷ b ∷ c ∷ d ∷ e ∷ f ∷ []) sixteen = absurd (omega arith)
for_sixteen P each (a ∷ b ∷ c ∷ d ∷ e ∷ f ∷ g ∷ []) sixteen = absurd (omega arith)
for_sixteen P each (a ∷ b ∷ c ∷ d ∷ e ∷ f ∷ g ∷ h ∷ []) sixteen = absurd (omega arith)
for_sixteen P each (a ∷ b ∷ c ∷ d ∷ e ∷ f ∷ g ∷ h ∷ i ∷ []) sixteen = absurd (omega arith)
for_sixteen P each (a ∷ b ∷ c ∷ d ∷ e ∷ f ∷ g ∷ h ∷ i ∷ j ∷ []) sixteen = absurd (omega arith)
for_sixteen P each (a ∷ b ∷ c ∷ d ∷ e ∷ f ∷ g ∷ h ∷ i ∷ j ∷ k ∷ []) sixteen = absurd (omega arith)
for_sixteen P each (a ∷ b ∷ c ∷ d ∷ e ∷ f ∷ g ∷ h ∷ i ∷ j ∷ k ∷ l ∷ []) sixteen = absurd (omega arith)
for_sixteen P each (a ∷ b ∷ c ∷ d ∷ e ∷ f ∷ g ∷ h ∷ i ∷ j ∷ k ∷ l ∷ m ∷ []) sixteen = absurd (omega arith)
for_sixteen P each (a ∷ b ∷ c ∷ d ∷ e ∷ f ∷ g ∷ h ∷ i ∷ j ∷ k ∷ l ∷ m ∷ n ∷ []) sixteen = absurd (omega arith)
for_sixteen P each (a ∷ b ∷ c ∷ d ∷ e ∷ f ∷ g ∷ h ∷ i ∷ j ∷ k ∷ l ∷ m ∷ n ∷ o ∷ []) sixteen = absurd (omega arith)
for_sixteen P each (a ∷ b ∷ c ∷ d ∷ e ∷ f ∷ g ∷ h ∷ i ∷ j ∷ k ∷ l ∷ m ∷ n ∷ o ∷ p ∷ []) sixteen = each a b c d e f g h i j k l m n o p
for_sixteen P each (a ∷ b ∷ c ∷ d ∷ e ∷ f ∷ g ∷ h ∷ i ∷ j ∷ k ∷ l ∷ m ∷ n ∷ o ∷ p ∷ x ∷ xs) sixteen = absurd (omega arith)

-- the lanes of a vector in reverse
abbrev pub picked : List ℕ → List ℕ
picked xs =
    get_or (xs ++ xs) 15 0 ∷ get_or (xs ++ xs) 14 0 ∷ get_or (xs ++ xs) 13 0 ∷ get_or (xs ++ xs) 12 0 ∷ get_or (xs ++ xs) 11 0
    ∷ get_or (xs ++ xs) 10 0 ∷ get_or (xs ++ xs) 9 0 ∷ get_or (xs ++ xs) 8 0 ∷ get_or (xs ++ xs) 7 0 ∷ get_or (xs ++ xs) 6 0
    ∷ get_or (xs ++ xs) 5 0 ∷ get_or (xs ++ xs) 4 0 ∷ get_or (xs ++ xs) 3 0 ∷ get_or (xs ++ xs) 2 0 ∷ get_or (xs ++ xs) 1 0 ∷ get_or (xs ++ xs) 0 0 ∷ []

picked_reversed : (xs : List ℕ) → length xs ≡ 16 → picked xs ≡ reverse xs
picked_reversed = for_sixteen (λ xs. picked xs ≡ reverse xs) (λ a b c d e f g h i j k l m n o p. refl)

pub places_number : (xs : List ℕ) (byte : ℕ) → length xs ≡ 16
    → mask_l (map (top 7) (zip2 (λ a b. cond (eqb a b) 255 0) (picked xs) (replicate 16 byte))) % 2 ^ 64 ≡ spelled_number (map (λ x. eqb x byte) xs)
places_number xs byte sixteen =
    bitmask_splat w8 eqb (picked xs) 16 byte refl (omega arith)
    ∙ ap (λ ys. mask_l (map (λ x. eqb x byte) ys)) (picked_reversed xs sixteen)
    ∙ mask_reversed (λ x. eqb x byte) xs

pub places_small : (xs : List ℕ) (p : ℕ → Bool) → length xs ≡ 16 → spelled_number (map p xs) < 2 ^ 16
places_small xs p sixteen = subst (λ n. spelled_number (map p xs) < 2 ^ n) (length-map xs p ∙ sixteen) (number_of-lt (map p xs))

-- ---- places of one kind or another

either_more : (a b : Bool) (ps qs rs : List Bool) → (a && b) ≡ false → length ps ≡ length rs → length qs ≡ length rs
    → spelled_number ps + spelled_number qs ≡ spelled_number rs → spelled_number (a ∷ ps) + spelled_number (b ∷ qs) ≡ spelled_number ((a || b) ∷ rs)
either_more a b ps qs rs apart c d sum = grind arith

pub either_places : (p q : ℕ → Bool) → ((x : ℕ) → (p x && q x) ≡ false) → (xs : List ℕ)
    → spelled_number (map p xs) + spelled_number (map q xs) ≡ spelled_number (map (λ x. p x || q x) xs)
either_places p q apart [] = refl
either_places p q apart (x ∷ xs) =
    either_more (p x) (q x) (map p xs) (map q xs) (map (λ x. p x || q x) xs) (apart x)
    (length-map xs p ∙ sym (length-map xs (λ x. p x || q x))) (length-map xs q ∙ sym (length-map xs (λ x. p x || q x)))
    (either_places p q apart xs)

-- where every bit is 1
all_more : (b : Bool) (bs : List Bool) → spelled_number (b ∷ bs) + 1 ≡ 2 ^ length (b ∷ bs) → (b ≡ true) × (spelled_number bs + 1 ≡ 2 ^ length bs)
all_more true bs all = (refl, omega (arith, all, pow-suc 2 (length bs)))
all_more false bs all = absurd (omega (arith, all, number_of-lt bs, pow-suc 2 (length bs)))

-- ---- the four periods with bits

abbrev pub has_neither : ℕ → Bool
has_neither x = eqb x 0x40

abbrev pub has_first : ℕ → Bool
has_first x = eqb x 0x54

abbrev pub has_second : ℕ → Bool
has_second x = eqb x 0xC0

abbrev pub has_both : ℕ → Bool
has_both x = eqb x 0xFC

abbrev pub is_s1 : ℕ → Bool
is_s1 x = has_first x || has_both x

abbrev pub is_s2 : ℕ → Bool
is_s2 x = has_second x || has_both x

abbrev pub is_some : ℕ → Bool
is_some x = ((has_neither x || has_first x) || has_second x) || has_both x

-- a byte is at most one of two
apart : (x a b : ℕ) (p : ℕ → Bool) → p b ≡ false → (p x && eqb x b) ≡ false
apart x a b p not_b = grind arith

pub number_s1 : (xs : List ℕ) → spelled_number (map has_first xs) + spelled_number (map has_both xs) ≡ spelled_number (map is_s1 xs)
number_s1 xs = either_places has_first has_both (λ x. apart x 0 0xFC has_first refl) xs

pub number_s2 : (xs : List ℕ) → spelled_number (map has_second xs) + spelled_number (map has_both xs) ≡ spelled_number (map is_s2 xs)
number_s2 xs = either_places has_second has_both (λ x. apart x 0 0xFC has_second refl) xs

pub number_some : (xs : List ℕ)
    → spelled_number (map has_neither xs) + spelled_number (map has_first xs) + spelled_number (map has_second xs) + spelled_number (map has_both xs)
    ≡ spelled_number (map is_some xs)
number_some xs =
    ap (λ n. n + spelled_number (map has_second xs) + spelled_number (map has_both xs))
    (either_places has_neither has_first (λ x. apart x 0 0x54 has_neither refl) xs)
    ∙ ap (λ n. n + spelled_number (map has_both xs))
    (either_places (λ x. has_neither x || has_first x) has_second (λ x. apart x 0 0xC0 (λ y. has_neither y || has_first y) refl) xs)
    ∙ either_places (λ x. (has_neither x || has_first x) || has_second x) has_both
    (λ x. apart x 0 0xFC (λ y. (has_neither y || has_first y) || has_second y) refl) xs

-- what holds of the four periods holds of a byte that is one of them
for_some : (P : ℕ → Type 0) → P 0x40 → P 0x54 → P 0xC0 → P 0xFC → (x : ℕ) → is_some x ≡ true → P x
for_some P neither first second both x some = grind arith

symbol_s1 : (x : ℕ) → is_some x ≡ true → symbol_on S1 (period_at x) ≡ Some (symbol_of (is_s1 x))
symbol_s1 = for_some (λ x. symbol_on S1 (period_at x) ≡ Some (symbol_of (is_s1 x))) refl refl refl refl

symbol_s2 : (x : ℕ) → is_some x ≡ true → symbol_on S2 (period_at x) ≡ Some (symbol_of (is_s2 x))
symbol_s2 = for_some (λ x. symbol_on S2 (period_at x) ≡ Some (symbol_of (is_s2 x))) refl refl refl refl

pub are_s1 : (xs : List ℕ) → spelled_number (map is_some xs) + 1 ≡ 2 ^ length (map is_some xs) → AreBits S1 xs (map is_s1 xs)
are_s1 [] all = tt
are_s1 (x ∷ xs) all = let more = all_more (is_some x) (map is_some xs) all in (symbol_s1 x more.0, are_s1 xs more.1)

pub are_s2 : (xs : List ℕ) → spelled_number (map is_some xs) + 1 ≡ 2 ^ length (map is_some xs) → AreBits S2 xs (map is_s2 xs)
are_s2 [] all = tt
are_s2 (x ∷ xs) all = let more = all_more (is_some x) (map is_some xs) all in (symbol_s2 x more.0, are_s2 xs more.1)

-- ---- no other byte has bits

-- whether this is a period with bits
abbrev has_bits : Option Period → Bool
has_bits (Some (Bits s1 s2)) = true
has_bits (Some Suspended) = false
has_bits (Some ResumeAsked) = false
has_bits (Some Deactivated) = false
has_bits None = false

some_checks : agree_below is_some (λ x. has_bits (period_at x)) 256 ≡ true
some_checks = refl

pub all_some : (xs : List ℕ) (bits : List Bool) → ((i : ℕ) → get_or xs i 0 < 256) → AreBits S1 xs bits
    → spelled_number (map is_some xs) + 1 ≡ 2 ^ length (map is_some xs)
all_some [] bits small are = refl
all_some (x ∷ xs) [] small are = absurd are
all_some (x ∷ xs) (bit ∷ bits) small are =
    let there = bits_there (x ∷ xs) (bit ∷ bits) 0 are (omega arith) in
    let some : is_some x ≡ true = agree_below_at is_some (λ n. has_bits (period_at n)) 256 x some_checks (small 0) ∙ ap has_bits there.1.1 in
    ap (λ b. spelled_number (b ∷ map is_some xs) + 1) some
    ∙ omega (arith, all_some xs bits (λ i. small (suc i)) are.1, pow-suc 2 (length (map is_some xs)))

-- ---- what is computed of sixteen bytes

power_of_sixteen : (xs : List ℕ) (p : ℕ → Bool) → length xs ≡ 16 → 2 ^ length (map p xs) ≡ 65536
power_of_sixteen xs p sixteen = ap (λ n. 2 ^ n) (length-map xs p ∙ sixteen)

-- these numbers tell where each of the four periods with bits stands among sixteen bytes
pub record HavePlaces (xs : List ℕ) (a b c d : ℕ) : Type 0 where
  pub sixteen : length xs ≡ 16
  pub neither : a ≡ spelled_number (map has_neither xs)
  pub first : b ≡ spelled_number (map has_first xs)
  pub second : c ≡ spelled_number (map has_second xs)
  pub both : d ≡ spelled_number (map has_both xs)

pub all_where : {xs : List ℕ} {a b c d : ℕ} → HavePlaces xs a b c d → a + b + c + d ≡ 65535
    → spelled_number (map is_some xs) + 1 ≡ 2 ^ length (map is_some xs)
all_where {xs} h sum = omega (arith, number_some xs, power_of_sixteen xs is_some h.sixteen)

pub sum_where : {xs : List ℕ} {a b c d : ℕ} → HavePlaces xs a b c d → spelled_number (map is_some xs) + 1 ≡ 2 ^ length (map is_some xs)
    → a + b + c + d ≡ 65535
sum_where {xs} h all = omega (arith, number_some xs, power_of_sixteen xs is_some h.sixteen)

spelled : (xs : List ℕ) (p : ℕ → Bool) (n : ℕ) → length xs ≡ 16 → n ≡ spelled_number (map p xs) → low_bits 16 n ≡ map p xs
spelled xs p n sixteen is = ap (low_bits 16) is ∙ low_bits-number_of (map p xs) 16 (length-map xs p ∙ sixteen)

pub bits_s1 : {xs : List ℕ} {a b c d : ℕ} → HavePlaces xs a b c d → spelled_number (map is_some xs) + 1 ≡ 2 ^ length (map is_some xs)
    → AreBits S1 xs (low_bits 16 (b + d))
bits_s1 {xs} {b} {d} h all =
    subst (AreBits S1 xs) (sym (spelled xs is_s1 (b + d) h.sixteen (ap₂ (λ m n. m + n) h.first h.both ∙ number_s1 xs))) (are_s1 xs all)

pub bits_s2 : {xs : List ℕ} {a b c d : ℕ} → HavePlaces xs a b c d → spelled_number (map is_some xs) + 1 ≡ 2 ^ length (map is_some xs)
    → AreBits S2 xs (low_bits 16 (c + d))
bits_s2 {xs} {c} {d} h all =
    subst (AreBits S2 xs) (sym (spelled xs is_s2 (c + d) h.sixteen (ap₂ (λ m n. m + n) h.second h.both ∙ number_s2 xs))) (are_s2 xs all)
