-- Cells, headers and pages that are put.
use Rattle.std.proofs.Common.{◌≡◌, ◌⊎◌, inl, inr, ℕ, suc, ◌+◌, ◌-◌, ◌*◌, ◌==◌, ◌<◌, ◌≤◌, min, Bool, true, false, if◌then◌else◌, List, ◌++◌, length, take, drop}
use Rattle.std.proofs.Common.{slice_index, slice_range, bit_and, ap₂, max, not, ◌%◌, Option, [], ◌∷◌, sym, refl, ap, ◌∙◌, subst, arith, zero-add, w8, ◌^◌, ◌&&◌}
use Rattle.std.proofs.Common.{Result}
use Rattle.std.proofs.lemmas.Bool.{cases_lt, false≢true, cases_Bool}
use Rattle.std.proofs.lemmas.Bool.Decides.{nat_tests, Decides-eqb, Decides-below_and}
use Rattle.std.proofs.lemmas.List.{get_or-take, get_or-drop, get_or_past, length-replicate, get_or-replicate, drop_all, append-nil, take_all, ext_get_or}
use Rattle.std.proofs.lemmas.List.{length-take, length-drop}
use Rattle.std.proofs.lemmas.List.FromFn.{get_or-map-range_with_len, length-map-range_with_len, fill_by_all}
use Rattle.std.proofs.lemmas.Nat.Bits.{bit_at_and, bit_at_or, bit_at_ones, bit_at_not, bit_at-lt, bit_at_above, same_from_bits, same_from_bits_below}
use Rattle.std.specs.Int.{bit_at}
use Rattle.std.specs.Int.Bits.{or_lt, and_le_l, and_le_r}
use Rattle.std.proofs.lemmas.Nat.{from_be_bytes-to_be_bytes_8}
use Rattle.std.specs.Result.{is_ok, IsErr}
use Rattle.flash_nv.specs.Cells.{AreCells, IsChanged, is_in_range, remade, programmed, erased}
use Rattle.flash_nv.specs.MemCells.{blank, Tear, tears_next, tear_mask, mixed, torn, partly}
use Rattle.flash_nv.specs.Pages.{header_at, page_header, agree, is_valid, sector_of, version_of, IsClean}
use Rattle.flash_nv.specs.Putting.{HasSector, IsPut}

pub within-true : (at len i : ℕ) → at ≤ i → i < at + len → is_in_range at len i ≡ true
within-true at len i low high = grind (arith, nat_tests)

pub within-false : (at len i : ℕ) → (i < at) ⊎ (at + len ≤ i) → is_in_range at len i ≡ false
within-false at len i out = grind (arith, nat_tests)

pub length-remade : (cells : List ℕ) (at len : ℕ) (byte : ℕ → ℕ) → length (remade cells at len byte) ≡ length cells
unfolding remade
length-remade cells at len byte = length-map-range_with_len (λ i. if is_in_range at len i then byte i else slice_index cells i) 0 (length cells)

pub remade-at : (cells : List ℕ) (at len : ℕ) (byte : ℕ → ℕ) (i : ℕ) → i < length cells
    → slice_index (remade cells at len byte) i ≡ (if is_in_range at len i then byte i else slice_index cells i)
unfolding remade
remade-at cells at len byte i inside =
    get_or-map-range_with_len (λ j. if is_in_range at len j then byte j else slice_index cells j) 0 (length cells) i i 0 inside (zero-add i)

pub remade-inside : (cells : List ℕ) (at len : ℕ) (byte : ℕ → ℕ) (i : ℕ) → i < length cells → at ≤ i → i < at + len
    → slice_index (remade cells at len byte) i ≡ byte i
remade-inside cells at len byte i inside low high =
    remade-at cells at len byte i inside ∙ ap (λ b. if b then byte i else slice_index cells i) (within-true at len i low high)

pub remade-outside : (cells : List ℕ) (at len : ℕ) (byte : ℕ → ℕ) (i : ℕ) → (i < at) ⊎ (at + len ≤ i)
    → slice_index (remade cells at len byte) i ≡ slice_index cells i
remade-outside cells at len byte i out = by_place (cases_lt i (length cells))
  where
    by_place : (i < length cells) ⊎ (length cells ≤ i) → slice_index (remade cells at len byte) i ≡ slice_index cells i
    by_place (inl inside) = remade-at cells at len byte i inside ∙ ap (λ b. if b then byte i else slice_index cells i) (within-false at len i out)
    by_place (inr past) =
        get_or_past (remade cells at len byte) i 0 (subst (λ n. n ≤ i) (sym (length-remade cells at len byte)) past)
        ∙ sym (get_or_past cells i 0 past)

-- outside its range a call changes nothing
pub changed-outside : (ok : Bool) (old new : List ℕ) (at len : ℕ) (byte : ℕ → ℕ) → IsChanged ok old (remade old at len byte) new
    → (i : ℕ) → (i < at) ⊎ (at + len ≤ i) → slice_index new i ≡ slice_index old i
changed-outside ok old new at len byte change i out = same_from_bits (slice_index new i) (slice_index old i) (λ k. by_bit k (change.bits i k))
  where
    by_bit : (k : ℕ)
        → (bit_at (slice_index new i) k ≡ bit_at (slice_index old i) k) ⊎ (bit_at (slice_index new i) k ≡ bit_at (slice_index (remade old at len byte) i) k)
        → bit_at (slice_index new i) k ≡ bit_at (slice_index old i) k
    by_bit k (inl same) = same
    by_bit k (inr same) = same ∙ ap (λ n. bit_at n k) (remade-outside old at len byte i out)

-- inside its range a bit is as it was or as it was to be
pub changed-bit : (ok : Bool) (old new : List ℕ) (at len : ℕ) (byte : ℕ → ℕ) → IsChanged ok old (remade old at len byte) new
    → (i k : ℕ) → i < 139264 → at ≤ i → i < at + len
    → (bit_at (slice_index new i) k ≡ bit_at (slice_index old i) k) ⊎ (bit_at (slice_index new i) k ≡ bit_at (byte i) k)
changed-bit ok old new at len byte change i k inside low high = by_bit (change.bits i k)
  where
    by_bit : (bit_at (slice_index new i) k ≡ bit_at (slice_index old i) k) ⊎ (bit_at (slice_index new i) k ≡ bit_at (slice_index (remade old at len byte) i) k)
        → (bit_at (slice_index new i) k ≡ bit_at (slice_index old i) k) ⊎ (bit_at (slice_index new i) k ≡ bit_at (byte i) k)
    by_bit (inl same) = inl same
    by_bit (inr same) =
        inr (same ∙ ap (λ n. bit_at n k) (remade-inside old at len byte i (subst (λ n. i < n) (sym change.before.size) inside) low high))

-- what went through is there
pub changed-inside : (old new : List ℕ) (at len : ℕ) (byte : ℕ → ℕ) → IsChanged true old (remade old at len byte) new
    → (i : ℕ) → i < 139264 → at ≤ i → i < at + len → slice_index new i ≡ byte i
changed-inside old new at len byte change i inside low high =
    ap (λ xs. slice_index xs i) (change.done refl)
    ∙ remade-inside old at len byte i (subst (λ n. i < n) (sym change.before.size) inside) low high

-- the bits of FF
ones : (k : ℕ) → k < 8 → bit_at 255 k ≡ 1
ones k small = bit_at_ones 8 k small

rise : (a b c : ℕ) → a < 2 → (b ≡ a) ⊎ (b ≡ c) → c ≡ 1 → a ≤ b
rise a b c small d one = grind arith

-- an erased bit is at least what it was
pub erased-bit : (ok : Bool) (old new : List ℕ) (page : ℕ) → IsChanged ok old (erased old page) new
    → (i k : ℕ) → i < 139264 → 512 * page ≤ i → i < 512 * page + 512 → k < 8 → bit_at (slice_index old i) k ≤ bit_at (slice_index new i) k
erased-bit ok old new page change i k inside low high small =
    rise (bit_at (slice_index old i) k) (bit_at (slice_index new i) k) (bit_at 255 k) (bit_at-lt (slice_index old i) k)
    (changed-bit ok old new (512 * page) 512 (λ j. 255) change i k inside low high) (ones k small)

rise_to : (b x w : ℕ) → w < 2 → (b ≡ 1) ⊎ (b ≡ min x w) → x ≡ 1 → w ≤ b
rise_to b x w small a one = grind arith

-- where FF was programmed, a bit is at least what it was to be
pub programmed-bit : (ok : Bool) (old new bytes : List ℕ) (at : ℕ) → IsChanged ok old (programmed old at bytes) new
    → (i k : ℕ) → i < 139264 → at ≤ i → i < at + length bytes → slice_index old i ≡ 255 → k < 8
    → bit_at (slice_index bytes (i - at)) k ≤ bit_at (slice_index new i) k
programmed-bit ok old new bytes at change i k inside low high full small =
    rise_to (bit_at (slice_index new i) k) (bit_at 255 k) (bit_at b k) (bit_at-lt b k)
    (by_bit (changed-bit ok old new at (length bytes) (λ j. bit_and (slice_index old j) (slice_index bytes (j - at))) change i k inside low high))
    (ones k small)
  where
    b : ℕ
    b = slice_index bytes (i - at)

    by_bit : (bit_at (slice_index new i) k ≡ bit_at (slice_index old i) k) ⊎ (bit_at (slice_index new i) k ≡ bit_at (bit_and (slice_index old i) b) k)
        → (bit_at (slice_index new i) k ≡ 1) ⊎ (bit_at (slice_index new i) k ≡ min (bit_at 255 k) (bit_at b k))
    by_bit (inl same) = inl (same ∙ ap (λ n. bit_at n k) full ∙ ones k small)
    by_bit (inr same) = inr (same ∙ ap (λ n. bit_at (bit_and n b) k) full ∙ bit_at_and 255 b k)

bounded : (x b : ℕ) → b < 2 → x ≡ 1 → min x b ≡ b
bounded x b small one = omega arith

empty : (x b : ℕ) → b ≡ 0 → min x b ≡ b
empty x b none = omega arith

pub and_full : (b : ℕ) → b < 256 → bit_and 255 b ≡ b
and_full b byte = same_from_bits (bit_and 255 b) b (λ k. bit_at_and 255 b k ∙ by_place k (cases_lt k 8))
  where
    by_place : (k : ℕ) → (k < 8) ⊎ (8 ≤ k) → min (bit_at 255 k) (bit_at b k) ≡ bit_at b k
    by_place k (inl small) = bounded (bit_at 255 k) (bit_at b k) (bit_at-lt b k) (ones k small)
    by_place k (inr large) = empty (bit_at 255 k) (bit_at b k) (bit_at_above b 8 k byte large)

-- what was programmed over FF is there
pub programmed-byte : (old new bytes : List ℕ) (at : ℕ) → IsChanged true old (programmed old at bytes) new
    → (i : ℕ) → i < 139264 → at ≤ i → i < at + length bytes → slice_index old i ≡ 255 → slice_index bytes (i - at) < 256
    → slice_index new i ≡ slice_index bytes (i - at)
programmed-byte old new bytes at change i inside low high full byte =
    changed-inside old new at (length bytes) (λ j. bit_and (slice_index old j) (slice_index bytes (j - at))) change i inside low high
    ∙ ap (λ n. bit_and n (slice_index bytes (i - at))) full ∙ and_full (slice_index bytes (i - at)) byte

squeeze : (a b x y : ℕ) → 0 < a + b → a ≤ x → b ≤ y → x < 2 → y ≡ 1 - x → x ≡ a
squeeze a b x y some up also small is = omega arith

squeeze_too : (a b x y : ℕ) → 0 < a + b → a ≤ x → b ≤ y → x < 2 → y ≡ 1 - x → y ≡ b
squeeze_too a b x y some up also small is = omega arith

-- Two bytes with no place that is 0 in both, of which only bits of 0 became 1: where they are complements then, no bit became 1.
pub settled : (h c x y : ℕ) → h < 256 → c < 256 → x < 256 → y < 256 → ((k : ℕ) → k < 8 → 0 < bit_at h k + bit_at c k)
    → ((k : ℕ) → k < 8 → bit_at h k ≤ bit_at x k) → ((k : ℕ) → k < 8 → bit_at c k ≤ bit_at y k) → y ≡ 255 - x → (x ≡ h) × (y ≡ c)
settled h c x y h_byte c_byte x_byte y_byte clean up also is = (
  same_from_bits_below 8 x h x_byte h_byte
      (λ k small. squeeze (bit_at h k) (bit_at c k) (bit_at x k) (bit_at y k) (clean k small) (up k small) (also k small) (bit_at-lt x k) (apart k small)),
  same_from_bits_below 8 y c y_byte c_byte
      (λ k small. squeeze_too (bit_at h k) (bit_at c k) (bit_at x k) (bit_at y k) (clean k small) (up k small) (also k small) (bit_at-lt x k) (apart k small)),
)
  where
    apart : (k : ℕ) → k < 8 → bit_at y k ≡ 1 - bit_at x k
    apart k small = ap (λ n. bit_at n k) is ∙ bit_at_not w8 x k x_byte small

-- complements have no place that is 0 in both
pub apart_is_clean : (h c : ℕ) → h < 256 → c ≡ 255 - h → (k : ℕ) → k < 8 → 0 < bit_at h k + bit_at c k
apart_is_clean h c byte is k small = some (bit_at h k) (bit_at c k) (bit_at-lt h k) (ap (λ n. bit_at n k) is ∙ bit_at_not w8 h k byte small)
  where
    some : (a b : ℕ) → a < 2 → b ≡ 1 - a → 0 < a + b
    some a b bound e = omega arith

-- a list that has each byte is the memory that was made anew
pub remade_by : (cells xs : List ℕ) (at len : ℕ) (byte : ℕ → ℕ) → length xs ≡ length cells
    → ((k : ℕ) → k < length cells → slice_index xs k ≡ (if is_in_range at len k then byte k else slice_index cells k)) → xs ≡ remade cells at len byte
unfolding remade
remade_by cells xs at len byte size each =
    fill_by_all (λ i. if is_in_range at len i then byte i else slice_index cells i) xs (length cells) 0 size each

-- by the places inside the range and outside
pub remade_by_parts : (cells xs : List ℕ) (at len : ℕ) (byte : ℕ → ℕ) → length xs ≡ length cells
    → ((k : ℕ) → k < len → slice_index xs (at + k) ≡ byte (at + k)) → ((k : ℕ) → (k < at) ⊎ (at + len ≤ k) → slice_index xs k ≡ slice_index cells k)
    → xs ≡ remade cells at len byte
remade_by_parts cells xs at len byte size inside outside = remade_by cells xs at len byte size (λ k small. by_low k (cases_lt k at))
  where
    out : (k : ℕ) → (k < at) ⊎ (at + len ≤ k) → slice_index xs k ≡ (if is_in_range at len k then byte k else slice_index cells k)
    out k o = outside k o ∙ ap (λ b. if b then byte k else slice_index cells k) (sym (within-false at len k o))

    by_high : (k : ℕ) → at ≤ k → (k < at + len) ⊎ (at + len ≤ k) → slice_index xs k ≡ (if is_in_range at len k then byte k else slice_index cells k)
    by_high k low (inl high) =
        subst (λ n. slice_index xs n ≡ byte n) (omega arith) (inside (k - at) (omega arith))
        ∙ ap (λ b. if b then byte k else slice_index cells k) (sym (within-true at len k low high))
    by_high k low (inr past) = out k (inr past)

    by_low : (k : ℕ) → (k < at) ⊎ (at ≤ k) → slice_index xs k ≡ (if is_in_range at len k then byte k else slice_index cells k)
    by_low k (inl below) = out k (inl below)
    by_low k (inr low) = by_high k low (cases_lt k (at + len))

pub length-blank : (n : ℕ) → length (blank n) ≡ n
unfolding blank
length-blank n = length-replicate n 255

pub blank-at : (n i : ℕ) → i < n → slice_index (blank n) i ≡ 255
unfolding blank
blank-at n i small = get_or-replicate n i 255 0 small

pub blank-cells : (n : ℕ) → n ≡ 139264 → AreCells (blank n)
blank-cells n size = record { size = length-blank n ∙ size; bytes = λ i. by_place i (cases_lt i n) }
  where
    by_place : (i : ℕ) → (i < n) ⊎ (n ≤ i) → slice_index (blank n) i < 256
    by_place i (inl small) = subst (λ b. b < 256) (sym (blank-at n i small)) (omega arith)
    by_place i (inr past) =
        subst (λ b. b < 256) (sym (get_or_past (blank n) i 0 (subst (λ m. m ≤ i) (sym (length-blank n)) past))) (omega arith)

pub mixed-byte : (o w m : ℕ) → o < 256 → w < 256 → mixed o w m < 256
mixed-byte o w m old whole = or_lt 8 (bit_and o (255 - m)) (bit_and w m) (omega (arith, and_le_l o (255 - m))) (omega (arith, and_le_l w m))

-- a memory stays one of so many bytes where they are made anew
pub remade-cells : (cells : List ℕ) (at len : ℕ) (byte : ℕ → ℕ) → AreCells cells → ((i : ℕ) → byte i < 256) → AreCells (remade cells at len byte)
remade-cells cells at len byte old each = record { size = length-remade cells at len byte ∙ old.size; bytes = λ i. by_place i (cases_lt i (length cells)) }
  where
    by_place : (i : ℕ) → (i < length cells) ⊎ (length cells ≤ i) → slice_index (remade cells at len byte) i < 256
    by_place i (inl small) = subst (λ b. b < 256) (sym (remade-at cells at len byte i small)) (grind arith)
    by_place i (inr past) =
        subst (λ b. b < 256) (sym (get_or_past (remade cells at len byte) i 0 (subst (λ m. m ≤ i) (sym (length-remade cells at len byte)) past)))
        (omega arith)

pub torn-cells : (cells : List ℕ) (at : ℕ) (whole mask : List ℕ) → AreCells cells → ((i : ℕ) → slice_index whole i < 256) → AreCells (torn cells at whole mask)
torn-cells cells at whole mask old each = remade-cells cells at (length whole) _ old
    (λ i. mixed-byte (slice_index cells i) (slice_index whole (i - at)) (slice_index mask ((i - at) % length mask)) (old.bytes i) (each (i - at)))

-- a bit of the mask that is 0 leaves a bit, and one that is 1 makes it anew
mixed-bit : (o w m k : ℕ) → m < 256 → k < 8 → (bit_at (mixed o w m) k ≡ bit_at o k) ⊎ (bit_at (mixed o w m) k ≡ bit_at w k)
mixed-bit o w m k mask small = by_bit (cases_lt (bit_at m k) 1)
  where
    spread : bit_at (mixed o w m) k ≡ max (min (bit_at o k) (1 - bit_at m k)) (min (bit_at w k) (bit_at m k))
    spread =
        bit_at_or (bit_and o (255 - m)) (bit_and w m) k
        ∙ ap (λ n. max n (bit_at (bit_and w m) k)) (bit_at_and o (255 - m) k ∙ ap (min (bit_at o k)) (bit_at_not w8 m k mask small))
        ∙ ap (max (min (bit_at o k) (1 - bit_at m k))) (bit_at_and w m k)

    by_bit : (bit_at m k < 1) ⊎ (1 ≤ bit_at m k) → (bit_at (mixed o w m) k ≡ bit_at o k) ⊎ (bit_at (mixed o w m) k ≡ bit_at w k)
    by_bit (inl none) = inl (spread ∙ (grind arith))
    by_bit (inr some) = inr (spread ∙ (grind arith))

mixed-full : (o w : ℕ) → w < 256 → mixed o w 255 ≡ w
mixed-full o w byte =
    same_from_bits_below 8 (mixed o w 255) w
    (or_lt 8 (bit_and o 0) (bit_and w 255) (omega (arith, and_le_r o 0)) (omega (arith, and_le_l w 255))) byte by_bit
  where
    by_bit : (k : ℕ) → k < 8 → bit_at (mixed o w 255) k ≡ bit_at w k
    by_bit k small =
        bit_at_or (bit_and o (255 - 255)) (bit_and w 255) k
        ∙ ap (λ n. max n (bit_at (bit_and w 255) k)) (bit_at_and o (255 - 255) k ∙ ap (min (bit_at o k)) (bit_at_not w8 255 k (omega arith) small))
        ∙ ap (max (min (bit_at o k) (1 - bit_at 255 k))) (bit_at_and w 255 k)
        ∙ (let h0 = bit_at o k in let h1 = bit_at w k in let h2 = bit_at 255 k in let h3 = bit_at-lt w k in let h4 = ones k small in grind arith)

-- What a change as planned left is what a call leaves that was to make each byte of a range anew.
pub torn_is_change : (cells : List ℕ) (at len : ℕ) (byte : ℕ → ℕ) (whole mask : List ℕ) (ok : Bool) → AreCells cells → at + len ≤ 139264
    → length whole ≡ len → ((i : ℕ) → slice_index whole i < 256) → ((i : ℕ) → slice_index mask i < 256)
    → ((k : ℕ) → k < len → slice_index whole k ≡ byte (at + k)) → (ok ≡ true → (i : ℕ) → slice_index mask (i % length mask) ≡ 255)
    → IsChanged ok cells (remade cells at len byte) (torn cells at whole mask)
torn_is_change cells at len byte whole mask ok old inside size each each_mask is full = record {
  before = old;
  after = torn-cells cells at whole mask old each;
  done = λ e. remade_by_parts cells (torn cells at whole mask) at len byte (length-remade cells at (length whole) _) (done e) beside;
  bits = λ i k. by_place i k (cases_lt i at);
}
  where
    beside : (k : ℕ) → (k < at) ⊎ (at + len ≤ k) → slice_index (torn cells at whole mask) k ≡ slice_index cells k
    beside k out = remade-outside cells at (length whole) _ k (subst (λ n. (k < at) ⊎ (at + n ≤ k)) (sym size) out)

    there : (k : ℕ) → k < len → slice_index (torn cells at whole mask) (at + k)
        ≡ mixed (slice_index cells (at + k)) (slice_index whole k) (slice_index mask (k % length mask))
    there k small =
        let e : at + k - at ≡ k = omega arith in
        remade-inside cells at (length whole) (λ i. mixed (slice_index cells i) (slice_index whole (i - at)) (slice_index mask ((i - at) % length mask)))
        (at + k) (omega (arith, old.size)) (omega arith) (omega arith)
        ∙ ap (λ n. mixed (slice_index cells (at + k)) (slice_index whole n) (slice_index mask (n % length mask))) e

    done : ok ≡ true → (k : ℕ) → k < len → slice_index (torn cells at whole mask) (at + k) ≡ byte (at + k)
    done e k small =
        there k small ∙ ap (mixed (slice_index cells (at + k)) (slice_index whole k)) (full e k)
        ∙ mixed-full (slice_index cells (at + k)) (slice_index whole k) (each k) ∙ is k small

    bit_beside : (i k : ℕ) → (i < at) ⊎ (at + len ≤ i) → bit_at (slice_index (torn cells at whole mask) i) k ≡ bit_at (slice_index cells i) k
    bit_beside i k out = ap (λ n. bit_at n k) (beside i out)

    target : (j : ℕ) → j < len → slice_index (remade cells at len byte) (at + j) ≡ slice_index whole j
    target j small = remade-inside cells at len byte (at + j) (omega (arith, old.size)) (omega arith) (omega arith) ∙ sym (is j small)

    high_bit : (n k : ℕ) → n < 256 → 8 ≤ k → bit_at n k ≡ 0
    high_bit n k small high = bit_at_above n 8 k small high

    by_bit : (j k : ℕ) → j < len → (k < 8) ⊎ (8 ≤ k)
        → (bit_at (slice_index (torn cells at whole mask) (at + j)) k ≡ bit_at (slice_index cells (at + j)) k)
        ⊎ (bit_at (slice_index (torn cells at whole mask) (at + j)) k ≡ bit_at (slice_index (remade cells at len byte) (at + j)) k)
    by_bit j k small (inr high) =
        inl (high_bit (slice_index (torn cells at whole mask) (at + j)) k ((torn-cells cells at whole mask old each).bytes (at + j)) high
        ∙ sym (high_bit (slice_index cells (at + j)) k (old.bytes (at + j)) high))
    by_bit j k small (inl low) =
        by_mix (mixed-bit (slice_index cells (at + j)) (slice_index whole j) (slice_index mask (j % length mask)) k (each_mask (j % length mask)) low)
      where
        made : ℕ
        made = mixed (slice_index cells (at + j)) (slice_index whole j) (slice_index mask (j % length mask))

        by_mix : (bit_at made k ≡ bit_at (slice_index cells (at + j)) k) ⊎ (bit_at made k ≡ bit_at (slice_index whole j) k)
            → (bit_at (slice_index (torn cells at whole mask) (at + j)) k ≡ bit_at (slice_index cells (at + j)) k)
            ⊎ (bit_at (slice_index (torn cells at whole mask) (at + j)) k ≡ bit_at (slice_index (remade cells at len byte) (at + j)) k)
        by_mix (inl same) = inl (ap (λ n. bit_at n k) (there j small) ∙ same)
        by_mix (inr same) = inr (ap (λ n. bit_at n k) (there j small) ∙ same ∙ ap (λ n. bit_at n k) (sym (target j small)))

    by_high : (i k : ℕ) → at ≤ i → (i < at + len) ⊎ (at + len ≤ i)
        → (bit_at (slice_index (torn cells at whole mask) i) k ≡ bit_at (slice_index cells i) k)
        ⊎ (bit_at (slice_index (torn cells at whole mask) i) k ≡ bit_at (slice_index (remade cells at len byte) i) k)
    by_high i k low (inr past) = inl (bit_beside i k (inr past))
    by_high i k low (inl high) =
        let e : at + (i - at) ≡ i = omega arith in
        subst (λ n. (bit_at (slice_index (torn cells at whole mask) n) k ≡ bit_at (slice_index cells n) k)
        ⊎ (bit_at (slice_index (torn cells at whole mask) n) k ≡ bit_at (slice_index (remade cells at len byte) n) k)) e
        (by_bit (i - at) k (omega arith) (cases_lt k 8))

    by_place : (i k : ℕ) → (i < at) ⊎ (at ≤ i)
        → (bit_at (slice_index (torn cells at whole mask) i) k ≡ bit_at (slice_index cells i) k)
        ⊎ (bit_at (slice_index (torn cells at whole mask) i) k ≡ bit_at (slice_index (remade cells at len byte) i) k)
    by_place i k (inl below) = inl (bit_beside i k (inl below))
    by_place i k (inr low) = by_high i k low (cases_lt i (at + len))

-- a part that was lent out and given back with the same length
pub given_back : (n : ℕ) (old new : List ℕ) → length new ≡ length old → n ≡ length old → take n (new ++ drop (length new) old) ≡ new
given_back n old new same size =
    ap (take n) (ap (λ r. new ++ r) (drop_all (length new) old (omega arith)) ∙ append-nil new) ∙ take_all n new (omega arith)

pub lent_cells : (n at : ℕ) (old new whole mask : List ℕ) → AreCells old → length new ≡ length old → n ≡ length old → new ≡ torn old at whole mask
    → ((i : ℕ) → slice_index whole i < 256) → AreCells (take n (new ++ drop (length new) old))
lent_cells n at old new whole mask cells same size is each =
    subst AreCells (sym (given_back n old new same size ∙ is)) (torn-cells old at whole mask cells each)

pub mask_plain : (o : Option Tear) → tears_next o ≡ false → tear_mask o ≡ 255 ∷ []
mask_plain o none = grind arith

pub plain_byte : (i : ℕ) → slice_index (255 ∷ []) i < 256
plain_byte i = grind arith

-- a change that went through has a full mask
pub ok_is_full : (o : Option Tear) (ok : Bool) → ok ≡ not (tears_next o) → ok ≡ true → (i : ℕ) → slice_index (tear_mask o) (i % length (tear_mask o)) ≡ 255
ok_is_full o ok is e = grind arith

-- What a change as planned left of a call that was to make each byte of a range anew, said by the whole memory that it was to make.
pub torn_is_partly : (cells : List ℕ) (at len : ℕ) (byte : ℕ → ℕ) (whole mask : List ℕ) → AreCells cells → at + len ≤ 139264 → length whole ≡ len
    → ((k : ℕ) → k < len → slice_index whole k ≡ byte (at + k)) → torn cells at whole mask ≡ partly cells at len (remade cells at len byte) mask
torn_is_partly cells at len byte whole mask old room size each =
    remade_by_parts cells (torn cells at whole mask) at len made (length-remade cells at (length whole) left) inside outside
  where
    left : ℕ → ℕ
    left i = mixed (slice_index cells i) (slice_index whole (i - at)) (slice_index mask ((i - at) % length mask))

    made : ℕ → ℕ
    made i = mixed (slice_index cells i) (slice_index (remade cells at len byte) i) (slice_index mask ((i - at) % length mask))

    within : (k : ℕ) → k < len → at + k < length cells
    within k small = omega (arith, old.size)

    inside : (k : ℕ) → k < len → slice_index (torn cells at whole mask) (at + k) ≡ made (at + k)
    inside k small =
        let e : at + k - at ≡ k = omega arith in
        remade-inside cells at (length whole) left (at + k) (within k small) (omega arith) (omega (arith, size))
        ∙ ap (λ w. mixed (slice_index cells (at + k)) w (slice_index mask ((at + k - at) % length mask)))
        (ap (slice_index whole) e ∙ each k small ∙ sym (remade-inside cells at len byte (at + k) (within k small) (omega arith) (omega arith)))

    outside : (k : ℕ) → (k < at) ⊎ (at + len ≤ k) → slice_index (torn cells at whole mask) k ≡ slice_index cells k
    outside k out = remade-outside cells at (length whole) left k (subst (λ n. (k < at) ⊎ (at + n ≤ k)) (sym size) out)

-- the AND of a range of a memory and of bytes that are to be programmed there
pub cleared_part : (cells bytes whole : List ℕ) (at : ℕ)
    → ((i : ℕ) → i < length bytes → slice_index whole i ≡ bit_and (slice_index (slice_range cells at (at + length bytes)) i) (slice_index bytes i))
    → (k : ℕ) → k < length bytes → slice_index (take (length bytes) whole) k ≡ bit_and (slice_index cells (at + k)) (slice_index bytes (at + k - at))
cleared_part cells bytes whole at each k small =
    let e : at + k - at ≡ k = omega arith in
    get_or-take (length bytes) whole k 0 small ∙ each k small
    ∙ ap₂ bit_and (get_or-take (at + length bytes - at) (drop at cells) k 0 (omega arith) ∙ get_or-drop at cells k 0) (ap (slice_index bytes) (sym e))

-- ---- the headers of pages, byte by byte

-- byte i of a page's header
pub header-byte : (cells : List ℕ) (page i : ℕ) → i < 18 → slice_index (header_at cells page) i ≡ slice_index cells (512 * page + i)
header-byte cells page i small =
    get_or-take (512 * page + 18 - 512 * page) (drop (512 * page) cells) i 0 (omega arith) ∙ get_or-drop (512 * page) cells i 0

pub length-header : (cells : List ℕ) (page : ℕ) → length cells ≡ 139264 → page < 272 → length (header_at cells page) ≡ 18
length-header cells page size small =
    length-take (512 * page + 18 - 512 * page) (drop (512 * page) cells) ∙ ap (min (512 * page + 18 - 512 * page)) (length-drop (512 * page) cells)
    ∙ omega (arith, size)

-- pages with the same first bytes have the same header
pub same_header : (old new : List ℕ) (page : ℕ) → length old ≡ 139264 → length new ≡ 139264 → page < 272
    → ((i : ℕ) → i < 18 → slice_index new (512 * page + i) ≡ slice_index old (512 * page + i)) → header_at new page ≡ header_at old page
same_header old new page size_old size_new small same =
    ext_get_or 0 (header_at new page) (header_at old page) (length-header new page size_new small ∙ sym (length-header old page size_old small))
    (λ i inside. let j : i < 18 = subst (λ n. i < n) (length-header new page size_new small) inside in
    header-byte new page i j ∙ same i j ∙ sym (header-byte old page i j))

agree-zero : (header : List ℕ) → agree header 0 ≡ true
unfolding agree
agree-zero header = refl

agree-suc : (header : List ℕ) (n : ℕ) → agree header (suc n) ≡ ((slice_index header (9 + n) == 255 - slice_index header n) && agree header n)
unfolding agree
agree-suc header n = refl

-- a header is valid exactly where each of its nine first bytes has its complement
pub valid_says : (header : List ℕ) → is_valid header ≡ true → (i : ℕ) → i < 9 → slice_index header (9 + i) ≡ 255 - slice_index header i
valid_says header = (Decides-below_and (λ n. slice_index header (9 + n) == 255 - slice_index header n)
    (λ n. slice_index header (9 + n) ≡ 255 - slice_index header n) (agree header)
    (λ n. Decides-eqb (slice_index header (9 + n)) (255 - slice_index header n)) (agree-zero header) (agree-suc header) 9).0

pub valid_from : (header : List ℕ) → ((i : ℕ) → i < 9 → slice_index header (9 + i) ≡ 255 - slice_index header i) → is_valid header ≡ true
valid_from header = (Decides-below_and (λ n. slice_index header (9 + n) == 255 - slice_index header n)
    (λ n. slice_index header (9 + n) ≡ 255 - slice_index header n) (agree header)
    (λ n. Decides-eqb (slice_index header (9 + n)) (255 - slice_index header n)) (agree-zero header) (agree-suc header) 9).1

pub invalid_from : (header : List ℕ) (i : ℕ) → i < 9 → (slice_index header (9 + i) ≡ 255 - slice_index header i → ⊥) → is_valid header ≡ false
invalid_from header i small differs = by_case (cases_Bool (is_valid header))
  where
    by_case : (is_valid header ≡ true) ⊎ (is_valid header ≡ false) → is_valid header ≡ false
    by_case (inl valid) = absurd (differs (valid_says header valid i small))
    by_case (inr invalid) = invalid

pub valid_at : (cells : List ℕ) (page : ℕ) → is_valid (header_at cells page) ≡ true → (i : ℕ) → i < 9
    → slice_index cells (512 * page + 9 + i) ≡ 255 - slice_index cells (512 * page + i)
valid_at cells page valid i small =
    ap (slice_index cells) (omega arith) ∙ sym (header-byte cells page (9 + i) (omega arith))
    ∙ valid_says (header_at cells page) valid i small ∙ ap (λ n. 255 - n) (header-byte cells page i (omega arith))

-- a header that was made
pub made_length : (s v : ℕ) → length (page_header s v) ≡ 18
unfolding page_header
made_length s v = refl

pub made_sector : (s v : ℕ) → sector_of (page_header s v) ≡ s
unfolding page_header
made_sector s v = refl

pub made_version : (s v : ℕ) → v < 2 ^ 64 → version_of (page_header s v) ≡ v
unfolding page_header version_of
made_version s v fits = from_be_bytes-to_be_bytes_8 v fits

nine : (P : ℕ → Type 0) → P 0 → P 1 → P 2 → P 3 → P 4 → P 5 → P 6 → P 7 → P 8 → (i : ℕ) → i < 9 → P i
nine P a b c d e f g h j i small = grind arith

pub made_apart : (s v : ℕ) → (i : ℕ) → i < 9 → slice_index (page_header s v) (9 + i) ≡ 255 - slice_index (page_header s v) i
unfolding page_header
made_apart s v = nine (λ i. slice_index (page_header s v) (9 + i) ≡ 255 - slice_index (page_header s v) i) refl refl refl refl refl refl refl refl refl

pub made_valid : (s v : ℕ) → is_valid (page_header s v) ≡ true
made_valid s v = valid_from (page_header s v) (made_apart s v)

rest_small : (n m : ℕ) → 0 < m → n % m < m
rest_small n m some = omega arith

pub made_byte : (s v : ℕ) → s < 256 → (i : ℕ) → i < 9 → slice_index (page_header s v) i < 256
unfolding page_header
made_byte s v fits = nine (λ i. slice_index (page_header s v) i < 256) fits (omega arith) (omega arith) (omega arith) (omega arith) (omega arith)
    (omega arith) (omega arith) (omega arith)

-- ---- what is left of a page into which a sector is put, whichever call fails

pub not_ok : {T E : Type 0} (r : Result T E) → IsErr r → is_ok r ≡ false
not_ok r err = grind arith

-- one page of a memory is clean
abbrev pub PageIsClean : List ℕ → ℕ → Type 0
PageIsClean cells p = (i k : ℕ) → i < 9 → k < 8 → 0 < bit_at (slice_index cells (512 * p + i)) k + bit_at (slice_index cells (512 * p + 9 + i)) k

-- nothing changed but one page
abbrev pub OthersStay : List ℕ → List ℕ → ℕ → Type 0
OthersStay old new p = (i : ℕ) → (i < 512 * p) ⊎ (512 * p + 512 ≤ i) → slice_index new i ≡ slice_index old i

pub apart : (p q i : ℕ) → i < 512 → (q ≡ p → ⊥) → (512 * q + i < 512 * p) ⊎ (512 * p + 512 ≤ 512 * q + i)
apart p q i small other = grind arith

clean_from : (old new : List ℕ) (p : ℕ) → OthersStay old new p → PageIsClean new p → IsClean old → IsClean new
clean_from old new p others page clean q i k below small bit = grind arith

-- the header of a page is settled: only bits of a clean header became 1, and it is valid
header_settled : (from : ℕ → ℕ) (new : List ℕ) (p : ℕ) → AreCells new → p < 272 → ((i : ℕ) → from i < 256)
    → ((i k : ℕ) → i < 9 → k < 8 → 0 < bit_at (from i) k + bit_at (from (9 + i)) k)
    → ((i k : ℕ) → i < 18 → k < 8 → bit_at (from i) k ≤ bit_at (slice_index new (512 * p + i)) k)
    → is_valid (header_at new p) ≡ true → (i : ℕ) → i < 18 → slice_index new (512 * p + i) ≡ from i
header_settled from new p cells below bytes clean up valid i small = by_half (cases_lt i 9)
  where
    pair : (j : ℕ) → j < 9 → (slice_index new (512 * p + j) ≡ from j) × (slice_index new (512 * p + 9 + j) ≡ from (9 + j))
    pair j low = settled (from j) (from (9 + j)) (slice_index new (512 * p + j)) (slice_index new (512 * p + 9 + j)) (bytes j) (bytes (9 + j))
        (cells.bytes (512 * p + j)) (cells.bytes (512 * p + 9 + j)) (λ k bit. clean j k low bit) (λ k bit. up j k (omega arith) bit)
        (λ k bit. subst (λ n. bit_at (from (9 + j)) k ≤ bit_at (slice_index new n) k) (omega arith) (up (9 + j) k (omega arith) bit))
        (valid_at new p valid j low)

    by_half : (i < 9) ⊎ (9 ≤ i) → slice_index new (512 * p + i) ≡ from i
    by_half (inl low) = (pair i low).0
    by_half (inr high) =
        let j : i - 9 < 9 = omega arith in
        ap (slice_index new) (sym (omega arith)) ∙ (pair (i - 9) j).1 ∙ ap from (omega arith)

clean_up : (from : ℕ → ℕ) (new : List ℕ) (p : ℕ)
    → ((i k : ℕ) → i < 9 → k < 8 → 0 < bit_at (from i) k + bit_at (from (9 + i)) k)
    → ((i k : ℕ) → i < 18 → k < 8 → bit_at (from i) k ≤ bit_at (slice_index new (512 * p + i)) k) → PageIsClean new p
clean_up from new p clean up i k small bit = grind arith

-- an erase that failed, or went through
pub erase_put : (ok : Bool) (old new : List ℕ) (p s v : ℕ) (bytes : List ℕ) → p < 272 → IsChanged ok old (erased old p) new
    → IsPut false old new p s v bytes
erase_put ok old new p s v bytes below change = record {
  before = change.before;
  after = change.after;
  others = others;
  clean = λ clean. clean_from old new p others (clean_up from new p (page_clean clean) up) clean;
  valid = λ clean valid. inl (same_header old new p change.before.size change.after.size below
      (header_settled from new p change.after below (λ i. change.before.bytes (512 * p + i)) (page_clean clean) up valid));
  done = λ e. absurd (false≢true e);
}
  where
    others : OthersStay old new p
    others i out = changed-outside ok old new (512 * p) 512 (λ j. 255) change i out

    from : ℕ → ℕ
    from i = slice_index old (512 * p + i)

    up : (i k : ℕ) → i < 18 → k < 8 → bit_at (from i) k ≤ bit_at (slice_index new (512 * p + i)) k
    up i k small bit = erased-bit ok old new p change (512 * p + i) k (omega arith) (omega arith) (omega arith) bit

    page_clean : IsClean old → (i k : ℕ) → i < 9 → k < 8 → 0 < bit_at (from i) k + bit_at (from (9 + i)) k
    page_clean clean i k small bit = grind arith

full_clean : (a b : ℕ) → a ≡ 255 → (k : ℕ) → k < 8 → 0 < bit_at a k + bit_at b k
full_clean a b is k bit = let h0 = bit_at a k in let h1 = bit_at b k in let h2 = ap (λ n. bit_at n k) is ∙ bit_at_ones 8 k bit in grind arith

full_invalid : (a b : ℕ) → a ≡ 255 → b ≡ 255 → b ≡ 255 - a → ⊥
full_invalid a b e f g = absurd (omega arith)

-- the data were programmed into an erased page, or that failed
pub bytes_put : (ok : Bool) (old mid new : List ℕ) (p s v : ℕ) (bytes : List ℕ) → p < 272 → length bytes ≡ 256
    → IsChanged true old (erased old p) mid → IsChanged ok mid (programmed mid (512 * p + 18) bytes) new → IsPut false old new p s v bytes
bytes_put ok old mid new p s v bytes below len erase change = record {
  before = erase.before;
  after = change.after;
  others = others;
  clean = λ clean. clean_from old new p others
      (λ i k small bit. full_clean (slice_index new (512 * p + i)) (slice_index new (512 * p + 9 + i)) (full i (omega arith)) k bit) clean;
  valid = λ clean valid. absurd (full_invalid (slice_index new (512 * p + 0)) (slice_index new (512 * p + 9 + 0)) (full 0 (omega arith))
      (ap (slice_index new) (omega arith) ∙ full 9 (omega arith)) (valid_at new p valid 0 (omega arith)));
  done = λ e. absurd (false≢true e);
}
  where
    outside : (i : ℕ) → (i < 512 * p + 18) ⊎ (512 * p + 18 + length bytes ≤ i) → slice_index new i ≡ slice_index mid i
    outside i out = changed-outside ok mid new (512 * p + 18) (length bytes) _ change i out

    others : OthersStay old new p
    others i (inl low) = outside i (inl (omega arith)) ∙ changed-outside true old mid (512 * p) 512 (λ j. 255) erase i (inl low)
    others i (inr high) = outside i (inr (omega arith)) ∙ changed-outside true old mid (512 * p) 512 (λ j. 255) erase i (inr high)

    full : (i : ℕ) → i < 18 → slice_index new (512 * p + i) ≡ 255
    full i small =
        outside (512 * p + i) (inl (omega arith))
        ∙ changed-inside old mid (512 * p) 512 (λ j. 255) erase (512 * p + i) (omega arith) (omega arith) (omega arith)

-- the header was programmed behind the data, or that failed
pub header_put : (ok : Bool) (old mid filled new : List ℕ) (p s v : ℕ) (bytes : List ℕ) → p < 272 → s < 256 → length bytes ≡ 256
    → ((j : ℕ) → slice_index bytes j < 256) → IsChanged true old (erased old p) mid → IsChanged true mid (programmed mid (512 * p + 18) bytes) filled
    → IsChanged ok filled (programmed filled (512 * p) (page_header s v)) new → IsPut ok old new p s v bytes
header_put ok old mid filled new p s v bytes below fits len byte erase fill change = record {
  before = erase.before;
  after = change.after;
  others = others;
  clean = λ clean. clean_from old new p others (clean_up from new p page_clean up) clean;
  valid = λ clean valid. inr (has (header_settled from new p change.after below from_byte page_clean up valid));
  done = λ e. has (at_end ok e change);
}
  where
    from : ℕ → ℕ
    from i = slice_index (page_header s v) i

    beside : (i : ℕ) → (i < 512 * p) ⊎ (512 * p + 18 ≤ i) → slice_index new i ≡ slice_index filled i
    beside i out =
        changed-outside ok filled new (512 * p) (length (page_header s v)) _ change i
        (subst (λ n. (i < 512 * p) ⊎ (512 * p + n ≤ i)) (sym (made_length s v)) out)

    outside : (i : ℕ) → (i < 512 * p + 18) ⊎ (512 * p + 18 + length bytes ≤ i) → slice_index filled i ≡ slice_index mid i
    outside i out = changed-outside true mid filled (512 * p + 18) (length bytes) _ fill i out

    others : OthersStay old new p
    others i (inl low) = beside i (inl low) ∙ outside i (inl (omega arith)) ∙ changed-outside true old mid (512 * p) 512 (λ j. 255) erase i (inl low)
    others i (inr high) =
        beside i (inr (omega arith)) ∙ outside i (inr (omega arith)) ∙ changed-outside true old mid (512 * p) 512 (λ j. 255) erase i (inr high)

    blank_at : (i : ℕ) → i < 512 → slice_index mid (512 * p + i) ≡ 255
    blank_at i small = changed-inside old mid (512 * p) 512 (λ j. 255) erase (512 * p + i) (omega arith) (omega arith) (omega arith)

    full : (i : ℕ) → i < 18 → slice_index filled (512 * p + i) ≡ 255
    full i small = outside (512 * p + i) (inl (omega arith)) ∙ blank_at i (omega arith)

    in_header : (i : ℕ) → i < 18 → 512 * p + i < 512 * p + length (page_header s v)
    in_header i small = omega (arith, made_length s v)

    place : (i : ℕ) → 512 * p + i - 512 * p ≡ i
    place i = omega arith

    up : (i k : ℕ) → i < 18 → k < 8 → bit_at (from i) k ≤ bit_at (slice_index new (512 * p + i)) k
    up i k small bit =
        subst (λ n. bit_at (slice_index (page_header s v) n) k ≤ bit_at (slice_index new (512 * p + i)) k) (place i)
        (programmed-bit ok filled new (page_header s v) (512 * p) change (512 * p + i) k (omega arith) (omega arith) (in_header i small) (full i small) bit)

    low_byte : (i : ℕ) → i < 9 → from i < 256
    low_byte i small = made_byte s v fits i small

    from_byte : (i : ℕ) → from i < 256
    from_byte i = by_place (cases_lt i 9)
      where
        past : (j : ℕ) → 18 ≤ j → from j < 256
        past j far = subst (λ n. n < 256) (sym (get_or_past (page_header s v) j 0 (subst (λ n. n ≤ j) (sym (made_length s v)) far))) (omega arith)

        high_byte : (j : ℕ) → j < 9 → from (9 + j) < 256
        high_byte j small = subst (λ n. n < 256) (sym (made_apart s v j small)) (omega arith)

        by_place : (i < 9) ⊎ (9 ≤ i) → from i < 256
        by_place (inl small) = low_byte i small
        by_place (inr far) = by_high (cases_lt i 18)
          where
            by_high : (i < 18) ⊎ (18 ≤ i) → from i < 256
            by_high (inl inside) = subst (λ n. from n < 256) (omega arith) (high_byte (i - 9) (omega arith))
            by_high (inr beyond) = past i beyond

    page_clean : (i k : ℕ) → i < 9 → k < 8 → 0 < bit_at (from i) k + bit_at (from (9 + i)) k
    page_clean i k small bit = apart_is_clean (from i) (from (9 + i)) (low_byte i small) (made_apart s v i small) k bit

    data_there : (j : ℕ) → j < 256 → slice_index new (512 * p + 18 + j) ≡ slice_index bytes j
    data_there j small =
        let e : 512 * p + 18 + j - (512 * p + 18) ≡ j = omega arith in
        beside (512 * p + 18 + j) (inr (omega arith))
        ∙ programmed-byte mid filled bytes (512 * p + 18) fill (512 * p + 18 + j) (omega arith) (omega arith) (omega arith)
        (subst (λ n. slice_index mid n ≡ 255) (omega arith) (blank_at (18 + j) (omega arith)))
        (byte (512 * p + 18 + j - (512 * p + 18)))
        ∙ ap (slice_index bytes) e

    has : ((i : ℕ) → i < 18 → slice_index new (512 * p + i) ≡ from i) → HasSector new p s v bytes
    has header = record {
      header = ext_get_or 0 (header_at new p) (page_header s v) (length-header new p change.after.size below ∙ sym (made_length s v))
          (λ i inside. let small : i < 18 = subst (λ n. i < n) (length-header new p change.after.size below) inside in
          header-byte new p i small ∙ header i small);
      bytes_are = data_there;
    }

    at_end : (o : Bool) → o ≡ true → IsChanged o filled (programmed filled (512 * p) (page_header s v)) new
        → (i : ℕ) → i < 18 → slice_index new (512 * p + i) ≡ from i
    at_end true e whole i small =
        programmed-byte filled new (page_header s v) (512 * p) whole (512 * p + i) (omega arith) (omega arith) (in_header i small) (full i small)
        (from_byte (512 * p + i - 512 * p))
        ∙ ap from (place i)
    at_end false e whole i small = absurd (false≢true e)

-- a memory that is all FF is clean
pub blank_is_clean : (n : ℕ) → n ≡ 139264 → IsClean (blank n)
blank_is_clean n size page i k below small bit =
    full_clean (slice_index (blank n) (512 * page + i)) (slice_index (blank n) (512 * page + 9 + i)) (blank-at n (512 * page + i) (omega arith)) k bit
