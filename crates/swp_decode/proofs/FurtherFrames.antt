-- Bits, lines and frames that come further, and the bits of many periods.
use Rattle.std.proofs.Common.{zero}
use Rattle.std.proofs.lemmas.Nat.{mod-pow-add, shl-shr, shr-shr}
use Rattle.swp_decode.proofs.Names.{AreBits, Bits, Bool, DecoderStandsFor, HasNoMark, List, NoMarkEnds, Option, Period, ReadSymbol, ReadsSignal, S1, S2, Some}
use Rattle.swp_decode.proofs.Names.{Symbol, Wire, Word, [], ap, append-nil, append_assoc, ap₂, arith, bit, break, drop, false, field_of, frame_given}
use Rattle.swp_decode.proofs.Names.{frames_with, front_of, get_or, length, length-append, length-low_bits, length-reverse, length-take-le, line_at, line_with}
use Rattle.swp_decode.proofs.Names.{lines_with, low_bits-at, mark_of, mod-cut, no_mark, period_at, readings_on, refl, replicate, reverse, reverse-append}
use Rattle.swp_decode.proofs.Names.{run_of, signal, spelled_number, start_after, start_of, subst, suc, sym, symbol_of, symbol_on, symbols, take, take-add}
use Rattle.swp_decode.proofs.Names.{take_more, true, unwrap_or, with_reading, word_bits, ℕ, ◌%◌, ◌*◌, ◌++◌, ◌+◌, ◌-◌, ◌/◌, ◌<◌, ◌^◌, ◌∙◌, ◌∷◌, ◌≡◌, ◌≤◌}
use Rattle.swp_frame.specs.Signal.{read_on, since_start}
use Rattle.swp_frame.specs.Words.{IsWordBehind, low_bits, places_of_marks, run_after}
use Rattle.swp_frame.specs.Verdicts.{verdict_after}
use Rattle.swp_frame.specs.declared.fed.Fed.TheVariants.{Nothing}
use Rattle.swp_frame.proofs.Places.{EndsIn, all_ones, drop-low_bits, low_bits-add, low_bits-same, take-low_bits, last_zero, run_at_end, marks_between, no_marks}
use Rattle.swp_frame.proofs.FurtherBits.{run_of-read_on}
use Rattle.swp_decode.specs.Readings.{front_after}
use Rattle.swp_decode.specs.Texts.{verdict_line}
use Rattle.swp_decode.specs.Decoded.{lines_on, record_lines, transcript}
use Rattle.swp_decode.specs.declared.decoder.Decoder.{Decoder}
use Rattle.swp_decode.specs.Frames.{frame_with, frames_told, record_frames}

pub symbols-readings_on : (place : ℕ) (bits : List Bool) (older : List ReadSymbol) → symbols (readings_on place bits older) ≡ read_on (symbols older) bits
symbols-readings_on place [] older = refl
symbols-readings_on place (bit ∷ bits) older = symbols-readings_on (place + 1) bits (with_reading (Some (symbol_of bit)) place older)

pub readings_on-append : (place : ℕ) (bits more : List Bool) (older : List ReadSymbol)
    → readings_on place (bits ++ more) older ≡ readings_on (place + length bits) more (readings_on place bits older)
readings_on-append place [] more older = ap (λ n. readings_on n more older) (omega arith)
readings_on-append place (bit ∷ bits) more older =
    readings_on-append (place + 1) bits more (with_reading (Some (symbol_of bit)) place older)
    ∙ ap (λ n. readings_on n more (readings_on place (bit ∷ bits) older)) (omega arith)

-- bits that end no mark move no start
pub start_of-readings_on : (place : ℕ) (bits : List Bool) (older : List ReadSymbol) → HasNoMark (symbols older) bits
    → start_of (readings_on place bits older) ≡ start_of older
start_of-readings_on place [] older quiet = refl
start_of-readings_on place (bit ∷ bits) older quiet =
    start_of-readings_on (place + 1) bits (with_reading (Some (symbol_of bit)) place older) quiet.1
    ∙ ap (λ mark. start_after mark (front_of older) (start_of older)) quiet.0

-- no line comes with bits that end no mark
pub lines_on-quiet : (wire : Wire) (place : ℕ) (bits : List Bool) (older : List ReadSymbol) → HasNoMark (symbols older) bits
    → lines_on wire place bits older ≡ []
lines_on-quiet wire place [] older quiet = refl
lines_on-quiet wire place (bit ∷ bits) older quiet =
    let seen = symbols older in
    let nothing : verdict_after (mark_of (symbol_of bit ∷ seen)) (since_start seen) ≡ Nothing = grind arith in
    let rest = lines_on wire (place + 1) bits (with_reading (Some (symbol_of bit)) place older) in
    ap (λ fed. verdict_line wire (start_of older) fed ++ rest) nothing
    ∙ lines_on-quiet wire (place + 1) bits (with_reading (Some (symbol_of bit)) place older) quiet.1

-- the front after further bits
abbrev pub front_on : ℕ → List Bool → Option ℕ → Option ℕ
front_on place [] before = before
front_on place (bit ∷ bits) before = front_on (place + 1) bits (front_after (symbol_of bit) place before)

pub front_of-readings_on : (place : ℕ) (bits : List Bool) (older : List ReadSymbol)
    → front_of (readings_on place bits older) ≡ front_on place bits (front_of older)
front_of-readings_on place [] older = refl
front_of-readings_on place (bit ∷ bits) older = front_of-readings_on (place + 1) bits (with_reading (Some (symbol_of bit)) place older)

abbrev pub has_zero : List Bool → Bool
has_zero [] = false
has_zero (true ∷ bits) = has_zero bits
has_zero (false ∷ bits) = true

front_behind_zero : (place front ones at : ℕ) (bits : List Bool) → place ≡ front + 1 + ones → at + run_after ones bits + 1 ≡ place + length bits
    → front_on place bits (Some front) ≡ Some at
front_behind_zero place front ones at [] h e = ap (λ n. Some n) (omega arith)
front_behind_zero place front ones at (true ∷ bits) h e = front_behind_zero (place + 1) front (suc ones) at bits (omega arith) (omega arith)
front_behind_zero place front ones at (false ∷ bits) h e = front_behind_zero (place + 1) place 0 at bits (omega arith) (omega arith)

-- where a 0 is among the bits, the front is the place of the last
pub front_at_last_zero : (place ones at : ℕ) (bits : List Bool) (before : Option ℕ) → has_zero bits ≡ true → at + run_after ones bits + 1 ≡ place + length bits
    → front_on place bits before ≡ Some at
front_at_last_zero place ones at [] before z e = absurd (cc)
front_at_last_zero place ones at (true ∷ bits) before z e =
    front_at_last_zero (place + 1) (suc ones) at bits (front_after (symbol_of true) place before) z (omega arith)
front_at_last_zero place ones at (false ∷ bits) before z e = front_behind_zero (place + 1) place 0 at bits (omega arith) (omega arith)

-- ---- the front behind the bits of a number

has_zero-behind : (xs ys : List Bool) → has_zero (xs ++ false ∷ ys) ≡ true
has_zero-behind [] ys = refl
has_zero-behind (true ∷ xs) ys = has_zero-behind xs ys
has_zero-behind (false ∷ xs) ys = refl

front_kept : (place front n : ℕ) → front_on place (replicate n true) (Some front) ≡ Some front
front_kept place front zero = refl
front_kept place front (suc n) = front_kept (place + 1) front n

front_first : (place n : ℕ) (before : Option ℕ) → 0 < n → front_on place (replicate n true) before ≡ Some (unwrap_or before place)
front_first place zero before some = absurd (omega arith)
front_first place (suc n) before some = front_kept (place + 1) (unwrap_or before place) n

pub front_at_end : (place w n ones : ℕ) (older : List ReadSymbol) → 0 < w → EndsIn w n ones
    → (w ≤ ones → front_of (readings_on place (low_bits w n) older) ≡ Some (unwrap_or (front_of older) place))
    × (ones < w → front_of (readings_on place (low_bits w n) older) ≡ Some (place + w - 1 - ones))
front_at_end place w n ones older some (all_ones over is) = (
  (λ _. front_of-readings_on place (low_bits w n) older ∙ ap (λ bits. front_on place bits (front_of older)) is ∙ front_first place w (front_of older) some),
  (λ lt. absurd (omega (arith, lt, over))),
)
front_at_end place w n ones older some (last_zero lt is) = (
  (λ over. absurd (omega (arith, lt, over))),
  (λ _. front_of-readings_on place (low_bits w n) older
      ∙ front_at_last_zero place 0 (place + w - 1 - ones) (low_bits w n) (front_of older)
      (ap has_zero is ∙ has_zero-behind (low_bits (w - suc ones) (n / 2 ^ suc ones)) (replicate ones true))
      (omega (arith, lt, (run_at_end w n ones 0 (last_zero lt is)).1 lt, length-low_bits w n))),
)

-- ---- a word

-- further bits, in two parts
pub readings_further : (place from to n x : ℕ) (older : List ReadSymbol) → from ≤ to → to ≤ n
    → readings_on (place + from) (take (to - from) (drop from (low_bits n x))) (readings_on place (take from (low_bits n x)) older)
    ≡ readings_on place (take to (low_bits n x)) older
readings_further place from to n x older order within =
    let bits = low_bits n x in
    let sized : length (take from bits) ≡ from = length-take-le from bits (omega (arith, order, within, length-low_bits n x)) in
    ap (λ k. readings_on (place + k) (take (to - from) (drop from bits)) (readings_on place (take from bits) older)) (sym sized)
    ∙ sym (readings_on-append place (take from bits) (take (to - from) (drop from bits)) older)
    ∙ ap (λ xs. readings_on place xs older) (sym (take-add from (to - from) bits) ∙ ap (λ k. take k bits) (omega (arith, order)))

-- the run behind the first bits
pub run_behind_readings : (place : ℕ) (bits : List Bool) (older : List ReadSymbol)
    → run_of (symbols (readings_on place bits older)) ≡ run_after (run_of (symbols older)) bits
run_behind_readings place bits older = ap run_of (symbols-readings_on place bits older) ∙ run_of-read_on (symbols older) bits

-- no mark ends where the word has none
pub quiet_between : (word : Word) (place from to : ℕ) (older : List ReadSymbol) → from ≤ to → to ≤ 64 → IsWordBehind word (run_of (symbols older))
    → NoMarkEnds word from to
    → HasNoMark (symbols (readings_on place (take from (word_bits word)) older)) (take (to - from) (drop from (word_bits word)))
quiet_between word place from to older order within behind quiet =
    let bits = word_bits word in
    let part = take (to - from) (drop from bits) in
    no_marks (symbols (readings_on place (take from bits) older)) part
    (ap (λ ones. spelled_number (places_of_marks ones part)) (run_behind_readings place (take from bits) older)
    ∙ sym (marks_between 64 from (to - from) (run_of (symbols older)) word.bits word.marks (omega (arith, order, within)) behind.marks)
    ∙ ap (λ k. word.marks / 2 ^ (64 - k) % 2 ^ (to - from)) (omega (arith, order)) ∙ quiet)

-- nor does one where a further bit has none
pub quiet_more : (word : Word) (from last : ℕ) → from ≤ last → last < 64 → NoMarkEnds word from last → word.marks / 2 ^ (63 - last) % 2 ≡ 0
    → NoMarkEnds word from (last + 1)
quiet_more word from last order within quiet none =
    let n : ℕ = word.marks / 2 ^ (63 - last) in
    let half : n / 2 ^ 1 ≡ word.marks / 2 ^ (64 - last) = shr-shr word.marks (63 - last) 1 ∙ ap (λ k. word.marks / 2 ^ k) (omega (arith, within)) in
    ap₂ (λ k j. word.marks / 2 ^ k % 2 ^ j) (omega (arith, within)) (omega (arith, order))
    ∙ mod-pow-add n (last - from) 1
    ∙ ap₂ (λ a b. a * 2 ^ 1 + b) (ap (λ m. m % 2 ^ (last - from)) half ∙ quiet) none

-- nor does one where no mark ends up to a bit, nor from there on
pub quiet_further : (word : Word) (from mid to : ℕ) → from ≤ mid → mid ≤ to → to ≤ 64 → NoMarkEnds word from mid → NoMarkEnds word mid to
    → NoMarkEnds word from to
quiet_further word from mid to order further within quiet none =
    let n : ℕ = word.marks / 2 ^ (64 - to) in
    let upper : n / 2 ^ (to - mid) ≡ word.marks / 2 ^ (64 - mid) = shr-shr word.marks (64 - to) (to - mid)
    ∙ ap (λ k. word.marks / 2 ^ k) (omega (arith, further, within)) in
    ap (λ j. n % 2 ^ j) (omega (arith, order, further))
    ∙ mod-pow-add n (mid - from) (to - mid)
    ∙ ap₂ (λ a b. a * 2 ^ (to - mid) + b) (ap (λ m. m % 2 ^ (mid - from)) upper ∙ quiet) none
    ∙ nothing (2 ^ (to - mid))
  where
    nothing : (n : ℕ) → 0 * n + 0 ≡ 0
    nothing n = omega arith

-- no mark ends with none of its bits
pub quiet_none : (word : Word) (at : ℕ) → NoMarkEnds word at at
quiet_none word at = grind arith

-- one bit more
pub word_bits-more : (x last : ℕ) → last < 64 → take (last + 1) (low_bits 64 x) ≡ take last (low_bits 64 x) ++ bit x (63 - last) ∷ []
word_bits-more x last h =
    take_more (low_bits 64 x) last false (omega (arith, h, length-low_bits 64 x))
    ∙ ap (λ b. take last (low_bits 64 x) ++ b ∷ []) (low_bits-at 64 last x h ∙ ap (bit x) (omega arith))

pub readings_more : (place x last : ℕ) (older : List ReadSymbol) → last < 64
    → with_reading (Some (symbol_of (bit x (63 - last)))) (place + last) (readings_on place (take last (low_bits 64 x)) older)
    ≡ readings_on place (take (last + 1) (low_bits 64 x)) older
readings_more place x last older h =
    let bits = take last (low_bits 64 x) in
    let sized : length bits ≡ last = length-take-le last (low_bits 64 x) (omega (arith, h, length-low_bits 64 x)) in
    ap (λ k. with_reading (Some (symbol_of (bit x (63 - last)))) (place + k) (readings_on place bits older)) (sym sized)
    ∙ sym (readings_on-append place bits (bit x (63 - last) ∷ []) older)
    ∙ ap (λ xs. readings_on place xs older) (sym (word_bits-more x last h))

-- no line comes with a bit that ends no mark
pub quiet_line : (wire : Wire) (bit : Bool) (older : List ReadSymbol) → mark_of (symbol_of bit ∷ symbols older) ≡ no_mark
    → line_with wire (Some (symbol_of bit)) older ≡ []
quiet_line wire bit older none = grind arith

one_there : (x last : ℕ) → last < 64 → take (last + 1 - last) (drop last (low_bits 64 x)) ≡ bit x (63 - last) ∷ []
unfolding low_bits
one_there x last h =
    let one : last + 1 - last ≡ 1 = omega arith in
    let left : drop last (low_bits 64 x) ≡ low_bits (suc (63 - last)) x = drop-low_bits last (suc (63 - last)) 64 x (omega (arith, h)) in
    ap₂ (λ k xs. take k xs) one left

-- no line comes with a bit of a word that ends no mark
pub quiet_line_at : (word : Word) (wire : Wire) (place last : ℕ) (older : List ReadSymbol) → last < 64 → IsWordBehind word (run_of (symbols older))
    → word.marks / 2 ^ (63 - last) % 2 ≡ 0
    → line_with wire (Some (symbol_of (bit word.bits (63 - last)))) (readings_on place (take last (word_bits word)) older) ≡ []
quiet_line_at word wire place last older h behind none =
    let before = readings_on place (take last (word_bits word)) older in
    let place_is : 64 - (last + 1) ≡ 63 - last = omega (arith, h) in
    let one : last + 1 - last ≡ 1 = omega arith in
    let quiet : NoMarkEnds word last (last + 1) = ap₂ (λ k j. word.marks / 2 ^ k % 2 ^ j) place_is one ∙ none in
    let marks : HasNoMark (symbols before) (bit word.bits (63 - last) ∷ []) =
    subst (HasNoMark (symbols before)) (one_there word.bits last h)
    (quiet_between word place last (last + 1) older (omega arith) (omega (arith, h)) behind quiet) in
    quiet_line wire (bit word.bits (63 - last)) before marks.0

-- ---- bytes that have bits are periods with bits

-- a byte among bytes that have bits has one
symbol_there : (wire : Wire) (bytes : List ℕ) (bits : List Bool) (i : ℕ) → AreBits wire bytes bits → i < length bytes
    → (bit : Bool) × (symbol_on wire (period_at (get_or bytes i 0)) ≡ Some (symbol_of bit))
symbol_there wire [] bits i are h = absurd (omega arith)
symbol_there wire (byte ∷ bytes) [] i are h = absurd are
symbol_there wire (byte ∷ bytes) (bit ∷ bits) zero are h = (bit, are.0)
symbol_there wire (byte ∷ bytes) (bit ∷ bits) (suc i) are h = symbol_there wire bytes bits i are.1 (omega arith)

-- a byte among bytes that have bits is a period with bits
pub bits_there : (bytes : List ℕ) (bits : List Bool) (i : ℕ) → AreBits S1 bytes bits → i < length bytes
    → (s1 : Bool) × ((s2 : Bool) × (period_at (get_or bytes i 0) ≡ Some (Bits s1 s2)))
bits_there bytes bits i are h = let there = symbol_there S1 bytes bits i are h in with_bit (period_at (get_or bytes i 0)) there.0 there.1
  where
    no_break : (bit : Bool) → Some break ≡ Some (symbol_of bit) → ⊥
    no_break bit e = grind arith

    with_bit : (p : Option Period) (bit : Bool) → symbol_on S1 p ≡ Some (symbol_of bit) → (s1 : Bool) × ((s2 : Bool) × (p ≡ Some (Bits s1 s2)))
    with_bit p bit e = grind arith

-- bytes that have bits, and more of them
pub AreBits-append : (wire : Wire) (bytes more : List ℕ) (bits further : List Bool) → AreBits wire bytes bits → AreBits wire more further
    → AreBits wire (bytes ++ more) (bits ++ further)
AreBits-append wire [] more [] further are later = later
AreBits-append wire [] more (bit ∷ bits) further are later = absurd are
AreBits-append wire (byte ∷ bytes) more [] further are later = absurd are
AreBits-append wire (byte ∷ bytes) more (bit ∷ bits) further are later = (are.0, AreBits-append wire bytes more bits further are.1 later)

-- some of them
pub AreBits-take : (wire : Wire) (n : ℕ) (bytes : List ℕ) (bits : List Bool) → AreBits wire bytes bits → AreBits wire (take n bytes) (take n bits)
AreBits-take wire zero bytes bits are = tt
AreBits-take wire (suc n) [] [] are = tt
AreBits-take wire (suc n) [] (bit ∷ bits) are = absurd are
AreBits-take wire (suc n) (byte ∷ bytes) [] are = absurd are
AreBits-take wire (suc n) (byte ∷ bytes) (bit ∷ bits) are = (are.0, AreBits-take wire n bytes bits are.1)

pub AreBits-drop : (wire : Wire) (n : ℕ) (bytes : List ℕ) (bits : List Bool) → AreBits wire bytes bits → AreBits wire (drop n bytes) (drop n bits)
AreBits-drop wire zero bytes bits are = are
AreBits-drop wire (suc n) [] [] are = tt
AreBits-drop wire (suc n) [] (bit ∷ bits) are = absurd are
AreBits-drop wire (suc n) (byte ∷ bytes) [] are = absurd are
AreBits-drop wire (suc n) (byte ∷ bytes) (bit ∷ bits) are = AreBits-drop wire n bytes bits are.1

-- some of those at the front
pub AreBits-part : (wire : Wire) (known from n : ℕ) (bytes : List ℕ) (bits : List Bool) → from + n ≤ known
    → AreBits wire (take known bytes) (take known bits) → AreBits wire (take n (drop from bytes)) (take n (drop from bits))
AreBits-part wire known from zero bytes bits within are = tt
AreBits-part wire zero from (suc n) bytes bits within are = absurd (omega arith)
AreBits-part wire (suc known) zero (suc n) [] [] within are = tt
AreBits-part wire (suc known) zero (suc n) [] (bit ∷ bits) within are = absurd are
AreBits-part wire (suc known) zero (suc n) (byte ∷ bytes) [] within are = absurd are
AreBits-part wire (suc known) zero (suc n) (byte ∷ bytes) (bit ∷ bits) within are = (
  are.0,
  AreBits-part wire known zero n bytes bits (omega arith) are.1,
)
AreBits-part wire (suc known) (suc from) (suc n) [] [] within are = tt
AreBits-part wire (suc known) (suc from) (suc n) [] (bit ∷ bits) within are = absurd are
AreBits-part wire (suc known) (suc from) (suc n) (byte ∷ bytes) [] within are = absurd are
AreBits-part wire (suc known) (suc from) (suc n) (byte ∷ bytes) (bit ∷ bits) within are =
    AreBits-part wire known from (suc n) bytes bits (omega arith) are.1

-- the one at a place of them
pub AreBits-front : (wire : Wire) (known i : ℕ) (bytes : List ℕ) (bits : List Bool) → AreBits wire (take known bytes) (take known bits) → i < known
    → i < length bytes → symbol_on wire (period_at (get_or bytes i 0)) ≡ Some (symbol_of (get_or bits i false))
AreBits-front wire zero i bytes bits are small h = absurd (omega arith)
AreBits-front wire (suc known) i [] bits are small h = absurd (omega arith)
AreBits-front wire (suc known) i (byte ∷ bytes) [] are small h = absurd are
AreBits-front wire (suc known) zero (byte ∷ bytes) (bit ∷ bits) are small h = are.0
AreBits-front wire (suc known) (suc i) (byte ∷ bytes) (bit ∷ bits) are small h =
    AreBits-front wire known i bytes bits are.1 (omega arith) (omega arith)

-- those behind some
pub AreBits-behind : (wire : Wire) (bytes more : List ℕ) (bits : List Bool) → AreBits wire (bytes ++ more) bits → AreBits wire more (drop (length bytes) bits)
AreBits-behind wire [] more bits are = are
AreBits-behind wire (byte ∷ bytes) more [] are = absurd are
AreBits-behind wire (byte ∷ bytes) more (bit ∷ bits) are = AreBits-behind wire bytes more bits are.1

-- the one at a place
pub AreBits-at : (wire : Wire) (i : ℕ) (bytes : List ℕ) (bits : List Bool) → AreBits wire bytes bits → i < length bytes
    → symbol_on wire (period_at (get_or bytes i 0)) ≡ Some (symbol_of (get_or bits i false))
AreBits-at wire i [] bits are h = absurd (omega arith)
AreBits-at wire i (byte ∷ bytes) [] are h = absurd are
AreBits-at wire zero (byte ∷ bytes) (bit ∷ bits) are h = are.0
AreBits-at wire (suc i) (byte ∷ bytes) (bit ∷ bits) are h = AreBits-at wire i bytes bits are.1 (omega arith)

-- sixteen more bits behind some
pub low_bits-more : (n x b : ℕ) → n ≤ 48 → b < 2 ^ 16 → low_bits (n + 16) (x * 2 ^ 16 % 2 ^ 64 + b) ≡ low_bits n x ++ low_bits 16 b
low_bits-more n x b few small =
    let kept : ℕ = x % 2 ^ 48 in
    ap (λ m. low_bits (n + 16) (m + b)) (omega arith)
    ∙ low_bits-add n 16 (n + 16) (kept * 2 ^ 16 + b) refl
    ∙ ap₂ (λ xs ys. xs ++ ys)
    (ap (low_bits n) (omega (arith, small)) ∙ low_bits-same n kept x (mod-cut n 48 x few))
    (low_bits-same 16 (kept * 2 ^ 16 + b) b (omega (arith, small)))

-- bits that are moved to the top of sixty-four
pub low_bits-first : (read x : ℕ) → read < 64 → take read (low_bits 64 (x * 2 ^ (64 - read) % 2 ^ 64)) ≡ low_bits read x
low_bits-first read x small =
    let rest : ℕ = 64 - read in
    let whole : 64 ≡ read + rest = omega arith in
    take-low_bits read rest 64 (x * 2 ^ rest % 2 ^ 64) whole
    ∙ low_bits-same read (x * 2 ^ rest % 2 ^ 64 / 2 ^ rest) x (ap (λ n. n % 2 ^ read) (moved read rest whole) ∙ mod-cut read read x (omega arith))
  where
    moved : (a b : ℕ) → 64 ≡ a + b → x * 2 ^ b % 2 ^ 64 / 2 ^ b ≡ x % 2 ^ a
    moved a b whole =
        ap (λ k. x * 2 ^ b % 2 ^ k / 2 ^ b) whole ∙ field_of (x * 2 ^ b) a b ∙ ap (λ n. n % 2 ^ a) (shl-shr x b)

-- no bits
pub low_bits-none : (read x y : ℕ) → read ≡ 0 → take read (low_bits 64 y) ≡ low_bits read x
unfolding low_bits
low_bits-none zero x y none = refl
low_bits-none (suc read) x y none = absurd (omega arith)

-- ---- the lines that come with further bytes

-- older bytes with one more behind them
pub reverse_onto : (byte : ℕ) (bytes older : List ℕ) → reverse (byte ∷ bytes) ++ older ≡ reverse bytes ++ (byte ∷ older)
reverse_onto byte bytes older = ap (λ xs. xs ++ older) (reverse-append (byte ∷ []) bytes) ∙ append_assoc (reverse bytes) (byte ∷ []) older

-- the lines of older bytes and of further ones
pub transcript-append : (older bytes : List ℕ) → transcript (reverse bytes ++ older) ≡ transcript older ++ lines_with older bytes
transcript-append older [] = sym (append-nil (transcript older))
transcript-append older (byte ∷ bytes) =
    ap transcript (reverse_onto byte bytes older) ∙ transcript-append (byte ∷ older) bytes
    ∙ regrouped (transcript older) (line_at S1 (byte ∷ older)) (line_at S2 (byte ∷ older)) (lines_with (byte ∷ older) bytes)
  where
    regrouped : (a b c d : List ℕ) → ((a ++ b) ++ c) ++ d ≡ a ++ ((b ++ c) ++ d)
    regrouped a b c d = simp append_assoc

-- the lines of a record and of what follows it
pub record_lines-append : (bytes more : List ℕ) → record_lines (bytes ++ more) ≡ record_lines bytes ++ lines_with (reverse bytes) more
record_lines-append bytes more = ap transcript (reverse-append bytes more) ∙ transcript-append (reverse bytes) more

-- the lines of further bytes and of those behind them
pub lines_behind-append : (older bytes more : List ℕ) → lines_with older (bytes ++ more) ≡ lines_with older bytes ++ lines_with (reverse bytes ++ older) more
lines_behind-append older [] more = refl
lines_behind-append older (byte ∷ bytes) more =
    let new = line_at S1 (byte ∷ older) ++ line_at S2 (byte ∷ older) in
    ap (λ lines. new ++ lines) (lines_behind-append (byte ∷ older) bytes more)
    ∙ sym (append_assoc new (lines_with (byte ∷ older) bytes) (lines_with (reverse bytes ++ (byte ∷ older)) more))
    ∙ ap (λ seen. (new ++ lines_with (byte ∷ older) bytes) ++ lines_with seen more) (sym (reverse_onto byte bytes older))

-- one more of the further bytes
pub reverse-more : (older bytes : List ℕ) (i : ℕ) → i < length bytes
    → get_or bytes i 0 ∷ (reverse (take i bytes) ++ older) ≡ reverse (take (i + 1) bytes) ++ older
reverse-more older bytes i h =
    ap (λ xs. xs ++ older) (sym (reverse-append (take i bytes) (get_or bytes i 0 ∷ [])) ∙ ap reverse (sym (take_more bytes i 0 h)))

pub lines_behind-more : (text older bytes : List ℕ) (i : ℕ) → i < length bytes
    → let seen = get_or bytes i 0 ∷ (reverse (take i bytes) ++ older) in
    ((text ++ lines_with older (take i bytes)) ++ line_at S1 seen) ++ line_at S2 seen ≡ text ++ lines_with older (take (i + 1) bytes)
lines_behind-more text older bytes i h =
    let before = take i bytes in
    let byte = get_or bytes i 0 in
    let seen = byte ∷ (reverse before ++ older) in
    regrouped text (lines_with older before) (line_at S1 seen) (line_at S2 seen)
    ∙ ap (λ lines. text ++ lines) (sym (lines_behind-append older before (byte ∷ [])) ∙ ap (lines_with older) (sym (take_more bytes i 0 h)))
  where
    regrouped : (a b c d : List ℕ) → ((a ++ b) ++ c) ++ d ≡ a ++ (b ++ ((c ++ d) ++ []))
    regrouped a b c d = simp (append_assoc, append-nil)

-- what is read in one direction with further bytes that have bits
pub signal-bits : (wire : Wire) (bytes : List ℕ) (bits : List Bool) (older : List ℕ) → AreBits wire bytes bits
    → signal wire (reverse bytes ++ older) ≡ readings_on (length older) bits (signal wire older)
signal-bits wire [] [] older are = refl
signal-bits wire [] (bit ∷ bits) older are = absurd are
signal-bits wire (byte ∷ bytes) [] older are = absurd are
signal-bits wire (byte ∷ bytes) (bit ∷ bits) older are =
    ap (signal wire) (reverse_onto byte bytes older) ∙ signal-bits wire bytes bits (byte ∷ older) are.1
    ∙ ap (λ n. readings_on n bits (signal wire (byte ∷ older))) (omega arith)
    ∙ ap (λ symbol. readings_on (length older + 1) bits (with_reading symbol (length older) (signal wire older))) are.0

-- the lines on one wire that come with further bytes
abbrev wire_lines : Wire → List ℕ → List ℕ → List ℕ
wire_lines wire older [] = []
wire_lines wire older (byte ∷ bytes) = line_at wire (byte ∷ older) ++ wire_lines wire (byte ∷ older) bytes

wire_lines-bits : (wire : Wire) (bytes : List ℕ) (bits : List Bool) (older : List ℕ) → AreBits wire bytes bits
    → wire_lines wire older bytes ≡ lines_on wire (length older) bits (signal wire older)
wire_lines-bits wire [] [] older are = refl
wire_lines-bits wire [] (bit ∷ bits) older are = absurd are
wire_lines-bits wire (byte ∷ bytes) [] older are = absurd are
wire_lines-bits wire (byte ∷ bytes) (bit ∷ bits) older are =
    ap (λ lines. line_at wire (byte ∷ older) ++ lines)
    (wire_lines-bits wire bytes bits (byte ∷ older) are.1
    ∙ ap (λ n. lines_on wire n bits (signal wire (byte ∷ older))) (omega arith))
    ∙ ap (λ symbol. line_with wire symbol (signal wire older)
    ++ lines_on wire (length older + 1) bits (with_reading symbol (length older) (signal wire older))) are.0

pub no_parts : (xs ys : List ℕ) → xs ++ ys ≡ [] → (xs ≡ []) × (ys ≡ [])
no_parts [] ys e = (refl, e)
no_parts (x ∷ xs) ys e = absurd (cc)

s1_silent : (bytes older : List ℕ) → wire_lines S1 older bytes ≡ [] → lines_with older bytes ≡ wire_lines S2 older bytes
s1_silent [] older e = refl
s1_silent (byte ∷ bytes) older e =
    let none = no_parts (line_at S1 (byte ∷ older)) (wire_lines S1 (byte ∷ older) bytes) e in
    ap (λ lines. (lines ++ line_at S2 (byte ∷ older)) ++ lines_with (byte ∷ older) bytes) none.0
    ∙ ap (λ lines. line_at S2 (byte ∷ older) ++ lines) (s1_silent bytes (byte ∷ older) none.1)

-- Where both readers have read the bits of further bytes, the decoder stands for these too.
pub stands_behind : {old new : Decoder} (bytes : List ℕ) {older : List ℕ} (first second : List Bool) → AreBits S1 bytes first → AreBits S2 bytes second
    → DecoderStandsFor old older
    → new.count ≡ old.count + length bytes → ReadsSignal new.s1 (readings_on old.count first (signal S1 older))
    → ReadsSignal new.s2 (readings_on old.count second (signal S2 older))
    → DecoderStandsFor new (reverse bytes ++ older)
stands_behind {new} bytes {older} first second s1 s2 stands count reads_s1 reads_s2 = record {
  count = omega (arith, count, stands.count, length-append (reverse bytes) older, length-reverse bytes);
  s1 = subst (ReadsSignal new.s1) (ap (λ n. readings_on n first (signal S1 older)) stands.count ∙ sym (signal-bits S1 bytes first older s1)) reads_s1;
  s2 = subst (ReadsSignal new.s2) (ap (λ n. readings_on n second (signal S2 older)) stands.count ∙ sym (signal-bits S2 bytes second older s2)) reads_s2;
}

-- ---- the first of some bytes that have bits

pub signal_at : (wire : Wire) (bytes older : List ℕ) (bits : List Bool) (known n : ℕ) → n ≤ known → AreBits wire (take known bytes) (take known bits)
    → signal wire (reverse (take n bytes) ++ older) ≡ readings_on (length older) (take n bits) (signal wire older)
signal_at wire bytes older bits known n within are =
    signal-bits wire (take n bytes) (take n bits) older (AreBits-part wire known 0 n bytes bits (omega arith) are)

-- no line comes where no mark ends on either wire
no_lines : (bytes older : List ℕ) (first second : List Bool) → AreBits S1 bytes first → AreBits S2 bytes second
    → HasNoMark (symbols (signal S1 older)) first → HasNoMark (symbols (signal S2 older)) second → lines_with older bytes ≡ []
no_lines bytes older first second s1 s2 quiet_s1 quiet_s2 =
    s1_silent bytes older (wire_lines-bits S1 bytes first older s1 ∙ lines_on-quiet S1 (length older) first (signal S1 older) quiet_s1)
    ∙ wire_lines-bits S2 bytes second older s2 ∙ lines_on-quiet S2 (length older) second (signal S2 older) quiet_s2

-- so many bytes behind older ones have these bits on the two wires, and no mark ends on either from one place of them up to another
pub record AreQuietBetween (bytes older : List ℕ) (first second : List Bool) (from to : ℕ) : Type 0 where
  pub known : ℕ
  pub order : from ≤ to
  pub within : to ≤ known
  pub s1 : AreBits S1 (take known bytes) (take known first)
  pub s2 : AreBits S2 (take known bytes) (take known second)
  pub quiet_s1 : HasNoMark (symbols (readings_on (length older) (take from first) (signal S1 older))) (take (to - from) (drop from first))
  pub quiet_s2 : HasNoMark (symbols (readings_on (length older) (take from second) (signal S2 older))) (take (to - from) (drop from second))

-- no line comes with the bytes between these places
pub no_lines_between : {bytes older : List ℕ} {first second : List Bool} {from to : ℕ} → AreQuietBetween bytes older first second from to
    → lines_with (reverse (take from bytes) ++ older) (take (to - from) (drop from bytes)) ≡ []
no_lines_between {bytes} {older} {first} {second} {from} {to} h =
    no_lines (take (to - from) (drop from bytes)) (reverse (take from bytes) ++ older)
    (take (to - from) (drop from first)) (take (to - from) (drop from second))
    (AreBits-part S1 h.known from (to - from) bytes first (omega (arith, h.order, h.within)) h.s1)
    (AreBits-part S2 h.known from (to - from) bytes second (omega (arith, h.order, h.within)) h.s2)
    (subst (λ readings. HasNoMark (symbols readings) (take (to - from) (drop from first)))
    (sym (signal_at S1 bytes older first h.known from (omega (arith, h.order, h.within)) h.s1)) h.quiet_s1)
    (subst (λ readings. HasNoMark (symbols readings) (take (to - from) (drop from second)))
    (sym (signal_at S2 bytes older second h.known from (omega (arith, h.order, h.within)) h.s2)) h.quiet_s2)

pub lines_between : {bytes older : List ℕ} {first second : List Bool} {from to : ℕ} → AreQuietBetween bytes older first second from to
    → lines_with older (take to bytes) ≡ lines_with older (take from bytes)
lines_between {bytes} {older} {first} {second} {from} {to} h =
    ap (λ k. lines_with older (take k bytes)) (omega (arith, h.order))
    ∙ ap (lines_with older) (take-add from (to - from) bytes)
    ∙ lines_behind-append older (take from bytes) (take (to - from) (drop from bytes))
    ∙ ap (λ lines. lines_with older (take from bytes) ++ lines) (no_lines_between h)
    ∙ append-nil (lines_with older (take from bytes))

line_there : (wire : Wire) (bytes older : List ℕ) (bits : List Bool) (known i : ℕ) → AreBits wire (take known bytes) (take known bits) → i < known
    → i < length bytes → line_at wire (get_or bytes i 0 ∷ (reverse (take i bytes) ++ older))
    ≡ line_with wire (Some (symbol_of (get_or bits i false))) (readings_on (length older) (take i bits) (signal wire older))
line_there wire bytes older bits known i are small h =
    ap₂ (line_with wire) (AreBits-front wire known i bytes bits are small h) (signal_at wire bytes older bits known i (omega arith) are)

-- where no mark ends on either wire from one place up to another, the lines that come with the bytes through the other are those of its bits
pub lines_through : (text : List ℕ) {bytes older : List ℕ} {first second : List Bool} {from last : ℕ}
    (h : AreQuietBetween bytes older first second from last) → last < h.known → last < length bytes
    → ((text ++ lines_with older (take from bytes))
    ++ line_with S1 (Some (symbol_of (get_or first last false))) (readings_on (length older) (take last first) (signal S1 older)))
    ++ line_with S2 (Some (symbol_of (get_or second last false))) (readings_on (length older) (take last second) (signal S2 older))
    ≡ text ++ lines_with older (take (last + 1) bytes)
lines_through text {bytes} {older} {first} {second} {from} {last} h small within =
    ap₂ (λ a b. ((text ++ lines_with older (take from bytes)) ++ a) ++ b) (sym (line_there S1 bytes older first h.known last h.s1 small within))
    (sym (line_there S2 bytes older second h.known last h.s2 small within))
    ∙ ap (λ lines. ((text ++ lines) ++ line_at S1 (get_or bytes last 0 ∷ (reverse (take last bytes) ++ older)))
    ++ line_at S2 (get_or bytes last 0 ∷ (reverse (take last bytes) ++ older)))
    (sym (lines_between h))
    ∙ lines_behind-more text older bytes last within

-- so many bytes have the bits of a word
pub bits_of_word : (wire : Wire) (bytes : List ℕ) (known given : ℕ) (word : Word) → word.bits ≡ given
    → AreBits wire (take known bytes) (take known (low_bits 64 given)) → AreBits wire (take known bytes) (take known (word_bits word))
bits_of_word wire bytes known given word is are = rw is are

-- ---- the frames that come with further bytes

-- ---- where no line comes, no frame does

pub silent_frame : (wire : Wire) (symbol : Option Symbol) (older : List ReadSymbol) → line_with wire symbol older ≡ [] → frame_with wire symbol older ≡ []
silent_frame wire symbol older e = grind arith

silent_frames : (bytes older : List ℕ) → lines_with older bytes ≡ [] → frames_with older bytes ≡ []
silent_frames [] older e = refl
silent_frames (byte ∷ bytes) older e =
    let both = no_parts (line_at S1 (byte ∷ older) ++ line_at S2 (byte ∷ older)) (lines_with (byte ∷ older) bytes) e in
    let each = no_parts (line_at S1 (byte ∷ older)) (line_at S2 (byte ∷ older)) both.0 in
    ap₂ (λ a b. (a ++ b) ++ frames_with (byte ∷ older) bytes)
    (silent_frame S1 (symbol_on S1 (period_at byte)) (signal S1 older) each.0) (silent_frame S2 (symbol_on S2 (period_at byte)) (signal S2 older) each.1)
    ∙ silent_frames bytes (byte ∷ older) both.1

-- ---- further bytes

-- the frames of older bytes and of further ones
pub frames_told-append : (older bytes : List ℕ) → frames_told (reverse bytes ++ older) ≡ frames_told older ++ frames_with older bytes
frames_told-append older [] = sym (append-nil (frames_told older))
frames_told-append older (byte ∷ bytes) =
    ap frames_told (reverse_onto byte bytes older) ∙ frames_told-append (byte ∷ older) bytes
    ∙ regrouped (frames_told older) (frame_given S1 (byte ∷ older)) (frame_given S2 (byte ∷ older)) (frames_with (byte ∷ older) bytes)
  where
    regrouped : (a b c d : List (Bool × List ℕ)) → ((a ++ b) ++ c) ++ d ≡ a ++ ((b ++ c) ++ d)
    regrouped a b c d = simp append_assoc

-- the frames of a record and of what follows it
pub record_frames-append : (bytes more : List ℕ) → record_frames (bytes ++ more) ≡ record_frames bytes ++ frames_with (reverse bytes) more
record_frames-append bytes more = ap frames_told (reverse-append bytes more) ∙ frames_told-append (reverse bytes) more

-- the frames of further bytes and of those behind them
frames_behind-append : (older bytes more : List ℕ) → frames_with older (bytes ++ more) ≡ frames_with older bytes ++ frames_with (reverse bytes ++ older) more
frames_behind-append older [] more = refl
frames_behind-append older (byte ∷ bytes) more =
    let new = frame_given S1 (byte ∷ older) ++ frame_given S2 (byte ∷ older) in
    ap (λ frames. new ++ frames) (frames_behind-append (byte ∷ older) bytes more)
    ∙ sym (append_assoc new (frames_with (byte ∷ older) bytes) (frames_with (reverse bytes ++ (byte ∷ older)) more))
    ∙ ap (λ seen. (new ++ frames_with (byte ∷ older) bytes) ++ frames_with seen more) (sym (reverse_onto byte bytes older))

-- one more of the further bytes
pub frames_behind-more : (older bytes : List ℕ) (i : ℕ) → i < length bytes
    → let seen = get_or bytes i 0 ∷ (reverse (take i bytes) ++ older) in
    (frames_with older (take i bytes) ++ frame_given S1 seen) ++ frame_given S2 seen ≡ frames_with older (take (i + 1) bytes)
frames_behind-more older bytes i h =
    let before = take i bytes in
    let byte = get_or bytes i 0 in
    let seen = byte ∷ (reverse before ++ older) in
    regrouped (frames_with older before) (frame_given S1 seen) (frame_given S2 seen)
    ∙ sym (frames_behind-append older before (byte ∷ [])) ∙ ap (frames_with older) (sym (take_more bytes i 0 h))
  where
    regrouped : (b c d : List (Bool × List ℕ)) → (b ++ c) ++ d ≡ b ++ ((c ++ d) ++ [])
    regrouped b c d = simp (append_assoc, append-nil)

-- ---- further bytes that have bits

pub frames_between : {bytes older : List ℕ} {first second : List Bool} {from to : ℕ} → AreQuietBetween bytes older first second from to
    → frames_with older (take to bytes) ≡ frames_with older (take from bytes)
frames_between {bytes} {older} {first} {second} {from} {to} h =
    let part = take (to - from) (drop from bytes) in
    ap (λ k. frames_with older (take k bytes)) (omega (arith, h.order))
    ∙ ap (frames_with older) (take-add from (to - from) bytes)
    ∙ frames_behind-append older (take from bytes) part
    ∙ ap (λ frames. frames_with older (take from bytes) ++ frames) (silent_frames part (reverse (take from bytes) ++ older) (no_lines_between h))
    ∙ append-nil (frames_with older (take from bytes))

-- the frame that comes with a bit of a word
abbrev pub frame_of_word : Wire → Word → ℕ → ℕ → List ReadSymbol → List (Bool × List ℕ)
frame_of_word wire word place last older = frame_with wire (Some (symbol_of (bit word.bits (63 - last)))) (readings_on place (take last (word_bits word)) older)

frame_there : (wire : Wire) (word : Word) (bytes older : List ℕ) (known place last : ℕ) → AreBits wire (take known bytes) (take known (word_bits word))
    → last < known → last < length bytes → last < 64 → place ≡ length older
    → frame_given wire (get_or bytes last 0 ∷ (reverse (take last bytes) ++ older)) ≡ frame_of_word wire word place last (signal wire older)
frame_there wire word bytes older known place last are small within h is =
    ap₂ (frame_with wire) (AreBits-front wire known last bytes (word_bits word) are small within ∙ ap (λ b. Some (symbol_of b)) same)
    (signal_at wire bytes older (word_bits word) known last (omega arith) are
    ∙ ap (λ n. readings_on n (take last (word_bits word)) (signal wire older)) (sym is))
  where
    same : get_or (word_bits word) last false ≡ bit word.bits (63 - last)
    same = low_bits-at 64 last word.bits h ∙ ap (bit word.bits) (omega (arith, h))

-- where no mark ends on either wire from one place up to another, the frames that come with the bytes through the other are those of its bits
pub frames_through : {bytes older : List ℕ} (word1 word2 : Word) {place from last : ℕ}
    (quiet : AreQuietBetween bytes older (word_bits word1) (word_bits word2) from last) → last < quiet.known → length bytes ≡ 64 → last < 64
    → place ≡ length older
    → (frames_with older (take from bytes) ++ frame_of_word S1 word1 place last (signal S1 older)) ++ frame_of_word S2 word2 place last (signal S2 older)
    ≡ frames_with older (take (last + 1) bytes)
frames_through {bytes} {older} word1 word2 {place} {from} {last} quiet small l h is =
    let within : last < length bytes = omega (arith, l, h) in
    ap₂ (λ a b. (frames_with older (take from bytes) ++ a) ++ b) (sym (frame_there S1 word1 bytes older quiet.known place last quiet.s1 small within h is))
    (sym (frame_there S2 word2 bytes older quiet.known place last quiet.s2 small within h is))
    ∙ ap (λ frames. (frames ++ frame_given S1 (get_or bytes last 0 ∷ (reverse (take last bytes) ++ older)))
    ++ frame_given S2 (get_or bytes last 0 ∷ (reverse (take last bytes) ++ older)))
    (sym (frames_between quiet))
    ∙ frames_behind-more older bytes last within
