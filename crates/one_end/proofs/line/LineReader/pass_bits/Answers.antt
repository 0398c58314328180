-- Periods with bits are taken at once.
use Rattle.std.proofs.Common.{rules, ◌/◌, ◌^◌, ◌≢◌}
use Rattle.std.specs.Prelude.{if◌then◌else◌}
use Rattle.std.specs.List.{cons_option}
use Rattle.std.proofs.lemmas.List.{length-take-le}
use Rattle.one_end.proofs.Words.{Bool, List, LoneCause, OnLine, Option, Some, StartComes, StopComes, TickComes, [], ap, arith, bytes_bring, false, is_some}
use Rattle.one_end.proofs.Words.{length, refl, reverse, subst, suc, sym, take, true, ℕ, ◌%◌, ◌&&◌, ◌++◌, ◌+◌, ◌-◌, ◌<◌, ◌==◌, ◌∙◌, ◌∷◌, ◌≡◌, ◌≤◌}
use lib.Count.{count_leading_zeros}
use Rattle.swp_line.specs.declared.period.Period.{Period}
use Rattle.swp_line.specs.Periods.{period_at}
use Rattle.swp_frame.specs.declared.fed.Fed.TheVariants.{Nothing}
use Rattle.swp_frame.specs.declared.word.Word.{Word}
use Rattle.swp_frame.specs.Signal.{Symbol, break, symbol_of, run_of, no_mark, mark_of, read_on, HasNoMark}
use Rattle.swp_frame.specs.Verdicts.{verdict_after}
use Rattle.swp_frame.specs.Words.{low_bits, word_bits, IsWordBehind, part_bits}
use Rattle.swp_frame.proofs.Places.{marks_between, no_marks}
use Rattle.swp_frame.specs.Kept.{DeframerStandsFor}
use Rattle.swp_decode.specs.declared.line.Wire.{Wire}
use Rattle.swp_decode.specs.declared.line.Wire.TheVariants.{S1, S2}
use Rattle.swp_decode.specs.Readings.{symbol_on, AreBits}
use Rattle.swp_decode.proofs.FurtherFrames.{reverse_onto, bits_of_word, AreBits-part}
use Rattle.swp_decode.proofs.Marks.{IsNext, next_place, below_sooner}
use Rattle.lone_laws.specs.alone.Ends.{wire_read, symbols_read, reading_brings, has_bits, is_deactivation, is_unstarted, comes_if, periods_among, line_brings}
use Rattle.one_end.specs.Reading.{wire_of}
use Rattle.one_end.proofs.line.LineReader.pass_bits.Goals as goal

-- Periods with bits that bring nothing.
-- ---- the wire that is read

wire_if : (b : Bool) → (if b then S2 else S1) ≡ wire_of b
wire_if b = grind arith

wire_is : (number : ℕ) (is_clf : Bool) → (number == 0) ≡ is_clf → wire_read number ≡ wire_of is_clf
wire_is number is_clf role = wire_if (number == 0) ∙ ap wire_of role

-- the bits on that wire
are_read : (is_clf : Bool) (given s1 s2 known : ℕ) (bytes : List ℕ) → (is_clf ≡ true → given ≡ s2) → (is_clf ≡ false → given ≡ s1)
    → AreBits S1 (take known bytes) (take known (low_bits 64 s1)) → AreBits S2 (take known bytes) (take known (low_bits 64 s2))
    → AreBits (wire_of is_clf) (take known bytes) (take known (low_bits 64 given))
are_read true given s1 s2 known bytes clf uicc first second =
    subst (λ x. AreBits S2 (take known bytes) (take known (low_bits 64 x))) (sym (clf refl)) second
are_read false given s1 s2 known bytes clf uicc first second =
    subst (λ x. AreBits S1 (take known bytes) (take known (low_bits 64 x))) (sym (uicc refl)) first

-- ---- no mark

none_at_front : (n to : ℕ) → n < 2 ^ (64 - to) → n / 2 ^ (64 - to) % 2 ^ to ≡ 0
none_at_front n to small = grind arith

-- no mark ends with the first bits of a word, up to its first mark
quiet_front : (word : Word) (to : ℕ) (seen : List Symbol) → word.marks < 2 ^ 64 → to ≤ count_leading_zeros 64 word.marks → to ≤ 64
    → IsWordBehind word (run_of seen) → HasNoMark seen (take to (word_bits word))
quiet_front word to seen fits sooner within behind =
    let next : IsNext word.marks 0 (count_leading_zeros 64 word.marks) =
    next_place word.marks 0 (count_leading_zeros 64 word.marks) (omega arith) fits refl in
    let small : word.marks < 2 ^ (64 - to) = below_sooner word.marks to (count_leading_zeros 64 word.marks) sooner next.below in
    let all : 0 + to ≤ 64 = omega (arith, within) in
    let same : 0 + to ≡ to = omega arith in
    no_marks seen (take to (word_bits word))
    (sym (marks_between 64 0 to (run_of seen) word.bits word.marks all behind.marks)
    ∙ (ap (λ k. word.marks / 2 ^ (64 - k) % 2 ^ to) same ∙ none_at_front word.marks to small))

-- ---- one period

no_break : (bit : Bool) → Some break ≡ Some (symbol_of bit) → ⊥
no_break bit e = grind arith

-- a period with a bit on a wire has bits
with_bit : (wire : Wire) (p : Option Period) (bit : Bool) → symbol_on wire p ≡ Some (symbol_of bit)
    → (has_bits p ≡ true) × (is_deactivation p ≡ false) × (is_some p ≡ true)
with_bit wire p bit e = grind arith

one_more : (n : ℕ) → suc n ≡ n + 1
one_more n = omega arith

-- it is one period more
period_more : (byte : ℕ) (older : List ℕ) → is_some (period_at byte) ≡ true → periods_among (byte ∷ older) ≡ periods_among older + 1
period_more byte older is = grind arith

bits_begin : (p : Option Period) (before : Bool) → has_bits p ≡ true → (if has_bits p then false else (if is_deactivation p then true else before)) ≡ false
bits_begin p before is = ap (λ b. if b then false else (if is_deactivation p then true else before)) is

quiet_verdict : (since : Option (List Symbol)) → verdict_after no_mark since ≡ Nothing
quiet_verdict since = grind arith

-- with a bit that ends no mark nothing is read
no_reading : (o : Option Symbol) (bit : Bool) (seen : List Symbol) → o ≡ Some (symbol_of bit) → mark_of (symbol_of bit ∷ seen) ≡ no_mark
    → reading_brings o seen ≡ []
no_reading o bit seen is none = grind arith

no_start : (a b c : Bool) → c ≡ false → (a && b && c) ≡ false
no_start a b c e = grind arith

no_tick : (a : Bool) (n : ℕ) → n % 512 ≢ 0 → (a && n % 512 == 0) ≡ false
no_tick a n other = grind arith

not_512th : (p q : ℕ) → q ≡ p + 1 → p % 512 + 1 < 512 → q % 512 ≢ 0
not_512th p q is few none = absurd (omega (arith, is, few, none))

nothing_comes : (a d t : Bool) (read : List LoneCause) → a ≡ false → read ≡ [] → d ≡ false → t ≡ false
    → comes_if a (StartComes 1) ++ read ++ comes_if d StopComes ++ comes_if t TickComes ≡ []
nothing_comes a d t read no_a no_read no_d no_t = rw (no_a, no_read, no_d, no_t) refl

-- a period with a bit that ends no mark brings nothing, but a first one and a 512th
one_passed : (number byte : ℕ) (older : List ℕ) (bit : Bool) → symbol_on (wire_read number) (period_at byte) ≡ Some (symbol_of bit)
    → mark_of (symbol_of bit ∷ symbols_read (wire_read number) older) ≡ no_mark → is_unstarted older ≡ false → periods_among older % 512 + 1 < 512
    → line_brings number byte older ≡ []
one_passed number byte older bit is none started few = grind arith

-- ---- many periods

-- so many bytes behind others have these bits on the wire that is read, and bring nothing
pub record ArePassedBits (number : ℕ) (older bytes : List ℕ) (bits : List Bool) : Type 0 where
  read : symbols_read (wire_read number) (reverse bytes ++ older) ≡ read_on (symbols_read (wire_read number) older) bits
  started : is_unstarted (reverse bytes ++ older) ≡ false
  counted : periods_among (reverse bytes ++ older) ≡ periods_among older + length bytes
  quiet : bytes_bring OnLine number older bytes ≡ []

none_counted : (n : ℕ) → n ≡ n + 0
none_counted n = omega arith

fewer : (p q n : ℕ) → q ≡ p + 1 → p % 512 + suc n < 512 → q % 512 + n < 512
fewer p q n is few = omega (arith, is, few)

first_few : (p n : ℕ) → p % 512 + suc n < 512 → p % 512 + 1 < 512
first_few p n few = omega (arith, few)

all_counted : (p q n : ℕ) → q ≡ p + 1 → q + n ≡ p + suc n
all_counted p q n is = omega (arith, is)

are_passed : (number : ℕ) (bytes : List ℕ) (bits : List Bool) (older : List ℕ) → AreBits (wire_read number) bytes bits
    → HasNoMark (symbols_read (wire_read number) older) bits → is_unstarted older ≡ false → periods_among older % 512 + length bytes < 512
    → ArePassedBits number older bytes bits
are_passed number [] [] older are none started few = record {
  read = refl;
  started = started;
  counted = none_counted (periods_among older);
  quiet = refl;
}
are_passed number [] (bit ∷ bits) older are none started few = absurd are
are_passed number (byte ∷ bytes) [] older are none started few = absurd are
are_passed number (byte ∷ bytes) (bit ∷ bits) older are none started few =
    let w : Wire = wire_read number in
    let has = with_bit w (period_at byte) bit are.0 in
    let more : periods_among (byte ∷ older) ≡ periods_among older + 1 = period_more byte older has.2 in
    let read : symbols_read w (byte ∷ older) ≡ symbol_of bit ∷ symbols_read w older = ap (λ o. cons_option o (symbols_read w older)) are.0 in
    let now : line_brings number byte older ≡ [] =
    one_passed number byte older bit are.0 none.0 started (first_few (periods_among older) (length bytes) few) in
    let later : ArePassedBits number (byte ∷ older) bytes bits =
    are_passed number bytes bits (byte ∷ older) are.1 (subst (λ s. HasNoMark s bits) (sym read) none.1)
    (bits_begin (period_at byte) (is_unstarted older) has.0)
    (fewer (periods_among older) (periods_among (byte ∷ older)) (length bytes) more few) in
    let onto : reverse (byte ∷ bytes) ++ older ≡ reverse bytes ++ (byte ∷ older) = reverse_onto byte bytes older in
    record {
      read = ap (symbols_read w) onto ∙ (later.read ∙ ap (λ s. read_on s bits) read);
      started = ap is_unstarted onto ∙ later.started;
      counted = ap periods_among onto
          ∙ (later.counted ∙ all_counted (periods_among older) (periods_among (byte ∷ older)) (length bytes) more);
      quiet = ap (λ causes. causes ++ bytes_bring OnLine number (byte ∷ older) bytes) now ∙ later.quiet;
    }

-- ---- a word

-- the first bytes, whose bits on the wire that is read are those of the word, up to a mark in it and before a 512th period
word_passed : (number : ℕ) (older bytes : List ℕ) (is_clf : Bool) (given s1 s2 known to : ℕ) (word : Word) → (number == 0) ≡ is_clf
    → (is_clf ≡ true → given ≡ s2) → (is_clf ≡ false → given ≡ s1)
    → AreBits S1 (take known bytes) (take known (low_bits 64 s1)) → AreBits S2 (take known bytes) (take known (low_bits 64 s2))
    → word.bits ≡ given → word.marks < 2 ^ 64 → IsWordBehind word (run_of (symbols_read (wire_read number) older))
    → to ≤ count_leading_zeros 64 word.marks → to ≤ known → known ≤ 64 → length bytes ≡ 64
    → is_unstarted older ≡ false → periods_among older % 512 + to < 512
    → HasNoMark (symbols_read (wire_read number) older) (take to (word_bits word)) × ArePassedBits number older (take to bytes) (take to (word_bits word))
word_passed number older bytes is_clf given s1 s2 known to word role clf uicc first second same fits behind sooner within most long started few =
    let all : 0 + to ≤ known = omega (arith, within) in
    let inside : to ≤ 64 = omega (arith, within, most) in
    let there : to ≤ length bytes = omega (arith, inside, long) in
    let sized : length (take to bytes) ≡ to = length-take-le to bytes there in
    let front : AreBits (wire_of is_clf) (take to bytes) (take to (word_bits word)) =
    AreBits-part (wire_of is_clf) known 0 to bytes (word_bits word) all
    (bits_of_word (wire_of is_clf) bytes known given word same (are_read is_clf given s1 s2 known bytes clf uicc first second)) in
    let quiet : HasNoMark (symbols_read (wire_read number) older) (take to (word_bits word)) =
    quiet_front word to (symbols_read (wire_read number) older) fits sooner inside behind in (
      quiet,
      are_passed number (take to bytes) (take to (word_bits word)) older
          (subst (λ wire. AreBits wire (take to bytes) (take to (word_bits word))) (sym (wire_is number is_clf role)) front) quiet started
          (subst (λ n. periods_among older % 512 + n < 512) (sym sized) few),
    )

-- ---- the count

few_left : (periods count left to : ℕ) → periods ≡ count % 512 → left ≡ 511 - periods → to ≤ left → periods < 512 → count % 512 + to < 512
few_left periods count left to is left_is within few = omega (arith, is, left_is, within, few)

counted_on : (periods count n to all : ℕ) → periods ≡ count % 512 → count % 512 + to < 512 → n ≡ to → all ≡ count + n → periods + to ≡ all % 512
counted_on periods count n to all is few same sum = omega (arith, is, few, same, sum)

pub returns-clause-stands : goal.returns-clause-stands
returns-clause-stands c number older s =
    let bytes : List ℕ = c.args.bytes.now in
    let many = c.many_bits-many.result in
    let word = c.word-word.result in
    let to : ℕ = c.min-to.result in
    let seen : List Symbol = symbols_read (wire_read number) older in
    let behind : IsWordBehind word (run_of seen) = c.word-word.ensures.behind seen s.deframer in
    let few : periods_among older % 512 + to < 512 =
    few_left c.args.self.now.periods (periods_among older) c.from-left.result to s.counted (omega arith) (omega arith) (omega arith) in
    let passed = word_passed number older bytes c.args.self.now.is_clf c.bits_read-given.result many.s1 many.s2 many.known to word s.role
    c.bits_read-given.ensures.clf c.bits_read-given.ensures.uicc c.many_bits-many.ensures.s1 c.many_bits-many.ensures.s2 c.word-word.ensures.bits
    (search rules) behind (omega arith) (omega arith) c.many_bits-many.ensures.within c.told-bytes (sym s.unstarted ∙ c.requires.started) few in
    let none : to - 0 ≡ to = omega arith in
    let is : part_bits c.part-part.result ≡ take to (word_bits word) = c.part-part.ensures.bits ∙ ap (λ k. take k (word_bits word)) none in
    let there : to ≤ length bytes = omega arith in
    record {
      role = s.role;
      deframer = subst (DeframerStandsFor c.feed_part.new.self) (ap (read_on seen) is ∙ sym passed.1.read)
          (c.feed_part.ensures seen s.deframer (c.part-part.ensures.behind (run_of seen) behind) (subst (HasNoMark seen) (sym is) passed.0));
      unstarted = c.requires.started ∙ sym passed.1.started;
      counted = counted_on c.args.self.now.periods (periods_among older) (length (take to bytes)) to (periods_among (reverse (take to bytes) ++ older))
          s.counted few (length-take-le to bytes there) passed.1.counted;
    }

pub returns-clause-quiet : goal.returns-clause-quiet
returns-clause-quiet c number older s =
    let bytes : List ℕ = c.args.bytes.now in
    let many = c.many_bits-many.result in
    let word = c.word-word.result in
    let to : ℕ = c.min-to.result in
    let seen : List Symbol = symbols_read (wire_read number) older in
    let behind : IsWordBehind word (run_of seen) = c.word-word.ensures.behind seen s.deframer in
    let few : periods_among older % 512 + to < 512 =
    few_left c.args.self.now.periods (periods_among older) c.from-left.result to s.counted (omega arith) (omega arith) (omega arith) in
    (word_passed number older bytes c.args.self.now.is_clf c.bits_read-given.result many.s1 many.s2 many.known to word s.role
    c.bits_read-given.ensures.clf c.bits_read-given.ensures.uicc c.many_bits-many.ensures.s1 c.many_bits-many.ensures.s2 c.word-word.ensures.bits
    (search rules) behind (omega arith) (omega arith) c.many_bits-many.ensures.within c.told-bytes (sym s.unstarted ∙ c.requires.started) few).1.quiet
