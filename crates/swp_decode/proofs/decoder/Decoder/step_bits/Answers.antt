use Rattle.swp_decode.proofs.Names.{List, ReadSymbol, S1, S2, Some, Wire, Word, ap, append-nil, ap₂, arith, bit, bit_or, false, get_or, length, length-take-le}
use Rattle.swp_decode.proofs.Names.{line_with, lines_with, low_bits-at, min, mod-eq_of_lt, or_lt, readings_on, rules, signal, sym, symbol_of, take, word_bits}
use Rattle.swp_decode.proofs.Names.{ℕ, ◌++◌, ◌+◌, ◌-◌, ◌<◌, ◌∙◌, ◌≡◌, ◌≤◌}
use lib.Count.{count_leading_zeros}
use Rattle.swp_decode.proofs.FurtherFrames.{quiet_between, quiet_further, quiet_none, AreBits-part, AreQuietBetween, bits_of_word, lines_between, lines_through}
use Rattle.swp_decode.proofs.FurtherFrames.{stands_behind}
use Rattle.swp_decode.proofs.Marks.{next_of, not_past, none_before, below_sooner, marks_left}
use Rattle.swp_decode.proofs.decoder.Decoder.step_bits.Goals as goal
use Rattle.swp_decode.proofs.decoder.Decoder.step_bits.Goals.{then-marks-test+else-passed-lt-MOST_PLACES, else-marks-test}

pub marks-init : goal.marks-init
marks-init c = (
  0,
  record {
    within = omega arith;
    under = omega arith;
    few = omega arith;
    progress = omega arith;
    marks = sym (mod-eq_of_lt (or_lt 64 c.word-s1.result.marks c.word-s2.result.marks (search rules) (search rules)));
    before_s1 = omega arith;
    before_s2 = omega arith;
    quiet_s1 = quiet_none c.word-s1.result 0;
    quiet_s2 = quiet_none c.word-s2.result 0;
    s1 = λ older reads. reads;
    s2 = λ older reads. reads;
    lines = λ older stands. sym (append-nil c.args.text.now.items);
    sized = omega arith;
  },
)

pub decode_mark_at-read_s1-requires-clause-order : goal.decode_mark_at-read_s1-requires-clause-order
decode_mark_at-read_s1-requires-clause-order c =
    let kept = c.marks.invariant.1 in
    not_past c.marks.marks (bit_or c.word-s1.result.marks c.word-s2.result.marks) c.marks.invariant.0 c.marks.read_s1 kept.within kept.marks kept.before_s1

pub decode_mark_at-read_s2-requires-clause-order : goal.decode_mark_at-read_s2-requires-clause-order
decode_mark_at-read_s2-requires-clause-order c =
    let kept = c.marks.invariant.1 in
    not_past c.marks.marks (bit_or c.word-s1.result.marks c.word-s2.result.marks) c.marks.invariant.0 c.marks.read_s2 kept.within kept.marks kept.before_s2

pub read_between-requires-clause-order : goal.read_between-requires-clause-order
read_between-requires-clause-order c =
    let kept = c.marks.invariant.1 in
    omega (
      arith,
      kept.before_s1,
      kept.under,
      not_past c.marks.marks (bit_or c.word-s1.result.marks c.word-s2.result.marks) c.marks.invariant.0 c.marks.read_s1 kept.within kept.marks kept.before_s1,
    )

pub read_between-requires-2-clause-order : goal.read_between-requires-2-clause-order
read_between-requires-2-clause-order c =
    let kept = c.marks.invariant.1 in
    omega (
      arith,
      kept.before_s2,
      kept.under,
      not_past c.marks.marks (bit_or c.word-s1.result.marks c.word-s2.result.marks) c.marks.invariant.0 c.marks.read_s2 kept.within kept.marks kept.before_s2,
    )

-- the line that comes with a bit of a word
abbrev line_of_word : Wire → Word → ℕ → ℕ → List ReadSymbol → List ℕ
line_of_word wire word place last older = line_with wire (Some (symbol_of (bit word.bits (63 - last)))) (readings_on place (take last (word_bits word)) older)

-- the lines of both wires are those of the bytes
through : (text : List ℕ) {bytes older : List ℕ} (word1 word2 : Word) {place from last : ℕ}
    (quiet : AreQuietBetween bytes older (word_bits word1) (word_bits word2) from last) → last < quiet.known → length bytes ≡ 64 → last < 64
    → place ≡ length older
    → ((text ++ lines_with older (take from bytes)) ++ line_of_word S1 word1 place last (signal S1 older)) ++ line_of_word S2 word2 place last (signal S2 older)
    ≡ text ++ lines_with older (take (last + 1) bytes)
through text {bytes} {older} word1 word2 {place} {from} {last} quiet small l h is =
    ap₂ (λ a b. ((text ++ lines_with older (take from bytes)) ++ a) ++ b) (there S1 word1) (there S2 word2)
    ∙ lines_through text quiet small (omega (arith, l, h))
  where
    there : (wire : Wire) (word : Word) → line_of_word wire word place last (signal wire older)
        ≡ line_with wire (Some (symbol_of (get_or (word_bits word) last false))) (readings_on (length older) (take last (word_bits word)) (signal wire older))
    there wire word =
        ap₂ (λ b n. line_with wire (Some (symbol_of b)) (readings_on n (take last (word_bits word)) (signal wire older)))
        (sym (low_bits-at 64 last word.bits h ∙ ap (bit word.bits) (omega arith))) is

pub marks-preserved : goal.marks-preserved
marks-preserved c =
    let bytes = c.args.bytes.now in
    let place : ℕ = c.args.self.now.count in
    let word1 = c.word-s1.result in
    let word2 = c.word-s2.result in
    let read : ℕ = c.marks.invariant.0 in
    let kept = c.marks.invariant.1 in
    let last : ℕ = count_leading_zeros 64 c.marks.marks in
    let all : ℕ = bit_or word1.marks word2.marks in
    let next = next_of c.marks.marks all read kept.within kept.marks in
    let small : last < c.args.bits.known = c.marks-test.true in
    let inside : last < 64 = omega (arith, small, c.requires.most) in
    let quiet = none_before word1.marks word2.marks c.marks.marks read last next.behind next.within kept.marks next.below in
    let quiet1 = quiet_further word1 c.marks.read_s1 read last kept.before_s1 next.behind next.within kept.quiet_s1 quiet.0 in
    let quiet2 = quiet_further word2 c.marks.read_s2 read last kept.before_s2 next.behind next.within kept.quiet_s2 quiet.1 in
    let s1 = bits_of_word S1 bytes c.args.bits.known c.args.bits.s1 word1 c.word-s1.ensures.bits c.requires.s1 in
    let s2 = bits_of_word S2 bytes c.args.bits.known c.args.bits.s2 word2 c.word-s2.ensures.bits c.requires.s2 in (
      last + 1,
      record {
        within = omega (arith, inside);
        under = omega (arith, small);
        few = omega (arith, c.if-passed-lt-MOST_PLACES.true);
        progress = omega (arith, kept.progress, next.behind);
        marks = marks_left c.marks.marks all read last next.behind inside kept.marks;
        before_s1 = c.decode_mark_at-read_s1.ensures.within;
        before_s2 = c.decode_mark_at-read_s2.ensures.within;
        quiet_s1 = c.decode_mark_at-read_s1.ensures.quiet quiet1;
        quiet_s2 = c.decode_mark_at-read_s2.ensures.quiet quiet2;
        s1 = λ older reads. c.decode_mark_at-read_s1.ensures.reads older (c.word-s1.ensures.behind older reads) quiet1 (kept.s1 older reads);
        s2 = λ older reads. c.decode_mark_at-read_s2.ensures.reads older (c.word-s2.ensures.behind older reads) quiet2 (kept.s2 older reads);
        lines = λ older stands.
            let behind1 = c.word-s1.ensures.behind (signal S1 older) stands.s1 in
            let behind2 = c.word-s2.ensures.behind (signal S2 older) stands.s2 in
            c.decode_mark_at-read_s2.ensures.items (signal S2 older) behind2 quiet2 (kept.s2 (signal S2 older) stands.s2)
            ∙ ap (λ text. text ++ line_of_word S2 word2 place last (signal S2 older))
            (c.decode_mark_at-read_s1.ensures.items (signal S1 older) behind1 quiet1 (kept.s1 (signal S1 older) stands.s1)
            ∙ ap (λ text. text ++ line_of_word S1 word1 place last (signal S1 older)) (kept.lines older stands))
            ∙ through c.args.text.now.items word1 word2
            (record {
              known = c.args.bits.known;
              order = next.behind;
              within = omega (arith, small);
              s1 = s1;
              s2 = s2;
              quiet_s1 = quiet_between word1 (length older) read last (signal S1 older) next.behind next.within behind1 quiet.0;
              quiet_s2 = quiet_between word2 (length older) read last (signal S2 older) next.behind next.within behind2 quiet.1;
            })
            small c.told-bytes inside stands.count;
        sized = omega (arith, kept.sized, c.decode_mark_at-read_s1.ensures.sized, c.decode_mark_at-read_s2.ensures.sized);
      },
    )

pub returns-clause-some : goal.returns-clause-some
returns-clause-some c =
    let next =
    next_of c.marks.marks (bit_or c.word-s1.result.marks c.word-s2.result.marks) c.marks.invariant.0 c.marks.invariant.1.within c.marks.invariant.1.marks in
    elim c.marks-test.branch [
      | then-marks-test+else-passed-lt-MOST_PLACES w ↦
          omega (arith, w.if-passed-lt-MOST_PLACES.false, c.marks.invariant.1.progress, c.marks.invariant.1.under, next.behind)
      | else-marks-test w ↦ omega (arith, w.marks-test.false, c.requires.known)
    ]

pub returns-clause-stands : goal.returns-clause-stands
returns-clause-stands c = λ older stands.
    let bytes = c.args.bytes.now in
    let word1 = c.word-s1.result in
    let word2 = c.word-s2.result in
    let read : ℕ = c.marks.invariant.0 in
    let kept = c.marks.invariant.1 in
    let all : ℕ = count_leading_zeros 64 c.marks.marks in
    let to : ℕ = c.min-to.result in
    let is : to ≡ min all c.args.bits.known = c.min-to.ensures in
    let next = next_of c.marks.marks (bit_or word1.marks word2.marks) read kept.within kept.marks in
    let order : read ≤ to = omega (arith, next.behind, kept.under) in
    let whole : to ≤ 64 = omega (arith, next.within) in
    let low = below_sooner c.marks.marks to all (omega arith) next.below in
    let quiet = none_before word1.marks word2.marks c.marks.marks read to order whole kept.marks low in
    let quiet1 = quiet_further word1 c.marks.read_s1 read to kept.before_s1 order whole kept.quiet_s1 quiet.0 in
    let quiet2 = quiet_further word2 c.marks.read_s2 read to kept.before_s2 order whole kept.quiet_s2 quiet.1 in
    let s1 = bits_of_word S1 bytes c.args.bits.known c.args.bits.s1 word1 c.word-s1.ensures.bits c.requires.s1 in
    let s2 = bits_of_word S2 bytes c.args.bits.known c.args.bits.s2 word2 c.word-s2.ensures.bits c.requires.s2 in
    stands_behind (take to bytes) (take to (word_bits word1)) (take to (word_bits word2))
    (AreBits-part S1 c.args.bits.known 0 to bytes (word_bits word1) (omega arith) s1)
    (AreBits-part S2 c.args.bits.known 0 to bytes (word_bits word2) (omega arith) s2) stands
    (omega (arith, length-take-le to bytes (omega (arith, whole, c.told-bytes))))
    (c.read_between.ensures (signal S1 older) (c.word-s1.ensures.behind (signal S1 older) stands.s1) quiet1 (kept.s1 (signal S1 older) stands.s1))
    (c.read_between-2.ensures (signal S2 older) (c.word-s2.ensures.behind (signal S2 older) stands.s2) quiet2 (kept.s2 (signal S2 older) stands.s2))

pub returns-clause-lines : goal.returns-clause-lines
returns-clause-lines c = λ older stands.
    let bytes = c.args.bytes.now in
    let word1 = c.word-s1.result in
    let word2 = c.word-s2.result in
    let read : ℕ = c.marks.invariant.0 in
    let kept = c.marks.invariant.1 in
    let all : ℕ = count_leading_zeros 64 c.marks.marks in
    let to : ℕ = c.min-to.result in
    let is : to ≡ min all c.args.bits.known = c.min-to.ensures in
    let next = next_of c.marks.marks (bit_or word1.marks word2.marks) read kept.within kept.marks in
    let order : read ≤ to = omega (arith, next.behind, kept.under) in
    let whole : to ≤ 64 = omega (arith, next.within) in
    let low = below_sooner c.marks.marks to all (omega arith) next.below in
    let quiet = none_before word1.marks word2.marks c.marks.marks read to order whole kept.marks low in
    let s1 = bits_of_word S1 bytes c.args.bits.known c.args.bits.s1 word1 c.word-s1.ensures.bits c.requires.s1 in
    let s2 = bits_of_word S2 bytes c.args.bits.known c.args.bits.s2 word2 c.word-s2.ensures.bits c.requires.s2 in
    kept.lines older stands
    ∙ ap (λ lines. c.args.text.now.items ++ lines)
    (sym (lines_between (record {
      known = c.args.bits.known;
      order = order;
      within = omega arith;
      s1 = s1;
      s2 = s2;
      quiet_s1 = quiet_between word1 (length older) read to (signal S1 older) order whole (c.word-s1.ensures.behind (signal S1 older) stands.s1)
          quiet.0;
      quiet_s2 = quiet_between word2 (length older) read to (signal S2 older) order whole (c.word-s2.ensures.behind (signal S2 older) stands.s2)
          quiet.1;
    })))
