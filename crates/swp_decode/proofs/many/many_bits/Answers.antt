use Rattle.swp_decode.proofs.Names.{AreBits, List, S1, S2, Wire, ap, arith, drop, length, length-drop, length-low_bits, rules, subst, sym, take, take-add, ℕ}
use Rattle.swp_decode.proofs.Names.{◌++◌, ◌+◌, ◌-◌, ◌∙◌, ◌≡◌, ◌≤◌}
use Rattle.swp_frame.specs.Words.{low_bits}
use Rattle.swp_frame.proofs.WritingLemmas.{take_all}
use Rattle.swp_decode.proofs.FurtherFrames.{AreBits-append, AreBits-behind, low_bits-more}
use Rattle.swp_decode.proofs.many.many_bits.Goals as goal

-- what is left behind a place
left_behind : (bytes : List ℕ) (at : ℕ) → length bytes ≡ 64 → take (64 - at) (drop at bytes) ≡ drop at bytes
left_behind bytes at l = take_all (drop at bytes) (64 - at) (omega (arith, length-drop at bytes, l))

pub sixteens-init : goal.sixteens-init
unfolding low_bits
sixteens-init c = record { within = omega arith; whole = omega arith; s1 = tt; s2 = tt }

pub returns-in_default-sixteen_bits-clause-most : goal.returns-in_default-sixteen_bits-clause-most
returns-in_default-sixteen_bits-clause-most c small bits has =
    let bytes = c.args.bytes.now in
    let at = c.sixteens.read in
    let sixteen = c.in-Some.ensures.cases.0 ∙ ap (take 16) (left_behind bytes at c.told-bytes) in
    let is = ap (λ n. take (n + 16) bytes) c.first_bits.ensures.known ∙ take-add at 16 bytes ∙ ap (λ xs. take at bytes ++ xs) (sym sixteen) in
    c.in_default-sixteen_bits.ensures.none (drop (length (take at bytes)) bits)
    (AreBits-behind S1 (take at bytes) c.in-Some.sixteen.now bits (subst (λ xs. AreBits S1 xs bits) is has))

-- all of sixty-four
whole_bits : (wire : Wire) (bytes : List ℕ) (read x : ℕ) → read ≡ 64 → AreBits wire (take read bytes) (low_bits read x)
    → AreBits wire (take 64 bytes) (take 64 (low_bits 64 x))
whole_bits wire bytes read x full are =
    subst (λ bits. AreBits wire (take 64 bytes) bits) (sym (take_all (low_bits 64 x) 64 (omega (arith, length-low_bits 64 x))))
    (subst (λ n. AreBits wire (take n bytes) (low_bits n x)) full are)

pub returns-clause-s1 : goal.returns-clause-s1
returns-clause-s1 c = whole_bits S1 c.args.bytes.now c.sixteens.read c.sixteens.s1 (search rules) c.sixteens.invariant.s1

pub returns-clause-s2 : goal.returns-clause-s2
returns-clause-s2 c = whole_bits S2 c.args.bytes.now c.sixteens.read c.sixteens.s2 (search rules) c.sixteens.invariant.s2

pub sixteens-preserved : goal.sixteens-preserved
sixteens-preserved c =
    let bytes = c.args.bytes.now in
    let at = c.sixteens.read in
    let kept = c.sixteens.invariant in
    let sixteen = c.in-Some.ensures.cases.0 ∙ ap (take 16) (left_behind bytes at c.told-bytes) in
    let few : at ≤ 48 = omega (arith, c.in-Some.ensures.cases.2, ap length (left_behind bytes at c.told-bytes), length-drop at bytes, c.told-bytes) in
    record {
      within = omega (arith, few);
      whole = omega (arith, kept.whole);
      s1 = rw (take-add at 16 bytes, ← sixteen, c.from.ensures, low_bits-more at c.sixteens.s1 c.in-Some-sixteen_bits.bits.s1 few (omega arith))
          (AreBits-append S1 (take at bytes) c.in-Some.sixteen.now (low_bits at c.sixteens.s1)
          (low_bits 16 c.in-Some-sixteen_bits.bits.s1) kept.s1 c.in-Some-sixteen_bits.ensures.s1);
      s2 = rw (take-add at 16 bytes, ← sixteen, c.from-in-Some.ensures, low_bits-more at c.sixteens.s2 c.in-Some-sixteen_bits.bits.s2 few (omega arith))
          (AreBits-append S2 (take at bytes) c.in-Some.sixteen.now (low_bits at c.sixteens.s2)
          (low_bits 16 c.in-Some-sixteen_bits.bits.s2) kept.s2 c.in-Some-sixteen_bits.ensures.s2);
    }
