-- The next place at which a mark ends on one of two wires.
use Rattle.swp_decode.proofs.Names.{ap, ap₂, arith, bit_or, field_of, mod-cut, pow-suc, refl, subst, suc, sym, ℕ, ◌%◌, ◌*◌, ◌+◌, ◌-◌, ◌/◌, ◌<◌, ◌^◌, ◌∙◌, ◌≡◌}
use Rattle.swp_decode.proofs.Names.{◌≤◌}
use mathlib.Core.Logic.{inl, inr}
use Rattle.std.proofs.Math.Pow.{pow_mono}
use Rattle.std.proofs.lemmas.Bool.{cases_lt}
use Rattle.std.proofs.lemmas.Nat.{le_or_l, le_or_r, leading_length, mod_below, one_shl, or_mod, pow_pos, shr_below}
use lib.Count.{count_leading_zeros}

-- the first place of a 1 among the bits behind a place, or all sixty-four
pub record IsNext (n read to : ℕ) : Type 0 where
  pub behind : read ≤ to
  pub within : to ≤ 64
  pub below : n < 2 ^ (64 - to)
  pub there : 0 < n → to < 64

pub next_place : (n read to : ℕ) → read ≤ 64 → n < 2 ^ (64 - read) → to ≡ count_leading_zeros 64 n → IsNext n read to
next_place n read to few h is =
    let found = leading_length 64 n (omega (arith, h, pow_mono {i = 64 - read} {j = 64} (omega arith))) in
    go found.0 (omega (arith, found.1, is)) found.2 found.3
  where
    go : (m : ℕ) → to + m ≡ 64 → n < 2 ^ m → 2 ^ m ≤ 2 * n + 1 → IsNext n read to
    go m e below top =
        record {
          behind = elim (cases_lt to read) [
            | inl before ↦ absurd (omega (arith, top, h, pow-suc 2 (64 - read), pow_mono {i = suc (64 - read)} {j = m} (omega (arith, e, before, few))))
            | inr after ↦ after
          ];
          within = omega (arith, e);
          below = subst (λ k. n < 2 ^ k) (sym (omega (arith, e))) below;
          there = grind arith;
        }
      where
        none_left : 64 ≤ to → m ≡ 0
        none_left over = omega (arith, over, e)

none_above : (a u from to : ℕ) → from ≤ to → to ≤ 64 → a % 2 ^ (64 - from) ≤ u → u < 2 ^ (64 - to) → a / 2 ^ (64 - to) % 2 ^ (to - from) ≡ 0
none_above a u from to order within below small =
    let few : a % 2 ^ (to - from + (64 - to)) < 2 ^ (0 + (64 - to)) = few_left (subst (λ k. a % 2 ^ k ≤ u) (omega (arith, order, within)) below) in
    sym (field_of a (to - from) (64 - to)) ∙ omega (arith, (shr_below (a % 2 ^ (to - from + (64 - to))) 0 (64 - to) few))
  where
    few_left : a % 2 ^ (to - from + (64 - to)) ≤ u → a % 2 ^ (to - from + (64 - to)) < 2 ^ (0 + (64 - to))
    few_left h = let same : 0 + (64 - to) ≡ 64 - to = omega arith in subst (λ k. a % 2 ^ (to - from + (64 - to)) < 2 ^ k) (sym same) (omega (arith, h, small))

-- neither wire has a mark before it
pub none_before : (a b u from to : ℕ) → from ≤ to → to ≤ 64 → u ≡ bit_or a b % 2 ^ (64 - from) → u < 2 ^ (64 - to)
    → (a / 2 ^ (64 - to) % 2 ^ (to - from) ≡ 0) × (b / 2 ^ (64 - to) % 2 ^ (to - from) ≡ 0)
none_before a b u from to order within is small =
    let parts = is ∙ or_mod a b (64 - from) in (
      none_above a u from to order within (omega (arith, parts, le_or_l (a % 2 ^ (64 - from)) (b % 2 ^ (64 - from)))) small,
      none_above b u from to order within (omega (arith, parts, le_or_r (a % 2 ^ (64 - from)) (b % 2 ^ (64 - from)))) small,
    )

-- no mark is left before an earlier place either
pub below_sooner : (n sooner to : ℕ) → sooner ≤ to → n < 2 ^ (64 - to) → n < 2 ^ (64 - sooner)
below_sooner n sooner to order below = omega (arith, pow_mono {i = 64 - to} {j = 64 - sooner} (omega arith))

-- the marks behind it
pub marks_left : (u all from last : ℕ) → from ≤ last → last < 64 → u ≡ all % 2 ^ (64 - from) → u % (1 * 2 ^ (63 - last) % 2 ^ 64) ≡ all % 2 ^ (64 - (last + 1))
marks_left u all from last order within is =
    ap₂ (λ n p. n % p) is (one_shl (63 - last) 64 (omega arith))
    ∙ mod-cut (63 - last) (64 - from) all (omega (arith, order, within))
    ∙ ap (λ k. all % 2 ^ k) (omega (arith, within))

-- what is left of the marks
pub next_of : (marks all read : ℕ) → read ≤ 64 → marks ≡ all % 2 ^ (64 - read) → IsNext marks read (count_leading_zeros 64 marks)
next_of marks all read few is = next_place marks read (count_leading_zeros 64 marks) few (rw is (mod_below all (2 ^ (64 - read)) (pow_pos (64 - read)))) refl

-- what was read of a wire ends before the next of the marks
pub not_past : (marks all read from : ℕ) → read ≤ 64 → marks ≡ all % 2 ^ (64 - read) → from ≤ read → from ≤ count_leading_zeros 64 marks
not_past marks all read from few is before = omega (arith, (next_of marks all read few is).behind, before)
