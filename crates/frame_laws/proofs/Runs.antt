-- Runs of 1 bits by the elements in front.
use Rattle.std.proofs.Common.{◌≡◌, ℕ, suc, zero, List, [], ◌∷◌, ◌++◌, take, replicate, refl, ap, arith}
use Rattle.std.proofs.lemmas.Bool.{eq-eqb}
use Rattle.std.specs.Prelude.{◌↔◌}
use Rattle.swp_frame.specs.Signal.{Symbol, bit_0, bit_1, break, run_of, start_mark, end_mark, mark_of}
use Rattle.frame_laws.specs.Marks.{with_zeros, EndsStart, EndsEnd}

ones_then_zero : ℕ → List Symbol
ones_then_zero n = replicate n bit_1 ++ bit_0 ∷ []

-- a run of n stands behind a 0
run_is : (seen : List Symbol) (n : ℕ) → run_of seen ≡ n → take (suc n) (with_zeros seen) ≡ replicate n bit_1 ++ bit_0 ∷ []
run_is [] zero e = refl
run_is [] (suc n) e = absurd (omega arith)
run_is (bit_0 ∷ older) zero e = refl
run_is (bit_0 ∷ older) (suc n) e = absurd (omega arith)
run_is (bit_1 ∷ older) zero e = absurd (omega arith)
run_is (bit_1 ∷ older) (suc n) e = ap (λ xs. bit_1 ∷ xs) (run_is older n (omega arith))
run_is (break ∷ older) zero e = refl
run_is (break ∷ older) (suc n) e = absurd (omega arith)

is_run : (seen : List Symbol) (n : ℕ) → take (suc n) (with_zeros seen) ≡ replicate n bit_1 ++ bit_0 ∷ [] → run_of seen ≡ n
is_run [] zero e = refl
is_run [] (suc n) e = absurd (cc)
is_run (bit_0 ∷ older) zero e = refl
is_run (bit_0 ∷ older) (suc n) e = absurd (cc)
is_run (bit_1 ∷ older) zero e = absurd (cc)
is_run (bit_1 ∷ older) (suc n) e = let rest : take (suc n) (with_zeros older) ≡ replicate n bit_1 ++ bit_0 ∷ [] = cc in ap suc (is_run older n rest)
is_run (break ∷ older) zero e = refl
is_run (break ∷ older) (suc n) e = absurd (cc)

pub start_is : (seen : List Symbol) → (mark_of seen ≡ start_mark) ↔ EndsStart seen
start_is [] = (λ h. absurd (cc), λ h. absurd (cc))
start_is (bit_0 ∷ older) = (
  λ h. ap (λ xs. bit_0 ∷ xs) (run_is older 6 (grind arith)),
  λ h. let rest : take 7 (with_zeros older) ≡ bit_1 ∷ bit_1 ∷ bit_1 ∷ bit_1 ∷ bit_1 ∷ bit_1 ∷ bit_0 ∷ [] = grind arith in
      rw (eq-eqb (run_of older) 6 (is_run older 6 rest)) refl,
)
start_is (bit_1 ∷ older) = grind arith
start_is (break ∷ older) = (λ h. absurd (cc), λ h. absurd (cc))

pub end_is : (seen : List Symbol) → (mark_of seen ≡ end_mark) ↔ EndsEnd seen
end_is [] = (λ h. absurd (cc), λ h. absurd (cc))
end_is (bit_0 ∷ older) = grind arith
end_is (bit_1 ∷ older) = (
  λ h. ap (λ xs. bit_1 ∷ xs) (run_is older 6 (grind arith)),
  λ h. let rest : take 7 (with_zeros older) ≡ bit_1 ∷ bit_1 ∷ bit_1 ∷ bit_1 ∷ bit_1 ∷ bit_1 ∷ bit_0 ∷ [] = grind arith in
      rw (eq-eqb (run_of older) 6 (is_run older 6 rest)) refl,
)
end_is (break ∷ older) = (λ h. absurd (cc), λ h. absurd (cc))
