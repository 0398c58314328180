-- The pipe that is found free.
use Rattle.std.proofs.Common.{suc, zero}
use Rattle.std.specs.Prelude.{IfSome, None, Some}
use Rattle.std.specs.List.{find, range_with_len}
use Rattle.pipe_table.proofs.Words.{Bool, List, Option, PipeRow, arith, cond_both, ℕ, ◌+◌, ◌<◌, ◌≤◌}
use Rattle.pipe_table.specs.PipeRows.{IsDynamic, is_free, lowest_free}

-- a number that is found among n from a on
find-range-within : (test : ℕ → Bool) (a n : ℕ) → IfSome (find test (range_with_len a n)) (λ p. (a ≤ p) × (p < a + n))
find-range-within test a zero = tt
find-range-within test a (suc n) =
    cond_both (test a) (Some a) (find test (range_with_len (a + 1) n)) (λ o. IfSome o (λ p. (a ≤ p) × (p < a + suc n)))
    (λ yes. (omega arith, omega arith))
    (λ no. later (find test (range_with_len (a + 1) n)) (find-range-within test (a + 1) n))
  where
    later : (o : Option ℕ) → IfSome o (λ p. (a + 1 ≤ p) × (p < a + 1 + n)) → IfSome o (λ p. (a ≤ p) × (p < a + suc n))
    later None h = tt
    later (Some p) h = let from = h.0 in let below = h.1 in (omega arith, omega arith)

-- the pipe that is given is dynamic
pub lowest_free-within : (rows : List PipeRow) (kept : List ℕ) → IfSome (lowest_free rows kept) IsDynamic
unfolding lowest_free
lowest_free-within rows kept = find-range-within (is_free rows kept) 2 110
