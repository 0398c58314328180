-- The least number of a range that passes a test.
use Rattle.std.proofs.Common.{suc, zero}
use Rattle.std.specs.List.{find}
use Rattle.tables_laws.proofs.Words.{Bool, IfSome, IsLeastFree, List, None, Option, PipeRow, Some, ap, arith, cases_eq, cond_both, false, inl, inr, is_free}
use Rattle.tables_laws.proofs.Words.{range_with_len, true, ℕ, ◌+◌, ◌<◌, ◌∙◌, ◌≡◌, ◌≤◌}
use Rattle.pipe_table.specs.PipeRows.{IsDynamic, lowest_free}

record Least (test : ℕ → Bool) (a n p : ℕ) : Type 0 where
  from : a ≤ p
  below : p < a + n
  passes : test p ≡ true
  least : (q : ℕ) → a ≤ q → q < p → test q ≡ false

find_least : (test : ℕ → Bool) (a n : ℕ) → IfSome (find test (range_with_len a n)) (Least test a n)
find_least test a zero = tt
find_least test a (suc n) =
    cond_both (test a) (Some a) (find test (range_with_len (a + 1) n)) (λ o. IfSome o (Least test a (suc n)))
    (λ yes. record { from = omega arith; below = omega arith; passes = yes; least = λ q low high. absurd (omega arith) })
    (λ failed. later (find test (range_with_len (a + 1) n)) (find_least test (a + 1) n) failed)
  where
    later : (o : Option ℕ) → IfSome o (Least test (a + 1) n) → test a ≡ false → IfSome o (Least test a (suc n))
    later None h failed = tt
    later (Some p) h failed =
        let from = h.from in
        let below = h.below in
        record {
          from = omega arith;
          below = omega arith;
          passes = h.passes;
          least = λ q low high. elim (cases_eq q a) [ inl same ↦ ap test same ∙ failed | inr other ↦ h.least q (omega arith) high ];
        }

find_none : (test : ℕ → Bool) (a n : ℕ) → find test (range_with_len a n) ≡ None → (q : ℕ) → a ≤ q → q < a + n → test q ≡ false
find_none test a zero e q low high = absurd (omega arith)
find_none test a (suc n) e q low high =
    cond_both (test a) (Some a) (find test (range_with_len (a + 1) n)) (λ o. o ≡ None → test q ≡ false)
    (λ yes some. cc)
    (λ failed none. elim (cases_eq q a) [ inl same ↦ ap test same ∙ failed | inr other ↦ find_none test (a + 1) n none q (omega arith) (omega arith) ]) e

pub lowest_free-least : (rows : List PipeRow) (kept : List ℕ) → IfSome (lowest_free rows kept) (IsLeastFree rows kept)
unfolding lowest_free
lowest_free-least rows kept = as_free (find (is_free rows kept) (range_with_len 2 110)) (find_least (is_free rows kept) 2 110)
  where
    as_free : (o : Option ℕ) → IfSome o (Least (is_free rows kept) 2 110) → IfSome o (IsLeastFree rows kept)
    as_free None h = tt
    as_free (Some p) h = record { dynamic = (h.from, h.below); free = h.passes; least = λ other dynamic less. h.least other dynamic.0 less }

pub lowest_free-none : (rows : List PipeRow) (kept : List ℕ) → lowest_free rows kept ≡ None → (pid : ℕ) → IsDynamic pid → is_free rows kept pid ≡ false
unfolding lowest_free
lowest_free-none rows kept e pid dynamic = find_none (is_free rows kept) 2 110 e pid dynamic.0 dynamic.1
