-- The first byte that passes a test.
use Rattle.std.proofs.lemmas.List.Sums.{prefix_len_is}
use Rattle.schedule_text.proofs.Names.{Bool, List, None, Option, Some, ap, arith, common_steps, get_or, length, not, position, position_or_len, true, ℕ, ◌<◌}
use Rattle.schedule_text.proofs.Names.{◌≡◌}
use Rattle.memchr.specs.Find.{IsFirstByte}

not_passed : (b : Bool) → ¬ (b ≡ true) → not b ≡ true
not_passed b h = grind arith

-- the first place whose byte passes is its position
pub first_position : (test : ℕ → Bool) (bytes : List ℕ) (r : Option ℕ) → IsFirstByte test bytes r → r ≡ position test bytes
first_position test bytes None h =
    let none : (k : ℕ) → k < length bytes → not (test (get_or bytes k 0)) ≡ true = λ k below. not_passed (test (get_or bytes k 0)) (h k (omega arith) below) in
    let at : position_or_len test bytes ≡ length bytes =
    prefix_len_is (λ b. not (test b)) bytes (length bytes) 0 (omega arith) none (λ more. absurd (omega (arith, more))) in
    grind (arith, common_steps, at)
first_position test bytes (Some k) h =
    let before : (j : ℕ) → j < k → not (test (get_or bytes j 0)) ≡ true = λ j below. not_passed (test (get_or bytes j 0)) (h.0.before j (omega arith) below) in
    let at : position_or_len test bytes ≡ k =
    prefix_len_is (λ b. not (test b)) bytes k 0 (omega (arith, h.0.high)) before (λ more. ap not h.1) in
    grind (arith, common_steps, at, h.0.high)
