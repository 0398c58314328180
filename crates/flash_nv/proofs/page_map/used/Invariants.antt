use Rattle.flash_nv.proofs.Words.{IsTrue, IsUsed, None, Some, count_by, length, slice_index_or, true, ℕ, ◌<◌, ◌≡◌, ◌≤◌}
use Rattle.flash_nv.proofs.page_map.used.Given as goal

abbrev pub invariant-loop-sector : goal.invariant-loop-sector
invariant-loop-sector l = record {
  used : (p : ℕ) → p < 272 → IsTrue (slice_index_or l.used p true) → IsUsed l.pages p;
  marked : (s p : ℕ) → s < l.sector → slice_index_or l.pages s None ≡ Some p → slice_index_or l.used p true ≡ true;
  len : length l.used ≡ 272;
  few : count_by (λ b. b) l.used ≤ l.sector;
}
