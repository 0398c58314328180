use Rattle.flash_nv.proofs.Words.{length, mixed, slice_index, ℕ, ◌%◌, ◌+◌, ◌<◌, ◌≡◌, ◌≤◌, ◌⊎◌}
use Rattle.flash_nv.proofs.mem_flash.mix.Given as goal

abbrev pub invariant-loop-i : goal.invariant-loop-i
invariant-loop-i l = record {
  len : length l.cells ≡ length l.fn.cells;
  done : (k : ℕ) → k < l.i → slice_index l.cells (l.at + k)
      ≡ mixed (slice_index l.fn.cells (l.at + k)) (slice_index l.whole k) (slice_index l.mask (k % length l.mask));
  rest : (k : ℕ) → (k < l.at) ⊎ (l.at + l.i ≤ k) → slice_index l.cells k ≡ slice_index l.fn.cells k;
}
