use Rattle.std.proofs.Common.{◌≡◌, ◌⊎◌, ◌+◌, ◌<◌, ◌≤◌, ℕ, length, slice_index}
use Rattle.flash_nv.proofs.sector.lay.Given as goal

abbrev pub invariant-loop-i : goal.invariant-loop-i
invariant-loop-i l = record {
  len : length l.whole ≡ 256;
  there : (j : ℕ) → j < l.i → slice_index l.whole (l.from + j) ≡ slice_index l.bytes j;
  beside : (j : ℕ) → (j < l.from) ⊎ (l.from + l.i ≤ j) → slice_index l.whole j ≡ slice_index l.fn.whole j;
}
