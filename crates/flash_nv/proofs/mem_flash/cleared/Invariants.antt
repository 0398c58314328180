use Rattle.std.proofs.Common.{◌≡◌, ℕ, ◌<◌, length, slice_index, bit_and}
use Rattle.flash_nv.proofs.mem_flash.cleared.Given as goal

abbrev pub invariant-loop-i : goal.invariant-loop-i
invariant-loop-i l = record {
  len : length l.whole ≡ 512;
  bytes_are : (k : ℕ) → k < l.i → slice_index l.whole k ≡ bit_and (slice_index l.old k) (slice_index l.bytes k);
}
