-- A frame that is being written.
use Rattle.std.specs.Prelude.{ℕ, ◌+◌, ◌*◌, ◌≡◌, ◌≤◌, Bool, List, ◌++◌, length, map, if◌then◌else◌}
use Rattle.swp_frame.specs.declared.frame_bits.BitBytes.{BitBytes}
use Rattle.swp_frame.specs.Stuffing.{stuffed_after}

-- the byte that stands for a bit
abbrev pub byte_of_bit : BitBytes → Bool → ℕ
byte_of_bit bytes bit = if bit then bytes.one else bytes.zero

-- Bits of a content were written behind so many 1 bits in a row: whatever bits follow, they go on from the 1 bits that then stand there.
-- Not more than one bit in six is one put in.
pub record WritesOn (bytes : BitBytes) (ones : ℕ) (bits : List Bool) (run : ℕ) (old new : List ℕ) : Type 0 where
  pub spelled : (more : List Bool)
      → old ++ map (byte_of_bit bytes) (stuffed_after ones (bits ++ more)) ≡ new ++ map (byte_of_bit bytes) (stuffed_after run more)
  pub few : run ≤ 4
  pub sized : 5 * length new + run ≤ 5 * length old + ones + 6 * length bits
