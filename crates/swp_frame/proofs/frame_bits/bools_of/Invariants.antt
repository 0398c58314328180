-- The bits so far are read.
use Rattle.std.proofs.Common.{◌≡◌, eqb, length, map, take}
use Rattle.swp_frame.proofs.frame_bits.bools_of.Given as goal

abbrev pub invariant-loop-place : goal.invariant-loop-place
invariant-loop-place l = record {
  whole : length l.bools ≡ 336;
  read : take l.place l.bools ≡ map (λ byte. eqb byte 1) (take l.place l.bytes);
}
