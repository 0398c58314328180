use Rattle.swp_frame.proofs.Words.{WritesOn, bits_of, take}
use Rattle.swp_frame.proofs.frame_bits.append_frame.Given as goal

abbrev pub invariant-loop-byte : goal.invariant-loop-byte
invariant-loop-byte g l = WritesOn l.bit_bytes 0 (bits_of (take l.byte-index l.byte-items)) l.ones l.initial.out.items l.out.items
