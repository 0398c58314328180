use Rattle.swp_frame.proofs.Words.{WritesOn, bits_of_byte, take}
use Rattle.swp_frame.proofs.frame_bits.append_bits.Given as goal

abbrev pub invariant-loop-place : goal.invariant-loop-place
invariant-loop-place g l = WritesOn l.bit_bytes l.ones (take l.place (bits_of_byte l.byte)) l.run l.initial.out.items l.out.items
