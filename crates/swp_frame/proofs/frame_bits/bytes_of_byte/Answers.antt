use Rattle.swp_frame.proofs.WritingLemmas.{eight_bits}
use Rattle.swp_frame.proofs.frame_bits.bytes_of_byte.Goals as goal

pub returns : goal.returns
returns c =
    eight_bits c.args.bit_bytes c.args.byte c.of.result c.of-2.result c.of-3.result c.of-4.result c.of-5.result c.of-6.result c.of-7.result c.of-8.result
    c.of.ensures c.of-2.ensures c.of-3.ensures c.of-4.ensures c.of-5.ensures c.of-6.ensures c.of-7.ensures c.of-8.ensures
