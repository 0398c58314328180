use Rattle.swp_frame.proofs.Words.{ap, arith, bits_of_byte, length-bits_of_byte, sym, ◌++◌, ◌∙◌}
use Rattle.swp_frame.proofs.WritingLemmas.{plain_written}
use Rattle.swp_frame.proofs.frame_bits.append_byte.Goals as goal

pub returns-in-Some : goal.returns-in-Some
returns-in-Some g c =
    plain_written c.args.bit_bytes c.args.ones c.in-Some.run' (bits_of_byte c.args.byte) c.args.out.now.items c.append.new.out.items c.requires.few
    (omega (arith, length-bits_of_byte c.args.byte)) (sym c.in-Some.is ∙ c.run_behind.ensures)
    (c.append.ensures ∙ ap (λ xs. c.args.out.now.items ++ xs) c.bytes_of_byte.ensures)
