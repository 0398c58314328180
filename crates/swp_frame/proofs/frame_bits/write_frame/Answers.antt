use Rattle.swp_frame.proofs.Words.{ap, byte_of_bit, eqb, length, map, take, ℕ, ◌++◌, ◌∙◌}
use Rattle.swp_frame.specs.Stuffing.{frame_of}
use Rattle.swp_frame.proofs.WritingLemmas.{bits_again}
use Rattle.swp_frame.proofs.frame_bits.write_frame.Goals as goal

pub returns-clause-frame : goal.returns-clause-frame
returns-clause-frame c =
    let frame = frame_of c.args.lpdu.now in
    c.append.ensures
    ∙ ap (λ xs. xs ++ take (length c.as_slice-bytes.result.now) c.bools_of-bools.result) c.new-bits.ensures
    ∙ c.bools_of-bools.ensures
    ∙ ap (map (λ (byte : ℕ). eqb byte 1))
    (c.as_slice-bytes.ensures.value
    ∙ c.append_frame.ensures.written
    ∙ ap (λ xs. xs ++ map (byte_of_bit (record { zero = 0; one = 1 })) frame) c.new-written.ensures)
    ∙ bits_again frame
