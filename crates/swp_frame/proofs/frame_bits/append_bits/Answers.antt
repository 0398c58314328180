use Rattle.swp_frame.proofs.Words.{WritesOn, [], arith, bits_of_byte, length-bits_of_byte, length-take, rules, subst, take}
use Rattle.swp_frame.proofs.WritingLemmas.{writes_nothing, writes_both, next_bit, all_bits}
use Rattle.swp_frame.proofs.frame_bits.append_bits.Goals as goal

pub loop-place-init : goal.loop-place-init
loop-place-init g c = writes_nothing c.args.bit_bytes c.args.ones c.args.out.now.items c.requires.few

pub append_bit-run-requires : goal.append_bit-run-requires
append_bit-run-requires g c = (
  search rules,
  (
    c.loop-place.invariant.few,
    omega (
      arith,
      c.loop-place.invariant.sized,
      length-take c.loop-place.place (bits_of_byte c.args.byte),
      length-bits_of_byte c.args.byte,
      c.requires.few,
      c.requires.room,
    ),
  ),
)

pub loop-place-preserved : goal.loop-place-preserved
loop-place-preserved g c =
    subst (λ xs. WritesOn c.args.bit_bytes c.args.ones xs c.append_bit-run.result c.args.out.now.items c.append_bit-run.new.out.items)
    (next_bit [] c.args.byte c.loop-place.place (omega arith))
    (writes_both c.args.bit_bytes c.args.ones c.loop-place.run c.append_bit-run.result (take c.loop-place.place (bits_of_byte c.args.byte)) _
    c.args.out.now.items c.loop-place.out.items c.append_bit-run.new.out.items c.loop-place.invariant c.append_bit-run.ensures)

pub returns : goal.returns
returns g c =
    subst (λ xs. WritesOn c.args.bit_bytes c.args.ones xs c.loop-place.run c.args.out.now.items c.loop-place.out.items)
    (all_bits c.args.byte c.loop-place.place (omega arith)) c.loop-place.invariant
