use Rattle.std.proofs.Common.{◌<◌, [], ◌∷◌, length, slice_index, ap, ◌∙◌, sym, subst, arith}
use Rattle.flash_nv.proofs.PutLemmas.{lent_cells, mask_plain, plain_byte}
use Rattle.flash_nv.proofs.mem_flash.MemFlash.change.Goals as goal

pub invariant_of-self : goal.invariant_of-self
invariant_of-self c =
    lent_cells c.self.inside.bytes.len c.args.at c.self.inside.bytes.items c.mix.new.cells c.args.whole.now c.as_slice.result.now c.self.invariant
    (c.mix.auto.cells ∙ ap length c.as_mut_slice.ensures.value) (omega (arith, c.as_mut_slice.ensures.len, ap length c.as_mut_slice.ensures.value))
    (rw c.as_mut_slice.ensures.value at c.mix.ensures.torn) c.mix.ensures.whole_bytes

pub returns-in-Some-clause-after : goal.returns-in-Some-clause-after
returns-in-Some-clause-after c =
    lent_cells c.self.inside.bytes.len c.args.at c.self.inside.bytes.items c.mix.new.cells c.args.whole.now c.as_slice.result.now c.self.invariant
    (c.mix.auto.cells ∙ ap length c.as_mut_slice.ensures.value) (omega (arith, c.as_mut_slice.ensures.len, ap length c.as_mut_slice.ensures.value))
    (rw c.as_mut_slice.ensures.value at c.mix.ensures.torn) c.mix.ensures.whole_bytes

pub invariant_of-self-in-None : goal.invariant_of-self-in-None
invariant_of-self-in-None c =
    lent_cells c.self.inside.bytes.len c.args.at c.self.inside.bytes.items c.mix-in-None.new.cells c.args.whole.now (255 ∷ []) c.self.invariant
    (c.mix-in-None.auto.cells ∙ ap length c.as_mut_slice-in-None.ensures.value)
    (omega (arith, c.as_mut_slice-in-None.ensures.len, ap length c.as_mut_slice-in-None.ensures.value))
    (rw c.as_mut_slice-in-None.ensures.value at c.mix-in-None.ensures.torn) c.mix-in-None.ensures.whole_bytes

pub returns-in-None-clause-after : goal.returns-in-None-clause-after
returns-in-None-clause-after c =
    lent_cells c.self.inside.bytes.len c.args.at c.self.inside.bytes.items c.mix-in-None.new.cells c.args.whole.now (255 ∷ []) c.self.invariant
    (c.mix-in-None.auto.cells ∙ ap length c.as_mut_slice-in-None.ensures.value)
    (omega (arith, c.as_mut_slice-in-None.ensures.len, ap length c.as_mut_slice-in-None.ensures.value))
    (rw c.as_mut_slice-in-None.ensures.value at c.mix-in-None.ensures.torn) c.mix-in-None.ensures.whole_bytes

pub returns-in-None-clause-mask_bytes : goal.returns-in-None-clause-mask_bytes
returns-in-None-clause-mask_bytes c = λ i.
    rw (← c.self.view_is) (subst (λ m. slice_index m i < 256) (sym (mask_plain c.self.inside.tear (sym c.in-None.ensures.due))) (plain_byte i))
