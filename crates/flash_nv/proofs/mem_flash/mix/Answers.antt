use Rattle.flash_nv.proofs.Words.{ap, arith, length, mixed, slice_index, subst, sym, ◌%◌, ◌+◌, ◌-◌, ◌<◌, ◌∙◌, ◌≡◌, ◌≤◌, ◌⊎◌}
use Rattle.flash_nv.proofs.PutLemmas.{remade_by_parts}
use Rattle.flash_nv.proofs.mem_flash.mix.Goals as goal

pub returns-clause-torn : goal.returns-clause-torn
returns-clause-torn c =
    let old = c.args.cells.now in
    let at = c.args.at in
    let whole = c.args.whole.now in
    let mask = c.args.mask.now in
    remade_by_parts old c.loop-i.cells at (length whole)
    (λ i. mixed (slice_index old i) (slice_index whole (i - at)) (slice_index mask ((i - at) % length mask))) c.loop-i.invariant.len
    (λ k small. let e : at + k - at ≡ k = omega arith in
    c.loop-i.invariant.done k (omega arith)
    ∙ ap (λ n. mixed (slice_index old (at + k)) (slice_index whole n) (slice_index mask (n % length mask))) (sym e))
    (λ k out. c.loop-i.invariant.rest k (subst (λ n. (k < at) ⊎ (at + n ≤ k)) (sym (omega (arith, c.loop-i-test.false, c.loop-i.auto.i-end))) out))

pub returns-clause-whole_bytes : goal.returns-clause-whole_bytes
returns-clause-whole_bytes c = λ i. let fits = c.type_inv.whole i in omega arith

pub returns-clause-mask_bytes : goal.returns-clause-mask_bytes
returns-clause-mask_bytes c = λ i. let fits = c.type_inv.mask i in omega arith
