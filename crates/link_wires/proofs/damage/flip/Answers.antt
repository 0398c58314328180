use Rattle.link_wires.proofs.Words.{ap, false, flipped, sym, ◌∙◌}
use Rattle.link_wires.proofs.Damages.{flipped_past, flipped_at_place}
use Rattle.link_wires.proofs.damage.flip.Goals as goal

pub returns-then-place-bits : goal.returns-then-place-bits
returns-then-place-bits c =
    flipped_at_place c.from-place.result c.args.bits.now false c.if-place-bits.true ∙ ap (λ n. flipped n c.args.bits.now) c.from-place.ensures

pub returns-else-place-bits : goal.returns-else-place-bits
returns-else-place-bits c =
    sym (flipped_past c.from-place.result c.args.bits.now c.if-place-bits.false) ∙ ap (λ n. flipped n c.args.bits.now) c.from-place.ensures
