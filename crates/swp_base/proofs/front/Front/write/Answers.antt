use Rattle.std.proofs.Common.{◌+◌, ◌-◌, ◌≤◌, ◌++◌, length, replicate, refl, ap, ◌∙◌, arith}
use Rattle.std.proofs.lemmas.List.{with_items_is}
use Rattle.swp_base.specs.Outside.{overwritten}
use Rattle.swp_base.proofs.FrontLemmas.{length-filled_up, front_written}
use Rattle.swp_base.proofs.front.Front.write.Goals as goal

pub returns : goal.returns
returns c =
    let bytes = c.args.bytes.now in
    let held = c.self.inside.bytes.items in
    let size = c.self.inside.size in
    let within : c.args.at + length bytes ≤ size =
    omega (arith, c.requires, ap length c.self.view_is, length-filled_up held size c.self.invariant.0) in
    ap (λ l. l ++ replicate (size - length l) 255)
    (with_items_is c.lengthen.new.front _ (omega arith) ∙ c.overwrite.ensures
    ∙ ap (λ l. overwritten l c.args.at bytes) (c.as_mut_slice.ensures.value ∙ c.lengthen.ensures.items))
    ∙ front_written held bytes c.args.at (c.args.at + length bytes) size refl within c.self.invariant.0
    ∙ ap (λ l. overwritten l c.args.at bytes) c.self.view_is
