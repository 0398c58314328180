use Rattle.std.proofs.Common.{◌≡◌, ◌+◌, ◌-◌, ◌≤◌, min, ◌++◌, length, replicate, slice_range, take}
use Rattle.std.proofs.Common.{drop, ap, ap₂, ◌∙◌, arith, length-append, length-take, length-drop}
use Rattle.swp_base.proofs.FrontLemmas.{length-filled_up, front_read, both_parts}
use Rattle.swp_base.proofs.front.Front.read.Goals as goal

pub returns : goal.returns
returns c =
    let items = c.self.inside.bytes.items in
    let size = c.self.inside.size in
    let old = c.args.buf.now in
    let from = c.min-from.result in
    let held = c.min-held.result in
    let all = c.copy_from_slice.new.self ++ drop held old in
    let from_is : from ≡ min c.args.at (length items) = omega arith in
    let held_is : held ≡ min (length old) (length items - from) = omega arith in
    let copied : c.copy_from_slice.new.self ≡ slice_range items from (from + held) =
    c.copy_from_slice.ensures.after ∙ ap (λ l. slice_range l from (from + held)) c.deref.ensures.value in
    let long : length c.copy_from_slice.new.self ≡ held =
    ap length copied ∙ omega (arith, length-take (from + held - from) (drop from items), length-drop from items, from_is, held_is) in
    let behind : length (take (length all - held) (drop held all)) ≡ length old - held =
    omega (
      arith,
      length-take (length all - held) (drop held all),
      length-drop held all,
      length-append c.copy_from_slice.new.self (drop held old),
      length-drop held old,
      long,
      held_is,
    ) in
    let fits : c.args.at + length old ≤ size =
    omega (arith, c.requires, ap length c.self.view_is, length-filled_up items size c.self.invariant.0) in
    both_parts c.copy_from_slice.new.self c.fill.new.self old held long
    ∙ ap₂ (λ l m. l ++ m) copied (c.fill.ensures.after (λ y is. is) ∙ ap (λ n. replicate n 255) behind)
    ∙ front_read items c.args.at (length old) size from held c.self.invariant.0 fits from_is held_is
    ∙ ap (λ l. slice_range l c.args.at (c.args.at + length old)) c.self.view_is
