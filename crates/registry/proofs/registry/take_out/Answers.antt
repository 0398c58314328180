use Rattle.std.proofs.Common.{subst, ◌∙◌}
use Rattle.std.specs.Prelude.{Ok, Err}
use Rattle.sorted_rows.specs.Rows.{IsPlace}
use Rattle.sorted_rows.proofs.PlaceLemmas.{remove-is_taken_out, without_row-at_gap}
use Rattle.registry.specs.Values.{place_of_value}
use Rattle.registry.proofs.registry.take_out.Goals as goal

pub returns-in-Ok : goal.returns-in-Ok
returns-in-Ok c =
    let place = subst (λ values. IsPlace place_of_value c.args.place values (Ok c.in-Ok.at)) c.as_slice.ensures.value c.in-Ok.ensures in
    c.remove.ensures.items ∙ remove-is_taken_out place_of_value c.args.place 2 16 c.args.values.now.items c.in-Ok.at c.requires place

pub returns-in-Err : goal.returns-in-Err
returns-in-Err c =
    let place = subst (λ values. IsPlace place_of_value c.args.place values (Err c.in-Err.field-0)) c.as_slice.ensures.value c.in-Err.ensures in
    without_row-at_gap place_of_value c.args.place c.args.values.now.items c.in-Err.field-0 place
