use Rattle.pipe_table.proofs.Words.{Err, IsPlace, Ok, ap, is_some, pid_of, refl, row_of-at_gap, row_of-at_place, subst, sym, ◌∙◌}
use Rattle.sorted_rows.proofs.PlaceLemmas.{remove-is_taken_out, without_row-at_gap}
use Rattle.pipe_table.proofs.table.take_out.Goals as goal

pub returns-in-Ok-clause-removed : goal.returns-in-Ok-clause-removed
returns-in-Ok-clause-removed c =
    let place = subst (λ rows. IsPlace pid_of c.args.pid rows (Ok c.in-Ok.at)) c.as_slice.ensures.value c.in-Ok.ensures in
    c.remove.ensures.items ∙ remove-is_taken_out pid_of c.args.pid 2 112 c.args.rows.now.items c.in-Ok.at c.requires place

pub returns-in-Ok-clause-found : goal.returns-in-Ok-clause-found
returns-in-Ok-clause-found c =
    let place = subst (λ rows. IsPlace pid_of c.args.pid rows (Ok c.in-Ok.at)) c.as_slice.ensures.value c.in-Ok.ensures in
    ((λ _. (ap is_some (row_of-at_place pid_of c.args.pid 2 112 c.args.rows.now.items c.in-Ok.at c.remove.result c.requires place))), (λ _. refl))

pub returns-in-Err-clause-removed : goal.returns-in-Err-clause-removed
returns-in-Err-clause-removed c =
    let place = subst (λ rows. IsPlace pid_of c.args.pid rows (Err c.in-Err.field-0)) c.as_slice.ensures.value c.in-Err.ensures in
    without_row-at_gap pid_of c.args.pid c.args.rows.now.items c.in-Err.field-0 place

pub returns-in-Err-clause-found : goal.returns-in-Err-clause-found
returns-in-Err-clause-found c =
    let place = subst (λ rows. IsPlace pid_of c.args.pid rows (Err c.in-Err.field-0)) c.as_slice.ensures.value c.in-Err.ensures in
    let none = ap is_some (row_of-at_gap pid_of c.args.pid c.args.rows.now.items c.in-Err.field-0 place) in
    ((λ found. none ∙ found), (λ found. sym none ∙ found))
