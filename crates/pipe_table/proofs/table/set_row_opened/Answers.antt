use Rattle.pipe_table.proofs.Words.{PipeRow, ap, as_opened, is_some, pid_of, refl, row_of-at_gap, row_of-at_place, slice_set, sym, ◌∙◌}
use Rattle.sorted_rows.proofs.PlaceLemmas.{map-at_gap, set-is_map}
use Rattle.pipe_table.proofs.table.set_row_opened.Goals as goal

pub returns-in-Ok-clause-set : goal.returns-in-Ok-clause-set
returns-in-Ok-clause-set c =
    ap (λ (row : PipeRow). slice_set c.args.rows.now c.in-Ok.at row) c.as_opened.ensures
    ∙ set-is_map pid_of c.args.pid 2 112 (as_opened c.args.opened) c.args.rows.now c.in-Ok.at _ c.requires c.in-Ok.ensures

pub returns-in-Ok-clause-found : goal.returns-in-Ok-clause-found
returns-in-Ok-clause-found c =
    let found = ap is_some (row_of-at_place pid_of c.args.pid 2 112 c.args.rows.now c.in-Ok.at c.as_opened.result c.requires c.in-Ok.ensures) in
    ((λ _. found), (λ _. refl))

pub returns-in-Err-clause-set : goal.returns-in-Err-clause-set
returns-in-Err-clause-set c = map-at_gap pid_of c.args.pid (as_opened c.args.opened) c.args.rows.now c.in-Err.field-0 c.in-Err.ensures

pub returns-in-Err-clause-found : goal.returns-in-Err-clause-found
returns-in-Err-clause-found c =
    let none = ap is_some (row_of-at_gap pid_of c.args.pid c.args.rows.now c.in-Err.field-0 c.in-Err.ensures) in
    ((λ found. none ∙ found), (λ found. sym none ∙ found))
