use Rattle.std.proofs.Common.{length-set, lit<}
use Rattle.pipe_table.proofs.Words.{Err, IsPlace, List, Ok, PipeRow, ap, arith, items-with_items, length, pid_of, slice_set, subst, ◌∙◌, ◌≤◌}
use Rattle.sorted_rows.proofs.PlaceLemmas.{set-is_put, insert-is_put, room-at_gap}
use Rattle.pipe_table.proofs.table.put.Goals as goal

pub insert-requires : goal.insert-requires
insert-requires c =
    let items = c.args.rows.now.items in
    let place = subst (λ rows. IsPlace pid_of c.args.row.pid rows (Err c.in-Err.at)) c.as_slice.ensures.value c.in-Err.ensures in
    let within : c.in-Err.at ≤ length items = place.0 in
    let room = room-at_gap pid_of 2 112 c.args.row items c.in-Err.at c.requires.sorted c.requires.dynamic.0 c.requires.dynamic.1 place in
    (lit< tt, (omega arith, omega arith))

pub returns-in-Ok : goal.returns-in-Ok
returns-in-Ok c =
    let items = c.args.rows.now.items in
    let place = subst (λ rows. IsPlace pid_of c.args.row.pid rows (Ok c.in-Ok.at)) c.as_slice.ensures.value c.in-Ok.ensures in
    let written = slice_set c.as_mut_slice.result.now c.in-Ok.at c.args.row in
    items-with_items c.args.rows.now written (length-set c.as_mut_slice.result.now c.in-Ok.at c.args.row ∙ ap length c.as_mut_slice.ensures.value)
    ∙ ap (λ (rows : List PipeRow). slice_set rows c.in-Ok.at c.args.row) c.as_mut_slice.ensures.value
    ∙ set-is_put pid_of 2 112 c.args.row items c.in-Ok.at c.requires.sorted place

pub returns-in-Err : goal.returns-in-Err
returns-in-Err c =
    let items = c.args.rows.now.items in
    let place = subst (λ rows. IsPlace pid_of c.args.row.pid rows (Err c.in-Err.at)) c.as_slice.ensures.value c.in-Err.ensures in
    c.insert.ensures.items ∙ insert-is_put pid_of 2 112 c.args.row items c.in-Err.at c.requires.sorted place
