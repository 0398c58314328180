use Rattle.pipe_table.proofs.Words.{pid_of, row_of-at_gap, row_of-at_place, sym}
use Rattle.pipe_table.proofs.table.row_of.Goals as goal

pub returns-in-Ok : goal.returns-in-Ok
returns-in-Ok c = sym (row_of-at_place pid_of c.args.pid 2 112 c.args.rows.now c.in-Ok.at _ c.requires c.in-Ok.ensures)

pub returns-in-Err : goal.returns-in-Err
returns-in-Err c = sym (row_of-at_gap pid_of c.args.pid c.args.rows.now _ c.in-Err.ensures)
