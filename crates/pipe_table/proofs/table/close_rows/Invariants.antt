use Rattle.pipe_table.proofs.Words.{all_closed, drop, take, ◌++◌, ◌≡◌}
use Rattle.pipe_table.proofs.table.close_rows.Given as goal

abbrev pub invariant-loop-row : goal.invariant-loop-row
invariant-loop-row l = l.rows ≡ all_closed (take l.row-index l.initial.rows) ++ drop l.row-index l.initial.rows
