use Rattle.sorted_rows.proofs.RowLemmas.{row_of-with_row, row_of-without_row}
use Rattle.sorted_rows.proofs.rows_are_found.Goals as goal

pub returns-clause-put : goal.returns-clause-put
returns-clause-put g c = row_of-with_row

pub returns-clause-taken_out : goal.returns-clause-taken_out
returns-clause-taken_out g c = row_of-without_row
