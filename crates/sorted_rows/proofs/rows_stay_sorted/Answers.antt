use Rattle.sorted_rows.proofs.RowLemmas.{AreRows-filter, AreRows-with_row}
use Rattle.sorted_rows.proofs.rows_stay_sorted.Goals as goal

pub returns-clause-put : goal.returns-clause-put
returns-clause-put g c = AreRows-with_row

pub returns-clause-filtered : goal.returns-clause-filtered
returns-clause-filtered g c = AreRows-filter
