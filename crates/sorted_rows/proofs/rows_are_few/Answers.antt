use Rattle.sorted_rows.proofs.RowLemmas.{length-rows}
use Rattle.sorted_rows.proofs.rows_are_few.Goals as goal

pub returns : goal.returns
returns g c = length-rows
