use Rattle.tables_laws.proofs.tables.Values.{values-apply}
use Rattle.tables_laws.proofs.tables_changed.values_are_the_last_set.Goals as goal

pub returns : goal.returns
returns c = values-apply
