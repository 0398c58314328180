use Rattle.tables_laws.proofs.tables.Ends.{ends-apply}
use Rattle.tables_laws.proofs.tables_changed.ends_change_by_creation_alone.Goals as goal

pub returns : goal.returns
returns c = ends-apply
