-- Tables whose snapshot may be recorded.
use Rattle.std.specs.List.{AllByRecursion}
use Rattle.hci_tables.specs.Tables.{HciTables}
use Rattle.hci_tables.specs.Commands.{IsCommand}
use Rattle.hci_store.specs.Snapshots.{create_command, set_command}

-- each row may be created, and each value may be set
pub record IsRecordable (t : HciTables) : Type 0 where
  pub rows : AllByRecursion (λ row. IsCommand (create_command row)) t.rows
  pub values : AllByRecursion (λ v. IsCommand (set_command v)) t.values
