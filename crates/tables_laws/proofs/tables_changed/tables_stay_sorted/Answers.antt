use Rattle.hci_tables.specs.Tables.{no_tables}
use Rattle.tables_laws.proofs.tables.SortedTables.{AreTables-after, AreTables-none, AreTables-close}
use Rattle.tables_laws.proofs.tables_changed.tables_stay_sorted.Goals as goal

pub returns-clause-commands : goal.returns-clause-commands
returns-clause-commands c = λ commands may. AreTables-after no_tables commands may AreTables-none

pub returns-clause-closed : goal.returns-clause-closed
returns-clause-closed c = AreTables-close
