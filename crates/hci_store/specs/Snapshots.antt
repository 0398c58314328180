-- The snapshot of tables: commands that make them again.
use Rattle.std.specs.Prelude.{ℕ, true, false, List, ◌++◌, map, filter}
use Rattle.pipe_table.specs.declared.row.PipeRow.{PipeRow}
use Rattle.pipe_table.specs.PipeRows.{as_opened}
use Rattle.registry.specs.declared.value.RegValue.{RegValue}
use Rattle.hci_tables.specs.declared.command.Command.{Command}
use Rattle.hci_tables.specs.declared.command.Command.TheVariants.{Create, SetOpened, Set, Sync}
use Rattle.hci_tables.specs.Tables.{HciTables}

abbrev pub sync_command : ℕ × ℕ → Command
sync_command sync = Sync sync.0 sync.1

abbrev pub set_command : RegValue → Command
set_command v = Set v.host v.gate v.param v.value

abbrev pub create_command : PipeRow → Command
create_command row = Create (as_opened false row)

-- a row is opened under its creator
abbrev pub open_command : PipeRow → Command
open_command row = SetOpened row.creator row.pid true

abbrev pub static_command : ℕ × ℕ → Command
static_command static = SetOpened static.0 static.1 true

-- the kept sync identifiers, the registry's values, the rows, the opened rows and the opened static pipes, each part ascending
abbrev pub snapshot_of : HciTables → List Command
snapshot_of t =
    map sync_command t.syncs ++ map set_command t.values ++ map create_command t.rows
    ++ map open_command (filter (λ row. row.opened) t.rows) ++ map static_command t.statics
