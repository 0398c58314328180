-- What a host controller keeps, and what a command makes of it.
use Rattle.std.specs.Prelude.{ℕ, ◌+◌, ◌*◌, Bool, false, not, if◌then◌else◌, ◌&&◌, ◌==◌, nat_lt, List, [], Option}
use Rattle.std.specs.List.{filter, fold, list_any}
use Rattle.std.specs.Option.{option_map, option_map_or}
use Rattle.sorted_rows.specs.Rows.{AreRows, row_of, with_row, without_row}
use Rattle.pipe_table.specs.declared.row.PipeRow.{PipeRow}
use Rattle.pipe_table.specs.PipeRows as pipes
use Rattle.registry.specs.declared.value.RegValue.{RegValue}
use Rattle.registry.specs.Values as registry
use Rattle.hci_tables.specs.declared.command.Command.{Command}
use Rattle.hci_tables.specs.declared.command.Command.TheVariants.{Create, Delete, Clear, SetOpened, Set, Sync}

-- The tables: the rows of pipes sorted by pipe, the opened static pipes as sorted pairs (host, pipe), the values of the
-- registry that aren't at their defaults, and the sync identifier that is kept of each host, as sorted pairs.
pub record HciTables : Type 0 where
  pub rows : List PipeRow
  pub statics : List (ℕ × ℕ)
  pub values : List RegValue
  pub syncs : List (ℕ × ℕ)

-- the place of a static pipe: by host, and then by pipe
abbrev pub static_place : ℕ × ℕ → ℕ
static_place static = 2 * static.0 + static.1

-- the host of a sync identifier
abbrev pub sync_host : ℕ × ℕ → ℕ
sync_host sync = sync.0

-- the tables of a node that was never told anything
abbrev pub no_tables : HciTables
no_tables = record { rows = []; statics = []; values = []; syncs = [] }

-- the opened static pipes where one of a host is opened or closed
abbrev pub with_static : List (ℕ × ℕ) → ℕ → ℕ → Bool → List (ℕ × ℕ)
with_static statics host pid opened =
    if opened then with_row static_place (host, pid) statics else without_row static_place (static_place (host, pid)) statics

-- the opened static pipes where those of a host are closed
abbrev pub without_statics : List (ℕ × ℕ) → ℕ → List (ℕ × ℕ)
without_statics statics host = filter (λ static. not (static.0 == host)) statics

-- the sync identifier that is kept of a host
abbrev pub sync_of : List (ℕ × ℕ) → ℕ → Option ℕ
sync_of syncs host = option_map (λ sync. sync.1) (row_of sync_host host syncs)

-- whether this is the identifier that is kept of a host
abbrev pub is_kept_sync : List (ℕ × ℕ) → ℕ → ℕ → Bool
is_kept_sync syncs host id = option_map_or (λ kept. kept == id) (sync_of syncs host) false

-- the registry where the session identity of a host is FF eight times
abbrev pub without_identity : List RegValue → ℕ → List RegValue
without_identity values host = registry.with_value values host 0 1 (registry.default_of 1)

-- What a command makes of the tables. A created pipe is closed. An identifier that isn't the kept one, or the first one of
-- a host, takes its session identity back.
abbrev pub apply : HciTables → Command → HciTables
apply t (Create row) = record t { rows = pipes.with_pipe t.rows (pipes.as_opened false row) }
apply t (Delete pid) = record t { rows = pipes.without_pipe t.rows pid }
apply t (Clear host) = record t {
  rows = pipes.rows_without_host t.rows host;
  statics = without_statics t.statics host;
  values = registry.values_without_host t.values host;
}
apply t (SetOpened host pid opened) =
    if nat_lt pid 2 then record t { statics = with_static t.statics host pid opened }
    else record t { rows = pipes.with_opened t.rows pid opened }
apply t (Set host gate param value) = record t { values = registry.with_value t.values host gate param value.items }
apply t (Sync host id) = record t {
  values = if is_kept_sync t.syncs host id then t.values else without_identity t.values host;
  syncs = with_row sync_host (host, id) t.syncs;
}

-- whether a pipe is opened: a static one of this host, or a dynamic one
abbrev pub is_opened : HciTables → ℕ → ℕ → Bool
is_opened t host pipe =
    if nat_lt pipe 2 then list_any (λ static. static.0 == host && static.1 == pipe) t.statics
    else option_map_or (λ (row : PipeRow). row.opened) (pipes.pipe_at t.rows pipe) false

-- commands one after another
abbrev pub after_commands : HciTables → List Command → HciTables
after_commands t commands = fold apply t commands

-- the tables where every pipe is closed, static ones too, as a node finds them when it boots
abbrev pub close : HciTables → HciTables
close t = record t { rows = pipes.all_closed t.rows; statics = [] }

-- tables as they are kept: each part sorted, and inside its limits
pub record AreTables (t : HciTables) : Type 0 where
  pub rows : pipes.ArePipeRows t.rows
  pub statics : AreRows static_place 0 16 t.statics
  pub values : registry.AreValues t.values
  pub syncs : AreRows sync_host 1 8 t.syncs
