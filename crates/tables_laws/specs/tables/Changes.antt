-- What a single command changes, in the words of the laws.
use Rattle.std.specs.Prelude.{◌≡◌, ℕ, Bool, false, not, if◌then◌else◌, ◌&&◌, ◌||◌, ◌==◌, nat_lt, List, Some, IsTrue, ◌⊎◌}
use Rattle.std.specs.List.{list_all}
use Rattle.pipe_table.specs.declared.row.PipeRow.{PipeRow}
use Rattle.pipe_table.specs.PipeRows.{pipe_at}
use Rattle.registry.specs.Values.{value_at, default_of}
use Rattle.hci_tables.specs.declared.command.Command.{Command}
use Rattle.hci_tables.specs.declared.command.Command.TheVariants.{Create, Delete, Clear, SetOpened, Set, Sync}
use Rattle.hci_tables.specs.Tables.{HciTables, static_place, is_kept_sync}

-- each of these pipes joins two different hosts
abbrev pub JoinTwo : List PipeRow → Type 0
JoinTwo rows = IsTrue (list_all (λ row. not (row.creator == row.dest)) rows)

-- two rows of one pipe with the same ends
pub record SameEnds (a b : PipeRow) : Type 0 where
  pub creator : b.creator ≡ a.creator
  pub creator_gate : b.creator_gate ≡ a.creator_gate
  pub dest : b.dest ≡ a.dest
  pub dest_gate : b.dest_gate ≡ a.dest_gate

-- a row of this pipe in the tables, with the same ends
abbrev pub WasThere : HciTables → ℕ → PipeRow → Type 0
WasThere t pid row = (before : PipeRow) × (pipe_at t.rows pid ≡ Some before) × SameEnds before row

-- where the row of a pipe comes from that stands behind a command: a creation of this pipe, or a row with the same ends
abbrev pub ComesFrom : HciTables → Command → ℕ → PipeRow → Type 0
ComesFrom t (Create made) pid row = ((made.pid ≡ pid) × SameEnds made row) ⊎ WasThere t pid row
ComesFrom t (Delete gone) pid row = WasThere t pid row
ComesFrom t (Clear host) pid row = WasThere t pid row
ComesFrom t (SetOpened host other opened) pid row = WasThere t pid row
ComesFrom t (Set host gate param value) pid row = WasThere t pid row
ComesFrom t (Sync host id) pid row = WasThere t pid row

-- what a parameter of a host reads as behind a command
abbrev pub told_value : HciTables → Command → ℕ → ℕ → List ℕ
told_value t (Set h gate p value) host param =
    if h == host && p == param then value.items else value_at t.values host 0 param
told_value t (Clear h) host param =
    if h == host then default_of param else value_at t.values host 0 param
told_value t (Sync h id) host param =
    if h == host && 1 == param && not (is_kept_sync t.syncs h id) then default_of 1 else value_at t.values host 0 param
told_value t (Create row) host param = value_at t.values host 0 param
told_value t (Delete pid) host param = value_at t.values host 0 param
told_value t (SetOpened h pid opened) host param = value_at t.values host 0 param

-- whether a command opens a pipe: a static one of this host, or a dynamic one
abbrev pub opens : ℕ → ℕ → Command → Bool
opens host pid (SetOpened h p opened) = opened && p == pid && (h == host || not (nat_lt pid 2))
opens host pid (Create row) = false
opens host pid (Delete p) = false
opens host pid (Clear h) = false
opens host pid (Set h gate param value) = false
opens host pid (Sync h id) = false
