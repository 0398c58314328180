-- The pipes that a host controller keeps (ETSI TS 102 622, section 4.4): a list of rows sorted by pipe, no pipe twice.
use Rattle.std.specs.Prelude.{ℕ, ◌≤◌, ◌<◌, Bool, false, not, ◌&&◌, ◌||◌, ◌==◌, if◌then◌else◌, List, map, count_by, Option, is_none}
use Rattle.std.specs.List.{find, filter, list_any, range_with_len}
use Rattle.sorted_rows.specs.Rows.{AreRows, row_of, with_row, without_row}
use Rattle.pipe_table.specs.declared.row.PipeRow.{PipeRow}

-- the pipe of a row
abbrev pub pid_of : PipeRow → ℕ
pid_of row = row.pid

-- dynamic pipes are 02 to 6F
abbrev pub IsDynamic : ℕ → Type 0
IsDynamic pid = (2 ≤ pid) × (pid < 112)

-- rows that a table can have: the pipes rise, and all are dynamic
abbrev pub ArePipeRows : List PipeRow → Type 0
ArePipeRows rows = AreRows pid_of 2 112 rows

-- the row of a pipe
abbrev pub pipe_at : List PipeRow → ℕ → Option PipeRow
pipe_at rows pid = row_of pid_of pid rows

-- the rows where one is put, in place of the one of the same pipe if there is one, and where a pipe is taken out
abbrev pub with_pipe : List PipeRow → PipeRow → List PipeRow
with_pipe rows row = with_row pid_of row rows

abbrev pub without_pipe : List PipeRow → ℕ → List PipeRow
without_pipe rows pid = without_row pid_of pid rows

-- whether a host is one of the two that a pipe joins
abbrev pub joins_host : PipeRow → ℕ → Bool
joins_host row host = row.creator == host || row.dest == host

-- whether a pipe ends at this gate of this host
abbrev pub ends_at : PipeRow → ℕ → ℕ → Bool
ends_at row host gate = (row.creator == host && row.creator_gate == gate) || (row.dest == host && row.dest_gate == gate)

-- the rows where all pipes of a host are taken out
abbrev pub rows_without_host : List PipeRow → ℕ → List PipeRow
rows_without_host rows host = filter (λ row. not (joins_host row host)) rows

-- a row opened or closed
abbrev pub as_opened : Bool → PipeRow → PipeRow
as_opened opened row = record row { opened = opened }

-- the rows where a pipe is opened or closed, and where all are closed
abbrev pub with_opened : List PipeRow → ℕ → Bool → List PipeRow
with_opened rows pid opened = map (λ row. if row.pid == pid then as_opened opened row else row) rows

abbrev pub all_closed : List PipeRow → List PipeRow
all_closed rows = map (as_opened false) rows

-- how many opened pipes but one end at this gate of this host
abbrev pub opened_on : List PipeRow → ℕ → ℕ → ℕ → ℕ
opened_on rows host gate except = count_by (λ row. row.opened && ends_at row host gate && not (row.pid == except)) rows

-- whether a pipe is in no row and isn't kept for another use
abbrev pub is_free : List PipeRow → List ℕ → ℕ → Bool
is_free rows kept pid = is_none (pipe_at rows pid) && not (list_any (λ k. k == pid) kept)

-- The least dynamic pipe that is free. A proof that computes with it unfolds it by name.
unfoldable pub lowest_free : List PipeRow → List ℕ → Option ℕ
lowest_free rows kept = find (is_free rows kept) (range_with_len 2 110)
