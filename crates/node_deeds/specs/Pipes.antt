-- What is looked at at a pipe.
use Rattle.std.specs.Prelude.{ℕ, ◌==◌, if◌then◌else◌, Option, Some, None}
use Rattle.pipe_table.specs.declared.row.PipeRow.{PipeRow}

-- the gate of a host at which this pipe ends, where another host made it
abbrev pub gate_in : Option PipeRow → ℕ → Option ℕ
gate_in None host = None
gate_in (Some row) host = if row.dest == host then Some row.dest_gate else None
