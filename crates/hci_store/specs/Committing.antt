-- A commit: the writes that it makes, and what is known of the memory then.
use Rattle.std.specs.Prelude.{ℕ, ◌+◌, Bool, nat_le, if◌then◌else◌, List, [], ◌++◌, length, map}
use Rattle.journal_laws.specs.declared.state.State.{State}
use Rattle.journal_laws.specs.Writes.{Write}
use Rattle.journal_laws.specs.Journal.{left}
use Rattle.journal_laws.specs.Operations.{append_writes, appended, compact_writes, compacted}
use Rattle.hci_tables.specs.Tables.{HciTables}
use Rattle.hci_tables.specs.Bodies.{body_of}
use Rattle.hci_store.specs.Snapshots.{snapshot_of}

-- whether a record with this body fits into the bank in use, with a closed gate behind it
abbrev pub record_fits : State → List ℕ → Bool
record_fits s body = nat_le (length body + 5) (left s)

abbrev pub snapshot_bodies : HciTables → List (List ℕ)
snapshot_bodies t = map body_of (snapshot_of t)

-- Where the record doesn't fit, the tables are first written as a snapshot into the other bank.
abbrev pub room_writes : State → HciTables → List ℕ → List Write
room_writes s t body = if record_fits s body then [] else compact_writes s (snapshot_bodies t)

abbrev pub with_room : State → HciTables → List ℕ → State
with_room s t body = if record_fits s body then s else compacted s (snapshot_bodies t)

abbrev pub commit_writes : State → HciTables → List ℕ → List Write
commit_writes s t body = room_writes s t body ++ append_writes (with_room s t body) body

abbrev pub committed : State → HciTables → List ℕ → State
committed s t body = appended (with_room s t body) body
