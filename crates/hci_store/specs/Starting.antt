-- A start: the writes that it makes, and what is known of the memory then.
use Rattle.std.specs.Prelude.{◌≡◌, ℕ, ◌==◌, Bool, true, if◌then◌else◌, List, [], ◌++◌}
use Rattle.journal_laws.specs.declared.state.State.{State}
use Rattle.journal_laws.specs.Writes.{Write, AreRead, AreMade}
use Rattle.journal_laws.specs.Journal.{state_of}
use Rattle.journal_laws.specs.Operations.{start_writes, started_state, compact_writes, compacted}
use Rattle.hci_tables.specs.Tables.{HciTables, close}
use Rattle.hci_store.specs.Committing.{snapshot_bodies}
use Rattle.hci_store.specs.Image.{tables_of}

-- Where the bank in use isn't of version 02, the tables are written anew as a snapshot of that version into the other bank.
abbrev pub migration_writes : State → HciTables → List Write
migration_writes s t = if s.version == 2 then [] else compact_writes s (snapshot_bodies t)

abbrev pub migrated : State → HciTables → State
migrated s t = if s.version == 2 then s else compacted s (snapshot_bodies t)

-- A memory that says nothing is formatted; one of version 01 is written anew, with all pipes closed.
abbrev pub ready_writes : List ℕ → List Write
ready_writes content =
    start_writes (state_of content) ++ migration_writes (started_state (state_of content)) (close (tables_of content))

abbrev pub ready_state : List ℕ → State
ready_state content = migrated (started_state (state_of content)) (close (tables_of content))

-- These writes were made behind at most 37 reads, which changed no byte of the memory: all of them, or until one failed.
pub record HasWritten {N : Type 0} (reads : N → Bool → N → Type 0) (writes : N → ℕ → List ℕ → Bool → N → Type 0) (content : N → List ℕ)
    (planned : List Write) (old : N) (ok : Bool) (new : N) : Type 0 where
  pub read : N
  pub behind : AreRead reads 37 old true read
  pub unchanged : content read ≡ content old
  pub made : AreMade writes planned read ok new
