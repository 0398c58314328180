-- What a store keeps, and what its memory says of that.
use Rattle.std.specs.Prelude.{◌≡◌, ℕ, Bool, true, List, IsTrue}
use Rattle.journal_laws.specs.Journal.{journal, records, count, IsSound}
use Rattle.nv_journal.specs.Kept.{KeptMemory}
use Rattle.hci_tables.specs.Tables.{HciTables, close}
use Rattle.hci_store.specs.Image.{tables_of, are_commands, image_fault}
use Rattle.hci_store.specs.Recordable.{IsRecordable}

-- the journal, and the tables
pub record Stored (N : Type 0) : Type 0 where
  pub journal : KeptMemory N
  pub tables : HciTables

-- all records are commands, and a start on this memory would give these tables, all pipes closed
pub record HoldsTables (content : List ℕ) (tables : HciTables) : Type 0 where
  pub commands : are_commands (records content) ≡ true
  pub tables_are : close (tables_of content) ≡ close tables

-- Nothing is wrong with a memory: a start on it would give these tables, all pipes closed, and would count so many commands.
pub record Keeps (content : List ℕ) (tables : HciTables) (many : ℕ) : Type 0 where
  pub sound : IsSound (journal content)
  pub holds : HoldsTables content tables
  pub count_is : count content ≡ many

-- a start on the new memory would find the tables, all pipes closed, the count and the fault that one on the old memory finds
pub record FindsSame (old new : List ℕ) : Type 0 where
  pub tables_are : close (tables_of new) ≡ close (tables_of old)
  pub count_is : count new ≡ count old
  pub fault_is : image_fault new ≡ image_fault old

pub record IsStored {N : Type 0} (tells : Bool) (content : N → List ℕ) (s : Stored N) : Type 0 where
  pub recordable : IsRecordable s.tables
  pub holds : IsTrue s.journal.live → IsTrue tells → HoldsTables (content s.journal.nv) s.tables
