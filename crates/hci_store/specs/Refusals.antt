-- Why a start of a store is refused.
use Rattle.std.specs.Prelude.{◌≡◌, ◌⊎◌, ℕ, Bool, true, List, None, Some, IsTrue}
use Rattle.nv_journal.specs.declared.JournalFault.{JournalFault}
use Rattle.journal_laws.specs.Writes.{AreRead}
use Rattle.journal_laws.specs.Journal.{journal}
use Rattle.nv_journal.specs.Refusals.{IsImageFault, IsUnread}
use Rattle.hci_store.specs.Image.{image_fault}

-- at most 37 reads were made, and the memory's content has this fault
pub record AreRecordsUnsound {N : Type 0} (reads : N → Bool → N → Type 0) (tells : Bool) (content : N → List ℕ) (old new : N) (f : JournalFault) : Type 0 where
  pub fault_is : IsImageFault f
  pub read : AreRead reads 37 old true new
  pub told : IsTrue tells → image_fault (content old) ≡ Some f

-- the records were refused, and nothing was written
abbrev pub AreRecordsRefused : {N : Type 0} → (N → Bool → N → Type 0) → (N → ℕ) → Bool → (N → List ℕ) → N → N → JournalFault → Type 0
AreRecordsRefused reads faults tells content old new f =
    (IsUnread reads faults old new f ⊎ AreRecordsUnsound reads tells content old new f) × (IsTrue tells → content new ≡ content old)

-- The bank in use has version 01 and the last generation, and nothing is wrong with its records. The memory says what it said.
pub record IsSpent (old new : List ℕ) : Type 0 where
  pub version : (journal old).head.version ≡ 1
  pub generation : (journal old).head.generation ≡ 4294967295
  pub sound : image_fault old ≡ None
  pub kept : new ≡ old

-- at most 37 reads were made, all of which went through, and nothing was written: a memory that tells its content says what it said
pub record IsOnlyRead {N : Type 0} (reads : N → Bool → N → Type 0) (tells : Bool) (content : N → List ℕ) (old new : N) : Type 0 where
  pub read : AreRead reads 37 old true new
  pub kept : IsTrue tells → content new ≡ content old
