-- What a start makes of a memory, and why it is refused.
use Rattle.std.specs.Prelude.{◌≡◌, ◌⊎◌, ℕ, Bool, true, false, List, Some, None, IsTrue}
use Rattle.swp_base.specs.Outside.{Rose}
use Rattle.nv_journal.specs.declared.JournalFault.{JournalFault}
use Rattle.nv_journal.specs.declared.JournalFault.TheVariants.{NvFault, UnknownFormat, BadRecord, GenerationsSpent}
use Rattle.journal_laws.specs.declared.state.State.{State}
use Rattle.journal_laws.specs.Writes.{AreRead, AreCalled}
use Rattle.journal_laws.specs.Operations.{format_writes, start_writes, started_state, LeftByCut}
use Rattle.nv_journal.specs.Faults.{fault}
use Rattle.nv_journal.specs.Kept.{Says}

-- a fault of what stands in the memory, and none of the memory
abbrev pub IsImageFault : JournalFault → Type 0
IsImageFault NvFault = ⊥
IsImageFault (UnknownFormat version) = Unit {0}
IsImageFault (BadRecord at) = Unit {0}
IsImageFault GenerationsSpent = ⊥

-- at most 37 reads were made, and the last of them failed
pub record IsUnread {N : Type 0} (reads : N → Bool → N → Type 0) (faults : N → ℕ) (old new : N) (f : JournalFault) : Type 0 where
  pub fault : f ≡ NvFault
  pub read : AreRead reads 37 old false new
  pub rose : Rose (faults old) (faults new)

-- at most 37 reads were made, and the memory's content has this fault
pub record IsUnsound {N : Type 0} (reads : N → Bool → N → Type 0) (tells : Bool) (content : N → List ℕ) (old new : N) (f : JournalFault) : Type 0 where
  pub fault_is : IsImageFault f
  pub read : AreRead reads 37 old true new
  pub told : IsTrue tells → fault (content old) ≡ Some f

-- a pass was refused, and nothing was written
abbrev pub IsRefused : {N : Type 0} → (N → Bool → N → Type 0) → (N → ℕ) → Bool → (N → List ℕ) → N → N → JournalFault → Type 0
IsRefused reads faults tells content old new f =
    (IsUnread reads faults old new f ⊎ IsUnsound reads tells content old new f) × (IsTrue tells → content new ≡ content old)

-- At most 37 reads were made, and the writes of a start: none where a bank is in use, and else a format. All of them went through,
-- and this is known of the memory.
pub record IsOpened {N : Type 0} (reads : N → Bool → N → Type 0) (writes : N → ℕ → List ℕ → Bool → N → Type 0) (tells : Bool) (content : N → List ℕ)
    (old new : N) (state : State) : Type 0 where
  pub before : State
  pub state_is : state ≡ started_state before
  pub called : AreCalled reads writes 37 (start_writes before) old true new
  pub said : IsTrue tells → Says (content old) before

-- a format failed: what it left has no bank in use, or the formatted one
pub record IsUnformattable {N : Type 0} (reads : N → Bool → N → Type 0) (writes : N → ℕ → List ℕ → Bool → N → Type 0) (faults : N → ℕ) (tells : Bool)
    (content : N → List ℕ) (old new : N) (f : JournalFault) : Type 0 where
  pub before : State
  pub none : before.in_use ≡ None
  pub fault : f ≡ NvFault
  pub called : AreCalled reads writes 37 format_writes old false new
  pub rose : Rose (faults old) (faults new)
  pub said : IsTrue tells → Says (content old) before
  pub cut : IsTrue tells → LeftByCut format_writes (content old) (content new)
