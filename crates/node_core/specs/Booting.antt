-- A boot of a node: what it finds in its memory, whatever stands there, and what a boot that is refused leaves.
use Rattle.std.specs.Prelude.{◌≡◌, ◌≢◌, ◌==◌, ◌⊎◌, ℕ, Bool, List, [], ◌∷◌, if◌then◌else◌, false, Some, IsTrue}
use Rattle.swp_base.specs.Outside.{Rose}
use Rattle.swp_base.specs.declared.link_terms.Role.{Role as Named}
use Rattle.swp_base.specs.declared.link_terms.Role.TheVariants.{Clf, Uicc}
use Rattle.nv_journal.specs.declared.JournalFault.{JournalFault}
use Rattle.nv_journal.specs.declared.JournalFault.TheVariants.{NvFault, GenerationsSpent}
use Rattle.nv_journal.specs.Refusals.{IsImageFault}
use Rattle.hci_store.specs.Image.{image_fault}
use Rattle.hci_store.specs.Refusals.{IsSpent, IsOnlyRead}
use Rattle.hci_store.specs.Stored.{FindsSame}
use Rattle.journal_laws.specs.Writes.{AreRead}
use Rattle.hci_store.specs.Starting.{ready_state, ready_writes, HasWritten}
use Rattle.gate_admin.specs.View.{has, hosts_where}
use Rattle.node_machine.specs.Parts.{Running}
use Rattle.node_machine.specs.Node.{found}
use Rattle.node_core.specs.declared.booting.BootFault.{BootFault}
use Rattle.node_core.specs.declared.booting.BootFault.TheVariants.{NoMemory, Journal}

-- What a node with links to these hosts finds in a memory as it boots: what its store knows of the journal once it has started, and
-- the tables, every pipe closed.
abbrev pub found_in_memory : ℕ → List ℕ → List ℕ → Running
found_in_memory node hosts content =
    let r : Running = found node hosts content in record r { core = record r.core { journal = ready_state content } }

-- the role of a node's ends: the CLF's at the controller, the UICC's at a host
abbrev pub role_at : ℕ → Named
role_at number = if number == 0 then Clf else Uicc

-- the hosts to which a node has links: the controller to those of a mask, a host to itself
abbrev pub hosts_linked : ℕ → ℕ → List ℕ
hosts_linked number mask = if number == 0 then hosts_where (has mask) else number ∷ []

-- A store didn't start on this memory: for a read or a write that failed, since no generation is left for the snapshot of a memory of
-- version 01, or for what is wrong with the memory. The next start finds what this one found. Where no call of the memory failed, nothing
-- was written.
pub record IsStartRefused {N : Type 0} (reads : N → Bool → N → Type 0) (writes : N → ℕ → List ℕ → Bool → N → Type 0) (faults : N → ℕ) (tells : Bool)
    (content : N → List ℕ) (old new : N) (f : JournalFault) : Type 0 where
  pub known : (f ≡ NvFault) ⊎ (f ≡ GenerationsSpent) ⊎ IsImageFault f
  pub rose : f ≡ NvFault → Rose (faults old) (faults new)
  pub spent : IsTrue tells → f ≡ GenerationsSpent → IsSpent (content old) (content new)
  pub image : IsTrue tells → IsImageFault f → image_fault (content old) ≡ Some f
  pub left : IsTrue tells → FindsSame (content old) (content new)
  pub unwritten : f ≢ NvFault → IsOnlyRead reads tells content old new
  pub torn : IsTrue tells → f ≡ NvFault
      → (AreRead reads 37 old false new × (content new ≡ content old)) ⊎ HasWritten reads writes content (ready_writes (content old)) old false new

-- without memory for its ends a node doesn't touch what it would boot from
abbrev pub IsBootRefused : {N : Type 0} → (N → Bool → N → Type 0) → (N → ℕ → List ℕ → Bool → N → Type 0) → (N → ℕ) → Bool → (N → List ℕ) → N → N
    → BootFault → Type 0
IsBootRefused reads writes faults tells content old new NoMemory = new ≡ old
IsBootRefused reads writes faults tells content old new (Journal f) = IsStartRefused reads writes faults tells content old new f
