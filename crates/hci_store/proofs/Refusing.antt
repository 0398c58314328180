-- Why a start of a store is refused.
use Rattle.hci_store.proofs.Words.{Bool, GenerationsSpent, IsKnown, IsOnlyRead, IsTrue, JournalFault, List, NvFault, Some, arith, false}
use Rattle.hci_store.proofs.Words.{fault, inl, inr, is_known, journal, subst, true, ℕ, ◌∙◌, ◌≡◌, ◌≤◌, ◌⊎◌}
use Rattle.swp_base.specs.Outside.{Rose}
use Rattle.journal_laws.specs.Writes.{AreRead}
use Rattle.nv_journal.specs.Refusals as journal_refusals
use Rattle.hci_store.specs.Image.{image_fault}
use Rattle.hci_store.specs.Refusals.{AreRecordsRefused}

pub unknown_is_told : (content : List ℕ) → is_known (journal content).head.version ≡ false → image_fault content ≡ fault content
unfolding image_fault
unknown_is_told content unknown = grind arith

module _ {N : Type 0} (reads : N → Bool → N → Type 0) (faults : N → ℕ) (tells : Bool) (content : N → List ℕ) (first new : N) where
  -- the heads were refused
  pub heads_refused : (f : JournalFault) → journal_refusals.IsRefused reads faults tells content first new f
      → (IsTrue tells → (f ≡ NvFault) ⊎ (is_known (journal (content first)).head.version ≡ false)) → AreRecordsRefused reads faults tells content first new f
  heads_refused f (inl unread, kept) unknown = (inl unread, kept)
  heads_refused f (inr unsound, kept) unknown = (
    inr (record {
      fault_is = unsound.fault_is;
      read = unsound.read;
      told = λ t. told t (unknown t);
    }),
    kept,
  )
    where
      told : IsTrue tells → (f ≡ NvFault) ⊎ (is_known (journal (content first)).head.version ≡ false) → image_fault (content first) ≡ Some f
      told t (inl memory) = absurd (subst journal_refusals.IsImageFault memory unsound.fault_is)
      told t (inr not_known) = unknown_is_told (content first) not_known ∙ unsound.told t

  -- the records were refused
  pub records_refused : (between : N) (f : JournalFault)
      → (f ≡ NvFault)
      ⊎ (journal_refusals.IsImageFault f × (IsTrue tells → IsKnown (journal (content between)).head.version → image_fault (content between) ≡ Some f))
      → (f ≡ NvFault → AreRead reads 37 first false new) → (journal_refusals.IsImageFault f → AreRead reads 37 first true new)
      → faults first ≤ faults between → (f ≡ NvFault → Rose (faults between) (faults new))
      → (IsTrue tells → content between ≡ content first) → (IsTrue tells → content new ≡ content between)
      → (IsTrue tells → IsKnown (journal (content first)).head.version)
      → AreRecordsRefused reads faults tells content first new f
  records_refused between f x2 unread read count rose kept still known = grind arith

  pub rose_of : (f : JournalFault) → AreRecordsRefused reads faults tells content first new f → f ≡ NvFault → Rose (faults first) (faults new)
  rose_of f x1 memory = grind arith

  pub image_of : (f : JournalFault) → AreRecordsRefused reads faults tells content first new f → IsTrue tells → journal_refusals.IsImageFault f
      → image_fault (content first) ≡ Some f
  image_of f x1 t image = grind arith

  -- no more was done than reads, the last of which failed
  pub unread_of : (f : JournalFault) → AreRecordsRefused reads faults tells content first new f → f ≡ NvFault → IsTrue tells
      → AreRead reads 37 first false new × (content new ≡ content first)
  unread_of f x1 memory t = grind arith

  -- what is no fault of the memory was found by reads that went through
  pub only_read : (f : JournalFault) → AreRecordsRefused reads faults tells content first new f → ¬ (f ≡ NvFault)
      → IsOnlyRead reads tells content first new
  only_read f x1 image = grind arith

  pub fault_of : (f : JournalFault) → AreRecordsRefused reads faults tells content first new f
      → (f ≡ NvFault) ⊎ (f ≡ GenerationsSpent) ⊎ journal_refusals.IsImageFault f
  fault_of f x1 = grind arith

  pub not_spent : (f : JournalFault) → AreRecordsRefused reads faults tells content first new f → f ≡ GenerationsSpent → ⊥
  not_spent f x1 spent = grind arith

pub memory_is_no_image : (f : JournalFault) → f ≡ NvFault → journal_refusals.IsImageFault f → ⊥
memory_is_no_image f memory image = subst journal_refusals.IsImageFault memory image

pub start_is_no_image : (f : JournalFault) → (f ≡ NvFault) ⊎ (f ≡ GenerationsSpent) → journal_refusals.IsImageFault f → ⊥
start_is_no_image f x1 image = grind arith

-- what a start behind the records finds, where its fault is none of the memory
pub where_spent : {A : Type 0} (f : JournalFault) → (f ≡ NvFault) ⊎ (f ≡ GenerationsSpent) → ¬ (f ≡ NvFault) → (f ≡ GenerationsSpent → A) → A
where_spent f x1 other found = grind arith
