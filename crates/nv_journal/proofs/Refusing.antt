-- Why a start is refused.
use Rattle.nv_journal.proofs.Words.{AreMade, AreRead, Bool, Err, IsReadSoFar, IsTrue, LeftByCut, List, None, Result, Says, Scanned, Some, State, [], ap, arith}
use Rattle.nv_journal.proofs.Words.{false, fault, format_writes, inl, inr, option_map_or, reads_up_to, subst, sym, true, ℕ, ◌+◌, ◌∙◌, ◌≡◌, ◌≤◌, ◌⊎◌}
use Rattle.swp_base.specs.Outside.{Rose}
use Rattle.nv_journal.specs.declared.JournalFault.{JournalFault}
use Rattle.nv_journal.specs.declared.JournalFault.TheVariants.{NvFault}
use Rattle.journal_laws.specs.Operations.{start_writes, started_state}
use Rattle.nv_journal.specs.Refusals.{IsImageFault, IsRefused, IsOpened, IsUnformattable}

abbrev pub failed : {T : Type 0} → JournalFault → Result T JournalFault
failed f = Err f

pub not_of_memory : {T : Type 0} (f : JournalFault) → IsImageFault f → failed {T = T} f ≡ failed NvFault → ⊥
not_of_memory {T} f image is = subst IsImageFault (same f is) image
  where
    same : (g : JournalFault) → failed {T = T} g ≡ failed NvFault → g ≡ NvFault
    same g e = cc

module _ {N : Type 0} (reads : N → Bool → N → Type 0) (first : N) where
  pub read_all : (s : Scanned N) → IsReadSoFar reads first s → AreRead reads 37 first true s.nv
  read_all s r = reads_up_to reads (2 + r.pieces) 37 first true s.nv r.read (omega (arith, r.few))

  pub refused_by : (faults : N → ℕ) (tells : Bool) (content : N → List ℕ) (between new : N) (f : JournalFault)
      → (f ≡ NvFault) ⊎ (IsImageFault f × (IsTrue tells → fault (content between) ≡ Some f))
      → (f ≡ NvFault → AreRead reads 37 first false new) → (IsImageFault f → AreRead reads 37 first true new)
      → faults first ≤ faults between → (f ≡ NvFault → Rose (faults between) (faults new))
      → (IsTrue tells → content between ≡ content first) → (IsTrue tells → content new ≡ content between)
      → IsRefused reads faults tells content first new f
  refused_by faults tells content between new f (inl memory) unread read count rose kept still =
      (inl (record { fault = memory; read = unread memory; rose = omega (arith, count, rose memory) }), λ t. still t ∙ kept t)
  refused_by faults tells content between new f (inr image) unread read count rose kept still =
      (inr (record { fault_is = image.0; read = read image.0; told = λ t. ap fault (sym (kept t)) ∙ image.1 t }), λ t. still t ∙ kept t)

  pub opened_by : (writes : N → ℕ → List ℕ → Bool → N → Type 0) (tells : Bool) (content : N → List ℕ) (s : Scanned N) (new : N) (state : State)
      → IsReadSoFar reads first s
      → AreMade writes (start_writes s.state) s.nv true new → state ≡ started_state s.state → (IsTrue tells → content s.nv ≡ content first)
      → (IsTrue tells → Says (content s.nv) s.state) → IsOpened reads writes tells content first new state
  opened_by writes tells content s new state r made is kept said = record {
    before = s.state;
    state_is = is;
    called = inr (s.nv, read_all s r, made);
    said = λ t. subst (λ l. Says l s.state) (kept t) (said t);
  }

  pub unformattable_by : (writes : N → ℕ → List ℕ → Bool → N → Type 0) (faults : N → ℕ) (tells : Bool) (content : N → List ℕ) (s : Scanned N) (new : N)
      (f : JournalFault)
      → IsReadSoFar reads first s → AreMade writes (start_writes s.state) s.nv false new → f ≡ NvFault → s.state.in_use ≡ None
      → faults first ≤ faults s.nv → Rose (faults s.nv) (faults new) → (IsTrue tells → content s.nv ≡ content first)
      → (IsTrue tells → Says (content s.nv) s.state) → (IsTrue tells → LeftByCut format_writes (content s.nv) (content new))
      → IsUnformattable reads writes faults tells content first new f
  unformattable_by writes faults tells content s new f r made is none count rose kept said cut = record {
    before = s.state;
    none = none;
    fault = is;
    called = inr (s.nv, read_all s r, subst (λ o. AreMade writes (option_map_or (λ _. []) o format_writes) s.nv false new) none made);
    rose = omega (arith, count, rose);
    said = λ t. subst (λ l. Says l s.state) (kept t) (said t);
    cut = λ t. subst (λ l. LeftByCut format_writes l (content new)) (kept t) (cut t);
  }
