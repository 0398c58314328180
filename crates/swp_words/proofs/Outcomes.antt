-- What a run of one node comes to, if nothing outside fails.
use Rattle.std.proofs.Common.{◌⊎◌}
use Rattle.std.specs.Prelude.{Some, ◌↔◌, ◌≢◌}
use Rattle.swp_words.proofs.Words.{Bool, BootFault, EndForm, EndedSo, HasNextGeneration, IsBootRefused, IsOfEndWord, IsOfLone, IsOnlyRead, IsTrue, List}
use Rattle.swp_words.proofs.Words.{NoMemory, None, Status, ap, arith, image_fault, inl, inr, length, length-append, most_bytes, refl, status_of_boot, subst, ℕ}
use Rattle.swp_words.proofs.Words.{◌++◌, ◌<◌, ◌∷◌, ◌≡◌, ◌≤◌}
use Rattle.nv_journal.specs.declared.JournalFault.{JournalFault}
use Rattle.nv_journal.specs.declared.JournalFault.TheVariants as image
use Rattle.swp_words.specs.declared.status.Status.TheVariants as status
use Rattle.swp_words.specs.Ends.{IsImageRefused, IsRefusedFor}

-- a run is not refused for its memory, where nothing is wrong with it and no generation is needed that isn't there
not_refused : {N : Type 0} (reads : N → Bool → N → Type 0) (content : N → List ℕ) (tells : Bool) (old new : N) (fault : JournalFault)
    (input left before after : List ℕ) → IsImageRefused reads content tells old new fault input left before after → image_fault (content old) ≡ None
    → HasNextGeneration (content old) → ⊥
not_refused reads content tells old new fault input left before after h sound next = grind arith

-- one byte too many came only where there were so many
pub more_came : (bytes rest input : List ℕ) (byte : ℕ) → input ≡ bytes ++ byte ∷ rest → length bytes ≡ most_bytes → most_bytes < length input
more_came bytes rest input byte is most =
    let l = length-append bytes (byte ∷ rest) in
    let all = ap length is in
    omega (arith, l, all, most)

module _ {N : Type 0} (reads : N → Bool → N → Type 0) (writes : N → ℕ → List ℕ → Bool → N → Type 0) (content : N → List ℕ) (tells : Bool)
    (given : ℕ) (form : EndForm) (is_clf : Bool) (old new : N) (input left before after : List ℕ) (sound : image_fault (content old) ≡ None)
    (next : HasNextGeneration (content old)) where
  -- of an input that isn't too long all came
  pub complete_ended : (s : Status) → EndedSo reads writes content tells given form is_clf old new s input left before after → IsOfEndWord s
      → length input ≤ most_bytes → ¬ (s ≡ status.ReadFault) → ¬ (s ≡ status.WriteFault) → ¬ (s ≡ status.NvFault)
      → (s ≡ status.Done) ⊎ (s ≡ status.NoMemory)
  complete_ended status.Done h kind few read write nv = inl refl
  complete_ended status.NoMemory h kind few read write nv = inr refl
  complete_ended status.ReadFault h kind few read write nv = absurd (read refl)
  complete_ended status.WriteFault h kind few read write nv = absurd (write refl)
  complete_ended status.NvFault h kind few read write nv = absurd (nv refl)
  complete_ended (status.TooMany n) h kind few read write nv =
      let r = h.ran.1 in
      let more = more_came r.bytes (r.ahead ++ left) input r.byte r.input_is r.most in
      absurd (omega (arith, more, few))
  complete_ended (status.BadImage why) h kind few read write nv = absurd (not_refused reads content tells old new why input left before after h sound next)
  complete_ended status.BadWords h kind few read write nv = absurd kind
  complete_ended (status.BadSchedule line why) h kind few read write nv = absurd kind
  complete_ended (status.Undetected line) h kind few read write nv = absurd kind

  -- a longer one is refused at the first byte too many
  pub too_many_ended : (s : Status) → EndedSo reads writes content tells given form is_clf old new s input left before after → IsOfEndWord s
      → most_bytes < length input → ¬ (s ≡ status.ReadFault) → ¬ (s ≡ status.WriteFault) → ¬ (s ≡ status.NvFault)
      → (s ≡ status.TooMany 16777217) ⊎ (s ≡ status.NoMemory)
  too_many_ended s h kind more read write nv = grind arith

-- a boot that was refused read and wrote nothing that could fail but its memory
pub boot_unfailed : (fault : BootFault) (s : Status) → s ≡ status_of_boot fault → (¬ (s ≡ status.ReadFault)) × (¬ (s ≡ status.WriteFault))
boot_unfailed fault s is = grind arith

-- a boot that was refused for a memory with a fault was refused for that fault
pub image_refused : {N : Type 0} (reads : N → Bool → N → Type 0) (writes : N → ℕ → List ℕ → Bool → N → Type 0) (faults : N → ℕ) (nv_tells : Bool)
    (content : N → List ℕ) (old new : N) (fault : BootFault) (s : Status) (f : JournalFault)
    → IsBootRefused reads writes faults nv_tells content old new fault → s ≡ status_of_boot fault → IsTrue nv_tells → image_fault (content old) ≡ Some f
    → ¬ (s ≡ status.NvFault) → (s ≡ status.BadImage f) ⊎ (s ≡ status.NoMemory)
image_refused reads writes faults nv_tells content old new fault s f k is told bad nv = grind arith

-- a memory that a boot refused, while none of its calls failed, was read alone
pub image_unwritten : {N : Type 0} (reads : N → Bool → N → Type 0) (writes : N → ℕ → List ℕ → Bool → N → Type 0) (faults : N → ℕ) (nv_tells : Bool)
    (content : N → List ℕ) (old new : N) (fault : BootFault) (s : Status) (f : JournalFault)
    → IsBootRefused reads writes faults nv_tells content old new fault → s ≡ status_of_boot fault → s ≡ status.BadImage f
    → IsOnlyRead reads nv_tells content old new
image_unwritten reads writes faults nv_tells content old new fault s f k is bad = grind arith

-- a node that runs isn't refused for its memory
pub runs_on_image : (s : Status) (f : JournalFault) → IsOfLone s → s ≡ status.BadImage f → ⊥
runs_on_image s f kind is = subst IsOfLone is kind

-- ## Memories that a boot refuses

-- a memory that boots isn't refused
pub boots_unrefused : (f : JournalFault) (content : List ℕ) → image_fault content ≡ None → HasNextGeneration content → IsRefusedFor f content → ⊥
boots_unrefused f content sound next a = grind arith

same_fault : (s : Status) (f g : JournalFault) → s ≡ status.BadImage f → s ≡ status.BadImage g → f ≡ g
same_fault s f g is too = cc

-- a run that was refused for what its memory is refused for
refused_as : (s : Status) (f g : JournalFault) (content : List ℕ) → s ≡ status.BadImage g → IsRefusedFor g content
    → (s ≡ status.BadImage f) ↔ (IsRefusedFor f content × (s ≢ status.NoMemory) × (s ≢ status.NvFault))
refused_as s f g content is why = grind arith

-- a boot that was refused was so for its memory, exactly, but where there was no memory for the node or the one that it boots from failed
pub refused_exactly : {N : Type 0} (reads : N → Bool → N → Type 0) (writes : N → ℕ → List ℕ → Bool → N → Type 0) (faults : N → ℕ) (nv_tells : Bool)
    (content : N → List ℕ) (old new : N) (fault : BootFault) (s : Status) (f : JournalFault)
    → IsBootRefused reads writes faults nv_tells content old new fault → s ≡ status_of_boot fault → IsTrue nv_tells
    → (s ≡ status.BadImage f) ↔ (IsRefusedFor f (content old) × (s ≢ status.NoMemory) × (s ≢ status.NvFault))
refused_exactly reads writes faults nv_tells content old new fault s f k is told = grind arith

-- a run behind a boot wasn't refused, and nor is its memory
pub unrefused_exactly : (s : Status) (f : JournalFault) (content : List ℕ) → IsOfLone s → image_fault content ≡ None → HasNextGeneration content
    → (s ≡ status.BadImage f) ↔ (IsRefusedFor f content × (s ≢ status.NoMemory) × (s ≢ status.NvFault))
unrefused_exactly s f content kind sound next = grind arith
