-- Planned writes: what they do to a memory, what they leave of it where one is cut, and the reads in front of them.
use Rattle.std.specs.Prelude.{◌≡◌, ◌⊎◌, Bool, true, false, ℕ, zero, suc, ◌+◌, ◌≤◌, List, [], ◌∷◌, length}
use Rattle.std.specs.List.{AllByRecursion}
use Rattle.swp_base.specs.Outside.{overwritten, IsTorn}

-- a write of these bytes from this place of the memory on
pub record Write : Type 0 where
  pub at : ℕ
  pub bytes : List ℕ

abbrev pub write : ℕ → List ℕ → Write
write at bytes = record { at = at; bytes = bytes }

-- a memory after these writes, the first of them first
abbrev pub after_writes : List Write → List ℕ → List ℕ
after_writes [] content = content
after_writes (w ∷ writes) content = after_writes writes (overwritten content w.at w.bytes)

-- A memory after a cut: the first k of these writes were made whole, and the next one was torn.
abbrev pub IsCut : ℕ → List Write → List ℕ → List ℕ → Type 0
IsCut k [] old new = ⊥
IsCut zero (w ∷ writes) old new = IsTorn old new w.at (length w.bytes)
IsCut (suc k) (w ∷ writes) old new = IsCut k writes (overwritten old w.at w.bytes) new

-- These writes were made in this order until one failed, where `writes` says what one of them does to a memory of a kind: whether
-- all of them went through, and the memory after them.
abbrev pub AreMade : {M : Type 0} → (M → ℕ → List ℕ → Bool → M → Type 0) → List Write → M → Bool → M → Type 0
AreMade writes [] old ok new = (ok ≡ true) × (new ≡ old)
AreMade {M} writes (w ∷ planned) old ok new =
    ((ok ≡ false) × writes old w.at w.bytes false new)
    ⊎ ((between : M) × writes old w.at w.bytes true between × AreMade writes planned between ok new)

-- At most so many reads were made until one failed, where `reads` says what one of them does to a memory.
unfoldable pub AreRead : {M : Type 0} → (M → Bool → M → Type 0) → ℕ → M → Bool → M → Type 0
AreRead reads zero old ok new = (ok ≡ true) × (new ≡ old)
AreRead {M} reads (suc most) old ok new =
    ((ok ≡ true) × (new ≡ old)) ⊎ ((ok ≡ false) × reads old false new)
    ⊎ ((between : M) × reads old true between × AreRead reads most between ok new)

-- At most so many reads were made, and where none of them failed, these writes in this order until one failed.
abbrev pub AreCalled : {M : Type 0} → (M → Bool → M → Type 0) → (M → ℕ → List ℕ → Bool → M → Type 0) → ℕ → List Write → M → Bool → M → Type 0
AreCalled {M} reads writes most planned old ok new =
    ((ok ≡ false) × AreRead reads most old false new)
    ⊎ ((between : M) × AreRead reads most old true between × AreMade writes planned between ok new)

-- they all lie in a memory of this size
abbrev pub FitIn : ℕ → List Write → Type 0
FitIn size writes = AllByRecursion (λ w. w.at + length w.bytes ≤ size) writes

-- where the last of these writes begins
abbrev pub last_place : List Write → ℕ
last_place [] = 0
last_place (w ∷ []) = w.at
last_place (w ∷ next ∷ writes) = last_place (next ∷ writes)
