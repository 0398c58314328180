-- A snapshot in the place of the records of a memory that says what a journal keeps of it.
use Rattle.std.proofs.Common.{IsErr, is_ok}
use Rattle.nv_journal.proofs.Words.{AreMade, Bool, Err, IsAllOrNothing, IsStarted, Journal, List, Ok, Result, Says, Side, Some, State, [], after_writes, ap}
use Rattle.nv_journal.proofs.Words.{ap₂, bank_bytes, bank_place, compact_writes, false, option_map_or, other, records, refl, state_of, subst, sym, ℕ, ◌++◌, ◌+◌}
use Rattle.nv_journal.proofs.Words.{◌∙◌, ◌∷◌, ◌≡◌}
use Rattle.journal_laws.specs.Writes.{write}
use Rattle.journal_laws.specs.Journal.{count_of}
use Rattle.journal_laws.specs.Operations.{CanCompact, close_bank, compacted, open_bank}
use Rattle.journal_laws.proofs.Opening.{compact_whole, compact_says, compact_cut, compact_started}
use Rattle.nv_journal.proofs.Appending.{started_of, says_started}

pub not_ok : {T E : Type 0} (r : Result T E) → IsErr r → is_ok r ≡ false
not_ok (Ok x) err = sym err
not_ok (Err e) err = refl

-- the writes, by the bank that is not in use
pub made_at : {M : Type 0} (writes : M → ℕ → List ℕ → Bool → M → Type 0) (s : State) {side : Side} (bodies : List (List ℕ)) {at : ℕ} {bytes : List ℕ}
    (old : M) (ok : Bool) (new : M) → s.in_use ≡ Some side → at ≡ bank_place (other side) → bytes ≡ bank_bytes (s.generation + 1) (count_of s) bodies
    → AreMade writes (close_bank s.beside at ++ write (at + 1) bytes ∷ write at (90 ∷ []) ∷ []) old ok new
    → AreMade writes (compact_writes s bodies) old ok new
made_at writes s bodies old ok new is at_is bytes_are made =
    subst (λ planned. AreMade writes planned old ok new)
    (ap₂ (λ p b. close_bank s.beside p ++ write (p + 1) b ∷ write p (90 ∷ []) ∷ []) at_is bytes_are
    ∙ ap
    (λ o. option_map_or (λ t. close_bank s.beside (bank_place (other t)) ++ open_bank (bank_place (other t)) (s.generation + 1) (count_of s) bodies) o [])
    (sym is))
    made

module _ (content : List ℕ) (bodies : List (List ℕ)) (state : State) (says : Says content state) (can : CanCompact state bodies) where
  started : IsStarted content
  started = started_of content state says can.in_use

  can_now : CanCompact (state_of content) bodies
  can_now = subst (λ s. CanCompact s bodies) (sym says.state_is) can

  abbrev then : State → List ℕ
  then s = after_writes (compact_writes s bodies) content

  pub says_after : Says (after_writes (compact_writes state bodies) content) (compacted state bodies)
  says_after = subst (λ s. Says (then s) (compacted s bodies)) says.state_is
      (says_started (then (state_of content)) (compacted (state_of content) bodies) (compact_started content bodies started can_now)
      (compact_says content bodies started can_now))

  pub records_after : records (after_writes (compact_writes state bodies) content) ≡ bodies
  records_after = subst (λ s. records (then s) ≡ bodies) says.state_is
      (ap (λ (j : Journal). j.found.bodies) (compact_whole content bodies started can_now))

  pub all_or_nothing : IsAllOrNothing (compact_writes state bodies) content
  all_or_nothing = subst (λ s. IsAllOrNothing (compact_writes s bodies) content) says.state_is (compact_cut content bodies started can_now)
