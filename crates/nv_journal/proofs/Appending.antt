-- One more record in a memory that says what a journal keeps of it.
use Rattle.std.proofs.Common.{IsSome, OnErr}
use Rattle.nv_journal.proofs.Words.{Err, HasRoomForBody, IsAllOrNothing, IsStarted, Journal, LeftByCut, List, Ok, Result, Says, State, [], after_writes, ap}
use Rattle.nv_journal.proofs.Words.{append_writes, records, state_of, subst, sym, ℕ, ◌++◌, ◌∷◌, ◌≡◌}
use Rattle.journal_laws.specs.Writes.{IsCut, Write}
use Rattle.journal_laws.specs.Operations.{appended}
use Rattle.journal_laws.proofs.Opening.{append_whole, append_says, append_cut, append_started}

pub started_of : (content : List ℕ) (state : State) → Says content state → IsSome state.in_use → IsStarted content
started_of content state says some = record {
  size = says.size;
  in_use = subst (λ (s : State). IsSome s.in_use) (sym says.state_is) some;
  sound = says.sound;
}

-- what a start finds in the memory of a started journal
pub says_started : (content : List ℕ) (state : State) → IsStarted content → state_of content ≡ state → Says content state
says_started content state started is = record { size = started.size; state_is = is; sound = started.sound }

pub left_by_cut : (writes : List Write) (content left : List ℕ) → IsAllOrNothing writes content → (k : ℕ) × IsCut k writes content left
    → LeftByCut writes content left
left_by_cut writes content left whole cut = record { whole = cut.0; cut = cut.1; says = whole.says cut.0 left cut.1 }

pub on_err : {T E : Type 0} (r : Result T E) (P : Type 0) → P → OnErr r P
on_err (Ok x) P p = tt
on_err (Err e) P p = p

module _ (content body : List ℕ) (state : State) (says : Says content state) (room : HasRoomForBody state body) where
  started : IsStarted content
  started = started_of content state says room.in_use

  has_room : HasRoomForBody (state_of content) body
  has_room = subst (λ s. HasRoomForBody s body) (sym says.state_is) room

  abbrev then : State → List ℕ
  then s = after_writes (append_writes s body) content

  pub says_after : Says (after_writes (append_writes state body) content) (appended state body)
  says_after = subst (λ s. Says (then s) (appended s body)) says.state_is
      (says_started (then (state_of content)) (appended (state_of content) body) (append_started content body started has_room)
      (append_says content body started has_room))

  pub records_after : records (after_writes (append_writes state body) content) ≡ records content ++ body ∷ []
  records_after = subst (λ s. records (then s) ≡ records content ++ body ∷ []) says.state_is
      (ap (λ (j : Journal). j.found.bodies) (append_whole content body started has_room))

  pub all_or_nothing : IsAllOrNothing (append_writes state body) content
  all_or_nothing = subst (λ s. IsAllOrNothing (append_writes s body) content) says.state_is (append_cut content body started has_room)
