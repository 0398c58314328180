-- A format of a memory where no bank is in use.
use Rattle.nv_journal.proofs.Words.{IsAllOrNothing, Journal, List, None, Option, Says, Side, Some, State, after_writes, ap, false, format_writes, is_some}
use Rattle.nv_journal.proofs.Words.{no_journal, records, refl, sym, true≢false, ℕ, ◌∙◌, ◌≡◌}
use Rattle.journal_laws.specs.Operations.{IsUnformatted, formatted}
use Rattle.journal_laws.proofs.Opening.{format_is_whole, format_state, format_is_cut, format_started}
use Rattle.nv_journal.proofs.Appending.{says_started}

pub none_of : (o : Option Side) → is_some o ≡ false → o ≡ None
none_of None e = refl
none_of (Some side) e = absurd (true≢false e)

module _ (content : List ℕ) (state : State) (says : Says content state) (none : state.in_use ≡ None) where
  unused : IsUnformatted content
  unused = record { size = says.size; closed = ap (λ (s : State). s.in_use) says.state_is ∙ none }

  pub says_formatted : Says (after_writes format_writes content) formatted
  says_formatted = says_started (after_writes format_writes content) formatted (format_started content unused) (format_state content unused)

  pub format_all_or_nothing : IsAllOrNothing format_writes content
  format_all_or_nothing = format_is_cut content unused

  pub no_records_then : records (after_writes format_writes content) ≡ records content
  no_records_then = ap (λ (j : Journal). j.found.bodies) (format_is_whole content unused)
      ∙ ap (λ (j : Journal). j.found.bodies) (sym (no_journal content unused.closed))
