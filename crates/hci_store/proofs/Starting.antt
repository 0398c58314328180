-- What a start finds in the bank in use.
use Rattle.std.proofs.Common.{Option, ◌||◌, ◌≢◌}
use Rattle.hci_store.proofs.Words.{AreMade, Bool, HciTables, IsTrue, List, Says, State, [], ap, are_commands, arith, close, count, count_of, false}
use Rattle.hci_store.proofs.Words.{is_opened_gate, journal, migration_writes, nat_tests, option_map_or, records, start_writes}
use Rattle.hci_store.proofs.Words.{started_state, subst, sym, tables_of, true, ℕ, ◌++◌, ◌==◌, ◌∙◌, ◌≡◌}
use Rattle.journal_laws.specs.declared.banks.Side.{Side}
use Rattle.journal_laws.specs.Banks.{current, head, other}
use Rattle.journal_laws.specs.Journal.{journal_at, state_by, state_of, unformatted}
use Rattle.hci_store.specs.Starting.{migrated, ready_state, ready_writes}
use Rattle.hci_store.specs.Refusals.{IsSpent}
use Rattle.hci_store.proofs.Committed.{sound_has_no_fault}

-- a bank that isn't of version 02 was not formatted just now
was_used : (s : State) → (started_state s).version ≢ 2 → (started_state s ≡ s) × (start_writes s ≡ [])
was_used s older = grind arith

-- so nothing was written of it
pub untouched : {M : Type 0} (writes : M → ℕ → List ℕ → Bool → M → Type 0) (s j : State) (old new : M) → j ≡ started_state s → j.version ≢ 2
    → AreMade writes (start_writes s) old true new → new ≡ old
untouched writes s j old new is older made = grind arith

first_version : (v : ℕ) → IsTrue (v == 1 || v == 2) → v ≢ 2 → v ≡ 1
first_version v known older = grind (arith, nat_tests)

-- the state of a memory, by the bank in use
abbrev state_in : List ℕ → Option Side → State
state_in content o =
    state_by o (option_map_or (journal_at content) o unformatted) (option_map_or (λ side. is_opened_gate (head content (other side)).gate) o false)

module _ (content : List ℕ) (s j : State) (says : Says content s) (is : j ≡ started_state s) where
  pub counted : count_of j ≡ count content
  counted = ap count_of is ∙ ap (λ t. count_of (started_state t)) (sym says.state_is) ∙ by_bank (current content)
    where
      by_bank : (o : Option Side) → count_of (started_state (state_in content o)) ≡ count_of (state_in content o)
      by_bank x0 = grind arith

  pub not_written : {M : Type 0} (writes : M → ℕ → List ℕ → Bool → M → Type 0) (old new : M) → j.version ≢ 2
      → AreMade writes (start_writes s) old true new → new ≡ old
  not_written writes old new older made = untouched writes s j old new is older made

  pub spent : (new : List ℕ) → j.version ≢ 2 → j.generation ≡ 4294967295 → are_commands (records content) ≡ true → new ≡ content → IsSpent content new
  spent new older last all same =
      let used = (was_used s (subst (λ (t : State). t.version ≢ 2) is older)).0 in
      let now = says.state_is ∙ sym (is ∙ used) in
      record {
        version = first_version (journal content).head.version says.sound.known (λ two. older (sym (ap (λ (t : State). t.version) now) ∙ two));
        generation = ap (λ (t : State). t.generation) now ∙ last;
        sound = sound_has_no_fault content all says.sound;
        kept = same;
      }

  pub unspent : (j.version ≢ 2 → j.generation ≢ 4294967295) → (journal content).head.version ≡ 1 → (journal content).head.generation ≢ 4294967295
  unspent left first last =
      let now = is ∙ ap started_state (sym says.state_is) ∙ by_bank (current content) first in
      left (λ two. one_is_not_two j.version (ap (λ (t : State). t.version) now ∙ first) two) (ap (λ (t : State). t.generation) now ∙ last)
    where
      one_is_not_two : (n : ℕ) → n ≡ 1 → n ≡ 2 → ⊥
      one_is_not_two n e f = omega (arith, e, f)

      by_bank : (o : Option Side) → (state_in content o).version ≡ 1 → started_state (state_in content o) ≡ state_in content o
      by_bank x0 e = grind arith

  now_is : j ≡ started_state (state_of content)
  now_is = is ∙ ap started_state (sym says.state_is)

  pub ready_written : (t : HciTables) → t ≡ close (tables_of content) → start_writes s ++ migration_writes j t ≡ ready_writes content
  ready_written t same =
      ap (λ r. start_writes r ++ migration_writes j t) (sym says.state_is)
      ∙ (ap (λ r. start_writes (state_of content) ++ migration_writes r t) now_is
      ∙ ap (λ r. start_writes (state_of content) ++ migration_writes (started_state (state_of content)) r) same)

  pub ready_stands : (t : HciTables) → t ≡ close (tables_of content) → migrated j t ≡ ready_state content
  ready_stands t same = ap (λ r. migrated r t) now_is ∙ ap (migrated (started_state (state_of content))) same
