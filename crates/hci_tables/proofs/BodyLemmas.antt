-- What the bytes of a body spell is written as the same bytes.
use Rattle.std.proofs.Common.{◌≡◌, ℕ, suc, ◌+◌, ◌*◌, ◌/◌, ◌%◌, ◌<◌, true, false, cond, eqb, leb, List, [], ◌∷◌, length, Some, None, get_or, refl, sym, subst}
use Rattle.std.proofs.Common.{ap, ◌∙◌, arith}
use Rattle.std.proofs.lemmas.Bool.{cond_both, eqb-true}
use Rattle.std.specs.Prelude.{Option, IfSome}
use Rattle.pipe_table.specs.declared.row.PipeRow.{PipeRow}
use Rattle.hci_tables.specs.declared.command.Command.{Command}
use Rattle.hci_tables.specs.declared.command.Command.TheVariants.{Create, Delete, Clear, SetOpened, Set, Sync}
use Rattle.hci_tables.specs.Commands.{is_command, IsCommand}
use Rattle.hci_tables.specs.Bodies.{body_of, create_of, delete_of, clear_of, opened_of, set_of, sync_in_body, spelled_by, if_command, command_of}

-- the bytes behind a kind are those of the command's body
abbrev Spells : ℕ → List ℕ → Command → Type 0
Spells kind fields command = body_of command ≡ kind ∷ fields

create_case : (fields : List ℕ) (command : Command) → create_of fields ≡ Some command → Spells 1 fields command
create_case (pid ∷ creator ∷ creator_gate ∷ dest ∷ dest_gate ∷ []) command e =
    let row : PipeRow = record { pid = pid; creator = creator; creator_gate = creator_gate; dest = dest; dest_gate = dest_gate; opened = false } in
    let same : Create row ≡ command = cc in
    subst (Spells 1 (pid ∷ creator ∷ creator_gate ∷ dest ∷ dest_gate ∷ [])) same refl
create_case fields command e = cc

delete_case : (fields : List ℕ) (command : Command) → delete_of fields ≡ Some command → Spells 2 fields command
delete_case (pid ∷ []) command e = let same : Delete pid ≡ command = cc in subst (Spells 2 (pid ∷ [])) same refl
delete_case fields command e = cc

clear_case : (fields : List ℕ) (command : Command) → clear_of fields ≡ Some command → Spells 3 fields command
clear_case (host ∷ []) command e = let same : Clear host ≡ command = cc in subst (Spells 3 (host ∷ [])) same refl
clear_case fields command e = cc

opened_case : (fields : List ℕ) (command : Command) → opened_of fields ≡ Some command → Spells 4 fields command
opened_case (host ∷ pid ∷ flag ∷ []) command e =
    let P : Option Command → Type 0 = λ o. o ≡ Some command → Spells 4 (host ∷ pid ∷ flag ∷ []) command in
    cond_both (eqb flag 0) (Some (SetOpened host pid false)) (cond (eqb flag 1) (Some (SetOpened host pid true)) None) P
    (λ zero. λ e. let same : SetOpened host pid false ≡ command = cc in
    subst (Spells 4 (host ∷ pid ∷ flag ∷ [])) same (ap (λ f. 4 ∷ host ∷ pid ∷ f ∷ []) (sym (eqb-true flag 0 zero))))
    (λ other. cond_both (eqb flag 1) (Some (SetOpened host pid true)) None P
    (λ one. λ e. let same : SetOpened host pid true ≡ command = cc in
    subst (Spells 4 (host ∷ pid ∷ flag ∷ [])) same (ap (λ f. 4 ∷ host ∷ pid ∷ f ∷ []) (sym (eqb-true flag 1 one))))
    (λ none. λ e. cc)) e
opened_case fields command e = cc

set_case : (fields : List ℕ) (command : Command) → set_of fields ≡ Some command → Spells 5 fields command
set_case (host ∷ gate ∷ param ∷ value) command e =
    let P : Option Command → Type 0 = λ o. o ≡ Some command → Spells 5 (host ∷ gate ∷ param ∷ value) command in
    cond_both (leb (length value) 20) (Some (Set host gate param (record { items = value }))) None P
    (λ few. λ e. let same : Set host gate param (record { items = value }) ≡ command = cc in
    subst (Spells 5 (host ∷ gate ∷ param ∷ value)) same refl)
    (λ many. λ e. cc) e
set_case fields command e = cc

sync_case : (fields : List ℕ) (command : Command) → ((k : ℕ) → get_or fields k 0 < 256) → sync_in_body fields ≡ Some command → Spells 6 fields command
sync_case (host ∷ high ∷ low ∷ []) command bytes e =
    let same : Sync host (high * 256 + low) ≡ command = cc in
    let below : low < 256 = bytes 2 in
    let upper : (high * 256 + low) / 256 ≡ high = omega arith in
    let lower : (high * 256 + low) % 256 ≡ low = omega arith in
    subst (Spells 6 (host ∷ high ∷ low ∷ [])) same (ap (λ h. 6 ∷ host ∷ h ∷ ((high * 256 + low) % 256) ∷ []) upper ∙ ap (λ l. 6 ∷ host ∷ high ∷ l ∷ []) lower)
sync_case fields command bytes e = cc

at_kind : (kind n : ℕ) (fields : List ℕ) (command : Command) → kind ≡ n → Spells n fields command → Spells kind fields command
at_kind kind n fields command is spells = spells ∙ ap (λ k. k ∷ fields) (sym is)

pub body_of-spelled : (body : List ℕ) (command : Command) → ((k : ℕ) → get_or body k 0 < 256) → spelled_by body ≡ Some command → body_of command ≡ body
body_of-spelled [] command bytes e = cc
body_of-spelled (kind ∷ fields) command bytes e =
    let P : Option Command → Type 0 = λ o. o ≡ Some command → Spells kind fields command in
    let rest : (k : ℕ) → get_or fields k 0 < 256 = λ k. bytes (suc k) in
    cond_both (eqb kind 1) (create_of fields) _ P (λ yes. λ e. at_kind kind 1 fields command (eqb-true kind 1 yes) (create_case fields command e))
    (λ no. cond_both (eqb kind 2) (delete_of fields) _ P (λ yes. λ e. at_kind kind 2 fields command (eqb-true kind 2 yes) (delete_case fields command e))
    (λ no. cond_both (eqb kind 3) (clear_of fields) _ P (λ yes. λ e. at_kind kind 3 fields command (eqb-true kind 3 yes) (clear_case fields command e))
    (λ no. cond_both (eqb kind 4) (opened_of fields) _ P (λ yes. λ e. at_kind kind 4 fields command (eqb-true kind 4 yes) (opened_case fields command e))
    (λ no. cond_both (eqb kind 5) (set_of fields) _ P (λ yes. λ e. at_kind kind 5 fields command (eqb-true kind 5 yes) (set_case fields command e))
    (λ no. cond_both (eqb kind 6) (sync_in_body fields) None P
    (λ yes. λ e. at_kind kind 6 fields command (eqb-true kind 6 yes) (sync_case fields command rest e))
    (λ no. λ e. cc)))))) e

-- a command that is taken was spelled, and may be recorded
was_spelled : (o : Option Command) (command : Command) → if_command o ≡ Some command → o ≡ Some command
was_spelled None command e = cc
was_spelled (Some other) command e =
    let P : Option Command → Type 0 = λ r. r ≡ Some command → Some other ≡ Some command in
    cond_both (is_command other) (Some other) None P (λ yes. λ e. e) (λ no. λ e. cc) e

pub recordable_if : (o r : Option Command) → r ≡ if_command o → IfSome r IsCommand
recordable_if o None e = tt
recordable_if None (Some command) e = cc
recordable_if (Some other) (Some command) e =
    let P : Option Command → Type 0 = λ r. Some command ≡ r → IsCommand command in
    cond_both (is_command other) (Some other) None P
    (λ yes. λ e. let same : other ≡ command = cc in subst IsCommand same yes)
    (λ no. λ e. cc) e

pub written_if : (body : List ℕ) (r : Option Command) → ((k : ℕ) → get_or body k 0 < 256) → r ≡ command_of body
    → IfSome r (λ command. body_of command ≡ body)
written_if body None bytes e = tt
written_if body (Some command) bytes e = body_of-spelled body command bytes (was_spelled (spelled_by body) command (sym e))
