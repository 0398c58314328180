-- A creation that no test refuses may be recorded.
use Rattle.std.proofs.Common.{◌≡◌, ℕ, ◌<◌, ◌≤◌, Bool, true, false, cond, not, eqb, leb, ltb, ◌&&◌, List, [], ◌∷◌, refl, sym, ap, inl, inr, arith}
use Rattle.std.specs.Prelude.{Option, Some, None, IfSome, IsTrue, is_none, unwrap_or}
use Rattle.std.proofs.lemmas.Bool.{and_from, and_parts, and_cases, not-false, le-leb, lt-ltb, eqb-true, eqb-false, ne_eqb, true≢false}
use Rattle.std.specs.List.{find}
use Rattle.std.specs.Option.{option_map}
use Rattle.pipe_table.specs.PipeRows.{lowest_free}
use Rattle.pipe_table.proofs.FreeLemmas.{lowest_free-within}
use Rattle.hci_tables.specs.declared.command.Command.TheVariants.{Create}
use Rattle.hci_tables.specs.Commands.{is_command, is_dynamic, is_host}
use Rattle.hci_tables.specs.Tables.{HciTables}
use Rattle.gate_answers.specs.declared.response.Response.{Response}
use Rattle.gate_answers.specs.Answers.{first_of}
use Rattle.gate_admin.specs.declared.view.LinkView.{LinkView}
use Rattle.gate_admin.specs.View.{is_configured}
use Rattle.gate_admin.specs.Decide.{tests_to_create, created, dest_in}

unfoldable pub AllFalse : List (Bool × Response) → Type 0
AllFalse [] = Unit {0}
AllFalse (test ∷ tests) = (test.0 ≡ false) × AllFalse tests

-- where no test holds
passed_one : (b : Bool) (test : Bool × Response) (found : Option (Bool × Response))
    → option_map (λ (t : Bool × Response). t.1) (cond b (Some test) found) ≡ None
    → (b ≡ false) × (option_map (λ (t : Bool × Response). t.1) found ≡ None)
passed_one true test found e = absurd (cc e)
passed_one false test found e = (refl, e)

pub all_false : (tests : List (Bool × Response)) → first_of tests ≡ None → AllFalse tests
unfolding AllFalse
all_false [] e = tt
all_false (test ∷ tests) e =
    let one = passed_one test.0 test (find (λ t. t.0) tests) e in
    (one.0, all_false tests one.1)

free_is_dynamic : (free : Option ℕ) → IfSome free (λ p. (2 ≤ p) × (p < 112)) → is_none free ≡ false → IsTrue (is_dynamic (unwrap_or free 0))
free_is_dynamic None h e = absurd (true≢false e)
free_is_dynamic (Some p) h e = and_from (leb 2 p) (ltb p 112) (le-leb 2 p h.0) (lt-ltb p 112 h.1)

dest_is_host : (v : LinkView) (dest : ℕ) → (not (eqb dest 0) && not (is_configured v dest)) ≡ false → IsTrue (is_host dest)
dest_is_host v dest passed =
    elim (and_cases (not (eqb dest 0)) (not (is_configured v dest)) passed) [
      | inl controller ↦ let is = eqb-true dest 0 (not-false (eqb dest 0) controller) in le-leb dest 7 (omega arith)
      | inr configured ↦
          (and_parts (leb 1 dest) (leb dest 7) (and_parts (leb 1 dest && leb dest 7) _ (not-false (is_configured v dest) configured)).0).1
    ]

pub creation-recordable : (t : HciTables) (v : LinkView) (host : ℕ) (body : List ℕ) → host ≤ 7 → first_of (tests_to_create t v host body) ≡ None
    → IsTrue (is_command (Create (created host body (unwrap_or (lowest_free t.rows v.waiting.items) 0))))
unfolding AllFalse
creation-recordable t v host body small passed =
    let none = all_false (tests_to_create t v host body) passed in
    let free = lowest_free t.rows v.waiting.items in
    let dest = dest_in body in
    let pid = free_is_dynamic free (lowest_free-within t.rows v.waiting.items) none.1.1.1.1.1.1.1.0 in
    and_from (is_dynamic (unwrap_or free 0) && is_host host && is_host dest && not (eqb host dest)) true
    (and_from (is_dynamic (unwrap_or free 0) && is_host host && is_host dest) (not (eqb host dest))
    (and_from (is_dynamic (unwrap_or free 0) && is_host host) (is_host dest)
    (and_from (is_dynamic (unwrap_or free 0)) (is_host host) pid (le-leb host 7 small))
    (dest_is_host v dest none.1.0))
    (ap not (ne_eqb host dest (λ same. eqb-false dest host none.1.1.0 (sym same)))))
    refl
