-- What holds of each decision holds of what is decided.
use Rattle.std.specs.Prelude.{is_none, unwrap_or}
use Rattle.std.proofs.lemmas.Bool.{and_cases, eqb-false, not-false, not-true, true≢false}
use Rattle.tables_laws.proofs.Words.{Ask, Bool, Clear, Create, Delete, HciTables, IfSome, IsLeastFree, IsTrue, LinkView, List, None, Option, PipeRow, Set}
use Rattle.tables_laws.proofs.Words.{SetOpened, Some, [], and_from, and_parts, ap, cond, cond_both, decided, eqb, eqb-true, false, false≢true, filter, inl, inr}
use Rattle.tables_laws.proofs.Words.{is_free, is_opened, list_all, ne_eqb, not, not_from_false, option_and_then, option_map_or, pipe_at, range_with_len, refl}
use Rattle.tables_laws.proofs.Words.{sym, true, ℕ, ◌&&◌, ◌∙◌, ◌∷◌, ◌≡◌}
use Rattle.pipe_table.specs.PipeRows.{lowest_free}
use Rattle.gate_answers.specs.declared.response.Response.{Response}
use Rattle.gate_answers.specs.declared.response.Response.TheVariants as response
use Rattle.gate_answers.specs.Answers.{answer_of, first_of, tests_to_get, param_in, value_in}
use Rattle.gate_admin.specs.declared.decision.Decision.{Decision}
use Rattle.gate_admin.specs.View.{is_connected, hosts_where}
use Rattle.gate_admin.specs.Decide.{answers, commits, unless_refused, tests_of_pipe, tests_to_open, tests_to_set_it, tests_to_create, tests_to_delete}
use Rattle.gate_admin.specs.Decide.{carried_out, clearing, closing, created, creating, creation, deleting, getting, opening, setting, tests_to_clear, dest_in}
use Rattle.gate_admin.specs.Decide.{allows, told_of_deletion, told_of_clearing, shares, far_end_of, value_of, others_opened, ends_of, commits_and_tells}
use Rattle.gate_admin.proofs.CreationLemmas.{AllFalse, all_false}
use Rattle.tables_laws.specs.gate.Rules.{AreOthers, AsksAsAllowed, TellsOthers}
use Rattle.tables_laws.proofs.gate.FreePipes.{lowest_free-least}

-- what holds of an answer alone, and of what is done where no test holds, holds of both
pub unless : (P : Decision → Type 0) (refusal : Option Response) (otherwise : Decision) → ((r : Response) → P (answers r []))
    → (refusal ≡ None → P otherwise) → P (unless_refused refusal otherwise)
unless P (Some r) otherwise refused done = refused r
unless P None otherwise refused done = done refl

-- the pipe that a host asks for
abbrev pub new_row : HciTables → LinkView → ℕ → List ℕ → PipeRow
new_row t v host body = created host body (unwrap_or (lowest_free t.rows v.waiting.items) 0)

module _ (P : Decision → Type 0) (t : HciTables) (v : LinkView) (host pipe : ℕ) (body : List ℕ) where
  abbrev row : PipeRow
  row = new_row t v host body

  -- it holds of what each command does where no test of it holds
  pub record DecisionCases : Type 0 where
    pub opens : P (commits (SetOpened host pipe true) (others_opened t host pipe ∷ []))
    pub closes : P (commits (SetOpened host pipe false) [])
    pub sets : first_of (tests_to_set_it v host body) ≡ None → P (commits (Set host 0 (param_in body) (record { items = value_in body })) [])
    pub makes : first_of (tests_to_create t v host body) ≡ None → eqb (dest_in body) 0 ≡ true → P (commits (Create row) (ends_of row))
    pub asks : first_of (tests_to_create t v host body) ≡ None → eqb (dest_in body) 0 ≡ false
        → P (Ask (dest_in body) (record { items = 18 ∷ ends_of row }) (Create row) (record { items = answer_of response.Ok (ends_of row) }))
    pub deletes : first_of (tests_to_delete t v host body) ≡ None
        → P (commits_and_tells (Delete (param_in body)) (told_of_deletion t v host (param_in body)) (19 ∷ param_in body ∷ []))
    pub clears : first_of (tests_to_clear t v host body) ≡ None
        → P (commits_and_tells (Clear host) (told_of_clearing t v host) (21 ∷ host ∷ []))

  -- what holds of an answer alone and, where no test of the pipe holds, of each case of a command holds of what is decided
  pub decided_holds : (instruction : ℕ) → ((r : Response) (value : List ℕ) → P (answers r value))
      → (first_of (tests_of_pipe t host pipe instruction) ≡ None → DecisionCases) → P (decided t v host pipe instruction body)
  decided_holds instruction answered cases =
      unless P (first_of (tests_of_pipe t host pipe instruction)) (carried_out t v host pipe instruction body) refused (λ tested. by (cases tested))
    where
      refused : (r : Response) → P (answers r [])
      refused r = answered r []

      creates : DecisionCases → first_of (tests_to_create t v host body) ≡ None → P (creation row)
      creates c passed = cond_both (eqb (dest_in body) 0) (commits (Create row) _) _ P (c.makes passed) (c.asks passed)

      by : DecisionCases → P (carried_out t v host pipe instruction body)
      by c =
          cond_both (eqb instruction 3) (opening t host pipe body) _ P
          (λ _. unless P (first_of (tests_to_open body)) _ refused
          (λ _. cond_both (is_opened t host pipe) _ _ P (λ _. answered response.Ok (others_opened t host pipe ∷ [])) (λ _. c.opens)))
          (λ _. cond_both (eqb instruction 4) (closing host pipe body) _ P (λ _. unless P (first_of (tests_to_open body)) _ refused (λ _. c.closes))
          (λ _. cond_both (eqb instruction 1) (setting v host body) _ P (λ _. unless P (first_of (tests_to_set_it v host body)) _ refused c.sets)
          (λ _. cond_both (eqb instruction 2) (getting t v host body) _ P
          (λ _. unless P (first_of (tests_to_get 0 body)) _ refused (λ _. answered response.Ok (value_of t v host (param_in body))))
          (λ _. cond_both (eqb instruction 16) (creating t v host body) _ P
          (λ _. unless P (first_of (tests_to_create t v host body)) (creation row) refused (creates c))
          (λ _. cond_both (eqb instruction 17) (deleting t v host body) _ P
          (λ _. unless P (first_of (tests_to_delete t v host body)) _ refused c.deletes)
          (λ _. cond_both (eqb instruction 20) (clearing t v host body) _ P
          (λ _. unless P (first_of (tests_to_clear t v host body)) _ refused c.clears)
          (λ _. answered response.CommandNotSupported [])))))))

free_of : (rows : List PipeRow) (kept : List ℕ) (free : Option ℕ) → IfSome free (IsLeastFree rows kept) → is_none free ≡ false
    → IsTrue (is_free rows kept (unwrap_or free 0))
free_of rows kept None h e = absurd (true≢false e)
free_of rows kept (Some p) h e = h.free

-- of two tests of which both don't hold together, the second where the first one does
second : (a b : Bool) → a ≡ true → (a && not b) ≡ false → b ≡ true
second a b first failed = elim (and_cases a (not b) failed) [ inl not_a ↦ absurd (false≢true (sym not_a ∙ first)) | inr not_b ↦ not-false b not_b ]

pub decided_as_allowed : (t : HciTables) (v : LinkView) (host pipe instruction : ℕ) (body : List ℕ)
    → AsksAsAllowed t v host (decided t v host pipe instruction body)
unfolding AllFalse
decided_as_allowed t v host pipe instruction body =
    decided_holds (AsksAsAllowed t v host) t v host pipe body instruction (λ r value. tt) (λ _. record {
      opens = tt;
      closes = tt;
      sets = λ _. tt;
      makes = λ _ controller. eqb-true (dest_in body) 0 controller;
      asks = λ passed other.
          let none = all_false (tests_to_create t v host body) passed in
          let another = not_from_false (eqb (dest_in body) 0) other in
          record {
            creator = refl;
            asked = refl;
            allowed = second (not (eqb (dest_in body) 0)) (allows t (dest_in body) host) another none.1.1.1.1.1.0;
            connected = second (not (eqb (dest_in body) 0)) (is_connected v (dest_in body)) another none.1.1.1.1.0;
            free = free_of t.rows v.waiting.items (lowest_free t.rows v.waiting.items) (lowest_free-least t.rows v.waiting.items) none.1.1.1.1.1.1.1.0;
          };
      deletes = λ _. tt;
      clears = λ _. tt;
    })

-- each of the hosts is connected and isn't the sender
abbrev AllOthers : LinkView → ℕ → List ℕ → Type 0
AllOthers v host told = list_all (λ other. is_connected v other && not (eqb other host)) told ≡ true

all_implied : (p q : ℕ → Bool) → ((x : ℕ) → q x ≡ true → p x ≡ true) → (xs : List ℕ) → list_all p (filter q xs) ≡ true
all_implied p q implies [] = refl
all_implied p q implies (x ∷ xs) =
    let rest = all_implied p q implies xs in
    cond_both (q x) (x ∷ filter q xs) (filter q xs) (λ ys. list_all p ys ≡ true)
    (λ passed. and_from (p x) (list_all p (filter q xs)) (implies x passed) rest) (λ failed. rest)

sharing_others : (t : HciTables) (v : LinkView) (host : ℕ) → AllOthers v host (told_of_clearing t v host)
unfolding hosts_where
sharing_others t v host =
    all_implied (λ other. is_connected v other && not (eqb other host)) (shares t v host)
    (λ other shared. (and_parts (is_connected v other && not (eqb other host)) _ shared).0) (range_with_len 1 7)

-- the row of a pipe joins two hosts where all rows do
pub joins_two : (rows : List PipeRow) (pid : ℕ) (row : PipeRow) → list_all (λ r. not (eqb r.creator r.dest)) rows ≡ true → pipe_at rows pid ≡ Some row
    → eqb row.creator row.dest ≡ false
joins_two [] pid row all e = absurd (cc e)
joins_two (r ∷ rows) pid row all e =
    let parts = and_parts (not (eqb r.creator r.dest)) (list_all (λ r. not (eqb r.creator r.dest)) rows) all in
    cond_both (eqb r.pid pid) (Some r) (pipe_at rows pid) (λ o. o ≡ Some row → eqb row.creator row.dest ≡ false)
    (λ same is. let r_is : r ≡ row = cc in ap (λ x. eqb x.creator x.dest) (sym r_is) ∙ not-true (eqb r.creator r.dest) parts.0)
    (λ other found. joins_two rows pid row parts.1 found) e

one_other : (v : LinkView) (host : ℕ) (end : ℕ × ℕ) → eqb end.0 host ≡ false → AllOthers v host (cond (is_connected v end.0) (end.0 ∷ []) [])
one_other v host end other =
    cond_both (is_connected v end.0) (end.0 ∷ []) [] (AllOthers v host)
    (λ there. and_from (is_connected v end.0 && not (eqb end.0 host)) true
    (and_from (is_connected v end.0) (not (eqb end.0 host)) there (not_from_false (eqb end.0 host) other)) refl)
    (λ gone. refl)

far_other : (v : LinkView) (host : ℕ) (row : PipeRow) → eqb row.creator row.dest ≡ false
    → AllOthers v host (option_map_or (λ (end : ℕ × ℕ). cond (is_connected v end.0) (end.0 ∷ []) []) (far_end_of host row) [])
far_other v host row apart =
    cond_both (eqb row.creator host) (Some (row.dest, row.dest_gate)) (cond (eqb row.dest host) (Some (row.creator, row.creator_gate)) None)
    (λ o. AllOthers v host (option_map_or (λ (end : ℕ × ℕ). cond (is_connected v end.0) (end.0 ∷ []) []) o []))
    (λ own. one_other v host (row.dest, row.dest_gate)
    (ne_eqb row.dest host (λ same. eqb-false row.creator row.dest apart (eqb-true row.creator host own ∙ sym same))))
    (λ stranger. cond_both (eqb row.dest host) (Some (row.creator, row.creator_gate)) None
    (λ o. AllOthers v host (option_map_or (λ (end : ℕ × ℕ). cond (is_connected v end.0) (end.0 ∷ []) []) o []))
    (λ here. one_other v host (row.creator, row.creator_gate) stranger) (λ none. refl))

told_other : (v : LinkView) (host pid : ℕ) (rows : List PipeRow) (o : Option PipeRow) → list_all (λ r. not (eqb r.creator r.dest)) rows ≡ true
    → pipe_at rows pid ≡ o
    → AllOthers v host (option_map_or (λ (end : ℕ × ℕ). cond (is_connected v end.0) (end.0 ∷ []) []) (option_and_then (far_end_of host) o) [])
told_other v host pid rows None all is = refl
told_other v host pid rows (Some row) all is = far_other v host row (joins_two rows pid row all is)

pub decided_tells_others : (t : HciTables) (v : LinkView) (host pipe instruction : ℕ) (body : List ℕ)
    → IsTrue (list_all (λ row. not (eqb row.creator row.dest)) t.rows) → TellsOthers v host (decided t v host pipe instruction body)
decided_tells_others t v host pipe instruction body two =
    let nobody : AreOthers v host 0 = ([], refl, refl) in
    decided_holds (TellsOthers v host) t v host pipe body instruction (λ r value. tt) (λ _. record {
      opens = nobody;
      closes = nobody;
      sets = λ _. nobody;
      makes = λ _ controller. nobody;
      asks = λ _ other. tt;
      deletes = λ _.
          (told_of_deletion t v host (param_in body), refl, told_other v host (param_in body) t.rows (pipe_at t.rows (param_in body)) two refl);
      clears = λ _. (told_of_clearing t v host, refl, sharing_others t v host);
    })
