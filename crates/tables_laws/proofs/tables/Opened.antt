-- What is opened behind a command was opened before, or the command opened it.
use Rattle.std.specs.List.{list_any}
use Rattle.std.proofs.lemmas.List.Folds.{list_any-append}
use Rattle.std.proofs.lemmas.Bool.{cases_Bool, le-ltb, ltb-false, or_left, or_right}
use Rattle.tables_laws.proofs.Words.{AllByRecursion, AreTables, Bool, Clear, Command, Create, Delete, HciTables, IsCommand, IsTrue, List, None, Option, PipeRow}
use Rattle.tables_laws.proofs.Words.{Set, SetOpened, Some, Sync, [], after_commands, all_closed, and_from, and_parts, apply, as_opened, close, cond, cond-false}
use Rattle.tables_laws.proofs.Words.{cond-true, cond_both, eq-eqb, eqb, eqb-true, false, false≢true, filter, inl, inr, is_opened, joins_host, ltb, not}
use Rattle.tables_laws.proofs.Words.{not_from_false, option_and_then, option_map, option_map_or, or_cases, pid_of, pipe_at, refl, row_of-with_row}
use Rattle.tables_laws.proofs.Words.{row_of-without_row, rows_before, rows_behind, static_place, subst, sym, true, with_opened, with_static, ℕ, ◌&&◌, ◌||◌, ◌∙◌}
use Rattle.tables_laws.proofs.Words.{◌∷◌, ◌≡◌, ◌≤◌, ◌⊎◌}
use Rattle.tables_laws.specs.tables.Changes.{opens}
use Rattle.tables_laws.proofs.tables.LookUps.{row_of-map, row_of-filter, found_is, if_passes}
use Rattle.tables_laws.proofs.tables.SortedTables.{AreTables-apply, AreTables-close}

-- whether a static pipe is opened, and a dynamic one
abbrev is_static : ℕ → ℕ → ℕ × ℕ → Bool
is_static host pid s = eqb s.0 host && eqb s.1 pid

abbrev static_opened : List (ℕ × ℕ) → ℕ → ℕ → Bool
static_opened statics host pid = list_any (is_static host pid) statics

abbrev dynamic_opened : List PipeRow → ℕ → Bool
dynamic_opened rows pid = option_map_or (λ (row : PipeRow). row.opened) (pipe_at rows pid) false

abbrev Opened : Option PipeRow → Type 0
Opened o = option_map_or (λ (row : PipeRow). row.opened) o false ≡ true

-- a row that some of the filtered rows are is one of all rows
filtered_any : {X : Type 0} (test passes : X → Bool) (rows : List X) → list_any test (filter passes rows) ≡ true → list_any test rows ≡ true
filtered_any {X} test passes [] e = e
filtered_any {X} test passes (row ∷ rows) e =
    cond_both (passes row) (row ∷ filter passes rows) (filter passes rows) (λ kept. list_any test kept ≡ true → (test row || list_any test rows) ≡ true)
    (λ yes here. elim (or_cases (test row) (list_any test (filter passes rows)) here) [
      | inl first ↦ or_left (test row) (list_any test rows) first
      | inr later ↦ or_right (test row) (list_any test rows) (filtered_any test passes rows later)
    ])
    (λ no later. or_right (test row) (list_any test rows) (filtered_any test passes rows later)) e

filtered_row : (test : PipeRow → Bool) (o : Option PipeRow) → Opened (option_and_then (if_passes test) o) → Opened o
filtered_row test None e = absurd (false≢true e)
filtered_row test (Some row) e =
    cond_both (test row) (Some row) None (λ o. Opened o → row.opened ≡ true) (λ yes opened. opened) (λ no closed. absurd (false≢true closed)) e

-- a static pipe behind an opening or closing of one
static_step : (statics : List (ℕ × ℕ)) (h p : ℕ) (opened : Bool) (host pid : ℕ) → static_opened (with_static statics h p opened) host pid ≡ true
    → (static_opened statics host pid ≡ true) ⊎ (opens host pid (SetOpened h p opened) ≡ true)
static_step statics h p true host pid e =
    let place = static_place (h, p) in
    let before = rows_before static_place place statics in
    let behind = rows_behind static_place place statics in
    elim (or_cases (static_opened before host pid) (static_opened ((h, p) ∷ behind) host pid)
    (sym (list_any-append (is_static host pid) before ((h, p) ∷ behind)) ∙ e)) [
      | inl front ↦ inl (filtered_any (is_static host pid) (λ s. ltb (static_place s) place) statics front)
      | inr here ↦ elim (or_cases (is_static host pid (h, p)) (static_opened behind host pid) here) [
        | inl this ↦
            let both = and_parts (eqb h host) (eqb p pid) this in
            inr (and_from (eqb p pid) (eqb h host || not (ltb pid 2)) both.1 (or_left (eqb h host) (not (ltb pid 2)) both.0))
        | inr back ↦ inl (filtered_any (is_static host pid) (λ s. ltb place (static_place s)) statics back)
      ]
    ]
static_step statics h p false host pid e = inl (filtered_any (is_static host pid) (λ s. not (eqb (static_place s) (static_place (h, p)))) statics e)

nothing_of : (rows : List PipeRow) → AllByRecursion (λ _. Unit {0}) rows
nothing_of [] = tt
nothing_of (row ∷ rows) = (tt, nothing_of rows)

-- a dynamic pipe behind an opening or closing of one
dynamic_step : (p : ℕ) (opened : Bool) (pid : ℕ) (o : Option PipeRow) → ((row : PipeRow) → o ≡ Some row → row.pid ≡ pid)
    → Opened (option_map (λ row. cond (eqb row.pid p) (as_opened opened row) row) o) → Opened o ⊎ ((opened && eqb p pid) ≡ true)
dynamic_step p opened pid None key e = absurd (false≢true e)
dynamic_step p opened pid (Some row) key e =
    cond_both (eqb row.pid p) (as_opened opened row) row (λ r. r.opened ≡ true → (row.opened ≡ true) ⊎ ((opened && eqb p pid) ≡ true))
    (λ same yes. let here = eqb-true row.pid p same in inr (and_from opened (eqb p pid) yes (eq-eqb p pid (sym here ∙ key row refl))))
    (λ other yes. inl yes) e

opened_static : (t : HciTables) (command : Command) (host pid : ℕ)
    → static_opened (apply t command).statics host pid ≡ true → (static_opened t.statics host pid ≡ true) ⊎ (opens host pid command ≡ true)
opened_static t (Create row) host pid e = inl e
opened_static t (Delete gone) host pid e = inl e
opened_static t (Clear gone) host pid e = inl (filtered_any (is_static host pid) (λ s. not (eqb s.0 gone)) t.statics e)
opened_static t (SetOpened other p opened) host pid e =
    cond_both (ltb p 2) (record t { statics = with_static t.statics other p opened }) (record t { rows = with_opened t.rows p opened })
    (λ u. static_opened u.statics host pid ≡ true → (static_opened t.statics host pid ≡ true) ⊎ (opens host pid (SetOpened other p opened) ≡ true))
    (λ static. static_step t.statics other p opened host pid)
    (λ dynamic. λ before. inl before) e
opened_static t (Set other gate param value) host pid e = inl e
opened_static t (Sync other id) host pid e = inl e

opened_dynamic : (t : HciTables) (command : Command) (host pid : ℕ) → 2 ≤ pid → AreTables t → IsCommand command
    → dynamic_opened (apply t command).rows pid ≡ true → (dynamic_opened t.rows pid ≡ true) ⊎ (opens host pid command ≡ true)
opened_dynamic t (Create row) host pid from h may e =
    cond_both (eqb row.pid pid) (Some (as_opened false row)) (pipe_at t.rows pid) (λ o. Opened o → (dynamic_opened t.rows pid ≡ true) ⊎ (false ≡ true))
    (λ same closed. inr closed)
    (λ other before. inl before)
    (subst Opened (row_of-with_row pid_of (as_opened false row) t.rows pid) e)
opened_dynamic t (Delete gone) host pid from h may e =
    cond_both (eqb gone pid) None (pipe_at t.rows pid) (λ o. Opened o → (dynamic_opened t.rows pid ≡ true) ⊎ (false ≡ true))
    (λ same closed. inr closed)
    (λ other before. inl before)
    (subst Opened (row_of-without_row pid_of gone t.rows pid) e)
opened_dynamic t (Clear gone) host pid from h may e =
    inl (filtered_row (λ row. not (joins_host row gone)) (pipe_at t.rows pid)
    (subst Opened (row_of-filter pid_of 2 112 (λ row. not (joins_host row gone)) pid t.rows h.rows) e))
opened_dynamic t (SetOpened other p opened) host pid from h may e =
    cond_both (ltb p 2) (record t { statics = with_static t.statics other p opened }) (record t { rows = with_opened t.rows p opened })
    (λ u. dynamic_opened u.rows pid ≡ true → (dynamic_opened t.rows pid ≡ true) ⊎ (opens host pid (SetOpened other p opened) ≡ true))
    (λ static before. inl before)
    (λ dynamic now.
    let keeps : (row : PipeRow) → (cond (eqb row.pid p) (as_opened opened row) row).pid ≡ row.pid =
    λ row. cond_both (eqb row.pid p) (as_opened opened row) row (λ r. r.pid ≡ row.pid) (λ yes. refl) (λ no. refl) in
    let mapped = subst Opened (row_of-map pid_of (λ row. cond (eqb row.pid p) (as_opened opened row) row) pid t.rows keeps) now in
    let key : (row : PipeRow) → pipe_at t.rows pid ≡ Some row
    → row.pid ≡ pid = λ row is. (found_is pid_of (λ _. Unit {0}) pid t.rows row (nothing_of t.rows) is).1 in
    elim (dynamic_step p opened pid (pipe_at t.rows pid) key mapped) [
      | inl before ↦ inl before
      | inr here ↦ inr (and_from (opened && eqb p pid) (eqb other host || not (ltb pid 2)) here
          (or_right (eqb other host) (not (ltb pid 2)) (not_from_false (ltb pid 2) (le-ltb pid 2 from))))
    ]) e
opened_dynamic t (Set other gate param value) host pid from h may e = inl e
opened_dynamic t (Sync other id) host pid from h may e = inl e

opened-apply : (t : HciTables) (command : Command) (host pid : ℕ) → AreTables t → IsCommand command → is_opened (apply t command) host pid ≡ true
    → (is_opened t host pid ≡ true) ⊎ (opens host pid command ≡ true)
opened-apply t command host pid h may e =
    let u = apply t command in
    elim (cases_Bool (ltb pid 2)) [
      | inl static ↦
          elim (opened_static t command host pid (sym (cond-true (ltb pid 2) (static_opened u.statics host pid) (dynamic_opened u.rows pid) static) ∙ e)) [
            | inl before ↦ inl (cond-true (ltb pid 2) (static_opened t.statics host pid) (dynamic_opened t.rows pid) static ∙ before)
            | inr here ↦ inr here
          ]
      | inr dynamic ↦
          elim (opened_dynamic t command host pid (ltb-false pid 2 dynamic) h may
          (sym (cond-false (ltb pid 2) (static_opened u.statics host pid) (dynamic_opened u.rows pid) dynamic) ∙ e)) [
            | inl before ↦ inl (cond-false (ltb pid 2) (static_opened t.statics host pid) (dynamic_opened t.rows pid) dynamic ∙ before)
            | inr here ↦ inr here
          ]
    ]

opened-after : (t : HciTables) (commands : List Command) (host pid : ℕ) → AllByRecursion IsCommand commands → AreTables t
    → is_opened (after_commands t commands) host pid ≡ true → (is_opened t host pid ≡ true) ⊎ (list_any (opens host pid) commands ≡ true)
opened-after t [] host pid may h e = inl e
opened-after t (command ∷ commands) host pid may h e =
    elim (opened-after (apply t command) commands host pid may.1 (AreTables-apply t command may.0 h) e) [
      | inl before ↦ elim (opened-apply t command host pid h may.0 before) [
        | inl first ↦ inl first
        | inr here ↦ inr (or_left (opens host pid command) (list_any (opens host pid) commands) here)
      ]
      | inr later ↦ inr (or_right (opens host pid command) (list_any (opens host pid) commands) later)
    ]

closed_row : (o : Option PipeRow) → Opened (option_map (as_opened false) o) → ⊥
closed_row None e = false≢true e
closed_row (Some row) e = false≢true e

closed : (t : HciTables) (host pid : ℕ) → is_opened (close t) host pid ≡ true → ⊥
closed t host pid e =
    cond_both (ltb pid 2) (static_opened [] host pid) (dynamic_opened (all_closed t.rows) pid) (λ b. b ≡ true → ⊥)
    (λ static now. false≢true now)
    (λ dynamic now. closed_row (pipe_at t.rows pid) (subst Opened (row_of-map pid_of (as_opened false) pid t.rows (λ row. refl)) now)) e

pub opened-after_close : (t : HciTables) (commands : List Command) (host pid : ℕ) → AreTables t → AllByRecursion IsCommand commands
    → is_opened (after_commands (close t) commands) host pid ≡ true → IsTrue (list_any (opens host pid) commands)
opened-after_close t commands host pid h may e =
    elim (opened-after (close t) commands host pid may (AreTables-close t h) e) [
      | inl before ↦ absurd (closed t host pid before)
      | inr later ↦ later
    ]
