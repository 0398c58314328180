-- What a parameter reads as behind a command.
use Rattle.std.proofs.Common.{length, replicate}
use Rattle.std.proofs.lemmas.Bool.{and_left, and_right, not_from_true}
use Rattle.std.proofs.lemmas.List.{nil_from_length}
use Rattle.tables_laws.proofs.Words.{AreTables, Bool, Clear, Command, Create, Delete, HciTables, IsCommand, IsTrue, List, None, Option, RegValue, Set}
use Rattle.tables_laws.proofs.Words.{SetOpened, Some, Sync, [], and_from, and_parts, ap, apply, arith, cases_eq, cond, cond-false, cond-true, cond_both}
use Rattle.tables_laws.proofs.Words.{default_of, eq-eqb, eqb, eqb-true, false, inl, inr, leb, list_all, ltb, ne_eqb, not, not_from_false, option_and_then}
use Rattle.tables_laws.proofs.Words.{option_map_or, or_cases, refl, row_of, row_of-with_row, row_of-without_row, sym, true, value_at, with_opened, with_row}
use Rattle.tables_laws.proofs.Words.{with_static, without_row, ℕ, ◌&&◌, ◌||◌, ◌∙◌, ◌∷◌, ◌≡◌, ◌⊎◌}
use Rattle.registry.specs.Values.{AreValues, IsPresent, is_default, is_kept, place_of_value, value_place, values_without_host, with_value}
use Rattle.hci_tables.specs.Tables.{is_kept_sync}
use Rattle.tables_laws.specs.tables.Changes.{told_value}
use Rattle.tables_laws.proofs.tables.LookUps.{row_of-filter, found_is, if_passes}

-- what the value of a found row reads as
abbrev read : ℕ → Option RegValue → List ℕ
read param o = option_map_or (λ (v : RegValue). v.value.items) o (default_of param)

-- the kept parameters are 01 and 03, of gate 00
pub kept_param : (host gate param : ℕ) → IsTrue (is_kept host gate param) → (param ≡ 1) ⊎ (param ≡ 3)
kept_param host gate param kept =
    elim (or_cases (eqb param 1) (eqb param 3) (and_parts (leb 1 host && leb host 7 && eqb gate 0) (eqb param 1 || eqb param 3) kept).1) [
      | inl first ↦ inl (eqb-true param 1 first)
      | inr third ↦ inr (eqb-true param 3 third)
    ]

kept_gate : (host gate param : ℕ) → IsTrue (is_kept host gate param) → gate ≡ 0
kept_gate host gate param kept =
    let parts = and_parts (leb 1 host && leb host 7 && eqb gate 0) (eqb param 1 || eqb param 3) kept in
    eqb-true gate 0 (and_parts (leb 1 host && leb host 7) (eqb gate 0) parts.0).1

-- two kept parameters have one place where they are the same of one host
same_place : (h p host param : ℕ) → (p ≡ 1) ⊎ (p ≡ 3) → (param ≡ 1) ⊎ (param ≡ 3) → value_place h p ≡ value_place host param → (h ≡ host) × (p ≡ param)
same_place h p host param one other same =
    elim one [
      | inl first ↦ elim other [ inl first' ↦ (omega arith, omega arith) | inr third' ↦ absurd (omega arith) ]
      | inr third ↦ elim other [ inl first' ↦ absurd (omega arith) | inr third' ↦ (omega arith, omega arith) ]
    ]

place_test : (h p host param : ℕ) → (p ≡ 1) ⊎ (p ≡ 3) → (param ≡ 1) ⊎ (param ≡ 3) → eqb (value_place h p) (value_place host param) ≡ (eqb h host && eqb p param)
place_test h p host param one other =
    elim (cases_eq (value_place h p) (value_place host param)) [
      | inl same ↦
          let both = same_place h p host param one other same in
          eq-eqb (value_place h p) (value_place host param) same ∙ sym (and_from (eqb h host) (eqb p param) (eq-eqb h host both.0) (eq-eqb p param both.1))
      | inr differ ↦ ne_eqb (value_place h p) (value_place host param) differ ∙ sym (elim (cases_eq h host) [
        | inl owner ↦ and_right (eqb h host) (eqb p param) (ne_eqb p param (λ same. differ (ap (λ x. value_place x p) owner ∙ ap (value_place host) same)))
        | inr stranger ↦ and_left (eqb h host) (eqb p param) (ne_eqb h host stranger)
      ])
    ]

-- bytes that are the default of a parameter are that default
all_ones : (xs : List ℕ) → list_all (λ b. eqb b 255) xs ≡ true → xs ≡ replicate (length xs) 255
all_ones [] e = refl
all_ones (x ∷ xs) e =
    let parts = and_parts (eqb x 255) (list_all (λ b. eqb b 255) xs) e in
    ap (λ y. y ∷ xs) (eqb-true x 255 parts.0) ∙ ap (λ ys. 255 ∷ ys) (all_ones xs parts.1)

default_bytes : (identity : Bool) (value : List ℕ)
    → cond identity (eqb (length value) 8 && list_all (λ b. eqb b 255) value) (eqb (length value) 0) ≡ true
    → value ≡ cond identity (replicate 8 255) []
default_bytes true value e =
    let parts = and_parts (eqb (length value) 8) (list_all (λ b. eqb b 255) value) e in
    all_ones value parts.1 ∙ ap (λ n. replicate n 255) (eqb-true (length value) 8 parts.0)
default_bytes false value e = nil_from_length value (eqb-true (length value) 0 e)

taken_out : (param : ℕ) (here : Bool) (value : List ℕ) (o : Option RegValue) → (here ≡ true → default_of param ≡ value)
    → read param (cond here None o) ≡ cond here value (read param o)
taken_out param true value o is = is refl
taken_out param false value o is = refl

put_in : (param : ℕ) (here : Bool) (v : RegValue) (o : Option RegValue) → read param (cond here (Some v) o) ≡ cond here v.value.items (read param o)
put_in param true v o = refl
put_in param false v o = refl

value_at-with_value : (values : List RegValue) (h gate p : ℕ) (value : List ℕ) (host param : ℕ) → (p ≡ 1) ⊎ (p ≡ 3) → (param ≡ 1) ⊎ (param ≡ 3)
    → value_at (with_value values h gate p value) host 0 param ≡ cond (eqb h host && eqb p param) value (value_at values host 0 param)
value_at-with_value values h gate p value host param one other =
    let v : RegValue = record { host = h; gate = gate; param = p; value = record { items = value } } in
    let old = row_of place_of_value (value_place host param) values in
    let same = place_test h p host param one other in
    cond_both (is_default p value) (without_row place_of_value (value_place h p) values) (with_row place_of_value v values)
    (λ vs. value_at vs host 0 param ≡ cond (eqb h host && eqb p param) value (value_at values host 0 param))
    (λ default.
    ap (read param) (row_of-without_row place_of_value (value_place h p) values (value_place host param))
    ∙ (ap (λ b. read param (cond b None old)) same
    ∙ taken_out param (eqb h host && eqb p param) value old
    (λ here. ap default_of (sym (eqb-true p param (and_parts (eqb h host) (eqb p param) here).1)) ∙ sym (default_bytes (eqb p 1) value default))))
    (λ kept.
    ap (read param) (row_of-with_row place_of_value v values (value_place host param))
    ∙ (ap (λ b. read param (cond b (Some v) old)) same
    ∙ put_in param (eqb h host && eqb p param) v old))

-- a value that is found is one of this host
found_host : (values : List RegValue) (host param : ℕ) (v : RegValue) → (param ≡ 1) ⊎ (param ≡ 3) → AreValues values
    → row_of place_of_value (value_place host param) values ≡ Some v → v.host ≡ host
found_host values host param v which h is =
    let found = found_is place_of_value IsPresent (value_place host param) values v h.present is in
    (same_place v.host v.param host param (kept_param v.host v.gate v.param (grind arith)) which found.1).0

eqb_turned : (a b : ℕ) → eqb a b ≡ eqb b a
eqb_turned a b =
    elim (cases_eq a b) [
      | inl same ↦ eq-eqb a b same ∙ sym (eq-eqb b a (sym same))
      | inr differ ↦ ne_eqb a b differ
          ∙ sym (ne_eqb b a (λ same. differ (sym same)))
    ]

cleared_read : (param h host : ℕ) (o : Option RegValue) → ((v : RegValue) → o ≡ Some v → v.host ≡ host)
    → read param (option_and_then (if_passes (λ v. not (eqb v.host h))) o) ≡ cond (eqb h host) (default_of param) (read param o)
cleared_read param h host None is = cond_both (eqb h host) (default_of param) (default_of param) (λ x. default_of param ≡ x) (λ yes. refl) (λ no. refl)
cleared_read param h host (Some v) is =
    ap (λ n. read param (cond (not (eqb n h)) (Some v) None)) (is v refl)
    ∙ (ap (λ b. read param (cond (not b) (Some v) None)) (eqb_turned host h) ∙ by_test (eqb h host))
  where
    by_test : (b : Bool) → read param (cond (not b) (Some v) None) ≡ cond b (default_of param) v.value.items
    by_test true = refl
    by_test false = refl

pub value_at-without_host : (values : List RegValue) (h host param : ℕ) → (param ≡ 1) ⊎ (param ≡ 3) → AreValues values
    → value_at (values_without_host values h) host 0 param ≡ cond (eqb h host) (default_of param) (value_at values host 0 param)
value_at-without_host values h host param which are =
    ap (read param) (row_of-filter place_of_value 2 16 (λ v. not (eqb v.host h)) (value_place host param) values are.sorted)
    ∙ cleared_read param h host (row_of place_of_value (value_place host param) values) (λ v is. found_host values host param v which are is)

unkept : (here kept : Bool) (x y : List ℕ) → kept ≡ false → cond here x y ≡ cond (here && not kept) x y
unkept true kept x y other = sym (cond-true (not kept) x y (not_from_false kept other))
unkept false kept x y other = refl

pub values-apply : (t : HciTables) (command : Command) (host param : ℕ) → AreTables t → IsCommand command → IsTrue (is_kept host 0 param)
    → value_at (apply t command).values host 0 param ≡ told_value t command host param
values-apply t (Create row) host param h may kept = refl
values-apply t (Delete pid) host param h may kept = refl
values-apply t (Clear gone) host param h may kept = value_at-without_host t.values gone host param (kept_param host 0 param kept) h.values
values-apply t (SetOpened other pid opened) host param h may kept =
    cond_both (ltb pid 2) (record t { statics = with_static t.statics other pid opened }) (record t { rows = with_opened t.rows pid opened })
    (λ u. value_at u.values host 0 param ≡ value_at t.values host 0 param) (λ static. refl) (λ dynamic. refl)
values-apply t (Set other gate p value) host param h may kept =
    value_at-with_value t.values other gate p value.items host param (kept_param other gate p (grind arith)) (kept_param host 0 param kept)
values-apply t (Sync other id) host param h may kept =
    let same = is_kept_sync t.syncs other id in
    let old = value_at t.values host 0 param in
    cond_both same t.values (with_value t.values other 0 1 (default_of 1))
    (λ vs. value_at vs host 0 param ≡ cond (eqb other host && eqb 1 param && not same) (default_of 1) old)
    (λ yes. sym (cond-false (eqb other host && eqb 1 param && not same) (default_of 1) old
    (and_right (eqb other host && eqb 1 param) (not same) (not_from_true same yes))))
    (λ no. value_at-with_value t.values other 0 1 (default_of 1) host param (inl refl) (kept_param host 0 param kept)
    ∙ unkept (eqb other host && eqb 1 param) same (default_of 1) old no)
