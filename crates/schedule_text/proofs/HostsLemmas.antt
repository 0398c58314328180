-- A host that a line is refused for isn't in the header.
use Rattle.schedule_text.proofs.Names.{Bool, Err, FormRow, Header, Kind, LineFault, List, Option, Read, Slot, Some, [], activate_row, and_parts, arith, arm_row}
use Rattle.schedule_text.proofs.Names.{boot_row, busy_row, by_row, cond, cut_row, damage_row, deliver_row, digits_fault, false, first_digits_fault}
use Rattle.schedule_text.proofs.Names.{first_host_fault, host_fault, init_row, is_well_formed, list_all, list_any, lose_row, may_stand, option_map, option_or}
use Rattle.schedule_text.proofs.Names.{read_of, ready_row, refl, reset_row, rising, row_for, rows, send_row, settle_row, slots, tables_row, tick_row, true}
use Rattle.schedule_text.proofs.Names.{unless_fault, words_fault, ℕ, ◌&&◌, ◌+◌, ◌==◌, ◌||◌, ◌∷◌, ◌≡◌}
use Rattle.schedule_text.specs.declared.fault.LineFault.TheVariants as fault
use Rattle.schedule_text.specs.declared.forms.Kind.TheVariants as kind
use Rattle.schedule_text.specs.Rules.{later, stranger}
use Rattle.schedule_text.proofs.RowsLemmas.{row_cases}

no_host_digits : (at from : ℕ) (k : Kind) (word : List ℕ) (id : ℕ) → digits_fault at from k word ≡ Some (fault.Host id) → ⊥
no_host_digits at from k word id h = grind arith

no_host_or : (a b : Option LineFault) (id : ℕ) → (a ≡ Some (fault.Host id) → ⊥) → (b ≡ Some (fault.Host id) → ⊥) → option_or a b ≡ Some (fault.Host id) → ⊥
no_host_or a b id no_a no_b h = grind arith

no_host_first : (at from : ℕ) (ss : List Slot) (id : ℕ) → first_digits_fault at from ss ≡ Some (fault.Host id) → ⊥
no_host_first at from [] id h = cc
no_host_first at from (s ∷ ss) id h =
    no_host_or (digits_fault at from s.kind s.word) (first_digits_fault (at + 1) (rising from s.kind s.word) ss) id
    (no_host_digits at from s.kind s.word id) (no_host_first (at + 1) (rising from s.kind s.word) ss id) h

pick_fault : (t : Bool) (o : Option LineFault) (id : ℕ) → cond t o (Some fault.Word) ≡ Some (fault.Host id) → o ≡ Some (fault.Host id)
pick_fault t o id h = grind arith

host_behind : (digits : Option LineFault) (o : Option ℕ) (id : ℕ) → (digits ≡ Some (fault.Host id) → ⊥)
    → option_or digits (option_map fault.Host o) ≡ Some (fault.Host id) → o ≡ Some id
host_behind digits o id other h = grind arith

unknown : (hosts : List ℕ) (o : Option ℕ) (id : ℕ) → stranger hosts o ≡ Some id → list_any (λ host. host == id) hosts ≡ false
unknown hosts o id h = grind arith

-- no word that names a new host
abbrev is_old : Kind → Bool
is_old kind.NewHost = false
is_old kind.Version = true
is_old kind.Bare = true
is_old kind.Nodes = true
is_old kind.Host = true
is_old kind.Node = true
is_old kind.End = true
is_old kind.Sender = true
is_old (kind.Byte below) = true
is_old (kind.Bytes low high) = true
is_old (kind.Number low high) = true
is_old (kind.Rising high) = true

word_unknown : (hosts : List ℕ) (from : ℕ) (k : Kind) (word : List ℕ) (id : ℕ) → is_old k ≡ true → host_fault hosts from k word ≡ Some id
    → list_any (λ host. host == id) hosts ≡ false
word_unknown hosts from k word id old h = grind arith

or_unknown : (hosts : List ℕ) (a b : Option ℕ) (id : ℕ) → (a ≡ Some id → list_any (λ host. host == id) hosts ≡ false)
    → (b ≡ Some id → list_any (λ host. host == id) hosts ≡ false) → option_or a b ≡ Some id → list_any (λ host. host == id) hosts ≡ false
or_unknown hosts a b id is_a is_b h = grind arith

later_old : (k : Kind) (ks : List Kind) → (is_old k && list_all is_old ks) ≡ true → list_all is_old (later k ks) ≡ true
later_old k ks h = grind arith

first_unknown : (hosts : List ℕ) (from : ℕ) (ks : List Kind) (ws : List (List ℕ)) (id : ℕ) → list_all is_old ks ≡ true
    → first_host_fault hosts from (slots ks ws) ≡ Some id → list_any (λ host. host == id) hosts ≡ false
first_unknown hosts from [] [] id old h = cc
first_unknown hosts from (k ∷ ks) [] id old h = cc
first_unknown hosts from [] (w ∷ ws) id old h = cc
first_unknown hosts from (k ∷ ks) (w ∷ ws) id old h =
    or_unknown hosts (host_fault hosts from k w) (first_host_fault hosts (rising from k w) (slots (later k ks) ws)) id
    (word_unknown hosts from k w id (and_parts _ _ old).0) (first_unknown hosts (rising from k w) (later k ks) ws id (later_old k ks old)) h

unless_some : (o : Option LineFault) (said : Option Read) (id : ℕ) → unless_fault o said ≡ Err (fault.Host id) → o ≡ Some (fault.Host id)
unless_some o said id h = grind arith

line_unknown : (header : Header) (row : FormRow) (ws : List (List ℕ)) (id : ℕ) → list_all is_old row.kinds ≡ true
    → by_row (Some header) (Some row) ws ≡ Err (fault.Host id) → list_any (λ host. host == id) header.hosts.items ≡ false
line_unknown header row ws id old h = go (may_stand row.place (Some header)) h
  where
    go : (t : Bool) → cond t (unless_fault (words_fault header.hci header.hosts.items row ws) (read_of row.name ws)) (Err fault.Order) ≡ Err (fault.Host id)
        → list_any (λ host. host == id) header.hosts.items ≡ false
    go true e =
        let found = pick_fault (is_well_formed header.hci row ws) _ id (unless_some _ (read_of row.name ws) id e) in
        first_unknown header.hosts.items 0 row.kinds ws id old
        (host_behind (first_digits_fault 2 0 (slots row.kinds ws)) _ id (no_host_first 2 0 (slots row.kinds ws) id) found)
    go false e = cc

pub row_unknown : (header : Header) (first : List ℕ) (ws : List (List ℕ)) (id : ℕ) → by_row (Some header) (row_for first ws) ws ≡ Err (fault.Host id)
    → list_any (λ host. host == id) header.hosts.items ≡ false
row_unknown header first ws id =
    row_cases (λ o. by_row (Some header) o ws ≡ Err (fault.Host id) → list_any (λ host. host == id) header.hosts.items ≡ false) rows first ws (
      λ e h. cc,
      (
        λ e h. cc,
        (
          λ e. line_unknown header send_row ws id refl,
          (
            λ e. line_unknown header deliver_row ws id refl,
            (
              λ e. line_unknown header lose_row ws id refl,
              (
                λ e. line_unknown header damage_row ws id refl,
                (
                  λ e. line_unknown header tick_row ws id refl,
                  (
                    λ e. line_unknown header reset_row ws id refl,
                    (
                      λ e. line_unknown header busy_row ws id refl,
                      (
                        λ e. line_unknown header ready_row ws id refl,
                        (
                          λ e. line_unknown header boot_row ws id refl,
                          (
                            λ e. line_unknown header cut_row ws id refl,
                            (
                              λ e. line_unknown header activate_row ws id refl,
                              (
                                λ e. line_unknown header arm_row ws id refl,
                                (
                                  λ e. line_unknown header init_row ws id refl,
                                  (
                                    λ e. line_unknown header tables_row ws id refl,
                                    (λ e. line_unknown header settle_row ws id refl, tt),
                                  ),
                                ),
                              ),
                            ),
                          ),
                        ),
                      ),
                    ),
                  ),
                ),
              ),
            ),
          ),
        ),
      ),
    ) (λ e h. cc)
