-- When each fault comes.
use Rattle.std.proofs.Common.{IfOk, IsTrue, ◌↔◌, ◌≢◌}
use Rattle.schedule_text.proofs.Names.{Bool, Err, FormRow, Header, LineFault, List, None, Ok, Option, Read, Result, Slot, Some, [], activate_row, arith}
use Rattle.schedule_text.proofs.Names.{arm_row, boot_row, busy_row, by_row, codes, cond, cut_row, damage_row, deliver_row, false, first_digits_fault}
use Rattle.schedule_text.proofs.Names.{first_host_fault, has_third, header_row, init_row, inl, inr, is_comment, is_well_formed, lose_row, may_stand, nodes_row}
use Rattle.schedule_text.proofs.Names.{not, option_map, option_or, read_of, ready_row, refl, reset_row, rising, row_for, rows, send_row, settle_row, slots}
use Rattle.schedule_text.proofs.Names.{subst, sym, tables_row, tick_row, true, unless_fault, words_fault, ℕ, ◌+◌, ◌∙◌, ◌∷◌, ◌≡◌}
use Rattle.schedule_text.specs.declared.fault.LineFault.TheVariants as fault
use Rattle.schedule_text.specs.declared.read.Read.TheVariants as read
use Rattle.schedule_text.specs.declared.forms.Kind.TheVariants as kind
use Rattle.schedule_text.specs.Lines.{has_nodes, hosts_of}
use Rattle.schedule_text.specs.Answers.{IsReadOrNoMemory, IsOutOfOrder}
use Rattle.schedule_text.proofs.RowsLemmas.{row_cases}

-- a fault of the words behind the first
abbrev IsLater : LineFault → Type 0
IsLater fault.Word = Unit {0}
IsLater (fault.Number at) = Unit {0}
IsLater (fault.Hex at) = Unit {0}
IsLater (fault.Host id) = Unit {0}
IsLater fault.Order = ⊥
IsLater fault.TooLong = ⊥

abbrev AreLater : Option LineFault → Type 0
AreLater None = Unit {0}
AreLater (Some f) = IsLater f

later_or : (a b : Option LineFault) → AreLater a → AreLater b → AreLater (option_or a b)
later_or a b h k = grind arith

later_first : (at from : ℕ) (ss : List Slot) → AreLater (first_digits_fault at from ss)
later_first at from [] = tt
later_first at from (s ∷ ss) = later_or _ _ (grind arith) (later_first (at + 1) (rising from s.kind s.word) ss)

later_words : (hci : Bool) (hosts : List ℕ) (row : FormRow) (ws : List (List ℕ)) → AreLater (words_fault hci hosts row ws)
later_words hci hosts row ws = go (is_well_formed hci row ws)
  where
    go : (t : Bool)
        → AreLater (cond t (option_or (first_digits_fault 2 0 (slots row.kinds ws)) (option_map fault.Host (first_host_fault hosts 0 (slots row.kinds ws))))
        (Some fault.Word))
    go true = later_or _ _ (later_first 2 0 (slots row.kinds ws)) (grind arith)
    go false = tt

later_said : (o : Option LineFault) (said : Option Read) (f : LineFault) → AreLater o → unless_fault o said ≡ Err f → IsLater f
later_said o said f h e = grind arith

-- no row makes a line too long
pub not_too_long : (header : Option Header) (o : Option FormRow) (ws : List (List ℕ)) → by_row header o ws ≡ Err fault.TooLong → ⊥
not_too_long None None ws h = cc
not_too_long (Some header) None ws h = cc
not_too_long header (Some row) ws h = go (may_stand row.place header) h
  where
    go : (t : Bool)
        → cond t (unless_fault (words_fault (has_nodes header) (hosts_of header) row ws) (read_of row.name ws)) (Err fault.Order) ≡ Err fault.TooLong
        → ⊥
    go true e = later_said _ _ fault.TooLong (later_words (has_nodes header) (hosts_of header) row ws) e
    go false e = cc

-- a line is out of order where its row may not stand there
not_standing : (header : Option Header) (row : FormRow) (ws : List (List ℕ)) → by_row header (Some row) ws ≡ Err fault.Order
    → may_stand row.place header ≡ false
not_standing header row ws h = go (may_stand row.place header) h
  where
    go : (t : Bool)
        → cond t (unless_fault (words_fault (has_nodes header) (hosts_of header) row ws) (read_of row.name ws)) (Err fault.Order) ≡ Err fault.Order
        → t ≡ false
    go true e = absurd (later_said _ _ fault.Order (later_words (has_nodes header) (hosts_of header) row ws) e)
    go false e = refl

allowed : (header : Option Header) (row : FormRow) (ws : List (List ℕ)) → may_stand row.place header ≡ true → by_row header (Some row) ws ≡ Err fault.Order → ⊥
allowed header row ws stands h = let not = not_standing header row ws h in cc

first_order : (first : List ℕ) (ws : List (List ℕ)) → first ≢ codes "swp" → by_row None (row_for first ws) ws ≡ Err fault.Order
first_order first ws other = row_cases (λ o. by_row None o ws ≡ Err fault.Order) rows first ws (grind arith) (λ e. refl)

bare_forbidden : (header : Header) (row : FormRow) (ws : List (List ℕ)) → may_stand row.place (Some header) ≡ not header.hci
    → by_row (Some header) (Some row) ws ≡ Err fault.Order → IsTrue header.hci
bare_forbidden header row ws stands h = let h0 = (sym stands ∙ not_standing (Some header) row ws h) in grind arith

nodes_forbidden : (header : Header) (row : FormRow) (ws : List (List ℕ)) → may_stand row.place (Some header) ≡ header.hci
    → by_row (Some header) (Some row) ws ≡ Err fault.Order → header.hci ≡ false
nodes_forbidden header row ws stands h = sym stands ∙ not_standing (Some header) row ws h

later_order : (header : Header) (first : List ℕ) (ws : List (List ℕ)) → by_row (Some header) (row_for first ws) ws ≡ Err fault.Order
    → IsOutOfOrder (Some header) (first ∷ ws)
later_order header first ws =
    row_cases (λ o. by_row (Some header) o ws ≡ Err fault.Order → IsOutOfOrder (Some header) (first ∷ ws)) rows first ws (
      λ e h. inl e,
      (
        λ e h. inl e,
        (
          λ e h. absurd (allowed (Some header) send_row ws refl h),
          (
            λ e h. absurd (allowed (Some header) deliver_row ws refl h),
            (
              λ e h. absurd (allowed (Some header) lose_row ws refl h),
              (
                λ e h. absurd (allowed (Some header) damage_row ws refl h),
                (
                  λ e h. absurd (allowed (Some header) tick_row ws refl h),
                  (
                    λ e h. absurd (allowed (Some header) reset_row ws refl h),
                    (
                      λ e h. inr (inl (bare_forbidden header busy_row ws refl h, inl e)),
                      (
                        λ e h. inr (inl (bare_forbidden header ready_row ws refl h, inr e)),
                        (
                          λ e h. inr (inr (nodes_forbidden header boot_row ws refl h, inl e)),
                          (
                            λ e h. inr (inr (nodes_forbidden header cut_row ws refl h, inr (inl e))),
                            (
                              λ e h. inr (inr (nodes_forbidden header activate_row ws refl h, inr (inr (inl e)))),
                              (
                                λ e h. inr (inr (nodes_forbidden header arm_row ws refl h, inr (inr (inr (inl e))))),
                                (
                                  λ e h. inr (inr (nodes_forbidden header init_row ws refl h, inr (inr (inr (inr (inl e)))))),
                                  (
                                    λ e h. inr (inr (nodes_forbidden header tables_row ws refl h, inr (inr (inr (inr (inr e)))))),
                                    (λ e h. absurd (allowed (Some header) settle_row ws refl h), tt),
                                  ),
                                ),
                              ),
                            ),
                          ),
                        ),
                      ),
                    ),
                  ),
                ),
              ),
            ),
          ),
        ),
      ),
    ) (λ e h. cc)

first_header : (ws : List (List ℕ)) (t : Bool) → by_row None (cond t (Some nodes_row) (Some header_row)) ws ≡ Err fault.Order → ⊥
first_header ws true h = allowed None nodes_row ws refl h
first_header ws false h = allowed None header_row ws refl h

header_stands : (first : List ℕ) (ws : List (List ℕ)) → by_row None (row_for first ws) ws ≡ Err fault.Order → first ≡ codes "swp" → ⊥
header_stands first ws h e = first_header ws (has_third (codes "hci") ws) (subst (λ w. by_row None (row_for w ws) ws ≡ Err fault.Order) e h)

-- out of order
pub order_iff : (header : Option Header) (first : List ℕ) (ws : List (List ℕ)) → is_comment first ≡ false
    → (by_row header (row_for first ws) ws ≡ Err fault.Order) ↔ IsOutOfOrder header (first ∷ ws)
order_iff None first ws letter = (λ h. (λ t. cc, header_stands first ws h), λ h. first_order first ws h.1)
order_iff (Some header) first ws letter = (later_order header first ws, λ a. grind arith)

-- want of memory is no fault
pub same_fault : (answer said : Result Read LineFault) (f : LineFault) → IsReadOrNoMemory answer said → (answer ≡ Err f) ↔ (said ≡ Err f)
same_fault answer said f a = grind arith

-- what holds of what is read holds of what is answered, if it holds of want of memory
pub answer_fits : (P : Read → Type 0) (answer said : Result Read LineFault) → IsReadOrNoMemory answer said → ((r : Read) → said ≡ Ok r → P r)
    → P read.NoMemory → IfOk answer P
answer_fits P answer said a h m = grind arith
