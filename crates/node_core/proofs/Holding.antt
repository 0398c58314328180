-- A message that lacks room.
use Rattle.node_core.proofs.Words.{Bool, DeskOf, FewAreDue, Hold, List, Port, Work, [], arith, end_of_node, false, holds_back, is_noted_held, noting}
use Rattle.node_core.proofs.Words.{option_map_or, port_at, refl, true, turn_at, with_desk, with_port, ℕ, ◌==◌, ◌∷◌, ◌≡◌}
use Rattle.trace_model.specs.declared.entry.Entry.TheVariants as entry

-- it is noted, and then the end is held
pub held_so : (h : ℕ) (short : ℕ × ℕ) (w : Work) → turn_at h (Hold true) (is_noted_held h short w) ≡ holds_back h short w
held_so h short w = grind arith

pub was_noted : (h : ℕ) (short : ℕ × ℕ) (w : Work) → option_map_or (λ (p : Port). p.desk.holds) (port_at w.ports h) false ≡ true
    → is_noted_held h short w ≡ w
was_noted h short w q = rw q refl

pub is_noted_now : (h : ℕ) (short : ℕ × ℕ) (w : Work) → option_map_or (λ (p : Port). p.desk.holds) (port_at w.ports h) false ≡ false
    → is_noted_held h short w ≡ with_desk h (λ d. record d { holds = true }) (noting (entry.Held (end_of_node w.core h) short.0 short.1 ∷ []) w)
is_noted_now h short w q = rw q refl

-- the end of this host, where what is kept of it is changed
few_on : (h : ℕ) (f : DeskOf → DeskOf) (ports : List Port) → ((d : DeskOf) → (f d).host ≡ d.host) → FewAreDue (port_at ports h)
    → FewAreDue (port_at (with_port h (λ p. record p { desk = f p.desk }) ports) h)
few_on h f [] same few = tt
few_on h f (p ∷ ports) same few = let h0 = few_on h f ports same in let h1 = p.desk.host == h in grind arith

pub few_held : (h : ℕ) (short : ℕ × ℕ) (w : Work) → FewAreDue (port_at w.ports h) → FewAreDue (port_at (is_noted_held h short w).ports h)
few_held h short w few = by (option_map_or (λ (p : Port). p.desk.holds) (port_at w.ports h) false) refl
  where
    by : (b : Bool) → option_map_or (λ (p : Port). p.desk.holds) (port_at w.ports h) false ≡ b → FewAreDue (port_at (is_noted_held h short w).ports h)
    by true q = rw q few
    by false q = rw q (few_on h (λ d. record d { holds = true }) w.ports (λ d. refl) few)
