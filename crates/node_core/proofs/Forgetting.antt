-- Creations are forgotten at all ends of a node, one after another.
use Rattle.node_core.proofs.Words.{Bool, List, Port, [], ap₂, arith, at_place, first_changed, forgets, is_over, is_over_at, next_changed, refl, suc, zero, ℕ}
use Rattle.node_core.proofs.Words.{◌&&◌, ◌==◌, ◌||◌, ◌∙◌, ◌∷◌, ◌≡◌}
use Rattle.node_ends.proofs.Seated.{at_place_as}

-- what of an end says that its session is over
abbrev Over : Type 0
Over = ℕ × Bool

abbrev over_of : Port → Over
over_of p = (p.desk.host, is_over p)

forgets_over : (ports : List Port) (p : Port) → over_of (forgets ports p) ≡ over_of p
forgets_over ports p = grind arith

over_same : (f : Port → Port) → ((p : Port) → over_of (f p) ≡ over_of p) → (i : ℕ) (ports : List Port) (h : ℕ)
    → is_over_at (first_changed i f ports) h ≡ is_over_at ports h
over_same f same zero [] h = refl
over_same f same (suc i) [] h = refl
over_same f same zero (p ∷ ports) h = refl
over_same f same (suc i) (p ∷ ports) h = ap₂ (λ (o : Over) b. ((o.0 == h) && o.1) || b) (same p) (over_same f same i ports h)

forgets_same : (a b : List Port) → ((h : ℕ) → is_over_at a h ≡ is_over_at b h) → (p : Port) → forgets a p ≡ forgets b p
forgets_same a b same p = grind arith

-- the next one forgets as it would have at first
pub next_forgets : (i : ℕ) (ports : List Port)
    → at_place i (forgets (first_changed i (forgets ports) ports)) (first_changed i (forgets ports) ports)
    ≡ first_changed (suc i) (forgets ports) ports
next_forgets i ports =
    at_place_as i (forgets (first_changed i (forgets ports) ports)) (forgets ports) (first_changed i (forgets ports) ports)
    (λ p at. forgets_same (first_changed i (forgets ports) ports) ports (over_same (forgets ports) (forgets_over ports) i ports) p)
    ∙ next_changed i (forgets ports) ports
