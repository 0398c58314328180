-- Whether the session of the end with a host has ended in a step.
use Rattle.node_ends.proofs.Words.{AllByRecursion, AreEnds, Bool, HaveOwnHosts, List, PoolState, Port, Seat, SeatsStandFor, [], ap, arith, eqb-true, false}
use Rattle.node_ends.proofs.Words.{is_over, is_over_at, option_map_or, port_at, refl, subst, true, ℕ, ◌==◌, ◌||◌, ◌∙◌, ◌∷◌, ◌≡◌, ◌≢◌}
use Rattle.node_ends.proofs.Changing.{host_is}

none_over : (pool : PoolState) (h : ℕ) (seats : List Seat) (ports : List Port) → AllByRecursion (λ (t : Seat). t.desk.host ≢ h) seats
    → SeatsStandFor pool seats ports → is_over_at ports h ≡ false
none_over pool h [] [] d g = refl
none_over pool h [] (p ∷ ports) d g = absurd g
none_over pool h (s ∷ seats) [] d g = absurd g
none_over pool h (s ∷ seats) (p ∷ ports) d g = by (none_over pool h seats ports d.1 g.1) (p.desk.host == h) refl
  where
    by : is_over_at ports h ≡ false → (b : Bool) → (p.desk.host == h) ≡ b → is_over_at (p ∷ ports) h ≡ false
    by later b q = grind arith

or_false : (b : Bool) → (b || false) ≡ b
or_false b = grind arith

over_in : (pool : PoolState) (h : ℕ) (seats : List Seat) (ports : List Port) → HaveOwnHosts seats → SeatsStandFor pool seats ports
    → is_over_at ports h ≡ option_map_or is_over (port_at ports h) false
over_in pool h [] [] d g = refl
over_in pool h [] (p ∷ ports) d g = absurd g
over_in pool h (s ∷ seats) [] d g = absurd g
over_in pool h (s ∷ seats) (p ∷ ports) d g = by (over_in pool h seats ports d.1 g.1) (p.desk.host == h) refl
  where
    by : is_over_at ports h ≡ option_map_or is_over (port_at ports h) false → (b : Bool) → (p.desk.host == h) ≡ b → is_over_at (p ∷ ports) h
        ≡ option_map_or is_over (port_at (p ∷ ports) h) false
    by later true q =
        let here : s.desk.host ≡ h = host_is g.0 ∙ eqb-true p.desk.host h q in
        let none = none_over pool h seats ports (subst (λ n. AllByRecursion (λ (t : Seat). t.desk.host ≢ n) seats) here d.0) g.1 in
        rw q (ap (λ b. is_over p || b) none ∙ or_false (is_over p))
    by later false q = rw q later

-- what is asked of one end is what the definition asks of all
pub over_is : {pool : PoolState} {seats : List Seat} {ports : List Port} (h : ℕ) → AreEnds pool seats ports
    → is_over_at ports h ≡ option_map_or is_over (port_at ports h) false
over_is {pool} {seats} {ports} h e = over_in pool h seats ports e.hosts e.each
