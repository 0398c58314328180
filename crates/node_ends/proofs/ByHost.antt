-- What is read at each end stands in a table of eight at the number of its host.
use Rattle.std.proofs.Common.{set}
use Rattle.std.proofs.lemmas.Bool.{cases_eq, cases_lt, ne_eqb}
use Rattle.std.proofs.lemmas.List.{get_or_past}
use Rattle.node_ends.proofs.Words.{AllByRecursion, AreEnds, Bool, List, None, Option, PoolState, Port, Seat, SeatStandsFor, Some, [], add-one, ap, arith}
use Rattle.node_ends.proofs.Words.{eq-eqb, false, get_or, get_or-set_other, get_or-set_same, if◌then◌else◌, inl, inr, length, option_map_or, port_at, refl}
use Rattle.node_ends.proofs.Words.{slice_get, subst, suc, sym, take, take_all, true, zero, ℕ, ◌+◌, ◌<◌, ◌==◌, ◌∙◌, ◌∷◌, ◌≡◌, ◌≤◌, ◌⊎◌}
use Rattle.node_ends.proofs.Changing.{all_at, host_is}
use Rattle.node_ends.proofs.Gathering.{IsFound, all_found}

module _ {X : Type 0} (read : Port → X) (d : X) where
  abbrev pub read_by_host : List Port → ℕ → X
  read_by_host ports h = option_map_or read (port_at ports h) d

  -- what is read at the ends before this place stands at the numbers of their hosts, and d at all others
  abbrev pub StandSoFar : List X → ℕ → List Port → Type 0
  StandSoFar xs i ports = (h : ℕ) → h ≤ 7 → get_or xs h d ≡ option_map_or (λ (p : Port). read_by_host ports h) (port_at (take i ports) h) d

  -- one end more
  one_more : (x : X) (i : ℕ) (ports : List Port) (p : Port) (h : ℕ) → slice_get ports i ≡ Some p
      → option_map_or (λ (q : Port). x) (port_at (take (suc i) ports) h) d
      ≡ (if p.desk.host == h then x else option_map_or (λ (q : Port). x) (port_at (take i ports) h) d)
  one_more x i [] p h is = cc
  one_more x zero (q ∷ ports) p h is = grind arith
  one_more x (suc i) (q ∷ ports) p h is = by (q.desk.host == h) (p.desk.host == h) refl refl (one_more x i ports p h is)
    where
      by : (a b : Bool) → (q.desk.host == h) ≡ a → (p.desk.host == h) ≡ b
          → option_map_or (λ (r : Port). x) (port_at (take (suc i) ports) h) d
          ≡ (if p.desk.host == h then x else option_map_or (λ (r : Port). x) (port_at (take i ports) h) d)
          → option_map_or (λ (r : Port). x) (port_at (take (suc (suc i)) (q ∷ ports)) h) d
          ≡ (if p.desk.host == h then x else option_map_or (λ (r : Port). x) (port_at (take (suc i) (q ∷ ports)) h) d)
      by a b s t later = grind arith

  -- what is read at the end at this place stands in the table now
  pub next_so_far : (xs : List X) (i : ℕ) (ports : List Port) (p : Port) → StandSoFar xs i ports → length xs ≡ 8 → p.desk.host < 8
      → slice_get ports i ≡ Some p → AllByRecursion (IsFound ports) ports → StandSoFar (set xs p.desk.host (read p)) (suc i) ports
  next_so_far xs i ports p far eight low is found h most = by (cases_eq h p.desk.host)
    where
      own : read p ≡ read_by_host ports p.desk.host
      own = ap (λ (o : Option Port). option_map_or read o d) (sym (all_at (IsFound ports) ports i p is found))

      by : (h ≡ p.desk.host) ⊎ (h ≡ p.desk.host → ⊥) → get_or (set xs p.desk.host (read p)) h d
          ≡ option_map_or (λ (q : Port). read_by_host ports h) (port_at (take (suc i) ports) h) d
      by (inl e) =
          let t : (p.desk.host == h) ≡ true = eq-eqb p.desk.host h (sym e) in
          ap (λ n. get_or (set xs p.desk.host (read p)) n d) e
          ∙ (get_or-set_same xs p.desk.host (read p) d (omega (arith, eight, low))
          ∙ (own ∙ (ap (read_by_host ports) (sym e) ∙ sym (one_more (read_by_host ports h) i ports p h is ∙ rw t refl))))
      by (inr n) =
          let t : (p.desk.host == h) ≡ false = ne_eqb p.desk.host h (λ e. n (sym e)) in
          get_or-set_other xs p.desk.host h (read p) d n
          ∙ (far h most ∙ sym (one_more (read_by_host ports h) i ports p h is ∙ rw t refl))

  -- the end that is read at this place is set in the table
  pub goes_on : {pool : PoolState} {seats : List Seat} (ports : List Port) (e : AreEnds pool seats ports) (xs ys : List X) (i k : ℕ) (s : Seat) (p : Port)
      (x : X) → SeatStandsFor pool s p → slice_get ports i ≡ Some p → k ≡ s.desk.host → k < 8 → x ≡ read p → ys ≡ set xs k x → length xs ≡ 8
      → StandSoFar xs i ports → StandSoFar ys (i + 1) ports
  goes_on {pool} {seats} ports e xs ys i k s p x g is host low value set_is eight far =
      let own : k ≡ p.desk.host = host ∙ host_is g in
      let next = next_so_far xs i ports p far eight (omega (arith, own, low)) is (all_found pool seats ports e.hosts e.each) in
      let M : ℕ → Type 0 = λ m. StandSoFar (set xs p.desk.host (read p)) m ports in
      let V : X → Type 0 = λ v. StandSoFar (set xs p.desk.host v) (i + 1) ports in
      let L : List X → Type 0 = λ l. StandSoFar l (i + 1) ports in
      subst L (sym set_is) (subst (λ n. StandSoFar (set xs n x) (i + 1) ports) (sym own) (subst V (sym value) (subst M (sym (add-one i)) next)))

  -- an end of a link with a host above 7 has no place in the table
  pub skip_so_far : (xs : List X) (i : ℕ) (ports : List Port) (p : Port) → StandSoFar xs i ports → 8 ≤ p.desk.host
      → slice_get ports i ≡ Some p → StandSoFar xs (suc i) ports
  skip_so_far xs i ports p far high is h most =
      far h most ∙ sym (one_more (read_by_host ports h) i ports p h is ∙ rw (ne_eqb p.desk.host h (λ e. omega (arith, e, high, most))) refl)

  pub goes_by : {pool : PoolState} (ports : List Port) (xs ys : List X) (i k : ℕ) (s : Seat) (p : Port) → SeatStandsFor pool s p → slice_get ports i ≡ Some p
      → k ≡ s.desk.host → 8 ≤ k → ys ≡ xs → StandSoFar xs i ports → StandSoFar ys (i + 1) ports
  goes_by ports xs ys i k s p g is host high same far =
      let M : ℕ → Type 0 = λ m. StandSoFar xs m ports in
      let L : List X → Type 0 = λ l. StandSoFar l (i + 1) ports in
      subst L (sym same) (subst M (sym (add-one i)) (skip_so_far xs i ports p far (omega (arith, host ∙ host_is g, high)) is))

  -- behind the last end all stand there
  pub all_so_far : (xs : List X) (i : ℕ) (ports : List Port) → StandSoFar xs i ports → length ports ≤ i
      → (h : ℕ) → h ≤ 7 → get_or xs h d ≡ read_by_host ports h
  all_so_far xs i ports far past h most =
      far h most
      ∙ (ap (λ (l : List Port). option_map_or (λ (p : Port). read_by_host ports h) (port_at l h) d) (take_all i ports past)
      ∙ by (port_at ports h) refl)
    where
      by : (o : Option Port) → port_at ports h ≡ o
          → option_map_or (λ (p : Port). read_by_host ports h) (port_at ports h) d ≡ read_by_host ports h
      by o q = grind arith

  -- where no host is above 7, so it is at every number
  pub everywhere : (xs : List X) (ports : List Port) → length xs ≡ 8 → AllByRecursion (λ (p : Port). p.desk.host ≤ 7) ports
      → ((h : ℕ) → h ≤ 7 → get_or xs h d ≡ read_by_host ports h) → (h : ℕ) → get_or xs h d ≡ read_by_host ports h
  everywhere xs ports eight low table h = by (cases_lt 7 h)
    where
      none : (l : List Port) → AllByRecursion (λ (p : Port). p.desk.host ≤ 7) l → 7 < h → port_at l h ≡ None
      none [] few high = refl
      none (q ∷ l) few high =
          rw (ne_eqb q.desk.host h (λ e. omega (arith, e, few.0, high))) (none l few.1 high)

      by : (7 < h) ⊎ (h ≤ 7) → get_or xs h d ≡ read_by_host ports h
      by (inr most) = table h most
      by (inl high) =
          get_or_past xs h d (omega (arith, eight, high)) ∙ ap (λ (o : Option Port). option_map_or read o d) (sym (none ports low high))
