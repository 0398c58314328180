-- A whole step of a controller.
use Rattle.node_core.proofs.Words.{AllByRecursion, AreAllDifferent, AreAtMostDue, AreFewDue, AreOfHosts, AtEnd, Bool, Brings, Core, Deed}
use Rattle.node_core.proofs.Words.{Entry, IfSome, IsInStep, LinkInput, LinkReport, List, Machine, Node, NodeInput, None, Option, Plan, Port, Reset, Some}
use Rattle.node_core.proofs.Words.{Start, Stop, Stored, Work, [], after_input, all_come, ap, append-nil, arith, due_count, eqb-true, false}
use Rattle.node_core.proofs.Words.{finishes, flat_map, flat_map-cons, has_come, input_at, map, option_map, port_at, refl, report, report_told, steps, subst}
use Rattle.node_core.proofs.Words.{sym, sync_kept, sync_told, synced, times_out, true, ℕ, ◌++◌, ◌+◌, ◌==◌, ◌∙◌, ◌∷◌, ◌≡◌, ◌≢◌, ◌≤◌}
use Rattle.node_core.proofs.Elsewhere.{host_at}
use Rattle.node_core.proofs.Sendables.{found_all}
use Rattle.node_core.proofs.Doing as doing

-- ## Identifiers

-- what comes to one end brings no identifier at the others
none_synced : (core : Core) (h : ℕ) (i : LinkInput) (ports : List Port) → AllByRecursion (λ (g : ℕ). g ≢ h) (map host_at ports)
    → flat_map (synced core (AtEnd h i)) ports ≡ []
none_synced core h i [] differ = refl
none_synced core h i (p ∷ ports) differ =
    flat_map-cons (synced core (AtEnd h i)) p ports ∙ (let h0 = p.desk.host == h in let h1 = none_synced core h i ports differ.1 in grind arith)

told_at_end : (h : ℕ) (i : LinkInput) → Option Port → Option (ℕ × ℕ)
told_at_end h i o = sync_told h (option_map (λ (p : Port). report_told (report p.side i)) o)

one_synced : (core : Core) (h : ℕ) (i : LinkInput) (p : Port) → (p.desk.host == h) ≡ true
    → synced core (AtEnd h i) p ≡ sync_kept core.journal core.tables (sync_told h (Some (report_told (report p.side i))))
one_synced core h i p q = grind arith

pub synced_is : (core : Core) (h : ℕ) (i : LinkInput) (ports : List Port) → AreAllDifferent (map host_at ports)
    → flat_map (synced core (AtEnd h i)) ports
    ≡ sync_kept core.journal core.tables (sync_told h (option_map (λ (p : Port). report_told (report p.side i)) (port_at ports h)))
synced_is core h i [] differ = refl
synced_is core h i (p ∷ ports) differ =
    flat_map-cons (synced core (AtEnd h i)) p ports ∙ by (p.desk.host == h) refl (synced_is core h i ports differ.1)
  where
    K : Option Port → List Deed
    K o = sync_kept core.journal core.tables (sync_told h (option_map (λ (p : Port). report_told (report p.side i)) o))

    others : (p.desk.host == h) ≡ true → flat_map (synced core (AtEnd h i)) ports ≡ []
    others q =
        none_synced core h i ports (subst (λ n. AllByRecursion (λ (g : ℕ). g ≢ n) (map host_at ports)) (eqb-true p.desk.host h q) differ.0)

    first : (p.desk.host == h) ≡ true → port_at (p ∷ ports) h ≡ Some p
    first q = rw q refl

    behind : (p.desk.host == h) ≡ false → port_at (p ∷ ports) h ≡ port_at ports h
    behind q = rw q refl

    nothing : (p.desk.host == h) ≡ false → synced core (AtEnd h i) p ≡ []
    nothing q = rw q refl

    by : (b : Bool) → (p.desk.host == h) ≡ b → flat_map (synced core (AtEnd h i)) ports ≡ K (port_at ports h)
        → synced core (AtEnd h i) p ++ flat_map (synced core (AtEnd h i)) ports ≡ K (port_at (p ∷ ports) h)
    by true q later =
        ap (λ l. synced core (AtEnd h i) p ++ l) (others q)
        ∙ (append-nil (synced core (AtEnd h i) p) ∙ (one_synced core h i p q ∙ ap K (sym (first q))))
    by false q later = grind arith

-- where an input never brings one
pub silent_synced : (core : Core) (input : NodeInput) → ((p : Port) → synced core input p ≡ []) → (ports : List Port)
    → flat_map (synced core input) ports ≡ []
silent_synced core input silent [] = refl
silent_synced core input silent (p ∷ ports) =
    flat_map-cons (synced core input) p ports
    ∙ (ap (λ l. l ++ flat_map (synced core input) ports) (silent p) ∙ silent_synced core input silent ports)

silent_at : (core : Core) (h : ℕ) (i : LinkInput) → ((e : Machine) → (report e i).sync ≡ None) → (p : Port) → synced core (AtEnd h i) p ≡ []
silent_at core h i none p = grind arith

pub reset_synced : (core : Core) (h : ℕ) (window : Option ℕ) (ports : List Port) → flat_map (synced core (AtEnd h (Reset window))) ports ≡ []
reset_synced core h window ports = silent_synced core (AtEnd h (Reset window)) (silent_at core h (Reset window) (λ e. refl)) ports

pub start_synced : (core : Core) (h value : ℕ) (ports : List Port) → flat_map (synced core (AtEnd h (Start value))) ports ≡ []
start_synced core h value ports = silent_synced core (AtEnd h (Start value)) (silent_at core h (Start value) (λ e. grind arith)) ports

pub stop_synced : (core : Core) (h : ℕ) (ports : List Port) → flat_map (synced core (AtEnd h Stop)) ports ≡ []
stop_synced core h ports = silent_synced core (AtEnd h Stop) (silent_at core h Stop (λ e. grind arith)) ports

-- ## Hosts

-- an identifier comes from a host that there is
pub sync_of_host : (h : ℕ) (i : LinkInput) (ports : List Port) (told : Option LinkReport) → AreOfHosts ports
    → told ≡ option_map (λ (p : Port). report_told (report p.side i)) (port_at ports h)
    → IfSome (sync_told h told) (λ (pair : ℕ × ℕ). (1 ≤ pair.0) × (pair.0 ≤ 7))
sync_of_host h i ports told hosts is = at (port_at ports h) refl (found_all _ ports h hosts)
  where
    P : Option (ℕ × ℕ) → Type 0
    P o = IfSome o (λ (pair : ℕ × ℕ). (1 ≤ pair.0) × (pair.0 ≤ 7))

    of : (o : Option ℕ) (r : LinkReport) → r.sync ≡ o → (1 ≤ h) × (h ≤ 7) → P (sync_told h (Some r))
    of o r q host = grind arith

    at : (o : Option Port) → port_at ports h ≡ o → IfSome o (λ (p : Port). (1 ≤ p.desk.host) × (p.desk.host ≤ 7)) → P (sync_told h told)
    at None q host = grind arith
    at (Some p) q host =
        let H : ℕ → Type 0 = λ n. (1 ≤ n) × (n ≤ 7) in
        subst (λ (t : Option LinkReport). P (sync_told h t)) (sym (is ∙ ap (option_map (λ (p : Port). report_told (report p.side i))) q))
        (of (report_told (report p.side i)).sync (report_told (report p.side i)) refl (subst H (doing.host_at h ports p q) host))

-- ## Control frames

pub five_few : (ports : List Port) → AreAtMostDue 5 ports → AreFewDue ports
five_few [] few = tt
five_few (p ∷ ports) few = let f = few.0 in (omega (arith, f), five_few ports few.1)

pub come_few : (h : ℕ) (i : LinkInput) → ((e : Machine) → due_count (after_input e i) ≤ due_count e + 1) → (w : Work) → AreAtMostDue 5 w.ports
    → AreFewDue (all_come (AtEnd h i) w).ports
come_few h i more w few = all w.ports few
  where
    all : (ports : List Port) → AreAtMostDue 5 ports → AreFewDue (map (λ (p : Port). has_come p (input_at (AtEnd h i) p)) ports)
    all [] few = tt
    all (p ∷ ports) few = ((let h0 = p.desk.host == h in grind arith), all ports few.1)

-- ## Steps

module _ {N : Type 0} (writes : N → ℕ → List ℕ → Bool → N → Type 0) where
  -- what comes, and what a step does behind it
  pub whole_step : {n : Node N} {m : Stored N} {noted start : List Entry} {short : Bool} {new : N} {S : Work → Type 0} {w : Work} (input : NodeInput)
      (came : Option (ℕ × ℕ)) → IsInStep n noted short start w → n.store.journal.live ≡ true → m ≡ n.store
      → ((plan : Option Plan) → times_out input (all_come input (record w { plan = plan })) ≡ record (times_out input (all_come input w)) { plan = plan })
      → (times_out input (all_come input w)).writes ≡ w.writes
      → flat_map (synced w.core input) w.ports ≡ sync_kept w.core.journal w.core.tables came
      → Brings writes m.journal.nv new S (finishes (sync_kept m.journal.state m.tables came)) (times_out input (all_come input w))
      → Brings writes n.store.journal.nv new S (steps input) w
  whole_step input came u live same planned written syncs b = grind arith
