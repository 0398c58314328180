-- Where no session of an end has ended in a step, nothing is left to settle but the identifier that came.
use Rattle.node_core.proofs.Words.{AllByRecursion, Bool, Creation, Deed, List, None, Option, Port, Releases, Some, Work, [], all_done, all_owed, ap, ap₂, arith}
use Rattle.node_core.proofs.Words.{asked_at, false, filter, filter_map, flat_map, forgets, forgotten, is_over, is_over_at, left_over, list_any, map, owed, refl}
use Rattle.node_core.proofs.Words.{settles, unless_cut, without_notice, ℕ, ◌&&◌, ◌++◌, ◌==◌, ◌||◌, ◌∙◌, ◌∷◌, ◌≡◌}
use Rattle.gate_answers.specs.declared.response.Response.TheVariants as response
use Rattle.node_machine.specs.Node.{is_forgotten}
use Rattle.node_core.proofs.Tasks.{not_over}

-- ## Ends whose sessions go on

abbrev GoesOn : Port → Type 0
GoesOn p = is_over p ≡ false

neither : (a b : Bool) → (a || b) ≡ false → (a ≡ false) × (b ≡ false)
neither a b q = grind arith

all_go_on : (ports : List Port) → list_any is_over ports ≡ false → AllByRecursion GoesOn ports
all_go_on [] q = tt
all_go_on (p ∷ ports) q = let x = neither (is_over p) (list_any is_over ports) q in (x.0, all_go_on ports x.1)

not_both : (a b : Bool) → b ≡ false → (a && b) ≡ false
not_both a b q = grind arith

goes_on_at : (h : ℕ) (ports : List Port) → AllByRecursion GoesOn ports → is_over_at ports h ≡ false
goes_on_at h [] a = refl
goes_on_at h (p ∷ ports) a = ap₂ (λ x y. x || y) (not_both (p.desk.host == h) (is_over p) a.0) (goes_on_at h ports a.1)

-- ## Nothing is forgotten and nothing is owed

none_chosen : {A : Type 0} (f : A → Bool) (xs : List A) → ((x : A) → f x ≡ false) → filter f xs ≡ []
none_chosen f [] none = refl
none_chosen f (x ∷ xs) none = rw (none x) (none_chosen f xs none)

none_forgotten : (ports : List Port) → AllByRecursion GoesOn ports → forgotten ports ≡ []
none_forgotten ports a =
    ap (map (λ (c : Creation). Releases c.asker))
    (none_chosen (λ (c : Creation). is_over_at ports c.asker) (filter_map asked_at ports) (λ c. goes_on_at c.asker ports a))

not_forgotten : (all : List Port) → AllByRecursion GoesOn all → (o : Option Creation) → is_forgotten all o ≡ false
not_forgotten all a None = refl
not_forgotten all a (Some c) = goes_on_at c.asker all a

forgets_same : (all : List Port) → AllByRecursion GoesOn all → (p : Port) → forgets all p ≡ p
forgets_same all a p = rw (not_forgotten all a (asked_at p)) refl

all_same : (all : List Port) → AllByRecursion GoesOn all → (ports : List Port) → map (forgets all) ports ≡ ports
all_same all a [] = refl
all_same all a (p ∷ ports) = ap₂ (λ (q : Port) qs. q ∷ qs) (forgets_same all a p) (all_same all a ports)

without_same : (p : Port) → is_over p ≡ false → without_notice p ≡ p
without_same p q = rw q refl

all_noticed : (ports : List Port) → AllByRecursion GoesOn ports → map without_notice ports ≡ ports
all_noticed [] a = refl
all_noticed (p ∷ ports) a = ap₂ (λ (q : Port) qs. q ∷ qs) (without_same p a.0) (all_noticed ports a.1)

none_ended : (ports : List Port) → AllByRecursion GoesOn ports → filter (λ (p : Port). p.ended) ports ≡ []
none_ended [] a = refl
none_ended (p ∷ ports) a = rw (neither p.ended p.late a.0).0 (none_ended ports a.1)

none_late : (ports : List Port) → AllByRecursion GoesOn ports → filter (λ (p : Port). p.late) ports ≡ []
none_late [] a = refl
none_late (p ∷ ports) a = rw (neither p.ended p.late a.0).1 (none_late ports a.1)

none_owed : (ports : List Port) → AllByRecursion GoesOn ports → all_owed ports ≡ []
none_owed ports a =
    ap₂ (λ es ls. flat_map (λ p. owed response.NotConnected (asked_at p)) es ++ flat_map (λ p. owed response.Timeout (asked_at p)) ls)
    (none_ended ports a) (none_late ports a)

-- ## All of it

undone : (w : Work) → unless_cut (all_done 0 []) w ≡ w
undone w = grind arith

-- no session ended
pub nothing_ended : (syncs : List Deed) (w : Work) → list_any is_over w.ports ≡ false → settles syncs w ≡ all_done 0 syncs w
nothing_ended syncs w q =
    let a = all_go_on w.ports q in
    let left : map (forgets w.ports) w.ports ≡ w.ports = all_same w.ports a w.ports in
    let kept : left_over w ≡ w =
    ap₂ (λ c ps. record w { core = c; ports = ps }) (not_over w.core w.ports q) (ap (map without_notice) left ∙ all_noticed w.ports a) in
    let freed : all_done 0 (forgotten w.ports) (left_over w) ≡ w = ap₂ (λ ds v. all_done 0 ds v) (none_forgotten w.ports a) kept in
    ap₂ (λ ds v. unless_cut (all_done 0 ds) v) (ap all_owed left ∙ none_owed w.ports a) (ap (all_done 0 syncs) freed) ∙ undone (all_done 0 syncs w)
