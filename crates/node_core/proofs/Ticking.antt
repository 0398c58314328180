-- Something comes to all ends of a node, one after another.
use Rattle.node_core.proofs.Words.{AllByRecursion, AreAllDifferent, AreFewDue, AtEnd, EndsStandFor, Entry, FewAreDue, KeptEnds, List, None, Option, Port, Some}
use Rattle.node_core.proofs.Words.{Tick, TimePasses, Work, [], all_changed, all_come, ap, append-nil, append_assoc, ap₂, arith, at_place, eq-eqb, false}
use Rattle.node_core.proofs.Words.{first_changed, flat_map, flat_map-cons, has_come, length, map, next_changed, next_there, none_changed, noting, option_map}
use Rattle.node_core.proofs.Words.{port_at, refl, slice_get, subst, suc, sym, take, told_at, with_port, zero, ℕ, ◌++◌, ◌==◌, ◌∙◌, ◌∷◌, ◌≡◌, ◌≢◌, ◌≤◌}
use Rattle.node_ends.proofs.Seated.{as_many}
use Rattle.node_core.proofs.Elsewhere.{host_at}
use Rattle.node_core.proofs.Arriving.{come_is}

-- ## The end at a place

differs : (a b : ℕ) → (a ≡ b → ⊥) → (a == b) ≡ false
differs a b n = grind arith

pub none_with : (h : ℕ) (f : Port → Port) (ports : List Port) → AllByRecursion (λ (g : ℕ). g ≢ h) (map host_at ports) → with_port h f ports ≡ ports
none_with h f [] differ = refl
none_with h f (p ∷ ports) differ = ap₂ (λ (q : Port) qs. q ∷ qs) (rw (differs p.desk.host h (λ e. differ.0 e)) refl) (none_with h f ports differ.1)

all_there : (P : ℕ → Type 0) (i : ℕ) (ports : List Port) (p : Port) → slice_get ports i ≡ Some p → AllByRecursion P (map host_at ports) → P p.desk.host
all_there P i [] p is all = cc
all_there P zero (q ∷ ports) p is all = let e : q ≡ p = cc in subst (λ (x : Port). P x.desk.host) e all.0
all_there P (suc i) (q ∷ ports) p is all = all_there P i ports p is all.1

pub at_is_with : (i : ℕ) (f : Port → Port) (ports : List Port) (p : Port) → AreAllDifferent (map host_at ports) → slice_get ports i ≡ Some p
    → at_place i f ports ≡ with_port p.desk.host f ports
at_is_with i f [] p differ is = cc
at_is_with zero f (q ∷ ports) p differ is =
    let e : q ≡ p = cc in
    let P : Port → Type 0 = λ x. f q ∷ ports ≡ with_port x.desk.host f (q ∷ ports) in
    subst P e (ap₂ (λ (x : Port) xs. x ∷ xs) (rw (eq-eqb q.desk.host q.desk.host refl) refl) (sym (none_with q.desk.host f ports differ.0)))
at_is_with (suc i) f (q ∷ ports) p differ is =
    let other = differs q.desk.host p.desk.host (λ e. all_there (λ g. g ≢ q.desk.host) i ports p is differ.0 (sym e)) in
    ap₂ (λ (x : Port) xs. x ∷ xs) (rw other refl) (at_is_with i f ports p differ.1 is)

pub found_there : (i : ℕ) (ports : List Port) (p : Port) → AreAllDifferent (map host_at ports) → slice_get ports i ≡ Some p
    → port_at ports p.desk.host ≡ Some p
found_there i [] p differ is = cc
found_there zero (q ∷ ports) p differ is = grind arith
found_there (suc i) (q ∷ ports) p differ is =
    rw (differs q.desk.host p.desk.host (λ e. all_there (λ g. g ≢ q.desk.host) i ports p is differ.0 (sym e))) (found_there i ports p differ.1 is)

pub few_there : (i : ℕ) (ports : List Port) → AreFewDue ports → FewAreDue (slice_get ports i)
few_there i [] few = tt
few_there zero (p ∷ ports) few = few.0
few_there (suc i) (p ∷ ports) few = few_there i ports few.1

-- ## All ends

first_hosts : (i : ℕ) (f : Port → Port) (ports : List Port) → ((p : Port) → (f p).desk.host ≡ p.desk.host)
    → map host_at (first_changed i f ports) ≡ map host_at ports
first_hosts zero f [] same = refl
first_hosts (suc i) f [] same = refl
first_hosts zero f (p ∷ ports) same = refl
first_hosts (suc i) f (p ∷ ports) same = ap₂ (λ (n : ℕ) ns. n ∷ ns) (same p) (first_hosts i f ports same)

pub next_told : (t : Port → List Entry) (i : ℕ) (ports : List Port) (p : Port) → slice_get ports i ≡ Some p
    → flat_map t (take (suc i) ports) ≡ flat_map t (take i ports) ++ t p
next_told t i [] p is = cc
next_told t zero (q ∷ ports) p is = flat_map-cons t q [] ∙ (append-nil (t q) ∙ ap t cc)
next_told t (suc i) (q ∷ ports) p is =
    flat_map-cons t q (take (suc i) ports)
    ∙ (ap (λ l. t q ++ l) (next_told t i ports p is)
    ∙ (sym (append_assoc (t q) (flat_map t (take i ports)) (t p)) ∙ ap (λ l. l ++ t p) (sym (flat_map-cons t q (take i ports)))))

pub all_told : (t : Port → List Entry) (i : ℕ) (ports : List Port) → length ports ≤ i → flat_map t (take i ports) ≡ flat_map t ports
all_told t zero [] past = refl
all_told t (suc i) [] past = refl
all_told t zero (p ∷ ports) past = absurd (omega (arith, past))
all_told t (suc i) (p ∷ ports) past =
    flat_map-cons t p (take i ports) ∙ (ap (λ l. t p ++ l) (all_told t i ports (omega (arith, past))) ∙ sym (flat_map-cons t p ports))

-- time has passed at the first ends
abbrev pub ticks_so_far : ℕ → Work → Work
ticks_so_far i w =
    noting (flat_map (λ (p : Port). told_at w.core p (Some Tick)) (take i w.ports))
    (record w { ports = first_changed i (λ p. has_come p (Some Tick)) w.ports })

pub no_tick_yet : (w : Work) → ticks_so_far 0 w ≡ w
no_tick_yet w =
    ap₂ (λ (es : List Entry) (ports : List Port). record w { ports = ports; entries = es }) (append-nil w.entries)
    (none_changed (λ p. has_come p (Some Tick)) w.ports)

pub next_tick : (i : ℕ) (w : Work) (p : Port) → AreAllDifferent (map host_at w.ports) → slice_get w.ports i ≡ Some p
    → all_come (AtEnd p.desk.host Tick) (ticks_so_far i w) ≡ ticks_so_far (suc i) w
next_tick i w p differ is =
    let f : Port → Port = λ q. has_come q (Some Tick) in
    let t : Port → List Entry = λ q. told_at w.core q (Some Tick) in
    let ports : List Port = first_changed i f w.ports in
    let D : List ℕ → Type 0 = λ hosts. AreAllDifferent hosts in
    let differ_here = subst D (sym (first_hosts i f w.ports (λ q. refl))) differ in
    let here : slice_get ports i ≡ Some p = next_there i f w.ports ∙ is in
    let found = found_there i ports p differ_here here in
    let changed : with_port p.desk.host f ports ≡ first_changed (suc i) f w.ports =
    sym (at_is_with i f ports p differ_here here) ∙ next_changed i f w.ports in
    let es : List Entry = flat_map t (take i w.ports) in
    let told : (w.entries ++ es) ++ t p ≡ w.entries ++ flat_map t (take (suc i) w.ports) =
    append_assoc w.entries es (t p) ∙ ap (λ l. w.entries ++ l) (sym (next_told t i w.ports p is)) in
    sym (come_is p.desk.host Tick (ticks_so_far i w) differ_here)
    ∙ (grind arith)

pub all_ticked : (i : ℕ) (w : Work) → length w.ports ≤ i → ticks_so_far i w ≡ all_come TimePasses w
all_ticked i w past =
    ap₂ (λ (es : List Entry) (ports : List Port). noting es (record w { ports = ports }))
    (all_told (λ (p : Port). told_at w.core p (Some Tick)) i w.ports past) (all_changed i (λ p. has_come p (Some Tick)) w.ports past)

pub same_host : (h : ℕ) (ports : List Port) (i : ℕ) (p : Port) → Some h ≡ option_map host_at (slice_get ports i) → slice_get ports i ≡ Some p
    → h ≡ p.desk.host
same_host h ports i p is at = let z : Some h ≡ Some p.desk.host = is ∙ ap (option_map host_at) at in cc

pub is_some_there : {X P : Type 0} (f : Port → X) (o : Option Port) (p : Port) → None ≡ option_map f o → o ≡ Some p → P
is_some_there f o p none is = absurd (let z : None ≡ Some (f p) = none ∙ ap (option_map f) is in cc)

pub is_none_there : {X P : Type 0} (f : Port → X) (o : Option Port) (x : X) → Some x ≡ option_map f o → o ≡ None → P
is_none_there f o x some is = absurd (let z : Some x ≡ None = some ∙ ap (option_map f) is in cc)

-- where there is no end at a place, all have come
pub ticks_past : (i : ℕ) (w : Work) → length w.ports ≤ i → ticks_so_far i w ≡ ticks_so_far (suc i) w
ticks_past i w past = all_ticked i w past ∙ sym (all_ticked (suc i) w (omega (arith, past)))

pub none_past : (i : ℕ) (ports : List Port) → slice_get ports i ≡ None → length ports ≤ i
none_past i [] none = omega arith
none_past zero (p ∷ ports) none = cc
none_past (suc i) (p ∷ ports) none = let l = none_past i ports none in omega (arith, l)

pub tick_there : (i : ℕ) (w : Work) → slice_get (ticks_so_far i w).ports i ≡ slice_get w.ports i
tick_there i w = next_there i (λ p. has_come p (Some Tick)) w.ports

pub either_there : {P : Type 0} (o : Option Port) {x : Option Port} → x ≡ o → ((p : Port) → x ≡ Some p → P) → (x ≡ None → P) → P
either_there o is some none = grind arith

-- there are at most seven ends
pub many_ports : (ends : KeptEnds) (ports : List Port) → EndsStandFor ends ports → length ports ≤ 7
many_ports ends ports e = omega (arith, as_many ends.pool ends.seats ports e.each, e.few)
