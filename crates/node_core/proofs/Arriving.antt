-- What comes to an end of a node, and what is noted of it.
use Rattle.node_core.proofs.Words.{AllByRecursion, AreAllDifferent, AreNotes, AtEnd, Bool, Core, EndsStandFor, Entry, IfSome, IsInStep, KeptEnds, LinkInput}
use Rattle.node_core.proofs.Words.{LinkReport, List, Machine, Message, Node, None, Option, PoolState, Port, Seat, SeatsStandFor, Some, Work, [], after_input}
use Rattle.node_core.proofs.Words.{all_come, ap, append-nil, ap₂, arith, eqb-true, false, flat_map, flat_map-cons, got_at, has_come, if◌then◌else◌, input_at}
use Rattle.node_core.proofs.Words.{is_outside, is_some, kept_number, length, length-append, map, noting, oldest, option_map, option_map_or, port_at, refl}
use Rattle.node_core.proofs.Words.{report, report_told, subst, sym, told_at, true, unnumbered, whole_acked, with_port, ℕ, ◌++◌, ◌==◌, ◌∙◌, ◌∷◌, ◌≡◌, ◌≢◌, ◌≤◌}
use Rattle.link_laws.specs.machine.Machine.{got_by}
use Rattle.node_ends.specs.declared.seat.Waiting.{Waiting}
use Rattle.node_ends.specs.Holding.{messages_waiting}
use Rattle.node_ends.proofs.Apart.{input_apart}
use Rattle.node_core.proofs.Notes.{comes_noted, no_notes}
use Rattle.node_core.proofs.Sendables.{found_all}
use Rattle.node_core.proofs.Elsewhere.{host_at, hosts_differ}

-- ## The ends

-- ## What is noted

none_told : (core : Core) (h : ℕ) (i : LinkInput) (ports : List Port) → AllByRecursion (λ (g : ℕ). g ≢ h) (map host_at ports)
    → flat_map (λ (p : Port). told_at core p (input_at (AtEnd h i) p)) ports ≡ []
none_told core h i [] differ = refl
none_told core h i (p ∷ ports) differ =
    flat_map-cons (λ (q : Port). told_at core q (input_at (AtEnd h i) q)) p ports
    ∙ (let h0 = p.desk.host == h in let h1 = none_told core h i ports differ.1 in grind arith)

come_entries : (core : Core) (h : ℕ) (i : LinkInput) (ports : List Port) → AreAllDifferent (map host_at ports)
    → flat_map (λ (p : Port). told_at core p (input_at (AtEnd h i) p)) ports
    ≡ option_map_or (λ (p : Port). told_at core p (Some i)) (port_at ports h) []
come_entries core h i [] differ = refl
come_entries core h i (p ∷ ports) differ =
    flat_map-cons (λ (q : Port). told_at core q (input_at (AtEnd h i) q)) p ports
    ∙ by (p.desk.host == h) refl (come_entries core h i ports differ.1)
  where
    others : (p.desk.host == h) ≡ true → flat_map (λ (q : Port). told_at core q (input_at (AtEnd h i) q)) ports ≡ []
    others q =
        none_told core h i ports (subst (λ n. AllByRecursion (λ (g : ℕ). g ≢ n) (map host_at ports)) (eqb-true p.desk.host h q) differ.0)

    by : (b : Bool) → (p.desk.host == h) ≡ b
        → flat_map (λ (q : Port). told_at core q (input_at (AtEnd h i) q)) ports ≡ option_map_or (λ (q : Port). told_at core q (Some i)) (port_at ports h) []
        → told_at core p (input_at (AtEnd h i) p) ++ flat_map (λ (q : Port). told_at core q (input_at (AtEnd h i) q)) ports
        ≡ option_map_or (λ (q : Port). told_at core q (Some i)) (port_at (p ∷ ports) h) []
    by true q later = rw q (ap (λ es. told_at core p (Some i) ++ es) (others q) ∙ append-nil (told_at core p (Some i)))
    by false q later = rw q later

-- something comes to one end: it changes, and what it tells is noted
pub come_is : (h : ℕ) (i : LinkInput) (w : Work) → AreAllDifferent (map host_at w.ports)
    → noting (option_map_or (λ (p : Port). told_at w.core p (Some i)) (port_at w.ports h) [])
    (record w { ports = with_port h (λ p. has_come p (Some i)) w.ports }) ≡ all_come (AtEnd h i) w
come_is h i w differ =
    ap₂ (λ (es : List Entry) (ports : List Port). noting es (record w { ports = ports })) (sym (come_entries w.core h i w.ports differ))
    (sym (grind arith))

pub changed_here : (h : ℕ) (f : Port → Port) (ports : List Port) (p : Port) → ((q : Port) → (f q).desk.host ≡ q.desk.host)
    → port_at ports h ≡ Some p → port_at (with_port h f ports) h ≡ Some (f p)
changed_here h f [] p same is = cc
changed_here h f (q ∷ ports) p same is = let h0 = q.desk.host == h in let h1 = changed_here h f ports p same in grind arith

pub comes_to : {N : Type 0} {n : Node N} {ends : KeptEnds} {before now start : List Entry} {was short : Bool} {w : Work} (h : ℕ) (i : LinkInput)
    (told : LinkReport) → IsInStep n before was start w → EndsStandFor ends (with_port h (λ p. has_come p (Some i)) w.ports)
    → Some told ≡ option_map (λ (p : Port). report_told (report p.side i)) (port_at w.ports h)
    → ((p : Port) → port_at w.ports h ≡ Some p → told ≡ report_told (report p.side i)
    → AreNotes was short before now (map unnumbered (told_at w.core p (Some i))))
    → IsInStep (record n { ends = ends }) now short start (all_come (AtEnd h i) w)
comes_to {N} {n} {ends} {before} {now} {start} {was} {short} {w} h i told u stands is notes = by (port_at w.ports h) refl
  where
    differ : AreAllDifferent (map host_at w.ports)
    differ = hosts_differ n.ends.pool n.ends.seats w.ports u.ends.hosts u.ends.each

    by : (o : Option Port) → port_at w.ports h ≡ o → IsInStep (record n { ends = ends }) now short start (all_come (AtEnd h i) w)
    by None q = absurd (let z : Some told ≡ None = is ∙ ap (option_map (λ (p : Port). report_told (report p.side i))) q in cc)
    by (Some p) q =
        let z : Some told ≡ Some (report_told (report p.side i)) = is ∙ ap (option_map (λ (p : Port). report_told (report p.side i))) q in
        let P : Work → Type 0 = λ v. IsInStep (record n { ends = ends }) now short start v in
        let f : Port → List Entry = λ p. told_at w.core p (Some i) in
        let ports : List Port = with_port h (λ p. has_come p (Some i)) w.ports in
        subst P (ap (λ (o : Option Port). noting (option_map_or f o []) (record w { ports = ports })) (sym q) ∙ come_is h i w differ)
        (comes_noted (told_at w.core p (Some i)) ports u stands (notes p q cc))

-- where it tells nothing, nothing is noted
pub comes_silently : {N : Type 0} {n : Node N} {ends : KeptEnds} {before start : List Entry} {was : Bool} {w : Work} (h : ℕ) (i : LinkInput)
    → IsInStep n before was start w → EndsStandFor ends (with_port h (λ p. has_come p (Some i)) w.ports)
    → option_map_or (λ (p : Port). told_at w.core p (Some i)) (port_at w.ports h) [] ≡ []
    → IsInStep (record n { ends = ends }) before was start (all_come (AtEnd h i) w)
comes_silently {N} {n} {ends} {before} {start} {was} {w} h i u stands none =
    let ports : List Port = with_port h (λ p. has_come p (Some i)) w.ports in
    subst (λ v. IsInStep (record n { ends = ends }) before was start v) (ap (λ (es : List Entry). noting es (record w { ports = ports })) (sym none)
    ∙ come_is h i w (hosts_differ n.ends.pool n.ends.seats w.ports u.ends.hosts u.ends.each)) (comes_noted [] ports u stands (no_notes was before))

-- where there is no such end nothing comes
pub comes_nowhere : {N : Type 0} {n : Node N} {ends : KeptEnds} {before start : List Entry} {was : Bool} {w : Work} (h : ℕ) (i : LinkInput)
    → IsInStep n before was start w → EndsStandFor ends (with_port h (λ p. has_come p (Some i)) w.ports) → port_at w.ports h ≡ None
    → AreNotes was was before before []
    → IsInStep (record n { ends = ends }) before was start (all_come (AtEnd h i) w)
comes_nowhere {N} {n} {ends} {before} {start} {was} {w} h i u stands none notes =
    let P : Work → Type 0 = λ v. IsInStep (record n { ends = ends }) before was start v in
    let ports : List Port = with_port h (λ p. has_come p (Some i)) w.ports in
    subst P (ap (λ (o : Option Port). noting (option_map_or (λ p. told_at w.core p (Some i)) o []) (record w { ports = ports })) (sym none)
    ∙ come_is h i w (hosts_differ n.ends.pool n.ends.seats w.ports u.ends.hosts u.ends.each)) (comes_noted [] ports u stands notes)

pub no_port : {X : Type 0} (f : Port → X) (o : Option Port) → None ≡ option_map f o → o ≡ None
no_port f o is = grind arith

-- ## The message that an input brought

got_so : (before brought : List Message) → length (before ++ brought) ≤ 1
    → brought ≡ (if is_some (oldest brought) then before ++ brought else [])
got_so before [] few = refl
got_so [] (m ∷ ms) few = refl
got_so (b ∷ before) (m ∷ ms) few = absurd (let l = length-append (b ∷ before) (m ∷ ms) in omega (arith, l, few))

waiting_few : (pool : PoolState) (o : Option Waiting) → length (messages_waiting pool o) ≤ 1
waiting_few pool o = grind arith

each_few : (pool : PoolState) (seats : List Seat) (ports : List Port) → SeatsStandFor pool seats ports
    → AllByRecursion (λ (p : Port). length p.side.got ≤ 1) ports
each_few pool [] [] g = tt
each_few pool [] (p ∷ ports) g = absurd g
each_few pool (s ∷ seats) [] g = absurd g
each_few pool (s ∷ seats) (p ∷ ports) g =
    (omega (arith, (ap (λ (ms : List Message). length ms) g.0.holds.waits), waiting_few pool s.waiting), each_few pool seats ports g.1)

got_few : (ends : KeptEnds) (ports : List Port) (h : ℕ) (p : Port) → EndsStandFor ends ports → port_at ports h ≡ Some p → length p.side.got ≤ 1
got_few ends ports h p e is =
    subst (λ o. IfSome o (λ (q : Port). length q.side.got ≤ 1)) is (found_all _ ports h (each_few ends.pool ends.seats ports e.each))

got_after : (m : Machine) (i : LinkInput) → is_outside i ≡ true → (after_input m i).got ≡ m.got ++ got_by m i
got_after m i out = ap (λ (x : Machine). x.got) (input_apart m m.got i out)

-- the message that waits at an end after an input is the one that it brought, where it brought one
pub brought_is : (ends : KeptEnds) (ports : List Port) (h : ℕ) (i : LinkInput) (p : Port) → is_outside i ≡ true
    → EndsStandFor ends (with_port h (λ q. has_come q (Some i)) ports) → port_at ports h ≡ Some p
    → (report p.side i).got ≡ (if (report_told (report p.side i)).got then got_at (with_port h (λ q. has_come q (Some i)) ports) h else [])
brought_is ends ports h i p out e is =
    let after = changed_here h (λ q. has_come q (Some i)) ports p (λ q. refl) is in
    let got = got_after p.side i out in
    let P : List Message → Type 0 = λ l. length l ≤ 1 in
    got_so p.side.got (got_by p.side i) (subst P got (got_few ends (with_port h (λ q. has_come q (Some i)) ports) h (has_come p (Some i)) e after))
    ∙ ap (λ (l : List Message). if is_some (oldest (got_by p.side i)) then l else [])
    (sym got ∙ ap (λ (o : Option Port). option_map_or (λ (q : Port). q.side.got) o []) (sym after))

-- so many messages are acknowledged there
pub acked_is : (ports : List Port) (h : ℕ) (i : LinkInput) (p : Port) → port_at ports h ≡ Some p
    → option_map_or (λ (q : Port). kept_number (whole_acked q.side)) (port_at (with_port h (λ q. has_come q (Some i)) ports) h) 0
    ≡ kept_number (whole_acked (after_input p.side i))
acked_is ports h i p is =
    ap (λ (o : Option Port). option_map_or (λ (q : Port). kept_number (whole_acked q.side)) o 0)
    (changed_here h (λ q. has_come q (Some i)) ports p (λ q. refl) is)
