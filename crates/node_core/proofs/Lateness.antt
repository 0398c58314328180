-- Notices grow older at all ends of a node, and links of late ones are reset.
use Rattle.node_core.proofs.Words.{AllByRecursion, AreFewDue, AreYoung, Bool, Core, EndsStandFor, Entry, IsInStep, IsReached, KeptEnds, LinkReport, List, Node}
use Rattle.node_core.proofs.Words.{None, Option, PoolState, Port, Refused, Reset, Seat, SeatsStandFor, Some, TimePasses, Work, [], after_input, all_changed, ap}
use Rattle.node_core.proofs.Words.{append-nil, append_assoc, ap₂, arith, at_place, entries_for, false, first_changed, flat_map, flat_map-cons, is_late, is_some}
use Rattle.node_core.proofs.Words.{kept_number, late_told, length, map, next_changed, next_there, none_changed, noting, option_map_or, own_side, port_at, refl}
use Rattle.node_core.proofs.Words.{report, report_told, reset_late, reset_refusal, slice_get, subst, suc, sym, take, times_out, told, told_late, true}
use Rattle.node_core.proofs.Words.{whole_acked, with_older, zero, ℕ, ◌++◌, ◌||◌, ◌∙◌, ◌∷◌, ◌≡◌, ◌≤◌}
use Rattle.swp_base.specs.declared.link_terms.Cause.TheVariants.{Asked}
use Rattle.link_laws.specs.machine.Machine.{if_up}
use Rattle.link_end.specs.Reports.{nothing_told}
use Rattle.node_ends.specs.Desks.{IsYoung, have_notices}
use Rattle.node_ends.proofs.Counting.{is_sound, reset_report}
use Rattle.node_core.proofs.Elsewhere.{hosts_differ}
use Rattle.node_core.proofs.Ticking.{next_told, all_told, found_there}

-- the ends of a node in a step have changed
pub ends_changed : {N : Type 0} {n : Node N} {ends : KeptEnds} {noted start : List Entry} {short : Bool} {w : Work} (ports : List Port)
    → IsInStep n noted short start w → EndsStandFor ends ports → IsInStep (record n { ends = ends }) noted short start (record w { ports = ports })
ends_changed ports u stands = grind arith

-- ## Older notices

pub young_there : (i : ℕ) (ports : List Port) → AreYoung ports → IsYoung (slice_get ports i)
young_there i [] young = omega arith
young_there zero (p ∷ ports) young = young.0
young_there (suc i) (p ∷ ports) young = young_there i ports young.1

pub young_next : (i : ℕ) (ports : List Port) → AreYoung ports → IsYoung (slice_get (first_changed i with_older ports) i)
young_next i ports young =
    let P : Option Port → Type 0 = λ o. IsYoung o in subst P (sym (next_there i with_older ports)) (young_there i ports young)

pub few_older : (ports : List Port) → AreFewDue ports → AreFewDue (map with_older ports)
few_older [] few = tt
few_older (p ∷ ports) few = (few.0, few_older ports few.1)

-- ## Late notices

-- those at the first places are reset
abbrev pub late_so_far : ℕ → Work → Work
late_so_far i w = noting (flat_map (told_late w.core) (take i w.ports)) (record w { ports = first_changed i reset_late w.ports })

pub no_reset_yet : (w : Work) → late_so_far 0 w ≡ w
no_reset_yet w =
    ap₂ (λ (es : List Entry) (ports : List Port). record w { ports = ports; entries = es }) (append-nil w.entries) (none_changed reset_late w.ports)

pub next_reset : (i : ℕ) (w : Work) (p : Port) → slice_get w.ports i ≡ Some p
    → noting (told_late w.core p) (record (late_so_far i w) { ports = at_place i reset_late (late_so_far i w).ports }) ≡ late_so_far (suc i) w
next_reset i w p is =
    let es : List Entry = flat_map (told_late w.core) (take i w.ports) in
    ap₂ (λ (l : List Entry) (ports : List Port). record w { ports = ports; entries = l })
    (append_assoc w.entries es (told_late w.core p) ∙ ap (λ l. w.entries ++ l) (sym (next_told (told_late w.core) i w.ports p is)))
    (next_changed i reset_late w.ports)

pub all_reset : (i : ℕ) (w : Work) → length w.ports ≤ i
    → late_so_far i w ≡ noting (flat_map (told_late w.core) w.ports) (record w { ports = map reset_late w.ports })
all_reset i w past =
    ap₂ (λ (es : List Entry) (ports : List Port). noting es (record w { ports = ports })) (all_told (told_late w.core) i w.ports past)
    (all_changed i reset_late w.ports past)

pub reset_past : (i : ℕ) (w : Work) → length w.ports ≤ i → late_so_far i w ≡ late_so_far (suc i) w
reset_past i w past = all_reset i w past ∙ sym (all_reset (suc i) w (omega (arith, past)))

pub reset_there : (i : ℕ) (w : Work) → slice_get (late_so_far i w).ports i ≡ slice_get w.ports i
reset_there i w = next_there i reset_late w.ports

-- ## One of them

pub silent_late : (core : Core) (p : Port) → late_told (Some p) ≡ None → told_late core p ≡ []
silent_late core p none = grind arith

-- what is told of one that isn't refused is the report of the reset
pub late_report : (p : Port) (r : LinkReport) → IsReached p.side → late_told (Some p) ≡ Some r
    → (is_late p ≡ true) × (r ≡ report_told (report p.side (Reset None)))
late_report p r reached some = by (is_late p) (reset_refusal p.side) refl refl
  where
    by : (b : Bool) (o : Option Refused) → is_late p ≡ b → reset_refusal p.side ≡ o
        → (is_late p ≡ true) × (r ≡ report_told (report p.side (Reset None)))
    by false o late q = absurd (let z : None ≡ Some r = rw late at some in cc)
    by true (Some why) late q = absurd (let z : None ≡ Some r = rw (late, q) at some in cc)
    by true None late q =
        let z : Some (record nothing_told { ended = if_up p.side.shdlc Asked }) ≡ Some r = rw (late, q) at some in
        let e : record nothing_told { ended = if_up p.side.shdlc Asked } ≡ r = cc in
        (late, sym e ∙ reset_report p.side None (is_sound p.side reached) q)

each_reached : (pool : PoolState) (seats : List Seat) (ports : List Port) (i : ℕ) (p : Port) → SeatsStandFor pool seats ports
    → slice_get ports i ≡ Some p → IsReached p.side
each_reached pool [] [] i p g is = cc
each_reached pool [] (q ∷ ports) i p g is = absurd g
each_reached pool (s ∷ seats) [] i p g is = absurd g
each_reached pool (s ∷ seats) (q ∷ ports) zero p g is = let e : q ≡ p = cc in subst (λ (x : Port). IsReached x.side) e g.0.reached
each_reached pool (s ∷ seats) (q ∷ ports) (suc i) p g is = each_reached pool seats ports i p g.1 is

pub reached_there : (ends : KeptEnds) (ports : List Port) (i : ℕ) (p : Port) → EndsStandFor ends ports → slice_get ports i ≡ Some p → IsReached p.side
reached_there ends ports i p e is = each_reached ends.pool ends.seats ports i p e.each is

placed_there : (i : ℕ) (f : Port → Port) (ports : List Port) (p : Port) → slice_get ports i ≡ Some p → slice_get (at_place i f ports) i ≡ Some (f p)
placed_there i f [] p is = cc
placed_there zero f (q ∷ ports) p is = let e : q ≡ p = cc in ap (λ (x : Port). Some (f x)) e
placed_there (suc i) f (q ∷ ports) p is = placed_there i f ports p is

late_host : (p : Port) → is_late p ≡ true → (reset_late p).desk.host ≡ p.desk.host
late_host p late = rw late refl

pub late_tells : (core : Core) (p : Port) → is_late p ≡ true
    → entries_for p.desk.host (told (own_side core) p.session (report p.side (Reset None)) (whole_acked (after_input p.side (Reset None))))
    ≡ told_late core p
late_tells core p late = rw late refl

-- so many messages are acknowledged there
pub late_acked : (ends : KeptEnds) (ports : List Port) (i h : ℕ) (p : Port) → EndsStandFor ends (at_place i reset_late ports) → slice_get ports i ≡ Some p
    → is_late p ≡ true → h ≡ p.desk.host
    → option_map_or (λ (q : Port). kept_number (whole_acked q.side)) (port_at (at_place i reset_late ports) h) 0
    ≡ kept_number (whole_acked (after_input p.side (Reset None)))
late_acked ends ports i h p e is late same =
    let all : List Port = at_place i reset_late ports in
    let found = found_there i all (reset_late p) (hosts_differ ends.pool ends.seats all e.hosts e.each) (placed_there i reset_late ports p is) in
    ap (λ (n : ℕ). option_map_or (λ (q : Port). kept_number (whole_acked q.side)) (port_at all n) 0) (same ∙ sym (late_host p late))
    ∙ (grind arith)

-- ## No notices

neither : (a b : Bool) → (a || b) ≡ false → (a ≡ false) × (b ≡ false)
neither a b q = grind arith

-- an end without a notice stays as it is
none_here : (core : Core) (p : Port) → is_some p.desk.notice ≡ false → (with_older p ≡ p) × (reset_late p ≡ p) × (told_late core p ≡ [])
none_here core p none = grind arith

none_older : (core : Core) (ports : List Port) → have_notices ports ≡ false → map with_older ports ≡ ports
none_older core [] none = refl
none_older core (p ∷ ports) none =
    let n = neither (is_some p.desk.notice) (have_notices ports) none in
    ap₂ (λ (q : Port) qs. q ∷ qs) (none_here core p n.0).0 (none_older core ports n.1)

none_reset : (core : Core) (ports : List Port) → have_notices ports ≡ false → map reset_late ports ≡ ports
none_reset core [] none = refl
none_reset core (p ∷ ports) none =
    let n = neither (is_some p.desk.notice) (have_notices ports) none in
    ap₂ (λ (q : Port) qs. q ∷ qs) (none_here core p n.0).1 (none_reset core ports n.1)

none_told : (core : Core) (ports : List Port) → have_notices ports ≡ false → flat_map (told_late core) ports ≡ []
none_told core [] none = refl
none_told core (p ∷ ports) none =
    let n = neither (is_some p.desk.notice) (have_notices ports) none in
    flat_map-cons (told_late core) p ports ∙ ap₂ (λ (a b : List Entry). a ++ b) (none_here core p n.0).2 (none_told core ports n.1)

-- without a notice nothing times out
pub none_times_out : (w : Work) → have_notices w.ports ≡ false → times_out TimePasses w ≡ w
none_times_out w none =
    ap (λ (l : List Port). noting (flat_map (told_late w.core) l) (record w { ports = map reset_late l })) (none_older w.core w.ports none)
    ∙ (ap₂ (λ (es : List Entry) (l : List Port). noting es (record w { ports = l })) (none_told w.core w.ports none) (none_reset w.core w.ports none)
    ∙ ap (λ (es : List Entry). record w { entries = es }) (append-nil w.entries))

-- ## A reset that is asked for

pub reached_each : (pool : PoolState) (seats : List Seat) (ports : List Port) → SeatsStandFor pool seats ports
    → AllByRecursion (λ (p : Port). IsReached p.side) ports
reached_each pool [] [] g = tt
reached_each pool [] (p ∷ ports) g = absurd g
reached_each pool (s ∷ seats) [] g = absurd g
reached_each pool (s ∷ seats) (p ∷ ports) g = (g.0.reached, reached_each pool seats ports g.1)
