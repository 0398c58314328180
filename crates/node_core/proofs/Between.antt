-- A node between its steps: what is kept of its ends then, and that all its frames go out one by one.
use Rattle.std.proofs.lemmas.List.{length-map}
use Rattle.node_core.proofs.Words.{AllByRecursion, AreAllDifferent, AreAtMostDue, AreHeldWhileOneWaits, AreInTime, BeginsStep, Bool, Core, CoreStandsFor}
use Rattle.node_core.proofs.Words.{EndsStandFor, Entry, HasNoneEnded, HasStepped, IsAllSent, IsHeldWhileOneWaits, IsInStep, IsNodeInOrder, IsReached, IsTrue}
use Rattle.node_core.proofs.Words.{IsUsable, KeptEnds, List, Machine, Node, None, Option, PoolState, Port, RunsAs, Seat, SeatsStandFor, Some, Stored, Work, []}
use Rattle.node_core.proofs.Words.{ap, append-nil, ap₂, arith, at_place, between, due_count, false, frame_fetched, has_sent, length, map}
use Rattle.node_core.proofs.Words.{next_frame, not, one_more_error, option_map, port_at, refl, sent_all, slice_get, subst, sym, true, with_port, ℕ, ◌&&◌, ◌++◌}
use Rattle.node_core.proofs.Words.{◌+◌, ◌==◌, ◌∙◌, ◌∷◌, ◌≡◌, ◌≤◌}
use Rattle.swp_base.specs.declared.control_frames.Control.{Control}
use Rattle.shdlc_core.specs.declared.answers.Due.{Due}
use Rattle.shdlc_core.specs.Machine.{all_frames, fetched, fragment_due, Fragment}
use Rattle.link_laws.specs.machine.Machine.{ActDue, among, frames_out, nearer}
use Rattle.link_laws.specs.machine.AtRest.{end_rests}
use Rattle.link_laws.specs.machine.Laws.{fetches, after_fetches, most_fetches}
use Rattle.link_laws.proofs.machine.Reports.{fetched_all, left_all}
use Rattle.link_laws.proofs.places.Joined.{idle_after, left}
use Rattle.node_machine.specs.Node.{with_error}
use Rattle.node_ends.specs.Ends.{are_at_rest, frame_at}
use Rattle.node_ends.specs.Desks.{age_at}
use Rattle.node_ends.proofs.Sending.{sent_same}
use Rattle.node_core.specs.Running.{SendsOneByOne}
use Rattle.node_core.proofs.Elsewhere.{host_at}
use Rattle.node_core.proofs.EndKinds.{kind_at, port_kinds, sent_kind, kept_kinds}
use Rattle.node_core.proofs.Ordering.{in_order_at}
use Rattle.node_core.proofs.Ticking.{at_is_with, found_there}
use Rattle.node_core.proofs.Lateness.{reached_each}
use Rattle.node_core.proofs.Lasting.{Of, OfAll, Ready, Rests, port_so}

-- ## KeptEnds

-- an end as a step begins
abbrev pub begun : Port → Port
begun p = record p { late = false; ended = false; turns = [] }

seats_kept : (pool : PoolState) (seats : List Seat) (ports : List Port) → SeatsStandFor pool seats (map begun ports)
    → SeatsStandFor pool seats (map between ports)
seats_kept pool [] [] g = tt
seats_kept pool [] (p ∷ ports) g = absurd g
seats_kept pool (s ∷ seats) [] g = absurd g
seats_kept pool (s ∷ seats) (p ∷ ports) g = (grind arith, seats_kept pool seats ports g.1)

seats_back : (pool : PoolState) (seats : List Seat) (ports : List Port) → SeatsStandFor pool seats (map between ports) → HasNoneEnded ports
    → SeatsStandFor pool seats ports
seats_back pool [] [] g none = tt
seats_back pool [] (p ∷ ports) g none = absurd g
seats_back pool (s ∷ seats) [] g none = absurd g
seats_back pool (s ∷ seats) (p ∷ ports) g none = (grind arith, seats_back pool seats ports g.1 none.1)

-- what is kept of ends as a step begins
pub ends_kept : (ends : KeptEnds) (ports : List Port) → EndsStandFor ends (map begun ports) → EndsStandFor ends (map between ports)
ends_kept ends ports e = record { each = seats_kept ends.pool ends.seats ports e.each; owners = e.owners; hosts = e.hosts; few = e.few }

-- and of ends in which nothing ended
pub ends_back : (ends : KeptEnds) (ports : List Port) → EndsStandFor ends (map between ports) → HasNoneEnded ports → EndsStandFor ends ports
ends_back ends ports e none = record { each = seats_back ends.pool ends.seats ports e.each none; owners = e.owners; hosts = e.hosts; few = e.few }

-- what is kept is kept again
pub kept_twice : (ports : List Port) → map between (map between ports) ≡ map between ports
kept_twice [] = refl
kept_twice (p ∷ ports) = ap (λ ps. between p ∷ ps) (kept_twice ports)

pub kept_none_ended : (ports : List Port) → HasNoneEnded (map between ports)
kept_none_ended [] = tt
kept_none_ended (p ∷ ports) = ((refl, refl), kept_none_ended ports)

-- a change of one end that has nothing to do with its step
pub kept_with : (h : ℕ) (f : Port → Port) → ((p : Port) → between (f p) ≡ f (between p)) → (ports : List Port)
    → map between (with_port h f ports) ≡ with_port h f (map between ports)
kept_with h f same [] = refl
kept_with h f same (p ∷ ports) = ap₂ (λ (q : Port) qs. q ∷ qs) (let h0 = p.desk.host == h in grind arith) (kept_with h f same ports)

-- ## What is so of them

-- few control frames wait at each end, its notice is in time, and it is held while a message waits there
pub runs_rest : (ports : List Port) → AreAtMostDue 5 ports → AreInTime ports → AreHeldWhileOneWaits ports → OfAll (Rests 4) ports
runs_rest [] few time held = tt
runs_rest (p ∷ ports) few time held = (((few.0, time.0), held.0), runs_rest ports few.1 time.1 held.1)

pub rest_few : (n : ℕ) (ports : List Port) → n ≤ 4 → OfAll (Rests n) ports → AreAtMostDue 5 ports
rest_few n [] less all = tt
rest_few n (p ∷ ports) less all = let few = all.0.0.0 in (omega (arith, less, few), rest_few n ports less all.1)

pub rest_in_time : (n : ℕ) (ports : List Port) → OfAll (Rests n) ports → AreInTime ports
rest_in_time n [] all = tt
rest_in_time n (p ∷ ports) all = (all.0.0.1, rest_in_time n ports all.1)

pub rest_held : (n : ℕ) (ports : List Port) → OfAll (Rests n) ports → AreHeldWhileOneWaits ports
rest_held n [] all = tt
rest_held n (p ∷ ports) all = (all.0.1, rest_held n ports all.1)

-- ## What is kept of a store

pub usable_with : {N : Type 0} {s t : Stored N} → t ≡ s → IsUsable s → IsUsable t
usable_with {N} same is = let P : Stored N → Type 0 = λ s. IsUsable s in subst P (sym same) is

pub core_with : {N : Type 0} {n n2 : Node N} {core : Core} → n2.store ≡ n.store → n2.tasks ≡ n.tasks → CoreStandsFor n core
    → CoreStandsFor n2 core
core_with store tasks k = grind arith

-- a node runs, whose ends rest
pub runs_so : {N : Type 0} {n : Node N} {core : Core} (k : ℕ) (ports : List Port) → k ≤ 4 → IsUsable n.store → IsTrue n.store.journal.live
    → core.node ≡ n.number → CoreStandsFor n core → EndsStandFor n.ends (map between ports) → IsNodeInOrder core ports → OfAll (Rests k) ports
    → RunsAs n core ports
runs_so k ports less usable live number stands ends order all = record {
  usable = usable;
  live = live;
  node = number;
  stands = stands;
  ends = ends;
  order = order;
  few = rest_few k ports less all;
  in_time = rest_in_time k ports all;
  held = rest_held k ports all;
}

-- ## Frames

no_frames : (n : ℕ) (e : Machine) → next_frame e ≡ None → fetches n e ≡ []
no_frames n e none = grind arith

never_none : (xs : List Control) (y : Control) (ys : List Control) → xs ++ y ∷ ys ≡ [] → ⊥
never_none [] y ys is = cc
never_none (x ∷ xs) y ys is = cc

-- the frames that are fetched one after another are all that are due, and behind them all are sent
record GoOut (e : Machine) : Type 0 where
  frames : fetches (most_fetches e) e ≡ frames_out e
  rest : after_fetches (most_fetches e) e ≡ sent_all e

go_out : (e : Machine) → IsReached e → length e.shdlc.due ≤ 12 → GoOut e
go_out e reached few =
    let few_there = subst (λ m. length m.shdlc.due ≤ 12) reached.is few in
    subst (λ m. GoOut m) (sym reached.is) (record {
      frames = fetched_all reached.role reached.inputs few_there;
      rest = left_all reached.role reached.inputs few_there;
    })

-- where none is to be sent, none waits
pub none_due : (e : Machine) → IsReached e → length e.shdlc.due ≤ 12 → next_frame e ≡ None → due_count e ≡ 0
none_due e reached few none = by e.acts refl e.shdlc.due refl
  where
    out : among 0 e.acts (all_frames e.shdlc) ≡ []
    out = sym (go_out e reached few).frames ∙ no_frames (most_fetches e) e none

    by : (acts : List ActDue) → e.acts ≡ acts → (due : List Due) → e.shdlc.due ≡ due → due_count e ≡ 0
    by [] p [] q = rw (p, q) refl
    by [] p (d ∷ ds) q = absurd (let z = rw (p, q) at none in cc)
    by (a ∷ acts) p due q = absurd (let z = rw p at out in never_none _ _ _ z)

kept_reached : (ports : List Port) → AllByRecursion (λ (p : Port). IsReached p.side) (map between ports)
    → AllByRecursion (λ (p : Port). IsReached p.side) ports
kept_reached [] all = tt
kept_reached (p ∷ ports) all = (all.0, kept_reached ports all.1)

pub runs_reached : {N : Type 0} {n : Node N} {core : Core} {ports : List Port} → RunsAs n core ports → AllByRecursion (λ (p : Port). IsReached p.side) ports
runs_reached {n = n} {ports = ports} r = kept_reached ports (reached_each n.ends.pool n.ends.seats (map between ports) r.ends.each)

pub few_wait : {N : Type 0} {n : Node N} {core : Core} {ports : List Port} → RunsAs n core ports
    → AllByRecursion (λ (p : Port). length p.side.acts + left p.side.shdlc ≤ 9) ports
few_wait {n = n} r = go n.ends.seats _ r.ends.each r.few
  where
    go : (seats : List Seat) (ports : List Port) → SeatsStandFor n.ends.pool seats (map between ports) → AreAtMostDue 5 ports
        → AllByRecursion (λ (p : Port). length p.side.acts + left p.side.shdlc ≤ 9) ports
    go seats [] g few = tt
    go [] (p ∷ ports) g few = absurd g
    go (s ∷ seats) (p ∷ ports) g few = (grind arith, go seats ports g.1 few.1)

one_by_one : (e : Machine) → IsReached e → length e.acts + length e.shdlc.due ≤ 5 → length e.acts + left e.shdlc ≤ 9 → SendsOneByOne e
one_by_one e reached few wait =
    let goes = go_out e reached (omega (arith, few)) in
    record { frames = goes.frames; rest = goes.rest; none = idle_after 12 e.shdlc (omega (arith, wait)); few = omega (arith, few) }

pub all_one_by_one : {N : Type 0} {n : Node N} {core : Core} {ports : List Port} → RunsAs n core ports
    → AllByRecursion (λ (p : Port). SendsOneByOne p.side) ports
all_one_by_one r = go _ (runs_reached r) r.few (few_wait r)
  where
    go : (ports : List Port) → AllByRecursion (λ (p : Port). IsReached p.side) ports → AreAtMostDue 5 ports
        → AllByRecursion (λ (p : Port). length p.side.acts + left p.side.shdlc ≤ 9) ports → AllByRecursion (λ (p : Port). SendsOneByOne p.side) ports
    go [] reached few wait = tt
    go (p ∷ ports) reached few wait = (one_by_one p.side reached.0 few.0 wait.0, go ports reached.1 few.1 wait.1)

-- no control frame waits as a step begins
pub runs_ready : {N : Type 0} {n : Node N} {core : Core} {ports : List Port} → RunsAs n core ports → IsAllSent ports → OfAll (Ready 0) ports
runs_ready r sent = go _ (runs_reached r) r.few r.in_time sent
  where
    go : (ports : List Port) → AllByRecursion (λ (p : Port). IsReached p.side) ports → AreAtMostDue 5 ports → AreInTime ports
        → IsAllSent ports → OfAll (Ready 0) ports
    go [] reached few time sent = tt
    go (p ∷ ports) reached few time sent =
        ((omega (arith, (none_due p.side reached.0 (omega (arith, few.0)) sent.0)), time.0), go ports reached.1 few.1 time.1 sent.1)

sent_due : (e : Machine) → (due_count (frame_fetched e) ≤ due_count e) × ((frame_fetched e).shdlc.ready ≡ e.shdlc.ready)
sent_due e = go e.acts refl e.shdlc.due refl (fragment_due e.shdlc.session) refl
  where
    Less : Type 0
    Less = (due_count (frame_fetched e) ≤ due_count e) × ((frame_fetched e).shdlc.ready ≡ e.shdlc.ready)

    fetched_less : (length (fetched e.shdlc).due ≤ length e.shdlc.due) × ((fetched e.shdlc).ready ≡ e.shdlc.ready)
    fetched_less = grind arith

    go : (acts : List ActDue) → e.acts ≡ acts → (due : List Due) → e.shdlc.due ≡ due → (o : Option Fragment) → fragment_due e.shdlc.session ≡ o
        → Less
    go [] p due q o r = let f = fetched_less in let less = f.0 in rw p (omega (arith, less), f.1)
    go (a ∷ acts) p due q o r = by (a.behind == 0) refl
      where
        by : (b : Bool) → (a.behind == 0) ≡ b → Less
        by true z = rw (p, z) (omega arith, refl)
        by false z =
            let f = fetched_less in
            let less = f.0 in
            rw (p, z) (omega (arith, less, length-map (a ∷ acts) nearer), f.1)

pub sent_rests : (k : ℕ) (p : Port) → Of (Rests k) p → Of (Rests k) (has_sent p)
sent_rests k p is =
    let less = sent_due p.side in
    ((omega (arith, is.0.0, less.0), is.0.1), λ some. ap not less.1 ∙ is.1 (subst (λ (g : _). g ≡ [] → ⊥) (sent_same p.side).0 some))

-- ## Steps

-- a step begins
pub begins_in_step : {N : Type 0} {n : Node N} {noted start : List Entry} {short : Bool} {w : Work} → BeginsStep n noted short start w
    → IsInStep n noted short start w
begins_in_step {n = n} {w = w} b = record {
  node = b.runs.node;
  core = λ live. b.runs.stands;
  ends = ends_back n.ends w.ports b.runs.ends b.none_ended;
  noted_are = b.noted_are;
  power = b.power ∙ sym (ap not b.runs.live);
}

-- a node between its steps, as one of them begins
abbrev pub at_rest : Core → List Port → Work
at_rest core ports = record { core = core; ports = map between ports; plan = None; writes = []; entries = []; cut = false }

pub rests_in_step : {N : Type 0} {n : Node N} {core : Core} {ports : List Port} (noted : List Entry) (short : Bool) → RunsAs n core ports
    → IsInStep n noted short noted (at_rest core ports)
rests_in_step noted short r = record {
  node = r.node;
  core = λ live. r.stands;
  ends = r.ends;
  noted_are = λ kept. sym (append-nil noted);
  power = sym (ap not r.live);
}

-- what is so of the ends is so of what is kept of them
pub kept_so : (F : _) (ports : List Port) → OfAll F ports → OfAll F (map between ports)
kept_so F [] all = tt
kept_so F (p ∷ ports) all = (all.0, kept_so F ports all.1)

-- The node has stepped, and what was done to its ends isn't kept.
pub has_stepped : {N : Type 0} {n n2 : Node N} {noted start : List Entry} {short : Bool} {w : Work} → IsInStep n noted short start w
    → EndsStandFor n2.ends (map between w.ports) → n2.store ≡ n.store → n2.number ≡ n.number → n2.tasks ≡ n.tasks → IsUsable n2.store
    → (w.cut ≡ false → IsNodeInOrder w.core w.ports) → (w.cut ≡ false → OfAll (Rests 2) w.ports) → HasStepped n2 noted short start w
has_stepped {N} {n} {n2} {w = w} u ends store number tasks usable order rest =
    let power : w.cut ≡ not n2.store.journal.live = subst (λ s. w.cut ≡ not s.journal.live) (sym store) u.power in
    record {
      power = power;
      runs = λ live.
          (let k = u.core live in
          runs_so 2 w.ports (omega arith) usable (let h0 = sym power ∙ live in grind arith) (u.node ∙ sym number)
          (core_with store tasks k) ends (order live) (rest live));
      noted_are = u.noted_are;
    }

-- ## Refused frames

pub error_desks : (h : ℕ) (ports : List Port) → map (λ (p : Port). p.desk) (with_port h one_more_error ports) ≡ with_error h (map (λ (p : Port). p.desk) ports)
error_desks h [] = refl
error_desks h (p ∷ ports) = let h0 = error_desks h ports in let h1 = p.desk.host == h in grind arith

error_seen : (k : ℕ) (p : Port) → Of (Rests k) p → Of (Rests k) (one_more_error p)
error_seen k p is = is

-- ## What is done between steps

-- one end is changed, which still rests
pub runs_with : {N : Type 0} {n n2 : Node N} {core : Core} {ports : List Port} (h : ℕ) (f : Port → Port) → RunsAs n core ports
    → ((p : Port) → kind_at (f p) ≡ kind_at p) → ((p : Port) → between (f p) ≡ f (between p)) → ((p : Port) → Of (Rests 4) p → Of (Rests 4) (f p))
    → EndsStandFor n2.ends (with_port h f (map between ports)) → n2.store ≡ n.store → n2.number ≡ n.number → n2.tasks ≡ n.tasks
    → RunsAs n2 core (with_port h f ports)
runs_with {N} {n} {n2} {core} {ports} h f r kind same rests ends store number tasks =
    let L : Stored N → Type 0 = λ s. IsTrue s.journal.live in
    runs_so 4 (with_port h f ports) (omega arith) (usable_with store r.usable) (subst L (sym store) r.live) (r.node ∙ sym number)
    (core_with store tasks r.stands) (subst (λ qs. EndsStandFor n2.ends qs) (sym (kept_with h f same ports)) ends)
    (in_order_at core ports (with_port h f ports) (port_kinds h f kind ports) r.order)
    (port_so (Rests 4) h f rests ports (runs_rest ports r.few r.in_time r.held))

pub refused_runs : {N : Type 0} {n n2 : Node N} {core : Core} {ports : List Port} (h : ℕ) → RunsAs n core ports
    → EndsStandFor n2.ends (with_port h one_more_error (map between ports)) → n2.store ≡ n.store → n2.number ≡ n.number → n2.tasks ≡ n.tasks
    → RunsAs n2 core (with_port h one_more_error ports)
refused_runs h r ends store number tasks = runs_with h one_more_error r (λ p. refl) (λ p. refl) (error_seen 4) ends store number tasks

pub sent_runs : {N : Type 0} {n n2 : Node N} {core : Core} {ports : List Port} (h : ℕ) → RunsAs n core ports
    → EndsStandFor n2.ends (with_port h has_sent (map between ports)) → n2.store ≡ n.store → n2.number ≡ n.number → n2.tasks ≡ n.tasks
    → RunsAs n2 core (with_port h has_sent ports)
sent_runs h r ends store number tasks = runs_with h has_sent r sent_kind (λ p. refl) (sent_rests 4) ends store number tasks

-- ## The end with a host, by its place

-- what stands at the place of the end with this host
pub placed : (i h : ℕ) (f : Port → Port) (ports : List Port) → AreAllDifferent (map host_at ports)
    → option_map host_at (slice_get ports i) ≡ Some h → (at_place i f ports ≡ with_port h f ports) × (slice_get ports i ≡ port_at ports h)
placed i h f ports differ is = by (slice_get ports i) refl
  where
    by : (o : Option Port) → slice_get ports i ≡ o → (at_place i f ports ≡ with_port h f ports) × (slice_get ports i ≡ port_at ports h)
    by None q = absurd (let z : None ≡ Some h = sym (ap (option_map host_at) q) ∙ is in cc)
    by (Some p) q =
        let z : Some p.desk.host ≡ Some h = sym (ap (option_map host_at) q) ∙ is in
        let same : p.desk.host ≡ h = cc in
        let W : ℕ → Type 0 = λ k. at_place i f ports ≡ with_port k f ports in
        let A : ℕ → Type 0 = λ k. slice_get ports i ≡ port_at ports k in
        (subst W same (at_is_with i f ports p differ q), subst A same (q ∙ sym (found_there i ports p differ q)))

pub kept_at : (h : ℕ) (ports : List Port) → port_at (map between ports) h ≡ option_map between (port_at ports h)
kept_at h [] = refl
kept_at h (p ∷ ports) = let h0 = p.desk.host == h in let h1 = kept_at h ports in grind arith

pub kept_frame_at : (h : ℕ) (ports : List Port) → frame_at (port_at (map between ports) h) ≡ frame_at (port_at ports h)
kept_frame_at h ports = ap frame_at (kept_at h ports) ∙ (let h0 = port_at ports h in grind arith)

-- what isn't kept of an end says nothing of whether it is at rest
pub kept_at_rest : (ports : List Port) → are_at_rest (map between ports) ≡ are_at_rest ports
kept_at_rest [] = refl
kept_at_rest (p ∷ ports) = ap (λ b. end_rests p.side && b) (kept_at_rest ports)

-- ## What isn't kept

-- RunsAs speaks of what is kept alone
kept_facts : (F : Port → Type 0) → ((p : Port) → F p → F (between p)) → ((p : Port) → F (between p) → F p) → (a b : List Port)
    → map between a ≡ map between b → AllByRecursion F a → AllByRecursion F b
kept_facts F to from [] [] same all = tt
kept_facts F to from [] (q ∷ b) same all = cc
kept_facts F to from (p ∷ a) [] same all = cc
kept_facts F to from (p ∷ a) (q ∷ b) same all =
    let here : between p ≡ between q = cc in
    let there : map between a ≡ map between b = cc in
    (from q (subst F here (to p all.0)), kept_facts F to from a b there all.1)

pub kept_alike : {N : Type 0} {n : Node N} {core : Core} (a b : List Port) → map between a ≡ map between b → RunsAs n core a → RunsAs n core b
kept_alike {n = n} {core = core} a b same r =
    record {
      usable = r.usable;
      live = r.live;
      node = r.node;
      stands = r.stands;
      ends = subst (λ qs. EndsStandFor n.ends qs) same r.ends;
      order = in_order_at core a b (sym (kept_kinds b) ∙ (ap (map kind_at) (sym same) ∙ kept_kinds a)) r.order;
      few = kept_facts (λ p. length p.side.acts + length p.side.shdlc.due ≤ 5) (λ p is. is) (λ p is. is) a b same r.few;
      in_time = kept_facts (λ p. age_at (Some p) ≤ 99) (λ p is. is) (λ p is. is) a b same r.in_time;
      held = kept_facts (λ p. IsHeldWhileOneWaits (Some p)) (λ p is. is) (λ p is. is) a b same r.held;
    }
