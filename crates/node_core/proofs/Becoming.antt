-- An end of a node that becomes active in a step doesn't wait behind it, so that it takes a reset.
use Rattle.node_core.proofs.Words.{ActEvent, AtEnd, BeginsStep, Bool, Deed, EndState, Entry, IfSome, IsReached, LinkInput, List, Machine, Node, None, Option}
use Rattle.node_core.proofs.Words.{Port, Role, Some, Work, [], act_answer, activated, after_input, all_come, ap, arith, false, find, find-map, flat_map}
use Rattle.node_core.proofs.Words.{goes_through_ends, got_at, has_come, have_turns, input_at, map, option_map, passes, port_at, refl, report, reset_refusal}
use Rattle.node_core.proofs.Words.{sent_all, settles, steps, subst, suc, sym, synced, true, unless_cut, zero, ℕ, ◌==◌, ◌∙◌, ◌∷◌, ◌≡◌}
use Rattle.link_laws.specs.machine.Machine.{is_open, role_after}
use Rattle.shdlc_core.specs.declared.answers.LinkState.TheVariants.{Down}
use Rattle.shdlc_core.specs.Machine.{after_frames}
use Rattle.link_laws.proofs.sessions.Ties.{fetched-phase}
use Rattle.link_laws.proofs.machine.Runs.{Sound, sound}
use Rattle.node_core.proofs.Joining.{stays_cut, goes_on}
use Rattle.node_core.proofs.Quiet.{LinkSeen, link_at}
use Rattle.node_core.proofs.Elsewhere.{host_at, same_links, turns_links}
use Rattle.node_core.proofs.Settling.{settled_quiet}
use Rattle.node_core.proofs.Sendables.{found_all}
use Rattle.node_core.proofs.Between.{runs_reached}

-- ## One end

-- by what an end becomes active: it was closed, it is open then, and its link doesn't go down
record Opens (r : Role) (event : ActEvent) : Type 0 where
  closed : is_open r ≡ false
  opened : is_open (role_after r event) ≡ true
  stays : (act_answer r event).ended_link ≡ false

opens : (r : Role) (event : ActEvent) → (act_answer r event).became_active ≡ true → Opens r event
opens r event is = grind arith

-- it is active, and its link is Down
record IsReady (e : Machine) : Type 0 where
  active : is_open e.role ≡ true
  phase : e.shdlc.phase ≡ Down

ready_by : (e : Machine) (event : ActEvent) → Sound e → (act_answer e.role event).became_active ≡ true → IsReady (activated e event)
ready_by e event is became = grind arith

ready_behind : (e : Machine) (i : LinkInput) → Sound e → (report e i).became_active ≡ true → IsReady (after_input e i)
ready_behind e i is became = grind arith

frames_phase : (n : ℕ) (s : EndState) → (after_frames n s).phase ≡ s.phase
frames_phase zero s = refl
frames_phase (suc n) s = frames_phase n _ ∙ fetched-phase s

-- once its frames went out, it takes a reset
ready_resets : (e : Machine) → is_open e.role ≡ true → e.shdlc.phase ≡ Down → reset_refusal (sent_all e) ≡ None
ready_resets e active phase = let p = frames_phase 12 e.shdlc ∙ phase in rw (active, p) refl

reached_sound : (e : Machine) → IsReached e → Sound e
reached_sound e r = let P : Machine → Type 0 = λ m. Sound m in subst P (sym r.is) (sound r.role r.inputs r.sendable)

-- ## A step

ends_links : (hosts : List ℕ) (w : Work) → map link_at (goes_through_ends hosts w).ports ≡ map link_at w.ports
ends_links [] w = refl
ends_links (h ∷ hosts) w = by (have_turns h (got_at w.ports h) w).cut refl (ends_links hosts (have_turns h (got_at w.ports h) w))
  where
    v : Work
    v = have_turns h (got_at w.ports h) w

    by : (b : Bool) → v.cut ≡ b → map link_at (goes_through_ends hosts v).ports ≡ map link_at v.ports
        → map link_at (goes_through_ends (h ∷ hosts) w).ports ≡ map link_at w.ports
    by true q later = ap (λ (u : Work). map link_at u.ports) (stays_cut (goes_through_ends hosts) v q) ∙ turns_links h (got_at w.ports h) w
    by false q later =
        ap (λ (u : Work). map link_at u.ports) (goes_on (goes_through_ends hosts) v q) ∙ (later ∙ turns_links h (got_at w.ports h) w)

-- what a step leaves of the links as they are behind what came
step_links : (h : ℕ) (i : LinkInput) (w : Work) → map link_at (steps (AtEnd h i) w).ports ≡ map link_at (all_come (AtEnd h i) w).ports
step_links h i w = by settled.cut refl
  where
    syncs : List Deed
    syncs = flat_map (synced w.core (AtEnd h i)) w.ports

    came : Work
    came = all_come (AtEnd h i) w

    settled : Work
    settled = settles syncs came

    whole : steps (AtEnd h i) w ≡ unless_cut passes settled
    whole = refl

    still : map link_at settled.ports ≡ map link_at came.ports
    still = same_links settled.ports came.ports (settled_quiet syncs came)

    by : (b : Bool) → settled.cut ≡ b → map link_at (steps (AtEnd h i) w).ports ≡ map link_at came.ports
    by true q = ap (λ (u : Work). map link_at u.ports) (whole ∙ stays_cut passes settled q) ∙ still
    by false q =
        ap (λ (u : Work). map link_at u.ports) (whole ∙ goes_on passes settled q) ∙ (ends_links (map host_at settled.ports) settled ∙ still)

-- the end to which it came
come_there : (h : ℕ) (i : LinkInput) (ports : List Port) (p : Port) → port_at ports h ≡ Some p
    → port_at (map (λ (q : Port). has_come q (input_at (AtEnd h i) q)) ports) h ≡ Some (has_come p (Some i))
come_there h i [] p is = cc
come_there h i (q ∷ ports) p is = let h0 = q.desk.host == h in let h1 = come_there h i ports p in grind arith

links_at : (a b : List Port) (h : ℕ) → map link_at a ≡ map link_at b → option_map link_at (port_at a h) ≡ option_map link_at (port_at b h)
links_at a b h same =
    sym (find-map (λ (l : LinkSeen). l.0 == h) link_at a)
    ∙ (ap (find (λ (l : LinkSeen). l.0 == h)) same ∙ find-map (λ (l : LinkSeen). l.0 == h) link_at b)

-- it is there behind the step, and takes a reset
abbrev Resets : Option Port → Type 0
Resets o = (q : Port) × (o ≡ Some q) × (reset_refusal (sent_all q.side) ≡ None)

as_seen : (e : Machine) (k : ℕ) (o : Option Port) → IsReady e → option_map link_at o ≡ Some (k, e.role, e.shdlc.phase) → Resets o
as_seen e k None ready is = cc
as_seen e k (Some q) ready is =
    let same : link_at q ≡ (k, e.role, e.shdlc.phase) = cc in
    (q, refl, ready_resets q.side (ap (λ (l : LinkSeen). is_open l.1) same ∙ ready.active) (ap (λ (l : LinkSeen). l.2) same ∙ ready.phase))

pub becomes_ready : {N : Type 0} {n : Node N} {noted start : List Entry} {short : Bool} {w : Work} (h : ℕ) (i : LinkInput) (p : Port)
    → BeginsStep n noted short start w → port_at w.ports h ≡ Some p → (report p.side i).became_active ≡ true
    → (q : Port) × (port_at (steps (AtEnd h i) w).ports h ≡ Some q) × (reset_refusal (sent_all q.side) ≡ None)
becomes_ready {w = w} h i p b at became =
    let R : Option Port → Type 0 = λ o. IfSome o (λ (q : Port). IsReached q.side) in
    let reached : IsReached p.side = subst R at (found_all (λ (q : Port). IsReached q.side) w.ports h (runs_reached b.runs)) in
    as_seen (after_input p.side i) p.desk.host (port_at (steps (AtEnd h i) w).ports h) (ready_behind p.side i (reached_sound p.side reached) became)
    (links_at (steps (AtEnd h i) w).ports (all_come (AtEnd h i) w).ports h (step_links h i w) ∙ ap (option_map link_at) (come_there h i w.ports p at))
