-- In each event, and so over histories, nothing of a node stands behind its cut.
use Rattle.node_laws.proofs.Words.{Activates, AllByRecursion, AreDifferent, AreNotOf, Arms, AsksReset, AtEnd, Bool, Boots, Comes, Controller, CutsEndParts}
use Rattle.node_laws.proofs.Words.{Deed, End, Entry, FollowsNodes, Gives, Happening, HasEnds, Header, Host, IfItRuns, Inits, IsCut, IsOrderly, Line, Link, List}
use Rattle.node_laws.proofs.Words.{Loses, Message, NextFrame, NoInput, NodeHistory, NodeWorld, None, NumberedEnd, Option, Plan, Port, Resets, Running, Site}
use Rattle.node_laws.proofs.Words.{Starts, Takes, Ticks, TimePasses, Work, [], aged_entries, all_aged, all_append, ap, arith, arrival, beginning, begins_with}
use Rattle.node_laws.proofs.Words.{by_coming, by_controller, by_controller_tick, by_host, by_host_tick, by_test, comes_at, comes_to, controller_does}
use Rattle.node_laws.proofs.Words.{controller_ticks, end_c, end_h, entries_for, eqb-true, exchanged, false, flat_map, frames_noted, host_does, host_tick}
use Rattle.node_laws.proofs.Words.{host_ticks, host_work, hosts_in, hosts_of_ends, hosts_tick, is_command_message, link_to, near_end_in, near_tick, node_of}
use Rattle.node_laws.proofs.Words.{refl, sending, site_at, steps, subst, sym, true, true≢false, wires_for, work_of, world_step, world_ticks, ℕ, ◌&&◌, ◌++◌}
use Rattle.node_laws.proofs.Words.{◌==◌, ◌∙◌, ◌∷◌, ◌≡◌}
use Rattle.node_laws.proofs.power.Steps.{AreEnds, AreOver, AreOwn, Fine, IsEndOf, IsMine, IsOwn, IsPart, Runs, arrival_of_side, deeds_fine, frames_own}
use Rattle.node_laws.proofs.power.Steps.{links_own, nothing_part, over_front, over_part, over_split, own_not, part_over, part_own, steps_fine, work_part}
use Rattle.node_laws.proofs.telling.Events.{comes_goes, hosts_same_of_nodes as hosts_same, ports_for, site_host, site_is}
use Rattle.node_laws.proofs.telling.Lasting.{history_event}
use Rattle.node_laws.proofs.telling.Shapes.{entries_uncut, frames_none, frames_uncut}
use Rattle.node_laws.proofs.telling.Accounts.{AreUncut, IsUncut}
use Rattle.node_laws.proofs.telling.WorldTicks.{aged_orderly, ticked_orderly}

-- ## In each event nothing of a node stands behind its cut

-- ### Nodes as a step begins

-- all ends of a controller are its own
all_near : (ports : List Port) → AreEnds 0 ports
all_near [] = tt
all_near (p ∷ ports) = (refl, all_near ports)

far_end : (h : ℕ) → (h == 0) ≡ false → IsEndOf h h
far_end h other = rw other refl

pub near_runs : (r : Running) (plan : Option Plan) (near_ends : ℕ → NumberedEnd) (es : List Entry) → r.core.node ≡ 0 → AreOwn 0 es → AreUncut es
    → Runs 0 (work_of r plan near_ends es)
near_runs r plan near_ends es number own uncut = record {
  on = refl;
  number = number;
  ends = all_near (ports_for near_ends r.desks);
  own = own;
  uncut = uncut;
}

-- a host's end is its own
one_end : (h : ℕ) (ports : List Port) → (h == 0) ≡ false → hosts_of_ends ports ≡ h ∷ [] → AreEnds h ports
one_end h [] other e = absurd (cc e)
one_end h (p ∷ []) other e = let is : p.desk.host ≡ h = cc in (subst (IsEndOf h) (sym is) (far_end h other), tt)
one_end h (p ∷ q ∷ ports) other e = let none : q.desk.host ∷ hosts_of_ends ports ≡ [] = cc in absurd (cc none)

pub far_runs : (h : ℕ) (r : Running) (plan : Option Plan) (near_ends : ℕ → NumberedEnd) (es : List Entry) → (h == 0) ≡ false → HasEnds h (h ∷ []) r
    → AreOwn h es → AreUncut es → Runs h (work_of r plan near_ends es)
far_runs h r plan near_ends es other has own uncut = record {
  on = refl;
  number = has.number;
  ends = one_end h (ports_for near_ends r.desks) other (hosts_same near_ends r.desks ∙ has.ends);
  own = own;
  uncut = uncut;
}

-- ### Steps

flat_frames_none : (f : Site → List Entry) → ((s : Site) → f s ≡ []) → (sites : List Site) → flat_map f sites ≡ []
flat_frames_none f none [] = refl
flat_frames_none f none (s ∷ sites) = ap (λ es. es ++ flat_map f sites) (none s) ∙ flat_frames_none f none sites

flat_all : (P : Entry → Type 0) (f : Site → List Entry) → ((s : Site) → AllByRecursion P (f s)) → (sites : List Site) → AllByRecursion P (flat_map f sites)
flat_all P f one [] = tt
flat_all P f one (s ∷ sites) = all_append P (f s) (flat_map f sites) (one s) (flat_all P f one sites)

-- the controller with the frames that go out on these links
near_part : (v : Work) (wires : Site → Link) (sites : List Site) → Fine 0 v
    → IsPart 0 (v.entries ++ flat_map (λ (s : Site). frames_noted Controller s.host (wires s) v) sites)
near_part v wires sites fine =
    work_part 0 v (flat_map (λ (s : Site). frames_noted Controller s.host (wires s) v) sites) fine
    (λ off. flat_frames_none (λ (s : Site). frames_noted Controller s.host (wires s) v) (λ s. frames_none Controller s.host (wires s) v off) sites)
    (flat_all (IsOwn 0) (λ (s : Site). frames_noted Controller s.host (wires s) v) (λ s. frames_own 0 Controller s.host (wires s) v refl) sites)
    (flat_all IsUncut (λ (s : Site). frames_noted Controller s.host (wires s) v) (λ s. frames_uncut Controller s.host (wires s) v) sites)

far_part : (h : ℕ) (v : Work) (l : Link) → Fine h v → IsPart h (v.entries ++ frames_noted Host h l v)
far_part h v l fine = work_part h v (frames_noted Host h l v) fine (frames_none Host h l v) (frames_own h Host h l v refl) (frames_uncut Host h l v)

pub controller_part : (w : NodeWorld) (k : ℕ) (comes : Comes) (f : Work → Work) → ((v : Work) → Runs 0 v → Fine 0 (f v)) → IsOrderly w
    → IsPart 0 (controller_does w k comes f).1
controller_part w k comes f does a =
    by_controller (λ p. IsPart 0 p.1) w k comes f (nothing_part 0)
    (λ r q.
    let l : Link = link_to w.sites k in
    let es : List Entry = entries_for k (arrival Controller l comes) in
    let near_ends : ℕ → NumberedEnd = λ j. near_end_in (link_to w.sites j) (comes_to k comes j) in
    let begun : Work = work_of r w.memory.plan near_ends es in
    near_part (f begun) (λ s. wires_for s.link (comes_to k comes s.host)) w.sites
    (does begun (near_runs r w.memory.plan near_ends es (subst (IfItRuns 0 (hosts_in w.sites)) q a.controller).number
    (links_own 0 k Controller refl (arrival Controller l comes) (arrival_of_side Controller l comes)) (entries_uncut k (arrival Controller l comes)))))

pub host_part : (w : NodeWorld) (h : ℕ) (comes : Comes) (f : Work → Work) → ((v : Work) → Runs h v → Fine h (f v)) → IsOrderly w
    → IsPart h (host_does w h comes f).1
host_part w h comes f does a =
    by_host (λ p. IsPart h p.1) w h comes f (nothing_part h)
    (λ s r found q.
    let is : s.host ≡ h = site_host w.sites h s found in
    let node : HasEnds s.host (s.host ∷ []) r =
    subst (IfItRuns s.host (s.host ∷ [])) q (site_is (λ (x : Site). IfItRuns x.host (x.host ∷ []) x.node) w.sites h s a.nodes found) in
    let off : (h == 0) ≡ false = subst (λ j. (j == 0) ≡ false) is (site_is (λ (x : Site). (x.host == 0) ≡ false) w.sites h s a.hosts found) in
    let P : ℕ → Type 0 = λ j. HasEnds j (j ∷ []) r in
    let l : Link = exchanged s.link in
    let es : List Entry = entries_for s.host (arrival Host l comes) in
    let Q : ℕ → Type 0 = λ j. AreOwn h (entries_for j (arrival Host l comes)) in
    far_part h (host_work s r comes f) (wires_for l comes)
    (does (work_of r s.memory.plan (λ j. near_end_in l comes) es)
    (far_runs h r s.memory.plan (λ j. near_end_in l comes) es off (subst P is node)
    (subst Q (sym is) (links_own h h Host refl (arrival Host l comes) (arrival_of_side Host l comes))) (entries_uncut s.host (arrival Host l comes)))))

pub comes_part : (w : NodeWorld) (e : End) (comes : Comes) → IsOrderly w → IsPart (node_of e) (comes_at w e comes).1
comes_part w e comes a =
    by_coming (λ p. IsPart (node_of e) p.1) w e comes (nothing_part (node_of e))
    (λ i q seen. rw q (host_part w e.link comes (steps (AtEnd e.link i)) (λ v r. steps_fine e.link (AtEnd e.link i) v r) a))
    (λ i q seen. rw q (controller_part w e.link comes (steps (AtEnd e.link i)) (λ v r. steps_fine 0 (AtEnd e.link i) v r) a))

pub begins_part : (w : NodeWorld) (h : ℕ) (deeds : List Deed) → AllByRecursion (IsMine h h) deeds → IsOrderly w
    → IsPart h (host_does w h NoInput (begins_with h deeds)).1
begins_part w h deeds mine a = host_part w h NoInput (begins_with h deeds) (λ v r. deeds_fine h h deeds v mine r) a

pub sending_mine : (h : ℕ) (m : Message) → AllByRecursion (IsMine h h) (sending h m)
sending_mine h m = by_test (m.0 == 1 && is_command_message m.1) (λ q. rw q (tt, tt)) (λ q. rw q (tt, tt))

-- ### Ticks

pub near_ticks_part : (w : NodeWorld) → IsOrderly w → IsPart 0 (controller_ticks w).1
near_ticks_part w a =
    by_controller_tick (λ p. IsPart 0 p.1) w (λ q. nothing_part 0)
    (λ r q.
    let n : HasEnds 0 (hosts_in w.sites) r = subst (IfItRuns 0 (hosts_in w.sites)) q a.controller in
    let near_ends : ℕ → NumberedEnd = λ h. (link_to w.sites h).controller in
    near_part (near_tick w r) (λ s. s.link) w.sites
    (steps_fine 0 TimePasses (work_of r w.memory.plan near_ends []) (near_runs r w.memory.plan near_ends [] n.number tt tt)))

pub far_tick : (s : Site) → (s.host == 0) ≡ false → IfItRuns s.host (s.host ∷ []) s.node → IsPart s.host (host_ticks s).1
far_tick s other runs =
    by_host_tick (λ p. IsPart s.host p.1) s (λ q. nothing_part s.host)
    (λ r q.
    far_part s.host (host_tick s r) (exchanged s.link)
    (steps_fine s.host TimePasses (work_of r s.memory.plan (λ h. s.link.host) [])
    (far_runs s.host r s.memory.plan (λ h. s.link.host) [] other (subst (IfItRuns s.host (s.host ∷ [])) q runs) tt tt)))

abbrev pub AreNodes : List Site → Type 0
AreNodes sites = AllByRecursion (λ (s : Site). ((s.host == 0) ≡ false) × IfItRuns s.host (s.host ∷ []) s.node) sites

both_nodes : (sites : List Site) → AllByRecursion (λ (s : Site). (s.host == 0) ≡ false) sites
    → AllByRecursion (λ (s : Site). IfItRuns s.host (s.host ∷ []) s.node) sites → AreNodes sites
both_nodes [] a b = tt
both_nodes (s ∷ sites) a b = ((a.0, b.0), both_nodes sites a.1 b.1)

-- hosts with other numbers note nothing of a node
pub others_tick : (n : ℕ) (sites : List Site) → AllByRecursion (λ h. (h == n) ≡ false) (hosts_in sites) → AreNodes sites → AreNotOf n (hosts_tick sites).1
others_tick n [] off a = tt
others_tick n (s ∷ sites) off a =
    all_append _ (host_ticks s).1 (hosts_tick sites).1
    (own_not s.host n (host_ticks s).1 off.0 (part_own s.host (host_ticks s).1 (far_tick s a.0.0 a.0.1)))
    (others_tick n sites off.1 a.1)

hosts_over : (sites : List Site) → AreDifferent (hosts_in sites) → AreNodes sites → AreOver (hosts_tick sites).1
hosts_over [] d a = tt
hosts_over (s ∷ sites) d a =
    over_part s.host (host_ticks s).1 (hosts_tick sites).1 (far_tick s a.0.0 a.0.1) (others_tick s.host sites d.0 a.1) (hosts_over sites d.1 a.1)

none_zero : (sites : List Site) → AllByRecursion (λ (s : Site). (s.host == 0) ≡ false) sites → AllByRecursion (λ h. (h == 0) ≡ false) (hosts_in sites)
none_zero [] a = tt
none_zero (s ∷ sites) a = (a.0, none_zero sites a.1)

-- behind the tick of the controller hosts note nothing of it
pub ticked_nodes : (w : NodeWorld) → IsOrderly w → AreNodes (controller_ticks (all_aged w).0).0.sites
ticked_nodes w a = both_nodes (controller_ticks (all_aged w).0).0.sites (ticked_orderly w a).hosts (ticked_orderly w a).nodes

pub ticked_others : (w : NodeWorld) → IsOrderly w → AreNotOf 0 (hosts_tick (controller_ticks (all_aged w).0).0.sites).1
ticked_others w a =
    others_tick 0 (controller_ticks (all_aged w).0).0.sites (none_zero (controller_ticks (all_aged w).0).0.sites (ticked_orderly w a).hosts) (ticked_nodes w a)

aged_uncut : (sites : List Site)
    → AreUncut (flat_map (λ (s : Site). entries_for s.host (aged_entries Controller s.link.to_controller ++ aged_entries Host s.link.to_host)) sites)
aged_uncut sites =
    flat_all IsUncut (λ (s : Site). entries_for s.host (aged_entries Controller s.link.to_controller ++ aged_entries Host s.link.to_host))
    (λ s. entries_uncut s.host (aged_entries Controller s.link.to_controller ++ aged_entries Host s.link.to_host)) sites

ticks_over : (w : NodeWorld) → IsOrderly w → AreOver (world_ticks w).1
ticks_over w a =
    over_front (all_aged w).1 ((controller_ticks old).1 ++ (hosts_tick near).1) (aged_uncut w.sites)
    (over_part 0 (controller_ticks old).1 (hosts_tick near).1 (near_ticks_part old (aged_orderly w a)) (ticked_others w a)
    (hosts_over near (ticked_orderly w a).different (ticked_nodes w a)))
  where
    old : NodeWorld
    old = (all_aged w).0

    near : List Site
    near = (controller_ticks old).0.sites

-- ### Events

-- no host has the number of the controller
pub no_site : (sites : List Site) (h : ℕ) → (h == 0) ≡ true → AllByRecursion (λ (s : Site). (s.host == 0) ≡ false) sites → site_at sites h ≡ None
no_site [] h zero a = refl
no_site (s ∷ sites) h zero a = by_test (s.host == h)
    (λ e. absurd (true≢false (sym (ap (λ n. n == 0) (eqb-true s.host h e) ∙ zero) ∙ a.0)))
    (λ e. rw e (no_site sites h zero a.1))

activates_over : (w : NodeWorld) (h sync power : ℕ) → IsOrderly w → AreOver (world_step w (Activates h sync power)).1
activates_over w h sync power a = over_part 0 near.1 far.1 (comes_part w (end_c h) (Starts power) a) (others (h == 0) refl) (part_over h far.1 last)
  where
    near : NodeWorld × List Entry
    near = comes_at w (end_c h) (Starts power)

    far : NodeWorld × List Entry
    far = comes_at near.0 (end_h h) (Starts sync)

    b : IsOrderly near.0
    b = (comes_goes w (end_c h) (Starts power) a).orderly

    last : IsPart h far.1
    last = comes_part near.0 (end_h h) (Starts sync) b

    others : (c : Bool) → (h == 0) ≡ c → AreNotOf 0 far.1
    others false q = own_not h 0 far.1 q (part_own h far.1 last)
    others true q =
        let none : far.1 ≡ [] =
        (rw (no_site near.0.sites h q b.hosts) refl) in
        subst (AreNotOf 0) (sym none) tt

step_over : (w : NodeWorld) (c : Happening) → IsOrderly w → AreOver (world_step w c).1
step_over w (Boots n) a = grind arith
step_over w (IsCut n) a = (tt, tt)
step_over w (Gives e m) a =
    part_over e.link (host_does w e.link NoInput (begins_with e.link (sending e.link m))).1 (begins_part w e.link (sending e.link m) (sending_mine e.link m) a)
step_over w (Inits e identity pipes) a =
    part_over e.link (host_does w e.link NoInput (begins_with e.link (beginning identity pipes))).1
    (begins_part w e.link (beginning identity pipes) (tt, (tt, tt)) a)
step_over w (Takes e) a = part_over (node_of e) (comes_at w e NextFrame).1 (comes_part w e NextFrame a)
step_over w (Loses e why) a = grind arith
step_over w Ticks a = ticks_over w a
step_over w (Resets e window) a = part_over (node_of e) (comes_at w e (AsksReset window)).1 (comes_part w e (AsksReset window) a)
step_over w (Activates h sync power) a = activates_over w h sync power a
step_over w (Arms n plan) a = tt

-- ## Over histories

pub cuts_end : (header : Header) (lines : List Line) (t : NodeHistory) → FollowsNodes header lines t → AreDifferent header.hosts.items
    → AllByRecursion (λ h. (h == 0) ≡ false) header.hosts.items → CutsEndParts t
cuts_end header lines t follows different numbers past later o before behind n is split =
    over_split o.entries before behind n (history_event AreOver step_over header lines t follows different numbers past later o is) split
