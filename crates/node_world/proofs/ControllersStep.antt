-- The world behind a step of the controller: what is kept stands for the world as the definition leaves it.
use Rattle.node_world.proofs.Words.{AllByRecursion, AreDifferent, AreNumbered, AreSessions, Arrived, AtEnd, BeginsOver, Bool, Comes, Control, Controller}
use Rattle.node_world.proofs.Words.{CountsFew, CutOff, Desk, Ending, EndsStep, Entry, FewAreCounted, GoesOnWith, GoesOut, HasEnds, HasGone, HasOneEnd, HostSite}
use Rattle.node_world.proofs.Words.{IfItRuns, Incoming, IsArrivalOf, IsNodePlace, IsOnly, Link, LinkEnd, LinkInput, List, MayGoOn, Memory, Node, NodeWorld}
use Rattle.node_world.proofs.Words.{None, NumberedEnd, On, OnOk, Option, Port, Power, Reset, ResetRefused, Result, Running, RunsAs, SameWires, SendsOneByOne}
use Rattle.node_world.proofs.Words.{SendsTo, Site, SiteIs, SitesAre, Some, StaysCounted, Step, WentOffWith, WiresStandFor, Work, WorldBecomes, []}
use Rattle.node_world.proofs.Words.{after_planned, all_one_by_one, ap, append-nil, append_assoc, ap₂, arith, arrival, arrival_numbered, as_comes, as_it_comes}
use Rattle.node_world.proofs.Words.{as_it_comes_to, becomes, between, changed_if, comes_at, comes_to, cond, controller_work, cut, due_at, end_c, ending_of}
use Rattle.node_world.proofs.Words.{entries_for, eqb-true, false, flat_map, frames_emitted, frames_noted, frames_out, get_or, happens_at_controller, has_come}
use Rattle.node_world.proofs.Words.{has_frames, hosts_in, hosts_of_ends, input_at, input_of, is_up, kept_alike, link_is, link_to, map, near_end_in}
use Rattle.node_world.proofs.Words.{new_link_end, next_frame, node_memory, not, number_of, on_ok, option_map_or, port_at, port_for, put, put_all, put_entries}
use Rattle.node_world.proofs.Words.{puts_entries, refl, refusal_arrived, refusal_coming, renewed, same_number, sent_all, sent_port, sent_to, site_at, stepped}
use Rattle.node_world.proofs.Words.{steps, subst, swapped, sym, true, turns_at, wires_for, with_bare_link, with_bare_wires, with_controller, with_port}
use Rattle.node_world.proofs.Words.{work_numbers, work_of, ℕ, ◌++◌, ◌==◌, ◌∙◌, ◌∷◌, ◌≡◌}
use Rattle.link_laws.specs.entries.Entries.{End as Side, far, pushed_out, wire_with}
use Rattle.link_laws.specs.entries.Entries.Entry.{Emit}
use Rattle.node_laws.proofs.telling.Steps.{AreAlike}
use Rattle.node_machine.specs.world.World.{after_controller, runs_on}
use Rattle.node_machine.specs.Node.{NodeInput}
use Rattle.node_laws.proofs.telling.Events.{Stands, stands}
use Rattle.node_world.proofs.EndsGo.{same_stand, silent_same, same_twice, ended_far, each_found, next_ports, all_sides, EndGoes, controller_ends, hosts_kept}
use Rattle.node_world.proofs.HostsHear.{refused_so, near_side, number_coming}

-- ## Its ends

-- the controller's end of a link in a step: it began with the wires of one link, notes its frames on those of another, and ends so
pub record EndSteps (v : Work) (s : Site) (starts out : Link) (so : Ending → Link) : Type 0 where
  pub port : Port
  pub here : port_at v.ports s.host ≡ Some port
  pub link : Link
  pub wires : SameWires starts link
  pub alike : AreAlike link out
  pub goes_out : so GoesOut ≡ becomes link port.side
  pub goes_off : so CutOff ≡ cut (with_controller link (sent_all port.side))
  pub far : link.host ≡ starts.host

-- with different hosts, the end that is found is the only one
pub the_only : (h : ℕ) (p : Port) (ports : List Port) → AreDifferent (hosts_of_ends ports) → port_at ports h ≡ Some p → IsOnly h p ports
the_only h p [] d f = tt
the_only h p (x ∷ ports) d f = go (x.desk.host == h) refl (the_only h p ports d.1)
  where
    others : (ys : List Port) → x.desk.host ≡ h → AllByRecursion (λ k. (k == x.desk.host) ≡ false) (hosts_of_ends ys) → IsOnly h p ys
    others [] is a = tt
    others (y ∷ ys) is a = (
      λ q. let other : (y.desk.host == h) ≡ false = ap (λ n. y.desk.host == n) (sym is) ∙ a.0 in
          absurd (let z : true ≡ false = sym q ∙ other in cc),
      others ys is a.1,
    )

    go : (b : Bool) → (x.desk.host == h) ≡ b → (port_at ports h ≡ Some p → IsOnly h p ports) → IsOnly h p (x ∷ ports)
    go true e later =
        let is : x ≡ p = cc in
        (λ q. is, others ports (eqb-true x.desk.host h e) d.0)
    go false e later = (λ q. absurd (let z : true ≡ false = sym q ∙ e in cc), later (rw e at f))

-- where frames went out to all hosts of its ends, they went out at each end
pub sent_everywhere : (hosts : List ℕ) (ports : List Port) → AreDifferent hosts → hosts_of_ends ports ≡ hosts → sent_to hosts ports ≡ map sent_port ports
sent_everywhere [] [] d q = refl
sent_everywhere [] (p ∷ ports) d q = absurd (cc q)
sent_everywhere (h ∷ hosts) [] d q = absurd (cc q)
sent_everywhere (h ∷ hosts) (p ∷ ports) d q =
    let host : p.desk.host ≡ h = cc in
    let rest : hosts_of_ends ports ≡ hosts = cc in
    let first : changed_if (p.desk.host == h) sent_port p ≡ sent_port p = rw (ap (λ n. n == h) host ∙ same_number h) refl in
    let now : with_port h sent_port (p ∷ ports) ≡ sent_port p ∷ ports = ap₂ (λ (x : Port) xs. x ∷ xs) first (none ports (rw (← rest) at d.0)) in
    let others : AllByRecursion (λ k. (k == p.desk.host) ≡ false) hosts = rw (← host) at d.0 in
    ap (sent_to hosts) now ∙ (past hosts (sent_port p) ports others ∙ ap (λ xs. sent_port p ∷ xs) (sent_everywhere hosts ports d.1 rest))
  where
    none : (xs : List Port) → AllByRecursion (λ k. (k == h) ≡ false) (hosts_of_ends xs) → with_port h sent_port xs ≡ xs
    none [] a = refl
    none (x ∷ xs) a =
        let q : (x.desk.host == h) ≡ false = a.0 in
        let one : changed_if (x.desk.host == h) sent_port x ≡ x = rw q refl in
        ap₂ (λ (y : Port) ys. y ∷ ys) one (none xs a.1)

    past : (ks : List ℕ) (x : Port) (xs : List Port) → AllByRecursion (λ k. (k == x.desk.host) ≡ false) ks → sent_to ks (x ∷ xs) ≡ x ∷ sent_to ks xs
    past [] x xs a = refl
    past (k ∷ ks) x xs a =
        let q : (x.desk.host == k) ≡ false = swapped k x.desk.host a.0 in
        let one : changed_if (x.desk.host == k) sent_port x ≡ x = rw q refl in
        ap (λ (y : Port). sent_to ks (y ∷ with_port k sent_port xs)) one ∙ past ks x (with_port k sent_port xs) a.1

-- ## What is noted of frames

put_alike : (l m : Link) (c : Control) → AreAlike l m → AreAlike (put l c) (put m c)
put_alike l m c a = grind arith

wire_alike : (l m : Link) (c : Control) → AreAlike l m → wire_with l c ≡ wire_with m c
wire_alike l m c a = grind arith

-- two links with the same wire to the host and as many RSETs note the same
puts_alike : (who : Side) (cs : List Control) (l m : Link) → AreAlike l m → puts_entries who l cs ≡ puts_entries who m cs
puts_alike who [] l m a = refl
puts_alike who (c ∷ cs) l m a =
    ap (λ w. (Emit who c ∷ pushed_out (far who) w) ++ puts_entries who (put l c) cs) (wire_alike l m c a)
    ∙ ap (λ z. put_entries who m c ++ z) (puts_alike who cs (put l c) (put m c) (put_alike l m c a))

-- ## All links

module _ (v : Work) (starts out : Site → Link) (so : Site → Ending → Link) where
  abbrev pub EachSteps : List Site → Type 0
  EachSteps sites = AllByRecursion (λ (s : Site). EndSteps v s (starts s) (out s) (so s)) sites

  -- the hosts as the frames go out on their links
  abbrev pub midway : (sites : List Site) → EachSteps sites → List Site
  midway [] a = []
  midway (s ∷ sites) a = record s { link = a.0.link } ∷ midway sites a.1

  pub midway_hosts : (sites : List Site) (a : EachSteps sites) → hosts_in (midway sites a) ≡ hosts_in sites
  midway_hosts [] a = refl
  midway_hosts (s ∷ sites) a = ap (λ hs. s.host ∷ hs) (midway_hosts sites a.1)

  pub each_one : (sites : List Site) → EachSteps sites → AreDifferent (hosts_of_ends v.ports) → AllByRecursion (HasOneEnd v.ports) (hosts_in sites)
  each_one [] a d = tt
  each_one (s ∷ sites) a d = (record { port = a.0.port; here = a.0.here; only = the_only s.host a.0.port v.ports d a.0.here }, each_one sites a.1 d)

  -- what was noted of all frames
  pub told_alike : (sites : List Site) (a : EachSteps sites) → v.cut ≡ false
      → flat_map (frames_emitted v.ports) (midway sites a) ≡ flat_map (λ (s : Site). frames_noted Controller s.host (out s) v) sites
  told_alike [] a on = refl
  told_alike (s ∷ sites) a on = ap₂ (λ xs ys. xs ++ ys) one (told_alike sites a.1 on)
    where
      one : frames_emitted v.ports (record s { link = a.0.link }) ≡ frames_noted Controller s.host (out s) v
      one =
          let e : EndSteps v s (starts s) (out s) (so s) = a.0 in
          ap (λ cs. entries_for s.host (puts_entries Controller e.link cs)) (ap (λ o. option_map_or (λ (p : Port). frames_out p.side) o []) e.here)
          ∙ (ap (entries_for s.host) (puts_alike Controller (frames_out e.port.side) e.link (out s) e.alike)
          ∙ sym (grind arith))

  pub none_told : (sites : List Site) → v.cut ≡ true → flat_map (λ (s : Site). frames_noted Controller s.host (out s) v) sites ≡ []
  none_told [] off = refl
  none_told (s ∷ sites) off =
      let one : frames_noted Controller s.host (out s) v ≡ [] = grind arith in
      ap (λ xs. xs ++ flat_map (λ (s : Site). frames_noted Controller s.host (out s) v) sites) one ∙ none_told sites off

  abbrev pub starts_so : Site → Site
  starts_so s = record s { link = starts s }

  abbrev pub ends_so : Ending → Site → Site
  ends_so e s = record s { link = so s e }

  abbrev Near : HostSite → Site → Link → Type 0
  Near k s l = SiteIs k (record s { link = l })

  placed : (k : HostSite) (s : Site) (l m : Link) → m.host ≡ l.host → WiresStandFor k.wires m → Near k s l → Near k s m
  placed k s l m q wires a = record { host = a.host; wires = wires; place = rw (← q) at a.place }

  pub midway_stands : (ks : List HostSite) (sites : List Site) (a : EachSteps sites) → SitesAre ks (map starts_so sites) → SitesAre ks (midway sites a)
  midway_stands [] [] a b = tt
  midway_stands (k ∷ ks) (s ∷ sites) a b = (placed k s (starts s) a.0.link a.0.far (same_stand a.0.wires b.0.wires) b.0, midway_stands ks sites a.1 b.1)
  midway_stands [] (s ∷ sites) a b = absurd b
  midway_stands (k ∷ ks) [] a b = absurd b

  pub out_stands : (ks : List HostSite) (sites : List Site) (a : EachSteps sites)
      → SitesAre ks (map (has_frames v.ports) (midway sites a)) → SitesAre ks (map (ends_so GoesOut) sites)
  out_stands [] [] a b = tt
  out_stands [] (s ∷ sites) a b = absurd b
  out_stands (k ∷ ks) [] a b = absurd b
  out_stands (k ∷ ks) (s ∷ sites) a b = (one, out_stands ks sites a.1 b.1)
    where
      one : SiteIs k (ends_so GoesOut s)
      one =
          let e : EndSteps v s (starts s) (out s) (so s) = a.0 in
          let due : due_at v.ports s.host ≡ frames_out e.port.side = ap (λ o. option_map_or (λ (p : Port). frames_out p.side) o []) e.here in
          let sent : Near k s (put_all e.link (frames_out e.port.side)) = rw due at b.0 in
          let w = sent.wires in
          rw e.goes_out (record {
            host = sent.host;
            wires = record {
              here = record { emitted_is = w.here.emitted_is; took_is = w.here.took_is; wire_is = w.here.wire_is };
              there = w.there;
              count = w.count;
            };
            place = sent.place;
          })

  pub off_stands : (ks : List HostSite) (sites : List Site) (a : EachSteps sites)
      → SitesAre ks (map with_bare_link (midway sites a)) → SitesAre ks (map (ends_so CutOff) sites)
  off_stands [] [] a b = tt
  off_stands [] (s ∷ sites) a b = absurd b
  off_stands (k ∷ ks) [] a b = absurd b
  off_stands (k ∷ ks) (s ∷ sites) a b = (one, off_stands ks sites a.1 b.1)
    where
      one : SiteIs k (ends_so CutOff s)
      one =
          let e : EndSteps v s (starts s) (out s) (so s) = a.0 in
          let m : Link = with_controller e.link (sent_all e.port.side) in
          let same : SameWires (with_bare_wires e.link) (with_bare_wires m) = grind arith in
          let gone : SameWires (with_bare_wires e.link) (cut m) = same_twice same (silent_same m (new_link_end (renewed m.controller.side.role))) in
          rw e.goes_off (placed k s (with_bare_wires e.link) (cut m) (ended_far m (is_up m.controller.side.shdlc.phase)) (same_stand gone b.0.wires) b.0)

-- What is kept of the controller and of all hosts stands for the world behind a step of the controller.

-- a step of the controller that has become v, in a world w: each link is one as it begins, and so behind it
module _ (w : NodeWorld) (v : Work) (starts out : Site → Link) (so : Site → Ending → Link) (different : AreDifferent (hosts_in w.sites))
    (hosts : hosts_of_ends v.ports ≡ hosts_in w.sites)
    (each : (s : Site) → site_at w.sites s.host ≡ Some s → EndSteps v s (starts s) (out s) (so s)) where
  pub all_steps : EachSteps v starts out so w.sites
  all_steps = go w.sites (each_found (λ (s : Site). s.host) w.sites different)
    where
      go : (left : List Site) → AllByRecursion (λ (s : Site). site_at w.sites s.host ≡ Some s) left → EachSteps v starts out so left
      go [] a = tt
      go (s ∷ left) a = (each s a.0, go left a.1)

  -- the hosts before the frames go out
  abbrev pub mid_hosts : List Site
  mid_hosts = midway v starts out so w.sites all_steps

  abbrev pub sites_so : Ending → List Site
  sites_so e = map (λ (s : Site). record s { link = so s e }) w.sites

  -- the world behind it, and what is noted of it
  abbrev pub behind_step : NodeWorld × List Entry
  behind_step = (
    record { memory = after_planned v.writes w.memory; controller = runs_on v; sites = sites_so (ending_of v) },
    v.entries ++ flat_map (λ (s : Site). frames_noted Controller s.host (out s) v) w.sites,
  )

  ends_different : AreDifferent (hosts_of_ends v.ports)
  ends_different = subst AreDifferent (sym hosts) different

  sides : AllByRecursion (λ (p : Port). (link_to (sites_so GoesOut) p.desk.host).controller.side ≡ sent_all p.side) v.ports
  sides =
      all_sides v w.sites (λ (s : Site). record s { link = so s GoesOut }) (λ s. refl) hosts different
      (λ s found. grind arith)

  none_left : (near_ends : ℕ → NumberedEnd) (ports : List Port) → AllByRecursion (λ (p : Port). (near_ends p.desk.host).side ≡ sent_all p.side) ports
      → AllByRecursion (λ (p : Port). SendsOneByOne p.side) ports
      → AllByRecursion (λ (d : Desk). next_frame (near_ends d.host).side ≡ None) (map (λ (p : Port). p.desk) ports)
  none_left near_ends [] a b = tt
  none_left near_ends (p ∷ ports) a b = (ap next_frame a.0 ∙ b.0.none, none_left near_ends ports a.1 b.1)

  -- as it ends, the controller has one end on the link with each host
  pub sends_them : {Runs : Type 0} (ks : List HostSite) → Runs
      → SitesAre ks (map (λ (s : Site). record s { link = starts s }) w.sites) → SendsTo Runs v.ports ks mid_hosts
  sends_them ks runs a =
      let same : hosts_in mid_hosts ≡ hosts_in w.sites = midway_hosts v starts out so w.sites all_steps in
      record {
        runs = runs;
        sites = midway_stands v starts out so ks w.sites all_steps a;
        different = subst AreDifferent (sym same) different;
        ends = subst (AllByRecursion (HasOneEnd v.ports)) (sym same) (each_one v starts out so w.sites all_steps ends_different);
      }

  pub went_on : (k : Power) (ks : List HostSite) (n : Node Memory) (before now : List Entry) → v.cut ≡ false
      → node_memory n ≡ after_planned v.writes w.memory → RunsAs n v.core v.ports
      → GoesOnWith k ks n v mid_hosts before now → WorldBecomes k ks before now behind_step
  went_on k ks n before now on memory runs r =
      let near_ends : ℕ → NumberedEnd = λ h. (link_to (sites_so GoesOut) h).controller in
      let left : Running = record { core = v.core; desks = map (λ (p : Port). p.desk) v.ports } in
      let names : sent_to (hosts_in mid_hosts) v.ports ≡ map sent_port v.ports =
      ap (λ hs. sent_to hs v.ports) (midway_hosts v starts out so w.sites all_steps) ∙ sent_everywhere (hosts_in w.sites) v.ports different hosts in
      let ports : RunsAs r.node v.core (map (λ (d : Desk). port_for (near_ends d.host) d) left.desks) =
      kept_alike (sent_to (hosts_in mid_hosts) v.ports) (map (λ (d : Desk). port_for (near_ends d.host) d) left.desks)
      (ap (map between) names ∙ next_ports near_ends v.ports sides) r.runs in
      let m : Memory = after_planned v.writes w.memory in
      let Place : Power → Type 0 = λ a. IsNodePlace a m (Some left) near_ends in
      let place : Place (On r.node) = (r.memory ∙ memory, ports, none_left near_ends v.ports sides (all_one_by_one runs)) in
      let told : List Entry = flat_map (λ (s : Site). frames_noted Controller s.host (out s) v) w.sites in
      let World : Bool → NodeWorld = λ b. record { memory = m; controller = cond b None (Some left); sites = sites_so (cond b CutOff GoesOut) } in
      subst (λ b. WorldBecomes k ks before now (World b, v.entries ++ told)) (sym on)
      (record {
        world = record { controller = subst Place (sym r.on) place; sites = out_stands v starts out so ks w.sites all_steps r.sites };
        noted = r.noted ∙ (ap (λ es. (before ++ v.entries) ++ es) (told_alike v starts out so w.sites all_steps on) ∙ append_assoc before v.entries told);
      })

  pub went_off : (k : Power) (ks : List HostSite) (n : Node Memory) (before now : List Entry) → v.cut ≡ true
      → node_memory n ≡ after_planned v.writes w.memory → WentOffWith k ks n v mid_hosts before now → WorldBecomes k ks before now behind_step
  went_off k ks n before now off memory r =
      let left : Running = record { core = v.core; desks = map (λ (p : Port). p.desk) v.ports } in
      let m : Memory = after_planned v.writes w.memory in
      let Place : Power → Type 0 = λ a. IsNodePlace a m None (λ h. (link_to (sites_so CutOff) h).controller) in
      let told : List Entry = flat_map (λ (s : Site). frames_noted Controller s.host (out s) v) w.sites in
      let World : Bool → NodeWorld = λ b. record { memory = m; controller = cond b None (Some left); sites = sites_so (cond b CutOff GoesOut) } in
      subst (λ b. WorldBecomes k ks before now (World b, v.entries ++ told)) (sym off)
      (record {
        world = record { controller = subst Place (sym r.off) memory; sites = off_stands v starts out so ks w.sites all_steps r.sites };
        noted = r.noted ∙ ap (λ es. before ++ es) (sym (ap (λ es. v.entries ++ es) (none_told v starts out so w.sites off) ∙ append-nil v.entries));
      })

-- A step of the controller in which something comes to one of its ends: how it begins, how what it notes is numbered, and what is behind it.

-- ## As a step begins

-- ends with the same machines
pub same_ends : (near far : ℕ → NumberedEnd) (desks : List Desk) → ((h : ℕ) → (near h).side ≡ (far h).side)
    → map between (map (λ (d : Desk). port_for (near d.host) d) desks) ≡ map between (map (λ (d : Desk). port_for (far d.host) d) desks)
same_ends near far [] q = refl
same_ends near far (d ∷ desks) q =
    ap₂ (λ (x : Port) xs. x ∷ xs) (ap (λ (e : LinkEnd). record { desk = d; side = e; session = 0; late = false; ended = false; turns = [] }) (q d.host))
    (same_ends near far desks q)

pub ends_sent : (near far : ℕ → NumberedEnd) (desks : List Desk) → ((h : ℕ) → (near h).side ≡ (far h).side)
    → AllByRecursion (λ (d : Desk). next_frame (near d.host).side ≡ None) desks
    → AllByRecursion (λ (p : Port). next_frame p.side ≡ None) (map (λ (d : Desk). port_for (far d.host) d) desks)
ends_sent near far [] q a = tt
ends_sent near far (d ∷ desks) q a = (rw (q d.host) at a.0, ends_sent near far desks q a.1)

pub ends_fresh : (near : ℕ → NumberedEnd) (desks : List Desk)
    → AllByRecursion (λ (p : Port). (p.late ≡ false) × (p.ended ≡ false)) (map (λ (d : Desk). port_for (near d.host) d) desks)
ends_fresh near [] = tt
ends_fresh near (d ∷ desks) = ((refl, refl), ends_fresh near desks)

late_of : (o : Option LinkInput) (d : Desk) (a b : NumberedEnd) → a.side ≡ b.side → StaysCounted (has_come (port_for a d) o).side (Some (Reset None))
    → StaysCounted (has_come (port_for b d) o).side (Some (Reset None))
late_of o d a b q few = grind arith

late_one : (input : NodeInput) (d : Desk) (a b : NumberedEnd) → a.side ≡ b.side
    → StaysCounted (has_come (port_for a d) (input_at input (port_for a d))).side (Some (Reset None))
    → StaysCounted (has_come (port_for b d) (input_at input (port_for b d))).side (Some (Reset None))
late_one input d a b q few = grind arith

abbrev FewCome : NodeInput → (ℕ → NumberedEnd) → List Desk → Type 0
FewCome input ends ds = AllByRecursion (λ (p : Port). StaysCounted p.side (input_at input p)) (map (λ (d : Desk). port_for (ends d.host) d) ds)

abbrev FewLate : NodeInput → (ℕ → NumberedEnd) → List Desk → Type 0
FewLate input ends ds =
    AllByRecursion (λ (p : Port). StaysCounted (has_come p (input_at input p)).side (Some (Reset None))) (map (λ (d : Desk). port_for (ends d.host) d) ds)

pub few_ends : (input : NodeInput) (near far : ℕ → NumberedEnd) (desks : List Desk) → ((h : ℕ) → (near h).side ≡ (far h).side)
    → CountsFew input (map (λ (d : Desk). port_for (near d.host) d) desks) → CountsFew input (map (λ (d : Desk). port_for (far d.host) d) desks)
few_ends input near far desks q few = record { come = come desks few.come; late = late desks few.late }
  where
    come : (ds : List Desk) → FewCome input near ds → FewCome input far ds
    come [] a = tt
    come (d ∷ ds) a = ((let h0 = near d.host in let h1 = far d.host in let h2 = q d.host in grind arith), come ds a.1)

    late : (ds : List Desk) → FewLate input near ds → FewLate input far ds
    late [] a = tt
    late (d ∷ ds) a = (late_one input d (near d.host) (far d.host) (q d.host) a.0, late ds a.1)

-- ## One step

module _ (w : NodeWorld) (r : Running) (h : ℕ) (comes : Comes) (i : LinkInput) (s : Site) (may : MayGoOn w) (runs : w.controller ≡ Some r)
    (found : site_at w.sites h ≡ Some s) (input : input_of (link_to w.sites h) comes ≡ Some i) where
  node : HasEnds 0 (hosts_in w.sites) r
  node = subst (IfItRuns 0 (hosts_in w.sites)) runs may.orderly.controller

  abbrev plain : ℕ → NumberedEnd
  plain k = (link_to w.sites k).controller

  abbrev near : ℕ → NumberedEnd
  near k = near_end_in (link_to w.sites k) (comes_to h comes k)

  abbrev pub Start : Work
  Start = work_of r w.memory.plan near (entries_for h (arrival Controller (link_to w.sites h) comes))

  abbrev pub Then : Work
  Then = controller_work w r h comes (steps (AtEnd h i))

  same_near : (k : ℕ) → (plain k).side ≡ (near k).side
  same_near k = sym (near_side (link_to w.sites k) (comes_to h comes k))

  abbrev starts : Site → Link
  starts x = as_it_comes x.link (comes_to h comes x.host)

  abbrev out : Site → Link
  out x = wires_for x.link (comes_to h comes x.host)

  abbrev so : Site → Ending → Link
  so x e = happens_at_controller x.link (Step (comes_to h comes x.host) (turns_at Then x.host) e)

  pub each : (x : Site) → site_at w.sites x.host ≡ Some x → EndSteps Then x (starts x) (out x) (so x)
  each x there =
      let g : EndGoes x.host x.link (comes_to h comes x.host) Then = controller_ends w r h comes i x.host x may.orderly node there input in
      grind arith

  pub hosts_then : hosts_of_ends Then.ports ≡ hosts_in w.sites
  hosts_then = hosts_kept w r h comes i may.orderly node input

  abbrev pub mid_sites : List Site
  mid_sites = mid_hosts w Then starts out so may.orderly.different hosts_then each

  -- the numbers of sessions are those that stand where it came
  each_number : (sessions : List ℕ) (sites : List Site) → AreSessions sessions (as_it_comes_to h comes sites)
      → AllByRecursion (λ (x : Site). number_of (near_end_in x.link (comes_to h comes x.host)) ≡ get_or sessions x.host 0) sites
  each_number sessions [] a = tt
  each_number sessions (x ∷ sites) a = (number_coming x.link (comes_to h comes x.host) ∙ sym a.0, each_number sessions sites a.1)

  numbers_of : (sessions : List ℕ) (desks : List Desk) (sites : List Site) → map (λ (d : Desk). d.host) desks ≡ hosts_in sites
      → AllByRecursion (λ (x : Site). site_at w.sites x.host ≡ Some x) sites
      → AllByRecursion (λ (x : Site). number_of (near_end_in x.link (comes_to h comes x.host)) ≡ get_or sessions x.host 0) sites
      → AllByRecursion (λ (d : Desk). number_of (near d.host) ≡ get_or sessions d.host 0) desks
  numbers_of sessions [] sites q a b = tt
  numbers_of sessions (d ∷ desks) [] q a b = absurd (cc q)
  numbers_of sessions (d ∷ desks) (x ∷ sites) q a b =
      let host : d.host ≡ x.host = cc in
      let rest : map (λ (d : Desk). d.host) desks ≡ hosts_in sites = cc in
      (rw (← host) at (rw (← link_is w.sites x.host x a.0) at b.0), numbers_of sessions desks sites rest a.1 b.1)

  pub numbered : (sessions : List ℕ) → AreSessions sessions (as_it_comes_to h comes w.sites) → FewAreCounted (AtEnd h i) w
      → AreNumbered (λ k. get_or sessions k 0) Then.entries
  numbered sessions a few =
      let session : ℕ → ℕ = λ k. get_or sessions k 0 in
      let all = each_found (λ (x : Site). x.host) w.sites may.orderly.different in
      (stepped session (AtEnd h i) Start (few_ends (AtEnd h i) plain near r.desks same_near (rw runs at few))
      (work_numbers session r w.memory.plan near (entries_for h (arrival Controller (link_to w.sites h) comes))
      (arrival_numbered session h Controller (link_to w.sites h) comes)
      (numbers_of sessions r.desks w.sites node.ends all (each_number sessions w.sites a)))).entries

  -- ## Its refusal

  -- what its node tells of what came
  pub refused_there : (what : Incoming) (a : Arrived) (why : Option ResetRefused) → IsArrivalOf what a
      → refusal_arrived a (port_at (map (λ (d : Desk). port_for (plain d.host) d) r.desks) h) ≡ why
      → why ≡ refusal_coming w.controller (plain h).side (as_comes what)
  refused_there what a why is_of told =
      let one : Stands plain r.desks h = stands plain r.desks w.sites h s node.ends found in
      sym told ∙ (ap (refusal_arrived a) one.here ∙ refused_so what a (port_for (plain h) one.desk) w.controller r (plain h).side is_of refl runs)

  -- ## Both ways

  pub begins_there : (n : Node Memory) → IsNodePlace (On n) w.memory (Some r) plain → BeginsOver n Start
  begins_there n place = record {
    runs = kept_alike (map (λ (d : Desk). port_for (plain d.host) d) r.desks) (map (λ (d : Desk). port_for (near d.host) d) r.desks)
        (same_ends plain near r.desks same_near) place.1;
    sent = ends_sent plain near r.desks same_near place.2;
    fresh = ends_fresh near r.desks;
    power = refl;
    plan = ap (λ (m : Memory). m.plan) (sym place.0);
    writes = refl;
  }

  pub sends_all : {Runs : Type 0} (ks : List HostSite) → Runs → SitesAre ks (as_it_comes_to h comes w.sites) → SendsTo Runs Then.ports ks mid_sites
  sends_all ks runs a = sends_them w Then starts out so may.orderly.different hosts_then each ks runs a

  pub step_midway : (old n : Node Memory) (ks : List HostSite) (live : Bool) → HasGone old n Then live → SitesAre ks (as_it_comes_to h comes w.sites)
      → EndsStep (On n) ks n live Then mid_sites
  step_midway old n ks live gone a = record { on = refl; sends = sends_all ks gone.runs a }

  abbrev Becomes : Power → List HostSite → List Entry → List Entry → Type 0
  Becomes k ks before now = WorldBecomes k ks before now (comes_at w (end_c h) comes)

  step_is : comes_at w (end_c h) comes ≡ after_controller w h comes Then
  step_is = rw (input, runs) refl

  pub step_went_on : (k : Power) (ks : List HostSite) (n : Node Memory) (before now : List Entry) → Then.cut ≡ false
      → node_memory n ≡ after_planned Then.writes w.memory → RunsAs n Then.core Then.ports
      → GoesOnWith k ks n Then mid_sites before now → Becomes k ks before now
  step_went_on k ks n before now on memory run g =
      rw step_is (went_on w Then starts out so may.orderly.different hosts_then each k ks n before now on memory run g)

  pub step_went_off : (k : Power) (ks : List HostSite) (n : Node Memory) (before now : List Entry) → Then.cut ≡ true
      → node_memory n ≡ after_planned Then.writes w.memory → WentOffWith k ks n Then mid_sites before now → Becomes k ks before now
  step_went_off k ks n before now off memory g =
      rw step_is (went_off w Then starts out so may.orderly.different hosts_then each k ks n before now off memory g)

  -- the step ends in either way
  pub step_ends : {T F : Type 0} (result : Result T F) (live : Bool) (k : Power) (ks : List HostSite) (old n : Node Memory) (before now : List Entry)
      → IsNodePlace (On old) w.memory (Some r) plain → HasGone old n Then live
      → (live ≡ true → OnOk result (GoesOnWith k ks n Then mid_sites before now))
      → (live ≡ false → OnOk result (WentOffWith k ks n Then mid_sites before now)) → OnOk result (Becomes k ks before now)
  step_ends result live k ks old n before now place gone goes_on goes_off = go live refl
    where
      memory : node_memory n ≡ after_planned Then.writes w.memory
      memory = gone.memory ∙ ap (after_planned Then.writes) place.0

      go : (b : Bool) → live ≡ b → OnOk result (Becomes k ks before now)
      go true q = on_ok result (goes_on q) (λ g. step_went_on k ks n before now (gone.power ∙ ap not q) memory (gone.runs q) g)
      go false q = on_ok result (goes_off q) (λ g. step_went_off k ks n before now (gone.power ∙ ap not q) memory g)
