-- A tick of the controller: how it begins, how what it notes is numbered, and what is behind it.
use Rattle.node_world.proofs.Words.{AllByRecursion, AreNumbered, AreSessions, AreTimely, AreToTick, BeginsOver, Bool, Clf, CountsFew, CountsOn, CutOff, Desk}
use Rattle.node_world.proofs.Words.{Ending, EndsStep, Entry, FewAreCounted, FewOn, FewOnEach, GoesOnWith, GoesOut, HasEnds, HasGone, HostSite, IfItRuns, IsHost}
use Rattle.node_world.proofs.Words.{IsHostOf, IsNodePlace, IsWithinBounds, Link, List, MayGoOn, MayTick, Memory, Node, NodeWorld, None, NoneDue, NumberedEnd}
use Rattle.node_world.proofs.Words.{Off, On, OnOk, Option, Power, Result, Running, SameWires, Site, SiteIs, SitesAre, Some, Tick, TimePasses, Uicc, WentOffWith}
use Rattle.node_world.proofs.Words.{Work, WorldBecomes, WorldIs, [], after_input, after_planned, aged, all_aged, ap, append-nil, append_assoc, arith}
use Rattle.node_world.proofs.Words.{by_controller_tick, by_host_tick, controller_ticks, ending_of, exchanged, false, flat_map, frames_out, get_or, host_tick}
use Rattle.node_world.proofs.Words.{host_ticks, hosts_in, hosts_of_ends, hosts_tick, is_late_at, link_is, link_to, map, near_tick, near_ticks, new_clf}
use Rattle.node_world.proofs.Words.{new_desk, new_link_end, new_uicc, node_memory, not, number_of, on_ok, port_for, refl, site_at, site_ticked, site_unticked}
use Rattle.node_world.proofs.Words.{stepped, subst, sym, ticked_so, ticks_at_controller, true, turns_at, work_numbers, work_of, world_ticks, ℕ, ◌++◌, ◌==◌, ◌∙◌}
use Rattle.node_world.proofs.Words.{◌∷◌, ◌≡◌}
use Rattle.node_laws.specs.telling.Telling.{IfOff}
use Rattle.node_machine.proofs.world.Cases.{after_near_tick}
use Rattle.node_laws.specs.telling.Telling.{IsTimely}
use Rattle.node_laws.proofs.telling.Steps.{tick_keeps}
use Rattle.node_laws.proofs.telling.Events.{hosts_same_of_nodes as hosts_same, orderly_map}
use Rattle.node_laws.proofs.telling.WorldTicks.{tick_host}
use Rattle.node_world.specs.Whole.{SitesTick}
use Rattle.node_world.proofs.EndsGo.{same_stand, same_twice, each_found, all_far, ticks_on, controller_end_ticks}
use Rattle.node_world.proofs.HostsDo.{becomes_same}
use Rattle.node_world.proofs.ControllersStep.{EndSteps, mid_hosts, sends_them, went_on, went_off, ends_sent, ends_fresh}
use Rattle.node_world.proofs.HostsInWorlds.{sendable_on, LeavesNear}
use Rattle.node_world.proofs.CountsStay.{counts_few_in_tick}
use Rattle.node_world.proofs.FewInWorlds.{few_behind_ages, few_behind_tick, far_stays_ticked}
use Rattle.node_laws.proofs.links.Worlds.{so_host as far_so}

-- ## While it doesn't run

-- an end that wasn't activated sends nothing at a tick
still_wires : (l : Link) → l.controller.side ≡ new_link_end (Clf new_clf) → SameWires l (ticks_at_controller l [] GoesOut)
still_wires l q =
    let g = ticks_on l false [] (λ late. absurd (cc late)) in
    rw g.out (same_twice g.wires (becomes_same g.link (after_input l.controller.side Tick) (ap (λ x. frames_out (after_input x Tick)) q)))

still_far : (l : Link) → (ticks_at_controller l [] GoesOut).host ≡ l.host
still_far l =
    let g = ticks_on l false [] (λ late. absurd (cc late)) in
    ap (λ (m : Link). m.host) g.out ∙ (all_far g.link (frames_out (after_input l.controller.side Tick)) ∙ g.far)

all_still : (ks : List HostSite) (sites : List Site)
    → AllByRecursion (λ (s : Site). s.link.controller.side ≡ new_link_end (Clf new_clf)) sites → SitesAre ks sites → SitesAre ks (map site_unticked sites)
all_still [] [] q a = tt
all_still [] (s ∷ sites) q a = absurd a
all_still (k ∷ ks) [] q a = absurd a
all_still (k ∷ ks) (s ∷ sites) q a = (one, all_still ks sites q.1 a.1)
  where
    one : SiteIs k (site_unticked s)
    one =
        record { host = a.0.host; wires = same_stand (still_wires s.link q.0) a.0.wires; place = rw (← still_far s.link) at a.0.place }

pub ticks_off : (k : Power) (ks : List HostSite) (w : NodeWorld) (entries : List Entry) → w.controller ≡ None → AreTimely w → MayGoOn w
    → WorldIs k ks w → WorldBecomes k ks entries entries (controller_ticks w)
ticks_off k ks w entries off timely may world =
    let Here : Option Running → Type 0 = λ o. IsNodePlace k w.memory o (λ h. (link_to w.sites h).controller) in
    let There : Option Running → Type 0 = λ o. IsNodePlace k w.memory o (λ h. (link_to (map site_unticked w.sites) h).controller) in
    subst (λ x. WorldBecomes k ks entries entries x) (sym (rw off refl))
    (record {
      world = record {
        controller = subst There (sym off) (let h0 = subst Here off world.controller in grind arith);
        sites = all_still ks w.sites (new_ends w.sites (each_found (λ (x : Site). x.host) w.sites may.orderly.different)) world.sites;
      };
      noted = sym (append-nil entries);
    })
  where
    new_ends : (left : List Site) → AllByRecursion (λ (x : Site). site_at w.sites x.host ≡ Some x) left
        → AllByRecursion (λ (s : Site). s.link.controller.side ≡ new_link_end (Clf new_clf)) left
    new_ends [] a = tt
    new_ends (x ∷ left) a =
        (subst (λ o. IfOff o (new_link_end (Clf new_clf)) x.link.controller.side) off (timely x.host x a.0).controller, new_ends left a.1)

-- ## Its tick

module _ (w : NodeWorld) (r : Running) (may : MayGoOn w) (timely : AreTimely w) (runs : w.controller ≡ Some r) where
  node : HasEnds 0 (hosts_in w.sites) r
  node = subst (IfItRuns 0 (hosts_in w.sites)) runs may.orderly.controller

  abbrev plain : ℕ → NumberedEnd
  plain k = (link_to w.sites k).controller

  abbrev pub Begun : Work
  Begun = work_of r w.memory.plan plain []

  abbrev pub Ticked : Work
  Ticked = near_tick w r

  abbrev starts : Site → Link
  starts x = x.link

  abbrev so : Site → Ending → Link
  so x e = ticked_so x.link (is_late_at Ticked x.host) (turns_at Ticked x.host) e

  pub each : (x : Site) → site_at w.sites x.host ≡ Some x → EndSteps Ticked x (starts x) (starts x) (so x)
  each x there =
      let g = (controller_end_ticks w x may.orderly there r runs node (rw runs at (timely x.host x there).up)).ticks in
      record {
        port = g.port;
        here = g.here;
        link = g.goes.link;
        wires = g.goes.wires;
        alike = record { to_host = g.goes.wires.to_host; resets = g.goes.wires.resets };
        goes_out = ap (λ b. ticked_so x.link b (turns_at Ticked x.host) GoesOut) g.late_is ∙ g.goes.out;
        goes_off = ap (λ b. ticked_so x.link b (turns_at Ticked x.host) CutOff) g.late_is ∙ g.goes.cut;
        far = g.goes.far;
      }

  pub hosts_then : hosts_of_ends Ticked.ports ≡ hosts_in w.sites
  hosts_then = (tick_keeps 0 (hosts_in w.sites) Begun (record { number = node.number; ends = hosts_same plain r.desks ∙ node.ends })).ends

  abbrev pub mid_sites : List Site
  mid_sites = mid_hosts w Ticked starts starts so may.orderly.different hosts_then each

  numbers_of : (sessions : List ℕ) (desks : List Desk) (sites : List Site) → map (λ (d : Desk). d.host) desks ≡ hosts_in sites
      → AllByRecursion (λ (x : Site). site_at w.sites x.host ≡ Some x) sites → AreSessions sessions sites
      → AllByRecursion (λ (d : Desk). number_of (plain d.host) ≡ get_or sessions d.host 0) desks
  numbers_of sessions [] sites q a b = tt
  numbers_of sessions (d ∷ desks) [] q a b = absurd (cc q)
  numbers_of sessions (d ∷ desks) (x ∷ sites) q a b =
      let host : d.host ≡ x.host = cc in
      let rest : map (λ (d : Desk). d.host) desks ≡ hosts_in sites = cc in
      (rw (← host) at (rw (← link_is w.sites x.host x a.0) at (sym b.0)), numbers_of sessions desks sites rest a.1 b.1)

  pub numbered : (sessions : List ℕ) → AreSessions sessions w.sites → FewAreCounted TimePasses w → AreNumbered (λ k. get_or sessions k 0) Ticked.entries
  numbered sessions a few =
      let session : ℕ → ℕ = λ k. get_or sessions k 0 in
      let all = each_found (λ (x : Site). x.host) w.sites may.orderly.different in
      (stepped session TimePasses Begun (rw runs at few)
      (work_numbers session r w.memory.plan plain [] tt (numbers_of sessions r.desks w.sites node.ends all a))).entries

  pub tick_begins : (n : Node Memory) → IsNodePlace (On n) w.memory (Some r) plain → BeginsOver n Begun
  tick_begins n place = record {
    runs = place.1;
    sent = ends_sent plain plain r.desks (λ h. refl) place.2;
    fresh = ends_fresh plain r.desks;
    power = refl;
    plan = ap (λ (m : Memory). m.plan) (sym place.0);
    writes = refl;
  }

  pub tick_midway : (old n : Node Memory) (ks : List HostSite) (live : Bool) → HasGone old n Ticked live
      → SitesAre ks w.sites → EndsStep (On n) ks n live Ticked mid_sites
  tick_midway old n ks live gone a =
      record {
        on = refl;
        sends =
            sends_them w Ticked starts starts so may.orderly.different hosts_then each ks gone.runs (rw (← same_sites w.sites) at a);
      }
    where
      same_sites : (sites : List Site) → map (λ (s : Site). record s { link = s.link }) sites ≡ sites
      same_sites [] = refl
      same_sites (s ∷ sites) = ap (λ xs. s ∷ xs) (same_sites sites)

  abbrev Becomes : Power → List HostSite → List Entry → List Entry → Type 0
  Becomes k ks before now = WorldBecomes k ks before now (controller_ticks w)

  -- the tick ends in either way
  pub tick_ends : {T F : Type 0} (result : Result T F) (live : Bool) (k : Power) (ks : List HostSite) (old n : Node Memory) (before now : List Entry)
      → IsNodePlace (On old) w.memory (Some r) plain → HasGone old n Ticked live
      → (live ≡ true → OnOk result (GoesOnWith k ks n Ticked mid_sites before now))
      → (live ≡ false → OnOk result (WentOffWith k ks n Ticked mid_sites before now)) → OnOk result (Becomes k ks before now)
  tick_ends result live k ks old n before now place gone goes_on goes_off = go live refl
    where
      memory : node_memory n ≡ after_planned Ticked.writes w.memory
      memory = gone.memory ∙ ap (after_planned Ticked.writes) place.0

      tick_is : controller_ticks w ≡ after_near_tick w Ticked
      tick_is = rw runs refl

      go : (b : Bool) → live ≡ b → OnOk result (Becomes k ks before now)
      go true q =
          let B : NodeWorld × List Entry → Type 0 = λ x. WorldBecomes k ks before now x in
          on_ok result (goes_on q) (λ g. subst B (sym tick_is) (went_on w Ticked starts starts so may.orderly.different hosts_then each k ks n before now
          (gone.power ∙ ap not q) memory (gone.runs q) g))
      go false q =
          let B : NodeWorld × List Entry → Type 0 = λ x. WorldBecomes k ks before now x in
          on_ok result (goes_off q) (λ g. subst B (sym tick_is) (went_off w Ticked starts starts so may.orderly.different hosts_then each k ks n before now
          (gone.power ∙ ap not q) memory g))

-- The frames on all wires have grown older: the world is as ready for the tick of the controller as before.

-- a host whose frames have grown older
abbrev pub older : Site → Site
older s = record s { link = aged s.link }

abbrev pub older_world : NodeWorld → NodeWorld
older_world w = record w { sites = map older w.sites }

near_as_old : (sites : List Site) (h : ℕ) → (link_to (map older sites) h).controller ≡ (link_to sites h).controller
near_as_old [] h = refl
near_as_old (s ∷ sites) h = go (s.host == h) refl (near_as_old sites h)
  where
    go : (b : Bool) → (s.host == h) ≡ b → (link_to (map older sites) h).controller ≡ (link_to sites h).controller
        → (link_to (map older (s ∷ sites)) h).controller ≡ (link_to (s ∷ sites) h).controller
    go true q later = rw q refl
    go false q later = rw q later

abbrev near_ends : List Site → ℕ → NumberedEnd
near_ends sites h = (link_to sites h).controller

all_near : (sites : List Site) → near_ends (map older sites) ≡ near_ends sites
all_near sites = λ i h. near_as_old sites h i

-- the host that is found among them
record Was (sites : List Site) (h : ℕ) (t : Site) : Type 0 where
  pub site : Site
  pub found : site_at sites h ≡ Some site
  pub is : older site ≡ t

was_there : (sites : List Site) (h : ℕ) (t : Site) → site_at (map older sites) h ≡ Some t → Was sites h t
was_there [] h t q = absurd (cc q)
was_there (s ∷ sites) h t q = let h0 = s.host == h in let h1 = was_there sites h t in grind arith

pub older_timely : (w : NodeWorld) → AreTimely w → AreTimely (older_world w)
older_timely w timely h t q =
    let was = was_there w.sites h t q in
    let before : IsTimely w h was.site = timely h was.site was.found in
    rw (← was.is) (record { controller = before.controller; host = before.host; up = before.up; young = before.young })

older_hosts : (sites : List Site) → hosts_in (map older sites) ≡ hosts_in sites
older_hosts [] = refl
older_hosts (s ∷ sites) = ap (λ hs. s.host ∷ hs) (older_hosts sites)

pub older_goes_on : (w : NodeWorld) → MayGoOn w → MayGoOn (older_world w)
older_goes_on w may = record {
  orderly = orderly_map w w.memory w.controller older (λ s. refl) may.orderly may.orderly.controller (λ s a. a);
  hosts = subst (AllByRecursion IsHost) (sym (older_hosts w.sites)) may.hosts;
}

pub older_resets : (sites : List Site) → map (λ (s : Site). s.link.resets) (map older sites) ≡ map (λ (s : Site). s.link.resets) sites
older_resets [] = refl
older_resets (s ∷ sites) = ap (λ ns. s.link.resets ∷ ns) (older_resets sites)

pub older_few : (w : NodeWorld) → FewAreCounted TimePasses w → FewAreCounted TimePasses (older_world w)
older_few w few = go w.controller few
  where
    go : (o : Option Running) → FewAreCounted TimePasses (record w { controller = o })
        → FewAreCounted TimePasses (record w { controller = o; sites = map older w.sites })
    go None a = tt
    go (Some r) a =
        subst (λ near. CountsFew TimePasses (map (λ (d : Desk). port_for (near d.host) d) r.desks)) (sym (all_near w.sites)) a

pub older_is : (k : Power) (ks news : List HostSite) (w : NodeWorld) → WorldIs k ks w → SitesAre news (map older w.sites) → WorldIs k news (older_world w)
older_is k ks news w world sites = record { controller = rw (← all_near w.sites) at world.controller; sites = sites }

pub then_ticks : (k : Power) (ks : List HostSite) (w : NodeWorld) (before mid now : List Entry) → mid ≡ before ++ (all_aged w).1
    → WorldBecomes k ks mid now (controller_ticks (older_world w)) → WorldBecomes k ks before now (near_ticks w)
then_ticks k ks w before mid now noted b =
    let told : List Entry = (controller_ticks (older_world w)).1 in
    record {
      world = b.world;
      noted = b.noted ∙ (ap (λ es. es ++ told) noted ∙ append_assoc before (all_aged w).1 told);
    }

-- A tick of the world: behind that of the controller all hosts may have theirs, which leave the controller's ends as they are.

-- ## Behind the tick of the controller

-- a host became another one, with the same number, node and end
record LeavesFar (s t : Site) : Type 0 where
  host : t.host ≡ s.host
  node : t.node ≡ s.node
  far : t.link.host ≡ s.link.host

-- a host whose tick may come
record IsReady (s : Site) : Type 0 where
  host : IsHostOf s
  may : MayTick s

ready_still : (s t : Site) → LeavesFar s t → IsReady s → IsReady t
ready_still s t a r =
    let Ends : ℕ → Option Running → Type 0 = λ h o. IfItRuns h (h ∷ []) o in
    let Off : Option Running → NumberedEnd → Type 0 = λ o e. IfOff o (new_link_end (Uicc new_uicc)) e.side in
    record {
      host = record {
        number = ap (λ n. n == 0) a.host ∙ r.host.number;
        low = rw (← a.host) at r.host.low;
        ends = subst (λ h. Ends h t.node) (sym a.host) (subst (Ends s.host) (sym a.node) r.host.ends);
      };
      may = record {
        off = subst (Off t.node) (sym a.far) (subst (λ o. Off o s.link.host) (sym a.node) r.may.off);
        young = subst NoneDue (sym a.node) r.may.young;
        counts = λ q runs. subst (λ e. CountsOn e.side Tick) (sym a.far) (r.may.counts q (sym a.node ∙ runs));
      };
    }

all_ready : (f : Site → Site) → ((s : Site) → LeavesFar s (f s)) → (sites : List Site) → AllByRecursion IsReady sites
    → AllByRecursion IsReady (map f sites)
all_ready f leaves [] a = tt
all_ready f leaves (s ∷ sites) a = (ready_still s (f s) (leaves s) a.0, all_ready f leaves sites a.1)

near_ready : (w : NodeWorld) → AllByRecursion IsReady w.sites → AllByRecursion IsReady (controller_ticks w).0.sites
near_ready w a =
    by_controller_tick (λ p. AllByRecursion IsReady p.0.sites) w
    (λ q. all_ready site_unticked (λ s. record { host = refl; node = refl; far = far_stays_ticked s.link [] GoesOut }) w.sites a)
    (λ r q. let k = near_tick w r in
    all_ready (site_ticked k)
    (λ s. record { host = refl; node = refl; far = far_so s.link (is_late_at k s.host) (turns_at k s.host) (ending_of k) }) w.sites a)

to_tick : (sites : List Site) → AllByRecursion IsReady sites → FewOnEach 300000001 sites → AreToTick sites
to_tick [] a f = tt
to_tick (s ∷ sites) a f = (record { host = a.0.host; may = a.0.may; room = let r = f.0.resets in omega (arith, r) }, to_tick sites a.1 f.1)

counts_tick : (k : HostSite) (s : Site) → SiteIs k s → IsHostOf s → FewOn 300000000 s.link → (r : Running) → s.node ≡ Some r → CountsOn s.link.host.side Tick
counts_tick k s is host few r runs =
    let sendable = sendable_on k s r is host runs in
    let counted = counts_few_in_tick 300000000 (port_for s.link.host (new_desk 0) ∷ []) (omega arith) (few.host, tt) (sendable, tt) in
    record { come = counted.come.0; late = counted.late.0 }

each_ready : (w : NodeWorld) → AreTimely w → (ks : List HostSite) (left : List Site) → SitesAre ks left
    → AllByRecursion (λ (s : Site). site_at w.sites s.host ≡ Some s) left → AllByRecursion (λ (s : Site). (s.host == 0) ≡ false) left
    → AllByRecursion IsHost (hosts_in left) → AllByRecursion (λ (s : Site). IfItRuns s.host (s.host ∷ []) s.node) left
    → FewOnEach 300000000 left → AllByRecursion IsReady left
each_ready w timely [] [] a found off hosts nodes few = tt
each_ready w timely [] (s ∷ left) a found off hosts nodes few = absurd a
each_ready w timely (k ∷ ks) [] a found off hosts nodes few = absurd a
each_ready w timely (k ∷ ks) (s ∷ left) a found off hosts nodes few = (one, each_ready w timely ks left a.1 found.1 off.1 hosts.1 nodes.1 few.1)
  where
    host : IsHostOf s
    host = record { number = off.0; low = hosts.0.1; ends = nodes.0 }

    one : IsReady s
    one =
        let t = timely s.host s found.0 in
        record { host = host; may = record { off = t.host; young = t.young; counts = λ r runs. counts_tick k s a.0 host few.0 r runs } }

-- behind the tick of the controller
pub hosts_may_tick : (w : NodeWorld) (ks : List HostSite) → IsWithinBounds w → AreTimely w → SitesAre ks w.sites → AreToTick (near_ticks w).0.sites
hosts_may_tick w ks within timely a =
    let o = within.goes_on.orderly in
    let old : NodeWorld = (all_aged w).0 in
    let ready : AllByRecursion IsReady w.sites =
    each_ready w timely ks w.sites a (each_found (λ (s : Site). s.host) w.sites o.different) o.hosts within.goes_on.hosts o.nodes within.few in
    let aged_ready : AllByRecursion IsReady old.sites = all_ready older (λ s. record { host = refl; node = refl; far = refl }) w.sites ready in
    to_tick (near_ticks w).0.sites (near_ready old aged_ready) (few_behind_tick 300000000 old (few_behind_ages 300000000 w within.few))

-- ## The ticks of the hosts

abbrev pub tick_of : Site → Site
tick_of s = (host_ticks s).0

abbrev pub tick_told : Site → List Entry
tick_told s = (host_ticks s).1

-- one after another
pub ticks_are : (sites : List Site) → hosts_tick sites ≡ (map tick_of sites, flat_map tick_told sites)
ticks_are [] = refl
ticks_are (s ∷ sites) =
    ap (λ (p : List Site × List Entry). let q : List Site × List Entry = (tick_of s ∷ p.0, tick_told s ++ p.1) in q) (ticks_are sites)

tick_leaves : (s : Site) → LeavesNear s (tick_of s)
tick_leaves s = record {
  host = tick_host s;
  near = by_host_tick (λ p. p.0.link.controller ≡ s.link.controller) s (λ q. far_stays_ticked (exchanged s.link) [] GoesOut)
      (λ r q. let k = host_tick s r in far_stays_ticked (exchanged s.link) (turns_at k s.host) (ending_of k));
}

abbrev near_of : List Site → ℕ → NumberedEnd
near_of sites h = (link_to sites h).controller

near_left : (sites : List Site) (h : ℕ) → near_of (hosts_tick sites).0 h ≡ near_of sites h
near_left [] h = refl
near_left (s ∷ sites) h = let h0 = tick_of s in let h1 = (hosts_tick sites).0 in let h2 = tick_leaves s in let h3 = near_left sites h in grind arith

-- they come behind that of the controller
pub all_tick : (k : Power) (ks new : List HostSite) (w : NodeWorld) (before mid now : List Entry) → WorldBecomes k ks before mid (near_ticks w)
    → SitesTick new mid now (hosts_tick (near_ticks w).0.sites) → WorldBecomes k new before now (world_ticks w)
all_tick k ks new w before mid now first second =
    let near : NodeWorld = (near_ticks w).0 in
    let old : List Entry = (all_aged w).1 in
    let ticked : List Entry = (controller_ticks (all_aged w).0).1 in
    let far : List Site × List Entry = hosts_tick near.sites in
    let same : near_of far.0 ≡ near_of near.sites = λ i h. near_left near.sites h i in
    record {
      world = record { controller = rw (← same) at first.world.controller; sites = second.sites };
      noted = second.noted ∙ (ap (λ es. es ++ far.1) first.noted
          ∙ (append_assoc before (old ++ ticked) far.1 ∙ ap (λ es. before ++ es) (append_assoc old ticked far.1)));
    }
