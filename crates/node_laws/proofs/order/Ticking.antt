-- A tick of a world leaves each link told.
use Rattle.node_laws.proofs.Words.{AllByRecursion, AreSendableTurns, AsksReset, Bool, Clf, CutOff, Desk, Entry, FindsReady, GoesOut, IfDue, IfItRuns}
use Rattle.node_laws.proofs.Words.{IfNoticedUp, IfOff, IsClf, IsEvent, IsLine, IsLinkTold, IsNoticedUp, IsTimely, IsUicc, Link, LinkEnd, LinkEvent, List}
use Rattle.node_laws.proofs.Words.{NodeWorld, None, NoneDue, NoticesAreUp, NumberedEnd, OnFirst, Option, Reset, Running, Site, Some, Step, Tick, TimePasses}
use Rattle.node_laws.proofs.Words.{Turn, Uicc, Up, [], after_input, after_near_tick, aged, all_aged, all_so, ap, arith, by_controller_tick, by_host_tick}
use Rattle.node_laws.proofs.Words.{by_option, by_test, controller_ticks, ending_of, exchanged, false, find, from_start, host_tick, host_ticks, hosts_tick}
use Rattle.node_laws.proofs.Words.{is_due, is_late_at, is_open, is_waiting, link_to, map, near_tick, new_clf, new_line, new_link_end, new_uicc, not, option_map}
use Rattle.node_laws.proofs.Words.{port_at, port_for, refl, reset_refusal, runs_on, sent_all, site_at, site_ticked, site_unticked, subst, sym, ticked_so}
use Rattle.node_laws.proofs.Words.{ticks_at_controller, true, turned, turns_at, work_of, world_ticks, ℕ, ◌&&◌, ◌++◌, ◌==◌, ◌∙◌, ◌∷◌, ◌≡◌}
use Rattle.shdlc_core.specs.declared.answers.LinkState.TheVariants.{Down}
use Rattle.node_laws.proofs.links.Sites.{AreNodes, Clean, here_clf, reset_allowed, tick_allowed, tick_clf, tick_uicc}
use Rattle.node_laws.proofs.links.Works.{steps_fine}
use Rattle.node_laws.proofs.links.Worlds.{AreClean, AreFineSites, AreTrueDesks, IsFineNode, IsFineSite, near_clean, ports_fine, turns_fine}
use Rattle.node_laws.proofs.telling.Events.{ports_for, site_is}
use Rattle.node_laws.proofs.telling.WorldTicks.{Ticking, between, between_far, host_turns, near_turns, tick_event, ticking, ticked_at}
use Rattle.node_laws.proofs.readings.Noticed.{host_tick_side}
use Rattle.node_laws.proofs.order.Marking.{IfNone, runs_none, steps_none}
use Rattle.node_laws.proofs.order.Events.{Each, IsWell, Knows, WasThere, later, renewed_clf, renewed_uicc, told_more, was_there}
use Rattle.node_laws.proofs.order.TickResets.{IsAnsweredTick, reset_in_tick}
use Rattle.node_laws.proofs.order.Watches.{IsSince, IsStepOf, WatchedLink}
use Rattle.node_laws.proofs.order.Wires.{Shown, shown_more, tick_unstarted}
use Rattle.node_laws.proofs.turns.Nodes.{site_none}

-- ## Every world is timely

-- a host that has no notice has none that is due
none_due : (o : Option Running) → IfNone o → NoneDue o
none_due None a = tt
none_due (Some r) a = all r.desks a
  where
    all : (desks : List Desk) → AllByRecursion (λ (d : Desk). d.notice ≡ None) desks → AllByRecursion (λ (d : Desk). is_due d ≡ false) desks
    all desks n = all_so (λ (d : Desk). d.notice ≡ None) (λ (d : Desk). is_due d ≡ false) (λ d b. let q = b in rw q refl) desks n

end_found : (near_ends : ℕ → NumberedEnd) (desks : List Desk) (h : ℕ) (d : Desk) → find (λ d. d.host == h) desks ≡ Some d
    → port_at (ports_for near_ends desks) h ≡ Some (port_for (near_ends h) d)
end_found near_ends [] h d q = absurd (cc q)
end_found near_ends (x ∷ desks) h d q = by_test (x.host == h)
    (λ e. grind arith)
    (λ e. rw e (end_found near_ends desks h d (rw e at q)))

-- an end of such a link that is up is active
up_open : (h : ℕ) (l : Link) (t : List Entry) → IsLinkTold h l t → l.controller.side.shdlc.phase ≡ Up → is_open l.controller.side.role ≡ true
up_open h l t a up = by_test (is_open l.controller.side.role) (λ q. q) (λ q. let z : Up ≡ Down = sym up ∙ closed q in absurd (cc z))
  where
    P : Link → Type 0
    P k = is_open k.controller.side.role ≡ false → k.controller.side.shdlc.phase ≡ Down

    closed : P l
    closed = subst P a.run.is (from_start new_line IsLine a.events a.run.allowed).good.controller.now.closed

pub timely : (w : NodeWorld) (t : List Entry) (x : WatchedLink) (h : ℕ) (s : Site) → NoticesAreUp w → site_at w.sites h ≡ Some s
    → Knows t x w.controller h s → IsTimely w h s
timely w t x h s up found a = record { controller = a.near; host = a.far; up = due w.controller up; young = none_due s.node a.none }
  where
    due : (o : Option Running) → IfNoticedUp w.sites o → IfDue o h s.link.controller.side
    due None u = tt
    due (Some r) u = λ d there late.
        let near_ends : ℕ → NumberedEnd = λ j. (link_to w.sites j).controller in
        let here : IsNoticedUp (port_for (near_ends h) d) = subst (OnFirst IsNoticedUp) (end_found near_ends r.desks h d there) (u h) in
        let is : s.link.controller.side.shdlc.phase ≡ Up = grind arith in
        (up_open h s.link t a.told is, is)

-- ## Turns that may be sent

pub aged_clean : (sites : List Site) → AreFineSites sites → AreClean (map (λ (s : Site). record s { link = aged s.link }) sites)
aged_clean [] a = tt
aged_clean (s ∷ sites) a = (a.0.link.line.near, aged_clean sites a.1)

pub some_desks : (o : Option Running) (r : Running) → o ≡ Some r → IsFineNode o → AreTrueDesks r.desks
some_desks o r e b = grind arith

pub near_sends : (w : NodeWorld) (h : ℕ) (o : Option Running) → AreClean w.sites → IsFineNode o → AreSendableTurns (near_turns w h o)
near_sends w h None clean a = tt
near_sends w h (Some r) clean a =
    let near_ends : ℕ → NumberedEnd = λ j. (link_to w.sites j).controller in
    turns_fine (near_tick w r) h
    (steps_fine TimePasses (work_of r w.memory.plan near_ends []) (ports_fine near_ends (λ j. near_clean w.sites j clean) r.desks a))

pub far_sends : (x : Site) (o : Option Running) → Clean x.link.host.side → IsFineNode o → AreSendableTurns (host_turns x o)
far_sends x None clean a = tt
far_sends x (Some n) clean a =
    turns_fine (host_tick x n) x.host
    (steps_fine TimePasses (work_of n x.memory.plan (λ j. x.link.host) []) (ports_fine (λ j. x.link.host) (λ j. clean) n.desks a))

-- ## Ends after a tick

-- the controller's end after a tick in which its power went
near_cut : (l : Link) (late : Bool) (ts : List Turn) → IsClf l.controller.side.role
    → (ticked_so l late ts CutOff).controller.side ≡ new_link_end (Clf new_clf)
near_cut l late ts a = by_test (late && not (is_waiting l.controller.side.shdlc))
    (λ q. rw q (renewed_clf (turned (after_input l.controller.side (Reset None)) ts).role (here_clf l (Step (AsksReset None) ts CutOff) a)))
    (λ q. rw q (renewed_clf (turned (after_input l.controller.side Tick) ts).role (tick_clf l ts CutOff a)))

near_after : (w : NodeWorld) → ((h : ℕ) (s : Site) → site_at w.sites h ≡ Some s → IsClf s.link.controller.side.role)
    → ((h : ℕ) (s : Site) → site_at w.sites h ≡ Some s → IfOff w.controller (new_link_end (Clf new_clf)) s.link.controller.side)
    → (h : ℕ) (v : Site) → site_at (controller_ticks w).0.sites h ≡ Some v
    → IfOff (controller_ticks w).0.controller (new_link_end (Clf new_clf)) v.link.controller.side
near_after w clf off h v q = by_controller_tick (λ p. Goal p.0) w off_goal (λ r e. on_goal r) q
  where
    Goal : NodeWorld → Type 0
    Goal z = site_at z.sites h ≡ Some v → IfOff z.controller (new_link_end (Clf new_clf)) v.link.controller.side

    still : (s : Site) → s.link.controller.side ≡ new_link_end (Clf new_clf) → (site_unticked s).link.controller.side ≡ new_link_end (Clf new_clf)
    still s e = ap (λ z. sent_all (after_input z Tick)) e

    off_now : w.controller ≡ None → (s : Site) → site_at w.sites h ≡ Some s → s.link.controller.side ≡ new_link_end (Clf new_clf)
    off_now e s there = let G : Option Running → Type 0 = λ o. IfOff o (new_link_end (Clf new_clf)) s.link.controller.side in subst G e (off h s there)

    off_goal : w.controller ≡ None → Goal (record w { sites = map site_unticked w.sites })
    off_goal e here =
        let was = was_there site_unticked (λ s. refl) w.sites h v here in
        let G : Option Running → Type 0 = λ o. IfOff o (new_link_end (Clf new_clf)) v.link.controller.side in
        subst G (sym e) (subst (λ (z : Site). z.link.controller.side ≡ new_link_end (Clf new_clf)) was.is (still was.site (off_now e was.site was.there)))

    on_goal : (r : Running) → Goal (after_near_tick w (near_tick w r)).0
    on_goal r here = by_test (near_tick w r).cut
        (λ e. let none : runs_on (near_tick w r) ≡ None = rw e refl in
        let ending : ending_of (near_tick w r) ≡ CutOff = rw e refl in
        let s : Site = was.site in
        let V : Site → Type 0 = λ z. z.link.controller.side ≡ new_link_end (Clf new_clf) in
        subst (λ (o : Option Running). IfOff o (new_link_end (Clf new_clf)) v.link.controller.side) (sym none) (subst V was.is
        (ap (λ x. (ticked_so s.link (is_late_at (near_tick w r) s.host) (turns_at (near_tick w r) s.host) x).controller.side) ending
        ∙ near_cut s.link (is_late_at (near_tick w r) s.host) (turns_at (near_tick w r) s.host) (clf h s was.there))))
        (λ e. grind arith)
      where
        was : WasThere (site_ticked (near_tick w r)) w.sites h v
        was = was_there (site_ticked (near_tick w r)) (λ s. refl) w.sites h v here

-- a host after its tick
record FarAfter (x : Site) : Type 0 where
  off : IfOff (host_ticks x).0.node (new_link_end (Uicc new_uicc)) (host_ticks x).0.link.host.side
  none : IfNone (host_ticks x).0.node

far_after : (x : Site) → (x.host == 0) ≡ false → IfItRuns x.host (x.host ∷ []) x.node → IsUicc x.link.host.side.role
    → IfOff x.node (new_link_end (Uicc new_uicc)) x.link.host.side → IfNone x.node → FarAfter x
far_after x host node uicc off none = record {
  off = by_host_tick (λ z. IfOff z.0.node (new_link_end (Uicc new_uicc)) z.0.link.host.side) x
      (λ e. rw e (ap (λ z. sent_all (after_input z Tick)) (rw e at off))) (λ n e. off_so n);
  none = by_host_tick (λ z. IfNone z.0.node) x (λ e. none)
      (λ n e. runs_none (host_tick x n) (steps_none TimePasses (work_of n x.memory.plan (λ j. x.link.host) [])
      (record {
        host = ap (λ m. m == 0) (subst (IfItRuns x.host (x.host ∷ [])) e node).number ∙ host;
        none = ports_none n.desks (subst IfNone e none);
      })));
}
  where
    ports_none : (ds : List Desk) → AllByRecursion (λ (d : Desk). d.notice ≡ None) ds
        → AllByRecursion (λ p. p.desk.notice ≡ None) (ports_for (λ j. x.link.host) ds)
    ports_none [] n = tt
    ports_none (d ∷ ds) n = (n.0, ports_none ds n.1)

    off_so : (n : Running) → IfOff (runs_on (host_tick x n)) (new_link_end (Uicc new_uicc))
        (ticks_at_controller (exchanged x.link) (turns_at (host_tick x n) x.host) (ending_of (host_tick x n))).controller.side
    off_so n = by_test (host_tick x n).cut
        (λ c. rw c (renewed_uicc (turned (after_input x.link.host.side Tick) (turns_at (host_tick x n) x.host)).role
        (tick_uicc (exchanged x.link) (turns_at (host_tick x n) x.host) CutOff uicc)))
        (λ c. rw c tt)

-- ## A tick of the world

hosts_none : (sites : List Site) (h : ℕ) → site_at sites h ≡ None → site_at (hosts_tick sites).0 h ≡ None
hosts_none sites h q = ticked_at sites h ∙ ap (option_map (λ (x : Site). (host_ticks x).0)) q

pub near_none : (w : NodeWorld) (h : ℕ) → site_at w.sites h ≡ None → site_at (controller_ticks w).0.sites h ≡ None
near_none w h q = by_option w.controller
    (λ e. rw e (site_none (λ (s : Site). record s { link = ticks_at_controller s.link [] GoesOut }) (λ s. refl) w.sites h q))
    (λ r e. rw e (site_none (λ (s : Site). record s {
      link = ticked_so s.link (is_late_at (near_tick w r) s.host) (turns_at (near_tick w r) s.host) (ending_of (near_tick w r));
    }) (λ s. refl) w.sites h q))

-- a tick of one link
module _ (w : NodeWorld) (t : List Entry) (X : ℕ → WatchedLink) (a : IsWell w) (up : NoticesAreUp w) (each : Each t X w) (h : ℕ) (s : Site)
    (found : site_at w.sites h ≡ Some s) where
  abbrev pub goes : Ticking w h s
  goes = ticking w h s a.orderly found (timely w t (X h) h s up found (each h s found))

  pub tick_step : IsStepOf h s.link (tick_event goes.late goes.near goes.far) (world_ticks w).1
  tick_step = record { can = allowed goes.late goes.ready; tells = goes.told; stands = goes.stands }
    where
      c : Ticking w h s
      c = goes

      fine : IsFineSite s
      fine = site_is IsFineSite w.sites h s a.fine.sites found

      x : Site
      x = record s { link = between c.late (aged s.link) c.near }

      sends : AreNodes c.near c.far
      sends =
          let far_is : x.link.host.side ≡ s.link.host.side = between_far c.late (aged s.link) c.near in
          record {
            controller = subst AreSendableTurns (sym c.near_had)
                (near_sends (all_aged w).0 h w.controller (aged_clean w.sites a.fine.sites) a.fine.controller);
            host = subst AreSendableTurns (sym c.far_had) (far_sends x s.node (subst Clean (sym far_is) fine.link.line.far) fine.node);
          }

      allowed : (late : Bool) → (late ≡ true → is_waiting s.link.controller.side.shdlc ≡ false) → IsEvent s.link (tick_event late c.near c.far)
      allowed true ready = reset_allowed s.link c.near c.far sends fine.link.line (ready refl)
      allowed false ready = tick_allowed s.link c.near c.far sends fine.link.line

  -- one in which the controller's end was reset, while the host's end was ready
  pub ticked_since : IsAnsweredTick h (world_ticks w).1 → (reset_refusal s.link.controller.side ≡ None → FindsReady s.link)
      → (v : Site) → site_at (world_ticks w).0.sites h ≡ Some v → IsSince v.link
  ticked_since says ready v there =
      let one : Some (host_ticks (record s { link = between goes.late (aged s.link) goes.near })).0 ≡ Some v = sym goes.there ∙ there in
      let is : (host_ticks (record s { link = between goes.late (aged s.link) goes.near })).0 ≡ v = cc in
      let told = (each h s found).told in
      subst (λ (l : Link). IsSince l) (goes.is ∙ ap (λ (y : Site). y.link) is)
      (reset_in_tick h s.link goes.near goes.far (world_ticks w).1 told.events told.run says goes.late tick_step ready)

pub ticks_each : (w : NodeWorld) (t : List Entry) (X : ℕ → WatchedLink) → IsWell w → NoticesAreUp w → Each t X w
    → Each (t ++ (world_ticks w).1) (later X (world_ticks w).1) (world_ticks w).0
ticks_each w t X a up each h v q = by_option (site_at w.sites h) (λ e. none e) (λ s e. some s e)
  where
    old : NodeWorld
    old = (all_aged w).0

    older : Site → Site
    older s = record s { link = aged s.link }

    u : List Entry
    u = (world_ticks w).1

    none : site_at w.sites h ≡ None → Knows (t ++ u) (later X u h) (world_ticks w).0.controller h v
    none e =
        let is : None ≡ Some v =
        sym (hosts_none (controller_ticks old).0.sites h (near_none old h (site_none older (λ s. refl) w.sites h e))) ∙ q in
        absurd (cc is)

    old_clf : (k : ℕ) (s : Site) → site_at old.sites k ≡ Some s → IsClf s.link.controller.side.role
    old_clf k s there =
        let was = was_there older (λ s. refl) w.sites k s there in
        subst (λ (z : Site). IsClf z.link.controller.side.role) was.is (site_is IsFineSite w.sites k was.site a.fine.sites was.there).link.line.clf

    old_off : (k : ℕ) (s : Site) → site_at old.sites k ≡ Some s → IfOff w.controller (new_link_end (Clf new_clf)) s.link.controller.side
    old_off k s there =
        let was = was_there older (λ s. refl) w.sites k s there in
        subst (λ (z : Site). IfOff w.controller (new_link_end (Clf new_clf)) z.link.controller.side) was.is (each k was.site was.there).near

    some : (s : Site) → site_at w.sites h ≡ Some s → Knows (t ++ u) (later X u h) (world_ticks w).0.controller h v
    some s found = subst K one (record {
      told = let T : Link → Type 0 = λ l. IsLinkTold h l (t ++ u) in subst T c.is (told_more h s.link event t u n b.told);
      shown = let S : Link → Type 0 = λ l. Shown l (later X u h) in
          subst S c.is (shown_more h s.link event t u (X h) b.told n b.shown (tick_unstarted c.late s.link c.near c.far));
      near = let N : LinkEnd → Type 0 = IfOff (controller_ticks old).0.controller (new_link_end (Clf new_clf)) in
          subst N (sym (host_tick_side x)) (near_after old old_clf old_off h x c.near_there);
      far = after_it.off;
      none = after_it.none;
    })
      where
        b : Knows t (X h) w.controller h s
        b = each h s found

        c : Ticking w h s
        c = ticking w h s a.orderly found (timely w t (X h) h s up found b)

        x : Site
        x = record s { link = between c.late (aged s.link) c.near }

        fine : IsFineSite s
        fine = site_is IsFineSite w.sites h s a.fine.sites found

        event : LinkEvent
        event = tick_event c.late c.near c.far

        far_is : x.link.host.side ≡ s.link.host.side
        far_is = between_far c.late (aged s.link) c.near

        n : IsStepOf h s.link event u
        n = tick_step w t X a up each h s found

        after_it : FarAfter x
        after_it =
            let F : LinkEnd → Type 0 = IfOff s.node (new_link_end (Uicc new_uicc)) in
            far_after x (site_is (λ (z : Site). (z.host == 0) ≡ false) w.sites h s a.orderly.hosts found)
            (site_is (λ (z : Site). IfItRuns z.host (z.host ∷ []) z.node) w.sites h s a.orderly.nodes found)
            (subst (λ (e : LinkEnd). IsUicc e.role) (sym far_is) fine.link.line.uicc) (subst F (sym far_is) b.far) b.none

        K : Site → Type 0
        K z = Knows (t ++ u) (later X u h) (world_ticks w).0.controller h z

        one : (host_ticks x).0 ≡ v
        one = let is : Some (host_ticks x).0 ≡ Some v = sym c.there ∙ q in cc
