-- What a tick of a world tells of each link.
use Rattle.node_laws.proofs.Words.{AllByRecursion, AreDifferent, AsksReset, Bool, Clf, Controller, Desk, Ending, Entry, GoesOut, GoesSo, HasEnds, Host, IfDue}
use Rattle.node_laws.proofs.Words.{IfItRuns, IfOff, IsOrderly, IsTimely, Link, LinkEnd, LinkEvent, LinkInput, List, NoInput, Node, NodeWorld, None, NoneDue}
use Rattle.node_laws.proofs.Words.{Noted, NumberedEnd, Option, Port, Reset, Running, Site, Some, Standing, StandsOf, Step, TellOf, Tick, TicksWithout}
use Rattle.node_laws.proofs.Words.{TimePasses, Turn, Uicc, Work, [], after_input, after_tick, aged, aged_entries, all_aged, ap, append-nil, append_assoc, arith}
use Rattle.node_laws.proofs.Words.{by_controller_tick, by_host_tick, by_test, controller_ticks, ended_by, ending_of, entries_for, eqb-true, event_entries}
use Rattle.node_laws.proofs.Words.{exchanged, false, find, flat_map, fold-append, frames_noted, happens, has_input, host_ended, host_finished, host_tick}
use Rattle.node_laws.proofs.Words.{host_ticks, hosts_in, hosts_tick, if◌then◌else◌, is_due, is_late, is_late_at, is_some, is_waiting, law_noted, link_to}
use Rattle.node_laws.proofs.Words.{near_tick, new_clf, new_link_end, new_uicc, number_of, of_link, option_map, port_at, port_for, refl, site_at, site_ticked}
use Rattle.node_laws.proofs.Words.{site_unticked, standing, standing_by_law, stands_noted, step_entries, steps_at_controller, subst, sym, tick_entries}
use Rattle.node_laws.proofs.Words.{ticked_so, ticks_at_controller, told, true, turned, turns_at, with_ended, without_power, work_of, world_ticks, ℕ, ◌++◌, ◌==◌}
use Rattle.node_laws.proofs.Words.{◌∙◌, ◌∷◌, ◌≡◌}
use Rattle.link_laws.specs.messages.Links.LinkEvent.{Ticks}
use Rattle.link_laws.specs.entries.Entries.{End as Side}
use Rattle.node_laws.specs.telling.Telling.{Tells}
use Rattle.node_laws.proofs.telling.Accounts.{AreUncut, of-append, of_other}
use Rattle.node_laws.proofs.telling.Shapes.{IsShaped, IsStepShaped, all_frames, clear-append, clear_aged, clear_stands, entries_uncut, own_frames, shaped_step}
use Rattle.node_laws.proofs.telling.Shapes.{shaped_tick, step_away, step_stands, steps_powered, twice, uncut_flat}
use Rattle.node_laws.proofs.telling.Steps.{Away, Opening, closed, frames_of, in_parts, notes-append, only, tick_is}
use Rattle.node_laws.proofs.telling.Events.{Stands, host_away, host_opened, hosts_same_of_nodes as hosts_same, link_is, orderly_map, other_power, own_power}
use Rattle.node_laws.proofs.telling.Events.{ports_for, site_host, site_is, site_map, stands, tells_one}
use Rattle.node_laws.proofs.telling.Ticks.{IfLate, TickedOfTicks as Ticked, away_tick, late_parts, not_late, older, ticked_of_ticks as ticked}

pub young_ports : (near_ends : ℕ → NumberedEnd) (desks : List Desk) (h : ℕ) (p : Port) → AllByRecursion (λ (d : Desk). is_due d ≡ false) desks
    → port_at (ports_for near_ends desks) h ≡ Some p → is_due p.desk ≡ false
young_ports near_ends [] h p a q = absurd (cc q)
young_ports near_ends (d ∷ desks) h p a q = by_test (d.host == h)
    (λ e. grind arith)
    (λ e. young_ports near_ends desks h p a.1 (rw e at q))

-- the desk of an end
desk_found : (near_ends : ℕ → NumberedEnd) (desks : List Desk) (h : ℕ) (p : Port) → port_at (ports_for near_ends desks) h ≡ Some p
    → find (λ d. d.host == h) desks ≡ Some p.desk
desk_found near_ends [] h p q = absurd (cc q)
desk_found near_ends (d ∷ desks) h p q = by_test (d.host == h)
    (λ e. grind arith)
    (λ e. rw e (desk_found near_ends desks h p (rw e at q)))

-- what a node did to an end in its tick
abbrev pub had : Work → ℕ → Node
had k h = record { turns = turns_at k h; ending = ending_of k }

-- ## Ticks of hosts

pub tick_host : (x : Site) → (host_ticks x).0.host ≡ x.host
tick_host x = by_host_tick (λ p. p.0.host ≡ x.host) x (λ q. refl) (λ n q. refl)

-- the site behind its tick
pub ticked_at : (sites : List Site) (h : ℕ) → site_at (hosts_tick sites).0 h ≡ option_map (λ (x : Site). (host_ticks x).0) (site_at sites h)
ticked_at [] h = refl
ticked_at (x ∷ sites) h = by_test (x.host == h)
    (λ e. let passes : ((host_ticks x).0.host == h) ≡ true = ap (λ n. n == h) (tick_host x) ∙ e in rw (e, passes) refl)
    (λ e. let fails : ((host_ticks x).0.host == h) ≡ false = ap (λ n. n == h) (tick_host x) ∙ e in rw (e, fails) (ticked_at sites h))

module _ (h : ℕ) where
  other_host : (x : Site) → (x.host == 0) ≡ false → IfItRuns x.host (x.host ∷ []) x.node → (x.host == h) ≡ false → of_link h (host_ticks x).1 ≡ []
  other_host x host a q =
      by_host_tick (λ p. of_link h p.1 ≡ []) x (λ none. refl)
      (λ n runs.
      let k : Work = host_tick x n in
      let away : Away h k = away_tick h (work_of n x.memory.plan (λ j. x.link.host) []) (host_away x n NoInput host (grind arith) h q) in
      of-append h k.entries (frames_noted Host x.host (exchanged x.link) k)
      ∙ (ap (λ t. t ++ of_link h (frames_noted Host x.host (exchanged x.link) k)) away.told ∙ frames_of h x.host Host (exchanged x.link) k q))

  -- and it leaves how the link stands
  other_leaves : (x : Site) → (x.host == 0) ≡ false → IfItRuns x.host (x.host ∷ []) x.node → (x.host == h) ≡ false → (y : Standing)
      → standing h y (host_ticks x).1 ≡ y
  other_leaves x host a q y =
      by_host_tick (λ p. of_link h p.1 ≡ [] → standing h y p.1 ≡ y) x (λ none told. refl)
      (λ n runs told.
      let k : Work = host_tick x n in
      step_away h x.host (other_power x.host h host q) k (frames_noted Host x.host (exchanged x.link) k)
      (steps_powered h x.host (λ z. z) (other_power x.host h host q) (λ z. refl) TimePasses
      (work_of n x.memory.plan (λ j. x.link.host) []) (subst (IfItRuns x.host (x.host ∷ [])) runs a).number refl tt)
      (own_frames Host x.host (exchanged x.link) k).0 told y)
      (other_host x host a q)

  abbrev pub AreNumbered : List Site → Type 0
  AreNumbered sites = AllByRecursion (λ (x : Site). (x.host == 0) ≡ false) sites

  abbrev pub AreNodes : List Site → Type 0
  AreNodes sites = AllByRecursion (λ (x : Site). IfItRuns x.host (x.host ∷ []) x.node) sites

  pub other_hosts : (sites : List Site) → AreNumbered sites → AreNodes sites → AllByRecursion (λ n. (n == h) ≡ false) (hosts_in sites)
      → of_link h (hosts_tick sites).1 ≡ []
  other_hosts [] b a q = refl
  other_hosts (x ∷ sites) b a q =
      of-append h (host_ticks x).1 (hosts_tick sites).1
      ∙ (ap (λ t. t ++ of_link h (hosts_tick sites).1) (other_host x b.0 a.0 q.0) ∙ other_hosts sites b.1 a.1 q.1)

  pub others_leave : (sites : List Site) → AreNumbered sites → AreNodes sites → AllByRecursion (λ n. (n == h) ≡ false) (hosts_in sites) → (y : Standing)
      → standing h y (hosts_tick sites).1 ≡ y
  others_leave [] b a q y = refl
  others_leave (x ∷ sites) b a q y =
      fold-append (stands_noted h) y (host_ticks x).1 (hosts_tick sites).1
      ∙ (ap (λ z. standing h z (hosts_tick sites).1) (other_leaves x b.0 a.0 q.0 y) ∙ others_leave sites b.1 a.1 q.1 y)

  stands_only : (sites : List Site) (x : Site) → AreDifferent (hosts_in sites) → AreNumbered sites → AreNodes sites → site_at sites h ≡ Some x → (y : Standing)
      → standing h y (hosts_tick sites).1 ≡ standing h y (host_ticks x).1
  stands_only [] x d b a q y = absurd (cc q)
  stands_only (z ∷ sites) x d b a q y = by_test (z.host == h)
      (λ e. let is : Some z ≡ Some x = rw e at q in
      let one : z ≡ x = cc in
      let A : ℕ → Type 0 = λ n. AllByRecursion (λ k. (k == n) ≡ false) (hosts_in sites) in
      both
      ∙ (others_leave sites b.1 a.1 (subst A (eqb-true z.host h e) d.0) (standing h y (host_ticks z).1)
      ∙ ap (λ (v : Site). standing h y (host_ticks v).1) one))
      (λ e. both ∙ (ap (λ v. standing h v (hosts_tick sites).1) (other_leaves z b.0 a.0 e y) ∙ (stands_only sites x d.1 b.1 a.1) (rw e at q) y))
    where
      both : standing h y (hosts_tick (z ∷ sites)).1 ≡ standing h (standing h y (host_ticks z).1) (hosts_tick sites).1
      both = fold-append (stands_noted h) y (host_ticks z).1 (hosts_tick sites).1

  -- of a link its host's tick tells alone
  hosts_only : (sites : List Site) (x : Site) → AreDifferent (hosts_in sites) → AreNumbered sites → AreNodes sites → site_at sites h ≡ Some x
      → of_link h (hosts_tick sites).1 ≡ of_link h (host_ticks x).1
  hosts_only [] x d b a q = absurd (cc q)
  hosts_only (y ∷ sites) x d b a q = by_test (y.host == h)
      (λ e. let is : Some y ≡ Some x = rw e at q in
      let one : y ≡ x = cc in
      let A : ℕ → Type 0 = λ n. AllByRecursion (λ k. (k == n) ≡ false) (hosts_in sites) in
      both
      ∙ (ap (λ t. of_link h (host_ticks y).1 ++ t) (other_hosts sites b.1 a.1 (subst A (eqb-true y.host h e) d.0))
      ∙ (append-nil (of_link h (host_ticks y).1) ∙ ap (λ (z : Site). of_link h (host_ticks z).1) one)))
      (λ e. both ∙ (ap (λ t. t ++ of_link h (hosts_tick sites).1) (other_host y b.0 a.0 e) ∙ (hosts_only sites x d.1 b.1 a.1) (rw e at q)))
    where
      both : of_link h (hosts_tick (y ∷ sites)).1 ≡ of_link h (host_ticks y).1 ++ of_link h (hosts_tick sites).1
      both = of-append h (host_ticks y).1 (hosts_tick sites).1

  hosts_at : (sites : List Site) (x : Site) → site_at sites h ≡ Some x → site_at (hosts_tick sites).0 h ≡ Some (host_ticks x).0
  hosts_at sites x q = ticked_at sites h ∙ ap (option_map (λ (y : Site). (host_ticks y).0)) q

-- the turns of a host in its tick
abbrev pub host_turns : Site → Option Running → List Turn
host_turns x None = []
host_turns x (Some n) = turns_at (host_tick x n) x.host

-- an end that is new has nothing to tell of a tick
still_near : (who : Side) (l : Link) → l.controller.side ≡ new_link_end (Clf new_clf) → tick_entries who l (record { turns = []; ending = GoesOut }) ≡ []
still_near who l q = grind arith

still_far : (who : Side) (l : Link) → l.controller.side ≡ new_link_end (Uicc new_uicc) → tick_entries who l (record { turns = []; ending = GoesOut }) ≡ []
still_far who l q = grind arith

-- what a host does and notes in its tick
pub record Far (x : Site) : Type 0 where
  pub had : Node
  pub turns : had.turns ≡ host_turns x x.node
  pub is : (host_ticks x).0.link ≡ exchanged (ticks_at_controller (exchanged x.link) had.turns had.ending)
  pub told : of_link x.host (host_ticks x).1 ≡ of_link x.host (entries_for x.host (tick_entries Host (exchanged x.link) had))
  pub stands : (y : Standing) → standing x.host y (host_ticks x).1 ≡ standing_by_law x.host y (tick_entries Host (exchanged x.link) had)

-- what a host that runs notes of its own link
host_tells : (x : Site) (n : Running) → (x.host == 0) ≡ false → HasEnds x.host (x.host ∷ []) n → AllByRecursion (λ (d : Desk). is_due d ≡ false) n.desks
    → of_link x.host (after_tick x (host_tick x n)).1
    ≡ of_link x.host (entries_for x.host (tick_entries Host (exchanged x.link) (had (host_tick x n) x.host)))
host_tells x n host node young =
    let k : Work = host_tick x n in
    let l : Link = exchanged x.link in
    let begun : Opening x.host Host l NoInput (work_of n x.memory.plan (λ j. x.link.host) []) = host_opened x n NoInput host node in
    let late : is_late (older begun.port) ≡ false = not_late begun.port (young_ports (λ j. x.link.host) n.desks x.host begun.port young begun.here) in
    let done : Ticked x.host Host l false k = ticked x.host Host l false _ begun late tt in
    of-append x.host k.entries (frames_noted Host x.host l k)
    ∙ (in_parts x.host Host l NoInput (Some Tick) false k done ∙ ap (λ z. of_link x.host (entries_for x.host z)) (sym (tick_is Host l (had k x.host))))

-- and how that link stands behind it
host_stands_so : (x : Site) (n : Running) → (x.host == 0) ≡ false → HasEnds x.host (x.host ∷ []) n → AllByRecursion (λ (d : Desk). is_due d ≡ false) n.desks
    → (y : Standing)
    → standing x.host y (after_tick x (host_tick x n)).1 ≡ standing_by_law x.host y (tick_entries Host (exchanged x.link) (had (host_tick x n) x.host))
host_stands_so x n host node young =
    let k : Work = host_tick x n in
    let l : Link = exchanged x.link in
    step_stands x.host x.host Host (own_power x.host host) k (frames_noted Host x.host l k)
    (steps_powered x.host x.host (without_power Host) (own_power x.host host) (twice Host) TimePasses
    (work_of n x.memory.plan (λ j. x.link.host) []) node.number
    refl tt)
    (own_frames Host x.host l k) (tick_entries Host l (had k x.host)) (shaped_tick Host l (had k x.host)) (host_tells x n host node young)

far : (x : Site) → (x.host == 0) ≡ false → IfItRuns x.host (x.host ∷ []) x.node → IfOff x.node (new_link_end (Uicc new_uicc)) x.link.host.side
    → NoneDue x.node → Far x
far x host node off young = go x.node refl node off young
  where
    go : (o : Option Running) → x.node ≡ o → IfItRuns x.host (x.host ∷ []) o → IfOff o (new_link_end (Uicc new_uicc)) x.link.host.side → NoneDue o → Far x
    go None q n f y = record {
      had = record { turns = []; ending = GoesOut };
      turns = rw q refl;
      is = rw q refl;
      told = rw q (sym (ap (λ z. of_link x.host (entries_for x.host z)) (still_far Host (exchanged x.link) f)));
      stands = rw q (λ v. sym (ap (standing_by_law x.host v) (still_far Host (exchanged x.link) f)));
    }
    go (Some r) q n f y = record {
      had = had (host_tick x r) x.host;
      turns = rw q refl;
      is = rw q refl;
      told = rw q (host_tells x r host n y);
      stands = rw q (host_stands_so x r host n y);
    }

-- ## The tick of the controller

-- a link after the tick of the controller's end, or its reset in place of it
abbrev pub between : Bool → Link → Node → Link
between true l c = steps_at_controller l (AsksReset None) c.turns c.ending
between false l c = ticks_at_controller l c.turns c.ending

abbrev pub near_notes : Bool → Link → Node → List Noted
near_notes true l c = step_entries Controller l (AsksReset None) c.turns c.ending ++ []
near_notes false l c = tick_entries Controller l c

-- its turns at this end
abbrev pub near_turns : NodeWorld → ℕ → Option Running → List Turn
near_turns w h None = []
near_turns w h (Some r) = turns_at (near_tick w r) h

-- what it does to the link with a host, and notes of it
pub record Near (w : NodeWorld) (h : ℕ) (s : Site) : Type 0 where
  pub late : Bool
  pub had : Node
  pub turns : had.turns ≡ near_turns w h w.controller
  pub there : site_at (controller_ticks w).0.sites h ≡ Some (record s { link = between late s.link had })
  pub told : of_link h (controller_ticks w).1 ≡ of_link h (entries_for h (near_notes late s.link had))
  pub stands : (x : Standing) → standing h x (controller_ticks w).1 ≡ standing_by_law h x (near_notes late s.link had)
  pub ready : late ≡ true → is_waiting s.link.controller.side.shdlc ≡ false

module _ (w : NodeWorld) (h : ℕ) (s : Site) (orderly : IsOrderly w) (found : site_at w.sites h ≡ Some s) where
  number_is : s.host ≡ h
  number_is = site_host w.sites h s found

  module _ (r : Running) (runs : w.controller ≡ Some r) (node : HasEnds 0 (hosts_in w.sites) r) (due : IfDue (Some r) h s.link.controller.side) where
    abbrev Begun : Work
    Begun = work_of r w.memory.plan (λ j. (link_to w.sites j).controller) []

    abbrev k : Work
    k = near_tick w r

    pub opened : Opening h Controller s.link NoInput Begun
    opened =
        let ends : ℕ → NumberedEnd = λ j. (link_to w.sites j).controller in
        let one : Stands ends r.desks h = stands ends r.desks w.sites h s node.ends found in
        record {
          side = ap (λ (n : ℕ). if n == 0 then Controller else Host) node.number;
          port = port_for (link_to w.sites h).controller one.desk;
          here = one.here;
          is = ap (λ (l : Link). l.controller.side) (link_is w.sites h s found);
          session = ap (λ (l : Link). number_of l.controller) (link_is w.sites h s found);
          turns = refl;
          late = refl;
          told = refl;
          different = subst AreDifferent (sym (hosts_same ends r.desks ∙ node.ends)) orderly.different;
        }

    -- where its notice is late, its end is active and up
    pub up_late : (b : Bool) → is_late (older opened.port) ≡ b → IfLate b s.link.controller.side
    up_late true q =
        due opened.port.desk (desk_found (λ j. (link_to w.sites j).controller) r.desks h opened.port opened.here) (late_parts opened.port q).due
    up_late false q = tt

    done : (b : Bool) → is_late (older opened.port) ≡ b → Ticked h Controller s.link b k
    done b q = ticked h Controller s.link b Begun opened q (up_late b q)

    late_is : (b : Bool) → Ticked h Controller s.link b k → is_late_at k h ≡ b
    late_is b a = grind arith

    noted_is : (t : List Noted) → of_link h k.entries ++ of_link h (frames_noted Controller h s.link k) ≡ of_link h (entries_for h t)
        → of_link h (k.entries ++ flat_map (λ (x : Site). frames_noted Controller x.host x.link k) w.sites) ≡ of_link h (entries_for h t)
    noted_is t q =
        let f : Site → List Entry = λ x. frames_noted Controller x.host x.link k in
        of-append h k.entries (flat_map f w.sites)
        ∙ (ap (λ t. of_link h k.entries ++ t)
        (only (λ (x : Site). x.host) f h (λ x e. frames_of h x.host Controller x.link k e) w.sites s orderly.different found
        ∙ ap (λ n. of_link h (frames_noted Controller n s.link k)) number_is)
        ∙ q)

    told_is : (b : Bool) → Ticked h Controller s.link b k
        → of_link h (k.entries ++ flat_map (λ (x : Site). frames_noted Controller x.host x.link k) w.sites)
        ≡ of_link h (entries_for h (near_notes b s.link (had k h)))
    told_is true a =
        noted_is (near_notes true s.link (had k h))
        (closed h Controller s.link (AsksReset None) (Some (Reset None)) true k refl tt a
        ∙ ap (λ z. of_link h (entries_for h z)) (sym (append-nil (step_entries Controller s.link (AsksReset None) (turns_at k h) (ending_of k)))))
    told_is false a =
        noted_is (near_notes false s.link (had k h))
        (in_parts h Controller s.link NoInput (Some Tick) false k a ∙ ap (λ z. of_link h (entries_for h z)) (sym (tick_is Controller s.link (had k h))))

    shaped_is : (b : Bool) → IsShaped Controller (ending_of k) (near_notes b s.link (had k h))
    shaped_is false = shaped_tick Controller s.link (had k h)
    shaped_is true =
        let S : List Noted → Type 0 = IsShaped Controller (ending_of k) in
        subst S (sym (append-nil (step_entries Controller s.link (AsksReset None) (turns_at k h) (ending_of k))))
        (let a : IsStepShaped Controller (AsksReset None) (ending_of k) (step_entries Controller s.link (AsksReset None) (turns_at k h) (ending_of k)) =
        shaped_step Controller s.link (AsksReset None) (turns_at k h) (ending_of k) (Some (Reset None)) refl tt in
        subst S (sym a.is) a.shaped)

    stands_is : (b : Bool) → Ticked h Controller s.link b k → (x : Standing)
        → standing h x (k.entries ++ flat_map (λ (x : Site). frames_noted Controller x.host x.link k) w.sites)
        ≡ standing_by_law h x (near_notes b s.link (had k h))
    stands_is b a =
        step_stands h 0 Controller (λ x. refl) k (flat_map (λ (x : Site). frames_noted Controller x.host x.link k) w.sites)
        (steps_powered h 0 (without_power Controller) (λ x. refl) (twice Controller) TimePasses Begun node.number refl tt)
        (all_frames Controller (λ (x : Site). x.link) k w.sites) (near_notes b s.link (had k h)) (shaped_is b) (told_is b a)

    -- an end that is up doesn't wait
    ready_is : (b : Bool) → IfLate b s.link.controller.side → b ≡ true → is_waiting s.link.controller.side.shdlc ≡ false
    ready_is b up q = grind arith

    so_is : (b : Bool) → IfLate b s.link.controller.side → ticked_so s.link b (turns_at k h) (ending_of k) ≡ between b s.link (had k h)
    so_is b up = grind arith

    runs_so : Near w h s
    runs_so = go (is_late (older opened.port)) refl
      where
        go : (b : Bool) → is_late (older opened.port) ≡ b → Near w h s
        go b q =
            let a : Ticked h Controller s.link b k = done b q in
            record {
              late = b;
              had = had k h;
              turns = rw runs refl;
              there = rw runs (site_map (site_ticked k) (λ x. refl) w.sites h s found
                  ∙ ap (λ l. Some (record s { link = l }))
                  (ap (λ n. ticked_so s.link (is_late_at k n) (turns_at k n) (ending_of k)) number_is
                  ∙ (ap (λ c. ticked_so s.link c (turns_at k h) (ending_of k)) (late_is b a) ∙ so_is b (up_late b q))));
              told = rw runs (told_is b a);
              stands = rw runs (stands_is b a);
              ready = ready_is b (up_late b q);
            }

  near : IfOff w.controller (new_link_end (Clf new_clf)) s.link.controller.side → IfDue w.controller h s.link.controller.side → Near w h s
  near off due = go w.controller refl orderly.controller off due
    where
      go : (o : Option Running) → w.controller ≡ o → IfItRuns 0 (hosts_in w.sites) o → IfOff o (new_link_end (Clf new_clf)) s.link.controller.side
          → IfDue o h s.link.controller.side → Near w h s
      go None q n x d = record {
        late = false;
        had = record { turns = []; ending = GoesOut };
        turns = rw q refl;
        there = rw q (site_map site_unticked (λ x. refl) w.sites h s found);
        told = rw q (sym (ap (λ z. of_link h (entries_for h z)) (still_near Controller s.link x)));
        stands = rw q (λ y. sym (ap (standing_by_law h y) (still_near Controller s.link x)));
        ready = λ e. absurd (cc e);
      }
      go (Some r) q n x d = runs_so r q n d

-- it leaves the world orderly
pub near_orderly : (w : NodeWorld) → IsOrderly w → IsOrderly (record { memory = w.memory; controller = None; sites = (controller_ticks w).0.sites })
near_orderly w a =
    by_controller_tick (λ p. IsOrderly (record { memory = w.memory; controller = None; sites = p.0.sites })) w
    (λ q. orderly_map w w.memory None site_unticked (λ x. refl) a tt (λ x n. n))
    (λ r q. orderly_map w w.memory None (site_ticked (near_tick w r)) (λ x. refl) a tt (λ x n. n))

-- so is the world as the nodes have their ticks, and behind that of the controller
pub aged_orderly : (w : NodeWorld) → IsOrderly w → IsOrderly (all_aged w).0
aged_orderly w a = orderly_map w w.memory w.controller (λ (x : Site). record x { link = aged x.link }) (λ x. refl) a a.controller (λ x n. n)

pub ticked_orderly : (w : NodeWorld) → IsOrderly w
    → IsOrderly (record { memory = w.memory; controller = None; sites = (controller_ticks (all_aged w).0).0.sites })
ticked_orderly w a = near_orderly (all_aged w).0 (aged_orderly w a)

-- an input to the controller's end leaves the other one
pub host_left : (l : Link) (i : LinkInput) (ts : List Turn) (ending : Ending) → (has_input l i ts ending).host ≡ l.host
host_left l i ts ending =
    host_finished (with_ended l (is_some (ended_by l.controller.side i))) (turned (after_input l.controller.side i) ts) ending
    ∙ host_ended l (is_some (ended_by l.controller.side i))

pub between_far : (b : Bool) (l : Link) (c : Node) → (between b l c).host.side ≡ l.host.side
between_far true l c = ap (λ (z : NumberedEnd). z.side) (host_left l (Reset None) c.turns c.ending)
between_far false l c = ap (λ (z : NumberedEnd). z.side) (host_left l Tick c.turns c.ending)

-- ## A tick of the world

-- the event of the law of one link
abbrev pub tick_event : Bool → Node → Node → LinkEvent
tick_event true c h = TicksWithout (Step (AsksReset None) c.turns c.ending ∷ []) h
tick_event false c h = Ticks c [] h

-- what a tick does to a link, and tells of it
pub record Ticking (w : NodeWorld) (h : ℕ) (s : Site) : Type 0 where
  pub late : Bool
  pub near : Node
  pub far : Node
  pub near_had : near.turns ≡ near_turns (all_aged w).0 h w.controller
  pub far_had : far.turns ≡ host_turns (record s { link = between late (aged s.link) near }) s.node
  pub ready : late ≡ true → is_waiting s.link.controller.side.shdlc ≡ false
  pub near_there : site_at (controller_ticks (all_aged w).0).0.sites h ≡ Some (record s { link = between late (aged s.link) near })
  pub there : site_at (world_ticks w).0.sites h ≡ Some (host_ticks (record s { link = between late (aged s.link) near })).0
  pub is : happens s.link (tick_event late near far) ≡ (host_ticks (record s { link = between late (aged s.link) near })).0.link
  pub told : TellOf h s.link (tick_event late near far) (world_ticks w).1
  pub stands : StandsOf h s.link (tick_event late near far) (world_ticks w).1

module _ (w : NodeWorld) (h : ℕ) (s : Site) (orderly : IsOrderly w) (found : site_at w.sites h ≡ Some s) (timely : IsTimely w h s) where
  abbrev older_site : Site → Site
  older_site x = record x { link = aged x.link }

  abbrev old : NodeWorld
  old = (all_aged w).0

  pub old_orderly : IsOrderly old
  old_orderly = aged_orderly w orderly

  pub old_found : site_at old.sites h ≡ Some (older_site s)
  old_found = site_map older_site (λ x. refl) w.sites h s found

  number : s.host ≡ h
  number = site_host w.sites h s found

  pub first : Near old h (older_site s)
  first = near old h (older_site s) old_orderly old_found timely.controller timely.up

  abbrev mine : Site
  mine = record s { link = between first.late (aged s.link) first.had }

  second : Far mine
  second =
      far mine (site_is (λ (x : Site). (x.host == 0) ≡ false) (controller_ticks old).0.sites h mine (ticked_orderly w orderly).hosts first.there)
      (site_is (λ (x : Site). IfItRuns x.host (x.host ∷ []) x.node) (controller_ticks old).0.sites h mine (ticked_orderly w orderly).nodes first.there)
      (let P : LinkEnd → Type 0 = IfOff s.node (new_link_end (Uicc new_uicc)) in subst P (sym (between_far first.late (aged s.link) first.had)) timely.host)
      timely.young

  abbrev aged_notes : Site → List Noted
  aged_notes x = aged_entries Controller x.link.to_controller ++ aged_entries Host x.link.to_host

  pub old_told : of_link h (all_aged w).1 ≡ of_link h (entries_for h (aged_notes s))
  old_told =
      only (λ (x : Site). x.host) (λ (x : Site). entries_for x.host (aged_notes x)) h (λ x e. of_other x.host h (aged_notes x) e) w.sites s orderly.different
      found
      ∙ ap (λ m. of_link h (entries_for m (aged_notes s))) number

  abbrev far_notes : List Noted
  far_notes = tick_entries Host (exchanged mine.link) second.had

  far_told : of_link h (hosts_tick (controller_ticks old).0.sites).1 ≡ of_link h (entries_for h far_notes)
  far_told =
      hosts_only h (controller_ticks old).0.sites mine (ticked_orderly w orderly).different (ticked_orderly w orderly).hosts (ticked_orderly w orderly).nodes
      first.there ∙ subst (λ m. of_link m (host_ticks mine).1 ≡ of_link m (entries_for m far_notes)) number second.told

  told_all : of_link h (world_ticks w).1 ≡ of_link h (entries_for h (aged_notes s ++ (near_notes first.late (aged s.link) first.had ++ far_notes)))
  told_all =
      let far : List Entry = (hosts_tick (controller_ticks old).0.sites).1 in
      let one : List Noted = near_notes first.late (aged s.link) first.had in
      let both : of_link h ((controller_ticks old).1 ++ far) ≡ of_link h (entries_for h (one ++ far_notes)) =
      of-append h (controller_ticks old).1 far
      ∙ (ap (λ t. t ++ of_link h far) first.told
      ∙ (ap (λ t. of_link h (entries_for h one) ++ t) far_told ∙ sym (notes-append h one far_notes))) in
      of-append h (all_aged w).1 ((controller_ticks old).1 ++ far)
      ∙ (ap (λ t. t ++ of_link h ((controller_ticks old).1 ++ far)) old_told
      ∙ (ap (λ t. of_link h (entries_for h (aged_notes s)) ++ t) both
      ∙ sym (notes-append h (aged_notes s) (one ++ far_notes))))

  pub aged_uncut : (sites : List Site) → AreUncut (flat_map (λ (x : Site). entries_for x.host (aged_notes x)) sites)
  aged_uncut sites = uncut_flat (λ (x : Site). entries_for x.host (aged_notes x)) (λ x. entries_uncut x.host (aged_notes x)) sites

  old_stands : (x : Standing) → standing h x (all_aged w).1 ≡ standing_by_law h x (aged_notes s)
  old_stands =
      clear_stands h (all_aged w).1 (aged_notes s) (aged_uncut w.sites)
      (clear-append (aged_entries Controller s.link.to_controller) (aged_entries Host s.link.to_host) (clear_aged Controller s.link.to_controller)
      (clear_aged Host s.link.to_host)) old_told

  far_stands : (x : Standing) → standing h x (hosts_tick (controller_ticks old).0.sites).1 ≡ standing_by_law h x far_notes
  far_stands x =
      stands_only h (controller_ticks old).0.sites mine (ticked_orderly w orderly).different (ticked_orderly w orderly).hosts (ticked_orderly w orderly).nodes
      first.there x
      ∙ subst (λ (m : ℕ). (y : Standing) → standing m y (host_ticks mine).1 ≡ standing_by_law m y far_notes) number second.stands x

  stands_all : (x : Standing) → standing h x (world_ticks w).1
      ≡ standing_by_law h x (aged_notes s ++ (near_notes first.late (aged s.link) first.had ++ far_notes))
  stands_all x =
      let far : List Entry = (hosts_tick (controller_ticks old).0.sites).1 in
      let one : List Noted = near_notes first.late (aged s.link) first.had in
      let y : Standing = standing_by_law h x (aged_notes s) in
      fold-append (stands_noted h) x (all_aged w).1 ((controller_ticks old).1 ++ far)
      ∙ (ap (λ z. standing h z ((controller_ticks old).1 ++ far)) (old_stands x)
      ∙ (fold-append (stands_noted h) y (controller_ticks old).1 far
      ∙ (ap (λ z. standing h z far) (first.stands y)
      ∙ (far_stands (standing_by_law h y one)
      ∙ (sym (fold-append (law_noted h) y one far_notes) ∙ sym (fold-append (law_noted h) x (aged_notes s) (one ++ far_notes)))))))

  event_stands : (b : Bool) (l : Link) (c n : Node) (x : Standing)
      → standing_by_law h x ((aged_entries Controller l.to_controller ++ aged_entries Host l.to_host)
      ++ (near_notes b (aged l) c ++ tick_entries Host (exchanged (between b (aged l) c)) n))
      ≡ standing_by_law h x (event_entries l (tick_event b c n))
  event_stands true l c n x =
      ap (standing_by_law h x) (append_assoc (aged_entries Controller l.to_controller) (aged_entries Host l.to_host)
      (near_notes true (aged l) c ++ tick_entries Host (exchanged (between true (aged l) c)) n))
  event_stands false l c n x =
      ap (standing_by_law h x) (append_assoc (aged_entries Controller l.to_controller) (aged_entries Host l.to_host)
      (near_notes false (aged l) c ++ tick_entries Host (exchanged (between false (aged l) c)) n))

  event_told : (b : Bool) (l : Link) (c n : Node)
      → of_link h (entries_for h ((aged_entries Controller l.to_controller ++ aged_entries Host l.to_host)
      ++ (near_notes b (aged l) c ++ tick_entries Host (exchanged (between b (aged l) c)) n)))
      ≡ of_link h (entries_for h (event_entries l (tick_event b c n)))
  event_told true l c n =
      ap (λ z. of_link h (entries_for h z)) (append_assoc (aged_entries Controller l.to_controller) (aged_entries Host l.to_host)
      (near_notes true (aged l) c ++ tick_entries Host (exchanged (between true (aged l) c)) n))
  event_told false l c n =
      ap (λ z. of_link h (entries_for h z)) (append_assoc (aged_entries Controller l.to_controller) (aged_entries Host l.to_host)
      (near_notes false (aged l) c ++ tick_entries Host (exchanged (between false (aged l) c)) n))

  pub ticking : Ticking w h s
  ticking = record {
    late = first.late;
    near = first.had;
    far = second.had;
    near_had = first.turns;
    far_had = second.turns;
    ready = first.ready;
    near_there = first.there;
    there = hosts_at h (controller_ticks old).0.sites mine first.there;
    is = (grind arith) ∙ sym second.is;
    told = told_all ∙ event_told first.late s.link first.had second.had;
    stands = λ x. stands_all x ∙ event_stands first.late s.link first.had second.had x;
  }

  pub tick_goes : GoesSo h s (world_ticks w).0 (world_ticks w).1
  tick_goes =
      let a : Ticking w h s = ticking in
      let site : Site = (host_ticks (record s { link = between a.late (aged s.link) a.near })).0 in
      record {
        site = site;
        there = a.there;
        tells = subst (λ (l : Link). Tells h s.link l (world_ticks w).1) a.is (tells_one h s.link (tick_event a.late a.near a.far) (world_ticks w).1 a.told);
      }
