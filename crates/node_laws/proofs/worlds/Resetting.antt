-- In each event sessions end by resets exactly where those are due, and the ages of the controller's notices stay those that are read.
use Rattle.node_laws.proofs.Words.{Activates, AllByRecursion, AreDifferent, AreSessionsRead, Arms, AsksReset, AtEnd, Bool, Boots, Broken, Comes, Controller}
use Rattle.node_laws.proofs.Words.{ControllerReads, Deed, Desk, End, Entry, Gives, Happening, HasEnds, Host, IfHostNode, IfItRuns, IfNoticedUp, IfReads, Inits}
use Rattle.node_laws.proofs.Words.{IsCut, IsFresh, IsOrderly, IsOutside, IsShut, KeepsNotices, Link, LinkEnd, LinkInput, List, Loses, Loss, NextFrame, NoInput}
use Rattle.node_laws.proofs.Words.{NodeInput, NodeWorld, None, Notice, NumberedEnd, Occurrence, Option, Plan, Port, Reset, Resets, Running, Site, Some, Starts}
use Rattle.node_laws.proofs.Words.{Takes, Ticks, TimePasses, Work, [], activates, age_in, all_aged, and-false, and-true, ap, ap₂, arith, arrival, as_noted}
use Rattle.node_laws.proofs.Words.{beginning, begins_with, boot_found, boot_written, boots, by_boot, by_coming, by_controller, by_controller_tick, by_host}
use Rattle.node_laws.proofs.Words.{by_loss, by_memory, by_option, by_running, by_test, comes_at, comes_to, cond, controller_does, controller_ticks}
use Rattle.node_laws.proofs.Words.{controller_work, count_of, counts, end_c, end_h, ended_by, entries_for, entries_in, eqb, eqb-true, exchanged, false}
use Rattle.node_laws.proofs.Words.{first_lost, fold-append, frame_lost, frames_noted, has_come_so, host_does, hosts_in, hosts_tick, if_off, input_of}
use Rattle.node_laws.proofs.Words.{is_late_in, is_own_reset, is_reset_down, is_reset_due, is_some, is_tick, is_up, link_to, list_any, loses_power_at}
use Rattle.node_laws.proofs.Words.{machine_in, map, memory_at, nat_le, near_end_in, near_tick, node_at, not, notice_at, notice_in, option_and_then}
use Rattle.node_laws.proofs.Words.{option_map_or, refl, refusal_in, reset_refusal, runs_on, sending, session_now, site_at, steps, subst, sym, true, true≢false}
use Rattle.node_laws.proofs.Words.{wires_for, with_memory, work_of, world_step, world_ticks, ℕ, ◌&&◌, ◌++◌, ◌+◌, ◌||◌, ◌∙◌, ◌∷◌, ◌≡◌, ◌≤◌}
use Rattle.node_laws.specs.answers.Unasked.{age_after}
use Rattle.node_laws.proofs.kept.Ticking.{first_none, off_none}
use Rattle.node_laws.proofs.notices.Turning.{IsOn}
use Rattle.node_laws.proofs.notices.Events.{none_noticed, noticed_counted}
use Rattle.node_laws.proofs.notices.Near.{AreFar, AreGood, IsFarWork, Reads, aged_far, aged_side, all_do, all_ports, arrival_quiet, beginning_own, begins}
use Rattle.node_laws.proofs.notices.Near.{comes_reads, far-append, far_flat, frames_quiet, good_at, link_shut, noticed_desks, noticed_ports, quiet_far}
use Rattle.node_laws.proofs.notices.Near.{sending_own, steps_far}
use Rattle.node_laws.proofs.notices.Steps.{HasCome, came_near, came_tick, noticed_is}
use Rattle.node_laws.proofs.order.Upheld.{IsAskedIn, none_refused}
use Rattle.node_laws.proofs.readings.Sites.{comes_outside, lost_quiet, near_end_side}
use Rattle.node_laws.proofs.telling.Lasting.{occurs}
use Rattle.node_laws.proofs.telling.Events.{hosts_same_of_nodes as hosts_same, link_is, site_host}
use Rattle.node_laws.proofs.views.Lines.{up_is}
use Rattle.node_laws.proofs.worlds.Ages.{AgeIs, far_notifies, grown, more_notified, notified, otherwise, step_ages, still_notified}
use Rattle.node_laws.proofs.worlds.Ticking.{NoNotices, any_append, at, beginning_none, begins_none, comes_none, far_number, far_other, far_reset, far_tick}
use Rattle.node_laws.proofs.worlds.Ticking.{kept_notice, near_other, near_reset, off_tick, other_end_is, p, q, reset_is, sending_none, tells_of_steps as tells}
use Rattle.trace_model.specs.declared.entry.Entry.TheVariants as entry
use Rattle.trace_model.specs.declared.line.Line.TheVariants as line

-- ## In each event sessions end by resets exactly where those are due

-- The age of each notice of a controller that runs is what is read, below a hundred.
abbrev pub AgesAreRead : List Occurrence → Option Running → Type 0
AgesAreRead past None = Unit {0}
AgesAreRead past (Some r) = (x : ℕ) (n : Notice) → notice_at r.desks x ≡ Some n → (n.age ≡ age_in past x) × (n.age ≤ 99)

-- what is known of a world behind these events
pub record IsReadBefore (past : List Occurrence) (w : NodeWorld) : Type 0 where
  pub orderly : IsOrderly w
  pub notices : KeepsNotices (entries_in past) w
  pub sessions : (x : ℕ) (s : Site) → site_at w.sites x ≡ Some s → AreSessionsRead (entries_in past) x s.link
  pub quiet : NoNotices w.sites
  pub ages : AgesAreRead past w.controller

-- what comes ends no session by a reset unless it is one
frames_none : (side : LinkEnd) (i : LinkInput) (l : Link) → input_of l NextFrame ≡ Some i → option_map_or is_own_reset (ended_by side i) false ≡ false
frames_none side i l is = grind arith

starts_none : (value : ℕ) (side : LinkEnd) (i : LinkInput) (l : Link) → input_of l (Starts value) ≡ Some i
    → option_map_or is_own_reset (ended_by side i) false ≡ false
starts_none value side i l is = grind arith

-- ### Events that reset nothing

module _ (w : NodeWorld) (e : End) where
  abbrev Silent : List Entry → Type 0
  Silent es = tells is_own_reset e es ≡ false

  boots_none : (n : ℕ) → Silent (world_step w (Boots n)).1
  boots_none n = by_boot (λ p. Silent p.1) w n refl refl

  lost_none : (f : End) (why : Loss) → Silent (world_step w (Loses f why)).1
  lost_none f why = grind arith

  activates_none : (h sync power : ℕ) → Silent (world_step w (Activates h sync power)).1
  activates_none h sync power =
      let near : NodeWorld × List Entry = comes_at w (end_c h) (Starts power) in
      any_append is_own_reset e near.1 (comes_at near.0 (end_h h) (Starts sync)).1
      ∙ ap₂ (λ a b. a || b) (comes_none is_own_reset e w (end_c h) (Starts power) (starts_none power))
      (comes_none is_own_reset e near.0 (end_h h) (Starts sync) (starts_none sync))

module _ (past : List Occurrence) (w : NodeWorld) (k : IsReadBefore past w) (x : ℕ) (s : Site) (found : site_at w.sites x ≡ Some s) where
  abbrev t : List Entry
  t = entries_in past

  -- ### Resets

  linked : (f : ℕ) → eqb f x ≡ true → link_to w.sites f ≡ s.link
  linked f z = ap (link_to w.sites) (eqb-true f x z) ∙ link_is w.sites x s found

  near_resets : (f : ℕ) (far : Bool) (window : Option ℕ) → refusal_in w (line.Reset (record { link = f; at_host = far }) window) ≡ None
      → tells is_own_reset (end_c x) (comes_at w (record { link = f; at_host = far }) (AsksReset window)).1
      ≡ is_reset_due past (occurs w (Resets (record { link = f; at_host = far }) window)) (end_c x)
  near_resets f true window free =
      far_other is_own_reset (end_c x) w f (AsksReset window) (Reset window) k.orderly (λ h. (and-false (eqb h x)))
      ∙ sym (ap (λ b. b && is_some (session_now t (end_c x) 0)) (and-false (eqb f x)))
  near_resets f false window free =
      let parts = first_none (if_off w 0) (as_noted (reset_refusal (machine_in w (end_c f)))) free in
      let runs : (r : Running) × (node_at w 0 ≡ Some r) = off_none (node_at w 0) parts.0 in
      near_reset w k.orderly f window x s found runs.0 runs.1
      (λ z. ap (λ (l : Link). reset_refusal l.controller.side) (sym (linked f z)) ∙ none_refused (reset_refusal (machine_in w (end_c f))) parts.1)
      ∙ ap₂ (λ a b. a && b) (sym (and-true (eqb f x))) (sym (ap is_some (k.sessions x s found).controller ∙ up_is s.link.controller))

  far_resets : (f : ℕ) (far : Bool) (window : Option ℕ) → refusal_in w (line.Reset (record { link = f; at_host = far }) window) ≡ None
      → tells is_own_reset (end_h x) (comes_at w (record { link = f; at_host = far }) (AsksReset window)).1
      ≡ is_reset_due past (occurs w (Resets (record { link = f; at_host = far }) window)) (end_h x)
  far_resets f false window free =
      near_other is_own_reset (end_h x) w f (AsksReset window) (Reset window) k.orderly (λ h. (and-false (eqb h x)))
      ∙ sym (ap (λ b. b && is_some (session_now t (end_h x) x)) (and-false (eqb f x)))
  far_resets f true window free = go (eqb f x) refl where
    M : NodeWorld × List Entry
    M = host_does w f (AsksReset window) (steps (AtEnd f (Reset window)))

    parts : (if_off w f ≡ None) × (as_noted (reset_refusal (machine_in w (end_h f))) ≡ None)
    parts = first_none (if_off w f) (as_noted (reset_refusal (machine_in w (end_h f)))) free

    of_site : (z : Site) → site_at w.sites f ≡ Some z → eqb f x ≡ false → tells is_own_reset (end_h x) M.1 ≡ false
    of_site z there off = by_option z.node
        (λ runs. rw (there, runs) refl)
        (λ r runs. far_reset w k.orderly f window x s found z r there runs (λ y. absurd (true≢false (sym y ∙ off)))
        ∙ ap (λ b. b && is_up s.link.host.side.shdlc.phase) off)

    off_site : (o : Option Site) → site_at w.sites f ≡ o → eqb f x ≡ false → tells is_own_reset (end_h x) M.1 ≡ false
    off_site None there off = rw there refl
    off_site (Some z) there off = of_site z there off

    go : (b : Bool) → eqb f x ≡ b
        → tells is_own_reset (end_h x) M.1 ≡ is_reset_due past (occurs w (Resets (record { link = f; at_host = true }) window)) (end_h x)
    go false z =
        off_site (site_at w.sites f) refl z ∙ sym (ap (λ b. (b && true) && is_some (session_now t (end_h x) x)) z)
    go true z =
        let there : site_at w.sites f ≡ Some s = ap (site_at w.sites) (eqb-true f x z) ∙ found in
        let zero : eqb f 0 ≡ false = ap (λ n. eqb n 0) (sym (site_host w.sites f s there)) ∙ far_number w f s k.orderly there in
        let runs : (r : Running) × (node_at w f ≡ Some r) = off_none (node_at w f) parts.0 in
        far_reset w k.orderly f window x s found s runs.0 there (sym (rw (zero, there) refl) ∙ runs.1)
        (λ z. ap (λ (l : Link). reset_refusal l.host.side) (sym (linked f z)) ∙ none_refused (reset_refusal (machine_in w (end_h f))) parts.1)
        ∙ ap₂ (λ a b. a && b) (sym (and-true (eqb f x))) (sym (ap is_some (k.sessions x s found).host ∙ up_is s.link.host))

  -- ### Ticks

  below : (a : ℕ) → a ≤ 99 → nat_le 100 (a + 1) ≡ eqb a 99
  below a most = grind arith

  late_is : (r : Running) → w.controller ≡ Some r
      → tells is_own_reset (end_c x) (world_ticks w).1 ≡ is_late_in past (occurs w Ticks) x
  late_is r runs =
      let u : Port = q w k.orderly t k.notices x s found r runs in
      reset_is w k.orderly t k.notices x s found r runs
      ∙ ap₂ (λ a b. a && not b) (by_option (at w k.orderly t k.notices x s found r runs).desk.notice
      (λ z. rw z (ap (λ b. b && eqb (age_in past x) 99) (sym (ap (λ (o : Option Notice). is_some o) z) ∙ same)))
      (λ n z. let age : (n.age ≡ age_in past x) × (n.age ≤ 99) = (subst (AgesAreRead past) runs k.ages) x n (there ∙ z) in
      rw z (below n.age age.1 ∙ (ap (λ a. eqb a 99) age.0 ∙ ap (λ b. b && eqb (age_in past x) 99)
      (sym (ap (λ (o : Option Notice). is_some o) z) ∙ same))))) (sym
      (other_end_is w k.orderly t k.notices x s found r runs))
    where
      d : Desk
      d = (at w k.orderly t k.notices x s found r runs).desk

      there : notice_at r.desks x ≡ d.notice
      there =
          sym (noticed_ports (λ h. (link_to (all_aged w).0.sites h).controller) r.desks x)
          ∙ ap (λ o. option_and_then (λ (p : Port). p.desk.notice) o) (at w k.orderly t k.notices x s found r runs).here

      same : is_some d.notice ≡ is_some (notice_in t x)
      same = noticed_is (notice_in t x) (p w k.orderly t k.notices x s found r runs) (kept_notice w k.orderly t k.notices x s found r runs)

  near_ticks : tells is_own_reset (end_c x) (world_ticks w).1 ≡ is_late_in past (occurs w Ticks) x
  near_ticks = by_option w.controller
      (λ z. let none : notice_in t x ≡ None = (subst (IfReads t) z k.notices.controller x).0 in
      off_tick w k.orderly t k.notices x s found is_own_reset z
      ∙ sym (ap (λ (o : Option (List ℕ)). (is_some o && eqb (age_in past x) 99) && not (tells otherwise (end_c x) (world_ticks w).1)) none))
      (λ r z. late_is r z)

  -- ### Events

  pub near_is : (c : Happening) → IsAskedIn w c → list_any (is_reset_down (end_c x)) (world_step w c).1 ≡ is_reset_due past (occurs w c) (end_c x)
  near_is (Boots n) may = boots_none w (end_c x) n
  near_is (IsCut n) may = refl
  near_is (Gives e m) may = begins_none is_own_reset (end_c x) w e.link e.link (sending e.link m) (sending_none e.link m)
  near_is (Inits e identity pipes) may = begins_none is_own_reset (end_c x) w e.link e.link (beginning identity pipes) (beginning_none identity pipes)
  near_is (Takes e) may = comes_none is_own_reset (end_c x) w e NextFrame frames_none
  near_is (Loses e why) may = lost_none w (end_c x) e why
  near_is Ticks may = near_ticks
  near_is (Resets e window) may = near_resets e.link e.at_host window may
  near_is (Activates h sync power) may = activates_none w (end_c x) h sync power
  near_is (Arms n plan) may = refl

  pub far_is : (c : Happening) → IsAskedIn w c → list_any (is_reset_down (end_h x)) (world_step w c).1 ≡ is_reset_due past (occurs w c) (end_h x)
  far_is (Boots n) may = boots_none w (end_h x) n
  far_is (IsCut n) may = refl
  far_is (Gives e m) may = begins_none is_own_reset (end_h x) w e.link e.link (sending e.link m) (sending_none e.link m)
  far_is (Inits e identity pipes) may = begins_none is_own_reset (end_h x) w e.link e.link (beginning identity pipes) (beginning_none identity pipes)
  far_is (Takes e) may = comes_none is_own_reset (end_h x) w e NextFrame frames_none
  far_is (Loses e why) may = lost_none w (end_h x) e why
  far_is Ticks may = far_tick w k.orderly (end_h x) (λ h. (and-false (eqb h x))) k.quiet
  far_is (Resets e window) may = far_resets e.link e.at_host window may
  far_is (Activates h sync power) may = activates_none w (end_h x) h sync power
  far_is (Arms n plan) may = refl

-- ## In each event the ages of the controller's notices stay those that are read

-- the notices of a controller that runs are as old as this, or new where one was sent
abbrev AreAged : (ℕ → ℕ) → List Entry → Option Running → Type 0
AreAged base es None = Unit {0}
AreAged base es (Some r) = (x : ℕ) (n : Notice) → notice_at r.desks x ≡ Some n → AgeIs x (base x) (notified x es) n

abbrev AreOld : (ℕ → ℕ) → Option Running → Type 0
AreOld age None = Unit {0}
AreOld age (Some r) = (x : ℕ) (n : Notice) → notice_at r.desks x ≡ Some n → (n.age ≡ age x) × (n.age ≤ 99)

-- what tells nothing of notices leaves them
far_aged : (age : ℕ → ℕ) (es : List Entry) (o : Option Running) → AreFar es → AreOld age o → AreAged age es o
far_aged age es None far a = tt
far_aged age es (Some r) far a = λ x n q. let b = a x n q in (b.0 ∙ sym (ap (λ c. cond c 0 (age x)) (far_notifies x es far)), b.1)

far_behind : (base : ℕ → ℕ) (es fs : List Entry) (o : Option Running) → AreFar fs → AreAged base es o → AreAged base (es ++ fs) o
far_behind base es fs None far a = tt
far_behind base es fs (Some r) far a = λ x n q. subst (λ c. AgeIs x (base x) c n) (sym (still_notified x es fs (far_notifies x fs far))) (a x n q)

far_before : (base : ℕ → ℕ) (fs es : List Entry) (o : Option Running) → AreFar fs → AreAged base es o → AreAged base (fs ++ es) o
far_before base fs es None far a = tt
far_before base fs es (Some r) far a =
    λ x n q. subst (λ c. AgeIs x (base x) c n) (sym (more_notified x fs es ∙ ap (λ c. c || notified x es) (far_notifies x fs far))) (a x n q)

-- ### A step of the controller

module _ (t : List Entry) (w : NodeWorld) (r : Running) (has : HasEnds 0 (hosts_in w.sites) r) (different : AreDifferent (hosts_in w.sites))
    (ups : IfNoticedUp w.sites (Some r)) (sites : AreGood w.sites) (old : ControllerReads t r) (plan : Option Plan) (near_ends : ℕ → NumberedEnd)
    (same : (n : ℕ) → (near_ends n).side ≡ (link_to w.sites n).controller.side) (es : List Entry) (quiet : AreFar es) (age : ℕ → ℕ)
    (ages : AreOld age (Some r)) where
  abbrev begun : Work
  begun = work_of r plan near_ends es

  fresh : AllByRecursion IsFresh begun.ports
  fresh = all_ports IsFresh near_ends (λ d. (refl, refl)) r.desks

  shut : AllByRecursion (λ (p : Port). IsShut p.side) begun.ports
  shut = all_ports (λ (p : Port). IsShut p.side) near_ends (λ d. subst IsShut (sym (same d.host)) (link_shut w.sites d.host sites)) r.desks

  apart : AreDifferent (map (λ (p : Port). p.desk.host) begun.ports)
  apart = subst AreDifferent (sym (hosts_same near_ends r.desks ∙ has.ends)) different

  module _ (input : NodeInput) (outside : IsOutside input) where
    on : (x : ℕ) → IsOn x t begun
    on x = begins t w r has different ups sites old plan near_ends same es quiet input outside x

    come : (x : ℕ) → HasCome x t begun (on x) (has_come_so input begun)
    come x = by input outside where
      by : (i : NodeInput) → IsOutside i → HasCome x t begun (on x) (has_come_so i begun)
      by (AtEnd h i) out = came_near x t begun (on x) h i out apart fresh shut
      by TimePasses out = came_tick x t begun (on x) apart fresh shut

    step_aged : AreAged (λ x. grown x input (age x)) (steps input begun).entries (runs_on (steps input begun))
    step_aged = by_test (steps input begun).cut
        (λ z. let off : runs_on v ≡ None = rw z refl in subst (AreAged (λ x. grown x input (age x)) v.entries) (sym off) tt)
        (λ z. let is : runs_on v ≡ Some (record { core = v.core; desks = map (λ (p : Port). p.desk) v.ports }) = rw z refl in
        subst (AreAged (λ x. grown x input (age x)) v.entries) (sym is)
        (λ x n q. step_ages x t input begun (on x) (come x) (age x) (far_notifies x es quiet)
        (λ m y. ages x m (sym (noticed_ports near_ends r.desks x) ∙ y)) z n (noticed_desks v.ports x ∙ q))) where
          v : Work
          v = steps input begun

-- ### Worlds

module _ (t : List Entry) (w : NodeWorld) (k : KeepsNotices t w) (age : ℕ → ℕ) (old : AreOld age w.controller) where
  abbrev Stays : NodeWorld × List Entry → Type 0
  Stays p = AreAged age p.1 p.0.controller

  reads : Reads t w
  reads = record { sites = k.sites; reads_so = k.controller }

  none_stays : Stays (w, [])
  none_stays = far_aged age [] w.controller tt old

  near_stays : (h : ℕ) (comes : Comes) (i : LinkInput) → input_of (link_to w.sites h) comes ≡ Some i → Stays (controller_does w h comes (steps (AtEnd h i)))
  near_stays h comes i input =
      by_controller Stays w h comes (steps (AtEnd h i)) none_stays
      (λ r q.
      let v : Work = controller_work w r h comes (steps (AtEnd h i)) in
      far_behind age v.entries _ (runs_on v)
      (far_flat (λ (s : Site). frames_noted Controller s.host (wires_for s.link (comes_to h comes s.host)) v)
      (λ s. frames_quiet Controller s.host (wires_for s.link (comes_to h comes s.host)) v) w.sites)
      (step_aged t w r (subst (IfItRuns 0 (hosts_in w.sites)) q k.orderly.controller) k.orderly.different (subst (IfNoticedUp w.sites) q k.up) k.sites
      (subst (IfReads t) q k.controller) w.memory.plan (λ n. near_end_in (link_to w.sites n) (comes_to h comes n))
      (λ n. near_end_side (link_to w.sites n) (comes_to h comes n)) (entries_for h (arrival Controller (link_to w.sites h) comes))
      (arrival_quiet Controller h (link_to w.sites h) comes) age (subst (AreOld age) q old) (AtEnd h i) (comes_outside (link_to w.sites h) comes i input)))

-- a host leaves the controller, and tells nothing of its notices
module _ (w : NodeWorld) (good : AreGood w.sites) where
  abbrev Leaves : NodeWorld × List Entry → Type 0
  Leaves p = (p.0.controller ≡ w.controller) × AreFar p.1

  host_leaves : (h : ℕ) (comes : Comes) (f : Work → Work) → ((k : Work) → IsFarWork k → IsFarWork (f k)) → Leaves (host_does w h comes f)
  host_leaves h comes f keeps =
      by_host Leaves w h comes f (refl, tt)
      (λ s r here q.
      let begun : Work = work_of r s.memory.plan (λ n. near_end_in (exchanged s.link) comes) (entries_for s.host (arrival Host (exchanged s.link) comes)) in
      let far : IsFarWork (f begun) = keeps begun (record {
        number = subst IfHostNode q (good_at w.sites h s good here).node;
        far = arrival_quiet Host s.host (exchanged s.link) comes;
      }) in
      (refl, far-append (f begun).entries _ far.far (frames_quiet Host h (wires_for (exchanged s.link) comes) (f begun))))

module _ (age : ℕ → ℕ) where
  left : (w : NodeWorld) (p : NodeWorld × List Entry) → AreOld age w.controller → (p.0.controller ≡ w.controller) × AreFar p.1 → AreAged age p.1 p.0.controller
  left w p old a = subst (AreAged age p.1) (sym a.0) (far_aged age p.1 w.controller a.1 old)

  comes_aged : (t : List Entry) (w : NodeWorld) → KeepsNotices t w → AreOld age w.controller → (e : End) (comes : Comes)
      → AreAged age (comes_at w e comes).1 (comes_at w e comes).0.controller
  comes_aged t w k old e comes =
      by_coming (λ p. AreAged age p.1 p.0.controller) w e comes (none_stays t w k age old)
      (λ i far q. left w (host_does w e.link comes (steps (AtEnd e.link i))) old
      (host_leaves w k.sites e.link comes (steps (AtEnd e.link i)) (λ v b. steps_far (AtEnd e.link i) v b)))
      (λ i near q. near_stays t w k age old e.link comes i q)

  -- ### Events

  begins_aged : (w : NodeWorld) → AreGood w.sites → AreOld age w.controller → (h : ℕ) (deeds : List Deed) → Rattle.node_laws.proofs.notices.Near.AreOwn deeds
      → AreAged age (host_does w h NoInput (begins_with h deeds)).1 (host_does w h NoInput (begins_with h deeds)).0.controller
  begins_aged w good old h deeds own =
      left w (host_does w h NoInput (begins_with h deeds)) old (host_leaves w good h NoInput (begins_with h deeds) (λ v b. all_do h deeds v own b))

  activates_aged : (t : List Entry) (w : NodeWorld) → KeepsNotices t w → AreOld age w.controller → (h sync power : ℕ)
      → AreAged age (activates w h sync power).1 (activates w h sync power).0.controller
  activates_aged t w k old h sync power =
      far_behind age near.1 far.1 far.0.controller leaves.1
      (subst (AreAged age near.1) (sym leaves.0) (comes_aged t w k old (end_c h) (Starts power))) where
        near : NodeWorld × List Entry
        near = comes_at w (end_c h) (Starts power)

        far : NodeWorld × List Entry
        far = comes_at near.0 (end_h h) (Starts sync)

        good : AreGood near.0.sites
        good = (comes_reads t w k.orderly k.up (record { sites = k.sites; reads_so = k.controller }) (end_c h) (Starts power)).sites

        leaves : (far.0.controller ≡ near.0.controller) × AreFar far.1
        leaves =
            by_coming (λ p. (p.0.controller ≡ near.0.controller) × AreFar p.1) near.0 (end_h h) (Starts sync) (refl, tt)
            (λ i at q. host_leaves near.0 good h (Starts sync) (steps (AtEnd h i)) (λ v b. steps_far (AtEnd h i) v b))
            (λ i at q. absurd (true≢false at))

  counts_old : (why : Loss) (h : ℕ) (o : Option Running) → AreOld age o → AreOld age (counts why h o)
  counts_old (Broken fault) h None a = tt
  counts_old (Broken fault) h (Some r) a = λ x n q. a x n (sym (noticed_counted h r.desks x) ∙ q)
  counts_old _ h o a = a

  lost_aged : (w : NodeWorld) → AreOld age w.controller → (e : End) (why : Loss) → AreAged age (frame_lost w e why).1 (frame_lost w e why).0.controller
  lost_aged w old e why =
      by_loss (λ p. AreAged age p.1 p.0.controller) w e why
      (λ z. grind arith)
      (λ z. far_aged age _ (counts why e.link w.controller) (quiet_far e.link (first_lost Controller why (link_to w.sites e.link).to_controller)
      (lost_quiet Controller why (link_to w.sites e.link).to_controller)) (counts_old why e.link w.controller old))

  memory_old : (w : NodeWorld) (n : ℕ) (m : Rattle.swp_base.specs.InMemory.Memory) → AreOld age w.controller → AreOld age (with_memory n m w).controller
  memory_old w n m old = by_memory (λ v. AreOld age v.controller) n w m (λ z. old) (λ z. old)

  -- the power goes
  cut_aged : (w : NodeWorld) (n : ℕ) → AreOld age w.controller → AreAged age (entry.Cut n ∷ []) (loses_power_at n w).controller
  cut_aged w n old = grind arith

  boots_aged : (w : NodeWorld) (n : ℕ) → AreOld age w.controller → AreAged age (boots w n).1 (boots w n).0.controller
  boots_aged w n old =
      by_boot (λ p. AreAged age p.1 p.0.controller) w n (cut_aged (boot_written w n) n (memory_old w n _ old))
      (by_running (λ v. AreAged age (entry.Booted n (count_of (boot_found w n).core.journal) ∷ []) v.controller) n (boot_written w n) (boot_found w n)
      (λ z x m q. let none : None ≡ Some m = sym (none_noticed (Rattle.node_machine.specs.world.World.links_of w n) x) ∙ q in absurd (cc none))
      (λ z. far_aged age (entry.Booted n (count_of (boot_found w n).core.journal) ∷ []) (boot_written w n).controller (z, tt) (memory_old w n _ old)))

-- ### Ticks

host_far : (s : Site) → IfHostNode s.node → AreFar (Rattle.node_machine.specs.world.World.host_ticks s).1
host_far s node =
    Rattle.node_machine.proofs.world.Cases.by_host_tick (λ p. AreFar p.1) s (λ q. tt)
    (λ r q.
    let begun : Work = work_of r s.memory.plan (λ h. s.link.host) [] in
    let far : IsFarWork (steps TimePasses begun) = steps_far TimePasses begun (record { number = subst IfHostNode q node; far = tt }) in
    far-append (steps TimePasses begun).entries _ far.far (frames_quiet Host s.host (exchanged s.link) (steps TimePasses begun)))

hosts_far : (sites : List Site) → AllByRecursion (λ (s : Site). IfHostNode s.node) sites → AreFar (hosts_tick sites).1
hosts_far [] a = tt
hosts_far (s ∷ sites) a = far-append (Rattle.node_machine.specs.world.World.host_ticks s).1 (hosts_tick sites).1 (host_far s a.0) (hosts_far sites a.1)

ticks_aged : (age : ℕ → ℕ) (t : List Entry) (w : NodeWorld) → KeepsNotices t w → AreOld age w.controller
    → AreAged (λ x. age x + 1) (world_ticks w).1 (world_ticks w).0.controller
ticks_aged age t w k old =
    far_before base aged.1 (near.1 ++ (hosts_tick near.0.sites).1) near.0.controller (aged_far t w k.orderly k.up reads)
    (far_behind base near.1 (hosts_tick near.0.sites).1 near.0.controller (hosts_far near.0.sites nodes) first) where
      base : ℕ → ℕ
      base x = age x + 1

      aged : NodeWorld × List Entry
      aged = all_aged w

      near : NodeWorld × List Entry
      near = controller_ticks aged.0

      reads : Reads t w
      reads = record { sites = k.sites; reads_so = k.controller }

      first : AreAged base near.1 near.0.controller
      first =
          by_controller_tick (λ p. AreAged base p.1 p.0.controller) aged.0
          (λ q. subst (AreAged base []) (sym q) tt)
          (λ r q.
          far_behind base (near_tick aged.0 r).entries _ (runs_on (near_tick aged.0 r))
          (far_flat (λ (s : Site). frames_noted Controller s.host s.link (near_tick aged.0 r)) (λ s. frames_quiet Controller s.host s.link (near_tick aged.0 r))
          aged.0.sites)
          (step_aged t w r (subst (IfItRuns 0 (hosts_in w.sites)) q k.orderly.controller) k.orderly.different (subst (IfNoticedUp w.sites) q k.up) k.sites
          (subst (IfReads t) q k.controller) w.memory.plan (λ h. (link_to aged.0.sites h).controller)
          (λ n. aged_side t w k.orderly k.up reads w.sites n) [] tt age (subst (AreOld age) q old) TimePasses tt))

      mapped : (f : Site → Site) → ((s : Site) → (f s).node ≡ s.node) → (sites : List Site) → AllByRecursion (λ (s : Site). IfHostNode s.node) sites
          → AllByRecursion (λ (s : Site). IfHostNode s.node) (map f sites)
      mapped f node [] q = tt
      mapped f node (s ∷ sites) q = (subst IfHostNode (sym (node s)) q.0, mapped f node sites q.1)

      good_nodes : (sites : List Site) → AreGood sites → AllByRecursion (λ (s : Site). IfHostNode s.node) sites
      good_nodes [] a = tt
      good_nodes (s ∷ sites) a = (a.0.node, good_nodes sites a.1)

      still : AllByRecursion (λ (s : Site). IfHostNode s.node) aged.0.sites
      still = mapped (λ (s : Site). record s { link = Rattle.link_laws.specs.messages.Links.aged s.link }) (λ s. refl) w.sites (good_nodes w.sites k.sites)

      nodes : AllByRecursion (λ (s : Site). IfHostNode s.node) near.0.sites
      nodes =
          by_controller_tick (λ p. AllByRecursion (λ (s : Site). IfHostNode s.node) p.0.sites) aged.0
          (λ q. mapped Rattle.node_machine.proofs.world.Cases.site_unticked (λ s. refl) aged.0.sites still)
          (λ r q. mapped (Rattle.node_machine.proofs.world.Cases.site_ticked (near_tick aged.0 r)) (λ s. refl) aged.0.sites still)

-- ### Whatever happens

event_aged : (age : ℕ → ℕ) (t : List Entry) (w : NodeWorld) (c : Happening) → KeepsNotices t w → AreOld age w.controller
    → AreAged (λ x. cond (is_tick c) (age x + 1) (age x)) (world_step w c).1 (world_step w c).0.controller
event_aged age t w (Boots n) k old = boots_aged age w n old
event_aged age t w (IsCut n) k old = cut_aged age w n old
event_aged age t w (Gives e m) k old = begins_aged age w k.sites old e.link (sending e.link m) (sending_own e.link m)
event_aged age t w (Inits e identity pipes) k old = begins_aged age w k.sites old e.link (beginning identity pipes) (beginning_own identity pipes)
event_aged age t w (Takes e) k old = comes_aged age t w k old e NextFrame
event_aged age t w (Loses e why) k old = lost_aged age w old e why
event_aged age t w Ticks k old = ticks_aged age t w k old
event_aged age t w (Resets e window) k old = comes_aged age t w k old e (AsksReset window)
event_aged age t w (Activates h sync power) k old = activates_aged age t w k old h sync power
event_aged age t w (Arms n plan) k old =
    far_aged age [] (world_step w (Arms n plan)).0.controller tt (memory_old age w n (record (memory_at w n) { plan = Some plan }) old)

-- ### Histories

pub aged_read : (past : List Occurrence) (w : NodeWorld) (c : Happening) → KeepsNotices (entries_in past) w → AgesAreRead past w.controller
    → AgesAreRead (past ++ occurs w c ∷ []) (world_step w c).0.controller
aged_read past w c k a = by_option (world_step w c).0.controller
    (λ q. rw q tt)
    (λ r q. rw q (let b = rw q at (event_aged (age_in past) (entries_in past) w c k (grind arith)) in
    λ x n q. ((b x n q).0 ∙ sym (fold-append (age_after x) 0 past (occurs w c ∷ [])), (b x n q).1)))
