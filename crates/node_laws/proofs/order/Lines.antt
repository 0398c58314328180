-- Whatever lines are played each link of the world is told, an activation of it, too, and nothing is told of links with strangers.
use Rattle.node_laws.proofs.Words.{Activates, AllByRecursion, AreHosts, ArePlayable, Arms, AsksReset, AtController, AtEnd, AtHost, Bare, Bool, Boots, Comes}
use Rattle.node_laws.proofs.Words.{Controller, CutOff, Deed, Desk, End, Ending, Entry, FollowsNodes, Gives, Happening, HasEnds, Header, Host, IfItRuns, IfOff}
use Rattle.node_laws.proofs.Words.{Inits, IsCut, IsLine, IsOrderly, IsPlayable, IsUicc, Line, LineStep, Link, LinkInput, List, Loses, Loss, Memory, NextFrame}
use Rattle.node_laws.proofs.Words.{NoInput, NodeHistory, NodeWorld, None, Noted, NoticesAreUp, NumberedEnd, Occurrence, Option, Resets, Running, Site, Some}
use Rattle.node_laws.proofs.Words.{Standing, Start, Starts, Step, Takes, Ticks, Turn, Uicc, Work, [], activates, after_controller, after_host, after_planned}
use Rattle.node_laws.proofs.Words.{aged, aged_entries, all_aged, ap, append-nil, append_assoc, arith, arrival, as_event_begins, as_event_ends, beginning}
use Rattle.node_laws.proofs.Words.{begins_with, boot_found, boot_writes, boot_written, boots, by_boot, by_coming, by_controller, by_controller_tick, by_host}
use Rattle.node_laws.proofs.Words.{by_loss, by_memory, by_option, by_power, by_running, by_test, changed_if, comes_at, comes_to, cond, controller_does}
use Rattle.node_laws.proofs.Words.{controller_ticks, controller_work, counts, end_c, end_h, ending_of, entries_for, entries_in, eqb-true, exchanged}
use Rattle.node_laws.proofs.Words.{fails_within, false, first_lost, flat_map, flat_map-append, fold-append, found, frame_lost, frames_at, frames_noted}
use Rattle.node_laws.proofs.Words.{from_start, happenings, happens, host_cut, host_does, host_work, hosts_in, hosts_tick, if_off, inactive, input_of, is_some}
use Rattle.node_laws.proofs.Words.{length, link_after_controller, link_to, loses_power_at, map, memory_at, near_end_in, near_tick, new_line, new_link}
use Rattle.node_laws.proofs.Words.{new_link_end, new_site, new_standing, new_uicc, new_world, occurrences_in, of_link, port_at, readiness_of, refl, refusal_in}
use Rattle.node_laws.proofs.Words.{replicate, same_number, sending, site_at, site_lost, site_ticked, site_unticked, standing, standing_behind, steps}
use Rattle.node_laws.proofs.Words.{steps_from, subst, sym, taken_of, true, true≢false, turns_at, unwrap_or, wires_for, with_memory, with_node, with_site}
use Rattle.node_laws.proofs.Words.{work_of, world_after, world_behind, world_step, world_ticks, ℕ, ◌++◌, ◌==◌, ◌∙◌, ◌∷◌, ◌≡◌}
use Rattle.node_laws.proofs.kept.Events.{hosts_same, hosts_with}
use Rattle.node_laws.proofs.links.Sites.{here_host}
use Rattle.node_laws.proofs.links.Worlds.{AreLasting, IsFineSite, MayHappen, plain_reach, repeated, runs_then, sending_fine, starts_fine, starts_then}
use Rattle.node_laws.proofs.links.Worlds.{step_fine, world_fine}
use Rattle.node_laws.proofs.links.Works.{steps_fine}
use Rattle.node_laws.proofs.order.Events.{Each, IsWell, Knows, after, begins_each, boots_each, comes_each, each_alike, each_known, host_each, later, lost_each}
use Rattle.node_laws.proofs.order.Events.{memory_each, power_each, was_there}
use Rattle.node_laws.proofs.order.Wires.{AreEmpty, empty_shown, started_empty, started_unready}
use Rattle.node_laws.proofs.order.Ticking.{ticks_each}
use Rattle.node_laws.proofs.order.Marking.{steps_none}
use Rattle.node_laws.proofs.order.Watches.{WatchedLink, opened, rewatched, untouched, unwatched, watch_begins, watch_ends, watched, watched-append}
use Rattle.node_laws.proofs.readings.Noticed.{event_up, lines_up, numbers}
use Rattle.node_laws.proofs.telling.Accounts.{AreMute, of-append, of_other}
use Rattle.node_laws.proofs.telling.Steps.{Away, away_steps, frames_of}
use Rattle.node_laws.proofs.telling.Events.{HostDoes, comes_goes, host_does_begin, host_does_step, link_is, ports_for, sending_mute, site_host, site_is}
use Rattle.node_laws.proofs.telling.Events.{site_map}
use Rattle.node_laws.proofs.telling.Lasting.{AllMay, EachHolds, behind_lines, events_of_steps, front_each, hosts_ticked, lines_each, new_orderly, occurs}
use Rattle.node_laws.proofs.telling.Lasting.{step_orderly}
use Rattle.node_laws.proofs.telling.Ticks.{away_tick}
use Rattle.node_laws.proofs.telling.WorldTicks.{aged_orderly, other_hosts, ticked_orderly}
use Rattle.trace_model.specs.declared.line.Line.TheVariants as line

-- ## An activation of a link, first at the controller's end and then at the host's, leaves each link told

-- ### At the controller's end

-- the wires of the link are empty as activation has begun at the controller's end
module _ (w : NodeWorld) (t : List Entry) (X : ℕ → WatchedLink) (a : IsWell w) (each : Each t X w) (h power : ℕ) where
  abbrev AreOpened : NodeWorld → Type 0
  AreOpened v = (s : Site) → site_at v.sites h ≡ Some s → AreEmpty s.link

  opened_so : (r : Running) → w.controller ≡ Some r
      → AreOpened (after_controller w h (Starts power) (controller_work w r h (Starts power) (steps (AtEnd h (Start power))))).0
  opened_so r runs s there =
      let v : Work = controller_work w r h (Starts power) (steps (AtEnd h (Start power))) in
      let was = was_there (link_after_controller h (Starts power) v) (λ x. refl) w.sites h s there in
      let l : Link = was.site.link in
      let b : Knows t (X h) w.controller h was.site = each h was.site was.there in
      let fine : IsFineSite was.site = site_is IsFineSite w.sites h was.site a.fine.sites was.there in
      let acts : l.controller.side.acts ≡ [] =
      subst (λ (k : Link). k.controller.side.acts ≡ []) b.told.run.is (from_start new_line IsLine b.told.events b.told.run.allowed).good.controller.now.acts in
      let Q : Comes → Type 0 = λ c. AreEmpty (happens l (AtController (Step c (turns_at v was.site.host) (ending_of v)))) in
      subst (λ (z : Site). AreEmpty z.link) was.is
      (subst (λ b. Q (cond b (Starts power) NoInput)) (sym (ap (λ n. n == h) (site_host w.sites h was.site was.there) ∙ same_number h))
      (started_empty l power (turns_at v was.site.host) (ending_of v) fine.link.line.clf acts))

begun_at : (b : Bool) (power : ℕ) (x : WatchedLink) → opened (cond b (Starts power) NoInput) x ≡ cond b (unwatched x) x
begun_at b power x = grind arith

-- how each link stands behind an event
abbrev pub behind : Happening → (ℕ → WatchedLink) → List Entry → ℕ → WatchedLink
behind c X u k = watch_ends k c (watched k (watch_begins k c (X k)) u)

-- activation has begun at both ends of a link, so neither is active
record AreUnready (l : Link) : Type 0 where
  near : readiness_of l.controller.side ≡ inactive
  far : readiness_of l.host.side ≡ inactive

-- so it is behind the step of the host
module _ (w : NodeWorld) (h sync : ℕ) (hosts : (s : Site) → site_at w.sites h ≡ Some s → IsUicc s.link.host.side.role)
    (off : (s : Site) → site_at w.sites h ≡ Some s → IfOff s.node (new_link_end (Uicc new_uicc)) s.link.host.side)
    (clean : (s : Site) → site_at w.sites h ≡ Some s → AreEmpty s.link) where
  abbrev begins : Work → Work
  begins = steps (AtEnd h (Start sync))

  abbrev AreAllUnready : NodeWorld → Type 0
  AreAllUnready z = (v : Site) → site_at z.sites h ≡ Some v → AreUnready v.link

  off_unready : (s : Site) → site_at w.sites h ≡ Some s → s.node ≡ None → AreUnready s.link
  off_unready s there none =
      let G : Option Running → Type 0 = λ o. IfOff o (new_link_end (Uicc new_uicc)) s.link.host.side in
      record { near = (clean s there).unready; far = ap readiness_of (subst G none (off s there)) }

  on_unready : (s : Site) → site_at w.sites h ≡ Some s → (ts : List Turn) (ending : Ending)
      → AreUnready (happens s.link (AtHost (Step (Starts sync) ts ending)))
  on_unready s there ts ending =
      record {
        near = ap (λ (e : NumberedEnd). readiness_of e.side) (here_host (exchanged s.link) (Step (Starts sync) ts ending)) ∙ (clean s there).unready;
        far = started_unready (exchanged s.link) sync ts ending (grind arith);
      }

  host_unready : AreAllUnready (host_does w h (Starts sync) begins).0
  host_unready = by_option (site_at w.sites h) (λ e. rw e (λ v found. absurd (cc found)))
      (λ s there. by_option s.node
      (λ n. rw (there, n) (λ v found.
      let one : s ≡ v = cc in
      let S : Site → Type 0 = λ y. AreUnready y.link in subst S one (off_unready s there n)))
      (λ r n. rw (there, n) (on_so s r there)))
    where
      after_site : Site → Running → Site → Site
      after_site s r = after_host (Starts sync) (host_work s r (Starts sync) begins)

      changed : Site → Running → Site → Site
      changed s r x = changed_if (x.host == h) (after_site s r) x

      keeps : (s : Site) (r : Running) (x : Site) → (changed s r x).host ≡ x.host
      keeps s r x = by_test (x.host == h) (λ q. rw q refl) (λ q. rw q refl)

      on_so : (s : Site) (r : Running) → site_at w.sites h ≡ Some s → AreAllUnready (record w { sites = with_site h (after_site s r) w.sites })
      on_so s r there v found =
          let now : Some (changed s r s) ≡ Some v = sym (site_map (changed s r) (keeps s r) w.sites h s there) ∙ found in
          let one : changed s r s ≡ v = cc in
          let here : (s.host == h) ≡ true = ap (λ n. n == h) (site_host w.sites h s there) ∙ same_number h in
          let work : Work = host_work s r (Starts sync) begins in
          let C : Bool → Type 0 = λ b. AreUnready (changed_if b (after_site s r) s).link in
          subst (λ (y : Site). AreUnready y.link) one (subst C (sym here) (on_unready s there (turns_at work s.host) (ending_of work)))

activates_each : (w : NodeWorld) (t : List Entry) (X : ℕ → WatchedLink) (h sync power : ℕ) → is_some w.controller ≡ true → IsWell w → Each t X w
    → Each (t ++ (activates w h sync power).1) (behind (Activates h sync power) X (activates w h sync power).1) (activates w h sync power).0
activates_each w t X h sync power runs a each = by_option w.controller
    (λ e. let q : false ≡ true = rw e at runs in absurd (true≢false (sym q)))
    (λ r e.
    let first : Each (t ++ near.1) Z near.0 = rw e (after w t X a each h (Starts power) (Start power) tt refl r e) in
    let clean : AreOpened w t X a each h power near.0 = rw e (opened_so w t X a each h power r e) in
    last
    (subst (λ (z : List Entry). Each z (λ k. watched k (watch_begins k (Activates h sync power) (X k)) (near.1 ++ far.1)) far.0) (append_assoc t near.1 far.1)
    (each_alike ((t ++ near.1) ++ far.1) (later Z far.1) (λ k. watched k (watch_begins k (Activates h sync power) (X k)) (near.1 ++ far.1)) far.0 alike
    (then_far first clean)))
    (host_unready near.0 h sync (λ s found. (site_is IsFineSite near.0.sites h s well.fine.sites found).link.line.uicc) (λ s found. (first h s found).far)
    clean))
  where
    near : NodeWorld × List Entry
    near = comes_at w (end_c h) (Starts power)

    far : NodeWorld × List Entry
    far = comes_at near.0 (end_h h) (Starts sync)

    well : IsWell near.0
    well = record { orderly = (comes_goes w (end_c h) (Starts power) a.orderly).orderly; fine = starts_fine w h power a.fine }

    Z : ℕ → WatchedLink
    Z k = watched k (opened (comes_to h (Starts power) k) (X k)) near.1

    unwatched_so : ((Z h).since ≡ false) × ((Z h).whole ≡ false)
    unwatched_so = let q = same_number h in (rw q refl, rw q refl)

    then_far : Each (t ++ near.1) Z near.0 → AreOpened w t X a each h power near.0 → Each ((t ++ near.1) ++ far.1) (later Z far.1) far.0
    then_far first clean =
        host_each near.0 (t ++ near.1) Z well first h (Starts sync) (steps (AtEnd h (Start sync))) (starts_then w h sync power runs a.fine)
        (λ s n found runs. host_does_step near.0 s n h well.orderly found runs (Starts sync) (Start sync) refl)
        (λ v b. steps_fine (AtEnd h (Start sync)) v b) (λ v b. steps_none (AtEnd h (Start sync)) v b) (Some (Start sync)) tt (λ s found. refl)
        (λ s found. empty_shown s.link (Z h) (clean s found) (first h s found).shown unwatched_so.0 unwatched_so.1)

    alike : (k : ℕ) → later Z far.1 k ≡ watched k (watch_begins k (Activates h sync power) (X k)) (near.1 ++ far.1)
    alike k =
        ap (λ x. watched k (watched k x near.1) far.1) (begun_at (k == h) power (X k))
        ∙ watched-append k (watch_begins k (Activates h sync power) (X k)) near.1 far.1

    -- both ends of the link are as they are read again
    last : Each (t ++ (near.1 ++ far.1)) (λ k. watched k (watch_begins k (Activates h sync power) (X k)) (near.1 ++ far.1)) far.0
        → ((v : Site) → site_at far.0.sites h ≡ Some v → AreUnready v.link)
        → Each (t ++ (near.1 ++ far.1)) (behind (Activates h sync power) X (near.1 ++ far.1)) far.0
    last all unready k v found = by (k == h) refl
      where
        x : WatchedLink
        x = watched k (watch_begins k (Activates h sync power) (X k)) (near.1 ++ far.1)

        b : Knows (t ++ (near.1 ++ far.1)) x far.0.controller k v
        b = all k v found

        by : (c : Bool) → (k == h) ≡ c → Knows (t ++ (near.1 ++ far.1)) (cond c (rewatched x) x) far.0.controller k v
        by false q = b
        by true q =
            let shut : AreUnready v.link = unready v (subst (λ (n : ℕ). site_at far.0.sites n ≡ Some v) (eqb-true k h q) found) in
            record {
              told = b.told;
              shown = record {
                wires = record { to_controller = b.shown.wires.to_controller; to_host = b.shown.wires.to_host };
                since = b.shown.since;
                ready = λ z. record { near = sym shut.near; far = sym shut.far };
              };
              near = b.near;
              far = b.far;
              none = b.none;
            }

-- ## Nothing is told of a link with a host that isn't in the world, and no host comes to it

-- ### Hosts stay

abbrev IsKept : NodeWorld → NodeWorld → Type 0
IsKept w v = hosts_in v.sites ≡ hosts_in w.sites

controller_kept : (w : NodeWorld) (k : ℕ) (comes : Comes) (f : Work → Work) → IsKept w (controller_does w k comes f).0
controller_kept w k comes f =
    by_controller (λ p. IsKept w p.0) w k comes f refl
    (λ r q. hosts_same (link_after_controller k comes (controller_work w r k comes f)) (λ s. refl) w.sites)

host_kept : (w : NodeWorld) (k : ℕ) (comes : Comes) (f : Work → Work) → IsKept w (host_does w k comes f).0
host_kept w k comes f =
    by_host (λ p. IsKept w p.0) w k comes f refl (λ s r found q. hosts_with k (after_host comes (host_work s r comes f)) (λ x. refl) w.sites)

comes_kept : (w : NodeWorld) (e : End) (comes : Comes) → IsKept w (comes_at w e comes).0
comes_kept w e comes =
    by_coming (λ p. IsKept w p.0) w e comes refl (λ i side q. host_kept w e.link comes (steps (AtEnd e.link i)))
    (λ i side q. controller_kept w e.link comes (steps (AtEnd e.link i)))

memory_kept : (n : ℕ) (m : Memory) (w : NodeWorld) → IsKept w (with_memory n m w)
memory_kept n m w = by_memory (IsKept w) n w m (λ z. refl) (λ z. hosts_with n (λ s. record s { memory = m }) (λ s. refl) w.sites)

power_kept : (n : ℕ) (w : NodeWorld) → IsKept w (loses_power_at n w)
power_kept n w =
    by_power (IsKept w) n w
    (λ z. hosts_same (λ (s : Site). record s { link = happens s.link (AtController (Step NoInput [] CutOff)) }) (λ s. refl) w.sites)
    (λ z. hosts_with n host_cut (λ s. refl) w.sites)

node_kept : (n : ℕ) (r : Running) (w : NodeWorld) → IsKept w (with_node n r w)
node_kept n r w = by_running (IsKept w) n w r (λ z. refl) (λ z. hosts_with n (λ s. record s { node = Some r }) (λ s. refl) w.sites)

boots_kept : (w : NodeWorld) (n : ℕ) → IsKept w (boots w n).0
boots_kept w n =
    let kept : IsKept w (boot_written w n) = memory_kept n (after_planned (boot_writes (memory_at w n).content) (memory_at w n)) w in
    by_boot (λ p. IsKept w p.0) w n (power_kept n (boot_written w n) ∙ kept) (node_kept n (boot_found w n) (boot_written w n) ∙ kept)

lost_kept : (w : NodeWorld) (e : End) (why : Loss) → IsKept w (frame_lost w e why).0
lost_kept w e why =
    by_loss (λ p. IsKept w p.0) w e why
    (λ side. hosts_with e.link (λ s. record (site_lost e why s) { node = counts why e.link s.node }) (λ s. refl) w.sites)
    (λ side. hosts_with e.link (site_lost e why) (λ s. refl) w.sites)

near_kept : (w : NodeWorld) → IsKept w (controller_ticks w).0
near_kept w =
    by_controller_tick (λ p. IsKept w p.0) w (λ q. hosts_same site_unticked (λ s. refl) w.sites)
    (λ r q. hosts_same (site_ticked (near_tick w r)) (λ s. refl) w.sites)

ticks_kept : (w : NodeWorld) → IsKept w (world_ticks w).0
ticks_kept w =
    hosts_ticked (controller_ticks (all_aged w).0).0.sites
    ∙ (near_kept (all_aged w).0 ∙ hosts_same (λ (s : Site). record s { link = aged s.link }) (λ s. refl) w.sites)

pub step_kept : (w : NodeWorld) (c : Happening) → IsKept w (world_step w c).0
step_kept w (Boots n) = boots_kept w n
step_kept w (IsCut n) = power_kept n w
step_kept w (Gives e m) = host_kept w e.link NoInput (begins_with e.link (sending e.link m))
step_kept w (Inits e identity pipes) = host_kept w e.link NoInput (begins_with e.link (beginning identity pipes))
step_kept w (Takes e) = comes_kept w e NextFrame
step_kept w (Loses e why) = lost_kept w e why
step_kept w Ticks = ticks_kept w
step_kept w (Resets e window) = comes_kept w e (AsksReset window)
step_kept w (Activates h sync power) =
    comes_kept (comes_at w (end_c h) (Starts power)).0 (end_h h) (Starts sync) ∙ comes_kept w (end_c h) (Starts power)
step_kept w (Arms n plan) = memory_kept n (record (memory_at w n) { plan = Some plan }) w

-- ### Nothing is told of another one

-- none of these has this number
abbrev pub IsStrange : ℕ → List ℕ → Type 0
IsStrange h hosts = AllByRecursion (λ n. (n == h) ≡ false) hosts

no_site : (sites : List Site) (h : ℕ) → IsStrange h (hosts_in sites) → site_at sites h ≡ None
no_site [] h a = refl
no_site (s ∷ sites) h a = let off = a.0 in rw off (no_site sites h a.1)

no_port : (near_ends : ℕ → NumberedEnd) (desks : List Desk) (hosts : List ℕ) (h : ℕ) → map (λ (d : Desk). d.host) desks ≡ hosts → IsStrange h hosts
    → port_at (ports_for near_ends desks) h ≡ None
no_port near_ends [] hosts h e a = refl
no_port near_ends (d ∷ desks) [] h e a = absurd (cc e)
no_port near_ends (d ∷ desks) (n ∷ hosts) h e a =
    let one : d.host ≡ n = cc in
    let others : map (λ (d : Desk). d.host) desks ≡ hosts = cc in
    rw (ap (λ x. x == h) one ∙ a.0) (no_port near_ends desks hosts h others a.1)

-- what is noted of sites, each of its own link
of_sites : (h : ℕ) (f : Site → List Entry) → ((x : Site) → (x.host == h) ≡ false → of_link h (f x) ≡ []) → (sites : List Site) → IsStrange h (hosts_in sites)
    → of_link h (flat_map f sites) ≡ []
of_sites h f one [] a = refl
of_sites h f one (x ∷ sites) a = of-append h (f x) (flat_map f sites) ∙ (ap (λ t. t ++ of_link h (flat_map f sites)) (one x a.0) ∙ of_sites h f one sites a.1)

module _ (h : ℕ) (w : NodeWorld) (orderly : IsOrderly w) (strange : IsStrange h (hosts_in w.sites)) where
  link_none : (k : ℕ) → (k == h) ≡ true → link_to w.sites k ≡ new_link Bare Bare
  link_none k q = rw (ap (site_at w.sites) (eqb-true k h q) ∙ no_site w.sites h strange) refl

  arrival_none : (k : ℕ) (comes : Comes) → of_link h (entries_for k (arrival Controller (link_to w.sites k) comes)) ≡ []
  arrival_none k comes = by_test (k == h)
      (λ q. ap (λ l. of_link h (entries_for k (arrival Controller l comes))) (link_none k q) ∙ ap (λ z. of_link h (entries_for k z)) (empty comes))
      (λ q. of_other k h (arrival Controller (link_to w.sites k) comes) q)
    where
      empty : (c : Comes) → arrival Controller (new_link Bare Bare) c ≡ []
      empty c = grind arith

  controller_none : (k : ℕ) (comes : Comes) (i : LinkInput) → of_link h (controller_does w k comes (steps (AtEnd k i))).1 ≡ []
  controller_none k comes i =
      by_controller (λ p. of_link h p.1 ≡ []) w k comes (steps (AtEnd k i)) refl
      (λ r z.
      let n : HasEnds 0 (hosts_in w.sites) r = subst (IfItRuns 0 (hosts_in w.sites)) z orderly.controller in
      let near_ends : ℕ → NumberedEnd = λ j. near_end_in (link_to w.sites j) (comes_to k comes j) in
      let v : Work = controller_work w r k comes (steps (AtEnd k i)) in
      let f : Site → List Entry = λ s. frames_noted Controller s.host (wires_for s.link (comes_to k comes s.host)) v in
      let away : Away h v = away_steps h k i (work_of r w.memory.plan near_ends (entries_for k (arrival Controller (link_to w.sites k) comes)))
      (record { none = no_port near_ends r.desks (hosts_in w.sites) h n.ends strange; told = arrival_none k comes }) in
      of-append h v.entries (flat_map f w.sites)
      ∙ (ap (λ t. t ++ of_link h (flat_map f w.sites)) away.told
      ∙ of_sites h f (λ x q. frames_of h x.host Controller (wires_for x.link (comes_to k comes x.host)) v q) w.sites strange))

  host_none : (k : ℕ) (comes : Comes) (f : Work → Work)
      → ((s : Site) (r : Running) → site_at w.sites k ≡ Some s → s.node ≡ Some r → HostDoes w k comes f s r)
      → of_link h (host_does w k comes f).1 ≡ []
  host_none k comes f does = by_test (k == h)
      (λ q. let none : site_at w.sites k ≡ None = ap (site_at w.sites) (eqb-true k h q) ∙ no_site w.sites h strange in rw none refl)
      (λ q. by_option (site_at w.sites k) (λ e. rw e refl)
      (λ s e. by_option s.node (λ n. rw (e, n) refl) (λ r n. (does s r e n).others h q)))

  comes_none : (e : End) (comes : Comes) → of_link h (comes_at w e comes).1 ≡ []
  comes_none e comes =
      by_coming (λ p. of_link h p.1 ≡ []) w e comes refl
      (λ i side q. host_none e.link comes (steps (AtEnd e.link i))
      (λ s n found runs. host_does_step w s n e.link orderly found runs comes i
      (ap (λ l. input_of (exchanged l) comes) (sym (link_is w.sites e.link s found)) ∙ q)))
      (λ i side q. controller_none e.link comes i)

  begins_none : (k : ℕ) (deeds : List Deed) → AreMute deeds → of_link h (host_does w k NoInput (begins_with k deeds)).1 ≡ []
  begins_none k deeds m = host_none k NoInput (begins_with k deeds) (λ s r found runs. host_does_begin w s r k orderly found runs deeds m)

  lost_none : (e : End) (why : Loss) → of_link h (frame_lost w e why).1 ≡ []
  lost_none e why =
      by_loss (λ p. of_link h p.1 ≡ []) w e why (λ side. here (λ l. first_lost Host why l.to_host) refl (e.link == h) refl)
      (λ side. here (λ l. first_lost Controller why l.to_controller) refl (e.link == h) refl)
    where
      here : (f : Link → List Noted) → f (new_link Bare Bare) ≡ [] → (c : Bool) → (e.link == h) ≡ c
          → of_link h (entries_for e.link (f (link_to w.sites e.link))) ≡ []
      here f none true q = ap (λ (l : Link). of_link h (entries_for e.link (f l))) (link_none e.link q) ∙ ap (λ z. of_link h (entries_for e.link z)) none
      here f none false q = of_other e.link h (f (link_to w.sites e.link)) q

  near_none : of_link h (controller_ticks w).1 ≡ []
  near_none =
      by_controller_tick (λ p. of_link h p.1 ≡ []) w (λ z. refl)
      (λ r z.
      let n : HasEnds 0 (hosts_in w.sites) r = subst (IfItRuns 0 (hosts_in w.sites)) z orderly.controller in
      let near_ends : ℕ → NumberedEnd = λ j. (link_to w.sites j).controller in
      let f : Site → List Entry = λ x. frames_noted Controller x.host x.link (near_tick w r) in
      let away : Away h (near_tick w r) = away_tick h (work_of r w.memory.plan near_ends [])
      (record { none = no_port near_ends r.desks (hosts_in w.sites) h n.ends strange; told = refl }) in
      of-append h (near_tick w r).entries (flat_map f w.sites)
      ∙ (ap (λ t. t ++ of_link h (flat_map f w.sites)) away.told
      ∙ of_sites h f (λ x q. frames_of h x.host Controller x.link (near_tick w r) q) w.sites strange))

ticks_none : (h : ℕ) (w : NodeWorld) → IsOrderly w → IsStrange h (hosts_in w.sites) → of_link h (world_ticks w).1 ≡ []
ticks_none h w orderly strange =
    of-append h (all_aged w).1 ((controller_ticks old).1 ++ far)
    ∙ (ap (λ t. t ++ of_link h ((controller_ticks old).1 ++ far)) aged_none
    ∙ (of-append h (controller_ticks old).1 far
    ∙ (ap (λ t. t ++ of_link h far) (near_none h old (aged_orderly w orderly) (old_strange))
    ∙ other_hosts h (controller_ticks old).0.sites (ticked_orderly w orderly).hosts (ticked_orderly w orderly).nodes
    (subst (IsStrange h) (sym (near_kept old)) old_strange))))
  where
    older : Site → Site
    older x = record x { link = aged x.link }

    old : NodeWorld
    old = (all_aged w).0

    far : List Entry
    far = (hosts_tick (controller_ticks old).0.sites).1

    old_strange : IsStrange h (hosts_in old.sites)
    old_strange = subst (IsStrange h) (sym (hosts_same older (λ x. refl) w.sites)) strange

    aged_none : of_link h (all_aged w).1 ≡ []
    aged_none =
        of_sites h (λ (s : Site). entries_for s.host (aged_entries Controller s.link.to_controller ++ aged_entries Host s.link.to_host))
        (λ x q. of_other x.host h (aged_entries Controller x.link.to_controller ++ aged_entries Host x.link.to_host) q) w.sites strange

step_none : (h : ℕ) (w : NodeWorld) (c : Happening) → IsOrderly w → IsStrange h (hosts_in w.sites) → of_link h (world_step w c).1 ≡ []
step_none h w (Boots n) a q = by_test (fails_within (length (boot_writes (memory_at w n).content)) (memory_at w n).plan) (λ q. rw q refl) (λ q. rw q refl)
step_none h w (IsCut n) a q = refl
step_none h w (Gives e m) a q = begins_none h w a q e.link (sending e.link m) (sending_mute e.link m)
step_none h w (Inits e identity pipes) a q = begins_none h w a q e.link (beginning identity pipes) (tt, (tt, tt))
step_none h w (Takes e) a q = comes_none h w a q e NextFrame
step_none h w (Loses e why) a q = lost_none h w a q e why
step_none h w Ticks a q = ticks_none h w a q
step_none h w (Resets e window) a q = comes_none h w a q e (AsksReset window)
step_none h w (Activates k sync power) a q =
    let near : NodeWorld × List Entry = comes_at w (end_c k) (Starts power) in
    of-append h near.1 (comes_at near.0 (end_h k) (Starts sync)).1
    ∙ (ap (λ t. t ++ of_link h (comes_at near.0 (end_h k) (Starts sync)).1) (comes_none h w a q (end_c k) (Starts power))
    ∙ comes_none h near.0 (comes_goes w (end_c k) (Starts power) a).orderly
    (subst (IsStrange h) (sym (comes_kept w (end_c k) (Starts power))) q) (end_h k) (Starts sync))
step_none h w (Arms n plan) a q = refl

-- ## Whatever lines are played, each link of the world is told

-- how each link stands behind these events, and of which of them it is known that nothing withheld the answer to a reset
abbrev pub watches : (ℕ → Bool) → List Occurrence → ℕ → WatchedLink
watches known os h = record { stands = standing_behind h os; since = known h; whole = true }

-- a world, and what happened until then
pub record IsSoSince (known : ℕ → Bool) (hosts : List ℕ) (os : List Occurrence) (w : NodeWorld) : Type 0 where
  pub hosts_are : hosts_in w.sites ≡ hosts
  pub well : IsWell w
  pub up : NoticesAreUp w
  pub each : Each (entries_in os) (watches known os) w
  pub strange : (h : ℕ) → IsStrange h hosts → of_link h (entries_in os) ≡ []

-- it is known of none of them
abbrev pub of_none : ℕ → Bool
of_none h = false

abbrev pub IsSo : List ℕ → List Occurrence → NodeWorld → Type 0
IsSo hosts os w = IsSoSince of_none hosts os w

-- a host isn't 00
pub host_number : (w : NodeWorld) (h : ℕ) (s : Site) → IsOrderly w → site_at w.sites h ≡ Some s → (h == 0) ≡ false
host_number w h s a found =
    ap (λ n. n == 0) (sym (site_host w.sites h s found)) ∙ site_is (λ (x : Site). (x.host == 0) ≡ false) w.sites h s a.hosts found

-- ### One thing that happens

module _ (known : ℕ → Bool) (hosts : List ℕ) where
  step_each : (w : NodeWorld) (os : List Occurrence) (c : Happening) → MayHappen w c → IsSoSince known hosts os w
      → Each (entries_in os ++ (world_step w c).1) (behind c (watches known os) (world_step w c).1) (world_step w c).0
  step_each w os (Boots n) m a = boots_each w (entries_in os) (watches known os) n a.well a.each
  step_each w os (IsCut n) m a = power_each n w (entries_in os) (watches known os) a.well a.each
  step_each w os (Gives e message) m a =
      begins_each w (entries_in os) (watches known os) e.link (sending e.link message) (sending_mute e.link message)
      (sending_fine e.link message m) (grind arith) a.well a.each
  step_each w os (Inits e identity pipes) m a =
      begins_each w (entries_in os) (watches known os) e.link (beginning identity pipes) (tt, (tt, tt)) (tt, (omega arith, tt)) (tt, (tt, tt)) a.well
      a.each
  step_each w os (Takes e) m a =
      comes_each w (entries_in os) (watches known os) e NextFrame a.well a.each tt (plain_reach e.link NextFrame tt w.sites) (λ x. refl)
  step_each w os (Loses e why) m a = lost_each w (entries_in os) (watches known os) e why a.each
  step_each w os Ticks m a = ticks_each w (entries_in os) (watches known os) a.well a.up a.each
  step_each w os (Resets e window) m a =
      comes_each w (entries_in os) (watches known os) e (AsksReset window) a.well a.each m (plain_reach e.link (AsksReset window) m w.sites) (λ x. refl)
  step_each w os (Activates h sync power) m a = activates_each w (entries_in os) (watches known os) h sync power m a.well a.each
  step_each w os (Arms n plan) m a = memory_each n (record (memory_at w n) { plan = Some plan }) w (entries_in os) (watches known os) a.each

  -- what happens withholds no answer of the links of which it is known
  abbrev pub LeavesKnown : NodeWorld → Happening → Type 0
  LeavesKnown w c = (h : ℕ) → known h ≡ true → (watched h (watch_begins h c untouched) (world_step w c).1).since ≡ true

  pub next_so : (os : List Occurrence) (w : NodeWorld) (c : Happening) → IsSoSince known hosts os w → MayHappen w c → LeavesKnown w c
      → IsSoSince known hosts (os ++ occurs w c ∷ []) (world_step w c).0
  next_so os w c a m leaves =
      let u : List Entry = (world_step w c).1 in
      let v : NodeWorld = (world_step w c).0 in
      let more : entries_in os ++ u ≡ entries_in (os ++ occurs w c ∷ []) =
      sym (flat_map-append (λ (o : Occurrence). o.entries) os (occurs w c ∷ []) ∙ ap (λ z. entries_in os ++ z) (append-nil u)) in
      let stands : (h : ℕ) → standing_behind h (os ++ occurs w c ∷ []) ≡ as_event_ends h c (standing h (as_event_begins h c (standing_behind h os)) u) = λ h.
      fold-append (λ (x : Standing) (o : Occurrence). as_event_ends h o.cause (standing h (as_event_begins h o.cause x) o.entries)) new_standing os
      (occurs w c ∷ []) in
      record {
        hosts_are = step_kept w c ∙ a.hosts_are;
        well = record { orderly = step_orderly w c a.well.orderly; fine = step_fine w c m a.well.fine };
        up = event_up w c a.well.orderly a.up;
        each = subst (λ (z : List Entry). Each z (watches known (os ++ occurs w c ∷ [])) v) more
            (each_known (entries_in os ++ u) (behind c (watches known os) u) (watches known (os ++ occurs w c ∷ [])) v
            (λ h. grind arith)
            (λ h k. grind arith)
            (λ h k. grind arith) (step_each w os c m a));
        strange = λ h q.
            ap (of_link h) (sym more)
            ∙ (of-append h (entries_in os) u
            ∙ (ap (λ z. z ++ of_link h u) (a.strange h q) ∙ step_none h w c a.well.orderly (subst (IsStrange h) (sym a.hosts_are) q)));
      }

module _ (hosts : List ℕ) where
  step_so : (os : List Occurrence) (w : NodeWorld) (c : Happening) → IsSo hosts os w → MayHappen w c
      → IsSo hosts (os ++ occurs w c ∷ []) (world_step w c).0
  step_so os w c a m = next_so of_none hosts os w c a m (λ h q. absurd (true≢false (sym q)))

-- ### Lines

-- what may happen in any world may happen here
lasting_may : (causes : List Happening) (w : NodeWorld) → AreLasting causes → AllMay MayHappen w causes
lasting_may [] w a = tt
lasting_may (c ∷ causes) w a = (a.0 w, lasting_may causes (world_step w c).0 a.1)

-- what a line that may be played causes may happen, where it isn't refused
pub line_may : (w : NodeWorld) (l : Line) → IsPlayable l → refusal_in w l ≡ None → AllMay MayHappen w (happenings w l)
line_may w (line.Send e pid message) p q = (p, tt)
line_may w (line.Deliver e count) p q =
    lasting_may (happenings w (line.Deliver e count)) w (repeated (taken_of count (frames_at w e)) (Takes e) (λ v. tt))
line_may w (line.Damage e places) p q = grind arith
line_may w (line.Tick times) p q = lasting_may (happenings w (line.Tick times)) w (repeated (unwrap_or times 1) Ticks (λ v. tt))
line_may w (line.Reset e window) p q = (p, tt)
line_may w (line.Busy e) p q = tt
line_may w (line.Ready e) p q = tt
line_may w (line.Activate host sync power) p q = (runs_then (is_some w.controller) (if_off w host) q, tt)
line_may w (line.Tables n) p q = tt
line_may w (line.Settle n) p q = tt
line_may w _ p q = (tt, tt)

-- ### Schedules

abbrev new_watch : WatchedLink
new_watch = record { stands = new_standing; since = false; whole = true }

new_each : (content : List ℕ) (hosts : List ℕ) (h : ℕ) (s : Site) → site_at (map (new_site content) hosts) h ≡ Some s → Knows [] new_watch None h s
new_each content [] h s q = absurd (cc q)
new_each content (k ∷ hosts) h s q = by_test (k == h)
    (λ e. grind arith)
    (λ e. (new_each content hosts h s) (rw e at q))

new_hosts : (hosts : List ℕ) → hosts_in (new_world hosts).sites ≡ hosts
new_hosts [] = refl
new_hosts (h ∷ hosts) = ap (λ l. h ∷ l) (new_hosts hosts)

-- a world in which nothing has happened yet
new_so : (hosts : List ℕ) → AreHosts hosts → IsSo hosts [] (new_world hosts)
new_so hosts are =
    record {
      hosts_are = new_hosts hosts;
      well = record { orderly = new_orderly hosts are.different (numbers hosts are.all); fine = world_fine hosts [] tt };
      up = lines_up hosts [] are;
      each = new_each (replicate 65536 255) hosts;
      strange = λ h q. refl;
    }

-- behind any first events of a history
pub history_so : (header : Header) (lines : List Line) (t : NodeHistory) → FollowsNodes header lines t → AreHosts header.hosts.items → ArePlayable lines
    → (front back : List Occurrence) → occurrences_in t ≡ front ++ back → IsSo header.hosts.items front (world_behind (new_world header.hosts.items) front)
history_so header lines t follows are p front back q =
    let hosts : List ℕ = header.hosts.items in
    let P : List Occurrence → Type 0 = λ events. EachHolds (IsSo hosts) MayHappen IsPlayable (step_so hosts) line_may [] (new_world hosts) events in
    front_each (IsSo hosts) MayHappen IsPlayable (step_so hosts) line_may front back [] (new_world hosts)
    (subst P (grind arith) (lines_each (IsSo hosts) MayHappen IsPlayable (step_so hosts) line_may lines [] (new_world hosts) (new_so hosts are) p))

-- behind all of them
pub all_so_behind : (header : Header) (lines : List Line) (t : NodeHistory) → FollowsNodes header lines t → AreHosts header.hosts.items → ArePlayable lines
    → IsSo header.hosts.items (occurrences_in t) (world_behind (new_world header.hosts.items) (occurrences_in t))
all_so_behind header lines t follows are p = history_so header lines t follows are p (occurrences_in t) [] (sym (append-nil (occurrences_in t)))

-- the world behind all events of a history is the one behind its lines
pub behind_history : (header : Header) (lines : List Line) (t : NodeHistory) → FollowsNodes header lines t
    → world_behind (new_world header.hosts.items) (occurrences_in t) ≡ world_after (new_world header.hosts.items) lines
behind_history header lines t follows =
    ap (λ (steps : List LineStep). world_behind (new_world header.hosts.items) (events_of_steps steps)) follows.steps_are
    ∙ behind_lines lines (new_world header.hosts.items)

-- ## A world of nodes keeps its hosts, whatever lines are played

behind_kept : (events : List Occurrence) (w : NodeWorld) → hosts_in (world_behind w events).sites ≡ hosts_in w.sites
behind_kept [] w = refl
behind_kept (o ∷ events) w = behind_kept events (world_step w o.cause).0 ∙ step_kept w o.cause

new_hosts_of_hosts_stay : (content hosts : List ℕ) → hosts_in (map (new_site content) hosts) ≡ hosts
new_hosts_of_hosts_stay content [] = refl
new_hosts_of_hosts_stay content (h ∷ hosts) = ap (λ (hs : List ℕ). h ∷ hs) (new_hosts_of_hosts_stay content hosts)

pub hosts_stay : (lines : List Line) (w : NodeWorld) → hosts_in (world_after w lines).sites ≡ hosts_in w.sites
hosts_stay lines w = ap (λ (v : NodeWorld). hosts_in v.sites) (sym (behind_lines lines w)) ∙ behind_kept (events_of_steps (steps_from w lines)) w

-- so behind any lines it has those of its header
pub hosts_stay_behind : (header : Header) (lines : List Line) → hosts_in (world_after (new_world header.hosts.items) lines).sites ≡ header.hosts.items
hosts_stay_behind header lines = hosts_stay lines (new_world header.hosts.items) ∙ new_hosts_of_hosts_stay (replicate 65536 255) header.hosts.items
