-- What is read of creations over whatever happens in a world, and over the events of a schedule.
use Rattle.node_laws.proofs.Words.{Activates, AllByRecursion, AllKeep, AreAwaited, AreHosts, AreProper, Arms, AsksReset, AtController, AtEnd, Bare, Bool, Boots}
use Rattle.node_laws.proofs.Words.{Broken, Clf, Comes, Controller, CutOff, Deed, Desk, End, Ending, Entry, FollowsNodes, Gives, GoesOut, Happening, HasEnds}
use Rattle.node_laws.proofs.Words.{HasSetAside, Header, Host, IfAwaited, IfHostNode, IfItRuns, IfNoticedUp, Inits, IsCut, IsFew, IsHost, IsProperBook, IsReadSo}
use Rattle.node_laws.proofs.Words.{IsSentByHost, IsShut, KeepsCreations, KeepsNotices, Line, LineStep, Link, LinkEnd, LinkInput, List, Loses, Loss, MayBoot}
use Rattle.node_laws.proofs.Words.{MayHappen, Memory, NextFrame, NoInput, NodeHistory, NodeWorld, None, NumberedEnd, Occurrence, Option, Port, Reset, Resets}
use Rattle.node_laws.proofs.Words.{Role, Running, Site, Some, Starts, Step, Stops, Takes, Tick, Ticks, TimePasses, Turn, Work, [], activates, after_controller}
use Rattle.node_laws.proofs.Words.{after_host, after_input, after_planned, aged, aged_entries, all_aged, ap, append-nil, append_assoc, arith, arrival}
use Rattle.node_laws.proofs.Words.{asking_in, beginning, begins_with, book_in, boot_found, boot_writes, boot_written, boots, by_boot, by_coming, by_controller}
use Rattle.node_laws.proofs.Words.{by_counts, by_host, by_list, by_loss, by_memory, by_option, by_power, by_running, by_test, comes_at, comes_to, commands_in}
use Rattle.node_laws.proofs.Words.{cond, cond_both, cons_option, controller_cut, controller_does, controller_ticks, controller_work, count_of, counts}
use Rattle.node_laws.proofs.Words.{creation_in, creations_at, creations_of, deactivated, end_c, end_h, ending_of, entries_for, entries_in, eqb, eqb-true}
use Rattle.node_laws.proofs.Words.{errors_all, exchanged, false, filter_map, find, first_lost, flat_map, flat_map-append, found, frame_lost, frames_noted}
use Rattle.node_laws.proofs.Words.{happenings, happens, has_input, has_taken, host_cut, host_does, host_work, hosts_in, hosts_tick, input_of, is_late_at}
use Rattle.node_laws.proofs.Words.{is_waiting, length, link_after_controller, link_to, links_of, loses_power_at, map, memory_at, near_end_in, new_clf, new_desk}
use Rattle.node_laws.proofs.Words.{new_link_end, new_site, new_world, node_at, node_entries, not, occurrences_in, occurrences_of, option_map_or, port_at}
use Rattle.node_laws.proofs.Words.{port_for, refl, refusal_in, renewed, replicate, runs_on, seen_from, sending, sent_all, site_at, site_lost, started, steps}
use Rattle.node_laws.proofs.Words.{steps_at_controller, subst, sym, ticked_so, ticks_at_controller, true, true≢false, turned, turns_at, wires_for, with_error}
use Rattle.node_laws.proofs.Words.{with_memory, with_node, with_site, work_of, world_after, world_behind, world_step, world_ticks, written_off, ℕ, ◌&&◌, ◌++◌}
use Rattle.node_laws.proofs.Words.{◌-◌, ◌^◌, ◌∙◌, ◌∷◌, ◌≡◌, ◌≤◌}
use Rattle.node_laws.specs.creations.Creations.{of_asker}
use Rattle.node_laws.proofs.creations.Coming.{input_aside}
use Rattle.node_laws.proofs.creations.HostSides.{event_none, new_none}
use Rattle.node_laws.proofs.creations.Knowing.{IsBegun, Reads, begun_at, far_book, far_reading, new_ready, none_side, step_reads}
use Rattle.node_laws.proofs.creations.Outcomes.{proper_found}
use Rattle.node_laws.proofs.creations.Turning.{after_tick, near_made, near_side, tick_made, tick_side}
use Rattle.node_laws.proofs.kept.Doing.{book_more}
use Rattle.node_laws.proofs.kept.Ticking.{MayAllHappen, all_begin, few_front, line_may, world_goes}
use Rattle.node_laws.proofs.links.Blocks.{IsWithin, input_within, sent_within}
use Rattle.node_laws.proofs.notices.Events.{begins_read, event_read}
use Rattle.node_laws.proofs.notices.Near.{AreFar, AreGood, AreOwn, IsFarWork, all_do, all_tick, arrival_quiet, asking_more, beginning_own}
use Rattle.node_laws.proofs.notices.Near.{comes_reads as notices_come, far-append, far_flat, frames_quiet, good_at, good_map, link_shut, quiet_far, sending_own}
use Rattle.node_laws.proofs.notices.Near.{steps_far}
use Rattle.node_laws.proofs.notices.Steps.{here_shut, ticks_shut}
use Rattle.node_laws.proofs.readings.Noticed.{ending_is, far_side, hosts_tick_side, lost_side, side_map, side_with}
use Rattle.node_laws.proofs.readings.Turning.{IsQuiet}
use Rattle.node_laws.proofs.readings.Sites.{comes_outside, lost_quiet, near_end_side}
use Rattle.node_laws.proofs.telling.Events.{link_is, site_host, site_map}
use Rattle.node_laws.proofs.telling.Ticks.{wires_all}
use Rattle.node_laws.proofs.telling.Lasting.{AllMay, boots_may, history_holds, lines_last}
use Rattle.node_laws.proofs.turns.Nodes.{site_none}
use Rattle.trace_model.specs.declared.entry.Entry.TheVariants as entry

-- ## What is read of creations over whatever happens

-- ### Beside the controller

-- The controller's creations and its ends stay as others act, and what is noted tells of neither.
pub record Beside (w v : NodeWorld) (es : List Entry) : Type 0 where
  pub far : AreFar es
  pub creations : (x : ℕ) → creations_of v.controller x ≡ creations_of w.controller x
  pub due : AreAwaited w.controller → AreAwaited v.controller
  pub sides : (n : ℕ) → (link_to v.sites n).controller.side ≡ (link_to w.sites n).controller.side

beside_reads : (t : List Entry) (w v : NodeWorld) (es : List Entry) → Reads t w → Beside w v es → Reads (t ++ es) v
beside_reads t w v es a b = record {
  book = far_book t es b.far a.book;
  due = b.due a.due;
  read = λ x. subst (λ m. IsReadSo m (creations_of v.controller x)) (sym (far_reading x t es b.far))
      (subst (IsReadSo (asking_in t x)) (sym (b.creations x)) (a.read x));
  ends = grind arith;
}

abbrev pub BesideBy : NodeWorld → NodeWorld × List Entry → Type 0
BesideBy w p = Beside w p.0 p.1

stays : (w : NodeWorld) → Beside w w []
stays w = record { far = tt; creations = λ x. refl; due = λ a. a; sides = λ n. refl }

sites_beside : (w : NodeWorld) (h : ℕ) (f : Site → Site) (es : List Entry) → AreFar es → ((s : Site) → (f s).host ≡ s.host)
    → ((s : Site) → (f s).link.controller.side ≡ s.link.controller.side) → Beside w (record w { sites = with_site h f w.sites }) es
sites_beside w h f es far host side = record { far = far; creations = λ x. refl; due = λ a. a; sides = λ n. side_with h f host side w.sites n }

-- a host acts
host_beside : (w : NodeWorld) (h : ℕ) (comes : Comes) (f : Work → Work) → AreGood w.sites → ((k : Work) → IsFarWork k → IsFarWork (f k))
    → BesideBy w (host_does w h comes f)
host_beside w h comes f good keeps =
    by_host (BesideBy w) w h comes f (stays w)
    (λ s r here e.
    let k : Work = host_work s r comes f in
    let frames : List Entry = frames_noted Host h (wires_for (exchanged s.link) comes) k in
    let far : IsFarWork k =
    keeps (work_of r s.memory.plan (λ n. near_end_in (exchanged s.link) comes) (entries_for s.host (arrival Host (exchanged s.link) comes)))
    (record { number = subst IfHostNode e (good_at w.sites h s good here).node; far = arrival_quiet Host s.host (exchanged s.link) comes }) in
    sites_beside w h (after_host comes k) (k.entries ++ frames)
    (far-append k.entries frames far.far (frames_quiet Host h (wires_for (exchanged s.link) comes) k)) (λ z. refl)
    (λ z. far_side z.link (Step comes (turns_at k z.host) (ending_of k))))

pub far_beside : (w : NodeWorld) (e : End) (comes : Comes) → AreGood w.sites → e.at_host ≡ true → BesideBy w (comes_at w e comes)
far_beside w e comes good far = by_option (input_of (seen_from e (link_to w.sites e.link)) comes)
    (λ q. rw q (stays w))
    (λ i q. subst (BesideBy w) (sym (rw q (rw far refl))) (host_beside w e.link comes (steps (AtEnd e.link i)) good (λ k b. steps_far (AtEnd e.link i) k b)))

pub begins_beside : (w : NodeWorld) (h : ℕ) (deeds : List Deed) → AreGood w.sites → AreOwn deeds
    → BesideBy w (host_does w h NoInput (begins_with h deeds))
begins_beside w h deeds good own = host_beside w h NoInput (begins_with h deeds) good (λ k b. all_do h deeds k own b)

memory_beside : (w : NodeWorld) (n : ℕ) (m : Memory) → Beside w (with_memory n m w) []
memory_beside w n m =
    by_memory (λ v. Beside w v []) n w m (λ e. record { far = tt; creations = λ x. refl; due = λ a. a; sides = λ k. refl })
    (λ e. sites_beside w n (λ (s : Site). record s { memory = m }) [] tt (λ s. refl) (λ s. refl))

-- ### Losses

creations_counted : (h : ℕ) (desks : List Desk) (x : ℕ) → creations_at (with_error h desks) x ≡ creations_at desks x
creations_counted h desks x = ap (λ l. of_asker x l) (go desks) where
  go : (desks : List Desk) → filter_map (λ (d : Desk). creation_in d.notice) (with_error h desks)
      ≡ filter_map (λ (d : Desk). creation_in d.notice) desks
  go [] = refl
  go (d ∷ desks) = by_test (eqb d.host h)
      (λ q. rw q (ap (λ l. cons_option (creation_in d.notice) l) (go desks)))
      (λ q. rw q (ap (λ l. cons_option (creation_in d.notice) l) (go desks)))

counted_creations : (why : Loss) (h : ℕ) (o : Option Running) (x : ℕ) → creations_of (counts why h o) x ≡ creations_of o x
counted_creations (Broken fault) h None x = refl
counted_creations (Broken fault) h (Some r) x = creations_counted h r.desks x
counted_creations _ h o x = refl

counted_due : (why : Loss) (h : ℕ) (o : Option Running) → AreAwaited o → AreAwaited (counts why h o)
counted_due why h o a =
    by_counts AreAwaited why h o a (λ r q. errors_all (λ d. IfAwaited (creation_in d.notice)) (λ d n b. b) h r.desks (subst AreAwaited q a))

pub lost_beside : (w : NodeWorld) (e : End) (why : Loss) → BesideBy w (frame_lost w e why)
lost_beside w e why =
    by_loss (BesideBy w) w e why
    (λ b. sites_beside w e.link (λ (s : Site). record (site_lost e why s) { node = counts why e.link s.node })
    (entries_for e.link (first_lost Host why (link_to w.sites e.link).to_host))
    (quiet_far e.link (first_lost Host why (link_to w.sites e.link).to_host) (lost_quiet Host why (link_to w.sites e.link).to_host)) (λ s. refl)
    (λ s. lost_side e why s.link))
    (λ b. record {
      far = grind arith;
      creations = λ x. counted_creations why e.link w.controller x;
      due = counted_due why e.link w.controller;
      sides = λ n. side_with e.link (site_lost e why) (λ s. refl) (λ s. lost_side e why s.link) w.sites n;
    })

-- ### Power

none_asked : (hosts : List ℕ) (x : ℕ) → creations_at (map new_desk hosts) x ≡ []
none_asked [] x = refl
none_asked (h ∷ hosts) x = none_asked hosts x

new_due : (hosts : List ℕ) → AllByRecursion (λ (d : Desk). IfAwaited (creation_in d.notice)) (map new_desk hosts)
new_due [] = tt
new_due (h ∷ hosts) = (tt, new_due hosts)

-- the ends of a controller that loses its power are new
cut_ends : (sites : List Site) (n : ℕ)
    → HasSetAside [] (link_to (map (λ (s : Site). record s { link = happens s.link (AtController (Step NoInput [] CutOff)) }) sites) n).controller.side
cut_ends [] n = new_ready Bare
cut_ends (s ∷ sites) n = by_test (eqb s.host n)
    (λ is. rw is (new_ready (sent_all s.link.controller.side).role))
    (λ off. rw off (cut_ends sites n))

cut_reads : (t : List Entry) (w : NodeWorld) (n : ℕ) → Reads t w → Reads (t ++ entry.Cut n ∷ []) (loses_power_at n w)
cut_reads t w n a =
    by_power (Reads (t ++ entry.Cut n ∷ [])) n w
    (λ e. subst (λ m. Reads (t ++ entry.Cut m ∷ []) (controller_cut w)) (sym (eqb-true n 0 e)) near)
    (λ e. beside_reads t w (record w { sites = with_site n host_cut w.sites }) (entry.Cut n ∷ []) a
    (sites_beside w n host_cut (entry.Cut n ∷ []) (e, tt) (λ s. refl) (λ s. far_side s.link (Step NoInput [] CutOff))))
  where
    near : Reads (t ++ entry.Cut 0 ∷ []) (controller_cut w)
    near = record {
      book = subst IsProperBook (sym (book_more t (entry.Cut 0 ∷ []) 0)) a.book;
      due = tt;
      read = λ x. subst (λ m. IsReadSo m []) (sym (asking_more x t (entry.Cut 0 ∷ []))) tt;
      ends = λ x. cut_ends w.sites x;
    }

runs_reads : (t : List Entry) (w : NodeWorld) (n k : ℕ) (hosts content : List ℕ) → Reads t w → (eqb n 0 ≡ true → w.controller ≡ None)
    → Reads (t ++ entry.Booted n k ∷ []) (with_node n (found n hosts content) w)
runs_reads t w n k hosts content a off =
    by_running (Reads (t ++ entry.Booted n k ∷ [])) n w (found n hosts content)
    (λ e. subst (λ m. Reads (t ++ entry.Booted m k ∷ []) (record w { controller = Some (found n hosts content) })) (sym (eqb-true n 0 e)) (near (off e)))
    (λ e. beside_reads t w (record w { sites = with_site n (λ (s : Site). record s { node = Some (found n hosts content) }) w.sites })
    (entry.Booted n k ∷ []) a
    (sites_beside w n (λ (s : Site). record s { node = Some (found n hosts content) }) (entry.Booted n k ∷ []) (e, tt) (λ s. refl) (λ s. refl)))
  where
    near : w.controller ≡ None → Reads (t ++ entry.Booted 0 k ∷ []) (record w { controller = Some (found n hosts content) })
    near none = record {
      book = subst IsProperBook (sym (book_more t (entry.Booted 0 k ∷ []) 0)) (proper_found k (book_in t 0) a.book);
      due = new_due hosts;
      read = λ x. subst (λ m. IsReadSo m (creations_at (map new_desk hosts) x))
          (sym (asking_more x t (entry.Booted 0 k ∷ [])))
          (subst (IsReadSo (asking_in t x)) (sym (none_asked hosts x)) (subst (λ o. IsReadSo (asking_in t x) (creations_of o x)) none (a.read x)));
      ends = λ x. subst (λ l. HasSetAside l (link_to w.sites x).controller.side) (sym (none_asked hosts x))
          (subst (λ o. HasSetAside (creations_of o x) (link_to w.sites x).controller.side) none (a.ends x));
    }

boots_reads : (t : List Entry) (w : NodeWorld) (n : ℕ) → Reads t w → node_at w n ≡ None → Reads (t ++ (boots w n).1) (boots w n).0
boots_reads t w n a stands =
    by_boot (λ p. Reads (t ++ p.1) p.0) w n (cut_reads t (boot_written w n) n still)
    (runs_reads t (boot_written w n) n (count_of (boot_found w n).core.journal) (links_of w n) (memory_at w n).content still (written_off w n stands))
  where
    still : Reads t (boot_written w n)
    still = subst (λ l. Reads l (boot_written w n)) (append-nil t)
        (beside_reads t w (boot_written w n) [] a (memory_beside w n (after_planned (boot_writes (memory_at w n).content) (memory_at w n))))

-- ### The controller acts

-- an end of a controller that lost its power in a tick is new
tick_new : (l : Link) (late : Bool) (ts : List Turn)
    → (role : Role) × ((ticked_so l late ts CutOff).controller.side ≡ new_link_end (renewed role))
tick_new l late ts = by_test (late && not (is_waiting l.controller.side.shdlc))
    (λ q. rw q (
      (sent_all (turned (after_input l.controller.side (Reset None)) ts)).role,
      refl,
    ))
    (λ q. rw q (
      (sent_all (turned (after_input l.controller.side Tick) ts)).role,
      refl,
    ))

module _ (hosts : List ℕ) (are : AreHosts hosts) (t : List Entry) (w : NodeWorld) (kept : AllKeep hosts t w) (notices : KeepsNotices t w) (a : Reads t w) where
  sites_are : hosts_in w.sites ≡ hosts
  sites_are = kept.hosts_are

  all_hosts : AllByRecursion IsHost (hosts_in w.sites)
  all_hosts = subst (AllByRecursion IsHost) (sym sites_are) are.all

  shut_at : (n : ℕ) → IsShut (link_to w.sites n).controller.side
  shut_at n = link_shut w.sites n notices.sites

  rows_of : (r : Running) → w.controller ≡ Some r → AreProper r.core.tables.rows
  rows_of r e = grind arith

  -- a desk for each site
  has_desk : (r : Running) → HasEnds 0 (hosts_in w.sites) r → (x : ℕ) (s : Site) → site_at w.sites x ≡ Some s
      → (d : Desk) × (find (λ (d : Desk). eqb d.host x) r.desks ≡ Some d)
  has_desk r has x s q = go r.desks w.sites has.ends q where
    go : (desks : List Desk) (sites : List Site) → map (λ (d : Desk). d.host) desks ≡ hosts_in sites → site_at sites x ≡ Some s
        → (d : Desk) × (find (λ (d : Desk). eqb d.host x) desks ≡ Some d)
    go [] [] e z = absurd (cc z)
    go [] (y ∷ sites) e z = absurd (cc e)
    go (d ∷ desks) [] e z = absurd (cc z)
    go (d ∷ desks) (y ∷ sites) e z = by_test (eqb y.host x)
        (λ is. let here : eqb d.host x ≡ true = ap (λ n. eqb n x) one ∙ is in (d, rw here refl))
        (λ off. let found_it = go desks sites others (rw off at z) in
        (found_it.0, rw (ap (λ n. eqb n x) one ∙ off) found_it.1)) where
          one : d.host ≡ y.host
          one = cc

          others : map (λ (c : Desk). c.host) desks ≡ hosts_in sites
          others = cc

  ending_cut : (k : Work) → k.cut ≡ true → ending_of k ≡ CutOff
  ending_cut k e = rw e refl

  turns_of : (k : Work) (x : ℕ) (p : Port) → port_at k.ports x ≡ Some p → turns_at k x ≡ p.turns
  turns_of k x p e = ap (λ o. option_map_or (λ (q : Port). q.turns) o []) e

  -- an end of a controller that lost its power in a step is new
  step_new : (l : Link) (comes : Comes) (ts : List Turn) (i : LinkInput) → input_of l comes ≡ Some i
      → (role : Role) × ((steps_at_controller l comes ts CutOff).controller.side ≡ new_link_end (renewed role))
  step_new l NextFrame ts i e = by_list l.to_controller
      (λ q. let z : None ≡ Some i = rw q at e in absurd (cc z))
      (λ y ys q. let is : steps_at_controller l NextFrame ts CutOff ≡ has_taken l y ys ts CutOff = rw q refl in (grind arith))
  step_new l (AsksReset window) ts i e = ((sent_all (turned (after_input l.controller.side (Reset window)) ts)).role, refl)
  step_new l (Starts value) ts i e = ((sent_all (turned (started l.controller.side value) ts)).role, refl)
  step_new l Stops ts i e = ((sent_all (turned (deactivated l.controller.side) ts)).role, refl)
  step_new l NoInput ts i e = absurd (cc e)

  module _ (r : Running) (runs : w.controller ≡ Some r) (has : HasEnds 0 (hosts_in w.sites) r) (ups : IfNoticedUp w.sites (Some r)) where
    near_step : (h : ℕ) (comes : Comes) (i : LinkInput) → input_of (link_to w.sites h) comes ≡ Some i
        → Reads (t ++ (after_controller w h comes (controller_work w r h comes (steps (AtEnd h i)))).1)
        (after_controller w h comes (controller_work w r h comes (steps (AtEnd h i)))).0
    near_step h comes i input =
        step_reads t w r runs has notices.orderly.different all_hosts ups shut_at (rows_of r runs) a w.memory.plan near_ends same es
        (arrival_quiet Controller h (link_to w.sites h) comes) (AtEnd h i) (comes_outside (link_to w.sites h) comes i input) frames
        (far_flat (λ (s : Site). frames_noted Controller s.host (wires_for s.link (comes_to h comes s.host)) k)
        (λ s. frames_quiet Controller s.host (wires_for s.link (comes_to h comes s.host)) k) w.sites)
        (after_controller w h comes k).0 refl
        (λ x none. none_side (map (link_after_controller h comes k) w.sites) x (site_none (link_after_controller h comes k) (λ s. refl) w.sites x none))
        lost goes
      where
        near_ends : ℕ → NumberedEnd
        near_ends n = near_end_in (link_to w.sites n) (comes_to h comes n)

        same : (n : ℕ) → (near_ends n).side ≡ (link_to w.sites n).controller.side
        same n = near_end_side (link_to w.sites n) (comes_to h comes n)

        es : List Entry
        es = entries_for h (arrival Controller (link_to w.sites h) comes)

        k : Work
        k = controller_work w r h comes (steps (AtEnd h i))

        frames : List Entry
        frames = flat_map (λ (s : Site). frames_noted Controller s.host (wires_for s.link (comes_to h comes s.host)) k) w.sites

        input_at_site : (x : ℕ) (s : Site) → site_at w.sites x ≡ Some s → eqb x h ≡ true → input_of s.link comes ≡ Some i
        input_at_site x s q e =
            ap (λ l. input_of l comes) (sym (ap (link_to w.sites) (sym (eqb-true x h e)) ∙ link_is w.sites x s q)) ∙ input

        there : (x : ℕ) (s : Site) → site_at w.sites x ≡ Some s → (link_to (map (link_after_controller h comes k) w.sites) x).controller.side
            ≡ (steps_at_controller s.link (cond (eqb x h) comes NoInput) (turns_at k x) (ending_of k)).controller.side
        there x s q =
            ap (λ (l : Link). l.controller.side) (link_is (map (link_after_controller h comes k) w.sites) x (link_after_controller h comes k s)
            (site_map (link_after_controller h comes k) (λ y. refl) w.sites x s q))
            ∙ ap (λ n. (steps_at_controller s.link (cond (eqb n h) comes NoInput) (turns_at k n) (ending_of k)).controller.side) (site_host w.sites x s q)

        lost : (x : ℕ) (s : Site) → site_at w.sites x ≡ Some s → k.cut ≡ true
            → (role : Role) × ((link_to (map (link_after_controller h comes k) w.sites) x).controller.side ≡ new_link_end (renewed role))
        lost x s q e = by_test (eqb x h)
            (λ is. let one = step_new s.link comes (turns_at k x) i (input_at_site x s q is) in
            (one.0, now ∙ (ap (λ b. (steps_at_controller s.link (cond b comes NoInput) (turns_at k x) CutOff).controller.side) is ∙ one.1)))
            (λ off. (
              (sent_all (turned s.link.controller.side (turns_at k x))).role,
              now ∙ ap (λ b. (steps_at_controller s.link (cond b comes NoInput) (turns_at k x) CutOff).controller.side) off,
            )) where
              now : (link_to (map (link_after_controller h comes k) w.sites) x).controller.side
                  ≡ (steps_at_controller s.link (cond (eqb x h) comes NoInput) (turns_at k x) CutOff).controller.side
              now = there x s q ∙ ap (λ z. (steps_at_controller s.link (cond (eqb x h) comes NoInput) (turns_at k x) z).controller.side) (ending_cut k e)

        goes : (x : ℕ) (s : Site) → site_at w.sites x ≡ Some s → k.cut ≡ false
            → (p : Port) × (port_at k.ports x ≡ Some p) × ((link_to (map (link_after_controller h comes k) w.sites) x).controller.side ≡ sent_all p.side)
        goes x s q e =
            let d = has_desk r has x s q in
            let b : IsBegun t w r runs has notices.orderly.different all_hosts ups shut_at (rows_of r runs) a w.memory.plan near_ends same es
            (arrival_quiet Controller h (link_to w.sites h) comes) x (port_for (near_ends x) d.0) =
            begun_at t w r runs has notices.orderly.different all_hosts ups shut_at (rows_of r runs) a w.memory.plan near_ends same es
            (arrival_quiet Controller h (link_to w.sites h) comes) x d.0 d.1 in
            let p : Port = port_for (near_ends x) d.0 in
            let made = near_made x h i (work_of r w.memory.plan near_ends es) p b.here b.turns in
            let side : p.side ≡ s.link.controller.side = b.side ∙ ap (λ (l : Link). l.controller.side) (link_is w.sites x s q) in (
              made.port,
              made.here,
              there x s q
                  ∙ (ap (λ z. (steps_at_controller s.link (cond (eqb x h) comes NoInput) (turns_at k x) z).controller.side) (ending_is k e)
                  ∙ (near_side s.link h x comes i (turns_at k x) p b.host side (λ is. input_at_site x s q is)
                  ∙ (grind arith))),
            )

    near_tick : (es : List Entry) → Reads (t ++ es) w → Reads ((t ++ es) ++ (controller_ticks (all_aged w).0).1) (controller_ticks (all_aged w).0).0
    near_tick es before =
        rw runs
        (step_reads (t ++ es) w r runs has notices.orderly.different all_hosts ups shut_at
        (rows_of r runs) before w.memory.plan near_ends same [] tt TimePasses tt
        (flat_map (λ (s : Site). frames_noted Controller s.host s.link k) (all_aged w).0.sites)
        (far_flat (λ (s : Site). frames_noted Controller s.host s.link k) (λ s. frames_quiet Controller s.host s.link k) (all_aged w).0.sites)
        ticked_world refl
        (λ x none. none_side ticked_world.sites x (site_none ticked (λ s. refl) (map older w.sites) x (site_none older (λ s. refl) w.sites x none)))
        lost goes)
      where
        older : Site → Site
        older s = record s { link = aged s.link }

        near_ends : ℕ → NumberedEnd
        near_ends n = (link_to (all_aged w).0.sites n).controller

        same : (n : ℕ) → (near_ends n).side ≡ (link_to w.sites n).controller.side
        same n = side_map older (λ s. refl) (λ s. refl) w.sites n

        k : Work
        k = steps TimePasses (work_of r w.memory.plan near_ends [])

        ticked : Site → Site
        ticked s = record s { link = ticked_so s.link (is_late_at k s.host) (turns_at k s.host) (ending_of k) }

        ticked_world : NodeWorld
        ticked_world = record { memory = after_planned k.writes w.memory; controller = runs_on k; sites = map ticked (all_aged w).0.sites }

        there : (x : ℕ) (s : Site) → site_at w.sites x ≡ Some s → (link_to ticked_world.sites x).controller.side
            ≡ (ticked_so (aged s.link) (is_late_at k x) (turns_at k x) (ending_of k)).controller.side
        there x s q =
            ap (λ (l : Link). l.controller.side) (link_is ticked_world.sites x (ticked (older s))
            (site_map ticked (λ y. refl) (map older w.sites) x (older s) (site_map older (λ y. refl) w.sites x s q)))
            ∙ ap (λ n. (ticked_so (aged s.link) (is_late_at k n) (turns_at k n) (ending_of k)).controller.side) (site_host w.sites x s q)

        lost : (x : ℕ) (s : Site) → site_at w.sites x ≡ Some s → k.cut ≡ true
            → (role : Role) × ((link_to ticked_world.sites x).controller.side ≡ new_link_end (renewed role))
        lost x s q e =
            let one = tick_new (aged s.link) (is_late_at k x) (turns_at k x) in (
              one.0,
              there x s q
                  ∙ (ap (λ z. (ticked_so (aged s.link) (is_late_at k x) (turns_at k x) z).controller.side) (ending_cut k e) ∙ one.1),
            )

        goes : (x : ℕ) (s : Site) → site_at w.sites x ≡ Some s → k.cut ≡ false
            → (p : Port) × (port_at k.ports x ≡ Some p) × ((link_to ticked_world.sites x).controller.side ≡ sent_all p.side)
        goes x s q e =
            let d = has_desk r has x s q in
            let b : IsBegun (t ++ es) w r runs has notices.orderly.different all_hosts ups shut_at (rows_of r runs) before w.memory.plan near_ends same [] tt x
            (port_for (near_ends x) d.0) =
            begun_at (t ++ es) w r runs has notices.orderly.different all_hosts ups shut_at
            (rows_of r runs) before w.memory.plan near_ends same [] tt x d.0 d.1 in
            let p : Port = port_for (near_ends x) d.0 in
            let made = tick_made x (work_of r w.memory.plan near_ends []) p b.here b.turns in
            let side : p.side ≡ (aged s.link).controller.side = b.side ∙ ap (λ (l : Link). l.controller.side) (link_is w.sites x s q) in
            let late : is_late_at k x ≡ (after_tick p).late = ap (λ o. option_map_or (λ (q : Port). q.late) o false) made.here ∙ made.late_is in (
              made.port,
              made.here,
              there x s q
                  ∙ (ap (λ z. (ticked_so (aged s.link) (is_late_at k x) (turns_at k x) z).controller.side) (ending_is k e)
                  ∙ (ap (λ z. (ticked_so (aged s.link) z (turns_at k x) GoesOut).controller.side) late
                  ∙ (tick_side (aged s.link) (turns_at k x) p side b.late b.up (subst IsShut (sym b.side) (shut_at x))
                  ∙ (ap (λ ts. sent_all (turned (after_tick p).side ts)) (turns_of k x made.port made.here) ∙ ap sent_all (sym made.is))))),
            )

-- ## What a world keeps of the creations that wait over each event

nothing : (t : List Entry) (w : NodeWorld) → Reads t w → Reads (t ++ []) w
nothing t w a = subst (λ l. Reads l w) (sym (append-nil t)) a

-- ### Time

aged_far : (w : NodeWorld) → AreFar (all_aged w).1
aged_far w = far_flat (λ (s : Site). entries_for s.host (aged_entries Controller s.link.to_controller ++ aged_entries Host s.link.to_host))
    (λ s. quiet_far s.host (aged_entries Controller s.link.to_controller ++ aged_entries Host s.link.to_host)
    (wires_all IsQuiet (λ w c. tt) Controller Host s.link.to_controller s.link.to_host)) w.sites

-- an end of a controller that doesn't run has a tick
tick_ready : (e : LinkEnd) → HasSetAside [] e → HasSetAside [] (sent_all (after_input e Tick))
tick_ready e a =
    let b : IsWithin (sent_all (after_input e Tick)) =
    sent_within (after_input e Tick) (input_within e Tick (record { room = a.room; forgot = a.forgot })) in
    record { room = b.room; forgot = b.forgot; aside = input_aside e Tick tt ∙ a.aside; up = λ some. absurd (some refl) }

off_ends : (sites : List Site) (n : ℕ) → HasSetAside [] (link_to sites n).controller.side
    → HasSetAside [] (link_to (map (λ (s : Site). record s { link = ticks_at_controller s.link [] GoesOut }) sites) n).controller.side
off_ends [] n a = a
off_ends (s ∷ sites) n a = by_test (eqb s.host n)
    (λ is. let b : HasSetAside [] s.link.controller.side = rw is at a in rw is (tick_ready s.link.controller.side b))
    (λ off. let b : HasSetAside [] (link_to sites n).controller.side = rw off at a in rw off (off_ends sites n b))

ticked_good : (k : Work) (sites : List Site) → AreGood sites
    → AreGood (map (λ (s : Site). record s { link = ticked_so s.link (is_late_at k s.host) (turns_at k s.host) (ending_of k) }) sites)
ticked_good k sites a =
    good_map (λ (s : Site). record s { link = ticked_so s.link (is_late_at k s.host) (turns_at k s.host) (ending_of k) })
    (λ s b. record {
      host = b.host;
      node = b.node;
      shut = ticked_shut s.link (is_late_at k s.host) (turns_at k s.host) (ending_of k) b.shut;
    }) sites a
  where
    ticked_shut : (l : Link) (late : Bool) (ts : List Turn) (ending : Ending) → IsShut l.controller.side → IsShut (ticked_so l late ts ending).controller.side
    ticked_shut l late ts ending b =
        cond_both (late && not (is_waiting l.controller.side.shdlc)) (has_input l (Reset None) ts ending) (ticks_at_controller l ts ending)
        (λ (m : Link). IsShut m.controller.side) (λ _. here_shut l (Step (AsksReset None) ts ending) b) (λ _. ticks_shut l ts ending b)

pub aged_good : (w : NodeWorld) → AreGood w.sites → AreGood (all_aged w).0.sites
aged_good w a = good_map (λ (s : Site). record s { link = aged s.link }) (λ s b. record { host = b.host; node = b.node; shut = b.shut }) w.sites a

pub near_good : (w : NodeWorld) → AreGood w.sites → AreGood (controller_ticks w).0.sites
near_good w a = by_option w.controller
    (λ e. rw e (good_map (λ (s : Site). record s { link = ticks_at_controller s.link [] GoesOut })
    (λ s b. record { host = b.host; node = b.node; shut = ticks_shut s.link [] GoesOut b.shut }) w.sites a))
    (λ r e. rw e (ticked_good (steps TimePasses (work_of r w.memory.plan (λ h. (link_to w.sites h).controller) [])) w.sites a))

module _ (hosts : List ℕ) (are : AreHosts hosts) (t : List Entry) (w : NodeWorld) (kept : AllKeep hosts t w) (notices : KeepsNotices t w) (a : Reads t w) where
  controller_ticked : Reads (t ++ ((all_aged w).1 ++ (controller_ticks (all_aged w).0).1)) (controller_ticks (all_aged w).0).0
  controller_ticked =
      subst (λ l. Reads l (controller_ticks old).0) (append_assoc t es (controller_ticks old).1)
      (by_node w.controller refl notices.orderly.controller notices.up)
    where
      old : NodeWorld
      old = (all_aged w).0

      es : List Entry
      es = (all_aged w).1

      still : Reads (t ++ es) w
      still = beside_reads t w w es a (record { far = aged_far w; creations = λ x. refl; due = λ d. d; sides = λ n. refl })

      alone : NodeWorld
      alone = record old { sites = map (λ (s : Site). record s { link = ticks_at_controller s.link [] GoesOut }) old.sites }

      by_node : (o : Option Running) → w.controller ≡ o → IfItRuns 0 (hosts_in w.sites) o → IfNoticedUp w.sites o
          → Reads ((t ++ es) ++ (controller_ticks old).1) (controller_ticks old).0
      by_node (Some r) e has up = near_tick hosts are t w kept notices a r e has up es still
      by_node None e has up =
          rw e (nothing (t ++ es) alone (record {
            book = still.book;
            due = still.due;
            read = still.read;
            ends = λ x. subst (λ o. HasSetAside (creations_of o x) (link_to alone.sites x).controller.side) (sym e)
                (off_ends old.sites x (subst (HasSetAside []) (sym (side_map (λ (s : Site). record s { link = aged s.link }) (λ s. refl) (λ s. refl) w.sites x))
                (subst (λ o. HasSetAside (creations_of o x) (link_to w.sites x).controller.side) e (still.ends x))));
          }))

  ticks_reads : Reads (t ++ (world_ticks w).1) (world_ticks w).0
  ticks_reads =
      let old : NodeWorld × List Entry = all_aged w in
      let near : NodeWorld × List Entry = controller_ticks old.0 in
      let far : List Site × List Entry = hosts_tick near.0.sites in
      let hosts_so = all_tick near.0.sites (near_good old.0 (aged_good w notices.sites)) in
      subst (λ l. Reads l (record near.0 { sites = far.0 }))
      (append_assoc t (old.1 ++ near.1) far.1 ∙ ap (λ l. t ++ l) (append_assoc old.1 near.1 far.1))
      (beside_reads (t ++ (old.1 ++ near.1)) near.0 (record near.0 { sites = far.0 }) far.1 controller_ticked
      (record { far = hosts_so.1; creations = λ x. refl; due = λ d. d; sides = hosts_tick_side near.0.sites }))

  -- ### What comes

  near_reads : (h : ℕ) (comes : Comes) (i : LinkInput) → input_of (link_to w.sites h) comes ≡ Some i
      → Reads (t ++ (controller_does w h comes (steps (AtEnd h i))).1) (controller_does w h comes (steps (AtEnd h i))).0
  near_reads h comes i input =
      by_controller (λ p. Reads (t ++ p.1) p.0) w h comes (steps (AtEnd h i)) (nothing t w a)
      (λ r e. near_step hosts are t w kept notices a r e (subst (IfItRuns 0 (hosts_in w.sites)) e notices.orderly.controller)
      (subst (IfNoticedUp w.sites) e notices.up) h comes i input)

  comes_reads : (e : End) (comes : Comes) → Reads (t ++ (comes_at w e comes).1) (comes_at w e comes).0
  comes_reads e comes = by_test e.at_host
      (λ b. beside_reads t w (comes_at w e comes).0 (comes_at w e comes).1 a (far_beside w e comes notices.sites b))
      (λ b. by_coming (λ p. Reads (t ++ p.1) p.0) w e comes (nothing t w a) (λ i at q. absurd (true≢false (sym at ∙ b)))
      (λ i at q. near_reads e.link comes i q))

  activates_reads : (h sync power : ℕ) → Reads (t ++ (activates w h sync power).1) (activates w h sync power).0
  activates_reads h sync power =
      let near : NodeWorld × List Entry = comes_at w (end_c h) (Starts power) in
      let far : NodeWorld × List Entry = comes_at near.0 (end_h h) (Starts sync) in
      let good = notices_come t w notices.orderly notices.up (record { sites = notices.sites; reads_so = notices.controller }) (end_c h) (Starts power) in
      subst (λ l. Reads l far.0) (append_assoc t near.1 far.1)
      (beside_reads (t ++ near.1) near.0 far.0 far.1 (comes_reads (end_c h) (Starts power)) (far_beside near.0 (end_h h) (Starts sync) good.sites refl))

  -- ### Events

  by_host_of_worlds : (h : ℕ) (p : NodeWorld × List Entry) → Beside w p.0 p.1 → Reads (t ++ p.1) p.0
  by_host_of_worlds h p b = beside_reads t w p.0 p.1 a b

  event_reads : (c : Happening) → MayBoot w c → Reads (t ++ (world_step w c).1) (world_step w c).0
  event_reads (Boots n) may = boots_reads t w n a may
  event_reads (IsCut n) may = cut_reads t w n a
  event_reads (Gives e m) may = by_host_of_worlds e.link _ (begins_beside w e.link (sending e.link m) notices.sites (sending_own e.link m))
  event_reads (Inits e identity pipes) may =
      by_host_of_worlds e.link _ (begins_beside w e.link (beginning identity pipes) notices.sites (beginning_own identity pipes))
  event_reads (Takes e) may = comes_reads e NextFrame
  event_reads (Loses e why) may = by_host_of_worlds e.link _ (lost_beside w e why)
  event_reads Ticks may = ticks_reads
  event_reads (Resets e window) may = comes_reads e (AsksReset window)
  event_reads (Activates h sync power) may = activates_reads h sync power
  event_reads (Arms n plan) may = by_host_of_worlds n _ (memory_beside w n (record (memory_at w n) { plan = Some plan }))

so_far : (hosts : List ℕ) (t : List Entry) (w : NodeWorld) → KeepsCreations hosts t w → Reads t w
so_far hosts t w a = record { book = a.book; due = a.due; read = a.read; ends = a.ends }

pub event_keeps : (hosts : List ℕ) (t : List Entry) (w : NodeWorld) (c : Happening) → AreHosts hosts → KeepsCreations hosts t w → MayBoot w c → MayHappen w c
    → ((n : ℕ) → length (commands_in t n) ≤ 2 ^ 32 - 1) → KeepsCreations hosts (t ++ (world_step w c).1) (world_step w c).0
event_keeps hosts t w c are a boots may few =
    let b : Reads (t ++ (world_step w c).1) (world_step w c).0 = event_reads hosts are t w a.kept a.notices (so_far hosts t w a) c boots in
    record {
      kept = (world_goes hosts are t w c a.kept may few).keep;
      notices = event_read t w c a.notices boots;
      book = b.book;
      due = b.due;
      read = b.read;
      ends = b.ends;
      hosts_aside = event_none t w c a.notices (near_good (all_aged w).0 (aged_good w a.notices.sites)) a.hosts_aside;
    }

-- ### The beginning

new_ends : (content hosts : List ℕ) (n : ℕ) → HasSetAside [] (link_to (map (new_site content) hosts) n).controller.side
new_ends content [] n = new_ready Bare
new_ends content (h ∷ hosts) n = by_test (eqb h n) (λ is. rw is (new_ready (Clf new_clf))) (λ off. rw off (new_ends content hosts n))

pub begin_keeps : (hosts : List ℕ) → AreHosts hosts → KeepsCreations hosts [] (new_world hosts)
begin_keeps hosts are = record {
  kept = all_begin hosts;
  notices = begins_read hosts are;
  book = grind arith;
  due = tt;
  read = λ x. tt;
  ends = λ x. new_ends (replicate 65536 255) hosts x;
  hosts_aside = new_none (replicate 65536 255) hosts;
}

-- ## What is read of creations over the events of a schedule

-- what may happen to nodes and their memories
abbrev May : NodeWorld → Happening → Type 0
May w c = MayBoot w c × MayHappen w c

both_may : (causes : List Happening) (w : NodeWorld) → AllMay MayBoot w causes → MayAllHappen w causes → AllMay May w causes
both_may [] w a b = tt
both_may (c ∷ causes) w a b = ((a.0, b.0), both_may causes (world_step w c).0 a.1 b.1)

module _ (hosts : List ℕ) (are : AreHosts hosts) where
  -- while no node has more commands than a journal counts
  abbrev Holds : List Entry → NodeWorld → Type 0
  Holds t w = IsFew t → KeepsCreations hosts t w

  lasts : (t : List Entry) (w : NodeWorld) (c : Happening) → Holds t w → May w c → Holds (t ++ (world_step w c).1) (world_step w c).0
  lasts t w c holds may few =
      event_keeps hosts t w c are (holds (few_front t (world_step w c).1 few)) may.0 may.1 (λ n. few t (world_step w c).1 n refl)

  lines_may : (w : NodeWorld) (l : Line) → IsSentByHost l → refusal_in w l ≡ None → AllMay May w (happenings w l)
  lines_may w l sent none = both_may (happenings w l) w (boots_may w l tt none) (line_may hosts are w l sent none)

  begins : Holds [] (new_world hosts)
  begins few = begin_keeps hosts are

pub history_keeps : (header : Header) (lines : List Line) (t : NodeHistory) → FollowsNodes header lines t → AreHosts header.hosts.items
    → AllByRecursion IsSentByHost lines → IsFew (node_entries t) → (front back : List Occurrence) → occurrences_in t ≡ front ++ back
    → KeepsCreations header.hosts.items (entries_in front) (world_behind (new_world header.hosts.items) front)
history_keeps header lines t follows are sent few front back q =
    let hosts : List ℕ = header.hosts.items in
    history_holds (λ u w. IsFew u → KeepsCreations hosts u w) May IsSentByHost (lasts hosts are) (lines_may hosts are) header lines t follows (begins hosts are)
    sent front back q
    (few_front (entries_in front) (entries_in back) (subst IsFew (ap entries_in q ∙ flat_map-append (λ (o : Occurrence). o.entries) front back) few))

pub schedule_keeps : (header : Header) (lines : List Line) (t : NodeHistory) → FollowsNodes header lines t → AreHosts header.hosts.items
    → AllByRecursion IsSentByHost lines → IsFew (node_entries t)
    → KeepsCreations header.hosts.items (node_entries t) (world_after (new_world header.hosts.items) lines)
schedule_keeps header lines t follows are sent few =
    let hosts : List ℕ = header.hosts.items in
    let H : List Entry → NodeWorld → Type 0 = λ u w. IsFew u → KeepsCreations hosts u w in
    subst (λ l. H l (world_after (new_world hosts) lines))
    (ap (λ (steps : List LineStep). entries_in (flat_map (λ (s : LineStep). occurrences_of s.outcome) steps)) (sym follows.steps_are))
    (lines_last H May IsSentByHost (lasts hosts are) (lines_may hosts are) lines [] (new_world hosts) (begins hosts are) sent) few
