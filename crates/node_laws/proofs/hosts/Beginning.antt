-- What a host keeps between its steps is what is read, and so a step of it begins.
use Rattle.node_laws.proofs.Words.{Activates, AllByRecursion, AllKeep, AreDifferent, AreHosts, AreNoTurns, AreNotOf, ArePortsRead, Arms, AsksReset, AtEnd, Book}
use Rattle.node_laws.proofs.Words.{Bool, Boots, Comes, Deed, End, Entry, FollowsNodes, Gives, Happening, HasEnds, Header, HoldsInStep, Host, IfHostRuns, IfRuns}
use Rattle.node_laws.proofs.Words.{Init, Inits, IsCut, IsFew, IsFresh, IsHost, IsOf, IsOutside, IsPlain, IsSentByHost, IsSilent, Last, LeavesInit, Line, Link}
use Rattle.node_laws.proofs.Words.{LinkEnd, LinkInput, LinkState, List, Loses, Loss, Memory, Message, NextFrame, NoInput, NodeHistory, NodeInput, NodeWorld}
use Rattle.node_laws.proofs.Words.{None, NumberedEnd, Occurrence, Option, Orders, Plan, Port, Resets, Running, RunsSo, Sends, Site, SiteKeeps, SiteKeepsInit}
use Rattle.node_laws.proofs.Words.{SiteReads, Some, Starts, Takes, Ticks, TimePasses, Work, [], after_host, after_planned, aged, all_aged, ap, append-nil}
use Rattle.node_laws.proofs.Words.{append_assoc, arith, arrival, beginning, begins_with, book_after, book_in, boot_found, boot_writes, boot_written, boots}
use Rattle.node_laws.proofs.Words.{by_boot, by_coming, by_controller, by_controller_tick, by_host, by_host_tick, by_loss, by_memory, by_power, by_running}
use Rattle.node_laws.proofs.Words.{by_test, changed_if, comes_at, comes_to_pass, cond, cond-true, controller_does, controller_ticks, count_of, end_c, end_h}
use Rattle.node_laws.proofs.Words.{entries_for, entries_in, eq-eqb, eqb, eqb-true, exchanged, false, fold, frame_lost, frames_noted, fresh, has_come, holds_in}
use Rattle.node_laws.proofs.Words.{host_cut, host_does, host_tick, host_ticks, host_work, hosts_in, hosts_of_ends, hosts_tick, input_at, inr}
use Rattle.node_laws.proofs.Words.{is_command_message, last_after, last_in, loses_power_at, map, memory_at, near_end_in, near_tick, new_world, no_errors}
use Rattle.node_laws.proofs.Words.{node_entries, occurrences_in, option_map_or, order_of, own_side, port_at, refl, sending, site_at, site_ticked, site_unticked}
use Rattle.node_laws.proofs.Words.{steps, subst, sym, true, true≢false, waiting_at, wires_for, with_site, work_of, world_behind, world_step, world_ticks, ℕ}
use Rattle.node_laws.proofs.Words.{◌&&◌, ◌++◌, ◌+◌, ◌∙◌, ◌∷◌, ◌≡◌, ◌≤◌}
use Rattle.node_laws.specs.reply_passes.Counts.{commands_noted as commits}
use Rattle.node_laws.proofs.hosts.Knowing.{HasNone, HaveNone, begun_none, host_knows}
use Rattle.node_laws.proofs.hosts.Passes.{BeginsSo, errors_behind, zero}
use Rattle.node_laws.proofs.kept.Doing.{GoesOn_or_lost, book_more, last_more, plain_entries}
use Rattle.node_laws.proofs.kept.Events.{IsSame, comes_goes, keeps_same, plain_frames, runs_begun, step_keeps}
use Rattle.node_laws.proofs.kept.Stepping.{ready_fine, steps_fine}
use Rattle.node_laws.proofs.kept.Ticking.{aged_goes, moved, near_ticks}
use Rattle.node_laws.proofs.notices.Near.{all_ports}
use Rattle.node_laws.proofs.power.Steps.{AreOwn, Runs as Power}
use Rattle.node_laws.proofs.power.Events.{far_runs}
use Rattle.node_laws.proofs.read_steps.Knowing.{errors_ready}
use Rattle.node_laws.proofs.readings.Turning.{Runs, Stands, host_side, reads as order_reads}
use Rattle.node_laws.proofs.readings.Sites.{begun_stands, others_read}
use Rattle.node_laws.proofs.readings.Noting.{ready_stand}
use Rattle.node_laws.proofs.reply_passes.Ordered.{begun_at, mine, ms, port_begins, there_still}
use Rattle.node_laws.proofs.reply_passes.Roomy.{begun_grows, boot_grown, commits-append, generation_in, history_lasts, node_begins_grown, node_step_grown}
use Rattle.node_laws.proofs.reply_passes.Held.{AreNoBoots, begun_read_at, is_held_among, ports_held, steps_unbooted}
use Rattle.node_laws.proofs.telling.Events.{hosts_same_of_nodes as hosts_same, site_is}
use Rattle.node_laws.proofs.telling.Accounts.{AreUncut}
use Rattle.node_laws.proofs.turns.Passing.{AreStill, Goes, Known, goes-append, still_goes}
use Rattle.node_laws.proofs.views.Going.{Stands as InitStands, reads_init, ready_stand as ready_inits}
use Rattle.node_laws.proofs.views.Doing.{IsStill, Leaves, Right, reads_append}
use Rattle.node_laws.proofs.views.InitWorlds.{begun_stands as begun_inits, keep_same, leaves_all}
use Rattle.node_laws.proofs.views.Nodes.{IfKeeps, begun_right, leaves_kept}
use Rattle.node_laws.proofs.worlds.Resting.{idle_held, idle_still, others_idle}
use Rattle.node_laws.proofs.worlds.Due.{of_hosts}
use Rattle.trace_model.specs.declared.entry.Entry.TheVariants as entry

-- ## In a history the generation of each host's memory is at most one above the commands that were noted

-- the memory of a host behind these entries
abbrev pub IsGrownAt : List Entry → Site → Type 0
IsGrownAt t s = generation_in s.memory.content ≤ 1 + commits t

abbrev pub AreGrown : List Entry → List Site → Type 0
AreGrown t sites = AllByRecursion (IsGrownAt t) sites

abbrev ThenGrown : List Entry → NodeWorld × List Entry → Type 0
ThenGrown t p = AreGrown (t ++ p.1) p.0.sites

-- more entries tell of no fewer commands
more_grown : (t es : List Entry) (s : Site) → IsGrownAt t s → IsGrownAt (t ++ es) s
more_grown t es s a = let more = commits-append t es in omega (arith, a, more)

map_grown : (t es : List Entry) (f : Site → Site) → ((s : Site) → (f s).memory ≡ s.memory) → (sites : List Site) → AreGrown t sites
    → AreGrown (t ++ es) (map f sites)
map_grown t es f same [] a = tt
map_grown t es f same (s ∷ sites) a = (
  (let one = more_grown t es s a.0 in let is = ap (λ (m : Memory). generation_in m.content) (same s) in omega (arith, one, is)),
  map_grown t es f same sites a.1,
)

-- one site becomes so, and the others stay
module _ (t es : List Entry) (h : ℕ) (f : Site → Site) where
  off_grown : (sites : List Site) → AllByRecursion (λ k. eqb k h ≡ false) (hosts_in sites) → AreGrown t sites → AreGrown (t ++ es) (with_site h f sites)
  off_grown [] off a = tt
  off_grown (s ∷ sites) off a = (
    subst (λ b. IsGrownAt (t ++ es) (changed_if b f s)) (sym off.0) (more_grown t es s a.0),
    off_grown sites off.1 a.1,
  )

  with_grown : (sites : List Site) → AreDifferent (hosts_in sites) → ((s : Site) → site_at sites h ≡ Some s → IsGrownAt (t ++ es) (f s)) → AreGrown t sites
      → AreGrown (t ++ es) (with_site h f sites)
  with_grown [] d one a = tt
  with_grown (s ∷ sites) d one a = by_test (eqb s.host h)
      (λ q. (
        subst (λ b. IsGrownAt (t ++ es) (changed_if b f s)) (sym q) (one s (rw q refl)),
        off_grown sites (subst (λ n. AllByRecursion (λ k. eqb k n ≡ false) (hosts_in sites)) (eqb-true s.host h q) d.0) a.1,
      ))
      (λ q. (
        subst (λ b. IsGrownAt (t ++ es) (changed_if b f s)) (sym q) (more_grown t es s a.0),
        with_grown sites d.1 (λ x there. one x (rw q there)) a.1,
      ))

-- ### A step of a host

-- the host stands alone
one_host : (h : ℕ) → IsHost h → AreHosts (h ∷ [])
one_host h host = record { all = (host, tt); different = (tt, tt) }

runs_of : (t : List Entry) (s : Site) (r : Running) → SiteKeeps t s → s.node ≡ Some r → RunsSo s.host (s.host ∷ []) s.memory.content t r
runs_of t s r k q = subst (IfRuns s.host (s.host ∷ []) s.memory.content t) q k.runs

ends_more : (t es frames : List Entry) (n : ℕ) → n ≤ 1 + commits (t ++ es) → n ≤ 1 + commits (t ++ (es ++ frames))
ends_more t es frames n a =
    let one = commits-append t (es ++ frames) in let two = commits-append es frames in let three = commits-append t es in omega (arith, a, one, two, three)

comes_one : (t : List Entry) (s : Site) (r : Running) (comes : Comes) (h : ℕ) (i : LinkInput) (frames : List Entry) → IsHost s.host → SiteKeeps t s
    → IsGrownAt t s → s.node ≡ Some r
    → IsGrownAt (t ++ ((host_work s r comes (steps (AtEnd h i))).entries ++ frames)) (after_host comes (host_work s r comes (steps (AtEnd h i))) s)
comes_one t s r comes h i frames host k a q =
    let v : Work = host_work s r comes (steps (AtEnd h i)) in
    ends_more t v.entries frames (generation_in (after_planned v.writes s.memory).content)
    (node_step_grown s.host (inr host) (s.host ∷ []) (one_host s.host host) t s.memory r (runs_of t s r k q) a (λ n. near_end_in (exchanged s.link) comes)
    (entries_for s.host (arrival Host (exchanged s.link) comes)) (plain_entries s.host (arrival Host (exchanged s.link) comes)) (AtEnd h i))

tick_one : (t : List Entry) (s : Site) → IsHost s.host → SiteKeeps t s → IsGrownAt t s → IsGrownAt (t ++ (host_ticks s).1) (host_ticks s).0
tick_one t s host k a =
    by_host_tick (λ p. IsGrownAt (t ++ p.1) p.0) s (λ q. more_grown t [] s a)
    (λ r q. let v : Work = host_tick s r in
    ends_more t v.entries (frames_noted Host s.host (exchanged s.link) v) (generation_in (after_planned v.writes s.memory).content)
    (node_step_grown s.host (inr host) (s.host ∷ []) (one_host s.host host) t s.memory r (runs_of t s r k q) a (λ n. s.link.host) [] tt TimePasses))

-- ### Events

module _ (hosts : List ℕ) (are : AreHosts hosts) where
  sites_hosts : (t : List Entry) (w : NodeWorld) → AllKeep hosts t w → AllByRecursion (λ (s : Site). IsHost s.host) w.sites
  sites_hosts t w all = of_hosts IsHost w.sites (subst (AllByRecursion IsHost) (sym all.hosts_are) are.all)

  sites_differ : (t : List Entry) (w : NodeWorld) → AllKeep hosts t w → AreDifferent (hosts_in w.sites)
  sites_differ t w all = subst AreDifferent (sym all.hosts_are) are.different

  module _ (t : List Entry) (w : NodeWorld) (before : AreGrown t w.sites) (all : AllKeep hosts t w) where
    nothing : ThenGrown t (w, [])
    nothing = subst (λ l. AreGrown l w.sites) (sym (append-nil t)) before

    at_site : (h : ℕ) (s : Site) → site_at w.sites h ≡ Some s → IsGrownAt t s
    at_site h s here = site_is (IsGrownAt t) w.sites h s before here

    near_does : (h : ℕ) (comes : Comes) (f : Work → Work) → ThenGrown t (controller_does w h comes f)
    near_does h comes f = by_controller (ThenGrown t) w h comes f nothing (λ r q. map_grown t _ _ (λ s. refl) w.sites before)

    far_does : (h : ℕ) (comes : Comes) (i : LinkInput) → ThenGrown t (host_does w h comes (steps (AtEnd h i)))
    far_does h comes i =
        by_host (ThenGrown t) w h comes (steps (AtEnd h i)) nothing
        (λ s r here q.
        let v : Work = host_work s r comes (steps (AtEnd h i)) in
        let frames : List Entry = frames_noted Host h (wires_for (exchanged s.link) comes) v in
        with_grown t (v.entries ++ frames) h (after_host comes v) w.sites (sites_differ t w all)
        (λ x there.
        let both : Some s ≡ Some x = sym here ∙ there in
        let one : s ≡ x = cc in
        subst (λ (y : Site). IsGrownAt (t ++ (v.entries ++ frames)) (after_host comes v y)) one
        (comes_one t s r comes h i frames (site_is (λ (y : Site). IsHost y.host) w.sites h s (sites_hosts t w all) here)
        (site_is (SiteKeeps t) w.sites h s all.sites here) (at_site h s here) q))
        before)

    -- a host does something of its own, and writes nothing
    far_begins : (h : ℕ) (deeds : List Deed)
        → ((s : Site) (r : Running) → (host_work s r NoInput (begins_with h deeds)).writes ≡ []) → ThenGrown t (host_does w h NoInput (begins_with h deeds))
    far_begins h deeds none =
        by_host (ThenGrown t) w h NoInput (begins_with h deeds) nothing
        (λ s r here q.
        let v : Work = host_work s r NoInput (begins_with h deeds) in
        map_grown t _ (λ (x : Site). changed_if (eqb x.host h) (after_host NoInput v) x)
        (λ x. by v (none s r) x (eqb x.host h)) w.sites before)
      where
        by : (v : Work) → v.writes ≡ [] → (x : Site) (b : Bool) → (changed_if b (after_host NoInput v) x).memory ≡ x.memory
        by v none_written x b = grind arith

    comes_grown : (e : End) (comes : Comes) → ThenGrown t (comes_at w e comes)
    comes_grown e comes =
        by_coming (ThenGrown t) w e comes nothing (λ i at q. far_does e.link comes i) (λ i at q. near_does e.link comes (steps (AtEnd e.link i)))

    -- ### Power and memories

    changed_grown : (h : ℕ) (f : Site → Site) (es : List Entry) → ((s : Site) → (f s).memory ≡ s.memory) → AreGrown (t ++ es) (with_site h f w.sites)
    changed_grown h f es same =
        map_grown t es (λ (x : Site). changed_if (eqb x.host h) f x) (λ x. by x (eqb x.host h)) w.sites before where
          by : (x : Site) (b : Bool) → (changed_if b f x).memory ≡ x.memory
          by x b = grind arith

    memory_of : (n : ℕ) (s : Site) → eqb n 0 ≡ false → site_at w.sites n ≡ Some s → memory_at w n ≡ s.memory
    memory_of n s off here = rw (off, here) refl

    written : (n : ℕ) → AreGrown t (boot_written w n).sites
    written n =
        by_memory (λ v. AreGrown t v.sites) n w (after_planned (boot_writes (memory_at w n).content) (memory_at w n)) (λ z. before)
        (λ z. subst (λ l. AreGrown l (with_site n (λ s. record s { memory = after_planned (boot_writes (memory_at w n).content) (memory_at w n) }) w.sites))
        (append-nil t)
        (with_grown t [] n (λ s. record s { memory = after_planned (boot_writes (memory_at w n).content) (memory_at w n) }) w.sites (sites_differ t w all)
        (λ s here.
        let now = subst (λ (x : Memory). generation_in (after_planned (boot_writes x.content) x).content ≤ 1 + commits t) (sym (memory_of n s z here))
        (boot_grown s.memory (commits t) (site_is (SiteKeeps t) w.sites n s all.sites here).would.finds.size (at_site n s here)) in
        omega (arith, now, commits-append t []))
        before))

  -- the power of a node is cut
  loses_grown : (t : List Entry) (n : ℕ) (v : NodeWorld) → AreGrown t v.sites → ThenGrown t (loses_power_at n v, entry.Cut n ∷ [])
  loses_grown t n v a =
      by_power (λ u. ThenGrown t (u, entry.Cut n ∷ [])) n v (λ z. map_grown t (entry.Cut n ∷ []) _ (λ s. refl) v.sites a)
      (λ z. map_grown t (entry.Cut n ∷ []) (λ (x : Site). changed_if (eqb x.host n) host_cut x)
      (λ x. grind arith) v.sites a)

  boots_grown : (t : List Entry) (w : NodeWorld) (n : ℕ) → AreGrown t w.sites → AllKeep hosts t w → ThenGrown t (boots w n)
  boots_grown t w n a all =
      by_boot (ThenGrown t) w n (loses_grown t n (boot_written w n) (written t w a all n))
      (by_running (λ u. ThenGrown t (u, entry.Booted n (count_of (boot_found w n).core.journal) ∷ [])) n (boot_written w n) (boot_found w n)
      (λ z. more (entry.Booted n (count_of (boot_found w n).core.journal) ∷ []) (boot_written w n).sites (written t w a all n))
      (λ z. map_grown t (entry.Booted n (count_of (boot_found w n).core.journal) ∷ [])
      (λ (x : Site). changed_if (eqb x.host n) (λ (s : Site). record s { node = Some (boot_found w n) }) x) (λ x. by x (eqb x.host n)) (boot_written w n).sites
      (written t w a all n))) where
        by : (x : Site) (b : Bool) → (changed_if b (λ (s : Site). record s { node = Some (boot_found w n) }) x).memory ≡ x.memory
        by x b = grind arith

        more : (es : List Entry) (sites : List Site) → AreGrown t sites → AreGrown (t ++ es) sites
        more es [] b = tt
        more es (s ∷ sites) b = (more_grown t es s b.0, more es sites b.1)

  lost_grown : (t : List Entry) (w : NodeWorld) (e : End) (why : Loss) → AreGrown t w.sites → AllKeep hosts t w → ThenGrown t (frame_lost w e why)
  lost_grown t w e why a all =
      by_loss (ThenGrown t) w e why (λ at. changed_grown t w a all e.link _ _ (λ s. refl)) (λ at. changed_grown t w a all e.link _ _ (λ s. refl))

  arms_grown : (t : List Entry) (w : NodeWorld) (n : ℕ) (plan : Plan) → AreGrown t w.sites → AllKeep hosts t w → ThenGrown t (world_step w (Arms n plan))
  arms_grown t w n plan a all =
      by_memory (λ v. ThenGrown t (v, [])) n w (record (memory_at w n) { plan = Some plan }) (λ z. nothing t w a all)
      (λ z. with_grown t [] n (λ s. record s { memory = record (memory_at w n) { plan = Some plan } }) w.sites (sites_differ t w all)
      (λ s here.
      let is = ap (λ (m : Memory). generation_in m.content) (memory_of t w a all n s z here) in
      let one = more_grown t [] s (at_site t w a all n s here) in omega (arith, is, one)) a)

  -- ### Time

  -- what a host notes in its tick is its own
  tick_own : (t : List Entry) (s : Site) → IsHost s.host → SiteKeeps t s → AllByRecursion (IsOf s.host) (host_ticks s).1
  tick_own t s host k =
      by_host_tick (λ p. AllByRecursion (IsOf s.host) p.1) s (λ q. tt)
      (λ r q.
      let begun : Work = work_of r s.memory.plan (λ h. s.link.host) [] in
      let runs : RunsSo s.host (s.host ∷ []) s.memory.content t r = runs_of t s r k q in
      (step_keeps s.host (s.host ∷ []) t s.memory (steps TimePasses begun) (frames_noted Host s.host (exchanged s.link) (steps TimePasses begun))
      (steps_fine s.host (s.host ∷ []) s.memory t (inr host) (one_host s.host host) TimePasses begun
      (runs_begun s.host (s.host ∷ []) t s.memory r (λ h. s.link.host) [] tt runs) runs.on)
      (plain_frames Host s.host (exchanged s.link) (steps TimePasses begun))).2)

  hosts_grown : (u : List Entry) (sites : List Site) → AreDifferent (hosts_in sites) → AllByRecursion IsHost (hosts_in sites)
      → AllByRecursion (SiteKeeps u) sites → AreGrown u sites → AreGrown (u ++ (hosts_tick sites).1) (hosts_tick sites).0
  hosts_grown u [] d hs all a = tt
  hosts_grown u (s ∷ sites) d hs all a =
      let es : List Entry = (host_ticks s).1 in
      let later : List Entry = (hosts_tick sites).1 in
      let whole : (u ++ es) ++ later ≡ u ++ (es ++ later) = append_assoc u es later in (
        subst (λ l. IsGrownAt l (host_ticks s).0) whole (more_grown (u ++ es) later (host_ticks s).0 (tick_one u s hs.0 all.0 a.0)),
        subst (λ l. AreGrown l (hosts_tick sites).0) whole
            (hosts_grown (u ++ es) sites d.1 hs.1 (moved u (u ++ es) s.host es refl (tick_own u s hs.0 all.0) sites d.0 all.1)
            (others es sites a.1)),
      )
    where
      others : (es : List Entry) (xs : List Site) → AreGrown u xs → AreGrown (u ++ es) xs
      others es [] b = tt
      others es (x ∷ xs) b = (more_grown u es x b.0, others es xs b.1)

  ticks_grown : (t : List Entry) (w : NodeWorld) → AreGrown t w.sites → AllKeep hosts t w → ThenGrown t (world_ticks w)
  ticks_grown t w a all =
      let old : NodeWorld × List Entry = all_aged w in
      let near : NodeWorld × List Entry = controller_ticks old.0 in
      let far : List Site × List Entry = hosts_tick near.0.sites in
      let now : AllKeep hosts ((t ++ old.1) ++ near.1) near.0 = (near_ticks hosts are (t ++ old.1) old.0 ((aged_goes hosts are t w all).keep)).keep in
      let first : AreGrown (t ++ old.1) old.0.sites = map_grown t old.1 (λ (x : Site). record x { link = aged x.link }) (λ s. refl) w.sites a in
      let second : AreGrown ((t ++ old.1) ++ near.1) near.0.sites =
      by_controller_tick (λ p. AreGrown ((t ++ old.1) ++ p.1) p.0.sites) old.0
      (λ q. map_grown (t ++ old.1) [] site_unticked (λ s. refl) old.0.sites first)
      (λ r q. map_grown (t ++ old.1) _ (site_ticked (near_tick old.0 r)) (λ s. refl) old.0.sites first) in
      subst (λ l. AreGrown l far.0) (append_assoc (t ++ old.1) near.1 far.1 ∙ append_assoc t old.1 (near.1 ++ far.1))
      (hosts_grown ((t ++ old.1) ++ near.1) near.0.sites (sites_differ ((t ++ old.1) ++ near.1) near.0 now)
      (subst (AllByRecursion IsHost) (sym now.hosts_are) are.all) now.sites second)

  activates_grown : (t : List Entry) (w : NodeWorld) (h sync power : ℕ) → AreGrown t w.sites → AllKeep hosts t w
      → ThenGrown t (world_step w (Activates h sync power))
  activates_grown t w h sync power a all =
      let near : NodeWorld × List Entry = comes_at w (end_c h) (Starts power) in
      let far : NodeWorld × List Entry = comes_at near.0 (end_h h) (Starts sync) in
      subst (λ l. AreGrown l far.0.sites) (append_assoc t near.1 far.1)
      (comes_grown (t ++ near.1) near.0 (comes_grown t w a all (end_c h) (Starts power)) (comes_goes hosts are t w (end_c h) (Starts power) all).keep
      (end_h h) (Starts sync))

  event_sites : (t : List Entry) (w : NodeWorld) (c : Happening) → AreGrown t w.sites → AllKeep hosts t w → ThenGrown t (world_step w c)
  event_sites t w (Boots n) a all = boots_grown t w n a all
  event_sites t w (IsCut n) a all = loses_grown t n w a
  event_sites t w (Gives e m) a all = far_begins t w a all e.link (sending e.link m) (λ s r. by s r (eqb m.0 1 && is_command_message m.1)) where
    by : (s : Site) (r : Running) (b : Bool)
        → (host_work s r NoInput (begins_with e.link (cond b (Orders m.1 ∷ []) (Sends e.link m ∷ [])))).writes ≡ []
    by s r b = grind arith
  event_sites t w (Inits e identity pipes) a all = far_begins t w a all e.link (beginning identity pipes) (λ s r. refl)
  event_sites t w (Takes e) a all = comes_grown t w a all e NextFrame
  event_sites t w (Loses e why) a all = lost_grown t w e why a all
  event_sites t w Ticks a all = ticks_grown t w a all
  event_sites t w (Resets e window) a all = comes_grown t w a all e (AsksReset window)
  event_sites t w (Activates h sync power) a all = activates_grown t w h sync power a all
  event_sites t w (Arms n plan) a all = arms_grown t w n plan a all

new_grown : (hosts : List ℕ) → AreGrown [] (new_world hosts).sites
new_grown [] = tt
new_grown (h ∷ hosts) = let h0 = fresh 65536 (omega arith) in let h1 = new_grown hosts in grind arith

-- behind any first events of a history
pub history_sites : (header : Header) (lines : List Line) (t : NodeHistory) → FollowsNodes header lines t → AreHosts header.hosts.items
    → AllByRecursion IsSentByHost lines → IsFew (node_entries t) → (front back : List Occurrence) → occurrences_in t ≡ front ++ back
    → AreGrown (entries_in front) (world_behind (new_world header.hosts.items) front).sites
history_sites header lines t follows are sent few front back parts =
    history_lasts (λ l w. AreGrown l w.sites) header lines t follows are sent few (λ l w c a all. event_sites header.hosts.items are l w c a all)
    (new_grown header.hosts.items) front back parts

-- ## What a host keeps between its steps, over what other nodes note and do

-- ### Entries of other nodes

module _ (n : ℕ) where
  are_silent : (es : List Entry) → AreNotOf n es → AllByRecursion (IsSilent n) es
  are_silent [] a = tt
  are_silent (x ∷ es) a = (grind arith, are_silent es a.1)

  inits_left : (es : List Entry) → AreNotOf n es → AllByRecursion (LeavesInit n) es
  inits_left [] a = tt
  inits_left (x ∷ es) a = (grind arith, inits_left es a.1)

  pub init_stays : (es : List Entry) (i : Option Init) → AreNotOf n es → reads_init n es i ≡ i
  init_stays es i a = leaves_all n es i (inits_left es a)

  books_stay : (es : List Entry) (b : Book) → AreNotOf n es → fold (book_after n) b es ≡ b
  books_stay [] b a = refl
  books_stay (x ∷ es) b a = ap (λ c. fold (book_after n) c es) (grind arith) ∙ books_stay es b a.1

  lasts_stay : (es : List Entry) (l : Last) → AreNotOf n es → fold (last_after n) l es ≡ l
  lasts_stay [] l a = refl
  lasts_stay (x ∷ es) l a = ap (λ k. fold (last_after n) k es) (grind arith) ∙ lasts_stay es l a.1

  same_book : (t es : List Entry) → AreNotOf n es → IsSame n t (t ++ es)
  same_book t es a = record {
    book = book_more t es n ∙ books_stay es (book_in t n) a;
    last = last_more t es n ∙ lasts_stay es (last_in t n) a;
  }

-- ### A host

-- A host between its steps, behind these entries: what is read of its command, its init, REC_ERROR, its memory and the messages that wait is what it
-- keeps, and no block is set aside.
pub record HostStands (t : List Entry) (i : Option Init) (s : Site) : Type 0 where
  pub host : IsHost s.host
  pub order : SiteReads t s
  pub init : SiteKeepsInit i s
  pub errors : IfKeeps (end_h s.host) s.node (errors_behind s.host t)
  pub kept : SiteKeeps t s
  pub grown : IsGrownAt t s
  pub none : s.link.host.side.aside ≡ 0
  pub holds : (r : Running) → s.node ≡ Some r → holds_in t (end_h s.host) ≡ is_held_among r.desks s.host
  pub goes : (r : Running) → s.node ≡ Some r → Goes (end_h s.host) [] t s.link.host.side.got

-- it stands so while other nodes act
pub others_act : (t es : List Entry) (i : Option Init) (s : Site) (l : Link) → HostStands t i s → l.host.side ≡ s.link.host.side → AreNotOf s.host es
    → AllByRecursion (Leaves (end_h s.host)) es → HostStands (t ++ es) i (record s { link = l })
others_act t es i s l a same not leaves = record {
  host = a.host;
  order = others_read t es s (record s { link = l }) (are_silent s.host es not) refl refl same a.order;
  init = keep_same i s (record s { link = l }) refl refl same a.init;
  errors = subst (IfKeeps (end_h s.host) s.node) (sym (reads_append (end_h s.host) t es no_errors))
      (leaves_kept (end_h s.host) s.node (errors_behind s.host t) es leaves a.errors);
  kept = keeps_same s.host (s.host ∷ []) t (t ++ es) s.memory s.node (same_book s.host t es not) a.kept;
  grown = more_grown t es s a.grown;
  none = ap (λ (e : LinkEnd). e.aside) same ∙ a.none;
  holds = λ r q. idle_held (end_h s.host) t es (others_idle (end_h s.host) es not) ∙ a.holds r q;
  goes = λ r q. subst (Goes (end_h s.host) [] (t ++ es)) (ap (λ (e : LinkEnd). e.got) (sym same))
      (goes-append (end_h s.host) t es [] s.link.host.side.got s.link.host.side.got (a.goes r q)
      (still_goes (end_h s.host) es s.link.host.side.got (idle_still (end_h s.host) es (others_idle (end_h s.host) es not))));
}

-- ## A host has a step: as its pass begins, what it keeps is what is read

-- what is noted first in a step of a host tells nothing of what it keeps
pub record OpensQuietly (n : ℕ) (es : List Entry) : Type 0 where
  pub order : (c : Option (List ℕ)) → order_reads n es c ≡ c
  pub init : (y : Option Init) → reads_init n es y ≡ y
  pub errors : AllByRecursion (IsStill (end_h n)) es
  pub plain : AllByRecursion IsPlain es
  pub queue : AreStill (end_h n) es
  pub turns : AreNoTurns es
  pub boots : AreNoBoots es
  pub own : AreOwn n es
  pub uncut : AreUncut es

pub blank_opens : (n : ℕ) → OpensQuietly n []
blank_opens n = record { order = λ c. refl; init = λ y. refl; errors = tt; plain = tt; queue = tt; turns = tt; boots = tt; own = tt; uncut = tt }

module _ (u : List Entry) (i : Option Init) (s : Site) (a : HostStands u i s) (r : Running) (q : s.node ≡ Some r) (near_end : NumberedEnd)
    (side : near_end.side ≡ s.link.host.side) (es : List Entry) (opens : OpensQuietly s.host es) (input : NodeInput) (outside : IsOutside input) where
  abbrev pub start : Work
  start = work_of r s.memory.plan (λ k. near_end) es

  abbrev pub begun : Work
  begun = comes_to_pass input start

  abbrev n : ℕ
  n = s.host

  abbrev ends_of : ℕ → NumberedEnd
  ends_of k = near_end

  runs : RunsSo n (n ∷ []) s.memory.content u r
  runs = subst (IfRuns n (n ∷ []) s.memory.content u) q a.kept.runs

  has : HasEnds n (n ∷ []) r
  has = record { number = runs.number; ends = runs.hosts_are }

  its_side : own_side start.core ≡ Host
  its_side = host_side r.core n a.host runs.number

  -- ### What it keeps

  first_order : Runs n a.host u near_end.side.shdlc.phase start
  first_order =
      begun_stands u s a.host r (subst (IfHostRuns n s.link) q a.order.runs) (a.order.order ∙ ap order_of q)
      NoInput near_end es side opens.order

  first_inits : InitStands n a.host i near_end.side.shdlc.phase start
  first_inits = begun_inits s a.host i r q a.init near_end es side opens.init

  abbrev order_phase : LinkState
  order_phase = (has_come first_order.port (input_at input first_order.port)).side.shdlc.phase

  abbrev init_phase : LinkState
  init_phase = (has_come first_inits.base.port (input_at input first_inits.base.port)).side.shdlc.phase

  order_now : Stands n a.host u order_phase begun
  order_now = ready_stand n a.host u near_end.side.shdlc.phase input start outside first_order
      (subst (AllByRecursion IsFresh) first_order.is (grind arith)).0

  inits_now : InitStands n a.host i init_phase begun
  inits_now =
      ready_inits n a.host i near_end.side.shdlc.phase input start outside refl first_inits
      (subst (AllByRecursion IsFresh) first_inits.base.is (grind arith)).0

  errors_now : Right (end_h n) (n ∷ []) (errors_behind n u) begun
  errors_now =
      errors_ready (end_h n) (n ∷ []) (errors_behind n u) (λ far. refl) input start
      (begun_right (end_h n) (λ far. far_off) (n ∷ []) (λ far. refl) (errors_behind n u) r s.memory.plan ends_of es has opens.errors
      (λ near. absurd (true≢false near)) (subst (λ o. IfKeeps (end_h n) o (errors_behind n u)) q a.errors))
    where
      far_off : eqb n 0 ≡ false
      far_off = zero [] n a.host u i s.memory near_end.side.shdlc.phase near_end.side.shdlc.phase

  kept_now : GoesOn_or_lost n (n ∷ []) s.memory u begun
  kept_now =
      ready_fine n (n ∷ []) s.memory u (inr a.host) (one_host n a.host) input start (runs_begun n (n ∷ []) u s.memory r ends_of es opens.plain runs) runs.on

  none_now : HaveNone begun
  none_now = begun_none input start outside (record {
    number = ap (λ k. eqb k 0) runs.number ∙ zero [] n a.host u i s.memory near_end.side.shdlc.phase near_end.side.shdlc.phase;
    ends = all_ports HasNone ends_of (λ d. ap (λ (e : LinkEnd). e.aside) side ∙ a.none) r.desks;
  })

  -- ### What waits

  abbrev its_port : Port
  its_port = first_inits.base.port

  here : port_at start.ports n ≡ Some its_port
  here =
      ap (λ ps. port_at ps n) first_inits.base.is
      ∙ cond-true (eqb its_port.desk.host n) (Some its_port) None (eq-eqb its_port.desk.host n first_inits.base.at)

  different : AreDifferent (hosts_of_ends start.ports)
  different = subst AreDifferent (sym (hosts_same ends_of r.desks ∙ has.ends)) (tt, tt)

  opened : (its_port.turns ≡ []) × (its_port.side ≡ near_end.side)
  opened = port_begins ends_of r.desks n its_port here

  abbrev all : List Message
  all = ms n Host input outside start its_side different its_port here opened.0 opens.queue

  waiting_is : waiting_at begun.ports n ≡ all
  waiting_is =
      let at = begun_at n Host input outside start its_side different its_port here opened.0 opens.queue in
      let there = there_still input start n its_port here in
      let known = subst (Known (end_h n) Host true (mine n Host) its_port.side.got all all) there.1 at.port in
      ap (λ o. option_map_or (λ (p : Port). p.side.got) o []) there.1 ∙ known.1

  goes_now : Goes (end_h n) [] (u ++ begun.entries) (waiting_at begun.ports n)
  goes_now =
      let at = begun_at n Host input outside start its_side different its_port here opened.0 opens.queue in
      let got : s.link.host.side.got ≡ its_port.side.got = ap (λ (e : LinkEnd). e.got) (sym (opened.1 ∙ side)) in
      subst (Goes (end_h n) [] (u ++ begun.entries)) (sym waiting_is)
      (goes-append (end_h n) u begun.entries [] its_port.side.got all (subst (Goes (end_h n) [] u) got (a.goes r q)) at.goes)

  -- ### As its pass begins

  pub begins_so : begun.cut ≡ false → HoldsInStep (ArePortsRead Host u) input start → BeginsSo n a.host u i begun
  begins_so on read = record {
    memory = s.memory;
    order_phase = order_phase;
    init_phase = init_phase;
    knows = host_knows n a.host u i (errors_behind n u) s.memory order_phase init_phase begun on order_now inits_now errors_now kept_now;
    ends = λ v c. read on v c;
    none = none_now;
    grows = begun_grows u input start
        (node_begins_grown n (inr a.host) (n ∷ []) (one_host n a.host) u s.memory r runs a.grown ends_of es opens.plain);
    waits = goes_now;
    held = begun_read_at n Host u input start runs.number its_side opens.turns opens.boots n (a.holds r q ∙ sym (ports_held ends_of r.desks n));
  }

  pub power : Power n start
  power =
      far_runs n r s.memory.plan ends_of es (zero [] n a.host u i s.memory near_end.side.shdlc.phase near_end.side.shdlc.phase) has opens.own opens.uncut

  pub steps_boot : AreNoBoots (steps input start).entries
  steps_boot = steps_unbooted n Host input start runs.number its_side opens.boots
