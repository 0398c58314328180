-- What waits at each end of a world over whatever happens there and behind any lines; messages have their turns in order.
use Rattle.std.proofs.Math.Bool.{and-false}
use Rattle.node_laws.proofs.Words.{Activates, AllByRecursion, AreDifferent, AreInTurn, Arms, AsksReset, AtController, AtEnd, Bool, Boots, Comes, Controller}
use Rattle.node_laws.proofs.Words.{CutOff, Deed, End, Entry, FollowsNodes, Gives, GoesOut, Happening, HasEnds, Header, Host, IfItRuns, Inits, IsCut, IsOrderly}
use Rattle.node_laws.proofs.Words.{Line, LinkInput, List, Loses, Loss, MayBoot, Memory, Message, NextFrame, NoInput, NodeHistory, NodeWorld, None, NumberedEnd}
use Rattle.node_laws.proofs.Words.{OnWire, Option, Resets, Running, Site, Some, Starts, Step, Takes, Ticks, Work, [], activates, after_host, after_host_step}
use Rattle.node_laws.proofs.Words.{after_planned, aged, aged_entries, all_aged, ap, arith, beginning, begins_with, boot_found, boot_writes, boot_written, boots}
use Rattle.node_laws.proofs.Words.{by_boot, by_coming, by_controller, by_controller_tick, by_counts, by_host, by_host_tick, by_loss, by_memory, by_option}
use Rattle.node_laws.proofs.Words.{by_power, by_test, comes_at, controller_does, controller_ticks, count_of, counts, end_c, end_h, entries_for, eq-eqb}
use Rattle.node_laws.proofs.Words.{eqb-true, exchanged, false, first_lost, frame_lost, frames_noted, happens, host_cut, host_does, host_ticks, host_work}
use Rattle.node_laws.proofs.Words.{hosts_in, hosts_tick, input_of, is_some, link_to, loses_power_at, map, memory_at, new_site, new_world, node_at, node_entries}
use Rattle.node_laws.proofs.Words.{node_number, refl, replicate, same_end, sending, site_at, site_lost, site_unticked, steps, subst, sym, tick_host}
use Rattle.node_laws.proofs.Words.{ticks_at_controller, true, true≢false, wires_for, with_memory, with_node, with_site, world_after, world_step, world_ticks, ℕ}
use Rattle.node_laws.proofs.Words.{◌&&◌, ◌++◌, ◌==◌, ◌∙◌, ◌∷◌, ◌≡◌}
use Rattle.link_laws.specs.entries.Entries.{End as Side}
use Rattle.node_laws.specs.turns.Turns.{AreLeft}
use Rattle.node_laws.proofs.kept.Events.{with_site_twice}
use Rattle.node_laws.proofs.links.Sites.{here_host}
use Rattle.node_laws.proofs.telling.Events.{comes_goes, link_is, node_is, sending_mute, site_host, site_is}
use Rattle.node_laws.proofs.telling.Lasting.{AnyLine, all_lines, boots_may, entries_of_steps, lines_last, new_orderly, step_orderly}
use Rattle.node_laws.proofs.telling.Accounts.{AreMute}
use Rattle.node_laws.proofs.telling.WorldTicks.{aged_orderly, near_orderly}
use Rattle.node_laws.proofs.turns.Passing.{Front, Goes, all_left, doing, front_goes, goes-append, notes_still, ticks_got}
use Rattle.node_laws.proofs.turns.Nodes.{AllMove, ByPower, FarWaits, Leaves, Moves, NearWaits, OwnMoves, SiteGoes, Waits, aged_none, at_site, controller_steps}
use Rattle.node_laws.proofs.turns.Nodes.{controller_ticked, end_at, flat_leaves, host_begins, host_steps, host_ticked, leaves-append, lost_none, move_then}
use Rattle.node_laws.proofs.turns.Nodes.{sites_is, still_leaves}
use Rattle.node_laws.proofs.turns.Passing.Doing.{Nothing}
use Rattle.trace_model.specs.declared.entry.Entry.TheVariants as entry

-- ## What waits at each end of a world over whatever happens there

-- ### Worlds that stay

all_stay : (w v : NodeWorld) (t : List Entry) → is_some v.controller ≡ is_some w.controller → v.sites ≡ w.sites → ((e : End) → Leaves e t) → AllMove w v t
all_stay w v t power sites quiet b h q x = record { left = q; goes = quiet (end_at b h) q; waits = grind arith }

nothing_moves : (w : NodeWorld) → AllMove w w []
nothing_moves w = all_stay w w [] refl refl (λ e q. refl)

-- a host that stays but for its memory, its wires and what it keeps
stays : (s v : Site) (t : List Entry) → v.link.controller.side.got ≡ s.link.controller.side.got → v.link.host.side.got ≡ s.link.host.side.got
    → is_some v.node ≡ is_some s.node → ((e : End) → Leaves e t) → SiteGoes s v t
stays s v t near far power quiet = grind arith

-- all hosts become others, and the controller goes on or loses its power
all_sites : (w : NodeWorld) (memory : Memory) (c : Option Running) (g : Site → Site) (t : List Entry) → ((s : Site) → (g s).host ≡ s.host)
    → ((s : Site) → (g s).node ≡ s.node) → ((s : Site) → (g s).link.host.side.got ≡ s.link.host.side.got)
    → ((q : List Message) (s : Site) → NearWaits w.controller q (Some s) → NearWaits c q (Some (g s)))
    → ((e : End) → Leaves e t) → AllMove w (record { memory = memory; controller = c; sites = map g w.sites }) t
all_sites w memory c g t host node far near quiet true h q x = record {
  left = q;
  goes = quiet (end_h h) q;
  waits = sites_is g host w.sites h (FarWaits q) (λ z. tt)
      (grind arith);
}
all_sites w memory c g t host node far near quiet false h q x = record {
  left = q;
  goes = quiet (end_c h) q;
  waits = sites_is g host w.sites h (NearWaits c q) (λ z. tt) (λ s z. near q s (subst (NearWaits w.controller q) z x));
}

-- ### Steps of nodes

controller_moves_so : (w : NodeWorld) (k : ℕ) (comes : Comes) (i : LinkInput) → IsOrderly w → input_of (link_to w.sites k) comes ≡ Some i
    → AllMove w (controller_does w k comes (steps (AtEnd k i))).0 (controller_does w k comes (steps (AtEnd k i))).1
controller_moves_so w k comes i a q =
    by_controller (λ p. AllMove w p.0 p.1) w k comes (steps (AtEnd k i)) (nothing_moves w)
    (λ r z. controller_steps w r z (subst (IfItRuns 0 (hosts_in w.sites)) z a.controller) a.different k comes i q)

-- a host does something
module _ (w : NodeWorld) (k : ℕ) (comes : Comes) (f : Work → Work) (a : IsOrderly w)
    (does : (s : Site) (r : Running) → site_at w.sites k ≡ Some s → s.host ≡ k → s.node ≡ Some r → HasEnds s.host (s.host ∷ []) r
    → (s.host == 0) ≡ false → SiteGoes s (after_host comes (host_work s r comes f) s)
    ((host_work s r comes f).entries ++ frames_noted Host k (wires_for (exchanged s.link) comes) (host_work s r comes f))) where
  host_moves : AllMove w (host_does w k comes f).0 (host_does w k comes f).1
  host_moves =
      by_host (λ p. AllMove w p.0 p.1) w k comes f (nothing_moves w)
      (λ s r here z.
      let v : Work = host_work s r comes f in
      let t : List Entry = (after_host_step w k comes s v).1 in
      let host : (s.host == 0) ≡ false = site_is (λ (x : Site). (x.host == 0) ≡ false) w.sites k s a.hosts here in
      let node : HasEnds s.host (s.host ∷ []) r =
      node_is s.host (s.host ∷ []) s.node r (site_is (λ (x : Site). IfItRuns x.host (x.host ∷ []) x.node) w.sites k s a.nodes here) z in
      let one : SiteGoes s (after_host comes v s) t = does s r here (site_host w.sites k s here) z node host in
      at_site w w.controller k (after_host comes v) t refl (λ x. refl)
      (grind arith)
      (λ none. let both : Some s ≡ None = sym here ∙ none in absurd (cc both)))

comes_move : (w : NodeWorld) (e : End) (comes : Comes) → IsOrderly w → AllMove w (comes_at w e comes).0 (comes_at w e comes).1
comes_move w e comes a =
    by_coming (λ p. AllMove w p.0 p.1) w e comes (nothing_moves w)
    (λ i side q. host_moves w e.link comes (steps (AtEnd e.link i)) a
    (λ s n here number runs node host. host_steps s n e.link number runs node host comes i
    (ap (λ l. input_of (exchanged l) comes) (sym (link_is w.sites e.link s here)) ∙ q)))
    (λ i side q. controller_moves_so w e.link comes i a q)

begins_move : (w : NodeWorld) (k : ℕ) (deeds : List Deed) → AreMute deeds → IsOrderly w
    → AllMove w (host_does w k NoInput (begins_with k deeds)).0 (host_does w k NoInput (begins_with k deeds)).1
begins_move w k deeds m a =
    host_moves w k NoInput (begins_with k deeds) a (λ s n here number runs node host. host_begins s n k number runs node host deeds m)

activates_move : (w : NodeWorld) (h sync power : ℕ) → IsOrderly w → AllMove w (activates w h sync power).0 (activates w h sync power).1
activates_move w h sync power a =
    let near : NodeWorld × List Entry = comes_at w (end_c h) (Starts power) in
    let far : NodeWorld × List Entry = comes_at near.0 (end_h h) (Starts sync) in
    move_then w near.0 far.0 near.1 far.1 (comes_move w (end_c h) (Starts power) a)
    (comes_move near.0 (end_h h) (Starts sync) (comes_goes w (end_c h) (Starts power) a).orderly)

-- ### Power and memories

cut_quiet : (n : ℕ) (e : End) → Leaves e (entry.Cut n ∷ [])
cut_quiet n e = still_leaves e (entry.Cut n ∷ []) (refl, tt)

power_moves : (n : ℕ) (w : NodeWorld) → AllMove w (loses_power_at n w) (entry.Cut n ∷ [])
power_moves n w =
    by_power (λ v. AllMove w v (entry.Cut n ∷ [])) n w
    (λ z. all_sites w w.memory None (λ (s : Site). record s { link = happens s.link (AtController (Step NoInput [] CutOff)) }) (entry.Cut n ∷ [])
    (λ s. refl) (λ s. refl)
    (λ s. ap (λ (x : NumberedEnd). x.side.got) (here_host s.link (Step NoInput [] CutOff))) (λ q s x. refl) (cut_quiet n))
    (λ z. at_site w w.controller n host_cut (entry.Cut n ∷ []) refl (λ s. refl)
    (λ s here. record {
      near = ap (λ (x : NumberedEnd). x.side.got) (here_host (exchanged s.link) (Step NoInput [] CutOff));
      goes = λ q x. record { left = q; goes = cut_quiet n (end_h s.host) q; waits = refl };
      others = λ e off. cut_quiet n e;
    })
    (λ none. all_stay w w (entry.Cut n ∷ []) refl refl (cut_quiet n)))

memory_moves : (n : ℕ) (m : Memory) (w : NodeWorld) → AllMove w (with_memory n m w) []
memory_moves n m w =
    by_memory (λ v. AllMove w v []) n w m (λ z. all_stay w (record w { memory = m }) [] refl refl (λ e q. refl))
    (λ z. at_site w w.controller n (λ s. record s { memory = m }) [] refl (λ s. refl)
    (λ s here. stays s (record s { memory = m }) [] refl refl refl (λ e q. refl)) (λ none. nothing_moves w))

-- ### Boots

clears : (e : End) (n count : ℕ) (q : List Message) → (n == node_number e) ≡ true → Goes e q (entry.Booted n count ∷ []) []
clears e n count q on = grind arith

clears_not : (e : End) (n count : ℕ) → (n == node_number e) ≡ false → Leaves e (entry.Booted n count ∷ [])
clears_not e n count off = let one : doing e (entry.Booted n count) ≡ Nothing = rw off refl in still_leaves e (entry.Booted n count ∷ []) (one, tt)

module _ (w : NodeWorld) (n : ℕ) (r : Running) (m : Memory) (count : ℕ) (a : IsOrderly w) (off : node_at w n ≡ None) where
  abbrev booted : List Entry
  booted = entry.Booted n count ∷ []

  no_zero : (h : ℕ) → h ≡ 0 → site_at w.sites h ≡ None
  no_zero h z = by_option (site_at w.sites h)
      (λ q. rw q refl)
      (λ s q. rw q (let some : (s.host == 0) ≡ false = site_is (λ (x : Site). (x.host == 0) ≡ false) w.sites h s a.hosts q in
      absurd (true≢false (sym (eq-eqb s.host 0 (site_host w.sites h s q ∙ z)) ∙ some))))

  near_boots : (n == 0) ≡ true → AllMove w (record w { memory = m; controller = Some r }) booted
  near_boots z false h q x = grind arith
  near_boots z true h q x = by_test (n == h)
      (λ e. let none : site_at w.sites h ≡ None = no_zero h (sym (eqb-true n h e) ∙ eqb-true n 0 z) in
      record { left = []; goes = clears (end_h h) n count q e; waits = subst (FarWaits []) (sym none) tt })
      (λ e. record { left = q; goes = clears_not (end_h h) n count e q; waits = x })

  abbrev runs_there : Site → Site
  runs_there s = record s { memory = m; node = Some r }

  far_boots : (n == 0) ≡ false → AllMove w (record w { sites = with_site n runs_there w.sites }) booted
  far_boots z = at_site w w.controller n runs_there booted refl (λ s. refl) some nobody
    where
      some : (s : Site) → site_at w.sites n ≡ Some s → SiteGoes s (runs_there s) booted
      some s here = record {
        near = refl;
        goes = λ q x.
            let none : s.node ≡ None = rw here at (rw z at off) in
            record { left = []; goes = clears (end_h s.host) n count q (eq-eqb n s.host (sym number)); waits = sym (grind arith) };
        others = λ e out. clears_not e n count (others e out);
      }
        where
          number : s.host ≡ n
          number = site_host w.sites n s here

          others : (e : End) → same_end (end_h s.host) e ≡ false → (n == node_number e) ≡ false
          others e out = by_test e.at_host
              (λ y. let is : ((s.host == e.link) && true) ≡ false = rw y at out in
              rw y (ap (λ k. k == e.link) (sym number) ∙ (by_test (s.host == e.link) (λ q. rw q refl) (λ q. rw q refl) ∙ is)))
              (λ y. rw y z)

      nobody : site_at w.sites n ≡ None → AllMove w w booted
      nobody none false h q x = record { left = q; goes = clears_not (end_c h) n count z q; waits = x }
      nobody none true h q x = by_test (n == h)
          (λ e. grind arith)
          (λ e. record { left = q; goes = clears_not (end_h h) n count e q; waits = x })

  node_moves : AllMove w (with_node n r (with_memory n m w)) booted
  node_moves = by_test (n == 0)
      (λ z. let is : with_node n r (with_memory n m w) ≡ record w { memory = m; controller = Some r } = rw z refl in
      subst (λ (v : NodeWorld). AllMove w v booted) (sym is) (near_boots z))
      (λ z. let remembers : Site → Site = λ s. record s { memory = m } in
      let is : with_node n r (with_memory n m w)
      ≡ record w { sites = with_site n (λ (s : Site). record s { node = Some r }) (with_site n remembers w.sites) } = rw z refl in
      let twice : with_site n (λ (s : Site). record s { node = Some r }) (with_site n remembers w.sites) ≡ with_site n runs_there w.sites =
      with_site_twice n remembers (λ (s : Site). record s { node = Some r }) (λ s. refl) w.sites in
      subst (λ (v : NodeWorld). AllMove w v booted) (sym (is ∙ ap (λ l. record w { sites = l }) twice)) (far_boots z))

boots_move : (w : NodeWorld) (n : ℕ) → IsOrderly w → node_at w n ≡ None → AllMove w (boots w n).0 (boots w n).1
boots_move w n a off =
    by_boot (λ p. AllMove w p.0 p.1) w n
    (move_then w (boot_written w n) (loses_power_at n (boot_written w n)) [] (entry.Cut n ∷ []) (memory_moves n later w)
    (power_moves n (boot_written w n)))
    (node_moves w n (boot_found w n) later (count_of (boot_found w n).core.journal) a off)
  where
    later : Memory
    later = after_planned (boot_writes (memory_at w n).content) (memory_at w n)

-- ### Losses

pub counts_power : (why : Loss) (h : ℕ) (o : Option Running) → is_some (counts why h o) ≡ is_some o
counts_power why h o = by_counts (λ (x : Option Running). is_some x ≡ is_some o) why h o refl (λ r q. ap (λ (x : Option Running). is_some x) (sym q))

lost_moves : (w : NodeWorld) (e : End) (why : Loss) → AllMove w (frame_lost w e why).0 (frame_lost w e why).1
lost_moves w e why =
    by_loss (λ p. AllMove w p.0 p.1) w e why
    (λ side.
    let t : List Entry = entries_for e.link (first_lost Host why (link_to w.sites e.link).to_host) in
    let q : (x : End) → Leaves x t = quiet Host (link_to w.sites e.link).to_host in
    at_site w w.controller e.link (λ s. record (site_lost e why s) { node = counts why e.link s.node }) t refl (λ s. refl)
    (λ s here. stays s (record (site_lost e why s) { node = counts why e.link s.node }) t (grind arith) (grind arith)
    (counts_power why e.link s.node) q)
    (λ none. all_stay w w t refl refl q))
    (λ side.
    let c : Option Running = counts why e.link w.controller in
    let t : List Entry = entries_for e.link (first_lost Controller why (link_to w.sites e.link).to_controller) in
    let q : (x : End) → Leaves x t = quiet Controller (link_to w.sites e.link).to_controller in
    at_site w c e.link (site_lost e why) t (counts_power why e.link w.controller) (λ s. refl)
    (λ s here. stays s (site_lost e why s) t (grind arith) (grind arith) refl q)
    (λ none. all_stay w (record w { controller = c }) t (counts_power why e.link w.controller) refl q))
  where
    quiet : (who : Side) (xs : List OnWire) (x : End) → Leaves x (entries_for e.link (first_lost who why xs))
    quiet who xs x = still_leaves x _ (notes_still x e.link (first_lost who why xs) (lost_none who why xs))

-- ### Ticks

old_moves : (w : NodeWorld) → AllMove w (all_aged w).0 (all_aged w).1
old_moves w =
    all_sites w w.memory w.controller (λ (s : Site). record s { link = aged s.link }) (all_aged w).1 (λ s. refl) (λ s. refl) (λ s. refl) (λ q s x. x)
    (λ e. flat_leaves e (λ (s : Site). entries_for s.host (aged_entries Controller s.link.to_controller ++ aged_entries Host s.link.to_host))
    (λ s. still_leaves e _ (notes_still e s.host (aged_entries Controller s.link.to_controller ++ aged_entries Host s.link.to_host)
    (aged_none Controller Host s.link.to_controller s.link.to_host))) w.sites)

-- a world after the controller's tick, whose hosts are still as they must be
record NearTick (w : NodeWorld) (p : NodeWorld × List Entry) : Type 0 where
  pub moves : AllMove w p.0 p.1
  pub different : AreDifferent (hosts_in p.0.sites)
  pub hosts : AllByRecursion (λ (s : Site). (s.host == 0) ≡ false) p.0.sites
  pub nodes : AllByRecursion (λ (s : Site). IfItRuns s.host (s.host ∷ []) s.node) p.0.sites

near_moves : (w : NodeWorld) → IsOrderly w → NearTick w (controller_ticks w)
near_moves w a =
    record {
      moves = by_controller_tick (λ p. AllMove w p.0 p.1) w
          (λ z. all_sites w w.memory w.controller site_unticked [] (λ s. refl) (λ s. refl)
          (λ s. ap (λ (x : NumberedEnd). x.side.got) (tick_host s.link [] GoesOut))
          (λ q s x. subst (ByPower (is_some w.controller) q) (sym (ticks_got s.link [] GoesOut)) x) (λ e q. refl))
          (λ r z. controller_ticked w r z (subst (IfItRuns 0 (hosts_in w.sites)) z a.controller) a.different);
      different = kept.different;
      hosts = kept.hosts;
      nodes = kept.nodes;
    }
  where
    kept : IsOrderly (record { memory = w.memory; controller = None; sites = (controller_ticks w).0.sites })
    kept = near_orderly w a

site_ticks : (x : Site) → (x.host == 0) ≡ false → IfItRuns x.host (x.host ∷ []) x.node → SiteGoes x (host_ticks x).0 (host_ticks x).1
site_ticks x host a =
    by_host_tick (λ p. SiteGoes x p.0 p.1) x
    (λ z. stays x (record x { link = exchanged (ticks_at_controller (exchanged x.link) [] GoesOut) }) []
    (ap (λ (y : NumberedEnd). y.side.got) (tick_host (exchanged x.link) [] GoesOut)) (ticks_got (exchanged x.link) [] GoesOut) refl (λ e q. refl))
    (λ n z. host_ticked x n x.host refl z (subst (IfItRuns x.host (x.host ∷ [])) z a) host)

-- what waits at the end of a host as all hosts have had their ticks
record HostsMove (h : ℕ) (p : List Site × List Entry) (q : List Message) : Type 0 where
  pub left : List Message
  pub goes : Goes (end_h h) q p.1 left
  pub waits : FarWaits left (site_at p.0 h)

abbrev AreNumbered : List Site → Type 0
AreNumbered sites = AllByRecursion (λ (x : Site). (x.host == 0) ≡ false) sites

abbrev AreNodes : List Site → Type 0
AreNodes sites = AllByRecursion (λ (x : Site). IfItRuns x.host (x.host ∷ []) x.node) sites

near_leaves : (h : ℕ) (sites : List Site) → AreNumbered sites → AreNodes sites → Leaves (end_c h) (hosts_tick sites).1
near_leaves h [] b a q = refl
near_leaves h (x ∷ sites) b a q =
    leaves-append (end_c h) (host_ticks x).1 (hosts_tick sites).1 ((site_ticks x b.0 a.0).others (end_c h) (and-false (x.host == h)))
    (near_leaves h sites b.1 a.1) q

near_stays : (c : Option Running) (h : ℕ) (q : List Message) (sites : List Site) → AreNumbered sites → AreNodes sites → NearWaits c q (site_at sites h)
    → NearWaits c q (site_at (hosts_tick sites).0 h)
near_stays c h q [] b a x = tt
near_stays c h q (y ∷ sites) b a x = by_test (y.host == h)
    (λ e. let passes : ((host_ticks y).0.host == h) ≡ true = (grind arith) ∙ e in
    rw passes (subst (ByPower (is_some c) q) (sym (site_ticks y b.0 a.0).near) (rw e at x)))
    (λ e. let fails : ((host_ticks y).0.host == h) ≡ false = (grind arith) ∙ e in
    rw fails (near_stays c h q sites b.1 a.1 (rw e at x)))

far_leaves : (h : ℕ) (sites : List Site) → AreNumbered sites → AreNodes sites → AllByRecursion (λ n. (n == h) ≡ false) (hosts_in sites)
    → Leaves (end_h h) (hosts_tick sites).1
far_leaves h [] b a d q = refl
far_leaves h (x ∷ sites) b a d q =
    leaves-append (end_h h) (host_ticks x).1 (hosts_tick sites).1 ((site_ticks x b.0 a.0).others (end_h h) (grind arith))
    (far_leaves h sites b.1 a.1 d.1) q

hosts_go : (h : ℕ) (q : List Message) (sites : List Site) → AreDifferent (hosts_in sites) → AreNumbered sites → AreNodes sites
    → FarWaits q (site_at sites h) → HostsMove h (hosts_tick sites) q
hosts_go h q [] d b a x = record { left = q; goes = refl; waits = tt }
hosts_go h q (y ∷ sites) d b a x = by_test (y.host == h)
    (λ e. let here : site_at (hosts_tick (y ∷ sites)).0 h ≡ Some (host_ticks y).0 =
    let passes : ((host_ticks y).0.host == h) ≡ true = (grind arith) ∙ e in rw passes refl in
    let own : OwnMoves y.host (host_ticks y).0 (host_ticks y).1 q = one.goes q (rw e at x) in
    record {
      left = own.left;
      goes = goes-append (end_h h) (host_ticks y).1 (hosts_tick sites).1 q own.left own.left
          (subst (λ n. Goes (end_h n) q (host_ticks y).1 own.left) (eqb-true y.host h e) own.goes)
          (far_leaves h sites b.1 a.1 (subst (λ (n : ℕ). AllByRecursion (λ k. (k == n) ≡ false) (hosts_in sites)) (eqb-true y.host h e) d.0) own.left);
      waits = subst (FarWaits own.left) (sym here) own.waits;
    })
    (λ e. let here : site_at (hosts_tick (y ∷ sites)).0 h ≡ site_at (hosts_tick sites).0 h =
    let fails : ((host_ticks y).0.host == h) ≡ false = (grind arith) ∙ e in rw fails refl in
    let rest : HostsMove h (hosts_tick sites) q = (hosts_go h q sites d.1 b.1 a.1) (rw e at x) in
    record {
      left = rest.left;
      goes = goes-append (end_h h) (host_ticks y).1 (hosts_tick sites).1 q q rest.left (one.others (end_h h) (grind arith) q) rest.goes;
      waits = subst (FarWaits rest.left) (sym here) rest.waits;
    })
  where
    one : SiteGoes y (host_ticks y).0 (host_ticks y).1
    one = site_ticks y b.0 a.0

hosts_move : (w : NodeWorld) → AreDifferent (hosts_in w.sites) → AreNumbered w.sites → AreNodes w.sites
    → AllMove w (record w { sites = (hosts_tick w.sites).0 }) (hosts_tick w.sites).1
hosts_move w d b a false h q x = record { left = q; goes = near_leaves h w.sites b a q; waits = near_stays w.controller h q w.sites b a x }
hosts_move w d b a true h q x =
    let one : HostsMove h (hosts_tick w.sites) q = hosts_go h q w.sites d b a x in record { left = one.left; goes = one.goes; waits = one.waits }

ticks_move : (w : NodeWorld) → IsOrderly w → AllMove w (world_ticks w).0 (world_ticks w).1
ticks_move w a =
    let old : NodeWorld × List Entry = all_aged w in
    let near : NodeWorld × List Entry = controller_ticks old.0 in
    let far : List Site × List Entry = hosts_tick near.0.sites in
    let first : NearTick old.0 near =
    near_moves old.0 (aged_orderly w a) in
    move_then w old.0 (record near.0 { sites = far.0 }) old.1 (near.1 ++ far.1) (old_moves w)
    (move_then old.0 near.0 (record near.0 { sites = far.0 }) near.1 far.1 first.moves (hosts_move near.0 first.different first.hosts first.nodes))

-- ### Events

pub events_move : (w : NodeWorld) (c : Happening) → IsOrderly w → MayBoot w c → AllMove w (world_step w c).0 (world_step w c).1
events_move w (Boots n) a may = boots_move w n a may
events_move w (IsCut n) a may = power_moves n w
events_move w (Gives e m) a may = begins_move w e.link (sending e.link m) (sending_mute e.link m) a
events_move w (Inits e identity pipes) a may = begins_move w e.link (beginning identity pipes) (tt, (tt, tt)) a
events_move w (Takes e) a may = comes_move w e NextFrame a
events_move w (Loses e why) a may = lost_moves w e why
events_move w Ticks a may = ticks_move w a
events_move w (Resets e window) a may = comes_move w e (AsksReset window) a
events_move w (Activates h sync power) a may = activates_move w h sync power a
events_move w (Arms n plan) a may = memory_moves n (record (memory_at w n) { plan = Some plan }) w

-- ## What waits at each end of a world behind any lines of a schedule, and that messages have their turns in order

-- ### Schedules

-- what waits at an end by what was noted so far
pub record Waiting (t : List Entry) (w : NodeWorld) (b : Bool) (h : ℕ) : Type 0 where
  pub messages : List Message
  pub goes : Goes (end_at b h) [] t messages
  pub waits : Waits w b h messages

-- so it is at all ends of an orderly world
pub record AllWait (t : List Entry) (w : NodeWorld) : Type 0 where
  pub orderly : IsOrderly w
  pub waiting : (b : Bool) (h : ℕ) → Waiting t w b h

waiting_lasts : (t : List Entry) (w : NodeWorld) (c : Happening) → AllWait t w → MayBoot w c → AllWait (t ++ (world_step w c).1) (world_step w c).0
waiting_lasts t w c a may =
    record {
      orderly = step_orderly w c a.orderly;
      waiting = λ b h.
          let before : Waiting t w b h = a.waiting b h in
          let one : Moves b h (world_step w c).0 (world_step w c).1 before.messages =
          events_move w c a.orderly may b h before.messages before.waits in
          record {
            messages = one.left;
            goes = goes-append (end_at b h) t (world_step w c).1 [] before.messages one.left before.goes one.goes;
            waits = one.waits;
          };
    }

-- the ends of a link are new
record IsNew (s : Site) : Type 0 where
  off : s.node ≡ None
  near : s.link.controller.side.got ≡ []
  far : s.link.host.side.got ≡ []

are_new : (content : List ℕ) (hosts : List ℕ) → AllByRecursion IsNew (map (new_site content) hosts)
are_new content [] = tt
are_new content (h ∷ hosts) = (record { off = refl; near = refl; far = refl }, are_new content hosts)

pub none_wait : (hosts : List ℕ) (b : Bool) (h : ℕ) → Waits (new_world hosts) b h []
none_wait hosts true h = by_option (site_at (new_world hosts).sites h)
    (λ q. rw q tt)
    (λ s q. rw q (let new : IsNew s = site_is IsNew (new_world hosts).sites h s (are_new (replicate 65536 255) hosts) q in
    subst (λ (o : Option Running). ByPower (is_some o) [] s.link.host.side.got) (sym new.off) new.far))
none_wait hosts false h = by_option (site_at (new_world hosts).sites h)
    (λ q. rw q tt)
    (λ s q. rw q (site_is IsNew (new_world hosts).sites h s (are_new (replicate 65536 255) hosts) q).near)

module _ (header : Header) (lines : List Line) (t : NodeHistory) (follows : FollowsNodes header lines t) (different : AreDifferent header.hosts.items)
    (numbers : AllByRecursion (λ h. (h == 0) ≡ false) header.hosts.items) where
  abbrev last : NodeWorld
  last = world_after (new_world header.hosts.items) lines

  all_wait : AllWait (node_entries t) last
  all_wait =
      let hosts : List ℕ = header.hosts.items in
      subst (λ l. AllWait l last) (ap entries_of_steps (sym follows.steps_are))
      (lines_last AllWait MayBoot AnyLine waiting_lasts boots_may lines [] (new_world hosts)
      (record {
        orderly = new_orderly hosts different numbers;
        waiting = λ b h. record { messages = []; goes = refl; waits = none_wait hosts b h };
      }) (all_lines lines))

  pub in_turn : AreInTurn (node_entries t)
  in_turn front back e q =
      let all : Waiting (node_entries t) last e.at_host e.link = all_wait.waiting e.at_host e.link in
      let begun : Front e [] front = front_goes e front back [] all.messages (subst (λ l. Goes e [] l all.messages) q all.goes) in
      (begun.left, all_left e front [] [] begun.left refl begun.goes)

  pub left_at_host : (h : ℕ) (s : Site) (r : Running) → site_at last.sites h ≡ Some s → s.node ≡ Some r
      → AreLeft (end_h h) (node_entries t) s.link.host.side.got
  left_at_host h s r here runs =
      let all : Waiting (node_entries t) last true h = all_wait.waiting true h in
      let power : ByPower (is_some s.node) all.messages s.link.host.side.got = subst (FarWaits all.messages) here all.waits in
      subst (AreLeft (end_h h) (node_entries t)) (grind arith) (sym (all_left (end_h h) (node_entries t) [] [] all.messages refl all.goes))

  pub left_at_controller : (h : ℕ) (s : Site) (r : Running) → site_at last.sites h ≡ Some s → last.controller ≡ Some r
      → AreLeft (end_c h) (node_entries t) s.link.controller.side.got
  left_at_controller h s r here runs =
      let all : Waiting (node_entries t) last false h = all_wait.waiting false h in
      let power : ByPower (is_some last.controller) all.messages s.link.controller.side.got = subst (NearWaits last.controller all.messages) here all.waits in
      subst (AreLeft (end_c h) (node_entries t)) (grind arith) (sym (all_left (end_c h) (node_entries t) [] [] all.messages refl all.goes))
