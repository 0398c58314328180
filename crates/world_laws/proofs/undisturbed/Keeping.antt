-- Whatever happens to a world, an end of a link that takes no fragments is one whose first message was noted as held, and its node runs.
use Rattle.world_laws.proofs.Words.{Activates, Arms, AsksReset, AtController, AtEnd, Bool, Boots, Broken, Comes, Controller, CutOff, Deed, End, Entry, Gives}
use Rattle.world_laws.proofs.Words.{GoesOut, Happening, HasEnds, Host, IfItRuns, Inits, IsCut, IsOrderly, Link, LinkEnd, LinkInput, List, Loss, MayBoot}
use Rattle.world_laws.proofs.Words.{NextFrame, NoInput, NodeWorld, None, NumberedEnd, Option, Port, Resets, Running, Site, Some, Starts, Step, Takes}
use Rattle.world_laws.proofs.Words.{TimePasses, TimePassing, Work, [], after_controller, after_host, after_tick, aged, all_aged, ap, arith, arrival, beginning}
use Rattle.world_laws.proofs.Words.{begins_with, boot_found, boot_writes, boot_written, boots, by_boot, by_coming, by_controller, by_controller_tick, by_host}
use Rattle.world_laws.proofs.Words.{by_host_tick, by_loss, by_memory, by_power, by_running, changed_if, comes_at, comes_goes, comes_to, cond, controller_does}
use Rattle.world_laws.proofs.Words.{controller_ticks, controller_work, desks_held, end_c, end_h, ending_of, entries_for, eqb-true, error_held, exchanged, false}
use Rattle.world_laws.proofs.Words.{frame_lost, happens, host_cut, host_does, host_tick, host_ticks, host_work, hosts_in, hosts_tick, input_of, is_held_among}
use Rattle.world_laws.proofs.Words.{is_held_at, is_late_at, link_after_controller, link_is, link_to, loses_power_at, map, memory_at, near_end_in, near_orderly}
use Rattle.world_laws.proofs.Words.{near_tick, node_at, node_is, option_map_or, orderly_map, port_at, ports_held, refl, runs_on, same_number, sending, site_at}
use Rattle.world_laws.proofs.Words.{site_host, site_is, site_lost, site_ticked, site_unticked, so_host, stands, steps, subst, sym, ticks_at_controller, true}
use Rattle.world_laws.proofs.Words.{turns_at, with_memory, with_node, with_site, work_of, world_step, world_ticks, ℕ, ◌==◌, ◌∙◌, ◌∷◌, ◌≡◌}
use Rattle.swp_base.specs.InMemory.{Memory, Plan}
use Rattle.journal_laws.specs.Planned.{after_planned}
use Rattle.link_laws.proofs.entries.Together.{ticks_host}
use Rattle.node_machine.specs.world.World.{counts}
use Rattle.node_machine.specs.world.World.Happening.{Loses}
use Rattle.node_laws.proofs.telling.Events.{Stands}
use Rattle.node_laws.proofs.links.Sites.{here_host}
use Rattle.node_laws.proofs.readings.Sites.{comes_outside, near_end_side}
use Rattle.node_laws.proofs.turns.Nodes.{sites_is}
use Rattle.world_laws.proofs.undisturbed.Holding.{IfOn, KeepsHeld, Kept, There, idle_ready, kept_deeds, late_ready, near_ready, readied, ready_at_end}
use Rattle.world_laws.proofs.undisturbed.Holding.{step_kept, stepped_ready, tick_ready}

-- ## An end and its node

-- an end of the link with this host takes no fragments only where its node runs and noted its first message there as held
abbrev pub IsHeldSo : Option Running → ℕ → LinkEnd → Type 0
IsHeldSo None k e = e.shdlc.ready ≡ true
IsHeldSo (Some r) k e = e.shdlc.ready ≡ false → is_held_among r.desks k ≡ true

-- a node begins a step
begun_kept : (r : Running) (plan : Option Plan) (near_ends : ℕ → NumberedEnd) (es : List Entry) (k : ℕ) → Stands near_ends r.desks k
    → IsHeldSo (Some r) k (near_ends k).side → Kept k (near_ends k).side.shdlc.ready (work_of r plan near_ends es)
begun_kept r plan near_ends es k one a =
    let held : (near_ends k).side.shdlc.ready ≡ false → one.desk.holds ≡ true =
    λ busy. sym (ap (λ (o : Option Port). option_map_or (λ (p : Port). p.desk.holds) o false) one.here) ∙ (ports_held near_ends r.desks k ∙ a busy) in
    subst (There (KeepsHeld (near_ends k).side.shdlc.ready)) (sym one.here) (record { told = refl; held = held })

-- it ends one
ended_so : (v : Work) (k : ℕ) (ready : Bool) (e : LinkEnd) → IfOn (Kept k ready) v
    → e.shdlc.ready ≡ ready_at_end (ending_of v) (readied ready (turns_at v k)) → IsHeldSo (runs_on v) k e
ended_so v k ready e kept is = by v.cut refl is
  where
    on : Running
    on = record { core = v.core; desks = map (λ (p : Port). p.desk) v.ports }

    by : (c : Bool) → v.cut ≡ c → e.shdlc.ready ≡ ready_at_end (cond c CutOff GoesOut) (readied ready (turns_at v k)) → IsHeldSo (cond c None (Some on)) k e
    by true z q = q
    by false z q = λ busy. desks_held v.ports k ∙ go busy (port_at v.ports k) refl (kept z)
      where
        go : e.shdlc.ready ≡ false → (o : Option Port) → port_at v.ports k ≡ o → There (KeepsHeld ready) o → is_held_at v.ports k ≡ true
        go busy None p a = absurd a
        go busy (Some x) p a =
            ap (λ (o : Option Port). option_map_or (λ (p : Port). p.desk.holds) o false) p
            ∙ a.held (a.told ∙ (ap (readied ready) (sym (ap (λ (o : Option Port). option_map_or (λ (p : Port). p.turns) o []) p)) ∙ (sym q ∙ busy)))

-- ## Sites

pub record SiteHeld (c : Option Running) (s : Site) : Type 0 where
  pub near : IsHeldSo c s.host s.link.controller.side
  pub far : IsHeldSo s.node s.host s.link.host.side

-- so it is with the link of a host, where there is one
abbrev pub HeldAt : Option Running → Option Site → Type 0
HeldAt c None = Unit {0}
HeldAt c (Some s) = SiteHeld c s

-- the host's end stays
same_far : (c : Option Running) (s v : Site) → v.host ≡ s.host → v.node ≡ s.node → v.link.host.side ≡ s.link.host.side → SiteHeld c s
    → IsHeldSo v.node v.host v.link.host.side
same_far c s v host node side a = grind arith

module _ (h : ℕ) where
  abbrev pub HeldIn : NodeWorld → Type 0
  HeldIn w = HeldAt w.controller (site_at w.sites h)

  module _ (w : NodeWorld) (before : HeldIn w) where
    own_site : (s : Site) → site_at w.sites h ≡ Some s → site_at w.sites s.host ≡ Some s
    own_site s q = ap (site_at w.sites) (site_host w.sites h s q) ∙ q

    -- all sites become others
    mapped : (c : Option Running) (g : Site → Site) → ((s : Site) → (g s).host ≡ s.host)
        → ((s : Site) → site_at w.sites s.host ≡ Some s → SiteHeld w.controller s → SiteHeld c (g s)) → HeldAt c (site_at (map g w.sites) h)
    mapped c g host one = sites_is g host w.sites h (HeldAt c) (λ q. tt) (λ s q. one s (own_site s q) (subst (HeldAt w.controller) q before))

    -- one of them does
    changed : (c : Option Running) (k : ℕ) (g : Site → Site) → ((s : Site) → (g s).host ≡ s.host)
        → ((s : Site) → site_at w.sites k ≡ Some s → (s.host == k) ≡ true → SiteHeld w.controller s → SiteHeld c (g s))
        → ((s : Site) → SiteHeld w.controller s → SiteHeld c s) → HeldAt c (site_at (with_site k g w.sites) h)
    changed c k g host mine other = mapped c (λ s. by_if (s.host == k) s) (λ s. kept (s.host == k) s) (λ s q a. go s q a (s.host == k) refl)
      where
        by_if : Bool → Site → Site
        by_if b s = changed_if b g s

        kept : (b : Bool) (s : Site) → (by_if b s).host ≡ s.host
        kept b s = grind arith

        go : (s : Site) → site_at w.sites s.host ≡ Some s → SiteHeld w.controller s → (b : Bool) → (s.host == k) ≡ b → SiteHeld c (by_if (s.host == k) s)
        go s q a true z = rw z (mine s (ap (site_at w.sites) (sym (eqb-true s.host k z)) ∙ q) z a)
        go s q a false z = rw z (other s a)

    -- ## The controller

    module _ (orderly : IsOrderly w) where
      near_there : (r : Running) → w.controller ≡ Some r → (near_ends : ℕ → NumberedEnd) (s : Site) → site_at w.sites s.host ≡ Some s
          → Stands near_ends r.desks s.host
      near_there r q near_ends s there =
          stands near_ends r.desks w.sites s.host s (node_is 0 (hosts_in w.sites) w.controller r orderly.controller q).ends there

      near_does : (k : ℕ) (comes : Comes) (i : LinkInput) → input_of (link_to w.sites k) comes ≡ Some i
          → HeldIn (controller_does w k comes (steps (AtEnd k i))).0
      near_does k comes i input = by_controller (λ p. HeldIn p.0) w k comes (steps (AtEnd k i)) before runs
        where
          runs : (r : Running) → w.controller ≡ Some r
              → HeldIn (after_controller w k comes (controller_work w r k comes (steps (AtEnd k i)))).0
          runs r q = mapped (runs_on v) (link_after_controller k comes v) (λ s. refl) one
            where
              near_ends : ℕ → NumberedEnd
              near_ends j = near_end_in (link_to w.sites j) (comes_to k comes j)

              begun : Work
              begun = work_of r w.memory.plan near_ends (entries_for k (arrival Controller (link_to w.sites k) comes))

              v : Work
              v = steps (AtEnd k i) begun

              one : (s : Site) → site_at w.sites s.host ≡ Some s → SiteHeld w.controller s → SiteHeld (runs_on v) (link_after_controller k comes v s)
              one s there a = record { near = near; far = same_far w.controller s (link_after_controller k comes v s) refl refl side a }
                where
                  link : link_to w.sites s.host ≡ s.link
                  link = link_is w.sites s.host s there

                  same : (near_ends s.host).side ≡ s.link.controller.side
                  same = near_end_side (link_to w.sites s.host) (comes_to k comes s.host) ∙ ap (λ (l : Link). l.controller.side) link

                  side : (link_after_controller k comes v s).link.host.side ≡ s.link.host.side
                  side = ap (λ (x : NumberedEnd). x.side) (here_host s.link (Step (comes_to k comes s.host) (turns_at v s.host) (ending_of v)))

                  was : IsHeldSo (Some r) s.host (near_ends s.host).side
                  was = subst (λ e. IsHeldSo (Some r) s.host e) (sym same) (subst (λ o. IsHeldSo o s.host s.link.controller.side) q a.near)

                  comes_there : (s.host == k) ≡ true → input_of s.link comes ≡ Some i
                  comes_there z =
                      ap (λ l. input_of l comes) (sym link ∙ ap (link_to w.sites) (eqb-true s.host k z)) ∙ input

                  near : IsHeldSo (runs_on v) s.host (link_after_controller k comes v s).link.controller.side
                  near =
                      ended_so v s.host (near_ends s.host).side.shdlc.ready (link_after_controller k comes v s).link.controller.side
                      (step_kept s.host (near_ends s.host).side.shdlc.ready (AtEnd k i) begun (comes_outside (link_to w.sites k) comes i input)
                      (begun_kept r w.memory.plan near_ends (entries_for k (arrival Controller (link_to w.sites k) comes)) s.host
                      (near_there r q near_ends s there) was))
                      (near_ready s.link (turns_at v s.host) (ending_of v) (s.host == k) comes i comes_there
                      ∙ ap (λ (e : LinkEnd). ready_at_end (ending_of v) (readied e.shdlc.ready (turns_at v s.host))) (sym same))

    -- ## A host

    far_there : (r : Running) (s : Site) → HasEnds s.host (s.host ∷ []) r → (near_end : NumberedEnd) → Stands (λ j. near_end) r.desks s.host
    far_there r s has near_end =
        stands (λ j. near_end) r.desks (s ∷ []) s.host s has.ends (let same : (s.host == s.host) ≡ true = same_number s.host in rw same refl)

    has_ends : IsOrderly w → (k : ℕ) (s : Site) (r : Running) → site_at w.sites k ≡ Some s → s.node ≡ Some r → HasEnds s.host (s.host ∷ []) r
    has_ends orderly k s r found runs =
        node_is s.host (s.host ∷ []) s.node r (site_is (λ (x : Site). IfItRuns x.host (x.host ∷ []) x.node) w.sites k s orderly.nodes found) runs

    -- a host becomes another one by a step, in which it keeps so at its end
    host_does_so : (k : ℕ) (comes : Comes) (f : Work → Work)
        → ((s : Site) (r : Running) → site_at w.sites k ≡ Some s → s.node ≡ Some r → SiteHeld w.controller s
        → SiteHeld w.controller (after_host comes (host_work s r comes f) s))
        → HeldIn (host_does w k comes f).0
    host_does_so k comes f one =
        by_host (λ p. HeldIn p.0) w k comes f before
        (λ s r found runs.
        changed w.controller k (after_host comes (host_work s r comes f)) (λ x. refl)
        (λ x there z a.
        let is : s ≡ x = cc in
        subst (λ y. SiteHeld w.controller (after_host comes (host_work s r comes f) y)) is (one s r found runs (subst (SiteHeld w.controller) (sym is) a)))
        (λ x a. a))

    far_one : (s : Site) (r : Running) (comes : Comes) (f : Work → Work) → s.node ≡ Some r → SiteHeld w.controller s
        → (IsHeldSo (Some r) s.host (near_end_in (exchanged s.link) comes).side
        → IfOn (Kept s.host (near_end_in (exchanged s.link) comes).side.shdlc.ready) (host_work s r comes f))
        → (after_host comes (host_work s r comes f) s).link.host.side.shdlc.ready
        ≡ ready_at_end (ending_of (host_work s r comes f)) (readied s.link.host.side.shdlc.ready (turns_at (host_work s r comes f) s.host))
        → SiteHeld w.controller (after_host comes (host_work s r comes f) s)
    far_one s r comes f runs a kept is =
        let v : Work = host_work s r comes f in
        let same : (near_end_in (exchanged s.link) comes).side ≡ s.link.host.side = near_end_side (exchanged s.link) comes in
        record {
          near = subst (λ e. IsHeldSo w.controller s.host e)
              (sym (ap (λ (x : NumberedEnd). x.side) (here_host (exchanged s.link) (Step comes (turns_at v s.host) (ending_of v))))) a.near;
          far = ended_so v s.host (near_end_in (exchanged s.link) comes).side.shdlc.ready (after_host comes v s).link.host.side (kept (grind arith))
              (is ∙ ap (λ (e : LinkEnd). ready_at_end (ending_of v) (readied e.shdlc.ready (turns_at v s.host))) (sym same));
        }

    far_comes : IsOrderly w → (k : ℕ) (comes : Comes) (i : LinkInput) → input_of (exchanged (link_to w.sites k)) comes ≡ Some i
        → HeldIn (host_does w k comes (steps (AtEnd k i))).0
    far_comes orderly k comes i input =
        host_does_so k comes (steps (AtEnd k i))
        (λ s r found runs a.
        let l : Link = exchanged s.link in
        let near_end : NumberedEnd = near_end_in l comes in
        let es : List Entry = entries_for s.host (arrival Host l comes) in
        let own : input_of l comes ≡ Some i = ap (λ x. input_of (exchanged x) comes) (sym (link_is w.sites k s found)) ∙ input in
        let v : Work = host_work s r comes (steps (AtEnd k i)) in
        far_one s r comes (steps (AtEnd k i)) runs a
        (λ was. step_kept s.host near_end.side.shdlc.ready (AtEnd k i) (work_of r s.memory.plan (λ j. near_end) es) (comes_outside l comes i own)
        (begun_kept r s.memory.plan (λ j. near_end) es s.host (far_there r s (has_ends orderly k s r found runs) near_end) was))
        (stepped_ready l (turns_at v s.host) (ending_of v) comes i own))

    far_begins : IsOrderly w → (k : ℕ) (deeds : List Deed) → HeldIn (host_does w k NoInput (begins_with k deeds)).0
    far_begins orderly k deeds =
        host_does_so k NoInput (begins_with k deeds)
        (λ s r found runs a.
        let l : Link = exchanged s.link in
        let near_end : NumberedEnd = near_end_in l NoInput in
        let es : List Entry = entries_for s.host (arrival Host l NoInput) in
        let v : Work = host_work s r NoInput (begins_with k deeds) in
        far_one s r NoInput (begins_with k deeds) runs a
        (λ was on. kept_deeds s.host near_end.side.shdlc.ready k deeds (work_of r s.memory.plan (λ j. near_end) es)
        (begun_kept r s.memory.plan (λ j. near_end) es s.host (far_there r s (has_ends orderly k s r found runs) near_end) was))
        (idle_ready l (turns_at v s.host) (ending_of v)))

    coming_held : IsOrderly w → (e : End) (comes : Comes) → HeldIn (comes_at w e comes).0
    coming_held orderly e comes =
        by_coming (λ p. HeldIn p.0) w e comes before
        (λ i at input. far_comes orderly e.link comes i input) (λ i at input. near_does orderly e.link comes i input)

    -- ## Power and memories

    power_held : (n : ℕ) → HeldIn (loses_power_at n w)
    power_held n =
        by_power HeldIn n w
        (λ z. mapped None (λ (s : Site). record s { link = happens s.link (AtController (Step NoInput [] CutOff)) }) (λ s. refl)
        (grind arith))
        (λ z. changed w.controller n host_cut (λ s. refl)
        (λ s there y a. grind arith)
        (λ s a. a))

    memory_held : (n : ℕ) (m : Memory) → HeldIn (with_memory n m w)
    memory_held n m =
        by_memory HeldIn n w m (λ z. before)
        (λ z. changed w.controller n (λ s. record s { memory = m }) (λ s. refl) (λ s there y a. record { near = a.near; far = a.far }) (λ s a. a))

    running_held : (n : ℕ) (r : Running) → node_at w n ≡ None → HeldIn (with_node n r w)
    running_held n r off =
        by_running HeldIn n w r
        (grind arith)
        (λ z. changed w.controller n (λ s. record s { node = Some r }) (λ s. refl)
        (grind arith)
        (λ s a. a))
      where
        same_sites : (sites : List Site) → map (λ (s : Site). s) sites ≡ sites
        same_sites [] = refl
        same_sites (s ∷ sites) = ap (λ l. s ∷ l) (same_sites sites)

    -- ## Losses

    counts_held : (why : Loss) (k : ℕ) (o : Option Running) (j : ℕ) (e : LinkEnd) → IsHeldSo o j e → IsHeldSo (counts why k o) j e
    counts_held (Broken fault) k None j e a = a
    counts_held (Broken fault) k (Some r) j e a = λ busy. error_held k r.desks j ∙ a busy
    counts_held _ k o j e a = a

    lost_held : (e : End) (why : Loss) → HeldIn (frame_lost w e why).0
    lost_held e why =
        by_loss (λ p. HeldIn p.0) w e why
        (λ at. changed w.controller e.link (λ s. record (site_lost e why s) { node = counts why e.link s.node }) (λ s. refl)
        (λ s there y a. record {
          near = subst (λ x. IsHeldSo w.controller s.host x) (sym (grind arith)) a.near;
          far = subst (λ x. IsHeldSo (counts why e.link s.node) s.host x) (sym (grind arith))
              (counts_held why e.link s.node s.host s.link.host.side a.far);
        })
        (λ s a. a))
        (λ at.
        let c : Option Running = counts why e.link w.controller in
        changed c e.link (site_lost e why) (λ s. refl)
        (λ s there y a. record {
          near = subst (λ x. IsHeldSo c s.host x) (sym (grind arith))
              (counts_held why e.link w.controller s.host s.link.controller.side a.near);
          far = subst (λ x. IsHeldSo s.node s.host x) (sym (grind arith)) a.far;
        })
        (λ s a. record { near = counts_held why e.link w.controller s.host s.link.controller.side a.near; far = a.far }))

    -- ## Time

    aged_held : HeldIn (all_aged w).0
    aged_held = mapped w.controller (λ (s : Site). record s { link = aged s.link }) (λ s. refl) (λ s there a. record { near = a.near; far = a.far })

    near_tick_held : IsOrderly w → HeldIn (controller_ticks w).0
    near_tick_held orderly =
        by_controller_tick (λ p. HeldIn p.0) w
        (λ none. subst (λ c. HeldAt c (site_at (map site_unticked w.sites) h)) (sym none)
        (mapped None site_unticked (λ s. refl) (λ s there a.
        let was : s.link.controller.side.shdlc.ready ≡ true = subst (λ c. IsHeldSo c s.host s.link.controller.side) none a.near in
        let near : IsHeldSo None s.host (site_unticked s).link.controller.side = tick_ready s.link [] GoesOut ∙ was in
        record { near = near; far = same_far w.controller s (site_unticked s) refl refl (ap (λ (x : NumberedEnd). x.side) (ticks_host s.link [] GoesOut)) a })))
        (λ r runs.
        let near_ends : ℕ → NumberedEnd = λ j. (link_to w.sites j).controller in
        let v : Work = near_tick w r in
        mapped (runs_on v) (site_ticked v) (λ s. refl) (λ s there a.
        let late : Bool = is_late_at v s.host in
        let same : (near_ends s.host).side ≡ s.link.controller.side = ap (λ (l : Link). l.controller.side) (link_is w.sites s.host s there) in
        let was : IsHeldSo (Some r) s.host (near_ends s.host).side = grind arith in
        let near : IsHeldSo (runs_on v) s.host (site_ticked v s).link.controller.side =
        ended_so v s.host (near_ends s.host).side.shdlc.ready (site_ticked v s).link.controller.side
        (step_kept s.host (near_ends s.host).side.shdlc.ready TimePasses (work_of r w.memory.plan near_ends []) tt
        (begun_kept r w.memory.plan near_ends [] s.host (near_there orderly r runs near_ends s there) was))
        (late_ready s.link (turns_at v s.host) (ending_of v) late
        ∙ ap (λ (e : LinkEnd). ready_at_end (ending_of v) (readied e.shdlc.ready (turns_at v s.host))) (sym same)) in
        record {
          near = near;
          far = same_far w.controller s (site_ticked v s) refl refl
              (ap (λ (x : NumberedEnd). x.side) (so_host s.link late (turns_at v s.host) (ending_of v))) a;
        }))

  hosts_map : (sites : List Site) → (hosts_tick sites).0 ≡ map (λ (s : Site). (host_ticks s).0) sites
  hosts_map [] = refl
  hosts_map (s ∷ sites) = ap (λ l. (host_ticks s).0 ∷ l) (hosts_map sites)

  far_ticked : (c : Option Running) (s : Site) → IfItRuns s.host (s.host ∷ []) s.node → SiteHeld c s → SiteHeld c (host_ticks s).0
  far_ticked c s has a =
      by_host_tick (λ p. SiteHeld c p.0) s
      (λ none.
      let was : s.link.host.side.shdlc.ready ≡ true = subst (λ o. IsHeldSo o s.host s.link.host.side) none a.far in
      record {
        near = subst (λ e. IsHeldSo c s.host e) (sym (ap (λ (x : NumberedEnd). x.side) (ticks_host (exchanged s.link) [] GoesOut))) a.near;
        far = subst (λ o. IsHeldSo o s.host (exchanged (ticks_at_controller (exchanged s.link) [] GoesOut)).host.side) (sym none)
            (tick_ready (exchanged s.link) [] GoesOut ∙ was);
      })
      (λ r runs.
      let v : Work = host_tick s r in
      let near_end : NumberedEnd = s.link.host in
      let ends : HasEnds s.host (s.host ∷ []) r = node_is s.host (s.host ∷ []) s.node r has runs in
      let was : IsHeldSo (Some r) s.host near_end.side = subst (λ o. IsHeldSo o s.host s.link.host.side) runs a.far in
      record {
        near = subst (λ e. IsHeldSo c s.host e)
            (sym (ap (λ (x : NumberedEnd). x.side) (ticks_host (exchanged s.link) (turns_at v s.host) (ending_of v)))) a.near;
        far = ended_so v s.host near_end.side.shdlc.ready (after_tick s v).0.link.host.side
            (step_kept s.host near_end.side.shdlc.ready TimePasses (work_of r s.memory.plan (λ j. near_end) []) tt
            (begun_kept r s.memory.plan (λ j. near_end) [] s.host (stands (λ j. near_end) r.desks (s ∷ []) s.host s ends.ends (grind arith)) was))
            (tick_ready (exchanged s.link) (turns_at v s.host) (ending_of v));
      })

  ticks_held : (w : NodeWorld) → IsOrderly w → HeldIn w → HeldIn (world_ticks w).0
  ticks_held w orderly before =
      let old : NodeWorld = (all_aged w).0 in
      let aged_so : IsOrderly old = orderly_map w w.memory w.controller (λ (x : Site). record x { link = aged x.link }) (λ x. refl) orderly
      orderly.controller (λ x n. n) in
      let near : NodeWorld = (controller_ticks old).0 in
      let ends = near_orderly old aged_so in
      subst (λ sites. HeldAt near.controller (site_at sites h)) (sym (hosts_map near.sites))
      (sites_is (λ (s : Site). (host_ticks s).0) (λ s. by_host_tick (λ p. p.0.host ≡ s.host) s (λ q. refl) (λ r q. refl)) near.sites h
      (HeldAt near.controller) (λ q. tt)
      (λ s q. far_ticked near.controller s (site_is (λ (x : Site). IfItRuns x.host (x.host ∷ []) x.node) near.sites h s ends.nodes q)
      (subst (HeldAt near.controller) q (near_tick_held old (aged_held w before) aged_so))))

  -- ## All that happens

  abbrev node_in : Option Site → Option Running
  node_in None = None
  node_in (Some s) = s.node

  memory_off : (w : NodeWorld) (n : ℕ) (m : Memory) → node_at w n ≡ None → node_at (with_memory n m w) n ≡ None
  memory_off w n m off =
      by_memory (λ v. node_at v n ≡ None) n w m (λ z. off)
      (λ z.
      rw z (sites_is (λ (s : Site). changed_if (s.host == n) (λ (x : Site). record x { memory = m }) s)
      (λ s. grind arith) w.sites n (λ o. node_in o ≡ None) (λ q. refl)
      (λ s q. let none : s.node ≡ None = rw q at (rw z at off) in (grind arith) ∙ none)))
    where
      f : Site → Site
      f x = record x { memory = m }

  boots_held : (w : NodeWorld) (n : ℕ) → node_at w n ≡ None → HeldIn w → HeldIn (boots w n).0
  boots_held w n off before =
      let m : Memory = after_planned (boot_writes (memory_at w n).content) (memory_at w n) in
      let written : HeldIn (boot_written w n) = memory_held w before n m in
      by_boot (λ p. HeldIn p.0) w n (power_held (boot_written w n) written n)
      (running_held (boot_written w n) written n (boot_found w n) (memory_off w n m off))

  pub event_kept : (w : NodeWorld) (c : Happening) → IsOrderly w → MayBoot w c → HeldIn w → HeldIn (world_step w c).0
  event_kept w (Boots n) orderly may before = boots_held w n may before
  event_kept w (IsCut n) orderly may before = power_held w before n
  event_kept w (Gives e m) orderly may before = far_begins w before orderly e.link (sending e.link m)
  event_kept w (Inits e identity pipes) orderly may before = far_begins w before orderly e.link (beginning identity pipes)
  event_kept w (Takes e) orderly may before = coming_held w before orderly e NextFrame
  event_kept w (Loses e why) orderly may before = lost_held w before e why
  event_kept w TimePassing orderly may before = ticks_held w orderly before
  event_kept w (Resets e window) orderly may before = coming_held w before orderly e (AsksReset window)
  event_kept w (Activates k sync power) orderly may before =
      let near : NodeWorld = (comes_at w (end_c k) (Starts power)).0 in
      coming_held near (coming_held w before orderly (end_c k) (Starts power)) (comes_goes w (end_c k) (Starts power) orderly).orderly (end_h k) (Starts sync)
  event_kept w (Arms n plan) orderly may before = memory_held w before n (record (memory_at w n) { plan = Some plan })
