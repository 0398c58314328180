-- Whatever happens to a world, a host keeps the init that is read of it.
use Rattle.node_laws.proofs.Words.{Activates, AllByRecursion, AllByRecursion-append, Arms, AsksReset, AtController, AtEnd, AtHost, Bool, Boots, Comes}
use Rattle.node_laws.proofs.Words.{Controller, CutOff, Deed, End, Entry, Gives, GoesOut, Happening, HasEnds, Host, IfItRuns, IfRunsInit, Init, Inits, IsCut}
use Rattle.node_laws.proofs.Words.{IsHost, IsOrderly, LeavesInit, Link, LinkInput, LinkState, List, Lose, Loses, Loss, Memory, Message, NextFrame, NoInput}
use Rattle.node_laws.proofs.Words.{NodeInput, NodeWorld, None, NumberedEnd, Option, Resets, Running, Site, SiteKeepsInit, Some, Starts, Step, Takes, Tick}
use Rattle.node_laws.proofs.Words.{Ticks, TimePasses, Up, Work, [], activates, after_controller, after_host, after_host_step, after_input, after_near_tick}
use Rattle.node_laws.proofs.Words.{after_planned, aged, aged_entries, all_aged, all_flat, and-false, ap, arith, arrival, beginning, begins_with, boot_found}
use Rattle.node_laws.proofs.Words.{boot_writes, boot_written, boots, by_boot, by_coming, by_controller, by_controller_tick, by_host, by_host_tick, by_memory}
use Rattle.node_laws.proofs.Words.{by_option, by_power, by_running, by_test, cases_Bool, changed_if, changed_same, comes_at, comes_to, cond, controller_cut}
use Rattle.node_laws.proofs.Words.{controller_does, controller_ticks, controller_work, count_of, counts, end_c, end_h, end_of, ending_entries, ending_of}
use Rattle.node_laws.proofs.Words.{entries_for, eq-eqb, eqb, eqb-false, eqb-true, exchanged, false, first_lost, flat_map, found, frame_lost, frames_noted}
use Rattle.node_laws.proofs.Words.{happens, has_come, host_cut, host_does, host_does_so, host_tick, host_ticks, host_work, hosts_in, hosts_tick, init_begun}
use Rattle.node_laws.proofs.Words.{init_of, init_of_running, inl, input_at, input_of, inr, is_late_at, link_after_controller, link_to, links_of, loses_power_at}
use Rattle.node_laws.proofs.Words.{map, memory_at, ne_eqb, near_end_in, near_tick, node_at, port_at, port_for, refl, runs_on, same_end, sending, site_at}
use Rattle.node_laws.proofs.Words.{site_ticked, site_unticked, steps, steps_at_controller, subst, sym, ticks_at_controller, ticks_host, true, turns_at}
use Rattle.node_laws.proofs.Words.{Desk, LinkEnd, wires_for, with_memory, with_site, work_of, world_step, world_ticks, ℕ, ◌++◌, ◌∙◌, ◌∷◌, ◌≡◌, ◌⊎◌}
use Rattle.node_laws.proofs.Words.{true≢false}
use Rattle.link_laws.specs.entries.Entries.{End as Side}
use Rattle.node_laws.specs.views.Inits.{RunsInit}
use Rattle.node_laws.proofs.kept.Events.{hosts_same}
use Rattle.node_laws.proofs.links.Sites.{here_host}
use Rattle.node_laws.proofs.links.Worlds.{so_host}
use Rattle.node_laws.proofs.readings.Noting.{NotesSo}
use Rattle.node_laws.proofs.readings.Turning.{IsQuiet}
use Rattle.node_laws.proofs.readings.Sites.{arrival_quiet, comes_outside, ending_quiet, lost_quiet, near_end_side, sent_phase, stepped_phase}
use Rattle.node_laws.proofs.telling.Events.{comes_goes, site_host, site_is as found_all}
use Rattle.node_laws.proofs.telling.Ticks.{wires_all}
use Rattle.node_laws.proofs.telling.WorldTicks.{tick_host}
use Rattle.node_laws.proofs.turns.Nodes.{sites_is}
use Rattle.node_laws.proofs.views.Going.{Base, MayGo, Stands, all_go, init_append, others_begin, others_step, quiet_init, quiet_leaves, reads_init, steps_stand}
use Rattle.node_laws.proofs.views.Events.{AreFine, far_node, map_fine, near_ticks_fine, orderly_fine, with_kept}
use Rattle.trace_model.specs.declared.entry.Entry.TheVariants as entry

-- ## A host of a world keeps the init that is read of it over each of its own events

frames_init : (h : ℕ) (who : Side) (k : ℕ) (l : Link) (w : Work) (y : Option Init) → reads_init h (frames_noted who k l w) y ≡ y
frames_init h who k l w y = by_option (port_at w.ports k)
    (λ q. rw q refl)
    (λ p q. rw q (quiet_init h k (ending_entries who l p.side (ending_of w)) y (ending_quiet who l p.side (ending_of w))))

arrival_init : (h : ℕ) (who : Side) (k : ℕ) (l : Link) (comes : Comes) (y : Option Init) → reads_init h (entries_for k (arrival who l comes)) y ≡ y
arrival_init h who k l comes y = quiet_init h k (arrival who l comes) y (arrival_quiet who l comes)

-- The step of a host is done, in which frames come to its end of l: its link becomes this one, its memory that.
done_keeps : (s : Site) (host : IsHost s.host) (i : Option Init) (now : LinkState) (k : Work) (l link : Link) (memory : Memory)
    → (k.cut ≡ false → link.host.side.shdlc.phase ≡ now) → Stands s.host host i now k
    → SiteKeepsInit (reads_init s.host (k.entries ++ frames_noted Host s.host l k) i) (record s { link = link; memory = memory; node = runs_on k })
done_keeps s host i now k l link memory phase st = by_test k.cut
    (λ e. record { read = read ∙ (st.off e ∙ sym (rw e refl)); runs = rw e tt })
    (λ e. record {
      read = read ∙ ((st.on e).0 ∙ sym (rw e refl));
      runs = rw e (grind arith);
    }) where
      read : reads_init s.host (k.entries ++ frames_noted Host s.host l k) i ≡ reads_init s.host k.entries i
      read = init_append s.host k.entries (frames_noted Host s.host l k) i ∙ frames_init s.host Host s.host l k (reads_init s.host k.entries i)

module _ (s : Site) (host : IsHost s.host) (i : Option Init) (r : Running) (node : s.node ≡ Some r) (k : SiteKeepsInit i s) where
  so : RunsInit s.host s.link r
  so = subst (IfRunsInit s.host s.link) node k.runs

  kept : i ≡ r.core.init
  kept = k.read ∙ ap init_of_running node

  -- its step begins, over what is noted first
  base_of : (near_end : NumberedEnd) (es : List Entry) (b : Option Init)
      → Base s.host host b near_end.side.shdlc.phase (work_of r s.memory.plan (λ n. near_end) es)
  base_of near_end es b = record {
    number = so.number;
    port = port_for near_end so.desk;
    is = ap (map (λ (d : Desk). port_for near_end d)) so.desks_are;
    at = so.host;
    quiet = so.no_notice;
    phase = refl;
  }

  pub begun_stands : (near_end : NumberedEnd) (es : List Entry) → near_end.side ≡ s.link.host.side → ((y : Option Init) → reads_init s.host es y ≡ y)
      → Stands s.host host i near_end.side.shdlc.phase (work_of r s.memory.plan (λ n. near_end) es)
  begun_stands near_end es side silent = record {
    base = base_of near_end es i;
    on = λ e. (silent i ∙ kept, λ some. ((so.waits some).0, ap (λ (x : LinkEnd). x.shdlc.phase) side ∙ (so.waits some).1));
    off = λ e. absurd (true≢false (sym e));
  }

  pub comes_keeps : (comes : Comes) (input : LinkInput) → input_of (exchanged s.link) comes ≡ Some input
      → SiteKeepsInit (reads_init s.host (host_does_so s r comes (steps (AtEnd s.host input))).1 i) (host_does_so s r comes (steps (AtEnd s.host input))).0
  unfolding begun_stands base_of
  comes_keeps comes input is =
      done_keeps s host i now w (wires_for (exchanged s.link) comes) (after_host comes w s).link (after_host comes w s).memory phase stands where
        w : Work
        w = host_work s r comes (steps (AtEnd s.host input))

        near_end : NumberedEnd
        near_end = near_end_in (exchanged s.link) comes

        begun : Work
        begun = work_of r s.memory.plan (λ n. near_end) (entries_for s.host (arrival Host (exchanged s.link) comes))

        now : LinkState
        now = (after_input s.link.host.side input).shdlc.phase

        first : Stands s.host host i near_end.side.shdlc.phase begun
        first = begun_stands near_end (entries_for s.host (arrival Host (exchanged s.link) comes)) (near_end_side (exchanged s.link) comes)
            (arrival_init s.host Host s.host (exchanged s.link) comes)

        came : (has_come (port_for near_end so.desk) (input_at (AtEnd s.host input) (port_for near_end so.desk))).side.shdlc.phase ≡ now
        came =
            ap (λ b. (has_come (port_for near_end so.desk) (cond b (Some input) None)).side.shdlc.phase) (eq-eqb so.desk.host s.host so.host)
            ∙ ap (λ e. (after_input e input).shdlc.phase) (near_end_side (exchanged s.link) comes)

        stands : Stands s.host host i now w
        stands = subst (λ n. Stands s.host host i n w) came (steps_stand s.host host i near_end.side.shdlc.phase (AtEnd s.host input) begun
            (comes_outside (exchanged s.link) comes input is) refl first (refl, refl))

        phase : w.cut ≡ false → (after_host comes w s).link.host.side.shdlc.phase ≡ now
        phase on =
            ap (λ b. (steps_at_controller (exchanged s.link) comes (turns_at w s.host) (cond b CutOff GoesOut)).controller.side.shdlc.phase) on
            ∙ stepped_phase (exchanged s.link) comes (turns_at w s.host) input is

  -- it does deeds of its own
  acts_keep : (deeds : List Deed) (b : Option Init) → MayGo s.host s.link.host.side.shdlc.phase b r.core.command r.core.init deeds
      → SiteKeepsInit (reads_init s.host (host_does_so s r NoInput (begins_with s.host deeds)).1 b) (host_does_so s r NoInput (begins_with s.host deeds)).0
  acts_keep deeds b may =
      done_keeps s host b now w (wires_for (exchanged s.link) NoInput) (after_host NoInput w s).link (after_host NoInput w s).memory phase
      (all_go s.host host b now s.host deeds begun b refl (base_of s.link.host [] b) refl may) where
        w : Work
        w = host_work s r NoInput (begins_with s.host deeds)

        now : LinkState
        now = s.link.host.side.shdlc.phase

        begun : Work
        begun = work_of r s.memory.plan (λ n. s.link.host) []

        phase : w.cut ≡ false → (after_host NoInput w s).link.host.side.shdlc.phase ≡ now
        phase on =
            ap (λ b. (steps_at_controller (exchanged s.link) NoInput (turns_at w s.host) (cond b CutOff GoesOut)).controller.side.shdlc.phase) on
            ∙ sent_phase s.link.host.side (turns_at w s.host)

  pub sends_keeps : (m : Message) → SiteKeepsInit (reads_init s.host (host_does_so s r NoInput (begins_with s.host (sending s.host m))).1 i)
      (host_does_so s r NoInput (begins_with s.host (sending s.host m))).0
  sends_keeps m = acts_keep (sending s.host m) i (grind arith)

  pub begins_keeps : (identity : List ℕ) (pipes : List (List ℕ)) → s.link.host.side.shdlc.phase ≡ Up
      → SiteKeepsInit (reads_init s.host (host_does_so s r NoInput (begins_with s.host (beginning identity pipes))).1 (Some (init_of identity pipes)))
      (host_does_so s r NoInput (begins_with s.host (beginning identity pipes))).0
  begins_keeps identity pipes up = acts_keep (beginning identity pipes) (Some (init_of identity pipes)) (refl, λ some. (refl, up))

-- a tick of a host
pub ticks_keep : (s : Site) (i : Option Init) → IsHost s.host → SiteKeepsInit i s → SiteKeepsInit (reads_init s.host (host_ticks s).1 i) (host_ticks s).0
unfolding begun_stands base_of
ticks_keep s i host k =
    by_host_tick (λ p. SiteKeepsInit (reads_init s.host p.1 i) p.0) s (λ e. record { read = k.read; runs = rw e tt })
    (λ r e.
    let begun : Work = work_of r s.memory.plan (λ n. s.link.host) [] in
    let w : Work = host_tick s r in
    let now : LinkState = (after_input s.link.host.side Tick).shdlc.phase in
    let stands : Stands s.host host i now w =
    steps_stand s.host host i s.link.host.side.shdlc.phase TimePasses begun tt refl (begun_stands s host i r e k s.link.host [] refl (λ y. refl))
    (refl, refl) in
    done_keeps s host i now w (exchanged s.link) (exchanged (ticks_at_controller (exchanged s.link) (turns_at w s.host) (ending_of w)))
    (after_planned w.writes s.memory)
    (λ on. ap (λ b. (ticks_at_controller (exchanged s.link) (turns_at w s.host) (cond b CutOff GoesOut)).controller.side.shdlc.phase) on
    ∙ sent_phase (after_input s.link.host.side Tick) (turns_at w s.host)) stands)

-- its power is cut
pub cut_keeps : (s : Site) (i : Option Init) → SiteKeepsInit (reads_init s.host (entry.Cut s.host ∷ []) i) (host_cut s)
cut_keeps s i = record { read = ap (λ b. cond b None i) (eq-eqb s.host s.host refl); runs = tt }

-- it boots while it doesn't run
pub boot_keeps : (s : Site) (i : Option Init) (m : Memory) (content : List ℕ) (n : ℕ) → SiteKeepsInit i s → s.node ≡ None
    → SiteKeepsInit (reads_init s.host (entry.Booted s.host n ∷ []) i) (record s { memory = m; node = Some (found s.host (s.host ∷ []) content) })
boot_keeps s i m content n k off = grind arith

-- ## What happens to a world: a host keeps the init that is read of it

pub leaves_all : (h : ℕ) (es : List Entry) (i : Option Init) → AllByRecursion (LeavesInit h) es → reads_init h es i ≡ i
leaves_all h [] i all = refl
leaves_all h (x ∷ es) i all = ap (reads_init h es) (all.0 i) ∙ leaves_all h es i all.1

-- a host that stays as it is keeps its init
pub keep_same : (i : Option Init) (s v : Site) → v.host ≡ s.host → v.node ≡ s.node → v.link.host.side ≡ s.link.host.side → SiteKeepsInit i s → SiteKeepsInit i v
keep_same i s v host node side k = grind arith

-- the host that is there keeps it; none is read where there is none
abbrev pub AtSite : Option Init → Option Site → Type 0
AtSite i None = i ≡ None
AtSite i (Some s) = SiteKeepsInit i s

-- a node whose init begins runs, and the host's end of its link is up
pub record MayInit (w : NodeWorld) (e : End) : Type 0 where
  pub node : Running
  pub runs : node_at w e.link ≡ Some node
  pub up : (link_to w.sites e.link).host.side.shdlc.phase ≡ Up

module _ (h : ℕ) (host : IsHost h) where
  pub zero : eqb h 0 ≡ false
  zero = ne_eqb h 0 (λ z. omega (arith, z, host.0))

  zero_off : eqb 0 h ≡ false
  zero_off = ne_eqb 0 h (λ z. omega (arith, z, host.0))

  abbrev pub Keeps : NodeWorld → Option Init → Type 0
  Keeps w i = AtSite i (site_at w.sites h)

  abbrev Then : NodeWorld × List Entry → Option Init → Type 0
  Then p i = Keeps p.0 (reads_init h p.1 i)

  map_keeps : (g : Site → Site) → ((s : Site) → (g s).host ≡ s.host) → ((s : Site) → (g s).node ≡ s.node)
      → ((s : Site) → (g s).link.host.side ≡ s.link.host.side) → (sites : List Site) (i : Option Init) → AtSite i (site_at sites h)
      → AtSite i (site_at (map g sites) h)
  map_keeps g same node side sites i k = sites_is g same sites h (AtSite i) (λ z. subst (AtSite i) z k)
      (λ s z. keep_same i s (g s) (same s) (node s) (side s) (subst (AtSite i) z k))

  other_keeps : (k : ℕ) (f : Site → Site) → ((s : Site) → (f s).host ≡ s.host) → (sites : List Site) (i : Option Init) → eqb h k ≡ false
      → AtSite i (site_at sites h) → AtSite i (site_at (with_site k f sites) h)
  other_keeps k f same sites i off keeps =
      sites_is (λ s. changed_if (eqb s.host k) f s) (λ s. changed_same (λ (x : Site). x.host) (eqb s.host k) f s same) sites h (AtSite i)
      (λ z. subst (AtSite i) z keeps)
      (λ s z. subst (λ b. SiteKeepsInit i (changed_if b f s)) (sym (ap (λ n. eqb n k) (site_host sites h s z) ∙ off)) (subst (AtSite i) z keeps))

  own_keeps : (f : Site → Site) → ((s : Site) → (f s).host ≡ s.host) → (sites : List Site) (s : Site) (i : Option Init) → site_at sites h ≡ Some s
      → SiteKeepsInit i (f s) → AtSite i (site_at (with_site h f sites) h)
  own_keeps f same sites s i here keeps =
      sites_is (λ s. changed_if (eqb s.host h) f s) (λ s. changed_same (λ (x : Site). x.host) (eqb s.host h) f s same) sites h (AtSite i)
      (λ z. let none : None ≡ Some s = sym z ∙ here in absurd (cc none))
      (λ x z. let both : Some x ≡ Some s = sym z ∙ here in
      let one : s ≡ x = cc in
      subst (λ b. SiteKeepsInit i (changed_if b f x)) (sym (eq-eqb x.host h (site_host sites h x z))) (subst (λ y. SiteKeepsInit i (f y)) one keeps))

  -- what is noted leaves it
  left : (v : NodeWorld) (es : List Entry) (i : Option Init) → AllByRecursion (LeavesInit h) es → Keeps v i → Then (v, es) i
  left v es i so k = subst (λ y. AtSite y (site_at v.sites h)) (sym (leaves_all h es i so)) k

  frames_leave : (who : Side) (k : ℕ) (l : Link) (w : Work) → AllByRecursion (LeavesInit h) (frames_noted who k l w)
  frames_leave who k l w = by_option (port_at w.ports k)
      (λ q. rw q tt)
      (λ p q. rw q (quiet_leaves h k (Rattle.link_laws.specs.entries.Entries.ending_entries who l p.side (ending_of w))
      (ending_quiet who l p.side (ending_of w))))

  near_off : (hosts : List ℕ) → AllByRecursion (λ k. same_end (end_of k Controller) (end_h h) ≡ false) hosts
  near_off [] = tt
  near_off (k ∷ hosts) = (and-false (eqb k h), near_off hosts)

  far_off : (k : ℕ) → eqb k h ≡ false → same_end (end_of k Host) (end_h h) ≡ false
  far_off k off = rw off refl

  -- something comes to an end of the controller
  near_does : (w : NodeWorld) (i : Option Init) (k : ℕ) (comes : Comes) (input : LinkInput) → IsOrderly w → Keeps w i
      → Then (controller_does w k comes (steps (AtEnd k input))) i
  near_does w i k comes input orderly keeps =
      by_controller (λ p. Then p i) w k comes (steps (AtEnd k input)) keeps
      (λ r q.
      let c : Work = controller_work w r k comes (steps (AtEnd k input)) in
      let frames : List Entry = flat_map (λ (s : Site). frames_noted Controller s.host (wires_for s.link (comes_to k comes s.host)) c) w.sites in
      left (after_controller w k comes c).0 (c.entries ++ frames) i
      (AllByRecursion-append (LeavesInit h) c.entries frames
      (others_step h 0 zero_off Controller refl (hosts_in w.sites) r w.memory.plan (λ n. near_end_in (link_to w.sites n) (comes_to k comes n))
      (entries_for k (arrival Controller (link_to w.sites k) comes)) (AtEnd k input) (subst (IfItRuns 0 (hosts_in w.sites)) q orderly.controller)
      (near_off (hosts_in w.sites)) (grind arith))
      (all_flat (LeavesInit h) (λ (s : Site). frames_noted Controller s.host (wires_for s.link (comes_to k comes s.host)) c)
      (λ s. frames_leave Controller s.host (wires_for s.link (comes_to k comes s.host)) c) w.sites))
      (map_keeps (link_after_controller k comes c) (λ s. refl) (λ s. refl)
      (λ s. ap (λ (x : NumberedEnd). x.side) (here_host s.link (Step (comes_to k comes s.host) (turns_at c s.host) (ending_of c)))) w.sites i keeps))

  -- ### A host acts

  host_steps : (s : Site) (r : Running) (near_ends : ℕ → NumberedEnd) (es : List Entry) (input : NodeInput) → HasEnds s.host (s.host ∷ []) r
      → eqb s.host 0 ≡ false
      → eqb s.host h ≡ false → AllByRecursion (LeavesInit h) es → AllByRecursion (LeavesInit h) (steps input (work_of r s.memory.plan near_ends es)).entries
  host_steps s r near_ends es input has zero off so =
      others_step h s.host off Host (ap (λ b. cond b Controller Host) zero) (s.host ∷ []) r s.memory.plan near_ends es input has (far_off s.host off, tt) so

  -- a host that runs has one end, and its number isn't 00
  own_ends : (sites : List Site) (k : ℕ) (s : Site) (r : Running) → AreFine sites → site_at sites k ≡ Some s → s.node ≡ Some r
      → HasEnds s.host (s.host ∷ []) r × (eqb s.host 0 ≡ false)
  own_ends sites k s r fine here q = (
    subst (IfItRuns s.host (s.host ∷ [])) q (found_all (λ (s : Site). IfItRuns s.host (s.host ∷ []) s.node) sites k s fine.nodes here),
    found_all (λ (s : Site). (eqb s.host 0) ≡ false) sites k s fine.hosts here,
  )

  real_host : (sites : List Site) (s : Site) → site_at sites h ≡ Some s → IsHost s.host
  real_host sites s here = subst IsHost (sym (site_host sites h s here)) host

  other_host : (sites : List Site) (k : ℕ) (s : Site) → site_at sites k ≡ Some s → eqb h k ≡ false → eqb s.host h ≡ false
  other_host sites k s here off = ne_eqb s.host h (λ same. eqb-false h k off (sym same ∙ site_host sites k s here))

  -- another one
  other_acts : (w : NodeWorld) (k : ℕ) (comes : Comes) (f : Work → Work) (i : Option Init) → eqb h k ≡ false
      → ((s : Site) (r : Running) → site_at w.sites k ≡ Some s → s.node ≡ Some r → AllByRecursion (LeavesInit h) (host_work s r comes f).entries)
      → Keeps w i → Then (host_does w k comes f) i
  other_acts w k comes f i off others keeps =
      by_host (λ p. Then p i) w k comes f keeps
      (λ s r here q.
      let c : Work = host_work s r comes f in
      let frames : List Entry = frames_noted Host k (wires_for (exchanged s.link) comes) c in
      left (record w { sites = with_site k (after_host comes c) w.sites }) (c.entries ++ frames) i
      (AllByRecursion-append (LeavesInit h) c.entries frames (others s r here q) (frames_leave Host k (wires_for (exchanged s.link) comes) c))
      (other_keeps k (after_host comes c) (λ s. refl) w.sites i off keeps))

  -- this one, which runs
  own_step : (w : NodeWorld) (comes : Comes) (f : ℕ → Work → Work) (b : Option Init) (s : Site) (r : Running) → site_at w.sites h ≡ Some s
      → SiteKeepsInit (reads_init s.host (host_does_so s r comes (f s.host)).1 b) (host_does_so s r comes (f s.host)).0
      → Then (after_host_step w h comes s (host_work s r comes (f h))) b
  own_step w comes f b s r here kept =
      own_keeps (after_host comes (c h)) (λ s. refl) w.sites s (reads_init h ((c h).entries ++ frames h) b) here
      (subst (λ n. SiteKeepsInit (reads_init n ((c n).entries ++ frames n) b) (after_host comes (c n) s)) (site_host w.sites h s here) kept) where
        c : ℕ → Work
        c n = host_work s r comes (f n)

        frames : ℕ → List Entry
        frames n = frames_noted Host n (wires_for (exchanged s.link) comes) (c n)

  own_runs : (w : NodeWorld) (comes : Comes) (f : ℕ → Work → Work) (b : Option Init) (s : Site) (r : Running) → site_at w.sites h ≡ Some s
      → s.node ≡ Some r → SiteKeepsInit (reads_init s.host (host_does_so s r comes (f s.host)).1 b) (host_does_so s r comes (f s.host)).0
      → Then (host_does w h comes (f h)) b
  own_runs w comes f b s r here q kept = rw (here, q) (own_step w comes f b s r here kept)

  own_acts : (w : NodeWorld) (comes : Comes) (f : ℕ → Work → Work) (i : Option Init)
      → ((s : Site) (r : Running) → site_at w.sites h ≡ Some s → s.node ≡ Some r → SiteKeepsInit i s
      → SiteKeepsInit (reads_init s.host (host_does_so s r comes (f s.host)).1 i) (host_does_so s r comes (f s.host)).0) → Keeps w i
      → Then (host_does w h comes (f h)) i
  own_acts w comes f i one keeps =
      by_host (λ p. Then p i) w h comes (f h) keeps (λ s r here q. own_step w comes f i s r here (one s r here q (subst (AtSite i) here keeps)))

  -- something comes to a host
  link_is : (w : NodeWorld) (s : Site) → site_at w.sites h ≡ Some s → link_to w.sites h ≡ s.link
  link_is w s here = rw here refl

  far_does : (w : NodeWorld) (i : Option Init) (k : ℕ) (comes : Comes) (input : LinkInput) → IsOrderly w
      → input_of (exchanged (link_to w.sites k)) comes ≡ Some input → Keeps w i → Then (host_does w k comes (steps (AtEnd k input))) i
  far_does w i k comes input orderly is keeps = by_test (eqb h k)
      (λ z. let same : h ≡ k = eqb-true h k z in
      let is_here : input_of (exchanged (link_to w.sites h)) comes ≡ Some input = grind arith in
      subst (λ n. Then (host_does w n comes (steps (AtEnd n input))) i) same (own_acts w comes (λ n. steps (AtEnd n input)) i
      (λ s r here q kept. comes_keeps s (real_host w.sites s here) i r q kept comes input (grind arith)) keeps))
      (λ z. other_acts w k comes (steps (AtEnd k input)) i z
      (λ s r here q. let has = own_ends w.sites k s r (orderly_fine w orderly) here q in
      host_steps s r (λ n. near_end_in (exchanged s.link) comes) (entries_for s.host (arrival Host (exchanged s.link) comes)) (AtEnd k input) has.0 has.1
      (other_host w.sites k s here z) (grind arith)) keeps)

  -- ### Something comes

  comes_keep : (w : NodeWorld) (i : Option Init) (a : End) (comes : Comes) → IsOrderly w → Keeps w i → Then (comes_at w a comes) i
  comes_keep w i a comes orderly keeps =
      by_coming (λ p. Then p i) w a comes keeps (λ input far q. far_does w i a.link comes input orderly q keeps)
      (λ input near q. near_does w i a.link comes input orderly keeps)

  activates_keep : (w : NodeWorld) (i : Option Init) (k sync power : ℕ) → IsOrderly w → Keeps w i → Then (activates w k sync power) i
  activates_keep w i k sync power orderly keeps =
      let near : NodeWorld × List Entry = comes_at w (end_c k) (Starts power) in
      let far : NodeWorld × List Entry = comes_at near.0 (end_h k) (Starts sync) in
      subst (Keeps far.0) (sym (init_append h near.1 far.1 i)) (comes_keep near.0 (reads_init h near.1 i) (end_h k) (Starts sync)
      (comes_goes w (end_c k) (Starts power) orderly).orderly (comes_keep w i (end_c k) (Starts power) orderly keeps))

  -- ### A host does something of its own

  others_act : (w : NodeWorld) (i : Option Init) (k : ℕ) (deeds : List Deed) → IsOrderly w → AllByRecursion (NotesSo (LeavesInit h)) deeds → eqb h k ≡ false
      → Keeps w i → Then (host_does w k NoInput (begins_with k deeds)) i
  others_act w i k deeds orderly notes off keeps = other_acts w k NoInput (begins_with k deeds) i off
      (λ s r here q. let has = own_ends w.sites k s r (orderly_fine w orderly) here q in
      let away : eqb s.host h ≡ false = other_host w.sites k s here off in
      others_begin h s.host away Host (ap (λ b. cond b Controller Host) has.1) (s.host ∷ []) r s.memory.plan
      (λ n. near_end_in (exchanged s.link) NoInput) k deeds
      has.0 (far_off s.host away, tt) notes) keeps

  gives_keep : (w : NodeWorld) (i : Option Init) (k : ℕ) (m : Message) → IsOrderly w → Keeps w i
      → Then (host_does w k NoInput (begins_with k (sending k m))) i
  gives_keep w i k m orderly keeps = by_test (eqb h k)
      (λ z. subst (λ n. Then (host_does w n NoInput (begins_with n (sending n m))) i) (eqb-true h k z) (own_acts w NoInput (λ n. begins_with n (sending n m)) i
      (λ s r here q kept. sends_keeps s (real_host w.sites s here) i r q kept m) keeps))
      (λ z. others_act w i k (sending k m) orderly (grind arith) z keeps)

  -- its node runs, and its end is up
  inits_keep : (w : NodeWorld) (i : Option Init) (e : End) (identity : List ℕ) (pipes : List (List ℕ)) → IsOrderly w → MayInit w e → Keeps w i
      → Then (host_does w e.link NoInput (begins_with e.link (beginning identity pipes))) (init_begun h i (Inits e identity pipes))
  inits_keep w i e identity pipes orderly may keeps = by_test (eqb e.link h)
      (λ z. let same : e.link ≡ h = eqb-true e.link h z in
      let at = site_is (site_at w.sites h) refl same in
      subst (Then (host_does w e.link NoInput (begins_with e.link (beginning identity pipes)))) (sym (begun true z)) (begins at.0 at.1 at.2 same))
      (λ z. subst (Then (host_does w e.link NoInput (begins_with e.link (beginning identity pipes)))) (sym (begun false z))
      (others_act w i e.link (beginning identity pipes) orderly (tt, (tt, tt)) (ne_eqb h e.link (λ same. eqb-false e.link h z (sym same))) keeps)) where
        begun : (b : Bool) → eqb e.link h ≡ b → init_begun h i (Inits e identity pipes) ≡ cond b (Some (init_of identity pipes)) i
        begun b z = ap (λ b. cond b (Some (init_of identity pipes)) i) z

        site_is : (o : Option Site) → site_at w.sites h ≡ o → e.link ≡ h → (s : Site) × (site_at w.sites h ≡ Some s) × (s.node ≡ Some may.node)
        site_is o here same = grind arith

        begins : (s : Site) → site_at w.sites h ≡ Some s → s.node ≡ Some may.node → e.link ≡ h
            → Then (host_does w e.link NoInput (begins_with e.link (beginning identity pipes))) (Some (init_of identity pipes))
        begins s here runs same =
            subst (λ n. Then (host_does w n NoInput (begins_with n (beginning identity pipes))) (Some (init_of identity pipes))) (sym same)
            (own_runs w NoInput (λ n. begins_with n (beginning identity pipes)) (Some (init_of identity pipes)) s may.node here runs
            (begins_keeps s (real_host w.sites s here) i may.node runs (subst (AtSite i) here keeps) identity pipes (grind arith)))

-- ## A tick of a world, losses and power: a host keeps the init that is read of it

-- ### A frame that was refused leaves the init of a node

-- a node that boots doesn't run, and one whose init begins does, with its end up
abbrev pub MayKeep : NodeWorld → Happening → Type 0
MayKeep w (Boots n) = node_at w n ≡ None
MayKeep w (Inits e identity pipes) = MayInit w e
MayKeep w _ = Unit {0}

module _ (h : ℕ) (host : IsHost h) where
  abbrev Has : NodeWorld → Option Init → Type 0
  Has w i = Keeps h host w i

  abbrev So : NodeWorld × List Entry → Option Init → Type 0
  So p i = Then h host p i

  -- ### Ticks

  aged_keep : (w : NodeWorld) (i : Option Init) → Has w i → So (all_aged w) i
  aged_keep w i keeps = left h host (all_aged w).0 (all_aged w).1 i (all_flat (LeavesInit h) (λ (s : Site). entries_for s.host
      (aged_entries Controller s.link.to_controller ++ aged_entries Host s.link.to_host))
      (λ s. quiet_leaves h s.host (aged_entries Controller s.link.to_controller ++ aged_entries Host s.link.to_host)
      (wires_all IsQuiet (λ w c. tt) Controller Host s.link.to_controller s.link.to_host)) w.sites)
      (map_keeps h host (λ (s : Site). record s { link = aged s.link }) (λ s. refl) (λ s. refl) (λ s. refl) w.sites i keeps)

  near_ticks : (w : NodeWorld) (i : Option Init) → IfItRuns 0 (hosts_in w.sites) w.controller → Has w i → So (controller_ticks w) i
  near_ticks w i runs keeps =
      by_controller_tick (λ p. So p i) w
      (λ q. map_keeps h host site_unticked (λ s. refl) (λ s. refl) (λ s. ap (λ (x : NumberedEnd). x.side) (ticks_host s.link [] GoesOut)) w.sites i keeps)
      (λ r q.
      let c : Work = near_tick w r in
      let frames : List Entry = flat_map (λ (s : Site). frames_noted Controller s.host s.link c) w.sites in
      left h host (after_near_tick w c).0 (c.entries ++ frames) i
      (AllByRecursion-append (LeavesInit h) c.entries frames
      (others_step h 0 (zero_off h host) Controller refl (hosts_in w.sites) r w.memory.plan (λ k. (link_to w.sites k).controller) [] TimePasses
      (subst (IfItRuns 0 (hosts_in w.sites)) q runs) (near_off h host (hosts_in w.sites)) tt)
      (all_flat (LeavesInit h) (λ (s : Site). frames_noted Controller s.host s.link c) (λ s. frames_leave h host Controller s.host s.link c) w.sites))
      (map_keeps h host (site_ticked c) (λ s. refl) (λ s. refl)
      (λ s. ap (λ (x : NumberedEnd). x.side) (so_host s.link (is_late_at c s.host) (turns_at c s.host) (ending_of c))) w.sites i keeps))

  -- another host has its tick
  tick_leaves : (s : Site) → IfItRuns s.host (s.host ∷ []) s.node → eqb s.host 0 ≡ false → eqb s.host h ≡ false → AllByRecursion (LeavesInit h) (host_ticks s).1
  tick_leaves s runs number off =
      by_host_tick (λ p. AllByRecursion (LeavesInit h) p.1) s (λ q. tt)
      (λ r q.
      AllByRecursion-append (LeavesInit h) (host_tick s r).entries (frames_noted Host s.host (exchanged s.link) (host_tick s r))
      (host_steps h host s r (λ n. s.link.host) [] TimePasses (subst (IfItRuns s.host (s.host ∷ [])) q runs) number off tt)
      (frames_leave h host Host s.host (exchanged s.link) (host_tick s r)))

  ticks_leave : (sites : List Site) → AreFine sites → AllByRecursion (λ k. eqb k h ≡ false) (hosts_in sites)
      → AllByRecursion (LeavesInit h) (hosts_tick sites).1
  ticks_leave [] fine off = tt
  ticks_leave (s ∷ sites) fine off =
      AllByRecursion-append (LeavesInit h) (host_ticks s).1 (hosts_tick sites).1 (tick_leaves s fine.nodes.0 fine.hosts.0 off.0)
      (ticks_leave sites (record { different = fine.different.1; hosts = fine.hosts.1; nodes = fine.nodes.1 }) off.1)

  -- all hosts have theirs
  ticks_all : (sites : List Site) (i : Option Init) → AreFine sites → AtSite i (site_at sites h)
      → AtSite (reads_init h (hosts_tick sites).1 i) (site_at (hosts_tick sites).0 h)
  ticks_all [] i fine keeps = keeps
  ticks_all (s ∷ sites) i fine keeps = by_test (eqb s.host h)
      (λ is. let here : s.host ≡ h = eqb-true s.host h is in
      let mine : SiteKeepsInit (reads_init h first.1 i) first.0 = subst (λ n. SiteKeepsInit (reads_init n first.1 i) first.0) here
      (ticks_keep s i (subst IsHost (sym here) host) (subst (AtSite i) (was true is) keeps)) in
      subst (AtSite (reads_init h (first.1 ++ later.1) i)) (sym (found_is true is))
      (subst (λ y. SiteKeepsInit y first.0) (sym (both ∙ leaves_all h later.1 (reads_init h first.1 i) (ticks_leave sites rest
      (subst (λ n. AllByRecursion (λ k. eqb k n ≡ false) (hosts_in sites)) here fine.different.0)))) mine))
      (λ off. subst (AtSite (reads_init h (first.1 ++ later.1) i)) (sym (found_is false off)) (subst (λ y. AtSite y (site_at later.0 h))
      (sym (both ∙ ap (reads_init h later.1) (leaves_all h first.1 i (tick_leaves s fine.nodes.0 fine.hosts.0 off)))) ((ticks_all sites i rest)
      (subst (AtSite i) (was false off) keeps)))) where
        first : Site × List Entry
        first = host_ticks s

        later : List Site × List Entry
        later = hosts_tick sites

        rest : AreFine sites
        rest = record { different = fine.different.1; hosts = fine.hosts.1; nodes = fine.nodes.1 }

        found_is : (b : Bool) → eqb s.host h ≡ b → site_at (first.0 ∷ later.0) h ≡ cond b (Some first.0) (site_at later.0 h)
        found_is b q = ap (λ b. cond b (Some first.0) (site_at later.0 h)) (ap (λ n. eqb n h) (tick_host s) ∙ q)

        was : (b : Bool) → eqb s.host h ≡ b → site_at (s ∷ sites) h ≡ cond b (Some s) (site_at sites h)
        was b q = ap (λ b. cond b (Some s) (site_at sites h)) q

        both : reads_init h (first.1 ++ later.1) i ≡ reads_init h later.1 (reads_init h first.1 i)
        both = init_append h first.1 later.1 i

  ticks_keep_all : (w : NodeWorld) (i : Option Init) → IsOrderly w → Has w i → So (world_ticks w) i
  ticks_keep_all w i orderly keeps =
      let old : NodeWorld × List Entry = all_aged w in
      let near : NodeWorld × List Entry = controller_ticks old.0 in
      let far : List Site × List Entry = hosts_tick near.0.sites in
      let grow : Site → Site = λ (s : Site). record s { link = aged s.link } in
      let fine : AreFine old.0.sites = map_fine grow (λ s. refl) (λ s. refl) w.sites (orderly_fine w orderly) in
      let runs : IfItRuns 0 (hosts_in old.0.sites) old.0.controller =
      subst (λ hs. IfItRuns 0 hs w.controller) (sym (hosts_same grow (λ s. refl) w.sites)) orderly.controller in
      let two : Has near.0 (reads_init h near.1 (reads_init h old.1 i)) = near_ticks old.0 (reads_init h old.1 i) runs (aged_keep w i keeps) in
      subst (λ y. AtSite y (site_at far.0 h)) (sym (init_append h old.1 (near.1 ++ far.1) i ∙ init_append h near.1 far.1 (reads_init h old.1 i)))
      (ticks_all near.0.sites (reads_init h near.1 (reads_init h old.1 i)) (near_ticks_fine old.0 fine) two)

  -- ### Sites that keep it whatever host is changed

  with_keeps : (k : ℕ) (f : Site → Site) → ((s : Site) → (f s).host ≡ s.host) → (i : Option Init) → ((s : Site) → SiteKeepsInit i s → SiteKeepsInit i (f s))
      → (sites : List Site) → AtSite i (site_at sites h) → AtSite i (site_at (with_site k f sites) h)
  with_keeps k f same i one sites keeps =
      sites_is (λ s. changed_if (eqb s.host k) f s) (λ s. changed_same (λ (x : Site). x.host) (eqb s.host k) f s same) sites h (AtSite i)
      (λ z. subst (AtSite i) z keeps)
      (λ s z. grind arith)

  lost_keep : (w : NodeWorld) (i : Option Init) (e : End) (why : Loss) → Has w i → So (frame_lost w e why) i
  lost_keep w i e why keeps = by_test e.at_host
      (λ q. rw q (left h host (record w { sites = with_site e.link far w.sites }) (entries_for e.link (first_lost Host why (link_to w.sites e.link).to_host)) i
      (quiet_leaves h e.link (first_lost Host why (link_to w.sites e.link).to_host) (lost_quiet Host why (link_to w.sites e.link).to_host))
      (with_keeps e.link far (λ s. refl) i (λ s k. grind arith) w.sites keeps)))
      (λ q. rw q (left h host (record w { controller = counts why e.link w.controller; sites = with_site e.link near w.sites })
      (entries_for e.link (first_lost Controller why (link_to w.sites e.link).to_controller)) i
      (grind arith)
      (with_keeps e.link near (λ s. refl) i (λ s k. keep_same i s (near s) refl refl refl k) w.sites keeps))) where
        near : Site → Site
        near s = record s { link = happens s.link (AtController (Lose why)) }

        far : Site → Site
        far s = record s { link = happens s.link (AtHost (Lose why)); node = counts why e.link s.node }

  -- ### Memories

  memory_far : (w : NodeWorld) (n : ℕ) (m : Memory) → eqb n 0 ≡ false
      → with_memory n m w ≡ record w { sites = with_site n (λ (s : Site). record s { memory = m }) w.sites }
  memory_far w n m q = rw q refl

  memory_keeps : (w : NodeWorld) (n : ℕ) (m : Memory) (i : Option Init) → Has w i → Has (with_memory n m w) i
  memory_keeps w n m i keeps =
      by_memory (λ v. Has v i) n w m (λ q. keeps)
      (λ q. with_keeps n (λ (s : Site). record s { memory = m }) (λ s. refl) i (λ s k. keep_same i s (record s { memory = m }) refl refl refl k) w.sites keeps)

  -- ### Power

  cut_leaves : (n : ℕ) → eqb n h ≡ false → LeavesInit h (entry.Cut n)
  cut_leaves n off = λ y. ap (λ b. cond b None y) off

  cut_own : (sites : List Site) (i : Option Init) → AtSite (reads_init h (entry.Cut h ∷ []) i) (site_at (with_site h host_cut sites) h)
  cut_own sites i = sites_is (λ s. changed_if (eqb s.host h) host_cut s)
      (λ s. changed_same (λ (x : Site). x.host) (eqb s.host h) host_cut s (λ x. refl)) sites h
      (AtSite (reads_init h (entry.Cut h ∷ []) i))
      (λ z. ap (λ b. cond b None i) (eq-eqb h h refl))
      (λ s z. subst (λ b. SiteKeepsInit (reads_init h (entry.Cut h ∷ []) i) (changed_if b host_cut s)) (sym (eq-eqb s.host h (site_host sites h s z)))
      (subst (λ n. SiteKeepsInit (reads_init n (entry.Cut n ∷ []) i) (host_cut s)) (site_host sites h s z) (cut_keeps s i)))

  cut_keep : (w : NodeWorld) (n : ℕ) (i : Option Init) → Has w i → So (loses_power_at n w, entry.Cut n ∷ []) i
  cut_keep w n i keeps =
      by_power (λ v. So (v, entry.Cut n ∷ []) i) n w
      (λ q. left h host (controller_cut w) (entry.Cut n ∷ []) i
      (cut_leaves n (ap (λ m. eqb m h) (eqb-true n 0 q) ∙ zero_off h host), tt) (map_keeps h host cut_here (λ s. refl) (λ s. refl)
      (λ s. ap (λ (x : NumberedEnd). x.side) (here_host s.link (Step NoInput [] CutOff))) w.sites i keeps))
      (λ q. far (cases_Bool (eqb n h)))
    where
      cut_here : Site → Site
      cut_here s = record s { link = happens s.link (AtController (Step NoInput [] CutOff)) }

      far : (eqb n h ≡ true) ⊎ (eqb n h ≡ false) → So (record w { sites = with_site n host_cut w.sites }, entry.Cut n ∷ []) i
      far (inl is) =
          subst (λ m. AtSite (reads_init h (entry.Cut m ∷ []) i) (site_at (with_site m host_cut w.sites) h)) (sym (eqb-true n h is)) (cut_own w.sites i)
      far (inr off) =
          left h host (record w { sites = with_site n host_cut w.sites }) (entry.Cut n ∷ []) i (cut_leaves n off, tt)
          (other_keeps h host n host_cut (λ s. refl) w.sites i (ne_eqb h n (λ same. eqb-false n h off (sym same))) keeps)

  -- ### Boots

  node_is : (w : NodeWorld) → node_at w h ≡ far_node (site_at w.sites h)
  node_is w = by_option (site_at w.sites h) (λ z. (grind arith) ∙ sym (ap far_node z)) (λ s z. (rw ((zero h host), z) refl) ∙ sym (ap far_node z))

  module _ (w : NodeWorld) (n : ℕ) (i : Option Init) (keeps : Has w i) (may : node_at w n ≡ None) where
    abbrev before : Memory
    before = memory_at w n

    abbrev after_it : Memory
    after_it = after_planned (boot_writes before.content) before

    abbrev written : NodeWorld
    written = boot_written w n

    abbrev runs : Running
    runs = boot_found w n

    abbrev noted : Entry
    noted = entry.Booted n (count_of runs.core.journal)

    written_keeps : Has written i
    written_keeps = memory_keeps w n after_it i keeps

    abbrev far_v : NodeWorld
    far_v = record written { sites = with_site n (λ (s : Site). record s { node = Some runs }) written.sites }

    -- it doesn't run yet
    is_off : eqb n 0 ≡ false → n ≡ h → (s : Site) → site_at written.sites h ≡ Some s → s.node ≡ None
    is_off q same s here =
        sym (ap far_node here)
        ∙ (ap (λ (v : NodeWorld). far_node (site_at v.sites h)) (memory_far w n after_it q)
        ∙ (with_kept n (λ (s : Site). record s { memory = after_it }) (λ s. refl) (λ s. refl) w.sites h
        ∙ (sym (node_is w) ∙ (ap (node_at w) (sym same) ∙ may))))

    links_are : eqb n 0 ≡ false → links_of w n ≡ n ∷ []
    links_are q = rw q refl

    own_boots : eqb n 0 ≡ false → n ≡ h → (o : Option Site) → site_at written.sites h ≡ o → So (far_v, noted ∷ []) i
    own_boots q same None here = subst (λ m. AtSite i (site_at (with_site m (λ (s : Site). record s { node = Some runs }) written.sites) h)) (sym same)
        (own_none here) where
          own_none : site_at written.sites h ≡ None → AtSite i (site_at (with_site h (λ (s : Site). record s { node = Some runs }) written.sites) h)
          own_none here =
              sites_is (λ s. changed_if (eqb s.host h) (λ (s : Site). record s { node = Some runs }) s)
              (λ s. changed_same (λ (x : Site). x.host) (eqb s.host h) (λ (s : Site). record s { node = Some runs }) s (λ x. refl)) written.sites h
              (AtSite i) (λ z. subst (AtSite i) here written_keeps) (λ s z. let none : None ≡ Some s = sym here ∙ z in absurd (cc none))
    own_boots q same (Some s) here =
        let at : s.host ≡ h = site_host written.sites h s here in
        let node : found s.host (s.host ∷ []) before.content ≡ runs = grind arith in
        subst (λ m. AtSite i (site_at (with_site m (λ (s : Site). record s { node = Some runs }) written.sites) h)) (sym same)
        (own_keeps h host (λ (s : Site). record s { node = Some runs }) (λ s. refl) written.sites s i here
        (subst (λ r. SiteKeepsInit i (record s { node = Some r })) node (grind arith)))

    far_keep : eqb n 0 ≡ false → (eqb n h ≡ true) ⊎ (eqb n h ≡ false) → So (far_v, noted ∷ []) i
    far_keep q (inl is) = own_boots q (eqb-true n h is) (site_at written.sites h) refl
    far_keep q (inr off) =
        other_keeps h host n (λ (s : Site). record s { node = Some runs }) (λ s. refl) written.sites i
        (ne_eqb h n (λ same. eqb-false n h off (sym same))) written_keeps

    boots_keep : So (boots w n) i
    boots_keep =
        by_boot (λ p. So p i) w n (cut_keep written n i written_keeps)
        (by_running (λ v. So (v, noted ∷ []) i) n written runs (λ q. written_keeps) (λ q. far_keep q (cases_Bool (eqb n h))))

  -- ### Events

  pub event_keeps : (w : NodeWorld) (c : Happening) (i : Option Init) → IsOrderly w → MayKeep w c → Has w i → So (world_step w c) (init_begun h i c)
  event_keeps w (Boots n) i orderly may keeps = boots_keep w n i keeps may
  event_keeps w (IsCut n) i orderly may keeps = cut_keep w n i keeps
  event_keeps w (Gives e m) i orderly may keeps = gives_keep h host w i e.link m orderly keeps
  event_keeps w (Inits e identity pipes) i orderly may keeps = inits_keep h host w i e identity pipes orderly may keeps
  event_keeps w (Takes e) i orderly may keeps = comes_keep h host w i e NextFrame orderly keeps
  event_keeps w (Loses e why) i orderly may keeps = lost_keep w i e why keeps
  event_keeps w Ticks i orderly may keeps = ticks_keep_all w i orderly keeps
  event_keeps w (Resets e window) i orderly may keeps = comes_keep h host w i e (AsksReset window) orderly keeps
  event_keeps w (Activates k sync power) i orderly may keeps = activates_keep h host w i k sync power orderly keeps
  event_keeps w (Arms n plan) i orderly may keeps = memory_keeps w n (record (memory_at w n) { plan = Some plan }) i keeps
