-- Whatever happens to a world, a node that runs keeps what is read of REC_ERROR of its end.
use Rattle.node_laws.proofs.Words.{AllByRecursion, AllByRecursion-append, AreDifferent, AtController, AtEnd, Book, Bool, Comes, Controller, CutOff, Deed, Desk}
use Rattle.node_laws.proofs.Words.{End, Entry, ErrorCount, HasEnds, Host, IfItRuns, IsOrderly, LinkInput, List, Memory, NoInput, NodeWorld, None, NumberedEnd}
use Rattle.node_laws.proofs.Words.{Option, Running, Site, Some, Starts, Step, TimePasses, Work, [], activates, after_controller, after_host, after_host_step}
use Rattle.node_laws.proofs.Words.{after_near_tick, after_planned, aged, aged_entries, all_aged, all_flat, and-false, ap, arith, arrival, begins_with}
use Rattle.node_laws.proofs.Words.{boot_found}
use Rattle.node_laws.proofs.Words.{boot_writes, boot_written, boots, by_boot, by_coming, by_controller, by_controller_tick, by_host, by_host_tick, by_memory}
use Rattle.node_laws.proofs.Words.{by_power, by_running, by_test, cases_Bool, changed_if, changed_same, comes_at, comes_to, cond, controller_cut}
use Rattle.node_laws.proofs.Words.{controller_does, controller_ticks, controller_work, count_of, end_c, end_h, entries_for, eq-eqb, eqb, eqb-false, eqb-true}
use Rattle.node_laws.proofs.Words.{exchanged, false, flat_map, found, frames_noted, happens, host_cut, host_does, host_tick, host_ticks, host_work, hosts_in}
use Rattle.node_laws.proofs.Words.{hosts_tick, inl, inr, link_after_controller, link_to, links_of, loses_power_at, map, memory_at, ne_eqb, near_end_in}
use Rattle.node_laws.proofs.Words.{near_tick, new_desk, node_at, node_of, refl, runs_on, site_at, site_ticked, site_unticked, steps, subst, sym, true}
use Rattle.node_laws.proofs.Words.{true≢false, wires_for, with_memory, with_site, world_ticks, ℕ, ◌++◌, ◌∙◌, ◌∷◌, ◌≡◌, ◌⊎◌}
use Rattle.node_laws.proofs.kept.Events.{hosts_same}
use Rattle.node_laws.proofs.telling.Accounts.{AreMute}
use Rattle.node_laws.proofs.telling.Events.{site_host, site_is}
use Rattle.node_laws.proofs.telling.WorldTicks.{tick_host}
use Rattle.node_laws.proofs.turns.Nodes.{sites_is}
use Rattle.node_laws.proofs.views.Doing.{AreUnset, IsStill, Leaves, reads, reads_append, still_all, still_leaves}
use Rattle.node_laws.proofs.views.Nodes.{IfKeeps, IsOther, KeepsErrors, aged_still, arrival_still, frames_still, leaves_kept, others_begin, others_step}
use Rattle.node_laws.proofs.views.Nodes.{own_begins, own_steps}
use Rattle.trace_model.specs.declared.entry.Entry.TheVariants as entry

-- ## What happens to a world: a node that runs keeps what is read of REC_ERROR of its end

-- ### Sites

-- the node of a host, while it runs
abbrev pub far_node : Option Site → Option Running
far_node None = None
far_node (Some s) = s.node

-- nodes stay where each host keeps its own
node_map : (g : Site → Site) → ((s : Site) → (g s).host ≡ s.host) → ((s : Site) → (g s).node ≡ s.node) → (sites : List Site) (h : ℕ)
    → far_node (site_at (map g sites) h) ≡ far_node (site_at sites h)
node_map g host node sites h = sites_is g host sites h (λ o. far_node o ≡ far_node (site_at sites h)) (λ z. sym (ap far_node z))
    (λ s z. node s ∙ sym (ap far_node z))

pub with_kept : (k : ℕ) (f : Site → Site) → ((s : Site) → (f s).host ≡ s.host) → ((s : Site) → (f s).node ≡ s.node) → (sites : List Site) (h : ℕ)
    → far_node (site_at (with_site k f sites) h) ≡ far_node (site_at sites h)
with_kept k f host node sites h = node_map (λ s. changed_if (eqb s.host k) f s) (λ s. changed_same (λ x. x.host) (eqb s.host k) f s host)
    (λ s. changed_same (λ x. x.node) (eqb s.host k) f s node) sites h

-- another host is changed
pub with_other : (k : ℕ) (f : Site → Site) → ((s : Site) → (f s).host ≡ s.host) → (sites : List Site) (h : ℕ) → eqb h k ≡ false
    → far_node (site_at (with_site k f sites) h) ≡ far_node (site_at sites h)
with_other k f host sites h off =
    sites_is (λ s. changed_if (eqb s.host k) f s) (λ s. changed_same (λ x. x.host) (eqb s.host k) f s host) sites h
    (λ o. far_node o ≡ far_node (site_at sites h)) (λ z. sym (ap far_node z))
    (λ s z. ap (λ b. (changed_if b f s).node) (ap (λ n. eqb n k) (site_host sites h s z) ∙ off) ∙ sym (ap far_node z))

-- this host is
pub with_own : (k : ℕ) (f : Site → Site) → ((s : Site) → (f s).host ≡ s.host) → (sites : List Site) (s : Site) → site_at sites k ≡ Some s
    → far_node (site_at (with_site k f sites) k) ≡ (f s).node
with_own k f host sites s here =
    sites_is (λ s. changed_if (eqb s.host k) f s) (λ s. changed_same (λ x. x.host) (eqb s.host k) f s host) sites k (λ o. far_node o ≡ (f s).node)
    (λ z. let no : None ≡ Some s = sym z ∙ here in absurd (cc no))
    (λ x z. let both : Some x ≡ Some s = sym z ∙ here in
    let one : x ≡ s = cc in
    ap (λ b. (changed_if b f x).node) (eq-eqb x.host k (site_host sites k x z)) ∙ ap (λ y. (f y).node) one)

-- none has this number
pub with_none : (k : ℕ) (f : Site → Site) → ((s : Site) → (f s).host ≡ s.host) → (sites : List Site) (h : ℕ) → site_at sites h ≡ None
    → far_node (site_at (with_site k f sites) h) ≡ None
with_none k f host sites h none =
    sites_is (λ s. changed_if (eqb s.host k) f s) (λ s. changed_same (λ x. x.host) (eqb s.host k) f s host) sites h (λ o. far_node o ≡ None) (λ z. refl)
    (λ s z. let no : None ≡ Some s = sym none ∙ z in absurd (cc no))

-- hosts have different numbers, none of them 00, and each has an end on its own link
pub record AreFine (sites : List Site) : Type 0 where
  pub different : AreDifferent (hosts_in sites)
  pub hosts : AllByRecursion (λ (s : Site). (eqb s.host 0) ≡ false) sites
  pub nodes : AllByRecursion (λ (s : Site). IfItRuns s.host (s.host ∷ []) s.node) sites

pub orderly_fine : (w : NodeWorld) → IsOrderly w → AreFine w.sites
orderly_fine w o = record { different = o.different; hosts = o.hosts; nodes = o.nodes }

pub map_fine : (g : Site → Site) → ((s : Site) → (g s).host ≡ s.host) → ((s : Site) → (g s).node ≡ s.node) → (sites : List Site) → AreFine sites
    → AreFine (map g sites)
map_fine g host node sites a = record {
  different = subst AreDifferent (sym (hosts_same g host sites)) a.different;
  hosts = all_hosts sites a.hosts;
  nodes = all_nodes sites a.nodes;
} where
  all_hosts : (sites : List Site) → AllByRecursion (λ (s : Site). (eqb s.host 0) ≡ false) sites
      → AllByRecursion (λ (s : Site). (eqb s.host 0) ≡ false) (map g sites)
  all_hosts [] all = tt
  all_hosts (s ∷ sites) all = (ap (λ n. eqb n 0) (host s) ∙ all.0, all_hosts sites all.1)

  all_nodes : (sites : List Site) → AllByRecursion (λ (s : Site). IfItRuns s.host (s.host ∷ []) s.node) sites
      → AllByRecursion (λ (s : Site). IfItRuns s.host (s.host ∷ []) s.node) (map g sites)
  all_nodes [] all = tt
  all_nodes (s ∷ sites) all = (
    subst (λ o. IfItRuns (g s).host ((g s).host ∷ []) o) (sym (node s))
        (subst (λ n. IfItRuns n (n ∷ []) s.node) (sym (host s)) all.0),
    all_nodes sites all.1,
  )

pub near_ticks_fine : (w : NodeWorld) → AreFine w.sites → AreFine (controller_ticks w).0.sites
near_ticks_fine w fine =
    by_controller_tick (λ p. AreFine p.0.sites) w (λ q. map_fine site_unticked (λ s. refl) (λ s. refl) w.sites fine)
    (λ r q. map_fine (site_ticked (near_tick w r)) (λ s. refl) (λ s. refl) w.sites fine)

module _ (e : End) (real : e.at_host ≡ true → eqb e.link 0 ≡ false) where
  -- ### The node of the end

  -- what it runs as
  abbrev pub own_node : NodeWorld → Option Running
  own_node w = cond e.at_host (far_node (site_at w.sites e.link)) w.controller

  pub own_node_is : (w : NodeWorld) → node_at w (node_of e) ≡ own_node w
  own_node_is w = grind arith

  pub near_node : (w : NodeWorld) → e.at_host ≡ false → own_node w ≡ w.controller
  near_node w q = rw q refl

  pub host_node : (w : NodeWorld) → e.at_host ≡ true → own_node w ≡ far_node (site_at w.sites e.link)
  host_node w q = rw q refl

  -- what is read is what it keeps
  abbrev pub Kept : NodeWorld → ErrorCount → Type 0
  Kept w x = IfKeeps e (own_node w) x

  -- a controller that runs has the tables that are read
  abbrev pub Known : NodeWorld → ErrorCount → Type 0
  Known w x = e.at_host ≡ false → (r : Running) → w.controller ≡ Some r → r.core.tables ≡ x.book.tables

  abbrev pub After : NodeWorld × List Entry → ErrorCount → Type 0
  After p x = Kept p.0 (reads e p.1 x)

  -- its node stays, and what is noted leaves it
  pub left : (w v : NodeWorld) (es : List Entry) (x : ErrorCount) → own_node v ≡ own_node w → AllByRecursion (Leaves e) es → Kept w x → After (v, es) x
  left w v es x same so k = subst (λ o. IfKeeps e o (reads e es x)) (sym same) (leaves_kept e (own_node w) x es so k)

  near_single : (hosts : List ℕ) → e.at_host ≡ false → e.at_host ≡ true → hosts ≡ e.link ∷ []
  near_single hosts near far = absurd (true≢false (sym far ∙ near))

  near_zero : e.at_host ≡ false → node_of e ≡ 0
  near_zero q = rw q refl

  host_link : e.at_host ≡ true → node_of e ≡ e.link
  host_link q = rw q refl

  -- ends of the controller are others where this one is a host's
  pub near_other : e.at_host ≡ true → (hosts : List ℕ) → AllByRecursion (IsOther e Controller) hosts
  near_other far [] = tt
  near_other far (h ∷ hosts) = (rw far (and-false (eqb h e.link)), near_other far hosts)

  -- the end of a host is another one where this one is the controller's, or another host's
  far_other : (h : ℕ) → (e.at_host ≡ true → eqb h e.link ≡ false) → IsOther e Host h
  far_other h off = by_test e.at_host (λ q. rw (q, off q) refl) (λ q. rw q (and-false (eqb h e.link)))

  -- ### Something comes

  near_does : (w : NodeWorld) (x : ErrorCount) (h : ℕ) (comes : Comes) (i : LinkInput) → IsOrderly w → Known w x → Kept w x
      → After (controller_does w h comes (steps (AtEnd h i))) x
  near_does w x h comes i orderly known k = by_controller (λ p. After p x) w h comes (steps (AtEnd h i)) k runs where
    runs : (r : Running) → w.controller ≡ Some r → After (after_controller w h comes (controller_work w r h comes (steps (AtEnd h i)))) x
    runs r q = by_test e.at_host
        (λ far. left w (after_controller w h comes c).0 (c.entries ++ frames) x
        (host_node (after_controller w h comes c).0 far
        ∙ (node_map (link_after_controller h comes c) (λ s. refl) (λ s. refl) w.sites e.link ∙ sym (host_node w far)))
        (AllByRecursion-append (Leaves e) c.entries frames
        (others_step e 0 Controller (hosts_in w.sites) r w.memory.plan (λ n. near_end_in (link_to w.sites n)
        (comes_to h comes n)) (entries_for h (arrival Controller (link_to w.sites h) comes)) (AtEnd h i) has refl (near_other far (hosts_in w.sites))
        (still_leaves e (entries_for h (arrival Controller (link_to w.sites h) comes)) came)) (still_leaves e frames frames_so)) k)
        (λ near. subst (λ o. IfKeeps e o (reads e (c.entries ++ frames) x)) (sym (near_node (after_controller w h comes c).0 near))
        (own_steps e real (hosts_in w.sites) (near_single (hosts_in w.sites) near) x r w.memory.plan
        (λ n. near_end_in (link_to w.sites n) (comes_to h comes n))
        (entries_for h (arrival Controller (link_to w.sites h) comes)) frames (AtEnd h i) (grind arith) came frames_so (λ n. known n r q)
        (subst (λ o. IfKeeps e o x) (near_node w near ∙ q) k))) where
          c : Work
          c = controller_work w r h comes (steps (AtEnd h i))

          frames : List Entry
          frames = flat_map (λ (s : Site). frames_noted Controller s.host (wires_for s.link (comes_to h comes s.host)) c) w.sites

          has : HasEnds 0 (hosts_in w.sites) r
          has = subst (IfItRuns 0 (hosts_in w.sites)) q orderly.controller

          frames_so : AllByRecursion (IsStill e) frames
          frames_so = all_flat (IsStill e) (λ (s : Site). frames_noted Controller s.host (wires_for s.link (comes_to h comes s.host)) c)
              (λ s. frames_still e Controller s.host (wires_for s.link (comes_to h comes s.host)) c) w.sites

          came : AllByRecursion (IsStill e) (entries_for h (arrival Controller (link_to w.sites h) comes))
          came = arrival_still e Controller h (link_to w.sites h) comes

  -- a host acts: it is that of the end, or another one
  host_acts : (w : NodeWorld) (x : ErrorCount) (h : ℕ) (comes : Comes) (f : Work → Work) → Kept w x
      → ((s : Site) (r : Running) → site_at w.sites h ≡ Some s → s.node ≡ Some r → e.at_host ≡ true → eqb e.link h ≡ true → KeepsErrors e r x
      → IfKeeps e (runs_on (host_work s r comes f)) (reads e ((host_work s r comes f).entries
      ++ frames_noted Host h (wires_for (exchanged s.link) comes) (host_work s r comes f)) x))
      → ((s : Site) (r : Running) → site_at w.sites h ≡ Some s → s.node ≡ Some r → (e.at_host ≡ true → eqb h e.link ≡ false)
      → AllByRecursion (Leaves e) (host_work s r comes f).entries)
      → After (host_does w h comes f) x
  host_acts w x h comes f k own others = by_host (λ p. After p x) w h comes f k acts where
    acts : (s : Site) (r : Running) → site_at w.sites h ≡ Some s → s.node ≡ Some r → After (after_host_step w h comes s (host_work s r comes f)) x
    acts s r here q = by_side (cases_Bool e.at_host) (cases_Bool (eqb e.link h)) where
      c : Work
      c = host_work s r comes f

      v : NodeWorld
      v = record w { sites = with_site h (after_host comes c) w.sites }

      frames : List Entry
      frames = frames_noted Host h (wires_for (exchanged s.link) comes) c

      away : own_node v ≡ own_node w → (e.at_host ≡ true → eqb h e.link ≡ false) → After (v, c.entries ++ frames) x
      away same off =
          left w v (c.entries ++ frames) x same (AllByRecursion-append (Leaves e) c.entries frames (others s r here q off) (still_leaves e frames
          (frames_still e Host h (wires_for (exchanged s.link) comes) c))) k

      by_side : (e.at_host ≡ true) ⊎ (e.at_host ≡ false) → (eqb e.link h ≡ true) ⊎ (eqb e.link h ≡ false) → After (v, c.entries ++ frames) x
      by_side (inr near) b = away (near_node v near ∙ sym (near_node w near)) (λ far. absurd (true≢false (sym far ∙ near)))
      by_side (inl far) (inr off) =
          away (host_node v far ∙ (with_other h (after_host comes c) (λ z. refl) w.sites e.link off ∙ sym (host_node w far)))
          (λ z. ne_eqb h e.link (λ y. eqb-false e.link h off (sym y)))
      by_side (inl far) (inl is) =
          let link : e.link ≡ h = eqb-true e.link h is in
          let node : own_node v ≡ runs_on c = host_node v far
          ∙ (ap (λ n. far_node (site_at v.sites n)) link ∙ with_own h (after_host comes c) (λ z. refl) w.sites s here) in
          let was : own_node w ≡ Some r = host_node w far ∙ (ap (λ n. far_node (site_at w.sites n)) link ∙ (ap far_node here ∙ q)) in
          subst (λ o. IfKeeps e o (reads e (c.entries ++ frames) x)) (sym node) (own s r here q far is (subst (λ o. IfKeeps e o x) was k))

  -- a host that runs has an end on its own link
  has_own : (w : NodeWorld) (h : ℕ) (s : Site) (r : Running) → AreFine w.sites → site_at w.sites h ≡ Some s → s.node ≡ Some r
      → HasEnds s.host (s.host ∷ []) r × (eqb s.host 0 ≡ false) × (s.host ≡ h)
  has_own w h s r fine here q = (
    subst (IfItRuns s.host (s.host ∷ [])) q (site_is (λ (s : Site). IfItRuns s.host (s.host ∷ []) s.node) w.sites h s fine.nodes here),
    site_is (λ (s : Site). (eqb s.host 0) ≡ false) w.sites h s fine.hosts here,
    site_host w.sites h s here,
  )

  own_ends : (s : Site) (r : Running) → e.at_host ≡ true → s.host ≡ e.link → HasEnds s.host (s.host ∷ []) r
      → HasEnds (node_of e) (s.host ∷ []) r × (e.at_host ≡ true → (s.host ∷ []) ≡ e.link ∷ [])
  own_ends s r far is has = (subst (λ n. HasEnds n (s.host ∷ []) r) (is ∙ sym (host_link far)) has, λ z. ap (λ n. n ∷ []) is)

  no_near : {X : Type 0} → e.at_host ≡ true → e.at_host ≡ false → X
  no_near far near = absurd (true≢false (sym far ∙ near))

  host_side : (n : ℕ) → eqb n 0 ≡ false → cond (eqb n 0) Controller Host ≡ Host
  host_side n off = rw off refl

  far_does : (w : NodeWorld) (x : ErrorCount) (h : ℕ) (comes : Comes) (i : LinkInput) → AreFine w.sites → Kept w x
      → After (host_does w h comes (steps (AtEnd h i))) x
  far_does w x h comes i fine k = host_acts w x h comes (steps (AtEnd h i)) k own others where
    own : (s : Site) (r : Running) → site_at w.sites h ≡ Some s → s.node ≡ Some r → e.at_host ≡ true → eqb e.link h ≡ true → KeepsErrors e r x
        → IfKeeps e (runs_on (host_work s r comes (steps (AtEnd h i)))) (reads e ((host_work s r comes (steps (AtEnd h i))).entries
        ++ frames_noted Host h (wires_for (exchanged s.link) comes) (host_work s r comes (steps (AtEnd h i)))) x)
    own s r here q far is keeps =
        let has = has_own w h s r fine here q in
        let ends = own_ends s r far (has.2 ∙ sym (eqb-true e.link h is)) has.0 in
        own_steps e real (s.host ∷ []) ends.1 x r s.memory.plan (λ n. near_end_in (exchanged s.link) comes) (entries_for s.host
        (arrival Host (exchanged s.link) comes)) (frames_noted Host h (wires_for (exchanged s.link) comes) (host_work s r comes (steps (AtEnd h i))))
        (AtEnd h i) ends.0 (arrival_still e Host s.host (exchanged s.link) comes) (frames_still e Host h (wires_for (exchanged s.link) comes)
        (host_work s r comes (steps (AtEnd h i)))) (λ near. no_near far near) keeps

    others : (s : Site) (r : Running) → site_at w.sites h ≡ Some s → s.node ≡ Some r → (e.at_host ≡ true → eqb h e.link ≡ false)
        → AllByRecursion (Leaves e) (host_work s r comes (steps (AtEnd h i))).entries
    others s r here q off =
        let has = has_own w h s r fine here q in
        others_step e s.host Host (s.host ∷ []) r s.memory.plan (λ n. near_end_in (exchanged s.link) comes) (entries_for s.host
        (arrival Host (exchanged s.link) comes)) (AtEnd h i) has.0 (host_side s.host has.1) (grind arith)
        (still_leaves e (entries_for s.host (arrival Host (exchanged s.link) comes)) (arrival_still e Host s.host (exchanged s.link) comes))

  pub far_begins : (w : NodeWorld) (x : ErrorCount) (h : ℕ) (deeds : List Deed) → AreFine w.sites → AreUnset deeds → AreMute deeds → Kept w x
      → After (host_does w h NoInput (begins_with h deeds)) x
  far_begins w x h deeds fine unset mute k = host_acts w x h NoInput (begins_with h deeds) k own others where
    own : (s : Site) (r : Running) → site_at w.sites h ≡ Some s → s.node ≡ Some r → e.at_host ≡ true → eqb e.link h ≡ true → KeepsErrors e r x
        → IfKeeps e (runs_on (host_work s r NoInput (begins_with h deeds))) (reads e ((host_work s r NoInput (begins_with h deeds)).entries
        ++ frames_noted Host h (wires_for (exchanged s.link) NoInput) (host_work s r NoInput (begins_with h deeds))) x)
    own s r here q far is keeps =
        let has = has_own w h s r fine here q in
        let ends = own_ends s r far (has.2 ∙ sym (eqb-true e.link h is)) has.0 in
        own_begins e real (s.host ∷ []) ends.1 x r s.memory.plan (λ n. near_end_in (exchanged s.link) NoInput) (frames_noted Host h
        (wires_for (exchanged s.link) NoInput) (host_work s r NoInput (begins_with h deeds))) h deeds ends.0 (frames_still e Host h
        (wires_for (exchanged s.link) NoInput) (host_work s r NoInput (begins_with h deeds))) unset (λ near. no_near far near) keeps

    others : (s : Site) (r : Running) → site_at w.sites h ≡ Some s → s.node ≡ Some r → (e.at_host ≡ true → eqb h e.link ≡ false)
        → AllByRecursion (Leaves e) (host_work s r NoInput (begins_with h deeds)).entries
    others s r here q off =
        let has = has_own w h s r fine here q in
        others_begin e s.host Host (s.host ∷ []) r s.memory.plan (λ n. near_end_in (exchanged s.link) NoInput) h deeds has.0 (host_side s.host has.1)
        (far_other s.host (λ far. ap (λ n. eqb n e.link) has.2 ∙ off far), tt) mute

  pub comes_kept : (w : NodeWorld) (x : ErrorCount) (a : End) (comes : Comes) → IsOrderly w → Known w x → Kept w x → After (comes_at w a comes) x
  comes_kept w x a comes orderly known k =
      by_coming (λ p. After p x) w a comes k (λ i far q. far_does w x a.link comes i (orderly_fine w orderly) k)
      (λ i near q. near_does w x a.link comes i orderly known k)

  -- to the end of a host
  far_comes : (w : NodeWorld) (x : ErrorCount) (h : ℕ) (comes : Comes) → AreFine w.sites → Kept w x → After (comes_at w (end_h h) comes) x
  far_comes w x h comes fine k =
      by_coming (λ p. After p x) w (end_h h) comes k (λ i far q. far_does w x h comes i fine k) (λ i near q. absurd (cc near))

  -- something that comes to the controller leaves the hosts as they are
  near_fine : (w : NodeWorld) (h : ℕ) (comes : Comes) → AreFine w.sites → AreFine (comes_at w (end_c h) comes).0.sites
  near_fine w h comes fine =
      by_coming (λ p. AreFine p.0.sites) w (end_c h) comes fine (λ i far q. absurd (cc far))
      (λ i near q.
      by_controller (λ p. AreFine p.0.sites) w h comes (steps (AtEnd h i)) fine
      (λ r runs. map_fine (link_after_controller h comes (controller_work w r h comes (steps (AtEnd h i)))) (λ s. refl) (λ s. refl) w.sites fine))

  pub activates_kept : (w : NodeWorld) (x : ErrorCount) (h sync power : ℕ) → IsOrderly w → Known w x → Kept w x → After (activates w h sync power) x
  activates_kept w x h sync power orderly known k =
      let near : NodeWorld × List Entry = comes_at w (end_c h) (Starts power) in
      let far : NodeWorld × List Entry = comes_at near.0 (end_h h) (Starts sync) in
      subst (Kept far.0) (sym (reads_append e near.1 far.1 x))
      (far_comes near.0 (reads e near.1 x) h (Starts sync) (near_fine w h (Starts power) (orderly_fine w orderly)) (comes_kept w x (end_c h) (Starts power)
      orderly known k))

-- ## A tick of a world, losses and power: a node that runs keeps what is read of REC_ERROR of its end

module _ (e : End) (real : e.at_host ≡ true → eqb e.link 0 ≡ false) where
  abbrev So : NodeWorld → ErrorCount → Type 0
  So w x = Kept e real w x

  abbrev Then : NodeWorld × List Entry → ErrorCount → Type 0
  Then p x = After e real p x

  -- ### A tick

  pub aged_entries_still : (w : NodeWorld) → AllByRecursion (IsStill e) (all_aged w).1
  aged_entries_still w = all_flat (IsStill e) (λ (s : Site). entries_for s.host (aged_entries Controller s.link.to_controller
      ++ aged_entries Host s.link.to_host)) (λ s. aged_still e s.host s.link) w.sites

  moved_node : (w v : NodeWorld) (g : Site → Site) → ((s : Site) → (g s).host ≡ s.host) → ((s : Site) → (g s).node ≡ s.node) → v.controller ≡ w.controller
      → v.sites ≡ map g w.sites → own_node e real v ≡ own_node e real w
  moved_node w v g host node controller sites =
      ap (λ o. cond e.at_host (far_node (site_at v.sites e.link)) o) controller
      ∙ ap (λ o. cond e.at_host o w.controller) (ap (λ l. far_node (site_at l e.link)) sites ∙ node_map g host node w.sites e.link)

  aged_kept : (w : NodeWorld) (x : ErrorCount) → So w x → Then (all_aged w) x
  aged_kept w x k =
      left e real w (all_aged w).0 (all_aged w).1 x
      (moved_node w (all_aged w).0 (λ (s : Site). record s { link = aged s.link }) (λ s. refl) (λ s. refl) refl refl)
      (still_leaves e (all_aged w).1 (aged_entries_still w)) k

  near_ticks : (w : NodeWorld) (x : ErrorCount) → IfItRuns 0 (hosts_in w.sites) w.controller → Known e real w x → So w x → Then (controller_ticks w) x
  near_ticks w x orderly known k =
      by_controller_tick (λ p. Then p x) w
      (λ q. left e real w (record w { sites = map site_unticked w.sites }) [] x
      (moved_node w (record w { sites = map site_unticked w.sites }) site_unticked (λ s. refl) (λ s. refl) refl refl) tt k) runs where
        runs : (r : Running) → w.controller ≡ Some r → Then (after_near_tick w (near_tick w r)) x
        runs r q = by_test e.at_host
            (λ far. left e real w v (c.entries ++ frames) x
            (host_node e real v far ∙ (node_map (site_ticked c) (λ s. refl) (λ s. refl) w.sites e.link ∙ sym (host_node e real w far)))
            (AllByRecursion-append (Leaves e) c.entries frames (others_step e 0 Controller (hosts_in w.sites) r w.memory.plan near_ends [] TimePasses has refl
            (near_other e real far (hosts_in w.sites)) tt) (still_leaves e frames frames_so)) k)
            (λ near. subst (λ o. IfKeeps e o (reads e (c.entries ++ frames) x)) (sym (near_node e real v near))
            (own_steps e real (hosts_in w.sites) (near_single e real (hosts_in w.sites) near) x r w.memory.plan near_ends [] frames TimePasses
            (subst (λ n. HasEnds n (hosts_in w.sites) r) (sym (near_zero e real near)) has) tt frames_so (λ n. known n r q)
            (subst (λ o. IfKeeps e o x) (near_node e real w near ∙ q) k))) where
              near_ends : ℕ → NumberedEnd
              near_ends h = (link_to w.sites h).controller

              c : Work
              c = near_tick w r

              v : NodeWorld
              v = (after_near_tick w c).0

              frames : List Entry
              frames = flat_map (λ (s : Site). frames_noted Controller s.host s.link c) w.sites

              has : HasEnds 0 (hosts_in w.sites) r
              has = subst (IfItRuns 0 (hosts_in w.sites)) q orderly

              frames_so : AllByRecursion (IsStill e) frames
              frames_so = all_flat (IsStill e) (λ (s : Site). frames_noted Controller s.host s.link c) (λ s. frames_still e Controller s.host s.link c) w.sites

  -- the tick of a host that isn't that of the end
  tick_leaves : (s : Site) → IfItRuns s.host (s.host ∷ []) s.node → eqb s.host 0 ≡ false → (e.at_host ≡ true → eqb s.host e.link ≡ false)
      → AllByRecursion (Leaves e) (host_ticks s).1
  tick_leaves s runs real_host off =
      by_host_tick (λ p. AllByRecursion (Leaves e) p.1) s (λ q. tt)
      (λ r q.
      AllByRecursion-append (Leaves e) (host_tick s r).entries (frames_noted Host s.host (exchanged s.link) (host_tick s r))
      (others_step e s.host Host (s.host ∷ []) r s.memory.plan (λ n. s.link.host) [] TimePasses (subst (IfItRuns s.host (s.host ∷ [])) q runs)
      (host_side e real s.host real_host) (far_other e real s.host off, tt) tt)
      (still_leaves e (frames_noted Host s.host (exchanged s.link) (host_tick s r)) (frames_still e Host s.host (exchanged s.link) (host_tick s r))))

  -- the tick of the host of the end
  tick_own : (s : Site) (x : ErrorCount) → IfItRuns s.host (s.host ∷ []) s.node → e.at_host ≡ true → s.host ≡ e.link → IfKeeps e s.node x
      → IfKeeps e (host_ticks s).0.node (reads e (host_ticks s).1 x)
  tick_own s x runs far is k =
      by_host_tick (λ p. IfKeeps e p.0.node (reads e p.1 x)) s (λ q. k)
      (λ r q.
      let ends = own_ends e real s r far is (subst (IfItRuns s.host (s.host ∷ [])) q runs) in
      own_steps e real (s.host ∷ []) ends.1 x r s.memory.plan (λ n. s.link.host) [] (frames_noted Host s.host (exchanged s.link) (host_tick s r)) TimePasses
      ends.0 tt (frames_still e Host s.host (exchanged s.link) (host_tick s r)) (λ near. no_near e real far near) (subst (λ o. IfKeeps e o x) q k))

  -- the ticks of hosts that aren't that of the end
  pub ticks_leave : (sites : List Site) → AreFine sites → (e.at_host ≡ true → AllByRecursion (λ k. eqb k e.link ≡ false) (hosts_in sites))
      → AllByRecursion (Leaves e) (hosts_tick sites).1
  ticks_leave [] fine off = tt
  ticks_leave (s ∷ sites) fine off =
      AllByRecursion-append (Leaves e) (host_ticks s).1 (hosts_tick sites).1 (tick_leaves s fine.nodes.0 fine.hosts.0 (λ far. (off far).0))
      (ticks_leave sites (record { different = fine.different.1; hosts = fine.hosts.1; nodes = fine.nodes.1 }) (λ far. (off far).1))

  ticks_own : (sites : List Site) (x : ErrorCount) → AreFine sites → e.at_host ≡ true → IfKeeps e (far_node (site_at sites e.link)) x
      → IfKeeps e (far_node (site_at (hosts_tick sites).0 e.link)) (reads e (hosts_tick sites).1 x)
  ticks_own [] x fine far k = k
  ticks_own (s ∷ sites) x fine far k =
      by_host (cases_Bool (eqb s.host e.link)) (ticks_own sites (reads e (host_ticks s).1 x) (grind arith) far) where
        first : Site × List Entry
        first = host_ticks s

        later : List Site × List Entry
        later = hosts_tick sites

        found : (b : Bool) → eqb s.host e.link ≡ b → site_at (first.0 ∷ later.0) e.link ≡ cond b (Some first.0) (site_at later.0 e.link)
        found b q = ap (λ b. cond b (Some first.0) (site_at later.0 e.link)) (ap (λ n. eqb n e.link) (tick_host s) ∙ q)

        was : (b : Bool) → eqb s.host e.link ≡ b → site_at (s ∷ sites) e.link ≡ cond b (Some s) (site_at sites e.link)
        was b q = ap (λ b. cond b (Some s) (site_at sites e.link)) q

        by_host : (eqb s.host e.link ≡ true) ⊎ (eqb s.host e.link ≡ false)
            → (IfKeeps e (far_node (site_at sites e.link)) (reads e first.1 x)
            → IfKeeps e (far_node (site_at later.0 e.link)) (reads e later.1 (reads e first.1 x)))
            → IfKeeps e (far_node (site_at (first.0 ∷ later.0) e.link)) (reads e (first.1 ++ later.1) x)
        by_host (inl is) next =
            let here : s.host ≡ e.link = eqb-true s.host e.link is in
            let mine : IfKeeps e first.0.node (reads e first.1 x) =
            tick_own s x fine.nodes.0 far here (subst (λ o. IfKeeps e (far_node o) x) (was true is) k) in
            subst (λ o. IfKeeps e (far_node o) (reads e (first.1 ++ later.1) x)) (sym (found true is))
            (subst (IfKeeps e first.0.node) (sym (reads_append e first.1 later.1 x))
            (leaves_kept e first.0.node (reads e first.1 x) later.1 (ticks_leave sites (grind arith)
            (λ f. subst (λ n. AllByRecursion (λ k. eqb k n ≡ false) (hosts_in sites)) here fine.different.0)) mine))
        by_host (inr off) next =
            let there : IfKeeps e (far_node (site_at sites e.link)) (reads e first.1 x) =
            leaves_kept e (far_node (site_at sites e.link)) x first.1 (tick_leaves s fine.nodes.0 fine.hosts.0 (λ f. off))
            (grind arith) in
            subst (λ o. IfKeeps e (far_node o) (reads e (first.1 ++ later.1) x)) (sym (found false off))
            (subst (IfKeeps e (far_node (site_at later.0 e.link))) (sym (reads_append e first.1 later.1 x)) (next there))

  far_ticks : (w : NodeWorld) (x : ErrorCount) → AreFine w.sites → So w x → Then (record w { sites = (hosts_tick w.sites).0 }, (hosts_tick w.sites).1) x
  far_ticks w x fine k = by_test e.at_host
      (λ far. subst (λ o. IfKeeps e o (reads e (hosts_tick w.sites).1 x)) (sym (host_node e real v far))
      (ticks_own w.sites x fine far (subst (λ o. IfKeeps e o x) (host_node e real w far) k)))
      (λ near. left e real w v (hosts_tick w.sites).1 x (near_node e real v near ∙ sym (near_node e real w near))
      (ticks_leave w.sites fine (λ far. no_near e real far near)) k) where
        v : NodeWorld
        v = record w { sites = (hosts_tick w.sites).0 }

  pub ticks_kept : (w : NodeWorld) (x : ErrorCount) → IsOrderly w → Known e real w x → So w x → Then (world_ticks w) x
  ticks_kept w x orderly known k =
      let old : NodeWorld × List Entry = all_aged w in
      let near : NodeWorld × List Entry = controller_ticks old.0 in
      let far : List Site × List Entry = hosts_tick near.0.sites in
      let grow : Site → Site = λ (s : Site). record s { link = aged s.link } in
      let x1 : ErrorCount = reads e old.1 x in
      let x2 : ErrorCount = reads e near.1 x1 in
      let book : x1.book ≡ x.book =
      (still_all e old.1 x x.errors (aged_entries_still w) (record { sets = grind arith; is = refl })).1 in
      let fine : AreFine old.0.sites = map_fine grow (λ s. refl) (λ s. refl) w.sites (orderly_fine w orderly) in
      let runs : IfItRuns 0 (hosts_in old.0.sites) old.0.controller =
      subst (λ hs. IfItRuns 0 hs w.controller) (sym (hosts_same grow (λ s. refl) w.sites)) orderly.controller in
      let two : So near.0 x2 = near_ticks old.0 x1 runs (λ n r q. known n r q ∙ sym (ap (λ (b : Book). b.tables) book)) (aged_kept w x k) in
      let three : So (record near.0 { sites = far.0 }) (reads e far.1 x2) = far_ticks near.0 x2 (near_ticks_fine old.0 fine) two in
      subst (So (record near.0 { sites = far.0 })) (sym (reads_append e old.1 (near.1 ++ far.1) x ∙ reads_append e near.1 far.1 x1)) three

  -- ### Power

  cut_leaves : (n : ℕ) → Leaves e (entry.Cut n)
  cut_leaves n = λ x k r. record { sets = refl; is = r.is }

  gone : (v : NodeWorld) (n : ℕ) (x : ErrorCount) → own_node e real v ≡ None → So v (reads e (entry.Cut n ∷ []) x)
  gone v n x none = subst (λ o. IfKeeps e o (reads e (entry.Cut n ∷ []) x)) (sym none) refl

  pub cut_kept : (w : NodeWorld) (n : ℕ) (x : ErrorCount) → So w x → So (loses_power_at n w) (reads e (entry.Cut n ∷ []) x)
  cut_kept w n x k =
      by_power (λ v. So v (reads e (entry.Cut n ∷ []) x)) n w (λ z. near_cut (cases_Bool e.at_host)) (λ z. far_cut (cases_Bool e.at_host))
    where
      stays : (v : NodeWorld) → own_node e real v ≡ own_node e real w → So v (reads e (entry.Cut n ∷ []) x)
      stays v same = left e real w v (entry.Cut n ∷ []) x same (cut_leaves n, tt) k

      cut_here : Site → Site
      cut_here s = record s { link = happens s.link (AtController (Step NoInput [] CutOff)) }

      at_site : e.at_host ≡ true → (o : Option Site) → site_at w.sites e.link ≡ o → (eqb e.link n ≡ true) ⊎ (eqb e.link n ≡ false)
          → So (record w { sites = with_site n host_cut w.sites }) (reads e (entry.Cut n ∷ []) x)
      at_site far o here (inr off) =
          stays (record w { sites = with_site n host_cut w.sites }) (host_node e real (record w { sites = with_site n host_cut w.sites }) far
          ∙ (with_other n host_cut (λ s. refl) w.sites e.link off ∙ sym (host_node e real w far)))
      at_site far None here (inl is) =
          stays (record w { sites = with_site n host_cut w.sites }) (host_node e real (record w { sites = with_site n host_cut w.sites }) far
          ∙ (lost ∙ sym (host_node e real w far ∙ ap far_node here))) where
            lost : far_node (site_at (with_site n host_cut w.sites) e.link) ≡ None
            lost = with_none n host_cut (λ s. refl) w.sites e.link here
      at_site far (Some s) here (inl is) =
          let link : e.link ≡ n = eqb-true e.link n is in
          gone (record w { sites = with_site n host_cut w.sites }) n x (host_node e real (record w { sites = with_site n host_cut w.sites }) far
          ∙ (ap (λ m. far_node (site_at (with_site n host_cut w.sites) m)) link
          ∙ with_own n host_cut (λ s. refl) w.sites s (sym (ap (site_at w.sites) link) ∙ here)))

      near_cut : (e.at_host ≡ true) ⊎ (e.at_host ≡ false) → So (controller_cut w) (reads e (entry.Cut n ∷ []) x)
      near_cut (inl far) =
          stays (controller_cut w)
          (host_node e real (controller_cut w) far ∙ (node_map cut_here (λ s. refl) (λ s. refl) w.sites e.link ∙ sym (host_node e real w far)))
      near_cut (inr near) = gone (controller_cut w) n x (near_node e real (controller_cut w) near)

      far_cut : (e.at_host ≡ true) ⊎ (e.at_host ≡ false) → So (record w { sites = with_site n host_cut w.sites }) (reads e (entry.Cut n ∷ []) x)
      far_cut (inl far) = at_site far (site_at w.sites e.link) refl (cases_Bool (eqb e.link n))
      far_cut (inr near) = grind arith

  -- a memory is another one: no node changes
  memory_node : (w : NodeWorld) (n : ℕ) (m : Memory) → own_node e real (with_memory n m w) ≡ own_node e real w
  memory_node w n m =
      by_memory (λ v. own_node e real v ≡ own_node e real w) n w m (λ q. refl)
      (λ q. ap (λ o. cond e.at_host o w.controller) (with_kept n (λ (s : Site). record s { memory = m }) (λ s. refl) (λ s. refl) w.sites e.link))

  pub memory_kept : (w : NodeWorld) (n : ℕ) (m : Memory) (x : ErrorCount) → So w x → So (with_memory n m w) x
  memory_kept w n m x k = subst (λ o. IfKeeps e o x) (sym (memory_node w n m)) k

  new_desks : (hosts : List ℕ) (n : ℕ) → n ≡ 0 → AllByRecursion (λ (d : Desk). eqb d.host e.link ≡ true → d.errors ≡ n) (map new_desk hosts)
  new_desks [] n is = tt
  new_desks (h ∷ hosts) n is = ((λ here. sym is), new_desks hosts n is)

  booted_own : (n c : ℕ) (hosts content : List ℕ) (x : ErrorCount) → eqb n (node_of e) ≡ true
      → IfKeeps e (Some (found n hosts content)) (reads e (entry.Booted n c ∷ []) x)
  booted_own n c hosts content x is = record {
    sets = refl;
    desks = new_desks hosts (reads e (entry.Booted n c ∷ []) x).errors (ap (λ b. cond b 0 x.errors) is);
  }

  module _ (w : NodeWorld) (n : ℕ) (x : ErrorCount) (k : So w x) where
    abbrev before : Memory
    before = memory_at w n

    abbrev after_it : Memory
    after_it = after_planned (boot_writes before.content) before

    abbrev written : NodeWorld
    written = boot_written w n

    abbrev runs : Running
    runs = boot_found w n

    abbrev noted : Entry
    noted = entry.Booted n (count_of runs.core.journal)

    stays : (v : NodeWorld) → own_node e real v ≡ own_node e real written → eqb n (node_of e) ≡ false → So v (reads e (noted ∷ []) x)
    stays v same off = left e real written v (noted ∷ []) x same (grind arith, tt) (memory_kept w n after_it x k)

    starts : (v : NodeWorld) → own_node e real v ≡ Some runs → eqb n (node_of e) ≡ true → So v (reads e (noted ∷ []) x)
    starts v node is =
        subst (λ o. IfKeeps e o (reads e (noted ∷ []) x)) (sym node) (booted_own n (count_of runs.core.journal) (links_of w n) before.content x is)

    abbrev far_v : NodeWorld
    far_v = record written { sites = with_site n (λ (s : Site). record s { node = Some runs }) written.sites }

    at_site : e.at_host ≡ true → (o : Option Site) → site_at written.sites e.link ≡ o → (eqb e.link n ≡ true) ⊎ (eqb e.link n ≡ false)
        → So far_v (reads e (noted ∷ []) x)
    at_site far o here (inr off) =
        stays far_v (host_node e real far_v far ∙ (with_other n (λ (s : Site). record s { node = Some runs }) (λ s. refl) written.sites e.link
        off ∙ sym (host_node e real written far))) (ne_eqb n (node_of e) (λ z. eqb-false e.link n off (sym (z ∙ rw far refl))))
    at_site far None here (inl is) = subst (λ o. IfKeeps e o (reads e (noted ∷ []) x)) (sym (host_node e real far_v far ∙ none)) refl where
      none : far_node (site_at far_v.sites e.link) ≡ None
      none = with_none n (λ (s : Site). record s { node = Some runs }) (λ s. refl) written.sites e.link here
    at_site far (Some s) here (inl is) =
        let link : e.link ≡ n = eqb-true e.link n is in
        starts far_v (host_node e real far_v far ∙ (ap (λ m. far_node (site_at far_v.sites m)) link ∙ with_own n (λ (s : Site). record s { node = Some runs })
        (λ s. refl) written.sites s (sym (ap (site_at written.sites) link) ∙ here))) (eq-eqb n (node_of e) (sym link ∙ rw far refl))

    near_kept : eqb n 0 ≡ true → (e.at_host ≡ true) ⊎ (e.at_host ≡ false) → So (record written { controller = Some runs }) (reads e (noted ∷ []) x)
    near_kept z (inl far) =
        stays (record written { controller = Some runs })
        (host_node e real (record written { controller = Some runs }) far ∙ sym (host_node e real written far)) (grind arith)
    near_kept z (inr near) =
        starts (record written { controller = Some runs }) (near_node e real (record written { controller = Some runs }) near)
        (eq-eqb n (node_of e) (eqb-true n 0 z ∙ sym (near_zero e real near)))

    far_kept : eqb n 0 ≡ false → (e.at_host ≡ true) ⊎ (e.at_host ≡ false) → So far_v (reads e (noted ∷ []) x)
    far_kept z (inl far) = at_site far (site_at written.sites e.link) refl (cases_Bool (eqb e.link n))
    far_kept z (inr near) = stays far_v (near_node e real far_v near ∙ sym (near_node e real written near)) (ap (eqb n) (near_zero e real near) ∙ z)

    pub boots_kept : Then (boots w n) x
    boots_kept =
        by_boot (λ p. Then p x) w n (cut_kept written n x (memory_kept w n after_it x k))
        (by_running (λ v. So v (reads e (noted ∷ []) x)) n written runs (λ z. near_kept z (cases_Bool e.at_host))
        (λ z. far_kept z (cases_Bool e.at_host)))
