-- Which sessions end in a step of a node and in a tick of a world: those of late notices by resets.
use Rattle.node_laws.proofs.Words.{AllByRecursion, AreDifferent, AsksReset, AtEnd, Bool, Comes, Controller, Core, Cut, Deed, Desk, Down, End, EndedBy, Entry}
use Rattle.node_laws.proofs.Words.{HasEnds, Host, IfItRuns, IfNoticedUp, IfReads, IsComing, IsKeptNotice, IsOrderly, KeepsNotices, Link, LinkEnd, LinkInput}
use Rattle.node_laws.proofs.Words.{List, Message, NoInput, NodeInput, NodeWorld, None, Noted, Notice, NumberedEnd, Option, Port, Report, Reset, Restarted}
use Rattle.node_laws.proofs.Words.{Running, Sent, Site, Some, Tick, TimePasses, Work, [], after_input, after_near_tick, aged, aged_entries, all_aged}
use Rattle.node_laws.proofs.Words.{all_append, all_come, all_done, and-false, and-true, and_parts, ap, append-nil, ap₂, arith, arrival, beginning, begins_with}
use Rattle.node_laws.proofs.Words.{by_coming, by_controller, by_controller_tick, by_host, by_host_tick, by_list, by_option, by_test, comes_at, comes_to, cond}
use Rattle.node_laws.proofs.Words.{controller_begins, controller_does, controller_tick_begins, controller_ticks, controller_work, end_c, end_h, end_of}
use Rattle.node_laws.proofs.Words.{ended_by, ending_entries, ending_of, ends_session, entries_for, eqb, eqb-true, exchanged, false, flat_map, frames_noted}
use Rattle.node_laws.proofs.Words.{has_come, host_does, host_tick, host_ticks, host_work, hosts_in, hosts_of_ends, hosts_tick, input_at, input_of, is_down}
use Rattle.node_laws.proofs.Words.{is_late, is_own_reset, is_some, is_up, link_to, list_any, map, nat_le, ne_eqb, near_end_in, near_tick, not, notice_in}
use Rattle.node_laws.proofs.Words.{option_and_then, option_map, option_map_or, or-false, own_side, port_at, port_for, refl, report, reset_refusal, same_end}
use Rattle.node_laws.proofs.Words.{sending, site_at, site_ticked, site_unticked, steps, subst, sym, told, told_at, told_late, told_of_coming, told_of_late}
use Rattle.node_laws.proofs.Words.{true, whole_acked, wires_for, with_older, work_of, world_ticks, ℕ, ◌&&◌, ◌++◌, ◌==◌, ◌||◌, ◌∙◌, ◌∷◌, ◌≡◌}
use Rattle.link_laws.specs.entries.Entries.{End as Side}
use Rattle.link_laws.specs.entries.Entries.Entry.{Tick as NotedTick}
use Rattle.node_laws.proofs.kept.Doing.{hosts_map}
use Rattle.node_laws.proofs.links.Noticing.{UpAt, at_all, at_host}
use Rattle.node_laws.proofs.notices.Turning.{IsOn, controller_side}
use Rattle.node_laws.proofs.notices.Near.{aged_side, begins, link_shut}
use Rattle.node_laws.proofs.notices.Steps.{IsCome, come_is, older_is, reset_ends}
use Rattle.node_laws.proofs.passes.InSteps.{IsOfStep, NotesOnly, beginning_notes, deeds_keep, of_deeds, sending_notes, step_keeps}
use Rattle.node_laws.proofs.readings.Turning.{IsQuiet, rest_quiet, told_rest}
use Rattle.node_laws.proofs.readings.Sites.{arrival_quiet, ending_quiet}
use Rattle.node_laws.proofs.telling.Ticks.{wires_all}
use Rattle.node_laws.proofs.telling.Events.{Stands, hosts_same_of_nodes as hosts_same, ports_for, site_host, site_is, stands}
use Rattle.node_laws.proofs.telling.WorldTicks.{ticked_orderly}
use Rattle.node_laws.proofs.worlds.Ages.{otherwise, reset_asked, ticked_asked}
use Rattle.trace_model.specs.declared.entry.Entry.TheVariants as entry

-- ## Which sessions end in what a node notes in a step: only what comes to its ends, and late notices, tell of that

-- an entry tells of no session that ends
abbrev pub IsDownless : Entry → Type 0
IsDownless x = is_down x ≡ false

abbrev pub AreDownless : List Entry → Type 0
AreDownless es = AllByRecursion IsDownless es

of_step : (x : Entry) → IsOfStep x → IsDownless x
of_step x a = grind arith

abbrev pub NotesNoEnd : Deed → Type 0
NotesNoEnd d = NotesOnly IsDownless d

pub sending_none : (h : ℕ) (m : Message) → AllByRecursion NotesNoEnd (sending h m)
sending_none = sending_notes IsDownless (of_deeds IsDownless of_step)

pub beginning_none : (identity : List ℕ) (pipes : List (List ℕ)) → AllByRecursion NotesNoEnd (beginning identity pipes)
beginning_none = beginning_notes IsDownless (of_deeds IsDownless of_step)

-- ### What links note

pub notes_downless : (h : ℕ) (notes : List Noted) → AllByRecursion IsQuiet notes → AreDownless (entries_for h notes)
notes_downless h [] all = tt
notes_downless h (Down who cause ∷ notes) all = absurd all.0
notes_downless h (Sent who n m ∷ notes) all = absurd all.0
notes_downless h (NotedTick ∷ notes) all = notes_downless h notes all.1
notes_downless h (Restarted who ∷ notes) all = notes_downless h notes all.1
notes_downless h (Cut who ∷ notes) all = notes_downless h notes all.1
notes_downless h (_ ∷ notes) all = (refl, notes_downless h notes all.1)

pub frames_downless : (who : Side) (h : ℕ) (l : Link) (k : Work) → AreDownless (frames_noted who h l k)
frames_downless who h l k = by_option (port_at k.ports h)
    (λ q. rw q tt)
    (λ p q. rw q (notes_downless h (ending_entries who l p.side (ending_of k)) (ending_quiet who l p.side (ending_of k))))

pub arrival_downless : (who : Side) (h : ℕ) (l : Link) (comes : Comes) → AreDownless (entries_for h (arrival who l comes))
arrival_downless who h l comes = notes_downless h (arrival who l comes) (arrival_quiet who l comes)

pub flat_downless : {X : Type 0} (f : X → List Entry) → ((x : X) → AreDownless (f x)) → (xs : List X) → AreDownless (flat_map f xs)
flat_downless f one [] = tt
flat_downless f one (x ∷ xs) = all_append IsDownless (f x) (flat_map f xs) (one x) (flat_downless f one xs)

-- ### Sessions that end for a cause

module _ (test : EndedBy → Bool) (e : End) where
  abbrev pub ends_in_list : List Entry → Bool
  ends_in_list es = list_any (ends_session test e) es

  downless_one : (x : Entry) → IsDownless x → ends_session test e x ≡ false
  downless_one x q = grind arith

  pub any_none : (es : List Entry) → AreDownless es → ends_in_list es ≡ false
  any_none [] a = refl
  any_none (x ∷ es) a = ap (λ b. b || ends_in_list es) (downless_one x a.0) ∙ any_none es a.1

  pub any_append : (a b : List Entry) → ends_in_list (a ++ b) ≡ (ends_in_list a || ends_in_list b)
  any_append [] b = refl
  any_append (x ∷ a) b = ap (λ z. ends_session test e x || z) (any_append a b) ∙ by_test (ends_session test e x) (λ q. rw q refl) (λ q. rw q refl)

  any_front : (a es : List Entry) → AreDownless a → ends_in_list (a ++ es) ≡ ends_in_list es
  any_front a es none = any_append a es ∙ ap (λ b. b || ends_in_list es) (any_none a none)

  any_back : (a es : List Entry) → AreDownless es → ends_in_list (a ++ es) ≡ ends_in_list a
  any_back a es none = any_append a es ∙ (ap (λ b. ends_in_list a || b) (any_none es none) ∙ or-false (ends_in_list a))

  -- ### In a step

  -- what begins at a host tells of none
  deeds_tell : (h : ℕ) (deeds : List Deed) (w : Work) → AllByRecursion NotesNoEnd deeds → ends_in_list (all_done h deeds w).entries ≡ ends_in_list w.entries
  deeds_tell h deeds w may =
      deeds_keep IsDownless of_step (λ es. ends_in_list es ≡ ends_in_list w.entries) (λ es more none a. any_back es more none ∙ a) h deeds w may refl

  -- what a step tells of them is told as it comes
  step_tells : (input : NodeInput) (w : Work) → ends_in_list (steps input w).entries ≡ ends_in_list (w.entries ++ told_of_coming input w)
  step_tells input w =
      let b : Bool = ends_in_list (w.entries ++ told_of_coming input w) in
      step_keeps IsDownless of_step (λ es. ends_in_list es ≡ b) (λ es more none a. any_back es more none ∙ a) input w refl

  -- ### What an input tells

  told_any : (h : ℕ) (who : Side) (n acked : ℕ) (rep : Report)
      → ends_in_list (entries_for h (told who n rep acked)) ≡ (same_end (end_of h who) e && option_map_or test rep.ended false)
  told_any h who n acked rep = by_option rep.ended
      (λ is. rw is (none ∙ by_test (same_end (end_of h who) e) (λ q. rw q refl) (λ q. rw q refl)))
      (λ cause is. rw is (ap (λ z. (same_end (end_of h who) e && test cause) || z) none ∙ or-false (same_end (end_of h who) e && test cause))) where
        others : List Noted
        others = told_rest who n acked rep

        none : ends_in_list (entries_for h others) ≡ false
        none = any_none (entries_for h others) (notes_downless h others (rest_quiet who n acked rep))

  -- why a session ends as this comes
  abbrev pub ends_by : Port → Option LinkInput → Bool
  ends_by p None = false
  ends_by p (Some i) = option_map_or test (ended_by p.side i) false

  at_any : (core : Core) (p : Port) (o : Option LinkInput)
      → ends_in_list (told_at core p o) ≡ (same_end (end_of p.desk.host (own_side core)) e && ends_by p o)
  at_any core p None = by_test (same_end (end_of p.desk.host (own_side core)) e) (λ q. rw q refl) (λ q. rw q refl)
  at_any core p (Some i) = told_any p.desk.host (own_side core) p.session (whole_acked (after_input p.side i)) (report p.side i)

-- ## Which sessions end in a step of a node, by its ends

pub near_same : (h x : ℕ) → same_end (end_of h Controller) (end_c x) ≡ eqb h x
near_same h x = and-true (eqb h x)

far_same : (h x : ℕ) → same_end (end_of h Host) (end_h x) ≡ eqb h x
far_same h x = and-true (eqb h x)

-- an end as a tick has come to it
abbrev pub ticked : Port → Port
ticked p = with_older (has_come p (Some Tick))

module _ (test : EndedBy → Bool) (e : End) where
  abbrev tells : List Entry → Bool
  tells es = ends_in_list test e es

  -- ### Nothing

  flat_none : (f : Port → List Entry) → ((p : Port) → tells (f p) ≡ false) → (ports : List Port) → tells (flat_map f ports) ≡ false
  flat_none f one [] = refl
  flat_none f one (p ∷ ports) = any_append test e (f p) (flat_map f ports) ∙ (ap (λ b. b || tells (flat_map f ports)) (one p) ∙ flat_none f one ports)

  late_one : (core : Core) (p : Port) → tells (told_late core p) ≡ (is_late p && tells (told_at core p (Some (Reset None))))
  late_one core p = by_test (is_late p) (λ q. rw q refl) (λ q. rw q refl)

  -- what comes ends none so, and no notice is late
  step_none : (k : ℕ) (i : LinkInput) (w : Work) → AreDownless w.entries → ((p : Port) → ends_by test e p (Some i) ≡ false)
      → tells (steps (AtEnd k i) w).entries ≡ false
  step_none k i w quiet none =
      step_tells test e (AtEnd k i) w
      ∙ (any_front test e w.entries (told_of_coming (AtEnd k i) w) quiet
      ∙ (ap tells (append-nil (flat_map (λ p. told_at w.core p (input_at (AtEnd k i) p)) w.ports))
      ∙ flat_none (λ p. told_at w.core p (input_at (AtEnd k i) p)) one w.ports)) where
        one : (p : Port) → tells (told_at w.core p (input_at (AtEnd k i) p)) ≡ false
        one p = at_any test e w.core p (input_at (AtEnd k i) p) ∙ (grind arith)

  -- the end is none of the node
  step_other : (input : NodeInput) (w : Work) → AreDownless w.entries → ((h : ℕ) → same_end (end_of h (own_side w.core)) e ≡ false)
      → tells (steps input w).entries ≡ false
  step_other input w quiet other =
      step_tells test e input w
      ∙ (any_front test e w.entries (told_of_coming input w) quiet
      ∙ (any_append test e (flat_map (λ p. told_at w.core p (input_at input p)) w.ports) (told_of_late input (all_come input w))
      ∙ ap₂ (λ a b. a || b) (flat_none (λ p. told_at w.core p (input_at input p)) (λ p. one p (input_at input p)) w.ports) (late input))) where
        one : (p : Port) (o : Option LinkInput) → tells (told_at w.core p o) ≡ false
        one p o = at_any test e w.core p o ∙ ap (λ b. b && ends_by test e p o) (other p.desk.host)

        late : (input : NodeInput) → tells (told_of_late input (all_come input w)) ≡ false
        late (AtEnd h i) = refl
        late TimePasses =
            flat_none (told_late w.core) (λ p. late_one w.core p ∙ (ap (λ b. is_late p && b) (one p (Some (Reset None))) ∙ and-false (is_late p)))
            (map with_older (all_come TimePasses w).ports)

  -- ### Something

  module _ (x : ℕ) where
    flat_any : (f : Port → List Entry) (g : Port → Bool) → ((p : Port) → tells (f p) ≡ (eqb p.desk.host x && g p)) → (ports : List Port)
        → AreDifferent (hosts_of_ends ports) → tells (flat_map f ports) ≡ option_map_or g (port_at ports x) false
    flat_any f g one [] d = refl
    flat_any f g one (p ∷ ports) d =
        any_append test e (f p) (flat_map f ports) ∙ (ap (λ b. b || tells (flat_map f ports)) (one p) ∙ go (eqb p.desk.host x) refl
        (flat_any f g one ports d.1))
      where
        others : (ports : List Port) → AllByRecursion (λ (k : ℕ). eqb k p.desk.host ≡ false) (hosts_of_ends ports) → eqb p.desk.host x ≡ true
            → tells (flat_map f ports) ≡ false
        others [] a q = refl
        others (r ∷ ports) a q =
            any_append test e (f r) (flat_map f ports)
            ∙ ap₂ (λ a b. a || b) (one r ∙ ap (λ b. b && g r) (ne_eqb r.desk.host x (λ s. grind arith))) (others ports a.1 q)

        go : (b : Bool) → eqb p.desk.host x ≡ b → tells (flat_map f ports) ≡ option_map_or g (port_at ports x) false
            → ((b && g p) || tells (flat_map f ports)) ≡ option_map_or g (port_at (p ∷ ports) x) false
        go true q later = rw q (ap (λ b. g p || b) (others ports d.0 q) ∙ or-false (g p))
        go false q later = rw q later

    module _ (w : Work) (quiet : AreDownless w.entries) (different : AreDifferent (hosts_of_ends w.ports))
        (mine : (h : ℕ) → same_end (end_of h (own_side w.core)) e ≡ eqb h x) where
      one : (p : Port) (o : Option LinkInput) → tells (told_at w.core p o) ≡ (eqb p.desk.host x && ends_by test e p o)
      one p o = at_any test e w.core p o ∙ ap (λ b. b && ends_by test e p o) (mine p.desk.host)

      -- the session of an end ends as what comes to it ends it
      pub step_at : (k : ℕ) (i : LinkInput)
          → tells (steps (AtEnd k i) w).entries ≡ option_map_or (λ p. ends_by test e p (input_at (AtEnd k i) p)) (port_at w.ports x) false
      step_at k i =
          step_tells test e (AtEnd k i) w
          ∙ (any_front test e w.entries (told_of_coming (AtEnd k i) w) quiet
          ∙ (ap tells (append-nil (flat_map (λ p. told_at w.core p (input_at (AtEnd k i) p)) w.ports))
          ∙ flat_any (λ p. told_at w.core p (input_at (AtEnd k i) p)) (λ p. ends_by test e p (input_at (AtEnd k i) p))
          (λ p. one p (input_at (AtEnd k i) p)) w.ports different))

      -- or as a tick comes, and then as a late notice resets its link
      step_tick : tells (steps TimePasses w).entries
          ≡ option_map_or (λ p. ends_by test e p (Some Tick) || (is_late (ticked p) && ends_by test e (ticked p) (Some (Reset None)))) (port_at w.ports x) false
      step_tick =
          step_tells test e TimePasses w
          ∙ (any_front test e w.entries (told_of_coming TimePasses w) quiet
          ∙ (any_append test e (flat_map (λ p. told_at w.core p (Some Tick)) w.ports) (told_of_late TimePasses (all_come TimePasses w))
          ∙ (ap₂ (λ a b. a || b)
          (flat_any (λ p. told_at w.core p (Some Tick)) (λ p. ends_by test e p (Some Tick)) (λ p. one p (Some Tick)) w.ports different)
          (flat_any (told_late w.core) (λ p. is_late p && ends_by test e p (Some (Reset None))) late (map with_older (all_come TimePasses w).ports) still
          ∙ (ap (λ o. option_map_or (λ p. is_late p && ends_by test e p (Some (Reset None))) o false)
          (at_all (all_come TimePasses w).ports x with_older (λ q. refl) ∙ ap (option_map with_older) (at_all w.ports x (λ p. has_come p
          (Some Tick)) (λ q. refl)))
          )) ∙ by_option (port_at w.ports x) (λ q. rw q refl) (λ p q. rw q refl)))) where
            late : (p : Port) → tells (told_late w.core p) ≡ (eqb p.desk.host x && (is_late p && ends_by test e p (Some (Reset None))))
            late p = grind arith

            still : AreDifferent (hosts_of_ends (map with_older (all_come TimePasses w).ports))
            still = subst AreDifferent (sym (hosts_map with_older (λ q. refl) (all_come TimePasses w).ports
                ∙ hosts_map (λ p. has_come p (Some Tick)) (λ q. refl) w.ports)) different

-- ## Which sessions end in the steps of the nodes of a world

host_side : (r : Running) (h : ℕ) (hosts : List ℕ) → HasEnds h hosts r → (h == 0) ≡ false → own_side r.core ≡ Host
host_side r h hosts a off = let q : (r.core.node == 0) ≡ false = ap (λ n. n == 0) a.number ∙ off in rw q refl

pub near_node : (w : NodeWorld) (r : Running) → IsOrderly w → w.controller ≡ Some r → HasEnds 0 (hosts_in w.sites) r
near_node w r a q = subst (IfItRuns 0 (hosts_in w.sites)) q a.controller

pub far_node : (w : NodeWorld) (h : ℕ) (s : Site) (r : Running) → IsOrderly w → site_at w.sites h ≡ Some s → s.node ≡ Some r → HasEnds s.host (s.host ∷ []) r
far_node w h s r a found q =
    subst (IfItRuns s.host (s.host ∷ [])) q (site_is (λ (x : Site). IfItRuns x.host (x.host ∷ []) x.node) w.sites h s a.nodes found)

pub far_number : (w : NodeWorld) (h : ℕ) (s : Site) → IsOrderly w → site_at w.sites h ≡ Some s → (s.host == 0) ≡ false
far_number w h s a found = site_is (λ (x : Site). (x.host == 0) ≡ false) w.sites h s a.hosts found

-- a host as a step begins
abbrev pub host_begins : Site → Running → Comes → Work
host_begins s r comes =
    work_of r s.memory.plan (λ k. near_end_in (exchanged s.link) comes) (entries_for s.host (arrival Host (exchanged s.link) comes))

module _ (test : EndedBy → Bool) (e : End) where
  abbrev pub tells_of_steps : List Entry → Bool
  tells_of_steps es = ends_in_list test e es

  abbrev Silent : NodeWorld × List Entry → Type 0
  Silent p = tells_of_steps p.1 ≡ false

  -- frames that go out tell of none
  near_frames_of_steps : (w : NodeWorld) (k : ℕ) (comes : Comes) (v : Work)
      → tells_of_steps (v.entries ++ flat_map (λ (s : Site). frames_noted Controller s.host (wires_for s.link (comes_to k comes s.host)) v) w.sites)
      ≡ tells_of_steps v.entries
  near_frames_of_steps w k comes v =
      any_back test e v.entries _
      (flat_downless (λ (s : Site). frames_noted Controller s.host (wires_for s.link (comes_to k comes s.host)) v)
      (λ s. frames_downless Controller s.host (wires_for s.link (comes_to k comes s.host)) v) w.sites)

  -- ### Where none end

  module _ (w : NodeWorld) (k : ℕ) (comes : Comes) (i : LinkInput) where
    module _ (none : (p : Port) → ends_by test e p (Some i) ≡ false) where
      near_none : Silent (controller_does w k comes (steps (AtEnd k i)))
      near_none =
          by_controller Silent w k comes (steps (AtEnd k i)) refl
          (λ r q. near_frames_of_steps w k comes (controller_work w r k comes (steps (AtEnd k i)))
          ∙ step_none test e k i (controller_begins w r k comes) (arrival_downless Controller k (link_to w.sites k) comes) none)

      far_none : Silent (host_does w k comes (steps (AtEnd k i)))
      far_none =
          by_host Silent w k comes (steps (AtEnd k i)) refl
          (λ s r found q. any_back test e (host_work s r comes (steps (AtEnd k i))).entries _
          (frames_downless Host k (wires_for (exchanged s.link) comes) (host_work s r comes (steps (AtEnd k i))))
          ∙ step_none test e k i (host_begins s r comes) (arrival_downless Host s.host (exchanged s.link) comes) none)

    -- ends of other nodes
    pub near_other : IsOrderly w → ((h : ℕ) → same_end (end_of h Controller) e ≡ false) → Silent (controller_does w k comes (steps (AtEnd k i)))
    near_other a other =
        by_controller Silent w k comes (steps (AtEnd k i)) refl
        (λ r q. near_frames_of_steps w k comes (controller_work w r k comes (steps (AtEnd k i)))
        ∙ step_other test e (AtEnd k i) (controller_begins w r k comes) (arrival_downless Controller k (link_to w.sites k) comes)
        (λ h. ap (λ s. same_end (end_of h s) e) (controller_side r.core (near_node w r a q).number) ∙ other h))

    pub far_other : IsOrderly w → ((h : ℕ) → same_end (end_of h Host) e ≡ false) → Silent (host_does w k comes (steps (AtEnd k i)))
    far_other a other =
        by_host Silent w k comes (steps (AtEnd k i)) refl
        (λ s r found q. any_back test e (host_work s r comes (steps (AtEnd k i))).entries _
        (frames_downless Host k (wires_for (exchanged s.link) comes) (host_work s r comes (steps (AtEnd k i))))
        ∙ step_other test e (AtEnd k i) (host_begins s r comes) (arrival_downless Host s.host (exchanged s.link) comes)
        (λ h. ap (λ side. same_end (end_of h side) e) (host_side r s.host (s.host ∷ []) (far_node w k s r a found q) (far_number w k s a found)) ∙ other h))

  pub comes_none : (w : NodeWorld) (f : End) (comes : Comes) → ((side : LinkEnd) (i : LinkInput) (l : Link)
      → input_of l comes ≡ Some i → option_map_or test (ended_by side i) false ≡ false) → Silent (comes_at w f comes)
  comes_none w f comes none =
      by_coming Silent w f comes refl (λ i at is. far_none w f.link comes i (λ p. none p.side i (exchanged (link_to w.sites f.link)) is))
      (λ i at is. near_none w f.link comes i (λ p. none p.side i (link_to w.sites f.link) is))

  -- a host begins something of its own
  pub begins_none : (w : NodeWorld) (k h : ℕ) (deeds : List Deed) → AllByRecursion NotesNoEnd deeds → Silent (host_does w k NoInput (begins_with h deeds))
  begins_none w k h deeds may =
      by_host Silent w k NoInput (begins_with h deeds) refl
      (λ s r found q. any_back test e (host_work s r NoInput (begins_with h deeds)).entries _
      (frames_downless Host k (wires_for (exchanged s.link) NoInput) (host_work s r NoInput (begins_with h deeds)))
      ∙ (deeds_tell test e h deeds (host_begins s r NoInput) may
      ∙ any_none test e (host_begins s r NoInput).entries (arrival_downless Host s.host (exchanged s.link) NoInput)))

-- ### Resets

-- an end is reset where it is up
reset_value : (near_ends : ℕ → NumberedEnd) (desks : List Desk) (e : End) (x k : ℕ) (window : Option ℕ)
    → (eqb k x ≡ true → Stands near_ends desks x) → (eqb k x ≡ true → reset_refusal (near_ends x).side ≡ None)
    → option_map_or (λ p. ends_by is_own_reset e p (input_at (AtEnd k (Reset window)) p)) (port_at (ports_for near_ends desks) x) false
    ≡ (eqb k x && is_up (near_ends x).side.shdlc.phase)
reset_value near_ends desks e x k window there free = go (eqb k x) refl where
  ports : List Port
  ports = ports_for near_ends desks

  P : Option Port → Bool
  P o = option_map_or (λ p. ends_by is_own_reset e p (input_at (AtEnd k (Reset window)) p)) o false

  swapped : (n : ℕ) (b : Bool) → eqb k n ≡ b → eqb n k ≡ b
  swapped n b q = grind arith

  off : eqb k x ≡ false → (o : Option Port) → port_at ports x ≡ o → P o ≡ false
  off q None z = refl
  off q (Some p) z = rw (ap (λ n. eqb n k) (at_host ports x p z) ∙ swapped x false q) refl

  go : (b : Bool) → eqb k x ≡ b → P (port_at ports x) ≡ (b && is_up (near_ends x).side.shdlc.phase)
  go false q = off q (port_at ports x) refl
  go true q =
      let at : Stands near_ends desks x = there q in
      let p : Port = port_for (near_ends x) at.desk in
      ap P at.here
      ∙ (ap (λ b. ends_by is_own_reset e p (cond b (Some (Reset window)) None)) (ap (λ n. eqb n k) (at_host ports x p at.here) ∙ swapped x true q)
      ∙ reset_asked (near_ends x).side window (free q))

abbrev IsReset : NodeWorld × List Entry → End → ℕ → ℕ → LinkEnd → Type 0
IsReset p e k x side = tells_of_steps is_own_reset e p.1 ≡ (eqb k x && is_up side.shdlc.phase)

module _ (w : NodeWorld) (a : IsOrderly w) (k : ℕ) (window : Option ℕ) (x : ℕ) (s : Site) (found : site_at w.sites x ≡ Some s) where
  -- a controller that runs has its end reset
  pub near_reset : (r : Running) → w.controller ≡ Some r → (eqb k x ≡ true → reset_refusal s.link.controller.side ≡ None)
      → IsReset (controller_does w k (AsksReset window) (steps (AtEnd k (Reset window)))) (end_c x) k x s.link.controller.side
  near_reset r runs free =
      let near_ends : ℕ → NumberedEnd = λ j. near_end_in (link_to w.sites j) (comes_to k (AsksReset window) j) in
      let node : HasEnds 0 (hosts_in w.sites) r = near_node w r a runs in
      let side : (near_ends x).side ≡ s.link.controller.side = grind arith in
      rw runs
      (near_frames_of_steps is_own_reset (end_c x) w k (AsksReset window) (controller_work w r k (AsksReset window) (steps (AtEnd k (Reset window))))
      ∙ (step_at is_own_reset (end_c x) x (controller_begins w r k (AsksReset window))
      (arrival_downless Controller k (link_to w.sites k) (AsksReset window))
      (subst AreDifferent (sym (hosts_same near_ends r.desks ∙ node.ends)) a.different)
      (λ h. ap (λ z. same_end (end_of h z) (end_c x)) (controller_side r.core node.number) ∙ near_same h x) k (Reset window)
      ∙ (reset_value near_ends r.desks (end_c x) x k window (λ y. stands near_ends r.desks w.sites x s node.ends found)
      (λ y. ap reset_refusal side ∙ free y)
      ∙ ap (λ (z : LinkEnd). eqb k x && is_up z.shdlc.phase) side)))

  -- so has a host, whose end this is or isn't
  pub far_reset : (z : Site) (r : Running) → site_at w.sites k ≡ Some z → z.node ≡ Some r
      → (eqb k x ≡ true → reset_refusal s.link.host.side ≡ None)
      → IsReset (host_does w k (AsksReset window) (steps (AtEnd k (Reset window)))) (end_h x) k x s.link.host.side
  far_reset z r there runs free =
      let near_ends : ℕ → NumberedEnd = λ j. near_end_in (exchanged z.link) (AsksReset window) in
      let node : HasEnds z.host (z.host ∷ []) r = far_node w k z r a there runs in
      let one : map (λ (d : Desk). d.host) r.desks ≡ k ∷ [] = node.ends ∙ ap (λ n. n ∷ []) (site_host w.sites k z there) in
      let same : eqb k x ≡ true → z ≡ s = λ y. same_site y in
      rw (there, runs)
      (any_back is_own_reset (end_h x) (host_work z r (AsksReset window) (steps (AtEnd k (Reset window)))).entries _
      (frames_downless Host k (wires_for (exchanged z.link) (AsksReset window)) (host_work z r (AsksReset window) (steps (AtEnd k (Reset window)))))
      ∙ (step_at is_own_reset (end_h x) x (host_begins z r (AsksReset window))
      (arrival_downless Host z.host (exchanged z.link) (AsksReset window))
      (subst AreDifferent (sym (hosts_same near_ends r.desks ∙ one)) (tt, tt))
      (λ h. ap (λ y. same_end (end_of h y) (end_h x)) (host_side r z.host (z.host ∷ []) node (far_number w k z a there)) ∙ far_same h x) k (Reset window)
      ∙ (reset_value near_ends r.desks (end_h x) x k window (λ y. by_list r.desks
      (λ q. rw q (absurd (cc (rw q at one))))
      (λ d desks q. rw q (let host : d.host ≡ k = cc in
      let is : eqb d.host x ≡ true = ap (λ n. eqb n x) host ∙ y in
      record { desk = d; here = rw is (ap (λ n. Some (port_for (near_ends n) d)) (eqb-true d.host x is)) })))
      (λ y. ap (λ (q : Site). reset_refusal q.link.host.side) (same y) ∙ free y)
      ∙ by_test (eqb k x) (λ y. rw y (ap (λ (q : Site). is_up q.link.host.side.shdlc.phase) (same_site y))) (λ y. rw y refl))))
    where
      same_site : eqb k x ≡ true → z ≡ s
      same_site y = grind arith

-- ## Which sessions end in a tick of a world: those of late notices by resets

aged_downless : (w : NodeWorld) → AreDownless (all_aged w).1
aged_downless w =
    flat_downless (λ (s : Site). entries_for s.host (aged_entries Controller s.link.to_controller ++ aged_entries Host s.link.to_host))
    (λ s. notes_downless s.host (aged_entries Controller s.link.to_controller ++ aged_entries Host s.link.to_host)
    (wires_all IsQuiet (λ w c. tt) Controller Host s.link.to_controller s.link.to_host)) w.sites

-- ### Hosts

-- no host has a notice to answer
abbrev pub IfNoNotices : Option Running → Type 0
IfNoNotices None = Unit {0}
IfNoNotices (Some r) = AllByRecursion (λ (d : Desk). d.notice ≡ None) r.desks

abbrev pub NoNotices : List Site → Type 0
NoNotices sites = AllByRecursion (λ (s : Site). IfNoNotices s.node) sites

ports_none : (near_ends : ℕ → NumberedEnd) (desks : List Desk) → AllByRecursion (λ (d : Desk). d.notice ≡ None) desks
    → AllByRecursion (λ (p : Port). p.desk.notice ≡ None) (ports_for near_ends desks)
ports_none near_ends [] a = tt
ports_none near_ends (d ∷ desks) a = (a.0, ports_none near_ends desks a.1)

module _ (test : EndedBy → Bool) (e : End) where
  late_none : (core : Core) (ports : List Port) → AllByRecursion (λ (p : Port). p.desk.notice ≡ None) ports
      → tells_of_steps test e (flat_map (told_late core) (map with_older (map (λ p. has_come p (Some Tick)) ports))) ≡ false
  late_none core [] a = refl
  late_none core (p ∷ ports) a =
      any_append test e (told_late core (ticked p)) (flat_map (told_late core) (map with_older (map (λ p. has_come p (Some Tick)) ports)))
      ∙ ap₂ (λ x y. x || y) (ap (tells_of_steps test e) none) (late_none core ports a.1)
    where
      none : told_late core (with_older (has_come p (Some Tick))) ≡ []
      none = rw a.0 refl

  tick_none : (w : Work) → AreDownless w.entries → ((p : Port) → ends_by test e p (Some Tick) ≡ false)
      → AllByRecursion (λ (p : Port). p.desk.notice ≡ None) w.ports → tells_of_steps test e (steps TimePasses w).entries ≡ false
  tick_none w quiet none a =
      step_tells test e TimePasses w
      ∙ (any_front test e w.entries (told_of_coming TimePasses w) quiet
      ∙ (any_append test e (flat_map (λ p. told_at w.core p (Some Tick)) w.ports) (told_of_late TimePasses (all_come TimePasses w))
      ∙ ap₂ (λ x y. x || y)
      (flat_none test e (λ p. told_at w.core p (Some Tick)) (λ p. at_any test e w.core p (Some Tick) ∙ (grind arith)) w.ports)
      (late_none w.core w.ports a)))

host_own : (e : End) (s : Site) → IfNoNotices s.node → tells_of_steps is_own_reset e (host_ticks s).1 ≡ false
host_own e s quiet =
    by_host_tick (λ p. tells_of_steps is_own_reset e p.1 ≡ false) s (λ q. refl)
    (λ r q. any_back is_own_reset e (host_tick s r).entries _ (frames_downless Host s.host (exchanged s.link) (host_tick s r))
    ∙ tick_none is_own_reset e (work_of r s.memory.plan (λ h. s.link.host) []) tt (λ p. ticked_asked p.side)
    (ports_none (λ h. s.link.host) r.desks (subst IfNoNotices q quiet)))

hosts_own : (e : End) (sites : List Site) → NoNotices sites → tells_of_steps is_own_reset e (hosts_tick sites).1 ≡ false
hosts_own e [] a = refl
hosts_own e (s ∷ sites) a =
    any_append is_own_reset e (host_ticks s).1 (hosts_tick sites).1 ∙ ap₂ (λ x y. x || y) (host_own e s a.0) (hosts_own e sites a.1)

-- they have no ends of the controller
module _ (test : EndedBy → Bool) (x : ℕ) where
  host_other : (s : Site) → (s.host == 0) ≡ false → IfItRuns s.host (s.host ∷ []) s.node → tells_of_steps test (end_c x) (host_ticks s).1 ≡ false
  host_other s off runs =
      by_host_tick (λ p. tells_of_steps test (end_c x) p.1 ≡ false) s (λ q. refl)
      (λ r q. any_back test (end_c x) (host_tick s r).entries _ (frames_downless Host s.host (exchanged s.link) (host_tick s r))
      ∙ step_other test (end_c x) TimePasses (work_of r s.memory.plan (λ h. s.link.host) []) tt
      (λ h. grind arith))

  hosts_other : (sites : List Site) → AllByRecursion (λ (s : Site). (s.host == 0) ≡ false) sites
      → AllByRecursion (λ (s : Site). IfItRuns s.host (s.host ∷ []) s.node) sites → tells_of_steps test (end_c x) (hosts_tick sites).1 ≡ false
  hosts_other [] a b = refl
  hosts_other (s ∷ sites) a b =
      any_append test (end_c x) (host_ticks s).1 (hosts_tick sites).1
      ∙ ap₂ (λ x y. x || y) (host_other s a.0 b.0) (hosts_other sites a.1 b.1)

-- ### The world

module _ (w : NodeWorld) (a : IsOrderly w) where
  abbrev old : NodeWorld
  old = (all_aged w).0

  -- at an end of the controller
  near_only : (test : EndedBy → Bool) (x : ℕ) → tells_of_steps test (end_c x) (world_ticks w).1 ≡ tells_of_steps test (end_c x) (controller_ticks old).1
  near_only test x =
      any_front test (end_c x) (all_aged w).1 ((controller_ticks old).1 ++ (hosts_tick (controller_ticks old).0.sites).1) (aged_downless w)
      ∙ (any_append test (end_c x) (controller_ticks old).1 (hosts_tick (controller_ticks old).0.sites).1
      ∙ (ap (λ b. tells_of_steps test (end_c x) (controller_ticks old).1 || b)
      (hosts_other test x (controller_ticks old).0.sites (ticked_orderly w a).hosts (ticked_orderly w a).nodes)
      ∙ or-false (tells_of_steps test (end_c x) (controller_ticks old).1)))

  near_frames : (v : Work) → AreDownless (flat_map (λ (s : Site). frames_noted Controller s.host s.link v) old.sites)
  near_frames v = flat_downless (λ (s : Site). frames_noted Controller s.host s.link v) (λ s. frames_downless Controller s.host s.link v) old.sites

  -- no host's end is reset
  pub far_tick : (e : End) → ((h : ℕ) → same_end (end_of h Controller) e ≡ false) → NoNotices w.sites → tells_of_steps is_own_reset e (world_ticks w).1 ≡ false
  far_tick e other quiet =
      any_front is_own_reset e (all_aged w).1 ((controller_ticks old).1 ++ (hosts_tick (controller_ticks old).0.sites).1) (aged_downless w)
      ∙ (any_append is_own_reset e (controller_ticks old).1 (hosts_tick (controller_ticks old).0.sites).1
      ∙ ap₂ (λ x y. x || y) near (hosts_own e (controller_ticks old).0.sites same)) where
        near : tells_of_steps is_own_reset e (controller_ticks old).1 ≡ false
        near =
            by_controller_tick (λ p. tells_of_steps is_own_reset e p.1 ≡ false) old (λ q. refl)
            (λ r q. any_back is_own_reset e (near_tick old r).entries _ (near_frames (near_tick old r))
            ∙ step_other is_own_reset e TimePasses (controller_tick_begins old r) tt
            (λ h. ap (λ side. same_end (end_of h side) e) (controller_side r.core (near_node w r a q).number) ∙ other h))

        mapped : (f : Site → Site) → ((s : Site) → (f s).node ≡ s.node) → (sites : List Site) → NoNotices sites → NoNotices (map f sites)
        mapped f node [] q = tt
        mapped f node (s ∷ sites) q = (subst IfNoNotices (sym (node s)) q.0, mapped f node sites q.1)

        same : NoNotices (controller_ticks old).0.sites
        same =
            by_controller_tick (λ p. NoNotices p.0.sites) old
            (λ q. mapped site_unticked (λ s. refl) old.sites (mapped (λ (s : Site). record s { link = aged s.link }) (λ s. refl) w.sites quiet))
            (λ r q. mapped (site_ticked (near_tick old r)) (λ s. refl) old.sites
            (mapped (λ (s : Site). record s { link = aged s.link }) (λ s. refl) w.sites quiet))

  -- ### Late notices

  module _ (t : List Entry) (k : KeepsNotices t w) (x : ℕ) (s : Site) (found : site_at w.sites x ≡ Some s) where
    -- none while the controller doesn't run
    pub off_tick : (test : EndedBy → Bool) → w.controller ≡ None → tells_of_steps test (end_c x) (world_ticks w).1 ≡ false
    off_tick test off = near_only test x ∙ ap (tells_of_steps test (end_c x)) (is off) where
      is : w.controller ≡ None → (controller_ticks old).1 ≡ []
      is q = rw q refl

    module _ (r : Running) (runs : w.controller ≡ Some r) where
      abbrev node : HasEnds 0 (hosts_in w.sites) r
      node = near_node w r a runs

      abbrev near_ends : ℕ → NumberedEnd
      near_ends h = (link_to old.sites h).controller

      abbrev pub at : Stands near_ends r.desks x
      at = stands near_ends r.desks w.sites x s node.ends found

      abbrev pub p : Port
      p = port_for (near_ends x) at.desk

      -- that end as the tick has come to it
      abbrev pub q : Port
      q = ticked p

      begun : IsOn x t (controller_tick_begins old r)
      begun =
          begins t w r node a.different (subst (IfNoticedUp w.sites) runs k.up) k.sites (subst (IfReads t) runs k.controller) w.memory.plan near_ends
          (λ n. aged_side t w a k.up (record { sites = k.sites; reads_so = k.controller }) w.sites n) [] tt TimePasses tt x

      pub kept_notice : IsKeptNotice (notice_in t x) at.desk.notice
      kept_notice =
          subst (λ u. IsKeptNotice (notice_in u x) at.desk.notice) (append-nil t)
          (subst (λ o. IsKeptNotice (notice_in (t ++ []) x) (option_and_then (λ (p : Port). p.desk.notice) o)) at.here begun.kept)

      come : IsCome (cond (is_some (ended_by p.side Tick)) None (notice_in t x)) q
      come =
          older_is _ (has_come p (Some Tick))
          (come_is p (refl, refl) (subst UpAt at.here begun.up)
          (subst (λ z. Rattle.node_laws.specs.notices.Worlds.IsShut z) (sym (aged_side t w a k.up
          (record { sites = k.sites; reads_so = k.controller }) w.sites x))
          (link_shut w.sites x k.sites))
          (notice_in t x) (Some Tick) coming kept_notice) where
            coming : (i : LinkInput) → Some Tick ≡ Some i → IsComing i
            coming i z = let same : Tick ≡ i = cc in subst IsComing same tt

      step_is : (test : EndedBy → Bool) → tells_of_steps test (end_c x) (world_ticks w).1
          ≡ (ends_by test (end_c x) p (Some Tick) || (is_late q && ends_by test (end_c x) q (Some (Reset None))))
      step_is test =
          near_only test x
          ∙ (ap (λ (z : NodeWorld × List Entry). tells_of_steps test (end_c x) z.1) (is runs)
          ∙ (any_back test (end_c x) (near_tick old r).entries _ (near_frames (near_tick old r))
          ∙ (step_tick test (end_c x) x (controller_tick_begins old r) tt
          (subst AreDifferent (sym (hosts_same near_ends r.desks ∙ node.ends)) a.different)
          (λ h. ap (λ side. same_end (end_of h side) (end_c x)) (controller_side r.core node.number) ∙ near_same h x)
          ∙ ap (λ o. option_map_or (λ p. ends_by test (end_c x) p (Some Tick) || (is_late (ticked p) && ends_by test (end_c x) (ticked p) (Some
          (Reset None)))) o false)
          at.here))) where
            is : w.controller ≡ Some r → controller_ticks old ≡ after_near_tick old (near_tick old r)
            is z = rw z refl

      not_of : (b : Bool) → not b ≡ true → b ≡ false
      not_of b z = grind arith

      -- the session ends by a reset where the notice is late
      pub reset_is : tells_of_steps is_own_reset (end_c x) (world_ticks w).1 ≡ is_late q
      reset_is =
          step_is is_own_reset
          ∙ (ap (λ b. b || (is_late q && ends_by is_own_reset (end_c x) q (Some (Reset None)))) (ticked_asked p.side) ∙ go (is_late q) refl) where
            go : (b : Bool) → is_late q ≡ b → (b && ends_by is_own_reset (end_c x) q (Some (Reset None))) ≡ b
            go false z = refl
            go true z =
                let parts = and_parts (option_map_or (λ (n : Notice). nat_le 100 n.age) q.desk.notice false) (not q.ended) z in
                (grind arith)
                ∙ reset_ends q.side come.shut (come.up (ap (λ b. b || false) (not_of q.ended parts.1)) (grind arith))

      -- and otherwise where it has ended as the tick came
      pub other_end_is : tells_of_steps otherwise (end_c x) (world_ticks w).1 ≡ q.ended
      other_end_is =
          step_is otherwise
          ∙ (grind arith) where
            go : (b c : Bool) → (b || (c && false)) ≡ b
            go b c = grind arith
