-- A link of a world of nodes is undisturbed while it settles, where nothing that disturbs it is noted of the world's rounds and ticks.
use Rattle.world_laws.proofs.Words.{AllAllowed, AreHosts, ArePassing, ArePlayable, ArePoweredNotes, AreReadyThroughout, AreSendableTurns, AreSessionsRead}
use Rattle.world_laws.proofs.Words.{AreUnstarted, AreUpWith, AsksReset, AtController, AtEnd, AtHost, Bool, Clf, Controller, CoreLink, Cut, End, Ending, Entry}
use Rattle.world_laws.proofs.Words.{FollowsNodes, GoesOnLink, GoesOut, Happening, HasEnds, Header, Host, IfItRuns, IsEvent, IsFineSite, IsLine}
use Rattle.world_laws.proofs.Words.{IsLinkUndisturbed, IsOrderly, IsUnderWay, IsUpNow, Known, Line, LineStep, Link, LinkEvent, LinkInput, List, Lost}
use Rattle.world_laws.proofs.Words.{NextFrame, NoInput, Node, NodeHistory, NodeWorld, None, Noted, Occurrence, Option, Play, Restarted, Round, Running, Saying}
use Rattle.world_laws.proofs.Words.{Side, Site, Some, Standing, StandsOf, Step, Takes, TellOf, Ticking, Ticks, TicksWithout, TimePassing, Turn, Uicc, Work, []}
use Rattle.world_laws.proofs.Words.{after_controller, after_events-append, after_host_step, after_link_events, aged, all_aged, all_go, all_happen}
use Rattle.world_laws.proofs.Words.{allowed-append, ap, append-nil, are_read, arith, between, between_far, by_coming, by_host, by_test, can_happen}
use Rattle.world_laws.proofs.Words.{clear_unstarted, comes_to, cond, controller_stands, controller_takes, controller_tells, controller_tick_on}
use Rattle.world_laws.proofs.Words.{controller_ticks, controller_work, cuts_on, drop, drop-append_seam, end_c, end_h, end_of, end_takes_all, ending_of}
use Rattle.world_laws.proofs.Words.{ends_events, ends_go, ends_in_order, ends_on, ends_take_all, entries, entries-append, entries_for, entries_in}
use Rattle.world_laws.proofs.Words.{entries_since, eq-eqb, eqb-true, event_entries, event_step, events_of_steps, events_on, exchanged, false, fine_there}
use Rattle.world_laws.proofs.Words.{flat_map-append, frames_at, given, happenings, happens, has_ended, heard, host_does, host_does_step, host_number}
use Rattle.world_laws.proofs.Words.{host_ticks, host_work, hosts_in, input_of, is_of, is_open, is_waiting, length, lines_played, link_events_in}
use Rattle.world_laws.proofs.Words.{link_is, link_same, link_to, list_any, list_any-append, near_turns, new_clf, new_line, new_link_end, new_uicc, new_world}
use Rattle.world_laws.proofs.Words.{no_cut, node_entries, nodes_behind, not, number_now, occurrences_in, of_link, open_up, or_none, played_rounds, refl}
use Rattle.world_laws.proofs.Words.{replicate, round_events, round_goes, rounds_allowed, rounds_events, rounds_go, rounds_of_world, rounds_to_rest, said}
use Rattle.world_laws.proofs.Words.{session_up, site_at, site_host, site_takes, site_ticks, standing, standing_by_law, start_under_way, step_entries, steps}
use Rattle.world_laws.proofs.Words.{subst, suc, swapped, sym, takes_allowed, takes_go, takes_pass, tells_of, tick_event, tick_so, tick_unstarted, ticking}
use Rattle.world_laws.proofs.Words.{ticks_at_controller, ticks_go, ticks_on, true, true≢false, turns_at, untold, world_after_round, world_behind, world_round}
use Rattle.world_laws.proofs.Words.{world_step, world_ticked, world_ticks, zero, ℕ, ◌&&◌, ◌++◌, ◌==◌, ◌||◌, ◌∙◌, ◌∷◌, ◌≡◌}
use Rattle.history.specs.Legal.{has_lost, loses_on}
use Rattle.link_laws.specs.entries.Entries.Entry.{Down}
use Rattle.node_laws.proofs.links.Sites.{AreNodes, Clean, reset_allowed, tick_allowed}
use Rattle.node_laws.proofs.order.Ticking.{aged_clean, far_sends, near_sends, timely}
use Rattle.node_laws.proofs.order.Watches.{is_cut}
use Rattle.node_laws.proofs.rounds.Allowing.{TickedOfLinkEvents as Ticked}
use Rattle.node_laws.proofs.telling.Shapes.{IsShaped, last_of, shaped_step}
use Rattle.world_laws.proofs.schedules.NotedQuiet.{last, reached, rounds_occur}
use Rattle.world_laws.proofs.undisturbed.Runs.{AreBothUpNow, AreRoundEvents, Calm, IsRoundEvent, TickParts, Unbegun, calm_parts, calm_run, far_session}
use Rattle.world_laws.proofs.undisturbed.Runs.{goes_out, keeps, near_session, reset_ends, tick_parts, troubles, up_after, way_to}
use Rattle.world_laws.proofs.worlds.Endings.{late_not_up}
use Rattle.world_laws.proofs.worlds.WorldRounds.{IsReached, known_there, on_first, reached_end, reached_ends, reached_round, reached_takes, reached_ticks}
use Rattle.world_laws.proofs.worlds.WorldRounds.{runs_where_up}
use Rattle.trace_model.specs.declared.line.Line.TheVariants as line

-- ## Where entries tell of nothing that disturbs a link, the law of one link notes nothing that does

-- ### What is noted

-- nothing that disturbs a link is noted where it isn't activated, keeps its power and its sessions, and no frame of it is lost
pub noted_calm : (h : ℕ) (t : List Noted) → AreUnstarted t → list_any is_cut t ≡ false → has_ended h (entries_for h t) ≡ false
    → has_lost h (entries_for h t) ≡ false → Calm t
noted_calm h [] u c a b = refl
noted_calm h (Down w cause ∷ t) u c a b =
    absurd (true≢false (sym (link_same h w) ∙ (or_none ((end_of h w).link == h) (has_ended h (entries_for h t)) a).0))
noted_calm h (Lost w frame why ∷ t) u c a b = grind arith
noted_calm h (Restarted w ∷ t) u c a b = absurd u.0
noted_calm h (Cut w ∷ t) u c a b = absurd (true≢false c)
noted_calm h (_ ∷ t) u c a b = noted_calm h t u.1 c a b

-- what is said of other links ends no session of this one, and loses no frame of it
ends_off : (h : ℕ) (o : Option (End × Saying)) → is_of h o ≡ false → ends_on h o ≡ false
ends_off h o q = grind arith

module _ (h : ℕ) (f : Option (End × Saying) → Bool) (off : (o : Option (End × Saying)) → is_of h o ≡ false → f o ≡ false) where
  any_of : (t : List Entry) → list_any (λ x. f (said x)) t ≡ list_any (λ x. f (said x)) (of_link h t)
  any_of [] = refl
  any_of (x ∷ t) = by_test (tells_of h x) (λ p. rw p (ap (λ b. f (said x) || b) (any_of t))) (λ p. let z = off (said x) (untold h x p) in rw (p, z) (any_of t))

  -- entries that tell the same of the link
  same_of : (t u : List Entry) → of_link h t ≡ of_link h u → list_any (λ x. f (said x)) t ≡ list_any (λ x. f (said x)) u
  same_of t u q = any_of t ∙ (ap (list_any (λ x. f (said x))) q ∙ sym (any_of u))

-- entries that nothing disturbs are so in their parts
powered_parts : (h : ℕ) (t u : List Entry) → ArePoweredNotes (t ++ u) h → ArePoweredNotes t h × ArePoweredNotes u h
powered_parts h t u a =
    let ended = or_none (has_ended h t) (has_ended h u) (sym (list_any-append (λ x. ends_on h (said x)) t u) ∙ a.undisturbed.lasting) in
    let lost = or_none (has_lost h t) (has_lost h u) (sym (list_any-append (λ x. loses_on h (said x)) t u) ∙ a.undisturbed.lossless) in
    let cut = or_none (list_any (cuts_on h) t) (list_any (cuts_on h) u) (sym (list_any-append (cuts_on h) t u) ∙ a.powered) in (grind arith)

-- ### Events of which entries tell

-- these entries tell of the link what the law of one link notes of these events there, each one in a round
record IsTold (h : ℕ) (l : Link) (es : List LinkEvent) (u : List Entry) : Type 0 where
  pub rounds : AreRoundEvents es
  pub told : of_link h u ≡ of_link h (entries_for h (entries l es))
  pub stands : (x : Standing) → standing h x u ≡ standing_by_law h x (entries l es)
  pub unstarted : AreUnstarted (entries l es)

one_told : (h : ℕ) (l : Link) (e : LinkEvent) (u : List Entry) → IsRoundEvent e → TellOf h l e u → StandsOf h l e u → AreUnstarted (event_entries l e)
    → IsTold h l (e ∷ []) u
one_told h l e u round told stands unstarted = let h0 = append-nil (event_entries l e) in grind arith

event_told : (h : ℕ) (l : Link) (e : LinkEvent) (es : List LinkEvent) (u v : List Entry) → es ≡ e ∷ [] → u ≡ v → IsTold h l (e ∷ []) v → IsTold h l es u
event_told h l e es u v q noted told = subst (λ z. IsTold h l z u) (sym q) (subst (λ z. IsTold h l (e ∷ []) z) (sym noted) told)

-- so where they tell of nothing that disturbs it, that law notes nothing that does
calm_told : (h : ℕ) (l : Link) (es : List LinkEvent) (u : List Entry) → IsTold h l es u → ArePoweredNotes u h → Calm (entries l es)
calm_told h l es u t a =
    let notes : List Noted = entries l es in
    noted_calm h notes t.unstarted (no_cut h u notes a.powered t.stands)
    (sym (same_of h (ends_on h) (ends_off h) u (entries_for h notes) t.told) ∙ a.undisturbed.lasting)
    (sym (same_of h (loses_on h) (λ o q. grind arith) u (entries_for h notes) t.told) ∙ a.undisturbed.lossless)

-- ## What a world of nodes notes as an end takes a frame is on each link what the law of one link notes of the event there

unstarted_then : (xs ys : List Noted) → AreUnstarted xs → AreUnstarted ys → AreUnstarted (xs ++ ys)
unstarted_then [] ys a b = b
unstarted_then (x ∷ xs) ys a b = (a.0, unstarted_then xs ys a.1 b)

shaped_so : (who : Side) (ending : Ending) (notes : List Noted) → IsShaped who ending notes → AreUnstarted notes
shaped_so who ending notes s =
    subst (λ z. AreUnstarted z) (sym s.is) (unstarted_then s.body (last_of who ending) (clear_unstarted s.body s.clear) (grind arith))

-- an end takes a frame, or its node has turns there
frame_unstarted : (who : Side) (l : Link) (i : LinkInput) (ts : List Turn) (ending : Ending) (b : Bool)
    → input_of l (cond b NextFrame NoInput) ≡ cond b (Some i) None → AreUnstarted (step_entries who l (cond b NextFrame NoInput) ts ending)
frame_unstarted who l i ts ending true q =
    let s = shaped_step who l NextFrame ts ending (Some i) q tt in
    subst (λ z. AreUnstarted z) (sym s.is) (shaped_so who ending s.rest s.shaped)
frame_unstarted who l i ts ending false q =
    let s = shaped_step who l NoInput ts ending None refl tt in
    subst (λ z. AreUnstarted z) (sym s.is) (shaped_so who ending s.rest s.shaped)

-- ### A frame is taken

module _ (w : NodeWorld) (h : ℕ) (s : Site) (orderly : IsOrderly w) (found : site_at w.sites h ≡ Some s) where
  number_of_taking : s.host ≡ h
  number_of_taking = site_host w.sites h s found

  -- by the controller, on this link or on another one
  near_told : (k : ℕ) → IsTold h s.link (link_events_in h w (Takes (end_c k))) (world_step w (Takes (end_c k))).1
  near_told k = go (input_of (link_to w.sites k) NextFrame) w.controller refl refl
    where
      es : List LinkEvent
      es = link_events_in h w (Takes (end_c k))

      u : List Entry
      u = (world_step w (Takes (end_c k))).1

      first : es ≡ controller_takes s.host w k
      first = rw found refl

      go : (i : Option LinkInput) (c : Option Running) → input_of (link_to w.sites k) NextFrame ≡ i → w.controller ≡ c → IsTold h s.link es u
      go None c p r = grind arith
      go (Some i) None p r = grind arith
      go (Some i) (Some n) p r =
          let work : Work = controller_work w n k NextFrame (steps (AtEnd k i)) in
          let at : ℕ → LinkEvent = λ m. AtController (Step (comes_to k NextFrame m) (turns_at work m) (ending_of work)) in
          let node : HasEnds 0 (hosts_in w.sites) n = subst (IfItRuns 0 (hosts_in w.sites)) r orderly.controller in
          event_told h s.link (at h) es u (after_controller w k NextFrame work).1 (first ∙ ((rw (p, r) refl) ∙ ap (λ m. at m ∷ []) number_of_taking))
          (grind arith)
          (one_told h s.link (at h) (after_controller w k NextFrame work).1 (grind arith)
          (controller_tells w n k NextFrame h s orderly node found i p) (controller_stands w n k NextFrame h s orderly node found i p)
          (frame_unstarted Controller s.link i (turns_at work h) (ending_of work) (h == k)
          (given w n k NextFrame h s orderly node found i p (h == k) refl)))

  -- by the host of the link
  own_told : IsTold h s.link (link_events_in h w (Takes (end_h h))) (world_step w (Takes (end_h h))).1
  own_told = go (input_of (exchanged s.link) NextFrame) s.node refl refl
    where
      es : List LinkEvent
      es = link_events_in h w (Takes (end_h h))

      u : List Entry
      u = (world_step w (Takes (end_h h))).1

      link : link_to w.sites h ≡ s.link
      link = link_is w.sites h s found

      first : es ≡ site_takes s
      first = let own = eq-eqb s.host h number_of_taking in rw (found, own) refl

      go : (i : Option LinkInput) (c : Option Running) → input_of (exchanged s.link) NextFrame ≡ i → s.node ≡ c → IsTold h s.link es u
      go None c p r = grind arith
      go (Some i) None p r = grind arith
      go (Some i) (Some n) p r =
          let is = link in
          let work : ℕ → Work = λ m. host_work s n NextFrame (steps (AtEnd m i)) in
          let at : ℕ → LinkEvent = λ m. AtHost (Step NextFrame (turns_at (work m) s.host) (ending_of (work m))) in
          let second : site_takes s ≡ at s.host ∷ [] = rw (p, r) refl in
          let does = host_does_step w s n h orderly found r NextFrame i p in
          event_told h s.link (at h) es u (host_does w h NextFrame (steps (AtEnd h i))).1 (first ∙ (second ∙ ap (λ m. at m ∷ []) number_of_taking))
          (grind arith)
          (one_told h s.link (at h) (host_does w h NextFrame (steps (AtEnd h i))).1 tt does.own does.stands
          (frame_unstarted Host (exchanged s.link) i (turns_at (work h) s.host) (ending_of (work h)) true p))

  -- by another host: nothing is told of the link
  other_told : (k : ℕ) → (s.host == k) ≡ false → IsTold h s.link (link_events_in h w (Takes (end_h k))) (world_step w (Takes (end_h k))).1
  other_told k other =
      let both = by_coming Leaves w (end_h k) NextFrame (refl, λ x. refl)
      (λ i side q. by_host Leaves w k NextFrame (steps (AtEnd k i)) (refl, λ x. refl) (λ t n there runs. by_step i q t n there runs))
      (λ i side q. absurd (true≢false side)) in
      grind arith
    where
      Leaves : NodeWorld × List Entry → Type 0
      Leaves p = (of_link h p.1 ≡ []) × ((x : Standing) → standing h x p.1 ≡ x)

      away : (k == h) ≡ false
      away = swapped h k (ap (λ n. n == k) (sym number_of_taking) ∙ other)

      by_step : (i : LinkInput) → input_of (exchanged (link_to w.sites k)) NextFrame ≡ Some i → (t : Site) (n : Running) → site_at w.sites k ≡ Some t
          → t.node ≡ Some n → Leaves (after_host_step w k NextFrame t (host_work t n NextFrame (steps (AtEnd k i))))
      by_step i q t n there runs =
          let does = host_does_step w t n k orderly there runs NextFrame i
          (ap (λ l. input_of (exchanged l) NextFrame) (sym (link_is w.sites k t there)) ∙ q) in
          let v : List Entry = (after_host_step w k NextFrame t (host_work t n NextFrame (steps (AtEnd k i)))).1 in
          let is : (host_does w k NextFrame (steps (AtEnd k i))).1 ≡ v = rw (there, runs) refl in
          (ap (of_link h) (sym is) ∙ does.others h away, λ x. ap (standing h x) (sym is) ∙ does.leaves h away x)

  far_told : (k : ℕ) → IsTold h s.link (link_events_in h w (Takes (end_h k))) (world_step w (Takes (end_h k))).1
  far_told k = by_test (s.host == k)
      (λ q. let is : h ≡ k = sym number_of_taking ∙ eqb-true s.host k q in
      subst (λ m. IsTold h s.link (link_events_in h w (Takes (end_h m))) (world_step w (Takes (end_h m))).1) is own_told)
      (λ q. other_told k q)

  takes_told : (e : End) → IsTold h s.link (link_events_in h w (Takes e)) (world_step w (Takes e)).1
  takes_told e = go e.at_host
    where
      go : (b : Bool) → IsTold h s.link (link_events_in h w (Takes (record { link = e.link; at_host = b })))
          (world_step w (Takes (record { link = e.link; at_host = b }))).1
      go false = near_told e.link
      go true = far_told e.link

-- ## Where nothing that disturbs a link is noted of a tick, and both its ends are up before it, they are up behind it

-- events of a link in rounds of which nothing is noted that disturbs it, and both ends are up behind them
record GoesCalmly (l : Link) (es : List LinkEvent) : Type 0 where
  pub calm : Calm (entries l es)
  pub rounds : AreRoundEvents es
  pub up : AreBothUpNow (after_link_events l es)

-- the ends of a link of a world stay up
still_up : (hosts : List ℕ) (w : NodeWorld) (h : ℕ) (s : Site) → IsReached hosts w → site_at w.sites h ≡ Some s → (es : List LinkEvent)
    → AllAllowed s.link es → AreBothUpNow s.link → Calm (entries s.link es) → AreBothUpNow (after_link_events s.link es)
still_up hosts w h s r found es a up calm =
    let run = (fine_there w h s r.so.well.fine found).link.run in
    let pre : List LinkEvent = run.events in
    let is : s.link ≡ after_link_events new_line pre = sym run.run.is in
    let allowed_of_ticking : AllAllowed new_line (pre ++ es) =
    allowed-append pre es new_line run.run.allowed (subst (λ (l : Link). AllAllowed l es) is a) in
    let behind : AreBothUpNow (after_link_events new_line (pre ++ es)) =
    up_after new_line IsLine pre es allowed_of_ticking (subst AreBothUpNow is up) (subst (λ (l : Link). Calm (entries l es)) is calm) in
    subst (λ (l : Link). AreBothUpNow (after_link_events l es)) (sym is) (subst AreBothUpNow (after_events-append pre es new_line) behind)

-- ### Nodes that run behind their ticks

near_goes_out : (h : ℕ) (w : NodeWorld) (n : Running) → (controller_ticks w).0.controller ≡ Some n → (controller_tick_on h w).0.ending ≡ GoesOut
near_goes_out h w n q = grind arith

far_goes_out : (x : Site) (n : Running) → (host_ticks x).0.node ≡ Some n → (site_ticks x).ending ≡ GoesOut
far_goes_out x n q = grind arith

same_node : (a b : Node) → a.turns ≡ b.turns → a.ending ≡ GoesOut → b.ending ≡ GoesOut → a ≡ b
same_node a b turns p q = grind arith

one_calm : (l : Link) (e : LinkEvent) → Calm (entries l (e ∷ [])) → Calm (event_entries l e)
one_calm l e c = (calm_parts (event_entries l e) [] c).0

-- ### A tick

module _ (hosts : List ℕ) (w : NodeWorld) (h : ℕ) (s : Site) (r : IsReached hosts w) (found : site_at w.sites h ≡ Some s) (up : AreBothUpNow s.link)
    (notes : ArePoweredNotes (world_ticks w).1 h) where
  abbrev old : NodeWorld
  old = (all_aged w).0

  fine : IsFineSite s
  fine = fine_there w h s r.so.well.fine found

  known : Known s.link
  known = known_there hosts w h s r found

  near_open : is_open s.link.controller.side.role ≡ true
  near_open = open_up s.link.controller known.good.controller.now.closed up.controller

  far_open : is_open s.link.host.side.role ≡ true
  far_open = open_up s.link.host known.good.host.now.closed up.host

  -- what the tick is on the link, as the world notes it
  t : Ticking w h s
  t = ticking w h s r.so.well.orderly found (timely w (entries_in r.events) _ h s r.so.up found (r.so.each h s found))

  noted : Calm (entries s.link (tick_event t.late t.near t.far ∷ []))
  noted =
      let e : LinkEvent = tick_event t.late t.near t.far in
      calm_told h s.link (e ∷ []) (world_ticks w).1
      (one_told h s.link e (world_ticks w).1 (grind arith) t.told t.stands (tick_unstarted t.late s.link t.near t.far)) notes

  abbrev x : Site
  x = record s { link = between t.late (aged s.link) t.near }

  in_time : t.late ≡ false
  in_time = by_test t.late
      (λ q. let P : Bool → Type 0 = λ z. Calm (entries s.link (tick_event z t.near t.far ∷ [])) in
      absurd (reset_ends s.link near_open up.controller t.near.turns t.near.ending t.far (one_calm s.link (tick_event true t.near t.far) (subst P q noted))))
      (λ q. q)

  abbrev event : LinkEvent
  event = Ticks t.near [] t.far

  event_is : tick_event t.late t.near t.far ≡ event
  event_is = ap (λ z. tick_event z t.near t.far) in_time

  calm : Calm (entries s.link (event ∷ []))
  calm = subst (λ e. Calm (entries s.link (e ∷ []))) event_is noted

  parts : TickParts s.link t.near t.far
  parts = tick_parts s.link t.near t.far (one_calm s.link event calm)

  near_out : t.near.ending ≡ GoesOut
  near_out = goes_out Controller (aged s.link) t.near parts.near

  far_out : t.far.ending ≡ GoesOut
  far_out = goes_out Host (exchanged (ticks_at_controller (aged s.link) t.near.turns t.near.ending)) t.far parts.far

  sends : AreNodes t.near t.far
  sends =
      let clean = aged_clean w.sites r.so.well.fine.sites in
      let side : x.link.host.side ≡ s.link.host.side = between_far t.late (aged s.link) t.near in
      record {
        controller = subst AreSendableTurns (sym t.near_had) (near_sends old h w.controller clean r.so.well.fine.controller);
        host = subst AreSendableTurns (sym t.far_had) (far_sends x s.node (subst Clean (sym side) fine.link.line.far) fine.node);
      }

  allowed_of_ticking : IsEvent s.link event
  allowed_of_ticking = tick_allowed s.link t.near t.far sends fine.link.line

  behind : AreBothUpNow (happens s.link event)
  behind = still_up hosts w h s r found (event ∷ []) (allowed_of_ticking, tt) up calm

  -- what it is by the world that ticks
  g : Ticked w (world_step w TimePassing).0 h s
  g = world_ticked w h s found

  later_up : AreBothUpNow (host_ticks x).0.link
  later_up = subst AreBothUpNow (ap (happens s.link) (sym event_is) ∙ t.is) behind

  controller_runs : (n : Running) × ((controller_ticks old).0.controller ≡ Some n)
  controller_runs =
      let k = (reached_ticks hosts w r).so.each h (host_ticks x).0 t.there in
      runs_where_up (controller_ticks old).0.controller (new_link_end (Clf new_clf)) (host_ticks x).0.link.controller.side k.near refl later_up.controller

  host_runs : (n : Running) × ((host_ticks x).0.node ≡ Some n)
  host_runs =
      let k = (reached_ticks hosts w r).so.each h (host_ticks x).0 t.there in
      runs_where_up (host_ticks x).0.node (new_link_end (Uicc new_uicc)) (host_ticks x).0.link.host.side k.far refl later_up.host

  middle : g.between ≡ x
  middle = let z : Some g.between ≡ Some x = sym g.near ∙ t.near_there in cc

  near_is : (controller_tick_on s.host old).0 ≡ t.near
  near_is =
      let out : (controller_tick_on s.host old).0.ending ≡ GoesOut = near_goes_out s.host old controller_runs.0 controller_runs.1 in
      same_node (controller_tick_on s.host old).0 t.near
      ((grind arith) ∙ (ap (λ n. near_turns old n w.controller) (site_host w.sites h s found) ∙ sym t.near_had)) out near_out

  far_is : site_ticks g.between ≡ t.far
  far_is = ap site_ticks middle ∙ same_node (site_ticks x) t.far ((grind arith) ∙ sym t.far_had) (far_goes_out x host_runs.0 host_runs.1) far_out

  abbrev late : Bool
  late = (controller_tick_on s.host old).1

  as_ticked : link_events_in h w TimePassing ≡ tick_so s.link late t.near t.far ∷ []
  as_ticked =
      let near = g.near in
      (grind arith) ∙ (ap (λ c. tick_so s.link late c (site_ticks g.between) ∷ []) near_is ∙ ap (λ d. tick_so s.link late t.near d ∷ []) far_is)

  goes_on : (host_ticks x).0.link ≡ happens s.link (tick_so s.link late t.near t.far)
  goes_on =
      let same : Some (host_ticks x).0 ≡ Some g.goes.later = sym t.there ∙ g.goes.is in
      let one : (host_ticks x).0 ≡ g.goes.later = cc in
      let is : link_events_in h w TimePassing ≡ ticks_on s w g.between = rw (found, g.near) refl in
      ap (λ (z : Site). z.link) one ∙ (g.goes.link ∙ ap (after_link_events s.link) (sym is ∙ as_ticked))

  event_so : tick_so s.link late t.near t.far ≡ event
  event_so = by_test (late && not (is_waiting s.link.controller.side.shdlc))
      (λ q. let reset : LinkEvent = TicksWithout (Step (AsksReset None) t.near.turns t.near.ending ∷ []) t.far in
      let is : tick_so s.link late t.near t.far ≡ reset = rw q refl in
      let waits : is_waiting s.link.controller.side.shdlc ≡ false = grind arith in
      let there : (happens s.link reset).controller.side.shdlc.phase ≡ IsUpNow =
      ap (λ (l : Link). l.controller.side.shdlc.phase) (sym (goes_on ∙ ap (happens s.link) is)) ∙ later_up.controller in
      let core = (event_step s.link reset (reset_allowed s.link t.near t.far sends fine.link.line waits) known.good known.reached).core in
      absurd (late_not_up s.link t.near.turns near_open waits t.near.ending t.far far_open far_out
      (sym (ap (λ (c : CoreLink). c.controller.side.phase) core) ∙ there)))
      (λ q. rw q refl)

  tick_calmly : GoesCalmly s.link (link_events_in h w TimePassing)
  tick_calmly = subst (GoesCalmly s.link) (sym (as_ticked ∙ ap (λ e. e ∷ []) event_so)) (record { calm = calm; rounds = (tt, tt); up = behind })

-- ## Where nothing that disturbs a link is noted of rounds, and both its ends are up before them, they are up behind them

-- ### One part behind another

rounds-append : (es fs : List LinkEvent) → AreRoundEvents es → AreRoundEvents fs → AreRoundEvents (es ++ fs)
rounds-append [] fs a b = b
rounds-append (e ∷ es) fs a b = (a.0, rounds-append es fs a.1 b)

calm_none : (l : Link) → AreBothUpNow l → GoesCalmly l []
calm_none l up = record { calm = refl; rounds = tt; up = up }

calm_then : (l : Link) (es fs : List LinkEvent) → GoesCalmly l es → GoesCalmly (after_link_events l es) fs → GoesCalmly l (es ++ fs)
calm_then l es fs a b =
    let m : Link = after_link_events l es in
    record {
      calm = ap (list_any troubles) (entries-append es fs l)
          ∙ (list_any-append troubles (entries l es) (entries m fs) ∙ (ap (λ c. c || list_any troubles (entries m fs)) a.calm ∙ b.calm));
      rounds = rounds-append es fs a.rounds b.rounds;
      up = subst AreBothUpNow (sym (after_events-append es fs l)) b.up;
    }

noted_parts : (h : ℕ) (xs ys : List Occurrence) → ArePoweredNotes (entries_in (xs ++ ys)) h
    → ArePoweredNotes (entries_in xs) h × ArePoweredNotes (entries_in ys) h
noted_parts h xs ys a =
    powered_parts h (entries_in xs) (entries_in ys)
    (subst (λ t. ArePoweredNotes t h) (flat_map-append (λ (o : Occurrence). o.entries) xs ys) a)

module _ (hosts : List ℕ) (h : ℕ) where
  -- ### Frames that are taken, and ticks

  takes_calmly : (w : NodeWorld) (e : End) (s : Site) → IsReached hosts w → site_at w.sites h ≡ Some s → AreBothUpNow s.link
      → ArePoweredNotes (world_step w (Takes e)).1 h → GoesCalmly s.link (link_events_in h w (Takes e))
  takes_calmly w e s r q up notes =
      let es : List LinkEvent = link_events_in h w (Takes e) in
      let told = takes_told w h s r.so.well.orderly q e in
      let calm : Calm (entries s.link es) = calm_told h s.link es (world_step w (Takes e)).1 told notes in
      record { calm = calm; rounds = told.rounds; up = still_up hosts w h s r q es (takes_allowed w h s r.so.well.fine q e) up calm }

  all_calmly : (causes : List Happening) (w : NodeWorld) (s : Site) → ArePassing causes → IsReached hosts w → site_at w.sites h ≡ Some s
      → AreBothUpNow s.link → ArePoweredNotes (entries_in (all_happen w causes).1) h → GoesCalmly s.link (events_on h w causes)
  all_calmly [] w s p r q up notes = calm_none s.link up
  all_calmly (Takes e ∷ causes) w s p r q up notes = by_test (can_happen w (Takes e))
      (λ c. let now : List Entry = (world_step w (Takes e)).1 in
      let both = powered_parts h now (entries_in (all_happen v causes).1) (subst (λ t. ArePoweredNotes t h) (grind arith) notes) in
      let g = takes_go w e h s q in
      let one = takes_calmly w e s r q up both.0 in
      let more = (all_calmly causes (world_step w (Takes e)).0) g.later p (reached_takes hosts w e r) g.is (subst AreBothUpNow (sym g.link) one.up) both.1 in
      subst (GoesCalmly s.link) (sym (on_first h w e causes c))
      (calm_then s.link (link_events_in h w (Takes e)) (events_on h v causes) one (subst (λ l. GoesCalmly l (events_on h v causes)) g.link more)))
      (λ c. grind arith)
    where
      v : NodeWorld
      v = (world_step w (Takes e)).0
  all_calmly (TimePassing ∷ causes) w s p r q up notes =
      let v : NodeWorld = (world_step w TimePassing).0 in
      let both = powered_parts h (world_step w TimePassing).1 (entries_in (all_happen v causes).1) notes in
      let g = ticks_go w h s q in
      let one = tick_calmly hosts w h s r q up both.0 in
      let more = all_calmly causes v g.later p (reached_ticks hosts w r) g.is (subst AreBothUpNow (sym g.link) one.up) both.1 in
      calm_then s.link (link_events_in h w TimePassing) (events_on h v causes) one (subst (λ l. GoesCalmly l (events_on h v causes)) g.link more)
  all_calmly (_ ∷ causes) w s p r q up notes = absurd p

  -- ### Rounds

  ends_calmly : (ends : List End) (w : NodeWorld) (s : Site) → IsReached hosts w → site_at w.sites h ≡ Some s → AreBothUpNow s.link
      → ArePoweredNotes (entries_in (ends_take_all w ends).1) h → GoesCalmly s.link (ends_events h w ends)
  ends_calmly [] w s r q up notes = calm_none s.link up
  ends_calmly (e ∷ ends) w s r q up notes =
      let causes : List Happening = happenings w (line.Deliver e None) in
      let v : NodeWorld = (end_takes_all w e).0 in
      let both = noted_parts h (end_takes_all w e).1 (ends_take_all v ends).1 notes in
      let pass : ArePassing causes = takes_pass (length (frames_at w e)) e in
      let g = all_go causes w h s pass q in
      let one = all_calmly causes w s pass r q up both.0 in
      let more = ends_calmly ends v g.later (reached_end hosts w e r) g.is (subst AreBothUpNow (sym g.link) one.up) both.1 in
      calm_then s.link (events_on h w causes) (ends_events h v ends) one (subst (λ l. GoesCalmly l (ends_events h v ends)) g.link more)

  round_calmly : (w : NodeWorld) (s : Site) → IsReached hosts w → site_at w.sites h ≡ Some s → AreBothUpNow s.link
      → ArePoweredNotes (entries_in (world_round w).1) h → GoesCalmly s.link (round_events h w)
  round_calmly w s r q up notes =
      let ends : List End = ends_in_order w in
      let v : NodeWorld = (ends_take_all w ends).0 in
      let time : List LinkEvent = events_on h v (TimePassing ∷ []) in
      let both = noted_parts h (ends_take_all w ends).1 (all_happen v (TimePassing ∷ [])).1 notes in
      let g = ends_go ends w h s q in
      let one = ends_calmly ends w s r q up both.0 in
      let more = all_calmly (TimePassing ∷ []) v g.later tt (reached_ends hosts ends w r) g.is (subst AreBothUpNow (sym g.link) one.up) both.1 in
      calm_then s.link (ends_events h w ends) time one (subst (λ l. GoesCalmly l time) g.link more)

  rounds_calmly : (n : ℕ) (w : NodeWorld) (s : Site) → IsReached hosts w → site_at w.sites h ≡ Some s → AreBothUpNow s.link
      → ArePoweredNotes (entries_in (rounds_of_world n w).1) h → GoesCalmly s.link (rounds_events h n w)
  rounds_calmly zero w s r q up notes = calm_none s.link up
  rounds_calmly (suc n) w s r q up notes =
      let v : NodeWorld = world_after_round w in
      let both = noted_parts h (world_round w).1 (rounds_of_world n v).1 notes in
      let g = round_goes w h s q in
      let one = round_calmly w s r q up both.0 in
      let more = rounds_calmly n v g.later (reached_round hosts w r) g.is (subst AreBothUpNow (sym g.link) one.up) both.1 in
      calm_then s.link (round_events h w) (rounds_events h n v) one (subst (λ l. GoesCalmly l (rounds_events h n v)) g.link more)

-- ## A link of a world of nodes is undisturbed while it settles, where nothing that disturbs it is noted of its rounds

-- ### A world that is reached

module _ (hosts : List ℕ) (w : NodeWorld) (h : ℕ) (s : Site) (r : IsReached hosts w) (found : site_at w.sites h ≡ Some s) (n : ℕ) where
  abbrev fs : List LinkEvent
  fs = rounds_events h n w

  allowed : AllAllowed s.link fs
  allowed = rounds_allowed n w h s r.so.well.fine found

  -- its rounds are undisturbed on a link, and no session of it begins
  calm_there : GoesCalmly s.link fs → AreBothUpNow s.link → AreReadyThroughout s.link fs → IsLinkUndisturbed s.link fs × Unbegun (entries s.link fs)
  calm_there goes up ready =
      let run = (fine_there w h s r.so.well.fine found).link.run in
      let way = way_to run.events new_line run.run.allowed (start_under_way new_line IsLine) in
      calm_run new_line IsLine fs run.events s.link run.run.is run.run.allowed allowed goes.rounds (subst (IsUnderWay way.0) run.run.is way.1) up ready
      goes.calm

  -- the sessions of its ends behind them are what is noted of them
  record EndsThen : Type 0 where
    pub controller : number_now (after_link_events s.link fs).controller ≡ heard Controller (number_now s.link.controller) (entries s.link fs)
    pub host : number_now (after_link_events s.link fs).host ≡ heard Host (number_now s.link.host) (entries s.link fs)

  ends_then : EndsThen
  ends_then =
      let run = (fine_there w h s r.so.well.fine found).link.run in
      let pre : List LinkEvent = run.events in
      let all : AllAllowed new_line (pre ++ fs) =
      allowed-append pre fs new_line run.run.allowed (subst (λ (l : Link). AllAllowed l fs) (sym run.run.is) allowed) in
      let behind : after_link_events new_line (pre ++ fs) ≡ after_link_events s.link fs =
      after_events-append pre fs new_line ∙ ap (λ (l : Link). after_link_events l fs) run.run.is in
      let near : Link → Link → Type 0 = λ l m. number_now m.controller ≡ heard Controller (number_now l.controller) (entries l fs) in
      let far : Link → Link → Type 0 = λ l m. number_now m.host ≡ heard Host (number_now l.host) (entries l fs) in
      record {
        controller = subst (near s.link) behind
            (subst (λ l. near l (after_link_events new_line (pre ++ fs))) run.run.is (near_session new_line IsLine pre fs all));
        host = subst (far s.link) behind
            (subst (λ l. far l (after_link_events new_line (pre ++ fs))) run.run.is (far_session new_line IsLine pre fs all));
      }

-- ### Behind plays

module _ (header : Header) (are : AreHosts header.hosts.items) (plays : List Play) (n : ℕ) (p : ArePlayable (lines_played header plays))
    (later_p : ArePlayable (lines_played header (plays ++ replicate (rounds_to_rest header plays n) Round))) (t later : NodeHistory)
    (follows : FollowsNodes header (lines_played header plays) t)
    (goes_on : FollowsNodes header (lines_played header (plays ++ replicate (rounds_to_rest header plays n) Round)) later) where
  abbrev hosts : List ℕ
  hosts = header.hosts.items

  abbrev w : NodeWorld
  w = nodes_behind header (lines_played header plays)

  abbrev rounds : ℕ
  rounds = rounds_to_rest header plays n

  abbrev all : List Line
  all = lines_played header (plays ++ replicate (rounds_to_rest header plays n) Round)

  -- the later history has what occurs in the rounds behind what occurs in the earlier one
  later_occurs : occurrences_in later ≡ occurrences_in t ++ (rounds_of_world rounds w).1
  later_occurs =
      ap (λ (steps : List LineStep). events_of_steps steps) goes_on.steps_are
      ∙ (rounds_occur header follows.nodes rounds plays
      ∙ ap (λ (steps : List LineStep). events_of_steps steps ++ (rounds_of_world rounds w).1) (sym follows.steps_are))

  pub since : entries_since (node_entries t) (node_entries later) ≡ entries_in (rounds_of_world rounds w).1
  since =
      let a : List Entry = node_entries t in
      let b : List Entry = entries_in (rounds_of_world rounds w).1 in
      let whole : node_entries later ≡ a ++ b =
      ap entries_in later_occurs ∙ flat_map-append (λ (o : Occurrence). o.entries) (occurrences_in t) (rounds_of_world rounds w).1 in
      ap (drop (length a)) whole ∙ drop-append_seam a b

  here : IsReached hosts w
  here = subst (IsReached hosts) (last header (lines_played header plays) t follows are p) (reached header (lines_played header plays) t follows are p)

  module _ (h : ℕ) (s : Site) (found : site_at (nodes_behind header (lines_played header plays)).sites h ≡ Some s) (k : ℕ)
      (up : AreUpWith (node_entries t) h k)
      (ready : AreReadyThroughout s.link
      (rounds_events h (rounds_to_rest header plays n) (nodes_behind header (lines_played header plays))))
      (notes : ArePoweredNotes (entries_since (node_entries t) (node_entries later)) h) where
    abbrev es : List LinkEvent
    es = rounds_events h rounds w

    number : (h == 0) ≡ false
    number = host_number w h s here.so.well.orderly found

    -- what is read of both ends before the rounds
    read : AreSessionsRead (node_entries t) h s.link
    read =
        let before : List Line = lines_played header plays in
        let q : site_at (world_behind (new_world hosts) (occurrences_in t)).sites h ≡ Some s =
        ap (λ (v : NodeWorld). site_at v.sites h) (last header before t follows are p) ∙ found in
        are_read h s.link (node_entries t) number ((reached header before t follows are p).so.each h s q).told

    up_there : AreBothUpNow s.link
    up_there = record {
      controller = (session_up s.link.controller k (sym read.controller ∙ up.controller)).0;
      host = (session_up s.link.host k (sym read.host ∙ up.host)).0;
    }

    goes : GoesCalmly s.link es
    goes = rounds_calmly hosts h rounds w s here found up_there (subst (λ (z : List Entry). ArePoweredNotes z h) since notes)

    both : IsLinkUndisturbed s.link es × Unbegun (entries s.link es)
    both = calm_there hosts w h s here found rounds goes up_there ready

    pub nodes_undisturbed : IsLinkUndisturbed s.link
        (rounds_events h (rounds_to_rest header plays n) (nodes_behind header (lines_played header plays)))
    nodes_undisturbed = both.0

    -- both ends are up in the same session behind the rounds
    pub nodes_up_later : AreUpWith (node_entries later) h k
    nodes_up_later =
        let g : GoesOnLink (rounds_of_world rounds w).0 h s es = rounds_go rounds w h s found in
        let behind : EndsThen hosts w h s here found rounds = ends_then hosts w h s here found rounds in
        let end : nodes_behind header all ≡ (rounds_of_world rounds w).0 = played_rounds header follows.nodes rounds plays in
        let q : site_at (world_behind (new_world hosts) (occurrences_in later)).sites h ≡ Some g.later =
        ap (λ (v : NodeWorld). site_at v.sites h) (last header all later goes_on are later_p ∙ end) ∙ g.is in
        let now : AreSessionsRead (node_entries later) h g.later.link =
        are_read h g.later.link (node_entries later) number ((reached header all later goes_on are later_p).so.each h g.later q).told in
        record {
          controller = now.controller
              ∙ (ap (λ (l : Link). number_now l.controller) g.link
              ∙ (behind.controller
              ∙ (ap (λ z. heard Controller z (entries s.link es)) (sym read.controller ∙ up.controller)
              ∙ keeps Controller k (entries s.link es) goes.calm both.1)));
          host = now.host
              ∙ (ap (λ (l : Link). number_now l.host) g.link
              ∙ (behind.host
              ∙ (ap (λ z. heard Host z (entries s.link es)) (sym read.host ∙ up.host) ∙ keeps Host k (entries s.link es) goes.calm both.1)));
        }
