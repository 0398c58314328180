-- The rounds of a world of nodes are rounds of each undisturbed link, so such a link of a settled world has brought all.
use Rattle.world_laws.proofs.Words.{AllAllowed, AllOrdinaryOnLink, AreHosts, AreLinkRounds, ArePassing, ArePlayable, AreUpWith, AtController, AtEnd, AtHost}
use Rattle.world_laws.proofs.Words.{Bool, Clf, Down, EarlierGot, End, Ending, Entry, FollowsNodes, GoesOut, Happening, Header, IfOff, IsLine, IsLinkRound}
use Rattle.world_laws.proofs.Words.{IsLinkStretch, IsLinkTold, IsLinkUndisturbed, IsReadOff, IsSo, IsStart, Known, Line, Link, LinkEnd, LinkEvent, LinkSettled}
use Rattle.world_laws.proofs.Words.{List, Message, NextFrame, NoInput, Node, NodeHistory, NodeWorld, None, Occurrence, OnWire, Option, Running, Says, Site}
use Rattle.world_laws.proofs.Words.{Some, Step, Take, Takes, Talk, Ticks, TimePassing, Turn, Uicc, Up, Work, [], after_events-append, after_link_events}
use Rattle.world_laws.proofs.Words.{after_steps, all_aged, all_go, all_happen, and_parts, ap, append_assoc, ap₂, arith, began, beside-put_all, by_list, by_test}
use Rattle.world_laws.proofs.Words.{can_happen, cases_lt, come_to_controller, come_to_host, comes_to, controller_takes, controller_tick_on, controller_work}
use Rattle.world_laws.proofs.Words.{core_events, drop, end_c, end_h, end_takes_all, ending_of, ends_allowed, ends_events, ends_go, ends_in_order, ends_take_all}
use Rattle.world_laws.proofs.Words.{entries_in, eq-eqb, events_on, exchanged, false, far_now, fine_there, first_rest, fragments_counted, fragments_left}
use Rattle.world_laws.proofs.Words.{fragments_noted, fragments_of, fragments_unacked, frames_at, frames_out, got_by_controller, got_by_host, happenings}
use Rattle.world_laws.proofs.Words.{happens, history_so, host_number, host_work, hosts_in, in_parts, inl, input_of, inr, known_after, length}
use Rattle.world_laws.proofs.Words.{link_events_in, link_rests, link_to, nat_le, near_now, new_clf, new_line, new_link_end, new_uicc, new_world, next_so}
use Rattle.world_laws.proofs.Words.{occurrences_in, on_allowed, open_up, packet_count, refl, replicate, rest_at_controller, rest_at_host, round_allowed}
use Rattle.world_laws.proofs.Words.{round_events, round_goes, rounds_allowed, rounds_events, rounds_go, rounds_of_world, site_at, site_host, site_takes}
use Rattle.world_laws.proofs.Words.{site_ticks, sites_rest, start_good, start_reached, steps, subst, suc, sym, takes_go, takes_pass, talk_now, tick_so}
use Rattle.world_laws.proofs.Words.{times_among, true, true≢false, turned, turns_at, undelivered, up_far, up_near, whole_among, world_after_round, world_behind}
use Rattle.world_laws.proofs.Words.{world_rests, world_rounds_to_settle, world_settling, world_step, world_ticked, zero, ℕ, ◌*◌, ◌++◌, ◌+◌, ◌-◌, ◌<◌, ◌==◌, ◌∙◌}
use Rattle.world_laws.proofs.Words.{◌∷◌, ◌≡◌, ◌≤◌, ◌⊎◌}
use Rattle.node_laws.proofs.order.Lines.{of_none}
use Rattle.node_laws.proofs.rounds.Allowing.{AreOthers, Split, TickedOfLinkEvents as Ticked, ends-append, ends_of, events-append, order_is, split}
use Rattle.world_laws.proofs.links.RoundCauses.{wire_after}
use Rattle.world_laws.proofs.worlds.Endings.{calm_tick, host_take_goes_out, take_goes_out}
use Rattle.trace_model.specs.declared.line.Line.TheVariants as line

-- ## Where a link is undisturbed the rounds of a world of nodes are rounds of it

-- ### Worlds that a history reaches

pub record IsReached (hosts : List ℕ) (w : NodeWorld) : Type 0 where
  pub events : List Occurrence
  pub so : IsSo hosts events w

module _ (hosts : List ℕ) where
  pub reached_takes : (w : NodeWorld) (e : End) → IsReached hosts w → IsReached hosts (world_step w (Takes e)).0
  reached_takes w e r = record { events = _; so = next_so of_none hosts r.events w (Takes e) r.so tt (λ h q. absurd (true≢false (sym q))) }

  pub reached_ticks : (w : NodeWorld) → IsReached hosts w → IsReached hosts (world_step w TimePassing).0
  reached_ticks w r = record { events = _; so = next_so of_none hosts r.events w TimePassing r.so tt (λ h q. absurd (true≢false (sym q))) }

  reached_all : (causes : List Happening) (w : NodeWorld) → ArePassing causes → IsReached hosts w → IsReached hosts (all_happen w causes).0
  reached_all [] w p r = r
  reached_all (Takes e ∷ causes) w p r = by_test (can_happen w (Takes e))
      (λ q. rw q (reached_all causes (world_step w (Takes e)).0 p (reached_takes w e r)))
      (λ q. rw q r)
  reached_all (TimePassing ∷ causes) w p r = reached_all causes (world_step w TimePassing).0 p (reached_ticks w r)
  reached_all (_ ∷ causes) w p r = absurd p

  pub reached_end : (w : NodeWorld) (e : End) → IsReached hosts w → IsReached hosts (end_takes_all w e).0
  reached_end w e r = reached_all (happenings w (line.Deliver e None)) w (takes_pass (length (frames_at w e)) e) r

  pub reached_ends : (ends : List End) (w : NodeWorld) → IsReached hosts w → IsReached hosts (ends_take_all w ends).0
  reached_ends [] w r = r
  reached_ends (e ∷ ends) w r = reached_ends ends (end_takes_all w e).0 (reached_end w e r)

  pub reached_round : (w : NodeWorld) → IsReached hosts w → IsReached hosts (world_after_round w)
  reached_round w r = reached_all (TimePassing ∷ []) (ends_take_all w (ends_in_order w)).0 tt (reached_ends (ends_in_order w) w r)

-- ### What is known of an undisturbed link

known_start : Known new_line
known_start = record { good = start_good new_line IsLine; reached = start_reached new_line IsLine }

pub known_there : (hosts : List ℕ) (w : NodeWorld) (h : ℕ) (s : Site) → IsReached hosts w → site_at w.sites h ≡ Some s → Known s.link
known_there hosts w h s r q =
    let run = (fine_there w h s r.so.well.fine q).link.run in
    subst Known run.run.is (known_after run.events new_line run.run.allowed known_start).0

near_up : (l : Link) (es : List LinkEvent) → IsLinkUndisturbed l es → l.controller.side.shdlc.phase ≡ Up
near_up l es u = (began (core_events l es) u).controller_up

far_up : (l : Link) (es : List LinkEvent) → IsLinkUndisturbed l es → l.host.side.shdlc.phase ≡ Up
far_up l es u = (began (core_events l es) u).host_up

-- an end that is up has a node that runs
pub runs_where_up : (o : Option Running) (new e : LinkEnd) → IfOff o new e → new.shdlc.phase ≡ Down → e.shdlc.phase ≡ Up → (r : Running) × (o ≡ Some r)
runs_where_up o new e off down up = grind arith

-- ### Stretches

come_near-append : (es fs : List LinkEvent) (l : Link)
    → come_to_controller l (es ++ fs) ≡ come_to_controller l es + come_to_controller (after_link_events l es) fs
come_near-append [] fs l = omega arith
come_near-append (AtController e ∷ es) fs l = let r = come_near-append es fs (happens l (AtController e)) in omega (arith, r)
come_near-append (e ∷ es) fs l = come_near-append es fs (happens l e)

come_far-append : (es fs : List LinkEvent) (l : Link) → come_to_host l (es ++ fs) ≡ come_to_host l es + come_to_host (after_link_events l es) fs
come_far-append [] fs l = omega arith
come_far-append (AtHost e ∷ es) fs l = let r = come_far-append es fs (happens l (AtHost e)) in omega (arith, r)
come_far-append (e ∷ es) fs l = come_far-append es fs (happens l e)

times-append : (es fs : List LinkEvent) → times_among (es ++ fs) ≡ times_among es + times_among fs
times-append [] fs = omega arith
times-append (Ticks c o h ∷ es) fs = let r = times-append es fs in omega (arith, r)
times-append (_ ∷ es) fs = times-append es fs

ordinary-append : (es fs : List LinkEvent) → AllOrdinaryOnLink es → AllOrdinaryOnLink fs → AllOrdinaryOnLink (es ++ fs)
ordinary-append [] fs a b = b
ordinary-append (e ∷ es) fs a b = (a.0, ordinary-append es fs a.1 b)

stretch_then : (l : Link) (es fs : List LinkEvent) (a b c a2 b2 c2 x y z : ℕ) → x ≡ a + a2 → y ≡ b + b2 → z ≡ c + c2 → IsLinkStretch l es a b c
    → IsLinkStretch (after_link_events l es) fs a2 b2 c2 → IsLinkStretch l (es ++ fs) x y z
stretch_then l es fs a b c a2 b2 c2 x y z p q r one two =
    record {
      ordinary = ordinary-append es fs one.ordinary two.ordinary;
      at_controller = omega (arith, come_near-append es fs l, one.at_controller, two.at_controller);
      at_host = omega (arith, come_far-append es fs l, one.at_host, two.at_host);
      passes = omega (arith, times-append es fs, one.passes, two.passes);
    }

stretch_none : (l : Link) → IsLinkStretch l [] 0 0 0
stretch_none l = record { ordinary = tt; at_controller = refl; at_host = refl; passes = refl }

-- no frame comes, and the wire to the controller's end stays
record IsIdle (l : Link) (es : List LinkEvent) : Type 0 where
  pub stretch : IsLinkStretch l es 0 0 0
  pub wire : (after_link_events l es).to_controller ≡ l.to_controller

idle_none : (l : Link) → IsIdle l []
idle_none l = record { stretch = stretch_none l; wire = refl }

idle_then : (l : Link) (es fs : List LinkEvent) → IsIdle l es → IsIdle (after_link_events l es) fs → IsIdle l (es ++ fs)
idle_then l es fs one two =
    record {
      stretch = stretch_then l es fs 0 0 0 0 0 0 0 0 0 refl refl refl one.stretch two.stretch;
      wire = ap (λ (k : Link). k.to_controller) (after_events-append es fs l) ∙ (two.wire ∙ one.wire);
    }

idle_step : (l : Link) (ts : List Turn) → IsIdle l (AtController (Step NoInput ts GoesOut) ∷ [])
idle_step l ts =
    record {
      stretch = record { ordinary = (tt, tt); at_controller = refl; at_host = refl; passes = refl };
      wire = (beside-put_all (frames_out (turned l.controller.side ts)) l).to_controller;
    }

-- a frame is taken at the controller's end, or at the host's
near_step : (l : Link) (x : OnWire) (xs : List OnWire) (ts : List Turn) → l.to_controller ≡ x ∷ xs
    → IsLinkStretch l (AtController (Step NextFrame ts GoesOut) ∷ []) 1 0 0
    × ((happens l (AtController (Step NextFrame ts GoesOut))).to_controller ≡ xs)
near_step l x xs ts wire = let h0 = wire_after l x xs ts in grind arith

far_step : (l : Link) (x : OnWire) (xs : List OnWire) (ts : List Turn) → l.to_host ≡ x ∷ xs
    → IsLinkStretch l (AtHost (Step NextFrame ts GoesOut) ∷ []) 0 1 0
    × ((happens l (AtHost (Step NextFrame ts GoesOut))).to_host ≡ xs)
far_step l x xs ts wire = let h0 = wire_after (exchanged l) x xs ts in grind arith

-- ### What one frame that is taken is on the link

module _ (w : NodeWorld) (h : ℕ) (s : Site) (q : site_at w.sites h ≡ Some s) where
  number : (s.host == h) ≡ true
  number = eq-eqb s.host h (site_host w.sites h s q)

  near_take : (r : Running) (x : OnWire) (xs : List OnWire) → w.controller ≡ Some r → s.link.to_controller ≡ x ∷ xs
      → (ts : List Turn) × (ending : Ending) × (link_events_in h w (Takes (end_c h)) ≡ AtController (Step NextFrame ts ending) ∷ [])
  near_take r x xs runs wire =
      let work : Work = controller_work w r h NextFrame (steps (AtEnd h (Take x.frame))) in
      let ts : List Turn = turns_at work s.host in
      let ending : Ending = ending_of work in
      let link : link_to w.sites h ≡ s.link = rw q refl in
      let input : input_of (link_to w.sites h) NextFrame ≡ Some (Take x.frame) = ap (λ l. input_of l NextFrame) link ∙ rw wire refl in
      let first : link_events_in h w (Takes (end_c h)) ≡ controller_takes s.host w h = rw q refl in
      let second : controller_takes s.host w h ≡ AtController (Step (comes_to h NextFrame s.host) ts ending) ∷ [] = rw (input, runs) refl in
      let came : comes_to h NextFrame s.host ≡ NextFrame = (let n = number in rw n refl) in
      (ts, ending, first ∙ (second ∙ ap (λ c. AtController (Step c ts ending) ∷ []) came))

  idle_take : (k : ℕ) → (s.host == k) ≡ false
      → (link_events_in h w (Takes (end_c k)) ≡ [])
      ⊎ ((ts : List Turn) × (ending : Ending) × (link_events_in h w (Takes (end_c k)) ≡ AtController (Step NoInput ts ending) ∷ []))
  idle_take k other = grind arith

  far_take : (r : Running) (x : OnWire) (xs : List OnWire) → s.node ≡ Some r → s.link.to_host ≡ x ∷ xs
      → (ts : List Turn) × (ending : Ending) × (link_events_in h w (Takes (end_h h)) ≡ AtHost (Step NextFrame ts ending) ∷ [])
  far_take r x xs runs wire =
      let work : Work = host_work s r NextFrame (steps (AtEnd s.host (Take x.frame))) in
      let ts : List Turn = turns_at work s.host in
      let ending : Ending = ending_of work in
      let input : input_of (exchanged s.link) NextFrame ≡ Some (Take x.frame) = rw wire refl in
      let n = number in
      let first : link_events_in h w (Takes (end_h h)) ≡ site_takes s = rw (q, n) refl in
      let second : site_takes s ≡ AtHost (Step NextFrame ts ending) ∷ [] = rw (input, runs) refl in
      (ts, ending, first ∙ second)

-- ### Many of them

-- what happens first, and what happens then
pub on_first : (h : ℕ) (w : NodeWorld) (e : End) (causes : List Happening) → can_happen w (Takes e) ≡ true
    → events_on h w (Takes e ∷ causes) ≡ link_events_in h w (Takes e) ++ events_on h (world_step w (Takes e)).0 causes
on_first h w e causes can = rw can refl

module _ (hosts : List ℕ) (h : ℕ) where
  -- the undisturbed events of a first cause and of those behind it
  record Behind (w : NodeWorld) (s : Site) (e : End) (m : ℕ) : Type 0 where
    later : Site
    is : site_at (world_step w (Takes e)).0.sites h ≡ Some later
    host : later.host ≡ s.host
    link : later.link ≡ after_link_events s.link (link_events_in h w (Takes e))
    reached : IsReached hosts (world_step w (Takes e)).0
    now : IsLinkUndisturbed s.link (link_events_in h w (Takes e))
    then : IsLinkUndisturbed later.link (events_on h (world_step w (Takes e)).0 (replicate m (Takes e)))

  behind : (w : NodeWorld) (s : Site) (e : End) (m : ℕ) → IsReached hosts w → site_at w.sites h ≡ Some s → can_happen w (Takes e) ≡ true
      → IsLinkUndisturbed s.link (events_on h w (replicate (suc m) (Takes e))) → Behind w s e m
  behind w s e m r q can u =
      let now : List LinkEvent = link_events_in h w (Takes e) in
      let rest : List LinkEvent = events_on h ((world_step w (Takes e)).0) (replicate m (Takes e)) in
      let all : events_on h w (replicate (suc m) (Takes e)) ≡ now ++ rest = on_first h w e (replicate m (Takes e)) can in
      let may : AllAllowed s.link (now ++ rest) =
      subst (AllAllowed s.link) all (on_allowed (replicate (suc m) (Takes e)) w h s (takes_pass (suc m) e) r.so.well.fine q) in
      let parts = in_parts now rest s.link may (known_there hosts w h s r q) (subst (IsLinkUndisturbed s.link) all u) in
      let g = takes_go w e h s q in
      record {
        later = g.later;
        is = g.is;
        host = g.host;
        link = g.link;
        reached = reached_takes hosts w e r;
        now = parts.calm_first;
        then = subst (λ l. IsLinkUndisturbed l rest) (sym g.link) parts.calm_second;
      }

  -- the controller's end of another link takes frames
  idle_many : (m k : ℕ) (w : NodeWorld) (s : Site) → IsReached hosts w → site_at w.sites h ≡ Some s → (s.host == k) ≡ false
      → IsLinkUndisturbed s.link (events_on h w (replicate m (Takes (end_c k)))) → IsIdle s.link (events_on h w (replicate m (Takes (end_c k))))
  idle_many zero k w s r q other u = idle_none s.link
  idle_many (suc m) k w s r q other u = by_test (can_happen w (Takes (end_c k)))
      (λ p. let b = behind w s (end_c k) m r q p u in
      let v : NodeWorld = (world_step w (Takes (end_c k))).0 in
      let more = (idle_many m k) v b.later b.reached b.is (ap (λ n. n == k) b.host ∙ other) b.then in
      subst (IsIdle s.link) (sym (on_first h w (end_c k) (replicate m (Takes (end_c k))) p))
      (idle_then s.link (link_events_in h w (Takes (end_c k))) (events_on h v (replicate m (Takes (end_c k))))
      (first (link_events_in h w (Takes (end_c k))) b.now (idle_take w h s q k other))
      (subst (λ l. IsIdle l (events_on h v (replicate m (Takes (end_c k))))) b.link more)))
      (λ p. let none : events_on h w (replicate (suc m) (Takes (end_c k))) ≡ [] = rw p refl in
      subst (IsIdle s.link) (sym none) (idle_none s.link))
    where
      first : (es : List LinkEvent) → IsLinkUndisturbed s.link es
          → (es ≡ []) ⊎ ((ts : List Turn) × (ending : Ending) × (es ≡ AtController (Step NoInput ts ending) ∷ [])) → IsIdle s.link es
      first es calm (inl none) = subst (IsIdle s.link) (sym none) (idle_none s.link)
      first es calm (inr some) =
          subst (IsIdle s.link) (sym (some.2 ∙ ap (λ e. AtController (Step NoInput some.0 e) ∷ []) (grind arith))) (idle_step s.link some.0)

  -- the host's end of another link does
  other_many : (m k : ℕ) (w : NodeWorld) (s : Site) → site_at w.sites h ≡ Some s → (s.host == k) ≡ false
      → events_on h w (replicate m (Takes (end_h k))) ≡ []
  other_many zero k w s q other = refl
  other_many (suc m) k w s q other =
      let g = takes_go w (end_h k) h s q in
      go (can_happen w (Takes (end_h k))) refl
      (other_many m k (world_step w (Takes (end_h k))).0 g.later g.is (ap (λ n. n == k) g.host ∙ other))
    where
      v : NodeWorld
      v = (world_step w (Takes (end_h k))).0

      go : (b : Bool) → can_happen w (Takes (end_h k)) ≡ b → events_on h v (replicate m (Takes (end_h k))) ≡ []
          → events_on h w (replicate (suc m) (Takes (end_h k))) ≡ []
      go b p rest = grind arith

  near_runs : (w : NodeWorld) (s : Site) (es : List LinkEvent) → IsReached hosts w → site_at w.sites h ≡ Some s → IsLinkUndisturbed s.link es
      → (r : Running) × (w.controller ≡ Some r)
  near_runs w s es r q u = runs_where_up w.controller (new_link_end (Clf new_clf)) s.link.controller.side (r.so.each h s q).near refl (near_up s.link es u)

  far_runs : (w : NodeWorld) (s : Site) (es : List LinkEvent) → IsReached hosts w → site_at w.sites h ≡ Some s → IsLinkUndisturbed s.link es
      → (r : Running) × (s.node ≡ Some r)
  far_runs w s es r q u = runs_where_up s.node (new_link_end (Uicc new_uicc)) s.link.host.side (r.so.each h s q).far refl (far_up s.link es u)

  -- the controller's end of the link takes frames
  near_many : (m : ℕ) (w : NodeWorld) (s : Site) → IsReached hosts w → site_at w.sites h ≡ Some s → m ≤ length s.link.to_controller
      → IsLinkUndisturbed s.link (events_on h w (replicate m (Takes (end_c h)))) → IsLinkStretch s.link (events_on h w (replicate m (Takes (end_c h)))) m 0 0
  near_many zero w s r q long u = stretch_none s.link
  near_many (suc m) w s r q long u = by_list s.link.to_controller
      (λ p. let z : length s.link.to_controller ≡ 0 = ap (length {A = OnWire}) p in absurd (omega (arith, long, z)))
      (λ x xs p. let e : End = end_c h in
      let v : NodeWorld = (world_step w (Takes e)).0 in
      let b = behind w s e m r q can u in
      let take = near_take w h s q runs.0 x xs runs.1 p in
      let ts : List Turn = take.0 in
      let out : take.1 ≡ GoesOut = take_goes_out s.link ts take.1 x xs
      (subst (λ z. IsLinkUndisturbed (record s.link { to_controller = z }) (AtController (Step NextFrame ts take.1) ∷ [])) p (grind arith)) in
      let now : link_events_in h w (Takes e) ≡ AtController (Step NextFrame ts GoesOut) ∷ [] = grind arith in
      let one = near_step s.link x xs ts p in
      let left : b.later.link.to_controller ≡ xs = grind arith in
      let more = (near_many m) v b.later b.reached b.is (omega (arith, long, ap (length {A = OnWire}) left, ap (length {A = OnWire}) p)) b.then in
      subst (λ es. IsLinkStretch s.link es (suc m) 0 0) (sym (on_first h w e (replicate m (Takes e)) can))
      (stretch_then s.link (link_events_in h w (Takes e)) (events_on h v (replicate m (Takes e))) 1 0 0 m 0 0 (suc m) 0 0 (omega arith) refl refl
      (subst (λ es. IsLinkStretch s.link es 1 0 0) (sym now) one.0)
      (subst (λ l. IsLinkStretch l (events_on h v (replicate m (Takes e))) m 0 0) b.link more)))
    where
      runs : (c : Running) × (w.controller ≡ Some c)
      runs = near_runs w s (events_on h w (replicate (suc m) (Takes (end_c h)))) r q u

      can : can_happen w (Takes (end_c h)) ≡ true
      can = let p = runs.1 in rw p refl

  -- the host's end of the link does
  far_many : (m : ℕ) (w : NodeWorld) (s : Site) → IsReached hosts w → site_at w.sites h ≡ Some s → m ≤ length s.link.to_host
      → IsLinkUndisturbed s.link (events_on h w (replicate m (Takes (end_h h)))) → IsLinkStretch s.link (events_on h w (replicate m (Takes (end_h h)))) 0 m 0
  far_many zero w s r q long u = stretch_none s.link
  far_many (suc m) w s r q long u = by_list s.link.to_host
      (λ p. let z : length s.link.to_host ≡ 0 = ap (length {A = OnWire}) p in absurd (omega (arith, long, z)))
      (λ x xs p. let e : End = end_h h in
      let v : NodeWorld = (world_step w (Takes e)).0 in
      let b = behind w s e m r q can u in
      let take = far_take w h s q runs.0 x xs runs.1 p in
      let ts : List Turn = take.0 in
      let out : take.1 ≡ GoesOut = host_take_goes_out s.link ts take.1 x xs
      (subst (λ z. IsLinkUndisturbed (record s.link { to_host = z }) (AtHost (Step NextFrame ts take.1) ∷ [])) p (grind arith)) in
      let now : link_events_in h w (Takes e) ≡ AtHost (Step NextFrame ts GoesOut) ∷ [] = grind arith in
      let one = far_step s.link x xs ts p in
      let left : b.later.link.to_host ≡ xs = ap (λ (l : Link). l.to_host) (b.link ∙ ap (after_link_events s.link) now) ∙ one.1 in
      let more = (far_many m) v b.later b.reached b.is (omega (arith, long, ap (length {A = OnWire}) left, ap (length {A = OnWire}) p)) b.then in
      subst (λ es. IsLinkStretch s.link es 0 (suc m) 0) (sym (on_first h w e (replicate m (Takes e)) can))
      (stretch_then s.link (link_events_in h w (Takes e)) (events_on h v (replicate m (Takes e))) 0 1 0 0 m 0 0 (suc m) 0 refl (omega arith) refl
      (subst (λ es. IsLinkStretch s.link es 0 1 0) (sym now) one.0)
      (subst (λ l. IsLinkStretch l (events_on h v (replicate m (Takes e))) 0 m 0) b.link more)))
    where
      runs : (c : Running) × (s.node ≡ Some c)
      runs = far_runs w s (events_on h w (replicate (suc m) (Takes (end_h h)))) r q u

      can : can_happen w (Takes (end_h h)) ≡ true
      can = let p = runs.1 in let zero = host_number w h s r.so.well.orderly q in rw (zero, q, p) refl

-- ## Rounds of a world one after another

rounds_are_of_world_rest : (r : ℕ) (w : NodeWorld) → (rounds_of_world r w).0 ≡ after_steps world_after_round r w
rounds_are_of_world_rest zero w = refl
rounds_are_of_world_rest (suc r) w = rounds_are_of_world_rest r (world_after_round w)

pub settling_is : (n : ℕ) (w : NodeWorld) → (world_settling n w).0 ≡ after_steps world_after_round (world_rounds_to_settle n w) w
settling_is n w = rounds_are_of_world_rest (world_rounds_to_settle n w) w

-- ## A link of a world that settles

-- each link of a world at rest is
site_rests : (sites : List Site) (h : ℕ) (s : Site) → sites_rest sites ≡ true → site_at sites h ≡ Some s → link_rests s.link ≡ true
site_rests [] h s r q = cc
site_rests (x ∷ sites) h s r q = by_test (x.host == h)
    (λ p. let same : x ≡ s = (let z : Some x ≡ Some s = rw p at q in cc) in
    ap (λ (y : Site). link_rests y.link) (sym same) ∙ parts.0)
    (λ p. site_rests sites h s parts.1 (rw p at q))
  where
    parts : (link_rests x.link ≡ true) × (sites_rest sites ≡ true)
    parts = and_parts (link_rests x.link) (sites_rest sites) r

settled : (l : Link) → IsStart l → (before : List LinkEvent) → AllAllowed l before → (w : NodeWorld) (h : ℕ) (s : Site) → site_at w.sites h ≡ Some s
    → after_link_events l before ≡ s.link → (n : ℕ) → AllAllowed s.link (rounds_events h (world_rounds_to_settle n w) w)
    → AreLinkRounds (world_rounds_to_settle n w) s.link (rounds_events h (world_rounds_to_settle n w) w)
    → IsLinkUndisturbed s.link (rounds_events h (world_rounds_to_settle n w) w) → 24 * (fragments_left s.link + 1) ≤ n
    → LinkSettled (world_settling n w).0 h s
settled l start before a w h s q came n allowed rounds calm fits =
    let r : ℕ = world_rounds_to_settle n w in
    let es : List LinkEvent = rounds_events h r w in
    let g = rounds_go r w h s q in
    let t : Site = g.later in
    let all : AllAllowed (after_link_events l before) es × AreLinkRounds r (after_link_events l before) es × IsLinkUndisturbed (after_link_events l before) es =
    subst (λ (k : Link). AllAllowed k es × AreLinkRounds r k es × IsLinkUndisturbed k es) (sym came) (allowed, rounds, calm) in
    let m : Link = after_link_events l before in
    let end : t.link ≡ after_link_events m es = g.link ∙ ap (λ (k : Link). after_link_events k es) (sym came) in
    let P : Link → Link → Type 0 =
    λ i j. EarlierGot (talk_now i.controller.side) (talk_now j.controller.side) (talk_now j.host.side)
    × EarlierGot (talk_now i.host.side) (talk_now j.host.side) (talk_now j.controller.side) in
    let from : P m (after_link_events m es) → LinkSettled (world_settling n w).0 h s =
    λ p. let both : P s.link t.link = subst (λ i. P i t.link) came (subst (P m) (sym end) p) in
    record { later = t; is = g.is; to_host = both.0; to_controller = both.1 } in
    let rest : r < n → link_rests (after_link_events m es) ≡ true =
    λ i. ap link_rests (sym end)
    ∙ site_rests (world_settling n w).0.sites h t
    (ap world_rests (settling_is n w) ∙ (first_rest world_rests world_after_round n w).rests_then i) g.is in
    let many : n ≤ r → 24 * (fragments_left m + 1) ≤ r = λ i. (let f = ap fragments_left came in omega (arith, fits, f)) in
    go r n (cases_lt r n) from
    (λ i. (rest_at_host l start before a r es all.0 all.1 all.2 (rest i), rest_at_controller l start before a r es all.0 all.1 all.2 (rest i)))
    (λ i. (got_by_host l start before a r es all.0 all.1 all.2 (many i), got_by_controller l start before a r es all.0 all.1 all.2 (many i)))
  where
    go : {A B : Type 0} (r n : ℕ) → (r < n) ⊎ (n ≤ r) → (A → B) → (r < n → A) → (n ≤ r → A) → B
    go r n (inl i) f g h = f (g i)
    go r n (inr i) f g h = f (h i)

-- ## The rounds of a world of nodes are rounds of each undisturbed link, so such a link of a settled world has brought all

counted_far : (w : NodeWorld) (h : ℕ) (s : Site) → site_at w.sites h ≡ Some s → length (frames_at w (end_h h)) ≡ length s.link.to_host
counted_far w h s q = rw q refl

-- ### A round

module _ (hosts : List ℕ) (h : ℕ) where
  -- what an end takes is part of what happens, and so is what the ends behind it take
  record EndThen (w : NodeWorld) (s : Site) (e : End) (ends : List End) : Type 0 where
    later : Site
    is : site_at (end_takes_all w e).0.sites h ≡ Some later
    host : later.host ≡ s.host
    link : later.link ≡ after_link_events s.link (events_on h w (happenings w (line.Deliver e None)))
    reached : IsReached hosts (end_takes_all w e).0
    now : IsLinkUndisturbed s.link (events_on h w (happenings w (line.Deliver e None)))
    then : IsLinkUndisturbed later.link (ends_events h (end_takes_all w e).0 ends)

  end_then : (w : NodeWorld) (s : Site) (e : End) (ends : List End) → IsReached hosts w → site_at w.sites h ≡ Some s
      → IsLinkUndisturbed s.link (ends_events h w (e ∷ ends)) → EndThen w s e ends
  end_then w s e ends r q u =
      let causes : List Happening = happenings w (line.Deliver e None) in
      let rest : List LinkEvent = ends_events h ((end_takes_all w e).0) ends in
      let parts = in_parts (events_on h w causes) rest s.link (ends_allowed (e ∷ ends) w h s r.so.well.fine q).0 (known_there hosts w h s r q) u in
      let g = all_go causes w h s (takes_pass (length (frames_at w e)) e) q in
      record {
        later = g.later;
        is = g.is;
        host = g.host;
        link = g.link;
        reached = reached_end hosts w e r;
        now = parts.calm_first;
        then = subst (λ l. IsLinkUndisturbed l rest) (sym g.link) parts.calm_second;
      }

  -- the ends of other links take frames
  others_take : (ks : List ℕ) (w : NodeWorld) (s : Site) → IsReached hosts w → site_at w.sites h ≡ Some s → AreOthers s.host ks
      → IsLinkUndisturbed s.link (ends_events h w (ends_of ks)) → IsIdle s.link (ends_events h w (ends_of ks))
  others_take [] w s r q a u = idle_none s.link
  others_take (k ∷ ks) w s r q a u =
      let one = end_then w s (end_c k) (end_h k ∷ ends_of ks) r q u in
      let v : NodeWorld = (end_takes_all w (end_c k)).0 in
      let two = end_then v one.later (end_h k) (ends_of ks) one.reached one.is one.then in
      let o : NodeWorld = (end_takes_all v (end_h k)).0 in
      let near : List LinkEvent = events_on h w (happenings w (line.Deliver (end_c k) None)) in
      let far : List LinkEvent = events_on h v (happenings v (line.Deliver (end_h k) None)) in
      let rest : List LinkEvent = ends_events h o (ends_of ks) in
      let none : far ≡ [] = other_many hosts h (length (frames_at v (end_h k))) k v one.later one.is (ap (λ n. n == k) one.host ∙ a.0) in
      let first : IsIdle s.link near = idle_many hosts h (length (frames_at w (end_c k))) k w s r q a.0 one.now in
      let host : two.later.host ≡ s.host = two.host ∙ one.host in
      let more : IsIdle two.later.link rest =
      others_take ks o two.later two.reached two.is (subst (λ n. AreOthers n ks) (sym host) a.1) two.then in
      idle_then s.link near (far ++ rest) first (subst (λ l. IsIdle l (far ++ rest)) one.link (grind arith))

  -- time passes
  time_passes : (w : NodeWorld) (s : Site) → IsReached hosts w → site_at w.sites h ≡ Some s → IsLinkUndisturbed s.link (events_on h w (TimePassing ∷ []))
      → IsLinkStretch s.link (events_on h w (TimePassing ∷ [])) 0 0 1
  time_passes w s r q u =
      let t : Ticked w (world_step w TimePassing).0 h s = world_ticked w h s q in
      let c : Node × Bool = controller_tick_on s.host (all_aged w).0 in
      let d : Node = site_ticks t.between in
      let near = t.near in
      let is : events_on h w (TimePassing ∷ []) ≡ tick_so s.link c.1 c.0 d ∷ [] = rw (q, near) refl in
      let k : Known s.link = known_there hosts w h s r q in
      let tick = calm_tick s.link c.1 c.0 d
      (open_up s.link.controller k.good.controller.now.closed (near_up s.link (events_on h w (TimePassing ∷ [])) u))
      (open_up s.link.host k.good.host.now.closed (far_up s.link (events_on h w (TimePassing ∷ [])) u)) (subst (IsLinkUndisturbed s.link) is u) in
      subst (λ es. IsLinkStretch s.link es 0 0 1) (sym (is ∙ ap (λ e. e ∷ []) tick.is))
      (record { ordinary = ((tick.near, tt, tick.far), tt); at_controller = refl; at_host = refl; passes = refl })

  round_is : (w : NodeWorld) (s : Site) → IsReached hosts w → site_at w.sites h ≡ Some s → IsLinkUndisturbed s.link (round_events h w)
      → IsLinkRound s.link (round_events h w)
  round_is w s r q u =
      let p : Split h (hosts_in w.sites) = split w.sites h s r.so.well.orderly.different q in
      let number : h ≡ s.host = sym (site_host w.sites h s q) in
      let a : List End = ends_of p.before in
      let b : List End = ends_of p.behind in
      let w1 : NodeWorld = (ends_take_all w a).0 in
      let w2 : NodeWorld = (end_takes_all w1 (end_c h)).0 in
      let w3 : NodeWorld = (end_takes_all w2 (end_h h)).0 in
      let f1 : List LinkEvent = ends_events h w a in
      let f2 : List LinkEvent = events_on h w1 (happenings w1 (line.Deliver (end_c h) None)) in
      let f3 : List LinkEvent = events_on h w2 (happenings w2 (line.Deliver (end_h h) None)) in
      let f4 : List LinkEvent = ends_events h w3 b in
      let taken : List LinkEvent = ends_events h w (ends_in_order w) in
      let v : NodeWorld = (ends_take_all w (ends_in_order w)).0 in
      let time : List LinkEvent = events_on h v (TimePassing ∷ []) in
      let order : ends_in_order w ≡ a ++ (end_c h ∷ end_h h ∷ b) =
      order_is w.sites ∙ (ap ends_of p.parts ∙ ends-append p.before (h ∷ p.behind)) in
      let is : taken ≡ f1 ++ (f2 ++ (f3 ++ f4)) = ap (ends_events h w) order ∙ events-append h a (end_c h ∷ end_h h ∷ b) w in
      -- what is undisturbed
      let whole = in_parts taken time s.link (round_allowed w h s r.so.well.fine q).0 (known_there hosts w h s r q) u in
      let may : AllAllowed s.link (f1 ++ (f2 ++ (f3 ++ f4))) = grind arith in
      let ends = in_parts f1 (f2 ++ (f3 ++ f4)) s.link may (known_there hosts w h s r q) (subst (IsLinkUndisturbed s.link) is whole.calm_first) in
      let g = ends_go a w h s q in
      let r1 : IsReached hosts w1 = reached_ends hosts a w r in
      let one = end_then w1 g.later (end_c h) (end_h h ∷ b) r1 g.is (grind arith) in
      let two = end_then w2 one.later (end_h h) b one.reached one.is one.then in
      -- the frames that are taken first
      let idle : IsIdle s.link f1 = others_take p.before w s r q (subst (λ n. AreOthers n p.before) number p.first) ends.calm_first in
      let m1 : ℕ = length (frames_at w1 (end_c h)) in
      let is1 : m1 ≡ length g.later.link.to_controller = rw g.is refl in
      let wire1 : length g.later.link.to_controller ≡ length s.link.to_controller =
      ap (λ (l : Link). length l.to_controller) g.link ∙ ap (length {A = OnWire}) idle.wire in
      let first : IsLinkStretch s.link (f1 ++ f2) (length s.link.to_controller) 0 0 =
      stretch_then s.link f1 f2 0 0 0 m1 0 0 (length s.link.to_controller) 0 0 (omega (arith, is1, wire1)) refl refl idle.stretch
      (subst (λ l. IsLinkStretch l f2 m1 0 0) g.link (near_many hosts h m1 w1 g.later r1 g.is (omega (arith, is1)) one.now)) in
      -- and then
      let m2 : ℕ = length (frames_at w2 (end_h h)) in
      let is2 : m2 ≡ length one.later.link.to_host = counted_far w2 h one.later one.is in
      let far : IsLinkStretch one.later.link f3 0 m2 0 = far_many hosts h m2 w2 one.later one.reached one.is (omega (arith, is2)) two.now in
      let host : h ≡ two.later.host = number ∙ sym (two.host ∙ (one.host ∙ g.host)) in
      let rest : IsIdle two.later.link f4 =
      others_take p.behind w3 two.later two.reached two.is (subst (λ n. AreOthers n p.behind) host p.last) two.then in
      let second : IsLinkStretch one.later.link (f3 ++ f4) 0 (length one.later.link.to_host) 0 =
      stretch_then one.later.link f3 f4 0 m2 0 0 0 0 0 (length one.later.link.to_host) 0 refl (omega (arith, is2)) refl far
      (subst (λ l. IsLinkStretch l f4 0 0 0) two.link rest.stretch) in
      let middle : one.later.link ≡ after_link_events s.link (f1 ++ f2) =
      one.link ∙ (ap (λ l. after_link_events l f2) g.link ∙ sym (after_events-append f1 f2 s.link)) in
      -- and time passes
      let t = ends_go (ends_in_order w) w h s q in
      let third : IsLinkStretch t.later.link time 0 0 1 =
      time_passes v t.later (reached_ends hosts (ends_in_order w) w r) t.is (subst (λ l. IsLinkUndisturbed l time) (sym t.link) whole.calm_second) in
      let last : t.later.link ≡ after_link_events (after_link_events s.link (f1 ++ f2)) (f3 ++ f4) =
      t.link ∙ (ap (after_link_events s.link) (is ∙ sym (append_assoc f1 f2 (f3 ++ f4))) ∙ after_events-append (f1 ++ f2) (f3 ++ f4) s.link) in
      record {
        first = f1 ++ f2;
        second = f3 ++ f4;
        third = time;
        parts = ap (λ es. es ++ time) (is ∙ sym (append_assoc f1 f2 (f3 ++ f4))) ∙ append_assoc (f1 ++ f2) (f3 ++ f4) time;
        to_controller = first;
        to_host = subst (λ l. IsLinkStretch l (f3 ++ f4) 0 (length l.to_host) 0) middle second;
        time = subst (λ l. IsLinkStretch l time 0 0 1) last third;
      }

-- ### Rounds

pub rounds_are : (hosts : List ℕ) (h r : ℕ) (w : NodeWorld) (s : Site) → IsReached hosts w → site_at w.sites h ≡ Some s
    → IsLinkUndisturbed s.link (rounds_events h r w) → AreLinkRounds r s.link (rounds_events h r w)
rounds_are hosts h zero w s a q u = refl
rounds_are hosts h (suc r) w s a q u =
    let v : NodeWorld = world_after_round w in
    let now : List LinkEvent = round_events h w in
    let rest : List LinkEvent = rounds_events h r v in
    let parts = in_parts now rest s.link (rounds_allowed (suc r) w h s a.so.well.fine q) (known_there hosts w h s a q) u in
    let g = round_goes w h s q in
    let more = rounds_are hosts h r v g.later (reached_round hosts w a) g.is (subst (λ l. IsLinkUndisturbed l rest) (sym g.link) parts.calm_second) in
    (now, rest, refl, round_is hosts h w s a q parts.calm_first, subst (λ l. AreLinkRounds r l rest) g.link more)

-- ### A world that settles

-- the world behind any first events of a history is reached
abbrev pub reached_behind : (header : Header) (lines : List Line) (t : NodeHistory) → FollowsNodes header lines t → AreHosts header.hosts.items
    → ArePlayable lines → (front back : List Occurrence) → occurrences_in t ≡ front ++ back
    → IsReached header.hosts.items (world_behind (new_world header.hosts.items) front)
reached_behind header lines t follows are p front back q = record { events = front; so = history_so header lines t follows are p front back q }

pub world_settled : (header : Header) (lines : List Line) (t : NodeHistory) → FollowsNodes header lines t → AreHosts header.hosts.items
    → ArePlayable lines → (front back : List Occurrence) → occurrences_in t ≡ front ++ back → (h : ℕ) (s : Site)
    → site_at (world_behind (new_world header.hosts.items) front).sites h ≡ Some s → (n : ℕ)
    → IsLinkUndisturbed s.link (rounds_events h (world_rounds_to_settle n (world_behind (new_world header.hosts.items) front))
    (world_behind (new_world header.hosts.items) front))
    → 24 * (fragments_left s.link + 1) ≤ n → LinkSettled (world_settling n (world_behind (new_world header.hosts.items) front)).0 h s
world_settled header lines t follows are p front back q h s found n u fits =
    let hosts : List ℕ = header.hosts.items in
    let w : NodeWorld = world_behind (new_world header.hosts.items) front in
    let r : IsReached hosts w = reached_behind header lines t follows are p front back q in
    let run = (fine_there w h s r.so.well.fine found).link.run in
    let count : ℕ = world_rounds_to_settle n w in
    settled new_line IsLine run.events run.run.allowed w h s found run.run.is n (rounds_allowed count w h s r.so.well.fine found)
    (rounds_are hosts h count w s r found u) u fits

-- ## The fragments that are left on a link are at most those that are noted

-- of the fragments of messages behind so many, those of the messages that are among these whole are left out
left_behind : (sent : List Message) (n : ℕ) → length (fragments_of sent) ≤ n + length (fragments_of (drop (whole_among sent n) sent))
left_behind [] n = omega arith
left_behind (m ∷ ms) n =
    let h0 = nat_le (packet_count (length m.1)) n in let h1 = packet_count (length m.1) in let h2 = fragments_counted m ms in
    let h3 = left_behind ms (n - packet_count (length m.1)) in grind arith

pub end_left : (t : List Entry) (e : End) (n : ℕ) (talk : Talk) → Says talk → IsReadOff t e n talk → undelivered talk.session ≤ fragments_unacked t e n
end_left t e n talk says read =
    let out : length talk.session.out ≡ length (fragments_of talk.sent) = ap (λ (fs : List (List ℕ)). length fs) says.out in
    let is : fragments_unacked t e n ≡ length (fragments_of (drop (whole_among talk.sent talk.session.acked) talk.sent)) =
    ap₂ (λ k (ms : List Message). length (fragments_of (drop k ms))) read.acked read.sent in
    omega (arith, out, left_behind talk.sent talk.session.acked, is)

-- of a link whose ends are both up in the session with this number, as it is noted
pub link_left : (hosts : List ℕ) (w : NodeWorld) (h : ℕ) (s : Site) (r : IsReached hosts w) → site_at w.sites h ≡ Some s → (n : ℕ)
    → AreUpWith (entries_in r.events) h n → fragments_left s.link ≤ fragments_noted (entries_in r.events) h n
link_left hosts w h s r q n up =
    let t : List Entry = entries_in r.events in
    let told : IsLinkTold h s.link t = (r.so.each h s q).told in
    let zero = host_number w h s r.so.well.orderly q in
    let near = up_near h s.link t told zero n up in
    let far = up_far h s.link t told zero n up in
    let known : Known s.link = known_there hosts w h s r q in
    let P : ℕ → Type 0 = λ k. IsReadOff t (end_c h) k (talk_now s.link.controller.side) in
    let Q : ℕ → Type 0 = λ k. IsReadOff t (end_h h) k (talk_now s.link.host.side) in
    let one = end_left t (end_c h) n (talk_now s.link.controller.side) known.good.controller.now.says
    (subst P near.1 (near_now h s.link t told near.0)) in
    let two = end_left t (end_h h) n (talk_now s.link.host.side) known.good.host.now.says (subst Q near.1 (far_now h s.link t told near.0 far)) in
    omega (arith, one, two)
