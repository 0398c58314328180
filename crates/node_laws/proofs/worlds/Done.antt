-- Each message that has its turn is one of a pass that replies as is read, and behind each event all have had them or one is held.
use Rattle.node_laws.proofs.Words.{Activates, AllByRecursion, AreDifferent, AreDone, AreHosts, AreNoTurns, AreNotOf, ArePassed, ArePlayable, AreRepliedIn, Arms}
use Rattle.node_laws.proofs.Words.{AsksReset, AtEachEntry, AtEachOccurrence, AtEnd, Boots, Comes, ComesTo, Controller, End, Entry, FollowsNodes, Gives, GoesOut}
use Rattle.node_laws.proofs.Words.{Happening, HasEnds, Header, Host, IfItRuns, Inits, IsCut, IsFew, IsHeldFor, IsNoAnswer, IsNoTurn, IsOrderly, IsReplied}
use Rattle.node_laws.proofs.Words.{IsSentByHost, Line, Link, LinkInput, List, Loses, MayBoot, Moment, NextFrame, NodeHistory, NodeInput, NodeWorld, None}
use Rattle.node_laws.proofs.Words.{NumberedEnd, Occurrence, Resets, Running, Site, Some, Starts, Takes, Ticks, TimePasses, Work, [], after_planned, aged}
use Rattle.node_laws.proofs.Words.{aged_entries, all_aged, all_append, all_flat, ap, append-nil, append_assoc, arith, arrival, as_it_ticks, beginning, boots}
use Rattle.node_laws.proofs.Words.{by_coming, by_controller, by_controller_tick, by_host, by_host_tick, by_test, comes_at, comes_to, comes_to_pass}
use Rattle.node_laws.proofs.Words.{commands_by_events, controller_begins, controller_does, controller_ticks, controller_work, end_c, end_h, ending_of, ends_in}
use Rattle.node_laws.proofs.Words.{entries_for, entries_in, eqb, eqb-true, exchanged, false, flat_map, flat_map-append, frame_lost, frames_noted, host_tick}
use Rattle.node_laws.proofs.Words.{host_ticks, hosts_in, hosts_of_ends, hosts_tick, input_of, is_answer_of, is_cut_of, is_done, is_of_node, length, link_to}
use Rattle.node_laws.proofs.Words.{memory_at, near_tick, new_world, node_entries, node_of, noted_before_pass, occurrences_in, passes, refl, runs_on, sending}
use Rattle.node_laws.proofs.Words.{site_at, site_ticked, site_unticked, steps, subst, sym, through, ticks_at_controller, ticks_host, true, true≢false}
use Rattle.node_laws.proofs.Words.{turn_link, turns_at, until, wires_for, world_behind, world_step, world_ticks, ℕ, ◌++◌, ◌==◌, ◌∙◌, ◌∷◌, ◌≡◌, ◌≤◌}
use Rattle.node_laws.specs.passes.Passing.ComesTo.{Begins}
use Rattle.node_laws.proofs.kept.Events.{hosts_same as sites_same}
use Rattle.node_laws.proofs.order.Upheld.{AreDone as AskedDone, done_back, history_done}
use Rattle.node_laws.proofs.order.Lines.{IsSo, history_so}
use Rattle.node_laws.proofs.passes.InSteps.{before_entries, before_none, beginning_turnless, links_none, sending_turnless, steps_are}
use Rattle.node_laws.proofs.passes.Passing.{comes_lasts, through as through_pass}
use Rattle.node_laws.proofs.power.Events.{AreNodes, comes_part, far_tick, near_ticks_part, others_tick, sending_mine, ticked_nodes, ticked_others}
use Rattle.node_laws.proofs.power.Steps.{IsPart, own_not, part_own}
use Rattle.node_laws.proofs.reply_passes.Ordered.{WaitsRead, near_goes, new_reads, reads_last}
use Rattle.node_laws.proofs.reply_passes.Held.{aged_leave}
use Rattle.node_laws.proofs.reply_passes.Roomy.{comes_are_replied, ticks_are_replied}
use Rattle.node_laws.proofs.telling.Events.{comes_goes, node_is, sending_mute, site_host}
use Rattle.node_laws.proofs.telling.Lasting.{AnyLine, all_lines, boots_may, history_holds}
use Rattle.node_laws.proofs.telling.Shapes.{frames_uncut}
use Rattle.node_laws.proofs.telling.Accounts.{AreUncut, IsUncut}
use Rattle.node_laws.proofs.telling.WorldTicks.{aged_orderly, ticked_orderly}
use Rattle.node_laws.proofs.turns.Passing.{Goes, goes-append, still_goes}
use Rattle.node_laws.proofs.turns.Nodes.{aged_none, sites_is}
use Rattle.node_laws.proofs.worlds.FramesLast.{aged_turnless, begun_turnless, frames_turnless, other_turns, turnless_there}
use Rattle.node_laws.proofs.worlds.Resting.{AreIdle, SiteRests, SiteWaits, far_site, flat_idle, frames_idle, idle_done, idle_still, near_rests, others_idle}
use Rattle.node_laws.proofs.worlds.Resting.{site_on}
use Rattle.node_laws.proofs.worlds.Events.{AllAtRest, AllWaiting, after_near, all_rests, boot_rests, cut_rests, each_done, far_begins, far_coming, far_idle}
use Rattle.node_laws.proofs.worlds.Events.{idle_all, lost_rests, near_comes, quiet_links, rest_on, same_sym, waiting_from, written}
use Rattle.node_laws.proofs.worlds.Late.{other_answers, out_unanswered, ticked_host, unanswered_all}
use Rattle.node_laws.proofs.worlds.Ticking.{far_number}
use Rattle.trace_model.specs.declared.entry.Entry.TheVariants as entry

-- ## What is so of messages at the controller, and of those at hosts, is so of each

abbrev pub IsAnswered : List ℕ → Moment → Entry → List Entry → Type 0
IsAnswered hosts m x behind = IsReplied hosts m x behind × IsHeldFor hosts m x behind

-- where a message has its turn at an end of the controller, or is held there
abbrev pub IsAnsweredNear : List ℕ → Moment → Entry → List Entry → Type 0
IsAnsweredNear hosts m x behind = (k : ℕ) → turn_link 0 x ≡ Some k → IsAnswered hosts m x behind

-- where it has its turn at a host, or is held there
abbrev pub IsAnsweredFar : List ℕ → Moment → Entry → List Entry → Type 0
IsAnsweredFar hosts m x behind = (n k : ℕ) → (n == 0) ≡ false → turn_link n x ≡ Some k → IsAnswered hosts m x behind

module _ (hosts : List ℕ) (m : Moment) (x : Entry) (behind : List Entry) (near : IsAnsweredNear hosts m x behind) (far : IsAnsweredFar hosts m x behind) where
  at_end : (e : End) → turn_link (node_of e) x ≡ Some e.link → IsAnswered hosts m x behind
  at_end e turn = by_test (eqb (node_of e) 0)
      (λ q. near e.link (subst (λ n. turn_link n x ≡ Some e.link) (eqb-true (node_of e) 0 q) turn))
      (λ q. far (node_of e) e.link q turn)

pub everywhere : (hosts : List ℕ) (m : Moment) (x : Entry) (behind : List Entry) → IsAnsweredNear hosts m x behind → IsAnsweredFar hosts m x behind
    → IsAnswered hosts m x behind
everywhere hosts m (entry.Turn e pid message) behind near far = at_end hosts m (entry.Turn e pid message) behind near far e (grind arith)
everywhere hosts m (entry.Held e need spare) behind near far = at_end hosts m (entry.Held e need spare) behind near far e (grind arith)
everywhere hosts m _ behind near far = (tt, tt)

-- ## In each event each message that has its turn at the controller, or is noted as held there, is one of a pass that replies as is read

-- ### Where an entry stands

abbrev pub NoneThere : List Entry → Type 0
NoneThere es = AllByRecursion (λ x. turn_link 0 x ≡ None) es

-- an entry behind entries that aren't it stands in what follows them
record StandsBehind (a l front : List Entry) (x : Entry) (behind : List Entry) : Type 0 where
  later : List Entry
  before : front ≡ a ++ later
  rest : l ≡ later ++ (x ∷ behind)

skips : (k : ℕ) (a l front : List Entry) (x : Entry) (behind : List Entry) → NoneThere a → turn_link 0 x ≡ Some k → a ++ l ≡ front ++ (x ∷ behind)
    → StandsBehind a l front x behind
skips k [] l front x behind none turn is = record { later = front; before = refl; rest = is }
skips k (y ∷ a) l [] x behind none turn is =
    let same : y ≡ x = cc in
    let no : None ≡ Some k = sym none.0 ∙ (ap (turn_link 0) same ∙ turn) in absurd (cc no)
skips k (y ∷ a) l (z ∷ front) x behind none turn is =
    let s : StandsBehind a l front x behind = skips k a l front x behind none.1 turn cc in
    record { later = s.later; before = ap (λ u. u ∷ front) (sym cc) ∙ ap (λ u. y ∷ u) s.before; rest = s.rest }

-- an entry before entries that aren't it stands in what precedes them
record StandsBefore (more rest front : List Entry) (x : Entry) (behind : List Entry) : Type 0 where
  back : List Entry
  is : more ≡ front ++ (x ∷ back)
  behind_is : behind ≡ back ++ rest

suffix : (front : List Entry) (x : Entry) (behind : List Entry) → NoneThere (front ++ (x ∷ behind)) → turn_link 0 x ≡ None
suffix [] x behind none = none.0
suffix (y ∷ front) x behind none = suffix front x behind none.1

within : (k : ℕ) (more rest front : List Entry) (x : Entry) (behind : List Entry) → NoneThere rest → turn_link 0 x ≡ Some k
    → more ++ rest ≡ front ++ (x ∷ behind) → StandsBefore more rest front x behind
within k [] rest front x behind none turn is =
    let no : None ≡ Some k = sym (suffix front x behind (subst NoneThere is none)) ∙ turn in absurd (cc no)
within k (y ∷ more) rest [] x behind none turn is = record { back = more; is = ap (λ u. u ∷ more) cc; behind_is = sym cc }
within k (y ∷ more) rest (z ∷ front) x behind none turn is =
    let same : y ≡ z = cc in
    let tail : more ++ rest ≡ front ++ (x ∷ behind) = cc in
    let s : StandsBefore more rest front x behind = within k more rest front x behind none turn tail in
    record { back = s.back; is = ap (λ u. u ∷ more) same ∙ ap (λ u. z ∷ u) s.is; behind_is = s.behind_is }

-- ### What is said of an entry

-- each message that has its turn at the controller, or is noted as held there, is answered as is read, among these entries of an event
-- behind those
abbrev PassesSo : List ℕ → List Entry → List Entry → Type 0
PassesSo hosts t es =
    (front behind : List Entry) (x : Entry) (m : Moment) (k : ℕ) → es ≡ front ++ (x ∷ behind) → until m ≡ t ++ front → turn_link 0 x ≡ Some k
    → IsReplied hosts m x behind × IsHeldFor hosts m x behind

none_so : (hosts : List ℕ) (t es : List Entry) → NoneThere es → PassesSo hosts t es
none_so hosts t es none front behind x m k is at turn =
    let no : None ≡ Some k = sym (suffix front x behind (subst NoneThere is none)) ∙ turn in absurd (cc no)

pub no_answer : (es : List Entry) → AreNotOf 0 es → AllByRecursion IsNoAnswer es
no_answer [] a = tt
no_answer (x ∷ es) a = ((other_answers 0 x a.0, no_cut x a.0), no_answer es a.1) where
  no_cut : (x : Entry) → is_of_node 0 x ≡ false → is_cut_of 0 x ≡ false
  no_cut (entry.Cut n) q = q
  no_cut x q = refl

pass_so : (hosts : List ℕ) (t lead rest : List Entry) (w : Work) → w.cut ≡ false → NoneThere lead → NoneThere w.entries → NoneThere rest
    → AllByRecursion IsNoAnswer rest → AreRepliedIn hosts (t ++ lead) w → PassesSo hosts t (lead ++ ((passes w).entries ++ rest))
pass_so hosts t lead rest w on none own after quiet replied front behind x m k is at turn =
    let p : ArePassed (ComesTo w) (hosts_of_ends w.ports) w (passes w) = through_pass (ComesTo w) (comes_lasts w) (hosts_of_ends w.ports) w Begins on in
    let shape : lead ++ ((passes w).entries ++ rest) ≡ (lead ++ w.entries) ++ (p.more ++ rest) =
    ap (λ l. lead ++ (l ++ rest)) p.entries ∙ (ap (λ l. lead ++ l) (append_assoc w.entries p.more rest) ∙ sym (append_assoc lead w.entries (p.more ++ rest))) in
    let s : StandsBehind (lead ++ w.entries) (p.more ++ rest) front x behind =
    skips k (lead ++ w.entries) (p.more ++ rest) front x behind (all_append _ lead w.entries none own) turn (sym shape ∙ is) in
    let b : StandsBefore p.more rest s.later x behind = within k p.more rest s.later x behind after turn s.rest in
    let moment : until m ≡ ((t ++ lead) ++ w.entries) ++ s.later =
    at ∙ (ap (λ l. t ++ l) s.before ∙ (ap (λ l. t ++ l) (append_assoc lead w.entries s.later) ∙ (sym (append_assoc t lead (w.entries ++ s.later))
    ∙ sym (append_assoc (t ++ lead) w.entries s.later)))) in
    subst (λ l. IsReplied hosts m x l × IsHeldFor hosts m x l) (sym b.behind_is) (replied s.later b.back rest x m (grind arith) moment quiet)

-- a step of the controller
step_so : (hosts : List ℕ) (t lead rest : List Entry) (input : NodeInput) (w : Work) → NoneThere lead → AreNoTurns w.entries → NoneThere rest
    → AllByRecursion IsNoAnswer rest → ((comes_to_pass input w).cut ≡ false → AreRepliedIn hosts (t ++ lead) (comes_to_pass input w))
    → PassesSo hosts t (lead ++ ((steps input w).entries ++ rest))
step_so hosts t lead rest input w none own after quiet replied = by_test v.cut
    (λ q. let is : steps input w ≡ v = steps_are input w ∙ rw q refl in
    subst (λ (u : Work). PassesSo hosts t (lead ++ (u.entries ++ rest))) (sym is)
    (none_so hosts t (lead ++ (v.entries ++ rest)) (all_append _ lead (v.entries ++ rest) none (all_append _ v.entries rest early after))))
    (λ q. let is : steps input w ≡ passes v = steps_are input w ∙ rw q refl in
    subst (λ (u : Work). PassesSo hosts t (lead ++ (u.entries ++ rest))) (sym is) (pass_so hosts t lead rest v q none early after quiet (replied q))) where
      v : Work
      v = comes_to_pass input w

      early : NoneThere v.entries
      early =
          turnless_there 0 v.entries
          (subst AreNoTurns (sym (before_entries input w)) (all_append IsNoTurn w.entries (noted_before_pass input w) own (before_none input w)))

-- ### Frames

uncut_one : (x : Entry) → IsUncut x → is_cut_of 0 x ≡ false
uncut_one (entry.Cut n) u = absurd u
uncut_one x u = refl

quiet_if : (es : List Entry) → AllByRecursion (λ x. is_answer_of 0 x ≡ false) es → AreUncut es → AllByRecursion IsNoAnswer es
quiet_if [] a u = tt
quiet_if (x ∷ es) a u = ((a.0, uncut_one x u.0), quiet_if es a.1 u.1)

pub frames_quiet : (f : Site → Link) (v : Work) (sites : List Site)
    → AllByRecursion IsNoAnswer (flat_map (λ (s : Site). frames_noted Controller s.host (f s) v) sites)
frames_quiet f v [] = tt
frames_quiet f v (s ∷ sites) =
    all_append IsNoAnswer (frames_noted Controller s.host (f s) v) (flat_map (λ (s : Site). frames_noted Controller s.host (f s) v) sites)
    (quiet_if (frames_noted Controller s.host (f s) v) (unanswered_all 0 (frames_noted Controller s.host (f s) v) (out_unanswered Controller s.host (f s) v))
    (frames_uncut Controller s.host (f s) v))
    (frames_quiet f v sites)

pub frames_none : (f : Site → Link) (v : Work) (sites : List Site) → NoneThere (flat_map (λ (s : Site). frames_noted Controller s.host (f s) v) sites)
frames_none f v sites =
    turnless_there 0 (flat_map (λ (s : Site). frames_noted Controller s.host (f s) v) sites)
    (all_flat IsNoTurn (λ (s : Site). frames_noted Controller s.host (f s) v) (λ s. frames_turnless Controller s.host (f s) v) sites)

-- ### Events

pub far_not : (w : NodeWorld) (e : End) (comes : Comes) → IsOrderly w → e.at_host ≡ true → AreNotOf 0 (comes_at w e comes).1
far_not w e comes a far = by_test (e.link == 0)
    (λ q. by_coming (λ p. AreNotOf 0 p.1) w e comes tt
    (λ i z seen. by_host (λ p. AreNotOf 0 p.1) w e.link comes (steps (AtEnd e.link i)) tt
    (λ s r found y. absurd (true≢false (sym (ap (λ k. k == 0) (site_host w.sites e.link s found) ∙ q) ∙ far_number w e.link s a found))))
    (λ i z seen. absurd (true≢false (sym far ∙ z))))
    (λ q. own_not e.link 0 (comes_at w e comes).1 q (part_own e.link (comes_at w e comes).1 (subst (λ k. IsPart k (comes_at w e comes).1) number
    (comes_part w e comes a)))) where
      number : node_of e ≡ e.link
      number = rw far refl

module _ (hosts : List ℕ) (t : List Entry) (w : NodeWorld) (a : IsOrderly w)
    (comes_so : (r : Running) → w.controller ≡ Some r → (h : ℕ) (comes : Comes) (i : LinkInput) → input_of (link_to w.sites h) comes ≡ Some i
    → (comes_to_pass (AtEnd h i) (controller_begins w r h comes)).cut ≡ false
    → AreRepliedIn hosts t (comes_to_pass (AtEnd h i) (controller_begins w r h comes)))
    (ticks_so : (r : Running) → w.controller ≡ Some r → (comes_to_pass TimePasses (as_it_ticks w r)).cut ≡ false
    → AreRepliedIn hosts (t ++ (all_aged w).1) (comes_to_pass TimePasses (as_it_ticks w r))) where
  -- something comes to the controller, and behind it other nodes go on
  near_so : (h : ℕ) (comes : Comes) (i : LinkInput) → input_of (link_to w.sites h) comes ≡ Some i → (rest : List Entry) → AreNotOf 0 rest
      → PassesSo hosts t ((controller_does w h comes (steps (AtEnd h i))).1 ++ rest)
  near_so h comes i input rest other =
      by_controller (λ p. PassesSo hosts t (p.1 ++ rest)) w h comes (steps (AtEnd h i)) (none_so hosts t rest (other_turns 0 rest other))
      (λ r q.
      let v : Work = controller_work w r h comes (steps (AtEnd h i)) in
      let wires : Site → Link = λ s. wires_for s.link (comes_to h comes s.host) in
      let frames : List Entry = flat_map (λ (s : Site). frames_noted Controller s.host (wires s) v) w.sites in
      subst (PassesSo hosts t) (sym (append_assoc v.entries frames rest))
      (step_so hosts t [] (frames ++ rest) (AtEnd h i) (controller_begins w r h comes) tt (links_none h (arrival Controller (link_to w.sites h) comes))
      (all_append _ frames rest (frames_none wires v w.sites) (other_turns 0 rest other))
      (all_append IsNoAnswer frames rest (frames_quiet wires v w.sites) (no_answer rest other))
      (λ on. subst (λ l. AreRepliedIn hosts l (comes_to_pass (AtEnd h i) (controller_begins w r h comes))) (sym (append-nil t))
      (comes_so r q h comes i input on))))

  coming_so : (e : End) (comes : Comes) (rest : List Entry) → AreNotOf 0 rest → PassesSo hosts t ((comes_at w e comes).1 ++ rest)
  coming_so e comes rest other = by_test e.at_host
      (λ q. none_so hosts t ((comes_at w e comes).1 ++ rest)
      (all_append _ (comes_at w e comes).1 rest (other_turns 0 (comes_at w e comes).1 (far_not w e comes a q)) (other_turns 0 rest other)))
      (λ q. by_coming (λ p. PassesSo hosts t (p.1 ++ rest)) w e comes (none_so hosts t rest (other_turns 0 rest other))
      (λ i z seen. absurd (true≢false (sym z ∙ q)))
      (λ i z seen. near_so e.link comes i seen rest other))

  ticking_so : PassesSo hosts t (world_ticks w).1
  ticking_so =
      by_controller_tick (λ p. PassesSo hosts t ((all_aged w).1 ++ (p.1 ++ far))) old
      (λ q. none_so hosts t ((all_aged w).1 ++ far) (all_append _ (all_aged w).1 far aged_none (other_turns 0 far others)))
      (λ r q.
      let v : Work = near_tick old r in
      let frames : List Entry = flat_map (λ (s : Site). frames_noted Controller s.host s.link v) old.sites in
      subst (λ l. PassesSo hosts t ((all_aged w).1 ++ l)) (sym (append_assoc v.entries frames far))
      (step_so hosts t (all_aged w).1 (frames ++ far) TimePasses (as_it_ticks w r) aged_none tt
      (all_append _ frames far (frames_none (λ s. s.link) v old.sites) (other_turns 0 far others))
      (all_append IsNoAnswer frames far (frames_quiet (λ s. s.link) v old.sites) (no_answer far others))
      (ticks_so r q)))
    where
      old : NodeWorld
      old = (all_aged w).0

      near : NodeWorld × List Entry
      near = controller_ticks old

      far : List Entry
      far = (hosts_tick near.0.sites).1

      others : AreNotOf 0 far
      others = ticked_others w a

      aged_none : NoneThere (all_aged w).1
      aged_none = turnless_there 0 (all_aged w).1 (aged_turnless w.sites)

  turnless_so : (es : List Entry) → AreNoTurns es → PassesSo hosts t es
  turnless_so es none = none_so hosts t es (turnless_there 0 es none)

  event_so : (c : Happening) → PassesSo hosts t (world_step w c).1
  event_so (Boots k) = turnless_so (boots w k).1 (grind arith)
  event_so (IsCut k) = turnless_so (world_step w (IsCut k)).1 (refl, tt)
  event_so (Gives e m) = turnless_so (world_step w (Gives e m)).1 (begun_turnless w e.link (sending e.link m) (sending_turnless e.link m))
  event_so (Inits e identity pipes) =
      turnless_so (world_step w (Inits e identity pipes)).1 (begun_turnless w e.link (beginning identity pipes) (beginning_turnless identity pipes))
  event_so (Takes e) = (subst (PassesSo hosts t) (append-nil (comes_at w e NextFrame).1) (coming_so e NextFrame [] tt))
  event_so (Loses e why) = turnless_so (frame_lost w e why).1 (grind arith)
  event_so Ticks = ticking_so
  event_so (Resets e window) = (subst (PassesSo hosts t) (append-nil (comes_at w e (AsksReset window)).1) (coming_so e (AsksReset window) [] tt))
  event_so (Activates h sync power) =
      let near : NodeWorld × List Entry = comes_at w (end_c h) (Starts power) in
      coming_so (end_c h) (Starts power) (comes_at near.0 (end_h h) (Starts sync)).1
      (far_not near.0 (end_h h) (Starts sync) (comes_goes w (end_c h) (Starts power) a).orderly refl)
  event_so (Arms k plan) = turnless_so [] tt

-- ### Histories

pub controller_answers : (header : Header) (lines : List Line) (t : NodeHistory) → FollowsNodes header lines t → AreHosts header.hosts.items
    → length header.hosts.items ≤ 7 → AllByRecursion IsSentByHost lines → IsFew (node_entries t) → ArePlayable lines
    → ((front back : List Occurrence) → occurrences_in t ≡ front ++ back → commands_by_events front ≤ 4000000000)
    → AtEachEntry t (IsAnsweredNear t.header.hosts.items)
controller_answers header lines t follows are seven sent few playable asked past back o front behind x parts split k turn =
    subst (λ (h : Header). IsReplied h.hosts.items (record { past = past; cause = o.cause; so_far = front }) x behind
    × IsHeldFor h.hosts.items (record { past = past; cause = o.cause; so_far = front }) x behind) (sym follows.header_is)
    (event_so header.hosts.items (entries_in past) w so.well.orderly
    (λ r q h comes i input on. comes_are_replied header lines t follows are seven sent few past (o ∷ back) parts (asked past (o ∷ back) parts) playable w refl
    r q h comes i input on)
    (λ r q on. ticks_are_replied header lines t follows are seven sent few past (o ∷ back) parts (asked past (o ∷ back) parts) playable w refl r q on)
    o.cause front behind x (record { past = past; cause = o.cause; so_far = front }) k (sym done.0.0 ∙ split) refl turn)
  where
    first : NodeWorld
    first = new_world header.hosts.items

    w : NodeWorld
    w = world_behind first past

    done : AskedDone w (o ∷ back)
    done = done_back past (o ∷ back) first (subst (AskedDone first) parts (history_done header lines t follows playable))

    so : IsSo header.hosts.items past w
    so = history_so header lines t follows are playable past (o ∷ back) parts

-- ## Behind each event of a history all messages at the ends of nodes that run have had their turns, or all before one that is held

-- ### Time

pub aged_idle : (e : End) (w : NodeWorld) → AreIdle e (all_aged w).1
aged_idle e w =
    flat_idle e (λ (s : Site). entries_for s.host (aged_entries Controller s.link.to_controller ++ aged_entries Host s.link.to_host))
    (λ s. quiet_links e s.host (aged_entries Controller s.link.to_controller ++ aged_entries Host s.link.to_host)
    (aged_none Controller Host s.link.to_controller s.link.to_host)) w.sites

module _ (t : List Entry) (w : NodeWorld) (reads : WaitsRead t w) (before : AllWaiting t w.sites) where
  abbrev a : IsOrderly w
  a = reads.all.orderly

  abbrev old : NodeWorld
  old = (all_aged w).0

  abbrev since : List Entry
  since = t ++ (all_aged w).1

  old_waiting : AllWaiting since old.sites
  old_waiting =
      idle_all t (all_aged w).1 (λ (x : Site). record x { link = aged x.link }) (λ s. refl) (λ s. refl) (λ s. refl) (λ e. aged_idle e w) w.sites before

  old_goes : (r : Running) → w.controller ≡ Some r → (k : ℕ) (s : Site) → site_at old.sites k ≡ Some s → Goes (end_c k) [] since s.link.controller.side.got
  old_goes r runs k s here =
      sites_is (λ (x : Site). record x { link = aged x.link }) (λ x. refl) w.sites k (λ o. o ≡ Some s → Goes (end_c k) [] since s.link.controller.side.got)
      (λ z q. let no : None ≡ Some s = q in absurd (cc no))
      (λ x z q.
      let same : Some (record x { link = aged x.link }) ≡ Some s = q in
      let one : record x { link = aged x.link } ≡ s = cc in
      subst (λ (y : Site). Goes (end_c k) [] since y.link.controller.side.got) one
      (goes-append (end_c k) t (all_aged w).1 [] x.link.controller.side.got x.link.controller.side.got (near_goes t w reads.all r runs k x z)
      (still_goes (end_c k) (all_aged w).1 x.link.controller.side.got (idle_still (end_c k) (all_aged w).1 (aged_idle (end_c k) w))))) here

  near_waiting : AllWaiting (since ++ (controller_ticks old).1) (controller_ticks old).0.sites
  near_waiting =
      by_controller_tick (λ p. IsPart 0 p.1 → AllWaiting (since ++ p.1) p.0.sites) old
      (λ q part. idle_all since [] site_unticked (λ s. refl) (λ s. refl)
      (λ s. ap (λ (x : NumberedEnd). x.side.got) (ticks_host s.link [] GoesOut)) (λ e. tt) old.sites old_waiting)
      (λ r q part.
      let kept : hosts_in old.sites ≡ hosts_in w.sites = sites_same (λ (x : Site). record x { link = aged x.link }) (λ s. refl) w.sites in
      let has : HasEnds 0 (hosts_in old.sites) r = node_is 0 (hosts_in old.sites) old.controller r (aged_orderly w a).controller q in
      let v : Work = near_tick old r in
      let f : Site → List Entry = λ s. frames_noted Controller s.host s.link v in
      after_near since old.sites (site_ticked v) (λ s. refl) (λ s. refl)
      (λ s. ap (λ (x : NumberedEnd). x.side.got) (ticked_host v s)) v.entries (flat_map f old.sites) part
      (λ e. flat_idle e f (λ s. frames_idle e Controller s.host s.link v) old.sites) (aged_orderly w a).hosts
      (each_done since v.entries old.sites (aged_orderly w a).different
      (near_rests since old.sites w.memory.plan r has (aged_orderly w a).different (λ h. (link_to old.sites h).controller) [] (λ k. refl) (old_goes r q)
      (λ k. aged_leave w t k ∙ reads.holds r q k) tt tt tt tt (λ k. tt) TimePasses tt))
      old_waiting)
      (near_ticks_part old (aged_orderly w a))

-- ### The ticks of hosts

host_rests : (u : List Entry) (s : Site) → SiteWaits u s → (s.host == 0) ≡ false → IfItRuns s.host (s.host ∷ []) s.node
    → SiteRests (u ++ (host_ticks s).1) (host_ticks s).0
host_rests u s b off runs =
    by_host_tick (λ p. IsPart s.host p.1 → SiteRests (u ++ p.1) p.0) s
    (λ q part. rest_on u [] s (record s { link = exchanged (ticks_at_controller (exchanged s.link) [] GoesOut) }) b.rests refl b.rests.holds tt tt)
    (λ r q part.
    let v : Work = host_tick s r in
    let frames : List Entry = frames_noted Host s.host (exchanged s.link) v in
    far_site u s b r q (subst (IfItRuns s.host (s.host ∷ [])) q runs) off (λ h. s.link.host) [] refl tt tt tt tt tt TimePasses tt
    (record s {
      link = exchanged (ticks_at_controller (exchanged s.link) (turns_at v s.host) (ending_of v));
      memory = after_planned v.writes s.memory;
      node = runs_on v;
    }) frames refl refl (frames_idle (end_h s.host) Host s.host (exchanged s.link) v)
    (own_not s.host 0 (v.entries ++ frames) off (part_own s.host (v.entries ++ frames) part)))
    (far_tick s off runs)

hosts_rest : (u : List Entry) (sites : List Site) → AreDifferent (hosts_in sites) → AreNodes sites → AllWaiting u sites
    → AllAtRest (u ++ (hosts_tick sites).1) (hosts_tick sites).0
hosts_rest u [] d n b = tt
hosts_rest u (s ∷ sites) d n b = (
  head,
  subst (λ l. AllAtRest l (hosts_tick sites).0) (append_assoc u es later) (hosts_rest (u ++ es) sites d.1 n.1 (others sites d.0 b.1)),
) where
  es : List Entry
  es = (host_ticks s).1

  later : List Entry
  later = (hosts_tick sites).1

  part : IsPart s.host es
  part = far_tick s n.0.0 n.0.1

  head : SiteRests (u ++ (es ++ later)) (host_ticks s).0
  head =
      let first : SiteRests (u ++ es) (host_ticks s).0 = host_rests u s b.0 n.0.0 n.0.1 in
      let H : ℕ → Type 0 = λ h. AreIdle (end_h h) later in
      subst (λ l. SiteRests l (host_ticks s).0) (append_assoc u es later)
      (rest_on (u ++ es) later (host_ticks s).0 (host_ticks s).0 first refl first.holds
      (others_idle (end_c (host_ticks s).0.host) later (others_tick 0 sites (zeros sites n.1) n.1))
      (subst H (sym (by_host_tick (λ p. p.0.host ≡ s.host) s (λ q. refl) (λ r q. refl))) (others_idle (end_h s.host) later (others_tick s.host sites d.0 n.1))))
    where
      zeros : (sites : List Site) → AreNodes sites → AllByRecursion (λ h. (h == 0) ≡ false) (hosts_in sites)
      zeros [] n = tt
      zeros (x ∷ sites) n = (n.0.0, zeros sites n.1)

  others : (sites : List Site) → AllByRecursion (λ j. (j == s.host) ≡ false) (hosts_in sites) → AllWaiting u sites → AllWaiting (u ++ es) sites
  others [] off b = tt
  others (x ∷ sites) off b = (
    site_on u es x x b.0 refl refl refl (idle_done (end_c x.host) u es (far_idle s.host es part 0 n.0.0 (end_c x.host) refl) b.0.rests.near)
        (far_idle s.host es part x.host (same_sym x.host s.host off.0) (end_h x.host) refl),
    others sites off.1 b.1,
  )

-- ### Events

module _ (t : List Entry) (w : NodeWorld) (reads : WaitsRead t w) (rests : AllAtRest t w.sites) where
  abbrev o : IsOrderly w
  o = reads.all.orderly

  begins : AllWaiting t w.sites
  begins = waiting_from t w reads.all rests

  ticks_rest : AllAtRest (t ++ (world_ticks w).1) (world_ticks w).0.sites
  ticks_rest =
      let near : NodeWorld × List Entry = controller_ticks (all_aged w).0 in
      subst (λ l. AllAtRest l (world_ticks w).0.sites)
      (append_assoc (t ++ (all_aged w).1) near.1 (hosts_tick near.0.sites).1 ∙ append_assoc t (all_aged w).1 (near.1 ++ (hosts_tick near.0.sites).1))
      (hosts_rest ((t ++ (all_aged w).1) ++ near.1) near.0.sites (ticked_orderly w o).different (ticked_nodes w o)
      (near_waiting t w reads begins))

  near_coming : (h : ℕ) (comes : Comes) → AllWaiting (t ++ (comes_at w (end_c h) comes).1) (comes_at w (end_c h) comes).0.sites
  near_coming h comes =
      by_coming (λ p. AllWaiting (t ++ p.1) p.0.sites) w (end_c h) comes (subst (λ l. AllWaiting l w.sites) (sym (append-nil t)) begins)
      (λ i at q. absurd (true≢false (sym at))) (λ i at q. near_comes t w reads begins h comes i q)

  coming_rests : (e : End) (comes : Comes) → AllAtRest (t ++ (comes_at w e comes).1) (comes_at w e comes).0.sites
  coming_rests e comes = by_test e.at_host
      (λ q. let is : end_h e.link ≡ e = ap (λ b. let f : End = record { link = e.link; at_host = b } in f) (sym q) in
      subst Goal is (far_coming t w o begins e.link comes))
      (λ q. let is : end_c e.link ≡ e = ap (λ b. let f : End = record { link = e.link; at_host = b } in f) (sym q) in
      subst Goal is (all_rests _ (comes_at w (end_c e.link) comes).0.sites (near_coming e.link comes))) where
        Goal : End → Type 0
        Goal f = AllAtRest (t ++ (comes_at w f comes).1) (comes_at w f comes).0.sites

  pub event_rests : (c : Happening) → AllAtRest (t ++ (world_step w c).1) (world_step w c).0.sites
  event_rests (Boots n) = boot_rests t w o rests n
  event_rests (IsCut n) = cut_rests t w rests n w refl
  event_rests (Gives e m) =
      far_begins t w o begins e.link (sending e.link m) (sending_mute e.link m) (sending_mine e.link m) (sending_turnless e.link m)
  event_rests (Inits e identity pipes) =
      far_begins t w o begins e.link (beginning identity pipes) (tt, (tt, tt)) (tt, (tt, tt)) (beginning_turnless identity pipes)
  event_rests (Takes e) = coming_rests e NextFrame
  event_rests (Loses e why) = lost_rests t w o rests e why
  event_rests Ticks = ticks_rest
  event_rests (Resets e window) = coming_rests e (AsksReset window)
  event_rests (Activates h sync power) =
      let near : NodeWorld × List Entry = comes_at w (end_c h) (Starts power) in
      subst (λ l. AllAtRest l (comes_at near.0 (end_h h) (Starts sync)).0.sites) (append_assoc t near.1 (comes_at near.0 (end_h h) (Starts sync)).1)
      (far_coming (t ++ near.1) near.0 (comes_goes w (end_c h) (Starts power) o).orderly (near_coming h (Starts power)) h (Starts sync))
  event_rests (Arms n plan) =
      subst (λ l. AllAtRest l (world_step w (Arms n plan)).0.sites) (sym (append-nil t))
      (written t w rests n (record (memory_at w n) { plan = Some plan }))

-- ### Histories

-- what waits is read, and all is at rest
pub record IsAtRest (t : List Entry) (w : NodeWorld) : Type 0 where
  pub reads : WaitsRead t w
  pub rests : AllAtRest t w.sites

rest_lasts : (t : List Entry) (w : NodeWorld) (c : Happening) → IsAtRest t w → MayBoot w c → IsAtRest (t ++ (world_step w c).1) (world_step w c).0
rest_lasts t w c a may = record { reads = reads_last t w c a.reads may; rests = event_rests t w a.reads a.rests c }

new_rests : (hosts : List ℕ) → AllAtRest [] (new_world hosts).sites
new_rests [] = tt
new_rests (h ∷ hosts) = (record { near = refl; holds = λ r q. let no : None ≡ Some r = q in absurd (cc no); far = refl }, new_rests hosts)

pub history_rests : (header : Header) (lines : List Line) (t : NodeHistory) → FollowsNodes header lines t → AreHosts header.hosts.items
    → (front back : List Occurrence) → occurrences_in t ≡ front ++ back → IsAtRest (entries_in front) (world_behind (new_world header.hosts.items) front)
history_rests header lines t follows are front back parts =
    history_holds IsAtRest MayBoot AnyLine rest_lasts boots_may header lines t follows
    (record { reads = new_reads header.hosts.items are; rests = new_rests header.hosts.items }) (all_lines lines) front back parts

done_of : (t : List Entry) (sites : List Site) → AllAtRest t sites → AllByRecursion (λ e. is_done t e ≡ true) (ends_in (hosts_in sites))
done_of t [] a = tt
done_of t (s ∷ sites) a = (a.0.near, (a.0.far, done_of t sites a.1))

pub histories_done : (header : Header) (lines : List Line) (t : NodeHistory) → FollowsNodes header lines t → AreHosts header.hosts.items
    → ArePlayable lines → AtEachOccurrence t (AreDone t.header.hosts.items)
histories_done header lines t follows are playable past back o parts =
    let so : IsSo header.hosts.items (past ++ o ∷ []) (world_behind (new_world header.hosts.items) (past ++ o ∷ [])) =
    history_so header lines t follows are playable (past ++ o ∷ []) back (parts ∙ sym (append_assoc past (o ∷ []) back)) in
    let rests : IsAtRest (entries_in (past ++ o ∷ [])) (world_behind (new_world header.hosts.items) (past ++ o ∷ [])) =
    history_rests header lines t follows are (past ++ o ∷ []) back (parts ∙ sym (append_assoc past (o ∷ []) back)) in
    let D : List ℕ → List Entry → Type 0 = λ hs l. AllByRecursion (λ e. is_done l e ≡ true) (ends_in hs) in
    subst (λ (h : Header). D h.hosts.items (through past o)) (sym follows.header_is)
    (subst (D header.hosts.items) entries
    (subst (λ hs. D hs (entries_in (past ++ o ∷ []))) so.hosts_are (done_of (entries_in (past ++ o ∷ [])) _ rests.rests)))
  where
    entries : entries_in (past ++ o ∷ []) ≡ through past o
    entries =
        flat_map-append (λ (x : Occurrence). x.entries) past (o ∷ []) ∙ ap (λ l. entries_in past ++ l) (append-nil o.entries)
