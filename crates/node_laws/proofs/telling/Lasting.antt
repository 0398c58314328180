-- What lasts over each event lasts over schedules and histories: worlds stay orderly, and histories without ticks tell of each link.
use Rattle.node_laws.proofs.Words.{Activates, AllByRecursion, AreDifferent, Arms, Boots, EachGoesSo, End, Entry, FollowsNodes, Gives, Happening, HasEnds}
use Rattle.node_laws.proofs.Words.{Header, IfItRuns, Inits, IsCut, IsOrderly, IsUntimed, Line, LineStep, List, Loses, Loss, MayBoot, NodeHistory, NodeWorld}
use Rattle.node_laws.proofs.Words.{None, NumberedEnd, Occurrence, Option, Resets, Running, Site, Takes, Ticks, Verdict, Work, [], after_planned, all_aged}
use Rattle.node_laws.proofs.Words.{all_happen, ap, append-nil, append_assoc, arith, by_controller_tick, by_host_tick, by_option, by_test, can_happen}
use Rattle.node_laws.proofs.Words.{controller_ticks, entries_in, false, first_verdict, flat_map, flat_map-append, frames_at, goes_on, happenings, happens_by}
use Rattle.node_laws.proofs.Words.{host_tick, host_ticks, hosts_in, hosts_tick, is_some, line_step, link_to, map, near_tick, new_site, new_world, node_at}
use Rattle.node_laws.proofs.Words.{occurrences_in, occurrences_of, refl, refusal_in, replicate, runs_on, site_ticked, site_unticked, steps_from, subst, suc}
use Rattle.node_laws.proofs.Words.{sym, tables_told, taken_of, unwrap_or, work_of, world_after, world_behind, world_step, world_ticks, zero, ℕ, ◌++◌, ◌==◌, ◌∙◌}
use Rattle.node_laws.proofs.Words.{◌∷◌, ◌≡◌}
use Rattle.node_machine.specs.world.Lines.{if_true}
use Rattle.node_laws.specs.telling.Telling.{AreUntimed, IsUntimedLine}
use Rattle.node_laws.proofs.telling.Events.{goes_not, goes_then, hosts_same_of_nodes as hosts_same, orderly_map, untimed_goes}
use Rattle.node_laws.proofs.telling.Steps.{Keeps, runs_keep, tick_keeps}
use Rattle.node_laws.proofs.telling.WorldTicks.{aged_orderly, tick_host}
use Rattle.trace_model.specs.declared.entry.NoCause.TheVariants as cause
use Rattle.trace_model.specs.declared.line.Line.TheVariants as line

-- ## What lasts over each event of a world of nodes, with the entries noted so far, lasts over all events of a schedule

-- events that may happen one after another
abbrev pub AllMay : (NodeWorld → Happening → Type 0) → NodeWorld → List Happening → Type 0
AllMay May w [] = Unit {0}
AllMay May w (c ∷ causes) = May w c × AllMay May (world_step w c).0 causes

-- what may happen in any world may happen again and again
pub repeated_may : (May : NodeWorld → Happening → Type 0) (c : Happening) → ((w : NodeWorld) → May w c) → (n : ℕ) (w : NodeWorld)
    → AllMay May w (replicate n c)
repeated_may May c one zero w = tt
repeated_may May c one (suc n) w = (one w, repeated_may May c one n (world_step w c).0)

-- a damaged frame is taken or lost
pub damaged_may : (May : NodeWorld → Happening → Type 0) (w : NodeWorld) (e : End) → May w (Takes e) → ((why : Loss) → May w (Loses e why))
    → (o : Option Verdict) → AllMay May w (happens_by e o)
damaged_may May w e takes loses o = grind arith

-- any event, and any line
abbrev pub Any : NodeWorld → Happening → Type 0
Any w c = Unit {0}

abbrev pub AnyLine : Line → Type 0
AnyLine l = Unit {0}

pub all_any : (w : NodeWorld) (causes : List Happening) → AllMay Any w causes
all_any w [] = tt
all_any w (c ∷ causes) = (tt, all_any (world_step w c).0 causes)

pub all_lines : (lines : List Line) → AllByRecursion AnyLine lines
all_lines [] = tt
all_lines (l ∷ lines) = (tt, all_lines lines)

pub stands_none : (o : Option Running) → if_true (is_some o) cause.Running ≡ None → o ≡ None
stands_none o e = grind arith

-- a line that isn't refused boots a node only while it doesn't run
pub boots_may : (w : NodeWorld) (l : Line) → AnyLine l → refusal_in w l ≡ None → AllMay MayBoot w (happenings w l)
boots_may w (line.Deliver e count) any none = repeated_may MayBoot (Takes e) (λ v. tt) (taken_of count (frames_at w e)) w
boots_may w (line.Damage e places) any none = damaged_may MayBoot w e tt (λ why. tt) (first_verdict (frames_at w e) places.items)
boots_may w (line.Tick times) any none = repeated_may MayBoot Ticks (λ v. tt) (unwrap_or times 1) w
boots_may w (line.Busy e) any none = tt
boots_may w (line.Ready e) any none = tt
boots_may w (line.Boot n) any none = (stands_none (node_at w n) none, tt)
boots_may w (line.Tables n) any none = tt
boots_may w (line.Settle n) any none = tt
boots_may w _ any none = (tt, tt)

-- the events of the steps of a history, and their entries
abbrev pub events_of_steps : List LineStep → List Occurrence
events_of_steps steps = flat_map (λ (s : LineStep). occurrences_of s.outcome) steps

abbrev pub entries_of_steps : List LineStep → List Entry
entries_of_steps steps = entries_in (events_of_steps steps)

-- ### The worlds behind events

behind-append : (xs ys : List Occurrence) (w : NodeWorld) → world_behind w (xs ++ ys) ≡ world_behind (world_behind w xs) ys
behind-append [] ys w = refl
behind-append (o ∷ xs) ys w = behind-append xs ys (world_step w o.cause).0

behind_all : (causes : List Happening) (w : NodeWorld) → world_behind w (all_happen w causes).1 ≡ (all_happen w causes).0
behind_all [] w = refl
behind_all (c ∷ causes) w = by_test (can_happen w c) (λ q. rw q (behind_all causes (world_step w c).0)) (λ q. rw q refl)

pub told_nothing : (n : ℕ) (o : Option Running) → occurrences_of (tables_told n o) ≡ []
told_nothing n o = grind arith

-- what a line that isn't refused causes is what happens
caused_is : (w : NodeWorld) (l : Line) → occurrences_of (goes_on w l).1 ≡ (all_happen w (happenings w l)).1
caused_is w l = grind arith

left_is : (w : NodeWorld) (l : Line) → (goes_on w l).0 ≡ (all_happen w (happenings w l)).0
left_is w l = grind arith

behind_line : (w : NodeWorld) (l : Line) → world_behind w (occurrences_of (line_step w l).1) ≡ (line_step w l).0
behind_line w l = by_option (refusal_in w l)
    (λ e. rw e (ap (world_behind w) (caused_is w l) ∙ (behind_all (happenings w l) w ∙ sym (left_is w l))))
    (λ cause e. rw e refl)

pub behind_lines : (lines : List Line) (w : NodeWorld) → world_behind w (events_of_steps (steps_from w lines)) ≡ world_after w lines
behind_lines [] w = refl
behind_lines (l ∷ lines) w =
    let v : NodeWorld = (line_step w l).0 in
    behind-append (occurrences_of (line_step w l).1) (events_of_steps (steps_from v lines)) w
    ∙ (ap (λ x. world_behind x (events_of_steps (steps_from v lines))) (behind_line w l) ∙ behind_lines lines v)

-- ### Causes

-- each of these events notes what its cause makes of the world before it, and may happen there
abbrev pub AreCaused : (NodeWorld → Happening → Type 0) → NodeWorld → List Occurrence → Type 0
AreCaused May w [] = Unit {0}
AreCaused May w (o ∷ events) = (o.entries ≡ (world_step w o.cause).1) × May w o.cause × AreCaused May (world_step w o.cause).0 events

module _ (May : NodeWorld → Happening → Type 0) (Is : Line → Type 0)
    (line_may : (w : NodeWorld) (l : Line) → Is l → refusal_in w l ≡ None → AllMay May w (happenings w l)) where
  caused-append : (xs ys : List Occurrence) (w : NodeWorld) → AreCaused May w xs → AreCaused May (world_behind w xs) ys → AreCaused May w (xs ++ ys)
  caused-append [] ys w a b = b
  caused-append (o ∷ xs) ys w a b = (a.0, a.1, caused-append xs ys (world_step w o.cause).0 a.2 b)

  all_caused : (causes : List Happening) (w : NodeWorld) → AllMay May w causes → AreCaused May w (all_happen w causes).1
  all_caused [] w may = tt
  all_caused (c ∷ causes) w may = by_test (can_happen w c) (λ q. rw q (refl, may.0, all_caused causes (world_step w c).0 may.1)) (λ q. rw q tt)

  line_caused : (w : NodeWorld) (l : Line) → Is l → AreCaused May w (occurrences_of (line_step w l).1)
  line_caused w l is = by_option (refusal_in w l)
      (λ e. rw e (subst (AreCaused May w) (sym (caused_is w l)) (all_caused (happenings w l) w (line_may w l is e))))
      (λ cause e. rw e tt)

  pub lines_caused : (lines : List Line) (w : NodeWorld) → AllByRecursion Is lines → AreCaused May w (events_of_steps (steps_from w lines))
  lines_caused [] w are = tt
  lines_caused (l ∷ lines) w are =
      let v : NodeWorld = (line_step w l).0 in
      caused-append (occurrences_of (line_step w l).1) (events_of_steps (steps_from v lines)) w (line_caused w l are.0)
      (subst (λ x. AreCaused May x (events_of_steps (steps_from v lines))) (sym (behind_line w l)) (lines_caused lines v are.1))

-- ### What lasts

-- an event of a world
abbrev pub occurs : NodeWorld → Happening → Occurrence
occurs w c = record { cause = c; entries = (world_step w c).1 }

-- what holds of a world by the events before it
module _ (Holds : List Occurrence → NodeWorld → Type 0) (May : NodeWorld → Happening → Type 0) (Is : Line → Type 0)
    (lasts : (os : List Occurrence) (w : NodeWorld) (c : Happening) → Holds os w → May w c → Holds (os ++ occurs w c ∷ []) (world_step w c).0)
    (line_may : (w : NodeWorld) (l : Line) → Is l → refusal_in w l ≡ None → AllMay May w (happenings w l)) where
  nothing : (os : List Occurrence) (w : NodeWorld) → Holds os w → Holds (os ++ []) w
  nothing os w all = subst (λ l. Holds l w) (sym (append-nil os)) all

  -- ### Events

  -- it holds before each of these events, and behind all of them
  abbrev pub EachHolds : List Occurrence → NodeWorld → List Occurrence → Type 0
  EachHolds os w [] = Holds os w
  EachHolds os w (o ∷ events) = Holds os w × EachHolds (os ++ o ∷ []) (world_step w o.cause).0 events

  all_happen_hold : (causes : List Happening) (os : List Occurrence) (w : NodeWorld) → Holds os w → AllMay May w causes
      → EachHolds os w (all_happen w causes).1
  all_happen_hold [] os w all may = all
  all_happen_hold (c ∷ causes) os w all may =
      by_test (can_happen w c)
      (λ q. rw q (all, all_happen_hold causes (os ++ occurs w c ∷ []) (world_step w c).0 (lasts os w c all may.0) may.1))
      (λ q. rw q all)

  -- behind the first of them
  pub front_each : (front back : List Occurrence) (os : List Occurrence) (w : NodeWorld) → EachHolds os w (front ++ back)
      → Holds (os ++ front) (world_behind w front)
  front_each [] [] os w a = nothing os w a
  front_each [] (o ∷ back) os w a = nothing os w a.0
  front_each (o ∷ front) back os w a =
      subst (λ x. Holds x (world_behind w (o ∷ front))) (append_assoc os (o ∷ []) front) (front_each front back (os ++ o ∷ []) (world_step w o.cause).0 a.1)

  hold-append : (xs ys : List Occurrence) (os : List Occurrence) (w : NodeWorld) → EachHolds os w xs
      → (Holds (os ++ xs) (world_behind w xs) → EachHolds (os ++ xs) (world_behind w xs) ys) → EachHolds os w (xs ++ ys)
  hold-append [] ys os w a later = subst (λ x. EachHolds x w ys) (append-nil os) (later (nothing os w a))
  hold-append (o ∷ xs) ys os w a later =
      let v : NodeWorld = (world_step w o.cause).0 in
      let same : (os ++ o ∷ []) ++ xs ≡ os ++ (o ∷ xs) = append_assoc os (o ∷ []) xs in (
        a.0,
        hold-append xs ys (os ++ o ∷ []) v a.1
            (λ z. subst (λ x. EachHolds x (world_behind v xs) ys) (sym same) (later (subst (λ x. Holds x (world_behind v xs)) same z))),
      )

  -- ### Lines

  line_holds : (os : List Occurrence) (w : NodeWorld) (l : Line) → Holds os w → Is l → EachHolds os w (occurrences_of (line_step w l).1)
  line_holds os w l all is = by_option (refusal_in w l)
      (λ e. rw e (subst (EachHolds os w) (sym (caused_is w l)) (all_happen_hold (happenings w l) os w all (line_may w l is e))))
      (λ cause e. rw e all)

  -- ### Schedules

  pub lines_each : (lines : List Line) (os : List Occurrence) (w : NodeWorld) → Holds os w → AllByRecursion Is lines
      → EachHolds os w (events_of_steps (steps_from w lines))
  lines_each [] os w all are = all
  lines_each (l ∷ lines) os w all are =
      let v : NodeWorld = (line_step w l).0 in
      let here : List Occurrence = occurrences_of (line_step w l).1 in
      let later : List Occurrence = events_of_steps (steps_from v lines) in
      hold-append here later os w (line_holds os w l all are.0)
      (λ z. subst (λ x. EachHolds (os ++ here) x later) (sym (behind_line w l))
      (lines_each lines (os ++ here) v (subst (λ x. Holds (os ++ here) x) (behind_line w l) z) are.1))

-- what holds of a world by the entries before it
module _ (Holds : List Entry → NodeWorld → Type 0) (May : NodeWorld → Happening → Type 0) (Is : Line → Type 0)
    (lasts : (t : List Entry) (w : NodeWorld) (c : Happening) → Holds t w → May w c → Holds (t ++ (world_step w c).1) (world_step w c).0)
    (line_may : (w : NodeWorld) (l : Line) → Is l → refusal_in w l ≡ None → AllMay May w (happenings w l)) where
  abbrev pub Behind : List Entry → List Occurrence → NodeWorld → Type 0
  Behind t os w = Holds (t ++ entries_in os) w

  pub goes_on_so : (t : List Entry) (os : List Occurrence) (w : NodeWorld) (c : Happening) → Behind t os w → May w c
      → Behind t (os ++ occurs w c ∷ []) (world_step w c).0
  goes_on_so t os w c all may =
      let u : List Entry = (world_step w c).1 in
      let same : entries_in (os ++ occurs w c ∷ []) ≡ entries_in os ++ u =
      flat_map-append (λ (o : Occurrence). o.entries) os (occurs w c ∷ []) ∙ ap (λ z. entries_in os ++ z) (append-nil u) in
      subst (λ z. Holds z (world_step w c).0) (append_assoc t (entries_in os) u ∙ ap (λ z. t ++ z) (sym same)) (lasts (t ++ entries_in os) w c all may)

  -- it holds before each of these events, and behind all of them
  abbrev pub AllHold : List Entry → NodeWorld → List Occurrence → Type 0
  AllHold t w events = EachHolds (Behind t) May Is (goes_on_so t) line_may [] w events

  -- behind the first of them
  pub front_holds : (front back : List Occurrence) (t : List Entry) (w : NodeWorld) → AllHold t w (front ++ back)
      → Holds (t ++ entries_in front) (world_behind w front)
  front_holds front back t w a = front_each (Behind t) May Is (goes_on_so t) line_may front back [] w a

  pub lines_hold : (lines : List Line) (t : List Entry) (w : NodeWorld) → Holds t w → AllByRecursion Is lines
      → AllHold t w (events_of_steps (steps_from w lines))
  lines_hold lines t w all are = lines_each (Behind t) May Is (goes_on_so t) line_may lines [] w (subst (λ z. Holds z w) (sym (append-nil t)) all) are

  pub lines_last : (lines : List Line) (t : List Entry) (w : NodeWorld) → Holds t w → AllByRecursion Is lines
      → Holds (t ++ entries_of_steps (steps_from w lines)) (world_after w lines)
  lines_last lines t w all are =
      let events : List Occurrence = events_of_steps (steps_from w lines) in
      subst (λ x. Holds (t ++ entries_in events) x) (behind_lines lines w)
      (front_holds events [] t w (subst (AllHold t w) (sym (append-nil events)) (lines_hold lines t w all are)))

  -- so it is behind any first events of a history
  pub history_holds : (header : Header) (lines : List Line) (t : NodeHistory) → FollowsNodes header lines t → Holds [] (new_world header.hosts.items)
      → AllByRecursion Is lines → (front back : List Occurrence) → occurrences_in t ≡ front ++ back
      → Holds (entries_in front) (world_behind (new_world header.hosts.items) front)
  history_holds header lines t follows begins are front back parts =
      let first : NodeWorld = new_world header.hosts.items in
      front_holds front back [] first
      (subst (AllHold [] first) (sym (ap events_of_steps follows.steps_are) ∙ parts) (lines_hold lines [] first begins are))

-- the events of a history happened
pub history_caused : (header : Header) (lines : List Line) (t : NodeHistory) → FollowsNodes header lines t
    → AreCaused Any (new_world header.hosts.items) (occurrences_in t)
history_caused header lines t follows =
    let first : NodeWorld = new_world header.hosts.items in
    subst (λ steps. AreCaused Any first (events_of_steps steps)) (sym follows.steps_are)
    (lines_caused Any AnyLine (λ w l any none. all_any w (happenings w l)) lines first (all_lines lines))

pub behind_push : (os : List Occurrence) (o : Occurrence) (w : NodeWorld) → world_behind w (os ++ o ∷ []) ≡ (world_step (world_behind w os) o.cause).0
behind_push [] o w = refl
behind_push (x ∷ os) o w = behind_push os o (world_step w x.cause).0

entries_one : (xs : List Occurrence) (o : Occurrence) → entries_in (xs ++ o ∷ []) ≡ entries_in xs ++ o.entries
entries_one xs o = flat_map-append (λ (o : Occurrence). o.entries) xs (o ∷ []) ∙ ap (λ l. entries_in xs ++ l) (append-nil o.entries)

-- what lasts over each event while something else is kept holds behind any first events
module _ (P K : List Entry → NodeWorld → Type 0)
    (lasts : (t : List Entry) (w : NodeWorld) (c : Happening) → P t w → K t w → P (t ++ (world_step w c).1) (world_step w c).0) (first : NodeWorld)
    (events : List Occurrence)
    (keeps : (front back : List Occurrence) → events ≡ front ++ back → K (entries_in front) (world_behind first front)) where
  pub fronts_last : (done front back : List Occurrence) → events ≡ done ++ (front ++ back) → AreCaused Any (world_behind first done) (front ++ back)
      → P (entries_in done) (world_behind first done) → P (entries_in (done ++ front)) (world_behind first (done ++ front))
  fronts_last done [] back is caused now = subst (λ l. P (entries_in l) (world_behind first l)) (sym (append-nil done)) now
  fronts_last done (o ∷ front) back is caused now =
      let w : NodeWorld = world_behind first done in
      subst (λ l. P (entries_in l) (world_behind first l)) (append_assoc done (o ∷ []) front)
      (fronts_last (done ++ o ∷ []) front back (is ∙ sym (append_assoc done (o ∷ []) (front ++ back)))
      (subst (λ v. AreCaused Any v (front ++ back)) (sym (behind_push done o first)) caused.2)
      (subst (P (entries_in (done ++ o ∷ []))) (sym (behind_push done o first))
      (subst (λ l. P l (world_step w o.cause).0) (sym (entries_one done o)) (grind arith))))

-- ## Whatever lines are played, a world of nodes is orderly

-- ### Ticks

tick_node : (x : Site) → IfItRuns x.host (x.host ∷ []) x.node → IfItRuns x.host (x.host ∷ []) (host_ticks x).0.node
tick_node x a =
    by_host_tick (λ p. IfItRuns x.host (x.host ∷ []) p.0.node) x (λ q. a)
    (λ n q.
    let b : HasEnds x.host (x.host ∷ []) n = subst (IfItRuns x.host (x.host ∷ [])) q a in
    let near_ends : ℕ → NumberedEnd = λ j. x.link.host in
    let first : Keeps x.host (x.host ∷ []) (work_of n x.memory.plan near_ends []) = record {
      number = b.number;
      ends = hosts_same near_ends n.desks ∙ b.ends;
    } in
    runs_keep x.host (x.host ∷ []) (host_tick x n) (tick_keeps x.host (x.host ∷ []) (work_of n x.memory.plan near_ends []) first))

pub hosts_ticked : (sites : List Site) → hosts_in (hosts_tick sites).0 ≡ hosts_in sites
hosts_ticked [] = refl
hosts_ticked (x ∷ sites) = ap (λ n. n ∷ hosts_in (hosts_tick sites).0) (tick_host x) ∙ ap (λ ns. x.host ∷ ns) (hosts_ticked sites)

numbers_ticked : (sites : List Site) → AllByRecursion (λ (x : Site). (x.host == 0) ≡ false) sites
    → AllByRecursion (λ (x : Site). (x.host == 0) ≡ false) (hosts_tick sites).0
numbers_ticked [] a = tt
numbers_ticked (x ∷ sites) a = (ap (λ n. n == 0) (tick_host x) ∙ a.0, numbers_ticked sites a.1)

nodes_ticked : (sites : List Site) → AllByRecursion (λ (x : Site). IfItRuns x.host (x.host ∷ []) x.node) sites
    → AllByRecursion (λ (x : Site). IfItRuns x.host (x.host ∷ []) x.node) (hosts_tick sites).0
nodes_ticked [] a = tt
nodes_ticked (x ∷ sites) a =
    (subst (λ (n : ℕ). IfItRuns n (n ∷ []) (host_ticks x).0.node) (sym (tick_host x)) (tick_node x a.0), nodes_ticked sites a.1)

ticks_orderly : (w : NodeWorld) → IsOrderly w → IsOrderly (world_ticks w).0
ticks_orderly w a =
    record {
      different = subst AreDifferent (sym same) near.different;
      hosts = numbers_ticked (controller_ticks old).0.sites near.hosts;
      controller = let P : List ℕ → Type 0 = λ hs. IfItRuns 0 hs (controller_ticks old).0.controller in subst P (sym same) near.controller;
      nodes = nodes_ticked (controller_ticks old).0.sites near.nodes;
    }
  where
    old : NodeWorld
    old = (all_aged w).0

    near : IsOrderly (controller_ticks old).0
    near =
        by_controller_tick (λ p. IsOrderly p.0) old
        (λ q. orderly_map old old.memory old.controller site_unticked (λ x. refl) (aged_orderly w a) (aged_orderly w a).controller (λ x m. m))
        (λ r q.
        let n : HasEnds 0 (hosts_in old.sites) r = subst (IfItRuns 0 (hosts_in old.sites)) q (aged_orderly w a).controller in
        let near_ends : ℕ → NumberedEnd = λ j. (link_to old.sites j).controller in
        let begun : Work = work_of r old.memory.plan near_ends [] in
        let first : Keeps 0 (hosts_in old.sites) begun = record { number = n.number; ends = hosts_same near_ends r.desks ∙ n.ends } in
        orderly_map old (after_planned (near_tick old r).writes old.memory) (runs_on (near_tick old r)) (site_ticked (near_tick old r)) (λ x. refl)
        (aged_orderly w a) (runs_keep 0 (hosts_in old.sites) (near_tick old r) (tick_keeps 0 (hosts_in old.sites) begun first)) (λ x m. m))

    same : hosts_in (hosts_tick (controller_ticks old).0.sites).0 ≡ hosts_in (controller_ticks old).0.sites
    same = hosts_ticked (controller_ticks old).0.sites

-- ### Events

pub step_orderly : (w : NodeWorld) (c : Happening) → IsOrderly w → IsOrderly (world_step w c).0
step_orderly w Ticks a = ticks_orderly w a
step_orderly w (Boots n) a = (untimed_goes w (Boots n) tt a).orderly
step_orderly w (IsCut n) a = (untimed_goes w (IsCut n) tt a).orderly
step_orderly w (Gives e m) a = (untimed_goes w (Gives e m) tt a).orderly
step_orderly w (Inits e identity pipes) a = (untimed_goes w (Inits e identity pipes) tt a).orderly
step_orderly w (Takes e) a = (untimed_goes w (Takes e) tt a).orderly
step_orderly w (Loses e why) a = (untimed_goes w (Loses e why) tt a).orderly
step_orderly w (Resets e window) a = (untimed_goes w (Resets e window) tt a).orderly
step_orderly w (Activates h sync power) a = (untimed_goes w (Activates h sync power) tt a).orderly
step_orderly w (Arms n plan) a = (untimed_goes w (Arms n plan) tt a).orderly

-- ### The beginning

pub new_orderly : (hosts : List ℕ) → AreDifferent hosts → AllByRecursion (λ h. (h == 0) ≡ false) hosts → IsOrderly (new_world hosts)
new_orderly hosts d a = record { different = subst AreDifferent (sym (same hosts)) d; hosts = numbers hosts a; controller = tt; nodes = nodes hosts }
  where
    same : (hosts : List ℕ) → hosts_in (map (new_site (replicate 65536 255)) hosts) ≡ hosts
    same [] = refl
    same (h ∷ hosts) = ap (λ ns. h ∷ ns) (same hosts)

    numbers : (hosts : List ℕ) → AllByRecursion (λ h. (h == 0) ≡ false) hosts
        → AllByRecursion (λ (s : Site). (s.host == 0) ≡ false) (map (new_site (replicate 65536 255)) hosts)
    numbers [] b = tt
    numbers (h ∷ hosts) b = (b.0, numbers hosts b.1)

    nodes : (hosts : List ℕ) → AllByRecursion (λ (s : Site). IfItRuns s.host (s.host ∷ []) s.node) (map (new_site (replicate 65536 255)) hosts)
    nodes [] = tt
    nodes (h ∷ hosts) = (tt, nodes hosts)

pub worlds_are_orderly : (hosts : List ℕ) (lines : List Line) → AreDifferent hosts → AllByRecursion (λ h. (h == 0) ≡ false) hosts
    → IsOrderly (world_after (new_world hosts) lines)
worlds_are_orderly hosts lines d a =
    lines_last (λ t w. IsOrderly w) Any AnyLine (λ t w c is may. step_orderly w c is) (λ w l is none. all_any w (happenings w l)) lines [] (new_world hosts)
    (new_orderly hosts d a) (all_lines lines)

-- ### Each event

-- what each event of an orderly world notes is so
module _ (P : List Entry → Type 0) (event : (w : NodeWorld) (c : Happening) → IsOrderly w → P (world_step w c).1) where
  each_event : (past later : List Occurrence) (o : Occurrence) (w : NodeWorld) → IsOrderly w → AreCaused Any w (past ++ (o ∷ later)) → P o.entries
  each_event [] later o w a caused = subst P (sym caused.0) (event w o.cause a)
  each_event (x ∷ past) later o w a caused = each_event past later o (world_step w x.cause).0 (step_orderly w x.cause a) caused.2

  pub history_event : (header : Header) (lines : List Line) (t : NodeHistory) → FollowsNodes header lines t → AreDifferent header.hosts.items
      → AllByRecursion (λ h. (h == 0) ≡ false) header.hosts.items → (past later : List Occurrence) (o : Occurrence)
      → occurrences_in t ≡ past ++ (o ∷ later) → P o.entries
  history_event header lines t follows different numbers past later o is =
      each_event past later o (new_world header.hosts.items) (new_orderly header.hosts.items different numbers)
      (subst (AreCaused Any (new_world header.hosts.items)) is (history_caused header lines t follows))

-- ## What a history without ticks tells of each link

-- no time passes in any world
abbrev MayBeUntimed : NodeWorld → Happening → Type 0
MayBeUntimed w c = IsUntimed c

all_untimed : (causes : List Happening) (w : NodeWorld) → AllByRecursion IsUntimed causes → AllMay MayBeUntimed w causes
all_untimed [] w u = tt
all_untimed (c ∷ causes) w u = (u.0, all_untimed causes (world_step w c).0 u.1)

repeated : (n : ℕ) (c : Happening) → IsUntimed c → AllByRecursion IsUntimed (replicate n c)
repeated zero c u = tt
repeated (suc n) c u = (u, repeated n c u)

damaged : (e : End) (v : Option Verdict) → AllByRecursion IsUntimed (happens_by e v)
damaged e v = grind arith

line_untimed : (w : NodeWorld) (l : Line) → IsUntimedLine l → refusal_in w l ≡ None → AllMay MayBeUntimed w (happenings w l)
line_untimed w (line.Tick times) u q = absurd u
line_untimed w (line.Deliver e count) u q =
    all_untimed (happenings w (line.Deliver e count)) w (repeated (taken_of count (frames_at w e)) (Takes e) tt)
line_untimed w (line.Damage e places) u q = grind arith
line_untimed w (line.Busy e) u q = tt
line_untimed w (line.Ready e) u q = tt
line_untimed w (line.Tables n) u q = tt
line_untimed w (line.Settle n) u q = tt
line_untimed w _ u q = (tt, tt)

pub lines_go : (lines : List Line) (w : NodeWorld) → AreUntimed lines → IsOrderly w → EachGoesSo w (world_after w lines) (entries_of_steps (steps_from w lines))
lines_go lines w u a =
    lines_last (λ t v. EachGoesSo w v t) MayBeUntimed IsUntimedLine
    (λ t v c so untimed. goes_then w v (world_step v c).0 t (world_step v c).1 so (untimed_goes v c untimed so.orderly)) line_untimed lines [] w
    (goes_not w [] (λ h. refl) a) u
