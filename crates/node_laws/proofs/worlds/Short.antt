-- Behind a step or an event in which the controller runs on, the first message that is left at an end of it lacks room.
use Rattle.node_laws.proofs.Words.{Activates, AllByRecursion, AreAlong, AreDifferent, AreHosts, AreNoTurns, AreNodeLinesOf, AreNotOf, ArePlayable, Arms}
use Rattle.node_laws.proofs.Words.{AsksReset, AtEachOccurrence, AtEnd, BeginWithTurn, BeginsPass, Bool, Boots, Comes, Controller, Cut, Emit, End, Entry}
use Rattle.node_laws.proofs.Words.{FollowsNodes, Gives, Happening, HasEnds, Header, Host, Inits, IsAscending, IsCut, IsFew, IsNoTurn, IsNodeHeader, IsNodeOf}
use Rattle.node_laws.proofs.Words.{IsOrderly, IsSentByHost, KeepsBetween, Line, Link, LinkInput, List, Loses, Lost, NextFrame, NodeHistory, NodeInput}
use Rattle.node_laws.proofs.Words.{NodeWorld, None, Noted, Occurrence, ReadsInStep, Reckoning, Reset, Resets, Site, Some, Start, Starts, Take, Takes, Ticks}
use Rattle.node_laws.proofs.Words.{TimePasses, Took, Work, [], all_aged, all_append, all_flat, ap, append-nil, append_assoc, arith, arrival, as_it_ticks}
use Rattle.node_laws.proofs.Words.{as_left, begun_by, by_coming, by_host, by_list, by_option, by_test, comes_at, comes_to, comes_to_pass, commands_by_events}
use Rattle.node_laws.proofs.Words.{cond, controller_begins, controller_does, controller_ticks, end_c, end_h, end_of, ending_entries, ending_of, entries_for}
use Rattle.node_laws.proofs.Words.{entries_in, eq-eqb, exchanged, false, flat_map, fold, fold-append, frames_noted, host_work, hosts_tick, inl, input_of, inr}
use Rattle.node_laws.proofs.Words.{is_later, is_left_short, is_some, lack_at, length, link_of_turn, link_to, links_of_turns, lt-ltb, makes_step, nat_lt}
use Rattle.node_laws.proofs.Words.{near_end_in, near_tick, new_book, new_memory, new_world, node_at, node_entries, node_of, not, noted_before_pass}
use Rattle.node_laws.proofs.Words.{occurrences_in, passes, port_at, reckoned, reckoning_of, refl, replicate, runs_in, seen_from, steps, subst, sym, take_while}
use Rattle.node_laws.proofs.Words.{take_while-cons, through, true, true≢false, unhandled_in, wires_for, with_event, world_behind, world_step, ℕ, ◌&&◌, ◌++◌}
use Rattle.node_laws.proofs.Words.{◌<◌, ◌==◌, ◌∙◌, ◌∷◌, ◌≡◌, ◌≤◌, ◌⊎◌}
use Rattle.link_laws.specs.entries.Entries.{End as Side}
use Rattle.node_laws.proofs.creations.Events.{aged_good, far_beside, near_good}
use Rattle.node_laws.proofs.cuts.Histories.{known}
use Rattle.node_laws.proofs.notices.Near.{AreGood, Reads, all_tick, comes_reads, far_flat, frames_quiet, not_near}
use Rattle.node_laws.proofs.order.Lines.{IsSo, history_so}
use Rattle.node_laws.proofs.passes.InSteps.{before_entries, before_none, links_none, steps_are}
use Rattle.node_laws.proofs.power.Steps.{Fine, HasLost, Runs, arrival_of_side, links_own, steps_fine}
use Rattle.node_laws.proofs.power.Events.{near_runs, ticked_others}
use Rattle.node_laws.proofs.read_rooms.Carrying.{IsCarried}
use Rattle.node_laws.proofs.read_steps.Knowing.{history_keeps_between}
use Rattle.node_laws.proofs.replies.Left.{AreCalm, IsLeft, IsNear, IsUnheard, LacksBehind, calm_both, calm_none, idle_left, is_left}
use Rattle.node_laws.proofs.replies.Waiting.{comes_known, tick_known}
use Rattle.node_laws.proofs.reply_passes.Roomy.{comes_begins, tick_begins}
use Rattle.node_laws.proofs.telling.Events.{comes_goes}
use Rattle.node_laws.proofs.telling.Ticks.{ending_all}
use Rattle.node_laws.proofs.telling.Lasting.{AreCaused, events_of_steps, lines_caused}
use Rattle.node_laws.proofs.telling.Shapes.{entries_uncut}
use Rattle.node_laws.proofs.telling.WorldTicks.{ticked_orderly}
use Rattle.node_laws.proofs.views.Events.{orderly_fine, ticks_leave}
use Rattle.node_laws.proofs.views.Doing.{IsStill, Leaves, still_leaves}
use Rattle.node_laws.proofs.views.Nodes.{arrival_still, frames_still, others_step}
use Rattle.node_laws.proofs.worlds.Resting.{AreIdle, cut_off, flat_idle, frames_idle, idle_runs, others_idle}
use Rattle.node_laws.proofs.worlds.Done.{NoneThere, aged_idle, far_not, frames_none}
use Rattle.node_laws.proofs.worlds.Late.{IsFrame}
use Rattle.node_laws.proofs.worlds.Ticking.{far_node, far_number, near_node}
use Rattle.node_laws.proofs.worlds.Due.{MayStep, line_steps}
use Rattle.node_laws.proofs.worlds.FramesLast.{aged_turnless, other_turns, turnless_there}
use Rattle.trace_model.specs.declared.entry.Entry.TheVariants as entry

-- ## Behind a step of the controller that runs on, the first message that is left at an end of it lacks room, as it leaves that end

-- ### What is said of an end

module _ (hosts : List ℕ) (past : List Occurrence) (o : Occurrence) (e : End) where
  abbrev steps_there : Bool
  steps_there = makes_step (node_of e) o.cause

  pub short_off : runs_in (through past o) (node_of e) ≡ false → is_left_short hosts past o e ≡ true
  short_off off = grind arith

  pub short_still : steps_there ≡ false → is_left_short hosts past o e ≡ true
  short_still still = grind arith

  pub short_none : unhandled_in (through past o) e ≡ [] → is_left_short hosts past o e ≡ true
  short_none none = grind arith

  pub short_lacks : is_some (lack_at hosts (as_left past o e) e) ≡ true → is_left_short hosts past o e ≡ true
  short_lacks lacks = grind arith

-- entries that tell nothing of the controller's power leave it as it was
idle_on : (k : ℕ) (s es : List Entry) → AreIdle (end_c k) es → runs_in (s ++ es) 0 ≡ true → runs_in s 0 ≡ true
idle_on k s [] idle on = ap (λ l. runs_in l 0) (sym (append-nil s)) ∙ on
idle_on k s (x ∷ es) idle on =
    idle_runs (end_c k) s x idle.0 (idle_on k (s ++ x ∷ []) es idle.1 (ap (λ l. runs_in l 0) (append_assoc s (x ∷ []) es) ∙ on))

-- ### Later ends

module _ (k : ℕ) where
  abbrev before_it : Entry → Bool
  before_it x = not (is_later (end_c k) x)

  abbrev NotLater : List Entry → Type 0
  NotLater es = AllByRecursion (λ x. is_later (end_c k) x ≡ false) es

  take_all : (es : List Entry) → NotLater es → take_while before_it es ≡ es
  take_all [] a = refl
  take_all (x ∷ es) a =
      take_while-cons before_it x es ∙ (ap (λ b. cond (not b) (x ∷ take_while before_it es) []) a.0 ∙ ap (λ l. x ∷ l) (take_all es a.1))

  take_to : (es : List Entry) (x : Entry) (rest : List Entry) → NotLater es → is_later (end_c k) x ≡ true → take_while before_it (es ++ (x ∷ rest)) ≡ es
  take_to [] x rest a late = take_while-cons before_it x rest ∙ ap (λ b. cond (not b) (x ∷ take_while before_it rest) []) late
  take_to (y ∷ es) x rest a late =
      take_while-cons before_it y (es ++ (x ∷ rest))
      ∙ (ap (λ b. cond (not b) (y ∷ take_while before_it (es ++ (x ∷ rest))) []) a.0 ∙ ap (λ l. y ∷ l) (take_to es x rest a.1 late))

  far_end : (f : End) → cond (node_of f == 0) (Some f.link) None ≡ None → (not f.at_host && nat_lt k f.link) ≡ false
  far_end f none = grind arith

  none_later : (es : List Entry) → NoneThere es → NotLater es
  none_later [] a = tt
  none_later (x ∷ es) a = (grind arith, none_later es a.1)

  low_later : (es : List Entry) → AllByRecursion (λ l. l ≤ k) (links_of_turns es) → NotLater es
  low_later [] a = tt
  low_later (entry.Turn f pid message ∷ es) a = (grind arith, low_later es a.1)
  low_later (entry.Held f need spare ∷ es) a = (grind arith, low_later es a.1)
  low_later (_ ∷ es) a = (refl, low_later es a)

  above : (f : End) → f.at_host ≡ false → k < f.link → (not f.at_host && nat_lt k f.link) ≡ true
  above f near high = ap (λ b. not b && nat_lt k f.link) near ∙ lt-ltb k f.link high

  head_later : (x : Entry) (es : List Entry) → is_some (link_of_turn x) ≡ true → IsNear x → AllByRecursion (λ l. k < l) (links_of_turns (x ∷ es))
      → is_later (end_c k) x ≡ true
  head_later x es some near a = grind arith

  -- ### Hosts in order

  along_all : (P : ℕ → Type 0) (hs links : List ℕ) → AllByRecursion P hs → AreAlong hs links → AllByRecursion P links
  along_all P hs [] all along = tt
  along_all P [] (link ∷ links) all along = absurd along
  along_all P (h ∷ hs) (link ∷ links) all (inl at) = (subst P (sym at.0) all.0, along_all P (h ∷ hs) links all at.1)
  along_all P (h ∷ hs) (link ∷ links) all (inr later) = along_all P hs (link ∷ links) all.1 later

  lows : (earlier later : List ℕ) → IsAscending (earlier ++ k ∷ later) → AllByRecursion (λ h. h ≤ k) (earlier ++ k ∷ [])
  lows [] later up = (omega arith, tt)
  lows (h ∷ earlier) later up = (mid earlier up.0, lows earlier later up.1) where
    mid : (hs : List ℕ) → AllByRecursion (λ y. h ≤ y) (hs ++ k ∷ later) → h ≤ k
    mid [] a = a.0
    mid (x ∷ hs) a = mid hs a.1

  highs : (earlier later : List ℕ) → IsAscending (earlier ++ k ∷ later) → AllByRecursion (λ j. (j == k) ≡ false) later → AllByRecursion (λ h. k < h) later
  highs [] later up off = both later up.0 off where
    both : (hs : List ℕ) → AllByRecursion (λ y. k ≤ y) hs → AllByRecursion (λ j. (j == k) ≡ false) hs → AllByRecursion (λ h. k < h) hs
    both [] a b = tt
    both (h ∷ hs) a b =
        let apart : h ≡ k → ⊥ = λ q. true≢false (sym (eq-eqb h k q) ∙ b.0) in
        (omega (arith, apart, a.0), both hs a.1 b.1)
  highs (h ∷ earlier) later up off = highs earlier later up.1 off

-- ### A step

module _ (hosts : List ℕ) (are : AreHosts hosts) (up : IsAscending hosts) (past : List Occurrence) (c : Happening) (lead rest : List Entry)
    (input : NodeInput) (w : Work) (runs : Runs 0 w) (none : NoneThere lead) (own : AreNoTurns w.entries) (after : NoneThere rest) (calm : AreCalm rest)
    (ready : (comes_to_pass input w).cut ≡ false → ReadsInStep hosts (entries_in past ++ lead) (comes_to_pass input w)
    × IsCarried (entries_in past ++ lead) Controller (comes_to_pass input w) × BeginsPass (entries_in past ++ lead) (comes_to_pass input w))
    (earlier : List ℕ) (k : ℕ) (later : List ℕ) (at : hosts ≡ earlier ++ k ∷ later) (off : AllByRecursion (λ j. (j == k) ≡ false) later)
    (idle : AreIdle (end_c k) rest) where
  abbrev t : List Entry
  t = entries_in past ++ lead

  abbrev v : Work
  v = comes_to_pass input w

  abbrev last : Work
  last = steps input w

  abbrev seen : List Entry → Occurrence
  seen es = record { cause = c; entries = lead ++ (es ++ rest) }

  abbrev IsShort : List Entry → Type 0
  IsShort es = is_left_short hosts past (seen es) (end_c k) ≡ true

  all_of : (es : List Entry) → through past (seen es) ≡ (t ++ es) ++ rest
  all_of es = sym (append_assoc (entries_in past) lead (es ++ rest)) ∙ sym (append_assoc t es rest)

  early : NoneThere v.entries
  early =
      turnless_there 0 v.entries
      (subst AreNoTurns (sym (before_entries input w)) (all_append IsNoTurn w.entries (noted_before_pass input w) own (before_none input w)))

  ascending : IsAscending (earlier ++ k ∷ later)
  ascending = subst IsAscending at up

  by_left : IsLeft hosts t v earlier k later → IsShort (passes v).entries
  by_left l = by l.lacks where
    P : List Entry
    P = (passes v).entries

    A : List Entry
    A = (v.entries ++ l.front) ++ l.own

    first : NotLater k (lead ++ A)
    first =
        all_append _ lead A (none_later k lead none)
        (all_append _ (v.entries ++ l.front) l.own
        (all_append _ v.entries l.front (none_later k v.entries early)
        (low_later k l.front (along_all k (λ h. h ≤ k) (earlier ++ k ∷ []) (links_of_turns l.front) (lows k earlier later ascending) l.before))) l.mine)

    shape : (back : List Entry) → l.back ≡ back → lead ++ (P ++ rest) ≡ (lead ++ A) ++ (back ++ rest)
    shape back q =
        ap (λ es. lead ++ (es ++ rest)) (l.all ∙ (ap (λ b. (v.entries ++ l.front) ++ (l.own ++ b)) q ∙ sym (append_assoc (v.entries ++ l.front) l.own back)))
        ∙ (ap (λ es. lead ++ es) (append_assoc A back rest) ∙ sym (append_assoc lead A (back ++ rest)))

    told : (es : List Entry) → entries_in past ++ ((lead ++ A) ++ es) ≡ (t ++ (v.entries ++ l.front)) ++ (l.own ++ es)
    told es =
        ap (λ x. entries_in past ++ x) (append_assoc lead A es)
        ∙ (sym (append_assoc (entries_in past) lead (A ++ es))
        ∙ (ap (λ x. t ++ x) (append_assoc (v.entries ++ l.front) l.own es) ∙ sym (append_assoc t (v.entries ++ l.front) (l.own ++ es))))

    by : (unhandled_in (t ++ P) (end_c k) ≡ []) ⊎ LacksBehind hosts (t ++ (v.entries ++ l.front)) l.own k → IsShort P
    by (inl empty) =
        short_none hosts past (seen P) (end_c k)
        (ap (λ x. unhandled_in x (end_c k)) (all_of P) ∙ (idle_left (end_c k) (t ++ P) rest idle ∙ empty))
    by (inr lacks) = by_list l.back
        (λ q. let taken : take_while (before_it k) (lead ++ (P ++ rest)) ≡ (lead ++ A) ++ rest =
        ap (take_while (before_it k)) (shape [] q) ∙ take_all k ((lead ++ A) ++ rest) (all_append _ (lead ++ A) rest first (none_later k rest after)) in
        short_lacks hosts past (seen P) (end_c k)
        (lacks (as_left past (seen P) (end_c k)) rest calm idle (ap (λ x. entries_in past ++ x) taken ∙ told rest)))
        (λ x back q. let links : AllByRecursion (λ n. k < n) (links_of_turns (x ∷ back)) =
        along_all k (λ n. k < n) later (links_of_turns (x ∷ back)) (highs k earlier later ascending off)
        (subst (λ b. AreAlong later (links_of_turns b)) q l.behind) in
        let late : is_later (end_c k) x ≡ true = head_later k x back (subst BeginWithTurn q l.next) (l.near x back q) links in
        let taken : take_while (before_it k) (lead ++ (P ++ rest)) ≡ lead ++ A =
        ap (take_while (before_it k)) (shape (x ∷ back) q) ∙ take_to k (lead ++ A) x (back ++ rest) first late in
        short_lacks hosts past (seen P) (end_c k)
        (lacks (as_left past (seen P) (end_c k)) [] calm_none tt
        (ap (λ y. entries_in past ++ y) (taken ∙ sym (append-nil (lead ++ A))) ∙ told [])))

  gone : HasLost 0 last → runs_in (through past (seen last.entries)) 0 ≡ false
  gone l = by_test (runs_in (through past (seen last.entries)) 0)
      (λ q. let on : runs_in (t ++ last.entries) 0 ≡ true = idle_on k (t ++ last.entries) rest idle (ap (λ x. runs_in x 0) (sym (all_of last.entries)) ∙ q) in
      let lost : runs_in (t ++ last.entries) 0 ≡ false =
      ap (λ x. runs_in x 0) (ap (λ x. t ++ x) l.entries ∙ sym (append_assoc t l.front (entry.Cut 0 ∷ []))) ∙ cut_off 0 (t ++ l.front) in
      absurd (true≢false (sym on ∙ lost)))
      (λ q. q)

  step_short : IsShort last.entries
  step_short = by_fine (steps_fine 0 input w runs) where
    by_begun : (b : Bool) → v.cut ≡ b → last.cut ≡ false → IsShort last.entries
    by_begun true q on =
        let is : last ≡ v = steps_are input w ∙ rw q refl in
        absurd (true≢false (sym (ap (λ (u : Work). u.cut) is ∙ q) ∙ on))
    by_begun false q on =
        let is : last ≡ passes v = steps_are input w ∙ rw q refl in
        let known = ready q in
        subst (λ (u : Work). IsShort u.entries) (sym is)
        (by_left (is_left hosts are t v known.0 known.1 known.2 earlier k later (known.0.runs.keeps.hosts_are ∙ at) off q
        (ap (λ (u : Work). u.cut) (sym is) ∙ on)))

    by_fine : Fine 0 last → IsShort last.entries
    by_fine (inl r) = by_begun v.cut refl r.on
    by_fine (inr l) = short_off hosts past (seen last.entries) (end_c k) (gone l)

-- ## Whether a node runs is read off a history

module _ (n : ℕ) where
  run_one : (s : List Entry) (r : Reckoning) (x : Entry) → r.runs ≡ runs_in s n → (reckoned n r x).runs ≡ runs_in (s ++ x ∷ []) n
  run_one s r (entry.Booted m k) q = by_test (m == n) (λ is. rw is refl) (λ is. rw is q) ∙ sym (fold-append _ false s (entry.Booted m k ∷ []))
  run_one s r (entry.Cut m) q = by_test (m == n) (λ is. rw is refl) (λ is. rw is q) ∙ sym (fold-append _ false s (entry.Cut m ∷ []))
  run_one s r (entry.Command m c) q = by_test (m == n) (λ is. rw is q) (λ is. rw is q) ∙ sym (fold-append _ false s (entry.Command m c ∷ []))
  run_one s r x q = q ∙ sym (fold-append _ false s (x ∷ []))

  run_all : (s es : List Entry) (r : Reckoning) → r.runs ≡ runs_in s n → (fold (reckoned n) r es).runs ≡ runs_in (s ++ es) n
  run_all s [] r q = q ∙ ap (λ l. runs_in l n) (sym (append-nil s))
  run_all s (x ∷ es) r q = run_all (s ++ x ∷ []) es (reckoned n r x) (run_one s r x q) ∙ ap (λ l. runs_in l n) (append_assoc s (x ∷ []) es)

  run_events : (s : List Entry) (events : List Occurrence) (r : Reckoning) → r.runs ≡ runs_in s n
      → (fold (with_event n) r events).runs ≡ runs_in (s ++ entries_in events) n
  run_events s [] r q = q ∙ ap (λ l. runs_in l n) (sym (append-nil s))
  run_events s (o ∷ events) r q =
      run_events (s ++ o.entries) events (with_event n r o) (run_all s o.entries (begun_by n o.cause r) ((grind arith) ∙ q))
      ∙ ap (λ l. runs_in l n) (append_assoc s o.entries (entries_in events))

  -- a node that doesn't run is read so
  pub off_read : (header : Header) (lines : List Line) (t : NodeHistory) → FollowsNodes header lines t → AreHosts header.hosts.items
      → AllByRecursion IsSentByHost lines → IsFew (node_entries t) → IsNodeOf t.header.hosts.items n → (front back : List Occurrence)
      → occurrences_in t ≡ front ++ back → node_at (world_behind (new_world header.hosts.items) front) n ≡ None → runs_in (entries_in front) n ≡ false
  off_read header lines t follows are sent few node front back parts none =
      sym (run_events [] front (reckoning_of false new_book (new_memory (replicate 65536 255))) refl)
      ∙ ((known header lines t follows are sent few n node front back parts).stands.runs_is ∙ ap is_some none)

-- ## At the end of each event in which the controller made a step and runs on, the first message that is left at an end of it lacked room

-- ### Entries that change nothing

frames_unheard : (h : ℕ) (notes : List Noted) → AllByRecursion IsFrame notes → AllByRecursion IsUnheard (entries_for h notes)
frames_unheard h [] all = tt
frames_unheard h (Emit who frame ∷ notes) all = (tt, frames_unheard h notes all.1)
frames_unheard h (Took who frame ∷ notes) all = (tt, frames_unheard h notes all.1)
frames_unheard h (Lost who frame why ∷ notes) all = (tt, frames_unheard h notes all.1)
frames_unheard h (Cut who ∷ notes) all = frames_unheard h notes all.1
frames_unheard h (_ ∷ notes) all = absurd all.0

out_unheard : (who : Side) (h : ℕ) (l : Link) (v : Work) → AllByRecursion IsUnheard (frames_noted who h l v)
out_unheard who h l v = by_option (port_at v.ports h)
    (λ q. rw q tt)
    (λ p q. rw q (frames_unheard h (ending_entries who l p.side (ending_of v))
    (ending_all IsFrame (λ w c. tt) (λ w c. tt) (λ w. tt) who l p.side (ending_of v))))

frames_calm : (f : Site → Link) (v : Work) (sites : List Site) → AreCalm (flat_map (λ (s : Site). frames_noted Controller s.host (f s) v) sites)
frames_calm f v sites = record {
  far = far_flat (λ (s : Site). frames_noted Controller s.host (f s) v) (λ s. frames_quiet Controller s.host (f s) v) sites;
  unheard = all_flat IsUnheard (λ (s : Site). frames_noted Controller s.host (f s) v) (λ s. out_unheard Controller s.host (f s) v) sites;
  leave = λ k.
      still_leaves (end_c k) (flat_map (λ (s : Site). frames_noted Controller s.host (f s) v) sites)
      (all_flat (IsStill (end_c k)) (λ (s : Site). frames_noted Controller s.host (f s) v) (λ s. frames_still (end_c k) Controller s.host (f s) v) sites);
}

far_side : (f : End) → (node_of f == 0) ≡ false → f.at_host ≡ true
far_side f off = grind arith

others_unheard : (es : List Entry) → AreNotOf 0 es → AllByRecursion IsUnheard es
others_unheard [] a = tt
others_unheard (x ∷ es) a = (grind arith, others_unheard es a.1)

-- what a host notes as something comes to its end leaves REC_ERROR of the controller's ends
coming_leaves : (w : NodeWorld) (a : IsOrderly w) (h : ℕ) (comes : Comes) (k : ℕ) → AllByRecursion (Leaves (end_c k)) (comes_at w (end_h h) comes).1
coming_leaves w a h comes k =
    by_coming (λ p. AllByRecursion (Leaves (end_c k)) p.1) w (end_h h) comes tt
    (λ i z seen. by_host (λ p. AllByRecursion (Leaves (end_c k)) p.1) w h comes (steps (AtEnd h i)) tt
    (λ s r found q.
    let v : Work = host_work s r comes (steps (AtEnd h i)) in
    let es : List Entry = entries_for s.host (arrival Host (exchanged s.link) comes) in
    let frames : List Entry = frames_noted Host h (wires_for (exchanged s.link) comes) v in
    all_append (Leaves (end_c k)) v.entries frames
    (others_step (end_c k) s.host Host (s.host ∷ []) r s.memory.plan (λ n. near_end_in (exchanged s.link) comes) es (AtEnd h i)
    (far_node w h s r a found q) (ap (λ b. cond b Controller Host) (far_number w h s a found)) (not_near (end_of s.host Host) k refl, tt)
    (still_leaves (end_c k) es (arrival_still (end_c k) Host s.host (exchanged s.link) comes)))
    (still_leaves (end_c k) frames (frames_still (end_c k) Host h (wires_for (exchanged s.link) comes) v))))
    (λ i z seen. let no : true ≡ false = z in absurd (true≢false no))

-- ### Events

module _ (header : Header) (lines : List Line) (t : NodeHistory) (follows : FollowsNodes header lines t) (are : AreHosts header.hosts.items)
    (seven : length header.hosts.items ≤ 7) (sent : AllByRecursion IsSentByHost lines) (few : IsFew (node_entries t)) (playable : ArePlayable lines)
    (up : IsAscending header.hosts.items) (past back : List Occurrence) (parts : occurrences_in t ≡ past ++ back) (asked : commands_by_events past ≤ 4000000000)
    (earlier : List ℕ) (k : ℕ) (later : List ℕ) (at : header.hosts.items ≡ earlier ++ k ∷ later) (off : AllByRecursion (λ j. (j == k) ≡ false) later) where
  abbrev hosts : List ℕ
  hosts = header.hosts.items

  abbrev w : NodeWorld
  w = world_behind (new_world header.hosts.items) past

  so : IsSo hosts past w
  so = history_so header lines t follows are playable past back parts

  abbrev a : IsOrderly w
  a = so.well.orderly

  keeps : KeepsBetween hosts (entries_in past) w
  keeps = history_keeps_between header lines t follows are sent few past back parts

  reads : Reads (entries_in past) w
  reads = record { sites = keeps.creations.notices.sites; reads_so = keeps.creations.notices.controller }

  abbrev Short : Happening → List Entry → Type 0
  Short c es = is_left_short hosts past (record { cause = c; entries = es }) (end_c k) ≡ true

  -- the controller doesn't run, and nothing is noted of it
  stands_off : (c : Happening) (es : List Entry) → w.controller ≡ None → AreIdle (end_c k) es → Short c es
  stands_off c es none idle = short_off hosts past (record { cause = c; entries = es }) (end_c k) (by (runs_in (entries_in past ++ es) 0) refl) where
    by : (b : Bool) → runs_in (entries_in past ++ es) 0 ≡ b → runs_in (entries_in past ++ es) 0 ≡ false
    by false q = q
    by true q =
        absurd (true≢false (sym (idle_on k (entries_in past) es idle q) ∙ off_read 0 header lines t follows are sent few refl past back parts none))

  -- something comes to an end of it, and behind it other nodes go on
  near_short : (c : Happening) (h : ℕ) (comes : Comes) (i : LinkInput) → input_of (link_to w.sites h) comes ≡ Some i → (rest : List Entry)
      → AreNotOf 0 rest → AreCalm rest → Short c ((controller_does w h comes (steps (AtEnd h i))).1 ++ rest)
  near_short c h comes i input rest other calm = by_option w.controller
      (λ q. rw q (stands_off c rest q (others_idle (end_c k) rest other)))
      (λ r q. let l : Link = link_to w.sites h in
      let begun : Work = controller_begins w r h comes in
      let v : Work = steps (AtEnd h i) begun in
      let wires : Site → Link = λ s. wires_for s.link (comes_to h comes s.host) in
      let frames : List Entry = flat_map (λ (s : Site). frames_noted Controller s.host (wires s) v) w.sites in
      let has : HasEnds 0 _ r = near_node w r a q in
      let P : List Entry → Type 0 = λ u. ReadsInStep hosts u (comes_to_pass (AtEnd h i) begun) × IsCarried u Controller (comes_to_pass (AtEnd h i) begun)
      × BeginsPass u (comes_to_pass (AtEnd h i) begun) in
      rw q
      (subst (Short c) (sym (append_assoc v.entries frames rest))
      (step_short hosts are up past c [] (frames ++ rest) (AtEnd h i) begun
      (near_runs r w.memory.plan (λ j. near_end_in (link_to w.sites j) (comes_to h comes j)) (entries_for h (arrival Controller l comes)) has.number
      (links_own 0 h Controller refl (arrival Controller l comes) (arrival_of_side Controller l comes)) (entries_uncut h (arrival Controller l comes)))
      tt (links_none h (arrival Controller l comes))
      (all_append _ frames rest (frames_none wires v w.sites) (other_turns 0 rest other))
      (calm_both frames rest (frames_calm wires v w.sites) calm)
      (λ on.
      let known = comes_known header lines t follows are playable sent few past back parts w refl r q h comes i input on in
      let begins = comes_begins header lines t follows are seven sent few past back parts asked playable w refl r q h comes i input in
      subst P (sym (append-nil (entries_in past))) (known.0, known.1, begins))
      earlier k later at off
      (all_append _ frames rest
      (flat_idle (end_c k) (λ (s : Site). frames_noted Controller s.host (wires s) v) (λ s. frames_idle (end_c k) Controller s.host (wires s) v) w.sites)
      (others_idle (end_c k) rest other)))))

  coming_is : (e : End) (comes : Comes) (i : LinkInput) → e.at_host ≡ false → input_of (link_to w.sites e.link) comes ≡ Some i
      → comes_at w e comes ≡ controller_does w e.link comes (steps (AtEnd e.link i))
  coming_is e comes i near input = grind arith

  coming_short : (c : Happening) (e : End) (comes : Comes) (i : LinkInput) → e.at_host ≡ false → input_of (link_to w.sites e.link) comes ≡ Some i
      → Short c (comes_at w e comes).1
  coming_short c e comes i near input =
      subst (λ (p : NodeWorld × List Entry). Short c p.1) (sym (coming_is e comes i near input))
      (subst (Short c) (append-nil (controller_does w e.link comes (steps (AtEnd e.link i))).1)
      (near_short c e.link comes i input [] tt (record { far = tt; unheard = tt; leave = λ j. tt })))

  still : (c : Happening) (es : List Entry) → makes_step 0 c ≡ false → Short c es
  still c es q = short_still hosts past (record { cause = c; entries = es }) (end_c k) q

  takes_short : (e : End) → MayStep w (Takes e) → Short (Takes e) (world_step w (Takes e)).1
  takes_short e may = by_test e.at_host
      (λ q. still (Takes e) (world_step w (Takes e)).1 (grind arith))
      (λ q. by_wire q (link_to w.sites e.link).to_controller refl) where
        by_wire : e.at_host ≡ false → (xs : List _) → (link_to w.sites e.link).to_controller ≡ xs → Short (Takes e) (comes_at w e NextFrame).1
        by_wire near [] q =
            by_option w.controller
            (λ z. subst (λ (p : NodeWorld × List Entry). Short (Takes e) p.1) (sym none_is) (stands_off (Takes e) [] z tt))
            (λ r z. absurd (may.1 near (ap is_some z) (rw near q))) where
              none_is : comes_at w e NextFrame ≡ (w, [])
              none_is = let no : input_of (seen_from e (link_to w.sites e.link)) NextFrame ≡ None = rw near (rw q refl) in rw no refl
        by_wire near (x ∷ xs) q = let input : input_of (link_to w.sites e.link) NextFrame ≡ Some (Take x.frame) = rw q refl in
            coming_short (Takes e) e NextFrame (Take x.frame) near input

  resets_short : (e : End) (window : _) → MayStep w (Resets e window) → Short (Resets e window) (world_step w (Resets e window)).1
  resets_short e window may = by_test e.at_host
      (λ q. still (Resets e window) (world_step w (Resets e window)).1 (grind arith))
      (λ q. coming_short (Resets e window) e (AsksReset window) (Reset window) q refl)

  activates_short : (h sync power : ℕ) → Short (Activates h sync power) (world_step w (Activates h sync power)).1
  activates_short h sync power =
      let near : NodeWorld × List Entry = comes_at w (end_c h) (Starts power) in
      let far : NodeWorld × List Entry = comes_at near.0 (end_h h) (Starts sync) in
      let b : IsOrderly near.0 = (comes_goes w (end_c h) (Starts power) a).orderly in
      let good : AreGood near.0.sites =
      (comes_reads (entries_in past) w keeps.creations.notices.orderly keeps.creations.notices.up reads (end_c h) (Starts power)).sites in
      let other : AreNotOf 0 far.1 = far_not near.0 (end_h h) (Starts sync) b refl in
      subst (λ (p : NodeWorld × List Entry). Short (Activates h sync power) (p.1 ++ far.1)) (sym (coming_is (end_c h) (Starts power) (Start power) refl refl))
      (near_short (Activates h sync power) h (Starts power) (Start power) refl far.1 other (record {
        far = (far_beside near.0 (end_h h) (Starts sync) good refl).far;
        unheard = others_unheard far.1 other;
        leave = λ j. coming_leaves near.0 b h (Starts sync) j;
      }))

  ticks_short : Short Ticks (world_step w Ticks).1
  ticks_short = by_option w.controller
      (λ q. subst (λ es. Short Ticks ((all_aged w).1 ++ (es ++ far))) (sym (off_of old q))
      (stands_off Ticks ((all_aged w).1 ++ far) q
      (all_append _ (all_aged w).1 far (aged_idle (end_c k) w) (others_idle (end_c k) far others))))
      (λ r q. let v : Work = near_tick old r in
      let frames : List Entry = flat_map (λ (s : Site). frames_noted Controller s.host s.link v) old.sites in
      let has : HasEnds 0 _ r = near_node w r a q in
      subst (λ es. Short Ticks ((all_aged w).1 ++ (es ++ far))) (sym (rw q refl))
      (subst (λ es. Short Ticks ((all_aged w).1 ++ es)) (sym (append_assoc v.entries frames far))
      (step_short hosts are up past Ticks (all_aged w).1 (frames ++ far) TimePasses (as_it_ticks w r)
      (near_runs r w.memory.plan (λ h. (link_to old.sites h).controller) [] has.number tt tt) (turnless_there 0 (all_aged w).1 (aged_turnless w.sites)) tt
      (all_append _ frames far (frames_none (λ s. s.link) v old.sites) (other_turns 0 far others))
      (calm_both frames far (frames_calm (λ s. s.link) v old.sites) calm)
      (λ on.
      let known = tick_known header lines t follows are playable sent few past back parts w refl r q on in
      (known.0, known.1, (tick_begins header lines t follows are seven sent few past back parts asked playable w refl r q)))
      earlier k later at off
      (all_append _ frames far
      (flat_idle (end_c k) (λ (s : Site). frames_noted Controller s.host s.link v) (λ s. frames_idle (end_c k) Controller s.host s.link v) old.sites)
      (others_idle (end_c k) far others))))) where
        old : NodeWorld
        old = (all_aged w).0

        near : NodeWorld × List Entry
        near = controller_ticks old

        far : List Entry
        far = (hosts_tick near.0.sites).1

        others : AreNotOf 0 far
        others = ticked_others w a

        calm : AreCalm far
        calm = record {
          far = (all_tick near.0.sites (near_good old (aged_good w keeps.creations.notices.sites))).1;
          unheard = others_unheard far others;
          leave = λ j. ticks_leave (end_c j) (λ (q : false ≡ true). absurd (true≢false (sym q))) near.0.sites
              (orderly_fine (record { memory = old.memory; controller = None; sites = near.0.sites }) (ticked_orderly w a))
              (λ (q : false ≡ true). absurd (true≢false (sym q)));
        }

        off_of : (v : NodeWorld) → v.controller ≡ None → (controller_ticks v).1 ≡ []
        off_of v q = rw q refl

  event_short : (c : Happening) → MayStep w c → Short c (world_step w c).1
  event_short (Boots n) may = still (Boots n) (world_step w (Boots n)).1 refl
  event_short (IsCut n) may = still (IsCut n) (world_step w (IsCut n)).1 refl
  event_short (Gives e m) may = still (Gives e m) (world_step w (Gives e m)).1 refl
  event_short (Inits e identity pipes) may = still (Inits e identity pipes) (world_step w (Inits e identity pipes)).1 refl
  event_short (Takes e) may = takes_short e may
  event_short (Loses e why) may = still (Loses e why) (world_step w (Loses e why)).1 refl
  event_short Ticks may = ticks_short
  event_short (Resets e window) may = resets_short e window may
  event_short (Activates h sync power) may = activates_short h sync power
  event_short (Arms n plan) may = still (Arms n plan) (world_step w (Arms n plan)).1 refl

-- ### Histories

-- At each end of the controller the first message that is left lacks room, as the controller leaves that end.
abbrev pub AreLeftShortNear : List ℕ → List Occurrence → Occurrence → Type 0
AreLeftShortNear hosts past o = AllByRecursion (λ h. is_left_short hosts past o (end_c h) ≡ true) hosts

pub each_steps : (May : NodeWorld → Happening → Type 0) (past back : List Occurrence) (o : Occurrence) (w : NodeWorld)
    → AreCaused May w (past ++ (o ∷ back)) → (o.entries ≡ (world_step (world_behind w past) o.cause).1) × May (world_behind w past) o.cause
each_steps May [] back o w caused = (caused.0, caused.1)
each_steps May (x ∷ past) back o w caused = each_steps May past back o (world_step w x.cause).0 caused.2

module _ (header : Header) (lines : List Line) (t : NodeHistory) (follows : FollowsNodes header lines t) (nodes : IsNodeHeader header)
    (are : AreHosts header.hosts.items) (in_range : AreNodeLinesOf header lines) (seven : length header.hosts.items ≤ 7)
    (sent : AllByRecursion IsSentByHost lines) (few : IsFew (node_entries t)) (playable : ArePlayable lines) (up : IsAscending header.hosts.items)
    (asked : (front back : List Occurrence) → occurrences_in t ≡ front ++ back → commands_by_events front ≤ 4000000000) where
  pub near_left_short : AtEachOccurrence t (AreLeftShortNear t.header.hosts.items)
  near_left_short past back o parts =
      subst (λ (h : Header). AreLeftShortNear h.hosts.items past o) (sym follows.header_is) (each [] header.hosts.items refl are.different) where
        w : NodeWorld
        w = world_behind (new_world header.hosts.items) past

        caused : AreCaused MayStep (new_world header.hosts.items) (past ++ (o ∷ back))
        caused =
            subst (AreCaused MayStep (new_world header.hosts.items)) (sym (ap events_of_steps follows.steps_are) ∙ parts)
            (lines_caused MayStep _ (line_steps header nodes) lines (new_world header.hosts.items) in_range)

        may : (o.entries ≡ (world_step w o.cause).1) × MayStep w o.cause
        may = each_steps MayStep past back o (new_world header.hosts.items) caused

        one : (earlier : List ℕ) (k : ℕ) (later : List ℕ) → header.hosts.items ≡ earlier ++ k ∷ later → AllByRecursion (λ j. (j == k) ≡ false) later
            → is_left_short header.hosts.items past o (end_c k) ≡ true
        one earlier k later at off =
            subst (λ es. is_left_short header.hosts.items past (record { cause = o.cause; entries = es }) (end_c k) ≡ true) (sym may.0)
            (event_short header lines t follows are seven sent few playable up past (o ∷ back) parts (asked past (o ∷ back) parts) earlier k later at off
            o.cause may.1)

        each : (earlier hs : List ℕ) → header.hosts.items ≡ earlier ++ hs → AreDifferent hs
            → AllByRecursion (λ h. is_left_short header.hosts.items past o (end_c h) ≡ true) hs
        each earlier [] at d = tt
        each earlier (h ∷ hs) at d = (
          one earlier h hs at d.0,
          each (earlier ++ h ∷ []) hs (at ∙ sym (append_assoc earlier (h ∷ []) hs)) d.1,
        )
