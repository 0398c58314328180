-- What came at an end and had no turn, over the deeds of a node, over its pass and its step.
use Rattle.node_laws.proofs.Words.{Acked, ActStart, ActStop, Active, AllByRecursion, AreDifferent, AsksReset, AtEnd, Bool, Comes, Controller, Core, Cut, CutOff}
use Rattle.node_laws.proofs.Words.{Deed, Desk, Down, End, Ending, Entry, FetchMessage, GaveUp, GoesOut, Got, Host, IsComing, IsOutside, Link, LinkEnd}
use Rattle.node_laws.proofs.Words.{LinkInput, List, Message, NextFrame, NoInput, NodeInput, None, Noted, Option, Port, Refused, Report, Reset, Restarted, Some}
use Rattle.node_laws.proofs.Words.{Start, Starts, Stop, Stops, Take, Tick, Ticked, TimePasses, Turn, Work, Write, [], activated_got, after_input}
use Rattle.node_laws.proofs.Words.{after_sessions, after_turn, all_come, all_done, all_owed, and-false, and_parts, answers_and_passes, ap, append-nil}
use Rattle.node_laws.proofs.Words.{append_assoc, arith, begins_with, by_cut, by_list, by_option, by_test, changed_if, deactivated, deeds_of, drop, end_of}
use Rattle.node_laws.proofs.Words.{end_of_node, ended_by, entries_for, entry_of, eqb-true, false, filter_map, filter_map-append, finished, flat_map}
use Rattle.node_laws.proofs.Words.{flat_map-append, forgets, forgotten, got_entry, handles, has_come, has_input, have_turns, hosts_of_ends, if_so}
use Rattle.node_laws.proofs.Words.{if◌then◌else◌, input_at, input_of, is_late, is_some, is_waiting, lack, loses_power, map, moved, moved_got, nat_lt, needs}
use Rattle.node_laws.proofs.Words.{node_number, not, noted_of, noting, option_map_or, option_to_list, own_side, port_at, refl, report, reset_got, reset_late}
use Rattle.node_laws.proofs.Words.{same_end, sent_unless, silent, since_boot, started, steps, steps_at_controller, stopped, subst, sym, synced, ticked_so}
use Rattle.node_laws.proofs.Words.{ticks_at_controller, times_out, told, told_at, told_late, true, true≢false, turn, turn_at, turn_entry_at, turned, unless_cut}
use Rattle.node_laws.proofs.Words.{whole_acked, with_desk, with_ended, with_older, without_notice, ℕ, ◌&&◌, ◌++◌, ◌==◌, ◌∙◌, ◌∷◌, ◌≡◌}
use Rattle.link_laws.proofs.machine.Reports.{took_got}
use Rattle.link_laws.specs.entries.Entries.{End as Side}
use Rattle.link_laws.specs.entries.Entries.Entry.{Up}
use Rattle.link_laws.specs.machine.Machine.{got_by}
use Rattle.node_laws.proofs.steps.StepWalks.{changed_host, come_host, forgets_host, late_host, rest as rest_of, unless, without_host}
use Rattle.node_laws.proofs.telling.Accounts.{AreMute, ArePlain, IsMute, IsNoFetch, all_owed_mute, all_synced_mute, at_host, deeds_mute, every_do}
use Rattle.node_laws.proofs.telling.Accounts.{forgotten_mute, holds, lets}
use Rattle.node_laws.proofs.telling.Steps.{IsStep, after_coming, at_map, forgets_same, none_map, sessions_side, without_same}
use Rattle.node_laws.proofs.telling.Ticks.{reset_turns}
use Rattle.trace_model.specs.declared.entry.Entry.TheVariants as entry

-- ## The messages that came at an end of a link and weren't fetched, over all that happens there

-- ### Turns

-- a turn fetches the first of them, or leaves them all
abbrev pub kept_by : Turn → List Message → List Message
kept_by FetchMessage ms = drop 1 ms
kept_by _ ms = ms

-- what is left of them after these turns
abbrev pub left_by : List Turn → List Message → List Message
left_by [] ms = ms
left_by (t ∷ ts) ms = left_by ts (kept_by t ms)

left-append : (ts : List Turn) (t : Turn) (ms : List Message) → left_by (ts ++ t ∷ []) ms ≡ kept_by t (left_by ts ms)
left-append [] t ms = refl
left-append (x ∷ ts) t ms = left-append ts t (kept_by x ms)

turn_got : (e : LinkEnd) (t : Turn) → (turn e t).got ≡ kept_by t e.got
turn_got e t = grind arith

turned_got : (e : LinkEnd) (ts : List Turn) → (turned e ts).got ≡ left_by ts e.got
turned_got e [] = refl
turned_got e (t ∷ ts) = turned_got (turn e t) ts ∙ ap (left_by ts) (turn_got e t)

-- ### Inputs

more : (e f : LinkEnd) → f.got ≡ e.got → f.got ≡ e.got ++ []
more e f q = q ∙ sym (append-nil e.got)

pub tick_got : (e : LinkEnd) → (after_input e Tick).got ≡ e.got
tick_got e = grind arith

-- what comes brings messages behind those that wait
pub input_got : (e : LinkEnd) (i : LinkInput) → IsComing i → (after_input e i).got ≡ e.got ++ got_by e i
input_got e (Take c) a = took_got e c
input_got e Tick a = more e (after_input e Tick) (tick_got e)
input_got e (Reset window) a = more e (after_input e (Reset window)) (reset_got e window)
input_got e (Start value) a =
    more e (started e value) (activated_got (moved e true (stopped e.shdlc)) (ActStart value) ∙ moved_got e true (stopped e.shdlc))
input_got e Stop a = more e (deactivated e) (activated_got (moved e true (stopped e.shdlc)) ActStop ∙ moved_got e true (stopped e.shdlc))
input_got e _ a = absurd a

-- ### Steps

-- as a step ends: where the node loses its power, its end is new
abbrev pub ended_with : Ending → List Message → List Message
ended_with GoesOut ms = ms
ended_with CutOff ms = []

all_got : (l : Link) (e : LinkEnd) (ts : List Turn) (ending : Ending)
    → (finished l (turned e ts) ending).controller.side.got ≡ ended_with ending (left_by ts e.got)
all_got l e ts ending = (grind arith) ∙ ap (ended_with ending) (turned_got e ts)

pub step_got : (l : Link) (comes : Comes) (o : Option LinkInput) (ts : List Turn) (ending : Ending) → input_of l comes ≡ o → IsStep comes o
    → (steps_at_controller l comes ts ending).controller.side.got ≡ ended_with ending (left_by ts (after_coming l.controller.side o).got)
step_got l NextFrame (Some i) ts ending q s = by_list l.to_controller
    (λ z. let none : None ≡ Some i = rw z at q in absurd (cc none))
    (λ x xs z. let one : Some (Take x.frame) ≡ Some i = rw z at q in
    let is : Take x.frame ≡ i = cc in
    rw z (all_got _ (after_input l.controller.side (Take x.frame)) ts ending
    ∙ ap (λ j. ended_with ending (left_by ts (after_input l.controller.side j).got)) is))
step_got l (AsksReset window) (Some i) ts ending q s =
    let is : Reset window ≡ i = cc in
    all_got (with_ended l (is_some (ended_by l.controller.side (Reset window)))) (after_input l.controller.side (Reset window)) ts ending
    ∙ ap (λ j. ended_with ending (left_by ts (after_input l.controller.side j).got)) is
step_got l (Starts value) (Some i) ts ending q s =
    let is : Start value ≡ i = cc in
    all_got (silent l (after_input l.controller.side (Start value))) (after_input l.controller.side (Start value)) ts ending
    ∙ ap (λ j. ended_with ending (left_by ts (after_input l.controller.side j).got)) is
step_got l Stops (Some i) ts ending q s =
    let is : Stop ≡ i = cc in
    all_got (silent l (after_input l.controller.side Stop)) (after_input l.controller.side Stop) ts ending
    ∙ ap (λ j. ended_with ending (left_by ts (after_input l.controller.side j).got)) is
step_got l NoInput None ts ending q s = all_got l l.controller.side ts ending
step_got l _ None ts ending q s = absurd s
step_got l NoInput (Some i) ts ending q s = absurd (cc q)

input_had : (l : Link) (i : LinkInput) (ts : List Turn) (ending : Ending)
    → (has_input l i ts ending).controller.side.got ≡ ended_with ending (left_by ts (after_input l.controller.side i).got)
input_had l i ts ending = all_got (with_ended l (is_some (ended_by l.controller.side i))) (after_input l.controller.side i) ts ending

pub ticks_got : (l : Link) (ts : List Turn) (ending : Ending)
    → (ticks_at_controller l ts ending).controller.side.got ≡ ended_with ending (left_by ts l.controller.side.got)
ticks_got l ts ending = input_had l Tick ts ending ∙ ap (λ ms. ended_with ending (left_by ts ms)) (tick_got l.controller.side)

pub late_got : (l : Link) (late : Bool) (ts : List Turn) (ending : Ending)
    → (ticked_so l late ts ending).controller.side.got ≡ ended_with ending (left_by ts l.controller.side.got)
late_got l late ts ending = by_test (late && not (is_waiting l.controller.side.shdlc))
    (λ q. rw q (input_had l (Reset None) ts ending ∙ ap (λ ms. ended_with ending (left_by ts ms)) (reset_got l.controller.side None)))
    (λ q. rw q (ticks_got l ts ending))

-- ## The messages that came at an end and had no turn, as they are read off entries

-- what an entry does to the messages that wait at an end
pub data Doing : Type 0 where
  Nothing : Doing
  Adds : Message → Doing
  Takes : Message → Doing
  Clears : Doing

abbrev pub doing : End → Entry → Doing
doing e (entry.Got f n pid message) = if same_end f e then Adds (pid, message) else Nothing
doing e (entry.Turn f pid message) = if same_end f e then Takes (pid, message) else Nothing
doing e (entry.Booted node k) = if node == node_number e then Clears else Nothing
doing e _ = Nothing

-- these messages become those
abbrev pub Becomes : Doing → List Message → List Message → Type 0
Becomes Nothing q r = q ≡ r
Becomes (Adds m) q r = q ++ m ∷ [] ≡ r
Becomes (Takes m) q r = q ≡ m ∷ r
Becomes Clears q r = [] ≡ r

-- so they do over all these entries, each message that has its turn being the first of them
abbrev pub Goes : End → List Message → List Entry → List Message → Type 0
Goes e q [] r = q ≡ r
Goes e q (x ∷ t) r = (p : List Message) × (Becomes (doing e x) q p × Goes e p t r)

pub goes-append : (e : End) (s t : List Entry) (q r u : List Message) → Goes e q s r → Goes e r t u → Goes e q (s ++ t) u
goes-append e [] t q r u a b = subst (λ z. Goes e z t u) (sym a) b
goes-append e (x ∷ s) t q r u a b = (a.0, (a.1.0, goes-append e s t a.0 r u a.1.1 b))

-- and over their front
pub record Front (e : End) (q : List Message) (s : List Entry) : Type 0 where
  pub left : List Message
  pub goes : Goes e q s left

pub front_goes : (e : End) (s t : List Entry) (q u : List Message) → Goes e q (s ++ t) u → Front e q s
front_goes e [] t q u a = record { left = q; goes = refl }
front_goes e (x ∷ s) t q u a =
    let later : Front e a.0 s = front_goes e s t a.0 u a.1.1 in
    record { left = later.left; goes = (a.0, (a.1.0, later.goes)) }

-- ### Entries that do nothing to them

abbrev pub AreStill : End → List Entry → Type 0
AreStill e t = AllByRecursion (λ (x : Entry). doing e x ≡ Nothing) t

pub still_goes : (e : End) (t : List Entry) (q : List Message) → AreStill e t → Goes e q t q
still_goes e [] q a = refl
still_goes e (x ∷ t) q a = (q, (subst (λ d. Becomes d q q) (sym a.0) refl, still_goes e t q a.1))

pub all_still : (e : End) (t : List Entry) → ArePlain t → AreStill e t
all_still e [] a = tt
all_still e (x ∷ t) a = (grind arith, all_still e t a.1)

-- ### Messages that came, and those that had their turns

module _ (e : End) where
  abbrev gots : List Entry → List Message
  gots t = filter_map (got_entry e) t

  abbrev turns_of_queues : List Entry → List Message
  turns_of_queues t = filter_map (turn_entry_at e) t

  -- all that came since the last boot is what had its turn and then what waits
  abbrev IsLeft : List Entry → List Message → Type 0
  IsLeft since q = turns_of_queues since ++ q ≡ gots since

  more_of_queues : (since : List Entry) (x : Entry) (p q : List Message) → IsLeft since p → turns_of_queues (x ∷ []) ++ q ≡ p ++ gots (x ∷ [])
      → IsLeft (since ++ x ∷ []) q
  more_of_queues since x p q a b =
      ap (λ z. z ++ q) (filter_map-append (turn_entry_at e) since (x ∷ []))
      ∙ (append_assoc (turns_of_queues since) (turns_of_queues (x ∷ [])) q
      ∙ (ap (λ z. turns_of_queues since ++ z) b
      ∙ (sym (append_assoc (turns_of_queues since) p (gots (x ∷ [])))
      ∙ (ap (λ z. z ++ gots (x ∷ [])) a ∙ sym (filter_map-append (got_entry e) since (x ∷ []))))))

  same : (since : List Entry) (x : Entry) (p q : List Message) → turns_of_queues (x ∷ []) ≡ [] → gots (x ∷ []) ≡ [] → p ≡ q → IsLeft since p
      → IsLeft (since ++ x ∷ []) q
  same since x p q t g is a = more_of_queues since x p q a (ap (λ z. z ++ q) t ∙ (sym is ∙ (sym (append-nil p) ∙ ap (λ z. p ++ z) (sym g))))

  abbrev n : ℕ
  n = node_number e

  pub all_left : (t since : List Entry) (p q : List Message) → IsLeft since p → Goes e p t q → IsLeft (since_boot n since t) q
  all_left [] since p q a g = subst (IsLeft since) g a
  all_left (entry.Got f k pid m ∷ t) since p q a g = by_test (same_end f e)
      (λ z. let one : p ++ (pid, m) ∷ [] ≡ g.0 = rw z at g.1.0 in
      all_left t (since ++ entry.Got f k pid m ∷ []) g.0 q (more_of_queues since (entry.Got f k pid m) p g.0 a (rw z (sym one))) g.1.1)
      (λ z. let one : p ≡ g.0 = rw z at g.1.0 in all_left t (since ++ entry.Got f k pid m ∷ []) g.0 q
      (same since (entry.Got f k pid m) p g.0 refl (rw z refl) one a) g.1.1)
  all_left (entry.Turn f pid m ∷ t) since p q a g = by_test (same_end f e)
      (λ z. let one : p ≡ (pid, m) ∷ g.0 = rw z at g.1.0 in
      all_left t (since ++ entry.Turn f pid m ∷ []) g.0 q (more_of_queues since (entry.Turn f pid m) p g.0 a (rw z (sym one ∙ sym (append-nil p)))) g.1.1)
      (λ z. let one : p ≡ g.0 = rw z at g.1.0 in all_left t (since ++ entry.Turn f pid m ∷ []) g.0 q
      (same since (entry.Turn f pid m) p g.0 (rw z refl) refl one a) g.1.1)
  all_left (entry.Booted node k ∷ t) since p q a g = by_test (node == n)
      (λ z. let one : [] ≡ g.0 = rw z at g.1.0 in rw z (all_left t [] g.0 q (sym one) g.1.1))
      (λ z. let one : p ≡ g.0 = rw z at g.1.0 in rw z (all_left t (since ++ entry.Booted node k ∷ []) g.0 q
      (same since (entry.Booted node k) p g.0 refl refl one a) g.1.1))
  all_left (x ∷ t) since p q a g = all_left t (since ++ x ∷ []) g.0 q (same since x p g.0 refl refl g.1.0 a) g.1.1

-- ## What waits at an end over the deeds of a node and over its pass through its ends

-- ### Ends

-- the end is on this side of its link
abbrev pub has_side : Side → End → Bool
has_side Controller e = not e.at_host
has_side Host e = e.at_host

pub same_is : (who : Side) (k : ℕ) (e : End) → same_end (end_of k who) e ≡ ((k == e.link) && has_side who e)
same_is who k e = grind arith

pub map_is : (f : Port → Port) → ((p : Port) → (f p).desk.host ≡ p.desk.host) → (ports : List Port) (h : ℕ) (P : Option Port → Type 0)
    → (port_at ports h ≡ None → P None) → ((p : Port) → port_at ports h ≡ Some p → P (Some (f p))) → P (port_at (map f ports) h)
map_is f keeps ports h P none some = by_option (port_at ports h)
    (λ q. subst P (sym (none_map f keeps ports h q)) (none q))
    (λ p q. subst P (sym (at_map f keeps ports h p q)) (some p q))

-- ### What is known

-- What waits at an end is ms: this is what its node's turns left of the messages there. Where the node doesn't have the end, ms are
-- those of the beginning.
abbrev pub Knows : End → Side → List Message → List Message → Bool → List Message → Option Port → Type 0
Knows e who begin came true ms None = Unit {0}
Knows e who begin came true ms (Some p) = (left_by p.turns came ≡ p.side.got) × (p.side.got ≡ ms)
Knows e who begin came false ms None = ms ≡ begin
Knows e who begin came false ms (Some p) = (ms ≡ begin) × (has_side who e ≡ false)

module _ (e : End) (who : Side) (own : Bool) (mine : own ≡ true → has_side who e ≡ true) (begin came : List Message) where
  abbrev pub Known : List Message → Option Port → Type 0
  Known ms o = Knows e who begin came own ms o

  -- what waits in a step of a node
  pub record At (ms : List Message) (w : Work) : Type 0 where
    pub side : own_side w.core ≡ who
    pub port : Known ms (port_at w.ports e.link)
    pub goes : Goes e begin w.entries ms

  -- ### Ends that change

  known_some : (b : Bool) (ms : List Message) (p q : Port) → q.turns ≡ p.turns → q.side.got ≡ p.side.got
      → Knows e who begin came b ms (Some p) → Knows e who begin came b ms (Some q)
  known_some b ms p q turns got k = grind arith

  pub known_map : (f : Port → Port) → ((p : Port) → (f p).desk.host ≡ p.desk.host) → ((p : Port) → (f p).turns ≡ p.turns)
      → ((p : Port) → (f p).side.got ≡ p.side.got) → (ms : List Message) (ports : List Port) → Known ms (port_at ports e.link)
      → Known ms (port_at (map f ports) e.link)
  known_map f host turns got ms ports k =
      map_is f host ports e.link (Known ms) (λ q. subst (Known ms) q k)
      (λ p q. known_some own ms p (f p) (turns p) (got p) (subst (Known ms) q k))

  left_more : (p : Port) (t : Turn) → left_by p.turns came ≡ p.side.got → left_by (after_turn t p).turns came ≡ (after_turn t p).side.got
  left_more p t q = left-append p.turns t came ∙ (ap (kept_by t) q ∙ sym (turn_got p.side t))

  known_turn : (b : Bool) (ms : List Message) (t : Turn) (p : Port) → IsNoFetch t → Knows e who begin came b ms (Some p)
      → Knows e who begin came b ms (Some (after_turn t p))
  known_turn true ms t p n k = (left_more p t k.0, turn_got p.side t ∙ ((grind arith) ∙ k.1))
  known_turn false ms t p n k = k

  if_changed : (b : Bool) (f : Port → Port) (ms : List Message) (p : Port) → (b ≡ true → Known ms (Some (f p))) → Known ms (Some p)
      → Known ms (Some (changed_if b f p))
  if_changed b f ms p one k = grind arith

  -- ### Entries

  sent_still : (h n : ℕ) (m : Message) (side : Side) (o : Option Refused) → AreStill e (entries_for h (sent_unless o side n m))
  sent_still h n m side o = grind arith

  still : (es : List Entry) (w : Work) (ms : List Message) → AreStill e es → Goes e begin w.entries ms → Goes e begin (w.entries ++ es) ms
  still es w ms s g = goes-append e w.entries es begin ms ms g (still_goes e es ms s)

  -- ### What lasts over deeds

  pub note : (ms : List Message) (es : List Entry) (w : Work) → ArePlain es → At ms w → At ms (noting es w)
  note ms es w p a = record { side = a.side; port = a.port; goes = still es w ms (all_still e es p) a.goes }

  pub desk : (ms : List Message) (k : ℕ) (f : Desk → Desk) (w : Work) → ((d : Desk) → (f d).host ≡ d.host) → At ms w → At ms (with_desk k f w)
  desk ms k f w keeps a =
      let g : Port → Port = λ p. record p { desk = f p.desk } in
      record {
        side = a.side;
        port = map_is (λ p. changed_if (p.desk.host == k) g p) (λ p. changed_host (p.desk.host == k) g p (λ q. keeps q.desk)) w.ports e.link (Known ms)
            (λ q. subst (Known ms) q a.port)
            (λ p q. if_changed (p.desk.host == k) g ms p (λ z. known_some own ms p (g p) refl refl (subst (Known ms) q a.port)) (subst (Known ms) q a.port));
        goes = a.goes;
      }

  -- the end of the link with the host k has a turn
  at_turn : (ms : List Message) (k : ℕ) (t : Turn) (w : Work)
      → ((p : Port) → port_at w.ports e.link ≡ Some p → (p.desk.host == k) ≡ true → Known ms (Some (after_turn t p))) → At ms w → At ms (turn_at k t w)
  at_turn ms k t w one a =
      record {
        side = a.side;
        port = map_is (λ p. changed_if (p.desk.host == k) (after_turn t) p) (λ p. changed_host (p.desk.host == k) (after_turn t) p (λ q. refl)) w.ports
            e.link (Known ms) (λ q. subst (Known ms) q a.port)
            (λ p q. if_changed (p.desk.host == k) (after_turn t) ms p (one p q) (subst (Known ms) q a.port));
        goes = still (option_map_or (noted_of w.core t) (port_at w.ports k) []) w ms (grind arith) a.goes;
      }

  pub turns : (ms : List Message) (k : ℕ) (t : Turn) (w : Work) → IsNoFetch t → At ms w → At ms (turn_at k t w)
  turns ms k t w n a = at_turn ms k t w (λ p q z. known_turn own ms t p n (subst (Known ms) q a.port)) a

  pub beside : (ms : List Message) (w v : Work) → v.cut ≡ w.cut → v.core.node ≡ w.core.node → v.ports ≡ w.ports → v.entries ≡ w.entries → At ms w
      → At ms v
  beside ms w v cut core ports entries a = grind arith

  loses : (ms : List Message) (writes : List Write) (w : Work) → At ms w → At ms (loses_power writes w)
  loses ms writes w a = record { side = a.side; port = a.port; goes = still (entry.Cut w.core.node ∷ []) w ms (refl, tt) a.goes }

  pub all_do : (ms : List Message) (k : ℕ) (deeds : List Deed) (w : Work) → AreMute deeds → At ms w → At ms (all_done k deeds w)
  all_do ms k deeds w i a = every_do (At ms) (note ms) (desk ms) (turns ms) (beside ms) (loses ms) k deeds w i a

  -- ### Turns of other ends

  known_fetched : (b : Bool) (ms : List Message) (p : Port) → (b ≡ true → ⊥) → Knows e who begin came b ms (Some p)
      → Knows e who begin came b ms (Some (after_turn FetchMessage p))
  known_fetched b ms p other k = grind arith

  -- it is this end of the node
  link_is : (k : ℕ) → same_end (end_of k who) e ≡ true → ((k == e.link) ≡ true) × (has_side who e ≡ true)
  link_is k q = and_parts (k == e.link) (has_side who e) (sym (same_is who k e) ∙ q)

  other_is : (k : ℕ) (ports : List Port) (p : Port) → same_end (end_of k who) e ≡ false → port_at ports e.link ≡ Some p → (p.desk.host == k) ≡ true → own ≡ true
      → ⊥
  other_is k ports p off q z is =
      let here : (k == e.link) ≡ true = subst (λ n. (n == e.link) ≡ true) (eqb-true p.desk.host k z) (at_host ports e.link p q) in
      true≢false (sym (same_is who k e ∙ rw (here, (mine is)) refl) ∙ off)

  abbrev Turned : ℕ → Message → Work → List Entry
  Turned k m w = entry.Turn (end_of_node w.core k) m.0 m.1 ∷ []

  handles_other : (ms : List Message) (k : ℕ) (m : Message) (deeds : List Deed) (w : Work) → same_end (end_of k who) e ≡ false → AreMute deeds → At ms w
      → At ms (handles k m deeds w)
  handles_other ms k m deeds w off mute a =
      let quiet : doing e (entry.Turn (end_of_node w.core k) m.0 m.1) ≡ doing e (entry.Turn (end_of k who) m.0 m.1) = grind arith in
      let told : At ms (noting (Turned k m w) w) = record {
        side = a.side;
        port = a.port;
        goes = still (Turned k m w) w ms (quiet ∙ rw off refl, tt) a.goes;
      } in
      let fetched : At ms (turn_at k FetchMessage (noting (Turned k m w) w)) =
      at_turn ms k FetchMessage (noting (Turned k m w) w)
      (λ p q z. known_fetched own ms p (other_is k w.ports p off q z) (subst (Known ms) q a.port)) told in
      all_do ms k deeds (with_desk k (λ d. record d { holds = false }) (turn_at k FetchMessage (noting (Turned k m w) w))) mute
      (desk ms k (λ d. record d { holds = false }) (turn_at k FetchMessage (noting (Turned k m w) w)) (λ d. refl) fetched)

  have_other : (ms : List Message) (k : ℕ) → same_end (end_of k who) e ≡ false → (messages : List Message) (w : Work) → At ms w
      → At ms (have_turns k messages w)
  have_other ms k off [] w a = lets (At ms) (note ms) (desk ms) (turns ms) (beside ms) (loses ms) k w a
  have_other ms k off (m ∷ messages) w a = by_option (lack w.ports (needs k deeds))
      (λ q. rw q (unless (At ms) (have_turns k messages) (handles k m deeds w) (λ v b. have_other ms k off messages v b)
      (handles_other ms k m deeds w off (deeds_mute w.core w.ports k m) a)))
      (λ short q. rw q (holds (At ms) (note ms) (desk ms) (turns ms) (beside ms) (loses ms) k short w a)) where
        deeds : List Deed
        deeds = deeds_of w.core w.ports k m

  -- ### Turns of this end

  -- something waits
  pub record Stands (w : Work) : Type 0 where
    pub waiting : List Message
    pub at : At waiting w

  fetched_some : (b : Bool) (m : Message) (ms : List Message) (p : Port) → b ≡ true → Knows e who begin came b (m ∷ ms) (Some p)
      → Knows e who begin came b ms (Some (after_turn FetchMessage p))
  fetched_some true m ms p is k = (left_more p FetchMessage k.0, ap (λ l. drop 1 l) k.1)
  fetched_some false m ms p is k = absurd (true≢false (sym is))

  handles_mine : (k : ℕ) (m : Message) (ms : List Message) (deeds : List Deed) (w : Work) → same_end (end_of k who) e ≡ true → own ≡ true → AreMute deeds
      → At (m ∷ ms) w → At ms (handles k m deeds w)
  handles_mine k m ms deeds w on is mute a =
      let first : doing e (entry.Turn (end_of_node w.core k) m.0 m.1) ≡ Takes m = grind arith in
      let told : Work = noting (Turned k m w) w in
      let here : (n : ℕ) → (n == e.link) ≡ true → (n == k) ≡ true = grind arith in
      let fetched : At ms (turn_at k FetchMessage told) = record {
        side = a.side;
        port = map_is (λ p. changed_if (p.desk.host == k) (after_turn FetchMessage) p)
            (λ p. changed_host (p.desk.host == k) (after_turn FetchMessage) p (λ q. refl)) w.ports e.link (Known ms)
            (λ q. subst (λ b. Knows e who begin came b ms None) (sym is) tt)
            (λ p q. subst (λ b. Known ms (Some (changed_if b (after_turn FetchMessage) p))) (sym (here p.desk.host (at_host w.ports e.link p q)))
            (fetched_some own m ms p is (subst (Known (m ∷ ms)) q a.port)));
        goes = still (option_map_or (noted_of w.core FetchMessage) (port_at w.ports k) []) told ms (grind arith)
            (goes-append e w.entries (Turned k m w) begin (m ∷ ms) ms a.goes (ms, (subst (λ d. Becomes d (m ∷ ms) ms) (sym first) refl, refl)));
      } in
      all_do ms k deeds (with_desk k (λ d. record d { holds = false }) (turn_at k FetchMessage told)) mute
      (desk ms k (λ d. record d { holds = false }) (turn_at k FetchMessage told) (λ d. refl) fetched)

  goes_on : (f : Work → Work) (w : Work) (ms : List Message) → ((v : Work) → At ms v → Stands (f v)) → At ms w → Stands (unless_cut f w)
  goes_on f w ms one a = by_cut Stands f w (λ q. record { waiting = ms; at = a }) (λ q. one w a)

  have_mine : (k : ℕ) → same_end (end_of k who) e ≡ true → own ≡ true → (messages : List Message) (w : Work) → At messages w
      → Stands (have_turns k messages w)
  have_mine k on is [] w a = record { waiting = []; at = lets (At []) (note []) (desk []) (turns []) (beside []) (loses []) k w a }
  have_mine k on is (m ∷ messages) w a = by_option (lack w.ports (needs k deeds))
      (λ q. rw q (goes_on (have_turns k messages) (handles k m deeds w) messages (λ v b. have_mine k on is messages v b)
      (handles_mine k m messages deeds w on is (deeds_mute w.core w.ports k m) a)))
      (λ short q. rw q (record { waiting = all; at = holds (At all) (note all) (desk all) (turns all) (beside all) (loses all) k short w a })) where
        deeds : List Deed
        deeds = deeds_of w.core w.ports k m

        all : List Message
        all = m ∷ messages

  -- ### A pass

  pub does : (k : ℕ) (deeds : List Deed) (w : Work) → AreMute deeds → Stands w → Stands (all_done k deeds w)
  does k deeds w m a = record { waiting = a.waiting; at = all_do a.waiting k deeds w m a.at }

  having : (k : ℕ) (w : Work) → Stands w → Stands (have_turns k (option_map_or (λ (p : Port). p.side.got) (port_at w.ports k) []) w)
  having k w a = by_test (same_end (end_of k who) e)
      (λ on. by own (port_at w.ports k) on refl
      (subst (λ n. Known ms (port_at w.ports n)) (sym (eqb-true k e.link (link_is k on).0)) a.at.port))
      (λ off. record { waiting = ms; at = have_other ms k off _ w a.at })
    where
      ms : List Message
      ms = a.waiting

      by : (b : Bool) (o : Option Port) → same_end (end_of k who) e ≡ true → own ≡ b → Knows e who begin came b ms o
          → Stands (have_turns k (option_map_or (λ (p : Port). p.side.got) o []) w)
      by b None on q known = record { waiting = ms; at = lets (At ms) (note ms) (desk ms) (turns ms) (beside ms) (loses ms) k w a.at }
      by true (Some p) on q known = subst (λ l. Stands (have_turns k l w)) (sym known.1) (have_mine k on q ms w a.at)
      by false (Some p) on q known = absurd (true≢false (sym (link_is k on).1 ∙ known.1))

  -- what is left to do in a step once something has come
  pub rest : (freed syncs owing : List Deed) (w : Work) → AreMute freed → AreMute syncs → AreMute owing → Stands w
      → Stands (answers_and_passes freed syncs owing w)
  rest freed syncs owing w f s o a = rest_of Stands IsMute does having freed syncs owing w f s o a

-- ## What waits at an end over a step of its node, and over one of another node

-- ### Notes

-- it tells of no message that came
abbrev pub IsNoGot : Noted → Type 0
IsNoGot (Got who n m) = ⊥
IsNoGot _ = Unit {0}

abbrev pub AreNoGots : List Noted → Type 0
AreNoGots notes = AllByRecursion IsNoGot notes

pub notes_still : (e : End) (h : ℕ) (notes : List Noted) → AreNoGots notes → AreStill e (entries_for h notes)
notes_still e h [] a = tt
notes_still e h (Got who n m ∷ notes) a = absurd a.0
notes_still e h (Ticked ∷ notes) a = notes_still e h notes a.1
notes_still e h (Restarted who ∷ notes) a = notes_still e h notes a.1
notes_still e h (Cut who ∷ notes) a = notes_still e h notes a.1
notes_still e h (_ ∷ notes) a = (refl, notes_still e h notes a.1)

-- messages that came wait behind the others
pub gots_go : (e : End) (h : ℕ) (who : Side) (n : ℕ) (ms q : List Message) → same_end (end_of h who) e ≡ true
    → Goes e q (entries_for h (map (Got who n) ms)) (q ++ ms)
gots_go e h who n [] q on = sym (append-nil q)
gots_go e h who n (m ∷ ms) q on =
    let one : doing e (entry.Got (end_of h who) n m.0 m.1) ≡ Adds m = rw on refl in (
      q ++ m ∷ [],
      (
        subst (λ d. Becomes d q (q ++ m ∷ [])) (sym one) refl,
        subst (λ z. Goes e (q ++ m ∷ []) (entries_for h (map (Got who n) ms)) z) (append_assoc q (m ∷ []) ms) (gots_go e h who n ms (q ++ m ∷ []) on),
      ),
    )

pub gots_still : (e : End) (h : ℕ) (who : Side) (n : ℕ) (ms : List Message) → same_end (end_of h who) e ≡ false
    → AreStill e (entries_for h (map (Got who n) ms))
gots_still e h who n [] off = tt
gots_still e h who n (m ∷ ms) off = (rw off refl, gots_still e h who n ms off)

lead : (e : End) (h : ℕ) (xs ys : List Noted) (q r : List Message) → AreNoGots xs → Goes e q (entries_for h ys) r → Goes e q (entries_for h (xs ++ ys)) r
lead e h xs ys q r a g =
    subst (λ t. Goes e q t r) (sym (flat_map-append (entry_of h) xs ys))
    (goes-append e (entries_for h xs) (entries_for h ys) q q r (still_goes e (entries_for h xs) q (notes_still e h xs a)) g)

pub so_none : (b : Bool) (x : Noted) → IsNoGot x → AreNoGots (if_so b x)
so_none b x a = grind arith

pub told_goes : (e : End) (h : ℕ) (who : Side) (n acked : ℕ) (r : Report) (q s : List Message) → Goes e q (entries_for h (map (Got who n) r.got)) s
    → Goes e q (entries_for h (told who n r acked)) s
told_goes e h who n acked r q s g =
    let four : List Noted = map (GaveUp who) (option_to_list r.gave_up) ++ (if_so (nat_lt 0 r.acked) (Acked who n acked) ++ map (Got who n) r.got) in
    let three : List Noted = if_so r.became_active (Active who) ++ four in
    lead e h (map (Down who) (option_to_list r.ended)) (if_so r.began (Up who n) ++ three) q s (grind arith)
    (lead e h (if_so r.began (Up who n)) three q s (so_none r.began (Up who n) tt)
    (lead e h (if_so r.became_active (Active who)) four q s (so_none r.became_active (Active who) tt)
    (grind arith)))

-- ### What comes to the ends of a node

-- what comes to the end of the link with this host
abbrev pub input_on : NodeInput → ℕ → Option LinkInput
input_on (AtEnd h i) k = if k == h then Some i else None
input_on TimePasses k = Some Tick

abbrev IfComing : Option LinkInput → Type 0
IfComing None = Unit {0}
IfComing (Some i) = IsComing i

comes_outside : (input : NodeInput) (k : ℕ) → IsOutside input → IfComing (input_on input k)
comes_outside input k a = grind arith

-- an end as a step begins: it is s, and these messages wait there; where the node doesn't have the end, no end of it is on its side
abbrev pub Fresh : End → Side → Bool → LinkEnd → List Message → Option Port → Type 0
Fresh e who own s begin None = Unit {0}
Fresh e who true s begin (Some p) = (p.turns ≡ []) × (p.side ≡ s) × (s.got ≡ begin)
Fresh e who false s begin (Some p) = has_side who e ≡ false

pub reset_side : (p : Port) → (reset_late p).side.got ≡ p.side.got
reset_side p = by_test (is_late p) (λ q. rw q (reset_got p.side None)) (λ q. rw q refl)

module _ (e : End) (who : Side) (own : Bool) (mine : own ≡ true → has_side who e ≡ true) (begin : List Message) (s : LinkEnd) where
  others_go : (core : Core) (p : Port) (o : Option LinkInput) (q : List Message) → own_side core ≡ who → same_end (end_of p.desk.host who) e ≡ false
      → Goes e q (told_at core p o) q
  others_go core p None q side off = refl
  others_go core p (Some i) q side off =
      subst (λ x. Goes e q (entries_for p.desk.host (told x p.session (report p.side i) (whole_acked (after_input p.side i)))) q) (sym side)
      (told_goes e p.desk.host who p.session (whole_acked (after_input p.side i)) (report p.side i) q q
      (still_goes e _ q (gots_still e p.desk.host who p.session (report p.side i).got off)))

  own_goes : (core : Core) (p : Port) (o : Option LinkInput) (q : List Message) → own_side core ≡ who → same_end (end_of p.desk.host who) e ≡ true
      → IfComing o → p.side.got ≡ q → Goes e q (told_at core p o) (has_come p o).side.got
  own_goes core p None q side on c is = sym is
  own_goes core p (Some i) q side on c is =
      let got : q ++ (report p.side i).got ≡ (after_input p.side i).got =
      ap (λ z. z ++ (report p.side i).got) (sym is) ∙ sym (input_got p.side i c) in
      subst (λ x. Goes e q (entries_for p.desk.host (told x p.session (report p.side i) (whole_acked (after_input p.side i)))) (after_input p.side i).got)
      (sym side)
      (told_goes e p.desk.host who p.session (whole_acked (after_input p.side i)) (report p.side i) q (after_input p.side i).got
      (subst (λ z. Goes e q (entries_for p.desk.host (map (Got who p.session) (report p.side i).got)) z) got
      (gots_go e p.desk.host who p.session (report p.side i).got q on)))

  module _ (input : NodeInput) (outside : IsOutside input) (core : Core) (side : own_side core ≡ who) where
    abbrev comes : Port → Port
    comes p = has_come p (input_at input p)

    abbrev noted : Port → List Entry
    noted p = told_at core p (input_at input p)

    abbrev then_waits : Bool → Option Port → List Message
    then_waits b None = begin
    then_waits true (Some p) = (comes p).side.got
    then_waits false (Some p) = begin

    abbrev came : List Message
    came = (after_coming s (input_on input e.link)).got

    others_all : (ports : List Port) (q : List Message) → AllByRecursion (λ k. (k == e.link) ≡ false) (hosts_of_ends ports) → Goes e q (flat_map noted ports) q
    others_all [] q a = refl
    others_all (p ∷ ports) q a =
        goes-append e (noted p) (flat_map noted ports) q q q (others_go core p (input_at input p) q side (same_is who p.desk.host e ∙ rw a.0 refl))
        (others_all ports q a.1)

    one_goes : (b : Bool) (p : Port) → own ≡ b → (p.desk.host == e.link) ≡ true → Fresh e who b s begin (Some p)
        → Goes e begin (noted p) (then_waits b (Some p))
    one_goes true p is here f = own_goes core p (input_at input p) begin side (grind arith) (grind arith) (ap (λ (z : LinkEnd). z.got) f.1 ∙ f.2)
    one_goes false p is here f = others_go core p (input_at input p) begin side (same_is who p.desk.host e ∙ rw f (and-false (p.desk.host == e.link)))

    none_goes : (b : Bool) → begin ≡ then_waits b None
    none_goes b = grind arith

    all_go : (ports : List Port) → AreDifferent (hosts_of_ends ports) → Fresh e who own s begin (port_at ports e.link)
        → Goes e begin (flat_map noted ports) (then_waits own (port_at ports e.link))
    all_go [] d f = none_goes own
    all_go (p ∷ ports) d f = by_test (p.desk.host == e.link)
        (λ q. let is : port_at (p ∷ ports) e.link ≡ Some p = rw q refl in
        let fresh : Fresh e who own s begin (Some p) = subst (λ o. Fresh e who own s begin o) is f in
        let A : ℕ → Type 0 = λ n. AllByRecursion (λ k. (k == n) ≡ false) (hosts_of_ends ports) in
        subst (λ o. Goes e begin (flat_map noted (p ∷ ports)) (then_waits own o)) (sym is)
        (goes-append e (noted p) (flat_map noted ports) begin (then_waits own (Some p)) (then_waits own (Some p)) (one_goes own p refl q fresh)
        (others_all ports (then_waits own (Some p)) (subst A (eqb-true p.desk.host e.link q) d.0))))
        (λ q. let is : port_at (p ∷ ports) e.link ≡ port_at ports e.link = rw q refl in
        subst (λ o. Goes e begin (flat_map noted (p ∷ ports)) (then_waits own o)) (sym is)
        (goes-append e (noted p) (flat_map noted ports) begin begin (then_waits own (port_at ports e.link))
        (others_go core p (input_at input p) begin side (grind arith)) ((all_go ports d.1) (subst (λ o. Fresh e who own s begin o) is f))))

    -- what is known of the end then
    knows_come : (b : Bool) (p : Port) → (p.desk.host == e.link) ≡ true → Fresh e who b s begin (Some p)
        → Knows e who begin came b (then_waits b (Some p)) (Some (comes p))
    knows_come b p here f = grind arith

    knows_all : (ports : List Port) → Fresh e who own s begin (port_at ports e.link)
        → Knows e who begin came own (then_waits own (port_at ports e.link)) (port_at (map comes ports) e.link)
    knows_all ports f =
        map_is comes (λ p. come_host p (input_at input p)) ports e.link
        (λ o. Knows e who begin came own (then_waits own (port_at ports e.link)) o)
        (λ q. subst (λ o. Knows e who begin came own (then_waits own o) None) (sym q) (by_test own (λ q. rw q tt) (λ q. rw q refl)))
        (λ p q. subst (λ o. Knows e who begin came own (then_waits own o) (Some (comes p))) (sym q)
        (knows_come own p (at_host ports e.link p q) (subst (λ o. Fresh e who own s begin o) q f)))

  -- ### Steps

  late_goes : (core : Core) (ports : List Port) (q : List Message) → Goes e q (flat_map (told_late core) ports) q
  late_goes core [] q = refl
  late_goes core (p ∷ ports) q = goes-append e (told_late core p) (flat_map (told_late core) ports) q q q (grind arith) (late_goes core ports q)

  abbrev pub Stand : List Message → Work → Type 0
  Stand came w = Stands e who own mine begin came w

  -- a step goes on from here
  goes_from : (came : List Message) (freed syncs owing : List Deed) (v : Work) (ms : List Message) → AreMute freed → AreMute syncs → AreMute owing
      → own_side v.core ≡ who → Knows e who begin came own ms (port_at v.ports e.link) → Goes e begin v.entries ms
      → Stand came (answers_and_passes freed syncs owing (record v {
        core = after_sessions v.core v.ports;
        ports = map without_notice (map (forgets v.ports) v.ports);
      }))
  goes_from came freed syncs owing v ms f y o side known goes =
      let left : List Port = map (forgets v.ports) v.ports in
      rest e who own mine begin came freed syncs owing (record v { core = after_sessions v.core v.ports; ports = map without_notice left }) f y o
      (record {
        waiting = ms;
        at = record {
          side = sessions_side v.core v.ports ∙ side;
          port = known_map e who own mine begin came without_notice without_host (λ p. (without_same p).turns)
              (λ p. ap (λ (z : LinkEnd). z.got) (without_same p).side) ms left
              (known_map e who own mine begin came (forgets v.ports) (forgets_host v.ports) (λ p. (forgets_same v.ports p).turns)
              (λ p. ap (λ (z : LinkEnd). z.got) (forgets_same v.ports p).side) ms v.ports known);
          goes = goes;
        };
      })

  pub steps_stand : (input : NodeInput) (w : Work) → IsOutside input → own_side w.core ≡ who → AreDifferent (hosts_of_ends w.ports)
      → Fresh e who own s begin (port_at w.ports e.link) → Goes e begin w.entries begin
      → Stand (after_coming s (input_on input e.link)).got (steps input w)
  steps_stand (AtEnd k i) w outside side d f g =
      let input : NodeInput = AtEnd k i in
      let v : Work = all_come input w in
      let ms : List Message = then_waits input outside w.core side own (port_at w.ports e.link) in
      goes_from (after_coming s (input_on input e.link)).got (forgotten v.ports) (flat_map (synced w.core input) w.ports)
      (all_owed (map (forgets v.ports) v.ports)) v ms (forgotten_mute v.ports)
      (all_synced_mute w.core input w.ports) (all_owed_mute (map (forgets v.ports) v.ports)) side (knows_all input outside w.core side w.ports f)
      (goes-append e w.entries (flat_map (noted input outside w.core side) w.ports) begin begin ms g (all_go input outside w.core side w.ports d f))
  steps_stand TimePasses w outside side d f g =
      let input : NodeInput = TimePasses in
      let first : Work = all_come input w in
      let old : List Port = map with_older first.ports in
      let v : Work = times_out input first in
      let ms : List Message = then_waits input outside w.core side own (port_at w.ports e.link) in
      let came : List Message = (after_coming s (Some Tick)).got in
      goes_from came (forgotten v.ports) (flat_map (synced w.core input) w.ports)
      (all_owed (map (forgets v.ports) v.ports)) v ms (forgotten_mute v.ports)
      (all_synced_mute w.core input w.ports) (all_owed_mute (map (forgets v.ports) v.ports)) side
      (known_map e who own mine begin came reset_late late_host reset_turns reset_side ms old
      (known_map e who own mine begin came with_older (λ p. refl) (λ p. refl) (λ p. refl) ms first.ports (knows_all input outside w.core side w.ports f)))
      (goes-append e first.entries (flat_map (told_late w.core) old) begin ms ms
      (goes-append e w.entries (flat_map (noted input outside w.core side) w.ports) begin begin ms g (all_go input outside w.core side w.ports d f))
      (late_goes w.core old ms))

  pub begins_stand : (k : ℕ) (deeds : List Deed) (w : Work) → AreMute deeds → own_side w.core ≡ who → Fresh e who own s begin (port_at w.ports e.link)
      → Goes e begin w.entries begin → Stand s.got (begins_with k deeds w)
  begins_stand k deeds w m side f g =
      does e who own mine begin s.got k deeds w m
      (record { waiting = begin; at = record { side = side; port = grind arith; goes = g } })
