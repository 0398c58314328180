-- What a node notes of a link in a step is what the law of one link notes of the step of that end; without an end there it notes nothing.
use Rattle.node_laws.proofs.Words.{AllByRecursion, AreDifferent, AsksReset, AtEnd, Bool, Comes, Control, Core, CutOff, Deed, Desk, Emit, Ending, Entry, GoesOut}
use Rattle.node_laws.proofs.Words.{IfItRuns, Link, LinkEnd, LinkInput, List, NextFrame, NoInput, Node, NodeInput, None, Noted, NumberedEnd, OnWire, Option}
use Rattle.node_laws.proofs.Words.{Port, Reset, Some, Start, Starts, Stop, Stops, Take, Tick, TimePasses, Turn, Work, [], after_input, after_sessions}
use Rattle.node_laws.proofs.Words.{after_turn, all_come, all_owed, ap, append-nil, append_assoc, arith, arrival, begins_with, by_option, by_test, changed_if}
use Rattle.node_laws.proofs.Words.{ended_by, ending_entries, ending_of, entries_for, entry_of, eqb-true, false, far, find, flat_map, flat_map-append, forgets}
use Rattle.node_laws.proofs.Words.{forgotten, frames_noted, frames_out, has_come, hosts_of_ends, input_at, input_of, is_over, is_some, is_up, left_after}
use Rattle.node_laws.proofs.Words.{list_any, map, near_end_in, noted_of, noting, number_of, of_link, option_map_or, own_side, port_at, pushed_out, put}
use Rattle.node_laws.proofs.Words.{put_entries, puts_entries, refl, report, reset_late, rest_entries, runs_on, silent, step_entries, steps, subst, sym, synced}
use Rattle.node_laws.proofs.Words.{tick_entries, times_out, told, told_at, told_of, turn_at, turn_entries, turn_entry, turned, turns_at, whole_acked, wire_with}
use Rattle.node_laws.proofs.Words.{wires_for, with_desk, with_ended, with_older, without_notice, ℕ, ◌++◌, ◌==◌, ◌∙◌, ◌∷◌, ◌≡◌}
use Rattle.link_laws.proofs.entries.Noting.{ended_number}
use Rattle.link_laws.specs.entries.Entries.{End as Side}
use Rattle.node_laws.proofs.kept.Doing.{hosts_map}
use Rattle.node_laws.proofs.steps.StepWalks.{changed_host, come_host, forgets_host, late_host, sessions_node, without_host}
use Rattle.node_laws.proofs.telling.Accounts.{Account, AreMute, AreSilent, SameEnd, all_do, all_owed_mute, all_synced_mute, at_host, beside, desk}
use Rattle.node_laws.proofs.telling.Accounts.{forgotten_mute, note, of-append, of_other, of_silent, rest, turns}

-- ## A node that has no end on a link notes nothing of it

pub at_map : (f : Port → Port) → ((p : Port) → (f p).desk.host ≡ p.desk.host) → (ports : List Port) (h : ℕ) (p : Port) → port_at ports h ≡ Some p
    → port_at (map f ports) h ≡ Some (f p)
at_map f keeps [] h p q = cc
at_map f keeps (x ∷ ports) h p q = by_test (x.desk.host == h)
    (λ e. grind arith)
    (λ e. let passed : ((f x).desk.host == h) ≡ false = (grind arith) ∙ e in
    rw passed (at_map f keeps ports h p (rw e at q)))

pub none_map : (f : Port → Port) → ((p : Port) → (f p).desk.host ≡ p.desk.host) → (ports : List Port) (h : ℕ) → port_at ports h ≡ None
    → port_at (map f ports) h ≡ None
none_map f keeps [] h q = refl
none_map f keeps (x ∷ ports) h q = by_test (x.desk.host == h)
    (λ e. let is : Some x ≡ None = rw e at q in absurd (cc is))
    (λ e. let passed : ((f x).desk.host == h) ≡ false = same ∙ e in
    rw passed (none_map f keeps ports h (rw e at q)))
  where
    same : ((f x).desk.host == h) ≡ (x.desk.host == h)
    same = ap (λ n. n == h) (keeps x)

-- where none has this number, the end with another one hasn't either
none_is : (ports : List Port) (h k : ℕ) (x : Port) → port_at ports h ≡ None → port_at ports k ≡ Some x → (x.desk.host == h) ≡ false
none_is [] h k x q r = absurd (cc r)
none_is (y ∷ ports) h k x q r = by_test (y.desk.host == h)
    (λ e. let is : Some y ≡ None = rw e at q in absurd (cc is))
    (λ e. by_test (y.desk.host == k)
    (λ f. grind arith)
    (λ f. none_is ports h k x (rw e at q) (rw f at r)))

-- the node has no end on the link with this host, and noted nothing of it
pub record Away (h : ℕ) (w : Work) : Type 0 where
  pub none : port_at w.ports h ≡ None
  pub told : of_link h w.entries ≡ []

module _ (h : ℕ) where
  more : (w : Work) (es : List Entry) → of_link h w.entries ≡ [] → of_link h es ≡ [] → of_link h (w.entries ++ es) ≡ []
  more w es p q = of-append h w.entries es ∙ (ap (λ t. t ++ of_link h es) p ∙ q)

  pub away_note : (es : List Entry) (w : Work) → AreSilent es → Away h w → Away h (noting es w)
  away_note es w s a = record { none = a.none; told = more w es a.told (of_silent h es s) }

  pub away_desk : (k : ℕ) (f : Desk → Desk) (w : Work) → ((d : Desk) → (f d).host ≡ d.host) → Away h w → Away h (with_desk k f w)
  away_desk k f w keeps a =
      let g : Port → Port = λ p. record p { desk = f p.desk } in
      record {
        none = none_map (λ p. changed_if (p.desk.host == k) g p) (λ p. changed_host (p.desk.host == k) g p (λ q. keeps q.desk)) w.ports h a.none;
        told = a.told;
      }

  pub away_turns : (k : ℕ) (t : Turn) (w : Work) → Away h w → Away h (turn_at k t w)
  away_turns k t w a =
      record {
        none = none_map (λ p. changed_if (p.desk.host == k) (after_turn t) p) (λ p. changed_host (p.desk.host == k) (after_turn t) p (λ q. refl)) w.ports h
            a.none;
        told = more w (option_map_or (noted_of w.core t) (port_at w.ports k) []) a.told (go (port_at w.ports k) refl);
      }
    where
      go : (o : Option Port) → port_at w.ports k ≡ o → of_link h (option_map_or (noted_of w.core t) o []) ≡ []
      go None r = refl
      go (Some x) r = of_other x.desk.host h (turn_entry (own_side w.core) x.session x.side t) (none_is w.ports h k x a.none r)

  pub away_beside : (w v : Work) → v.core.node ≡ w.core.node → v.ports ≡ w.ports → v.entries ≡ w.entries → Away h w → Away h v
  away_beside w v core ports entries a = record { none = ap (λ ps. port_at ps h) ports ∙ a.none; told = ap (of_link h) entries ∙ a.told }

-- ## What the law of one link notes of a step of one end, part by part

-- ### Frames that go out

-- the wire to the host and the number of RSETs are the same on two links
pub record AreAlike (l m : Link) : Type 0 where
  pub to_host : l.to_host ≡ m.to_host
  pub resets : l.resets ≡ m.resets

put_alike : (l m : Link) (c : Control) → AreAlike l m → AreAlike (put l c) (put m c)
put_alike l m c a = grind arith

wire_alike : (l m : Link) (c : Control) → AreAlike l m → wire_with l c ≡ wire_with m c
wire_alike l m c a = grind arith

puts_alike : (who : Side) (cs : List Control) (l m : Link) → AreAlike l m → puts_entries who l cs ≡ puts_entries who m cs
puts_alike who [] l m a = refl
puts_alike who (c ∷ cs) l m a =
    ap (λ w. (Emit who c ∷ pushed_out (far who) w) ++ puts_entries who (put l c) cs) (wire_alike l m c a)
    ∙ ap (λ z. put_entries who m c ++ z) (puts_alike who cs (put l c) (put m c) (put_alike l m c a))

ending_alike : (who : Side) (l m : Link) (e : LinkEnd) (ending : Ending) → AreAlike l m → ending_entries who l e ending ≡ ending_entries who m e ending
ending_alike who l m e GoesOut a = puts_alike who (frames_out e) l m a
ending_alike who l m e CutOff a = refl

rest_is : (who : Side) (k l : Link) (n : ℕ) (e : LinkEnd) (turns : List Turn) (ending : Ending) → number_of k.controller ≡ n → AreAlike k l
    → rest_entries who k e turns ending ≡ turn_entries who n e turns ++ ending_entries who l (turned e turns) ending
rest_is who k l n e turns ending q a =
    ap (λ x. turn_entries who x e turns ++ ending_entries who k (turned e turns) ending) q
    ∙ ap (λ z. turn_entries who n e turns ++ z) (ending_alike who k l (turned e turns) ending a)

-- ### A session that ended

ended_alike : (l : Link) (b : Bool) → AreAlike (with_ended l b) l
ended_alike l b = grind arith

-- ### A step

-- an end after what came to it, where something came
abbrev pub after_coming : LinkEnd → Option LinkInput → LinkEnd
after_coming e None = e
after_coming e (Some i) = after_input e i

-- what is told of that
abbrev pub told_coming : Side → NumberedEnd → Option LinkInput → List Noted
told_coming who h None = []
told_coming who h (Some i) = told_of who h i

-- something comes, or nothing is to come
abbrev pub IsStep : Comes → Option LinkInput → Type 0
IsStep NoInput o = Unit {0}
IsStep _ None = ⊥
IsStep _ (Some i) = Unit {0}

-- what arrives, what is told of it, what the node does, and the frames that go out
abbrev pub parts_of : Side → Link → Comes → Option LinkInput → List Turn → Ending → List Noted
parts_of who l comes o turns ending =
    arrival who l comes
    ++ (told_coming who (near_end_in l comes) o
    ++ (turn_entries who (number_of (near_end_in l comes)) (after_coming (near_end_in l comes).side o) turns
    ++ ending_entries who (wires_for l comes) (turned (after_coming (near_end_in l comes).side o) turns) ending))

module _ (h : ℕ) (who : Side) (turns : List Turn) (ending : Ending) where
  abbrev IsParts : Comes → Option LinkInput → Link → Type 0
  IsParts comes o l = entries_for h (step_entries who l comes turns ending) ≡ entries_for h (parts_of who l comes o turns ending)

  silent_is : (l : Link) (i : LinkInput) (k : Link) → AreAlike (record l { to_controller = []; to_host = [] }) k
      → rest_entries who (silent l (after_input l.controller.side i)) (after_input l.controller.side i) turns ending
      ≡ turn_entries who (number_of l.controller) (after_input l.controller.side i) turns
      ++ ending_entries who k (turned (after_input l.controller.side i) turns) ending
  silent_is l i k a =
      let b : Bool = is_up l.controller.side.shdlc.phase in
      rest_is who (silent l (after_input l.controller.side i)) k (number_of l.controller) (after_input l.controller.side i) turns ending (ended_number l b)
      (record { to_host = a.to_host; resets = (ended_alike l b).resets ∙ a.resets })

  next_is : (l : Link) (o : Option LinkInput) (w : List OnWire) → input_of (record l { to_controller = w }) NextFrame ≡ o → IsStep NextFrame o
      → IsParts NextFrame o (record l { to_controller = w })
  next_is l None w q c = absurd c
  next_is l (Some i) [] q c = absurd (cc q)
  next_is l (Some i) (x ∷ xs) q c =
      let k : Link = record l { to_controller = x ∷ xs } in
      let f : LinkInput = Take x.frame in
      let is : f ≡ i = cc in
      let b : Bool = is_some (ended_by l.controller.side f) in
      let m : Link = record l { to_controller = xs } in
      let all : IsParts NextFrame (Some f) k =
      ap (λ z. entries_for h (arrival who k NextFrame ++ (told_of who (near_end_in k NextFrame) f ++ z)))
      (rest_is who (left_after k x xs) k (number_of (near_end_in k NextFrame)) (after_input l.controller.side f) turns ending (grind arith)
      (record { to_host = (ended_alike m b).to_host; resets = (ended_alike m b).resets })) in
      subst (λ (j : LinkInput). IsParts NextFrame (Some j) k) is all
    where
      emitted : (m : Link) (b : Bool) → (with_ended m b).controller.emitted ≡ m.controller.emitted
      emitted m b = grind arith

  step_is : (l : Link) (comes : Comes) (o : Option LinkInput) → input_of l comes ≡ o → IsStep comes o → IsParts comes o l
  step_is l NextFrame o q c = next_is l o l.to_controller q c
  step_is l NoInput None q c = refl
  step_is l NoInput (Some i) q c = absurd (cc q)
  step_is l (AsksReset window) (Some i) q c =
      let f : LinkInput = Reset window in
      let is : f ≡ i = cc in
      let b : Bool = is_some (ended_by l.controller.side f) in
      let all : IsParts (AsksReset window) (Some f) l =
      ap (λ z. entries_for h (told_of who l.controller f ++ z))
      (rest_is who (with_ended l b) l (number_of l.controller) (after_input l.controller.side f) turns ending (ended_number l b) (ended_alike l b)) in
      subst (λ (j : LinkInput). IsParts (AsksReset window) (Some j) l) is all
  step_is l (Starts value) (Some i) q c =
      let f : LinkInput = Start value in
      let is : f ≡ i = cc in
      let all : IsParts (Starts value) (Some f) l =
      ap (λ z. entries_for h (told_of who l.controller f ++ z)) (silent_is l f (wires_for l (Starts value)) (record { to_host = refl; resets = refl })) in
      subst (λ (j : LinkInput). IsParts (Starts value) (Some j) l) is all
  step_is l _ None q c = absurd c
  step_is l Stops (Some i) q c =
      let f : LinkInput = Stop in
      let is : f ≡ i = cc in
      let all : IsParts Stops (Some f) l =
      ap (λ z. entries_for h (told_of who l.controller f ++ z)) (silent_is l f (wires_for l Stops) (record { to_host = refl; resets = refl })) in
      subst (λ (j : LinkInput). IsParts Stops (Some j) l) is all

-- a tick
pub tick_is : (who : Side) (l : Link) (node : Node) → tick_entries who l node ≡ parts_of who l NoInput (Some Tick) node.turns node.ending
tick_is who l node =
    let b : Bool = is_some (ended_by l.controller.side Tick) in
    ap (λ z. told_of who l.controller Tick ++ z)
    (rest_is who (with_ended l b) l (number_of l.controller) (after_input l.controller.side Tick) node.turns node.ending (ended_number l b) (ended_alike l b))

-- ## A node keeps its number and its ends

-- it has this number, and ends on the links with these hosts
pub record Keeps (n : ℕ) (hosts : List ℕ) (w : Work) : Type 0 where
  pub number : w.core.node ≡ n
  pub ends : hosts_of_ends w.ports ≡ hosts

module _ (n : ℕ) (hosts : List ℕ) where
  abbrev Of : Work → Type 0
  Of w = Keeps n hosts w

  note_of_keeping : (es : List Entry) (w : Work) → AreSilent es → Of w → Of (noting es w)
  note_of_keeping es w s a = record { number = a.number; ends = a.ends }

  desk_of_keeping : (k : ℕ) (f : Desk → Desk) (w : Work) → ((d : Desk) → (f d).host ≡ d.host) → Of w → Of (with_desk k f w)
  desk_of_keeping k f w keeps a =
      let g : Port → Port = λ p. record p { desk = f p.desk } in
      record {
        number = a.number;
        ends = hosts_map (λ p. changed_if (p.desk.host == k) g p) (λ p. changed_host (p.desk.host == k) g p (λ q. keeps q.desk)) w.ports ∙ a.ends;
      }

  turns_of_keeping : (k : ℕ) (t : Turn) (w : Work) → Of w → Of (turn_at k t w)
  turns_of_keeping k t w a =
      record {
        number = a.number;
        ends =
            hosts_map (λ p. changed_if (p.desk.host == k) (after_turn t) p) (λ p. changed_host (p.desk.host == k) (after_turn t) p (λ q. refl)) w.ports
            ∙ a.ends;
      }

  beside_of_keeping : (w v : Work) → v.core.node ≡ w.core.node → v.ports ≡ w.ports → v.entries ≡ w.entries → Of w → Of v
  beside_of_keeping w v core ports entries a = record { number = core ∙ a.number; ends = ap hosts_of_ends ports ∙ a.ends }

  pub steps_keep : (k : ℕ) (i : LinkInput) (w : Work) → Of w → Of (steps (AtEnd k i) w)
  steps_keep k i w a =
      let v : Work = all_come (AtEnd k i) w in
      let left : List Port = map (forgets v.ports) v.ports in
      let first : Of (record v { core = after_sessions v.core v.ports; ports = map without_notice left }) = record {
        number = sessions_node w.core v.ports ∙ a.number;
        ends = hosts_map without_notice without_host left ∙ (hosts_map (forgets v.ports) (forgets_host v.ports) v.ports
            ∙ (hosts_map (λ p. has_come p (input_at (AtEnd k i) p)) (λ p. come_host p (input_at (AtEnd k i) p)) w.ports ∙ a.ends));
      } in
      rest Of note_of_keeping desk_of_keeping turns_of_keeping beside_of_keeping (forgotten v.ports) (flat_map (synced w.core (AtEnd k i)) w.ports)
      (all_owed left)
      (record v { core = after_sessions v.core v.ports; ports = map without_notice left })
      (forgotten_mute v.ports) (all_synced_mute w.core (AtEnd k i) w.ports) (all_owed_mute left) first

  pub tick_keeps : (w : Work) → Of w → Of (steps TimePasses w)
  tick_keeps w a =
      let v : Work = times_out TimePasses (all_come TimePasses w) in
      let left : List Port = map (forgets v.ports) v.ports in
      let came : List Port = map (λ p. has_come p (Some Tick)) w.ports in
      let first : Of (record v { core = after_sessions v.core v.ports; ports = map without_notice left }) = record {
        number = sessions_node w.core v.ports ∙ a.number;
        ends = hosts_map without_notice without_host left ∙ (hosts_map (forgets v.ports) (forgets_host v.ports) v.ports
            ∙ (hosts_map reset_late late_host (map with_older came) ∙ (hosts_map with_older (λ p. refl) came
            ∙ (hosts_map (λ p. has_come p (Some Tick)) (λ p. refl) w.ports ∙ a.ends))));
      } in
      rest Of note_of_keeping desk_of_keeping turns_of_keeping beside_of_keeping (forgotten v.ports) (flat_map (synced w.core TimePasses) w.ports)
      (all_owed left)
      (record v { core = after_sessions v.core v.ports; ports = map without_notice left })
      (forgotten_mute v.ports) (all_synced_mute w.core TimePasses w.ports) (all_owed_mute left) first

  pub begins_keep : (k : ℕ) (deeds : List Deed) (w : Work) → AreMute deeds → Of w → Of (begins_with k deeds w)
  begins_keep k deeds w m a = all_do Of note_of_keeping desk_of_keeping turns_of_keeping beside_of_keeping k deeds w m a

  pub runs_keep : (w : Work) → Of w → IfItRuns n hosts (runs_on w)
  runs_keep w a = by_test w.cut (λ q. rw q tt) (λ q. rw q (record { number = a.number; ends = same w.ports ∙ a.ends }))
    where
      same : (ports : List Port) → map (λ (d : Desk). d.host) (map (λ (p : Port). p.desk) ports) ≡ hosts_of_ends ports
      same [] = refl
      same (p ∷ ports) = ap (λ xs. p.desk.host ∷ xs) (same ports)

-- ## What a node notes of a link in a step is what the law of one link notes of the step of that end

-- ### Lists

-- what is noted of one of these tells of no other link: what all of them note of a link is what the one with its number does
pub only : {X : Type 0} (key : X → ℕ) (f : X → List Entry) (h : ℕ) → ((x : X) → (key x == h) ≡ false → of_link h (f x) ≡ []) → (xs : List X) (x : X)
    → AreDifferent (map key xs) → find (λ y. key y == h) xs ≡ Some x → of_link h (flat_map f xs) ≡ of_link h (f x)
only {X} key f h others [] x d q = cc
only {X} key f h others (y ∷ xs) x d q = by_test (key y == h)
    (λ e. let is : Some y ≡ Some x = rw e at q in
    let one : y ≡ x = cc in
    let A : ℕ → Type 0 = λ n. AllByRecursion (λ k. (k == n) ≡ false) (map key xs) in
    both ∙ (ap (λ t. of_link h (f y) ++ t) (none xs (subst A (eqb-true (key y) h e) d.0)) ∙ (append-nil (of_link h (f y)) ∙ ap (λ z. of_link h (f z)) one)))
    (λ e. both ∙ (ap (λ t. t ++ of_link h (flat_map f xs)) (others y e) ∙ only key f h others xs x d.1 (rw e at q)))
  where
    none : (ys : List X) → AllByRecursion (λ k. (k == h) ≡ false) (map key ys) → of_link h (flat_map f ys) ≡ []
    none [] a = refl
    none (z ∷ ys) a = of-append h (f z) (flat_map f ys) ∙ (ap (λ t. t ++ of_link h (flat_map f ys)) (others z a.0) ∙ none ys a.1)

    both : of_link h (flat_map f (y ∷ xs)) ≡ of_link h (f y) ++ of_link h (flat_map f xs)
    both = of-append h (f y) (flat_map f xs)

pub notes-append : (h : ℕ) (a b : List Noted) → of_link h (entries_for h (a ++ b)) ≡ of_link h (entries_for h a) ++ of_link h (entries_for h b)
notes-append h a b = ap (of_link h) (flat_map-append (entry_of h) a b) ∙ of-append h (entries_for h a) (entries_for h b)

four : (h : ℕ) (a t u f : List Noted)
    → ((of_link h (entries_for h a) ++ of_link h (entries_for h t)) ++ of_link h (entries_for h u)) ++ of_link h (entries_for h f)
    ≡ of_link h (entries_for h (a ++ (t ++ (u ++ f))))
four h a t u f =
    let O : List Noted → List Entry = λ x. of_link h (entries_for h x) in
    append_assoc (O a ++ O t) (O u) (O f)
    ∙ (append_assoc (O a) (O t) (O u ++ O f)
    ∙ sym (notes-append h a (t ++ (u ++ f)) ∙ ap (λ z. O a ++ z) (notes-append h t (u ++ f) ∙ ap (λ z. O t ++ z) (notes-append h u f))))

-- ### What a step keeps of an end

pub without_same : (p : Port) → SameEnd p (without_notice p)
without_same p = grind arith

pub forgets_same : (ports : List Port) (p : Port) → SameEnd p (forgets ports p)
forgets_same ports p = grind arith

pub come_turns : (p : Port) (o : Option LinkInput) → (has_come p o).turns ≡ p.turns
come_turns p o = grind arith

pub sessions_side : (core : Core) (ports : List Port) → own_side (after_sessions core ports) ≡ own_side core
sessions_side core ports = by_test (list_any is_over ports) (λ q. rw q refl) (λ q. rw q refl)

-- ### A step of a node

-- a node as a step begins in which this comes to its end of this link
pub record Opening (h : ℕ) (who : Side) (l : Link) (comes : Comes) (w : Work) : Type 0 where
  pub side : own_side w.core ≡ who
  pub port : Port
  pub here : port_at w.ports h ≡ Some port
  pub is : port.side ≡ (near_end_in l comes).side
  pub session : port.session ≡ number_of (near_end_in l comes)
  pub late : port.late ≡ false
  pub turns : port.turns ≡ []
  pub told : of_link h w.entries ≡ of_link h (entries_for h (arrival who l comes))
  pub different : AreDifferent (hosts_of_ends w.ports)

module _ (h : ℕ) (who : Side) (l : Link) (comes : Comes) (o : Option LinkInput) where
  abbrev pub before : List Entry
  before = of_link h (entries_for h (arrival who l comes)) ++ of_link h (entries_for h (told_coming who (near_end_in l comes) o))

  -- what was done so far, where the notice of the end is late or not
  abbrev pub GoesLate : Bool → Work → Type 0
  GoesLate late w = Account h who (number_of (near_end_in l comes)) (after_coming (near_end_in l comes).side o) before late w

  abbrev pub Goes : Work → Type 0
  Goes w = GoesLate false w

  pub came : (k : ℕ) (i : LinkInput) (w : Work) (a : Opening h who l comes w) → input_at (AtEnd k i) a.port ≡ o → (ports : List Port)
      → Goes (record (all_come (AtEnd k i) w) {
        core = after_sessions w.core ports;
        ports = map without_notice (map (forgets ports) (map (λ p. has_come p (input_at (AtEnd k i) p)) w.ports));
      })
  came k i w a q ports =
      record {
        side = sessions_side w.core ports ∙ a.side;
        port = last;
        here = at_map without_notice without_host _ h left (at_map (forgets ports) (forgets_host ports) _ h come
            (at_map (λ p. has_come p (input_at input p)) (λ p. come_host p (input_at input p)) w.ports h p a.here));
        session = ((without_same left).session ∙ ((forgets_same ports come).session ∙ (grind arith))) ∙ a.session;
        late_is = (without_same left).late ∙ ((forgets_same ports come).late ∙ ((grind arith) ∙ a.late));
        is = ((without_same left).side ∙ ((forgets_same ports come).side ∙ ((grind arith) ∙ ap (turned e) (sym turns_are))));
        told = told_is;
      }
    where
      input : NodeInput
      input = AtEnd k i

      p : Port
      p = a.port

      come : Port
      come = has_come p (input_at input p)

      left : Port
      left = forgets ports come

      last : Port
      last = without_notice left

      turns_are : last.turns ≡ []
      turns_are = (without_same left).turns ∙ ((forgets_same ports come).turns ∙ (come_turns p (input_at input p) ∙ a.turns))

      e : LinkEnd
      e = after_coming (near_end_in l comes).side o

      -- what is noted as something comes
      one : (x : Option LinkInput) → told_at w.core p x ≡ entries_for h (told_coming who (near_end_in l comes) x)
      one None = refl
      one (Some j) =
          ap (λ n. entries_for n (told (own_side w.core) p.session (report p.side j) (whole_acked (after_input p.side j)))) (eqb-true p.desk.host h
          (at_host w.ports h p a.here))
          ∙ (grind arith)

      others : (x : Port) → (x.desk.host == h) ≡ false → of_link h (told_at w.core x (input_at input x)) ≡ []
      others x z = by_option (input_at input x)
          (λ q. rw q refl)
          (λ j q. rw q (of_other x.desk.host h (told (own_side w.core) x.session (report x.side j) (whole_acked (after_input x.side j))) z))

      notes : List Entry
      notes = flat_map (λ p. told_at w.core p (input_at input p)) w.ports

      noted : of_link h notes ≡ of_link h (entries_for h (told_coming who (near_end_in l comes) o))
      noted =
          only (λ (x : Port). x.desk.host) (λ p. told_at w.core p (input_at input p)) h others w.ports p a.different a.here
          ∙ ap (of_link h) (ap (told_at w.core p) q ∙ one o)

      told_is : of_link h (w.entries ++ notes) ≡ before ++ of_link h (entries_for h (turn_entries who (number_of (near_end_in l comes)) e last.turns))
      told_is =
          of-append h w.entries notes
          ∙ (ap (λ t. t ++ of_link h notes) a.told ∙ (ap (λ t. of_link h (entries_for h (arrival who l comes)) ++ t) noted
          ∙ (sym (append-nil before)
          ∙ ap (λ ts. before ++ of_link h (entries_for h (turn_entries who (number_of (near_end_in l comes)) e ts))) (sym turns_are))))

  pub stepped : (k : ℕ) (i : LinkInput) (w : Work) (a : Opening h who l comes w) → input_at (AtEnd k i) a.port ≡ o → Goes (steps (AtEnd k i) w)
  stepped k i w a q =
      let v : Work = all_come (AtEnd k i) w in
      let left : List Port = map (forgets v.ports) v.ports in
      let n : ℕ = number_of (near_end_in l comes) in
      let e : LinkEnd = after_coming (near_end_in l comes).side o in
      rest Goes (note h who n e before false) (desk h who n e before false) (turns h who n e before false) (beside h who n e before false) (forgotten v.ports)
      (flat_map (synced w.core (AtEnd k i)) w.ports) (all_owed left)
      (record v { core = after_sessions v.core v.ports; ports = map without_notice left })
      (forgotten_mute v.ports) (all_synced_mute w.core (AtEnd k i) w.ports) (all_owed_mute left) (came k i w a q v.ports)

  -- nothing comes, and these deeds are done
  pub begun : (k : ℕ) (deeds : List Deed) (w : Work) → AreMute deeds → Opening h who l comes w → o ≡ None → Goes (begins_with k deeds w)
  begun k deeds w m a q =
      let n : ℕ = number_of (near_end_in l comes) in
      let e : LinkEnd = after_coming (near_end_in l comes).side o in
      let first : Goes w = grind arith in
      all_do Goes (note h who n e before false) (desk h who n e before false) (turns h who n e before false) (beside h who n e before false) k deeds w m first

  -- with the frames that go out it is all that is noted of the step
  pub in_parts : (late : Bool) (w : Work) → GoesLate late w → of_link h w.entries ++ of_link h (frames_noted who h (wires_for l comes) w)
      ≡ of_link h (entries_for h (parts_of who l comes o (turns_at w h) (ending_of w)))
  in_parts late w a =
      let n : ℕ = number_of (near_end_in l comes) in
      let e : LinkEnd = after_coming (near_end_in l comes).side o in
      let ts : List Turn = a.port.turns in
      let out : LinkEnd → List Noted = λ z. ending_entries who (wires_for l comes) z (ending_of w) in
      let frames : frames_noted who h (wires_for l comes) w ≡ entries_for h (out (turned e ts)) = grind arith in
      let turns : turns_at w h ≡ ts = ap (λ z. option_map_or (λ (p : Port). p.turns) z []) a.here in
      ap (λ t. t ++ of_link h (frames_noted who h (wires_for l comes) w)) a.told
      ∙ (ap (λ t. (before ++ of_link h (entries_for h (turn_entries who n e ts))) ++ of_link h t) frames
      ∙ (four h (arrival who l comes) (told_coming who (near_end_in l comes) o) (turn_entries who n e ts) (out (turned e ts))
      ∙ ap (λ z. of_link h (entries_for h (parts_of who l comes o z (ending_of w)))) (sym turns)))

  -- and that is what the law of one link notes of it
  pub closed : (late : Bool) (w : Work) → input_of l comes ≡ o → IsStep comes o → GoesLate late w
      → of_link h w.entries ++ of_link h (frames_noted who h (wires_for l comes) w)
      ≡ of_link h (entries_for h (step_entries who l comes (turns_at w h) (ending_of w)))
  closed late w q c a = in_parts late w a ∙ ap (of_link h) (sym (step_is h who (turns_at w h) (ending_of w) l comes o q c))

-- ### A node that has no end on the link

pub frames_of : (h k : ℕ) (who : Side) (l : Link) (w : Work) → (k == h) ≡ false → of_link h (frames_noted who k l w) ≡ []
frames_of h k who l w q = by_option (port_at w.ports k) (λ is. rw is refl) (λ p is. rw is (of_other k h (ending_entries who l p.side (ending_of w)) q))

module _ (h : ℕ) where
  away_come : (k : ℕ) (i : LinkInput) (w : Work) → Away h w → (ports : List Port)
      → Away h (record (all_come (AtEnd k i) w) {
        core = after_sessions w.core ports;
        ports = map without_notice (map (forgets ports) (map (λ p. has_come p (input_at (AtEnd k i) p)) w.ports));
      })
  away_come k i w a ports =
      record {
        none = none_map without_notice without_host _ h (none_map (forgets ports) (forgets_host ports) _ h
            (none_map (λ p. has_come p (input_at input p)) (λ p. come_host p (input_at input p)) w.ports h a.none));
        told = of-append h w.entries (flat_map f w.ports) ∙ (ap (λ t. t ++ of_link h (flat_map f w.ports)) a.told ∙ all w.ports a.none);
      }
    where
      input : NodeInput
      input = AtEnd k i

      f : Port → List Entry
      f p = told_at w.core p (input_at input p)

      one : (p : Port) (o : Option LinkInput) → (p.desk.host == h) ≡ false → of_link h (told_at w.core p o) ≡ []
      one p None q = refl
      one p (Some j) q = of_other p.desk.host h (told (own_side w.core) p.session (report p.side j) (whole_acked (after_input p.side j))) q

      all : (ports : List Port) → port_at ports h ≡ None → of_link h (flat_map f ports) ≡ []
      all [] q = refl
      all (p ∷ ports) q = by_test (p.desk.host == h)
          (λ e. let is : Some p ≡ None = rw e at q in absurd (cc is))
          (λ e. of-append h (f p) (flat_map f ports)
          ∙ (ap (λ t. t ++ of_link h (flat_map f ports)) (one p (input_at input p) e) ∙ all ports (rw e at q)))

  pub away_steps : (k : ℕ) (i : LinkInput) (w : Work) → Away h w → Away h (steps (AtEnd k i) w)
  away_steps k i w a =
      let v : Work = all_come (AtEnd k i) w in
      let left : List Port = map (forgets v.ports) v.ports in
      rest (Away h) (away_note h) (away_desk h) (away_turns h) (away_beside h) (forgotten v.ports)
      (flat_map (synced w.core (AtEnd k i)) w.ports) (all_owed left)
      (record v { core = after_sessions v.core v.ports; ports = map without_notice left })
      (forgotten_mute v.ports) (all_synced_mute w.core (AtEnd k i) w.ports) (all_owed_mute left) (away_come k i w a v.ports)

  pub away_begun : (k : ℕ) (deeds : List Deed) (w : Work) → AreMute deeds → Away h w → Away h (begins_with k deeds w)
  away_begun k deeds w m a = all_do (Away h) (away_note h) (away_desk h) (away_turns h) (away_beside h) k deeds w m a
