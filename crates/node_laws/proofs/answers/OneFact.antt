-- Whether a history is answered is found by walks over it, fact by fact.
use Rattle.std.specs.List.{flat_map}
use Rattle.node_laws.proofs.Words.{AllByRecursion, Answered, AreDifferent, AreDone, AreDue, AreInTurn, AreLeftShort, AreReset, AtEachEntry, AtEachOccurrence}
use Rattle.node_laws.proofs.Words.{Bool, End, Entry, FollowsNodes, Header, IsAscending, IsHeldFor, IsReplied, Line, List, Message, Moment, NodeHistory}
use Rattle.node_laws.proofs.Words.{NodeWorld, NodesHearFirst, None, Occurrence, Option, Some, TurnsAscend, [], and_parts, answerer, ap, append-nil}
use Rattle.node_laws.proofs.Words.{append_assoc, arith, before_turn, by_test, cons_option, down_in, due, ends_in, entries_in, eqb-true, false, filter}
use Rattle.node_laws.proofs.Words.{filter_map, fold-append, hears, holds_in, if◌then◌else◌, is_answer_of, is_cut_of, is_done, is_left_short, is_none}
use Rattle.node_laws.proofs.Words.{is_reset_down, is_reset_due, lack_at, lack_of, line_step, list_any, map, nat_lt, new_world, node_entries, node_of, not}
use Rattle.node_laws.proofs.Words.{not-true, noted_of_deeds, occurrences_in, oldest, option_map_or, refl, reply, steps_from, subst, sym, through, to_command}
use Rattle.node_laws.proofs.Words.{true, true≢false, turn_link, unhandled_after, unhandled_in, until, ℕ, ◌&&◌, ◌++◌, ◌==◌, ◌∙◌, ◌∷◌, ◌≡◌, ◌≤◌}
use Rattle.node_machine.specs.world.Lines.{misread_in}
use Rattle.node_machine.specs.world.NodeHistories.{NoneIsMisread}
use Rattle.node_laws.proofs.turns.Worlds.{in_turn}
use Rattle.node_laws.proofs.turns.Passing.{Becomes, Front, Goes, all_left, doing, front_goes}
use Rattle.node_laws.proofs.worlds.Late.{hear_first}
use Rattle.trace_model.specs.declared.entry.Entry.TheVariants as entry
use Rattle.trace_model.specs.declared.line.Line.TheVariants as line

-- ## That the ends of a node's turns and holds ascend in an event is found by one walk over its entries

-- the end at which a message has its turn, or is held
abbrev turn_end : Entry → Option End
turn_end (entry.Turn e pid message) = Some e
turn_end (entry.Held e need spare) = Some e
turn_end _ = None

-- an end of the same node with an earlier link
abbrev is_earlier : End → End → Bool
is_earlier e f = (node_of f == node_of e) && nat_lt f.link e.link

-- none of these turns is at such an end
abbrev none_earlier : End → List Entry → Bool
none_earlier e [] = true
none_earlier e (x ∷ entries) = not (option_map_or (is_earlier e) (turn_end x) false) && none_earlier e entries

abbrev pub turns_rise : List Entry → Bool
turns_rise [] = true
turns_rise (x ∷ entries) = option_map_or (λ e. none_earlier e entries) (turn_end x) true && turns_rise entries

low : (n : ℕ) (e : End) (entries : List Entry) → node_of e ≡ n → none_earlier e entries ≡ true
    → AllByRecursion (λ k. e.link ≤ k) (filter_map (turn_link n) entries)
low n e [] is none = tt
low n e (x ∷ entries) is none =
    let both = and_parts (not (option_map_or (is_earlier e) (turn_end x) false)) (none_earlier e entries) none in
    one x both.0 (low n e entries is both.1) where
      at : (f : End) → not (is_earlier e f) ≡ true → AllByRecursion (λ k. e.link ≤ k) (filter_map (turn_link n) entries)
          → AllByRecursion (λ k. e.link ≤ k) (cons_option (if node_of f == n then Some f.link else None) (filter_map (turn_link n) entries))
      at f p later = by_test (node_of f == n)
          (λ q. grind arith)
          (λ q. rw q later)

      one : (x : Entry) → not (option_map_or (is_earlier e) (turn_end x) false) ≡ true
          → AllByRecursion (λ k. e.link ≤ k) (filter_map (turn_link n) entries) → AllByRecursion (λ k. e.link ≤ k) (filter_map (turn_link n) (x ∷ entries))
      one (entry.Turn f pid message) p later = at f p later
      one (entry.Held f need spare) p later = at f p later
      one x p later = later

-- where they rise for all nodes, those of each node ascend
pub rise_ascends : (n : ℕ) (entries : List Entry) → turns_rise entries ≡ true → IsAscending (filter_map (turn_link n) entries)
rise_ascends n [] rise = tt
rise_ascends n (x ∷ entries) rise =
    let both = and_parts (option_map_or (λ e. none_earlier e entries) (turn_end x) true) (turns_rise entries) rise in
    one x both.0 (rise_ascends n entries both.1) where
      at : (e : End) → none_earlier e entries ≡ true → IsAscending (filter_map (turn_link n) entries)
          → IsAscending (cons_option (if node_of e == n then Some e.link else None) (filter_map (turn_link n) entries))
      at e p later = by_test (node_of e == n) (λ q. rw q (low n e entries (eqb-true (node_of e) n q) p, later)) (λ q. rw q later)

      one : (x : Entry) → option_map_or (λ e. none_earlier e entries) (turn_end x) true ≡ true → IsAscending (filter_map (turn_link n) entries)
          → IsAscending (filter_map (turn_link n) (x ∷ entries))
      one (entry.Turn f pid message) p later = at f p later
      one (entry.Held f need spare) p later = at f p later
      one x p later = later

-- ## Facts at each place of a list follow from two walks over it that find the same

-- the first element, or this one
abbrev first_or : {X : Type 0} → X → List X → X
first_or x [] = x
first_or x (y ∷ ys) = y

abbrev rest_of : {X : Type 0} → List X → List X
rest_of [] = []
rest_of (y ∷ ys) = ys

-- two functions agree at each element of a list
same_at_each : {X Y : Type 0} (f g : X → Y) (xs : List X) → map f xs ≡ map g xs → AllByRecursion (λ x. f x ≡ g x) xs
same_at_each f g [] same = tt
same_at_each f g (x ∷ xs) same = (ap (first_or (f x)) same, same_at_each f g xs (ap rest_of same))

-- ### Walks

module _ {E C X : Type 0} (part : E → List C) where
  -- what is found at each element, behind the parts of those before it, and before those that are left
  abbrev pub at_each : (List C → E → List E → X) → List C → List E → List X
  at_each f before [] = []
  at_each f before (x ∷ xs) = f before x xs ∷ at_each f (before ++ part x) xs

  module _ (f g : List C → E → List E → X) where
    at_place : (before : List C) (front back : List E) (x : E) → at_each f before (front ++ (x ∷ back)) ≡ at_each g before (front ++ (x ∷ back))
        → f (before ++ flat_map part front) x back ≡ g (before ++ flat_map part front) x back
    at_place before [] back x same = subst (λ l. f l x back ≡ g l x back) (sym (append-nil before)) (ap (first_or (f before x back)) same)
    at_place before (y ∷ front) back x same =
        subst (λ l. f l x back ≡ g l x back) (append_assoc before (part y) (flat_map part front))
        (at_place (before ++ part y) front back x (ap rest_of same))

    pub same_at : (before : List C) (xs front back : List E) (x : E) → at_each f before xs ≡ at_each g before xs → xs ≡ front ++ (x ∷ back)
        → f (before ++ flat_map part front) x back ≡ g (before ++ flat_map part front) x back
    same_at before xs front back x same at = at_place before front back x (subst (λ l. at_each f before l ≡ at_each g before l) at same)

-- what is found of what is found
mapped_at : {E C X Y : Type 0} (part : E → List C) (of : X → Y) (f : List C → E → List E → X) (before : List C) (xs : List E)
    → map of (at_each part f before xs) ≡ at_each part (λ l x back. of (f l x back)) before xs
mapped_at part of f before [] = refl
mapped_at part of f before (x ∷ xs) = ap (λ l. of (f before x xs) ∷ l) (mapped_at part of f (before ++ part x) xs)

-- the part of an element is the element itself
abbrev pub itself : {E : Type 0} → E → List E
itself x = x ∷ []

all_itself : {E : Type 0} (xs : List E) → flat_map itself xs ≡ xs
all_itself [] = refl
all_itself (x ∷ xs) = ap (λ l. x ∷ l) (all_itself xs)

pub same_behind : {E X : Type 0} (f g : List E → E → List E → X) (before xs front back : List E) (x : E)
    → at_each itself f before xs ≡ at_each itself g before xs → xs ≡ front ++ (x ∷ back) → f (before ++ front) x back ≡ g (before ++ front) x back
same_behind f g before xs front back x same at =
    subst (λ l. f (before ++ l) x back ≡ g (before ++ l) x back) (all_itself front) (same_at itself f g before xs front back x same at)

-- ## One walk over a history finds whether it is answered

-- ### What is found

-- at each event of a history, behind those before it
abbrev at_events : {X : Type 0} → (List Occurrence → Occurrence → X) → List Occurrence → List X
at_events f events = at_each itself (λ past o back. f past o) [] events

-- at each entry of an event
abbrev pub at_entries : {X : Type 0} → (Moment → Entry → List Entry → X) → List Occurrence → Occurrence → List X
at_entries f past o = at_each itself (λ front x behind. f (record { past = past; cause = o.cause; so_far = front }) x behind) [] o.entries

-- the answers of a node until its next turn
abbrev pub answers_found : ℕ → List Entry → List Entry
answers_found n entries = filter (is_answer_of n) (before_turn n entries)

-- those that are wanted
abbrev pub answers_wanted : ℕ → List Entry → List Entry → List Entry
answers_wanted n entries answers = if list_any (is_cut_of n) (before_turn n entries) then to_command answers else answers

-- at a turn what lacks, and the answers behind it
abbrev pub turn_found : List ℕ → Moment → Entry → List Entry → Option (Option (ℕ × ℕ) × List Entry)
turn_found hosts m (entry.Turn e pid message) behind = Some (lack_of hosts m e (pid, message), answers_found (node_of e) behind)
turn_found hosts m _ behind = None

abbrev pub turn_wanted : List ℕ → Moment → Entry → List Entry → Option (Option (ℕ × ℕ) × List Entry)
turn_wanted hosts m (entry.Turn e pid message) behind =
    Some (None, answers_wanted (node_of e) behind (noted_of_deeds (until m) (node_of e) e.link (reply hosts m e (pid, message))))
turn_wanted hosts m _ behind = None

-- where a message is noted as held, whether it was so before, and what it lacks
abbrev pub held_found : List ℕ → Moment → Entry → List Entry → Option (Bool × Option (ℕ × ℕ))
held_found hosts m (entry.Held e need spare) behind = Some (holds_in (until m) e, lack_at hosts m e)
held_found hosts m _ behind = None

abbrev pub held_wanted : List ℕ → Moment → Entry → List Entry → Option (Bool × Option (ℕ × ℕ))
held_wanted hosts m (entry.Held e need spare) behind = Some (false, Some (need, spare))
held_wanted hosts m _ behind = None

-- at an event
pub record Findings : Type 0 where
  pub done : List Bool
  pub short : List Bool
  pub due : List (List Entry)
  pub reset : List Bool
  pub turns : List (Option (Option (ℕ × ℕ) × List Entry))
  pub held : List (Option (Bool × Option (ℕ × ℕ)))
  pub rise : Bool

abbrev pub found : List ℕ → List Occurrence → Occurrence → Findings
found hosts past o = record {
  done = map (λ e. is_done (through past o) e) (ends_in hosts);
  short = map (λ e. is_left_short hosts past o e) (ends_in hosts);
  due = map (λ n. answers_found n o.entries) (0 ∷ hosts);
  reset = map (λ e. list_any (is_reset_down e) o.entries) (ends_in hosts);
  turns = at_entries (turn_found hosts) past o;
  held = at_entries (held_found hosts) past o;
  rise = turns_rise o.entries;
}

abbrev pub wanted : List ℕ → List Occurrence → Occurrence → Findings
wanted hosts past o = record {
  done = map (λ e. true) (ends_in hosts);
  short = map (λ e. true) (ends_in hosts);
  due = map (λ n. answers_wanted n o.entries (noted_of_deeds (entries_in past ++ down_in o) n n (due hosts past o n))) (0 ∷ hosts);
  reset = map (λ e. is_reset_due past o e) (ends_in hosts);
  turns = at_entries (turn_wanted hosts) past o;
  held = at_entries (held_wanted hosts) past o;
  rise = true;
}

-- ### Histories of examples

-- what is known of each history that follows a schedule
pub record IsOrderly (t : NodeHistory) : Type 0 where
  pub turns : AreInTurn (node_entries t)
  pub heard : NodesHearFirst t

abbrev pub is_damage : Line → Bool
is_damage (line.Damage e places) = true
is_damage _ = false

-- without damaged frames none is read as another one
sure : (lines : List Line) → list_any is_damage lines ≡ false → (w : NodeWorld) → NoneIsMisread w lines
sure [] none w = tt
sure (line.Damage e places ∷ lines) none w = absurd (true≢false none)
sure (l ∷ lines) none w = (refl, sure lines none (line_step w l).0)

-- nor where it is found so
abbrev pub finds_none : NodeWorld → List Line → Bool
finds_none w [] = true
finds_none w (l ∷ lines) = is_none (misread_in w l) && finds_none (line_step w l).0 lines

surely : (lines : List Line) (w : NodeWorld) → finds_none w lines ≡ true → NoneIsMisread w lines
surely [] w found = tt
surely (l ∷ lines) w found =
    let both = and_parts (is_none (misread_in w l)) (finds_none (line_step w l).0 lines) found in
    (grind arith, surely lines (line_step w l).0 both.1)

-- the header of a world with these hosts
abbrev pub header_of_hosts : List ℕ → Header
header_of_hosts hosts = record { hci = true; hosts = record { items = hosts } }

-- the history of these lines
abbrev pub history_of_lines : List ℕ → List Line → NodeHistory
history_of_lines hosts lines = record { header = header_of_hosts hosts; steps = steps_from (new_world hosts) lines }

module _ (hosts : List ℕ) (lines : List Line) (different : AreDifferent hosts) (some : AllByRecursion (λ h. (h == 0) ≡ false) hosts) where
  orderly_if : NoneIsMisread (new_world hosts) lines → IsOrderly (history_of_lines hosts lines)
  orderly_if is =
      let follows : FollowsNodes (header_of_hosts hosts) lines (history_of_lines hosts lines) =
      record { nodes = refl; header_is = refl; steps_are = refl; sure = is }
      in record {
        turns = in_turn (header_of_hosts hosts) lines (history_of_lines hosts lines) follows different some;
        heard = hear_first (header_of_hosts hosts) lines (history_of_lines hosts lines) follows different some;
      }

-- also where frames are damaged
pub all_in_turn_still : (hosts : List ℕ) (lines : List Line) → finds_none (new_world hosts) lines ≡ true → AreDifferent hosts
    → AllByRecursion (λ h. (h == 0) ≡ false) hosts → IsOrderly (history_of_lines hosts lines)
all_in_turn_still hosts lines found different some = orderly_if hosts lines different some (surely lines (new_world hosts) found)

-- ## What walks over a history find says of each fact of `Answered` whether it holds, and one walk of all of them

-- ### Messages have their turns in order

-- at a turn the first message that came and had none
abbrev pub first_found : List Entry → Entry → List Entry → Option (Option Message)
first_found t (entry.Turn e pid message) behind = Some (oldest (unhandled_in t e))
first_found t _ behind = None

abbrev pub first_wanted : List Entry → Entry → List Entry → Option (Option Message)
first_wanted t (entry.Turn e pid message) behind = Some (Some (pid, message))
first_wanted t _ behind = None

pub some_is : {X : Type 0} (x y : X) → Some x ≡ Some y → x ≡ y
some_is x y q = cc

-- a message that has its turn is the first that came and had none
abbrev pub IsFirstThere : List Entry → Entry → Type 0
IsFirstThere t (entry.Turn e pid message) = oldest (unhandled_in t e) ≡ Some (pid, message)
IsFirstThere t _ = Unit {0}

-- so it is with each of these entries, behind others
abbrev AreFirst : List Entry → List Entry → Type 0
AreFirst before t = (front back : List Entry) (x : Entry) → t ≡ front ++ (x ∷ back) → IsFirstThere (before ++ front) x

module _ (e : End) where
  becomes : (before : List Entry) (x : Entry) → IsFirstThere before x
      → Becomes (doing e x) (unhandled_in before e) (unhandled_after e (unhandled_in before e) x)
  becomes before x first = grind arith

  goes_on : (t before : List Entry) → AreFirst before t → Goes e (unhandled_in before e) t (unhandled_in (before ++ t) e)
  goes_on [] before each = ap (λ l. unhandled_in l e) (sym (append-nil before))
  goes_on (x ∷ t) before each = (
    unhandled_in (before ++ x ∷ []) e,
    (
      subst (Becomes (doing e x) (unhandled_in before e)) (sym (fold-append (unhandled_after e) [] before (x ∷ [])))
          (becomes before x (subst (λ l. IsFirstThere l x) (append-nil before) (each [] t x refl))),
      subst (λ l. Goes e (unhandled_in (before ++ x ∷ []) e) t (unhandled_in l e)) (append_assoc before (x ∷ []) t)
          (goes_on t (before ++ x ∷ []) (λ front back y q.
          subst (λ l. IsFirstThere l y) (sym (append_assoc before (x ∷ []) front)) (each (x ∷ front) back y (ap (λ l. x ∷ l) q)))),
    ),
  )

-- Where each message that has its turn is the first that came and had none, messages have their turns in the order in which they came.
pub firsts_in_turn : (t : List Entry) → ((front back : List Entry) (x : Entry) → t ≡ front ++ (x ∷ back) → IsFirstThere front x) → AreInTurn t
firsts_in_turn t each front back e at =
    let f : Front e [] front = front_goes e front back [] (unhandled_in t e) (subst (λ l. Goes e [] l (unhandled_in t e)) at (goes_on e t [] each)) in
    (f.left, all_left e front [] [] f.left refl f.goes)

pub first_so : (t : List Entry) (x : Entry) (behind : List Entry) → first_found t x behind ≡ first_wanted t x behind → IsFirstThere t x
first_so t x behind same = grind arith

abbrev AreFoundInTurn : List Entry → Type 0
AreFoundInTurn t = at_each itself first_found [] t ≡ at_each itself first_wanted [] t

in_turn_of_one_fact : (t : List Entry) → AreFoundInTurn t → AreInTurn t
in_turn_of_one_fact t same = firsts_in_turn t (λ front back x at. first_so front x back (same_behind first_found first_wanted [] t front back x same at))

-- ### Nothing comes behind an answer

abbrev none_heard : ℕ → List Entry → Bool
none_heard n [] = true
none_heard n (x ∷ entries) = not (hears n x) && none_heard n entries

abbrev pub none_behind : Entry → List Entry → Bool
none_behind x behind = option_map_or (λ n. none_heard n behind) (answerer x) true

none_hears : (n : ℕ) (entries : List Entry) → none_heard n entries ≡ true → AllByRecursion (λ y. hears n y ≡ false) entries
none_hears n [] q = tt
none_hears n (x ∷ entries) q =
    let both = and_parts (not (hears n x)) (none_heard n entries) q in (not-true (hears n x) both.0, none_hears n entries both.1)

pub heard_so : (x : Entry) (behind : List Entry) → none_behind x behind ≡ true
    → (n : ℕ) → is_answer_of n x ≡ true → AllByRecursion (λ y. hears n y ≡ false) behind
heard_so x behind known n answers = by (answerer x) known answers where
  by : (o : Option ℕ) → option_map_or (λ n. none_heard n behind) o true ≡ true → option_map_or (λ k. k == n) o false ≡ true
      → AllByRecursion (λ y. hears n y ≡ false) behind
  by None q is = absurd (true≢false (sym is))
  by (Some k) q is = none_hears n behind (subst (λ j. none_heard j behind ≡ true) (eqb-true k n is) q)

-- ### Facts

-- the facts of `Answered`
pub data Fact : Type 0 where
  InTurn : Fact
  Replied : Fact
  Held : Fact
  Done : Fact
  Short : Fact
  Due : Fact
  Reset : Fact
  Ascending : Fact
  Heard : Fact

abbrev number_of : Fact → ℕ
number_of InTurn = 0
number_of Replied = 1
number_of Held = 2
number_of Done = 3
number_of Short = 4
number_of Due = 5
number_of Reset = 6
number_of Ascending = 7
number_of Heard = 8

abbrev pub is_fact : Fact → Fact → Bool
is_fact f g = number_of f == number_of g

pub both_are : {X Y : Type 0} (p q : X × Y) → Some p ≡ Some q → (p.0 ≡ q.0) × (p.1 ≡ q.1)
both_are {X} {Y} p q s = let same : p ≡ q = some_is p q s in (ap (λ (z : X × Y). z.0) same, ap (λ (z : X × Y). z.1) same)

abbrev Unless : Bool → Type 0 → Type 0
Unless true X = Unit {0}
Unless false X = X

-- ### One fact alone

module _ (Found : Fact → Type 0) where
  abbrev One : Fact → Fact → Type 0
  One f g = Unless (is_fact f g) (Found g)

  -- all other facts are found
  abbrev pub AllOthers : Fact → Type 0
  AllOthers f = One f InTurn × One f Replied × One f Held × One f Done × One f Short × One f Due × One f Reset × One f Ascending × One f Heard

module _ (Holds : Fact → Type 0) where
  -- this fact doesn't hold, and each other one does
  abbrev pub OnlyFails : Fact → Type 0
  OnlyFails f = (Holds f → ⊥) × ((g : Fact) → is_fact f g ≡ false → Holds g)

  module _ (Found : Fact → Type 0) (found_holds : (g : Fact) → Found g → Holds g) where
    pub all_others_hold : (f : Fact) → AllOthers Found f → (g : Fact) → is_fact f g ≡ false → Holds g
    all_others_hold f all g q = grind arith

-- ### Of a history of nodes

module _ (t : NodeHistory) where
  abbrev hosts : List ℕ
  hosts = t.header.hosts.items

  abbrev AgreeAtEvents : {X : Type 0} → (List Occurrence → Occurrence → X) → (List Occurrence → Occurrence → X) → Type 0
  AgreeAtEvents f g = at_events f (occurrences_in t) ≡ at_events g (occurrences_in t)

  abbrev AgreeAtEntries : {X : Type 0} → (Moment → Entry → List Entry → X) → (Moment → Entry → List Entry → X) → Type 0
  AgreeAtEntries f g = AgreeAtEvents (at_entries f) (at_entries g)

  agree_here : {X : Type 0} (f g : List Occurrence → Occurrence → X) → AgreeAtEvents f g → AtEachOccurrence t (λ past o. f past o ≡ g past o)
  agree_here f g same past back o at = same_behind (λ past o back. f past o) (λ past o back. g past o) [] (occurrences_in t) past back o same at

  agree_inside : {X : Type 0} (f g : Moment → Entry → List Entry → X) → AgreeAtEntries f g → AtEachEntry t (λ m x behind. f m x behind ≡ g m x behind)
  agree_inside f g same past back o front behind x at inside =
      let moment : List Entry → Moment = λ l. record { past = past; cause = o.cause; so_far = l } in
      same_behind (λ l y rest. f (moment l) y rest) (λ l y rest. g (moment l) y rest) [] o.entries front behind x
      (agree_here (at_entries f) (at_entries g) same past back o at) inside

  turn_so : (m : Moment) (x : Entry) (behind : List Entry) → turn_found hosts m x behind ≡ turn_wanted hosts m x behind → IsReplied hosts m x behind
  turn_so m x behind same = grind arith

  held_so : (m : Moment) (x : Entry) (behind : List Entry) → held_found hosts m x behind ≡ held_wanted hosts m x behind → IsHeldFor hosts m x behind
  held_so m x behind same = grind arith

  abbrev pub FactOf : Fact → Type 0
  FactOf InTurn = AreInTurn (node_entries t)
  FactOf Replied = AtEachEntry t (IsReplied hosts)
  FactOf Held = AtEachEntry t (IsHeldFor hosts)
  FactOf Done = AtEachOccurrence t (AreDone hosts)
  FactOf Short = AtEachOccurrence t (AreLeftShort hosts)
  FactOf Due = AtEachOccurrence t (AreDue hosts)
  FactOf Reset = AtEachOccurrence t (AreReset hosts)
  FactOf Ascending = TurnsAscend t
  FactOf Heard = NodesHearFirst t

  -- what a walk finds of it is what is wanted
  abbrev pub IsFound : Fact → Type 0
  IsFound InTurn = AreFoundInTurn (node_entries t)
  IsFound Replied = AgreeAtEntries (turn_found hosts) (turn_wanted hosts)
  IsFound Held = AgreeAtEntries (held_found hosts) (held_wanted hosts)
  IsFound Done = AgreeAtEvents (λ past o. (found hosts past o).done) (λ past o. (wanted hosts past o).done)
  IsFound Short = AgreeAtEvents (λ past o. (found hosts past o).short) (λ past o. (wanted hosts past o).short)
  IsFound Due = AgreeAtEvents (λ past o. (found hosts past o).due) (λ past o. (wanted hosts past o).due)
  IsFound Reset = AgreeAtEvents (λ past o. (found hosts past o).reset) (λ past o. (wanted hosts past o).reset)
  IsFound Ascending = AgreeAtEvents (λ past o. (found hosts past o).rise) (λ past o. true)
  IsFound Heard = AgreeAtEntries (λ m x behind. none_behind x behind) (λ m x behind. true)

  found_holds : (g : Fact) → IsFound g → FactOf g
  found_holds InTurn q = in_turn_of_one_fact (node_entries t) q
  found_holds Replied q =
      λ past back o front behind x at inside.
      turn_so (record { past = past; cause = o.cause; so_far = front }) x behind
      (agree_inside (turn_found hosts) (turn_wanted hosts) q past back o front behind x at inside)
  found_holds Held q =
      λ past back o front behind x at inside.
      held_so (record { past = past; cause = o.cause; so_far = front }) x behind
      (agree_inside (held_found hosts) (held_wanted hosts) q past back o front behind x at inside)
  found_holds Done q =
      λ past back o at.
      same_at_each (λ e. is_done (through past o) e) (λ e. true) (ends_in hosts)
      (agree_here (λ past o. (found hosts past o).done) (λ past o. (wanted hosts past o).done) q past back o at)
  found_holds Short q =
      λ past back o at.
      same_at_each (λ e. is_left_short hosts past o e) (λ e. true) (ends_in hosts)
      (agree_here (λ past o. (found hosts past o).short) (λ past o. (wanted hosts past o).short) q past back o at)
  found_holds Due q =
      λ past back o at.
      same_at_each (λ n. answers_found n o.entries)
      (λ n. answers_wanted n o.entries (noted_of_deeds (entries_in past ++ down_in o) n n (due hosts past o n))) (0 ∷ hosts)
      (agree_here (λ past o. (found hosts past o).due) (λ past o. (wanted hosts past o).due) q past back o at)
  found_holds Reset q =
      λ past back o at.
      same_at_each (λ e. list_any (is_reset_down e) o.entries) (λ e. is_reset_due past o e) (ends_in hosts)
      (agree_here (λ past o. (found hosts past o).reset) (λ past o. (wanted hosts past o).reset) q past back o at)
  found_holds Ascending q =
      λ past back o at n.
      rise_ascends n o.entries (agree_here (λ past o. (found hosts past o).rise) (λ past o. true) q past back o at)
  found_holds Heard q =
      λ past back o front behind x at inside.
      heard_so x behind (agree_inside (λ m x behind. none_behind x behind) (λ m x behind. true) q past back o front behind x at inside)

  -- this fact refuses the history, and each other one holds of it
  abbrev pub RefusedByOnly : Fact → Type 0
  RefusedByOnly f = OnlyFails FactOf f

  pub others_hold : (f : Fact) → AllOthers IsFound f → (g : Fact) → is_fact f g ≡ false → FactOf g
  others_hold f all = all_others_hold FactOf IsFound found_holds f all

-- ### All at once

-- one walk finds what is wanted
abbrev pub IsFoundAnswered : NodeHistory → Type 0
IsFoundAnswered t = AgreeAtEvents t (found t.header.hosts.items) (wanted t.header.hosts.items)

module _ (t : NodeHistory) (orderly : IsOrderly t) (same : IsFoundAnswered t) where
  of_part : {X : Type 0} (part : Findings → X)
      → AgreeAtEvents t (λ past o. part (found t.header.hosts.items past o)) (λ past o. part (wanted t.header.hosts.items past o))
  of_part part =
      sym (mapped_at itself part (λ past o back. found t.header.hosts.items past o) [] (occurrences_in t)) ∙ ap (map part) same
      ∙ mapped_at itself part (λ past o back. wanted t.header.hosts.items past o) [] (occurrences_in t)

  pub answered : Answered t
  answered = record {
    in_turn = orderly.turns;
    done = found_holds t Done (of_part (λ (f : Findings). f.done));
    replied = found_holds t Replied (of_part (λ (f : Findings). f.turns));
    held = found_holds t Held (of_part (λ (f : Findings). f.held));
    short = found_holds t Short (of_part (λ (f : Findings). f.short));
    due = found_holds t Due (of_part (λ (f : Findings). f.due));
    reset = found_holds t Reset (of_part (λ (f : Findings). f.reset));
    ascending = found_holds t Ascending (of_part (λ (f : Findings). f.rise));
    heard = orderly.heard;
  }

-- so a history of lines without damaged frames is answered where the walk finds it
pub lines_answered : (hosts : List ℕ) (lines : List Line) → list_any is_damage lines ≡ false → AreDifferent hosts
    → AllByRecursion (λ h. (h == 0) ≡ false) hosts → IsFoundAnswered (history_of_lines hosts lines) → Answered (history_of_lines hosts lines)
lines_answered hosts lines none different some same =
    answered (history_of_lines hosts lines) (orderly_if hosts lines different some (sure lines none (new_world hosts))) same
