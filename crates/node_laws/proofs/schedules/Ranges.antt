-- What may stand in a schedule is what the laws of worlds ask for, and no wire holds more than 64 frames.
use Rattle.std.proofs.Common.{length-drop}
use Rattle.std.proofs.lemmas.Cmp.{ranked}
use Rattle.std.proofs.lemmas.List.Elements.{recursion_from_All}
use Rattle.std.proofs.lemmas.Map.Keys.{sorted_from_strictly_increasing, sorted_head, sorted_tail}
use Rattle.std.specs.List.Sorted.{IsStrictlySortedBy}
use Rattle.std.specs.Ordering.{nat_cmp}
use Rattle.std.specs.declared.cmp.Ordering.TheVariants.{Less}
use Rattle.node_laws.proofs.Words.{Activate, All, AllByRecursion, AreDifferent, AreHosts, AreInitsShort, AreNodeLinesOf, ArePlayable, AsksReset, AtController}
use Rattle.node_laws.proofs.Words.{AtHost, Bool, Comes, Control, CutOff, End, EndEvent, Ending, GoesOut, Header, IsHost, IsInitOfHost, IsNodeHeader}
use Rattle.node_laws.proofs.Words.{IsNodeLineOf, IsPlayable, IsRun, IsSentByHost, Line, Link, LinkEnd, LinkEvent, LinkInput, List, Lose, NextFrame, NoInput}
use Rattle.node_laws.proofs.Words.{OnWire, Reset, Some, Starts, Step, Stops, Take, Tick, TicksWithout, Turn, [], after_input, after_link_events, aged}
use Rattle.node_laws.proofs.Words.{aged_wire, all_at_controller, all_so, ap, arith, by_test, deactivated, ended_by, exchanged, false, finished, fits}
use Rattle.node_laws.proofs.Words.{frames_out, happens, happens_at_controller, has_input, has_restarted, has_taken, init_of, is_rset, is_some, length}
use Rattle.node_laws.proofs.Words.{length-append, ltb-false, map, nat_lt, ne_eqb, new_line, put, put_all, same_end, same_end_itself, silent, started}
use Rattle.node_laws.proofs.Words.{steps_at_controller, subst, sym, ticks_at_controller, took_with, true, turned, with_ended, ℕ, ◌++◌, ◌+◌, ◌<◌, ◌==◌, ◌∷◌, ◌≡◌}
use Rattle.node_laws.proofs.Words.{◌≤◌}
use Rattle.link_laws.specs.messages.Links.LinkEvent.{Ticks}
use Rattle.trace_model.specs.Lines.{MayFollow}
use Rattle.trace_model.specs.declared.line.Line.TheVariants as line

-- ## Ends in lists: where none stands more often in one list than in another, the first is no longer

abbrev pub one_at : Bool → ℕ
one_at true = 1
one_at false = 0

-- how often an end stands in a list
abbrev pub count : End → List End → ℕ
count e [] = 0
count e (f ∷ fs) = one_at (same_end f e) + count e fs

-- a list in which an end stands, without it
record Without (x : End) (ys : List End) : Type 0 where
  left : List End
  long : length ys ≡ length left + 1
  counts : (e : End) → count e ys ≡ one_at (same_end x e) + count e left

take_one : (x : End) (ys : List End) → 1 ≤ count x ys → Without x ys
take_one x [] some = absurd (omega (arith, some))
take_one x (y ∷ ys) some = by_test (same_end y x)
    (λ q. record {
      left = ys;
      long = omega arith;
      counts = λ e. ap (λ (z : End). one_at (same_end z e) + count e ys) (grind arith);
    })
    (λ q. let still : 1 ≤ count x ys = (let none : one_at (same_end y x) ≡ 0 = ap one_at q in omega (arith, some, none)) in
    let r : Without x ys = take_one x ys still in
    let long = r.long in
    record {
      left = y ∷ r.left;
      long = omega (arith, long);
      counts = λ e. let rest = r.counts e in omega (arith, rest);
    })

pub fewer : (xs ys : List End) → ((e : End) → count e xs ≤ count e ys) → length xs ≤ length ys
fewer [] ys each = omega arith
fewer (x ∷ xs) ys each =
    let r : Without x ys = take_one x ys (omega (arith, each x, ap one_at (same_end_itself x))) in
    omega (arith, r.long, (fewer xs r.left (λ e. let most = each e in let is = r.counts e in omega (arith, most, is))))

-- ## What may stand in a schedule of a world of nodes is what the laws of such worlds ask for

-- ### Hosts

abbrev IsAbove : ℕ → ℕ → Type 0
IsAbove x y = nat_cmp x y ≡ Less

above : (x y : ℕ) → IsAbove x y → x < y
above x y a = ranked x y Less (sym a)

others : (x : ℕ) (xs : List ℕ) → AllByRecursion (IsAbove x) xs → AllByRecursion (λ y. (y == x) ≡ false) xs
others x xs a = all_so (IsAbove x) (λ y. (y == x) ≡ false) (λ y b. ne_eqb y x (λ z. let more = above x y b in omega (arith, z, more))) xs a

different : (xs : List ℕ) → IsStrictlySortedBy nat_cmp xs → AreDifferent xs
different [] a = tt
different (x ∷ xs) a = (others x xs (sorted_head nat_cmp x xs a), different xs (sorted_tail nat_cmp x xs a))

pub hosts_are : (header : Header) → IsNodeHeader header → AreHosts header.hosts.items
hosts_are header is = record {
  all = recursion_from_All IsHost header.hosts.items is.hosts;
  different = different header.hosts.items (sorted_from_strictly_increasing header.hosts.items is.rising);
}

-- rising hosts above one of them are no more than those up to 07
few_above : (low : ℕ) (xs : List ℕ) → low ≤ 7 → AllByRecursion (IsAbove low) xs → AllByRecursion IsHost xs → IsStrictlySortedBy nat_cmp xs
    → length xs + low ≤ 7
few_above low [] most over hosts sorted = omega (arith, most)
few_above low (x ∷ xs) most over hosts sorted =
    omega (arith, few_above x xs hosts.0.1 (sorted_head nat_cmp x xs sorted) hosts.1 (sorted_tail nat_cmp x xs sorted), above low x over.0)

few : (xs : List ℕ) → AllByRecursion IsHost xs → IsStrictlySortedBy nat_cmp xs → length xs ≤ 7
few [] hosts sorted = omega arith
few (x ∷ xs) hosts sorted =
    omega (arith, few_above x xs hosts.0.1 (sorted_head nat_cmp x xs sorted) hosts.1 (sorted_tail nat_cmp x xs sorted), hosts.0.0)

pub hosts_few : (header : Header) → IsNodeHeader header → length header.hosts.items ≤ 7
hosts_few header is = grind arith

-- ### Lines

each_line : (P Q : Line → Type 0) → ((l : Line) → P l → Q l) → (lines : List Line) → AllByRecursion P lines → AllByRecursion Q lines
each_line P Q one lines a = all_so P Q one lines a

-- what may be said below a header is in these ranges, but for settling, which no world of nodes does yet
pub in_range : (header : Header) (l : Line) → MayFollow header l → ((rounds : ℕ) → l ≡ line.Settle rounds → ⊥) → IsNodeLineOf header l
in_range header l is other = grind arith

playable_line : (header : Header) (l : Line) → IsNodeLineOf header l → IsPlayable l
playable_line header l is = grind arith

pub playable : (header : Header) (lines : List Line) → AreNodeLinesOf header lines → ArePlayable lines
playable header lines are = each_line (IsNodeLineOf header) IsPlayable (playable_line header) lines are

sent_line : (header : Header) → IsNodeHeader header → (l : Line) → IsNodeLineOf header l → IsSentByHost l
sent_line header nodes l is = grind arith

pub sent_by_hosts : (header : Header) (lines : List Line) → IsNodeHeader header → AreNodeLinesOf header lines → AllByRecursion IsSentByHost lines
sent_by_hosts header lines nodes are = each_line (IsNodeLineOf header) IsSentByHost (sent_line header nodes) lines are

abbrev IsShort : List ℕ → Type 0
IsShort order = length order ≤ 4096

-- the commands that create pipes, and the last one, which sets the identity
shorts : (pipes : List (List ℕ)) (identity : List ℕ) → AllByRecursion (λ pipe. (length pipe ≡ 3) × All (λ b. b < 256) pipe) pipes
    → length identity ≡ 8 → AllByRecursion IsShort (map (λ pipe. 16 ∷ pipe) pipes ++ (1 ∷ 1 ∷ identity) ∷ [])
shorts [] identity are long = (omega (arith, long), tt)
shorts (pipe ∷ pipes) identity are long = (let three = are.0.0 in omega (arith, three), shorts pipes identity are.1 long)

inits_short : (header : Header) (identity : List ℕ) (pipes : List (List ℕ)) → length identity ≡ 8
    → All (λ pipe. (length pipe ≡ 3) × All (λ b. b < 256) pipe) pipes → AreInitsShort (Some (init_of identity pipes))
inits_short header identity pipes long are = (
  omega arith,
  (omega arith, (omega arith, (omega arith, shorts pipes identity (recursion_from_All _ pipes are) long))),
)

init_line : (header : Header) (l : Line) → IsNodeLineOf header l → IsInitOfHost l
init_line header (line.Init e identity pipes) is = (is.host, inits_short header identity pipes.items is.long is.each)
init_line header _ is = tt

pub inits_of_hosts : (header : Header) (lines : List Line) → AreNodeLinesOf header lines → AllByRecursion IsInitOfHost lines
inits_of_hosts header lines are = each_line (IsNodeLineOf header) IsInitOfHost (init_line header) lines are

-- ## No wire of a link holds more than 64 frames

-- both wires hold 64 frames at most
pub record IsFewWires (l : Link) : Type 0 where
  pub to_controller : length l.to_controller ≤ 64
  pub to_host : length l.to_host ≤ 64

-- ### Frames go out

fits_few : (wire : List OnWire) (x : OnWire) → length wire ≤ 64 → length (fits (wire ++ x ∷ [])) ≤ 64
fits_few wire x few = by_test (nat_lt 64 (length (wire ++ x ∷ [])))
    (λ q. rw q (let less = length-drop 1 (wire ++ x ∷ []) in omega (arith, less, length-append wire (x ∷ []), few)))
    (λ q. rw q (let low = ltb-false 64 (length (wire ++ x ∷ [])) q in omega (arith, low)))

put_few : (l : Link) (c : Control) → IsFewWires l → IsFewWires (put l c)
put_few l c a = by_test (is_rset c)
    (λ q. rw q (record { to_controller = a.to_controller; to_host = fits_few l.to_host (record { frame = c; age = 0; number = l.resets + 1 }) a.to_host }))
    (λ q. rw q (record { to_controller = a.to_controller; to_host = fits_few l.to_host (record { frame = c; age = 0; number = 0 }) a.to_host }))

puts_few : (l : Link) (cs : List Control) → IsFewWires l → IsFewWires (put_all l cs)
puts_few l [] a = a
puts_few l (c ∷ cs) a = puts_few (put l c) cs (put_few l c a)

-- ### Steps of one end

finished_few : (l : Link) (e : LinkEnd) (ending : Ending) → IsFewWires l → IsFewWires (finished l e ending)
finished_few l e GoesOut a =
    let p : IsFewWires (put_all l (frames_out e)) = puts_few l (frames_out e) a in record { to_controller = p.to_controller; to_host = p.to_host }
finished_few l e CutOff a = record { to_controller = omega arith; to_host = omega arith }

input_few : (l : Link) (i : LinkInput) (ts : List Turn) (ending : Ending) → IsFewWires l → IsFewWires (has_input l i ts ending)
input_few l i ts ending a =
    let b : Bool = is_some (ended_by l.controller.side i) in
    finished_few (with_ended l b) (turned (after_input l.controller.side i) ts) ending (grind arith)

taken_few : (l : Link) (x : OnWire) (xs : List OnWire) (ts : List Turn) (ending : Ending) → length xs ≤ 64 → length l.to_host ≤ 64
    → IsFewWires (has_taken l x xs ts ending)
taken_few l x xs ts ending near far =
    let b : Bool = is_some (ended_by l.controller.side (Take x.frame)) in
    let k : Link = record l { to_controller = xs } in
    let m : Link = with_ended k b in
    let fine : IsFewWires m = grind arith in
    finished_few (record m { controller = record m.controller { took = took_with l.controller.took x } })
    (turned (after_input l.controller.side (Take x.frame)) ts) ending (record { to_controller = fine.to_controller; to_host = fine.to_host })

restarted_few : (l : Link) (e : LinkEnd) (ts : List Turn) (ending : Ending) → IsFewWires (has_restarted l e ts ending)
restarted_few l e ts ending = finished_few (silent l e) (turned e ts) ending (grind arith)

step_few : (l : Link) (comes : Comes) (ts : List Turn) (ending : Ending) → IsFewWires l → IsFewWires (steps_at_controller l comes ts ending)
step_few l NextFrame ts ending a = go l.to_controller a.to_controller where
  by : List OnWire → Link
  by [] = l
  by (x ∷ xs) = has_taken l x xs ts ending

  go : (xs : List OnWire) → length xs ≤ 64 → IsFewWires (by xs)
  go [] few = a
  go (x ∷ xs) few = taken_few l x xs ts ending (omega (arith, few)) a.to_host
step_few l (AsksReset window) ts ending a = input_few l (Reset window) ts ending a
step_few l (Starts value) ts ending a = restarted_few l (started l.controller.side value) ts ending
step_few l Stops ts ending a = restarted_few l (deactivated l.controller.side) ts ending
step_few l NoInput ts ending a = finished_few l (turned l.controller.side ts) ending a

here_few : (l : Link) (e : EndEvent) → IsFewWires l → IsFewWires (happens_at_controller l e)
here_few l (Step comes ts ending) a = step_few l comes ts ending a
here_few l (Lose why) a = grind arith

all_few : (l : Link) (es : List EndEvent) → IsFewWires l → IsFewWires (all_at_controller l es)
all_few l [] a = a
all_few l (e ∷ es) a = all_few (happens_at_controller l e) es (here_few l e a)

-- ### Events

swapped_few : (l : Link) → IsFewWires l → IsFewWires (exchanged l)
swapped_few l a = record { to_controller = a.to_host; to_host = a.to_controller }

aged_wire_few : (wire : List OnWire) → length (aged_wire wire) ≤ length wire
aged_wire_few [] = omega arith
aged_wire_few (x ∷ wire) = by_test (nat_lt x.age 4) (λ q. rw q (omega (arith, aged_wire_few wire))) (λ q. rw q (omega (arith, aged_wire_few wire)))

aged_few : (l : Link) → IsFewWires l → IsFewWires (aged l)
aged_few l a =
    record { to_controller = omega (arith, aged_wire_few l.to_controller, a.to_controller); to_host = omega (arith, aged_wire_few l.to_host, a.to_host) }

tick_few : (l : Link) (ts : List Turn) (ending : Ending) → IsFewWires l → IsFewWires (ticks_at_controller l ts ending)
tick_few l ts ending a = input_few l Tick ts ending a

event_few : (l : Link) (e : LinkEvent) → IsFewWires l → IsFewWires (happens l e)
event_few l (AtController e) a = here_few l e a
event_few l (AtHost e) a = swapped_few (happens_at_controller (exchanged l) e) (here_few (exchanged l) e (swapped_few l a))
event_few l (Ticks c events h) a =
    let near : Link = all_at_controller (ticks_at_controller (aged l) c.turns c.ending) events in
    let fine : IsFewWires near =
    all_few (ticks_at_controller (aged l) c.turns c.ending) events (tick_few (aged l) c.turns c.ending (aged_few l a)) in
    swapped_few (ticks_at_controller (exchanged near) h.turns h.ending) (tick_few (exchanged near) h.turns h.ending (swapped_few near fine))
event_few l (TicksWithout events h) a =
    let near : Link = all_at_controller (aged l) events in
    let fine : IsFewWires near = all_few (aged l) events (aged_few l a) in
    swapped_few (ticks_at_controller (exchanged near) h.turns h.ending) (tick_few (exchanged near) h.turns h.ending (swapped_few near fine))
event_few l (Activate power c id h) a =
    let near : Link = steps_at_controller l (Starts power) c.turns c.ending in
    swapped_few (steps_at_controller (exchanged near) (Starts id) h.turns h.ending)
    (step_few (exchanged near) (Starts id) h.turns h.ending (swapped_few near (step_few l (Starts power) c.turns c.ending a)))

pub after_few : (es : List LinkEvent) (l : Link) → IsFewWires l → IsFewWires (after_link_events l es)
after_few [] l a = a
after_few (e ∷ es) l a = after_few es (happens l e) (event_few l e a)

pub run_few : (l : Link) → IsRun l → IsFewWires l
run_few l r = subst IsFewWires r.run.is (after_few r.events new_line (record { to_controller = omega arith; to_host = omega arith }))
