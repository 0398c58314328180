-- What is seen of a link in the entries of its steps is what the link keeps, and along each wire the ages of frames don't rise.
use Rattle.std.specs.Prelude.{◌+◌}
use Rattle.link_laws.proofs.Words.{Acked, Activate, Active, AsksReset, AtController, AtHost, Bool, Comes, Control, Controller, CutOff, End, EndEvent, Ending}
use Rattle.link_laws.proofs.Words.{Entry, GaveUp, GoesOut, Got, HasTick, Host, IsBare, IsLine, IsStart, Link, LinkEnd, LinkEvent, LinkInput, List, Lose, Lost}
use Rattle.link_laws.proofs.Words.{NextFrame, NoInput, Node, NumberedEnd, OnWire, Report, Reset, Rset, Seen, Start, Starts, Step, Stop, Stops, Take, Ticks}
use Rattle.link_laws.proofs.Words.{TicksWithout, TooMany, TooOld, Turn, [], after_input, after_link_events, aged, aged_entries, aged_wire}
use Rattle.link_laws.proofs.Words.{all_at_controller, ap, arith, cond, drop, ended_by, ending_entries, entries, entries_of_events, event_entries, exchanged}
use Rattle.link_laws.proofs.Words.{false, finished, first_lost, fits, frames_out, happens, happens_at_controller, here_entries, if_so, is_rset}
use Rattle.link_laws.proofs.Words.{is_some, kept, left_after, ltb-false, ltb-true, map, nat_lt, number_of, older, option_to_list, put, put_all, put_entries}
use Rattle.link_laws.proofs.Words.{puts_entries, refl, report, rest_entries, see, see_all, sent_all, silent, step_entries, steps_at_controller, subst, sym}
use Rattle.link_laws.proofs.Words.{taken_entries, tick_entries, ticks_at_controller, told, told_of, took_with, trace, true, turn, turn_entries, turn_entry}
use Rattle.link_laws.proofs.Words.{turned, whole_acked, with_ended, ℕ, ◌++◌, ◌<◌, ◌∙◌, ◌∷◌, ◌≡◌}
use Rattle.link_laws.specs.entries.Entries.Entry.{Down, Tick, Up}
use Rattle.link_laws.specs.entries.Reading.{nothing_seen}
use Rattle.link_laws.proofs.Cases.{by_list, by_test}
use Rattle.link_laws.proofs.sessions.Steps.{aged-fresh}
use Rattle.link_laws.proofs.sessions.Wire.{Young, young_later, young_push}

-- ## What is seen in the entries of a step is what the link keeps

-- what a link keeps, seen from the end with this name, which is its controller's
abbrev pub seen_as : End → Link → Seen
seen_as Controller l = kept l
seen_as Host l = kept (exchanged l)

pub see_all-append : (s : Seen) (t u : List Entry) → see_all s (t ++ u) ≡ see_all (see_all s t) u
see_all-append s [] u = refl
see_all-append s (e ∷ t) u = see_all-append (see s e) t u

-- ### Entries that tell nothing of wires

-- nothing is seen in these
abbrev Plain : List Entry → Type 0
Plain t = (s : Seen) → see_all s t ≡ s

plain-append : (t u : List Entry) → Plain t → Plain u → Plain (t ++ u)
plain-append t u p q s = see_all-append s t u ∙ (ap (λ z. see_all z u) (p s) ∙ q s)

plain_so : (b : Bool) (e : Entry) → ((s : Seen) → see s e ≡ s) → Plain (if_so b e)
plain_so b e p s = grind arith

plain_map : {A : Type 0} (f : A → Entry) (xs : List A) → ((x : A) (s : Seen) → see s (f x) ≡ s) → Plain (map f xs)
plain_map f [] p s = refl
plain_map f (x ∷ xs) p s = ap (λ z. see_all z (map f xs)) (p x s) ∙ plain_map f xs p s

plain_told : (who : End) (n : ℕ) (r : Report) (acked : ℕ) → Plain (told who n r acked)
plain_told who n r acked =
    let got = plain_map (Got who n) r.got (λ m s. refl) in
    plain-append (map (Down who) (option_to_list r.ended))
    (if_so r.began (Up who n) ++ (if_so r.became_active (Active who)
    ++ (map (GaveUp who) (option_to_list r.gave_up) ++ (if_so (nat_lt 0 r.acked) (Acked who n acked) ++ map (Got who n) r.got))))
    (plain_map (Down who) (option_to_list r.ended) (λ m s. refl)) (grind arith)

plain_turn : (who : End) (n : ℕ) (e : LinkEnd) (t : Turn) → Plain (turn_entry who n e t)
plain_turn who n e t s = grind arith

plain_turns : (who : End) (n : ℕ) (e : LinkEnd) (ts : List Turn) → Plain (turn_entries who n e ts)
plain_turns who n e [] s = refl
plain_turns who n e (t ∷ ts) s =
    plain-append (turn_entry who n e t) (turn_entries who n (turn e t) ts) (plain_turn who n e t) (plain_turns who n (turn e t) ts) s

-- ### Frames that go out

-- where a wire has a frame more
abbrev loses : End → Bool → List OnWire → List Entry
loses who b wire = cond b (first_lost who TooMany wire) []

-- the link with a frame more on the wire to the host, before one is pushed out
abbrev more : Link → Control → Link
more l c = by_kind (is_rset c) where
  by_kind : Bool → Link
  by_kind true = record l { controller = record l.controller { emitted = l.resets + 1 }; resets = l.resets + 1 }
  by_kind false = l

put_seen : (who : End) (l : Link) (c : Control) → see_all (seen_as who l) (put_entries who l c) ≡ seen_as who (put l c)
put_seen who l c = grind arith

puts_seen : (who : End) (cs : List Control) (l : Link) → see_all (seen_as who l) (puts_entries who l cs) ≡ seen_as who (put_all l cs)
puts_seen who [] l = refl
puts_seen who (c ∷ cs) l =
    see_all-append (seen_as who l) (put_entries who l c) (puts_entries who (put l c) cs)
    ∙ (ap (λ s. see_all s (puts_entries who (put l c) cs)) (put_seen who l c) ∙ puts_seen who cs (put l c))

-- ### A step

-- both wires are empty
abbrev emptied : Link → Link
emptied l = record l { to_controller = []; to_host = [] }

silent_seen : (who : End) (l : Link) (e : LinkEnd) → seen_as who (silent l e) ≡ seen_as who (emptied l)
silent_seen who l e = grind arith

ending_seen : (who : End) (l : Link) (e : LinkEnd) (ending : Ending) → see_all (seen_as who l) (ending_entries who l e ending)
    ≡ seen_as who (finished l e ending)
ending_seen who l e GoesOut = puts_seen who (frames_out e) l ∙ sym (let h0 = (put_all l (frames_out e)) in let h1 = (sent_all e) in grind arith)
ending_seen who l e CutOff = grind arith

-- after what is told of an input
told_seen : (who : End) (l k : Link) (h : NumberedEnd) (i : LinkInput) (e : LinkEnd) (ts : List Turn) (ending : Ending) → seen_as who k ≡ seen_as who l
    → see_all (seen_as who l) (told_of who h i ++ rest_entries who k e ts ending) ≡ seen_as who (finished k (turned e ts) ending)
told_seen who l k h i e ts ending same =
    see_all-append (seen_as who l) (told_of who h i) (rest_entries who k e ts ending)
    ∙ (ap (λ s. see_all s (rest_entries who k e ts ending))
    (plain_told who (number_of h) (report h.side i) (whole_acked (after_input h.side i)) (seen_as who l) ∙ sym same)
    ∙ (grind (arith, see_all-append, number_of, turned, plain_turns, ending_seen)))

pub step_seen : (who : End) (l : Link) (comes : Comes) (ts : List Turn) (ending : Ending)
    → see_all (seen_as who l) (step_entries who l comes ts ending) ≡ seen_as who (steps_at_controller l comes ts ending)
step_seen who l (AsksReset window) ts ending =
    let i : LinkInput = Reset window in
    told_seen who l (with_ended l (is_some (ended_by l.controller.side i))) l.controller i (after_input l.controller.side i) ts ending
    (grind arith)
step_seen who l (Starts value) ts ending = restart who
  where
    i : LinkInput
    i = Start value

    k : Link
    k = silent l (after_input l.controller.side i)

    rest : (who : End) → see_all (seen_as who (emptied l))
        (told_of who l.controller i ++ rest_entries who k (after_input l.controller.side i) ts ending)
        ≡ seen_as who (finished k (turned (after_input l.controller.side i) ts) ending)
    rest who = told_seen who (emptied l) k l.controller i (after_input l.controller.side i) ts ending (silent_seen who l (after_input l.controller.side i))

    restart : (who : End) → see_all (seen_as who l) (step_entries who l (Starts value) ts ending) ≡ seen_as who (steps_at_controller l (Starts value) ts ending)
    restart Controller = rest Controller
    restart Host = rest Host
step_seen who l Stops ts ending = restart who
  where
    i : LinkInput
    i = Stop

    k : Link
    k = silent l (after_input l.controller.side i)

    rest : (who : End) → see_all (seen_as who (emptied l))
        (told_of who l.controller i ++ rest_entries who k (after_input l.controller.side i) ts ending)
        ≡ seen_as who (finished k (turned (after_input l.controller.side i) ts) ending)
    rest who = told_seen who (emptied l) k l.controller i (after_input l.controller.side i) ts ending (silent_seen who l (after_input l.controller.side i))

    restart : (who : End) → see_all (seen_as who l) (step_entries who l Stops ts ending) ≡ seen_as who (steps_at_controller l Stops ts ending)
    restart Controller = rest Controller
    restart Host = rest Host
step_seen who l NoInput ts ending = grind (arith, see_all-append, number_of, turned, plain_turns, ending_seen)
step_seen who l NextFrame ts ending =
    by_list {P = see_all (seen_as who l) (step_entries who l NextFrame ts ending) ≡ seen_as who (steps_at_controller l NextFrame ts ending)} l.to_controller
    (λ q. rw q refl) (λ x xs q.
    let i : LinkInput = Take x.frame in
    let h : NumberedEnd = record l.controller { took = took_with l.controller.took x } in
    let k : Link = left_after l x xs in
    ap (see_all (seen_as who l)) (some x xs q)
    ∙ (ap (λ s. see_all s (told_of who h i ++ rest_entries who k (after_input l.controller.side i) ts ending)) (grind arith)
    ∙ (told_seen who (took_link x xs) k h i (after_input l.controller.side i) ts ending (grind arith)
    ∙ ap (seen_as who) (sym (rw q refl)))))
  where
    took_link : OnWire → List OnWire → Link
    took_link x xs = record l { to_controller = xs; controller = record l.controller { took = took_with l.controller.took x } }

    some : (x : OnWire) (xs : List OnWire) → l.to_controller ≡ x ∷ xs → step_entries who l NextFrame ts ending ≡ taken_entries who l x xs ts ending
    some x xs q = rw q refl

pub here_seen : (who : End) (l : Link) (e : EndEvent) → see_all (seen_as who l) (here_entries who l e) ≡ seen_as who (happens_at_controller l e)
here_seen who l (Step comes ts ending) = step_seen who l comes ts ending
here_seen who l (Lose why) = grind arith

pub all_seen : (who : End) (es : List EndEvent) (l : Link) → see_all (seen_as who l) (entries_of_events who l es) ≡ seen_as who (all_at_controller l es)
all_seen who [] l = refl
all_seen who (e ∷ es) l =
    see_all-append (seen_as who l) (here_entries who l e) (entries_of_events who (happens_at_controller l e) es)
    ∙ (ap (λ s. see_all s (entries_of_events who (happens_at_controller l e) es)) (here_seen who l e) ∙ all_seen who es (happens_at_controller l e))

pub tick_seen : (who : End) (l : Link) (node : Node)
    → see_all (seen_as who l) (tick_entries who l node) ≡ seen_as who (ticks_at_controller l node.turns node.ending)
tick_seen who l node =
    let i : LinkInput = HasTick in
    told_seen who l (with_ended l (is_some (ended_by l.controller.side i))) l.controller i (after_input l.controller.side i) node.turns node.ending
    (grind arith)

-- ## Along each wire the ages of frames don't rise, and what is seen of a link is what it keeps

-- along a wire ages don't rise, and none is above four
record Ages (l : Link) : Type 0 where
  pub near : Young 4 l.to_controller
  pub there : Young 4 l.to_host

young_fits : (w : List OnWire) → Young 4 w → Young 4 (fits w)
young_fits w y = grind (arith, young_later)

ages_put : (l : Link) (c : Control) → Ages l → Ages (put l c)
ages_put l c a = go c
  where
    there : (n : ℕ) (c : Control) → Young 4 (fits (l.to_host ++ record { frame = c; age = 0; number = n } ∷ []))
    there n c =
        let x : OnWire = record { frame = c; age = 0; number = n } in young_fits (l.to_host ++ x ∷ []) (young_push 4 l.to_host x refl a.there)

    go : (c : Control) → Ages (put l c)
    go (Rset w caps) = record { near = a.near; there = there (l.resets + 1) (Rset w caps) }
    go frame = record { near = a.near; there = there 0 frame }

ages_puts : (cs : List Control) (l : Link) → Ages l → Ages (put_all l cs)
ages_puts [] l a = a
ages_puts (c ∷ cs) l a = ages_puts cs (put l c) (ages_put l c a)

ages_ended : (l : Link) (b : Bool) → Ages l → Ages (with_ended l b)
ages_ended l b a = grind arith

ages_finished : (l : Link) (e : LinkEnd) (ending : Ending) → Ages l → Ages (finished l e ending)
ages_finished l e GoesOut a = let b = ages_puts (frames_out e) l a in record { near = b.near; there = b.there }
ages_finished l e CutOff a = record { near = tt; there = tt }

dropped : (w : List OnWire) → Young 4 w → Young 4 (drop 1 w)
dropped [] y = tt
dropped (x ∷ xs) y = young_later x.age 4 xs y.0 y.1

ages_step : (l : Link) (comes : Comes) (ts : List Turn) (ending : Ending) → Ages l → Ages (steps_at_controller l comes ts ending)
ages_step l NextFrame ts ending a =
    by_list {P = Ages (steps_at_controller l NextFrame ts ending)} l.to_controller (λ q. rw q (record { near = tt; there = a.there })) (λ x xs q.
    let m : Link = with_ended (record l { to_controller = xs }) (is_some (ended_by l.controller.side (Take x.frame))) in
    let k : Link = record m { controller = record m.controller { took = took_with l.controller.took x } } in
    let y : Young 4 (x ∷ xs) = subst (Young 4) q a.near in
    let less : Ages (record l { to_controller = xs }) = record { near = young_later x.age 4 xs y.0 y.1; there = a.there } in
    let b = ages_ended (record l { to_controller = xs }) (is_some (ended_by l.controller.side (Take x.frame))) less in
    rw q (ages_finished k (turned (after_input l.controller.side (Take x.frame)) ts) ending (record { near = b.near; there = b.there })))
ages_step l (AsksReset window) ts ending a =
    ages_finished (with_ended l (is_some (ended_by l.controller.side (Reset window)))) (turned (after_input l.controller.side (Reset window)) ts) ending
    (ages_ended l (is_some (ended_by l.controller.side (Reset window))) a)
ages_step l (Starts value) ts ending a =
    ages_finished (silent l (after_input l.controller.side (Start value))) (turned (after_input l.controller.side (Start value)) ts) ending
    (grind arith)
ages_step l Stops ts ending a =
    ages_finished (silent l (after_input l.controller.side Stop)) (turned (after_input l.controller.side Stop) ts) ending
    (grind arith)
ages_step l NoInput ts ending a = ages_finished l (turned l.controller.side ts) ending a

ages_here : (l : Link) (e : EndEvent) → Ages l → Ages (happens_at_controller l e)
ages_here l (Step comes ts ending) a = ages_step l comes ts ending a
ages_here l (Lose why) a = record { near = dropped l.to_controller a.near; there = a.there }

ages_all : (es : List EndEvent) (l : Link) → Ages l → Ages (all_at_controller l es)
ages_all [] l a = a
ages_all (e ∷ es) l a = ages_all es (happens_at_controller l e) (ages_here l e a)

ages_other : (l : Link) → Ages l → Ages (exchanged l)
ages_other l a = record { near = a.there; there = a.near }

young_aged : (w : List OnWire) → Young 4 w → Young 4 (aged_wire w)
young_aged w y = let z = aged-fresh w y in subst (Young 4) (sym z.0) z.1

ages_aged : (l : Link) → Ages l → Ages (aged l)
ages_aged l a = record { near = young_aged l.to_controller a.near; there = young_aged l.to_host a.there }

ages_tick : (l : Link) (ts : List Turn) (ending : Ending) → Ages l → Ages (ticks_at_controller l ts ending)
ages_tick l ts ending a =
    ages_finished (with_ended l (is_some (ended_by l.controller.side HasTick))) (turned (after_input l.controller.side HasTick) ts) ending
    (ages_ended l (is_some (ended_by l.controller.side HasTick)) a)

ages_event : (l : Link) (e : LinkEvent) → Ages l → Ages (happens l e)
ages_event l (AtController e) a = ages_here l e a
ages_event l (AtHost e) a = ages_other (happens_at_controller (exchanged l) e) (ages_here (exchanged l) e (ages_other l a))
ages_event l (Ticks c es h) a =
    let near : Link = ticks_at_controller (aged l) c.turns c.ending in
    let m : Link = exchanged (all_at_controller near es) in
    ages_other (ticks_at_controller m h.turns h.ending)
    (ages_tick m h.turns h.ending (ages_other (all_at_controller near es) (ages_all es near (ages_tick (aged l) c.turns c.ending (ages_aged l a)))))
ages_event l (TicksWithout es h) a =
    let m : Link = exchanged (all_at_controller (aged l) es) in
    ages_other (ticks_at_controller m h.turns h.ending)
    (ages_tick m h.turns h.ending (ages_other (all_at_controller (aged l) es) (ages_all es (aged l) (ages_aged l a))))
ages_event l (Activate power c id h) a =
    let near : Link = steps_at_controller l (Starts power) c.turns c.ending in
    ages_other (steps_at_controller (exchanged near) (Starts id) h.turns h.ending)
    (ages_step (exchanged near) (Starts id) h.turns h.ending (ages_other near (ages_step l (Starts power) c.turns c.ending a)))

-- ### A tick

none_aged : (who : End) (w : List OnWire) (b : ℕ) → b < 4 → Young b w → (aged_entries who w ≡ []) × (aged_wire w ≡ older w)
none_aged who [] b i y = (refl, refl)
none_aged who (x ∷ xs) b i y =
    by_test {P = (aged_entries who (x ∷ xs) ≡ []) × (aged_wire (x ∷ xs) ≡ older (x ∷ xs))} (nat_lt x.age 4)
    (λ q. (
      rw q (none_aged who xs x.age (omega (arith, i, y.0)) y.1).0,
      rw q (ap (λ v. record x { age = x.age + 1 } ∷ v) (none_aged who xs x.age (omega (arith, i, y.0)) y.1).1),
    ))
    (λ q. absurd (let g = ltb-false x.age 4 q in omega (arith, g, i, y.0)))

-- the wire to an end is w
abbrev with_wire : End → Seen → List OnWire → Seen
with_wire Controller s w = record s { to_controller = w }
with_wire Host s w = record s { to_host = w }

aged_seen : (who : End) (s : Seen) (w : List OnWire) → Young 4 w → see_all (with_wire who s (older w)) (aged_entries who w) ≡ with_wire who s (aged_wire w)
aged_seen who s [] y = refl
aged_seen who s (x ∷ xs) y =
    by_test {P = see_all (with_wire who s (older (x ∷ xs))) (aged_entries who (x ∷ xs)) ≡ with_wire who s (aged_wire (x ∷ xs))} (nat_lt x.age 4) (λ q.
    let z = none_aged who xs x.age (ltb-true x.age 4 q) y.1 in
    let e : aged_entries who (x ∷ xs) ≡ [] = rw q z.0 in
    let w : aged_wire (x ∷ xs) ≡ older (x ∷ xs) = rw q (ap (λ v. record x { age = x.age + 1 } ∷ v) z.1) in
    ap (see_all (with_wire who s (older (x ∷ xs)))) e ∙ ap (with_wire who s) (sym w))
    (λ q.
    let e : aged_entries who (x ∷ xs) ≡ Lost who x.frame TooOld ∷ aged_entries who xs = rw q refl in
    let w : aged_wire (x ∷ xs) ≡ aged_wire xs = rw q refl in
    ap (see_all (with_wire who s (older (x ∷ xs)))) e
    ∙ (ap (λ z. see_all z (aged_entries who xs)) (grind arith) ∙ ((aged_seen who s xs (young_later x.age 4 xs y.0 y.1)) ∙ ap (with_wire who s) (sym w))))

both_aged : (l : Link) → Ages l
    → see_all (see (kept l) Tick) (aged_entries Controller l.to_controller ++ aged_entries Host l.to_host) ≡ kept (aged l)
both_aged l a =
    let s : Seen = see (kept l) Tick in
    see_all-append s (aged_entries Controller l.to_controller) (aged_entries Host l.to_host)
    ∙ (ap (λ z. see_all z (aged_entries Host l.to_host)) (aged_seen Controller s l.to_controller a.near)
    ∙ aged_seen Host (record s { to_controller = aged_wire l.to_controller }) l.to_host a.there)

-- ### Events

-- these entries, and then those, take what is seen from s over t to u
then : (s t u : Seen) (xs ys : List Entry) → see_all s xs ≡ t → see_all t ys ≡ u → see_all s (xs ++ ys) ≡ u
then s t u xs ys p q = see_all-append s xs ys ∙ (ap (λ z. see_all z ys) p ∙ q)

-- behind those of the frames that are too old, which come first in a tick
behind_aged : (l : Link) (rest : List Entry) (u : Seen) → Ages l → see_all (kept (aged l)) rest ≡ u
    → see_all (see (kept l) Tick) (aged_entries Controller l.to_controller ++ (aged_entries Host l.to_host ++ rest)) ≡ u
behind_aged l rest u a q =
    let s : Seen = see (kept l) Tick in
    see_all-append s (aged_entries Controller l.to_controller) (aged_entries Host l.to_host ++ rest)
    ∙ (see_all-append (see_all s (aged_entries Controller l.to_controller)) (aged_entries Host l.to_host) rest
    ∙ (ap (λ z. see_all z rest) (sym (see_all-append s (aged_entries Controller l.to_controller) (aged_entries Host l.to_host)) ∙ both_aged l a) ∙ q))

event_seen : (l : Link) (e : LinkEvent) → Ages l → see_all (kept l) (event_entries l e) ≡ kept (happens l e)
event_seen l (AtController e) a = here_seen Controller l e
event_seen l (AtHost e) a = here_seen Host (exchanged l) e
event_seen l (Ticks c es h) a =
    let near : Link = ticks_at_controller (aged l) c.turns c.ending in
    let m : Link = all_at_controller near es in
    let last : List Entry = tick_entries Host (exchanged m) h in
    let four = then (kept near) (kept m) (kept (happens l (Ticks c es h))) (entries_of_events Controller near es) last (all_seen Controller es near)
    (tick_seen Host (exchanged m) h) in
    let three = then (kept (aged l)) (kept near) (kept (happens l (Ticks c es h))) (tick_entries Controller (aged l) c)
    (entries_of_events Controller near es ++ last) (tick_seen Controller (aged l) c) four in
    behind_aged l (tick_entries Controller (aged l) c ++ (entries_of_events Controller near es ++ last)) (kept (happens l (Ticks c es h))) a three
event_seen l (TicksWithout es h) a =
    let m : Link = all_at_controller (aged l) es in
    let last : List Entry = tick_entries Host (exchanged m) h in
    let two = then (kept (aged l)) (kept m) (kept (happens l (TicksWithout es h))) (entries_of_events Controller (aged l) es) last
    (all_seen Controller es (aged l)) (tick_seen Host (exchanged m) h) in
    behind_aged l (entries_of_events Controller (aged l) es ++ last) (kept (happens l (TicksWithout es h))) a two
event_seen l (Activate power c id h) a =
    let near : Link = steps_at_controller l (Starts power) c.turns c.ending in
    then (kept l) (kept near) (kept (happens l (Activate power c id h))) (step_entries Controller l (Starts power) c.turns c.ending)
    (step_entries Host (exchanged near) (Starts id) h.turns h.ending) (step_seen Controller l (Starts power) c.turns c.ending)
    (step_seen Host (exchanged near) (Starts id) h.turns h.ending)

events_seen : (events : List LinkEvent) (l : Link) → Ages l → see_all (kept l) (entries l events) ≡ kept (after_link_events l events)
events_seen [] l a = refl
events_seen (e ∷ es) l a =
    then (kept l) (kept (happens l e)) (kept (after_link_events (happens l e) es)) (event_entries l e) (entries (happens l e) es) (event_seen l e a)
    (events_seen es (happens l e) (ages_event l e a))

pub read_off : (l : Link) → IsStart l → (events : List LinkEvent) → see_all nothing_seen (trace l events) ≡ kept (after_link_events l events)
read_off l IsBare events = events_seen events l (record { near = tt; there = tt })
read_off l IsLine events = events_seen events l (record { near = tt; there = tt })
