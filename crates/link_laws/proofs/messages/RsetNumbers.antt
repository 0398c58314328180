-- RSETs on a link come of ticks and of resets that are asked for, and their numbers are no greater than their count.
use Rattle.link_laws.proofs.Words.{Act as ActFrame, ActDue, ActEvent, ActTake, ActTick, Activate, AsksReset, AtController, AtHost, Bool, Clt}
use Rattle.link_laws.proofs.Words.{Comes, Control, CutOff, Due, EndEvent, EndState, Ending, FetchMessage, Fragment, Give, GoesOut, HasTick as Tick, Hold, I}
use Rattle.link_laws.proofs.Words.{IsStart, Kind, Link, LinkEnd, LinkEvent, LinkInput, LinkState, List, Lose, NextFrame, NoInput, None, NumberedEnd, OnWire}
use Rattle.link_laws.proofs.Words.{Option, Rej_due, Release, Reset, Rnr_due, Rr_due, Rset_due, S, SetAside, Some, Starts, Step, Stops, Take, Ticks}
use Rattle.link_laws.proofs.Words.{TicksWithout, Turn, Ua_due, Up, [], acknowledged, activated, after_frames, after_input, after_link_events, aged, aged_wire}
use Rattle.link_laws.proofs.Words.{all_at_controller, among, arith, cond, deactivated, drop, due_left, ended_by, exchanged, false, fetched, finished, fits}
use Rattle.link_laws.proofs.Words.{frame_due, frames_of, frames_out, had_tick, happens, happens_at_controller, has_input, has_restarted, has_taken, heard}
use Rattle.link_laws.proofs.Words.{is_faulty, is_open, is_rset, is_some, is_up, left_after, most_frames, moved, nat_lt, news, not, number_of, place_of, put}
use Rattle.link_laws.proofs.Words.{put_all, put_down, received, refl, reset_with, rset_causes_in, rsets_among, rsets_due, sent_all, silent, started}
use Rattle.link_laws.proofs.Words.{steps_at_controller, suc, take, take_answer, taken, tick_answer, ticked, ticks_at_controller, took, took_with, true}
use Rattle.link_laws.proofs.Words.{turn, turned, waiting_from, with_ended, zero, ℕ, ◌++◌, ◌+◌, ◌-◌, ◌∙◌, ◌∷◌, ◌≡◌, ◌≤◌}
use Rattle.link_laws.specs.machine.Machine.{unless}
use Rattle.link_laws.specs.messages.Rsets.{EndIsLow, HasLowNumbers, NumbersWithin, WireIsLow, resets_in_coming, resets_in_event, resets_in_events, rset_causes}
use Rattle.link_laws.specs.messages.Rsets.{rsets_made}
use Rattle.link_laws.proofs.Cases.{by_option, by_test}
use Rattle.link_laws.proofs.machine.Sound.{by_taken, by_tick}
use Rattle.link_laws.proofs.places.Joined.{ready_cases, received_cases}

-- ## An end makes an RSET only in a tick and where a reset is asked for, one at most: no frame that it takes makes one, nor does its node

-- ### Control frames that are due

-- one more
due_more : (ds : List Due) (d : Due) → rsets_among (ds ++ d ∷ []) ≡ rsets_among ds + rsets_among (d ∷ [])
due_more [] d = omega arith
due_more (Rset_due ∷ ds) d = let z = due_more ds d in omega (arith, z)
due_more (Rr_due ∷ ds) d = due_more ds d
due_more (Rej_due ∷ ds) d = due_more ds d
due_more (Rnr_due ∷ ds) d = due_more ds d
due_more (Ua_due ∷ ds) d = due_more ds d

-- one more that is no RSET
with_other : (ds : List Due) (d : Due) → rsets_among (d ∷ []) ≡ 0 → rsets_among (ds ++ d ∷ []) ≤ rsets_among ds
with_other ds d q = let z = due_more ds d in omega (arith, z, q)

-- ### A frame

up_I : (e : EndState) (ns nr : ℕ) (info : Fragment) → e.phase ≡ Up → rsets_among (taken e (I ns nr info)).due ≤ rsets_among e.due
up_I e ns nr info up = by_option (place_of e.session nr) (λ q. rw (up, q) (omega arith)) (λ x q. rw (up, q) (let z = by x in rw up at z))
  where
    by : (x : ℕ) → rsets_among (received (acknowledged e x) ns info).due ≤ rsets_among e.due
    by x =
        received_cases (λ f. rsets_among f.due ≤ rsets_among e.due) (acknowledged e x) ns info (λ _. with_other e.due Rr_due refl) (λ _ _. omega arith)
        (λ _ _. with_other e.due Rej_due refl) (λ _ _. with_other e.due Rr_due refl) (with_other e.due Rnr_due refl)

up_S : (e : EndState) (k : Kind) (nr : ℕ) → e.phase ≡ Up → rsets_among (taken e (S k nr)).due ≤ rsets_among e.due
up_S e k nr up = grind arith

taken_due : (e : EndState) (c : Control) → rsets_among (taken e c).due ≤ rsets_among e.due
taken_due e c =
    by_taken (λ _ f _. rsets_among f.due ≤ rsets_among e.due) e (up_I e) (up_S e) (λ _. omega arith) (λ _ _ _. omega arith)
    (λ _ _ _. with_other e.due Ua_due refl) (λ _ _ _. with_other e.due Ua_due refl) (λ _. omega arith) c

-- ### A tick and a reset

left_due : (p : LinkState) (ds : List Due) → rsets_among (due_left p ds) ≤ rsets_among ds
left_due p ds = grind arith

-- an end that begins to wait sends one RSET
waiting_due : (e : EndState) → rsets_among (waiting_from e).due ≤ rsets_among e.due + 1
waiting_due e =
    let z = due_more (due_left e.phase e.due) Rset_due in let w = left_due e.phase e.due in omega (arith, z, w)

ticked_due : (e : EndState) → rsets_among (ticked e).due ≤ rsets_among e.due + 1
ticked_due e = grind (arith, by_tick, waiting_due, due_more)

reset_due : (s : EndState) (w : ℕ) → rsets_among (reset_with s w).due ≤ rsets_among s.due + 1
reset_due s w = grind (arith, waiting_from, waiting_due)

-- ### An end over messages

moved_due : (e : LinkEnd) (b : Bool) (s : EndState) → rsets_due (moved e b s) ≡ rsets_among s.due
moved_due e b s = grind arith

-- a packet that can't be joined takes the link down, and no RSET goes out
down_due : (e : LinkEnd) (b : Bool) → rsets_due (put_down b e) ≤ rsets_due e
down_due e b = grind arith

activated_due : (e : LinkEnd) (event : ActEvent) → rsets_due (activated e event) ≤ rsets_due e
activated_due e event = grind arith

heard_due : (e : LinkEnd) (c : Control) → rsets_due (heard e c) ≤ rsets_due e
heard_due e c = go (is_faulty (taken e.shdlc c).session)
  where
    f : LinkEnd
    f = moved e (is_some (take_answer e.shdlc c).ended) (taken e.shdlc c)

    go : (b : Bool) → rsets_due (cond b (put_down true e) (record f { got = e.got ++ news e.shdlc.session (taken e.shdlc c) })) ≤ rsets_due e
    go true = down_due e true
    go false =
        let m = moved_due e (is_some (take_answer e.shdlc c).ended) (taken e.shdlc c) in let z = taken_due e.shdlc c in omega (arith, m, z)

-- no frame makes an RSET
took_due : (e : LinkEnd) (c : Control) → rsets_due (took e c) ≤ rsets_due e
took_due e (ActFrame act again) = activated_due e (ActTake act again)
took_due e Clt = omega arith
took_due e frame = grind (arith, is_open, heard, heard_due)

-- a tick makes one at most
had_tick_due : (e : LinkEnd) → rsets_due (had_tick e) ≤ rsets_due e + 1
had_tick_due e = go (is_open e.role)
  where
    go : (b : Bool) → rsets_due (cond b (moved e (is_some (tick_answer e.shdlc).ended) (ticked e.shdlc)) (activated e ActTick)) ≤ rsets_due e + 1
    go true =
        let m = moved_due e (is_some (tick_answer e.shdlc).ended) (ticked e.shdlc) in let z = ticked_due e.shdlc in omega (arith, m, z)
    go false = let z = activated_due e ActTick in omega (arith, z)

-- and so does a reset
had_reset_due : (e : LinkEnd) (window : Option ℕ) → rsets_due (after_input e (Reset window)) ≤ rsets_due e + 1
had_reset_due e window = grind (arith, unless, moved_due, is_some, reset_due)

-- ### What a node does to an end

turn_due : (e : LinkEnd) (t : Turn) → rsets_due (turn e t) ≤ rsets_due e
turn_due e (Give m) = grind arith
turn_due e (Hold held) =
    ready_cases (λ s. rsets_among s.due ≤ rsets_among e.shdlc.due) e.shdlc (not held) (omega arith) (omega arith) (with_other e.shdlc.due Rr_due refl)
turn_due e FetchMessage = omega arith
turn_due e SetAside = grind arith
turn_due e Release = omega arith

turned_due : (ts : List Turn) (e : LinkEnd) → rsets_due (turned e ts) ≤ rsets_due e
turned_due [] e = omega arith
turned_due (t ∷ ts) e = let z = turned_due ts (turn e t) in let o = turn_due e t in omega (arith, z, o)

-- ## In each event of a link its ends make no more RSETs than they have ticks and are asked for resets, whatever their nodes do

-- ### RSETs among frames

abbrev rsets : List Control → ℕ
rsets [] = 0
rsets (c ∷ cs) = cond (is_rset c) 1 0 + rsets cs

rsets_append : (xs ys : List Control) → rsets (xs ++ ys) ≡ rsets xs + rsets ys
rsets_append [] ys = omega arith
rsets_append (x ∷ xs) ys = let z = rsets_append xs ys in omega (arith, z)

take_and_drop : (k : ℕ) (fs : List Control) → rsets (take k fs) + rsets (drop k fs) ≡ rsets fs
take_and_drop zero fs = omega arith
take_and_drop (suc k) [] = omega arith
take_and_drop (suc k) (f ∷ fs) = let z = take_and_drop k fs in omega (arith, z)

-- ACT frames among others are no RSETs
among_rsets : (n : ℕ) (acts : List ActDue) (fs : List Control) → rsets (among n acts fs) ≡ rsets fs
among_rsets n [] fs = refl
among_rsets n (a ∷ acts) fs =
    let k : ℕ = a.behind - n in
    let back = among_rsets a.behind acts (drop k fs) in
    omega (arith, rsets_append (take k fs) (ActFrame a.frame false ∷ (among a.behind acts (drop k fs))), back, take_and_drop k fs)

-- ### All that is due goes out

abbrev rset_of : Option Control → ℕ
rset_of None = 0
rset_of (Some c) = cond (is_rset c) 1 0

frames_rsets : (n : ℕ) (e : EndState) → rsets_among (after_frames n e).due + rsets (frames_of n e) ≤ rsets_among e.due
frames_rsets zero e = omega arith
frames_rsets (suc n) e = go (frame_due e) (frames_rsets n (fetched e)) (grind arith)
  where
    by : Option Control → List Control → List Control
    by None later = []
    by (Some c) later = c ∷ later

    go : (o : Option Control) → rsets_among (after_frames n (fetched e)).due + rsets (frames_of n (fetched e)) ≤ rsets_among (fetched e).due
        → rsets_among (fetched e).due + rset_of o ≤ rsets_among e.due
        → rsets_among (after_frames n (fetched e)).due + rsets (by o (frames_of n (fetched e))) ≤ rsets_among e.due
    go o later first = grind arith

out_rsets : (e : LinkEnd) → rsets_due (sent_all e) + rsets (frames_out e) ≤ rsets_due e
out_rsets e =
    let a = among_rsets 0 e.acts (frames_of most_frames e.shdlc) in let b = frames_rsets most_frames e.shdlc in omega (arith, a, b)

-- ### A step of the near end

put_more : (l : Link) (c : Control) → (put l c).resets ≡ l.resets + cond (is_rset c) 1 0
put_more l c = by_test (is_rset c) (λ q. rw q refl) (λ q. rw q (omega arith))

put_host : (l : Link) (c : Control) → (put l c).host ≡ l.host
put_host l c = by_test (is_rset c) (λ q. rw q refl) (λ q. rw q refl)

puts_more : (cs : List Control) (l : Link) → (put_all l cs).resets ≡ l.resets + rsets cs
puts_more [] l = omega arith
puts_more (c ∷ cs) l = let z = puts_more cs (put l c) in let o = put_more l c in omega (arith, z, o)

puts_host : (cs : List Control) (l : Link) → (put_all l cs).host ≡ l.host
puts_host [] l = refl
puts_host (c ∷ cs) l = puts_host cs (put l c) ∙ put_host l c

-- the RSETs put on a link and those due at its near end are at most so many, and its far end is that of l
record Makes (n : ℕ) (l m : Link) : Type 0 where
  made : m.resets + rsets_due m.controller.side ≤ n
  far : m.host ≡ l.host

ended_resets : (l : Link) (b : Bool) → (with_ended l b).resets ≡ l.resets
ended_resets l b = grind arith

ended_host : (l : Link) (b : Bool) → (with_ended l b).host ≡ l.host
ended_host l b = grind arith

finished_makes : (n : ℕ) (l k : Link) (e : LinkEnd) (ending : Ending) → k.resets ≡ l.resets → k.host ≡ l.host → l.resets + rsets_due e ≤ n
    → Makes n l (finished k e ending)
finished_makes n l k e GoesOut resets host within =
    record {
      made = let z = puts_more (frames_out e) k in let o = out_rsets e in omega (arith, resets, z, o, within);
      far = puts_host (frames_out e) k ∙ host;
    }
finished_makes n l k e CutOff resets host within = grind arith

tick_makes : (l : Link) (ts : List Turn) (ending : Ending)
    → Makes (l.resets + rsets_due l.controller.side + 1) l (ticks_at_controller l ts ending)
tick_makes l ts ending =
    let e : LinkEnd = after_input l.controller.side Tick in
    let b : Bool = is_some (ended_by l.controller.side Tick) in
    finished_makes (l.resets + rsets_due l.controller.side + 1) l (with_ended l b) (turned e ts) ending (ended_resets l b) (ended_host l b)
    (omega (arith, turned_due ts e, had_tick_due l.controller.side))

reset_makes : (l : Link) (window : Option ℕ) (ts : List Turn) (ending : Ending)
    → Makes (l.resets + rsets_due l.controller.side + 1) l (has_input l (Reset window) ts ending)
reset_makes l window ts ending =
    let e : LinkEnd = after_input l.controller.side (Reset window) in
    let b : Bool = is_some (ended_by l.controller.side (Reset window)) in
    finished_makes (l.resets + rsets_due l.controller.side + 1) l (with_ended l b) (turned e ts) ending (ended_resets l b) (ended_host l b)
    (omega (arith, turned_due ts e, had_reset_due l.controller.side window))

taken_makes : (l : Link) (x : OnWire) (xs : List OnWire) (ts : List Turn) (ending : Ending)
    → Makes (l.resets + rsets_due l.controller.side) l (has_taken l x xs ts ending)
taken_makes l x xs ts ending =
    let e : LinkEnd = after_input l.controller.side (Take x.frame) in
    let b : Bool = is_some (ended_by l.controller.side (Take x.frame)) in
    let m : Link = with_ended (record l { to_controller = xs }) b in
    let k : Link = record m { controller = record m.controller { took = took_with l.controller.took x } } in
    finished_makes (l.resets + rsets_due l.controller.side) l k (turned e ts) ending (ended_resets (record l { to_controller = xs }) b)
    (ended_host (record l { to_controller = xs }) b) (omega (arith, turned_due ts e, took_due l.controller.side x.frame))

restarted_makes : (l : Link) (e : LinkEnd) (ts : List Turn) (ending : Ending) → rsets_due e ≤ rsets_due l.controller.side
    → Makes (l.resets + rsets_due l.controller.side) l (has_restarted l e ts ending)
restarted_makes l e ts ending few =
    let b : Bool = is_up l.controller.side.shdlc.phase in
    finished_makes (l.resets + rsets_due l.controller.side) l (silent l e) (turned e ts) ending (ended_resets l b) (ended_host l b)
    (omega (arith, turned_due ts e, few))

steps_make : (l : Link) (comes : Comes) (ts : List Turn) (ending : Ending)
    → Makes (l.resets + rsets_due l.controller.side + resets_in_coming comes) l (steps_at_controller l comes ts ending)
steps_make l NextFrame ts ending = go l.to_controller
  where
    by : List OnWire → Link
    by [] = l
    by (x ∷ xs) = has_taken l x xs ts ending

    go : (w : List OnWire) → Makes (l.resets + rsets_due l.controller.side + 0) l (by w)
    go [] = record { made = omega arith; far = refl }
    go (x ∷ xs) = let z = taken_makes l x xs ts ending in record { made = let m = z.made in omega (arith, m); far = z.far }
steps_make l (AsksReset window) ts ending = reset_makes l window ts ending
steps_make l (Starts value) ts ending =
    let z = restarted_makes l (started l.controller.side value) ts ending (grind arith) in
    record { made = let m = z.made in omega (arith, m); far = z.far }
steps_make l Stops ts ending =
    let z = restarted_makes l (deactivated l.controller.side) ts ending (grind arith) in
    record { made = let m = z.made in omega (arith, m); far = z.far }
steps_make l NoInput ts ending =
    let z = turned_due ts l.controller.side in
    finished_makes (l.resets + rsets_due l.controller.side + 0) l l (turned l.controller.side ts) ending refl refl (omega (arith, z))

-- ### Both ends

-- where the near end makes so many more, the link has so many more
both : (n : ℕ) (l m : Link) → Makes (l.resets + rsets_due l.controller.side + n) l m → rsets_made m ≤ rsets_made l + n
both n l m a = grind arith

made_exchanged : (l : Link) → rsets_made (exchanged l) ≡ rsets_made l
made_exchanged l = omega arith

made_in_step : (l : Link) (comes : Comes) (ts : List Turn) (ending : Ending)
    → rsets_made (steps_at_controller l comes ts ending) ≤ rsets_made l + resets_in_coming comes
made_in_step l comes ts ending = both (resets_in_coming comes) l (steps_at_controller l comes ts ending) (steps_make l comes ts ending)

pub made_in_tick : (l : Link) (ts : List Turn) (ending : Ending) → rsets_made (ticks_at_controller l ts ending) ≤ rsets_made l + 1
made_in_tick l ts ending = both 1 l (ticks_at_controller l ts ending) (tick_makes l ts ending)

made_there : (l : Link) (comes : Comes) (ts : List Turn) (ending : Ending)
    → rsets_made (exchanged (steps_at_controller (exchanged l) comes ts ending)) ≤ rsets_made l + resets_in_coming comes
made_there l comes ts ending = grind (arith, made_in_step, made_exchanged)

pub made_in_tick_there : (l : Link) (ts : List Turn) (ending : Ending)
    → rsets_made (exchanged (ticks_at_controller (exchanged l) ts ending)) ≤ rsets_made l + 1
made_in_tick_there l ts ending =
    omega (arith, made_in_tick (exchanged l) ts ending, made_exchanged (ticks_at_controller (exchanged l) ts ending), made_exchanged l)

made_here : (l : Link) (e : EndEvent) → rsets_made (happens_at_controller l e) ≤ rsets_made l + resets_in_event e
made_here l (Step comes ts ending) = made_in_step l comes ts ending
made_here l (Lose why) = omega arith

made_by_all : (es : List EndEvent) (l : Link) → rsets_made (all_at_controller l es) ≤ rsets_made l + resets_in_events es
made_by_all [] l = omega arith
made_by_all (e ∷ es) l = let z = made_by_all es (happens_at_controller l e) in let o = made_here l e in omega (arith, z, o)

-- ### Events

pub made_by_event : (l : Link) (e : LinkEvent) → rsets_made (happens l e) ≤ rsets_made l + rset_causes e
made_by_event l (AtController e) = made_here l e
made_by_event l (AtHost e) = omega (arith, made_here (exchanged l) e, made_exchanged (happens_at_controller (exchanged l) e), made_exchanged l)
made_by_event l (Ticks c events h) =
    let near : Link = ticks_at_controller (aged l) c.turns c.ending in
    let z = made_in_tick_there (all_at_controller near events) h.turns h.ending in
    omega (arith, made_in_tick (aged l) c.turns c.ending, made_by_all events near, z)
made_by_event l (TicksWithout events h) =
    omega (arith, made_by_all events (aged l), made_in_tick_there (all_at_controller (aged l) events) h.turns h.ending)
made_by_event l (Activate power c id h) =
    let y = made_there (steps_at_controller l (Starts power) c.turns c.ending) (Starts id) h.turns h.ending in
    omega (arith, made_in_step l (Starts power) c.turns c.ending, y)

made_by_events : (events : List LinkEvent) (l : Link) → rsets_made (after_link_events l events) ≤ rsets_made l + rset_causes_in events
made_by_events [] l = omega arith
made_by_events (e ∷ es) l = let z = made_by_events es (happens l e) in let o = made_by_event l e in omega (arith, z, o)

none_made : (l : Link) → IsStart l → rsets_made l ≡ 0
none_made l a = grind arith

pub resets_of_run : (l : Link) → IsStart l → (events : List LinkEvent) → (after_link_events l events).resets ≤ rset_causes_in events
resets_of_run l start events = let z = made_by_events events l in let o = none_made l start in omega (arith, z, o)

-- ## No RSET of a link has a greater number than how many were put on it: neither those on its wires nor those that its ends sent and took

-- ### Wires

low_more : (m n : ℕ) (wire : List OnWire) → m ≤ n → WireIsLow m wire → WireIsLow n wire
low_more m n [] q a = tt
low_more m n (x ∷ wire) q a = (let z = a.0 in omega (arith, q, z), low_more m n wire q a.1)

low_push : (n : ℕ) (wire : List OnWire) (x : OnWire) → x.number ≤ n → WireIsLow n wire → WireIsLow n (wire ++ x ∷ [])
low_push n [] x q a = (q, tt)
low_push n (y ∷ wire) x q a = (a.0, low_push n wire x q a.1)

low_fits : (n : ℕ) (wire : List OnWire) → WireIsLow n wire → WireIsLow n (fits wire)
low_fits n wire a = grind arith

low_aged : (n : ℕ) (wire : List OnWire) → WireIsLow n wire → WireIsLow n (aged_wire wire)
low_aged n [] a = tt
low_aged n (x ∷ wire) a = let h0 = nat_lt x.age 4 in let h1 = low_aged n wire a.1 in grind arith

pub took_low : (n t : ℕ) (x : OnWire) → t ≤ n → x.number ≤ n → took_with t x ≤ n
took_low n t x q a = grind arith

-- ### Links

pub number_low : (n : ℕ) (h : NumberedEnd) → EndIsLow n h → number_of h ≤ n
number_low n h a = let e = a.emitted in let t = a.took in omega (arith, e, t)

pub exchanged_numbered : (l : Link) → HasLowNumbers l → HasLowNumbers (exchanged l)
exchanged_numbered l a = record { controller = a.host; host = a.controller; to_controller = a.to_host; to_host = a.to_controller }

pub aged_numbered : (l : Link) → HasLowNumbers l → HasLowNumbers (aged l)
aged_numbered l a =
    record {
      controller = a.controller;
      host = a.host;
      to_controller = low_aged l.resets l.to_controller a.to_controller;
      to_host = low_aged l.resets l.to_host a.to_host;
    }

put_numbered : (l : Link) (c : Control) → HasLowNumbers l → HasLowNumbers (put l c)
put_numbered l c a = go (is_rset c)
  where
    by : Bool → Link
    by true =
        record l {
          to_host = fits (l.to_host ++ record { frame = c; age = 0; number = l.resets + 1 } ∷ []);
          controller = record l.controller { emitted = l.resets + 1 };
          resets = l.resets + 1;
        }
    by false = record l { to_host = fits (l.to_host ++ record { frame = c; age = 0; number = 0 } ∷ []) }

    more : (h : NumberedEnd) → EndIsLow l.resets h → EndIsLow (l.resets + 1) h
    more h b = record { emitted = let z = b.emitted in omega (arith, z); took = let z = b.took in omega (arith, z) }

    numbered : OnWire
    numbered = record { frame = c; age = 0; number = l.resets + 1 }

    other : OnWire
    other = record { frame = c; age = 0; number = 0 }

    go : (b : Bool) → HasLowNumbers (by b)
    go true =
        record {
          controller = record { emitted = omega arith; took = (more l.controller a.controller).took };
          host = more l.host a.host;
          to_controller = (low_more l.resets (l.resets + 1) l.to_controller (omega arith) a.to_controller);
          to_host = low_fits (l.resets + 1) (l.to_host ++ numbered ∷ [])
              (low_push (l.resets + 1) l.to_host numbered (omega arith) (low_more l.resets (l.resets + 1) l.to_host (omega arith) a.to_host));
        }
    go false =
        record {
          controller = a.controller;
          host = a.host;
          to_controller = a.to_controller;
          to_host = low_fits l.resets (l.to_host ++ other ∷ []) (low_push l.resets l.to_host other (omega arith) a.to_host);
        }

puts_numbered : (cs : List Control) (l : Link) → HasLowNumbers l → HasLowNumbers (put_all l cs)
puts_numbered [] l a = a
puts_numbered (c ∷ cs) l a = puts_numbered cs (put l c) (put_numbered l c a)

pub silent_numbered : (l : Link) (e : LinkEnd) → HasLowNumbers l → HasLowNumbers (silent l e)
silent_numbered l e a = grind arith

finished_numbered : (l : Link) (e : LinkEnd) (ending : Ending) → HasLowNumbers l → HasLowNumbers (finished l e ending)
finished_numbered l e GoesOut a = let h0 = put_all l (frames_out e) in let h1 = sent_all e in let h2 = puts_numbered (frames_out e) l a in grind arith
finished_numbered l e CutOff a = grind arith

-- ### Steps

input_numbered : (l : Link) (i : LinkInput) (ts : List Turn) (ending : Ending) → HasLowNumbers l → HasLowNumbers (has_input l i ts ending)
input_numbered l i ts ending a =
    finished_numbered (with_ended l (is_some (ended_by l.controller.side i))) (turned (after_input l.controller.side i) ts) ending (grind arith)

restarted_numbered : (l : Link) (e : LinkEnd) (ts : List Turn) (ending : Ending) → HasLowNumbers l → HasLowNumbers (has_restarted l e ts ending)
restarted_numbered l e ts ending a = finished_numbered (silent l e) (turned e ts) ending (silent_numbered l e a)

pub steps_numbered : (l : Link) (comes : Comes) (ts : List Turn) (ending : Ending) → HasLowNumbers l → HasLowNumbers (steps_at_controller l comes ts ending)
steps_numbered l NextFrame ts ending a = go l.to_controller refl
  where
    by : List OnWire → Link
    by [] = l
    by (x ∷ xs) = has_taken l x xs ts ending

    go : (w : List OnWire) → l.to_controller ≡ w → HasLowNumbers (by w)
    go [] q = a
    go (x ∷ xs) q = (finished_numbered (left_after l x xs) (turned (after_input l.controller.side (Take x.frame)) ts) ending (grind arith))
steps_numbered l (AsksReset window) ts ending a = input_numbered l (Reset window) ts ending a
steps_numbered l (Starts value) ts ending a = restarted_numbered l (started l.controller.side value) ts ending a
steps_numbered l Stops ts ending a = restarted_numbered l (deactivated l.controller.side) ts ending a
steps_numbered l NoInput ts ending a = finished_numbered l (turned l.controller.side ts) ending a

pub tick_numbered : (l : Link) (ts : List Turn) (ending : Ending) → HasLowNumbers l → HasLowNumbers (ticks_at_controller l ts ending)
tick_numbered l ts ending a = input_numbered l Tick ts ending a

there_numbered : (l : Link) (comes : Comes) (ts : List Turn) (ending : Ending) → HasLowNumbers l
    → HasLowNumbers (exchanged (steps_at_controller (exchanged l) comes ts ending))
there_numbered l comes ts ending a =
    exchanged_numbered (steps_at_controller (exchanged l) comes ts ending) (steps_numbered (exchanged l) comes ts ending (exchanged_numbered l a))

pub tick_there_numbered : (l : Link) (ts : List Turn) (ending : Ending) → HasLowNumbers l
    → HasLowNumbers (exchanged (ticks_at_controller (exchanged l) ts ending))
tick_there_numbered l ts ending a =
    exchanged_numbered (ticks_at_controller (exchanged l) ts ending) (tick_numbered (exchanged l) ts ending (exchanged_numbered l a))

pub here_numbered : (l : Link) (e : EndEvent) → HasLowNumbers l → HasLowNumbers (happens_at_controller l e)
here_numbered l (Step comes ts ending) a = steps_numbered l comes ts ending a
here_numbered l (Lose why) a = grind arith

pub all_numbered : (es : List EndEvent) (l : Link) → HasLowNumbers l → HasLowNumbers (all_at_controller l es)
all_numbered [] l a = a
all_numbered (e ∷ es) l a = all_numbered es (happens_at_controller l e) (here_numbered l e a)

-- ### Events

pub event_numbered : (l : Link) (e : LinkEvent) → HasLowNumbers l → HasLowNumbers (happens l e)
event_numbered l (AtController e) a = here_numbered l e a
event_numbered l (AtHost e) a = exchanged_numbered (happens_at_controller (exchanged l) e) (here_numbered (exchanged l) e (exchanged_numbered l a))
event_numbered l (Ticks c events h) a =
    let near : Link = ticks_at_controller (aged l) c.turns c.ending in
    let b = all_numbered events near (tick_numbered (aged l) c.turns c.ending (aged_numbered l a)) in
    tick_there_numbered (all_at_controller near events) h.turns h.ending b
event_numbered l (TicksWithout events h) a =
    let b = all_numbered events (aged l) (aged_numbered l a) in tick_there_numbered (all_at_controller (aged l) events) h.turns h.ending b
event_numbered l (Activate power c id h) a =
    there_numbered (steps_at_controller l (Starts power) c.turns c.ending) (Starts id) h.turns h.ending
    (steps_numbered l (Starts power) c.turns c.ending a)

events_numbered : (events : List LinkEvent) (l : Link) → HasLowNumbers l → HasLowNumbers (after_link_events l events)
events_numbered [] l a = a
events_numbered (e ∷ es) l a = events_numbered es (happens l e) (event_numbered l e a)

pub start_numbered : (l : Link) → IsStart l → HasLowNumbers l
start_numbered l a = grind arith

pub numbers_within : (n : ℕ) (l : Link) → l.resets ≤ n → HasLowNumbers l → NumbersWithin n l
numbers_within n l q a = grind arith

pub numbers_of_run : (l : Link) → IsStart l → (events : List LinkEvent) → NumbersWithin (rset_causes_in events) (after_link_events l events)
numbers_of_run l start events =
    numbers_within (rset_causes_in events) (after_link_events l events) (resets_of_run l start events) (events_numbered events l (start_numbered l start))
