-- What may disturb a session is noted where it happens: frames that are lost, an RNR, a packet that can't be joined.
use Rattle.std.specs.Prelude.{◌+◌, ◌||◌}
use Rattle.link_laws.proofs.Words.{Acked, Act, ActEvent, ActTake, Activate, Activation, Active, AllAllowed, AreOwn, AreSendableTurns, Asked, AsksReset}
use Rattle.link_laws.proofs.Words.{AtController, AtHost, Bool, ByAct, Cause, Chain, Clt, Comes, Control, Controller, CoreActs, CoreDeliver, CoreLink, CoreLose}
use Rattle.link_laws.proofs.Words.{CoreReset, CoreTurn, CutOff, Down as IsDown, Emit, End, EndEvent, EndState, Ending, Entry, GaveUp, GoesOut, Got, HasTick}
use Rattle.link_laws.proofs.Words.{Host, Ignore as CoreIgnore, IsEvent, IsOwn, IsStart, Link, LinkEnd, LinkEvent, LinkInput, List, Lose, Losses, Message}
use Rattle.link_laws.proofs.Words.{NextFrame, NoInput, Node, None, NumberedEnd, OnWire, Option, Report, Reset, Some, Start, Starts, Step, Stop, Stops}
use Rattle.link_laws.proofs.Words.{Take, Ticks, TicksWithout, Turn, Turns as CoreTurns, [], act_answer, activated, after_input, aged, aged_entries}
use Rattle.link_laws.proofs.Words.{all_at_controller, ap, arith, began_by, came_up, cond, core_event, core_happens_here, core_of, core_take}
use Rattle.link_laws.proofs.Words.{core_turned, core_turns, core_with_ended, disturbs, drop, ended_by, ending_entries, entries, entries_of_events}
use Rattle.link_laws.proofs.Words.{event_entries, exchanged, false, far, first_entries, frames_of, frames_out, happens, happens_at_controller}
use Rattle.link_laws.proofs.Words.{here_entries, if_so, if_up, inl, inr, is_act, is_open, is_rnr, is_rset, is_some, left_after, length, length-append}
use Rattle.link_laws.proofs.Words.{list_any, ltb-true, map, nat_lt, noted_all, noted_here, noted_loss, noted_out, noted_turns, number_of, option_to_list}
use Rattle.link_laws.proofs.Words.{overflows, pushed_out, put, put_entries, puts_entries, refl, report, reset_by, reset_refusal, reset_with, rest_entries}
use Rattle.link_laws.proofs.Words.{shdlc_put as core_put, shdlc_put_all as core_put_all, silent, step_entries, steps_at_controller, subst, sym}
use Rattle.link_laws.proofs.Words.{take_answer, taken, taken_entries, tick_entries, ticks_at_controller, told, told_of, took, took_with, trace, true}
use Rattle.link_laws.proofs.Words.{true≢false, turn, turn_entries, turn_entry, turned, whole_acked, wire_with, with_ended, ℕ, ◌&&◌, ◌++◌, ◌∙◌, ◌∷◌, ◌≡◌, ◌⊎◌}
use Rattle.link_laws.specs.entries.Entries.Entry.{Down, Up}
use Rattle.link_laws.specs.entries.Order.{is_noted_chain_fault}
use Rattle.link_laws.proofs.Cases.{by_list, by_phase, by_test}
use Rattle.link_laws.proofs.messages.Project.{Now, Tells, among_now, due_now, frames_now, put-core, turns_mid}
use Rattle.link_laws.proofs.messages.Runs.{Good, Reached, event_step, from_controller, from_host, not_chain, reached_more, start_good, start_reached}
use Rattle.link_laws.proofs.messages.Steps.{ComesFirst, FromHost, Heard, act_mid, core_first, counted_is, heard_end, heard_is, is_shdlc, mid_counted}
use Rattle.link_laws.proofs.messages.Steps.{no_fault_first, polite, role_closes, took_closed, took_open}

-- ## No session ends by a packet that can't be joined

-- none of these tells of a chain fault
abbrev NoChain : List Entry → Type 0
NoChain [] = Unit {0}
NoChain (e ∷ t) = (is_noted_chain_fault e ≡ false) × NoChain t

more : (t u : List Entry) → NoChain t → NoChain u → NoChain (t ++ u)
more [] u a b = b
more (e ∷ t) u a b = (a.0, more t u a.1 b)

-- the causes of the other ends of sessions
abbrev IsOther : Option Cause → Type 0
IsOther o = o ≡ Some Chain → ⊥

chain_so : (b : Bool) (e : Entry) → is_noted_chain_fault e ≡ false → NoChain (if_so b e)
chain_so b e p = grind arith

chain_got : (who : End) (k : ℕ) (ms : List Message) → NoChain (map (Got who k) ms)
chain_got who k [] = tt
chain_got who k (m ∷ ms) = (refl, chain_got who k ms)

chain_told : (who : End) (k : ℕ) (r : Report) (acked : ℕ) → IsOther r.ended → NoChain (told who k r acked)
chain_told who k r acked n =
    let e : List Entry = if_so (nat_lt 0 r.acked) (Acked who k acked) ++ map (Got who k) r.got in
    let d : List Entry = map (GaveUp who) (option_to_list r.gave_up) ++ e in
    let c : List Entry = if_so r.became_active (Active who) ++ d in
    more (map (Down who) (option_to_list r.ended)) (if_so r.began (Up who k) ++ c) (grind arith)
    (more (if_so r.began (Up who k)) c (chain_so r.began (Up who k) refl)
    (more (if_so r.became_active (Active who)) d (chain_so r.became_active (Active who) refl)
    (more (map (GaveUp who) (option_to_list r.gave_up)) e (grind arith)
    (more (if_so (nat_lt 0 r.acked) (Acked who k acked)) (map (Got who k) r.got) (chain_so (nat_lt 0 r.acked) (Acked who k acked) refl)
    (chain_got who k r.got)))))

chain_turns : (who : End) (k : ℕ) (e : LinkEnd) (ts : List Turn) → NoChain (turn_entries who k e ts)
chain_turns who k e [] = tt
chain_turns who k e (t ∷ ts) = more (turn_entry who k e t) (turn_entries who k (turn e t) ts) (grind arith) (chain_turns who k (turn e t) ts)

chain_puts : (cs : List Control) (who : End) (l : Link) → NoChain (puts_entries who l cs)
chain_puts [] who l = tt
chain_puts (c ∷ cs) who l = more (put_entries who l c) (puts_entries who (put l c) cs) (refl, grind arith) (chain_puts cs who (put l c))

chain_ending : (who : End) (l : Link) (e : LinkEnd) (ending : Ending) → NoChain (ending_entries who l e ending)
chain_ending who l e GoesOut = chain_puts (frames_out e) who l
chain_ending who l e CutOff = (refl, tt)

chain_input : (who : End) (k : Link) (h : NumberedEnd) (i : LinkInput) (e : LinkEnd) (ts : List Turn) (ending : Ending) → IsOther (ended_by h.side i)
    → NoChain (told_of who h i ++ rest_entries who k e ts ending)
chain_input who k h i e ts ending n =
    more (told_of who h i) (rest_entries who k e ts ending) (chain_told who (number_of h) (report h.side i) (whole_acked (after_input h.side i)) n)
    (grind (arith, more, number_of, turned, chain_turns, chain_ending))

-- ### Causes

if_up_other : (s : EndState) (cause : Cause) → (cause ≡ Chain → ⊥) → IsOther (if_up s cause)
if_up_other s cause n q = by_phase {P = ⊥} s.phase (λ p. let z = rw p at q in n (cc)) (λ p. let z = rw p at q in cc) (λ p. let z = rw p at q in cc)

reset_other : (e : LinkEnd) (window : Option ℕ) → IsOther (ended_by e (Reset window))
reset_other e window q = grind arith

tick_other : (e : LinkEnd) → IsOther (ended_by e HasTick)
tick_other e q = grind arith

-- ### Steps and events

-- the first frame on the wire doesn't bring one
abbrev Joins : Link → Type 0
Joins l = (x : OnWire) (xs : List OnWire) → l.to_controller ≡ x ∷ xs → IsOther (ended_by l.controller.side (Take x.frame))

abbrev JoinsFor : Comes → Link → Type 0
JoinsFor NextFrame l = Joins l
JoinsFor _ l = Unit {0}

chain_step : (who : End) (l : Link) (comes : Comes) (ts : List Turn) (ending : Ending) → JoinsFor comes l → NoChain (step_entries who l comes ts ending)
chain_step who l NextFrame ts ending j =
    by_list {P = NoChain (step_entries who l NextFrame ts ending)} l.to_controller
    (λ q. let none : step_entries who l NextFrame ts ending ≡ [] = rw q refl in subst P (sym none) tt) (λ x xs q.
    let some : step_entries who l NextFrame ts ending ≡ taken_entries who l x xs ts ending = rw q refl in
    subst P (sym some) (
      refl,
      chain_input who (left_after l x xs) (record l.controller { took = took_with l.controller.took x }) (Take x.frame)
          (after_input l.controller.side (Take x.frame)) ts ending (j x xs q),
    ))
  where
    P : List Entry → Type 0
    P u = NoChain u
chain_step who l (AsksReset window) ts ending j =
    chain_input who (with_ended l (is_some (ended_by l.controller.side (Reset window)))) l.controller (Reset window)
    (after_input l.controller.side (Reset window)) ts ending
    (reset_other l.controller.side window)
chain_step who l (Starts v) ts ending j = (
  refl,
  chain_input who (silent l (after_input l.controller.side (Start v))) l.controller (Start v) (after_input l.controller.side (Start v)) ts ending
      (if_up_other l.controller.side.shdlc ByAct (λ z. cc)),
)
chain_step who l Stops ts ending j = (
  refl,
  chain_input who (silent l (after_input l.controller.side Stop)) l.controller Stop (after_input l.controller.side Stop) ts ending
      (if_up_other l.controller.side.shdlc ByAct (λ z. cc)),
)
chain_step who l NoInput ts ending j = grind (arith, more, number_of, turned, chain_turns, chain_ending)

chain_here : (who : End) (l : Link) (e : EndEvent) → Joins l → NoChain (here_entries who l e)
chain_here who l (Step NextFrame ts ending) j = chain_step who l NextFrame ts ending j
chain_here who l (Step (AsksReset window) ts ending) j = chain_step who l (AsksReset window) ts ending tt
chain_here who l (Step (Starts v) ts ending) j = chain_step who l (Starts v) ts ending tt
chain_here who l (Step Stops ts ending) j = chain_step who l Stops ts ending tt
chain_here who l (Step NoInput ts ending) j = chain_step who l NoInput ts ending tt
chain_here who l (Lose why) j = grind arith

chain_own : (who : End) (l : Link) (e : EndEvent) → IsOwn e → NoChain (here_entries who l e)
chain_own who l (Step NextFrame ts ending) o = absurd o
chain_own who l (Step (AsksReset window) ts ending) o = chain_step who l (AsksReset window) ts ending tt
chain_own who l (Step (Starts v) ts ending) o = chain_step who l (Starts v) ts ending tt
chain_own who l (Step Stops ts ending) o = chain_step who l Stops ts ending tt
chain_own who l (Step NoInput ts ending) o = chain_step who l NoInput ts ending tt
chain_own who l (Lose why) o = absurd o

chain_all : (who : End) (es : List EndEvent) (l : Link) → AreOwn l es → NoChain (entries_of_events who l es)
chain_all who [] l a = tt
chain_all who (e ∷ es) l a =
    more (here_entries who l e) (entries_of_events who (happens_at_controller l e) es) (chain_own who l e a.0)
    (chain_all who es (happens_at_controller l e) a.2)

chain_tick : (who : End) (l : Link) (node : Node) → NoChain (tick_entries who l node)
chain_tick who l node =
    chain_input who (with_ended l (is_some (ended_by l.controller.side HasTick))) l.controller HasTick (after_input l.controller.side HasTick)
    node.turns node.ending
    (tick_other l.controller.side)

chain_aged : (who : End) (w : List OnWire) → NoChain (aged_entries who w)
chain_aged who [] = tt
chain_aged who (x ∷ xs) =
    by_test {P = NoChain (aged_entries who (x ∷ xs))} (nat_lt x.age 4) (λ q. rw q (chain_aged who xs)) (λ q. rw q (refl, (chain_aged who xs)))

joins_here : (l : Link) → Good l → Reached (core_of l) → Joins l
joins_here l g r x xs q =
    not_chain l.controller.side x.frame
    (λ o. no_fault_first l x xs q g.controller g.host o (subst FromHost (core_first (core_of l) [] x xs q) (from_host (core_of l) r)))

joins_there : (l : Link) → Good l → Reached (core_of l) → Joins (exchanged l)
joins_there l g r x xs q =
    let k : Link = exchanged l in
    not_chain l.host.side x.frame
    (λ o. no_fault_first k x xs q g.host g.controller o (subst FromHost (core_first (core_of k) [] x xs q) (from_controller (core_of l) r)))

chain_event : (l : Link) (e : LinkEvent) → IsEvent l e → Good l → Reached (core_of l) → NoChain (event_entries l e)
chain_event l (AtController e) a g r = chain_here Controller l e (joins_here l g r)
chain_event l (AtHost e) a g r = chain_here Host (exchanged l) e (joins_there l g r)
chain_event l (Ticks c es h) a g r =
    let near : Link = ticks_at_controller (aged l) c.turns c.ending in
    let ds : List Entry = entries_of_events Controller near es in
    let fs : List Entry = tick_entries Host (exchanged (all_at_controller near es)) h in
    let cs : List Entry = tick_entries Controller (aged l) c in (
      refl,
      more (aged_entries Controller l.to_controller) (aged_entries Host l.to_host ++ (cs ++ (ds ++ fs))) (chain_aged Controller l.to_controller)
          (more (aged_entries Host l.to_host) (cs ++ (ds ++ fs)) (chain_aged Host l.to_host)
          (more cs (ds ++ fs) (chain_tick Controller (aged l) c)
          (more ds fs (chain_all Controller es near a.1) (chain_tick Host (exchanged (all_at_controller near es)) h)))),
    )
chain_event l (TicksWithout es h) a g r =
    let ds : List Entry = entries_of_events Controller (aged l) es in
    let fs : List Entry = tick_entries Host (exchanged (all_at_controller (aged l) es)) h in (
      refl,
      more (aged_entries Controller l.to_controller) (aged_entries Host l.to_host ++ (ds ++ fs)) (chain_aged Controller l.to_controller)
          (more (aged_entries Host l.to_host) (ds ++ fs) (chain_aged Host l.to_host)
          (more ds fs (chain_all Controller es (aged l) a.1) (chain_tick Host (exchanged (all_at_controller (aged l) es)) h))),
    )
chain_event l (Activate power c id h) a g r =
    more (step_entries Controller l (Starts power) c.turns c.ending)
    (step_entries Host (exchanged (steps_at_controller l (Starts power) c.turns c.ending)) (Starts id) h.turns h.ending)
    (chain_step Controller l (Starts power) c.turns c.ending tt)
    (chain_step Host (exchanged (steps_at_controller l (Starts power) c.turns c.ending)) (Starts id) h.turns h.ending tt)

chain_events : (events : List LinkEvent) (l : Link) → AllAllowed l events → Good l → Reached (core_of l) → NoChain (entries l events)
chain_events [] l a g r = tt
chain_events (e ∷ es) l a g r =
    let st = event_step l e a.0 g r in
    let next : Reached (core_of (happens l e)) = subst Reached (sym st.core) (reached_more (core_of l) (core_event l e) st.allowed r) in
    more (event_entries l e) (entries (happens l e) es) (chain_event l e a.0 g r) (chain_events es (happens l e) a.1 st.good next)

none_any : (t : List Entry) → NoChain t → list_any is_noted_chain_fault t ≡ false
none_any [] a = refl
none_any (e ∷ t) a = rw (a.0) (none_any t a.1)

pub no_chain_noted : (l : Link) → IsStart l → (events : List LinkEvent) → AllAllowed l events → list_any is_noted_chain_fault (trace l events) ≡ false
no_chain_noted l s events a =
    none_any (trace l events)
    (more (first_entries l.controller.side.role) (entries l events) (grind arith)
    (chain_events events l a (start_good l s) (start_reached l s)))

-- ## Where a frame of a step is lost on the link over fragments, or an RNR made, it is noted

-- a frame was lost, or an RNR made
abbrev pub bad : Losses → Bool
bad n = n.lost || n.rnr

-- it is noted
abbrev pub Disturbed : List Entry → Type 0
Disturbed t = list_any disturbs t ≡ true

any-append : (t u : List Entry) → list_any disturbs (t ++ u) ≡ (list_any disturbs t || list_any disturbs u)
any-append [] u = refl
any-append (e ∷ t) u = let h0 = disturbs e in let h1 = any-append t u in grind arith

or_left : (a b : Bool) → a ≡ true → (a || b) ≡ true
or_left a b q = rw q refl

or_right : (a b : Bool) → b ≡ true → (a || b) ≡ true
or_right a b q = grind arith

pub disturbed_left : (t u : List Entry) → Disturbed t → Disturbed (t ++ u)
disturbed_left t u d = any-append t u ∙ or_left (list_any disturbs t) (list_any disturbs u) d

pub disturbed_right : (t u : List Entry) → Disturbed u → Disturbed (t ++ u)
disturbed_right t u d = any-append t u ∙ or_right (list_any disturbs t) (list_any disturbs u) d

-- more is bad only where it is noted
abbrev pub Grows : Losses → Losses → List Entry → Type 0
Grows n m u = bad m ≡ true → (bad n ≡ true) ⊎ Disturbed u

push_lost : (who : End) (l : Link) (c : Control) → overflows (l.to_host ++ record { frame = c; age = 0; number = 0 } ∷ [])
    ≡ true → Disturbed (pushed_out (far who) (wire_with l c))
push_lost who l c q = go (nat_lt 64 (length (wire_with l c))) refl (wire_with l c) refl
  where
    long : nat_lt 64 (length (wire_with l c)) ≡ true
    long =
        let x = length-append l.to_host (record { frame = c; age = 0; number = 0 } ∷ []) in
        let y = length-append l.to_host (record { frame = c; age = 0; number = cond (is_rset c) (l.resets + 1) 0 } ∷ []) in
        ap (nat_lt 64) (y ∙ sym x) ∙ (grind arith)

    go : (b : Bool) → nat_lt 64 (length (wire_with l c)) ≡ b → (w : List OnWire) → wire_with l c ≡ w → Disturbed (pushed_out (far who) (wire_with l c))
    go false p w r = absurd (true≢false (sym long ∙ p))
    go true p [] r = absurd (let i = ltb-true 64 (length (wire_with l c)) p in let k = ap (λ (z : List OnWire). length z) r in omega (arith, i, k))
    go true p (x ∷ xs) r = grind arith

-- a frame goes out
put_grows : (n : Losses) (who : End) (l : Link) (c : Control) → Grows n (noted_loss n (core_of l) c) (put_entries who l c)
put_grows n who l c q = go (n.lost) (n.rnr) (overflows (l.to_host ++ record { frame = c; age = 0; number = 0 } ∷ [])) (is_rnr c) refl refl refl refl
  where
    go : (a b x y : Bool) → n.lost ≡ a → n.rnr ≡ b → overflows (l.to_host ++ record { frame = c; age = 0; number = 0 } ∷ []) ≡ x → is_rnr c ≡ y
        → (bad n ≡ true) ⊎ Disturbed (put_entries who l c)
    go true b x y p r s t = inl (rw p refl)
    go false true x y p r s t = inl (rw (p, r) refl)
    go false false true y p r s t = inr (or_right (disturbs (Emit who c)) (list_any disturbs (pushed_out (far who) (wire_with l c))) (push_lost who l c s))
    go false false false true p r s t = inr (or_left (disturbs (Emit who c)) (list_any disturbs (pushed_out (far who) (wire_with l c))) (grind arith))
    go false false false false p r s t = absurd (let z : false ≡ true = rw (p, r, s, t) at q in cc)

grows_then : (n m k : Losses) (u v : List Entry) → Grows n m u → Grows m k v → Grows n k (u ++ v)
grows_then n m k u v a b q = grind (arith, disturbed_left, disturbed_right)

-- all frames that go out
pub flush_grows : (cs : List Control) (n : Losses) (who : End) (l : Link) → Grows n (noted_all n (core_of l) cs) (puts_entries who l cs)
flush_grows [] n who l = λ q. inl q
flush_grows (c ∷ cs) n who l =
    let m : Losses = noted_loss n (core_of l) c in
    grows_then n m (noted_all m (core_put (core_of l) c) cs) (put_entries who l c) (puts_entries who (put l c) cs) (put_grows n who l c)
    (subst (λ k. Grows m (noted_all m k cs) (puts_entries who (put l c) cs)) (put-core l c) (flush_grows cs m who (put l c)))

-- ### The frames of an end

noted_all-append : (n : Losses) (c : CoreLink) (xs ys : List Control) → noted_all (noted_all n c xs) (core_put_all c xs) ys ≡ noted_all n c (xs ++ ys)
noted_all-append n c [] ys = refl
noted_all-append n c (x ∷ xs) ys = noted_all-append (noted_loss n c x) (core_put c x) xs ys

-- what goes out of an end with this frame of activation
pub out_noted : (n : Losses) (c : CoreLink) (o : Option Activation) (g : LinkEnd) (s : EndState) → g.acts ≡ due_now o → g.shdlc ≡ s
    → noted_out (noted_all n c (frames_now o)) (core_put_all c (frames_now o)) s ≡ noted_all n c (frames_out g)
out_noted n c o g s acts is = grind (arith, noted_all-append, frames_of, noted_all, among_now)

-- ## What is lost in a step, or answered RNR, is noted there; and where an end comes up first in its session, behind its entry

-- ### A frame is taken

abbrev pub left_core : Link → OnWire → List OnWire → Bool → CoreLink
left_core l x xs b =
    let m : CoreLink = core_with_ended (record (core_of l) { to_controller = xs }) b in
    record m { controller = record m.controller { took = took_with l.controller.took x } }

-- what is lost as a frame is taken
pub take_noted : (n : Losses) (l : Link) (ts : List Turn) (x : OnWire) (xs : List OnWire) → AreSendableTurns ts → ComesFirst l x xs
    → noted_turns n (core_of l) (core_take l.controller.side x.frame ts)
    ≡ noted_all (came_up n (core_of (left_after l x xs)) (began_by l.controller.side (Take x.frame))) (core_of (left_after l x xs))
    (frames_out (turned (took l.controller.side x.frame) ts))
take_noted n l ts x xs a comes = go x.frame refl
  where
    e : LinkEnd
    e = l.controller.side

    c : CoreLink
    c = core_of l

    k : CoreLink
    k = core_of (left_after l x xs)

    Goal : Type 0
    Goal = noted_turns n c (core_take e x.frame ts) ≡ noted_all (came_up n k (began_by e (Take x.frame))) k (frames_out (turned (took e x.frame) ts))

    left : (b : Bool) → is_some (ended_by e (Take x.frame)) ≡ b → k ≡ left_core l x xs b
    left b q = grind arith

    take_open : (y : Control) → is_act y ≡ false → is_open e.role ≡ true → core_take e y ts ≡ CoreDeliver (core_turns (took e y) ts) ∷ []
    take_open y q o = grind arith

    take_closed : (y : Control) → is_act y ≡ false → is_open e.role ≡ false → core_take e y ts ≡ CoreIgnore (core_turns (took e y) ts) ∷ []
    take_closed y q o = grind arith

    -- an end that is open became f
    open_as : (f : LinkEnd) (b : Bool) → is_act x.frame ≡ false → is_open e.role ≡ true → took e x.frame ≡ f → is_some (ended_by e (Take x.frame)) ≡ b
        → Heard e f x b → Goal
    open_as f b q o is ends heard =
        let us : List CoreTurn = core_turns f ts in
        let tm = turns_mid None f ts a heard.mid in
        let s : EndState = core_turned (taken e.shdlc x.frame) us in
        let shdlc : (turned f ts).shdlc ≡ s = tm.is ∙ ap (λ z. core_turned z us) heard.shdlc in
        let beg : (take_answer e.shdlc x.frame).began ≡ began_by e (Take x.frame) = ap (λ z. z && (take_answer e.shdlc x.frame).began) (sym o) in
        let k_is : left_core l x xs (is_some (take_answer e.shdlc x.frame).ended) ≡ k = ap (left_core l x xs) heard.ended ∙ sym (left b ends) in
        let first : noted_here n c (CoreDeliver us)
        ≡ noted_out (came_up n (left_core l x xs (is_some (take_answer e.shdlc x.frame).ended)) (take_answer e.shdlc x.frame).began)
        (left_core l x xs (is_some (take_answer e.shdlc x.frame).ended)) s = rw comes.first refl in
        ap (noted_turns n c) (take_open x.frame q o ∙ ap (λ g. CoreDeliver (core_turns g ts) ∷ []) is)
        ∙ (grind arith)

    -- one that isn't passed over it
    closed_as : (f : LinkEnd) → is_act x.frame ≡ false → is_open e.role ≡ false → took e x.frame ≡ f → is_some (ended_by e (Take x.frame)) ≡ false
        → f.shdlc ≡ e.shdlc → Now f → Goal
    closed_as f q o is ends same mid =
        let us : List CoreTurn = core_turns f ts in
        let tm = turns_mid None f ts a mid in
        let s : EndState = core_turned e.shdlc us in
        let shdlc : (turned f ts).shdlc ≡ s = tm.is ∙ ap (λ z. core_turned z us) same in
        let beg : began_by e (Take x.frame) ≡ false = ap (λ z. z && (take_answer e.shdlc x.frame).began) o in
        let down = comes.tells.now.closed o in
        let first : noted_here n c (CoreIgnore us) ≡ noted_out n (left_core l x xs false) s = grind arith in
        ap (noted_turns n c) (take_closed x.frame q o ∙ ap (λ g. CoreIgnore (core_turns g ts) ∷ []) is)
        ∙ (grind arith)

    shdlc : (b : Bool) → is_open e.role ≡ b → is_shdlc x.frame ≡ true → is_act x.frame ≡ false → Goal
    shdlc true o s q =
        let f = took_open e x s o (no_fault_first l x xs comes.first comes.tells comes.host o comes.from) in
        open_as (heard_end e x) (is_some (take_answer e.shdlc x.frame).ended) q o f.0 f.1 (heard_is e x comes.tells.now o)
    shdlc false o s q = let f = took_closed e x.frame s o in closed_as e q o f.0 f.1 refl comes.tells.now

    counts : (b : Bool) → is_open e.role ≡ b → x.frame ≡ Clt → Goal
    counts true o q =
        open_as (record e { passed_over = e.passed_over + 1 }) false (ap is_act q) o (ap (took e) q) (ap (λ y. is_some (ended_by e (Take y))) q)
        (counted_is e x comes.tells.now q)
    counts false o q =
        closed_as (record e { passed_over = e.passed_over + 1 }) (ap is_act q) o (ap (took e) q) (ap (λ y. is_some (ended_by e (Take y))) q) refl
        (mid_counted None e (e.passed_over + 1) comes.tells.now)

    -- a frame of activation
    acts : (act : Activation) (again : Bool) → x.frame ≡ Act act again → Goal
    acts act again q =
        let event : ActEvent = ActTake act again in
        let down = polite e x xs act again q comes.polite in
        let o : Option Activation = (act_answer e.role event).send in
        let f : LinkEnd = activated e event in
        let m = act_mid e event comes.tells.now comes.rests.due down (λ z. by (role_closes e.role act again z)) in
        let is : took e x.frame ≡ f = ap (took e) q in
        let us : List CoreTurn = core_turns f ts in
        let tm = turns_mid o f ts a m.mid in
        let s : EndState = core_turned e.shdlc us in
        let same : (turned f ts).shdlc ≡ s = tm.is ∙ ap (λ z. core_turned z us) m.same in
        let ends : is_some (ended_by e (Take x.frame)) ≡ false = grind arith in
        let counts : took_with l.controller.took x ≡ l.controller.took = no_number (ap is_rset q) in
        let gone : CoreLink = record c { to_controller = xs } in
        let k_is : k ≡ gone = left false ends ∙ ap (λ z. record (record c { to_controller = xs }) { controller = record c.controller { took = z } }) counts in
        let beg : began_by e (Take x.frame) ≡ false = grind arith in
        ap (noted_turns n c) (ap (λ y. core_take e y ts) q)
        ∙ (ap (λ z. noted_here z (core_happens_here c CoreLose) (CoreActs (option_to_list o) us)) (grind arith)
        ∙ (ap (λ z. noted_here n z (CoreActs (option_to_list o) us)) (ap (λ z. record c { to_controller = drop 1 z }) comes.first)
        ∙ (out_noted n gone o (turned f ts) s tm.mid.acts same
        ∙ (ap (λ z. noted_all n z (frames_out (turned f ts))) (sym k_is)
        ∙ (ap (λ z. noted_all (came_up n k z) k (frames_out (turned f ts))) (sym beg)
        ∙ ap (λ g. noted_all (came_up n k (began_by e (Take x.frame))) k (frames_out (turned g ts))) (sym is))))))
      where
        by : (is_open e.role ≡ false) ⊎ ((act_answer e.role (ActTake act again)).ended_link ≡ true) → e.shdlc.phase ≡ IsDown
        by (inl z) = comes.tells.now.closed z
        by (inr z) = polite e x xs act again q comes.polite z

        no_number : is_rset x.frame ≡ false → took_with l.controller.took x ≡ l.controller.took
        no_number z = rw z refl

        or_none : (b : Bool) → (b || false) ≡ b
        or_none true = refl
        or_none false = refl

    go : (y : Control) → x.frame ≡ y → Goal
    go (Act act again) q = acts act again q
    go Clt q = counts (is_open e.role) refl q
    go _ q = shdlc (is_open e.role) refl (ap is_shdlc q) (ap is_act q)

-- ### Turns and resets

pub idle_noted : (n : Losses) (l : Link) (ts : List Turn) → AreSendableTurns ts → Tells l.controller
    → noted_here n (core_of l) (CoreTurns (core_turns l.controller.side ts)) ≡ noted_all n (core_of l) (frames_out (turned l.controller.side ts))
idle_noted n l ts a h =
    let e : LinkEnd = l.controller.side in
    let tm = turns_mid None e ts a h.now in
    out_noted n (core_of l) None (turned e ts) (core_turned e.shdlc (core_turns e ts)) tm.mid.acts tm.is

pub reset_noted : (n : Losses) (l : Link) (w : ℕ) (ts : List Turn) → AreSendableTurns ts → Tells l.controller → reset_refusal l.controller.side ≡ None
    → noted_here n (core_of l) (CoreReset w (core_turns (reset_by l.controller.side w) ts))
    ≡ noted_all n (core_of (with_ended l (is_some (if_up l.controller.side.shdlc Asked)))) (frames_out (turned (reset_by l.controller.side w) ts))
reset_noted n l w ts a h q =
    let e : LinkEnd = l.controller.side in
    let b : Bool = is_some (if_up e.shdlc Asked) in
    let f : LinkEnd = reset_by e w in
    let tm = turns_mid None f ts a (grind arith) in
    let s : EndState = core_turned (reset_with e.shdlc w) (core_turns f ts) in
    ap (λ z. noted_out n z s) (grind arith) ∙ out_noted n (core_of (with_ended l b)) None (turned f ts) s tm.mid.acts (grind arith)
