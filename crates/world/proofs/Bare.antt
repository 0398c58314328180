-- A bare end has no activation, and one input adds at most one control frame to those that are due.
use Rattle.world.proofs.Words.{AreNoted, Bool, Control, Due, End, EndState, Entry, Give, GoesOut, HasHappened, Hold, IfSome, IsMidway, Link, LinkEnd, LinkInput}
use Rattle.world.proofs.Words.{LinkReport, LinkStandsFor, List, Message, NoCause, NoInput, Node, NodeStandsFor, None, Noted, Option, Place, Reached, Refused}
use Rattle.world.proofs.Words.{Report, Reset, Side, Some, Step, Take, Tick, [], after_input, after_inputs, ap, arith, as_noted, becomes, ended_by, false}
use Rattle.world.proofs.Words.{fetched, frame_fetched, frames_out, give_refusal, given, here_entries, idle, is_some, length, length-append, max, more_noted}
use Rattle.world.proofs.Words.{new_link_end, not, nothing_told, put_all, puts_entries, refl, report, sent_all, side_of, subst, suc, sym, tick_entries}
use Rattle.world.proofs.Words.{ticks_at_controller, told, took, true, turn, unless, whole_acked, with_controller, with_ended, ℕ, ◌++◌, ◌∙◌, ◌∷◌, ◌≡◌, ◌≤◌}
use Rattle.swp_act.specs.declared.ActEvent.{ActEvent}
use Rattle.shdlc_core.specs.declared.answers.Due.TheVariants.{Rr as Rr_due}
use Rattle.shdlc_core.specs.Machine.{taken, with_ready}
use Rattle.link_laws.specs.machine.Machine.{ActDue, activated}
use Rattle.link_laws.specs.machine.Machine.Role.{Bare}
use Rattle.link_laws.specs.messages.Links.{number_of}
use Rattle.link_laws.specs.entries.Entries.{End as Who, input_entries, told_of}
use Rattle.swp_base.specs.declared.link_terms.Cause.{Cause}
use Rattle.link_end.specs.Reports.{report_told}
use Rattle.link_end.specs.Idle.{IsIdle}
use Rattle.trace_model.specs.declared.entry.Entry.TheVariants as entry
use Rattle.link_laws.specs.entries.Entries.Entry.{Sent}
use Rattle.world.specs.Nodes.{HasFewDue}

-- ## No activation

-- a bare end without ACT frames
abbrev pub IsBare : LinkEnd → Type 0
IsBare e = (e.role ≡ Bare) × (e.acts ≡ [])

-- an event of activation changes nothing at it
inactive : (e : LinkEnd) (event : ActEvent) → IsBare e → activated e event ≡ e
inactive e event h = let p = h.0 in rw p refl

-- its next frame is fetched
pub plain_fetched : (e : LinkEnd) → e.acts ≡ [] → frame_fetched e ≡ record e { shdlc = fetched e.shdlc }
plain_fetched e p = rw p refl

bare_input : (e : LinkEnd) (i : LinkInput) → IsBare e → IsBare (after_input e i)
bare_input e i h = grind arith

bare_inputs : (is : List LinkInput) (e : LinkEnd) → IsBare e → IsBare (after_inputs e is)
bare_inputs [] e h = h
bare_inputs (i ∷ is) e h = bare_inputs is (after_input e i) (bare_input e i h)

pub is_bare : (e : LinkEnd) → Reached e → IsBare e
is_bare e r = let P : LinkEnd → Type 0 = λ z. IsBare z in subst P (sym r.is) (bare_inputs r.inputs (new_link_end Bare) (refl, refl))

-- ## At most one control frame more

-- f has at most one control frame more to send than e
abbrev AddsOne : EndState → EndState → Type 0
AddsOne e f = length f.due ≤ suc (length e.due)

one_more : (ds : List Due) (d : Due) → length (ds ++ d ∷ []) ≤ suc (length ds)
one_more ds d = let l = length-append ds (d ∷ []) in omega (arith, l)

ready_adds : (e : EndState) (r : Bool) → AddsOne e (with_ready e r)
ready_adds e r = go e.ready r e.session.answered_rnr refl refl refl
  where
    go : (was now noted : Bool) → e.ready ≡ was → r ≡ now → e.session.answered_rnr ≡ noted → AddsOne e (with_ready e r)
    go true true noted p q n = rw (p, q) (omega arith)
    go false false noted p q n = rw (p, q) (omega arith)
    go true false noted p q n = rw (p, q) (omega arith)
    go false true true p q n = rw (p, q, n) (one_more e.due Rr_due)
    go false true false p q n = rw (p, q, n) (omega arith)

-- an end has at most so many control frames to send
abbrev pub AtMost : ℕ → LinkEnd → Type 0
AtMost n e = length e.shdlc.due ≤ n

unless_most : (o : Option Refused) (e f : LinkEnd) (n : ℕ) → AtMost n e → AtMost n f → AtMost n (unless o e f)
unless_most o e f n p q = grind arith

idle_most : (e : LinkEnd) → e.shdlc.due ≡ [] → AtMost 1 e
idle_most e q = let l = ap (λ (xs : List Due). length xs) q in omega (arith, l)

-- one more than nothing
one_at_most : (e : LinkEnd) (s : EndState) → e.shdlc.due ≡ [] → AddsOne e.shdlc s → length s.due ≤ 1
one_at_most e s q a = let l = ap (λ (xs : List Due). length xs) q in omega (arith, l, a)

-- an end that has none has at most one after it took a frame,
pub took_most : (e : LinkEnd) (c : Control) → IsBare e → e.shdlc.due ≡ [] → AtMost 1 (after_input e (Take c))
took_most e c h q = grind arith

-- after a tick,
pub tick_most : (e : LinkEnd) → IsBare e → e.shdlc.due ≡ [] → AtMost 1 (after_input e Tick)
tick_most e h q = grind arith

-- after a reset,
pub reset_most : (e : LinkEnd) (window : Option ℕ) → e.shdlc.due ≡ [] → AtMost 1 (after_input e (Reset window))
reset_most e window q = grind arith

-- after it was held or let go, and after a message was given
pub hold_most : (e : LinkEnd) (held : Bool) → e.shdlc.due ≡ [] → AtMost 1 (turn e (Hold held))
hold_most e held q = one_at_most e (with_ready e.shdlc (not held)) q (ready_adds e.shdlc (not held))

pub give_most : (e : LinkEnd) (m : Message) → e.shdlc.due ≡ [] → AtMost 1 (turn e (Give m))
give_most e m q = unless_most (give_refusal e m) e (given e m) 1 (idle_most e q) (idle_most e q)

-- A step of an end: what comes to it or what its node does, and then its frames go out.

-- an end that has sent all its frames has room
pub bare_here : {near far : Side} {resets : ℕ} {l : Link} → LinkStandsFor near far resets l → IsBare l.controller.side
bare_here {l} h = is_bare l.controller.side h.here.has.node.has.reached

pub room_here : {near far : Side} {resets : ℕ} {l : Link} → LinkStandsFor near far resets l → HasFewDue l.controller.side
room_here h =
    let a = ap (λ (xs : List ActDue). length xs) (bare_here h).1 in
    let d = ap (λ (xs : List Due). length xs) h.here.idle in
    omega (arith, a, d)

-- the end of the near side has become e
pub midway : {near far : Side} {resets : ℕ} {l : Link} {new : Node} {e : LinkEnd} (b : Bool) → LinkStandsFor near far resets l
    → NodeStandsFor new e → length e.shdlc.due ≤ 1 → IsMidway (record near { node = new }) far resets (with_ended l b) e
midway false h node few = grind arith
midway true h node few = grind arith

-- the number of the session of the near end
pub session_is : {near far : Side} {resets : ℕ} {l : Link} → LinkStandsFor near far resets l → max near.emitted near.took ≡ number_of l.controller
session_is {near} {l} h = ap (λ n. max n near.took) h.here.has.put_is ∙ ap (λ n. max l.controller.emitted n) h.here.has.took_is

-- what is noted of an input, in its place
told_here : {near far : Side} {resets : ℕ} {l : Link} {at : End} {place : Place} {mid : List Entry} (i : LinkInput) (before : List Entry)
    → LinkStandsFor near far resets l → place ≡ record { at = at; session = max near.emitted near.took }
    → AreNoted place.at before mid (told (side_of place.at) place.session (report l.controller.side i) (whole_acked (after_input l.controller.side i)))
    → AreNoted at before mid (told_of (side_of at) l.controller i)
told_here {l} {at} {mid} i before h is noted =
    let k : ℕ = whole_acked (after_input l.controller.side i) in
    rw (← session_is h) (rw is at noted)

-- and then of the frames that went out
pub input_noted : {near far : Side} {resets : ℕ} {l : Link} {at : End} {place : Place} {mid now : List Entry} (i : LinkInput) (before : List Entry)
    → LinkStandsFor near far resets l → place ≡ record { at = at; session = max near.emitted near.took }
    → AreNoted place.at before mid (told (side_of place.at) place.session (report l.controller.side i) (whole_acked (after_input l.controller.side i)))
    → AreNoted at mid now
    (puts_entries (side_of at) (with_ended l (is_some (ended_by l.controller.side i))) (frames_out (after_input l.controller.side i)))
    → AreNoted at before now (input_entries (side_of at) l i [] GoesOut)
input_noted {l} {at} {mid} {now} i before h is noted put =
    more_noted at before (told_of (side_of at) l.controller i)
    (puts_entries (side_of at) (with_ended l (is_some (ended_by l.controller.side i))) (frames_out (after_input l.controller.side i)))
    (told_here i before h is noted) put

-- ## An end at which nothing is under way

-- its tick changes nothing of the link
pub idle_ticks : (l : Link) → IsIdle l.controller.side → ticks_at_controller l [] GoesOut ≡ l
idle_ticks l still =
    let m : LinkEnd = l.controller.side in
    let none : ended_by m Tick ≡ None = ap (λ (r : LinkReport). r.ended) still.told in
    ap (λ (c : Option Cause). becomes (with_ended l (is_some c)) (after_input m Tick)) none
    ∙ (ap (λ (e : LinkEnd). becomes l e) still.same
    ∙ (ap (λ (cs : List Control). with_controller (put_all l cs) (sent_all m)) still.frames ∙ ap (λ (e : LinkEnd). with_controller l e) still.sent))

told_nothing : (who : Who) (n k : ℕ) (r : Report) → report_told r ≡ nothing_told → r.got ≡ [] → told who n r k ≡ []
told_nothing who n k r is none = grind arith

-- and nothing is noted of it
pub idle_entries : (who : Who) (l : Link) → IsIdle l.controller.side → tick_entries who l idle ≡ []
idle_entries who l still = grind arith

-- A message is given to an end, and a step that is refused.

-- ## A step that is refused

-- the end of the near side stands for the same state
pub still : {near far : Side} {resets : ℕ} {l : Link} {new : Node} → LinkStandsFor near far resets l → NodeStandsFor new l.controller.side
    → LinkStandsFor (record near { node = new }) far resets l
still h node = grind arith

-- a refused message changes nothing
pub refused_give : {near far : Side} {resets : ℕ} {l : Link} {new : Node} (x : Message) (o : Option NoCause) (entries : List Entry)
    → LinkStandsFor near far resets l → o ≡ as_noted (give_refusal l.controller.side x) → NodeStandsFor new (turn l.controller.side (Give x))
    → IfSome o (λ why. LinkStandsFor (record near { node = new }) far resets l × (entries ≡ entries))
refused_give x None entries h is node = tt
refused_give {near} {far} {resets} {l} {new} x (Some why) entries h is node = by (give_refusal l.controller.side x) refl
  where
    by : (r : Option Refused) → give_refusal l.controller.side x ≡ r → LinkStandsFor (record near { node = new }) far resets l × (entries ≡ entries)
    by None q = absurd (let z : Some why ≡ None = is ∙ ap as_noted q in cc)
    by (Some because) q =
        let same : turn l.controller.side (Give x) ≡ l.controller.side = rw q refl in
        (still h (rw same at node), refl)

-- ## A message that is given

pub accepted : (o : Option NoCause) (r : Option Refused) → o ≡ as_noted r → is_some o ≡ false → r ≡ None
accepted o r is none = grind arith

pub gives : {near far : Side} {resets : ℕ} {l : Link} {at : End} {session : ℕ} {x : Message} {message : List ℕ} {before mid now : List Entry}
    → session ≡ number_of l.controller → give_refusal l.controller.side x ≡ None → message ≡ x.1
    → mid ≡ before ++ entry.Sent at session x.0 message ∷ []
    → LinkStandsFor near far resets (becomes l (turn l.controller.side (Give x)))
    × AreNoted at mid now (puts_entries (side_of at) l (frames_out (turn l.controller.side (Give x))))
    → HasHappened near far resets l (Step NoInput (Give x ∷ []) GoesOut) at before now
gives {l} {at} {session} {x} {before} {mid} {now} number taken is push sent =
    let puts : List Noted = puts_entries (side_of at) l (frames_out (turn l.controller.side (Give x))) in
    let first : List Noted = Sent (side_of at) (number_of l.controller) x ∷ [] in
    let notes : here_entries (side_of at) l (Step NoInput (Give x ∷ []) GoesOut) ≡ first ++ puts = grind arith in
    let T : List Noted → Type 0 = λ ns. AreNoted at before now ns in
    let noted : AreNoted at before mid first = grind arith in
    record { stands = sent.0; noted = subst T (sym notes) (more_noted at before first puts noted sent.1) }
