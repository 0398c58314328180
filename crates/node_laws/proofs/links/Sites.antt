-- What came at an end may be sent on, and the link of each host is a run of the law of one link over all that happens to it.
use Rattle.node_laws.proofs.Words.{ActEvent, ActFrame, ActStop, ActTake, AllAllowed, AllByRecursion, AreSendable, AreSendableTurns, AsksReset, AtController}
use Rattle.node_laws.proofs.Words.{AtHost, Bool, CanCome, CanEnd, Clt, Comes, Control, EndEvent, Ending, Fetch, FromNode, I, IsClf, IsEvent, IsRun, IsRunOf}
use Rattle.node_laws.proofs.Words.{IsUicc, IsWindow, Link, LinkEnd, LinkEvent, LinkInput, List, Lose, Loss, Message, NextFrame, NoInput, Node, None}
use Rattle.node_laws.proofs.Words.{NumberedEnd, Reset, Role, Rset, S, Session, Start, Starts, Step, Stop, Stops, Take, TakeBroken, TakeUnknown, Tick}
use Rattle.node_laws.proofs.Words.{TicksWithout, Turn, Ua, [], activated, activated_got, after_input, after_link_events, aged, all_append, ap, arith, by_list}
use Rattle.node_laws.proofs.Words.{by_test, cond, deactivated, drop, ended_by, exchanged, false, finished, good_of, happens, happens_at_controller, has_input}
use Rattle.node_laws.proofs.Words.{has_taken, heard, host_ended, host_finished, is_faulty, is_good, is_open, is_some, is_up, is_waiting, length, ltb-true}
use Rattle.node_laws.proofs.Words.{moved, moved_got, nat_lt, new_line, new_link_end, not, put_down, refl, renewed, role_after, sent_all, silent}
use Rattle.node_laws.proofs.Words.{steps_at_controller, stopped, subst, suc, sym, taken, tick_host, ticked_so, ticks_at_controller, took, true, turn, turned}
use Rattle.node_laws.proofs.Words.{turned_role, with_ended, zero, ℕ, ◌%◌, ◌&&◌, ◌++◌, ◌<◌, ◌∙◌, ◌∷◌, ◌≡◌}
use Rattle.hcp_chain.specs.Joining.{given_by, join_step, message_in}
use Rattle.hcp_packet.specs.Packets.{packets_in}
use Rattle.hcp_packet.specs.declared.Packet.{Packet}
use Rattle.link_laws.proofs.machine.Reports.{down_got}
use Rattle.link_laws.specs.machine.Machine.{messages_got, news}
use Rattle.link_laws.specs.messages.Links.{IfLine}
use Rattle.link_laws.specs.messages.Links.LinkEvent.{Ticks}

-- ## What came at an end may be sent on: its messages aren't empty, and their pipes aren't reserved

-- ### Lists

sendable-append : (ms ns : List Message) → AreSendable ms → AreSendable ns → AreSendable (ms ++ ns)
sendable-append [] ns a b = b
sendable-append (m ∷ ms) ns a b = (a.0, sendable-append ms ns a.1 b)

sendable-drop : (n : ℕ) (ms : List Message) → AreSendable ms → AreSendable (drop n ms)
sendable-drop zero ms a = a
sendable-drop (suc n) [] a = tt
sendable-drop (suc n) (m ∷ ms) a = sendable-drop n ms a.1

-- ### Messages of fragments

abbrev HavePipes : List Packet → Type 0
HavePipes ps = AllByRecursion (λ (p : Packet). p.pipe < 112) ps

abbrev OnPipes : List Message → Type 0
OnPipes ms = AllByRecursion (λ (m : Message). m.0 < 112) ms

have_pipes : (fs : List (List ℕ)) → HavePipes (packets_in fs)
have_pipes [] = tt
have_pipes ([] ∷ fs) = have_pipes fs
have_pipes ((first ∷ rest) ∷ fs) = by_test (nat_lt (first % 128) 112) (λ q. rw q (ltb-true (first % 128) 112 q, have_pipes fs)) (λ q. rw q (have_pipes fs))

on_pipes : (begun : List Message) (ps : List Packet) → HavePipes ps → OnPipes (given_by begun ps)
on_pipes begun [] a = tt
on_pipes begun (p ∷ ps) a =
    all_append (λ (m : Message). m.0 < 112) (message_in (join_step begun p).0) (given_by (join_step begun p).1 ps) (grind arith)
    (on_pipes (join_step begun p).1 ps a.1)

good_sendable : (ms : List Message) → OnPipes ms → AreSendable (good_of ms)
good_sendable [] a = tt
good_sendable (m ∷ ms) a = by_test (is_good m.1) (λ q. rw q ((a.0, grind arith), good_sendable ms a.1)) (λ q. rw q (good_sendable ms a.1))

got_sendable : (s : Session) → AreSendable (messages_got s)
got_sendable s = good_sendable (given_by [] (packets_in s.acc)) (on_pipes [] (packets_in s.acc) (have_pipes s.acc))

-- ### What came at an end

abbrev pub Clean : LinkEnd → Type 0
Clean e = AreSendable e.got

got_same : (e f : LinkEnd) → f.got ≡ e.got → Clean e → Clean f
got_same e f q c = let P : List Message → Type 0 = λ ms. AreSendable ms in subst P (sym q) c

heard_clean : (e : LinkEnd) (c : Control) → Clean e → Clean (heard e c)
heard_clean e c a = by_test (is_faulty (taken e.shdlc c).session)
    (λ q. rw q (got_same e (put_down true e) (down_got e true) a))
    (λ q. rw q (sendable-append e.got (news e.shdlc.session (taken e.shdlc c)) a
    (sendable-drop (length (messages_got e.shdlc.session)) (messages_got (taken e.shdlc c).session) (got_sendable (taken e.shdlc c).session))))

open_clean : (e : LinkEnd) (c : Control) (b : Bool) → Clean e → Clean (cond b (heard e c) e)
open_clean e c true a = heard_clean e c a
open_clean e c false a = a

took_clean : (e : LinkEnd) (c : Control) → Clean e → Clean (took e c)
took_clean e (ActFrame act again) a = got_same e (activated e (ActTake act again)) (activated_got e (ActTake act again)) a
took_clean e Clt a = a
took_clean e (I ns nr info) a = open_clean e (I ns nr info) (is_open e.role) a
took_clean e (S kind nr) a = open_clean e (S kind nr) (is_open e.role) a
took_clean e (Rset w caps) a = open_clean e (Rset w caps) (is_open e.role) a
took_clean e Ua a = open_clean e Ua (is_open e.role) a

turn_clean : (e : LinkEnd) (t : Turn) → Clean e → Clean (turn e t)
turn_clean e t a = grind arith

turned_clean : (e : LinkEnd) (ts : List Turn) → Clean e → Clean (turned e ts)
turned_clean e [] a = a
turned_clean e (t ∷ ts) a = turned_clean (turn e t) ts (turn_clean e t a)

pub one_clean : (e : LinkEnd) (t : Turn) → Clean e → Clean (turn e t)
one_clean = turn_clean

pub input_clean : (e : LinkEnd) (i : LinkInput) → Clean e → Clean (after_input e i)
input_clean e (Take c) a = took_clean e c a
input_clean e TakeUnknown a = a
input_clean e (TakeBroken fault) a = a
input_clean e Tick a = grind arith
input_clean e (Reset window) a = grind arith
input_clean e (Start value) a = grind arith
input_clean e Stop a = got_same e (deactivated e) (activated_got (moved e true (stopped e.shdlc)) ActStop ∙ moved_got e true (stopped e.shdlc)) a
input_clean e (FromNode t) a = turn_clean e t a
input_clean e Fetch a = grind arith

-- ## What holds of the end of a link over all that may happen to it

-- ### One end

module _ (P : LinkEnd → Type 0)
    (has : (e : LinkEnd) (i : LinkInput) → P e → P (after_input e i))
    (turns : (e : LinkEnd) (ts : List Turn) → P e → P (turned e ts))
    (sends : (e : LinkEnd) → P e → P (sent_all e))
    (renews : (e : LinkEnd) → P e → P (new_link_end (renewed e.role))) where
  input_is : (l : Link) (i : LinkInput) (ts : List Turn) (ending : Ending) → P l.controller.side
      → (m : Link) → P (finished m (turned (after_input l.controller.side i) ts) ending).controller.side
  input_is l i ts ending a m = grind arith

  step_is : (l : Link) (comes : Comes) (ts : List Turn) (ending : Ending) → P l.controller.side → P (steps_at_controller l comes ts ending).controller.side
  step_is l NextFrame ts ending a = by_list l.to_controller
      (λ q. grind arith)
      (λ x xs q. let is : steps_at_controller l NextFrame ts ending ≡ has_taken l x xs ts ending = rw q refl in
      subst (λ (k : Link). P k.controller.side) (sym is) (input_is l (Take x.frame) ts ending a _))
  step_is l (AsksReset window) ts ending a = input_is l (Reset window) ts ending a (with_ended l (is_some (ended_by l.controller.side (Reset window))))
  step_is l (Starts value) ts ending a = input_is l (Start value) ts ending a (silent l (after_input l.controller.side (Start value)))
  step_is l Stops ts ending a = input_is l Stop ts ending a (silent l (after_input l.controller.side Stop))
  step_is l NoInput ts ending a = grind arith

  pub here_is : (l : Link) (x : EndEvent) → P l.controller.side → P (happens_at_controller l x).controller.side
  here_is l (Step comes ts ending) a = step_is l comes ts ending a
  here_is l (Lose why) a = a

  pub tick_is : (l : Link) (ts : List Turn) (ending : Ending) → P l.controller.side → P (ticks_at_controller l ts ending).controller.side
  tick_is l ts ending a = input_is l Tick ts ending a (with_ended l (is_some (ended_by l.controller.side Tick)))

-- ### The other end stays

step_host : (l : Link) (comes : Comes) (ts : List Turn) (ending : Ending) → (steps_at_controller l comes ts ending).host ≡ l.host
step_host l NextFrame ts ending = by_list l.to_controller
    (λ q. let is : steps_at_controller l NextFrame ts ending ≡ l = rw q refl in ap (λ (k : Link). k.host) is)
    (λ x xs q. let is : steps_at_controller l NextFrame ts ending ≡ has_taken l x xs ts ending = rw q refl in
    let b : Bool = is_some (ended_by l.controller.side (Take x.frame)) in
    ap (λ (k : Link). k.host) is
    ∙ (host_finished _ (turned (after_input l.controller.side (Take x.frame)) ts) ending ∙ host_ended (record l { to_controller = xs }) b))
step_host l (AsksReset window) ts ending =
    let b : Bool = is_some (ended_by l.controller.side (Reset window)) in
    host_finished (with_ended l b) (turned (after_input l.controller.side (Reset window)) ts) ending ∙ host_ended l b
step_host l (Starts value) ts ending =
    host_finished (silent l (after_input l.controller.side (Start value))) (turned (after_input l.controller.side (Start value)) ts) ending
    ∙ (host_ended l (is_up l.controller.side.shdlc.phase))
step_host l Stops ts ending =
    host_finished (silent l (after_input l.controller.side Stop)) (turned (after_input l.controller.side Stop) ts) ending
    ∙ (host_ended l (is_up l.controller.side.shdlc.phase))
step_host l NoInput ts ending = host_finished l (turned l.controller.side ts) ending

pub here_host : (l : Link) (x : EndEvent) → (happens_at_controller l x).host ≡ l.host
here_host l (Step comes ts ending) = step_host l comes ts ending
here_host l (Lose why) = refl

-- ### Roles

module _ (Q : Role → Type 0) (acts : (r : Role) (event : ActEvent) → Q r → Q (role_after r event)) where
  same : (e f : LinkEnd) → f.role ≡ e.role → Q e.role → Q f.role
  same e f q a = subst Q (sym q) a

  heard_is : (e : LinkEnd) (c : Control) (b : Bool) → Q e.role → Q (cond b (heard e c) e).role
  heard_is e c b a = grind arith

  pub role_input : (e : LinkEnd) (i : LinkInput) → Q e.role → Q (after_input e i).role
  role_input e i a = grind arith

clf_acts : (r : Role) (event : ActEvent) → IsClf r → IsClf (role_after r event)
clf_acts r event a = grind arith

uicc_acts : (r : Role) (event : ActEvent) → IsUicc r → IsUicc (role_after r event)
uicc_acts r event a = grind arith

-- ### What is kept

abbrev HasClf : LinkEnd → Type 0
HasClf e = IsClf e.role

abbrev HasUicc : LinkEnd → Type 0
HasUicc e = IsUicc e.role

clf_turns : (e : LinkEnd) (ts : List Turn) → HasClf e → HasClf (turned e ts)
clf_turns e ts a = subst IsClf (sym (turned_role e ts)) a

clf_renews : (e : LinkEnd) → HasClf e → HasClf (new_link_end (renewed e.role))
clf_renews e a = grind arith

uicc_turns : (e : LinkEnd) (ts : List Turn) → HasUicc e → HasUicc (turned e ts)
uicc_turns e ts a = subst IsUicc (sym (turned_role e ts)) a

uicc_renews : (e : LinkEnd) → HasUicc e → HasUicc (new_link_end (renewed e.role))
uicc_renews e a = grind arith

pub here_clf : (l : Link) (x : EndEvent) → IsClf l.controller.side.role → IsClf (happens_at_controller l x).controller.side.role
here_clf l x a = here_is HasClf (role_input IsClf clf_acts) clf_turns (λ e b. b) clf_renews l x a

pub here_uicc : (l : Link) (x : EndEvent) → IsUicc l.controller.side.role → IsUicc (happens_at_controller l x).controller.side.role
here_uicc l x a = here_is HasUicc (role_input IsUicc uicc_acts) uicc_turns (λ e b. b) uicc_renews l x a

here_clean : (l : Link) (x : EndEvent) → Clean l.controller.side → Clean (happens_at_controller l x).controller.side
here_clean l x a = here_is Clean input_clean turned_clean (λ e b. b) (λ e b. tt) l x a

pub tick_clf : (l : Link) (ts : List Turn) (ending : Ending) → IsClf l.controller.side.role → IsClf (ticks_at_controller l ts ending).controller.side.role
tick_clf l ts ending a = tick_is HasClf (role_input IsClf clf_acts) clf_turns (λ e b. b) clf_renews l ts ending a

pub tick_uicc : (l : Link) (ts : List Turn) (ending : Ending) → IsUicc l.controller.side.role → IsUicc (ticks_at_controller l ts ending).controller.side.role
tick_uicc l ts ending a = tick_is HasUicc (role_input IsUicc uicc_acts) uicc_turns (λ e b. b) uicc_renews l ts ending a

tick_clean_of_ends : (l : Link) (ts : List Turn) (ending : Ending) → Clean l.controller.side → Clean (ticks_at_controller l ts ending).controller.side
tick_clean_of_ends l ts ending a = tick_is Clean input_clean turned_clean (λ e b. b) (λ e b. tt) l ts ending a

-- ## The link of each host is a run of the law of one link, over all that happens to it

-- ### Runs

after_push : (es : List LinkEvent) (l : Link) (e : LinkEvent) → after_link_events l (es ++ e ∷ []) ≡ happens (after_link_events l es) e
after_push [] l e = refl
after_push (x ∷ es) l e = after_push es (happens l x) e

allowed_push : (es : List LinkEvent) (l : Link) (e : LinkEvent) → AllAllowed l es → IsEvent (after_link_events l es) e → AllAllowed l (es ++ e ∷ [])
allowed_push [] l e a b = (b, tt)
allowed_push (x ∷ es) l e a b = (a.0, allowed_push es (happens l x) e a.1 b)

-- one event more
pub run_of_more : (events : List LinkEvent) (l : Link) (e : LinkEvent) → IsEvent l e → IsRunOf events l → IsRunOf (events ++ e ∷ []) (happens l e)
run_of_more events l e can run =
    record {
      allowed = allowed_push events new_line e run.allowed (subst (λ (k : Link). IsEvent k e) (sym run.is) can);
      is = after_push events new_line e ∙ ap (λ k. happens k e) run.is;
    }

run_more : (l : Link) (e : LinkEvent) → IsEvent l e → IsRun l → IsRun (happens l e)
run_more l e can r = record { events = r.events ++ e ∷ []; run = run_of_more r.events l e can r.run }

-- ### A link of a world

-- the link of a CLF and a UICC, and what came at its ends may be sent on
pub record IsLine (l : Link) : Type 0 where
  pub clf : IsClf l.controller.side.role
  pub uicc : IsUicc l.host.side.role
  pub near : Clean l.controller.side
  pub far : Clean l.host.side

pub record IsFineLink (l : Link) : Type 0 where
  pub run : IsRun l
  pub line : IsLine l

pub clf_line : (r : Role) → IsClf r → IfLine r
clf_line r a = grind arith

pub uicc_line : (r : Role) → IsUicc r → IfLine r
uicc_line r a = grind arith

pub can_end : (r : Role) (ending : Ending) → IfLine r → CanEnd r ending
can_end r ending a = grind arith

line_here : (l : Link) (x : EndEvent) → IsLine l → IsLine (happens_at_controller l x)
line_here l x a =
    record {
      clf = here_clf l x a.clf;
      uicc = subst (λ (h : NumberedEnd). IsUicc h.side.role) (sym (here_host l x)) a.uicc;
      near = here_clean l x a.near;
      far = subst (λ (h : NumberedEnd). Clean h.side) (sym (here_host l x)) a.far;
    }

line_there : (l : Link) (x : EndEvent) → IsLine l → IsLine (exchanged (happens_at_controller (exchanged l) x))
line_there l x a =
    let k : Link = exchanged l in
    record {
      clf = subst (λ (h : NumberedEnd). IsClf h.side.role) (sym (here_host k x)) a.clf;
      uicc = here_uicc k x a.uicc;
      near = subst (λ (h : NumberedEnd). Clean h.side) (sym (here_host k x)) a.near;
      far = here_clean k x a.far;
    }

-- ### Steps of one end

-- what may come to a controller
abbrev pub MayCome : Comes → Type 0
MayCome (AsksReset window) = IsWindow window
MayCome _ = Unit {0}

pub can_come : (l : Link) (comes : Comes) → MayCome comes → IsClf l.controller.side.role → CanCome l comes
can_come l comes m a = grind arith

pub controller_steps : (l : Link) (comes : Comes) (ts : List Turn) (ending : Ending) → MayCome comes → AreSendableTurns ts → IsFineLink l
    → IsFineLink (happens l (AtController (Step comes ts ending)))
controller_steps l comes ts ending may send a =
    record {
      run = run_more l (AtController (Step comes ts ending))
          (can_come l comes may a.line.clf, (send, can_end l.controller.side.role ending (clf_line l.controller.side.role a.line.clf))) a.run;
      line = line_here l (Step comes ts ending) a.line;
    }

pub host_steps : (l : Link) (comes : Comes) (ts : List Turn) (ending : Ending) → CanCome (exchanged l) comes → AreSendableTurns ts → IsFineLink l
    → IsFineLink (happens l (AtHost (Step comes ts ending)))
host_steps l comes ts ending can send a =
    record {
      run = run_more l (AtHost (Step comes ts ending)) (can, (send, can_end l.host.side.role ending (uicc_line l.host.side.role a.line.uicc))) a.run;
      line = line_there l (Step comes ts ending) a.line;
    }

pub controller_loses : (l : Link) (why : Loss) → IsFineLink l → IsFineLink (happens l (AtController (Lose why)))
controller_loses l why a = record { run = run_more l (AtController (Lose why)) tt a.run; line = line_here l (Lose why) a.line }

pub host_loses : (l : Link) (why : Loss) → IsFineLink l → IsFineLink (happens l (AtHost (Lose why)))
host_loses l why a = record { run = run_more l (AtHost (Lose why)) tt a.run; line = line_there l (Lose why) a.line }

-- ### Ticks

-- what comes of a link whose controller's end has had its tick, or was reset in place of it, and then the host's
abbrev pub ticked_of_sites : Link → Bool → Node → Node → Link
ticked_of_sites l late c h = exchanged (ticks_at_controller (exchanged (ticked_so (aged l) late c.turns c.ending)) h.turns h.ending)

line_ticked : (m : Link) (h : Node) → IsLine m → IsLine (exchanged (ticks_at_controller (exchanged m) h.turns h.ending))
line_ticked m h a =
    let k : Link = exchanged m in
    record {
      clf = subst (λ (z : NumberedEnd). IsClf z.side.role) (sym (tick_host k h.turns h.ending)) a.clf;
      uicc = tick_uicc k h.turns h.ending a.uicc;
      near = subst (λ (z : NumberedEnd). Clean z.side) (sym (tick_host k h.turns h.ending)) a.near;
      far = tick_clean_of_ends k h.turns h.ending a.far;
    }

line_tick : (l : Link) (ts : List Turn) (ending : Ending) → IsLine l → IsLine (ticks_at_controller l ts ending)
line_tick l ts ending a =
    record {
      clf = tick_clf l ts ending a.clf;
      uicc = subst (λ (h : NumberedEnd). IsUicc h.side.role) (sym (tick_host l ts ending)) a.uicc;
      near = tick_clean_of_ends l ts ending a.near;
      far = subst (λ (h : NumberedEnd). Clean h.side) (sym (tick_host l ts ending)) a.far;
    }

pub record AreNodes (c h : Node) : Type 0 where
  pub controller : AreSendableTurns c.turns
  pub host : AreSendableTurns h.turns

-- a link of a world grows older and stays so
line_aged : (l : Link) → IsLine l → IsLine (aged l)
line_aged l a = record { clf = a.clf; uicc = a.uicc; near = a.near; far = a.far }

-- a tick may happen, and so may one in which the controller's end is reset in place of its tick, unless it waits
pub tick_allowed : (l : Link) (c h : Node) → AreNodes c h → IsLine l → IsEvent l (Ticks c [] h)
tick_allowed l c h send a =
    let m : Link = ticks_at_controller (aged l) c.turns c.ending in
    let b : IsLine m = line_tick (aged l) c.turns c.ending (line_aged l a) in grind arith

pub reset_allowed : (l : Link) (c h : Node) → AreNodes c h → IsLine l → is_waiting l.controller.side.shdlc ≡ false
    → IsEvent l (TicksWithout (Step (AsksReset None) c.turns c.ending ∷ []) h)
reset_allowed l c h send a q =
    let reset : EndEvent = Step (AsksReset None) c.turns c.ending in
    let m : Link = happens_at_controller (aged l) reset in
    let b : IsLine m = line_here (aged l) reset (line_aged l a) in grind arith

pub ticks_fine : (l : Link) (late : Bool) (c h : Node) → AreNodes c h → IsFineLink l → IsFineLink (ticked_of_sites l late c h)
ticks_fine l late c h send a = go late (is_waiting l.controller.side.shdlc) refl
  where
    reset : EndEvent
    reset = Step (AsksReset None) c.turns c.ending

    then_host : Link → Link
    then_host k = exchanged (ticks_at_controller (exchanged k) h.turns h.ending)

    plain : IsFineLink (then_host (ticks_at_controller (aged l) c.turns c.ending))
    plain =
        let m : Link = ticks_at_controller (aged l) c.turns c.ending in
        record {
          run = run_more l (Ticks c [] h) (tick_allowed l c h send a.line) a.run;
          line = line_ticked m h (line_tick (aged l) c.turns c.ending (line_aged l a.line));
        }

    by_reset : is_waiting l.controller.side.shdlc ≡ false → IsFineLink (then_host (has_input (aged l) (Reset None) c.turns c.ending))
    by_reset q =
        let m : Link = happens_at_controller (aged l) reset in
        record {
          run = run_more l (TicksWithout (reset ∷ []) h) (reset_allowed l c h send a.line q) a.run;
          line = line_ticked m h (line_here (aged l) reset (line_aged l a.line));
        }

    choice : Bool → Bool → Link
    choice b w = cond (b && not w) (has_input (aged l) (Reset None) c.turns c.ending) (ticks_at_controller (aged l) c.turns c.ending)

    go : (b w : Bool) → is_waiting l.controller.side.shdlc ≡ w → IsFineLink (then_host (choice b (is_waiting l.controller.side.shdlc)))
    go false w q = plain
    go true true q = let P : Bool → Type 0 = λ z. IsFineLink (then_host (choice true z)) in subst P (sym q) plain
    go true false q = let P : Bool → Type 0 = λ z. IsFineLink (then_host (choice true z)) in subst P (sym q) (by_reset q)
