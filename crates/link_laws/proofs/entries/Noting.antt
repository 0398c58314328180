-- What is noted of runs and steps says what is kept of the sessions of both ends, at each moment, too.
use Rattle.std.proofs.lemmas.List.{take-append-le}
use Rattle.link_laws.proofs.Words.{ActEvent, ActStart, ActStop, ActTick, AreSendableTurns, AsksReset, Bool, ByAct, CanEnd, Comes, Controller, CoreInOrder}
use Rattle.link_laws.proofs.Words.{CutOff, End, EndState, Ending, Entry, GoesOut, HasTick, Host, InOrder, InOrderIn, IsFrontOf, IsNode, Link}
use Rattle.link_laws.proofs.Words.{LinkEnd, LinkInput, List, Message, NextFrame, NoInput, Node, None, NumberedEnd, OnWire, Option, Reset, Restarted, Role}
use Rattle.link_laws.proofs.Words.{Session, Start, Starts, Stop, Stops, Take, Talk, Took, Turn, Up as IsUpNow, [], acked_noted, activated}
use Rattle.link_laws.proofs.Words.{after_input, ap, append-nil, append_assoc, arith, began_by, core_end, core_of, ended_by, false, far, filter-append, finished}
use Rattle.link_laws.proofs.Words.{frames_out, good_of, got_noted, has_taken, if_up, inl, inr, is_good, is_open, is_some, is_waiting, left_after, length}
use Rattle.link_laws.proofs.Words.{max, moved, no_talk, number_of, refl, reset_by, reset_refusal, rest_entries, restart_entries, role_after, sent_noted}
use Rattle.link_laws.proofs.Words.{shdlc_session_of, silent, step_entries, steps_at_controller, stopped, subst, suc, sym, take, taken_entries, talk_of}
use Rattle.link_laws.proofs.Words.{tick_answer, tick_entries, ticked, ticks_at_controller, told_of, took, took_with, true, true≢false, turn, turned, window_of}
use Rattle.link_laws.proofs.Words.{with_ended, zero, ℕ, ◌++◌, ◌∙◌, ◌∷◌, ◌≡◌, ◌≤◌, ◌⊎◌}
use Rattle.link_laws.proofs.Cases.{by_list, by_option, by_test}
use Rattle.link_laws.proofs.entries.Books.{Book, Silent, book_of, past_after, plus, plus-blank, read, read-append, told_silent}
use Rattle.link_laws.proofs.entries.Stepping.{AllFew, CanFinish, Few, OfOne, Out, TakesInput, Tolds, few_more, few_then, few_told, front_parts, front_read}
use Rattle.link_laws.proofs.entries.Stepping.{input_told, rest_told, sound_sent, sound_turns}
use Rattle.link_laws.proofs.machine.Reports.{Reports, good-append, reset_so, shdlc_is as shdlc_moved, start_so, stop_so, take_so, tick_so}
use Rattle.link_laws.proofs.machine.Runs.{Sound, sound_input}
use Rattle.link_laws.proofs.machine.Sound.{IsNotUp}
use Rattle.link_laws.proofs.messages.Project.{NoAsk, NoRset, Now, Tells, host_ended as ended_host, moved_role, none_due}
use Rattle.link_laws.proofs.messages.Finishing.{can_after, can_end, none_out, restart_mid, tick_closed, tick_open, tick_role, took_can, waiting_phase}
use Rattle.link_laws.proofs.messages.Steps.{Rests, act_mid, activated_role, says_of, session-core, tick_closes}
use Rattle.link_laws.proofs.messages.Runs.{in_messages}
use Rattle.link_laws.proofs.sessions.Sending.{SafeLink}

-- ## What is noted of a run says what is kept of the sessions of both ends

-- ### Where an end is Up before its frames go out, no RSET is due

-- turns leave the phase of an end
pub turned_same : (ts : List Turn) (e : LinkEnd) → (turned e ts).shdlc.phase ≡ e.shdlc.phase
turned_same [] e = refl
turned_same (t ∷ ts) e = let h0 = turned_same ts (turn e t) in grind arith

-- no RSET goes out where the end is Up
abbrev pub IsQuietEnd : LinkEnd → List Turn → Type 0
IsQuietEnd f ts = (turned f ts).shdlc.phase ≡ IsUpNow → NoRset (frames_out (turned f ts))

-- an end that isn't Up
not_up_quiet : (f : LinkEnd) (ts : List Turn) → IsNotUp f.shdlc → IsQuietEnd f ts
not_up_quiet f ts d up = absurd (d (sym (turned_same ts f) ∙ up))

quiet_idle : (l : Link) (ts : List Turn) → AreSendableTurns ts → Tells l.controller → Rests l.controller.side.shdlc → IsQuietEnd l.controller.side ts
quiet_idle l ts a h r = λ _. none_out None l.controller.side ts a h.now (none_due l.controller.side.shdlc r.due)

quiet_reset : (l : Link) (window : Option ℕ) (ts : List Turn) → AreSendableTurns ts → Tells l.controller → Rests l.controller.side.shdlc
    → IsQuietEnd (after_input l.controller.side (Reset window)) ts
quiet_reset l window ts a h r =
    by_option {P = IsQuietEnd (after_input e (Reset window)) ts} (reset_refusal e) (λ q.
    let is : after_input e (Reset window) ≡ reset_by e (window_of e window) = rw q refl in
    subst P (sym is) (not_up_quiet (reset_by e (window_of e window)) ts (λ u. grind arith)))
    (λ why q. let is : after_input e (Reset window) ≡ e = rw q refl in subst P (sym is) (quiet_idle l ts a h r))
  where
    e : LinkEnd
    e = l.controller.side

    P : LinkEnd → Type 0
    P f = IsQuietEnd f ts

restarted_down : (e : LinkEnd) (event : ActEvent) → Now e → IsNotUp (activated (moved e true (stopped e.shdlc)) event).shdlc
restarted_down e event h u = let m = restart_mid e event h in let z = sym (ap (λ (s : EndState). s.phase) m.same) ∙ u in cc

quiet_tick : (l : Link) (ts : List Turn) → AreSendableTurns ts → Tells l.controller → Rests l.controller.side.shdlc
    → IsQuietEnd (after_input l.controller.side HasTick) ts
quiet_tick l ts a h r =
    by_test {P = IsQuietEnd (after_input e HasTick) ts} (is_open e.role) (λ o. let t = tick_open e o in subst P (sym t.0) (open_one o (is_waiting s) refl))
    (λ o.
    let t = tick_closed e o in
    let m = act_mid e ActTick h.now r.due (λ z. absurd (true≢false (sym z ∙ tick_closes e.role o))) (λ z. h.now.closed (tick_role e.role z)) in
    let still : IsNotUp (activated e ActTick).shdlc = λ u. let z = sym (ap (λ (x : EndState). x.phase) m.same ∙ h.now.closed o) ∙ u in cc in
    subst P (sym t.0) (not_up_quiet (activated e ActTick) ts still))
  where
    e : LinkEnd
    e = l.controller.side

    s : EndState
    s = ticked e.shdlc

    b : Bool
    b = is_some (tick_answer e.shdlc).ended

    P : LinkEnd → Type 0
    P f = IsQuietEnd f ts

    still : is_waiting s ≡ true → IsNotUp (moved e b s).shdlc
    still w u = let z = sym (ap (λ (x : EndState). x.phase) (shdlc_moved e b s) ∙ waiting_phase s w) ∙ u in cc

    open_one : is_open e.role ≡ true → (c : Bool) → is_waiting s ≡ c → IsQuietEnd (moved e b s) ts
    open_one o true w = not_up_quiet (moved e b s) ts (still w)
    open_one o false w =
        let Q : EndState → Type 0 = λ z. NoAsk z.due in
        λ _. none_out None (moved e b s) ts a (grind arith) (subst Q (sym (shdlc_moved e b s)) (let h0 = none_due e.shdlc r.due in grind arith))

-- ### Frames

-- what is known of the first frame on the wire to an end
pub record Frame (l : Link) (x : OnWire) (ts : List Turn) : Type 0 where
  pub quiet : NoRset (frames_out (turned (took l.controller.side x.frame) ts))
  pub same : l.controller.side.shdlc.phase ≡ IsUpNow → is_some (ended_by l.controller.side (Take x.frame)) ≡ false
      → took_with l.controller.took x ≡ l.controller.took
  pub fresh : began_by l.controller.side (Take x.frame) ≡ true → talk_of l.controller (max l.controller.emitted (took_with l.controller.took x)) ≡ no_talk

abbrev pub Frames : Link → List Turn → Type 0
Frames l ts = (x : OnWire) (xs : List OnWire) → l.to_controller ≡ x ∷ xs → Frame l x ts

-- ### A step

-- what is known of an end before a step
pub record Near (l : Link) : Type 0 where
  pub tells : Tells l.controller
  pub rests : Rests l.controller.side.shdlc
  pub sound : Sound l.controller.side

pub ended_number : (l : Link) (b : Bool) → number_of (with_ended l b).controller ≡ number_of l.controller
ended_number l b = grind arith

-- l becomes k in front of an input by which no session begins
pub record IsPlainInput (l k : Link) (i : LinkInput) : Type 0 where
  pub reports : Reports l.controller.side i
  pub none : began_by l.controller.side i ≡ false
  pub number : number_of k.controller ≡ number_of l.controller
  pub host : k.host ≡ l.host

pub plain_ended : (l : Link) (b : Bool) {i : LinkInput} → Reports l.controller.side i → began_by l.controller.side i ≡ false
    → IsPlainInput l (with_ended l b) i
plain_ended l b so none = record { reports = so; none = none; number = ended_number l b; host = ended_host l b }

pub plain_silent : (l : Link) (f : LinkEnd) {i : LinkInput} → Reports l.controller.side i → began_by l.controller.side i ≡ false
    → IsPlainInput l (silent l f) i
plain_silent l f so none = grind arith

plain_input : {l k : Link} {i : LinkInput} → IsPlainInput l k i → k.controller.past ≡ past_after (is_some (ended_by l.controller.side i)) l.controller
    → TakesInput l k i l.controller
plain_input plain past = grind arith

moved_can : (e : LinkEnd) (i : LinkInput) (ts : List Turn) (ending : Ending) (r : Role) → (after_input e i).role ≡ r → CanEnd r ending
    → CanEnd (turned (after_input e i) ts).role ending
moved_can e i ts ending r q can = can_end (after_input e i) ts r ending q can

pub reset_role : (e : LinkEnd) (window : Option ℕ) → (after_input e (Reset window)).role ≡ e.role
reset_role e window = grind arith

pub tick_can : (e : LinkEnd) (ts : List Turn) (ending : Ending) → CanEnd e.role ending → CanEnd (turned (after_input e HasTick) ts).role ending
tick_can e ts ending can =
    by_test (is_open e.role) (λ o.
    let t = tick_open e o in
    let b : Bool = is_some (tick_answer e.shdlc).ended in
    subst P (sym t.0) (can_end (moved e b (ticked e.shdlc)) ts e.role ending (moved_role e b (ticked e.shdlc)) can))
    (λ o.
    let t = tick_closed e o in
    subst P (sym t.0) (can_end (activated e ActTick) ts (role_after e.role ActTick) ending (activated_role e ActTick) (can_after e.role ActTick ending can)))
  where
    P : LinkEnd → Type 0
    P f = CanEnd (turned f ts).role ending

-- behind no input, a tick, a reset and a frame an end can finish its step
pub idle_finishes : (l : Link) (ts : List Turn) (ending : Ending) → IsNode l ts ending → Near l → CanFinish l.controller.side ts ending
idle_finishes l ts ending a n = record {
  sendable = a.0;
  can = can_end l.controller.side ts l.controller.side.role ending refl a.1;
  quiet = quiet_idle l ts a.0 n.tells n.rests;
  sound = n.sound;
}

pub tick_finishes : (l : Link) (node : Node) → IsNode l node.turns node.ending → Near l
    → CanFinish (after_input l.controller.side HasTick) node.turns node.ending
tick_finishes l node a n = record {
  sendable = a.0;
  can = tick_can l.controller.side node.turns node.ending a.1;
  quiet = quiet_tick l node.turns a.0 n.tells n.rests;
  sound = sound_input l.controller.side HasTick tt n.sound;
}

pub reset_finishes : (l : Link) (window : Option ℕ) (ts : List Turn) (ending : Ending) → IsNode l ts ending → Near l
    → CanFinish (after_input l.controller.side (Reset window)) ts ending
reset_finishes l window ts ending a n = record {
  sendable = a.0;
  can = moved_can l.controller.side (Reset window) ts ending l.controller.side.role (reset_role l.controller.side window) a.1;
  quiet = quiet_reset l window ts a.0 n.tells n.rests;
  sound = sound_input l.controller.side (Reset window) tt n.sound;
}

pub take_finishes : (l : Link) (x : OnWire) (ts : List Turn) (ending : Ending) → IsNode l ts ending → Near l → Frame l x ts
    → CanFinish (after_input l.controller.side (Take x.frame)) ts ending
take_finishes l x ts ending a n fr =
    let f : LinkEnd = after_input l.controller.side (Take x.frame) in
    record {
      sendable = a.0;
      can = can_end f ts f.role ending refl (took_can l.controller.side x.frame ending a.1);
      quiet = λ _. fr.quiet;
      sound = sound_input l.controller.side (Take x.frame) tt n.sound;
    }

-- the input i begins or ends activation, by which the end restarts
pub record IsRestart (e : LinkEnd) (i : LinkInput) (event : ActEvent) : Type 0 where
  pub becomes : after_input e i ≡ activated (moved e true (stopped e.shdlc)) event
  pub ended : ended_by e i ≡ if_up e.shdlc ByAct
  pub none : began_by e i ≡ false
  pub reports : Reports e i
  pub sound : Sound (after_input e i)

pub start_restarts : (e : LinkEnd) (v : ℕ) → Sound e → IsRestart e (Start v) (ActStart v)
start_restarts e v s = record { becomes = refl; ended = refl; none = refl; reports = start_so e v s; sound = sound_input e (Start v) tt s }

pub stop_restarts : (e : LinkEnd) → Sound e → IsRestart e Stop ActStop
stop_restarts e s = record { becomes = refl; ended = refl; none = refl; reports = stop_so e s; sound = sound_input e Stop tt s }

pub restart_finishes : (l : Link) {i : LinkInput} {event : ActEvent} (ts : List Turn) (ending : Ending) → IsNode l ts ending → Near l
    → IsRestart l.controller.side i event → CanFinish (after_input l.controller.side i) ts ending
restart_finishes l {i} {event} ts ending a n r =
    let e : LinkEnd = l.controller.side in
    let role : (after_input e i).role ≡ role_after e.role event =
    ap (λ (z : LinkEnd). z.role) r.becomes ∙ activated_role (moved e true (stopped e.shdlc)) event in
    let P : LinkEnd → Type 0 = λ z. IsQuietEnd z ts in
    record {
      sendable = a.0;
      can = moved_can e i ts ending (role_after e.role event) role (can_after e.role event ending a.1);
      quiet = subst P (sym r.becomes) (not_up_quiet (activated (moved e true (stopped e.shdlc)) event) ts (restarted_down e event n.tells.now));
      sound = r.sound;
    }

pub tick_told : (t : List Entry) (who : End) (l : Link) (node : Node) → IsNode l node.turns node.ending → Near l → Tolds t who l
    → Out t (tick_entries who l node) who (ticks_at_controller l node.turns node.ending)
tick_told t who l node a n b =
    let c : Bool = is_some (ended_by l.controller.side HasTick) in
    input_told HasTick (plain_input (plain_ended l c (tick_so l.controller.side n.sound) refl) (grind arith)) (tick_finishes l node a n) n.sound b

restart_told : {t : List Entry} {who : End} {l : Link} {i : LinkInput} {event : ActEvent} (ts : List Turn) (ending : Ending) → IsNode l ts ending → Near l
    → IsRestart l.controller.side i event → Tolds t who l
    → Out t (restart_entries who l i ts ending) who (finished (silent l (after_input l.controller.side i)) (turned (after_input l.controller.side i) ts) ending)
restart_told {t} {who} {l} {i} ts ending a n r b =
    let f : LinkEnd = after_input l.controller.side i in
    let k : Link = silent l f in
    let first : Tolds (t ++ Restarted who ∷ []) who l =
    record {
      here = told_silent t (Restarted who ∷ []) who l.controller (λ x m. refl) b.here;
      there = told_silent t (Restarted who ∷ []) (far who) l.host (λ x m. refl) b.there;
    } in
    let out = input_told i (plain_input (plain_silent l f r.reports r.none) (grind arith)) (restart_finishes l ts ending a n r) n.sound first in
    let vs : List Entry = told_of who l.controller i ++ rest_entries who k f ts ending in
    record {
      tolds = subst (λ z. Tolds z who (finished k (turned f ts) ending)) (append_assoc t (Restarted who ∷ []) vs) out.tolds;
      few = few_then t who (Restarted who ∷ []) vs (few_more t who (Restarted who ∷ []) (few_told t who l.controller b.here) ((λ w m. refl), tt)) out.few;
    }

taken_told : {t : List Entry} {who : End} (l : Link) (x : OnWire) (xs : List OnWire) (ts : List Turn) (ending : Ending) → IsNode l ts ending → Near l
    → Frame l x ts → Tolds t who l → Out t (taken_entries who l x xs ts ending) who (has_taken l x xs ts ending)
taken_told {t} {who} l x xs ts ending a n fr b =
    let e : LinkEnd = l.controller.side in
    let i : LinkInput = Take x.frame in
    let f : LinkEnd = after_input e i in
    let c : Bool = is_some (ended_by e i) in
    let k : Link = left_after l x xs in
    let h : NumberedEnd = record l.controller { took = took_with l.controller.took x } in
    let first : Tolds (t ++ Took who x.frame ∷ []) who l =
    record {
      here = told_silent t (Took who x.frame ∷ []) who l.controller (λ y m. refl) b.here;
      there = told_silent t (Took who x.frame ∷ []) (far who) l.host (λ y m. refl) b.there;
    } in
    let takes : TakesInput l k i h =
    record {
      input = record {
        becomes = take_so e x.frame n.sound;
        acked = refl;
        past = grind arith;
        same = λ up q. number c ∙ ap (max l.controller.emitted) (fr.same up q);
        fresh = λ q. ap (talk_of l.controller) (number c) ∙ fr.fresh q;
      };
      side = refl;
      number = sym (number c);
      host = host c;
    } in
    let out = input_told i takes (take_finishes l x ts ending a n fr) n.sound first in
    let vs : List Entry = told_of who h i ++ rest_entries who k f ts ending in
    record {
      tolds = subst (λ z. Tolds z who (finished k (turned f ts) ending)) (append_assoc t (Took who x.frame ∷ []) vs) out.tolds;
      few = few_then t who (Took who x.frame ∷ []) vs (few_more t who (Took who x.frame ∷ []) (few_told t who l.controller b.here) ((λ w m. refl), tt)) out.few;
    }
  where
    m : Bool → Link
    m c = with_ended (record l { to_controller = xs }) c

    number : (c : Bool) → number_of (record (m c).controller { took = took_with l.controller.took x })
        ≡ max l.controller.emitted (took_with l.controller.took x)
    number c = grind arith

    host : (c : Bool) → (m c).host ≡ l.host
    host c = grind arith

-- what is to be known of frames where one is taken
abbrev pub FramesFor : Comes → Link → List Turn → Type 0
FramesFor NextFrame l ts = Frames l ts
FramesFor _ l ts = Unit {0}

pub step_told : (t : List Entry) (who : End) (l : Link) (comes : Comes) (ts : List Turn) (ending : Ending) → IsNode l ts ending → Near l → FramesFor comes l ts
    → Tolds t who l → Out t (step_entries who l comes ts ending) who (steps_at_controller l comes ts ending)
step_told t who l (AsksReset window) ts ending a n fr b =
    let c : Bool = is_some (ended_by l.controller.side (Reset window)) in
    input_told (Reset window) (plain_input (plain_ended l c (reset_so l.controller.side window n.sound) refl) (grind arith))
    (reset_finishes l window ts ending a n) n.sound b
step_told t who l (Starts v) ts ending a n fr b = restart_told ts ending a n (start_restarts l.controller.side v n.sound) b
step_told t who l Stops ts ending a n fr b = restart_told ts ending a n (stop_restarts l.controller.side n.sound) b
step_told t who l NoInput ts ending a n fr b = rest_told t who l l.controller.side ts ending (idle_finishes l ts ending a n) b.here b.there
step_told t who l NextFrame ts ending a n fr b =
    by_list {P = Out t (step_entries who l NextFrame ts ending) who (steps_at_controller l NextFrame ts ending)} l.to_controller (λ q.
    let z = none q in
    as_is (step_entries who l NextFrame ts ending) [] (steps_at_controller l NextFrame ts ending) l z.0 z.1
    (record {
      tolds = record { here = told_silent t [] who l.controller (λ y m. refl) b.here; there = told_silent t [] (far who) l.host (λ y m. refl) b.there };
      few = few_more t who [] (few_told t who l.controller b.here) tt;
    }))
    (λ x xs q.
    as_is (step_entries who l NextFrame ts ending) (taken_entries who l x xs ts ending) (steps_at_controller l NextFrame ts ending)
    (has_taken l x xs ts ending)
    (rw q refl) (here x xs q) (taken_told l x xs ts ending a n (fr x xs q) b))
  where
    here : (x : OnWire) (xs : List OnWire) → l.to_controller ≡ x ∷ xs → steps_at_controller l NextFrame ts ending ≡ has_taken l x xs ts ending
    here x xs q = rw q refl

    none : l.to_controller ≡ [] → (step_entries who l NextFrame ts ending ≡ []) × (steps_at_controller l NextFrame ts ending ≡ l)
    none q = (rw q refl, rw q refl)

    as_is : (u v : List Entry) (k m : Link) → u ≡ v → k ≡ m → Out t v who m → Out t u who k
    as_is u v k m p q h = grind arith

-- ### Ends stay sound

sound_finished : (l : Link) (e : LinkEnd) (ending : Ending) → CanEnd e.role ending → Sound e → Sound (finished l e ending).controller.side
sound_finished l e GoesOut can s = sound_sent e s
sound_finished l e CutOff can s = grind arith

pub sound_tick : (l : Link) (node : Node) → IsNode l node.turns node.ending → Sound l.controller.side
    → Sound (ticks_at_controller l node.turns node.ending).controller.side
sound_tick l node a s =
    let f : LinkEnd = after_input l.controller.side HasTick in
    sound_finished (with_ended l (is_some (ended_by l.controller.side HasTick))) (turned f node.turns) node.ending
    (tick_can l.controller.side node.turns node.ending a.1)
    (sound_turns node.turns f a.0 (sound_input l.controller.side HasTick tt s))

pub restart_can : (e : LinkEnd) (event : ActEvent) (ts : List Turn) (ending : Ending) → CanEnd e.role ending
    → CanEnd (turned (activated (moved e true (stopped e.shdlc)) event) ts).role ending
restart_can e event ts ending can = grind (arith, can_end, activated, moved, activated_role, can_after)

pub sound_step : (l : Link) (comes : Comes) (ts : List Turn) (ending : Ending) → IsNode l ts ending → Sound l.controller.side
    → Sound (steps_at_controller l comes ts ending).controller.side
sound_step l (AsksReset window) ts ending a s =
    let f : LinkEnd = after_input l.controller.side (Reset window) in
    sound_finished (with_ended l (is_some (ended_by l.controller.side (Reset window)))) (turned f ts) ending
    (moved_can l.controller.side (Reset window) ts ending l.controller.side.role (reset_role l.controller.side window) a.1)
    (sound_turns ts f a.0 (sound_input l.controller.side (Reset window) tt s))
sound_step l (Starts v) ts ending a s =
    let f : LinkEnd = after_input l.controller.side (Start v) in
    sound_finished (silent l f) (turned f ts) ending (restart_can l.controller.side (ActStart v) ts ending a.1)
    (sound_turns ts f a.0 (sound_input l.controller.side (Start v) tt s))
sound_step l Stops ts ending a s =
    let f : LinkEnd = after_input l.controller.side Stop in
    sound_finished (silent l f) (turned f ts) ending (restart_can l.controller.side ActStop ts ending a.1)
    (sound_turns ts f a.0 (sound_input l.controller.side Stop tt s))
sound_step l NoInput ts ending a s =
    sound_finished l (turned l.controller.side ts) ending (can_end l.controller.side ts l.controller.side.role ending refl a.1)
    (sound_turns ts l.controller.side a.0 s)
sound_step l NextFrame ts ending a s =
    by_list {P = Sound (steps_at_controller l NextFrame ts ending).controller.side} l.to_controller
    (λ q. let is : steps_at_controller l NextFrame ts ending ≡ l = rw q refl in subst P (sym is) s) (λ x xs q.
    let is : steps_at_controller l NextFrame ts ending ≡ has_taken l x xs ts ending = rw q refl in
    let f : LinkEnd = after_input l.controller.side (Take x.frame) in
    subst P (sym is) (sound_finished (left_after l x xs) (turned f ts) ending
    (can_end f ts f.role ending refl (took_can l.controller.side x.frame ending a.1))
    (sound_turns ts f a.0 (sound_input l.controller.side (Take x.frame) tt s))))
  where
    P : Link → Type 0
    P k = Sound k.controller.side

-- ## At each moment of a step messages are in order, where they are before and behind it

-- messages are in order, both ways and in each session
abbrev pub Ok : List Entry → Type 0
Ok t = (who : End) (n : ℕ) → InOrderIn t who n

-- and at each moment of these entries behind those
abbrev pub AllOk : List Entry → List Entry → Type 0
AllOk t u = (p : List Entry) → IsFrontOf p u → Ok (t ++ p)

pub all_then : (t u v : List Entry) → AllOk t u → AllOk (t ++ u) v → AllOk t (u ++ v)
all_then t u v a b p f = go (front_parts p u v f)
  where
    go : IsFrontOf p u ⊎ ((q : List Entry) × (p ≡ u ++ q) × IsFrontOf q v) → Ok (t ++ p)
    go (inl g) = a p g
    go (inr g) = let P : List Entry → Type 0 = λ z. Ok z in subst P (append_assoc t u g.0 ∙ ap (λ z. t ++ z) (sym g.1)) (b g.0 g.2)

-- ### Fronts of messages

front_more : {X : Type 0} (xs ys zs : List X) → IsFrontOf xs ys → IsFrontOf xs (ys ++ zs)
front_more xs ys zs f = (f.0 ++ zs, sym (append_assoc xs f.0 zs) ∙ ap (λ w. w ++ zs) f.1)

front_less : {X : Type 0} (xs ys zs : List X) → IsFrontOf (xs ++ ys) zs → IsFrontOf xs zs
front_less xs ys zs f = (ys ++ f.0, sym (append_assoc xs ys f.0) ∙ f.1)

front_then : {X : Type 0} (xs ys zs : List X) → IsFrontOf xs ys → IsFrontOf ys zs → IsFrontOf xs zs
front_then xs ys zs f g = (f.0 ++ g.0, sym (append_assoc xs f.0 g.0) ∙ (ap (λ w. w ++ g.0) f.1 ∙ g.1))

take_front : (a b : ℕ) (ms : List Message) → a ≤ b → IsFrontOf (take a ms) (take b ms)
take_front zero b ms i = (take b ms, refl)
take_front (suc a) zero ms i = absurd (omega (arith, i))
take_front (suc a) (suc b) [] i = ([], refl)
take_front (suc a) (suc b) (m ∷ ms) i = let f = take_front a b ms (omega (arith, i)) in (f.0, ap (λ w. m ∷ w) f.1)

good_front : (xs ys : List Message) → IsFrontOf xs ys → IsFrontOf (good_of xs) (good_of ys)
good_front xs ys f = (good_of f.0, sym (filter-append (λ m. is_good m.1) xs f.0) ∙ ap good_of f.1)

-- ### Between

as_read : (t : List Entry) (who : End) (n : ℕ) (b : Book) → read t who n ≡ b → (sent_noted t who n ≡ b.sent) × (got_noted t who n ≡ b.got)
    × (acked_noted t who n ≡ b.acked)
as_read t who n b q = (ap (λ (z : Book). z.sent) q, ap (λ (z : Book). z.got) q, ap (λ (z : Book). z.acked) q)

in_order_as : (t : List Entry) (who : End) (n : ℕ) {s g : List Message} {a : ℕ} → sent_noted t who n ≡ s → acked_noted t who n ≡ a
    → got_noted t (far who) n ≡ g
    → IsFrontOf g (good_of s) → IsFrontOf (good_of (take a s)) g → a ≤ length s → InOrderIn t who n
in_order_as t who n p q r got acked few = grind arith

-- the end of the step sends
mine : (t u p : List Entry) (who : End) (n : ℕ) → Ok t → Ok (t ++ u) → OfOne who u → AllFew t who u → IsFrontOf p u → InOrderIn (t ++ p) who n
mine t u p who n before after one few f =
    let other : read (t ++ p) (far who) n ≡ read t (far who) n =
    read-append t p (far who) n ∙ (ap (plus (read t (far who) n)) (front_read who p u f one n) ∙ plus-blank (read t (far who) n)) in
    let other_all : read (t ++ u) (far who) n ≡ read t (far who) n =
    read-append t u (far who) n ∙ (ap (plus (read t (far who) n)) (front_read who u u ([], append-nil u) one n) ∙ plus-blank (read t (far who) n)) in
    let here = as_read (t ++ p) who n (plus (read t who n) (read p who n)) (read-append t p who n) in
    let all = as_read (t ++ u) who n (plus (read t who n) (read u who n)) (read-append t u who n) in
    let parts = as_read u who n (plus (read p who n) (read f.0 who n)) (ap (λ z. read z who n) (sym f.1) ∙ read-append p f.0 who n) in
    let there_all = as_read (t ++ u) (far who) n (read t (far who) n) other_all in
    let s : List Message = sent_noted t who n ++ sent_noted p who n in
    let k : ℕ = max (acked_noted t who n) (acked_noted p who n) in
    let k_few : k ≤ length s = omega (arith, few p f n, here.2, (ap (λ (ms : List Message). length ms) here.0)) in
    let whole : sent_noted (t ++ u) who n ≡ s ++ sent_noted f.0 who n =
    all.0 ∙ (ap (λ ms. sent_noted t who n ++ ms) parts.0 ∙ sym (append_assoc (sent_noted t who n) (sent_noted p who n) (sent_noted f.0 who n))) in
    let less : IsFrontOf (take k s) (take (acked_noted (t ++ u) who n) (sent_noted (t ++ u) who n)) =
    let P : List Message → Type 0 = λ z. IsFrontOf z (take (acked_noted (t ++ u) who n) (sent_noted (t ++ u) who n)) in
    subst P (ap (take k) whole ∙ take-append-le k s (sent_noted f.0 who n) k_few)
    (take_front k (acked_noted (t ++ u) who n) (sent_noted (t ++ u) who n) (omega (arith, all.2, parts.2))) in
    let G : List Message → Type 0 = λ z. IsFrontOf (good_of (take (acked_noted (t ++ u) who n) (sent_noted (t ++ u) who n))) z in
    in_order_as (t ++ p) who n here.0 here.2 (as_read (t ++ p) (far who) n (read t (far who) n) other).1
    (subst (λ z. IsFrontOf (got_noted t (far who) n) z) (sym (good-append (sent_noted t who n) (sent_noted p who n)))
    (front_more (got_noted t (far who) n) (good_of (sent_noted t who n)) (good_of (sent_noted p who n)) (before who n).got))
    (front_then (good_of (take k s)) (good_of (take (acked_noted (t ++ u) who n) (sent_noted (t ++ u) who n))) (got_noted t (far who) n)
    (good_front (take k s) (take (acked_noted (t ++ u) who n) (sent_noted (t ++ u) who n)) less) (subst G there_all.1 (after who n).acked))
    k_few

far_far : (who : End) → far (far who) ≡ who
far_far who = grind arith

-- the other end sends, and the end of the step gets
theirs : (t u p : List Entry) (who : End) (n : ℕ) → Ok t → Ok (t ++ u) → OfOne who u → IsFrontOf p u → InOrderIn (t ++ p) (far who) n
theirs t u p who n before after one f =
    let other : read (t ++ p) (far who) n ≡ read t (far who) n =
    read-append t p (far who) n ∙ (ap (plus (read t (far who) n)) (front_read who p u f one n) ∙ plus-blank (read t (far who) n)) in
    let other_all : read (t ++ u) (far who) n ≡ read t (far who) n =
    read-append t u (far who) n ∙ (ap (plus (read t (far who) n)) (front_read who u u ([], append-nil u) one n) ∙ plus-blank (read t (far who) n)) in
    let here = as_read (t ++ p) who n (plus (read t who n) (read p who n)) (read-append t p who n) in
    let all = as_read (t ++ u) who n (plus (read t who n) (read u who n)) (read-append t u who n) in
    let parts = as_read u who n (plus (read p who n) (read f.0 who n)) (ap (λ z. read z who n) (sym f.1) ∙ read-append p f.0 who n) in
    let there = as_read (t ++ p) (far who) n (read t (far who) n) other in
    let there_all = as_read (t ++ u) (far who) n (read t (far who) n) other_all in
    let b = before (far who) n in
    let g : List Message = got_noted t who n ++ got_noted p who n in
    let back = far_far who in
    let got_all : got_noted (t ++ u) (far (far who)) n ≡ g ++ got_noted f.0 who n =
    ap (λ w. got_noted (t ++ u) w n) back
    ∙ (all.1 ∙ (ap (λ ms. got_noted t who n ++ ms) parts.1 ∙ sym (append_assoc (got_noted t who n) (got_noted p who n) (got_noted f.0 who n)))) in
    let got_before : got_noted t (far (far who)) n ≡ got_noted t who n = ap (λ w. got_noted t w n) back in
    let X : List Message → Type 0 = λ z. IsFrontOf z (good_of (sent_noted (t ++ u) (far who) n)) in
    let Y : List Message → Type 0 = λ z. IsFrontOf (g ++ got_noted f.0 who n) (good_of z) in
    let got_front : IsFrontOf g (good_of (sent_noted t (far who) n)) =
    front_less g (got_noted f.0 who n) (good_of (sent_noted t (far who) n)) (subst Y there_all.0 (subst X got_all (after (far who) n).got)) in
    let Z : List Message → Type 0 = λ z. IsFrontOf (good_of (take (acked_noted t (far who) n) (sent_noted t (far who) n))) z in
    let acked_front : IsFrontOf (good_of (take (acked_noted t (far who) n) (sent_noted t (far who) n))) g =
    front_more (good_of (take (acked_noted t (far who) n) (sent_noted t (far who) n))) (got_noted t who n) (got_noted p who n) (subst Z got_before b.acked) in
    in_order_as (t ++ p) (far who) n there.0 there.2 (ap (λ w. got_noted (t ++ p) w n) back ∙ here.1) got_front acked_front b.few

pub between : (t u : List Entry) (who : End) → Ok t → Ok (t ++ u) → OfOne who u → AllFew t who u → AllOk t u
between t u who before after one few p f w n = go who w refl
  where
    P : End → Type 0
    P z = InOrderIn (t ++ p) z n

    go : (v w : End) → who ≡ v → InOrderIn (t ++ p) w n
    go Controller Controller q = subst P q (mine t u p who n before after one few f)
    go Host Host q = subst P q (mine t u p who n before after one few f)
    go Controller Host q = subst P (ap far q) (theirs t u p who n before after one f)
    go Host Controller q = subst P (ap far q) (theirs t u p who n before after one f)

-- entries that say nothing of messages
pub ok_silent : (t u : List Entry) → Ok t → Silent u → Ok (t ++ u)
ok_silent t u ok s who n =
    let q = as_read (t ++ u) who n (read t who n) (read-append t u who n ∙ (ap (plus (read t who n)) (s who n) ∙ plus-blank (read t who n))) in
    let r = as_read (t ++ u) (far who) n (read t (far who) n) (read-append t u (far who) n
    ∙ (ap (plus (read t (far who) n)) (s (far who) n) ∙ plus-blank (read t (far who) n))) in
    let k = ok who n in
    in_order_as (t ++ u) who n q.0 q.2 r.1 k.got k.acked k.few

-- ### A link and what was noted of it

-- messages are in order on a link that is safe
link_order : (kn kf : ℕ) (l : Link) → SafeLink kn kf (core_of l) → Tells l.controller → Tells l.host → (n : ℕ)
    → InOrder (talk_of l.controller n) (talk_of l.host n) × InOrder (talk_of l.host n) (talk_of l.controller n)
link_order kn kf l s c h n =
    let x = session-core l.controller n in
    let y = session-core l.host n in
    let P : Session → Type 0 = λ z. CoreInOrder z (shdlc_session_of (core_end l.host) n) in
    let Q : Session → Type 0 = λ z. CoreInOrder (talk_of l.controller n).session z in
    let R : Session → Type 0 = λ z. CoreInOrder z (shdlc_session_of (core_end l.controller) n) in
    let S : Session → Type 0 = λ z. CoreInOrder (talk_of l.host n).session z in (
      in_messages (talk_of l.controller n) (talk_of l.host n) (says_of l.controller n c)
          (subst Q y (subst P x (grind arith))),
      in_messages (talk_of l.host n) (talk_of l.controller n) (says_of l.host n h)
          (subst S x (subst R y (grind arith))),
    )

order_in : (t : List Entry) (who : End) (n : ℕ) (s r : Talk) → read t who n ≡ book_of s → read t (far who) n ≡ book_of r → InOrder s r → Few t who
    → InOrderIn t who n
order_in t who n s r p q o few = grind arith

pub ok_link : (t : List Entry) (kn kf : ℕ) (l : Link) → SafeLink kn kf (core_of l) → Tells l.controller → Tells l.host → Tolds t Controller l → Ok t
ok_link t kn kf l s c h b Controller n =
    order_in t Controller n (talk_of l.controller n) (talk_of l.host n) (b.here n) (b.there n) (link_order kn kf l s c h n).0
    (few_told t Controller l.controller b.here)
ok_link t kn kf l s c h b Host n =
    order_in t Host n (talk_of l.host n) (talk_of l.controller n) (b.there n) (b.here n) (link_order kn kf l s c h n).1 (few_told t Host l.host b.there)
