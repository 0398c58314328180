-- Each step of an end is projected, whether its frames go out or its node loses power before that.
use Rattle.std.specs.Prelude.{◌+◌}
use Rattle.link_laws.proofs.Words.{Act, ActEvent, ActTake, ActTick, Activation, AreSendableTurns, Asked, AsksReset, Bool, CanEnd, Clt, Control, CoreActs}
use Rattle.link_laws.proofs.Words.{CoreDeliver, CoreEndEvent, CoreLink, CoreTurn, CutOff, Down, EndState, Ending, GoesOut, HasTick as Tick, IfLine, Link}
use Rattle.link_laws.proofs.Words.{LinkEnd, List, NextFrame, None, OnWire, Option, Refused, Role, Some, Turn, Turns as CoreTurns, Waiting, [], act_answer}
use Rattle.link_laws.proofs.Words.{activated, after_input, among, ap, arith, becomes, core_all_here, core_ending, core_happens_here, core_of, core_reset}
use Rattle.link_laws.proofs.Words.{core_step, core_take, core_tick, core_tick_rest, core_ticks_or_cut, core_turned, core_turns, core_with_ended, cut, ended_by}
use Rattle.link_laws.proofs.Words.{ended_by_act, ended_by_frame, false, finished, frame_due, frames_of, frames_out, has_restarted, has_taken, if_up, inl, inr}
use Rattle.link_laws.proofs.Words.{is_lost_tick, is_open, is_some, is_up, is_waiting, most_frames, moved, new_end, new_link_end, no_session, option_to_list}
use Rattle.link_laws.proofs.Words.{refl, renewed, reset_by, reset_refusal, reset_with, role_after, sent_all, shdlc_becomes as core_becomes}
use Rattle.link_laws.proofs.Words.{shdlc_put_all as core_put_all, shdlc_silent as core_silent, shdlc_ticks_at_controller as core_ticks_here, silent}
use Rattle.link_laws.proofs.Words.{steps_at_controller, stopped, subst, sym, tick_answer, ticked, ticks_at_controller, took, took_with, true, true≢false}
use Rattle.link_laws.proofs.Words.{turned, window_of, with_controller, with_ended, ℕ, ◌++◌, ◌∙◌, ◌∷◌, ◌≡◌, ◌⊎◌}
use Rattle.link_laws.specs.messages.Projection.{core_restart}
use Rattle.link_laws.proofs.messages.Project.{Mid, NoAsk, NoRset, Now, Step, Tells, among_now, frames_alike, frames_now, host_ended, mid_moved, moved_role}
use Rattle.link_laws.proofs.messages.Project.{no_rset, none_due, puts_none, step_moved, step_same, step_turned, taken_asks, ticked_keeps, turned_asks}
use Rattle.link_laws.proofs.messages.Project.{turned_phase, turned_role, turns_mid}
use Rattle.link_laws.proofs.messages.ActsInOrder.{ActsInOrder, LinkInOrder, IsPolite, with_sent, in_order_tick}
use Rattle.link_laws.proofs.machine.Runs.{opened}
use Rattle.link_laws.proofs.machine.Reports.{shdlc_is as shdlc_moved}
use Rattle.link_laws.proofs.messages.Steps.{FromHost, Rests, is_shdlc, heard_end, heard_is, mid_counted, took_open, took_closed, no_fault_first, polite}
use Rattle.link_laws.proofs.messages.Steps.{role_closes, ComesFirst, step_first, stays_down, activated_role, act_mid, Acted, tick_closes, core_first}
use Rattle.link_laws.proofs.Cases.{by_list, by_phase, by_test}

-- ## A step that is cut off

-- its node loses power
pub step_cut : (l : Link) → IfLine l.controller.side.role → Tells l.controller → Step l (cut l) (core_silent (core_of l) (new_end 4))
step_cut l line h = grind arith

-- the link where the end with this role is new after a loss of power, whether a session ended or not
abbrev cut_as : Link → Bool → Role → Link
cut_as l b r =
    let m : Link = with_ended l b in
    record m { controller = record m.controller { side = new_link_end (renewed r) }; to_controller = []; to_host = [] }

-- frames that are no RSETs leave no trace where the step is cut off
cut_off_is : (k : Link) (e : LinkEnd) → NoRset (frames_out e) → cut (with_controller k (sent_all e)) ≡ cut (becomes k e)
cut_off_is k e none = let h0 = puts_none (frames_out e) k none in grind arith

-- a step ends: with its frames, or before that
pub step_ends : (l k : Link) (e : LinkEnd) (c : CoreLink) (ending : Ending) → Step l (becomes k e) c → NoRset (frames_out e) → CanEnd e.role ending
    → Step l (finished k e ending) (core_all_here c (core_ending ending))
step_ends l k e c GoesOut st none can = st
step_ends l k e c CutOff st none can =
    let h0 = cut (with_controller k (sent_all e)) in let h1 = core_silent c (new_end 4) in let h2 = new_end 4 in let h3 = cut_off_is k e none in grind arith

-- where no RSET was due before its node's turns, none goes out
pub none_out : (o : Option Activation) (e : LinkEnd) (ts : List Turn) → AreSendableTurns ts → Mid o e → NoAsk e.shdlc.due → NoRset (frames_out (turned e ts))
none_out o e ts a h n =
    let t = turns_mid o e ts a h in
    let asks : NoAsk (turned e ts).shdlc.due =
    let P : EndState → Type 0 = λ s. NoAsk s.due in subst P (sym t.is) (turned_asks e.shdlc (core_turns e ts) n) in
    let fs : List Control = frames_of most_frames (turned e ts).shdlc in
    let is : frames_out (turned e ts) ≡ frames_now o ++ fs = ap (λ acts. among 0 acts fs) t.mid.acts ∙ among_now o fs in
    subst NoRset (sym is) (let h0 = (no_rset most_frames (turned e ts).shdlc asks) in grind arith)

-- the role of an end after its node's turns lets its step end so
pub can_end : (e : LinkEnd) (ts : List Turn) (r : Role) (ending : Ending) → e.role ≡ r → CanEnd r ending → CanEnd (turned e ts).role ending
can_end e ts r ending q can = let P : Role → Type 0 = λ z. CanEnd z ending in subst P (sym (turned_role e ts ∙ q)) can

-- ## Turns alone

pub all_here-append : (c : CoreLink) (es fs : List CoreEndEvent) → core_all_here c (es ++ fs) ≡ core_all_here (core_all_here c es) fs
all_here-append c [] fs = refl
all_here-append c (e ∷ es) fs = all_here-append (core_happens_here c e) es fs

pub step_idle : (l : Link) (ts : List Turn) (ending : Ending) → AreSendableTurns ts → CanEnd l.controller.side.role ending → Tells l.controller
    → Rests l.controller.side.shdlc
    → Step l (finished l (turned l.controller.side ts) ending)
    (core_all_here (core_of l) (CoreTurns (core_turns l.controller.side ts) ∷ core_ending ending))
step_idle l ts ending a can h r =
    let e : LinkEnd = l.controller.side in
    step_ends l l (turned e ts) (core_happens_here (core_of l) (CoreTurns (core_turns e ts))) ending
    (step_turned l l None e ts refl h.past a h.now (λ z. z))
    (none_out None e ts a h.now (none_due e.shdlc r.due)) (can_end e ts e.role ending refl can)

-- ## A frame is taken

-- no RSET goes out after it
pub first_none : (l : Link) (ts : List Turn) (x : OnWire) (xs : List OnWire) → AreSendableTurns ts → ComesFirst l x xs
    → NoRset (frames_out (turned (took l.controller.side x.frame) ts))
first_none l ts x xs a comes = go x.frame refl
  where
    e : LinkEnd
    e = l.controller.side

    P : LinkEnd → Type 0
    P f = NoRset (frames_out (turned f ts))

    none : NoAsk e.shdlc.due
    none = none_due e.shdlc comes.rests.due

    shdlc : (b : Bool) → is_open e.role ≡ b → is_shdlc x.frame ≡ true → P (took e x.frame)
    shdlc true o s =
        let f = took_open e x s o (no_fault_first l x xs comes.first comes.tells comes.host o comes.from) in
        let g = heard_is e x comes.tells.now o in
        subst P (sym f.0) (none_out None (heard_end e x) ts a g.mid (subst (λ z. NoAsk z.due) (sym g.shdlc) (taken_asks e.shdlc x.frame none)))
    shdlc false o s = subst P (sym (took_closed e x.frame s o).0) (none_out None e ts a comes.tells.now none)

    acts : (act : Activation) (again : Bool) → x.frame ≡ Act act again → P (took e x.frame)
    acts act again q =
        let event : ActEvent = ActTake act again in
        let m = act_mid e event comes.tells.now comes.rests.due (polite e x xs act again q comes.polite) (λ z. by (role_closes e.role act again z)) in
        let due : (activated e event).shdlc.due ≡ [] = ap (λ (z : EndState). z.due) m.same ∙ comes.rests.due in
        subst P (sym (ap (took e) q)) (none_out (act_answer e.role event).send (activated e event) ts a m.mid (none_due (activated e event).shdlc due))
      where
        by : (is_open e.role ≡ false) ⊎ ((act_answer e.role (ActTake act again)).ended_link ≡ true) → e.shdlc.phase ≡ Down
        by (inl z) = comes.tells.now.closed z
        by (inr z) = polite e x xs act again q comes.polite z

    go : (c : Control) → x.frame ≡ c → P (took e x.frame)
    go (Act act again) q = acts act again q
    go Clt q =
        subst P (sym (ap (took e) q))
        (none_out None (record e { passed_over = e.passed_over + 1 }) ts a (mid_counted None e (e.passed_over + 1) comes.tells.now) none)
    go _ q = shdlc (is_open e.role) refl (ap is_shdlc q)

-- the role of an end that took a frame lets its step end so
pub can_after : (r : Role) (event : ActEvent) (ending : Ending) → CanEnd r ending → CanEnd (role_after r event) ending
can_after r event ending can = grind arith

-- a frame changes the role only by activation
pub took_can : (e : LinkEnd) (c : Control) (ending : Ending) → CanEnd e.role ending → CanEnd (took e c).role ending
took_can e c ending can = grind arith

step_take : (l : Link) (ts : List Turn) (ending : Ending) (x : OnWire) (xs : List OnWire) → AreSendableTurns ts → CanEnd l.controller.side.role ending
    → ComesFirst l x xs → Step l (has_taken l x xs ts ending) (core_all_here (core_of l) (core_take l.controller.side x.frame ts ++ core_ending ending))
step_take l ts ending x xs a can comes =
    let e : LinkEnd = l.controller.side in
    let m : Link = with_ended (record l { to_controller = xs }) (is_some (ended_by_frame e x.frame)) in
    let k : Link = record m { controller = record m.controller { took = took_with l.controller.took x } } in
    let f : LinkEnd = took e x.frame in
    let st =
    step_ends l k (turned f ts) (core_all_here (core_of l) (core_take e x.frame ts)) ending (step_first l ts x xs a comes)
    (first_none l ts x xs a comes) (can_end f ts f.role ending refl (took_can e x.frame ending can)) in
    grind arith

pub step_frame : (l : Link) (ts : List Turn) (ending : Ending) → AreSendableTurns ts → CanEnd l.controller.side.role ending
    → IsPolite l.controller.side l.to_controller → Tells l.controller → Tells l.host → Rests l.controller.side.shdlc
    → FromHost (core_happens_here (core_of l) (CoreDeliver []))
    → Step l (steps_at_controller l NextFrame ts ending) (core_all_here (core_of l) (core_step l NextFrame ts ending))
step_frame l ts ending a can p h t rests from =
    by_list l.to_controller (grind arith)
    (λ x xs q.
    step_same l (steps_at_controller l NextFrame ts ending) (has_taken l x xs ts ending) (core_all_here (core_of l) (core_step l NextFrame ts ending))
    (core_all_here (core_of l) (core_take l.controller.side x.frame ts ++ core_ending ending))
    (rw q refl) (ap (core_all_here (core_of l)) (core_some x xs q))
    (step_take l ts ending x xs a can (record {
      first = q;
      polite = subst (IsPolite l.controller.side) q p;
      tells = h;
      host = t;
      rests = rests;
      from = subst FromHost (core_first (core_of l) [] x xs q) from;
    })))
  where
    nothing : l.to_controller ≡ [] → steps_at_controller l NextFrame ts ending ≡ l
    nothing q = rw q refl

    core_nothing : l.to_controller ≡ [] → core_step l NextFrame ts ending ≡ []
    core_nothing q = rw q refl

    core_some : (x : OnWire) (xs : List OnWire) → l.to_controller ≡ x ∷ xs
        → core_step l NextFrame ts ending ≡ core_take l.controller.side x.frame ts ++ core_ending ending
    core_some x xs q = rw q refl

-- ## A cut in place of a step that leaves the end waiting

cut_instead : (l : Link) (b : Bool) (e : LinkEnd) → e.shdlc.phase ≡ Waiting → b ≡ is_up l.controller.side.shdlc.phase
    → e.role ≡ l.controller.side.role → cut (with_controller (with_ended l b) (sent_all e)) ≡ cut l
cut_instead l b e waits same role =
    let f : LinkEnd = sent_all e in
    let no_session : is_up f.shdlc.phase ≡ false = ap is_up ((frames_alike most_frames e.shdlc).phase ∙ waits) in
    let at : Bool → Role → Link = λ c r. cut_as (with_controller (with_ended l b) f) c r in
    ap (λ c. at c f.role) no_session ∙ (ap (at false) role ∙ ap (λ c. cut_as l c l.controller.side.role) same)

step_cut_instead : (l : Link) (b : Bool) (e : LinkEnd) → e.shdlc.phase ≡ Waiting → b ≡ is_up l.controller.side.shdlc.phase
    → e.role ≡ l.controller.side.role → IfLine l.controller.side.role → Tells l.controller
    → Step l (finished (with_ended l b) e CutOff) (core_silent (core_of l) (new_end 4))
step_cut_instead l b e waits same role line h = grind (arith, step_same, cut, sent_all, cut_instead, step_cut)

-- turns leave the phase of an end
pub turns_phase : (e : LinkEnd) (ts : List Turn) → AreSendableTurns ts → Now e → (turned e ts).shdlc.phase ≡ e.shdlc.phase
turns_phase e ts a h = ap (λ (s : EndState). s.phase) (turns_mid None e ts a h).is ∙ turned_phase e.shdlc (core_turns e ts)

-- ## Resets

reset_up : (s : EndState) → is_some (if_up s Asked) ≡ is_up s.phase
reset_up s = by_phase s.phase (λ p. rw p refl) (λ p. rw p refl) (λ p. rw p refl)

-- an end that is open and doesn't wait
pub reset_tells : (e : LinkEnd) → reset_refusal e ≡ None → (is_open e.role ≡ true) × (is_waiting e.shdlc ≡ false)
reset_tells e q = grind arith

pub reset_waits : (s : EndState) (w : ℕ) → is_waiting s ≡ false → (reset_with s w).phase ≡ Waiting
reset_waits s w n = rw n refl

pub step_reset : (l : Link) (window : Option ℕ) (ts : List Turn) (ending : Ending) → AreSendableTurns ts → CanEnd l.controller.side.role ending
    → Tells l.controller → Rests l.controller.side.shdlc
    → Step l (steps_at_controller l (AsksReset window) ts ending) (core_all_here (core_of l) (core_step l (AsksReset window) ts ending))
step_reset l window ts ending a can h r = go (reset_refusal l.controller.side) refl
  where
    e : LinkEnd
    e = l.controller.side

    w : ℕ
    w = window_of e window

    b : Bool
    b = is_some (if_up e.shdlc Asked)

    core_is : (o : Option Refused) → reset_refusal e ≡ o → core_step l (AsksReset window) ts ending ≡ core_reset o e w ts ending
    core_is o q = ap (λ z. core_reset z e w ts ending) q

    waits : reset_refusal e ≡ None → (turned (reset_by e w) ts).shdlc.phase ≡ Waiting
    waits q =
        let t = reset_tells e q in
        let s : EndState = reset_with e.shdlc w in
        turns_phase (reset_by e w) ts a (grind arith) ∙ (ap (λ (z : EndState). z.phase) (shdlc_moved e b s) ∙ reset_waits e.shdlc w t.1)

    done : (ending : Ending) → CanEnd e.role ending → reset_refusal e ≡ None
        → Step l (finished (with_ended l b) (turned (reset_by e w) ts) ending) (core_all_here (core_of l) (core_reset None e w ts ending))
    done CutOff can q =
        step_cut_instead l b (turned (reset_by e w) ts) (waits q) (reset_up e.shdlc) (turned_role (reset_by e w) ts
        ∙ moved_role e b (reset_with e.shdlc w)) can h
    done GoesOut can q =
        let t = reset_tells e q in
        let us : List CoreTurn = core_turns (reset_by e w) ts in
        let st =
        step_moved l b (reset_with e.shdlc w) ts h a (grind arith) (opened e.role ((reset_with e.shdlc w).phase ≡ Down) t.0) in
        grind arith

    go : (o : Option Refused) → reset_refusal e ≡ o
        → Step l (steps_at_controller l (AsksReset window) ts ending) (core_all_here (core_of l) (core_step l (AsksReset window) ts ending))
    go (Some why) q =
        step_same l (steps_at_controller l (AsksReset window) ts ending) (finished l (turned e ts) ending)
        (core_all_here (core_of l) (core_step l (AsksReset window) ts ending)) (core_all_here (core_of l) (core_reset (Some why) e w ts ending))
        (rw q refl) (ap (core_all_here (core_of l)) (core_is (Some why) q)) (step_idle l ts ending a can h r)
    go None q =
        step_same l (steps_at_controller l (AsksReset window) ts ending) (finished (with_ended l b) (turned (reset_by e w) ts) ending)
        (core_all_here (core_of l) (core_step l (AsksReset window) ts ending)) (core_all_here (core_of l) (core_reset None e w ts ending))
        (rw q refl) (ap (core_all_here (core_of l)) (core_is None q)) (done ending can q)

-- ## Activation begins or ends

pub restart_mid : (e : LinkEnd) (event : ActEvent) → Now e
    → Acted (record e { shdlc = stopped e.shdlc }) (activated (moved e true (stopped e.shdlc)) event) (act_answer e.role event).send
restart_mid e event h = grind arith

pub step_restart : (l : Link) (event : ActEvent) (ts : List Turn) (ending : Ending) → AreSendableTurns ts → CanEnd l.controller.side.role ending
    → Tells l.controller
    → (LinkInOrder l → ActsInOrder (role_after l.controller.side.role event) l.host.side.role [] (with_sent (act_answer l.controller.side.role event).send []))
    → (let g : LinkEnd = activated (moved l.controller.side true (stopped l.controller.side.shdlc)) event in
    Step l (has_restarted l g ts ending) (core_all_here (core_of l) (core_restart l.controller.side event g ts ending)))
step_restart l event ts ending a can h wires =
    let e : LinkEnd = l.controller.side in
    let g : LinkEnd = activated (moved e true (stopped e.shdlc)) event in
    let o : Option Activation = (act_answer e.role event).send in
    let us : List CoreTurn = core_turns g ts in
    let m = restart_mid e event h.now in
    let b : Bool = is_up e.shdlc.phase in
    let k : Link = silent l g in
    let role : g.role ≡ role_after e.role event = activated_role (moved e true (stopped e.shdlc)) event in
    let P : Role → Type 0 = λ r. ActsInOrder r l.host.side.role [] (with_sent o []) in
    let st = step_turned l k o g ts (host_ended l b) (grind arith) a m.mid (λ z. subst P (sym role) (wires z)) in
    let out =
    step_ends l k (turned g ts) (core_becomes (core_put_all (core_of k) (frames_now o)) (core_turned g.shdlc us)) ending st
    (none_out o g ts a m.mid (none_due g.shdlc (ap (λ (z : EndState). z.due) m.same)))
    (can_end g ts (role_after e.role event) ending role (can_after e.role event ending can)) in
    record {
      core = out.core ∙ ap (λ d. core_all_here (core_happens_here d (CoreActs (option_to_list o) us)) (core_ending ending)) (grind arith);
      tells = out.tells;
      host = out.host;
      in_order = out.in_order;
    }

-- ## Ticks

pub rests : (s : EndState) → s.phase ≡ Down → Rests s → frame_due s ≡ None
rests s p r = let none : s.session ≡ no_session = r.none (λ u. let z = sym p ∙ u in cc) in rw (r.due, none) refl

pub core_tick_rests : (c : CoreLink) → c.controller.side.phase ≡ Down → Rests c.controller.side → core_ticks_here c [] ≡ c
core_tick_rests c p r = grind arith

pub tick_open : (e : LinkEnd) → is_open e.role ≡ true
    → (after_input e Tick ≡ moved e (is_some (tick_answer e.shdlc).ended) (ticked e.shdlc))
    × (is_some (ended_by e Tick) ≡ is_some (tick_answer e.shdlc).ended)
tick_open e o = (rw o refl, rw o refl)

pub tick_closed : (e : LinkEnd) → is_open e.role ≡ false → (after_input e Tick ≡ activated e ActTick) × (ended_by e Tick ≡ ended_by_act e ActTick)
tick_closed e o = (rw o refl, rw o refl)

pub tick_role : (r : Role) → is_open (role_after r ActTick) ≡ false → is_open r ≡ false
tick_role r q = grind arith

pub waiting_phase : (s : EndState) → is_waiting s ≡ true → s.phase ≡ Waiting
waiting_phase s w = by_phase s.phase (λ p. absurd (let z : false ≡ true = rw p at w in cc)) (λ p. p) (λ p. absurd (let z : false ≡ true = rw p at w in cc))

-- a tick after which an end waits has ended its session, if it had one
tick_up : (s : EndState) → is_waiting (ticked s) ≡ true → is_some (tick_answer s).ended ≡ is_up s.phase
tick_up s w = grind arith

abbrev pub CoreTick : Link → List Turn → Ending → CoreLink
CoreTick l ts ending =
    core_all_here (core_ticks_or_cut (core_tick l.controller.side ts ending) (core_of l)) (core_tick_rest l.controller.side ts ending)

-- what a tick is there
core_tick_as : (l : Link) (ts : List Turn) (ending : Ending) (t : Option (List CoreTurn)) (us : List CoreEndEvent)
    → core_tick l.controller.side ts ending ≡ t → core_tick_rest l.controller.side ts ending ≡ us
    → CoreTick l ts ending ≡ core_all_here (core_ticks_or_cut t (core_of l)) us
core_tick_as l ts ending t us p q = grind arith

tick_as : (l : Link) (ts : List Turn) (ending : Ending) (b : Bool) (e : LinkEnd) → is_some (ended_by l.controller.side Tick) ≡ b
    → after_input l.controller.side Tick ≡ e → ticks_at_controller l ts ending ≡ finished (with_ended l b) (turned e ts) ending
tick_as l ts ending b e p q = grind arith

step_tick_open : (l : Link) (ts : List Turn) (ending : Ending) → AreSendableTurns ts → CanEnd l.controller.side.role ending → Tells l.controller
    → Rests l.controller.side.shdlc → is_open l.controller.side.role ≡ true → Step l (ticks_at_controller l ts ending) (CoreTick l ts ending)
step_tick_open l ts ending a can h r o = go ending (is_lost_tick e ending) can refl
  where
    e : LinkEnd
    e = l.controller.side

    b : Bool
    b = is_some (tick_answer e.shdlc).ended

    f : LinkEnd
    f = moved e b (ticked e.shdlc)

    t : (after_input e Tick ≡ f) × (is_some (ended_by e Tick) ≡ b)
    t = tick_open e o

    us : List CoreTurn
    us = core_turns (after_input e Tick) ts

    now : Now f
    now = mid_moved e b (ticked e.shdlc) h.now (ticked_keeps e.shdlc h.now.idle) (opened e.role ((ticked e.shdlc).phase ≡ Down) o)

    st : Step l (becomes (with_ended l b) (turned f ts)) (core_becomes (core_with_ended (core_of l) b) (core_turned (ticked e.shdlc) (core_turns f ts)))
    st = step_moved l b (ticked e.shdlc) ts h a (ticked_keeps e.shdlc h.now.idle) (opened e.role ((ticked e.shdlc).phase ≡ Down) o)

    lost_tick : (ending : Ending) → is_lost_tick e ending ≡ true → (core_tick e ts ending ≡ None) × (core_tick_rest e ts ending ≡ [])
    lost_tick ending q = (rw q refl, rw q refl)

    kept_tick : (ending : Ending) → is_lost_tick e ending ≡ false → (core_tick e ts ending ≡ Some us) × (core_tick_rest e ts ending ≡ core_ending ending)
    kept_tick ending q = (rw (q, o) refl, rw (q, o) refl)

    waits : (c : Bool) → is_lost_tick e CutOff ≡ c → is_waiting (ticked e.shdlc) ≡ c
    waits c q = grind arith

    kept : (ending : Ending) → CanEnd e.role ending → is_lost_tick e ending ≡ false → NoAsk (ticked e.shdlc).due
        → Step l (ticks_at_controller l ts ending) (CoreTick l ts ending)
    kept ending can q n =
        let k = kept_tick ending q in
        let Q : EndState → Type 0 = λ s. NoAsk s.due in
        let out =
        step_ends l (with_ended l b) (turned f ts) (core_becomes (core_with_ended (core_of l) b) (core_turned (ticked e.shdlc) (core_turns f ts))) ending st
        (none_out None f ts a now (subst Q (sym (shdlc_moved e b (ticked e.shdlc))) n)) (can_end f ts e.role ending (moved_role e b (ticked e.shdlc)) can) in
        step_same l (ticks_at_controller l ts ending) (finished (with_ended l b) (turned f ts) ending) (CoreTick l ts ending)
        (core_all_here (core_becomes (core_with_ended (core_of l) b) (core_turned (ticked e.shdlc) (core_turns f ts))) (core_ending ending))
        (tick_as l ts ending b f t.1 t.0)
        (core_tick_as l ts ending (Some us) (core_ending ending) k.0 k.1
        ∙ ap (λ (g : LinkEnd). core_all_here (core_ticks_here (core_of l) (core_turns g ts)) (core_ending ending)) t.0)
        out

    sends : Step l (ticks_at_controller l ts GoesOut) (CoreTick l ts GoesOut)
    sends =
        let k = kept_tick GoesOut refl in
        step_same l (ticks_at_controller l ts GoesOut) (becomes (with_ended l b) (turned f ts)) (CoreTick l ts GoesOut)
        (core_becomes (core_with_ended (core_of l) b) (core_turned (ticked e.shdlc) (core_turns f ts)))
        (tick_as l ts GoesOut b f t.1 t.0)
        (core_tick_as l ts GoesOut (Some us) [] k.0 k.1 ∙ ap (λ (g : LinkEnd). core_ticks_here (core_of l) (core_turns g ts)) t.0)
        st

    go : (ending : Ending) (c : Bool) → CanEnd e.role ending → is_lost_tick e ending ≡ c → Step l (ticks_at_controller l ts ending) (CoreTick l ts ending)
    go GoesOut c can q = sends
    go CutOff false can q = kept CutOff can q (let h0 = waits false q in let h1 = none_due e.shdlc r.due in grind arith)
    go CutOff true can q =
        let k = lost_tick CutOff q in
        let w = waits true q in
        let phase : (turned f ts).shdlc.phase ≡ Waiting =
        turns_phase f ts a now ∙ (ap (λ (z : EndState). z.phase) (shdlc_moved e b (ticked e.shdlc)) ∙ waiting_phase (ticked e.shdlc) w) in
        step_same l (ticks_at_controller l ts CutOff) (finished (with_ended l b) (turned f ts) CutOff) (CoreTick l ts CutOff)
        (core_silent (core_of l) (new_end 4))
        (tick_as l ts CutOff b f t.1 t.0) (core_tick_as l ts CutOff None [] k.0 k.1)
        (step_cut_instead l b (turned f ts) phase (tick_up e.shdlc w) (turned_role f ts ∙ moved_role e b (ticked e.shdlc)) can h)

step_tick_closed : (l : Link) (ts : List Turn) (ending : Ending) → AreSendableTurns ts → CanEnd l.controller.side.role ending → Tells l.controller
    → Rests l.controller.side.shdlc → is_open l.controller.side.role ≡ false → Step l (ticks_at_controller l ts ending) (CoreTick l ts ending)
step_tick_closed l ts ending a can h r o =
    let out =
    step_ends l l (turned f ts) (core_becomes (core_put_all (core_of l) (frames_now act)) (core_turned f.shdlc us)) ending st
    (none_out act f ts a m.mid (none_due f.shdlc (ap (λ (z : EndState). z.due) m.same ∙ r.due)))
    (can_end f ts (role_after e.role ActTick) ending (activated_role e ActTick) (can_after e.role ActTick ending can)) in
    step_same l (ticks_at_controller l ts ending) (finished l (turned f ts) ending) (CoreTick l ts ending)
    (core_all_here (core_becomes (core_put_all (core_of l) (frames_now act)) (core_turned f.shdlc us)) (core_ending ending))
    (tick_as l ts ending false f ended t.0) core out
  where
    e : LinkEnd
    e = l.controller.side

    f : LinkEnd
    f = activated e ActTick

    act : Option Activation
    act = (act_answer e.role ActTick).send

    us : List CoreTurn
    us = core_turns f ts

    t : (after_input e Tick ≡ f) × (ended_by e Tick ≡ ended_by_act e ActTick)
    t = tick_closed e o

    down : (act_answer e.role ActTick).ended_link ≡ true → e.shdlc.phase ≡ Down
    down z = absurd (true≢false (sym z ∙ tick_closes e.role o))

    ended : is_some (ended_by e Tick) ≡ false
    ended = ap (λ z. is_some z) t.1 ∙ (stays_down (act_answer e.role ActTick).ended_link e down r.due h.now.acts).1

    m : Acted e f act
    m = act_mid e ActTick h.now r.due down (λ z. h.now.closed (tick_role e.role z))

    st : Step l (becomes l (turned f ts)) (core_becomes (core_put_all (core_of l) (frames_now act)) (core_turned f.shdlc us))
    st =
        let R : Role → Type 0 = λ z. ActsInOrder z l.host.side.role l.to_controller (with_sent act l.to_host) in
        step_turned l l act f ts refl h.past a m.mid
        (λ z. subst R (sym (activated_role e ActTick)) (in_order_tick e.role l.host.side.role l.to_controller l.to_host o z))

    not_lost : (ending : Ending) → is_lost_tick e ending ≡ false
    not_lost ending = grind arith

    vs : List CoreTurn
    vs = core_turns (after_input e Tick) ts

    ticks : core_tick e ts ending ≡ Some []
    ticks = let n = not_lost ending in rw (n, o) refl

    core : CoreTick l ts ending ≡ core_all_here (core_becomes (core_put_all (core_of l) (frames_now act)) (core_turned f.shdlc us)) (core_ending ending)
    core =
        core_tick_as l ts ending (Some []) (CoreActs (option_to_list act) vs ∷ core_ending ending) ticks (let n = not_lost ending in rw (n, o) refl)
        ∙ (ap (λ c. core_all_here (core_happens_here c (CoreActs (option_to_list act) vs)) (core_ending ending))
        (core_tick_rests (core_of l) (h.now.closed o) r)
        ∙ (ap (λ (g : LinkEnd). core_all_here (core_becomes (core_put_all (core_of l) (frames_now act)) (core_turned e.shdlc (core_turns g ts)))
        (core_ending ending)) t.0
        ∙ ap (λ s. core_all_here (core_becomes (core_put_all (core_of l) (frames_now act)) (core_turned s us)) (core_ending ending)) (sym m.same)))

-- the controller's end has its tick
pub step_tick : (l : Link) (ts : List Turn) (ending : Ending) → AreSendableTurns ts → CanEnd l.controller.side.role ending → Tells l.controller
    → Rests l.controller.side.shdlc → Step l (ticks_at_controller l ts ending) (CoreTick l ts ending)
step_tick l ts ending a can h r =
    by_test (is_open l.controller.side.role) (λ o. step_tick_open l ts ending a can h r o) (λ o. step_tick_closed l ts ending a can h r o)
