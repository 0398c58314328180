-- Identifiers of UICCs: those that an end may still send, those on a link, and that hosts between events have none to send again.
use Rattle.node_laws.proofs.Words.{ActDue, ActEvent, ActFrame, ActOut, ActStart, ActStop, ActTake, ActTick, AllAllowed, AllByRecursion, Asked, AsksReset}
use Rattle.node_laws.proofs.Words.{AtController, AtHost, Awaiting, Bare, Bool, Clf, Clt, Comes, Control, CutOff, EndState, Ending, Fetch, FromNode, GoesOut}
use Rattle.node_laws.proofs.Words.{Good, I, Inactive, IsLine, IsRun, IsUicc, Link, LinkEnd, LinkEvent, LinkInput, LinkState, List, Lose, Loss, NextFrame}
use Rattle.node_laws.proofs.Words.{NoInput, None, NumberedEnd, OnWire, Option, Phase, Reached, Reset, Role, Rset, S, Site, Some, Start, Starts, Step, Stop}
use Rattle.node_laws.proofs.Words.{Stops, SyncId, Take, TakeBroken, TakeUnknown, Tick, Turn, Ua, Uicc, UiccAct, Up, Waiting, [], act_answer, activated}
use Rattle.node_laws.proofs.Words.{after_input, after_link_events, aged, aged_wire, all_so, ap, arith, by_list, by_option, by_test, cond, cond_both, core_event}
use Rattle.node_laws.proofs.Words.{core_of, deactivated, drop, ended_by, event_step, exchanged, false, finished, fits, frames_out, happens}
use Rattle.node_laws.proofs.Words.{happens_at_controller, has_input, heard, if_up, in_front, is_faulty, is_open, is_rset, is_some, is_waiting, left_after}
use Rattle.node_laws.proofs.Words.{length, map, most_frames, moved, nat_lt, new_line, not, put, put_all, put_down, reached_more, refl, renewed, report}
use Rattle.node_laws.proofs.Words.{reset_refusal, reset_with, role_after, silent, start_good, start_reached, started, steps_at_controller, stopped, subst, suc}
use Rattle.node_laws.proofs.Words.{sym, take, take_answer, taken, tick_answer, ticked, ticked_so, ticks_at_controller, took, true, turn, turned, uicc_step}
use Rattle.node_laws.proofs.Words.{window_of, with_act, with_ended, zero, ℕ, ◌&&◌, ◌++◌, ◌+◌, ◌-◌, ◌∙◌, ◌∷◌, ◌≡◌, ◌≤◌}
use Rattle.link_laws.proofs.messages.ActsInOrder.{NoActs, no_acts}
use Rattle.link_laws.proofs.messages.Project.{beside-put_all}
use Rattle.link_laws.specs.machine.Machine.{among}
use Rattle.link_laws.specs.sessions.Losses.{is_act}
use Rattle.shdlc_core.specs.declared.answers.LinkState.TheVariants.{Down}
use Rattle.swp_act.specs.declared.Phase.TheVariants.{Active}
use Rattle.swp_base.specs.declared.control_frames.Act.{Act}
use Rattle.node_laws.proofs.links.Sites.{here_host}
use Rattle.node_laws.proofs.links.Worlds.{IsFineSite}
use Rattle.node_laws.proofs.telling.WorldTicks.{host_left}
use Rattle.node_laws.proofs.worlds.Due.{ended_near}

-- ## Identifiers of UICCs: how many frames with one an end may still send, and that only a start of it lets it send more

-- ### Frames with an identifier

abbrev pub sync_frame : Control → ℕ
sync_frame (ActFrame (SyncId id) again) = 1
sync_frame _ = 0

abbrev sync_act : Option Act → ℕ
sync_act (Some (SyncId id)) = 1
sync_act _ = 0

abbrev pub syncs_on : List OnWire → ℕ
syncs_on [] = 0
syncs_on (x ∷ xs) = sync_frame x.frame + syncs_on xs

abbrev syncs_due : List ActDue → ℕ
syncs_due [] = 0
syncs_due (a ∷ acts) = sync_act (Some a.frame) + syncs_due acts

-- how often an end may send it again
abbrev pub tries_left : Phase → ℕ
tries_left Inactive = 0
tries_left (Awaiting tries ticks) = 3 - tries
tries_left Active = 0

abbrev pub tries_of : Role → ℕ
tries_of Bare = 0
tries_of (Clf s) = 0
tries_of (Uicc s) = tries_left s.phase

-- those that are due and those that may come
abbrev may_send : LinkEnd → ℕ
may_send e = syncs_due e.acts + tries_of e.role

due-append : (xs ys : List ActDue) → syncs_due (xs ++ ys) ≡ syncs_due xs + syncs_due ys
due-append [] ys = omega arith
due-append (a ∷ xs) ys = let rest = due-append xs ys in omega (arith, rest)

due_front : (acts : List ActDue) → syncs_due (map in_front acts) ≡ syncs_due acts
due_front [] = refl
due_front (a ∷ acts) = ap (λ n. sync_act (Some a.frame) + n) (due_front acts)

-- ### What activation sends

-- three for a start
abbrev start_event : ActEvent → ℕ
start_event (ActStart value) = 3
start_event _ = 0

-- no frame is sent again on a wire
abbrev IsOnce : ActEvent → Type 0
IsOnce (ActTake act again) = again ≡ false
IsOnce _ = Unit {0}

uicc_sends : (s : UiccAct) (event : ActEvent) → IsOnce event
    → sync_act (uicc_step s event).1.send + tries_left (uicc_step s event).0.phase ≤ tries_left s.phase + start_event event
uicc_sends s event once = grind arith

-- ### Ends

with_due : (o : Option Act) (e : LinkEnd) → syncs_due (with_act o e).acts ≡ syncs_due e.acts + sync_act o
with_due None e = omega arith
with_due (Some act) e = let both = due-append e.acts (record { frame = act; behind = length e.shdlc.due } ∷ []) in omega (arith, both)

moved_sends : (e : LinkEnd) (b : Bool) (s : EndState) → may_send (moved e b s) ≡ may_send e
moved_sends e true s = ap (λ n. n + tries_of e.role) (due_front e.acts)
moved_sends e false s = refl

down_due : (b : Bool) (e : LinkEnd) → syncs_due (put_down b e).acts ≡ syncs_due e.acts
down_due false e = refl
down_due true e = by e.shdlc.phase where
  by_phase : LinkState → LinkEnd
  by_phase Up = moved e true (stopped e.shdlc)
  by_phase Waiting = moved e true (stopped e.shdlc)
  by_phase Down = record e { shdlc = record e.shdlc { due = [] }; acts = map in_front e.acts }

  by : (p : LinkState) → syncs_due (by_phase p).acts ≡ syncs_due e.acts
  by Up = due_front e.acts
  by _ = due_front e.acts

activated_sends : (e : LinkEnd) (event : ActEvent) → IsUicc e.role → IsOnce event → may_send (activated e event) ≤ may_send e + start_event event
activated_sends e event is once = by e.role refl is where
  out : ActOut
  out = act_answer e.role event

  f : LinkEnd
  f = record (put_down out.ended_link e) { role = role_after e.role event }

  by : (r : Role) → e.role ≡ r → IsUicc r → may_send (with_act out.send f) ≤ may_send e + start_event event
  by Bare q is = absurd is
  by (Clf s) q is = absurd is
  by (Uicc s) q is =
      let one : tries_of (with_act out.send f).role ≡ tries_of (role_after e.role event) = ap tries_of (grind arith) in
      let two : tries_of (role_after e.role event) ≡ tries_left (uicc_step s event).0.phase = ap (λ r. tries_of (role_after r event)) q in
      let three : sync_act out.send ≡ sync_act (uicc_step s event).1.send = ap (λ r. sync_act (act_answer r event).send) q in
      let most = uicc_sends s event once in
      omega (arith, (with_due out.send f ∙ ap (λ n. n + sync_act out.send) (down_due out.ended_link e)), one, two, three, ap tries_of q, most)

-- ### Inputs and turns

abbrev start_of : LinkInput → ℕ
start_of (Start value) = 3
start_of _ = 0

-- what comes is no frame that is sent again
abbrev pub ComesOnce : LinkInput → Type 0
ComesOnce (Take (ActFrame act again)) = again ≡ false
ComesOnce (FromNode t) = ⊥
ComesOnce Fetch = ⊥
ComesOnce _ = Unit {0}

heard_sends : (e : LinkEnd) (c : Control) → may_send (heard e c) ≤ may_send e
heard_sends e c =
    cond_both (is_faulty (taken e.shdlc c).session) (put_down true e) _ (λ (f : LinkEnd). may_send f ≤ may_send e)
    (λ _. let dues = down_due true e in let role : tries_of (put_down true e).role ≡ tries_of e.role = ap tries_of (grind arith) in
    omega (arith, dues, role))
    (λ _. let same = moved_sends e (is_some (take_answer e.shdlc c).ended) (taken e.shdlc c) in omega (arith, same))

open_sends : (e : LinkEnd) (c : Control) → may_send (cond (is_open e.role) (heard e c) e) ≤ may_send e + 0
open_sends e c =
    cond_both (is_open e.role) (heard e c) e (λ (f : LinkEnd). may_send f ≤ may_send e + 0)
    (λ _. let less = heard_sends e c in omega (arith, less)) (λ _. omega arith)

took_sends : (e : LinkEnd) (c : Control) → IsUicc e.role → ComesOnce (Take c) → may_send (took e c) ≤ may_send e + 0
took_sends e (ActFrame act again) is once = activated_sends e (ActTake act again) is once
took_sends e Clt is once = omega arith
took_sends e (I ns nr info) is once = open_sends e (I ns nr info)
took_sends e (S kind nr) is once = open_sends e (S kind nr)
took_sends e (Rset w caps) is once = open_sends e (Rset w caps)
took_sends e Ua is once = open_sends e Ua

restarted_sends : (e : LinkEnd) (event : ActEvent) → IsUicc e.role → IsOnce event
    → may_send (activated (moved e true (stopped e.shdlc)) event) ≤ may_send e + start_event event
restarted_sends e event is once = omega (arith, activated_sends (moved e true (stopped e.shdlc)) event is once, moved_sends e true (stopped e.shdlc))

input_sends : (e : LinkEnd) (i : LinkInput) → IsUicc e.role → ComesOnce i → may_send (after_input e i) ≤ may_send e + start_of i
input_sends e (Take c) is once = took_sends e c is once
input_sends e TakeUnknown is once = omega arith
input_sends e (TakeBroken fault) is once = omega arith
input_sends e Tick is once =
    cond_both (is_open e.role) (moved e (is_some (tick_answer e.shdlc).ended) (ticked e.shdlc)) (activated e ActTick)
    (λ (f : LinkEnd). may_send f ≤ may_send e + 0)
    (λ _. let same = moved_sends e (is_some (tick_answer e.shdlc).ended) (ticked e.shdlc) in omega (arith, same))
    (λ _. activated_sends e ActTick is tt)
input_sends e (Reset window) is once = by_option (reset_refusal e)
    (λ q. rw q (let same = moved_sends e (is_some (if_up e.shdlc Asked)) (reset_with e.shdlc (window_of e window)) in omega (arith, same)))
    (λ why q. rw q (omega arith))
input_sends e (Start value) is once = restarted_sends e (ActStart value) is tt
input_sends e Stop is once = restarted_sends e ActStop is tt
input_sends e (FromNode t) is once = absurd once
input_sends e Fetch is once = absurd once

turned_sends : (e : LinkEnd) (ts : List Turn) → may_send (turned e ts) ≡ may_send e
turned_sends e [] = refl
turned_sends e (t ∷ ts) = turned_sends (turn e t) ts ∙ (grind arith)

-- ### What an end tells

abbrev pub sync_told : Option ℕ → ℕ
sync_told None = 0
sync_told (Some id) = 1

-- a frame that comes with an identifier
abbrev pub input_sync : LinkInput → ℕ
input_sync (Take c) = sync_frame c
input_sync _ = 0

-- an end tells of an identifier only as a frame with one comes
pub near_tells : (e : LinkEnd) (i : LinkInput) → sync_told (report e i).sync ≤ input_sync i
near_tells e i = grind arith

-- ## Identifiers of UICCs on a link: those on the wire and those that the host may still send, over what happens there

-- ### Wires

on-append : (xs ys : List OnWire) → syncs_on (xs ++ ys) ≡ syncs_on xs + syncs_on ys
on-append [] ys = omega arith
on-append (x ∷ xs) ys = let rest = on-append xs ys in omega (arith, rest)

fits_less : (w : List OnWire) → syncs_on (fits w) ≤ syncs_on w
fits_less w = by_test (nat_lt 64 (length w)) (λ q. rw q (grind arith)) (λ q. rw q (omega arith))

aged_less : (w : List OnWire) → syncs_on (aged_wire w) ≤ syncs_on w
aged_less [] = omega arith
aged_less (x ∷ xs) = by_test (nat_lt x.age 4) (λ q. rw q (omega (arith, aged_less xs))) (λ q. rw q (omega (arith, aged_less xs)))

-- ### Frames that go out

syncs_in : List Control → ℕ
syncs_in [] = 0
syncs_in (c ∷ cs) = sync_frame c + syncs_in cs

in-append : (xs ys : List Control) → syncs_in (xs ++ ys) ≡ syncs_in xs + syncs_in ys
unfolding syncs_in
in-append [] ys = omega arith
in-append (c ∷ xs) ys = let rest = in-append xs ys in omega (arith, rest)

plain_frame : (c : Control) → is_act c ≡ false → sync_frame c ≡ 0
plain_frame c off = grind arith

none_in : (cs : List Control) → NoActs cs → syncs_in cs ≡ 0
unfolding syncs_in
none_in [] none = refl
none_in (c ∷ cs) none = let one = plain_frame c none.0 in let rest = none_in cs none.1 in omega (arith, one, rest)

take_none : (n : ℕ) (cs : List Control) → NoActs cs → NoActs (take n cs)
take_none zero cs none = tt
take_none (suc n) [] none = tt
take_none (suc n) (c ∷ cs) none = (none.0, take_none n cs none.1)

drop_none : (n : ℕ) (cs : List Control) → NoActs cs → NoActs (drop n cs)
drop_none zero cs none = none
drop_none (suc n) [] none = tt
drop_none (suc n) (c ∷ cs) none = drop_none n cs none.1

act_frame_is : (a : ActDue) → sync_frame (ActFrame a.frame false) ≡ sync_act (Some a.frame)
act_frame_is a = grind arith

among_syncs : (n : ℕ) (acts : List ActDue) (cs : List Control) → NoActs cs → syncs_in (among n acts cs) ≡ syncs_due acts
unfolding syncs_in
among_syncs n [] cs none = none_in cs none
among_syncs n (a ∷ acts) cs none =
    let front : List Control = take (a.behind - n) cs in
    let back : List Control = drop (a.behind - n) cs in
    let one = none_in front (take_none (a.behind - n) cs none) in
    let rest = among_syncs a.behind acts back (drop_none (a.behind - n) cs none) in
    omega (arith, in-append front (ActFrame a.frame false ∷ among a.behind acts back), one, rest, act_frame_is a)

put_syncs : (l : Link) (c : Control) → syncs_on (put l c).to_host ≤ syncs_on l.to_host + sync_frame c
put_syncs l c = by_test (is_rset c) (λ q. rw q (pushed (l.resets + 1))) (λ q. rw q (pushed 0)) where
  number : Bool → ℕ
  number true = l.resets + 1
  number false = 0

  pushed : (n : ℕ) → syncs_on (fits (l.to_host ++ record { frame = c; age = 0; number = n } ∷ [])) ≤ syncs_on l.to_host + sync_frame c
  pushed n =
      let x : OnWire = record { frame = c; age = 0; number = n } in
      omega (arith, fits_less (l.to_host ++ x ∷ []), on-append l.to_host (x ∷ []))

put_all_syncs : (cs : List Control) (l : Link) → syncs_on (put_all l cs).to_host ≤ syncs_on l.to_host + syncs_in cs
unfolding syncs_in
put_all_syncs [] l = omega arith
put_all_syncs (c ∷ cs) l = let one = put_syncs l c in let rest = put_all_syncs cs (put l c) in omega (arith, one, rest)

-- ### The wire from an end, and what it may send

abbrev out_holds : Link → ℕ
out_holds l = syncs_on l.to_host + tries_of l.controller.side.role

renewed_none : (r : Role) → tries_of (renewed r) ≡ 0
renewed_none r = grind arith

finished_out : (l : Link) (e : LinkEnd) (ending : Ending) → out_holds (finished l e ending) ≤ syncs_on l.to_host + may_send e
finished_out l e GoesOut = let put = put_all_syncs (frames_out e) l in let is = among_syncs 0 e.acts _ (no_acts most_frames e.shdlc) in omega (arith, put, is)
finished_out l e CutOff = let none = renewed_none e.role in omega (arith, none)

cut_out : (l : Link) (e : LinkEnd) → out_holds (finished l e CutOff) ≡ 0
cut_out l e = let none = renewed_none e.role in omega (arith, none)

ended_out : (l : Link) (b : Bool) → (with_ended l b).to_host ≡ l.to_host
ended_out l b = grind arith

-- the end has an input and turns on this link
input_out : (m : Link) (e : LinkEnd) (i : LinkInput) (ts : List Turn) (ending : Ending) → IsUicc e.role → ComesOnce i
    → out_holds (finished m (turned (after_input e i) ts) ending) ≤ syncs_on m.to_host + (may_send e + start_of i)
input_out m e i ts ending is once =
    omega (arith, finished_out m (turned (after_input e i) ts) ending, turned_sends (after_input e i) ts, input_sends e i is once)

abbrev pub start_by : Comes → ℕ
start_by (Starts value) = 3
start_by _ = 0

-- no frame on the wire to it is sent again, and none of activation is due at it
pub record Rests (l : Link) : Type 0 where
  pub uicc : IsUicc l.controller.side.role
  pub acts : l.controller.side.acts ≡ []

abbrev pub FirstOnce : List OnWire → Type 0
FirstOnce [] = Unit {0}
FirstOnce (x ∷ xs) = ComesOnce (Take x.frame)

module _ (l : Link) (rests : Rests l) where
  now : may_send l.controller.side ≡ tries_of l.controller.side.role
  now = ap (λ acts. syncs_due acts + tries_of l.controller.side.role) rests.acts ∙ omega arith

  has_out : (i : LinkInput) (ts : List Turn) (ending : Ending) → ComesOnce i → out_holds (has_input l i ts ending) ≤ out_holds l + start_of i
  has_out i ts ending once =
      let b : Bool = is_some (ended_by l.controller.side i) in
      omega (arith, input_out (with_ended l b) l.controller.side i ts ending rests.uicc once, ap syncs_on (ended_out l b), now)

  tick_out : (ts : List Turn) (ending : Ending) → out_holds (ticks_at_controller l ts ending) ≤ out_holds l
  tick_out ts ending = let most = has_out Tick ts ending tt in omega (arith, most)

  step_out : (comes : Comes) (ts : List Turn) (ending : Ending) → (comes ≡ NextFrame → FirstOnce l.to_controller)
      → out_holds (steps_at_controller l comes ts ending) ≤ out_holds l + start_by comes
  step_out NextFrame ts ending once = by_list l.to_controller
      (λ q. rw q (omega arith))
      (λ x xs q. rw q (let once = rw q at (once refl) in
      let b : Bool = is_some (ended_by l.controller.side (Take x.frame)) in
      let wire : syncs_on (with_ended (record l { to_controller = xs }) b).to_host ≡ syncs_on l.to_host =
      ap syncs_on (ended_out (record l { to_controller = xs }) b) in
      omega (arith, input_out (left_after l x xs) l.controller.side (Take x.frame) ts ending rests.uicc once, wire, now)))
  step_out (AsksReset window) ts ending once = has_out (Reset window) ts ending tt
  step_out (Starts value) ts ending once =
      omega (arith, input_out (silent l (started l.controller.side value)) l.controller.side (Start value) ts ending rests.uicc tt, now)
  step_out Stops ts ending once =
      omega (arith, input_out (silent l (deactivated l.controller.side)) l.controller.side Stop ts ending rests.uicc tt, now)
  step_out NoInput ts ending once = omega (arith, finished_out l (turned l.controller.side ts) ending, turned_sends l.controller.side ts, now)

-- ### The wire to an end

-- those that an end takes with the next frame
abbrev pub taken_by : Comes → List OnWire → ℕ
taken_by NextFrame [] = 0
taken_by NextFrame (x ∷ xs) = sync_frame x.frame
taken_by _ w = 0

finished_in : (l : Link) (e : LinkEnd) (ending : Ending) → syncs_on (finished l e ending).to_controller ≤ syncs_on l.to_controller
finished_in l e GoesOut = omega (arith, ap syncs_on (beside-put_all (frames_out e) l).to_controller)
finished_in l e CutOff = omega arith

input_in : (l : Link) (i : LinkInput) (ts : List Turn) (ending : Ending) → syncs_on (has_input l i ts ending).to_controller ≤ syncs_on l.to_controller
input_in l i ts ending =
    let b : Bool = is_some (ended_by l.controller.side i) in
    omega (arith, finished_in (with_ended l b) (turned (after_input l.controller.side i) ts) ending, ap syncs_on (ended_near l b))

step_in : (l : Link) (comes : Comes) (ts : List Turn) (ending : Ending)
    → syncs_on (steps_at_controller l comes ts ending).to_controller + taken_by comes l.to_controller ≤ syncs_on l.to_controller
step_in l NextFrame ts ending = by_list l.to_controller
    (λ q. rw q (let same : syncs_on l.to_controller ≡ 0 = ap syncs_on q in omega (arith, same)))
    (λ x xs q. rw q (let b : Bool = is_some (ended_by l.controller.side (Take x.frame)) in
    let same : syncs_on (with_ended (record l { to_controller = xs }) b).to_controller ≡ syncs_on xs = grind arith in
    omega (arith, finished_in (left_after l x xs) (turned (after_input l.controller.side (Take x.frame)) ts) ending, same)))
step_in l (AsksReset window) ts ending = let most = input_in l (Reset window) ts ending in omega (arith, most)
step_in l (Starts value) ts ending =
    let most = finished_in (silent l (started l.controller.side value)) (turned (started l.controller.side value) ts) ending in omega (arith, most)
step_in l Stops ts ending =
    let most = finished_in (silent l (deactivated l.controller.side)) (turned (deactivated l.controller.side) ts) ending in omega (arith, most)
step_in l NoInput ts ending = let most = finished_in l (turned l.controller.side ts) ending in omega (arith, most)

-- ## The ends of hosts between events: none has a frame of activation that is due, and none on its way to it is sent again

-- ### Runs

all_good : (es : List LinkEvent) (l : Link) → AllAllowed l es → Good l → Reached (core_of l) → Good (after_link_events l es)
all_good [] l a g r = g
all_good (e ∷ es) l a g r =
    let st = event_step l e a.0 g r in
    all_good es (happens l e) a.1 st.good (subst Reached (sym st.core) (reached_more (core_of l) (core_event l e) st.allowed r))

run_good : (l : Link) → IsRun l → Good l
run_good l run = subst Good run.run.is (all_good run.events new_line run.run.allowed (start_good new_line IsLine) (start_reached new_line IsLine))

-- ### Hosts

-- the end of a host, to which activation owes nothing
abbrev pub IsResting : Site → Type 0
IsResting s = Rests (exchanged s.link)

-- and no frame of activation that comes to it is sent again
pub record IsCalm (s : Site) : Type 0 where
  pub rests : IsResting s
  pub once : FirstOnce s.link.to_host

calm_of : (s : Site) → IsFineSite s → IsCalm s
calm_of s fine =
    let good : Good s.link = run_good s.link fine.link.run in
    grind arith

pub all_calm : (sites : List Site) → AllByRecursion IsFineSite sites → AllByRecursion IsCalm sites
all_calm sites fine = all_so IsFineSite IsCalm calm_of sites fine

pub all_resting : (sites : List Site) → AllByRecursion IsCalm sites → AllByRecursion IsResting sites
all_resting sites calm = all_so IsCalm IsResting (λ s b. b.rests) sites calm

-- it stays so where the end of the host stays
pub still_rest : (g : Site → Site) → ((s : Site) → (g s).link.host.side ≡ s.link.host.side) → (sites : List Site) → AllByRecursion IsResting sites
    → AllByRecursion IsResting (map g sites)
still_rest g same [] rest = tt
still_rest g same (s ∷ sites) rest = let h0 = still_rest g same sites rest.1 in grind arith

-- ### What a link holds

-- the identifiers on their way to the controller, and those that the host may still send
abbrev pub link_holds : Link → ℕ
link_holds l = syncs_on l.to_controller + tries_of l.host.side.role

-- something happens at the controller's end
pub near_holds : (l : Link) (comes : Comes) (ts : List Turn) (ending : Ending)
    → link_holds (happens l (AtController (Step comes ts ending))) + taken_by comes l.to_controller ≤ link_holds l
near_holds l comes ts ending =
    let h0 = happens_at_controller l (Step comes ts ending) in let h1 = here_host l (Step comes ts ending) in let h2 = step_in l comes ts ending in grind arith

input_holds : (l : Link) (i : LinkInput) (ts : List Turn) (ending : Ending) → link_holds (has_input l i ts ending) ≤ link_holds l
input_holds l i ts ending = let h0 = has_input l i ts ending in let h1 = host_left l i ts ending in let h2 = input_in l i ts ending in grind arith

pub ticked_holds : (l : Link) (late : Bool) (ts : List Turn) (ending : Ending) → link_holds (ticked_so l late ts ending) ≤ link_holds l
ticked_holds l late ts ending =
    cond_both (late && not (is_waiting l.controller.side.shdlc)) (has_input l (Reset None) ts ending) (ticks_at_controller l ts ending)
    (λ (k : Link). link_holds k ≤ link_holds l) (λ _. input_holds l (Reset None) ts ending) (λ _. input_holds l Tick ts ending)

pub ticked_host : (l : Link) (late : Bool) (ts : List Turn) (ending : Ending) → (ticked_so l late ts ending).host.side ≡ l.host.side
ticked_host l late ts ending =
    ap (λ (k : NumberedEnd). k.side)
    (cond_both (late && not (is_waiting l.controller.side.shdlc)) (has_input l (Reset None) ts ending) (ticks_at_controller l ts ending)
    (λ (k : Link). k.host ≡ l.host) (λ _. host_left l (Reset None) ts ending) (λ _. host_left l Tick ts ending))

pub near_tick_holds : (l : Link) (ts : List Turn) (ending : Ending) → link_holds (ticks_at_controller l ts ending) ≤ link_holds l
near_tick_holds l ts ending = input_holds l Tick ts ending

pub near_tick_host : (l : Link) (ts : List Turn) (ending : Ending) → (ticks_at_controller l ts ending).host.side ≡ l.host.side
near_tick_host l ts ending = ap (λ (k : NumberedEnd). k.side) (host_left l Tick ts ending)

-- something happens at the end of the host
pub far_holds : (l : Link) (comes : Comes) (ts : List Turn) (ending : Ending) → Rests (exchanged l) → (comes ≡ NextFrame → FirstOnce l.to_host)
    → link_holds (happens l (AtHost (Step comes ts ending))) ≤ link_holds l + start_by comes
far_holds l comes ts ending rests once = step_out (exchanged l) rests comes ts ending once

pub far_tick_holds : (l : Link) (ts : List Turn) (ending : Ending) → Rests (exchanged l)
    → link_holds (exchanged (ticks_at_controller (exchanged l) ts ending)) ≤ link_holds l
far_tick_holds l ts ending rests = tick_out (exchanged l) rests ts ending

pub far_cut_holds : (l : Link) → link_holds (happens l (AtHost (Step NoInput [] CutOff))) ≤ link_holds l
far_cut_holds l = let none = cut_out (exchanged l) (exchanged l).controller.side in omega (arith, none)

pub aged_holds : (l : Link) → link_holds (aged l) ≤ link_holds l
aged_holds l = let less = aged_less l.to_controller in omega (arith, less)

pub lost_holds : (l : Link) (why : Loss) (b : Bool) → link_holds (happens l (cond b (AtHost (Lose why)) (AtController (Lose why)))) ≤ link_holds l
lost_holds l why b = grind arith
