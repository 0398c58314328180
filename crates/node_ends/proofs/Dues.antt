-- How many control frames wait to be sent at an end: an input makes at most one more.
use Rattle.node_ends.proofs.Words.{ActEvent, ActFrame, ActStart, ActStop, ActTake, Asked, Bool, Clt, Control, Down, EndState, Err, Fragment, I, LinkState, List}
use Rattle.node_ends.proofs.Words.{LpduFault, Machine, None, Ok, Option, Refused, Reset, Result, Rset, S, Some, Start, Stop, Tick, Ua, Up, [], activated}
use Rattle.node_ends.proofs.Words.{after_input, ap, arith, cond, control_of, false, heard, if_up, is_faulty, is_open, is_some, length, length-append}
use Rattle.node_ends.proofs.Words.{length-map, lpdu_input, map, moved, nat_lt, put_down, refl, reset_refusal, stopped, take_answer, taken, took, true, ℕ, ◌++◌}
use Rattle.node_ends.proofs.Words.{◌+◌, ◌==◌, ◌∷◌, ◌≡◌, ◌≤◌}
use Rattle.shdlc_core.specs.declared.answers.Due.{Due}
use Rattle.shdlc_core.specs.declared.answers.Due.TheVariants.{Rr as Rr_due, Rej as Rej_due, Rnr as Rnr_due, Rset as Rset_due, Ua as Ua_due}
use Rattle.shdlc_core.specs.declared.answers.LinkState.TheVariants.{Waiting}
use Rattle.shdlc_core.specs.Machine.{acknowledged, ahead, place_of, received, reset_with, tick_answer, ticked, runs_timer}
use Rattle.swp_base.specs.declared.control_frames.Kind.{Kind}
use Rattle.swp_base.specs.declared.control_frames.Act.{Act}
use Rattle.swp_act.specs.declared.ActEvent.TheVariants.{Tick as ActTick}
use Rattle.link_laws.specs.machine.Machine.{ActDue, act_answer, in_front, role_after, window_of, with_act}

-- the control frames that wait to be sent
abbrev pub due_count : Machine → ℕ
due_count m = length m.acts + length m.shdlc.due

abbrev OneMore : List Due → EndState → Type 0
OneMore before e = length e.due ≤ length before + 1

one_more : (ds : List Due) (d : Due) → length (ds ++ d ∷ []) ≤ length ds + 1
one_more ds d = let l = length-append ds (d ∷ []) in omega (arith, l)

received_few : (e : EndState) (ns : ℕ) (info : Fragment) → OneMore e.due (received e ns info)
received_few e ns info = go e.ready (ahead e.session ns == 0) (nat_lt (ahead e.session ns) 4) e.session.gap_open refl refl refl refl
  where
    go : (a b c d : Bool) → e.ready ≡ a → (ahead e.session ns == 0) ≡ b → nat_lt (ahead e.session ns) 4 ≡ c → e.session.gap_open ≡ d
        → OneMore e.due (received e ns info)
    go true true c d p q r s = rw (p, q) (one_more e.due Rr_due)
    go true false true true p q r s = rw (p, q, r, s) (omega arith)
    go true false true false p q r s = rw (p, q, r, s) (one_more e.due Rej_due)
    go true false false d p q r s = rw (p, q, r) (one_more e.due Rr_due)
    go false b c d p q r s = rw p (one_more e.due Rnr_due)

taken_few : (e : EndState) (c : Control) → OneMore e.due (taken e c)
taken_few e c = go e.phase refl c
  where
    same : (c : Control) → taken e c ≡ e → OneMore e.due (taken e c)
    same c q = let l = ap (λ (s : EndState). length s.due) q in omega (arith, l)

    up_I : (ns nr : ℕ) (info : Fragment) → e.phase ≡ Up → OneMore e.due (taken e (I ns nr info))
    up_I ns nr info p = by (place_of e.session nr) refl
      where
        by : (o : Option ℕ) → place_of e.session nr ≡ o → OneMore e.due (taken e (I ns nr info))
        by None q = same (I ns nr info) (rw (p, q) refl)
        by (Some x) q = let i = received_few (acknowledged e x) ns info in rw (p, q) (rw p at i)

    up_S : (k : Kind) (nr : ℕ) → e.phase ≡ Up → OneMore e.due (taken e (S k nr))
    up_S k nr p = grind arith

    go : (p : LinkState) → e.phase ≡ p → (c : Control) → OneMore e.due (taken e c)
    go Up p (I ns nr info) = up_I ns nr info p
    go Up p (S kind nr) = up_S kind nr p
    go Up p (Rset w caps) = grind arith
    go Up p Ua = same Ua (rw p refl)
    go Up p (ActFrame x y) = same (ActFrame x y) (rw p refl)
    go Up p Clt = same Clt (rw p refl)
    go Waiting p Ua = rw p (omega arith)
    go Waiting p (Rset w caps) = zero_or (w == 0) refl
      where
        zero_or : (b : Bool) → (w == 0) ≡ b → OneMore e.due (taken e (Rset w caps))
        zero_or true q = same (Rset w caps) (rw (p, q) refl)
        zero_or false q = rw (p, q) (one_more e.due Ua_due)
    go Waiting p (I ns nr info) = same (I ns nr info) (rw p refl)
    go Waiting p (S kind nr) = same (S kind nr) (rw p refl)
    go Waiting p (ActFrame x y) = same (ActFrame x y) (rw p refl)
    go Waiting p Clt = same Clt (rw p refl)
    go Down p (Rset w caps) = zero_or (w == 0) refl
      where
        zero_or : (b : Bool) → (w == 0) ≡ b → OneMore e.due (taken e (Rset w caps))
        zero_or true q = same (Rset w caps) (rw (p, q) refl)
        zero_or false q = rw (p, q) (one_more e.due Ua_due)
    go Down p (I ns nr info) = same (I ns nr info) (rw p refl)
    go Down p (S kind nr) = same (S kind nr) (rw p refl)
    go Down p Ua = same Ua (rw p refl)
    go Down p (ActFrame x y) = same (ActFrame x y) (rw p refl)
    go Down p Clt = same Clt (rw p refl)

ticked_few : (e : EndState) → OneMore e.due (ticked e)
ticked_few e = go e.phase (runs_timer e.session) (nat_lt (e.timer + 1) 10) (nat_lt e.tries 5) refl refl refl refl
  where
    same : ticked e ≡ e → OneMore e.due (ticked e)
    same q = let l = ap (λ (s : EndState). length s.due) q in omega (arith, l)

    go : (p : LinkState) (a b c : Bool) → e.phase ≡ p → runs_timer e.session ≡ a → nat_lt (e.timer + 1) 10 ≡ b → nat_lt e.tries 5 ≡ c
        → OneMore e.due (ticked e)
    go Down a b c p q r t = same (rw p refl)
    go Up false b c p q r t = same (rw (p, q) refl)
    go Up true true c p q r t = rw (p, q, r) (omega arith)
    go Up true false true p q r t = rw (p, q, r, t) (omega arith)
    go Up true false false p q r t = rw (p, q, r, t) (omega arith)
    go Waiting a true c p q r t = rw (p, r) (omega arith)
    go Waiting a false true p q r t = rw (p, r, t) (one_more e.due Rset_due)
    go Waiting a false false p q r t = rw (p, r, t) (omega arith)

reset_few : (e : EndState) (w : ℕ) → OneMore e.due (reset_with e w)
reset_few e w = go e.phase refl
  where
    go : (p : LinkState) → e.phase ≡ p → OneMore e.due (reset_with e w)
    go Up p = rw p (omega arith)
    go Waiting p = rw p (omega arith)
    go Down p = rw p (one_more e.due Rset_due)

-- ## The end of a link

fronted : (acts : List ActDue) → length (map in_front acts) ≡ length acts
fronted acts = length-map acts in_front

moved_few : (e : Machine) (b : Bool) (s : EndState) → OneMore e.shdlc.due s → due_count (moved e b s) ≤ due_count e + 1
moved_few e false s more = omega (arith, more)
moved_few e true s more = let f = fronted e.acts in omega (arith, more, f)

stopped_few : (e : Machine) → due_count (moved e true (stopped e.shdlc)) ≤ due_count e
stopped_few e = let f = fronted e.acts in omega (arith, f)

down_few : (b : Bool) (e : Machine) → due_count (put_down b e) ≤ due_count e
down_few false e = omega arith
down_few true e = by e.shdlc.phase refl
  where
    f : length (map in_front e.acts) ≡ length e.acts
    f = fronted e.acts

    by : (p : LinkState) → e.shdlc.phase ≡ p → due_count (put_down true e) ≤ due_count e
    by Up q = rw q (omega (arith, f))
    by Waiting q = rw q (omega (arith, f))
    by Down q = rw q (omega (arith, f))

act_few : (o : Option Act) (e : Machine) → due_count (with_act o e) ≤ due_count e + 1
act_few None e = omega arith
act_few (Some act) e =
    let l = length-append e.acts ((record { frame = act; behind = length e.shdlc.due }) ∷ []) in omega (arith, l)

activated_few : (e : Machine) (event : ActEvent) → due_count (activated e event) ≤ due_count e + 1
activated_few e event =
    let out = act_answer e.role event in
    omega (arith, act_few out.send (record (put_down out.ended_link e) { role = role_after e.role event }), down_few out.ended_link e)

either_few : (b : Bool) (e f : Machine) (n : ℕ) → due_count e ≤ n → due_count f ≤ n → due_count (cond b e f) ≤ n
either_few b e f n one other = grind arith

heard_few : (e : Machine) (c : Control) → due_count (heard e c) ≤ due_count e + 1
heard_few e c =
    either_few (is_faulty (taken e.shdlc c).session) (put_down true e) _ (due_count e + 1)
    (let d = down_few true e in omega (arith, d)) (moved_few e (is_some (take_answer e.shdlc c).ended) (taken e.shdlc c) (taken_few e.shdlc c))

open_few : (e : Machine) (c : Control) → due_count (cond (is_open e.role) (heard e c) e) ≤ due_count e + 1
open_few e c = either_few (is_open e.role) (heard e c) e (due_count e + 1) (heard_few e c) (omega arith)

took_few : (e : Machine) (c : Control) → due_count (took e c) ≤ due_count e + 1
took_few e (I ns nr info) = open_few e (I ns nr info)
took_few e (S kind nr) = open_few e (S kind nr)
took_few e (Rset window caps) = open_few e (Rset window caps)
took_few e Ua = open_few e Ua
took_few e (ActFrame act again) = activated_few e (ActTake act again)
took_few e Clt = omega arith

pub lpdu_few : (e : Machine) (lpdu : List ℕ) → due_count (after_input e (lpdu_input lpdu)) ≤ due_count e + 1
lpdu_few e lpdu = by (control_of lpdu) refl
  where
    by : (o : Result Control LpduFault) → control_of lpdu ≡ o → due_count (after_input e (lpdu_input lpdu)) ≤ due_count e + 1
    by (Ok c) q = rw q (took_few e c)
    by (Err fault) q = rw q (omega arith)

pub tick_few : (e : Machine) → due_count (after_input e Tick) ≤ due_count e + 1
tick_few e =
    either_few (is_open e.role) (moved e (is_some (tick_answer e.shdlc).ended) (ticked e.shdlc)) (activated e ActTick) (due_count e + 1)
    (moved_few e (is_some (tick_answer e.shdlc).ended) (ticked e.shdlc) (ticked_few e.shdlc)) (activated_few e ActTick)

pub reset_few_due : (e : Machine) (window : Option ℕ) → due_count (after_input e (Reset window)) ≤ due_count e + 1
reset_few_due e window = by (reset_refusal e) refl
  where
    by : (o : Option Refused) → reset_refusal e ≡ o → due_count (after_input e (Reset window)) ≤ due_count e + 1
    by None q = rw q (moved_few e (is_some (if_up e.shdlc Asked)) (reset_with e.shdlc (window_of e window)) (reset_few e.shdlc (window_of e window)))
    by (Some why) q = rw q (omega arith)

pub start_few : (e : Machine) (value : ℕ) → due_count (after_input e (Start value)) ≤ due_count e + 1
start_few e value =
    let a = activated_few (moved e true (stopped e.shdlc)) (ActStart value) in let s = stopped_few e in omega (arith, a, s)

pub stop_few : (e : Machine) → due_count (after_input e Stop) ≤ due_count e + 1
stop_few e = let a = activated_few (moved e true (stopped e.shdlc)) ActStop in let s = stopped_few e in omega (arith, a, s)
