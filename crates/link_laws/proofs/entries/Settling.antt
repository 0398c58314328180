-- The answer to a reset is kept back no more than before, and not at all from a reset on, where nothing is noted that withholds it.
use Rattle.std.specs.Prelude.{◌+◌, ◌||◌}
use Rattle.link_laws.proofs.Words.{Act, ActEvent, ActTake, Activation, AreSendableTurns, Asked, AsksReset, Bool, Clt, Control, CoreActs, CoreDeliver}
use Rattle.link_laws.proofs.Words.{CoreEndEvent, CoreLink, CoreLose, CoreTurn, Cut, CutOff, Down as IsDown, Due, Emit, End, EndEvent, EndState, Entry, GoesOut}
use Rattle.link_laws.proofs.Words.{HasTick, IsAllowed, IsOwn, Link, LinkEnd, LinkState, List, Lose, Lost, NextFrame, NoInput, None, Offer, OnWire, Option}
use Rattle.link_laws.proofs.Words.{Refused, Reset, Restarted, Role, Rr_due, Rset_due, SetReady, Some, Starts, Step, Stops, Take, TooMany, Turn}
use Rattle.link_laws.proofs.Words.{Turns as CoreTurns, [], act_answer, activated, after_input, ap, arith, core_happens_here, core_here, core_of, core_reset}
use Rattle.link_laws.proofs.Words.{core_step, core_take, core_turned, core_turns, drop, due_left, ended_by, false, first_lost, frames_of, frames_out}
use Rattle.link_laws.proofs.Words.{happens_at_controller, has_taken, heard, here_entries, if_up, if◌then◌else◌, inl, input_entries, inr, is_open, is_rset}
use Rattle.link_laws.proofs.Words.{is_some, is_waiting, left_after, length, length-append, list_any, moved, nat_lt, not, option_to_list, overflows, put}
use Rattle.link_laws.proofs.Words.{put_down, put_entries, puts_entries, refl, reset_by, reset_refusal, reset_with, rest_entries, shdlc_put as core_put}
use Rattle.link_laws.proofs.Words.{shdlc_put_all as core_put_all, shdlc_turn as core_turn, step_entries, stopped, subst, sure_all, sure_here, sure_put}
use Rattle.link_laws.proofs.Words.{sure_tick, sure_turns, sym, take_answer, taken, taken_entries, tick_answer, ticked, told_of, took, took_with, true}
use Rattle.link_laws.proofs.Words.{true≢false, turn_entries, turned, window_of, with_ended, withholds, ℕ, ◌&&◌, ◌++◌, ◌∙◌, ◌∷◌, ◌≡◌, ◌⊎◌}
use Rattle.link_laws.specs.places.Wire.{is_act}
use Rattle.link_laws.proofs.Cases.{by_list, by_phase, by_test}
use Rattle.link_laws.proofs.entries.Disturbing.{left_core}
use Rattle.link_laws.proofs.entries.Noting.{reset_role}
use Rattle.link_laws.proofs.entries.Running.{Before, comes_first}
use Rattle.link_laws.proofs.machine.Reports.{shdlc_is as shdlc_moved}
use Rattle.link_laws.proofs.messages.ActsInOrder.{ActsInOrder}
use Rattle.link_laws.proofs.messages.Project.{Tells, among_now, moved_role, put-core, turned_role, turns_mid}
use Rattle.link_laws.proofs.messages.Finishing.{tick_open}
use Rattle.link_laws.proofs.messages.Runs.{rests_of}
use Rattle.link_laws.proofs.messages.Steps.{ComesFirst, Heard, Rests, act_mid, counted_is, heard_end, heard_is, is_shdlc, no_fault_first, polite, role_closes}
use Rattle.link_laws.proofs.messages.Steps.{took_open}
use Rattle.link_laws.proofs.places.Joined.{changed, ready_cases}

-- ## Where nothing was lost in a step and no RSET put on the link, the answer to a reset is kept back no more than before

-- ### What keeps an answer back

-- a frame is lost that isn't of activation, or RSET put on the link
abbrev pub spoils : Entry → Bool
spoils (Lost who c why) = not (is_act c)
spoils (Emit who c) = is_rset c
spoils _ = false

abbrev pub Spared : List Entry → Type 0
Spared t = list_any spoils t ≡ false

-- an end is started, stopped or cut off
abbrev pub silences : Entry → Bool
silences (Restarted who) = true
silences (Cut who) = true
silences _ = false

abbrev pub Stands : List Entry → Type 0
Stands t = list_any silences t ≡ false

pub or_none : (a b : Bool) → (a || b) ≡ false → (a ≡ false) × (b ≡ false)
or_none a b q = grind arith

none_or : (a b : Bool) → a ≡ false → b ≡ false → (a || b) ≡ false
none_or a b p q = rw p q

any_parts : (f : Entry → Bool) (t u : List Entry) → list_any f (t ++ u) ≡ false → (list_any f t ≡ false) × (list_any f u ≡ false)
any_parts f [] u s = (refl, s)
any_parts f (e ∷ t) u s =
    let a = or_none (f e) (list_any f (t ++ u)) s in
    let r = any_parts f t u a.1 in
    (none_or (f e) (list_any f t) a.0 r.0, r.1)

pub spared_parts : (t u : List Entry) → Spared (t ++ u) → Spared t × Spared u
spared_parts t u s = any_parts spoils t u s

pub stands_parts : (t u : List Entry) → Stands (t ++ u) → Stands t × Stands u
stands_parts t u s = any_parts silences t u s

pub none_withheld : (t : List Entry) → Spared t → Stands t → list_any withholds t ≡ false
none_withheld [] a b = refl
none_withheld (Lost who c why ∷ t) a b =
    let x = or_none (not (is_act c)) (list_any spoils t) a in none_or (not (is_act c)) (list_any withholds t) x.0 (none_withheld t x.1 b)
none_withheld (Restarted who ∷ t) a b = absurd (true≢false b)
none_withheld (Cut who ∷ t) a b = absurd (true≢false b)
none_withheld (Emit who c ∷ t) a b =
    let x = or_none (is_rset c) (list_any spoils t) a in none_or (is_rset c) (list_any withholds t) x.0 (none_withheld t x.1 b)
none_withheld (_ ∷ t) a b = none_withheld t a b

-- nothing withholds an answer
pub none_withholds : (t : List Entry) → list_any withholds t ≡ false → Spared t × Stands t
none_withholds [] q = (refl, refl)
none_withholds (Lost who c why ∷ t) q =
    let a = or_none (not (is_act c)) (list_any withholds t) q in
    let r = none_withholds t a.1 in
    (none_or (not (is_act c)) (list_any spoils t) a.0 r.0, r.1)
none_withholds (Restarted who ∷ t) q = absurd (true≢false q)
none_withholds (Cut who ∷ t) q = absurd (true≢false q)
none_withholds (Emit who c ∷ t) q =
    let a = or_none (is_rset c) (list_any withholds t) q in
    let r = none_withholds t a.1 in
    (none_or (is_rset c) (list_any spoils t) a.0 r.0, r.1)
none_withholds (_ ∷ t) q = none_withholds t q

-- ### Frames go out

long_as : (w : List OnWire) (a b : OnWire) → length (w ++ a ∷ []) ≡ length (w ++ b ∷ [])
long_as w a b = length-append w (a ∷ []) ∙ sym (length-append w (b ∷ []))

none_over : (who : End) (w : List OnWire) (a b : OnWire)
    → Spared (if nat_lt 64 (length (w ++ a ∷ [])) then first_lost who TooMany (w ++ a ∷ []) else []) → overflows (w ++ b ∷ []) ≡ false
none_over who [] a b s = refl
none_over who (y ∷ ys) a b s =
    by_test {P = overflows (y ∷ (ys ++ b ∷ [])) ≡ false} (nat_lt 64 (length (y ∷ (ys ++ b ∷ [])))) (λ q.
    let long : nat_lt 64 (length (y ∷ (ys ++ a ∷ []))) ≡ true = ap (nat_lt 64) (long_as (y ∷ ys) a b) ∙ q in
    let z : Spared (Lost who y.frame TooMany ∷ []) = subst P long s in rw q ((or_none (not (is_act y.frame)) false z).0))
    (λ q. rw q refl)
  where
    P : Bool → Type 0
    P z = Spared (if z then first_lost who TooMany (y ∷ (ys ++ a ∷ [])) else [])

-- all frames that go out
flush_sure : (cs : List Control) (s : Bool) (who : End) (l : Link) → s ≡ true → Spared (puts_entries who l cs) → sure_all s (core_of l) cs ≡ true
flush_sure [] s who l p q = p
flush_sure (c ∷ cs) s who l p q =
    let a = spared_parts (put_entries who l c) (puts_entries who (put l c) cs) q in
    let m : Bool = sure_put s (core_of l) c in
    subst (λ k. sure_all m k cs ≡ true) (put-core l c) (flush_sure cs m who (put l c) (grind arith) a.1)

pub rest_sure : (s m : Bool) (who : End) (l : Link) (e : LinkEnd) (ts : List Turn) → m ≡ sure_all s (core_of l) (frames_out (turned e ts)) → s ≡ true
    → Spared (rest_entries who l e ts GoesOut) → m ≡ true
rest_sure s m who l e ts is p q = grind (arith, spared_parts, turned, flush_sure)

sure_all-append : (s : Bool) (c : CoreLink) (xs ys : List Control) → sure_all (sure_all s c xs) (core_put_all c xs) ys ≡ sure_all s c (xs ++ ys)
sure_all-append s c [] ys = refl
sure_all-append s c (x ∷ xs) ys = sure_all-append (sure_put s c x) (core_put c x) xs ys

-- ### Steps

-- a frame is taken by an end that is open
take_sure : (n : Bool) (l : Link) (ts : List Turn) (x : OnWire) (xs : List OnWire) → AreSendableTurns ts → ComesFirst l x xs
    → is_open l.controller.side.role ≡ true
    → sure_turns n (core_of l) (core_take l.controller.side x.frame ts)
    ≡ sure_all n (core_of (left_after l x xs)) (frames_out (turned (took l.controller.side x.frame) ts))
take_sure n l ts x xs a comes open_role = go x.frame refl
  where
    e : LinkEnd
    e = l.controller.side

    c : CoreLink
    c = core_of l

    k : CoreLink
    k = core_of (left_after l x xs)

    Goal : Type 0
    Goal = sure_turns n c (core_take e x.frame ts) ≡ sure_all n k (frames_out (turned (took e x.frame) ts))

    left : (b : Bool) → is_some (ended_by e (Take x.frame)) ≡ b → k ≡ left_core l x xs b
    left b q = grind arith

    take_open : (y : Control) → is_act y ≡ false → is_open e.role ≡ true → core_take e y ts ≡ CoreDeliver (core_turns (took e y) ts) ∷ []
    take_open y q o = grind arith

    -- an end that is open became f
    open_as : (f : LinkEnd) (b : Bool) → is_act x.frame ≡ false → is_open e.role ≡ true → took e x.frame ≡ f → is_some (ended_by e (Take x.frame)) ≡ b
        → Heard e f x b → Goal
    open_as f b q o is ends heard =
        let us : List CoreTurn = core_turns f ts in
        let tm = turns_mid None f ts a heard.mid in
        let s : EndState = core_turned (taken e.shdlc x.frame) us in
        let shdlc : (turned f ts).shdlc ≡ s = tm.is ∙ ap (λ z. core_turned z us) heard.shdlc in
        let k_is : left_core l x xs (is_some (take_answer e.shdlc x.frame).ended) ≡ k = ap (left_core l x xs) heard.ended ∙ sym (left b ends) in
        ap (sure_turns n c) (take_open x.frame q o ∙ ap (λ g. CoreDeliver (core_turns g ts) ∷ []) is)
        ∙ (grind arith)

    shdlc : is_shdlc x.frame ≡ true → is_act x.frame ≡ false → Goal
    shdlc s q =
        let f = took_open e x s open_role (no_fault_first l x xs comes.first comes.tells comes.host open_role comes.from) in
        open_as (heard_end e x) (is_some (take_answer e.shdlc x.frame).ended) q open_role f.0 f.1 (heard_is e x comes.tells.now open_role)

    counts : x.frame ≡ Clt → Goal
    counts q =
        open_as (record e { passed_over = e.passed_over + 1 }) false (ap is_act q) open_role (ap (took e) q) (ap (λ y. is_some (ended_by e (Take y))) q)
        (counted_is e x comes.tells.now q)

    -- a frame of activation
    acts : (act : Activation) (again : Bool) → x.frame ≡ Act act again → Goal
    acts act again q =
        let event : ActEvent = ActTake act again in
        let o : Option Activation = (act_answer e.role event).send in
        let f : LinkEnd = activated e event in
        let m = act_mid e event comes.tells.now comes.rests.due (polite e x xs act again q comes.polite) (λ z. by (role_closes e.role act again z)) in
        let is : took e x.frame ≡ f = ap (took e) q in
        let us : List CoreTurn = core_turns f ts in
        let tm = turns_mid o f ts a m.mid in
        let s : EndState = core_turned e.shdlc us in
        let same : (turned f ts).shdlc ≡ s = tm.is ∙ ap (λ z. core_turned z us) m.same in
        let ends : is_some (ended_by e (Take x.frame)) ≡ false = grind arith in
        let counts : took_with l.controller.took x ≡ l.controller.took = no_number (ap is_rset q) in
        let gone : CoreLink = record c { to_controller = xs } in
        let k_is : k ≡ gone = left false ends ∙ ap (λ z. record (record c { to_controller = xs }) { controller = record c.controller { took = z } }) counts in
        ap (sure_turns n c) (ap (λ y. core_take e y ts) q)
        ∙ (ap (λ z. sure_here z (core_happens_here c CoreLose) (CoreActs (option_to_list o) us)) (grind arith)
        ∙ (ap (λ z. sure_here n z (CoreActs (option_to_list o) us)) (ap (λ z. record c { to_controller = drop 1 z }) comes.first)
        ∙ ((grind (arith, sure_all-append, frames_of, among_now))
        ∙ (ap (λ z. sure_all n z (frames_out (turned f ts))) (sym k_is)
        ∙ ap (λ g. sure_all n k (frames_out (turned g ts))) (sym is)))))
      where
        by : (is_open e.role ≡ false) ⊎ ((act_answer e.role (ActTake act again)).ended_link ≡ true) → e.shdlc.phase ≡ IsDown
        by (inl z) = comes.tells.now.closed z
        by (inr z) = polite e x xs act again q comes.polite z

        no_number : is_rset x.frame ≡ false → took_with l.controller.took x ≡ l.controller.took
        no_number z = rw z refl

        and_true : (b : Bool) → (b && true) ≡ b
        and_true true = refl
        and_true false = refl

    go : (y : Control) → x.frame ≡ y → Goal
    go (Act act again) q = acts act again q
    go Clt q = counts q
    go _ q = shdlc (ap is_shdlc q) (ap is_act q)

-- the node of an end has turns
idle_sure : (n : Bool) (l : Link) (ts : List Turn) → AreSendableTurns ts → Tells l.controller
    → sure_here n (core_of l) (CoreTurns (core_turns l.controller.side ts)) ≡ sure_all n (core_of l) (frames_out (turned l.controller.side ts))
idle_sure n l ts a h =
    let tm = turns_mid None l.controller.side ts a h.now in
    grind arith

-- an end that is open has its tick
pub tick_sure : (n : Bool) (l : Link) (ts : List Turn) → AreSendableTurns ts → Tells l.controller → is_open l.controller.side.role ≡ true
    → sure_tick n (Some (core_turns (after_input l.controller.side HasTick) ts)) (core_of l)
    ≡ sure_all n (core_of (with_ended l (is_some (ended_by l.controller.side HasTick)))) (frames_out (turned (after_input l.controller.side HasTick) ts))
tick_sure n l ts a h o =
    let e : LinkEnd = l.controller.side in
    let b : Bool = is_some (tick_answer e.shdlc).ended in
    let f : LinkEnd = moved e b (ticked e.shdlc) in
    let us : List CoreTurn = core_turns f ts in
    let tm = turns_mid None f ts a (grind arith) in
    let is : (turned f ts).shdlc ≡ (core_turned (ticked e.shdlc) us) = tm.is ∙ ap (λ z. core_turned z us) (shdlc_moved e b (ticked e.shdlc)) in
    ap (λ g. sure_tick n (Some (core_turns g ts)) (core_of l)) (tick_open e o).0
    ∙ (grind arith)

-- ## From a reset on that finds the other end active and not waiting its answer is not kept back, where nothing is noted that withholds it

-- ### Ends that are active

pub down_role : (e : LinkEnd) → (put_down true e).role ≡ e.role
down_role e = by_phase e.shdlc.phase (λ p. rw p (moved_role e true (stopped e.shdlc))) (λ p. rw p (moved_role e true (stopped e.shdlc))) (λ p. rw p refl)

pub heard_role : (e : LinkEnd) (c : Control) → (heard e c).role ≡ e.role
heard_role e c = grind arith

took_open_of_settling : (e : LinkEnd) (f : Role) (x : OnWire) (w v : List OnWire) → ActsInOrder e.role f (x ∷ w) v → is_open e.role ≡ true
    → is_open (took e x.frame).role ≡ true
took_open_of_settling e f x w v wires o = grind arith

-- ### Resets

no_due : (p : LinkState) (due : List Due) → due ≡ [] → due_left p due ≡ []
no_due p due q = grind arith

-- turns leave the RSET in front
first_due : (us : List CoreTurn) (s : EndState) (ds : List Due) → s.due ≡ Rset_due ∷ ds → (es : List Due) × ((core_turned s us).due ≡ Rset_due ∷ es)
first_due [] s ds q = (ds, q)
first_due (Offer fragments ∷ us) s ds q = first_due us (core_turn s (Offer fragments)) ds ((grind arith) ∙ q)
first_due (SetReady r ∷ us) s ds q =
    ready_cases (λ f. (es : List Due) × ((core_turned f us).due ≡ Rset_due ∷ es)) s r (first_due us s ds q) (first_due us (changed s r s.due) ds q)
    (first_due us (changed s r (s.due ++ Rr_due ∷ [])) (ds ++ Rr_due ∷ []) (ap (λ d. d ++ Rr_due ∷ []) q))

puts_none : (cs : List Control) (who : End) (l : Link) → Spared (puts_entries who l cs) → list_any is_rset cs ≡ false
puts_none [] who l q = refl
puts_none (c ∷ cs) who l q =
    let a = spared_parts (put_entries who l c) (puts_entries who (put l c) cs) q in
    rw ((or_none (is_rset c) _ a.0).0) (puts_none cs who (put l c) a.1)

-- a reset that isn't refused puts RSET on the link
reset_puts : (who : End) (l : Link) (window : Option ℕ) (ts : List Turn) → AreSendableTurns ts → Tells l.controller → Rests l.controller.side.shdlc
    → reset_refusal l.controller.side ≡ None → Spared (input_entries who l (Reset window) ts GoesOut) → ⊥
reset_puts who l window ts sendable h r q s =
    let e : LinkEnd = l.controller.side in
    let w : ℕ = window_of e window in
    let k : Link = with_ended l (is_some (ended_by e (Reset window))) in
    let f : LinkEnd = reset_by e w in
    let us : List CoreTurn = core_turns f ts in
    let tm = turns_mid None f ts sendable (grind arith) in
    let z : EndState = core_turned (reset_with e.shdlc w) us in
    let shdlc : (turned f ts).shdlc ≡ z = tm.is ∙ ap (λ y. core_turned y us) (shdlc_moved e (is_some (if_up e.shdlc Asked)) (reset_with e.shdlc w)) in
    let a = spared_parts (told_of who l.controller (Reset window)) (rest_entries who k (after_input e (Reset window)) ts GoesOut) s in
    let out =
    spared_parts (turn_entries who _ (after_input e (Reset window)) ts) (puts_entries who k (frames_out (turned (after_input e (Reset window)) ts))) a.1 in
    let due = first_due us (reset_with e.shdlc w) [] (grind arith) in
    true≢false (sym (grind arith) ∙ (puts_none (frames_out (turned (after_input e (Reset window)) ts)) who k out.1))

-- a reset that isn't refused, where the other end isn't waiting
pub reset_sure : (s : Bool) (l : Link) (window : Option ℕ) (ts : List Turn) → reset_refusal l.controller.side ≡ None → is_waiting l.host.side.shdlc ≡ false
    → sure_turns s (core_of l) (core_here l (Step (AsksReset window) ts GoesOut)) ≡ true
reset_sure s l window ts q n = grind arith

-- ### Steps

-- a step of an end that is cut off is noted
pub rest_cut : (t : List Entry) (who : End) (l : Link) (e : LinkEnd) (ts : List Turn) → Stands (t ++ rest_entries who l e ts CutOff) → ⊥
rest_cut t who l e ts q = grind (arith, stands_parts)

-- where this was noted: the answer is kept back no more than before, which s and n tell, if it was spared, and the end is active
abbrev pub Spares : List Entry → Bool → Bool → Link → Type 0
Spares u s n l = (s ≡ true → Spared u → n ≡ true) × (is_open l.controller.side.role ≡ true)

-- a reset that is refused
refused_spares : {s : Bool} (who : End) (l : Link) (window : Option ℕ) (ts : List Turn) {why : Refused} → reset_refusal l.controller.side ≡ Some why
    → AreSendableTurns ts → Tells l.controller → s ≡ true → Spared (input_entries who l (Reset window) ts GoesOut)
    → sure_turns s (core_of l) (core_here l (Step (AsksReset window) ts GoesOut)) ≡ true
refused_spares {s} who l window ts q a h p sp =
    let e : LinkEnd = l.controller.side in
    let c : CoreLink = core_of l in
    let b : Bool = is_some (ended_by e (Reset window)) in
    let f : LinkEnd = after_input e (Reset window) in
    let ended : b ≡ false = rw q refl in
    let flag : sure_turns s c (core_here l (Step (AsksReset window) ts GoesOut)) ≡ sure_all s (core_of (with_ended l b)) (frames_out (turned f ts)) =
    ap (λ o. sure_turns s c (core_reset o e (window_of e window) ts GoesOut)) q
    ∙ (idle_sure s l ts a h
    ∙ (ap (λ z. sure_all s (core_of (with_ended l z)) (frames_out (turned e ts))) (sym ended)
    ∙ ap (λ g. sure_all s (core_of (with_ended l b)) (frames_out (turned g ts))) (sym (rw q refl)))) in
    rest_sure s (sure_turns s c (core_here l (Step (AsksReset window) ts GoesOut))) who (with_ended l b) f ts flag p
    (spared_parts (told_of who l.controller (Reset window)) (rest_entries who (with_ended l b) f ts GoesOut) sp).1

-- a step that takes no frame
pub own_spares : (s : Bool) (who : End) (l : Link) (e : EndEvent) → IsOwn e → IsAllowed l e → Tells l.controller → Rests l.controller.side.shdlc
    → is_open l.controller.side.role ≡ true → Stands (here_entries who l e)
    → Spares (here_entries who l e) s (sure_turns s (core_of l) (core_here l e)) (happens_at_controller l e)
own_spares s who l (Lose why) o a h r k st = absurd o
own_spares s who l (Step NextFrame ts ending) o a h r k st = absurd o
own_spares s who l (Step (Starts v) ts ending) o a h r k st = absurd (true≢false st)
own_spares s who l (Step Stops ts ending) o a h r k st = absurd (true≢false st)
own_spares s who l (Step NoInput ts CutOff) o a h r k st = absurd (rest_cut [] who l l.controller.side ts st)
own_spares s who l (Step NoInput ts GoesOut) o a h r k st = (
  λ p sp. rest_sure s (sure_turns s (core_of l) (core_here l (Step NoInput ts GoesOut))) who l l.controller.side ts (idle_sure s l ts a.1.0 h) p sp,
  ap is_open (turned_role l.controller.side ts) ∙ k,
)
own_spares s who l (Step (AsksReset window) ts CutOff) o a h r k st =
    absurd (rest_cut (told_of who l.controller (Reset window)) who (with_ended l (is_some (ended_by l.controller.side (Reset window))))
    (after_input l.controller.side (Reset window)) ts st)
own_spares s who l (Step (AsksReset window) ts GoesOut) o a h r k st = (
  go (reset_refusal l.controller.side) refl,
  ap is_open (turned_role (after_input l.controller.side (Reset window)) ts ∙ reset_role l.controller.side window) ∙ k,
)
  where
    go : (q : Option Refused) → reset_refusal l.controller.side ≡ q → s ≡ true → Spared (here_entries who l (Step (AsksReset window) ts GoesOut))
        → sure_turns s (core_of l) (core_here l (Step (AsksReset window) ts GoesOut)) ≡ true
    go (Some why) q p sp = refused_spares who l window ts q a.1.0 h p sp
    go None q p sp = absurd (reset_puts who l window ts a.1.0 h r q sp)

-- a frame is taken
frame_spares : (s : Bool) (who : End) (l : Link) (ts : List Turn) → AreSendableTurns ts → Before l → is_open l.controller.side.role ≡ true
    → Spares (step_entries who l NextFrame ts GoesOut) s (sure_turns s (core_of l) (core_step l NextFrame ts GoesOut))
    (happens_at_controller l (Step NextFrame ts GoesOut))
frame_spares s who l ts a b k =
    by_list {P = Spares (step_entries who l NextFrame ts GoesOut) s (sure_turns s c (core_step l NextFrame ts GoesOut))
    (happens_at_controller l (Step NextFrame ts GoesOut))} l.to_controller
    (grind arith)
    (λ x xs r.
    let e : LinkEnd = l.controller.side in
    let list : core_step l NextFrame ts GoesOut ≡ core_take e x.frame ts ++ [] = rw r refl in
    let some : step_entries who l NextFrame ts GoesOut ≡ taken_entries who l x xs ts GoesOut = rw r refl in
    let next : happens_at_controller l (Step NextFrame ts GoesOut) ≡ has_taken l x xs ts GoesOut = rw r refl in
    let m : Link = left_after l x xs in
    let u : List Entry = told_of who (record l.controller { took = m.controller.took }) (Take x.frame) in
    let v : List Entry = rest_entries who m (took e x.frame) ts GoesOut in
    let P : List Entry → Type 0 = λ z. Spared z in
    let wires : ActsInOrder e.role l.host.side.role (x ∷ xs) l.to_host = subst (λ z. ActsInOrder e.role l.host.side.role z l.to_host) r b.in_order in
    let is = take_sure s l ts x xs a (comes_first l x xs r b) k in (
      λ p q. ap (sure_turns s c) list
          ∙ (no_more (core_take e x.frame ts) s c
          ∙ rest_sure s (sure_turns s c (core_take e x.frame ts)) who m (took e x.frame) ts is p (spared_parts u v (subst P some q)).1),
      ap (λ (z : Link). is_open z.controller.side.role) next
          ∙ (ap is_open (turned_role (took e x.frame) ts) ∙ took_open_of_settling e l.host.side.role x xs l.to_host wires k),
    ))
  where
    c : CoreLink
    c = core_of l

    no_more : (es : List CoreEndEvent) (n : Bool) (d : CoreLink) → sure_turns n d (es ++ []) ≡ sure_turns n d es
    no_more [] n d = refl
    no_more (e ∷ es) n d = no_more es (sure_here n d e) (core_happens_here d e)

cut_spares : (s : Bool) (who : End) (l : Link) (ts : List Turn) → is_open l.controller.side.role ≡ true
    → Stands (step_entries who l NextFrame ts CutOff)
    → Spares (step_entries who l NextFrame ts CutOff) s (sure_turns s (core_of l) (core_step l NextFrame ts CutOff))
    (happens_at_controller l (Step NextFrame ts CutOff))
cut_spares s who l ts k q =
    by_list l.to_controller (grind arith)
    (λ x xs r.
    let some : step_entries who l NextFrame ts CutOff ≡ taken_entries who l x xs ts CutOff = rw r refl in
    let m : Link = left_after l x xs in
    let u : List Entry = told_of who (record l.controller { took = m.controller.took }) (Take x.frame) in
    absurd (rest_cut u who m (took l.controller.side x.frame) ts (subst (λ z. Stands z) some q)))

-- what happens at an end
pub here_spares : (s : Bool) (who : End) (l : Link) (e : EndEvent) → IsAllowed l e → Before l → is_open l.controller.side.role ≡ true
    → Stands (here_entries who l e) → Spares (here_entries who l e) s (sure_turns s (core_of l) (core_here l e)) (happens_at_controller l e)
here_spares s who l (Lose why) a b k st = (λ p sp. (grind arith), k)
here_spares s who l (Step NextFrame ts GoesOut) a b k st = frame_spares s who l ts a.1.0 b k
here_spares s who l (Step NextFrame ts CutOff) a b k st = cut_spares s who l ts k st
here_spares s who l (Step (AsksReset window) ts ending) a b k st =
    own_spares s who l (Step (AsksReset window) ts ending) tt a b.tells (rests_of 0 0 (core_of l) b.safe) k st
here_spares s who l (Step (Starts v) ts ending) a b k st = grind arith
here_spares s who l (Step Stops ts ending) a b k st = own_spares s who l (Step Stops ts ending) tt a b.tells (rests_of 0 0 (core_of l) b.safe) k st
here_spares s who l (Step NoInput ts ending) a b k st = own_spares s who l (Step NoInput ts ending) tt a b.tells (rests_of 0 0 (core_of l) b.safe) k st
