-- A quiet session has delivered all, as it is noted: losses are told, and each step keeps what is known of both ends.
use Rattle.std.specs.Prelude.{◌||◌}
use Rattle.link_laws.proofs.Words.{Acked, ActTick, Activation, Active, AreSendableTurns, Asked, AsksReset, Bool, CanEnd, Comes, Controller, CoreActs}
use Rattle.link_laws.proofs.Words.{CoreEndEvent, CoreLink, CoreTurn, Cut, CutOff, End, EndEvent, EndState, Ending, Entry, GaveUp, GoesOut, Got, HasTick, Host}
use Rattle.link_laws.proofs.Words.{IsAllowed, IsNode, IsOwn, Link, LinkEnd, LinkInput, List, Lose, Loss, Losses, NextFrame, NoInput, Node, None, NumberedEnd}
use Rattle.link_laws.proofs.Words.{OnWire, Option, Reset, Some, Start, Starts, Step, Stop, Stops, Take, Took, Turn, Up as IsUpNow, [], act_answer, activated}
use Rattle.link_laws.proofs.Words.{after_input, aged, aged_entries, ap, append-nil, append_assoc, arith, began_by, came_up, common_steps, core_all_here}
use Rattle.link_laws.proofs.Words.{core_end, core_ending, core_happens_here, core_here, core_of, core_step, core_take, core_tick, core_tick_rest}
use Rattle.link_laws.proofs.Words.{core_ticks_or_cut, core_turned, core_turns, counts_first, ended_by, false, finished, first_lost, frames_out}
use Rattle.link_laws.proofs.Words.{happens_at_controller, has_taken, here_entries, if_so, if_up, inl, inr, is_open, is_some, is_up_with, left_after, list_any}
use Rattle.link_laws.proofs.Words.{loses_aged, map, max, most_frames, moved, nat_lt, no_losses, noted_aged, noted_all, noted_here, noted_tick, noted_turns}
use Rattle.link_laws.proofs.Words.{number_of, option_to_list, put_all, refl, report, reset_by, reset_refusal, rest_entries, sans}
use Rattle.link_laws.proofs.Words.{shdlc_ticks_at_controller as core_ticks_here, since, step_entries, steps_at_controller, subst, sym, taken_entries}
use Rattle.link_laws.proofs.Words.{tick_answer, tick_entries, ticked, ticks_at_controller, told_of, took, took_with, true, true≢false, turn_entries, turned}
use Rattle.link_laws.proofs.Words.{whole_acked, window_of, with_ended, ℕ, ◌++◌, ◌==◌, ◌∙◌, ◌∷◌, ◌≡◌, ◌⊎◌}
use Rattle.link_laws.specs.entries.Entries.Entry.{Down, Tick, Up}
use Rattle.link_laws.specs.entries.Quiet.{begins}
use Rattle.link_laws.proofs.Cases.{by_list, by_option, by_test}
use Rattle.link_laws.proofs.entries.Disturbing.{Disturbed, Grows, bad, disturbed_left, disturbed_right, flush_grows, idle_noted, out_noted, reset_noted}
use Rattle.link_laws.proofs.entries.Disturbing.{take_noted}
use Rattle.link_laws.proofs.entries.Noting.{Frame, IsPlainInput, Near, idle_finishes, plain_ended, plain_silent, reset_finishes, restart_finishes}
use Rattle.link_laws.proofs.entries.Noting.{start_restarts, stop_restarts, take_finishes, tick_finishes, turned_same}
use Rattle.link_laws.proofs.entries.Running.{Before, comes_first, frame_facts, near_of}
use Rattle.link_laws.proofs.entries.Stepping.{CanFinish, host_finished, puts_number}
use Rattle.link_laws.proofs.machine.Reports.{Reports, reset_so, shdlc_is as shdlc_moved, take_so, tick_so}
use Rattle.link_laws.proofs.machine.Sound.{Shift}
use Rattle.link_laws.proofs.messages.Project.{Tells, frames_alike, turns_mid}
use Rattle.link_laws.proofs.messages.Finishing.{core_tick_rests, rests, tick_closed, tick_open, tick_role}
use Rattle.link_laws.proofs.messages.Steps.{Rests, act_mid, tick_closes}

-- ## What was noted since a session began tells each loss of it

-- ### Since an end came up

-- an end came up with this number
abbrev pub Has : ℕ → List Entry → Type 0
Has n t = list_any (begins n) t ≡ true

has-append : (n : ℕ) (t u : List Entry) → Has n t → Has n (t ++ u)
has-append n [] u h = absurd (true≢false (sym h))
has-append n (e ∷ t) u h = by_test {P = Has n (e ∷ (t ++ u))} (begins n e) (λ q. rw q refl) (λ q. rw q ((has-append n t u) (let z = h in rw q at z)))

has_later : (n : ℕ) (t u : List Entry) → Has n u → Has n (t ++ u)
has_later n [] u h = h
has_later n (e ∷ t) u h = by_test {P = Has n (e ∷ (t ++ u))} (begins n e) (λ q. rw q refl) (λ q. rw q (has_later n t u h))

pub same_number : (n : ℕ) → (n == n) ≡ true
same_number n = grind (arith, common_steps)

has_up : (n : ℕ) (who : End) (t v : List Entry) → Has n (t ++ (Up who n ∷ v))
has_up n who t v = has_later n t (Up who n ∷ v) (let z = same_number n in rw z refl)

since-append : (n : ℕ) (t u : List Entry) → Has n t → since n (t ++ u) ≡ since n t ++ u
since-append n [] u h = absurd (true≢false (sym h))
since-append n (e ∷ t) u h = let h0 = since-append n t u in grind arith

-- what is noted behind the entry of an end is noted since the first that came up with its number
since_up : (n : ℕ) (who : End) (t v : List Entry) → Disturbed v → Disturbed (since n (t ++ (Up who n ∷ v)))
since_up n who [] v d = let z = same_number n in rw z d
since_up n who (e ∷ t) v d =
    let h0 = since n (e ∷ (t ++ (Up who n ∷ v))) in let h1 = since_up n who t v d in let h2 = disturbed_right t (Up who n ∷ v) d in grind arith

-- what is known of the session of an end
pub record Knows (t : List Entry) (n : Losses) (h : NumberedEnd) : Type 0 where
  pub has : h.side.shdlc.phase ≡ IsUpNow → Has (number_of h) t
  pub tells : h.side.shdlc.phase ≡ IsUpNow → bad n ≡ true → Disturbed (since (number_of h) t)

-- more was noted, and its session goes on
knows_more : (t u : List Entry) (n m : Losses) (h k : NumberedEnd)
    → (k.side.shdlc.phase ≡ IsUpNow → (h.side.shdlc.phase ≡ IsUpNow) × (number_of k ≡ number_of h))
    → Grows n m u → Knows t n h → Knows (t ++ u) m k
knows_more t u n m h k same grows x =
    record {
      has = λ up. let s = same up in let P : ℕ → Type 0 = λ z. Has z (t ++ u) in subst P (sym s.1) (has-append (number_of h) t u (x.has s.0));
      tells = λ up b. let s = same up in let P : ℕ → Type 0 = λ z. Disturbed (since z (t ++ u)) in subst P (sym s.1) (by s.0 (grows b));
    }
  where
    by : h.side.shdlc.phase ≡ IsUpNow → (bad n ≡ true) ⊎ Disturbed u → Disturbed (since (number_of h) (t ++ u))
    by up d =
        let P : List Entry → Type 0 = λ z. Disturbed z in
        subst P (sym (since-append (number_of h) t u (x.has up))) (which d)
      where
        which : (bad n ≡ true) ⊎ Disturbed u → Disturbed (since (number_of h) t ++ u)
        which (inl b) = disturbed_left (since (number_of h) t) u (x.tells up b)
        which (inr b) = disturbed_right (since (number_of h) t) u b

-- the end comes up: first in its session, or where the other end is up with its number
knows_new : {t : List Entry} (pre v : List Entry) (who : End) {n m : Losses} {other k : NumberedEnd} → Knows t n other
    → Grows n m (pre ++ (Up who (number_of k) ∷ v))
    → (is_up_with (core_end other) (number_of k) ≡ false → bad m ≡ true → Disturbed v)
    → Knows (t ++ (pre ++ (Up who (number_of k) ∷ v))) m k
knows_new {t} pre v who {n} {m} {other} {k} x grows first =
    record { has = λ up. has_later j t u (has_up j who pre v); tells = λ up b. go (is_up_with (core_end other) j) refl b }
  where
    j : ℕ
    j = number_of k

    u : List Entry
    u = pre ++ (Up who j ∷ v)

    alone : Disturbed v → Disturbed (since j (t ++ u))
    alone d = let P : List Entry → Type 0 = λ z. Disturbed (since j z) in subst P (append_assoc t pre (Up who j ∷ v)) (since_up j who (t ++ pre) v d)

    up_other : is_up_with (core_end other) j ≡ true → (other.side.shdlc.phase ≡ IsUpNow) × (number_of other ≡ j)
    up_other q = grind arith

    go : (b : Bool) → is_up_with (core_end other) j ≡ b → bad m ≡ true → Disturbed (since j (t ++ u))
    go false q b = alone (first q b)
    go true q b =
        let o = up_other q in
        let P : List Entry → Type 0 = λ z. Disturbed z in
        subst P (sym (since-append j t u (let P : ℕ → Type 0 = λ z. Has z t in subst P o.1 (x.has o.0)))) (which o (grows b))
      where
        which : (other.side.shdlc.phase ≡ IsUpNow) × (number_of other ≡ j) → (bad n ≡ true) ⊎ Disturbed u → Disturbed (since j t ++ u)
        which o (inl z) = let P : ℕ → Type 0 = λ y. Disturbed (since y t) in disturbed_left (since j t) u (subst P o.1 (x.tells o.0 z))
        which o (inr z) = disturbed_right (since j t) u z

-- ### A step

cut_disturbs : (who : End) (k : Link) (e : LinkEnd) (ts : List Turn) → Disturbed (rest_entries who k e ts CutOff)
cut_disturbs who k e ts = disturbed_right (turn_entries who (number_of k.controller) e ts) (Cut who ∷ []) refl

rest_grows : (n m : Losses) (who : End) (k : Link) (e : LinkEnd) (ts : List Turn) → m ≡ noted_all n (core_of k) (frames_out (turned e ts))
    → Grows n m (rest_entries who k e ts GoesOut)
rest_grows n m who k e ts q b = grind (arith, flush_grows, turned, disturbed_right, number_of)

grows_right : (n m : Losses) (u v : List Entry) → Grows n m v → Grows n m (u ++ v)
grows_right n m u v g b = grind (arith, disturbed_right)

pub noted-append : (n : Losses) (c : CoreLink) (es fs : List CoreEndEvent)
    → noted_turns n c (es ++ fs) ≡ noted_turns (noted_turns n c es) (core_all_here c es) fs
noted-append n c [] fs = refl
noted-append n c (e ∷ es) fs = noted-append (noted_here n c e) (core_happens_here c e) es fs

ending_noted : (n : Losses) (c : CoreLink) (ending : Ending) → noted_turns n c (core_ending ending) ≡ n
ending_noted n c ending = grind arith

-- what is lost as a frame is taken
pub taken_noted : (n : Losses) (l : Link) (ts : List Turn) (ending : Ending) (x : OnWire) (xs : List OnWire)
    → l.to_controller ≡ x ∷ xs → AreSendableTurns ts → Before l
    → noted_turns n (core_of l) (core_take l.controller.side x.frame ts ++ core_ending ending)
    ≡ noted_all (came_up n (core_of (left_after l x xs)) (began_by l.controller.side (Take x.frame))) (core_of (left_after l x xs))
    (frames_out (turned (took l.controller.side x.frame) ts))
taken_noted n l ts ending x xs w a b =
    let h0 = core_ending ending in let h1 = core_of l in let h2 = take_noted n l ts x xs a (comes_first l x xs w b) in grind arith

-- ## Each step keeps what is known of the sessions of both ends

-- ### What is lost in a step is noted

input_grows : (n m : Losses) (who : End) (h : NumberedEnd) (i : LinkInput) (k : Link) (f : LinkEnd) (ts : List Turn)
    → m ≡ noted_all n (core_of k) (frames_out (turned f ts))
    → Grows n m (told_of who h i ++ rest_entries who k f ts GoesOut)
input_grows n m who h i k f ts q = grows_right n m (told_of who h i) (rest_entries who k f ts GoesOut) (rest_grows n m who k f ts q)

input_cut : (n m : Losses) (who : End) (h : NumberedEnd) (i : LinkInput) (k : Link) (f : LinkEnd) (ts : List Turn)
    → Grows n m (told_of who h i ++ rest_entries who k f ts CutOff)
input_cut n m who h i k f ts b = inr (disturbed_right (told_of who h i) (rest_entries who k f ts CutOff) (cut_disturbs who k f ts))

reset_grows : (n : Losses) (who : End) (l : Link) (window : Option ℕ) (ts : List Turn) (ending : Ending) → AreSendableTurns ts → Tells l.controller
    → Grows n (noted_turns n (core_of l) (core_step l (AsksReset window) ts ending)) (step_entries who l (AsksReset window) ts ending)
reset_grows n who l window ts CutOff a h =
    let e : LinkEnd = l.controller.side in
    let i : LinkInput = Reset window in
    input_cut n (noted_turns n (core_of l) (core_step l (AsksReset window) ts CutOff)) who l.controller i (with_ended l (is_some (ended_by e i)))
    (after_input e i) ts
reset_grows n who l window ts GoesOut a h =
    by_option {P = Grows n m (step_entries who l (AsksReset window) ts GoesOut)} (reset_refusal e) (λ q.
    let c : Bool = is_some (if_up e.shdlc Asked) in
    entries_as c (reset_by e w) (rw q refl) (rw q refl)
    (input_grows n m who l.controller i (with_ended l c) (reset_by e w) ts ((grind arith) ∙ reset_noted n l w ts a h q)))
    (λ why q.
    entries_as false e (rw q refl) (rw q refl)
    (input_grows n m who l.controller i l e ts ((grind arith) ∙ idle_noted n l ts a h)))
  where
    e : LinkEnd
    e = l.controller.side

    i : LinkInput
    i = Reset window

    w : ℕ
    w = window_of e window

    m : Losses
    m = noted_turns n (core_of l) (core_step l (AsksReset window) ts GoesOut)

    entries_as : (c : Bool) (f : LinkEnd)
        → is_some (ended_by e i) ≡ c → after_input e i ≡ f → Grows n m (told_of who l.controller i ++ rest_entries who (with_ended l c) f ts GoesOut)
        → Grows n m (step_entries who l (AsksReset window) ts GoesOut)
    entries_as c f p q g =
        let P : Bool → Type 0 = λ z. Grows n m (told_of who l.controller i ++ rest_entries who (with_ended l z) (after_input e i) ts GoesOut) in
        subst P (sym p) (subst (λ z. Grows n m (told_of who l.controller i ++ rest_entries who (with_ended l c) z ts GoesOut)) (sym q) g)

-- where no frame is taken
own_grows : (n : Losses) (who : End) (l : Link) (comes : Comes) (ts : List Turn) (ending : Ending) → IsOwn (Step comes ts ending)
    → AreSendableTurns ts → Tells l.controller
    → Grows n (noted_turns n (core_of l) (core_step l comes ts ending)) (step_entries who l comes ts ending)
own_grows n who l NextFrame ts ending o a h = absurd o
own_grows n who l (AsksReset window) ts ending o a h = reset_grows n who l window ts ending a h
own_grows n who l NoInput ts CutOff o a h = λ b. inr (cut_disturbs who l l.controller.side ts)
own_grows n who l NoInput ts GoesOut o a h =
    rest_grows n (noted_turns n (core_of l) (core_step l NoInput ts GoesOut)) who l l.controller.side ts (idle_noted n l ts a h)
own_grows n who l _ ts ending o a h = λ b. inr refl

-- ### An end that is Up behind a step in which no session began

went_on : (e f : EndState) (ended began : Bool) → Shift e f ended began → began ≡ false → f.phase ≡ IsUpNow → (e.phase ≡ IsUpNow) × (ended ≡ false)
went_on e f ended began a n up = grind arith

-- what an end that is Up was before its frames went out
was_up : (k : Link) (g : LinkEnd) (ending : Ending) → CanEnd g.role ending
    → (g.shdlc.phase ≡ IsUpNow → number_of (put_all k (frames_out g)).controller ≡ number_of k.controller)
    → (finished k g ending).controller.side.shdlc.phase ≡ IsUpNow → (g.shdlc.phase ≡ IsUpNow)
    × (number_of (finished k g ending).controller ≡ number_of k.controller)
was_up k g GoesOut can number up = let p : g.shdlc.phase ≡ IsUpNow = sym (frames_alike most_frames g.shdlc).phase ∙ up in (p, number p)
was_up k g CutOff can number up = absurd (grind arith)

near_same : (l k : Link) (i : LinkInput) (ts : List Turn) (ending : Ending) → Reports l.controller.side i → began_by l.controller.side i ≡ false
    → (l.controller.side.shdlc.phase ≡ IsUpNow → is_some (ended_by l.controller.side i) ≡ false → number_of k.controller ≡ number_of l.controller)
    → CanFinish (after_input l.controller.side i) ts ending
    → (finished k (turned (after_input l.controller.side i) ts) ending).controller.side.shdlc.phase ≡ IsUpNow
    → (l.controller.side.shdlc.phase ≡ IsUpNow)
    × (number_of (finished k (turned (after_input l.controller.side i) ts) ending).controller ≡ number_of l.controller)
near_same l k i ts ending so none number finishes up =
    let e : LinkEnd = l.controller.side in
    let f : LinkEnd = after_input e i in
    let w = was_up k (turned f ts) ending finishes.can (λ u. puts_number k (frames_out (turned f ts)) (finishes.quiet u)) up in
    let on = went_on e.shdlc f.shdlc (is_some (ended_by e i)) (began_by e i) so.shift none (sym (turned_same ts f) ∙ w.0) in
    (on.0, w.1 ∙ number on.0 on.1)

-- ### Both ends

pub record Both (t : List Entry) (n : Losses) (l : Link) : Type 0 where
  pub here : Knows t n l.controller
  pub there : Knows t n l.host

-- the other end goes on
far_knows : (t u : List Entry) (n m : Losses) (h k : NumberedEnd) → k ≡ h → Grows n m u → Knows t n h → Knows (t ++ u) m k
far_knows t u n m h k q g x =
    knows_more t u n m h k (λ up. let P : NumberedEnd → Type 0 = λ z. z.side.shdlc.phase ≡ IsUpNow in (subst P q up, ap number_of q)) g x

input_knows : {t : List Entry} (u : List Entry) {n m : Losses} {l k : Link} (i : LinkInput) {ts : List Turn} {ending : Ending} → IsPlainInput l k i
    → CanFinish (after_input l.controller.side i) ts ending → Grows n m u → Both t n l
    → Both (t ++ u) m (finished k (turned (after_input l.controller.side i) ts) ending)
input_knows {t} u {n} {m} {l} {k} i {ts} {ending} plain finishes g b =
    let f : LinkEnd = turned (after_input l.controller.side i) ts in
    record {
      here = knows_more t u n m l.controller (finished k f ending).controller
          (near_same l k i ts ending plain.reports plain.none (λ a c. plain.number) finishes) g b.here;
      there = far_knows t u n m l.host (finished k f ending).host (host_finished k f ending ∙ plain.host) g b.there;
    }

idle_same : (l : Link) (ts : List Turn) (ending : Ending) → IsNode l ts ending → Near l
    → (finished l (turned l.controller.side ts) ending).controller.side.shdlc.phase ≡ IsUpNow
    → (l.controller.side.shdlc.phase ≡ IsUpNow) × (number_of (finished l (turned l.controller.side ts) ending).controller ≡ number_of l.controller)
idle_same l ts ending a n up =
    let e : LinkEnd = l.controller.side in
    let finishes = idle_finishes l ts ending a n in
    let w = was_up l (turned e ts) ending finishes.can (λ u. puts_number l (frames_out (turned e ts)) (finishes.quiet u)) up in
    (sym (turned_same ts e) ∙ w.0, w.1)

own_knows : {t : List Entry} {n : Losses} (who : End) (l : Link) (comes : Comes) (ts : List Turn) (ending : Ending) → IsOwn (Step comes ts ending)
    → IsNode l ts ending → Near l → Both t n l
    → Both (t ++ step_entries who l comes ts ending) (noted_turns n (core_of l) (core_step l comes ts ending)) (steps_at_controller l comes ts ending)
own_knows {t} {n} who l comes ts ending o a x b = go comes o
  where
    e : LinkEnd
    e = l.controller.side

    go : (comes : Comes) → IsOwn (Step comes ts ending)
        → Both (t ++ step_entries who l comes ts ending) (noted_turns n (core_of l) (core_step l comes ts ending)) (steps_at_controller l comes ts ending)
    go NextFrame o = absurd o
    go (AsksReset window) o =
        let c : Bool = is_some (ended_by e (Reset window)) in
        input_knows (step_entries who l (AsksReset window) ts ending) (Reset window) (plain_ended l c (reset_so e window x.sound) refl)
        (reset_finishes l window ts ending a x) (own_grows n who l (AsksReset window) ts ending tt a.0 x.tells) b
    go (Starts v) o =
        let r = start_restarts e v x.sound in
        input_knows (step_entries who l (Starts v) ts ending) (Start v) (plain_silent l (after_input e (Start v)) r.reports r.none)
        (restart_finishes l ts ending a x r) (own_grows n who l (Starts v) ts ending tt a.0 x.tells) b
    go Stops o =
        let r = stop_restarts e x.sound in
        input_knows (step_entries who l Stops ts ending) Stop (plain_silent l (after_input e Stop) r.reports r.none) (restart_finishes l ts ending a x r)
        (own_grows n who l Stops ts ending tt a.0 x.tells) b
    go NoInput o =
        let g = own_grows n who l NoInput ts ending tt a.0 x.tells in
        let u : List Entry = step_entries who l NoInput ts ending in
        let m : Losses = noted_turns n (core_of l) (core_step l NoInput ts ending) in
        record {
          here = knows_more t u n m l.controller (steps_at_controller l NoInput ts ending).controller (idle_same l ts ending a x) g b.here;
          there = far_knows t u n m l.host (steps_at_controller l NoInput ts ending).host (host_finished l (turned e ts) ending) g b.there;
        }

-- ### A frame is taken

taken_knows : {t : List Entry} {n : Losses} (who : End) (l : Link) (x : OnWire) (xs : List OnWire) (ts : List Turn) (ending : Ending)
    → l.to_controller ≡ x ∷ xs → IsNode l ts ending → Before l → Both t n l
    → Both (t ++ taken_entries who l x xs ts ending)
    (noted_all (came_up n (core_of (left_after l x xs)) (began_by l.controller.side (Take x.frame))) (core_of (left_after l x xs))
    (frames_out (turned (took l.controller.side x.frame) ts))) (has_taken l x xs ts ending)
taken_knows {t} {n} who l x xs ts ending w a b both = go (began_by e i) refl
  where
    e : LinkEnd
    e = l.controller.side

    i : LinkInput
    i = Take x.frame

    f : LinkEnd
    f = after_input e i

    k : Link
    k = left_after l x xs

    h : NumberedEnd
    h = record l.controller { took = took_with l.controller.took x }

    m : Losses
    m = noted_all (came_up n (core_of k) (began_by e i)) (core_of k) (frames_out (turned f ts))

    rest : List Entry
    rest = rest_entries who k f ts ending

    u : List Entry
    u = taken_entries who l x xs ts ending

    fr : Frame l x ts
    fr = frame_facts l ts a.0 b x xs w

    -- lost before, or noted
    grows : Grows n m u
    grows = by ending
      where
        by : (ending : Ending) → Grows n m (taken_entries who l x xs ts ending)
        by CutOff = input_cut n m who h i k f ts
        by GoesOut = λ z. which (input_grows (came_up n (core_of k) (began_by e i)) m who h i k f ts refl z)
          where
            which : (bad (came_up n (core_of k) (began_by e i)) ≡ true) ⊎ Disturbed (told_of who h i ++ rest_entries who k f ts GoesOut)
                → (bad n ≡ true) ⊎ Disturbed (taken_entries who l x xs ts GoesOut)
            which (inl z) = inl (let h0 = (core_of k) in let h1 = (began_by e i) in grind arith)
            which (inr z) = inr z

    host : (c : Bool) → (with_ended (record l { to_controller = xs }) c).host ≡ l.host
    host c = grind arith

    c : Bool
    c = is_some (ended_by e i)

    m' : Link
    m' = has_taken l x xs ts ending

    finishes : CanFinish f ts ending
    finishes = take_finishes l x ts ending a (near_of l b) fr

    there : Knows (t ++ u) m m'.host
    there = far_knows t u n m l.host m'.host (host_finished k (turned f ts) ending ∙ host c) grows both.there

    go : (y : Bool) → began_by e i ≡ y → Both (t ++ u) m m'
    go false q =
        record {
          here = knows_more t u n m l.controller m'.controller
              (near_same l k i ts ending (take_so e x.frame b.sound) q (λ up z. (grind arith) ∙ ap (max l.controller.emitted) (fr.same up z))
              finishes) grows both.here;
          there = there;
        }
    go true q = record { here = record { has = λ up. (at_j (up_number up)).has up; tells = λ up z. (at_j (up_number up)).tells up z }; there = there }
      where
        j : ℕ
        j = number_of h

        pre : List Entry
        pre = Took who x.frame ∷ map (Down who) (option_to_list (report e i).ended)

        tail : List Entry
        tail =
            if_so (report e i).became_active (Active who)
            ++ (map (GaveUp who) (option_to_list (report e i).gave_up)
            ++ (if_so (nat_lt 0 (report e i).acked) (Acked who j (whole_acked f)) ++ map (Got who j) (report e i).got))

        v : List Entry
        v = tail ++ rest

        parts : u ≡ pre ++ (Up who j ∷ v)
        parts =
            ap (λ z. Took who x.frame ∷ (z ++ rest)) (ap (λ y. map (Down who) (option_to_list (report e i).ended) ++ (if_so y (Up who j) ++ tail)) q)
            ∙ ap (λ z. Took who x.frame ∷ z) (append_assoc (map (Down who) (option_to_list (report e i).ended)) (Up who j ∷ tail) rest)

        -- the frames of this step
        first : is_up_with (core_end l.host) j ≡ false → bad m ≡ true → Disturbed v
        first alone z = disturbed_right tail rest (by ending)
          where
            lone : came_up n (core_of k) (began_by e i) ≡ no_losses
            lone =
                ap (came_up n (core_of k)) q
                ∙ (grind arith)

            by : (ending : Ending) → Disturbed (rest_entries who k f ts ending)
            by CutOff = cut_disturbs who k f ts
            by GoesOut = which (rest_grows (came_up n (core_of k) (began_by e i)) m who k f ts refl z)
              where
                which : (bad (came_up n (core_of k) (began_by e i)) ≡ true) ⊎ Disturbed (rest_entries who k f ts GoesOut)
                    → Disturbed (rest_entries who k f ts GoesOut)
                which (inl y) = absurd (let r : bad no_losses ≡ true = ap bad (sym lone) ∙ y in true≢false (sym r))
                which (inr y) = y

        -- the end with its number
        up_number : m'.controller.side.shdlc.phase ≡ IsUpNow → number_of m'.controller ≡ j
        up_number up = (was_up k (turned f ts) ending finishes.can (λ _. puts_number k (frames_out (turned f ts)) fr.quiet) up).1 ∙ (grind arith)

        at_j : (number_of m'.controller ≡ j) → Knows (t ++ u) m m'.controller
        at_j r =
            let Q : List Entry → Type 0 = λ z. Grows n m z in
            let split : u ≡ pre ++ (Up who (number_of m'.controller) ∷ v) = parts ∙ ap (λ z. pre ++ (Up who z ∷ v)) (sym r) in
            let R : ℕ → Type 0 = λ z. is_up_with (core_end l.host) z ≡ false → bad m ≡ true → Disturbed v in
            subst (λ z. Knows (t ++ z) m m'.controller) (sym split) (knows_new pre v who both.there (subst Q split grows) (subst R (sym r) first))

frame_knows : (t : List Entry) (n : Losses) (who : End) (l : Link) (ts : List Turn) (ending : Ending) → IsNode l ts ending → Before l → Both t n l
    → Both (t ++ step_entries who l NextFrame ts ending) (noted_turns n (core_of l) (core_step l NextFrame ts ending))
    (steps_at_controller l NextFrame ts ending)
frame_knows t n who l ts ending a b both =
    by_list l.to_controller (λ q.
    let z = none q in
    as_is (step_entries who l NextFrame ts ending) [] (noted_turns n (core_of l) (core_step l NextFrame ts ending)) n
    (steps_at_controller l NextFrame ts ending) l z.0 z.1 z.2 (let P : List Entry → Type 0 = λ z. Both z n l in subst P (sym (append-nil t)) both))
    (λ x xs q.
    let k : Losses = noted_all (came_up n (core_of (left_after l x xs)) (began_by l.controller.side (Take x.frame))) (core_of (left_after l x xs))
    (frames_out (turned (took l.controller.side x.frame) ts)) in
    as_is (step_entries who l NextFrame ts ending) (taken_entries who l x xs ts ending) (noted_turns n (core_of l) (core_step l NextFrame ts ending)) k
    (steps_at_controller l NextFrame ts ending) (has_taken l x xs ts ending) (rw q refl) (ap (noted_turns n (core_of l)) (list x xs q)
    ∙ taken_noted n l ts ending x xs q a.0 b) (rw q refl)
    (taken_knows who l x xs ts ending q a b both))
  where
    as_is : (u v : List Entry) (m k : Losses) (x y : Link) → u ≡ v → m ≡ k → x ≡ y → Both (t ++ v) k y → Both (t ++ u) m x
    as_is u v m k x y p q r h = grind arith

    none : l.to_controller ≡ [] → (step_entries who l NextFrame ts ending ≡ []) × (noted_turns n (core_of l) (core_step l NextFrame ts ending) ≡ n)
        × (steps_at_controller l NextFrame ts ending ≡ l)
    none q = (rw q refl, rw q refl, rw q refl)

    list : (x : OnWire) (xs : List OnWire) → l.to_controller ≡ x ∷ xs → core_step l NextFrame ts ending
        ≡ core_take l.controller.side x.frame ts ++ core_ending ending
    list x xs q = rw q refl

-- ## A quiet session has delivered all, as it is noted

-- ### Ticks

-- the flags after the tick of an end
abbrev pub tick_flags : Losses → Link → Node → Losses
tick_flags n l node =
    let t : Option (List CoreTurn) = core_tick l.controller.side node.turns node.ending in
    noted_turns (noted_tick n t (core_of l)) (core_ticks_or_cut t (core_of l)) (core_tick_rest l.controller.side node.turns node.ending)

tick_grows : (n : Losses) (who : End) (l : Link) (ts : List Turn) (ending : Ending) → AreSendableTurns ts → Tells l.controller → Rests l.controller.side.shdlc
    → Grows n (tick_flags n l (record { turns = ts; ending = ending })) (tick_entries who l (record { turns = ts; ending = ending }))
tick_grows n who l ts CutOff a h r =
    input_cut n (tick_flags n l (record { turns = ts; ending = CutOff })) who l.controller HasTick (with_ended l (is_some (ended_by l.controller.side HasTick)))
    (after_input l.controller.side HasTick) ts
tick_grows n who l ts GoesOut a h r = go (is_open e.role) refl
  where
    e : LinkEnd
    e = l.controller.side

    c : CoreLink
    c = core_of l

    node : Node
    node = record { turns = ts; ending = GoesOut }

    m : Losses
    m = tick_flags n l node

    flags : Option (List CoreTurn) → List CoreEndEvent → Losses
    flags t us = noted_turns (noted_tick n t c) (core_ticks_or_cut t c) us

    entries_as : (b : Bool) (f : LinkEnd) → is_some (ended_by e HasTick) ≡ b → after_input e HasTick ≡ f
        → Grows n m (told_of who l.controller HasTick ++ rest_entries who (with_ended l b) f ts GoesOut) → Grows n m (tick_entries who l node)
    entries_as b f p q g =
        let P : Bool → Type 0 = λ z. Grows n m (told_of who l.controller HasTick ++ rest_entries who (with_ended l z) (after_input e HasTick) ts GoesOut) in
        subst P (sym p) (subst (λ z. Grows n m (told_of who l.controller HasTick ++ rest_entries who (with_ended l b) z ts GoesOut)) (sym q) g)

    go : (o : Bool) → is_open e.role ≡ o → Grows n m (tick_entries who l node)
    go true o =
        let t = tick_open e o in
        let b : Bool = is_some (tick_answer e.shdlc).ended in
        let f : LinkEnd = moved e b (ticked e.shdlc) in
        let us : List CoreTurn = core_turns f ts in
        let tm = turns_mid None f ts a (grind arith) in
        let s : EndState = core_turned (ticked e.shdlc) us in
        let is : (turned f ts).shdlc ≡ s = tm.is ∙ ap (λ z. core_turned z us) (shdlc_moved e b (ticked e.shdlc)) in
        let first : core_tick e ts GoesOut ≡ Some us = rw o refl ∙ ap (λ (g : LinkEnd). Some (core_turns g ts)) t.0 in
        let rest : core_tick_rest e ts GoesOut ≡ [] = rw o refl in
        let flag : m ≡ noted_all n (core_of (with_ended l b)) (frames_out (turned f ts)) = grind arith in
        entries_as b f t.1 t.0 (input_grows n m who l.controller HasTick (with_ended l b) f ts flag)
    go false o =
        let t = tick_closed e o in
        let f : LinkEnd = activated e ActTick in
        let act : Option Activation = (act_answer e.role ActTick).send in
        let mid = act_mid e ActTick h.now r.due (λ z. absurd (true≢false (sym z ∙ tick_closes e.role o))) (λ z. h.now.closed (tick_role e.role z)) in
        let us : List CoreTurn = core_turns f ts in
        let tm = turns_mid act f ts a mid.mid in
        let s : EndState = core_turned e.shdlc us in
        let is : (turned f ts).shdlc ≡ s = tm.is ∙ ap (λ z. core_turned z us) mid.same in
        let first : core_tick e ts GoesOut ≡ Some [] = rw o refl in
        let rest : core_tick_rest e ts GoesOut ≡ CoreActs (option_to_list act) us ∷ [] = grind arith in
        let p = h.now.closed o in
        let flag : m ≡ noted_all n c (frames_out (turned f ts)) =
        (ap (λ z. flags z (core_tick_rest e ts GoesOut)) first ∙ ap (flags (Some [])) rest)
        ∙ (ap (λ z. noted_here z (core_ticks_here c []) (CoreActs (option_to_list act) us)) (grind arith)
        ∙ (ap (λ z. noted_here n z (CoreActs (option_to_list act) us)) (core_tick_rests c p r)
        ∙ out_noted n c act (turned f ts) s tm.mid.acts is)) in
        entries_as false f (ap (λ z. is_some z) t.1 ∙ (rw (tick_closes e.role o) refl)) t.0 (input_grows n m who l.controller HasTick l f ts flag)
      where
        acts_rest : is_open e.role ≡ false → core_tick_rest e ts GoesOut
            ≡ CoreActs (option_to_list (act_answer e.role ActTick).send) (core_turns (after_input e HasTick) ts) ∷ []
        acts_rest o = rw o refl

pub tick_knows : (t : List Entry) (n : Losses) (who : End) (l : Link) (node : Node) → IsNode l node.turns node.ending → Near l → Both t n l
    → Both (t ++ tick_entries who l node) (tick_flags n l node) (ticks_at_controller l node.turns node.ending)
tick_knows t n who l node a x b =
    let e : LinkEnd = l.controller.side in
    input_knows (tick_entries who l node) HasTick (plain_ended l (is_some (ended_by e HasTick)) (tick_so e x.sound) refl) (tick_finishes l node a x)
    (tick_grows n who l node.turns node.ending a.0 x.tells x.rests) b

-- a frame that is too old is noted
aged_disturbs : (who : End) (w : List OnWire) → loses_aged (sans w) ≡ true → Disturbed (aged_entries who w)
aged_disturbs who [] q = absurd (true≢false (sym q))
aged_disturbs who (x ∷ xs) q = let h0 = aged_disturbs who xs in grind arith

aged_grows : (n : Losses) (l : Link) → Grows n (noted_aged n (core_of l)) (Tick ∷ (aged_entries Controller l.to_controller ++ aged_entries Host l.to_host))
aged_grows n l q = go n.lost n.rnr (loses_aged (sans l.to_controller)) (loses_aged (sans l.to_host)) refl refl refl refl
  where
    go : (a b x y : Bool) → n.lost ≡ a → n.rnr ≡ b → loses_aged (sans l.to_controller) ≡ x → loses_aged (sans l.to_host) ≡ y
        → (bad n ≡ true) ⊎ Disturbed (Tick ∷ (aged_entries Controller l.to_controller ++ aged_entries Host l.to_host))
    go true b x y p r s t = inl (rw p refl)
    go false true x y p r s t = inl (rw (p, r) refl)
    go false false true y p r s t =
        inr (disturbed_left (aged_entries Controller l.to_controller) (aged_entries Host l.to_host) (aged_disturbs Controller l.to_controller s))
    go false false false true p r s t =
        inr (disturbed_right (aged_entries Controller l.to_controller) (aged_entries Host l.to_host) (aged_disturbs Host l.to_host t))
    go false false false false p r s t = absurd (let z : false ≡ true = rw (p, r, s, t) at q in cc)

pub aged_knows : (t : List Entry) (n : Losses) (l : Link) → Both t n l
    → Both (t ++ (Tick ∷ (aged_entries Controller l.to_controller ++ aged_entries Host l.to_host))) (noted_aged n (core_of l)) (aged l)
aged_knows t n l b =
    let u : List Entry = Tick ∷ (aged_entries Controller l.to_controller ++ aged_entries Host l.to_host) in
    record {
      here = knows_more t u n (noted_aged n (core_of l)) l.controller l.controller (λ up. (up, refl)) (aged_grows n l) b.here;
      there = knows_more t u n (noted_aged n (core_of l)) l.host l.host (λ up. (up, refl)) (aged_grows n l) b.there;
    }

-- ### Events at one end

lose_knows : (t : List Entry) (n : Losses) (who : End) (l : Link) (why : Loss) → Both t n l
    → Both (t ++ here_entries who l (Lose why)) (noted_turns n (core_of l) (core_here l (Lose why))) (happens_at_controller l (Lose why))
lose_knows t n who l why b =
    let u : List Entry = first_lost who why l.to_controller in
    let m : Losses = record n { lost = n.lost || counts_first l.to_controller } in
    record {
      here = knows_more t u n m l.controller l.controller (λ up. (up, refl)) (grind arith) b.here;
      there = knows_more t u n m l.host l.host (λ up. (up, refl)) (grind arith) b.there;
    }

pub here_knows : (t : List Entry) (n : Losses) (who : End) (l : Link) (e : EndEvent) → IsAllowed l e → Before l → Both t n l
    → Both (t ++ here_entries who l e) (noted_turns n (core_of l) (core_here l e)) (happens_at_controller l e)
here_knows t n who l (Lose why) a b h = lose_knows t n who l why h
here_knows t n who l (Step NextFrame ts ending) a b h = frame_knows t n who l ts ending a.1 b h
here_knows t n who l (Step (AsksReset window) ts ending) a b h = own_knows who l (AsksReset window) ts ending tt a.1 (near_of l b) h
here_knows t n who l (Step (Starts v) ts ending) a b h = own_knows who l (Starts v) ts ending tt a.1 (near_of l b) h
here_knows t n who l (Step Stops ts ending) a b h = own_knows who l Stops ts ending tt a.1 (near_of l b) h
here_knows t n who l (Step NoInput ts ending) a b h = own_knows who l NoInput ts ending tt a.1 (near_of l b) h

pub own_step_knows : (t : List Entry) (n : Losses) (l : Link) (e : EndEvent) → IsOwn e → IsAllowed l e → Near l → Both t n l
    → Both (t ++ here_entries Controller l e) (noted_turns n (core_of l) (core_here l e)) (happens_at_controller l e)
own_step_knows t n l (Lose why) o a x b = absurd o
own_step_knows t n l (Step comes ts ending) o a x b = own_knows Controller l comes ts ending o a.1 x b
