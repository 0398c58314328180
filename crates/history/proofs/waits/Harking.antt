-- What is noted of a step of an end says whether it waits for the answer to a reset.
use Rattle.std.proofs.lemmas.List.Sums.{fold-append}
use Rattle.history.proofs.Words.{Acked, Active, AreSendableTurns, Asked, AsksReset, Before, Bool, Control, CoreTurn, Cut, CutOff, Down, Due, Emit, EndEvent}
use Rattle.history.proofs.Words.{EndState, Ending, GaveUp, GoesOut, Got, HasTick, IsAllowed, IsNode, IsOwn, Link, LinkEnd, LinkInput, List, NextFrame, NoInput}
use Rattle.history.proofs.Words.{Node, None, NumberedEnd, OnWire, Option, Report, Restarted, Role, Rr_due, Rset_due, Some, Starts, Stops, Take, Turn, Up, []}
use Rattle.history.proofs.Words.{act_answer, activated, after_input, aged_entries, ap, arith, becomes, began_by, comes_first, core_turn, core_turned}
use Rattle.history.proofs.Words.{core_turns, due_left, ended_by, false, far, finished, first_none, fold, frames_of, frames_out, gave_up_by}
use Rattle.history.proofs.Words.{happens_at_controller, has_taken, here_entries, if_so, if_up, if◌then◌else◌, input_entries, is_open, is_rset, is_some}
use Rattle.history.proofs.Words.{is_waiting, left_after, list_any, map, most_frames, moved, nat_lt, near_of, new_link_end, none_out, number_of, opened}
use Rattle.history.proofs.Words.{option_to_list, put, put_entries, puts_entries, refl, renewed, report, reset_by, reset_refusal, reset_tells, reset_waits}
use Rattle.history.proofs.Words.{reset_with, rest_entries, restart_entries, restart_mid, same_far, same_link_end, same_self, silent, step_entries, stopped}
use Rattle.history.proofs.Words.{subst, sym, taken_entries, tick_answer, tick_closed, tick_entries, tick_open, ticked, ticks_at_controller, told, told_of, took}
use Rattle.history.proofs.Words.{took_with, true, true≢false, turn, turn_entries, turn_entry, turned, whole_acked, window_of, with_ended, ℕ, ◌&&◌, ◌++◌, ◌∙◌}
use Rattle.history.proofs.Words.{◌∷◌, ◌≡◌}
use Rattle.swp_act.specs.declared.ActEvent.{ActEvent}
use Rattle.swp_act.specs.declared.ActEvent.TheVariants.{Tick as ActTick}
use Rattle.shdlc_core.specs.declared.answers.LinkState.{LinkState}
use Rattle.shdlc_core.specs.declared.answers.LinkState.TheVariants.{Down as IsDown}
use Rattle.link_laws.proofs.places.Joined.{ready_cases, changed}
use Rattle.link_laws.specs.sessions.Sessions.ShdlcTurn.{Offer, SetReady}
use Rattle.link_laws.specs.machine.Machine.{Refused}
use Rattle.link_laws.specs.machine.Machine.LinkInput.{Reset}
use Rattle.link_laws.proofs.machine.Reports.{shdlc_is as shdlc_moved}
use Rattle.link_laws.specs.messages.Links.EndEvent.{Step, Lose}
use Rattle.link_laws.proofs.messages.Project.{NoAsk, NoRset, Now, frames_alike, mid_moved, none_due, ticked_keeps, turns_mid}
use Rattle.link_laws.proofs.messages.Steps.{ComesFirst, act_mid}
use Rattle.link_laws.specs.entries.Entries.{End, Entry}
use Rattle.link_laws.proofs.entries.Noting.{turned_same, Near, IsRestart, start_restarts, stop_restarts}

-- ## What is read

-- an end waits for the answer to a reset after one more entry: RSET goes out of it, its session begins, it gives up, or it begins anew
abbrev pub hark : End → Bool → Entry → Bool
hark who b (Emit w c) = if same_link_end w who && is_rset c then true else b
hark who b (Up w n) = if same_link_end w who then false else b
hark who b (GaveUp w tries) = if same_link_end w who then false else b
hark who b (Restarted w) = if same_link_end w who then false else b
hark who b (Cut w) = if same_link_end w who then false else b
hark who b _ = b

-- after these entries, one after another
abbrev pub harks : End → Bool → List Entry → Bool
harks who b t = fold (hark who) b t

-- it waits
abbrev pub waits : NumberedEnd → Bool
waits h = is_waiting h.side.shdlc

pub harks-append : (who : End) (b : Bool) (t u : List Entry) → harks who b (t ++ u) ≡ harks who (harks who b t) u
harks-append who b t u = fold-append (hark who) b t u

-- these say nothing of whether an end waits
abbrev pub Passes : End → List Entry → Type 0
Passes who t = (b : Bool) → harks who b t ≡ b

pub passes-append : (who : End) (t u : List Entry) → Passes who t → Passes who u → Passes who (t ++ u)
passes-append who t u p q b = harks-append who b t u ∙ (ap (λ z. harks who z u) (p b) ∙ q b)

passes_so : (who : End) (c : Bool) (e : Entry) → Passes who (e ∷ []) → Passes who (if_so c e)
passes_so who c e p b = grind arith

passes_map : {A : Type 0} (who : End) (f : A → Entry) (xs : List A) → ((x : A) → Passes who (f x ∷ [])) → Passes who (map f xs)
passes_map who f [] p b = refl
passes_map who f (x ∷ xs) p b = ap (λ z. harks who z (map f xs)) (p x b) ∙ passes_map who f xs p b

-- ## An input

-- what is told behind that an end gave up
abbrev told_last : End → ℕ → Report → ℕ → List Entry
told_last who n r acked = if_so (nat_lt 0 r.acked) (Acked who n acked) ++ map (Got who n) r.got

passes_last : (w who : End) (n : ℕ) (r : Report) (acked : ℕ) → Passes w (told_last who n r acked)
passes_last w who n r acked =
    passes-append w (if_so (nat_lt 0 r.acked) (Acked who n acked)) (map (Got who n) r.got)
    (passes_so w (nat_lt 0 r.acked) (Acked who n acked) (λ b. refl)) (passes_map w (Got who n) r.got (λ m b. refl))

-- nothing is told of the other end
passes_told : (who : End) (n : ℕ) (r : Report) (acked : ℕ) → Passes (far who) (told who n r acked)
passes_told who n r acked = let h0 = far who in let h1 = passes_last (far who) who n r acked in grind arith

-- an end whose session began or not, and which gave up or not
abbrev pub after_told : Bool → Bool → Bool → Bool
after_told began gave b = if gave then false else (if began then false else b)

hark_told : (who : End) (n : ℕ) (r : Report) (acked : ℕ) (b : Bool) → harks who b (told who n r acked) ≡ after_told r.began (is_some r.gave_up) b
hark_told who n r acked b =
    let gave : List Entry = map (GaveUp who) (option_to_list r.gave_up) in
    let last : List Entry = told_last who n r acked in
    let active : List Entry = if_so r.became_active (Active who) in
    let began : List Entry = if_so r.began (Up who n) in
    let first : Bool = if r.began then false else b in
    harks-append who b (map (Down who) (option_to_list r.ended)) (began ++ (active ++ (gave ++ last)))
    ∙ (ap (λ z. harks who z (began ++ (active ++ (gave ++ last)))) (passes_map who (Down who) (option_to_list r.ended) (λ x c. refl) b)
    ∙ (harks-append who b began (active ++ (gave ++ last))
    ∙ (ap (λ z. harks who z (active ++ (gave ++ last))) (grind arith)
    ∙ (harks-append who first active (gave ++ last)
    ∙ (ap (λ z. harks who z (gave ++ last)) (passes_so who r.became_active (Active who) (λ c. refl) first)
    ∙ (harks-append who first gave last
    ∙ (passes_last who who n r acked (harks who first gave) ∙ (grind arith))))))))

-- ## Turns and frames

passes_turns : (w who : End) (n : ℕ) (e : LinkEnd) (ts : List Turn) → Passes w (turn_entries who n e ts)
passes_turns w who n e [] = λ b. refl
passes_turns w who n e (t ∷ ts) =
    passes-append w (turn_entry who n e t) (turn_entries who n (turn e t) ts) (grind arith) (passes_turns w who n (turn e t) ts)

pub passes_aged : (w who : End) (xs : List OnWire) → Passes w (aged_entries who xs)
passes_aged w who [] = λ b. refl
passes_aged w who (x ∷ xs) = let h0 = passes_aged w who xs in grind arith

-- a frame that goes out
put_harked : (who : End) (l : Link) (c : Control) (b : Bool) → harks who b (put_entries who l c) ≡ (if is_rset c then true else b)
put_harked who l c b = grind arith

puts_far : (who : End) (cs : List Control) (l : Link) → Passes (far who) (puts_entries who l cs)
puts_far who [] l = λ b. refl
puts_far who (c ∷ cs) l = passes-append (far who) (put_entries who l c) (puts_entries who (put l c) cs) (λ b. grind arith) (puts_far who cs (put l c))

-- where none of them is an RSET
puts_none : (who : End) (cs : List Control) (l : Link) → NoRset cs → Passes who (puts_entries who l cs)
puts_none who [] l none = λ b. refl
puts_none who (c ∷ cs) l none =
    let h0 = put_entries who l c in let h1 = puts_entries who (put l c) cs in let h2 = puts_none who cs (put l c) none.1 in grind arith

-- where it waits already
puts_waiting : (who : End) (cs : List Control) (l : Link) → harks who true (puts_entries who l cs) ≡ true
puts_waiting who [] l = refl
puts_waiting who (c ∷ cs) l =
    let h0 = is_rset c in let h1 = put_harked who l c true in let h2 = puts_entries who (put l c) cs in let h3 = puts_waiting who cs (put l c) in grind arith

-- where one of them is an RSET
puts_some : (who : End) (cs : List Control) (l : Link) (b : Bool) → list_any is_rset cs ≡ true → harks who b (puts_entries who l cs) ≡ true
puts_some who [] l b some = absurd (true≢false (sym some))
puts_some who (c ∷ cs) l b some =
    harks-append who b (put_entries who l c) (puts_entries who (put l c) cs)
    ∙ (ap (λ z. harks who z (puts_entries who (put l c) cs)) (put_harked who l c b) ∙ by (is_rset c) refl (λ z. puts_some who cs (put l c) b z))
  where
    by : (x : Bool) → is_rset c ≡ x → (list_any is_rset cs ≡ true → harks who b (puts_entries who (put l c) cs) ≡ true)
        → harks who (if is_rset c then true else b) (puts_entries who (put l c) cs) ≡ true
    by true q later = ap (λ x. harks who (if x then true else b) (puts_entries who (put l c) cs)) q ∙ puts_waiting who cs (put l c)
    by false q later = grind arith

-- ## The end of a step

same_waiting : (a b : EndState) → a.phase ≡ b.phase → is_waiting a ≡ is_waiting b
same_waiting a b p = grind arith

-- how an end f whose node has these turns ends its step, where this was read of it before: RSET goes out, and it waits; or none goes out
data EndsSo (f : LinkEnd) (ts : List Turn) (b : Bool) : Type 0 where
  Asks : is_waiting f.shdlc ≡ true → list_any is_rset (frames_out (turned f ts)) ≡ true → EndsSo f ts b
  Quiet : b ≡ is_waiting f.shdlc → NoRset (frames_out (turned f ts)) → EndsSo f ts b

turned_waits : (l : Link) (f : LinkEnd) (ts : List Turn) → waits (becomes l (turned f ts)).controller ≡ is_waiting f.shdlc
turned_waits l f ts =
    same_waiting (becomes l (turned f ts)).controller.side.shdlc f.shdlc ((frames_alike most_frames (turned f ts).shdlc).phase ∙ turned_same ts f)

new_waits : (r : Role) → is_waiting (new_link_end (renewed r)).shdlc ≡ false
new_waits r = grind arith

rest_harked : (who : End) (l : Link) (f : LinkEnd) (ts : List Turn) (ending : Ending) (b : Bool) → EndsSo f ts b
    → harks who b (rest_entries who l f ts ending) ≡ waits (finished l (turned f ts) ending).controller
rest_harked who l f ts GoesOut b so =
    harks-append who b (turn_entries who (number_of l.controller) f ts) (puts_entries who l (frames_out (turned f ts)))
    ∙ (ap (λ z. harks who z (puts_entries who l (frames_out (turned f ts)))) (passes_turns who who (number_of l.controller) f ts b)
    ∙ (by so ∙ sym (turned_waits l f ts)))
  where
    by : EndsSo f ts b → harks who b (puts_entries who l (frames_out (turned f ts))) ≡ is_waiting f.shdlc
    by (Asks w some) = puts_some who (frames_out (turned f ts)) l b some ∙ sym w
    by (Quiet w none) = puts_none who (frames_out (turned f ts)) l none b ∙ w
rest_harked who l f ts CutOff b so =
    harks-append who b (turn_entries who (number_of l.controller) f ts) (Cut who ∷ [])
    ∙ (ap (λ z. harks who z (Cut who ∷ [])) (passes_turns who who (number_of l.controller) f ts b)
    ∙ ((let q = same_self who in rw q refl) ∙ sym (new_waits (turned f ts).role)))

rest_far : (who : End) (l : Link) (e : LinkEnd) (ts : List Turn) (ending : Ending) → Passes (far who) (rest_entries who l e ts ending)
rest_far who l e ts GoesOut =
    passes-append (far who) (turn_entries who (number_of l.controller) e ts) (puts_entries who l (frames_out (turned e ts)))
    (passes_turns (far who) who (number_of l.controller) e ts) (puts_far who (frames_out (turned e ts)) l)
rest_far who l e ts CutOff =
    passes-append (far who) (turn_entries who (number_of l.controller) e ts) (Cut who ∷ []) (passes_turns (far who) who (number_of l.controller) e ts)
    (λ b. let q = same_far who in rw q refl)

-- ## RSETs that are due

-- turns leave the RSET in front
first_due : (us : List CoreTurn) (s : EndState) (ds : List Due) → s.due ≡ Rset_due ∷ ds → (es : List Due) × ((core_turned s us).due ≡ Rset_due ∷ es)
first_due [] s ds q = (ds, q)
first_due (Offer fragments ∷ us) s ds q = first_due us (core_turn s (Offer fragments)) ds ((grind arith) ∙ q)
first_due (SetReady r ∷ us) s ds q =
    ready_cases (λ f. (es : List Due) × ((core_turned f us).due ≡ Rset_due ∷ es)) s r (first_due us s ds q) (first_due us (changed s r s.due) ds q)
    (first_due us (changed s r (s.due ++ Rr_due ∷ [])) (ds ++ Rr_due ∷ []) (ap (λ d. d ++ Rr_due ∷ []) q))

-- an RSET that is due goes out
out_some : (f : LinkEnd) (ts : List Turn) → AreSendableTurns ts → Now f → f.shdlc.due ≡ Rset_due ∷ [] → list_any is_rset (frames_out (turned f ts)) ≡ true
out_some f ts sendable now q =
    let us : List CoreTurn = core_turns f ts in
    let tm = turns_mid None f ts sendable now in
    let z : EndState = core_turned f.shdlc us in
    let frames : frames_out (turned f ts) ≡ frames_of most_frames z = grind arith in
    ap (λ y. list_any is_rset y) frames ∙ (rw (first_due us f.shdlc [] q).1 refl)

-- ## Ticks

-- an SHDLC end s has become f in a tick, gave up or not: it asks, or goes on as before, or is over
data Timed (s f : EndState) (gave : Bool) : Type 0 where
  AsksNow : is_waiting f ≡ true → f.due ≡ Rset_due ∷ [] → Timed s f gave
  Passed : after_told false gave (is_waiting s) ≡ is_waiting f → NoAsk f.due → Timed s f gave

tick_so : (l : Link) (ts : List Turn) → AreSendableTurns ts → Near l
    → EndsSo (after_input l.controller.side HasTick) ts (after_told false (is_some (gave_up_by l.controller.side HasTick)) (waits l.controller))
tick_so l ts a n = go (is_open e.role) refl
  where
    e : LinkEnd
    e = l.controller.side

    s : EndState
    s = ticked e.shdlc

    c : Bool
    c = is_some (tick_answer e.shdlc).ended

    b : Bool
    b = after_told false (is_some (tick_answer e.shdlc).gave_up) (is_waiting e.shdlc)

    open_one : is_open e.role ≡ true → Timed e.shdlc s (is_some (tick_answer e.shdlc).gave_up) → EndsSo (moved e c s) ts b
    open_one o (AsksNow w due) =
        let is = shdlc_moved e c s in
        let k : Now (moved e c s) = mid_moved e c s n.tells.now (ticked_keeps e.shdlc n.tells.now.idle) (opened e.role (s.phase ≡ IsDown) o) in
        Asks (ap is_waiting is ∙ w) (out_some (moved e c s) ts a k (ap (λ (z : EndState). z.due) is ∙ due))
    open_one o (Passed w none) =
        let is = shdlc_moved e c s in
        let k : Now (moved e c s) = mid_moved e c s n.tells.now (ticked_keeps e.shdlc n.tells.now.idle) (opened e.role (s.phase ≡ IsDown) o) in
        let Q : EndState → Type 0 = λ z. NoAsk z.due in
        Quiet (w ∙ sym (ap is_waiting is)) (none_out None (moved e c s) ts a k (subst Q (sym is) none))

    down : (t : EndState) → t.phase ≡ IsDown → is_waiting t ≡ false
    down t p = rw p refl

    go : (o : Bool) → is_open e.role ≡ o → EndsSo (after_input e HasTick) ts (after_told false (is_some (gave_up_by e HasTick)) (is_waiting e.shdlc))
    go true o =
        let is = (tick_open e o).0 in
        let P : LinkEnd → Type 0 = λ f. EndsSo f ts (after_told false (is_some (gave_up_by e HasTick)) (is_waiting e.shdlc)) in
        let Q : Bool → Type 0 = λ x. EndsSo (moved e c s) ts (after_told false x (is_waiting e.shdlc)) in
        subst P (sym is) (subst Q (sym (rw o refl)) (open_one o (grind arith)))
    go false o =
        let is = (tick_closed e o).0 in
        let closed : e.shdlc.phase ≡ IsDown = n.tells.now.closed o in
        let m = act_mid e ActTick n.tells.now n.rests.due (λ z. closed) (λ z. closed) in
        let f : LinkEnd = activated e ActTick in
        let x : Bool = is_some (gave_up_by e HasTick) in
        let P : LinkEnd → Type 0 = λ g. EndsSo g ts (after_told false x (is_waiting e.shdlc)) in
        let due : f.shdlc.due ≡ [] = ap (λ (z : EndState). z.due) m.same ∙ n.rests.due in
        subst P (sym is)
        (Quiet ((grind arith) ∙ sym (ap is_waiting m.same ∙ down e.shdlc closed))
        (none_out (act_answer e.role ActTick).send f ts a m.mid (none_due f.shdlc due)))

-- ## Resets

no_due : (p : LinkState) (due : List Due) → due ≡ [] → due_left p due ≡ []
no_due p due q = grind arith

idle_so : (l : Link) (ts : List Turn) → AreSendableTurns ts → Near l → EndsSo l.controller.side ts (waits l.controller)
idle_so l ts a n = Quiet refl (none_out None l.controller.side ts a n.tells.now (none_due l.controller.side.shdlc n.rests.due))

reset_so : (l : Link) (window : Option ℕ) (ts : List Turn) → AreSendableTurns ts → Near l
    → EndsSo (after_input l.controller.side (Reset window)) ts (waits l.controller)
reset_so l window ts a n = go (reset_refusal e) refl
  where
    e : LinkEnd
    e = l.controller.side

    w : ℕ
    w = window_of e window

    P : LinkEnd → Type 0
    P f = EndsSo f ts (is_waiting e.shdlc)

    go : (o : Option Refused) → reset_refusal e ≡ o → EndsSo (after_input e (Reset window)) ts (is_waiting e.shdlc)
    go None q =
        let is : after_input e (Reset window) ≡ reset_by e w = rw q refl in
        let moved_is = shdlc_moved e (is_some (if_up e.shdlc Asked)) (reset_with e.shdlc w) in
        subst P (sym is)
        (Asks (ap is_waiting moved_is ∙ (rw (reset_waits e.shdlc w (reset_tells e q).1) refl))
        (out_some (reset_by e w) ts a (grind arith) (ap (λ (z : EndState). z.due) moved_is ∙ (grind arith))))
    go (Some why) q = let is : after_input e (Reset window) ≡ e = rw q refl in subst P (sym is) (idle_so l ts a n)

-- ## Steps

-- a step tells whether its end waits, and nothing of the other end
pub record Harked (who : End) (l m : Link) (u : List Entry) : Type 0 where
  pub here : harks who (waits l.controller) u ≡ waits m.controller
  pub there : Passes (far who) u

-- an input of the end, which has taken an RSET with this number then, and what follows it
input_harked : (who : End) (l k : Link) (number : ℕ) (i : LinkInput) (b : Bool) (ts : List Turn) (ending : Ending)
    → EndsSo (after_input l.controller.side i) ts (after_told (began_by l.controller.side i) (is_some (gave_up_by l.controller.side i)) b)
    → (harks who b (told_of who (record l.controller { took = number }) i ++ rest_entries who k (after_input l.controller.side i) ts ending)
    ≡ waits (finished k (turned (after_input l.controller.side i) ts) ending).controller)
    × Passes (far who) (told_of who (record l.controller { took = number }) i ++ rest_entries who k (after_input l.controller.side i) ts ending)
input_harked who l k number i b ts ending so =
    let e : LinkEnd = l.controller.side in
    let f : LinkEnd = after_input e i in
    let h : NumberedEnd = record l.controller { took = number } in
    let us : List Entry = told who (number_of h) (report e i) (whole_acked f) in
    let vs : List Entry = rest_entries who k f ts ending in
    let c : Bool = after_told (began_by e i) (is_some (gave_up_by e i)) b in (
      harks-append who b us vs
          ∙ (ap (λ z. harks who z vs) (hark_told who (number_of h) (report e i) (whole_acked f) b) ∙ rest_harked who k f ts ending c so),
      passes-append (far who) us vs (passes_told who (number_of h) (report e i) (whole_acked f)) (rest_far who k f ts ending),
    )

-- an input of its own
own_input_harked : (who : End) (l : Link) (i : LinkInput) (ts : List Turn) (ending : Ending)
    → EndsSo (after_input l.controller.side i) ts
    (after_told (began_by l.controller.side i) (is_some (gave_up_by l.controller.side i)) (waits l.controller))
    → Harked who l (finished (with_ended l (is_some (ended_by l.controller.side i))) (turned (after_input l.controller.side i) ts) ending)
    (input_entries who l i ts ending)
own_input_harked who l i ts ending so =
    let both = input_harked who l (with_ended l (is_some (ended_by l.controller.side i))) l.controller.took i (waits l.controller) ts ending so in
    record { here = both.0; there = both.1 }

pub tick_harked : (who : End) (l : Link) (node : Node) → IsNode l node.turns node.ending → Near l
    → Harked who l (ticks_at_controller l node.turns node.ending) (tick_entries who l node)
tick_harked who l node a n = own_input_harked who l HasTick node.turns node.ending (tick_so l node.turns a.0 n)

-- activation begins or ends
restart_harked : (who : End) (l : Link) {i : LinkInput} {event : ActEvent} (ts : List Turn) (ending : Ending) → IsNode l ts ending → Near l
    → IsRestart l.controller.side i event → is_some (gave_up_by l.controller.side i) ≡ false
    → Harked who l (finished (silent l (after_input l.controller.side i)) (turned (after_input l.controller.side i) ts) ending)
    (restart_entries who l i ts ending)
restart_harked who l {i} {event} ts ending a n r none =
    let e : LinkEnd = l.controller.side in
    let f : LinkEnd = after_input e i in
    let g : LinkEnd = activated (moved e true (stopped e.shdlc)) event in
    let m = restart_mid e event n.tells.now in
    let out : NoRset (frames_out (turned g ts)) = none_out (act_answer e.role event).send g ts a.0 m.mid (subst (λ z. NoAsk z.due) (sym m.same) tt) in
    let R : LinkEnd → Type 0 = λ z. NoRset (frames_out (turned z ts)) in
    let told : after_told (began_by e i) (is_some (gave_up_by e i)) false ≡ false = grind arith in
    let both = input_harked who l (silent l f) l.controller.took i false ts ending (Quiet (told ∙ sym (grind arith)) (subst R (sym r.becomes) out)) in
    let us : List Entry = told_of who l.controller i ++ rest_entries who (silent l f) f ts ending in
    record {
      here = ap (λ x. harks who (if x then false else waits l.controller) us) (same_self who) ∙ both.0;
      there = λ b. ap (λ x. harks (far who) (if x then false else b) us) (same_far who) ∙ both.1 b;
    }

taken_harked : (who : End) (l : Link) (x : OnWire) (xs : List OnWire) (ts : List Turn) (ending : Ending) → IsNode l ts ending → ComesFirst l x xs
    → Harked who l (has_taken l x xs ts ending) (taken_entries who l x xs ts ending)
taken_harked who l x xs ts ending a comes =
    let both = input_harked who l (left_after l x xs) (took_with l.controller.took x) (Take x.frame) (waits l.controller) ts ending
    (Quiet (grind arith) (first_none l ts x xs a.0 comes)) in
    record { here = both.0; there = both.1 }

-- a step that takes no frame
pub own_harked : (who : End) (l : Link) (e : EndEvent) → IsOwn e → IsAllowed l e → Near l → Harked who l (happens_at_controller l e) (here_entries who l e)
own_harked who l (Lose why) o a n = absurd o
own_harked who l (Step NextFrame ts ending) o a n = absurd o
own_harked who l (Step (AsksReset window) ts ending) o a n = own_input_harked who l (Reset window) ts ending (reset_so l window ts a.1.0 n)
own_harked who l (Step (Starts v) ts ending) o a n = restart_harked who l ts ending a.1 n (start_restarts l.controller.side v n.sound) refl
own_harked who l (Step Stops ts ending) o a n = restart_harked who l ts ending a.1 n (stop_restarts l.controller.side n.sound) refl
own_harked who l (Step NoInput ts ending) o a n = record {
  here = rest_harked who l l.controller.side ts ending (waits l.controller) (idle_so l ts a.1.0 n);
  there = rest_far who l l.controller.side ts ending;
}

frame_harked : (who : End) (l : Link) (ts : List Turn) (ending : Ending) → IsNode l ts ending → Before l
    → Harked who l (happens_at_controller l (Step NextFrame ts ending)) (step_entries who l NextFrame ts ending)
frame_harked who l ts ending a b = go l.to_controller refl
  where
    m : Link
    m = happens_at_controller l (Step NextFrame ts ending)

    P : Link → Type 0
    P k = Harked who l k (step_entries who l NextFrame ts ending)

    go : (w : List OnWire) → l.to_controller ≡ w → Harked who l m (step_entries who l NextFrame ts ending)
    go [] q = grind arith
    go (x ∷ xs) q =
        let Q : List Entry → Type 0 = λ z. Harked who l (has_taken l x xs ts ending) z in
        subst P (sym (rw q refl)) (subst Q (sym (rw q refl)) (taken_harked who l x xs ts ending a (comes_first l x xs q b)))

pub here_harked : (who : End) (l : Link) (e : EndEvent) → IsAllowed l e → Before l → Harked who l (happens_at_controller l e) (here_entries who l e)
here_harked who l (Lose why) a b = grind arith
here_harked who l (Step NextFrame ts ending) a b = frame_harked who l ts ending a.1 b
here_harked who l e a b = own_harked who l e tt a (near_of l b)
