-- What is noted of a step holds the frames that it sends and the messages that it brings, as they are over fragments.
use Rattle.std.specs.Prelude.{is_some, nat_lt, ◌||◌}
use Rattle.world_laws.proofs.Words.{Acked, ActEvent, ActStart, ActStop, Active, AllKeepPower, AreSendableTurns, AsksReset, Bool, Comes, ComesFirst, Control}
use Rattle.world_laws.proofs.Words.{CoreDeliver, CoreEndEvent, CoreReset, CoreTurns, Cut, CutOff, EndEvent, Ending, FromHost, GaveUp, GoesOut, Got, IsAllowed}
use Rattle.world_laws.proofs.Words.{IsOwn, Link, LinkEnd, LinkInput, List, Lose, Message, NextFrame, NoInput, NumberedEnd, OnWire, Option, Report, Reset, Rests}
use Rattle.world_laws.proofs.Words.{Start, Starts, Step, Stop, Stops, Take, TapReport, Tells, Turn, [], activated, after_input, aged_entries, ap, append-nil}
use Rattle.world_laws.proofs.Words.{arith, by_list, by_option, by_test, core_ending, core_first, core_happens_here, core_here, core_of, core_restart, core_step}
use Rattle.world_laws.proofs.Words.{core_take, core_turns, deactivated, emitted_turns, ended_by, false, far, frames_by, frames_heard, frames_out, got_by}
use Rattle.world_laws.proofs.Words.{got_turns, gots_noted, here_entries, if_so, is_clf, is_cut, left_after, length, list_any, map, moved, number_of}
use Rattle.world_laws.proofs.Words.{option_to_list, or_parts, pushed_out, put, put_entries, puts_entries, refl, report, reports_to, reset_by, reset_refusal}
use Rattle.world_laws.proofs.Words.{rest_entries, restart_entries, silent, started, step_entries, stopped, subst, sym, taken_entries, told, told_of, took_with}
use Rattle.world_laws.proofs.Words.{true, turn, turn_entries, turn_entry, turned, whole_acked, window_of, wire_with, with_ended, ℕ, ◌++◌, ◌∙◌, ◌∷◌, ◌≡◌}
use Rattle.link_laws.proofs.messages.ActsInOrder.{LinkInOrder, IsPolite, polite_of}
use Rattle.link_laws.specs.entries.Entries.{End, Entry}
use Rattle.link_laws.specs.entries.Entries.Entry.{Up, Down, Emit}
use Rattle.world_laws.proofs.entries.Sending.{AreWritten, Sends, got_now, idle_sends, numbered, reset_sends, restart_sends, take_sends}

-- ## Entries

-- the frames and the messages that are noted
pub record Notes (t : List Entry) (fs : List (Bool × Control)) (rs : List TapReport) : Type 0 where
  pub frames : frames_heard t ≡ fs
  pub gots : gots_noted t ≡ rs

frames-append : (t u : List Entry) → frames_heard (t ++ u) ≡ frames_heard t ++ frames_heard u
frames-append [] u = refl
frames-append (Emit who c ∷ t) u = ap (λ z. (is_clf who, c) ∷ z) (frames-append t u)
frames-append (_ ∷ t) u = frames-append t u

gots-append : (t u : List Entry) → gots_noted (t ++ u) ≡ gots_noted t ++ gots_noted u
gots-append [] u = refl
gots-append (Got who n m ∷ t) u = ap (λ z. record { to_clf = is_clf who; session = n; pipe = m.0; body = m.1 } ∷ z) (gots-append t u)
gots-append (_ ∷ t) u = gots-append t u

pub notes_then : (t u : List Entry) (fs gs : List (Bool × Control)) (rs ss : List TapReport) → Notes t fs rs → Notes u gs ss
    → Notes (t ++ u) (fs ++ gs) (rs ++ ss)
notes_then t u fs gs rs ss a b =
    record {
      frames = frames-append t u ∙ (ap (λ z. z ++ frames_heard u) a.frames ∙ ap (λ z. fs ++ z) b.frames);
      gots = gots-append t u ∙ (ap (λ z. z ++ gots_noted u) a.gots ∙ ap (λ z. rs ++ z) b.gots);
    }

-- nothing of both is noted
abbrev pub Silent : List Entry → Type 0
Silent t = Notes t [] []

pub silent_none : Silent []
silent_none = record { frames = refl; gots = refl }

silent_so : (b : Bool) (e : Entry) → Silent (e ∷ []) → Silent (if_so b e)
silent_so b e s = grind arith

silent_all : {X : Type 0} (f : X → Entry) (xs : List X) → ((x : X) → Silent (f x ∷ [])) → Silent (map f xs)
silent_all f [] s = silent_none
silent_all f (x ∷ xs) s = notes_then (f x ∷ []) (map f xs) [] [] [] [] (s x) (silent_all f xs s)

notes_got : (who : End) (n : ℕ) (ms : List Message) → Notes (map (Got who n) ms) [] (reports_to (is_clf who) (numbered n ms))
notes_got who n [] = record { frames = refl; gots = refl }
notes_got who n (m ∷ ms) =
    let more = notes_got who n ms in
    record { frames = more.frames; gots = ap (λ z. record { to_clf = is_clf who; session = n; pipe = m.0; body = m.1 } ∷ z) more.gots }

notes_told : (who : End) (n : ℕ) (r : Report) (acked : ℕ) → Notes (told who n r acked) [] (reports_to (is_clf who) (numbered n r.got))
notes_told who n r acked =
    let rs : List TapReport = reports_to (is_clf who) (numbered n r.got) in
    let g : List Entry = map (Got who n) r.got in
    let a : List Entry = if_so (nat_lt 0 r.acked) (Acked who n acked) in
    let b : List Entry = map (GaveUp who) (option_to_list r.gave_up) in
    let c : List Entry = if_so r.became_active (Active who) in
    let d : List Entry = if_so r.began (Up who n) in
    let e : List Entry = map (Down who) (option_to_list r.ended) in
    notes_then e (d ++ (c ++ (b ++ (a ++ g)))) [] [] [] rs (silent_all (Down who) (option_to_list r.ended) (λ x. record { frames = refl; gots = refl }))
    (notes_then d (c ++ (b ++ (a ++ g))) [] [] [] rs (silent_so r.began (Up who n) (record { frames = refl; gots = refl }))
    (notes_then c (b ++ (a ++ g)) [] [] [] rs (silent_so r.became_active (Active who) (record { frames = refl; gots = refl }))
    (notes_then b (a ++ g) [] [] [] rs (silent_all (GaveUp who) (option_to_list r.gave_up) (λ x. record { frames = refl; gots = refl }))
    (notes_then a g [] [] [] rs (silent_so (nat_lt 0 r.acked) (Acked who n acked) (record { frames = refl; gots = refl })) (notes_got who n r.got)))))

notes_turns : (who : End) (n : ℕ) (e : LinkEnd) (ts : List Turn) → Silent (turn_entries who n e ts)
notes_turns who n e [] = silent_none
notes_turns who n e (t ∷ ts) =
    notes_then (turn_entry who n e t) (turn_entries who n (turn e t) ts) [] [] [] [] (grind arith) (notes_turns who n (turn e t) ts)

silent_pushed : (who : End) (w : List OnWire) → Silent (pushed_out who w)
silent_pushed who w = by_test (nat_lt 64 (length w)) (λ q. rw q (grind arith)) (λ q. rw q silent_none)

pub silent_aged : (who : End) (w : List OnWire) → Silent (aged_entries who w)
silent_aged who [] = silent_none
silent_aged who (x ∷ xs) = let h0 = silent_aged who xs in grind arith

notes_puts : (who : End) (l : Link) (cs : List Control) → Notes (puts_entries who l cs) (frames_by (is_clf who) cs) []
notes_puts who l [] = record { frames = refl; gots = refl }
notes_puts who l (c ∷ cs) =
    let p = silent_pushed (far who) (wire_with l c) in
    let one : Notes (put_entries who l c) ((is_clf who, c) ∷ []) [] = record { frames = ap (λ z. (is_clf who, c) ∷ z) p.frames; gots = p.gots } in
    notes_then (put_entries who l c) (puts_entries who (put l c) cs) ((is_clf who, c) ∷ []) (frames_by (is_clf who) cs) [] [] one (notes_puts who (put l c) cs)

pub notes_rest : (who : End) (l : Link) (e : LinkEnd) (ts : List Turn)
    → Notes (rest_entries who l e ts GoesOut) (frames_by (is_clf who) (frames_out (turned e ts))) []
notes_rest who l e ts =
    notes_then (turn_entries who (number_of l.controller) e ts) (puts_entries who l (frames_out (turned e ts))) [] (frames_by (is_clf who) (frames_out
    (turned e ts))) [] []
    (notes_turns who (number_of l.controller) e ts) (notes_puts who l (frames_out (turned e ts)))

-- what is told of an input, and what goes out then
pub notes_input : (who : End) (h : NumberedEnd) (i : LinkInput) (l : Link) (e : LinkEnd) (ts : List Turn)
    → Notes (told_of who h i ++ rest_entries who l e ts GoesOut) (frames_by (is_clf who) (frames_out (turned e ts)))
    (reports_to (is_clf who) (numbered (number_of h) (got_by h.side i)))
notes_input who h i l e ts =
    let rs : List TapReport = reports_to (is_clf who) (numbered (number_of h) (got_by h.side i)) in
    let n = notes_then (told_of who h i) (rest_entries who l e ts GoesOut) [] (frames_by (is_clf who) (frames_out (turned e ts))) rs []
    (notes_told who (number_of h) (report h.side i) (whole_acked (after_input h.side i))) (notes_rest who l e ts) in
    record { frames = n.frames; gots = n.gots ∙ append-nil rs }

-- ## No cut

abbrev pub NoCut : List Entry → Type 0
NoCut t = list_any is_cut t ≡ false

any-append : (t u : List Entry) → list_any is_cut (t ++ u) ≡ (list_any is_cut t || list_any is_cut u)
any-append [] u = refl
any-append (e ∷ t) u = by_test (is_cut e) (λ q. rw q refl) (λ q. rw q (any-append t u))

pub no_cut_parts : (t u : List Entry) → NoCut (t ++ u) → NoCut t × NoCut u
no_cut_parts t u q = let p = or_parts (list_any is_cut t) (list_any is_cut u) (sym (any-append t u) ∙ q) in (p.0, p.1)

-- a step that is cut off is noted
pub cut_noted : (who : End) (l : Link) (e : LinkEnd) (ts : List Turn) → NoCut (rest_entries who l e ts CutOff) → ⊥
cut_noted who l e ts q =
    let p = (no_cut_parts (turn_entries who (number_of l.controller) e ts) (Cut who ∷ []) q).1 in let z : true ≡ false = p in cc

-- ## Steps

-- what is noted of a step at the controller's end, which is that of these events over fragments
pub record StepNotes (who : End) (l : Link) (es : List CoreEndEvent) (t : List Entry) : Type 0 where
  pub notes : Notes t (frames_by (is_clf who) (emitted_turns (core_of l) es)) (reports_to (is_clf who) (got_turns (core_of l) es))
  pub power : AllKeepPower es
  pub written : AreWritten (emitted_turns (core_of l) es)

noted : (who : End) (l : Link) (es : List CoreEndEvent) (t : List Entry) (out : List Control) (told : List (ℕ × ℕ × List ℕ)) → Sends l es out told
    → Notes t (frames_by (is_clf who) out) (reports_to (is_clf who) told) → AllKeepPower es → StepNotes who l es t
noted who l es t out told s n p = grind arith

pub notes_same : (who : End) (l : Link) (es fs : List CoreEndEvent) (t u : List Entry) → es ≡ fs → t ≡ u → StepNotes who l fs u → StepNotes who l es t
notes_same who l es fs t u p q s = grind arith

-- what is known of a link before a step that may take a frame
pub record Ready (l : Link) : Type 0 where
  pub tells : Tells l.controller
  pub host : Tells l.host
  pub in_order : LinkInOrder l
  pub rests : Rests l.controller.side.shdlc
  pub from : FromHost (core_happens_here (core_of l) (CoreDeliver []))

-- a reset
reset_notes : (who : End) (l : Link) (window : Option ℕ) (ts : List Turn) → AreSendableTurns ts → Tells l.controller
    → StepNotes who l (core_step l (AsksReset window) ts GoesOut) (step_entries who l (AsksReset window) ts GoesOut)
reset_notes who l window ts a h = by_option (reset_refusal e)
    (λ q. let is : after_input e (Reset window) ≡ reset_by e w = rw q refl in
    let fs : List CoreEndEvent = CoreReset w (core_turns (reset_by e w) ts) ∷ [] in
    notes_same who l es fs t t (grind arith) refl
    (noted who l fs t (frames_out (turned (reset_by e w) ts)) [] (reset_sends l w ts a h q) (notes (reset_by e w) is) (tt, tt)))
    (λ why q. let is : after_input e (Reset window) ≡ e = rw q refl in
    let fs : List CoreEndEvent = CoreTurns (core_turns e ts) ∷ [] in
    notes_same who l es fs t t (grind arith) refl
    (noted who l fs t (frames_out (turned e ts)) [] (idle_sends l ts a h) (notes e is) (tt, tt)))
  where
    e : LinkEnd
    e = l.controller.side

    w : ℕ
    w = window_of e window

    es : List CoreEndEvent
    es = core_step l (AsksReset window) ts GoesOut

    t : List Entry
    t = step_entries who l (AsksReset window) ts GoesOut

    notes : (f : LinkEnd) → after_input e (Reset window) ≡ f → Notes t (frames_by (is_clf who) (frames_out (turned f ts))) []
    notes f q =
        let n = notes_input who l.controller (Reset window) (with_ended l (is_some (ended_by e (Reset window)))) (after_input e (Reset window)) ts in
        record { frames = n.frames ∙ ap (λ g. frames_by (is_clf who) (frames_out (turned g ts))) q; gots = n.gots }

-- activation begins or ends
restart_notes : (who : End) (l : Link) (i : LinkInput) (event : ActEvent) (ts : List Turn) → AreSendableTurns ts → Tells l.controller
    → (e : LinkEnd) → e ≡ activated (moved l.controller.side true (stopped l.controller.side.shdlc)) event → after_input l.controller.side i ≡ e
    → got_by l.controller.side i ≡ []
    → StepNotes who l (core_restart l.controller.side event e ts GoesOut) (restart_entries who l i ts GoesOut)
restart_notes who l i event ts a h e is after none =
    let f : LinkEnd = activated (moved l.controller.side true (stopped l.controller.side.shdlc)) event in
    let n = notes_input who l.controller i (silent l (after_input l.controller.side i)) (after_input l.controller.side i) ts in
    let t : List Entry = restart_entries who l i ts GoesOut in
    let fs : List CoreEndEvent = core_restart l.controller.side event f ts GoesOut in
    notes_same who l (core_restart l.controller.side event e ts GoesOut) fs t t (ap (λ z. core_restart l.controller.side event z ts GoesOut) is) refl
    (noted who l fs t (frames_out (turned f ts)) [] (restart_sends l event ts a h)
    (record {
      frames = n.frames ∙ ap (λ z. frames_by (is_clf who) (frames_out (turned z ts))) (after ∙ is);
      gots = n.gots ∙ ap (λ z. reports_to (is_clf who) (numbered (number_of l.controller) z)) none;
    }) (tt, (tt, tt)))

-- a step that takes no frame
pub own_notes : (who : End) (l : Link) (comes : Comes) (ts : List Turn) (ending : Ending) → IsOwn (Step comes ts ending) → AreSendableTurns ts
    → Tells l.controller → NoCut (step_entries who l comes ts ending)
    → StepNotes who l (core_step l comes ts ending) (step_entries who l comes ts ending)
own_notes who l NextFrame ts ending o a h q = absurd o
own_notes who l (AsksReset window) ts GoesOut o a h q = reset_notes who l window ts a h
own_notes who l (AsksReset window) ts CutOff o a h q =
    let e : LinkEnd = l.controller.side in
    let k : Link = with_ended l (is_some (ended_by e (Reset window))) in
    absurd (cut_noted who k (after_input e (Reset window)) ts (no_cut_parts (told_of who l.controller (Reset window))
    (rest_entries who k (after_input e (Reset window)) ts CutOff) q).1)
own_notes who l (Starts v) ts GoesOut o a h q = restart_notes who l (Start v) (ActStart v) ts a h (started l.controller.side v) refl refl refl
own_notes who l (Starts v) ts CutOff o a h q =
    let e : LinkEnd = l.controller.side in
    let k : Link = silent l (after_input e (Start v)) in
    absurd (cut_noted who k (after_input e (Start v)) ts (no_cut_parts (told_of who l.controller (Start v))
    (rest_entries who k (after_input e (Start v)) ts CutOff) q).1)
own_notes who l Stops ts GoesOut o a h q = restart_notes who l Stop ActStop ts a h (deactivated l.controller.side) refl refl refl
own_notes who l Stops ts CutOff o a h q =
    let e : LinkEnd = l.controller.side in
    let k : Link = silent l (after_input e Stop) in
    absurd (cut_noted who k (after_input e Stop) ts (no_cut_parts (told_of who l.controller Stop)
    (rest_entries who k (after_input e Stop) ts CutOff) q).1)
own_notes who l NoInput ts GoesOut o a h q =
    noted who l (CoreTurns (core_turns l.controller.side ts) ∷ []) (rest_entries who l l.controller.side ts GoesOut) (frames_out
    (turned l.controller.side ts)) []
    (idle_sends l ts a h) (notes_rest who l l.controller.side ts) (tt, tt)
own_notes who l NoInput ts CutOff o a h q = absurd (cut_noted who l l.controller.side ts q)

-- a step that takes a frame
frame_notes : (who : End) (l : Link) (ts : List Turn) (ending : Ending) → AreSendableTurns ts → Ready l → NoCut (step_entries who l NextFrame ts ending)
    → StepNotes who l (core_step l NextFrame ts ending) (step_entries who l NextFrame ts ending)
frame_notes who l ts ending a b q = by_list l.to_controller
    (λ w. notes_same who l es [] t [] (none_core w) (rw w refl) (record { notes = record { frames = refl; gots = refl }; power = tt; written = tt }))
    (λ x xs w. let P : List Entry → Type 0 = λ z. NoCut z in
    notes_same who l es (core_take e x.frame ts ++ core_ending ending) t (taken_entries who l x xs ts ending) (rw w refl) (some_entries x xs w)
    (by x xs w ending (subst P (some_entries x xs w) q)))
  where
    e : LinkEnd
    e = l.controller.side

    es : List CoreEndEvent
    es = core_step l NextFrame ts ending

    t : List Entry
    t = step_entries who l NextFrame ts ending

    none_core : l.to_controller ≡ [] → es ≡ []
    none_core w = rw w refl

    some_entries : (x : OnWire) (xs : List OnWire) → l.to_controller ≡ x ∷ xs → t ≡ taken_entries who l x xs ts ending
    some_entries x xs w = rw w refl

    by : (x : OnWire) (xs : List OnWire) → l.to_controller ≡ x ∷ xs → (ending : Ending) → NoCut (taken_entries who l x xs ts ending)
        → StepNotes who l (core_take e x.frame ts ++ core_ending ending) (taken_entries who l x xs ts ending)
    by x xs w CutOff q =
        let n : NumberedEnd = record l.controller { took = took_with l.controller.took x } in
        let f : LinkEnd = after_input e (Take x.frame) in
        absurd (cut_noted who (left_after l x xs) f ts (no_cut_parts (told_of who n (Take x.frame)) (rest_entries who (left_after l x xs) f ts CutOff) q).1)
    by x xs w GoesOut q =
        let comes : ComesFirst l x xs = record {
          first = w;
          polite = subst (IsPolite e) w (polite_of e l.host.side.role l.to_controller l.to_host b.in_order b.tells.now.closed);
          tells = b.tells;
          host = b.host;
          rests = b.rests;
          from = subst FromHost (core_first (core_of l) [] x xs w) b.from;
        } in
        let n : NumberedEnd = record l.controller { took = took_with l.controller.took x } in
        let f : LinkEnd = after_input e (Take x.frame) in
        let u : List Entry = taken_entries who l x xs ts GoesOut in
        let is = notes_input who n (Take x.frame) (left_after l x xs) f ts in
        notes_same who l (core_take e x.frame ts ++ []) (core_take e x.frame ts) u u (append-nil (core_take e x.frame ts)) refl
        (noted who l (core_take e x.frame ts) u (frames_out (turned f ts)) (got_now l x) (take_sends l ts x xs a comes)
        (record { frames = is.frames; gots = is.gots }) (grind arith))

-- whatever happens at the controller's end
pub here_notes : (who : End) (l : Link) (e : EndEvent) → IsAllowed l e → Ready l → NoCut (here_entries who l e)
    → StepNotes who l (core_here l e) (here_entries who l e)
here_notes who l (Lose why) a b q = record { notes = grind arith; power = (tt, tt); written = tt }
here_notes who l (Step NextFrame ts ending) a b q = frame_notes who l ts ending a.1.0 b q
here_notes who l (Step comes ts ending) a b q = own_notes who l comes ts ending tt a.1.0 b.tells q
