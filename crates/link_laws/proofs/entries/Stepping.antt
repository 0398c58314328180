-- What is noted of a step of one end says what is kept of its sessions, and never more is acknowledged than sent.
use Rattle.link_laws.proofs.Words.{Acked, Active, AreSendableInputs, AreSendableTurns, AsksReset, Bool, CanEnd, Comes, Control, CutOff, Emit, End, EndState}
use Rattle.link_laws.proofs.Words.{Ending, Entry, FromNode, GaveUp, GoesOut, Got, IsFrontOf, Link, LinkEnd, LinkInput, LinkState, List, Loss, Message}
use Rattle.link_laws.proofs.Words.{NextFrame, NoInput, NumberedEnd, OnWire, Report, Reset, Role, Start, Starts, Stop, Stops, Take, TooMany, Turn, Up as IsUpNow}
use Rattle.link_laws.proofs.Words.{[], acked_noted, after_frames, after_input, ap, append_assoc, arith, becomes, began_by, cond, cut, ended_by, ended_talk}
use Rattle.link_laws.proofs.Words.{ending_entries, far, fetched, finished, first_lost, frames_out, if_so, inl, inr, is_some, is_up, left_after, length}
use Rattle.link_laws.proofs.Words.{length-append, map, max, most_frames, nat_lt, new_link_end, number_of, option_to_list, pushed_out, put, put_all, put_entries}
use Rattle.link_laws.proofs.Words.{puts_entries, refl, renewed, report, rest_entries, sent_all, sent_noted, silent, step_entries, subst, suc, sym}
use Rattle.link_laws.proofs.Words.{taken_entries, talk_now, talk_of, told, told_of, took_with, true, turn, turn_entries, turn_entry, turned, whole_acked}
use Rattle.link_laws.proofs.Words.{wire_with, with_controller, with_ended, zero, ℕ, ◌++◌, ◌==◌, ◌∙◌, ◌∷◌, ◌≡◌, ◌≤◌, ◌⊎◌}
use Rattle.link_laws.specs.entries.Entries.Entry.{Down, Up}
use Rattle.link_laws.proofs.Cases.{by_list, by_test}
use Rattle.link_laws.proofs.entries.Books.{Book, Input, IsSendableTurn, Silent, Told, blank, blank-plus, book_of, plus, read, read-append, same_far}
use Rattle.link_laws.proofs.entries.Books.{silent-append, silent_cons, told_far, told_input, told_same, told_silent, told_turn, turn_far, with_side}
use Rattle.link_laws.proofs.machine.Runs.{Sound, fetched_data, sound_turn}
use Rattle.link_laws.proofs.machine.Sound.{whole_few}
use Rattle.link_laws.proofs.messages.Project.{NoRset, beside-put_all, frames_alike, puts_none}

-- ## Fronts of what is noted of a step: of one end alone, and never more acknowledged than sent

-- ### Fronts

-- a front of two lists one after another is a front of the first, or goes on in the second
pub front_parts : {X : Type 0} (p u v : List X) → IsFrontOf p (u ++ v) → IsFrontOf p u ⊎ ((q : List X) × (p ≡ u ++ q) × IsFrontOf q v)
front_parts p [] v f = inr (p, refl, f)
front_parts [] (x ∷ u) v f = inl (x ∷ u, refl)
front_parts (y ∷ p) (x ∷ u) v f =
    let same : y ≡ x = cc in
    let h0 = front_parts p u v (f.0, cc) in grind arith

-- ### Entries of one end

-- each of these says nothing of the messages of the other end
abbrev pub OfOne : End → List Entry → Type 0
OfOne who [] = Unit {0}
OfOne who (e ∷ t) = ((n : ℕ) → read (e ∷ []) (far who) n ≡ blank) × OfOne who t

pub one-append : (who : End) (t u : List Entry) → OfOne who t → OfOne who u → OfOne who (t ++ u)
one-append who [] u a b = b
one-append who (e ∷ t) u a b = (a.0, one-append who t u a.1 b)

one_front : (who : End) (p r : List Entry) → OfOne who (p ++ r) → OfOne who p
one_front who [] r a = tt
one_front who (e ∷ p) r a = (a.0, one_front who p r a.1)

one_read : (who : End) (t : List Entry) → OfOne who t → (n : ℕ) → read t (far who) n ≡ blank
one_read who [] a n = refl
one_read who (e ∷ t) a n =
    read-append (e ∷ []) t (far who) n ∙ (ap (λ b. plus b (read t (far who) n)) (a.0 n) ∙ (blank-plus (read t (far who) n) ∙ one_read who t a.1 n))

-- a front of entries of one end says nothing of the other
pub front_read : (who : End) (p u : List Entry) → IsFrontOf p u → OfOne who u → (n : ℕ) → read p (far who) n ≡ blank
front_read who p u f a n =
    let P : List Entry → Type 0 = λ z. OfOne who z in one_read who p (one_front who p f.0 (subst P (sym f.1) a)) n

one_got : (who : End) (k : ℕ) (ms : List Message) → OfOne who (map (Got who k) ms)
one_got who k [] = tt
one_got who k (m ∷ ms) = ((λ n. let w = same_far who in rw w refl), one_got who k ms)

one_told : (who : End) (k : ℕ) (r : Report) (acked : ℕ) → OfOne who (told who k r acked)
one_told who k r acked =
    let e = one-append who (if_so (nat_lt 0 r.acked) (Acked who k acked)) (map (Got who k) r.got)
    (grind arith) (one_got who k r.got) in
    one-append who (map (Down who) (option_to_list r.ended))
    (if_so r.began (Up who k) ++ (if_so r.became_active (Active who)
    ++ (map (GaveUp who) (option_to_list r.gave_up) ++ (if_so (nat_lt 0 r.acked) (Acked who k acked) ++ map (Got who k) r.got))))
    (grind arith) (grind arith)

one_turn : (who : End) (k : ℕ) (e : LinkEnd) (t : Turn) → OfOne who (turn_entry who k e t)
one_turn who k e t = grind arith

one_turns : (who : End) (k : ℕ) (e : LinkEnd) (ts : List Turn) → OfOne who (turn_entries who k e ts)
one_turns who k e [] = tt
one_turns who k e (t ∷ ts) = one-append who (turn_entry who k e t) (turn_entries who k (turn e t) ts) (one_turn who k e t) (one_turns who k (turn e t) ts)

-- ### No more acknowledged than sent

-- as far as it was noted
abbrev pub Few : List Entry → End → Type 0
Few t who = (n : ℕ) → acked_noted t who n ≤ length (sent_noted t who n)

-- at each moment of these entries behind those
abbrev pub AllFew : List Entry → End → List Entry → Type 0
AllFew t who u = (p : List Entry) → IsFrontOf p u → Few (t ++ p) who

pub few_told : (t : List Entry) (who : End) (h : NumberedEnd) → Told t who h → Few t who
few_told t who h b n =
    let q = b n in
    let l = ap (λ (ms : List Message). length ms) (ap (λ (z : Book). z.sent) q) in
    omega (arith, (ap (λ (z : Book). z.acked) q), l, whole_few (talk_of h n).sent (talk_of h n).session.acked)

sent-append : (t u : List Entry) (who : End) (n : ℕ) → sent_noted (t ++ u) who n ≡ sent_noted t who n ++ sent_noted u who n
sent-append t u who n = ap (λ (z : Book). z.sent) (read-append t u who n)

acked-append : (t u : List Entry) (who : End) (n : ℕ) → acked_noted (t ++ u) who n ≡ max (acked_noted t who n) (acked_noted u who n)
acked-append t u who n = ap (λ (z : Book). z.acked) (read-append t u who n)

-- each of these acknowledges nothing
abbrev pub NoAcked : List Entry → Type 0
NoAcked [] = Unit {0}
NoAcked (e ∷ t) = ((who : End) (n : ℕ) → acked_noted (e ∷ []) who n ≡ 0) × NoAcked t

no_acked-append : (t u : List Entry) → NoAcked t → NoAcked u → NoAcked (t ++ u)
no_acked-append [] u a b = b
no_acked-append (e ∷ t) u a b = (a.0, no_acked-append t u a.1 b)

no_acked_front : (p r : List Entry) → NoAcked (p ++ r) → NoAcked p
no_acked_front [] r a = tt
no_acked_front (e ∷ p) r a = (a.0, no_acked_front p r a.1)

no_acked_read : (t : List Entry) → NoAcked t → (who : End) (n : ℕ) → acked_noted t who n ≡ 0
no_acked_read [] a who n = refl
no_acked_read (e ∷ t) a who n = let q = acked-append (e ∷ []) t who n in let z = a.0 who n in let y = no_acked_read t a.1 who n in omega (arith, q, z, y)

pub few_more : (t : List Entry) (who : End) (u : List Entry) → Few t who → NoAcked u → AllFew t who u
few_more t who u f a p q n =
    let s = ap (λ (ms : List Message). length ms) (sent-append t p who n) in
    let l = length-append (sent_noted t who n) (sent_noted p who n) in
    omega (arith, (no_acked_read p (no_acked_front p q.0 (subst (λ z. NoAcked z) (sym q.1) a)) who n), f n, s, l, acked-append t p who n)

-- each of these gives no message
abbrev NoSent : List Entry → Type 0
NoSent [] = Unit {0}
NoSent (e ∷ t) = ((who : End) (n : ℕ) → sent_noted (e ∷ []) who n ≡ []) × NoSent t

no_sent-append : (t u : List Entry) → NoSent t → NoSent u → NoSent (t ++ u)
no_sent-append [] u a b = b
no_sent-append (e ∷ t) u a b = (a.0, no_sent-append t u a.1 b)

no_sent_front : (p r : List Entry) → NoSent (p ++ r) → NoSent p
no_sent_front [] r a = tt
no_sent_front (e ∷ p) r a = (a.0, no_sent_front p r a.1)

no_sent_read : (t : List Entry) → NoSent t → (who : End) (n : ℕ) → sent_noted t who n ≡ []
no_sent_read [] a who n = refl
no_sent_read (e ∷ t) a who n = sent-append (e ∷ []) t who n ∙ (ap (λ ms. ms ++ sent_noted t who n) (a.0 who n) ∙ no_sent_read t a.1 who n)

few_grown : (t : List Entry) (who : End) (u : List Entry) → Few (t ++ u) who → NoSent u → AllFew t who u
few_grown t who u f a p q n =
    let mine = no_sent_read p (no_sent_front p q.0 (subst (λ z. NoSent z) (sym q.1) a)) who n in
    let v = ap (λ (ms : List Message). length ms) (sent-append t u who n ∙ ap (λ ms. sent_noted t who n ++ ms) (no_sent_read u a who n)) in
    let k = acked-append t p who n in
    let m = acked-append t u who n in
    let w = acked-append p q.0 who n in
    let x = ap (λ z. acked_noted z who n) q.1 in
    omega (arith, f n, (ap (λ (ms : List Message). length ms) (sent-append t p who n ∙ ap (λ ms. sent_noted t who n ++ ms) mine)), v, k, m, w, x)

pub few_then : (t : List Entry) (who : End) (u v : List Entry) → AllFew t who u → AllFew (t ++ u) who v → AllFew t who (u ++ v)
few_then t who u v a b p f = go (front_parts p u v f)
  where
    P : List Entry → Type 0
    P z = Few z who

    go : IsFrontOf p u ⊎ ((q : List Entry) × (p ≡ u ++ q) × IsFrontOf q v) → Few (t ++ p) who
    go (inl g) = a p g
    go (inr g) = subst P (append_assoc t u g.0 ∙ ap (λ z. t ++ z) (sym g.1)) (b g.0 g.2)

no_sent_got : (who : End) (k : ℕ) (ms : List Message) → NoSent (map (Got who k) ms)
no_sent_got who k [] = tt
no_sent_got who k (m ∷ ms) = ((λ w n. refl), no_sent_got who k ms)

no_sent_told : (who : End) (k : ℕ) (r : Report) (acked : ℕ) → NoSent (told who k r acked)
no_sent_told who k r acked =
    let e = no_sent-append (if_so (nat_lt 0 r.acked) (Acked who k acked)) (map (Got who k) r.got)
    (grind arith) (no_sent_got who k r.got) in
    no_sent-append (map (Down who) (option_to_list r.ended))
    (if_so r.began (Up who k) ++ (if_so r.became_active (Active who)
    ++ (map (GaveUp who) (option_to_list r.gave_up) ++ (if_so (nat_lt 0 r.acked) (Acked who k acked) ++ map (Got who k) r.got))))
    (grind arith) (grind arith)

no_acked_turns : (who : End) (k : ℕ) (e : LinkEnd) (ts : List Turn) → NoAcked (turn_entries who k e ts)
no_acked_turns who k e [] = tt
no_acked_turns who k e (t ∷ ts) =
    no_acked-append (turn_entry who k e t) (turn_entries who k (turn e t) ts) (grind arith) (no_acked_turns who k (turn e t) ts)

-- ## What is noted of a step of an end says what is kept of its sessions

-- ### Turns

sendable_first : (t : Turn) (ts : List Turn) → AreSendableTurns (t ∷ ts) → IsSendableTurn t × AreSendableTurns ts × AreSendableInputs (FromNode t ∷ [])
sendable_first t ts a = grind arith

pub told_turns : (ts : List Turn) (t : List Entry) (who : End) (h : NumberedEnd) → AreSendableTurns ts → Sound h.side → Told t who h
    → Told (t ++ turn_entries who (number_of h) h.side ts) who (with_side h (turned h.side ts))
told_turns [] t who h a s b = told_silent t [] who h (λ w n. refl) b
told_turns (x ∷ ts) t who h a s b =
    let p = sendable_first x ts a in
    let k : NumberedEnd = with_side h (turn h.side x) in
    let more = told_turns ts (t ++ turn_entry who (number_of h) h.side x) who k p.1 (sound_turn h.side x p.2 s) (told_turn t who h x p.0 s.is b) in
    let P : List Entry → Type 0 = λ u. Told u who (with_side h (turned h.side (x ∷ ts))) in
    subst P (append_assoc t (turn_entry who (number_of h) h.side x) (turn_entries who (number_of h) (turn h.side x) ts)) more

far_turns : (ts : List Turn) (t : List Entry) (who : End) (k : ℕ) (e : LinkEnd) (h : NumberedEnd) → Told t (far who) h
    → Told (t ++ turn_entries who k e ts) (far who) h
far_turns [] t who k e h b = told_silent t [] (far who) h (λ w n. refl) b
far_turns (x ∷ ts) t who k e h b =
    let more = far_turns ts (t ++ turn_entry who k e x) who k (turn e x) h (turn_far t who k e x h b) in
    subst (λ u. Told u (far who) h) (append_assoc t (turn_entry who k e x) (turn_entries who k (turn e x) ts)) more

pub sound_turns : (ts : List Turn) (e : LinkEnd) → AreSendableTurns ts → Sound e → Sound (turned e ts)
sound_turns [] e a s = s
sound_turns (t ∷ ts) e a s = let p = sendable_first t ts a in sound_turns ts (turn e t) p.1 (sound_turn e t p.2 s)

-- ### Frames go out

pub silent_first : (who : End) (why : Loss) (w : List OnWire) → Silent (first_lost who why w)
silent_first who why w x n = grind arith

silent_puts : (cs : List Control) (who : End) (l : Link) → Silent (puts_entries who l cs)
silent_puts [] who l = λ x n. refl
silent_puts (c ∷ cs) who l =
    silent-append (put_entries who l c) (puts_entries who _ cs)
    (silent_cons (Emit who c) (pushed_out (far who) (wire_with l c)) (λ x n. refl) (λ x n. grind arith))
    (silent_puts cs who _)

pub fetched_acked : (n : ℕ) (e : EndState) → (after_frames n e).session.acked ≡ e.session.acked
fetched_acked zero e = refl
fetched_acked (suc n) e = let h0 = fetched_acked n (fetched e) in grind arith

sent_book : (e : LinkEnd) → book_of (talk_now (sent_all e)) ≡ book_of (talk_now e)
sent_book e = let a = frames_alike most_frames e.shdlc in let b = fetched_acked most_frames e.shdlc in rw (a.acc, b) refl

pub sound_sent : (e : LinkEnd) → Sound e → Sound (sent_all e)
sound_sent e s = go most_frames (record e { acts = [] }) (grind arith)
  where
    go : (n : ℕ) (f : LinkEnd) → Sound f → Sound (record f { shdlc = after_frames n f.shdlc })
    go zero f h = h
    go (suc n) f h = go n (record f { shdlc = fetched f.shdlc }) (fetched_data f f.acts h)

-- where no RSET goes out the number stays
pub puts_number : (l : Link) (cs : List Control) → NoRset cs → number_of (put_all l cs).controller ≡ number_of l.controller
puts_number l cs a = ap (λ (m : Link). number_of m.controller) (puts_none cs l a)

-- an end that has become e and sent all that was due
sent_told : (t : List Entry) (who : End) (l : Link) (e : LinkEnd) → (e.shdlc.phase ≡ IsUpNow → NoRset (frames_out e)) → Told t who (with_side l.controller e)
    → Told t who (becomes l e).controller
sent_told t who l e none b =
    told_same t who (with_side l.controller e) (becomes l e).controller (frames_alike most_frames e.shdlc).phase (beside-put_all (frames_out e) l).past
    (λ up. puts_number l (frames_out e) (none up)) (sent_book e) b

-- one whose node lost power before that
cut_told : (t : List Entry) (who : End) (l : Link) (e : LinkEnd) → CanEnd e.role CutOff → Told t who (with_side l.controller e)
    → Told t who (cut (with_controller l (sent_all e))).controller
cut_told t who l e can b n = b n ∙ go e.shdlc.phase refl e.role refl can
  where
    f : LinkEnd
    f = sent_all e

    phase : f.shdlc.phase ≡ e.shdlc.phase
    phase = (frames_alike most_frames e.shdlc).phase

    -- the end that is new
    at : Bool → Role → NumberedEnd
    at c r =
        record (with_ended (with_controller l f) c).controller { side = new_link_end (renewed r) }

    new_down : (c : Bool) (r : Role) → CanEnd r CutOff → talk_of (at c r) n ≡ ended_talk (at c r).past n
    new_down c r can = grind arith

    up_past : (r : Role) → book_of (talk_of (with_side l.controller e) n)
        ≡ book_of (cond (n == number_of l.controller) (talk_now e) (ended_talk l.controller.past n))
        → book_of (cond (n == number_of l.controller) (talk_now e) (ended_talk l.controller.past n)) ≡ book_of (ended_talk (at true r).past n)
    up_past r z = by_test (n == number_of l.controller) (λ q. rw q (sym (sent_book e))) (λ q. rw q refl)

    up : e.shdlc.phase ≡ IsUpNow → CanEnd e.role CutOff
        → book_of (talk_of (with_side l.controller e) n) ≡ book_of (talk_of (cut (with_controller l f)).controller n)
    up p can =
        let z : book_of (talk_of (with_side l.controller e) n) ≡ book_of
        (cond (n == number_of l.controller) (talk_now e) (ended_talk l.controller.past n)) = grind arith in
        let is : is_up f.shdlc.phase ≡ true = ap is_up (phase ∙ p) in
        z ∙ (up_past e.role z ∙ ap book_of (sym (new_down true e.role can) ∙ ap (λ c. talk_of (at c e.role) n) (sym is)))

    go : (p : LinkState) → e.shdlc.phase ≡ p → (r : Role) → e.role ≡ r → CanEnd e.role CutOff
        → book_of (talk_of (with_side l.controller e) n) ≡ book_of (talk_of (cut (with_controller l f)).controller n)
    go IsUpNow p r q can = up p can
    go _ p r q can = let h0 = (ap is_up (phase ∙ p)) in grind arith

silent_ending : (who : End) (l : Link) (e : LinkEnd) (ending : Ending) → Silent (ending_entries who l e ending)
silent_ending who l e GoesOut = silent_puts (frames_out e) who l
silent_ending who l e CutOff = λ x n. refl

no_acked_puts : (cs : List Control) (who : End) (l : Link) → NoAcked (puts_entries who l cs)
no_acked_puts [] who l = tt
no_acked_puts (c ∷ cs) who l =
    let h0 = no_acked-append (put_entries who l c) (puts_entries who (put l c) cs) ((λ w n. refl), grind arith) (no_acked_puts cs who (put l c)) in grind arith

no_acked_ending : (who : End) (l : Link) (e : LinkEnd) (ending : Ending) → NoAcked (ending_entries who l e ending)
no_acked_ending who l e GoesOut = no_acked_puts (frames_out e) who l
no_acked_ending who l e CutOff = ((λ w n. refl), tt)

-- and are of one end
one_lost : (who : End) (b : Bool) (w : List OnWire) → OfOne who (cond b (first_lost (far who) TooMany w) [])
one_lost who b w = grind arith

one_puts : (cs : List Control) (who : End) (l : Link) → OfOne who (puts_entries who l cs)
one_puts [] who l = tt
one_puts (c ∷ cs) who l =
    one-append who (put_entries who l c) (puts_entries who (put l c) cs)
    ((λ n. refl), one_lost who (nat_lt 64 (length (wire_with l c))) (wire_with l c)) (one_puts cs who (put l c))

one_ending : (who : End) (l : Link) (e : LinkEnd) (ending : Ending) → OfOne who (ending_entries who l e ending)
one_ending who l e GoesOut = one_puts (frames_out e) who l
one_ending who l e CutOff = ((λ n. refl), tt)

pub one_input : (who : End) (l k : Link) (h : NumberedEnd) (i : LinkInput) (e : LinkEnd) (ts : List Turn) (ending : Ending)
    → OfOne who (told_of who h i ++ rest_entries who k e ts ending)
one_input who l k h i e ts ending =
    one-append who (told_of who h i) (rest_entries who k e ts ending) (one_told who (number_of h) (report h.side i) (whole_acked (after_input h.side i)))
    (grind (arith, one-append, number_of, turned, one_turns, one_ending))

-- what is noted of a step is of its end
pub one_step : (who : End) (l : Link) (comes : Comes) (ts : List Turn) (ending : Ending) → OfOne who (step_entries who l comes ts ending)
one_step who l NextFrame ts ending =
    by_list {P = OfOne who (step_entries who l NextFrame ts ending)} l.to_controller
    (λ q. let none : step_entries who l NextFrame ts ending ≡ [] = rw q refl in subst P (sym none) tt) (λ x xs q.
    subst P (sym (some x xs q)) (
      (λ n. refl),
      one_input who l (left_after l x xs) (record l.controller { took = took_with l.controller.took x })
          (Take x.frame)
          (after_input l.controller.side (Take x.frame)) ts ending,
    ))
  where
    some : (x : OnWire) (xs : List OnWire) → l.to_controller ≡ x ∷ xs → step_entries who l NextFrame ts ending ≡ taken_entries who l x xs ts ending
    some x xs q = rw q refl

    P : List Entry → Type 0
    P u = OfOne who u
one_step who l (AsksReset window) ts ending =
    one_input who l (with_ended l (is_some (ended_by l.controller.side (Reset window)))) l.controller (Reset window)
    (after_input l.controller.side (Reset window)) ts ending
one_step who l (Starts v) ts ending = (
  (λ n. refl),
  one_input who l (silent l (after_input l.controller.side (Start v))) l.controller (Start v)
      (after_input l.controller.side (Start v)) ts ending,
)
one_step who l Stops ts ending =
    ((λ n. refl), one_input who l (silent l (after_input l.controller.side Stop)) l.controller Stop (after_input l.controller.side Stop) ts ending)
one_step who l NoInput ts ending = grind (arith, one-append, number_of, turned, one_turns, one_ending)

ending_told : (t : List Entry) (who : End) (l : Link) (e : LinkEnd) (ending : Ending) → CanEnd e.role ending → (e.shdlc.phase ≡ IsUpNow → NoRset (frames_out e))
    → Told t who (with_side l.controller e) → Told (t ++ ending_entries who l e ending) who (finished l e ending).controller
ending_told t who l e GoesOut can none b =
    told_silent t (ending_entries who l e GoesOut) who (becomes l e).controller (silent_ending who l e GoesOut) (sent_told t who l e none b)
ending_told t who l e CutOff can none b =
    told_silent t (ending_entries who l e CutOff) who (cut (with_controller l (sent_all e))).controller (silent_ending who l e CutOff)
    (cut_told t who l e can b)

pub host_finished : (l : Link) (e : LinkEnd) (ending : Ending) → (finished l e ending).host ≡ l.host
host_finished l e GoesOut = (beside-put_all (frames_out e) l).host
host_finished l e CutOff = grind arith

-- ### A link

-- what was noted of both ends of a link
pub record Tolds (t : List Entry) (who : End) (l : Link) : Type 0 where
  pub here : Told t who l.controller
  pub there : Told t (far who) l.host

-- what a step noted, and that at each moment of it no more was acknowledged than sent
pub record Out (t u : List Entry) (who : End) (m : Link) : Type 0 where
  pub tolds : Tolds (t ++ u) who m
  pub few : AllFew t who u

told_at : (t : List Entry) (who : End) (h k : NumberedEnd) → k ≡ h → Told t who h → Told t who k
told_at t who h k q b = let P : NumberedEnd → Type 0 = λ z. Told t who z in subst P (sym q) b

told_list : (t u : List Entry) (who : End) (h : NumberedEnd) → t ≡ u → Told t who h → Told u who h
told_list t u who h q b = let P : List Entry → Type 0 = λ z. Told z who h in subst P q b

-- an end that is e by now can have these turns of its node, and end its step so
pub record CanFinish (e : LinkEnd) (ts : List Turn) (ending : Ending) : Type 0 where
  pub sendable : AreSendableTurns ts
  pub can : CanEnd (turned e ts).role ending
  pub quiet : (turned e ts).shdlc.phase ≡ IsUpNow → NoRset (frames_out (turned e ts))
  pub sound : Sound e

-- the turns of its node and the end of a step
pub rest_told : (t : List Entry) (who : End) (l : Link) (e : LinkEnd) (ts : List Turn) (ending : Ending) → CanFinish e ts ending
    → Told t who (with_side l.controller e) → Told t (far who) l.host → Out t (rest_entries who l e ts ending) who (finished l (turned e ts) ending)
rest_told t who l e ts ending finishes here there =
    let n : ℕ = number_of l.controller in
    let us : List Entry = turn_entries who n e ts in
    let vs : List Entry = ending_entries who l (turned e ts) ending in
    let turns = told_turns ts t who (with_side l.controller e) finishes.sendable finishes.sound here in
    let q : (t ++ us) ++ vs ≡ t ++ (us ++ vs) = append_assoc t us vs in
    record {
      tolds = record {
        here = told_list ((t ++ us) ++ vs) (t ++ (us ++ vs)) who (finished l (turned e ts) ending).controller q
            (ending_told (t ++ us) who l (turned e ts) ending finishes.can finishes.quiet turns);
        there = told_list ((t ++ us) ++ vs) (t ++ (us ++ vs)) (far who) (finished l (turned e ts) ending).host q
            (told_silent (t ++ us) vs (far who) (finished l (turned e ts) ending).host (silent_ending who l (turned e ts) ending)
            (told_at (t ++ us) (far who) l.host (finished l (turned e ts) ending).host (host_finished l (turned e ts) ending)
            (far_turns ts t who n e l.host there)));
      };
      few =
          few_more t who (us ++ vs) (few_told t who (with_side l.controller e) here)
          (no_acked-append us vs (no_acked_turns who n e ts) (no_acked_ending who l (turned e ts) ending));
    }

-- the controller's end of l, with the number of h, takes an input, and l becomes k
pub record TakesInput (l k : Link) (i : LinkInput) (h : NumberedEnd) : Type 0 where
  pub input : Input l.controller (with_side k.controller (after_input l.controller.side i)) (is_some (ended_by l.controller.side i))
      (began_by l.controller.side i) (report l.controller.side i)
  pub side : h.side ≡ l.controller.side
  pub number : number_of h ≡ number_of k.controller
  pub host : k.host ≡ l.host

-- an input, the turns and the end of a step
pub input_told : {t : List Entry} {who : End} {l k : Link} (i : LinkInput) {h : NumberedEnd} {ts : List Turn} {ending : Ending} → TakesInput l k i h
    → CanFinish (after_input l.controller.side i) ts ending → Sound l.controller.side → Tolds t who l
    → Out t (told_of who h i ++ rest_entries who k (after_input l.controller.side i) ts ending) who
    (finished k (turned (after_input l.controller.side i) ts) ending)
input_told {t} {who} {l} {k} i {h} {ts} {ending} takes finishes s b =
    let f : LinkEnd = after_input l.controller.side i in
    let e : LinkEnd = l.controller.side in
    let r : Report = report e i in
    let us : List Entry = told who (number_of k.controller) r (whole_acked f) in
    let vs : List Entry = rest_entries who k f ts ending in
    let here = told_input t who l.controller (with_side k.controller f) (is_some (ended_by e i)) (began_by e i) r takes.input s.is b.here in
    let there = told_far t who (number_of k.controller) r (whole_acked f) k.host (told_at t (far who) l.host k.host takes.host b.there) in
    let out = rest_told (t ++ us) who k f ts ending finishes here there in
    let both : Out t (us ++ vs) who (finished k (turned f ts) ending) =
    record {
      tolds = subst (λ z. Tolds z who (finished k (turned f ts) ending)) (append_assoc t us vs) out.tolds;
      few =
          few_then t who us vs (few_grown t who us (few_told (t ++ us) who (with_side k.controller f) here)
          (no_sent_told who (number_of k.controller) r (whole_acked f))) out.few;
    } in
    subst (λ z. Out t (z ++ vs) who (finished k (turned f ts) ending)) (sym (grind arith)) both

pub one_fetched_acked : (s : EndState) → (fetched s).session.acked ≡ s.session.acked
one_fetched_acked s = grind arith
