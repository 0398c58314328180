-- How many messages of the session of an end are acknowledged, as it is kept, from input to input.
use Rattle.node_ends.proofs.Words.{AreSendableInputs, Asked, Bool, Err, Fetch, FetchMessage, FromNode, Give, Hold, IsReached, IsSendable, LinkInput, LinkReport}
use Rattle.node_ends.proofs.Words.{List, Machine, Message, None, Ok, Option, Refused, Release, Reset, SetAside, Some, Start, Stop, Take, TakeBroken}
use Rattle.node_ends.proofs.Words.{TakeUnknown, Tick, Turn, [], acked_by_reset, acked_since, after_input, after_inputs, ap, arith, cond, ended_by, false}
use Rattle.node_ends.proofs.Words.{give_refusal, if_up, is_some, kept_number, length, min, new_link_end, refl, report, report_told, reset_refusal}
use Rattle.node_ends.proofs.Words.{reset_refused, reset_told, subst, sym, true, true≢false, turn, whole_acked, ℕ, ◌++◌, ◌+◌, ◌-◌, ◌<◌, ◌∙◌, ◌∷◌, ◌≡◌, ◌≤◌}
use Rattle.hcp_packet.specs.Packets.{packet_count}
use Rattle.link_laws.specs.machine.Machine.{Report, began_by, whole_among}
use Rattle.link_laws.proofs.machine.Runs.{Sound, sound, parted}
use Rattle.link_laws.proofs.machine.Sound.{SentAfter, Shift, whole_given, whole_more}
use Rattle.link_laws.proofs.machine.Sound.Shift.{Begins, Ends, Renews, Rests, Stays}
use Rattle.link_laws.proofs.machine.Reports.{Reports, take_so, tick_so, reset_so, start_so, stop_so}
use Rattle.link_end.specs.Reports.{nothing_told}
use Rattle.node_ends.proofs.Apart.{is_outside}

pub is_sound : (m : Machine) → IsReached m → Sound m
is_sound m r = let P : Machine → Type 0 = λ e. Sound e in subst P (sym r.is) (sound r.role r.inputs r.sendable)

after-append : (e : Machine) (is js : List LinkInput) → after_inputs e (is ++ js) ≡ after_inputs (after_inputs e is) js
after-append e [] js = refl
after-append e (i ∷ is) js = after-append (after_input e i) is js

joined : (i : LinkInput) (is : List LinkInput) → AreSendableInputs (i ∷ []) → AreSendableInputs is → AreSendableInputs (i ∷ is)
joined i is a b = grind arith

sendable-append : (is js : List LinkInput) → AreSendableInputs is → AreSendableInputs js → AreSendableInputs (is ++ js)
sendable-append [] js a b = b
sendable-append (i ∷ is) js a b = let p = parted i is a in joined i (is ++ js) p.0 (sendable-append is js p.1 b)

-- an end that was reached is reached after one input more
pub reached_on : (m : Machine) (i : LinkInput) → AreSendableInputs (i ∷ []) → IsReached m → IsReached (after_input m i)
reached_on m i a r = record {
  role = r.role;
  inputs = r.inputs ++ i ∷ [];
  sendable = sendable-append r.inputs (i ∷ []) r.sendable a;
  is = ap (λ e. after_input e i) r.is ∙ sym (after-append (new_link_end r.role) r.inputs (i ∷ []));
}

-- what comes from outside gives no message to the end
none_given : (i : LinkInput) → is_outside i ≡ true → AreSendableInputs (i ∷ [])
none_given i out = grind arith

pub reached_outside : (m : Machine) (i : LinkInput) → is_outside i ≡ true → IsReached m → IsReached (after_input m i)
reached_outside m i out r = reached_on m i (none_given i out) r

-- ## Turns

-- a message that is given isn't acknowledged
given_acked : (m : Machine) (x : Message) → IsSendable x → Sound m → whole_acked (turn m (Give x)) ≡ whole_acked m
given_acked m x s h = by (give_refusal m x) refl
  where
    count : 0 < packet_count (length x.1)
    count = let l = s.1 in omega (arith, l)

    whole : whole_among (m.sent ++ x ∷ []) m.shdlc.session.acked ≡ whole_acked m
    whole =
        let i = h.is.acked in let r = h.is.reached in
        whole_given m.sent x m.shdlc.session.acked count (omega (arith, (ap (λ (xs : List (List ℕ)). length xs) h.is.out), i, r))

    by : (o : Option Refused) → give_refusal m x ≡ o → whole_acked (turn m (Give x)) ≡ whole_acked m
    by None q = rw q whole
    by (Some why) q = rw q refl

held_acked : (m : Machine) (held : Bool) → whole_acked (turn m (Hold held)) ≡ whole_acked m
held_acked m held = grind arith

aside_acked : (m : Machine) → whole_acked (turn m SetAside) ≡ whole_acked m
aside_acked m = grind arith

-- what a node does to an end acknowledges none
pub turn_acked : (m : Machine) (t : Turn) → AreSendableInputs (FromNode t ∷ []) → IsReached m → whole_acked (turn m t) ≡ whole_acked m
turn_acked m (Give x) a r = given_acked m x a.0 (is_sound m r)
turn_acked m (Hold held) a r = held_acked m held
turn_acked m FetchMessage a r = refl
turn_acked m SetAside a r = aside_acked m
turn_acked m Release a r = refl

-- ## Inputs

acked_by : (e f : Machine) (ended began : Bool) → Sound e → Shift e.shdlc f.shdlc ended began → SentAfter ended e f
    → kept_number (cond ended 0 (kept_number (whole_acked e)) + (whole_acked f - whole_acked e)) ≡ kept_number (whole_acked f)
acked_by e f ended began h shift sent = go shift
  where
    Is : Bool → Type 0
    Is x = kept_number (cond x 0 (kept_number (whole_acked e)) + (whole_acked f - whole_acked e)) ≡ kept_number (whole_acked f)

    without : (x : Machine) → x.sent ≡ [] → whole_acked x ≡ 0
    without x q = rw q refl

    sent_true : (x : Bool) → x ≡ true → SentAfter x e f → f.sent ≡ []
    sent_true x z s = grind arith

    sent_false : (x : Bool) → x ≡ false → SentAfter x e f → f.sent ≡ e.sent
    sent_false x z s = grind arith

    over : ended ≡ true → Is ended
    over p = grind arith

    fresh : ended ≡ false → e.sent ≡ [] → Is ended
    fresh p q = grind arith

    go : Shift e.shdlc f.shdlc ended began → Is ended
    go (Stays p q g) =
        let same = sent_false ended p sent in
        let now : whole_acked f ≡ whole_among e.sent f.shdlc.session.acked = ap (λ ms. whole_among ms f.shdlc.session.acked) same in
        subst Is (sym p) (at (whole_acked e) (whole_acked f)
        (let z = whole_more e.sent e.shdlc.session.acked f.shdlc.session.acked g.low in omega (arith, z, now)))
      where
        at : (a b : ℕ) → a ≤ b → min (min a 4294967295 + (b - a)) 4294967295 ≡ min b 4294967295
        at a b q = omega (arith, q)
    go (Ends p q up still s) = over p
    go (Renews p q up new) = over p
    go (Begins p q not new) = fresh p (h.is.forgot not)
    go (Rests p q not still s) = fresh p (h.is.forgot not)

input_acked : (e : Machine) (i : LinkInput) → IsReached e → (Sound e → Reports e i)
    → acked_since (kept_number (whole_acked e)) (report_told (report e i)) ≡ kept_number (whole_acked (after_input e i))
input_acked e i r reports =
    let h = is_sound e r in
    let b = reports h in
    acked_by e (after_input e i) (is_some (ended_by e i)) (began_by e i) h b.shift b.sent

-- what comes from outside
pub outside_acked : (e : Machine) (i : LinkInput) → is_outside i ≡ true → IsReached e
    → acked_since (kept_number (whole_acked e)) (report_told (report e i)) ≡ kept_number (whole_acked (after_input e i))
outside_acked e (Take c) out r = input_acked e (Take c) r (take_so e c)
outside_acked e TakeUnknown out r = grind arith
outside_acked e Tick out r = input_acked e Tick r (tick_so e)
outside_acked e (Reset window) out r = input_acked e (Reset window) r (reset_so e window)
outside_acked e (Start value) out r = input_acked e (Start value) r (start_so e value)
outside_acked e Stop out r = input_acked e Stop r (stop_so e)
outside_acked e (TakeBroken fault) out r = absurd (true≢false (sym out))
outside_acked e (FromNode t) out r = absurd (true≢false (sym out))
outside_acked e Fetch out r = absurd (true≢false (sym out))

-- what was kept, and what was told of the input, give what is kept
pub acked_so : (told : LinkReport) (x : Report) (before : ℕ) {was now : ℕ} → before ≡ was → told ≡ report_told x → acked_since was (report_told x) ≡ now
    → acked_since before told ≡ now
acked_so told x before {was} {now} b t is = ap (λ n. acked_since n told) b ∙ (ap (acked_since was) t ∙ is)

-- ## Resets

pub reset_report : (m : Machine) (window : Option ℕ) → Sound m → reset_refusal m ≡ None
    → record nothing_told { ended = if_up m.shdlc Asked } ≡ report_told (report m (Reset window))
reset_report m window h q = grind arith

-- what is told of a reset that is done is its report
pub reset_done : (m : Machine) (window : Option ℕ) (r : LinkReport) → IsReached m → Ok r ≡ reset_told m window → r ≡ report_told (report m (Reset window))
reset_done m window r reached is = by (reset_refusal m) refl
  where
    by : (o : Option Refused) → reset_refusal m ≡ o → r ≡ report_told (report m (Reset window))
    by None q =
        let z : Ok r ≡ Ok (record nothing_told { ended = if_up m.shdlc Asked }) = rw q at is in
        let e : r ≡ record nothing_told { ended = if_up m.shdlc Asked } = cc in
        e ∙ reset_report m window (is_sound m reached) q
    by (Some why) q = absurd (let z : Ok r ≡ Err (reset_refused why) = rw q at is in cc)

pub reset_acked : (m : Machine) (window : Option ℕ) → IsReached m
    → acked_by_reset (kept_number (whole_acked m)) (reset_told m window) ≡ kept_number (whole_acked (after_input m (Reset window)))
reset_acked m window r = by (reset_refusal m) refl
  where
    told : reset_refusal m ≡ None
        → acked_since (kept_number (whole_acked m)) (record nothing_told { ended = if_up m.shdlc Asked })
        ≡ kept_number (whole_acked (after_input m (Reset window)))
    told q =
        ap (acked_since (kept_number (whole_acked m))) (reset_report m window (is_sound m r) q) ∙ input_acked m (Reset window) r (reset_so m window)

    by : (o : Option Refused) → reset_refusal m ≡ o
        → acked_by_reset (kept_number (whole_acked m)) (reset_told m window) ≡ kept_number (whole_acked (after_input m (Reset window)))
    by None q = let t = told q in rw q (rw q at t)
    by (Some why) q = rw q refl
