-- Sessions and wires are read off a history: a quiet link has delivered all, and a reset whose answer nothing kept back has brought both
-- ends up.
use Rattle.std.proofs.lemmas.List.{map-append}
use Rattle.history.proofs.Words.{Acked, Act, AllAllowed, AllByRecursion, AreActive, AreReadUpTogether, Begins, Bool, Busy, Cause, Caused, Clt, Complete}
use Rattle.history.proofs.Words.{Contains, Control, Controller, Counts, Cut, Damage, Deliver, Down, Emit, End, Entry, Event, Follows, Gets, Good, Got, Header}
use Rattle.history.proofs.Words.{History, Host, I, IsBare, IsComplete, IsDelivered, IsEndOf, IsHeader, IsLineOf, IsNoted, IsQuietSince, IsReadQuiet, Line, Link}
use Rattle.history.proofs.Words.{LinkDelivered, LinkEvent, List, Lose, Loses, Lost, Message, NoCause, None, Noted, OnWire, Option, Outcome, Puts, Reached}
use Rattle.history.proofs.Words.{Ready, Refused, Rej, Reset, Restarted, Rnr, Rr, Rset, S, Saying, Seen, Send, Sends, Sent, Settled, Side, Some, Srej, Step}
use Rattle.history.proofs.Words.{StepsFollow, Taken, Takes, Tick, Ticked, Took, Ua, Up, WasReset, [], after_link_events, all_events, ap, append_assoc, arith}
use Rattle.history.proofs.Words.{bare_link, begins, begins_on, causes_in, causes_of, core_event, core_of, disturbs, end_of, entries, entries_for, entries_of}
use Rattle.history.proofs.Words.{event_entries, event_goes, event_of, event_step, events_at, events_of, false, first_entries, fold, frames_to, good_of, happens}
use Rattle.history.proofs.Words.{has_lost, has_rnr, has_rset, heard, host_of, if◌then◌else◌, is_rnr_lpdu, is_waiting, length, link_after, link_after_all}
use Rattle.history.proofs.Words.{link_after_line, list_any, lpdu_of, machine_of, map, note_event, nothing_seen, number_of, numbered, older, other_end}
use Rattle.history.proofs.Words.{outcome_of, reached_more, refl, refusal, replicate, reset_refusal, said_of, same_end, same_number, same_side, see, see_all}
use Rattle.history.proofs.Words.{session_after, session_number, session_up, since, since_up, slice_index, start_noted, subst, suc, sym, taken_of, together}
use Rattle.history.proofs.Words.{true, true≢false, unwrap_or, up_session, waits_in, wire_after, wire_to, zero, ℕ, ◌&&◌, ◌++◌, ◌<◌, ◌==◌, ◌||◌, ◌∙◌, ◌∷◌, ◌≡◌}
use Rattle.link_laws.proofs.entries.Seeing.{read_off}
use Rattle.link_laws.proofs.entries.Settling.{Spared, Stands, none_withheld, or_none}
use Rattle.link_laws.proofs.entries.Together.{quiet_here, quiet_there}
use Rattle.link_laws.proofs.messages.Runs.{start_good, start_reached}
use Rattle.link_laws.specs.entries.Settled.{IsReset, rest_of, withholds}
use Rattle.link_laws.specs.messages.Settled.{AreUpTogether as LinkTogether}
use Rattle.link_laws.specs.places.Wire.{sans}
use Rattle.trace_model.specs.declared.line.Line.TheVariants.{Tick as LineTick}
use Rattle.history.proofs.legal.Sessions.{AreOf, ArePlain, CanAll, IsRun, Unsaid, acked-all, after_causes, can_event, controller_heard, events_in, got-all}
use Rattle.history.proofs.legal.Sessions.{host_heard, if_said, is_run, link_events, notes_of, of_allowed, of_can, of_entries, of_front, plain_entries}
use Rattle.history.proofs.legal.Sessions.{plain_event, plain_trace, run_entries, same_as, same_link, sent-all, unsaid}
use Rattle.history.proofs.waits.Histories.{waits_as_read}

-- ## The sessions and the wires that are read off the entries of a history are those of the link, and what disturbs a link is seen there

-- ### Sessions

-- the session of an end after these entries
abbrev session_from : Option ℕ → End → List Entry → Option ℕ
session_from s e t = fold (λ session entry. session_after session (said_of e entry)) s t

unheard : (s : Option ℕ) (b : Bool) (x : Saying) → session_after s (Some x) ≡ s → session_after s (if_said b x) ≡ s
unheard s b x q = grind arith

passed_over : (h : ℕ) (t : List Noted) (who w : Side) (s : Option ℕ) (x : Saying) → session_after s (Some x) ≡ s
    → session_from (session_after s (if_said (same_end (end_of h w) (end_of h who)) x)) (end_of h who) (entries_for h t)
    ≡ session_from s (end_of h who) (entries_for h t)
passed_over h t who w s x q = ap (λ z. session_from z (end_of h who) (entries_for h t)) (unheard s (same_end (end_of h w) (end_of h who)) x q)

session-from : (h : ℕ) (t : List Noted) (who : Side) (s : Option ℕ) → ArePlain t → session_from s (end_of h who) (entries_for h t) ≡ heard who s t
session-from h [] who s p = refl
session-from h (Up w k ∷ t) who s p =
    ap (λ z. session_from z (end_of h who) (entries_for h t))
    ((grind arith) ∙ ap (λ b. if b then Some k else s) (same_as h w who))
    ∙ session-from h t who (if same_side w who then Some k else s) p.1
session-from h (Down w cause ∷ t) who s p =
    ap (λ z. session_from z (end_of h who) (entries_for h t))
    ((grind arith) ∙ ap (λ b. if b then None else s) (same_as h w who))
    ∙ session-from h t who (if same_side w who then None else s) p.1
session-from h (Acked w k count ∷ t) who s p = passed_over h t who w s (Counts k count) refl ∙ session-from h t who s p.1
session-from h (Got w k m ∷ t) who s p = passed_over h t who w s (Gets k m) refl ∙ session-from h t who s p.1
session-from h (Sent w k m ∷ t) who s p = passed_over h t who w s (Sends k m) refl ∙ session-from h t who s p.1
session-from h (Emit w c ∷ t) who s p = passed_over h t who w s (Puts (lpdu_of c)) refl ∙ session-from h t who s p.1
session-from h (Took w c ∷ t) who s p = passed_over h t who w s (Takes (lpdu_of c)) refl ∙ session-from h t who s p.1
session-from h (Lost w c why ∷ t) who s p = passed_over h t who w s (Loses (lpdu_of c)) refl ∙ session-from h t who s p.1
session-from h (Cut w ∷ t) who s p = absurd p.0
session-from h (_ ∷ t) who s p = session-from h t who s p.1

pub session-all : (h : ℕ) (t : List Noted) (who : Side) → ArePlain t → session_number (entries_for h t) (end_of h who) ≡ heard who None t
session-all h t who p = session-from h t who None p

none_session : (e : End) (t : List Entry) → Unsaid e t → session_number t e ≡ None
none_session e [] u = refl
none_session e (x ∷ t) u = ap (λ o. session_from (session_after None o) e t) u.0 ∙ none_session e t u.1

-- ### Wires

-- the bytes of the frames on a wire
abbrev pub bytes_on : List OnWire → List (List ℕ)
bytes_on xs = map (λ (x : OnWire). lpdu_of x.frame) xs

pub no_bytes : (xs : List OnWire) → bytes_on xs ≡ [] → xs ≡ []
no_bytes [] q = refl
no_bytes (x ∷ xs) q = grind arith

older_bytes : (xs : List OnWire) → bytes_on (older xs) ≡ bytes_on xs
older_bytes [] = refl
older_bytes (x ∷ xs) = ap (λ z. lpdu_of x.frame ∷ z) (older_bytes xs)

-- the wire to an end, of what is seen
abbrev wire_seen : Side → Seen → List OnWire
wire_seen Controller s = s.to_controller
wire_seen Host s = s.to_host

abbrev wire_from : List (List ℕ) → End → List Entry → List (List ℕ)
wire_from wire e t = fold (λ wire entry. wire_after wire (said_of e entry) (said_of (other_end e) entry)) wire t

-- what is said of wires, at both ends
abbrev moved : ℕ → Side → Side → List (List ℕ) → Saying → List (List ℕ)
moved h who w wire x =
    wire_after wire (if_said (same_end (end_of h w) (end_of h who)) x) (if_said (same_end (end_of h w) (other_end (end_of h who))) x)

-- what is no frame moves none
record IsStill (wire : List (List ℕ)) (x : Saying) : Type 0 where
  both : wire_after wire (Some x) (Some x) ≡ wire
  here : wire_after wire (Some x) None ≡ wire
  there : wire_after wire None (Some x) ≡ wire

put_seen : (h : ℕ) (who w : Side) (s : Seen) (c : Control) → moved h who w (bytes_on (wire_seen who s)) (Puts (lpdu_of c))
    ≡ bytes_on (wire_seen who (see s (Emit w c)))
put_seen h Controller Controller s c = let z = same_number h in rw z refl
put_seen h Controller Host s c =
    let z = same_number h in rw z (sym (map-append (λ (x : OnWire). lpdu_of x.frame) s.to_controller (numbered s c ∷ [])))
put_seen h Host Controller s c = let z = same_number h in rw z (sym (map-append (λ (x : OnWire). lpdu_of x.frame) s.to_host (numbered s c ∷ [])))
put_seen h Host Host s c = let z = same_number h in rw z refl

aged_seen : (who : Side) (s : Seen) → bytes_on (wire_seen who s) ≡ bytes_on (wire_seen who (see s Tick))
aged_seen Controller s = sym (older_bytes s.to_controller)
aged_seen Host s = sym (older_bytes s.to_host)

wire-from : (h : ℕ) (who : Side) (t : List Noted) (s : Seen) → ArePlain t
    → wire_from (bytes_on (wire_seen who s)) (end_of h who) (entries_for h t) ≡ bytes_on (wire_seen who (see_all s t))
wire-from h who [] s p = refl
wire-from h who (Up w k ∷ t) s p =
    let h0 = end_of h who in let h1 = entries_for h t in let h2 = wire-from h who t s p.1 in let h3 = same_end (end_of h w) (end_of h who) in grind arith
wire-from h who (Down w cause ∷ t) s p =
    let h0 = end_of h who in let h1 = entries_for h t in let h2 = wire-from h who t s p.1 in let h3 = same_end (end_of h w) (end_of h who) in grind arith
wire-from h who (Acked w k count ∷ t) s p =
    let h0 = end_of h who in let h1 = entries_for h t in let h2 = wire-from h who t s p.1 in let h3 = same_end (end_of h w) (end_of h who) in grind arith
wire-from h who (Got w k m ∷ t) s p =
    let h0 = end_of h who in let h1 = entries_for h t in let h2 = wire-from h who t s p.1 in let h3 = same_end (end_of h w) (end_of h who) in grind arith
wire-from h who (Sent w k m ∷ t) s p =
    let h0 = end_of h who in let h1 = entries_for h t in let h2 = wire-from h who t s p.1 in let h3 = same_end (end_of h w) (end_of h who) in grind arith
wire-from h who (Emit w c ∷ t) s p =
    ap (λ z. wire_from z (end_of h who) (entries_for h t)) (put_seen h who w s c) ∙ wire-from h who t (see s (Emit w c)) p.1
wire-from h who (Took w c ∷ t) s p = ap (λ z. wire_from z (end_of h who) (entries_for h t)) (grind arith) ∙ wire-from h who t (see s (Took w c)) p.1
wire-from h who (Lost w c why ∷ t) s p =
    ap (λ z. wire_from z (end_of h who) (entries_for h t)) (grind arith) ∙ wire-from h who t (see s (Lost w c why)) p.1
wire-from h who (Tick ∷ t) s p = ap (λ z. wire_from z (end_of h who) (entries_for h t)) (aged_seen who s) ∙ wire-from h who t (see s Tick) p.1
wire-from h who (Restarted w ∷ t) s p = absurd p.0
wire-from h who (Cut w ∷ t) s p = absurd p.0
wire-from h who (_ ∷ t) s p = wire-from h who t s p.1

pub wire-controller : (h : ℕ) (t : List Noted) (s : Seen) → s.to_controller ≡ [] → ArePlain t
    → wire_to (entries_for h t) (end_of h Controller) ≡ bytes_on (see_all s t).to_controller
wire-controller h t s q p = ap (λ z. wire_from (bytes_on z) (end_of h Controller) (entries_for h t)) (sym q) ∙ wire-from h Controller t s p

pub wire-host : (h : ℕ) (t : List Noted) (s : Seen) → s.to_host ≡ [] → ArePlain t → wire_to (entries_for h t) (end_of h Host) ≡ bytes_on (see_all s t).to_host
wire-host h t s q p = ap (λ z. wire_from (bytes_on z) (end_of h Host) (entries_for h t)) (sym q) ∙ wire-from h Host t s p

-- ### Since an end came up

begins_here : (h n k : ℕ) (w : Side) → begins_on h n (Some (end_of h w, Begins k)) ≡ (k == n)
begins_here h n k w = grind arith

pub since-all : (h n : ℕ) (t : List Noted) → since_up h n (entries_for h t) ≡ entries_for h (since n t)
since-all h n [] = refl
since-all h n (Up w k ∷ t) = let h0 = begins_here h n k w in let h1 = since-all h n t in grind arith
since-all h n (Down w cause ∷ t) = since-all h n t
since-all h n (_ ∷ t) = since-all h n t

plain_since : (n : ℕ) (t : List Noted) → ArePlain t → ArePlain (since n t)
plain_since n [] p = tt
plain_since n (e ∷ t) p = let h0 = begins n e in let h1 = plain_since n t p.1 in grind arith

-- ### What disturbs a link

-- RNR with a number below 8 is read again
reads_rnr : (nr : ℕ) → nr < 8 → is_rnr_lpdu (lpdu_of (S Rnr nr)) ≡ true
reads_rnr nr low = grind arith

pub or_right : (a b : Bool) → (a || b) ≡ false → b ≡ false
or_right a b q = grind arith

or_left : (a b : Bool) → (a || b) ≡ false → a ≡ true → ⊥
or_left a b q e = grind arith

pub link_same : (h : ℕ) (w : Side) → ((end_of h w).link == h) ≡ true
link_same h w = grind arith

-- where no frame of it was lost and no RNR put on it nothing disturbed a bare link
pub undisturbed : (h : ℕ) (t : List Noted) → ArePlain t → has_lost h (entries_for h t) ≡ false → has_rnr h (entries_for h t) ≡ false
    → list_any disturbs t ≡ false
undisturbed h [] p a b = refl
undisturbed h (Emit w (I ns nr info) ∷ t) p a b = undisturbed h t p.1 a (or_right _ _ b)
undisturbed h (Emit w (S Rr nr) ∷ t) p a b = undisturbed h t p.1 a (or_right _ _ b)
undisturbed h (Emit w (S Rej nr) ∷ t) p a b = undisturbed h t p.1 a (or_right _ _ b)
undisturbed h (Emit w (S Srej nr) ∷ t) p a b = undisturbed h t p.1 a (or_right _ _ b)
undisturbed h (Emit w (S Rnr nr) ∷ t) p a b =
    let two = reads_rnr nr p.0 in
    absurd (or_left (((end_of h w).link == h) && is_rnr_lpdu (lpdu_of (S Rnr nr))) (has_rnr h (entries_for h t)) b (rw ((link_same h w), two) refl))
undisturbed h (Emit w (Rset window caps) ∷ t) p a b = undisturbed h t p.1 a (or_right _ _ b)
undisturbed h (Emit w Ua ∷ t) p a b = undisturbed h t p.1 a (or_right _ _ b)
undisturbed h (Emit w (Act act again) ∷ t) p a b = undisturbed h t p.1 a (or_right _ _ b)
undisturbed h (Emit w Clt ∷ t) p a b = undisturbed h t p.1 a (or_right _ _ b)
undisturbed h (Lost w c why ∷ t) p a b = absurd (or_left ((end_of h w).link == h) (has_lost h (entries_for h t)) a (link_same h w))
undisturbed h (Restarted w ∷ t) p a b = absurd p.0
undisturbed h (Cut w ∷ t) p a b = absurd p.0
undisturbed h (_ ∷ t) p a b = undisturbed h t p.1 a b

-- ## A quiet link has delivered all, at the end of each event of a history

-- the link after these events
abbrev link_now : List Event → Link
link_now xs = after_link_events bare_link (link_events xs)

-- where the wires are empty as they are read they are empty
empty_controller : (h : ℕ) (xs : List Event) → wire_to (entries_for h (notes_of xs)) (end_of h Controller) ≡ [] → (link_now xs).to_controller ≡ []
empty_controller h xs q =
    let t : List Noted = notes_of xs in
    sym (ap (λ (s : Seen). s.to_controller) (read_off bare_link IsBare (link_events xs)))
    ∙ no_bytes (see_all nothing_seen t).to_controller (sym (wire-controller h t nothing_seen refl (plain_trace (causes_of xs))) ∙ q)

empty_host : (h : ℕ) (xs : List Event) → wire_to (entries_for h (notes_of xs)) (end_of h Host) ≡ [] → (link_now xs).to_host ≡ []
empty_host h xs q =
    let t : List Noted = notes_of xs in
    sym (ap (λ (s : Seen). s.to_host) (read_off bare_link IsBare (link_events xs)))
    ∙ no_bytes (see_all nothing_seen t).to_host (sym (wire-host h t nothing_seen refl (plain_trace (causes_of xs))) ∙ q)

-- both ends are up with this number, nothing disturbed the link since, and its wires are empty
record IsStillOfComplete (h : ℕ) (xs : List Event) (n : ℕ) : Type 0 where
  controller : session_number (entries_for h (notes_of xs)) (end_of h Controller) ≡ Some n
  host : session_number (entries_for h (notes_of xs)) (end_of h Host) ≡ Some n
  lossless : has_lost h (since_up h n (entries_for h (notes_of xs))) ≡ false
  ready : has_rnr h (since_up h n (entries_for h (notes_of xs))) ≡ false
  to_controller : wire_to (entries_for h (notes_of xs)) (end_of h Controller) ≡ []
  to_host : wire_to (entries_for h (notes_of xs)) (end_of h Host) ≡ []

-- a quiet link as it is kept
record IsKeptQuiet (xs : List Event) (n : ℕ) : Type 0 where
  quiet : IsQuietSince (notes_of xs) (link_now xs)
  number : number_of (link_now xs).controller ≡ n

kept_quiet : (h : ℕ) (xs : List Event) (n : ℕ) → AreOf h bare_link xs → IsStillOfComplete h xs n → IsKeptQuiet xs n
kept_quiet h xs n a q =
    let t : List Noted = notes_of xs in
    let can = of_can h bare_link xs a in
    let plain = plain_trace (causes_of xs) in
    let near = session_up (link_now xs).controller n (sym (session-all h t Controller plain ∙ controller_heard (causes_of xs) can) ∙ q.controller) in
    let plain = plain_trace (causes_of xs) in
    let since_is = since-all h n t in
    let none_disturbs : list_any disturbs (since n t) ≡ false =
    undisturbed h (since n t) (plain_since n t plain) (sym (ap (has_lost h) since_is) ∙ q.lossless) (sym (ap (has_rnr h) since_is) ∙ q.ready) in
    record {
      quiet = record {
        controller = near.0;
        host = (session_up (link_now xs).host n (sym (session-all h t Host plain ∙ host_heard (causes_of xs) can) ∙ q.host)).0;
        undisturbed = subst (λ z. list_any disturbs (since z t) ≡ false) (sym near.1) none_disturbs;
        to_controller = empty_controller h xs q.to_controller;
        to_host = empty_host h xs q.to_host;
      };
      number = near.1;
    }

-- what was delivered to an end, as it is noted
delivered_to_host : (h : ℕ) (t : List Noted) (n : ℕ) → LinkDelivered t Controller n → IsDelivered (entries_for h t) (end_of h Controller) n
delivered_to_host h t n d =
    record {
      got = got-all h t Host n ∙ (d.got ∙ sym (ap good_of (sent-all h t Controller n)));
      acked = acked-all h t Controller n ∙ (d.acked ∙ sym (ap (λ (ms : List Message). length ms) (sent-all h t Controller n)));
    }

delivered_to_controller : (h : ℕ) (t : List Noted) (n : ℕ) → LinkDelivered t Host n → IsDelivered (entries_for h t) (end_of h Host) n
delivered_to_controller h t n d =
    record {
      got = got-all h t Controller n ∙ (d.got ∙ sym (ap good_of (sent-all h t Host n)));
      acked = acked-all h t Host n ∙ (d.acked ∙ sym (ap (λ (ms : List Message). length ms) (sent-all h t Host n)));
    }

complete_controller : (h : ℕ) (xs : List Event) (n : ℕ) → AreOf h bare_link xs → IsReadQuiet (entries_for h (notes_of xs)) (end_of h Controller) n
    → IsDelivered (entries_for h (notes_of xs)) (end_of h Controller) n
complete_controller h xs n a q =
    let t : List Noted = notes_of xs in
    let k = kept_quiet h xs n a (record {
      controller = q.here;
      host = q.there;
      lossless = q.lossless;
      ready = q.ready;
      to_controller = q.to_here;
      to_host = q.to_there;
    }) in
    let P : ℕ → Type 0 = λ z. LinkDelivered t Controller z in
    delivered_to_host h t n (subst P k.number (quiet_here bare_link IsBare (link_events xs) (of_allowed h bare_link xs a) k.quiet))

complete_host : (h : ℕ) (xs : List Event) (n : ℕ) → AreOf h bare_link xs → IsReadQuiet (entries_for h (notes_of xs)) (end_of h Host) n
    → IsDelivered (entries_for h (notes_of xs)) (end_of h Host) n
complete_host h xs n a q =
    let t : List Noted = notes_of xs in
    let k = kept_quiet h xs n a (record {
      controller = q.there;
      host = q.here;
      lossless = q.lossless;
      ready = q.ready;
      to_controller = q.to_there;
      to_host = q.to_here;
    }) in
    let P : ℕ → Type 0 = λ z. LinkDelivered t Host z in
    delivered_to_controller h t n (subst P k.number (quiet_there bare_link IsBare (link_events xs) (of_allowed h bare_link xs a) k.quiet))

complete_at : (h : ℕ) (xs : List Event) → AreOf h bare_link xs → IsComplete (entries_for h (notes_of xs))
complete_at h xs a e n = go (h == e.link) refl
  where
    t : List Entry
    t = entries_for h (notes_of xs)

    side : (k : ℕ) (b : Bool) → h ≡ k → IsReadQuiet t (record { link = k; at_host = b }) n → IsDelivered t (record { link = k; at_host = b }) n
    side k false q =
        let P : ℕ → Type 0 = λ z. IsReadQuiet t (record { link = z; at_host = false }) n → IsDelivered t (record { link = z; at_host = false }) n in
        subst P q (complete_controller h xs n a)
    side k true q =
        let P : ℕ → Type 0 = λ z. IsReadQuiet t (record { link = z; at_host = true }) n → IsDelivered t (record { link = z; at_host = true }) n in
        subst P q (complete_host h xs n a)

    go : (b : Bool) → (h == e.link) ≡ b → IsReadQuiet t e n → IsDelivered t e n
    go true q = side e.link e.at_host (same_link h e.link q)
    go false q = λ quiet. absurd (let z : None ≡ Some n = sym (none_session e t (unsaid h e (notes_of xs) q)) ∙ quiet.here in cc)

complete_of : (h : ℕ) (t : History) → IsRun h t → Complete t
complete_of h t run front back q =
    let a = of_front h bare_link front back (subst (λ z. AreOf h bare_link z) q run.events) in
    subst (λ z. IsComplete z) (sym (run_entries h t.opening front run.opening a)) (complete_at h front a)

pub complete : (header : Header) (lines : List Line) (t : History) → AllByRecursion (IsLineOf header) lines → IsHeader header → Follows header lines t
    → Complete t
complete header lines t valid is follows = complete_of (host_of header) t (is_run header lines t valid follows)

-- ## In a history that follows a schedule a reset is at an end of its link that doesn't refuse it

-- ### Resets

-- a reset is at an end of the link with this host, which doesn't refuse it
abbrev pub IsAsked : ℕ → Link → Cause → Type 0
IsAsked h l (WasReset e window) = (e.link ≡ h) × (reset_refusal (machine_of l e) ≡ None)
IsAsked h l _ = Unit {0}

abbrev AreAsked : ℕ → Link → List Event → Type 0
AreAsked h l [] = Unit {0}
AreAsked h l (x ∷ xs) = IsAsked h l x.cause × AreAsked h (link_after l x.cause) xs

asked_append : (h : ℕ) (l : Link) (xs ys : List Event) → AreAsked h l xs → AreAsked h (link_after_all l (causes_of xs)) ys → AreAsked h l (xs ++ ys)
asked_append h l [] ys a b = b
asked_append h l (x ∷ xs) ys a b = (a.0, asked_append h (link_after l x.cause) xs ys a.1 b)

asked_front : (h : ℕ) (l : Link) (xs ys : List Event) → AreAsked h l (xs ++ ys) → AreAsked h l xs
asked_front h l [] ys a = tt
asked_front h l (x ∷ xs) ys a = (a.0, asked_front h (link_after l x.cause) xs ys a.1)

-- ### Causes that are no resets

abbrev IsNoReset : Cause → Type 0
IsNoReset (WasReset e window) = ⊥
IsNoReset _ = Unit {0}

abbrev NoResets : List Cause → Type 0
NoResets cs = AllByRecursion IsNoReset cs

no_resets_asked : (h : ℕ) (l : Link) (cs : List Cause) → NoResets cs → AreAsked h l (events_at h l cs)
no_resets_asked h l [] n = tt
no_resets_asked h l (c ∷ cs) n = (grind arith, no_resets_asked h (link_after l c) cs n.1)

no_repeat : (c : Cause) → IsNoReset c → (n : ℕ) → NoResets (replicate n c)
no_repeat c none zero = tt
no_repeat c none (suc n) = (none, no_repeat c none n)

-- ### Lines

-- what becomes of a line with these causes
abbrev decided : ℕ → Link → List Cause → Option NoCause → Outcome
decided h l cs (Some cause) = Refused cause
decided h l cs None = Caused (events_at h l cs)

unasked : (h : ℕ) (l : Link) (cs : List Cause) (o : Option NoCause) → NoResets cs → AreAsked h l (events_of (decided h l cs o))
unasked h l cs (Some cause) n = tt
unasked h l cs None n = no_resets_asked h l cs n

reset_line : (h : ℕ) (l : Link) (e : End) (window : Option ℕ) → e.link ≡ h → AreAsked h l (events_of (outcome_of h l (Reset e window)))
reset_line h l e window is = grind arith

asked_line : (header : Header) (h : ℕ) (l : Link) (line : Line) → IsLineOf header line → ((e : End) → IsEndOf header e → e.link ≡ h)
    → AreAsked h l (events_of (outcome_of h l line))
asked_line header h l (Send e pid message) is ends = unasked h l (causes_in l (Send e pid message)) (refusal l (Send e pid message)) (tt, tt)
asked_line header h l (Deliver e count) is ends =
    unasked h l (causes_in l (Deliver e count)) (refusal l (Deliver e count)) (no_repeat (Taken e) tt (taken_of count (frames_to l e)))
asked_line header h l (Lose e) is ends = unasked h l (causes_in l (Lose e)) (refusal l (Lose e)) (tt, tt)
asked_line header h l (Damage e places) is ends = grind arith
asked_line header h l (LineTick times) is ends =
    unasked h l (causes_in l (LineTick times)) (refusal l (LineTick times)) (no_repeat Ticked tt (unwrap_or times 1))
asked_line header h l (Reset e window) is ends = reset_line h l e window (ends e is.0)
asked_line header h l (Busy e) is ends = unasked h l (causes_in l (Busy e)) (refusal l (Busy e)) (tt, tt)
asked_line header h l (Ready e) is ends = unasked h l (causes_in l (Ready e)) (refusal l (Ready e)) (tt, tt)
asked_line header h l _ is ends = absurd is

asked_steps : (header : Header) (h : ℕ) (l : Link) (lines : List Line) (steps : List Step) → AllByRecursion (IsLineOf header) lines
    → ((e : End) → IsEndOf header e → e.link ≡ h) → StepsFollow h l lines steps → AreAsked h l (events_in steps)
asked_steps header h l [] [] valid ends follows = tt
asked_steps header h l [] (step ∷ steps) valid ends follows = absurd follows
asked_steps header h l (line ∷ lines) [] valid ends follows = absurd follows
asked_steps header h l (line ∷ lines) (step ∷ steps) valid ends follows =
    let P : Outcome → Type 0 = λ o. AreAsked h l (events_of o) in
    asked_append h l (events_of step.outcome) (events_in steps) (subst P (sym follows.1) (asked_line header h l line valid.0 ends))
    (asked_steps header h (link_after_line l step.outcome) lines steps valid.1 ends follows.3)

-- ### The one link of a bare world

pub only_one : (xs : List ℕ) (x : ℕ) → length xs ≡ 1 → Contains xs x → x ≡ slice_index xs 0
only_one [] x one has = absurd (let k : has.0 < 0 = has.1 in omega (arith, k))
only_one (y ∷ []) x one has = grind arith
only_one (y ∷ z ∷ ys) x one has = absurd (let e : suc (suc (length ys)) ≡ 1 = one in omega (arith, e))

all_asked : (header : Header) (l : Link) (lines : List Line) (steps : List Step) → IsHeader header → AllByRecursion (IsLineOf header) lines
    → StepsFollow (host_of header) l lines steps → AreAsked (host_of header) l (events_in steps)
all_asked header l lines steps is valid follows =
    asked_steps header (host_of header) l lines steps valid (λ e has. only_one header.hosts.items e.link is.one has) follows

-- ## A reset whose answer nothing kept back has brought both ends up

-- ### Events

-- none of these starts, stops or cuts off an end
plain_stands : (t : List Noted) → ArePlain t → Stands t
plain_stands [] p = refl
plain_stands (Restarted who ∷ t) p = absurd p.0
plain_stands (Cut who ∷ t) p = absurd p.0
plain_stands (_ ∷ t) p = plain_stands t p.1

-- both ends stay active
actives : (cs : List Cause) (t : List Noted) (l : Link) → CanAll cs → Good l → Reached (core_of l) → IsNoted t l → AreActive l → AreActive (link_after_all l cs)
actives [] t l can g r n o = o
actives (c ∷ cs) t l can g r n o =
    let e : LinkEvent = event_of c in
    let a = can_event l c can.0 in
    let st = event_step l e a g r in
    let next : Reached (core_of (happens l e)) = subst Reached (sym st.core) (reached_more (core_of l) (core_event l e) st.allowed r) in
    let one = event_goes t false l e a g r n o (plain_stands (event_entries l e) (plain_event l c)) in
    actives cs (t ++ event_entries l e) (happens l e) can.1 st.good next (note_event t l e a g r n).noted one.active

always_active : (cs : List Cause) → CanAll cs → AreActive (link_after_all bare_link cs)
always_active cs can =
    actives cs (first_entries bare_link.controller.side.role) bare_link can (start_good bare_link IsBare) (start_reached bare_link IsBare)
    (start_noted bare_link IsBare) (record { controller = refl; host = refl })

-- a reset that isn't refused, where the other end isn't waiting
reset_ready : (l : Link) (e : End) (window : Option ℕ) → reset_refusal (machine_of l e) ≡ None → is_waiting (machine_of l (other_end e)).shdlc ≡ false
    → AreActive l → IsReset l (event_of (WasReset e window))
reset_ready l e window r n o = grind arith

-- ### Runs

events-append : (xs ys : List Event) → link_events (xs ++ ys) ≡ link_events xs ++ link_events ys
events-append [] ys = refl
events-append (x ∷ xs) ys = ap (λ (es : List LinkEvent). event_of x.cause ∷ es) (events-append xs ys)

-- the law of the link
run_together : (before : List Event) (reset : Event) (behind : List Event) → AllAllowed bare_link (link_events (before ++ reset ∷ behind))
    → IsReset (link_after_all bare_link (causes_of before)) (event_of reset.cause)
    → rest_of (link_after_all bare_link (causes_of before)) (event_of reset.cause) ≡ []
    → list_any withholds (entries (link_after (link_after_all bare_link (causes_of before)) reset.cause) (link_events behind)) ≡ false
    → (link_now (before ++ reset ∷ behind)).to_controller ≡ [] → (link_now (before ++ reset ∷ behind)).to_host ≡ []
    → LinkTogether (link_now (before ++ reset ∷ behind))
run_together before reset behind a asked alone undisturbed near there =
    let es : List LinkEvent = link_events before in
    let fs : List LinkEvent = link_events behind in
    let e : LinkEvent = event_of reset.cause in
    let same = after_causes (causes_of before) bare_link in
    let P : List LinkEvent → Type 0 = λ z. AllAllowed bare_link z → (after_link_events bare_link z).to_controller ≡ []
    → (after_link_events bare_link z).to_host ≡ [] → LinkTogether (after_link_events bare_link z) in
    let R : Link → Type 0 = λ z. IsReset z e in
    let W : Link → Type 0 = λ z. list_any withholds (rest_of z e ++ entries (happens z e) fs) ≡ false in
    let V : List Noted → Type 0 = λ z. list_any withholds (z ++ entries (happens (link_after_all bare_link (causes_of before)) e) fs) ≡ false in
    let law : P (es ++ e ∷ fs) =
    λ b c d. together bare_link IsBare es e fs b (subst R (sym same) asked) (subst W (sym same) (subst V (sym alone) undisturbed)) (ap sans c) (ap sans d) in
    subst P (sym (events-append before (reset ∷ behind))) law a near there

-- ### Entries

any_right : (f : Entry → Bool) (t u : List Entry) → list_any f (t ++ u) ≡ false → list_any f u ≡ false
any_right f [] u q = q
any_right f (x ∷ t) u q = any_right f t u (or_none (f x) (list_any f (t ++ u)) q).1

-- where no frame of a bare link was lost and no RSET put on it
spared_of : (h : ℕ) (t : List Noted) → has_lost h (entries_for h t) ≡ false → has_rset h (entries_for h t) ≡ false → Spared t
spared_of h [] a b = refl
spared_of h (Emit w (I ns nr info) ∷ t) a b = spared_of h t a (or_none _ _ b).1
spared_of h (Emit w (S kind nr) ∷ t) a b = spared_of h t a (or_none _ _ b).1
spared_of h (Emit w (Rset window caps) ∷ t) a b = grind arith
spared_of h (Emit w Ua ∷ t) a b = spared_of h t a (or_none _ _ b).1
spared_of h (Emit w (Act act again) ∷ t) a b = spared_of h t a (or_none _ _ b).1
spared_of h (Emit w Clt ∷ t) a b = spared_of h t a (or_none _ _ b).1
spared_of h (Lost w c why ∷ t) a b = absurd (true≢false (sym (link_same h w) ∙ (or_none _ _ a).0))
spared_of h (_ ∷ t) a b = spared_of h t a b

of_back : (h : ℕ) (l : Link) (xs ys : List Event) → AreOf h l (xs ++ ys) → AreOf h (link_after_all l (causes_of xs)) ys
of_back h l [] ys a = a
of_back h l (x ∷ xs) ys a = of_back h (link_after l x.cause) xs ys a.2

asked_at : (h : ℕ) (l : Link) (xs : List Event) (x : Event) (ys : List Event) → AreAsked h l (xs ++ x ∷ ys)
    → IsAsked h (link_after_all l (causes_of xs)) x.cause
asked_at h l [] x ys a = a.0
asked_at h l (y ∷ xs) x ys a = asked_at h (link_after l y.cause) xs x ys a.1

-- ### Both ends are up

-- where nothing kept the answer back and both wires are empty
up_both : (h : ℕ) (xs : List Event) (e : End) → AreOf h bare_link xs → h ≡ e.link
    → ((link_now xs).to_controller ≡ [] → (link_now xs).to_host ≡ [] → LinkTogether (link_now xs))
    → wire_to (entries_for h (notes_of xs)) e ≡ [] → wire_to (entries_for h (notes_of xs)) (other_end e) ≡ []
    → AreReadUpTogether (entries_for h (notes_of xs)) e
up_both h xs e a q law = side e.link e.at_host q
  where
    t : List Entry
    t = entries_for h (notes_of xs)

    up : wire_to t (end_of h Controller) ≡ [] → wire_to t (end_of h Host) ≡ [] → LinkTogether (link_now xs)
    up w v = law (empty_controller h xs w) (empty_host h xs v)

    near : LinkTogether (link_now xs) → session_number t (end_of h Controller) ≡ Some (number_of (link_now xs).controller)
    near u =
        session-all h (notes_of xs) Controller (plain_trace (causes_of xs))
        ∙ (controller_heard (causes_of xs) (of_can h bare_link xs a) ∙ up_session (link_now xs).controller u.controller)

    there : LinkTogether (link_now xs) → session_number t (end_of h Host) ≡ Some (number_of (link_now xs).controller)
    there u =
        session-all h (notes_of xs) Host (plain_trace (causes_of xs))
        ∙ (host_heard (causes_of xs) (of_can h bare_link xs a) ∙ (up_session (link_now xs).host u.host ∙ ap (λ n. Some n) (sym u.number)))

    P : Bool → ℕ → Type 0
    P b z =
        wire_to t (record { link = z; at_host = b }) ≡ [] → wire_to t (other_end (record { link = z; at_host = b })) ≡ []
        → AreReadUpTogether t (record { link = z; at_host = b })

    side : (k : ℕ) (b : Bool) → h ≡ k → P b k
    side k false q =
        subst (P false) q (λ w v. let u = up w v in record { number = number_of (link_now xs).controller; here = near u; there = there u })
    side k true q =
        subst (P true) q (λ w v. let u = up v w in record { number = number_of (link_now xs).controller; here = there u; there = near u })

settled_of : (h : ℕ) (t : History) → IsRun h t → AreAsked h bare_link (all_events t) → Settled t
settled_of h t run asked before reset behind back e window q z =
    let xs : List Event = before ++ reset ∷ behind in
    let whole : all_events t ≡ xs ++ back = q ∙ sym (append_assoc before (reset ∷ behind) back) in
    let a = of_front h bare_link xs back (subst (λ z. AreOf h bare_link z) whole run.events) in
    let k = asked_front h bare_link xs back (subst (λ z. AreAsked h bare_link z) whole asked) in
    let l : Link = link_after_all bare_link (causes_of before) in
    let mine : IsAsked h l (WasReset e window) = subst (λ z. IsAsked h l z) z.cause (asked_at h bare_link before reset behind k) in
    let m : Link = link_after l reset.cause in
    let rest = (of_back h bare_link before (reset ∷ behind) a).2 in
    let read : entries_of behind ≡ entries_for h (entries m (link_events behind)) = of_entries h m behind rest in
    let lossless : has_lost h (entries_of behind) ≡ false =
    any_right _ reset.entries (entries_of behind) (ap (λ n. has_lost n (entries_of (reset ∷ behind))) (sym mine.0) ∙ z.lossless) in
    let spared : Spared (entries m (link_events behind)) =
    spared_of h (entries m (link_events behind)) (sym (ap (has_lost h) read) ∙ lossless) (sym (ap (has_rset h) read) ∙ (grind arith)) in
    let first = of_front h bare_link before (reset ∷ behind) a in
    let opened : t.opening ++ entries_of before ≡ entries_for h (notes_of before) = run_entries h t.opening before run.opening first in
    let other : is_waiting (machine_of l (other_end e)).shdlc ≡ false =
    sym (waits_as_read h before (other_end e) first (sym mine.0)) ∙ (sym (ap (λ y. waits_in y (other_end e)) opened) ∙ z.other) in
    let R : Cause → Type 0 = λ c. IsReset l (event_of c) in
    let law : (link_now xs).to_controller ≡ [] → (link_now xs).to_host ≡ [] → LinkTogether (link_now xs) =
    run_together before reset behind (of_allowed h bare_link xs a)
    (subst R (sym z.cause) (reset_ready l e window mine.1 other (always_active (causes_of before) (of_can h bare_link before first))))
    (subst (λ c. rest_of l (event_of c) ≡ []) (sym z.cause) (grind arith))
    (none_withheld (entries m (link_events behind)) spared (plain_stands (entries m (link_events behind)) (plain_entries (causes_of behind) m))) in
    let is : t.opening ++ entries_of xs ≡ entries_for h (notes_of xs) = run_entries h t.opening xs run.opening a in
    subst (λ y. AreReadUpTogether y e) (sym is)
    (up_both h xs e a (sym mine.0) law (sym (ap (λ y. wire_to y e) is) ∙ z.to_here) (sym (ap (λ y. wire_to y (other_end e)) is) ∙ z.to_there))

pub settled : (header : Header) (lines : List Line) (t : History) → AllByRecursion (IsLineOf header) lines → IsHeader header → Follows header lines t
    → Settled t
settled header lines t valid is follows =
    settled_of (host_of header) t (is_run header lines t valid follows) (all_asked header bare_link lines t.steps is valid follows.steps_follow)
