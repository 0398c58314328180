-- Two ends that are Up in one session and the wires between them at every moment, up to both wires empty and all delivered.
use Rattle.std.proofs.Common.{max}
use Rattle.std.proofs.lemmas.List.{append-nil, nil_from_length}
use mathlib.Core.List.{IsPrefix}
use Rattle.link_laws.proofs.Words.{Act, Bool, Clt, Control, Due, EndState, Fragment, FragmentsDelivered, I, Kind, List, None, Option, Rej, Rej_due, Rnr}
use Rattle.link_laws.proofs.Words.{Rnr_due, Rr, Rr_due, Rset, S, Session, Some, Srej, Ua, Up, [], accepted, acknowledged, after_frames, ahead, ap, arith}
use Rattle.link_laws.proofs.Words.{control_due, discarded, expected, false, fetched, fragment_due, fragment_due-within, frame_due, inl, inr, is_rnr, length}
use Rattle.link_laws.proofs.Words.{length-append, lt-ltb, made_busy, place_of, put_out, ready_again, received, refl, rejected, repeated, sent_again}
use Rattle.link_laws.proofs.Words.{sent_next, slice_get, suc, sym, take_answer, taken, tick_answer, ticked, true, true≢false, with_frame, with_ready, zero, ℕ}
use Rattle.link_laws.proofs.Words.{◌%◌, ◌++◌, ◌+◌, ◌-◌, ◌<◌, ◌∙◌, ◌∷◌, ◌≡◌, ◌≤◌, ◌⊎◌}
use Rattle.link_laws.specs.places.Wire.{OnWire, older}
use Rattle.link_laws.proofs.places.Flows.{AcksOnly, AnswersOnly, Flows, NoRnr, Shows, Whole, answers_push, counts_le, flows_accept, flows_answer}
use Rattle.link_laws.proofs.places.Flows.{flows_lost_back, flows_number, flows_past, flows_put, flows_send, flows_send_S, no_rnr_push, push_not_empty}
use Rattle.link_laws.proofs.places.Flows.{rnr_pushed, shows_older, shows_push, whole_answer_I, whole_answer_S, whole_send, whole_send_S}

-- ## A number modulo 8 names one place among those that it can mean

-- an N(R) names the one place that it can mean
pub place_found : (s : Session) (nr : ℕ) → s.acked ≤ nr → nr ≤ s.reached → s.reached ≤ s.acked + 4 → place_of s (nr % 8) ≡ Some nr
place_found s nr h i j = grind arith

pub ahead_other : (s : Session) (p : ℕ) → length s.acc ≤ p + 4 → p ≤ length s.acc + 3 → ahead s (p % 8) ≡ 0 → p ≡ length s.acc
ahead_other s p h i j = omega arith

-- ## Two ends that are Up in one session and the wires between them
-- What is true of them at every moment of an event, and how each thing that one end does keeps it.

-- the sender with this session, the receiver that accepted acc, and the marks on the wires from it and to it
abbrev pub Sends : Session → List Fragment → List Control → List Control → Type 0
Sends s acc there back = Flows s.out s.window s.acked s.next s.reached acc there back

-- an end that has become ready or not ready, and the control frames that wait then
abbrev pub changed : EndState → Bool → List Due → EndState
changed e r ds = record e { ready = r; due = ds; session = record e.session { answered_rnr = false } }

pub ready_cases : (P : EndState → Type 0) (e : EndState) (r : Bool) → P e → P (changed e r e.due) → P (changed e r (e.due ++ Rr_due ∷ [])) → P (with_ready e r)
ready_cases P e r same other answered = grind arith

pub tick_cases : (P : EndState → Type 0) (e : EndState) → e.phase ≡ Up → (tick_answer e).ended ≡ None → P e → P (record e { timer = e.timer + 1 })
    → P (sent_again e) → P (ticked e)
tick_cases P e up answer same counted again = grind arith

-- what an end does with a fragment, by cases
pub received_cases : (P : EndState → Type 0) (e : EndState) (ns : ℕ) (info : Fragment)
    → (ahead e.session ns ≡ 0 → P (accepted e info))
    → ((ahead e.session ns ≡ 0 → ⊥) → ahead e.session ns < 4 → P e)
    → ((ahead e.session ns ≡ 0 → ⊥) → ahead e.session ns < 4 → P (record e { due = e.due ++ Rej_due ∷ []; session = record e.session { gap_open = true } }))
    → ((ahead e.session ns ≡ 0 → ⊥) → 4 ≤ ahead e.session ns → P (repeated e))
    → P (discarded e)
    → P (received e ns info)
received_cases P e ns info takes same gap repeat not_ready = grind arith

pub taken_I : (P : EndState → Type 0) (e : EndState) (ns nr x : ℕ) (info : Fragment) → e.phase ≡ Up → place_of e.session nr ≡ Some x
    → P (received (acknowledged e x) ns info) → P (taken e (I ns nr info))
taken_I P e ns nr x info up at h = rw (up, at) (rw up at h)

-- P holds of the end whatever kind of S frame acknowledges x
pub record HoldsOfKinds (P : EndState → Type 0) (e : EndState) (kind : Kind) (x : ℕ) : Type 0 where
  pub rr : kind ≡ Rr → P (ready_again e x)
  pub rej : kind ≡ Rej → P (rejected e x)
  pub rnr : kind ≡ Rnr → P (made_busy e x)
  pub srej : kind ≡ Srej → P e

pub taken_S : (P : EndState → Type 0) (e : EndState) (kind : Kind) (nr x : ℕ) → e.phase ≡ Up → place_of e.session nr ≡ Some x
    → HoldsOfKinds P e kind x → P (taken e (S kind nr))
taken_S P e kind nr x up at h = grind arith

pub answer_I : (e : EndState) (ns nr : ℕ) (info : Fragment) → e.phase ≡ Up → (take_answer e (I ns nr info)).ended ≡ None
answer_I e ns nr info up = rw up refl

pub answer_S : (e : EndState) (k : Kind) (nr : ℕ) → e.phase ≡ Up → (take_answer e (S k nr)).ended ≡ None
answer_S e k nr up = rw up refl

-- what one fetch does: a control frame goes first, and a fragment where there is none
pub fetch_cases : (P : EndState → Option Control → Type 0) (e : EndState)
    → ((d : Due) (ds : List Due) → e.due ≡ d ∷ ds → P (record e { due = ds }) (Some (control_due e d)))
    → (e.due ≡ [] → fragment_due e.session ≡ None → P e None)
    → ((info : Fragment) → e.due ≡ [] → fragment_due e.session ≡ Some info
    → P (record e { session = sent_next e.session }) (Some (I (e.session.next % 8) (expected e.session) info)))
    → P (fetched e) (frame_due e)
fetch_cases P e control none fragment = grind arith

-- a wire with one more frame, where there is one
abbrev pub with_next : List OnWire → Option Control → List OnWire
with_next wire None = wire
with_next wire (Some c) = with_frame wire c

abbrev pub rnr_next : Option Control → Bool
rnr_next None = false
rnr_next (Some c) = is_rnr c

-- W says that nothing was lost and no RNR was made
pub record Joined (W : Type 0) (near far : EndState) (to_near to_far : List OnWire) : Type 0 where
  pub near_up : near.phase ≡ Up
  pub far_up : far.phase ≡ Up
  pub near_due : AnswersOnly near.due
  pub far_due : AnswersOnly far.due
  -- the marks on the wire to each end
  pub near_marks : List Control
  pub far_marks : List Control
  pub near_shows : Shows to_near near_marks
  pub far_shows : Shows to_far far_marks
  pub near_sends : Sends near.session far.session.acc far_marks near_marks
  pub far_sends : Sends far.session near.session.acc near_marks far_marks
  pub near_whole : W → NoRnr far.due → Whole near.session far.session.acc far.due far_marks near_marks
  pub far_whole : W → NoRnr near.due → Whole far.session near.session.acc near.due near_marks far_marks

-- to the other end near' is what near is: it changed its timer and what it notes of itself, and may have more answers to send
record SameToOther (near near' : EndState) : Type 0 where
  up : near'.phase ≡ Up
  answers : AnswersOnly near'.due
  no_rnr : NoRnr near'.due → NoRnr near.due
  none_due : near'.due ≡ [] → near.due ≡ []
  session : record near'.session { answered_rnr = false } ≡ record near.session { answered_rnr = false }

module _ (W : Type 0) where
  -- the two ends are alike
  pub joined_exchanged : (near far : EndState) (to_near to_far : List OnWire) → Joined W near far to_near to_far → Joined W far near to_far to_near
  joined_exchanged near far to_near to_far h = grind arith

  -- less is claimed to be whole
  pub joined_weaker : (V : Type 0) → (V → W) → (near far : EndState) (to_near to_far : List OnWire) → Joined W near far to_near to_far
      → Joined V near far to_near to_far
  joined_weaker V f near far to_near to_far h = grind arith

  -- more is offered
  pub joined_put : (near far : EndState) (to_near to_far : List OnWire) (more : List Fragment)
      → Joined W near far to_near to_far → Joined W (put_out near more) far to_near to_far
  joined_put near far to_near to_far more h =
      record {
        near_up = h.near_up;
        far_up = h.far_up;
        near_due = h.near_due;
        far_due = h.far_due;
        near_marks = h.near_marks;
        far_marks = h.far_marks;
        near_shows = h.near_shows;
        far_shows = h.far_shows;
        near_sends = flows_put h.near_sends more;
        far_sends = h.far_sends;
        near_whole = λ w n. let x = h.near_whole w n in record { caught = x.caught; told = x.told; free = x.free; acks = x.acks };
        far_whole = h.far_whole;
      }

  -- an end that changed its timer and what it notes of itself, and that has perhaps one more answer to send
  joined_same : {near near' far : EndState} {to_near to_far : List OnWire} → SameToOther near near'
      → Joined W near far to_near to_far → Joined W near' far to_near to_far
  joined_same same h = grind arith

  -- the end becomes ready or not ready
  pub joined_ready : (near far : EndState) (to_near to_far : List OnWire) (r : Bool)
      → Joined W near far to_near to_far → Joined W (with_ready near r) far to_near to_far
  joined_ready near far to_near to_far r h =
      ready_cases (λ e. Joined W e far to_near to_far) near r h
      (joined_same (record { up = h.near_up; answers = h.near_due; no_rnr = λ n. n; none_due = λ n. n; session = refl }) h)
      (joined_same (record {
        up = h.near_up;
        answers = answers_push near.due Rr_due tt h.near_due;
        no_rnr = no_rnr_push near.due Rr_due;
        none_due = λ n. absurd (push_not_empty near.due Rr_due n);
        session = refl;
      }) h)

  -- a tick that doesn't end the session
  pub joined_ticked : (near far : EndState) (to_near to_far : List OnWire) → (tick_answer near).ended ≡ None
      → Joined W near far to_near to_far → Joined W (ticked near) far to_near to_far
  joined_ticked near far to_near to_far answer h = grind arith

  -- the frames on the way to the near end grow older
  pub joined_older : (near far : EndState) (to_near to_far : List OnWire)
      → Joined W near far to_near to_far → Joined W near far (older to_near) to_far
  joined_older near far to_near to_far h =
      record {
        near_up = h.near_up;
        far_up = h.far_up;
        near_due = h.near_due;
        far_due = h.far_due;
        near_marks = h.near_marks;
        far_marks = h.far_marks;
        near_shows = shows_older to_near h.near_marks h.near_shows;
        far_shows = h.far_shows;
        near_sends = h.near_sends;
        far_sends = h.far_sends;
        near_whole = h.near_whole;
        far_whole = h.far_whole;
      }

  -- the near end takes the first frame on the way to it, which ends no session
  pub joined_taken : (near far : EndState) (x : OnWire) (to_near to_far : List OnWire)
      → Joined W near far (x ∷ to_near) to_far
      → Joined W (taken near x.frame) far to_near to_far × ((take_answer near x.frame).ended ≡ None)
  joined_taken near far x to_near to_far h = go h.near_marks h.near_shows h.near_sends h.far_sends h.near_whole h.far_whole
    where
      s : Session
      s = near.session

      t : Session
      t = far.session

      go : (ms : List Control) → Shows (x ∷ to_near) ms → Sends near.session far.session.acc h.far_marks ms
          → Sends far.session near.session.acc ms h.far_marks
          → (W → NoRnr far.due → Whole near.session far.session.acc far.due h.far_marks ms)
          → (W → NoRnr near.due → Whole far.session near.session.acc near.due ms h.far_marks)
          → Joined W (taken near x.frame) far to_near to_far × ((take_answer near x.frame).ended ≡ None)
      go [] shows near_sends far_sends near_whole far_whole = absurd shows
      go (I p n info ∷ ms) shows near_sends far_sends near_whole far_whole =
          let number = flows_number (I p n info) n refl near_sends in
          let reach : s.reached ≤ s.acked + 4 = omega (arith, near_sends.window, near_sends.reach_window) in
          let place : place_of s (n % 8) ≡ Some n = place_found s n number.0 number.1 reach in
          let e : EndState = acknowledged near n in
          let sends : Sends e.session t.acc h.far_marks ms = grind arith in
          let receives : Sends t s.acc ms h.far_marks = flows_past far_sends in
          let low : t.acked ≤ length s.acc = counts_le t.acked (length s.acc) h.far_marks far_sends.counts in
          let whole : W → NoRnr far.due → Whole e.session t.acc far.due h.far_marks ms = grind arith in
          -- a place that isn't ahead of what was accepted shows no gap
          let no_gap : (ahead e.session (p % 8) ≡ 0 → ⊥) → ahead e.session (p % 8) < 4 → p ≤ length s.acc → ⊥ = grind arith in
          let same : (d : List Due) → AnswersOnly d → (g b : Bool) → (W → NoRnr d → Whole t s.acc d ms h.far_marks)
          → Joined W (record e { due = d; session = record e.session { gap_open = g; answered_rnr = b } }) far to_near to_far =
          λ d a g b c. (grind arith) in (
            rw shows.0 (taken_I (λ f. Joined W f far to_near to_far) near (p % 8) (n % 8) n info h.near_up place
                (received_cases (λ f. Joined W f far to_near to_far) e (p % 8) info
                (λ z. let at : p ≡ length s.acc = ahead_other e.session p far_sends.places.0 (grind arith) z in
                record {
                  near_up = h.near_up;
                  far_up = h.far_up;
                  near_due = answers_push e.due Rr_due tt h.near_due;
                  far_due = h.far_due;
                  near_marks = ms;
                  far_marks = h.far_marks;
                  near_shows = shows.1;
                  far_shows = h.far_shows;
                  near_sends = sends;
                  far_sends = flows_accept far_sends at;
                  near_whole = λ w q. let y = whole w q in record { caught = y.caught; told = y.told; free = y.free; acks = y.acks };
                  far_whole = λ w q.
                      let y = far_whole w (no_rnr_push near.due Rr_due q) in
                      let next : length (s.acc ++ info ∷ []) ≡ max (length s.acc) (p + 1) = omega (arith, length-append s.acc (info ∷ [])) in
                      record {
                        caught = rw next y.caught.1;
                        told = λ f. absurd (push_not_empty near.due Rr_due f);
                        free = y.free;
                        acks = y.acks;
                      };
                })
                (λ z g. same e.due h.near_due s.gap_open s.answered_rnr (λ w q. absurd (no_gap z g (far_whole w q).caught.0)))
                (λ z g. same (e.due ++ Rej_due ∷ []) (answers_push e.due Rej_due tt h.near_due) true s.answered_rnr
                (λ w q. absurd (no_gap z g (far_whole w (no_rnr_push near.due Rej_due q)).caught.0)))
                (λ z g. same (e.due ++ Rr_due ∷ []) (answers_push e.due Rr_due tt h.near_due) s.gap_open s.answered_rnr
                (λ w q.
                let y = far_whole w (no_rnr_push near.due Rr_due q) in
                let still : length s.acc ≡ max (length s.acc) (p + 1) = omega arith in
                record {
                  caught = rw still y.caught.1;
                  told = λ f. absurd (push_not_empty near.due Rr_due f);
                  free = y.free;
                  acks = y.acks;
                }))
                (same (e.due ++ Rnr_due ∷ []) (answers_push e.due Rnr_due tt h.near_due) s.gap_open true (λ w q. absurd (rnr_pushed near.due q))))),
            rw shows.0 (answer_I near (p % 8) (n % 8) info h.near_up),
          )
      go (S k n ∷ ms) shows near_sends far_sends near_whole far_whole =
          let number = flows_number (S k n) n refl near_sends in
          let reach : s.reached ≤ s.acked + 4 = omega (arith, near_sends.window, near_sends.reach_window) in
          let place : place_of s (n % 8) ≡ Some n = place_found s n number.0 number.1 reach in
          let receives : Sends t s.acc ms h.far_marks = flows_past far_sends in
          let from : (f : EndState) → f.phase ≡ Up → f.due ≡ near.due → Sends f.session t.acc h.far_marks ms → f.session.acc ≡ s.acc
          → (W → NoRnr far.due → Whole f.session t.acc far.due h.far_marks ms) → Joined W f far to_near to_far =
          λ f up due sends acc whole. (grind arith) in
          let acked : (s' : ℕ) → n ≤ s' → s' ≤ s.reached → Flows s.out s.window n s' s.reached t.acc h.far_marks ms = grind arith in
          let upper : max s.next n ≤ s.reached = omega (arith, near_sends.next_reach, number.1) in (
            rw shows.0 (taken_S (λ f. Joined W f far to_near to_far) near k (n % 8) n h.near_up place (record {
              rr = grind arith;
              rej = grind arith;
              rnr = grind arith;
              srej = λ is. from near h.near_up refl (flows_lost_back near_sends) refl (stopped_by k n ms (inr is) near_whole s);
            })),
            rw shows.0 (answer_S near k (n % 8) h.near_up),
          )
        where
          -- an acknowledgement frees the sender
          freed : (k : Kind) (n : ℕ) (ms : List Control) → (W → NoRnr far.due → Whole s t.acc far.due h.far_marks (S k n ∷ ms))
              → (f : Session) → f.acked ≡ n → f.reached ≡ s.reached → f.peer_busy ≡ false
              → W → NoRnr far.due → Whole f t.acc far.due h.far_marks ms
          freed k n ms whole f acked reached busy w q =
              let y = whole w q in
              record { caught = rw reached y.caught; told = rw acked y.told; free = busy; acks = grind arith }

          stopped_by : (k : Kind) (n : ℕ) (ms : List Control) → ((k ≡ Rnr) ⊎ (k ≡ Srej)) → (W → NoRnr far.due → Whole s t.acc far.due h.far_marks (S k n ∷ ms))
              → (f : Session) → W → NoRnr far.due → Whole f t.acc far.due h.far_marks ms
          stopped_by k n ms is whole f w q = absurd (grind arith)
      go (Rset _ _ ∷ ms) shows near_sends far_sends near_whole far_whole = absurd near_sends.counts
      go (Ua ∷ ms) shows near_sends far_sends near_whole far_whole = absurd near_sends.counts
      go (Act _ _ ∷ ms) shows near_sends far_sends near_whole far_whole = absurd near_sends.counts
      go (Clt ∷ ms) shows near_sends far_sends near_whole far_whole = absurd near_sends.counts

  -- ### A frame is made. V says that nothing was lost and no RNR was made, this frame among them.

  joined_answered : {V : Type 0} → (V → W) → {near far : EndState} {to_near to_far : List OnWire} (k : Kind) {ds : List Due} → AnswersOnly ds
      → (V → AcksOnly (S k (length near.session.acc) ∷ [])) → (V → NoRnr ds → NoRnr near.due)
      → Joined W near far to_near to_far → Joined V (record near { due = ds }) far to_near (with_frame to_far (S k (expected near.session)))
  joined_answered weak {near} {far} {to_far = to_far} k due acks rnr h =
      let s = near.session in
      record {
        near_up = h.near_up;
        far_up = h.far_up;
        near_due = due;
        far_due = h.far_due;
        near_marks = h.near_marks;
        far_marks = h.far_marks ++ S k (length s.acc) ∷ [];
        near_shows = h.near_shows;
        far_shows = shows_push to_far h.far_marks (S k (expected s)) (S k (length s.acc)) refl h.far_shows;
        near_sends = flows_send_S h.near_sends (length s.acc) k;
        far_sends = flows_answer h.far_sends (S k (length s.acc)) refl;
        near_whole = λ v q. whole_send_S (length s.acc) k (h.near_whole (weak v) q);
        far_whole = λ v q. whole_answer_S k (acks v) (h.far_whole (weak v) (rnr v q));
      }

  joined_sent : {V : Type 0} → (V → W) → {near far : EndState} {to_near to_far : List OnWire} {info : Fragment} → fragment_due near.session ≡ Some info
      → Joined W near far to_near to_far
      → Joined V (record near { session = sent_next near.session }) far to_near (with_frame to_far (I (near.session.next % 8) (expected near.session) info))
  joined_sent weak {near} {far} {to_far = to_far} {info} is h =
      let s = near.session in
      let tells = fragment_due-within s info is in
      record {
        near_up = h.near_up;
        far_up = h.far_up;
        near_due = h.near_due;
        far_due = h.far_due;
        near_marks = h.near_marks;
        far_marks = h.far_marks ++ I s.next (length s.acc) info ∷ [];
        near_shows = h.near_shows;
        far_shows = shows_push to_far h.far_marks (I (s.next % 8) (expected s) info) (I s.next (length s.acc) info) refl h.far_shows;
        near_sends = flows_send h.near_sends (length s.acc) tells.0 tells.1;
        far_sends = flows_answer h.far_sends (I s.next (length s.acc) info) refl;
        near_whole = λ v q. whole_send (length s.acc) info h.near_sends.next_reach refl refl refl (h.near_whole (weak v) q);
        far_whole = λ v q. whole_answer_I s.next info (h.far_whole (weak v) q);
      }

  -- the near end sends its next frame, where one is due
  pub joined_fetched : (V : Type 0) → (V → W) → (near far : EndState) (to_near to_far : List OnWire)
      → (V → rnr_next (frame_due near) ≡ false)
      → Joined W near far to_near to_far → Joined V (fetched near) far to_near (with_next to_far (frame_due near))
  joined_fetched V weak near far to_near to_far rnr h =
      fetch_cases (λ e c. (V → rnr_next c ≡ false) → Joined V e far to_near (with_next to_far c)) near
      (λ d ds p r. control d ds p (rw p at h.near_due) r)
      (λ p q r. joined_weaker V weak near far to_near to_far h)
      (λ info p q r. joined_sent weak q h)
      rnr
    where
      control : (d : Due) (ds : List Due) → near.due ≡ d ∷ ds → AnswersOnly (d ∷ ds) → (V → rnr_next (Some (control_due near d)) ≡ false)
          → Joined V (record near { due = ds }) far to_near (with_frame to_far (control_due near d))
      control Rr_due ds p a r = joined_answered weak Rr a (λ v. tt) (λ v n. rw p n) h
      control Rej_due ds p a r = joined_answered weak Rej a (λ v. tt) (λ v n. rw p n) h
      control Rnr_due ds p a r = joined_answered weak Rnr a (λ v. absurd (true≢false (r v))) (λ v n. absurd (true≢false (r v))) h
      control _ ds p a r = absurd a

-- ## How many frames an end has still to send, and that it has sent all that was due once it fetched so many

-- where nothing is due a fetch changes nothing
pub fetched_idle : (e : EndState) → frame_due e ≡ None → fetched e ≡ e
fetched_idle e = grind arith

pub after_frames_idle : (n : ℕ) (e : EndState) → frame_due e ≡ None → after_frames n e ≡ e
after_frames_idle zero e h = refl
after_frames_idle (suc n) e h = rw (fetched_idle e h) (after_frames_idle n e h)

-- so many frames are due at most
abbrev pub left : EndState → ℕ
left e = length e.due + (e.session.acked + e.session.window - e.session.next)

pub idle_after : (n : ℕ) (e : EndState) → left e ≤ n → frame_due (after_frames n e) ≡ None
idle_after zero e h = grind arith
idle_after (suc n) e h = go (grind arith) (λ less. idle_after n (fetched e) less)
  where
    go : (frame_due e ≡ None) ⊎ (left (fetched e) + 1 ≤ left e) → (left (fetched e) ≤ n → frame_due (after_frames n (fetched e)) ≡ None)
        → frame_due (after_frames (suc n) e) ≡ None
    go (inl none) later = ap frame_due (after_frames_idle (suc n) e none) ∙ none
    go (inr less) later = later (omega arith)

-- an end that has nothing due has no control frame to send
pub no_due : (e : EndState) → frame_due e ≡ None → e.due ≡ []
no_due e = grind arith

-- ### A frame that is taken makes at most one control frame

few_taken_I : (e : EndState) (ns nr x : ℕ) (info : Fragment) → e.phase ≡ Up → place_of e.session nr ≡ Some x
    → length (taken e (I ns nr info)).due ≤ length e.due + 1
few_taken_I e ns nr x info up at =
    let P : EndState → Type 0 = λ f. length f.due ≤ length e.due + 1 in
    let one : (d : Due) → length (e.due ++ d ∷ []) ≤ length e.due + 1 = λ d. omega (arith, length-append e.due (d ∷ [])) in
    taken_I P e ns nr x info up at
    (received_cases P (acknowledged e x) ns info (λ z. one Rr_due) (λ z g. omega arith) (λ z g. one Rej_due) (λ z g. one Rr_due) (one Rnr_due))

pub few_taken : (e : EndState) (acc : List Fragment) (x : OnWire) (xs : List OnWire) (there back : List Control)
    → e.phase ≡ Up → Shows (x ∷ xs) back → Sends e.session acc there back → length (taken e x.frame).due ≤ length e.due + 1
few_taken e acc x xs there [] up shows sends = absurd shows
few_taken e acc x xs there (I p n info ∷ ms) up shows sends =
    let number = flows_number (I p n info) n refl sends in
    rw shows.0 (few_taken_I e (p % 8) (n % 8) n info up (place_found e.session n number.0 number.1 (omega (arith, sends.window, sends.reach_window))))
few_taken e acc x xs there (S k n ∷ ms) up shows sends = grind arith
few_taken e acc x xs there (Rset _ _ ∷ ms) up shows sends = absurd sends.counts
few_taken e acc x xs there (Ua ∷ ms) up shows sends = absurd sends.counts
few_taken e acc x xs there (Act _ _ ∷ ms) up shows sends = absurd sends.counts
few_taken e acc x xs there (Clt ∷ ms) up shows sends = absurd sends.counts

-- ## Where both wires are empty, and nothing was lost and no RNR made, all is accepted and acknowledged

pub past_end : {X : Type 0} (xs : List X) (k : ℕ) → slice_get xs k ≡ None → length xs ≤ k
past_end [] k h = omega arith
past_end (x ∷ xs) zero h = cc
past_end (x ∷ xs) (suc k) h = omega (arith, past_end xs k h)

whole_front : (acc out : List Fragment) → IsPrefix acc out → length out ≤ length acc → acc ≡ out
whole_front acc out p h =
    sym (append-nil acc) ∙ ap (λ l. acc ++ l) (sym (nil_from_length p.0 (omega (arith, length-append acc p.0, ap length p.1)))) ∙ p.1

no_fragment : (e : EndState) → frame_due e ≡ None → fragment_due e.session ≡ None
no_fragment e = grind arith

-- a sender that may send and has nothing due has sent all
all_sent : (s : Session) → s.peer_busy ≡ false → s.next < s.acked + s.window → fragment_due s ≡ None → length s.out ≤ s.next
all_sent s free inside none = past_end s.out s.next (rw (free, (lt-ltb s.next (s.acked + s.window) inside)) at none)

-- one direction, with no mark on either wire and no answer due
delivered_by : (s : Session) (acc : List Fragment) → Sends s acc [] [] → Whole s acc [] [] [] → fragment_due s ≡ None
    → (acc ≡ s.out) × (s.acked ≡ length s.out)
delivered_by s acc sends whole none =
    let told : s.acked ≡ length acc = whole.told refl in
    let all : length s.out ≤ s.next = all_sent s whole.free (omega (arith, sends.acked_next, sends.next_reach, sends.wide)) none in
    (whole_front acc s.out sends.front (omega (arith, sends.next_reach)), omega (arith, sends.next_reach, sends.reach_out))

pub delivered : {W : Type 0} {near far : EndState} {to_near to_far : List OnWire} → Joined W near far to_near to_far → W
    → frame_due near ≡ None → frame_due far ≡ None → to_near ≡ [] → to_far ≡ [] → FragmentsDelivered near.session far.session
delivered {near = near} {far} {to_near} {to_far} h w near_idle far_idle near_empty far_empty =
    let a : h.near_marks ≡ [] = grind arith in
    let b : h.far_marks ≡ [] = grind arith in
    let d : far.due ≡ [] = no_due far far_idle in
    let all = delivered_by near.session far.session.acc (rw (a, b) at h.near_sends) (grind arith) (no_fragment near near_idle) in
    record { accepted = all.0; acked = all.1 }
