-- What the sessions of two ends have to do with each other and with the frames on the wires, over resets.
use Rattle.std.proofs.Common.{◌==◌, max}
use Rattle.link_laws.proofs.Words.{Act, Clt, Control, Down, Due, EndState, Fragment, I, Kind, LinkState, List, None, NumberedShdlc, OnWire, Option}
use Rattle.link_laws.proofs.Words.{Rej_due, Rnr_due, Rr_due, Rset, S, Session, Some, Ua, Up, Waiting, [], accepted, acknowledged, ap, append_assoc, arith}
use Rattle.link_laws.proofs.Words.{discarded, ended_session, eqb-true, false, inl, inr, length, length-append, made_busy, no_session}
use Rattle.link_laws.proofs.Words.{older, place_of, ready_again, refl, rejected, repeated, sent_next, shdlc_number_of, shdlc_session_of, slice_get}
use Rattle.link_laws.proofs.Words.{slice_get_within, sym, take_answer, taken, ℕ, ◌%◌, ◌++◌, ◌+◌, ◌<◌, ◌∙◌, ◌∷◌, ◌≡◌, ◌≤◌, ◌⊎◌}
use Rattle.link_laws.proofs.places.Joined.{ahead_other, answer_I, answer_S, place_found, received_cases, taken_I, taken_S}
use Rattle.link_laws.proofs.places.Flows.{Carries, Counts, MayFollow, Places, counts_higher, counts_le, counts_lost, counts_lower, counts_push}
use Rattle.link_laws.proofs.places.Flows.{front_accept, places_accepted, places_grow, places_push, places_push_S, places_reach, reduced}
use Rattle.link_laws.proofs.sessions.Wire.{IsData, no_rset_step, rsets}
use Rattle.link_laws.proofs.Cases.{by_test}
use mathlib.Core.List.{IsPrefix}

-- one end's session as the sender's, and the other's of the same number as the receiver's
pub record Base (s r : Session) : Type 0 where
  pub from : s.acked ≤ s.next
  pub sent : s.next ≤ s.reached
  pub offered : s.reached ≤ length s.out
  pub within : s.reached ≤ s.acked + s.window
  pub most : s.window ≤ 4
  pub front : IsPrefix r.acc s.out
  pub fits : length r.acc ≤ s.reached
  pub acked : s.acked ≤ length r.acc

-- the wire shows these marks, and one RSET behind them at most
abbrev pub ShowsAct : List OnWire → List Control → Type 0
ShowsAct [] [] = Unit {0}
ShowsAct [] (m ∷ ms) = ⊥
ShowsAct (x ∷ xs) [] = ((w : ℕ) × (c : ℕ) × (x.frame ≡ Rset w c)) × (xs ≡ [])
ShowsAct (x ∷ xs) (m ∷ ms) = (x.frame ≡ reduced m) × ShowsAct xs ms

-- the frames that an end will take in its session, and the session of the other end that they come from
pub record Active (w : List OnWire) (mine theirs : Session) : Type 0 where
  pub marks : List Control
  pub shows : ShowsAct w marks
  pub places : Places theirs.out (length mine.acc) theirs.reached marks
  pub counts : Counts mine.acked (length theirs.acc) marks

abbrev pub OnLive : Option (List OnWire) → Session → Session → Type 0
OnLive None mine theirs = Unit {0}
OnLive (Some w) mine theirs = Active w mine theirs

-- ## Sessions by number

-- all ended sessions have lower numbers
abbrev pub Below : ℕ → List (ℕ × Session) → Type 0
Below b [] = Unit {0}
Below b (x ∷ xs) = (x.0 < b) × Below b xs

pub below_more : (b c : ℕ) (past : List (ℕ × Session)) → b ≤ c → Below b past → Below c past
below_more b c [] i h = tt
below_more b c (x ∷ xs) i h = (omega (arith, h.0), below_more b c xs i h.1)

pub none_ended : (b n : ℕ) (past : List (ℕ × Session)) → b ≤ n → Below b past → ended_session past n ≡ no_session
none_ended b n [] i h = refl
none_ended b n (x ∷ xs) i h = let h0 = none_ended b n xs i h.1 in grind arith

abbrev pub bound : NumberedShdlc → ℕ
bound h = by_phase h.side.phase where
  by_phase : LinkState → ℕ
  by_phase Up = shdlc_number_of h
  by_phase Waiting = h.emitted
  by_phase Down = shdlc_number_of h + 1

-- an end that is Up
pub of_up : (h : NumberedShdlc) → h.side.phase ≡ Up → shdlc_session_of h (shdlc_number_of h) ≡ h.side.session
of_up h up = grind arith

-- its session goes on with other fragments
pub of_update : (P : ℕ → Session → Type 0) (h g : NumberedShdlc) → h.side.phase ≡ Up → g.side.phase ≡ Up → shdlc_number_of g ≡ shdlc_number_of h
    → g.past ≡ h.past
    → ((k : ℕ) → P k (shdlc_session_of h k)) → P (shdlc_number_of h) g.side.session → (k : ℕ) → P k (shdlc_session_of g k)
of_update P h g up up' num past all new k =
    by_test (k == shdlc_number_of h) (λ q. rw (up', num, q) (rw (← eqb-true k (shdlc_number_of h) q) at new))
    (λ q. rw (up', num, q, past) (let a : P k (shdlc_session_of h k) = all k in rw (up, q) at a))

-- its session ends and is kept
pub of_end : (P : ℕ → Session → Type 0) (h g : NumberedShdlc) → h.side.phase ≡ Up → (g.side.phase ≡ Up → ⊥)
    → g.past ≡ (shdlc_number_of h, h.side.session) ∷ h.past
    → ((k : ℕ) → P k (shdlc_session_of h k)) → (k : ℕ) → P k (shdlc_session_of g k)
of_end P h g up down past all k = (let h0 = (all k) in grind arith)

-- an end without a session stays so
pub of_none : (P : ℕ → Session → Type 0) (h g : NumberedShdlc) → (h.side.phase ≡ Up → ⊥) → (g.side.phase ≡ Up → ⊥) → g.past ≡ h.past
    → ((k : ℕ) → P k (shdlc_session_of h k)) → (k : ℕ) → P k (shdlc_session_of g k)
of_none P h g down down' past all k = (let h0 = (all k) in grind arith)

-- a session begins at an end that has none
pub of_begin : (P : ℕ → Session → Type 0) (h g : NumberedShdlc) → (h.side.phase ≡ Up → ⊥) → g.side.phase ≡ Up → g.past ≡ h.past
    → ((k : ℕ) → P k (shdlc_session_of h k)) → P (shdlc_number_of g) g.side.session → (k : ℕ) → P k (shdlc_session_of g k)
of_begin P h g down up past all new k = (let h0 = (k == shdlc_number_of g) in let h1 = (all k) in grind arith)

-- an end in whose session the other accepted the same
base_there : {r s t : Session} → t.acc ≡ s.acc → Base r s → Base r t
base_there a b = grind arith

-- ## The near end is Up: its session, the other end's of the same number, and the two parts of the wires

-- a part of a wire with one frame more
abbrev pub pushed : Option (List OnWire) → OnWire → Option (List OnWire)
pushed None x = None
pushed (Some w) x = Some (w ++ x ∷ [])

pub record Pair (s r : Session) (here : List OnWire) (there : Option (List OnWire)) : Type 0 where
  pub mine : Base s r
  pub theirs : Base r s
  pub comes : Active here s r
  pub goes : OnLive there r s

-- a session without what its end notes of itself and of the other end
abbrev pub sans_notes : Session → Session
sans_notes s = record s { peer_busy = false; probe = false; gap_open = false; answered_rnr = false }

-- a number that comes, n, is a length accepted, from what is acknowledged to what was sent, and the marks behind it tell no less
record TellsAccepted (s r : Session) (n : ℕ) (ms : List Control) : Type 0 where
  from : s.acked ≤ n
  reached : n ≤ s.reached
  accepted : n ≤ length r.acc
  counts : Counts n (length r.acc) ms

-- the near end goes on in a session t with the same fragments, of which n are acknowledged, from the place `next`
pair_of : {s t r : Session} {n next : ℕ} {ms : List Control} {before here : List OnWire} {there : Option (List OnWire)} → Pair s r before there
    → TellsAccepted s r n ms → n ≤ next → next ≤ s.reached → sans_notes t ≡ sans_notes (record s { acked = n; next = next })
    → ShowsAct here ms → Places r.out (length s.acc) r.reached ms → Pair t r here there
pair_of h tells from sent same shows places = grind arith

-- it goes on from another place, and nothing came
pub pair_next : {s t r : Session} {next : ℕ} {here : List OnWire} {there : Option (List OnWire)} → s.acked ≤ next → next ≤ s.reached
    → sans_notes t ≡ sans_notes (record s { next = next }) → Pair s r here there → Pair t r here there
pair_next from sent same h = grind arith

-- more is offered
pub pair_put : {s r : Session} {here : List OnWire} {there : Option (List OnWire)} (more : List Fragment)
    → Pair s r here there → Pair (record s { out = s.out ++ more }) r here there
pair_put {s} {r} {there = there} more h =
    record {
      mine = record {
        from = h.mine.from;
        sent = h.mine.sent;
        offered = omega (arith, h.mine.offered, length-append s.out more);
        within = h.mine.within;
        most = h.mine.most;
        front = (h.mine.front.0 ++ more, sym (append_assoc r.acc h.mine.front.0 more) ∙ ap (λ l. l ++ more) h.mine.front.1);
        fits = h.mine.fits;
        acked = h.mine.acked;
      };
      theirs = base_there refl h.theirs;
      comes = record { marks = h.comes.marks; shows = h.comes.shows; places = h.comes.places; counts = h.comes.counts };
      goes = go there h.goes;
    }
  where
    go : (o : Option (List OnWire)) → OnLive o r s → OnLive o r (record s { out = s.out ++ more })
    go None g = tt
    go (Some w) g = record { marks = g.marks; shows = g.shows; places = places_grow s.out more (length r.acc) s.reached g.marks g.places; counts = g.counts }

-- the marks of a part of a wire without an RSET go on
pub shows_push : (w : List OnWire) (ms : List Control) (x : OnWire) (m : Control) → x.frame ≡ reduced m → rsets w ≡ [] → ShowsAct w ms
    → ShowsAct (w ++ x ∷ []) (ms ++ m ∷ [])
shows_push [] [] x m e none h = (e, tt)
shows_push [] (_ ∷ _) x m e none h = absurd h
shows_push (y ∷ w) [] x m e none h = grind arith
shows_push (y ∷ w) (k ∷ ms) x m e none h = (h.0, shows_push w ms x m e (no_rset_step y.frame y.age (rsets w) none).0 h.1)

pub shows_push_rset : (w : List OnWire) (ms : List Control) (x : OnWire) (v c : ℕ) → x.frame ≡ Rset v c → rsets w ≡ [] → ShowsAct w ms
    → ShowsAct (w ++ x ∷ []) ms
shows_push_rset [] [] x v c e none h = ((v, c, e), refl)
shows_push_rset [] (_ ∷ _) x v c e none h = absurd h
shows_push_rset (y ∷ w) [] x v c e none h = grind arith
shows_push_rset (y ∷ w) (k ∷ ms) x v c e none h = (h.0, shows_push_rset w ms x v c e (no_rset_step y.frame y.age (rsets w) none).0 h.1)

pub shows_older : (w : List OnWire) (ms : List Control) → ShowsAct w ms → ShowsAct (older w) ms
shows_older [] [] h = tt
shows_older [] (_ ∷ _) h = absurd h
shows_older (x ∷ xs) [] h = (h.0, ap older h.1)
shows_older (x ∷ xs) (_ ∷ ms) h = (h.0, shows_older xs ms h.1)

-- the first frame is lost
pub active_lost : (x : OnWire) (w : List OnWire) (mine theirs : Session) → Base mine theirs → Active (x ∷ w) mine theirs → Active w mine theirs
active_lost x w mine theirs b h = go h.marks h.shows h.places h.counts
  where
    go : (ms : List Control) → ShowsAct (x ∷ w) ms → Places theirs.out (length mine.acc) theirs.reached ms → Counts mine.acked (length theirs.acc) ms
        → Active w mine theirs
    go [] s p c = rw s.1 (grind arith)
    go (m ∷ ms) s p c =
        record {
          marks = ms;
          shows = s.1;
          places = let h0 = (length mine.acc) in grind arith;
          counts = counts_lost mine.acked (length theirs.acc) m ms c;
        }

-- no RSET stands in a part of a wire
abbrev pub Plain : Option (List OnWire) → Type 0
Plain None = Unit {0}
Plain (Some w) = rsets w ≡ []

-- the next fragment is sent
pub pair_send : {s r : Session} {info : Fragment} {here : List OnWire} {there : Option (List OnWire)} (x : OnWire)
    → s.next < s.acked + s.window → slice_get s.out s.next ≡ Some info → x.frame ≡ I (s.next % 8) (length s.acc % 8) info → Plain there
    → Pair s r here there → Pair (sent_next s) r here (pushed there x)
pair_send {s} {r} {info} {there = there} x inside is frame plain h =
    record {
      mine = record {
        from = omega (arith, h.mine.from);
        sent = omega arith;
        offered = omega (arith, h.mine.offered, within);
        within = omega (arith, h.mine.within);
        most = h.mine.most;
        front = h.mine.front;
        fits = omega (arith, h.mine.fits);
        acked = h.mine.acked;
      };
      theirs = base_there refl h.theirs;
      comes = record { marks = h.comes.marks; shows = h.comes.shows; places = h.comes.places; counts = h.comes.counts };
      goes = go there plain h.goes;
    }
  where
    within : s.next < length s.out
    within = slice_get_within s.out s.next info is

    m : ℕ
    m = max s.reached (s.next + 1)

    follows : MayFollow s.out (length r.acc) m s.next info
    follows = grind arith

    go : (o : Option (List OnWire)) → Plain o → OnLive o r s → OnLive (pushed o x) r (sent_next s)
    go None p g = tt
    go (Some w) p g =
        record {
          marks = g.marks ++ I s.next (length s.acc) info ∷ [];
          shows = shows_push w g.marks x (I s.next (length s.acc) info) frame p g.shows;
          places = places_push (length s.acc) g.marks follows (places_reach s.out (length r.acc) s.reached m g.marks (omega arith) g.places);
          counts = counts_push r.acked (length s.acc) g.marks (I s.next (length s.acc) info) refl g.counts;
        }

-- an answer is sent
pub pair_send_S : {s r : Session} {k : Kind} {here : List OnWire} {there : Option (List OnWire)} (x : OnWire) → x.frame ≡ S k (length s.acc % 8) → Plain there
    → Pair s r here there → Pair s r here (pushed there x)
pair_send_S {s} {r} {k} {there = there} x frame plain h = record { mine = h.mine; theirs = h.theirs; comes = h.comes; goes = go there plain h.goes }
  where
    go : (o : Option (List OnWire)) → Plain o → OnLive o r s → OnLive (pushed o x) r s
    go None p g = tt
    go (Some w) p g =
        record {
          marks = g.marks ++ S k (length s.acc) ∷ [];
          shows = shows_push w g.marks x (S k (length s.acc)) frame p g.shows;
          places = places_push_S s.out (length r.acc) s.reached (length s.acc) k g.marks g.places;
          counts = counts_push r.acked (length s.acc) g.marks (S k (length s.acc)) refl g.counts;
        }

-- ## The near end, which is Up, takes a frame of its session

-- RR, REJ or RNR is due
abbrev pub IsAnswer : Due → Type 0
IsAnswer Rr_due = Unit {0}
IsAnswer Rej_due = Unit {0}
IsAnswer Rnr_due = Unit {0}
IsAnswer _ = ⊥

-- the end f that e has become
pub record TakenUp (e f : EndState) (r : Session) (here : List OnWire) (there : Option (List OnWire)) : Type 0 where
  pub up : f.phase ≡ Up
  pub pair : Pair f.session r here there
  pub due : (f.due ≡ e.due) ⊎ ((d : Due) × IsAnswer d × (f.due ≡ e.due ++ d ∷ []))
  pub own : f.own_window ≡ e.own_window
  pub peer : f.peer_window ≡ e.peer_window

-- what a number that comes tells
number_of_mark : (s r : Session) (c : Control) (n : ℕ) (ms : List Control) → Base s r → Carries c n → Counts s.acked (length r.acc) (c ∷ ms)
    → TellsAccepted s r n ms
number_of_mark s r (I p k info) n ms b e c =
    let fits : k ≤ length r.acc = counts_le k (length r.acc) ms c.1 in
    record { from = omega (arith, c.0); reached = omega (arith, b.fits); accepted = omega arith; counts = counts_lower k n (length r.acc) ms (omega arith) c.1 }
number_of_mark s r (S kind k) n ms b e c =
    let fits : k ≤ length r.acc = counts_le k (length r.acc) ms c.1 in
    record { from = omega (arith, c.0); reached = omega (arith, b.fits); accepted = omega arith; counts = counts_lower k n (length r.acc) ms (omega arith) c.1 }
number_of_mark s r (_) n ms b e c = absurd e

pub taken_up : (e : EndState) {r : Session} {x : OnWire} {here : List OnWire} {there : Option (List OnWire)} → e.phase ≡ Up → IsData x.frame
    → Pair e.session r (x ∷ here) there
    → TakenUp e (taken e x.frame) r here there × ((take_answer e x.frame).ended ≡ None)
taken_up e {r} {x} {here} {there} up data' h = go h.comes.marks h.comes.shows h.comes.places h.comes.counts
  where
    s : Session
    s = e.session

    go : (ms : List Control) → ShowsAct (x ∷ here) ms → Places r.out (length s.acc) r.reached ms → Counts s.acked (length r.acc) ms
        → TakenUp e (taken e x.frame) r here there × ((take_answer e x.frame).ended ≡ None)
    go [] shows places counts = absurd (let d : IsData (Rset shows.0.0 shows.0.1) = rw shows.0.2 at data' in d)
    go (I p n info ∷ ms) shows places counts =
        let number = number_of_mark s r (I p n info) n ms h.mine refl counts in
        let place : place_of s (n % 8) ≡ Some n = place_found s n number.from number.reached (omega (arith, h.mine.within, h.mine.most)) in
        let f : EndState = acknowledged e n in
        let upper : max s.next n ≤ s.reached = omega (arith, h.mine.sent, number.reached) in
        let same : (g : EndState) → g.phase ≡ e.phase → g.own_window ≡ e.own_window → g.peer_window ≡ e.peer_window
        → sans_notes g.session ≡ sans_notes (record s { acked = n; next = max s.next n })
        → (g.due ≡ e.due) ⊎ ((d : Due) × IsAnswer d × (g.due ≡ e.due ++ d ∷ [])) → TakenUp e g r here there =
        λ g ph own peer same due. (grind arith) in (
          rw shows.0 (taken_I (λ g. TakenUp e g r here there) e (p % 8) (n % 8) n info up place
              (received_cases (λ g. TakenUp e g r here there) f (p % 8) info
              (λ z. accept p n info ms shows.1 places number (ahead_other f.session p places.0 (grind arith) z))
              (λ z g. same f refl refl refl refl (inl refl))
              (λ z g. grind arith)
              (λ z g. same (repeated f) refl refl refl refl (inr (Rr_due, tt, refl)))
              (same (discarded f) refl refl refl refl (inr (Rnr_due, tt, refl))))),
          rw shows.0 (answer_I e (p % 8) (n % 8) info up),
        )
      where
        accept : (p n : ℕ) (info : Fragment) (ms : List Control) → ShowsAct here ms → Places r.out (length s.acc) r.reached (I p n info ∷ ms)
            → TellsAccepted s r n ms → p ≡ length s.acc
            → TakenUp e (accepted (acknowledged e n) info) r here there
        accept p n info ms shows places number at =
            let one : length (s.acc ++ info ∷ []) ≡ length s.acc + 1 = length-append s.acc (info ∷ []) in
            let is : slice_get r.out (length s.acc) ≡ Some info = rw (← at) places.2 in
            record {
              up = up;
              pair = record {
                mine = grind arith;
                theirs = record {
                  from = h.theirs.from;
                  sent = h.theirs.sent;
                  offered = h.theirs.offered;
                  within = h.theirs.within;
                  most = h.theirs.most;
                  front = front_accept s.acc r.out info is h.theirs.front;
                  fits = omega (arith, places.1, one);
                  acked = omega (arith, h.theirs.acked, one);
                };
                comes = record {
                  marks = ms;
                  shows = shows;
                  places = rw one (places_accepted r.out (length s.acc) r.reached ms (rw (← at) places.3) places.4);
                  counts = number.counts;
                };
                goes = goes there h.goes one;
              };
              due = inr (Rr_due, tt, refl);
              own = refl;
              peer = refl;
            }
          where
            goes : (o : Option (List OnWire)) → OnLive o r s → length (s.acc ++ info ∷ []) ≡ length s.acc + 1
                → OnLive o r (accepted (acknowledged e n) info).session
            goes None g one = tt
            goes (Some w) g one =
                record {
                  marks = g.marks;
                  shows = g.shows;
                  places = g.places;
                  counts = counts_higher r.acked (length s.acc)
                      (length (s.acc ++ info ∷ [])) g.marks (omega arith) g.counts;
                }
    go (S k n ∷ ms) shows places counts =
        let number = number_of_mark s r (S k n) n ms h.mine refl counts in
        let place : place_of s (n % 8) ≡ Some n = place_found s n number.from number.reached (omega (arith, h.mine.within, h.mine.most)) in
        let upper : max s.next n ≤ s.reached = omega (arith, h.mine.sent, number.reached) in
        let at : (g : EndState) (next : ℕ) → n ≤ next → next ≤ s.reached → g.phase ≡ e.phase → g.own_window ≡ e.own_window → g.peer_window ≡ e.peer_window
        → sans_notes g.session ≡ sans_notes (record s { acked = n; next = next })
        → g.due ≡ e.due → TakenUp e g r here there =
        λ g next i j ph own peer same due. (grind arith) in (
          rw shows.0 (taken_S (λ g. TakenUp e g r here there) e k (n % 8) n up place (record {
            rr = λ is. at (ready_again e n) (max s.next n) (omega arith) upper refl refl refl refl refl;
            rej = λ is. at (rejected e n) n (omega arith) number.reached refl refl refl refl refl;
            rnr = λ is. at (made_busy e n) n (omega arith) number.reached refl refl refl refl refl;
            srej = λ is. record {
              up = up;
              pair = record {
                mine = h.mine;
                theirs = h.theirs;
                comes = record { marks = ms; shows = shows.1; places = places; counts = counts_lower n s.acked (length r.acc) ms number.from number.counts };
                goes = h.goes;
              };
              due = inl refl;
              own = refl;
              peer = refl;
            };
          })),
          rw shows.0 (answer_S e k (n % 8) up),
        )
    go (Rset _ _ ∷ ms) shows places counts = absurd counts
    go (Ua ∷ ms) shows places counts = absurd counts
    go (Act _ _ ∷ ms) shows places counts = absurd counts
    go (Clt ∷ ms) shows places counts = absurd counts
