-- One end of a link takes its turns and sends all that is due: how far this brings the places of both ends, and what stands on the wires.
use Rattle.std.proofs.lemmas.List.{append-nil}
use Rattle.lines_told.proofs.Words.{AnswersOnly, Bool, Control, Due, EndState, Fragment, I, IsPrefix, List, Losses, NoRnr, None, NumberedShdlc, OnWire, Rr}
use Rattle.lines_told.proofs.Words.{Rr_due, S, Session, ShdlcLink, ShdlcTurn, Some, Up, [], after_frames, aged_wire, ap, append_assoc, arith, cases_lt, cond}
use Rattle.lines_told.proofs.Words.{control_due, counts_first, data_due, drop, expected, false, fetch_cases, fetched, fetched_answers, few_turns, fits}
use Rattle.lines_told.proofs.Words.{fragment_due, frame_due, frames_of, inl, inr, is_act, is_rnr, is_rset, length, length-append, loses_aged, nat_lt, not_rset}
use Rattle.lines_told.proofs.Words.{noted_all, noted_loss, noted_out, or_parts, overflows, refl, sans, sends_keeps, sends_noted, shdlc_becomes, shdlc_exchanged}
use Rattle.lines_told.proofs.Words.{shdlc_put, shdlc_put_all, shdlc_turned, slice_get, slice_get-append, suc, sym, true, with_frame, zero, ℕ, ◌%◌, ◌&&◌, ◌++◌}
use Rattle.lines_told.proofs.Words.{◌+◌, ◌<◌, ◌∙◌, ◌∷◌, ◌≡◌, ◌≤◌, ◌⊎◌}
use Rattle.link_laws.proofs.places.Joined.{idle_after, left}
use Rattle.link_laws.proofs.sessions.Quiet.{few_room}
use Rattle.lines_told.proofs.fragments.Turns.{Answers, Brings, Differs, Turned, answers_no_act, brings_no_act, turned_up}

-- ## Frames that stand on a wire, among the first so many of them or anywhere, as frames are put behind them, taken or grow older

-- a frame like this is among the first k
abbrev pub StandsIn : (Control → Type 0) → ℕ → List OnWire → Type 0
StandsIn P k [] = ⊥
StandsIn P zero (x ∷ xs) = ⊥
StandsIn P (suc k) (x ∷ xs) = P x.frame ⊎ StandsIn P k xs

-- a frame like this stands on the wire
abbrev pub Stands : (Control → Type 0) → List OnWire → Type 0
Stands P [] = ⊥
Stands P (x ∷ xs) = P x.frame ⊎ Stands P xs

-- no RNR stands behind the first k
abbrev pub NoRnrBehind : ℕ → List OnWire → Type 0
NoRnrBehind k [] = Unit {0}
NoRnrBehind zero (x ∷ xs) = (is_rnr x.frame ≡ false) × NoRnrBehind zero xs
NoRnrBehind (suc k) (x ∷ xs) = NoRnrBehind k xs

-- ### Where a frame stands

module _ (P : Control → Type 0) where
  stands_in : (k : ℕ) (w : List OnWire) → StandsIn P k w → Stands P w
  stands_in k [] h = absurd h
  stands_in zero (x ∷ xs) h = absurd h
  stands_in (suc k) (x ∷ xs) (inl h) = inl h
  stands_in (suc k) (x ∷ xs) (inr h) = inr (stands_in k xs h)

  pub in_all : (w : List OnWire) → Stands P w → StandsIn P (length w) w
  in_all [] h = absurd h
  in_all (x ∷ xs) (inl h) = inl h
  in_all (x ∷ xs) (inr h) = inr (in_all xs h)

  pub in_none : (w : List OnWire) → StandsIn P 0 w → ⊥
  in_none [] h = h
  in_none (x ∷ xs) h = h

  pub in_more : (k m : ℕ) (w : List OnWire) → k ≤ m → StandsIn P k w → StandsIn P m w
  in_more k m [] i h = absurd h
  in_more zero m (x ∷ xs) i h = absurd h
  in_more (suc k) zero (x ∷ xs) i h = absurd (omega (arith, i))
  in_more (suc k) (suc m) (x ∷ xs) i (inl h) = inl h
  in_more (suc k) (suc m) (x ∷ xs) i (inr h) = inr (in_more k m xs (omega (arith, i)) h)

  -- the first frame is taken
  pub in_rest : (k m : ℕ) (x : OnWire) (xs : List OnWire) → k ≤ m + 1 → StandsIn P k (x ∷ xs) → P x.frame ⊎ StandsIn P m xs
  in_rest zero m x xs i h = absurd h
  in_rest (suc k) m x xs i (inl h) = inl h
  in_rest (suc k) m x xs i (inr h) = inr (in_more k m xs (omega (arith, i)) h)

  in_push : (k : ℕ) (w : List OnWire) (y : OnWire) → StandsIn P k w → StandsIn P k (w ++ y ∷ [])
  in_push k [] y h = absurd h
  in_push zero (x ∷ xs) y h = absurd h
  in_push (suc k) (x ∷ xs) y (inl h) = inl h
  in_push (suc k) (x ∷ xs) y (inr h) = inr (in_push k xs y h)

  stands_new : (w : List OnWire) (y : OnWire) → P y.frame → Stands P (w ++ y ∷ [])
  stands_new [] y p = inl p
  stands_new (x ∷ xs) y p = inr (stands_new xs y p)

  -- it is no frame of activation
  module _ (no_act : (c : Control) → is_act c ≡ true → P c → ⊥) where
    in_later : (k : ℕ) (x : OnWire) (xs : List OnWire) → is_act x.frame ≡ true → StandsIn P k (x ∷ xs) → StandsIn P k xs
    in_later zero x xs a h = absurd h
    in_later (suc k) x xs a (inl h) = absurd (no_act x.frame a h)
    in_later (suc k) x xs a (inr h) = in_more k (suc k) xs (omega arith) h

    -- a wire that loses no frame but of activation
    in_fits : (k : ℕ) (w : List OnWire) → overflows w ≡ false → StandsIn P k w → StandsIn P k (fits w)
    in_fits k w none h = go (nat_lt 64 (length w)) w none h
      where
        first : (x : OnWire) (xs : List OnWire) (b : Bool) → is_act x.frame ≡ b → counts_first (x ∷ xs) ≡ false → StandsIn P k (x ∷ xs) → StandsIn P k xs
        first x xs true q e g = in_later k x xs q g
        first x xs false q e g = absurd (let z : true ≡ false = rw q at e in cc)

        go : (b : Bool) (v : List OnWire) → (b && counts_first v) ≡ false → StandsIn P k v → StandsIn P k (cond b (drop 1 v) v)
        go false v e g = g
        go true [] e g = absurd g
        go true (x ∷ xs) e g = first x xs (is_act x.frame) refl e g

    -- one where no frame grows too old but of activation
    pub in_aged : (k : ℕ) (w : List OnWire) → loses_aged (sans w) ≡ false → StandsIn P k w → StandsIn P k (aged_wire w)
    in_aged k [] none h = absurd h
    in_aged zero (x ∷ xs) none h = absurd h
    in_aged (suc k) (x ∷ xs) none h = go (nat_lt x.age 4) (is_act x.frame) refl refl (in_aged k xs) h
      where
        go : (a b : Bool) → nat_lt x.age 4 ≡ a → is_act x.frame ≡ b → (loses_aged (sans xs) ≡ false → StandsIn P k xs → StandsIn P k (aged_wire xs))
            → P x.frame ⊎ StandsIn P k xs → StandsIn P (suc k) (aged_wire (x ∷ xs))
        go true b p q later (inl h) = rw p (inl h)
        go true b p q later (inr h) = rw p (inr (later (grind arith) h))
        go false true p q later (inl h) = absurd (no_act x.frame q h)
        go false true p q later (inr h) = rw p (in_more k (suc k) (aged_wire xs) (omega arith) (later (grind arith) h))
        go false false p q later h = absurd (let y : loses_aged (x ∷ sans xs) ≡ false = rw q at none in let z : true ≡ false = rw p at y in cc)

-- ### Where no RNR stands

pub behind_all : (w : List OnWire) → NoRnrBehind (length w) w
behind_all [] = tt
behind_all (x ∷ xs) = behind_all xs

pub behind_more : (k m : ℕ) (w : List OnWire) → k ≤ m → NoRnrBehind k w → NoRnrBehind m w
behind_more k m [] i h = tt
behind_more zero zero (x ∷ xs) i h = h
behind_more zero (suc m) (x ∷ xs) i h = behind_more zero m xs (omega arith) h.1
behind_more (suc k) zero (x ∷ xs) i h = absurd (omega (arith, i))
behind_more (suc k) (suc m) (x ∷ xs) i h = behind_more k m xs (omega (arith, i)) h

-- the first frame is taken
pub behind_rest : (k m : ℕ) (x : OnWire) (xs : List OnWire) → k ≤ m + 1 → NoRnrBehind k (x ∷ xs) → NoRnrBehind m xs
behind_rest zero m x xs i h = behind_more zero m xs (omega arith) h.1
behind_rest (suc k) m x xs i h = behind_more k m xs (omega (arith, i)) h

pub behind_push : (k : ℕ) (w : List OnWire) (y : OnWire) → is_rnr y.frame ≡ false → NoRnrBehind k w → NoRnrBehind k (w ++ y ∷ [])
behind_push zero [] y e h = (e, tt)
behind_push (suc k) [] y e h = tt
behind_push zero (x ∷ xs) y e h = (h.0, behind_push zero xs y e h.1)
behind_push (suc k) (x ∷ xs) y e h = behind_push k xs y e h

pub behind_fits : (k : ℕ) (w : List OnWire) → NoRnrBehind k w → NoRnrBehind k (fits w)
behind_fits k w h = go (nat_lt 64 (length w)) w h
  where
    go : (b : Bool) (v : List OnWire) → NoRnrBehind k v → NoRnrBehind k (cond b (drop 1 v) v)
    go false v g = g
    go true [] g = tt
    go true (x ∷ xs) g = behind_rest k k x xs (omega arith) g

pub behind_aged : (k : ℕ) (w : List OnWire) → NoRnrBehind k w → NoRnrBehind k (aged_wire w)
behind_aged k [] h = tt
behind_aged zero (x ∷ xs) h = let h0 = behind_aged zero xs h.1 in grind arith
behind_aged (suc k) (x ∷ xs) h = go (nat_lt x.age 4) refl (behind_aged k xs h)
  where
    go : (b : Bool) → nat_lt x.age 4 ≡ b → NoRnrBehind k (aged_wire xs) → NoRnrBehind (suc k) (aged_wire (x ∷ xs))
    go true p later = rw p later
    go false p later = rw p (behind_more k (suc k) (aged_wire xs) (omega arith) later)

-- ## How far the place a of a sender has come on its way to be acknowledged, from one moment of a link to a later one
-- The sender is the controller's end.

-- ### Fronts of lists

pub prefix_of : {X : Type 0} {xs ys : List X} → xs ≡ ys → IsPrefix xs ys
prefix_of {xs = xs} e = ([], append-nil xs ∙ e)

pub prefix_then : {X : Type 0} (xs ys zs : List X) → IsPrefix xs ys → IsPrefix ys zs → IsPrefix xs zs
prefix_then xs ys zs p q = (p.0 ++ q.0, sym (append_assoc xs p.0 q.0) ∙ (ap (λ l. l ++ q.0) p.1 ∙ q.1))

pub prefix_length : {X : Type 0} (xs ys : List X) → IsPrefix xs ys → length xs ≤ length ys
prefix_length {X} xs ys p = omega (arith, length-append xs p.0, ap (length {A = X}) p.1)

-- of two fronts of a list the shorter one is a front of the other
pub prefix_within : {X : Type 0} (xs ys zs : List X) → IsPrefix xs zs → IsPrefix ys zs → length xs ≤ length ys → IsPrefix xs ys
prefix_within [] ys zs p q i = (ys, refl)
prefix_within (x ∷ xs) [] zs p q i = absurd (omega (arith, i))
prefix_within {X} (x ∷ xs) (y ∷ ys) zs p q i = go zs p q (λ us a b. prefix_within xs ys us a b (omega (arith, i)))
  where
    go : (us : List X) → IsPrefix (x ∷ xs) us → IsPrefix (y ∷ ys) us → ((vs : List X) → IsPrefix xs vs → IsPrefix ys vs → IsPrefix xs ys)
        → IsPrefix (x ∷ xs) (y ∷ ys)
    go [] a b later = absurd (let z = a.1 in cc)
    go (u ∷ us) a b later =
        let r = later us (a.0, (let e : x ∷ (xs ++ a.0) ≡ u ∷ us = a.1 in cc)) (b.0, (let f : y ∷ (ys ++ b.0) ≡ u ∷ us = b.1 in cc)) in
        (r.0, let e = r.1 in cc)

-- ### The place a

-- it is acknowledged
abbrev pub Grown : ℕ → ShdlcLink → Type 0
Grown a l = a < l.controller.side.session.acked

-- the sender has sent all that is due
abbrev pub IsIdle : ShdlcLink → Type 0
IsIdle l = frame_due l.controller.side ≡ None

-- an answer is on its way to the sender, or the place is acknowledged
abbrev pub Answered : ℕ → ShdlcLink → Type 0
Answered a l = Stands (Answers a) l.to_controller ⊎ Grown a l

-- the fragment is on its way from it, or was answered
abbrev pub Sent : ℕ → ShdlcLink → Type 0
Sent a l = Stands (Brings a) l.to_host ⊎ Answered a l

-- from the timer k on, t ticks were counted, and none of them was the tenth
pub record Counted (k t : ℕ) (n : ShdlcLink) : Type 0 where
  pub timer : n.controller.side.timer ≡ k + t
  pub below : 0 < t → n.controller.side.timer < 10

-- From the one moment to the other the sender took c frames, the other end d, and the sender had t ticks.
pub record Advances (a c d t : ℕ) (m n : ShdlcLink) : Type 0 where
  pub acked : m.controller.side.session.acked ≤ n.controller.side.session.acked
  pub out : length m.controller.side.session.out ≤ length n.controller.side.session.out
  pub front : IsPrefix m.controller.side.session.out n.controller.side.session.out
  pub rnr : (j k : ℕ) → j ≤ k + c → NoRnrBehind j m.to_controller → NoRnrBehind k n.to_controller
  pub idle : IsIdle m ⊎ (0 < t) → IsIdle n
  pub answered : (j k : ℕ) → j ≤ k + c → a ≤ m.controller.side.session.acked → StandsIn (Answers a) j m.to_controller
      → StandsIn (Answers a) k n.to_controller ⊎ Grown a n
  pub sent : (j k : ℕ) → j ≤ k + d → a ≤ m.controller.side.session.acked → StandsIn (Brings a) j m.to_host
      → StandsIn (Brings a) k n.to_host ⊎ Answered a n
  pub waits : a ≤ m.controller.side.session.acked → a < length m.controller.side.session.out → NoRnrBehind 0 m.to_controller → IsIdle m
      → Counted m.controller.side.timer t n ⊎ Sent a n

module _ {a c d t : ℕ} {m n : ShdlcLink} (h : Advances a c d t m n) where
  pub grown_still : Grown a m → Grown a n
  grown_still g = omega (arith, h.acked)

  pub answered_still : a ≤ m.controller.side.session.acked → Answered a m → Answered a n
  answered_still low (inl g) = go (h.answered k k (omega arith) low (in_all (Answers a) m.to_controller g))
    where
      k : ℕ
      k = length m.to_controller

      go : StandsIn (Answers a) k n.to_controller ⊎ Grown a n → Answered a n
      go (inl e) = inl (stands_in (Answers a) k n.to_controller e)
      go (inr e) = inr e
  answered_still low (inr g) = inr (grown_still g)

  pub sent_still : a ≤ m.controller.side.session.acked → Sent a m → Sent a n
  sent_still low (inl g) = go (h.sent k k (omega arith) low (in_all (Brings a) m.to_host g))
    where
      k : ℕ
      k = length m.to_host

      go : StandsIn (Brings a) k n.to_host ⊎ Answered a n → Sent a n
      go (inl e) = inl (stands_in (Brings a) k n.to_host e)
      go (inr e) = inr e
  sent_still low (inr g) = inr (answered_still low g)

-- one after another
pub advances_then : {a c d t c' d' t' : ℕ} {m n o : ShdlcLink} → Advances a c d t m n → Advances a c' d' t' n o → Advances a (c + c') (d + d') (t + t') m o
advances_then {a} {c} {d} {t} {c'} {d'} {t'} {m} {n} {o} g h =
    record {
      acked = omega (arith, g.acked, h.acked);
      out = omega (arith, g.out, h.out);
      front = prefix_then m.controller.side.session.out n.controller.side.session.out o.controller.side.session.out g.front h.front;
      rnr = λ j k i r. h.rnr (k + c') k (omega arith) (g.rnr j (k + c') (omega arith) r);
      idle = λ e. idle e;
      answered = λ j k i low s. (grind arith);
      sent = λ j k i low s. sent k low (g.sent j (k + d') (omega arith) low s);
      waits = λ low more rnr idle. waits low more rnr idle (g.waits low more rnr idle);
    }
  where
    low_then : a ≤ m.controller.side.session.acked → a ≤ n.controller.side.session.acked
    low_then low = omega (arith, g.acked)

    idle : IsIdle m ⊎ (0 < t + t') → IsIdle o
    idle a = grind arith

    sent : (k : ℕ) → a ≤ m.controller.side.session.acked → StandsIn (Brings a) (k + d') n.to_host ⊎ Answered a n
        → StandsIn (Brings a) k o.to_host ⊎ Answered a o
    sent k low (inl e) = h.sent (k + d') k (omega arith) (low_then low) e
    sent k low (inr e) = inr (answered_still h (low_then low) e)

    waits : a ≤ m.controller.side.session.acked → a < length m.controller.side.session.out → NoRnrBehind 0 m.to_controller → IsIdle m
        → Counted m.controller.side.timer t n ⊎ Sent a n → Counted m.controller.side.timer (t + t') o ⊎ Sent a o
    waits low more rnr still (inr e) = inr (sent_still h (low_then low) e)
    waits low more rnr still (inl e) = grind arith

-- ## An end sends all that is due: what this leaves of the end, and what stands on the wire then

-- ### What the end is then

-- sending changes none of these
pub record SentSame (e f : EndState) : Type 0 where
  pub phase : f.phase ≡ e.phase
  pub ready : f.ready ≡ e.ready
  pub timer : f.timer ≡ e.timer
  pub window : f.session.window ≡ e.session.window
  pub acked : f.session.acked ≡ e.session.acked
  pub out : f.session.out ≡ e.session.out
  pub acc : f.session.acc ≡ e.session.acc

pub sent_same : (n : ℕ) (e : EndState) → SentSame e (after_frames n e)
sent_same zero e = record { phase = refl; ready = refl; timer = refl; window = refl; acked = refl; out = refl; acc = refl }
sent_same (suc n) e = let h0 = sent_same n (fetched e) in grind arith

-- ### What is left of the link

put_same : (l : ShdlcLink) (c : Control) → ((shdlc_put l c).to_controller ≡ l.to_controller) × ((shdlc_put l c).host ≡ l.host)
put_same l c = grind arith

pub put_all_same : (cs : List Control) (l : ShdlcLink) → ((shdlc_put_all l cs).to_controller ≡ l.to_controller) × ((shdlc_put_all l cs).host ≡ l.host)
put_all_same [] l = (refl, refl)
put_all_same (c ∷ cs) l =
    let one = put_same l c in
    let more = put_all_same cs (shdlc_put l c) in
    (more.0 ∙ one.0, more.1 ∙ one.1)

-- ### What stands on the wire

-- what was lost stays lost as frames go out
pub out_lost : (cs : List Control) (n : Losses) (l : ShdlcLink) → (noted_all n l cs).lost ≡ false → n.lost ≡ false
out_lost [] n l v = v
out_lost (c ∷ cs) n l v = (or_parts n.lost (overflows (with_frame l.to_host c)) (out_lost cs (noted_loss n l c) (shdlc_put l c) v)).0

module _ (P : Control → Type 0) (no_act : (c : Control) → is_act c ≡ true → P c → ⊥) where
  -- one more frame of a session is put there, and none is lost
  pub put_stands : (k : ℕ) (n : Losses) (l : ShdlcLink) (c : Control) → is_rset c ≡ false → (noted_loss n l c).lost ≡ false → StandsIn P k l.to_host
      → StandsIn P k (shdlc_put l c).to_host
  put_stands k n l c plain none h =
      rw plain
      (in_fits P no_act k (with_frame l.to_host c) (or_parts n.lost (overflows (with_frame l.to_host c)) none).1
      (in_push P k l.to_host (record { frame = c; age = 0; number = 0 }) h))

  put_new : (n : Losses) (l : ShdlcLink) (c : Control) → is_rset c ≡ false → (noted_loss n l c).lost ≡ false → P c → Stands P (shdlc_put l c).to_host
  put_new n l c plain none p =
      let w : List OnWire = with_frame l.to_host c in
      let all : StandsIn P (length w) w = in_all P w (stands_new P l.to_host (record { frame = c; age = 0; number = 0 }) p) in
      rw plain (stands_in P (length w) (fits w) (in_fits P no_act (length w) w (or_parts n.lost (overflows w) none).1 all))

  -- an end sends all that is due
  sent_stands : (k m : ℕ) (n : Losses) (e : EndState) (l : ShdlcLink) → AnswersOnly e.due → (noted_all n l (frames_of m e)).lost ≡ false
      → StandsIn P k l.to_host → StandsIn P k (shdlc_put_all l (frames_of m e)).to_host
  sent_stands k m n e l answers none h =
      (sends_noted (λ n e l. AnswersOnly e.due × (n.lost ≡ false → StandsIn P k l.to_host)) each m n e l (answers, λ v. h)).1 none
    where
      each : (n : Losses) (e : EndState) (l : ShdlcLink) (c : Control) → frame_due e ≡ Some c → AnswersOnly e.due × (n.lost ≡ false → StandsIn P k l.to_host)
          → AnswersOnly (fetched e).due × ((noted_loss n l c).lost ≡ false → StandsIn P k (shdlc_put l c).to_host)
      each n e l c is g = (
        fetched_answers e g.0,
        λ v. put_stands k n l c (not_rset c (inl (data_due e c g.0 is).0)) v (g.1 (or_parts n.lost (overflows (with_frame l.to_host c)) v).0),
      )

  -- the first frame that is due
  first_stands : (m : ℕ) (n : Losses) (e : EndState) (l : ShdlcLink) (c : Control) → AnswersOnly e.due → (noted_all n l (frames_of (suc m) e)).lost ≡ false
      → frame_due e ≡ Some c → P c → Stands P (shdlc_put_all l (frames_of (suc m) e)).to_host
  first_stands m n e l c answers none is p =
      let lost : (noted_all (noted_loss n l c) (shdlc_put l c) (frames_of m (fetched e))).lost ≡ false = rw is at none in
      let kept : (noted_loss n l c).lost ≡ false = out_lost (frames_of m (fetched e)) (noted_loss n l c) (shdlc_put l c) lost in
      let w : List OnWire = (shdlc_put l c).to_host in
      let new : Stands P w = put_new n l c (not_rset c (inl (data_due e c answers is).0)) kept p in
      let all : StandsIn P (length w) (shdlc_put_all (shdlc_put l c) (frames_of m (fetched e))).to_host =
      sent_stands (length w) m (noted_loss n l c) (fetched e) (shdlc_put l c) (fetched_answers e answers) lost (in_all P w new) in
      rw is (stands_in P (length w) (shdlc_put_all (shdlc_put l c) (frames_of m (fetched e))).to_host all)

-- the fragment that is due, behind all answers
fragment_stands : (P : Control → Type 0) → ((c : Control) → is_act c ≡ true → P c → ⊥) → (ds : List Due) (m : ℕ) (n : Losses) (e : EndState) (l : ShdlcLink)
    (info : Fragment) → e.due ≡ ds → length ds < m → AnswersOnly e.due → (noted_all n l (frames_of m e)).lost ≡ false
    → fragment_due e.session ≡ Some info → P (I (e.session.next % 8) (expected e.session) info) → Stands P (shdlc_put_all l (frames_of m e)).to_host
fragment_stands P no_act [] zero n e l info q i answers none is p = absurd (omega (arith, i))
fragment_stands P no_act [] (suc m) n e l info q i answers none is p =
    first_stands P no_act m n e l (I (e.session.next % 8) (expected e.session) info) answers none (rw (q, is) refl) p
fragment_stands P no_act (d ∷ ds) zero n e l info q i answers none is p = absurd (omega (arith, i))
fragment_stands P no_act (d ∷ ds) (suc m) n e l info q i answers none is p =
    let first : frame_due e ≡ Some (control_due e d) = rw q refl in
    let next : fetched e ≡ record e { due = ds } = rw q refl in
    let rest : AnswersOnly ds = rw next at (fetched_answers e answers) in
    rw (first, next)
    (fragment_stands P no_act ds m (noted_loss n l (control_due e d)) (record e { due = ds }) (shdlc_put l (control_due e d)) info refl (omega (arith, i)) rest
    (rw (first, next) at none) is p)

-- ### Where no RNR is due

sent_no_rnr : (k m : ℕ) (e : EndState) (l : ShdlcLink) → AnswersOnly e.due → NoRnr e.due → NoRnrBehind k l.to_host
    → NoRnrBehind k (shdlc_put_all l (frames_of m e)).to_host
sent_no_rnr k m e l answers none h = (sends_keeps (λ e l. AnswersOnly e.due × NoRnr e.due × NoRnrBehind k l.to_host) each m e l (answers, none, h)).2
  where
    each : (e : EndState) (l : ShdlcLink) (c : Control) → frame_due e ≡ Some c → AnswersOnly e.due × NoRnr e.due × NoRnrBehind k l.to_host
        → AnswersOnly (fetched e).due × NoRnr (fetched e).due × NoRnrBehind k (shdlc_put l c).to_host
    each e l c is g =
        let plain : is_rset c ≡ false = not_rset c (inl (data_due e c g.0 is).0) in
        let put : NoRnrBehind k (fits (with_frame l.to_host c)) =
        behind_fits k (with_frame l.to_host c)
        (behind_push k l.to_host (record { frame = c; age = 0; number = 0 }) (grind arith) g.2) in
        (fetched_answers e g.0, fetch_cases (λ f o. NoRnr f.due) e (λ d ds p. grind arith) (λ p q. g.1) (λ info p q. g.1), rw plain put)

-- ## One end of a link has become e, has its turns and sends all that is due: how far this brings its own places, and those of the other end
-- The controller's end is the near one.

-- all from the first place that isn't acknowledged on is to be sent, or that place alone
pub record StartsAgain (s : Session) : Type 0 where
  pub next : s.next ≡ s.acked
  pub may : (s.peer_busy ≡ false) ⊎ (s.probe ≡ true)

-- the timer of e has counted t ticks from k on
pub record CountedAt (k t : ℕ) (e : EndState) : Type 0 where
  pub timer : e.timer ≡ k + t
  pub below : 0 < t → e.timer < 10

-- The near end of m, which is a sender, has become e, and took c frames; l has the wires then.
pub record Sends (a c t : ℕ) (m l : ShdlcLink) (e : EndState) : Type 0 where
  pub up : e.phase ≡ Up
  pub answers : AnswersOnly e.due
  pub few : length e.due ≤ 1
  pub wide : 0 < e.session.window
  pub narrow : e.session.window ≤ 4
  pub from : e.session.acked ≤ e.session.next
  pub acked : m.controller.side.session.acked ≤ e.session.acked
  pub out : e.session.out ≡ m.controller.side.session.out
  pub rnr : (j k : ℕ) → j ≤ k + c → NoRnrBehind j m.to_controller → NoRnrBehind k l.to_controller
  pub answered : (j k : ℕ) → j ≤ k + c → a ≤ m.controller.side.session.acked → StandsIn (Answers a) j m.to_controller
      → StandsIn (Answers a) k l.to_controller ⊎ (a < e.session.acked)
  pub sent : (k : ℕ) → StandsIn (Brings a) k m.to_host → StandsIn (Brings a) k l.to_host
  pub waits : e.session.acked ≡ a → a ≤ m.controller.side.session.acked → a < length m.controller.side.session.out → NoRnrBehind 0 m.to_controller → IsIdle m
      → CountedAt m.controller.side.timer t e ⊎ StartsAgain e.session

pub get_some : {X : Type 0} (xs : List X) (k : ℕ) → k < length xs → (x : X) × (slice_get xs k ≡ Some x)
get_some [] k i = absurd (omega (arith, i))
get_some (x ∷ xs) zero i = (x, refl)
get_some (x ∷ xs) (suc k) i = get_some xs k (omega (arith, i))

module _ {a c t : ℕ} {m l : ShdlcLink} {e : EndState} (ts : List ShdlcTurn) (n : Losses) (none : (noted_out n l (shdlc_turned e ts)).lost ≡ false) where
  -- its own places
  pub advances_own : Sends a c t m l e → Advances a c 0 t m (shdlc_becomes l (shdlc_turned e ts))
  advances_own h =
      record {
        acked = omega (arith, h.acked, kept.acked, turned.acked);
        out = omega (
          arith,
          ap (length {A = Fragment}) kept.out,
          ap (length {A = Fragment}) turned.out,
          length-append e.session.out turned.more,
          ap (length {A = Fragment}) h.out,
        );
        front = (turned.more, sym (kept.out ∙ (turned.out ∙ ap (λ fs. fs ++ turned.more) h.out)));
        rnr = λ j k i r. rw put.0 (h.rnr j k i r);
        idle = λ _. idle_after 12 g few;
        answered = λ j k i low s. answered k (h.answered j k i low s);
        sent = λ j k i low s. inl (in_more (Brings a) j k to_host (omega arith) (sent_stands (Brings a) (brings_no_act a) j 12 n g l answers none
            (h.sent j s)));
        waits = λ low more rnr idle. waits low more rnr idle (cases_lt a e.session.acked);
      }
    where
      g : EndState
      g = shdlc_turned e ts

      to_host : List OnWire
      to_host = (shdlc_put_all l (frames_of 12 g)).to_host

      turned : Turned e g
      turned = turned_up ts e h.up

      kept : SentSame g (shdlc_becomes l g).controller.side
      kept = sent_same 12 g

      put : ((shdlc_put_all l (frames_of 12 g)).to_controller ≡ l.to_controller) × ((shdlc_put_all l (frames_of 12 g)).host ≡ l.host)
      put = put_all_same (frames_of 12 g) l

      answers : AnswersOnly g.due
      answers = turned.answers h.answers

      few : left g ≤ 12
      few = omega (arith, few_turns ts e h.up (few_room e h.few), turned.acked, turned.window, turned.next, h.from, h.narrow)

      answered : (k : ℕ) → StandsIn (Answers a) k l.to_controller ⊎ (a < e.session.acked)
          → StandsIn (Answers a) k (shdlc_becomes l g).to_controller ⊎ Grown a (shdlc_becomes l g)
      answered k (inl s) = inl (rw put.0 s)
      answered k (inr s) = inr (omega (arith, kept.acked, turned.acked))

      waits : a ≤ m.controller.side.session.acked → a < length m.controller.side.session.out → NoRnrBehind 0 m.to_controller → IsIdle m
          → (a < e.session.acked) ⊎ (e.session.acked ≤ a)
          → Counted m.controller.side.timer t (shdlc_becomes l g) ⊎ Sent a (shdlc_becomes l g)
      waits low more rnr idle (inl i) = inr (inr (inr (omega (arith, kept.acked, turned.acked))))
      waits low more rnr idle (inr i) = go (h.waits same low more rnr idle)
        where
          same : e.session.acked ≡ a
          same = omega (arith, h.acked)

          again : StartsAgain e.session → StartsAgain g.session
          again s = record { next = turned.next ∙ (s.next ∙ sym turned.acked); may = rw (turned.busy, turned.probe) s.may }

          sends : StartsAgain g.session → Sent a (shdlc_becomes l g)
          sends s =
              let some = get_some e.session.out g.session.next (omega (arith, s.next, turned.acked, same, ap (length {A = Fragment}) h.out)) in
              let is : slice_get g.session.out g.session.next ≡ Some some.0 =
              rw turned.out (slice_get-append e.session.out turned.more g.session.next some.0 some.1) in
              let due : fragment_due g.session ≡ Some some.0 = grind arith in
              let few : length g.due < 12 = omega (arith, few_turns ts e h.up (few_room e h.few)) in
              inl (fragment_stands (Brings a) (brings_no_act a) g.due 12 n g l some.0 refl few answers none due (ap (λ (k : ℕ). k % 8) (grind arith)))

          go : CountedAt m.controller.side.timer t e ⊎ StartsAgain e.session
              → Counted m.controller.side.timer t (shdlc_becomes l g) ⊎ Sent a (shdlc_becomes l g)
          go (inl k) =
              inl (record {
                timer = kept.timer ∙ (turned.timer ∙ k.timer);
                below = λ i. let b = k.below i in omega (arith, b, kept.timer, turned.timer);
              })
          go (inr s) = inr (sends (again s))

-- The near end of m, which is a receiver, has become e, and took c frames; l has the wires then.
pub record Receives (a c : ℕ) (m l : ShdlcLink) (e : EndState) : Type 0 where
  pub up : e.phase ≡ Up
  pub host : l.host ≡ m.host
  pub answers : AnswersOnly e.due
  pub no_rnr : NoRnr e.due
  pub rnr : (k : ℕ) → NoRnrBehind k m.to_host → NoRnrBehind k l.to_host
  pub stands : (k : ℕ) → StandsIn (Answers a) k m.to_host → StandsIn (Answers a) k l.to_host
  pub placed : (j k : ℕ) → j ≤ k + c → a ≤ m.host.side.session.acked → StandsIn (Brings a) j m.to_controller
      → StandsIn (Brings a) k l.to_controller
      ⊎ ((a < m.host.side.session.acked) ⊎ (((ds : List Due) × (e.due ≡ Rr_due ∷ ds)) × Differs (length e.session.acc) a))

module _ {a c : ℕ} {m l : ShdlcLink} {e : EndState} (ts : List ShdlcTurn) (n : Losses) (none : (noted_out n l (shdlc_turned e ts)).lost ≡ false) where
  -- the places of the other end
  pub advances_other : Receives a c m l e → Advances a 0 c 0 (shdlc_exchanged m) (shdlc_exchanged (shdlc_becomes l (shdlc_turned e ts)))
  advances_other h =
      record {
        acked = omega (arith, ap (λ (x : NumberedShdlc). x.side.session.acked) same);
        out = omega (arith, ap (λ (x : NumberedShdlc). length x.side.session.out) same);
        front = prefix_of (sym (ap (λ (x : NumberedShdlc). x.side.session.out) same));
        rnr = λ j k i r. behind_more j k to_host (omega arith) (sent_no_rnr j 12 g l answers (turned.no_rnr h.no_rnr) (h.rnr j r));
        idle = λ i. idle i;
        answered = λ j k i low s.
            inl (in_more (Answers a) j k to_host (omega arith) (sent_stands (Answers a) (answers_no_act a) j 12 n g l answers none (h.stands j s)));
        sent = λ j k i low s. sent k (h.placed j k i low s);
        waits = λ low more rnr idle.
            inl (record { timer = omega (arith, ap (λ (x : NumberedShdlc). x.side.timer) same); below = λ i. absurd (omega (arith, i)) });
      }
    where
      g : EndState
      g = shdlc_turned e ts

      to_host : List OnWire
      to_host = (shdlc_put_all l (frames_of 12 g)).to_host

      turned : Turned e g
      turned = turned_up ts e h.up

      put : ((shdlc_put_all l (frames_of 12 g)).to_controller ≡ l.to_controller) × ((shdlc_put_all l (frames_of 12 g)).host ≡ l.host)
      put = put_all_same (frames_of 12 g) l

      same : (shdlc_becomes l g).host ≡ m.host
      same = put.1 ∙ h.host

      answers : AnswersOnly g.due
      answers = turned.answers h.answers

      idle : IsIdle (shdlc_exchanged m) ⊎ (0 < 0) → IsIdle (shdlc_exchanged (shdlc_becomes l g))
      idle (inl i) = ap (λ (x : NumberedShdlc). frame_due x.side) same ∙ i
      idle (inr i) = absurd (omega (arith, i))

      replies : ((ds : List Due) × (e.due ≡ Rr_due ∷ ds)) → Differs (length e.session.acc) a → Stands (Answers a) to_host
      replies d other =
          let r = turned.first Rr_due d.0 d.1 in
          first_stands (Answers a) (answers_no_act a) 11 n g l (S Rr (expected g.session)) answers none (rw r.1 refl) (rw turned.acc other)

      sent : (k : ℕ) → StandsIn (Brings a) k l.to_controller
          ⊎ ((a < m.host.side.session.acked) ⊎ (((ds : List Due) × (e.due ≡ Rr_due ∷ ds)) × Differs (length e.session.acc) a))
          → StandsIn (Brings a) k (shdlc_becomes l g).to_controller ⊎ Answered a (shdlc_exchanged (shdlc_becomes l g))
      sent k (inl s) = inl (rw put.0 s)
      sent k (inr (inl i)) = inr (inr (omega (arith, ap (λ (x : NumberedShdlc). x.side.session.acked) same)))
      sent k (inr (inr r)) = inr (inl (replies r.0 r.1))
