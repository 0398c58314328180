-- What the tap knows as an end takes a frame: an RSET, a UA, or a fragment whose answer goes out.
use Rattle.world_laws.proofs.Words.{Base, Below, Bool, Control, Down, Due, EndState, Fragment, IsAnswer, IsData, IsRset, LinkState, List, None, NumberedShdlc}
use Rattle.world_laws.proofs.Words.{OnWire, Option, Rej, Rej_due, Rnr, Rnr_due, Rr, Rr_due, Rset, Rset_due, S, Safe, Session, ShdlcLink, ShdlcTurn, Some}
use Rattle.world_laws.proofs.Words.{TakenUp, TapSide, TapState, Ua, Ua_due, Up, Waiting, [], ap, append_assoc, are_taken, arith, below_more, brought_by}
use Rattle.world_laws.proofs.Words.{by_option, by_test, cond, drop, ended_session, eq-eqb, expected, false, fits, frame_cases, given_by, good_of, got_with}
use Rattle.world_laws.proofs.Words.{hears_all, inl, inr, is_in_session, is_some, length, length-append, length-take-le, listed_at, live, lt-ltb, ltb-true, map}
use Rattle.world_laws.proofs.Words.{max, min, nat_lt, ne_eqb, news_behind, no_session, none_ended, not_rset, packets_in, pair_from, passes, refl, rset_told}
use Rattle.world_laws.proofs.Words.{rsets, sans, sent_then, session_with, shdlc_number_of, shdlc_put, shdlc_session_of, shdlc_turned, subst, suc, sym, take}
use Rattle.world_laws.proofs.Words.{take_answer, taken, taken_up, tap_hears, tap_tells, tells_all, tells_more, told_by, took_other, took_with, true, ua_told}
use Rattle.world_laws.proofs.Words.{up_with, with_number, with_shdlc_ended, zero, ℕ, ◌%◌, ◌++◌, ◌+◌, ◌<◌, ◌==◌, ◌∙◌, ◌∷◌, ◌≡◌, ◌≤◌, ◌⊎◌}
use Rattle.link_laws.proofs.sessions.Steps.{took}
use Rattle.world_laws.proofs.fragments.Going.{Alike, GoesAt, Knows, KnowsLink, Tracks, Went, can_send, count_up, ever_sent, goes_answer, in_session, knows_side}
use Rattle.world_laws.proofs.fragments.Going.{session_above, session_now, still_no_ua, tracks_far, tracks_renumbered, went_none, went_one}
use Rattle.world_laws.proofs.fragments.Wires.{NoUa, is_ua}

-- ## What the tap knows after an RSET or a UA of an end, and after the answer to a fragment that was accepted

-- ### An RSET

-- the end n has become m, which waits, and sends the next RSET of the link
pub record Asks (n m f : NumberedShdlc) (s : TapSide) (to_n : List OnWire) (r : ℕ) : Type 0 where
  pub alike : Alike n m
  pub waits : m.side.phase ≡ Waiting
  pub emitted : m.emitted ≡ r + 1
  pub took : m.took ≡ n.took
  pub past : Below (s.number + 1) m.past
  pub no_ua : NoUa to_n
  pub bound : n.emitted ≤ r
  pub far_bound : f.emitted ≤ r

pub knows_rset : {bare : Bool} {t : TapState} {n m f : NumberedShdlc} {to_n to_f : List OnWire} {r : ℕ} (x : OnWire) (w c : ℕ) → is_ua x.frame ≡ false
    → Asks n m f t.clf to_n r → Knows bare t n f to_n to_f r
    → Knows bare (tap_hears bare t (Rset w c)) m f to_n (fits (to_f ++ x ∷ [])) (r + 1)
knows_rset {bare} {t} {n} {m} {f} {to_n} {to_f} {r} x w c plain a h = subst P (sym (grind arith)) (record { near = near; far = far; rsets = refl })
  where
    side : TapSide
    side = record t.clf { number = r + 1; count = 0; asked = r + 1 }

    P : TapState → Type 0
    P z = Knows bare z m f to_n (fits (to_f ++ x ∷ [])) (r + 1)

    low : t.clf.number ≤ r
    low = omega (arith, h.near.upto, h.near.took, a.bound, a.far_bound)

    none : shdlc_session_of m (r + 1) ≡ no_session
    none = (grind arith) ∙ none_ended (t.clf.number + 1) (r + 1) m.past (omega (arith, low)) a.past

    near : Tracks bare side t.uicc m f to_n
    near = record {
      asked = sym a.emitted;
      from = omega (arith, a.emitted);
      upto = omega (arith, a.emitted);
      now = λ _. omega (arith, a.emitted, a.took, h.near.took, a.far_bound);
      took = omega (arith, a.took, h.near.took);
      named = inr (λ _. omega arith);
      past = below_more (t.clf.number + 1) (r + 1 + 1) m.past (omega (arith, low)) a.past;
      count = sym (ap (λ (z : Session). length z.acc) none);
      list = h.near.list ∙ sym (a.alike t.uicc.number).sent;
      low = h.near.low;
      met = λ u. absurd (grind arith);
      told = inl a.no_ua;
    }

    f_none : shdlc_session_of f (r + 1) ≡ no_session
    f_none =
        session_above f t.uicc.number (r + 1) h.far.past (omega (arith, a.far_bound, h.far.took, a.bound))
        (omega (arith, h.far.upto, a.far_bound, h.far.took, a.bound))

    told : NoUa to_f ⊎ (f.emitted ≤ t.clf.number) → NoUa to_f ⊎ (f.emitted ≤ side.number)
    told (inl q) = inl q
    told (inr q) = inr (omega (arith, q, low))

    far : Tracks bare t.uicc side f m (fits (to_f ++ x ∷ []))
    far = tracks_renumbered {n = n} {m = m} {to_f = to_f} (omega (arith, low)) (omega (arith, a.emitted, a.bound)) f_none (grind arith) h.far

-- ### A UA

-- the end n has taken an RSET of the far end f, by which it has become m, and answers it
record Answers (n m f : NumberedShdlc) (s : TapSide) : Type 0 where
  pub alike : Alike n m
  pub emitted : m.emitted ≡ n.emitted
  pub took : m.took ≡ f.emitted
  pub past : Below (s.number + 1) m.past
  pub newer : n.took < f.emitted
  pub waits : f.side.phase ≡ Waiting
  pub far_past : Below f.emitted f.past
  pub newest : m.side.phase ≡ Up → n.emitted < f.emitted

knows_ua : {bare : Bool} {t : TapState} {n m f : NumberedShdlc} {to_n to_n' to_f to_f' : List OnWire} {r : ℕ} → Answers n m f t.clf
    → NoUa to_n' ⊎ (n.emitted ≤ t.uicc.number) → Knows bare t n f to_n to_f r → Knows bare (tap_hears bare t Ua) m f to_n' to_f' r
knows_ua {bare} {t} {n} {m} {f} {to_n} {to_n'} {to_f} {to_f'} {r} a told h = by_test (nat_lt t.clf.number t.uicc.asked)
    (λ q. let k : ℕ = t.uicc.asked in
    let i : t.clf.number < k = ltb-true t.clf.number k q in
    let z : TapSide = record t.clf { number = k; count = 0 } in
    let none : shdlc_session_of n k ≡ no_session =
    session_above n t.clf.number k h.near.past (omega (arith, i, h.near.from, h.far.asked, a.newer)) i in
    let f_none : shdlc_session_of f k ≡ no_session =
    (grind arith) ∙ none_ended f.emitted k f.past (omega (arith, h.far.asked)) a.far_past in
    subst P (sym (rw q refl)) (record {
      near = near z refl refl refl (omega (arith, i)) (omega (arith, i, h.far.asked))
          (sym ((ap (length {A = Fragment}) (a.alike k).acc) ∙ ap (λ (y : Session). length y.acc) none));
      far = tracks_renumbered {n = n} {m = m} {to_f = to_f} i (omega (arith, a.emitted)) f_none (inr (omega (arith, h.far.asked))) h.far;
      rsets = h.rsets;
    }))
    (λ q. grind arith)
  where
    P : TapSide → Type 0
    P z = Knows bare (record t { clf = z }) m f to_n' to_f' r

    far_not_up : f.side.phase ≡ Up → ⊥
    far_not_up u = let e = sym a.waits ∙ u in cc

    tells : NoUa to_n' ⊎ (n.emitted ≤ t.uicc.number) → NoUa to_n' ⊎ (m.emitted ≤ t.uicc.number)
    tells (inl q) = inl q
    tells (inr q) = inr (omega (arith, q, a.emitted))

    -- the side that it becomes
    near : (z : TapSide) → z.asked ≡ t.clf.asked → z.listed ≡ t.clf.listed → z.list ≡ t.clf.list → t.clf.number ≤ z.number
        → z.number ≡ max t.clf.number f.emitted
        → z.count ≡ length (shdlc_session_of m z.number).acc → Tracks bare z t.uicc m f to_n'
    near z asked listed list more number count =
        record {
          asked = asked ∙ (h.near.asked ∙ sym a.emitted);
          from = omega (arith, h.near.from, a.emitted);
          upto = omega (arith, number, a.took, a.emitted, h.near.upto, a.newer);
          now = λ _. omega (arith, number, a.took, a.emitted, h.near.upto, h.near.from, a.newer);
          took = omega (arith, a.took);
          named = inr (λ _. omega (arith, number, a.newer));
          past = below_more (t.clf.number + 1) (z.number + 1) m.past (omega (arith, more)) a.past;
          count = count;
          list = rw (listed, list) (h.near.list ∙ sym (a.alike t.uicc.number).sent);
          low = omega (arith, listed, h.near.low);
          met = λ u. omega (arith, a.newest u, a.emitted, h.far.now (λ d. let g = sym a.waits ∙ d in cc));
          told = tells told;
        }

-- ### A fragment that was accepted

-- the end n, which is Up, has accepted a fragment, by which it has become m, and answers it
record Accepts (n m f : NumberedShdlc) (info : Fragment) : Type 0 where
  pub was_up : n.side.phase ≡ Up
  pub up : m.side.phase ≡ Up
  pub emitted : m.emitted ≡ n.emitted
  pub took : m.took ≡ n.took
  pub past : m.past ≡ n.past
  pub acc : m.side.session.acc ≡ n.side.session.acc ++ info ∷ []
  pub sent : ever_sent m.side.session ≡ ever_sent n.side.session
  -- the far end's session of the same number
  pub theirs : Base (shdlc_session_of f (shdlc_number_of n)) m.side.session

take_twice : (xs ys : List Fragment) (k m : ℕ) → length xs ≡ k → k ≤ m → take k (take m (xs ++ ys)) ≡ xs
take_twice [] ys k m q i = rw (← q) refl
take_twice (x ∷ xs) ys zero m q i = absurd (omega (arith, q))
take_twice (x ∷ xs) ys (suc k) zero q i = absurd (omega (arith, i))
take_twice (x ∷ xs) ys (suc k) (suc m) q i = ap (λ v. x ∷ v) (take_twice xs ys k m (omega (arith, q)) (omega (arith, i)))

knows_accepted : {bare : Bool} {t : TapState} {n m f : NumberedShdlc} {to_n to_n' to_f to_f' : List OnWire} {r : ℕ} {info : Fragment} → Accepts n m f info
    → NoUa to_n' ⊎ (n.emitted ≤ t.uicc.number) → NoUa to_f' ⊎ (f.emitted ≤ t.clf.number) → Knows bare t n f to_n to_f r
    → Knows bare (tap_hears bare t (S Rr (expected m.side.session))) m f to_n' to_f' r
    × (tap_tells bare t (S Rr (expected m.side.session)) ≡ got_with (shdlc_number_of n) n.side.session.acc (Some info))
knows_accepted {bare} {t} {n} {m} {f} {to_n} {to_n'} {to_f} {to_f'} {r} {info} a told far_told h = (
  subst P (sym heard) (record {
    near = near;
    far = tracks_far {n = n} {m = m} {to_f = to_f} refl (omega (arith, a.emitted)) far_told h.far;
    rsets = h.rsets;
  }),
  told_is,
)
  where
    acc : List Fragment
    acc = n.side.session.acc

    theirs : Session
    theirs = shdlc_session_of f (shdlc_number_of n)

    nr : ℕ
    nr = expected m.side.session

    side : TapSide
    side = record t.clf { count = t.clf.count + 1 }

    P : TapState → Type 0
    P z = Knows bare z m f to_n' to_f' r

    c : (t.clf.number ≡ shdlc_number_of n) × (t.clf.count ≡ length acc)
    c = count_up a.was_up h.near

    number : shdlc_number_of m ≡ shdlc_number_of n
    number = omega (arith, a.emitted, a.took)

    one : length m.side.session.acc ≡ length acc + 1
    one = ap (length {A = Fragment}) a.acc ∙ length-append acc (info ∷ [])

    list_is : listed_at t.uicc t.clf.number ≡ ever_sent theirs
    list_is = h.far.list ∙ ap (λ k. ever_sent (shdlc_session_of f k)) c.0

    len : length (listed_at t.uicc t.clf.number) ≡ theirs.reached
    len = ap (length {A = Fragment}) list_is ∙ length-take-le theirs.reached theirs.out a.theirs.offered

    more : tells_more t.clf t.uicc nr ≡ true
    more =
        let sent : nat_lt t.clf.count (length (listed_at t.uicc t.clf.number)) ≡ true =
        lt-ltb t.clf.count (length (listed_at t.uicc t.clf.number)) (omega (arith, c.1, one, len, a.theirs.fits)) in
        rw ((eq-eqb nr ((t.clf.count + 1) % 8) (omega (arith, c.1, one))), sent) refl

    counts : is_in_session bare t.clf ≡ true
    counts = in_session a.was_up h.near

    heard : tap_hears bare t (S Rr nr) ≡ record t { clf = side }
    heard =
        ap (λ b. cond b (record t { clf = with_number t.clf t.uicc nr }) t) counts
        ∙ ap (λ b. record t { clf = cond b side t.clf }) more

    -- the fragments before
    front : (k : ℕ) (xs ys : List Fragment) → xs ++ ys ≡ theirs.out → length xs ≡ k → k ≤ theirs.reached → take k (listed_at t.uicc t.clf.number) ≡ xs
    front k xs ys p q i =
        ap (take k) (list_is ∙ ap (take theirs.reached) (sym p)) ∙ take_twice xs ys k theirs.reached q i

    whole : m.side.session.acc ++ a.theirs.front.0 ≡ theirs.out
    whole = a.theirs.front.1

    before : take t.clf.count (listed_at t.uicc t.clf.number) ≡ acc
    before =
        front t.clf.count acc (info ∷ a.theirs.front.0)
        (sym (append_assoc acc (info ∷ []) a.theirs.front.0) ∙ (ap (λ l. l ++ a.theirs.front.0) (sym a.acc) ∙ whole)) (sym c.1)
        (omega (arith, c.1, one, a.theirs.fits))

    after : take (t.clf.count + 1) (listed_at t.uicc t.clf.number) ≡ acc ++ info ∷ []
    after =
        front (t.clf.count + 1) m.side.session.acc a.theirs.front.0 whole (omega (arith, one, c.1)) (omega (arith, c.1, one, a.theirs.fits))
        ∙ a.acc

    news : news_behind (listed_at t.uicc t.clf.number) t.clf.count ≡ brought_by acc info
    news =
        let joined : List Fragment → List (ℕ × List ℕ) = λ fragments. good_of (given_by [] (packets_in fragments)) in
        let two : List Fragment → List Fragment → List (ℕ × List ℕ) =
        λ x y. cond (are_taken [] (packets_in y)) (drop (length (joined x)) (joined y)) [] in
        ap (λ x. two x (take (t.clf.count + 1) (listed_at t.uicc t.clf.number))) before ∙ ap (two acc) after

    told_is : tap_tells bare t (S Rr nr) ≡ got_with (shdlc_number_of n) acc (Some info)
    told_is =
        ap (λ b. cond b (told_by t.clf t.uicc nr) []) counts
        ∙ (ap (λ b. cond b (map (λ m. (t.clf.number, m.0, m.1)) (news_behind (listed_at t.uicc t.clf.number) t.clf.count)) []) more
        ∙ (ap (λ k. map (λ m. (k, m.0, m.1)) (news_behind (listed_at t.uicc t.clf.number) t.clf.count)) c.0
        ∙ ap (map (λ m. (shdlc_number_of n, m.0, m.1))) news))

    sent : (k : ℕ) → ever_sent (shdlc_session_of m k) ≡ ever_sent (shdlc_session_of n k)
    sent = grind arith

    near : Tracks bare side t.uicc m f to_n'
    near = record {
      asked = h.near.asked ∙ sym a.emitted;
      from = omega (arith, h.near.from, a.emitted);
      upto = omega (arith, h.near.upto, number);
      now = λ _. c.0 ∙ sym number;
      took = omega (arith, a.took, h.near.took);
      named = named h.near.named;
      past = rw a.past h.near.past;
      count = ap (λ k. k + 1) c.1 ∙ (sym one ∙ sym (ap (λ (z : Session). length z.acc) (session_now m t.clf.number a.up (c.0 ∙ sym number))));
      list = h.near.list ∙ sym (sent t.uicc.number);
      low = h.near.low;
      met = λ _. omega (arith, h.near.met a.was_up, a.emitted);
      told = tells told;
    }
      where
        named : (bare ≡ true) ⊎ ((n.side.phase ≡ Down → ⊥) → 0 < t.clf.number) → (bare ≡ true) ⊎ ((m.side.phase ≡ Down → ⊥) → 0 < t.clf.number)
        named (inl q) = inl q
        named (inr q) = inr (λ _. q (λ d. let g = sym a.was_up ∙ d in cc))

        tells : NoUa to_n' ⊎ (n.emitted ≤ t.uicc.number) → NoUa to_n' ⊎ (m.emitted ≤ t.uicc.number)
        tells (inl q) = inl q
        tells (inr q) = inr (omega (arith, q, a.emitted))

-- ## The controller's end takes a frame: what the tap knows once the answers went out, and what they told

-- ### A frame of a session at an end that is Up

abbrev pub AccAfter : Option Fragment → EndState → EndState → Type 0
AccAfter None e q = q.session.acc ≡ e.session.acc
AccAfter (Some info) e q = (q.session.acc ≡ e.session.acc ++ info ∷ []) × (q.due ≡ e.due ++ Rr_due ∷ [])

-- by such a frame e has become q, and accepted a fragment or none
pub record Accepted (o : Option Fragment) (e q : EndState) : Type 0 where
  pub acc : AccAfter o e q
  pub out : q.session.out ≡ e.session.out
  pub reached : q.session.reached ≡ e.session.reached

pub takes_data : (e : EndState) (c : Control) → e.phase ≡ Up → IsData c → Accepted (take_answer e c).accepted e (taken e c)
takes_data e c up d = grind arith

-- an end that isn't Up accepts nothing
pub accepts_none : (e : EndState) (c : Control) → (e.phase ≡ Up → ⊥) → (take_answer e c).accepted ≡ None
accepts_none e c no_up = grind arith

-- ### The answers go out

-- what the tap knows of the link m after these frames of the controller's end, and what they told
pub record Heard (bare : Bool) (t : TapState) (m : ShdlcLink) (cs : List Control) (told : List (ℕ × ℕ × List ℕ)) : Type 0 where
  pub knows : KnowsLink bare (hears_all bare t cs) m
  pub tells : tells_all bare t cs ≡ told

-- the link where x was taken, the session ended or not, and this is the number taken
abbrev with_taken : ShdlcLink → List OnWire → Bool → ℕ → ShdlcLink
with_taken l xs ends number =
    let m : ShdlcLink = with_shdlc_ended (record l { to_controller = xs }) ends in
    record m { controller = record m.controller { took = number } }

-- what comes of x at the controller's end
record TakesSo (l : ShdlcLink) (x : OnWire) (ends : Bool) (number : ℕ) (q : EndState) (o : Option Fragment) : Type 0 where
  ended : is_some (take_answer l.controller.side x.frame).ended ≡ ends
  took : took_with l.controller.took x ≡ number
  end : taken l.controller.side x.frame ≡ q
  accepted : (take_answer l.controller.side x.frame).accepted ≡ o

-- what it gets with x
abbrev pub got_now : ShdlcLink → OnWire → List (ℕ × ℕ × List ℕ)
got_now l x = got_with (shdlc_number_of l.controller) l.controller.side.session.acc (take_answer l.controller.side x.frame).accepted

heard_so : (bare : Bool) (t : TapState) (ts : List ShdlcTurn) (l : ShdlcLink) (x : OnWire) (xs : List OnWire) (ends : Bool) (number : ℕ) (q : EndState)
    (o : Option Fragment) → TakesSo l x ends number q o
    → Went bare t (with_taken l xs ends number) (shdlc_turned q ts) (got_with (shdlc_number_of l.controller) l.controller.side.session.acc o)
    → Heard bare t (took l ts x xs) (sent_then (taken l.controller.side x.frame) ts) (got_now l x)
heard_so bare t ts l x xs ends number q o so w = record { knows = rw (so.ended, so.took, so.end) w.knows; tells = rw (so.end, so.accepted) w.tells }

pub takes_heard : (bare : Bool) (t : TapState) (ts : List ShdlcTurn) (l : ShdlcLink) (x : OnWire) (xs : List OnWire)
    → Safe 0 0 l.controller l.host (x ∷ sans xs) (sans l.to_host) l.resets
    → Knows bare t l.controller l.host (x ∷ xs) l.to_host l.resets
    → Heard bare t (took l ts x xs) (sent_then (taken l.controller.side x.frame) ts) (got_now l x)
takes_heard bare t ts l x xs s h = go (frame_cases x) e.phase refl
  where
    e : EndState
    e = l.controller.side

    n : NumberedShdlc
    n = l.controller

    f : NumberedShdlc
    f = l.host

    next : ShdlcLink
    next = record l { to_controller = xs }

    Goal : Type 0
    Goal = Heard bare t (took l ts x xs) (sent_then (taken e x.frame) ts) (got_now l x)

    rest : Knows bare t n f xs l.to_host l.resets
    rest = grind arith

    left : NoUa (x ∷ xs) ⊎ (n.emitted ≤ t.uicc.number) → NoUa xs ⊎ (n.emitted ≤ t.uicc.number)
    left a = grind arith

    no_ua : x.frame ≡ Ua → (e.phase ≡ Waiting → ⊥) → ⊥
    no_ua q w = w (ua_told s.hand q).1

    -- an end in a session
    session : e.phase ≡ Up → IsData x.frame → Goal
    session up d = by_option (take_answer e x.frame).accepted
        (λ o. let P : Option Fragment → Type 0 = λ z. Accepted z e q in
        heard_so bare t ts l x xs false n.took q None (so None o) (passing tu.0.due (subst P o (takes_data e x.frame up d))))
        (λ info o. let P : Option Fragment → Type 0 = λ z. Accepted z e q in
        heard_so bare t ts l x xs false n.took q (Some info) (so (Some info) o) (accepting info (subst P o (takes_data e x.frame up d))))
      where
        q : EndState
        q = taken e x.frame

        tu : TakenUp e q (session_with f n) (sans xs) (live f.side.phase (sans l.to_host)) × ((take_answer e x.frame).ended ≡ None)
        tu = taken_up e up d (pair_from s up)

        so : (o : Option Fragment) → (take_answer e x.frame).accepted ≡ o → TakesSo l x false n.took q o
        so o a = record { ended = rw tu.1 refl; took = took_other n.took x (not_rset x.frame (inl d)); end = refl; accepted = a }

        -- where nothing was accepted
        goes_for : (v : EndState) → v.phase ≡ Up → v.session ≡ q.session → Accepted None e q → GoesAt bare t next v
        goes_for v p same a = record {
          knows = knows_side v (p ∙ sym up) (grind arith) rest;
          sends = λ _. rw same (can_send tu.0.pair.mine);
          none = λ no_up. absurd (no_up p);
        }

        answer : (o : Due) → IsAnswer o → q.due ≡ o ∷ [] → Accepted None e q → Went bare t next (shdlc_turned q ts) []
        answer Rr_due i due a =
            let g = goes_answer next (record q { due = [] }) Rr tu.0.up (goes_for (record q { due = [] }) tu.0.up refl a) in
            went_one bare t ts next q Rr_due [] due g.0 g.1
        answer Rej_due i due a =
            let g = goes_answer next (record q { due = [] }) Rej tu.0.up (goes_for (record q { due = [] }) tu.0.up refl a) in
            went_one bare t ts next q Rej_due [] due g.0 g.1
        answer Rnr_due i due a =
            let g = goes_answer next (record q { due = [] }) Rnr tu.0.up (goes_for (record q { due = [] }) tu.0.up refl a) in
            went_one bare t ts next q Rnr_due [] due g.0 g.1
        answer Rset_due i due a = absurd i
        answer Ua_due i due a = absurd i

        passing : (q.due ≡ e.due) ⊎ ((o : Due) × IsAnswer o × (q.due ≡ e.due ++ o ∷ [])) → Accepted None e q → Went bare t next (shdlc_turned q ts) []
        passing (inl i) a = went_none bare t ts next q (i ∙ s.n_due) (goes_for q tu.0.up refl a)
        passing (inr i) a = answer i.0 i.1 (i.2 ∙ ap (λ (z : List Due). z ++ i.0 ∷ []) s.n_due) a

        accepting : (info : Fragment) → Accepted (Some info) e q
            → Went bare t next (shdlc_turned q ts) (got_with (shdlc_number_of n) e.session.acc (Some info))
        accepting info a =
            let v : EndState = record q { due = [] } in
            let m : NumberedShdlc = record n { side = v } in
            let y : OnWire = record { frame = S Rr (expected q.session); age = 0; number = 0 } in
            let accepts : Accepts n m f info = record {
              was_up = up;
              up = tu.0.up;
              emitted = refl;
              took = refl;
              past = refl;
              acc = a.acc.0;
              sent = rw (a.out, a.reached) refl;
              theirs = tu.0.pair.theirs;
            } in
            let k = knows_accepted {to_f' = fits (l.to_host ++ y ∷ [])} accepts (left h.near.told) (still_no_ua l.to_host y refl h.far.told) h in
            let goes : GoesAt bare (tap_hears bare t (S Rr (expected q.session))) (shdlc_put next (S Rr (expected q.session))) v = record {
              knows = k.0;
              sends = λ _. can_send tu.0.pair.mine;
              none = λ no_up. absurd (no_up tu.0.up);
            } in
            went_one bare t ts next q Rr_due (got_with (shdlc_number_of n) e.session.acc (Some info))
            (a.acc.1 ∙ ap (λ (z : List Due). z ++ Rr_due ∷ []) s.n_due) goes k.1

    -- an end without a session passes over a frame of one
    passed : IsData x.frame → (e.phase ≡ Up → ⊥) → Goal
    passed d no_up =
        let p = passes e x.frame d no_up in
        heard_so bare t ts l x xs false n.took e None
        (record { ended = p.1; took = took_other n.took x (not_rset x.frame (inl d)); end = p.0; accepted = accepts_none e x.frame no_up })
        (went_none bare t ts next e s.n_due (record { knows = rest; sends = λ up. absurd (no_up up); none = s.n_none }))

    zero_window : (is : IsRset x) → (is.window == 0) ≡ false
    zero_window is = let p = rset_told s.hand is in ne_eqb is.window 0 (λ z. omega (arith, p.wide, z))

    newer : (is : IsRset x) → n.took < f.emitted
    newer is = grind arith

    newest : IsRset x → (e.phase ≡ Waiting → ⊥) → n.emitted < f.emitted
    newest is w = grind arith

    far_past : IsRset x → Below f.emitted f.past
    far_past is = let p = (rset_told s.hand is).waiting in rw p at s.f_past

    number : IsRset x → took_with n.took x ≡ f.emitted
    number is = let p = (rset_told s.hand is).number in rw (is.frame, p) (let i = newer is in let a : max n.took f.emitted ≡ f.emitted = omega (arith, i) in a)

    -- an end that doesn't wait begins a new session
    anew : (is : IsRset x) (ends : Bool) → (e.phase ≡ Waiting → ⊥) → (past : List (ℕ × Session)) → Below (t.clf.number + 1) past
        → with_taken l xs ends f.emitted ≡ record l { to_controller = xs; controller = record n { took = f.emitted; past = past } }
        → Alike n (record n { side = up_with (record e { due = [] }) (min e.own_window (min is.window 4)); took = f.emitted; past = past })
        → taken e x.frame ≡ up_with (record e { due = Ua_due ∷ [] }) (min e.own_window (min is.window 4))
        → is_some (take_answer e x.frame).ended ≡ ends → (take_answer e x.frame).accepted ≡ None → Goal
    anew is ends no_wait past below link alike to quits nothing =
        let w : ℕ = min e.own_window (min is.window 4) in
        let b : EndState = up_with (record e { due = Ua_due ∷ [] }) w in
        let k : ShdlcLink = record l { to_controller = xs; controller = record n { took = f.emitted; past = past } } in
        let answers : Answers n (record k.controller { side = record b { due = [] } }) f t.clf = grind arith in
        let y : OnWire = record { frame = Ua; age = 0; number = 0 } in
        let goes : GoesAt bare (tap_hears bare t Ua) (shdlc_put k Ua) (record b { due = [] }) = record {
          knows = knows_ua {to_f' = fits (l.to_host ++ y ∷ [])} answers (left h.near.told) h;
          sends = λ _. (grind arith);
          none = λ no_up. absurd (no_up refl);
        } in
        let P : ShdlcLink → Type 0 = λ z. Went bare t z (shdlc_turned b ts) [] in
        heard_so bare t ts l x xs ends f.emitted b None (record { ended = quits; took = number is; end = to; accepted = nothing })
        (subst P (sym link) (went_one bare t ts k b Ua_due [] refl goes refl))

    go : IsData x.frame ⊎ (IsRset x ⊎ (x.frame ≡ Ua)) → (p : LinkState) → e.phase ≡ p → Goal
    go (inl d) Up p = session p d
    go (inr (inr q)) Waiting p =
        let w : ℕ = min e.own_window e.peer_window in
        let b : EndState = up_with e w in
        let m : NumberedShdlc = record n { side = b } in
        let no_up : e.phase ≡ Up → ⊥ = λ u. let g = sym p ∙ u in cc in
        let early : Below n.emitted n.past = rw p at s.n_past in
        let none : ended_session n.past (shdlc_number_of m) ≡ no_session = none_ended n.emitted (shdlc_number_of m) n.past (omega arith) early in
        let goes : GoesAt bare t next b = grind arith in
        heard_so bare t ts l x xs false n.took b None (grind arith) (went_none bare t ts next b s.n_due goes)
      where
        by : x.frame ≡ Ua → NoUa (x ∷ xs) ⊎ (n.emitted ≤ t.uicc.number) → n.emitted ≤ t.uicc.number
        by q (inl z) = absurd (let y : true ≡ false = rw q at z in cc)
        by q (inr z) = z
    go (inl d) _ p = passed d (λ u. let g = sym p ∙ u in cc)
    go (inr (inr q)) _ p = absurd (no_ua q (λ w. let g = sym p ∙ w in cc))
    go (inr (inl q)) Waiting p =
        let b : EndState = record e { due = Ua_due ∷ []; peer_window = min q.window 4 } in
        let v : EndState = record e { due = []; peer_window = min q.window 4 } in
        let k : ShdlcLink = record l { to_controller = xs; controller = record n { took = f.emitted } } in
        let no_up : e.phase ≡ Up → ⊥ = λ u. let g = sym p ∙ u in cc in
        let y : OnWire = record { frame = Ua; age = 0; number = 0 } in
        let answers : Answers n (record k.controller { side = v }) f t.clf = grind arith in
        let goes : GoesAt bare (tap_hears bare t Ua) (shdlc_put k Ua) v = record {
          knows = knows_ua {to_f' = fits (l.to_host ++ y ∷ [])} answers (left h.near.told) h;
          sends = λ u. absurd (no_up u);
          none = s.n_none;
        } in
        let z = zero_window q in
        heard_so bare t ts l x xs false f.emitted b None
        (record { ended = rw (q.frame, p) refl; took = number q; end = rw (q.frame, p, z, s.n_due) refl; accepted = accepts_none e x.frame no_up })
        (went_one bare t ts k b Ua_due [] refl goes refl)
    go (inr (inl q)) Up p =
        let z = zero_window q in
        let w : ℕ = min e.own_window (min q.window 4) in
        let v : EndState = up_with (record e { due = [] }) w in
        let past : List (ℕ × Session) = (shdlc_number_of n, e.session) ∷ n.past in
        let g : NumberedShdlc = record n { side = record v { phase = Down }; took = f.emitted; past = past } in
        let m : NumberedShdlc = record n { side = v; took = f.emitted; past = past } in
        let no_wait : e.phase ≡ Waiting → ⊥ = λ u. let y = sym p ∙ u in cc in
        let old : Below (shdlc_number_of n) n.past = rw p at s.n_past in
        let below = below_more (shdlc_number_of n) f.emitted n.past (omega (arith, newest q no_wait, newer q)) old in
        let none : ended_session past (shdlc_number_of m) ≡ no_session =
        none_ended f.emitted (shdlc_number_of m) past (omega arith) (omega (arith, newest q no_wait, newer q), below) in
        anew q true no_wait past (omega (arith, (h.near.now (λ d. let y = sym p ∙ d in cc))), h.near.past) refl
        (grind arith)
        (rw (q.frame, p, z) refl) (rw (q.frame, p, z) refl) (rw (q.frame, p, z) refl)
    go (inr (inl q)) Down p =
        let z = zero_window q in
        let w : ℕ = min e.own_window (min q.window 4) in
        let v : EndState = up_with (record e { due = [] }) w in
        let m : NumberedShdlc = record n { side = v; took = f.emitted } in
        let no_wait : e.phase ≡ Waiting → ⊥ = λ u. let y = sym p ∙ u in cc in
        let no_up : e.phase ≡ Up → ⊥ = λ u. let y = sym p ∙ u in cc in
        let old : Below (shdlc_number_of n + 1) n.past = rw p at s.n_past in
        let none : ended_session n.past (shdlc_number_of m) ≡ no_session =
        none_ended (shdlc_number_of n + 1) (shdlc_number_of m) n.past (omega (arith, newest q no_wait, newer q)) old in
        anew q false no_wait n.past h.near.past refl (grind arith)
        (rw (q.frame, p, z, s.n_due) refl) (rw (q.frame, p, z) refl) (accepts_none e x.frame no_up)
