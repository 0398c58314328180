-- What a tap that has heard all frames so far knows of both ends, after a frame of an end, and as all that is due goes out.
use Rattle.std.proofs.lemmas.Bool.{lt-ltb}
use Rattle.std.proofs.lemmas.Option.{slice_get_within}
use Rattle.world_laws.proofs.Words.{Base, Below, Bool, Control, Down, Due, EndState, Fragment, I, Kind, LinkState, List, NumberedShdlc, OnWire, Rr, Rr_due, S}
use Rattle.world_laws.proofs.Words.{SafeLink, Session, ShdlcLink, ShdlcTurn, Some, TapSide, TapState, Up, [], adds, after_frames, ap, append-nil, append_assoc}
use Rattle.world_laws.proofs.Words.{arith, at_most_one, by_option, cases_eq, changed, cond, control_due, controls, controls_same, counted_at, ended_session}
use Rattle.world_laws.proofs.Words.{eq-eqb, expected, false, fetch_cases, fetched, fits, fragment_due, fragment_due-within, frame_due, frames_in_order}
use Rattle.world_laws.proofs.Words.{frames_of, hears_all, inl, inr, is_in_session, length, length-append, length-take-le, listed_at, map, map-append, max}
use Rattle.world_laws.proofs.Words.{most_frames, nat_lt, ne_eqb, no_session, none_ended, phase_known, put_all-append}
use Rattle.world_laws.proofs.Words.{put_out, ready_by, refl, room, sent_next, shdlc_becomes, shdlc_number_of, shdlc_put, shdlc_put_all, shdlc_session_of}
use Rattle.world_laws.proofs.Words.{shdlc_turn, shdlc_turned, slice_get, subst, suc, sym, take, take-append-le, tap_hears, tap_tells, tells_all, tells_more}
use Rattle.world_laws.proofs.Words.{told_by, true, with_fragment, with_number, zero, ℕ, ◌%◌, ◌++◌, ◌+◌, ◌<◌, ◌==◌, ◌∙◌, ◌∷◌, ◌≡◌, ◌≤◌, ◌⊎◌}
use Rattle.link_laws.proofs.places.Joined.{after_frames_idle, fetched_idle}
use Rattle.link_laws.specs.sessions.Sessions.ShdlcTurn.{Offer, SetReady}
pub use Rattle.world_laws.specs.fragments.Knowing.{ever_sent}
use Rattle.world_laws.proofs.fragments.Wires.{NoUa, is_ua, no_ua-push}

-- ## What a tap that has heard all frames of a link so far knows of its two ends

-- What the tap knows of the end n with what it has of its side s, and f and t are those of the other side.
pub record Tracks (bare : Bool) (s t : TapSide) (n f : NumberedShdlc) (to_n : List OnWire) : Type 0 where
  -- its last RSET was heard
  pub asked : s.asked ≡ n.emitted
  -- the number of the side is that of the end, but of one that is Down and took an RSET without an answer
  pub from : n.emitted ≤ s.number
  pub upto : s.number ≤ shdlc_number_of n
  pub now : (n.side.phase ≡ Down → ⊥) → s.number ≡ shdlc_number_of n
  pub took : n.took ≤ f.emitted
  -- only a bare link has a session with number 0
  pub named : (bare ≡ true) ⊎ ((n.side.phase ≡ Down → ⊥) → 0 < s.number)
  -- no session of the end has a greater number
  pub past : Below (s.number + 1) n.past
  -- the count of the side is how many fragments the end has accepted in its session
  pub count : s.count ≡ length (shdlc_session_of n s.number).acc
  -- at the number of the other side its list is what the end has ever sent in the session with that number
  pub list : listed_at s t.number ≡ ever_sent (shdlc_session_of n t.number)
  pub low : s.listed ≤ t.number
  -- an end that is Up, or comes up, with its own number was answered by the other side
  pub met : n.side.phase ≡ Up → n.emitted ≤ t.number
  pub told : NoUa to_n ⊎ (n.emitted ≤ t.number)

pub record Knows (bare : Bool) (t : TapState) (n f : NumberedShdlc) (to_n to_f : List OnWire) (r : ℕ) : Type 0 where
  pub near : Tracks bare t.clf t.uicc n f to_n
  pub far : Tracks bare t.uicc t.clf f n to_f
  pub rsets : t.rsets ≡ r

abbrev pub KnowsLink : Bool → TapState → ShdlcLink → Type 0
KnowsLink bare t l = Knows bare t l.controller l.host l.to_controller l.to_host l.resets

-- ### Sessions by number

-- the session of an end at a number that it doesn't have
session_other : (h : NumberedShdlc) (k : ℕ) → (k ≡ shdlc_number_of h → ⊥) → shdlc_session_of h k ≡ ended_session h.past k
session_other h k other = grind arith

-- an end has no session with a number above the number of its side
pub session_above : (h : NumberedShdlc) (m k : ℕ) → Below (m + 1) h.past → shdlc_number_of h < k → m < k → shdlc_session_of h k ≡ no_session
session_above h m k past i j = let h0 = session_other h k (λ e. omega (arith, e)) in let h1 = none_ended (m + 1) k h.past (omega arith) past in grind arith

-- two sessions in which the same was accepted and sent
pub record SameLists (x y : Session) : Type 0 where
  pub acc : x.acc ≡ y.acc
  pub sent : ever_sent x ≡ ever_sent y

-- of each number the same was accepted and sent
abbrev pub Alike : NumberedShdlc → NumberedShdlc → Type 0
Alike n m = (k : ℕ) → SameLists (shdlc_session_of m k) (shdlc_session_of n k)

abbrev SameAs : NumberedShdlc → ℕ → Session → Type 0
SameAs n k x = SameLists x (shdlc_session_of n k)

alike_all : (n : NumberedShdlc) (k : ℕ) → SameAs n k (shdlc_session_of n k)
alike_all n k = record { acc = refl; sent = refl }

-- ### The end changes, and the tap hears nothing

-- what of the end n has become m: its sessions with the numbers below p are kept
pub record Becomes (n m : NumberedShdlc) (p : ℕ) : Type 0 where
  pub alike : Alike n m
  pub emitted : m.emitted ≡ n.emitted
  pub took : m.took ≡ n.took
  pub past : Below p m.past
  pub phase : (m.side.phase ≡ Down → ⊥) → n.side.phase ≡ Down → ⊥

-- so where the near end has taken or sent no RSET
pub tracks_far : {bare : Bool} {s s' t : TapSide} {n m f : NumberedShdlc} {to_f to_f' : List OnWire} → s'.number ≡ s.number → n.emitted ≤ m.emitted
    → NoUa to_f' ⊎ (f.emitted ≤ s.number) → Tracks bare t s f n to_f → Tracks bare t s' f m to_f'
tracks_far number emitted told h = grind arith

-- the other side, where the near one has a new number, at which the far end has no session
pub tracks_renumbered : {bare : Bool} {s s' t : TapSide} {n m f : NumberedShdlc} {to_f to_f' : List OnWire} → s.number < s'.number → n.emitted ≤ m.emitted
    → shdlc_session_of f s'.number ≡ no_session → NoUa to_f' ⊎ (f.emitted ≤ s'.number) → Tracks bare t s f n to_f → Tracks bare t s' f m to_f'
tracks_renumbered more emitted none told h = grind arith

-- ## What the tap knows after a frame of an end

-- ### Wires

-- one frame more, which is no UA
pub still_no_ua : {P : Type 0} (w : List OnWire) (x : OnWire) → is_ua x.frame ≡ false → NoUa w ⊎ P → NoUa (fits (w ++ x ∷ [])) ⊎ P
still_no_ua w x q (inl h) = inl (let h0 = w ++ x ∷ [] in let h1 = no_ua-push w x q h in grind arith)
still_no_ua w x q (inr p) = inr p

-- ### Frames of a session

-- a number that says what is counted already
tells_none : (s t : TapSide) (n : ℕ) → s.count ≡ n → tells_more s t (n % 8) ≡ false
tells_none s t n q = grind arith

either : {X : Type 0} (b : Bool) (x : X) → cond b x x ≡ x
either b x = grind arith

-- what an end that is Up has accepted is what its side has counted
pub count_up : {bare : Bool} {s t : TapSide} {n f : NumberedShdlc} {to_n : List OnWire} → n.side.phase ≡ Up → Tracks bare s t n f to_n
    → (s.number ≡ shdlc_number_of n) × (s.count ≡ length n.side.session.acc)
count_up up h = grind arith

-- the other side has a number that is no lower
far_number : {bare : Bool} {t : TapState} {n f : NumberedShdlc} {to_n to_f : List OnWire} {r : ℕ} → n.side.phase ≡ Up → Knows bare t n f to_n to_f r
    → shdlc_number_of n ≤ t.uicc.number
far_number up h = omega (arith, h.near.met up, h.near.took, h.far.from)

-- a frame of a session at an end that is Up is one to the tap
pub in_session : {bare : Bool} {s t : TapSide} {n f : NumberedShdlc} {to_n : List OnWire} → n.side.phase ≡ Up → Tracks bare s t n f to_n
    → is_in_session bare s ≡ true
in_session up h = grind arith

-- an answer of an end that is Up says what is known
answer_says : {bare : Bool} {t : TapState} {n f : NumberedShdlc} {to_n to_f : List OnWire} {r : ℕ} (k : Kind) → n.side.phase ≡ Up
    → Knows bare t n f to_n to_f r
    → (tap_hears bare t (S k (expected n.side.session)) ≡ t) × (tap_tells bare t (S k (expected n.side.session)) ≡ [])
answer_says {bare} {t} {n} k up h =
    let c = count_up up h.near in
    let none : tells_more t.clf t.uicc (expected n.side.session) ≡ false = tells_none t.clf t.uicc (length n.side.session.acc) c.1 in (grind arith)

-- a frame on the wire that is no RSET and no UA
pub knows_wire : {bare : Bool} {t : TapState} {n f : NumberedShdlc} {to_n to_f : List OnWire} {r : ℕ} (x : OnWire) → is_ua x.frame ≡ false
    → Knows bare t n f to_n to_f r → Knows bare t n f to_n (fits (to_f ++ x ∷ [])) r
knows_wire {t = t} {n} {f} {to_f = to_f} x q h =
    record {
      near = h.near;
      far = tracks_far {n = n} {m = n} {to_f = to_f} refl (omega arith) (still_no_ua to_f x q h.far.told) h.far;
      rsets = h.rsets;
    }

-- ### An I frame

-- what of its own session an end that is Up needs to send in it, and what it knows of the other end's with its number
pub record CanSend (s r : Session) : Type 0 where
  pub from : s.acked ≤ s.next
  pub sent : s.next ≤ s.reached
  pub offered : s.reached ≤ length s.out
  pub within : s.reached ≤ s.acked + s.window
  pub most : s.window ≤ 4
  pub acked : s.acked ≤ length r.acc

pub can_send : {s r : Session} → Base s r → CanSend s r
can_send b = record { from = b.from; sent = b.sent; offered = b.offered; within = b.within; most = b.most; acked = b.acked }

-- all that is known at an end while its frames go out
pub record Goes (bare : Bool) (t : TapState) (n f : NumberedShdlc) (to_n to_f : List OnWire) (r : ℕ) : Type 0 where
  pub knows : Knows bare t n f to_n to_f r
  pub sends : n.side.phase ≡ Up → CanSend n.side.session (shdlc_session_of f (shdlc_number_of n))
  pub none : (n.side.phase ≡ Up → ⊥) → n.side.session ≡ no_session

take_one : (xs : List Fragment) (i : ℕ) (x : Fragment) → slice_get xs i ≡ Some x → take (i + 1) xs ≡ take i xs ++ x ∷ []
take_one [] i x q = cc
take_one (y ∷ xs) zero x q = let e : y ≡ x = (let z : Some y ≡ Some x = q in cc) in rw e refl
take_one (y ∷ xs) (suc i) x q = let h0 = take_one xs i x q in grind arith

-- the session of an end that is Up goes on
pub session_now : (m : NumberedShdlc) (k : ℕ) → m.side.phase ≡ Up → k ≡ shdlc_number_of m → shdlc_session_of m k ≡ m.side.session
session_now m k up q = ap (shdlc_session_of m) q ∙ (grind arith)

-- the list of a side grows exactly by a fragment that was never sent before
list_grows : (s : Session) (bound : ℕ) (info : Fragment) (so_far : List Fragment) → s.acked ≤ s.next → s.next ≤ s.reached → s.reached ≤ length s.out
    → s.reached ≤ s.acked + s.window → s.window ≤ 4 → s.acked ≤ bound → s.next < s.acked + s.window → slice_get s.out s.next ≡ Some info
    → so_far ≡ ever_sent s
    → cond (adds so_far bound (s.next % 8)) (so_far ++ info ∷ []) so_far ≡ ever_sent (sent_next s)
list_grows s bound info so_far from sent offered within most acked inside is same = go (cases_eq s.next s.reached)
  where
    len : length so_far ≡ s.reached
    len = ap (length {A = Fragment}) same ∙ length-take-le s.reached s.out offered

    go : (s.next ≡ s.reached) ⊎ (s.next ≡ s.reached → ⊥) → cond (adds so_far bound (s.next % 8)) (so_far ++ info ∷ []) so_far ≡ ever_sent (sent_next s)
    go (inl q) =
        let one : ((s.next % 8) == (length so_far % 8)) ≡ true = eq-eqb (s.next % 8) (length so_far % 8) (omega (arith, q, len)) in
        let two : nat_lt (length so_far) (bound + 4) ≡ true = lt-ltb (length so_far) (bound + 4) (omega (arith, q, len, inside, most, acked)) in
        let m : max s.reached (s.next + 1) ≡ s.next + 1 = omega (arith, q) in
        rw (one, two, m) (ap (λ l. l ++ info ∷ []) (same ∙ ap (λ k. take k s.out) (sym q)) ∙ sym (take_one s.out s.next info is))
    go (inr n) =
        let one : ((s.next % 8) == (length so_far % 8)) ≡ false =
        ne_eqb (s.next % 8) (length so_far % 8) (λ e. n (omega (arith, e, len, from, sent, within, most))) in
        let m : max s.reached (s.next + 1) ≡ s.reached = omega (arith, n, sent) in
        rw (one, m) same

sends_on : {s r : Session} {info : Fragment} → s.next < s.acked + s.window → slice_get s.out s.next ≡ Some info → CanSend s r → CanSend (sent_next s) r
sends_on {s} {info = info} inside is h =
    let within : s.next < length s.out = slice_get_within s.out s.next info is in
    grind arith

-- an I frame of an end that is Up
goes_fragment : {bare : Bool} {t : TapState} {n f : NumberedShdlc} {to_n to_f : List OnWire} {r : ℕ} {info : Fragment} (x : OnWire)
    → x.frame ≡ I (n.side.session.next % 8) (expected n.side.session) info → n.side.phase ≡ Up → fragment_due n.side.session ≡ Some info
    → Goes bare t n f to_n to_f r
    → Goes bare (tap_hears bare t (I (n.side.session.next % 8) (expected n.side.session) info))
    (record n { side = record n.side { session = sent_next n.side.session } }) f to_n (fits (to_f ++ x ∷ [])) r
    × (tap_tells bare t (I (n.side.session.next % 8) (expected n.side.session) info) ≡ [])
goes_fragment {bare} {t} {n} {f} {to_n} {to_f} {r} {info} x frame up is g = (
  subst P (sym heard) (record {
    knows = record {
      near = near;
      far = tracks_far {n = n} {m = m} {to_f = to_f} refl (omega arith) (still_no_ua to_f x (rw frame refl) h.far.told) h.far;
      rsets = h.rsets;
    };
    sends = λ _. sends_on tells.0 tells.1 can;
    none = λ no. absurd (no up);
  }),
  quiet,
)
  where
    h : Knows bare t n f to_n to_f r
    h = g.knows

    s : Session
    s = n.side.session

    ns : ℕ
    ns = s.next % 8

    nr : ℕ
    nr = expected s

    m : NumberedShdlc
    m = record n { side = record n.side { session = sent_next s } }

    can : CanSend s (shdlc_session_of f (shdlc_number_of n))
    can = g.sends up

    tells : (s.next < s.acked + s.window) × (slice_get s.out s.next ≡ Some info)
    tells = fragment_due-within s info is

    c : (t.clf.number ≡ shdlc_number_of n) × (t.clf.count ≡ length s.acc)
    c = count_up up h.near

    side : TapSide
    side = with_fragment t.clf t.uicc ns info

    P : TapState → Type 0
    P z = Goes bare z m f to_n (fits (to_f ++ x ∷ [])) r

    counts : is_in_session bare t.clf ≡ true
    counts = in_session up h.near

    heard : tap_hears bare t (I ns nr info) ≡ record t { clf = side }
    heard =
        ap (λ b. cond b (record t { clf = with_number side t.uicc nr }) t) counts
        ∙ ap (λ z. record t { clf = z }) (rw (tells_none side t.uicc (length s.acc) c.1) refl)

    quiet : tap_tells bare t (I ns nr info) ≡ []
    quiet = ap (λ b. cond b (told_by t.clf t.uicc nr) []) counts ∙ (rw (tells_none t.clf t.uicc (length s.acc) c.1) refl)

    list : (t.uicc.number ≡ t.clf.number) ⊎ (t.uicc.number ≡ t.clf.number → ⊥) → listed_at side t.uicc.number ≡ ever_sent (shdlc_session_of m t.uicc.number)
    list (inl q) =
        let here : (t.clf.number == t.uicc.number) ≡ true = eq-eqb t.clf.number t.uicc.number (sym q) in
        let counted : counted_at t.uicc t.clf.number ≡ length (shdlc_session_of f (shdlc_number_of n)).acc = grind arith in
        let grown = list_grows s (counted_at t.uicc t.clf.number) info (listed_at t.clf t.clf.number) can.from can.sent can.offered can.within can.most
        (omega (arith, can.acked, counted)) tells.0 tells.1 (grind arith) in
        rw here (grown ∙ sym (ap ever_sent (session_now m t.uicc.number up (q ∙ c.0))))
    list (inr q) =
        let here : (t.clf.number == t.uicc.number) ≡ false = ne_eqb t.clf.number t.uicc.number (λ e. q (sym e)) in
        let above : shdlc_session_of m t.uicc.number ≡ no_session =
        session_above m t.clf.number t.uicc.number h.near.past (omega (arith, far_number up h, q, c.0)) (omega (arith, far_number up h, q, c.0)) in
        rw (here, above) refl

    near : Tracks bare side t.uicc m f to_n
    near = record {
      asked = h.near.asked;
      from = h.near.from;
      upto = h.near.upto;
      now = h.near.now;
      took = h.near.took;
      named = h.near.named;
      past = h.near.past;
      count = c.1 ∙ sym (ap (λ (z : Session). length z.acc) (session_now m t.clf.number up c.0));
      list = list (cases_eq t.uicc.number t.clf.number);
      low = omega (arith, far_number up h, c.0);
      met = h.near.met;
      told = h.near.told;
    }

-- ## An end has its turns, and then all that is due goes out: what the tap knows then

pub hears_all-append : (bare : Bool) (t : TapState) (cs ds : List Control) → hears_all bare t (cs ++ ds) ≡ hears_all bare (hears_all bare t cs) ds
hears_all-append bare t [] ds = refl
hears_all-append bare t (c ∷ cs) ds = hears_all-append bare (tap_hears bare t c) cs ds

pub tells_all-append : (bare : Bool) (t : TapState) (cs ds : List Control)
    → tells_all bare t (cs ++ ds) ≡ tells_all bare t cs ++ tells_all bare (hears_all bare t cs) ds
tells_all-append bare t [] ds = refl
tells_all-append bare t (c ∷ cs) ds =
    ap (λ m. tap_tells bare t c ++ m) (tells_all-append bare (tap_hears bare t c) cs ds)
    ∙ sym (append_assoc (tap_tells bare t c) (tells_all bare (tap_hears bare t c) cs) (tells_all bare (hears_all bare t (c ∷ cs)) ds))

-- the controller's end is e, and its frames are to go out
abbrev pub GoesAt : Bool → TapState → ShdlcLink → EndState → Type 0
GoesAt bare t l e = Goes bare t (record l.controller { side = e }) l.host l.to_controller l.to_host l.resets

-- ### Small changes of an end

pub knows_side : {bare : Bool} {t : TapState} {n f : NumberedShdlc} {to_n to_f : List OnWire} {r : ℕ} (q : EndState) → q.phase ≡ n.side.phase
    → SameLists q.session n.side.session → Knows bare t n f to_n to_f r → Knows bare t (record n { side = q }) f to_n to_f r
knows_side q phase same h = grind arith

-- more is offered
goes_offer : {bare : Bool} {t : TapState} (l : ShdlcLink) (e : EndState) (more : List Fragment) → e.phase ≡ Up → GoesAt bare t l e
    → GoesAt bare t l (put_out e more)
goes_offer l e more up g =
    let can = g.sends up in
    record {
      knows = knows_side (put_out e more) refl (record { acc = refl; sent = take-append-le e.session.reached e.session.out more can.offered }) g.knows;
      sends = λ _. record {
        from = can.from;
        sent = can.sent;
        offered = omega (arith, can.offered, length-append e.session.out more);
        within = can.within;
        most = can.most;
        acked = can.acked;
      };
      none = λ no_up. absurd (no_up up);
    }

-- an answer goes out
pub goes_answer : {bare : Bool} {t : TapState} (l : ShdlcLink) (e : EndState) (k : Kind) → e.phase ≡ Up → GoesAt bare t l e
    → GoesAt bare (tap_hears bare t (S k (expected e.session))) (shdlc_put l (S k (expected e.session))) e
    × (tap_tells bare t (S k (expected e.session)) ≡ [])
goes_answer {bare} {t} l e k up g =
    let says = answer_says k up g.knows in
    let P : TapState → Type 0 = λ z. GoesAt bare z (shdlc_put l (S k (expected e.session))) e in (
      subst P (sym says.0) (record {
        knows = knows_wire (record { frame = S k (expected e.session); age = 0; number = 0 }) refl g.knows;
        sends = g.sends;
        none = g.none;
      }),
      says.1,
    )

-- ### Fragments go out

record Each (bare : Bool) (t : TapState) (l : ShdlcLink) (c : Control) (f : EndState) : Type 0 where
  goes : GoesAt bare (tap_hears bare t c) (shdlc_put l c) f
  told : tap_tells bare t c ≡ []
  due : f.due ≡ []

each : (bare : Bool) (t : TapState) (l : ShdlcLink) (e : EndState) (c : Control) → frame_due e ≡ Some c → e.due ≡ [] → GoesAt bare t l e
    → Each bare t l c (fetched e)
each bare t l e c is due g =
    fetch_cases (λ f o. o ≡ Some c → Each bare t l c f) e (λ d ds p n. absurd (let z = sym p ∙ due in cc)) (λ p q n. cc)
    (λ info p q n. let P : Control → Type 0 = λ k. Each bare t l k (record e { session = sent_next e.session }) in
    subst P (cc) (one info q)) is
  where
    one : (info : Fragment) → fragment_due e.session ≡ Some info
        → Each bare t l (I (e.session.next % 8) (expected e.session) info) (record e { session = sent_next e.session })
    one info q =
        let s = goes_fragment (record { frame = I (e.session.next % 8) (expected e.session) info; age = 0; number = 0 }) refl (grind arith) q g in
        record { goes = s.0; told = s.1; due = due }

-- all that is due has gone out, and this was told
record Drained (bare : Bool) (t : TapState) (l : ShdlcLink) (m : ℕ) (e : EndState) : Type 0 where
  pub goes : GoesAt bare (hears_all bare t (frames_of m e)) (shdlc_put_all l (frames_of m e)) (after_frames m e)
  pub told : tells_all bare t (frames_of m e) ≡ []

drains : (bare : Bool) (m : ℕ) (e : EndState) (t : TapState) (l : ShdlcLink) → e.due ≡ [] → GoesAt bare t l e → Drained bare t l m e
drains bare zero e t l due g = record { goes = g; told = refl }
drains bare (suc m) e t l due g = by_option (frame_due e)
    (λ q. record { goes = rw q (rw (fetched_idle e q, after_frames_idle m e q) g); told = rw q refl })
    (λ c q. let one = each bare t l e c q due g in
    let more = drains bare m (fetched e) (tap_hears bare t c) (shdlc_put l c) one.due one.goes in
    record { goes = rw q more.goes; told = rw q (ap (λ z. z ++ tells_all bare (tap_hears bare t c) (frames_of m (fetched e))) one.told ∙ more.told) })

-- ### Turns

-- the end has become e: its control frames go out, and tell this
record TapPending (bare : Bool) (t : TapState) (l : ShdlcLink) (e : EndState) (told : List (ℕ × ℕ × List ℕ)) : Type 0 where
  pub goes : GoesAt bare (hears_all bare t (controls e)) (shdlc_put_all l (controls e)) (record e { due = [] })
  pub tells : tells_all bare t (controls e) ≡ told
  pub few : room e ≤ 2

turn_waits : (bare : Bool) (t : TapState) (l : ShdlcLink) (e : EndState) (told : List (ℕ × ℕ × List ℕ)) (u : ShdlcTurn) → TapPending bare t l e told
    → TapPending bare t l (shdlc_turn e u) told
turn_waits bare t l e told (Offer fragments) h = go e.phase refl
  where
    P : EndState → Type 0
    P f = TapPending bare t l f told

    up : e.phase ≡ Up → P (put_out e fragments)
    up p =
        let same = controls_same e (put_out e fragments) e.due refl refl in
        let g = goes_offer (shdlc_put_all l (controls e)) (record e { due = [] }) fragments p h.goes in
        let Q : List Control → Type 0 = λ cs. GoesAt bare (hears_all bare t cs) (shdlc_put_all l cs) (record (put_out e fragments) { due = [] }) in
        record { goes = subst Q (sym same) g; tells = ap (tells_all bare t) same ∙ h.tells; few = h.few }

    go : (p : LinkState) → e.phase ≡ p → P (shdlc_turn e (Offer fragments))
    go Up p = let is : shdlc_turn e (Offer fragments) ≡ put_out e fragments = rw p refl in subst P (sym is) (up p)
    go _ p = let is : shdlc_turn e (Offer fragments) ≡ e = rw p refl in subst P (sym is) h
turn_waits bare t l e told (SetReady r) h =
    ready_by (λ f. TapPending bare t l f told) e r (phase_known e.phase) h.goes.none h
    (grind arith)
    (λ up noted. let a = answered up in record {
      goes = a.0;
      tells = a.1;
      few = let i = h.few in let j : length (e.due ++ Rr_due ∷ []) ≡ length e.due + 1 = length-append e.due (Rr_due ∷ []) in let k = rw noted at i in
          omega arith;
    })
  where
    k : ShdlcLink
    k = shdlc_put_all l (controls e)

    g : GoesAt bare (hears_all bare t (controls e)) k (changed e r [])
    g = grind arith

    as_changed : (ds : List Due) → map (control_due (changed e r ds)) e.due ≡ controls e
        → GoesAt bare (hears_all bare t (map (control_due (changed e r ds)) e.due)) (shdlc_put_all l (map (control_due (changed e r ds)) e.due))
        (changed e r [])
    as_changed ds q = let P : List Control → Type 0 = λ cs. GoesAt bare (hears_all bare t cs) (shdlc_put_all l cs) (changed e r []) in subst P (sym q) g

    answered : e.phase ≡ Up
        → GoesAt bare (hears_all bare t (controls (changed e r (e.due ++ Rr_due ∷ [])))) (shdlc_put_all l (controls (changed e r (e.due ++ Rr_due ∷ []))))
        (changed e r [])
        × (tells_all bare t (controls (changed e r (e.due ++ Rr_due ∷ []))) ≡ told)
    answered up =
        let f : EndState = changed e r (e.due ++ Rr_due ∷ []) in
        let c : Control = S Rr (expected e.session) in
        let u : TapState = hears_all bare t (controls e) in
        let a = goes_answer k (changed e r []) Rr up g in
        let q : controls f ≡ controls e ++ c ∷ [] =
        map-append (control_due f) e.due (Rr_due ∷ []) ∙ ap (λ cs. cs ++ c ∷ []) (controls_same e f e.due refl refl) in
        let P : ShdlcLink → Type 0 = λ j. GoesAt bare (tap_hears bare u c) j (changed e r []) in
        let links : shdlc_put_all l (controls f) ≡ shdlc_put k c = ap (shdlc_put_all l) q ∙ put_all-append l (controls e) (c ∷ []) in
        let heard : hears_all bare t (controls f) ≡ tap_hears bare u c = ap (hears_all bare t) q ∙ hears_all-append bare t (controls e) (c ∷ []) in (
          subst (λ z. GoesAt bare z (shdlc_put_all l (controls f)) (changed e r [])) (sym heard) (subst P (sym links) a.0),
          ap (tells_all bare t) q ∙ (tells_all-append bare t (controls e) (c ∷ [])
              ∙ (ap (λ m. m ++ (tap_tells bare u c ++ [])) h.tells ∙ (ap (λ m. told ++ (m ++ [])) a.1 ∙ append-nil told))),
        )

turns_wait : (bare : Bool) (t : TapState) (l : ShdlcLink) (ts : List ShdlcTurn) (e : EndState) (told : List (ℕ × ℕ × List ℕ)) → TapPending bare t l e told
    → TapPending bare t l (shdlc_turned e ts) told
turns_wait bare t l [] e told h = h
turns_wait bare t l (u ∷ ts) e told h = turns_wait bare t l ts (shdlc_turn e u) told (turn_waits bare t l e told u h)

-- what an end that has become e sent after its turns, and this was told
pub record Went (bare : Bool) (t : TapState) (l : ShdlcLink) (e : EndState) (told : List (ℕ × ℕ × List ℕ)) : Type 0 where
  pub knows : KnowsLink bare (hears_all bare t (frames_of most_frames e)) (shdlc_becomes l e)
  pub tells : tells_all bare t (frames_of most_frames e) ≡ told

goes_out : (bare : Bool) (t : TapState) (l : ShdlcLink) (e : EndState) (told : List (ℕ × ℕ × List ℕ)) → TapPending bare t l e told → Went bare t l e told
goes_out bare t l e told h =
    let f = frames_in_order e.due 12 e refl (omega (arith, h.few)) in
    let d = drains bare f.0 (record e { due = [] }) (hears_all bare t (controls e)) (shdlc_put_all l (controls e)) refl h.goes in
    let P : TapState → ShdlcLink → EndState → Type 0 = λ z j x. KnowsLink bare z (record j { controller = record j.controller { side = x } }) in
    grind arith

-- an end with nothing to answer
pub went_none : (bare : Bool) (t : TapState) (ts : List ShdlcTurn) (l : ShdlcLink) (e : EndState) → e.due ≡ [] → GoesAt bare t l e
    → Went bare t l (shdlc_turned e ts) []
went_none bare t ts l e due g = let h0 = goes_out bare t l (shdlc_turned e ts) [] (turns_wait bare t l ts e [] (grind arith)) in grind arith

-- an end with one control frame to send, which goes first, and tells this
pub went_one : (bare : Bool) (t : TapState) (ts : List ShdlcTurn) (l : ShdlcLink) (e : EndState) (d : Due) (told : List (ℕ × ℕ × List ℕ)) → e.due ≡ d ∷ []
    → GoesAt bare (tap_hears bare t (control_due e d)) (shdlc_put l (control_due e d)) (record e { due = [] })
    → tap_tells bare t (control_due e d) ≡ told → Went bare t l (shdlc_turned e ts) told
went_one bare t ts l e d told due g tells =
    goes_out bare t l (shdlc_turned e ts) told
    (turns_wait bare t l ts e told (record {
      goes = grind arith;
      tells = ap (λ ds. tells_all bare t (map (control_due e) ds)) due ∙ (append-nil (tap_tells bare t (control_due e d)) ∙ tells);
      few = let i : length e.due ≡ 1 = ap (length {A = Due}) due in omega (arith, i, at_most_one e.session.answered_rnr);
    }))

-- what is known of a link between events is known as its frames go out
pub goes_of : {bare : Bool} {t : TapState} {kn kf : ℕ} (l : ShdlcLink) → SafeLink kn kf l → KnowsLink bare t l → GoesAt bare t l l.controller.side
goes_of l s h = grind arith
