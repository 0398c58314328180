-- An end has its turns, and then all that is due goes out.
use Rattle.std.proofs.lemmas.List.{map-append}
use Rattle.link_laws.proofs.Words.{Bool, Control, CoreLink as ShdlcLink, CoreTurn as ShdlcTurn, Down, Due, EndState, Fragment, I, Kind, LinkState, List}
use Rattle.link_laws.proofs.Words.{NumberedShdlc, Offer, OnWire, Option, Rej, Rej_due, Rnr, Rnr_due, Rr, Rr_due, S, Session, SetReady, Some, Up, Waiting, []}
use Rattle.link_laws.proofs.Words.{after_frames, ap, arith, cond, control_due, core_turned as shdlc_turned, drop, expected, false, fetched, fits, fragment_due}
use Rattle.link_laws.proofs.Words.{fragment_due-within, frame_due, frames_of, inl, inr, is_act, length, length-append, map, nat_lt, no_session, put_out, refl}
use Rattle.link_laws.proofs.Words.{sans, sent_next, shdlc_becomes, shdlc_put, shdlc_put_all, shdlc_turn, subst, suc, sym, true, with_ready}
use Rattle.link_laws.proofs.Words.{with_shdlc_controller, zero, ℕ, ◌%◌, ◌++◌, ◌+◌, ◌∙◌, ◌∷◌, ◌≡◌, ◌≤◌, ◌⊎◌}
use Rattle.link_laws.proofs.places.Joined.{changed, fetch_cases}
use Rattle.link_laws.proofs.sessions.Wire.{IsData, rsets, behind_ua, live, behind_push, behind_push_none, behind_rsets, data_not_ua}
use Rattle.link_laws.proofs.sessions.Hand.{NothingIsOut, idle_out, hand_send}
use Rattle.link_laws.proofs.sessions.Data.{Pair, pair_next, pair_put, Plain, pushed, pair_send, pair_send_S, IsAnswer}
use Rattle.link_laws.proofs.sessions.Safe.{Safe, session_with, safe_swap, GoesOn, pair_from, safe_up, safe_idle, safe_lose}
use Rattle.link_laws.proofs.Cases.{by_option, by_phase}

abbrev pub SafeAt : ℕ → ℕ → ShdlcLink → EndState → Type 0
SafeAt kn kf l q = Safe kn kf (record l.controller { side = q }) l.host (sans l.to_controller) (sans l.to_host) l.resets

abbrev pub SafeLink : ℕ → ℕ → ShdlcLink → Type 0
SafeLink kn kf l = Safe kn kf l.controller l.host (sans l.to_controller) (sans l.to_host) l.resets

-- ## Sending

pub sans-push : (w : List OnWire) (x : OnWire) → is_act x.frame ≡ false → sans (w ++ x ∷ []) ≡ sans w ++ x ∷ []
sans-push [] x q = rw q refl
sans-push (y ∷ w) x q = let h0 = sans-push w x q in grind arith

pub sans-push_act : (w : List OnWire) (x : OnWire) → is_act x.frame ≡ true → sans (w ++ x ∷ []) ≡ sans w
sans-push_act [] x q = rw q refl
sans-push_act (y ∷ w) x q = let h0 = sans-push_act w x q in grind arith

-- a wire that is full loses its first frame
pub fits_keeps : {kf : ℕ} {n f : NumberedShdlc} {to_n : List OnWire} {r : ℕ} (w : List OnWire) → Safe 0 kf n f to_n (sans w) r
    → Safe 0 kf n f to_n (sans (fits w)) r
fits_keeps {kf} {n} {f} {to_n} {r} w h = go (nat_lt 64 (length w)) w h
  where
    first : (x : OnWire) (xs : List OnWire) (b : Bool) → is_act x.frame ≡ b → Safe 0 kf n f to_n (sans (x ∷ xs)) r → Safe 0 kf n f to_n (sans xs) r
    first x xs true q g = rw q at g
    first x xs false q g =
        safe_swap (safe_lose (safe_swap (rw q at g)))

    go : (b : Bool) (v : List OnWire) → Safe 0 kf n f to_n (sans v) r → Safe 0 kf n f to_n (sans (cond b (drop 1 v) v)) r
    go false v g = g
    go true [] g = g
    go true (x ∷ xs) g = first x xs (is_act x.frame) refl g

-- one frame more
pub safe_fits : {kf : ℕ} {n f : NumberedShdlc} {to_n : List OnWire} {r : ℕ} (w : List OnWire) (x : OnWire) → is_act x.frame ≡ false
    → Safe 0 kf n f to_n (sans w ++ x ∷ []) r → Safe 0 kf n f to_n (sans (fits (w ++ x ∷ []))) r
safe_fits {kf} {n} {f} {to_n} {r} w x q h =
    fits_keeps (w ++ x ∷ []) (let P : List OnWire → Type 0 = λ v. Safe 0 kf n f to_n v r in subst P (sym (sans-push w x q)) h)

pub live-push : (p : LinkState) (w : List OnWire) (x : OnWire) → IsData x.frame → live p (w ++ x ∷ []) ≡ pushed (live p w) x
live-push Waiting w x d =
    by_option {P = behind_ua (w ++ x ∷ []) ≡ pushed (behind_ua w) x} (behind_ua w) (λ e. rw e (behind_push_none w x (data_not_ua x.frame d) e))
    (λ ys e. rw e (behind_push w ys x e))
live-push _ w x d = refl

pub plain_live : (p : LinkState) (w : List OnWire) → rsets w ≡ [] → Plain (live p w)
plain_live Up w e = e
plain_live Down w e = tt
plain_live Waiting w e = by_option {P = Plain (behind_ua w)} (behind_ua w) (λ q. rw q tt) (λ ys q. rw q (sym (behind_rsets w ys q).0 ∙ e))

pub no_rset_out : {kn kf : ℕ} {n f : NumberedShdlc} {to_n to_f : List OnWire} {r : ℕ} → Safe kn kf n f to_n to_f r → n.side.phase ≡ Up → NothingIsOut to_n to_f
no_rset_out h up = idle_out h.hand (λ w. let e = sym up ∙ w in cc)

pub pair_part : {s t : Session} {here : List OnWire} {o p : Option (List OnWire)} → p ≡ o → Pair s t here o → Pair s t here p
pair_part e h = rw e h

-- an answer of an end that is Up
pub safe_answer : {kf : ℕ} {n f : NumberedShdlc} {to_n to_f : List OnWire} {r : ℕ} (k : Kind) → n.side.phase ≡ Up → Safe 0 kf n f to_n to_f r
    → Safe 0 kf n f to_n (to_f ++ record { frame = S k (expected n.side.session); age = 0; number = 0 } ∷ []) r
safe_answer {n = n} {f} {to_f = to_f} k up h =
    let x : OnWire = record { frame = S k (expected n.side.session); age = 0; number = 0 } in
    safe_up h (record { was_up = up; up = up; due = h.n_due; own = refl; peer = refl }) (hand_send h.hand x up tt refl)
    (pair_part (live-push f.side.phase to_f x tt) (pair_send_S x refl (plain_live f.side.phase to_f (no_rset_out h up).no_rset) (pair_from h up)))

-- a fragment of an end that is Up
pub safe_fragment : {kf : ℕ} {n f : NumberedShdlc} {to_n to_f : List OnWire} {r : ℕ} {info : Fragment} → n.side.phase ≡ Up
    → fragment_due n.side.session ≡ Some info → Safe 0 kf n f to_n to_f r
    → Safe 0 kf (record n { side = record n.side { session = sent_next n.side.session } }) f to_n
    (to_f ++ record { frame = I (n.side.session.next % 8) (expected n.side.session) info; age = 0; number = 0 } ∷ []) r
safe_fragment {n = n} {f} {to_f = to_f} {info = info} up is h =
    let s = n.side.session in
    let x : OnWire = record { frame = I (s.next % 8) (expected s) info; age = 0; number = 0 } in
    let tells = fragment_due-within s info is in
    safe_up h (record { was_up = up; up = up; due = h.n_due; own = refl; peer = refl }) (hand_send h.hand x up tt refl)
    (pair_part (live-push f.side.phase to_f x tt)
    (pair_send x tells.0 tells.1 refl (plain_live f.side.phase to_f (no_rset_out h up).no_rset) (pair_from h up)))

-- what each frame that is due keeps, as the end sends it, all of them keep
pub sends_keeps : (P : EndState → ShdlcLink → Type 0)
    → ((e : EndState) (l : ShdlcLink) (c : Control) → frame_due e ≡ Some c → P e l → P (fetched e) (shdlc_put l c))
    → (n : ℕ) (e : EndState) (l : ShdlcLink) → P e l → P (after_frames n e) (shdlc_put_all l (frames_of n e))
sends_keeps P each zero e l h = h
sends_keeps P each (suc n) e l h = go (frame_due e) refl (sends_keeps P each n (fetched e))
  where
    go : (o : Option Control) → frame_due e ≡ o
        → ((m : ShdlcLink) → P (fetched e) m → P (after_frames n (fetched e)) (shdlc_put_all m (frames_of n (fetched e))))
        → P (after_frames (suc n) e) (shdlc_put_all l (frames_of (suc n) e))
    go o q later = grind arith

pub safe_drains : (kf m : ℕ) (q : EndState) (l : ShdlcLink) → SafeAt 0 kf l q
    → SafeLink 0 kf (with_shdlc_controller (shdlc_put_all l (frames_of m q)) (after_frames m q))
safe_drains kf m q l h = sends_keeps (λ e v. SafeAt 0 kf v e) each m q l h
  where
    each : (e : EndState) (v : ShdlcLink) (c : Control) → frame_due e ≡ Some c → SafeAt 0 kf v e → SafeAt 0 kf (shdlc_put v c) (fetched e)
    each e v c is g =
        fetch_cases (λ f o. o ≡ Some c → SafeAt 0 kf (shdlc_put v c) f) e
        (λ d ds p n. absurd (let z = sym p ∙ g.n_due in cc))
        (λ p q n. cc)
        (λ info p q n.
        let frame : Control = I (e.session.next % 8) (expected e.session) info in
        let same : frame ≡ c = cc in
        let P : Control → Type 0 = λ k. SafeAt 0 kf (shdlc_put v k) (record e { session = sent_next e.session }) in
        subst P same (safe_fits v.to_host (record { frame = frame; age = 0; number = 0 }) refl (safe_fragment (grind arith) q g)))
        is

pub up_step : {kn kf : ℕ} (l : ShdlcLink) {q : EndState} → GoesOn l.controller.side q
    → Pair q.session (session_with l.host l.controller) (sans l.to_controller) (live l.host.side.phase (sans l.to_host))
    → SafeLink kn kf l → SafeAt 0 kf l q
up_step l on pair h =
    safe_up h on
    (grind arith)
    pair

-- it becomes ready or not ready
pub ready_by : (P : EndState → Type 0) (e : EndState) (r : Bool) → (e.phase ≡ Up → ⊥) ⊎ (e.phase ≡ Up) → ((e.phase ≡ Up → ⊥) → e.session ≡ no_session)
    → P e → P (changed e r e.due) → (e.phase ≡ Up → e.session.answered_rnr ≡ true → P (changed e r (e.due ++ Rr_due ∷ []))) → P (with_ready e r)
ready_by P e r up none same other answered = grind arith

pub phase_known : (p : LinkState) → (p ≡ Up → ⊥) ⊎ (p ≡ Up)
phase_known p = grind arith

-- an answer goes out
pub put_answer : (kf : ℕ) (l : ShdlcLink) (e : EndState) (k : Kind) → e.phase ≡ Up → SafeAt 0 kf l e → SafeAt 0 kf (shdlc_put l (S k (expected e.session))) e
put_answer kf l e k up h = safe_fits l.to_host (record { frame = S k (expected e.session); age = 0; number = 0 }) refl (safe_answer k up h)

-- ## Turns, and then all that is due goes out

abbrev pub controls : EndState → List Control
controls e = map (control_due e) e.due

-- how many control frames are due, and may be made by turns
abbrev pub room : EndState → ℕ
room e = length e.due + cond e.session.answered_rnr 1 0

-- the end has become e: with its control frames on the wire the link is as it should be
pub record Pending (kf : ℕ) (l : ShdlcLink) (e : EndState) : Type 0 where
  pub safe : SafeAt 0 kf (shdlc_put_all l (controls e)) (record e { due = [] })
  pub few : room e ≤ 2

pub controls_same : (e f : EndState) (ds : List Due) → f.session.acc ≡ e.session.acc → f.own_window ≡ e.own_window → map (control_due f) ds
    ≡ map (control_due e) ds
controls_same e f ds a w = grind arith

pub put_all-append : (l : ShdlcLink) (cs ds : List Control) → shdlc_put_all l (cs ++ ds) ≡ shdlc_put_all (shdlc_put_all l cs) ds
put_all-append l [] ds = refl
put_all-append l (c ∷ cs) ds = put_all-append (shdlc_put l c) cs ds

pub offer_at : (kf : ℕ) (l : ShdlcLink) (fragments : List Fragment) → l.controller.side.phase ≡ Up → SafeLink 0 kf l
    → SafeAt 0 kf l (put_out l.controller.side fragments)
offer_at kf l fragments q h = up_step l (record { was_up = q; up = q; due = h.n_due; own = refl; peer = refl }) (pair_put fragments (pair_from h q)) h

pub ready_at : (kf : ℕ) (l : ShdlcLink) (r : Bool) → SafeLink 0 kf l → SafeAt 0 kf l (changed l.controller.side r l.controller.side.due)
ready_at kf l r h = other (phase_known e.phase)
  where
    e : EndState
    e = l.controller.side

    other : (e.phase ≡ Up → ⊥) ⊎ (e.phase ≡ Up) → SafeAt 0 kf l (changed e r e.due)
    other (inr up) =
        let p = pair_from h up in
        up_step l (record { was_up = up; up = up; due = h.n_due; own = refl; peer = refl }) (pair_next p.mine.from p.mine.sent refl p) h
    other (inl no_up) =
        safe_idle h no_up (record { phase = refl; due = refl; session = grind arith; own = refl; peer = refl }) refl h.hand

pub turn_pending : (kf : ℕ) (l : ShdlcLink) (e : EndState) (t : ShdlcTurn) → Pending kf l e → Pending kf l (shdlc_turn e t)
turn_pending kf l e (Offer fragments) h =
    by_phase {P = Pending kf l (shdlc_turn e (Offer fragments))} e.phase
    (λ p. let P : EndState → Type 0 = λ f. Pending kf l f in subst P (sym (rw p refl)) (up p)) (λ p. grind arith) (λ p. grind arith)
  where
    up : e.phase ≡ Up → Pending kf l (put_out e fragments)
    up p =
        let m : ShdlcLink = with_shdlc_controller (shdlc_put_all l (controls e)) (record e { due = [] }) in
        let s : SafeAt 0 kf m (put_out m.controller.side fragments) = offer_at kf m fragments p h.safe in
        grind arith
turn_pending kf l e (SetReady r) h =
    ready_by (λ f. Pending kf l f) e r (phase_known e.phase) h.safe.n_none h
    (record { safe = as_changed e.due (controls_same e (changed e r e.due) e.due refl refl); few = omega (arith, h.few) })
    (λ up noted. record {
      safe = answered up;
      few = let i = h.few in let j : length (e.due ++ Rr_due ∷ []) ≡ length e.due + 1 = length-append e.due (Rr_due ∷ []) in let k = rw noted at i in
          omega arith;
    })
  where
    m : ShdlcLink
    m = with_shdlc_controller (shdlc_put_all l (controls e)) (record e { due = [] })

    s : SafeAt 0 kf m (changed (record e { due = [] }) r [])
    s = ready_at kf m r h.safe

    as_changed : (ds : List Due) → map (control_due (changed e r ds)) e.due ≡ controls e
        → SafeAt 0 kf (shdlc_put_all l (map (control_due (changed e r ds)) e.due)) (changed e r [])
    as_changed ds q = let P : List Control → Type 0 = λ cs. SafeAt 0 kf (shdlc_put_all l cs) (changed e r []) in subst P (sym q) s

    answered : e.phase ≡ Up → SafeAt 0 kf (shdlc_put_all l (controls (changed e r (e.due ++ Rr_due ∷ [])))) (changed e r [])
    answered up =
        let f : EndState = changed e r (e.due ++ Rr_due ∷ []) in
        let a : SafeAt 0 kf (shdlc_put (shdlc_put_all l (controls e)) (S Rr (expected e.session))) (changed e r []) =
        put_answer kf (shdlc_put_all l (controls e))
        (changed e r []) Rr up s in
        let q : controls f ≡ controls e ++ S Rr (expected e.session) ∷ [] =
        map-append (control_due f) e.due (Rr_due ∷ []) ∙ ap (λ cs. cs ++ S Rr (expected e.session) ∷ []) (controls_same e f e.due refl refl) in
        let P : ShdlcLink → Type 0 = λ k. SafeAt 0 kf k (changed e r []) in
        subst P (sym (ap (shdlc_put_all l) q ∙ put_all-append l (controls e) (S Rr (expected e.session) ∷ []))) a

pub turned_pending : (kf : ℕ) (ts : List ShdlcTurn) (l : ShdlcLink) (e : EndState) → Pending kf l e → Pending kf l (shdlc_turned e ts)
turned_pending kf [] l e h = h
turned_pending kf (t ∷ ts) l e h = turned_pending kf ts l (shdlc_turn e t) (turn_pending kf l e t h)

-- the control frames go first
pub frames_in_order : (ds : List Due) (n : ℕ) (e : EndState) → e.due ≡ ds → length ds ≤ n
    → (m : ℕ) × (frames_of n e ≡ map (control_due e) ds ++ frames_of m (record e { due = [] })) × (after_frames n e ≡ after_frames m (record e { due = [] }))
frames_in_order [] n e q i = (n, rw (← q) refl, rw (← q) refl)
frames_in_order (d ∷ ds) zero e q i = absurd (omega (arith, i))
frames_in_order (d ∷ ds) (suc n) e q i =
    let more = frames_in_order ds n (record e { due = ds }) refl (omega (arith, i)) in
    let frame : frame_due e ≡ Some (control_due e d) = rw q refl in
    let next : fetched e ≡ record e { due = ds } = rw q refl in
    (more.0, rw (frame, next) (ap (λ cs. control_due e d ∷ cs) more.1), rw next more.2)

pub pending_goes : (kf : ℕ) (l : ShdlcLink) (e : EndState) → Pending kf l e → SafeLink 0 kf (shdlc_becomes l e)
pending_goes kf l e h =
    let f = frames_in_order e.due 12 e refl (omega (arith, h.few)) in
    let s = safe_drains kf f.0 (record e { due = [] }) (shdlc_put_all l (controls e)) h.safe in
    let q : shdlc_put_all l (frames_of 12 e) ≡ shdlc_put_all (shdlc_put_all l (controls e)) (frames_of f.0 (record e { due = [] })) = grind arith in
    let P : ShdlcLink → EndState → Type 0 = λ k g. SafeLink 0 kf (with_shdlc_controller k g) in
    subst (λ k. P k (after_frames 12 e)) (sym q) (subst (P (shdlc_put_all (shdlc_put_all l (controls e)) (frames_of f.0 (record e { due = [] })))) (sym f.2) s)

pub at_most_one : (b : Bool) → cond b 1 0 ≤ 1
at_most_one b = grind arith

-- an end with nothing to answer
pub becomes_none : (kf : ℕ) (ts : List ShdlcTurn) (l : ShdlcLink) (e : EndState) → SafeAt 0 kf l e → SafeLink 0 kf (shdlc_becomes l (shdlc_turned e ts))
becomes_none kf ts l e h =
    pending_goes kf l (shdlc_turned e ts)
    (turned_pending kf ts l e
    (record {
      safe = let due : e.due ≡ [] = h.n_due in let P : List Due
          → Type 0 = λ ds. SafeAt 0 kf (shdlc_put_all l (map (control_due e) ds)) (record e { due = [] }) in
          let Q : List Due → Type 0 = λ ds. SafeAt 0 kf l (record e { due = ds }) in subst P (sym due) (subst Q due h);
      few = let due : length e.due ≡ 0 = ap (length {A = Due}) h.n_due in omega (arith, due, at_most_one e.session.answered_rnr);
    }))

-- an end with one control frame to send, which goes first
pub becomes_one : (kf : ℕ) (ts : List ShdlcTurn) (l : ShdlcLink) (e : EndState) (d : Due) → e.due ≡ d ∷ []
    → SafeAt 0 kf (shdlc_put l (control_due e d)) (record e { due = [] })
    → SafeLink 0 kf (shdlc_becomes l (shdlc_turned e ts))
becomes_one kf ts l e d is h = let h0 = pending_goes kf l (shdlc_turned e ts) (turned_pending kf ts l e (grind arith)) in grind arith

pub becomes_answer : (kf : ℕ) (ts : List ShdlcTurn) (l : ShdlcLink) (e : EndState) (d : Due) → IsAnswer d
    → e.due ≡ d ∷ [] → e.phase ≡ Up → SafeAt 0 kf l (record e { due = [] }) → SafeLink 0 kf (shdlc_becomes l (shdlc_turned e ts))
becomes_answer kf ts l e Rr_due a is up h = becomes_one kf ts l e Rr_due is (put_answer kf l (record e { due = [] }) Rr up h)
becomes_answer kf ts l e Rej_due a is up h = becomes_one kf ts l e Rej_due is (put_answer kf l (record e { due = [] }) Rej up h)
becomes_answer kf ts l e Rnr_due a is up h = becomes_one kf ts l e Rnr_due is (put_answer kf l (record e { due = [] }) Rnr up h)
becomes_answer kf ts l e _ a is up h = absurd a

-- the end has become e, with an answer to send or none
pub becomes_taken : (kf : ℕ) (ts : List ShdlcTurn) (l : ShdlcLink) (e : EndState) → e.phase ≡ Up → (e.due ≡ []) ⊎ ((d : Due) × IsAnswer d × (e.due ≡ d ∷ []))
    → SafeAt 0 kf l (record e { due = [] }) → SafeLink 0 kf (shdlc_becomes l (shdlc_turned e ts))
becomes_taken kf ts l e up (inl is) h = becomes_none kf ts l e (let P : List Due → Type 0 = λ d. SafeAt 0 kf l (record e { due = d }) in subst P (sym is) h)
becomes_taken kf ts l e up (inr a) h = becomes_answer kf ts l e a.0 a.1 a.2 up h

-- ## Events of an end that is Up
