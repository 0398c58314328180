-- Two ends that are in one session, or will be once they took the UAs on their way to them: what joins them while nothing of
-- the session was lost and no RNR made.
use Rattle.link_laws.proofs.Words.{Bool, Control, CoreLink as ShdlcLink, CoreTurn as ShdlcTurn, Down, Due, EndState, Fragment, LinkState, List, Losses, None}
use Rattle.link_laws.proofs.Words.{Offer, OnWire, Option, Rej_due, Rnr_due, Rr_due, Rset_due, SetReady, Some, Ua, Ua_due, Up, Waiting, [], after_frames, ap}
use Rattle.link_laws.proofs.Words.{arith, cond, core_turned as shdlc_turned, drop, false, fetched, fits, fragment_due, frame_due, frames_of, inl, inr, is_act}
use Rattle.link_laws.proofs.Words.{is_rnr, length, length-append, min, nat_lt, new_session, noted_all, noted_loss, older, overflows, put_out, refl, sans}
use Rattle.link_laws.proofs.Words.{shdlc_put, shdlc_put_all, shdlc_turn, subst, suc, sym, true, with_frame, with_shdlc_controller, zero, ℕ, ◌++◌}
use Rattle.link_laws.proofs.Words.{◌+◌, ◌<◌, ◌||◌, ◌∙◌, ◌∷◌, ◌≡◌, ◌≤◌, ◌⊎◌}
use Rattle.link_laws.proofs.places.Flows.{AnswersOnly}
use Rattle.link_laws.proofs.places.Joined.{Joined, after_frames_idle, fetch_cases, fetched_idle, idle_after, joined_exchanged, joined_fetched, joined_older}
use Rattle.link_laws.proofs.places.Joined.{joined_put, joined_ready, left, ready_cases}
use Rattle.link_laws.proofs.sessions.Wire.{IsData, rsets, uas, behind_ua, live, behind_new, live-older}
use Rattle.link_laws.proofs.sessions.Data.{pushed}
use Rattle.link_laws.proofs.sessions.Safe.{HasWindows, up_end}
use Rattle.link_laws.proofs.sessions.Sending.{sans-push, live-push, room, ready_by}
use Rattle.link_laws.proofs.sessions.Steps.{not_rset}
use Rattle.link_laws.proofs.Cases.{by_option}

-- the end as it will be once it took its UA
abbrev pub as_up : LinkState → EndState → EndState
as_up Waiting e = up_end e (min e.own_window e.peer_window)
as_up Up e = e
as_up Down e = e

pub to_up : (P : EndState → Type 0) (e : EndState) → e.phase ≡ Up → P (as_up e.phase e) → P e
to_up P e up h = let Q : LinkState → Type 0 = λ p. P (as_up p e) in subst Q up h

pub record Meets (n f : EndState) (to_n to_f : List OnWire) : Type 0 where
  pub joined : Joined (Unit {0}) n f to_n to_f
  pub near : frame_due n ≡ None
  pub far : frame_due f ≡ None

-- W says that nothing was lost and no RNR made since the first of them came up; where none did yet, both wait
abbrev pub Tied : Type 0 → EndState → EndState → List OnWire → List OnWire → Type 0
Tied W n f to_n to_f =
    (((n.phase ≡ Waiting) × (f.phase ≡ Waiting)) ⊎ W) → (a b : List OnWire) → live n.phase to_n ≡ Some a → live f.phase to_f ≡ Some b
    → Meets (as_up n.phase n) (as_up f.phase f) a b

abbrev pub IsWhole : Losses → Type 0
IsWhole n = (n.lost ≡ false) × (n.rnr ≡ false)

abbrev pub TiedLink : Losses → ShdlcLink → Type 0
TiedLink n l = Tied (IsWhole n) l.controller.side l.host.side (sans l.to_controller) (sans l.to_host)

pub tied_swap : (W : Type 0) (n f : EndState) (to_n to_f : List OnWire) → Tied W n f to_n to_f → Tied W f n to_f to_n
tied_swap W n f to_n to_f h w a b p q =
    let m = h (grind arith) b a q p in
    record { joined = joined_exchanged (Unit {0}) (as_up n.phase n) (as_up f.phase f) b a m.joined; near = m.far; far = m.near }

-- only what an end notes of itself has changed
pub meets_like : (n m f : EndState) (to_n to_f : List OnWire) → m.phase ≡ n.phase → m.due ≡ n.due → m.session ≡ n.session → frame_due m ≡ None
    → Meets n f to_n to_f → Meets m f to_n to_f
meets_like n m f to_n to_f phase due session idle h = grind arith

-- ## A new session

pub record IsNew (e : EndState) : Type 0 where
  pub up : e.phase ≡ Up
  pub due : e.due ≡ []
  pub window : ℕ
  pub fits : (0 < window) × (window ≤ 4)
  pub session : e.session ≡ new_session window

pub waiting_new : (e : EndState) → e.phase ≡ Waiting → HasWindows e → IsNew (as_up e.phase e)
waiting_new e waiting h = rw waiting (grind arith)

pub none_due : (v : ℕ) → fragment_due (new_session v) ≡ None
none_due v = grind arith

pub new_meets : (n f : EndState) → IsNew n → IsNew f → Meets n f [] []
new_meets n f g h =
    record {
      joined = record {
        near_up = g.up;
        far_up = h.up;
        near_due = rw g.due tt;
        far_due = rw h.due tt;
        near_marks = [];
        far_marks = [];
        near_shows = tt;
        far_shows = tt;
        near_sends = rw (g.session, h.session) (grind arith);
        far_sends = rw (g.session, h.session) (grind arith);
        near_whole = λ v d. rw (g.session, h.session) (grind arith);
        far_whole = λ v d. rw (g.session, h.session) (grind arith);
      };
      near = (rw (g.due, g.session, none_due g.window) refl);
      far = (rw (h.due, h.session, none_due h.window) refl);
    }

pub tied_new : (W : Type 0) (n f : EndState) (to_n to_f : List OnWire) → IsNew (as_up n.phase n) → IsNew (as_up f.phase f)
    → ((a : List OnWire) → live n.phase to_n ≡ Some a → a ≡ []) → ((b : List OnWire) → live f.phase to_f ≡ Some b → b ≡ []) → Tied W n f to_n to_f
tied_new W n f to_n to_f g h near far w a b p q =
    let P : List OnWire → Type 0 = λ v. Meets (as_up n.phase n) (as_up f.phase f) v b in
    let Q : List OnWire → Type 0 = λ v. Meets (as_up n.phase n) (as_up f.phase f) [] v in
    subst P (sym (near a p)) (subst Q (sym (far b q)) (new_meets (as_up n.phase n) (as_up f.phase f) g h))

-- behind a new UA, the only one, stands nothing
pub behind_fits : (w : List OnWire) (x : OnWire) → x.frame ≡ Ua → uas (sans w) ≡ [] → (b : List OnWire)
    → behind_ua (sans (fits (w ++ x ∷ []))) ≡ Some b → b ≡ []
behind_fits w x ua none b = go (nat_lt 64 (length (w ++ x ∷ []))) w none
  where
    new : (v : List OnWire) → uas (sans v) ≡ [] → behind_ua (sans (v ++ x ∷ [])) ≡ Some b → b ≡ []
    new v e q = by_new (behind_new (sans v) x ua e)
      where
        q2 : behind_ua (sans v ++ x ∷ []) ≡ Some b
        q2 = ap behind_ua (sym (sans-push v x (rw ua refl))) ∙ q

        by_new : ((behind_ua (sans v ++ x ∷ []) ≡ None) ⊎ ((behind_ua (sans v ++ x ∷ []) ≡ Some []) × (rsets (sans v) ≡ []))) → b ≡ []
        by_new (inl r) = absurd (let z = sym r ∙ q2 in cc)
        by_new (inr r) = let z = sym r.0 ∙ q2 in cc

    go : (o : Bool) (v : List OnWire) → uas (sans v) ≡ [] → behind_ua (sans (cond o (drop 1 (v ++ x ∷ [])) (v ++ x ∷ []))) ≡ Some b → b ≡ []
    go false v e q = new v e q
    go true [] e q = cc
    go true (y ∷ v) e q = new v (grind arith) q

-- a wire that loses no frame that counts
pub fits_sans : (w : List OnWire) → overflows w ≡ false → sans (fits w) ≡ sans w
fits_sans w h = grind arith

-- ## Sending

-- the near end, which is up, while it sends what is due; G is kept
abbrev pub Rests : Type 0 → Type 0 → EndState → EndState → List OnWire → List OnWire → Type 0
Rests G W e f to_n to_f =
    W → (b : List OnWire) → live f.phase to_f ≡ Some b
    → Joined (Unit {0}) e (as_up f.phase f) to_n b × (frame_due (as_up f.phase f) ≡ None) × G

pub data_due : (e : EndState) (c : Control) → AnswersOnly e.due → frame_due e ≡ Some c → IsData c × (is_act c ≡ false)
data_due e c a is = grind arith

pub fetched-phase : (e : EndState) → (fetched e).phase ≡ e.phase
fetched-phase e = fetch_cases (λ f o. f.phase ≡ e.phase) e (λ d ds p. refl) (λ p q. refl) (λ info p q. refl)

pub fetched_answers : (e : EndState) → AnswersOnly e.due → AnswersOnly (fetched e).due
fetched_answers e a = grind arith

-- V says what W says, and that the frame c, put on the wire w, makes it lose no frame that counts and is no RNR
record SaysMore (W V : Type 0) (w : List OnWire) (c : Control) : Type 0 where
  weaker : V → W
  fits : V → overflows (with_frame w c) ≡ false
  no_rnr : V → is_rnr c ≡ false

rests_put : (G : Type 0) {W V : Type 0} (e f : EndState) {c : Control} (to_n : List OnWire) {w : List OnWire} → frame_due e ≡ Some c
    → IsData c × (is_act c ≡ false) → SaysMore W V w c
    → Rests G W e f to_n (sans w) → Rests G V (fetched e) f to_n (sans (fits (with_frame w c)))
rests_put G {W} {V} e f {c} to_n {w} is d more h v b p =
    by_option {P = Joined (Unit {0}) (fetched e) (as_up f.phase f) to_n b × (frame_due (as_up f.phase f) ≡ None) × G} (live f.phase (sans w))
    (λ q. absurd (let z : pushed None x ≡ Some b = rw q at (sym (live-push f.phase (sans w) x d.0) ∙ whole) in cc)) (λ u q.
    let z : pushed (Some u) x ≡ Some b = rw q at (sym (live-push f.phase (sans w) x d.0) ∙ whole) in
    let same : u ++ x ∷ [] ≡ b = cc in
    let g = h (more.weaker v) u q in
    let one : Joined (Unit {0}) (fetched e) (as_up f.phase f) to_n (with_frame u c) =
    rw is at (joined_fetched (Unit {0}) (Unit {0}) (λ u. u) e (as_up f.phase f) to_n u (λ u. rw is (more.no_rnr v)) g.0) in
    (subst (Joined (Unit {0}) (fetched e) (as_up f.phase f) to_n) same one, g.1, g.2))
  where
    x : OnWire
    x = record { frame = c; age = 0; number = 0 }

    whole : live f.phase (sans w ++ x ∷ []) ≡ Some b
    whole = ap (live f.phase) (sym (fits_sans (with_frame w c) (more.fits v) ∙ sans-push w x d.1)) ∙ p

-- what the near end keeps as it sends
abbrev pub Keeps : Type 0 → Losses → EndState → ShdlcLink → Type 0
Keeps G n e v = (e.phase ≡ Up) × AnswersOnly e.due × Rests G (IsWhole n) e v.host.side (sans v.to_controller) (sans v.to_host)

keeps_each : (G : Type 0) (n : Losses) (e : EndState) (v : ShdlcLink) (c : Control) → frame_due e ≡ Some c → Keeps G n e v
    → Keeps G (noted_loss n v c) (fetched e) (shdlc_put v c)
keeps_each G n e v c is k =
    let d = data_due e c k.1 is in
    let V : Type 0 = ((n.lost || (overflows (with_frame v.to_host c))) ≡ false) × ((n.rnr || is_rnr c) ≡ false) in
    let more : SaysMore (IsWhole n) V v.to_host c = grind arith in
    (fetched-phase e ∙ k.0, fetched_answers e k.1, rw (not_rset c (inl d.0)) (rests_put G e v.host.side (sans v.to_controller) is d more k.2))

-- what each frame that is due keeps, as the end sends it, all of them keep
pub sends_noted : (P : Losses → EndState → ShdlcLink → Type 0)
    → ((n : Losses) (e : EndState) (l : ShdlcLink) (c : Control) → frame_due e ≡ Some c → P n e l → P (noted_loss n l c) (fetched e) (shdlc_put l c))
    → (m : ℕ) (n : Losses) (e : EndState) (l : ShdlcLink) → P n e l → P (noted_all n l (frames_of m e)) (after_frames m e) (shdlc_put_all l (frames_of m e))
sends_noted P each zero n e l h = h
sends_noted P each (suc m) n e l h = go (frame_due e) refl (λ k. sends_noted P each m k (fetched e))
  where
    go : (o : Option Control) → frame_due e ≡ o
        → ((k : Losses) (v : ShdlcLink) → P k (fetched e) v
        → P (noted_all k v (frames_of m (fetched e))) (after_frames m (fetched e)) (shdlc_put_all v (frames_of m (fetched e))))
        → P (noted_all n l (frames_of (suc m) e)) (after_frames (suc m) e) (shdlc_put_all l (frames_of (suc m) e))
    go None q later = rw q (rw (fetched_idle e q, after_frames_idle m e q) h)
    go (Some c) q later = rw q (later (noted_loss n l c) (shdlc_put l c) (each n e l c q h))

tied_drains : (m : ℕ) (n : Losses) (e : EndState) (l : ShdlcLink) → Keeps (left e ≤ m) n e l
    → TiedLink (noted_all n l (frames_of m e)) (with_shdlc_controller (shdlc_put_all l (frames_of m e)) (after_frames m e))
tied_drains m n e l h w a b p q =
    let k = sends_noted (Keeps (left e ≤ m)) (keeps_each (left e ≤ m)) m n e l h in
    go (noted_all n l (frames_of m e)) (after_frames m e) (shdlc_put_all l (frames_of m e)) k (λ i. idle_after m e i) w p q
  where
    go : (k : Losses) (z : EndState) (v : ShdlcLink) → Keeps (left e ≤ m) k z v → (left e ≤ m → frame_due z ≡ None)
        → (((z.phase ≡ Waiting) × (v.host.side.phase ≡ Waiting)) ⊎ IsWhole k) → live z.phase (sans v.to_controller) ≡ Some a
        → live v.host.side.phase (sans v.to_host) ≡ Some b
        → Meets (as_up z.phase z) (as_up v.host.side.phase v.host.side) a b
    go i z v k idle (inl u) p q = absurd (let g = sym k.0 ∙ u.0 in let y : Up ≡ Waiting = g in cc)
    go i z v k idle (inr u) p q =
        let r = k.2 u b q in
        let y : Some (sans v.to_controller) ≡ Some a = rw k.0 at p in
        let same : sans v.to_controller ≡ a = cc in
        let j : Joined (Unit {0}) z (as_up v.host.side.phase v.host.side) a b = rw same at r.0 in
        grind arith

-- ## Turns

pub answers_more : (ds : List Due) → AnswersOnly ds → AnswersOnly (ds ++ Rr_due ∷ [])
answers_more [] a = tt
answers_more (Rr_due ∷ ds) a = answers_more ds a
answers_more (Rej_due ∷ ds) a = answers_more ds a
answers_more (Rnr_due ∷ ds) a = answers_more ds a
answers_more (Rset_due ∷ ds) a = absurd a
answers_more (Ua_due ∷ ds) a = absurd a

-- an end that is up is given fragments
pub offer_up : (e : EndState) (fragments : List Fragment) → e.phase ≡ Up → shdlc_turn e (Offer fragments) ≡ put_out e fragments
offer_up e fragments up = rw up refl

pub turn-phase : (e : EndState) (t : ShdlcTurn) → (shdlc_turn e t).phase ≡ e.phase
turn-phase e t = grind arith

-- turns leave few answers to send
few_turn : (e : EndState) (t : ShdlcTurn) → e.phase ≡ Up → room e ≤ 2 → room (shdlc_turn e t) ≤ 2
few_turn e (Offer fragments) up few = let P : EndState → Type 0 = λ f. room f ≤ 2 in subst P (sym (offer_up e fragments up)) few
few_turn e (SetReady r) up few =
    ready_by (λ f. room f ≤ 2) e r (inr up) (λ no. absurd (no up)) few (omega (arith, few))
    (λ up noted_loss. let j : length (e.due ++ Rr_due ∷ []) ≡ length e.due + 1 = length-append e.due (Rr_due ∷ []) in let i =
    rw noted_loss at few in omega arith)

pub few_turns : (ts : List ShdlcTurn) (e : EndState) → e.phase ≡ Up → room e ≤ 2 → room (shdlc_turned e ts) ≤ 2
few_turns [] e up few = few
few_turns (t ∷ ts) e up few = few_turns ts (shdlc_turn e t) (turn-phase e t ∙ up) (few_turn e t up few)

turn_keeps : (n : Losses) (e : EndState) (t : ShdlcTurn) (l : ShdlcLink) → Keeps (Unit {0}) n e l → Keeps (Unit {0}) n (shdlc_turn e t) l
turn_keeps n e (Offer fragments) l k =
    subst (λ f. Keeps (Unit {0}) n f l) (sym (offer_up e fragments k.0)) (
      k.0,
      k.1,
      λ w b q. let r = k.2 w b q in
          (joined_put (Unit {0}) e (as_up l.host.side.phase l.host.side) (sans l.to_controller) b fragments r.0, r.1, tt),
    )
turn_keeps n e (SetReady r) l k = (
  (ready_cases (λ f. f.phase ≡ e.phase) e r refl refl refl) ∙ k.0,
  ready_cases (λ f. AnswersOnly f.due) e r k.1 k.1 (answers_more e.due k.1),
  λ w b q. let g = k.2 w b q in
      (joined_ready (Unit {0}) e (as_up l.host.side.phase l.host.side) (sans l.to_controller) b r g.0, g.1, tt),
)

turns_keep : (n : Losses) (ts : List ShdlcTurn) (e : EndState) (l : ShdlcLink) → Keeps (Unit {0}) n e l → Keeps (Unit {0}) n (shdlc_turned e ts) l
turns_keep n [] e l k = k
turns_keep n (t ∷ ts) e l k = turns_keep n ts (shdlc_turn e t) l (turn_keeps n e t l k)

-- an end that is up, and has few answers to send, has its turns
pub drains : (m : ℕ) → 6 ≤ m → (n : Losses) (ts : List ShdlcTurn) (l : ShdlcLink) (e : EndState) → e.phase ≡ Up → AnswersOnly e.due → room e ≤ 2
    → Rests (Unit {0}) (IsWhole n) e l.host.side (sans l.to_controller) (sans l.to_host)
    → TiedLink (noted_all n l (frames_of m (shdlc_turned e ts)))
    (with_shdlc_controller (shdlc_put_all l (frames_of m (shdlc_turned e ts))) (after_frames m (shdlc_turned e ts)))
drains m i n ts l e up answers few h =
    let k = turns_keep n ts e l (up, answers, h) in
    tied_drains m n (shdlc_turned e ts) l
    (k.0, k.1, λ w b q. let r = k.2 w b q in (r.0, r.1, omega (arith, i, few_turns ts e up few, r.0.near_sends.acked_next, r.0.near_sends.window)))

-- an end with nothing to send
pub nothing_sent : (m : ℕ) (e : EndState) → frame_due e ≡ None → frames_of m e ≡ []
nothing_sent m e none = grind arith

pub sends_nothing : (m : ℕ) (n : Losses) (l : ShdlcLink) (e : EndState) → frame_due e ≡ None → TiedLink n (with_shdlc_controller l e)
    → TiedLink (noted_all n l (frames_of m e)) (with_shdlc_controller (shdlc_put_all l (frames_of m e)) (after_frames m e))
sends_nothing m n l e none h = rw (nothing_sent m e none, after_frames_idle m e none) h

-- a UA goes first
abbrev pub with_ua : EndState → EndState
with_ua e = record e { due = Ua_due ∷ e.due }

turned-ua : (ts : List ShdlcTurn) (e : EndState) → shdlc_turned (with_ua e) ts ≡ with_ua (shdlc_turned e ts)
turned-ua [] e = refl
turned-ua (t ∷ ts) e = ap (λ f. shdlc_turned f ts) (grind arith) ∙ turned-ua ts (shdlc_turn e t)

pub sends_ua : (m : ℕ) (n : Losses) (ts : List ShdlcTurn) (l : ShdlcLink) (e : EndState)
    → TiedLink (noted_all (noted_loss n l Ua) (shdlc_put l Ua) (frames_of m (shdlc_turned e ts)))
    (with_shdlc_controller (shdlc_put_all (shdlc_put l Ua) (frames_of m (shdlc_turned e ts))) (after_frames m (shdlc_turned e ts)))
    → TiedLink (noted_all n l (frames_of (suc m) (shdlc_turned (with_ua e) ts)))
    (with_shdlc_controller (shdlc_put_all l (frames_of (suc m) (shdlc_turned (with_ua e) ts))) (after_frames (suc m) (shdlc_turned (with_ua e) ts)))
sends_ua m n ts l e h =
    let P : EndState → Type 0 = λ f. TiedLink (noted_all n l (frames_of (suc m) f))
    (with_shdlc_controller (shdlc_put_all l (frames_of (suc m) f)) (after_frames (suc m) f)) in
    subst P (sym (turned-ua ts e)) h

-- an end that is in no session
pub after_frames-phase : (m : ℕ) (e : EndState) → (after_frames m e).phase ≡ e.phase
after_frames-phase zero e = refl
after_frames-phase (suc m) e = after_frames-phase m (fetched e) ∙ fetched-phase e

pub put_all-to_controller : (cs : List Control) (l : ShdlcLink) → (shdlc_put_all l cs).to_controller ≡ l.to_controller
put_all-to_controller [] l = refl
put_all-to_controller (c ∷ cs) l = put_all-to_controller cs (shdlc_put l c) ∙ (grind arith)

pub tied_none : (m : ℕ) (n : Losses) (l : ShdlcLink) (e : EndState) → live e.phase (sans l.to_controller) ≡ None
    → TiedLink (noted_all n l (frames_of m e)) (with_shdlc_controller (shdlc_put_all l (frames_of m e)) (after_frames m e))
tied_none m n l e none w a b p q = absurd (let z : None ≡ Some a = sym (rw (after_frames-phase m e, put_all-to_controller (frames_of m e) l) none) ∙ p in cc)

pub turned-phase : (ts : List ShdlcTurn) (e : EndState) → (shdlc_turned e ts).phase ≡ e.phase
turned-phase [] e = refl
turned-phase (t ∷ ts) e = turned-phase ts (shdlc_turn e t) ∙ turn-phase e t

-- ## Older wires

live_older : (p : LinkState) (w b : List OnWire) → live p (older w) ≡ Some b → (v : List OnWire) × (live p w ≡ Some v) × (b ≡ older v)
live_older p w b q = let h0 = live p w in let h1 = live-older p w in grind arith

pub tied_older : (W : Type 0) (n f : EndState) (to_n to_f : List OnWire) → Tied W n f to_n to_f → Tied W n f (older to_n) (older to_f)
tied_older W n f to_n to_f h w a b p q =
    let s = live_older n.phase to_n a p in
    let t = live_older f.phase to_f b q in
    let m = h w s.0 t.0 s.1 t.1 in
    let x : EndState = as_up n.phase n in
    let y : EndState = as_up f.phase f in
    let one : Joined (Unit {0}) y x t.0 (older s.0) =
    joined_exchanged (Unit {0}) x y (older s.0) t.0 (joined_older (Unit {0}) x y s.0 t.0 m.joined) in
    let two : Joined (Unit {0}) x y (older s.0) (older t.0) =
    joined_exchanged (Unit {0}) y x (older t.0) (older s.0) (joined_older (Unit {0}) y x t.0 (older s.0) one) in
    record { joined = rw (s.2, t.2) two; near = m.near; far = m.far }
