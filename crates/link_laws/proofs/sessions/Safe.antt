-- All that is true of a link over resets, and how each thing that one end does keeps it.
use Rattle.std.proofs.Common.{◌==◌}
use Rattle.link_laws.proofs.Words.{Down, EndState, LinkState, List, None, NumberedShdlc, OnWire, Option, Session, Some, Ua, Up, Waiting, [], arith}
use Rattle.link_laws.proofs.Words.{ended_session, eqb-true, inl, inr, new_session, no_session, older, refl, shdlc_number_of, shdlc_session_of, subst, sym, ℕ}
use Rattle.link_laws.proofs.Words.{◌++◌, ◌+◌, ◌<◌, ◌∙◌, ◌∷◌, ◌≡◌, ◌≤◌, ◌⊎◌}
use Rattle.link_laws.proofs.sessions.Wire.{IsData, rsets, uas, behind_ua, live, Young, behind_none, behind_push, behind_push_none, behind_new}
use Rattle.link_laws.proofs.sessions.Wire.{behind_rsets, live-older, older_part}
use Rattle.link_laws.proofs.sessions.Hand.{peer_of, Hand, Agrees, NothingIsOut, IsRset, IsNextRset, IsNewUa, idle_out, ua_told, rset_told, hand_past, hand_ask}
use Rattle.link_laws.proofs.sessions.Hand.{hand_down, hand_up_ua, hand_up_rset, hand_wait_rset, hand_lose_rset, hand_lose_ua, hand_ignore, hand_older}
use Rattle.link_laws.proofs.sessions.Data.{Base, Active, OnLive, active_lost, Below, below_more, none_ended, bound, of_update, of_none}
use Rattle.link_laws.proofs.sessions.Data.{Pair, shows_push_rset, shows_older}
use Rattle.link_laws.proofs.Cases.{by_test}

-- the windows that an end may ask for
pub record HasWindows (e : EndState) : Type 0 where
  pub own : (0 < e.own_window) × (e.own_window ≤ 4)
  pub peer : (0 < e.peer_window) × (e.peer_window ≤ 4)

pub record Safe (kn kf : ℕ) (n f : NumberedShdlc) (to_n to_f : List OnWire) (r : ℕ) : Type 0 where
  pub hand : Hand kn kf (peer_of n) (peer_of f) to_n to_f r
  pub n_base : (k : ℕ) → Base (shdlc_session_of n k) (shdlc_session_of f k)
  pub f_base : (k : ℕ) → Base (shdlc_session_of f k) (shdlc_session_of n k)
  pub n_live : OnLive (live n.side.phase to_n) (shdlc_session_of n (shdlc_number_of n)) (shdlc_session_of f (shdlc_number_of n))
  pub f_live : OnLive (live f.side.phase to_f) (shdlc_session_of f (shdlc_number_of f)) (shdlc_session_of n (shdlc_number_of f))
  pub n_past : Below (bound n) n.past
  pub f_past : Below (bound f) f.past
  pub n_none : (n.side.phase ≡ Up → ⊥) → n.side.session ≡ no_session
  pub f_none : (f.side.phase ≡ Up → ⊥) → f.side.session ≡ no_session
  pub n_due : n.side.due ≡ []
  pub f_due : f.side.due ≡ []
  pub n_windows : HasWindows n.side
  pub f_windows : HasWindows f.side

-- the session of an end that has the number of another
abbrev pub session_with : NumberedShdlc → NumberedShdlc → Session
session_with h g = shdlc_session_of h (shdlc_number_of g)

-- a part of a wire of an end in the same state, and equal sessions
live_to : (p q : LinkState) (w : List OnWire) (mine theirs : Session) → p ≡ q → OnLive (live p w) mine theirs → OnLive (live q w) mine theirs
live_to p q w mine theirs e h = rw e at h

on_live_part : (o p : Option (List OnWire)) (m t : Session) → p ≡ o → OnLive o m t → OnLive p m t
on_live_part o p m t a h = rw a h

-- where both are in a session it has one number
pub agreed : (a b : Option (List OnWire)) (v w : List OnWire) (P : Type 0) → a ≡ Some v → b ≡ Some w → Agrees a b P → P
agreed a b v w P e f h = grind arith

not_up : (p : LinkState) → p ≡ Waiting → p ≡ Up → ⊥
not_up p a b = let e = sym a ∙ b in cc

down_not_up : (p : LinkState) → p ≡ Down → p ≡ Up → ⊥
down_not_up p a b = let e = sym a ∙ b in cc

-- ## The near end is Up

-- an end that is up goes on in its session as q, with no control frame due
pub record GoesOn (e q : EndState) : Type 0 where
  pub was_up : e.phase ≡ Up
  pub up : q.phase ≡ Up
  pub due : q.due ≡ []
  pub own : q.own_window ≡ e.own_window
  pub peer : q.peer_window ≡ e.peer_window

module _ {kn kf : ℕ} {n f : NumberedShdlc} {to_n to_f : List OnWire} {r : ℕ} (h : Safe kn kf n f to_n to_f r) where
  pub safe_swap : Safe kf kn f n to_f to_n r
  safe_swap = grind arith

  pub pair_from : n.side.phase ≡ Up → Pair n.side.session (session_with f n) to_n (live f.side.phase to_f)
  pair_from up = grind arith

  -- the near end goes on in its session
  pub safe_up : {kn' : ℕ} {q : EndState} {to_n' to_f' : List OnWire} → GoesOn n.side q
      → Hand kn' kf (peer_of (record n { side = q })) (peer_of f) to_n' to_f' r
      → Pair q.session (session_with f n) to_n' (live f.side.phase to_f') → Safe kn' kf (record n { side = q }) f to_n' to_f' r
  safe_up {q = q} {to_n'} {to_f'} on hand pair =
      record {
        hand = hand;
        n_base = of_update (λ k t. Base t (shdlc_session_of f k)) n g on.was_up on.up refl refl h.n_base pair.mine;
        f_base = of_update (λ k t. Base (shdlc_session_of f k) t) n g on.was_up on.up refl refl h.f_base pair.theirs;
        n_live = grind arith;
        f_live = grind arith;
        n_past = let a : Below (shdlc_number_of n) n.past = rw on.was_up at h.n_past in rw on.up a;
        f_past = h.f_past;
        n_none = λ no. absurd (no on.up);
        f_none = h.f_none;
        n_due = on.due;
        f_due = h.f_due;
        n_windows = record { own = rw on.own h.n_windows.own; peer = rw on.peer h.n_windows.peer };
        f_windows = h.f_windows;
      }
    where
      g : NumberedShdlc
      g = record n { side = q }

      moved : (k m : ℕ) (w : List OnWire) → k ≡ m → OnLive (Some w) (shdlc_session_of f k) (shdlc_session_of g k)
          → OnLive (Some w) (shdlc_session_of f m) (shdlc_session_of g m)
      moved k m w e a = let P : ℕ → Type 0 = λ j. OnLive (Some w) (shdlc_session_of f j) (shdlc_session_of g j) in subst P e a

-- ## Parts of wires with one frame more or less

live_push_rset : (p : LinkState) (w : List OnWire) (x : OnWire) (mine theirs : Session) → IsRset x → rsets w ≡ []
    → OnLive (live p w) mine theirs → OnLive (live p (w ++ x ∷ [])) mine theirs
live_push_rset Down w x mine theirs is none h = tt
live_push_rset Up w x mine theirs is none h =
    record { marks = h.marks; shows = shows_push_rset w h.marks x is.window is.caps is.frame none h.shows; places = h.places; counts = h.counts }
live_push_rset Waiting w x mine theirs is none h = go (behind_ua w) refl h
  where
    go : (o : Option (List OnWire)) → behind_ua w ≡ o → OnLive o mine theirs → OnLive (behind_ua (w ++ x ∷ [])) mine theirs
    go None q g = rw (behind_push_none w x (rw is.frame tt) q) tt
    go (Some ys) q g =
        let a : Active (ys ++ x ∷ []) mine theirs =
        record {
          marks = g.marks;
          shows = shows_push_rset ys g.marks x is.window is.caps is.frame (sym (behind_rsets w ys q).0 ∙ none) g.shows;
          places = g.places;
          counts = g.counts;
        } in
        rw (behind_push w ys x q) a

live_push_ua : (p : LinkState) (w : List OnWire) (x : OnWire) (mine theirs : Session) → x.frame ≡ Ua → uas w ≡ [] → p ≡ Waiting → Base mine theirs
    → OnLive (live p (w ++ x ∷ [])) mine theirs
live_push_ua p w x mine theirs e none waiting b = let h0 = behind_new w x e none in grind arith

-- what is true of each session, by its number, is true of what it has become
abbrev pub AllStay : (ℕ → Session) → (ℕ → Session) → Type 1
AllStay before now = (P : ℕ → Session → Type 0) → ((k : ℕ) → P k (before k)) → (k : ℕ) → P k (now k)

-- so is what is true of one of them
at_number : (Q : Session → Type 0) (m : ℕ) {before now : ℕ → Session} → AllStay before now → Q (before m) → Q (now m)
at_number Q m stay given = stay (λ k t. k ≡ m → Q t) (λ k e. rw e given) m refl

-- ## The near end isn't Up

-- an end without a session goes on as q, and changes nothing but its timer and its readiness
pub record Idle (e q : EndState) : Type 0 where
  pub phase : q.phase ≡ e.phase
  pub due : q.due ≡ e.due
  pub session : q.session ≡ no_session
  pub own : q.own_window ≡ e.own_window
  pub peer : q.peer_window ≡ e.peer_window

-- an end that waits, with nothing of a session
abbrev pub waiting_end : EndState → EndState
waiting_end e = record e { phase = Waiting; due = []; timer = 0; session = no_session }

abbrev pub Moves : NumberedShdlc → List (ℕ × Session) → Type 1
Moves n past = AllStay (shdlc_session_of n) (ended_session past)

-- the session that goes on ends and is kept
pub moves_end : (n : NumberedShdlc) → n.side.phase ≡ Up → Moves n ((shdlc_number_of n, n.side.session) ∷ n.past)
moves_end n up P all k = let a : P k (shdlc_session_of n k) = all k in rw up at a

-- an end without a session keeps what has ended
pub moves_none : (n : NumberedShdlc) → (n.side.phase ≡ Up → ⊥) → Moves n n.past
moves_none n no_up P all k = (let h0 = (all k) in grind arith)

-- all sessions of an end have ended, and are kept with numbers below b
pub record HaveEnded (n : NumberedShdlc) (past : List (ℕ × Session)) (b : ℕ) : Type 1 where
  pub moves : Moves n past
  pub below : Below b past

agrees_down : (p : LinkState) (P : Type 0) → Agrees None (live p []) P
agrees_down p P = grind arith

module _ {kn kf : ℕ} {n f : NumberedShdlc} {to_n to_f : List OnWire} {r : ℕ} (h : Safe kn kf n f to_n to_f r) where
  -- it goes on as it is, and a frame of a session on its way to it is passed over
  pub safe_idle : {kn' : ℕ} {q : EndState} {to_n' : List OnWire} → (n.side.phase ≡ Up → ⊥) → Idle n.side q → live n.side.phase to_n' ≡ live n.side.phase to_n
      → Hand kn' kf (peer_of (record n { side = q })) (peer_of f) to_n' to_f r → Safe kn' kf (record n { side = q }) f to_n' to_f r
  safe_idle {q = q} {to_n'} no_up on lives hand =
      let g : NumberedShdlc = record n { side = q } in
      let m : AllStay (shdlc_session_of n) (shdlc_session_of g) = λ P all k. of_none P n g no_up (λ e. no_up (sym on.phase ∙ e)) refl all k in
      record {
        hand = hand;
        n_base = m (λ k t. Base t (shdlc_session_of f k)) h.n_base;
        f_base = m (λ k t. Base (shdlc_session_of f k) t) h.f_base;
        n_live = grind arith;
        f_live = at_number (λ t. OnLive (live f.side.phase to_f) (session_with f f) t) (shdlc_number_of f) m h.f_live;
        n_past = rw on.phase h.n_past;
        f_past = h.f_past;
        n_none = λ _. on.session;
        f_none = h.f_none;
        n_due = on.due ∙ h.n_due;
        f_due = h.f_due;
        n_windows = record { own = rw on.own h.n_windows.own; peer = rw on.peer h.n_windows.peer };
        f_windows = h.f_windows;
      }

  -- it sends an RSET and waits
  pub safe_asks : {e : EndState} {x : OnWire} {past : List (ℕ × Session)} → NothingIsOut to_n to_f → IsNextRset r x → HasWindows e → HaveEnded n past (r + 1)
      → Safe 0 kf (record { side = waiting_end e; emitted = r + 1; took = n.took; past = past }) f to_n (to_f ++ x ∷ []) (r + 1)
  safe_asks {e} {x} {past} out new windows ended =
      let g : NumberedShdlc = record { side = waiting_end e; emitted = r + 1; took = n.took; past = past } in
      record {
        hand = hand_ask h.hand x out new;
        n_base = ended.moves (λ k t. Base t (shdlc_session_of f k)) h.n_base;
        f_base = ended.moves (λ k t. Base (shdlc_session_of f k) t) h.f_base;
        n_live = on_live_part None (behind_ua to_n) (session_with g g) (session_with f g) (behind_none to_n out.no_ua) tt;
        f_live = at_number (λ t. OnLive (live f.side.phase (to_f ++ x ∷ [])) (session_with f f) t) (shdlc_number_of f) ended.moves
            (live_push_rset f.side.phase to_f x (session_with f f) (session_with n f) new.is out.no_rset h.f_live);
        n_past = ended.below;
        f_past = h.f_past;
        n_none = λ _. refl;
        f_none = h.f_none;
        n_due = refl;
        f_due = h.f_due;
        n_windows = record { own = windows.own; peer = windows.peer };
        f_windows = h.f_windows;
      }

  -- it waited, and gives up
  pub safe_down : {e : EndState} → n.side.phase ≡ Waiting → NothingIsOut to_n to_f → 4 < n.side.timer + kn → HasWindows e
      → Safe 0 kf (record n { side = record e { phase = Down; due = []; timer = 0; session = no_session } }) f to_n to_f r
  safe_down waiting out late windows =
      let move : Moves n n.past = moves_none n (not_up n.side.phase waiting) in
      record {
        hand = hand_down h.hand out late;
        n_base = move (λ k t. Base t (shdlc_session_of f k)) h.n_base;
        f_base = move (λ k t. Base (shdlc_session_of f k) t) h.f_base;
        n_live = tt;
        f_live = at_number (λ t. OnLive (live f.side.phase to_f) (session_with f f) t) (shdlc_number_of f) move h.f_live;
        n_past = let a : Below n.emitted n.past = rw waiting at h.n_past in below_more n.emitted (shdlc_number_of n + 1) n.past (omega arith) a;
        f_past = h.f_past;
        n_none = λ _. refl;
        f_none = h.f_none;
        n_due = refl;
        f_due = h.f_due;
        n_windows = record { own = windows.own; peer = windows.peer };
        f_windows = h.f_windows;
      }

  -- it is Down, and nothing stands on either wire
  pub safe_silent : {kn' : ℕ} {q : EndState} {past : List (ℕ × Session)} → q.due ≡ [] → HasWindows q → HaveEnded n past (shdlc_number_of n + 1)
      → Safe kn' kf (record { side = record q { phase = Down; session = no_session }; emitted = n.emitted; took = n.took; past = past }) f [] [] r
  safe_silent {kn'} {q} {past} due windows ended =
      let g : NumberedShdlc = record { side = record q { phase = Down; session = no_session }; emitted = n.emitted; took = n.took; past = past } in
      let base : (k : ℕ) → Base (shdlc_session_of f k) (shdlc_session_of g k) = ended.moves (λ k t. Base (shdlc_session_of f k) t) h.f_base in
      record {
        hand =
            let h0 = (peer_of g) in let h1 = (peer_of f) in let h2 = (agrees_down f.side.phase (shdlc_number_of g ≡ shdlc_number_of f)) in grind arith;
        n_base = ended.moves (λ k t. Base t (shdlc_session_of f k)) h.n_base;
        f_base = base;
        n_live = tt;
        f_live = let h0 = (session_with f f) in let h1 = (session_with g f) in let h2 = (base (shdlc_number_of f)) in grind arith;
        n_past = ended.below;
        f_past = h.f_past;
        n_none = λ _. refl;
        f_none = h.f_none;
        n_due = due;
        f_due = h.f_due;
        n_windows = record { own = windows.own; peer = windows.peer };
        f_windows = h.f_windows;
      }

-- ## A session begins at the near end

abbrev pub up_end : EndState → ℕ → EndState
up_end e w = record e { phase = Up; due = []; timer = 0; tries = 0; session = new_session w }

-- an end that is up in a new session with this window
pub record IsNewlyUp (g : NumberedShdlc) (w : ℕ) : Type 0 where
  pub up : g.side.phase ≡ Up
  pub session : g.side.session ≡ new_session w
  pub due : g.side.due ≡ []
  pub windows : HasWindows g.side
  pub fits : w ≤ 4

begins_at : (P : ℕ → Session → Type 0) (g : NumberedShdlc) → g.side.phase ≡ Up → ((k : ℕ) → P k (ended_session g.past k)) → P (shdlc_number_of g) g.side.session
    → (k : ℕ) → P k (shdlc_session_of g k)
begins_at P g up all new k = by_test (k == shdlc_number_of g) (λ q. rw (up, q) (rw (← eqb-true k (shdlc_number_of g) q) at new)) (λ q. rw (up, q) (all k))

module _ {kn kf : ℕ} {n f : NumberedShdlc} {to_n to_f : List OnWire} {r : ℕ} (h : Safe kn kf n f to_n to_f r) where
  pub safe_begins : {kn' kf' : ℕ} {g : NumberedShdlc} {w : ℕ} {to_n' to_f' : List OnWire} {r' : ℕ} → IsNewlyUp g w → HaveEnded n g.past (shdlc_number_of g)
      → Hand kn' kf' (peer_of g) (peer_of f) to_n' to_f' r' → Active to_n' no_session (session_with f g)
      → OnLive (live f.side.phase to_f') (session_with f f) (ended_session g.past (shdlc_number_of f))
      → Safe kn' kf' g f to_n' to_f' r'
  safe_begins {g = g} {w} {to_n'} {to_f'} new ended hand active there =
      let gone : ended_session g.past (shdlc_number_of g) ≡ no_session = none_ended (shdlc_number_of g) (shdlc_number_of g) g.past (omega arith) ended.below in
      let n_base : (k : ℕ) → Base (ended_session g.past k) (shdlc_session_of f k) = ended.moves (λ k s. Base s (shdlc_session_of f k)) h.n_base in
      let f_base : (k : ℕ) → Base (shdlc_session_of f k) (ended_session g.past k) = ended.moves (λ k s. Base (shdlc_session_of f k) s) h.f_base in
      record {
        hand = hand;
        n_base = begins_at (λ k t. Base t (shdlc_session_of f k)) g new.up n_base (rw new.session (let h0 = (session_with f g) in grind arith));
        f_base = begins_at (λ k t. Base (shdlc_session_of f k) t) g new.up f_base (rw new.session (grind arith));
        n_live = grind arith;
        f_live = grind arith;
        n_past = rw new.up ended.below;
        f_past = h.f_past;
        n_none = λ no. absurd (no new.up);
        f_none = h.f_none;
        n_due = new.due;
        f_due = h.f_due;
        n_windows = new.windows;
        f_windows = h.f_windows;
      }

-- by the UA that it waited for
pub safe_up_ua : {kn kf : ℕ} {n f : NumberedShdlc} {x : OnWire} {to_n to_f : List OnWire} {r : ℕ} → Safe kn kf n f (x ∷ to_n) to_f r → (w : ℕ)
    → x.frame ≡ Ua → n.side.phase ≡ Waiting → w ≤ 4 → Safe kn kf (record n { side = up_end n.side w }) f to_n to_f r
safe_up_ua {n = n} {f} {x} {to_n} {to_f} h w frame waiting fits =
    let move : Moves n n.past = moves_none n (not_up n.side.phase waiting) in
    let below : Below (shdlc_number_of n) n.past = below_more n.emitted (shdlc_number_of n) n.past (omega arith) (rw waiting at h.n_past) in
    let gone : ended_session n.past (shdlc_number_of n) ≡ no_session = none_ended (shdlc_number_of n) (shdlc_number_of n) n.past (omega arith) below in
    let d : OnLive (Some to_n) (ended_session n.past (shdlc_number_of n)) (session_with f n) = grind arith in
    safe_begins h (record { up = refl; session = refl; due = refl; windows = record { own = h.n_windows.own; peer = h.n_windows.peer }; fits = fits })
    (record { moves = move; below = below }) (hand_up_ua h.hand frame)
    (grind arith)
    (at_number (λ t. OnLive (live f.side.phase to_f) (session_with f f) t) (shdlc_number_of f) move h.f_live)

-- an end that waits goes on waiting as q, with no control frame due
pub record WaitsOn (e q : EndState) : Type 0 where
  pub was_waiting : e.phase ≡ Waiting
  pub waiting : q.phase ≡ Waiting
  pub timer : q.timer ≡ e.timer
  pub session : q.session ≡ no_session
  pub due : q.due ≡ []
  pub windows : HasWindows q

module _ {n f : NumberedShdlc} {x : OnWire} {to_n to_f : List OnWire} {r : ℕ} (is : IsRset x) (h : Safe 0 0 n f (x ∷ to_n) to_f r) where
  -- by an RSET, which it answers by UA; where a session went on it has ended and is kept
  pub safe_up_rset : {y : OnWire} {past : List (ℕ × Session)} (w : ℕ) → (n.side.phase ≡ Waiting → ⊥) → IsNewUa y → w ≤ 4 → HaveEnded n past f.emitted
      → Safe 0 0 (record { side = up_end n.side w; emitted = n.emitted; took = f.emitted; past = past }) f to_n (to_f ++ y ∷ []) r
  safe_up_rset {y} {past} w no_wait new fits ended =
      let g : NumberedShdlc = record { side = up_end n.side w; emitted = n.emitted; took = f.emitted; past = past } in
      let t = rset_told h.hand is in
      let b : uas (x ∷ to_n) ≡ uas to_n = rw is.frame refl in
      let mine = idle_out h.hand no_wait in
      let gone : to_n ≡ [] = grind arith in
      let n_base : (k : ℕ) → Base (ended_session past k) (shdlc_session_of f k) = ended.moves (λ k s. Base s (shdlc_session_of f k)) h.n_base in
      let low : Below (shdlc_number_of g) past = below_more f.emitted (shdlc_number_of g) past (omega arith) ended.below in
      let none : ended_session past (shdlc_number_of g) ≡ no_session = none_ended (shdlc_number_of g) (shdlc_number_of g) past (omega arith) low in
      let first : Base no_session (session_with f g) = rw none at (n_base (shdlc_number_of g)) in
      let act : Active to_n no_session (session_with f g) = rw gone (grind arith) in
      safe_begins h (record { up = refl; session = refl; due = refl; windows = record { own = h.n_windows.own; peer = h.n_windows.peer }; fits = fits })
      (record { moves = ended.moves; below = low }) (hand_up_rset is no_wait new h.hand) act
      (live_push_ua f.side.phase to_f y (session_with f f) (ended_session past (shdlc_number_of f)) new.frame t.out.no_ua t.waiting
      ((ended.moves (λ k s. Base (shdlc_session_of f k) s) h.f_base) (shdlc_number_of f)))

  -- an end that waits answers an RSET by UA, and goes on waiting
  pub safe_wait_rset : {y : OnWire} {q : EndState} → WaitsOn n.side q → IsNewUa y
      → Safe 0 0 (record { side = q; emitted = n.emitted; took = f.emitted; past = n.past }) f to_n (to_f ++ y ∷ []) r
  safe_wait_rset {y} {q} on new =
      let g : NumberedShdlc = record { side = q; emitted = n.emitted; took = f.emitted; past = n.past } in
      let t = rset_told h.hand is in
      let no_up : q.phase ≡ Up → ⊥ = not_up q.phase on.waiting in
      let m : AllStay (shdlc_session_of n) (shdlc_session_of g) = λ P all k. of_none P n g (not_up n.side.phase on.was_waiting) no_up refl all k in
      let n_base : (k : ℕ) → Base (shdlc_session_of g k) (shdlc_session_of f k) = m (λ k s. Base s (shdlc_session_of f k)) h.n_base in
      let f_base : (k : ℕ) → Base (shdlc_session_of f k) (shdlc_session_of g k) = m (λ k s. Base (shdlc_session_of f k) s) h.f_base in
      record {
        hand = rw (on.waiting, on.timer) (hand_wait_rset is on.was_waiting new h.hand);
        n_base = n_base;
        f_base = f_base;
        n_live = let h0 = (session_with g g) in let h1 = (session_with f g) in let h2 = (n_base (shdlc_number_of g)) in grind arith;
        f_live = live_push_ua f.side.phase to_f y (session_with f f) (session_with g f) new.frame t.out.no_ua t.waiting (f_base (shdlc_number_of f));
        n_past = let a : Below n.emitted n.past = rw on.was_waiting at h.n_past in rw on.waiting a;
        f_past = h.f_past;
        n_none = λ _. on.session;
        f_none = h.f_none;
        n_due = on.due;
        f_due = h.f_due;
        n_windows = on.windows;
        f_windows = h.f_windows;
      }

-- ## A frame is lost

-- which frame it is
pub frame_cases : (x : OnWire) → IsData x.frame ⊎ (IsRset x ⊎ (x.frame ≡ Ua))
frame_cases x = grind arith

-- the first frame on its way to the near end
pub safe_lose : {kn : ℕ} {n f : NumberedShdlc} {x : OnWire} {to_n to_f : List OnWire} {r : ℕ} → Safe kn 0 n f (x ∷ to_n) to_f r → Safe kn 0 n f to_n to_f r
safe_lose {kn} {n} {f} {x} {to_n} {to_f} {r} h = go (frame_cases x)
  where
    with : Hand kn 0 (peer_of n) (peer_of f) to_n to_f r → OnLive (live n.side.phase to_n) (session_with n n) (session_with f n) → Safe kn 0 n f to_n to_f r
    with hand lives = grind arith

    s : Session
    s = session_with n n

    t : Session
    t = session_with f n

    data_live : IsData x.frame → (p : LinkState) → n.side.phase ≡ p → OnLive (live n.side.phase to_n) s t
    data_live d Up e = (live_to Up n.side.phase to_n s t (sym e) (active_lost x to_n s t (h.n_base (shdlc_number_of n)) (grind arith)))
    data_live d Down e = live_to Down n.side.phase to_n s t (sym e) tt
    data_live d Waiting e = grind arith

    go : IsData x.frame ⊎ (IsRset x ⊎ (x.frame ≡ Ua)) → Safe kn 0 n f to_n to_f r
    go (inl d) = with (hand_past h.hand d) (data_live d n.side.phase refl)
    go (inr (inl q)) = with (hand_lose_rset q h.hand) (grind arith)
    go (inr (inr q)) =
        let told = ua_told h.hand q in
        with (hand_lose_ua h.hand q)
        (live_to Waiting n.side.phase to_n s t (sym told.1) (on_live_part None (behind_ua to_n) s t (behind_none to_n told.0.no_ua) tt))

-- an end that is Down takes an RSET, and stays as it is
pub safe_ignore : {n f : NumberedShdlc} {x : OnWire} {to_n to_f : List OnWire} {r : ℕ} → IsRset x → n.side.phase ≡ Down → Safe 0 0 n f (x ∷ to_n) to_f r
    → Safe 0 0 (record n { took = f.emitted }) f to_n to_f r
safe_ignore {n} {f} {x} {to_n} {to_f} {r} is down h =
    let g : NumberedShdlc = record n { took = f.emitted } in
    let t = rset_told h.hand is in
    let s : Safe 0 0 n f to_n to_f r = safe_lose h in
    let no_up : n.side.phase ≡ Up → ⊥ = down_not_up n.side.phase down in
    let m : AllStay (shdlc_session_of n) (shdlc_session_of g) = λ P all k. of_none P n g no_up no_up refl all k in
    record {
      hand = hand_ignore s.hand down t.out;
      n_base = m (λ k t. Base t (shdlc_session_of f k)) s.n_base;
      f_base = m (λ k t. Base (shdlc_session_of f k) t) s.f_base;
      n_live = live_to Down n.side.phase to_n (session_with g g) (session_with f g) (sym down) tt;
      f_live = at_number (λ t. OnLive (live f.side.phase to_f) (session_with f f) t) (shdlc_number_of f) m s.f_live;
      n_past = rw down (below_more (shdlc_number_of n + 1) (shdlc_number_of g + 1) n.past (omega (arith, h.hand.n_took)) (rw down at s.n_past));
      f_past = s.f_past;
      n_none = s.n_none;
      f_none = s.f_none;
      n_due = s.n_due;
      f_due = s.f_due;
      n_windows = s.n_windows;
      f_windows = s.f_windows;
    }

-- all frames grow older
pub safe_older : {n f : NumberedShdlc} {to_n to_f : List OnWire} {r : ℕ} → Young 4 (older to_n) → Young 4 (older to_f)
    → Safe 0 0 n f to_n to_f r → Safe 1 1 n f (older to_n) (older to_f) r
safe_older {n} {f} {to_n} {to_f} yn yf h =
    record {
      hand = hand_older yn yf h.hand;
      n_base = h.n_base;
      f_base = h.f_base;
      n_live = part n.side.phase to_n (session_with n n) (session_with f n) h.n_live;
      f_live = part f.side.phase to_f (session_with f f) (session_with n f) h.f_live;
      n_past = h.n_past;
      f_past = h.f_past;
      n_none = h.n_none;
      f_none = h.f_none;
      n_due = h.n_due;
      f_due = h.f_due;
      n_windows = h.n_windows;
      f_windows = h.f_windows;
    }
  where
    grown : (o : Option (List OnWire)) (s t : Session) → OnLive o s t → OnLive (older_part o) s t
    grown None s t g = tt
    grown (Some w) s t g = record { marks = g.marks; shows = shows_older w g.marks g.shows; places = g.places; counts = g.counts }

    part : (p : LinkState) (w : List OnWire) (s t : Session) → OnLive (live p w) s t → OnLive (live p (older w)) s t
    part p w s t g = on_live_part (older_part (live p w)) (live p (older w)) s t (live-older p w) (grown (live p w) s t g)
