-- Each thing that the near end of a link does, where both ends are up in one session: how far it brings the places of both ends.
use Rattle.std.specs.Prelude.{nat_lt}
use Rattle.lines_told.proofs.Words.{Activation, Acts, Bool, Control, Deliver, Due, EndState, IsData, List, Lose, Losses, None, NumberedShdlc, OnWire, Pair}
use Rattle.lines_told.proofs.Words.{Rr_due, SafeLink, Session, ShdlcLink, ShdlcTurn, Some, TakenUp, Turns, Ua, Up, [], act_frame, ap, arith, came_up, cases_lt}
use Rattle.lines_told.proofs.Words.{counts_first, drop, false, fetch_cases, fragment_due, frame_cases, frame_due, frames_of, inl, inr, is_act, is_some, length}
use Rattle.lines_told.proofs.Words.{live, lt-ltb, map, noted_all, noted_here, noted_loss, noted_out, noted_tick, or_parts, passes_act, refl, runs_timer, sans}
use Rattle.lines_told.proofs.Words.{shdlc_becomes, shdlc_exchanged, shdlc_happens_at_controller, shdlc_put, shdlc_put_all, shdlc_ticks_at_controller}
use Rattle.lines_told.proofs.Words.{shdlc_turned, subst, sym, take_answer, taken, taken_up, tick_answer, ticked, took_with, true, turned-phase, with_frame}
use Rattle.lines_told.proofs.Words.{with_shdlc_ended, ℕ, ◌+◌, ◌<◌, ◌∙◌, ◌∷◌, ◌≡◌, ◌≤◌, ◌⊎◌}
use Rattle.link_laws.proofs.sessions.Hand.{IsRset}
use Rattle.lines_told.proofs.fragments.Becomes.{Advances, CountedAt, NoRnrBehind, Receives, Sends, StandsIn, StartsAgain, advances_other, advances_own}
use Rattle.lines_told.proofs.fragments.Becomes.{advances_then, behind_fits, behind_more, behind_push, behind_rest, get_some, in_more, in_rest, out_lost}
use Rattle.lines_told.proofs.fragments.Becomes.{prefix_of, put_all_same, put_stands, sent_same}
use Rattle.lines_told.proofs.fragments.Turns.{Answers, Brings, Differs, Took, answers_no_act, brings_no_act, took, turned_up}

-- ## What the near end of a link does, where both ends are up in one session: how far this brings the places of both ends

-- both ends are up, and all that is true of a link holds
pub record Sound (kn kf : ℕ) (l : ShdlcLink) : Type 0 where
  pub safe : SafeLink kn kf l
  pub near_up : l.controller.side.phase ≡ Up
  pub far_up : l.host.side.phase ≡ Up
  pub near_wide : 0 < l.controller.side.session.window
  pub far_wide : 0 < l.host.side.session.window

-- from m to n the near end took c frames and had tn ticks, and the other d and tf
pub record Did (c d tn tf : ℕ) (m n : ShdlcLink) : Type 0 where
  pub own : (a : ℕ) → Advances a c d tn m n
  pub other : (a : ℕ) → Advances a d c tf (shdlc_exchanged m) (shdlc_exchanged n)
  pub near_window : n.controller.side.session.window ≡ m.controller.side.session.window
  pub far_window : n.host.side.session.window ≡ m.host.side.session.window

pub did_then : {c d tn tf c' d' tn' tf' : ℕ} {m n o : ShdlcLink} → Did c d tn tf m n → Did c' d' tn' tf' n o
    → Did (c + c') (d + d') (tn + tn') (tf + tf') m o
did_then g h =
    record {
      own = λ a. advances_then (g.own a) (h.own a);
      other = λ a. advances_then (g.other a) (h.other a);
      near_window = h.near_window ∙ g.near_window;
      far_window = h.far_window ∙ g.far_window;
    }

pub did_exchanged : {c d tn tf : ℕ} {m n : ShdlcLink} → Did c d tn tf m n → Did d c tf tn (shdlc_exchanged m) (shdlc_exchanged n)
did_exchanged h = record { own = h.other; other = h.own; near_window = h.far_window; far_window = h.near_window }

pub sound_exchanged : {kn kf : ℕ} {l : ShdlcLink} → Sound kn kf l → Sound kf kn (shdlc_exchanged l)
sound_exchanged h = grind arith

-- of a wire this is left behind so many frames: what stood among the first stands there still, if it is no frame of activation, and
-- where no RNR stood behind the first, none does
pub record Leaves (c : ℕ) (v w : List OnWire) : Type 1 where
  pub rnr : (j k : ℕ) → j ≤ k + c → NoRnrBehind j v → NoRnrBehind k w
  pub stands : (P : Control → Type 0) → ((x : Control) → is_act x ≡ true → P x → ⊥) → (j k : ℕ) → j ≤ k + c → StandsIn P j v → StandsIn P k w

pub leaves_same : (w : List OnWire) → Leaves 0 w w
leaves_same w = record { rnr = λ j k i r. behind_more j k w (omega arith) r; stands = λ P plain j k i s. in_more P j k w (omega arith) s }

-- only the wire to the sender and the one from it change
wires_advance : (a c d : ℕ) (m : ShdlcLink) (v w : List OnWire) → Leaves c m.to_controller v → Leaves d m.to_host w
    → Advances a c d 0 m (record m { to_controller = v; to_host = w })
wires_advance a c d m v w near far =
    record {
      acked = omega arith;
      out = omega arith;
      front = prefix_of refl;
      rnr = near.rnr;
      idle = λ a. grind arith;
      answered = λ j k i low s. inl (near.stands (Answers a) (answers_no_act a) j k i s);
      sent = λ j k i low s. inl (far.stands (Brings a) (brings_no_act a) j k i s);
      waits = λ low more r idle. inl (record { timer = omega arith; below = λ i. absurd (omega (arith, i)) });
    }

-- only both wires change
pub did_wires : (c d : ℕ) (m : ShdlcLink) (v w : List OnWire) → Leaves c m.to_controller v → Leaves d m.to_host w
    → Did c d 0 0 m (record m { to_controller = v; to_host = w })
did_wires c d m v w near far =
    record {
      own = λ a. wires_advance a c d m v w near far;
      other = λ a. wires_advance a d c (shdlc_exchanged m) w v far near;
      near_window = refl;
      far_window = refl;
    }

module _ {kn kf : ℕ} {m : ShdlcLink} (h : Sound kn kf m) where
  abbrev near : EndState
  near = m.controller.side

  -- both sessions, and what is on its way to the near end
  pub pair_up : Pair m.controller.side.session m.host.side.session (sans m.to_controller) (live m.host.side.phase (sans m.to_host))
  pair_up = grind arith

-- an end with something to send has its timer running, once all that is due is sent
runs_of_idle : (e : EndState) → 0 < e.session.window → e.session.acked ≤ e.session.next → e.session.acked < length e.session.out
    → frame_due e ≡ None → runs_timer e.session ≡ true
runs_of_idle e wide from more idle = go (cases_lt s.acked s.next)
  where
    s : Session
    s = e.session

    none : fragment_due e.session ≡ None
    none = fetch_cases (λ f c. c ≡ None → fragment_due e.session ≡ None) e (λ d ds p n. cc) (λ p q n. q) (λ info p q n. cc) idle

    by_busy : (b : Bool) → e.session.peer_busy ≡ b → e.session.next ≡ e.session.acked → runs_timer e.session ≡ true
    by_busy true q same = grind arith
    by_busy false q same =
        let inside : nat_lt e.session.next (e.session.acked + e.session.window) ≡ true = grind arith in
        absurd (let z = sym (get_some e.session.out e.session.next (omega arith)).1 ∙ (rw (q, inside) at none) in cc)

    go : (e.session.acked < e.session.next) ⊎ (e.session.next ≤ e.session.acked) → runs_timer e.session ≡ true
    go (inl i) = rw (lt-ltb e.session.acked e.session.next i) refl
    go (inr i) = by_busy e.session.peer_busy refl (omega arith)

-- ## Each thing that the near end of a link does, where both ends are up in one session: how far it brings the places of both ends

-- the near end has become e, with the wires of l, has its turns and sends all that is due
did_becomes : {c t : ℕ} {m l : ShdlcLink} {e : EndState} (ts : List ShdlcTurn) (n : Losses) → (noted_out n l (shdlc_turned e ts)).lost ≡ false
    → ((a : ℕ) → Sends a c t m l e) → ((a : ℕ) → Receives a c m l e) → e.session.window ≡ m.controller.side.session.window
    → Did c 0 t 0 m (shdlc_becomes l (shdlc_turned e ts))
did_becomes {c} {t} {m} {l} {e} ts n none sends receives window =
    let g : EndState = shdlc_turned e ts in
    record {
      own = λ a. advances_own ts n none (sends a);
      other = λ a. advances_other ts n none (receives a);
      near_window = (sent_same 12 g).window ∙ ((turned_up ts e (sends 0).up).window ∙ window);
      far_window = ap (λ (x : NumberedShdlc). x.side.session.window) ((put_all_same (frames_of 12 g) l).1 ∙ (receives 0).host);
    }

-- ### It takes nothing

-- l has the wires of m, with frames of activation more on the way to the host
record Beside (m l : ShdlcLink) : Type 1 where
  to_controller : l.to_controller ≡ m.to_controller
  host : l.host ≡ m.host
  rnr : (k : ℕ) → NoRnrBehind k m.to_host → NoRnrBehind k l.to_host
  stands : (P : Control → Type 0) → ((c : Control) → is_act c ≡ true → P c → ⊥) → (k : ℕ) → StandsIn P k m.to_host → StandsIn P k l.to_host

module _ {kn kf : ℕ} {m l : ShdlcLink} (h : Sound kn kf m) (b : Beside m l) where
  idle_sends : (a : ℕ) → Sends a 0 0 m l m.controller.side
  idle_sends a =
      let p = pair_up h in
      record {
        up = h.near_up;
        answers = rw h.safe.n_due tt;
        few = rw h.safe.n_due (omega arith);
        wide = h.near_wide;
        narrow = p.mine.most;
        from = p.mine.from;
        acked = omega arith;
        out = refl;
        rnr = λ j k i r. rw b.to_controller (behind_more j k m.to_controller (omega arith) r);
        answered = λ j k i low s. inl (rw b.to_controller (in_more (Answers a) j k m.to_controller (omega arith) s));
        sent = λ k s. b.stands (Brings a) (brings_no_act a) k s;
        waits = λ same low more rnr idle. inl (record { timer = omega arith; below = λ i. absurd (omega (arith, i)) });
      }

  idle_receives : (a : ℕ) → Receives a 0 m l m.controller.side
  idle_receives a =
      record {
        up = h.near_up;
        host = b.host;
        answers = rw h.safe.n_due tt;
        no_rnr = rw h.safe.n_due tt;
        rnr = b.rnr;
        stands = λ k s. b.stands (Answers a) (answers_no_act a) k s;
        placed = λ j k i low s. inl (rw b.to_controller (in_more (Brings a) j k m.to_controller (omega arith) s));
      }

  idle_becomes : (ts : List ShdlcTurn) (n : Losses) → (noted_out n l (shdlc_turned m.controller.side ts)).lost ≡ false
      → Did 0 0 0 0 m (shdlc_becomes l (shdlc_turned m.controller.side ts))
  idle_becomes ts n none = did_becomes ts n none idle_sends idle_receives refl

-- its node has turns
pub did_turns : {kn kf : ℕ} {m : ShdlcLink} → Sound kn kf m → (ts : List ShdlcTurn) (n : Losses) → (noted_here n m (Turns ts)).lost ≡ false
    → Did 0 0 0 0 m (shdlc_happens_at_controller m (Turns ts))
did_turns h ts n none = idle_becomes h (record { to_controller = refl; host = refl; rnr = λ k r. r; stands = λ P plain k s. s }) ts n none

-- frames of activation go out
acts_stand : (P : Control → Type 0) → ((c : Control) → is_act c ≡ true → P c → ⊥) → (k : ℕ) (acts : List Activation) (n : Losses) (l : ShdlcLink)
    → (noted_all n l (map act_frame acts)).lost ≡ false → StandsIn P k l.to_host → StandsIn P k (shdlc_put_all l (map act_frame acts)).to_host
acts_stand P plain k [] n l none s = s
acts_stand P plain k (x ∷ acts) n l none s =
    let one = out_lost (map act_frame acts) (noted_loss n l (act_frame x)) (shdlc_put l (act_frame x)) none in
    acts_stand P plain k acts (noted_loss n l (act_frame x)) (shdlc_put l (act_frame x)) none (put_stands P plain k n l (act_frame x) refl one s)

acts_no_rnr : (k : ℕ) (acts : List Activation) (l : ShdlcLink) → NoRnrBehind k l.to_host → NoRnrBehind k (shdlc_put_all l (map act_frame acts)).to_host
acts_no_rnr k [] l r = r
acts_no_rnr k (x ∷ acts) l r =
    acts_no_rnr k acts (shdlc_put l (act_frame x))
    (behind_fits k (with_frame l.to_host (act_frame x)) (behind_push k l.to_host (record { frame = act_frame x; age = 0; number = 0 }) refl r))

pub did_acts : {kn kf : ℕ} {m : ShdlcLink} → Sound kn kf m → (acts : List Activation) (ts : List ShdlcTurn) (n : Losses)
    → (noted_here n m (Acts acts ts)).lost ≡ false → Did 0 0 0 0 m (shdlc_happens_at_controller m (Acts acts ts))
did_acts {m = m} h acts ts n none =
    let p : Losses = noted_all n m (map act_frame acts) in
    let kept : p.lost ≡ false = out_lost (frames_of 12 (shdlc_turned m.controller.side ts)) p (shdlc_put_all m (map act_frame acts)) none in
    let same = put_all_same (map act_frame acts) m in
    idle_becomes h
    (record {
      to_controller = same.0;
      host = same.1;
      rnr = λ k r. acts_no_rnr k acts m r;
      stands = λ P plain k s. acts_stand P plain k acts n m kept s;
    })
    ts p none

-- ### A frame is taken

-- one of activation is taken from its wire
pub did_loses : {m : ShdlcLink} (n : Losses) → (noted_here n m Lose).lost ≡ false → Did 1 0 0 0 m (shdlc_happens_at_controller m Lose)
did_loses {m = m} n none = go m.to_controller (or_parts n.lost (counts_first m.to_controller) none).1
  where
    rest : (P : Control → Type 0) → ((c : Control) → is_act c ≡ true → P c → ⊥) → (j k : ℕ) → j ≤ k + 1 → (w : List OnWire) → counts_first w ≡ false
        → StandsIn P j w → StandsIn P k (drop 1 w)
    rest P plain j k i [] e s = absurd s
    rest P plain j k i (x ∷ xs) e s = elim (in_rest P j k x xs i s) [
      | inl p ↦ absurd (plain x.frame (grind arith) p)
      | inr t ↦ t
    ]

    rnr : (j k : ℕ) → j ≤ k + 1 → (w : List OnWire) → NoRnrBehind j w → NoRnrBehind k (drop 1 w)
    rnr j k i [] r = tt
    rnr j k i (x ∷ xs) r = behind_rest j k x xs i r

    go : (w : List OnWire) → counts_first w ≡ false → Did 1 0 0 0 (record m { to_controller = w }) (record m { to_controller = drop 1 w })
    go w e =
        did_wires 1 0 (record m { to_controller = w }) (drop 1 w) m.to_host
        (record { rnr = λ j k i r. rnr j k i w r; stands = λ P plain j k i s. rest P plain j k i w e s }) (leaves_same m.to_host)

-- the link as the first frame is gone, whether a session ended or not
abbrev gone : ShdlcLink → List OnWire → Bool → ℕ → ShdlcLink
gone l xs ended took =
    let m : ShdlcLink = with_shdlc_ended (record l { to_controller = xs }) ended in
    record m { controller = record m.controller { took = took } }

-- the near end, which is ready, takes the first frame on its way to it
pub did_delivers : {m : ShdlcLink} → Sound 0 0 m → m.controller.side.ready ≡ true → (ts : List ShdlcTurn) (n : Losses)
    → (noted_here n m (Deliver ts)).lost ≡ false → Did 1 0 0 0 m (shdlc_happens_at_controller m (Deliver ts))
did_delivers {m} h ready ts n none = go m.to_controller h none
  where
    nothing : Did 1 0 0 0 (record m { to_controller = [] }) (record m { to_controller = [] })
    nothing =
        did_wires 1 0 (record m { to_controller = [] }) [] m.to_host (record { rnr = λ j k i r. tt; stands = λ P plain j k i s. absurd s })
        (leaves_same m.to_host)

    go : (w : List OnWire) → Sound 0 0 (record m { to_controller = w }) → (noted_here n (record m { to_controller = w }) (Deliver ts)).lost ≡ false
        → Did 1 0 0 0 (record m { to_controller = w }) (shdlc_happens_at_controller (record m { to_controller = w }) (Deliver ts))
    go [] g lost = nothing
    go (x ∷ xs) g lost = by_kind (is_act x.frame) refl
      where
        full : ShdlcLink
        full = record m { to_controller = x ∷ xs }

        left : ShdlcLink
        left = gone full xs (is_some (take_answer m.controller.side x.frame).ended) (took_with m.controller.took x)

        wires : (left.to_controller ≡ xs) × (left.to_host ≡ m.to_host) × (left.host ≡ m.host)
        wires = grind arith

        by_sides : ((a : ℕ) → Sends a 1 0 full left (taken m.controller.side x.frame)) → ((a : ℕ) → Receives a 1 full left (taken m.controller.side x.frame))
            → (taken m.controller.side x.frame).session.window ≡ m.controller.side.session.window
            → Did 1 0 0 0 full (shdlc_becomes left (shdlc_turned (taken m.controller.side x.frame) ts))
        by_sides a b w = did_becomes ts (came_up n left (take_answer m.controller.side x.frame).began) lost a b w

        -- a frame of activation
        passed : is_act x.frame ≡ true → Did 1 0 0 0 full (shdlc_becomes left (shdlc_turned (taken m.controller.side x.frame) ts))
        passed q =
            let same : taken m.controller.side x.frame ≡ m.controller.side = (passes_act m.controller.side x.frame q).0 in
            by_sides (λ a. subst (λ f. Sends a 1 0 full left f) (sym same) (sends a)) (λ a. subst (λ f. Receives a 1 full left f) (sym same) (receives a))
            (ap (λ (f : EndState). f.session.window) same)
          where
            rest : (P : Control → Type 0) → ((c : Control) → is_act c ≡ true → P c → ⊥) → (j k : ℕ) → j ≤ k + 1 → StandsIn P j (x ∷ xs)
                → StandsIn P k left.to_controller
            rest P plain j k i s = elim (in_rest P j k x xs i s) [
              | inl p ↦ absurd (plain x.frame q p)
              | inr t ↦ rw wires.0 t
            ]

            sends : (a : ℕ) → Sends a 1 0 full left m.controller.side
            sends a =
                let p = pair_up g in
                record {
                  up = g.near_up;
                  answers = rw g.safe.n_due tt;
                  few = rw g.safe.n_due (omega arith);
                  wide = g.near_wide;
                  narrow = p.mine.most;
                  from = p.mine.from;
                  acked = omega arith;
                  out = refl;
                  rnr = λ j k i r. rw wires.0 (behind_rest j k x xs i r);
                  answered = λ j k i low s. inl (rest (Answers a) (answers_no_act a) j k i s);
                  sent = λ k s. rw wires.1 s;
                  waits = λ same low more rnr idle. inl (record { timer = omega arith; below = λ i. absurd (omega (arith, i)) });
                }

            receives : (a : ℕ) → Receives a 1 full left m.controller.side
            receives a =
                record {
                  up = g.near_up;
                  host = wires.2;
                  answers = rw g.safe.n_due tt;
                  no_rnr = rw g.safe.n_due tt;
                  rnr = λ k r. rw wires.1 r;
                  stands = λ k s. rw wires.1 s;
                  placed = λ j k i low s. inl (rest (Brings a) (brings_no_act a) j k i s);
                }

        -- a frame of the session
        in_session : is_act x.frame ≡ false → IsData x.frame → Did 1 0 0 0 full (shdlc_becomes left (shdlc_turned (taken m.controller.side x.frame) ts))
        in_session q d = by_sides sends receives kept.window
          where
            pair : Pair m.controller.side.session m.host.side.session (x ∷ sans xs) (live m.host.side.phase (sans m.to_host))
            pair = rw q at (pair_up g)

            state : TakenUp m.controller.side (taken m.controller.side x.frame) m.host.side.session (sans xs) (live m.host.side.phase (sans m.to_host))
            state = (taken_up m.controller.side g.near_up d pair).0

            kept : Took m.controller.side (taken m.controller.side x.frame) x.frame
            kept = took m.controller.side ready g.safe.n_due g.near_up d pair

            sends : (a : ℕ) → Sends a 1 0 full left (taken m.controller.side x.frame)
            sends a =
                record {
                  up = state.up;
                  answers = kept.answers;
                  few = kept.few;
                  wide = omega (arith, kept.window, g.near_wide);
                  narrow = state.pair.mine.most;
                  from = state.pair.mine.from;
                  acked = kept.acked;
                  out = kept.out;
                  rnr = λ j k i r. rw wires.0 (behind_rest j k x xs i r);
                  answered = λ j k i low s. answered k low (in_rest (Answers a) j k x xs i s);
                  sent = λ k s. rw wires.1 s;
                  waits = λ same low more rnr idle. waits (kept.stays rnr.0 (omega (arith, kept.acked)));
                }
              where
                answered : (k : ℕ) → a ≤ m.controller.side.session.acked → Answers a x.frame ⊎ StandsIn (Answers a) k xs
                    → StandsIn (Answers a) k left.to_controller ⊎ (a < (taken m.controller.side x.frame).session.acked)
                answered k low (inl p) = inr (kept.grows a low p)
                answered k low (inr t) = inl (rw wires.0 t)

                waits : ((taken m.controller.side x.frame).timer ≡ m.controller.side.timer)
                    ⊎ (((taken m.controller.side x.frame).session.next ≡ (taken m.controller.side x.frame).session.acked)
                    × ((taken m.controller.side x.frame).session.peer_busy ≡ false))
                    → CountedAt m.controller.side.timer 0 (taken m.controller.side x.frame) ⊎ StartsAgain (taken m.controller.side x.frame).session
                waits (inl t) = inl (record { timer = omega (arith, t); below = λ i. absurd (omega (arith, i)) })
                waits (inr t) = inr (record { next = t.0; may = inl t.1 })

            receives : (a : ℕ) → Receives a 1 full left (taken m.controller.side x.frame)
            receives a =
                record {
                  up = state.up;
                  host = wires.2;
                  answers = kept.answers;
                  no_rnr = kept.no_rnr;
                  rnr = λ k r. rw wires.1 r;
                  stands = λ k s. rw wires.1 s;
                  placed = λ j k i low s. placed k low (in_rest (Brings a) j k x xs i s) (cases_lt a m.host.side.session.acked);
                }
              where
                placed : (k : ℕ) → a ≤ m.host.side.session.acked → Brings a x.frame ⊎ StandsIn (Brings a) k xs
                    → (a < m.host.side.session.acked) ⊎ (m.host.side.session.acked ≤ a)
                    → StandsIn (Brings a) k left.to_controller
                    ⊎ ((a < m.host.side.session.acked)
                    ⊎ (((ds : List Due) × ((taken m.controller.side x.frame).due ≡ Rr_due ∷ ds)) × Differs (length
                    (taken m.controller.side x.frame).session.acc) a))
                placed k low (inr t) b = inl (rw wires.0 t)
                placed k low (inl p) (inl b) = inr (inl b)
                placed k low (inl p) (inr b) =
                    inr (inr (kept.placed a (omega (arith, pair.theirs.acked)) (omega (arith, pair.theirs.fits, pair.theirs.within, pair.theirs.most)) p))

        by_frame : is_act x.frame ≡ false → IsData x.frame ⊎ (IsRset x ⊎ (x.frame ≡ Ua))
            → Did 1 0 0 0 full (shdlc_becomes left (shdlc_turned (taken m.controller.side x.frame) ts))
        by_frame q (inl d) = in_session q d
        by_frame q (inr (inl is)) =
            absurd (grind arith)
        by_frame q (inr (inr is)) =
            absurd (grind arith)

        by_kind : (b : Bool) → is_act x.frame ≡ b → Did 1 0 0 0 full (shdlc_becomes left (shdlc_turned (taken m.controller.side x.frame) ts))
        by_kind true q = passed q
        by_kind false q = by_frame q (frame_cases x)

-- ### It has its tick

-- the end e had a tick in its session, and is f
record Ticked (e f : EndState) : Type 0 where
  up : f.phase ≡ Up
  due : f.due ≡ e.due
  window : f.session.window ≡ e.session.window
  acked : f.session.acked ≡ e.session.acked
  out : f.session.out ≡ e.session.out
  acc : f.session.acc ≡ e.session.acc
  from : f.session.acked ≤ f.session.next
  waits : runs_timer e.session ≡ true → CountedAt e.timer 1 f ⊎ StartsAgain f.session

ticked_up : (e : EndState) → e.phase ≡ Up → (ticked e).phase ≡ Up → e.session.acked ≤ e.session.next → Ticked e (ticked e)
ticked_up e up still from = grind arith

pub ended_wires : (l : ShdlcLink) (b : Bool) → ((with_shdlc_ended l b).to_controller ≡ l.to_controller) × ((with_shdlc_ended l b).to_host ≡ l.to_host)
    × ((with_shdlc_ended l b).host ≡ l.host)
ended_wires l b = grind arith

pub did_ticks : {kf : ℕ} {m : ShdlcLink} → Sound 1 kf m → (ts : List ShdlcTurn) (n : Losses) → (noted_tick n (Some ts) m).lost ≡ false
    → (shdlc_ticks_at_controller m ts).controller.side.phase ≡ Up → Did 0 0 1 0 m (shdlc_ticks_at_controller m ts)
did_ticks {kf} {m} h ts n none up = did_becomes ts n none sends receives state.window
  where
    wires : ((with_shdlc_ended m (is_some (tick_answer m.controller.side).ended)).to_controller ≡ m.to_controller)
        × ((with_shdlc_ended m (is_some (tick_answer m.controller.side).ended)).to_host ≡ m.to_host)
        × ((with_shdlc_ended m (is_some (tick_answer m.controller.side).ended)).host ≡ m.host)
    wires = ended_wires m (is_some (tick_answer m.controller.side).ended)

    pair : Pair m.controller.side.session m.host.side.session (sans m.to_controller) (live m.host.side.phase (sans m.to_host))
    pair = pair_up h

    still : (ticked m.controller.side).phase ≡ Up
    still = sym (turned-phase ts (ticked m.controller.side)) ∙ (sym (sent_same 12 (shdlc_turned (ticked m.controller.side) ts)).phase ∙ up)

    state : Ticked m.controller.side (ticked m.controller.side)
    state = ticked_up m.controller.side h.near_up still pair.mine.from

    due : (ticked m.controller.side).due ≡ []
    due = state.due ∙ h.safe.n_due

    sends : (a : ℕ) → Sends a 0 1 m (with_shdlc_ended m (is_some (tick_answer m.controller.side).ended)) (ticked m.controller.side)
    sends a =
        record {
          up = state.up;
          answers = rw due tt;
          few = rw due (omega arith);
          wide = omega (arith, state.window, h.near_wide);
          narrow = omega (arith, state.window, pair.mine.most);
          from = state.from;
          acked = omega (arith, state.acked);
          out = state.out;
          rnr = λ j k i r. rw wires.0 (behind_more j k m.to_controller (omega arith) r);
          answered = λ j k i low s. inl (rw wires.0 (in_more (Answers a) j k m.to_controller (omega arith) s));
          sent = λ k s. rw wires.1 s;
          waits = λ same low more rnr idle.
              state.waits (runs_of_idle m.controller.side h.near_wide pair.mine.from (omega (arith, same, state.acked)) idle);
        }

    receives : (a : ℕ) → Receives a 0 m (with_shdlc_ended m (is_some (tick_answer m.controller.side).ended)) (ticked m.controller.side)
    receives a =
        record {
          up = state.up;
          host = wires.2;
          answers = rw due tt;
          no_rnr = rw due tt;
          rnr = λ k r. rw wires.1 r;
          stands = λ k s. rw wires.1 s;
          placed = λ j k i low s. inl (rw wires.0 (in_more (Brings a) j k m.to_controller (omega arith) s));
        }
