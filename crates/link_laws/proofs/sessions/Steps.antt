-- Each event keeps all that is true of a link.
use Rattle.std.proofs.Common.{◌==◌, max}
use Rattle.link_laws.proofs.Words.{Activation, AllShdlcAllowed, AreTurns, Bool, Control, CoreActs as Acts, CoreAtController as AtController}
use Rattle.link_laws.proofs.Words.{CoreAtHost as AtHost, CoreDeliver as Deliver, CoreEndEvent as ShdlcEndEvent, CoreInOrder as FragmentsInOrder}
use Rattle.link_laws.proofs.Words.{CoreIsAllowed as IsShdlcAllowed, CoreLink as ShdlcLink, CoreLose as Lose, CoreReset as Reset, CoreStop as Stop}
use Rattle.link_laws.proofs.Words.{CoreTurn as ShdlcTurn, Down, Due, EndState, Ignore, IsShdlcStart, IsTurn, LinkState, List, None, NumberedShdlc, OnWire}
use Rattle.link_laws.proofs.Words.{Option, Rset, Rset_due, Session, ShdlcLinkEvent, Some, Tick, TickWithout, Turns, Ua, Ua_due, Up, Waiting, [], act_frame}
use Rattle.link_laws.proofs.Words.{aged_wire, ap, arith, asked_again, cond, core_after as shdlc_after, core_aged as shdlc_aged}
use Rattle.link_laws.proofs.Words.{core_all_here as shdlc_all_at_controller, core_happens_here as shdlc_happens_at_controller}
use Rattle.link_laws.proofs.Words.{core_ticks_if_waiting as ticks_if_waiting, core_ticks_or_cut as ticks_or_cut, core_turned as shdlc_turned}
use Rattle.link_laws.proofs.Words.{core_with_ended as with_shdlc_ended, ended_session, false, given_up, inl, inr, is_act, is_rset, is_some, is_up, is_waiting}
use Rattle.link_laws.proofs.Words.{ltb-false, ltb-true, map, min, nat_lt, ne_eqb, new_end, no_session, older, refl, reset_with, runs_timer, sans, sent_again}
use Rattle.link_laws.proofs.Words.{shdlc_becomes, shdlc_exchanged, shdlc_happens, shdlc_number_of, shdlc_put, shdlc_put_all, shdlc_session_of, shdlc_silent}
use Rattle.link_laws.proofs.Words.{shdlc_ticks_at_controller, stopped, subst, sym, take_answer, taken, tick_answer, ticked, took_with, true, up_with}
use Rattle.link_laws.proofs.Words.{waiting_from, ℕ, ◌++◌, ◌+◌, ◌<◌, ◌∙◌, ◌∷◌, ◌≡◌, ◌≤◌, ◌⊎◌}
use Rattle.link_laws.specs.sessions.Sessions.ShdlcEndEvent.{Cut}
use Rattle.link_laws.proofs.sessions.Wire.{IsData, behind_ua, live, Young, data_behind, young_later, young_older}
use Rattle.link_laws.proofs.sessions.Hand.{NothingIsOut, IsRset, IsNextRset, ua_told, rset_told, hand_past, hand_timer, nothing_out}
use Rattle.link_laws.proofs.sessions.Data.{Base, Below, below_more, none_ended, bound, Pair, pair_next, IsAnswer, taken_up}
use Rattle.link_laws.proofs.sessions.Safe.{HasWindows, Safe, session_with, safe_swap, pair_from, safe_up, safe_idle, HaveEnded, moves_end}
use Rattle.link_laws.proofs.sessions.Safe.{moves_none, waiting_end, safe_asks, safe_down, up_end, safe_up_ua, safe_up_rset, WaitsOn, safe_wait_rset}
use Rattle.link_laws.proofs.sessions.Safe.{frame_cases, safe_lose, safe_ignore, safe_older, safe_silent}
use Rattle.link_laws.proofs.sessions.Sending.{SafeAt, SafeLink, sans-push_act, fits_keeps, safe_fits, no_rset_out, up_step, becomes_none, becomes_one}
use Rattle.link_laws.proofs.sessions.Sending.{becomes_taken}
use Rattle.link_laws.proofs.Cases.{by_phase, by_test}

-- ## It sends an RSET and waits

-- the link after the RSET of an end that has become e
put_rset : {kn kf : ℕ} (l : ShdlcLink) {e : EndState} {past : List (ℕ × Session)} → NothingIsOut (sans l.to_controller) (sans l.to_host) → HasWindows e
    → HaveEnded l.controller past (l.resets + 1) → SafeLink kn kf l
    → SafeAt 0 kf (shdlc_put (record l { controller = record l.controller { past = past } }) (Rset e.own_window 0)) (waiting_end e)
put_rset l {e} out windows ended h =
    let x : OnWire = record { frame = Rset e.own_window 0; age = 0; number = l.resets + 1 } in
    let new : IsNextRset l.resets x =
    record { is = record { window = e.own_window; caps = 0; frame = refl }; wide = windows.own.0; age = refl; number = refl } in
    safe_fits l.to_host x refl (safe_asks h out new windows ended)

-- a session that goes on ends with a number below that of the next RSET
ended_below : {kn kf : ℕ} (l : ShdlcLink) → l.controller.side.phase ≡ Up → SafeLink kn kf l
    → HaveEnded l.controller ((shdlc_number_of l.controller, l.controller.side.session) ∷ l.controller.past) (l.resets + 1)
ended_below l up h =
    record {
      moves = moves_end l.controller up;
      below = (omega arith, below_more (shdlc_number_of l.controller) (l.resets + 1) l.controller.past (omega arith) (rw up at h.n_past));
    }

up_asks : {kn kf : ℕ} (ts : List ShdlcTurn) (l : ShdlcLink) (e : EndState)
    → l.controller.side.phase ≡ Up → e.phase ≡ Up → e.due ≡ [] → HasWindows (waiting_from e) → SafeLink kn kf l
    → SafeLink 0 kf (shdlc_becomes (with_shdlc_ended l true) (shdlc_turned (waiting_from e) ts))
up_asks {kf = kf} ts l e up eup due windows h =
    becomes_one kf ts (with_shdlc_ended l true) (waiting_from e) Rset_due (rw eup refl)
    (put_rset l (no_rset_out h up) windows (ended_below l up h) h)

past_below : {kn kf : ℕ} (l : ShdlcLink) → l.controller.side.phase ≡ Waiting → SafeLink kn kf l
    → HaveEnded l.controller l.controller.past (l.resets + 1)
past_below l waiting h =
    record {
      moves = moves_none l.controller (λ u. let g = sym waiting ∙ u in cc);
      below = below_more l.controller.emitted (l.resets + 1) l.controller.past (omega (arith, h.hand.n_bound)) (rw waiting at h.n_past);
    }

past_below_down : {kn kf : ℕ} (l : ShdlcLink) → l.controller.side.phase ≡ Down → SafeLink kn kf l
    → HaveEnded l.controller l.controller.past (l.resets + 1)
past_below_down l down h =
    record {
      moves = moves_none l.controller (λ u. let g = sym down ∙ u in cc);
      below = below_more (shdlc_number_of l.controller + 1) (l.resets + 1) l.controller.past (omega arith) (rw down at h.n_past);
    }

resets : (kf : ℕ) (ts : List ShdlcTurn) (l : ShdlcLink) (w : ℕ) → (0 < w) × (w ≤ 4) → SafeLink 0 kf l
    → SafeLink 0 kf (shdlc_happens_at_controller l (Reset w ts))
resets kf ts l w ok h =
    by_phase l.controller.side.phase (λ q. by_parts true (waiting_from e) (rw q refl) (rw q refl) (up_asks ts l e q q h.n_due windows h))
    (λ q. by_parts false l.controller.side (rw q refl) (rw q refl) (becomes_none kf ts l l.controller.side h)) (λ q.
    by_parts false (waiting_from e) (rw q refl) (rw q refl)
    (becomes_one kf ts l (waiting_from e) Rset_due (rw (q, h.n_due) refl) (put_rset l (grind arith) windows (past_below_down l q h) h)))
  where
    e : EndState
    e = record l.controller.side { own_window = w }

    windows : HasWindows (waiting_from e)
    windows = record { own = ok; peer = (omega arith, omega arith) }

    by_parts : (b : Bool) (q : EndState) → is_up l.controller.side.phase ≡ b → reset_with l.controller.side w
        ≡ q → SafeLink 0 kf (shdlc_becomes (with_shdlc_ended l b) (shdlc_turned q ts))
        → SafeLink 0 kf (shdlc_happens_at_controller l (Reset w ts))
    by_parts b q up is a =
        let P : Bool → EndState → Type 0 = λ c f. SafeLink 0 kf (shdlc_becomes (with_shdlc_ended l c) (shdlc_turned f ts)) in
        subst (λ c. P c (reset_with l.controller.side w)) (sym up) (subst (P b) (sym is) a)

-- ## It is Down, and nothing stands on either wire

silences : (kn kf : ℕ) (l : ShdlcLink) (q : EndState) → q.phase ≡ Down → q.session ≡ no_session → q.due ≡ [] → HasWindows q → SafeLink kn kf l
    → SafeLink 0 kf (shdlc_silent l q)
silences kn kf l q down none due windows h =
    by_phase l.controller.side.phase (λ e.
    let a : Below (shdlc_number_of l.controller) l.controller.past = rw e at h.n_past in
    let below = below_more (shdlc_number_of l.controller) (shdlc_number_of l.controller + 1) l.controller.past (omega arith) a in
    rw e (made (record { moves = moves_end l.controller e; below = (omega arith, below) })))
    (λ e.
    let a : Below l.controller.emitted l.controller.past = rw e at h.n_past in
    let below = below_more l.controller.emitted (shdlc_number_of l.controller + 1) l.controller.past (omega arith) a in
    rw e (made (record { moves = moves_none l.controller (λ u. let g = sym e ∙ u in cc); below = below })))
    (λ e.
    let a : Below (shdlc_number_of l.controller + 1) l.controller.past = rw e at h.n_past in
    rw e (made (record { moves = moves_none l.controller (λ u. let g = sym e ∙ u in cc); below = a })))
  where
    is : record q { phase = Down; session = no_session } ≡ q
    is = rw (← down, ← none) refl

    made : {past : List (ℕ × Session)} → HaveEnded l.controller past (shdlc_number_of l.controller + 1)
        → Safe 0 kf (record { side = q; emitted = l.controller.emitted; took = l.controller.took; past = past }) l.host [] [] l.resets
    made {past} ended =
        let P : EndState → Type 0 = λ v. Safe 0 kf (record { side = v; emitted = l.controller.emitted; took = l.controller.took; past = past }) l.host
        [] [] l.resets in
        subst P is (safe_silent h due windows ended)

cuts : (kn kf : ℕ) (l : ShdlcLink) → SafeLink kn kf l → SafeLink 0 kf (shdlc_silent l (new_end 4))
cuts kn kf l h = silences kn kf l (new_end 4) refl refl refl (record { own = (omega arith, omega arith); peer = (omega arith, omega arith) }) h

stops : (kn kf : ℕ) (l : ShdlcLink) → SafeLink kn kf l → SafeLink 0 kf (shdlc_silent l (stopped l.controller.side))
stops kn kf l h = silences kn kf l (stopped l.controller.side) refl refl refl (record { own = h.n_windows.own; peer = h.n_windows.peer }) h

-- ## A tick of the controller's end

ticks : (kf : ℕ) (ts : List ShdlcTurn) (l : ShdlcLink) → SafeLink 1 kf l → SafeLink 0 kf (shdlc_ticks_at_controller l ts)
ticks kf ts l h = go e.phase (runs_timer e.session) (nat_lt (e.timer + 1) 10) (nat_lt e.tries 5) refl refl refl refl
  where
    e : EndState
    e = l.controller.side

    -- what happens where no session ends
    plain : (q : EndState) → ticked e ≡ q → is_some (tick_answer e).ended ≡ false → SafeLink 0 kf (shdlc_becomes l (shdlc_turned q ts))
        → SafeLink 0 kf (shdlc_ticks_at_controller l ts)
    plain q a b s = rw (b, a) s

    up : (q : EndState) → e.phase ≡ Up → q.phase ≡ Up → q.due ≡ e.due → q.own_window ≡ e.own_window → q.peer_window ≡ e.peer_window
        → Pair q.session (session_with l.host l.controller) (sans l.to_controller) (live l.host.side.phase (sans l.to_host))
        → SafeLink 0 kf (shdlc_becomes l (shdlc_turned q ts))
    up q p qup due own peer pair =
        becomes_none kf ts l q (up_step l (record { was_up = p; up = qup; due = due ∙ h.n_due; own = own; peer = peer }) pair h)

    -- it is in no session, and only its timer moves
    idles : (n : ℕ) → (e.phase ≡ Up → ⊥) → (e.phase ≡ Waiting → n + 0 ≡ e.timer + 1)
        → SafeLink 0 kf (shdlc_becomes l (shdlc_turned (record e { timer = n }) ts))
    idles n no_up counts =
        becomes_none kf ts l (record e { timer = n })
        (grind arith)

    late : nat_lt (e.timer + 1) 10 ≡ false → NothingIsOut (sans l.to_controller) (sans l.to_host)
    late r = nothing_out h.hand (let g = ltb-false (e.timer + 1) 10 r in omega arith)

    go : (p : LinkState) (a b c : Bool) → e.phase ≡ p → runs_timer e.session ≡ a → nat_lt (e.timer + 1) 10 ≡ b → nat_lt e.tries 5
        ≡ c → SafeLink 0 kf (shdlc_ticks_at_controller l ts)
    go Down a b c p q r t =
        plain e (rw p refl) (rw p refl)
        (idles e.timer (λ u. let g = sym p ∙ u in cc) (λ w. absurd (let g = sym p ∙ w in let f : Down ≡ Waiting = g in cc)))
    go Up false b c p q r t = plain e (rw (p, q) refl) (rw (p, q) refl) (up e p p refl refl refl (pair_from h p))
    go Up true true c p q r t =
        plain (record e { timer = e.timer + 1 }) (rw (p, q, r) refl) (rw (p, q, r) refl)
        (up (record e { timer = e.timer + 1 }) p p refl refl refl (pair_from h p))
    go Up true false true p q r t =
        let pair = pair_from h p in
        plain (sent_again e) (rw (p, q, r, t) refl) (rw (p, q, r, t) refl)
        (up (sent_again e) p p refl refl refl
        (pair_next {next = e.session.acked} (omega arith) (omega (arith, pair.mine.from, pair.mine.sent)) refl pair))
    go Up true false false p q r t =
        let is : ticked e ≡ waiting_from e = rw (p, q, r, t) refl in
        let ends : is_some (tick_answer e).ended ≡ true = rw (p, q, r, t) refl in
        rw (ends, is) (up_asks ts l e p p h.n_due (record { own = h.n_windows.own; peer = (omega arith, omega arith) }) h)
    go Waiting a true c p q r t =
        plain (record e { timer = e.timer + 1 }) (rw (p, r) refl) (rw (p, r) refl)
        (idles (e.timer + 1) (λ u. let g = sym p ∙ u in cc) (λ w. omega arith))
    go Waiting a false true p q r t =
        let f : EndState = record e { tries = e.tries + 1 } in
        let none : e.session ≡ no_session = h.n_none (λ u. let g = sym p ∙ u in cc) in
        let due : (asked_again e).due ≡ Rset_due ∷ [] = rw h.n_due refl in
        let same : waiting_end f ≡ record (asked_again e) { due = [] } = rw (← p, ← none) refl in
        let s : SafeAt 0 kf (shdlc_put l (Rset e.own_window 0)) (waiting_end f) =
        put_rset l {e = f} (late r) (record { own = h.n_windows.own; peer = h.n_windows.peer }) (past_below l p h) h in
        plain (asked_again e) (rw (p, r, t) refl) (rw (p, r, t) refl)
        (becomes_one kf ts l (asked_again e) Rset_due due
        (let P : EndState → Type 0 = λ v. SafeAt 0 kf (shdlc_put l (Rset e.own_window 0)) v in subst P same s))
    go Waiting a false false p q r t =
        let f : EndState = record e { tries = 0 } in
        let none : e.session ≡ no_session = h.n_none (λ u. let g = sym p ∙ u in cc) in
        let same : record f { phase = Down; due = []; timer = 0; session = no_session } ≡ given_up e = rw (← none, ← h.n_due) refl in
        let s : SafeAt 0 kf l (record f { phase = Down; due = []; timer = 0; session = no_session }) =
        safe_down h {e = f} p (late r) (let g = ltb-false (e.timer + 1) 10 r in omega arith)
        (record { own = h.n_windows.own; peer = h.n_windows.peer }) in
        plain (given_up e) (rw (p, r, t) refl) (rw (p, r, t) refl)
        (becomes_none kf ts l (given_up e) (let P : EndState → Type 0 = λ v. SafeAt 0 kf l v in subst P same s))

-- ## The controller's end takes a frame

-- an RSET counts, whatever the end does with it
took_rset : (l : ShdlcLink) {x : OnWire} {m : ℕ} → IsRset x → x.number ≡ m → l.controller.took ≤ m → took_with l.controller.took x ≡ m
took_rset l {m = m} is n i = rw (is.frame, n) (let a : max l.controller.took m ≡ m = omega arith in a)

pub took_other : (t : ℕ) (x : OnWire) → is_rset x.frame ≡ false → took_with t x ≡ t
took_other t x e = rw e refl

pub not_rset : (c : Control) → IsData c ⊎ (c ≡ Ua) → is_rset c ≡ false
not_rset c a = grind arith

-- an end that isn't Up passes over the frames of a session
pub passes : (e : EndState) (c : Control) → IsData c → (e.phase ≡ Up → ⊥) → (taken e c ≡ e) × (is_some (take_answer e c).ended ≡ false)
passes e c d no_up = grind arith

-- the link after the controller's end took x
abbrev pub took : ShdlcLink → List ShdlcTurn → OnWire → List OnWire → ShdlcLink
took l ts x xs =
    let m : ShdlcLink = with_shdlc_ended (record l { to_controller = xs }) (is_some (take_answer l.controller.side x.frame).ended) in
    shdlc_becomes (record m { controller = record m.controller { took = took_with l.controller.took x } }) (shdlc_turned (taken l.controller.side x.frame) ts)

-- what comes of x at the controller's end: whether a session ended there, the number that it has taken, and the end
record TakesSo (l : ShdlcLink) (x : OnWire) (ends : Bool) (number : ℕ) (q : EndState) : Type 0 where
  ended : is_some (take_answer l.controller.side x.frame).ended ≡ ends
  took : took_with l.controller.took x ≡ number
  end : taken l.controller.side x.frame ≡ q

took_is : (ts : List ShdlcTurn) {l : ShdlcLink} {x : OnWire} (xs : List OnWire) {ends : Bool} {number : ℕ} {q : EndState} → TakesSo l x ends number q
    → SafeLink 0 0 (let m : ShdlcLink = with_shdlc_ended (record l { to_controller = xs }) ends in
    shdlc_becomes (record m { controller = record m.controller { took = number } }) (shdlc_turned q ts))
    → SafeLink 0 0 (took l ts x xs)
took_is ts xs so h = rw (so.ended, so.took, so.end) h

takes : (ts : List ShdlcTurn) (l : ShdlcLink) (x : OnWire) (xs : List OnWire) → Safe 0 0 l.controller l.host (x ∷ sans xs) (sans l.to_host) l.resets
    → SafeLink 0 0 (took l ts x xs)
takes ts l x xs h = go (frame_cases x) e.phase refl
  where
    e : EndState
    e = l.controller.side

    next : ShdlcLink
    next = record l { to_controller = xs }

    no_ua : x.frame ≡ Ua → (e.phase ≡ Waiting → ⊥) → ⊥
    no_ua q n = n (ua_told h.hand q).1

    -- an end in a session
    in_session : e.phase ≡ Up → IsData x.frame → SafeLink 0 0 (took l ts x xs)
    in_session up d =
        let t = taken_up e up d (pair_from h up) in
        let q : EndState = taken e x.frame in
        let s : SafeAt 0 0 next (record q { due = [] }) =
        safe_up h (record { was_up = up; up = t.0.up; due = refl; own = t.0.own; peer = t.0.peer })
        (hand_timer (hand_past h.hand d) (grind arith))
        t.0.pair in
        let so : TakesSo l x false l.controller.took q = grind arith in
        took_is ts xs so (becomes_taken 0 ts next q t.0.up (due q t.0.due) s)
      where
        due : (q : EndState) → (q.due ≡ e.due) ⊎ ((d : Due) × IsAnswer d × (q.due ≡ e.due ++ d ∷ []))
            → (q.due ≡ []) ⊎ ((d : Due) × IsAnswer d × (q.due ≡ d ∷ []))
        due q (inl a) = inl (a ∙ h.n_due)
        due q (inr a) = inr (a.0, a.1, a.2 ∙ ap (λ (r : List Due). r ++ a.0 ∷ []) h.n_due)

    -- an end without a session passes over a frame of one
    passed : IsData x.frame → (e.phase ≡ Up → ⊥) → live e.phase (sans xs) ≡ live e.phase (x ∷ sans xs) → SafeLink 0 0 (took l ts x xs)
    passed d no_up lives =
        let t = passes e x.frame d no_up in
        let so : TakesSo l x false l.controller.took e = grind arith in
        took_is ts xs so (becomes_none 0 ts next e (safe_idle h no_up (grind arith) lives (hand_past h.hand d)))

    zero : (is : IsRset x) → (is.window == 0) ≡ false
    zero is = let t = rset_told h.hand is in ne_eqb is.window 0 (λ z. omega (arith, t.wide))

    ahead : IsRset x → (e.phase ≡ Waiting → ⊥) → (l.controller.took < l.host.emitted) × (l.controller.emitted < l.host.emitted)
    ahead is n = grind arith

    -- an end that doesn't wait begins a new session
    anew : (is : IsRset x) {past : List (ℕ × Session)} (ends : Bool) → (e.phase ≡ Waiting → ⊥) → HaveEnded l.controller past l.host.emitted
        → taken e x.frame ≡ up_with (record e { due = Ua_due ∷ [] }) (min e.own_window (min is.window 4)) → is_some (take_answer e x.frame).ended ≡ ends
        → (SafeLink 0 0 (shdlc_becomes (record l { to_controller = xs; controller = record l.controller { took = l.host.emitted; past = past } })
        (shdlc_turned (up_with (record e { due = Ua_due ∷ [] }) (min e.own_window (min is.window 4))) ts))
        → SafeLink 0 0 (let m : ShdlcLink = with_shdlc_ended (record l { to_controller = xs }) ends in
        shdlc_becomes (record m { controller = record m.controller { took = l.host.emitted } })
        (shdlc_turned (up_with (record e { due = Ua_due ∷ [] }) (min e.own_window (min is.window 4))) ts)))
        → SafeLink 0 0 (took l ts x xs)
    anew is {past} ends n ended to quits kept =
        let w : ℕ = min e.own_window (min is.window 4) in
        let b : EndState = up_with (record e { due = Ua_due ∷ [] }) w in
        let y : OnWire = record { frame = Ua; age = 0; number = 0 } in
        let m : ShdlcLink = record l { to_controller = xs; controller = record l.controller { took = l.host.emitted; past = past } } in
        let so : TakesSo l x ends l.host.emitted b = record { ended = quits; took = took_rset l is (rset_told h.hand is).number h.hand.n_took; end = to } in
        took_is ts xs so
        (kept (becomes_one 0 ts m b Ua_due refl
        (safe_fits l.to_host y refl (safe_up_rset is h w n (record { frame = refl; age = refl }) (omega arith) ended))))

    waits : (is : IsRset x) → e.phase ≡ Waiting → taken e x.frame ≡ record e { due = Ua_due ∷ []; peer_window = min is.window 4 }
    waits is p = rw (is.frame, p, zero is, h.n_due) refl

    confirmed : x.frame ≡ Ua → e.phase ≡ Waiting → taken e x.frame ≡ up_with e (min e.own_window e.peer_window)
    confirmed q p = rw (q, p) refl

    go : IsData x.frame ⊎ (IsRset x ⊎ (x.frame ≡ Ua)) → (p : LinkState) → e.phase ≡ p → SafeLink 0 0 (took l ts x xs)
    go (inl d) Up p = in_session p d
    go (inl d) Waiting p = passed d (λ u. let g = sym p ∙ u in cc) (rw p (sym (data_behind x.frame (sans xs) (behind_ua (sans xs)) d)))
    go (inl d) Down p = passed d (λ u. let g = sym p ∙ u in cc) (rw p refl)
    go (inr (inl q)) Up p =
        let a : Below (shdlc_number_of l.controller) l.controller.past = rw p at h.n_past in
        let g = ahead q (λ w. let g = sym p ∙ w in cc) in
        let below = below_more (shdlc_number_of l.controller) l.host.emitted l.controller.past (omega arith) a in
        anew q true (λ w. let g = sym p ∙ w in cc) (record { moves = moves_end l.controller p; below = (omega arith, below) })
        (rw (q.frame, p, zero q) refl) (rw (q.frame, p, zero q) refl) (λ s. s)
    go (inr (inl q)) Down p =
        let a : Below (shdlc_number_of l.controller + 1) l.controller.past = rw p at h.n_past in
        let g = ahead q (λ w. let g = sym p ∙ w in cc) in
        let below = below_more (shdlc_number_of l.controller + 1) l.host.emitted l.controller.past (omega arith) a in
        anew q false (λ w. let g = sym p ∙ w in cc) (record { moves = moves_none l.controller (λ w. let g = sym p ∙ w in cc); below = below })
        (rw (q.frame, p, zero q, h.n_due) refl) (rw (q.frame, p, zero q) refl) (λ s. s)
    go (inr (inl q)) Waiting p =
        let t = rset_told h.hand q in
        let b : EndState = record e { due = Ua_due ∷ []; peer_window = min q.window 4 } in
        let y : OnWire = record { frame = Ua; age = 0; number = 0 } in
        let m : ShdlcLink = record l { to_controller = xs; controller = record l.controller { took = l.host.emitted } } in
        let so : TakesSo l x false l.host.emitted b = grind arith in
        let on : WaitsOn e (record e { due = []; peer_window = min q.window 4 }) = grind arith in
        took_is ts xs so (becomes_one 0 ts m b Ua_due refl (safe_fits l.to_host y refl (safe_wait_rset q h on (record { frame = refl; age = refl }))))
    go (inr (inr q)) Up p = absurd (no_ua q (λ w. let g = sym p ∙ w in cc))
    go (inr (inr q)) Down p = absurd (no_ua q (λ w. let g = sym p ∙ w in cc))
    go (inr (inr q)) Waiting p =
        let w : ℕ = min e.own_window e.peer_window in
        let s : SafeAt 0 0 next (up_end e w) = safe_up_ua h w q p (omega (arith, h.n_windows.own.1)) in
        let so : TakesSo l x false l.controller.took (up_with e w) = grind arith in
        took_is ts xs so (becomes_none 0 ts next (up_with e w) (let P : EndState → Type 0 = λ v. SafeAt 0 0 next v in subst P (rw h.n_due refl) s))

-- ## Whole events

-- a frame of activation is passed over
pub passes_act : (e : EndState) (c : Control) → is_act c ≡ true → (taken e c ≡ e) × (is_some (take_answer e c).ended ≡ false)
passes_act e c a = grind arith

pub act_not_rset : (c : Control) → is_act c ≡ true → is_rset c ≡ false
act_not_rset c a = grind arith

delivers : (ts : List ShdlcTurn) (l : ShdlcLink) → SafeLink 0 0 l → SafeLink 0 0 (shdlc_happens_at_controller l (Deliver ts))
delivers ts l h = go l.to_controller h
  where
    first : (x : OnWire) (xs : List OnWire) (b : Bool) → is_act x.frame ≡ b → Safe 0 0 l.controller l.host (sans (x ∷ xs)) (sans l.to_host) l.resets
        → SafeLink 0 0 (took (record l { to_controller = x ∷ xs }) ts x xs)
    first x xs false q g = takes ts (record l { to_controller = x ∷ xs }) x xs (rw q at g)
    first x xs true q g =
        let so : TakesSo (record l { to_controller = x ∷ xs }) x false l.controller.took l.controller.side = grind arith in
        took_is ts xs so (becomes_none 0 ts (record l { to_controller = xs }) l.controller.side (rw q at g))

    go : (wire : List OnWire) → Safe 0 0 l.controller l.host (sans wire) (sans l.to_host) l.resets
        → SafeLink 0 0 (shdlc_happens_at_controller (record l { to_controller = wire }) (Deliver ts))
    go [] g = g
    go (x ∷ xs) g = first x xs (is_act x.frame) refl g

loses : (l : ShdlcLink) → SafeLink 0 0 l → SafeLink 0 0 (shdlc_happens_at_controller l Lose)
loses l h = go l.to_controller h
  where
    first : (x : OnWire) (xs : List OnWire) (b : Bool) → is_act x.frame ≡ b → Safe 0 0 l.controller l.host (sans (x ∷ xs)) (sans l.to_host) l.resets
        → SafeLink 0 0 (record l { to_controller = xs })
    first x xs true q g = rw q at g
    first x xs false q g = safe_lose (rw q at g)

    go : (wire : List OnWire) → Safe 0 0 l.controller l.host (sans wire) (sans l.to_host) l.resets
        → SafeLink 0 0 (shdlc_happens_at_controller (record l { to_controller = wire }) Lose)
    go [] g = g
    go (x ∷ xs) g = first x xs (is_act x.frame) refl g

-- an end that is Down has taken a frame, and its RSET counts
pub counts : (l : ShdlcLink) (x : OnWire) (xs : List OnWire)
    → l.controller.side.phase ≡ Down → Safe 0 0 l.controller l.host (sans (x ∷ xs)) (sans l.to_host) l.resets
    → Safe 0 0 (record l.controller { took = took_with l.controller.took x }) l.host (sans xs) (sans l.to_host) l.resets
counts l x xs down g =
    by_test (is_act x.frame) (λ q. rw (took_other l.controller.took x (act_not_rset x.frame q)) (rw q at g)) (λ q. frame (rw q at g) (frame_cases x))
  where
    frame : Safe 0 0 l.controller l.host (x ∷ sans xs) (sans l.to_host) l.resets
        → IsData x.frame ⊎ (IsRset x ⊎ (x.frame ≡ Ua))
        → Safe 0 0 (record l.controller { took = took_with l.controller.took x }) l.host (sans xs) (sans l.to_host) l.resets
    frame k (inl d) = rw (took_other l.controller.took x (not_rset x.frame (inl d))) (safe_lose k)
    frame k (inr (inr u)) = rw (took_other l.controller.took x (not_rset x.frame (inr u))) (safe_lose k)
    frame k (inr (inl s)) =
        rw (took_rset l s (rset_told k.hand s).number k.hand.n_took) (safe_ignore s down k)

ignores : (ts : List ShdlcTurn) (l : ShdlcLink) → SafeLink 0 0 l → SafeLink 0 0 (shdlc_happens_at_controller l (Ignore ts))
ignores ts l h = go l.controller.side.phase refl l.to_controller refl
  where
    by_parts : (m : ShdlcLink) → shdlc_happens_at_controller l (Ignore ts) ≡ m → SafeLink 0 0 m → SafeLink 0 0 (shdlc_happens_at_controller l (Ignore ts))
    by_parts m q g = let P : ShdlcLink → Type 0 = λ k. SafeLink 0 0 k in subst P (sym q) g

    go : (p : LinkState) → l.controller.side.phase ≡ p → (wire : List OnWire) → l.to_controller ≡ wire
        → SafeLink 0 0 (shdlc_happens_at_controller l (Ignore ts))
    go Down q [] w = by_parts l (rw (q, w) refl) h
    go Down q (x ∷ xs) w =
        let P : List OnWire → Type 0 = λ v. Safe 0 0 l.controller l.host (sans v) (sans l.to_host) l.resets in
        let m : ShdlcLink = record l { to_controller = xs; controller = record l.controller { took = took_with l.controller.took x } } in
        by_parts (shdlc_becomes m (shdlc_turned l.controller.side ts)) (rw (q, w) refl) (becomes_none 0 ts m l.controller.side (counts l x xs q (subst P w h)))
    go _ q wire w = by_parts l (rw q refl) h

-- frames of activation stand beside the others
pub acts_keep : (kf : ℕ) (acts : List Activation) (l : ShdlcLink) → SafeLink 0 kf l → SafeAt 0 kf (shdlc_put_all l (map act_frame acts)) l.controller.side
acts_keep kf [] l h = h
acts_keep kf (a ∷ acts) l h =
    let x : OnWire = record { frame = act_frame a; age = 0; number = 0 } in
    let P : List OnWire → Type 0 = λ v. Safe 0 kf l.controller l.host (sans l.to_controller) v l.resets in
    acts_keep kf acts (shdlc_put l (act_frame a))
    (fits_keeps (l.to_host ++ x ∷ []) (subst P (sym (sans-push_act l.to_host x refl)) h))

pub safe_here : (l : ShdlcLink) (e : ShdlcEndEvent) → IsShdlcAllowed e → SafeLink 0 0 l → SafeLink 0 0 (shdlc_happens_at_controller l e)
safe_here l (Turns ts) a h = becomes_none 0 ts l l.controller.side h
safe_here l (Deliver ts) a h = delivers ts l h
safe_here l (Ignore ts) a h = ignores ts l h
safe_here l (Acts acts ts) a h = becomes_none 0 ts (shdlc_put_all l (map act_frame acts)) l.controller.side (acts_keep 0 acts l h)
safe_here l Lose a h = loses l h
safe_here l (Reset w ts) a h = resets 0 ts l w a h
safe_here l Cut a h = cuts 0 0 l h
safe_here l Stop a h = stops 0 0 l h

-- what the turns of a node do, also where the other end has its tick still to come
pub safe_turn : (kf : ℕ) (l : ShdlcLink) (e : ShdlcEndEvent) → IsTurn e → SafeLink 0 kf l → SafeLink 0 kf (shdlc_happens_at_controller l e)
safe_turn kf l (Turns ts) a h = becomes_none kf ts l l.controller.side h
safe_turn kf l (Acts acts ts) a h = becomes_none kf ts (shdlc_put_all l (map act_frame acts)) l.controller.side (acts_keep kf acts l h)
safe_turn kf l (Reset w ts) a h = resets kf ts l w a h
safe_turn kf l Cut a h = cuts 0 kf l h
safe_turn kf l Stop a h = stops 0 kf l h
safe_turn kf l _ a h = absurd a

pub safe_turns : (kf : ℕ) (es : List ShdlcEndEvent) (l : ShdlcLink) → AreTurns es → SafeLink 0 kf l → SafeLink 0 kf (shdlc_all_at_controller l es)
safe_turns kf [] l a h = h
safe_turns kf (e ∷ es) l a h = safe_turns kf es (shdlc_happens_at_controller l e) a.1 (safe_turn kf l e a.0 h)

pub safe_exchanged : (kn kf : ℕ) (l : ShdlcLink) → SafeLink kn kf l → SafeLink kf kn (shdlc_exchanged l)
safe_exchanged kn kf l h = safe_swap h

-- what is left of a wire once the frames that are too old are lost
abbrev pub fresh : List OnWire → List OnWire
fresh [] = []
fresh (x ∷ xs) = cond (nat_lt x.age 4) (x ∷ xs) (fresh xs)

aged_young : (w : List OnWire) (b : ℕ) → b < 4 → Young b w → aged_wire w ≡ older w
aged_young [] b i y = refl
aged_young (x ∷ xs) b i y =
    by_test {P = aged_wire (x ∷ xs) ≡ older (x ∷ xs)} (nat_lt x.age 4)
    (λ q. rw q (ap (λ v. record x { age = x.age + 1 } ∷ v) (aged_young xs x.age (omega (arith, i, y.0)) y.1)))
    (λ q. absurd (let g = ltb-false x.age 4 q in omega (arith, g, i, y.0)))

pub aged-fresh : (w : List OnWire) → Young 4 w → (aged_wire w ≡ older (fresh w)) × Young 4 (older (fresh w))
aged-fresh [] y = (refl, tt)
aged-fresh (x ∷ xs) y =
    by_test {P = (aged_wire (x ∷ xs) ≡ older (fresh (x ∷ xs))) × Young 4 (older (fresh (x ∷ xs)))} (nat_lt x.age 4) (λ q.
    let i : x.age < 4 = ltb-true x.age 4 q in
    (rw q (ap (λ v. record x { age = x.age + 1 } ∷ v) (aged_young xs x.age i y.1)), rw q (omega (arith, i), young_older x.age xs y.1)))
    (λ q. (rw q (aged-fresh xs (young_later x.age 4 xs y.0 y.1)).0, rw q (aged-fresh xs (young_later x.age 4 xs y.0 y.1)).1))

pub sans-aged : (w : List OnWire) → sans (aged_wire w) ≡ aged_wire (sans w)
sans-aged [] = refl
sans-aged (x ∷ xs) = let h0 = sans-aged xs in grind arith

pub safe_fresh : {n f : NumberedShdlc} (to_n : List OnWire) {to_f : List OnWire} {r : ℕ} → Safe 0 0 n f to_n to_f r → Safe 0 0 n f (fresh to_n) to_f r
safe_fresh [] h = h
safe_fresh {n} {f} (x ∷ xs) {to_f} {r} h = let h0 = safe_fresh xs (safe_lose h) in grind arith

pub safe_aged : (l : ShdlcLink) → SafeLink 0 0 l → SafeLink 1 1 (shdlc_aged l)
safe_aged l h =
    let near = aged-fresh (sans l.to_controller) h.hand.n_young in
    let far = aged-fresh (sans l.to_host) h.hand.f_young in
    rw (sans-aged l.to_controller ∙ near.0, sans-aged l.to_host ∙ far.0)
    (safe_older near.1 far.1 (safe_swap (safe_fresh (sans l.to_host) (safe_swap (safe_fresh (sans l.to_controller) h)))))

pub tick_or_cut : (kf : ℕ) (b : Option (List ShdlcTurn)) (l : ShdlcLink) → SafeLink 1 kf l → SafeLink 0 kf (ticks_or_cut b l)
tick_or_cut kf (Some ts) l h = ticks kf ts l h
tick_or_cut kf None l h = cuts 1 kf l h

pub tick_if_waiting : (kf : ℕ) (l : ShdlcLink) → SafeLink 1 kf l → SafeLink 0 kf (ticks_if_waiting l)
tick_if_waiting kf l h = by_test (is_waiting l.controller.side) (λ q. rw q (ticks kf [] l h)) (λ q. rw q (grind arith))

-- a tick of the host's end, where these things have happened at the controller's
ticked_there : (turns : List ShdlcEndEvent) (d : Option (List ShdlcTurn)) (near : ShdlcLink) → AreTurns turns → SafeLink 0 1 near
    → SafeLink 0 0 (shdlc_exchanged (ticks_or_cut d (shdlc_exchanged (shdlc_all_at_controller near turns))))
ticked_there turns d near a one =
    let m : ShdlcLink = shdlc_exchanged (shdlc_all_at_controller near turns) in
    safe_exchanged 0 0 (ticks_or_cut d m) (tick_or_cut 0 d m (safe_exchanged 0 1 (shdlc_all_at_controller near turns) (safe_turns 1 turns near a one)))

pub safe_event : (l : ShdlcLink) (e : ShdlcLinkEvent) (es : List ShdlcLinkEvent) → AllShdlcAllowed (e ∷ es) → SafeLink 0 0 l
    → SafeLink 0 0 (shdlc_happens l e) × AllShdlcAllowed es
safe_event l (AtController e) es a h = (safe_here l e a.0 h, a.1)
safe_event l (AtHost e) es a h =
    (safe_exchanged 0 0 (shdlc_happens_at_controller (shdlc_exchanged l) e) (safe_here (shdlc_exchanged l) e a.0 (safe_exchanged 0 0 l h)), a.1)
safe_event l (Tick c turns d) es a h =
    (ticked_there turns d (ticks_or_cut c (shdlc_aged l)) a.0 (tick_or_cut 1 c (shdlc_aged l) (safe_aged l h)), a.1)
safe_event l (TickWithout turns d) es a h =
    (ticked_there turns d (ticks_if_waiting (shdlc_aged l)) a.0 (tick_if_waiting 1 (shdlc_aged l) (safe_aged l h)), a.1)

safe_after : (events : List ShdlcLinkEvent) (l : ShdlcLink) → AllShdlcAllowed events → SafeLink 0 0 l → SafeLink 0 0 (shdlc_after l events)
safe_after [] l a h = h
safe_after (e ∷ es) l a h = let s = safe_event l e es a h in safe_after es (shdlc_happens l e) s.1 s.0

pub safe_start : (l : ShdlcLink) → IsShdlcStart l → SafeLink 0 0 l
safe_start l a = grind arith

pub safe : (l : ShdlcLink) → IsShdlcStart l → (events : List ShdlcLinkEvent) → AllShdlcAllowed events → SafeLink 0 0 (shdlc_after l events)
safe l s events a = safe_after events l a (safe_start l s)

-- ## What follows

in_order : (s r : Session) → Base s r → FragmentsInOrder s r
in_order s r b = record { front = b.front; acked = b.acked; offered = omega (arith, b.from, b.sent, b.offered) }

pub in_order_here : (l : ShdlcLink) → IsShdlcStart l → (events : List ShdlcLinkEvent) → AllShdlcAllowed events → (n : ℕ)
    → FragmentsInOrder (shdlc_session_of (shdlc_after l events).controller n) (shdlc_session_of (shdlc_after l events).host n)
in_order_here l s events a n =
    let m = shdlc_after l events in
    in_order (shdlc_session_of m.controller n) (shdlc_session_of m.host n) ((safe l s events a).n_base n)

pub in_order_there : (l : ShdlcLink) → IsShdlcStart l → (events : List ShdlcLinkEvent) → AllShdlcAllowed events → (n : ℕ)
    → FragmentsInOrder (shdlc_session_of (shdlc_after l events).host n) (shdlc_session_of (shdlc_after l events).controller n)
in_order_there l s events a n =
    let m = shdlc_after l events in
    in_order (shdlc_session_of m.host n) (shdlc_session_of m.controller n) ((safe l s events a).f_base n)

pub agree : (l : ShdlcLink) → IsShdlcStart l → (events : List ShdlcLinkEvent) → AllShdlcAllowed events
    → (shdlc_after l events).controller.side.phase ≡ Up → (shdlc_after l events).host.side.phase ≡ Up
    → shdlc_number_of (shdlc_after l events).controller ≡ shdlc_number_of (shdlc_after l events).host
agree l s events a p q = let h0 = safe l s events a in grind arith

-- the session that goes on has a number that no ended one has
new_number : (h : NumberedShdlc) → h.side.phase ≡ Up → Below (bound h) h.past → ended_session h.past (shdlc_number_of h) ≡ no_session
new_number h up b = none_ended (shdlc_number_of h) (shdlc_number_of h) h.past (omega arith) (rw up at b)

pub new_number_here : (l : ShdlcLink) → IsShdlcStart l → (events : List ShdlcLinkEvent) → AllShdlcAllowed events
    → (shdlc_after l events).controller.side.phase ≡ Up
    → ended_session (shdlc_after l events).controller.past (shdlc_number_of (shdlc_after l events).controller) ≡ no_session
new_number_here l s events a up = new_number (shdlc_after l events).controller up (safe l s events a).n_past

pub new_number_there : (l : ShdlcLink) → IsShdlcStart l → (events : List ShdlcLinkEvent) → AllShdlcAllowed events → (shdlc_after l events).host.side.phase ≡ Up
    → ended_session (shdlc_after l events).host.past (shdlc_number_of (shdlc_after l events).host) ≡ no_session
new_number_there l s events a up = new_number (shdlc_after l events).host up (safe l s events a).f_past

-- events happen one after another
pub after-append : (l : ShdlcLink) (events later : List ShdlcLinkEvent) → shdlc_after l (events ++ later) ≡ shdlc_after (shdlc_after l events) later
after-append l [] later = refl
after-append l (e ∷ events) later = after-append (shdlc_happens l e) events later
