-- The tap hears all frames of every run of a link over fragments: it knows both ends, and tells what they got.
use Rattle.world_laws.proofs.Words.{Act, Activation, Acts, AllKeepPower, AllShdlcAllowed, AreTurns, Below, Bool, Control, Down, EndState, HasItsTick, Ignore}
use Rattle.world_laws.proofs.Words.{IsShdlcStart, IsTrackedBy, IsTurn, KeepsPower, LinkState, List, None, NoneIsCut, NothingIsOut, NumberedShdlc, OnWire}
use Rattle.world_laws.proofs.Words.{Option, Rset, Rset_due, Safe, SafeLink, Session, ShdlcEndEvent, ShdlcLink, ShdlcLinkEvent, ShdlcTurn, Some, StartsSo}
use Rattle.world_laws.proofs.Words.{TapReport, TapSide, TapState, TickWithout, Turns, Up, Waiting, [], act_frame, act_not_rset, aged_wire, ap, append_assoc}
use Rattle.world_laws.proofs.Words.{arith, asked_again, by_test, counts, emitted, emitted_event, emitted_here, emitted_if_waiting, emitted_tick, emitted_turns}
use Rattle.world_laws.proofs.Words.{false, frames_by, given_up, got, got_event, got_here, hears_all, idle_out, inl, inr, is_act, is_rset, is_some, is_up}
use Rattle.world_laws.proofs.Words.{is_waiting, ltb-false, map, map-append, nat_lt, new_tap, no_session, nothing_out, passes_act, refl, reports_to, reset_with}
use Rattle.world_laws.proofs.Words.{runs_timer, safe_aged, safe_event, safe_exchanged, safe_start, safe_turn, safe_turns, sans, sent_again, sent_then}
use Rattle.world_laws.proofs.Words.{shdlc_after, shdlc_aged, shdlc_all_at_controller, shdlc_becomes, shdlc_exchanged, shdlc_happens}
use Rattle.world_laws.proofs.Words.{shdlc_happens_at_controller, shdlc_number_of, shdlc_put, shdlc_put_all, shdlc_ticks_at_controller, shdlc_turned, stopped}
use Rattle.world_laws.proofs.Words.{subst, sym, take_answer, taken, tap_after, tap_after_frame, tap_exchanged, tap_hears, tap_reports, tap_tells, tapped}
use Rattle.world_laws.proofs.Words.{tapped_from, tells_all, tick_answer, tick_if_waiting, tick_or_cut, ticked, ticks_if_waiting, ticks_or_cut, took_other}
use Rattle.world_laws.proofs.Words.{took_with, true, waiting_from, with_shdlc_ended, ℕ, ◌++◌, ◌+◌, ◌∙◌, ◌∷◌, ◌≡◌, ◌≤◌, ◌⊎◌}
use Rattle.link_laws.proofs.sessions.Steps.{took}
use Rattle.link_laws.specs.sessions.Sessions.ShdlcEndEvent.{Cut, Deliver, Lose, Reset, Stop}
use Rattle.link_laws.specs.sessions.Sessions.ShdlcLinkEvent.{AtController, AtHost, Tick}
use Rattle.world_laws.proofs.fragments.Going.{Alike, GoesAt, Knows, KnowsLink, Tracks, Went, goes_of}
use Rattle.world_laws.proofs.fragments.Going.{hears_all-append, knows_wire, tells_all-append, went_none, went_one}
use Rattle.world_laws.proofs.fragments.Taking.{Heard, got_now, knows_rset, takes_heard}
use Rattle.world_laws.proofs.fragments.Wires.{NoUa, no_ua-aged, no_ua-from}

-- ## What the tap knows after whatever happens at the controller's end

-- what the tap knows after this at the controller's end
abbrev HeardHere : Bool → TapState → ShdlcLink → ShdlcEndEvent → Type 0
HeardHere bare t l e = Heard bare t (shdlc_happens_at_controller l e) (emitted_here l e) (got_here l e)

-- ### It takes a frame

deliver_heard : (bare : Bool) (t : TapState) (ts : List ShdlcTurn) (l : ShdlcLink) → SafeLink 0 0 l → KnowsLink bare t l → HeardHere bare t l (Deliver ts)
deliver_heard bare t ts l s h = go l.to_controller s h
  where
    at : List OnWire → ShdlcLink
    at w = record l { to_controller = w }

    first : (x : OnWire) (xs : List OnWire) (b : Bool) → is_act x.frame ≡ b → SafeLink 0 0 (at (x ∷ xs)) → KnowsLink bare t (at (x ∷ xs))
        → Heard bare t (took (at (x ∷ xs)) ts x xs) (sent_then (taken l.controller.side x.frame) ts) (got_now (at (x ∷ xs)) x)
    first x xs false q s h = takes_heard bare t ts (at (x ∷ xs)) x xs (rw q at s) h
    first x xs true q s h =
        let p = passes_act l.controller.side x.frame q in
        let number : took_with l.controller.took x ≡ l.controller.took = took_other l.controller.took x (act_not_rset x.frame q) in
        let w = went_none bare t ts (at xs) l.controller.side s.n_due (grind arith) in
        record { knows = rw (p.1, number, p.0) w.knows; tells = rw (p.0, (act_none x.frame q)) w.tells }
      where
        act_none : (c : Control) → is_act c ≡ true → (take_answer l.controller.side c).accepted ≡ None
        act_none (Act a b) q = by l.controller.side.phase refl
          where
            by : (p : LinkState) → l.controller.side.phase ≡ p → (take_answer l.controller.side (Act a b)).accepted ≡ None
            by Up p = rw p refl
            by _ p = rw p refl
        act_none _ q = absurd (let z : false ≡ true = q in cc)

    go : (w : List OnWire) → SafeLink 0 0 (at w) → KnowsLink bare t (at w) → HeardHere bare t (at w) (Deliver ts)
    go [] s h = record { knows = h; tells = refl }
    go (x ∷ xs) s h = let a = first x xs (is_act x.frame) refl s h in record { knows = a.knows; tells = a.tells }

ignore_is : (l : ShdlcLink) (ts : List ShdlcTurn) (x : OnWire) (xs : List OnWire) → l.controller.side.phase ≡ Down → l.to_controller ≡ x ∷ xs
    → shdlc_happens_at_controller l (Ignore ts)
    ≡ shdlc_becomes (record l { to_controller = xs; controller = record l.controller { took = took_with l.controller.took x } })
    (shdlc_turned l.controller.side ts)
ignore_is l ts x xs p q = rw (p, q) refl

-- an end that is Down passes over a frame, but for the number of an RSET
ignore_heard : (bare : Bool) (t : TapState) (ts : List ShdlcTurn) (l : ShdlcLink) → SafeLink 0 0 l → KnowsLink bare t l → HeardHere bare t l (Ignore ts)
ignore_heard bare t ts l s h = go l.controller.side.phase refl l.to_controller refl
  where
    n : NumberedShdlc
    n = l.controller

    by_parts : (m : ShdlcLink) (cs : List Control) → shdlc_happens_at_controller l (Ignore ts) ≡ m → emitted_here l (Ignore ts) ≡ cs → Heard bare t m cs []
        → HeardHere bare t l (Ignore ts)
    by_parts m cs p q a = record { knows = rw (p, q) a.knows; tells = rw q a.tells }

    same : Heard bare t l [] []
    same = record { knows = h; tells = refl }

    down : n.side.phase ≡ Down → (x : OnWire) (xs : List OnWire) → l.to_controller ≡ x ∷ xs
        → Went bare t (record l { to_controller = xs; controller = record n { took = took_with n.took x } }) (shdlc_turned n.side ts) []
    down q x xs w =
        let m : NumberedShdlc = record n { took = took_with n.took x } in
        let k : ShdlcLink = record l { to_controller = xs; controller = m } in
        let c = counts l x xs q (subst (λ v. Safe 0 0 n l.host (sans v) (sans l.to_host) l.resets) w s) in
        went_none bare t ts k n.side s.n_due (grind arith)
      where
        left : (x : OnWire) (xs : List OnWire) → NoUa (x ∷ xs) ⊎ (n.emitted ≤ t.uicc.number) → NoUa xs ⊎ (n.emitted ≤ t.uicc.number)
        left x xs (inl z) = inl (grind arith)
        left x xs (inr z) = inr z

        grows : (x : OnWire) → n.took ≤ took_with n.took x
        grows x = by_test (is_rset x.frame) (λ q. rw q (omega arith)) (λ q. rw q (omega arith))

    go : (p : LinkState) → n.side.phase ≡ p → (w : List OnWire) → l.to_controller ≡ w → HeardHere bare t l (Ignore ts)
    go Up q w p = by_parts l [] (rw q refl) (rw q refl) same
    go Waiting q w p = by_parts l [] (rw q refl) (rw q refl) same
    go Down q [] p = by_parts l [] (rw (q, p) refl) (rw (q, p) refl) same
    go Down q (x ∷ xs) p =
        let k : ShdlcLink = record l { to_controller = xs; controller = record n { took = took_with n.took x } } in
        by_parts (shdlc_becomes k (shdlc_turned n.side ts)) (sent_then n.side ts) (ignore_is l ts x xs q p) (rw (q, p) refl)
        (let h0 = shdlc_turned n.side ts in let h1 = down q x xs p in grind arith)

-- ### Frames of activation

acts_go : (bare : Bool) (t : TapState) (acts : List Activation) (l : ShdlcLink) (e : EndState) → GoesAt bare t l e
    → GoesAt bare (hears_all bare t (map act_frame acts)) (shdlc_put_all l (map act_frame acts)) e × (tells_all bare t (map act_frame acts) ≡ [])
acts_go bare t [] l e g = (g, refl)
acts_go bare t (a ∷ acts) l e g =
    acts_go bare t acts (shdlc_put l (act_frame a)) e
    (record { knows = knows_wire (record { frame = act_frame a; age = 0; number = 0 }) refl g.knows; sends = g.sends; none = g.none })

acts_heard : {kf : ℕ} (bare : Bool) (t : TapState) (acts : List Activation) (ts : List ShdlcTurn) (l : ShdlcLink) → SafeLink 0 kf l → KnowsLink bare t l
    → HeardHere bare t l (Acts acts ts)
acts_heard bare t acts ts l s h =
    let bs : List Control = map act_frame acts in
    let cs : List Control = sent_then l.controller.side ts in
    let g = acts_go bare t acts l l.controller.side (goes_of l s h) in
    let w = went_none bare (hears_all bare t bs) ts (shdlc_put_all l bs) l.controller.side s.n_due g.0 in
    record {
      knows = rw (hears_all-append bare t bs cs) w.knows;
      tells = tells_all-append bare t bs cs ∙ (ap (λ z. z ++ tells_all bare (hears_all bare t bs) cs) g.1 ∙ w.tells);
    }

-- ### It sends an RSET and waits

-- the end has become q, which waits, and its sessions are these
goes_rset : {bare : Bool} {t : TapState} {kn kf : ℕ} (l : ShdlcLink) (q : EndState) (past : List (ℕ × Session)) (w c : ℕ) → q.phase ≡ Waiting
    → q.session ≡ no_session
    → Alike l.controller (record { side = q; emitted = l.resets + 1; took = l.controller.took; past = past }) → Below (t.clf.number + 1) past
    → NothingIsOut (sans l.to_controller) (sans l.to_host) → SafeLink kn kf l → KnowsLink bare t l
    → GoesAt bare (tap_hears bare t (Rset w c)) (shdlc_put (record l { controller = record l.controller { past = past } }) (Rset w c)) q
goes_rset l q past w c waits none alike below out s h =
    record {
      knows = knows_rset (record { frame = Rset w c; age = 0; number = l.resets + 1 }) w c refl (record {
        alike = alike;
        waits = waits;
        emitted = refl;
        took = refl;
        past = below;
        no_ua = no_ua-from l.to_controller out.no_ua;
        bound = s.hand.n_bound;
        far_bound = s.hand.f_bound;
      }) h;
      sends = λ u. absurd (let e = sym waits ∙ u in cc);
      none = λ _. none;
    }

-- an end that was Up: its session is kept
up_asks : {bare : Bool} {t : TapState} {kn kf : ℕ} (ts : List ShdlcTurn) (l : ShdlcLink) (e : EndState) → l.controller.side.phase ≡ Up → e.phase ≡ Up
    → SafeLink kn kf l → KnowsLink bare t l → Went bare t (with_shdlc_ended l true) (shdlc_turned (waiting_from e) ts) []
up_asks {bare} {t} ts l e up eup s h =
    let n : NumberedShdlc = l.controller in
    let past : List (ℕ × Session) = (shdlc_number_of n, n.side.session) ∷ n.past in
    let q : EndState = record (waiting_from e) { due = [] } in
    let m : NumberedShdlc = record { side = q; emitted = l.resets + 1; took = n.took; past = past } in
    let alike : Alike n m = grind arith in
    let out : NothingIsOut (sans l.to_controller) (sans l.to_host) = idle_out s.hand (λ w. let y = sym up ∙ w in cc) in
    went_one bare t ts (with_shdlc_ended l true) (waiting_from e) Rset_due [] (rw eup refl)
    (goes_rset l q past e.own_window 0 refl refl alike (omega (arith, (h.near.now (λ d. let y = sym up ∙ d in cc))), h.near.past) out s h) refl

-- one that was not
idle_asks : {bare : Bool} {t : TapState} {kn kf : ℕ} (ts : List ShdlcTurn) (l : ShdlcLink) (q : EndState) → (l.controller.side.phase ≡ Up → ⊥)
    → q.phase ≡ Waiting → q.session ≡ no_session → q.due ≡ Rset_due ∷ [] → NothingIsOut (sans l.to_controller) (sans l.to_host)
    → SafeLink kn kf l → KnowsLink bare t l → Went bare t l (shdlc_turned q ts) []
idle_asks {bare} {t} ts l q no_up waits none due out s h =
    let n : NumberedShdlc = l.controller in
    let v : EndState = record q { due = [] } in
    let m : NumberedShdlc = record { side = v; emitted = l.resets + 1; took = n.took; past = n.past } in
    went_one bare t ts l q Rset_due [] due (goes_rset l v n.past q.own_window 0 waits none (grind arith) h.near.past out s h) refl

reset_heard : {kf : ℕ} (bare : Bool) (t : TapState) (ts : List ShdlcTurn) (l : ShdlcLink) (w : ℕ) → SafeLink 0 kf l → KnowsLink bare t l
    → HeardHere bare t l (Reset w ts)
reset_heard {kf} bare t ts l w s h = go l.controller.side.phase refl
  where
    side : EndState
    side = l.controller.side

    e : EndState
    e = record side { own_window = w }

    by_parts : (b : Bool) (q : EndState) → is_up side.phase ≡ b → reset_with side w ≡ q → Went bare t (with_shdlc_ended l b) (shdlc_turned q ts) []
        → HeardHere bare t l (Reset w ts)
    by_parts b q up is a = record { knows = rw (up, is) a.knows; tells = rw is a.tells }

    go : (p : LinkState) → side.phase ≡ p → HeardHere bare t l (Reset w ts)
    go Waiting q = by_parts false side (rw q refl) (rw q refl) (went_none bare t ts l side s.n_due (goes_of l s h))
    go Up q = by_parts true (waiting_from e) (rw q refl) (rw q refl) (up_asks ts l e q q s h)
    go Down q =
        by_parts false (waiting_from e) (rw q refl) (rw q refl)
        (idle_asks ts l (waiting_from e) (λ u. let y = sym q ∙ u in cc) refl refl (rw (q, s.n_due) refl) (idle_out s.hand (λ v. let y = sym q ∙ v in cc)) s h)

-- ### It is stopped

stop_heard : {kn kf : ℕ} (bare : Bool) (t : TapState) (l : ShdlcLink) → SafeLink kn kf l → KnowsLink bare t l → HeardHere bare t l Stop
stop_heard bare t l s h = record { knows = grind arith; tells = refl }
  where
    n : NumberedShdlc
    n = l.controller

    made : (past : List (ℕ × Session)) → Alike n (record n { side = (stopped n.side); past = past }) → Below (t.clf.number + 1) past
        → Knows bare t (record n { side = (stopped n.side); past = past }) l.host [] [] l.resets
    made past alike below = grind arith

    no : (u : Down ≡ Up) → ⊥
    no u = cc

-- ### Turns and losses

turns_heard_of_events : {kf : ℕ} (bare : Bool) (t : TapState) (ts : List ShdlcTurn) (l : ShdlcLink) → SafeLink 0 kf l → KnowsLink bare t l
    → HeardHere bare t l (Turns ts)
turns_heard_of_events bare t ts l s h =
    let h0 = shdlc_turned l.controller.side ts in let h1 = went_none bare t ts l l.controller.side s.n_due (goes_of l s h) in grind arith

-- whatever happens at the controller's end
here_heard : (bare : Bool) (t : TapState) (l : ShdlcLink) (e : ShdlcEndEvent) → KeepsPower e → SafeLink 0 0 l → KnowsLink bare t l → HeardHere bare t l e
here_heard bare t l (Turns ts) a s h = turns_heard_of_events bare t ts l s h
here_heard bare t l (Deliver ts) a s h = deliver_heard bare t ts l s h
here_heard bare t l (Ignore ts) a s h = ignore_heard bare t ts l s h
here_heard bare t l (Acts acts ts) a s h = acts_heard bare t acts ts l s h
here_heard bare t l Lose a s h = grind arith
here_heard bare t l (Reset w ts) a s h = reset_heard bare t ts l w s h
here_heard bare t l Cut a s h = absurd a
here_heard bare t l Stop a s h = stop_heard bare t l s h

-- whatever its node's turns do
turn_heard : {kf : ℕ} (bare : Bool) (t : TapState) (l : ShdlcLink) (e : ShdlcEndEvent) → IsTurn e → KeepsPower e → SafeLink 0 kf l
    → KnowsLink bare t l → Heard bare t (shdlc_happens_at_controller l e) (emitted_here l e) []
turn_heard bare t l (Turns ts) i a s h = turns_heard_of_events bare t ts l s h
turn_heard bare t l (Acts acts ts) i a s h = acts_heard bare t acts ts l s h
turn_heard bare t l (Reset w ts) i a s h = reset_heard bare t ts l w s h
turn_heard bare t l Cut i a s h = absurd a
turn_heard bare t l Stop i a s h = stop_heard bare t l s h
turn_heard bare t l _ i a s h = absurd i

-- ### Its tick

tick_heard : {kf : ℕ} (bare : Bool) (t : TapState) (ts : List ShdlcTurn) (l : ShdlcLink) → SafeLink 1 kf l → KnowsLink bare t l
    → Heard bare t (shdlc_ticks_at_controller l ts) (emitted_tick l (Some ts)) []
tick_heard {kf} bare t ts l s h = go e.phase (runs_timer e.session) (nat_lt (e.timer + 1) 10) (nat_lt e.tries 5) refl refl refl refl
  where
    e : EndState
    e = l.controller.side

    Goal : Type 0
    Goal = Heard bare t (shdlc_ticks_at_controller l ts) (emitted_tick l (Some ts)) []

    by_parts : (q : EndState) (b : Bool) → ticked e ≡ q → is_some (tick_answer e).ended ≡ b → Went bare t (with_shdlc_ended l b) (shdlc_turned q ts) [] → Goal
    by_parts q b p r w = record { knows = rw (p, r) w.knows; tells = rw p w.tells }

    again : e.phase ≡ Up → GoesAt bare t l (sent_again e)
    again up = grind arith

    late : nat_lt (e.timer + 1) 10 ≡ false → NothingIsOut (sans l.to_controller) (sans l.to_host)
    late r = nothing_out s.hand (let i = ltb-false (e.timer + 1) 10 r in omega (arith, i))

    go : (p : LinkState) (a b c : Bool) → e.phase ≡ p → runs_timer e.session ≡ a → nat_lt (e.timer + 1) 10 ≡ b → nat_lt e.tries 5 ≡ c → Goal
    go Down a b c p q r v = by_parts e false (rw p refl) (rw p refl) (went_none bare t ts l e s.n_due (goes_of l s h))
    go Up false b c p q r v = by_parts e false (rw (p, q) refl) (rw (p, q) refl) (went_none bare t ts l e s.n_due (goes_of l s h))
    go Up true true c p q r v =
        by_parts (record e { timer = e.timer + 1 }) false (rw (p, q, r) refl) (rw (p, q, r) refl)
        (went_none bare t ts l (record e { timer = e.timer + 1 }) s.n_due (grind arith))
    go Up true false true p q r v =
        by_parts (sent_again e) false (rw (p, q, r, v) refl) (rw (p, q, r, v) refl) (went_none bare t ts l (sent_again e) s.n_due (again p))
    go Up true false false p q r v =
        by_parts (waiting_from e) true (rw (p, q, r, v) refl) (rw (p, q, r, v) refl) (up_asks ts l e p p s h)
    go Waiting a true c p q r v =
        by_parts (record e { timer = e.timer + 1 }) false (rw (p, r) refl) (rw (p, r) refl)
        (went_none bare t ts l (record e { timer = e.timer + 1 }) s.n_due (grind arith))
    go Waiting a false true p q r v =
        let no_up : e.phase ≡ Up → ⊥ = λ u. let y = sym p ∙ u in cc in
        by_parts (asked_again e) false (rw (p, r, v) refl) (rw (p, r, v) refl)
        (idle_asks ts l (asked_again e) no_up p (s.n_none no_up) (rw s.n_due refl) (late r) s h)
    go Waiting a false false p q r v =
        let no_up : e.phase ≡ Up → ⊥ = λ u. let y = sym p ∙ u in cc in
        let d : EndState = given_up e in
        by_parts d false (rw (p, r, v) refl) (rw (p, r, v) refl) (went_none bare t ts l d s.n_due (grind arith))

-- ## The tap hears all frames of every run of a link over fragments: it knows both ends, and tells what they got

-- ### Frames of both sides

tap_after-append : (bare : Bool) (t : TapState) (fs gs : List (Bool × Control)) → tap_after bare t (fs ++ gs) ≡ tap_after bare (tap_after bare t fs) gs
tap_after-append bare t [] gs = refl
tap_after-append bare t (f ∷ fs) gs = tap_after-append bare (tap_after_frame bare t f.0 f.1) fs gs

tapped-append : (bare : Bool) (t : TapState) (fs gs : List (Bool × Control))
    → tapped_from bare t (fs ++ gs) ≡ tapped_from bare t fs ++ tapped_from bare (tap_after bare t fs) gs
tapped-append bare t [] gs = refl
tapped-append bare t (f ∷ fs) gs =
    let u : TapState = tap_after_frame bare t f.0 f.1 in
    ap (λ m. tap_reports bare t f.0 f.1 ++ m) (tapped-append bare u fs gs)
    ∙ sym (append_assoc (tap_reports bare t f.0 f.1) (tapped_from bare u fs) (tapped_from bare (tap_after bare u fs) gs))

reports-append : (b : Bool) (ms ns : List (ℕ × ℕ × List ℕ)) → reports_to b (ms ++ ns) ≡ reports_to b ms ++ reports_to b ns
reports-append b ms ns = map-append (λ m. record { to_clf = b; session = m.0; pipe = m.1; body = m.2 }) ms ns

near_after : (bare : Bool) (t : TapState) (cs : List Control) → tap_after bare t (frames_by true cs) ≡ hears_all bare t cs
near_after bare t [] = refl
near_after bare t (c ∷ cs) = near_after bare (tap_hears bare t c) cs

near_tapped : (bare : Bool) (t : TapState) (cs : List Control) → tapped_from bare t (frames_by true cs) ≡ reports_to true (tells_all bare t cs)
near_tapped bare t [] = refl
near_tapped bare t (c ∷ cs) =
    let u : TapState = tap_hears bare t c in
    ap (λ m. reports_to true (tap_tells bare t c) ++ m) (near_tapped bare u cs) ∙ sym (reports-append true (tap_tells bare t c) (tells_all bare u cs))

far_after : (bare : Bool) (t : TapState) (cs : List Control) → tap_after bare t (frames_by false cs) ≡ tap_exchanged (hears_all bare (tap_exchanged t) cs)
far_after bare t [] = refl
far_after bare t (c ∷ cs) = far_after bare (tap_exchanged (tap_hears bare (tap_exchanged t) c)) cs

far_tapped : (bare : Bool) (t : TapState) (cs : List Control) → tapped_from bare t (frames_by false cs)
    ≡ reports_to false (tells_all bare (tap_exchanged t) cs)
far_tapped bare t [] = refl
far_tapped bare t (c ∷ cs) =
    let v : TapState = tap_exchanged t in
    let u : TapState = tap_hears bare v c in
    ap (λ m. reports_to false (tap_tells bare v c) ++ m) (far_tapped bare (tap_exchanged u) cs)
    ∙ sym (reports-append false (tap_tells bare v c) (tells_all bare u cs))

-- what the tap knows of the link m after these frames, and what it reported over them
record HeardBoth (bare : Bool) (t : TapState) (m : ShdlcLink) (fs : List (Bool × Control)) (told : List TapReport) : Type 0 where
  pub knows : KnowsLink bare (tap_after bare t fs) m
  pub tells : tapped_from bare t fs ≡ told

knows_swap : {bare : Bool} {t : TapState} {n f : NumberedShdlc} {to_n to_f : List OnWire} {r : ℕ} → Knows bare t n f to_n to_f r
    → Knows bare (tap_exchanged t) f n to_f to_n r
knows_swap h = record { near = h.far; far = h.near; rsets = h.rsets }

near_both : {bare : Bool} {t : TapState} (m : ShdlcLink) (cs : List Control) (told : List (ℕ × ℕ × List ℕ)) → Heard bare t m cs told
    → HeardBoth bare t m (frames_by true cs) (reports_to true told)
near_both {bare} {t} m cs told h =
    let P : TapState → Type 0 = λ z. KnowsLink bare z m in
    record { knows = subst P (sym (near_after bare t cs)) h.knows; tells = near_tapped bare t cs ∙ ap (reports_to true) h.tells }

far_both : {bare : Bool} {t : TapState} (m : ShdlcLink) (cs : List Control) (told : List (ℕ × ℕ × List ℕ)) → Heard bare (tap_exchanged t) m cs told
    → HeardBoth bare t (shdlc_exchanged m) (frames_by false cs) (reports_to false told)
far_both {bare} {t} m cs told h =
    let P : TapState → Type 0 = λ z. KnowsLink bare z (shdlc_exchanged m) in
    record { knows = subst P (sym (far_after bare t cs)) (knows_swap h.knows); tells = far_tapped bare t cs ∙ ap (reports_to false) h.tells }

then_both : {bare : Bool} {t : TapState} (m k : ShdlcLink) (fs gs : List (Bool × Control)) (told more : List TapReport) → HeardBoth bare t m fs told
    → HeardBoth bare (tap_after bare t fs) k gs more → HeardBoth bare t k (fs ++ gs) (told ++ more)
then_both {bare} {t} m k fs gs told more a b =
    record {
      knows = subst (λ z. KnowsLink bare z k) (sym (tap_after-append bare t fs gs)) b.knows;
      tells = tapped-append bare t fs gs ∙ (ap (λ z. z ++ tapped_from bare (tap_after bare t fs) gs) a.tells ∙ ap (λ z. told ++ z) b.tells);
    }

-- ### Events

then_heard : {bare : Bool} {t : TapState} (m k : ShdlcLink) (cs ds : List Control) (told more : List (ℕ × ℕ × List ℕ)) → Heard bare t m cs told
    → Heard bare (hears_all bare t cs) k ds more → Heard bare t k (cs ++ ds) (told ++ more)
then_heard {bare} {t} m k cs ds told more a b =
    record {
      knows = subst (λ z. KnowsLink bare z k) (sym (hears_all-append bare t cs ds)) b.knows;
      tells = tells_all-append bare t cs ds ∙ (ap (λ z. z ++ tells_all bare (hears_all bare t cs) ds) a.tells ∙ ap (λ z. told ++ z) b.tells);
    }

turns_heard : {kf : ℕ} (bare : Bool) (t : TapState) (es : List ShdlcEndEvent) (l : ShdlcLink) → AreTurns es → AllKeepPower es → SafeLink 0 kf l
    → KnowsLink bare t l → Heard bare t (shdlc_all_at_controller l es) (emitted_turns l es) []
turns_heard bare t [] l i a s h = record { knows = h; tells = refl }
turns_heard {kf} bare t (e ∷ es) l i a s h =
    let m : ShdlcLink = shdlc_happens_at_controller l e in
    let one = turn_heard bare t l e i.0 a.0 s h in
    let more = turns_heard bare (hears_all bare t (emitted_here l e)) es m i.1 a.1 (safe_turn kf l e i.0 s) one.knows in
    then_heard m (shdlc_all_at_controller m es) (emitted_here l e) (emitted_turns m es) [] [] one more

knows_aged : {bare : Bool} {t : TapState} (l : ShdlcLink) → KnowsLink bare t l → KnowsLink bare t (shdlc_aged l)
knows_aged l h = record { near = aged h.near; far = aged h.far; rsets = h.rsets }
  where
    aged : {bare : Bool} {s u : TapSide} {n f : NumberedShdlc} {w : List OnWire} → Tracks bare s u n f w → Tracks bare s u n f (aged_wire w)
    aged {s = s} {u} {n} {w = w} h =
        (let h0 = (left h.told) in grind arith)
      where
        left : NoUa w ⊎ (n.emitted ≤ u.number) → NoUa (aged_wire w) ⊎ (n.emitted ≤ u.number)
        left (inl q) = inl (no_ua-aged w q)
        left (inr q) = inr q

tick_or_none : {kf : ℕ} (bare : Bool) (t : TapState) (c : Option (List ShdlcTurn)) (l : ShdlcLink) → HasItsTick c → SafeLink 1 kf l → KnowsLink bare t l
    → Heard bare t (ticks_or_cut c l) (emitted_tick l c) []
tick_or_none bare t None l a s h = absurd a
tick_or_none bare t (Some ts) l a s h = tick_heard bare t ts l s h

tick_waiting : {kf : ℕ} (bare : Bool) (t : TapState) (l : ShdlcLink) → SafeLink 1 kf l → KnowsLink bare t l
    → Heard bare t (ticks_if_waiting l) (emitted_if_waiting l) []
tick_waiting bare t l s h = by_test (is_waiting l.controller.side)
    (λ q. let k = tick_heard bare t [] l s h in record { knows = rw q k.knows; tells = rw q k.tells })
    (λ q. record { knows = rw q h; tells = rw q refl })

-- the tick of the host's end behind what happened at the controller's
rest_heard : (bare : Bool) (t : TapState) (first : List Control) (near : ShdlcLink) (turns : List ShdlcEndEvent) (d : Option (List ShdlcTurn)) → AreTurns turns
    → AllKeepPower turns → HasItsTick d → SafeLink 0 1 near → Heard bare t near first []
    → HeardBoth bare t (shdlc_exchanged (ticks_or_cut d (shdlc_exchanged (shdlc_all_at_controller near turns))))
    (frames_by true (first ++ emitted_turns near turns) ++ frames_by false (emitted_tick (shdlc_exchanged (shdlc_all_at_controller near turns)) d)) []
rest_heard bare t first near turns d i a p s h =
    let m : ShdlcLink = shdlc_all_at_controller near turns in
    let two = turns_heard bare (hears_all bare t first) turns near i a s h.knows in
    let one = near_both m (first ++ emitted_turns near turns) [] (then_heard near m first (emitted_turns near turns) [] [] h two) in
    let k : ShdlcLink = shdlc_exchanged m in
    let u : TapState = tap_after bare t (frames_by true (first ++ emitted_turns near turns)) in
    let three = tick_or_none bare (tap_exchanged u) d k p (safe_exchanged 0 1 m (safe_turns 1 turns near i s)) (knows_swap one.knows) in
    then_both m (shdlc_exchanged (ticks_or_cut d k)) (frames_by true (first ++ emitted_turns near turns)) (frames_by false (emitted_tick k d)) [] [] one
    (far_both (ticks_or_cut d k) (emitted_tick k d) [] three)

event_heard : (bare : Bool) (t : TapState) (l : ShdlcLink) (e : ShdlcLinkEvent) (es : List ShdlcLinkEvent) → AllShdlcAllowed (e ∷ es) → NoneIsCut (e ∷ es)
    → SafeLink 0 0 l → KnowsLink bare t l → HeardBoth bare t (shdlc_happens l e) (emitted_event l e) (got_event l e) × NoneIsCut es
event_heard bare t l (AtController e) es i a s h =
    (near_both (shdlc_happens_at_controller l e) (emitted_here l e) (got_here l e) (here_heard bare t l e a.0 s h), a.1)
event_heard bare t l (AtHost e) es i a s h =
    let k : ShdlcLink = shdlc_exchanged l in
    let x = here_heard bare (tap_exchanged t) k e a.0 (safe_exchanged 0 0 l s) (knows_swap h) in
    (far_both (shdlc_happens_at_controller k e) (emitted_here k e) (got_here k e) x, a.1)
event_heard bare t l (Tick c turns d) es i a s h =
    let s0 = safe_aged l s in
    let one = tick_or_none bare t c (shdlc_aged l) a.0 s0 (knows_aged l h) in
    (rest_heard bare t (emitted_tick (shdlc_aged l) c) (ticks_or_cut c (shdlc_aged l)) turns d i.0 a.1 a.2 (tick_or_cut 1 c (shdlc_aged l) s0) one, a.3)
event_heard bare t l (TickWithout turns d) es i a s h =
    let s0 = safe_aged l s in
    let one = tick_waiting bare t (shdlc_aged l) s0 (knows_aged l h) in
    (rest_heard bare t (emitted_if_waiting (shdlc_aged l)) (ticks_if_waiting (shdlc_aged l)) turns d i.0 a.0 a.1 (tick_if_waiting 1 (shdlc_aged l) s0) one, a.2)

-- ### Runs

run_heard : (bare : Bool) (events : List ShdlcLinkEvent) (t : TapState) (l : ShdlcLink) → AllShdlcAllowed events → NoneIsCut events → SafeLink 0 0 l
    → KnowsLink bare t l → HeardBoth bare t (shdlc_after l events) (emitted l events) (got l events)
run_heard bare [] t l i a s h = record { knows = h; tells = refl }
run_heard bare (e ∷ es) t l i a s h =
    let one = event_heard bare t l e es i a s h in
    let next = safe_event l e es i s in
    let m : ShdlcLink = shdlc_happens l e in
    then_both m (shdlc_after m es) (emitted_event l e) (emitted m es) (got_event l e) (got m es) one.0
    (run_heard bare es (tap_after bare t (emitted_event l e)) m next.1 one.1 next.0 one.0.knows)

-- over a whole run from its beginning
heard_from_start : (bare : Bool) (l : ShdlcLink) → IsShdlcStart l → StartsSo bare l → (events : List ShdlcLinkEvent) → AllShdlcAllowed events
    → NoneIsCut events → HeardBoth bare new_tap (shdlc_after l events) (emitted l events) (got l events)
heard_from_start bare l i b events a c = run_heard bare events new_tap l a c (safe_start l i) (grind arith)

pub reported : (bare : Bool) (l : ShdlcLink) → IsShdlcStart l → StartsSo bare l → (events : List ShdlcLinkEvent) → AllShdlcAllowed events
    → NoneIsCut events → tapped bare (emitted l events) ≡ got l events
reported bare l i b events a c = (heard_from_start bare l i b events a c).tells

pub known_here : (bare : Bool) (l : ShdlcLink) → IsShdlcStart l → StartsSo bare l → (events : List ShdlcLinkEvent) → AllShdlcAllowed events
    → NoneIsCut events
    → IsTrackedBy (tap_after bare new_tap (emitted l events)).clf (tap_after bare new_tap (emitted l events)).uicc (shdlc_after l events).controller
known_here bare l i b events a c = let h0 = (heard_from_start bare l i b events a c).knows.near in grind arith

pub known_there : (bare : Bool) (l : ShdlcLink) → IsShdlcStart l → StartsSo bare l → (events : List ShdlcLinkEvent) → AllShdlcAllowed events
    → NoneIsCut events
    → IsTrackedBy (tap_after bare new_tap (emitted l events)).uicc (tap_after bare new_tap (emitted l events)).clf (shdlc_after l events).host
known_there bare l i b events a c = let h0 = (heard_from_start bare l i b events a c).knows.far in grind arith
