-- A reset while the other end isn't Waiting is answered, where nothing is lost.
use Rattle.std.proofs.Common.{not, ◌&&◌}
use Rattle.link_laws.proofs.Words.{Activation, AllShdlcAllowed, AreTurns, Bool, Control, CoreActs as Acts, CoreAreUpTogether as AreShdlcUpTogether}
use Rattle.link_laws.proofs.Words.{CoreAtController as AtController, CoreAtHost as AtHost, CoreDeliver as Deliver, CoreEndEvent as ShdlcEndEvent}
use Rattle.link_laws.proofs.Words.{CoreLink as ShdlcLink, CoreLose as Lose, CoreReset as Reset, CoreStop as Stop, CoreTurn as ShdlcTurn, Down, Due, EndState}
use Rattle.link_laws.proofs.Words.{Ignore, IsShdlcSettled, IsShdlcStart, IsTurn, LinkState, List, None, NumberedShdlc, Offer, OnWire, Option, Rset, Rset_due}
use Rattle.link_laws.proofs.Words.{SetReady, ShdlcLinkEvent, Some, Tick, TickWithout, Turns, Ua, Ua_due, Up, Waiting, [], act_frame, after_frames, aged_wire}
use Rattle.link_laws.proofs.Words.{and_parts, ap, arith, asked_again, cond, core_after as shdlc_after, core_aged as shdlc_aged}
use Rattle.link_laws.proofs.Words.{core_all_here as shdlc_all_at_controller, core_happens_here as shdlc_happens_at_controller}
use Rattle.link_laws.proofs.Words.{core_ticks_if_waiting as ticks_if_waiting, core_ticks_or_cut as ticks_or_cut, core_turned as shdlc_turned}
use Rattle.link_laws.proofs.Words.{core_with_ended as with_shdlc_ended, drop, false, fetched, fits, frame_due, frames_of, given_up, inl, inr, is_act, is_some}
use Rattle.link_laws.proofs.Words.{is_up, is_waiting, length, loses_aged, ltb-false, map, min, nat_lt, no_session, not-true, older, or_parts, overflows, refl}
use Rattle.link_laws.proofs.Words.{reset_with, runs_timer, sans, shdlc_becomes, shdlc_exchanged, shdlc_happens, shdlc_put, shdlc_put_all}
use Rattle.link_laws.proofs.Words.{shdlc_ticks_at_controller, shdlc_turn, subst, suc, sure_after, sure_aged, sure_all, sure_event, sure_here, sure_if_waiting}
use Rattle.link_laws.proofs.Words.{sure_out, sure_put, sure_tick, sure_turns, sym, take_answer, taken, tick_answer, ticked, took_with, true, true≢false}
use Rattle.link_laws.proofs.Words.{up_with, waiting_from, with_shdlc_controller, zero, ℕ, ◌++◌, ◌+◌, ◌||◌, ◌∙◌, ◌∷◌, ◌≡◌, ◌⊎◌}
use Rattle.link_laws.proofs.places.Flows.{AnswersOnly}
use Rattle.link_laws.proofs.places.Joined.{ready_cases, tick_cases}
use Rattle.link_laws.specs.sessions.Sessions.ShdlcEndEvent.{Cut}
use Rattle.link_laws.proofs.sessions.Wire.{IsData, rsets, uas, rsets-append, uas-append, plus_one, rsets-older, uas-older}
use Rattle.link_laws.proofs.sessions.Hand.{nothing_out}
use Rattle.link_laws.proofs.sessions.Safe.{Safe, up_end}
use Rattle.link_laws.proofs.sessions.Sending.{SafeLink, sans-push, sans-push_act}
use Rattle.link_laws.proofs.sessions.Steps.{passes_act, took, not_rset, sans-aged, agree, safe_aged, safe_turn, safe_turns, safe_exchanged, tick_or_cut}
use Rattle.link_laws.proofs.sessions.Steps.{tick_if_waiting, safe_event, safe_start}
use Rattle.link_laws.proofs.sessions.Ties.{data_due, fits_sans, fetched-phase, fetched_answers, answers_more, after_frames-phase, turned-phase}
use Rattle.link_laws.proofs.sessions.Quiet.{Tells, takes_by, turned_idle, idle_end}
use Rattle.link_laws.proofs.Cases.{by_phase, by_test}

-- an end waits and the other doesn't, and its RSET or the UA to it is on its way
abbrev pub Asks : LinkState → LinkState → List OnWire → List OnWire → Type 0
Asks p q to_n to_f = (p ≡ Waiting) × (q ≡ Waiting → ⊥) × ((rsets to_f ≡ [] → ⊥) ⊎ ((q ≡ Up) × (uas to_n ≡ [] → ⊥)))

abbrev pub States : LinkState → LinkState → List OnWire → List OnWire → Type 0
States p q to_n to_f = Asks p q to_n to_f ⊎ (Asks q p to_f to_n ⊎ ((p ≡ Up) × (q ≡ Up)))

-- the controller's end is e, or as it stands
abbrev pub SureAt : Bool → ShdlcLink → EndState → Type 0
SureAt s l e = s ≡ true → States e.phase l.host.side.phase (sans l.to_controller) (sans l.to_host)

abbrev pub SureLink : Bool → ShdlcLink → Type 0
SureLink s l = SureAt s l l.controller.side

-- ## Wires

front_empty : (xs ys : List ℕ) → xs ++ ys ≡ [] → xs ≡ []
front_empty [] ys e = refl
front_empty (x ∷ xs) ys e = cc

plus_empty : (xs : List ℕ) → plus_one xs ≡ [] → xs ≡ []
plus_empty [] e = refl
plus_empty (x ∷ xs) e = cc

-- an RSET or a UA that stands on a wire still does
record StillHolds (w v : List OnWire) : Type 0 where
  rset : rsets v ≡ [] → rsets w ≡ []
  ua : uas v ≡ [] → uas w ≡ []

holds : (w : List OnWire) → StillHolds w w
holds w = record { rset = λ e. e; ua = λ e. e }

holds_push : (w : List OnWire) (x : OnWire) → StillHolds w (w ++ x ∷ [])
holds_push w x =
    record {
      rset = λ e. front_empty (rsets w) (rsets (x ∷ [])) (sym (rsets-append w x) ∙ e);
      ua = λ e. front_empty (uas w) (uas (x ∷ [])) (sym (uas-append w x) ∙ e);
    }

holds_past : (x : OnWire) (w : List OnWire) → IsData x.frame → StillHolds (x ∷ w) w
holds_past x w d = grind arith

holds_older : (w : List OnWire) → StillHolds w (older w)
holds_older w = record { rset = λ e. plus_empty (rsets w) (sym (rsets-older w) ∙ e); ua = λ e. plus_empty (uas w) (sym (uas-older w) ∙ e) }

-- what stands on the wires still does
states_more : (p q : LinkState) {to_n to_f to_n' to_f' : List OnWire} → StillHolds to_n to_n' → StillHolds to_f to_f'
    → States p q to_n to_f → States p q to_n' to_f'
states_more p q n f a = grind arith

states_push : (p q : LinkState) (to_n to_f : List OnWire) (x : OnWire) → States p q to_n to_f → States p q to_n (to_f ++ x ∷ [])
states_push p q to_n to_f x = states_more p q (holds to_n) (holds_push to_f x)

back_empty : (xs ys : List ℕ) → xs ++ ys ≡ [] → ys ≡ []
back_empty [] ys e = e
back_empty (x ∷ xs) ys e = cc

-- an RSET put last stands on the wire, also where it was full
rset_stands : (w : List OnWire) (x : OnWire) (v c : ℕ) → x.frame ≡ Rset v c → rsets (sans (fits (w ++ x ∷ []))) ≡ [] → ⊥
rset_stands w x v c is = go w (nat_lt 64 (length (w ++ x ∷ []))) refl
  where
    last : (u : List OnWire) → rsets (sans (u ++ x ∷ [])) ≡ [] → ⊥
    last u e =
        let one : rsets (x ∷ []) ≡ x.age ∷ [] = rw is refl in
        let p : sans (u ++ x ∷ []) ≡ sans u ++ x ∷ [] = sans-push u x (rw is refl) in
        let z : x.age ∷ [] ≡ [] = sym one ∙ back_empty (rsets (sans u)) (rsets (x ∷ [])) (sym (rsets-append (sans u) x) ∙ (ap rsets (sym p) ∙ e)) in
        cc

    go : (u : List OnWire) (b : Bool) → nat_lt 64 (length (u ++ x ∷ [])) ≡ b → rsets (sans (cond b (drop 1 (u ++ x ∷ [])) (u ++ x ∷ []))) ≡ [] → ⊥
    go u false q e = last u e
    go [] true q e = true≢false (sym q)
    go (y ∷ u) true q e = last u e

-- ## Sending

abbrev Sends : Bool → EndState → ShdlcLink → Type 0
Sends s e v = AnswersOnly e.due × SureAt s v e

sends_each : (s : Bool) (e : EndState) (v : ShdlcLink) (c : Control) → frame_due e ≡ Some c → Sends s e v → Sends (sure_put s v c) (fetched e) (shdlc_put v c)
sends_each s e v c is k =
    let d = data_due e c k.0 is in
    let x : OnWire = record { frame = c; age = 0; number = 0 } in
    let over : Bool = overflows (v.to_host ++ x ∷ []) in
    let a : (s && not over) ≡ true → States (fetched e).phase v.host.side.phase (sans v.to_controller) (sans (fits (v.to_host ++ x ∷ []))) =
    λ n. let parts = and_parts s (not over) n in
    let same : sans (fits (v.to_host ++ x ∷ [])) ≡ sans v.to_host ++ x ∷ [] = fits_sans (v.to_host ++ x ∷ []) (not-true over parts.1)
    ∙ sans-push v.to_host x d.1 in
    rw (fetched-phase e, same) (states_push e.phase v.host.side.phase (sans v.to_controller) (sans v.to_host) x (k.1 parts.0)) in
    (fetched_answers e k.0, rw (not_rset c (inl d.0)) a)

sends_sure : (P : Bool → EndState → ShdlcLink → Type 0)
    → ((s : Bool) (e : EndState) (l : ShdlcLink) (c : Control) → frame_due e ≡ Some c → P s e l → P (sure_put s l c) (fetched e) (shdlc_put l c))
    → (m : ℕ) (s : Bool) (e : EndState) (l : ShdlcLink) → P s e l → P (sure_all s l (frames_of m e)) (after_frames m e) (shdlc_put_all l (frames_of m e))
sends_sure P each zero s e l h = h
sends_sure P each (suc m) s e l h = go (frame_due e) refl (λ k. sends_sure P each m k (fetched e))
  where
    go : (o : Option Control) → frame_due e ≡ o
        → ((k : Bool) (v : ShdlcLink) → P k (fetched e) v
        → P (sure_all k v (frames_of m (fetched e))) (after_frames m (fetched e)) (shdlc_put_all v (frames_of m (fetched e))))
        → P (sure_all s l (frames_of (suc m) e)) (after_frames (suc m) e) (shdlc_put_all l (frames_of (suc m) e))
    go o q later = grind arith

sends_all : (m : ℕ) (s : Bool) (e : EndState) (l : ShdlcLink) → Sends s e l
    → Sends (sure_all s l (frames_of m e)) (after_frames m e) (shdlc_put_all l (frames_of m e))
sends_all m s e l h = sends_sure Sends sends_each m s e l h

turn_answers : (e : EndState) (t : ShdlcTurn) → AnswersOnly e.due → AnswersOnly (shdlc_turn e t).due
turn_answers e (SetReady r) a = ready_cases (λ f. AnswersOnly f.due) e r a a (answers_more e.due a)
turn_answers e (Offer fragments) a = by_phase {P = AnswersOnly (shdlc_turn e (Offer fragments)).due} e.phase (λ q. rw q a) (λ q. rw q a) (λ q. rw q a)

turned_answers : (ts : List ShdlcTurn) (e : EndState) → AnswersOnly e.due → AnswersOnly (shdlc_turned e ts).due
turned_answers [] e a = a
turned_answers (t ∷ ts) e a = turned_answers ts (shdlc_turn e t) (turn_answers e t a)

-- the link after it became e, had its turns and sent what is due
abbrev Goes : Bool → ShdlcLink → List ShdlcTurn → EndState → Type 0
Goes s l ts e = SureLink (sure_out s l (shdlc_turned e ts)) (shdlc_becomes l (shdlc_turned e ts))

sure_drains : (m : ℕ) (s : Bool) (ts : List ShdlcTurn) (e : EndState) (l : ShdlcLink) → AnswersOnly e.due → SureAt s l e
    → SureLink (sure_all s l (frames_of m (shdlc_turned e ts)))
    (with_shdlc_controller (shdlc_put_all l (frames_of m (shdlc_turned e ts))) (after_frames m (shdlc_turned e ts)))
sure_drains m s ts e l a h = let h0 = sends_all m s (shdlc_turned e ts) l (turned_answers ts e a, λ n. rw (turned-phase ts e) (h n)) in grind arith

sure_all_tells : (cs : List Control) (s : Bool) (l : ShdlcLink) → sure_all s l cs ≡ true → s ≡ true
sure_all_tells [] s l e = e
sure_all_tells (c ∷ cs) s l e = let h0 = (sure_all_tells cs (sure_put s l c) (shdlc_put l c) e) in grind arith

-- what is due first stays so
abbrev with_first : Due → EndState → EndState
with_first d e = record e { due = d ∷ e.due }

turned-first : (d : Due) (ts : List ShdlcTurn) (e : EndState) → shdlc_turned (with_first d e) ts ≡ with_first d (shdlc_turned e ts)
turned-first d [] e = refl
turned-first d (t ∷ ts) e = ap (λ f. shdlc_turned f ts) (grind arith) ∙ turned-first d ts (shdlc_turn e t)

-- an end that has an RSET to send, and had its turns
rset_first : (m : ℕ) (ts : List ShdlcTurn) (e : EndState) → e.due ≡ Rset_due ∷ []
    → (let q : EndState = shdlc_turned (record e { due = [] }) ts in frames_of (suc m) (shdlc_turned e ts) ≡ Rset q.own_window 0 ∷ frames_of m q)
rset_first m ts e due =
    ap (λ f. frames_of (suc m) (shdlc_turned f ts)) (grind arith) ∙ ap (frames_of (suc m)) (turned-first Rset_due ts (record e { due = [] }))

-- an RSET that no reset asked for
unsure : (m : ℕ) (s : Bool) (l k : ShdlcLink) (ts : List ShdlcTurn) (e : EndState) → e.due ≡ Rset_due ∷ []
    → SureLink (sure_all s l (frames_of (suc m) (shdlc_turned e ts))) k
unsure m s l k ts e due n =
    let q : EndState = shdlc_turned (record e { due = [] }) ts in
    let z : sure_all false (shdlc_put l (Rset q.own_window 0)) (frames_of m q) ≡ true = ap (sure_all s l) (sym (rset_first m ts e due)) ∙ n in
    absurd (true≢false (sym (sure_all_tells (frames_of m q) false (shdlc_put l (Rset q.own_window 0)) z)))

-- ## What happens at the controller's end

stays : (s : Bool) (ts : List ShdlcTurn) (l : ShdlcLink) → l.controller.side.due ≡ [] → SureLink s l → Goes s l ts l.controller.side
stays s ts l due t = sure_drains 12 s ts l.controller.side l (rw due tt) t

not_waiting : (p : EndState) → not (is_waiting p) ≡ true → p.phase ≡ Waiting → ⊥
not_waiting p e w = true≢false (sym (rw w at e))

resets : (kf : ℕ) (s : Bool) (ts : List ShdlcTurn) (l : ShdlcLink) (w : ℕ) → SafeLink 0 kf l → SureLink s l
    → SureLink (sure_here s l (Reset w ts)) (shdlc_happens_at_controller l (Reset w ts))
resets kf s ts l w h t =
    by_phase l.controller.side.phase
    (λ q. by_parts (not (is_waiting l.host.side)) true e (rw q refl) (rw q refl) (rw q refl) (asked (with_shdlc_ended l true) refl (rw q refl))) (λ q.
    by_parts (sure_out s l (shdlc_turned l.controller.side ts)) false l.controller.side (rw q refl) (rw q refl) (rw q refl) (stays s ts l h.n_due t))
    (λ q. by_parts (not (is_waiting l.host.side)) false e (rw q refl) (rw q refl) (rw q refl) (asked l refl (rw (q, h.n_due) refl)))
  where
    e : EndState
    e = waiting_from (record l.controller.side { own_window = w })

    by_parts : (k b : Bool) (q : EndState) → sure_here s l (Reset w ts) ≡ k → is_up l.controller.side.phase ≡ b → reset_with l.controller.side w ≡ q
        → SureLink k (shdlc_becomes (with_shdlc_ended l b) (shdlc_turned q ts))
        → SureLink (sure_here s l (Reset w ts)) (shdlc_happens_at_controller l (Reset w ts))
    by_parts k b q sure up is a =
        let P : Bool → Bool → EndState → Type 0 = λ i c f. SureLink i (shdlc_becomes (with_shdlc_ended l c) (shdlc_turned f ts)) in
        subst (λ i. P i (is_up l.controller.side.phase) (reset_with l.controller.side w)) (sym sure)
        (subst (λ c. P k c (reset_with l.controller.side w)) (sym up) (subst (P k b) (sym is) a))

    same : (ends : Bool) → (with_shdlc_ended l ends).host.side.phase ≡ l.host.side.phase
    same ends = grind arith

    asked : (m : ShdlcLink) → m.host.side.phase ≡ l.host.side.phase → e.due ≡ Rset_due ∷ []
        → SureLink (not (is_waiting l.host.side)) (shdlc_becomes m (shdlc_turned e ts))
    asked m host due n =
        let q : EndState = shdlc_turned (record e { due = [] }) ts in
        let g = turned_idle ts (record e { due = [] }) (λ u. let z : Waiting ≡ Up = u in cc) refl in
        let x : OnWire = record { frame = Rset q.own_window 0; age = 0; number = m.resets + 1 } in
        let none : frames_of 11 q ≡ [] = rw (idle_end q g.due g.session) refl in
        let frames : frames_of 12 (shdlc_turned e ts) ≡ Rset q.own_window 0 ∷ [] = rset_first 11 ts e due ∙ ap (λ cs. Rset q.own_window 0 ∷ cs) none in
        let waits : (after_frames 12 (shdlc_turned e ts)).phase ≡ Waiting = after_frames-phase 12 (shdlc_turned e ts) ∙ turned-phase ts e in
        let P : List Control → Type 0 = λ cs. States (after_frames 12 (shdlc_turned e ts)).phase (shdlc_put_all m cs).host.side.phase
        (sans (shdlc_put_all m cs).to_controller) (sans (shdlc_put_all m cs).to_host) in
        subst P (sym frames) (inl (waits, (λ u. not_waiting l.host.side n (sym host ∙ u)), inl (rset_stands m.to_host x q.own_window 0 refl)))

ticks : (kf : ℕ) (s : Bool) (ts : List ShdlcTurn) (l : ShdlcLink) → SafeLink 1 kf l → SureLink s l
    → SureLink (sure_tick s (Some ts) l) (shdlc_ticks_at_controller l ts)
ticks kf s ts l h t = go e.phase (runs_timer e.session) (nat_lt (e.timer + 1) 10) (nat_lt e.tries 5) refl refl refl refl
  where
    e : EndState
    e = l.controller.side

    Q : Type 0
    Q = SureLink (sure_tick s (Some ts) l) (shdlc_ticks_at_controller l ts)

    by_parts : (b : Bool) (q : EndState) → is_some (tick_answer e).ended ≡ b → ticked e ≡ q → Goes s (with_shdlc_ended l b) ts q → Q
    by_parts b q ends is a =
        let P : Bool → EndState → Type 0 = λ c f. Goes s (with_shdlc_ended l c) ts f in
        subst (λ c. P c (ticked e)) (sym ends) (subst (P b) (sym is) a)

    on : e.phase ≡ Up → (tick_answer e).ended ≡ None → Q
    on p quit =
        by_parts false (ticked e) (rw quit refl) refl
        (sure_drains 12 s ts (ticked e) l (tick_cases (λ f. AnswersOnly f.due) e p quit (rw h.n_due tt) (rw h.n_due tt) (rw h.n_due tt))
        (λ n. let same : (ticked e).phase ≡ e.phase = tick_cases (λ f. f.phase ≡ e.phase) e p quit refl refl refl in rw same (t n)))

    go : (p : LinkState) (a b c : Bool) → e.phase ≡ p → runs_timer e.session ≡ a → nat_lt (e.timer + 1) 10 ≡ b → nat_lt e.tries 5 ≡ c → Q
    go Down a b c p q r o = by_parts false e (rw p refl) (rw p refl) (stays s ts l h.n_due t)
    go Up false b c p q r o = on p (rw (p, q) refl)
    go Up true true c p q r o = on p (rw (p, q, r) refl)
    go Up true false true p q r o = on p (rw (p, q, r, o) refl)
    go Up true false false p q r o =
        by_parts true (waiting_from e) (rw (p, q, r, o) refl) (rw (p, q, r, o) refl)
        (unsure 11 s (with_shdlc_ended l true) (shdlc_becomes (with_shdlc_ended l true) (shdlc_turned (waiting_from e) ts)) ts (waiting_from e) (rw p refl))
    go Waiting a true c p q r o =
        by_parts false (record e { timer = e.timer + 1 }) (rw (p, r) refl) (rw (p, r) refl)
        (sure_drains 12 s ts (record e { timer = e.timer + 1 }) l (rw h.n_due tt) t)
    go Waiting a false true p q r o =
        by_parts false (asked_again e) (rw (p, r, o) refl) (rw (p, r, o) refl)
        (unsure 11 s l (shdlc_becomes l (shdlc_turned (asked_again e) ts)) ts (asked_again e) (rw h.n_due refl))
    go Waiting a false false p q r o =
        by_parts false (given_up e) (rw (p, r, o) refl) (rw (p, r, o) refl)
        (sure_drains 12 s ts (given_up e) l (rw h.n_due tt)
        (λ n. let out = nothing_out h.hand (let g = ltb-false (e.timer + 1) 10 r in omega arith) in
        (grind arith)))

-- ## It takes a frame

abbrev sure_took : Bool → ShdlcLink → List ShdlcTurn → OnWire → List OnWire → Bool
sure_took s l ts x xs =
    let m : ShdlcLink = with_shdlc_ended (record l { to_controller = xs }) (is_some (take_answer l.controller.side x.frame).ended) in
    let t : ShdlcLink = record m { controller = record m.controller { took = took_with l.controller.took x } } in
    sure_out s t (shdlc_turned (taken l.controller.side x.frame) ts)

-- the link after it took x, where it is q then
took_sure : (s : Bool) (l : ShdlcLink) (ts : List ShdlcTurn) (x : OnWire) (xs : List OnWire) (q : EndState) → taken l.controller.side x.frame ≡ q
    → ((c : NumberedShdlc) → Goes s (record l { to_controller = xs; controller = c }) ts q) → SureLink (sure_took s l ts x xs) (took l ts x xs)
took_sure s l ts x xs q a h = rw a (go (is_some (take_answer l.controller.side x.frame).ended))
  where
    go : (ends : Bool) → (let m : ShdlcLink = with_shdlc_ended (record l { to_controller = xs }) ends in
        Goes s (record m { controller = record m.controller { took = took_with l.controller.took x } }) ts q)
    go ends = grind arith

takes : (s : Bool) (l : ShdlcLink) (ts : List ShdlcTurn) (x : OnWire) (xs : List OnWire) → Safe 0 0 l.controller l.host (x ∷ sans xs) (sans l.to_host) l.resets
    → (s ≡ true → States l.controller.side.phase l.host.side.phase (x ∷ sans xs) (sans l.to_host)) → SureLink (sure_took s l ts x xs) (took l ts x xs)
takes s l ts x xs h t =
    takes_by (SureLink (sure_took s l ts x xs) (took l ts x xs)) v x (sans xs) h (λ d up still answers few. passed d (still ∙ sym up) answers)
    (λ d no_up same. passed d (ap (λ (f : EndState). f.phase) same) (rw same (rw h.n_due tt))) anew waits confirmed
  where
    v : ShdlcLink
    v = record l { to_host = sans l.to_host }

    e : EndState
    e = l.controller.side

    -- a frame of a session
    passed : IsData x.frame → (taken e x.frame).phase ≡ e.phase → AnswersOnly (taken e x.frame).due → SureLink (sure_took s l ts x xs) (took l ts x xs)
    passed d same answers =
        took_sure s l ts x xs (taken e x.frame) refl
        (λ c. sure_drains 12 s ts (taken e x.frame) (record l { to_controller = xs; controller = c }) answers
        (λ n. rw same ((states_more e.phase l.host.side.phase (holds_past x (sans xs) d) (holds (sans l.to_host))) (t n))))

    -- an RSET, which it answers by UA
    answers : (q : EndState) → taken e x.frame ≡ with_first Ua_due q → q.due ≡ []
        → (s ≡ true → (y : OnWire) → y.frame ≡ Ua → States q.phase l.host.side.phase (sans xs) (sans l.to_host ++ y ∷ []))
        → SureLink (sure_took s l ts x xs) (took l ts x xs)
    answers q to due then =
        took_sure s l ts x xs (with_first Ua_due q) to
        (λ c.
        let m : ShdlcLink = record l { to_controller = xs; controller = c } in
        let y : OnWire = record { frame = Ua; age = 0; number = 0 } in
        let w : List OnWire = l.to_host ++ y ∷ [] in
        let P : EndState
        → Type 0 = λ g. SureLink (sure_all s m (frames_of 12 g)) (with_shdlc_controller (shdlc_put_all m (frames_of 12 g)) (after_frames 12 g)) in
        subst P (sym (turned-first Ua_due ts q))
        (sure_drains 11 (sure_put s m Ua) ts q (shdlc_put m Ua) (rw due tt)
        (λ n. let parts = and_parts s (not (overflows w)) n in
        let same : sans (fits w) ≡ sans l.to_host ++ y ∷ [] = fits_sans w (not-true (overflows w) parts.1) ∙ sans-push l.to_host y refl in
        subst (λ u. States q.phase l.host.side.phase (sans xs) u) (sym same) (then parts.0 y refl))))

    anew : (u : ℕ) → Tells v (sans xs) u → sans xs ≡ [] → taken e x.frame ≡ up_with (record e { due = Ua_due ∷ [] }) (min e.own_window (min u 4))
        → SureLink (sure_took s l ts x xs) (took l ts x xs)
    anew u k gone to =
        answers (up_end e (min e.own_window (min u 4))) to refl
        (λ n y ua. inr (inl (k.waiting, (λ o. let z : Up ≡ Waiting = o in cc), inr (refl, stands y ua))))
      where
        stands : (y : OnWire) → y.frame ≡ Ua → uas (sans l.to_host ++ y ∷ []) ≡ [] → ⊥
        stands y ua q =
            let z : y.age ∷ [] ≡ [] = sym (rw ua refl) ∙ back_empty (uas (sans l.to_host)) (uas (y ∷ [])) (sym (uas-append (sans l.to_host) y) ∙ q) in
            cc

    waits : (u : ℕ) → Tells v (sans xs) u → e.phase ≡ Waiting → e.session ≡ no_session → taken e x.frame
        ≡ record e { due = Ua_due ∷ []; peer_window = min u 4 } → SureLink (sure_took s l ts x xs) (took l ts x xs)
    waits u k p none to =
        answers (record e { due = []; peer_window = min u 4 }) to refl (λ n y ua. absurd (both k.waiting (t n)))
      where
        both : l.host.side.phase ≡ Waiting → States e.phase l.host.side.phase (x ∷ sans xs) (sans l.to_host) → ⊥
        both f (inl (a, b, k)) = b f
        both f (inr (inl (a, b, k))) = b p
        both f (inr (inr u)) = let z : Up ≡ Waiting = sym u.0 ∙ p in cc

    confirmed : x.frame ≡ Ua → e.phase ≡ Waiting → rsets (sans l.to_host) ≡ [] → SureLink (sure_took s l ts x xs) (took l ts x xs)
    confirmed is p none =
        let w : ℕ = min e.own_window e.peer_window in
        took_sure s l ts x xs (up_with e w) (rw (is, p) refl)
        (λ c. sure_drains 12 s ts (up_with e w) (record l { to_controller = xs; controller = c }) (rw h.n_due tt) (λ n. inr (inr (refl, up (t n)))))
      where
        up : States e.phase l.host.side.phase (x ∷ sans xs) (sans l.to_host) → l.host.side.phase ≡ Up
        up (inl (a, b, inl k)) = absurd (k none)
        up (inl (a, b, inr k)) = k.0
        up (inr (inl (a, b, k))) = absurd (b p)
        up (inr (inr u)) = u.1

delivers : (s : Bool) (ts : List ShdlcTurn) (l : ShdlcLink) → SafeLink 0 0 l → SureLink s l
    → SureLink (sure_here s l (Deliver ts)) (shdlc_happens_at_controller l (Deliver ts))
delivers s ts l h t = go l.to_controller h t
  where
    e : EndState
    e = l.controller.side

    first : (x : OnWire) (xs : List OnWire) (b : Bool) → is_act x.frame ≡ b → Safe 0 0 l.controller l.host (sans (x ∷ xs)) (sans l.to_host) l.resets
        → (s ≡ true → States e.phase l.host.side.phase (sans (x ∷ xs)) (sans l.to_host))
        → SureLink (sure_took s (record l { to_controller = x ∷ xs }) ts x xs) (took (record l { to_controller = x ∷ xs }) ts x xs)
    first x xs false q g t = takes s (record l { to_controller = x ∷ xs }) ts x xs (rw q at g) (rw q at t)
    first x xs true q g t =
        took_sure s (record l { to_controller = x ∷ xs }) ts x xs e (passes_act e x.frame q).0
        (λ c. sure_drains 12 s ts e (record l { to_controller = xs; controller = c }) (rw h.n_due tt) (rw q at t))

    go : (wire : List OnWire) → Safe 0 0 l.controller l.host (sans wire) (sans l.to_host) l.resets
        → (s ≡ true → States e.phase l.host.side.phase (sans wire) (sans l.to_host))
        → SureLink (sure_here s (record l { to_controller = wire }) (Deliver ts)) (shdlc_happens_at_controller (record l { to_controller = wire }) (Deliver ts))
    go [] g t = t
    go (x ∷ xs) g t = first x xs (is_act x.frame) refl g t

loses : (s : Bool) (l : ShdlcLink) → SureLink s l → SureLink (sure_here s l Lose) (shdlc_happens_at_controller l Lose)
loses s l t = grind arith

-- frames of activation stand beside the others
acts_then : (ts : List ShdlcTurn) (acts : List Activation) (s : Bool) (l : ShdlcLink) → l.controller.side.due ≡ [] → SureLink s l
    → Goes (sure_all s l (map act_frame acts)) (shdlc_put_all l (map act_frame acts)) ts l.controller.side
acts_then ts [] s l due t = stays s ts l due t
acts_then ts (a ∷ acts) s l due t =
    let x : OnWire = record { frame = act_frame a; age = 0; number = 0 } in
    let w : List OnWire = l.to_host ++ x ∷ [] in
    acts_then ts acts (sure_put s l (act_frame a)) (shdlc_put l (act_frame a)) due
    (λ n. let parts = and_parts s (not (overflows w)) n in
    let R : List OnWire → Type 0 = λ u. States l.controller.side.phase l.host.side.phase (sans l.to_controller) u in
    subst R (sym (fits_sans w (not-true (overflows w) parts.1) ∙ sans-push_act l.to_host x refl)) (t parts.0))

none_lost : (w : List OnWire) → loses_aged w ≡ false → aged_wire w ≡ older w
none_lost [] e = refl
none_lost (x ∷ xs) e = let h0 = none_lost xs in grind arith

ages : (s : Bool) (l : ShdlcLink) → SureLink s l → SureLink (sure_aged s l) (shdlc_aged l)
ages s l t n =
    let a : Bool = loses_aged (sans l.to_controller) in
    let b : Bool = loses_aged (sans l.to_host) in
    let parts = and_parts s (not (a || b)) n in
    let none = or_parts a b (not-true (a || b) parts.1) in
    rw (sans-aged l.to_controller ∙ none_lost (sans l.to_controller) none.0, sans-aged l.to_host ∙ none_lost (sans l.to_host) none.1)
    ((states_more l.controller.side.phase l.host.side.phase (holds_older (sans l.to_controller)) (holds_older (sans l.to_host))) (t parts.0))

swaps : (s : Bool) (l : ShdlcLink) → SureLink s l → SureLink s (shdlc_exchanged l)
swaps s l t n = grind arith

-- ## All events

sure_turn : (kf : ℕ) (s : Bool) (l : ShdlcLink) (e : ShdlcEndEvent) → IsTurn e → SafeLink 0 kf l → SureLink s l
    → SureLink (sure_here s l e) (shdlc_happens_at_controller l e)
sure_turn kf s l (Turns ts) a h t = stays s ts l h.n_due t
sure_turn kf s l (Deliver ts) a h t = absurd a
sure_turn kf s l (Ignore ts) a h t = absurd a
sure_turn kf s l (Acts acts ts) a h t = acts_then ts acts s l h.n_due t
sure_turn kf s l Lose a h t = absurd a
sure_turn kf s l (Reset w ts) a h t = resets kf s ts l w h t
sure_turn kf s l Cut a h t = λ n. absurd (true≢false (sym n))
sure_turn kf s l Stop a h t = λ n. absurd (true≢false (sym n))

turns_sure : (kf : ℕ) (es : List ShdlcEndEvent) (s : Bool) (l : ShdlcLink) → AreTurns es → SafeLink 0 kf l → SureLink s l
    → SureLink (sure_turns s l es) (shdlc_all_at_controller l es)
turns_sure kf [] s l a h t = t
turns_sure kf (e ∷ es) s l a h t =
    turns_sure kf es (sure_here s l e) (shdlc_happens_at_controller l e) a.1 (safe_turn kf l e a.0 h) (sure_turn kf s l e a.0 h t)

sure_at : (s : Bool) (l : ShdlcLink) (e : ShdlcEndEvent) → SafeLink 0 0 l → SureLink s l → SureLink (sure_here s l e) (shdlc_happens_at_controller l e)
sure_at s l (Turns ts) h t = stays s ts l h.n_due t
sure_at s l (Deliver ts) h t = delivers s ts l h t
sure_at s l (Ignore ts) h t = grind arith
sure_at s l (Acts acts ts) h t = acts_then ts acts s l h.n_due t
sure_at s l Lose h t = loses s l t
sure_at s l (Reset w ts) h t = resets 0 s ts l w h t
sure_at s l _ h t = λ n. absurd (true≢false (sym n))

tick_sure : (kf : ℕ) (s : Bool) (b : Option (List ShdlcTurn)) (l : ShdlcLink) → SafeLink 1 kf l → SureLink s l → SureLink (sure_tick s b l) (ticks_or_cut b l)
tick_sure kf s (Some ts) l h t = ticks kf s ts l h t
tick_sure kf s None l h t = λ n. absurd (true≢false (sym n))

sure_waiting : (kf : ℕ) (s : Bool) (l : ShdlcLink) → SafeLink 1 kf l → SureLink s l → SureLink (sure_if_waiting s l) (ticks_if_waiting l)
sure_waiting kf s l h t = by_test (is_waiting l.controller.side) (λ q. rw q (ticks kf s [] l h t)) (λ q. rw q t)

-- a tick of the host's end, where these things have happened at the controller's
sure_there : (turns : List ShdlcEndEvent) (d : Option (List ShdlcTurn)) (i : Bool) (near : ShdlcLink) → AreTurns turns → SafeLink 0 1 near → SureLink i near
    → SureLink (sure_tick (sure_turns i near turns) d (shdlc_exchanged (shdlc_all_at_controller near turns)))
    (shdlc_exchanged (ticks_or_cut d (shdlc_exchanged (shdlc_all_at_controller near turns))))
sure_there turns d i near a one t =
    let m : ShdlcLink = shdlc_all_at_controller near turns in
    let j : Bool = sure_turns i near turns in
    swaps (sure_tick j d (shdlc_exchanged m)) (ticks_or_cut d (shdlc_exchanged m))
    (tick_sure 0 j d (shdlc_exchanged m) (safe_exchanged 0 1 m (safe_turns 1 turns near a one)) (swaps j m (turns_sure 1 turns i near a one t)))

event_sure : (s : Bool) (l : ShdlcLink) (e : ShdlcLinkEvent) (es : List ShdlcLinkEvent) → AllShdlcAllowed (e ∷ es) → SafeLink 0 0 l → SureLink s l
    → SureLink (sure_event s l e) (shdlc_happens l e)
event_sure s l (AtController e) es a h t = sure_at s l e h t
event_sure s l (AtHost e) es a h t =
    swaps (sure_here s (shdlc_exchanged l) e) (shdlc_happens_at_controller (shdlc_exchanged l) e)
    (sure_at s (shdlc_exchanged l) e (safe_exchanged 0 0 l h) (swaps s l t))
event_sure s l (Tick c turns d) es a h t =
    sure_there turns d (sure_tick (sure_aged s l) c (shdlc_aged l)) (ticks_or_cut c (shdlc_aged l)) a.0 (tick_or_cut 1 c (shdlc_aged l) (safe_aged l h))
    (tick_sure 1 (sure_aged s l) c (shdlc_aged l) (safe_aged l h) (ages s l t))
event_sure s l (TickWithout turns d) es a h t =
    sure_there turns d (sure_if_waiting (sure_aged s l) (shdlc_aged l)) (ticks_if_waiting (shdlc_aged l)) a.0 (tick_if_waiting 1 (shdlc_aged l) (safe_aged l h))
    (sure_waiting 1 (sure_aged s l) (shdlc_aged l) (safe_aged l h) (ages s l t))

sure_from : (events : List ShdlcLinkEvent) (s : Bool) (l : ShdlcLink) → AllShdlcAllowed events → SafeLink 0 0 l → SureLink s l
    → SureLink (sure_after s l events) (shdlc_after l events)
sure_from [] s l a h t = t
sure_from (e ∷ es) s l a h t = let k = safe_event l e es a h in sure_from es (sure_event s l e) (shdlc_happens l e) k.1 k.0 (event_sure s l e es a h t)

-- ## What follows

both_up : (l : ShdlcLink) → States l.controller.side.phase l.host.side.phase (sans l.to_controller) (sans l.to_host)
    → sans l.to_controller ≡ [] → sans l.to_host ≡ []
    → (l.controller.side.phase ≡ Up) × (l.host.side.phase ≡ Up)
both_up l a b c = grind arith

pub up_together : (l : ShdlcLink) → IsShdlcStart l → (events : List ShdlcLinkEvent) → AllShdlcAllowed events
    → IsShdlcSettled (shdlc_after l events) (sure_after false l events)
    → AreShdlcUpTogether (shdlc_after l events)
up_together l b events a q =
    let s : SureLink (sure_after false l events) (shdlc_after l events) = sure_from events false l a (safe_start l b) (λ n. absurd (true≢false (sym n))) in
    let up = both_up (shdlc_after l events) (s q.sure) q.to_controller q.to_host in
    record { controller = up.0; host = up.1; number = agree l b events a up.0 up.1 }
