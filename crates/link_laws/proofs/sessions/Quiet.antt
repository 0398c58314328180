-- Each event keeps what joins two ends that are in one session.
use Rattle.std.proofs.Common.{◌&&◌, max}
use Rattle.link_laws.proofs.Words.{Activation, AllShdlcAllowed, AreTurns, Bool, BothDown, BothUp, Control, CoreActs as Acts, CoreAtController as AtController}
use Rattle.link_laws.proofs.Words.{CoreAtHost as AtHost, CoreDeliver as Deliver, CoreEndEvent as ShdlcEndEvent, CoreLink as ShdlcLink, CoreLose as Lose}
use Rattle.link_laws.proofs.Words.{CoreReset as Reset, CoreStop as Stop, CoreTurn as ShdlcTurn, Down, EndState, FragmentsDelivered, Ignore, IsShdlcQuiet}
use Rattle.link_laws.proofs.Words.{IsShdlcStart, IsTurn, LinkState, List, Losses, None, NumberedShdlc, OnWire, Option, ShdlcLinkEvent, Some, Tick, TickWithout}
use Rattle.link_laws.proofs.Words.{Turns, Ua, Ua_due, Up, Waiting, [], act_frame, ap, arith, asked_again, begun, came_up, cond, core_after as shdlc_after}
use Rattle.link_laws.proofs.Words.{core_aged as shdlc_aged, core_all_here as shdlc_all_at_controller, core_happens_here as shdlc_happens_at_controller}
use Rattle.link_laws.proofs.Words.{core_ticks_if_waiting as ticks_if_waiting, core_ticks_or_cut as ticks_or_cut, core_turned as shdlc_turned}
use Rattle.link_laws.proofs.Words.{core_with_ended as with_shdlc_ended, counts_first, drop, false, fits, frame_due, given_up, inl, inr, is_act, is_some, is_up}
use Rattle.link_laws.proofs.Words.{is_up_with, is_waiting, length, loses_aged, losses_after, ltb-false, map, min, nat_lt, new_end, no_losses, no_session}
use Rattle.link_laws.proofs.Words.{noted_aged, noted_all, noted_event, noted_here, noted_if_waiting, noted_loss, noted_out, noted_tick, noted_turns, or_parts}
use Rattle.link_laws.proofs.Words.{overflows, refl, reset_with, runs_timer, sans, shdlc_becomes, shdlc_exchanged, shdlc_happens, shdlc_number_of, shdlc_put}
use Rattle.link_laws.proofs.Words.{shdlc_put_all, shdlc_silent, shdlc_ticks_at_controller, shdlc_turn, start_down, stopped, subst, sym, take_answer, taken}
use Rattle.link_laws.proofs.Words.{tick_answer, ticked, took_with, true, true≢false, up_with, waiting_from, with_shdlc_controller, ℕ, ◌++◌, ◌+◌, ◌<◌, ◌||◌, ◌∙◌}
use Rattle.link_laws.proofs.Words.{◌∷◌, ◌≡◌, ◌≤◌, ◌⊎◌}
use Rattle.link_laws.proofs.places.Joined.{Joined, delivered, joined_taken, joined_ticked, tick_cases}
use Rattle.link_laws.proofs.places.Flows.{AnswersOnly}
use Rattle.link_laws.specs.sessions.Sessions.ShdlcEndEvent.{Cut}
use Rattle.link_laws.proofs.sessions.Wire.{IsData, rsets, uas, behind_ua, live, behind_none, data_behind, AfterRset}
use Rattle.link_laws.proofs.sessions.Hand.{NothingIsOut, IsRset, ua_told, rset_told, nothing_out}
use Rattle.link_laws.proofs.sessions.Safe.{Safe, Idle, frame_cases, up_end, safe_swap, safe_lose}
use Rattle.link_laws.proofs.sessions.Sending.{SafeLink, sans-push_act, fits_keeps, no_rset_out, room, at_most_one}
use Rattle.link_laws.proofs.sessions.Steps.{passes_act, took, took_other, not_rset, fresh, aged-fresh, sans-aged, safe_fresh, safe_aged, safe_turn, safe_turns}
use Rattle.link_laws.proofs.sessions.Steps.{safe_exchanged, tick_or_cut, tick_if_waiting, safe_event, safe_start}
use Rattle.link_laws.proofs.sessions.Ties.{as_up, to_up, Meets, Tied, IsWhole, TiedLink, tied_swap, meets_like, none_due, IsNew, waiting_new, tied_new}
use Rattle.link_laws.proofs.sessions.Ties.{new_meets, behind_fits, Rests, drains, sends_nothing, sends_ua, tied_none, tied_older, turned-phase}
use Rattle.link_laws.proofs.Cases.{by_phase, by_test}

-- what an RSET tells that comes first
pub record Tells (l : ShdlcLink) (xs : List OnWire) (v : ℕ) : Type 0 where
  pub wide : 0 < v
  pub waiting : l.host.side.phase ≡ Waiting
  pub uas : uas l.to_host ≡ []
  pub behind : AfterRset xs

-- A frame is taken: one of its session; one of a session, in none; an RSET that begins a session; an RSET while it waits; the
-- UA that it waits for.
pub takes_by : (P : Type 0) (l : ShdlcLink) (x : OnWire) (xs : List OnWire) → Safe 0 0 l.controller l.host (x ∷ xs) l.to_host l.resets
    → (let e : EndState = l.controller.side in
    (IsData x.frame → e.phase ≡ Up → (taken e x.frame).phase ≡ Up → AnswersOnly (taken e x.frame).due → length (taken e x.frame).due ≤ 1 → P)
    → (IsData x.frame → (e.phase ≡ Up → ⊥) → taken e x.frame ≡ e → P)
    → ((v : ℕ) → Tells l xs v → xs ≡ [] → taken e x.frame ≡ up_with (record e { due = Ua_due ∷ [] }) (min e.own_window (min v 4)) → P)
    → ((v : ℕ) → Tells l xs v → e.phase ≡ Waiting → e.session ≡ no_session → taken e x.frame ≡ record e { due = Ua_due ∷ []; peer_window = min v 4 } → P)
    → (x.frame ≡ Ua → e.phase ≡ Waiting → rsets l.to_host ≡ [] → P) → P)
takes_by P l x xs h session passed new waits confirmed = grind arith

-- ## The controller's end is up

-- what joins it to the other end
meets_up : (n : Losses) (l : ShdlcLink) → l.controller.side.phase ≡ Up → TiedLink n l → IsWhole n → (b : List OnWire)
    → live l.host.side.phase (sans l.to_host) ≡ Some b
    → Meets l.controller.side (as_up l.host.side.phase l.host.side) (sans l.to_controller) b
meets_up n l up t w b q =
    to_up (λ e. Meets e (as_up l.host.side.phase l.host.side) (sans l.to_controller) b) l.controller.side up (t (inr w) (sans l.to_controller) b (rw up refl) q)

pub few_room : (e : EndState) → length e.due ≤ 1 → room e ≤ 2
few_room e i = omega (arith, i, at_most_one e.session.answered_rnr)

-- the link after it became e, had its turns and sent what is due
abbrev Goes : Losses → ShdlcLink → List ShdlcTurn → EndState → Type 0
Goes n l ts e = TiedLink (noted_out n l (shdlc_turned e ts)) (shdlc_becomes l (shdlc_turned e ts))

-- it becomes e, and what joins them is kept
up_becomes : (n : Losses) (ts : List ShdlcTurn) (l : ShdlcLink) (e : EndState) → l.controller.side.phase ≡ Up → e.phase ≡ Up → AnswersOnly e.due
    → length e.due ≤ 1
    → ((f : EndState) (w : List OnWire) → Joined (Unit {0}) l.controller.side f (sans l.to_controller) w
    → Joined (Unit {0}) e f (sans l.to_controller) w)
    → TiedLink n l → Goes n l ts e
up_becomes n ts l e up eup answers few step t =
    drains 12 (omega arith) n ts l e eup answers (few_room e few)
    (λ w b q. let m = meets_up n l up t w b q in (step (as_up l.host.side.phase l.host.side) b m.joined, m.far, tt))

-- it is in no session, and has nothing to send
tied_down : (n : Losses) (l : ShdlcLink) → l.controller.side.phase ≡ Down → TiedLink n l
tied_down n l down w a b p q = absurd (let z : None ≡ Some a = rw down at p in cc)

-- an end without a session has nothing to send
pub idle_end : (e : EndState) → e.due ≡ [] → e.session ≡ no_session → frame_due e ≡ None
idle_end e due none = rw (due, none) refl

-- its turns change nothing but its readiness
turn_idle : (e : EndState) (t : ShdlcTurn) → (e.phase ≡ Up → ⊥) → e.session ≡ no_session → Idle e (shdlc_turn e t)
turn_idle e t no_up none = grind arith

idle_then : {d e f : EndState} → Idle d e → Idle e f → Idle d f
idle_then a b = record { phase = b.phase ∙ a.phase; due = b.due ∙ a.due; session = b.session; own = b.own ∙ a.own; peer = b.peer ∙ a.peer }

pub turned_idle : (ts : List ShdlcTurn) (e : EndState) → (e.phase ≡ Up → ⊥) → e.session ≡ no_session → Idle e (shdlc_turned e ts)
turned_idle [] e no_up none = record { phase = refl; due = refl; session = none; own = refl; peer = refl }
turned_idle (t ∷ ts) e no_up none =
    let a = turn_idle e t no_up none in
    idle_then a (turned_idle ts (shdlc_turn e t) (λ u. no_up (sym a.phase ∙ u)) a.session)

-- it waits, and waits on
waits_on : (n : Losses) (l : ShdlcLink) {e : EndState} → l.controller.side.phase ≡ Waiting → Idle l.controller.side e
    → TiedLink n l → TiedLink n (with_shdlc_controller l e)
waits_on n l {e} waiting on t w a b p q =
    let ewait : e.phase ≡ Waiting = on.phase ∙ waiting in
    let f : EndState = as_up l.host.side.phase l.host.side in
    let P : LinkState → Type 0 = λ s. Meets (as_up s l.controller.side) f a b in
    let m : Meets (as_up Waiting l.controller.side) f a b = subst P waiting (t (grind arith) a b (rw waiting (rw ewait at p)) q) in
    subst (λ s. Meets (as_up s e) f a b) (sym ewait) (grind arith)
  where
    windows : min e.own_window e.peer_window ≡ min l.controller.side.own_window l.controller.side.peer_window
    windows = rw (on.own, on.peer) refl

waits_turned : (n : Losses) (ts : List ShdlcTurn) (l : ShdlcLink) (e : EndState)
    → l.controller.side.phase ≡ Waiting → Idle l.controller.side e → l.controller.side.due ≡ [] → TiedLink n l → Goes n l ts e
waits_turned n ts l e waiting on due t =
    let turned : Idle l.controller.side (shdlc_turned e ts) = idle_then on (turned_idle ts e (grind arith) on.session) in
    sends_nothing 12 n l (shdlc_turned e ts) (idle_end (shdlc_turned e ts) (turned.due ∙ due) turned.session) (waits_on n l waiting turned t)

-- it has turns, and nothing else
stays : (n : Losses) (ts : List ShdlcTurn) (l : ShdlcLink) → l.controller.side.due ≡ []
    → ((l.controller.side.phase ≡ Up → ⊥) → l.controller.side.session ≡ no_session)
    → TiedLink n l → Goes n l ts l.controller.side
stays n ts l due none t =
    by_phase {P = Goes n l ts e} e.phase (λ q. up_becomes n ts l e q q (rw due tt) (rw due (omega arith)) (λ f w j. j) t) (λ q.
    waits_turned n ts l e q (record { phase = refl; due = refl; session = none (λ u. let g = sym q ∙ u in cc); own = refl; peer = refl }) due t)
    (λ q. tied_none 12 n l (shdlc_turned e ts) (rw (turned-phase ts e ∙ q) refl))
  where
    e : EndState
    e = l.controller.side

-- it has sent an RSET and waits
asks : (n : Losses) (ts : List ShdlcTurn) (l : ShdlcLink) (e : EndState) (ends : Bool)
    → e.phase ≡ Waiting → uas (sans l.to_controller) ≡ [] → Goes n (with_shdlc_ended l ends) ts e
asks n ts l e true waiting none =
    tied_none 12 n (with_shdlc_ended l true) (shdlc_turned e ts) (rw (turned-phase ts e ∙ waiting) (behind_none (sans l.to_controller) none))
asks n ts l e false waiting none = tied_none 12 n l (shdlc_turned e ts) (rw (turned-phase ts e ∙ waiting) (behind_none (sans l.to_controller) none))

resets : (kf : ℕ) (n : Losses) (ts : List ShdlcTurn) (l : ShdlcLink) (w : ℕ) → SafeLink 0 kf l → TiedLink n l
    → TiedLink (noted_here n l (Reset w ts)) (shdlc_happens_at_controller l (Reset w ts))
resets kf n ts l w h t =
    by_phase l.controller.side.phase
    (λ q. by_parts true (waiting_from e) (rw q refl) (rw q refl) (asks n ts l (waiting_from e) true refl (grind arith)))
    (λ q. by_parts false l.controller.side (rw q refl) (rw q refl) (stays n ts l h.n_due h.n_none t))
    (λ q. by_parts false (waiting_from e) (rw q refl) (rw q refl) (asks n ts l (waiting_from e) false refl (grind arith)))
  where
    e : EndState
    e = record l.controller.side { own_window = w }

    by_parts : (b : Bool) (q : EndState) → is_up l.controller.side.phase ≡ b → reset_with l.controller.side w ≡ q → Goes n (with_shdlc_ended l b) ts q
        → TiedLink (noted_here n l (Reset w ts)) (shdlc_happens_at_controller l (Reset w ts))
    by_parts b q up is a =
        let P : Bool → EndState → Type 0 = λ c f. Goes n (with_shdlc_ended l c) ts f in
        subst (λ c. P c (reset_with l.controller.side w)) (sym up) (subst (P b) (sym is) a)

silences : (n : Losses) (l : ShdlcLink) (q : EndState) → q.phase ≡ Down → TiedLink n (shdlc_silent l q)
silences n l q down = grind arith

-- a tick
ticks : (kf : ℕ) (n : Losses) (ts : List ShdlcTurn) (l : ShdlcLink) → SafeLink 1 kf l → TiedLink n l
    → TiedLink (noted_tick n (Some ts) l) (shdlc_ticks_at_controller l ts)
ticks kf n ts l h t = go e.phase (runs_timer e.session) (nat_lt (e.timer + 1) 10) (nat_lt e.tries 5) refl refl refl refl
  where
    e : EndState
    e = l.controller.side

    Q : Type 0
    Q = TiedLink (noted_tick n (Some ts) l) (shdlc_ticks_at_controller l ts)

    by_parts : (b : Bool) (q : EndState) → is_some (tick_answer e).ended ≡ b → ticked e ≡ q → Goes n (with_shdlc_ended l b) ts q → Q
    by_parts b q ends is a =
        let P : Bool → EndState → Type 0 = λ c f. Goes n (with_shdlc_ended l c) ts f in
        subst (λ c. P c (ticked e)) (sym ends) (subst (P b) (sym is) a)

    on : e.phase ≡ Up → (tick_answer e).ended ≡ None → Q
    on p quit =
        by_parts false (ticked e) (rw quit refl) refl
        (up_becomes n ts l (ticked e) p (tick_cases (λ f. f.phase ≡ Up) e p quit p p p)
        (tick_cases (λ f. AnswersOnly f.due) e p quit (rw h.n_due tt) (rw h.n_due tt) (rw h.n_due tt))
        (tick_cases (λ f. length f.due ≤ 1) e p quit (rw h.n_due (omega arith)) (rw h.n_due (omega arith)) (rw h.n_due (omega arith)))
        (λ f w j. joined_ticked (Unit {0}) e f (sans l.to_controller) w quit j) t)

    late : nat_lt (e.timer + 1) 10 ≡ false → NothingIsOut (sans l.to_controller) (sans l.to_host)
    late r = nothing_out h.hand (let g = ltb-false (e.timer + 1) 10 r in omega arith)

    go : (p : LinkState) (a b c : Bool) → e.phase ≡ p → runs_timer e.session ≡ a → nat_lt (e.timer + 1) 10 ≡ b → nat_lt e.tries 5 ≡ c → Q
    go Down a b c p q r s = by_parts false e (rw p refl) (rw p refl) (tied_none 12 n l (shdlc_turned e ts) (rw (turned-phase ts e ∙ p) refl))
    go Up false b c p q r s = on p (rw (p, q) refl)
    go Up true true c p q r s = on p (rw (p, q, r) refl)
    go Up true false true p q r s = on p (rw (p, q, r, s) refl)
    go Up true false false p q r s =
        by_parts true (waiting_from e) (rw (p, q, r, s) refl) (rw (p, q, r, s) refl)
        (asks n ts l (waiting_from e) true refl (no_rset_out h p).no_ua)
    go Waiting a true c p q r s =
        by_parts false (record e { timer = e.timer + 1 }) (rw (p, r) refl) (rw (p, r) refl)
        (waits_turned n ts l (record e { timer = e.timer + 1 }) p
        (record { phase = refl; due = refl; session = h.n_none (λ u. let g = sym p ∙ u in cc); own = refl; peer = refl }) h.n_due t)
    go Waiting a false true p q r s =
        by_parts false (asked_again e) (rw (p, r, s) refl) (rw (p, r, s) refl) (asks n ts l (asked_again e) false p (late r).no_ua)
    go Waiting a false false p q r s =
        by_parts false (given_up e) (rw (p, r, s) refl) (rw (p, r, s) refl)
        (tied_none 12 n l (shdlc_turned (given_up e) ts) (rw (turned-phase ts (given_up e)) refl))

-- ## It takes a frame

abbrev noted_took : Losses → ShdlcLink → List ShdlcTurn → OnWire → List OnWire → Losses
noted_took n l ts x xs =
    let m : ShdlcLink = with_shdlc_ended (record l { to_controller = xs }) (is_some (take_answer l.controller.side x.frame).ended) in
    let t : ShdlcLink = record m { controller = record m.controller { took = took_with l.controller.took x } } in
    noted_out (came_up n t (take_answer l.controller.side x.frame).began) t (shdlc_turned (taken l.controller.side x.frame) ts)

-- the link after it took x, where it is q then, and a session began or didn't
took_tied : (n : Losses) (l : ShdlcLink) (ts : List ShdlcTurn) (x : OnWire) (xs : List OnWire) (q : EndState) (began : Bool)
    → taken l.controller.side x.frame ≡ q → (take_answer l.controller.side x.frame).began ≡ began
    → ((c : NumberedShdlc) → c.side ≡ l.controller.side → shdlc_number_of c ≡ max l.controller.emitted (took_with l.controller.took x)
    → Goes (came_up n (record l { to_controller = xs; controller = c }) began) (record l { to_controller = xs; controller = c }) ts q)
    → TiedLink (noted_took n l ts x xs) (took l ts x xs)
took_tied n l ts x xs q began a b h = rw (a, b) (go (is_some (take_answer l.controller.side x.frame).ended))
  where
    t : ℕ
    t = took_with l.controller.took x

    go : (ends : Bool) → (let m : ShdlcLink = with_shdlc_ended (record l { to_controller = xs }) ends in
        let k : ShdlcLink = record m { controller = record m.controller { took = t } } in
        Goes (came_up n k began) k ts q)
    go true = h (record l.controller { took = t; past = (shdlc_number_of l.controller, l.controller.side.session) ∷ l.controller.past }) refl refl
    go false = h (record l.controller { took = t }) refl refl

pub began_data : (e : EndState) (c : Control) → IsData c → (take_answer e c).began ≡ false
began_data e c d = grind arith

takes : (n : Losses) (l : ShdlcLink) (ts : List ShdlcTurn) (x : OnWire) (xs : List OnWire)
    → Safe 0 0 l.controller l.host (x ∷ sans xs) (sans l.to_host) l.resets
    → Tied (IsWhole n) l.controller.side l.host.side (x ∷ sans xs) (sans l.to_host) → TiedLink (noted_took n l ts x xs) (took l ts x xs)
takes n l ts x xs h t = takes_by (TiedLink (noted_took n l ts x xs) (took l ts x xs)) v x (sans xs) h in_session passed anew waits (λ is p none. confirmed is p)
  where
    v : ShdlcLink
    v = record l { to_host = sans l.to_host }

    e : EndState
    e = l.controller.side

    f : EndState
    f = as_up l.host.side.phase l.host.side

    in_session : IsData x.frame → e.phase ≡ Up → (taken e x.frame).phase ≡ Up → AnswersOnly (taken e x.frame).due → length (taken e x.frame).due ≤ 1
        → TiedLink (noted_took n l ts x xs) (took l ts x xs)
    in_session d up still answers few =
        took_tied n l ts x xs (taken e x.frame) false refl (began_data e x.frame d)
        (λ c side k. drains 12 (omega arith) n ts (record l { to_controller = xs; controller = c }) (taken e x.frame) still answers
        (few_room (taken e x.frame) few)
        (λ w b q.
        let m = to_up (λ y. Meets y f (x ∷ sans xs) b) e up (t (inr w) (x ∷ sans xs) b (rw up refl) q) in
        ((joined_taken (Unit {0}) e f x (sans xs) b m.joined).0, m.far, tt)))

    passed : IsData x.frame → (e.phase ≡ Up → ⊥) → taken e x.frame ≡ e → TiedLink (noted_took n l ts x xs) (took l ts x xs)
    passed d no_up same =
        took_tied n l ts x xs e false same (began_data e x.frame d)
        (λ c side k.
        let m : ShdlcLink = record l { to_controller = xs; controller = c } in
        let P : EndState → Type 0 = λ s. Tied (IsWhole n) s l.host.side (sans xs) (sans l.to_host) in
        let g = subst (λ s. (s.due ≡ []) × ((s.phase ≡ Up → ⊥) → s.session ≡ no_session)) (sym side) (h.n_due, h.n_none) in
        subst (λ s. Goes n m ts s) side
        (stays n ts m g.0 g.1 (subst P (sym side) (λ w a b q r. t w a b (before e.phase refl a q) r))))
      where
        before : (p : LinkState) → e.phase ≡ p → (a : List OnWire) → live e.phase (sans xs) ≡ Some a → live e.phase (x ∷ sans xs) ≡ Some a
        before Up p a q = absurd (no_up p)
        before Waiting p a q = let s : behind_ua (sans xs) ≡ Some a = rw p at q in rw p (data_behind x.frame (sans xs) (behind_ua (sans xs)) d ∙ s)
        before Down p a q = absurd (let z : None ≡ Some a = rw p at q in cc)

    far_new : (u : ℕ) → Tells v (sans xs) u → IsNew f
    far_new u s = waiting_new l.host.side s.waiting h.f_windows

    -- what stands on the wire to the other end once the UA is there
    far_empty : (u : ℕ) → Tells v (sans xs) u → (c : NumberedShdlc) (b : List OnWire)
        → live l.host.side.phase (sans (shdlc_put (record l { to_controller = xs; controller = c }) Ua).to_host) ≡ Some b → b ≡ []
    far_empty u s c b p = behind_fits l.to_host (record { frame = Ua; age = 0; number = 0 }) refl s.uas b (rw s.waiting at p)

    anew : (u : ℕ) → Tells v (sans xs) u → sans xs ≡ [] → taken e x.frame ≡ up_with (record e { due = Ua_due ∷ [] }) (min e.own_window (min u 4))
        → TiedLink (noted_took n l ts x xs) (took l ts x xs)
    anew u s gone to =
        let w : ℕ = min e.own_window (min u 4) in
        took_tied n l ts x xs (up_with (record e { due = Ua_due ∷ [] }) w) (take_answer e x.frame).began to refl
        (λ c side k.
        let m : ShdlcLink = record l { to_controller = xs; controller = c } in
        let z : Losses = came_up n m (take_answer e x.frame).began in
        sends_ua 11 z ts m (up_end e w)
        (drains 11 (omega arith) (noted_loss z m Ua) ts (shdlc_put m Ua) (up_end e w) refl tt (omega arith)
        (λ y b q.
        let g = new_meets (up_end e w) f (grind arith) (far_new u s) in
        let P : List OnWire → Type 0 = λ a. Joined (Unit {0}) (up_end e w) f a b in
        (subst P (sym gone) (subst (λ a. Joined (Unit {0}) (up_end e w) f [] a) (sym (far_empty u s c b q)) g.joined), g.far, tt))))

    waits : (u : ℕ) → Tells v (sans xs) u → e.phase ≡ Waiting → e.session ≡ no_session → taken e x.frame ≡ record e { due = Ua_due ∷ []; peer_window = min u 4 }
        → TiedLink (noted_took n l ts x xs) (took l ts x xs)
    waits u s p none to =
        let q : EndState = record e { due = []; peer_window = min u 4 } in
        let g = turned_idle ts q (λ y. let z = sym p ∙ y in let o : Waiting ≡ Up = z in cc) none in
        let d : EndState = shdlc_turned q ts in
        let waiting : d.phase ≡ Waiting = g.phase ∙ p in
        took_tied n l ts x xs (record e { due = Ua_due ∷ []; peer_window = min u 4 }) (take_answer e x.frame).began to refl
        (λ c side k.
        let m : ShdlcLink = record l { to_controller = xs; controller = c } in
        let z : Losses = came_up n m (take_answer e x.frame).began in
        sends_ua 11 z ts m q
        (sends_nothing 11 (noted_loss z m Ua) (shdlc_put m Ua) d (idle_end d g.due g.session)
        (tied_new (IsWhole (noted_loss z m Ua)) d l.host.side (sans xs) (sans (shdlc_put m Ua).to_host)
        (waiting_new d waiting (record { own = rw g.own h.n_windows.own; peer = rw g.peer (omega (arith, s.wide), omega arith) }))
        (far_new u s) (λ a r. behind (sans xs) s.behind a (rw waiting at r)) (λ b r. far_empty u s c b r))))
      where
        behind : (w : List OnWire) → AfterRset w → (a : List OnWire) → behind_ua w ≡ Some a → a ≡ []
        behind [] g a r = cc
        behind (z ∷ []) g a r = let y : Some [] ≡ Some a = rw g at r in cc
        behind (z ∷ y ∷ w) g a r = absurd g

    -- it comes up by its UA
    confirmed : x.frame ≡ Ua → e.phase ≡ Waiting → TiedLink (noted_took n l ts x xs) (took l ts x xs)
    confirmed is p =
        took_tied n l ts x xs (up_with e w) true (rw (is, p) refl) (rw (is, p) refl)
        (λ c side k.
        let m : ShdlcLink = record l { to_controller = xs; controller = c } in
        drains 12 (omega arith) (came_up n m true) ts m (up_with e w) refl (rw h.n_due tt) (few_room (up_with e w) (rw h.n_due (omega arith)))
        (first c (k ∙ ap (max l.controller.emitted) (took_other l.controller.took x (not_rset x.frame (inr is)))) (is_up_with l.host (shdlc_number_of c)) refl))
      where
        w : ℕ
        w = min e.own_window e.peer_window

        lives : live e.phase (x ∷ sans xs) ≡ Some (sans xs)
        lives = rw (p, is) refl

        -- as it was before
        meets : (((e.phase ≡ Waiting) × (l.host.side.phase ≡ Waiting)) ⊎ IsWhole n) → (b : List OnWire) → live l.host.side.phase (sans l.to_host) ≡ Some b
            → Joined (Unit {0}) (up_with e w) f (sans xs) b × (frame_due f ≡ None) × Unit {0}
        meets u b r =
            let P : LinkState → Type 0 = λ s. Meets (as_up s e) f (sans xs) b in
            let g : Meets (up_end e w) f (sans xs) b = subst P p (t u (sans xs) b lives r) in
            let m = meets_like (up_end e w) (up_with e w) f (sans xs) b refl h.n_due refl (rw (h.n_due, none_due w) refl) g in
            (m.joined, m.far, tt)

        -- where nothing is noted yet, both waited
        both : (c : NumberedShdlc) → shdlc_number_of c ≡ shdlc_number_of l.controller → is_up_with l.host (shdlc_number_of c) ≡ false → (b : List OnWire)
            → live l.host.side.phase (sans l.to_host) ≡ Some b
            → l.host.side.phase ≡ Waiting
        both c n off b r =
            by_phase l.host.side.phase (grind arith)
            (λ q. q) (λ q. absurd (let z : None ≡ Some b = rw q at r in cc))

        first : (c : NumberedShdlc) → shdlc_number_of c ≡ shdlc_number_of l.controller → (o : Bool) → is_up_with l.host (shdlc_number_of c) ≡ o
            → Rests (Unit {0}) (IsWhole (came_up n (record l { to_controller = xs; controller = c }) true)) (up_with e w) l.host.side (sans xs) (sans l.to_host)
        first c k true q = rw q (λ u b r. meets (inr u) b r)
        first c k false q = rw q (λ u b r. meets (inl (p, both c k q b r)) b r)

delivers : (n : Losses) (ts : List ShdlcTurn) (l : ShdlcLink) → SafeLink 0 0 l → TiedLink n l
    → TiedLink (noted_here n l (Deliver ts)) (shdlc_happens_at_controller l (Deliver ts))
delivers n ts l h t = go l.to_controller h t
  where
    e : EndState
    e = l.controller.side

    first : (x : OnWire) (xs : List OnWire) (b : Bool) → is_act x.frame ≡ b → Safe 0 0 l.controller l.host (sans (x ∷ xs)) (sans l.to_host) l.resets
        → Tied (IsWhole n) e l.host.side (sans (x ∷ xs)) (sans l.to_host)
        → TiedLink (noted_took n (record l { to_controller = x ∷ xs }) ts x xs) (took (record l { to_controller = x ∷ xs }) ts x xs)
    first x xs false q g t = takes n (record l { to_controller = x ∷ xs }) ts x xs (rw q at g) (rw q at t)
    first x xs true q g t =
        took_tied n (record l { to_controller = x ∷ xs }) ts x xs e false (passes_act e x.frame q).0 (began_data e x.frame (grind arith))
        (λ c side k.
        let m : ShdlcLink = record l { to_controller = xs; controller = c } in
        let P : EndState → Type 0 = λ s. Tied (IsWhole n) s l.host.side (sans xs) (sans l.to_host) in
        let z = subst (λ s. (s.due ≡ []) × ((s.phase ≡ Up → ⊥) → s.session ≡ no_session)) (sym side) (h.n_due, h.n_none) in
        subst (λ s. Goes n m ts s) side (stays n ts m z.0 z.1 (subst P (sym side) (rw q at t))))

    go : (wire : List OnWire) → Safe 0 0 l.controller l.host (sans wire) (sans l.to_host) l.resets → Tied (IsWhole n) e l.host.side (sans wire) (sans l.to_host)
        → TiedLink (noted_here n (record l { to_controller = wire }) (Deliver ts))
        (shdlc_happens_at_controller (record l { to_controller = wire }) (Deliver ts))
    go [] g t = t
    go (x ∷ xs) g t = first x xs (is_act x.frame) refl g t

-- ## A frame is lost

tied_weaker : (W V : Type 0) (n f : EndState) (to_n to_f : List OnWire) → (V → W) → Tied W n f to_n to_f → Tied V n f to_n to_f
tied_weaker W V n f to_n to_f weak t (inl u) = t (inl u)
tied_weaker W V n f to_n to_f weak t (inr v) = t (inr (weak v))

tied_lose : {kn : ℕ} (W V : Type 0) {n f : NumberedShdlc} {x : OnWire} {to_n to_f : List OnWire} {r : ℕ} → (V → ⊥) → Safe kn 0 n f (x ∷ to_n) to_f r
    → Tied W n.side f.side (x ∷ to_n) to_f → Tied V n.side f.side to_n to_f
tied_lose W V lossy h t (inr v) a b p q = absurd (lossy v)
tied_lose W V {n} {f} {x} {to_n} {to_f} lossy h t (inl u) a b p q = go (frame_cases x)
  where
    go : IsData x.frame ⊎ (IsRset x ⊎ (x.frame ≡ Ua)) → Meets (as_up n.side.phase n.side) (as_up f.side.phase f.side) a b
    go (inl d) = t (inl u) a b (let s : behind_ua to_n ≡ Some a = rw u.0 at p in rw u.0 (data_behind x.frame to_n (behind_ua to_n) d ∙ s)) q
    go (inr (inl s)) =
        let k = rset_told h.hand s in
        absurd (let z : behind_ua to_f ≡ Some b = rw u.1 at q in let y : None ≡ Some b = sym (behind_none to_f k.out.no_ua) ∙ z in cc)
    go (inr (inr s)) =
        let k = ua_told h.hand s in
        absurd (let z : behind_ua to_n ≡ Some a = rw u.0 at p in let y : None ≡ Some a = sym (behind_none to_n k.0.no_ua) ∙ z in cc)

loses : (n : Losses) (l : ShdlcLink) → SafeLink 0 0 l → TiedLink n l → TiedLink (noted_here n l Lose) (shdlc_happens_at_controller l Lose)
loses n l h t = go l.to_controller h t
  where
    f : EndState
    f = l.host.side

    go : (wire : List OnWire) → Safe 0 0 l.controller l.host (sans wire) (sans l.to_host) l.resets
        → Tied (IsWhole n) l.controller.side f (sans wire) (sans l.to_host)
        → TiedLink (noted_here n (record l { to_controller = wire }) Lose) (shdlc_happens_at_controller (record l { to_controller = wire }) Lose)
    go [] g t =
        tied_weaker (IsWhole n) (IsWhole (record n { lost = n.lost || false })) l.controller.side f [] (sans l.to_host)
        (λ v. ((or_parts n.lost false v.0).0, v.1)) t
    go (x ∷ xs) g t =
        by_test {P = Tied V l.controller.side f (sans xs) (sans l.to_host)} (is_act x.frame) (λ q.
        tied_weaker (IsWhole n) V l.controller.side f (sans xs) (sans l.to_host) (λ v. ((or_parts n.lost (counts_first (x ∷ xs)) v.0).0, v.1)) (rw q at t))
        (λ q.
        tied_lose (IsWhole n) V
        (λ v. let z : true ≡ false = rw q at ((or_parts n.lost (counts_first (x ∷ xs)) v.0).1) in true≢false z) (rw q at g) (rw q at t))
      where
        V : Type 0
        V = IsWhole (record n { lost = n.lost || counts_first (x ∷ xs) })

-- a wire that is full loses its first frame
fits_tied : {kf : ℕ} (W V : Type 0) {n f : NumberedShdlc} {to_n : List OnWire} (w : List OnWire) {r : ℕ} → (V → W) → (V → overflows w ≡ false)
    → Safe 0 kf n f to_n (sans w) r → Tied W n.side f.side to_n (sans w) → Tied V n.side f.side to_n (sans (fits w))
fits_tied {kf} W V {n} {f} {to_n} w {r} weak over h t = go (nat_lt 64 (length w)) w over h t
  where
    first : (x : OnWire) (xs : List OnWire) (b : Bool) → is_act x.frame ≡ b → (V → counts_first (x ∷ xs) ≡ false) → Safe 0 kf n f to_n (sans (x ∷ xs)) r
        → Tied W n.side f.side to_n (sans (x ∷ xs)) → Tied V n.side f.side to_n (sans xs)
    first x xs true q over g t = tied_weaker W V n.side f.side to_n (sans xs) weak (rw q at t)
    first x xs false q over g t =
        tied_swap V f.side n.side (sans xs) to_n
        (tied_lose W V (λ v. let z : true ≡ false = rw q at (over v) in true≢false z) (safe_swap (rw q at g))
        (tied_swap W n.side f.side to_n (x ∷ sans xs) (rw q at t)))

    go : (b : Bool) (v : List OnWire) → (V → (b && counts_first v) ≡ false) → Safe 0 kf n f to_n (sans v) r → Tied W n.side f.side to_n (sans v)
        → Tied V n.side f.side to_n (sans (cond b (drop 1 v) v))
    go false v over g t = tied_weaker W V n.side f.side to_n (sans v) weak t
    go true [] over g t = tied_weaker W V n.side f.side to_n [] weak t
    go true (x ∷ xs) over g t = first x xs (is_act x.frame) refl over g t

-- frames of activation stand beside the others
acts_then : (kf : ℕ) (ts : List ShdlcTurn) (acts : List Activation) (n : Losses) (l : ShdlcLink) → SafeLink 0 kf l → TiedLink n l
    → Goes (noted_all n l (map act_frame acts)) (shdlc_put_all l (map act_frame acts)) ts l.controller.side
acts_then kf ts [] n l h t = stays n ts l h.n_due h.n_none t
acts_then kf ts (a ∷ acts) n l h t =
    let x : OnWire = record { frame = act_frame a; age = 0; number = 0 } in
    let w : List OnWire = l.to_host ++ x ∷ [] in
    let same : sans l.to_host ≡ sans w = sym (sans-push_act l.to_host x refl) in
    let P : List OnWire → Type 0 = λ v. Safe 0 kf l.controller l.host (sans l.to_controller) v l.resets in
    let g : Safe 0 kf l.controller l.host (sans l.to_controller) (sans w) l.resets = subst P same h in
    let Q : List OnWire → Type 0 = λ v. Tied (IsWhole n) l.controller.side l.host.side (sans l.to_controller) v in
    let u : TiedLink (noted_loss n l (act_frame a)) (shdlc_put l (act_frame a)) =
    fits_tied (IsWhole n) (IsWhole (noted_loss n l (act_frame a))) w
    (λ v. ((or_parts n.lost (overflows w) v.0).0, (or_parts n.rnr false v.1).0)) (λ v. (or_parts n.lost (overflows w) v.0).1) g (subst Q same t) in
    acts_then kf ts acts (noted_loss n l (act_frame a)) (shdlc_put l (act_frame a)) (fits_keeps w g) u

ignores : (n : Losses) (ts : List ShdlcTurn) (l : ShdlcLink) → TiedLink n l → TiedLink (noted_here n l (Ignore ts)) (shdlc_happens_at_controller l (Ignore ts))
ignores n ts l t = go l.controller.side.phase refl l.to_controller refl
  where
    by_parts : (k : Losses) (m : ShdlcLink) → noted_here n l (Ignore ts) ≡ k → shdlc_happens_at_controller l (Ignore ts) ≡ m → TiedLink k m
        → TiedLink (noted_here n l (Ignore ts)) (shdlc_happens_at_controller l (Ignore ts))
    by_parts k m p q g = subst (λ i. TiedLink i (shdlc_happens_at_controller l (Ignore ts))) (sym p) (subst (TiedLink k) (sym q) g)

    go : (p : LinkState) → l.controller.side.phase ≡ p → (wire : List OnWire)
        → l.to_controller ≡ wire → TiedLink (noted_here n l (Ignore ts)) (shdlc_happens_at_controller l (Ignore ts))
    go Down q [] w = by_parts n l (rw (q, w) refl) (rw (q, w) refl) t
    go Down q (x ∷ xs) w =
        let m : ShdlcLink = record l { to_controller = xs; controller = record l.controller { took = took_with l.controller.took x } } in
        by_parts (noted_out n m (shdlc_turned l.controller.side ts)) (shdlc_becomes m (shdlc_turned l.controller.side ts)) (rw (q, w) refl) (rw (q, w) refl)
        (tied_none 12 n m (shdlc_turned l.controller.side ts) (rw (turned-phase ts l.controller.side ∙ q) refl))
    go _ q wire w = by_parts n l (rw q refl) (rw q refl) t

tied_fresh : (W V : Type 0) {n f : NumberedShdlc} (to_n : List OnWire) {to_f : List OnWire} {r : ℕ} → (V → W) → (V → loses_aged to_n ≡ false)
    → Safe 0 0 n f to_n to_f r → Tied W n.side f.side to_n to_f → Tied V n.side f.side (fresh to_n) to_f
tied_fresh W V {n} {f} [] {to_f} weak fit h t = tied_weaker W V n.side f.side [] to_f weak t
tied_fresh W V {n} {f} (x ∷ xs) {to_f} {r} weak fit h t =
    by_test {P = Tied V n.side f.side (fresh (x ∷ xs)) to_f} (nat_lt x.age 4) (λ q. rw q (tied_weaker W V n.side f.side (x ∷ xs) to_f weak t)) (λ q.
    let lossy : V → ⊥ = λ v. true≢false (rw q at (fit v)) in
    rw q ((tied_fresh V V xs (λ v. v)) (λ v. absurd (lossy v)) (safe_lose h) (tied_lose W V lossy h t)))

ages : (n : Losses) (l : ShdlcLink) → SafeLink 0 0 l → TiedLink n l → TiedLink (noted_aged n l) (shdlc_aged l)
ages i l h t =
    let n = l.controller in
    let f = l.host in
    let V : Type 0 = IsWhole (noted_aged i l) in
    let tc : List OnWire = sans l.to_controller in
    let th : List OnWire = sans l.to_host in
    let a : Bool = loses_aged tc in
    let b : Bool = loses_aged th in
    let one : Tied V n.side f.side (fresh tc) th =
    tied_fresh (IsWhole i) V tc
    (λ v. ((or_parts i.lost a (or_parts (i.lost || a) b v.0).0).0, v.1)) (λ v. (or_parts i.lost a (or_parts (i.lost || a) b v.0).0).1) h t in
    let two : Tied V f.side n.side (fresh th) (fresh tc) =
    tied_fresh V V th (λ v. v) (λ v. (or_parts (i.lost || a) b v.0).1) (safe_swap (safe_fresh tc h))
    (tied_swap V n.side f.side (fresh tc) th one) in
    rw (sans-aged l.to_controller ∙ (aged-fresh tc h.hand.n_young).0, sans-aged l.to_host ∙ (aged-fresh th h.hand.f_young).0)
    (tied_older V n.side f.side (fresh tc) (fresh th) (tied_swap V f.side n.side (fresh th) (fresh tc) two))

-- ## All events

swaps : (n : Losses) (l : ShdlcLink) → TiedLink n l → TiedLink n (shdlc_exchanged l)
swaps n l t = tied_swap (IsWhole n) l.controller.side l.host.side (sans l.to_controller) (sans l.to_host) t

tied_turn : (kf : ℕ) (n : Losses) (l : ShdlcLink) (e : ShdlcEndEvent) → IsTurn e → SafeLink 0 kf l → TiedLink n l
    → TiedLink (noted_here n l e) (shdlc_happens_at_controller l e)
tied_turn kf n l (Turns ts) a h t = stays n ts l h.n_due h.n_none t
tied_turn kf n l (Acts acts ts) a h t = acts_then kf ts acts n l h t
tied_turn kf n l (Reset w ts) a h t = resets kf n ts l w h t
tied_turn kf n l Cut a h t = silences n l (new_end 4) refl
tied_turn kf n l Stop a h t = silences n l (stopped l.controller.side) refl
tied_turn kf n l _ a h t = absurd a

tied_turns : (kf : ℕ) (es : List ShdlcEndEvent) (n : Losses) (l : ShdlcLink) → AreTurns es → SafeLink 0 kf l → TiedLink n l
    → TiedLink (noted_turns n l es) (shdlc_all_at_controller l es)
tied_turns kf [] n l a h t = t
tied_turns kf (e ∷ es) n l a h t =
    tied_turns kf es (noted_here n l e) (shdlc_happens_at_controller l e) a.1 (safe_turn kf l e a.0 h) (tied_turn kf n l e a.0 h t)

tied_at : (n : Losses) (l : ShdlcLink) (e : ShdlcEndEvent) → SafeLink 0 0 l → TiedLink n l → TiedLink (noted_here n l e) (shdlc_happens_at_controller l e)
tied_at n l (Turns ts) h t = stays n ts l h.n_due h.n_none t
tied_at n l (Deliver ts) h t = delivers n ts l h t
tied_at n l (Ignore ts) h t = ignores n ts l t
tied_at n l (Acts acts ts) h t = acts_then 0 ts acts n l h t
tied_at n l Lose h t = loses n l h t
tied_at n l (Reset w ts) h t = resets 0 n ts l w h t
tied_at n l Cut h t = silences n l (new_end 4) refl
tied_at n l Stop h t = silences n l (stopped l.controller.side) refl

tied_tick : (kf : ℕ) (n : Losses) (b : Option (List ShdlcTurn)) (l : ShdlcLink) → SafeLink 1 kf l → TiedLink n l
    → TiedLink (noted_tick n b l) (ticks_or_cut b l)
tied_tick kf n (Some ts) l h t = ticks kf n ts l h t
tied_tick kf n None l h t = silences n l (new_end 4) refl

tied_if_waiting : (kf : ℕ) (n : Losses) (l : ShdlcLink) → SafeLink 1 kf l → TiedLink n l → TiedLink (noted_if_waiting n l) (ticks_if_waiting l)
tied_if_waiting kf n l h t = by_test (is_waiting l.controller.side) (λ q. rw q (ticks kf n [] l h t)) (λ q. rw q t)

-- a tick of the host's end, where these things have happened at the controller's
tied_there : (turns : List ShdlcEndEvent) (d : Option (List ShdlcTurn)) (i : Losses) (near : ShdlcLink) → AreTurns turns → SafeLink 0 1 near → TiedLink i near
    → TiedLink (noted_tick (noted_turns i near turns) d (shdlc_exchanged (shdlc_all_at_controller near turns)))
    (shdlc_exchanged (ticks_or_cut d (shdlc_exchanged (shdlc_all_at_controller near turns))))
tied_there turns d i near a one t =
    let m : ShdlcLink = shdlc_all_at_controller near turns in
    let j : Losses = noted_turns i near turns in
    swaps (noted_tick j d (shdlc_exchanged m)) (ticks_or_cut d (shdlc_exchanged m))
    (tied_tick 0 j d (shdlc_exchanged m) (safe_exchanged 0 1 m (safe_turns 1 turns near a one)) (swaps j m (tied_turns 1 turns i near a one t)))

tied_event : (n : Losses) (l : ShdlcLink) (e : ShdlcLinkEvent) (es : List ShdlcLinkEvent) → AllShdlcAllowed (e ∷ es) → SafeLink 0 0 l → TiedLink n l
    → TiedLink (noted_event n l e) (shdlc_happens l e)
tied_event n l (AtController e) es a h t = tied_at n l e h t
tied_event n l (AtHost e) es a h t =
    swaps (noted_here n (shdlc_exchanged l) e) (shdlc_happens_at_controller (shdlc_exchanged l) e)
    (tied_at n (shdlc_exchanged l) e (safe_exchanged 0 0 l h) (swaps n l t))
tied_event n l (Tick c turns d) es a h t =
    tied_there turns d (noted_tick (noted_aged n l) c (shdlc_aged l)) (ticks_or_cut c (shdlc_aged l)) a.0 (tick_or_cut 1 c (shdlc_aged l) (safe_aged l h))
    (tied_tick 1 (noted_aged n l) c (shdlc_aged l) (safe_aged l h) (ages n l h t))
tied_event n l (TickWithout turns d) es a h t =
    tied_there turns d (noted_if_waiting (noted_aged n l) (shdlc_aged l)) (ticks_if_waiting (shdlc_aged l)) a.0
    (tick_if_waiting 1 (shdlc_aged l) (safe_aged l h))
    (tied_if_waiting 1 (noted_aged n l) (shdlc_aged l) (safe_aged l h) (ages n l h t))

tied_from : (events : List ShdlcLinkEvent) (n : Losses) (l : ShdlcLink) → AllShdlcAllowed events → SafeLink 0 0 l → TiedLink n l
    → TiedLink (losses_after n l events) (shdlc_after l events)
tied_from [] n l a h t = t
tied_from (e ∷ es) n l a h t = let s = safe_event l e es a h in tied_from es (noted_event n l e) (shdlc_happens l e) s.1 s.0 (tied_event n l e es a h t)

tied_start : (l : ShdlcLink) → IsShdlcStart l → TiedLink no_losses l
tied_start l BothDown = tied_down no_losses start_down refl
tied_start l BothUp = tied_new (IsWhole no_losses) (begun (new_end 4)) (begun (new_end 4)) [] [] new new (λ a p. cc) (λ a p. cc)
  where
    new : IsNew (begun (new_end 4))
    new = record { up = refl; due = refl; window = 4; fits = (omega arith, omega arith); session = refl }

tied : (l : ShdlcLink) → IsShdlcStart l → (events : List ShdlcLinkEvent) → AllShdlcAllowed events
    → TiedLink (losses_after no_losses l events) (shdlc_after l events)
tied l s events a = tied_from events no_losses l a (safe_start l s) (tied_start l s)

-- ## What follows

all_delivered : (n : Losses) (l : ShdlcLink) → TiedLink n l → IsShdlcQuiet l n → FragmentsDelivered l.controller.side.session l.host.side.session
all_delivered n l t q =
    let m = meets_up n l q.controller t (q.lost, q.rnr) (sans l.to_host) (rw q.host refl) in
    let k = to_up (λ e. Meets l.controller.side e (sans l.to_controller) (sans l.to_host)) l.host.side q.host m in
    delivered k.joined tt k.near k.far q.to_controller q.to_host

pub delivered_here : (l : ShdlcLink) → IsShdlcStart l → (events : List ShdlcLinkEvent) → AllShdlcAllowed events
    → IsShdlcQuiet (shdlc_after l events) (losses_after no_losses l events)
    → FragmentsDelivered (shdlc_after l events).controller.side.session (shdlc_after l events).host.side.session
delivered_here l s events a q = all_delivered (losses_after no_losses l events) (shdlc_after l events) (tied l s events a) q

pub delivered_there : (l : ShdlcLink) → IsShdlcStart l → (events : List ShdlcLinkEvent) → AllShdlcAllowed events
    → IsShdlcQuiet (shdlc_after l events) (losses_after no_losses l events)
    → FragmentsDelivered (shdlc_after l events).host.side.session (shdlc_after l events).controller.side.session
delivered_there l s events a q =
    let m = shdlc_after l events in
    let n = losses_after no_losses l events in
    all_delivered n (shdlc_exchanged m) (swaps n m (tied l s events a))
    (record { controller = q.host; host = q.controller; lost = q.lost; rnr = q.rnr; to_controller = q.to_host; to_host = q.to_controller })
