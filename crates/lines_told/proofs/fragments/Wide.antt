-- The window of a session isn't 0, whatever happened on the link before.
use Rattle.std.specs.Prelude.{is_some}
use Rattle.lines_told.proofs.Words.{Activation, Acts, AllShdlcAllowed, AreTurns, AtController, AtHost, Bool, Cut, Deliver, Down, EndState, HasWindows}
use Rattle.lines_told.proofs.Words.{Ignore, IsShdlcStart, IsTurn, List, Lose, None, NumberedShdlc, OnWire, Option, Reset, SafeLink, ShdlcEndEvent, ShdlcLink}
use Rattle.lines_told.proofs.Words.{ShdlcLinkEvent, ShdlcTurn, Some, Stop, Tick, TickWithout, Turns, Up, Waiting, [], act_frame, arith, frames_of, is_up}
use Rattle.lines_told.proofs.Words.{map, refl, reset_with, safe_event, safe_start, shdlc_after, shdlc_aged, shdlc_all_at_controller, shdlc_becomes}
use Rattle.lines_told.proofs.Words.{shdlc_exchanged, shdlc_happens, shdlc_happens_at_controller, shdlc_put_all, shdlc_silent, shdlc_ticks_at_controller}
use Rattle.lines_told.proofs.Words.{shdlc_turn, shdlc_turned, subst, sym, take_answer, taken, tick_answer, ticked, ticks_if_waiting, ticks_or_cut, took_with}
use Rattle.lines_told.proofs.Words.{turned-phase, with_shdlc_ended, ℕ, ◌<◌, ◌∙◌, ◌∷◌, ◌≡◌}
use Rattle.shdlc_core.specs.declared.answers.LinkState.{LinkState}
use Rattle.lines_told.proofs.fragments.Becomes.{put_all_same, sent_same}
use Rattle.lines_told.proofs.fragments.NearSteps.{ended_wires}

-- an end that is up may send
abbrev pub IsWide : EndState → Type 0
IsWide e = e.phase ≡ Up → 0 < e.session.window

pub record BothWide (l : ShdlcLink) : Type 0 where
  pub controller : IsWide l.controller.side
  pub host : IsWide l.host.side

-- ## What an end becomes

turned-window : (ts : List ShdlcTurn) (e : EndState) → (shdlc_turned e ts).session.window ≡ e.session.window
turned-window [] e = refl
turned-window (t ∷ ts) e = turned-window ts (shdlc_turn e t) ∙ (grind arith)

wide_becomes : (l : ShdlcLink) (ts : List ShdlcTurn) (e : EndState) → IsWide e → IsWide (shdlc_becomes l (shdlc_turned e ts)).controller.side
wide_becomes l ts e h up =
    let s = sent_same 12 (shdlc_turned e ts) in
    let w : 0 < e.session.window = h (sym (turned-phase ts e) ∙ (sym s.phase ∙ up)) in
    omega (arith, s.window, turned-window ts e)

not_up : (e : EndState) (p : LinkState) → e.phase ≡ p → (p ≡ Up → ⊥) → IsWide e
not_up e p q n up = absurd (n (sym q ∙ up))

-- ## What happens at the controller's end

pub silent_host : (l : ShdlcLink) (e : EndState) → (shdlc_silent l e).host ≡ l.host
silent_host l e = grind arith

-- what it does leaves it wide, and the other end as it is
record WideHere (l n : ShdlcLink) : Type 0 where
  wide : IsWide n.controller.side
  host : n.host ≡ l.host

becomes_here : (l m : ShdlcLink) (ts : List ShdlcTurn) (e : EndState) → m.host ≡ l.host → IsWide e → WideHere l (shdlc_becomes m (shdlc_turned e ts))
becomes_here l m ts e same h = record { wide = wide_becomes m ts e h; host = (put_all_same (frames_of 12 (shdlc_turned e ts)) m).1 ∙ same }

wide_ignored : (l : ShdlcLink) (ts : List ShdlcTurn) → IsWide l.controller.side → WideHere l (shdlc_happens_at_controller l (Ignore ts))
wide_ignored l ts h = go l.controller.side.phase refl l.to_controller refl
  where
    by : (m : ShdlcLink) → shdlc_happens_at_controller l (Ignore ts) ≡ m → WideHere l m → WideHere l (shdlc_happens_at_controller l (Ignore ts))
    by m q g = subst (WideHere l) (sym q) g

    go : (p : LinkState) → l.controller.side.phase ≡ p → (w : List OnWire) → l.to_controller ≡ w → WideHere l (shdlc_happens_at_controller l (Ignore ts))
    go Up p w q = by l (rw p refl) (record { wide = h; host = refl })
    go Waiting p w q = by l (rw p refl) (record { wide = h; host = refl })
    go Down p [] q = by l (rw (p, q) refl) (record { wide = h; host = refl })
    go Down p (x ∷ xs) q =
        let m : ShdlcLink = record l { to_controller = xs; controller = record l.controller { took = took_with l.controller.took x } } in
        by (shdlc_becomes m (shdlc_turned l.controller.side ts)) (rw (p, q) refl) (becomes_here l m ts l.controller.side refl h)

wide_delivered : (l : ShdlcLink) (ts : List ShdlcTurn) → HasWindows l.controller.side → IsWide l.controller.side
    → WideHere l (shdlc_happens_at_controller l (Deliver ts))
wide_delivered l ts has h = go l.to_controller
  where
    go : (w : List OnWire) → WideHere l (shdlc_happens_at_controller (record l { to_controller = w }) (Deliver ts))
    go [] = record { wide = h; host = refl }
    go (x ∷ xs) =
        let m : ShdlcLink = with_shdlc_ended (record l { to_controller = xs }) (is_some (take_answer l.controller.side x.frame).ended) in
        let same = ended_wires (record l { to_controller = xs }) (is_some (take_answer l.controller.side x.frame).ended) in
        becomes_here l (record m { controller = record m.controller { took = took_with l.controller.took x } }) ts (taken l.controller.side x.frame) same.2
        (grind arith)

wide_acts : (l : ShdlcLink) (acts : List Activation) (ts : List ShdlcTurn) → IsWide l.controller.side
    → WideHere l (shdlc_happens_at_controller l (Acts acts ts))
wide_acts l acts ts h = becomes_here l (shdlc_put_all l (map act_frame acts)) ts l.controller.side (put_all_same (map act_frame acts) l).1 h

wide_asks : (l : ShdlcLink) (w : ℕ) (ts : List ShdlcTurn) → IsWide l.controller.side → WideHere l (shdlc_happens_at_controller l (Reset w ts))
wide_asks l w ts h =
    becomes_here l (with_shdlc_ended l (is_up l.controller.side.phase)) ts (reset_with l.controller.side w) (ended_wires l (is_up l.controller.side.phase)).2
    (grind arith)

wide_silent : (l : ShdlcLink) (e : EndState) → e.phase ≡ Down → WideHere l (shdlc_silent l e)
wide_silent l e down = record { wide = grind arith; host = silent_host l e }

wide_here : (l : ShdlcLink) (e : ShdlcEndEvent) → HasWindows l.controller.side → IsWide l.controller.side → WideHere l (shdlc_happens_at_controller l e)
wide_here l (Turns ts) has h = becomes_here l l ts l.controller.side refl h
wide_here l (Deliver ts) has h = wide_delivered l ts has h
wide_here l (Ignore ts) has h = wide_ignored l ts h
wide_here l (Acts acts ts) has h = wide_acts l acts ts h
wide_here l Lose has h = record { wide = h; host = refl }
wide_here l (Reset w ts) has h = wide_asks l w ts h
wide_here l _ has h = wide_silent l _ refl

wide_turn : (l : ShdlcLink) (e : ShdlcEndEvent) → IsTurn e → IsWide l.controller.side → WideHere l (shdlc_happens_at_controller l e)
wide_turn l (Turns ts) a h = becomes_here l l ts l.controller.side refl h
wide_turn l (Acts acts ts) a h = wide_acts l acts ts h
wide_turn l (Reset w ts) a h = wide_asks l w ts h
wide_turn l Cut a h = wide_silent l _ refl
wide_turn l Stop a h = wide_silent l _ refl
wide_turn l _ a h = absurd a

then_wide : {l m n : ShdlcLink} → WideHere l m → WideHere m n → WideHere l n
then_wide a b = record { wide = b.wide; host = b.host ∙ a.host }

wide_turns : (es : List ShdlcEndEvent) (l : ShdlcLink) → AreTurns es → IsWide l.controller.side → WideHere l (shdlc_all_at_controller l es)
wide_turns [] l a h = record { wide = h; host = refl }
wide_turns (e ∷ es) l a h =
    let one = wide_turn l e a.0 h in
    then_wide one (wide_turns es (shdlc_happens_at_controller l e) a.1 one.wide)

wide_tick : (l : ShdlcLink) (ts : List ShdlcTurn) → IsWide l.controller.side → WideHere l (shdlc_ticks_at_controller l ts)
wide_tick l ts h =
    let b : Bool = is_some (tick_answer l.controller.side).ended in
    becomes_here l (with_shdlc_ended l b) ts (ticked l.controller.side) (ended_wires l b).2 (grind arith)

wide_tick_or_cut : (c : Option (List ShdlcTurn)) (l : ShdlcLink) → IsWide l.controller.side → WideHere l (ticks_or_cut c l)
wide_tick_or_cut (Some ts) l h = wide_tick l ts h
wide_tick_or_cut None l h = wide_silent l _ refl

-- ## Events

-- both ends after the far end's tick
wide_there : (l near : ShdlcLink) (es : List ShdlcEndEvent) (d : Option (List ShdlcTurn)) → AreTurns es → BothWide l → WideHere l near
    → BothWide (shdlc_exchanged (ticks_or_cut d (shdlc_exchanged (shdlc_all_at_controller near es))))
wide_there l near es d a h one =
    let all = then_wide one (wide_turns es near a one.wide) in
    let two = wide_tick_or_cut d (shdlc_exchanged (shdlc_all_at_controller near es)) (grind arith) in
    record { controller = subst (λ (x : NumberedShdlc). IsWide x.side) (sym two.host) all.wide; host = two.wide }

pub wide_event : (l : ShdlcLink) (e : ShdlcLinkEvent) (es : List ShdlcLinkEvent) → AllShdlcAllowed (e ∷ es) → SafeLink 0 0 l → BothWide l
    → BothWide (shdlc_happens l e)
wide_event l (AtController e) es a s h =
    let one = wide_here l e s.n_windows h.controller in
    record { controller = one.wide; host = subst (λ (x : NumberedShdlc). IsWide x.side) (sym one.host) h.host }
wide_event l (AtHost e) es a s h =
    let one = wide_here (shdlc_exchanged l) e s.f_windows h.host in
    record { controller = subst (λ (x : NumberedShdlc). IsWide x.side) (sym one.host) h.controller; host = one.wide }
wide_event l (Tick c turns d) es a s h =
    wide_there (shdlc_aged l) (ticks_or_cut c (shdlc_aged l)) turns d a.0 (record { controller = h.controller; host = h.host })
    (wide_tick_or_cut c (shdlc_aged l) h.controller)
wide_event l (TickWithout turns d) es a s h =
    wide_there (shdlc_aged l) (ticks_if_waiting (shdlc_aged l)) turns d a.0 (record { controller = h.controller; host = h.host })
    (let h0 = ticks_if_waiting (shdlc_aged l) in let h1 = wide_tick (shdlc_aged l) [] h.controller in grind arith)

wide_after : (events : List ShdlcLinkEvent) (l : ShdlcLink) → AllShdlcAllowed events → SafeLink 0 0 l → BothWide l → BothWide (shdlc_after l events)
wide_after [] l a s h = h
wide_after (e ∷ es) l a s h =
    let safe = safe_event l e es a s in
    wide_after es (shdlc_happens l e) safe.1 safe.0 (wide_event l e es a s h)

pub wide : (l : ShdlcLink) → IsShdlcStart l → (events : List ShdlcLinkEvent) → AllShdlcAllowed events → BothWide (shdlc_after l events)
wide l s events a = wide_after events l a (safe_start l s) (grind arith)
