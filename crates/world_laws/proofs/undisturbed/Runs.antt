-- Where nothing that disturbs a link is noted of an event or of rounds, and both its ends are up and ready, it is undisturbed.
use Rattle.std.specs.Prelude.{is_some, nat_lt}
use Rattle.world_laws.proofs.Words.{Acked, Active, AllAllowed, AllByRecursion, AreReadyThroughout, AreSendableTurns, AreUndisturbed, Asked, AsksReset}
use Rattle.world_laws.proofs.Words.{AtController, AtHost, Before, Bool, BothTakeFragments, Control, Controller, CoreAtController, CoreAtHost, CoreEndEvent}
use Rattle.world_laws.proofs.Words.{CoreLink, CoreLinkEvent, CoreTick, CoreTurn, Cut, CutOff, EndEvent, EndState, Ending, GaveUp, GoesOut, Got}
use Rattle.world_laws.proofs.Words.{HasTick, Host, IsDown, IsEvent, IsLinkUndisturbed, IsNode, IsStart, IsUnderWay, Link, LinkEnd, LinkEvent, List, Losses}
use Rattle.world_laws.proofs.Words.{Lost, NextFrame, NoInput, Node, None, NotedUp, Now, NumberedEnd, OnWire, Option, Report, Reset, Restarted, Some, Sound}
use Rattle.world_laws.proofs.Words.{Step, Take, Tells, Ticks, TicksWithout, Turn, Up as IsUpNow, [], after_events-append, after_input, after_link_events, aged}
use Rattle.world_laws.proofs.Words.{aged_entries, all_at_controller, allowed-append, allowed_parts, ap, append-nil, append_assoc, arith, before_here}
use Rattle.world_laws.proofs.Words.{before_there, began_by, by_test, came_up, cond, core_after, core_aged, core_all_here, core_ending, core_event, core_events}
use Rattle.world_laws.proofs.Words.{core_exchanged, core_happens, core_happens_here, core_of, core_step, core_take, core_tick, core_tick_rest}
use Rattle.world_laws.proofs.Words.{core_ticks_or_cut, core_turned, core_turns, ended_by, entries, entries-append, entries_of_events}
use Rattle.world_laws.proofs.Words.{event_entries, event_step, exchanged, false, far, first_entries, frames_out, goes_on, happens, heard, heard-append, if_so}
use Rattle.world_laws.proofs.Words.{is_open, is_rset, left_after, length, length-append, list_any, list_any-append, loses_aged, ltb-true, map}
use Rattle.world_laws.proofs.Words.{mid_moved, moved, no_losses, noted_aged, noted_all, noted_event, noted_here, noted_loss, noted_tick, noted_turns}
use Rattle.world_laws.proofs.Words.{number_now, number_of, open_up, opened, option_to_list, or_none, overflows, pushed_out, put, put-core, put_entries}
use Rattle.world_laws.proofs.Words.{puts_entries, refl, report, rest_entries, rests_of, safe_aged, safe_reached, sans, session_up, shdlc_moved, step_entries}
use Rattle.world_laws.proofs.Words.{step_tick, subst, sym, taken_entries, taken_noted, tells_same, tick_answer, tick_entries, tick_open, ticked, ticked_keeps}
use Rattle.world_laws.proofs.Words.{ticks_at_controller, told, told_of, took, took_with, trace, true, true≢false, turn, turn_entries, turn_entry, turned}
use Rattle.world_laws.proofs.Words.{turns_mid, up_session, whole_acked, wire_with, with_ended, ℕ, ◌++◌, ◌+◌, ◌∙◌, ◌∷◌, ◌≡◌}
use Rattle.link_laws.proofs.entries.Disturbing.{idle_noted}
use Rattle.link_laws.proofs.entries.Hearing.{controller_heard, host_heard}
use Rattle.link_laws.specs.entries.Entries.{End, Entry, ending_entries}
use Rattle.link_laws.specs.entries.Entries.Entry.{Down, Tick, Up}
use Rattle.link_laws.specs.entries.Filters.{same_link_end}
use Rattle.node_laws.proofs.telling.Ticks.{ending_all, wires_all}
use Rattle.swp_base.specs.declared.link_terms.Cause.{Cause}

-- ## Where a frame of an end's step is lost, or its session ends, it is noted: so where nothing of this is noted no frame is lost

-- a frame is lost, a session ends, or an end is started, stopped or cut off
abbrev pub troubles : Entry → Bool
troubles (Lost who frame why) = true
troubles (Down who cause) = true
troubles (Restarted who) = true
troubles (Cut who) = true
troubles _ = false

abbrev pub Calm : List Entry → Type 0
Calm t = list_any troubles t ≡ false

pub calm_parts : (t u : List Entry) → Calm (t ++ u) → Calm t × Calm u
calm_parts t u c = or_none (list_any troubles t) (list_any troubles u) (sym (list_any-append troubles t u) ∙ c)

-- ### Frames go out

push_lost : (who : End) (l : Link) (c : Control) → overflows (l.to_host ++ record { frame = c; age = 0; number = 0 } ∷ []) ≡ true
    → list_any troubles (pushed_out (far who) (wire_with l c)) ≡ true
push_lost who l c q = go (nat_lt 64 (length (wire_with l c))) refl (wire_with l c) refl
  where
    long : nat_lt 64 (length (wire_with l c)) ≡ true
    long =
        let x = length-append l.to_host (record { frame = c; age = 0; number = 0 } ∷ []) in
        let y = length-append l.to_host (record { frame = c; age = 0; number = cond (is_rset c) (l.resets + 1) 0 } ∷ []) in
        ap (nat_lt 64) (y ∙ sym x) ∙ (grind arith)

    go : (b : Bool) → nat_lt 64 (length (wire_with l c)) ≡ b → (w : List OnWire) → wire_with l c ≡ w
        → list_any troubles (pushed_out (far who) (wire_with l c)) ≡ true
    go false p w r = absurd (true≢false (sym long ∙ p))
    go true p [] r = absurd (let i = ltb-true 64 (length (wire_with l c)) p in let k = ap (λ (z : List OnWire). length z) r in omega (arith, i, k))
    go true p (x ∷ xs) r = grind arith

-- a frame goes out
put_calm : (n : Losses) (who : End) (l : Link) (c : Control) → n.lost ≡ false → Calm (put_entries who l c) → (noted_loss n (core_of l) c).lost ≡ false
put_calm n who l c none calm = by_test (overflows (l.to_host ++ record { frame = c; age = 0; number = 0 } ∷ []))
    (λ q. absurd (true≢false (sym (push_lost who l c q) ∙ calm)))
    (λ q. rw (none, q) refl)

-- all frames that go out
flush_calm : (cs : List Control) (n : Losses) (who : End) (l : Link) → n.lost ≡ false → Calm (puts_entries who l cs)
    → (noted_all n (core_of l) cs).lost ≡ false
flush_calm [] n who l none calm = none
flush_calm (c ∷ cs) n who l none calm =
    let m : Losses = noted_loss n (core_of l) c in
    let parts = calm_parts (put_entries who l c) (puts_entries who (put l c) cs) calm in
    subst (λ k. (noted_all m k cs).lost ≡ false) (put-core l c) (flush_calm cs m who (put l c) (put_calm n who l c none parts.0) parts.1)

rest_calm : (n : Losses) (who : End) (k : Link) (e : LinkEnd) (ts : List Turn) → n.lost ≡ false → Calm (rest_entries who k e ts GoesOut)
    → (noted_all n (core_of k) (frames_out (turned e ts))).lost ≡ false
rest_calm n who k e ts none calm =
    flush_calm (frames_out (turned e ts)) n who k none (calm_parts (turn_entries who _ e ts) (puts_entries who k (frames_out (turned e ts))) calm).1

-- a step that is cut off is noted
cut_troubles : (who : End) (k : Link) (e : LinkEnd) (ts : List Turn) → Calm (rest_entries who k e ts CutOff) → ⊥
cut_troubles who k e ts calm = true≢false (calm_parts (turn_entries who _ e ts) (Cut who ∷ []) calm).1

-- ### Time passes

aged_lost : (who : End) (w : List OnWire) → loses_aged (sans w) ≡ true → list_any troubles (aged_entries who w) ≡ true
aged_lost who [] q = absurd (true≢false (sym q))
aged_lost who (x ∷ xs) q = let h0 = aged_lost who xs in grind arith

aged_calm : (who : End) (w : List OnWire) → Calm (aged_entries who w) → loses_aged (sans w) ≡ false
aged_calm who w calm = by_test (loses_aged (sans w)) (λ q. absurd (true≢false (sym (aged_lost who w q) ∙ calm))) (λ q. q)

ages_calm : (near far : End) (n : Losses) (l : Link) → n.lost ≡ false → Calm (aged_entries near l.to_controller) → Calm (aged_entries far l.to_host)
    → (noted_aged n (core_of l)).lost ≡ false
ages_calm near far n l none a b = rw (none, (aged_calm near l.to_controller a), (aged_calm far l.to_host b)) refl

-- the tick of an end that is open
tick_calm : (n : Losses) (who : End) (l : Link) (ts : List Turn) → n.lost ≡ false → AreSendableTurns ts → Tells l.controller
    → is_open l.controller.side.role ≡ true → Calm (tick_entries who l (record { turns = ts; ending = GoesOut }))
    → (noted_tick n (Some (core_turns (after_input l.controller.side HasTick) ts)) (core_of l)).lost ≡ false
tick_calm n who l ts none a h o calm =
    let e : LinkEnd = l.controller.side in
    let t = tick_open e o in
    let b : Bool = is_some (tick_answer e.shdlc).ended in
    let f : LinkEnd = moved e b (ticked e.shdlc) in
    let us : List CoreTurn = core_turns f ts in
    let now : Now f = mid_moved e b (ticked e.shdlc) h.now (ticked_keeps e.shdlc h.now.idle) (opened e.role ((ticked e.shdlc).phase ≡ IsDown) o) in
    let tm = turns_mid None f ts a now in
    let s : EndState = core_turned (ticked e.shdlc) us in
    let is : (turned f ts).shdlc ≡ s = tm.is ∙ ap (λ z. core_turned z us) (shdlc_moved e b (ticked e.shdlc)) in
    let flag : noted_tick n (Some us) (core_of l) ≡ noted_all n (core_of (with_ended l b)) (frames_out (turned f ts)) = grind arith in
    let P : Bool → Type 0 = λ z. Calm (told_of who l.controller HasTick ++ rest_entries who (with_ended l z) (after_input e HasTick) ts GoesOut) in
    let Q : LinkEnd → Type 0 = λ z. Calm (told_of who l.controller HasTick ++ rest_entries who (with_ended l b) z ts GoesOut) in
    let all : Q f = subst Q t.0 (subst P t.1 calm) in
    let rest = (calm_parts (told_of who l.controller HasTick) (rest_entries who (with_ended l b) f ts GoesOut) all).1 in
    ap (λ (g : LinkEnd). (noted_tick n (Some (core_turns g ts)) (core_of l)).lost) t.0
    ∙ (ap (λ (m : Losses). m.lost) flag ∙ rest_calm n who (with_ended l b) f ts none rest)

-- ## Where both ends of a link are up and ready, and nothing that disturbs it is noted of an event in a round, it is undisturbed there

-- an event in a round of a world: an end takes a frame, the controller's node has turns there, or time passes, in which the controller's end
-- may be reset
abbrev pub IsRoundEvent : LinkEvent → Type 0
IsRoundEvent (AtController (Step NextFrame ts ending)) = Unit {0}
IsRoundEvent (AtController (Step NoInput ts ending)) = Unit {0}
IsRoundEvent (AtHost (Step NextFrame ts ending)) = Unit {0}
IsRoundEvent (Ticks c [] h) = Unit {0}
IsRoundEvent (TicksWithout (Step (AsksReset None) ts ending ∷ []) h) = Unit {0}
IsRoundEvent _ = ⊥

-- ### At one end

-- the link is undisturbed before each of these, and in it
abbrev AreCalmHere : CoreLink → List CoreEndEvent → Type 0
AreCalmHere c [] = Unit {0}
AreCalmHere c (e ∷ es) = BothTakeFragments c × ((noted_here no_losses c e).lost ≡ false) × AreCalmHere (core_happens_here c e) es

other : (c : CoreLink) → BothTakeFragments (core_exchanged c) → BothTakeFragments c
other c b = grind arith

here_calm : (es : List CoreEndEvent) (c : CoreLink) (fs : List CoreLinkEvent) → AreCalmHere c es
    → AreUndisturbed (core_after c (map CoreAtController es)) fs → AreUndisturbed c (map CoreAtController es ++ fs)
here_calm [] c fs a u = u
here_calm (e ∷ es) c fs a u = (a.0, a.1, here_calm es (core_happens_here c e) fs a.2 u)

there_calm : (es : List CoreEndEvent) (c : CoreLink) (fs : List CoreLinkEvent) → AreCalmHere (core_exchanged c) es
    → AreUndisturbed (core_after c (map CoreAtHost es)) fs → AreUndisturbed c (map CoreAtHost es ++ fs)
there_calm [] c fs a u = u
there_calm (e ∷ es) c fs a u = (other c a.0, a.1, there_calm es (core_happens c (CoreAtHost e)) fs a.2 u)

-- an end that is open takes this frame
module _ (l : Link) (ts : List Turn) (x : OnWire) (xs : List OnWire) (first : l.to_controller ≡ x ∷ xs) (opened : is_open l.controller.side.role ≡ true)
    (both : BothTakeFragments (core_of l))
    (lost : (noted_turns no_losses (core_of l) (core_take l.controller.side x.frame ts ++ [])).lost ≡ false) where
  take_calm : AreCalmHere (core_of l) (core_take l.controller.side x.frame ts ++ [])
  take_calm = grind arith

step_calm : (who : End) (l : Link) (ts : List Turn) (ending : Ending) → IsNode l ts ending → Before l → is_open l.controller.side.role ≡ true
    → BothTakeFragments (core_of l) → Calm (step_entries who l NextFrame ts ending) → AreCalmHere (core_of l) (core_step l NextFrame ts ending)
step_calm who l ts ending a b opened both calm = go l.to_controller refl
  where
    go : (w : List OnWire) → l.to_controller ≡ w → AreCalmHere (core_of l) (core_step l NextFrame ts ending)
    go [] q = let none : core_step l NextFrame ts ending ≡ [] = rw q refl in subst (AreCalmHere (core_of l)) (sym none) tt
    go (x ∷ xs) q =
        let entries : step_entries who l NextFrame ts ending ≡ taken_entries who l x xs ts ending = rw q refl in
        subst (AreCalmHere (core_of l)) (sym (rw q refl)) (by ending (subst Calm entries calm))
      where
        k : Link
        k = left_after l x xs

        f : LinkEnd
        f = took l.controller.side x.frame

        noted : List Entry
        noted = told_of who (record l.controller { took = took_with l.controller.took x }) (Take x.frame)

        by : (ending : Ending) → Calm (taken_entries who l x xs ts ending)
            → AreCalmHere (core_of l) (core_take l.controller.side x.frame ts ++ core_ending ending)
        by CutOff c = absurd (cut_troubles who k f ts (calm_parts noted (rest_entries who k f ts CutOff) c).1)
        by GoesOut c =
            let lost : (noted_turns no_losses (core_of l) (core_take l.controller.side x.frame ts ++ [])).lost ≡ false =
            ap (λ (n : Losses). n.lost) (taken_noted no_losses l ts GoesOut x xs q a.0 b)
            ∙ rest_calm (came_up no_losses (core_of k) (began_by l.controller.side (Take x.frame))) who k f ts
            (grind arith) ((calm_parts noted (rest_entries who k f ts GoesOut) c).1) in
            take_calm l ts x xs q opened both lost

-- its node has turns there
idle_calm : (who : End) (l : Link) (ts : List Turn) (ending : Ending) → IsNode l ts ending → Tells l.controller → BothTakeFragments (core_of l)
    → Calm (step_entries who l NoInput ts ending) → AreCalmHere (core_of l) (core_step l NoInput ts ending)
idle_calm who l ts CutOff a h both calm = absurd (cut_troubles who l l.controller.side ts calm)
idle_calm who l ts GoesOut a h both calm =
    (both, (ap (λ (n : Losses). n.lost) (idle_noted no_losses l ts a.0 h) ∙ rest_calm no_losses who l l.controller.side ts refl calm), tt)

-- ### On the link

-- what is noted of a tick, in parts
pub record TickParts (l : Link) (c h : Node) : Type 0 where
  pub near_aged : Calm (aged_entries Controller l.to_controller)
  pub far_aged : Calm (aged_entries Host l.to_host)
  pub near : Calm (tick_entries Controller (aged l) c)
  pub far : Calm (tick_entries Host (exchanged (ticks_at_controller (aged l) c.turns c.ending)) h)

pub tick_parts : (l : Link) (c h : Node) → Calm (event_entries l (Ticks c [] h)) → TickParts l c h
tick_parts l c h calm =
    let cs : List Entry = tick_entries Controller (aged l) c in
    let hs : List Entry = tick_entries Host (exchanged (ticks_at_controller (aged l) c.turns c.ending)) h in
    let one = calm_parts (aged_entries Controller l.to_controller) (aged_entries Host l.to_host ++ (cs ++ hs)) calm in
    let two = calm_parts (aged_entries Host l.to_host) (cs ++ hs) one.1 in
    let three = calm_parts cs hs two.1 in
    record { near_aged = one.0; far_aged = two.0; near = three.0; far = three.1 }

-- a tick that is cut off is noted
pub goes_out : (who : End) (l : Link) (node : Node) → Calm (tick_entries who l node) → node.ending ≡ GoesOut
goes_out who l node calm = go node.ending refl
  where
    k : Link
    k = with_ended l (is_some (ended_by l.controller.side HasTick))

    f : LinkEnd
    f = after_input l.controller.side HasTick

    P : Ending → Type 0
    P ending = Calm (told_of who l.controller HasTick ++ rest_entries who k f node.turns ending)

    go : (ending : Ending) → node.ending ≡ ending → node.ending ≡ GoesOut
    go GoesOut q = q
    go CutOff q =
        absurd (cut_troubles who k f node.turns
        (calm_parts (told_of who l.controller HasTick) (rest_entries who k f node.turns CutOff) (subst P q calm)).1)

-- in a tick of a world the controller's end isn't reset, since it would lose its session
pub reset_ends : (l : Link) → is_open l.controller.side.role ≡ true → l.controller.side.shdlc.phase ≡ IsUpNow → (ts : List Turn) (ending : Ending) (h : Node)
    → Calm (event_entries l (TicksWithout (Step (AsksReset None) ts ending ∷ []) h)) → ⊥
reset_ends l o up ts ending h calm =
    let es : List EndEvent = Step (AsksReset None) ts ending ∷ [] in
    let e : LinkEnd = l.controller.side in
    let k : Link = aged l in
    let rest : List Entry = rest_entries Controller (with_ended k (is_some (ended_by e (Reset None)))) (after_input e (Reset None)) ts ending in
    let hs : List Entry = tick_entries Host (exchanged (all_at_controller k es)) h in
    let near : List Entry = entries_of_events Controller k es in
    let one = calm_parts (aged_entries Controller l.to_controller) (aged_entries Host l.to_host ++ (near ++ hs)) calm in
    let three = calm_parts near hs (calm_parts (aged_entries Host l.to_host) (near ++ hs) one.1).1 in
    let four = calm_parts (told_of Controller l.controller (Reset None) ++ rest) [] three.0 in
    let five = calm_parts (told_of Controller l.controller (Reset None)) rest four.0 in
    let ended : (report e (Reset None)).ended ≡ Some Asked = rw (o, up) refl in
    let six = calm_parts (map (Down Controller) (option_to_list (report e (Reset None)).ended)) (told_rest e) five.0 in
    true≢false (ap (λ z. list_any troubles (map (Down Controller) (option_to_list z))) (sym ended) ∙ six.0)
  where
    told_rest : LinkEnd → List Entry
    told_rest e =
        let r = report e (Reset None) in
        if_so r.began (NotedUp Controller (number_of l.controller)) ++ (if_so r.became_active (Active Controller)
        ++ (map (GaveUp Controller) (option_to_list r.gave_up)
        ++ (if_so (nat_lt 0 r.acked) (Acked Controller (number_of l.controller) (whole_acked (after_input e (Reset None))))
        ++ map (Got Controller (number_of l.controller)) r.got)))

module _ (l : Link) {t : List Entry} (w : IsUnderWay t l) (both : BothTakeFragments (core_of l)) where
  near_open : is_open l.controller.side.role ≡ true
  near_open = open_up l.controller w.good.controller.now.closed both.controller_up

  far_open : is_open l.host.side.role ≡ true
  far_open = open_up l.host w.good.host.now.closed both.host_up

  -- the tick of the link over fragments
  module _ (c h : Node) (a : IsEvent l (Ticks c [] h)) (calm : TickParts l c h) where
    abbrev us : List CoreTurn
    us = core_turns (after_input l.controller.side HasTick) c.turns

    abbrev vs : List CoreTurn
    vs = core_turns (after_input l.host.side HasTick) h.turns

    abbrev n1 : Losses
    n1 = noted_aged no_losses (core_of l)

    abbrev n2 : Losses
    n2 = noted_tick n1 (Some us) (core_of (aged l))

    abbrev m : Link
    m = ticks_at_controller (aged l) c.turns c.ending

    near_out : c.ending ≡ GoesOut
    near_out = goes_out Controller (aged l) c calm.near

    far_out : h.ending ≡ GoesOut
    far_out = goes_out Host (exchanged m) h calm.far

    near_tick : core_tick l.controller.side c.turns c.ending ≡ Some us
    near_tick = let o = near_open in let g = near_out in rw (g, o) refl

    near_rest : core_tick_rest l.controller.side c.turns c.ending ≡ []
    near_rest = let o = near_open in let g = near_out in rw (g, o) refl

    far_tick : core_tick l.host.side h.turns h.ending ≡ Some vs
    far_tick = let o = far_open in let g = far_out in rw (g, o) refl

    far_rest : core_tick_rest l.host.side h.turns h.ending ≡ []
    far_rest = let o = far_open in let g = far_out in rw (g, o) refl

    tick_is : core_event l (Ticks c [] h) ≡ CoreTick (Some us) [] (Some vs) ∷ []
    tick_is = rw (near_tick, near_rest, far_tick, far_rest) refl

    -- the host's end has its tick on the link that the controller's leaves
    ticked_of_events : core_of m ≡ core_ticks_or_cut (Some us) (core_aged (core_of l))
    ticked_of_events =
        let s0 = safe_aged (core_of l) (safe_reached (core_of l) w.reached) in
        (step_tick (aged l) c.turns c.ending a.0.0 a.0.1 w.good.controller (rests_of 1 1 (core_of (aged l)) s0)).core
        ∙ (ap (λ z. core_all_here (core_ticks_or_cut z (core_aged (core_of l))) (core_tick_rest l.controller.side c.turns c.ending)) near_tick
        ∙ ap (λ z. core_all_here (core_ticks_or_cut (Some us) (core_aged (core_of l))) z) near_rest)

    host_is : m.host ≡ l.host
    host_is =
        let s0 = safe_aged (core_of l) (safe_reached (core_of l) w.reached) in
        (step_tick (aged l) c.turns c.ending a.0.0 a.0.1 w.good.controller (rests_of 1 1 (core_of (aged l)) s0)).host

    as_out : (who : End) (k : Link) (node : Node) → node.ending ≡ GoesOut → Calm (tick_entries who k node)
        → Calm (tick_entries who k (record { turns = node.turns; ending = GoesOut }))
    as_out who k node g calm = grind arith

    tick_lost : (noted_event no_losses (core_of l) (CoreTick (Some us) [] (Some vs))).lost ≡ false
    tick_lost =
        let first : n1.lost ≡ false = ages_calm Controller Host no_losses l refl calm.near_aged calm.far_aged in
        let second : n2.lost ≡ false =
        tick_calm n1 Controller (aged l) c.turns first a.0.0 w.good.controller near_open (as_out Controller (aged l) c near_out calm.near) in
        let H : NumberedEnd → Type 0 = λ z. is_open z.side.role ≡ true in
        let third = tick_calm n2 Host (exchanged m) h.turns second a.2.0 (tells_same m.host l.host host_is w.good.host) (subst H (sym host_is) far_open)
        (as_out Host (exchanged m) h far_out calm.far) in
        let Q : CoreLink → NumberedEnd → Type 0 =
        λ d z. (noted_tick n2 (Some (core_turns (after_input z.side HasTick) h.turns)) (core_exchanged d)).lost ≡ false in
        subst (λ (d : CoreLink). Q d l.host) ticked_of_events (subst (Q (core_of m)) host_is third)

  calm_event : (e : LinkEvent) → IsRoundEvent e → IsEvent l e → Calm (event_entries l e) → (fs : List CoreLinkEvent)
      → AreUndisturbed (core_of (happens l e)) fs → AreUndisturbed (core_of l) (core_event l e ++ fs)
  calm_event e is a calm fs later = go e is a calm (subst (λ (c : CoreLink). AreUndisturbed c fs) (event_step l e a w.good w.reached).core later)
    where
      go : (e : LinkEvent) → IsRoundEvent e → IsEvent l e → Calm (event_entries l e) → AreUndisturbed (core_after (core_of l) (core_event l e)) fs
          → AreUndisturbed (core_of l) (core_event l e ++ fs)
      go (AtController (Step NextFrame ts ending)) is a calm later =
          here_calm (core_step l NextFrame ts ending) (core_of l) fs
          (step_calm Controller l ts ending a.1 (before_here l w.good w.reached w.noted.sounds) near_open both calm) later
      go (AtController (Step NoInput ts ending)) is a calm later =
          here_calm (core_step l NoInput ts ending) (core_of l) fs
          (idle_calm Controller l ts ending a.1 w.good.controller both calm) later
      go (AtHost (Step NextFrame ts ending)) is a calm later =
          there_calm (core_step (exchanged l) NextFrame ts ending) (core_of l) fs
          (step_calm Host (exchanged l) ts ending a.1 (before_there l w.good w.reached w.noted.sounds) far_open (other (core_of (exchanged l)) both) calm) later
      go (Ticks c [] h) is a calm later =
          let parts = tick_parts l c h calm in
          let P : List CoreLinkEvent → Type 0 = λ es. AreUndisturbed (core_after (core_of l) es) fs in
          let Q : List CoreLinkEvent → Type 0 = λ es. AreUndisturbed (core_of l) (es ++ fs) in
          subst Q (sym (tick_is c h a parts)) (both, tick_lost c h a parts, subst P (tick_is c h a parts) later)
      go (TicksWithout (Step (AsksReset None) ts ending ∷ []) h) is a calm later = absurd (reset_ends l near_open both.controller_up ts ending h calm)
      go _ is a calm later = absurd is

-- ## Where nothing that disturbs a link is noted of an event in a round, no session begins at its ends, which are up

-- a session begins
abbrev begins_one : Entry → Bool
begins_one (Up who n) = true
begins_one _ = false

-- of none of these
abbrev BeginsNone : Entry → Type 0
BeginsNone x = begins_one x ≡ false

abbrev pub Unbegun : List Entry → Type 0
Unbegun t = AllByRecursion BeginsNone t

both_none : (t u : List Entry) → Unbegun t → Unbegun u → Unbegun (t ++ u)
both_none [] u a b = b
both_none (x ∷ t) u a b = (a.0, both_none t u a.1 b)

map_none : {A : Type 0} (f : A → Entry) (xs : List A) → ((x : A) → begins_one (f x) ≡ false) → Unbegun (map f xs)
map_none f [] q = tt
map_none f (x ∷ xs) q = (q x, map_none f xs q)

told_none : (who : End) (n : ℕ) (r : Report) (acked : ℕ) → r.began ≡ false → Unbegun (told who n r acked)
told_none who n r acked q =
    let four : List Entry = map (Got who n) r.got in
    let three : List Entry = if_so (nat_lt 0 r.acked) (Acked who n acked) ++ four in
    let two : List Entry = map (GaveUp who) (option_to_list r.gave_up) ++ three in
    let one : List Entry = if_so r.became_active (Active who) ++ two in
    both_none (map (Down who) (option_to_list r.ended)) (if_so r.began (Up who n) ++ one) (map_none (Down who) (option_to_list r.ended) (λ x. refl))
    (both_none (if_so r.began (Up who n)) one (subst (λ b. Unbegun (if_so b (Up who n))) (sym q) tt)
    (both_none (if_so r.became_active (Active who)) two (grind arith)
    (both_none (map (GaveUp who) (option_to_list r.gave_up)) three (map_none (GaveUp who) (option_to_list r.gave_up) (λ x. refl))
    (both_none (if_so (nat_lt 0 r.acked) (Acked who n acked)) four (grind arith)
    (map_none (Got who n) r.got (λ x. refl))))))

-- ### What goes out

turns_none : (who : End) (n : ℕ) (e : LinkEnd) (ts : List Turn) → Unbegun (turn_entries who n e ts)
turns_none who n e [] = tt
turns_none who n e (t ∷ ts) = both_none (turn_entry who n e t) (turn_entries who n (turn e t) ts) (grind arith) (turns_none who n (turn e t) ts)

rest_none : (who : End) (k : Link) (e : LinkEnd) (ts : List Turn) (ending : Ending) → Unbegun (rest_entries who k e ts ending)
rest_none who k e ts ending =
    both_none (turn_entries who (number_of k.controller) e ts) (ending_entries who k (turned e ts) ending) (turns_none who (number_of k.controller) e ts)
    (ending_all BeginsNone (λ w c. refl) (λ w c. refl) (λ w. refl) who k (turned e ts) ending)

-- ### Events

none_ended : (who : End) (o : Option Cause) → Calm (map (Down who) (option_to_list o)) → is_some o ≡ false
none_ended who o c = grind arith

frame_none : (who : End) (l : Link) (ts : List Turn) (ending : Ending) → Sound l.controller.side → l.controller.side.shdlc.phase ≡ IsUpNow
    → Calm (step_entries who l NextFrame ts ending) → Unbegun (step_entries who l NextFrame ts ending)
frame_none who l ts ending sound up calm = go l.to_controller refl
  where
    e : LinkEnd
    e = l.controller.side

    go : (w : List OnWire) → l.to_controller ≡ w → Unbegun (step_entries who l NextFrame ts ending)
    go [] q = let none : step_entries who l NextFrame ts ending ≡ [] = rw q refl in subst Unbegun (sym none) tt
    go (x ∷ xs) q =
        let is : step_entries who l NextFrame ts ending ≡ taken_entries who l x xs ts ending = rw q refl in
        let h : NumberedEnd = record l.controller { took = took_with l.controller.took x } in
        let none : is_some (ended_by e (Take x.frame)) ≡ false = grind arith in
        subst Unbegun (sym is) (
          refl,
          both_none (told_of who h (Take x.frame)) (rest_entries who (left_after l x xs) (after_input e (Take x.frame)) ts ending)
              (told_none who (number_of h) (report e (Take x.frame)) (whole_acked (after_input e (Take x.frame))) (grind arith))
              (rest_none who (left_after l x xs) (after_input e (Take x.frame)) ts ending),
        )

tick_none : (who : End) (l : Link) (node : Node) → Unbegun (tick_entries who l node)
tick_none who l node =
    let e : LinkEnd = l.controller.side in
    both_none (told_of who l.controller HasTick) _
    (told_none who (number_of l.controller) (report e HasTick) (whole_acked (after_input e HasTick)) refl)
    (rest_none who (with_ended l (is_some (ended_by e HasTick))) (after_input e HasTick) node.turns node.ending)

reset_none : (l : Link) (ts : List Turn) (ending : Ending) → Unbegun (entries_of_events Controller l (Step (AsksReset None) ts ending ∷ []))
reset_none l ts ending =
    let e : LinkEnd = l.controller.side in
    both_none (told_of Controller l.controller (Reset None) ++ _) []
    (both_none (told_of Controller l.controller (Reset None)) _
    (told_none Controller (number_of l.controller) (report e (Reset None)) (whole_acked (after_input e (Reset None))) refl)
    (rest_none Controller (with_ended l (is_some (ended_by e (Reset None)))) (after_input e (Reset None)) ts ending)) tt

starts_none : (l : Link) (t : List Entry) → Unbegun t → Unbegun (Tick ∷ (aged_entries Controller l.to_controller ++ (aged_entries Host l.to_host ++ t)))
starts_none l t a = (
  refl,
  subst Unbegun (append_assoc (aged_entries Controller l.to_controller) (aged_entries Host l.to_host) t)
      (both_none (aged_entries Controller l.to_controller ++ aged_entries Host l.to_host) t
      (wires_all BeginsNone (λ w c. refl) Controller Host l.to_controller l.to_host) a),
)

event_none : (l : Link) (e : LinkEvent) → IsRoundEvent e → Sound l.controller.side → Sound l.host.side → l.controller.side.shdlc.phase ≡ IsUpNow
    → l.host.side.shdlc.phase ≡ IsUpNow → Calm (event_entries l e) → Unbegun (event_entries l e)
event_none l (AtController (Step NextFrame ts ending)) is near far up there calm = frame_none Controller l ts ending near up calm
event_none l (AtController (Step NoInput ts ending)) is near far up there calm = rest_none Controller l l.controller.side ts ending
event_none l (AtHost (Step NextFrame ts ending)) is near far up there calm = frame_none Host (exchanged l) ts ending far there calm
event_none l (Ticks c [] h) is near far up there calm =
    let m : Link = ticks_at_controller (aged l) c.turns c.ending in
    starts_none l (tick_entries Controller (aged l) c ++ tick_entries Host (exchanged m) h)
    (both_none (tick_entries Controller (aged l) c) (tick_entries Host (exchanged m) h) (tick_none Controller (aged l) c) (tick_none Host (exchanged m) h))
event_none l (TicksWithout (Step (AsksReset None) ts ending ∷ []) h) is near far up there calm =
    let es : List EndEvent = Step (AsksReset None) ts ending ∷ [] in
    let m : Link = all_at_controller (aged l) es in
    starts_none l (entries_of_events Controller (aged l) es ++ tick_entries Host (exchanged m) h)
    (both_none (entries_of_events Controller (aged l) es) (tick_entries Host (exchanged m) h) (reset_none (aged l) ts ending) (tick_none Host (exchanged m) h))
event_none l _ is near far up there calm = absurd is

-- ## Where nothing that disturbs a link is noted of its rounds, and both its ends are up before them and ready throughout, it is undisturbed

-- both ends are up
pub record AreBothUpNow (l : Link) : Type 0 where
  pub controller : l.controller.side.shdlc.phase ≡ IsUpNow
  pub host : l.host.side.shdlc.phase ≡ IsUpNow

abbrev pub AreRoundEvents : List LinkEvent → Type 0
AreRoundEvents [] = Unit {0}
AreRoundEvents (e ∷ es) = IsRoundEvent e × AreRoundEvents es

-- an end that is up stays so, as it is noted
stays : (who : End) (k : ℕ) (t : List Entry) → Calm t → (m : ℕ) × (heard who (Some k) t ≡ Some m)
stays who k [] c = (k, refl)
stays who k (Up w n ∷ t) c = by_test (same_link_end w who) (λ q. rw q (stays who n t c)) (λ q. rw q (stays who k t c))
stays who k (Down w cause ∷ t) c = absurd (true≢false c)
stays who k (Lost w frame why ∷ t) c = absurd (true≢false c)
stays who k (Restarted w ∷ t) c = absurd (true≢false c)
stays who k (Cut w ∷ t) c = absurd (true≢false c)
stays who k (_ ∷ t) c = stays who k t c

module _ (start : Link) (s : IsStart start) where
  pub trace-append : (pre es : List LinkEvent) → trace start (pre ++ es) ≡ trace start pre ++ entries (after_link_events start pre) es
  trace-append pre es =
      ap (λ (t : List Entry). first_entries start.controller.side.role ++ t) (entries-append pre es start)
      ∙ sym (append_assoc (first_entries start.controller.side.role) (entries start pre) (entries (after_link_events start pre) es))

  -- the session of an end behind more events is what is noted of them
  pub near_session : (pre es : List LinkEvent) → AllAllowed start (pre ++ es)
      → number_now (after_link_events start (pre ++ es)).controller
      ≡ heard Controller (number_now (after_link_events start pre).controller) (entries (after_link_events start pre) es)
  near_session pre es a =
      let u : List Entry = entries (after_link_events start pre) es in
      sym (controller_heard start s (pre ++ es) a)
      ∙ (ap (heard Controller None) (trace-append pre es)
      ∙ (heard-append Controller None (trace start pre) u
      ∙ ap (λ n. heard Controller n u) (controller_heard start s pre (allowed_parts pre es start a).0)))

  pub far_session : (pre es : List LinkEvent) → AllAllowed start (pre ++ es)
      → number_now (after_link_events start (pre ++ es)).host
      ≡ heard Host (number_now (after_link_events start pre).host) (entries (after_link_events start pre) es)
  far_session pre es a =
      let u : List Entry = entries (after_link_events start pre) es in
      sym (host_heard start s (pre ++ es) a)
      ∙ (ap (heard Host None) (trace-append pre es)
      ∙ (heard-append Host None (trace start pre) u
      ∙ ap (λ n. heard Host n u) (host_heard start s pre (allowed_parts pre es start a).0)))

  -- the ends that were up are up behind more events
  pub up_after : (pre es : List LinkEvent) → AllAllowed start (pre ++ es) → AreBothUpNow (after_link_events start pre)
      → Calm (entries (after_link_events start pre) es) → AreBothUpNow (after_link_events start (pre ++ es))
  up_after pre es a up calm =
      let l : Link = after_link_events start pre in
      let m : Link = after_link_events start (pre ++ es) in
      let u : List Entry = entries l es in
      let near = stays Controller (number_of l.controller) u calm in
      let far = stays Host (number_of l.host) u calm in
      record {
        controller = (session_up m.controller near.0
            (near_session pre es a ∙ (ap (λ n. heard Controller n u) (up_session l.controller up.controller) ∙ near.1))).0;
        host = (session_up m.host far.0
            (far_session pre es a ∙ (ap (λ n. heard Host n u) (up_session l.host up.host) ∙ far.1))).0;
      }

  pub calm_run : (es pre : List LinkEvent) (l : Link) → after_link_events start pre ≡ l → AllAllowed start pre → AllAllowed l es → AreRoundEvents es
      → {t : List Entry} → IsUnderWay t l → AreBothUpNow l → AreReadyThroughout l es → Calm (entries l es) → IsLinkUndisturbed l es × Unbegun (entries l es)
  calm_run [] pre l q before a rounds w up ready calm = grind arith
  calm_run (e ∷ es) pre l q before a rounds w up ready calm =
      let parts = calm_parts (event_entries l e) (entries (happens l e) es) calm in
      let now : List LinkEvent = pre ++ e ∷ [] in
      let here : after_link_events start now ≡ happens l e = after_events-append pre (e ∷ []) start ∙ ap (λ k. happens k e) q in
      let Q : Link → Type 0 = λ k. Calm (entries k (e ∷ [])) in
      let allowed : AllAllowed start now = allowed-append pre (e ∷ []) start before (subst (λ k. AllAllowed k (e ∷ [])) (sym q) (a.0, tt)) in
      let one : Q l = subst Calm (sym (append-nil (event_entries l e))) parts.0 in
      let still : AreBothUpNow (happens l e) =
      subst AreBothUpNow here (up_after pre (e ∷ []) allowed (subst AreBothUpNow (sym q) up) (subst Q (sym q) one)) in
      let more = calm_run es now (happens l e) here allowed a.1 rounds.1 (goes_on l e a.0 w) still ready.1 parts.1 in
      let none = event_none l e rounds.0 w.noted.sounds.controller w.noted.sounds.host up.controller up.host parts.0 in (
        calm_event l w (grind arith) e rounds.0 a.0 parts.0 (core_events (happens l e) es) more.0,
        both_none (event_entries l e) (entries (happens l e) es) none more.1,
      )

-- a link that was reached in a run, with what was noted up to it
pub way_to : (es : List LinkEvent) (l : Link) {t : List Entry} → AllAllowed l es → IsUnderWay t l → (u : List Entry) × IsUnderWay u (after_link_events l es)
way_to [] l {t} a w = (t, w)
way_to (e ∷ es) l a w = way_to es (happens l e) a.1 (goes_on l e a.0 w)

-- an end that is up stays so in its session
pub keeps : (who : End) (k : ℕ) (t : List Entry) → Calm t → Unbegun t → heard who (Some k) t ≡ Some k
keeps who k [] c u = refl
keeps who k (Up w n ∷ t) c u = absurd (true≢false u.0)
keeps who k (Down w cause ∷ t) c u = absurd (true≢false c)
keeps who k (Lost w frame why ∷ t) c u = absurd (true≢false c)
keeps who k (Restarted w ∷ t) c u = absurd (true≢false c)
keeps who k (Cut w ∷ t) c u = absurd (true≢false c)
keeps who k (_ ∷ t) c u = keeps who k t c u.1
