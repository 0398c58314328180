-- While a link is undisturbed, no node of it loses power and no notice on it is late.
use Rattle.world_laws.proofs.Words.{AsksReset, AtController, AtHost, Bool, CoreAtHost, CoreEnd, CoreEndEvent, CoreLink, CoreReset, CoreTurn, CutOff, Down}
use Rattle.world_laws.proofs.Words.{Ending, GoesOut, IsLinkUndisturbed, Link, LinkEnd, List, NextFrame, Node, None, OnWire, Option, Some}
use Rattle.world_laws.proofs.Words.{Step, Ticks, TicksWithout, Turn, Up, Waiting, [], aged, ap, arith, began, by_test, core_after, core_aged, core_all}
use Rattle.world_laws.proofs.Words.{core_all_here, core_event, core_exchanged, core_happens_here, core_of, core_tick, core_tick_rest}
use Rattle.world_laws.proofs.Words.{core_ticks_if_waiting, core_ticks_or_cut, core_turned, core_turns, false, is_open, is_waiting, map, new_end, not, refl}
use Rattle.world_laws.proofs.Words.{reset_by, reset_refusal, reset_with, sent_same, subst, sym, tick_so, true, window_of, ℕ, ◌&&◌, ◌++◌, ◌∙◌, ◌∷◌, ◌≡◌}
use Rattle.link_laws.proofs.sessions.Ties.{turned-phase}
use Rattle.lines_told.proofs.fragments.Law.{tick_host}
use Rattle.lines_told.proofs.fragments.Wide.{silent_host}

-- ## A step

pub take_goes_out : (l : Link) (ts : List Turn) (ending : Ending) (x : OnWire) (xs : List OnWire)
    → IsLinkUndisturbed (record l { to_controller = x ∷ xs }) (AtController (Step NextFrame ts ending) ∷ []) → ending ≡ GoesOut
take_goes_out l ts ending x xs u = grind arith

pub host_take_goes_out : (l : Link) (ts : List Turn) (ending : Ending) (x : OnWire) (xs : List OnWire)
    → IsLinkUndisturbed (record l { to_host = x ∷ xs }) (AtHost (Step NextFrame ts ending) ∷ []) → ending ≡ GoesOut
host_take_goes_out l ts ending x xs u = grind arith

-- ## A tick

far_same : (d : Option (List CoreTurn)) (c : CoreLink) → (core_ticks_or_cut d c).host ≡ c.host
far_same (Some ts) c = tick_host c ts
far_same None c = silent_host c (new_end 4)

-- the near end of a link after a tick in which its node has lost power
near_cut : (e : LinkEnd) (ts : List Turn) (c : CoreLink) → is_open e.role ≡ true
    → (core_all_here (core_ticks_or_cut (core_tick e ts CutOff) c) (core_tick_rest e ts CutOff ++ [])).controller.side.phase ≡ Down
near_cut e ts c p = grind arith

-- the near end after the far end's tick
near_after : (d : Option (List CoreTurn)) (c : CoreLink) → (core_exchanged (core_ticks_or_cut d (core_exchanged c))).controller ≡ c.controller
near_after d c = far_same d (core_exchanged c)

pub near_tick_goes_out : (l : Link) (ts us : List Turn) (ending later : Ending) → is_open l.controller.side.role ≡ true
    → IsLinkUndisturbed l (Ticks (record { turns = ts; ending = ending }) [] (record { turns = us; ending = later }) ∷ []) → ending ≡ GoesOut
near_tick_goes_out l ts us GoesOut later p u = refl
near_tick_goes_out l ts us CutOff later p u =
    let x : CoreLink =
    core_all_here (core_ticks_or_cut (core_tick l.controller.side ts CutOff) (core_aged (core_of l))) (core_tick_rest l.controller.side ts CutOff ++ []) in
    let d : Option (List CoreTurn) = core_tick l.host.side us later in
    let b = began (map CoreAtHost (core_tick_rest l.host.side us later) ++ []) u.2 in
    let same : (core_exchanged (core_ticks_or_cut d (core_exchanged x))).controller ≡ x.controller = near_after d x in
    absurd (let z = sym (ap (λ (k : CoreEnd). k.side.phase) same ∙ near_cut l.controller.side ts (core_aged (core_of l)) p) ∙ b.controller_up in cc)

-- an end that doesn't wait waits after a reset
reset_waits : (c : CoreLink) (w : ℕ) (ts : List CoreTurn) → is_waiting c.controller.side ≡ false
    → (core_happens_here c (CoreReset w ts)).controller.side.phase ≡ Waiting
reset_waits c w ts q =
    (sent_same 12 (core_turned (reset_with c.controller.side w) ts)).phase ∙ (turned-phase ts (reset_with c.controller.side w) ∙ rw q refl)

-- where an end that doesn't wait is reset it isn't up
module _ (l : Link) (ts : List Turn) (p : is_open l.controller.side.role ≡ true) (q : is_waiting l.controller.side.shdlc ≡ false) where
  none : reset_refusal l.controller.side ≡ None
  none = rw (p, q) refl

  still : core_ticks_if_waiting (core_aged (core_of l)) ≡ core_aged (core_of l)
  still = rw q refl

  abbrev reset_there : Ending → CoreLink
  reset_there ending = core_all_here (core_ticks_if_waiting (core_aged (core_of l))) (core_all (aged l) (Step (AsksReset None) ts ending ∷ []))

  gone : (ending : Ending) → (reset_there ending).controller.side.phase ≡ Up → ⊥
  gone GoesOut up =
      let e : LinkEnd = l.controller.side in
      let w = reset_waits (core_aged (core_of l)) (window_of e None) (core_turns (reset_by e (window_of e None)) ts) q in
      let y : Waiting ≡ Up = (sym w ∙ (rw (still, none) at up)) in
      cc
  gone CutOff up = grind arith

  -- no notice is late
  not_late : (ending : Ending) (h : Node) → IsLinkUndisturbed l (TicksWithout (Step (AsksReset None) ts ending ∷ []) h ∷ []) → ⊥
  not_late ending h u =
      let b = began (map CoreAtHost (core_tick_rest l.host.side h.turns h.ending) ++ []) u.2 in
      let same = near_after (core_tick l.host.side h.turns h.ending) (reset_there ending) in
      gone ending (sym (ap (λ (k : CoreEnd). k.side.phase) same) ∙ b.controller_up)

  -- nor where both ends are up behind a tick that goes out
  pub late_not_up : (ending : Ending) (h : Node) → is_open l.host.side.role ≡ true → h.ending ≡ GoesOut
      → (core_after (core_of l) (core_event l (TicksWithout (Step (AsksReset None) ts ending ∷ []) h))).controller.side.phase ≡ Up → ⊥
  late_not_up ending h o out up =
      let d : Option (List CoreTurn) = core_tick l.host.side h.turns h.ending in
      let x : CoreLink = reset_there ending in
      let rest : core_tick_rest l.host.side h.turns h.ending ≡ [] = rw (out, o) refl in
      let P : List CoreEndEvent → Type 0 =
      λ es. (core_after (core_exchanged (core_ticks_or_cut d (core_exchanged x))) (map CoreAtHost es)).controller.side.phase ≡ Up in
      gone ending (sym (ap (λ (k : CoreEnd). k.side.phase) (near_after d x)) ∙ subst P rest up)

-- a tick of an undisturbed link
pub record IsCalmTick (l : Link) (late : Bool) (c h : Node) : Type 0 where
  pub is : tick_so l late c h ≡ Ticks c [] h
  pub near : c.ending ≡ GoesOut
  pub far : h.ending ≡ GoesOut

pub calm_tick : (l : Link) (late : Bool) (c h : Node) → is_open l.controller.side.role ≡ true → is_open l.host.side.role ≡ true
    → IsLinkUndisturbed l (tick_so l late c h ∷ []) → IsCalmTick l late c h
calm_tick l late c h p q u = by_test (late && not (is_waiting l.controller.side.shdlc))
    (λ r. let is : tick_so l late c h ≡ TicksWithout (Step (AsksReset None) c.turns c.ending ∷ []) h = rw r refl in
    let v : IsLinkUndisturbed l (TicksWithout (Step (AsksReset None) c.turns c.ending ∷ []) h ∷ []) = grind arith in
    absurd (not_late l c.turns p (grind arith) c.ending h v))
    (λ r. let is : tick_so l late c h ≡ Ticks c [] h = rw r refl in
    let v : IsLinkUndisturbed l (Ticks c [] h ∷ []) = subst (λ e. IsLinkUndisturbed l (e ∷ [])) is u in
    record { is = is; near = near_tick_goes_out l c.turns h.turns c.ending h.ending p v; far = grind arith })
