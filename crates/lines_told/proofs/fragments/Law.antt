-- Events, stretches of them and rounds bring the places of both ends on their way, so rounds acknowledge all that was given before them.
use Rattle.lines_told.proofs.Words.{Acts, AllOrdinary, AllShdlcAllowed, AreOrdinaryTurns, AreRounds, AreTurns, AreUndisturbed, AtController, AtHost}
use Rattle.lines_told.proofs.Words.{BothTakeFragments, Deliver, EarlierDelivered, EndState, Fragment, FragmentsInOrder, IsOrdinary, IsPrefix, IsRound}
use Rattle.lines_told.proofs.Words.{IsShdlcAllowed, IsShdlcStart, IsStretch, List, Lose, Losses, None, NumberedShdlc, OnWire, SafeLink, ShdlcEndEvent}
use Rattle.lines_told.proofs.Words.{ShdlcLink, ShdlcLinkEvent, ShdlcTurn, Some, Tick, TickWithout, Turns, Up, [], act_frame, after-append, aged_wire, ap, arith}
use Rattle.lines_told.proofs.Words.{cases_lt, false, frames_of, inl, inr, is_some, length, loses_aged, map, no_losses, noted_aged, noted_all, noted_event}
use Rattle.lines_told.proofs.Words.{noted_here, noted_tick, noted_turns, or_parts, refl, safe, safe_aged, safe_event, safe_turn, sans, shdlc_after, shdlc_aged}
use Rattle.lines_told.proofs.Words.{shdlc_all_at_controller, shdlc_exchanged, shdlc_happens, shdlc_happens_at_controller, shdlc_put_all}
use Rattle.lines_told.proofs.Words.{shdlc_ticks_at_controller, shdlc_turned, subst, suc, sym, taken_at_controller, taken_at_host, taken_here, tick_answer}
use Rattle.lines_told.proofs.Words.{tick_or_cut, ticked, ticks_among, to_deliver, true, turned-phase, undelivered, with_shdlc_ended, zero, ℕ, ◌*◌, ◌++◌, ◌+◌}
use Rattle.lines_told.proofs.Words.{◌-◌, ◌<◌, ◌||◌, ◌∙◌, ◌∷◌, ◌≡◌, ◌≤◌, ◌⊎◌}
use Rattle.lines_told.proofs.fragments.Becomes.{Advances, Answered, Counted, Grown, IsIdle, NoRnrBehind, Sent, advances_then, answered_still, behind_aged}
use Rattle.lines_told.proofs.fragments.Becomes.{behind_all, behind_more, grown_still, in_aged, in_all, in_more, in_none, out_lost, prefix_length, prefix_of}
use Rattle.lines_told.proofs.fragments.Becomes.{prefix_then, prefix_within, put_all_same, sent_same, sent_still}
use Rattle.lines_told.proofs.fragments.NearSteps.{Did, Leaves, Sound, did_acts, did_delivers, did_exchanged, did_loses, did_then, did_ticks, did_turns}
use Rattle.lines_told.proofs.fragments.NearSteps.{did_wires, ended_wires, leaves_same, pair_up, sound_exchanged}
use Rattle.lines_told.proofs.fragments.Turns.{Answers, Brings}
use Rattle.lines_told.proofs.fragments.Wide.{wide}

-- ## Each event of a round, and so each stretch of them, brings the places of both ends on their way

-- ### All frames grow older

did_aged : (n : Losses) (m : ShdlcLink) → (noted_aged n m).lost ≡ false → Did 0 0 0 0 m (shdlc_aged m)
did_aged n m none =
    did_wires 0 0 m (aged_wire m.to_controller) (aged_wire m.to_host) (leaves_aged m.to_controller (grind arith)) (leaves_aged m.to_host there)
  where
    there : loses_aged (sans m.to_host) ≡ false
    there = (or_parts (n.lost || loses_aged (sans m.to_controller)) (loses_aged (sans m.to_host)) none).1

    leaves_aged : (w : List OnWire) → loses_aged (sans w) ≡ false → Leaves 0 w (aged_wire w)
    leaves_aged w kept = record {
      rnr = λ j k i r. behind_aged k w (behind_more j k w (omega arith) r);
      stands = λ P plain j k i s. in_aged P plain k w kept (in_more P j k w (omega arith) s);
    }

-- ### At one end

sound_from : {kn kf kn' kf' c d tn tf : ℕ} {m n : ShdlcLink} → Sound kn kf m → Did c d tn tf m n → SafeLink kn' kf' n → n.controller.side.phase ≡ Up
    → n.host.side.phase ≡ Up → Sound kn' kf' n
sound_from h did safe near far = grind arith

did_here : {m : ShdlcLink} → Sound 0 0 m → m.controller.side.ready ≡ true → (e : ShdlcEndEvent) → IsOrdinary e → (n : Losses)
    → (noted_here n m e).lost ≡ false
    → Did (taken_here e) 0 0 0 m (shdlc_happens_at_controller m e)
did_here h ready (Turns ts) o n none = did_turns h ts n none
did_here h ready (Deliver ts) o n none = did_delivers h ready ts n none
did_here h ready (Acts acts ts) o n none = did_acts h acts ts n none
did_here h ready Lose o n none = did_loses n none
did_here h ready _ o n none = absurd o

allowed : (e : ShdlcEndEvent) → IsOrdinary e → IsShdlcAllowed e
allowed e o = grind arith

-- ### The turns of a tick

turns_phase : (es : List ShdlcEndEvent) (m : ShdlcLink) → AreOrdinaryTurns es → (shdlc_all_at_controller m es).controller.side.phase ≡ m.controller.side.phase
turns_phase [] m o = refl
turns_phase (Turns ts ∷ es) m o =
    turns_phase es (shdlc_happens_at_controller m (Turns ts)) o ∙ ((sent_same 12 (shdlc_turned m.controller.side ts)).phase ∙ turned-phase ts m.controller.side)
turns_phase (Acts acts ts ∷ es) m o =
    turns_phase es (shdlc_happens_at_controller m (Acts acts ts)) o ∙ ((sent_same 12
    (shdlc_turned m.controller.side ts)).phase ∙ turned-phase ts m.controller.side)
turns_phase (_ ∷ es) m o = absurd o

-- what was lost stays lost
here_lost : (m : ShdlcLink) (e : ShdlcEndEvent) (es : List ShdlcEndEvent) (n : Losses) → AreOrdinaryTurns (e ∷ es) → (noted_here n m e).lost ≡ false
    → n.lost ≡ false
here_lost m (Turns ts) es n o none = out_lost (frames_of 12 (shdlc_turned m.controller.side ts)) n m none
here_lost m (Acts acts ts) es n o none =
    out_lost (map act_frame acts) n m
    (out_lost (frames_of 12 (shdlc_turned m.controller.side ts)) (noted_all n m (map act_frame acts)) (shdlc_put_all m (map act_frame acts)) none)
here_lost m _ es n o none = absurd o

turns_lost : (es : List ShdlcEndEvent) (m : ShdlcLink) (n : Losses) → AreOrdinaryTurns es → (noted_turns n m es).lost ≡ false → n.lost ≡ false
turns_lost [] m n o none = none
turns_lost (e ∷ es) m n o none = here_lost m e es n o (turns_lost es (shdlc_happens_at_controller m e) (noted_here n m e) (grind arith) none)

-- the link after one of them
one_turned : {kf : ℕ} {m : ShdlcLink} (e : ShdlcEndEvent) (es : List ShdlcEndEvent) → AreOrdinaryTurns (e ∷ es) → Sound 0 kf m → (n : Losses)
    → (noted_here n m e).lost ≡ false → Did 0 0 0 0 m (shdlc_happens_at_controller m e) × Sound 0 kf (shdlc_happens_at_controller m e)
one_turned {kf} {m} (Turns ts) es o h n none =
    let did = did_turns h ts n none in
    let e : EndState = shdlc_turned m.controller.side ts in (
      did,
      sound_from h did (safe_turn kf m (Turns ts) tt h.safe) ((sent_same 12 e).phase ∙ (turned-phase ts m.controller.side ∙ h.near_up))
          (ap (λ (x : NumberedShdlc). x.side.phase) (put_all_same (frames_of 12 e) m).1 ∙ h.far_up),
    )
one_turned {kf} {m} (Acts acts ts) es o h n none =
    let did = did_acts h acts ts n none in
    let e : EndState = shdlc_turned m.controller.side ts in
    let l : ShdlcLink = shdlc_put_all m (map act_frame acts) in (
      did,
      sound_from h did (safe_turn kf m (Acts acts ts) tt h.safe) ((sent_same 12 e).phase ∙ (turned-phase ts m.controller.side ∙ h.near_up))
          (ap (λ (x : NumberedShdlc). x.side.phase) ((put_all_same (frames_of 12 e) l).1 ∙ (put_all_same (map act_frame acts) m).1) ∙ h.far_up),
    )
one_turned _ es o h n none = absurd o

all_turned : {kf : ℕ} (es : List ShdlcEndEvent) {m : ShdlcLink} → AreOrdinaryTurns es → Sound 0 kf m → (n : Losses) → (noted_turns n m es).lost ≡ false
    → Did 0 0 0 0 m (shdlc_all_at_controller m es) × Sound 0 kf (shdlc_all_at_controller m es)
all_turned [] {m} o h n none = ((did_wires 0 0 m m.to_controller m.to_host (leaves_same m.to_controller) (leaves_same m.to_host)), h)
all_turned (e ∷ es) {m} o h n none =
    let later : AreOrdinaryTurns es = grind arith in
    let one = one_turned e es o h n (turns_lost es (shdlc_happens_at_controller m e) (noted_here n m e) later none) in
    let rest = all_turned es later one.1 (noted_here n m e) none in
    (did_then one.0 rest.0, rest.1)

-- ### A tick

tick_lost : (m : ShdlcLink) (ts : List ShdlcTurn) (n : Losses) → (noted_tick n (Some ts) m).lost ≡ false → n.lost ≡ false
tick_lost m ts n none =
    out_lost (frames_of 12 (shdlc_turned (ticked m.controller.side) ts)) n (with_shdlc_ended m (is_some (tick_answer m.controller.side).ended)) none

pub tick_host : (m : ShdlcLink) (ts : List ShdlcTurn) → (shdlc_ticks_at_controller m ts).host ≡ m.host
tick_host m ts =
    let l : ShdlcLink = with_shdlc_ended m (is_some (tick_answer m.controller.side).ended) in
    (put_all_same (frames_of 12 (shdlc_turned (ticked m.controller.side) ts)) l).1 ∙ (ended_wires m (is_some (tick_answer m.controller.side).ended)).2

turns_allowed : (es : List ShdlcEndEvent) → AreOrdinaryTurns es → AreTurns es
turns_allowed [] o = tt
turns_allowed (Turns ts ∷ es) o = (tt, turns_allowed es o)
turns_allowed (Acts acts ts ∷ es) o = (tt, turns_allowed es o)
turns_allowed (_ ∷ es) o = absurd o

did_tick : {l : ShdlcLink} (ts us : List ShdlcTurn) (es : List ShdlcEndEvent) → Sound 0 0 l → AreOrdinaryTurns es → (n : Losses)
    → (noted_event n l (Tick (Some ts) es (Some us))).lost ≡ false → (shdlc_happens l (Tick (Some ts) es (Some us))).controller.side.phase ≡ Up
    → (shdlc_happens l (Tick (Some ts) es (Some us))).host.side.phase ≡ Up → Did 0 0 1 1 l (shdlc_happens l (Tick (Some ts) es (Some us)))
did_tick {l} ts us es h o n none up far_up =
    let m : ShdlcLink = shdlc_aged l in
    let near : ShdlcLink = shdlc_ticks_at_controller m ts in
    let then : ShdlcLink = shdlc_all_at_controller near es in
    let there : ShdlcLink = shdlc_exchanged then in
    let a : Losses = noted_aged n l in
    let b : Losses = noted_tick a (Some ts) m in
    let c : Losses = noted_turns b near es in
    let kept_c : c.lost ≡ false = tick_lost there us c none in
    let kept_b : b.lost ≡ false = turns_lost es near b o kept_c in
    let aged = did_aged n l (tick_lost m ts a kept_b) in
    let old : Sound 1 1 m = sound_from h aged (safe_aged l h.safe) h.near_up h.far_up in
    let then_up : then.controller.side.phase ≡ Up = sym (ap (λ (x : NumberedShdlc). x.side.phase) (tick_host there us)) ∙ up in
    let near_up : near.controller.side.phase ≡ Up = sym (turns_phase es near o) ∙ then_up in
    let one : Did 0 0 1 0 m near = did_ticks old ts a kept_b near_up in
    let ticked : Sound 0 1 near =
    sound_from old one (tick_or_cut 1 (Some ts) m old.safe) near_up (ap (λ (x : NumberedShdlc). x.side.phase) (tick_host m ts) ∙ old.far_up) in
    let turned = all_turned es o ticked b kept_c in
    did_then aged (did_then one (did_then turned.0 (did_exchanged (did_ticks (sound_exchanged turned.1) us c none far_up))))

-- ## A stretch of events, and a round: how far they bring the places of both ends

-- ### A stretch

did_as : {c d tn tf c' d' tn' tf' : ℕ} {m n : ShdlcLink} → c ≡ c' → d ≡ d' → tn ≡ tn' → tf ≡ tf' → Did c d tn tf m n → Did c' d' tn' tf' m n
did_as p q r s h = rw (← p, ← q, ← r, ← s) h

pub began : {l : ShdlcLink} (es : List ShdlcLinkEvent) → AreUndisturbed l es → BothTakeFragments l
began [] u = u
began (e ∷ es) u = u.0

did_stretch : (es : List ShdlcLinkEvent) {l : ShdlcLink} → Sound 0 0 l → AreUndisturbed l es → AllOrdinary es
    → Did (taken_at_controller es) (taken_at_host es) (ticks_among es) (ticks_among es) l (shdlc_after l es) × Sound 0 0 (shdlc_after l es)
did_stretch [] {l} h u o = ((did_wires 0 0 l l.to_controller l.to_host (leaves_same l.to_controller) (leaves_same l.to_host)), h)
did_stretch (AtController e ∷ es) {l} h u o =
    let did = did_here h u.0.controller_ready e o.0 no_losses u.1 in
    let next = began es u.2 in
    let sound : Sound 0 0 (shdlc_happens l (AtController e)) =
    sound_from h did (safe_event l (AtController e) [] (allowed e o.0, tt) h.safe).0 next.controller_up next.host_up in
    let rest = did_stretch es sound u.2 o.1 in
    (did_as refl (omega arith) (omega arith) (omega arith) (did_then did rest.0), rest.1)
did_stretch (AtHost e ∷ es) {l} h u o =
    let did = did_exchanged (did_here (sound_exchanged h) u.0.host_ready e o.0 no_losses u.1) in
    let next = began es u.2 in
    let rest = did_stretch es (sound_from h did (safe_event l (AtHost e) [] (allowed e o.0, tt) h.safe).0 next.controller_up next.host_up) u.2 o.1 in
    (did_as (omega arith) refl (omega arith) (omega arith) (did_then did rest.0), rest.1)
did_stretch (Tick (Some ts) turns (Some us) ∷ es) {l} h u o =
    let next = began es u.2 in
    let did = did_tick ts us turns h o.0 no_losses u.1 next.controller_up next.host_up in
    let sound : Sound 0 0 (shdlc_happens l (Tick (Some ts) turns (Some us))) =
    sound_from h did (safe_event l (Tick (Some ts) turns (Some us)) [] (turns_allowed turns o.0, tt) h.safe).0 next.controller_up next.host_up in
    let rest = did_stretch es sound u.2 o.1 in
    (did_as (omega arith) (omega arith) refl refl (did_then did rest.0), rest.1)
did_stretch (Tick (Some ts) turns None ∷ es) h u o = absurd o.0
did_stretch (Tick None turns us ∷ es) h u o = absurd o.0
did_stretch (TickWithout turns us ∷ es) h u o = absurd o.0

-- ### A round

-- what a round does for the place a of the controller's end
record Passes (a : ℕ) (l n : ShdlcLink) : Type 0 where
  pub acked : l.controller.side.session.acked ≤ n.controller.side.session.acked
  pub out : length l.controller.side.session.out ≤ length n.controller.side.session.out
  pub front : IsPrefix l.controller.side.session.out n.controller.side.session.out
  pub rnr : NoRnrBehind 0 n.to_controller
  pub idle : IsIdle n
  pub answered : a ≤ l.controller.side.session.acked → Answered a l → Grown a n
  pub sent : a ≤ l.controller.side.session.acked → Sent a l → Answered a n
  pub waits : a ≤ l.controller.side.session.acked → a < length l.controller.side.session.out → NoRnrBehind 0 l.to_controller → IsIdle l
      → Counted l.controller.side.timer 1 n ⊎ Sent a n

-- first all that stands on the wire to it is taken
passes_near : {a : ℕ} {l m o n : ShdlcLink} → Advances a (length l.to_controller) 0 0 l m → Advances a 0 (length m.to_host) 0 m o → Advances a 0 0 1 o n
    → Passes a l n
passes_near {a} {l} {m} {o} {n} f g h =
    record {
      acked = omega (arith, f.acked, g.acked, h.acked);
      out = omega (arith, f.out, g.out, h.out);
      front = prefix_then l.controller.side.session.out o.controller.side.session.out n.controller.side.session.out
          (prefix_then l.controller.side.session.out m.controller.side.session.out o.controller.side.session.out f.front g.front) h.front;
      rnr = h.rnr 0 0 (omega arith) (g.rnr 0 0 (omega arith) (f.rnr (length l.to_controller) 0 (omega arith) (behind_all l.to_controller)));
      idle = h.idle (inr (omega arith));
      answered = λ low s. answered low s;
      sent = λ low s. sent low (sent_still f low s);
      waits = (advances_then (advances_then f g) h).waits;
    }
  where
    answered : a ≤ l.controller.side.session.acked → Answered a l → Grown a n
    answered low (inr e) = grown_still h (grown_still g (grown_still f e))
    answered low (inl s) = elim (f.answered (length l.to_controller) 0 (omega arith) low (in_all (Answers a) l.to_controller s)) [
      | inl e ↦ absurd (in_none (Answers a) m.to_controller e)
      | inr e ↦ grown_still h (grown_still g e)
    ]

    sent : a ≤ l.controller.side.session.acked → Sent a m → Answered a n
    sent low (inr e) =
        answered_still h (omega (arith, f.acked, g.acked)) (answered_still g (omega (arith, f.acked)) e)
    sent low (inl s) = elim (g.sent (length m.to_host) 0 (omega arith) (omega (arith, f.acked)) (in_all (Brings a) m.to_host s)) [
      | inl e ↦ absurd (in_none (Brings a) o.to_host e)
      | inr e ↦ answered_still h (omega (arith, f.acked, g.acked)) e
    ]

-- first all that stands on the wire from it is taken
passes_far : {a : ℕ} {l m o n : ShdlcLink} → Advances a 0 (length l.to_host) 0 l m → Advances a (length m.to_controller) 0 0 m o → Advances a 0 0 1 o n
    → Passes a l n
passes_far {a} {l} {m} {o} {n} f g h =
    record {
      acked = omega (arith, f.acked, g.acked, h.acked);
      out = omega (arith, f.out, g.out, h.out);
      front = prefix_then l.controller.side.session.out o.controller.side.session.out n.controller.side.session.out
          (prefix_then l.controller.side.session.out m.controller.side.session.out o.controller.side.session.out f.front g.front) h.front;
      rnr = h.rnr 0 0 (omega arith) (g.rnr (length m.to_controller) 0 (omega arith) (behind_all m.to_controller));
      idle = h.idle (inr (omega arith));
      answered = λ low s. answered low (answered_still f low s);
      sent = λ low s. sent low s;
      waits = (advances_then (advances_then f g) h).waits;
    }
  where
    answered : a ≤ l.controller.side.session.acked → Answered a m → Grown a n
    answered low (inr e) = grown_still h (grown_still g e)
    answered low (inl s) = elim (g.answered (length m.to_controller) 0 (omega arith) (omega (arith, f.acked)) (in_all (Answers a) m.to_controller s)) [
      | inl e ↦ absurd (in_none (Answers a) o.to_controller e)
      | inr e ↦ grown_still h e
    ]

    sent : a ≤ l.controller.side.session.acked → Sent a l → Answered a n
    sent low (inr e) = (answered_still h (omega (arith, f.acked, g.acked)) (answered_still g (omega (arith, f.acked)) (answered_still f low e)))
    sent low (inl s) = elim (f.sent (length l.to_host) 0 (omega arith) low (in_all (Brings a) l.to_host s)) [
      | inl e ↦ absurd (in_none (Brings a) m.to_host e)
      | inr e ↦ (answered_still h (omega (arith, f.acked, g.acked)) (answered_still g (omega (arith, f.acked)) e))
    ]

-- undisturbed events, cut in two
pub undisturbed_parts : (es fs : List ShdlcLinkEvent) (l : ShdlcLink) → AreUndisturbed l (es ++ fs) → AreUndisturbed l es × AreUndisturbed (shdlc_after l es) fs
undisturbed_parts [] fs l u = (began fs u, u)
undisturbed_parts (e ∷ es) fs l u =
    let more = undisturbed_parts es fs (shdlc_happens l e) u.2 in
    ((u.0, u.1, more.0), more.1)

stretch_is : {es : List ShdlcLinkEvent} {l : ShdlcLink} {c d t : ℕ} → Sound 0 0 l → AreUndisturbed l es → IsStretch es c d t
    → Did c d t t l (shdlc_after l es) × Sound 0 0 (shdlc_after l es)
stretch_is {es} h u is =
    let s = did_stretch es h u is.ordinary in
    (did_as is.at_controller is.at_host is.ticked is.ticked s.0, s.1)

round_passes : {l : ShdlcLink} {events : List ShdlcLinkEvent} → Sound 0 0 l → AreUndisturbed l events → IsRound l events
    → ((a : ℕ) → Passes a l (shdlc_after l events)) × ((a : ℕ) → Passes a (shdlc_exchanged l) (shdlc_exchanged (shdlc_after l events)))
    × Sound 0 0 (shdlc_after l events)
round_passes {l} {events} h u is =
    let m : ShdlcLink = shdlc_after l is.first in
    let one = undisturbed_parts is.first (is.second ++ is.third) l (rw (← is.parts) u) in
    let two = undisturbed_parts is.second is.third m one.1 in
    let a = stretch_is h one.0 is.to_controller in
    let b = stretch_is a.1 two.0 is.to_host in
    let c = stretch_is b.1 two.1 is.ticks in
    let P : ShdlcLink → Type 0 =
    λ n. ((a : ℕ) → Passes a l n) × ((a : ℕ) → Passes a (shdlc_exchanged l) (shdlc_exchanged n)) × Sound 0 0 n in
    subst P (sym (ap (shdlc_after l) is.parts ∙ (after-append l is.first (is.second ++ is.third) ∙ after-append m is.second is.third)))
    ((λ k. passes_near (a.0.own k) (b.0.own k) (c.0.own k)), (λ k. passes_far (a.0.other k) (b.0.other k) (c.0.other k)), c.1)

-- the last moment of undisturbed events
pub ended : (es : List ShdlcLinkEvent) (l : ShdlcLink) → AreUndisturbed l es → BothTakeFragments (shdlc_after l es)
ended [] l u = u
ended (e ∷ es) l u = ended es (shdlc_happens l e) u.2

-- ## Rounds one after another acknowledge all that was given before them

-- so many rounds lead from the one moment to the other
abbrev Lead : ℕ → ShdlcLink → ShdlcLink → Type 0
Lead zero l n = l ≡ n
Lead (suc k) l n = (m : ShdlcLink) × ((a : ℕ) → Passes a l m) × Lead k m n

module _ (n : ShdlcLink) where
  acked_still : (k : ℕ) (l : ShdlcLink) → Lead k l n → l.controller.side.session.acked ≤ n.controller.side.session.acked
  acked_still zero l e = omega (arith, ap (λ (x : ShdlcLink). x.controller.side.session.acked) e)
  acked_still (suc k) l (m, p, e) = omega (arith, acked_still k m e, (p 0).acked)

  -- an answer is on its way, and then the fragment
  answered_grows : (a k : ℕ) (l : ShdlcLink) → 1 ≤ k → a ≤ l.controller.side.session.acked → Answered a l → Lead k l n → Grown a n
  answered_grows a zero l i low s e = absurd (omega (arith, i))
  answered_grows a (suc k) l i low s (m, p, e) = let g : Grown a m = (p a).answered low s in omega (arith, g, acked_still k m e)

  sent_grows : (a k : ℕ) (l : ShdlcLink) → 2 ≤ k → a ≤ l.controller.side.session.acked → Sent a l → Lead k l n → Grown a n
  sent_grows a zero l i low s e = absurd (omega (arith, i))
  sent_grows a (suc k) l i low s (m, p, e) = answered_grows a k m (omega (arith, i)) (omega (arith, (p a).acked)) ((p a).sent low s) e

  -- the timer has so many ticks to go
  waits_grows : (a k : ℕ) (l : ShdlcLink) → 12 ≤ k + l.controller.side.timer → 3 ≤ k → a ≤ l.controller.side.session.acked
      → a < length l.controller.side.session.out → NoRnrBehind 0 l.to_controller → IsIdle l → Lead k l n → Grown a n
  waits_grows a zero l i j low more rnr idle e = absurd (omega (arith, j))
  waits_grows a (suc k) l i j low more rnr idle (m, p, e) = go ((p a).waits low more rnr idle) (waits_grows a k m)
    where
      go : Counted l.controller.side.timer 1 m ⊎ Sent a m
          → (12 ≤ k + m.controller.side.timer → 3 ≤ k → a ≤ m.controller.side.session.acked → a < length m.controller.side.session.out
          → NoRnrBehind 0 m.to_controller → IsIdle m → Lead k m n → Grown a n)
          → Grown a n
      go (inr s) later = sent_grows a k m (omega (arith, j)) (omega (arith, (p a).acked)) s e
      go (inl c) later =
          later (omega (arith, i, c.timer)) (omega (arith, i, c.timer, c.below (omega arith))) (omega (arith, (p a).acked)) (omega (arith, (p a).out))
          (p a).rnr (p a).idle e

  out_still : (k : ℕ) (l : ShdlcLink) → Lead k l n → IsPrefix l.controller.side.session.out n.controller.side.session.out
  out_still zero l e = prefix_of (ap (λ (x : ShdlcLink). x.controller.side.session.out) e)
  out_still (suc k) l (m, p, e) = prefix_then l.controller.side.session.out m.controller.side.session.out n.controller.side.session.out (p 0).front
      (out_still k m e)

-- after a round its end is calm, and stays so
calm_still : (n : ShdlcLink) (k : ℕ) (l : ShdlcLink) → NoRnrBehind 0 l.to_controller → IsIdle l → Lead k l n → NoRnrBehind 0 n.to_controller × IsIdle n
calm_still n zero l rnr idle e = (rw (← e) rnr, rw (← e) idle)
calm_still n (suc k) l rnr idle (m, p, e) = calm_still n k m (p 0).rnr (p 0).idle e

lead_parts : (n : ShdlcLink) (i j k : ℕ) (l : ShdlcLink) → k ≡ i + j → Lead k l n → (m : ShdlcLink) × Lead i l m × Lead j m n
lead_parts n zero j k l q e = (l, refl, let P : ℕ → Type 0 = λ b. Lead b l n in subst P (let same : k ≡ j = omega arith in same) e)
lead_parts n (suc i) j zero l q e = absurd (omega arith)
lead_parts n (suc i) j (suc k) l q (m, p, e) =
    let more = lead_parts n i j k m (omega arith) e in
    (more.0, (m, p, more.1), more.2)

-- from a calm moment on each place takes twelve rounds at most
settles_calm : (f z k : ℕ) (l n : ShdlcLink) → NoRnrBehind 0 l.to_controller → IsIdle l → z ≤ l.controller.side.session.acked + f
    → z ≤ length l.controller.side.session.out → 12 * f ≤ k → Lead k l n → z ≤ n.controller.side.session.acked
settles_calm zero z k l n rnr idle i more fits e = omega (arith, i, acked_still n k l e)
settles_calm (suc f) z k l n rnr idle i more fits e = go (cases_lt l.controller.side.session.acked z) (settles_calm f z)
  where
    go : (l.controller.side.session.acked < z) ⊎ (z ≤ l.controller.side.session.acked)
        → ((k : ℕ) (l n : ShdlcLink) → NoRnrBehind 0 l.to_controller → IsIdle l → z ≤ l.controller.side.session.acked + f
        → z ≤ length l.controller.side.session.out → 12 * f ≤ k → Lead k l n → z ≤ n.controller.side.session.acked)
        → z ≤ n.controller.side.session.acked
    go (inr done) later = omega (arith, acked_still n k l e)
    go (inl still) later =
        let cut = lead_parts n 12 (k - 12) k l (omega (arith, fits)) e in
        let m : ShdlcLink = cut.0 in
        let grown : Grown l.controller.side.session.acked m =
        waits_grows m l.controller.side.session.acked 12 l (omega arith) (omega arith) (omega arith) (omega (arith, more)) rnr idle cut.1 in
        let calm = calm_still m 12 l rnr idle cut.1 in
        later (k - 12) m n calm.0 calm.1 (omega (arith, grown, i)) (omega
        (arith, more, prefix_length l.controller.side.session.out m.controller.side.session.out (out_still m 12 l cut.1))) (omega (arith, fits)) cut.2

settles : (z k : ℕ) (l n : ShdlcLink) → z ≤ length l.controller.side.session.out → 12 * (z - l.controller.side.session.acked) + 1 ≤ k → Lead k l n
    → z ≤ n.controller.side.session.acked
settles z zero l n more fits e = absurd (omega (arith, fits))
settles z (suc k) l n more fits (m, p, e) =
    settles_calm (z - l.controller.side.session.acked) z k m n (p 0).rnr (p 0).idle (omega (arith, (p 0).acked)) (omega (arith, more, (p 0).out))
    (omega (arith, fits)) e

-- rounds that are undisturbed lead on at both ends
rounds_lead : (k : ℕ) (events : List ShdlcLinkEvent) (l : ShdlcLink) → Sound 0 0 l → AreUndisturbed l events → AreRounds k l events
    → Lead k l (shdlc_after l events) × Lead k (shdlc_exchanged l) (shdlc_exchanged (shdlc_after l events)) × Sound 0 0 (shdlc_after l events)
rounds_lead zero events l h u is = grind arith
rounds_lead (suc k) events l h u (first, rest, parts, one, more) =
    let cut = undisturbed_parts first rest l (rw (← parts) u) in
    let m : ShdlcLink = shdlc_after l first in
    let a = round_passes h cut.0 one in
    let b = rounds_lead k rest m a.2 cut.1 more in
    let P : ShdlcLink → Type 0 = λ n. Lead (suc k) l n × Lead (suc k) (shdlc_exchanged l) (shdlc_exchanged n) × Sound 0 0 n in
    subst P (sym (ap (shdlc_after l) parts ∙ after-append l first rest)) ((m, a.0, b.0), (shdlc_exchanged m, a.1, b.1), b.2)

-- ## The law, for links that came about in any way

sound : (l : ShdlcLink) → IsShdlcStart l → (before : List ShdlcLinkEvent) → AllShdlcAllowed before → BothTakeFragments (shdlc_after l before)
    → Sound 0 0 (shdlc_after l before)
sound l s before a b =
    let safe : SafeLink 0 0 (shdlc_after l before) = safe l s before a in
    let wide = wide l s before a in
    grind arith

-- one direction: the sender is the controller's end, and all that it was given before is acknowledged
delivered : (k : ℕ) (l n : ShdlcLink) → Lead k l n → Sound 0 0 n → length l.controller.side.session.out ≤ n.controller.side.session.acked
    → EarlierDelivered l.controller.side.session n.controller.side.session n.host.side.session
delivered k l n lead h acked =
    let before : List Fragment = l.controller.side.session.out in
    let pair = pair_up h in
    record {
      given = out_still n k l lead;
      accepted = prefix_within before n.host.side.session.acc n.controller.side.session.out (out_still n k l lead) pair.mine.front
          (omega (arith, acked, pair.mine.acked));
      acked = acked;
    }

-- so many rounds are enough
enough : (k : ℕ) (l n : ShdlcLink) → Lead k l n → 12 * undelivered l.controller.side.session + 1 ≤ k
    → length l.controller.side.session.out ≤ n.controller.side.session.acked
enough k l n lead fits = settles (length l.controller.side.session.out) k l n (omega arith) fits lead

-- ### Links that came about in any way

-- they lead on at both ends
led : (l : ShdlcLink) → IsShdlcStart l → (before : List ShdlcLinkEvent) → AllShdlcAllowed before → (k : ℕ) (rounds : List ShdlcLinkEvent)
    → AreRounds k (shdlc_after l before) rounds → AreUndisturbed (shdlc_after l before) rounds
    → Lead k (shdlc_after l before) (shdlc_after (shdlc_after l before) rounds)
    × Lead k (shdlc_exchanged (shdlc_after l before)) (shdlc_exchanged (shdlc_after (shdlc_after l before) rounds))
    × Sound 0 0 (shdlc_after (shdlc_after l before) rounds)
led l s before a k rounds r u = rounds_lead k rounds (shdlc_after l before) (sound l s before a (began rounds u)) u r

-- what was given before is acknowledged, however many rounds it took
pub acked_to_host : (l : ShdlcLink) → IsShdlcStart l → (before : List ShdlcLinkEvent) → AllShdlcAllowed before → (k : ℕ) (rounds : List ShdlcLinkEvent)
    → AreRounds k (shdlc_after l before) rounds → AreUndisturbed (shdlc_after l before) rounds
    → length (shdlc_after l before).controller.side.session.out ≤ (shdlc_after (shdlc_after l before) rounds).controller.side.session.acked
    → EarlierDelivered (shdlc_after l before).controller.side.session (shdlc_after (shdlc_after l before) rounds).controller.side.session
    (shdlc_after (shdlc_after l before) rounds).host.side.session
acked_to_host l s before a k rounds r u acked =
    let g = led l s before a k rounds r u in
    delivered k (shdlc_after l before) (shdlc_after (shdlc_after l before) rounds) g.0 g.2 acked

pub acked_to_controller : (l : ShdlcLink) → IsShdlcStart l → (before : List ShdlcLinkEvent) → AllShdlcAllowed before → (k : ℕ) (rounds : List ShdlcLinkEvent)
    → AreRounds k (shdlc_after l before) rounds → AreUndisturbed (shdlc_after l before) rounds
    → length (shdlc_after l before).host.side.session.out ≤ (shdlc_after (shdlc_after l before) rounds).host.side.session.acked
    → EarlierDelivered (shdlc_after l before).host.side.session (shdlc_after (shdlc_after l before) rounds).host.side.session
    (shdlc_after (shdlc_after l before) rounds).controller.side.session
acked_to_controller l s before a k rounds r u acked =
    let g = led l s before a k rounds r u in
    delivered k (shdlc_exchanged (shdlc_after l before)) (shdlc_exchanged (shdlc_after (shdlc_after l before) rounds)) g.1 (sound_exchanged g.2) acked

-- and what was given before stands in front
pub given_still : (l : ShdlcLink) → IsShdlcStart l → (before : List ShdlcLinkEvent) → AllShdlcAllowed before → (k : ℕ) (rounds : List ShdlcLinkEvent)
    → AreRounds k (shdlc_after l before) rounds → AreUndisturbed (shdlc_after l before) rounds
    → (let m : ShdlcLink = shdlc_after l before in
    let n : ShdlcLink = shdlc_after m rounds in
    IsPrefix m.controller.side.session.out n.controller.side.session.out × IsPrefix m.host.side.session.out n.host.side.session.out)
given_still l s before a k rounds r u =
    let m : ShdlcLink = shdlc_after l before in
    let n : ShdlcLink = shdlc_after m rounds in
    let g = led l s before a k rounds r u in
    (out_still n k m g.0, out_still (shdlc_exchanged n) k (shdlc_exchanged m) g.1)

pub delivered_to_host : (l : ShdlcLink) → IsShdlcStart l → (before : List ShdlcLinkEvent) → AllShdlcAllowed before → (k : ℕ) (rounds : List ShdlcLinkEvent)
    → AreRounds k (shdlc_after l before) rounds → AreUndisturbed (shdlc_after l before) rounds
    → 12 * undelivered (shdlc_after l before).controller.side.session + 1 ≤ k
    → EarlierDelivered (shdlc_after l before).controller.side.session (shdlc_after (shdlc_after l before) rounds).controller.side.session
    (shdlc_after (shdlc_after l before) rounds).host.side.session
delivered_to_host l s before a k rounds r u fits =
    acked_to_host l s before a k rounds r u
    (enough k (shdlc_after l before) (shdlc_after (shdlc_after l before) rounds) (led l s before a k rounds r u).0 fits)

pub delivered_to_controller : (l : ShdlcLink) → IsShdlcStart l → (before : List ShdlcLinkEvent) → AllShdlcAllowed before → (k : ℕ)
    (rounds : List ShdlcLinkEvent) → AreRounds k (shdlc_after l before) rounds → AreUndisturbed (shdlc_after l before) rounds
    → 12 * undelivered (shdlc_after l before).host.side.session + 1 ≤ k
    → EarlierDelivered (shdlc_after l before).host.side.session (shdlc_after (shdlc_after l before) rounds).host.side.session
    (shdlc_after (shdlc_after l before) rounds).controller.side.session
delivered_to_controller l s before a k rounds r u fits =
    acked_to_controller l s before a k rounds r u
    (enough k (shdlc_exchanged (shdlc_after l before)) (shdlc_exchanged (shdlc_after (shdlc_after l before) rounds)) (led l s before a k rounds r u).1 fits)

-- by what both ends have to deliver
pub all_to_host : (l : ShdlcLink) → IsShdlcStart l → (before : List ShdlcLinkEvent) → AllShdlcAllowed before → (k : ℕ) (rounds : List ShdlcLinkEvent)
    → AreRounds k (shdlc_after l before) rounds → AreUndisturbed (shdlc_after l before) rounds → 24 * (to_deliver (shdlc_after l before) + 1) ≤ k
    → EarlierDelivered (shdlc_after l before).controller.side.session (shdlc_after (shdlc_after l before) rounds).controller.side.session
    (shdlc_after (shdlc_after l before) rounds).host.side.session
all_to_host l s before a k rounds r u fits = delivered_to_host l s before a k rounds r u (omega (arith, fits))

pub all_to_controller : (l : ShdlcLink) → IsShdlcStart l → (before : List ShdlcLinkEvent) → AllShdlcAllowed before → (k : ℕ) (rounds : List ShdlcLinkEvent)
    → AreRounds k (shdlc_after l before) rounds → AreUndisturbed (shdlc_after l before) rounds → 24 * (to_deliver (shdlc_after l before) + 1) ≤ k
    → EarlierDelivered (shdlc_after l before).host.side.session (shdlc_after (shdlc_after l before) rounds).host.side.session
    (shdlc_after (shdlc_after l before) rounds).controller.side.session
all_to_controller l s before a k rounds r u fits = delivered_to_controller l s before a k rounds r u (omega (arith, fits))

-- what is in order at their end
in_order : (l : ShdlcLink) → Sound 0 0 l → FragmentsInOrder l.controller.side.session l.host.side.session
in_order l h = grind arith

pub order_after : (l : ShdlcLink) → IsShdlcStart l → (before : List ShdlcLinkEvent) → AllShdlcAllowed before → (k : ℕ) (rounds : List ShdlcLinkEvent)
    → AreRounds k (shdlc_after l before) rounds → AreUndisturbed (shdlc_after l before) rounds
    → (let n : ShdlcLink = shdlc_after (shdlc_after l before) rounds in
    FragmentsInOrder n.controller.side.session n.host.side.session × FragmentsInOrder n.host.side.session n.controller.side.session)
order_after l s before a k rounds r u = let h0 = shdlc_after l before in let h1 = led l s before a k rounds r u in grind arith
