-- Frames of activation on the wires of a link: an active CLF never meets ACT_SYNC_ID.
use Rattle.std.specs.Prelude.{◌+◌}
use Rattle.link_laws.proofs.Words.{Act, ActOut, ActReady, ActTake, ActTick, Activation, Awaiting, Bare, Bool, Clf, ClfAct, Control, Down, EndState, I, Inactive}
use Rattle.link_laws.proofs.Words.{Link, LinkEnd, List, None, OnWire, Option, Phase, PowerMode, Role, Rset, S, Some, SyncId, Uicc, [], act_answer, act_frame}
use Rattle.link_laws.proofs.Words.{aged_wire, ap, arith, false, fetched, fits, frame_due, frames_of, inl, inr, is_act, is_active, is_open, nat_le, nat_lt, put}
use Rattle.link_laws.proofs.Words.{put_all, refl, role_after, subst, suc, sym, true, true≢false, zero, ℕ, ◌++◌, ◌∙◌, ◌∷◌, ◌≡◌, ◌⊎◌}
use Rattle.swp_act.specs.declared.Phase.TheVariants.{Active}
use Rattle.swp_act.specs.declared.uicc.UiccAct.{UiccAct}
use Rattle.swp_act.specs.Activation.{no_act_out, sends, clf_step, uicc_step}
use Rattle.link_laws.proofs.Cases.{by_option, by_test}

-- ## Frames on a wire

abbrev pub is_sync : Control → Bool
is_sync (Act (SyncId id) again) = true
is_sync _ = false

abbrev pub is_ready : Control → Bool
is_ready (Act ActReady again) = true
is_ready _ = false

abbrev pub is_again : Control → Bool
is_again (Act act again) = again
is_again _ = false

-- no such frame stands on a wire
abbrev pub Without : (Control → Bool) → List OnWire → Type 0
Without f [] = Unit {0}
Without f (x ∷ xs) = (f x.frame ≡ false) × Without f xs

-- behind an ACT_READY stands no ACT_SYNC_ID
abbrev pub SyncFirst : List OnWire → Type 0
SyncFirst [] = Unit {0}
SyncFirst (x ∷ xs) = ((is_ready x.frame ≡ false) ⊎ Without is_sync xs) × SyncFirst xs

without_push : (f : Control → Bool) (w : List OnWire) (x : OnWire) → f x.frame ≡ false → Without f w → Without f (w ++ x ∷ [])
without_push f [] x q h = (q, tt)
without_push f (y ∷ w) x q h = (h.0, without_push f w x q h.1)

without_fits : (f : Control → Bool) (w : List OnWire) → Without f w → Without f (fits w)
without_fits f w h = grind arith

without_aged : (f : Control → Bool) (w : List OnWire) → Without f w → Without f (aged_wire w)
without_aged f [] h = tt
without_aged f (x ∷ xs) h = let h0 = aged_wire (x ∷ xs) in let h1 = without_aged f xs h.1 in grind arith

first_push : (w : List OnWire) (x : OnWire) → Without is_ready w ⊎ (is_sync x.frame ≡ false) → SyncFirst w → SyncFirst (w ++ x ∷ [])
first_push [] x e h = (inr tt, tt)
first_push (y ∷ w) x (inl r) h = (inl r.0, first_push w x (inl r.1) h.1)
first_push (y ∷ w) x (inr s) h = (go h.0, first_push w x (inr s) h.1)
  where
    go : (is_ready y.frame ≡ false) ⊎ Without is_sync w → (is_ready y.frame ≡ false) ⊎ Without is_sync (w ++ x ∷ [])
    go (inl a) = inl a
    go (inr b) = inr (without_push is_sync w x s b)

first_fits : (w : List OnWire) → SyncFirst w → SyncFirst (fits w)
first_fits w h = grind arith

first_aged : (w : List OnWire) → SyncFirst w → SyncFirst (aged_wire w)
first_aged [] h = tt
first_aged (x ∷ xs) h =
    by_test {P = SyncFirst (aged_wire (x ∷ xs))} (nat_lt x.age 4) (λ q. rw q (more h.0, (first_aged xs h.1))) (λ q. rw q (first_aged xs h.1))
  where
    more : (is_ready x.frame ≡ false) ⊎ Without is_sync xs → (is_ready x.frame ≡ false) ⊎ Without is_sync (aged_wire xs)
    more (inl a) = inl a
    more (inr b) = inr (without_aged is_sync xs b)

not_act : (c : Control) → is_act c ≡ false → (is_sync c ≡ false) × (is_ready c ≡ false) × (is_again c ≡ false)
not_act c q = grind arith

-- ## A CLF, a UICC and the wires to them

abbrev pub is_awaiting : Phase → Bool
is_awaiting Inactive = false
is_awaiting (Awaiting tries ticks) = true
is_awaiting Active = false

pub record Line (c : ClfAct) (u : UiccAct) (to_c to_u : List OnWire) : Type 0 where
  pub clf : is_active c.phase ≡ true → Without is_sync to_c × (is_awaiting u.phase ≡ false)
  pub ready : Without is_ready to_c ⊎ (is_awaiting u.phase ≡ false)
  pub tail : SyncFirst to_c
  pub plain : Without is_again to_u
  pub last : is_awaiting u.phase ≡ true → (v : ℕ) × (u.last ≡ Some (SyncId v))

-- fewer frames
line_less : (c : ClfAct) (u : UiccAct) (w v w' v' : List OnWire) → ((f : Control → Bool) → Without f w → Without f w') → (SyncFirst w → SyncFirst w')
    → (Without is_again v → Without is_again v')
    → Line c u w v → Line c u w' v'
line_less c u w v w' v' less tail plain h = grind arith

-- a frame more to the UICC
line_push_u : (c : ClfAct) (u : UiccAct) (w v : List OnWire) (x : OnWire) → is_again x.frame ≡ false → Line c u w v → Line c u w (fits (v ++ x ∷ []))
line_push_u c u w v x q h =
    line_less c u w v w (fits (v ++ x ∷ [])) (λ f z. z) (λ z. z) (λ z. without_fits is_again (v ++ x ∷ []) (without_push is_again v x q z)) h

-- a frame of SHDLC more to the CLF
line_push_c : (c : ClfAct) (u : UiccAct) (w v : List OnWire) (x : OnWire) → is_act x.frame ≡ false → Line c u w v → Line c u (fits (w ++ x ∷ [])) v
line_push_c c u w v x q h =
    let n = not_act x.frame q in
    record {
      clf = λ a. let z = h.clf a in (without_fits is_sync (w ++ x ∷ []) (without_push is_sync w x n.0 z.0), z.1);
      ready = go h.ready;
      tail = first_fits (w ++ x ∷ []) (first_push w x (inr n.0) h.tail);
      plain = h.plain;
      last = h.last;
    }
  where
    go : Without is_ready w ⊎ (is_awaiting u.phase ≡ false) → Without is_ready (fits (w ++ x ∷ [])) ⊎ (is_awaiting u.phase ≡ false)
    go (inl a) = inl (without_fits is_ready (w ++ x ∷ []) (without_push is_ready w x (not_act x.frame q).1 a))
    go (inr b) = inr b

-- the ends of a link, one after the other, and the wires to them
abbrev pub ActsInOrder : Role → Role → List OnWire → List OnWire → Type 0
ActsInOrder Bare Bare w v = Unit {0}
ActsInOrder (Clf c) (Uicc u) w v = Line c u w v
ActsInOrder (Uicc u) (Clf c) w v = Line c u v w
ActsInOrder _ _ w v = ⊥

abbrev pub LinkInOrder : Link → Type 0
LinkInOrder l = ActsInOrder l.controller.side.role l.host.side.role l.to_controller l.to_host

pub in_order_aged : (r f : Role) (w v : List OnWire) → ActsInOrder r f w v → ActsInOrder r f (aged_wire w) (aged_wire v)
in_order_aged Bare Bare w v h = tt
in_order_aged (Clf c) (Uicc u) w v h = line_less c u w v (aged_wire w) (aged_wire v) (λ f. without_aged f w) (first_aged w) (without_aged is_again v) h
in_order_aged (Uicc u) (Clf c) w v h = line_less c u v w (aged_wire v) (aged_wire w) (λ f. without_aged f v) (first_aged v) (without_aged is_again w) h
in_order_aged Bare (Clf c) w v h = absurd h
in_order_aged Bare (Uicc u) w v h = absurd h
in_order_aged (Clf c) Bare w v h = absurd h
in_order_aged (Clf c) (Clf d) w v h = absurd h
in_order_aged (Uicc u) Bare w v h = absurd h
in_order_aged (Uicc u) (Uicc t) w v h = absurd h

-- a frame of SHDLC more on the wire from the near end
in_order_push : (r f : Role) (w v : List OnWire) (x : OnWire) → is_act x.frame ≡ false → ActsInOrder r f w v → ActsInOrder r f w (fits (v ++ x ∷ []))
in_order_push Bare Bare w v x q h = tt
in_order_push (Clf c) (Uicc u) w v x q h = line_push_u c u w v x (not_act x.frame q).2 h
in_order_push (Uicc u) (Clf c) w v x q h = line_push_c c u v w x q h
in_order_push Bare (Clf c) w v x q h = absurd h
in_order_push Bare (Uicc u) w v x q h = absurd h
in_order_push (Clf c) Bare w v x q h = absurd h
in_order_push (Clf c) (Clf d) w v x q h = absurd h
in_order_push (Uicc u) Bare w v x q h = absurd h
in_order_push (Uicc u) (Uicc t) w v x q h = absurd h

-- ## All that an end puts on its wire

abbrev pub NoActs : List Control → Type 0
NoActs [] = Unit {0}
NoActs (c ∷ cs) = (is_act c ≡ false) × NoActs cs

pub no_acts : (n : ℕ) (e : EndState) → NoActs (frames_of n e)
no_acts zero e = tt
no_acts (suc n) e = by_option {P = NoActs (frames_of (suc n) e)} (frame_due e) (λ q. rw q tt) (λ c q. rw q (grind arith, (no_acts n (fetched e))))

pub in_order_put_all : (r f : Role) (w : List OnWire) (cs : List Control) (k : Link) → NoActs cs → ActsInOrder r f w k.to_host
    → ActsInOrder r f w (put_all k cs).to_host
in_order_put_all r f w [] k a h = h
in_order_put_all r f w (c ∷ cs) k a h = in_order_put_all r f w cs (put k c) a.1 (one c a.0)
  where
    one : (c : Control) → is_act c ≡ false → ActsInOrder r f w (put k c).to_host
    one (Act _ _) q = absurd (true≢false q)
    one (I ns nr info) q = in_order_push r f w k.to_host (record { frame = I ns nr info; age = 0; number = 0 }) q h
    one (S kind nr) q = in_order_push r f w k.to_host (record { frame = S kind nr; age = 0; number = 0 }) q h
    one (Rset n caps) q = in_order_push r f w k.to_host (record { frame = Rset n caps; age = 0; number = k.resets + 1 }) q h
    one it q = in_order_push r f w k.to_host (record { frame = it; age = 0; number = 0 }) q h

-- ## What activation puts there

abbrev pub with_sent : Option Activation → List OnWire → List OnWire
with_sent None v = v
with_sent (Some act) v = fits (v ++ record { frame = act_frame act; age = 0; number = 0 } ∷ [])

-- the CLF sends something
clf_sends : (c : ClfAct) (u : UiccAct) (w v : List OnWire) (o : Option Activation) → Line c u w v → Line c u w (with_sent o v)
clf_sends c u w v None h = h
clf_sends c u w v (Some act) h = line_push_u c u w v (record { frame = act_frame act; age = 0; number = 0 }) refl h

-- the CLF isn't active now
clf_inactive : (c d : ClfAct) (u : UiccAct) (w v : List OnWire) → is_active d.phase ≡ false → Line c u w v → Line d u w v
clf_inactive c d u w v q h = record { clf = λ a. absurd (true≢false (sym a ∙ q)); ready = h.ready; tail = h.tail; plain = h.plain; last = h.last }

-- the UICC is active now and sends ACT_READY
uicc_ready : (c : ClfAct) (u t : UiccAct) (w v : List OnWire) → is_awaiting t.phase ≡ false → Line c u w v → Line c t (with_sent (Some ActReady) w) v
uicc_ready c u t w v q h =
    let x : OnWire = record { frame = act_frame ActReady; age = 0; number = 0 } in
    record {
      clf = λ a. (without_fits is_sync (w ++ x ∷ []) (without_push is_sync w x refl (h.clf a).0), q);
      ready = inr q;
      tail = first_fits (w ++ x ∷ []) (first_push w x (inr refl) h.tail);
      plain = h.plain;
      last = λ a. absurd (true≢false (sym a ∙ q));
    }

-- and sends ACT_SYNC_ID again
uicc_syncs : (c : ClfAct) (u : UiccAct) (w v : List OnWire) (id : ℕ) → is_awaiting u.phase ≡ true → Line c u w v → Line c u (with_sent (Some (SyncId id)) w) v
uicc_syncs c u w v id q h =
    let x : OnWire = record { frame = act_frame (SyncId id); age = 0; number = 0 } in
    record {
      clf = λ a. absurd (true≢false (sym q ∙ (h.clf a).1));
      ready = inl (without_fits is_ready (w ++ x ∷ []) (without_push is_ready w x refl (grind arith)));
      tail = first_fits (w ++ x ∷ []) (first_push w x (inl (grind arith)) h.tail);
      plain = h.plain;
      last = h.last;
    }

-- a frame of activation is taken
pub in_order_take : (r f : Role) (x : OnWire) (w v : List OnWire) (act : Activation) (again : Bool) → x.frame ≡ Act act again → ActsInOrder r f (x ∷ w) v
    → ActsInOrder (role_after r (ActTake act again)) f w (with_sent (act_answer r (ActTake act again)).send v)
in_order_take Bare Bare x w v act again q h = tt
in_order_take Bare (Clf c) x w v act again q h = absurd h
in_order_take Bare (Uicc u) x w v act again q h = absurd h
in_order_take (Clf c) Bare x w v act again q h = absurd h
in_order_take (Clf c) (Clf d) x w v act again q h = absurd h
in_order_take (Uicc u) Bare x w v act again q h = absurd h
in_order_take (Uicc u) (Uicc t) x w v act again q h = absurd h
in_order_take (Clf c) (Uicc u) x w v act again q h = go act again q
  where
    g : Line c u w v
    g = grind arith

    P : ClfAct × ActOut → Type 0
    P z = Line z.0 u w (with_sent z.1.send v)

    by : (act : Activation) (again : Bool) (z : ClfAct × ActOut) → clf_step c (ActTake act again) ≡ z → P z → P (clf_step c (ActTake act again))
    by act again z p t = subst P (sym p) t

    active : is_ready x.frame ≡ true → (d : ClfAct) → Line d u w v
    active y d = grind arith

    go : (act : Activation) (again : Bool) → x.frame ≡ Act act again → P (clf_step c (ActTake act again))
    go act true q = clf_sends c u w v c.last g
    go (PowerMode code) false q = g
    go (SyncId id) false q = phase c.phase refl
      where
        d : Phase → ClfAct
        d p = record { phase = p; last = Some (PowerMode c.power); power = c.power }

        phase : (p : Phase) → c.phase ≡ p → P (clf_step c (ActTake (SyncId id) false))
        phase (Awaiting tries ticks) p =
            by (SyncId id) false (
              d (Awaiting tries 0),
              record {
                send = Some (PowerMode c.power);
                became_active = false;
                ended_link = false;
                sync = Some id;
                gave_up = None;
              },
            ) (rw p refl)
            (clf_sends (d (Awaiting tries 0)) u w v (Some (PowerMode c.power)) (clf_inactive c (d (Awaiting tries 0)) u w v refl g))
        phase _ p =
            by (SyncId id) false (
              d (Awaiting 1 0),
              record {
                send = Some (PowerMode c.power);
                became_active = false;
                ended_link = true;
                sync = Some id;
                gave_up = None;
              },
            ) (rw p refl)
            (clf_sends (d (Awaiting 1 0)) u w v (Some (PowerMode c.power)) (clf_inactive c (d (Awaiting 1 0)) u w v refl g))
    go ActReady false q = grind arith
in_order_take (Uicc u) (Clf c) x w v act again q h = go act again q
  where
    g : Line c u v w
    g = grind arith

    P : UiccAct × ActOut → Type 0
    P z = Line c z.0 (with_sent z.1.send v) w

    by : (act : Activation) (again : Bool) (z : UiccAct × ActOut) → uicc_step u (ActTake act again) ≡ z → P z → P (uicc_step u (ActTake act again))
    by act again z p t = subst P (sym p) t

    ready : UiccAct
    ready = record { phase = Active; last = Some ActReady }

    go : (act : Activation) (again : Bool) → x.frame ≡ Act act again → P (uicc_step u (ActTake act again))
    go act true q = absurd (true≢false (sym (ap is_again q) ∙ h.plain.0))
    go ActReady false q = g
    go (SyncId id) false q = g
    go (PowerMode code) false q = phase u.phase (nat_le code 1) refl refl
      where
        phase : (p : Phase) (b : Bool) → u.phase ≡ p → nat_le code 1 ≡ b → P (uicc_step u (ActTake (PowerMode code) false))
        phase p false r s = by (PowerMode code) false (u, no_act_out) (rw s refl) g
        phase Inactive true r s = by (PowerMode code) false (u, no_act_out) (rw (s, r) refl) g
        phase Active true r s = by (PowerMode code) false (ready, sends (Some ActReady)) (rw (s, r) refl) (uicc_ready c u ready v w refl g)
        phase (Awaiting tries ticks) true r s =
            by (PowerMode code) false (ready, record { send = Some ActReady; became_active = true; ended_link = false; sync = None; gave_up = None })
            (rw (s, r) refl) (uicc_ready c u ready v w refl g)

-- an end that isn't open has its tick
pub in_order_tick : (r f : Role) (w v : List OnWire) → is_open r ≡ false → ActsInOrder r f w v
    → ActsInOrder (role_after r ActTick) f w (with_sent (act_answer r ActTick).send v)
in_order_tick Bare f w v o h = absurd (true≢false o)
in_order_tick (Clf c) Bare w v o h = absurd h
in_order_tick (Clf c) (Clf d) w v o h = absurd h
in_order_tick (Uicc u) Bare w v o h = absurd h
in_order_tick (Uicc u) (Uicc t) w v o h = absurd h
in_order_tick (Clf c) (Uicc u) w v o h =
    let d : ClfAct = (clf_step c ActTick).0 in
    clf_sends d u w v (clf_step c ActTick).1.send (clf_inactive c d u w v (grind arith) h)
in_order_tick (Uicc u) (Clf c) w v o h = phase u.phase refl
  where
    P : UiccAct × ActOut → Type 0
    P z = Line c z.0 (with_sent z.1.send v) w

    by : (z : UiccAct × ActOut) → uicc_step u ActTick ≡ z → P z → P (uicc_step u ActTick)
    by z p t = subst P (sym p) t

    at : Phase → UiccAct
    at p = record { phase = p; last = u.last }

    phase : (p : Phase) → u.phase ≡ p → P (uicc_step u ActTick)
    phase Active p = absurd (true≢false (sym (ap is_active p) ∙ o))
    phase Inactive p = by (at Inactive, no_act_out) (rw p refl) (grind arith)
    phase (Awaiting tries ticks) p = tick (nat_le 10 (ticks + 1)) (nat_le 3 tries) refl refl
      where
        waits : is_awaiting u.phase ≡ true
        waits = ap is_awaiting p

        tick : (x y : Bool) → nat_le 10 (ticks + 1) ≡ x → nat_le 3 tries ≡ y → P (uicc_step u ActTick)
        tick true true a b =
            by (at Inactive, record { send = None; became_active = false; ended_link = false; sync = None; gave_up = Some 3 }) (rw (p, a, b) refl)
            (grind arith)
        tick false y a b = by (at (Awaiting tries (ticks + 1)), no_act_out) (rw (p, a) refl) (grind arith)
        tick true false a b =
            let t : UiccAct = at (Awaiting (tries + 1) 0) in
            let l = h.last waits in
            by (t, sends u.last) (rw (p, a, b) refl)
            (subst (λ z. Line c t (with_sent z v) w) (sym l.1) (uicc_syncs c t v w l.0 refl (grind arith)))

-- an end whose link activation puts down isn't open
pub ended_means : (r f : Role) (x : OnWire) (w v : List OnWire) (act : Activation) (again : Bool) → x.frame ≡ Act act again → ActsInOrder r f (x ∷ w) v
    → (act_answer r (ActTake act again)).ended_link ≡ true → is_open r ≡ false
ended_means r f x w v act again q h e = grind arith

-- An active CLF meets no ACT_SYNC_ID: where the first frame on its way to an end puts its link down, it is Down.
abbrev pub IsPolite : LinkEnd → List OnWire → Type 0
IsPolite e [] = Unit {0}
IsPolite e (x ∷ xs) = by_frame x.frame where
  by_frame : Control → Type 0
  by_frame (Act act again) = (act_answer e.role (ActTake act again)).ended_link ≡ true → e.shdlc.phase ≡ Down
  by_frame _ = Unit {0}

pub polite_of : (e : LinkEnd) (f : Role) (w v : List OnWire) → ActsInOrder e.role f w v → (is_open e.role ≡ false → e.shdlc.phase ≡ Down) → IsPolite e w
polite_of e f w v h closed = grind arith
