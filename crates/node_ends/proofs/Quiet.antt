-- An end that isn't ready accepts nothing, so that no message comes to it.
use Rattle.node_ends.proofs.Words.{ActFrame, Bool, Clt, Control, EndState, Err, Fragment, I, LinkState, List, LpduFault, Machine, Message, Ok, Result, Rset, S}
use Rattle.node_ends.proofs.Words.{Ua, [], ap, arith, brought, control_of, drop, drop_all, false, got_by, if◌then◌else◌, inl, inr, is_faulty, is_open, length}
use Rattle.node_ends.proofs.Words.{lpdu_input, news, refl, taken, true, ℕ, ◌∙◌, ◌≡◌, ◌⊎◌}
use Rattle.link_laws.specs.machine.Machine.{messages_got}

-- what an end has accepted after a frame: the same, or nothing, in a new session
abbrev AcceptsNone : EndState → EndState → Type 0
AcceptsNone e f = (f.session.acc ≡ e.session.acc) ⊎ (f.session.acc ≡ [])

quiet_in : (e : EndState) (c : Control) → e.ready ≡ false → (p : LinkState) → e.phase ≡ p → AcceptsNone e (taken e c)
quiet_in e c r p a = grind arith

drop_nil : (n : ℕ) → drop {A = Message} n [] ≡ []
drop_nil n = drop_all n [] (omega arith)

no_news : (e : EndState) (s : EndState) → AcceptsNone e s → news e.session s ≡ []
no_news e s (inl q) =
    ap (λ (xs : List Fragment). drop (length (messages_got e.session)) (messages_got (record s.session { acc = xs }))) q
    ∙ drop_all (length (messages_got e.session)) (messages_got e.session) (omega arith)
no_news e s (inr q) =
    ap (λ (xs : List Fragment). drop (length (messages_got e.session)) (messages_got (record s.session { acc = xs }))) q
    ∙ drop_nil (length (messages_got e.session))

brings_none : (m : Machine) (c : Control) → m.shdlc.ready ≡ false
    → (brought m c ≡ (if is_open m.role then (if is_faulty (taken m.shdlc c).session then [] else news m.shdlc.session (taken m.shdlc c)) else []))
    → brought m c ≡ []
brings_none m c r b = by (is_open m.role) (is_faulty (taken m.shdlc c).session) refl refl
  where
    by : (o f : Bool) → is_open m.role ≡ o → is_faulty (taken m.shdlc c).session ≡ f → brought m c ≡ []
    by false f p q = rw (b, p) refl
    by true true p q = rw (b, p, q) refl
    by true false p q = rw (b, p, q) (no_news m.shdlc (taken m.shdlc c) (quiet_in m.shdlc c r m.shdlc.phase refl))

-- no frame brings a message to an end that isn't ready
pub held_brings_none : (m : Machine) (c : Control) → m.shdlc.ready ≡ false → brought m c ≡ []
held_brings_none m (ActFrame act again) r = refl
held_brings_none m Clt r = refl
held_brings_none m (I ns nr info) r = brings_none m (I ns nr info) r refl
held_brings_none m (S kind nr) r = brings_none m (S kind nr) r refl
held_brings_none m (Rset window caps) r = brings_none m (Rset window caps) r refl
held_brings_none m Ua r = brings_none m Ua r refl

pub held_gets_none : (m : Machine) (lpdu : List ℕ) → m.shdlc.ready ≡ false → got_by m (lpdu_input lpdu) ≡ []
held_gets_none m lpdu r = by (control_of lpdu) refl
  where
    by : (o : Result Control LpduFault) → control_of lpdu ≡ o → got_by m (lpdu_input lpdu) ≡ []
    by (Ok c) q = rw q (held_brings_none m c r)
    by (Err fault) q = rw q refl
