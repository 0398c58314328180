-- What comes to an end has nothing to do with the messages that came there before and wait.
use Rattle.node_ends.proofs.Words.{ActEvent, ActFrame, ActStart, ActStop, ActTake, Bool, Clt, Control, Fetch, FromNode, I, LinkInput, List, Machine, Message}
use Rattle.node_ends.proofs.Words.{Option, Reset, Rset, S, Start, Stop, Take, TakeBroken, TakeUnknown, Tick, Ua, [], activated, after_input, ap, append-nil}
use Rattle.node_ends.proofs.Words.{arith, brought, false, got_by, heard, if◌then◌else◌, is_faulty, is_open, is_some, moved, news, put_down, refl, stopped, sym}
use Rattle.node_ends.proofs.Words.{take_answer, taken, took, true, true≢false, ℕ, ◌++◌, ◌+◌, ◌∙◌, ◌≡◌}
use Rattle.link_laws.specs.machine.Machine.{deactivated, had_tick, started}

-- an end where these messages wait
abbrev pub with_got : List Message → Machine → Machine
with_got g e = record e { got = g }

down_apart : (b : Bool) (e : Machine) (g : List Message) → put_down b (with_got g e) ≡ with_got g (put_down b e)
down_apart b e g = grind arith

pub activated_apart : (e : Machine) (g : List Message) (event : ActEvent) → activated (with_got g e) event ≡ with_got g (activated e event)
activated_apart e g event = grind arith

-- nothing came with it
none_came : (e : Machine) (g : List Message) → with_got g e ≡ with_got (g ++ []) e
none_came e g = ap (λ l. with_got l e) (sym (append-nil g))

heard_apart : (e : Machine) (g : List Message) (c : Control)
    → heard (with_got g e) c ≡ with_got (g ++ (if is_faulty (taken e.shdlc c).session then [] else news e.shdlc.session (taken e.shdlc c))) (heard e c)
heard_apart e g c = by (is_faulty (taken e.shdlc c).session) refl
  where
    by_end : (b : Bool) → record (moved (with_got g e) b (taken e.shdlc c)) { got = g ++ news e.shdlc.session (taken e.shdlc c) }
        ≡ with_got (g ++ news e.shdlc.session (taken e.shdlc c))
        (record (moved e b (taken e.shdlc c)) { got = e.got ++ news e.shdlc.session (taken e.shdlc c) })
    by_end b = grind arith

    by : (b : Bool) → is_faulty (taken e.shdlc c).session ≡ b
        → heard (with_got g e) c ≡ with_got (g ++ (if is_faulty (taken e.shdlc c).session then [] else news e.shdlc.session (taken e.shdlc c))) (heard e c)
    by true q = rw q (down_apart true e g ∙ none_came (put_down true e) g)
    by false q = rw q (by_end (is_some (take_answer e.shdlc c).ended))

open_apart : (e : Machine) (g : List Message) (c : Control) → ((x : Machine) → took x c ≡ (if is_open x.role then heard x c else x))
    → (brought e c ≡ (if is_open e.role then (if is_faulty (taken e.shdlc c).session then [] else news e.shdlc.session (taken e.shdlc c)) else []))
    → took (with_got g e) c ≡ with_got (g ++ brought e c) (took e c)
open_apart e g c t b = by (is_open e.role) refl
  where
    by : (o : Bool) → is_open e.role ≡ o → took (with_got g e) c ≡ with_got (g ++ brought e c) (took e c)
    by true q = rw (t (with_got g e), t e, b, q) (heard_apart e g c)
    by false q = rw (t (with_got g e), t e, b, q) (none_came e g)

pub took_apart : (e : Machine) (g : List Message) (c : Control) → took (with_got g e) c ≡ with_got (g ++ brought e c) (took e c)
took_apart e g (ActFrame act again) = activated_apart e g (ActTake act again) ∙ none_came (activated e (ActTake act again)) g
took_apart e g Clt = none_came (record e { passed_over = e.passed_over + 1 }) g
took_apart e g (I ns nr info) = open_apart e g (I ns nr info) (λ x. refl) refl
took_apart e g (S kind nr) = open_apart e g (S kind nr) (λ x. refl) refl
took_apart e g (Rset window caps) = open_apart e g (Rset window caps) (λ x. refl) refl
took_apart e g Ua = open_apart e g Ua (λ x. refl) refl

tick_apart : (e : Machine) (g : List Message) → had_tick (with_got g e) ≡ with_got g (had_tick e)
tick_apart e g = grind arith

reset_apart : (e : Machine) (g : List Message) (window : Option ℕ) → after_input (with_got g e) (Reset window) ≡ with_got g (after_input e (Reset window))
reset_apart e g window = grind arith

-- what comes to an end from outside
abbrev pub is_outside : LinkInput → Bool
is_outside (Take c) = true
is_outside TakeUnknown = true
is_outside Tick = true
is_outside (Reset window) = true
is_outside (Start value) = true
is_outside Stop = true
is_outside (TakeBroken fault) = false
is_outside (FromNode t) = false
is_outside Fetch = false

pub input_apart : (e : Machine) (g : List Message) (i : LinkInput) → is_outside i ≡ true
    → after_input (with_got g e) i ≡ with_got (g ++ got_by e i) (after_input e i)
input_apart e g (Take c) o = took_apart e g c
input_apart e g TakeUnknown o = none_came (record e { passed_over = e.passed_over + 1 }) g
input_apart e g Tick o = tick_apart e g ∙ none_came (had_tick e) g
input_apart e g (Reset window) o = reset_apart e g window ∙ none_came (after_input e (Reset window)) g
input_apart e g (Start value) o = activated_apart (moved e true (stopped e.shdlc)) g (ActStart value) ∙ none_came (started e value) g
input_apart e g Stop o = activated_apart (moved e true (stopped e.shdlc)) g ActStop ∙ none_came (deactivated e) g
input_apart e g (TakeBroken fault) o = absurd (true≢false (sym o))
input_apart e g (FromNode t) o = absurd (true≢false (sym o))
input_apart e g Fetch o = absurd (true≢false (sym o))
