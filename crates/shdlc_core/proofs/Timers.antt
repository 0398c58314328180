-- The timer, the tries and the windows of an end, whatever comes to it.
use Rattle.shdlc_core.proofs.Words.{Act, Begin, Bool, Clt, Control, Down, Due, EndInput, EndState, Fragment, I, Kind, LinkState, List, NextOut, None, Offer}
use Rattle.shdlc_core.proofs.Words.{Option, Reset, Rset, S, Session, SessionHistory, SetReady, Some, Stop, Take, Tick, Timed, Ua, Up, Waiting, [], acknowledged}
use Rattle.shdlc_core.proofs.Words.{arith, common_steps, cond, end_step, false, length, max, min, nat_lt, new_end, new_session, no_history, place_of, received}
use Rattle.shdlc_core.proofs.Words.{refl, runs_timer, shdlc_after_inputs, subst, sym, timed, true, ℕ, ◌+◌, ◌<◌, ◌==◌, ◌∙◌, ◌∷◌, ◌≡◌, ◌≤◌}
use Rattle.shdlc_core.specs.Histories.{AskForWindows}
use Rattle.shdlc_core.proofs.Histories.{IsOrdered, Holds, new-Holds, step-Holds, place_of-within, in_phase, received-phase, received-sending}

abbrev pub IsWindow : ℕ → Type 0
IsWindow w = (1 ≤ w) × (w ≤ 4)

-- the window of a session is 1 to 4, and where T2 doesn't run it stands at 0
abbrev pub IsTimedIn : LinkState → Session → ℕ → Type 0
IsTimedIn Up s timer = IsWindow s.window × (runs_timer s ≡ false → timer ≡ 0)
IsTimedIn Down s timer = timer ≡ 0
IsTimedIn Waiting s timer = Unit {0}

pub record TimedFor (phase : LinkState) (s : Session) (own peer ticks : ℕ) (made : ℕ) : Type 0 where
  pub own_window : IsWindow own
  pub peer_window : IsWindow peer
  pub timer : ticks < 10
  pub tries : made ≤ 5
  pub session : IsTimedIn phase s ticks

abbrev pub IsTimed : EndState → Type 0
IsTimed e = TimedFor e.phase e.session e.own_window e.peer_window e.timer e.tries

-- a step from an ordered session keeps it
abbrev Keeps : EndState → EndInput → Type 0
Keeps e i = IsOrdered e.session → IsTimed e → IsTimed (end_step e i).0

lesser : (a b : ℕ) → IsWindow a → IsWindow b → IsWindow (min a b)
lesser a b p q = let p0 = p.0 in let p1 = p.1 in let q0 = q.0 in let q1 = q.1 in (omega arith, omega arith)

up : (w own peer : ℕ) → IsWindow w → IsWindow own → IsWindow peer → TimedFor Up (new_session w) own peer 0 0
up w own peer p q r = record { own_window = q; peer_window = r; timer = omega arith; tries = omega arith; session = (p, λ _. refl) }

waits : (s : Session) (own : ℕ) → IsWindow own → TimedFor Waiting s own 4 0 1
waits s own q = grind arith

-- where the place doesn't grow, T2 runs as before
acked_runs : (s : Session) (x t : ℕ) (gap answered : Bool) (acc : List Fragment) → s.acked ≤ x → s.acked ≤ s.next → (runs_timer s ≡ false → t ≡ 0) →
    runs_timer (record s { acked = x; next = max s.next x; acc = acc; gap_open = gap; answered_rnr = answered }) ≡ false → cond (nat_lt s.acked x) 0 t ≡ 0
acked_runs s x t gap answered acc l o stands r = grind (arith, common_steps)

received-kept : (f : EndState) (ns : ℕ) (info : Fragment) →
    ((received f ns info).own_window ≡ f.own_window) × ((received f ns info).peer_window ≡ f.peer_window)
    × ((received f ns info).timer ≡ f.timer) × ((received f ns info).tries ≡ f.tries)
received-kept f ns info = (grind (arith, common_steps), grind (arith, common_steps), grind (arith, common_steps), grind (arith, common_steps))

fragment-up : (e : EndState) (ns nr : ℕ) (info : Fragment) (o : Option ℕ) → place_of e.session nr ≡ o → Keeps (in_phase Up e) (Take (I ns nr info))
fragment-up e ns nr info None q o k = rw q k
fragment-up e ns nr info (Some x) q o k =
    let within = place_of-within e.session nr x q in
    let f = acknowledged (in_phase Up e) x in
    let kept = received-kept f ns info in
    rw q (record {
      own_window = subst IsWindow (sym kept.0) k.own_window;
      peer_window = subst IsWindow (sym kept.1) k.peer_window;
      timer = subst (λ t. t < 10) (sym kept.2) (grind arith);
      tries = subst (λ t. t ≤ 5) (sym kept.3) (grind arith);
      session =
          subst (λ p. IsTimedIn p (received f ns info).session (received f ns info).timer) (sym (received-phase f ns info)) (
            subst IsWindow (sym ((received-sending f ns info).3)) k.session.0,
            λ r. kept.2 ∙ acked_runs e.session x e.timer e.session.gap_open e.session.answered_rnr e.session.acc within.0 o.next k.session.1
                (sym (grind arith) ∙ r),
          );
    })

supervised-up : (e : EndState) (kind : Kind) (nr : ℕ) (o : Option ℕ) → place_of e.session nr ≡ o → Keeps (in_phase Up e) (Take (S kind nr))
supervised-up e kind nr o q a k = grind arith

reset-up : (e : EndState) (w caps : ℕ) (b : Bool) → (w == 0) ≡ b → Keeps (in_phase Up e) (Take (Rset w caps))
reset-up e w caps b q o k = grind arith

take-up : (e : EndState) (c : Control) → Keeps (in_phase Up e) (Take c)
take-up e (I ns nr info) o k = fragment-up e ns nr info _ refl o k
take-up e (S kind nr) o k = supervised-up e kind nr _ refl o k
take-up e (Rset w caps) o k = reset-up e w caps _ refl o k
take-up e Ua o k = k
take-up e (Act act again) o k = k
take-up e Clt o k = k

take-down : (e : EndState) (c : Control) → Keeps (in_phase Down e) (Take c)
take-down e c o k = grind arith

take-waiting : (e : EndState) (c : Control) → Keeps (in_phase Waiting e) (Take c)
take-waiting e c o k = grind arith

tick-up : (e : EndState) (runs : Bool) (t : Timed) → runs_timer e.session ≡ runs → timed e ≡ t → Keeps (in_phase Up e) Tick
tick-up e runs t r q o k = grind arith

tick-waiting : (e : EndState) (t : Timed) → timed e ≡ t → Keeps (in_phase Waiting e) Tick
tick-waiting e t q o k = grind arith

offer-up : (e : EndState) (info : Fragment) (b : Bool) → nat_lt (length e.session.out) (e.session.acked + 4) ≡ b →
    Keeps (in_phase Up e) (Offer info)
offer-up e info false q o k = rw q k
offer-up e info true q o k = rw q (record {
  own_window = k.own_window;
  peer_window = k.peer_window;
  timer = k.timer;
  tries = k.tries;
  session = (k.session.0, λ r. k.session.1 (grind (arith, common_steps)));
})

reset-asked : (e : EndState) (w : ℕ) (p : LinkState) → IsWindow w → Keeps (in_phase p e) (Reset w)
reset-asked e w p i o k = grind arith

set_ready : (e : EndState) (p : LinkState) (r was answered : Bool) → e.ready ≡ was → e.session.answered_rnr ≡ answered →
    Keeps (in_phase p e) (SetReady r)
set_ready e p r was answered q w o k = grind arith

next_out : (e : EndState) (p : LinkState) (ds : List Due) → e.due ≡ ds → Keeps (in_phase p e) NextOut
next_out e p ds d o k = grind arith

-- a reset that is asked for names a window
abbrev NamesWindow : EndInput → Type 0
NamesWindow (Reset w) = IsWindow w
NamesWindow _ = Unit {0}

step-phase : (e : EndState) (i : EndInput) (p : LinkState) → NamesWindow i → Keeps (in_phase p e) i
step-phase e Begin p a o k = up e.own_window e.own_window e.peer_window k.own_window k.own_window k.peer_window
step-phase e Stop p a o k = grind arith
step-phase e (Reset w) p a o k = reset-asked e w p a o k
step-phase e (SetReady r) p a o k = set_ready e p r _ _ refl refl o k
step-phase e NextOut p a o k = next_out e p _ refl o k
step-phase e (Offer info) Up a o k = offer-up e info _ refl o k
step-phase e (Offer info) Down a o k = k
step-phase e (Offer info) Waiting a o k = k
step-phase e (Take c) Up a o k = take-up e c o k
step-phase e (Take c) Down a o k = take-down e c o k
step-phase e (Take c) Waiting a o k = take-waiting e c o k
step-phase e Tick Up a o k = tick-up e _ _ refl refl o k
step-phase e Tick Down a o k = k
step-phase e Tick Waiting a o k = tick-waiting e _ refl o k

first_named : (i : EndInput) (is : List EndInput) → AskForWindows (i ∷ is) → NamesWindow i × AskForWindows is
first_named i is a = grind arith

run-timed : (e : EndState) (h : SessionHistory) (inputs : List EndInput) → Holds e h → IsTimed e → AskForWindows inputs → IsTimed (shdlc_after_inputs e inputs)
run-timed e h [] k t a = t
run-timed e h (i ∷ inputs) k t a =
    let named = first_named i inputs a in
    run-timed (end_step e i).0 _ inputs (step-Holds e h i k) (step-phase e i e.phase named.0 k.ordered t) named.1

-- from a new end on
pub new-timed : (w : ℕ) (inputs : List EndInput) → IsWindow w → AskForWindows inputs → IsTimed (shdlc_after_inputs (new_end w) inputs)
new-timed w inputs i a = run-timed (new_end w) no_history inputs (new-Holds w []) ((grind arith)) a

-- ## What follows for each law

pub none-runs : (s : Session) → IsOrdered s → (s.next ≡ s.acked) × (s.peer_busy ≡ false) → runs_timer s ≡ false
none-runs s o q = let a = q.0 in let b = q.1 in grind (arith, common_steps)

pub empty-runs : (s : Session) → IsOrdered s → length s.out ≡ s.acked → runs_timer s ≡ false
empty-runs s o q = grind arith

pub up-session : (p : LinkState) (s : Session) (timer : ℕ) → p ≡ Up → IsTimedIn p s timer →
    ((1 ≤ s.window) × (s.window ≤ 4)) × (runs_timer s ≡ false → timer ≡ 0)
up-session p s timer q i = grind arith
