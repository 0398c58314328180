-- What is true of an end and of the history of its session, whatever comes to it.
use Rattle.std.proofs.Common.{option_to_list, ◌↔◌, ◌≢◌}
use Rattle.std.specs.Prelude.{Contains}
use Rattle.std.proofs.lemmas.Bool.{cases_lt}
use Rattle.std.proofs.lemmas.Option.{slice_get_within}
use Rattle.std.proofs.lemmas.List.Elements.{Contains-append_cases, Contains-append_left, Contains-append_right}
use Rattle.shdlc_core.proofs.Words.{Act, Begin, Bool, Clt, Control, Down, Due, EndInput, EndState, Fragment, I, Kind, LinkState, List, NextOut, None, Offer}
use Rattle.shdlc_core.proofs.Words.{Option, Rej, Reset, Rnr, Rr, Rset, S, Session, SessionHistory, SetReady, Some, Srej, Stop, Take, Tick, Timed, Ua, Up}
use Rattle.shdlc_core.proofs.Words.{Waiting, [], acknowledged, ap, append-nil, append_assoc, arith, begun, common_steps, end_step, false, fragment_accepted}
use Rattle.shdlc_core.proofs.Words.{fragment_due, inl, inr, length, length-append, made_busy, max, min, nat_lt, new_end, new_session, no_history, no_session}
use Rattle.shdlc_core.proofs.Words.{place_of, ready_again, received, refl, rejected, runs_timer, shdlc_after_inputs, slice_get, stopped, subst, sym, timed}
use Rattle.shdlc_core.proofs.Words.{true, up_with, waiting_from, ℕ, ◌%◌, ◌++◌, ◌+◌, ◌-◌, ◌<◌, ◌==◌, ◌∙◌, ◌∷◌, ◌≡◌, ◌≤◌, ◌⊎◌}
use Rattle.shdlc_core.specs.declared.answers.Due.TheVariants.{Rr as Due_rr, Rej as Due_rej, Rnr as Due_rnr, Rset as Due_rset, Ua as Due_ua}
use Rattle.shdlc_core.specs.Machine.{EndOutput, given_up, sent_again, sent_next}
use Rattle.shdlc_core.specs.Machine.Timed.{Runs, Over, Spent}
use Rattle.shdlc_core.specs.Histories.{Begins, IsNextFragment, IsOneSession, accepted_at, history_after, with_answer}

-- an end that isn't Up has nothing of a session
abbrev pub IsIdle : LinkState → Session → Type 0
IsIdle Up s = Unit {0}
IsIdle Down s = s ≡ no_session
IsIdle Waiting s = s ≡ no_session

-- the places of a session stand in this order
pub record IsOrdered (s : Session) : Type 0 where
  pub next : s.acked ≤ s.next
  pub reached : s.next ≤ s.reached
  pub offered : s.reached ≤ length s.out
  pub window : s.reached ≤ s.acked + s.window

-- what is true of an end in this phase, whose session s has this history
pub record HoldsFor (phase : LinkState) (s : Session) (h : SessionHistory) : Type 0 where
  pub accepted : s.acc ≡ h.accepted
  pub offered : s.out ≡ h.offered
  pub acked : s.acked ≡ h.acked
  pub ordered : IsOrdered s
  pub sent : (p : ℕ) → Contains h.sent p ↔ (p < s.reached)
  pub idle : IsIdle phase s

abbrev pub Holds : EndState → SessionHistory → Type 0
Holds e h = HoldsFor e.phase e.session h

-- what is true after an input with this answer
abbrev Along : EndState → SessionHistory → EndInput → EndState × EndOutput → Type 0
Along e h i r = Holds r.0 (with_answer e.session h i r.1)

-- a session begins, or none is there
fresh : (e : EndState) (w : ℕ) → e.session ≡ new_session w → IsIdle e.phase e.session → Holds e no_history
fresh e w q idle = grind arith

-- nothing that a history tells happens
abbrev same_history : SessionHistory → SessionHistory
same_history h = record { accepted = h.accepted ++ []; offered = h.offered ++ []; acked = h.acked + 0; sent = h.sent ++ [] }

same : (h : SessionHistory) → same_history h ≡ h
same h = rw (append-nil h.accepted, append-nil h.offered, append-nil h.sent) (ap (λ n. record h { acked = n }) (omega arith))

-- numbers below the place that a taken N(R) means
pub place_of-within : (s : Session) (nr x : ℕ) → place_of s nr ≡ Some x → (s.acked ≤ x) × (x ≤ s.reached)
place_of-within s nr x q = grind (arith, common_steps)

pub received-accepted : (f : EndState) (ns : ℕ) (info : Fragment) →
    (received f ns info).session.acc ≡ f.session.acc ++ option_to_list (fragment_accepted f ns info)
received-accepted f ns info = grind (arith, common_steps)

pub received-phase : (f : EndState) (ns : ℕ) (info : Fragment) → (received f ns info).phase ≡ f.phase
received-phase f ns info = grind (arith, common_steps)

pub received-acked : (f : EndState) (ns : ℕ) (info : Fragment) → (received f ns info).session.acked ≡ f.session.acked
received-acked f ns info = grind (arith, common_steps)

pub received-sending : (f : EndState) (ns : ℕ) (info : Fragment) →
    ((received f ns info).session.out ≡ f.session.out) × ((received f ns info).session.next ≡ f.session.next)
    × ((received f ns info).session.reached ≡ f.session.reached) × ((received f ns info).session.window ≡ f.session.window)
received-sending f ns info = (grind (arith, common_steps), grind (arith, common_steps), grind (arith, common_steps), grind (arith, common_steps))

-- the acknowledged place goes to x, nothing more counts as sent than was sent, and these fragments are accepted
record Moves (s t : Session) (x : ℕ) (more : List Fragment) : Type 0 where
  out : t.out ≡ s.out
  window : t.window ≡ s.window
  reached : t.reached ≡ s.reached
  acked : t.acked ≡ x
  low : x ≤ t.next
  high : t.next ≤ s.reached
  acc : t.acc ≡ s.acc ++ more

abbrev moved_history : SessionHistory → Session → ℕ → List Fragment → SessionHistory
moved_history h s x more = record { accepted = h.accepted ++ more; offered = h.offered ++ []; acked = h.acked + (x - s.acked); sent = h.sent ++ [] }

moved : (e f : EndState) (h : SessionHistory) (x : ℕ) (more : List Fragment) → Holds e h → f.phase ≡ Up →
    e.session.acked ≤ x → x ≤ e.session.reached → Moves e.session f.session x more → Holds f (moved_history h e.session x more)
moved e f h x more k up low high m = record {
  accepted = m.acc ∙ ap (λ l. l ++ more) k.accepted;
  offered = m.out ∙ k.offered ∙ sym (append-nil h.offered);
  acked = let q = k.acked in let n = m.acked in omega arith;
  ordered =
      let o = k.ordered in
      let len = ap (length {A = Fragment}) m.out in
      record { next = omega arith; reached = omega arith; offered = omega arith; window = omega arith };
  sent = λ p. rw (append-nil h.sent, m.reached) (k.sent p);
  idle = subst (λ phase. IsIdle phase f.session) (sym up) tt;
}

unchanged : (e : EndState) (h : SessionHistory) → Holds e h → Holds e (same_history h)
unchanged e h k = subst (Holds e) (sym (same h)) k

-- the end, with this phase
abbrev pub in_phase : LinkState → EndState → EndState
in_phase p e = record e { phase = p }

abbrev Keeps : EndState → SessionHistory → EndInput → Type 0
Keeps e h i = Holds e h → Along e h i (end_step e i)

fragment-up : (e : EndState) (h : SessionHistory) (ns nr : ℕ) (info : Fragment) (o : Option ℕ) → place_of e.session nr ≡ o →
    Keeps (in_phase Up e) h (Take (I ns nr info))
fragment-up e h ns nr info None q k = rw q (unchanged (in_phase Up e) h k)
fragment-up e h ns nr info (Some x) q k =
    let within = place_of-within e.session nr x q in
    let f = acknowledged (in_phase Up e) x in
    let sending = received-sending f ns info in
    rw q
    (moved (in_phase Up e) (received f ns info) h x (option_to_list (fragment_accepted f ns info)) k (received-phase f ns info)
    within.0 within.1
    (record {
      out = sending.0;
      window = sending.3;
      reached = sending.2;
      acked = received-acked f ns info;
      low = let n = sending.1 in omega arith;
      high = let n = sending.1 in let l = within.1 in let g = k.ordered.reached in omega arith;
      acc = received-accepted f ns info;
    }))

supervised-up : (e : EndState) (h : SessionHistory) (kind : Kind) (nr : ℕ) (o : Option ℕ) → place_of e.session nr ≡ o →
    Keeps (in_phase Up e) h (Take (S kind nr))
supervised-up e h Srej nr o q k = unchanged (in_phase Up e) h k
supervised-up e h Rr nr None q k = rw q (unchanged (in_phase Up e) h k)
supervised-up e h Rej nr None q k = rw q (unchanged (in_phase Up e) h k)
supervised-up e h Rnr nr None q k = rw q (unchanged (in_phase Up e) h k)
supervised-up e h Rr nr (Some x) q k =
    let within = place_of-within e.session nr x q in
    rw q
    (moved (in_phase Up e) (ready_again (in_phase Up e) x) h x [] k refl within.0 within.1
    (record {
      out = refl;
      window = refl;
      reached = refl;
      acked = refl;
      low = omega arith;
      high = let l = within.1 in let g = k.ordered.reached in omega arith;
      acc = sym (append-nil e.session.acc);
    }))
supervised-up e h Rej nr (Some x) q k =
    let within = place_of-within e.session nr x q in
    rw q
    (moved (in_phase Up e) (rejected (in_phase Up e) x) h x [] k refl within.0 within.1
    (record {
      out = refl;
      window = refl;
      reached = refl;
      acked = refl;
      low = omega arith;
      high = within.1;
      acc = sym (append-nil e.session.acc);
    }))
supervised-up e h Rnr nr (Some x) q k =
    let within = place_of-within e.session nr x q in
    rw q
    (moved (in_phase Up e) (made_busy (in_phase Up e) x) h x [] k refl within.0 within.1
    (record {
      out = refl;
      window = refl;
      reached = refl;
      acked = refl;
      low = omega arith;
      high = within.1;
      acc = sym (append-nil e.session.acc);
    }))

reset-up : (e : EndState) (h : SessionHistory) (w caps : ℕ) (b : Bool) → (w == 0) ≡ b → Keeps (in_phase Up e) h (Take (Rset w caps))
reset-up e h w caps true q k = rw q (unchanged (in_phase Up e) h k)
reset-up e h w caps false q k = rw q (fresh (up_with e (min e.own_window (min w 4))) (min e.own_window (min w 4)) refl tt)

reset-down : (e : EndState) (h : SessionHistory) (w caps : ℕ) (b : Bool) → (w == 0) ≡ b → Keeps (in_phase Down e) h (Take (Rset w caps))
reset-down e h w caps true q k = rw q (unchanged (in_phase Down e) h k)
reset-down e h w caps false q k = rw q (fresh (up_with e (min e.own_window (min w 4))) (min e.own_window (min w 4)) refl tt)

reset-waiting : (e : EndState) (h : SessionHistory) (w caps : ℕ) (b : Bool) → (w == 0) ≡ b → Keeps (in_phase Waiting e) h (Take (Rset w caps))
reset-waiting e h w caps true q k = rw q (unchanged (in_phase Waiting e) h k)
reset-waiting e h w caps false q k = rw q (unchanged (in_phase Waiting e) h k)

take-up : (e : EndState) (h : SessionHistory) (c : Control) → Keeps (in_phase Up e) h (Take c)
take-up e h (I ns nr info) k = fragment-up e h ns nr info _ refl k
take-up e h (S kind nr) k = supervised-up e h kind nr _ refl k
take-up e h (Rset w caps) k = reset-up e h w caps _ refl k
take-up e h Ua k = unchanged (in_phase Up e) h k
take-up e h (Act act again) k = unchanged (in_phase Up e) h k
take-up e h Clt k = unchanged (in_phase Up e) h k

take-down : (e : EndState) (h : SessionHistory) (c : Control) → Keeps (in_phase Down e) h (Take c)
take-down e h (I ns nr info) k = unchanged (in_phase Down e) h k
take-down e h (S kind nr) k = unchanged (in_phase Down e) h k
take-down e h (Rset w caps) k = reset-down e h w caps _ refl k
take-down e h Ua k = unchanged (in_phase Down e) h k
take-down e h (Act act again) k = unchanged (in_phase Down e) h k
take-down e h Clt k = unchanged (in_phase Down e) h k

take-waiting : (e : EndState) (h : SessionHistory) (c : Control) → Keeps (in_phase Waiting e) h (Take c)
take-waiting e h (I ns nr info) k = unchanged (in_phase Waiting e) h k
take-waiting e h (S kind nr) k = unchanged (in_phase Waiting e) h k
take-waiting e h (Rset w caps) k = reset-waiting e h w caps _ refl k
take-waiting e h Ua k = fresh (up_with e (min e.own_window e.peer_window)) (min e.own_window e.peer_window) refl tt
take-waiting e h (Act act again) k = unchanged (in_phase Waiting e) h k
take-waiting e h Clt k = unchanged (in_phase Waiting e) h k

tick-up : (e : EndState) (h : SessionHistory) (runs : Bool) (t : Timed) → runs_timer e.session ≡ runs → timed e ≡ t → Keeps (in_phase Up e) h Tick
tick-up e h false t r q k = rw r (unchanged (in_phase Up e) h k)
tick-up e h true Runs r q k = rw (r, q) (unchanged (in_phase Up e) h k)
tick-up e h true Over r q k =
    rw (r, q)
    (unchanged (sent_again (in_phase Up e)) h ((grind arith)))
tick-up e h true Spent r q k = rw (r, q) (fresh (waiting_from (in_phase Up e)) 0 refl refl)

tick-waiting : (e : EndState) (h : SessionHistory) (t : Timed) → timed e ≡ t → Keeps (in_phase Waiting e) h Tick
tick-waiting e h Runs q k = rw q (unchanged (in_phase Waiting e) h k)
tick-waiting e h Over q k = rw q (unchanged (in_phase Waiting e) h k)
tick-waiting e h Spent q k =
    rw q
    (unchanged (given_up (in_phase Waiting e)) h ((grind arith)))

offer-up : (e : EndState) (h : SessionHistory) (info : Fragment) (b : Bool) → nat_lt (length e.session.out) (e.session.acked + 4) ≡ b →
    Keeps (in_phase Up e) h (Offer info)
offer-up e h info false q k = rw q (unchanged (in_phase Up e) h k)
offer-up e h info true q k =
    rw q
    (record {
      accepted = k.accepted ∙ sym (append-nil h.accepted);
      offered = ap (λ l. l ++ info ∷ []) k.offered;
      acked = k.acked ∙ omega arith;
      ordered = record {
        next = k.ordered.next;
        reached = k.ordered.reached;
        offered = let o = k.ordered.offered in omega (arith, length-append e.session.out (info ∷ []));
        window = k.ordered.window;
      };
      sent = λ p. rw (append-nil h.sent) (k.sent p);
      idle = tt;
    })

reset-asked : (e : EndState) (h : SessionHistory) (w : ℕ) (p : LinkState) → Keeps (in_phase p e) h (Reset w)
reset-asked e h w Waiting k = unchanged (in_phase Waiting e) h k
reset-asked e h w Up k = fresh (waiting_from (in_phase Up e)) 0 refl refl
reset-asked e h w Down k = fresh (waiting_from (in_phase Down e)) 0 refl refl

-- that RNR was answered is forgotten
forgotten : (p : LinkState) (s : Session) (h : SessionHistory) → HoldsFor p s h → HoldsFor p (record s { answered_rnr = false }) h
forgotten p s h k = grind arith

set_ready : (e : EndState) (h : SessionHistory) (p : LinkState) (r was answered : Bool) → e.ready ≡ was → e.session.answered_rnr ≡ answered →
    Keeps (in_phase p e) h (SetReady r)
set_ready e h p true true a q w k = rw q (unchanged (in_phase p e) h k)
set_ready e h p false false a q w k = rw q (unchanged (in_phase p e) h k)
set_ready e h p false true a q w k = rw q (subst (HoldsFor p _) (sym (same h)) (forgotten p e.session h k))
set_ready e h p true false true q w k = rw (q, w) (subst (HoldsFor p _) (sym (same h)) (forgotten p e.session h k))
set_ready e h p true false false q w k = rw (q, w) (subst (HoldsFor p _) (sym (same h)) (forgotten p e.session h k))

-- a fragment that is sent is one of those offered, and inside the window
pub fragment_due-within : (s : Session) (info : Fragment) → fragment_due s ≡ Some info →
    (s.next < s.acked + s.window) × (slice_get s.out s.next ≡ Some info)
fragment_due-within s info q = grind (arith, common_steps)

sent_place : (xs : List ℕ) (n m p : ℕ) → n ≤ m → ((p : ℕ) → Contains xs p ↔ (p < m)) → Contains (xs ++ n ∷ []) p ↔ (p < max m (n + 1))
sent_place xs n m p l k = (there, back) where
  there : Contains (xs ++ n ∷ []) p → p < max m (n + 1)
  there w = cases (Contains-append_cases xs (n ∷ []) p w) where
    cases : Contains xs p ⊎ Contains (n ∷ []) p → p < max m (n + 1)
    cases (inl a) = let b = (k p).0 a in omega arith
    cases (inr a) = let b : n ≡ p = grind (arith, common_steps) in omega arith

  back : p < max m (n + 1) → Contains (xs ++ n ∷ []) p
  back b = cases (cases_lt p m) where
    cases : (p < m) ⊎ (m ≤ p) → Contains (xs ++ n ∷ []) p
    cases (inl a) = Contains-append_left xs (n ∷ []) p ((k p).1 a)
    cases (inr a) = let c : n ≡ p = omega arith in Contains-append_right xs (n ∷ []) p (0, omega arith, c)

-- a fragment goes out of an end that is Up
sent_out : (p : LinkState) (s : Session) (h : SessionHistory) (info : Fragment) → fragment_due s ≡ Some info → HoldsFor p s h →
    HoldsFor p (sent_next s) (record h { sent = h.sent ++ s.next ∷ [] })
sent_out p s h info q k = record {
  accepted = k.accepted;
  offered = k.offered;
  acked = k.acked;
  ordered =
      let a = within.0 in let b = within.1 in
      record { next = omega arith; reached = omega arith; offered = omega arith; window = omega arith };
  sent = λ p. sent_place h.sent s.next s.reached p k.ordered.reached k.sent;
  idle = idle p k.idle;
} where
  within : (s.next < s.acked + s.window) × (s.next < length s.out)
  within = let w = fragment_due-within s info q in (w.0, slice_get_within s.out s.next info w.1)

  none : s ≡ no_session → ⊥
  none i = let w = subst (λ (s : Session). s.next < s.acked + s.window) i within.0 in omega arith

  idle : (p : LinkState) → IsIdle p s → IsIdle p (sent_next s)
  idle p i = grind arith

fragment_out : (e : EndState) (h : SessionHistory) (p : LinkState) (o : Option Fragment) → e.due ≡ [] → fragment_due e.session ≡ o →
    Keeps (in_phase p e) h NextOut
fragment_out e h p None d q k = rw (d, q) (unchanged (in_phase p e) h k)
fragment_out e h p (Some info) d q k =
    rw (d, q)
    (record {
      accepted = out.accepted ∙ sym (append-nil h.accepted);
      offered = out.offered ∙ sym (append-nil h.offered);
      acked = out.acked ∙ omega arith;
      ordered = out.ordered;
      sent = out.sent;
      idle = out.idle;
    }) where
      out : HoldsFor p (sent_next e.session) (record h { sent = h.sent ++ e.session.next ∷ [] })
      out = sent_out p e.session h info q k

next_out : (e : EndState) (h : SessionHistory) (p : LinkState) (ds : List Due) → e.due ≡ ds → Keeps (in_phase p e) h NextOut
next_out e h p [] d k = fragment_out e h p _ d refl k
next_out e h p (Due_rr ∷ ds) d k = rw d (unchanged (in_phase p e) h k)
next_out e h p (Due_rej ∷ ds) d k = rw d (unchanged (in_phase p e) h k)
next_out e h p (Due_rnr ∷ ds) d k = rw d (unchanged (in_phase p e) h k)
next_out e h p (Due_rset ∷ ds) d k = rw d (unchanged (in_phase p e) h k)
next_out e h p (Due_ua ∷ ds) d k = rw d (unchanged (in_phase p e) h k)

step-phase : (e : EndState) (h : SessionHistory) (i : EndInput) (p : LinkState) → Keeps (in_phase p e) h i
step-phase e h Begin p k = fresh (begun (in_phase p e)) e.own_window refl tt
step-phase e h Stop p k = fresh (stopped (in_phase p e)) 0 refl refl
step-phase e h (Reset w) p k = reset-asked e h w p k
step-phase e h (SetReady r) p k = set_ready e h p r _ _ refl refl k
step-phase e h NextOut p k = next_out e h p _ refl k
step-phase e h (Offer info) Up k = offer-up e h info _ refl k
step-phase e h (Offer info) Down k = unchanged (in_phase Down e) h k
step-phase e h (Offer info) Waiting k = unchanged (in_phase Waiting e) h k
step-phase e h (Take c) Up k = take-up e h c k
step-phase e h (Take c) Down k = take-down e h c k
step-phase e h (Take c) Waiting k = take-waiting e h c k
step-phase e h Tick Up k = tick-up e h _ _ refl refl k
step-phase e h Tick Down k = unchanged (in_phase Down e) h k
step-phase e h Tick Waiting k = tick-waiting e h _ refl k

-- a step keeps it
pub step-Holds : (e : EndState) (h : SessionHistory) (i : EndInput) → Holds e h → Along e h i (end_step e i)
step-Holds e h i k = step-phase e h i e.phase k

pub run-Holds : (e : EndState) (h : SessionHistory) (inputs : List EndInput) → Holds e h → Holds (shdlc_after_inputs e inputs) (history_after e h inputs)
run-Holds e h [] k = k
run-Holds e h (i ∷ inputs) k = run-Holds (end_step e i).0 (with_answer e.session h i (end_step e i).1) inputs (step-Holds e h i k)

-- from a new end on
pub new-Holds : (w : ℕ) (inputs : List EndInput) → Holds (shdlc_after_inputs (new_end w) inputs) (history_after (new_end w) no_history inputs)
new-Holds w inputs = run-Holds (new_end w) no_history inputs (fresh (new_end w) 0 refl refl)

-- ## What follows for each law

no_elements : (xs : List ℕ) → ((p : ℕ) → Contains xs p → ⊥) → xs ≡ []
no_elements [] h = refl
no_elements (x ∷ xs) h = absurd (h x (0, omega arith, refl))

-- an end that isn't Up has no session
idle-session : (p : LinkState) (s : Session) → p ≢ Up → IsIdle p s → s ≡ no_session
idle-session p s n i = grind arith

pub idle-history : (p : LinkState) (s : Session) (h : SessionHistory) → HoldsFor p s h → p ≢ Up →
    (h.accepted ≡ []) × (h.offered ≡ []) × (h.sent ≡ [])
idle-history p s h k n =
    let i = idle-session p s n k.idle in (
      sym k.accepted ∙ ap (λ (s : Session). s.acc) i,
      sym k.offered ∙ ap (λ (s : Session). s.out) i,
      no_elements h.sent (λ q w. let b = subst (λ (s : Session). q < s.reached) i ((k.sent q).0 w) in omega arith),
    )

pub idle-fragment : (p : LinkState) (s : Session) (h : SessionHistory) (info : Fragment) → HoldsFor p s h → p ≢ Up →
    fragment_due s ≡ Some info → ⊥
idle-fragment p s h info k n f = grind arith

-- the fragment that is sent next
pub next-fragment : (p : LinkState) (s : Session) (h : SessionHistory) (ns : ℕ) (info : Fragment) → HoldsFor p s h →
    fragment_due s ≡ Some info → ns ≡ s.next % 8 → IsNextFragment h s.window ns info
next-fragment p s h ns info k f n =
    let within = fragment_due-within s info f in
    record {
      place = s.next;
      number = n;
      fragment = ap (λ out. slice_get out s.next) (sym k.offered) ∙ within.1;
      unacknowledged = let o = k.ordered.next in omega arith;
      within = let w = within.0 in omega arith;
      no_hole = λ q l. let o = k.ordered.reached in (k.sent q).1 (omega arith);
    }

one_session-grows : (e : EndState) (h : SessionHistory) (inputs : List EndInput) → IsOneSession e inputs →
    Begins (history_after e h inputs).accepted h.accepted
one_session-grows e h [] one = ([], sym (append-nil h.accepted))
one_session-grows e h (i ∷ inputs) one =
    let later = one_session-grows (end_step e i).0 (with_answer e.session h i (end_step e i).1) inputs one.1 in
    let grown : (with_answer e.session h i (end_step e i).1).accepted ≡ h.accepted ++ accepted_at (end_step e i).1 = rw one.0 in (
      accepted_at (end_step e i).1 ++ later.0,
      later.1 ∙ ap (λ l. l ++ later.0) grown ∙ append_assoc h.accepted (accepted_at (end_step e i).1) later.0,
    )

pub accepted-grows : (e : EndState) (h : SessionHistory) (inputs : List EndInput) → Holds e h → IsOneSession e inputs →
    Begins (shdlc_after_inputs e inputs).session.acc e.session.acc
accepted-grows e h inputs k one =
    let grown = one_session-grows e h inputs one in
    (grown.0, (run-Holds e h inputs k).accepted ∙ grown.1 ∙ ap (λ l. l ++ grown.0) (sym k.accepted))
