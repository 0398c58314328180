-- What the machine does where it was offered only some of its fragments is what it does with all of them.
use Rattle.std.specs.Prelude.{is_some}
use Rattle.std.proofs.lemmas.Option.{slice_get-get_or}
use Rattle.std.proofs.lemmas.List.{get_or_append_left}
use Rattle.std.proofs.lemmas.Bool.{ltb-true, ltb-false, lt-ltb}
use Rattle.shdlc_core.proofs.Words.{Bool, Control, Down, EndState, Fragment, HasSession, IsNarrow, KeptEnd, LinkState, List, None, Option, Rset, Session}
use Rattle.shdlc_core.proofs.Words.{ShdlcStandsFor, Some, Taken, Up, Waiting, [], accepted, ap, append-nil, append_assoc, arith, false, fetched, fragment_due}
use Rattle.shdlc_core.proofs.Words.{frame_due, if◌then◌else◌, inl, inr, is_waiting, left_waiting, length, length-append, nat_lt, no_session, not}
use Rattle.shdlc_core.proofs.Words.{option_to_list, refl, reset_with, runs_timer, slice_get, stopped, subst, sym, take_answer, taken, tick_answer, ticked, true}
use Rattle.shdlc_core.proofs.Words.{with_out, ℕ, ◌&&◌, ◌++◌, ◌+◌, ◌<◌, ◌==◌, ◌||◌, ◌∙◌, ◌∷◌, ◌≡◌, ◌≤◌, ◌⊎◌}
use Rattle.shdlc_core.specs.Machine.{offered, put_out, with_ready}
use Rattle.shdlc_core.specs.Offering.{StandsBefore, StandsWith}
use Rattle.shdlc_core.proofs.Histories.{in_phase}
use Rattle.shdlc_core.proofs.OfferedFrames.{alike_in, taken_alike}

-- ## Time

-- where four are offered and not acknowledged, or all are, T2 runs as it does with all of them
runs_alike : (s : Session) (o waiting : List Fragment) → s.out ≡ o ++ waiting → (waiting ≡ []) ⊎ (length o ≡ s.acked + 4) → s.acked ≤ s.next
    → runs_timer (record s { out = o }) ≡ runs_timer s
runs_alike s o waiting out (inl none) l = ap (λ xs. runs_timer (record s { out = xs })) (sym (append-nil o) ∙ (ap (λ w. o ++ w) (sym none) ∙ sym out))
runs_alike s o waiting out (inr four) l = go (nat_lt s.acked s.next) (nat_lt s.next (length o)) (nat_lt s.next (length s.out)) refl refl refl
  where
    len : length s.out ≡ length o + length waiting
    len = ap length out ∙ length-append o waiting

    go : (a b c : Bool) → nat_lt s.acked s.next ≡ a → nat_lt s.next (length o) ≡ b → nat_lt s.next (length s.out) ≡ c
        → (nat_lt s.acked s.next || (s.peer_busy && nat_lt s.next (length o))) ≡ (nat_lt s.acked s.next || (s.peer_busy && nat_lt s.next (length s.out)))
    go true b c p q r = rw p
    go false true true p q r = rw (q, r)
    go false false c p q r = absurd (let n = ltb-false s.next (length o) q in let m = ltb-false s.acked s.next p in omega (arith, n, m, four))
    go false true false p q r = absurd (let n = ltb-true s.next (length o) q in let m = ltb-false s.next (length s.out) r in omega (arith, n, m, len))

-- what a tick does to a machine, and to one to which only these fragments were offered
pub record TicksAlike (e : EndState) (o : List Fragment) : Type 0 where
  pub same : ticked (with_out e o) ≡ with_out (ticked e) (left_waiting (is_some (tick_answer e).ended) o)
  pub answer : tick_answer (with_out e o) ≡ tick_answer e
  pub out : (ticked e).session.out ≡ left_waiting (is_some (tick_answer e).ended) e.session.out
  pub narrow : IsNarrow e → IsNarrow (ticked e)
  pub session : HasSession e.phase e.session → HasSession (ticked e).phase (ticked e).session
  pub acked : (ticked e).session.acked ≡ (if is_some (tick_answer e).ended then 0 else e.session.acked)
  pub acc : (ticked e).session.acc ≡ left_waiting (is_some (tick_answer e).ended) e.session.acc

ticks_in : (p : LinkState) (e : EndState) (o : List Fragment) → runs_timer (record e.session { out = o }) ≡ runs_timer e.session → TicksAlike (in_phase p e) o
ticks_in Down e o runs = record { same = refl; answer = refl; out = refl; narrow = λ h. h; session = λ h. h; acked = refl; acc = refl }
ticks_in Waiting e o runs = grind arith
ticks_in Up e o runs = grind arith

pub ticked_alike : (e : EndState) (o waiting : List Fragment) → e.session.out ≡ o ++ waiting → (waiting ≡ []) ⊎ (length o ≡ e.session.acked + 4)
    → e.session.acked ≤ e.session.next → TicksAlike e o
ticked_alike e o waiting out full l = ticks_in e.phase e o (runs_alike e.session o waiting out full l)

-- ## What the node asks for

-- a reset
pub record ResetsAlike (e : EndState) (o : List Fragment) (w : ℕ) : Type 0 where
  pub same : reset_with (with_out e o) w ≡ with_out (reset_with e w) (left_waiting (not (is_waiting e)) o)
  pub waits : is_waiting (with_out e o) ≡ is_waiting e
  pub out : (reset_with e w).session.out ≡ left_waiting (not (is_waiting e)) e.session.out
  pub narrow : IsNarrow e → w ≤ 4 → IsNarrow (reset_with e w)
  pub session : HasSession e.phase e.session → HasSession (reset_with e w).phase (reset_with e w).session

-- becoming ready, or not
pub record ReadiesAlike (e : EndState) (o : List Fragment) (r : Bool) : Type 0 where
  pub same : with_ready (with_out e o) r ≡ with_out (with_ready e r) o
  pub out : (with_ready e r).session.out ≡ e.session.out
  pub acked : (with_ready e r).session.acked ≡ e.session.acked
  pub narrow : IsNarrow e → IsNarrow (with_ready e r)
  pub session : HasSession e.phase e.session → HasSession (with_ready e r).phase (with_ready e r).session

idle_ready : (p : LinkState) (s : Session) → HasSession p s → HasSession p (record s { answered_rnr = false })
idle_ready p s h = grind arith

pub ready_alike : (e : EndState) (o : List Fragment) (r : Bool) → ReadiesAlike e o r
ready_alike e o r = grind arith

-- ## The frame that is sent now

slice_get_front : (front back : List Fragment) (i : ℕ) → i < length front → slice_get (front ++ back) i ≡ slice_get front i
slice_get_front front back i within =
    slice_get-get_or (front ++ back) i [] (omega (arith, length-append front back))
    ∙ (ap Some (get_or_append_left front back [] i within) ∙ sym (slice_get-get_or front i [] within))

-- where four are offered and not acknowledged, no other one is inside the window
due_alike : (s : Session) (o waiting : List Fragment) → s.out ≡ o ++ waiting → s.window ≤ 4 → (waiting ≡ []) ⊎ (length o ≡ s.acked + 4)
    → fragment_due (record s { out = o }) ≡ fragment_due s
due_alike s o waiting out window full = go (not s.peer_busy || s.probe) (nat_lt s.next (s.acked + s.window)) refl full
  where
    same : s.next < s.acked + s.window → (waiting ≡ []) ⊎ (length o ≡ s.acked + 4) → slice_get o s.next ≡ slice_get s.out s.next
    same within (inl none) = ap (λ l. slice_get l s.next) (sym (append-nil o) ∙ (ap (λ w. o ++ w) (sym none) ∙ sym out))
    same within (inr four) = sym (slice_get_front o waiting s.next (omega arith)) ∙ ap (λ l. slice_get l s.next) (sym out)

    go : (a b : Bool) → nat_lt s.next (s.acked + s.window) ≡ b → (waiting ≡ []) ⊎ (length o ≡ s.acked + 4)
        → (if a && b then slice_get o s.next else None) ≡ (if a && b then slice_get s.out s.next else None)
    go false b is full = refl
    go true false is full = refl
    go true true is full = same (ltb-true s.next (s.acked + s.window) is) full

-- what a fetch does
pub record FetchesAlike (e : EndState) (o : List Fragment) : Type 0 where
  pub frame : frame_due (with_out e o) ≡ frame_due e
  pub same : fetched (with_out e o) ≡ with_out (fetched e) o
  pub out : (fetched e).session.out ≡ e.session.out
  pub acked : (fetched e).session.acked ≡ e.session.acked
  pub narrow : IsNarrow e → IsNarrow (fetched e)
  pub session : HasSession e.phase e.session → HasSession (fetched e).phase (fetched e).session

fetches_none : (e : EndState) (o : List Fragment) (q : Option Fragment) → fragment_due (record e.session { out = o }) ≡ q → fragment_due e.session ≡ q
    → FetchesAlike (record e { due = [] }) o
fetches_none e o q r s = grind arith

pub fetched_alike : (e : EndState) (o waiting : List Fragment) → e.session.out ≡ o ++ waiting → e.session.window ≤ 4
    → (waiting ≡ []) ⊎ (length o ≡ e.session.acked + 4)
    → FetchesAlike e o
fetched_alike e o waiting out window full = let h0 = due_alike e.session o waiting out window full in grind arith

-- ## What is kept after a step

pub stands_taken : (k new : KeptEnd) (waiting : List Fragment) (e : EndState) (c : Control) (h : StandsBefore k waiting e)
    → ShdlcStandsFor new (taken (with_out e h.offered) c) → StandsBefore new (left_waiting (take_answer e c).began waiting) (taken e c)
stands_taken k new waiting e c h kept =
    let a = taken_alike e h.offered c in
    grind arith

pub stands_ticked : (k new : KeptEnd) (waiting : List Fragment) (e : EndState) (h : StandsWith k waiting e)
    → ShdlcStandsFor new (ticked (with_out e h.stands.offered)) → StandsBefore new (left_waiting (is_some (tick_answer e).ended) waiting) (ticked e)
stands_ticked k new waiting e h kept =
    let s = h.stands in
    let a = ticked_alike e s.offered waiting s.out h.full (omega arith) in
    grind arith

pub stands_reset : (k new : KeptEnd) (waiting : List Fragment) (e : EndState) (w : ℕ) (h : StandsBefore k waiting e) → w ≤ 4
    → ShdlcStandsFor new (reset_with (with_out e h.offered) w) → StandsBefore new (left_waiting (not (is_waiting e)) waiting) (reset_with e w)
stands_reset k new waiting e w h l kept = grind arith

pub stands_ready : (k new : KeptEnd) (waiting : List Fragment) (e : EndState) (r : Bool) (h : StandsWith k waiting e)
    → ShdlcStandsFor new (with_ready (with_out e h.stands.offered) r) → StandsWith new waiting (with_ready e r)
stands_ready k new waiting e r h kept =
    record {
      stands = grind arith;
      full = elim h.full [ inl none ↦ inl none | inr four ↦ inr (four ∙ ap (λ n. n + 4) (sym (ready_alike e h.stands.offered r).acked)) ];
    }

pub stands_fetched : (k new : KeptEnd) (waiting : List Fragment) (e : EndState) (h : StandsWith k waiting e)
    → ShdlcStandsFor new (fetched (with_out e h.stands.offered)) → StandsWith new waiting (fetched e)
stands_fetched k new waiting e h kept =
    let s = h.stands in
    let a = fetched_alike e s.offered waiting s.out s.narrow.session h.full in
    record {
      stands = grind arith;
      full = elim h.full [ inl none ↦ inl none | inr four ↦ inr (four ∙ ap (λ n. n + 4) (sym a.acked)) ];
    }

pub frame_with : (k : KeptEnd) (waiting : List Fragment) (e : EndState) (h : StandsWith k waiting e) → frame_due (with_out e h.stands.offered) ≡ frame_due e
frame_with k waiting e h = let s = h.stands in (fetched_alike e s.offered waiting s.out s.narrow.session h.full).frame

pub stands_stopped : (k new : KeptEnd) (waiting : List Fragment) (e : EndState) (h : StandsBefore k waiting e)
    → ShdlcStandsFor new (stopped (with_out e h.offered)) → StandsWith new [] (stopped e)
stands_stopped k new waiting e h kept = grind arith

-- ## Offering what waits

-- more fragments wait behind the others
pub stands_put : (k : KeptEnd) (waiting more : List Fragment) (e : EndState) → e.phase ≡ Up → StandsBefore k waiting e
    → StandsBefore k (waiting ++ more) (put_out e more)
stands_put k waiting more e up h =
    let n = h.narrow in
    record {
      offered = h.offered;
      out = ap (λ l. l ++ more) h.out ∙ append_assoc h.offered waiting more;
      kept = h.kept;
      narrow = record { own = n.own; peer = n.peer; session = n.session };
      session = subst (λ p. HasSession p (put_out e more).session) (sym up) tt;
    }

-- the first that waits is offered where there is room
pub stands_offered : (k new : KeptEnd) (info : Fragment) (waiting : List Fragment) (e : EndState) (h : StandsBefore k (info ∷ waiting) e)
    → k.phase ≡ Up → length k.sender.queue < 4 → ShdlcStandsFor new (offered (with_out e h.offered) info) → StandsBefore new waiting e
stands_offered k new info waiting e h up room kept =
    record {
      offered = h.offered ++ info ∷ [];
      out = h.out ∙ sym (append_assoc h.offered (info ∷ []) waiting);
      kept = subst (ShdlcStandsFor new) (rw ((sym h.kept.phase ∙ up), (lt-ltb (length h.offered) (e.session.acked + 4) (omega arith)))) kept;
      narrow = h.narrow;
      session = h.session;
    }

no_more : (o waiting : List Fragment) → [] ≡ o ++ waiting → waiting ≡ []
no_more [] waiting e = sym e
no_more (x ∷ o) waiting e = cc

idle_waiting : (p : LinkState) (s : Session) (o waiting : List Fragment) → (p ≡ Up → ⊥) → HasSession p s → s.out ≡ o ++ waiting → waiting ≡ []
idle_waiting Up s o waiting other h out = absurd (other refl)
idle_waiting Down s o waiting other h out = no_more o waiting (sym (ap (λ (x : Session). x.out) h) ∙ out)
idle_waiting Waiting s o waiting other h out = no_more o waiting (sym (ap (λ (x : Session). x.out) h) ∙ out)

-- nothing waits at an end that isn't Up
pub stands_idle : (k : KeptEnd) (waiting : List Fragment) (e : EndState) (h : StandsBefore k waiting e) → (k.phase ≡ Up → ⊥) → waiting ≡ []
stands_idle k waiting e h other = idle_waiting e.phase e.session h.offered waiting (λ up. other (h.kept.phase ∙ up)) h.session h.out

pub stands_full : (k : KeptEnd) (waiting : List Fragment) (e : EndState) → StandsBefore k waiting e → length k.sender.queue ≡ 4 → StandsWith k waiting e
stands_full k waiting e h four = record { stands = h; full = inr (h.kept.sender.offered ∙ ap (λ n. e.session.acked + n) four) }

pub stands_empty : (k : KeptEnd) (waiting : List Fragment) (e : EndState) → StandsBefore k waiting e → waiting ≡ [] → StandsWith k waiting e
stands_empty k waiting e h none = record { stands = h; full = inl none }

-- control frames that are dropped
pub stands_dropped : (k new : KeptEnd) (waiting : List Fragment) (e : EndState) (h : StandsBefore k waiting e)
    → ShdlcStandsFor new (record (with_out e h.offered) { due = [] }) → StandsBefore new waiting (record e { due = [] })
stands_dropped k new waiting e h kept = grind arith

-- ## Frames and the session

-- a frame that brings a fragment ends no session, and leaves what an end that is stopped has
pub record Brings (e : EndState) (c : Control) : Type 0 where
  pub up : e.phase ≡ Up
  pub stays : (take_answer e c).ended ≡ None
  pub goes_on : (take_answer e c).began ≡ false
  pub stopped_is : stopped (taken e c) ≡ stopped e

pub no_fragment : (f : Fragment) → None ≡ Some f → ⊥
no_fragment f e = cc

pub brings_fragment : (e : EndState) (c : Control) (f : Fragment) → (take_answer e c).accepted ≡ Some f → Brings e c
brings_fragment e c f is = grind arith

-- the lists and places of a session after a frame, by whether it ended one
pub record TakesOn (e : EndState) (c : Control) : Type 0 where
  pub out : (taken e c).session.out ≡ left_waiting (is_some (take_answer e c).ended) e.session.out
  pub acked : (taken e c).session.acked ≡ (if is_some (take_answer e c).ended then 0 else e.session.acked + (take_answer e c).acked)
  pub acc : (taken e c).session.acc ≡ left_waiting (is_some (take_answer e c).ended) (e.session.acc ++ option_to_list (take_answer e c).accepted)
  pub waiting : (waiting : List Fragment) → ((e.phase ≡ Up → ⊥) → waiting ≡ [])
      → left_waiting (take_answer e c).began waiting ≡ left_waiting (is_some (take_answer e c).ended) waiting

reset_ends : (e : EndState) (w caps : ℕ) (b : Bool) → (w == 0) ≡ b
    → (take_answer (in_phase Up e) (Rset w caps)).began ≡ is_some (take_answer (in_phase Up e) (Rset w caps)).ended
reset_ends e w caps b at = grind arith

up_ends : (e : EndState) (c : Control) → (take_answer (in_phase Up e) c).began ≡ is_some (take_answer (in_phase Up e) c).ended
up_ends e c = grind arith

up_takes : (e : EndState) (c : Control) → TakesOn (in_phase Up e) c
up_takes e c =
    let a = alike_in Up e [] c in
    grind arith

-- an end without a session acknowledges and accepts nothing, and ends none
record TakesIdle (a : Taken) : Type 0 where
  none_acked : a.acked ≡ 0
  none_accepted : a.accepted ≡ None
  none_ended : a.ended ≡ None

idle_takes : (e : EndState) (c : Control) → (e.phase ≡ Up → ⊥) → e.session ≡ no_session → TakesIdle (take_answer e c) → TakesOn e c
idle_takes e c other none idle = grind arith

takes_in : (p : LinkState) (e : EndState) (c : Control) → HasSession p e.session → TakesOn (in_phase p e) c
takes_in Up e c h = up_takes e c
takes_in Down e c h = idle_takes (in_phase Down e) c (λ e. cc) h (grind arith)
takes_in Waiting e c h = idle_takes (in_phase Waiting e) c (λ e. cc) h (grind arith)

pub takes_on : (e : EndState) (c : Control) → HasSession e.phase e.session → TakesOn e c
takes_on e c h = takes_in e.phase e c h
