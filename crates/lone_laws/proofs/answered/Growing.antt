-- Each session of a node alone has a greater number than those before it: behind each one that waits an RSET went out.
use Rattle.lone_laws.proofs.Words.{About, ActDue, ActFrame, AllByRecursion, Asked, AsksFor, Bool, Clt, Commits, Control, Deed, Desk, EndState, FetchMessage}
use Rattle.lone_laws.proofs.Words.{Fragment, Give, Hold, I, IsAnswered, Lasts, LinkEnd, LinkInput, LinkState, List, Message, NodeInput, None, Orders, Port}
use Rattle.lone_laws.proofs.Words.{Rej_due, Release, Releases, Reset, Rnr_due, Rr_due, Rset, Rset_due, S, Sends, SetAside, SetsErrors, Some, Sound, Start, Stop}
use Rattle.lone_laws.proofs.Words.{Take, TakeUnknown, Tells, Tick, Turn, Ua, Ua_due, Waiting, Work, [], acknowledged, after_frames, after_input, after_sessions}
use Rattle.lone_laws.proofs.Words.{after_turn, all_changed, all_come, all_map, all_owed, among, anyone, ap, arith, aside_refusal, asked_at, began_by, by_list}
use Rattle.lone_laws.proofs.Words.{by_option, by_test, cond, done, drop, due_left, eqb, false, fetched, filter, flat_map, forgets, forgotten, frames_of}
use Rattle.lone_laws.proofs.Words.{frames_out, give_refusal, got_at, heard, if_up, inl, inr, is_faulty, is_forgotten, is_open, is_over, is_rset, is_some}
use Rattle.lone_laws.proofs.Words.{is_waiting, length, length-append, map, most_frames, moved, nat_lt, not, notified, noting, place_of, received}
use Rattle.lone_laws.proofs.Words.{received_cases, refl, reset_refusal, reset_with, rest_lasts, rsets_among, rsets_due, rsets_since, runs_timer, sent_all}
use Rattle.lone_laws.proofs.Words.{steps, suc, sym, synced, take, take_answer, taken, tick_answer, ticked, times_out, true, true≢false, turn, turn_at}
use Rattle.lone_laws.proofs.Words.{waiting_from, window_of, with_desk, with_port, with_ready, without_notice, zero, ℕ, ◌++◌, ◌+◌, ◌-◌, ◌<◌, ◌==◌, ◌∙◌, ◌∷◌, ◌≡◌}
use Rattle.lone_laws.proofs.Words.{◌≤◌, ◌⊎◌}
use Rattle.link_laws.proofs.sessions.Sending.{at_most_one}
use Rattle.node_machine.specs.Parts.About.{Removed, Waits}
use Rattle.shdlc_core.specs.declared.answers.Due.{Due}
use Rattle.shdlc_core.specs.declared.answers.LinkState.TheVariants.{Down, Up}
use Rattle.swp_base.specs.declared.control_frames.Kind.{Kind}
use Rattle.lone_laws.proofs.answered.Coming.{IsLoneInput}
use Rattle.trace_model.specs.declared.entry.Entry.TheVariants as entry

-- ## The sessions of a node alone have growing numbers: behind each one that waits an RSET went out, or is about to

-- ### Control frames that are due

rset_last : (ds : List Due) → 1 ≤ rsets_among (ds ++ Rset_due ∷ [])
rset_last [] = omega arith
rset_last (Rset_due ∷ ds) = omega arith
rset_last (_ ∷ ds) = rset_last ds

no_fewer : (ds : List Due) (d : Due) → rsets_among ds ≤ rsets_among (ds ++ d ∷ [])
no_fewer [] d = omega arith
no_fewer (Rset_due ∷ ds) d = let z = no_fewer ds d in omega (arith, z)
no_fewer (_ ∷ ds) d = no_fewer ds d

one_more : (ds : List Due) (d : Due) → length (ds ++ d ∷ []) ≤ length ds + 1
one_more ds d = let z = length-append ds (d ∷ []) in omega (arith, z)

-- no more than one frame more is due than there were
abbrev IsOneMore : EndState → EndState → Type 0
IsOneMore e f = length f.due ≤ length e.due + 1

same_more : (e f : EndState) → f ≡ e → IsOneMore e f
same_more e f q = let z = ap (λ (s : EndState). length s.due) q in omega (arith, z)

-- it doesn't wait, or an RSET is due
abbrev Asks : EndState → Type 0
Asks f = (is_waiting f ≡ false) ⊎ (1 ≤ rsets_among f.due)

-- ### A frame

up_I : (e : EndState) (ns nr : ℕ) (info : Fragment) → e.phase ≡ Up → is_waiting e ≡ false
    → IsOneMore e (taken e (I ns nr info)) × (is_waiting (taken e (I ns nr info)) ≡ false)
up_I e ns nr info up still = by_option (place_of e.session nr)
    (λ q. let is : taken e (I ns nr info) ≡ e = rw (up, q) refl in (same_more e (taken e (I ns nr info)) is, ap is_waiting is ∙ still))
    (λ x q. let is : taken e (I ns nr info) ≡ received (acknowledged e x) ns info = rw (up, q) refl in
    let z = by x in ((let l = ap (λ (s : EndState). length s.due) is in let few = z.0 in omega (arith, l, few)), ap is_waiting is ∙ z.1)) where
      Fine : EndState → Type 0
      Fine f = IsOneMore e f × (is_waiting f ≡ false)

      by : (x : ℕ) → Fine (received (acknowledged e x) ns info)
      by x =
          received_cases Fine (acknowledged e x) ns info (λ _. (one_more e.due Rr_due, still)) (λ _ _. (omega arith, still))
          (λ _ _. (one_more e.due Rej_due, still)) (λ _ _. (one_more e.due Rr_due, still)) (one_more e.due Rnr_due, still)

up_S : (e : EndState) (kind : Kind) (nr : ℕ) → e.phase ≡ Up → is_waiting e ≡ false
    → IsOneMore e (taken e (S kind nr)) × (is_waiting (taken e (S kind nr)) ≡ false)
up_S e kind nr up still = grind arith

taken_more : (e : EndState) (c : Control) → IsOneMore e (taken e c)
taken_more e c = go e.phase refl c where
  same : (c : Control) → taken e c ≡ e → IsOneMore e (taken e c)
  same c q = same_more e (taken e c) q

  reset : (w caps : ℕ) (p : LinkState) → e.phase ≡ p → (b : Bool) → (w == 0) ≡ b → IsOneMore e (taken e (Rset w caps))
  reset w caps Up p true q = same (Rset w caps) (rw (p, q) refl)
  reset w caps Up p false q = rw (p, q) (omega arith)
  reset w caps Waiting p false q = rw (p, q) (one_more e.due Ua_due)
  reset w caps _ p true q = same (Rset w caps) (rw (p, q) refl)
  reset w caps Down p false q = rw (p, q) (one_more e.due Ua_due)

  go : (p : LinkState) → e.phase ≡ p → (c : Control) → IsOneMore e (taken e c)
  go Up p (I ns nr info) = (up_I e ns nr info p (rw p refl)).0
  go Up p (S kind nr) = (up_S e kind nr p (rw p refl)).0
  go p q (Rset w caps) = reset w caps p q (w == 0) refl
  go Waiting p Ua = rw p (omega arith)
  go _ p c = same c (rw p refl)

-- ### A tick and a reset

left_few : (p : LinkState) (ds : List Due) → length (due_left p ds) ≤ length ds
left_few p ds = grind arith

waiting_more : (e : EndState) → IsOneMore e (waiting_from e)
waiting_more e = let z = one_more (due_left e.phase e.due) Rset_due in let w = left_few e.phase e.due in omega (arith, z, w)

ticked_so : (e : EndState) → IsOneMore e (ticked e) × (is_waiting e ≡ false → Asks (ticked e))
ticked_so e = go e.phase (runs_timer e.session) (nat_lt (e.timer + 1) 10) (nat_lt e.tries 5) refl refl refl refl where
  waits : e.phase ≡ Waiting → is_waiting e ≡ false → Asks (ticked e)
  waits p still = absurd (true≢false (sym (rw p refl) ∙ still))

  go : (p : LinkState) (r a b : Bool) → e.phase ≡ p → runs_timer e.session ≡ r → nat_lt (e.timer + 1) 10 ≡ a → nat_lt e.tries 5 ≡ b
      → IsOneMore e (ticked e) × (is_waiting e ≡ false → Asks (ticked e))
  go Down r a b p t u v = let is : ticked e ≡ e = rw p refl in (same_more e (ticked e) is, λ still. inl (ap is_waiting is ∙ still))
  go Waiting r true b p t u v = ((rw (p, u) (omega arith)), waits p)
  go Waiting r false true p t u v = ((rw (p, u, v) (one_more e.due Rset_due)), waits p)
  go Waiting r false false p t u v = ((rw (p, u, v) (omega arith)), waits p)
  go Up false a b p t u v = let is : ticked e ≡ e = rw (p, t) refl in (same_more e (ticked e) is, λ still. inl (ap is_waiting is ∙ still))
  go Up true true b p t u v = grind arith
  go Up true false true p t u v = grind arith
  go Up true false false p t u v = grind arith

reset_so : (s : EndState) (w : ℕ) → IsOneMore s (reset_with s w) × (is_waiting s ≡ false → Asks (reset_with s w))
reset_so s w = go (is_waiting s) refl where
  begun : EndState
  begun = waiting_from (record s { own_window = w })

  go : (b : Bool) → is_waiting s ≡ b → IsOneMore s (cond b s begun) × (is_waiting s ≡ false → Asks (cond b s begun))
  go true q = (omega arith, λ still. absurd (true≢false (sym q ∙ still)))
  go false q = (waiting_more (record s { own_window = w }), λ still. inr (rset_last (due_left s.phase s.due)))

-- ### An end

-- what an input makes of an end: no more than one frame more is due, and an end that begins to wait has an RSET to send
abbrev IsAsked : EndState → LinkEnd → Type 0
IsAsked e f = IsOneMore e f.shdlc × (is_waiting e ≡ false → Asks f.shdlc)

moved_asked : (e : LinkEnd) (b : Bool) (s : EndState) → IsOneMore e.shdlc s × (is_waiting e.shdlc ≡ false → Asks s) → IsAsked e.shdlc (moved e b s)
moved_asked e b s a = grind arith

still_asked : (s : EndState) (e : LinkEnd) → e.shdlc ≡ s → IsAsked s e
still_asked s e q = (same_more s e.shdlc q, λ still. inl (ap is_waiting q ∙ still))

heard_asked : (e : LinkEnd) (c : Control) → IsAsked e.shdlc (heard e c)
heard_asked e c = by_test (is_faulty (taken e.shdlc c).session)
    (λ q. rw q (grind arith))
    (λ q. rw q (moved_asked e (is_some (take_answer e.shdlc c).ended) (taken e.shdlc c)
    (taken_more e.shdlc c, λ still. inl (grind arith))))

open_asked : (e : LinkEnd) (c : Control) → IsAsked e.shdlc (cond (is_open e.role) (heard e c) e)
open_asked e c = by_test (is_open e.role) (λ q. rw q (heard_asked e c)) (λ q. rw q (still_asked e.shdlc e refl))

input_asked : (e : LinkEnd) (i : LinkInput) → IsLoneInput i → IsAsked e.shdlc (after_input e i)
input_asked e (Take (ActFrame act again)) a = grind arith
input_asked e (Take Clt) a = still_asked e.shdlc (after_input e (Take Clt)) refl
input_asked e (Take c) a = open_asked e c
input_asked e TakeUnknown a = still_asked e.shdlc (after_input e TakeUnknown) refl
input_asked e Tick a = by_test (is_open e.role)
    (λ q. rw q (moved_asked e (is_some (tick_answer e.shdlc).ended) (ticked e.shdlc) (ticked_so e.shdlc)))
    (λ q. rw q (grind arith))
input_asked e (Reset window) a = by_option (reset_refusal e)
    (λ q. rw q (moved_asked e (is_some (if_up e.shdlc Asked)) (reset_with e.shdlc (window_of e window)) (reset_so e.shdlc (window_of e window))))
    (λ why q. rw q (still_asked e.shdlc e refl))
input_asked e (Start value) a = grind arith
input_asked e Stop a = grind arith
input_asked e _ a = absurd a

-- ## Each session of a node alone has a greater number than those before it

-- ### What a node does to its end

-- the frames that are due, and one more where RNR was answered
abbrev pub most_due : EndState → ℕ
most_due e = length e.due + cond e.session.answered_rnr 1 0

-- what turns make of an end: it waits or not as before, it has no fewer RSETs to send, and no more frames are due in all
pub record IsTurned (s f : LinkEnd) : Type 0 where
  pub waits : is_waiting f.shdlc ≡ is_waiting s.shdlc
  pub asks : rsets_due s ≤ rsets_due f
  pub few : most_due f.shdlc ≤ most_due s.shdlc

held_turned : (e : EndState) (r : Bool)
    → (is_waiting (with_ready e r) ≡ is_waiting e) × (rsets_among e.due ≤ rsets_among (with_ready e r).due) × (most_due (with_ready e r) ≤ most_due e)
held_turned e r = go e.ready r e.session.answered_rnr refl refl where
  fewer : (b : Bool) → length e.due + 0 ≤ length e.due + cond b 1 0
  fewer b = grind arith

  go : (was now noted : Bool) → e.ready ≡ was → e.session.answered_rnr ≡ noted
      → (let f : EndState = with_ready e now in
      (is_waiting f ≡ is_waiting e) × (rsets_among e.due ≤ rsets_among f.due) × (most_due f ≤ most_due e))
  go true true noted p q = grind arith
  go false false noted p q = grind arith
  go true false noted p q = grind arith
  go false true true p q =
      let is : with_ready e true ≡ record e { ready = true; due = e.due ++ Rr_due ∷ []; session = record e.session { answered_rnr = false } } =
      rw (p, q) refl in (
        ap is_waiting is,
        (let z = ap (λ (x : EndState). rsets_among x.due) is in let w = no_fewer e.due Rr_due in omega (arith, z, w)),
        (let z = ap most_due is in let w = one_more e.due Rr_due in let o = ap (λ b. length e.due + cond b 1 0) q in omega (arith, z, w, o)),
      )
  go false true false p q = grind arith

turn_turned : (s f : LinkEnd) (x : Turn) → IsTurned s f → IsTurned s (turn f x)
turn_turned s f (Give m) a = by_option (give_refusal f m) (λ q. rw q (record { waits = a.waits; asks = a.asks; few = a.few })) (λ why q. rw q a)
turn_turned s f (Hold held) a =
    let z = held_turned f.shdlc (not held) in
    grind arith
turn_turned s f SetAside a = by_option (aside_refusal f) (λ q. rw q (record { waits = a.waits; asks = a.asks; few = a.few })) (λ why q. rw q a)
turn_turned s f x a = grind arith

-- ### A node in a step

module _ (s : LinkEnd) where
  abbrev Turned : Port → Type 0
  Turned p = IsTurned s p.side

  abbrev pub AreTurned : List Port → Type 0
  AreTurned ports = AllByRecursion Turned ports

  abbrev pub IsTurnedWork : Work → Type 0
  IsTurnedWork w = AreTurned w.ports

  port_turned : (h : ℕ) (f : Port → Port) → ((p : Port) → IsTurned s p.side → IsTurned s (f p).side) → (ports : List Port) → AreTurned ports
      → AreTurned (with_port h f ports)
  port_turned h f one ports a = all_changed Turned (λ (p : Port). eqb p.desk.host h) f one ports a

  at_turned : (h : ℕ) (x : Turn) (w : Work) → IsTurnedWork w → IsTurnedWork (turn_at h x w)
  at_turned h x w a = port_turned h (after_turn x) (λ p b. turn_turned s p.side x b) w.ports a

  desk_turned : (h : ℕ) (f : Desk → Desk) (w : Work) → IsTurnedWork w → IsTurnedWork (with_desk h f w)
  desk_turned h f w a = port_turned h (λ p. record p { desk = f p.desk }) (λ p b. b) w.ports a

  notified_turned : (h : ℕ) (about : About) (message : List ℕ) (w : Work) → IsTurnedWork w → IsTurnedWork (notified h about message w)
  notified_turned h about message w a =
      desk_turned h (λ d. record d { notice = Some (record { about = about; age = 0 }) }) (turn_at h (Give (1, message)) w)
      (at_turned h (Give (1, message)) w a)

  done_turned : (h : ℕ) (d : Deed) (w : Work) → Unit {0} → IsTurnedWork w → IsTurnedWork (done h d w)
  done_turned h (Commits c) w may a = grind arith
  done_turned h (Sends to m) w may a = at_turned to (Give m) w a
  done_turned h (AsksFor to message c) w may a =
      notified_turned to (Waits c) message
      (noting (entry.Ask to message ∷ []) (turn_at c.asker SetAside w)) (at_turned c.asker SetAside w a)
  done_turned h (Releases asker) w may a = at_turned asker Release w a
  done_turned h (Tells to message) w may a = notified_turned to Removed message w a
  done_turned h IsAnswered w may a = desk_turned h (λ d. record d { notice = None }) w a
  done_turned h (SetsErrors errors) w may a = desk_turned h (λ d. record d { errors = errors }) w a
  done_turned h (Orders message) w may a = at_turned h (Give (1, message)) (record w { core = record w.core { command = Some message } }) a
  done_turned h _ w may a = a

  abbrev AnyDeed : Deed → Type 0
  AnyDeed d = Unit {0}

  abbrev AnyMessage : ℕ → Message → Type 0
  AnyMessage h m = Unit {0}

  turned_lasts : Lasts IsTurnedWork AnyDeed AnyMessage
  turned_lasts = record {
    does = done_turned;
    turn_told = λ h m w may a. a;
    held_told = λ h need spare w a. a;
    fetched = λ h w a. at_turned h FetchMessage w a;
    held = λ h flag w a. at_turned h (Hold flag) w a;
    marked = λ h flag w a. desk_turned h (λ d. record d { holds = flag }) w a;
    come = λ h w a. anyone (AnyMessage h) (λ m. tt) (got_at h w);
    causes = λ h m w may a. anyone AnyDeed (λ d. tt) _;
  }

  without_turned : (p : Port) → IsTurned s p.side → IsTurned s (without_notice p).side
  without_turned p a = by_test (is_over p) (λ q. rw q a) (λ q. rw q a)

  forgets_turned : (ports : List Port) (p : Port) → IsTurned s p.side → IsTurned s (forgets ports p).side
  forgets_turned ports p a = by_test (is_forgotten ports (asked_at p)) (λ q. rw q a) (λ q. rw q a)

  -- what it does to its ends in a step, once something has come
  pub steps_turned : (input : NodeInput) (w : Work) → IsTurnedWork (times_out input (all_come input w)) → IsTurnedWork (steps input w)
  steps_turned input w a =
      let came : Work = times_out input (all_come input w) in
      let left : List Port = map (forgets came.ports) came.ports in
      rest_lasts IsTurnedWork AnyDeed AnyMessage turned_lasts (forgotten came.ports) (flat_map (synced w.core input) w.ports) (all_owed left)
      (record came { core = after_sessions came.core came.ports; ports = map without_notice left }) (anyone AnyDeed (λ d. tt) (forgotten came.ports))
      (anyone AnyDeed (λ d. tt) (flat_map (synced w.core input) w.ports)) (anyone AnyDeed (λ d. tt) (all_owed left))
      (all_map Turned Turned without_notice without_turned left (all_map Turned Turned (forgets came.ports) (forgets_turned came.ports) came.ports a))

-- ### Frames that go out

abbrev pub rsets_of : List Control → ℕ
rsets_of frames = length (filter is_rset frames)

rsets-cons : (c : Control) (cs : List Control) → rsets_of (c ∷ cs) ≡ cond (is_rset c) 1 0 + rsets_of cs
rsets-cons c cs = by_test (is_rset c) (λ q. rw q (omega arith)) (λ q. rw q (omega arith))

rsets-append : (xs ys : List Control) → rsets_of (xs ++ ys) ≡ rsets_of xs + rsets_of ys
rsets-append [] ys = omega arith
rsets-append (x ∷ xs) ys =
    let z = rsets-append xs ys in let a = rsets-cons x (xs ++ ys) in let b = rsets-cons x xs in omega (arith, z, a, b)

take_and_drop : (k : ℕ) (fs : List Control) → rsets_of (take k fs) + rsets_of (drop k fs) ≡ rsets_of fs
take_and_drop zero fs = omega arith
take_and_drop (suc k) [] = omega arith
take_and_drop (suc k) (f ∷ fs) =
    let z = take_and_drop k fs in let a = rsets-cons f fs in let b = rsets-cons f (take k fs) in omega (arith, z, a, b)

among_rsets : (n : ℕ) (acts : List ActDue) (fs : List Control) → rsets_of (among n acts fs) ≡ rsets_of fs
among_rsets n [] fs = refl
among_rsets n (a ∷ acts) fs =
    let k : ℕ = a.behind - n in
    let back = among_rsets a.behind acts (drop k fs) in
    omega (arith, rsets-append (take k fs) (ActFrame a.frame false ∷ (among a.behind acts (drop k fs))), back, take_and_drop k fs)

frames_rsets : (n : ℕ) (e : EndState) → length e.due ≤ n → rsets_among e.due ≤ rsets_of (frames_of n e)
frames_rsets zero e few = by_list e.due (λ q. rw q (omega arith)) (λ d ds q. absurd (let z = ap (λ (l : List Due). length l) q in omega (arith, few, z)))
frames_rsets (suc n) e few = go e.due refl (λ ds more. frames_rsets n (record e { due = ds }) more) where
  go : (ds : List Due) → e.due ≡ ds
      → ((ds : List Due) → length ds ≤ n → rsets_among ds ≤ rsets_of (frames_of n (record e { due = ds }))) → rsets_among e.due ≤ rsets_of (frames_of (suc n) e)
  go ds q later = grind arith

-- all RSETs that are due go out
out_rsets : (f : LinkEnd) → length f.shdlc.due ≤ most_frames → rsets_due f ≤ rsets_of (frames_out f)
out_rsets f few =
    let a = among_rsets 0 f.acts (frames_of most_frames f.shdlc) in let b = frames_rsets most_frames f.shdlc few in omega (arith, a, b)

-- and nothing is due behind them
none_left : (n : ℕ) (e : EndState) → length e.due ≤ n → (after_frames n e).due ≡ []
none_left zero e few = by_list e.due (λ q. q) (λ d ds q. absurd (let z = ap (λ (l : List Due). length l) q in omega (arith, few, z)))
none_left (suc n) e few = let h0 = none_left n (fetched e) (grind arith) in grind arith

after_waits : (n : ℕ) (e : EndState) → is_waiting (after_frames n e) ≡ is_waiting e
after_waits zero e = refl
after_waits (suc n) e = let h0 = after_waits n (fetched e) in grind arith

-- ### Between events

-- All that was due went out; the last session has no greater number than RSETs were put and taken, and a smaller one where the end waits.
pub record IsNumbered (e : LinkEnd) (session rsets : ℕ) : Type 0 where
  pub emptied : e.shdlc.due ≡ []
  pub low : session ≤ rsets
  pub waits : is_waiting e.shdlc ≡ true → session < rsets

pub numbered_then : (e : LinkEnd) (session rsets : ℕ) → IsNumbered e session rsets → Sound e → (i : LinkInput) → IsLoneInput i → (f : LinkEnd)
    → IsTurned (after_input e i) f
    → IsNumbered (sent_all f) (cond (began_by e i) (rsets_since i rsets) session) (rsets_since i rsets + rsets_of (frames_out f))
numbered_then e session rsets a sound i may f turned = go (began_by e i) refl where
  s : LinkEnd
  s = after_input e i

  input : IsAsked e.shdlc s
  input = input_asked e i may

  few : length f.shdlc.due ≤ most_frames
  few =
      let less = at_least f.shdlc.session.answered_rnr in
      omega (arith, input.0, (ap (λ (l : List Due). length l) a.emptied), turned.few, at_most_one s.shdlc.session.answered_rnr, less)
    where
      at_least : (b : Bool) → 0 ≤ cond b 1 0
      at_least true = omega arith
      at_least false = omega arith

  emptied : (sent_all f).shdlc.due ≡ []
  emptied = none_left most_frames f.shdlc few

  waits : is_waiting (sent_all f).shdlc ≡ is_waiting s.shdlc
  waits = after_waits most_frames f.shdlc ∙ turned.waits

  more : rsets ≤ rsets_since i rsets
  more = grind arith

  out : rsets_due f ≤ rsets_of (frames_out f)
  out = out_rsets f few

  late : is_waiting s.shdlc ≡ true → (b : Bool) → is_waiting e.shdlc ≡ b → session < rsets_since i rsets + rsets_of (frames_out f)
  late q true z = let less = a.waits z in omega (arith, less, more)
  late q false z = by (input.1 z) where
    by : (is_waiting s.shdlc ≡ false) ⊎ (1 ≤ rsets_due s) → session < rsets_since i rsets + rsets_of (frames_out f)
    by (inl off) = absurd (true≢false (sym q ∙ off))
    by (inr some) = let low = a.low in let asks = turned.asks in omega (arith, some, low, asks, out, more)

  go : (b : Bool) → began_by e i ≡ b → IsNumbered (sent_all f) (cond b (rsets_since i rsets) session) (rsets_since i rsets + rsets_of (frames_out f))
  go true q = record { emptied = emptied; low = omega arith; waits = λ z. absurd (true≢false (sym z ∙ (waits ∙ (grind arith)))) }
  go false q = record {
    emptied = emptied;
    low = let low = a.low in omega (arith, low, more);
    waits = λ z. late (sym waits ∙ z) (is_waiting e.shdlc) refl;
  }
