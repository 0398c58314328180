-- Each input keeps what is true of an end, and so the laws of the machine hold.
use Rattle.link_laws.proofs.Words.{Act, ActDue, ActEvent, ActStart, ActStop, ActTake, ActTick, Activation, AreSendableInputs, Bool, Cause, Chain, Clt, Control}
use Rattle.link_laws.proofs.Words.{Down, Due, EndState, Fetch, FetchMessage, Fragment, FromNode, Give, HasTick as Tick, Hold, IsSendable, LinkEnd, LinkInput}
use Rattle.link_laws.proofs.Words.{List, Message, None, Option, Release, Reset, Role, Session, SetAside, Some, Start, Stop, Take, TakeBroken, TakeUnknown, Turn}
use Rattle.link_laws.proofs.Words.{Up, [], act_answer, activated, after_input, after_inputs, ap, append-nil, arith, common_steps, cond, drop, end_after}
use Rattle.link_laws.proofs.Words.{ended_by, false, fetched, flat_map-append, fragment_due, fragments_of, frame_fetched, give_refusal, given, had_tick, heard}
use Rattle.link_laws.proofs.Words.{in_use, is_faulty, is_open, is_shdlc, is_some, length, length-append, map, moved, nearer, need, need_of_all, new_link_end}
use Rattle.link_laws.proofs.Words.{news, next_frame, no_session, packet_bytes, packet_count, packets_of, refl, role_after, sent_next, slice_get_within, spare}
use Rattle.link_laws.proofs.Words.{stopped, subst, sym, take, take_answer, taken, tick_answer, ticked, took, true, true≢false, turn, whole_acked, whole_among}
use Rattle.link_laws.proofs.Words.{with_act, ℕ, ◌++◌, ◌+◌, ◌<◌, ◌==◌, ◌∙◌, ◌∷◌, ◌≡◌, ◌≤◌, ◌⊎◌}
use Rattle.link_laws.specs.machine.Laws.{Forgets, IsNone, is_fragment}
use Rattle.link_laws.proofs.Cases.{by_list, by_option, by_test}
use Rattle.link_laws.proofs.machine.Sound.{Data, IsNotUp, SentAfter, Shift, need_more, shifted, taken_shift, ticked_shift, whole_acked_before, whole_few}
use Rattle.link_laws.proofs.machine.Sound.{whole_given}

-- ## Each input keeps what is true of an end

-- an end that isn't open is Down and has nothing of SHDLC to send
pub record IsClosed (s : EndState) : Type 0 where
  pub phase : s.phase ≡ Down
  pub due : s.due ≡ []

pub record Sound (e : LinkEnd) : Type 0 where
  pub is : Data e
  pub closed : is_open e.role ≡ false → IsClosed e.shdlc

-- what is told alike of two ends
data_as : (e f : LinkEnd) → f.shdlc ≡ e.shdlc → f.sent ≡ e.sent → f.aside ≡ e.aside → Data e → Data f
data_as e f shdlc sent aside h = grind arith

pub opened : (r : Role) (P : Type 0) → is_open r ≡ true → is_open r ≡ false → P
opened r P p q = absurd (true≢false (sym p ∙ q))

sent_moved : (e : LinkEnd) (b : Bool) (s : EndState) → SentAfter b e (moved e b s)
sent_moved e b s = grind arith

moved_is : (e : LinkEnd) (b : Bool) (s : EndState) → ((moved e b s).shdlc ≡ s) × ((moved e b s).aside ≡ e.aside) × ((moved e b s).role ≡ e.role)
moved_is e b s = grind arith

-- the SHDLC end of an end becomes s
data_moved : (e : LinkEnd) (b began : Bool) (s : EndState) → Shift e.shdlc s b began → Data e → Data (moved e b s)
data_moved e b began s shift h =
    let m = moved_is e b s in
    shifted e (moved e b s) b began (subst (λ z. Shift e.shdlc z b began) (sym m.0) shift) (sent_moved e b s) m.1 h

sound_moved : (e : LinkEnd) (b began : Bool) (s : EndState) → Shift e.shdlc s b began → is_open e.role ≡ true → Sound e → Sound (moved e b s)
sound_moved e b began s shift o h =
    let m = moved_is e b s in
    record { is = data_moved e b began s shift h.is; closed = λ c. opened e.role (IsClosed (moved e b s).shdlc) o (ap is_open (sym m.2) ∙ c) }

-- ### Activation

-- an end that was closed stays so, or its link goes down
role_closes : (r : Role) (event : ActEvent) → is_open (role_after r event) ≡ false → (is_open r ≡ false) ⊎ ((act_answer r event).ended_link ≡ true)
role_closes r event q = grind arith

sound_act : (o : Option Activation) (e : LinkEnd) → Sound e → Sound (with_act o e)
sound_act o e h = grind arith

sound_activated : (e : LinkEnd) (event : ActEvent) → Sound e → Sound (activated e event)
sound_activated e event h = grind (arith, sound_act)

-- ### Frames and ticks

sound_heard : (e : LinkEnd) (c : Control) → is_open e.role ≡ true → Sound e → Sound (heard e c)
sound_heard e c o h = by_test (is_faulty (taken e.shdlc c).session) (λ q. rw q (record { is = grind arith; closed = λ _. (grind arith) })) (λ q. rw q fine)
  where
    b : Bool
    b = is_some (take_answer e.shdlc c).ended

    s : EndState
    s = taken e.shdlc c

    good : LinkEnd
    good = record (moved e b s) { got = e.got ++ news e.shdlc.session s }

    fine : Sound good
    fine =
        let m = sound_moved e b (take_answer e.shdlc c).began s (taken_shift e.shdlc c) o h in
        record { is = data_as (moved e b s) good refl refl refl m.is; closed = m.closed }

sound_took : (e : LinkEnd) (c : Control) → Sound e → Sound (took e c)
sound_took e (Act act again) h = sound_activated e (ActTake act again) h
sound_took e Clt h = record { is = data_as e (took e Clt) refl refl refl h.is; closed = h.closed }
sound_took e frame h = by_test {P = Sound (took e frame)} (is_open e.role) (λ o. rw o (sound_heard e frame o h)) (λ o. rw o h)

sound_tick : (e : LinkEnd) → Sound e → Sound (had_tick e)
sound_tick e h =
    by_test (is_open e.role) (λ o. rw o (sound_moved e (is_some (tick_answer e.shdlc).ended) false (ticked e.shdlc) (ticked_shift e.shdlc) o h))
    (λ o. rw o (sound_activated e ActTick h))

-- ### What its node does

-- a message that isn't refused
record IsGiven (e : LinkEnd) (m : Message) : Type 0 where
  up : e.shdlc.phase ≡ Up
  room : need m.1 ≤ spare e

data_given : (e : LinkEnd) (m : Message) → IsSendable m → IsGiven e m → Data e → Data (given e m)
data_given e m s g h =
    let f : Message → List (List ℕ) = λ k. map packet_bytes (packets_of k.0 k.1) in
    let a : ℕ = e.shdlc.session.acked in
    let len : length e.shdlc.session.out ≡ length (fragments_of e.sent) = ap (λ (xs : List (List ℕ)). length xs) h.out in
    let count : 0 < packet_count (length m.1) = let n = s.1 in omega (arith, n) in
    let whole : whole_among (e.sent ++ m ∷ []) a ≡ whole_among e.sent a = whole_given e.sent m a count (omega (arith, len, h.acked, h.reached)) in
    let more = need_more e.sent m (whole_among e.sent a) (whole_few e.sent a) in
    record {
      out = ap (λ fs. fs ++ f m) h.out ∙ sym (flat_map-append f e.sent (m ∷ []) ∙ ap (λ fs. fragments_of e.sent ++ fs) (append-nil (f m)));
      none = λ no. absurd (no g.up);
      forgot = λ no. absurd (no g.up);
      acked = h.acked;
      reached = omega (arith, h.reached, length-append e.shdlc.session.out (f m));
      room = omega (arith, (ap (λ n. need_of_all (drop n (e.sent ++ m ∷ []))) whole ∙ more), g.room, h.room);
    }

pub sound_turn : (e : LinkEnd) (t : Turn) → AreSendableInputs (FromNode t ∷ []) → Sound e → Sound (turn e t)
sound_turn e (Give m) a h =
    by_option {P = Sound (turn e (Give m))} (give_refusal e m) (λ q.
    let s : Sound (given e m) = record {
      is = data_given e m a.0 (grind arith) h.is;
      closed = λ c. let k = h.closed c in record { phase = k.phase; due = k.due };
    } in rw q s)
    (λ why q. rw q h)
sound_turn e (Hold held) a h = grind arith
sound_turn e FetchMessage a h = record { is = data_as e (turn e FetchMessage) refl refl refl h.is; closed = h.closed }
sound_turn e SetAside a h = grind arith
sound_turn e Release a h = grind arith

-- ### A frame is fetched

pub fetched_data : (e : LinkEnd) (acts : List ActDue) → Sound e → Sound (record e { shdlc = fetched e.shdlc; acts = acts })
fetched_data e acts h = go e.shdlc.due (fragment_due e.shdlc.session) refl refl
  where
    s : Session
    s = e.shdlc.session

    not_none : (info : Fragment) → fragment_due s ≡ Some info → s ≡ no_session → ⊥
    not_none info q z = let n : None ≡ Some info = sym (ap fragment_due z) ∙ q in cc

    go : (ds : List Due) (o : Option Fragment) → e.shdlc.due ≡ ds → fragment_due s ≡ o → Sound (record e { shdlc = fetched e.shdlc; acts = acts })
    go [] None p q = grind arith
    go [] (Some info) p q =
        let i = slice_get_within s.out s.next info (grind (arith, common_steps)) in
        let k : Sound (record e { shdlc = (record e.shdlc { session = sent_next s }); acts = acts }) = grind arith in
        rw (p, q) (rw p at k)
    go (d ∷ ds) o p q = grind arith

sound_fetch : (e : LinkEnd) → Sound e → Sound (frame_fetched e)
sound_fetch e h =
    by_list e.acts (λ p. let k = fetched_data e [] h in rw p k) (λ a acts p.
    by_test (a.behind == 0) (grind arith)
    (λ q. let k = fetched_data e (map nearer (a ∷ acts)) h in rw (p, q) k))

-- ### Runs

pub sound_input : (e : LinkEnd) (i : LinkInput) → AreSendableInputs (i ∷ []) → Sound e → Sound (after_input e i)
sound_input e (Take c) a h = sound_took e c h
sound_input e TakeUnknown a h = record { is = data_as e (after_input e TakeUnknown) refl refl refl h.is; closed = h.closed }
sound_input e (TakeBroken fault) a h = h
sound_input e Tick a h = sound_tick e h
sound_input e (Reset window) a h = grind arith
sound_input e (Start v) a h = sound_activated (moved e true (stopped e.shdlc)) (ActStart v) (grind arith)
sound_input e Stop a h = sound_activated (moved e true (stopped e.shdlc)) ActStop (grind arith)
sound_input e (FromNode t) a h = sound_turn e t a h
sound_input e Fetch a h = sound_fetch e h

-- the first of these, and the others
pub parted : (i : LinkInput) (is : List LinkInput) → AreSendableInputs (i ∷ is) → AreSendableInputs (i ∷ []) × AreSendableInputs is
parted i is a = grind arith

sound_inputs : (is : List LinkInput) (e : LinkEnd) → AreSendableInputs is → Sound e → Sound (after_inputs e is)
sound_inputs [] e a h = h
sound_inputs (i ∷ is) e a h = let p = parted i is a in sound_inputs is (after_input e i) p.1 (sound_input e i p.0 h)

pub new_sound : (role : Role) → Sound (new_link_end role)
new_sound role = grind arith

pub sound : (role : Role) (is : List LinkInput) → AreSendableInputs is → Sound (after_inputs (new_link_end role) is)
sound role is a = sound_inputs is (new_link_end role) a (grind arith)

-- ## What the laws of the machine say, from what is true of an end after any inputs

-- ### Messages and blocks

pub fragments_are : (role : Role) (is : List LinkInput) → AreSendableInputs is → (end_after role is).shdlc.session.out ≡ fragments_of (end_after role is).sent
fragments_are role is a = (sound role is a).is.out

pub acked_few : (role : Role) (is : List LinkInput) → AreSendableInputs is → whole_acked (end_after role is) ≤ length (end_after role is).sent
acked_few role is a = whole_few (end_after role is).sent (end_after role is).shdlc.session.acked

pub acked_all : (role : Role) (is : List LinkInput) → AreSendableInputs is
    → length (fragments_of (take (whole_acked (end_after role is)) (end_after role is).sent)) ≤ (end_after role is).shdlc.session.acked
acked_all role is a = whole_acked_before (end_after role is).sent (end_after role is).shdlc.session.acked

pub acked_offered : (role : Role) (is : List LinkInput) → AreSendableInputs is
    → (end_after role is).shdlc.session.acked ≤ length (end_after role is).shdlc.session.out
acked_offered role is a = let d = (sound role is a).is in let i = d.acked in let j = d.reached in omega (arith, i, j)

pub blocks : (role : Role) (is : List LinkInput) → AreSendableInputs is
    → in_use (end_after role is) + (end_after role is).aside + spare (end_after role is) ≡ 128
blocks role is a = let r = (sound role is a).is.room in omega (arith, r)

-- ### Frames

pub inactive_takes : (role : Role) (is : List LinkInput) → AreSendableInputs is → is_open (end_after role is).role ≡ false
    → (c : Control) → is_shdlc c ≡ true → after_input (end_after role is) (Take c) ≡ end_after role is
inactive_takes role is a o c q = let h0 = (end_after role is) in grind arith

pub inactive_sends : (role : Role) (is : List LinkInput) → AreSendableInputs is → is_open (end_after role is).role ≡ false
    → IsNone is_shdlc (next_frame (end_after role is))
inactive_sends role is a o = let h0 = (end_after role is) in let h1 = (sound role is a) in grind arith

idle_sends : (e : LinkEnd) → Sound e → IsNotUp e.shdlc → IsNone is_fragment (next_frame e)
idle_sends e h down = grind arith

pub no_fragment : (role : Role) (is : List LinkInput) → AreSendableInputs is → ((end_after role is).shdlc.phase ≡ Up → ⊥)
    → IsNone is_fragment (next_frame (end_after role is))
no_fragment role is a n = idle_sends (end_after role is) (sound role is a) n

-- ### The end of a session

some_is : {A : Type 0} (o : Option A) (x : A) → o ≡ Some x → is_some o ≡ true
some_is o x q = rw q refl

-- a frame of SHDLC
forgets_heard : (e : LinkEnd) (c : Control) (cause : Cause) → Sound e
    → cond (is_faulty (taken e.shdlc c).session) (Some Chain) (take_answer e.shdlc c).ended ≡ Some cause → Forgets e (heard e c)
forgets_heard e c cause h q = by_test (is_faulty (taken e.shdlc c).session) (λ p. rw p (grind arith)) (λ p. rw p (good (let z = q in rw p at z)))
  where
    b : Bool
    b = is_some (take_answer e.shdlc c).ended

    f : LinkEnd
    f = moved e b (taken e.shdlc c)

    good : (take_answer e.shdlc c).ended ≡ Some cause → Forgets e (record f { got = e.got ++ news e.shdlc.session (taken e.shdlc c) })
    good p =
        let k : Forgets e f = grind arith in
        record { sent = k.sent; out = k.out; acc = k.acc; got = ap (λ ms. e.got ++ ms) (grind arith) ∙ append-nil e.got }

forgets_took : (e : LinkEnd) (c : Control) (cause : Cause) → Sound e → ended_by e (Take c) ≡ Some cause → Forgets e (took e c)
forgets_took e (Act act again) cause h q = grind arith
forgets_took e Clt cause h q = absurd (let z = q in cc)
forgets_took e frame cause h q =
    by_test {P = Forgets e (took e frame)} (is_open e.role) (λ o. rw o (forgets_heard e frame cause h (let z = q in rw o at z)))
    (λ o. absurd (let z = rw o at q in cc))

forgets : (e : LinkEnd) (i : LinkInput) (cause : Cause) → Sound e → ended_by e i ≡ Some cause → Forgets e (after_input e i)
forgets e (Take c) cause h q = forgets_took e c cause h q
forgets e Tick cause h q = grind arith
forgets e (Reset window) cause h q = grind arith
forgets e (Start v) cause h q = grind arith
forgets e Stop cause h q = grind arith
forgets e _ cause h q = absurd (let z = q in cc)

pub forgotten : (role : Role) (is : List LinkInput) → AreSendableInputs is → (i : LinkInput) (cause : Cause) → ended_by (end_after role is) i ≡ Some cause
    → Forgets (end_after role is) (after_input (end_after role is) i)
forgotten role is a i cause q = forgets (end_after role is) i cause (sound role is a) q
