-- A step of a link over messages is its projection's step, and what that needs of what an end asks for and has to send.
use Rattle.std.specs.Prelude.{drop, ◌-◌}
use Rattle.link_laws.proofs.Words.{ActDue, Activation, AreSendableTurns, AreShort, Bool, Control, CoreLink, CoreTurn, CoreTurn as ShdlcTurn, Down, Due}
use Rattle.link_laws.proofs.Words.{EndState, FetchMessage, Fragment, Give, Hold, I, Kind, Link, LinkEnd, List, Message, None, NumberedEnd, Offer, OnWire}
use Rattle.link_laws.proofs.Words.{Option, Rej_due, Release, Rnr_due, Role, Rr_due, Rset_due, S, SetAside, SetReady, Some, Talk, Turn, Ua_due, Up, []}
use Rattle.link_laws.proofs.Words.{acknowledged, act_frame, after_frames, among, ap, append-nil, arith, becomes, core_of, core_turned}
use Rattle.link_laws.proofs.Words.{core_turned as shdlc_turned, core_turns, core_with_ended, false, fetched, flat_map-append, fragments_of, frame_due}
use Rattle.link_laws.proofs.Words.{frames_of, frames_out, give_refusal, given, is_open, is_rset, is_some, length, map, most_frames, moved}
use Rattle.link_laws.proofs.Words.{option_to_list, packet_bytes, packets_of, place_of, put, put_all, received, refl, shdlc_becomes as core_becomes}
use Rattle.link_laws.proofs.Words.{shdlc_put as core_put, shdlc_put_all as core_put_all, shdlc_turn, subst, suc, sym, take_answer, taken, talk_now, tick_answer}
use Rattle.link_laws.proofs.Words.{ticked, true, turn, turned, with_ended, with_shdlc_controller as core_with_controller, zero, ℕ, ◌++◌, ◌∙◌, ◌∷◌, ◌≡◌, ◌≤◌}
use Rattle.link_laws.specs.messages.Projection.{core_turn}
use Rattle.link_laws.specs.sending.Sending.{IsShort}
use Rattle.link_laws.proofs.Cases.{by_option, by_phase}
use Rattle.link_laws.proofs.machine.Reports.{shdlc_is as shdlc_moved}
use Rattle.link_laws.proofs.machine.Sound.{by_taken}
use Rattle.link_laws.proofs.messages.ActsInOrder.{ActsInOrder, LinkInOrder, in_order_put_all, no_acts, with_sent}
use Rattle.link_laws.proofs.places.Joined.{ready_cases, received_cases}
use Rattle.link_laws.proofs.sessions.Ties.{turn-phase as turn_phase}

-- ## Where an end doesn't wait it has no RSET to send, and frames that are none give a link no number

-- it is an RSET
abbrev pub is_ask : Due → Bool
is_ask Rset_due = true
is_ask Rr_due = false
is_ask Rej_due = false
is_ask Rnr_due = false
is_ask Ua_due = false

-- none of these is an RSET
abbrev pub NoAsk : List Due → Type 0
NoAsk [] = Unit {0}
NoAsk (d ∷ ds) = (is_ask d ≡ false) × NoAsk ds

no_ask_more : (ds : List Due) (d : Due) → is_ask d ≡ false → NoAsk ds → NoAsk (ds ++ d ∷ [])
no_ask_more [] d q a = (q, tt)
no_ask_more (x ∷ ds) d q a = (a.0, no_ask_more ds d q a.1)

-- nothing is due
pub none_due : (e : EndState) → e.due ≡ [] → NoAsk e.due
none_due e q = rw q tt

-- ### What comes to an end

up_I : (e : EndState) (ns nr : ℕ) (info : Fragment) → e.phase ≡ Up → NoAsk e.due → NoAsk (taken e (I ns nr info)).due
up_I e ns nr info up a = by_option (place_of e.session nr) (λ q. rw (up, q) a) (λ x q. rw (up, q) (let z = by x in rw up at z))
  where
    by : (x : ℕ) → NoAsk (received (acknowledged e x) ns info).due
    by x =
        received_cases (λ f. NoAsk f.due) (acknowledged e x) ns info (λ _. no_ask_more e.due Rr_due refl a) (λ _ _. a)
        (λ _ _. no_ask_more e.due Rej_due refl a) (λ _ _. no_ask_more e.due Rr_due refl a) (no_ask_more e.due Rnr_due refl a)

up_S : (e : EndState) (k : Kind) (nr : ℕ) → e.phase ≡ Up → NoAsk e.due → NoAsk (taken e (S k nr)).due
up_S e k nr up a = grind arith

-- a frame makes no RSET
pub taken_asks : (e : EndState) (c : Control) → NoAsk e.due → NoAsk (taken e c).due
taken_asks e c a =
    by_taken (λ _ f _. NoAsk f.due) e (λ ns nr info p. up_I e ns nr info p a) (λ kind nr p. up_S e kind nr p a) (λ _. a) (λ _ _ _. (refl, tt))
    (λ _ _ _. no_ask_more e.due Ua_due refl a) (λ _ _ _. no_ask_more e.due Ua_due refl a) (λ _. a) c

turn_asks : (e : EndState) (t : ShdlcTurn) → NoAsk e.due → NoAsk (shdlc_turn e t).due
turn_asks e (Offer fs) a = by_phase {P = NoAsk (shdlc_turn e (Offer fs)).due} e.phase (λ p. rw p a) (λ p. rw p a) (λ p. rw p a)
turn_asks e (SetReady r) a = ready_cases (λ f. NoAsk f.due) e r a a (no_ask_more e.due Rr_due refl a)

-- nor do the turns of its node
pub turned_asks : (e : EndState) (ts : List ShdlcTurn) → NoAsk e.due → NoAsk (shdlc_turned e ts).due
turned_asks e [] a = a
turned_asks e (t ∷ ts) a = turned_asks (shdlc_turn e t) ts (turn_asks e t a)

-- turns leave it Up, waiting or Down
pub turned_phase : (e : EndState) (ts : List ShdlcTurn) → (shdlc_turned e ts).phase ≡ e.phase
turned_phase e [] = refl
turned_phase e (t ∷ ts) = turned_phase (shdlc_turn e t) ts ∙ turn_phase e t

-- ### What it sends

-- none of these is an RSET
abbrev pub NoRset : List Control → Type 0
NoRset [] = Unit {0}
NoRset (c ∷ cs) = (is_rset c ≡ false) × NoRset cs

-- a frame that is fetched
record Fetches (f : EndState) (o : Option Control) : Type 0 where
  frame : (c : Control) → o ≡ Some c → is_rset c ≡ false
  rest : NoAsk f.due

fetches : (e : EndState) → NoAsk e.due → Fetches (fetched e) (frame_due e)
fetches e a = grind arith

-- where no RSET is due none goes out
pub no_rset : (n : ℕ) (e : EndState) → NoAsk e.due → NoRset (frames_of n e)
no_rset zero e a = tt
no_rset (suc n) e a =
    by_option {P = NoRset (frames_of (suc n) e)} (frame_due e) (λ q. rw q tt)
    (λ c q. rw q ((fetches e a).frame c q, (no_rset n (fetched e) (fetches e a).rest)))

-- frames that are no RSETs change the wire to the host alone
pub puts_none : (cs : List Control) (l : Link) → NoRset cs → put_all l cs ≡ record l { to_host = (put_all l cs).to_host }
puts_none [] l a = refl
puts_none (c ∷ cs) l a = (puts_none cs (put l c) a.1) ∙ ap (λ (m : Link). record m { to_host = (put_all (put l c) cs).to_host }) (one c a.0)
  where
    one : (c : Control) → is_rset c ≡ false → put l c ≡ record l { to_host = (put l c).to_host }
    one c q = grind arith

-- ## What an SHDLC end has to send over each thing that may happen to it

-- an end without a session has nothing
abbrev pub Idle : EndState → Type 0
Idle e = (e.phase ≡ Up → ⊥) → (e.session.out ≡ []) × (e.session.acc ≡ [])

-- what it has to send is what it had, or nothing where its session ended
abbrev pub OutAfter : Bool → EndState → EndState → Type 0
OutAfter true e f = f.session.out ≡ []
OutAfter false e f = f.session.out ≡ e.session.out

pub record Keeps (ended : Bool) (e f : EndState) : Type 0 where
  pub out : OutAfter ended e f
  pub idle : Idle f

-- an end that is Up stays so
stays : (e f : EndState) → f.phase ≡ Up → f.session.out ≡ e.session.out → Keeps false e f
stays e f up out = record { out = out; idle = λ n. absurd (n up) }

pub taken_keeps : (e : EndState) (c : Control) → Idle e → Keeps (is_some (take_answer e c).ended) e (taken e c)
taken_keeps e c idle = grind arith

pub ticked_keeps : (e : EndState) → Idle e → Keeps (is_some (tick_answer e).ended) e (ticked e)
ticked_keeps e idle = grind arith

-- frames that go out leave the lists and the phase
pub record Alike (e f : EndState) : Type 0 where
  pub out : f.session.out ≡ e.session.out
  pub acc : f.session.acc ≡ e.session.acc
  pub phase : f.phase ≡ e.phase

fetched_alike : (e : EndState) → Alike e (fetched e)
fetched_alike e = grind arith

pub frames_alike : (n : ℕ) (e : EndState) → Alike e (after_frames n e)
frames_alike zero e = record { out = refl; acc = refl; phase = refl }
frames_alike (suc n) e =
    let a = fetched_alike e in
    let b = frames_alike n (fetched e) in
    record { out = b.out ∙ a.out; acc = b.acc ∙ a.acc; phase = b.phase ∙ a.phase }

-- ## A step of a link over messages is its projection's step, where no chain fault comes

-- ### One end

-- what an end has to send in a session is the fragments of the messages given in it
pub record Says (t : Talk) : Type 0 where
  pub out : t.session.out ≡ fragments_of t.sent
  pub short : AreShort t.sent

abbrev pub due_now : Option Activation → List ActDue
due_now None = []
due_now (Some act) = record { frame = act; behind = 0 } ∷ []

-- one end whose frames are still to go out, with this frame of activation
pub record Mid (o : Option Activation) (e : LinkEnd) : Type 0 where
  pub acts : e.acts ≡ due_now o
  pub idle : Idle e.shdlc
  pub closed : is_open e.role ≡ false → e.shdlc.phase ≡ Down
  pub says : Says (talk_now e)

abbrev pub Now : LinkEnd → Type 0
Now e = Mid None e

pub mid_moved : (e : LinkEnd) (b : Bool) (s : EndState) → Now e → Keeps b e.shdlc s → (is_open e.role ≡ false → s.phase ≡ Down) → Now (moved e b s)
mid_moved e b s h k c = grind arith

-- ### Turns

pub give_tells : (e : LinkEnd) (m : Message) → give_refusal e m ≡ None → (e.shdlc.phase ≡ Up) × (length m.1 ≤ 4096)
give_tells e m q = grind arith

short_more : (ms : List Message) (m : Message) → AreShort ms → IsShort m → AreShort (ms ++ m ∷ [])
short_more [] m h s = (s, tt)
short_more (x ∷ ms) m h s = (h.0, short_more ms m h.1 s)

mid_given : (o : Option Activation) (e : LinkEnd) (m : Message) → Mid o e → e.shdlc.phase ≡ Up → IsShort m → Mid o (given e m)
mid_given o e m h up short =
    let f : Message → List (List ℕ) = λ k. map packet_bytes (packets_of k.0 k.1) in
    record {
      acts = h.acts;
      idle = λ n. absurd (n up);
      closed = h.closed;
      says = record {
        out = ap (λ fs. fs ++ f m) h.says.out ∙ sym (flat_map-append f e.sent (m ∷ []) ∙ ap (λ fs. fragments_of e.sent ++ fs) (append-nil (f m)));
        short = short_more e.sent m h.says.short short;
      };
    }

-- the end after turns, and what they are at its SHDLC end
pub record Turned (o : Option Activation) (e f : LinkEnd) (ts : List CoreTurn) : Type 0 where
  pub mid : Mid o f
  pub is : f.shdlc ≡ core_turned e.shdlc ts

turned_same : (o : Option Activation) (e f : LinkEnd) (ts us : List CoreTurn) (g : LinkEnd) → f ≡ g → ts ≡ us → Turned o e g us → Turned o e f ts
turned_same o e f ts us g p q h = grind arith

-- what a node does that its SHDLC end doesn't see
turned_beside : (o : Option Activation) (e f : LinkEnd) → f.role ≡ e.role → f.shdlc ≡ e.shdlc → f.sent ≡ e.sent → f.acts ≡ e.acts → Mid o e → Turned o e f []
turned_beside o e f role shdlc sent acts h = grind arith

turn_mid : (o : Option Activation) (e : LinkEnd) (t : Turn) → AreSendableTurns (t ∷ []) → Mid o e → Turned o e (turn e t) (core_turn e t)
turn_mid o e (Hold held) a h = grind arith
turn_mid o e FetchMessage a h = turned_beside o e (record e { got = drop 1 e.got }) refl refl refl refl h
turn_mid o e Release a h = turned_beside o e (record e { aside = e.aside - 1 }) refl refl refl refl h
turn_mid o e SetAside a h = grind arith
turn_mid o e (Give m) a h =
    by_option {P = Turned o e (turn e (Give m)) (core_turn e (Give m))} (give_refusal e m) (λ q.
    let t = give_tells e m q in
    turned_same o e (turn e (Give m)) (core_turn e (Give m)) (Offer fs ∷ []) (given e m) (rw q refl) (rw q refl)
    (record { mid = mid_given o e m h t.0 (a.0, t.1); is = rw t.0 refl }))
    (λ r q. turned_same o e (turn e (Give m)) (core_turn e (Give m)) [] e (rw q refl) (rw q refl) (record { mid = h; is = refl }))
  where
    fs : List (List ℕ)
    fs = map packet_bytes (packets_of m.0 m.1)

pub turns_mid : (o : Option Activation) (e : LinkEnd) (ts : List Turn) → AreSendableTurns ts → Mid o e → Turned o e (turned e ts) (core_turns e ts)
turns_mid o e [] a h = record { mid = h; is = refl }
turns_mid o e (t ∷ ts) a h =
    let p = parted t ts a in
    let more = turns_mid o (turn e t) ts p.1 (turn_mid o e t p.0 h).mid in
    grind arith
  where
    parted : (t : Turn) (ts : List Turn) → AreSendableTurns (t ∷ ts) → AreSendableTurns (t ∷ []) × AreSendableTurns ts
    parted t ts a = grind arith

-- ### A link

pub put-core : (l : Link) (c : Control) → core_of (put l c) ≡ core_put (core_of l) c
put-core l c = grind arith

put_all-core : (cs : List Control) (l : Link) → core_of (put_all l cs) ≡ core_put_all (core_of l) cs
put_all-core [] l = refl
put_all-core (c ∷ cs) l = put_all-core cs (put l c) ∙ ap (λ m. core_put_all m cs) (put-core l c)

core_put_all-append : (c : CoreLink) (xs ys : List Control) → core_put_all c (xs ++ ys) ≡ core_put_all (core_put_all c xs) ys
core_put_all-append c [] ys = refl
core_put_all-append c (x ∷ xs) ys = core_put_all-append (core_put c x) xs ys

abbrev pub frames_now : Option Activation → List Control
frames_now o = map act_frame (option_to_list o)

pub among_now : (o : Option Activation) (frames : List Control) → among 0 (due_now o) frames ≡ frames_now o ++ frames
among_now o frames = grind arith

becomes-core : (l : Link) (o : Option Activation) (e : LinkEnd) (s : EndState) → e.acts ≡ due_now o → e.shdlc ≡ s
    → core_of (becomes l e) ≡ core_becomes (core_put_all (core_of l) (frames_now o)) s
becomes-core l o e s acts is =
    let frames : frames_out e ≡ frames_now o ++ frames_of most_frames s =
    ap (λ a. among 0 a (frames_of most_frames e.shdlc)) acts
    ∙ (ap (λ f. among 0 (due_now o) (frames_of most_frames f)) is ∙ among_now o (frames_of most_frames s)) in
    ap (λ f. core_with_controller (core_of (put_all l (frames_out e))) (after_frames most_frames f)) is
    ∙ ap (λ m. core_with_controller m (after_frames most_frames s))
    (ap (λ fs. core_of (put_all l fs)) frames
    ∙ (put_all-core (frames_now o ++ frames_of most_frames s) l ∙ core_put_all-append (core_of l) (frames_now o) (frames_of most_frames s)))

-- the frames of the controller's end leave these parts of a link
pub record Beside (l m : Link) : Type 0 where
  pub host : m.host ≡ l.host
  pub past : m.controller.past ≡ l.controller.past
  pub to_controller : m.to_controller ≡ l.to_controller

pub with_ended-core : (l : Link) (b : Bool) → core_of (with_ended l b) ≡ core_with_ended (core_of l) b
with_ended-core l b = grind arith

beside-put : (l : Link) (c : Control) → Beside l (put l c)
beside-put l c = grind arith

pub beside-put_all : (cs : List Control) (l : Link) → Beside l (put_all l cs)
beside-put_all [] l = record { host = refl; past = refl; to_controller = refl }
beside-put_all (c ∷ cs) l =
    let a = beside-put l c in
    let b = beside-put_all cs (put l c) in
    record { host = b.host ∙ a.host; past = b.past ∙ a.past; to_controller = b.to_controller ∙ a.to_controller }

abbrev pub AllSay : List (ℕ × Talk) → Type 0
AllSay [] = Unit {0}
AllSay (x ∷ xs) = Says x.1 × AllSay xs

-- one end with its past
pub record Tells (h : NumberedEnd) : Type 0 where
  pub now : Now h.side
  pub past : AllSay h.past

-- what a step at the controller's end gives: it is projected, and both ends are as they should
pub record Step (l m : Link) (c : CoreLink) : Type 0 where
  pub core : core_of m ≡ c
  pub tells : Tells m.controller
  pub host : m.host ≡ l.host
  pub in_order : LinkInOrder l → LinkInOrder m

pub step_same : (l m k : Link) (c d : CoreLink) → m ≡ k → c ≡ d → Step l k d → Step l m c
step_same l m k c d p q st = grind arith

put_all-append : (l : Link) (xs ys : List Control) → put_all l (xs ++ ys) ≡ put_all (put_all l xs) ys
put_all-append l [] ys = refl
put_all-append l (x ∷ xs) ys = put_all-append (put l x) xs ys

-- all that is due goes out
becomes_in_order : (l k : Link) (o : Option Activation) (e : LinkEnd) → k.host ≡ l.host → e.acts ≡ due_now o
    → ActsInOrder e.role l.host.side.role k.to_controller (with_sent o k.to_host) → LinkInOrder (becomes k e)
becomes_in_order l k o e host acts in_order =
    let b = beside-put_all (frames_out e) k in
    let v : List OnWire = (put_all k (frames_out e)).to_host in
    let P : NumberedEnd → Type 0 = λ g. ActsInOrder e.role g.side.role (put_all k (frames_out e)).to_controller v in
    subst P (sym (b.host ∙ host)) (subst (λ w. ActsInOrder e.role l.host.side.role w v) (sym b.to_controller) goes)
  where
    frames : frames_out e ≡ frames_now o ++ frames_of most_frames e.shdlc
    frames = ap (λ a. among 0 a (frames_of most_frames e.shdlc)) acts ∙ among_now o (frames_of most_frames e.shdlc)

    wire : (put_all k (frames_out e)).to_host ≡ (put_all (put_all k (frames_now o)) (frames_of most_frames e.shdlc)).to_host
    wire = ap (λ fs. (put_all k fs).to_host) frames ∙ ap (λ (j : Link). j.to_host) (put_all-append k (frames_now o) (frames_of most_frames e.shdlc))

    goes : ActsInOrder e.role l.host.side.role k.to_controller (put_all k (frames_out e)).to_host
    goes =
        let P : List OnWire → Type 0 = λ v. ActsInOrder e.role l.host.side.role k.to_controller v in
        subst P (sym wire) (in_order_put_all e.role l.host.side.role k.to_controller (frames_of most_frames e.shdlc) (put_all k (frames_now o))
        (no_acts most_frames e.shdlc) (subst P (sym (grind arith)) in_order))

step_becomes : (l k : Link) (o : Option Activation) (e : LinkEnd) (s : EndState) → k.host ≡ l.host → AllSay k.controller.past → Mid o e → e.shdlc ≡ s
    → (LinkInOrder l → ActsInOrder e.role l.host.side.role k.to_controller (with_sent o k.to_host))
    → Step l (becomes k e) (core_becomes (core_put_all (core_of k) (frames_now o)) s)
step_becomes l k o e s host past h is in_order =
    let b = beside-put_all (frames_out e) k in
    record {
      core = becomes-core k o e s h.acts is;
      tells = record { now = let a = frames_alike most_frames e.shdlc in grind arith; past = rw b.past past };
      host = b.host ∙ host;
      in_order = λ z. becomes_in_order l k o e host h.acts (in_order z);
    }

-- turns come before
pub turned_role : (e : LinkEnd) (ts : List Turn) → (turned e ts).role ≡ e.role
turned_role e [] = refl
turned_role e (t ∷ ts) = let h0 = turned_role (turn e t) ts in grind arith

pub step_turned : (l k : Link) (o : Option Activation) (e : LinkEnd) (ts : List Turn) → k.host ≡ l.host → AllSay k.controller.past
    → AreSendableTurns ts → Mid o e
    → (LinkInOrder l → ActsInOrder e.role l.host.side.role k.to_controller (with_sent o k.to_host))
    → Step l (becomes k (turned e ts)) (core_becomes (core_put_all (core_of k) (frames_now o)) (core_turned e.shdlc (core_turns e ts)))
step_turned l k o e ts host past a h in_order =
    let t = turns_mid o e ts a h in
    let P : Role → Type 0 = λ r. ActsInOrder r l.host.side.role k.to_controller (with_sent o k.to_host) in
    step_becomes l k o (turned e ts) (core_turned e.shdlc (core_turns e ts)) host past t.mid t.is (λ z. subst P (sym (turned_role e ts)) (in_order z))

pub moved_role : (e : LinkEnd) (b : Bool) (s : EndState) → (moved e b s).role ≡ e.role
moved_role e b s = grind arith

pub host_ended : (l : Link) (b : Bool) → (with_ended l b).host ≡ l.host
host_ended l b = grind arith

-- the end has become e, in a step that may end its session
pub step_moved : (l : Link) (b : Bool) (s : EndState) (ts : List Turn) → Tells l.controller → AreSendableTurns ts → Keeps b l.controller.side.shdlc s
    → (is_open l.controller.side.role ≡ false → s.phase ≡ Down)
    → Step l (becomes (with_ended l b) (turned (moved l.controller.side b s) ts))
    (core_becomes (core_with_ended (core_of l) b) (core_turned s (core_turns (moved l.controller.side b s) ts)))
step_moved l b s ts h a keeps c =
    let f : LinkEnd = moved l.controller.side b s in
    let st = step_turned l (with_ended l b) None f ts (host_ended l b) (grind arith) a (mid_moved l.controller.side b s h.now keeps c) (in_order b) in
    let q : core_becomes (core_of (with_ended l b)) (core_turned f.shdlc (core_turns f ts))
    ≡ core_becomes (core_with_ended (core_of l) b) (core_turned s (core_turns f ts)) =
    ap (λ m. core_becomes m (core_turned f.shdlc (core_turns f ts))) (grind arith)
    ∙ ap (λ z. core_becomes (core_with_ended (core_of l) b) (core_turned z (core_turns f ts))) (shdlc_moved l.controller.side b s) in
    record { core = st.core ∙ q; tells = st.tells; host = st.host; in_order = st.in_order }
  where
    in_order : (b : Bool) → LinkInOrder l
        → ActsInOrder (moved l.controller.side b s).role l.host.side.role (with_ended l b).to_controller (with_ended l b).to_host
    in_order b z = grind arith
