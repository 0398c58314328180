-- What holds of runs of the law of one link holds of each link of a world: its blocks are shared out.
use Rattle.node_laws.proofs.Words.{ActEvent, ActFrame, ActStart, ActStop, ActTake, Activate, AllByRecursion, ArePlayable, AreUpTogether, AtController, AtHost}
use Rattle.node_laws.proofs.Words.{Bool, Chain, Clt, Control, EndEvent, EndState, Fetch, FetchMessage, FromNode, Give, Hold, I, IsLine, IsRun, IsRunOf}
use Rattle.node_laws.proofs.Words.{IsSettled, Line, Link, LinkEnd, LinkEvent, LinkInput, List, Message, None, OnWire, Release, Reset, Rset, S, SetAside, Site}
use Rattle.node_laws.proofs.Words.{Some, Start, Starts, Step, Stop, Take, TakeBroken, TakeUnknown, Tick, TicksWithout, Turn, Ua, Up, [], activated, after_input}
use Rattle.node_laws.proofs.Words.{after_link_events, aged, all_at_controller, all_so, arith, by_option, by_test, cond, drop, ended_by, exchanged, false}
use Rattle.node_laws.proofs.Words.{give_refusal, given, happens, happens_at_controller, heard, in_use, is_faulty, is_open, is_some, length, most_frames, moved}
use Rattle.node_laws.proofs.Words.{nat_le, need, need_of_all, new_line, new_link_end, new_world, number_of, one_number, packet_count, put_down, refl, renewed}
use Rattle.node_laws.proofs.Words.{sent_all, spare, steps_at_controller, stopped, subst, sure_of, sym, take_answer, taken, talk_now, talk_of, tick_host}
use Rattle.node_laws.proofs.Words.{ticks_at_controller, took, true, turn, turned, whole_among, world_after, ℕ, ◌++◌, ◌+◌, ◌-◌, ◌∙◌, ◌∷◌, ◌≡◌, ◌≤◌}
use Rattle.link_laws.proofs.entries.Stepping.{fetched_acked as frames_acked}
use Rattle.link_laws.proofs.machine.Reports.{moved_sent as sent_moved, shdlc_is as moved_shdlc}
use Rattle.link_laws.proofs.machine.Sound.{IsNotUp, SentAfter, Shift, need_less, need_more, taken_shift, whole_few, whole_more}
use Rattle.link_laws.proofs.machine.Sound.Shift.{Begins, Ends, Renews, Rests, Stays}
use Rattle.link_laws.proofs.messages.Runs.{all_here, all_there, in_order_here_of_whole as in_order_here, in_order_there_of_whole as in_order_there}
use Rattle.link_laws.proofs.messages.Runs.{no_chain_here, no_chain_there, up_together}
use Rattle.link_laws.proofs.sessions.Ties.{after_frames-phase}
use Rattle.link_laws.specs.messages.Links.LinkEvent.{Ticks}
use Rattle.link_laws.specs.messages.Order.{InOrder}
use Rattle.link_laws.specs.messages.Quiet.{AllDelivered, IsQuiet, losses_of}
use Rattle.node_laws.specs.links.Runs.{SharesOut}
use Rattle.node_laws.proofs.links.Sites.{here_host, here_is, tick_is}
use Rattle.node_laws.proofs.links.Worlds.{links_run}

-- ## What holds of runs of the law of one link holds of each link of a world of nodes

-- what holds of each run holds of each link
all_obey : (P : Link → Type 0) → ((l : Link) → IsRun l → P l) → (sites : List Site) → AllByRecursion (λ (s : Site). IsRun s.link) sites
    → AllByRecursion (λ (s : Site). P s.link) sites
all_obey P one sites a = all_so (λ (s : Site). IsRun s.link) (λ (s : Site). P s.link) (λ s b. one s.link b) sites a

obey : (P : Link → Type 0) → ((l : Link) → IsRun l → P l) → (hosts : List ℕ) (lines : List Line) → ArePlayable lines
    → AllByRecursion (λ (s : Site). P s.link) (world_after (new_world hosts) lines).sites
obey P one hosts lines p = all_obey P one (world_after (new_world hosts) lines).sites (links_run hosts lines p)

-- ### In order

abbrev ToHost : Link → Type 0
ToHost l = (n : ℕ) → InOrder (talk_of l.controller n) (talk_of l.host n)

abbrev ToController : Link → Type 0
ToController l = (n : ℕ) → InOrder (talk_of l.host n) (talk_of l.controller n)

pub to_host : (hosts : List ℕ) (lines : List Line) → ArePlayable lines
    → AllByRecursion (λ (s : Site). ToHost s.link) (world_after (new_world hosts) lines).sites
to_host = obey ToHost (λ l r. subst ToHost r.run.is (λ n. in_order_here new_line IsLine r.events r.run.allowed n))

pub to_controller : (hosts : List ℕ) (lines : List Line) → ArePlayable lines
    → AllByRecursion (λ (s : Site). ToController s.link) (world_after (new_world hosts) lines).sites
to_controller = obey ToController (λ l r. subst ToController r.run.is (λ n. in_order_there new_line IsLine r.events r.run.allowed n))

-- ### Chain faults

abbrev NoneAtController : Link → Type 0
NoneAtController l = (x : OnWire) (xs : List OnWire) → l.to_controller ≡ x ∷ xs → ended_by l.controller.side (Take x.frame) ≡ Some Chain → ⊥

abbrev NoneAtHost : Link → Type 0
NoneAtHost l = (x : OnWire) (xs : List OnWire) → l.to_host ≡ x ∷ xs → ended_by l.host.side (Take x.frame) ≡ Some Chain → ⊥

pub none_at_controller : (hosts : List ℕ) (lines : List Line) → ArePlayable lines
    → AllByRecursion (λ (s : Site). NoneAtController s.link) (world_after (new_world hosts) lines).sites
none_at_controller = obey NoneAtController (λ l r. subst NoneAtController r.run.is (λ x xs q. no_chain_here new_line IsLine r.events r.run.allowed x xs q))

pub none_at_host : (hosts : List ℕ) (lines : List Line) → ArePlayable lines
    → AllByRecursion (λ (s : Site). NoneAtHost s.link) (world_after (new_world hosts) lines).sites
none_at_host = obey NoneAtHost (λ l r. subst NoneAtHost r.run.is (λ x xs q. no_chain_there new_line IsLine r.events r.run.allowed x xs q))

-- ### One number

abbrev Agree : Link → Type 0
Agree l = l.controller.side.shdlc.phase ≡ Up → l.host.side.shdlc.phase ≡ Up → number_of l.controller ≡ number_of l.host

pub agree : (hosts : List ℕ) (lines : List Line) → ArePlayable lines → AllByRecursion (λ (s : Site). Agree s.link) (world_after (new_world hosts) lines).sites
agree = obey Agree (λ l r. subst Agree r.run.is (one_number new_line IsLine r.events r.run.allowed))

-- ### All delivered, and both up

abbrev pub DeliversToHost : Link → Type 0
DeliversToHost l =
    (events : List LinkEvent) → IsRunOf events l → IsQuiet l (losses_of new_line events) → AllDelivered (talk_now l.controller.side) (talk_now l.host.side)

abbrev pub DeliversToController : Link → Type 0
DeliversToController l =
    (events : List LinkEvent) → IsRunOf events l → IsQuiet l (losses_of new_line events) → AllDelivered (talk_now l.host.side) (talk_now l.controller.side)

abbrev pub Settles : Link → Type 0
Settles l = (events : List LinkEvent) → IsRunOf events l → IsSettled l (sure_of new_line events) → AreUpTogether l

pub delivers_to_host : (l : Link) → DeliversToHost l
delivers_to_host l events r =
    let P : Link → Type 0 = λ k. IsQuiet k (losses_of new_line events) → AllDelivered (talk_now k.controller.side) (talk_now k.host.side) in
    subst P r.is (all_here new_line IsLine events r.allowed)

pub delivers_to_controller : (l : Link) → DeliversToController l
delivers_to_controller l events r =
    let P : Link → Type 0 = λ k. IsQuiet k (losses_of new_line events) → AllDelivered (talk_now k.host.side) (talk_now k.controller.side) in
    subst P r.is (all_there new_line IsLine events r.allowed)

pub settles : (l : Link) → Settles l
settles l events r = subst (λ (k : Link). IsSettled k (sure_of new_line events) → AreUpTogether k) r.is (up_together new_line IsLine events r.allowed)

pub delivered_to_host : (hosts : List ℕ) (lines : List Line) → ArePlayable lines
    → AllByRecursion (λ (s : Site). DeliversToHost s.link) (world_after (new_world hosts) lines).sites
delivered_to_host = obey DeliversToHost (λ l r. delivers_to_host l)

pub delivered_to_controller : (hosts : List ℕ) (lines : List Line) → ArePlayable lines
    → AllByRecursion (λ (s : Site). DeliversToController s.link) (world_after (new_world hosts) lines).sites
delivered_to_controller = obey DeliversToController (λ l r. delivers_to_controller l)

pub settled : (hosts : List ℕ) (lines : List Line) → ArePlayable lines
    → AllByRecursion (λ (s : Site). Settles s.link) (world_after (new_world hosts) lines).sites
settled = obey Settles (λ l r. settles l)

-- ## The blocks in use at each end of a link, those set aside and those that are spare are 128

-- ### Messages

-- a message more leaves those before it whole
whole_front : (ms : List Message) (m : Message) (a : ℕ) → whole_among ms a ≤ whole_among (ms ++ m ∷ []) a
whole_front [] m a = omega arith
whole_front (x ∷ ms) m a = by_test (nat_le n a) (λ q. rw q (omega (arith, whole_front ms m (a - n)))) (λ q. rw q (omega arith)) where
  n : ℕ
  n = packet_count (length x.1)

-- ### One end

-- no more blocks are in use and set aside than there are, and nothing is sent in no session
pub record IsWithin (e : LinkEnd) : Type 0 where
  pub room : in_use e + e.aside ≤ 128
  pub forgot : IsNotUp e.shdlc → e.sent ≡ []

-- an end becomes one with its messages, of which no fewer are acknowledged
grown_within : (e f : LinkEnd) → f.sent ≡ e.sent → e.shdlc.session.acked ≤ f.shdlc.session.acked → f.aside ≡ e.aside → (IsNotUp f.shdlc → e.sent ≡ [])
    → IsWithin e → IsWithin f
grown_within e f sent acked aside forgot a =
    let less = need_less e.sent (whole_among e.sent e.shdlc.session.acked) (whole_among e.sent f.shdlc.session.acked)
    (whole_more e.sent e.shdlc.session.acked f.shdlc.session.acked acked) in
    let blocks : in_use f ≡ need_of_all (drop (whole_among e.sent f.shdlc.session.acked) e.sent) = grind arith in
    record { room = omega (arith, blocks, less, a.room, aside); forgot = λ no. sent ∙ forgot no }

-- it becomes one with the same session, messages and phase
same_within : (e f : LinkEnd) → f.sent ≡ e.sent → f.shdlc.session.acked ≡ e.shdlc.session.acked → f.shdlc.phase ≡ e.shdlc.phase → f.aside ≡ e.aside
    → IsWithin e → IsWithin f
same_within e f sent acked phase aside a = grind arith

shifted_within : (e f : LinkEnd) (ended began : Bool) → Shift e.shdlc f.shdlc ended began → SentAfter ended e f → f.aside ≡ e.aside → IsWithin e → IsWithin f
shifted_within e f ended began (Stays p q g) sent aside a = grown_within e f (grind arith) g.low aside (λ no. absurd (no g.is)) a
shifted_within e f ended began (Ends p q up down s) sent aside a = grind arith
shifted_within e f ended began (Renews p q up n) sent aside a = grind arith
shifted_within e f ended began (Begins p q down n) sent aside a = grind arith
shifted_within e f ended began (Rests p q down still s) sent aside a = grind arith

-- ### Turns

give_taken : (e : LinkEnd) (m : Message) → give_refusal e m ≡ None → (e.shdlc.phase ≡ Up) × (need m.1 ≤ spare e)
give_taken e m q = grind arith

given_within : (e : LinkEnd) (m : Message) → give_refusal e m ≡ None → IsWithin e → IsWithin (given e m)
given_within e m q a =
    let taken = give_taken e m q in
    let acked : ℕ = e.shdlc.session.acked in
    let less = need_less (e.sent ++ m ∷ []) (whole_among e.sent acked) (whole_among (e.sent ++ m ∷ []) acked) (whole_front e.sent m acked) in
    let more = need_more e.sent m (whole_among e.sent acked) (whole_few e.sent acked) in
    record { room = omega (arith, less, more, taken.1, a.room); forgot = λ no. absurd (no taken.0) }

pub turn_within : (e : LinkEnd) (t : Turn) → IsWithin e → IsWithin (turn e t)
turn_within e (Give m) a = by_option (give_refusal e m)
    (λ q. let is : turn e (Give m) ≡ given e m = rw q refl in subst IsWithin (sym is) (given_within e m q a))
    (λ why q. let is : turn e (Give m) ≡ e = rw q refl in subst IsWithin (sym is) a)
turn_within e (Hold held) a = grind arith
turn_within e FetchMessage a = same_within e (turn e FetchMessage) refl refl refl refl a
turn_within e SetAside a = grind arith
turn_within e Release a = record { room = omega (arith, a.room); forgot = a.forgot }

turns_within : (e : LinkEnd) (ts : List Turn) → IsWithin e → IsWithin (turned e ts)
turns_within e [] a = a
turns_within e (t ∷ ts) a = turns_within (turn e t) ts (turn_within e t a)

-- ### Frames that go out

pub sent_within : (e : LinkEnd) → IsWithin e → IsWithin (sent_all e)
sent_within e a = same_within e (sent_all e) refl (frames_acked most_frames e.shdlc) (after_frames-phase most_frames e.shdlc) refl a

-- ### Inputs

pub moved_aside : (e : LinkEnd) (b : Bool) (s : EndState) → (moved e b s).aside ≡ e.aside
moved_aside e b s = grind arith

moved_within : (e : LinkEnd) (b began : Bool) (s : EndState) → Shift e.shdlc s b began → IsWithin e → IsWithin (moved e b s)
moved_within e b began s shift a =
    shifted_within e (moved e b s) b began (subst (λ z. Shift e.shdlc z b began) (sym (moved_shdlc e b s)) shift) (sent_moved e b s) (moved_aside e b s) a

activated_within : (e : LinkEnd) (event : ActEvent) → IsWithin e → IsWithin (activated e event)
activated_within e event a = grind arith

heard_within : (e : LinkEnd) (c : Control) (b : Bool) → IsWithin e → IsWithin (cond b (heard e c) e)
heard_within e c false a = a
heard_within e c true a = by_test (is_faulty (taken e.shdlc c).session)
    (λ q. let is : heard e c ≡ put_down true e = rw q refl in subst IsWithin (sym is) (grind arith))
    (λ q. let ended : Bool = is_some (take_answer e.shdlc c).ended in
    let f : LinkEnd = moved e ended (taken e.shdlc c) in
    let b : IsWithin f = moved_within e ended (take_answer e.shdlc c).began (taken e.shdlc c) (taken_shift e.shdlc c) a in
    same_within f (heard e c) (rw q refl) (rw q refl) (rw q refl) (rw q refl) b)

took_within : (e : LinkEnd) (c : Control) → IsWithin e → IsWithin (took e c)
took_within e (ActFrame act again) a = activated_within e (ActTake act again) a
took_within e Clt a = same_within e (took e Clt) refl refl refl refl a
took_within e (I ns nr info) a = heard_within e (I ns nr info) (is_open e.role) a
took_within e (S kind nr) a = heard_within e (S kind nr) (is_open e.role) a
took_within e (Rset w caps) a = heard_within e (Rset w caps) (is_open e.role) a
took_within e Ua a = heard_within e Ua (is_open e.role) a

pub input_within : (e : LinkEnd) (i : LinkInput) → IsWithin e → IsWithin (after_input e i)
input_within e (Take c) a = took_within e c a
input_within e TakeUnknown a = same_within e (after_input e TakeUnknown) refl refl refl refl a
input_within e (TakeBroken fault) a = a
input_within e Tick a = grind arith
input_within e (Reset window) a = grind arith
input_within e (Start value) a = activated_within (moved e true (stopped e.shdlc)) (ActStart value) (grind arith)
input_within e Stop a = activated_within (moved e true (stopped e.shdlc)) ActStop (grind arith)
input_within e (FromNode t) a = turn_within e t a
input_within e Fetch a = grind arith

new_within : (e : LinkEnd) → IsWithin e → IsWithin (new_link_end (renewed e.role))
new_within e a = grind arith

-- ### Links

-- both ends are so
record AreWithin (l : Link) : Type 0 where
  near : IsWithin l.controller.side
  far : IsWithin l.host.side

here_within : (l : Link) (x : EndEvent) → AreWithin l → AreWithin (happens_at_controller l x)
here_within l x a = record {
  near = here_is IsWithin input_within turns_within sent_within new_within l x a.near;
  far = subst (λ (h : Rattle.link_laws.specs.messages.Links.NumberedEnd). IsWithin h.side) (sym (here_host l x)) a.far;
}

all_within : (l : Link) (xs : List EndEvent) → AreWithin l → AreWithin (all_at_controller l xs)
all_within l [] a = a
all_within l (x ∷ xs) a = all_within (happens_at_controller l x) xs (here_within l x a)

over : (l : Link) → AreWithin l → AreWithin (exchanged l)
over l a = record { near = a.far; far = a.near }

ticks_within : (l : Link) (ts : List Turn) (ending : Rattle.link_laws.specs.messages.Links.Ending) → AreWithin l
    → AreWithin (ticks_at_controller l ts ending)
ticks_within l ts ending a = record {
  near = tick_is IsWithin input_within turns_within sent_within new_within l ts ending a.near;
  far = subst (λ (h : Rattle.link_laws.specs.messages.Links.NumberedEnd). IsWithin h.side) (sym (tick_host l ts ending)) a.far;
}

event_within : (l : Link) (e : LinkEvent) → AreWithin l → AreWithin (happens l e)
event_within l (AtController x) a = here_within l x a
event_within l (AtHost x) a = over (happens_at_controller (exchanged l) x) (here_within (exchanged l) x (over l a))
event_within l (Ticks c events h) a =
    let near : Link = all_at_controller (ticks_at_controller (aged l) c.turns c.ending) events in
    let b : AreWithin near = all_within (ticks_at_controller (aged l) c.turns c.ending) events
    (ticks_within (aged l) c.turns c.ending (record { near = a.near; far = a.far })) in
    over (ticks_at_controller (exchanged near) h.turns h.ending) (ticks_within (exchanged near) h.turns h.ending (over near b))
event_within l (TicksWithout events h) a =
    let near : Link = all_at_controller (aged l) events in
    let b : AreWithin near = all_within (aged l) events (record { near = a.near; far = a.far }) in
    over (ticks_at_controller (exchanged near) h.turns h.ending) (ticks_within (exchanged near) h.turns h.ending (over near b))
event_within l (Activate power c id h) a =
    let near : Link = steps_at_controller l (Starts power) c.turns c.ending in
    over (steps_at_controller (exchanged near) (Starts id) h.turns h.ending)
    (here_within (exchanged near) (Step (Starts id) h.turns h.ending) (over near (here_within l (Step (Starts power) c.turns c.ending) a)))

after_within : (l : Link) (events : List LinkEvent) → AreWithin l → AreWithin (after_link_events l events)
after_within l [] a = a
after_within l (e ∷ events) a = after_within (happens l e) events (event_within l e a)

-- ### Worlds

pub near_shares : (hosts : List ℕ) (lines : List Line) → ArePlayable lines
    → AllByRecursion (λ (s : Site). SharesOut s.link.controller.side) (world_after (new_world hosts) lines).sites
near_shares = obey (λ l. SharesOut l.controller.side)
    (λ l r. subst (λ (k : Link). SharesOut k.controller.side) r.run.is
    (omega (arith, (after_within new_line r.events (grind arith)).near.room)))

pub far_shares : (hosts : List ℕ) (lines : List Line) → ArePlayable lines
    → AllByRecursion (λ (s : Site). SharesOut s.link.host.side) (world_after (new_world hosts) lines).sites
far_shares = obey (λ l. SharesOut l.host.side)
    (λ l r. subst (λ (k : Link). SharesOut k.host.side) r.run.is
    (omega (arith, (after_within new_line r.events (grind arith)).far.room)))
