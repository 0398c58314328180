-- Every run of a link over messages is projected: what is true of it, and what was delivered where nothing was lost.
use Rattle.std.specs.Prelude.{Some}
use Rattle.link_laws.proofs.Words.{ActStart, ActStop, Activate, AllAllowed, AllDelivered, AllShdlcAllowed as CoreAllAllowed, AreOwn, AreSendable, AreShort}
use Rattle.link_laws.proofs.Words.{AreTurns as CoreAreTurns, AsksReset, AtController, AtHost, Bare, BothDown, BothUp, CanStart, Chain, Clf, ClfAct, Comes}
use Rattle.link_laws.proofs.Words.{Control, CoreAreUpTogether, CoreAtController, CoreAtHost, CoreDeliver, CoreEndEvent, CoreInOrder, CoreIsAllowed, CoreLink}
use Rattle.link_laws.proofs.Words.{CoreTurn, EndEvent, Ending, FragmentsDelivered as CoreAllDelivered, InOrder, IsAllowed, IsBare, IsClf, IsEvent, IsFrontOf}
use Rattle.link_laws.proofs.Words.{IsLine, IsNode, IsOwn, IsQuiet, IsShdlcQuiet as CoreIsQuiet, IsShdlcStart as CoreIsStart, IsStart, IsUicc, Link, LinkEnd}
use Rattle.link_laws.proofs.Words.{LinkEvent, LinkTogether as AreUpTogether, List, Lose, Message, NextFrame, NoInput, Node, NumberedEnd, OnWire, Option, Role}
use Rattle.link_laws.proofs.Words.{ShdlcLinkEvent as CoreLinkEvent, Starts, Step as EndStep, Stops, Take, Talk, Tick as CoreTick}
use Rattle.link_laws.proofs.Words.{TickWithout as CoreTickWithout, Ticks, TicksWithout, Turn, Up, [], after_link_events, aged, all_at_controller, ap}
use Rattle.link_laws.proofs.Words.{append-nil, append_assoc, arith, core_after, core_aged, core_all, core_all_here, core_end, core_event, core_events}
use Rattle.link_laws.proofs.Words.{core_happens_here, core_here, core_of, core_past, core_step, core_tick, core_tick_rest, core_ticks_if_waiting}
use Rattle.link_laws.proofs.Words.{core_ticks_or_cut, ended_by, ended_talk, exchanged, false, fragments_of, good_messages_of, good_of, happens}
use Rattle.link_laws.proofs.Words.{happens_at_controller, is_active, is_faulty, is_open, leb-false, length, length-append, length-map, losses_of, map}
use Rattle.link_laws.proofs.Words.{messages_got, moved, nat_le, ne_eqb, new_link_end, new_numbered_end, no_talk, number_of, packet_bytes, packet_count}
use Rattle.link_laws.proofs.Words.{packets_are_counted, packets_of, refl, role_after, shdlc_exchanged as core_exchanged, shdlc_number_of as core_number_of}
use Rattle.link_laws.proofs.Words.{shdlc_session_of, started, steps_at_controller, stopped, subst, suc, sym, take, taken, talk_now, talk_of}
use Rattle.link_laws.proofs.Words.{ticks_at_controller, true, turned, whole_among, zero, ℕ, ◌++◌, ◌+◌, ◌-◌, ◌==◌, ◌∙◌, ◌∷◌, ◌≡◌, ◌≤◌}
use Rattle.hcp_packet.proofs.Joining.{good_messages_are_a_front, joined_again, whole_messages_have_come}
use Rattle.link_laws.specs.messages.Links.{CanCome}
use Rattle.link_laws.specs.messages.Settled.{IsSettled, sure_of}
use Rattle.link_laws.proofs.Cases.{by_test}
use Rattle.link_laws.proofs.machine.Sound.{whole_acked_before}
use Rattle.link_laws.proofs.messages.ActsInOrder.{LinkInOrder, in_order_aged, polite_of}
use Rattle.link_laws.proofs.messages.Finishing.{all_here-append, step_frame, step_idle, step_reset, step_restart, step_tick}
use Rattle.link_laws.proofs.messages.Project.{Says, Step, Tells, turned_role}
use Rattle.link_laws.proofs.messages.Steps.{FromHost, Rests, activated_role, core_first, no_fault_first, says_of, session-core}
use Rattle.link_laws.proofs.sending.TakenLemmas.{all_given}
use Rattle.link_laws.proofs.sessions.Data.{Below, bound}
use Rattle.link_laws.proofs.sessions.Quiet.{delivered_here, delivered_there}
use Rattle.link_laws.proofs.sessions.Resets.{up_together as core_up_together}
use Rattle.link_laws.proofs.sessions.Sending.{SafeLink}
use Rattle.link_laws.proofs.sessions.Steps.{after-append, agree, in_order_here, in_order_there, safe, safe_aged, safe_exchanged, safe_turns, tick_if_waiting}
use Rattle.link_laws.proofs.sessions.Steps.{tick_or_cut}

-- ## Every run of a link over messages is projected, and no chain fault comes in it

-- ### Lists of events

allowed-append : (es fs : List CoreLinkEvent) → CoreAllAllowed es → CoreAllAllowed fs → CoreAllAllowed (es ++ fs)
allowed-append [] fs a b = b
allowed-append (CoreAtController e ∷ es) fs a b = (a.0, allowed-append es fs a.1 b)
allowed-append (CoreAtHost e ∷ es) fs a b = (a.0, allowed-append es fs a.1 b)
allowed-append (CoreTick c turns h ∷ es) fs a b = (a.0, allowed-append es fs a.1 b)
allowed-append (CoreTickWithout turns h ∷ es) fs a b = (a.0, allowed-append es fs a.1 b)

after_here : (c : CoreLink) (es : List CoreEndEvent) → core_after c (map CoreAtController es) ≡ core_all_here c es
after_here c [] = refl
after_here c (e ∷ es) = after_here (core_happens_here c e) es

after_there : (c : CoreLink) (es : List CoreEndEvent) → core_after c (map CoreAtHost es) ≡ core_exchanged (core_all_here (core_exchanged c) es)
after_there c [] = refl
after_there c (e ∷ es) = after_there (core_exchanged (core_happens_here (core_exchanged c) e)) es

-- ### What is allowed there

abbrev pub AreAllowed : List CoreEndEvent → Type 0
AreAllowed [] = Unit {0}
AreAllowed (e ∷ es) = CoreIsAllowed e × AreAllowed es

-- what is allowed at an end, and in a tick where no frame is taken
pub record Both (es : List CoreEndEvent) : Type 0 where
  pub allowed : AreAllowed es
  pub turns : CoreAreTurns es

pub own_turns : (l : Link) (e : EndEvent) → Rests l.controller.side.shdlc → IsOwn e → IsAllowed l e → CoreAreTurns (core_here l e)
own_turns l e r o a = grind arith

pub rest_both : (e : LinkEnd) (ts : List Turn) (ending : Ending) → Both (core_tick_rest e ts ending)
rest_both e ts ending = grind arith

-- ### What is known between events

-- both ends are as they should be
pub record Good (l : Link) : Type 0 where
  pub controller : Tells l.controller
  pub host : Tells l.host
  pub in_order : LinkInOrder l

-- in each session what was accepted is a front of what was given, both ways
pub record Ordered (c : CoreLink) : Type 0 where
  pub here : FromHost c
  pub there : FromHost (core_exchanged c)

pub record Event (l m : Link) (c : CoreLink) (es : List CoreLinkEvent) : Type 0 where
  pub core : core_of m ≡ c
  pub good : Good m
  pub allowed : CoreAllAllowed es

-- a link over fragments that comes of a start
pub record Reached (c : CoreLink) : Type 0 where
  pub start : CoreLink
  pub starts : CoreIsStart start
  pub events : List CoreLinkEvent
  pub allowed : CoreAllAllowed events
  pub is : core_after start events ≡ c

ordered : (c : CoreLink) → Reached c → Ordered c
ordered c r =
    subst Ordered r.is
    (record {
      here = λ n. in_order_there r.start r.starts r.events r.allowed n;
      there = λ n. in_order_here r.start r.starts r.events r.allowed n;
    })

pub safe_reached : (c : CoreLink) → Reached c → SafeLink 0 0 c
safe_reached c r = let P : CoreLink → Type 0 = λ d. SafeLink 0 0 d in subst P r.is (safe r.start r.starts r.events r.allowed)

-- an end between events
pub rests_of : (kn kf : ℕ) (c : CoreLink) → SafeLink kn kf c → Rests c.controller.side
rests_of kn kf c s = record { due = s.n_due; none = s.n_none; own = s.n_windows.own }

pub reached_more : (c : CoreLink) (es : List CoreLinkEvent) → CoreAllAllowed es → Reached c → Reached (core_after c es)
reached_more c es a r =
    record {
      start = r.start;
      starts = r.starts;
      events = r.events ++ es;
      allowed = allowed-append r.events es r.allowed a;
      is = after-append r.start r.events es ∙ ap (λ d. core_after d es) r.is;
    }

-- whatever frame comes first
pub from_host : (c : CoreLink) → Reached c → FromHost (core_happens_here c (CoreDeliver []))
from_host c r =
    let es : List CoreLinkEvent = CoreAtController (CoreDeliver []) ∷ [] in
    (ordered (core_after c es) (reached_more c es (tt, tt) r)).here

pub from_controller : (c : CoreLink) → Reached c → FromHost (core_happens_here (core_exchanged c) (CoreDeliver []))
from_controller c r =
    let es : List CoreLinkEvent = CoreAtHost (CoreDeliver []) ∷ [] in
    (ordered (core_after c es) (reached_more c es (tt, tt) r)).there

-- ### Steps

-- a step that takes no frame
pub step_own : (l : Link) (comes : Comes) (ts : List Turn) (ending : Ending) → IsOwn (EndStep comes ts ending) → CanCome l comes → IsNode l ts ending
    → Tells l.controller → Rests l.controller.side.shdlc
    → Step l (steps_at_controller l comes ts ending) (core_all_here (core_of l) (core_step l comes ts ending))
step_own l NextFrame ts ending o a n h r = absurd o
step_own l (AsksReset window) ts ending o a n h r = step_reset l window ts ending n.0 n.1 h r
step_own l (Starts value) ts ending o a n h r = let h0 = step_restart l (ActStart value) ts ending n.0 n.1 h (λ z. grind arith) in grind arith
step_own l Stops ts ending o a n h r = let h0 = step_restart l ActStop ts ending n.0 n.1 h (λ z. grind arith) in grind arith
step_own l NoInput ts ending o a n h r = step_idle l ts ending n.0 n.1 h r

pub step_here : (l : Link) (e : EndEvent) → IsAllowed l e → Tells l.controller → Tells l.host → LinkInOrder l → Rests l.controller.side.shdlc
    → FromHost (core_happens_here (core_of l) (CoreDeliver [])) → Step l (happens_at_controller l e) (core_all_here (core_of l) (core_here l e))
step_here l (Lose why) a h t z r from = grind arith
step_here l (EndStep NextFrame ts ending) a h t z r from =
    step_frame l ts ending a.1.0 a.1.1 (polite_of l.controller.side l.host.side.role l.to_controller l.to_host z h.now.closed) h t r from
step_here l (EndStep (AsksReset window) ts ending) a h t z r from = step_own l (AsksReset window) ts ending tt a.0 a.1 h r
step_here l (EndStep (Starts value) ts ending) a h t z r from = step_own l (Starts value) ts ending tt a.0 a.1 h r
step_here l (EndStep Stops ts ending) a h t z r from = step_own l Stops ts ending tt a.0 a.1 h r
step_here l (EndStep NoInput ts ending) a h t z r from = step_own l NoInput ts ending tt a.0 a.1 h r

pub own_here : (l : Link) (e : EndEvent) → IsOwn e → IsAllowed l e → Tells l.controller → Rests l.controller.side.shdlc
    → Step l (happens_at_controller l e) (core_all_here (core_of l) (core_here l e))
own_here l (Lose why) o a h r = absurd o
own_here l (EndStep comes ts ending) o a h r = step_own l comes ts ending o a.0 a.1 h r

-- what happens at the controller's end in a tick
pub record All (l : Link) (es : List EndEvent) : Type 0 where
  pub step : Step l (all_at_controller l es) (core_all_here (core_of l) (core_all l es))
  pub turns : CoreAreTurns (core_all l es)

pub all_step : (kf : ℕ) (l : Link) (es : List EndEvent) → AreOwn l es → Tells l.controller → SafeLink 0 kf (core_of l) → All l es
all_step kf l [] a h s = record { step = record { core = refl; tells = h; host = refl; in_order = λ z. z }; turns = tt }
all_step kf l (e ∷ es) a h s =
    let r = rests_of 0 kf (core_of l) s in
    let one = own_here l e a.0 a.1 h r in
    let m : Link = happens_at_controller l e in
    let P : CoreLink → Type 0 = λ c. SafeLink 0 kf c in
    let more = all_step kf m es a.2 one.tells (subst P (sym one.core) (safe_turns kf (core_here l e) (core_of l) (own_turns l e r a.0 a.1) s)) in
    grind arith

pub tells_same : (h k : NumberedEnd) → h ≡ k → Tells k → Tells h
tells_same h k q t = subst Tells (sym q) t

-- the link seen from the other end
pub seen : (n : Link) → LinkInOrder n → LinkInOrder (exchanged n)
seen n z = grind arith

-- ### Events

step_event : (l : Link) (e : EndEvent) → IsAllowed l e → Good l → Reached (core_of l)
    → Event l (happens_at_controller l e) (core_after (core_of l) (map CoreAtController (core_here l e))) (map CoreAtController (core_here l e))
step_event l e a g r =
    let q = after_here (core_of l) (core_here l e) in
    let rest = rests_of 0 0 (core_of l) (safe_reached (core_of l) r) in
    let st = step_here l e a g.controller g.host g.in_order rest (from_host (core_of l) r) in
    grind arith

there_event : (l : Link) (e : EndEvent) → IsAllowed (exchanged l) e → Good l → Reached (core_of l)
    → Event l (exchanged (happens_at_controller (exchanged l) e)) (core_after (core_of l) (map CoreAtHost (core_here (exchanged l) e)))
    (map CoreAtHost (core_here (exchanged l) e))
there_event l e a g r =
    let k : Link = exchanged l in
    let q = after_there (core_of l) (core_here k e) in
    let n : Link = happens_at_controller k e in
    let rest = rests_of 0 0 (core_of k) (safe_exchanged 0 0 (core_of l) (safe_reached (core_of l) r)) in
    let st = step_here k e a g.host g.controller (seen l g.in_order) rest (from_controller (core_of l) r) in
    grind arith

-- a CLF that was started isn't active, whatever came after in the step
pub record IsIdleClf (r : Role) : Type 0 where
  pub clf : ClfAct
  pub is : r ≡ Clf clf
  pub idle : is_active clf.phase ≡ false

pub started_clf : (l : Link) (power : ℕ) (ts : List Turn) (ending : Ending) → IsClf l.controller.side.role
    → IsIdleClf (steps_at_controller l (Starts power) ts ending).controller.side.role
started_clf l power ts ending i = (let h0 = (clf l.controller.side.role i refl) in grind arith)
  where
    g : LinkEnd
    g = started l.controller.side power

    clf : (r : Role) → IsClf r → l.controller.side.role ≡ r → IsIdleClf (turned g ts).role
    clf (Clf s) i q =
        let after_link_events : (turned g ts).role ≡ role_after l.controller.side.role (ActStart power) =
        turned_role g ts ∙ activated_role (moved l.controller.side true (stopped l.controller.side.shdlc)) (ActStart power) in
        record { clf = _; is = after_link_events ∙ ap (λ r. role_after r (ActStart power)) q; idle = refl }
    clf _ i q = absurd i

-- activation may begin at a CLF
pub clf_starts : (r f : Role) → IsClf r → CanStart r f
clf_starts r f i = grind arith

pub can_start : (r f : Role) → IsUicc r → IsIdleClf f → CanStart r f
can_start r f u k = grind arith

-- what is known once the host's end has had its tick
record Ticked (n : Link) (c : CoreLink) : Type 0 where
  pub core : core_of n ≡ c
  pub good : Good n

-- the controller's end of l has had its tick, by which l has become m, and its core x
record HasTicked (l m : Link) (x : CoreLink) : Type 0 where
  host : m.host ≡ l.host
  core : core_of m ≡ x
  safe : SafeLink 0 1 (core_of m)
  near : Tells m.controller
  far : Tells l.host
  wires : LinkInOrder m

-- the host's end has its tick then
ticked_there : (l m : Link) (x : CoreLink) (h : Node) → HasTicked l m x → IsNode (exchanged m) h.turns h.ending
    → Ticked (exchanged (ticks_at_controller (exchanged m) h.turns h.ending))
    (core_after (core_exchanged (core_ticks_or_cut (core_tick l.host.side h.turns h.ending) (core_exchanged x)))
    (map CoreAtHost (core_tick_rest l.host.side h.turns h.ending)))
ticked_there l m x h s a =
    let n : Link = ticks_at_controller (exchanged m) h.turns h.ending in
    let three = step_tick (exchanged m) h.turns h.ending a.0 a.1 (tells_same m.host l.host s.host s.far)
    (rests_of 1 0 (core_of (exchanged m)) (safe_exchanged 0 1 (core_of m) s.safe)) in
    let u : Option (List CoreTurn) = core_tick l.host.side h.turns h.ending in
    record {
      core = ap core_exchanged
          (grind arith)
          ∙ sym (after_there (core_exchanged (core_ticks_or_cut u (core_exchanged x))) (core_tick_rest l.host.side h.turns h.ending));
      good = record { controller = tells_same n.host m.controller three.host s.near; host = three.tells; in_order = seen n (three.in_order (seen m s.wires)) };
    }

pub event_step : (l : Link) (e : LinkEvent) → IsEvent l e → Good l → Reached (core_of l)
    → Event l (happens l e) (core_after (core_of l) (core_event l e)) (core_event l e)
event_step l (AtController e) a g r = step_event l e a g r
event_step l (AtHost e) a g r = there_event l e a g r
event_step l (Ticks c es h) a g r =
    let s0 = safe_aged (core_of l) (safe_reached (core_of l) r) in
    let near : Link = ticks_at_controller (aged l) c.turns c.ending in
    let one = step_tick (aged l) c.turns c.ending a.0.0 a.0.1 g.controller (rests_of 1 1 (core_of (aged l)) s0) in
    let rest : List CoreEndEvent = core_tick_rest l.controller.side c.turns c.ending in
    let t : Option (List CoreTurn) = core_tick l.controller.side c.turns c.ending in
    let start : CoreLink = core_ticks_or_cut t (core_aged (core_of l)) in
    let s1 = safe_turns 1 rest start (rest_both l.controller.side c.turns c.ending).turns (tick_or_cut 1 t (core_aged (core_of l)) s0) in
    let P : CoreLink → Type 0 = λ d. SafeLink 0 1 d in
    let near_safe : SafeLink 0 1 (core_of near) = subst P (sym one.core) s1 in
    let all = all_step 1 near es a.1 one.tells near_safe in
    let two = all.step in
    let m : Link = all_at_controller near es in
    let has_ticked : HasTicked l m (core_all_here start (rest ++ core_all near es)) = record {
      host = two.host ∙ one.host;
      core = two.core ∙ (ap (λ d. core_all_here d (core_all near es)) one.core ∙ sym (all_here-append start rest (core_all near es)));
      safe = subst P (sym two.core) (safe_turns 1 (core_all near es) (core_of near) all.turns near_safe);
      near = two.tells;
      far = g.host;
      wires = two.in_order (one.in_order (in_order_aged l.controller.side.role l.host.side.role l.to_controller l.to_host g.in_order));
    } in
    let three = ticked_there l m _ h has_ticked a.2 in
    let there : List CoreEndEvent = core_tick_rest l.host.side h.turns h.ending in
    grind arith
event_step l (TicksWithout es h) a g r =
    let s0 = safe_aged (core_of l) (safe_reached (core_of l) r) in
    let near : Link = aged l in
    let kept : core_ticks_if_waiting (core_aged (core_of l)) ≡ core_of near = rw a.0 refl in
    let P : CoreLink → Type 0 = λ d. SafeLink 0 1 d in
    let near_safe : SafeLink 0 1 (core_of near) = subst P kept (tick_if_waiting 1 (core_aged (core_of l)) s0) in
    let all = all_step 1 near es a.1 g.controller near_safe in
    let m : Link = all_at_controller near es in
    let has_ticked : HasTicked l m (core_all_here (core_ticks_if_waiting (core_aged (core_of l))) (core_all near es)) = record {
      host = all.step.host;
      core = all.step.core ∙ ap (λ d. core_all_here d (core_all near es)) (sym kept);
      safe = subst P (sym all.step.core) (safe_turns 1 (core_all near es) (core_of near) all.turns near_safe);
      near = all.step.tells;
      far = g.host;
      wires = all.step.in_order (in_order_aged l.controller.side.role l.host.side.role l.to_controller l.to_host g.in_order);
    } in
    let three = ticked_there l m _ h has_ticked a.2 in
    let there : List CoreEndEvent = core_tick_rest l.host.side h.turns h.ending in
    grind arith
event_step l (Activate power c id h) a g r =
    let x : EndEvent = EndStep (Starts power) c.turns c.ending in
    let y : EndEvent = EndStep (Starts id) h.turns h.ending in
    let near : Link = happens_at_controller l x in
    let es : List CoreLinkEvent = map CoreAtController (core_here l x) in
    let fs : List CoreLinkEvent = map CoreAtHost (core_here (exchanged near) y) in
    let clf : CanStart l.controller.side.role l.host.side.role = clf_starts l.controller.side.role l.host.side.role a.0 in
    let one = step_event l x (clf, a.2) g r in
    let host : near.host ≡ l.host = (step_own l (Starts power) c.turns c.ending tt clf a.2 g.controller
    (rests_of 0 0 (core_of l) (safe_reached (core_of l) r))).host in
    let Q : NumberedEnd → Type 0 = λ z. IsUicc z.side.role × IsNode (exchanged (record l { host = z })) h.turns h.ending in
    let there : Q near.host = subst Q (sym host) (a.1, a.3) in
    let starts : CanStart near.host.side.role near.controller.side.role =
    can_start near.host.side.role near.controller.side.role there.0 (started_clf l power c.turns c.ending a.0) in
    let two = there_event near y (starts, there.1) one.good (subst Reached (sym one.core) (reached_more (core_of l) es one.allowed r)) in
    record {
      core = two.core ∙ (ap (λ d. core_after d fs) one.core ∙ sym (after-append (core_of l) es fs));
      good = two.good;
      allowed = allowed-append es fs one.allowed two.allowed;
    }

-- ### Runs

pub record Run (l m : Link) (c : CoreLink) (es : List CoreLinkEvent) : Type 0 where
  pub core : core_of m ≡ c
  pub good : Good m
  pub reached : Reached c
  pub allowed : CoreAllAllowed es

pub run : (events : List LinkEvent) (l : Link) → AllAllowed l events → Good l → Reached (core_of l)
    → Run l (after_link_events l events) (core_after (core_of l) (core_events l events)) (core_events l events)
run [] l a g r = record { core = refl; good = g; reached = r; allowed = tt }
run (e ∷ es) l a g r =
    let st = event_step l e a.0 g r in
    let more = run es (happens l e) a.1 st.good (subst Reached (sym st.core) (reached_more (core_of l) (core_event l e) st.allowed r)) in
    let q : core_after (core_of (happens l e)) (core_events (happens l e) es) ≡ core_after (core_of l) (core_event l e ++ core_events (happens l e) es) =
    ap (λ d. core_after d (core_events (happens l e) es)) st.core ∙ sym (after-append (core_of l) (core_event l e) (core_events (happens l e) es)) in
    record {
      core = more.core ∙ q;
      good = more.good;
      reached = subst Reached q more.reached;
      allowed = allowed-append (core_event l e) (core_events (happens l e) es) st.allowed more.allowed;
    }

-- ## What is true of every run of a link over messages

bare_tells : Tells (new_numbered_end (new_link_end Bare))
bare_tells = grind arith

pub start_good : (l : Link) → IsStart l → Good l
start_good l a = grind arith

pub start_reached : (l : Link) → IsStart l → Reached (core_of l)
start_reached l IsBare = record { start = core_of l; starts = BothUp; events = []; allowed = tt; is = refl }
start_reached l IsLine = record { start = core_of l; starts = BothDown; events = []; allowed = tt; is = refl }

pub from_start : (l : Link) → IsStart l → (events : List LinkEvent) → AllAllowed l events
    → Run l (after_link_events l events) (core_after (core_of l) (core_events l events)) (core_events l events)
from_start l s events a = run events l a (start_good l s) (start_reached l s)

pub core_starts : (l : Link) → IsStart l → CoreIsStart (core_of l)
core_starts l IsBare = BothUp
core_starts l IsLine = BothDown

pub allowed : (l : Link) → IsStart l → (events : List LinkEvent) → AllAllowed l events → CoreAllAllowed (core_events l events)
allowed l s events a = (from_start l s events a).allowed

pub projected : (l : Link) → IsStart l → (events : List LinkEvent) → AllAllowed l events
    → core_of (after_link_events l events) ≡ core_after (core_of l) (core_events l events)
projected l s events a = (from_start l s events a).core

pub reached : (l : Link) → IsStart l → (events : List LinkEvent) (a : AllAllowed l events) → Reached (core_of (after_link_events l events))
reached l s events a = let r = from_start l s events a in subst Reached (sym r.core) r.reached

-- ### In order

pub sendable : (ms : List Message) → AreShort ms → AreSendable ms
sendable [] h = tt
sendable (m ∷ ms) h = (h.0.0, sendable ms h.1)

-- of two fronts the shorter one is a front of the other
front_of_front : {X : Type 0} (xs ys all : List X) → IsFrontOf xs all → IsFrontOf ys all → length xs ≤ length ys → IsFrontOf xs ys
front_of_front [] ys all a b i = (ys, refl)
front_of_front (x ∷ xs) [] all a b i = absurd (omega (arith, i))
front_of_front (x ∷ xs) (y ∷ ys) [] a b i = absurd (let z = a.1 in cc)
front_of_front (x ∷ xs) (y ∷ ys) (z ∷ all) a b i =
    let same : x ≡ y = cc in
    let f = front_of_front xs ys all (a.0, cc) (b.0, cc) (omega (arith, i)) in
    (f.0, ap (λ w. w ∷ (xs ++ f.0)) same ∙ ap (λ ws. y ∷ ws) f.1)

taken_front : (n : ℕ) (ms : List Message) → IsFrontOf (fragments_of (take n ms)) (fragments_of ms)
taken_front zero ms = (fragments_of ms, refl)
taken_front (suc n) [] = ([], refl)
taken_front (suc n) (m ∷ ms) =
    let f = taken_front n ms in
    (f.0, append_assoc (map packet_bytes (packets_of m.0 m.1)) (fragments_of (take n ms)) f.0 ∙ ap (λ fs. map packet_bytes (packets_of m.0 m.1) ++ fs) f.1)

pub in_messages : (s r : Talk) → Says s → CoreInOrder s.session r.session → InOrder s r
in_messages s r says o =
    let front : IsFrontOf r.session.acc (fragments_of s.sent) = (o.front.0, o.front.1 ∙ says.out) in
    let given : messages_got r.session ≡ good_messages_of r.session.acc = ap good_of (all_given s.sent r.session.acc says.short front) in
    let k : ℕ = whole_among s.sent s.session.acked in
    let part : IsFrontOf (fragments_of (take k s.sent)) r.session.acc =
    front_of_front (fragments_of (take k s.sent)) r.session.acc (fragments_of s.sent) (taken_front k s.sent) front
    (omega (arith, whole_acked_before s.sent s.session.acked, o.acked)) in
    record {
      got = let f = good_messages_are_a_front s.sent r.session.acc (sendable s.sent says.short) front in (f.0, ap (λ ms. ms ++ f.0) given ∙ f.1);
      acked =
          let f = whole_messages_have_come (take k s.sent) r.session.acc (sendable (take k s.sent) (short_take k s.sent says.short)) part in
          (f.0, f.1 ∙ sym given);
    }
  where
    short_take : (n : ℕ) (ms : List Message) → AreShort ms → AreShort (take n ms)
    short_take zero ms h = tt
    short_take (suc n) [] h = tt
    short_take (suc n) (m ∷ ms) h = (h.0, short_take n ms h.1)

pub in_order_here_of_whole : (l : Link) → IsStart l → (events : List LinkEvent) → AllAllowed l events → (n : ℕ)
    → InOrder (talk_of (after_link_events l events).controller n) (talk_of (after_link_events l events).host n)
in_order_here_of_whole l s events a n =
    let m = after_link_events l events in
    let o = (ordered (core_of m) (reached l s events a)).there n in
    in_messages (talk_of m.controller n) (talk_of m.host n) (says_of m.controller n ((from_start l s events a).good).controller)
    (subst (λ z. CoreInOrder z (talk_of m.host n).session) (session-core m.controller n)
    (subst (λ r. CoreInOrder (shdlc_session_of (core_end m.controller) n) r) (session-core m.host n) o))

pub in_order_there_of_whole : (l : Link) → IsStart l → (events : List LinkEvent) → AllAllowed l events → (n : ℕ)
    → InOrder (talk_of (after_link_events l events).host n) (talk_of (after_link_events l events).controller n)
in_order_there_of_whole l s events a n =
    let m = after_link_events l events in
    let o = (ordered (core_of m) (reached l s events a)).here n in
    in_messages (talk_of m.host n) (talk_of m.controller n) (says_of m.host n ((from_start l s events a).good).host)
    (subst (λ z. CoreInOrder z (talk_of m.controller n).session) (session-core m.host n)
    (subst (λ r. CoreInOrder (shdlc_session_of (core_end m.host) n) r) (session-core m.controller n) o))

-- ### No chain fault

pub not_chain : (e : LinkEnd) (c : Control) → (is_open e.role ≡ true → is_faulty (taken e.shdlc c).session ≡ false) → ended_by e (Take c) ≡ Some Chain → ⊥
not_chain e c f q = grind arith

pub no_chain_here : (l : Link) → IsStart l → (events : List LinkEvent) → AllAllowed l events → (x : OnWire) (xs : List OnWire)
    → (after_link_events l events).to_controller ≡ x ∷ xs
    → ended_by (after_link_events l events).controller.side (Take x.frame) ≡ Some Chain → ⊥
no_chain_here l s events a x xs q =
    let m = after_link_events l events in
    let g = (from_start l s events a).good in
    not_chain m.controller.side x.frame
    (λ o. no_fault_first m x xs q g.controller g.host o (subst FromHost (core_first (core_of m) [] x xs q) (from_host (core_of m) (reached l s events a))))

pub no_chain_there : (l : Link) → IsStart l → (events : List LinkEvent) → AllAllowed l events → (x : OnWire) (xs : List OnWire)
    → (after_link_events l events).to_host ≡ x ∷ xs
    → ended_by (after_link_events l events).host.side (Take x.frame) ≡ Some Chain → ⊥
no_chain_there l s events a x xs q =
    let m = after_link_events l events in
    let k : Link = exchanged m in
    let g = (from_start l s events a).good in
    not_chain m.host.side x.frame
    (λ o. no_fault_first k x xs q g.host g.controller o
    (subst FromHost (core_first (core_of k) [] x xs q) (from_controller (core_of m) (reached l s events a))))

-- ### One number

pub one_number : (l : Link) → IsStart l → (events : List LinkEvent) → AllAllowed l events
    → (after_link_events l events).controller.side.shdlc.phase ≡ Up → (after_link_events l events).host.side.shdlc.phase ≡ Up
    → number_of (after_link_events l events).controller ≡ number_of (after_link_events l events).host
one_number l s events a p q =
    let r = reached l s events a in
    let P : CoreLink → Type 0 = λ c. c.controller.side.phase ≡ Up → c.host.side.phase ≡ Up → core_number_of c.controller ≡ core_number_of c.host in
    subst P r.is (agree r.start r.starts r.events r.allowed) p q

-- a session that goes on has a number that no ended one has
fresh_past : (past : List (ℕ × Talk)) (n : ℕ) → Below n (core_past past) → ended_talk past n ≡ no_talk
fresh_past [] n b = refl
fresh_past (x ∷ xs) n b = let d : (n == x.0) ≡ false = ne_eqb n x.0 (λ z. omega (arith, z, b.0)) in rw d (fresh_past xs n b.1)

pub new_number : (h : NumberedEnd) → h.side.shdlc.phase ≡ Up → Below (bound (core_end h)) (core_past h.past) → ended_talk h.past (number_of h) ≡ no_talk
new_number h up b = fresh_past h.past (number_of h) (rw up at b)

pub new_number_here : (l : Link) → IsStart l → (events : List LinkEvent) → AllAllowed l events → (after_link_events l events).controller.side.shdlc.phase ≡ Up
    → ended_talk (after_link_events l events).controller.past (number_of (after_link_events l events).controller) ≡ no_talk
new_number_here l s events a up =
    let r = reached l s events a in
    let P : CoreLink → Type 0 = λ c. Below (bound c.controller) c.controller.past in
    new_number (after_link_events l events).controller up (subst P r.is (safe r.start r.starts r.events r.allowed).n_past)

pub new_number_there : (l : Link) → IsStart l → (events : List LinkEvent) → AllAllowed l events → (after_link_events l events).host.side.shdlc.phase ≡ Up
    → ended_talk (after_link_events l events).host.past (number_of (after_link_events l events).host) ≡ no_talk
new_number_there l s events a up =
    let r = reached l s events a in
    let P : CoreLink → Type 0 = λ c. Below (bound c.host) c.host.past in
    new_number (after_link_events l events).host up (subst P r.is (safe r.start r.starts r.events r.allowed).f_past)

-- ## What was delivered where nothing was lost

-- where all fragments are there, all messages are
whole_all : (ms : List Message) (n : ℕ) → length (fragments_of ms) ≤ n → whole_among ms n ≡ length ms
whole_all [] n i = refl
whole_all (m ∷ ms) n i =
    by_test {P = whole_among (m ∷ ms) n ≡ length (m ∷ ms)} (nat_le (packet_count (length m.1)) n)
    (λ q. rw q (ap suc ((whole_all ms (n - packet_count (length m.1))) (omega (arith, i, count)))))
    (λ q. absurd (let z = leb-false (packet_count (length m.1)) n q in omega (arith, i, count, z)))
  where
    count : length (fragments_of (m ∷ ms)) ≡ packet_count (length m.1) + length (fragments_of ms)
    count =
        let b = length-map (packets_of m.0 m.1) packet_bytes ∙ packets_are_counted m.0 m.1 in
        omega (arith, length-append (map packet_bytes (packets_of m.0 m.1)) (fragments_of ms), b)

in_messages_of_quiet : (s r : Talk) → Says s → CoreAllDelivered s.session r.session → AllDelivered s r
in_messages_of_quiet s r says d =
    let all : r.session.acc ≡ fragments_of s.sent = d.accepted ∙ says.out in
    let given : messages_got r.session ≡ good_messages_of r.session.acc =
    ap good_of (all_given s.sent r.session.acc says.short ([], append-nil r.session.acc ∙ all)) in
    record {
      got = given ∙ (ap good_messages_of all ∙ ap good_of (joined_again s.sent (sendable s.sent says.short)));
      acked = whole_all s.sent s.session.acked (omega (arith, (d.acked ∙ ap (λ (fs : List (List ℕ)). length fs) says.out)));
    }

quiet_core : (l : Link) → IsStart l → (events : List LinkEvent) → AllAllowed l events → IsQuiet (after_link_events l events) (losses_of l events)
    → CoreIsQuiet (core_after (core_of l) (core_events l events)) (losses_of l events)
quiet_core l s events a q = let h0 = losses_of l events in let h1 = projected l s events a in grind arith

pub all_here : (l : Link) → IsStart l → (events : List LinkEvent) → AllAllowed l events → IsQuiet (after_link_events l events) (losses_of l events)
    → AllDelivered (talk_now (after_link_events l events).controller.side) (talk_now (after_link_events l events).host.side)
all_here l s events a q =
    let m = after_link_events l events in
    let d = subst (λ c. CoreAllDelivered c.controller.side.session c.host.side.session) (sym (projected l s events a))
    (delivered_here (core_of l) (core_starts l s) (core_events l events) (allowed l s events a) (quiet_core l s events a q)) in
    in_messages_of_quiet (talk_now m.controller.side) (talk_now m.host.side) (from_start l s events a).good.controller.now.says d

pub all_there : (l : Link) → IsStart l → (events : List LinkEvent) → AllAllowed l events → IsQuiet (after_link_events l events) (losses_of l events)
    → AllDelivered (talk_now (after_link_events l events).host.side) (talk_now (after_link_events l events).controller.side)
all_there l s events a q =
    let m = after_link_events l events in
    let d = subst (λ c. CoreAllDelivered c.host.side.session c.controller.side.session) (sym (projected l s events a))
    (delivered_there (core_of l) (core_starts l s) (core_events l events) (allowed l s events a) (quiet_core l s events a q)) in
    in_messages_of_quiet (talk_now m.host.side) (talk_now m.controller.side) (from_start l s events a).good.host.now.says d

-- both ends are up after a reset that nothing disturbed
pub up_together : (l : Link) → IsStart l → (events : List LinkEvent) → AllAllowed l events → IsSettled (after_link_events l events) (sure_of l events)
    → AreUpTogether (after_link_events l events)
up_together l s events a q =
    let p = projected l s events a in
    let up : CoreAreUpTogether (core_of (after_link_events l events)) =
    subst CoreAreUpTogether (sym p) (core_up_together (core_of l) (core_starts l s) (core_events l events) (allowed l s events a) (grind arith)) in
    record { controller = up.controller; host = up.host; number = up.number }
