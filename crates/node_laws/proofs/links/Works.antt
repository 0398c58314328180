-- What nodes decide on and send may be sent, so what a node does in a step is what it may do to its ends.
use Rattle.node_laws.proofs.Words.{About, AllByRecursion, AllByRecursion-get, Answer, AreSendable, AreSendableTurns, Ask, Asks, AtEnd, Bool, Clear, Command}
use Rattle.node_laws.proofs.Words.{Commit, Commits, Core, Creation, Decision, Deed, Delete, Desk, FetchMessage, Give, HciTables, Hold, Init, IsAnswered}
use Rattle.node_laws.proofs.Words.{IsSendable, LinkInput, LinkView, List, Message, NodeInput, None, OfHost, Option, Orders, Port, Release, Releases, Removed}
use Rattle.node_laws.proofs.Words.{Reset, Response, Sends, SetAside, SetsErrors, Some, Tells, TimePasses, Turn, Waits, Work, [], after_sessions, after_turn}
use Rattle.node_laws.proofs.Words.{agreed, all_changed, all_come, all_done, all_map, all_owed, all_owed_hold, all_synced_hold, answer_of, answers_on, arith}
use Rattle.node_laws.proofs.Words.{body_in, by_option, by_test, commit_deeds, commits_and_tells, controller_deeds, controller_holds, creation_in, decided}
use Rattle.node_laws.proofs.Words.{decided_holds, decision_deeds, deeds_of, done, end_view, ends_of, finds_room, flat_map, forgets, forgotten, forgotten_hold}
use Rattle.node_laws.proofs.Words.{gates, handles, has, has_come, holds_back, host_deeds, host_holds, hosts_where, identity_served, input_at, is_late, is_over}
use Rattle.node_laws.proofs.Words.{length, lets_go, map, mask_of, new_row, notified, noting, option_map_or, ordered_holds, orders_hold, orders_of}
use Rattle.node_laws.proofs.Words.{others_opened, own_view, param_in, port_at, reset_late, steps, subst, synced, times_out, told_of_clearing, told_of_deletion}
use Rattle.node_laws.proofs.Words.{turn_at, view_for, view_of, with_desk, with_older, with_port, without_notice, ℕ, ◌++◌, ◌<◌, ◌==◌, ◌∷◌, ◌≡◌}
use Rattle.node_machine.proofs.Walks.{all_heard, told_hold}
use Rattle.node_laws.proofs.links.Sites.{Clean, input_clean, one_clean}
use Rattle.node_laws.proofs.links.Noticing.{nobody}
use Rattle.node_laws.proofs.steps.StepWalks.{Lasts, all_do, at_port, handled, holds_of_step_walks as holds, lets, rest_lasts}
use Rattle.gate_answers.specs.declared.response.Response.TheVariants as response
use Rattle.trace_model.specs.declared.entry.Entry.TheVariants as entry

-- ## Each answer and each notice that a gate decides on has a byte

-- it has a byte
abbrev pub IsSpoken : List ℕ → Type 0
IsSpoken message = 0 < length message

answer_spoken : (r : Response) (value : List ℕ) → IsSpoken (answer_of r value)
answer_spoken r value = omega arith

-- ### The administration gate

-- so it is with a decision: a notice has a byte where a host is told
abbrev Speaks : Decision → Type 0
Speaks (Answer answer) = IsSpoken answer.items
Speaks (Commit c answer tell notice) = IsSpoken answer.items × AllByRecursion (λ (x : ℕ). IsSpoken notice.items) (hosts_where (has tell))
Speaks (Ask dest notice c answer) = IsSpoken notice.items × IsSpoken answer.items

all_spoken : (message : List ℕ) → IsSpoken message → (hosts : List ℕ) → AllByRecursion (λ (x : ℕ). IsSpoken message) hosts
all_spoken message a [] = tt
all_spoken message a (x ∷ hosts) = (a, all_spoken message a hosts)

none_told : (message : List ℕ) → AllByRecursion (λ (x : ℕ). IsSpoken message) (hosts_where (has 0))
none_told message = rw nobody tt

tells_speaks : (c : Command) (told notice : List ℕ) → IsSpoken notice → Speaks (commits_and_tells c told notice)
tells_speaks c [] notice a = (answer_spoken response.Ok [], none_told [])
tells_speaks c (x ∷ told) notice a = (answer_spoken response.Ok [], all_spoken notice a (hosts_where (has (mask_of (x ∷ told)))))

decided_speaks : (t : HciTables) (v : LinkView) (host pipe instruction : ℕ) (body : List ℕ) → Speaks (decided t v host pipe instruction body)
decided_speaks t v host pipe n body =
    decided_holds Speaks t v host pipe body n answer_spoken (λ _. record {
      opens = (answer_spoken response.Ok (others_opened t host pipe ∷ []), none_told []);
      closes = (answer_spoken response.Ok [], none_told []);
      sets = λ _. (answer_spoken response.Ok [], none_told []);
      makes = λ _ controller. (answer_spoken response.Ok (ends_of (new_row t v host body)), none_told []);
      asks = λ _ other. (omega arith, omega arith);
      deletes = λ _. tells_speaks (Delete (param_in body)) (told_of_deletion t v host (param_in body)) (19 ∷ param_in body ∷ []) (omega arith);
      clears = λ _. tells_speaks (Clear host) (told_of_clearing t v host) (21 ∷ host ∷ []) (omega arith);
    })

-- ## What nodes send may be sent: it is on pipes that aren't reserved, and not empty

-- ### Notices

-- the answer that the asker of a creation gets has a byte
abbrev pub HasAnswer : Option Creation → Type 0
HasAnswer None = Unit {0}
HasAnswer (Some c) = IsSpoken c.answer

abbrev pub IsTrueDesk : Desk → Type 0
IsTrueDesk d = HasAnswer (creation_in d.notice)

-- ### Deeds

-- what a deed sends may be sent
abbrev pub IsFine : Deed → Type 0
IsFine (Sends to m) = IsSendable m
IsFine (Asks to message c) = IsSpoken message × IsSpoken c.answer
IsFine (Tells to message) = IsSpoken message
IsFine (Orders message) = IsSpoken message
IsFine _ = Unit {0}

abbrev pub AreFine : List Deed → Type 0
AreFine deeds = AllByRecursion IsFine deeds

abbrev OnPipe : ℕ → Type 0
OnPipe pipe = pipe < 112

pub low : 1 < 112
low = omega arith

answers_fine : (h pipe : ℕ) (answer : List ℕ) → OnPipe pipe → IsSpoken answer → AreFine (answers_on h pipe answer)
answers_fine h pipe answer p a = ((p, a), tt)

-- ### Of a controller

commit_fine_of_deeds : (room : Bool) (h pipe : ℕ) (c : Command) (answer : List ℕ) (behind : List Deed) → OnPipe pipe → IsSpoken answer → AreFine behind
    → AreFine (commit_deeds room h pipe c answer behind)
commit_fine_of_deeds room h pipe c answer behind p a fine = grind arith

agreed_fine : (flag : Bool) (c : Creation) → IsSpoken c.answer → AreFine (agreed flag c)
agreed_fine flag c a = grind arith

-- the desk of each of these ends is true
abbrev AreTrue : List Port → Type 0
AreTrue ports = AllByRecursion (λ (p : Port). IsTrueDesk p.desk) ports

decision_fine : (core : Core) (h pipe : ℕ) (d : Decision) → OnPipe pipe → Speaks d → AreFine (decision_deeds (own_view core) h pipe d)
decision_fine core h pipe (Answer answer) p a = answers_fine h pipe answer.items p a
decision_fine core h pipe (Commit c answer tell notice) p a =
    commit_fine_of_deeds (finds_room core c) h pipe c answer.items _ p a.0 (told_hold IsFine notice.items (hosts_where (has tell)) a.1)
decision_fine core h pipe (Ask asked notice c answer) p a = (a, tt)

controller_fine : (core : Core) (ports : List Port) (h : ℕ) (m : Message) → AreTrue ports → IsSendable m
    → AreFine (controller_deeds (view_of core ports) h m)
controller_fine core ports h m a s =
    let v : LinkView = view_for core.tables ports h in
    controller_holds AreFine core ports h m (record {
      drops = λ pid none. (tt, tt);
      goes_on = λ to off. (s, tt);
      goes_back = λ n event. (s, tt);
      refuses = λ r off free. answers_fine h m.0 (answer_of r []) s.0 (omega arith);
      names = λ n served gate. answers_fine h m.0 (identity_served gates n (body_in m.1)) s.0 (grind arith);
      counts = λ errors n served gate. (grind arith);
      decides =
          λ n served gate. decision_fine core h m.0 (decided core.tables v h m.0 n (body_in m.1)) s.0 (decided_speaks core.tables v h m.0 n (body_in m.1));
      hears = λ p reply here asked. (tt, tt);
      agrees = λ flag p c reply here asked room. agreed_fine flag c (subst HasAnswer asked (at_port (λ (p : Port). IsTrueDesk p.desk) ports h p a here));
    })

-- ## What hosts send may be sent

-- ### Init

orders_spoken : (i : Init) → AllByRecursion IsSpoken (orders_of i)
orders_spoken i = orders_hold IsSpoken i (omega arith) (omega arith) (omega arith) (λ pipe. omega arith) (omega arith)

own : (core : Core) → OfHost IsFine core
own core = record {
  commits = λ c. tt;
  hears = tt;
  goes_on = λ i. tt;
  orders = λ i k order is. AllByRecursion-get IsSpoken (orders_of i) k order (orders_spoken i) is;
  same = tt;
  made = λ count. tt;
  failed = λ code. tt;
}

-- ### Messages

host_fine : (core : Core) (p : Port) (m : Message) → IsSendable m → AreFine (host_deeds (own_view core) (end_view p) m)
host_fine core p m s = host_holds AreFine core p m (record {
  none = tt;
  drops = (tt, tt);
  goes = (s, tt);
  ordered = λ n is. (ordered_holds AreFine core p.desk.errors m.0 n (body_in m.1) (grind arith));
  heard = λ code order is. all_heard IsFine core (own core) code order (body_in m.1);
})

-- ## What a node does in a step is what it may do to its ends

-- ### Ends

-- what was done to an end may be done, and what came there may be sent on
pub record IsFinePort (p : Port) : Type 0 where
  pub turns : AreSendableTurns p.turns
  pub clean : Clean p.side
  pub desk : IsTrueDesk p.desk

abbrev pub AreFinePorts : List Port → Type 0
AreFinePorts ports = AllByRecursion IsFinePort ports

abbrev pub IsFineWork : Work → Type 0
IsFineWork w = AreFinePorts w.ports

pub map_fine : (f : Port → Port) → ((p : Port) → IsFinePort p → IsFinePort (f p)) → (ports : List Port) → AreFinePorts ports → AreFinePorts (map f ports)
map_fine f one ports a = all_map IsFinePort IsFinePort f one ports a

port_fine : (h : ℕ) (f : Port → Port) → ((q : Port) → IsFinePort q → IsFinePort (f q)) → (ports : List Port) → AreFinePorts ports
    → AreFinePorts (with_port h f ports)
port_fine h f one ports a = all_changed IsFinePort (λ p. p.desk.host == h) f one ports a

-- the end of the link with a host is one of them
pub fine_at : (ports : List Port) (h : ℕ) (p : Port) → AreFinePorts ports → port_at ports h ≡ Some p → IsFinePort p
fine_at [] h p a q = cc
fine_at (x ∷ ports) h p a q = by_test (x.desk.host == h)
    (λ e. grind arith)
    (λ e. fine_at ports h p a.1 (rw e at q))

are_true : (ports : List Port) → AreFinePorts ports → AreTrue ports
are_true [] a = tt
are_true (p ∷ ports) a = (a.0.desk, are_true ports a.1)

-- ### Turns

-- one turn more
turns_push : (ts : List Turn) (t : Turn) → AreSendableTurns ts → AreSendableTurns (t ∷ []) → AreSendableTurns (ts ++ t ∷ [])
turns_push [] t a b = b
turns_push (Give m ∷ ts) t a b = (a.0, turns_push ts t a.1 b)
turns_push (_ ∷ ts) t a b = turns_push ts t a b

turn_fine : (h : ℕ) (t : Turn) (w : Work) → AreSendableTurns (t ∷ []) → IsFineWork w → IsFineWork (turn_at h t w)
turn_fine h t w s a =
    port_fine h (after_turn t)
    (λ p fine. record { turns = turns_push p.turns t fine.turns s; clean = one_clean p.side t fine.clean; desk = fine.desk }) w.ports a

desk_fine : (h : ℕ) (f : Desk → Desk) (w : Work) → ((d : Desk) → IsTrueDesk d → IsTrueDesk (f d)) → IsFineWork w → IsFineWork (with_desk h f w)
desk_fine h f w one a =
    port_fine h (λ p. record p { desk = f p.desk })
    (λ p fine. record { turns = fine.turns; clean = fine.clean; desk = one p.desk fine.desk }) w.ports a

notified_fine : (h : ℕ) (about : About) (message : List ℕ) (w : Work) → IsSpoken message
    → HasAnswer (creation_in (Some (record { about = about; age = 0 }))) → IsFineWork w → IsFineWork (notified h about message w)
notified_fine h about message w spoken answer a =
    desk_fine h (λ d. record d { notice = Some (record { about = about; age = 0 }) }) (turn_at h (Give (1, message)) w) (λ d fine. answer)
    (turn_fine h (Give (1, message)) w ((low, spoken), tt) a)

-- ### Deeds

done_fine : (h : ℕ) (d : Deed) (w : Work) → IsFine d → IsFineWork w → IsFineWork (done h d w)
done_fine h (Commits c) w f a = grind arith
done_fine h (Sends to m) w f a = turn_fine to (Give m) w (f, tt) a
done_fine h (Asks to message c) w f a =
    notified_fine to (Waits c) message (noting (entry.Ask to message ∷ []) (turn_at c.asker SetAside w)) f.0 f.1 (turn_fine c.asker SetAside w tt a)
done_fine h (Releases asker) w f a = turn_fine asker Release w tt a
done_fine h (Tells to message) w f a = notified_fine to Removed message w f tt a
done_fine h IsAnswered w f a = desk_fine h (λ d. record d { notice = None }) w (λ d fine. tt) a
done_fine h (SetsErrors errors) w f a = desk_fine h (λ d. record d { errors = errors }) w (λ d fine. fine) a
done_fine h (Orders message) w f a = turn_fine h (Give (1, message)) (record w { core = record w.core { command = Some message } }) ((low, f), tt) a
done_fine h _ w f a = a

pub all_done_fine : (h : ℕ) (deeds : List Deed) (w : Work) → AreFine deeds → IsFineWork w → IsFineWork (all_done h deeds w)
all_done_fine h deeds w f a = all_do IsFineWork IsFine done_fine h deeds w f a

pub deeds_fine : (core : Core) (ports : List Port) (h : ℕ) (m : Message) → AreFinePorts ports → IsSendable m → AreFine (deeds_of core ports h m)
deeds_fine core ports h m a s = by_test (core.node == 0)
    (λ q. rw q (controller_fine core ports h m (are_true ports a) s))
    (λ q. by_option (port_at ports h) (λ r. rw (q, r) tt) (λ p r. rw (q, r) (host_fine core p m s)))

-- ### The pass over its ends

got_fine : (ports : List Port) (h : ℕ) → AreFinePorts ports → AreSendable (option_map_or (λ (p : Port). p.side.got) (port_at ports h) [])
got_fine ports h a = by_option (port_at ports h) (λ q. rw q tt) (λ p q. rw q (fine_at ports h p a q).clean)

abbrev MaySend : ℕ → Message → Type 0
MaySend h m = IsSendable m

fine_lasts : Lasts IsFineWork IsFine MaySend
fine_lasts = record {
  does = done_fine;
  turn_told = λ h m w s a. a;
  held_told = λ h need spare w a. a;
  fetched = λ h w a. turn_fine h FetchMessage w tt a;
  held = λ h flag w a. turn_fine h (Hold flag) w tt a;
  marked = λ h flag w a. desk_fine h (λ d. record d { holds = flag }) w (λ d fine. fine) a;
  come = λ h w a. got_fine w.ports h a;
  causes = λ h m w s a. deeds_fine w.core w.ports h m a s;
}

pub handles_fine : (h : ℕ) (m : Message) (deeds : List Deed) (w : Work) → IsSendable m → AreFine deeds → IsFineWork w → IsFineWork (handles h m deeds w)
handles_fine h m deeds w s f a = handled IsFineWork IsFine MaySend fine_lasts h m deeds w s f a

pub holds_fine : (h : ℕ) (short : ℕ × ℕ) (w : Work) → IsFineWork w → IsFineWork (holds_back h short w)
holds_fine h short w a = holds IsFineWork fine_lasts.held fine_lasts.marked fine_lasts.held_told h short w a

pub lets_fine : (h : ℕ) (w : Work) → IsFineWork w → IsFineWork (lets_go h w)
lets_fine h w a = lets IsFineWork fine_lasts.held h w a

-- ### Steps

come_fine : (p : Port) (o : Option LinkInput) → IsFinePort p → IsFinePort (has_come p o)
come_fine p None a = a
come_fine p (Some i) a = record { turns = a.turns; clean = input_clean p.side i a.clean; desk = a.desk }

older_fine : (p : Port) → IsFinePort p → IsFinePort (with_older p)
older_fine p a = grind arith

late_fine : (p : Port) → IsFinePort p → IsFinePort (reset_late p)
late_fine p a = by_test (is_late p) (λ q. rw q (record { turns = a.turns; clean = input_clean p.side (Reset None) a.clean; desk = a.desk })) (λ q. rw q a)

time_fine : (input : NodeInput) (w : Work) → IsFineWork w → IsFineWork (times_out input w)
time_fine (AtEnd h i) w a = a
time_fine TimePasses w a = map_fine reset_late late_fine (map with_older w.ports) (map_fine with_older older_fine w.ports a)

pub came_fine : (input : NodeInput) (w : Work) → IsFineWork w → IsFineWork (times_out input (all_come input w))
came_fine input w a =
    time_fine input (all_come input w)
    (map_fine (λ p. has_come p (input_at input p)) (λ p fine. come_fine p (input_at input p) fine) w.ports a)

pub without_fine : (p : Port) → IsFinePort p → IsFinePort (without_notice p)
without_fine p a = by_test (is_over p) (λ q. rw q (record { turns = a.turns; clean = a.clean; desk = tt })) (λ q. rw q a)

pub forgets_fine : (ports : List Port) (p : Port) → IsFinePort p → IsFinePort (forgets ports p)
forgets_fine ports p a = grind arith

pub steps_fine : (input : NodeInput) (w : Work) → IsFineWork w → IsFineWork (steps input w)
steps_fine input w a =
    let came : Work = times_out input (all_come input w) in
    let left : List Port = map (forgets came.ports) came.ports in
    let begun : Work = record came { core = after_sessions came.core came.ports; ports = map without_notice left } in
    let begun_fine : IsFineWork begun =
    map_fine without_notice without_fine left (map_fine (forgets came.ports) (forgets_fine came.ports) came.ports (came_fine input w a)) in
    rest_lasts IsFineWork IsFine MaySend fine_lasts (forgotten came.ports) (flat_map (synced w.core input) w.ports) (all_owed left) begun
    (forgotten_hold IsFine (λ asker. tt) came.ports) (all_synced_hold IsFine (λ host id. tt) w.core input w.ports)
    (all_owed_hold IsFine (λ asker. tt) (λ to r. (low, omega arith)) left) begun_fine
