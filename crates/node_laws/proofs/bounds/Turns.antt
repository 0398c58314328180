-- Each message that has its turn pays for what is done with it: what is noted costs, what a node keeps is held, and each deed is paid for.
use Rattle.std.proofs.lemmas.Option.{slice_get_within}
use Rattle.node_laws.proofs.Words.{AllByRecursion, Answer, Ask, Asks, Bool, Command, Commit, Commits, Controller, Core, Creation, Decision, Deed, Desk, Drops}
use Rattle.node_laws.proofs.Words.{Ends, Entry, Give, GoesOn, Hears, Host, Init, InitFailed, InitMade, InitSame, IsAnswered, List, Message, None, Noted, Notice}
use Rattle.node_laws.proofs.Words.{Ok, Option, Orders, Port, Refused, Release, Releases, Removed, Report, Running, SaysOk, Sends, Sent, Set, SetAside}
use Rattle.node_laws.proofs.Words.{SetsErrors, Some, Tells, Turn, Waits, Work, Write, [], after_turn, agreed, all_done, answer_of, answers_on, ap, arith}
use Rattle.node_laws.proofs.Words.{asked_at, body_in, body_of, by_option, by_test, changed_if, commit, commit_writes, cond, cond_both, controller_deeds}
use Rattle.node_laws.proofs.Words.{controller_holds, count_of, creation_in, decided, decision_deeds, done, end_of_node, end_view, entries_for, entry_of, eqb}
use Rattle.node_laws.proofs.Words.{fails_within, false, filter, finds_room, gates, has, header_of, host_deeds, identity_served, init_deeds, is_command_message}
use Rattle.node_laws.proofs.Words.{learned, learned_holds, learns, length, length-map, link_deeds, link_served, map, not, noted_of, noting, option_map_or}
use Rattle.node_laws.proofs.Words.{ordered_deeds, ordered_holds, orders_of, own_side, own_view, port_at, range_with_len, refl, sent_unless, slice_get, told}
use Rattle.node_laws.proofs.Words.{true, turn_at, view_for, view_of, with_desk, with_port, ℕ, ◌&&◌, ◌*◌, ◌++◌, ◌+◌, ◌-◌, ◌∙◌, ◌∷◌, ◌≡◌, ◌≤◌}
use Rattle.gate_admin.specs.View.{hosts_where}
use Rattle.hcp_packet.specs.declared.MessageKind.TheVariants.{Command as IsCommand, Event as IsEvent}
use Rattle.link_laws.specs.entries.Entries.{End as Side}
use Rattle.node_machine.proofs.Walks.{init_holds as init_walks}
use Rattle.node_laws.proofs.telling.Shapes.{told_all}
use Rattle.gate_answers.specs.declared.response.Response.TheVariants as response
use Rattle.trace_model.specs.declared.entry.Entry.TheVariants as entry

-- ## What is noted is counted
-- Commands that are committed cost, and so do messages that are sent and may bring about others; messages that have their turns pay for
-- them.

-- ### Entries

-- so much, where it is so
abbrev pub worth : ℕ → Bool → ℕ
worth n true = n
worth n false = 0

-- What may come of a message that a host sent, or that the controller sent: a command of a host is decided, answered and told; a notice is
-- kept and answered. No other message brings about a command that nothing else pays for.
abbrev pub message_cost : Bool → ℕ → List ℕ → ℕ
message_cost true pid m = worth 16 (is_command_message m)
message_cost false pid m = worth 1 (eqb pid 1 && is_command_message m)

abbrev pub cost : Entry → ℕ
cost (entry.Command node c) = 1
cost (entry.Sent e n pid message) = message_cost e.at_host pid message
cost _ = 0

-- a message that has its turn pays for what comes of it
abbrev pub pay : Entry → ℕ
pay (entry.Turn e pid message) = message_cost (not e.at_host) pid message
pay _ = 0

abbrev pub costs : List Entry → ℕ
costs [] = 0
costs (x ∷ t) = cost x + costs t

abbrev pub pays : List Entry → ℕ
pays [] = 0
pays (x ∷ t) = pay x + pays t

pub costs-append : (s t : List Entry) → costs (s ++ t) ≡ costs s + costs t
costs-append [] t = omega arith
costs-append (x ∷ s) t = let rest = costs-append s t in omega (arith, rest)

pub pays-append : (s t : List Entry) → pays (s ++ t) ≡ pays s + pays t
pays-append [] t = omega arith
pays-append (x ∷ s) t = let rest = pays-append s t in omega (arith, rest)

-- ### Messages

-- an end of a host
abbrev pub is_host_side : Side → Bool
is_host_side Controller = false
is_host_side Host = true

-- what is no command costs nothing
plain_free : (b : Bool) (pid : ℕ) (m : List ℕ) → is_command_message m ≡ false → message_cost b pid m ≡ 0
plain_free b pid m off = grind arith

near_most : (pid : ℕ) (m : List ℕ) → message_cost false pid m ≤ 1
near_most pid m = grind arith

pub far_most : (pid : ℕ) (m : List ℕ) → message_cost true pid m ≤ 16
far_most pid m = grind arith

-- ### Of a link

abbrev pub costs_at : ℕ → List Noted → ℕ
costs_at h notes = costs (entries_for h notes)

-- it tells of no message that is sent
abbrev pub IsNoSent : Noted → Type 0
IsNoSent (Sent who n m) = ⊥
IsNoSent _ = Unit {0}

abbrev pub AreNoSents : List Noted → Type 0
AreNoSents notes = AllByRecursion IsNoSent notes

note_free : (h : ℕ) (x : Noted) → IsNoSent x → costs (entry_of h x) ≡ 0
note_free h x a = grind arith

pub notes_free : (h : ℕ) (notes : List Noted) → AreNoSents notes → costs_at h notes ≡ 0
notes_free h [] a = refl
notes_free h (x ∷ notes) a = omega (arith, costs-append (entry_of h x) (entries_for h notes), note_free h x a.0, notes_free h notes a.1)

-- what is told of an input costs nothing
pub told_free : (h : ℕ) (who : Side) (n : ℕ) (r : Report) (acked : ℕ) → costs_at h (told who n r acked) ≡ 0
told_free h who n r acked = notes_free h (told who n r acked) (told_all IsNoSent who n acked tt tt (λ k. tt) tt (λ m. tt) (λ c. tt) r)

-- a message that is given costs what a sent one does, unless it is refused
sent_most : (h n : ℕ) (m : Message) (side : Side) (o : Option Refused)
    → costs (entries_for h (sent_unless o side n m)) ≤ message_cost (is_host_side side) m.0 m.1
sent_most h n m side o = grind arith

-- ## What a node keeps and what may come of it: a creation that waits, the unanswered command of a host, and the commands that are left of its init

-- of a creation that waits come its command and an answer
abbrev pub waiting : Option Creation → ℕ
waiting None = 0
waiting (Some c) = 2

abbrev pub notice_holds : Option Notice → ℕ
notice_holds n = waiting (creation_in n)

abbrev pub desks_hold : List Desk → ℕ
desks_hold [] = 0
desks_hold (d ∷ desks) = notice_holds d.notice + desks_hold desks

abbrev pub ports_hold : List Port → ℕ
ports_hold [] = 0
ports_hold (p ∷ ports) = notice_holds p.desk.notice + ports_hold ports

-- of an answer to a command of a host come two commands at most: it learns what it did, and its init ends
abbrev pub order_holds : Option (List ℕ) → ℕ
order_holds None = 0
order_holds (Some order) = 2

-- of each command that is left of an init comes what comes of a command of a host, and of the answer to it
abbrev pub init_left : Init → ℕ
init_left i = 18 * (length (orders_of i) - (i.answered + 1))

abbrev pub init_holds : Option Init → ℕ
init_holds None = 0
init_holds (Some i) = init_left i

abbrev pub core_holds : Core → ℕ
core_holds core = order_holds core.command + init_holds core.init

abbrev pub node_holds : Option Running → ℕ
node_holds None = 0
node_holds (Some r) = core_holds r.core + desks_hold r.desks

-- the ends of a node hold what is kept of them
pub desks_are : (ports : List Port) → desks_hold (map (λ (p : Port). p.desk) ports) ≡ ports_hold ports
desks_are [] = refl
desks_are (p ∷ ports) = ap (λ n. notice_holds p.desk.notice + n) (desks_are ports)

-- ### Ends that change

-- it holds no more, or two more, than before
abbrev pub HoldsLess : (Port → Port) → Type 0
HoldsLess f = (p : Port) → notice_holds (f p).desk.notice ≤ notice_holds p.desk.notice

abbrev HoldsMore : (Port → Port) → Type 0
HoldsMore f = (p : Port) → notice_holds (f p).desk.notice ≤ notice_holds p.desk.notice + 2

pub map_less : (f : Port → Port) → HoldsLess f → (ports : List Port) → ports_hold (map f ports) ≤ ports_hold ports
map_less f less [] = omega arith
map_less f less (p ∷ ports) = let one = less p in let rest = map_less f less ports in omega (arith, one, rest)

if_more : (b : Bool) (f : Port → Port) → HoldsMore f → HoldsMore (changed_if b f)
if_more b f more p = grind arith

pub with_less : (h : ℕ) (f : Port → Port) → HoldsLess f → (ports : List Port) → ports_hold (with_port h f ports) ≤ ports_hold ports
with_less h f less ports = map_less (λ p. changed_if (eqb p.desk.host h) f p) (λ p. grind arith) ports

with_more : (h : ℕ) (f : Port → Port) → HoldsMore f → (ports : List Port)
    → ports_hold (with_port h f ports) ≤ ports_hold ports + 2 * length ports
with_more h f more [] = omega arith
with_more h f more (p ∷ ports) =
    let one = if_more (eqb p.desk.host h) f more p in let rest = with_more h f more ports in omega (arith, one, rest)

-- ### The creation that waits at an end

abbrev pub holds_at : ℕ → List Port → ℕ
holds_at h ports = option_map_or (λ (p : Port). waiting (asked_at p)) (port_at ports h) 0

-- it stays over what keeps the notice
pub stays_at : (h : ℕ) (f : Port → Port) → ((p : Port) → (f p).desk.host ≡ p.desk.host) → ((p : Port) → (f p).desk.notice ≡ p.desk.notice)
    → (ports : List Port) → holds_at h (with_port h f ports) ≡ holds_at h ports
stays_at h f host notice [] = refl
stays_at h f host notice (p ∷ ports) = let h0 = stays_at h f host notice ports in grind arith

-- where the notice is answered, it holds nothing any more
frees : (h : ℕ) (f : Port → Port) → ((p : Port) → notice_holds (f p).desk.notice ≡ 0) → (ports : List Port)
    → ports_hold (with_port h f ports) + holds_at h ports ≤ ports_hold ports
frees h f none [] = omega arith
frees h f none (p ∷ ports) = let h0 = frees h f none ports in grind arith

-- ## What each deed of a node costs, and that a node can always pay for it

-- What was noted so far, with what the node keeps and what it may still spend, is paid for by what had its turn and by what was there.
pub record Owes (side : Side) (left all : ℕ) (w : Work) : Type 0 where
  pub side_is : own_side w.core ≡ side
  pub few : length w.ports ≤ 7
  pub owes : costs w.entries + (core_holds w.core + (ports_hold w.ports + left)) ≤ pays w.entries + all

-- what a deed may cost
abbrev pub weight : Side → Deed → ℕ
weight side (Commits c) = 1
weight side (Sends to m) = message_cost (is_host_side side) m.0 m.1
weight side (Asks to message c) = message_cost (is_host_side side) 1 message + 14
weight side (Tells to message) = message_cost (is_host_side side) 1 message
weight side (Orders message) = message_cost (is_host_side side) 1 message + 2
weight side (GoesOn i) = init_left i
weight side (Ends x) = cost x
weight side _ = 0

abbrev pub weights : Side → List Deed → ℕ
weights side [] = 0
weights side (d ∷ deeds) = weight side d + weights side deeds

pub weights-append : (side : Side) (ds es : List Deed) → weights side (ds ++ es) ≡ weights side ds + weights side es
weights-append side [] es = omega arith
weights-append side (d ∷ ds) es = let rest = weights-append side ds es in omega (arith, rest)

module _ (side : Side) (all : ℕ) where
  pub less : (more left : ℕ) (w : Work) → left ≤ more → Owes side more all w → Owes side left all w
  less more left w most a = let owes = a.owes in record { side_is = a.side_is; few = a.few; owes = omega (arith, most, owes) }

  -- these are noted, and pay for themselves or are paid for
  pub noted : (left more : ℕ) (es : List Entry) (w : Work) → costs es + left ≤ pays es + more → Owes side more all w → Owes side left all (noting es w)
  noted left more es w most a =
      let owes = a.owes in
      record { side_is = a.side_is; few = a.few; owes = omega (arith, costs-append w.entries es, pays-append w.entries es, most, owes) }

  -- its ends hold no more than they and what is left
  pub ended : (left more h : ℕ) (f : Port → Port) (w : Work) → ports_hold (with_port h f w.ports) + left ≤ ports_hold w.ports + more
      → Owes side more all w → Owes side left all (record w { ports = with_port h f w.ports })
  ended left more h f w most a =
      let long : length (with_port h f w.ports) ≡ length w.ports = length-map w.ports _ in
      let owes = a.owes in
      let few = a.few in
      record { side_is = a.side_is; few = omega (arith, long, few); owes = omega (arith, most, owes) }

  -- its ends become others that hold no more
  pub ported : (left : ℕ) (ports : List Port) (w : Work) → length ports ≡ length w.ports → ports_hold ports ≤ ports_hold w.ports
      → Owes side left all w → Owes side left all (record w { ports = ports })
  ported left ports w long most a = grind arith

  -- its core does so
  pub kept : (left more : ℕ) (core : Core) (w : Work) → core.node ≡ w.core.node → core_holds core + left ≤ core_holds w.core + more
      → Owes side more all w → Owes side left all (record w { core = core })
  kept left more core w node most a = grind arith

  -- ### Ends

  turn_most : (core : Core) (t : Turn) (k : ℕ) → own_side core ≡ side → (o : Option Port)
      → ((m : Message) → t ≡ Give m → message_cost (is_host_side side) m.0 m.1 ≤ k)
      → costs (option_map_or (noted_of core t) o []) ≤ k
  turn_most core t k is o most = grind arith

  turned_so : (left k h : ℕ) (t : Turn) (w : Work) → ((m : Message) → t ≡ Give m → message_cost (is_host_side side) m.0 m.1 ≤ k)
      → Owes side (left + k) all w → Owes side left all (turn_at h t w)
  turned_so left k h t w most a =
      let v : Work = record w { ports = with_port h (after_turn t) w.ports } in
      let es : List Entry = option_map_or (noted_of w.core t) (port_at w.ports h) [] in
      noted left (left + k) es v (omega (arith, turn_most w.core t k a.side_is (port_at w.ports h) most))
      (ended (left + k) (left + k) h (after_turn t) w (omega (arith, with_less h (after_turn t) (λ p. omega arith) w.ports)) a)

  -- a message is given, or what else its node does to an end, which costs nothing
  pub given : (left h : ℕ) (m : Message) (w : Work) → Owes side (left + message_cost (is_host_side side) m.0 m.1) all w
      → Owes side left all (turn_at h (Give m) w)
  given left h m w a =
      turned_so left (message_cost (is_host_side side) m.0 m.1) h (Give m) w
      (λ n is. grind arith) a

  pub turned : (left h : ℕ) (t : Turn) (w : Work) → ((m : Message) → t ≡ Give m → ⊥) → Owes side left all w → Owes side left all (turn_at h t w)
  turned left h t w none a = turned_so left 0 h t w (λ m is. absurd (none m is)) (less left (left + 0) w (omega arith) a)

  -- ### Deeds

  pub committed : (left : ℕ) (c : Command) (w : Work) → Owes side (left + 1) all w → Owes side left all (commit c w)
  committed left c w a = by_test (fails_within (length writes) w.plan)
      (λ q. rw q (let v : Work = record begun { writes = begun.writes ++ writes; plan = None; cut = true } in
      noted left left (entry.Cut w.core.node ∷ []) v (omega arith)
      (record { side_is = told_of_deeds.side_is; few = told_of_deeds.few; owes = told_of_deeds.owes })))
      (λ q. rw q (record { side_is = told_of_deeds.side_is; few = told_of_deeds.few; owes = told_of_deeds.owes })) where
        writes : List Write
        writes = commit_writes w.core.journal w.core.tables (body_of c)

        begun : Work
        begun = noting (entry.Command w.core.node c ∷ []) w

        told_of_deeds : Owes side left all begun
        told_of_deeds = noted left (left + 1) (entry.Command w.core.node c ∷ []) w (omega arith) a

  -- a notice goes to a host: one of a creation holds two at its end
  asked : (left h : ℕ) (notice : Notice) (message : List ℕ) (w : Work) → Owes side (left + (message_cost (is_host_side side) 1 message + 14)) all w
      → Owes side left all (with_desk h (λ d. record d { notice = Some notice }) (turn_at h (Give (1, message)) w))
  asked left h notice message w a =
      let sent : Owes side (left + 14) all (turn_at h (Give (1, message)) w) =
      (let owes = a.owes in given (left + 14) h (1, message) w (record { side_is = a.side_is; few = a.few; owes = omega (arith, owes) })) in
      let f : Port → Port = λ p. record p { desk = record p.desk { notice = Some notice } } in
      let more = with_more h f (λ p. let two = holds_two notice in omega (arith, two)) (turn_at h (Give (1, message)) w).ports in
      let few = sent.few in
      ended left (left + 14) h f (turn_at h (Give (1, message)) w) (omega (arith, more, few)) sent
    where
      holds_two : (n : Notice) → notice_holds (Some n) ≤ 0 + 2
      holds_two n = by_option (creation_in (Some n)) (λ q. rw q (omega arith)) (λ c q. rw q (omega arith))

  told_of_deeds : (left h : ℕ) (message : List ℕ) (w : Work) → Owes side (left + message_cost (is_host_side side) 1 message) all w
      → Owes side left all (with_desk h (λ d. record d { notice = Some (record { about = Removed; age = 0 }) }) (turn_at h (Give (1, message)) w))
  told_of_deeds left h message w a =
      let f : Port → Port = λ p. record p { desk = record p.desk { notice = Some (record { about = Removed; age = 0 }) } } in
      let same = with_less h f (λ p. omega arith) (turn_at h (Give (1, message)) w).ports in
      ended left left h f (turn_at h (Give (1, message)) w) (omega (arith, same)) (given left h (1, message) w a)

  does : (left h : ℕ) (d : Deed) (w : Work) → Owes side (left + weight side d) all w → Owes side left all (done h d w)
  does left h (Commits c) w a = committed left c w a
  does left h (Sends to m) w a = given left to m w a
  does left h SaysOk w a = noted left (left + 0) (entry.AnyOk w.core.node (count_of w.core.journal) ∷ []) w (omega arith) a
  does left h (Asks to message c) w a =
      let cost : ℕ = message_cost (is_host_side side) 1 message + 14 in
      let aside : Owes side (left + cost) all (turn_at c.asker SetAside w) = turned (left + cost) c.asker SetAside w (λ m is. cc is) a in
      asked left to (record { about = Waits c; age = 0 }) message (noting (entry.Ask to message ∷ []) (turn_at c.asker SetAside w))
      (noted (left + cost) (left + cost) (entry.Ask to message ∷ []) (turn_at c.asker SetAside w) (omega arith) aside)
  does left h (Releases asker) w a = turned left asker Release w (λ m is. cc is) (less (left + 0) left w (omega arith) a)
  does left h (Tells to message) w a = told_of_deeds left to message w a
  does left h IsAnswered w a =
      let f : Port → Port = λ p. record p { desk = record p.desk { notice = None } } in
      ended left (left + 0) h f w (omega (arith, with_less h f (λ p. omega arith) w.ports)) a
  does left h (Drops pid) w a = noted left (left + 0) (entry.Dropped (end_of_node w.core h) pid ∷ []) w (omega arith) a
  does left h (SetsErrors errors) w a =
      let f : Port → Port = λ p. record p { desk = record p.desk { errors = errors } } in
      ended left (left + 0) h f w (omega (arith, with_less h f (λ p. omega arith) w.ports)) a
  does left h (Orders message) w a =
      let cost : ℕ = message_cost (is_host_side side) 1 message in
      let core : Core = record w.core { command = Some message } in
      given left h (1, message) (record w { core = core })
      (kept (left + cost) (left + (cost + 2)) core w refl (omega arith) (less (left + (cost + 2)) (left + (cost + 2)) w (omega arith) a))
  does left h Hears w a = kept left (left + 0) (record w.core { command = None }) w refl (omega arith) a
  does left h (GoesOn i) w a = kept left (left + init_left i) (record w.core { init = Some i }) w refl (omega arith) a
  does left h (Ends x) w a =
      let core : Core = record w.core { init = None } in
      noted left (left + cost x) (x ∷ []) (record w { core = core }) (omega arith)
      (kept (left + cost x) (left + cost x) core w refl (omega arith) a)

  -- a deed is done, and then what is left to do as long as the power is on
  and_then : (left more h : ℕ) (d : Deed) (deeds : List Deed) (w : Work) → left ≤ more → Owes side more all (done h d w)
      → ((v : Work) → v ≡ done h d w → Owes side more all v → Owes side left all (all_done h deeds v)) → Owes side left all (all_done h (d ∷ deeds) w)
  and_then left more h d deeds w most first later = grind arith

  pub all_owe : (left h : ℕ) (deeds : List Deed) (w : Work) → Owes side (left + weights side deeds) all w → Owes side left all (all_done h deeds w)
  all_owe left h [] w a = less (left + 0) left w (omega arith) a
  all_owe left h (d ∷ deeds) w a =
      let rest : ℕ = weights side deeds in
      and_then left (left + rest) h d deeds w (omega arith)
      (does (left + rest) h d w (less (left + (weight side d + rest)) ((left + rest) + weight side d) w (omega arith) a))
      (λ v is b. all_owe left h deeds v b)

  -- ### What is freed

  -- the creation that waits at the end of the message waits no more
  pub answered : (left h : ℕ) (w : Work) → Owes side left all w → Owes side (left + holds_at h w.ports) all (done h IsAnswered w)
  answered left h w a =
      let f : Port → Port = λ p. record p { desk = record p.desk { notice = None } } in
      ended (left + holds_at h w.ports) left h f w (omega (arith, frees h f (λ p. refl) w.ports)) a

  -- the command of a host is answered
  pub heard : (left h : ℕ) (order : List ℕ) (w : Work) → w.core.command ≡ Some order → Owes side left all w
      → Owes side (left + 2) all (done h Hears w)
  heard left h order w is a = grind arith

  -- its init goes on
  went_on : (left gain h : ℕ) (i j : Init) (w : Work) → w.core.init ≡ Some i → init_left j + gain ≤ init_left i → Owes side left all w
      → Owes side (left + gain) all (done h (GoesOn j) w)
  went_on left gain h i j w is most a = grind arith

-- ## Each message that has its turn pays for what is done with it, with what its node keeps

-- ### Messages that cost nothing

-- a command costs what it may bring about
far_cost : (pid : ℕ) (m : List ℕ) (n : ℕ) → header_of m ≡ Ok (IsCommand, n) → message_cost true pid m ≡ 16
far_cost pid m n is = rw is refl

notice_cost : (pid : ℕ) (m : List ℕ) (n : ℕ) → eqb pid 1 ≡ true → header_of m ≡ Ok (IsCommand, n) → message_cost false pid m ≡ 1
notice_cost pid m n one is = rw (one, is) refl

-- ### Controllers

filter_few : (p : ℕ → Bool) (xs : List ℕ) → length (filter p xs) ≤ length xs
filter_few p [] = omega arith
filter_few p (x ∷ xs) = by_test (p x) (λ q. rw q (omega (arith, filter_few p xs))) (λ q. rw q (omega (arith, filter_few p xs)))

few_hosts : (test : ℕ → Bool) → length (hosts_where test) ≤ 7
unfolding hosts_where
few_hosts test = filter_few test (range_with_len 1 7)

told_weigh : (message : List ℕ) (hosts : List ℕ) → weights Controller (map (λ x. Tells x message) hosts) ≤ length hosts
told_weigh message [] = omega arith
told_weigh message (x ∷ hosts) = let one = near_most 1 message in let rest = told_weigh message hosts in omega (arith, one, rest)

decision_weighs : (core : Core) (h pipe : ℕ) (d : Decision) → weights Controller (decision_deeds (own_view core) h pipe d) ≤ 16
decision_weighs core h pipe (Answer answer) = let one = near_most pipe answer.items in omega (arith, one)
decision_weighs core h pipe (Commit c answer tell notice) = by_test (finds_room core c)
    (λ q. rw q (omega (arith, near_most pipe answer.items, told_weigh notice.items (hosts_where (has tell)), few_hosts (has tell))))
    (λ q. rw q (let one = near_most pipe (answer_of response.NotOk []) in omega (arith, one)))
decision_weighs core h pipe (Ask asked notice c answer) = let one = near_most 1 notice.items in omega (arith, one)

module _ (all : ℕ) (core : Core) (ports : List Port) (h : ℕ) (m : Message) where
  -- the message pays for this, with what its end holds
  abbrev IsPaidNear : List Deed → Type 0
  IsPaidNear deeds = (w : Work) → holds_at h w.ports ≡ holds_at h ports → Owes Controller (message_cost true m.0 m.1) all w
      → Owes Controller 0 all (all_done h deeds w)

  weighed_near : (deeds : List Deed) → weights Controller deeds ≤ message_cost true m.0 m.1 → IsPaidNear deeds
  weighed_near deeds most w same a =
      all_owe Controller all 0 h deeds w (less Controller all (message_cost true m.0 m.1) (0 + weights Controller deeds) w (omega (arith, most)) a)

  agreed_paid : (flag : Bool) (p : Port) (c : Creation) → port_at ports h ≡ Some p → asked_at p ≡ Some c → IsPaidNear (agreed flag c)
  agreed_paid flag p c here asked w same a = by_test flag
      (λ q. rw q (rest (Commits c.command ∷ Releases c.asker ∷ Sends c.asker (1, c.answer) ∷ SaysOk ∷ [])
      (let other = near_most 1 c.answer in omega (arith, other))))
      (λ q. rw q (rest (Releases c.asker ∷ Sends c.asker (1, answer_of response.NotOk []) ∷ [])
      (let one = near_most 1 (answer_of response.NotOk []) in omega (arith, one)))) where
        two : holds_at h ports ≡ 2
        two = rw here (rw asked refl)

        freed : Owes Controller 2 all (done h IsAnswered w)
        freed = less Controller all (0 + holds_at h w.ports) 2 (done h IsAnswered w) (omega (arith, same, two))
            (answered Controller all 0 h w (less Controller all (message_cost true m.0 m.1) 0 w (omega arith) a))

        rest : (deeds : List Deed) → weights Controller deeds ≤ 2 → Owes Controller 0 all (all_done h (IsAnswered ∷ deeds) w)
        rest deeds most =
            and_then Controller all 0 2 h IsAnswered deeds w (omega arith) freed
            (λ v is b. all_owe Controller all 0 h deeds v (less Controller all 2 (0 + weights Controller deeds) v (omega (arith, most)) b))

  pub controller_pays : IsPaidNear (controller_deeds (view_of core ports) h m)
  controller_pays = controller_holds IsPaidNear core ports h m (record {
    drops = λ pid none. weighed_near (Drops pid ∷ []) (omega arith);
    goes_on = λ to off. weighed_near (Sends to m ∷ []) (let free = ap (λ c. worth 1 (c && is_command_message m.1)) off in omega (arith, free));
    goes_back = λ n event.
        weighed_near (Sends h m ∷ []) (let free = plain_free false m.0 m.1 (rw event refl) in omega (arith, free));
    refuses = λ r off free.
        weighed_near (answers_on h m.0 (answer_of r [])) (let none = plain_free false m.0 (answer_of r []) (grind arith) in omega (arith, none));
    names = λ n served gate.
        weighed_near (answers_on h m.0 (identity_served gates n (body_in m.1)))
        (let one = near_most m.0 (identity_served gates n (body_in m.1)) in let pays = far_cost m.0 m.1 n served.command in omega (arith, one, pays));
    counts = λ errors n served gate.
        weighed_near (link_deeds h m.0 (link_served errors n (body_in m.1)))
        (grind arith);
    decides = λ n served gate.
        (let d : Decision = decided core.tables (view_for core.tables ports h) h m.0 n (body_in m.1) in
        weighed_near (decision_deeds (own_view core) h m.0 d)
        (let most = decision_weighs core h m.0 d in let pays = far_cost m.0 m.1 n served.command in omega (arith, most, pays)));
    hears = λ p reply here asked. weighed_near (IsAnswered ∷ []) (omega arith);
    agrees = λ flag p c reply here asked room. agreed_paid flag p c here asked;
  })

-- ### Hosts

-- what a host does with a command on pipe 01, or on another one
ordered_weighs : (core : Core) (errors pipe n : ℕ) (body : List ℕ) → weights Host (ordered_deeds (own_view core) errors pipe n body) ≤ 1
ordered_weighs core errors pipe n body = ordered_holds (λ deeds. weights Host deeds ≤ 1) core errors pipe n body (grind arith)

ordered_free : (core : Core) (errors pipe n : ℕ) (body : List ℕ) → eqb pipe 1 ≡ false → weights Host (ordered_deeds (own_view core) errors pipe n body) ≡ 0
ordered_free core errors pipe n body off = grind arith

module _ (all : ℕ) (core : Core) (h : ℕ) where
  -- what is left to do of an init costs one command, where its commands that are left are counted
  abbrev LastsFrom : List Deed → Type 0
  LastsFrom deeds = (w : Work) → w.core.init ≡ core.init → Owes Host 1 all w → Owes Host 0 all (all_done h deeds w)

  weighed_init : (deeds : List Deed) → weights Host deeds ≤ 1 → LastsFrom deeds
  weighed_init deeds most w is a = all_owe Host all 0 h deeds w (less Host all 1 (0 + weights Host deeds) w (omega (arith, most)) a)

  next_paid : (i : Init) (order : List ℕ) → core.init ≡ Some i → slice_get (orders_of i) (i.answered + 1) ≡ Some order
      → LastsFrom (GoesOn (record i { answered = i.answered + 1 }) ∷ Orders order ∷ [])
  next_paid i order runs is w same a =
      let j : Init = record i { answered = i.answered + 1 } in
      let gain : init_left j + 18 ≤ init_left i = omega (arith, slice_get_within (orders_of i) (i.answered + 1) order is) in
      let most = far_most 1 order in
      and_then Host all 0 (1 + 18) h (GoesOn j) (Orders order ∷ []) w (omega arith) (went_on Host all 1 18 h i j w (same ∙ runs) gain a)
      (λ v is b. all_owe Host all 0 h (Orders order ∷ []) v (less Host all (1 + 18) (0 + weights Host (Orders order ∷ [])) v (omega (arith, most)) b))

  init_paid : (code : ℕ) (value : List ℕ) (o : Option Init) → core.init ≡ o → LastsFrom (init_deeds (own_view core) code value o)
  init_paid code value None is = weighed_init [] (omega arith)
  init_paid code value (Some i) is = init_walks LastsFrom core i code value (record {
    same = weighed_init (Ends (InitSame (end_of_node core core.node)) ∷ []) (omega arith);
    failed = λ code. weighed_init (Ends (InitFailed (end_of_node core core.node) code) ∷ []) (omega arith);
    made =
        let set : Command = Set core.node 0 1 (record { items = i.identity }) in
        let ends : List Deed = Ends (InitMade (end_of_node core core.node) (length i.pipes)) ∷ [] in
        let learns_it : weights Host (learns (own_view core) set) ≤ 1 = grind arith in
        weighed_init (learns (own_view core) set ++ ends) (omega (arith, weights-append Host (learns (own_view core) set) ends, learns_it));
    next = λ order got. next_paid i order is got;
  })

  -- what a host learns costs one command, and then its init goes on
  abbrev IsLearned : List Deed → Type 0
  IsLearned first = (rest : List Deed) → LastsFrom rest → (w : Work) → w.core.init ≡ core.init → Owes Host 2 all w
      → Owes Host 0 all (all_done h (first ++ rest) w)

  learned_paid : (code : ℕ) (order value : List ℕ) → IsLearned (cond (eqb code 0) (learned (own_view core) order value) [])
  learned_paid code order value =
      cond_both (eqb code 0) (learned (own_view core) order value) [] IsLearned
      (λ _. learned_holds IsLearned core nothing (λ c may room. commits c) order value) (λ _. nothing)
    where
      nothing : IsLearned []
      nothing rest later w is a = later w is (less Host all 2 1 w (omega arith) a)

      commits : (c : Command) → IsLearned (Commits c ∷ [])
      commits c rest later w is a =
          and_then Host all 0 1 h (Commits c) rest w (omega arith) (committed Host all 1 c w (less Host all 2 (1 + 1) w (omega arith) a))
          (λ v made b. later v (ap (λ (x : Work). x.core.init) made ∙ ((grind arith) ∙ is)) b)

-- what holds of what a host does with a message in each case, and what goes back is an event
module _ (P : List Deed → Type 0) (core : Core) (p : Port) (m : Message) (none : P []) (drops : P (Drops m.0 ∷ []))
    (goes : (n : ℕ) → header_of m.1 ≡ Ok (IsEvent, n) → P (Sends core.node m ∷ []))
    (ordered : (n : ℕ) → header_of m.1 ≡ Ok (IsCommand, n) → P (ordered_deeds (own_view core) p.desk.errors m.0 n (body_in m.1)))
    (hears : (code : ℕ) (order : List ℕ) → core.command ≡ Some order
    → P (Hears ∷ cond (eqb code 0) (learned (own_view core) order (body_in m.1)) [] ++ init_deeds (own_view core) code (body_in m.1) core.init)) where
  host_walks : P (host_deeds (own_view core) (end_view p) m)
  host_walks = grind arith

module _ (all : ℕ) (core : Core) (h : ℕ) (m : Message) where
  -- the message pays for this, with what the host keeps
  abbrev IsPaidFar : List Deed → Type 0
  IsPaidFar deeds = (w : Work) → w.core ≡ core → Owes Host (message_cost false m.0 m.1) all w → Owes Host 0 all (all_done h deeds w)

  weighed_far : (deeds : List Deed) → weights Host deeds ≤ message_cost false m.0 m.1 → IsPaidFar deeds
  weighed_far deeds most w same a =
      all_owe Host all 0 h deeds w (less Host all (message_cost false m.0 m.1) (0 + weights Host deeds) w (omega (arith, most)) a)

  heard_paid : (code : ℕ) (order : List ℕ) → core.command ≡ Some order
      → IsPaidFar (Hears ∷ cond (eqb code 0) (learned (own_view core) order (body_in m.1)) [] ++ init_deeds (own_view core) code (body_in m.1) core.init)
  heard_paid code order is w same a =
      let first : List Deed = cond (eqb code 0) (learned (own_view core) order (body_in m.1)) [] in
      let rest : List Deed = init_deeds (own_view core) code (body_in m.1) core.init in
      let start : Owes Host 0 all w = less Host all (message_cost false m.0 m.1) 0 w (omega arith) a in
      and_then Host all 0 (0 + 2) h Hears (first ++ rest) w (omega arith) (heard Host all 0 h order w (ap (λ (x : Core). x.command) same ∙ is) start)
      (λ v made b.
      learned_paid all core h code order (body_in m.1) rest (init_paid all core h code (body_in m.1) core.init refl) v
      (ap (λ (x : Work). x.core.init) made ∙ ap (λ (x : Core). x.init) same) (less Host all (0 + 2) 2 v (omega arith) b))

  ordered_paid : (errors n : ℕ) → header_of m.1 ≡ Ok (IsCommand, n) → (b : Bool) → eqb m.0 1 ≡ b
      → IsPaidFar (ordered_deeds (own_view core) errors m.0 n (body_in m.1))
  ordered_paid errors n is true one =
      let pays = notice_cost m.0 m.1 n one is in
      weighed_far (ordered_deeds (own_view core) errors m.0 n (body_in m.1)) (omega (arith, ordered_weighs core errors m.0 n (body_in m.1), pays))
  ordered_paid errors n is false off =
      weighed_far (ordered_deeds (own_view core) errors m.0 n (body_in m.1)) (omega (arith, ordered_free core errors m.0 n (body_in m.1) off))

  pub host_pays : (p : Port) → IsPaidFar (host_deeds (own_view core) (end_view p) m)
  host_pays p = host_walks IsPaidFar core p m (weighed_far [] (omega arith)) (weighed_far (Drops m.0 ∷ []) (omega arith))
      (λ n is. let free = plain_free true m.0 m.1 (rw is refl) in weighed_far (Sends core.node m ∷ []) (omega (arith, free)))
      (λ n is. ordered_paid p.desk.errors n is (eqb m.0 1) refl) heard_paid
