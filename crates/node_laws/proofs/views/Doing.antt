-- Which deeds set REC_ERROR of an end and which leave it, so that what is read of it stays what the node keeps.
use Rattle.node_laws.proofs.Words.{About, AllByRecursion, AllByRecursion-append, Answer, Ask, Asks, Book, Bool, Broken, Command, Commit, Commits, Controller}
use Rattle.node_laws.proofs.Words.{Core, Cut, Decision, Deed, Desk, Drops, End, Ends, Entry, Err, ErrorCount, Give, GoesOn, Hears, Hold, Host, InitFailed}
use Rattle.node_laws.proofs.Words.{InitMade, InitSame, IsAnswered, IsResponse, LinkView, List, Lost, Message, MessageFault, MessageKind, None, Noted}
use Rattle.node_laws.proofs.Words.{OfDecision, OfHost, Ok, Option, Orders, Plain, Port, Release, Releases, Removed, Result, SaysOk, Sends, Sent, SetAside}
use Rattle.node_laws.proofs.Words.{SetsErrors, Some, Tells, Turn, Up, Waits, Work, Write, [], after_turn, all_done, all_of_controller, all_of_host, all_so}
use Rattle.node_laws.proofs.Words.{and-true, answer_of, answers, anyone, ap, apply, arith, asks_for, body_in, body_of, book_after, by_cut, by_test, cases_Bool}
use Rattle.node_laws.proofs.Words.{changed_if, changed_same, command_deeds, commit, commit_writes, cond, cond_both, controller_deeds, count_of, decided}
use Rattle.node_laws.proofs.Words.{decision_deeds, deeds_by_relay, done, end_of_node, end_view, entries_for, entry_of, eqb, eqb-true, errors_after}
use Rattle.node_laws.proofs.Words.{errors_set_by, fails_within, false, far_end, fold, fold-append, goes_through, has, has_link, header_of, holds_back}
use Rattle.node_laws.proofs.Words.{host_deeds, hosts_of_ends, hosts_where, inl, inr, is_held, is_opened, is_up, kind_deeds, length, lets_go, link_deeds}
use Rattle.node_laws.proofs.Words.{link_served, map, node_of, not, noted_of, notified, noting, option_map_or, ordered_deeds, own_deeds, own_gate, own_side}
use Rattle.node_laws.proofs.Words.{own_view, port_at, refl, relayed_to, same_end, served_at, subst, sym, true, true≢false, turn_at, unless_asking, unless_cut}
use Rattle.node_laws.proofs.Words.{view_for, view_of, with_command, with_desk, with_port, ℕ, ◌&&◌, ◌++◌, ◌||◌, ◌∙◌, ◌∷◌, ◌≡◌, ◌⊎◌}
use Rattle.hcp_packet.specs.declared.MessageKind.TheVariants.{Command as IsCommand, Event as IsEvent}
use Rattle.link_laws.specs.entries.Entries.{End as Side}
use Rattle.node_laws.proofs.kept.Doing.{hosts_map}
use Rattle.node_laws.proofs.readings.Noticed.{up_is}
use Rattle.node_laws.proofs.readings.Noting.{IsBeside}
use Rattle.gate_answers.specs.declared.response.Response.TheVariants as response
use Rattle.trace_model.specs.declared.entry.Entry.TheVariants as entry

-- ## What leaves REC_ERROR of an end as it is

-- what is read after these entries, where this was read before
abbrev pub reads : End → List Entry → ErrorCount → ErrorCount
reads e es x = fold (errors_after e) x es

pub reads_append : (e : End) (xs ys : List Entry) (x : ErrorCount) → reads e (xs ++ ys) x ≡ reads e ys (reads e xs x)
reads_append e xs ys x = fold-append (errors_after e) x xs ys

-- no command that sets it waits for its answer, and it is this
pub record IsRead (x : ErrorCount) (errors : ℕ) : Type 0 where
  pub sets : x.sets ≡ None
  pub is : x.errors ≡ errors

-- an entry leaves it
abbrev pub Leaves : End → Entry → Type 0
Leaves e y = (x : ErrorCount) (n : ℕ) → IsRead x n → IsRead (errors_after e x y) n

-- and tells nothing of the controller's tables
abbrev pub IsStill : End → Entry → Type 0
IsStill e y = (x : ErrorCount) (n : ℕ) → IsRead x n → IsRead (errors_after e x y) n × ((errors_after e x y).book ≡ x.book)

pub leaves_all : (e : End) (es : List Entry) (x : ErrorCount) (n : ℕ) → AllByRecursion (Leaves e) es → IsRead x n → IsRead (reads e es x) n
leaves_all e [] x n all r = r
leaves_all e (y ∷ es) x n all r = leaves_all e es (errors_after e x y) n all.1 (all.0 x n r)

pub still_all : (e : End) (es : List Entry) (x : ErrorCount) (n : ℕ) → AllByRecursion (IsStill e) es → IsRead x n
    → IsRead (reads e es x) n × ((reads e es x).book ≡ x.book)
still_all e [] x n all r = (r, refl)
still_all e (y ∷ es) x n all r =
    let one = all.0 x n r in
    let rest = still_all e es (errors_after e x y) n all.1 one.0 in
    (rest.0, rest.1 ∙ one.1)

pub still_leaves : (e : End) (es : List Entry) → AllByRecursion (IsStill e) es → AllByRecursion (Leaves e) es
still_leaves e es all = all_so (IsStill e) (Leaves e) (λ y b. (λ x n r. (b x n r).0)) es all

-- ### Each entry

sent_still : (e f : End) (k pid : ℕ) (message : List ℕ) → IsStill e (entry.Sent f k pid message)
sent_still e f k pid message x n r = grind arith

pub turn_leaves : (e f : End) (pid : ℕ) (message : List ℕ) → same_end f e ≡ false → IsStill e (entry.Turn f pid message)
turn_leaves e f pid message off x n r = grind arith

-- a frame isn't lost as it was damaged
abbrev pub IsUndamaged : Noted → Type 0
IsUndamaged (Lost who frame (Broken fault)) = ⊥
IsUndamaged _ = Unit {0}

pub plainly : (e : End) (x : ErrorCount) (n : ℕ) → IsRead x n → IsRead (record x { sets = None }) n
plainly e x n r = record { sets = refl; is = r.is }

pub notes_still : (e : End) (h : ℕ) (xs : List Noted) → AllByRecursion IsUndamaged xs → AllByRecursion (IsStill e) (entries_for h xs)
notes_still e h [] all = tt
notes_still e h (x ∷ xs) all = AllByRecursion-append (IsStill e) (entry_of h x) (entries_for h xs) (grind arith) (notes_still e h xs all.1)

-- what a node notes beside its links leaves it
pub beside_leaves : (e : End) (k : ℕ) (y : Entry) → IsBeside k y → Leaves e y
beside_leaves e k y b = grind arith

-- ### What is read of the controller

-- it is what is read of it without REC_ERROR
pub book_reads : (e : End) (es : List Entry) (x : ErrorCount) → (reads e es x).book ≡ fold (book_after 0) x.book es
book_reads e [] x = refl
book_reads e (y ∷ es) x = book_reads e es (errors_after e x y) ∙ ap (λ b. fold (book_after 0) b es) (grind arith)

-- ## Which deeds of a message set REC_ERROR
-- Those of a command that sets it, at its turn on a pipe to the link management gate, which is answered by ANY_OK next. Where such a
-- command isn't carried out, it is answered otherwise, or dropped.

-- an init ends so
abbrev pub IsInitEnd : Entry → Type 0
IsInitEnd (InitSame e) = Unit {0}
IsInitEnd (InitMade e count) = Unit {0}
IsInitEnd (InitFailed e code) = Unit {0}
IsInitEnd _ = ⊥

-- a deed doesn't set it
abbrev pub IsUnset : Deed → Type 0
IsUnset (SetsErrors errors) = ⊥
IsUnset (Ends x) = IsInitEnd x
IsUnset _ = Unit {0}

abbrev pub AreUnset : List Deed → Type 0
AreUnset deeds = AllByRecursion IsUnset deeds

-- ### The link management gate

-- where it sets it, it is ANY_SET_PARAMETER, and it is answered by ANY_OK
set_is : (errors instruction : ℕ) (body : List ℕ) (v : ℕ) → (link_served 0 instruction body).1 ≡ Some v
    → (link_served errors instruction body ≡ (answer_of response.Ok [], Some v)) × (eqb instruction 1 ≡ true)
set_is errors instruction body v s = grind arith

-- what a message sets by its header
abbrev set_by_header : List ℕ → Result (MessageKind × ℕ) MessageFault → Option ℕ
set_by_header message (Ok (IsCommand, instruction)) = (link_served 0 instruction (body_in message)).1
set_by_header message _ = None

set_by_is : (message : List ℕ) → errors_set_by message ≡ set_by_header message (header_of message)
set_by_is message = grind arith

-- the pipe leads to the link management gate
abbrev pub is_link_gate : Option ℕ → Bool
is_link_gate gate = option_map_or (λ g. eqb g 6) gate false

-- the command sets nothing, or its pipe leads elsewhere
abbrev pub SetsNone : Bool → Option ℕ → Type 0
SetsNone here sets = cond here sets None ≡ None

-- ### Other messages

plain : Plain IsUnset
plain = record { sends = λ to x. tt; says_ok = tt; releases = λ asker. tt; is_answered = tt; drops = λ pid. tt }

own : (core : Core) → OfHost IsUnset core
own core = record { commits = λ c. tt; hears = tt; goes_on = λ i. tt; orders = λ i k order is. tt; same = tt; made = λ count. tt; failed = λ code. tt }

decision_unset : (h : ℕ) (d : Decision) → OfDecision IsUnset h d
decision_unset h (Answer answer) = tt
decision_unset h (Commit c answer tell notice) = (tt, anyone (λ y. IsUnset (Tells y notice.items)) (λ y. tt) (hosts_where (has tell)))
decision_unset h (Ask asked notice c answer) = tt

pub controller_unset : (core : Core) (ports : List Port) (h : ℕ) (m : Message)
    → SetsNone (is_link_gate (own_gate core.tables h m.0)) (errors_set_by m.1) → AreUnset (controller_deeds (view_of core ports) h m)
controller_unset core ports h m none =
    all_of_controller IsUnset plain core ports h m
    (λ n. decision_unset h (decided core.tables (view_for core.tables ports h) h m.0 n (body_in m.1))) (λ p c here asked. tt)
    (grind arith)

pub host_unset : (core : Core) (p : Port) (m : Message) → SetsNone (eqb m.0 0) (errors_set_by m.1) → AreUnset (host_deeds (own_view core) (end_view p) m)
host_unset core p m none =
    all_of_host IsUnset core plain (own core) p m
    (λ n value command zero is. grind arith)

-- ### Commands that set it

-- a header that sets something is a command's
record SetsBy (message : List ℕ) (v : ℕ) : Type 0 where
  pub instruction : ℕ
  pub header : header_of message ≡ Ok (IsCommand, instruction)
  pub sets : (link_served 0 instruction (body_in message)).1 ≡ Some v

sets_by : (message : List ℕ) (v : ℕ) → errors_set_by message ≡ Some v → SetsBy message v
sets_by message v e = by (header_of message) refl where
  by : (x : Result (MessageKind × ℕ) MessageFault) → header_of message ≡ x → SetsBy message v
  by (Ok (IsCommand, instruction)) q = record { instruction = instruction; header = q; sets = sym (set_by_is message ∙ ap (set_by_header message) q) ∙ e }
  by (Ok (IsEvent, instruction)) q = let none : None ≡ Some v = sym (set_by_is message ∙ ap (set_by_header message) q) ∙ e in absurd (cc none)
  by (Ok (IsResponse, code)) q = let none : None ≡ Some v = sym (set_by_is message ∙ ap (set_by_header message) q) ∙ e in absurd (cc none)
  by (Err fault) q = let none : None ≡ Some v = sym (set_by_is message ∙ ap (set_by_header message) q) ∙ e in absurd (cc none)

-- the end of the link with this host is up
pub record IsUpAt (ports : List Port) (h : ℕ) : Type 0 where
  pub port : Port
  pub here : port_at ports h ≡ Some port
  pub up : port.side.shdlc.phase ≡ Up

-- what is done with a command that sets it to v: it is set and answered by ANY_OK, it is answered otherwise, or it is dropped
pub data SetDeeds (ports : List Port) (h pid v : ℕ) (deeds : List Deed) : Type 0 where
  IsSet : IsUpAt ports h → deeds ≡ SetsErrors v ∷ Sends h (pid, answer_of response.Ok []) ∷ [] → SetDeeds ports h pid v deeds
  IsRefused : IsUpAt ports h → deeds ≡ Sends h (pid, answer_of response.PipeNotOpened []) ∷ [] → SetDeeds ports h pid v deeds
  IsDropped : deeds ≡ Drops pid ∷ [] → SetDeeds ports h pid v deeds

link_up : (ports : List Port) (h : ℕ) → has_link ports h ≡ true → IsUpAt ports h
link_up ports h up = grind arith

abbrev both_of : ℕ → ℕ → Option (ℕ × ℕ)
both_of host gate = Some (host, gate)

pub controller_sets : (core : Core) (ports : List Port) (h : ℕ) (m : Message) (v : ℕ) → is_link_gate (own_gate core.tables h m.0) ≡ true
    → errors_set_by m.1 ≡ Some v → SetDeeds ports h m.0 v (controller_deeds (view_of core ports) h m)
controller_sets core ports h m v leads sets =
    subst (SetDeeds ports h m.0 v) (sym (ap (deeds_by_relay (view_of core ports) h m) relayed_none)) (by_link (has_link ports h) refl) where
      s : SetsBy m.1 v
      s = sets_by m.1 v sets

      far : far_end core.tables h m.0 ≡ both_of 0 6
      far = grind arith

      relayed_none : relayed_to core.tables h m ≡ None
      relayed_none = rw far (cond_both _ None None (λ o. o ≡ None) (λ _. refl) (λ _. refl))

      other_pipe : eqb m.0 1 ≡ false
      other_pipe = grind arith

      kind_is : kind_deeds (view_of core ports) h m (header_of m.1) ≡ command_deeds (view_of core ports) h m.0 s.instruction (body_in m.1)
      kind_is = ap (kind_deeds (view_of core ports) h m) s.header
          ∙ ap (λ b. unless_asking (view_of core ports) h m s.instruction (b && asks_for ports h)) other_pipe

      one_is : s.instruction ≡ 1
      one_is = eqb-true s.instruction 1 (set_is 0 s.instruction (body_in m.1) v s.sets).1

      view : LinkView
      view = view_for core.tables ports h

      through_is : goes_through core.tables h m.0 s.instruction ≡ is_opened core.tables h m.0
      through_is = ap (λ n. is_opened core.tables h m.0 && not (eqb n 3 || eqb n 4)) one_is ∙ and-true (is_opened core.tables h m.0)

      command_is : (b : Bool) → is_opened core.tables h m.0 ≡ b
          → command_deeds (view_of core ports) h m.0 s.instruction (body_in m.1)
          ≡ served_at (own_view core) view h m.0 s.instruction (body_in m.1) (cond b (Some 6) None)
      command_is b q =
          ap (λ c. served_at (own_view core) view h m.0 s.instruction (body_in m.1) (cond c (own_gate core.tables h m.0) None)) (through_is ∙ q)
          ∙ ap (λ o. served_at (own_view core) view h m.0 s.instruction (body_in m.1) (cond b o None)) (rw far refl)

      refused : is_opened core.tables h m.0 ≡ false → decided core.tables view h m.0 s.instruction (body_in m.1) ≡ answers response.PipeNotOpened []
      refused q = ap (λ n. decided core.tables view h m.0 n (body_in m.1)) one_is ∙ rw (far, q) refl

      by_opened : (b : Bool) → is_opened core.tables h m.0 ≡ b → IsUpAt ports h
          → SetDeeds ports h m.0 v (command_deeds (view_of core ports) h m.0 s.instruction (body_in m.1))
      by_opened true q up = IsSet up (command_is true q ∙ (ap (link_deeds h m.0) (set_is view.errors s.instruction (body_in m.1) v s.sets).0))
      by_opened false q up = IsRefused up (command_is false q ∙ ap (decision_deeds (own_view core) h m.0) (refused q))

      by_link : (b : Bool) → has_link ports h ≡ b → SetDeeds ports h m.0 v (own_deeds (view_of core ports) h m b)
      by_link false q = IsDropped refl
      by_link true q = subst (SetDeeds ports h m.0 v) (sym kind_is) (by_opened (is_opened core.tables h m.0) refl (link_up ports h q))

pub host_sets : (core : Core) (ports : List Port) (p : Port) (m : Message) (v : ℕ) → port_at ports core.node ≡ Some p → eqb m.0 0 ≡ true
    → errors_set_by m.1 ≡ Some v → SetDeeds ports core.node m.0 v (host_deeds (own_view core) (end_view p) m)
host_sets core ports p m v here zero sets = by_test (is_up p.side.shdlc.phase)
    (λ q. let shown : host_deeds (own_view core) (end_view p) m
    ≡ ordered_deeds (own_view core) p.desk.errors m.0 s.instruction (body_in m.1) = rw (q, s.header) refl in
    IsSet (record { port = p; here = here; up = up_is p.side.shdlc.phase q })
    (shown ∙ (ordered_is ∙ (ap (link_deeds core.node m.0) (set_is p.desk.errors s.instruction (body_in m.1) v s.sets).0))))
    (λ q. IsDropped (rw q refl)) where
      s : SetsBy m.1 v
      s = sets_by m.1 v sets

      zero_is : m.0 ≡ 0
      zero_is = eqb-true m.0 0 zero

      ordered_is : ordered_deeds (own_view core) p.desk.errors m.0 s.instruction (body_in m.1)
          ≡ link_deeds core.node m.0 (link_served p.desk.errors s.instruction (body_in m.1))
      ordered_is = grind arith

-- ## A node does deeds that don't set REC_ERROR of its end: what is read of it stays what the node keeps

-- the side of its link that an end is on
abbrev pub side_of : End → Side
side_of e = cond e.at_host Host Controller

-- the end itself, where it is this one, has had so many errors
abbrev pub HasErrors : End → ℕ → Port → Type 0
HasErrors e n p = eqb p.desk.host e.link ≡ true → p.desk.errors ≡ n

pub map_has : (e : End) (n : ℕ) (f : Port → Port) → ((p : Port) → HasErrors e n p → HasErrors e n (f p)) → (ports : List Port)
    → AllByRecursion (HasErrors e n) ports → AllByRecursion (HasErrors e n) (map f ports)
map_has e n f one [] all = tt
map_has e n f one (p ∷ ports) all = (one p all.0, map_has e n f one ports all.1)

module _ (e : End) (hosts : List ℕ) (x0 : ErrorCount) where
  -- The node of the end is in a step: what is read of REC_ERROR is what it keeps, and the controller's tables are those that are read
  -- while it has power.
  pub record Right (w : Work) : Type 0 where
    pub number : w.core.node ≡ node_of e
    pub side : own_side w.core ≡ side_of e
    pub hosts_are : hosts_of_ends w.ports ≡ hosts
    pub errors : ℕ
    pub read : IsRead (reads e w.entries x0) errors
    pub ends : AllByRecursion (HasErrors e errors) w.ports
    pub tables : w.cut ≡ false → e.at_host ≡ false → w.core.tables ≡ (reads e w.entries x0).book.tables

  pub note : (es : List Entry) (w : Work) → AllByRecursion (IsStill e) es → Right w → Right (noting es w)
  note es w still r =
      let more = still_all e es (reads e w.entries x0) r.errors still r.read in
      record {
        number = r.number;
        side = r.side;
        hosts_are = r.hosts_are;
        errors = r.errors;
        read = subst (λ x. IsRead x r.errors) (sym (reads_append e w.entries es x0)) more.0;
        ends = r.ends;
        tables = λ on near. r.tables on near ∙ ap (λ (b : Book). b.tables) (sym (ap (λ (x : ErrorCount). x.book) (reads_append e w.entries es x0) ∙ more.1));
      }

  pub maps : (f : Port → Port) (w : Work) → ((p : Port) → (f p).desk.host ≡ p.desk.host) → ((p : Port) → (f p).desk.errors ≡ p.desk.errors) → Right w
      → Right (record w { ports = map f w.ports })
  maps f w host errors r = record {
    number = r.number;
    side = r.side;
    hosts_are = hosts_map f host w.ports ∙ r.hosts_are;
    errors = r.errors;
    read = r.read;
    ends = map_has e r.errors f (λ p has is. errors p ∙ has (ap (λ h. eqb h e.link) (sym (host p)) ∙ is)) w.ports r.ends;
    tables = r.tables;
  }

  with_ends : (k : ℕ) (f : Port → Port) (w : Work) → ((p : Port) → (f p).desk.host ≡ p.desk.host) → ((p : Port) → (f p).desk.errors ≡ p.desk.errors) → Right w
      → Right (record w { ports = with_port k f w.ports })
  with_ends k f w host errors r = maps (λ p. changed_if (eqb p.desk.host k) f p) w (λ p. changed_same (λ (q : Port). q.desk.host) (eqb p.desk.host k) f p host)
      (λ p. changed_same (λ (q : Port). q.desk.errors) (eqb p.desk.host k) f p errors) r

  pub desks : (k : ℕ) (f : Desk → Desk) (w : Work) → ((d : Desk) → (f d).host ≡ d.host) → ((d : Desk) → (f d).errors ≡ d.errors) → Right w
      → Right (with_desk k f w)
  desks k f w host errors r = with_ends k (λ p. record p { desk = f p.desk }) w (λ p. host p.desk) (λ p. errors p.desk) r

  pub turns : (k : ℕ) (t : Turn) (w : Work) → Right w → Right (turn_at k t w)
  turns k t w r =
      note (option_map_or (noted_of w.core t) (port_at w.ports k) []) (record w { ports = with_port k (after_turn t) w.ports })
      (grind arith) (with_ends k (after_turn t) w (λ p. refl) (λ p. refl) r)

  tells : (k : ℕ) (about : About) (message : List ℕ) (w : Work) → Right w → Right (notified k about message w)
  tells k about message w r =
      desks k (λ d. record d { notice = Some (record { about = about; age = 0 }) }) (turn_at k (Give (1, message)) w) (λ d. refl) (λ d. refl) (turns k (Give
      (1, message)) w r)

  pub with_core : (w : Work) (c : Core) → c.node ≡ w.core.node → c.tables ≡ w.core.tables → Right w → Right (record w { core = c })
  with_core w c same tables r = grind arith

  -- a command is read, and REC_ERROR stays
  with_read : (w : Work) (y : Entry) (r : Right w) → IsRead (errors_after e (reads e w.entries x0) y) r.errors
      → IsRead (reads e (w.entries ++ y ∷ []) x0) r.errors
  with_read w y r is = subst (λ x. IsRead x r.errors) (sym (reads_append e w.entries (y ∷ []) x0)) is

  commits : (c : Command) (w : Work) → Right w → Right (commit c w)
  commits c w r = go (cases_Bool (fails_within (length writes) w.plan)) where
    writes : List Write
    writes = commit_writes w.core.journal w.core.tables (body_of c)

    begun : Work
    begun = noting (entry.Command w.core.node c ∷ []) w

    read : IsRead (reads e begun.entries x0) r.errors
    read = with_read w (entry.Command w.core.node c) r (beside_leaves e w.core.node (entry.Command w.core.node c) refl (reads e w.entries x0) r.errors r.read)

    zero : e.at_host ≡ false → w.core.node ≡ 0
    zero near = r.number ∙ rw near refl

    told : e.at_host ≡ false → (reads e begun.entries x0).book ≡ with_command c (reads e w.entries x0).book
    told near =
        ap (λ (x : ErrorCount). x.book) (reads_append e w.entries (entry.Command w.core.node c ∷ []) x0)
        ∙ ap (λ n. cond (eqb n 0) (with_command c (reads e w.entries x0).book) (reads e w.entries x0).book) (zero near)

    go : (fails_within (length writes) w.plan ≡ true) ⊎ (fails_within (length writes) w.plan ≡ false) → Right (commit c w)
    go (inl q) = rw q (record {
      number = r.number;
      side = r.side;
      hosts_are = r.hosts_are;
      errors = r.errors;
      read = subst (λ x. IsRead x r.errors) (sym (reads_append e begun.entries (entry.Cut w.core.node ∷ []) x0))
          (beside_leaves e w.core.node (entry.Cut w.core.node) refl (reads e begun.entries x0) r.errors read);
      ends = r.ends;
      tables = λ on near. absurd (true≢false on);
    })
    go (inr q) = rw q (record {
      number = r.number;
      side = r.side;
      hosts_are = r.hosts_are;
      errors = r.errors;
      read = read;
      ends = r.ends;
      tables = λ on near. ap (λ t. apply t c) (r.tables on near) ∙ sym (ap (λ (b : Book). b.tables) (told near));
    })

  -- ### Deeds

  -- a deed for a message of the host k sets it at another end, if at all
  abbrev pub IsFine : ℕ → Deed → Type 0
  IsFine k (SetsErrors errors) = eqb k e.link ≡ false
  IsFine k (Ends y) = IsInitEnd y
  IsFine k _ = Unit {0}

  pub unset_fine : (k : ℕ) (deeds : List Deed) → AreUnset deeds → AllByRecursion (IsFine k) deeds
  unset_fine k [] all = tt
  unset_fine k (d ∷ deeds) all = (grind arith, unset_fine k deeds all.1)

  -- it is set at another end
  sets_other : (k v : ℕ) (w : Work) → eqb k e.link ≡ false → Right w → Right (done k (SetsErrors v) w)
  sets_other k v w off r = record {
    number = r.number;
    side = r.side;
    hosts_are = hosts_map (λ p. changed_if (eqb p.desk.host k) set p)
        (λ p. changed_same (λ (q : Port). q.desk.host) (eqb p.desk.host k) set p (λ q. refl)) w.ports ∙ r.hosts_are;
    errors = r.errors;
    read = r.read;
    ends = map_has e r.errors (λ p. changed_if (eqb p.desk.host k) set p) (λ p has. grind arith) w.ports r.ends;
    tables = r.tables;
  } where
    set : Port → Port
    set p = record p { desk = record p.desk { errors = v } }

  does : (k : ℕ) (d : Deed) (w : Work) → IsFine k d → Right w → Right (done k d w)
  does k (Commits c) w q r = commits c w r
  does k (Sends to m) w q r = turns to (Give m) w r
  does k SaysOk w q r = note (entry.AnyOk w.core.node (count_of w.core.journal) ∷ []) w ((λ x n i. (plainly e x n i, refl)), tt) r
  does k (Asks to message c) w q r =
      tells to (Waits c) message (noting (entry.Ask to message ∷ []) (turn_at c.asker SetAside w))
      (note (entry.Ask to message ∷ []) (turn_at c.asker SetAside w) ((λ x n i. (plainly e x n i, refl)), tt) (turns c.asker SetAside w r))
  does k (Releases asker) w q r = turns asker Release w r
  does k (Tells to message) w q r = tells to Removed message w r
  does k IsAnswered w q r = desks k (λ d. record d { notice = None }) w (λ d. refl) (λ d. refl) r
  does k (Drops pid) w q r = note (entry.Dropped (end_of_node w.core k) pid ∷ []) w ((λ x n i. (plainly e x n i, refl)), tt) r
  does k (SetsErrors errors) w q r = sets_other k errors w q r
  does k (Orders message) w q r = turns k (Give (1, message)) (record w { core = record w.core { command = Some message } }) (grind arith)
  does k Hears w q r = with_core w (record w.core { command = None }) refl refl r
  does k (GoesOn i) w q r = with_core w (record w.core { init = Some i }) refl refl r
  does k (Ends y) w q r =
      note (y ∷ []) (record w { core = record w.core { init = None } }) (grind arith, tt) (with_core w (record w.core { init = None }) refl refl r)

  pub unless : (f : Work → Work) (w : Work) → (w.cut ≡ false → Right w → Right (f w)) → Right w → Right (unless_cut f w)
  unless f w one r = by_cut Right f w (λ q. r) (λ q. one q r)

  pub all_do : (k : ℕ) (deeds : List Deed) (w : Work) → AllByRecursion (IsFine k) deeds → Right w → Right (all_done k deeds w)
  all_do k [] w q r = r
  all_do k (d ∷ deeds) w q r = unless (all_done k deeds) (done k d w) (λ on s. all_do k deeds (done k d w) q.1 s) (does k d w q.0 r)

  -- ### Messages that are held

  pub holds : (k : ℕ) (short : ℕ × ℕ) (w : Work) → Right w → Right (holds_back k short w)
  holds k short w r = by_test (option_map_or (λ (p : Port). p.desk.holds) (port_at w.ports k) false)
      (λ q. rw q (turns k (Hold true) w r))
      (λ q. rw q (turns k (Hold true) (with_desk k (λ d. record d { holds = true }) said) (desks k (λ d. record d { holds = true }) said (λ d. refl) (λ d. refl)
      (note (entry.Held (end_of_node w.core k) short.0 short.1 ∷ []) w ((λ x n i. (plainly e x n i, refl)), tt) r)))) where
        said : Work
        said = noting (entry.Held (end_of_node w.core k) short.0 short.1 ∷ []) w

  pub lets : (k : ℕ) (w : Work) → Right w → Right (lets_go k w)
  lets k w r = by_test (option_map_or (λ (p : Port). is_held p.side) (port_at w.ports k) false) (λ q. rw q (turns k (Hold false) w r)) (λ q. rw q r)
