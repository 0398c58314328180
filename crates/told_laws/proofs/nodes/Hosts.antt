-- What nodes, hosts among them, do with a message is in its range.
use Rattle.told_laws.proofs.Words.{AllByRecursion, AllByRecursion-get, ArePipeRows, Asks, Bool, Clear, Command, Commits, Core, Create, Creation, Deed, Delete}
use Rattle.told_laws.proofs.Words.{Desk, Drops, Ends, Err, GoesOn, HciTables, Init, InitFailed, InitMade, InitSame, IsByte, IsCommand, IsDynamic, IsEnd}
use Rattle.told_laws.proofs.Words.{IsEvent, IsResponse, IsSaidCommand, List, Message, MessageFault, MessageKind, None, Ok, Option, Orders, PipeRow, Port}
use Rattle.told_laws.proofs.Words.{Result, Sends, Set, SetOpened, SetsErrors, Some, Tells, [], about_at, answer_of, answers_on, anyone, ap, arith, asks_for}
use Rattle.told_laws.proofs.Words.{body_in, by_option, by_test, code_of, cond, cond_both, controller_deeds, count_by-le-length, count_in, creation_deeds}
use Rattle.told_laws.proofs.Words.{creation_in, decision_deeds, each-append, end_of_node, end_view, ends_at, eqb, false, finds_room, first_of, gates}
use Rattle.told_laws.proofs.Words.{goes_through, has_link, header_of, identity_served, instruction_in, is_dynamic, is_opened, is_some, is_up, kind_deeds}
use Rattle.told_laws.proofs.Words.{length, length-rows, link_deeds, link_served, link_unless, map, nat_lt, not, notice_deeds, opened_on, option_map_or}
use Rattle.told_laws.proofs.Words.{ordered_holds, own_gate, own_side, own_view, param_in, pid_of, pipe_at, port_at, refl, relayed_to, row_of-within, served_at}
use Rattle.told_laws.proofs.Words.{slice_get, subst, tests_to_get, tests_to_set_errors, told_hold, true, value_at, value_behind, view_for, view_of, ℕ, ◌&&◌}
use Rattle.told_laws.proofs.Words.{◌++◌, ◌+◌, ◌<◌, ◌==◌, ◌∷◌, ◌≡◌, ◌≤◌}
use Rattle.gate_admin.proofs.CreationLemmas.{creation-recordable}
use Rattle.gate_admin.specs.Decide.{answers, carried_out, clearing, closing, commits, commits_and_tells, creating, creation, decided, deleting, dest_in}
use Rattle.gate_admin.specs.Decide.{ends_of, far_end, getting, opening, others_opened, setting, tests_of_pipe, tests_to_clear, tests_to_create, tests_to_delete}
use Rattle.gate_admin.specs.Decide.{tests_to_open, tests_to_set_it, told_of_clearing, told_of_deletion, value_of}
use Rattle.gate_admin.specs.View.{has, hosts_where, is_configured, mask_of}
use Rattle.gate_admin.specs.declared.decision.Decision.{Decision}
use Rattle.gate_admin.specs.declared.decision.Decision.TheVariants.{Answer, Ask, Commit}
use Rattle.gate_admin.specs.declared.view.LinkView.{LinkView}
use Rattle.gate_answers.specs.declared.response.Response.{Response}
use Rattle.node_laws.proofs.links.Noticing.{nobody}
use Rattle.node_laws.proofs.steps.StepWalks.{at_port}
use Rattle.node_machine.specs.HostReplies.{accepts, created_by, deleted_by, host_deeds, init_agreed, init_deeds, is_same, learned, learns, ordered_deeds}
use Rattle.node_machine.specs.HostReplies.{orders_of, response_deeds}
use Rattle.tables_laws.proofs.gate.Decisions.{new_row, unless}
use Rattle.told_laws.proofs.nodes.Commands.{AreTablesIn, IfMade, IsCommandIn, IsIn, IsShortCommand, index_in, recordable_made, value_read_in}
use Rattle.told_laws.proofs.nodes.Machines.{AreBytes, IsMail}
use Rattle.told_laws.proofs.told.BarePlays.{each_all, end_in}
use Rattle.told_laws.proofs.told.Links.{drop_each}
use Rattle.gate_answers.specs.declared.response.Response.TheVariants as response

-- ## What nodes do with a message is in its range: what they send and tell are bytes, and what they commit can be told

-- ### Messages

-- the bytes of a message
pub record IsSaying (message : List ℕ) : Type 0 where
  pub some : 0 < length message
  pub bytes : AreBytes message
  pub short : length message ≤ 4096

pub saying : (pipe : ℕ) (message : List ℕ) → pipe < 112 → IsSaying message → IsMail (pipe, message)
saying pipe message low h = record { pipe = low; some = h.some; bytes = h.bytes; short = h.short }

code_low : (r : Response) → code_of r < 64
code_low r = grind arith

pub answer_in : (r : Response) (value : List ℕ) → AreBytes value → length value ≤ 4095 → IsSaying (answer_of r value)
answer_in r value h few = let low = code_low r in record { some = omega arith; bytes = (omega (arith, low), h); short = omega (arith, few) }

body_bytes : (message : List ℕ) → AreBytes message → AreBytes (body_in message)
body_bytes message h = drop_each IsByte 1 message h

-- ### Creations and inits

pub record IsCreationIn (c : Creation) : Type 0 where
  pub command : IsCommandIn c.command
  pub answer : IsSaying c.answer

abbrev pub IfCreation : Option Creation → Type 0
IfCreation None = Unit {0}
IfCreation (Some c) = IsCreationIn c

pub record IsInitIn (i : Init) : Type 0 where
  pub identity : AreBytes i.identity × (length i.identity ≤ 4000)
  pub pipes : AllByRecursion (λ (pipe : List ℕ). AreBytes pipe × (length pipe ≤ 4000)) i.pipes
  pub few : length i.pipes ≤ 8

-- what is kept of an end
pub record IsDeskIn (d : Desk) : Type 0 where
  pub host : d.host ≤ 7
  pub creation : IfCreation (creation_in d.notice)
  pub errors : d.errors < 65536

-- ### Deeds

-- a deed is in its range
abbrev pub IsDeedIn : Deed → Type 0
IsDeedIn (Commits c) = IsCommandIn c
IsDeedIn (Sends to m) = IsMail m
IsDeedIn (Asks to message c) = (to < 256) × IsSaying message × IsCreationIn c
IsDeedIn (Tells to message) = IsSaying message
IsDeedIn (Drops pid) = pid < 256
IsDeedIn (SetsErrors errors) = errors < 65536
IsDeedIn (Orders message) = IsSaying message
IsDeedIn (GoesOn i) = IsInitIn i
IsDeedIn (Ends e) = (n : ℕ) → IsIn n e
IsDeedIn _ = Unit {0}

abbrev pub AreDeedsIn : List Deed → Type 0
AreDeedsIn deeds = AllByRecursion IsDeedIn deeds

pub low : 1 < 112
low = omega arith

answers_in : (h pipe : ℕ) (message : List ℕ) → pipe < 112 → IsSaying message → AreDeedsIn (answers_on h pipe message)
answers_in h pipe message p a = (saying pipe message p a, tt)

-- ### What the administration gate decides

abbrev IsDecisionIn : Decision → Type 0
IsDecisionIn (Answer answer) = IsSaying answer.items
IsDecisionIn (Commit c answer tell notice) =
    IsCommandIn c × IsSaying answer.items × AllByRecursion (λ (x : ℕ). IsSaying notice.items) (hosts_where (has tell))
IsDecisionIn (Ask dest notice c answer) = (dest < 256) × IsSaying notice.items × IsCommandIn c × IsSaying answer.items

none_told : (message : List ℕ) → AllByRecursion (λ (x : ℕ). IsSaying message) (hosts_where (has 0))
none_told message = rw nobody tt

tells_in : (c : Command) (told notice : List ℕ) → IsCommandIn c → IsSaying notice → IsDecisionIn (commits_and_tells c told notice)
tells_in c [] notice is a = (is, answer_in response.Ok [] tt (omega arith), none_told [])
tells_in c (x ∷ told) notice is a =
    (is, answer_in response.Ok [] tt (omega arith), anyone (λ x. IsSaying notice) (λ x. a) (hosts_where (has (mask_of (x ∷ told)))))

-- at most 110 pipes are opened
others_low : (t : HciTables) (host pipe : ℕ) → ArePipeRows t.rows → others_opened t host pipe < 256
others_low t host pipe rows =
    cond_both (nat_lt pipe 2) 0 (option_map_or (λ (end : ℕ × ℕ). opened_on t.rows end.0 end.1 pipe) (far_end t host pipe) 0) (λ k. k < 256)
    (λ _. omega arith) (λ _. by (far_end t host pipe))
  where
    by : (o : Option (ℕ × ℕ)) → option_map_or (λ (end : ℕ × ℕ). opened_on t.rows end.0 end.1 pipe) o 0 < 256
    by None = omega arith
    by (Some end) =
        let few = count_by-le-length (λ (row : PipeRow). row.opened && ends_at row end.0 end.1 && not (row.pid == pipe)) t.rows in
        omega (arith, length-rows pid_of 2 112 t.rows rows, few)

host_bytes : (test : ℕ → Bool) → AreBytes (hosts_where test)
unfolding hosts_where
host_bytes test = grind arith

-- the bytes of a value, which is short
abbrev IsValue : List ℕ → Type 0
IsValue value = AreBytes value × (length value ≤ 4095)

host_few : (test : ℕ → Bool) → length (hosts_where test) ≤ 7
unfolding hosts_where
host_few test = grind arith

value_in : (t : HciTables) (v : LinkView) (host param : ℕ) → AreTablesIn t → IsValue (value_of t v host param)
value_in t v host param h =
    cond_both (param == 2) (110 ∷ []) _ IsValue (λ _. ((omega arith, tt), omega arith))
    (λ _. cond_both (param == 4) (0 ∷ hosts_where (is_configured v)) _ IsValue
    (λ _. let few = host_few (is_configured v) in ((omega arith, host_bytes (is_configured v)), omega (arith, few)))
    (λ _. cond_both _ (value_at t.values host 0 param) [] IsValue (λ _. value_read_in t.values host 0 param h.values) (λ _. (tt, omega arith))))

row_in : (t : HciTables) (v : LinkView) (host : ℕ) (body : List ℕ) → host ≤ 7 → AreBytes body → first_of (tests_to_create t v host body) ≡ None
    → IsCommandIn (Create (new_row t v host body)) × AreBytes (ends_of (new_row t v host body))
row_in t v host body small bytes passed =
    let made = recordable_made (Create (new_row t v host body)) (creation-recordable t v host body small passed) in
    let a = index_in body 0 bytes in
    let c = index_in body 2 bytes in
    let pid : (new_row t v host body).pid < 256 = omega (arith, made.1) in grind arith

plain_command : (c : Command) → IsSaidCommand c → IsShortCommand c → IfMade c → IsCommandIn c
plain_command c said short made = record { said = said; short = short; made = made }

module _ (t : HciTables) (v : LinkView) (host pipe : ℕ) (body : List ℕ) (tables : AreTablesIn t) (rows : ArePipeRows t.rows) (small : host ≤ 7)
    (upto : pipe < 112) (bytes : AreBytes body) (few : length body ≤ 4095) where
  host_byte : host < 256
  host_byte = omega (arith, small)

  refused : (r : Response) → IsDecisionIn (answers r [])
  refused r = answer_in r [] tt (omega arith)

  creates_in : first_of (tests_to_create t v host body) ≡ None → IsDecisionIn (creation (new_row t v host body))
  creates_in passed =
      let row = row_in t v host body small bytes passed in
      cond_both (eqb (dest_in body) 0) (commits (Create (new_row t v host body)) _) _ IsDecisionIn
      (λ _. (row.0, answer_in response.Ok (ends_of (new_row t v host body)) row.1 (omega arith), none_told []))
      (λ _. grind arith)

  carried_in : (instruction : ℕ) → IsDecisionIn (carried_out t v host pipe instruction body)
  carried_in instruction =
      cond_both (eqb instruction 3) (opening t host pipe body) _ IsDecisionIn
      (λ _. unless IsDecisionIn (first_of (tests_to_open body)) _ refused
      (λ _. cond_both (is_opened t host pipe) _ _ IsDecisionIn
      (λ _. answer_in response.Ok (others_opened t host pipe ∷ []) (others_low t host pipe rows, tt) (omega arith))
      (λ _. (
        plain_command (SetOpened host pipe true) (host_byte, omega (arith, upto)) tt tt,
        answer_in response.Ok (others_opened t host pipe ∷ []) (others_low t host pipe rows, tt) (omega arith),
        none_told [],
      ))))
      (λ _. cond_both (eqb instruction 4) (closing host pipe body) _ IsDecisionIn
      (λ _. unless IsDecisionIn (first_of (tests_to_open body)) _ refused
      (λ _. (plain_command (SetOpened host pipe false) (host_byte, omega (arith, upto)) tt tt, answer_in response.Ok [] tt (omega arith), none_told [])))
      (λ _. cond_both (eqb instruction 1) (setting v host body) _ IsDecisionIn
      (λ _. unless IsDecisionIn (first_of (tests_to_set_it v host body)) _ refused
      (λ _. (
        plain_command (Set host 0 (param_in body) (record { items = value_behind body }))
            (host_byte, omega arith, index_in body 0 bytes, each_all IsByte (value_behind body) (drop_each IsByte 1 body bytes)) (grind arith) tt,
        answer_in response.Ok [] tt (omega arith),
        none_told [],
      )))
      (λ _. cond_both (eqb instruction 2) (getting t v host body) _ IsDecisionIn
      (λ _. unless IsDecisionIn (first_of (tests_to_get 0 body)) _ refused
      (λ _. (let value = value_in t v host (param_in body) tables in answer_in response.Ok (value_of t v host (param_in body)) value.0 value.1)))
      (λ _. cond_both (eqb instruction 16) (creating t v host body) _ IsDecisionIn
      (λ _. unless IsDecisionIn (first_of (tests_to_create t v host body)) (creation (new_row t v host body)) refused creates_in)
      (λ _. cond_both (eqb instruction 17) (deleting t v host body) _ IsDecisionIn
      (λ _. unless IsDecisionIn (first_of (tests_to_delete t v host body)) _ refused
      (λ _. tells_in (Delete (param_in body)) (told_of_deletion t v host (param_in body)) (19 ∷ param_in body ∷ [])
      (plain_command (Delete (param_in body)) (index_in body 0 bytes) tt tt)
      (record { some = omega arith; bytes = (omega arith, (index_in body 0 bytes, tt)); short = omega arith })))
      (λ _. cond_both (eqb instruction 20) (clearing t v host body) _ IsDecisionIn
      (λ _. unless IsDecisionIn (first_of (tests_to_clear t v host body)) _ refused
      (λ _. tells_in (Clear host) (told_of_clearing t v host) (21 ∷ host ∷ []) (plain_command (Clear host) host_byte tt tt)
      (record { some = omega arith; bytes = (omega arith, (host_byte, tt)); short = omega arith })))
      (λ _. refused response.CommandNotSupported)))))))

  decided_in : (instruction : ℕ) → IsDecisionIn (decided t v host pipe instruction body)
  decided_in instruction =
      unless IsDecisionIn (first_of (tests_of_pipe t host pipe instruction)) (carried_out t v host pipe instruction body) refused
      (λ _. carried_in instruction)

-- ### Other gates

record IsServedIn (served : List ℕ × Option ℕ) : Type 0 where
  pub message : IsSaying served.0
  pub value : (errors : ℕ) → served.1 ≡ Some errors → errors < 65536

link_one : (o : Option Response) (otherwise : List ℕ × Option ℕ) → IsServedIn otherwise → IsServedIn (link_unless o otherwise)
link_one o otherwise a = grind arith

link_in : (errors instruction : ℕ) (body : List ℕ) → errors < 65536 → AreBytes body → IsServedIn (link_served errors instruction body)
link_in errors instruction body few bytes =
    cond_both (eqb instruction 1) _ _ IsServedIn
    (λ _. link_one (first_of (tests_to_set_errors body)) (answer_of response.Ok [], Some (count_in (value_behind body)))
    (record { message = answer_in response.Ok [] tt (omega arith); value = λ k is. set_low k is }))
    (λ _. grind arith)
  where
    set_low : (k : ℕ) → Some (count_in (value_behind body)) ≡ Some k → k < 65536
    set_low k is =
        let same : count_in (value_behind body) ≡ k = cc in
        omega (arith, same, index_in (value_behind body) 0 (drop_each IsByte 1 body bytes), index_in (value_behind body) 1 (grind arith))

link_deeds_in : (h pipe : ℕ) (served : List ℕ × Option ℕ) → pipe < 112 → IsServedIn served → AreDeedsIn (link_deeds h pipe served)
link_deeds_in h pipe served p a = grind arith

-- ### A controller

decision_in : (core : Core) (h pipe : ℕ) (d : Decision) → pipe < 112 → IsDecisionIn d → AreDeedsIn (decision_deeds (own_view core) h pipe d)
decision_in core h pipe (Answer answer) p a = answers_in h pipe answer.items p a
decision_in core h pipe (Commit c answer tell notice) p a =
    let h0 = finds_room core c in let h1 = told_hold IsDeedIn notice.items (hosts_where (has tell)) a.2 in grind arith
decision_in core h pipe (Ask dest notice c answer) p a = ((a.0, a.1, record { command = a.2; answer = a.3 }), tt)

abbrev pub AreDesksIn : List Port → Type 0
AreDesksIn ports = AllByRecursion (λ (p : Port). IsDeskIn p.desk) ports

errors_at : (ports : List Port) (h : ℕ) → AreDesksIn ports → option_map_or (λ (p : Port). p.desk.errors) (port_at ports h) 0 < 65536
errors_at ports h a = by_option (port_at ports h) (λ q. rw q (omega arith)) (λ p q. rw q (at_port (λ (p : Port). IsDeskIn p.desk) ports h p a q).errors)

module _ (core : Core) (ports : List Port) (h : ℕ) (m : Message) (tables : AreTablesIn core.tables) (rows : ArePipeRows core.tables.rows)
    (a : AreDesksIn ports) (small : h ≤ 7) (s : IsMail m) where
  p : m.0 < 112
  p = s.pipe

  drops_in : AreDeedsIn (Drops m.0 ∷ [])
  drops_in = (omega (arith, p), tt)

  served_in : (instruction : ℕ) (o : Option ℕ) → AreDeedsIn (served_at (own_view core) (view_for core.tables ports h) h m.0 instruction (body_in m.1) o)
  served_in n None =
      decision_in core h m.0 (decided core.tables (view_for core.tables ports h) h m.0 n (body_in m.1)) p
      (decided_in core.tables (view_for core.tables ports h) h m.0 (body_in m.1) tables rows small p (body_bytes m.1 s.bytes) (grind arith) n)
  served_in n (Some gate) =
      cond_both (eqb gate 6) (link_deeds h m.0 (link_served (view_for core.tables ports h).errors n (body_in m.1))) _ AreDeedsIn
      (λ _. link_deeds_in h m.0 (link_served (view_for core.tables ports h).errors n (body_in m.1)) p
      (link_in (view_for core.tables ports h).errors n (body_in m.1) (errors_at ports h a) (body_bytes m.1 s.bytes)))
      (λ _. grind arith)

  noticed_in : (code : ℕ) (o : Option Port) → port_at ports h ≡ o → AreDeedsIn (notice_deeds (own_view core) code (about_at o))
  noticed_in code None here = (omega arith, tt)
  noticed_in code (Some q) here = by_option q.desk.notice
      (λ is. rw is (omega arith, tt))
      (λ n is. rw is (by_creation (creation_in (Some n)) (ap creation_in is)))
    where
      by_creation : (o : Option Creation) → creation_in q.desk.notice ≡ o → AreDeedsIn (creation_deeds (own_view core) code o)
      by_creation None is = (tt, tt)
      by_creation (Some c) is =
          let h0 = (subst IfCreation is (at_port (λ (x : Port). IsDeskIn x.desk) ports h q a here).creation) in grind arith

  kind_in : (x : Result (MessageKind × ℕ) MessageFault) → AreDeedsIn (kind_deeds (view_of core ports) h m x)
  kind_in (Ok (IsCommand, n)) = by_test (m.0 == 1 && asks_for ports h)
      (λ q. rw q drops_in)
      (λ q. rw q (served_in n (cond (goes_through core.tables h m.0 n) (own_gate core.tables h m.0) None)))
  kind_in (Ok (IsEvent, n)) = cond_both _ (Sends h m ∷ []) (Drops m.0 ∷ []) AreDeedsIn (λ _. (s, tt)) (λ _. drops_in)
  kind_in (Ok (IsResponse, code)) = by_test (m.0 == 1) (λ q. rw q (noticed_in code (port_at ports h) refl)) (λ q. rw q drops_in)
  kind_in (Err fault) = drops_in

  pub controller_in : AreDeedsIn (controller_deeds (view_of core ports) h m)
  controller_in = by_option (relayed_to core.tables h m)
      (λ is. rw is (by_test (has_link ports h) (λ q. rw q (kind_in (header_of m.1))) (λ q. rw q drops_in)))
      (λ other is. rw is (grind arith))

-- ## What hosts do with a message is in its range

-- ### Responses

abbrev IsCodeIn : Result (MessageKind × ℕ) MessageFault → Type 0
IsCodeIn (Ok (IsResponse, code)) = code < 256
IsCodeIn x = Unit {0}

-- ### What a node keeps

abbrev pub IfBytes : Option (List ℕ) → Type 0
IfBytes None = Unit {0}
IfBytes (Some bytes) = AreBytes bytes

abbrev pub IfInit : Option Init → Type 0
IfInit None = Unit {0}
IfInit (Some i) = IsInitIn i

pub record IsCoreIn (core : Core) : Type 0 where
  pub node : core.node ≤ 7
  pub tables : AreTablesIn core.tables
  pub rows : ArePipeRows core.tables.rows
  pub command : IfBytes core.command
  pub init : IfInit core.init

-- a node's end of a link
pub own_end : (core : Core) (h : ℕ) → h ≤ 7 → IsEnd (end_of_node core h)
own_end core h small = end_in h (own_side core) (omega (arith, small))

-- ### What a host commits

accepts_in : (core : Core) (c : Command) → IsCommandIn c → AreDeedsIn (accepts (own_view core) c)
accepts_in core c is = grind arith

learns_in : (core : Core) (c : Command) → IsSaidCommand c → IsShortCommand c → AreDeedsIn (learns (own_view core) c)
learns_in core c said short = grind arith

-- ### Init

saying_of : (message : List ℕ) → 0 < length message → AreBytes message → length message ≤ 4096 → IsSaying message
saying_of message some bytes short = record { some = some; bytes = bytes; short = short }

pipes_in : (pipes : List (List ℕ)) → AllByRecursion (λ (pipe : List ℕ). AreBytes pipe × (length pipe ≤ 4000)) pipes
    → AllByRecursion IsSaying (map (λ pipe. 16 ∷ pipe) pipes)
pipes_in [] h = tt
pipes_in (pipe ∷ pipes) h = let few = h.0.1 in (record { some = omega arith; bytes = (omega arith, h.0.0); short = omega (arith, few) }, pipes_in pipes h.1)

orders_in : (i : Init) → IsInitIn i → AllByRecursion IsSaying (orders_of i)
orders_in i h = let long = h.identity.1 in let few : length (1 ∷ 1 ∷ i.identity) ≤ 4096 = omega (arith, long) in (
  saying_of (3 ∷ []) (omega arith) (omega arith, tt) (omega arith),
  (
    saying_of (2 ∷ 1 ∷ []) (omega arith) (omega arith, (omega arith, tt)) (omega arith),
    (
      saying_of (20 ∷ []) (omega arith) (omega arith, tt) (omega arith),
      (
        saying_of (3 ∷ []) (omega arith) (omega arith, tt) (omega arith),
        each-append IsSaying (map (λ pipe. 16 ∷ pipe) i.pipes) _ (pipes_in i.pipes h.pipes)
            (record { some = omega arith; bytes = (omega arith, (omega arith, h.identity.0)); short = few }, tt),
      ),
    ),
  ),
)

module _ (core : Core) (is : IsCoreIn core) where
  agreed_init : (i : Init) (value : List ℕ) → IsInitIn i → AreDeedsIn (init_agreed (own_view core) i value)
  agreed_init i value h =
      cond_both (is_same (own_view core) i value) (Ends (InitSame (end_of_node core core.node)) ∷ []) _ AreDeedsIn
      (λ _. ((λ n. own_end core core.node is.node), tt)) (λ _. by (slice_get (orders_of i) (i.answered + 1)) refl)
    where
      on : Option (List ℕ) → List Deed
      on None = learns (own_view core) (Set core.node 0 1 (record { items = i.identity })) ++ Ends (InitMade (end_of_node core core.node) (length i.pipes)) ∷ []
      on (Some order) = GoesOn (record i { answered = i.answered + 1 }) ∷ Orders order ∷ []

      by : (o : Option (List ℕ)) → slice_get (orders_of i) (i.answered + 1) ≡ o → AreDeedsIn (on o)
      by None q =
          let long = h.identity.1 in let few : length i.identity ≤ 4095 = omega (arith, long) in
          each-append IsDeedIn (learns (own_view core) (Set core.node 0 1 (record { items = i.identity }))) _
          (learns_in core (Set core.node 0 1 (record { items = i.identity }))
          (grind arith, omega arith, omega arith, each_all IsByte i.identity h.identity.0) few)
          ((λ n. (own_end core core.node is.node, let eight = h.few in omega (arith, eight))), tt)
      by (Some order) q = (
        record { identity = h.identity; pipes = h.pipes; few = h.few },
        (AllByRecursion-get IsSaying (orders_of i) (i.answered + 1) order (orders_in i h) q, tt),
      )

  init_in : (code : ℕ) (value : List ℕ) → code < 256 → (o : Option Init) → IfInit o → AreDeedsIn (init_deeds (own_view core) code value o)
  init_in code value byte None h = tt
  init_in code value byte (Some i) h =
      cond_both (eqb code 0) (init_agreed (own_view core) i value) (Ends (InitFailed (end_of_node core core.node) code) ∷ []) AreDeedsIn
      (λ _. agreed_init i value h) (λ _. ((λ n. (own_end core core.node is.node, byte)), tt))

  -- ### Responses

  learned_in : (order value : List ℕ) → AreBytes order → AreBytes value → AreDeedsIn (learned (own_view core) order value)
  learned_in order value a b =
      cond_both (eqb (instruction_in order) 16) (created_by (own_view core) value) _ AreDeedsIn (λ _. grind arith)
      (λ _. grind arith)
    where
      by_body : (body : List ℕ) → AreBytes body → AreDeedsIn (deleted_by (own_view core) body)
      by_body body h = grind arith

  response_in : (code : ℕ) (value : List ℕ) → code < 256 → AreBytes value → (o : Option (List ℕ)) → core.command ≡ o
      → AreDeedsIn (response_deeds (own_view core) code value)
  response_in code value byte bytes None q = rw q tt
  response_in code value byte bytes (Some order) q =
      rw q (
        tt,
        each-append IsDeedIn (cond (eqb code 0) (learned (own_view core) order value) []) (init_deeds (own_view core) code value core.init)
            (cond_both (eqb code 0) (learned (own_view core) order value) [] AreDeedsIn (λ _. learned_in order value (grind arith) bytes) (λ _. tt))
            (init_in code value byte core.init is.init),
      )

  -- ### Commands

  ordered_in : (errors pipe n : ℕ) (body : List ℕ) → errors < 65536 → pipe < 112 → AreBytes body → AreDeedsIn (ordered_deeds (own_view core) errors pipe n body)
  ordered_in errors pipe n body few p bytes = ordered_holds AreDeedsIn core errors pipe n body (record {
    none = tt;
    refuses = λ r. (answers_in core.node 1 (answer_of r []) low (answer_in r [] tt (omega arith)));
    creates = λ row named welcome. accepts_in core (Create row) (grind arith);
    deletes = λ pid kept. accepts_in core (Delete pid) (record { said = kept_pid pid kept; short = tt; made = tt });
    clears = λ x host. accepts_in core (Clear x) (record { said = grind arith; short = tt; made = tt });
    counts = λ zero. link_deeds_in core.node 0 (link_served errors n body) (omega arith) (link_in errors n body few bytes);
    names = λ off. answers_in core.node pipe (identity_served gates n body) p (grind arith);
  })
    where
      dynamic : (row : PipeRow) → is_dynamic row.pid ≡ true → IsDynamic row.pid
      dynamic row q = grind arith

      kept_pid : (pid : ℕ) → is_some (pipe_at core.tables.rows pid) ≡ true → pid < 256
      kept_pid pid q = let within = row_of-within pid_of 2 112 pid core.tables.rows is.rows q in
          let upto = within.1 in omega (arith, upto)

  -- ### Messages

  pub host_in : (p : Port) (m : Message) → IsDeskIn p.desk → IsMail m → AreDeedsIn (host_deeds (own_view core) (end_view p) m)
  host_in p m desk s = go (is_up p.side.shdlc.phase) (header_of m.1) refl refl
    where
      body : AreBytes (body_in m.1)
      body = body_bytes m.1 s.bytes

      go : (b : Bool) (x : Result (MessageKind × ℕ) MessageFault) → is_up p.side.shdlc.phase ≡ b → header_of m.1 ≡ x
          → AreDeedsIn (host_deeds (own_view core) (end_view p) m)
      go false x up q = rw up (grind arith, tt)
      go true (Ok (IsCommand, n)) up q = rw (up, q) (ordered_in p.desk.errors m.0 n (body_in m.1) desk.errors s.pipe body)
      go true (Ok (IsEvent, n)) up q = grind arith
      go true (Ok (IsResponse, code)) up q =
          rw (up, q) (cond_both (eqb m.0 1) (response_deeds (own_view core) code (body_in m.1)) [] AreDeedsIn
          (λ _. response_in code (body_in m.1) (grind arith) body core.command refl) (λ _. tt))
      go true (Err fault) up q = rw (up, q) tt
