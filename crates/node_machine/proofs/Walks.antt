-- What a node does with a message, case by case: what holds of the deeds in each case holds of all that is done.
use Rattle.std.proofs.Common.{◌≡◌, ℕ, ◌+◌, Bool, true, false, cond, eqb, ◌&&◌, List, [], ◌∷◌, ◌++◌, length, slice_get, sym, refl, ap, ap₂, ◌∙◌, subst}
use Rattle.std.specs.Prelude.{Option, Some, None, Result, Ok, Err, map, is_some}
use Rattle.std.specs.List.{AllByRecursion, flat_map, filter}
use Rattle.std.specs.Option.{option_map_or, option_and_then}
use Rattle.std.proofs.lemmas.Bool.{cond_both, and_parts, eqb-true, true≢false}
use Rattle.link_laws.specs.sessions.Sessions.{is_up}
use Rattle.hcp_packet.specs.declared.MessageKind.{MessageKind}
use Rattle.hcp_packet.specs.declared.MessageKind.TheVariants.{Command as IsCommand, Event as IsEvent, Response as IsResponse}
use Rattle.hcp_packet.specs.declared.MessageFault.{MessageFault}
use Rattle.hcp_packet.specs.MessageHeader.{header_of}
use Rattle.trace_model.specs.declared.entry.Entry.TheVariants.{InitSame, InitMade, InitFailed}
use Rattle.registry.proofs.ValueLemmas.{AllByRecursion-append}
use Rattle.pipe_table.specs.declared.row.PipeRow.{PipeRow}
use Rattle.pipe_table.specs.PipeRows.{pipe_at}
use Rattle.hci_tables.specs.declared.command.Command.{Command}
use Rattle.hci_tables.specs.declared.command.Command.TheVariants.{Create, Delete, Clear, Set, Sync}
use Rattle.hci_tables.specs.Commands.{is_command, is_host}
use Rattle.gate_answers.specs.declared.response.Response.{Response}
use Rattle.gate_answers.specs.declared.response.Response.TheVariants as response
use Rattle.gate_answers.specs.Answers.{answer_of, instruction_in, body_in}
use Rattle.gate_admin.specs.declared.decision.Decision.{Decision}
use Rattle.gate_admin.specs.declared.decision.Decision.TheVariants.{Answer, Commit, Ask}
use Rattle.gate_admin.specs.View.{has, hosts_where}
use Rattle.gate_admin.specs.Decide.{decided}
use Rattle.gate_link.specs.Link.{link_served}
use Rattle.gate_identity.specs.Identity.{identity_served}
use Rattle.gate_loopback.specs.Loopback.{posts_back}
use Rattle.link_laws.specs.machine.Machine.{Message, LinkInput, report}
use Rattle.node_machine.specs.Parts.{Init, Creation, Notice, Core, Port, Deed, NodeView}
use Rattle.node_machine.specs.Parts.Deed.{Commits, Sends, SaysOk, Asks, Releases, Tells, IsAnswered, Drops, SetsErrors, Orders, Hears, GoesOn, Ends}
use Rattle.node_machine.specs.Carrying.{end_of_node, port_at, finds_room, own_view, end_view}
use Rattle.node_machine.specs.Controller.{has_link, creation_in, asked_at, asks_for, view_for, answers_on, commit_deeds, decision_deeds, link_deeds, gates}
use Rattle.node_machine.specs.Controller.{gate_deeds, own_gate, goes_through, served_at, agreed, creation_deeds, notice_deeds, is_command_message}
use Rattle.node_machine.specs.Controller.{relayed_to, unless_asking, if_notice, kind_deeds, own_deeds, relay_deeds, deeds_by_relay, controller_deeds}
use Rattle.node_machine.specs.Controller.{view_of, about_at, about_of}
use Rattle.node_machine.specs.HostReplies.{replies, accepts, is_welcome, pipe_named_in, pipe_created, pipe_deleted, pipes_cleared, notified_deeds, orders_of}
use Rattle.node_machine.specs.HostReplies.{is_same, learns, init_agreed, init_deeds, deleted_by, created_by, learned, response_deeds, is_gate, gate_of_pipe}
use Rattle.node_machine.specs.HostReplies.{ordered_deeds, host_deeds}
use Rattle.node_machine.specs.Turns.{deeds_for, deeds_of}
use Rattle.node_machine.specs.Node.{NodeInput, input_at, forgotten, owed, all_owed, synced}
use Rattle.node_machine.specs.world.NodeFilters.{is_response}

-- ## Controllers

module _ (core : Core) (ports : List Port) (h : ℕ) (m : Message) where
  -- where the message m of the host h is on pipe 01, no creation that the host asked for waits for its answer
  abbrev pub IsFree : Type 0
  IsFree = eqb m.0 1 ≡ true → asks_for ports h ≡ false

  -- it is a command that a gate of the controller serves
  pub record IsServed (n : ℕ) : Type 0 where
    pub command : header_of m.1 ≡ Ok (IsCommand, n)
    pub up : has_link ports h ≡ true
    pub not_relayed : relayed_to core.tables h m ≡ None
    pub free : IsFree

  -- it is a response on pipe 01, as the answer to a notice is
  abbrev pub is_reply : Bool
  is_reply = eqb m.0 1 && is_response m.1

  -- where it is one, no notice stands at the end of h, whose link is up
  abbrev pub AnswersNone : Type 0
  AnswersNone = is_reply ≡ true → has_link ports h ≡ true → option_and_then (λ (p : Port). p.desk.notice) (port_at ports h) ≡ None

  no_reply : is_reply ≡ false → AnswersNone
  no_reply off = λ reply up. absurd (true≢false (sym reply ∙ off))

  no_response : is_response m.1 ≡ false → is_reply ≡ false
  no_response off = either (eqb m.0 1) (is_response m.1) off where
    either : (a b : Bool) → b ≡ false → (a && b) ≡ false
    either true b off = off
    either false b off = refl

  -- pipe 01 leads to no other host
  pub relayed_off : (other : ℕ) → relayed_to core.tables h m ≡ Some other → eqb m.0 1 ≡ false
  relayed_off other relayed = go (eqb m.0 1) refl where
    none : (n : ℕ) → n ≡ 1 → relayed_to core.tables h (n, m.1) ≡ None
    none n one = subst (λ k. relayed_to core.tables h (k, m.1) ≡ None) (sym one) (cond_both _ None None (λ o. o ≡ None) (λ _. refl) (λ _. refl))

    go : (b : Bool) → eqb m.0 1 ≡ b → eqb m.0 1 ≡ false
    go true one = let z : None ≡ Some other = sym (none m.0 (eqb-true m.0 1 one)) ∙ relayed in absurd (cc z)
    go false off = off

module _ (P : List Deed → Type 0) (core : Core) (ports : List Port) (h : ℕ) (m : Message) where
  -- it holds of what a controller does with the message m of the host h, in each case
  pub record ControllerCases : Type 0 where
    -- it is dropped, or goes to another host or back
    pub drops : (pid : ℕ) → AnswersNone core ports h m → P (Drops pid ∷ [])
    pub goes_on : (to : ℕ) → eqb m.0 1 ≡ false → P (Sends to m ∷ [])
    pub goes_back : (n : ℕ) → header_of m.1 ≡ Ok (IsEvent, n) → P (Sends h m ∷ [])
    -- a command is refused, or one of the three gates does what it asks for
    pub refuses : (r : Response) → is_reply core ports h m ≡ false → IsFree core ports h m → P (answers_on h m.0 (answer_of r []))
    pub names : (n : ℕ) → IsServed core ports h m n → own_gate core.tables h m.0 ≡ Some 5
        → P (answers_on h m.0 (identity_served gates n (body_in m.1)))
    pub counts : (errors n : ℕ) → IsServed core ports h m n → own_gate core.tables h m.0 ≡ Some 6
        → P (link_deeds h m.0 (link_served errors n (body_in m.1)))
    pub decides : (n : ℕ) → IsServed core ports h m n → cond (goes_through core.tables h m.0 n) (own_gate core.tables h m.0) None ≡ None
        → P (decision_deeds (own_view core) h m.0 (decided core.tables (view_for core.tables ports h) h m.0 n (body_in m.1)))
    -- a notice is answered, and a creation may wait for that
    pub hears : (p : Port) → is_reply core ports h m ≡ true → port_at ports h ≡ Some p → asked_at p ≡ None → P (IsAnswered ∷ [])
    pub agrees : (flag : Bool) (p : Port) (c : Creation) → is_reply core ports h m ≡ true → port_at ports h ≡ Some p → asked_at p ≡ Some c
        → (flag ≡ true → finds_room core c.command ≡ true) → P (agreed flag c)

  module _ (cases : ControllerCases) where
    response_holds : is_reply core ports h m ≡ true → (code : ℕ) (o : Option Port) → port_at ports h ≡ o → P (notice_deeds (own_view core) code (about_at o))
    response_holds reply code None here = cases.drops 1 (λ again up. ap (option_and_then (λ (p : Port). p.desk.notice)) here)
    response_holds reply code (Some p) here = by_notice p.desk.notice refl where
      by_creation : (o : Option Creation) → asked_at p ≡ o → P (creation_deeds (own_view core) code o)
      by_creation None is = cases.hears p reply here is
      by_creation (Some c) is =
          cases.agrees (eqb code 0 && finds_room core c.command) p c reply here is (λ e. (and_parts (eqb code 0) (finds_room core c.command) e).1)

      by_notice : (n : Option Notice) → p.desk.notice ≡ n → P (notice_deeds (own_view core) code (about_of n))
      by_notice None is = cases.drops 1 (λ again up. ap (option_and_then (λ (p : Port). p.desk.notice)) here ∙ is)
      by_notice (Some n) is = by_creation (creation_in (Some n)) (ap creation_in is)

    gate_holds : (gate errors n : ℕ) → IsServed core ports h m n → own_gate core.tables h m.0 ≡ Some gate
        → P (gate_deeds gate errors h m.0 n (body_in m.1))
    gate_holds gate errors n served is =
        cond_both (eqb gate 6) (link_deeds h m.0 (link_served errors n (body_in m.1))) _ P
        (λ six. cases.counts errors n served (let z : own_gate core.tables h m.0 ≡ Some 6 = rw (eqb-true gate 6 six) at is in z))
        (λ _. cond_both (eqb gate 5) (answers_on h m.0 (identity_served gates n (body_in m.1)))
        (answers_on h m.0 (answer_of response.CommandNotSupported [])) P
        (λ five. cases.names n served (let z : own_gate core.tables h m.0 ≡ Some 5 = rw (eqb-true gate 5 five) at is in z))
        (λ _. cases.refuses response.CommandNotSupported (no_response core ports h m (rw served.command refl)) served.free))

    asking_holds : (n : ℕ) → is_reply core ports h m ≡ false → (asks : Bool) → (asks ≡ false → IsServed core ports h m n)
        → P (unless_asking (view_of core ports) h m n asks)
    asking_holds n off true served = cases.drops m.0 (no_reply core ports h m off)
    asking_holds n off false served = by_gate (goes_through core.tables h m.0 n) (own_gate core.tables h m.0) refl refl where
      by_gate : (b : Bool) (o : Option ℕ) → goes_through core.tables h m.0 n ≡ b → own_gate core.tables h m.0 ≡ o
          → P (served_at (own_view core) (view_for core.tables ports h) h m.0 n (body_in m.1) (cond b o None))
      by_gate true (Some gate) through is = gate_holds gate (view_for core.tables ports h).errors n (served refl) is
      by_gate true None through is = cases.decides n (served refl) (ap₂ (λ b o. cond b o None) through is)
      by_gate false o through is = cases.decides n (served refl) (ap (λ b. cond b (own_gate core.tables h m.0) None) through)

    kind_holds : relayed_to core.tables h m ≡ None → has_link ports h ≡ true → (x : Result (MessageKind × ℕ) MessageFault) → header_of m.1 ≡ x
        → P (kind_deeds (view_of core ports) h m x)
    kind_holds none up (Ok (IsCommand, n)) is =
        asking_holds n (no_response core ports h m (rw is refl)) (eqb m.0 1 && asks_for ports h)
        (λ e. record { command = is; up = up; not_relayed = none; free = second (eqb m.0 1) (asks_for ports h) e })
      where
        second : (a b : Bool) → (a && b) ≡ false → a ≡ true → b ≡ false
        second true b e one = e
        second false b e one = absurd (true≢false (sym one))
    kind_holds none up (Ok (IsEvent, n)) is =
        cond_both _ (Sends h m ∷ []) (Drops m.0 ∷ []) P (λ _. cases.goes_back n is)
        (λ _. cases.drops m.0 (no_reply core ports h m (no_response core ports h m (rw is refl))))
    kind_holds none up (Ok (IsResponse, code)) is = by_pipe (eqb m.0 1) refl where
      by_pipe : (b : Bool) → eqb m.0 1 ≡ b → P (if_notice (view_of core ports) h m code b)
      by_pipe true one = response_holds (rw (one, is) refl) code (port_at ports h) refl
      by_pipe false off = cases.drops m.0 (no_reply core ports h m (rw off refl))
    kind_holds none up (Err fault) is = cases.drops m.0 (no_reply core ports h m (no_response core ports h m (rw is refl)))

    own_holds : relayed_to core.tables h m ≡ None → (b : Bool) → has_link ports h ≡ b → P (own_deeds (view_of core ports) h m b)
    own_holds none true up = kind_holds none up (header_of m.1) refl
    own_holds none false down = cases.drops m.0 (λ reply up. absurd (true≢false (sym up ∙ down)))

    passed_holds : (other : ℕ) → eqb m.0 1 ≡ false → (up : Bool) → P (relay_deeds (has_link ports) h m other up)
    passed_holds other off true = cases.goes_on other off
    passed_holds other off false =
        cond_both (has_link ports h && is_command_message m.1) (answers_on h m.0 (answer_of response.NotConnected [])) (Drops m.0 ∷ []) P
        (λ _. cases.refuses response.NotConnected (rw off refl) (λ one. absurd (true≢false (sym one ∙ off))))
        (λ _. cases.drops m.0 (no_reply core ports h m (rw off refl)))

    relay_holds : (o : Option ℕ) → relayed_to core.tables h m ≡ o → P (deeds_by_relay (view_of core ports) h m o)
    relay_holds (Some other) is = passed_holds other (relayed_off core ports h m other is) (has_link ports other)
    relay_holds None is = own_holds is (has_link ports h) refl

    pub controller_holds : P (controller_deeds (view_of core ports) h m)
    controller_holds = relay_holds (relayed_to core.tables h m) refl

-- it holds of a deed that neither commits nor tells nor asks, nor sets REC_ERROR
pub record Plain (Q : Deed → Type 0) : Type 0 where
  pub sends : (to : ℕ) (x : Message) → Q (Sends to x)
  pub says_ok : Q SaysOk
  pub releases : (asker : ℕ) → Q (Releases asker)
  pub is_answered : Q IsAnswered
  pub drops : (pid : ℕ) → Q (Drops pid)

-- what holds of any holds of each of these
pub anyone : {X : Type 0} (R : X → Type 0) → ((y : X) → R y) → (ys : List X) → AllByRecursion R ys
anyone R one [] = tt
anyone R one (y ∷ ys) = (one y, anyone R one ys)

module _ (Q : Deed → Type 0) where
  -- it holds of what else comes of a decision
  abbrev pub OfDecision : ℕ → Decision → Type 0
  OfDecision h (Answer answer) = Unit {0}
  OfDecision h (Commit c answer tell notice) = Q (Commits c) × AllByRecursion (λ y. Q (Tells y notice.items)) (hosts_where (has tell))
  OfDecision h (Ask dest notice c answer) = Q (Asks dest notice.items (record { asker = h; command = c; answer = answer.items }))

  pub told_hold : (message : List ℕ) (hosts : List ℕ) → AllByRecursion (λ y. Q (Tells y message)) hosts
      → AllByRecursion Q (map (λ y. Tells y message) hosts)
  told_hold message [] all = tt
  told_hold message (y ∷ hosts) all = (all.0, told_hold message hosts all.1)

  module _ (plain : Plain Q) where
    pub decision_holds : (core : Core) (h pipe : ℕ) (d : Decision) → OfDecision h d → AllByRecursion Q (decision_deeds (own_view core) h pipe d)
    decision_holds core h pipe (Answer answer) of = (plain.sends h (pipe, answer.items), tt)
    decision_holds core h pipe (Commit c answer tell notice) of = by_room (finds_room core c) where
      by_room : (b : Bool) → AllByRecursion Q (commit_deeds b h pipe c answer.items (map (λ y. Tells y notice.items) (hosts_where (has tell))))
      by_room true = (of.0, (plain.sends h (pipe, answer.items), (plain.says_ok, told_hold notice.items (hosts_where (has tell)) of.1)))
      by_room false = (plain.sends h (pipe, answer_of response.NotOk []), tt)
    decision_holds core h pipe (Ask dest notice c answer) of = (of, tt)

    agreed_holds : (flag : Bool) (c : Creation) → Q (Commits c.command) → AllByRecursion Q (agreed flag c)
    agreed_holds true c commits = (plain.is_answered, (commits, (plain.releases c.asker, (plain.sends c.asker (1, c.answer), (plain.says_ok, tt)))))
    agreed_holds false c commits = (plain.is_answered, (plain.releases c.asker, (plain.sends c.asker (1, answer_of response.NotOk []), tt)))

    link_holds : (h pipe : ℕ) (answer : List ℕ × Option ℕ) → ((value : ℕ) → answer.1 ≡ Some value → Q (SetsErrors value))
        → AllByRecursion Q (link_deeds h pipe answer)
    link_holds h pipe answer sets = by_value answer.1 refl where
      by_value : (o : Option ℕ) → answer.1 ≡ o → AllByRecursion Q (link_deeds h pipe (answer.0, o))
      by_value None is = (plain.sends h (pipe, answer.0), tt)
      by_value (Some value) is = (sets value is, (plain.sends h (pipe, answer.0), tt))

    -- where each deed of a controller is one, but what it decides, commits for a host that agreed, or sets
    pub all_of_controller : (core : Core) (ports : List Port) (h : ℕ) (m : Message)
        → ((n : ℕ) → OfDecision h (decided core.tables (view_for core.tables ports h) h m.0 n (body_in m.1)))
        → ((p : Port) (c : Creation) → port_at ports h ≡ Some p → asked_at p ≡ Some c → Q (Commits c.command))
        → ((errors n value : ℕ) → header_of m.1 ≡ Ok (IsCommand, n) → own_gate core.tables h m.0 ≡ Some 6
        → (link_served errors n (body_in m.1)).1 ≡ Some value → Q (SetsErrors value))
        → AllByRecursion Q (controller_deeds (view_of core ports) h m)
    all_of_controller core ports h m decides commits sets = controller_holds (AllByRecursion Q) core ports h m (record {
      drops = λ pid none. (plain.drops pid, tt);
      goes_on = λ to off. (plain.sends to m, tt);
      goes_back = λ n event. (plain.sends h m, tt);
      refuses = λ r off free. (plain.sends h (m.0, answer_of r []), tt);
      names = λ n served gate. (plain.sends h (m.0, identity_served gates n (body_in m.1)), tt);
      counts = λ errors n served gate. link_holds h m.0 (link_served errors n (body_in m.1)) (λ value is. sets errors n value served.command gate is);
      decides = λ n served gate. decision_holds core h m.0 (decided core.tables (view_for core.tables ports h) h m.0 n (body_in m.1)) (decides n);
      hears = λ p reply here asked. (plain.is_answered, tt);
      agrees = λ flag p c reply here asked room. agreed_holds flag c (commits p c here asked);
    })

    -- where each is one
    pub any_of_controller : ((c : Command) → Q (Commits c)) → ((to : ℕ) (message : List ℕ) → Q (Tells to message))
        → ((to : ℕ) (message : List ℕ) (c : Creation) → Q (Asks to message c)) → ((errors : ℕ) → Q (SetsErrors errors))
        → (core : Core) (ports : List Port) (h : ℕ) (m : Message) → AllByRecursion Q (controller_deeds (view_of core ports) h m)
    any_of_controller commits tells asks sets core ports h m =
        all_of_controller core ports h m
        (λ n. each (decided core.tables (view_for core.tables ports h) h m.0 n (body_in m.1)))
        (λ p c here asked. commits c.command) (λ errors n value command gate is. sets value)
      where
        each : (d : Decision) → OfDecision h d
        each (Answer answer) = tt
        each (Commit c answer tell notice) = (commits c, anyone (λ y. Q (Tells y notice.items)) (λ y. tells y notice.items) (hosts_where (has tell)))
        each (Ask dest notice c answer) = asks dest notice.items (record { asker = h; command = c; answer = answer.items })

-- ## Hosts

-- it holds of what a host does with a command
pub record OrderCases (P : List Deed → Type 0) (core : Core) (errors pipe n : ℕ) (body : List ℕ) : Type 0 where
  pub none : P []
  pub refuses : (r : Response) → P (replies (own_view core) r)
  pub creates : (row : PipeRow) → pipe_named_in body ≡ Some row → is_welcome core.node row ≡ true → P (accepts (own_view core) (Create row))
  pub deletes : (pid : ℕ) → is_some (pipe_at core.tables.rows pid) ≡ true → P (accepts (own_view core) (Delete pid))
  pub clears : (x : ℕ) → is_host x ≡ true → P (accepts (own_view core) (Clear x))
  pub counts : eqb pipe 0 ≡ true → P (link_deeds core.node 0 (link_served errors n body))
  pub names : eqb pipe 1 ≡ false → P (answers_on core.node pipe (identity_served gates n body))

module _ (P : List Deed → Type 0) (core : Core) where
  pub ordered_holds : (errors pipe n : ℕ) (body : List ℕ) → OrderCases P core errors pipe n body → P (ordered_deeds (own_view core) errors pipe n body)
  ordered_holds errors pipe n body cases =
      cond_both (eqb pipe 1) (notified_deeds (own_view core) n body) _ P
      (λ _. cond_both (eqb n 18) (pipe_created (own_view core) body) _ P (λ _. created (pipe_named_in body) refl)
      (λ _. cond_both (eqb n 19) (pipe_deleted (own_view core) body) _ P (λ _. deleted body)
      (λ _. cond_both (eqb n 21) (pipes_cleared (own_view core) body) (replies (own_view core) response.CommandNotSupported) P (λ _. cleared body)
      (λ _. cases.refuses response.CommandNotSupported))))
      (λ off. cond_both (eqb pipe 0) (link_deeds core.node 0 (link_served errors n body)) _ P cases.counts
      (λ _. cond_both (is_gate 5 (gate_of_pipe (own_view core) pipe)) (answers_on core.node pipe (identity_served gates n body)) [] P (λ _. cases.names off)
      (λ _. cases.none)))
    where
      created : (o : Option PipeRow) → pipe_named_in body ≡ o → P (pipe_created (own_view core) body)
      created None is = rw is (cases.refuses response.NotOk)
      created (Some row) is =
          rw is (cond_both (is_welcome core.node row) (accepts (own_view core) (Create row)) (replies (own_view core) response.NotOk) P (cases.creates row is)
          (λ _. cases.refuses response.NotOk))

      deleted : (body : List ℕ) → P (pipe_deleted (own_view core) body)
      deleted [] = cases.refuses response.CommandParameterUnknown
      deleted (pid ∷ []) =
          cond_both (is_some (pipe_at core.tables.rows pid)) (accepts (own_view core) (Delete pid)) (replies (own_view core) response.Ok) P (cases.deletes pid)
          (λ _. cases.refuses response.Ok)
      deleted (pid ∷ x ∷ more) = cases.refuses response.CommandParameterUnknown

      cleared : (body : List ℕ) → P (pipes_cleared (own_view core) body)
      cleared [] = cases.refuses response.CommandParameterUnknown
      cleared (x ∷ []) =
          cond_both (is_host x) (accepts (own_view core) (Clear x)) (replies (own_view core) response.CommandParameterUnknown) P (cases.clears x)
          (λ _. cases.refuses response.CommandParameterUnknown)
      cleared (x ∷ y ∷ more) = cases.refuses response.CommandParameterUnknown

  -- what a host learns is nothing, or a command that it commits
  module _ (none : P []) (commits : (c : Command) → is_command c ≡ true → finds_room core c ≡ true → P (Commits c ∷ [])) where
    pub learns_holds : (c : Command) → P (learns (own_view core) c)
    learns_holds c =
        cond_both (is_command c && finds_room core c) (Commits c ∷ []) [] P
        (λ e. let both = and_parts (is_command c) (finds_room core c) e in commits c both.0 both.1) (λ _. none)

    pub learned_holds : (order value : List ℕ) → P (learned (own_view core) order value)
    learned_holds order value =
        cond_both (eqb (instruction_in order) 16) (created_by (own_view core) value) _ P (λ _. by_row (pipe_named_in value))
        (λ _. cond_both (eqb (instruction_in order) 17) (deleted_by (own_view core) (body_in order)) _ P (λ _. by_body (body_in order))
        (λ _. cond_both (eqb (instruction_in order) 20) (learns (own_view core) (Clear core.node)) [] P (λ _. learns_holds (Clear core.node)) (λ _. none)))
      where
        by_row : (o : Option PipeRow) → P (option_map_or (λ row. learns (own_view core) (Create row)) o [])
        by_row None = none
        by_row (Some row) = learns_holds (Create row)

        by_body : (body : List ℕ) → P (deleted_by (own_view core) body)
        by_body [] = none
        by_body (pid ∷ []) = learns_holds (Delete pid)
        by_body (pid ∷ x ∷ more) = none

  -- it holds of what an init does as a response comes
  pub record InitCases (i : Init) : Type 0 where
    pub same : P (Ends (InitSame (end_of_node core core.node)) ∷ [])
    pub failed : (code : ℕ) → P (Ends (InitFailed (end_of_node core core.node) code) ∷ [])
    pub made : P (learns (own_view core) (Set core.node 0 1 (record { items = i.identity }))
        ++ Ends (InitMade (end_of_node core core.node) (length i.pipes)) ∷ [])
    pub next : (order : List ℕ) → slice_get (orders_of i) (i.answered + 1) ≡ Some order
        → P (GoesOn (record i { answered = i.answered + 1 }) ∷ Orders order ∷ [])

  pub init_holds : (i : Init) (code : ℕ) (value : List ℕ) → InitCases i → P (init_deeds (own_view core) code value (Some i))
  init_holds i code value cases =
      cond_both (eqb code 0) (init_agreed (own_view core) i value) (Ends (InitFailed (end_of_node core core.node) code) ∷ []) P
      (λ _. cond_both (is_same (own_view core) i value) (Ends (InitSame (end_of_node core core.node)) ∷ []) _ P (λ _. cases.same)
      (λ _. by (slice_get (orders_of i) (i.answered + 1)) refl))
      (λ _. cases.failed code)
    where
      on : Option (List ℕ) → List Deed
      on None = learns (own_view core) (Set core.node 0 1 (record { items = i.identity })) ++ Ends (InitMade (end_of_node core core.node) (length i.pipes)) ∷ []
      on (Some order) = GoesOn (record i { answered = i.answered + 1 }) ∷ Orders order ∷ []

      by : (o : Option (List ℕ)) → slice_get (orders_of i) (i.answered + 1) ≡ o → P (on o)
      by None is = cases.made
      by (Some order) is = cases.next order is

  -- it holds of what a host does with the message m at this end
  pub record HostCases (p : Port) (m : Message) : Type 0 where
    pub none : P []
    pub drops : P (Drops m.0 ∷ [])
    pub goes : P (Sends core.node m ∷ [])
    pub ordered : (n : ℕ) → header_of m.1 ≡ Ok (IsCommand, n) → P (ordered_deeds (own_view core) p.desk.errors m.0 n (body_in m.1))
    pub heard : (code : ℕ) (order : List ℕ) → core.command ≡ Some order
        → P (Hears ∷ cond (eqb code 0) (learned (own_view core) order (body_in m.1)) [] ++ init_deeds (own_view core) code (body_in m.1) core.init)

  pub host_holds : (p : Port) (m : Message) → HostCases p m → P (host_deeds (own_view core) (end_view p) m)
  host_holds p m cases = go (is_up p.side.shdlc.phase) (header_of m.1) refl refl where
    response_holds : (code : ℕ) (o : Option (List ℕ)) → core.command ≡ o → P (response_deeds (own_view core) code (body_in m.1))
    response_holds code None is = rw is cases.none
    response_holds code (Some order) is = rw is (cases.heard code order is)

    go : (b : Bool) (x : Result (MessageKind × ℕ) MessageFault) → is_up p.side.shdlc.phase ≡ b → header_of m.1 ≡ x
        → P (host_deeds (own_view core) (end_view p) m)
    go false x up is = rw up cases.drops
    go true (Ok (IsCommand, n)) up is = rw (up, is) (cases.ordered n is)
    go true (Ok (IsEvent, n)) up is =
        rw (up, is) (cond_both (is_gate 4 (gate_of_pipe (own_view core) m.0) && posts_back m.1) (Sends core.node m ∷ []) [] P (λ _. cases.goes)
        (λ _. cases.none))
    go true (Ok (IsResponse, code)) up is =
        rw (up, is) (cond_both (eqb m.0 1) (response_deeds (own_view core) code (body_in m.1)) [] P (λ _. response_holds code core.command refl)
        (λ _. cases.none))
    go true (Err fault) up is = rw (up, is) cases.none

-- it holds of each command of an init
pub orders_hold : (P : List ℕ → Type 0) (i : Init) → P (3 ∷ []) → P (2 ∷ 1 ∷ []) → P (20 ∷ []) → ((pipe : List ℕ) → P (16 ∷ pipe))
    → P (1 ∷ 1 ∷ i.identity) → AllByRecursion P (orders_of i)
orders_hold P i opens gets clears creates sets =
    (opens, (gets, (clears, (opens, AllByRecursion-append P (map (λ pipe. 16 ∷ pipe) i.pipes) _ (each i.pipes) (sets, tt)))))
  where
    each : (pipes : List (List ℕ)) → AllByRecursion P (map (λ pipe. 16 ∷ pipe) pipes)
    each [] = tt
    each (pipe ∷ pipes) = (creates pipe, each pipes)

-- it holds of what a host commits, and does for its own commands
pub record OfHost (Q : Deed → Type 0) (core : Core) : Type 0 where
  pub commits : (c : Command) → Q (Commits c)
  pub hears : Q Hears
  pub goes_on : (i : Init) → Q (GoesOn i)
  pub orders : (i : Init) (k : ℕ) (order : List ℕ) → slice_get (orders_of i) k ≡ Some order → Q (Orders order)
  pub same : Q (Ends (InitSame (end_of_node core core.node)))
  pub made : (count : ℕ) → Q (Ends (InitMade (end_of_node core core.node) count))
  pub failed : (code : ℕ) → Q (Ends (InitFailed (end_of_node core core.node) code))

module _ (Q : Deed → Type 0) (core : Core) where
  pub all_heard : OfHost Q core → (code : ℕ) (order value : List ℕ)
      → AllByRecursion Q (Hears ∷ cond (eqb code 0) (learned (own_view core) order value) [] ++ init_deeds (own_view core) code value core.init)
  all_heard own code order value = (own.hears, AllByRecursion-append Q _ _ learns_it (by core.init)) where
    learns_it : AllByRecursion Q (cond (eqb code 0) (learned (own_view core) order value) [])
    learns_it =
        cond_both (eqb code 0) (learned (own_view core) order value) [] (AllByRecursion Q)
        (λ _. learned_holds (AllByRecursion Q) core tt (λ c may room. (own.commits c, tt)) order value) (λ _. tt)

    by : (o : Option Init) → AllByRecursion Q (init_deeds (own_view core) code value o)
    by None = tt
    by (Some i) = init_holds (AllByRecursion Q) core i code value (record {
      same = (own.same, tt);
      failed = λ code. (own.failed code, tt);
      made =
          AllByRecursion-append Q _ _
          (learns_holds (AllByRecursion Q) core tt (λ c may room. (own.commits c, tt)) (Set core.node 0 1 (record { items = i.identity })))
          (own.made (length i.pipes), tt);
      next = λ order is. (own.goes_on (record i { answered = i.answered + 1 }), (own.orders i (i.answered + 1) order is, tt));
    })

  -- it holds of each deed for a command, but what sets REC_ERROR
  pub all_ordered : Plain Q → ((c : Command) → Q (Commits c)) → (errors pipe n : ℕ) (body : List ℕ)
      → (eqb pipe 0 ≡ true → (value : ℕ) → (link_served errors n body).1 ≡ Some value → Q (SetsErrors value))
      → AllByRecursion Q (ordered_deeds (own_view core) errors pipe n body)
  all_ordered plain commits errors pipe n body sets = ordered_holds (AllByRecursion Q) core errors pipe n body (record {
    none = tt;
    refuses = λ r. (plain.sends core.node (1, answer_of r []), tt);
    creates = λ row named welcome. accepted (Create row);
    deletes = λ pid kept. accepted (Delete pid);
    clears = λ x host. accepted (Clear x);
    counts = λ link. link_holds Q plain core.node 0 (link_served errors n body) (sets link);
    names = λ off. (plain.sends core.node (pipe, identity_served gates n body), tt);
  })
    where
      accepted : (c : Command) → AllByRecursion Q (accepts (own_view core) c)
      accepted c = by (finds_room core c) where
        by : (b : Bool) → AllByRecursion Q (commit_deeds b core.node 1 c (answer_of response.Ok []) [])
        by true = (commits c, (plain.sends core.node (1, answer_of response.Ok []), (plain.says_ok, tt)))
        by false = (plain.sends core.node (1, answer_of response.NotOk []), tt)

  -- where each deed of a host is one, but what sets REC_ERROR
  pub all_of_host : Plain Q → OfHost Q core → (p : Port) (m : Message)
      → ((n value : ℕ) → header_of m.1 ≡ Ok (IsCommand, n) → eqb m.0 0 ≡ true → (link_served p.desk.errors n (body_in m.1)).1 ≡ Some value
      → Q (SetsErrors value))
      → AllByRecursion Q (host_deeds (own_view core) (end_view p) m)
  all_of_host plain own p m sets = host_holds (AllByRecursion Q) core p m (record {
    none = tt;
    drops = (plain.drops m.0, tt);
    goes = (plain.sends core.node m, tt);
    ordered = λ n is. all_ordered plain own.commits p.desk.errors m.0 n (body_in m.1) (λ link value sets_it. sets n value is link sets_it);
    heard = λ code order is. all_heard own code order (body_in m.1);
  })

-- ## Nodes

-- what a controller does, and what a host does
pub deeds_near : (v : NodeView) (h : ℕ) (m : Message) → eqb v.own.node 0 ≡ true → deeds_for v h m ≡ controller_deeds v h m
deeds_near v h m q = rw q refl

pub deeds_far : (v : NodeView) (h : ℕ) (m : Message) → eqb v.own.node 0 ≡ false
    → deeds_for v h m ≡ option_map_or (λ e. host_deeds v.own e m) (v.ends h) []
deeds_far v h m q = rw q refl

pub deeds_hold : (P : List Deed → Type 0) (core : Core) (ports : List Port) (h : ℕ) (m : Message) → P (controller_deeds (view_of core ports) h m) → P []
    → ((p : Port) → P (host_deeds (own_view core) (end_view p) m)) → P (deeds_of core ports h m)
deeds_hold P core ports h m controller none host = go (eqb core.node 0) (port_at ports h) refl refl where
  go : (b : Bool) (o : Option Port) → eqb core.node 0 ≡ b → port_at ports h ≡ o → P (deeds_of core ports h m)
  go true o q here = rw q controller
  go false None q here = rw (q, here) none
  go false (Some p) q here = rw (q, here) (host p)

-- ## Steps

module _ (Q : Deed → Type 0) where
  flat_hold : (f : Port → List Deed) → ((p : Port) → AllByRecursion Q (f p)) → (ports : List Port) → AllByRecursion Q (flat_map f ports)
  flat_hold f one [] = tt
  flat_hold f one (p ∷ ports) = AllByRecursion-append Q (f p) (flat_map f ports) (one p) (flat_hold f one ports)

  pub forgotten_hold : ((asker : ℕ) → Q (Releases asker)) → (ports : List Port) → AllByRecursion Q (forgotten ports)
  forgotten_hold releases ports = all _ where
    all : (cs : List Creation) → AllByRecursion Q (map (λ (c : Creation). Releases c.asker) cs)
    all [] = tt
    all (c ∷ cs) = (releases c.asker, all cs)

  pub all_owed_hold : ((asker : ℕ) → Q (Releases asker)) → ((to : ℕ) (r : Response) → Q (Sends to (1, answer_of r []))) → (ports : List Port)
      → AllByRecursion Q (all_owed ports)
  all_owed_hold releases sends ports =
      AllByRecursion-append Q _ _ (flat_hold _ (λ p. one response.NotConnected (asked_at p)) (filter (λ (p : Port). p.ended) ports))
      (flat_hold _ (λ p. one response.Timeout (asked_at p)) (filter (λ (p : Port). p.late) ports))
    where
      one : (r : Response) (o : Option Creation) → AllByRecursion Q (owed r o)
      one r None = tt
      one r (Some c) = (releases c.asker, (sends c.asker r, tt))

  pub all_synced_hold : ((host id : ℕ) → Q (Commits (Sync host id))) → (core : Core) (input : NodeInput) (ports : List Port)
      → AllByRecursion Q (flat_map (synced core input) ports)
  all_synced_hold commits core input ports = flat_hold (synced core input) one ports where
    one : (p : Port) → AllByRecursion Q (synced core input p)
    one p = go (input_at input p) refl where
      go : (o : Option LinkInput) → input_at input p ≡ o → AllByRecursion Q (synced core input p)
      go None q = rw q tt
      go (Some i) q = by (report p.side i).sync refl where
        by : (o : Option ℕ) → (report p.side i).sync ≡ o → AllByRecursion Q (synced core input p)
        by None e = rw (q, e) tt
        by (Some id) e =
            rw (q, e) (cond_both _ (Commits (Sync p.desk.host id) ∷ []) [] (AllByRecursion Q) (λ _. (commits p.desk.host id, tt)) (λ _. tt))
