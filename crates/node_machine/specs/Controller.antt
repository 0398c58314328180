-- What a controller does with a message (ETSI TS 102 622, pipe management, administration gate, creation of pipes between
-- hosts). Which answer comes to a host that isn't asked for, and what is dropped, is this project's own.
use Rattle.std.specs.Prelude.{ℕ, ◌==◌, ◌&&◌, ◌||◌, Bool, true, false, not, if◌then◌else◌, List, [], ◌∷◌, ◌++◌, map, is_some, Option, Some, None, Result, Ok}
use Rattle.std.specs.Prelude.{Err}
use Rattle.std.specs.List.{filter_map, list_any}
use Rattle.std.specs.Option.{option_map, option_map_or, option_and_then}
use Rattle.link_laws.specs.sessions.Sessions.{is_up}
use Rattle.hcp_packet.specs.declared.MessageKind.{MessageKind}
use Rattle.hcp_packet.specs.declared.MessageKind.TheVariants.{Command as IsCommand, Event as IsEvent, Response as IsResponse}
use Rattle.hcp_packet.specs.declared.MessageFault.{MessageFault}
use Rattle.hcp_packet.specs.MessageHeader.{header_of}
use Rattle.hci_tables.specs.declared.command.Command.{Command}
use Rattle.hci_tables.specs.declared.command.Command.TheVariants.{Create}
use Rattle.hci_tables.specs.Tables.{HciTables, is_opened}
use Rattle.gate_answers.specs.declared.response.Response.TheVariants as response
use Rattle.gate_answers.specs.Answers.{answer_of, body_in}
use Rattle.gate_admin.specs.declared.view.LinkView.{LinkView}
use Rattle.gate_admin.specs.declared.decision.Decision.{Decision}
use Rattle.gate_admin.specs.declared.decision.Decision.TheVariants.{Answer, Commit, Ask}
use Rattle.gate_admin.specs.View.{has, hosts_where, mask_of}
use Rattle.gate_admin.specs.Decide.{decided, far_end}
use Rattle.gate_link.specs.Link.{link_served}
use Rattle.gate_identity.specs.Identity.{identity_served}
use Rattle.gate_loopback.specs.Loopback.{posts_back}
use Rattle.link_laws.specs.machine.Machine.{Message}
use Rattle.node_machine.specs.Parts.{Creation, About, Notice, Core, Port, Deed, OwnView, NodeView}
use Rattle.node_machine.specs.Parts.About.{Waits, Forgotten, Removed}
use Rattle.node_machine.specs.Parts.Deed.{Commits, Sends, SaysOk, Asks, Releases, Tells, IsAnswered, Drops, SetsErrors}
use Rattle.node_machine.specs.Carrying.{port_at, own_view, end_view, spare_with}

-- ## What it knows of its links

-- the link with a host is up
abbrev pub has_link : List Port → ℕ → Bool
has_link ports h = option_map_or (λ (p : Port). is_up p.side.shdlc.phase) (port_at ports h) false

-- the creation that this is about, while it waits
abbrev pub creation_of : About → Option Creation
creation_of (Waits c) = Some c
creation_of Forgotten = None
creation_of Removed = None

-- the creation that a notice is about, while it waits
abbrev pub creation_in : Option Notice → Option Creation
creation_in None = None
creation_in (Some n) = creation_of n.about

-- what a notice is about, where there is one
abbrev pub about_of : Option Notice → Option About
about_of None = None
about_of (Some n) = Some n.about

-- what the notice to an end's host is about
abbrev pub about_at : Option Port → Option About
about_at None = None
about_at (Some p) = about_of p.desk.notice

-- the creation that this end's host is asked for
abbrev pub asked_at : Port → Option Creation
asked_at p = creation_in p.desk.notice

-- the end's host has an unanswered notice of a creation, also of one that was forgotten
abbrev pub is_asked_at : Port → Bool
is_asked_at p = by_notice p.desk.notice where
  by_about : About → Bool
  by_about (Waits c) = true
  by_about Forgotten = true
  by_about Removed = false

  by_notice : Option Notice → Bool
  by_notice None = false
  by_notice (Some n) = by_about n.about

-- a creation that this host asked for waits
abbrev pub asks_for : List Port → ℕ → Bool
asks_for ports h = list_any (λ p. option_map_or (λ (c : Creation). c.asker == h) (asked_at p) false) ports

-- the pipe that a command creates
abbrev pub pipe_of : Command → Option ℕ
pipe_of (Create row) = Some row.pid
pipe_of _ = None

-- the pipes of the creations that wait
abbrev pub waiting_pipes : List Port → List ℕ
waiting_pipes ports = filter_map (λ p. option_and_then (λ (c : Creation). pipe_of c.command) (asked_at p)) ports

-- the mask of the hosts whose ends pass a test
abbrev pub mask_where : (Port → Bool) → List Port → ℕ
mask_where test ports = mask_of (hosts_where (λ h. option_map_or test (port_at ports h) false))

-- a host is connected where its link is up and its pipe 01 is opened
abbrev pub is_connected_at : HciTables → Port → Bool
is_connected_at t p = is_up p.side.shdlc.phase && is_opened t p.desk.host 1

-- what a controller knows of its links as a command of a host comes
abbrev pub view_for : HciTables → List Port → ℕ → LinkView
view_for t ports h = record {
  hosts = mask_where (λ p. true) ports;
  connected = mask_where (is_connected_at t) ports;
  noticed = mask_where (λ p. is_some p.desk.notice) ports;
  asked = mask_where is_asked_at ports;
  waiting = record { items = waiting_pipes ports };
  errors = option_map_or (λ (p : Port). p.desk.errors) (port_at ports h) 0;
}

-- What a node that runs, over these ends, goes by.
abbrev pub view_of : Core → List Port → NodeView
view_of core ports = record {
  own = own_view core;
  up = has_link ports;
  asks = asks_for ports;
  notice = λ h. about_at (port_at ports h);
  links = view_for core.tables ports;
  ends = λ h. option_map end_view (port_at ports h);
  spare = spare_with ports;
}

-- ## Commands

-- an answer to a host on the pipe of its command
abbrev pub answers_on : ℕ → ℕ → List ℕ → List Deed
answers_on h pipe message = Sends h (pipe, message) ∷ []

-- a command is committed and answered, and these hosts are told; without room for it the answer is ANY_E_NOK
abbrev pub commit_deeds : Bool → ℕ → ℕ → Command → List ℕ → List Deed → List Deed
commit_deeds true h pipe c answer told = Commits c ∷ Sends h (pipe, answer) ∷ SaysOk ∷ told
commit_deeds false h pipe c answer told = answers_on h pipe (answer_of response.NotOk [])

-- what the administration gate decided is done
abbrev pub decision_deeds : OwnView → ℕ → ℕ → Decision → List Deed
decision_deeds own h pipe (Answer answer) = answers_on h pipe answer.items
decision_deeds own h pipe (Commit c answer tell notice) =
    commit_deeds (own.has_room c) h pipe c answer.items (map (λ told. Tells told notice.items) (hosts_where (has tell)))
decision_deeds own h pipe (Ask asked notice c answer) =
    Asks asked notice.items (record { asker = h; command = c; answer = answer.items }) ∷ []

-- the answer of the link management gate, and REC_ERROR where it is set
abbrev pub link_deeds : ℕ → ℕ → List ℕ × Option ℕ → List Deed
link_deeds h pipe answer = if_set answer.1 ++ answers_on h pipe answer.0 where
  if_set : Option ℕ → List Deed
  if_set None = []
  if_set (Some errors) = SetsErrors errors ∷ []

-- GATES_LIST: the loopback gate and the identity gate
abbrev pub gates : List ℕ
gates = 4 ∷ 5 ∷ []

-- a command to a gate of the controller but administration, on a pipe that is opened
abbrev pub gate_deeds : ℕ → ℕ → ℕ → ℕ → ℕ → List ℕ → List Deed
gate_deeds gate errors h pipe instruction body =
    if gate == 6 then link_deeds h pipe (link_served errors instruction body) else
    (if gate == 5 then answers_on h pipe (identity_served gates instruction body) else
    answers_on h pipe (answer_of response.CommandNotSupported []))

-- the gate of the controller, but administration, at which a pipe of a host ends
abbrev pub own_gate : HciTables → ℕ → ℕ → Option ℕ
own_gate t h pipe = by_end (far_end t h pipe) where
  by_end : Option (ℕ × ℕ) → Option ℕ
  by_end None = None
  by_end (Some end) = if end.0 == 0 && not (end.1 == 0) then Some end.1 else None

-- A command is neither ANY_OPEN_PIPE nor ANY_CLOSE_PIPE, and its pipe is opened.
abbrev pub goes_through : HciTables → ℕ → ℕ → ℕ → Bool
goes_through t h pipe instruction = is_opened t h pipe && not (instruction == 3 || instruction == 4)

-- a command at a gate of the controller, or one that the administration gate decides
abbrev pub served_at : OwnView → LinkView → ℕ → ℕ → ℕ → List ℕ → Option ℕ → List Deed
served_at own view h pipe instruction body None = decision_deeds own h pipe (decided own.tables view h pipe instruction body)
served_at own view h pipe instruction body (Some gate) = gate_deeds gate view.errors h pipe instruction body

-- what is done with a command of a host
abbrev pub command_deeds : NodeView → ℕ → ℕ → ℕ → List ℕ → List Deed
command_deeds v h pipe instruction body =
    served_at v.own (v.links h) h pipe instruction body
    (if goes_through v.own.tables h pipe instruction then own_gate v.own.tables h pipe else None)

-- ## Responses

-- a creation that the asked host agrees to is committed, and the asker gets its answer
abbrev pub agreed : Bool → Creation → List Deed
agreed true c = IsAnswered ∷ Commits c.command ∷ Releases c.asker ∷ Sends c.asker (1, c.answer) ∷ SaysOk ∷ []
agreed false c = IsAnswered ∷ Releases c.asker ∷ Sends c.asker (1, answer_of response.NotOk []) ∷ []

-- the asked host has answered with this code: the creation is done or not, where it still waits
abbrev pub creation_deeds : OwnView → ℕ → Option Creation → List Deed
creation_deeds own code None = IsAnswered ∷ []
creation_deeds own code (Some c) = agreed (code == 0 && own.has_room c.command) c

-- a response with this code answers a notice, which is about this
abbrev pub notice_deeds : OwnView → ℕ → Option About → List Deed
notice_deeds own code None = Drops 1 ∷ []
notice_deeds own code (Some about) = creation_deeds own code (creation_of about)

-- ## Messages

-- the message is a command
abbrev pub is_command_message : List ℕ → Bool
is_command_message message = by_header (header_of message) where
  by_header : Result (MessageKind × ℕ) MessageFault → Bool
  by_header (Ok (IsCommand, instruction)) = true
  by_header _ = false

-- the other host, where a message on an opened pipe is for it: a command that opens or closes a pipe isn't
abbrev pub relayed_to : HciTables → ℕ → Message → Option ℕ
relayed_to t h m = if is_opened t h m.0 && not (opens_or_closes (header_of m.1)) then by_end (far_end t h m.0) else None where
  opens_or_closes : Result (MessageKind × ℕ) MessageFault → Bool
  opens_or_closes (Ok (IsCommand, instruction)) = instruction == 3 || instruction == 4
  opens_or_closes _ = false

  by_end : Option (ℕ × ℕ) → Option ℕ
  by_end None = None
  by_end (Some end) = if end.0 == 0 then None else Some end.0

-- a message that can't be relayed: a command is answered where its own link is up
abbrev pub unrelayed : Bool → ℕ → Message → List Deed
unrelayed up h m =
    if up && is_command_message m.1 then answers_on h m.0 (answer_of response.NotConnected []) else Drops m.0 ∷ []

-- an event to the loopback gate of the controller goes back
abbrev pub event_deeds : HciTables → ℕ → Message → List Deed
event_deeds t h m =
    if is_opened t h m.0 && option_map_or (λ gate. gate == 4) (own_gate t h m.0) false && posts_back m.1
    then Sends h m ∷ [] else Drops m.0 ∷ []

-- a message on pipe 01 of a host whose creation waits is dropped, where it is a command
abbrev pub unless_asking : NodeView → ℕ → Message → ℕ → Bool → List Deed
unless_asking v h m instruction true = Drops m.0 ∷ []
unless_asking v h m instruction false = command_deeds v h m.0 instruction (body_in m.1)

-- a response answers a notice, where it came on pipe 01
abbrev pub if_notice : NodeView → ℕ → Message → ℕ → Bool → List Deed
if_notice v h m code true = notice_deeds v.own code (v.notice h)
if_notice v h m code false = Drops m.0 ∷ []

-- a message with this header
abbrev pub kind_deeds : NodeView → ℕ → Message → Result (MessageKind × ℕ) MessageFault → List Deed
kind_deeds v h m (Ok (IsCommand, instruction)) = unless_asking v h m instruction (m.0 == 1 && v.asks h)
kind_deeds v h m (Ok (IsEvent, instruction)) = event_deeds v.own.tables h m
kind_deeds v h m (Ok (IsResponse, code)) = if_notice v h m code (m.0 == 1)
kind_deeds v h m (Err fault) = Drops m.0 ∷ []

-- a message that isn't relayed: one whose link isn't up is dropped
abbrev pub own_deeds : NodeView → ℕ → Message → Bool → List Deed
own_deeds v h m true = kind_deeds v h m (header_of m.1)
own_deeds v h m false = Drops m.0 ∷ []

-- a message that is for another host, whose link is up or not
abbrev pub relay_deeds : (ℕ → Bool) → ℕ → Message → ℕ → Bool → List Deed
relay_deeds up h m other true = Sends other m ∷ []
relay_deeds up h m other false = unrelayed (up h) h m

-- a message is relayed where it is for another host
abbrev pub deeds_by_relay : NodeView → ℕ → Message → Option ℕ → List Deed
deeds_by_relay v h m (Some other) = relay_deeds v.up h m other (v.up other)
deeds_by_relay v h m None = own_deeds v h m (v.up h)

-- What a controller does with a message of a host.
abbrev pub controller_deeds : NodeView → ℕ → Message → List Deed
controller_deeds v h m = deeds_by_relay v h m (relayed_to v.own.tables h m)
