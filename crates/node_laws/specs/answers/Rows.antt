-- What a node does with a message, in rows: in each stands when it applies, and what is done then; the first one that applies decides. The
-- rows of a controller stand in the order in which a message is tested (ETSI TS 102 622, pipe management, gates of the host controller), and
-- so do those of a host; which answer comes to a host that isn't asked for, and what is dropped, is this project's own. The tests of each
-- command of administration are rows of their own (`tests_to_create` and the like).
use Rattle.std.specs.Prelude.{ℕ, ◌==◌, ◌&&◌, ◌||◌, Bool, true, false, not, if◌then◌else◌, List, [], ◌∷◌, ◌++◌, length, is_some, is_none, Option}
use Rattle.std.specs.Option.{option_map_or, option_and_then}
use Rattle.hci_tables.specs.declared.command.Command.TheVariants.{Create, Delete, Clear, SetOpened}
use Rattle.hci_tables.specs.Commands.{is_host}
use Rattle.hci_tables.specs.Tables.{is_opened}
use Rattle.pipe_table.specs.PipeRows.{pipe_at}
use Rattle.gate_answers.specs.declared.response.Response.TheVariants as response
use Rattle.gate_answers.specs.Answers.{instruction_in, body_in, param_in}
use Rattle.gate_admin.specs.declared.decision.Decision.{Decision}
use Rattle.gate_admin.specs.Decide.{answers, commits, far_end, others_opened, administration}
use Rattle.gate_link.specs.Link.{link_served}
use Rattle.gate_identity.specs.Identity.{identity_served}
use Rattle.gate_loopback.specs.Loopback.{posts_back}
use Rattle.link_laws.specs.machine.Machine.{Message}
use Rattle.node_machine.specs.Parts.{Creation, Deed, OwnView, EndView, NodeView}
use Rattle.node_machine.specs.Parts.Deed.{Sends, IsAnswered, Drops, Hears}
use Rattle.node_machine.specs.Controller.{creation_of, answers_on, decision_deeds, link_deeds, gates, agreed, is_command_message}
use Rattle.node_machine.specs.HostReplies.{replies, accepts, is_welcome, pipe_named_in, learned, init_deeds, gate_of_pipe, is_gate}
use Rattle.node_machine.specs.world.NodeFilters.{is_response}

-- what the first row says that applies: nothing is done where none does
abbrev pub first_row : List (Bool × List Deed) → List Deed
first_row [] = []
first_row (row ∷ rows) = if row.0 then row.1 else first_row rows

-- ## When a row applies

-- the message is a command with this instruction
abbrev pub is_order : ℕ → Message → Bool
is_order instruction m = is_command_message m.1 && instruction_in m.1 == instruction

-- its pipe is opened
abbrev pub comes_opened : NodeView → ℕ → Message → Bool
comes_opened v h m = is_opened v.own.tables h m.0

-- the host at the other end of its pipe: 00 is the controller, and it is 00 too where the host has no such pipe
abbrev pub far_host : NodeView → ℕ → Message → ℕ
far_host v h m = option_map_or (λ end. end.0) (far_end v.own.tables h m.0) 0

-- On an opened pipe between two hosts all is relayed but its opening and closing, if the other link is up.
abbrev pub is_relayed : NodeView → ℕ → Message → Bool
is_relayed v h m =
    comes_opened v h m && not (is_order 3 m || is_order 4 m) && not (far_host v h m == 0) && v.up (far_host v h m)

-- its pipe ends at this gate of the controller
abbrev pub leads_to_gate : NodeView → ℕ → Message → ℕ → Bool
leads_to_gate v h m gate = option_map_or (λ end. end.0 == 0 && end.1 == gate) (far_end v.own.tables h m.0) false

-- it is a response on pipe 01
abbrev pub answers_notice : Message → Bool
answers_notice m = is_response m.1 && m.0 == 1

-- the creation that waits for the answer of a host
abbrev pub waiting_for : NodeView → ℕ → Option Creation
waiting_for v h = option_and_then creation_of (v.notice h)

-- ## A controller

-- what the administration gate decides is done: a commit for which there is no room is answered by ANY_E_NOK
abbrev pub decides : NodeView → ℕ → Message → Decision → List Deed
decides v h m d = decision_deeds v.own h m.0 d

-- What a controller does with a message of the host h.
abbrev pub controller_rows : NodeView → ℕ → Message → List (Bool × List Deed)
controller_rows v h m =
    let opening : Bool = is_order 3 m in
    let closing : Bool = is_order 4 m in
    let command : Bool = is_command_message m.1 in
    let opened : Bool = comes_opened v h m in
    let body : List ℕ = body_in m.1 in
    let others : List ℕ = others_opened v.own.tables h m.0 ∷ [] in
    -- A message is relayed to the host at the other end of its pipe.
    (is_relayed v h m, Sends (far_host v h m) m ∷ [])
    -- A message whose own link isn't up and which isn't relayed is dropped.
    ∷ (not (v.up h), Drops m.0 ∷ [])
    -- A command on pipe 01 of a host whose creation waits is discarded.
    ∷ (command && m.0 == 1 && v.asks h, Drops m.0 ∷ [])
    -- The pipe isn't one of the host.
    ∷ (command && is_none (far_end v.own.tables h m.0), decides v h m (answers response.NotConnected []))
    -- The pipe isn't opened, and the command doesn't open it.
    ∷ (command && not opened && not opening, decides v h m (answers response.PipeNotOpened []))
    -- ANY_OPEN_PIPE
    ∷ (opening && not (length body == 0), decides v h m (answers response.CommandParameterUnknown []))
    ∷ (opening && opened, decides v h m (answers response.Ok others))
    ∷ (opening, decides v h m (commits (SetOpened h m.0 true) others))
    -- ANY_CLOSE_PIPE
    ∷ (closing && not (length body == 0), decides v h m (answers response.CommandParameterUnknown []))
    ∷ (closing, decides v h m (commits (SetOpened h m.0 false) []))
    -- The pipe joins two hosts, and the other link isn't up.
    ∷ (command && not (far_host v h m == 0), decides v h m (answers response.NotConnected []))
    -- The gates: administration, link management, identity. The loopback gate knows no command.
    ∷ (command && leads_to_gate v h m 0, decides v h m (administration v.own.tables (v.links h) h (instruction_in m.1) body))
    ∷ (command && leads_to_gate v h m 6, link_deeds h m.0 (link_served (v.links h).errors (instruction_in m.1) body))
    ∷ (command && leads_to_gate v h m 5, answers_on h m.0 (identity_served gates (instruction_in m.1) body))
    ∷ (command, decides v h m (answers response.CommandNotSupported []))
    -- A response on pipe 01 answers the notice. Where a creation waits for it, ANY_OK commits that, if there is room, and the asker gets its
    -- answer; else the asker gets ANY_E_NOK.
    ∷ (answers_notice m && is_some (waiting_for v h), option_map_or (λ c. agreed (instruction_in m.1 == 0 && v.own.has_room c.command) c) (waiting_for v h) [])
    ∷ (answers_notice m && is_some (v.notice h), IsAnswered ∷ [])
    -- EVT_POST_DATA to the loopback gate goes back as it came.
    ∷ (posts_back m.1 && opened && leads_to_gate v h m 4, Sends h m ∷ [])
    -- All else is dropped.
    ∷ (true, Drops m.0 ∷ [])
    ∷ []

-- ## A host

-- ADM_NOTIFY_PIPE_CREATED names a pipe that a host takes
abbrev pub is_taken : ℕ → Message → Bool
is_taken own m = option_map_or (is_welcome own) (pipe_named_in (body_in m.1)) false

-- What a host does with a message. A commit for which there is no room is answered by ANY_E_NOK.
abbrev pub host_rows : OwnView → EndView → Message → List (Bool × List Deed)
host_rows own e m =
    let noticed : ℕ → Bool = λ instruction. m.0 == 1 && is_order instruction m in
    let command : Bool = is_command_message m.1 in
    let body : List ℕ = body_in m.1 in
    -- A message that comes to its turn while the link isn't up is dropped.
    (not e.up, Drops m.0 ∷ [])
    -- ADM_NOTIFY_PIPE_CREATED
    ∷ (noticed 18 && is_taken own.node m, option_map_or (λ row. accepts own (Create row)) (pipe_named_in body) [])
    ∷ (noticed 18, replies own response.NotOk)
    -- ADM_NOTIFY_PIPE_DELETED: a pipe that the host doesn't keep is answered too.
    ∷ (noticed 19 && not (length body == 1), replies own response.CommandParameterUnknown)
    ∷ (noticed 19 && is_some (pipe_at own.tables.rows (param_in body)), accepts own (Delete (param_in body)))
    ∷ (noticed 19, replies own response.Ok)
    -- ADM_NOTIFY_ALL_PIPE_CLEARED
    ∷ (noticed 21 && length body == 1 && is_host (param_in body), accepts own (Clear (param_in body)))
    ∷ (noticed 21, replies own response.CommandParameterUnknown)
    -- any other command on pipe 01
    ∷ (command && m.0 == 1, replies own response.CommandNotSupported)
    -- the gates: link management, identity
    ∷ (command && m.0 == 0, link_deeds own.node 0 (link_served e.errors (instruction_in m.1) body))
    ∷ (command && is_gate 5 (gate_of_pipe own m.0), answers_on own.node m.0 (identity_served gates (instruction_in m.1) body))
    -- EVT_POST_DATA to the loopback gate goes back as it came.
    ∷ (posts_back m.1 && is_gate 4 (gate_of_pipe own m.0), Sends own.node m ∷ [])
    -- A response on pipe 01 answers the last command sent there: what ANY_OK says is kept, and an init goes on.
    ∷ (
      answers_notice m && is_some own.command,
      Hears ∷ option_map_or (λ order. if instruction_in m.1 == 0 then learned own order body else []) own.command []
          ++ init_deeds own (instruction_in m.1) body own.init,
    )
    -- All else is only noted.
    ∷ []

-- ## A node

-- The rows of a node for a message that came at the end with this host.
abbrev pub answer_rows : NodeView → ℕ → Message → List (Bool × List Deed)
answer_rows v h m = if v.own.node == 0 then controller_rows v h m else option_map_or (λ e. host_rows v.own e m) (v.ends h) []
