-- What a host does with a message (ETSI TS 102 622, notifications of the host controller, gates of a host), and how it runs an
-- init, which is this project's own.
use Rattle.std.specs.Prelude.{ℕ, ◌+◌, ◌==◌, ◌&&◌, ◌||◌, Bool, true, false, not, nat_le, if◌then◌else◌, List, [], ◌∷◌, ◌++◌, map, length, is_some, slice_get}
use Rattle.std.specs.Prelude.{Option, Some, None, Result, Ok, Err}
use Rattle.std.specs.Option.{option_map_or}
use Rattle.hcp_packet.specs.declared.MessageKind.{MessageKind}
use Rattle.hcp_packet.specs.declared.MessageKind.TheVariants.{Command as IsCommand, Event as IsEvent, Response as IsResponse}
use Rattle.hcp_packet.specs.declared.MessageFault.{MessageFault}
use Rattle.hcp_packet.specs.MessageHeader.{header_of}
use Rattle.trace_model.specs.declared.entry.Entry.TheVariants.{InitSame, InitMade, InitFailed}
use Rattle.registry.specs.Values.{value_at, is_default}
use Rattle.pipe_table.specs.declared.row.PipeRow.{PipeRow}
use Rattle.pipe_table.specs.PipeRows.{pipe_at}
use Rattle.hci_tables.specs.declared.command.Command.{Command}
use Rattle.hci_tables.specs.declared.command.Command.TheVariants.{Create, Delete, Clear, Set}
use Rattle.hci_tables.specs.Commands.{is_command, is_host, is_dynamic}
use Rattle.gate_answers.specs.declared.response.Response.{Response}
use Rattle.gate_answers.specs.declared.response.Response.TheVariants as response
use Rattle.gate_answers.specs.Answers.{answer_of, instruction_in, body_in}
use Rattle.gate_link.specs.Link.{link_served}
use Rattle.gate_identity.specs.Identity.{identity_served}
use Rattle.gate_loopback.specs.Loopback.{posts_back}
use Rattle.link_laws.specs.machine.Machine.{Message}
use Rattle.history.specs.Damage.{same_bytes}
use Rattle.node_machine.specs.Parts.{Init, Deed, OwnView, EndView}
use Rattle.node_machine.specs.Parts.Deed.{Commits, Sends, Drops, Orders, Hears, GoesOn, Ends}
use Rattle.node_machine.specs.Carrying.{end_of_number}
use Rattle.node_machine.specs.Controller.{answers_on, commit_deeds, link_deeds, gates}

-- ## Notices

-- an answer on pipe 01
abbrev pub replies : OwnView → Response → List Deed
replies own r = answers_on own.node 1 (answer_of r [])

-- a command is committed and answered by ANY_OK
abbrev pub accepts : OwnView → Command → List Deed
accepts own c = commit_deeds (own.has_room c) own.node 1 c (answer_of response.Ok []) []

-- a host takes pipes to its gates 04 and 05 and to those from 10 on
abbrev pub is_open_gate : ℕ → Bool
is_open_gate gate = gate == 4 || gate == 5 || nat_le 16 gate

-- a pipe that another host made to this one may be taken
abbrev pub is_welcome : ℕ → PipeRow → Bool
is_welcome own row =
    is_host row.creator && not (row.creator == own) && row.dest == own && is_open_gate row.dest_gate && is_dynamic row.pid

-- the pipe that two ends and a number name, as a notice and an answer carry them
abbrev pub pipe_named_in : List ℕ → Option PipeRow
pipe_named_in (creator ∷ creator_gate ∷ dest ∷ dest_gate ∷ pid ∷ []) =
    Some (record { pid = pid; creator = creator; creator_gate = creator_gate; dest = dest; dest_gate = dest_gate; opened = false })
pipe_named_in _ = None

-- ADM_NOTIFY_PIPE_CREATED
abbrev pub pipe_created : OwnView → List ℕ → List Deed
pipe_created own body = by_row (pipe_named_in body) where
  by_row : Option PipeRow → List Deed
  by_row None = replies own response.NotOk
  by_row (Some row) = if is_welcome own.node row then accepts own (Create row) else replies own response.NotOk

-- ADM_NOTIFY_PIPE_DELETED: a pipe that the host doesn't keep is answered too
abbrev pub pipe_deleted : OwnView → List ℕ → List Deed
pipe_deleted own (pid ∷ []) = if is_some (pipe_at own.tables.rows pid) then accepts own (Delete pid) else replies own response.Ok
pipe_deleted own _ = replies own response.CommandParameterUnknown

-- ADM_NOTIFY_ALL_PIPE_CLEARED
abbrev pub pipes_cleared : OwnView → List ℕ → List Deed
pipes_cleared own (x ∷ []) = if is_host x then accepts own (Clear x) else replies own response.CommandParameterUnknown
pipes_cleared own _ = replies own response.CommandParameterUnknown

-- a command on pipe 01
abbrev pub notified_deeds : OwnView → ℕ → List ℕ → List Deed
notified_deeds own instruction body =
    if instruction == 18 then pipe_created own body else
    (if instruction == 19 then pipe_deleted own body else
    (if instruction == 21 then pipes_cleared own body else
    replies own response.CommandNotSupported))

-- ## Init

-- the commands of an init, in order
abbrev pub orders_of : Init → List (List ℕ)
orders_of i = (3 ∷ []) ∷ (2 ∷ 1 ∷ []) ∷ (20 ∷ []) ∷ (3 ∷ []) ∷ map (λ pipe. 16 ∷ pipe) i.pipes ++ (1 ∷ 1 ∷ i.identity) ∷ []

-- the identity that the host keeps
abbrev pub kept_identity : OwnView → List ℕ
kept_identity own = value_at own.tables.values own.node 0 1

-- the second command was answered by the identity that the host keeps, and one was ever set
abbrev pub is_same : OwnView → Init → List ℕ → Bool
is_same own i value = i.answered == 1 && same_bytes value (kept_identity own) && not (is_default 1 value)

-- a command of its own is committed where there is room and it may be recorded
abbrev pub learns : OwnView → Command → List Deed
learns own c = if is_command c && own.has_room c then Commits c ∷ [] else []

-- ANY_OK came to a command of an init
abbrev pub init_agreed : OwnView → Init → List ℕ → List Deed
init_agreed own i value =
    if is_same own i value then Ends (InitSame (end_of_number own.node own.node)) ∷ [] else next (slice_get (orders_of i) (i.answered + 1)) where
      next : Option (List ℕ) → List Deed
      next None =
          learns own (Set own.node 0 1 (record { items = i.identity })) ++ Ends (InitMade (end_of_number own.node own.node) (length i.pipes)) ∷ []
      next (Some order) = GoesOn (record i { answered = i.answered + 1 }) ∷ Orders order ∷ []

-- a response came to a command of an init
abbrev pub init_deeds : OwnView → ℕ → List ℕ → Option Init → List Deed
init_deeds own code value None = []
init_deeds own code value (Some i) = if code == 0 then init_agreed own i value else Ends (InitFailed (end_of_number own.node own.node) code) ∷ []

-- ## Responses

-- ANY_OK to a command that deletes the pipe that its body names
abbrev pub deleted_by : OwnView → List ℕ → List Deed
deleted_by own (pid ∷ []) = learns own (Delete pid)
deleted_by own _ = []

-- ANY_OK to a command that creates the pipe that the answer names
abbrev pub created_by : OwnView → List ℕ → List Deed
created_by own value = option_map_or (λ row. learns own (Create row)) (pipe_named_in value) []

-- what a host keeps of its own command, to which ANY_OK came with this value
abbrev pub learned : OwnView → List ℕ → List ℕ → List Deed
learned own order value =
    if instruction_in order == 16 then created_by own value else
    (if instruction_in order == 17 then deleted_by own (body_in order) else
    (if instruction_in order == 20 then learns own (Clear own.node) else []))

-- a response on pipe 01 answers the last command sent there
abbrev pub response_deeds : OwnView → ℕ → List ℕ → List Deed
response_deeds own code value = by_order own.command where
  by_order : Option (List ℕ) → List Deed
  by_order None = []
  by_order (Some order) = Hears ∷ (if code == 0 then learned own order value else []) ++ init_deeds own code value own.init

-- ## Messages

-- the gate of this host at which a dynamic pipe ends that another one made
abbrev pub gate_of_pipe : OwnView → ℕ → Option ℕ
gate_of_pipe own pid = by_row (pipe_at own.tables.rows pid) where
  by_row : Option PipeRow → Option ℕ
  by_row None = None
  by_row (Some row) = if row.dest == own.node then Some row.dest_gate else None

-- this is the gate
abbrev pub is_gate : ℕ → Option ℕ → Bool
is_gate gate at = option_map_or (λ g. g == gate) at false

-- a command: one on a pipe to the loopback gate is only noted
abbrev pub ordered_deeds : OwnView → ℕ → ℕ → ℕ → List ℕ → List Deed
ordered_deeds own errors pipe instruction body =
    if pipe == 1 then notified_deeds own instruction body else
    (if pipe == 0 then link_deeds own.node 0 (link_served errors instruction body) else
    (if is_gate 5 (gate_of_pipe own pipe) then answers_on own.node pipe (identity_served gates instruction body) else []))

-- What a host does with a message. One that comes to its turn while the link isn't up is dropped; what isn't named here is only
-- noted.
abbrev pub host_deeds : OwnView → EndView → Message → List Deed
host_deeds own e m = if_up e.up where
  by_header : Result (MessageKind × ℕ) MessageFault → List Deed
  by_header (Ok (IsCommand, instruction)) = ordered_deeds own e.errors m.0 instruction (body_in m.1)
  by_header (Ok (IsEvent, instruction)) = if is_gate 4 (gate_of_pipe own m.0) && posts_back m.1 then Sends own.node m ∷ [] else []
  by_header (Ok (IsResponse, code)) = if m.0 == 1 then response_deeds own code (body_in m.1) else []
  by_header (Err fault) = []

  if_up : Bool → List Deed
  if_up true = by_header (header_of m.1)
  if_up false = Drops m.0 ∷ []
