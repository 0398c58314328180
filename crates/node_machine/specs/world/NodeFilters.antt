-- What can be read off the entries of a world of nodes: filters and folds, and nothing else.
use Rattle.std.specs.Prelude.{ℕ, ◌+◌, ◌-◌, ◌==◌, ◌&&◌, Bool, true, false, not, if◌then◌else◌, List, [], ◌∷◌, ◌++◌, take, drop, is_some, Option, Some, None}
use Rattle.std.specs.Prelude.{Result, Ok}
use Rattle.std.specs.List.{fold, list_any}
use Rattle.trace_model.specs.declared.entry.Entry.{Entry}
use Rattle.trace_model.specs.declared.entry.Entry.TheVariants as entry
use Rattle.trace_model.specs.declared.entry.LostCause.{LostCause}
use Rattle.trace_model.specs.declared.entry.LostCause.TheVariants as lost
use Rattle.trace_model.specs.declared.line.End.{End}
use Rattle.hcp_packet.specs.declared.MessageKind.{MessageKind}
use Rattle.hcp_packet.specs.declared.MessageKind.TheVariants.{Response as IsResponse}
use Rattle.hcp_packet.specs.declared.MessageFault.{MessageFault}
use Rattle.hcp_packet.specs.MessageHeader.{header_of}
use Rattle.hci_tables.specs.declared.command.Command.{Command}
use Rattle.hci_tables.specs.Tables.{HciTables, no_tables, apply, after_commands, close, is_opened}
use Rattle.gate_answers.specs.Answers.{instruction_in}
use Rattle.link_laws.specs.machine.Machine.{Message, need_of_all}
use Rattle.history.specs.Filters.{same_end, sent_in, acked_in}
use Rattle.node_machine.specs.Controller.{is_command_message}
use Rattle.node_machine.specs.world.World.{end_c, end_h}

-- ## Commands and tables

-- what is read of a node: its commands so far, and its tables
pub record Book : Type 0 where
  pub commands : List Command
  pub tables : HciTables

-- a node that was never told anything
abbrev pub new_book : Book
new_book = record { commands = []; tables = no_tables }

-- a command is one more
abbrev pub with_command : Command → Book → Book
with_command c b = record { commands = b.commands ++ c ∷ []; tables = apply b.tables c }

-- so many commands were found at a boot: the tables are those that they make, all pipes closed
abbrev pub with_found : ℕ → Book → Book
with_found k b = record { commands = take k b.commands; tables = close (after_commands no_tables (take k b.commands)) }

-- what is read of this node after an entry
abbrev pub book_after : ℕ → Book → Entry → Book
book_after n b (entry.Command node c) = if node == n then with_command c b else b
book_after n b (entry.Booted node k) = if node == n then with_found k b else b
book_after n b _ = b

abbrev pub book_in : List Entry → ℕ → Book
book_in t n = fold (book_after n) new_book t

-- the commands of a node, cut to those that each boot found
abbrev pub commands_in : List Entry → ℕ → List Command
commands_in t n = (book_in t n).commands

-- The tables of a node: its commands since it booted, applied to what it found, all pipes closed, of those before.
abbrev pub tables_in : List Entry → ℕ → HciTables
tables_in t n = (book_in t n).tables

-- ## Ends

-- the message is a response
abbrev pub is_response : List ℕ → Bool
is_response message = by_header (header_of message) where
  by_header : Result (MessageKind × ℕ) MessageFault → Bool
  by_header (Ok (IsResponse, code)) = true
  by_header _ = false

-- the notice of a creation, of a pipe that was deleted, or of all pipes of a host
abbrev pub is_notice : List ℕ → Bool
is_notice message = is_command_message message && list_any (λ i. i == instruction_in message) (18 ∷ 19 ∷ 21 ∷ [])

-- A message on pipe 01 that waits for its response, after an entry: one that passes a test is sent, a response has its turn, the
-- session ends, or a node of the link loses its power.
abbrev pub awaited_after : (List ℕ → Bool) → End → ℕ → Option (List ℕ) → Entry → Option (List ℕ)
awaited_after test e node waits (entry.Sent f n pid message) = if same_end f e && pid == 1 && test message then Some message else waits
awaited_after test e node waits (entry.Turn f pid message) = if same_end f e && pid == 1 && is_response message then None else waits
awaited_after test e node waits (entry.Down f cause) = if same_end f e then None else waits
awaited_after test e node waits (entry.Cut n) = if n == node then None else waits
awaited_after test e node waits _ = waits

-- the unanswered notice to a host
abbrev pub notice_in : List Entry → ℕ → Option (List ℕ)
notice_in t h = fold (awaited_after is_notice (end_c h) 0) None t

-- the unanswered command of a host
abbrev pub order_in : List Entry → ℕ → Option (List ℕ)
order_in t h = fold (awaited_after is_command_message (end_h h) h) None t

-- An end is up: its session began, and neither it nor the power of its node has ended.
abbrev pub session_now : List Entry → End → ℕ → Option ℕ
session_now t e node = fold after_commands None t where
  after_commands : Option ℕ → Entry → Option ℕ
  after_commands s (entry.Up f n) = if same_end f e then Some n else s
  after_commands s (entry.Down f cause) = if same_end f e then None else s
  after_commands s (entry.Cut n) = if n == node then None else s
  after_commands s _ = s

-- a host is connected: its link is up, and its pipe 01 is opened
abbrev pub is_connected_in : List Entry → ℕ → Bool
is_connected_in t h = is_some (session_now t (end_c h) 0) && is_opened (tables_in t 0) h 1

-- a frame that was refused on its way
abbrev pub was_refused : LostCause → Bool
was_refused lost.Length = true
was_refused lost.Alignment = true
was_refused lost.Crc = true
was_refused lost.Broken = true
was_refused _ = false

-- a creation that this host asked for, after an entry: the notice goes out, and the asker gets a response, or its session ends
abbrev pub asking_after : ℕ → Option (List ℕ) → Entry → Option (List ℕ)
asking_after h asks (entry.Ask host message) = if list_any (λ x. x == h) (take 1 (drop 1 message)) then Some message else asks
asking_after h asks (entry.Sent f n pid message) = if same_end f (end_c h) && pid == 1 && is_response message then None else asks
asking_after h asks (entry.Down f cause) = if same_end f (end_c h) then None else asks
asking_after h asks (entry.Cut n) = if n == 0 then None else asks
asking_after h asks _ = asks

-- the notice of the creation that this host asked for, while it waits
abbrev pub asking_in : List Entry → ℕ → Option (List ℕ)
asking_in t h = fold (asking_after h) None t

-- ## Room

-- the messages of the session that an end has now which aren't acknowledged
abbrev pub unacknowledged_in : List Entry → End → Option ℕ → List Message
unacknowledged_in t e None = []
unacknowledged_in t e (Some n) = drop (acked_in t e n) (sent_in t e n)

-- a block is set aside at a controller's end while a creation of its host waits
abbrev pub aside_in : List Entry → End → ℕ
aside_in t e = if not e.at_host && is_some (asking_in t e.link) then 1 else 0

-- The blocks that an end has to spare.
abbrev pub spare_at : List Entry → End → ℕ
spare_at t e =
    128 - (need_of_all (unacknowledged_in t e (session_now t e (if e.at_host then e.link else 0))) + aside_in t e)
