-- REC_ERROR of an end, as it is read off entries (ETSI TS 102 622, link management gate).
use Rattle.std.specs.Prelude.{◌≡◌, ℕ, ◌+◌, ◌==◌, ◌&&◌, Bool, false, min, if◌then◌else◌, List, [], Option, Some, None, unwrap_or, Result, Ok}
use Rattle.std.specs.List.{fold, find}
use Rattle.std.specs.Option.{option_map_or, option_map}
use Rattle.trace_model.specs.Lines.{IsHost}
use Rattle.trace_model.specs.declared.entry.Entry.{Entry}
use Rattle.trace_model.specs.declared.entry.Entry.TheVariants as entry
use Rattle.trace_model.specs.declared.line.End.{End}
use Rattle.hcp_packet.specs.declared.MessageKind.{MessageKind}
use Rattle.hcp_packet.specs.declared.MessageKind.TheVariants.{Command as IsCommand, Response as IsResponse}
use Rattle.hcp_packet.specs.declared.MessageFault.{MessageFault}
use Rattle.hcp_packet.specs.MessageHeader.{header_of}
use Rattle.hci_tables.specs.Tables.{HciTables}
use Rattle.gate_answers.specs.Answers.{body_in}
use Rattle.gate_link.specs.Link.{link_served}
use Rattle.history.specs.Filters.{same_end}
use Rattle.node_machine.specs.Parts.{Desk, Running}
use Rattle.node_machine.specs.Controller.{own_gate}
use Rattle.node_machine.specs.world.World.{NodeWorld, Happening, node_at, node_of}
use Rattle.node_machine.specs.world.World.Happening.{Loses}
use Rattle.node_machine.specs.world.Lines.{frames_at}
use Rattle.node_machine.specs.world.NodeFilters.{Book, new_book, book_after, was_refused}

-- a pipe of an end leads to the link management gate of its node: at a host pipe 00 alone, at the controller as its tables say
abbrev pub leads_to_link_gate : HciTables → End → ℕ → Bool
leads_to_link_gate tables e pid = if e.at_host then pid == 0 else option_map_or (λ gate. gate == 6) (own_gate tables e.link pid) false

-- the value that a command sets there, if it is one that sets REC_ERROR
abbrev pub errors_set_by : List ℕ → Option ℕ
errors_set_by message = by_header (header_of message) where
  by_header : Result (MessageKind × ℕ) MessageFault → Option ℕ
  by_header (Ok (IsCommand, instruction)) = (link_served 0 instruction (body_in message)).1
  by_header _ = None

-- a message is ANY_OK
abbrev pub is_any_ok : List ℕ → Bool
is_any_ok message = by_header (header_of message) where
  by_header : Result (MessageKind × ℕ) MessageFault → Bool
  by_header (Ok (IsResponse, code)) = code == 0
  by_header _ = false

-- What is read of REC_ERROR of an end: what is read of the controller, whose tables say where pipes lead; the value that a command
-- sets whose turn was noted last, until more is noted; and REC_ERROR.
pub record ErrorCount : Type 0 where
  pub book : Book
  pub sets : Option ℕ
  pub errors : ℕ

-- nothing was noted yet
abbrev pub no_errors : ErrorCount
no_errors = record { book = new_book; sets = None; errors = 0 }

-- after an entry: it is 0 as the node of the end boots; a command that sets it has its turn, and ANY_OK is sent next; a frame that is
-- refused on its way there counts for one more, up to FFFF
abbrev pub errors_after : End → ErrorCount → Entry → ErrorCount
errors_after e x (entry.Turn f pid message) =
    record x { sets = if same_end f e && leads_to_link_gate x.book.tables e pid then errors_set_by message else None }
errors_after e x (entry.Sent f n pid message) =
    record x { sets = None; errors = if same_end f e && is_any_ok message then unwrap_or x.sets x.errors else x.errors }
errors_after e x (entry.Lost f lpdu cause) =
    record x { sets = None; errors = if same_end f e && was_refused cause then min 65535 (x.errors + 1) else x.errors }
errors_after e x (entry.Booted n k) =
    record { book = book_after 0 x.book (entry.Booted n k); sets = None; errors = if n == node_of e then 0 else x.errors }
errors_after e x y = record x { book = book_after 0 x.book y; sets = None }

-- REC_ERROR of an end
abbrev pub errors_in : List Entry → End → ℕ
errors_in t e = (fold (errors_after e) no_errors t).errors

-- ## Worlds

-- REC_ERROR of its end on the link with this host, as a node that runs keeps it
abbrev pub errors_of : Option Running → ℕ → Option ℕ
errors_of None h = None
errors_of (Some r) h = option_map (λ (d : Desk). d.errors) (find (λ (d : Desk). d.host == h) r.desks)

-- what a node that runs keeps of REC_ERROR of each end of a link with a host is what is read
abbrev pub ErrorsAreRead : List Entry → NodeWorld → Type 0
ErrorsAreRead t w = (e : End) (n : ℕ) → IsHost e.link → errors_of (node_at w (node_of e)) e.link ≡ Some n → errors_in t e ≡ n

-- a frame that is lost stands on its wire
abbrev pub MayBeCounted : NodeWorld → Happening → Type 0
MayBeCounted w (Loses e why) = frames_at w e ≡ [] → ⊥
MayBeCounted w _ = Unit {0}
