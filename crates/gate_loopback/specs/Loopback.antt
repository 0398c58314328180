-- The loopback gate (ETSI TS 102 622, sections 7.1 and 8.5): EVT_POST_DATA is sent back as it came.
use Rattle.std.specs.Prelude.{ℕ, Bool, true, false, ◌&&◌, ◌==◌, List, Result, Ok, Err}
use Rattle.hcp_packet.specs.declared.MessageKind.{MessageKind}
use Rattle.hcp_packet.specs.declared.MessageKind.TheVariants.{Command, Event, Response}
use Rattle.hcp_packet.specs.declared.MessageFault.{MessageFault}
use Rattle.hcp_packet.specs.MessageHeader.{header_of}

abbrev pub is_event : MessageKind → Bool
is_event Event = true
is_event Command = false
is_event Response = false

abbrev pub is_post_data : Result (MessageKind × ℕ) MessageFault → Bool
is_post_data (Ok header) = is_event header.0 && header.1 == 2
is_post_data (Err fault) = false

-- whether a message is sent back
abbrev pub posts_back : List ℕ → Bool
posts_back message = is_post_data (header_of message)
