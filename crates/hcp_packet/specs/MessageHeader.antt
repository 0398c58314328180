-- The first byte of a message (ETSI TS 102 622, section 5.2): two bits type, six bits instruction.
use Rattle.std.specs.Prelude.{ℕ, ◌/◌, ◌%◌, List, [], ◌∷◌, Result, Ok, Err, if◌then◌else◌, ◌==◌}
use Rattle.hcp_packet.specs.declared.MessageKind.{MessageKind}
use Rattle.hcp_packet.specs.declared.MessageKind.TheVariants.{Command, Event, Response}
use Rattle.hcp_packet.specs.declared.MessageFault.{MessageFault}
use Rattle.hcp_packet.specs.declared.MessageFault.TheVariants.{Empty, ReservedType}

-- the type bits of a kind of message
abbrev pub type_bits_of : MessageKind → ℕ
type_bits_of Command = 0
type_bits_of Event = 1
type_bits_of Response = 2

-- the kind of message that the type bits say, with the instruction
abbrev pub with_kind : ℕ → ℕ → Result (MessageKind × ℕ) MessageFault
with_kind bits instruction =
    if bits == 0 then Ok (Command, instruction) else
    (if bits == 1 then Ok (Event, instruction) else
    (if bits == 2 then Ok (Response, instruction) else Err ReservedType))

-- the kind and the instruction of a message
abbrev pub header_of : List ℕ → Result (MessageKind × ℕ) MessageFault
header_of [] = Err Empty
header_of (first ∷ rest) = with_kind (first / 64) (first % 64)
