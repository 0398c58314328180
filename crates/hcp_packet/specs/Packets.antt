-- The packets of a message and the messages of packets (ETSI TS 102 622, section 5.3): plain functions on
-- lists of bytes.
use Rattle.std.specs.Prelude.{◌≡◌, ℕ, zero, suc, ◌+◌, ◌/◌, ◌%◌, ◌<◌, Bool, false, not, if◌then◌else◌, ◌==◌, nat_lt, nat_le, IsTrue, List, [], ◌∷◌, ◌++◌, length}
use Rattle.std.specs.Prelude.{take, drop, map, Option, None, Some}
use Rattle.std.specs.List.{fold, filter, filter_map, flat_map, AllByRecursion}
use Rattle.hcp_packet.specs.declared.Packet.{Packet}
use Rattle.hcp_packet.specs.declared.view.PacketView.{PacketView}

-- a packet with this mark, pipe and data
abbrev pub packet : Bool → ℕ → List ℕ → Packet
packet last pipe data_bytes = record { last = last; pipe = pipe; bytes = record { items = data_bytes } }

-- the packet that lies there
abbrev pub packet_seen : PacketView → Packet
packet_seen v = packet v.last v.pipe v.bytes.now

-- The first byte of a packet: its highest bit is 1 on the last or only packet of a message, the other seven are the pipe.
abbrev pub first_byte_of : Packet → ℕ
first_byte_of p = (if p.last then 128 else 0) + p.pipe

-- the bytes of a packet
abbrev pub packet_bytes : Packet → List ℕ
packet_bytes p = first_byte_of p ∷ p.bytes.items

-- the pipe that the first byte of a packet names
abbrev pub pipe_in : List ℕ → ℕ
pipe_in [] = 0
pipe_in (first ∷ rest) = first % 128

-- The packet that these bytes are. Pipes from 70 to 7F are reserved.
abbrev pub packet_of : List ℕ → Option Packet
packet_of [] = None
packet_of (first ∷ rest) = if nat_lt (first % 128) 112 then Some (packet (nat_le 128 first) (first % 128) rest) else None

-- The next n packets of a message of which these bytes are left: consecutive parts of 28 bytes, only the last one marked.
abbrev pub parts_of : ℕ → ℕ → List ℕ → List Packet
parts_of pipe zero left = []
parts_of pipe (suc n) left = packet (n == 0) pipe (take 28 left) ∷ parts_of pipe n (drop 28 left)

-- how many packets a message of this length has
abbrev pub packet_count : ℕ → ℕ
packet_count len = (len + 27) / 28

-- the packets of a message on a pipe
abbrev pub packets_of : ℕ → List ℕ → List Packet
packets_of pipe message = parts_of pipe (packet_count (length message)) message

-- the packet that begins at a place of a message
abbrev pub packet_at : ℕ → List ℕ → ℕ → Packet
packet_at pipe message from = packet (nat_le (length message) (from + 28)) pipe (take 28 (drop from message))

-- what one more packet leaves of the message under way on a pipe: packets of other pipes leave it, a last one ends it
abbrev pub under_way_after : ℕ → List ℕ → Packet → List ℕ
under_way_after pipe so_far p =
    if p.pipe == pipe then (if p.last then [] else so_far ++ p.bytes.items) else so_far

-- what has come of the message under way on a pipe
abbrev pub under_way : ℕ → List Packet → List ℕ
under_way pipe packets = fold (under_way_after pipe) [] packets

-- the message that a packet ends, with its pipe, if it is marked as the last one
abbrev pub message_ended_by : List Packet → Packet → List (ℕ × List ℕ)
message_ended_by before p = if p.last then (p.pipe, under_way p.pipe before ++ p.bytes.items) ∷ [] else []

-- the messages that packets end, which come behind others
abbrev pub messages_after : List Packet → List Packet → List (ℕ × List ℕ)
messages_after before [] = []
messages_after before (p ∷ packets) = message_ended_by before p ++ messages_after (before ++ p ∷ []) packets

-- The messages of packets of any pipes mixed. On each pipe a message ends with each packet that is marked as the last
-- one; the messages stand in the order of their last packets.
abbrev pub messages_of : List Packet → List (ℕ × List ℕ)
messages_of packets = messages_after [] packets

-- whether a message isn't empty and the two type bits of its first byte aren't both 1
abbrev pub is_good : List ℕ → Bool
is_good [] = false
is_good (first ∷ rest) = not (first / 64 == 3)

abbrev pub IsGood : List ℕ → Type 0
IsGood message = IsTrue (is_good message)

-- the good ones of some messages, each with its pipe
abbrev pub good_of : List (ℕ × List ℕ) → List (ℕ × List ℕ)
good_of messages = filter (λ m. is_good m.1) messages

-- the packets that fragments are, without those that are none
abbrev pub packets_in : List (List ℕ) → List Packet
packets_in fragments = filter_map packet_of fragments

-- the good messages of fragments
abbrev pub good_messages_of : List (List ℕ) → List (ℕ × List ℕ)
good_messages_of fragments = good_of (messages_of (packets_in fragments))

-- the fragments of messages that are sent one after another, each with its pipe
abbrev pub fragments_of : List (ℕ × List ℕ) → List (List ℕ)
fragments_of messages = flat_map (λ m. map packet_bytes (packets_of m.0 m.1)) messages

-- a message that isn't empty, on a pipe that isn't reserved
abbrev pub IsSendable : ℕ × List ℕ → Type 0
IsSendable m = (m.0 < 112) × (0 < length m.1)

abbrev pub AreSendable : List (ℕ × List ℕ) → Type 0
AreSendable messages = AllByRecursion IsSendable messages

-- xs is a front of ys
abbrev pub IsFrontOf : {X : Type 0} → List X → List X → Type 0
IsFrontOf {X} xs ys = (rest : List X) × (xs ++ rest ≡ ys)
