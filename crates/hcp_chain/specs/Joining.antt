-- Joining packets into messages (ETSI TS 102 622, section 5.3), one packet at a time: the messages under way,
-- each with its pipe, and what one more packet does to them. That at most four are under way, and that a message has at
-- most 4,096 bytes, is this project's own.
use Rattle.std.specs.Prelude.{ℕ, Bool, true, false, not, ◌&&◌, if◌then◌else◌, ◌==◌, nat_lt, nat_le, List, [], ◌∷◌, ◌++◌, length}
use Rattle.std.specs.List.{filter, list_any}
use Rattle.hcp_packet.specs.declared.Packet.{Packet}

-- what a packet gives
pub data JoinOutcome : Type 0 where
  -- its message isn't whole yet
  Nothing : JoinOutcome
  -- it ends the message of a pipe
  Message : (pipe : ℕ) (bytes : List ℕ) → JoinOutcome
  -- it begins a fifth message
  Fifth : (pipe : ℕ) → JoinOutcome
  -- its message would have so many bytes
  Long : (len : ℕ) → JoinOutcome

-- whether a message is under way on a pipe
abbrev pub is_message_open : List (ℕ × List ℕ) → ℕ → Bool
is_message_open messages pipe = list_any (λ m. m.0 == pipe) messages

-- what has come of the message under way on a pipe
abbrev pub so_far : List (ℕ × List ℕ) → ℕ → List ℕ
so_far [] pipe = []
so_far (m ∷ messages) pipe = if m.0 == pipe then m.1 else so_far messages pipe

-- the messages under way on other pipes
abbrev pub others : List (ℕ × List ℕ) → ℕ → List (ℕ × List ℕ)
others messages pipe = filter (λ m. not (m.0 == pipe)) messages

-- whether a packet on this pipe begins a fifth message
abbrev pub is_fifth : List (ℕ × List ℕ) → ℕ → Bool
is_fifth messages pipe = not (is_message_open messages pipe) && nat_le 4 (length messages)

-- a message after one more packet of its pipe
abbrev pub grown : List (ℕ × List ℕ) → Packet → List ℕ
grown messages p = so_far messages p.pipe ++ p.bytes.items

-- what one packet gives, and the messages under way after it. After a fault none is.
abbrev pub join_step : List (ℕ × List ℕ) → Packet → JoinOutcome × List (ℕ × List ℕ)
join_step messages p =
    if is_fifth messages p.pipe then (Fifth p.pipe, [])
    else (if nat_lt 4096 (length (grown messages p)) then (Long (length (grown messages p)), [])
    else (if p.last then (Message p.pipe (grown messages p), others messages p.pipe)
    else (Nothing, others messages p.pipe ++ (p.pipe, grown messages p) ∷ [])))

-- the message that a packet gave
abbrev pub message_in : JoinOutcome → List (ℕ × List ℕ)
message_in Nothing = []
message_in (Message pipe bytes) = (pipe, bytes) ∷ []
message_in (Fifth pipe) = []
message_in (Long len) = []

abbrev pub is_fault : JoinOutcome → Bool
is_fault Nothing = false
is_fault (Message pipe bytes) = false
is_fault (Fifth pipe) = true
is_fault (Long len) = true

-- whether packets are all taken without a fault
abbrev pub are_taken : List (ℕ × List ℕ) → List Packet → Bool
are_taken messages [] = true
are_taken messages (p ∷ packets) =
    not (is_fault (join_step messages p).0) && are_taken (join_step messages p).1 packets

-- the messages that packets give, one after another
abbrev pub given_by : List (ℕ × List ℕ) → List Packet → List (ℕ × List ℕ)
given_by messages [] = []
given_by messages (p ∷ packets) = message_in (join_step messages p).0 ++ given_by (join_step messages p).1 packets

-- the messages under way after these packets
abbrev pub open_after : List (ℕ × List ℕ) → List Packet → List (ℕ × List ℕ)
open_after messages [] = messages
open_after messages (p ∷ packets) = open_after (join_step messages p).1 packets
