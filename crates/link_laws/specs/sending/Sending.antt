-- Messages that may be sent one after another over a link.
use Rattle.std.specs.Prelude.{ℕ, ◌≤◌, List, length}
use Rattle.std.specs.List.{AllByRecursion}
use Rattle.hcp_packet.specs.Packets.{IsSendable}

-- on a pipe that isn't reserved, and neither empty nor longer than 4,096 bytes
abbrev pub IsShort : ℕ × List ℕ → Type 0
IsShort m = IsSendable m × (length m.1 ≤ 4096)

abbrev pub AreShort : List (ℕ × List ℕ) → Type 0
AreShort messages = AllByRecursion IsShort messages
