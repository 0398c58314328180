-- What a line of a schedule may say, apart from its text.
use Rattle.std.specs.Prelude.{◌≡◌, ℕ, ◌<◌, ◌≤◌, ◌==◌, ◌||◌, ◌⊎◌, List, length, All, Contains, IsTrue, IfSome, true, false}
use Rattle.std.specs.List.{list_any}
use Rattle.std.specs.List.Sorted.{IsStrictlyIncreasing}
use Rattle.swp_base.specs.Bits.{IsByte}
use Rattle.trace_model.specs.declared.line.End.{End}
use Rattle.trace_model.specs.declared.line.Header.{Header}
use Rattle.trace_model.specs.declared.line.Line.{Line}
use Rattle.trace_model.specs.declared.line.Line.TheVariants.{Send, Deliver, Lose, Damage, Tick, Reset, Busy, Ready, Boot, Cut, Activate, Arm, Init, Tables}
use Rattle.trace_model.specs.declared.line.Line.TheVariants.{Settle}

-- a host besides the controller
abbrev pub IsHost : ℕ → Type 0
IsHost h = (1 ≤ h) × (h ≤ 7)

-- a header of a bare world, which has one link
pub record IsHeader (header : Header) : Type 0 where
  pub bare : header.hci ≡ false
  pub one : length header.hosts.items ≡ 1
  pub hosts : All IsHost header.hosts.items

-- a header of a world of nodes: its hosts are 01 to 07, one at least, ascending
pub record IsNodeHeader (header : Header) : Type 0 where
  pub nodes : header.hci ≡ true
  pub some : 0 < length header.hosts.items
  pub hosts : All IsHost header.hosts.items
  pub rising : IsStrictlyIncreasing header.hosts.items

-- a header that a schedule may begin with
abbrev pub MayBegin : Header → Type 0
MayBegin header = IsHeader header ⊎ IsNodeHeader header

-- the end of a link of this world
abbrev pub IsEndOf : Header → End → Type 0
IsEndOf header e = Contains header.hosts.items e.link

-- a message that a line sends on a pipe: dynamic and static pipes are below 70, and the message has a byte at least
pub record IsSend (header : Header) (e : End) (pid : ℕ) (message : List ℕ) : Type 0 where
  pub known : IsEndOf header e
  pub sender : IsTrue header.hci → IsTrue e.at_host
  pub pipe : pid < 112
  pub some : 0 < length message
  pub bytes : All IsByte message

-- places of bits in a frame: 1 to 16 of them, each below the next, all below 400
pub record ArePlaces (places : List ℕ) : Type 0 where
  pub some : 1 ≤ length places
  pub most : length places ≤ 16
  pub rising : IsStrictlyIncreasing places
  pub inside : All (λ place. place < 400) places

-- a node of the world with these hosts: the controller, or one of them
abbrev pub IsNodeOf : List ℕ → ℕ → Type 0
IsNodeOf hosts n = IsTrue (n == 0 || list_any (λ k. k == n) hosts)

-- the link of a host is activated, with an identifier of two bytes and a power code
pub record IsActivateLine (header : Header) (host sync power : ℕ) : Type 0 where
  pub known : Contains header.hosts.items host
  pub identifier : sync < 65536
  pub code : power ≤ 1

-- one of the next 1,000 writes to the memory of a node fails, and leaves 1 to 64 bytes
pub record IsArmLine (header : Header) (node nth : ℕ) (fill : List ℕ) : Type 0 where
  pub known : IsNodeOf header.hosts.items node
  pub which : (1 ≤ nth) × (nth ≤ 1000)
  pub long : (1 ≤ length fill) × (length fill ≤ 64)
  pub bytes : All IsByte fill

-- a host begins an init with an identity of 8 bytes and up to 8 pipes, each of 3 bytes
pub record IsInitLine (header : Header) (e : End) (identity : List ℕ) (pipes : List (List ℕ)) : Type 0 where
  pub known : IsEndOf header e
  pub host : IsTrue e.at_host
  pub long : length identity ≡ 8
  pub bytes : All IsByte identity
  pub few : length pipes ≤ 8
  pub each : All (λ pipe. (length pipe ≡ 3) × All IsByte pipe) pipes

-- A line that a bare world plays: its ends are in the world, and its numbers, lengths and bytes in their ranges. The lines of nodes
-- aren't allowed there, nor one that settles: that one is played as the plain lines that it comes to.
abbrev pub IsLineOf : Header → Line → Type 0
IsLineOf header (Send e pid message) = IsSend header e pid message
IsLineOf header (Deliver e count) = IsEndOf header e × IfSome count (λ n. (1 ≤ n) × (n ≤ 64))
IsLineOf header (Lose e) = IsEndOf header e
IsLineOf header (Damage e places) = IsEndOf header e × ArePlaces places.items
IsLineOf header (Tick times) = IfSome times (λ n. (1 ≤ n) × (n ≤ 100))
IsLineOf header (Reset e window) = IsEndOf header e × IfSome window (λ w. (1 ≤ w) × (w ≤ 4))
IsLineOf header (Busy e) = (header.hci ≡ false) × IsEndOf header e
IsLineOf header (Ready e) = (header.hci ≡ false) × IsEndOf header e
IsLineOf header (Boot node) = ⊥
IsLineOf header (Cut node) = ⊥
IsLineOf header (Activate host sync power) = ⊥
IsLineOf header (Arm node nth fill) = ⊥
IsLineOf header (Init e identity pipes) = ⊥
IsLineOf header (Tables node) = ⊥
IsLineOf header (Settle rounds) = ⊥

-- a line that may stand below this header: those of nodes only in a world of nodes
abbrev pub MayFollow : Header → Line → Type 0
MayFollow header (Boot node) = IsTrue header.hci × IsNodeOf header.hosts.items node
MayFollow header (Cut node) = IsTrue header.hci × IsNodeOf header.hosts.items node
MayFollow header (Activate host sync power) = IsTrue header.hci × IsActivateLine header host sync power
MayFollow header (Arm node nth fill) = IsTrue header.hci × IsArmLine header node nth fill.items
MayFollow header (Init e identity pipes) = IsTrue header.hci × IsInitLine header e identity pipes.items
MayFollow header (Tables node) = IsTrue header.hci × IsNodeOf header.hosts.items node
MayFollow header (Settle rounds) = (1 ≤ rounds) × (rounds ≤ 20000)
MayFollow header said = IsLineOf header said
