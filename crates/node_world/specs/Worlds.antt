-- The world of nodes, behind which lines of a schedule it stands.
use Rattle.std.specs.Prelude.{◌≡◌, ◌+◌, ◌≤◌, ◌<◌, ◌^◌, ℕ, false, List, [], ◌∷◌, Some, None}
use Rattle.std.specs.List.{AllByRecursion}
use Rattle.std.specs.Option.{option_map}
use Rattle.gate_admin.specs.View.{has, hosts_where}
use Rattle.trace_model.specs.declared.entry.Entry.{Entry}
use Rattle.trace_model.specs.declared.entry.Entry.TheVariants as entry
use Rattle.trace_model.specs.declared.line.Header.{Header}
use Rattle.trace_model.specs.declared.line.Line.{Line}
use Rattle.trace_model.specs.Lines.{IsNodeHeader}
use Rattle.hci_tables.specs.Tables.{close}
use Rattle.hci_store.specs.Image.{image_fault, tables_of}
use Rattle.journal_laws.specs.Journal.{count}
use Rattle.node_machine.specs.Parts.{Running}
use Rattle.node_machine.specs.world.World.{NodeWorld as Machine, node_at, memory_at, with_memory, loses_power_at, boots, new_world}
use Rattle.node_machine.specs.world.NodeHistories.{NoneIsMisread}
use Rattle.lines_told.specs.lines.Below.{IsPlayedLine, nodes_behind}
use Rattle.lines_told.specs.lines.Plays.{IsPlayFor, Play, lines_played, lines_said, rounds_played}
use Rattle.node_world.specs.declared.worlds.NodeWorld.{NodeWorld}
use Rattle.node_world.specs.Controllers.{WorldIs}

-- what the last line caused
abbrev pub nodes_entries : NodeWorld → List Entry
nodes_entries k = k.noted.entries.items

-- no more than a schedule has and a line that lets the links settle comes to: 20,000 lines, 300,000 parts of rounds, each played as a line,
-- and 400,000,000 rounds
pub record AreFewWithParts (plays : List Play) : Type 0 where
  pub said : lines_said plays ≤ 320000
  pub rounds : rounds_played plays ≤ 400000000

-- It stands for the world that these plays leave below this header; each of their lines is one that is played, and none damages a frame so
-- that another one is read.
pub record IsNodeWorldBehind (k : NodeWorld) (header : Header) (plays : List Play) : Type 0 where
  pub is_header : IsNodeHeader header
  pub plays_are : AllByRecursion (IsPlayFor header) plays
  pub few : AreFewWithParts plays
  pub sure : NoneIsMisread (new_world header.hosts.items) (lines_played header plays)
  pub stands : WorldIs k.controller k.sites.items (nodes_behind header (lines_played header plays))
  pub mask_is : hosts_where (has k.mask) ≡ header.hosts.items
  pub stepped : k.stepped ≡ lines_said plays
  pub rounds : k.rounds ≡ rounds_played plays
  pub quiet : k.noted.short ≡ false

-- plays with fewer than 320,000 lines left it so, and this line may follow them
pub record HasRoomForNodeLine (k : NodeWorld) (said : Line) : Type 0 where
  pub header : Header
  pub plays : List Play
  pub stands : IsNodeWorldBehind k header plays
  pub few : lines_said plays < 320000
  pub may : IsPlayedLine header said

-- plays with fewer than 400,000,000 rounds left it so
pub record HasRoomForRound (k : NodeWorld) : Type 0 where
  pub header : Header
  pub plays : List Play
  pub stands : IsNodeWorldBehind k header plays
  pub few : rounds_played plays < 400000000

-- so many of the lines that were stepped may count as so many rounds
pub record MayCountAsRounds (k : NodeWorld) (lines rounds : ℕ) : Type 0 where
  pub stepped : lines ≤ k.stepped
  pub room : k.rounds + rounds < 2 ^ 32

-- ## Memories

-- the world in which the power of this node was cut, and no write to its memory is to fail
abbrev pub at_rest : ℕ → Machine → Machine
at_rest n w = with_memory n (record (memory_at w n) { plan = None }) (loses_power_at n w)

-- What a store reads of this memory that is opened without a write: the tables and the count of a boot of this node that is put next, behind
-- a cut of its power.
pub record IsPeekedSo (w : Machine) (node : ℕ) (content : List ℕ) : Type 0 where
  pub sound : image_fault content ≡ None
  pub booted : (boots (at_rest node w) node).1 ≡ entry.Booted node (count content) ∷ []
  pub tables : option_map (λ (r : Running). r.core.tables) (node_at (boots (at_rest node w) node).0 node) ≡ Some (close (tables_of content))
