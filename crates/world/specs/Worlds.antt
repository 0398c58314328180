-- What is kept of the world, and behind which plays of a schedule it stands.
use Rattle.std.specs.Prelude.{◌≡◌, ◌+◌, ◌≤◌, ◌<◌, ℕ, Bool, true, false, if◌then◌else◌, List, ◌++◌, length, map, replicate, Option, Some, None}
use Rattle.trace_model.specs.declared.entry.Entry.{Entry}
use Rattle.trace_model.specs.declared.entry.Entry.TheVariants.{Echo, Settled}
use Rattle.trace_model.specs.declared.line.Header.{Header}
use Rattle.trace_model.specs.declared.line.Line.{Line}
use Rattle.trace_model.specs.declared.line.Line.TheVariants as saying
use Rattle.history.specs.Histories.{History}
use Rattle.lines_told.specs.lines.Below.{IsPlayedLine, bare_link_behind, nodes_behind, misread_below}
use Rattle.lines_told.specs.lines.Plays.{AreFewPlays, Play, lines_played, lines_said, rounds_played, rounds_to_rest}
use Rattle.lines_told.specs.lines.Plays.Play.{Said, Round}
use Rattle.node_world.specs.Whole.{damaged_in}
use Rattle.node_world.specs.Worlds.{IsNodeWorldBehind, MayCountAsRounds, nodes_entries}
use Rattle.world.specs.declared.world_steps.World.{World}
use Rattle.world.specs.declared.world_steps.Below.{Below}
use Rattle.world.specs.declared.world_steps.Below.TheVariants.{Bare, Nodes}
use Rattle.world.specs.declared.fault.WorldFault.{WorldFault}
use Rattle.world.specs.declared.fault.WorldFault.TheVariants as fault
use Rattle.world.specs.Lines.{damaged_by}
use Rattle.world.specs.BareWorlds.{MayCountBare, WorldStandsFor, bare_entries}

-- the header that the world was made of
abbrev pub world_header : World → Header
world_header w = w.header

-- what the last line caused, or before the first line the header
abbrev pub last_noted : Below → List Entry
last_noted (Bare w) = bare_entries w
last_noted (Nodes w) = nodes_entries w

abbrev pub world_entries : World → List Entry
world_entries w = last_noted w.below

-- Below a bare header the world stands for a history that follows the lines that these plays come to and is legal; below that of nodes, for
-- the world of nodes as those lines leave it.
abbrev pub StandsBelow : Below → Header → List Play → Type 0
StandsBelow (Bare w) header plays = (t : History) × WorldStandsFor w header plays t
StandsBelow (Nodes w) header plays = IsNodeWorldBehind w header plays

-- so it stands below its own header
abbrev pub StandsBehind : World → List Play → Type 0
StandsBehind w plays = StandsBelow w.below w.header plays

-- The world stands behind these plays, below this header, and no line that lets the links settle is open.
pub record IsWorldAt (w : World) (header : Header) (plays : List Play) : Type 0 where
  pub header_is : w.header ≡ header
  pub closed : w.opened ≡ None
  pub few : AreFewPlays plays
  pub stands : StandsBelow w.below header plays

-- it stands behind fewer than 20,000 lines that were said
pub record HasRoomForLine (w : World) : Type 0 where
  pub plays : List Play
  pub stands : IsWorldAt w (world_header w) plays
  pub few : lines_said plays < 20000

-- it stands behind fewer rounds than a schedule has at most
pub record HasRoomToSettle (w : World) : Type 0 where
  pub plays : List Play
  pub stands : IsWorldAt w (world_header w) plays
  pub few : rounds_played plays < 400000000

-- ## In a line that lets the links settle

-- Behind these plays a line that lets the links settle was opened, in so many rounds at most, and since then these parts were done.
pub record IsWorldWithin (w : World) (header : Header) (plays : List Play) (most : ℕ) (parts : List Line) : Type 0 where
  pub header_is : w.header ≡ header
  pub opened : w.opened ≡ Some (record { most = most; parts = length parts })
  pub few : AreFewPlays plays
  pub room : rounds_played plays + most ≤ 400000000
  pub some_left : length parts ≤ 300000
  pub stands : StandsBelow w.below header (plays ++ map Said parts)

-- a line that may be a part: an end takes frames, or time passes
abbrev pub is_part : Line → Bool
is_part (saying.Deliver e count) = true
is_part (saying.Tick times) = true
is_part said = false

pub record IsPartLine (header : Header) (said : Line) : Type 0 where
  pub played : IsPlayedLine header said
  pub part : is_part said ≡ true

-- fewer than 300,000 parts of an open line were done
pub record HasRoomForPart (w : World) : Type 0 where
  pub plays : List Play
  pub most : ℕ
  pub parts : List Line
  pub stands : IsWorldWithin w (world_header w) plays most parts
  pub few : length parts < 300000

-- a line with so many rounds at most may be opened: with them there aren't more than a schedule has
pub record MayOpen (w : World) (most : ℕ) : Type 0 where
  pub some : 1 ≤ most
  pub few : most ≤ 20000
  pub plays : List Play
  pub stands : IsWorldAt w (world_header w) plays
  pub room : rounds_played plays + most ≤ 400000000

-- The open line came to so many rounds: its parts are the lines of these rounds, behind which all links are at rest, and behind no fewer; or
-- there are as many as the line allows.
pub record HasComeTo (w : World) (header : Header) (plays : List Play) (most : ℕ) (parts : List Line) (rounds : ℕ) : Type 0 where
  pub within : IsWorldWithin w header plays most parts
  pub lines_are : lines_played header (plays ++ map Said parts) ≡ lines_played header (plays ++ replicate rounds Round)
  pub rounds_are : rounds ≡ rounds_to_rest header plays most

-- so it did behind some plays
pub record MayClose (w : World) (rounds : ℕ) : Type 0 where
  pub plays : List Play
  pub most : ℕ
  pub parts : List Line
  pub settled : HasComeTo w (world_header w) plays most parts rounds

-- a line that lets the links settle is marked where it may be opened, and how many rounds it came to where it may be closed
abbrev pub MayBeMarked : World → Entry → Type 0
MayBeMarked w (Echo (saying.Settle most)) = MayOpen w most
MayBeMarked w (Settled rounds) = MayClose w rounds
MayBeMarked w entry = ⊥

-- so many of the lines that were stepped below the header may count as so many rounds
abbrev pub MayCountBelow : Below → ℕ → ℕ → Type 0
MayCountBelow (Bare w) lines rounds = MayCountBare w lines rounds
MayCountBelow (Nodes w) lines rounds = MayCountAsRounds w lines rounds

-- ## Faults

-- the first frame on its way to the end that a line behind these speaks of, where the line damages it
abbrev pub damaged_below : Header → List Line → Line → Option (List ℕ)
damaged_below header before said =
    if header.hci then damaged_in (nodes_behind header before) said else damaged_by (bare_link_behind header before) said

-- This is why a line behind these stops the world: another frame is read in place of the damaged one, or there was no memory for a line
-- that does no such thing.
abbrev pub IsFaultThere : Header → List Line → Line → WorldFault → Type 0
IsFaultThere header before said (fault.Undetected sent read) =
    (misread_below header before said ≡ Some read) × (damaged_below header before said ≡ Some sent)
IsFaultThere header before said fault.NoMemory = misread_below header before said ≡ None
