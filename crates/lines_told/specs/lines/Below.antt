-- What is noted below each line of a schedule, and which line ends a run, below either header.
use Rattle.std.specs.Prelude.{◌≡◌, ℕ, Bool, true, false, if◌then◌else◌, List, [], ◌∷◌, Option, Some, None}
use Rattle.swp_base.specs.InMemory.{Memory}
use Rattle.trace_model.specs.declared.entry.Entry.{Entry}
use Rattle.trace_model.specs.declared.entry.Entry.TheVariants.{Tables}
use Rattle.trace_model.specs.declared.line.End.{End}
use Rattle.trace_model.specs.declared.line.Header.{Header}
use Rattle.trace_model.specs.declared.line.Line.{Line}
use Rattle.trace_model.specs.declared.line.Line.TheVariants as saying
use Rattle.trace_model.specs.Lines.{MayFollow}
use Rattle.link_laws.specs.sessions.Sessions.{OnWire}
use Rattle.link_laws.specs.messages.Links.{Link}
use Rattle.history.specs.Histories.{noted}
use Rattle.history.specs.Steps.{bare_link}
use Rattle.history.specs.Follows.{frames_to, host_of, link_after_lines, misread, opening_of, outcome_of}
use Rattle.node_machine.specs.world.World.{NodeWorld, memory_at, new_world}
use Rattle.node_machine.specs.world.Lines.{NotedBelow, frames_at, is_running, misread_in, line_step, noted_below}
use Rattle.node_machine.specs.world.Lines.NotedBelow.{Entries, TablesOf}
use Rattle.node_machine.specs.world.NodeHistories.{world_after}

-- a line that lets the links of a world settle
abbrev pub is_settling : Line → Bool
is_settling (saying.Settle rounds) = true
is_settling said = false

-- a line that a world with this header plays by itself: one that lets the links settle comes to rounds
pub record IsPlayedLine (header : Header) (line : Line) : Type 0 where
  pub may_follow : MayFollow header line
  pub settles_not : is_settling line ≡ false

-- what is noted below a line: the entries of its events, its refusal, or the tables that it told
abbrev pub entries_below : NotedBelow → List Entry
entries_below (Entries entries) = entries
entries_below (TablesOf node tables) = Tables node tables ∷ []

-- the link of a bare world, and a world of nodes, behind these lines
abbrev pub bare_link_behind : Header → List Line → Link
bare_link_behind header before = link_after_lines (host_of header) bare_link before

abbrev pub nodes_behind : Header → List Line → NodeWorld
nodes_behind header before = world_after (new_world header.hosts.items) before

-- the memory of a node of such a world
abbrev pub memory_behind : Header → List Line → ℕ → Memory
memory_behind header before node = memory_at (nodes_behind header before) node

-- what the header notes: both ends of the link of a bare world are up from the start, and no node runs yet
abbrev pub opening_told : Header → List Entry
opening_told header = if header.hci then [] else opening_of (host_of header)

-- what is noted below a line behind these lines
abbrev pub told_below : Header → List Line → Line → List Entry
told_below header before line =
    if header.hci
    then entries_below (noted_below (line_step (nodes_behind header before) line).1)
    else noted (outcome_of (host_of header) (bare_link_behind header before) line)

-- The frame that is read in place of another, where a line behind these damages that one so that its CRC doesn't show it: on the link of a
-- bare world, or in a world of nodes.
abbrev pub misread_below : Header → List Line → Line → Option (List ℕ)
misread_below header before line =
    if header.hci
    then misread_in (nodes_behind header before) line
    else misread (bare_link_behind header before) line

-- the frames on their way to an end behind these lines
abbrev pub frames_below : Header → List Line → End → List OnWire
frames_below header before e = if header.hci then frames_at (nodes_behind header before) e else frames_to (bare_link_behind header before) e

-- a node runs behind these lines; the ends of a bare world always do
abbrev pub runs_below : Header → List Line → ℕ → Bool
runs_below header before node = if header.hci then is_running (nodes_behind header before) node else true
