-- A run of a world of nodes as a history, and when it follows a schedule.
use Rattle.std.specs.Prelude.{◌≡◌, true, List, [], ◌∷◌, None}
use Rattle.std.specs.List.{flat_map}
use Rattle.trace_model.specs.declared.entry.Entry.{Entry}
use Rattle.trace_model.specs.declared.line.Header.{Header}
use Rattle.trace_model.specs.declared.line.Line.{Line}
use Rattle.node_machine.specs.world.World.{NodeWorld, new_world}
use Rattle.node_machine.specs.world.Lines.{Occurrence, LineOutcome, line_step, misread_in}
use Rattle.node_machine.specs.world.Lines.LineOutcome.{WasRefused, Occurred, ToldTables}

-- a line and what became of it
pub record LineStep : Type 0 where
  pub line : Line
  pub outcome : LineOutcome

-- a run from its header on; the header has no entries of its own
pub record NodeHistory : Type 0 where
  pub header : Header
  pub steps : List LineStep

-- the lines of a schedule and what becomes of them, one after another
abbrev pub steps_from : NodeWorld → List Line → List LineStep
steps_from w [] = []
steps_from w (line ∷ lines) =
    let o : NodeWorld × LineOutcome = line_step w line in record { line = line; outcome = o.1 } ∷ steps_from o.0 lines

-- the world behind these lines, one after another
abbrev pub world_after : NodeWorld → List Line → NodeWorld
world_after w [] = w
world_after w (line ∷ lines) = world_after (line_step w line).0 lines

-- no line damages a frame so that another one is read
abbrev pub NoneIsMisread : NodeWorld → List Line → Type 0
NoneIsMisread w [] = Unit {0}
NoneIsMisread w (line ∷ lines) = (misread_in w line ≡ None) × NoneIsMisread (line_step w line).0 lines

-- A history of a world of nodes follows a schedule: each line in order, refused exactly where `refusal_in` says so, and else
-- followed by exactly the events that it causes. No line damages a frame so that another one is read.
pub record FollowsNodes (header : Header) (lines : List Line) (t : NodeHistory) : Type 0 where
  pub nodes : header.hci ≡ true
  pub header_is : t.header ≡ header
  pub steps_are : t.steps ≡ steps_from (new_world header.hosts.items) lines
  pub sure : NoneIsMisread (new_world header.hosts.items) lines

-- the events of a line
abbrev pub occurrences_of : LineOutcome → List Occurrence
occurrences_of (WasRefused cause) = []
occurrences_of (Occurred events) = events
occurrences_of (ToldTables n tables) = []

-- all events of a history
abbrev pub occurrences_in : NodeHistory → List Occurrence
occurrences_in t = flat_map (λ (s : LineStep). occurrences_of s.outcome) t.steps

-- the entries of events
abbrev pub entries_in : List Occurrence → List Entry
entries_in events = flat_map (λ (o : Occurrence). o.entries) events

-- all entries of a history, but for what was refused and for tables that were told
abbrev pub node_entries : NodeHistory → List Entry
node_entries t = entries_in (occurrences_in t)
