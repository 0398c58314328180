-- A history: the lines of a schedule, each with what became of it, and what caused each event.
use Rattle.std.specs.Prelude.{ℕ, Bool, List, [], ◌∷◌, ◌++◌, map, Option}
use Rattle.std.specs.List.{flat_map}
use Rattle.trace_model.specs.declared.entry.Entry.{Entry}
use Rattle.trace_model.specs.declared.entry.NoCause.{NoCause}
use Rattle.trace_model.specs.declared.entry.Entry.TheVariants.{No}
use Rattle.trace_model.specs.declared.line.End.{End}
use Rattle.trace_model.specs.declared.line.Header.{Header}
use Rattle.trace_model.specs.declared.line.Line.{Line}
use Rattle.link_laws.specs.machine.Machine.{Message}
use Rattle.link_laws.specs.messages.Links.{Loss}

-- what causes an event
pub data Cause : Type 0 where
  -- a message is given to an end
  Given : End → Message → Cause
  -- an end takes the first frame on its way to it
  Taken : End → Cause
  -- the first frame on its way to an end is lost for this
  WasLost : End → Loss → Cause
  -- one tick of the whole world
  Ticked : Cause
  -- an end is reset, with a window or with its own one
  WasReset : End → Option ℕ → Cause
  -- an end becomes ready for fragments, or not ready
  Readied : End → Bool → Cause

-- An event is what one cause does, as its entries in order.
pub record Event : Type 0 where
  pub cause : Cause
  pub entries : List Entry

-- what became of a line: it was refused and changed nothing, or it caused these events, one after another
pub data Outcome : Type 0 where
  Refused : NoCause → Outcome
  Caused : List Event → Outcome

pub record Step : Type 0 where
  pub line : Line
  pub outcome : Outcome

-- a run from its header on; the header has entries of its own
pub record History : Type 0 where
  pub header : Header
  pub opening : List Entry
  pub steps : List Step

-- the events of an outcome
abbrev pub events_of : Outcome → List Event
events_of (Refused cause) = []
events_of (Caused events) = events

-- the entries of events
abbrev pub entries_of : List Event → List Entry
entries_of events = flat_map (λ (event : Event). event.entries) events

-- the causes of events
abbrev pub causes_of : List Event → List Cause
causes_of events = map (λ (event : Event). event.cause) events

-- what the transcript notes below the echo of a line
abbrev pub noted : Outcome → List Entry
noted (Refused cause) = No cause ∷ []
noted (Caused events) = entries_of events

-- all events of a history
abbrev pub all_events : History → List Event
all_events t = flat_map (λ (step : Step). events_of step.outcome) t.steps

-- all entries of a history, but for what was refused
abbrev pub all_entries : History → List Entry
all_entries t = t.opening ++ entries_of (all_events t)
