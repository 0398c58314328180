-- What is noted up to the end of an event of a history: what a tap on a link was there for, from its beginning on.
use Rattle.std.specs.Prelude.{◌≡◌, ◌++◌, ℕ, Bool, true, false, List}
use Rattle.std.specs.List.{AllByRecursion, list_any}
use Rattle.trace_model.specs.declared.entry.Entry.{Entry}
use Rattle.trace_model.specs.declared.line.Header.{Header}
use Rattle.trace_model.specs.declared.line.Line.{Line}
use Rattle.trace_model.specs.Lines.{IsLineOf, IsNodeHeader}
use Rattle.history.specs.Histories.{Event, History, all_events, entries_of}
use Rattle.history.specs.Follows.{Follows, host_of}
use Rattle.node_machine.specs.world.Lines.{Occurrence}
use Rattle.node_machine.specs.world.NodeHistories.{FollowsNodes, NodeHistory, entries_in, occurrences_in}
use Rattle.node_laws.specs.order.Resets.{cuts_on}
use Rattle.node_laws.specs.schedules.Ranges.{AreNodeLinesOf}

-- Entries of a history of a bare link, the link with this host, that follows a schedule.
pub record AreOfBareLink (h : ℕ) (t : List Entry) : Type 0 where
  pub header : Header
  pub lines : List Line
  pub history : History
  pub valid : AllByRecursion (IsLineOf header) lines
  pub follows : Follows header lines history
  pub front : List Event
  pub back : List Event
  pub events_are : all_events history ≡ front ++ back
  pub host_is : h ≡ host_of header
  pub entries_are : t ≡ history.opening ++ entries_of front

-- Entries of a history of nodes that follows a schedule: neither node of the link with this host lost its power in them.
pub record AreOfNodes (h : ℕ) (t : List Entry) : Type 0 where
  pub header : Header
  pub lines : List Line
  pub history : NodeHistory
  pub nodes : IsNodeHeader header
  pub valid : AreNodeLinesOf header lines
  pub follows : FollowsNodes header lines history
  pub front : List Occurrence
  pub back : List Occurrence
  pub events_are : occurrences_in history ≡ front ++ back
  pub entries_are : t ≡ entries_in front
  pub uncut : list_any (cuts_on h) t ≡ false

-- of a link that is bare or not
abbrev pub AreOfLink : Bool → ℕ → List Entry → Type 0
AreOfLink true h t = AreOfBareLink h t
AreOfLink false h t = AreOfNodes h t
