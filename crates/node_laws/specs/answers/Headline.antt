-- What every history of a schedule must be, below either header.
use Rattle.std.specs.Prelude.{◌≤◌, List}
use Rattle.std.specs.List.{AllByRecursion}
use Rattle.trace_model.specs.declared.line.Header.{Header}
use Rattle.trace_model.specs.declared.line.Line.{Line}
use Rattle.trace_model.specs.Lines.{IsHeader, IsLineOf, IsNodeHeader}
use Rattle.history.specs.Histories.{History}
use Rattle.history.specs.Follows.{Follows}
use Rattle.history.specs.Legal.{Legal}
use Rattle.node_machine.specs.world.NodeHistories.{FollowsNodes, NodeHistory}
use Rattle.node_laws.specs.order.Legal.{LegalNodes}
use Rattle.node_laws.specs.power.Powers.{CutsEndParts}
use Rattle.node_laws.specs.answers.Answered.{Answered}
use Rattle.node_laws.specs.answers.Order.{NodesEmitLast}
use Rattle.node_laws.specs.schedules.Ranges.{AreNodeLinesOf, lines_asking}

-- What a history of nodes must be: messages come in order, quiet links have delivered all, pipes are allowed, commands are kept, a cut ends
-- its node's part of an event, frames go out of a node behind all else that it does in one, and every message is answered: with what the
-- decision of a node makes of its inputs as they are read off the history (`answered.replied`). One thing in it is no reading of entries and
-- causes: that the history stands in the memories (`legal.kept.stands`) is said of those of the world behind the events, since no entry tells
-- of bytes. Which writes a command or a boot makes is counted over the bytes of the memory that is read, where `commit_writes` and
-- `boot_writes` say it: a command makes two, its record behind a closed gate and then the gate, the first one at place 12 of a bank and each
-- other one behind the last; where its record doesn't fit, two more come before for a snapshot in the other bank, so four, or five where the
-- gate of that bank stood open and is closed first; a boot makes two or none.
pub record LegalWorld (t : NodeHistory) : Type 0 where
  pub legal : LegalNodes t
  pub ended : CutsEndParts t
  pub frames : NodesEmitLast t
  pub answered : Answered t

-- a history below either header: of one bare link, or of nodes
pub data PlayedHistory : Type 0 where
  OfLink : History → PlayedHistory
  OfNodes : NodeHistory → PlayedHistory

-- It follows a schedule with this header and these lines, which are in their ranges. Below a header of nodes at most 20,000 of them ask for
-- something.
abbrev pub IsPlayed : Header → List Line → PlayedHistory → Type 0
IsPlayed header lines (OfLink t) = IsHeader header × AllByRecursion (IsLineOf header) lines × Follows header lines t
IsPlayed header lines (OfNodes t) = IsNodeHeader header × AreNodeLinesOf header lines × (lines_asking lines ≤ 20000) × FollowsNodes header lines t

-- It is legal.
abbrev pub IsLegal : PlayedHistory → Type 0
IsLegal (OfLink t) = Legal t
IsLegal (OfNodes t) = LegalWorld t
