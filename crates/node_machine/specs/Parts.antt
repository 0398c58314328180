-- What a node keeps beside its links and its memory, and what it has at hand in one step.
use Rattle.std.specs.Prelude.{ℕ, Bool, List, Option}
use Rattle.swp_base.specs.InMemory.{Plan}
use Rattle.trace_model.specs.declared.entry.Entry.{Entry}
use Rattle.journal_laws.specs.declared.state.State.{State}
use Rattle.journal_laws.specs.Writes.{Write}
use Rattle.hci_tables.specs.declared.command.Command.{Command}
use Rattle.hci_tables.specs.Tables.{HciTables}
use Rattle.gate_admin.specs.declared.view.LinkView.{LinkView}
use Rattle.link_laws.specs.machine.Machine.{LinkEnd, Turn}

-- A creation that waits: which host asked for the pipe, the command that is committed where the other host agrees, and the
-- answer that the asker gets then.
pub record Creation : Type 0 where
  pub asker : ℕ
  pub command : Command
  pub answer : List ℕ

-- what a notice is about
pub data About : Type 0 where
  -- a creation that waits for the answer
  Waits : Creation → About
  -- a creation that was forgotten, since the session of its asker ended
  Forgotten : About
  -- a pipe that was deleted, or all pipes of a host
  Removed : About

-- a notice that isn't answered, and the ticks since it was sent
pub record Notice : Type 0 where
  pub about : About
  pub age : ℕ

-- what a node keeps of one of its ends, beside the end itself
pub record Desk : Type 0 where
  -- the host of the link
  pub host : ℕ
  -- at a controller: the notice to this host that isn't answered
  pub notice : Option Notice
  -- the first message that came and had no turn was noted as held
  pub holds : Bool
  -- REC_ERROR
  pub errors : ℕ

-- an init that runs at a host: the identity and the pipes to be made, and how many of its commands were answered
pub record Init : Type 0 where
  pub identity : List ℕ
  pub pipes : List (List ℕ)
  pub answered : ℕ

-- what a node that runs keeps for all its ends
pub record Core : Type 0 where
  -- 00 is the controller, any other number is that of the host
  pub node : ℕ
  -- what it knows of the journal in its memory, and the tables
  pub journal : State
  pub tables : HciTables
  -- at a host: the last command on pipe 01 without a response, and the init that runs
  pub command : Option (List ℕ)
  pub init : Option Init

-- a node that runs
pub record Running : Type 0 where
  pub core : Core
  pub desks : List Desk

-- One end of a node in a step of it.
pub record Port : Type 0 where
  pub desk : Desk
  pub side : LinkEnd
  -- the number of its session
  pub session : ℕ
  -- its session ended in this step, as the hundredth tick of a notice came or otherwise
  pub late : Bool
  pub ended : Bool
  -- what its node has done to it in this step
  pub turns : List Turn

-- a node in a step
pub record Work : Type 0 where
  pub core : Core
  pub ports : List Port
  -- which write to the memory fails, where one will
  pub plan : Option Plan
  -- the writes of this step, of which the last may have failed
  pub writes : List Write
  pub entries : List Entry
  -- one has failed: the node has lost its power
  pub cut : Bool

-- what the handling of a message does
pub data Deed : Type 0 where
  -- a command is committed
  Commits : Command → Deed
  -- a message goes to the host of this link, or from a host to the controller
  Sends : ℕ → ℕ × List ℕ → Deed
  -- ANY_OK was sent for the command that was committed
  SaysOk : Deed
  -- a host is asked for a creation by this notice, and a block of the asker's end is set aside for the answer
  Asks : ℕ → List ℕ → Creation → Deed
  -- the creation of this asker waits no more: that block is free
  Releases : ℕ → Deed
  -- a host is told by this notice
  Tells : ℕ → List ℕ → Deed
  -- the notice to the host of the message is answered
  IsAnswered : Deed
  -- the message, which came on this pipe, is dropped
  Drops : ℕ → Deed
  -- REC_ERROR of the end of the message is set
  SetsErrors : ℕ → Deed
  -- a host sends a command on pipe 01
  Orders : List ℕ → Deed
  -- the last one is answered
  Hears : Deed
  -- an init has had so many answers
  GoesOn : Init → Deed
  -- it ends, which is noted so
  Ends : Entry → Deed

-- ## What a node goes by

-- What a node keeps itself that counts as it decides what to do with a message.
pub record OwnView : Type 0 where
  -- 00 is the controller, any other number is that of the host
  pub node : ℕ
  pub tables : HciTables
  -- its memory has room for a command
  pub has_room : Command → Bool
  -- at a host: the last command on pipe 01 without a response, and the init that runs
  pub command : Option (List ℕ)
  pub init : Option Init

-- what counts of the end of a host
pub record EndView : Type 0 where
  pub up : Bool
  -- REC_ERROR
  pub errors : ℕ

-- All that counts as a node decides what to do with a message, and whether there is room for that: what it keeps itself, and what it knows of
-- its links, by their hosts.
pub record NodeView : Type 0 where
  pub own : OwnView
  -- a link is up
  pub up : ℕ → Bool
  -- at a controller: a creation that this host asked for waits
  pub asks : ℕ → Bool
  -- at a controller: what the notice to this host is about that isn't answered
  pub notice : ℕ → Option About
  -- at a controller: what its gates go by as a command of this host comes
  pub links : ℕ → LinkView
  -- at a host: its end
  pub ends : ℕ → Option EndView
  -- the blocks that an end has to spare: none where there is no such link
  pub spare : ℕ → ℕ
