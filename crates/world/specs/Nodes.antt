-- What is kept of the node of a bare end, and for which states of the end's machine it stands.
use Rattle.std.specs.Prelude.{◌≡◌, ◌+◌, ◌≤◌, List, [], length, None}
use Rattle.link_laws.specs.machine.Machine.{LinkEnd as Machine, LinkInput, whole_acked}
use Rattle.link_laws.specs.machine.Machine.Role.{Bare}
use Rattle.link_laws.specs.machine.Laws.{AreSendableInputs, end_after}
use Rattle.link_end.specs.Ends.{EndStandsFor, Accounts}
use Rattle.world.specs.declared.node.Node.{Node}

-- a bare end comes to this state
pub record Reached (m : Machine) : Type 0 where
  pub inputs : List LinkInput
  pub sendable : AreSendableInputs inputs
  pub is : m ≡ end_after Bare inputs

-- what is kept of an end and of its messages is in order, and a message that came may be fetched
pub record CanFetch (n : Node) (m : Machine) : Type 0 where
  pub stands : EndStandsFor n.«end» n.pool m
  pub accounts : Accounts n.«end» n.pool None

-- what is kept stands for this state, in which a message that came may wait to be fetched
pub record HasInput (n : Node) (m : Machine) : Type 0 where
  pub stands : EndStandsFor n.«end» n.pool m
  pub accounts : Accounts n.«end» n.pool None
  pub reached : Reached m
  pub acked : n.acked ≡ whole_acked m

-- what is kept stands for this state, in which none waits
pub record NodeStandsFor (n : Node) (m : Machine) : Type 0 where
  pub has : HasInput n m
  pub fetched : m.got ≡ []

-- at most six control frames wait to be sent
abbrev pub HasFewDue : Machine → Type 0
HasFewDue m = length m.acts + length m.shdlc.due ≤ 6
