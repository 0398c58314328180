-- Which command of an init a host waits for.
use Rattle.std.specs.Prelude.{◌≡◌, ℕ, List, slice_get, Option, Some, None}
use Rattle.node_machine.specs.Parts.{Init}
use Rattle.node_machine.specs.HostReplies.{orders_of}

-- the unanswered command of a host whose init runs is that of the init
abbrev pub IsOnOrder : Option (List ℕ) → Option Init → Type 0
IsOnOrder command None = Unit {0}
IsOnOrder None (Some i) = ⊥
IsOnOrder (Some order) (Some i) = slice_get (orders_of i) i.answered ≡ Some order
