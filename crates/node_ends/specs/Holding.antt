-- What is kept of one end with the message that waits there for its turn, and for which states of the end's machine it stands.
use Rattle.std.specs.Prelude.{◌≡◌, ℕ, ◌+◌, ◌≤◌, min, length, List, [], ◌∷◌, Option, Some, None, Bool, false, is_some, if◌then◌else◌, Result, Ok, Err}
use Rattle.std.specs.List.{AllByRecursion}
use Rattle.block_pool.specs.declared.chain.Chain.{Chain}
use Rattle.block_pool.specs.Pool.{PoolState, chain_bytes}
use Rattle.link_laws.specs.machine.Machine.{LinkEnd as Machine, Message, Role, LinkInput}
use Rattle.link_laws.specs.machine.Laws.{AreSendableInputs, end_after}
use Rattle.link_end.specs.declared.report.LinkReport.{LinkReport}
use Rattle.link_end.specs.declared.report.ResetRefused.{ResetRefused}
use Rattle.link_end.specs.declared.«end».End.{End}
use Rattle.link_end.specs.Ends.{EndStandsFor, HaveOwners, Accounts}
use Rattle.node_ends.specs.declared.seat.Waiting.{Waiting}
use Rattle.node_ends.specs.declared.seat.Seat.{Seat}

-- the messages that came and had no turn yet: one at most
abbrev pub messages_waiting : PoolState → Option Waiting → List Message
messages_waiting pool None = []
messages_waiting pool (Some w) = (w.pipe, chain_bytes pool w.chain) ∷ []

-- the chain of the one that waits
abbrev pub chain_of : Option Waiting → Option Chain
chain_of None = None
chain_of (Some w) = Some w.chain

-- an end whose messages that came were fetched
abbrev pub without_got : Machine → Machine
without_got m = record m { got = [] }

-- What is kept of an end stands for its state but for the message that waits, which was fetched and lies in the blocks for what comes.
pub record HoldsEnd (pool : PoolState) (k : End) (waiting : Option Waiting) (m : Machine) : Type 0 where
  pub stands : EndStandsFor k pool (without_got m)
  pub accounts : Accounts k pool (chain_of waiting)
  pub waits : m.got ≡ messages_waiting pool waiting
  pub short : AllByRecursion (λ (x : Message). length x.1 ≤ 4096) m.got

abbrev pub HoldsSeat : PoolState → Seat → Machine → Type 0
HoldsSeat pool s m = HoldsEnd pool s.side s.waiting m

-- A call on an end leaves its owners and all ends beside it in the pool as they were.
pub record Moves (old new : PoolState) (before after : End) : Type 0 where
  pub sender : after.outbox.owner ≡ before.outbox.owner
  pub receiver : after.inbox.joiner.owner ≡ before.inbox.joiner.owner
  pub beside : (other : End) (waiting : Option Waiting) (m : Machine) → HaveOwners before other → HoldsEnd old other waiting m
      → HoldsEnd new other waiting m

-- an end of some role comes to this state
pub record IsReached (m : Machine) : Type 0 where
  pub role : Role
  pub inputs : List LinkInput
  pub sendable : AreSendableInputs inputs
  pub is : m ≡ end_after role inputs

-- a number as it is kept: 4,294,967,295 stands for any greater one
abbrev pub kept_number : ℕ → ℕ
kept_number n = min n 4294967295

-- how many messages of the session are acknowledged after an input, where so many were before
abbrev pub acked_since : ℕ → LinkReport → ℕ
acked_since before r = kept_number ((if is_some r.ended then 0 else before) + r.acked)

-- the same after a reset was asked for: where it is refused, the same as before
abbrev pub acked_by_reset : ℕ → Result LinkReport ResetRefused → ℕ
acked_by_reset before (Ok report) = acked_since before report
acked_by_reset before (Err why) = before

-- the session ended as a reset was asked for
abbrev pub ends_by : Result LinkReport ResetRefused → Bool
ends_by (Ok report) = is_some report.ended
ends_by (Err why) = false

-- what is told of a reset that is done
abbrev pub where_done : Result LinkReport ResetRefused → Option LinkReport
where_done (Ok report) = Some report
where_done (Err why) = None
