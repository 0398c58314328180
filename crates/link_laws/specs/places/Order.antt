-- What the two sessions of a link have to do with each other.
use Rattle.std.specs.Prelude.{◌≤◌, ◌≡◌, length}
use mathlib.Core.List.{IsPrefix}
use Rattle.shdlc_core.specs.Machine.{Session}

-- what was accepted of a sender is a front of what it was given for sending, and it counts as acknowledged no more than that
pub record FragmentsInOrder (sender receiver : Session) : Type 0 where
  pub front : IsPrefix receiver.acc sender.out
  pub acked : sender.acked ≤ length receiver.acc
  pub offered : sender.acked ≤ length sender.out

-- all that a sender was given is accepted and acknowledged
pub record FragmentsDelivered (sender receiver : Session) : Type 0 where
  pub accepted : receiver.acc ≡ sender.out
  pub acked : sender.acked ≡ length sender.out
