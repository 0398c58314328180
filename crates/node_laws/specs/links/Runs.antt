-- The links of a world of nodes as runs of the law of one link.
use Rattle.std.specs.Prelude.{◌≡◌, ◌+◌, List}
use Rattle.std.specs.List.{AllByRecursion}
use Rattle.swp_act.specs.Activation.{new_clf, new_uicc}
use Rattle.trace_model.specs.declared.line.Line.{Line}
use Rattle.trace_model.specs.declared.line.Line.TheVariants as line
use Rattle.hcp_packet.specs.Packets.{IsSendable}
use Rattle.link_laws.specs.machine.Machine.{LinkEnd, in_use, spare}
use Rattle.link_laws.specs.machine.Machine.Role.{Clf, Uicc}
use Rattle.link_laws.specs.messages.Links.{Link, LinkEvent, new_link, after_link_events, AllAllowed, IsWindow}

-- a link with activation on which nothing has happened yet
abbrev pub new_line : Link
new_line = new_link (Clf new_clf) (Uicc new_uicc)

-- a link is what these events make of a new one, and each of them may happen
pub record IsRunOf (events : List LinkEvent) (l : Link) : Type 0 where
  pub allowed : AllAllowed new_line events
  pub is : after_link_events new_line events ≡ l

-- a link is what some events make of a new one
pub record IsRun (l : Link) : Type 0 where
  pub events : List LinkEvent
  pub run : IsRunOf events l

-- A message that a line sends isn't empty, and its pipe isn't reserved; a reset names a window from 1 to 4, or none.
abbrev pub IsPlayable : Line → Type 0
IsPlayable (line.Send e pid message) = IsSendable (pid, message)
IsPlayable (line.Reset e window) = IsWindow window
IsPlayable _ = Unit {0}

abbrev pub ArePlayable : List Line → Type 0
ArePlayable lines = AllByRecursion IsPlayable lines

-- the blocks in use at an end, those set aside and those that are spare are 128
abbrev pub SharesOut : LinkEnd → Type 0
SharesOut e = in_use e + e.aside + spare e ≡ 128
