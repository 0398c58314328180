-- What it says of a link that it is at rest, and what rounds bring on it.
use Rattle.std.specs.Prelude.{◌≡◌, false, [], length}
use Rattle.shdlc_core.specs.declared.answers.LinkState.TheVariants.{Up}
use Rattle.shdlc_core.specs.Machine.{is_waiting}
use Rattle.link_laws.specs.machine.Machine.{LinkEnd, whole_acked}
use Rattle.link_laws.specs.messages.Links.{Link, talk_now}
use Rattle.lines_told.specs.messages.Recovery.{EarlierGot}

-- an end isn't waiting, and where it is up, all messages that it sent in its session are acknowledged
pub record IsEndQuiet (e : LinkEnd) : Type 0 where
  pub waits_not : is_waiting e.shdlc ≡ false
  pub all_acked : e.shdlc.phase ≡ Up → whole_acked e ≡ length e.sent

-- both wires are empty, and so both ends are
pub record IsLinkQuiet (l : Link) : Type 0 where
  pub to_controller : l.to_controller ≡ []
  pub to_host : l.to_host ≡ []
  pub controller : IsEndQuiet l.controller.side
  pub host : IsEndQuiet l.host.side

-- As a link became another one, the good messages that either end was given before in its session came, and all of them are acknowledged.
pub record LinkBrought (before later : Link) : Type 0 where
  pub to_host : EarlierGot (talk_now before.controller.side) (talk_now later.controller.side) (talk_now later.host.side)
  pub to_controller : EarlierGot (talk_now before.host.side) (talk_now later.host.side) (talk_now later.controller.side)
