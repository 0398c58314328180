-- Where nothing kept the answer to a reset back, both ends are up together.
use Rattle.std.specs.Prelude.{◌≡◌, Bool, true, false, List, []}
use Rattle.shdlc_core.specs.declared.answers.LinkState.TheVariants.{Up}
use Rattle.link_laws.specs.sessions.Losses.{sans}
use Rattle.link_laws.specs.sessions.Settled.{sure_after}
use Rattle.link_laws.specs.messages.Links.{Link, LinkEvent, number_of}
use Rattle.link_laws.specs.messages.Projection.{core_of, core_events}

-- Whether a reset put the last RSET on the link while the other end wasn't Waiting, and since then no frame was lost but of
-- activation, activation neither began nor ended, no end that isn't active took a frame of SHDLC, and no node lost power: seen on
-- the link over fragments, frame by frame.
abbrev pub sure_of : Link → List LinkEvent → Bool
sure_of l events = sure_after false (core_of l) (core_events l events)

-- The last RSET came of such a reset, and no frame is on its way but those of activation.
pub record IsSettled (l : Link) (sure : Bool) : Type 0 where
  pub undisturbed : sure ≡ true
  pub to_controller : sans l.to_controller ≡ []
  pub to_host : sans l.to_host ≡ []

-- both ends are up with one number
pub record AreUpTogether (l : Link) : Type 0 where
  pub controller : l.controller.side.shdlc.phase ≡ Up
  pub host : l.host.side.shdlc.phase ≡ Up
  pub number : number_of l.controller ≡ number_of l.host
