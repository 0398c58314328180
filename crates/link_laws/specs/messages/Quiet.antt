-- Where nothing was lost in a session and nothing is on its way, all of it was delivered.
use Rattle.std.specs.Prelude.{◌≡◌, false, List, [], length}
use Rattle.shdlc_core.specs.declared.answers.LinkState.TheVariants.{Up}
use Rattle.hcp_packet.specs.Packets.{good_of}
use Rattle.link_laws.specs.sessions.Losses.{Losses, no_losses, losses_after, sans}
use Rattle.link_laws.specs.machine.Machine.{messages_got, whole_among}
use Rattle.link_laws.specs.messages.Links.{Talk, Link, LinkEvent}
use Rattle.link_laws.specs.messages.Projection.{core_of, core_events}

-- Whether a frame was lost, but of activation, and whether an RNR was made, since an end last came up as the first of the two in
-- a session: seen on the link over fragments, frame by frame.
abbrev pub losses_of : Link → List LinkEvent → Losses
losses_of l events = losses_after no_losses (core_of l) (core_events l events)

-- Both ends are up in one session, of which no frame was lost and no RNR made since the first of them came up in it, and no
-- frame is on its way but those of activation.
pub record IsQuiet (l : Link) (n : Losses) : Type 0 where
  pub controller : l.controller.side.shdlc.phase ≡ Up
  pub host : l.host.side.shdlc.phase ≡ Up
  pub lost : n.lost ≡ false
  pub rnr : n.rnr ≡ false
  pub to_controller : sans l.to_controller ≡ []
  pub to_host : sans l.to_host ≡ []

-- the good messages that a sender was given were got, and all that it was given are acknowledged
pub record AllDelivered (sender receiver : Talk) : Type 0 where
  pub got : messages_got receiver.session ≡ good_of sender.sent
  pub acked : whole_among sender.sent sender.session.acked ≡ length sender.sent
