-- What the two sides of a session have to do with each other, in messages.
use Rattle.std.specs.Prelude.{take}
use Rattle.hcp_packet.specs.Packets.{good_of, IsFrontOf}
use Rattle.link_laws.specs.machine.Machine.{messages_got, whole_among}
use Rattle.link_laws.specs.messages.Links.{Talk}

-- what was got is a front of the good messages that the other end was given, and what counts as acknowledged was got
pub record InOrder (sender receiver : Talk) : Type 0 where
  pub got : IsFrontOf (messages_got receiver.session) (good_of sender.sent)
  pub acked : IsFrontOf (good_of (take (whole_among sender.sent sender.session.acked) sender.sent)) (messages_got receiver.session)
