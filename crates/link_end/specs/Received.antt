-- What an end does with fragments that its SHDLC end accepted. No public clause cites this module.
use Rattle.std.specs.Prelude.{◌≡◌, ◌+◌, List, ◌++◌, Option, Some, None}
use Rattle.swp_base.specs.declared.control_frames.Control.{Control}
use Rattle.swp_base.specs.declared.control_frames.Control.TheVariants.{I}
use Rattle.block_pool.specs.Pool.{PoolState, used_of}
use Rattle.hcp_packet.specs.Packets.{packets_in, good_of}
use Rattle.hcp_chain.specs.Joining.{given_by, open_after}
use Rattle.hcp_chain.specs.Holding.{held_blocks}
use Rattle.shdlc_core.specs.Machine.{Fragment}
use Rattle.link_messages.specs.declared.inbox.Inbox.{Inbox}
use Rattle.link_messages.specs.Incoming.{chains_in, messages_under_way, came_whole, InboxLiesIn, InboxLeavesOthers}

-- the fragment that a frame brings, where it brings one
abbrev pub fragment_in : Control → Option Fragment
fragment_in (I ns nr info) = Some info
fragment_in _ = None

-- the packets of these fragments were joined on, and the good messages that they gave were got
pub record ReceivesOn (old new : PoolState) (before after : Inbox) (fragments : List Fragment) : Type 0 where
  pub lies : InboxLiesIn new after
  pub under : messages_under_way new after ≡ open_after (messages_under_way old before) (packets_in fragments)
  pub got : came_whole new after ≡ came_whole old before ++ good_of (given_by (messages_under_way old before) (packets_in fragments))
  pub owner : after.joiner.owner ≡ before.joiner.owner
  pub counted : used_of new before.joiner.owner + held_blocks old (chains_in before) ≡ used_of old before.joiner.owner + held_blocks new (chains_in after)
  pub elsewhere : InboxLeavesOthers old new before.joiner.owner (chains_in before) (chains_in after)
