-- The messages that come to an end of a link, in a pool: those under way, and the one that came whole and wasn't fetched.
use Rattle.std.specs.Prelude.{◌≡◌, ℕ, ◌≤◌, List, [], ◌∷◌, ◌++◌, Option, None, Some}
use Rattle.block_pool.specs.Owners.{with_used}
use Rattle.block_pool.specs.Pool.{PoolState, HasQuota, quota_of, used_of}
use Rattle.hcp_packet.specs.declared.Packet.{Packet}
use Rattle.hcp_packet.specs.Packets.{good_of}
use Rattle.hcp_chain.specs.declared.joiner.Open.{Open}
use Rattle.hcp_chain.specs.Joining.{given_by, open_after}
use Rattle.hcp_chain.specs.Holding.{HoldsChains, open_messages, messages_in, held_blocks, KeepsOtherChains}
use Rattle.link_laws.specs.machine.Machine.{Message}
use Rattle.link_messages.specs.declared.inbox.Got.{Got}
use Rattle.link_messages.specs.declared.inbox.Inbox.{Inbox}

-- the chain of a message that came whole, if one did
abbrev pub got_chains : Option Got → List Open
got_chains None = []
got_chains (Some got) = record { pipe = got.pipe; chain = got.chain } ∷ []

-- all chains that are kept
abbrev pub chains_in : Inbox → List Open
chains_in box = box.joiner.open.items ++ got_chains box.got

-- the messages under way
abbrev pub messages_under_way : PoolState → Inbox → List Message
messages_under_way pool box = open_messages pool box.joiner

-- the message that came whole, if one did
abbrev pub came_whole : PoolState → Inbox → List Message
came_whole pool box = messages_in pool (got_chains box.got)

-- What is kept lies in the pool. The owner may use blocks for messages too that were fetched.
pub record InboxLiesIn (pool : PoolState) (box : Inbox) : Type 0 where
  pub holds : HoldsChains pool box.joiner.owner (chains_in box)
  pub has_quota : HasQuota pool box.joiner.owner
  pub quota : quota_of pool box.joiner.owner ≡ 512
  pub used : held_blocks pool (chains_in box) ≤ used_of pool box.joiner.owner

-- a packet may be taken: the last message was fetched, and its owner uses nothing but what is under way
pub record IsInboxReady (pool : PoolState) (box : Inbox) : Type 0 where
  pub fetched : box.got ≡ None
  pub used : used_of pool box.joiner.owner ≡ held_blocks pool box.joiner.open.items

-- What a call left elsewhere: the chains that lie apart from those kept, and all counts but how much the owner uses.
pub record InboxLeavesOthers (old new : PoolState) (owner : ℕ) (before after : List Open) : Type 0 where
  pub owners : new.owners ≡ with_used old.owners owner (used_of new owner)
  pub others : KeepsOtherChains old new before after

-- These packets were joined on; the good messages that they gave are got.
pub record Joins (old new : PoolState) (before after : Inbox) (packets : List Packet) : Type 0 where
  pub lies : InboxLiesIn new after
  pub joined : messages_under_way new after ≡ open_after (messages_under_way old before) packets
  pub got : came_whole new after ≡ good_of (given_by (messages_under_way old before) packets)
  pub owner : after.joiner.owner ≡ before.joiner.owner
  pub used : used_of new after.joiner.owner ≡ held_blocks new (chains_in after)
  pub elsewhere : InboxLeavesOthers old new before.joiner.owner (chains_in before) (chains_in after)
