-- The messages that an end of a link has to send, in a pool: which of their fragments are acknowledged, and which still wait to be
-- cut.
use Rattle.std.specs.Prelude.{◌≡◌, ◌≢◌, ℕ, ◌+◌, ◌-◌, ◌≤◌, if◌then◌else◌, nat_le, List, [], ◌∷◌, ◌++◌, length, map, drop}
use Rattle.circular_buffer.specs.Buffer.{Buffer}
use Rattle.block_pool.specs.declared.chain.Chain.{Chain}
use Rattle.block_pool.specs.Slots.{blocks_for}
use Rattle.block_pool.specs.Owners.{owner_at, with_used}
use Rattle.block_pool.specs.Pool.{PoolState, HasQuota, quota_of, used_of, aside_of, IsLive, IsApart, chain_bytes}
use Rattle.block_pool.specs.Holdings.{OwnsAll, LiesApart, LieApart, all_blocks, KeepsAllOthers}
use Rattle.hcp_packet.specs.Packets.{packets_of, packet_count, packet_bytes, fragments_of, AreSendable}
use Rattle.link_laws.specs.machine.Machine.{Message, whole_among}
use Rattle.link_messages.specs.declared.outbox.Queued.{Queued}
use Rattle.link_messages.specs.declared.outbox.Outbox.{Outbox}

abbrev pub chain_in : Queued → Chain
chain_in q = q.chain

abbrev pub queued_message : PoolState → Queued → Message
queued_message pool q = (q.pipe, chain_bytes pool q.chain)

abbrev pub messages_of_all : PoolState → List Queued → List Message
messages_of_all pool queue = map (queued_message pool) queue

-- the messages that aren't acknowledged whole, in order
abbrev pub queued_messages : PoolState → Outbox → List Message
queued_messages pool box = messages_of_all pool box.queue.items

-- the fragments that weren't cut yet
abbrev pub waiting_in : PoolState → Outbox → List (List ℕ)
waiting_in pool box = drop box.cut (fragments_of (queued_messages pool box))

-- Where so many fragments of messages are acknowledged, from the first on: how many of them are of the first message that isn't
-- acknowledged whole.
abbrev pub rest_among : List Message → ℕ → ℕ
rest_among [] places = places
rest_among (m ∷ messages) places =
    if nat_le (packet_count (length m.1)) places then rest_among messages (places - packet_count (length m.1)) else places

-- The chains of some messages lie in the pool, and are all that their owner uses but the blocks set aside.
pub record AreKept (pool : PoolState) (owner : ℕ) (queue : Buffer Queued) : Type 0 where
  pub own : OwnsAll Queued chain_in pool owner queue.items
  pub apart : LieApart Queued chain_in queue.items
  pub sendable : AreSendable (messages_of_all pool queue.items)
  pub capacity : queue.capacity ≡ 128
  pub has_quota : HasQuota pool owner
  pub quota : quota_of pool owner ≡ 128
  pub used : used_of pool owner ≡ aside_of pool owner + all_blocks Queued chain_in pool queue.items
  pub within : used_of pool owner ≤ 128

-- what is kept lies in the pool
pub record OutboxLiesIn (pool : PoolState) (box : Outbox) : Type 0 where
  pub kept : AreKept pool box.owner box.queue
  pub acked : box.acked ≤ box.cut
  pub cut : box.left + box.cut ≡ length (fragments_of (queued_messages pool box))

-- What a call left elsewhere: the chains that lie apart from those kept, and all counts but how much the owner uses.
pub record OutboxLeavesOthers (old new : PoolState) (owner : ℕ) (before after : List Queued) : Type 0 where
  pub owners : new.owners ≡ with_used old.owners owner (used_of new owner)
  pub others : KeepsAllOthers Queued Queued chain_in chain_in old new before after

-- a message stands behind the others
pub record Accepts (old new : PoolState) (before after : Outbox) (m : Message) : Type 0 where
  pub lies : OutboxLiesIn new after
  pub messages : queued_messages new after ≡ queued_messages old before ++ m ∷ []
  pub waiting : waiting_in new after ≡ waiting_in old before ++ map packet_bytes (packets_of m.0 m.1)
  pub acked : after.acked ≡ before.acked
  pub owner : after.owner ≡ before.owner

-- What adopting a chain left elsewhere: the chains that lie apart from it and from those kept, and the counts of all but the
-- owners of both. The one that had the chain uses its blocks no more.
pub record LeavesOthersBut (old new : PoolState) (owner : ℕ) (chain : Chain) (before after : List Queued) : Type 0 where
  pub counts : (p : ℕ) → p ≢ owner → p ≢ chain.owner → owner_at new.owners p ≡ owner_at old.owners p
  pub lengths : length new.owners ≡ length old.owners
  pub aside : aside_of new owner ≡ aside_of old owner
  pub giver_quota : quota_of new chain.owner ≡ quota_of old chain.owner
  pub giver_used : used_of new chain.owner ≡ used_of old chain.owner - blocks_for (length (chain_bytes old chain))
  pub others : (other : Chain) → IsLive old other → LiesApart Queued chain_in before other → IsApart other chain
      → IsLive new other × (chain_bytes new other ≡ chain_bytes old other) × LiesApart Queued chain_in after other

-- the first message is gone, with its blocks
pub record GivesFront (old new : PoolState) (before after : Outbox) : Type 0 where
  pub first : Message
  pub messages : queued_messages old before ≡ first ∷ queued_messages new after
  pub kept : AreKept new after.owner after.queue
  pub acked : after.acked ≡ before.acked
  pub cut : after.cut ≡ before.cut
  pub left : after.left ≡ before.left
  pub owner : after.owner ≡ before.owner
  pub fewer : length after.queue.items + 1 ≡ length before.queue.items
  pub elsewhere : OutboxLeavesOthers old new before.owner before.queue.items after.queue.items

-- so many messages at the front were acknowledged whole, and are gone
pub record GivesBack (old new : PoolState) (before after : Outbox) (whole : ℕ) : Type 0 where
  pub lies : OutboxLiesIn new after
  pub messages : queued_messages new after ≡ drop whole (queued_messages old before)
  pub waiting : waiting_in new after ≡ waiting_in old before
  pub among : whole + whole_among (queued_messages new after) after.acked ≡ whole_among (queued_messages old before) before.acked
  pub rest : rest_among (queued_messages new after) after.acked ≡ rest_among (queued_messages old before) before.acked
  pub owner : after.owner ≡ before.owner
  pub elsewhere : OutboxLeavesOthers old new before.owner before.queue.items after.queue.items

-- more fragments are acknowledged
abbrev pub acked_more : Outbox → ℕ → Outbox
acked_more box count = record box { acked = box.acked + count }
