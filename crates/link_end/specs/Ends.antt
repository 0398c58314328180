-- What is kept of one end of a link, with its pool, and for which states of its machine it stands.
use Rattle.std.specs.Prelude.{◌≡◌, ◌≢◌, ℕ, ◌+◌, ◌≤◌, ◌⊎◌, min, true, false, List, [], length, map, drop, Option, None, Some, IfSome}
use Rattle.block_pool.specs.declared.chain.Chain.{Chain}
use Rattle.block_pool.specs.Slots.{blocks_for}
use Rattle.block_pool.specs.Owners.{owner_at}
use Rattle.block_pool.specs.Pool.{PoolState, HasQuota, quota_of, used_of, aside_of, IsLive, chain_bytes}
use Rattle.block_pool.specs.Holdings.{LiesApart}
use Rattle.shdlc_core.specs.Kept.{IsFragmentDue}
use Rattle.shdlc_core.specs.Machine.{Fragment, Session}
use Rattle.shdlc_core.specs.Offering.{StandsBefore}
use Rattle.hcp_packet.specs.Packets.{packets_in, fragments_of, AreSendable}
use Rattle.hcp_chain.specs.Joining.{are_taken, open_after}
use Rattle.hcp_chain.specs.Holding.{held_blocks, IsApartFrom}
use Rattle.link_laws.specs.machine.Machine.{LinkEnd as Machine, ActDue as Due, Message, whole_among}
use Rattle.link_messages.specs.declared.outbox.Queued.{Queued}
use Rattle.link_messages.specs.declared.outbox.Outbox.{Outbox}
use Rattle.link_messages.specs.declared.inbox.Inbox.{Inbox}
use Rattle.link_messages.specs.Outgoing.{chain_in, queued_messages, waiting_in, rest_among, OutboxLiesIn}
use Rattle.link_messages.specs.Incoming.{chains_in, messages_under_way, came_whole, InboxLiesIn}
use Rattle.link_end.specs.Roles.{role_of}
use Rattle.link_end.specs.declared.acts.ActDue.{ActDue}
use Rattle.link_end.specs.declared.«end».End.{End}

abbrev pub due_of : ActDue → Due
due_of a = record { frame = a.frame; behind = a.behind }

-- The messages that are kept to be sent are those of the session that aren't acknowledged whole.
pub record OutboxStandsFor (pool : PoolState) (box : Outbox) (sent : List Message) (s : Session) : Type 0 where
  pub lies : OutboxLiesIn pool box
  pub all : AreSendable sent
  pub out : s.out ≡ fragments_of sent
  pub messages : queued_messages pool box ≡ drop (whole_among sent s.acked) sent
  pub acked : box.acked ≡ rest_among sent s.acked

-- What is partly received are the packets that the session accepted.
pub record InboxStandsFor (pool : PoolState) (box : Inbox) (acc : List Fragment) : Type 0 where
  pub lies : InboxLiesIn pool box
  pub under : messages_under_way pool box ≡ open_after [] (packets_in acc)
  pub sound : are_taken [] (packets_in acc) ≡ true

-- What is kept stands for this state of the machine, whose fragments may wait although there is room for them.
pub record Halfway (k : End) (pool : PoolState) (m : Machine) : Type 0 where
  pub role : role_of k.activation ≡ m.role
  pub link : StandsBefore k.shdlc (waiting_in pool k.outbox) m.shdlc
  pub acts : map due_of k.acts.items ≡ m.acts
  pub sends : OutboxStandsFor pool k.outbox m.sent m.shdlc.session
  pub receives : InboxStandsFor pool k.inbox m.shdlc.session.acc
  pub got : came_whole pool k.inbox ≡ m.got
  pub aside : aside_of pool k.outbox.owner ≡ m.aside
  pub passed_over : k.passed_over ≡ min m.passed_over 4294967295
  pub differ : k.outbox.owner ≢ k.inbox.joiner.owner

-- what is kept stands for this state of the machine
pub record EndStandsFor (k : End) (pool : PoolState) (m : Machine) : Type 0 where
  pub halfway : Halfway k pool m
  pub full : (waiting_in pool k.outbox ≡ []) ⊎ (length halfway.link.offered ≡ m.shdlc.session.acked + 4)

-- how many control frames wait to be fetched
abbrev pub controls_in : End → ℕ
controls_in k = length k.acts.items + length k.shdlc.due

-- The next frame to be fetched is the I frame of a fragment.
pub record IsFragmentNext (k : End) : Type 0 where
  pub acts : k.acts.items ≡ []
  pub fragment : IsFragmentDue k.shdlc

-- A frame may be taken: the last message was fetched, and none that was fetched is still in its owner's blocks, or the end is held.
pub record MayTake (k : End) (pool : PoolState) : Type 0 where
  pub fetched : k.inbox.got ≡ None
  pub free : (used_of pool k.inbox.joiner.owner ≡ held_blocks pool k.inbox.joiner.open.items) ⊎ (k.shdlc.ready ≡ false)

-- What a call left elsewhere: the chains that lie apart from those kept, all counts of other owners, and the blocks of the owner
-- for what comes that aren't kept.
pub record LeavesBoxes (old new : PoolState) (outbox : Outbox) (inbox : Inbox) (sent : Outbox) (came : Inbox) : Type 0 where
  pub sender : sent.owner ≡ outbox.owner
  pub receiver : came.joiner.owner ≡ inbox.joiner.owner
  pub counts : (p : ℕ) → p ≢ outbox.owner → p ≢ inbox.joiner.owner → owner_at new.owners p ≡ owner_at old.owners p
  pub lengths : length new.owners ≡ length old.owners
  pub received : used_of new inbox.joiner.owner + held_blocks old (chains_in inbox) ≡ used_of old inbox.joiner.owner + held_blocks new (chains_in came)
  pub others : (other : Chain) → IsLive old other → LiesApart Queued chain_in outbox.queue.items other → IsApartFrom (chains_in inbox) other
      → IsLive new other × (chain_bytes new other ≡ chain_bytes old other) × LiesApart Queued chain_in sent.queue.items other
      × IsApartFrom (chains_in came) other

abbrev pub EndLeavesOthers : PoolState → PoolState → End → End → Type 0
EndLeavesOthers old new before after = LeavesBoxes old new before.outbox before.inbox after.outbox after.inbox

-- a pool in which these owners use nothing: 128 blocks for what is sent, and 512 for what comes
pub record IsFree (pool : PoolState) (sender receiver : ℕ) : Type 0 where
  pub has_sender : HasQuota pool sender
  pub sender_quota : quota_of pool sender ≡ 128
  pub sender_used : used_of pool sender ≡ 0
  pub sender_aside : aside_of pool sender ≡ 0
  pub has_receiver : HasQuota pool receiver
  pub receiver_quota : quota_of pool receiver ≡ 512
  pub differ : sender ≢ receiver

-- A chain of another owner may be passed to an end: it lies apart from what comes there, and where it belongs to the owner of what
-- comes, its blocks count beside those that are kept.
pub record MayPass (pool : PoolState) (k : End) (chain : Chain) : Type 0 where
  pub live : IsLive pool chain
  pub other : chain.owner ≢ k.outbox.owner
  pub apart : IsApartFrom (chains_in k.inbox) chain
  pub counted : chain.owner ≡ k.inbox.joiner.owner
      → held_blocks pool (chains_in k.inbox) + blocks_for (length (chain_bytes pool chain)) ≤ used_of pool k.inbox.joiner.owner

-- ---- several ends in one pool

-- two ends use four owners
pub record HaveOwners (one other : End) : Type 0 where
  pub senders : one.outbox.owner ≢ other.outbox.owner
  pub receivers : one.inbox.joiner.owner ≢ other.inbox.joiner.owner
  pub to : one.outbox.owner ≢ other.inbox.joiner.owner
  pub from : one.inbox.joiner.owner ≢ other.outbox.owner

-- a chain that was fetched from an end: it lies in the blocks for what comes there, apart from what the end still keeps
pub record IsFetched (pool : PoolState) (k : End) (chain : Chain) : Type 0 where
  pub live : IsLive pool chain
  pub owned : chain.owner ≡ k.inbox.joiner.owner
  pub apart : IsApartFrom (chains_in k.inbox) chain

-- how many blocks a chain has, where there is one
abbrev pub blocks_of : PoolState → Option Chain → ℕ
blocks_of pool None = 0
blocks_of pool (Some chain) = blocks_for (length (chain_bytes pool chain))

-- Each block for what comes is in a message that the end keeps, or in the one that was fetched and not given away since, where
-- one was.
pub record Accounts (k : End) (pool : PoolState) (chain : Option Chain) : Type 0 where
  pub fetched : IfSome chain (IsFetched pool k)
  pub used : used_of pool k.inbox.joiner.owner ≡ held_blocks pool (chains_in k.inbox) + blocks_of pool chain

-- An end at rest in its pool: it stands for a state of the machine, the messages that came were fetched, and each block for what
-- comes is accounted for.
pub record Rests (k : End) (pool : PoolState) : Type 0 where
  pub state : Machine
  pub stands : EndStandsFor k pool state
  pub fetched : k.inbox.got ≡ None
  pub accounts : Accounts k pool None
