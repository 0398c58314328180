-- What parts of a step leave of a link end. No public clause cites this module.
use Rattle.std.specs.Prelude.{◌≡◌, [], map}
use Rattle.block_pool.specs.Pool.{PoolState, aside_of}
use Rattle.link_messages.specs.Outgoing.{OutboxLiesIn}
use Rattle.link_messages.specs.Incoming.{came_whole, InboxLiesIn}
use Rattle.link_end.specs.Dues.{kept_in_front}
use Rattle.link_end.specs.Ends.{EndLeavesOthers}
use Rattle.link_end.specs.declared.«end».End.{End}

-- the messages of a session were forgotten
pub record ForgetsMessages (old new : PoolState) (before after : End) : Type 0 where
  pub activation : after.activation ≡ before.activation
  pub shdlc : after.shdlc ≡ before.shdlc
  pub passed_over : after.passed_over ≡ before.passed_over
  pub acts : after.acts.items ≡ map kept_in_front before.acts.items
  pub sends : OutboxLiesIn new after.outbox
  pub none : after.outbox.queue.items ≡ []
  pub acked : after.outbox.acked ≡ 0
  pub cut : after.outbox.cut ≡ 0
  pub receives : InboxLiesIn new after.inbox
  pub under : after.inbox.joiner.open.items ≡ []
  pub kept : after.inbox.got ≡ before.inbox.got
  pub got : came_whole new after.inbox ≡ came_whole old before.inbox
  pub aside : aside_of new before.outbox.owner ≡ aside_of old before.outbox.owner
  pub elsewhere : EndLeavesOthers old new before after
