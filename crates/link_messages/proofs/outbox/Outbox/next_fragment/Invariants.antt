use Rattle.std.proofs.Common.{◌≡◌, ◌-◌, length}
use Rattle.link_messages.proofs.OutgoingLemmas.{LooksFor}
use Rattle.link_messages.proofs.outbox.Outbox.next_fragment.Given as goal

abbrev pub invariant-loop-queued : goal.invariant-loop-queued
invariant-loop-queued l = LooksFor l.pool l.fn.self l.at l.place × (l.pool ≡ l.fn.pool)

abbrev pub decreases-loop-queued : goal.decreases-loop-queued
decreases-loop-queued l = length l.self.queue.items - l.at
