use Rattle.std.proofs.Common.{length}
use Rattle.link_messages.proofs.OutgoingLemmas.{Acknowledges}
use Rattle.link_messages.proofs.outbox.Outbox.acknowledge.Given as goal

abbrev pub invariant-loop-first : goal.invariant-loop-first
invariant-loop-first l = Acknowledges l.initial.pool l.pool l.initial.self l.self l.whole

abbrev pub decreases-loop-first : goal.decreases-loop-first
decreases-loop-first l = length l.self.queue.items
