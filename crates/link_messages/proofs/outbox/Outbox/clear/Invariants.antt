use Rattle.std.proofs.Common.{length}
use Rattle.link_messages.proofs.OutgoingLemmas.{Clears}
use Rattle.link_messages.proofs.outbox.Outbox.clear.Given as goal

abbrev pub invariant-loop : goal.invariant-loop
invariant-loop l = Clears l.initial.pool l.pool l.initial.self l.self

abbrev pub decreases-loop : goal.decreases-loop
decreases-loop l = length l.self.queue.items
