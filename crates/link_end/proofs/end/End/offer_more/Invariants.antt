use Rattle.link_end.proofs.Words.{length, waiting_in, ◌≡◌}
use Rattle.link_end.proofs.EndLemmas.{Refills}
use Rattle.link_end.proofs.«end».End.offer_more.Given as goal

abbrev pub invariant-loop-self : goal.invariant-loop-self
invariant-loop-self l = Refills l.pool l.initial.self l.self × (l.pool ≡ l.initial.pool)

abbrev pub decreases-loop-self : goal.decreases-loop-self
decreases-loop-self l = length (waiting_in l.pool l.self.outbox)
