use Rattle.std.proofs.Common.{length}
use Rattle.hcp_chain.proofs.ClearLemmas.{Clears}
use Rattle.hcp_chain.proofs.joiner.Joiner.clear.Given as goal

abbrev pub invariant-loop-open : goal.invariant-loop-open
invariant-loop-open l = Clears l.fn.pool l.pool l.fn.self.owner l.self.owner l.fn.self.open.items l.self.open.items

abbrev pub decreases-loop-open : goal.decreases-loop-open
decreases-loop-open l = length l.self.open.items
