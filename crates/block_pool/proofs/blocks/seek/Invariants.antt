use Rattle.block_pool.proofs.Words.{block_at, ◌+◌, ◌-◌, ◌≡◌, ◌≤◌}
use Rattle.block_pool.proofs.blocks.seek.Given as goal

abbrev pub invariant-loop-step : goal.invariant-loop-step
invariant-loop-step l = (l.left ≤ l.steps) × (l.block ≡ block_at l.next l.first (l.steps - l.left + l._step))
