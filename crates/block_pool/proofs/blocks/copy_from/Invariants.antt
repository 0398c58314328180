use Rattle.block_pool.proofs.Words.{block_at, get_or, length, linked_byte, ℕ, ◌+◌, ◌-◌, ◌/◌, ◌<◌, ◌≡◌, ◌≤◌}
use Rattle.block_pool.proofs.blocks.copy_from.Given as goal

abbrev pub invariant-pieces : goal.invariant-pieces
invariant-pieces l =
    (l.done ≤ length l.fn.out)
    × (length l.out ≡ length l.fn.out)
    × (l.block ≡ block_at l.next l.first ((l.from + l.done) / 32))
    × ((k : ℕ) → k < l.done → get_or l.out k 0 ≡ linked_byte l.region l.next l.first (l.from + k))

abbrev pub decreases-pieces : goal.decreases-pieces
decreases-pieces l = length l.fn.out - l.done
