use Rattle.block_pool.proofs.Words.{blocks_for, held_bytes, length, owner_of, take, with_chain, ◌++◌, ◌+◌, ◌-◌, ◌≡◌, ◌≤◌}
use Rattle.block_pool.proofs.blocks.Blocks.extend.Given as goal

abbrev pub invariant-pieces : goal.invariant-pieces
invariant-pieces l =
    (l.done ≤ length l.bytes)
    × ((l.self.slots ≡ with_chain l.fn.self.slots l.first (owner_of l.fn.self.slots l.first) (held_bytes l.fn.self.slots l.first ++ take l.done l.bytes))
    × (l.self.free + blocks_for (length (held_bytes l.fn.self.slots l.first) + l.done)
    ≡ l.fn.self.free + blocks_for (length (held_bytes l.fn.self.slots l.first))))

abbrev pub decreases-pieces : goal.decreases-pieces
decreases-pieces l = length l.bytes - l.done
