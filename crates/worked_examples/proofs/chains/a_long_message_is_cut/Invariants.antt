use Rattle.std.proofs.Common.{◌≡◌, length}
use Rattle.block_pool.specs.Pool.{IsLive, chain_bytes}
use Rattle.worked_examples.proofs.chains.a_long_message_is_cut.Given as goal

abbrev pub invariant-loop-at : goal.invariant-loop-at
invariant-loop-at g l = IsLive l.pool l.chain × (length (chain_bytes l.pool l.chain) ≡ 4096)
