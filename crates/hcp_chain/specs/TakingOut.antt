-- What taking out the message of a pipe leaves. No public clause cites this module.
use Rattle.std.specs.Prelude.{◌≡◌, ◌≢◌, ℕ, ◌+◌, ◌<◌, ◌≤◌, length}
use Rattle.std.specs.List.{AllByRecursion}
use Rattle.block_pool.specs.declared.chain.Chain.{Chain}
use Rattle.block_pool.specs.Slots.{blocks_for}
use Rattle.block_pool.specs.Pool.{PoolState, IsLive, IsApart, chain_bytes}
use Rattle.hcp_chain.specs.declared.joiner.Joiner.{Joiner}
use Rattle.hcp_chain.specs.Joining.{so_far, others}
use Rattle.hcp_chain.specs.Holding.{HoldsChains, open_messages, held_blocks, IsApartFrom}

-- the chain of a pipe was taken out, or an empty one where there was room
pub record TakesOut (pool : PoolState) (old new : Joiner) (pipe : ℕ) (chain : Chain) : Type 0 where
  pub bytes : chain_bytes pool chain ≡ so_far (open_messages pool old) pipe
  pub rest : open_messages pool new ≡ others (open_messages pool old) pipe
  pub room : length new.open.items < 4
  pub live : IsLive pool chain
  pub owned : chain.owner ≡ old.owner
  pub short : length (chain_bytes pool chain) ≤ 4096
  pub apart : AllByRecursion (λ x. (x.pipe ≢ pipe) × IsApart x.chain chain) new.open.items
  pub holds : HoldsChains pool new.owner new.open.items
  pub blocks : blocks_for (length (chain_bytes pool chain)) + held_blocks pool new.open.items ≡ held_blocks pool old.open.items
  pub outside : (other : Chain) → IsApartFrom old.open.items other → IsApart other chain × IsApartFrom new.open.items other
