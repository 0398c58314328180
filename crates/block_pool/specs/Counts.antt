-- How the blocks of chains are counted for their owners.
use Rattle.std.specs.Prelude.{◌≡◌, ℕ, ◌+◌, ◌<◌, ◌≤◌, if◌then◌else◌, ◌==◌, List, length, Option, None, Some}
use Rattle.std.specs.List.{sum_by}
use Rattle.block_pool.specs.Slots.{Held, blocks_for}
use Rattle.block_pool.specs.Owners.{owner_at}
use Rattle.block_pool.specs.Pool.{PoolState}
use Rattle.block_pool.specs.declared.owners.Owner.{Owner}

-- how many blocks of an owner the chain at a block has
abbrev pub blocks_in : ℕ → Option Held → ℕ
blocks_in owner None = 0
blocks_in owner (Some held) = if held.owner == owner then blocks_for (length held.bytes) else 0

-- how many blocks the chains of an owner have: 32 bytes to a block
abbrev pub blocks_held : List (Option Held) → ℕ → ℕ
blocks_held slots owner = sum_by (blocks_in owner) slots

-- An owner uses the blocks of its chains and those set aside, and no more than its quota. The quotas together are at most
-- 16,384 blocks, and there are at most 256 of them.
pub record AreCounted (slots : List (Option Held)) (owners : List Owner) : Type 0 where
  pub used : (owner : ℕ) → owner < length owners → (owner_at owners owner).used ≡ (owner_at owners owner).aside + blocks_held slots owner
  pub within : (owner : ℕ) → (owner_at owners owner).used ≤ (owner_at owners owner).quota
  pub few_blocks : sum_by (λ o. o.quota) owners ≤ 16384
  pub few_owners : length owners ≤ 256

abbrev pub IsCounted : PoolState → Type 0
IsCounted pool = AreCounted pool.slots pool.owners

-- the free blocks are those that no owner uses for a chain
abbrev pub AreFree : List Owner → ℕ → Type 0
AreFree owners free = free + sum_by (λ o. o.used) owners ≡ sum_by (λ o. o.quota) owners + sum_by (λ o. o.aside) owners
