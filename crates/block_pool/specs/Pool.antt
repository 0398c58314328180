-- What a pool holds: for each block the chain that begins there, for each owner its quota, its use, and what is set aside, and
-- where the chains lie.
use Rattle.std.specs.Prelude.{◌≡◌, ℕ, ◌+◌, ◌-◌, ◌<◌, List, ◌++◌, length, sum, replicate, Option, None}
use Rattle.block_pool.specs.Slots.{Held, Places, blocks_for}
use Rattle.block_pool.specs.Names.{named_bytes, blocks_named, IsLiveAt, put_at, removed_at, IsNamedAfter, IsApartAt}
use Rattle.block_pool.specs.Owners.{owner_at, with_used, new_owners}
use Rattle.block_pool.specs.declared.owners.Owner.{Owner}
use Rattle.block_pool.specs.declared.chain.Chain.{Chain}

pub record PoolState : Type 0 where
  pub slots : List (Option Held)
  pub owners : List Owner
  pub places : Places

-- ---- owners

-- how many blocks an owner may use
abbrev pub quota_of : PoolState → ℕ → ℕ
quota_of pool owner = (owner_at pool.owners owner).quota

-- how many blocks it uses, those set aside among them
abbrev pub used_of : PoolState → ℕ → ℕ
used_of pool owner = (owner_at pool.owners owner).used

-- how many blocks are set aside for it
abbrev pub aside_of : PoolState → ℕ → ℕ
aside_of pool owner = (owner_at pool.owners owner).aside

abbrev pub spare_of : PoolState → ℕ → ℕ
spare_of pool owner = quota_of pool owner - used_of pool owner

-- the owner has a quota
abbrev pub HasQuota : PoolState → ℕ → Type 0
HasQuota pool owner = owner < length pool.owners

-- ---- chains

-- the bytes of a chain
abbrev pub chain_bytes : PoolState → Chain → List ℕ
chain_bytes pool chain = named_bytes pool.slots chain.first

abbrev pub IsLive : PoolState → Chain → Type 0
IsLive pool chain = HasQuota pool chain.owner × IsLiveAt pool.slots chain.owner chain.first

-- the blocks in which a chain lies, in order
abbrev pub chain_blocks : PoolState → Chain → List ℕ
chain_blocks pool chain = blocks_named pool.places chain.first

-- how many more blocks the owner of a chain may use
abbrev pub chain_spare : PoolState → Chain → ℕ
chain_spare pool chain = spare_of pool chain.owner

-- an empty chain of an owner
abbrev pub IsEmptyChain : ℕ → Chain → Type 0
IsEmptyChain owner chain = (chain.owner ≡ owner) × (chain.first ≡ None)

-- two chains don't lie in one place of a pool
abbrev pub IsApart : Chain → Chain → Type 0
IsApart chain other = IsApartAt chain.first other.first

-- A call that took one chain from `before` to `after` changed no other live chain.
abbrev pub KeepsOthers : PoolState → PoolState → Chain → Chain → Type 0
KeepsOthers old new before after =
    (other : Chain) → IsLive old other → IsApart other before
    → IsApart other after × IsLive new other × (chain_bytes new other ≡ chain_bytes old other)

-- how many more blocks so many further bytes need
abbrev pub more_blocks : ℕ → ℕ → ℕ
more_blocks len further = blocks_for (len + further) - blocks_for len

-- ---- what calls do

-- bytes were appended to a chain, and nothing else changed
pub record Appends (old new : PoolState) (before after : Chain) (bytes : List ℕ) : Type 0 where
  pub owner : after.owner ≡ before.owner
  pub name : IsNamedAfter old.slots before.first bytes after.first
  pub slots : new.slots ≡ put_at old.slots after.first before.owner (chain_bytes old before ++ bytes)
  pub owners : new.owners
      ≡ with_used old.owners before.owner (used_of old before.owner + more_blocks (length (chain_bytes old before)) (length bytes))

-- a chain went to another owner with its bytes and its name, and nothing else changed
pub record Passes (old new : PoolState) (before after : Chain) (owner : ℕ) : Type 0 where
  pub owner_is : after.owner ≡ owner
  pub name : after.first ≡ before.first
  pub slots : new.slots ≡ put_at old.slots before.first owner (chain_bytes old before)
  pub owners : new.owners
      ≡ (let n = blocks_for (length (chain_bytes old before)) in
      let without = with_used old.owners before.owner (used_of old before.owner - n) in
      with_used without owner ((owner_at without owner).used + n))

-- a chain's blocks were given back, and nothing else changed
pub record Gives (old new : PoolState) (chain : Chain) : Type 0 where
  pub slots : new.slots ≡ removed_at old.slots chain.first
  pub owners : new.owners
      ≡ with_used old.owners chain.owner (used_of old chain.owner - blocks_for (length (chain_bytes old chain)))

-- a pool without chains, with these quotas
pub record IsNew (pool : PoolState) (quotas : List ℕ) : Type 0 where
  pub slots : pool.slots ≡ replicate (sum quotas) None
  pub owners : pool.owners ≡ new_owners quotas
