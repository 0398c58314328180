-- Things that each have a chain in a pool, such as messages that wait: their chains together.
use Rattle.std.specs.Prelude.{◌≡◌, ℕ, List, [], ◌∷◌, length, map}
use Rattle.std.specs.List.{sum_by, AllByRecursion}
use Rattle.block_pool.specs.Slots.{blocks_for}
use Rattle.block_pool.specs.Pool.{PoolState, IsLive, IsApart, chain_bytes}
use Rattle.block_pool.specs.declared.chain.Chain.{Chain}

-- a live chain of an owner
pub record IsOwnChain (pool : PoolState) (owner : ℕ) (chain : Chain) : Type 0 where
  pub live : IsLive pool chain
  pub owned : chain.owner ≡ owner

-- their chains are live chains of one owner
abbrev pub OwnsAll : (X : Type 0) → (X → Chain) → PoolState → ℕ → List X → Type 0
OwnsAll X chain_of pool owner xs = AllByRecursion (λ x. IsOwnChain pool owner (chain_of x)) xs

-- a chain lies apart from each of theirs
abbrev pub LiesApart : (X : Type 0) → (X → Chain) → List X → Chain → Type 0
LiesApart X chain_of xs other = AllByRecursion (λ x. IsApart other (chain_of x)) xs

-- no two of their chains lie in one place
abbrev pub LieApart : (X : Type 0) → (X → Chain) → List X → Type 0
LieApart X chain_of [] = Unit {0}
LieApart X chain_of (x ∷ xs) = LiesApart X chain_of xs (chain_of x) × LieApart X chain_of xs

-- the bytes of each
abbrev pub all_bytes : (X : Type 0) → (X → Chain) → PoolState → List X → List (List ℕ)
all_bytes X chain_of pool xs = map (λ x. chain_bytes pool (chain_of x)) xs

-- how many blocks they use together
abbrev pub all_blocks : (X : Type 0) → (X → Chain) → PoolState → List X → ℕ
all_blocks X chain_of pool xs = sum_by (λ x. blocks_for (length (chain_bytes pool (chain_of x)))) xs

-- A call changed no live chain that lies apart from those of the things before it, and each still lies apart from those of the
-- things after it.
abbrev pub KeepsAllOthers : (X Y : Type 0) → (X → Chain) → (Y → Chain) → PoolState → PoolState → List X → List Y → Type 0
KeepsAllOthers X Y before_of after_of old new before after =
    (other : Chain) → IsLive old other → LiesApart X before_of before other
    → IsLive new other × (chain_bytes new other ≡ chain_bytes old other) × LiesApart Y after_of after other

-- what all these things keep over a call
pub record KeptAll (X : Type 0) (chain_of : X → Chain) (old new : PoolState) (owner : ℕ) (xs : List X) : Type 0 where
  pub own : OwnsAll X chain_of new owner xs
  pub bytes : all_bytes X chain_of new xs ≡ all_bytes X chain_of old xs
  pub blocks : all_blocks X chain_of new xs ≡ all_blocks X chain_of old xs
