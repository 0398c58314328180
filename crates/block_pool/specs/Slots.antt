-- The chains of a pool: for each block the chain that begins there, with its owner and its bytes.
use Rattle.std.specs.Prelude.{◌≡◌, ◌≢◌, ℕ, ◌+◌, ◌*◌, ◌/◌, ◌%◌, ◌<◌, List, [], length, Option, None, Some, slice_index, slice_index_or, slice_set}
use Rattle.std.specs.List.{sum_by}

-- what a chain holds, and for whom
pub record Held : Type 0 where
  pub owner : ℕ
  pub bytes : List ℕ

-- how many blocks of 32 bytes hold so many bytes
abbrev pub blocks_for : ℕ → ℕ
blocks_for len = (len + 31) / 32

-- the chain that begins at a block, if one does
abbrev pub slot : List (Option Held) → ℕ → Option Held
slot slots block = slice_index_or slots block None

-- the bytes of the chain that begins at a block, and none where no chain does
abbrev pub bytes_in : Option Held → List ℕ
bytes_in None = []
bytes_in (Some held) = held.bytes

abbrev pub held_bytes : List (Option Held) → ℕ → List ℕ
held_bytes slots block = bytes_in (slot slots block)

-- the owner of the chain that begins at a block
abbrev pub owner_in : Option Held → ℕ
owner_in None = 0
owner_in (Some held) = held.owner

abbrev pub owner_of : List (Option Held) → ℕ → ℕ
owner_of slots block = owner_in (slot slots block)

-- the chains, where these bytes of this owner are the chain that begins at a block
abbrev pub with_chain : List (Option Held) → ℕ → ℕ → List ℕ → List (Option Held)
with_chain slots block owner bytes = slice_set slots block (Some (record { owner = owner; bytes = bytes }))

-- Where chains lie: the memory, 32 bytes to a block; for each block the blocks of the chain that begins there, in order; and the
-- free blocks.
pub record Places : Type 0 where
  pub memory : List ℕ
  pub chains : List (List ℕ)
  pub free : List ℕ

-- the blocks of the chain that begins at a block
abbrev pub blocks_at : Places → ℕ → List ℕ
blocks_at places first = slice_index_or places.chains first []

-- Each block of a pool lies in one chain, once, or is free. Byte i of a chain lies in block i / 32 of its blocks.
pub record ShareNoBlock (slots : List (Option Held)) (places : Places) : Type 0 where
  pub blocks : (first : ℕ) → length (blocks_at places first) ≡ blocks_for (length (held_bytes slots first))
  pub bytes : (first i : ℕ) → i < length (held_bytes slots first)
      → slice_index (held_bytes slots first) i ≡ slice_index places.memory (32 * slice_index (blocks_at places first) (i / 32) + i % 32)
  pub once : (first other k j : ℕ) → k < length (blocks_at places first) → j < length (blocks_at places other)
      → slice_index (blocks_at places first) k ≡ slice_index (blocks_at places other) j → (first ≡ other) × (k ≡ j)
  pub not_free : (first k j : ℕ) → k < length (blocks_at places first) → j < length places.free
      → slice_index (blocks_at places first) k ≢ slice_index places.free j
  pub free_once : (k j : ℕ) → k < length places.free → j < length places.free → slice_index places.free k ≡ slice_index places.free j
      → k ≡ j
  pub within : (first k : ℕ) → k < length (blocks_at places first) → slice_index (blocks_at places first) k < length slots
  pub free_within : (k : ℕ) → k < length places.free → slice_index places.free k < length slots
  pub all : length places.free + sum_by length places.chains ≡ length slots

-- for each block the chain that begins there, where the chains lie, how many blocks are free, and how many of those are in a list
pub record BlocksState : Type 0 where
  pub slots : List (Option Held)
  pub places : Places
  pub free : ℕ
  pub listed : ℕ
