-- How blocks lie in a region and are linked. No public clause cites this module.
use Rattle.std.specs.Prelude.{◌≡◌, ℕ, ◌+◌, ◌-◌, ◌*◌, ◌<◌, ◌≤◌, List, [], ◌++◌, map, replicate, length, Option, None, Some, slice_index_or}
use Rattle.std.specs.List.{range_with_len, sum_by}
use Rattle.block_pool.specs.Slots.{Held, Places, blocks_for}
use Rattle.block_pool.specs.Links.{block_at, linked_byte}
use Rattle.block_pool.specs.declared.heads.Head.{Head}

-- the bytes of a chain
unfoldable pub laid_bytes : List ℕ → List ℕ → ℕ → ℕ → List ℕ
laid_bytes region next first len = map (linked_byte region next first) (range_with_len 0 len)

-- the chain that a head says
abbrev pub held_by : List ℕ → List ℕ → ℕ → Option Head → Option Held
held_by region next block None = None
held_by region next block (Some head) =
    Some (record { owner = head.owner; bytes = laid_bytes region next block head.len })

-- for each block the chain that begins there
unfoldable pub slots_of : List ℕ → List ℕ → List (Option Head) → List (Option Held)
slots_of region next heads =
    map (λ block. held_by region next block (slice_index_or heads block None)) (range_with_len 0 (length heads))

-- the blocks of the chain that a head says
abbrev pub blocks_by : List ℕ → ℕ → Option Head → List ℕ
blocks_by next block None = []
blocks_by next block (Some head) = map (block_at next block) (range_with_len 0 (blocks_for head.len))

-- for each block the blocks of the chain that begins there
unfoldable pub chains_of : List ℕ → List (Option Head) → List (List ℕ)
chains_of next heads =
    map (λ block. blocks_by next block (slice_index_or heads block None)) (range_with_len 0 (length heads))

-- Where the chains lie. Behind the blocks that were used lie so many fresh ones: they are free, no chain begins there, and their
-- bytes are zero.
abbrev pub places_of : List ℕ → List ℕ → List (Option Head) → ℕ → ℕ → ℕ → Places
places_of region next heads free free_len fresh =
    record {
      memory = region ++ replicate (32 * fresh) 0;
      chains = chains_of next heads ++ replicate fresh [];
      free = map (block_at next free) (range_with_len 0 free_len) ++ range_with_len (length next) fresh;
    }

-- how many blocks the chain that a head says has
abbrev pub head_blocks : Option Head → ℕ
head_blocks None = 0
head_blocks (Some head) = blocks_for head.len

-- Each block has one mark: a chain, named by its first block, and a place in it. The free list counts as a chain whose
-- name is no block.
abbrev pub IsMarked : (ℕ → ℕ × ℕ) → ℕ → ℕ → ℕ → ℕ → Type 0
IsMarked mark count block chain place = (block < count) × (mark block ≡ (chain, place))

-- A chain lies in blocks that have its marks, and reading goes on at one of them.
pub record IsChain (next : List ℕ) (mark : ℕ → ℕ × ℕ) (count block : ℕ) (head : Head) : Type 0 where
  pub some : 0 < head.len
  pub marked : (k : ℕ) → k < blocks_for head.len → IsMarked mark count (block_at next block k) block k
  pub last : block_at next block (blocks_for head.len - 1) ≡ head.last
  pub within : head.passed < blocks_for head.len
  pub reading : block_at next block head.passed ≡ head.read_on

-- Each block lies in a chain or in the free list. None lies in two of them, nor twice in one.
pub record AreSoundBlocks (region next : List ℕ) (heads : List (Option Head)) (free free_len : ℕ) : Type 0 where
  pub count : ℕ
  pub counted : length heads ≡ count
  pub links : length next ≡ count
  pub bytes : length region ≡ 32 * count
  pub few : count ≤ 16384
  pub mark : ℕ → ℕ × ℕ
  pub chains : (block : ℕ) (head : Head) → slice_index_or heads block None ≡ Some head → IsChain next mark count block head
  pub spare : (k : ℕ) → k < free_len → IsMarked mark count (block_at next free k) count k
  pub all : free_len + sum_by head_blocks heads ≡ count

-- There is room for the blocks that were used and the fresh ones, which are at most 16,384.
pub record HasRoom (used fresh region_room next_room heads_room : ℕ) : Type 0 where
  pub few : used + fresh ≤ 16384
  pub bytes : 32 * (used + fresh) ≤ region_room
  pub links : used + fresh ≤ next_room
  pub heads : used + fresh ≤ heads_room
