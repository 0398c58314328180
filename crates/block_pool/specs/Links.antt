-- Blocks that lead one to the next, and the bytes in them.
use Rattle.std.specs.Prelude.{ℕ, zero, suc, ◌+◌, ◌*◌, ◌/◌, ◌%◌, List, ◌++◌, length, take, drop, slice_index}

-- the k-th block of the list of blocks that begins at a block
abbrev pub block_at : List ℕ → ℕ → ℕ → ℕ
block_at next first zero = first
block_at next first (suc k) = slice_index next (block_at next first k)

-- byte i of the chain that begins at a block
abbrev pub linked_byte : List ℕ → List ℕ → ℕ → ℕ → ℕ
linked_byte region next first i = slice_index region (32 * block_at next first (i / 32) + i % 32)

-- a region after bytes are written from a place on
abbrev pub region_behind : List ℕ → ℕ → List ℕ → List ℕ
region_behind region place bytes = take place region ++ (bytes ++ drop (place + length bytes) region)
