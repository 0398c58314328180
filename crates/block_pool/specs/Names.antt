-- Chains by their names: a chain with bytes is named by its first block, and an empty one has no name.
use Rattle.std.specs.Prelude.{◌≡◌, ℕ, ◌<◌, List, [], ◌∷◌, length, Option, None, Some, slice_set}
use Rattle.block_pool.specs.Slots.{Held, Places, blocks_at, slot, with_chain, held_bytes, owner_of}

-- the bytes of a chain by its name: a chain without a name is empty
abbrev pub named_bytes : List (Option Held) → Option ℕ → List ℕ
named_bytes slots None = []
named_bytes slots (Some first) = held_bytes slots first

-- the blocks of a chain by its name: an empty one has none
abbrev pub blocks_named : Places → Option ℕ → List ℕ
blocks_named places None = []
blocks_named places (Some first) = blocks_at places first

-- a chain with a name has bytes there, and they are its owner's
abbrev pub IsLiveAt : List (Option Held) → ℕ → Option ℕ → Type 0
IsLiveAt slots owner None = Unit {0}
IsLiveAt slots owner (Some first) = (0 < length (held_bytes slots first)) × (owner_of slots first ≡ owner)

-- the chains, where the chain of this name has these bytes
abbrev pub put_at : List (Option Held) → Option ℕ → ℕ → List ℕ → List (Option Held)
put_at slots None owner bytes = slots
put_at slots (Some first) owner bytes = with_chain slots first owner bytes

-- the chains without the one of this name
abbrev pub removed_at : List (Option Held) → Option ℕ → List (Option Held)
removed_at slots None = slots
removed_at slots (Some first) = slice_set slots first None

-- The name of a chain after bytes were appended: it keeps a name, and an empty chain with its first byte gets that of a
-- block where no chain began.
abbrev pub IsNamedAfter : List (Option Held) → Option ℕ → List ℕ → Option ℕ → Type 0
IsNamedAfter slots (Some first) bytes name = name ≡ Some first
IsNamedAfter slots None [] name = name ≡ None
IsNamedAfter slots None (byte ∷ bytes) name =
    (first : ℕ) × (name ≡ Some first) × (first < length slots) × (slot slots first ≡ None)

-- two chains don't have one name
abbrev pub IsApartAt : Option ℕ → Option ℕ → Type 0
IsApartAt name other = (first : ℕ) → name ≡ Some first → other ≡ Some first → ⊥
