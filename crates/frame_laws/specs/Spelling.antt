-- What spells a content.
use Rattle.std.specs.Prelude.{ℕ, ◌+◌, ◌<◌, ◌≡◌, ◌⊎◌, Bool, true, false, List, [], ◌∷◌, ◌++◌, map, reverse}
use Rattle.swp_frame.specs.Signal.{symbol_of, unstuffed}
use Rattle.swp_frame.specs.Stuffing.{stuffed}

-- The bits `spelling` spell the content: they are the stuffed content, or this without a last 0 that was put in, as it was
-- where the content ends in a 1.
abbrev pub Spells : List Bool → List Bool → Type 0
Spells spelling content =
    (spelling ≡ stuffed content)
    ⊎ ((front : List Bool) × (content ≡ front ++ true ∷ []) × (stuffed content ≡ spelling ++ false ∷ []))

-- the content that is read from bits between a start and an end of frame
abbrev pub content_read : List Bool → List Bool
content_read spelling = reverse (unstuffed (reverse (map symbol_of spelling)))

-- no six 1 bits stand in a row, where so many came before
abbrev pub NoSixOnes : ℕ → List Bool → Type 0
NoSixOnes ones [] = Unit {0}
NoSixOnes ones (false ∷ bits) = NoSixOnes 0 bits
NoSixOnes ones (true ∷ bits) = (ones < 5) × NoSixOnes (ones + 1) bits
