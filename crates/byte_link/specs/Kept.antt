-- What a reader of units keeps.
use Rattle.std.specs.Prelude.{ℕ, ◌+◌, ◌*◌, ◌≡◌, ◌<◌, ◌≤◌, true, false, List, [], ◌∷◌, length}
use Rattle.byte_link.specs.declared.link.ByteLink.{ByteLink}
use Rattle.byte_link.specs.Reading.{unit_under_way}

-- these bytes are less than a unit whose length is from 1 to 30
abbrev pub IsPartial : List ℕ → Type 0
IsPartial [] = Unit {0}
IsPartial (high ∷ []) = Unit {0}
IsPartial (high ∷ low ∷ bytes) = (0 < 256 * high + low) × (256 * high + low ≤ 30) × (length bytes < 256 * high + low + 2)

-- these bytes begin with a length above 30
abbrev pub IsLost : List ℕ → Type 0
IsLost [] = ⊥
IsLost (high ∷ []) = ⊥
IsLost (high ∷ low ∷ bytes) = 30 < 256 * high + low

-- the reader stands for the bytes that came, newest first
pub record ByteLinkStandsFor (link : ByteLink) (seen : List ℕ) : Type 0 where
  pub lost : link.lost ≡ true → IsLost (unit_under_way seen)
  pub same : link.lost ≡ false → link.unit.items ≡ unit_under_way seen
  pub partial : link.lost ≡ false → IsPartial (unit_under_way seen)
