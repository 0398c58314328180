-- Units that were written one behind another.
use Rattle.std.specs.Prelude.{◌≡◌, ◌⊎◌, ℕ, ◌+◌, ◌<◌, ◌≤◌, List, [], ◌∷◌, length, filter}
use Rattle.byte_link.specs.declared.unit.Unit as unit
use Rattle.byte_link.specs.Reading.{units_given, says_something}

-- a length from 1 to 30, so many bytes, and two more for a CRC, the right one or not
pub record IsOfLpdu (bytes : List ℕ) : Type 0 where
  pub count : ℕ
  pub rest : List ℕ
  pub spelled : bytes ≡ 0 ∷ count ∷ rest
  pub some : 0 < count
  pub most : count ≤ 30
  pub long : length rest ≡ count + 2

-- one unit: a tick, or that of an LPDU
abbrev pub IsUnit : List ℕ → Type 0
IsUnit bytes = (bytes ≡ 0 ∷ 0 ∷ []) ⊎ IsOfLpdu bytes

-- what further bytes, the oldest first, give behind what came before
abbrev pub units_behind : List ℕ → List ℕ → List unit.Unit
units_behind seen bytes = filter says_something (units_given seen bytes)
