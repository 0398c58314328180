-- The lengths of a link protocol data unit and of the information field in one.
use Rattle.std.specs.Prelude.{ℕ, ◌<◌, ◌≤◌, List, length}

-- these bytes are an LPDU: 1 to 30
abbrev pub IsLpdu : List ℕ → Type 0
IsLpdu bytes = (0 < length bytes) × (length bytes ≤ 30)

-- these bytes are an information field: 1 to 29
abbrev pub IsInfo : List ℕ → Type 0
IsInfo bytes = (0 < length bytes) × (length bytes ≤ 29)
