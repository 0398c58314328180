-- Lists of rows with a key each, sorted by it, no key twice.
use Rattle.std.specs.Prelude.{◌≡◌, ℕ, ◌+◌, ◌<◌, ◌≤◌, not, ◌==◌, nat_lt, List, [], ◌∷◌, ◌++◌, length, Option, MatchResult}
use Rattle.std.specs.List.{find, filter, HoldsAt, AllWithin}
use Rattle.std.specs.declared.result.Result.{Result}

-- the keys of these rows rise from `low` on, and stay below `high`
abbrev pub AreRows : {X : Type 0} → (X → ℕ) → ℕ → ℕ → List X → Type 0
AreRows {X} key low high [] = Unit {0}
AreRows {X} key low high (row ∷ rows) = (low ≤ key row) × (key row < high) × AreRows key (key row + 1) high rows

-- the row with this key
abbrev pub row_of : {X : Type 0} → (X → ℕ) → ℕ → List X → Option X
row_of {X} key k rows = find (λ row. key row == k) rows

-- the rows with a smaller key, and those with a greater one
abbrev pub rows_before : {X : Type 0} → (X → ℕ) → ℕ → List X → List X
rows_before {X} key k rows = filter (λ row. nat_lt (key row) k) rows

abbrev pub rows_behind : {X : Type 0} → (X → ℕ) → ℕ → List X → List X
rows_behind {X} key k rows = filter (λ row. nat_lt k (key row)) rows

-- The row is put at its place. It replaces one of the same key.
abbrev pub with_row : {X : Type 0} → (X → ℕ) → X → List X → List X
with_row {X} key row rows = rows_before key (key row) rows ++ row ∷ rows_behind key (key row) rows

-- the row with this key is taken out
abbrev pub without_row : {X : Type 0} → (X → ℕ) → ℕ → List X → List X
without_row {X} key k rows = filter (λ row. not (key row == k)) rows

-- Where the row with this key stands (`Ok`), or where one would be put (`Err`): behind all rows with a smaller key, before all with a greater one.
abbrev pub IsPlace : {X : Type 0} → (X → ℕ) → ℕ → List X → Result ℕ ℕ → Type 0
IsPlace {X} key k rows place =
    MatchResult place (λ at. (at < length rows) × HoldsAt (λ row. key row ≡ k) rows at)
    (λ at. (at ≤ length rows) × AllWithin (λ row. key row < k) rows 0 at × AllWithin (λ row. k < key row) rows at (length rows))
