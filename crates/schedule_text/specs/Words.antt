-- The words of a line of text.
use Rattle.std.specs.Prelude.{ℕ, ◌==◌, nat_lt, List, length, filter}
use Rattle.std.specs.List.{slice_split, join_with_byte}

-- the parts between spaces that aren't empty
abbrev pub words : List ℕ → List (List ℕ)
words bytes = filter (λ word. nat_lt 0 (length word)) (slice_split (λ b. b == 32) bytes)

-- words with one space between them
abbrev pub spaced : List (List ℕ) → List ℕ
spaced ws = join_with_byte 32 ws
