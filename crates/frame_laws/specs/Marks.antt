-- Marks by the last eight elements.
use Rattle.std.specs.Prelude.{ℕ, List, [], ◌∷◌, ◌≡◌, ◌<◌, ◌++◌, length, drop, take}
use Rattle.swp_frame.specs.Signal.{Symbol, bit_0, bit_1, break, mark_of, start_mark, no_mark}

-- the elements with a 0 in front of the first one and behind each break, the newest first
abbrev pub with_zeros : List Symbol → List Symbol
with_zeros [] = bit_0 ∷ []
with_zeros (bit_0 ∷ older) = bit_0 ∷ with_zeros older
with_zeros (bit_1 ∷ older) = bit_1 ∷ with_zeros older
with_zeros (break ∷ older) = bit_0 ∷ break ∷ with_zeros older

-- the last eight elements are 0, six 1, 0
abbrev pub EndsStart : List Symbol → Type 0
EndsStart seen = take 8 (with_zeros seen) ≡ bit_0 ∷ bit_1 ∷ bit_1 ∷ bit_1 ∷ bit_1 ∷ bit_1 ∷ bit_1 ∷ bit_0 ∷ []

-- the last eight elements are 0, seven 1
abbrev pub EndsEnd : List Symbol → Type 0
EndsEnd seen = take 8 (with_zeros seen) ≡ bit_1 ∷ bit_1 ∷ bit_1 ∷ bit_1 ∷ bit_1 ∷ bit_1 ∷ bit_1 ∷ bit_0 ∷ []

-- Of all that was read, the newest first, `since` is what came after the last mark, and this mark is a start of frame: it ends
-- where `since` begins, and at no place after it does a mark end.
pub record IsOpenSince (seen since : List Symbol) : Type 0 where
  pub front : List Symbol
  pub whole : seen ≡ since ++ front
  pub starts : mark_of front ≡ start_mark
  pub later : (k : ℕ) → k < length since → mark_of (drop k seen) ≡ no_mark
