-- Many bits that are read at once.
use Rattle.std.specs.Prelude.{ℕ, zero, suc, ◌==◌, ◌≡◌, Bool, true, false, List, [], ◌∷◌}
use Rattle.swp_base.specs.Bits.{bit}
use Rattle.swp_crc.specs.Division.{spelled_number}
use Rattle.swp_frame.specs.declared.word.Word.{Word}
use Rattle.swp_frame.specs.declared.word.Part.{Part}

-- so many of the lowest bits of a number, the most significant first
unfoldable pub low_bits : ℕ → ℕ → List Bool
low_bits zero number = []
low_bits (suc n) number = bit number n ∷ low_bits n number

-- with which of these bits, the oldest first, a mark ends where so many 1 bits stand before them: each directly behind six
abbrev pub places_of_marks : ℕ → List Bool → List Bool
places_of_marks ones [] = []
places_of_marks ones (true ∷ bits) = (ones == 6) ∷ places_of_marks (suc ones) bits
places_of_marks ones (false ∷ bits) = (ones == 6) ∷ places_of_marks 0 bits

-- which of these bits, the oldest first, were put in where so many 1 bits stand before them: each 0 directly behind five
abbrev pub places_put_in : ℕ → List Bool → List Bool
places_put_in ones [] = []
places_put_in ones (true ∷ bits) = false ∷ places_put_in (suc ones) bits
places_put_in ones (false ∷ bits) = (ones == 5) ∷ places_put_in 0 bits

-- the run of 1 bits after these bits, where so many stood before
abbrev pub run_after : ℕ → List Bool → ℕ
run_after ones [] = ones
run_after ones (true ∷ bits) = run_after (suc ones) bits
run_after ones (false ∷ bits) = run_after 0 bits

-- the bits of a word, the oldest first
abbrev pub word_bits : Word → List Bool
word_bits word = low_bits 64 word.bits

-- the bits of a part of a word, the oldest first
abbrev pub part_bits : Part → List Bool
part_bits part = low_bits part.width part.bits

-- the word says which of its bits end a mark, and which were put in, where so many 1 bits stand before it
pub record IsWordBehind (word : Word) (ones : ℕ) : Type 0 where
  pub marks : word.marks ≡ spelled_number (places_of_marks ones (word_bits word))
  pub put_in : word.put_in ≡ spelled_number (places_put_in ones (word_bits word))

-- the part says which of its bits were put in, where so many 1 bits stand before it
abbrev pub IsPartBehind : Part → ℕ → Type 0
IsPartBehind part ones = part.put_in ≡ spelled_number (places_put_in ones (part_bits part))
