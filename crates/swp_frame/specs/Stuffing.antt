-- The bits of a frame.
use Rattle.std.specs.Prelude.{ℕ, ◌+◌, ◌/◌, ◌%◌, ◌==◌, Bool, true, false, List, [], ◌∷◌, ◌++◌, Option, Some, None, if◌then◌else◌}
use Rattle.swp_base.specs.Bits.{bits_of}
use Rattle.swp_crc.specs.Crc.{crc_of}

-- the bits with a 0 put in after each five 1 bits in a row, where so many 1 bits in a row came before
abbrev pub stuffed_after : ℕ → List Bool → List Bool
stuffed_after ones [] = []
stuffed_after ones (false ∷ bits) = false ∷ stuffed_after 0 bits
stuffed_after ones (true ∷ bits) = if ones == 4 then true ∷ false ∷ stuffed_after 0 bits else true ∷ stuffed_after (ones + 1) bits

-- the bits with a 0 put in after each five 1 bits in a row; the count starts anew after each 0, also one put in
abbrev pub stuffed : List Bool → List Bool
stuffed bits = stuffed_after 0 bits

-- the run of 1 bits after these bits, where so many stood before; none where the fifth 1 bit in a row is among them
abbrev pub run_below_five : ℕ → List Bool → Option ℕ
run_below_five ones [] = Some ones
run_below_five ones (false ∷ bits) = run_below_five 0 bits
run_below_five ones (true ∷ bits) = if ones == 4 then None else run_below_five (ones + 1) bits

-- the start of a frame
abbrev pub start_of_frame : List Bool
start_of_frame = false ∷ true ∷ true ∷ true ∷ true ∷ true ∷ true ∷ false ∷ []

-- the end of a frame
abbrev pub end_of_frame : List Bool
end_of_frame = false ∷ true ∷ true ∷ true ∷ true ∷ true ∷ true ∷ true ∷ []

-- the bytes of an LPDU and those of its CRC, the high one first
abbrev pub with_crc : List ℕ → List ℕ
with_crc lpdu = lpdu ++ crc_of lpdu / 256 ∷ crc_of lpdu % 256 ∷ []

-- the frame of an LPDU
abbrev pub frame_of : List ℕ → List Bool
frame_of lpdu = start_of_frame ++ stuffed (bits_of (with_crc lpdu)) ++ end_of_frame
