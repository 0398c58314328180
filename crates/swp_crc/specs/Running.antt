-- A CRC under way.
use Rattle.std.specs.Prelude.{ℕ, List}
use Rattle.swp_crc.specs.Division.{spelled_number}
use Rattle.swp_crc.specs.Crc.{remainder_of}

-- the number that a register holds after these bytes: their remainder before it is complemented
abbrev pub running_of : List ℕ → ℕ
running_of bytes = spelled_number (remainder_of bytes)
