-- The units of a byte link.
use Rattle.std.specs.Prelude.{ℕ, ◌+◌, ◌-◌, ◌*◌, ◌/◌, ◌%◌, ◌==◌, ◌≡◌, nat_le, ◌&&◌, Bool, true, false, List, [], ◌∷◌, ◌++◌, length, take, slice_index}
use Rattle.std.specs.Prelude.{if◌then◌else◌}
use Rattle.swp_base.specs.DataUnits.{IsLpdu}
use Rattle.swp_base.specs.declared.link_terms.FrameFault.TheVariants.{Length, Crc}
use Rattle.swp_crc.specs.Crc.{crc_of}
use Rattle.byte_link.specs.declared.unit.Unit as unit
use Rattle.byte_link.specs.declared.unit.Unit.TheVariants.{Nothing, Tick, Frame, Refused}

-- the unit of an LPDU: its length in two bytes, its bytes, and their CRC in two bytes, the high byte of each first
abbrev pub unit_of : List ℕ → List ℕ
unit_of lpdu = 0 ∷ length lpdu ∷ lpdu ++ crc_of lpdu / 256 ∷ crc_of lpdu % 256 ∷ []

-- whether these bytes are a whole unit: a length of 0 alone, or a length from 1 to 30, so many bytes, and two more
abbrev pub is_whole : List ℕ → Bool
is_whole [] = false
is_whole (high ∷ []) = false
is_whole (high ∷ low ∷ bytes) =
    let count = 256 * high + low in
    if count == 0 then true else nat_le count 30 && (length bytes == count + 2)

-- what bytes with their CRC behind them say
abbrev pub checked : List ℕ → unit.Unit
checked bytes =
    let body = take (length bytes - 2) bytes in
    let want = crc_of body in
    let got = 256 * slice_index bytes (length bytes - 2) + slice_index bytes (length bytes - 1) in
    if want == got then Frame body else Refused (Crc want got)

-- What the last of these bytes, all that came since the last whole unit, gives. A length above 30 is refused where it is
-- complete, and nothing comes after it.
abbrev pub unit_said : List ℕ → unit.Unit
unit_said [] = Nothing
unit_said (high ∷ []) = Nothing
unit_said (high ∷ low ∷ []) =
    let count = 256 * high + low in
    if count == 0 then Tick else if nat_le count 30 then Nothing else Refused (Length (8 * count))
unit_said (high ∷ low ∷ byte ∷ bytes) =
    if is_whole (high ∷ low ∷ byte ∷ bytes) then checked (byte ∷ bytes) else Nothing

-- these bytes begin with a whole unit that says this LPDU
pub record BeginsWithUnit (bytes lpdu : List ℕ) : Type 0 where
  pub rest : List ℕ
  pub later : List ℕ
  pub front : bytes ≡ 0 ∷ length lpdu ∷ rest ++ later
  pub long : length rest ≡ length lpdu + 2
  pub said : checked rest ≡ Frame lpdu
  pub sized : IsLpdu lpdu
