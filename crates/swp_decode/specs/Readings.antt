-- What a line record is in one direction: symbols, each at the place of its byte. A list has the newest first.
use Rattle.std.specs.Prelude.{ℕ, ◌+◌, ◌≡◌, Bool, List, [], ◌∷◌, length, Option, Some, None, unwrap_or}
use Rattle.swp_line.specs.declared.period.Period.{Period}
use Rattle.swp_line.specs.declared.period.Period.TheVariants.{Bits, Suspended, ResumeAsked, Deactivated}
use Rattle.swp_line.specs.Periods.{period_at}
use Rattle.swp_frame.specs.Signal.{Symbol, bit_0, bit_1, break, symbol_of, Mark, no_mark, start_mark, end_mark, break_mark, mark_of}
use Rattle.swp_decode.specs.declared.line.Wire.{Wire}
use Rattle.swp_decode.specs.declared.line.Wire.TheVariants.{S1, S2}

-- a symbol, and the place of the byte that it was read from
pub record ReadSymbol : Type 0 where
  pub place : ℕ
  pub symbol : Symbol

-- What a period is in one direction: a bit, a break where the line is deactivated or the byte is no period, or nothing.
abbrev pub symbol_on : Wire → Option Period → Option Symbol
symbol_on S1 (Some (Bits s1 s2)) = Some (symbol_of s1)
symbol_on S2 (Some (Bits s1 s2)) = Some (symbol_of s2)
symbol_on wire (Some Suspended) = None
symbol_on wire (Some ResumeAsked) = None
symbol_on wire (Some Deactivated) = Some break
symbol_on wire None = Some break

abbrev pub with_reading : Option Symbol → ℕ → List ReadSymbol → List ReadSymbol
with_reading None place older = older
with_reading (Some symbol) place older = record { place = place; symbol = symbol } ∷ older

-- what is read in one direction with further bits, the oldest first, at this place and those behind it
abbrev pub readings_on : ℕ → List Bool → List ReadSymbol → List ReadSymbol
readings_on place [] older = older
readings_on place (bit ∷ bits) older = readings_on (place + 1) bits (with_reading (Some (symbol_of bit)) place older)

-- each of these bytes is a period with bits, and in one direction they are these bits, in the same order
abbrev pub AreBits : Wire → List ℕ → List Bool → Type 0
AreBits wire [] [] = Unit {0}
AreBits wire [] (bit ∷ bits) = ⊥
AreBits wire (byte ∷ bytes) [] = ⊥
AreBits wire (byte ∷ bytes) (bit ∷ bits) = (symbol_on wire (period_at byte) ≡ Some (symbol_of bit)) × AreBits wire bytes bits

-- what the bytes of a record, the newest first, are in one direction
abbrev pub signal : Wire → List ℕ → List ReadSymbol
signal wire [] = []
signal wire (byte ∷ older) = with_reading (symbol_on wire (period_at byte)) (length older) (signal wire older)

abbrev pub symbols : List ReadSymbol → List Symbol
symbols [] = []
symbols (reading ∷ older) = reading.symbol ∷ symbols older

abbrev pub front_after : Symbol → ℕ → Option ℕ → Option ℕ
front_after bit_0 place before = Some place
front_after bit_1 place before = Some (unwrap_or before place)
front_after break place before = None

-- Where the run of 1 bits read last begins with the 0 in front of it: the place of this 0, or of the first 1 where the 0 was
-- only read in, at the beginning or behind a break.
abbrev pub front_of : List ReadSymbol → Option ℕ
front_of [] = None
front_of (reading ∷ older) = front_after reading.symbol reading.place (front_of older)

abbrev pub start_after : Mark → Option ℕ → ℕ → ℕ
start_after start_mark front before = unwrap_or front 0
start_after end_mark front before = before
start_after break_mark front before = before
start_after no_mark front before = before

-- the place of the first bit of the last start of frame
abbrev pub start_of : List ReadSymbol → ℕ
start_of [] = 0
start_of (reading ∷ older) = start_after (mark_of (symbols (reading ∷ older))) (front_of older) (start_of older)
