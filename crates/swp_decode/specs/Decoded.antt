-- What is written for a line record.
use Rattle.std.specs.Prelude.{ℕ, ◌+◌, Bool, List, [], ◌∷◌, ◌++◌, length, reverse, codes, decimal, Option, Some, None}
use Rattle.swp_line.specs.Periods.{period_at}
use Rattle.swp_frame.specs.Signal.{Symbol, symbol_of}
use Rattle.swp_frame.specs.Verdicts.{verdict}
use Rattle.swp_decode.specs.declared.line.Wire.{Wire}
use Rattle.swp_decode.specs.declared.line.Wire.TheVariants.{S1, S2}
use Rattle.swp_decode.specs.Readings.{ReadSymbol, symbol_on, with_reading, signal, symbols, start_of}
use Rattle.swp_decode.specs.Texts.{verdict_line, line_feed}

-- the line that comes with a new reading on a wire, after the older ones
abbrev pub line_with : Wire → Option Symbol → List ReadSymbol → List ℕ
line_with wire None older = []
line_with wire (Some symbol) older = verdict_line wire (start_of older) (verdict (symbol ∷ symbols older))

-- the lines that come with further bits on a wire, the oldest first, at this place and those behind it
abbrev pub lines_on : Wire → ℕ → List Bool → List ReadSymbol → List ℕ
lines_on wire place [] older = []
lines_on wire place (bit ∷ bits) older =
    line_with wire (Some (symbol_of bit)) older ++ lines_on wire (place + 1) bits (with_reading (Some (symbol_of bit)) place older)

-- the line that the newest byte of a record, the newest first, gives on a wire, if it gives one
abbrev pub line_at : Wire → List ℕ → List ℕ
line_at wire [] = []
line_at wire (byte ∷ older) = line_with wire (symbol_on wire (period_at byte)) (signal wire older)

-- the lines of a record, the newest byte first: in the order of the byte that ended them, S1 before S2
abbrev pub transcript : List ℕ → List ℕ
transcript [] = []
transcript (byte ∷ older) = transcript older ++ line_at S1 (byte ∷ older) ++ line_at S2 (byte ∷ older)

-- the lines that come with further bytes, the oldest first, after the older ones, the newest first
abbrev pub lines_with : List ℕ → List ℕ → List ℕ
lines_with older [] = []
lines_with older (byte ∷ bytes) = line_at S1 (byte ∷ older) ++ line_at S2 (byte ∷ older) ++ lines_with (byte ∷ older) bytes

-- the lines of a record, its oldest byte first
abbrev pub record_lines : List ℕ → List ℕ
record_lines bytes = transcript (reverse bytes)

-- how many bytes were read
abbrev pub last_line : ℕ → List ℕ
last_line count = codes "done " ++ decimal count ++ line_feed

-- what is written for a record, its oldest byte first: its lines, and how many bytes it has
abbrev pub decoded : List ℕ → List ℕ
decoded bytes = record_lines bytes ++ last_line (length bytes)
