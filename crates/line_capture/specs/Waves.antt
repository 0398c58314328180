-- The wave of a line record: the changes of its levels and their times.
use Rattle.std.specs.Prelude.{ℕ, ◌+◌, ◌*◌, ◌<◌, Bool, true, false, List, [], ◌∷◌, ◌++◌, map, Option, Some, None, ◌==◌, ◌/◌, ◌%◌}
use Rattle.line_capture.specs.declared.change.Change.{Change}
use Rattle.line_capture.specs.declared.shape.Shape.{Shape}
use Rattle.line_capture.specs.declared.shape.Shape.TheVariants.{Zero, One, Whole}
use Rattle.line_capture.specs.Reading.{byte_of_shape}

-- S1 and S2 in a quarter of a period
pub record Levels : Type 0 where
  pub s1 : Bool
  pub s2 : Bool

-- a quarter's two bits, S2 above S1
abbrev pub levels_of : ℕ → Levels
levels_of two = record { s1 = two % 2 == 1; s2 = two / 2 == 1 }

-- the four quarters of a byte, the first one highest
abbrev pub quarters : ℕ → List Levels
quarters byte = levels_of (byte / 64 % 4) ∷ levels_of (byte / 16 % 4) ∷ levels_of (byte / 4 % 4) ∷ levels_of (byte % 4) ∷ []

-- the changes where levels come that are other than those before, each in a quarter of a period of sixteen units
abbrev pub is_same_level : Bool → Bool → Bool
is_same_level true true = true
is_same_level false false = true
is_same_level true false = false
is_same_level false true = false

abbrev pub change_to : ℕ → Levels → Levels → List Change
change_to time old new = by (is_same_level old.s1 new.s1) (is_same_level old.s2 new.s2) where
  by : Bool → Bool → List Change
  by true true = []
  by true false = record { time = time; s1 = new.s1; s2 = new.s2 } ∷ []
  by false other = record { time = time; s1 = new.s1; s2 = new.s2 } ∷ []

abbrev pub changes_between : ℕ → ℕ → Levels → List Levels → List Change
changes_between unit time old [] = []
changes_between unit time old (new ∷ rest) = change_to time old new ++ changes_between unit (time + 4 * unit) new rest

abbrev pub quarters_of : List ℕ → List Levels
quarters_of [] = []
quarters_of (byte ∷ bytes) = quarters byte ++ quarters_of bytes

-- the wave of a record whose first period begins at this time: its changes, where both levels are low before it
abbrev pub wave_of : ℕ → ℕ → List ℕ → List Change
wave_of unit begin bytes = changes_between unit begin (record { s1 = false; s2 = false }) (quarters_of bytes)

-- a time lies less than a sixteenth of a period from another
pub record IsNear (unit ideal time : ℕ) : Type 0 where
  pub late : ideal < time + unit
  pub early : time < ideal + unit

-- S1 falls, or is low, and S2 is so from then on
pub record Low : Type 0 where
  pub time : ℕ
  pub s2 : Bool

abbrev pub low_change : Low → Change
low_change low = record { time = low.time; s1 = false; s2 = low.s2 }

-- A period as it was drawn. `begin` is the time of the edge in front of it, where there is one: S1 rises or falls, or only S2 changes
-- between two periods that S1 is high in. S2 may change at will while S1 is low.
pub data DrawnPeriod : Type 0 where
  -- no bit, S1 low
  Off : Low → List Low → DrawnPeriod
  -- no bit, S1 high
  High : Bool → ℕ → DrawnPeriod
  -- a bit of S1 and one of S2
  Bit : Bool → Bool → ℕ → Low → List Low → DrawnPeriod

-- how many sixteenths of the period S1 is high for
abbrev pub high_part : Bool → ℕ
high_part false = 4
high_part true = 12

abbrev pub shape_of_bit : Bool → Shape
shape_of_bit false = Zero
shape_of_bit true = One

abbrev pub byte_drawn : DrawnPeriod → ℕ
byte_drawn (Off fall lows) = 0
byte_drawn (High s2 begin) = byte_of_shape Whole s2
byte_drawn (Bit bit s2 begin fall lows) = byte_of_shape (shape_of_bit bit) s2

-- S1 is high with this S2 from this time on; before, S1 was low, or high with an S2
abbrev pub to_high : Option Bool → Bool → ℕ → List Change
to_high None s2 time = record { time = time; s1 = true; s2 = s2 } ∷ []
to_high (Some true) true time = []
to_high (Some false) false time = []
to_high (Some true) false time = record { time = time; s1 = true; s2 = false } ∷ []
to_high (Some false) true time = record { time = time; s1 = true; s2 = true } ∷ []

abbrev pub to_low : Option Bool → Low → List Change
to_low None fall = []
to_low (Some s2) fall = low_change fall ∷ []

-- the changes of what was drawn, behind S1 low, or high with this S2
abbrev pub changes_drawn : Option Bool → List DrawnPeriod → List Change
changes_drawn old [] = []
changes_drawn old (Off fall lows ∷ rest) = to_low old fall ++ (map low_change lows ++ changes_drawn None rest)
changes_drawn old (High s2 begin ∷ rest) = to_high old s2 begin ++ changes_drawn (Some s2) rest
changes_drawn old (Bit bit s2 begin fall lows ∷ rest) =
    to_high old s2 begin ++ (low_change fall ∷ (map low_change lows ++ changes_drawn None rest))

-- each edge lies less than a sixteenth of a period from where it belongs, and so does the end
abbrev pub AreEdgesNear : ℕ → ℕ → List DrawnPeriod → ℕ → Type 0
AreEdgesNear unit time [] end = IsNear unit time end
AreEdgesNear unit time (Off fall lows ∷ rest) end = IsNear unit time fall.time × AreEdgesNear unit (time + 16 * unit) rest end
AreEdgesNear unit time (High s2 begin ∷ rest) end = IsNear unit time begin × AreEdgesNear unit (time + 16 * unit) rest end
AreEdgesNear unit time (Bit bit s2 begin fall lows ∷ rest) end =
    IsNear unit time begin × IsNear unit (time + high_part bit * unit) fall.time × AreEdgesNear unit (time + 16 * unit) rest end
