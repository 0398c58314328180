-- What is read of a line as its changes come: the record of their periods. All times are in one unit of the caller's.
use Rattle.std.specs.Prelude.{ℕ, zero, suc, ◌+◌, ◌-◌, ◌*◌, ◌/◌, Bool, true, false, ◌&&◌, if◌then◌else◌, nat_lt, nat_le}
use Rattle.std.specs.Prelude.{List, [], ◌∷◌, ◌++◌, replicate, option_to_list, Option, Some, None}
use Rattle.line_capture.specs.declared.change.Change.{Change}
use Rattle.line_capture.specs.declared.change.Piece.{Piece}
use Rattle.line_capture.specs.declared.shape.Shape.{Shape}
use Rattle.line_capture.specs.declared.shape.Shape.TheVariants.{Zero, One, Whole, Neither}

-- what is known of a line: a sixteenth of a bit period, when the last change was, the levels since then, what S2 was as the last
-- period of the present stretch of S1 that began was looked at, when that stretch began, until when S1 is known to have been high
-- in it, and when the next period of it is looked at
pub record Line : Type 0 where
  pub unit : ℕ
  pub at : ℕ
  pub s1 : Bool
  pub s2 : Bool
  pub held : Option Bool
  pub rise : ℕ
  pub until : ℕ
  pub due : ℕ

-- the byte of a period of this shape; one that is neither bit is no period of a line record
abbrev pub byte_of_shape : Shape → Bool → ℕ
byte_of_shape Zero false = 0x40
byte_of_shape Zero true = 0xC0
byte_of_shape One false = 0x54
byte_of_shape One true = 0xFC
byte_of_shape Whole false = 0x55
byte_of_shape Whole true = 0xFF
byte_of_shape Neither false = 0x50
byte_of_shape Neither true = 0xF0

-- the bit whose period is so long, and has S1 high for so long: 0 from two sixteenths on and below seven, 1 above nine and up to fourteen
abbrev pub share : ℕ → ℕ → Shape
share high whole =
    if nat_le (2 * whole) (16 * high) && nat_lt (16 * high) (7 * whole) then Zero
    else if nat_lt (9 * whole) (16 * high) && nat_le (16 * high) (14 * whole) then One
    else Neither

-- S1 was high for no more than a period, and high and low together for about one
abbrev pub is_lone : ℕ → ℕ → ℕ → Bool
is_lone unit high whole = nat_le high (16 * unit) && nat_lt (11 * unit) whole && nat_lt whole (21 * unit)

-- the last period that began while S1 was high: S1 was high for `high` in all and for `tail` of that period, and then low for `low`
abbrev pub shape_of : ℕ → ℕ → ℕ → ℕ → Shape
shape_of unit high tail low =
    if is_lone unit high (high + low) then share high (high + low)
    else if nat_lt low (14 * unit) then share (16 * unit - low) (16 * unit)
    else if nat_lt (14 * unit) tail then Whole
    else share tail (16 * unit)

-- how many periods of a stretch of S1 low have no bit
abbrev pub periods_off : ℕ → ℕ → ℕ
periods_off unit low = (low + 2 * unit) / (16 * unit)

-- the bytes of a stretch of S1 low, from the last period on that began while S1 was high
abbrev pub stretch_bytes : ℕ → Option Bool → ℕ → ℕ → ℕ → List ℕ
stretch_bytes unit None high tail low = replicate (periods_off unit low) 0
stretch_bytes unit (Some s2) high tail low =
    byte_of_shape (shape_of unit high tail low) s2
    ∷ (if is_lone unit high (high + low) then [] else replicate (periods_off unit low) 0)

-- the same of a line that is low up to this time
abbrev pub low_bytes : Line → ℕ → List ℕ
low_bytes l time = stretch_bytes l.unit l.held (l.until - l.rise) (l.until + 18 * l.unit - l.due) (time - l.until)

-- how many periods are looked at up to this time, where S1 stays high
abbrev pub looks : Line → ℕ → ℕ
looks l time = if nat_lt time l.due then 0 else (time - l.due) / (16 * l.unit) + 1

-- a period that S1 is high throughout
abbrev pub held_period : Option Bool → List ℕ
held_period None = []
held_period (Some s2) = byte_of_shape Whole s2 ∷ []

-- so many periods are looked at, and S2 is so at each: all but the last are known to be high throughout
abbrev pub looked_bytes : Option Bool → Bool → ℕ → List ℕ
looked_bytes held s2 zero = []
looked_bytes held s2 (suc n) = held_period held ++ replicate n (byte_of_shape Whole s2)

abbrev pub looked_held : Option Bool → Bool → ℕ → Option Bool
looked_held held s2 zero = held
looked_held held s2 (suc n) = Some s2

-- a change makes these bytes known
abbrev pub change_bytes : Line → Change → List ℕ
change_bytes l change =
    if l.s1 then looked_bytes l.held l.s2 (looks l change.time)
    else if change.s1 then low_bytes l change.time
    else []

-- the line after a change
abbrev pub after_high : Line → ℕ → Line
after_high l time = record l {
  held = looked_held l.held l.s2 (looks l time);
  until = time;
  due = l.due + 16 * l.unit * looks l time;
}

abbrev pub after_rise : Line → ℕ → Line
after_rise l time = record l { held = None; rise = time; until = time; due = time + 2 * l.unit }

abbrev pub with_levels : Change → Line → Line
with_levels change l = record l { at = change.time; s1 = change.s1; s2 = change.s2 }

abbrev pub after_change : Line → Change → Line
after_change l change =
    with_levels change (if l.s1 then after_high l change.time else if change.s1 then after_rise l change.time else l)

-- the line ends at this time: the last period is left out where S1 was high for less than half of it
abbrev pub end_bytes : Line → ℕ → List ℕ
end_bytes l time =
    if l.s1
    then (if nat_lt (time + 10 * l.unit) (l.due + 16 * l.unit * looks l time)
    then looked_bytes l.held l.s2 (looks l time)
    else held_period l.held ++ replicate (looks l time) (byte_of_shape Whole l.s2))
    else low_bytes l time

-- a line that is low from this time on
abbrev pub begun_line : ℕ → ℕ → Line
begun_line unit time = record {
  unit = unit;
  at = time;
  s1 = false;
  s2 = false;
  held = None;
  rise = time;
  until = time;
  due = time + 2 * unit;
}

-- what the changes make known from now on, where the last ends the line
abbrev pub line_bytes_from : Line → List Change → ℕ → List ℕ
line_bytes_from l [] end = end_bytes l end
line_bytes_from l (change ∷ changes) end = change_bytes l change ++ line_bytes_from (after_change l change) changes end

-- the line after these changes
abbrev pub after_changes : Line → List Change → Line
after_changes l [] = l
after_changes l (change ∷ changes) = after_changes (after_change l change) changes

-- the record of a line that is low at first, with a sixteenth of its period, the time that it begins at, its changes and its end
abbrev pub record_of : ℕ → ℕ → List Change → ℕ → List ℕ
record_of unit begin changes end = line_bytes_from (begun_line unit begin) changes end

-- the bytes of a piece
abbrev pub bytes_of : Piece → List ℕ
bytes_of piece = option_to_list piece.first ++ replicate piece.times piece.byte
