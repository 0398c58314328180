-- The schedule that bytes are, below either header: the lines below it, or the first line at which they stop being one that is played.
use Rattle.std.specs.Prelude.{ℕ, ◌+◌, ◌==◌, if◌then◌else◌, List, [], ◌∷◌, ◌++◌, Option, Some, None, Result, Ok, Err}
use Rattle.std.specs.List.{fold}
use Rattle.std.specs.Str.Lines.{lines}
use Rattle.trace_model.specs.declared.line.Header.{Header}
use Rattle.trace_model.specs.declared.line.Line.{Line}
use Rattle.schedule_text.specs.declared.fault.LineFault.{LineFault}
use Rattle.schedule_text.specs.declared.fault.LineFault.TheVariants as fault
use Rattle.schedule_text.specs.declared.read.Read.{Read}
use Rattle.schedule_text.specs.declared.read.Read.TheVariants as read
use Rattle.schedule_text.specs.Lines.{line_of}
use Rattle.lines_told.specs.lines.Below.{misread_below}
use Rattle.lines_told.specs.lines.Plays.{lines_played_of}

-- why bytes stop being a schedule: a line is outside the forms, it damages a frame so that another one is read in its place, or
-- one line more begins than a schedule may have
pub data Stop : Type 0 where
  AtFault : LineFault → Stop
  AtMisread : Stop
  Too_many : Stop

pub record Schedule : Type 0 where
  pub header : Option Header
  -- the lines below the header that aren't skipped
  pub lines : List Line
  -- how many lines there are, up to the one where it stops
  pub count : ℕ
  pub stop : Option Stop

abbrev pub nothing_read : Schedule
nothing_read = record { header = None; lines = []; count = 0; stop = None }

-- the most lines of a schedule
abbrev pub most_lines : ℕ
most_lines = 20000

-- The frame that is read in place of another, where a line behind these damages that one so that its CRC doesn't show it: behind what they
-- come to as they are played. Before a header no line is played.
abbrev pub misread_there : Option Header → List Line → Line → Option (List ℕ)
misread_there None before line = None
misread_there (Some header) before line = misread_below header (lines_played_of header before) line

-- a schedule with one line more, unless that line damages a frame so that another one is read
abbrev pub with_played : Schedule → Line → Option (List ℕ) → Schedule
with_played s line None = record s { lines = s.lines ++ line ∷ []; count = s.count + 1 }
with_played s line (Some other) = record s { count = s.count + 1; stop = Some AtMisread }

-- a schedule with one line more, that says this
abbrev pub and_said : Schedule → Result Read LineFault → Schedule
and_said s (Err f) = record s { count = s.count + 1; stop = Some (AtFault f) }
and_said s (Ok read.Skip) = record s { count = s.count + 1 }
and_said s (Ok (read.Header header)) = record s { header = Some header; count = s.count + 1 }
and_said s (Ok (read.Line line)) = with_played s line (misread_there s.header s.lines line)
and_said s (Ok read.NoMemory) = s

-- a schedule with one line more; behind a line at which it stopped nothing is read
abbrev pub and_line : Schedule → List ℕ → Schedule
and_line s bytes = unless s.stop where
  unless : Option Stop → Schedule
  unless (Some _) = s
  unless None =
      if s.count == most_lines
      then record s { count = s.count + 1; stop = Some Too_many }
      else and_said s (line_of s.header bytes)

abbrev pub and_lines : Schedule → List (List ℕ) → Schedule
and_lines s bytes = fold and_line s bytes

-- where the bytes end without a header, the line after the last is out of order
abbrev pub ended : Schedule → Schedule
ended s = if_running s.stop s.header where
  if_running : Option Stop → Option Header → Schedule
  if_running None None = record s { count = s.count + 1; stop = Some (AtFault fault.Order) }
  if_running None (Some _) = s
  if_running (Some _) _ = s

-- the schedule of bytes
abbrev pub schedule_in : List ℕ → Schedule
schedule_in bytes = ended (and_lines nothing_read (lines bytes))
