-- What is read of a schedule that comes in pieces.
use Rattle.std.specs.Prelude.{◌≡◌, ℕ, ◌+◌, ◌-◌, ◌*◌, ◌<◌, ◌≤◌, nat_eq, false, List, [], ◌∷◌, ◌++◌, length, map, None}
use Rattle.std.specs.List.{flat_map, All}
use Rattle.std.specs.Str.Lines.{lines, strip_carriage_return}
use Rattle.swp_tool.specs.declared.replay.Halt.{Halt}
use Rattle.swp_tool.specs.declared.replay.Halt.TheVariants as halt
use Rattle.swp_tool.specs.declared.pieces.Pieces.{Pieces}
use Rattle.swp_tool.specs.Schedules.{AtFault, AtMisread, Too_many, Schedule, nothing_read, and_lines}
use Rattle.swp_tool.specs.Transcripts.{IsTranscript, StopsWithText}
use Rattle.swp_tool.specs.Replays.{HasPlayed, HasFew}

-- the bytes have no LF
abbrev pub LacksLineFeed : List ℕ → Type 0
LacksLineFeed bytes = All (λ b. nat_eq b 10 ≡ false) bytes

-- a line with the LF that ends it
abbrev pub ended_line : List ℕ → List ℕ
ended_line line = line ++ 10 ∷ []

-- lines that have no LF in them
abbrev pub AllLackLineFeed : List (List ℕ) → Type 0
AllLackLineFeed [] = Unit {0}
AllLackLineFeed (line ∷ more) = LacksLineFeed line × AllLackLineFeed more

-- the schedule of these lines, each without a carriage return at its end
abbrev pub schedule_so_far : List (List ℕ) → Schedule
schedule_so_far whole = and_lines nothing_read (map strip_carriage_return whole)

-- the schedule of all lines of the bytes, without a word on whether it may end there
abbrev pub schedule_read : List ℕ → Schedule
schedule_read bytes = and_lines nothing_read (lines bytes)

-- The bytes are whole lines and the front of one that is kept; the whole lines are played.
pub record HasRead (p : Pieces) (bytes written : List ℕ) : Type 0 where
  pub whole : List (List ℕ)
  pub cut : bytes ≡ flat_map ended_line whole ++ p.partial.items
  pub lack : AllLackLineFeed whole
  pub partial_lacks : LacksLineFeed p.partial.items
  pub played : HasPlayed p.replay (schedule_so_far whole) written

-- no more is kept of a line than shows that it is too long, and none of a line too many
pub record IsReading (p : Pieces) : Type 0 where
  pub few : HasFew p.replay
  pub short : length p.partial.items ≤ 9001
  pub begun : 0 < length p.partial.items → p.replay.count < 20000

-- No line of these bytes is at fault: their whole lines are a schedule that goes on, and the line that has not ended is neither
-- one too many nor known to be too long.
pub record IsRunning (bytes : List ℕ) : Type 0 where
  pub whole : List (List ℕ)
  pub rest : List ℕ
  pub cut : bytes ≡ flat_map ended_line whole ++ rest
  pub lack : AllLackLineFeed whole
  pub rest_lacks : LacksLineFeed rest
  pub running : (schedule_so_far whole).stop ≡ None
  pub few : (schedule_so_far whole).count ≤ 20000
  pub begun : 0 < length rest → (schedule_so_far whole).count < 20000
  pub short : length rest ≤ 9001

-- of the input all but what is left was read: at most so many bytes behind a front in which no line is at fault
pub record IsReadAhead (most : ℕ) (input left : List ℕ) : Type 0 where
  pub front : List ℕ
  pub behind : List ℕ
  pub input_is : input ≡ front ++ (behind ++ left)
  pub few : length behind ≤ most
  pub running : IsRunning front

-- how many bytes may still come before the lines are too many or one is too long
abbrev pub bytes_left : Pieces → ℕ
bytes_left p = (20000 - p.replay.count) * 9003 + (9002 - length p.partial.items)

-- Of a piece all was read but what is left, one byte of it at least, and so many bytes fewer may come.
pub record HasFed (old new : Pieces) (piece left : List ℕ) : Type 0 where
  pub front : List ℕ
  pub piece_is : front ++ left ≡ piece
  pub read : (bytes written : List ℕ) → HasRead old bytes written → HasRead new (bytes ++ front) written
  pub fewer : bytes_left new + length front ≤ bytes_left old
  pub some : 0 < length piece → length left < length piece

-- a text is the transcript of some of the first lines of the bytes
pub record IsFrontTranscript (bytes text : List ℕ) : Type 0 where
  pub front : List (List ℕ)
  pub back : List (List ℕ)
  pub lines_are : lines bytes ≡ front ++ back
  pub transcript : IsTranscript (and_lines nothing_read front) text

-- a text is the transcript of all lines of the bytes that their LF ends
pub record IsWholeTranscript (bytes text : List ℕ) : Type 0 where
  pub whole : List (List ℕ)
  pub rest : List ℕ
  pub cut : bytes ≡ flat_map ended_line whole ++ rest
  pub lack : AllLackLineFeed whole
  pub rest_lacks : LacksLineFeed rest
  pub transcript : IsTranscript (schedule_so_far whole) text

-- However the bytes go on, their schedule stops here, with this text as its transcript.
abbrev pub Halts : Halt → ℕ → List ℕ → List ℕ → Type 0
Halts (halt.Fault why) count bytes text = (rest : List ℕ) → StopsWithText (bytes ++ rest) (AtFault why) (count + 1) text
Halts halt.Undetected count bytes text = (rest : List ℕ) → StopsWithText (bytes ++ rest) AtMisread (count + 1) text
Halts halt.TooMany count bytes text = (rest : List ℕ) → StopsWithText (bytes ++ rest) Too_many (count + 1) text
Halts halt.NoMemory count bytes text = (rest : List ℕ) → IsFrontTranscript (bytes ++ rest) text

-- The same where the bytes have ended.
abbrev pub HaltsAtEnd : Halt → ℕ → List ℕ → List ℕ → Type 0
HaltsAtEnd (halt.Fault why) count bytes text = StopsWithText bytes (AtFault why) (count + 1) text
HaltsAtEnd halt.Undetected count bytes text = StopsWithText bytes AtMisread (count + 1) text
HaltsAtEnd halt.TooMany count bytes text = ⊥
HaltsAtEnd halt.NoMemory count bytes text = IsFrontTranscript bytes text
