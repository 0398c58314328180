-- What a replay has of the schedule that it reads.
use Rattle.std.specs.Prelude.{◌≡◌, ℕ, ◌+◌, ◌*◌, ◌≤◌, List, [], ◌++◌, replicate, Option, Some, None, IsSome}
use Rattle.std.specs.Option.{ForSome}
use Rattle.trace_model.specs.declared.line.Header.{Header}
use Rattle.trace_model.specs.declared.line.Line.{Line}
use Rattle.schedule_text.specs.Entries.{entry_lines}
use Rattle.lines_told.specs.lines.Plays.{Play, lines_said, plays_of, rounds_played, schedule_told, told_of_rounds}
use Rattle.lines_told.specs.lines.Plays.Play.{Round}
use Rattle.world.specs.declared.world_steps.World.{World}
use Rattle.world.specs.declared.fault.WorldFault.{WorldFault}
use Rattle.world.specs.declared.fault.WorldFault.TheVariants as fault
use Rattle.world.specs.Worlds.{IsWorldAt, world_header}
use Rattle.swp_tool.specs.declared.replay.Replay.{Replay}
use Rattle.swp_tool.specs.declared.replay.Halt.{Halt}
use Rattle.swp_tool.specs.declared.replay.Halt.TheVariants as halt
use Rattle.swp_tool.specs.Schedules.{Schedule, AtFault, AtMisread, and_line}

-- A world stands behind what was played of these lines below this header, and this text is the transcript of what became of them.
pub record Runs (w : World) (header : Header) (lines : List Line) (text : List ℕ) : Type 0 where
  pub stands : IsWorldAt w header (plays_of header lines)
  pub text_is : text ≡ entry_lines (schedule_told header lines)

-- there is a world where there is a header
abbrev pub IsAt : Option World → Option Header → List Line → List ℕ → Type 0
IsAt None None lines text = (lines ≡ []) × (text ≡ [])
IsAt (Some w) (Some header) lines text = Runs w header lines text
IsAt None (Some header) lines text = ⊥
IsAt (Some w) None lines text = ⊥

-- A replay has read these lines of a schedule. What was written of its transcript, and what is gathered, is the transcript.
pub record HasPlayed (r : Replay) (s : Schedule) (written : List ℕ) : Type 0 where
  pub running : s.stop ≡ None
  pub count_is : r.count ≡ s.count
  pub at : IsAt r.world s.header s.lines (written ++ r.text.items)

-- a world was stepped by at most this many lines, and had at most 20,000 rounds for each of them
pub record WasStepped (w : World) (most : ℕ) : Type 0 where
  pub plays : List Play
  pub stands : IsWorldAt w (world_header w) plays
  pub few : lines_said plays ≤ most
  pub rounds : rounds_played plays ≤ 20000 * most

-- so many rounds more are no more than a schedule has
abbrev pub HasRoundsLeft : World → ℕ → Type 0
HasRoundsLeft w most = (plays : List Play) × IsWorldAt w (world_header w) plays × (rounds_played plays + most ≤ 400000000)

-- A world stands so many rounds behind these plays, and what they tell was gathered: the text was this before, and is this now.
pub record HasGoneThrough (w : World) (header : Header) (plays : List Play) (rounds : ℕ) (before text : List ℕ) : Type 0 where
  pub stands : IsWorldAt w header (plays ++ replicate rounds Round)
  pub text_is : text ≡ before ++ entry_lines (told_of_rounds header plays rounds)

-- a replay has read at most 20,000 lines, and its world was stepped by no more than it has read
pub record HasFew (r : Replay) : Type 0 where
  pub count : r.count ≤ 20000
  pub steps : ForSome r.world (λ w. WasStepped w r.count)

-- why a replay halts where the world did
abbrev pub halt_of : WorldFault → Halt
halt_of (fault.Undetected sent read) = halt.Undetected
halt_of fault.NoMemory = halt.NoMemory

-- A replay halted at a line of its world, at which this frame is read in place of another, or none; nothing is said where there
-- was no memory.
abbrev pub HaltsOn : Halt → Option (List ℕ) → Type 0
HaltsOn (halt.Fault why) other = ⊥
HaltsOn halt.Undetected other = IsSome other
HaltsOn halt.TooMany other = ⊥
HaltsOn halt.NoMemory other = Unit {0}

-- A replay halted at the line with which its schedule becomes this one: that stops there, and here is why; nothing is said where
-- there was no memory.
abbrev pub HaltsBefore : Halt → Schedule → Type 0
HaltsBefore (halt.Fault why) s = s.stop ≡ Some (AtFault why)
HaltsBefore halt.Undetected s = s.stop ≡ Some AtMisread
HaltsBefore halt.TooMany s = ⊥
HaltsBefore halt.NoMemory s = Unit {0}

-- a replay halted at a line
abbrev pub HaltsAt : Halt → Schedule → List ℕ → Type 0
HaltsAt why s bytes = HaltsBefore why (and_line s bytes)
