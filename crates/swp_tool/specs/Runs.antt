-- What a run of the program has read and written, by the status with which it ended.
use Rattle.std.specs.Prelude.{◌≡◌, ℕ, ◌+◌, ◌≤◌, ◌⊎◌, Bool, true, false, IsTrue, List, [], ◌∷◌, ◌++◌, length, take, codes}
use Rattle.swp_tool.specs.declared.pieces.Pieces.{Pieces}
use Rattle.swp_words.specs.declared.status.Status.{Status}
use Rattle.swp_words.specs.declared.status.Status.TheVariants as status
use Rattle.swp_tool.specs.declared.replay.Halt.{Halt}
use Rattle.swp_tool.specs.declared.replay.Halt.TheVariants as halt
use Rattle.swp_tool.specs.Schedules.{Stop, AtFault, AtMisread, Too_many}
use Rattle.swp_tool.specs.Transcripts.{IsDoneText, StopsWithText}
use Rattle.swp_tool.specs.Generated.{IsGen}
use Rattle.swp_tool.specs.Pieces.{HasRead, IsFrontTranscript, IsWholeTranscript, IsRunning}
use Rattle.swp_words.specs.Ends.{AskForAnEnd}

-- the status of a replay that halts behind so many whole lines
abbrev pub status_of : Halt → ℕ → Status
status_of (halt.Fault why) count = status.BadSchedule (count + 1) why
status_of halt.Undetected count = status.Undetected (count + 1)
status_of halt.TooMany count = status.TooMany (count + 1)
status_of halt.NoMemory count = status.NoMemory

-- the status of a schedule that stops at this line
abbrev pub status_at : Stop → ℕ → Status
status_at (AtFault why) line = status.BadSchedule line why
status_at AtMisread line = status.Undetected line
status_at Too_many line = status.TooMany line

-- there is a text of this kind, and a sink that tells what was written says that it was appended
abbrev pub AppendsText : Bool → (List ℕ → Type 0) → List ℕ → List ℕ → Type 0
AppendsText tells P before after = (text : List ℕ) × P text × (IsTrue tells → after ≡ before ++ text)

-- a text that the program may write on the way: the transcript of some of the first lines, or the whole one
abbrev pub IsSomeTranscript : List ℕ → List ℕ → Type 0
IsSomeTranscript input text = IsFrontTranscript input text ⊎ IsDoneText input text

-- A write failed: a front of such a text was written. Of what was read, where this is left, all but the piece in hand, of at most so many
-- bytes and no more than the last read gave, had been played and its transcript written before; so nothing was read behind the write that failed.
pub record IsCutShort (most given : ℕ) (input left front : List ℕ) : Type 0 where
  pub bytes : List ℕ
  pub piece : List ℕ
  pub input_is : input ≡ bytes ++ (piece ++ left)
  pub few : length piece ≤ most
  pub at_once : length piece ≤ given
  pub written : List ℕ
  pub whole : IsWholeTranscript bytes written
  pub behind : List ℕ
  pub n : ℕ
  pub some : IsSomeTranscript input (written ++ behind)
  pub front_is : front ≡ written ++ take n behind

-- the transcript of all whole lines among the bytes that were read, where these are left; no line of them is at fault
abbrev pub IsTranscriptOfRead : List ℕ → List ℕ → List ℕ → Type 0
IsTranscriptOfRead input left text = (bytes : List ℕ) × (input ≡ bytes ++ left) × IsWholeTranscript bytes text × IsRunning bytes

-- The transcript of some of the first lines, of the input and of its bytes that were read, where these are left: no line is told that wasn't read.
pub record IsFrontOfRead (input left text : List ℕ) : Type 0 where
  pub bytes : List ℕ
  pub input_is : input ≡ bytes ++ left
  pub read : IsFrontTranscript bytes text
  pub front : IsFrontTranscript input text

-- How a replay of this input ended. The transcript of the lines before the fault was written, on Done all of it; on a fault of writing,
-- a front of it, all of the pieces before the last among it. Whether the sink tells what was written comes first: without it there is
-- such a text, and nothing is said of where it went. Then come the bytes of the last read that gave some.
abbrev pub Replayed : Bool → ℕ → Status → List ℕ → List ℕ → List ℕ → List ℕ → Type 0
Replayed tells given status.Done input left before after = (left ≡ []) × AppendsText tells (IsDoneText input) before after
Replayed tells given (status.BadSchedule line why) input left before after = AppendsText tells (StopsWithText input (AtFault why) line) before after
Replayed tells given (status.Undetected line) input left before after = AppendsText tells (StopsWithText input AtMisread line) before after
Replayed tells given (status.TooMany count) input left before after = AppendsText tells (StopsWithText input Too_many count) before after
Replayed tells given status.ReadFault input left before after = AppendsText tells (IsTranscriptOfRead input left) before after
Replayed tells given status.WriteFault input left before after = AppendsText tells (IsCutShort 4096 given input left) before after
Replayed tells given status.NoMemory input left before after = AppendsText tells (IsFrontOfRead input left) before after
Replayed tells given status.BadWords input left before after = ⊥
Replayed tells given status.NvFault input left before after = ⊥
Replayed tells given (status.BadImage why) input left before after = ⊥

-- how a replay can end, whatever it reads
abbrev pub IsOfReplay : Status → Type 0
IsOfReplay status.Done = Unit {0}
IsOfReplay (status.BadSchedule line why) = Unit {0}
IsOfReplay (status.Undetected line) = Unit {0}
IsOfReplay status.ReadFault = Unit {0}
IsOfReplay status.WriteFault = Unit {0}
IsOfReplay status.NoMemory = Unit {0}
IsOfReplay (status.TooMany count) = Unit {0}
IsOfReplay status.BadWords = ⊥
IsOfReplay status.NvFault = ⊥
IsOfReplay (status.BadImage why) = ⊥

-- A replay under way: it has read a front of the input and written the transcript of its whole lines.
pub record IsUnderWay (tells : Bool) (p : Pieces) (input left before after : List ℕ) : Type 0 where
  pub bytes : List ℕ
  pub text : List ℕ
  pub input_is : input ≡ bytes ++ left
  pub after_is : IsTrue tells → after ≡ before ++ text
  pub read : HasRead p bytes text
  pub gathered : p.replay.text.items ≡ []

-- the one word `replay`
abbrev pub IsReplay : List (List ℕ) → Type 0
IsReplay words = words ≡ codes "replay" ∷ []

-- the one word `decode`
abbrev pub IsDecode : List (List ℕ) → Type 0
IsDecode words = words ≡ codes "decode" ∷ []

-- the word `tap`, and whether its link is bare
abbrev pub IsTap : Bool → List (List ℕ) → Type 0
IsTap true words = words ≡ codes "tap" ∷ codes "bare" ∷ []
IsTap false words = words ≡ codes "tap" ∷ codes "hci" ∷ []

-- the one word `tables`
abbrev pub IsTables : List (List ℕ) → Type 0
IsTables words = words ≡ codes "tables" ∷ []

-- the words that ask for something
abbrev pub AskForSomething : List (List ℕ) → Type 0
AskForSomething words =
    IsReplay words ⊎ (IsDecode words ⊎ (IsTables words ⊎ (IsTap true words ⊎ (IsTap false words ⊎ (AskForAnEnd words ⊎ ((n : ℕ) × IsGen n words))))))
