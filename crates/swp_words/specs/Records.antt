-- What a command that reads a line record has read and written, by the status with which it ended. Which lines it writes for the bytes of
-- a record is the command's own; behind those of the whole record comes the number of its bytes.
use Rattle.std.specs.Prelude.{◌≡◌, ℕ, ◌+◌, ◌≤◌, ◌⊎◌, nat_lt, if◌then◌else◌, Bool, IsTrue, List, ◌∷◌, [], ◌++◌, length, take}
use Rattle.swp_decode.specs.Decoded.{last_line}
use Rattle.swp_words.specs.declared.status.Status.{Status}
use Rattle.swp_words.specs.declared.status.Status.TheVariants as status

-- The most bytes of a record, this project's own.
abbrev pub most_bytes : ℕ
most_bytes = 16777216

-- how many bytes are read at once behind so many: no more than 4,096 behind the most bytes of a record
abbrev pub piece_of : ℕ → ℕ
piece_of count = if nat_lt most_bytes (count + 8192) then 4096 else 8192

-- what is written for a whole record with these lines
abbrev pub whole_record : (List ℕ → List ℕ) → List ℕ → List ℕ
whole_record lines bytes = lines bytes ++ last_line (length bytes)

-- What was written, and what is gathered behind it, is this text. At least so many bytes of it were written.
pub record IsGathered (tells : Bool) (gathered : List ℕ) (least : ℕ) (text before after : List ℕ) : Type 0 where
  pub written : List ℕ
  pub after_is : IsTrue tells → after ≡ before ++ written
  pub text_is : written ++ gathered ≡ text
  pub enough : least ≤ length written

-- a front of this text was written, of so many bytes at least
pub record IsFront (tells : Bool) (least : ℕ) (text before after : List ℕ) : Type 0 where
  pub n : ℕ
  pub enough : least ≤ n
  pub after_is : IsTrue tells → after ≡ before ++ take n text

-- what is kept of a record can go on: it has no more bytes than it may have
pub record MayReadOn (count : ℕ) (sound : Type 0) : Type 0 where
  pub few : count ≤ most_bytes
  pub sound_is : sound

-- A front of the input was read, as this says, and all its lines were written.
pub record HasRecorded (tells : Bool) (lines : List ℕ → List ℕ) (reads : List ℕ → Type 0) (count : ℕ) (input left before after : List ℕ) : Type 0 where
  pub bytes : List ℕ
  pub input_is : input ≡ bytes ++ left
  pub reading : reads bytes
  pub counted : count ≡ length bytes
  pub after_is : IsTrue tells → after ≡ before ++ lines bytes

-- a front of what is written for the whole input was written, the lines of the earlier bytes among it
pub record IsFrontOfWhole (lines : List ℕ → List ℕ) (tells : Bool) (earlier input before after : List ℕ) : Type 0 where
  pub few : length input ≤ most_bytes
  pub front : IsFront tells (length (lines earlier)) (whole_record lines input) before after

-- a front of the lines of some of the first bytes was written, those of the earlier bytes among it
pub record IsFrontOfSome (lines : List ℕ → List ℕ) (tells : Bool) (earlier input before after : List ℕ) : Type 0 where
  pub bytes : List ℕ
  pub rest : List ℕ
  pub input_is : input ≡ bytes ++ rest
  pub front : IsFront tells (length (lines earlier)) (lines bytes) before after

-- A write failed: a front of what is written for the bytes that were read was written. Of these, behind which this is left, all but the
-- piece in hand, of at most 8,192 bytes and no more than the last read gave, had been read and its lines written before. The number of the
-- bytes is written only where all of the input was read.
pub record IsBrokenOff (lines : List ℕ → List ℕ) (tells : Bool) (given : ℕ) (input left before after : List ℕ) : Type 0 where
  pub earlier : List ℕ
  pub piece : List ℕ
  pub input_is : input ≡ earlier ++ (piece ++ left)
  pub few : length piece ≤ 8192
  pub at_once : length piece ≤ given
  pub front : IsFrontOfSome lines tells earlier (earlier ++ piece) before after
      ⊎ ((left ≡ []) × IsFrontOfWhole lines tells earlier (earlier ++ piece) before after)

-- one byte more than a record may have is among these, and the lines of those before it were written
pub record HasTooMany (lines : List ℕ → List ℕ) (tells : Bool) (read before after : List ℕ) : Type 0 where
  pub bytes : List ℕ
  pub byte : ℕ
  pub rest : List ℕ
  pub read_is : read ≡ bytes ++ byte ∷ rest
  pub most : length bytes ≡ most_bytes
  pub after_is : IsTrue tells → after ≡ before ++ lines bytes

-- so it is with the bytes that were read, behind which this is left
pub record IsTooLong (lines : List ℕ → List ℕ) (tells : Bool) (input left before after : List ℕ) : Type 0 where
  pub read : List ℕ
  pub input_is : input ≡ read ++ left
  pub too_many : HasTooMany lines tells read before after

-- the lines of all bytes that were read were written, and these weren't too many
pub record IsCutOff (lines : List ℕ → List ℕ) (tells : Bool) (input left before after : List ℕ) : Type 0 where
  pub bytes : List ℕ
  pub input_is : input ≡ bytes ++ left
  pub few : length bytes ≤ most_bytes
  pub after_is : IsTrue tells → after ≡ before ++ lines bytes

-- How reading a record ended, of this input. On Done all of its text was written; where reading failed or the record was too long,
-- the lines of what was read before; where writing failed, a front of these, all of the pieces before the last among it. Whether the sink
-- tells what was written comes behind the lines, and then how many bytes the last read gave that gave some.
abbrev pub RecordedBy : (List ℕ → List ℕ) → Bool → ℕ → Status → List ℕ → List ℕ → List ℕ → List ℕ → Type 0
RecordedBy lines tells given status.Done input left before after =
    (left ≡ []) × (length input ≤ most_bytes) × (IsTrue tells → after ≡ before ++ whole_record lines input)
RecordedBy lines tells given (status.TooMany count) input left before after = (count ≡ 16777217) × IsTooLong lines tells input left before after
RecordedBy lines tells given status.ReadFault input left before after = IsCutOff lines tells input left before after
RecordedBy lines tells given status.WriteFault input left before after = IsBrokenOff lines tells given input left before after
RecordedBy lines tells given status.NoMemory input left before after = ⊥
RecordedBy lines tells given status.BadWords input left before after = ⊥
RecordedBy lines tells given (status.BadSchedule line why) input left before after = ⊥
RecordedBy lines tells given (status.Undetected line) input left before after = ⊥
RecordedBy lines tells given status.NvFault input left before after = ⊥
RecordedBy lines tells given (status.BadImage why) input left before after = ⊥

-- How reading a piece ended it, behind earlier bytes: these were read then, and the record is too long, or a write failed.
abbrev pub EndedIn : (List ℕ → List ℕ) → Bool → Status → List ℕ → List ℕ → List ℕ → List ℕ → Type 0
EndedIn lines tells (status.TooMany count) earlier read before after = (count ≡ 16777217) × HasTooMany lines tells read before after
EndedIn lines tells status.WriteFault earlier read before after = IsFrontOfSome lines tells earlier read before after
EndedIn lines tells status.Done earlier read before after = ⊥
EndedIn lines tells status.ReadFault earlier read before after = ⊥
EndedIn lines tells status.NoMemory earlier read before after = ⊥
EndedIn lines tells status.BadWords earlier read before after = ⊥
EndedIn lines tells (status.BadSchedule line why) earlier read before after = ⊥
EndedIn lines tells (status.Undetected line) earlier read before after = ⊥
EndedIn lines tells status.NvFault earlier read before after = ⊥
EndedIn lines tells (status.BadImage why) earlier read before after = ⊥

-- how reading a record can end, whatever it reads
abbrev pub IsOfRecord : Status → Type 0
IsOfRecord status.Done = Unit {0}
IsOfRecord status.ReadFault = Unit {0}
IsOfRecord status.WriteFault = Unit {0}
IsOfRecord (status.TooMany count) = count ≡ 16777217
IsOfRecord status.BadWords = ⊥
IsOfRecord (status.BadSchedule line why) = ⊥
IsOfRecord (status.Undetected line) = ⊥
IsOfRecord status.NvFault = ⊥
IsOfRecord status.NoMemory = ⊥
IsOfRecord (status.BadImage why) = ⊥
