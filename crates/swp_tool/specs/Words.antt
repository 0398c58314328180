-- What a run promises of each word: a record of its facts, one field for each.
use Rattle.std.specs.Prelude.{◌≡◌, ◌≢◌, ◌⊎◌, ◌↔◌, ◌++◌, ◌+◌, ◌≤◌, ◌<◌, ℕ, Bool, IsTrue, List, length, Some, None}
use Rattle.swp_base.specs.declared.outside.EndOfInput.{EndOfInput}
use Rattle.swp_base.specs.Outside.{Rose}
use Rattle.nv_journal.specs.declared.JournalFault.{JournalFault}
use Rattle.hci_store.specs.Image.{image_fault}
use Rattle.hci_store.specs.Refusals.{IsOnlyRead}
use Rattle.swp_words.specs.Ends.{EndForm, IsTakenMemory}
use Rattle.swp_words.specs.declared.status.Status.{Status}
use Rattle.swp_words.specs.declared.status.Status.TheVariants as status
use Rattle.swp_tool.specs.Schedules.{Stop, schedule_in}
use Rattle.swp_tool.specs.Transcripts.{TellsPlayed}
use Rattle.swp_tool.specs.Pieces.{IsReadAhead}
use Rattle.swp_words.specs.Records.{most_bytes, IsOfRecord}
use Rattle.swp_words.specs.Decodings.{DecodedBy}
use Rattle.swp_words.specs.Taps.{TappedBy, IsOfTap, gots_written, record_frames}
use Rattle.world_laws.specs.histories.OnLinks.{AreOfLink}
use Rattle.world_laws.specs.histories.Tapping.{gots_on, lpdus_on}
use Rattle.trace_model.specs.declared.entry.Entry.{Entry}
use Rattle.swp_words.specs.Images.{Told, IsOfTables}
use Rattle.swp_words.specs.Ends.{AnsweredSo, EndedSo, IsOfEndWord, HasNextGeneration, IsRefusedFor}
use Rattle.swp_tool.specs.Generated.{Generated, IsOfGen}
use Rattle.swp_tool.specs.Runs.{status_at, AppendsText, Replayed, IsOfReplay}

-- ## What a run is given

-- the source of a run: what its type tells of it, what it was before, and what it is after
pub record RunSource (S : Type 0) : Type 0 where
  pub tells : Bool
  pub left : S → List ℕ
  pub end : S → EndOfInput
  pub faults : S → ℕ
  pub old : S
  pub new : S

-- its sink
pub record RunSink (K : Type 0) : Type 0 where
  pub tells : Bool
  pub written : K → List ℕ
  pub faults : K → ℕ
  pub old : K
  pub new : K

-- its memory
pub record RunMemory (N : Type 0) : Type 1 where
  pub tells : Bool
  pub content : N → List ℕ
  pub faults : N → ℕ
  pub reads : N → Bool → N → Type 0
  pub writes : N → ℕ → List ℕ → Bool → N → Type 0
  pub old : N
  pub new : N

abbrev pub run_source : {S : Type 0} → Bool → (S → List ℕ) → (S → EndOfInput) → (S → ℕ) → S → S → RunSource S
run_source tells left end faults old new = record { tells = tells; left = left; end = end; faults = faults; old = old; new = new }

abbrev pub run_sink : {K : Type 0} → Bool → (K → List ℕ) → (K → ℕ) → K → K → RunSink K
run_sink tells written faults old new = record { tells = tells; written = written; faults = faults; old = old; new = new }

abbrev pub run_memory : {N : Type 0} → Bool → (N → List ℕ) → (N → ℕ) → (N → Bool → N → Type 0) → (N → ℕ → List ℕ → Bool → N → Type 0) → N → N → RunMemory N
run_memory tells content faults reads writes old new =
    record { tells = tells; content = content; faults = faults; reads = reads; writes = writes; old = old; new = new }

-- ## What it promises

-- Of the word `replay`: a schedule in, its transcript out.
pub record IsReplayRun {S K : Type 0} (source : RunSource S) (sink : RunSink K) (s : Status) : Type 0 where
  -- Why the run ended and what was read and written, for a source that tells what it has left. Only the equation about the bytes written asks
  -- for a sink that tells what it holds. What a replay that is done has written is the transcript of a legal history (`IsLegal`), of one link or
  -- of nodes, that follows the whole schedule; a replay that ends before has written that of one that follows lines before, or a front of such
  -- a text where a write failed.
  pub replayed : IsTrue source.tells → Replayed sink.tells (source.end source.new).given s (source.left source.old) (source.left source.new)
      (sink.written sink.old) (sink.written sink.new)
  -- The text of a replay that is done tells what became of its schedule: from the text its entries are known.
  pub known : IsTrue source.tells → s ≡ status.Done →
      AppendsText sink.tells (TellsPlayed (schedule_in (source.left source.old))) (sink.written sink.old) (sink.written sink.new)
  -- whatever is read, it ends in these ways alone
  pub ending : IsOfReplay s
  -- With a whole schedule and no fault of the outside, a replay is done, unless there is no memory.
  pub complete : IsTrue source.tells → (schedule_in (source.left source.old)).stop ≡ None →
      ¬ Rose (source.faults source.old) (source.faults source.new) → ¬ Rose (sink.faults sink.old) (sink.faults sink.new) →
      (s ≡ status.Done) ⊎ (s ≡ status.NoMemory)
  -- A schedule that stops is refused at the line where it does, unless there is no memory or the outside failed before.
  pub refused : IsTrue source.tells → (why : Stop) → (schedule_in (source.left source.old)).stop ≡ Some why →
      ¬ Rose (source.faults source.old) (source.faults source.new) → ¬ Rose (sink.faults sink.old) (sink.faults sink.new) →
      (s ≡ status_at why (schedule_in (source.left source.old)).count) ⊎ (s ≡ status.NoMemory)
  -- at most 4,096 bytes are read behind a front in which no line is at fault
  pub ahead : IsTrue source.tells → IsReadAhead 4096 (source.left source.old) (source.left source.new)

-- Of the word `decode`: the record of a line in, a line of text for each frame or fault out.
pub record IsDecodeRun {S K : Type 0} (source : RunSource S) (sink : RunSink K) (s : Status) : Type 0 where
  pub decoded : IsTrue source.tells → DecodedBy sink.tells (source.end source.new).given s (source.left source.old) (source.left source.new)
      (sink.written sink.old) (sink.written sink.new)
  pub ending : IsOfRecord s
  -- With a record that isn't too long and no fault of the outside, a decoding is done.
  pub complete : IsTrue source.tells → length (source.left source.old) ≤ most_bytes →
      ¬ Rose (source.faults source.old) (source.faults source.new) → ¬ Rose (sink.faults sink.old) (sink.faults sink.new) → s ≡ status.Done
  -- A longer one is refused at the first byte too many, unless the outside failed before.
  pub refused : IsTrue source.tells → most_bytes < length (source.left source.old) →
      ¬ Rose (source.faults source.old) (source.faults source.new) → ¬ Rose (sink.faults sink.old) (sink.faults sink.new) →
      s ≡ status.TooMany 16777217
  -- at most 4,096 bytes are read behind the last one that a record may have
  pub ahead : IsTrue source.tells → length (source.left source.old) ≤ most_bytes + 4096 + length (source.left source.new)

-- Of the words `tap bare` and `tap hci`: such a record in, and out what the definition of a tap reports of its frames, on a link that is bare or not.
pub record IsTapRun {S K : Type 0} (bare : Bool) (source : RunSource S) (sink : RunSink K) (s : Status) : Type 0 where
  pub tapped : IsTrue source.tells → TappedBy bare sink.tells (source.end source.new).given s (source.left source.old) (source.left source.new)
      (sink.written sink.old) (sink.written sink.new)
  -- So what is written is what the ends got: where the frames of the record are those that both ends of such a link put on it in a history that
  -- follows a schedule, from its beginning to the end of an event, and no node of the link lost its power until then.
  pub got : IsTrue source.tells → s ≡ status.Done → (h : ℕ) (t : List Entry) → AreOfLink bare h t →
      record_frames (source.left source.old) ≡ lpdus_on h t → IsTrue sink.tells →
      sink.written sink.new ≡ sink.written sink.old ++ gots_written (gots_on h t) (length (source.left source.old))
  pub ending : IsOfTap s
  -- as with `decode`, unless there is no memory for the tap
  pub complete : IsTrue source.tells → length (source.left source.old) ≤ most_bytes →
      ¬ Rose (source.faults source.old) (source.faults source.new) → ¬ Rose (sink.faults sink.old) (sink.faults sink.new) →
      (s ≡ status.Done) ⊎ (s ≡ status.NoMemory)
  pub refused : IsTrue source.tells → most_bytes < length (source.left source.old) →
      ¬ Rose (source.faults source.old) (source.faults source.new) → ¬ Rose (sink.faults sink.old) (sink.faults sink.new) →
      (s ≡ status.TooMany 16777217) ⊎ (s ≡ status.NoMemory)
  pub ahead : IsTrue source.tells → length (source.left source.old) ≤ most_bytes + 4096 + length (source.left source.new)

-- Of the word `tables`: what a memory keeps, as text. Nothing is read but the memory, which keeps its content.
pub record IsTablesRun {S K N : Type 0} (source : RunSource S) (sink : RunSink K) (memory : RunMemory N) (s : Status) : Type 0 where
  pub told : IsTrue memory.tells → Told sink.tells s (memory.content memory.old) (sink.written sink.old) (sink.written sink.new)
  pub kept : IsTrue memory.tells → memory.content memory.new ≡ memory.content memory.old
  pub unread : source.new ≡ source.old
  pub ending : IsOfTables s
  -- With a sound memory and no fault of the outside the run is done, unless there is no memory for the text; another is refused for its fault.
  pub complete : IsTrue memory.tells → image_fault (memory.content memory.old) ≡ None →
      ¬ Rose (memory.faults memory.old) (memory.faults memory.new) → ¬ Rose (sink.faults sink.old) (sink.faults sink.new) →
      (s ≡ status.Done) ⊎ (s ≡ status.NoMemory)
  pub bad_image : IsTrue memory.tells → (f : JournalFault) → image_fault (memory.content memory.old) ≡ Some f →
      ¬ Rose (memory.faults memory.old) (memory.faults memory.new) → s ≡ status.BadImage f

-- Of the words `gen N`: the summary of the legal history that is played from the schedule drawn from the number. Nothing is read.
pub record IsGenRun {S K : Type 0} (n : ℕ) (source : RunSource S) (sink : RunSink K) (s : Status) : Type 0 where
  pub generated : Generated sink.tells s n (sink.written sink.old) (sink.written sink.new)
  pub unread : source.new ≡ source.old
  pub ending : IsOfGen s
  pub complete : ¬ Rose (sink.faults sink.old) (sink.faults sink.new) → (s ≡ status.Done) ⊎ (s ≡ status.NoMemory)

-- Of the words `end ROLE LINK`: one node over the memory, at its end of a link whose other end is live.
pub record IsEndRun {S K N : Type 0} (is_clf : Bool) (form : EndForm) (source : RunSource S) (sink : RunSink K) (memory : RunMemory N) (s : Status)
    : Type 0 where
  -- An end takes the bytes read as what comes on its link, and writes what a node does that boots from the memory handed in, by the rules of a
  -- node alone. The memory is then so as that node left it.
  pub ended : IsTrue source.tells → IsTrue memory.tells →
      EndedSo memory.reads memory.writes memory.content sink.tells (source.end source.new).given form is_clf memory.old memory.new s
      (source.left source.old) (source.left source.new) (sink.written sink.old) (sink.written sink.new)
  -- Over a memory that a boot takes every message that came was answered, nothing else was, and the memory keeps the commands that were committed.
  pub answered : IsTrue source.tells → IsTrue memory.tells → IsTakenMemory (memory.content memory.old) →
      AnsweredSo sink.tells form is_clf (memory.content memory.old) (memory.content memory.new) s
      (source.left source.old) (source.left source.new) (sink.written sink.old) (sink.written sink.new)
  pub ending : IsOfEndWord s
  -- A memory with a fault is refused for that fault, unless there is no memory for the node, or a read of the boot failed before.
  pub bad_image : IsTrue memory.tells → (f : JournalFault) → image_fault (memory.content memory.old) ≡ Some f →
      ¬ Rose (memory.faults memory.old) (memory.faults memory.new) → (s ≡ status.BadImage f) ⊎ (s ≡ status.NoMemory)
  -- A memory is refused exactly for its fault or, where it has none, since it is of version 01 and has the last generation: a boot would write it
  -- anew with the next one. Where one is refused, nothing is read or written; nor is it where one is to be refused, however the run ends.
  pub refuses : IsTrue memory.tells → (f : JournalFault) → (s ≡ status.BadImage f)
      ↔ (IsRefusedFor f (memory.content memory.old) × (s ≢ status.NoMemory) × (s ≢ status.NvFault))
  pub untouched : (f : JournalFault) → s ≡ status.BadImage f → (source.new ≡ source.old) × (sink.new ≡ sink.old)
  pub never_begins : IsTrue memory.tells → (f : JournalFault) → IsRefusedFor f (memory.content memory.old) →
      (source.new ≡ source.old) × (sink.new ≡ sink.old)
  -- of a memory that is refused at most 37 reads were made, also of one that doesn't tell its content
  pub unwritten : (f : JournalFault) → s ≡ status.BadImage f → IsOnlyRead memory.reads memory.tells memory.content memory.old memory.new
  -- With a sound memory that has the generation it needs, bytes that aren't too many and no fault of the outside, an end is done, unless there is
  -- no memory; with more bytes it is refused at the first one too many.
  pub complete : IsTrue source.tells → IsTrue memory.tells →
      image_fault (memory.content memory.old) ≡ None → HasNextGeneration (memory.content memory.old) → length (source.left source.old) ≤ most_bytes →
      ¬ Rose (source.faults source.old) (source.faults source.new) → ¬ Rose (sink.faults sink.old) (sink.faults sink.new) →
      ¬ Rose (memory.faults memory.old) (memory.faults memory.new) → (s ≡ status.Done) ⊎ (s ≡ status.NoMemory)
  pub refused : IsTrue source.tells → IsTrue memory.tells →
      image_fault (memory.content memory.old) ≡ None → HasNextGeneration (memory.content memory.old) → most_bytes < length (source.left source.old) →
      ¬ Rose (source.faults source.old) (source.faults source.new) → ¬ Rose (sink.faults sink.old) (sink.faults sink.new) →
      ¬ Rose (memory.faults memory.old) (memory.faults memory.new) → (s ≡ status.TooMany 16777217) ⊎ (s ≡ status.NoMemory)
  -- At most 4,096 bytes are read behind the last one that may come. What a byte causes is written before more is read than the source hands over
  -- in one call (`ended`).
  pub ahead : IsTrue source.tells → IsTrue memory.tells → length (source.left source.old) ≤ most_bytes + 4096 + length (source.left source.new)
