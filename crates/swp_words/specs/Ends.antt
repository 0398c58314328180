-- What a node alone has read and written, by the status with which it ended.
use Rattle.std.specs.Prelude.{◌≡◌, ◌≢◌, ◌⊎◌, ℕ, ◌≤◌, Bool, true, false, IsTrue, List, [], ◌∷◌, ◌++◌, length, take, codes, Some, None}
use Rattle.lone_laws.specs.alone.Lone.{Lone}
pub use Rattle.lone_laws.specs.alone.Ends.{EndForm}
pub use Rattle.one_end.specs.Writing.{form_named}
pub use Rattle.lone_laws.specs.alone.Ends.EndForm.{OnLine, OnBytes}
pub use Rattle.lone_laws.specs.alone.Memories.{IsTakenMemory}
use Rattle.lone_laws.specs.alone.Runs.{IsAnsweredRun}
use Rattle.journal_laws.specs.Writes.{AreRead}
use Rattle.journal_laws.specs.Journal.{journal}
use Rattle.hci_store.specs.Image.{image_fault}
use Rattle.hci_store.specs.Refusals.{IsSpent}
use Rattle.hci_store.specs.Stored.{FindsSame}
use Rattle.hci_store.specs.Starting.{ready_writes, HasWritten}
use Rattle.nv_journal.specs.declared.JournalFault.{JournalFault}
use Rattle.nv_journal.specs.declared.JournalFault.TheVariants.{GenerationsSpent}
use Rattle.one_end.specs.declared.one_end.OneEnd.{OneEnd}
use Rattle.one_end.specs.declared.writing.Form.{Form}
use Rattle.one_end.specs.Standing.{BootFault, HasRun, IsRunOfBytes, Journal, NoMemory, StandsAlone}
use Rattle.swp_words.specs.declared.status.Status.{Status}
use Rattle.swp_words.specs.declared.status.Status.TheVariants as status
use Rattle.swp_words.specs.Images.{status_of_fault}
use Rattle.swp_words.specs.Records.{most_bytes}

-- how a node began: with this number, on this form of link, where its boot found this content in its memory and left this memory
pub record Began (N : Type 0) : Type 0 where
  pub form : Form
  pub number : ℕ
  pub content : List ℕ
  pub first : N

-- that node is at this end
abbrev pub IsEndBegun : {N : Type 0} → Began N → OneEnd N → Type 0
IsEndBegun o e = (e.form ≡ o.form) × (e.node.number ≡ o.number)

-- These bytes came to a node, and all that it wrote for them went out. Whether the sink tells what was written comes behind what the node
-- is; what it held before and holds now comes last.
pub record HasHeardAlone {N : Type 0} (writes : N → ℕ → List ℕ → Bool → N → Type 0) (tells : Bool)
    (o : Began N) (e : OneEnd N) (stopped : Bool) (bytes before after : List ℕ) : Type 0 where
  pub end_is : IsEndBegun o e
  pub written : List ℕ
  pub run : HasRun writes o.content o.first e stopped bytes written
  pub after_is : IsTrue tells → after ≡ before ++ written

-- Of the text that waited the other is left, and what stood before it went out. Whether the sink tells what was written comes first, what it
-- held before and holds now last.
pub record HasGoneOut (tells : Bool) (waited waiting was now : List ℕ) : Type 0 where
  pub sent : List ℕ
  pub parts : waited ≡ sent ++ waiting
  pub now_is : IsTrue tells → now ≡ was ++ sent

-- These bytes came to a node. What it wrote for them begins with a text that went out; more of it may have gone out, and the rest waits.
pub record IsWaitingAlone {N : Type 0} (writes : N → ℕ → List ℕ → Bool → N → Type 0) (tells : Bool)
    (o : Began N) (e : OneEnd N) (stopped : Bool) (bytes earlier waiting before after : List ℕ) : Type 0 where
  pub end_is : IsEndBegun o e
  pub sent : List ℕ
  pub run : HasRun writes o.content o.first e stopped bytes ((earlier ++ sent) ++ waiting)
  pub after_is : IsTrue tells → after ≡ before ++ (earlier ++ sent)

-- These bytes came to a node. What it wrote for them begins with a text that went out; of the rest a front did.
pub record IsCutAlone {N : Type 0} (writes : N → ℕ → List ℕ → Bool → N → Type 0) (tells : Bool)
    (o : Began N) (e : OneEnd N) (bytes earlier before after : List ℕ) : Type 0 where
  pub end_is : IsEndBegun o e
  pub stopped : Bool
  pub last : List ℕ
  pub run : HasRun writes o.content o.first e stopped bytes (earlier ++ last)
  pub n : ℕ
  pub after_is : IsTrue tells → after ≡ before ++ (earlier ++ take n last)

-- This was written before the last read gave these bytes: for all bytes before them. Where none were read yet, nothing was.
abbrev pub IsWrittenBefore : {N : Type 0} → (N → ℕ → List ℕ → Bool → N → Type 0) → Began N → List ℕ → List ℕ → List ℕ → Type 0
IsWrittenBefore {N} writes o front piece earlier =
    ((front ≡ []) × (piece ≡ []) × (earlier ≡ []))
    ⊎ ((d : OneEnd N) × IsEndBegun o d × HasRun writes o.content o.first d false front earlier)

-- A write failed: all that the node wrote for the bytes before those of the last read went out, and a front of what it wrote for some of these.
-- No more was read than these.
pub record IsBrokenAlone {N : Type 0} (writes : N → ℕ → List ℕ → Bool → N → Type 0) (tells : Bool) (given : ℕ)
    (o : Began N) (e : OneEnd N) (input left before after : List ℕ) : Type 0 where
  pub front : List ℕ
  pub came : List ℕ
  pub ahead : List ℕ
  pub input_is : input ≡ front ++ (came ++ (ahead ++ left))
  pub near : length (came ++ ahead) ≤ 8192
  pub at_once : length (came ++ ahead) ≤ given
  pub earlier : List ℕ
  pub before_it : IsWrittenBefore writes o front (came ++ ahead) earlier
  pub cut : IsCutAlone writes tells o e (front ++ came) earlier before after

-- The node lost its power with the last of these bytes. Behind it no more was read than the last read gave.
pub record IsStoppedAlone {N : Type 0} (writes : N → ℕ → List ℕ → Bool → N → Type 0) (tells : Bool) (given : ℕ)
    (o : Began N) (e : OneEnd N) (input left before after : List ℕ) : Type 0 where
  pub bytes : List ℕ
  pub ahead : List ℕ
  pub input_is : input ≡ bytes ++ (ahead ++ left)
  pub near : length ahead ≤ 8192
  pub at_once : length ahead ≤ given
  pub heard : HasHeardAlone writes tells o e true bytes before after

-- One byte came more than may come. Behind it no more was read than the last read gave.
pub record IsTooLongAlone {N : Type 0} (writes : N → ℕ → List ℕ → Bool → N → Type 0) (tells : Bool) (given : ℕ)
    (o : Began N) (e : OneEnd N) (input left before after : List ℕ) : Type 0 where
  pub bytes : List ℕ
  pub byte : ℕ
  pub ahead : List ℕ
  pub input_is : input ≡ bytes ++ byte ∷ (ahead ++ left)
  pub near : length ahead ≤ 8192
  pub at_once : length ahead ≤ given
  pub most : length bytes ≡ most_bytes
  pub heard : HasHeardAlone writes tells o e false bytes before after

-- how a run ended while bytes of this input came
abbrev pub EndedInBytes : {N : Type 0} → (N → ℕ → List ℕ → Bool → N → Type 0) → Bool → ℕ → Began N → OneEnd N
    → Status → List ℕ → List ℕ → List ℕ → List ℕ → Type 0
EndedInBytes writes tells given o e status.WriteFault input left before after =
    IsBrokenAlone writes tells given o e input left before after
EndedInBytes writes tells given o e status.NvFault input left before after =
    IsStoppedAlone writes tells given o e input left before after
EndedInBytes writes tells given o e (status.TooMany count) input left before after =
    (count ≡ 16777217) × IsTooLongAlone writes tells given o e input left before after
EndedInBytes writes tells given o e _ input left before after = ⊥

-- how a run with the word `end` can end while bytes come
abbrev pub IsOfEnd : Status → Type 0
IsOfEnd status.WriteFault = Unit {0}
IsOfEnd status.NvFault = Unit {0}
IsOfEnd (status.TooMany count) = count ≡ 16777217
IsOfEnd _ = ⊥

-- so many bytes came, nothing of what the node wrote for them waits, and more may come
pub record MayHearOn {N : Type 0} (e : OneEnd N) (waiting : List ℕ) (count : ℕ) : Type 0 where
  pub few : count ≤ most_bytes
  pub none : waiting ≡ []
  pub may : (l : Lone) × (older : List ℕ) × StandsAlone e l older

-- a front of the input came, and all that the node wrote for it went out
pub record IsHearing {N : Type 0} (writes : N → ℕ → List ℕ → Bool → N → Type 0) (tells : Bool)
    (o : Began N) (e : OneEnd N) (count : ℕ) (input left before after : List ℕ) : Type 0 where
  pub bytes : List ℕ
  pub input_is : input ≡ bytes ++ left
  pub counted : count ≡ length bytes
  pub heard : HasHeardAlone writes tells o e false bytes before after

-- How a run of this input ended. On Done all of it came, and what the node wrote for it went out; where reading failed, a front; where a write to
-- its memory failed or too much came, what it wrote up to there; where writing failed, a front of that.
abbrev pub EndedAlone : {N : Type 0} → (N → ℕ → List ℕ → Bool → N → Type 0) → Bool → ℕ → Began N → OneEnd N
    → ℕ → Status → List ℕ → List ℕ → List ℕ → List ℕ → Type 0
EndedAlone writes tells given o e count status.Done input left before after =
    (left ≡ []) × (length input ≤ most_bytes) × HasHeardAlone writes tells o e false input before after
EndedAlone writes tells given o e count status.ReadFault input left before after =
    (count ≤ most_bytes) × IsHearing writes tells o e count input left before after
EndedAlone writes tells given o e count status.WriteFault input left before after =
    EndedInBytes writes tells given o e status.WriteFault input left before after
EndedAlone writes tells given o e count status.NvFault input left before after =
    EndedInBytes writes tells given o e status.NvFault input left before after
EndedAlone writes tells given o e count (status.TooMany n) input left before after =
    EndedInBytes writes tells given o e (status.TooMany n) input left before after
EndedAlone writes tells given o e count _ input left before after = ⊥

-- how such a run can end
abbrev pub IsOfLone : Status → Type 0
IsOfLone status.Done = Unit {0}
IsOfLone status.ReadFault = Unit {0}
IsOfLone status.WriteFault = Unit {0}
IsOfLone status.NvFault = Unit {0}
IsOfLone (status.TooMany count) = count ≡ 16777217
IsOfLone _ = ⊥

-- ## What is known of a whole run

-- These bytes came to a node whose boot found this content and left the first memory here, and all that it wrote for them went out. The
-- memory is now so.
pub record HasRunAlone {N : Type 0} (writes : N → ℕ → List ℕ → Bool → N → Type 0) (tells : Bool) (form : EndForm) (is_clf : Bool) (content : List ℕ)
    (first now : N) (stopped : Bool) (bytes before after : List ℕ) : Type 0 where
  pub written : List ℕ
  pub run : IsRunOfBytes writes first now stopped form is_clf content bytes written
  pub after_is : IsTrue tells → after ≡ before ++ written

-- this was written before the last read gave these bytes: for all bytes before them, or nothing where none were read yet
abbrev pub IsRunBefore : {N : Type 0} → (N → ℕ → List ℕ → Bool → N → Type 0) → EndForm → Bool → List ℕ → N → List ℕ → List ℕ → List ℕ → Type 0
IsRunBefore {N} writes form is_clf content first front piece earlier =
    ((front ≡ []) × (piece ≡ []) × (earlier ≡ []))
    ⊎ ((mid : N) × IsRunOfBytes writes first mid false form is_clf content front earlier)

-- A write of the output failed: all that was written for the bytes before those of the last read went out, and a front of what was for some of
-- these. No more was read than these.
pub record IsRunBrokenOff {N : Type 0} (writes : N → ℕ → List ℕ → Bool → N → Type 0) (tells : Bool) (given : ℕ) (form : EndForm) (is_clf : Bool)
    (content : List ℕ) (first now : N) (input left before after : List ℕ) : Type 0 where
  pub front : List ℕ
  pub came : List ℕ
  pub ahead : List ℕ
  pub input_is : input ≡ front ++ (came ++ (ahead ++ left))
  pub near : length (came ++ ahead) ≤ 8192
  pub at_once : length (came ++ ahead) ≤ given
  pub stopped : Bool
  pub earlier : List ℕ
  pub last : List ℕ
  pub before_it : IsRunBefore writes form is_clf content first front (came ++ ahead) earlier
  pub run : IsRunOfBytes writes first now stopped form is_clf content (front ++ came) (earlier ++ last)
  pub n : ℕ
  pub after_is : IsTrue tells → after ≡ before ++ (earlier ++ take n last)

-- One byte came more than may come. Behind it no more was read than the last read gave.
pub record IsOneTooMany {N : Type 0} (writes : N → ℕ → List ℕ → Bool → N → Type 0) (tells : Bool) (given : ℕ) (form : EndForm) (is_clf : Bool)
    (content : List ℕ) (first now : N) (input left before after : List ℕ) : Type 0 where
  pub bytes : List ℕ
  pub byte : ℕ
  pub ahead : List ℕ
  pub input_is : input ≡ bytes ++ byte ∷ (ahead ++ left)
  pub near : length ahead ≤ 8192
  pub at_once : length ahead ≤ given
  pub most : length bytes ≡ most_bytes
  pub run : HasRunAlone writes tells form is_clf content first now false bytes before after

-- A write to the memory failed in what the last of these bytes caused: what was written up to there went out. Behind that byte no more was read
-- than the last read gave.
pub record IsRunStopped {N : Type 0} (writes : N → ℕ → List ℕ → Bool → N → Type 0) (tells : Bool) (given : ℕ) (form : EndForm) (is_clf : Bool)
    (content : List ℕ) (first now : N) (input left before after : List ℕ) : Type 0 where
  pub bytes : List ℕ
  pub ahead : List ℕ
  pub input_is : input ≡ bytes ++ (ahead ++ left)
  pub near : length ahead ≤ 8192
  pub at_once : length ahead ≤ given
  pub run : HasRunAlone writes tells form is_clf content first now true bytes before after

-- a read of the input failed behind these bytes, and these weren't too many: all that was written for them went out
pub record IsRunCutOff {N : Type 0} (writes : N → ℕ → List ℕ → Bool → N → Type 0) (tells : Bool) (form : EndForm) (is_clf : Bool) (content : List ℕ)
    (first now : N) (input left before after : List ℕ) : Type 0 where
  pub bytes : List ℕ
  pub input_is : input ≡ bytes ++ left
  pub few : length bytes ≤ most_bytes
  pub run : HasRunAlone writes tells form is_clf content first now false bytes before after

-- How a run of this input ended, of which this is left, by its status. On Done all of it came, and all that the node wrote for it went out;
-- where reading failed, a front came; where a write to the memory failed or one byte too many came, what was written up to there went out;
-- where writing failed, a front of that.
abbrev pub RanSo : {N : Type 0} → (N → ℕ → List ℕ → Bool → N → Type 0) → Bool → ℕ → EndForm → Bool → List ℕ → N → N → Status → List ℕ → List ℕ
    → List ℕ → List ℕ → Type 0
RanSo writes tells given form is_clf content first now status.Done input left before after =
    (left ≡ []) × (length input ≤ most_bytes) × HasRunAlone writes tells form is_clf content first now false input before after
RanSo writes tells given form is_clf content first now status.ReadFault input left before after =
    IsRunCutOff writes tells form is_clf content first now input left before after
RanSo writes tells given form is_clf content first now status.WriteFault input left before after =
    IsRunBrokenOff writes tells given form is_clf content first now input left before after
RanSo writes tells given form is_clf content first now status.NvFault input left before after =
    IsRunStopped writes tells given form is_clf content first now input left before after
RanSo writes tells given form is_clf content first now (status.TooMany count) input left before after =
    (count ≡ 16777217) × IsOneTooMany writes tells given form is_clf content first now input left before after
RanSo writes tells given form is_clf content first now _ input left before after = ⊥

-- nothing was read or written
abbrev pub IsNothingDone : Bool → List ℕ → List ℕ → List ℕ → List ℕ → Type 0
IsNothingDone tells input left before after = (left ≡ input) × (IsTrue tells → after ≡ before)

-- a boot has the generation that it needs: a memory of version 01 is written anew with the next one
abbrev pub HasNextGeneration : List ℕ → Type 0
HasNextGeneration content = (journal content).head.version ≡ 1 → (journal content).head.generation ≢ 4294967295

-- A boot refuses a memory for this: for what is wrong with it or, where nothing is, since it is of version 01 and has no generation left.
abbrev pub IsRefusedFor : JournalFault → List ℕ → Type 0
IsRefusedFor f content = (image_fault content ≡ Some f) ⊎ ((f ≡ GenerationsSpent) × IsSpent content content)

-- The boot went through, with the writes that it makes of what it found, and the node ran so.
pub record BootedAndRan {N : Type 0} (reads : N → Bool → N → Type 0) (writes : N → ℕ → List ℕ → Bool → N → Type 0) (content : N → List ℕ) (tells : Bool)
    (given : ℕ) (form : EndForm) (is_clf : Bool) (old new : N) (s : Status) (input left before after : List ℕ) : Type 0 where
  pub first : N
  pub sound : image_fault (content old) ≡ None
  pub next : HasNextGeneration (content old)
  pub booted : HasWritten reads writes content (ready_writes (content old)) old true first
  pub ran : RanSo writes tells given form is_clf (content old) first new s input left before after

-- The boot was refused, for what is wrong with the memory, or since it is of version 01 and has no generation left: nothing was read or
-- written of the link. Of the memory at most 37 reads were made, and it says what it said.
pub record IsImageRefused {N : Type 0} (reads : N → Bool → N → Type 0) (content : N → List ℕ) (tells : Bool) (old new : N) (fault : JournalFault)
    (input left before after : List ℕ) : Type 0 where
  pub nothing : IsNothingDone tells input left before after
  pub why : (image_fault (content old) ≡ Some fault) ⊎ ((fault ≡ GenerationsSpent) × IsSpent (content old) (content new))
  pub read : AreRead reads 37 old true new
  pub same : content new ≡ content old

-- A read of the boot failed, and the memory is as it was, or a write of it, and those before it were made: nothing was read or written of the
-- link, and the next boot finds what this one found.
pub record IsBootCut {N : Type 0} (reads : N → Bool → N → Type 0) (writes : N → ℕ → List ℕ → Bool → N → Type 0) (content : N → List ℕ) (tells : Bool)
    (old new : N) (input left before after : List ℕ) : Type 0 where
  pub nothing : IsNothingDone tells input left before after
  pub where_cut : (AreRead reads 37 old false new × (content new ≡ content old))
      ⊎ HasWritten reads writes content (ready_writes (content old)) old false new
  pub same : FindsSame (content old) (content new)

-- How a run with the word `end` over this memory ended: its last words say whether it is the CLF's end, and the form of its link.
abbrev pub EndedSo : {N : Type 0} → (N → Bool → N → Type 0) → (N → ℕ → List ℕ → Bool → N → Type 0) → (N → List ℕ) → Bool → ℕ → EndForm → Bool → N → N
    → Status → List ℕ → List ℕ → List ℕ → List ℕ → Type 0
EndedSo reads writes content tells given form is_clf old new status.NoMemory input left before after =
    (new ≡ old) × IsNothingDone tells input left before after
EndedSo reads writes content tells given form is_clf old new (status.BadImage fault) input left before after =
    IsImageRefused reads content tells old new fault input left before after
EndedSo reads writes content tells given form is_clf old new status.NvFault input left before after =
    IsBootCut reads writes content tells old new input left before after
    ⊎ BootedAndRan reads writes content tells given form is_clf old new status.NvFault input left before after
EndedSo reads writes content tells given form is_clf old new s input left before after =
    BootedAndRan reads writes content tells given form is_clf old new s input left before after

-- These are the bytes that came, or all that came before the run ended: every message in them was answered, nothing else was, and at the end the
-- memory keeps the commands that are noted (`IsAnsweredRun`). What the node wrote for them went out, or a front of it where a write failed.
pub record IsAnsweredEnd (tells : Bool) (form : EndForm) (is_clf : Bool) (old new : List ℕ) (s : Status) (input before after : List ℕ) : Type 0 where
  pub bytes : List ℕ
  pub behind : List ℕ
  pub input_is : input ≡ bytes ++ behind
  pub all_came : s ≡ status.Done → behind ≡ []
  pub stopped : Bool
  pub runs : s ≡ status.Done → stopped ≡ false
  pub written : List ℕ
  pub answered : IsAnsweredRun old new stopped form is_clf bytes written
  pub n : ℕ
  pub went_out : (s ≡ status.WriteFault) ⊎ (n ≡ length written)
  pub after_is : IsTrue tells → after ≡ before ++ take n written

-- So it is with a run that ended in this way. Where its boot didn't go through, nothing was read or written of the link.
abbrev pub AnsweredSo : Bool → EndForm → Bool → List ℕ → List ℕ → Status → List ℕ → List ℕ → List ℕ → List ℕ → Type 0
AnsweredSo tells form is_clf old new status.Done input left before after = IsAnsweredEnd tells form is_clf old new status.Done input before after
AnsweredSo tells form is_clf old new status.ReadFault input left before after = IsAnsweredEnd tells form is_clf old new status.ReadFault input before after
AnsweredSo tells form is_clf old new status.WriteFault input left before after = IsAnsweredEnd tells form is_clf old new status.WriteFault input before after
AnsweredSo tells form is_clf old new (status.TooMany count) input left before after =
    IsAnsweredEnd tells form is_clf old new (status.TooMany count) input before after
AnsweredSo tells form is_clf old new status.NvFault input left before after =
    IsNothingDone tells input left before after ⊎ IsAnsweredEnd tells form is_clf old new status.NvFault input before after
AnsweredSo tells form is_clf old new s input left before after = IsNothingDone tells input left before after

-- how a run ends whose boot was refused, for this fault or without memory
abbrev pub status_of_boot : BootFault → Status
status_of_boot NoMemory = status.NoMemory
status_of_boot (Journal fault) = status_of_fault fault

-- how such a run can end
abbrev pub IsOfEndWord : Status → Type 0
IsOfEndWord status.Done = Unit {0}
IsOfEndWord status.ReadFault = Unit {0}
IsOfEndWord status.WriteFault = Unit {0}
IsOfEndWord status.NvFault = Unit {0}
IsOfEndWord status.NoMemory = Unit {0}
IsOfEndWord (status.BadImage fault) = Unit {0}
IsOfEndWord (status.TooMany count) = count ≡ 16777217
IsOfEndWord _ = ⊥

-- the word for an end: the CLF's, or the UICC's
abbrev pub role_word : Bool → List ℕ
role_word true = codes "clf"
role_word false = codes "uicc"

-- the word for a form of the link
abbrev pub form_word : EndForm → List ℕ
form_word OnLine = codes "line"
form_word OnBytes = codes "bytes"

-- the words `end`, which end it is, and the form of its link
abbrev pub IsEndCommand : Bool → EndForm → List (List ℕ) → Type 0
IsEndCommand is_clf form words = words ≡ codes "end" ∷ role_word is_clf ∷ form_word form ∷ []

-- such words, of either end and either form
abbrev pub AskForAnEnd : List (List ℕ) → Type 0
AskForAnEnd words = (is_clf : Bool) × (form : EndForm) × IsEndCommand is_clf form words
