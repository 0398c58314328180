-- What a run has written of a memory's tables, by the status with which it ended.
use Rattle.std.specs.Prelude.{◌≡◌, ℕ, Bool, IsTrue, List, ◌++◌, take, codes, None, Some}
use Rattle.nv_journal.specs.declared.JournalFault.{JournalFault}
use Rattle.nv_journal.specs.declared.JournalFault.TheVariants as image
use Rattle.hci_tables.specs.Tables.{close}
use Rattle.hci_store.specs.Image.{tables_of, image_fault}
use Rattle.tables_text.specs.Tables.{tables_text_of}
use Rattle.swp_words.specs.declared.status.Status.{Status}
use Rattle.swp_words.specs.declared.status.Status.TheVariants as status

-- the tables of a memory, all pipes closed, as text: the memory is told by the word `nv`
abbrev pub tables_lines : List ℕ → List ℕ
tables_lines content = tables_text_of (codes "nv") (close (tables_of content))

-- how a run ends whose memory was refused
abbrev pub status_of_fault : JournalFault → Status
status_of_fault image.NvFault = status.NvFault
status_of_fault (image.UnknownFormat version) = status.BadImage (image.UnknownFormat version)
status_of_fault (image.BadRecord at) = status.BadImage (image.BadRecord at)
status_of_fault image.GenerationsSpent = status.BadImage image.GenerationsSpent

-- How a run with this memory ended. On Done all of its tables were written, and on a fault of writing a front of them; else
-- nothing was. The first argument says whether the sink tells what was written.
abbrev pub Told : Bool → Status → List ℕ → List ℕ → List ℕ → Type 0
Told tells status.Done content before after = (image_fault content ≡ None) × (IsTrue tells → after ≡ before ++ tables_lines content)
Told tells status.WriteFault content before after =
    (image_fault content ≡ None) × ((n : ℕ) × (IsTrue tells → after ≡ before ++ take n (tables_lines content)))
Told tells status.NoMemory content before after = (image_fault content ≡ None) × (IsTrue tells → after ≡ before)
Told tells (status.BadImage why) content before after = (image_fault content ≡ Some why) × (IsTrue tells → after ≡ before)
Told tells status.NvFault content before after = IsTrue tells → after ≡ before
Told tells status.BadWords content before after = ⊥
Told tells (status.BadSchedule line why) content before after = ⊥
Told tells (status.Undetected line) content before after = ⊥
Told tells status.ReadFault content before after = ⊥
Told tells (status.TooMany count) content before after = ⊥

-- how a run with the word `tables` can end, whatever the memory
abbrev pub IsOfTables : Status → Type 0
IsOfTables status.Done = Unit {0}
IsOfTables status.WriteFault = Unit {0}
IsOfTables status.NoMemory = Unit {0}
IsOfTables status.NvFault = Unit {0}
IsOfTables (status.BadImage why) = Unit {0}
IsOfTables status.BadWords = ⊥
IsOfTables (status.BadSchedule line why) = ⊥
IsOfTables (status.Undetected line) = ⊥
IsOfTables status.ReadFault = ⊥
IsOfTables (status.TooMany count) = ⊥
