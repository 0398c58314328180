-- What is wrong with a memory image.
use Rattle.std.specs.Prelude.{◌≡◌, ℕ, Bool, IsTrue, ◌==◌, ◌||◌, if◌then◌else◌, List, length, Option, None, Some}
use Rattle.nv_journal.specs.declared.JournalFault.{JournalFault}
use Rattle.nv_journal.specs.declared.JournalFault.TheVariants.{UnknownFormat, BadRecord}
use Rattle.journal_laws.specs.Journal.{journal, records, gate_at}

-- the versions that are known
abbrev pub is_known : ℕ → Bool
is_known version = version == 1 || version == 2

abbrev pub IsKnown : ℕ → Type 0
IsKnown version = IsTrue (is_known version)

-- the version of the bank in use, or else its first bad record
abbrev pub fault : List ℕ → Option JournalFault
fault content =
    if is_known (journal content).head.version
    then (if (journal content).found.is_bad then Some (BadRecord (gate_at content (length (records content)))) else None)
    else Some (UnknownFormat (journal content).head.version)

-- a memory has this fault, behind so many records
pub record IsFaulty (content : List ℕ) (many : ℕ) (f : JournalFault) : Type 0 where
  pub fault_is : fault content ≡ Some f
  pub last : length (records content) ≡ many
