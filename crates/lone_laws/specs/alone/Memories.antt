-- What the memory of a node alone holds at the end of a run.
use Rattle.std.specs.Prelude.{◌≡◌, ◌⊎◌, ℕ, ◌+◌, ◌-◌, ◌^◌, ◌<◌, ◌≤◌, min, List, [], ◌∷◌, ◌++◌, length, is_none, Bool, true, false, None}
use Rattle.trace_model.specs.declared.entry.Entry.{Entry}
use Rattle.trace_model.specs.declared.entry.Entry.TheVariants as entry
use Rattle.journal_laws.specs.Journal.{journal, records, count}
use Rattle.journal_laws.specs.Writes.{after_writes}
use Rattle.hci_tables.specs.declared.command.Command.{Command}
use Rattle.hci_tables.specs.Tables.{HciTables, after_commands, close}
use Rattle.hci_store.specs.Image.{tables_of, image_fault}
use Rattle.hci_store.specs.Starting.{ready_writes}
use Rattle.lone_laws.specs.alone.Lone.{Lone}

-- ## What a boot finds

-- Nothing is wrong with this memory, and what a boot finds in it is of version 02, or nothing. So it is with each memory behind a boot.
pub record IsReadyMemory (content : List ℕ) : Type 0 where
  pub size : 65536 ≤ length content
  pub sound : image_fault content ≡ None
  pub version : (journal content).head.version ≡ 2

-- A boot takes this memory: nothing is wrong with it, and one of version 01 has a generation left for the snapshot of version 02.
pub record IsTakenMemory (content : List ℕ) : Type 0 where
  pub size : 65536 ≤ length content
  pub sound : image_fault content ≡ None
  pub next : (journal content).head.version ≡ 1 → (journal content).head.generation < 4294967295

-- what it leaves, once its writes are made
abbrev pub behind_boot : List ℕ → List ℕ
behind_boot content = after_writes (ready_writes content) content

-- a memory that is ready, in which a boot finds these tables, all pipes closed
pub record FindsTables (content : List ℕ) (tables : HciTables) : Type 0 where
  pub ready : IsReadyMemory content
  pub tables_are : close (tables_of content) ≡ close tables

-- The head of the bank in use names no more records of a snapshot than its base and its records make. Where it names more, the records behind
-- it aren't counted until there are as many.
abbrev pub CountsAll : List ℕ → Type 0
CountsAll content = (journal content).head.snapshot ≤ (journal content).head.base + length (records content)

-- each record counts, and a boot counts so many commands
pub record Counts (content : List ℕ) (many : ℕ) : Type 0 where
  pub all : CountsAll content
  pub count_is : count content ≡ many

-- ## Commands

-- the commands among entries, in order
abbrev pub commands_of_entries : List Entry → List Command
commands_of_entries [] = []
commands_of_entries (entry.Command n c ∷ entries) = c ∷ commands_of_entries entries
commands_of_entries (x ∷ entries) = commands_of_entries entries

-- A boot on this memory finds what it would have found in the first one, with these commands carried out, all pipes closed. Where each record of
-- the first one counts, it counts so many more, up to 4,294,967,295.
pub record FindsBehind (first : List ℕ) (commands : List Command) (content : List ℕ) : Type 0 where
  pub finds : FindsTables content (after_commands (close (tables_of first)) commands)
  pub counts : CountsAll first → Counts content (min (count first + length commands) (2 ^ 32 - 1))

-- a boot finds all but the last one of these commands
pub record FindsAllButLast (first : List ℕ) (commands : List Command) (content : List ℕ) : Type 0 where
  pub front : List Command
  pub last : Command
  pub are : commands ≡ front ++ last ∷ []
  pub finds : FindsBehind first front content

-- This memory, which was the first one as the node booted, holds all commands that were noted; where the power went in a write, it may hold all
-- but the last one.
abbrev pub IsKeptIn : Bool → List ℕ → List Command → List ℕ → Type 0
IsKeptIn false first commands content = FindsBehind first commands content
IsKeptIn true first commands content = FindsBehind first commands content ⊎ FindsAllButLast first commands content

-- so it is with the memory of a node alone
abbrev pub IsHeldBehind : List ℕ → List Command → Lone → Type 0
IsHeldBehind first commands l = IsKeptIn (is_none l.node) first commands l.memory.content
