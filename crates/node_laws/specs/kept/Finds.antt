-- What a boot finds in a memory.
use Rattle.std.specs.Prelude.{◌≡◌, ℕ, ◌+◌, ◌≤◌, true, List, length, IsSome}
use Rattle.journal_laws.specs.declared.state.State.{State}
use Rattle.journal_laws.specs.Journal.{journal, records, state_of, count_of}
use Rattle.hci_tables.specs.declared.command.Command.{Command}
use Rattle.hci_tables.specs.Tables.{HciTables}
use Rattle.hci_store.specs.Stored.{Keeps}
use Rattle.node_machine.specs.Carrying.{has_room_for}

-- A boot on this memory finds these tables, all pipes closed, and counts so many commands. What it finds is of version 02, and no
-- head names more records of a snapshot than its base and its records make.
pub record BootFinds (content : List ℕ) (tables : HciTables) (many : ℕ) : Type 0 where
  pub size : 65536 ≤ length content
  pub version : (journal content).head.version ≡ 2
  pub enough : (journal content).head.snapshot ≤ (journal content).head.base + length (records content)
  pub keeps : Keeps content tables many

-- a node that runs knows this of the journal in its memory, and has these tables, as a boot would find them but for open pipes
pub record Knows (content : List ℕ) (state : State) (tables : HciTables) : Type 0 where
  pub state_is : state_of content ≡ state
  pub in_use : IsSome state.in_use
  pub finds : BootFinds content tables (count_of state)

-- the record of a command fits into this journal, or one more generation is there for a snapshot
abbrev pub FindsRoom : State → Command → Type 0
FindsRoom s c = has_room_for s c ≡ true
