-- What a node keeps in a step, by what was noted of it before and in the step.
use Rattle.std.specs.Prelude.{◌≡◌, ◌⊎◌, ℕ, suc, ◌-◌, ◌^◌, min, true, false, List, [], ◌∷◌, ◌++◌, take, length, map, Option, Some, None, IsSome}
use Rattle.std.specs.List.{AllByRecursion}
use Rattle.swp_base.specs.InMemory.{Memory}
use Rattle.trace_model.specs.declared.entry.Entry.{Entry}
use Rattle.trace_model.specs.declared.entry.Entry.TheVariants as entry
use Rattle.journal_laws.specs.Banks.{current}
use Rattle.journal_laws.specs.Writes.{Write}
use Rattle.journal_laws.specs.Journal.{count_of}
use Rattle.journal_laws.specs.Planned.{fails_within, after_planned}
use Rattle.hci_tables.specs.declared.command.Command.{Command}
use Rattle.hci_tables.specs.Commands.{IsCommand}
use Rattle.hci_tables.specs.Bodies.{body_of}
use Rattle.hci_tables.specs.Tables.{AreTables, no_tables, after_commands}
use Rattle.hci_store.specs.Recordable.{IsRecordable}
use Rattle.hci_store.specs.Committing.{commit_writes}
use Rattle.node_machine.specs.Parts.{About, Notice, Port, Work}
use Rattle.node_machine.specs.Parts.About.{Waits, Forgotten, Removed}
use Rattle.node_machine.specs.Carrying.{noting, loses_power}
use Rattle.node_machine.specs.world.NodeFilters.{Book, book_in, commands_in, tables_in}
use Rattle.node_machine.specs.world.NodeLegal.{Last, last_in, FindsCommands, IsAllowedBy}
use Rattle.node_machine.specs.world.NodeLegal.Last.{CutBehindCommand}
use Rattle.node_laws.specs.steps.Waiting.{MayWait}
use Rattle.node_laws.specs.kept.Finds.{BootFinds, Knows, FindsRoom}
use Rattle.node_laws.specs.kept.Reckonings.{reckoning_of, MakeOf}

-- ## Entries

-- the entry tells nothing of what a node keeps
abbrev pub IsPlain : Entry → Type 0
IsPlain (entry.Command n c) = ⊥
IsPlain (entry.AnyOk n k) = ⊥
IsPlain (entry.Booted n k) = ⊥
IsPlain (entry.Cut n) = ⊥
IsPlain _ = Unit {0}

-- where it does, it is of this node
abbrev pub IsOf : ℕ → Entry → Type 0
IsOf n (entry.Command m c) = m ≡ n
IsOf n (entry.AnyOk m k) = m ≡ n
IsOf n (entry.Booted m k) = m ≡ n
IsOf n (entry.Cut m) = m ≡ n
IsOf n _ = Unit {0}

-- A boot finds the commands that were noted, and with ANY_OK they are counted: a journal's count stops at 4,294,967,295. What a
-- controller commits is allowed by its tables.
abbrev pub IsTold : List Entry → Entry → Type 0
IsTold front (entry.AnyOk n k) = k ≡ min (length (commands_in front n)) (2 ^ 32 - 1)
IsTold front (entry.Booted n k) = FindsCommands front n k
IsTold front (entry.Command n c) = n ≡ 0 → IsAllowedBy (tables_in front n) c
IsTold front _ = Unit {0}

-- so it is with all entries behind these
abbrev pub AreToldBehind : List Entry → List Entry → Type 0
AreToldBehind front [] = Unit {0}
AreToldBehind front (x ∷ es) = IsTold front x × AreToldBehind (front ++ x ∷ []) es

-- ## Memories

-- What a boot would find: all commands, or all but the last one, where the power went in that one's writes. A memory without a bank
-- in use has no commands to lose.
pub record WouldFind (content : List ℕ) (book : Book) (last : Last) : Type 0 where
  pub many : ℕ
  pub which : (many ≡ length book.commands) ⊎ ((suc many ≡ length book.commands) × (last ≡ CutBehindCommand) × IsSome (current content))
  pub finds : BootFinds content (after_commands no_tables (take many book.commands)) (min many (2 ^ 32 - 1))

-- ## A step

-- a creation that waits is a command that may be recorded
abbrev pub WaitsAbout : About → Type 0
WaitsAbout (Waits c) = IsCommand c.command
WaitsAbout Forgotten = Unit {0}
WaitsAbout Removed = Unit {0}

abbrev pub WaitsFor : Option Notice → Type 0
WaitsFor None = Unit {0}
WaitsFor (Some n) = WaitsAbout n.about

abbrev pub WaitsAt : Port → Type 0
WaitsAt p = WaitsFor p.desk.notice

-- the hosts of ends
abbrev pub hosts_of_ends : List Port → List ℕ
hosts_of_ends ports = map (λ (p : Port). p.desk.host) ports

-- The node n has links to these hosts, had this memory as the step began, and these entries were noted before. It runs: it keeps
-- exactly the tables and the count of the commands that were noted, and its memory holds them; the entries make this memory.
pub record StillRuns (n : ℕ) (hosts : List ℕ) (old : Memory) (before : List Entry) (w : Work) : Type 0 where
  pub on : w.cut ≡ false
  pub memory : Memory
  pub written : (more : List Write) → after_planned (w.writes ++ more) old ≡ after_planned more memory
  pub plan_is : w.plan ≡ memory.plan
  pub made : MakeOf n (reckoning_of true (book_in before n) old) w.entries memory
  pub number : w.core.node ≡ n
  pub hosts_are : hosts_of_ends w.ports ≡ hosts
  pub knows : Knows memory.content w.core.journal w.core.tables
  pub sorted : AreTables w.core.tables
  pub recordable : IsRecordable w.core.tables
  pub tables_are : w.core.tables ≡ (book_in (before ++ w.entries) n).tables
  pub count_is : count_of w.core.journal ≡ min (length (commands_in (before ++ w.entries) n)) (2 ^ 32 - 1)
  pub told : AreToldBehind before w.entries
  pub own : AllByRecursion (IsOf n) w.entries
  pub waits : AllByRecursion WaitsAt w.ports
  pub allowed : n ≡ 0 → MayWait w.core.tables w.ports

-- A node ran so, and lost its power in the writes of this command, which may be recorded and finds room.
pub record HasLostIn (n : ℕ) (old : Memory) (before : List Entry) (command : Command) (w : Work) : Type 0 where
  pub hosts : List ℕ
  pub work : Work
  pub ran : StillRuns n hosts old before work
  pub may : IsCommand command
  pub room : FindsRoom work.core.journal command
  pub fails : fails_within (length (commit_writes work.core.journal work.core.tables (body_of command))) work.plan ≡ true
  pub is : w ≡ loses_power (commit_writes work.core.journal work.core.tables (body_of command)) (noting (entry.Command work.core.node command ∷ []) work)

-- it has lost its power in a write, and its memory holds all commands that were noted, or all but the last one
pub record HasLostPower (n : ℕ) (old : Memory) (before : List Entry) (w : Work) : Type 0 where
  pub off : w.cut ≡ true
  pub command : Command
  pub lost : HasLostIn n old before command w
  pub would : WouldFind (after_planned w.writes old).content (book_in (before ++ w.entries) n) (last_in (before ++ w.entries) n)
  pub told : AreToldBehind before w.entries
  pub own : AllByRecursion (IsOf n) w.entries
