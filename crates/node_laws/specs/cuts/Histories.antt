-- What is read of a node with its memory off a history: which commands its boots find, and where its power goes.
use Rattle.std.specs.Prelude.{◌≡◌, ℕ, suc, ◌-◌, ◌^◌, ◌==◌, min, take, Bool, true, false, if◌then◌else◌, List, [], ◌∷◌, ◌++◌, length, replicate, Some}
use Rattle.std.specs.List.{fold, list_any}
use Rattle.trace_model.specs.declared.entry.Entry.{Entry}
use Rattle.trace_model.specs.declared.entry.Entry.TheVariants as entry
use Rattle.trace_model.specs.Lines.{IsNodeOf}
use Rattle.swp_base.specs.InMemory.{Memory}
use Rattle.hci_tables.specs.declared.command.Command.{Command}
use Rattle.hci_tables.specs.Bodies.{body_of}
use Rattle.hci_tables.specs.Tables.{no_tables, after_commands}
use Rattle.hci_store.specs.Committing.{record_fits}
use Rattle.journal_laws.specs.Journal.{state_of, is_open_beside}
use Rattle.journal_laws.specs.Operations.{format_writes}
use Rattle.journal_laws.specs.Planned.{fails_within, after_planned}
use Rattle.node_machine.specs.Node.{boot_writes}
use Rattle.node_machine.specs.world.World.{Happening, new_memory, new_world, memory_at}
use Rattle.node_machine.specs.world.World.Happening.{Boots, IsCut, Arms}
use Rattle.node_machine.specs.world.Lines.{Occurrence}
use Rattle.node_machine.specs.world.NodeHistories.{NodeHistory, occurrences_in, entries_in}
use Rattle.node_machine.specs.world.NodeFilters.{new_book, commands_in}
use Rattle.node_machine.specs.world.NodeLegal.{Kept, last_in}
use Rattle.node_machine.specs.world.NodeLegal.Last.{CutBehindCommand}
use Rattle.node_laws.specs.kept.Finds.{BootFinds}
use Rattle.node_laws.specs.kept.Reckonings.{Reckoning, reckoning_of, writes_of, reckoned, EachIsAsRead}
use Rattle.node_laws.specs.telling.Telling.{world_behind}

-- ## Reckonings

-- as an event begins: a boot of this node formats a memory that says nothing, and a write of its memory is to fail from now on
abbrev pub begun_by : ℕ → Happening → Reckoning → Reckoning
begun_by n (Boots node) r = if node == n then record r { memory = after_planned (boot_writes r.memory.content) r.memory } else r
begun_by n (Arms node plan) r = if node == n then record r { memory = record r.memory { plan = Some plan } } else r
begun_by n _ r = r

-- within an event, behind these entries of it
abbrev pub reckoned_within : ℕ → Happening → Reckoning → List Entry → Reckoning
reckoned_within n cause r es = fold (reckoned n) (begun_by n cause r) es

abbrev pub with_event : ℕ → Reckoning → Occurrence → Reckoning
with_event n r o = reckoned_within n o.cause r o.entries

-- What is read of a node with its memory: it is blank at first, plans are set and boots format it, and commands are written to it.
abbrev pub reckoning_in : List Occurrence → ℕ → Reckoning
reckoning_in events n = fold (with_event n) (reckoning_of false new_book (new_memory (replicate 65536 255))) events

-- ## Which commands are found

-- one of these hosts
abbrev pub is_one_of : List ℕ → ℕ → Bool
is_one_of hosts h = list_any (λ k. k == h) hosts

-- a boot finds all but the last one of these commands exactly where that one is lost, and else all
abbrev pub FindsBy : Bool → ℕ → ℕ → Type 0
FindsBy true found all = suc found ≡ all
FindsBy false found all = found ≡ all

abbrev pub FindsExactly : Reckoning → ℕ → Type 0
FindsExactly r found = FindsBy r.lost found (length r.book.commands)

-- a boot behind these entries finds exactly the commands that are read, and where the last one is lost, the cut stood directly behind it
abbrev pub IsFoundExactly : List Entry → ℕ → Reckoning → ℕ → Type 0
IsFoundExactly t n r found = FindsBy r.lost found (length (commands_in t n)) × (r.lost ≡ true → last_in t n ≡ CutBehindCommand)

-- Each boot finds all commands of its node, but for the last one exactly where the power went directly behind it, and the write at which
-- it went wasn't that command's last one, or left its gate closed.
abbrev pub AreFoundExactly : NodeHistory → Type 0
AreFoundExactly t =
    (front back : List Occurrence) (o : Occurrence) (before behind : List Entry) (n found : ℕ) → IsNodeOf t.header.hosts.items n
    → occurrences_in t ≡ front ++ (o ∷ back) → o.entries ≡ before ++ (entry.Booted n found ∷ behind)
    → IsFoundExactly (entries_in front ++ before) n (reckoned_within n o.cause (reckoning_in front n) before) found

-- The history stands in the memories: at the end of each event that of each node is what is read.
abbrev pub StandsInMemories : NodeHistory → Type 0
StandsInMemories t =
    (front back : List Occurrence) (n : ℕ) → IsNodeOf t.header.hosts.items n → occurrences_in t ≡ front ++ back
    → memory_at (world_behind (new_world t.header.hosts.items) front) n ≡ (reckoning_in front n).memory

-- ## Where the power goes

-- a boot of this node is cut exactly where one of its writes fails, and else finds exactly the commands that are read
abbrev pub IsBootedBy : Bool → ℕ → Reckoning → List Entry → Type 0
IsBootedBy true n r es = es ≡ entry.Cut n ∷ []
IsBootedBy false n r es = (found : ℕ) × (es ≡ entry.Booted n found ∷ []) × FindsExactly r found

-- A cut of this node comes in its boot or directly behind a command exactly where a write fails, or by a line that asks for it.
abbrev pub IsCutAsPlanned : ℕ → Reckoning → Happening → List Entry → Type 0
IsCutAsPlanned n r (Boots node) es = by_node (node == n) where
  by_node : Bool → Type 0
  by_node true = IsBootedBy (fails_within (length (boot_writes r.memory.content)) r.memory.plan) n r es
  by_node false = EachIsAsRead n r es
IsCutAsPlanned n r (IsCut node) es = es ≡ entry.Cut node ∷ []
IsCutAsPlanned n r cause es = EachIsAsRead n (begun_by n cause r) es × ((reckoned_within n cause r es).due ≡ false)

-- So it is at each event.
abbrev pub AreCutAsPlanned : NodeHistory → Type 0
AreCutAsPlanned t =
    (front back : List Occurrence) (o : Occurrence) (n : ℕ) → IsNodeOf t.header.hosts.items n → occurrences_in t ≡ front ++ (o ∷ back)
    → IsCutAsPlanned n (reckoning_in front n) o.cause o.entries

-- ## How many writes there are

-- the entry is a boot of this node
abbrev pub is_boot_of : ℕ → Entry → Bool
is_boot_of n (entry.Booted node found) = node == n
is_boot_of n _ = false

-- this boots the node
abbrev pub boots_it : ℕ → Happening → Bool
boots_it n (Boots node) = node == n
boots_it n _ = false

-- Where a node has booted, a boot writes nothing; and where none of its boots was even begun, it makes the two writes of a format.
abbrev pub BootsWriteSo : NodeHistory → Type 0
BootsWriteSo t =
    (front back : List Occurrence) (n : ℕ) → IsNodeOf t.header.hosts.items n → occurrences_in t ≡ front ++ back
    → (list_any (is_boot_of n) (entries_in front) ≡ true → boot_writes (reckoning_in front n).memory.content ≡ [])
    × (list_any (λ (o : Occurrence). boots_it n o.cause) front ≡ false → boot_writes (reckoning_in front n).memory.content ≡ format_writes)

-- A command makes two writes. Where its record doesn't fit, two more make a snapshot before, and a third one closes the gate of the other
-- bank where that stands open.
abbrev pub so_many_writes : Command → Memory → ℕ
so_many_writes c m = if record_fits (state_of m.content) (body_of c) then 2 else (if is_open_beside m.content then 5 else 4)

-- Where a node has booted, each command would make so many at the end of each event.
abbrev pub CommandsWriteSo : NodeHistory → Type 0
CommandsWriteSo t =
    (front back : List Occurrence) (n : ℕ) (c : Command) → IsNodeOf t.header.hosts.items n → occurrences_in t ≡ front ++ back
    → list_any (is_boot_of n) (entries_in front) ≡ true → length (writes_of c (reckoning_in front n)) ≡ so_many_writes c (reckoning_in front n).memory

-- ## What stands in a memory

-- A boot would find the tables of all commands that are read, but for a last one that is lost, and count them.
pub record HoldsCommands (r : Reckoning) : Type 0 where
  pub many : ℕ
  pub which : FindsBy r.lost many (length r.book.commands)
  pub finds : BootFinds r.memory.content (after_commands no_tables (take many r.book.commands)) (min many (2 ^ 32 - 1))

-- So it is with each node at the end of each event.
abbrev pub MemoriesHold : NodeHistory → Type 0
MemoriesHold t =
    (front back : List Occurrence) (n : ℕ) → IsNodeOf t.header.hosts.items n → occurrences_in t ≡ front ++ back → HoldsCommands (reckoning_in front n)

-- Commands are kept over power cuts, and exactly these; the power goes as it is planned, and the history stands in the memories.
pub record KeptExactly (t : NodeHistory) : Type 0 where
  pub kept : Kept t
  pub found : AreFoundExactly t
  pub cut : AreCutAsPlanned t
  pub boots : BootsWriteSo t
  pub commands : CommandsWriteSo t
  pub holds : MemoriesHold t
  pub stands : StandsInMemories t
