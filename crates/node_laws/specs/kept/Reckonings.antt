-- What is read of a node with its memory: what was noted of it says which writes were made, and a plan which of them failed.
use Rattle.std.specs.Prelude.{◌≡◌, ℕ, ◌==◌, ◌&&◌, Bool, true, false, not, if◌then◌else◌, List, [], ◌∷◌, length, Option}
use Rattle.std.specs.List.{fold}
use Rattle.swp_base.specs.InMemory.{Memory, Plan}
use Rattle.trace_model.specs.declared.entry.Entry.{Entry}
use Rattle.trace_model.specs.declared.entry.Entry.TheVariants as entry
use Rattle.journal_laws.specs.Writes.{Write}
use Rattle.journal_laws.specs.Journal.{state_of}
use Rattle.journal_laws.specs.Planned.{fails_within, after_planned}
use Rattle.hci_tables.specs.declared.command.Command.{Command}
use Rattle.hci_tables.specs.Bodies.{body_of}
use Rattle.hci_store.specs.Committing.{commit_writes}
use Rattle.node_machine.specs.world.NodeFilters.{Book, with_command, with_found}
use Rattle.node_laws.specs.kept.Gates.{opens_gate}

pub record Reckoning : Type 0 where
  -- it has booted since its last cut
  pub runs : Bool
  -- its commands so far, and its tables
  pub book : Book
  -- its bytes, and the write that is to fail
  pub memory : Memory
  -- a write of its last command has failed, and the cut that comes of it isn't noted yet
  pub due : Bool
  -- that write wasn't the last one of the command, or left its gate closed: the command isn't in the memory
  pub lost : Bool

-- nothing is due, and no command is lost
abbrev pub reckoning_of : Bool → Book → Memory → Reckoning
reckoning_of runs book memory = record { runs = runs; book = book; memory = memory; due = false; lost = false }

-- what a command writes
abbrev pub writes_of : Command → Reckoning → List Write
writes_of c r = commit_writes (state_of r.memory.content) r.book.tables (body_of c)

-- one of so many writes fails, and that isn't the last one, or it leaves the gate closed
abbrev pub is_lost : ℕ → Option Plan → Bool
is_lost many plan = fails_within many plan && not (opens_gate many plan)

-- a command is written
abbrev pub with_written : Command → Reckoning → Reckoning
with_written c r = record {
  runs = r.runs;
  book = with_command c r.book;
  memory = after_planned (writes_of c r) r.memory;
  due = fails_within (length (writes_of c r)) r.memory.plan;
  lost = is_lost (length (writes_of c r)) r.memory.plan;
}

-- what is read of this node after an entry
abbrev pub reckoned : ℕ → Reckoning → Entry → Reckoning
reckoned n r (entry.Command node c) = if node == n then with_written c r else r
reckoned n r (entry.Booted node k) = if node == n then record r { runs = true; book = with_found k r.book; lost = false } else r
reckoned n r (entry.Cut node) = if node == n then record r { runs = false; due = false } else r
reckoned n r _ = r

-- the entry is a cut of this node
abbrev pub is_cut_of : ℕ → Entry → Bool
is_cut_of n (entry.Cut node) = node == n
is_cut_of n _ = false

-- where it doesn't boot, this node commits and counts only while it runs
abbrev pub IsAsRead : ℕ → Reckoning → Entry → Type 0
IsAsRead n r (entry.Booted node found) = node ≡ n → ⊥
IsAsRead n r (entry.Command node c) = node ≡ n → r.runs ≡ true
IsAsRead n r (entry.AnyOk node k) = node ≡ n → r.runs ≡ true
IsAsRead n r _ = Unit {0}

-- Each of these entries comes as what is read before it says, and a cut of the node exactly where one is due.
abbrev pub EachIsAsRead : ℕ → Reckoning → List Entry → Type 0
EachIsAsRead n r [] = Unit {0}
EachIsAsRead n r (e ∷ es) = (is_cut_of n e ≡ r.due) × IsAsRead n r e × EachIsAsRead n (reckoned n r e) es

-- These entries of a node that runs make this memory, each as it is read; it runs on, no cut is due behind them, and no command is lost.
pub record MakeOf (n : ℕ) (r : Reckoning) (es : List Entry) (m : Memory) : Type 0 where
  pub on : (fold (reckoned n) r es).runs ≡ true
  pub memory_is : (fold (reckoned n) r es).memory ≡ m
  pub none_due : (fold (reckoned n) r es).due ≡ false
  pub none_lost : (fold (reckoned n) r es).lost ≡ false
  pub each : EachIsAsRead n r es
