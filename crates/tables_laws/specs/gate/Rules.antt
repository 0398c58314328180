-- What must hold of a decision, in the words of the laws.
use Rattle.std.specs.Prelude.{◌≡◌, ℕ, ◌<◌, false, not, ◌&&◌, ◌==◌, List, IsTrue}
use Rattle.std.specs.List.{list_all}
use Rattle.pipe_table.specs.declared.row.PipeRow.{PipeRow}
use Rattle.pipe_table.specs.PipeRows.{IsDynamic, is_free}
use Rattle.hci_tables.specs.declared.command.Command.{Command}
use Rattle.hci_tables.specs.declared.command.Command.TheVariants.{Create, Delete, Clear, SetOpened, Set, Sync}
use Rattle.hci_tables.specs.Tables.{HciTables}
use Rattle.gate_admin.specs.declared.view.LinkView.{LinkView}
use Rattle.gate_admin.specs.declared.decision.Decision.{Decision}
use Rattle.gate_admin.specs.declared.decision.Decision.TheVariants.{Answer, Commit, Ask}
use Rattle.gate_admin.specs.View.{is_connected, mask_of}
use Rattle.gate_admin.specs.Decide.{allows}

-- what was known when a host is asked for a pipe
pub record AskedFor (t : HciTables) (v : LinkView) (host dest : ℕ) (row : PipeRow) : Type 0 where
  pub creator : row.creator ≡ host
  pub asked : row.dest ≡ dest
  pub allowed : IsTrue (allows t dest host)
  pub connected : IsTrue (is_connected v dest)
  pub free : IsTrue (is_free t.rows v.waiting.items row.pid)

-- a host is asked for creations alone
abbrev pub IsAskedFor : HciTables → LinkView → ℕ → ℕ → Command → Type 0
IsAskedFor t v host dest (Create row) = AskedFor t v host dest row
IsAskedFor t v host dest (Delete pid) = ⊥
IsAskedFor t v host dest (Clear other) = ⊥
IsAskedFor t v host dest (SetOpened other pid opened) = ⊥
IsAskedFor t v host dest (Set other gate param value) = ⊥
IsAskedFor t v host dest (Sync other id) = ⊥

-- a pipe that is made at once ends at the controller
abbrev pub EndsAtController : Command → Type 0
EndsAtController (Create row) = row.dest ≡ 0
EndsAtController (Delete pid) = Unit {0}
EndsAtController (Clear host) = Unit {0}
EndsAtController (SetOpened host pid opened) = Unit {0}
EndsAtController (Set host gate param value) = Unit {0}
EndsAtController (Sync host id) = Unit {0}

abbrev pub AsksAsAllowed : HciTables → LinkView → ℕ → Decision → Type 0
AsksAsAllowed t v host (Answer answer) = Unit {0}
AsksAsAllowed t v host (Commit command answer tell notice) = EndsAtController command
AsksAsAllowed t v host (Ask dest notice command answer) = IsAskedFor t v host dest command

-- a mask of connected hosts other than one
abbrev pub AreOthers : LinkView → ℕ → ℕ → Type 0
AreOthers v host tell = (told : List ℕ) × (tell ≡ mask_of told) × IsTrue (list_all (λ other. is_connected v other && not (other == host)) told)

abbrev pub TellsOthers : LinkView → ℕ → Decision → Type 0
TellsOthers v host (Answer answer) = Unit {0}
TellsOthers v host (Commit command answer tell notice) = AreOthers v host tell
TellsOthers v host (Ask dest notice command answer) = Unit {0}

-- a dynamic pipe that is free, below which none is
pub record IsLeastFree (rows : List PipeRow) (kept : List ℕ) (pid : ℕ) : Type 0 where
  pub dynamic : IsDynamic pid
  pub free : IsTrue (is_free rows kept pid)
  pub least : (other : ℕ) → IsDynamic other → other < pid → is_free rows kept other ≡ false
