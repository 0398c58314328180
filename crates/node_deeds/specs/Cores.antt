-- A node's core as its code keeps it, and what its code asks for.
use Rattle.std.specs.Prelude.{◌≡◌, ℕ, ◌<◌, ◌≤◌, ◌⊎◌, List, [], ◌∷◌, length, Option, Some, None, IsTrue, IsSome}
use Rattle.std.specs.List.{AllByRecursion}
use Rattle.journal_laws.specs.declared.state.State.{State}
use Rattle.pipe_table.specs.declared.row.PipeRow.{PipeRow}
use Rattle.hci_tables.specs.declared.command.Command.{Command}
use Rattle.hci_tables.specs.declared.command.Command.TheVariants.{Create}
use Rattle.hci_tables.specs.Commands.{IsCommand}
use Rattle.hci_tables.specs.Tables.{HciTables}
use Rattle.hci_store.specs.Stored.{Stored}
use Rattle.gate_answers.specs.declared.response.Response.TheVariants as response
use Rattle.gate_answers.specs.Answers.{answer_of}
use Rattle.gate_admin.specs.declared.decision.Decision.{Decision}
use Rattle.gate_admin.specs.declared.decision.Decision.TheVariants.{Answer, Commit, Ask}
use Rattle.gate_admin.specs.View.{has, hosts_where}
use Rattle.gate_admin.specs.Decide.{ends_of}
use Rattle.node_machine.specs.Parts.{Core}
use Rattle.node_deeds.specs.declared.desks.Desk.{Desk as KeptDesk}
use Rattle.node_deeds.specs.declared.deeds.Deed.{Deed as KeptDeed}
use Rattle.node_deeds.specs.declared.deeds.Deed.TheVariants as kept
use Rattle.node_deeds.specs.Shown.{Handling, awaited_row}

-- the core of a controller over this journal and these tables
abbrev pub controller_core : State → HciTables → Core
controller_core journal tables = record { node = 0; journal = journal; tables = tables; command = None; init = None }

-- a message that is handled at a controller
abbrev pub handled : ℕ → List ℕ → Handling
handled pipe message = record { node = 0; init = None; message = (pipe, message) }

-- a store keeps the journal and the tables of this core
pub record IsCoreOf {N : Type 0} (s : Stored N) (core : Core) : Type 0 where
  pub journal : core.journal ≡ s.journal.state
  pub tables : core.tables ≡ s.tables

-- a store that was started and may be asked for room
pub record IsReady {N : Type 0} (s : Stored N) : Type 0 where
  pub live : IsTrue s.journal.live
  pub started : IsSome s.journal.state.in_use
  pub version : s.journal.state.version ≡ 2

-- the pipe of a creation that waits, where there is one, may be made
abbrev pub IsSoundRow : Option PipeRow → Type 0
IsSoundRow None = Unit {0}
IsSoundRow (Some row) = IsCommand (Create row)

abbrev pub IsSoundDesk : KeptDesk → Type 0
IsSoundDesk d = IsSoundRow (awaited_row d)

abbrev pub AreSoundDesks : List KeptDesk → Type 0
AreSoundDesks desks = AllByRecursion IsSoundDesk desks

-- a deed can be carried out: its command may be recorded, its message isn't empty and goes over a pipe
abbrev pub IsDoable : KeptDeed → Type 0
IsDoable (kept.Commits c) = IsCommand c
IsDoable (kept.Sends host pipe message) = (pipe < 112) × (0 < length message.items)
IsDoable (kept.Asks row) = IsCommand (Create row)
IsDoable (kept.Tells host message) = 0 < length message.items
IsDoable (kept.Orders order) = 0 < length order.items
IsDoable _ = Unit {0}

abbrev pub AreDoable : List KeptDeed → Type 0
AreDoable deeds = AllByRecursion IsDoable deeds

-- ## Decisions

-- at most six hosts are told, by a notice that isn't empty
pub record TellsFew (tell : ℕ) (notice : List ℕ) : Type 0 where
  pub few : length (hosts_where (has tell)) ≤ 6
  pub said : (hosts_where (has tell) ≡ []) ⊎ (0 < length notice)

-- a host is asked for the creation of a pipe of the asker
pub record AsksForRow (asker asked : ℕ) (notice : List ℕ) (c : Command) (answer : List ℕ) : Type 0 where
  pub row : PipeRow
  pub command : c ≡ Create row
  pub creator : row.creator ≡ asker
  pub dest : row.dest ≡ asked
  pub asks : notice ≡ 18 ∷ ends_of row
  pub answers : answer ≡ answer_of response.Ok (ends_of row)

-- what holds of each decision
abbrev pub IsSoundDecision : ℕ → Decision → Type 0
IsSoundDecision host (Answer answer) = 0 < length answer.items
IsSoundDecision host (Commit c answer tell notice) = (0 < length answer.items) × TellsFew tell notice.items
IsSoundDecision host (Ask asked notice c answer) = AsksForRow host asked notice.items c answer.items
