-- What a world keeps of the creations that wait at a moment between events, by what was noted so far.
use Rattle.std.specs.Prelude.{◌≡◌, ℕ, ◌+◌, ◌≤◌, ◌==◌, true, false, List, [], length, Option, Some, None}
use Rattle.std.specs.List.{AllByRecursion}
use Rattle.trace_model.specs.declared.entry.Entry.{Entry}
use Rattle.shdlc_core.specs.declared.answers.LinkState.TheVariants.{Up}
use Rattle.pipe_table.specs.declared.row.PipeRow.{PipeRow}
use Rattle.hci_tables.specs.declared.command.Command.{Command}
use Rattle.hci_tables.specs.declared.command.Command.TheVariants.{Create}
use Rattle.gate_answers.specs.declared.response.Response.TheVariants as response
use Rattle.gate_answers.specs.Answers.{answer_of}
use Rattle.gate_admin.specs.Decide.{ends_of}
use Rattle.link_laws.specs.machine.Machine.{LinkEnd, in_use}
use Rattle.node_machine.specs.Parts.{Creation, Desk, Running}
use Rattle.node_machine.specs.Controller.{creation_in}
use Rattle.node_machine.specs.world.World.{NodeWorld, Site, link_to}
use Rattle.node_machine.specs.world.NodeFilters.{Book, book_in, asking_in}
use Rattle.node_laws.specs.kept.Worlds.{AllKeep}
use Rattle.node_laws.specs.notices.Worlds.{KeepsNotices}
use Rattle.node_laws.specs.creations.Creations.{creations_of, IsReadSo}

-- ## Pipes

-- a pipe of the tables of a controller: its creator is a host, its destination another node, and it leads to no gate 00 of the
-- controller
pub record IsProper (row : PipeRow) : Type 0 where
  pub host : (row.creator == 0) ≡ false
  pub two : (row.creator == row.dest) ≡ false
  pub gate : (row.dest == 0) ≡ true → (row.dest_gate == 0) ≡ false

-- a command creates only such pipes
abbrev pub IsProperCommand : Command → Type 0
IsProperCommand (Create row) = IsProper row
IsProperCommand _ = Unit {0}

abbrev pub AreProper : List PipeRow → Type 0
AreProper rows = AllByRecursion IsProper rows

-- so it is with what is read of a controller
pub record IsProperBook (b : Book) : Type 0 where
  pub commands : AllByRecursion IsProperCommand b.commands
  pub tables : AreProper b.tables.rows

-- ## Creations

-- a creation makes such a pipe of its asker, and its answer says which
pub record IsAwaited (c : Creation) : Type 0 where
  pub row : PipeRow
  pub command : c.command ≡ Create row
  pub asker : row.creator ≡ c.asker
  pub proper : IsProper row
  pub answer : c.answer ≡ answer_of response.Ok (ends_of row)

abbrev pub IfAwaited : Option Creation → Type 0
IfAwaited None = Unit {0}
IfAwaited (Some c) = IsAwaited c

-- the end of a controller on the link with a host whose creations these are: a block is set aside for each, and it is up while one
-- waits; no more blocks are in use and set aside than there are, and nothing is sent in no session
pub record HasSetAside (creations : List Creation) (e : LinkEnd) : Type 0 where
  pub room : in_use e + e.aside ≤ 128
  pub forgot : (e.shdlc.phase ≡ Up → ⊥) → e.sent ≡ []
  pub aside : e.aside ≡ length creations
  pub up : (creations ≡ [] → ⊥) → e.shdlc.phase ≡ Up

-- ## Worlds

abbrev pub AreAwaited : Option Running → Type 0
AreAwaited None = Unit {0}
AreAwaited (Some r) = AllByRecursion (λ (d : Desk). IfAwaited (creation_in d.notice)) r.desks

-- no block is set aside at the end of a host
abbrev pub HasNoneAside : Site → Type 0
HasNoneAside s = s.link.host.side.aside ≡ 0

-- The creation of each host is the one that is read, and a block is set aside for its answer; hosts set none aside.
pub record KeepsCreations (hosts : List ℕ) (t : List Entry) (w : NodeWorld) : Type 0 where
  pub kept : AllKeep hosts t w
  pub notices : KeepsNotices t w
  pub book : IsProperBook (book_in t 0)
  pub due : AreAwaited w.controller
  pub read : (h : ℕ) → IsReadSo (asking_in t h) (creations_of w.controller h)
  pub ends : (h : ℕ) → HasSetAside (creations_of w.controller h) (link_to w.sites h).controller.side
  pub hosts_aside : AllByRecursion HasNoneAside w.sites
