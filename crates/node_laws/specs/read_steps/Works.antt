-- What a controller keeps in the midst of a step, by what was noted before the step and in it.
use Rattle.std.specs.Prelude.{◌≡◌, ℕ, ◌==◌, true, false, is_some, List, [], ◌++◌, map, Option, Some, None}
use Rattle.std.specs.List.{AllByRecursion, fold}
use Rattle.swp_base.specs.InMemory.{Memory}
use Rattle.trace_model.specs.Lines.{IsHost}
use Rattle.trace_model.specs.declared.entry.Entry.{Entry}
use Rattle.hci_tables.specs.Tables.{AreTables}
use Rattle.tables_laws.specs.tables.Changes.{JoinTwo}
use Rattle.node_machine.specs.Parts.{Creation, Desk, Port, Work}
use Rattle.node_machine.specs.Carrying.{port_at}
use Rattle.node_machine.specs.Controller.{has_link, creation_in}
use Rattle.node_machine.specs.world.World.{end_c}
use Rattle.node_machine.specs.world.NodeFilters.{book_in, tables_in, notice_in, asking_in, session_now}
use Rattle.node_laws.specs.links.Notices.{IsNoticedUp, OnFirst}
use Rattle.node_laws.specs.kept.Books.{hosts_of_ends, StillRuns}
use Rattle.node_machine.specs.Orders.{IsOnOrder}
use Rattle.node_laws.specs.notices.Notices.{IsKeptNotice, notice_at}
use Rattle.node_laws.specs.notices.Worlds.{IsRightNotice}
use Rattle.node_laws.specs.creations.Creations.{creations_at, IsReadSo}
use Rattle.node_laws.specs.creations.Worlds.{AreProper, IsProperBook, IfAwaited, HasSetAside}
use Rattle.node_laws.specs.cuts.Histories.{is_one_of}
use Rattle.node_laws.specs.read_steps.Names.{AreNamed}
use Rattle.node_laws.specs.views.Errors.{errors_after, no_errors, errors_in}

-- ## What is kept

-- what is kept of the ends of a node
abbrev pub desks_of : List Port → List Desk
desks_of ports = map (λ (p : Port). p.desk) ports

-- blocks are set aside at an end for these creations, and none wait where there is no end
abbrev pub HasAsideAt : List Creation → Option Port → Type 0
HasAsideAt creations None = creations ≡ []
HasAsideAt creations (Some p) = HasSetAside creations p.side

-- REC_ERROR of the end of the link with a host is what is read, and no command that sets it waits for its answer
pub record HasErrorsRead (t : List Entry) (ports : List Port) (h : ℕ) : Type 0 where
  pub settled : (fold (errors_after (end_c h)) no_errors t).sets ≡ None
  pub at_ends : AllByRecursion (λ (p : Port). (p.desk.host == h) ≡ true → p.desk.errors ≡ errors_in t (end_c h)) ports

-- A controller with links to these hosts is in a step, before which these entries were noted, and has its power: its tables, its notices,
-- the creations that wait, the blocks that are set aside for them, and REC_ERROR are what is read off all entries until there.
pub record KeepsInStep (hosts : List ℕ) (t : List Entry) (w : Work) : Type 0 where
  pub on : w.cut ≡ false
  pub node : w.core.node ≡ 0
  pub hosts_are : hosts_of_ends w.ports ≡ hosts
  pub tables : w.core.tables ≡ tables_in (t ++ w.entries) 0
  pub sorted : AreTables w.core.tables
  pub two : JoinTwo w.core.tables.rows
  pub proper : AreProper w.core.tables.rows
  pub book : IsProperBook (book_in (t ++ w.entries) 0)
  pub right : AllByRecursion (λ (p : Port). IsRightNotice p.desk.notice) w.ports
  pub up : (h : ℕ) → OnFirst IsNoticedUp (port_at w.ports h)
  pub notices : (h : ℕ) → IsKeptNotice (notice_in (t ++ w.entries) h) (notice_at (desks_of w.ports) h)
  pub awaited : AllByRecursion (λ (p : Port). IfAwaited (creation_in p.desk.notice)) w.ports
  pub creations : (h : ℕ) → IsReadSo (asking_in (t ++ w.entries) h) (creations_at (desks_of w.ports) h)
  pub asides : (h : ℕ) → HasAsideAt (creations_at (desks_of w.ports) h) (port_at w.ports h)
  pub errors : (h : ℕ) → IsHost h → HasErrorsRead (t ++ w.entries) w.ports h

-- So it is, and its memory holds what it has committed, as the entries say.
pub record RunsInStep (hosts : List ℕ) (t : List Entry) (w : Work) : Type 0 where
  pub keeps : KeepsInStep hosts t w
  pub memory : Memory
  pub kept : StillRuns 0 hosts memory t w
  pub order : IsOnOrder w.core.command w.core.init

-- So it is, and each notice of a creation that was sent names the host that it went to.
pub record ReadsInStep (hosts : List ℕ) (t : List Entry) (w : Work) : Type 0 where
  pub runs : RunsInStep hosts t w
  pub named : AreNamed (t ++ w.entries)

-- ## Links

-- the controller's end of the link with each of these hosts is up exactly where a session of it is read
abbrev pub LinksAreRead : List ℕ → List Entry → List Port → Type 0
LinksAreRead hosts t ports = (h : ℕ) → is_one_of hosts h ≡ true → has_link ports h ≡ is_some (session_now t (end_c h) 0)
