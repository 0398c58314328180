-- What a world keeps of its controller's notices at a moment between events, by what was noted so far.
use Rattle.std.specs.Prelude.{◌≡◌, ℕ, ◌==◌, false, List, Option, Some, None}
use Rattle.std.specs.List.{AllByRecursion}
use Rattle.trace_model.specs.Lines.{IsHost}
use Rattle.trace_model.specs.declared.entry.Entry.{Entry}
use Rattle.shdlc_core.specs.declared.answers.LinkState.TheVariants.{Down}
use Rattle.hci_tables.specs.Commands.{IsCommand}
use Rattle.hci_tables.specs.Tables.{AreTables}
use Rattle.tables_laws.specs.tables.Changes.{JoinTwo}
use Rattle.link_laws.specs.machine.Machine.{LinkEnd, is_open}
use Rattle.node_machine.specs.Parts.{Creation, About, Notice, Desk, Running}
use Rattle.node_machine.specs.Parts.About.{Waits, Forgotten, Removed}
use Rattle.node_machine.specs.world.World.{NodeWorld, Site}
use Rattle.node_machine.specs.world.NodeFilters.{is_notice, notice_in, asking_in}
use Rattle.node_laws.specs.telling.Telling.{IsOrderly}
use Rattle.node_laws.specs.readings.Noticed.{NoticesAreUp}
use Rattle.node_laws.specs.notices.Notices.{IsKeptNotice, notice_at}

-- a creation that waits is a command that may be recorded, and the answer that its asker gets is no notice
abbrev pub IsRight : Creation → Type 0
IsRight c = IsCommand c.command × (is_notice c.answer ≡ false)

abbrev pub IsRightAbout : About → Type 0
IsRightAbout (Waits c) = IsRight c
IsRightAbout Forgotten = Unit {0}
IsRightAbout Removed = Unit {0}

abbrev pub IsRightNotice : Option Notice → Type 0
IsRightNotice None = Unit {0}
IsRightNotice (Some n) = IsRightAbout n.about

-- A controller that runs keeps the notices that are read. Its tables are sorted, and each pipe joins two hosts.
pub record ControllerReads (t : List Entry) (r : Running) : Type 0 where
  pub sorted : AreTables r.core.tables
  pub two : JoinTwo r.core.tables.rows
  pub right : AllByRecursion (λ (d : Desk). IsRightNotice d.notice) r.desks
  pub kept : (h : ℕ) → IsKeptNotice (notice_in t h) (notice_at r.desks h)

-- none is read while it doesn't run, nor that a creation waits
abbrev pub IfReads : List Entry → Option Running → Type 0
IfReads t None = (h : ℕ) → (notice_in t h ≡ None) × (asking_in t h ≡ None)
IfReads t (Some r) = ControllerReads t r

-- an end that isn't active is Down
abbrev pub IsShut : LinkEnd → Type 0
IsShut e = is_open e.role ≡ false → e.shdlc.phase ≡ Down

-- the node of a host isn't the controller
abbrev pub IfHostNode : Option Running → Type 0
IfHostNode None = Unit {0}
IfHostNode (Some r) = (r.core.node == 0) ≡ false

-- a site is that of a host from 01 to 07, and the controller's end of its link is Down unless it is active
pub record IsGoodSite (s : Site) : Type 0 where
  pub host : IsHost s.host
  pub node : IfHostNode s.node
  pub shut : IsShut s.link.controller.side

-- so it is in a world, which is orderly, and whose notices stand at ends that are up
pub record KeepsNotices (t : List Entry) (w : NodeWorld) : Type 0 where
  pub orderly : IsOrderly w
  pub up : NoticesAreUp w
  pub sites : AllByRecursion IsGoodSite w.sites
  pub controller : IfReads t w.controller
