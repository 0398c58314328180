-- What the nodes of a world keep at a moment between events, by what was noted so far.
use Rattle.std.specs.Prelude.{◌≡◌, ℕ, ◌-◌, ◌^◌, ◌==◌, ◌&&◌, true, false, min, List, [], ◌∷◌, length, map, Option, Some, None}
use Rattle.std.specs.List.{AllByRecursion}
use Rattle.swp_base.specs.InMemory.{Memory}
use Rattle.trace_model.specs.declared.entry.Entry.{Entry}
use Rattle.journal_laws.specs.Journal.{count_of}
use Rattle.hci_tables.specs.Tables.{AreTables}
use Rattle.hci_store.specs.Recordable.{IsRecordable}
use Rattle.node_machine.specs.Parts.{Desk, Running}
use Rattle.node_machine.specs.Controller.{is_command_message}
use Rattle.node_machine.specs.world.World.{NodeWorld, Site, Happening, node_at, port_for}
use Rattle.node_machine.specs.world.World.Happening.{IsCut, Gives}
use Rattle.node_machine.specs.world.NodeFilters.{new_book, book_in, commands_in, tables_in}
use Rattle.node_machine.specs.world.NodeLegal.{last_in}
use Rattle.link_laws.specs.messages.Links.{NumberedEnd}
use Rattle.node_laws.specs.steps.Waiting.{MayWait}
use Rattle.node_laws.specs.kept.Finds.{Knows}
use Rattle.node_laws.specs.kept.Books.{WaitsFor, WouldFind}
use Rattle.node_machine.specs.Orders.{IsOnOrder}

-- The node n, with links to these hosts, runs over this memory: its tables and its count are those that are read off the entries,
-- and its memory holds them.
pub record RunsSo (n : ℕ) (hosts content : List ℕ) (t : List Entry) (r : Running) : Type 0 where
  pub number : r.core.node ≡ n
  pub hosts_are : map (λ (d : Desk). d.host) r.desks ≡ hosts
  pub knows : Knows content r.core.journal r.core.tables
  pub sorted : AreTables r.core.tables
  pub recordable : IsRecordable r.core.tables
  pub tables_are : r.core.tables ≡ tables_in t n
  pub count_is : count_of r.core.journal ≡ min (length (commands_in t n)) (2 ^ 32 - 1)
  pub on : IsOnOrder r.core.command r.core.init
  pub waits : AllByRecursion (λ (d : Desk). WaitsFor d.notice) r.desks
  pub allowed : n ≡ 0 → (near_ends : ℕ → NumberedEnd) → MayWait r.core.tables (map (λ (d : Desk). port_for (near_ends d.host) d) r.desks)

-- where it runs
abbrev pub IfRuns : ℕ → List ℕ → List ℕ → List Entry → Option Running → Type 0
IfRuns n hosts content t None = Unit {0}
IfRuns n hosts content t (Some r) = RunsSo n hosts content t r

-- so it is while it runs, and always a boot would find its commands, or all but one that was cut
pub record NodeKeeps (n : ℕ) (hosts : List ℕ) (t : List Entry) (m : Memory) (node : Option Running) : Type 0 where
  pub would : WouldFind m.content (book_in t n) (last_in t n)
  pub runs : IfRuns n hosts m.content t node

-- a host keeps it so
abbrev pub SiteKeeps : List Entry → Site → Type 0
SiteKeeps t s = NodeKeeps s.host (s.host ∷ []) t s.memory s.node

-- this node is neither the controller nor one of these hosts
abbrev pub IsStranger : List ℕ → ℕ → Type 0
IsStranger hosts n = ((n == 0) ≡ false) × AllByRecursion (λ h. (h == n) ≡ false) hosts

-- the controller and all hosts keep it so, and nothing is read of any other node
pub record AllKeep (hosts : List ℕ) (t : List Entry) (w : NodeWorld) : Type 0 where
  pub controller : NodeKeeps 0 hosts t w.memory w.controller
  pub hosts_are : map (λ (s : Site). s.host) w.sites ≡ hosts
  pub sites : AllByRecursion (SiteKeeps t) w.sites
  pub strangers : (n : ℕ) → IsStranger hosts n → book_in t n ≡ new_book

-- a node whose power is cut runs, and a host that sends a command on pipe 01 has none that isn't answered
abbrev pub MayHappen : NodeWorld → Happening → Type 0
MayHappen w (IsCut n) = (r : Running) × (node_at w n ≡ Some r)
MayHappen w (Gives e m) = (r : Running) → node_at w e.link ≡ Some r → (m.0 == 1 && is_command_message m.1) ≡ true → r.core.command ≡ None
MayHappen w _ = Unit {0}
