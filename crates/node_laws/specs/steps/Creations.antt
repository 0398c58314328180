-- When a controller commits and asks for creations.
use Rattle.std.specs.Prelude.{◌≡◌, ◌⊎◌, ℕ, ◌≤◌, ◌==◌, ◌&&◌, true, false, List, Some}
use Rattle.std.specs.List.{AllByRecursion}
use Rattle.hci_tables.specs.declared.command.Command.{Command}
use Rattle.hci_tables.specs.declared.command.Command.TheVariants.{Create, Clear, Set}
use Rattle.hci_tables.specs.Tables.{HciTables}
use Rattle.tables_laws.specs.gate.Rules.{EndsAtController, IsAskedFor}
use Rattle.node_machine.specs.Parts.{Creation, Port, Deed}
use Rattle.node_machine.specs.Parts.Deed.{Commits, Asks}
use Rattle.node_machine.specs.Carrying.{port_at}
use Rattle.node_machine.specs.Controller.{asked_at, is_asked_at, view_for}

-- a command is that of a creation for which this host is asked, and which waits for its answer
pub record IsWaitedFor (ports : List Port) (h : ℕ) (c : Command) : Type 0 where
  pub port : Port
  pub creation : Creation
  pub here : port_at ports h ≡ Some port
  pub asked : asked_at port ≡ Some creation
  pub command : creation.command ≡ c

-- A deed of a message from the host h is allowed: a pipe that is made at once ends at the controller, any other one is that of a
-- creation that h was asked for; and a host is asked only while it is connected and its whitelist holds the asker, which is h.
abbrev pub IsAllowedDeed : HciTables → List Port → ℕ → Deed → Type 0
IsAllowedDeed t ports h (Commits c) = EndsAtController c ⊎ IsWaitedFor ports h c
IsAllowedDeed t ports h (Asks to message creation) = IsAskedFor t (view_for t ports h) h to creation.command × (creation.asker ≡ h)
IsAllowedDeed t ports h _ = Unit {0}

-- all of them are
abbrev pub AreAllowedDeeds : HciTables → List Port → ℕ → List Deed → Type 0
AreAllowedDeeds t ports h deeds = AllByRecursion (IsAllowedDeed t ports h) deeds

-- ## Whitelists

-- a command neither sets nor clears the whitelist of this host
abbrev pub LeavesWhitelist : ℕ → Command → Type 0
LeavesWhitelist x (Set host gate param value) = (host == x && param == 3) ≡ false
LeavesWhitelist x (Clear host) = (host == x) ≡ false
LeavesWhitelist x _ = Unit {0}

-- what is committed leaves it
abbrev pub DeedLeavesWhitelist : ℕ → Deed → Type 0
DeedLeavesWhitelist x (Commits c) = LeavesWhitelist x c
DeedLeavesWhitelist x _ = Unit {0}

-- this host has the notice of a creation to answer
pub record IsBeingAsked (ports : List Port) (x : ℕ) : Type 0 where
  pub some : 1 ≤ x
  pub most : x ≤ 7
  pub port : Port
  pub here : port_at ports x ≡ Some port
  pub asked : is_asked_at port ≡ true

-- the command of the creation that this host is asked for makes a pipe
abbrev pub IsMaking : Command → Type 0
IsMaking (Create row) = Unit {0}
IsMaking _ = ⊥

abbrev pub WaitsForPipes : List Port → ℕ → Type 0
WaitsForPipes ports h =
    (p : Port) (creation : Creation) → port_at ports h ≡ Some p → asked_at p ≡ Some creation → IsMaking creation.command
