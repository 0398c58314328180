-- Creations that wait, and what whitelists say of them.
use Rattle.std.specs.Prelude.{◌≡◌, ℕ, IsTrue, List, Some}
use Rattle.hci_tables.specs.declared.command.Command.{Command}
use Rattle.hci_tables.specs.declared.command.Command.TheVariants.{Create}
use Rattle.hci_tables.specs.Commands.{IsCommand}
use Rattle.hci_tables.specs.Tables.{HciTables, apply}
use Rattle.gate_admin.specs.Decide.{allows}
use Rattle.node_machine.specs.Parts.{Creation, Port, Deed}
use Rattle.node_machine.specs.Parts.Deed.{Commits, Asks}
use Rattle.node_machine.specs.Carrying.{port_at}
use Rattle.node_machine.specs.Controller.{asked_at}
use Rattle.node_machine.specs.world.NodeLegal.{IsAllowedBy}

-- a command makes a pipe that ends at this host, whose whitelist holds the creator
abbrev pub IsAllowedFor : HciTables → ℕ → Command → Type 0
IsAllowedFor t h (Create row) = (row.dest ≡ h) × IsTrue (allows t h row.creator)
IsAllowedFor t h _ = ⊥

-- so it is with all creations that wait
abbrev pub MayWait : HciTables → List Port → Type 0
MayWait t ports = (x : ℕ) (p : Port) (c : Creation) → port_at ports x ≡ Some p → asked_at p ≡ Some c → IsAllowedFor t x c.command

-- A commit is allowed by the tables just before it, and behind it the creations that wait are still allowed; and so is one that a
-- host is asked for.
abbrev pub IsAllowedStill : HciTables → List Port → Deed → Type 0
IsAllowedStill t ports (Commits c) = IsAllowedBy t c × (IsCommand c → MayWait (apply t c) ports)
IsAllowedStill t ports (Asks to message creation) = IsAllowedFor t to creation.command
IsAllowedStill t ports _ = Unit {0}
