-- Which commands there are: what a host controller's tables may be asked to become.
use Rattle.std.specs.Prelude.{ℕ, Bool, not, ◌&&◌, ◌==◌, nat_le, nat_lt, if◌then◌else◌, IsTrue, List, length}
use Rattle.whitelist.specs.Whitelist.{is_whitelist}
use Rattle.registry.specs.Values.{is_kept}
use Rattle.hci_tables.specs.declared.command.Command.{Command}
use Rattle.hci_tables.specs.declared.command.Command.TheVariants.{Create, Delete, Clear, SetOpened, Set, Sync}

-- hosts are 00, the controller, and 01 to 07
abbrev pub is_host : ℕ → Bool
is_host host = nat_le host 7

-- dynamic pipes are 02 to 6F, and 00 and 01 are each host's static ones
abbrev pub is_dynamic : ℕ → Bool
is_dynamic pid = nat_le 2 pid && nat_lt pid 112

-- a session identity has eight bytes, and a whitelist is one that the host may set
abbrev pub is_allowed : ℕ → ℕ → List ℕ → Bool
is_allowed host param value = if param == 1 then length value == 8 else is_whitelist host value

-- whether a command may be recorded
abbrev pub is_command : Command → Bool
is_command (Create row) = is_dynamic row.pid && is_host row.creator && is_host row.dest && not (row.creator == row.dest) && not row.opened
is_command (Delete pid) = is_dynamic pid
is_command (Clear host) = is_host host
is_command (SetOpened host pid opened) = is_host host && nat_lt pid 112
is_command (Set host gate param value) = is_kept host gate param && is_allowed host param value.items
is_command (Sync host id) = nat_le 1 host && nat_le host 7

abbrev pub IsCommand : Command → Type 0
IsCommand command = IsTrue (is_command command)
