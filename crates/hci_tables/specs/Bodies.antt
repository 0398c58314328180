-- The bodies of records: a kind, and the bytes that it needs. This project's own.
use Rattle.std.specs.Prelude.{ℕ, ◌+◌, ◌*◌, ◌/◌, ◌%◌, true, false, if◌then◌else◌, ◌==◌, nat_le, List, length, [], ◌∷◌, Option, None, Some}
use Rattle.hci_tables.specs.Commands.{is_command}
use Rattle.hci_tables.specs.declared.command.Command.{Command}
use Rattle.hci_tables.specs.declared.command.Command.TheVariants.{Create, Delete, Clear, SetOpened, Set, Sync}

-- the body of a command's record
abbrev pub body_of : Command → List ℕ
body_of (Create row) = 1 ∷ row.pid ∷ row.creator ∷ row.creator_gate ∷ row.dest ∷ row.dest_gate ∷ []
body_of (Delete pid) = 2 ∷ pid ∷ []
body_of (Clear host) = 3 ∷ host ∷ []
body_of (SetOpened host pid opened) = 4 ∷ host ∷ pid ∷ (if opened then 1 else 0) ∷ []
body_of (Set host gate param value) = 5 ∷ host ∷ gate ∷ param ∷ value.items
body_of (Sync host id) = 6 ∷ host ∷ (id / 256) ∷ (id % 256) ∷ []

-- the commands that the bytes behind a kind spell
abbrev pub create_of : List ℕ → Option Command
create_of (pid ∷ creator ∷ creator_gate ∷ dest ∷ dest_gate ∷ []) =
    Some (Create (record { pid = pid; creator = creator; creator_gate = creator_gate; dest = dest; dest_gate = dest_gate; opened = false }))
create_of _ = None

abbrev pub delete_of : List ℕ → Option Command
delete_of (pid ∷ []) = Some (Delete pid)
delete_of _ = None

abbrev pub clear_of : List ℕ → Option Command
clear_of (host ∷ []) = Some (Clear host)
clear_of _ = None

abbrev pub opened_of : List ℕ → Option Command
opened_of (host ∷ pid ∷ flag ∷ []) =
    if flag == 0 then Some (SetOpened host pid false) else (if flag == 1 then Some (SetOpened host pid true) else None)
opened_of _ = None

abbrev pub set_of : List ℕ → Option Command
set_of (host ∷ gate ∷ param ∷ value) = if nat_le (length value) 20 then Some (Set host gate param (record { items = value })) else None
set_of _ = None

abbrev pub sync_in_body : List ℕ → Option Command
sync_in_body (host ∷ high ∷ low ∷ []) = Some (Sync host (high * 256 + low))
sync_in_body _ = None

-- what the bytes of a body spell, whether it may be recorded or not
abbrev pub spelled_by : List ℕ → Option Command
spelled_by [] = None
spelled_by (kind ∷ fields) =
    if kind == 1 then create_of fields else
    (if kind == 2 then delete_of fields else
    (if kind == 3 then clear_of fields else
    (if kind == 4 then opened_of fields else
    (if kind == 5 then set_of fields else
    (if kind == 6 then sync_in_body fields else None)))))

-- a command that may be recorded
abbrev pub if_command : Option Command → Option Command
if_command None = None
if_command (Some command) = if is_command command then Some command else None

-- the command whose body these bytes are: none outside the grammar
abbrev pub command_of : List ℕ → Option Command
command_of body = if_command (spelled_by body)
