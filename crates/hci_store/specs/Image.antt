-- What the records of a memory are as commands: the tables that they make, and the first one that is none.
use Rattle.std.specs.Prelude.{ℕ, ◌+◌, Bool, if◌then◌else◌, List, [], ◌∷◌, fold, Option, None, Some, is_some}
use Rattle.std.specs.Option.{option_map_or}
use Rattle.std.specs.List.{list_all}
use Rattle.nv_journal.specs.declared.JournalFault.{JournalFault}
use Rattle.nv_journal.specs.declared.JournalFault.TheVariants.{BadRecord}
use Rattle.journal_laws.specs.Journal.{journal, records, gate_at}
use Rattle.nv_journal.specs.Faults.{is_known, fault}
use Rattle.hci_tables.specs.Tables.{HciTables, no_tables, apply}
use Rattle.hci_tables.specs.Bodies.{command_of}

-- the tables behind one more record; one that is no command changes nothing
abbrev pub applied : HciTables → List ℕ → HciTables
applied t body = option_map_or (apply t) (command_of body) t

-- the tables of a memory: `apply` folded over its records, from empty tables
abbrev pub tables_of : List ℕ → HciTables
tables_of content = fold applied no_tables (records content)

-- all these bodies are commands
abbrev pub are_commands : List (List ℕ) → Bool
are_commands bodies = list_all (λ body. is_some (command_of body)) bodies

-- the place in the list of the first body that is no command, counted from here
abbrev pub first_other : ℕ → List (List ℕ) → Option ℕ
first_other k [] = None
first_other k (body ∷ bodies) = if is_some (command_of body) then first_other (k + 1) bodies else Some k

-- what is wrong with a memory: an unknown version, or else the first record that is bad or no command
unfoldable pub image_fault : List ℕ → Option JournalFault
image_fault content =
    if is_known (journal content).head.version
    then option_map_or (λ k. Some (BadRecord (gate_at content k))) (first_other 0 (records content)) (fault content)
    else fault content
