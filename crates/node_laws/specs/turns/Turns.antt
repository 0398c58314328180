-- What an end got and what had its turn there, by what was noted.
use Rattle.std.specs.Prelude.{◌≡◌, List, [], ◌++◌}
use Rattle.std.specs.List.{filter_map}
use Rattle.trace_model.specs.declared.entry.Entry.{Entry}
use Rattle.trace_model.specs.declared.line.End.{End}
use Rattle.link_laws.specs.machine.Machine.{Message}
use Rattle.node_machine.specs.world.NodeLegal.{since_boot, got_entry, turn_entry_at, node_number}

-- The messages that an end got since its node booted are those that had their turns, and then these.
abbrev pub AreLeft : End → List Entry → List Message → Type 0
AreLeft e t messages =
    filter_map (got_entry e) (since_boot (node_number e) [] t)
    ≡ filter_map (turn_entry_at e) (since_boot (node_number e) [] t) ++ messages
