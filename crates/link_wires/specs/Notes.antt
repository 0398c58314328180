-- What is noted at an end of a link.
use Rattle.std.specs.Prelude.{◌≡◌, if◌then◌else◌, List, ◌++◌}
use Rattle.trace_model.specs.declared.entry.Entry.{Entry}
use Rattle.trace_model.specs.declared.line.End.{End}
use Rattle.link_laws.specs.entries.Entries.{End as Which, Entry as Noted}
use Rattle.link_laws.specs.entries.Entries.End.{Controller, Host}
use Rattle.history.specs.Steps.{entries_for}

-- which of the two ends of its link an end is
abbrev pub side_of : End → Which
side_of at = if at.at_host then Host else Controller

-- these are noted behind those before
abbrev pub AreNoted : End → List Entry → List Entry → List Noted → Type 0
AreNoted at before now notes = now ≡ before ++ entries_for at.link notes
