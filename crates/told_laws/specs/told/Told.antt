-- What is told of a history.
use Rattle.std.specs.Prelude.{List, ◌∷◌, ◌++◌}
use Rattle.std.specs.List.{flat_map}
use Rattle.trace_model.specs.declared.entry.Entry.{Entry}
use Rattle.trace_model.specs.declared.entry.Entry.TheVariants.{Head, Echo}
use Rattle.history.specs.Histories.{History, Step, noted}

-- a line, and what is noted below it
abbrev pub step_told : Step → List Entry
step_told step = Echo step.line ∷ noted step.outcome

-- the entries of the transcript of a history: its header, its opening, and its lines, each with what is noted below it
abbrev pub entries_told : History → List Entry
entries_told t = Head t.header ∷ (t.opening ++ flat_map step_told t.steps)
