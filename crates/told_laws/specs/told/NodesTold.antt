-- What is told of a history of a world of nodes.
use Rattle.std.specs.Prelude.{List, ◌∷◌}
use Rattle.std.specs.List.{flat_map}
use Rattle.trace_model.specs.declared.entry.Entry.{Entry}
use Rattle.trace_model.specs.declared.entry.Entry.TheVariants.{Head, Echo}
use Rattle.node_machine.specs.world.Lines.{noted_below}
use Rattle.node_machine.specs.world.NodeHistories.{LineStep, NodeHistory}
use Rattle.lines_told.specs.lines.Below.{entries_below}

-- a line, and what is noted below it
abbrev pub line_told : LineStep → List Entry
line_told step = Echo step.line ∷ entries_below (noted_below step.outcome)

-- the entries of the transcript of a history of nodes: its header, and its lines, each with what is noted below it
abbrev pub nodes_told : NodeHistory → List Entry
nodes_told t = Head t.header ∷ flat_map line_told t.steps
