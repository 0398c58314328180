-- What the lines of a round are, and what makes them lines that may be played.
use Rattle.std.specs.Prelude.{◌≡◌, List, map, None}
use Rattle.trace_model.specs.declared.line.Header.{Header}
use Rattle.trace_model.specs.declared.line.Line.{Line}
use Rattle.trace_model.specs.declared.line.Line.TheVariants as saying
use Rattle.trace_model.specs.Lines.{IsEndOf}
use Rattle.node_machine.specs.world.World.{Site}
use Rattle.lines_told.specs.lines.Below.{nodes_behind}

-- a line of a round: an end of a link of this world takes all that stands on its wire, or time passes once
abbrev pub IsRoundLine : Header → Line → Type 0
IsRoundLine header (saying.Deliver e None) = IsEndOf header e
IsRoundLine header (saying.Tick None) = Unit {0}
IsRoundLine header line = ⊥

-- a world of nodes has the hosts of its header behind any lines
abbrev pub HostsStay : Header → Type 0
HostsStay header = (before : List Line) → map (λ (s : Site). s.host) (nodes_behind header before).sites ≡ header.hosts.items
