use Rattle.std.specs.Prelude.{All}
use Rattle.lines_told.specs.lines.Below.{IsPlayedLine}
use Rattle.world.specs.Worlds.{world_header}
use Rattle.worked_runs.proofs.SettledRows.{StandsBehindLines}
use Rattle.worked_runs.proofs.settled_rows.played.Given as goal

-- the world of host 02 stands behind so many lines, and may play all of them
abbrev pub invariant-loop-line : goal.invariant-loop-line
invariant-loop-line g l =
    record {
      lines : All (IsPlayedLine (world_header l.world)) l.lines;
      stands : StandsBehindLines l.world l.line-index;
    }
