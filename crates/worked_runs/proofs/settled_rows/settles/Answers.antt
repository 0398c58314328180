use Rattle.std.proofs.Common.{◌++◌, replicate, arith}
use Rattle.lines_told.specs.lines.Plays.Play.{Round}
use Rattle.world.specs.Worlds.{world_header}
use Rattle.world_settle.proofs.Rounds.{under_own_header}
use Rattle.worked_runs.proofs.settled_rows.settles.Goals as goal

pub settle-requires-clause-room : goal.settle-requires-clause-room
settle-requires-clause-room g c =
    let at = c.played-world.ensures in
    let none = at.2 in
    record { plays = at.0; stands = at.1; few = omega (arith, none, c.requires.most) }

pub quiet-rests-requires : goal.quiet-rests-requires
quiet-rests-requires g c =
    let at = c.played-world.ensures in
    let plays = at.0 ++ replicate c.in-Ok.done Round in
    (plays, (under_own_header c.settle.new.world (world_header c.played-world.result) plays (c.in-Ok.ensures.stands at.0 at.1)).stands)
