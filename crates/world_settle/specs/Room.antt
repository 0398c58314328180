-- Which world has room to settle.
use Rattle.std.specs.Prelude.{ℕ, ◌+◌, ◌≤◌, List}
use Rattle.lines_told.specs.lines.Plays.{Play, rounds_played}
use Rattle.world.specs.declared.world_steps.World.{World}
use Rattle.world.specs.Worlds.{IsWorldAt, world_header}

-- it stands behind so few rounds that with so many more they aren't more than a schedule has
pub record HasRoomForRounds (w : World) (rounds : ℕ) : Type 0 where
  pub plays : List Play
  pub stands : IsWorldAt w (world_header w) plays
  pub few : rounds_played plays + rounds ≤ 400000000
