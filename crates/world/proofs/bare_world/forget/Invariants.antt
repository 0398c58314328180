use Rattle.std.specs.Vec.{vec_len}
use Rattle.world.proofs.bare_world.forget.Given as goal

abbrev pub decreases-entries : goal.decreases-entries
decreases-entries l = vec_len l.entries
