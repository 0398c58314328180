-- A world stands behind one line more.
use Rattle.std.proofs.Common.{◌≡◌, ℕ, ◌+◌, List, [], ◌∷◌, ◌++◌, sym, subst, ◌∙◌, arith}
use Rattle.trace_model.specs.declared.line.Header.{Header}
use Rattle.trace_model.specs.declared.line.Line.{Line}
use Rattle.lines_told.specs.lines.Plays.{Play, lines_said, rounds_played}
use Rattle.lines_told.specs.lines.Plays.Play.{Said}
use Rattle.lines_told.proofs.lines.Told.{no_more_rounds, one_said}
use Rattle.world.specs.declared.world_steps.World.{World}
use Rattle.world.specs.Worlds.{IsWorldAt, world_header}

-- so many lines were said, and there was no round
pub record StandsBehindLines (w : World) (n : ℕ) : Type 0 where
  pub plays : List Play
  pub stands : IsWorldAt w (world_header w) plays
  pub said : lines_said plays ≡ n
  pub none : rounds_played plays ≡ 0

pub line_more : {w v : World} {n : ℕ} (line : Line) (h : StandsBehindLines w n) → world_header v ≡ world_header w
    → IsWorldAt v (world_header w) (h.plays ++ Said line ∷ []) → StandsBehindLines v (n + 1)
line_more {w} {v} {n} line h header at =
    let more : List Play = h.plays ++ Said line ∷ [] in
    let P : Header → Type 0 = λ x. IsWorldAt v x more in
    let one = one_said h.plays line in
    let said = h.said in
    record { plays = more; stands = subst P (sym header) at; said = omega (arith, one, said); none = no_more_rounds h.plays line ∙ h.none }
