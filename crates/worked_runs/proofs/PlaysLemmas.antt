-- A world stands behind one line more.
use Rattle.std.proofs.Common.{◌≡◌, ℕ, ◌+◌, List, [], ◌∷◌, ◌++◌, sym, ap, subst, append_assoc, arith}
use Rattle.trace_model.specs.declared.line.Header.{Header}
use Rattle.trace_model.specs.declared.line.Line.{Line}
use Rattle.lines_told.specs.lines.Plays.{Play, lines_said}
use Rattle.lines_told.specs.lines.Plays.Play.{Said}
use Rattle.lines_told.proofs.lines.Told.{one_said}
use Rattle.world.specs.declared.world_steps.World.{World}
use Rattle.world.specs.Worlds.{IsWorldAt, world_header}

pub one_more : (w v : World) (before : List Play) (n : ℕ)
    → (more : List Play) × IsWorldAt w (world_header w) (before ++ more) × (lines_said (before ++ more) ≡ lines_said before + n)
    → ((ps : List Play) → IsWorldAt w (world_header w) ps → (line : Line) × IsWorldAt v (world_header w) (ps ++ Said line ∷ []))
    → world_header v ≡ world_header w
    → (more : List Play) × IsWorldAt v (world_header v) (before ++ more) × (lines_said (before ++ more) ≡ lines_said before + (n + 1))
one_more w v before n so_far goes header =
    let at : List Play = before ++ so_far.0 in
    let next = goes at so_far.1 in
    let one : List Play = Said next.0 ∷ [] in
    let same : at ++ one ≡ before ++ (so_far.0 ++ one) = append_assoc before so_far.0 one in
    let said = one_said at next.0 in
    let long = ap lines_said same in
    let few = so_far.2 in (
      so_far.0 ++ one,
      subst (IsWorldAt v (world_header v)) same (subst (λ (h : Header). IsWorldAt v h (at ++ one)) (sym header) next.1),
      omega (arith, said, long, few),
    )
