use Rattle.std.proofs.Common.{◌≡◌, length}
use Rattle.worked_runs.proofs.cuts.full_memory.Given as goal

abbrev pub invariant-loop-position : goal.invariant-loop-position
invariant-loop-position g l = length l.nv.content ≡ 65536
