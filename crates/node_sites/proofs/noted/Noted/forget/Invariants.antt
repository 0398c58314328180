use Rattle.std.proofs.Common.{◌≡◌}
use Rattle.std.specs.Vec.{vec_len}
use Rattle.node_sites.proofs.noted.Noted.forget.Given as goal

abbrev pub invariant-entries : goal.invariant-entries
invariant-entries l = l.self.short ≡ l.fn.self.short

abbrev pub decreases-entries : goal.decreases-entries
decreases-entries l = vec_len l.self.entries
