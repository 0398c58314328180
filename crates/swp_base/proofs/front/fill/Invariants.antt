use Rattle.std.proofs.Common.{◌≡◌}
use Rattle.swp_base.specs.Outside.{overwritten}
use Rattle.swp_base.specs.InMemory.{cycled}
use Rattle.swp_base.proofs.front.fill.Given as goal

abbrev pub invariant-loop-i : goal.invariant-loop-i
invariant-loop-i l = l.memory ≡ overwritten l.fn.memory l.at (cycled l.bytes l.i)
