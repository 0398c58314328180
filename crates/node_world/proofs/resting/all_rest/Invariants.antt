use Rattle.node_world.proofs.Words.{AreTimely, MayGoOn, NodeWorld, WorldIs}
use Rattle.node_world.proofs.LinksRest.{RestSoFar}
use Rattle.node_world.proofs.resting.all_rest.Given as goal

-- the links of so many hosts are at rest there
abbrev pub invariant-loop-i : goal.invariant-loop-i
invariant-loop-i l = (w : NodeWorld) → WorldIs l.controller l.sites w → MayGoOn w → AreTimely w → RestSoFar l.i w.sites
