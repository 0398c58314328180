use Rattle.std.proofs.lemmas.Result.{IfOk-weaker}
use Rattle.node_sites.specs.declared.wires.Wires.{Wires}
use Rattle.node_sites.proofs.Arrivals.{far_end, near_end, far_taken, near_taken, first_comes}
use Rattle.node_sites.proofs.wires.Wires.comes.Goals as goal

pub returns-then-to : goal.returns-then-to
returns-then-to c l w =
    let to = c.args.to in
    let t = c.take_first in
    let new : Wires = record c.args.self.now { host = t.new.self } in
    rw c.in-NextFrame.is (IfOk-weaker t.result _ _ (λ came f. first_comes to l came (far_taken to l c.if-to.true w f))
    (t.ensures l (far_end to l c.if-to.true w)))

pub returns-else-to : goal.returns-else-to
returns-else-to c l w =
    let to = c.args.to in
    let t = c.take_first-else-to in
    let new : Wires = record c.args.self.now { controller = t.new.self } in
    rw c.in-NextFrame.is (IfOk-weaker t.result _ _ (λ came f. first_comes to l came (near_taken to l c.if-to.false w f))
    (t.ensures l (near_end to l c.if-to.false w)))
