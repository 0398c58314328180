use Rattle.std.proofs.Common.{◌∙◌}
use Rattle.nv_journal.proofs.PassedSteps.{next_gate_is}
use Rattle.nv_journal.proofs.scan.Scan.place.Goals as goal

pub returns-clause-gate : goal.returns-clause-gate
returns-clause-gate g c = λ tells.
    let k = c.self.inside in
    let old = c.self.invariant in
    rw (← c.self.view_is)
    (c.next_place.ensures.place ∙ next_gate_is (g.N.Nv.content k.nv) k.state k.ahead k.ended (old.says tells) old.idle old.few old.inside old.known)
