use Rattle.std.proofs.Common.{◌-◌, ap}
use Rattle.nv_journal.proofs.Standing.{first_gate}
use Rattle.nv_journal.proofs.journal.Journal.first.Goals as goal

pub returns-clause-gate : goal.returns-clause-gate
returns-clause-gate g c =
    let k = c.self.inside in
    rw (← c.self.view_is)
    (λ live tells. first_gate (g.N.Nv.content k.nv) k.state (c.self.invariant.says live tells) (c.next_place.result - k.state.size)
    (ap (λ n. n - k.state.size) c.next_place.ensures.place))
