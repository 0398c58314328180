use Rattle.nv_journal.proofs.Words.{ap, bodies_of, length, used, ◌∙◌}
use Rattle.nv_journal.proofs.Snapshotting.{size_of_bytes}
use Rattle.nv_journal.proofs.snapshot.Snapshot.as_bytes.Goals as goal

pub returns-clause-len : goal.returns-clause-len
returns-clause-len c =
    let s = c.self.inside in
    ap length c.as_slice.ensures.value ∙ size_of_bytes s.bytes.items s.many (bodies_of s.bytes.items) c.self.invariant ∙ ap used c.self.view_is
