use Rattle.nv_journal.proofs.Words.{ap, bodies_of, used, ◌∙◌}
use Rattle.nv_journal.proofs.Snapshotting.{size_of_bytes}
use Rattle.nv_journal.proofs.snapshot.Snapshot.used.Goals as goal

pub returns-clause-used : goal.returns-clause-used
returns-clause-used c =
    let s = c.self.inside in
    c.len.ensures.value ∙ size_of_bytes s.bytes.items s.many (bodies_of s.bytes.items) c.self.invariant ∙ ap used c.self.view_is
