use Rattle.nv_journal.proofs.Words.{IsReadSoFar, IsTrue, ◌-◌, ◌≡◌, ◌≤◌}
use Rattle.nv_journal.proofs.scan.Scan.pass_all.Given as goal

abbrev pub invariant-records : goal.invariant-records
invariant-records g l = record {
  count : g.N.Nv.faults l.initial.self.nv ≤ g.N.Nv.faults l.self.nv;
  kept : IsTrue g.N.Nv.tells → g.N.Nv.content l.self.nv ≡ g.N.Nv.content l.initial.self.nv;
  read : (first : g.row.N.Denot) → IsReadSoFar g.N.Nv.reads first l.initial.self → IsReadSoFar g.N.Nv.reads first l.self;
}

abbrev pub decreases-records : goal.decreases-records
decreases-records g l = 32756 - l.self.state.size
