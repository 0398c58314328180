use Rattle.std.proofs.Common.{◌-◌}
use Rattle.hci_store.proofs.Words.{IsRecordable, IsTrue, records, ◌≡◌, ◌≤◌}
use Rattle.nv_journal.specs.Scanning.{IsReadSoFar}
use Rattle.hci_store.proofs.Committed.{AreApplied}
use Rattle.hci_store.proofs.records.apply_all.Given as goal

abbrev pub invariant-records : goal.invariant-records
invariant-records g l = record {
  count : g.N.Nv.faults l.initial.scan.nv ≤ g.N.Nv.faults l.scan.nv;
  kept : IsTrue g.N.Nv.tells → g.N.Nv.content l.scan.nv ≡ g.N.Nv.content l.initial.scan.nv;
  read : (first : g.row.N.Denot) → IsReadSoFar g.N.Nv.reads first l.initial.scan → IsReadSoFar g.N.Nv.reads first l.scan;
  recordable : IsRecordable l.tables;
  so_far : IsTrue g.N.Nv.tells → AreApplied (records (g.N.Nv.content l.initial.scan.nv)) l.scan.state.many l.tables;
}

abbrev pub decreases-records : goal.decreases-records
decreases-records g l = 32756 - l.scan.state.size
