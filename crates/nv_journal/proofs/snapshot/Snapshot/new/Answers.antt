use Rattle.nv_journal.proofs.Snapshotting.{no_bodies, no_records}
use Rattle.nv_journal.proofs.snapshot.Snapshot.new.Goals as goal

pub invariant_of-result : goal.invariant_of-result
invariant_of-result c = no_records c.new.result.items c.new.ensures

pub returns : goal.returns
returns c = no_bodies c.new.result.items c.new.ensures
