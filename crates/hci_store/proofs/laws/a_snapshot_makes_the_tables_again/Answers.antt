use Rattle.hci_store.proofs.Committed.{snapshot_again}
use Rattle.hci_store.proofs.laws.a_snapshot_makes_the_tables_again.Goals as goal

pub returns : goal.returns
returns c = snapshot_again
