use Rattle.hci_store.proofs.Committed.{close-close, close-apply}
use Rattle.hci_store.proofs.laws.closing_first_changes_nothing.Goals as goal

pub returns : goal.returns
returns c = record { twice = close-close; before = close-apply }
