use Rattle.tables_laws.proofs.gate.Decisions.{decided_as_allowed}
use Rattle.tables_laws.proofs.gate_decisions.creations_are_asked_as_allowed.Goals as goal

pub returns : goal.returns
returns c = decided_as_allowed
