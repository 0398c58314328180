use Rattle.tables_laws.proofs.gate.Decisions.{decided_tells_others}
use Rattle.tables_laws.proofs.gate_decisions.connected_others_are_told.Goals as goal

pub returns : goal.returns
returns c = decided_tells_others
