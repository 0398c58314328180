use Rattle.journal_laws.proofs.Planned.{planned_answer, planned_memory}
use Rattle.journal_laws.proofs.planned_writes_are_known.Goals as goal

pub returns : goal.returns
returns c = record { answer = planned_answer; memory = planned_memory }
