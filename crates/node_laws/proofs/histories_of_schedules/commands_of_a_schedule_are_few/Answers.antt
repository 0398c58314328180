use Rattle.node_laws.proofs.bounds.Paying.{asking_few}
use Rattle.node_laws.proofs.schedules.Few.{bounded, are_few}
use Rattle.node_laws.proofs.histories_of_schedules.commands_of_a_schedule_are_few.Goals as goal

pub returns-clause-bounded : goal.returns-clause-bounded
returns-clause-bounded c = bounded

pub returns-clause-lines : goal.returns-clause-lines
returns-clause-lines c = asking_few

pub returns-clause-few : goal.returns-clause-few
returns-clause-few c = are_few
