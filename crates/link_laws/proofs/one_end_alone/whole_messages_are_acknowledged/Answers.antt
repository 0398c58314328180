use Rattle.link_laws.proofs.machine.Runs.{acked_all, acked_few, acked_offered}
use Rattle.link_laws.proofs.one_end_alone.whole_messages_are_acknowledged.Goals as goal

pub returns-clause-sent : goal.returns-clause-sent
returns-clause-sent c = acked_few

pub returns-clause-acknowledged : goal.returns-clause-acknowledged
returns-clause-acknowledged c = acked_all

pub returns-clause-offered : goal.returns-clause-offered
returns-clause-offered c = acked_offered
