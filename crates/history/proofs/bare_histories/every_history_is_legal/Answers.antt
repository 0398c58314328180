use Rattle.history.proofs.legal.Sessions.{in_order, joined}
use Rattle.history.proofs.legal.Settled.{complete, settled}
use Rattle.history.proofs.bare_histories.every_history_is_legal.Goals as goal

pub returns-clause-in_order : goal.returns-clause-in_order
returns-clause-in_order c = in_order

pub returns-clause-joined : goal.returns-clause-joined
returns-clause-joined c = joined

pub returns-clause-complete : goal.returns-clause-complete
returns-clause-complete c = complete

pub returns-clause-settled : goal.returns-clause-settled
returns-clause-settled c = settled
