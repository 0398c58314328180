use Rattle.link_laws.proofs.entries.Running.{read_here, read_there}
use Rattle.link_laws.proofs.entry_order.sessions_are_read_off.Goals as goal

pub returns-clause-controller : goal.returns-clause-controller
returns-clause-controller c = read_here

pub returns-clause-host : goal.returns-clause-host
returns-clause-host c = read_there
