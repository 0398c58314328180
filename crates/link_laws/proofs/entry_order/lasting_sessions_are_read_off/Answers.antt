use Rattle.link_laws.proofs.entries.Hearing.{controller_heard, host_heard}
use Rattle.link_laws.proofs.entry_order.lasting_sessions_are_read_off.Goals as goal

pub returns-clause-controller : goal.returns-clause-controller
returns-clause-controller c = controller_heard

pub returns-clause-host : goal.returns-clause-host
returns-clause-host c = host_heard
