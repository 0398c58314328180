use Rattle.node_core.proofs.Beginning.{host_role, host_linked}
use Rattle.node_core.proofs.host.Host.boot.Goals as goal

pub returns-in-Ok-clause-runs : goal.returns-in-Ok-clause-runs
returns-in-Ok-clause-runs g c =
    let h = c.args.host in rw (host_role h c.requires.some, host_linked h 0 c.requires.some) at c.in-Ok.ensures.runs
