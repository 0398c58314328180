use Rattle.tables_laws.proofs.Words.{no_tables, refl}
use Rattle.tables_laws.proofs.tables.TwoHosts.{JoinTwo-after, JoinTwo-closed}
use Rattle.tables_laws.proofs.tables_changed.pipes_join_two_hosts.Goals as goal

pub returns-clause-commands : goal.returns-clause-commands
returns-clause-commands c = λ commands may. JoinTwo-after no_tables commands may refl

pub returns-clause-closed : goal.returns-clause-closed
returns-clause-closed c = λ t two. JoinTwo-closed t.rows two
