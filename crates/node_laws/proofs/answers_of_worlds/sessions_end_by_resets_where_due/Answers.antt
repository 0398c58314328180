use Rattle.node_laws.proofs.worlds.Due.{resets_due}
use Rattle.node_laws.proofs.worlds.Schedules.{schedule_resets}
use Rattle.node_laws.proofs.answers_of_worlds.sessions_end_by_resets_where_due.Goals as goal

pub returns-clause-histories : goal.returns-clause-histories
returns-clause-histories c = λ header lines t follows are playable sent sides few. resets_due header lines t follows are playable sent sides few

pub returns-clause-schedules : goal.returns-clause-schedules
returns-clause-schedules c = schedule_resets
