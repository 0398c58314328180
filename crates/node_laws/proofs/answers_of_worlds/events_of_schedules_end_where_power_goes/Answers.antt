use Rattle.node_laws.proofs.worlds.Schedules.{schedule_ends}
use Rattle.node_laws.proofs.answers_of_worlds.events_of_schedules_end_where_power_goes.Goals as goal

pub returns : goal.returns
returns c = record { ended = schedule_ends }
