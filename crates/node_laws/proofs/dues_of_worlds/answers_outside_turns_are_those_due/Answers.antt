use Rattle.node_laws.proofs.worlds.Schedules.{schedule_dues}
use Rattle.node_laws.proofs.dues_of_worlds.answers_outside_turns_are_those_due.Goals as goal

pub returns : goal.returns
returns c = record { due = schedule_dues }
