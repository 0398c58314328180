use Rattle.node_laws.proofs.worlds.Schedules.{played_legal}
use Rattle.node_laws.proofs.histories_of_schedules.every_played_history_is_legal.Goals as goal

pub returns : goal.returns
returns c = played_legal
