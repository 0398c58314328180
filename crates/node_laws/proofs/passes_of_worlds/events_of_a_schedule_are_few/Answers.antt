use Rattle.node_laws.proofs.reply_passes.Roomy.{front_long}
use Rattle.node_laws.proofs.passes_of_worlds.events_of_a_schedule_are_few.Goals as goal

pub returns : goal.returns
returns c = front_long
