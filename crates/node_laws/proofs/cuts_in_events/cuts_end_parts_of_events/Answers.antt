use Rattle.node_laws.proofs.power.Events.{cuts_end}
use Rattle.node_laws.proofs.cuts_in_events.cuts_end_parts_of_events.Goals as goal

pub returns : goal.returns
returns c = record { ended = cuts_end }
