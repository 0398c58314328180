use Rattle.node_laws.proofs.readings.Noticed.{event_up, late_resets, lines_up}
use Rattle.node_laws.proofs.notices_and_commands.unanswered_notices_stand_at_links_that_are_up.Goals as goal

pub returns : goal.returns
returns c = record { event = event_up; histories = lines_up; late = late_resets }
