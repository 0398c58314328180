use Rattle.node_laws.proofs.bounds.Begun.{passes_bounded, ticks_bounded}
use Rattle.node_laws.proofs.bounds.Paying.{bounded, events_bounded, front_asked, lines_bounded}
use Rattle.node_laws.proofs.bounds_of_commands.commands_are_bounded_by_what_is_asked_for.Goals as goal

pub returns-clause-causes : goal.returns-clause-causes
returns-clause-causes c = bounded

pub returns-clause-events : goal.returns-clause-events
returns-clause-events c = events_bounded

pub returns-clause-passes : goal.returns-clause-passes
returns-clause-passes c = passes_bounded

pub returns-clause-ticks : goal.returns-clause-ticks
returns-clause-ticks c = ticks_bounded

pub returns-clause-asked : goal.returns-clause-asked
returns-clause-asked c = front_asked

pub returns-clause-lines : goal.returns-clause-lines
returns-clause-lines c = lines_bounded
