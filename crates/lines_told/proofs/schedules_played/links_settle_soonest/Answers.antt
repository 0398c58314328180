use Rattle.lines_told.proofs.lines.Told.{at_most, moves_before, nodes_come_to_rest, rests_then}
use Rattle.lines_told.proofs.schedules_played.links_settle_soonest.Goals as goal

pub returns-clause-most : goal.returns-clause-most
returns-clause-most c = at_most

pub returns-clause-rests : goal.returns-clause-rests
returns-clause-rests c = rests_then

pub returns-clause-moves : goal.returns-clause-moves
returns-clause-moves c = moves_before

pub returns-clause-nodes : goal.returns-clause-nodes
returns-clause-nodes c = nodes_come_to_rest
