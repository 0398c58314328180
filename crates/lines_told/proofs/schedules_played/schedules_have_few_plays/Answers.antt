use Rattle.lines_told.proofs.lines.Told.{few_plays, few_rounds, few_said, plays_for}
use Rattle.lines_told.proofs.schedules_played.schedules_have_few_plays.Goals as goal

pub returns-clause-said : goal.returns-clause-said
returns-clause-said c = few_said

pub returns-clause-rounds : goal.returns-clause-rounds
returns-clause-rounds c = few_rounds

pub returns-clause-few : goal.returns-clause-few
returns-clause-few c = few_plays

pub returns-clause-each : goal.returns-clause-each
returns-clause-each c = plays_for
